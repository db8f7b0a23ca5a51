-- The canonical spelling of a module is a spelling of it.
use Rattle.std.proofs.Common.{◌≡◌, ◌==◌, ℕ, ◌<◌, ◌^◌, ◌≤◌, max, inl, inr, false, List, [], ◌∷◌, ◌++◌, length, Option, Some, None, refl, sym, ap, subst, ◌∙◌, append_assoc, arith, rules}
use Rattle.std.specs.Prelude.{All, IfSome, codes, if◌then◌else◌}
use Rattle.std.proofs.lemmas.Str.{IsUtf8-from_ascii}
use Rattle.std.proofs.lemmas.List.{append-nil}
use Rattle.std.proofs.lemmas.Bool.Decides.{nat_tests}
use Rattle.wasm_types.specs.declared.module.FuncType.{FuncType}
use Rattle.wasm_types.specs.declared.module.Name.{Name}
use Rattle.wasm_types.specs.declared.module.Module.{Module}
use Rattle.wasm_types.specs.Numbers.{SpellsU32, shortest_u32}
use Rattle.wasm_types.specs.Parts.{Each, Counted, Within}
use Rattle.wasm_types.specs.Types.{SpellsFuncType, SpellsLimits, SpellsTableType}
use Rattle.wasm_types.specs.Sections.{SpellsCustom, SpellsTypes, SpellsImport, SpellsImports, SpellsFuncs, SpellsTables, SpellsMems, SpellsGlobal, SpellsGlobals, SpellsExport, SpellsExports, SpellsElem, SpellsElems, SpellsBody, SpellsBodies, SpellsSegment, SpellsSegments}
use Rattle.wasm_types.specs.Modules.{header, SpellsFrame, InOrder, contents_of, ListIs, OptionIs, NamesAre, Spells}
use Rattle.wasm_types.specs.WellFormed.{IsU32, ProperLimits, ProperImport, ProperGlobal, ProperExport, ProperElem, ProperBody, ProperSegment, IsWellFormed}
use Rattle.wasm_types.specs.Canon.{canon_counted, canon_sized, canon_func_type, canon_limits, canon_table_type, canon_import, canon_global, canon_export, canon_elem, canon_entry, canon_segment, canon_section, canon_list, canon_start, canon_names, canon}
use Rattle.text_laws.proofs.CanonLemmas.{left, right, IsSpelled, Any, any_of, u32_spelled, spelled_u32, some_u32, counted_spelled, sized_spelled, spelled_func_type, some_func_type, spelled_import, some_import, spelled_table_type, some_table_type, spelled_limits, some_limits, spelled_global, some_global, spelled_export, some_export, spelled_elem, some_elem, spelled_entry, some_entry, spelled_segment, some_segment}

-- ---- the sections of a module, each there or not

-- the contents of the section of a list
abbrev pub contents_for : {A : Type 0} → (A → List ℕ) → List A → Option (List ℕ)
contents_for f [] = None
contents_for f (x ∷ xs) = Some (canon_counted f (x ∷ xs))

abbrev pub start_for : Option ℕ → Option (List ℕ)
start_for None = None
start_for (Some func) = Some (shortest_u32 func)

abbrev pub names_for : Option (List ℕ) → List (ℕ × List ℕ)
names_for None = []
names_for (Some payload) = (0, canon_sized (codes "name") ++ payload) ∷ []

-- a section that may be absent, as its text, and before other sections
abbrev pub part : ℕ → Option (List ℕ) → List ℕ
part id None = []
part id (Some contents) = canon_section id contents

abbrev put : ℕ → Option (List ℕ) → List (ℕ × List ℕ) → List (ℕ × List ℕ)
put id None fs = fs
put id (Some contents) fs = (id, contents) ∷ fs

abbrev texts_of : List ℕ → List (ℕ × Option (List ℕ)) → List ℕ
texts_of tail [] = tail
texts_of tail (p ∷ ps) = part p.0 p.1 ++ texts_of tail ps

abbrev frames_of : List (ℕ × List ℕ) → List (ℕ × Option (List ℕ)) → List (ℕ × List ℕ)
frames_of tail [] = tail
frames_of tail (p ∷ ps) = put p.0 p.1 (frames_of tail ps)

-- the ids rise, from one that is greater than the last
abbrev Rising : ℕ → List (ℕ × Option (List ℕ)) → Type 0
Rising last [] = Unit {0}
Rising last (p ∷ ps) = (last < p.0) × (p.0 ≤ 11) × Rising p.0 ps

abbrev look : ℕ → List (ℕ × Option (List ℕ)) → Option (List ℕ)
look id [] = None
look id (p ∷ ps) = if p.0 == id then p.1 else look id ps

lower : (j k : ℕ) (ps : List (ℕ × Option (List ℕ))) → j ≤ k → Rising k ps → Rising j ps
lower j k [] le h = tt
lower j k (p ∷ ps) le h = (omega (arith, h.0), h.1, h.2)

-- ---- their frames

frame_spelled : (id : ℕ) (contents : List ℕ) → length (canon_section id contents) < 2 ^ 32 → SpellsFrame (canon_section id contents) (id, contents)
frame_spelled id contents lt = record { rest = canon_sized contents; parts = refl; spelled = sized_spelled contents (omega arith) }

put_spelled : (id : ℕ) (o : Option (List ℕ)) (text : List ℕ) (fs : List (ℕ × List ℕ)) → length (part id o ++ text) < 2 ^ 32 → Each SpellsFrame text fs
    → Each SpellsFrame (part id o ++ text) (put id o fs)
put_spelled id None text fs lt h = h
put_spelled id (Some contents) text fs lt h = record { front = canon_section id contents; back = text; parts = refl; first = frame_spelled id contents (left (canon_section id contents) text lt); second = h }

frames_spelled : (text : List ℕ) (tail : List (ℕ × List ℕ)) (ps : List (ℕ × Option (List ℕ))) → (length text < 2 ^ 32 → Each SpellsFrame text tail)
    → length (texts_of text ps) < 2 ^ 32 → Each SpellsFrame (texts_of text ps) (frames_of tail ps)
frames_spelled text tail [] h lt = h lt
frames_spelled text tail (p ∷ ps) h lt =
    put_spelled p.0 p.1 (texts_of text ps) (frames_of tail ps) lt (frames_spelled text tail ps h (right (part p.0 p.1) (texts_of text ps) lt))

names_spelled : (names : Option (List ℕ)) → length (canon_names names) < 2 ^ 32 → Each SpellsFrame (canon_names names) (names_for names)
names_spelled None lt = refl
names_spelled (Some payload) lt =
    let contents : List ℕ = canon_sized (codes "name") ++ payload in
    record { front = canon_section 0 contents; back = []; parts = sym (append-nil (canon_section 0 contents)); first = frame_spelled 0 contents lt; second = refl }

-- ---- their order

put_ordered : (last id : ℕ) (o : Option (List ℕ)) (fs : List (ℕ × List ℕ)) → last < id → id ≤ 11 → (final : ℕ) × InOrder last fs final
    → (final : ℕ) × InOrder id fs final → (final : ℕ) × InOrder last (put id o fs) final
put_ordered last id None fs lt le low high = low
put_ordered last id (Some contents) fs lt le low high = (high.0, (inr (lt, le), subst (λ (k : ℕ). InOrder k fs high.0) (let e : id ≡ max last id = omega arith in e) high.1))

frames_ordered : (last : ℕ) (tail : List (ℕ × List ℕ)) (ps : List (ℕ × Option (List ℕ))) → ((k : ℕ) → (final : ℕ) × InOrder k tail final)
    → Rising last ps → (final : ℕ) × InOrder last (frames_of tail ps) final
frames_ordered last tail [] h r = h last
frames_ordered last tail (p ∷ ps) h r = put_ordered last p.0 p.1 (frames_of tail ps) r.0 r.1 (frames_ordered last tail ps h (lower last p.0 ps (omega (arith, r.0)) r.2)) (frames_ordered p.0 tail ps h r.2)

names_ordered : (names : Option (List ℕ)) (k : ℕ) → (final : ℕ) × InOrder k (names_for names) final
names_ordered None k = (k, refl)
names_ordered (Some payload) k = (max k 0, (inl refl, refl))

-- ---- their contents

absent : (id last : ℕ) (ps : List (ℕ × Option (List ℕ))) → id ≤ last → Rising last ps → look id ps ≡ None
absent id last [] le r = refl
absent id last (p ∷ ps) le r =
    let off : (p.0 == id) ≡ false = grind (arith, nat_tests, r.0) in
    rw off (absent id p.0 ps (omega (arith, r.0)) r.2)

put_found : (id k : ℕ) (o rest : Option (List ℕ)) (fs : List (ℕ × List ℕ)) → contents_of id fs ≡ rest → (k ≡ id → rest ≡ None)
    → contents_of id (put k o fs) ≡ (if k == id then o else rest)
put_found id k None rest fs e none = e ∙ grind (arith, nat_tests, none)
put_found id k (Some contents) rest fs e none = ap (λ (r : Option (List ℕ)). if k == id then Some contents else r) e

found : (id last : ℕ) (tail : List (ℕ × List ℕ)) (ps : List (ℕ × Option (List ℕ))) → contents_of id tail ≡ None → Rising last ps
    → contents_of id (frames_of tail ps) ≡ look id ps
found id last tail [] none r = none
found id last tail (p ∷ ps) none r =
    put_found id p.0 p.1 (look id ps) (frames_of tail ps) (found id p.0 tail ps none r.2) (λ e. absent id p.0 ps (omega (arith, e)) r.2)

names_apart : (id : ℕ) (names : Option (List ℕ)) → 0 < id → contents_of id (names_for names) ≡ None
names_apart id None lt = refl
names_apart id (Some payload) lt = let off : (0 == id) ≡ false = grind (arith, nat_tests) in rw off refl

-- ---- their names

put_named : (id : ℕ) (o : Option (List ℕ)) (fs : List (ℕ × List ℕ)) (names : Option (List ℕ)) → 0 < id → NamesAre fs names → NamesAre (put id o fs) names
put_named id None fs names lt h = h
put_named id (Some contents) fs names lt h = (names, h, inl (λ e. omega (arith, e), refl))

frames_named : (last : ℕ) (tail : List (ℕ × List ℕ)) (ps : List (ℕ × Option (List ℕ))) (names : Option (List ℕ)) → NamesAre tail names
    → Rising last ps → NamesAre (frames_of tail ps) names
frames_named last tail [] names h r = h
frames_named last tail (p ∷ ps) names h r = put_named p.0 p.1 (frames_of tail ps) names (omega (arith, r.0)) (frames_named p.0 tail ps names h r.2)

abbrev name_of : List ℕ → Name
name_of bytes = record { bytes = bytes }

tail_named : (names : Option (List ℕ)) → length (canon_names names) < 2 ^ 32 → NamesAre (names_for names) names
tail_named None lt = refl
tail_named (Some payload) lt =
    let contents : List ℕ = canon_sized (codes "name") ++ payload in
    let sized : length (canon_sized contents) < 2 ^ 32 = omega arith in
    let fits = left (canon_sized (codes "name")) payload (right (shortest_u32 (length contents)) contents sized) in
    let custom : SpellsCustom (canon_sized (codes "name") ++ payload) (name_of (codes "name"), payload) = record {
      front = canon_sized (codes "name");
      back = payload;
      parts = refl;
      first = (sized_spelled (codes "name") fits, IsUtf8-from_ascii (codes "name") (search rules));
      second = refl;
    } in
    (None, refl, inr (refl, (name_of (codes "name"), payload), custom, refl))

-- ---- the module

abbrev parts_of : Module → List (ℕ × Option (List ℕ))
parts_of m =
    (1, contents_for canon_func_type m.types) ∷ (2, contents_for canon_import m.imports) ∷ (3, contents_for shortest_u32 m.funcs) ∷ (4, contents_for canon_table_type m.tables)
    ∷ (5, contents_for canon_limits m.mems) ∷ (6, contents_for canon_global m.globals) ∷ (7, contents_for canon_export m.exports) ∷ (8, start_for m.start)
    ∷ (9, contents_for canon_elem m.elems) ∷ (10, contents_for canon_entry m.bodies) ∷ (11, contents_for canon_segment m.segments) ∷ []

abbrev sections_of : Module → List ℕ
sections_of m = texts_of (canon_names m.names) (parts_of m)

pub list_part : {A : Type 0} (id : ℕ) (f : A → List ℕ) (xs : List A) → canon_list id f xs ≡ part id (contents_for f xs)
list_part id f [] = refl
list_part id f (x ∷ xs) = refl

start_part : (start : Option ℕ) → canon_start start ≡ part 8 (start_for start)
start_part None = refl
start_part (Some func) = refl

join : (a b c d : List ℕ) → a ≡ b → c ≡ d → a ++ c ≡ b ++ d
join a b c d p q = ap (λ (t : List ℕ). t ++ c) p ∙ ap (λ (t : List ℕ). b ++ t) q

nest : (h a b c d e f g i j k l n : List ℕ)
    → h ++ a ++ b ++ c ++ d ++ e ++ f ++ g ++ i ++ j ++ k ++ l ++ n ≡ h ++ (a ++ (b ++ (c ++ (d ++ (e ++ (f ++ (g ++ (i ++ (j ++ (k ++ (l ++ n)))))))))))
nest h a b c d e f g i j k l n = simp append_assoc refl

canon_parts : (m : Module) → canon m ≡ header ++ sections_of m
canon_parts m =
    nest header (canon_list 1 canon_func_type m.types) (canon_list 2 canon_import m.imports) (canon_list 3 shortest_u32 m.funcs) (canon_list 4 canon_table_type m.tables) (canon_list 5 canon_limits m.mems) (canon_list 6 canon_global m.globals)
    (canon_list 7 canon_export m.exports) (canon_start m.start) (canon_list 9 canon_elem m.elems) (canon_list 10 canon_entry m.bodies) (canon_list 11 canon_segment m.segments) (canon_names m.names)
    ∙ ap (λ (t : List ℕ). header ++ t) (join _ _ _ _ (list_part 1 canon_func_type m.types) (join _ _ _ _ (list_part 2 canon_import m.imports) (join _ _ _ _ (list_part 3 shortest_u32 m.funcs) (join _ _ _ _ (list_part 4 canon_table_type m.tables)
    (join _ _ _ _ (list_part 5 canon_limits m.mems) (join _ _ _ _ (list_part 6 canon_global m.globals) (join _ _ _ _ (list_part 7 canon_export m.exports) (join _ _ _ _ (start_part m.start) (join _ _ _ _ (list_part 9 canon_elem m.elems)
    (join _ _ _ _ (list_part 10 canon_entry m.bodies) (ap (λ (t : List ℕ). t ++ canon_names m.names) (list_part 11 canon_segment m.segments))))))))))))

rising : (m : Module) → Rising 0 (parts_of m)
rising m = (omega arith, omega arith, (omega arith, omega arith, (omega arith, omega arith, (omega arith, omega arith, (omega arith, omega arith, (omega arith, omega arith, (omega arith, omega arith, (omega arith, omega arith, (omega arith, omega arith, (omega arith, omega arith, (omega arith, omega arith, tt)))))))))))

list_spelled : {A : Type 0} (P : List ℕ → A → Type 0) (f : A → List ℕ) (Q : A → Type 0) (id : ℕ) → IsSpelled P f Q → ((x : A) → 1 ≤ length (f x))
    → (xs : List A) → All Q xs → length (part id (contents_for f xs)) < 2 ^ 32 → ListIs (Counted P) xs (contents_for f xs)
list_spelled P f Q id law some [] h lt = refl
list_spelled P f Q id law some (x ∷ xs) h lt = counted_spelled P f Q law some (x ∷ xs) h (let text : List ℕ = canon_counted f (x ∷ xs) in let sized : length (canon_sized text) < 2 ^ 32 = omega arith in right (shortest_u32 (length text)) text sized)

start_spelled : (start : Option ℕ) → IfSome start IsU32 → OptionIs SpellsU32 start (start_for start)
start_spelled None h = refl
start_spelled (Some func) h = u32_spelled func h

pub canon_spelled : (m : Module) → IsWellFormed m → length (canon m) < 2 ^ 32 → Spells (canon m) m
canon_spelled m well lt =
    let tail : List (ℕ × List ℕ) = names_for m.names in
    let whole : length (header ++ sections_of m) < 2 ^ 32 = subst (λ (t : List ℕ). length t < 2 ^ 32) (canon_parts m) lt in
    let from_1 : length (sections_of m) < 2 ^ 32 = right header _ whole in
    let from_2 = right (part 1 (contents_for canon_func_type m.types)) _ from_1 in
    let from_3 = right (part 2 (contents_for canon_import m.imports)) _ from_2 in
    let from_4 = right (part 3 (contents_for shortest_u32 m.funcs)) _ from_3 in
    let from_5 = right (part 4 (contents_for canon_table_type m.tables)) _ from_4 in
    let from_6 = right (part 5 (contents_for canon_limits m.mems)) _ from_5 in
    let from_7 = right (part 6 (contents_for canon_global m.globals)) _ from_6 in
    let from_8 = right (part 7 (contents_for canon_export m.exports)) _ from_7 in
    let from_9 = right (part 8 (start_for m.start)) _ from_8 in
    let from_10 = right (part 9 (contents_for canon_elem m.elems)) _ from_9 in
    let from_11 = right (part 10 (contents_for canon_entry m.bodies)) _ from_10 in
    let last = right (part 11 (contents_for canon_segment m.segments)) _ from_11 in
    let order = frames_ordered 0 tail (parts_of m) (names_ordered m.names) (rising m) in
    let at : (id : ℕ) → 0 < id → look id (parts_of m) ≡ contents_of id (frames_of tail (parts_of m)) = λ id some. sym (found id 0 tail (parts_of m) (names_apart id m.names some) (rising m)) in
    record {
      rest = sections_of m;
      begun = canon_parts m;
      frames = frames_of tail (parts_of m);
      final = order.0;
      framed = (frames_spelled (canon_names m.names) tail (parts_of m) (names_spelled m.names) from_1, order.1);
      types = subst (ListIs SpellsTypes m.types) (at 1 (omega arith)) (list_spelled SpellsFuncType canon_func_type (λ (t : FuncType). Any t) 1 spelled_func_type some_func_type m.types (any_of m.types) (left _ _ from_1));
      imports = subst (ListIs SpellsImports m.imports) (at 2 (omega arith)) (list_spelled SpellsImport canon_import ProperImport 2 spelled_import some_import m.imports well.imports (left _ _ from_2));
      funcs = subst (ListIs SpellsFuncs m.funcs) (at 3 (omega arith)) (list_spelled SpellsU32 shortest_u32 IsU32 3 spelled_u32 some_u32 m.funcs well.funcs (left _ _ from_3));
      tables = subst (ListIs SpellsTables m.tables) (at 4 (omega arith)) (list_spelled SpellsTableType canon_table_type ProperLimits 4 spelled_table_type some_table_type m.tables well.tables (left _ _ from_4));
      mems = subst (ListIs SpellsMems m.mems) (at 5 (omega arith)) (list_spelled SpellsLimits canon_limits ProperLimits 5 spelled_limits some_limits m.mems well.mems (left _ _ from_5));
      globals = subst (ListIs SpellsGlobals m.globals) (at 6 (omega arith)) (list_spelled SpellsGlobal canon_global ProperGlobal 6 spelled_global some_global m.globals well.globals (left _ _ from_6));
      exports = subst (ListIs SpellsExports m.exports) (at 7 (omega arith)) (list_spelled SpellsExport canon_export ProperExport 7 spelled_export some_export m.exports well.exports (left _ _ from_7));
      start = subst (OptionIs SpellsU32 m.start) (at 8 (omega arith)) (start_spelled m.start well.start);
      elems = subst (ListIs SpellsElems m.elems) (at 9 (omega arith)) (list_spelled SpellsElem canon_elem ProperElem 9 spelled_elem some_elem m.elems well.elems (left _ _ from_9));
      bodies = subst (ListIs SpellsBodies m.bodies) (at 10 (omega arith)) (list_spelled (Within SpellsBody) canon_entry ProperBody 10 spelled_entry some_entry m.bodies well.bodies (left _ _ from_10));
      segments = subst (ListIs SpellsSegments m.segments) (at 11 (omega arith)) (list_spelled SpellsSegment canon_segment ProperSegment 11 spelled_segment some_segment m.segments well.segments (left _ _ from_11));
      names = frames_named 0 tail (parts_of m) m.names (tail_named m.names last) (rising m);
      same = well.same;
    }
