-- What a section puts into the module.
use Rattle.std.proofs.Common.{◌≡◌, ℕ, ◌<◌, Bool, true, false, List, [], length, drop, Option, Some, None, Result, Ok, Err, refl, sym, ap, subst, ◌∙◌, arith}
use Rattle.std.specs.Prelude.{All, IsUtf8, bytes_eq, codes, if◌then◌else◌}
use Rattle.wasm_types.specs.declared.module.FuncType.{FuncType}
use Rattle.wasm_types.specs.declared.module.Limits.{Limits}
use Rattle.wasm_types.specs.declared.module.Name.{Name}
use Rattle.wasm_types.specs.declared.module.Import.{Import}
use Rattle.wasm_types.specs.declared.module.GlobalDef.{GlobalDef}
use Rattle.wasm_types.specs.declared.module.Export.{Export}
use Rattle.wasm_types.specs.declared.module.Elem.{Elem}
use Rattle.wasm_types.specs.declared.module.Body.{Body}
use Rattle.wasm_types.specs.declared.module.DataSegment.{DataSegment}
use Rattle.wasm_types.specs.declared.module.Module.{Module}
use Rattle.wasm_types.specs.Standing.{Stands, NoneStands}
use Rattle.wasm_types.specs.Numbers.{SpellsU32}
use Rattle.wasm_types.specs.Parts.{Counted, Sized, Within}
use Rattle.wasm_types.specs.Types.{SpellsFuncType, SpellsLimits, SpellsTableType}
use Rattle.wasm_types.specs.Sections.{SpellsName, SpellsCustom, SpellsTypes, SpellsImport, SpellsImports, SpellsFuncs, SpellsTables, SpellsMems, SpellsGlobal, SpellsGlobals, SpellsExport, SpellsExports, SpellsElem, SpellsElems, SpellsBody, SpellsBodies, SpellsSegment, SpellsSegments}
use Rattle.wasm_types.specs.Modules.{named_payload, later_of}
use Rattle.text_laws.proofs.Once.{IsOnce}
use Rattle.text_laws.proofs.ModuleLemmas.{not_whole, none_whole}
use Rattle.text_laws.proofs.Once.{once_counted}
use Rattle.code_decode.specs.declared.outcome.Stop.{Stop}
use Rattle.code_decode.specs.declared.outcome.Stop.TheVariants as stop
use Rattle.wasm_decode.specs.declared.list.Entries.{Entries}
use Rattle.wasm_decode.specs.Depth.{IsShallowGlobal, IsShallowElem, IsShallowBody, IsShallowSegment}
use Rattle.wasm_decode.specs.Entries.{Rule, ReadsEntries, FirstNot}
use Rattle.wasm_decode.specs.Contents.{Contents, custom, types, imports, funcs, tables, mems, globals, exports, start, elems, bodies, segments, section_id, SpellsContents, SpellsSection, IsSpelled, IsShallowContents, DeepAt, Keeps, ReadsCustom, ReadsSection, put}
use Rattle.wasm_decode.specs.Entries.{Any}

-- ---- a vector to the end of its text

pub whole_short : {A : Type 0} (P : Rule A) (S : A → Type 0) (text : List ℕ) (end : ℕ) (found : Entries A) → IsOnce P
    → ReadsEntries P S text 0 (Ok (found, end)) → end < length text
    → (xs : List A) → Counted P text xs → ⊥
whole_short P S text end found once h lt xs p = not_whole (Counted P) text end h.0 xs (once_counted P once) h.1 lt p

pub whole_stops : {A : Type 0} (P : Rule A) (S : A → Type 0) (text : List ℕ) (kept : List A) (e : Stop) → ReadsEntries P S text 0 (Err e)
    → Keeps P S text kept (Err e)
whole_stops P S text kept stop.No none = λ xs p. none_whole (Counted P) text xs none p
whole_stops P S text kept stop.Memory none = tt

-- ---- a section of a known id

-- what contents of the same kind are spelled
abbrev IsSpelledLike : Contents → List ℕ → Type 0
IsSpelledLike (custom name payload) text = (v : Name × List ℕ) × SpellsCustom text v
IsSpelledLike (types xs) text = (v : List FuncType) × SpellsTypes text v
IsSpelledLike (imports xs) text = (v : List Import) × SpellsImports text v
IsSpelledLike (funcs xs) text = (v : List ℕ) × SpellsFuncs text v
IsSpelledLike (tables xs) text = (v : List Limits) × SpellsTables text v
IsSpelledLike (mems xs) text = (v : List Limits) × SpellsMems text v
IsSpelledLike (globals xs) text = (v : List GlobalDef) × SpellsGlobals text v
IsSpelledLike (exports xs) text = (v : List Export) × SpellsExports text v
IsSpelledLike (start func) text = (v : ℕ) × SpellsU32 text v
IsSpelledLike (elems xs) text = (v : List Elem) × SpellsElems text v
IsSpelledLike (bodies xs) text = (v : List Body) × SpellsBodies text v
IsSpelledLike (segments xs) text = (v : List DataSegment) × SpellsSegments text v

-- the id tells the kind
pub only : (text : List ℕ) (d c : Contents) → section_id c ≡ section_id d → SpellsContents text c → IsSpelledLike d text
only text (custom x y) (custom name payload) e p = ((name, payload), p)
only text (types x) (types v) e p = (v, p)
only text (imports x) (imports v) e p = (v, p)
only text (funcs x) (funcs v) e p = (v, p)
only text (tables x) (tables v) e p = (v, p)
only text (mems x) (mems v) e p = (v, p)
only text (globals x) (globals v) e p = (v, p)
only text (exports x) (exports v) e p = (v, p)
only text (start x) (start v) e p = (v, p)
only text (elems x) (elems v) e p = (v, p)
only text (bodies x) (bodies v) e p = (v, p)
only text (segments x) (segments v) e p = (v, p)
only text _ _ e p = absurd (omega (arith, e))

-- a section of the id has a list of these, some of which nest too deep
pub record IsListed {A : Type 0} (P : Rule A) (S : A → Type 0) (id : ℕ) (make : List A → Contents) : Type 0 where
  pub spells : (text : List ℕ) (xs : List A) → Counted P text xs → SpellsSection (id, text) (make xs)
  pub only_these : (text : List ℕ) → IsSpelled (id, text) → (xs : List A) × Counted P text xs
  pub shallow : (xs : List A) → All S xs → IsShallowContents (make xs)
  pub deep : (xs : List A) (entry : ℕ) → FirstNot S xs entry → DeepAt (make xs) entry

pub types_listed : IsListed SpellsFuncType Any 1 types
types_listed = record {
  spells = λ text xs p. (refl, p);
  only_these = λ text s. only text (types []) s.0 s.1.0 s.1.1;
  shallow = λ xs h. tt;
  deep = λ xs entry d. absurd (d.not_so tt);
}

pub imports_listed : IsListed SpellsImport Any 2 imports
imports_listed = record {
  spells = λ text xs p. (refl, p);
  only_these = λ text s. only text (imports []) s.0 s.1.0 s.1.1;
  shallow = λ xs h. tt;
  deep = λ xs entry d. absurd (d.not_so tt);
}

pub funcs_listed : IsListed SpellsU32 Any 3 funcs
funcs_listed = record {
  spells = λ text xs p. (refl, p);
  only_these = λ text s. only text (funcs []) s.0 s.1.0 s.1.1;
  shallow = λ xs h. tt;
  deep = λ xs entry d. absurd (d.not_so tt);
}

pub tables_listed : IsListed SpellsTableType Any 4 tables
tables_listed = record {
  spells = λ text xs p. (refl, p);
  only_these = λ text s. only text (tables []) s.0 s.1.0 s.1.1;
  shallow = λ xs h. tt;
  deep = λ xs entry d. absurd (d.not_so tt);
}

pub mems_listed : IsListed SpellsLimits Any 5 mems
mems_listed = record {
  spells = λ text xs p. (refl, p);
  only_these = λ text s. only text (mems []) s.0 s.1.0 s.1.1;
  shallow = λ xs h. tt;
  deep = λ xs entry d. absurd (d.not_so tt);
}

pub globals_listed : IsListed SpellsGlobal IsShallowGlobal 6 globals
globals_listed = record {
  spells = λ text xs p. (refl, p);
  only_these = λ text s. only text (globals []) s.0 s.1.0 s.1.1;
  shallow = λ xs h. h;
  deep = λ xs entry d. d;
}

pub exports_listed : IsListed SpellsExport Any 7 exports
exports_listed = record {
  spells = λ text xs p. (refl, p);
  only_these = λ text s. only text (exports []) s.0 s.1.0 s.1.1;
  shallow = λ xs h. tt;
  deep = λ xs entry d. absurd (d.not_so tt);
}

pub elems_listed : IsListed SpellsElem IsShallowElem 9 elems
elems_listed = record {
  spells = λ text xs p. (refl, p);
  only_these = λ text s. only text (elems []) s.0 s.1.0 s.1.1;
  shallow = λ xs h. h;
  deep = λ xs entry d. d;
}

pub bodies_listed : IsListed (Within SpellsBody) IsShallowBody 10 bodies
bodies_listed = record {
  spells = λ text xs p. (refl, p);
  only_these = λ text s. only text (bodies []) s.0 s.1.0 s.1.1;
  shallow = λ xs h. h;
  deep = λ xs entry d. d;
}

pub segments_listed : IsListed SpellsSegment IsShallowSegment 11 segments
segments_listed = record {
  spells = λ text xs p. (refl, p);
  only_these = λ text s. only text (segments []) s.0 s.1.0 s.1.1;
  shallow = λ xs h. h;
  deep = λ xs entry d. d;
}

listed : {A : Type 0} (P : Rule A) (S : A → Type 0) (id : ℕ) (make : List A → Contents) → IsListed P S id make
    → (text : List ℕ) (old : Module) (kept : List A) (r : Result (Option ℕ) Stop)
    → Keeps P S text kept r → ReadsSection id text old (put (make kept) old) r
listed {A} P S id make l text old kept (Ok None) h = (make h.0, l.spells text h.0 h.1, (ap (λ (xs : List A). put (make xs) old) h.2.0, l.shallow h.0 h.2.1))
listed P S id make l text old kept (Ok (Some entry)) h = (make h.0, l.spells text h.0 h.1, l.deep h.0 entry h.2)
listed P S id make l text old kept (Err stop.No) none = λ s. let c = l.only_these text s in none c.0 c.1
listed P S id make l text old kept (Err stop.Memory) none = tt

pub section_listed : {A : Type 0} {P : Rule A} {S : A → Type 0} {i : ℕ} {make : List A → Contents} → IsListed P S i make
    → (id : ℕ) (text : List ℕ) (old : Module) (kept : List A) (r : Result (Option ℕ) Stop) → id ≡ i → Keeps P S text kept r
    → ReadsSection id text old (put (make kept) old) r
section_listed {A} {P} {S} {i} {make} l id text old kept r e h = subst (λ (n : ℕ). ReadsSection n text old (put (make kept) old) r) (sym e)
    (listed P S i make l text old kept r h)

pub section_start : (text : List ℕ) (old : Module) (func : ℕ) → SpellsU32 text func → ReadsSection 8 text old (put (start func) old) (Ok None)
section_start text old func p = (start func, (refl, p), (refl, tt))

pub section_custom : (text : List ℕ) (old : Module) (names : Option (List ℕ)) → ReadsCustom text old.names names (Ok tt)
    → ReadsSection 0 text old (record old { names = names }) (Ok None)
section_custom text old names h = (custom h.0 h.1, (refl, h.2), (ap (λ (n : Option (List ℕ)). record old { names = n }) h.3, tt))

pub at_id : (i id : ℕ) (text : List ℕ) (old new : Module) (r : Result (Option ℕ) Stop) → id ≡ i → ReadsSection i text old new r
    → ReadsSection id text old new r
at_id i id text old new r e h = subst (λ (n : ℕ). ReadsSection n text old new r) (sym e) h

-- ---- a custom section

custom_spelled : (text : List ℕ) (end : ℕ) (part : List ℕ) → Stands Sized text 0 end part → IsUtf8 part
    → SpellsCustom text (record { bytes = part }, drop end text)
custom_spelled text end part s utf8 = record { front = s.text; back = drop end text; parts = s.here; first = (s.spelled, utf8); second = refl }

payload_kept : (part rest : List ℕ) (old : Option (List ℕ)) (named : Bool) → named ≡ bytes_eq part (codes "name") → named ≡ true
    → Some rest ≡ later_of (named_payload (record { bytes = part }, rest)) old
payload_kept part rest old named e t = let h : bytes_eq part (codes "name") ≡ true = sym e ∙ t in
    ap (λ (b : Bool). later_of (if b then Some rest else None) old) (sym h)

payload_other : (part rest : List ℕ) (old : Option (List ℕ)) (named : Bool) → named ≡ bytes_eq part (codes "name") → named ≡ false
    → old ≡ later_of (named_payload (record { bytes = part }, rest)) old
payload_other part rest old named e f = let h : bytes_eq part (codes "name") ≡ false = sym e ∙ f in
    ap (λ (b : Bool). later_of (if b then Some rest else None) old) (sym h)

pub custom_named : (text : List ℕ) (end : ℕ) (part kept : List ℕ) (old : Option (List ℕ)) (named : Bool) → Stands Sized text 0 end part → IsUtf8 part
    → named ≡ bytes_eq part (codes "name") → named ≡ true → kept ≡ drop end text
    → ReadsCustom text old (Some kept) (Ok tt)
custom_named text end part kept old named s utf8 e t is = (
  record { bytes = part },
  drop end text,
  custom_spelled text end part s utf8,
  ap (λ (k : List ℕ). Some k) is ∙ payload_kept part (drop end text) old named e t,
)

pub custom_other : (text : List ℕ) (end : ℕ) (part : List ℕ) (old : Option (List ℕ)) (named : Bool) → Stands Sized text 0 end part → IsUtf8 part
    → named ≡ bytes_eq part (codes "name") → named ≡ false → ReadsCustom text old old (Ok tt)
custom_other text end part old named s utf8 e f = (
  record { bytes = part },
  drop end text,
  custom_spelled text end part s utf8,
  payload_other part (drop end text) old named e f,
)

pub custom_none : (text : List ℕ) → NoneStands SpellsName text 0 → (name : Name) (payload : List ℕ) → SpellsCustom text (name, payload) → ⊥
custom_none text none name payload p = none p.front p.back name p.parts p.first
