-- The module, section by section.
use Rattle.std.proofs.Common.{◌≡◌, ◌≢◌, ◌==◌, ℕ, ◌+◌, ◌<◌, ◌⊎◌, inl, inr, max, Bool, true, false, List, [], ◌∷◌, ◌++◌, length, get_or, take, drop, drop-cons, add-one, lit<, Option, Some, None, Ok, Err, refl, sym, ap, subst, ◌∙◌, arith}
use Rattle.std.specs.Prelude.{All, map, slice_range, if◌then◌else◌}
use Rattle.std.specs.List.{slice_get}
use Rattle.std.proofs.lemmas.Option.{slice_get_within}
use Rattle.std.proofs.lemmas.List.Elements.{All-push}
use Rattle.std.proofs.lemmas.List.{append-nil, map-append, length-map, length-take-le, take-append-drop, take_more}
use Rattle.std.proofs.Math.Seq.{take-length}
use Rattle.std.proofs.lemmas.Bool.Decides.{nat_tests}
use Rattle.wasm_types.specs.declared.module.Module.{Module}
use Rattle.wasm_types.specs.declared.module.Name.{Name}
use Rattle.wasm_types.specs.Numbers.{SpellsU32}
use Rattle.wasm_types.specs.Sections.{SpellsCustom, SpellsTypes, SpellsImports, SpellsFuncs, SpellsTables, SpellsMems, SpellsGlobals, SpellsExports, SpellsElems, SpellsBodies, SpellsSegments}
use Rattle.wasm_types.specs.Modules.{InOrder, Sections, Spells, contents_of, ListIs, OptionIs, NamesAre, named_payload, later_of}
use Rattle.wasm_types.specs.Subset.{NestsAtMost, most_nesting}
use Rattle.text_laws.proofs.ModuleLemmas.{drop_all}
use Rattle.code_decode.specs.declared.outcome.Stop.{Stop}
use Rattle.code_decode.specs.declared.outcome.Stop.TheVariants as no
use Rattle.wasm_decode.specs.declared.frames.Frame.{Frame}
use Rattle.wasm_decode.specs.declared.refusal.DecodeEnd.{DecodeEnd}
use Rattle.wasm_decode.specs.Frames.{Section, IsFramed, frame_at}
use Rattle.wasm_decode.specs.Contents.{Contents, custom, types, imports, funcs, tables, mems, globals, exports, start, elems, bodies, segments, SpellsSection, IsSpelled, section_id, IsShallowContents, IsShallowSection, FirstUnspelled, FirstDeep, HasParts, put, IsPut, ReadsSection}
use Rattle.wasm_decode.specs.Decode.{IsRead, Refuses, ReadsSections, first_deep}
use Rattle.wasm_decode.proofs.EntryLemmas.{get-front, get-within, get-next, all-get}

-- ---- the contents of the section with an id

contents_skip : (id : ℕ) (fs : List Section) (f : Section) → (f.0 == id) ≡ false → contents_of id (fs ++ f ∷ []) ≡ contents_of id fs
contents_skip id [] f other = ap (λ (b : Bool). if b then Some f.1 else None) other
contents_skip id (g ∷ gs) f other = ap (λ (o : Option (List ℕ)). if g.0 == id then Some g.1 else o) (contents_skip id gs f other)

contents_past : (id : ℕ) (gs : List Section) (f g : Section) (same : Bool) → f.0 ≡ id → (if same then Some g.1 else contents_of id gs) ≡ None
    → (contents_of id gs ≡ None → contents_of id (gs ++ f ∷ []) ≡ Some f.1) → (if same then Some g.1 else contents_of id (gs ++ f ∷ [])) ≡ Some f.1
contents_past id gs f g true e none more = absurd cc
contents_past id gs f g false e none more = more none

contents_new : (id : ℕ) (fs : List Section) (f : Section) → f.0 ≡ id → contents_of id fs ≡ None → contents_of id (fs ++ f ∷ []) ≡ Some f.1
contents_new id [] f e none = grind (arith, nat_tests)
contents_new id (g ∷ gs) f e none = contents_past id gs f g (g.0 == id) e none (contents_new id gs f e)

-- no section before it has its id, unless it is a custom one
abbrev pub IsNew : List Section → Section → Type 0
IsNew fs f = (f.0 ≡ 0) ⊎ (contents_of f.0 fs ≡ None)

above : (low final : ℕ) (fs : List Section) (f : Section) (rest : List Section) → InOrder low (fs ++ f ∷ rest) final → (f.0 ≡ 0) ⊎ (low < f.0)
above low final [] f rest h = elim h.0 [ inl e ↦ inl e | inr m ↦ inr m.0 ]
above low final (g ∷ gs) f rest h = elim (above (max low g.0) final gs f rest h.1) [ inl e ↦ inl e | inr lt ↦ inr (omega arith) ]

skip_one : (id : ℕ) (gs : List Section) (g : Section) → g.0 < id → contents_of id gs ≡ None → contents_of id (g ∷ gs) ≡ None
skip_one id gs g lt none = grind (arith, nat_tests)

pub is_new : (low final : ℕ) (fs : List Section) (f : Section) (rest : List Section) → InOrder low (fs ++ f ∷ rest) final → IsNew fs f
is_new low final [] f rest h = inr refl
is_new low final (g ∷ gs) f rest h =
    elim (above (max low g.0) final gs f rest h.1) [
      | inl e ↦ inl e
      | inr lt ↦ elim (is_new (max low g.0) final gs f rest h.1) [ inl e ↦ inl e | inr none ↦ inr (skip_one f.0 gs g (omega arith) none) ]
    ]

-- what holds of the contents with an id, after a section of another id
kept : (id : ℕ) (fs : List Section) (f : Section) (c : Contents) (P : Option (List ℕ) → Type 0) → SpellsSection f c → (section_id c == id) ≡ false
    → P (contents_of id fs) → P (contents_of id (fs ++ f ∷ []))
kept id fs f c P s other h = subst P (sym (contents_skip id fs f (ap (λ (n : ℕ). n == id) (sym s.0) ∙ other))) h

-- and after the one of the id
put_now : (id : ℕ) (fs : List Section) (f : Section) (P : Option (List ℕ) → Type 0) → 0 < id → id ≡ f.0 → IsNew fs f → P (Some f.1)
    → P (contents_of id (fs ++ f ∷ []))
put_now id fs f P some e (inl zero) p = absurd (omega arith)
put_now id fs f P some e (inr none) p = subst P (sym (contents_new id fs f (sym e) (subst (λ (n : ℕ). contents_of n fs ≡ None) (sym e) none))) p

pub names_skip : (fs : List Section) (f : Section) (v : Option (List ℕ)) → f.0 ≢ 0 → NamesAre fs v → NamesAre (fs ++ f ∷ []) v
names_skip [] f v ne h = (None, refl, inl (ne, h))
names_skip (g ∷ gs) f v ne h = (h.0, names_skip gs f h.0 ne h.1, h.2)

later_last : (late early own : Option (List ℕ)) → later_of late (later_of early own) ≡ later_of (later_of late early) own
later_last (Some x) early own = refl
later_last None early own = refl

later_none : (late : Option (List ℕ)) → later_of late None ≡ later_of None late
later_none (Some x) = refl
later_none None = refl

pub names_new : (fs : List Section) (f : Section) (v : Option (List ℕ)) (c : Name × List ℕ) → f.0 ≡ 0 → SpellsCustom f.1 c → NamesAre fs v
    → NamesAre (fs ++ f ∷ []) (later_of (named_payload c) v)
names_new [] f v c e p h = (None, refl, inr (e, c, p, ap (later_of (named_payload c)) h ∙ later_none (named_payload c)))
names_new (g ∷ gs) f v c e p h = (
  later_of (named_payload c) h.0,
  names_new gs f h.0 c e p h.1,
  elim h.2 [
    | inl a ↦ inl (a.0, ap (later_of (named_payload c)) a.1)
    | inr a ↦ inr (a.0, a.1, a.2, ap (later_of (named_payload c)) a.3 ∙ later_last (named_payload c) h.0 (named_payload a.1))
  ],
)

-- ---- one section more

-- what holds of the sections and the module holds with one section more
abbrev Lasts : (List Section → Module → Type 0) → Type 0
Lasts P = (fs : List Section) (f : Section) (m : Module) (c : Contents) → IsNew fs f → SpellsSection f c → P fs m → P (fs ++ f ∷ []) (put c m)

types_last : Lasts (λ fs m. ListIs SpellsTypes m.types (contents_of 1 fs))
types_last fs f m (types xs) new s h = put_now 1 fs f (ListIs SpellsTypes xs) (lit< tt) s.0 new s.1
types_last fs f m c new s h = kept 1 fs f c (ListIs SpellsTypes m.types) s refl h

imports_last : Lasts (λ fs m. ListIs SpellsImports m.imports (contents_of 2 fs))
imports_last fs f m (imports xs) new s h = put_now 2 fs f (ListIs SpellsImports xs) (lit< tt) s.0 new s.1
imports_last fs f m c new s h = kept 2 fs f c (ListIs SpellsImports m.imports) s refl h

funcs_last : Lasts (λ fs m. ListIs SpellsFuncs m.funcs (contents_of 3 fs))
funcs_last fs f m (funcs xs) new s h = put_now 3 fs f (ListIs SpellsFuncs xs) (lit< tt) s.0 new s.1
funcs_last fs f m c new s h = kept 3 fs f c (ListIs SpellsFuncs m.funcs) s refl h

tables_last : Lasts (λ fs m. ListIs SpellsTables m.tables (contents_of 4 fs))
tables_last fs f m (tables xs) new s h = put_now 4 fs f (ListIs SpellsTables xs) (lit< tt) s.0 new s.1
tables_last fs f m c new s h = kept 4 fs f c (ListIs SpellsTables m.tables) s refl h

mems_last : Lasts (λ fs m. ListIs SpellsMems m.mems (contents_of 5 fs))
mems_last fs f m (mems xs) new s h = put_now 5 fs f (ListIs SpellsMems xs) (lit< tt) s.0 new s.1
mems_last fs f m c new s h = kept 5 fs f c (ListIs SpellsMems m.mems) s refl h

globals_last : Lasts (λ fs m. ListIs SpellsGlobals m.globals (contents_of 6 fs))
globals_last fs f m (globals xs) new s h = put_now 6 fs f (ListIs SpellsGlobals xs) (lit< tt) s.0 new s.1
globals_last fs f m c new s h = kept 6 fs f c (ListIs SpellsGlobals m.globals) s refl h

exports_last : Lasts (λ fs m. ListIs SpellsExports m.exports (contents_of 7 fs))
exports_last fs f m (exports xs) new s h = put_now 7 fs f (ListIs SpellsExports xs) (lit< tt) s.0 new s.1
exports_last fs f m c new s h = kept 7 fs f c (ListIs SpellsExports m.exports) s refl h

start_last : Lasts (λ fs m. OptionIs SpellsU32 m.start (contents_of 8 fs))
start_last fs f m (start n) new s h = put_now 8 fs f (OptionIs SpellsU32 (Some n)) (lit< tt) s.0 new s.1
start_last fs f m c new s h = kept 8 fs f c (OptionIs SpellsU32 m.start) s refl h

elems_last : Lasts (λ fs m. ListIs SpellsElems m.elems (contents_of 9 fs))
elems_last fs f m (elems xs) new s h = put_now 9 fs f (ListIs SpellsElems xs) (lit< tt) s.0 new s.1
elems_last fs f m c new s h = kept 9 fs f c (ListIs SpellsElems m.elems) s refl h

bodies_last : Lasts (λ fs m. ListIs SpellsBodies m.bodies (contents_of 10 fs))
bodies_last fs f m (bodies xs) new s h = put_now 10 fs f (ListIs SpellsBodies xs) (lit< tt) s.0 new s.1
bodies_last fs f m c new s h = kept 10 fs f c (ListIs SpellsBodies m.bodies) s refl h

segments_last : Lasts (λ fs m. ListIs SpellsSegments m.segments (contents_of 11 fs))
segments_last fs f m (segments xs) new s h = put_now 11 fs f (ListIs SpellsSegments xs) (lit< tt) s.0 new s.1
segments_last fs f m c new s h = kept 11 fs f c (ListIs SpellsSegments m.segments) s refl h

names_last : Lasts (λ fs m. NamesAre fs m.names)
names_last fs f m (custom name payload) new s h = names_new fs f m.names (name, payload) (sym s.0) s.1 h
names_last fs f m c new s h = names_skip fs f m.names (λ q. omega (arith, s.0, q)) h

pub parts_more : Lasts HasParts
parts_more fs f m c new s h = record {
  types = types_last fs f m c new s h.types;
  imports = imports_last fs f m c new s h.imports;
  funcs = funcs_last fs f m c new s h.funcs;
  tables = tables_last fs f m c new s h.tables;
  mems = mems_last fs f m c new s h.mems;
  globals = globals_last fs f m c new s h.globals;
  exports = exports_last fs f m c new s h.exports;
  start = start_last fs f m c new s h.start;
  elems = elems_last fs f m c new s h.elems;
  bodies = bodies_last fs f m c new s h.bodies;
  segments = segments_last fs f m c new s h.segments;
  names = names_last fs f m c new s h.names;
}

pub nests_more : (m : Module) (c : Contents) → NestsAtMost most_nesting m → IsShallowContents c → NestsAtMost most_nesting (put c m)
nests_more m (globals xs) h s = record { globals = s; elems = h.elems; bodies = h.bodies; segments = h.segments }
nests_more m (elems xs) h s = record { globals = h.globals; elems = s; bodies = h.bodies; segments = h.segments }
nests_more m (bodies xs) h s = record { globals = h.globals; elems = h.elems; bodies = s; segments = h.segments }
nests_more m (segments xs) h s = record { globals = h.globals; elems = h.elems; bodies = h.bodies; segments = s }
nests_more m c h s = record { globals = h.globals; elems = h.elems; bodies = h.bodies; segments = h.segments }

deep_still : (fs : List Section) (f : Section) (id entry : ℕ) → FirstDeep fs id entry → FirstDeep (fs ++ f ∷ []) id entry
deep_still fs f id entry d = let lt = slice_get_within fs d.k (id, d.text) d.there in record {
  k = d.k;
  text = d.text;
  there = get-front fs (f ∷ []) d.k (id, d.text) d.there;
  contents = d.contents;
  spelled = d.spelled;
  deep = d.deep;
  before = λ j g below e. d.before j g below (sym (get-within fs (f ∷ []) j (omega arith)) ∙ e);
}

pub read_more : (fs : List Section) (id : ℕ) (text : List ℕ) (old new : Module) (deep : Option (ℕ × ℕ)) (entry : Option ℕ) (c : Contents)
    → IsNew fs (id, text) → SpellsSection (id, text) c → IsPut c entry old new → IsRead fs deep old
    → IsRead (fs ++ (id, text) ∷ []) (first_deep deep id entry) new
read_more fs id text old new (Some at) entry c is s p h = deep_still fs (id, text) at.0 at.1 h
read_more fs id text old new None (Some entry) c is s p h = record {
  k = length fs;
  text = text;
  there = get-next fs (id, text) [] (length fs) refl;
  contents = c;
  spelled = s;
  deep = p;
  before = λ j g below e. all-get IsShallowSection fs j g h.2 (sym (get-within fs ((id, text) ∷ []) j below) ∙ e);
}
read_more fs id text old new None None c is s p h =
    subst (λ (m : Module). IsRead (fs ++ (id, text) ∷ []) None m) (sym p.0)
    (parts_more fs (id, text) old c is s h.0, nests_more old c h.1 p.1, All-push IsShallowSection fs (id, text) h.2 (c, s, p.1))

-- ---- over where the sections stand

abbrev pub up_to : List ℕ → List Frame → ℕ → List Section
up_to bytes frames i = map (frame_at bytes) (take i frames)

pub frames_split : (bytes : List ℕ) (frames : List Frame) (i : ℕ) (x : Frame) → i < length frames → x ≡ get_or frames i x
    → map (frame_at bytes) frames ≡ up_to bytes frames i ++ frame_at bytes x ∷ map (frame_at bytes) (drop (i + 1) frames)
frames_split bytes frames i x lt is =
    let d : drop i frames ≡ x ∷ drop (i + 1) frames = rw (drop-cons frames i x lt, ← is, add-one) refl in
    ap (map (frame_at bytes)) (sym (take-append-drop i frames)) ∙ map-append (frame_at bytes) (take i frames) (drop i frames)
    ∙ ap (λ (r : List Frame). up_to bytes frames i ++ map (frame_at bytes) r) d

pub frames_next : (bytes : List ℕ) (frames : List Frame) (i : ℕ) (x : Frame) → i < length frames → x ≡ get_or frames i x
    → up_to bytes frames (i + 1) ≡ up_to bytes frames i ++ frame_at bytes x ∷ []
frames_next bytes frames i x lt is = ap (map (frame_at bytes)) (take_more frames i x lt) ∙ map-append (frame_at bytes) (take i frames)
    (get_or frames i x ∷ []) ∙ ap (λ (y : Frame). up_to bytes frames i ++ frame_at bytes y ∷ []) (sym is)

-- what is known of the sections so far
pub record SectionsSoFar (bytes : List ℕ) (frames : List Frame) (i : ℕ) (deep : Option (ℕ × ℕ)) (m : Module) : Type 0 where
  pub spelled : All IsSpelled (up_to bytes frames i)
  pub read : IsRead (up_to bytes frames i) deep m

pub sections_go_on : (bytes : List ℕ) (frames : List Frame) (i final : ℕ) (x : Frame) (old new : Module) (deep : Option (ℕ × ℕ)) (entry : Option ℕ)
    → i < length frames → x ≡ get_or frames i x → InOrder 0 (map (frame_at bytes) frames) final
    → ReadsSection x.id (slice_range bytes x.start x.end) old new (Ok entry) → SectionsSoFar bytes frames i deep old → SectionsSoFar bytes frames (i + 1)
    (first_deep deep x.id entry) new
sections_go_on bytes frames i final x old new deep entry lt is ordered r h =
    let fs : List Section = up_to bytes frames i in
    let e : fs ++ frame_at bytes x ∷ [] ≡ up_to bytes frames (i + 1) = sym (frames_next bytes frames i x lt is) in
    let fresh = is_new 0 final fs (frame_at bytes x) (map (frame_at bytes) (drop (i + 1) frames)) (subst (λ (gs : List Section). InOrder 0 gs final)
    (frames_split bytes frames i x lt is) ordered) in
    record {
      spelled = subst (All IsSpelled) e (All-push IsSpelled fs (frame_at bytes x) h.spelled (r.0, r.1));
      read = subst (λ (gs : List Section). IsRead gs (first_deep deep x.id entry) new) e (read_more fs x.id (slice_range bytes x.start x.end) old new deep
          entry r.0 fresh r.1 r.2 h.read);
    }

pub first_unspelled : (bytes : List ℕ) (frames : List Frame) (i : ℕ) (x : Frame) (deep : Option (ℕ × ℕ)) (m : Module) → i < length frames
    → x ≡ get_or frames i x → (IsSpelled (frame_at bytes x) → ⊥) → SectionsSoFar bytes frames i deep m
    → length (take i frames) ≡ i → FirstUnspelled (map (frame_at bytes) frames) i x.id
first_unspelled bytes frames i x deep m lt is bad h long =
    let fs : List Section = up_to bytes frames i in
    let rest : List Section = map (frame_at bytes) (drop (i + 1) frames) in
    let e : map (frame_at bytes) frames ≡ fs ++ frame_at bytes x ∷ rest = frames_split bytes frames i x lt is in
    let count : length fs ≡ i = length-map (take i frames) (frame_at bytes) ∙ long in
    record {
      text = slice_range bytes x.start x.end;
      there = subst (λ (gs : List Section). slice_get gs i ≡ Some (frame_at bytes x)) (sym e) (get-next fs (frame_at bytes x) rest i (sym count));
      unspelled = bad;
      before = λ j f below g. all-get IsSpelled fs j f h.spelled (sym (get-within fs (frame_at bytes x ∷ rest) j (omega arith))
          ∙ subst (λ (gs : List Section). slice_get gs j ≡ Some f) e g);
    }

pub all_sections : (bytes : List ℕ) (frames : List Frame) (k : ℕ) (deep : Option (ℕ × ℕ)) (m : Module) → k ≡ length frames
    → SectionsSoFar bytes frames k deep m → All IsSpelled (map (frame_at bytes) frames) × IsRead (map (frame_at bytes) frames) deep m
all_sections bytes frames k deep m e h =
    let all : take k frames ≡ frames = ap (λ (n : ℕ). take n frames) e ∙ take-length frames in (
      subst (λ (xs : List Frame). All IsSpelled (map (frame_at bytes) xs)) all h.spelled,
      subst (λ (xs : List Frame). IsRead (map (frame_at bytes) xs) deep m)
          all h.read,
    )

pub refused : (bytes : List ℕ) (frames : List Frame) (i : ℕ) (x : Frame) (deep : Option (ℕ × ℕ)) (old new m : Module) (stop : Stop) (refusal : DecodeEnd)
    → i < length frames → x ≡ get_or frames i x → SectionsSoFar bytes frames i deep m
    → ReadsSection x.id (slice_range bytes x.start x.end) old new (Err stop) → Refuses stop i x.id refusal → ReadsSections (map (frame_at bytes) frames)
    (Err refusal)
refused bytes frames i x deep old new m no.No refusal lt is h bad e =
    subst (λ (d : DecodeEnd). ReadsSections (map (frame_at bytes) frames) (Err d)) (sym e) (first_unspelled bytes frames i x deep m lt is bad h
    (length-take-le i frames (omega arith)))
refused bytes frames i x deep old new m no.Memory refusal lt is h bad e = subst (λ (d : DecodeEnd). ReadsSections (map (frame_at bytes) frames) (Err d))
    (sym e) tt

-- ---- the whole

pub nothing_deep : (frames : List Section) (deep : Option (ℕ × ℕ)) (m : Module) → ((at : ℕ × ℕ) → deep ≡ Some at → ⊥) → IsRead frames deep m
    → IsRead frames None m
nothing_deep frames None m none h = h
nothing_deep frames (Some at) m none h = absurd (none at refl)

pub spells_of : (bytes : List ℕ) (frames : List Section) (m : Module) → IsFramed bytes frames → HasParts frames m → length m.funcs ≡ length m.bodies
    → Spells bytes m
spells_of bytes frames m f p same =
    let text : drop 8 bytes ≡ f.framed.text = f.framed.here ∙ ap (λ (t : List ℕ). f.framed.text ++ t) (drop_all bytes) ∙ append-nil f.framed.text in
    record {
      rest = drop 8 bytes;
      begun = sym (take-append-drop 8 bytes) ∙ ap (λ (t : List ℕ). t ++ drop 8 bytes) f.begun;
      frames = frames;
      final = f.final;
      framed = subst (λ (t : List ℕ). Sections f.final t frames) (sym text) f.framed.spelled;
      types = p.types;
      imports = p.imports;
      funcs = p.funcs;
      tables = p.tables;
      mems = p.mems;
      globals = p.globals;
      exports = p.exports;
      start = p.start;
      elems = p.elems;
      bodies = p.bodies;
      segments = p.segments;
      names = p.names;
      same = same;
    }
