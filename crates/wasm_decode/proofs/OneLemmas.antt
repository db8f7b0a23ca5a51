-- Bytes have one answer, but for memory that was refused.
use Rattle.std.proofs.Common.{◌≡◌, ◌≢◌, ℕ, zero, suc, ◌<◌, ◌≤◌, inl, inr, max, List, [], ◌∷◌, ◌++◌, length, take, drop, length-drop, Option, Some, None, Result, Ok, Err, refl, sym, ap, subst, ◌∙◌, append_assoc, arith}
use Rattle.std.specs.Prelude.{All}
use Rattle.std.specs.List.{slice_get}
use Rattle.std.proofs.lemmas.List.{append-nil}
use Rattle.std.proofs.lemmas.Bool.{cases_order}
use Rattle.std.proofs.lemmas.Bool.Decides.{nat_tests}
use Rattle.wasm_types.specs.declared.module.Name.{Name}
use Rattle.wasm_types.specs.declared.module.Module.{Module}
use Rattle.wasm_types.specs.Standing.{Stands}
use Rattle.wasm_types.specs.Numbers.{SpellsU32}
use Rattle.wasm_types.specs.Parts.{Each}
use Rattle.wasm_types.specs.Sections.{SpellsCustom, SpellsTypes, SpellsImports, SpellsFuncs, SpellsTables, SpellsMems, SpellsGlobals, SpellsExports, SpellsElems, SpellsBodies, SpellsSegments}
use Rattle.wasm_types.specs.Modules.{header, SpellsFrame, MayFollow, InOrder, Sections, contents_of, ListIs, OptionIs, NamesAre, Spells}
use Rattle.wasm_types.specs.Subset.{NestsAtMost, most_nesting}
use Rattle.text_laws.proofs.Once.{after, once_u32}
use Rattle.text_laws.proofs.SectionLemmas.{whole_is, one_custom, once_types, once_imports, once_funcs, once_tables, once_mems, once_globals, once_exports, once_elems, once_bodies, once_segments}
use Rattle.text_laws.proofs.ModuleLemmas.{once_frame, one_list, one_module, drop_all}
use Rattle.wasm_decode.specs.declared.refusal.DecodeEnd.{DecodeEnd}
use Rattle.wasm_decode.specs.declared.refusal.DecodeEnd.TheVariants as end
use Rattle.wasm_decode.specs.Depth.{IsShallowGlobal, IsShallowElem, IsShallowBody, IsShallowSegment}
use Rattle.wasm_decode.specs.Entries.{Rule, FirstNot}
use Rattle.wasm_decode.specs.Frames.{Section, NextFrame, IsFramed, UnframedAt}
use Rattle.wasm_decode.specs.Contents.{Contents, custom, types, imports, funcs, tables, mems, globals, exports, start, elems, bodies, segments, SpellsSection, IsSpelled, IsShallowContents, DeepAt, IsShallowSection, FirstUnspelled, FirstDeep, HasParts}
use Rattle.wasm_decode.specs.Decode.{MalformedAt, TooDeepAt, DiffersInCounts, Decodes}
use Rattle.wasm_decode.proofs.EntryLemmas.{all-get}

-- ---- how far sections stand

-- no section that may follow begins the text
abbrev Ends : ℕ → List ℕ → Type 0
Ends final text = (front rest : List ℕ) (f : Section) → text ≡ front ++ rest → NextFrame final front f → ⊥

ends_nil : (final : ℕ) → Ends final []
ends_nil final front rest f e s = let h : [] ≡ f.0 ∷ (s.0.rest ++ rest) = e ∙ ap (λ (t : List ℕ). t ++ rest) s.0.parts in absurd cc

-- a section more in one of two lists
one_longer : (g : Section) (gs : List Section) (a b x y : List ℕ) (last final end : ℕ) → a ++ x ≡ b ++ y → a ≡ [] → last ≡ final → Each SpellsFrame b (g ∷ gs)
    → InOrder last (g ∷ gs) end → Ends final x → ⊥
one_longer g gs a b x y last final end e p o q r none =
    let h : x ≡ q.front ++ (q.back ++ y) = ap (λ (t : List ℕ). t ++ x) (sym p) ∙ e ∙ ap (λ (t : List ℕ). t ++ y) q.parts ∙ append_assoc q.front q.back y in
    none q.front (q.back ++ y) g h (q.first, subst (λ (n : ℕ). MayFollow n g.0) o r.0)

one_prefix : (fs gs : List Section) (a b x y : List ℕ) (last final end : ℕ) → a ++ x ≡ b ++ y → Each SpellsFrame a fs → InOrder last fs final
    → Each SpellsFrame b gs → InOrder last gs end → Ends final x → Ends end y → (fs ≡ gs) × (x ≡ y)
one_prefix [] [] a b x y last final end e p o q r m n = (refl, ap (λ (t : List ℕ). t ++ x) (sym p) ∙ e ∙ ap (λ (t : List ℕ). t ++ y) q)
one_prefix [] (g ∷ gs) a b x y last final end e p o q r m n = absurd (one_longer g gs a b x y last final end e p o q r m)
one_prefix (f ∷ fs) [] a b x y last final end e p o q r m n = absurd (one_longer f fs b a y x last end final (sym e) q r p o n)
one_prefix (f ∷ fs) (g ∷ gs) a b x y last final end e p o q r m n =
    let h : p.front ++ (p.back ++ x) ≡ q.front ++ (q.back ++ y) = sym (ap (λ (t : List ℕ). t ++ x) p.parts ∙ append_assoc p.front p.back x) ∙ e
    ∙ ap (λ (t : List ℕ). t ++ y) q.parts ∙ append_assoc q.front q.back y in
    let same = once_frame p.front q.front (p.back ++ x) (q.back ++ y) f g p.first q.first h in
    let back : p.back ++ x ≡ q.back ++ y = after p.front q.front (p.back ++ x) (q.back ++ y) same.0 h in
    let s = one_prefix fs gs p.back q.back x y (max last f.0) final end back p.second o.1 q.second (subst (λ (k : Section). InOrder (max last k.0) gs end)
    (sym same.1) r.1) m n in
    (cc (same.1, s.0), s.1)

framed_ends : (bytes : List ℕ) (final : ℕ) → Ends final (drop (length bytes) bytes)
framed_ends bytes final = subst (Ends final) (sym (drop_all bytes)) (ends_nil final)

one_framing : (bytes : List ℕ) (at to final end : ℕ) (fs gs : List Section) → Stands (Sections final) bytes 8 at fs → Stands (Sections end) bytes 8 to gs
    → Ends final (drop at bytes) → Ends end (drop to bytes) → (fs ≡ gs) × (drop at bytes ≡ drop to bytes)
one_framing bytes at to final end fs gs p q m n =
    one_prefix fs gs p.text q.text (drop at bytes) (drop to bytes) 0 final end (sym p.here ∙ q.here) p.spelled.0 p.spelled.1 q.spelled.0 q.spelled.1 m n

one_framed : (bytes : List ℕ) (fs gs : List Section) → IsFramed bytes fs → IsFramed bytes gs → fs ≡ gs
one_framed bytes fs gs p q = (one_framing bytes (length bytes) (length bytes) p.final q.final fs gs p.framed q.framed (framed_ends bytes p.final)
    (framed_ends bytes q.final)).0

one_unframed : (bytes : List ℕ) (k j : ℕ) → UnframedAt bytes k → UnframedAt bytes j → k ≡ j
one_unframed bytes k j p q =
    let r = one_framing bytes p.place q.place p.final q.final p.frames q.frames p.framed q.framed p.none q.none in
    sym p.count ∙ ap length r.0 ∙ q.count

framed_not_unframed : (bytes : List ℕ) (fs : List Section) (k : ℕ) → IsFramed bytes fs → UnframedAt bytes k → ⊥
framed_not_unframed bytes fs k p q =
    let r = one_framing bytes (length bytes) q.place p.final q.final fs q.frames p.framed q.framed (framed_ends bytes p.final) q.none in
    omega (arith, ap length r.1, length-drop (length bytes) bytes, length-drop q.place bytes, q.within)

-- ---- the first of a list

first_not_one : {A : Type 0} (P : A → Type 0) (xs : List A) (i j : ℕ) → FirstNot P xs i → FirstNot P xs j → i ≡ j
first_not_one P xs i j p q = elim (cases_order i j) [
  | inl e ↦ e
  | inr lt ↦ elim lt [ inl below ↦ absurd (p.not_so (q.before i p.entry below p.there)) | inr below ↦ absurd (q.not_so (p.before j q.entry below q.there)) ]
]

same_there : (fs : List Section) (k j : ℕ) (f g : Section) → k ≡ j → slice_get fs k ≡ Some f → slice_get fs j ≡ Some g → f ≡ g
same_there fs k j f g e p q = let h : Some f ≡ Some g = sym p ∙ ap (λ (n : ℕ). slice_get fs n) e ∙ q in cc

one_unspelled : (fs : List Section) (k j id other : ℕ) → FirstUnspelled fs k id → FirstUnspelled fs j other → (k ≡ j) × (id ≡ other)
one_unspelled fs k j id other p q = elim (cases_order k j) [
  | inl e ↦ (e, ap (λ (f : Section). f.0) (same_there fs k j (id, p.text) (other, q.text) e p.there q.there))
  | inr lt ↦ elim lt [
    | inl below ↦ absurd (p.unspelled (q.before k (id, p.text) below p.there))
    | inr below ↦ absurd (q.unspelled (p.before j (other, q.text) below q.there))
  ]
]

all_not_unspelled : (fs : List Section) (k id : ℕ) → All IsSpelled fs → FirstUnspelled fs k id → ⊥
all_not_unspelled fs k id all p = p.unspelled (all-get IsSpelled fs k (id, p.text) all p.there)

-- ---- the contents of a section

one_contents : (f : Section) (c d : Contents) → SpellsSection f c → SpellsSection f d → c ≡ d
one_contents f (custom name payload) (custom other rest) p q = ap (λ (v : Name × List ℕ). custom v.0 v.1) (one_custom f.1 (name, payload) (
  other,
  rest,
) p.1 q.1)
one_contents f (types xs) (types ys) p q = ap types (whole_is SpellsTypes once_types f.1 xs ys p.1 q.1)
one_contents f (imports xs) (imports ys) p q = ap imports (whole_is SpellsImports once_imports f.1 xs ys p.1 q.1)
one_contents f (funcs xs) (funcs ys) p q = ap funcs (whole_is SpellsFuncs once_funcs f.1 xs ys p.1 q.1)
one_contents f (tables xs) (tables ys) p q = ap tables (whole_is SpellsTables once_tables f.1 xs ys p.1 q.1)
one_contents f (mems xs) (mems ys) p q = ap mems (whole_is SpellsMems once_mems f.1 xs ys p.1 q.1)
one_contents f (globals xs) (globals ys) p q = ap globals (whole_is SpellsGlobals once_globals f.1 xs ys p.1 q.1)
one_contents f (exports xs) (exports ys) p q = ap exports (whole_is SpellsExports once_exports f.1 xs ys p.1 q.1)
one_contents f (start m) (start n) p q = ap start (whole_is SpellsU32 once_u32 f.1 m n p.1 q.1)
one_contents f (elems xs) (elems ys) p q = ap elems (whole_is SpellsElems once_elems f.1 xs ys p.1 q.1)
one_contents f (bodies xs) (bodies ys) p q = ap bodies (whole_is SpellsBodies once_bodies f.1 xs ys p.1 q.1)
one_contents f (segments xs) (segments ys) p q = ap segments (whole_is SpellsSegments once_segments f.1 xs ys p.1 q.1)
one_contents f _ _ p q = absurd (omega (arith, p.0, q.0))

one_deep : (c : Contents) (i j : ℕ) → DeepAt c i → DeepAt c j → i ≡ j
one_deep (globals xs) i j p q = first_not_one IsShallowGlobal xs i j p q
one_deep (elems xs) i j p q = first_not_one IsShallowElem xs i j p q
one_deep (bodies xs) i j p q = first_not_one IsShallowBody xs i j p q
one_deep (segments xs) i j p q = first_not_one IsShallowSegment xs i j p q
one_deep _ i j p q = absurd p

shallow_not_deep : (c : Contents) (i : ℕ) → IsShallowContents c → DeepAt c i → ⊥
shallow_not_deep (globals xs) i all d = d.not_so (all-get IsShallowGlobal xs i d.entry all d.there)
shallow_not_deep (elems xs) i all d = d.not_so (all-get IsShallowElem xs i d.entry all d.there)
shallow_not_deep (bodies xs) i all d = d.not_so (all-get IsShallowBody xs i d.entry all d.there)
shallow_not_deep (segments xs) i all d = d.not_so (all-get IsShallowSegment xs i d.entry all d.there)
shallow_not_deep _ i all d = d

section_not_deep : (fs : List Section) (id entry : ℕ) (p : FirstDeep fs id entry) → IsShallowSection (id, p.text) → ⊥
section_not_deep fs id entry p s =
    shallow_not_deep p.contents entry (subst IsShallowContents (one_contents (id, p.text) s.0 p.contents s.1 p.spelled) s.2) p.deep

one_first_deep : (fs : List Section) (id other i j : ℕ) → FirstDeep fs id i → FirstDeep fs other j → (id ≡ other) × (i ≡ j)
one_first_deep fs id other i j p q = elim (cases_order p.k q.k) [
  | inl e ↦ (
      let f : (id, p.text) ≡ (other, q.text) = same_there fs p.k q.k (id, p.text) (other, q.text) e p.there q.there in
      let c : p.contents ≡ q.contents = one_contents (other, q.text) p.contents q.contents (subst (λ (g : Section). SpellsSection g p.contents) f p.spelled)
      q.spelled in
      (ap (λ (g : Section). g.0) f, one_deep q.contents i j (subst (λ (d : Contents). DeepAt d i) c p.deep) q.deep))
  | inr lt ↦ elim lt [
    | inl below ↦ absurd (section_not_deep fs id i p (q.before p.k (id, p.text) below p.there))
    | inr below ↦ absurd (section_not_deep fs
        other j q (p.before q.k (other, q.text) below q.there))
  ]
]

-- ---- what the parts of a module tell of its sections

known_at : (low final : ℕ) (fs : List Section) (k : ℕ) (f : Section) → InOrder low fs final → slice_get fs k ≡ Some f → f.0 ≤ 11
known_at low final [] k f h e = absurd cc
known_at low final (g ∷ gs) zero f h e = let i : g ≡ f = cc in elim h.0 [
  | inl z ↦ omega (arith, ap (λ (p : Section). p.0) i, z)
  | inr m ↦ omega (
    arith,
    ap (λ (p : Section). p.0) i,
    m.1,
  )
]
known_at low final (g ∷ gs) (suc k) f h e = known_at (max low g.0) final gs k f h.1 e

above_at : (low final : ℕ) (fs : List Section) (k : ℕ) (f : Section) → InOrder low fs final → slice_get fs k ≡ Some f → 0 < f.0 → low < f.0
above_at low final [] k f h e some = absurd cc
above_at low final (g ∷ gs) zero f h e some = let i : g ≡ f = cc in
    elim h.0 [ inl z ↦ absurd (omega (arith, ap (λ (p : Section). p.0) i, z)) | inr m ↦ omega (arith, ap (λ (p : Section). p.0) i, m.0) ]
above_at low final (g ∷ gs) (suc k) f h e some = let lt = above_at (max low g.0) final gs k f h.1 e some in omega arith

contents_first : (id : ℕ) (gs : List Section) (g : Section) → g.0 ≡ id → contents_of id (g ∷ gs) ≡ Some g.1
contents_first id gs g e = grind (arith, nat_tests)

contents_later : (id : ℕ) (gs : List Section) (g : Section) → g.0 < id → contents_of id (g ∷ gs) ≡ contents_of id gs
contents_later id gs g lt = grind (arith, nat_tests)

contents_at : (low final : ℕ) (fs : List Section) (k : ℕ) (f : Section) → InOrder low fs final → slice_get fs k ≡ Some f → 0 < f.0
    → contents_of f.0 fs ≡ Some f.1
contents_at low final [] k f h e some = absurd cc
contents_at low final (g ∷ gs) zero f h e some = let i : g ≡ f = cc in contents_first f.0 gs g (ap (λ (p : Section). p.0) i) ∙ ap (λ (p : Section). Some p.1)
    i
contents_at low final (g ∷ gs) (suc k) f h e some =
    let lt = above_at (max low g.0) final gs k f h.1 e some in
    contents_later f.0 gs g (omega arith) ∙ contents_at (max low g.0) final gs k f h.1 e some

custom_at : (fs : List Section) (names : Option (List ℕ)) (k : ℕ) (f : Section) → NamesAre fs names → slice_get fs k ≡ Some f → f.0 ≡ 0
    → (c : Name × List ℕ) × SpellsCustom f.1 c
custom_at [] names k f h e z = absurd cc
custom_at (g ∷ gs) names zero f h e z =
    let i : g ≡ f = cc in
    elim h.2 [
      | inl a ↦ absurd (a.0 (ap (λ (p : Section). p.0) i ∙ z))
      | inr a ↦ (a.1, subst (λ (p : Section). SpellsCustom p.1 a.1) i a.2)
    ]
custom_at (g ∷ gs) names (suc k) f h e z = custom_at gs h.0 k f h.1 e z

start_there : (v : Option ℕ) (text : List ℕ) → OptionIs SpellsU32 v (Some text) → (n : ℕ) × SpellsU32 text n
start_there None text h = absurd h
start_there (Some n) text h = (n, h)

list_there : {A : Type 0} (P : Rule (List A)) (xs : List A) (text : List ℕ) (contents : Option (List ℕ)) → contents ≡ Some text → ListIs P xs contents
    → P text xs
list_there P xs text contents e h = subst (ListIs P xs) e h

section_of : (fs : List Section) (m : Module) (id : ℕ) (text : List ℕ) → HasParts fs m → NestsAtMost most_nesting m → 0 < id → id ≤ 11
    → contents_of id fs ≡ Some text → IsShallowSection (id, text)
section_of fs m zero text p s some le e = absurd (omega arith)
section_of fs m (suc zero) text p s some le e = (types m.types, (refl, list_there SpellsTypes m.types text _ e p.types), tt)
section_of fs m (suc (suc zero)) text p s some le e = (imports m.imports, (refl, list_there SpellsImports m.imports text _ e p.imports), tt)
section_of fs m (suc (suc (suc zero))) text p s some le e = (funcs m.funcs, (refl, list_there SpellsFuncs m.funcs text _ e p.funcs), tt)
section_of fs m (suc (suc (suc (suc zero)))) text p s some le e = (tables m.tables, (refl, list_there SpellsTables m.tables text _ e p.tables), tt)
section_of fs m (suc (suc (suc (suc (suc zero))))) text p s some le e = (mems m.mems, (refl, list_there SpellsMems m.mems text _ e p.mems), tt)
section_of fs m (suc (suc (suc (suc (suc (suc zero)))))) text p s some le e = (
  globals m.globals,
  (refl, list_there SpellsGlobals m.globals text _ e p.globals),
  s.globals,
)
section_of fs m (suc (suc (suc (suc (suc (suc (suc zero))))))) text p s some le e = (
  exports m.exports,
  (refl, list_there SpellsExports m.exports text _ e p.exports),
  tt,
)
section_of fs m (suc (suc (suc (suc (suc (suc (suc (suc zero)))))))) text p s some le e = let n = start_there m.start text
    (subst (OptionIs SpellsU32 m.start) e p.start) in (start n.0, (refl, n.1), tt)
section_of fs m (suc (suc (suc (suc (suc (suc (suc (suc (suc zero))))))))) text p s some le e = (
  elems m.elems,
  (refl, list_there SpellsElems m.elems text _ e p.elems),
  s.elems,
)
section_of fs m (suc (suc (suc (suc (suc (suc (suc (suc (suc (suc zero)))))))))) text p s some le e = (
  bodies m.bodies,
  (refl, list_there SpellsBodies m.bodies text _ e p.bodies),
  s.bodies,
)
section_of fs m (suc (suc (suc (suc (suc (suc (suc (suc (suc (suc (suc zero))))))))))) text p s some le e = (
  segments m.segments,
  (refl, list_there SpellsSegments m.segments text _ e p.segments),
  s.segments,
)
section_of fs m (suc (suc (suc (suc (suc (suc (suc (suc (suc (suc (suc (suc n)))))))))))) text p s some le e = absurd (omega arith)

section_at : (fs : List Section) (final : ℕ) (m : Module) (k : ℕ) (f : Section) → HasParts fs m → NestsAtMost most_nesting m → InOrder 0 fs final
    → slice_get fs k ≡ Some f → IsShallowSection f
section_at fs final m k f p s o e = elim (cases_order f.0 0) [
  | inl z ↦ (let c = custom_at fs m.names k f p.names e z in (custom c.0.0 c.0.1, (sym z, c.1), tt))
  | inr r ↦ elim r [
    | inl none ↦ absurd (omega arith)
    | inr some ↦ section_of fs m f.0 f.1 p s some (known_at 0 final fs k f o e)
        (contents_at 0 final fs k f o e some)
  ]
]

-- ---- modules that nest within the limit

-- the bytes spell the parts of the module, which nests within the limit
record HasShallowParts (bytes : List ℕ) (m : Module) : Type 0 where
  frames : List Section
  framed : IsFramed bytes frames
  parts : HasParts frames m
  shallow : NestsAtMost most_nesting m

begins : (bytes rest : List ℕ) → bytes ≡ header ++ rest → take 8 bytes ≡ header
begins bytes rest e = ap (take 8) e

spelled_framed : (bytes : List ℕ) (m : Module) (p : Spells bytes m) → IsFramed bytes p.frames
spelled_framed bytes m p = record {
  begun = begins bytes p.rest p.begun;
  final = p.final;
  framed = record {
    text = p.rest;
    spelled = p.framed;
    here = ap (drop 8) p.begun ∙ sym (append-nil p.rest) ∙ ap (λ (t : List ℕ). p.rest ++ t) (sym (drop_all bytes));
    within = omega arith;
  };
}

shallow_parts : (bytes : List ℕ) (m : Module) → Spells bytes m → NestsAtMost most_nesting m → HasShallowParts bytes m
shallow_parts bytes m p s = record {
  frames = p.frames;
  framed = spelled_framed bytes m p;
  parts = record {
    types = p.types;
    imports = p.imports;
    funcs = p.funcs;
    tables = p.tables;
    mems = p.mems;
    globals = p.globals;
    exports = p.exports;
    start = p.start;
    elems = p.elems;
    bodies = p.bodies;
    segments = p.segments;
    names = p.names;
  };
  shallow = s;
}

parts_of_counts : (bytes : List ℕ) (p : DiffersInCounts bytes) → HasShallowParts bytes p.m
parts_of_counts bytes p = record { frames = p.frames; framed = p.framed; parts = p.parts; shallow = p.shallow }

parts_not_malformed : (bytes : List ℕ) (m : Module) (k id : ℕ) → HasShallowParts bytes m → MalformedAt bytes k id → ⊥
parts_not_malformed bytes m k id p q =
    let e : q.frames ≡ p.frames = one_framed bytes q.frames p.frames q.framed p.framed in
    let first : FirstUnspelled p.frames k id = subst (λ (fs : List Section). FirstUnspelled fs k id) e q.first in
    let s = section_at p.frames p.framed.final m k (id, first.text) p.parts p.shallow p.framed.framed.spelled.1 first.there in
    first.unspelled (s.0, s.1)

parts_not_deep : (bytes : List ℕ) (m : Module) (id entry : ℕ) → HasShallowParts bytes m → TooDeepAt bytes id entry → ⊥
parts_not_deep bytes m id entry p q =
    let e : q.frames ≡ p.frames = one_framed bytes q.frames p.frames q.framed p.framed in
    let first : FirstDeep p.frames id entry = subst (λ (fs : List Section). FirstDeep fs id entry) e q.first in
    section_not_deep p.frames id entry first (section_at p.frames p.framed.final m first.k (id, first.text) p.parts p.shallow p.framed.framed.spelled.1
    first.there)

parts_differ : (bytes : List ℕ) (m : Module) → Spells bytes m → DiffersInCounts bytes → ⊥
parts_differ bytes m p q =
    let e : p.frames ≡ q.frames = one_framed bytes p.frames q.frames (spelled_framed bytes m p) q.framed in
    let funcs : m.funcs ≡ q.m.funcs = one_list SpellsFuncs once_funcs _ m.funcs q.m.funcs
    (subst (λ (fs : List Section). ListIs SpellsFuncs m.funcs (contents_of 3 fs)) e p.funcs) q.parts.funcs in
    let bodies : m.bodies ≡ q.m.bodies = one_list SpellsBodies once_bodies _ m.bodies q.m.bodies
    (subst (λ (fs : List Section). ListIs SpellsBodies m.bodies (contents_of 10 fs)) e p.bodies) q.parts.bodies in
    q.differ (sym (ap length funcs) ∙ p.same ∙ ap length bodies)

deep_not_malformed : (bytes : List ℕ) (k id other entry : ℕ) → TooDeepAt bytes other entry → MalformedAt bytes k id → ⊥
deep_not_malformed bytes k id other entry p q =
    let e : q.frames ≡ p.frames = one_framed bytes q.frames p.frames q.framed p.framed in
    all_not_unspelled p.frames k id p.spelled (subst (λ (fs : List Section). FirstUnspelled fs k id) e q.first)

one_malformed : (bytes : List ℕ) (k j id other : ℕ) → MalformedAt bytes k id → MalformedAt bytes j other → (k ≡ j) × (id ≡ other)
one_malformed bytes k j id other p q =
    let e : q.frames ≡ p.frames = one_framed bytes q.frames p.frames q.framed p.framed in
    one_unspelled p.frames k j id other p.first (subst (λ (fs : List Section). FirstUnspelled fs j other) e q.first)

one_too_deep : (bytes : List ℕ) (id other i j : ℕ) → TooDeepAt bytes id i → TooDeepAt bytes other j → (id ≡ other) × (i ≡ j)
one_too_deep bytes id other i j p q =
    let e : q.frames ≡ p.frames = one_framed bytes q.frames p.frames q.framed p.framed in
    one_first_deep p.frames id other i j p.first (subst (λ (fs : List Section). FirstDeep fs other j) e q.first)

-- ---- the answers

module_or_end : (bytes : List ℕ) (m : Module) (e : DecodeEnd) → Decodes bytes (Ok m) → Decodes bytes (Err e) → e ≡ end.Memory
module_or_end bytes m end.Header p q = absurd (q (begins bytes p.0.rest p.0.begun))
module_or_end bytes m (end.Frame k) p q = let s = shallow_parts bytes m p.0 p.1 in absurd (framed_not_unframed bytes s.frames k s.framed q)
module_or_end bytes m (end.Section k id) p q = absurd (parts_not_malformed bytes m k id (shallow_parts bytes m p.0 p.1) q)
module_or_end bytes m (end.TooDeep id entry) p q = absurd (parts_not_deep bytes m id entry (shallow_parts bytes m p.0 p.1) q)
module_or_end bytes m end.Counts p q = absurd (parts_differ bytes m p.0 q)
module_or_end bytes m end.Memory p q = refl

-- the place of a refusal in their order
abbrev place_of : DecodeEnd → ℕ
place_of end.Header = 0
place_of (end.Frame k) = 1
place_of (end.Section k id) = 2
place_of (end.TooDeep id entry) = 3
place_of end.Counts = 4
place_of end.Memory = 5

not_earlier : (bytes : List ℕ) (d e : DecodeEnd) → place_of d < place_of e → e ≢ end.Memory → Decodes bytes (Err d) → Decodes bytes (Err e) → ⊥
not_earlier bytes d end.Memory lt f p q = f refl
not_earlier bytes end.Header (end.Frame k) lt f p q = p q.begun
not_earlier bytes end.Header (end.Section k id) lt f p q = p q.framed.begun
not_earlier bytes end.Header (end.TooDeep id entry) lt f p q = p q.framed.begun
not_earlier bytes end.Header end.Counts lt f p q = p q.framed.begun
not_earlier bytes (end.Frame k) (end.Section j id) lt f p q = framed_not_unframed bytes q.frames k q.framed p
not_earlier bytes (end.Frame k) (end.TooDeep id entry) lt f p q = framed_not_unframed bytes q.frames k q.framed p
not_earlier bytes (end.Frame k) end.Counts lt f p q = framed_not_unframed bytes q.frames k q.framed p
not_earlier bytes (end.Section k id) (end.TooDeep other entry) lt f p q = deep_not_malformed bytes k id other entry q p
not_earlier bytes (end.Section k id) end.Counts lt f p q = parts_not_malformed bytes q.m k id (parts_of_counts bytes q) p
not_earlier bytes (end.TooDeep id entry) end.Counts lt f p q = parts_not_deep bytes q.m id entry (parts_of_counts bytes q) p
not_earlier bytes _ _ lt f p q = omega (arith, lt)

one_place : (bytes : List ℕ) (d e : DecodeEnd) → place_of d ≡ place_of e → d ≢ end.Memory → Decodes bytes (Err d) → Decodes bytes (Err e) → d ≡ e
one_place bytes end.Memory e same f p q = absurd (f refl)
one_place bytes end.Header end.Header same f p q = refl
one_place bytes (end.Frame k) (end.Frame j) same f p q = ap end.Frame (one_unframed bytes k j p q)
one_place bytes (end.Section k id) (end.Section j other) same f p q = let r = one_malformed bytes k j id other p q in cc (r.0, r.1)
one_place bytes (end.TooDeep id i) (end.TooDeep other j) same f p q = let r = one_too_deep bytes id other i j p q in cc (r.0, r.1)
one_place bytes end.Counts end.Counts same f p q = refl
one_place bytes _ _ same f p q = absurd (omega (arith, same))

one_end : (bytes : List ℕ) (d e : DecodeEnd) → Decodes bytes (Err d) → Decodes bytes (Err e) → d ≢ end.Memory → e ≢ end.Memory → d ≡ e
one_end bytes d e p q f g = elim (cases_order (place_of d) (place_of e)) [
  | inl same ↦ one_place bytes d e same f p q
  | inr lt ↦ elim lt [ inl below ↦ absurd (not_earlier bytes d e below g p q) | inr below ↦ absurd (not_earlier bytes e d below f q p) ]
]

pub one_answer : (bytes : List ℕ) (r s : Result Module DecodeEnd) → Decodes bytes r → Decodes bytes s → r ≢ Err end.Memory → s ≢ Err end.Memory → r ≡ s
one_answer bytes (Ok m) (Ok n) p q f g = ap Ok (one_module bytes m n p.0 q.0)
one_answer bytes (Ok m) (Err e) p q f g = absurd (g (ap Err (module_or_end bytes m e p q)))
one_answer bytes (Err d) (Ok n) p q f g = absurd (f (ap Err (module_or_end bytes n d q p)))
one_answer bytes (Err d) (Err e) p q f g = ap Err (one_end bytes d e p q (λ h. f (ap Err h)) (λ h. g (ap Err h)))
