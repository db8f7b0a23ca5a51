-- A text spells at most one module.
use Rattle.std.proofs.Common.{◌≡◌, ℕ, ◌<◌, inl, inr, List, [], ◌∷◌, ◌++◌, length, drop, Option, Some, None, refl, sym, ap, subst, ◌∙◌, arith, length-drop}
use Rattle.std.proofs.lemmas.List.{append-nil}
use Rattle.wasm_types.specs.declared.module.Module.{Module}
use Rattle.wasm_types.specs.declared.module.Name.{Name}
use Rattle.wasm_types.specs.Standing.{Stands, NoneStands}
use Rattle.wasm_types.specs.Numbers.{SpellsU32}
use Rattle.wasm_types.specs.Parts.{Each}
use Rattle.wasm_types.specs.Sections.{SpellsTypes, SpellsImports, SpellsFuncs, SpellsTables, SpellsMems, SpellsGlobals, SpellsExports, SpellsElems, SpellsBodies, SpellsSegments}
use Rattle.wasm_types.specs.Modules.{header, SpellsFrame, contents_of, ListIs, OptionIs, named_payload, later_of, NamesAre, Spells}
use Rattle.text_laws.proofs.Once.{IsOnce, after, once_u32, pair_is}
use Rattle.text_laws.proofs.SectionLemmas.{once_sized, whole_is, one_custom, once_types, once_imports, once_funcs, once_tables, once_mems, once_globals, once_exports, once_elems, once_bodies, once_segments}

-- ---- sections

pub once_frame : IsOnce SpellsFrame
once_frame a b x y m n p q e =
    let h : m.0 ∷ (p.rest ++ x) ≡ n.0 ∷ (q.rest ++ y) = ap (λ (t : List ℕ). t ++ x) (sym p.parts) ∙ e ∙ ap (λ (t : List ℕ). t ++ y) q.parts in
    let id : m.0 ≡ n.0 = cc in
    let back : p.rest ++ x ≡ q.rest ++ y = cc in
    let r = once_sized p.rest q.rest x y m.1 n.1 p.spelled q.spelled back in
    (p.parts ∙ ap (λ (c : ℕ). c ∷ p.rest) id ∙ ap (λ (t : List ℕ). n.0 ∷ t) r.0 ∙ sym q.parts, pair_is m n id r.1)

-- a whole text spells one list of sections
pub one_frames : (text : List ℕ) (fs gs : List (ℕ × List ℕ)) → Each SpellsFrame text fs → Each SpellsFrame text gs → fs ≡ gs
one_frames text [] [] p q = refl
one_frames text [] (g ∷ gs) p q = let h : [] ≡ g.0 ∷ (q.first.rest ++ q.back) = sym p ∙ q.parts ∙ ap (λ (t : List ℕ). t ++ q.back) q.first.parts in absurd cc
one_frames text (f ∷ fs) [] p q = let h : [] ≡ f.0 ∷ (p.first.rest ++ p.back) = sym q ∙ p.parts ∙ ap (λ (t : List ℕ). t ++ p.back) p.first.parts in absurd cc
one_frames text (f ∷ fs) (g ∷ gs) p q =
    let e : p.front ++ p.back ≡ q.front ++ q.back = sym p.parts ∙ q.parts in
    let r = once_frame p.front q.front p.back q.back f g p.first q.first e in
    let back : p.back ≡ q.back = after p.front q.front p.back q.back r.0 e in
    let rest = one_frames p.back fs gs p.second (subst (λ (t : List ℕ). Each SpellsFrame t gs) (sym back) q.second) in
    cc (r.1, rest)

-- ---- the parts of a module

pub one_list : {A : Type 0} (P : List ℕ → List A → Type 0) → IsOnce P → (contents : Option (List ℕ)) (xs ys : List A) → ListIs P xs contents
    → ListIs P ys contents → xs ≡ ys
one_list P once None xs ys p q = p ∙ sym q
one_list P once (Some text) xs ys p q = whole_is P once text xs ys p q

pub one_option : {A : Type 0} (P : List ℕ → A → Type 0) → IsOnce P → (contents : Option (List ℕ)) (v w : Option A) → OptionIs P v contents
    → OptionIs P w contents → v ≡ w
one_option P once None v w p q = p ∙ sym q
one_option P once (Some text) None w p q = absurd p
one_option P once (Some text) (Some v) None p q = absurd q
one_option P once (Some text) (Some v) (Some w) p q = ap Some (whole_is P once text v w p q)

pub one_names : (fs : List (ℕ × List ℕ)) (v w : Option (List ℕ)) → NamesAre fs v → NamesAre fs w → v ≡ w
one_names [] v w p q = p ∙ sym q
one_names (f ∷ fs) v w p q =
    let late : p.0 ≡ q.0 = one_names fs p.0 q.0 p.1 q.1 in
    elim p.2 [
      | inl a ↦ elim q.2 [ inl b ↦ a.1 ∙ late ∙ sym b.1 | inr b ↦ absurd (a.0 b.0) ]
      | inr a ↦ elim q.2 [
        | inl b ↦ absurd (b.0 a.0)
        | inr b ↦ a.3 ∙ ap (λ (l : Option (List ℕ)). later_of l (named_payload a.1)) late ∙ ap (λ (c : Name × List ℕ). later_of q.0 (named_payload c)) (one_custom f.1 a.1 b.1 a.2 b.2) ∙ sym b.3
      ]
    ]

pub same_frames : (bytes : List ℕ) (m n : Module) (p : Spells bytes m) (q : Spells bytes n) → p.frames ≡ q.frames
same_frames bytes m n p q =
    let rest : p.rest ≡ q.rest = after header header p.rest q.rest refl (sym p.begun ∙ q.begun) in
    one_frames q.rest p.frames q.frames (subst (λ (t : List ℕ). Each SpellsFrame t p.frames) rest p.framed.0) q.framed.0

pub one_module : (bytes : List ℕ) (m n : Module) → Spells bytes m → Spells bytes n → m ≡ n
one_module bytes m n p q =
    let same : q.frames ≡ p.frames = sym (same_frames bytes m n p q) in
    let contents : (id : ℕ) → contents_of id q.frames ≡ contents_of id p.frames = λ id. ap (contents_of id) same in
    let types : m.types ≡ n.types = one_list SpellsTypes once_types _ m.types n.types p.types (subst (ListIs SpellsTypes n.types) (contents 1) q.types) in
    let imports : m.imports ≡ n.imports = one_list SpellsImports once_imports _ m.imports n.imports p.imports (subst (ListIs SpellsImports n.imports) (contents 2) q.imports) in
    let funcs : m.funcs ≡ n.funcs = one_list SpellsFuncs once_funcs _ m.funcs n.funcs p.funcs (subst (ListIs SpellsFuncs n.funcs) (contents 3) q.funcs) in
    let tables : m.tables ≡ n.tables = one_list SpellsTables once_tables _ m.tables n.tables p.tables (subst (ListIs SpellsTables n.tables) (contents 4) q.tables) in
    let mems : m.mems ≡ n.mems = one_list SpellsMems once_mems _ m.mems n.mems p.mems (subst (ListIs SpellsMems n.mems) (contents 5) q.mems) in
    let globals : m.globals ≡ n.globals = one_list SpellsGlobals once_globals _ m.globals n.globals p.globals (subst (ListIs SpellsGlobals n.globals) (contents 6) q.globals) in
    let exports : m.exports ≡ n.exports = one_list SpellsExports once_exports _ m.exports n.exports p.exports (subst (ListIs SpellsExports n.exports) (contents 7) q.exports) in
    let start : m.start ≡ n.start = one_option SpellsU32 once_u32 _ m.start n.start p.start (subst (OptionIs SpellsU32 n.start) (contents 8) q.start) in
    let elems : m.elems ≡ n.elems = one_list SpellsElems once_elems _ m.elems n.elems p.elems (subst (ListIs SpellsElems n.elems) (contents 9) q.elems) in
    let bodies : m.bodies ≡ n.bodies = one_list SpellsBodies once_bodies _ m.bodies n.bodies p.bodies (subst (ListIs SpellsBodies n.bodies) (contents 10) q.bodies) in
    let segments : m.segments ≡ n.segments = one_list SpellsSegments once_segments _ m.segments n.segments p.segments (subst (ListIs SpellsSegments n.segments) (contents 11) q.segments) in
    let names : m.names ≡ n.names = one_names p.frames m.names n.names p.names (subst (λ (fs : List (ℕ × List ℕ)). NamesAre fs n.names) same q.names) in
    let all : (let a : Module = record { types = m.types; imports = m.imports; funcs = m.funcs; tables = m.tables; mems = m.mems; globals = m.globals; exports = m.exports; start = m.start; elems = m.elems; bodies = m.bodies; segments = m.segments; names = m.names } in a) ≡ (let b : Module = record { types = n.types; imports = n.imports; funcs = n.funcs; tables = n.tables; mems = n.mems; globals = n.globals; exports = n.exports; start = n.start; elems = n.elems; bodies = n.bodies; segments = n.segments; names = n.names } in b) = cc (types, imports, funcs, tables, mems, globals, exports, start, elems, bodies, segments, names) in
    all

-- ---- a text to its end

pub drop_all : (xs : List ℕ) → drop (length xs) xs ≡ []
drop_all [] = refl
drop_all (x ∷ xs) = drop_all xs

pub whole : {A : Type 0} (P : List ℕ → A → Type 0) (part : List ℕ) (v : A) → Stands P part 0 (length part) v → P part v
whole {A} P part v s =
    let none : drop (length part) part ≡ [] = drop_all part in
    let e : part ≡ s.text = s.here ∙ ap (λ (t : List ℕ). s.text ++ t) none ∙ append-nil s.text in
    subst (λ (t : List ℕ). P t v) (sym e) s.spelled

pub not_whole : {A : Type 0} (P : List ℕ → A → Type 0) (part : List ℕ) (end : ℕ) (v w : A) → IsOnce P → Stands P part 0 end v → end < length part → P part w → ⊥
not_whole {A} P part end v w once s lt p =
    let e : part ++ [] ≡ s.text ++ drop end part = append-nil part ∙ s.here in
    let r = once part s.text [] (drop end part) w v p s.spelled e in
    let f : [] ≡ drop end part = after part s.text [] (drop end part) r.0 e in
    omega (arith, ap length f, length-drop end part)

pub none_whole : {A : Type 0} (P : List ℕ → A → Type 0) (part : List ℕ) (w : A) → NoneStands P part 0 → P part w → ⊥
none_whole P part w none p = none part [] w (sym (append-nil part)) p
