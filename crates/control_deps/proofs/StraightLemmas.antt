-- In a body without blocks and branches nothing is around a position, and nothing decides about a node.
use Rattle.std.proofs.Common.{◌≡◌, ℕ, zero, suc, ◌+◌, ◌<◌, ◌&&◌, Bool, true, false, List, [], ◌∷◌, Option, Some, None, length}
use Rattle.std.proofs.Common.{refl, sym, ap, ap₂, ◌∙◌, subst, arith}
use Rattle.std.specs.Prelude.{slice_get}
use Rattle.std.specs.List.{Contains}
use Rattle.wasm_types.specs.declared.instr.Instr.{Instr, Block', Loop', If'}
use Rattle.wasm_types.specs.declared.instr.Instr as instr
use Rattle.wasm_types.specs.declared.module.Body.{Body}
use Rattle.wasm_types.specs.declared.module.Pos.{Pos}
use Rattle.wasm_types.specs.declared.place.Node.{Node}
use Rattle.wasm_types.specs.declared.place.Node.TheVariants as node
use Rattle.wasm_types.specs.Actions.{Callees}
use Rattle.wasm_types.specs.Code.{Code, code_of, onto, is_plain}
use Rattle.wasm_types.specs.Marked.{marked}
use Rattle.wasm_types.specs.Shadow.{InShadow}
use Rattle.wasm_types.specs.Sites.{body_sites}
use Rattle.wasm_types.proofs.CodeLemmas.{onto-one}
use Rattle.block_cfg.specs.Walk.{goes_on}
use Rattle.control_deps.specs.declared.deciders.Row.{Row}
use Rattle.control_deps.specs.declared.spot.Form.{Form}
use Rattle.control_deps.specs.declared.spot.Form.TheVariants as form
use Rattle.control_deps.specs.declared.spot.Spot.{Spot}
use Rattle.control_deps.specs.Deciders.{AreDeciders, Tells}
use Rattle.control_deps.specs.Nearest.{AreNearest, Table, nearest_in}
use Rattle.control_deps.specs.Nest.{IsNestOf}
use Rattle.control_deps.specs.Spots.{form_of, place, spots_in}
use Rattle.control_deps.specs.Straight.{is_straight, all_straight, straight, spots_back}
use Rattle.control_deps.proofs.ShadowLemmas.{is_branch, tells_no_spot, tells_other}

-- ---- instructions

record Straight (i : Instr) : Type 0 where
  plain : is_plain i ≡ true
  goes : goes_on i ≡ true
  other : form_of 0 i ≡ form.Other

straight_is : (i : Instr) → is_straight i ≡ true → Straight i
straight_is (Block' kind m inner) e = absurd cc
straight_is (Loop' kind m inner) e = absurd cc
straight_is (If' kind m first n second) e = absurd cc
straight_is (instr.Br l) e = absurd cc
straight_is (instr.BrIf l) e = absurd cc
straight_is (instr.BrTable some other) e = absurd cc
straight_is instr.Return e = absurd cc
straight_is instr.Unreachable e = absurd cc
straight_is i e = record { plain = refl; goes = refl; other = refl }

both : (a b : Bool) → (a && b) ≡ true → (a ≡ true) × (b ≡ true)
both true b e = (refl, e)
both false b e = absurd cc

-- ---- positions

one_straight : (i : Instr) (rest : Code) (p : ℕ) (more : List Spot) → Straight i → spots_in true None 0 rest (p + 1) ≡ more
    → spots_in true None 0 (onto i rest) p ≡ record { around = None; stop = p + 1; live = true; form = form.Other } ∷ more
one_straight i rest p more s e =
    ap (λ c. spots_in true None 0 c p) (onto-one i rest s.plain)
    ∙ ap₂ (λ (f : Form) (xs : List Spot). record { around = None; stop = p + 1; live = true; form = f } ∷ xs) s.other
    (ap (λ (b : Bool). spots_in (b && true) None 0 rest (p + 1)) s.goes ∙ e)

pub straight_spots : (is : List Instr) (p : ℕ) → all_straight is ≡ true → spots_in true None 0 (code_of is) p ≡ straight p (length is)
straight_spots [] p e = refl
straight_spots (i ∷ rest) p e =
    let h = both (is_straight i) (all_straight rest) e in
    one_straight i (code_of rest) p (straight (p + 1) (length rest)) (straight_is i h.0) (straight_spots rest (p + 1) h.1)

pub back_all : (n : ℕ) (spots : List Spot) → n ≡ 0 → spots_back n spots ≡ spots
back_all zero spots e = refl
back_all (suc n) spots e = absurd (omega arith)

pub back_straight : (n : ℕ) (spots : List Spot) → (n ≡ 0 → ⊥) → spots_back n spots ≡ straight 0 n
back_straight zero spots some = absurd (some refl)
back_straight (suc n) spots some = refl

-- what is kept of straight code is what its positions are
pub straight_back : (is : List Instr) (spots : List Spot) → spots ≡ [] → all_straight is ≡ true
    → spots_back (length is) spots ≡ spots_in true None 0 (code_of is) 0
straight_back [] spots none e = none
straight_back (i ∷ rest) spots none e = sym (straight_spots (i ∷ rest) 0 e)

record IsSpot (x : Spot) : Type 0 where
  pub nothing : x.around ≡ None
  pub other : x.form ≡ form.Other

spot_of : (n p k : ℕ) (x : Spot) → slice_get (straight p n) k ≡ Some x → IsSpot x
spot_of zero p k x e = absurd cc
spot_of (suc n) p zero x e =
    let same : record { around = None; stop = p + 1; live = true; form = form.Other } ≡ x = cc in
    record { nothing = ap (λ (z : Spot). z.around) (sym same); other = ap (λ (z : Spot). z.form) (sym same) }
spot_of (suc n) p (suc k) x e = spot_of n (p + 1) k x e

pub length_straight : (n p : ℕ) → length (straight p n) ≡ n
length_straight zero p = refl
length_straight (suc n) p = ap suc (length_straight n (p + 1))

-- around each of the positions there is nothing
pub nothing_around : (n p k : ℕ) → k < n → (x : Spot) × ((slice_get (straight p n) k ≡ Some x) × (x.around ≡ None))
nothing_around zero p k lt = absurd (omega arith)
nothing_around (suc n) p zero lt = (record { around = None; stop = p + 1; live = true; form = form.Other }, (refl, refl))
nothing_around (suc n) p (suc k) lt = nothing_around n (p + 1) k (omega arith)

-- ---- shadows

not_if : (f : Form) → f ≡ form.Other → f ≡ form.If → ⊥
not_if f e h = let clash : form.Other ≡ form.If = sym e ∙ h in absurd cc

pub straight_tells : (n p : ℕ) (k : Node) → Tells (straight 0 n) p k false
straight_tells n p k = go (slice_get (straight 0 n) p) refl
  where
    go : (o : Option Spot) → slice_get (straight 0 n) p ≡ o → Tells (straight 0 n) p k false
    go None e = tells_no_spot (straight 0 n) p k e
    go (Some x) e =
        let other = (spot_of n 0 p x e).other in
        tells_other (straight 0 n) p k x e (ap is_branch other) (not_if x.form other)

pub tells_straight : (nest : List Spot) → (n : ℕ) × (nest ≡ straight 0 n) → (p : ℕ) (k : Node) → Tells nest p k false
tells_straight nest (n, e) p k = subst (λ z. Tells z p k false) (sym e) (straight_tells n p k)

no_shadow : (nest : List Spot) → (n : ℕ) × (nest ≡ straight 0 n) → (body : Body) → IsNestOf body nest → (cs : Callees) (t : ℕ) (w : ℕ → Bool) (p : ℕ) (k : Node)
    → InShadow (body_sites cs t (marked w 0 (code_of body.code))) p k → ⊥
no_shadow nest s body is cs t w p k h = let on : false ≡ true = (tells_straight nest s p k body is cs t w).1 h in absurd cc

-- so no decider is found
pub deciders_straight : (nest : List Spot) → (n : ℕ) × (nest ≡ straight 0 n) → (k : Node) (found : List Pos) → found ≡ [] → AreDeciders nest k found
deciders_straight nest s k found e body is cs t w p = (
  λ has. absurd (let none : Contains [] (place p) = subst (λ (z : List Pos). Contains z (place p)) e has in omega (arith, none.1)),
  λ h. absurd (no_shadow nest s body is cs t w p k h),
)

abbrev Empty : Table
Empty = record { rows = []; exits = [] }

none_near : (k : Node) → ((nearest_in Empty k).earlier ≡ None) × ((nearest_in Empty k).latest ≡ None)
none_near (node.At p) = (refl, refl)
none_near (node.Join b) = (refl, refl)
none_near node.Exit = (refl, refl)

none_some : (o : Option Pos) (p : Pos) → o ≡ None → o ≡ Some p → ⊥
none_some o p e f = let clash : None ≡ Some p = sym e ∙ f in absurd cc

pub near_straight : (nest : List Spot) → (n : ℕ) × (nest ≡ straight 0 n) → AreNearest nest Empty
near_straight nest s body is cs t w =
    let none = no_shadow nest s body is cs t w in
    record {
      earlier = λ k p e. absurd (none_some (nearest_in Empty k).earlier p (none_near k).0 e);
      latest = λ k p e. absurd (none_some (nearest_in Empty k).latest p (none_near k).1 e);
      all = λ p k h. absurd (none p k h);
      found = λ p k h. absurd (none p k h);
    }

-- tables without rows
pub near_empty : (nest : List Spot) → (n : ℕ) × (nest ≡ straight 0 n) → (rows : List Row) (exits : List (Option Pos)) → rows ≡ [] → exits ≡ []
    → AreNearest nest (record { rows = rows; exits = exits })
near_empty nest s rows exits e f = subst (λ (t : Table). AreNearest nest t)
    (sym (ap₂ (λ (r : List Row) (x : List (Option Pos)). record { rows = r; exits = x }) e f)) (near_straight nest s)
