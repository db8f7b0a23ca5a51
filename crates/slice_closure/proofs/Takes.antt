-- What positions take and touch, by the sites: and what the sites of a body have in common.
use Rattle.std.proofs.Common.{◌≡◌, ℕ, zero, suc, ◌+◌, List, [], ◌∷◌, ◌++◌, Bool, Some, None, replicate, drop, length, length-append, refl, ap, sym, ◌∙◌, subst, arith}
use Rattle.std.specs.Prelude.{slice_get}
use Rattle.wasm_types.specs.declared.place.Node.{Node}
use Rattle.wasm_types.specs.declared.instr.Instr.{Instr, Block', Loop', If'}
use Rattle.wasm_types.specs.declared.instr.Instr as instr
use Rattle.wasm_types.specs.Code.{Code, done, one, block, repeat, branch, count}
use Rattle.wasm_types.specs.Marked.{Marked, plain, marked, size}
use Rattle.wasm_types.specs.Nodes.{Join, named}
use Rattle.wasm_types.specs.Labels.{Label, arity, block_label, loop_label}
use Rattle.wasm_types.specs.Actions.{Callees}
use Rattle.wasm_types.specs.Sites.{Site, Sites, IsSite, sites}
use Rattle.block_cfg.proofs.SiteLemmas.{size_marked}
use Rattle.slice_closure.specs.Flow.{Doing, does_by, does_at, doings}

-- ---- positions and sites, one by one

pub length-doings : (c : Code) → length (doings c) ≡ count c
length-doings done = refl
length-doings (one op rest) = omega (arith, length-doings rest)
length-doings (block kind inner rest) = omega (arith, length-append (doings inner) (doings rest), length-doings inner, length-doings rest)
length-doings (repeat kind inner rest) = omega (arith, length-append (doings inner) (doings rest), length-doings inner, length-doings rest)
length-doings (branch kind x y rest) =
    omega (
      arith,
      length-append (doings x) (doings y ++ doings rest),
      length-append (doings y)
          (doings rest),
      length-doings x,
      length-doings y,
      length-doings rest,
    )

-- A live position does this, and is watched where w says so; the positions are counted from q.
abbrev Fit : (ℕ → Bool) → ℕ → List Doing → Sites → Type 0
Fit w q [] [] = Unit {0}
Fit w q (a ∷ list) (None ∷ S) = Fit w (q + 1) list S
Fit w q (a ∷ list) (Some s ∷ S) = (a ≡ does_at s.head) × ((s.mark ≡ w q) × Fit w (q + 1) list S)
Fit w q _ _ = ⊥

fit_from : (w : ℕ → Bool) (q r : ℕ) (list : List Doing) (S : Sites) → q ≡ r → Fit w q list S → Fit w r list S
fit_from w q r list S e f = subst (λ n. Fit w n list S) e f

fit_append : (w : ℕ → Bool) (q r : ℕ) (a b : List Doing) (S T : Sites) → r ≡ q + length a → Fit w q a S → Fit w r b T → Fit w q (a ++ b) (S ++ T)
fit_append w q r [] b [] T e f g = fit_from w r q b T (omega arith) g
fit_append w q r [] b (s ∷ S) T e f g = absurd f
fit_append w q r (x ∷ a) b [] T e f g = absurd f
fit_append w q r (x ∷ a) b (None ∷ S) T e f g = fit_append w (q + 1) r a b S T (omega arith) f g
fit_append w q r (x ∷ a) b (Some s ∷ S) T e f g = (f.0, (f.1.0, fit_append w (q + 1) r a b S T (omega arith) f.1.1 g))

fit_dead : (w : ℕ → Bool) (q n : ℕ) (list : List Doing) → length list ≡ n → Fit w q list (replicate n None)
fit_dead w q zero [] e = tt
fit_dead w q zero (a ∷ list) e = absurd (omega arith)
fit_dead w q (suc n) [] e = absurd (omega arith)
fit_dead w q (suc n) (a ∷ list) e = fit_dead w (q + 1) n list (omega arith)

module _ (cs : Callees) (w : ℕ → Bool) where
  fit_rest : (q r : ℕ) (c : Code) → Fit w r (doings c) (replicate (size (marked w q c)) None)
  fit_rest q r c = fit_dead w r (size (marked w q c)) (doings c) (length-doings c ∙ sym (size_marked w c q))

  fit_plain : (ctx : List Label) (k : Node) (q : ℕ) (op : Instr) (M : Marked) (c : Code) (p : ℕ) (names : List Node)
      → ((names' : List Node) → Fit w (q + 1) (doings c) (sites cs ctx k M (p + 1) names')) → Fit w (q + 1) (doings c) (replicate (size M) None)
      → Fit w q (does_by op ∷ doings c) (sites cs ctx k (plain (w q) op M) p names)
  fit_plain ctx k q (instr.Br l) M c p names live dead = (refl, (refl, dead))
  fit_plain ctx k q (instr.BrIf l) M c p names live dead = (refl, (refl, live _))
  fit_plain ctx k q (instr.BrTable labels other) M c p names live dead = (refl, (refl, dead))
  fit_plain ctx k q instr.Return M c p names live dead = (refl, (refl, dead))
  fit_plain ctx k q instr.Unreachable M c p names live dead = (refl, (refl, dead))
  fit_plain ctx k q op M c p names live dead = (refl, (refl, live _))

  fit_code : (c : Code) (ctx : List Label) (k : Node) (q p : ℕ) (names : List Node) → Fit w q (doings c) (sites cs ctx k (marked w q c) p names)
  fit_code done ctx k q p names = tt
  fit_code (one op rest) ctx k q p names =
      fit_plain ctx k q op (marked w (q + 1) rest) rest p names (λ names'. fit_code rest ctx k (q + 1) (p + 1) names') (fit_rest (q + 1) (q + 1) rest)
  fit_code (block kind body rest) ctx k q p names =
      let B = marked w (q + 1) body in let e = p + 1 + size B in (
        refl,
        (
          refl,
          fit_append w (q + 1) (q + 1 + count body) (doings body) (doings rest) _ _ (omega (arith, length-doings body))
              (fit_code body (block_label p (arity kind) e ∷ ctx) (Join p) (q + 1) (p + 1) [])
              (fit_code rest ctx k (q + 1 + count body) e (named (arity kind) (Join p) names)),
        ),
      )
  fit_code (repeat kind body rest) ctx k q p names =
      let B = marked w (q + 1) body in let e = p + 1 + size B in (
        refl,
        (
          refl,
          fit_append w (q + 1) (q + 1 + count body) (doings body) (doings rest) _ _ (omega (arith, length-doings body))
              (fit_code body (loop_label p e ∷ ctx) (Join p) (q + 1) (p + 1) [])
              (fit_code rest ctx k (q + 1 + count body) e (named (arity kind) (Join p) names)),
        ),
      )
  fit_code (branch kind x y rest) ctx k q p names =
      let X = marked w (q + 1) x in let Y = marked w (q + 1 + count x) y in let e = p + 1 + size X + size Y in (
        refl,
        (
          refl,
          fit_append w (q + 1) (q + 1 + count x) (doings x) (doings y ++ doings rest) _ _ (omega (arith, length-doings x))
              (fit_code x (block_label p (arity kind) e ∷ ctx) (Join p) (q + 1) (p + 1) [])
              (fit_append w (q + 1 + count x) (q + 1 + count x + count y) (doings y) (doings rest) _ _ (omega (arith, length-doings y))
              (fit_code y (block_label p (arity kind) e ∷ ctx) (Join p) (q + 1 + count x) (p + 1 + size X) [])
              (fit_code rest ctx k (q + 1 + count x + count y) e (named (arity kind) (Join p) (drop 1 names)))),
        ),
      )

fit_at : (w : ℕ → Bool) (q : ℕ) (list : List Doing) (S : Sites) → Fit w q list S → (p : ℕ) (s : Site) → IsSite S p s
    → (slice_get list p ≡ Some (does_at s.head)) × (s.mark ≡ w (q + p))
fit_at w q [] [] f p s is = absurd cc
fit_at w q [] (t ∷ S) f p s is = absurd f
fit_at w q (a ∷ list) [] f p s is = absurd f
fit_at w q (a ∷ list) (None ∷ S) f zero s is = absurd cc
fit_at w q (a ∷ list) (None ∷ S) f (suc p) s is = let r = fit_at w (q + 1) list S f p s is in (r.0, r.1 ∙ ap w (omega arith))
fit_at w q (a ∷ list) (Some t ∷ S) f zero s is =
    let same : t ≡ s = cc in
    (ap Some f.0 ∙ ap (λ (z : Site). Some (does_at z.head)) same, ap (λ (z : Site). z.mark) (sym same) ∙ (f.1.0 ∙ ap w (omega arith)))
fit_at w q (a ∷ list) (Some t ∷ S) f (suc p) s is = let r = fit_at w (q + 1) list S f.1.1 p s is in (r.0, r.1 ∙ ap w (omega arith))

-- what a live position of a body does, and whether it is watched
pub takes_at : (cs : Callees) (w : ℕ → Bool) (c : Code) (ctx : List Label) (k : Node) (p : ℕ) (s : Site) → IsSite (sites cs ctx k (marked w 0 c) 0 []) p s
    → (slice_get (doings c) p ≡ Some (does_at s.head)) × (s.mark ≡ w p)
takes_at cs w c ctx k p s is =
    let r = fit_at w 0 (doings c) (sites cs ctx k (marked w 0 c) 0 []) (fit_code cs w c ctx k 0 0 []) p s is in (r.0, r.1 ∙ ap w (omega arith))
