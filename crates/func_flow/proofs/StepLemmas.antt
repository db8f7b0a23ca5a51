-- What a walk finds at the positions, and by the sites.
use Rattle.std.proofs.Common.{◌≡◌, ℕ, zero, suc, ◌+◌, List, [], ◌∷◌, ◌++◌, Bool, true, Option, Some, None, replicate, drop, length, length-append}
use Rattle.std.proofs.Common.{refl, ap, sym, ◌∙◌, arith, append_assoc}
use Rattle.std.specs.Prelude.{slice_get}
use Rattle.std.proofs.lemmas.List.{append-nil}
use Rattle.wasm_types.specs.declared.module.ValType.{ValType}
use Rattle.wasm_types.specs.declared.place.Node.{Node}
use Rattle.wasm_types.specs.declared.instr.Instr.{Instr, Block', Loop', If'}
use Rattle.wasm_types.specs.declared.instr.Instr as instr
use Rattle.wasm_types.specs.declared.instr.Instr.TheVariants.{Block, Loop, If}
use Rattle.wasm_types.specs.Code.{Code, done, one, block, repeat, branch, onto, code_of_row, code_of, count, is_plain}
use Rattle.wasm_types.specs.Marked.{Marked, plain, marked, size}
use Rattle.wasm_types.specs.Nodes.{Join, named, made}
use Rattle.wasm_types.specs.Labels.{Label, arity, block_label, loop_label}
use Rattle.wasm_types.specs.Actions.{Callees}
use Rattle.wasm_types.specs.Sites.{Site, Sites, IsSite, sites}
use Rattle.wasm_types.proofs.CodeLemmas.{onto-block, onto-loop, onto-if, onto-one}
use Rattle.block_cfg.proofs.SiteLemmas.{size_marked}
use Rattle.func_flow.specs.declared.steps.Picks.TheVariants.{Nothing}
use Rattle.func_flow.specs.declared.steps.Step.{Step}
use Rattle.func_flow.specs.Steps.{deciding, choosing, head_step, instr_step, steps}

-- ---- what the walk finds

module _ (i : Instr) (a b : List Step) where
  pub block_steps : (k : Option ValType) (xs : List Instr) (c : List Step) → b ≡ a ++ deciding Nothing ∷ [] → i ≡ Block k xs → c ≡ b ++ steps (code_of xs)
      → c ≡ a ++ steps (onto i done)
  block_steps k xs c made is more =
      let e : onto i done ≡ block k (code_of xs) done = ap (λ (z : Instr). onto z done) is ∙ onto-block k xs done in
      rw (e, more, made, append-nil (steps (code_of xs))) (append_assoc a (deciding Nothing ∷ []) (steps (code_of xs)))

  pub loop_steps : (k : Option ValType) (xs : List Instr) (c : List Step) → b ≡ a ++ deciding Nothing ∷ [] → i ≡ Loop k xs → c ≡ b ++ steps (code_of xs)
      → c ≡ a ++ steps (onto i done)
  loop_steps k xs c made is more =
      let e : onto i done ≡ repeat k (code_of xs) done = ap (λ (z : Instr). onto z done) is ∙ onto-loop k xs done in
      rw (e, more, made, append-nil (steps (code_of xs))) (append_assoc a (deciding Nothing ∷ []) (steps (code_of xs)))

  pub if_steps : (k : Option ValType) (xs ys : List Instr) (c d : List Step) → b ≡ a ++ choosing ∷ [] → i ≡ If k xs ys → c ≡ b ++ steps (code_of xs)
      → d ≡ c ++ steps (code_of ys) → d ≡ a ++ steps (onto i done)
  if_steps k xs ys c d made is more also =
      let e : onto i done ≡ branch k (code_of xs) (code_of ys) done = ap (λ (z : Instr). onto z done) is ∙ onto-if k xs ys done in
      rw (e, also, more, made, append-nil (steps (code_of ys)))
      (append_assoc (a ++ choosing ∷ []) (steps (code_of xs)) (steps (code_of ys))
      ∙ append_assoc a (choosing ∷ []) (steps (code_of xs) ++ steps (code_of ys)))

  pub one_step : b ≡ a ++ instr_step i ∷ [] → is_plain i ≡ true → b ≡ a ++ steps (onto i done)
  one_step made h = rw (onto-one i done h, made) refl

-- of an instruction, and then of the rest
steps-onto : (i : Instr) (rest : Code) → steps (onto i rest) ≡ steps (onto i done) ++ steps rest
unfolding onto code_of_row
steps-onto (Block' k m inner) rest = ap (λ (xs : List Step). deciding Nothing ∷ (xs ++ steps rest)) (sym (append-nil (steps (code_of_row inner))))
steps-onto (Loop' k m inner) rest = ap (λ (xs : List Step). deciding Nothing ∷ (xs ++ steps rest)) (sym (append-nil (steps (code_of_row inner))))
steps-onto (If' k m first n second) rest =
    let x : List Step = steps (code_of_row first) in let y : List Step = steps (code_of_row second) in
    ap (λ (xs : List Step). choosing ∷ xs) (sym (append_assoc x y (steps rest)) ∙ ap (λ (z : List Step). (x ++ z) ++ steps rest) (sym (append-nil y)))
steps-onto _ rest = refl

pub steps-next : (i : Instr) (rest : Code) (a b all : List Step) → b ≡ a ++ steps (onto i done) → a ++ steps (onto i rest) ≡ all → b ++ steps rest ≡ all
steps-next i rest a b all made e =
    rw made (append_assoc a (steps (onto i done)) (steps rest) ∙ (ap (λ (xs : List Step). a ++ xs) (sym (steps-onto i rest)) ∙ e))

-- ---- positions and sites, one by one

pub length-steps : (c : Code) → length (steps c) ≡ count c
length-steps done = refl
length-steps (one op rest) = omega (arith, length-steps rest)
length-steps (block kind inner rest) = omega (arith, length-append (steps inner) (steps rest), length-steps inner, length-steps rest)
length-steps (repeat kind inner rest) = omega (arith, length-append (steps inner) (steps rest), length-steps inner, length-steps rest)
length-steps (branch kind x y rest) =
    omega (
      arith,
      length-append (steps x) (steps y ++ steps rest),
      length-append (steps y) (steps rest),
      length-steps x,
      length-steps y,
      length-steps rest,
    )

-- a live position has this step
abbrev Fit : List Step → Sites → Type 0
Fit [] [] = Unit {0}
Fit (a ∷ list) (None ∷ S) = Fit list S
Fit (a ∷ list) (Some s ∷ S) = (a ≡ head_step s.head) × Fit list S
Fit _ _ = ⊥

fit_append : (a b : List Step) (S T : Sites) → Fit a S → Fit b T → Fit (a ++ b) (S ++ T)
fit_append [] b [] T f g = g
fit_append [] b (s ∷ S) T f g = absurd f
fit_append (x ∷ a) b [] T f g = absurd f
fit_append (x ∷ a) b (None ∷ S) T f g = fit_append a b S T f g
fit_append (x ∷ a) b (Some s ∷ S) T f g = (f.0, fit_append a b S T f.1 g)

fit_dead : (n : ℕ) (list : List Step) → length list ≡ n → Fit list (replicate n None)
fit_dead zero [] e = tt
fit_dead zero (a ∷ list) e = absurd (omega arith)
fit_dead (suc n) [] e = absurd (omega arith)
fit_dead (suc n) (a ∷ list) e = fit_dead n list (omega arith)

module _ (cs : Callees) (w : ℕ → Bool) where
  fit_rest : (q : ℕ) (c : Code) → Fit (steps c) (replicate (size (marked w q c)) None)
  fit_rest q c = fit_dead (size (marked w q c)) (steps c) (length-steps c ∙ sym (size_marked w c q))

  fit_plain : (ctx : List Label) (k : Node) (q : ℕ) (op : Instr) (M : Marked) (c : Code) (p : ℕ) (names : List Node)
      → ((names' : List Node) → Fit (steps c) (sites cs ctx k M (p + 1) names')) → Fit (steps c) (replicate (size M) None)
      → Fit (instr_step op ∷ steps c) (sites cs ctx k (plain (w q) op M) p names)
  fit_plain ctx k q (instr.Br l) M c p names live dead = (refl, dead)
  fit_plain ctx k q (instr.BrIf l) M c p names live dead = (refl, live _)
  fit_plain ctx k q (instr.BrTable labels other) M c p names live dead = (refl, dead)
  fit_plain ctx k q instr.Return M c p names live dead = (refl, dead)
  fit_plain ctx k q instr.Unreachable M c p names live dead = (refl, dead)
  fit_plain ctx k q op M c p names live dead = (refl, live _)

  fit_code : (c : Code) (ctx : List Label) (k : Node) (q p : ℕ) (names : List Node) → Fit (steps c) (sites cs ctx k (marked w q c) p names)
  fit_code done ctx k q p names = tt
  fit_code (one op rest) ctx k q p names =
      fit_plain ctx k q op (marked w (q + 1) rest) rest p names (λ names'. fit_code rest ctx k (q + 1) (p + 1) names') (fit_rest (q + 1) rest)
  fit_code (block kind body rest) ctx k q p names =
      let B = marked w (q + 1) body in let e = p + 1 + size B in (
        refl,
        fit_append (steps body) (steps rest) _ _
            (fit_code body (block_label p (arity kind) e ∷ ctx) (Join p) (q + 1) (p + 1) [])
            (fit_code rest ctx k (q + 1 + count body) e (named (arity kind) (Join p) names)),
      )
  fit_code (repeat kind body rest) ctx k q p names =
      let B = marked w (q + 1) body in let e = p + 1 + size B in (
        refl,
        fit_append (steps body) (steps rest) _ _
            (fit_code body (loop_label p e ∷ ctx) (Join p) (q + 1) (p + 1) [])
            (fit_code rest ctx k (q + 1 + count body) e (named (arity kind) (Join p) names)),
      )
  fit_code (branch kind x y rest) ctx k q p names =
      let X = marked w (q + 1) x in let Y = marked w (q + 1 + count x) y in let e = p + 1 + size X + size Y in (
        refl,
        fit_append (steps x) (steps y ++ steps rest) _ _
            (fit_code x (block_label p (arity kind) e ∷ ctx) (Join p) (q + 1) (p + 1) [])
            (fit_append (steps y) (steps rest) _ _
            (fit_code y (block_label p (arity kind) e ∷ ctx) (Join p) (q + 1 + count x) (p + 1 + size X) [])
            (fit_code rest ctx k (q + 1 + count x + count y) e (named (arity kind) (Join p) (drop 1 names)))),
      )

fit_at : (list : List Step) (S : Sites) → Fit list S → (p : ℕ) (s : Site) → IsSite S p s → slice_get list p ≡ Some (head_step s.head)
fit_at [] [] f p s is = absurd cc
fit_at [] (t ∷ S) f p s is = absurd f
fit_at (a ∷ list) [] f p s is = absurd f
fit_at (a ∷ list) (None ∷ S) f zero s is = absurd cc
fit_at (a ∷ list) (None ∷ S) f (suc p) s is = fit_at list S f p s is
fit_at (a ∷ list) (Some t ∷ S) f zero s is = let same : t ≡ s = cc in ap Some f.0 ∙ ap (λ (z : Site). Some (head_step z.head)) same
fit_at (a ∷ list) (Some t ∷ S) f (suc p) s is = fit_at list S f.1 p s is

-- what stands at a live position
pub step_at : (cs : Callees) (w : ℕ → Bool) (c : Code) (ctx : List Label) (k : Node) (p : ℕ) (s : Site) → IsSite (sites cs ctx k (marked w 0 c) 0 []) p s
    → slice_get (steps c) p ≡ Some (head_step s.head)
step_at cs w c ctx k p s is = fit_at (steps c) (sites cs ctx k (marked w 0 c) 0 []) (fit_code cs w c ctx k 0 0 []) p s is
