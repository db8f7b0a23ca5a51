-- Typed code has the heights that the simulation asks for, and a set that holds the needed places is shown.
use Rattle.std.proofs.Common.{◌≡◌, ℕ, zero, suc, ◌+◌, ◌≤◌, inl, inr, List, [], ◌∷◌, Bool, true, Option, Some, None, drop, length, slice_get, refl, sym, ap, ◌∙◌, arith, length-drop}
use Rattle.std.specs.Prelude.{All}
use Rattle.std.proofs.lemmas.List.{length-map}
use Rattle.std.proofs.lemmas.List.Elements.{All-head, All-tail}
use Rattle.wasm_types.specs.declared.module.ValType.{ValType}
use Rattle.wasm_types.specs.declared.instr.Instr.{Instr}
use Rattle.wasm_types.specs.Marked.{Marked, End, Do, Block, Loop, If, Br, BrIf, BrTable, Return, Unreachable, size}
use Rattle.wasm_types.specs.Typing.{Context, Types}
use Rattle.wasm_types.specs.Validity.{values_of}
use Rattle.wasm_types.specs.Actions.{Callees, callees, takes, leaves}
use Rattle.wasm_types.specs.Labels.{arity, carried, outermost}
use Rattle.wasm_types.specs.declared.place.Node.{Node}
use Rattle.wasm_types.specs.Nodes.{At, Join, named, made, AllIn, every}
use Rattle.wasm_types.specs.declared.place.Node.TheVariants.{Exit}
use Rattle.wasm_types.specs.Sites.{OneOf, Site, Sites, IsSite, EndAt, all_operands, Among}
use Rattle.flow_domain.specs.Heights.{HasLabel, Shaped}
use Rattle.flow_domain.specs.Presence.{maker, result, operand, left, at_exit, HoldsNeeded}
use Rattle.stack_repair.proofs.Typed.{Typed}
use Rattle.stack_repair.proofs.CutTyping.{arity-values}
use Rattle.stack_repair.proofs.Positions.{all_first}
use Rattle.stack_repair.proofs.Needed.{carries_long, test_long}

-- the labels' numbers of values
pub record Numbered (ls : List ℕ) (Ls : List (List ValType)) (res : List ValType) : Type 0 where
  pub at : (l : ℕ) (t : List ValType) → slice_get Ls l ≡ Some t → HasLabel ls l × (carried ls l ≡ length t)
  pub outer : (x : ℕ) → HasLabel (x ∷ ls) (length ls) × (carried (x ∷ ls) (length ls) ≡ length res)
  pub last : HasLabel ls (outermost ls) × (carried ls (outermost ls) ≡ length res)

some_is : {x y : List ValType} → Some x ≡ Some y → x ≡ y
some_is e = cc

numbered_more : (ls : List ℕ) (Ls : List (List ValType)) (res : List ValType) (n : ℕ) (t : List ValType) → n ≡ length t → Numbered ls Ls res
    → Numbered (n ∷ ls) (t ∷ Ls) res
numbered_more ls Ls res n t e h = record { at = go; outer = λ x. h.outer n; last = h.outer n }
  where
    go : (l : ℕ) (u : List ValType) → slice_get (t ∷ Ls) l ≡ Some u → HasLabel (n ∷ ls) l × (carried (n ∷ ls) l ≡ length u)
    go zero u f = (tt, e ∙ ap length (some_is f))
    go (suc l) u f = h.at l u f

pub numbered_body : (res : List ValType) → Numbered (length res ∷ []) (res ∷ []) res
numbered_body res = record { at = go; outer = λ x. (tt, refl); last = (tt, refl) }
  where
    go : (l : ℕ) (u : List ValType) → slice_get (res ∷ []) l ≡ Some u → HasLabel (length res ∷ []) l × (carried (length res ∷ []) l ≡ length u)
    go zero u f = (tt, ap length (some_is f))
    go (suc l) u f = absurd cc

length-named : (k : ℕ) (d : Node) (names : List Node) → k ≤ 1 → length (named k d names) ≡ k + length names
length-named zero d names le = omega arith
length-named (suc zero) d names le = omega arith
length-named (suc (suc k)) d names le = absurd (omega arith)

arity-few : (t : Option ValType) → arity t ≤ 1
arity-few None = omega arith
arity-few (Some t) = omega arith

one_of : (ls : List (List ValType)) (s : List ValType) (labels : List ℕ) (other l : ℕ) → slice_get ls other ≡ Some s
    → All (λ k. slice_get ls k ≡ Some s) labels → OneOf labels other l → slice_get ls l ≡ Some s
one_of ls s [] other l at each e = ap (slice_get ls) e ∙ at
one_of ls s (x ∷ labels) other l at each (inl e) = ap (slice_get ls) e ∙ All-head (λ k. slice_get ls k ≡ Some s) x labels each
one_of ls s (x ∷ labels) other l at each (inr o) = one_of ls s labels other l at (All-tail (λ k. slice_get ls k ≡ Some s) x labels each) o

module _ (c : Context) (T : Node → ValType) (W : Instr → Type 0) (typed : (op : Instr) (t l : List ValType) → Types c op t l → W op) where
  pub shaped_of : (ls : List ℕ) (Ls : List (List ValType)) (t : Option ValType) (code : Marked) (p n : ℕ) (names : List Node) → n ≡ length names
      → Numbered ls Ls c.result → Typed c T Ls t code p names → Shaped (callees c.inside) W ls (arity t) code n
  shaped_of ls Ls t End p n names e lab ty = e ∙ sym (length-map names T) ∙ ap length ty ∙ sym (arity-values t)
  shaped_of ls Ls t (Do m op rest) p n names e lab ty =
      let cs = callees c.inside in
      let a = ty.0.enough in
      (omega arith, typed op _ _ ty.0.types, ty.0.few, shaped_of ls Ls t rest (p + 1) _ (made cs p op names) (omega (arith, length-named (leaves cs op) (At p) (drop (takes cs op) names) ty.0.few, length-drop (takes cs op) names)) lab ty.1)
  shaped_of ls Ls t (Block m kind body rest) p n names e lab ty = (
    shaped_of (arity kind ∷ ls) (values_of kind ∷ Ls) kind body (p + 1) 0 [] refl (numbered_more ls Ls c.result (arity kind) (values_of kind) (arity-values kind) lab) ty.1,
    shaped_of ls Ls t rest (p + 1 + size body) _ (named (arity kind) (Join p) names) (omega (arith, length-named (arity kind) (Join p) names (arity-few kind))) lab ty.2,
  )
  shaped_of ls Ls t (Loop m kind body rest) p n names e lab ty = (
    shaped_of (0 ∷ ls) ([] ∷ Ls) kind body (p + 1) 0 [] refl (numbered_more ls Ls c.result 0 [] refl lab) ty.1,
    shaped_of ls Ls t rest (p + 1 + size body) _ (named (arity kind) (Join p) names) (omega (arith, length-named (arity kind) (Join p) names (arity-few kind))) lab ty.2,
  )
  shaped_of ls Ls t (If m kind x y rest) p n names e lab ty =
      let lab' = numbered_more ls Ls c.result (arity kind) (values_of kind) (arity-values kind) lab in
      let some = test_long T 0 names ty.0 (omega arith) in (
        omega arith,
        shaped_of (arity kind ∷ ls) (values_of kind ∷ Ls) kind x (p + 1) 0 [] refl lab' ty.2,
        shaped_of (arity kind ∷ ls) (values_of kind ∷ Ls) kind y (p + 1 + size x) 0 [] refl lab' ty.3,
        shaped_of ls Ls t rest (p + 1 + size x + size y) _ (named (arity kind) (Join p) (drop 1 names)) (omega (arith, length-named (arity kind) (Join p) (drop 1 names) (arity-few kind), length-drop 1 names)) lab ty.4,
      )
  shaped_of ls Ls t (Br m l rest) p n names e lab (s, at, cr) =
      let a = lab.at l s at in let b = a.1 in let d = carries_long T s names cr in (a.0, omega arith)
  shaped_of ls Ls t (BrIf m l rest) p n names e lab (test, (s, at, cr), ty) =
      let a = lab.at l s at in
      let b = a.1 in
      let d = test_long T (length s) names test (carries_long T s (drop 1 names) cr) in
      (a.0, omega arith, shaped_of ls Ls t rest (p + 1) _ (drop 1 names) (omega (arith, length-drop 1 names)) lab ty)
  shaped_of ls Ls t (BrTable m labels other rest) p n names e lab (test, (s, at, each, cr)) =
      let d = test_long T (length s) names test (carries_long T s (drop 1 names) cr) in
      let o = (lab.at other s at).1 in
      (omega arith, λ l one. let a = lab.at l s (one_of Ls s labels other l at each one) in let b = a.1 in (a.0, omega arith, omega arith))
  shaped_of ls Ls t (Return m rest) p n names e lab ty = let a = lab.last.1 in let d = carries_long T c.result names ty in (lab.last.0, omega arith)
  shaped_of ls Ls t (Unreachable m rest) p n names e lab ty = tt

-- what follows from W holds, too
pub shaped_weaker : (cs : Callees) (W V : Instr → Type 0) → ((op : Instr) → W op → V op) → (ls : List ℕ) (t : ℕ) (code : Marked) (n : ℕ)
    → Shaped cs W ls t code n → Shaped cs V ls t code n
shaped_weaker cs W V f ls t End n h = h
shaped_weaker cs W V f ls t (Do m op rest) n h = (h.0, f op h.1, h.2, shaped_weaker cs W V f ls t rest _ h.3)
shaped_weaker cs W V f ls t (Block m kind body rest) n h =
    (shaped_weaker cs W V f (arity kind ∷ ls) (arity kind) body 0 h.0, shaped_weaker cs W V f ls t rest _ h.1)
shaped_weaker cs W V f ls t (Loop m kind body rest) n h = (shaped_weaker cs W V f (0 ∷ ls) (arity kind) body 0 h.0, shaped_weaker cs W V f ls t rest _ h.1)
shaped_weaker cs W V f ls t (If m kind x y rest) n h =
    (h.0, shaped_weaker cs W V f (arity kind ∷ ls) (arity kind) x 0 h.1, shaped_weaker cs W V f (arity kind ∷ ls) (arity kind) y 0 h.2, shaped_weaker cs W V f ls t rest _ h.3)
shaped_weaker cs W V f ls t (Br m l rest) n h = h
shaped_weaker cs W V f ls t (BrIf m l rest) n h = (h.0, h.1, shaped_weaker cs W V f ls t rest _ h.2)
shaped_weaker cs W V f ls t (BrTable m labels other rest) n h = h
shaped_weaker cs W V f ls t (Return m rest) n h = h
shaped_weaker cs W V f ls t (Unreachable m rest) n h = h

-- ---- the places that a cut shows, as the simulation asks for them

pub record IsShown (cs : Callees) (S : Sites) (ends : List EndAt) (K P : Node → Bool) : Type 0 where
  pub kept : (n : Node) → K n ≡ true → P n ≡ true
  pub joined : (b : ℕ) → K (At b) ≡ true → P (Join b) ≡ true
  pub taken : (p : ℕ) (s : Site) → IsSite S p s → K (At p) ≡ true → all_operands cs s.around s.head ≤ length s.names
      → AllIn P (all_operands cs s.around s.head) s.names
  pub ended : (e : EndAt) (b : ℕ) → Among ends e → e.owner ≡ Join b → length e.names ≡ e.count → K (At b) ≡ true → AllIn P e.count e.names
  pub body_end : (e : EndAt) → Among ends e → e.owner ≡ Exit → length e.names ≡ e.count → AllIn P e.count e.names

pub shown_of : (cs : Callees) (S : Sites) (ends : List EndAt) (K P : Node → Bool) → HoldsNeeded cs S ends K P → IsShown cs S ends K P
shown_of cs S ends K P has = record {
  kept = λ n on. has n (maker on);
  joined = λ b on. has (Join b) (result on);
  taken = λ p s is on le. all_first P _ s.names le (λ d a. has d (operand p s is on a));
  ended = λ e b a o long on. all_first P e.count e.names (omega arith) (λ d f. has d (left b e a o on f));
  body_end = λ e a o long. all_first P e.count e.names (omega arith) (λ d f. has d (at_exit e a o f));
}

-- every place present is one way
pub every_holds : (cs : Callees) (S : Sites) (ends : List EndAt) (K : Node → Bool) → HoldsNeeded cs S ends K every
every_holds cs S ends K n h = refl
