-- A sequence with nothing kept falls through in the slice: it changes no store and ends with its results.
use Rattle.std.proofs.Common.{◌≡◌, ℕ, ◌+◌, ◌≤◌, List, Bool, true, Option, take, drop, length, refl, sym, ap, ◌∙◌, arith}
use Rattle.wasm_types.specs.Marked.{Marked, End, Do, Block, Loop, If, Br, BrIf, BrTable, Return, Unreachable, size}
use Rattle.wasm_types.specs.declared.module.ValType.{ValType}
use Rattle.wasm_types.specs.declared.module.Value.{Value}
use Rattle.wasm_meaning.specs.State.{Store}
use Rattle.wasm_types.specs.declared.place.Loc.{Loc}
use Rattle.flow_domain.specs.Bounds.{Cover}
use Rattle.wasm_meaning.specs.Effects.{Fixed, Calls}
use Rattle.wasm_types.specs.Actions.{callees, takes, leaves}
use Rattle.wasm_meaning.specs.Run.{Normal, ends, Below, run}
use Rattle.wasm_types.specs.Labels.{arity, Label}
use Rattle.wasm_types.specs.declared.place.Node.{Node}
use Rattle.wasm_types.specs.Nodes.{At, Join, named, made}
use Rattle.flow_domain.specs.Cut.{shown, drops, zeros, filler, result_of, cut}
use Rattle.flow_laws.proofs.Closed.{Mode, Dark, Closed}
use Rattle.flow_laws.proofs.Stacks.{at, pick_false, run_drops, zeros_on, run_zeros, length-zeros_on, filled, run_filler, arity-result, length-drop_by, shown-split, length-filled}

pub dark-sub : (K : Node → Bool) (a e a' e' : ℕ) → Dark K a e → a ≤ a' → e' ≤ e → Dark K a' e'
dark-sub K a e a' e' d la le m lm me = d m (omega arith) (omega arith)

-- what a sequence of the slice does that falls through
pub record Falls (Z : Fixed) (b : Below) (ls : List ℕ) (t : ℕ) (c : Marked) (s : List Value) (st : Store) : Type 0 where
  pub stack : List Value
  pub long : length stack ≡ t
  pub does : run Z b ls c (at s st) ≡ ends Normal (at stack st)

falls-by : (Z : Fixed) (b : Below) (ls : List ℕ) (t : ℕ) (c c' : Marked) (s s' : List Value) (st : Store) → run Z b ls c (at s st) ≡ run Z b ls c' (at s' st)
    → Falls Z b ls t c' s' st → Falls Z b ls t c s st
falls-by Z b ls t c c' s s' st e f = record { stack = f.stack; long = f.long; does = e ∙ f.does }

-- all of the stack is dropped, and t zeros are left
pub falls-zeros : (P : Node → Bool) (Z : Fixed) (b : Below) (ls : List ℕ) (t : Option ValType) (names : List Node) (s : List Value) (st : Store)
    → length s ≡ shown P names → Falls Z b ls (arity t) (drops (shown P names) (zeros t End)) s st
falls-zeros P Z b ls t names s st e =
    let gone : length (drop (shown P names) s) ≡ 0 = length-drop_by (shown P names) s 0 (omega arith) in
    record {
      stack = zeros_on t (drop (shown P names) s);
      long = omega (arith, length-zeros_on t (drop (shown P names) s));
      does = run_drops Z b ls (shown P names) (zeros t End) s st (omega arith) ∙ run_zeros Z b ls t End (drop (shown P names) s) st;
    }

-- the drops and the filler of one unkept instruction
pub unkept_does : (P : Node → Bool) (Z : Fixed) (b : Below) (ls : List ℕ) (n : ℕ) (k : Option ValType) (d : Node) (c : Marked) (names : List Node)
    (s : List Value) (st : Store)
    → shown P (take n names) ≤ length s
    → run Z b ls (drops (shown P (take n names)) (filler P k d c)) (at s st) ≡ run Z b ls c (at (filled P k d (drop (shown P (take n names)) s)) st)
unkept_does P Z b ls n k d c names s st le =
    run_drops Z b ls (shown P (take n names)) (filler P k d c) s st le ∙ run_filler P Z b ls k d c (drop (shown P (take n names)) s) st

module _ (Z : Fixed) (W : Cover) (G : Calls → Type 0) (w : Mode) (K M P : Node → Bool) (T : Node → ValType) (N : Node → Loc → Type 0) (b : Below)
    (ls : List ℕ) (t : Option ValType) (k : Node) (ctx : List Label) where
  pub falls : (code : Marked) (p : ℕ) (names : List Node) → Closed Z W G w K M P N ctx true k (arity t) code p names → Dark K p (p + size code)
      → (s : List Value) (st : Store) → length s ≡ shown P names → Falls Z b ls (arity t) (cut (callees Z.m) K P T t code p names) s st
  falls End p names c dark s st e = record { stack = s; long = e ∙ c.shows refl; does = refl }
  falls (Do m op rest) p names c dark s st e =
      let off = (dark p (omega arith) (omega arith)).0 in
      let next = cut (callees Z.m) K P T t rest (p + 1) (made (callees Z.m) p op names) in
      let split = shown-split P (takes (callees Z.m) op) names in
      let long : length (drop (shown P (take (takes (callees Z.m) op) names)) s) ≡ shown P (drop (takes (callees Z.m) op) names) =
      length-drop_by _ s _ (omega arith) in
      let same : made (callees Z.m) p op names ≡ named (arity (result_of (leaves (callees Z.m) op) (T (At p)))) (At p) (drop (takes (callees Z.m) op) names) =
      ap (λ z. named z (At p) (drop (takes (callees Z.m) op) names)) (sym (arity-result (leaves (callees Z.m) op) (T (At p)) c.0.few)) in
      falls-by Z b ls (arity t) _ next s
      (filled P (result_of (leaves (callees Z.m) op) (T (At p))) (At p) (drop (shown P (take (takes (callees Z.m) op) names)) s)) st
      (ap (λ x. run Z b ls x (at s st)) (pick_false (K (At p)) _ _ off) ∙ unkept_does P Z b ls (takes (callees Z.m) op)
      (result_of (leaves (callees Z.m) op) (T (At p))) (At p) next names s st (omega arith))
      (falls rest (p + 1) (made (callees Z.m) p op names) c.1 (dark-sub K p _ (p + 1) _ dark (omega arith) (omega arith)) _ st
      (length-filled P (result_of (leaves (callees Z.m) op) (T (At p))) (At p) (drop (takes (callees Z.m) op) names) _ long ∙ ap (shown P) (sym same)))
  falls (Block m r body rest) p names c dark s st e =
      let off = (dark p (omega arith) (omega arith)).0 in
      let next = cut (callees Z.m) K P T t rest (p + 1 + size body) (named (arity r) (Join p) names) in
      falls-by Z b ls (arity t) _ next s (filled P r (Join p) s) st
      (ap (λ x. run Z b ls x (at s st)) (pick_false (K (At p)) _ _ off) ∙ run_filler P Z b ls r (Join p) next s st)
      (falls rest (p + 1 + size body) (named (arity r) (Join p) names) c.2 (dark-sub K p _ (p + 1 + size body) _ dark (omega arith) (omega arith)) _ st
      (length-filled P r (Join p) names s e))
  falls (Loop m r body rest) p names c dark s st e =
      let off = (dark p (omega arith) (omega arith)).0 in
      let next = cut (callees Z.m) K P T t rest (p + 1 + size body) (named (arity r) (Join p) names) in
      falls-by Z b ls (arity t) _ next s (filled P r (Join p) s) st
      (ap (λ x. run Z b ls x (at s st)) (pick_false (K (At p)) _ _ off) ∙ run_filler P Z b ls r (Join p) next s st)
      (falls rest (p + 1 + size body) (named (arity r) (Join p) names) c.2 (dark-sub K p _ (p + 1 + size body) _ dark (omega arith) (omega arith)) _ st
      (length-filled P r (Join p) names s e))
  falls (If m r x y rest) p names c dark s st e =
      let off = (dark p (omega arith) (omega arith)).0 in
      let next = cut (callees Z.m) K P T t rest (p + 1 + size x + size y) (named (arity r) (Join p) (drop 1 names)) in
      let split = shown-split P 1 names in
      let long : length (drop (shown P (take 1 names)) s) ≡ shown P (drop 1 names) = length-drop_by _ s _ (omega arith) in
      falls-by Z b ls (arity t) _ next s (filled P r (Join p) (drop (shown P (take 1 names)) s)) st
      (ap (λ x. run Z b ls x (at s st)) (pick_false (K (At p)) _ _ off) ∙ unkept_does P Z b ls 1 r (Join p) next names s st (omega arith))
      (falls rest (p + 1 + size x + size y) (named (arity r) (Join p) (drop 1 names)) c.5
      (dark-sub K p _ (p + 1 + size x + size y) _ dark (omega arith) (omega arith)) _ st (length-filled P r (Join p) (drop 1 names) _ long))
  falls (Br m l rest) p names c dark s st e =
      let off = (dark p (omega arith) (omega arith)).0 in
      falls-by Z b ls (arity t) _ _ s s st (ap (λ x. run Z b ls x (at s st)) (pick_false (K (At p)) _ _ off)) (falls-zeros P Z b ls t names s st e)
  falls (BrIf m l rest) p names c dark s st e =
      let off = (dark p (omega arith) (omega arith)).0 in
      let next = cut (callees Z.m) K P T t rest (p + 1) (drop 1 names) in
      let split = shown-split P 1 names in
      let long : length (drop (shown P (take 1 names)) s) ≡ shown P (drop 1 names) = length-drop_by _ s _ (omega arith) in
      falls-by Z b ls (arity t) _ next s (drop (shown P (take 1 names)) s) st
      (ap (λ x. run Z b ls x (at s st)) (pick_false (K (At p)) _ _ off) ∙ run_drops Z b ls (shown P (take 1 names)) next s st (omega arith))
      (falls rest (p + 1) (drop 1 names) c.3 (dark-sub K p _ (p + 1) _ dark (omega arith) (omega arith)) _ st long)
  falls (BrTable m labels other rest) p names c dark s st e =
      let off = (dark p (omega arith) (omega arith)).0 in
      falls-by Z b ls (arity t) _ _ s s st (ap (λ x. run Z b ls x (at s st)) (pick_false (K (At p)) _ _ off)) (falls-zeros P Z b ls t names s st e)
  falls (Return m rest) p names c dark s st e =
      let off = (dark p (omega arith) (omega arith)).0 in
      falls-by Z b ls (arity t) _ _ s s st (ap (λ x. run Z b ls x (at s st)) (pick_false (K (At p)) _ _ off)) (falls-zeros P Z b ls t names s st e)
  falls (Unreachable m rest) p names c dark s st e =
      let off = (dark p (omega arith) (omega arith)).0 in
      falls-by Z b ls (arity t) _ _ s s st (ap (λ x. run Z b ls x (at s st)) (pick_false (K (At p)) _ _ off)) (falls-zeros P Z b ls t names s st e)
