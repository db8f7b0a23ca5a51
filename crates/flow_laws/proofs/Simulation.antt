-- The simulation of a whole body, with its loops.
use Rattle.std.proofs.Common.{◌≡◌, ℕ, zero, suc, ◌+◌, ◌≤◌, inr, List, [], ◌∷◌, ◌++◌, Bool, true, false, Option, take, drop, length, reverse, refl, sym, ap, ap₂, ◌∙◌, subst, arith, add-one}
use Rattle.std.proofs.lemmas.List.{take_all}
use Rattle.wasm_types.specs.Marked.{Marked, End, Do, Block, Loop, If, Br, BrIf, BrTable, Return, Unreachable, size}
use Rattle.wasm_types.specs.declared.instr.Instr.{Instr}
use Rattle.wasm_types.specs.declared.module.ValType.{ValType}
use Rattle.wasm_types.specs.declared.module.Value.{Value}
use Rattle.wasm_meaning.specs.State.{Store}
use Rattle.wasm_types.specs.declared.place.Loc.{Loc}
use Rattle.wasm_meaning.specs.Equality.{EqAt}
use Rattle.flow_domain.specs.Bounds.{Cover, bounds, writes}
use Rattle.wasm_meaning.specs.Effects.{Fixed, Effect, Answer, Gives, Stops, Calls, effect}
use Rattle.wasm_types.specs.Actions.{callees, takes, leaves}
use Rattle.wasm_meaning.specs.Operations.{number_of}
use Rattle.wasm_meaning.specs.Run.{Here, Outcome, Normal, Branch, Stopped, Run, ends, after, seen, then_do, chosen, at_stack, leave, again, do_step, if_zero, on_top, Below, run, below}
use Rattle.wasm_types.specs.declared.run.Event.{Event}
use Rattle.wasm_types.specs.declared.run.Event.TheVariants.{Take, Leave}
use Rattle.wasm_types.specs.Labels.{arity, carried, outermost, Label, block_label, loop_label, arities, point_of, join_of, first}
use Rattle.flow_laws.proofs.Effects.{Comes, Does}
use Rattle.wasm_meaning.proofs.Equal.{eq-sym, eq-then, across}
use Rattle.wasm_types.specs.declared.place.Node.{Node}
use Rattle.wasm_types.specs.Nodes.{At, Join, named, made, AllIn}
use Rattle.wasm_types.specs.Sites.{OneOf}
use Rattle.flow_domain.specs.Cut.{shown, drops, zeros, filler, result_of, cut}
use Rattle.flow_laws.proofs.Closed.{Cuts, Dark, Matches, Agreed, DoOk, BrOk, Closed}
use Rattle.flow_laws.proofs.Simulates.{RelOne, Rel, Stores, Values, SimBy, Sim}
use Rattle.flow_laws.proofs.Stacks.{at, pick_true, pick_false, run_drops, filled, run_filler, arity-result, rel-shown, rel-long, rel-kept, rel-has, rel-drop, rel-fill, rel-new, rel-take}
use Rattle.flow_laws.proofs.Falls.{dark-sub, Falls, falls-zeros, unkept_does, falls}
use Rattle.flow_laws.proofs.Region.{skip-later, Region, One, block-one, laps-one, again-laps, DarkLaps, unmarked, length-take_of, length-drop_of, not_both, off-or-on, Lawful, region-zero, region-longer, chosen_is, region, dark-laps}
use Rattle.flow_laws.proofs.Steps.{Within, skip-dark, stores-from, seen-eq, SimLaps, sim-after, Fallen, sim-then, unkept-then, block-sim, loop-sim, again-sim}

module _ (Z : Fixed) (W : Cover) (G : Calls → Type 0) (K M P : Node → Bool) (T : Node → ValType) (N : Node → Loc → Type 0)
    (mik : (d : Node) → M d ≡ true → K d ≡ true) (mp : (d : Node) → M d ≡ true → P d ≡ true) where
  -- both sides of a test
  keep_or_not : {A : Type 0} (q : Bool) → (q ≡ true → A) → (q ≡ false → A) → A
  keep_or_not true f g = f refl
  keep_or_not false f g = g refl

  sim-longer : (ctx : List Label) (q q' t : ℕ) (k : Node) (r r' : Run) → q ≤ q' → Sim K M N ctx q t k r r' → Sim K M N ctx q' t k r r'
  sim-longer ctx q q' t k r r' le a = go r.outcome r'.outcome a
    where
      go : (o o' : Outcome) → SimBy K M N ctx q t k r r' o o' → SimBy K M N ctx q' t k r r' o o'
      go Normal Normal a = a
      go Normal (Branch l) a = absurd a
      go Normal (Stopped why) a = absurd a
      go (Branch l) Normal a = record { long = a.long; long' = a.long'; store = a.store; skip = skip-later Cuts K ctx l q q' le a.skip; events = a.events }
      go (Branch l) (Branch l') a = a
      go (Branch l) (Stopped why) a = absurd a
      go (Stopped why) o' a = tt

  -- what laps of a kept loop do
  abbrev pub KeptLaps : Below → Type 0
  KeptLaps b =
      (ctx : List Label) (p : ℕ) (r : Option ValType) (body : Marked)
      → Closed Z W G Cuts K M P N (loop_label p (p + 1 + size body) ∷ ctx) true (Join p) (arity r) body (p + 1) []
      → ((x : Loc) → N (first (p + 1) body (Join p)) x → N (At p) x) → (h h' : Here) → h.stack ≡ [] → h'.stack ≡ [] → Stores (N (At p)) h.store h'.store
      → SimLaps Z W G Cuts K M P N (loop_label p (p + 1 + size body) ∷ ctx) (p + 1 + size body) (arity r) (Join p) (b.lap (arities ctx) body h) (b.lap (arities ctx) (cut (callees Z.m) K P T r body (p + 1) []) h')

  -- a kept instruction
  sim-do-on : (b : Below) (bc : Lawful Z W G Cuts K M P N b) (ctx : List Label) (q t : ℕ) (k : Node) (m : Bool) (op : Instr) (p : ℕ) (names : List Node)
      (s : Node) (h h' : Here) (go go' : Here → Run)
      → DoOk Z W G Cuts K M P N m op p names s → K (At p) ≡ true → Rel M P names h.stack h'.stack → Stores (N (At p)) h.store h'.store
      → ((h1 h1' : Here) → Rel M P (made (callees Z.m) p op names) h1.stack h1'.stack → Stores (N s) h1.store h1'.store → Sim K M N ctx q t k (go h1) (go' h1'))
      → (e : Answer) → effect Z b.call op (take (takes (callees Z.m) op) h.stack) h.store ≡ e
      → Sim K M N ctx q t k (do_step m (takes (callees Z.m) op) h e go)
      (do_step m (takes (callees Z.m) op) h' (effect Z b.call op (take (takes (callees Z.m) op) h'.stack) h'.store) go')
  sim-do-on b bc ctx q t k m op p names s h h' go go' c on rel sto rest (Stops why st1) eq = tt
  sim-do-on b bc ctx q t k m op p names s h h' go go' c on rel sto rest (Gives e) eq =
      subst (λ z. Sim K M N ctx q t k (do_step m (takes (callees Z.m) op) h (Gives e) go) (do_step m (takes (callees Z.m) op) h' z go')) (sym cm.is)
      (sim-after Z W G Cuts K M P N ctx q t k ev ev' x.outcome x.there x.events x'.outcome x'.there x'.events same_events (rest h1 h1' rel1 sto1))
    where
      vs : List Value
      vs = take (takes (callees Z.m) op) h.stack

      vs' : List Value
      vs' = take (takes (callees Z.m) op) h'.stack

      both : Matches M (take (takes (callees Z.m) op) names) vs vs' × Rel M P (drop (takes (callees Z.m) op) names) (drop (takes (callees Z.m) op) h.stack)
          (drop (takes (callees Z.m) op) h'.stack)
      both = rel-take M P (takes (callees Z.m) op) names h.stack h'.stack rel (c.shows on).0

      cm : Comes Z b.call op vs' h.store h'.store e
      cm = c.comes refl on b.call bc vs vs' h.store h'.store e both.0 sto.equal eq

      e' : Effect
      e' = cm.other

      ag : Agreed (bounds Z.m W) op (M (At p)) (N s) e e'
      ag = c.agree on b.call bc vs vs' h.store h'.store e e' both.0 sto.equal eq cm.is

      d : Does (bounds Z.m W) op vs h.store e
      d = c.does b.call bc vs h.store e eq

      d' : Does (bounds Z.m W) op vs' h'.store e'
      d' = c.does b.call bc vs' h'.store e' cm.is

      ev : List Event
      ev = seen m (Take (reverse vs) ∷ Leave (reverse e.results) ∷ [])

      ev' : List Event
      ev' = seen m (Take (reverse vs') ∷ Leave (reverse e'.results) ∷ [])

      same_events : ev' ≡ ev
      same_events =
          seen-eq m (Take (reverse vs) ∷ Leave (reverse e.results) ∷ []) (Take (reverse vs') ∷ Leave (reverse e'.results) ∷ [])
          (λ on1. ap₂ {A = List Value} {B = List Value} (λ y z. Take (reverse y) ∷ Leave (reverse z) ∷ [])
          (rel-kept M P mp (takes (callees Z.m) op) names h.stack h'.stack rel (c.watched on1).0).0 (ag.results (c.watched on1).1))

      h1 : Here
      h1 = record { stack = e.results ++ drop (takes (callees Z.m) op) h.stack; store = e.store }

      h1' : Here
      h1' = record { stack = e'.results ++ drop (takes (callees Z.m) op) h'.stack; store = e'.store }

      x : Run
      x = go h1

      x' : Run
      x' = go' h1'

      rel1 : Rel M P (made (callees Z.m) p op names) h1.stack h1'.stack
      rel1 =
          rel-new M P (leaves (callees Z.m) op) (At p) (drop (takes (callees Z.m) op) names) e.results e'.results (drop (takes (callees Z.m) op) h.stack)
          (drop (takes (callees Z.m) op) h'.stack) (c.shows on).1 d.left d'.left c.few ag.results both.1

      value : (y : Loc) → N s y → (w : Bool) → writes (bounds Z.m W) op y ≡ w → EqAt y e.store e'.store
      value y needed true w = ag.written y needed w
      value y needed false w = across y e.store h.store h'.store e'.store (d.frame y w) (sto.equal y (c.keeps y needed w)) (d'.frame y w)

      sto1 : Stores (N s) e.store e'.store
      sto1 = record { equal = λ y needed. value y needed (writes (bounds Z.m W) op y) refl; turns = let l = sto.turns in let a = cm.turns in omega arith }

  -- an unkept one
  sim-do-off : (b : Below) (bc : Lawful Z W G Cuts K M P N b) (ls : List ℕ) (ctx : List Label) (q t : ℕ) (k : Node) (m : Bool) (op : Instr) (p : ℕ)
      (names : List Node) (s : Node) (h h' : Here) (go : Here → Run) (next : Marked)
      → DoOk Z W G Cuts K M P N m op p names s → K (At p) ≡ false → Rel M P names h.stack h'.stack → Stores (N (At p)) h.store h'.store
      → ((h1 h1' : Here) → Rel M P (made (callees Z.m) p op names) h1.stack h1'.stack → Stores (N s) h1.store h1'.store → Sim K M N ctx q t k (go h1) (run Z b ls next h1'))
      → (e : Answer) → effect Z b.call op (take (takes (callees Z.m) op) h.stack) h.store ≡ e
      → Sim K M N ctx q t k (do_step m (takes (callees Z.m) op) h e go)
      (run Z b ls (drops (shown P (take (takes (callees Z.m) op) names)) (filler P (result_of (leaves (callees Z.m) op) (T (At p))) (At p) next)) h')
  sim-do-off b bc ls ctx q t k m op p names s h h' go next c off rel sto rest (Stops why st1) eq = tt
  sim-do-off b bc ls ctx q t k m op p names s h h' go next c off rel sto rest (Gives e) eq =
      let d = c.does b.call bc (take (takes (callees Z.m) op) h.stack) h.store e eq in
      let h1 : Here = record { stack = e.results ++ drop (takes (callees Z.m) op) h.stack; store = e.store } in
      let dr = rel-drop M P (takes (callees Z.m) op) names h.stack h'.stack rel in
      let h1' =
      at (filled P (result_of (leaves (callees Z.m) op) (T (At p))) (At p) (drop (shown P (take (takes (callees Z.m) op) names)) h'.stack)) h'.store in
      let x = go h1 in let x' = run Z b ls next h1' in
      let unwritten =
      λ (y : Loc) (needed : N s y). off-or-on Z W G Cuts K M P N (writes (bounds Z.m W) op y)
      (λ w. not_both Z W G Cuts K M P N (K (At p)) (c.defines y needed w) off) in
      let few = arity-result (leaves (callees Z.m) op) (T (At p)) c.few in
      let rel1 : Rel M P (made (callees Z.m) p op names) h1.stack h1'.stack =
      subst (λ z. Rel M P (named z (At p) (drop (takes (callees Z.m) op) names)) h1.stack h1'.stack) few
      (rel-fill M P (result_of (leaves (callees Z.m) op) (T (At p))) (At p) (drop (takes (callees Z.m) op) names) e.results
      (drop (takes (callees Z.m) op) h.stack) _ (λ on. not_both Z W G Cuts K M P N (K (At p)) (mik (At p) on) off) (d.left ∙ sym few) dr.1) in
      let sto1 : Stores (N s) e.store h'.store =
      record { equal = λ y needed. eq-then y e.store h.store h'.store (eq-sym y h.store e.store (d.frame y (unwritten y needed))) (sto.equal y (c.keeps y needed (unwritten y needed))); turns = let l = sto.turns in let a = d.turns in omega arith }
      in
      let events = unmarked Z W G Cuts K M P N m p (Take (reverse (take (takes (callees Z.m) op) h.stack)) ∷ Leave (reverse e.results) ∷ []) c.marks off in
      subst (λ z. Sim K M N ctx q t k (do_step m (takes (callees Z.m) op) h (Gives e) go) z)
      (sym (unkept_does P Z b ls (takes (callees Z.m) op) (result_of (leaves (callees Z.m) op) (T (At p))) (At p) next names h'.stack h'.store dr.0))
      (sim-after Z W G Cuts K M P N ctx q t k (seen m (Take (reverse (take (takes (callees Z.m) op) h.stack)) ∷ Leave (reverse e.results) ∷ [])) [] x.outcome x.there x.events x'.outcome x'.there x'.events (sym events) (rest h1 h1' rel1 sto1))

  -- the values that a kept branch carries
  carry : (n : ℕ) (names : List Node) (s s' : List Value) (j : Bool) → n ≤ length names → AllIn P n names → (j ≡ true → AllIn M n names) → Rel M P names s s'
      → Values j n (take n s) (take n s')
  carry n names s s' j le ps ks rel = record {
    long = length-take_of Z W G Cuts K M P N n s (let e = rel-long M P names s s' rel in omega arith);
    long' = length-take_of Z W G Cuts K M P N n s' (rel-has M P n names s s' rel ps);
    equal = λ on. (rel-kept M P mp n names s s' rel (ks on)).0;
  }

  head : List Value → Value → Value
  head [] d = d
  head (x ∷ xs) d = x

  -- an operand that is kept is the same on both stacks
  same_top : (names : List Node) (v w : Value) (s s' : List Value) → AllIn M 1 names → Rel M P names (v ∷ s) (w ∷ s') → (v ≡ w) × Rel M P (drop 1 names) s s'
  unfolding head
  same_top names v w s s' ks rel = let a = rel-kept M P mp 1 names (v ∷ s) (w ∷ s') rel ks in (ap (λ z. head z v) (sym a.0), a.1)

  has_top : (names : List Node) (v : Value) (s : List Value) → AllIn M 1 names → Rel M P names (v ∷ s) [] → ⊥
  has_top [] v s ks rel = ks
  has_top (d ∷ names) v s ks rel = subst (λ z. RelOne z (M d) v (Rel M P names s) []) (mp d ks.0) rel

  sim-zero : (ctx : List Label) (q t : ℕ) (k : Node) (v : ℕ) (a b a' b' : Run) → Sim K M N ctx q t k a a' → Sim K M N ctx q t k b b'
      → Sim K M N ctx q t k (if_zero v a b) (if_zero v a' b')
  sim-zero ctx q t k zero a b a' b' x y = x
  sim-zero ctx q t k (suc v) a b a' b' x y = y

  sim-zero-left : (ctx : List Label) (q t : ℕ) (k : Node) (v : ℕ) (a b x : Run) → Sim K M N ctx q t k a x → Sim K M N ctx q t k b x
      → Sim K M N ctx q t k (if_zero v a b) x
  sim-zero-left ctx q t k zero a b x y z = y
  sim-zero-left ctx q t k (suc v) a b x y z = z

  -- a kept block, whatever its contents are, and the rest
  sim-block : (ctx : List Label) (q e t r : ℕ) (k : Node) (p : ℕ) (n : Node) (es es' : List Event) (names : List Node) (s s' : List Value) (rb rb' : Run)
      (b : Below) (rest next : Marked)
      → es' ≡ es → r ≤ 1 → P (Join p) ≡ true → e ≤ q → Within ctx q → ((x : Loc) → N n x → N (Join p) x) → Rel M P names s s'
      → Sim K M N (block_label p r e ∷ ctx) e r (Join p) rb rb'
      → ((h1 h1' : Here) → Rel M P (named r (Join p) names) h1.stack h1'.stack → Stores (N n) h1.store h1'.store → Sim K M N ctx q t k (run Z b (arities ctx) rest h1) (run Z b (arities ctx) next h1'))
      → (Dark K e q → Fallen Z W G Cuts K M P N (arities ctx) t (named r (Join p) names) next b)
      → Sim K M N ctx q t k (after es (then_do (leave s rb) (run Z b (arities ctx) rest))) (after es' (then_do (leave s' rb') (run Z b (arities ctx) next)))
  sim-block ctx q e t r k p n es es' names s s' rb rb' b rest next ev small sh le w sub rel inner cont fall =
      let li = leave s rb in let li' = leave s' rb' in
      let one = block-sim Z W G Cuts K M P N mik ctx p e r names s s' rb.outcome rb.there rb.events rb'.outcome rb'.there rb'.events small sh rel inner in
      let x = then_do li (run Z b (arities ctx) rest) in let x' = then_do li' (run Z b (arities ctx) next) in
      sim-after Z W G Cuts K M P N ctx q t k es es' x.outcome x.there x.events x'.outcome x'.there x'.events ev
      (sim-then Z W G Cuts K M P N ctx q e t k (Join p) n (named r (Join p) names) b (run Z b (arities ctx) rest) next li.outcome li.there li.events li'.outcome li'.there li'.events le w sub cont fall one)

  -- an unkept one
  sim-gone : (ctx : List Label) (q e t : ℕ) (r : Option ValType) (k : Node) (p : ℕ) (n : Node) (es : List Event) (names : List Node) (s s' : List Value)
      (st st' : Store) (li : Run) (b : Below) (rest next : Marked)
      → es ≡ [] → K (Join p) ≡ false → e ≤ q → Within ctx q → ((x : Loc) → N n x → N (Join p) x) → Rel M P names s s' → Stores (N (At p)) st st'
      → One Z W G Cuts K M P N ctx e (arity r) (Join p) (N (At p)) s st li
      → ((h1 h1' : Here) → Rel M P (named (arity r) (Join p) names) h1.stack h1'.stack → Stores (N n) h1.store h1'.store → Sim K M N ctx q t k (run Z b (arities ctx) rest h1) (run Z b (arities ctx) next h1'))
      → (Dark K e q → Fallen Z W G Cuts K M P N (arities ctx) t (named (arity r) (Join p) names) next b)
      → Sim K M N ctx q t k (after es (then_do li (run Z b (arities ctx) rest))) (run Z b (arities ctx) (filler P r (Join p) next) (at s' st'))
  sim-gone ctx q e t r k p n es names s s' st st' li b rest next ev off le w sub rel sto one cont fall =
      let x = then_do li (run Z b (arities ctx) rest) in
      let x' = run Z b (arities ctx) next (at (filled P r (Join p) s') st') in
      subst (λ z. Sim K M N ctx q t k (after es x) z) (sym (run_filler P Z b (arities ctx) r (Join p) next s' st'))
      (sim-after Z W G Cuts K M P N ctx q t k es [] x.outcome x.there x.events x'.outcome x'.there x'.events (sym ev)
      (unkept-then Z W G Cuts K M P N mik ctx q e t r k (Join p) n names b (run Z b (arities ctx) rest) next (N (At p)) s s' st st' li.outcome li.there li.events le w sub off rel sto cont fall one))

  sim-if-on : (ctx : List Label) (q e t r : ℕ) (k : Node) (m : Bool) (p : ℕ) (n : Node) (names : List Node) (h h' : Here) (s s' : List Value)
      (rx ry rx' ry' : Run) (b : Below) (rest next : Marked)
      → AllIn M 1 names → r ≤ 1 → P (Join p) ≡ true → e ≤ q → Within ctx q → ((x : Loc) → N n x → N (Join p) x) → Rel M P names s s'
      → Sim K M N (block_label p r e ∷ ctx) e r (Join p) rx rx' → Sim K M N (block_label p r e ∷ ctx) e r (Join p) ry ry'
      → ((h1 h1' : Here) → Rel M P (named r (Join p) (drop 1 names)) h1.stack h1'.stack → Stores (N n) h1.store h1'.store → Sim K M N ctx q t k (run Z b (arities ctx) rest h1) (run Z b (arities ctx) next h1'))
      → (Dark K e q → Fallen Z W G Cuts K M P N (arities ctx) t (named r (Join p) (drop 1 names)) next b)
      → Sim K M N ctx q t k
      (on_top h s (λ v s1. after (seen m (Take (v ∷ []) ∷ [])) (then_do (leave s1 (if_zero (number_of v) ry rx)) (run Z b (arities ctx) rest))))
      (on_top h' s' (λ v s1. after (seen m (Take (v ∷ []) ∷ [])) (then_do (leave s1 (if_zero (number_of v) ry' rx')) (run Z b (arities ctx) next))))
  sim-if-on ctx q e t r k m p n names h h' [] s' rx ry rx' ry' b rest next ks small sh le w sub rel a c cont fall = tt
  sim-if-on ctx q e t r k m p n names h h' (v ∷ s) [] rx ry rx' ry' b rest next ks small sh le w sub rel a c cont fall = absurd (has_top names v s ks rel)
  sim-if-on ctx q e t r k m p n names h h' (v ∷ s) (v' ∷ s') rx ry rx' ry' b rest next ks small sh le w sub rel a c cont fall =
      let same = same_top names v v' s s' ks rel in
      subst
      (λ z. Sim K M N ctx q t k (after (seen m (Take (v ∷ []) ∷ [])) (then_do (leave s (if_zero (number_of v) ry rx)) (run Z b (arities ctx) rest)))
      (after (seen m (Take (z ∷ []) ∷ [])) (then_do (leave s' (if_zero (number_of z) ry' rx')) (run Z b (arities ctx) next)))) same.0
      (sim-block ctx q e t r k p n (seen m (Take (v ∷ []) ∷ [])) (seen m (Take (v ∷ []) ∷ [])) (drop 1 names) s s' (if_zero (number_of v) ry rx) (if_zero (number_of v) ry' rx') b rest next refl small sh le w sub same.1 (sim-zero (block_label p r e ∷ ctx) e r (Join p) (number_of v) ry rx ry' rx' c a) cont fall)

  sim-if-off : (ctx : List Label) (q e t : ℕ) (r : Option ValType) (k : Node) (m : Bool) (p : ℕ) (n : Node) (names : List Node) (h h' : Here) (s : List Value)
      (rx ry : Run) (b : Below) (rest next : Marked)
      → ((v : Value) → seen m (Take (v ∷ []) ∷ []) ≡ []) → K (Join p) ≡ false → e ≤ q → Within ctx q → ((x : Loc) → N n x → N (Join p) x)
      → Rel M P names s h'.stack → Stores (N (At p)) h.store h'.store
      → Region Z W G Cuts K M P N (block_label p (arity r) e ∷ ctx) e (arity r) (Join p) (N (At p)) h.store rx
      → Region Z W G Cuts K M P N (block_label p (arity r) e ∷ ctx) e (arity r) (Join p) (N (At p)) h.store ry
      → ((h1 h1' : Here) → Rel M P (named (arity r) (Join p) (drop 1 names)) h1.stack h1'.stack → Stores (N n) h1.store h1'.store → Sim K M N ctx q t k (run Z b (arities ctx) rest h1) (run Z b (arities ctx) next h1'))
      → (Dark K e q → Fallen Z W G Cuts K M P N (arities ctx) t (named (arity r) (Join p) (drop 1 names)) next b)
      → Sim K M N ctx q t k
      (on_top h s (λ v s1. after (seen m (Take (v ∷ []) ∷ [])) (then_do (leave s1 (if_zero (number_of v) ry rx)) (run Z b (arities ctx) rest))))
      (run Z b (arities ctx) (drops (shown P (take 1 names)) (filler P r (Join p) next)) h')
  sim-if-off ctx q e t r k m p n names h h' [] rx ry b rest next unseen off le w sub rel sto a c cont fall = tt
  sim-if-off ctx q e t r k m p n names h h' (v ∷ s) rx ry b rest next unseen off le w sub rel sto a c cont fall =
      let dr = rel-drop M P 1 names (v ∷ s) h'.stack rel in
      let rv = if_zero (number_of v) ry rx in
      let in_arm =
      region-zero Z W G Cuts K M P N (block_label p (arity r) e ∷ ctx) e (arity r) (Join p) (N n) (N (At p)) (N n) h.store (number_of v) ry rx c a in
      let one = block-one Z W G Cuts K M P N ctx p e (arity r) (N (At p)) (N (At p)) s h.store rv.outcome rv.there rv.events (λ x y. y) in_arm in
      let x = after (seen m (Take (v ∷ []) ∷ [])) (then_do (leave s rv) (run Z b (arities ctx) rest)) in
      subst (λ z. Sim K M N ctx q t k x z) (sym (run_drops Z b (arities ctx) (shown P (take 1 names)) (filler P r (Join p) next) h'.stack h'.store dr.0))
      (sim-gone ctx q e t r k p n (seen m (Take (v ∷ []) ∷ [])) (drop 1 names) s (drop (shown P (take 1 names)) h'.stack) h.store h'.store (leave s rv) b rest next (unseen v) off le w sub dr.1 sto one cont fall)

  -- a kept branch
  sim-br-on : (ctx : List Label) (q t : ℕ) (k : Node) (l p : ℕ) (m : Bool) (es es' : List Event) (names : List Node) (s s' : List Value) (st st' : Store)
      → BrOk Z W G Cuts K M P N ctx m l p names → K (At p) ≡ true → Rel M P names s s' → Stores (N (At p)) st st'
      → Sim K M N ctx q t k (ends (Branch l) (at (take (carried (arities ctx) l) s) st)) (ends (Branch l) (at (take (carried (arities ctx) l) s') st'))
  sim-br-on ctx q t k l p m es es' names s s' st st' c on rel sto = (
    refl,
    record {
      values = carry (carried (arities ctx) l) names s s' (M (join_of ctx l)) c.enough (c.shows on) c.carries rel;
      store = stores-from (N (point_of ctx l)) (N (At p)) st st' c.goes sto;
      events = refl;
    },
  )

  -- an unkept branch that is taken, where the slice falls through
  sim-br-off : (ctx : List Label) (q t : ℕ) (k : Node) (l p : ℕ) (m : Bool) (names : List Node) (s : List Value) (st st' : Store) (b : Below) (c' : Marked)
      (s' : List Value)
      → BrOk Z W G Cuts K M P N ctx m l p names → K (At p) ≡ false → p + 1 ≤ q → length s ≡ length names → Stores (N (At p)) st st'
      → Falls Z b (arities ctx) t c' s' st'
      → Sim K M N ctx q t k (ends (Branch l) (at (take (carried (arities ctx) l) s) st)) (run Z b (arities ctx) c' (at s' st'))
  sim-br-off ctx q t k l p m names s st st' b c' s' c off le long sto f =
      subst (λ z. SimBy K M N ctx q t k (ends (Branch l) (at (take (carried (arities ctx) l) s) st)) z (Branch l) z.outcome) (sym f.does)
      (record { long = length-take_of Z W G Cuts K M P N (carried (arities ctx) l) s (let e = c.enough in omega arith); long' = f.long; store = stores-from (N (point_of ctx l)) (N (At p)) st st' c.goes sto; skip = skip-later Cuts K ctx l (p + 1) q le (c.skips off); events = refl })

  last_one : (labels : List ℕ) (other : ℕ) → OneOf labels other other
  last_one [] other = refl
  last_one (l ∷ ls) other = inr (last_one ls other)

  more_all : (n : ℕ) (names : List Node) → AllIn M 1 names → AllIn M n (drop 1 names) → AllIn M (suc n) names
  more_all n [] a b = absurd a
  more_all n (d ∷ names) a b = (a.0, b)

  sim-br_if-on : (ctx : List Label) (q t : ℕ) (k : Node) (l p : ℕ) (m : Bool) (n : Node) (names : List Node) (h h' : Here) (s s' : List Value) (b : Below)
      (rest next : Marked)
      → h.stack ≡ s → h'.stack ≡ s' → AllIn M 1 names → BrOk Z W G Cuts K M P N ctx m l p (drop 1 names) → K (At p) ≡ true → ((x : Loc) → N n x → N (At p) x)
      → Rel M P names s s' → Stores (N (At p)) h.store h'.store
      → ((h1 h1' : Here) → Rel M P (drop 1 names) h1.stack h1'.stack → Stores (N n) h1.store h1'.store → Sim K M N ctx q t k (run Z b (arities ctx) rest h1) (run Z b (arities ctx) next h1'))
      → Sim K M N ctx q t k
      (on_top h s
      (λ v s1. after (seen m (Take (reverse (take (carried (arities ctx) l + 1) h.stack)) ∷ [])) (if_zero (number_of v) (run Z b (arities ctx) rest (at_stack s1 h)) (ends (Branch l) (at_stack (take (carried (arities ctx) l) s1) h)))))
      (on_top h' s'
      (λ v s1. after (seen m (Take (reverse (take (carried (arities ctx) l + 1) h'.stack)) ∷ [])) (if_zero (number_of v) (run Z b (arities ctx) next (at_stack s1 h')) (ends (Branch l) (at_stack (take (carried (arities ctx) l) s1) h')))))
  sim-br_if-on ctx q t k l p m n names h h' [] s' b rest next eh eh' ks c on sub rel sto cont = tt
  sim-br_if-on ctx q t k l p m n names h h' (v ∷ s) [] b rest next eh eh' ks c on sub rel sto cont = absurd (has_top names v s ks rel)
  sim-br_if-on ctx q t k l p m n names h h' (v ∷ s) (v' ∷ s') b rest next eh eh' ks c on sub rel sto cont =
      let same = same_top names v v' s s' ks rel in
      let w = carried (arities ctx) l in
      let es = seen m (Take (reverse (take (w + 1) h.stack)) ∷ []) in
      let es' = seen m (Take (reverse (take (w + 1) h'.stack)) ∷ []) in
      let ev : es' ≡ es =
      seen-eq m (Take (reverse (take (w + 1) h.stack)) ∷ []) (Take (reverse (take (w + 1) h'.stack)) ∷ [])
      (λ on1. let tk : take (w + 1) h'.stack ≡ take (w + 1) h.stack = rw (add-one, eh, eh')
      ((rel-kept M P mp (suc w) names (v ∷ s) (v' ∷ s') rel (more_all w names ks (c.watched on1))).0) in ap (λ z. Take (reverse z) ∷ []) tk) in
      let off_branch = run Z b (arities ctx) rest (at_stack s h) in
      let off_branch' = run Z b (arities ctx) next (at_stack s' h') in
      let on_branch = ends (Branch l) (at_stack (take w s) h) in
      let on_branch' = ends (Branch l) (at_stack (take w s') h') in
      let x = if_zero (number_of v) off_branch on_branch in
      let x' = if_zero (number_of v) off_branch' on_branch' in
      subst (λ z. Sim K M N ctx q t k (after es x) (after es' (if_zero (number_of z) off_branch' on_branch'))) same.0
      (sim-after Z W G Cuts K M P N ctx q t k es es' x.outcome x.there x.events x'.outcome x'.there x'.events ev
      (sim-zero ctx q t k (number_of v) off_branch on_branch off_branch' on_branch' (cont (at_stack s h) (at_stack s' h') same.1 (stores-from (N n) (N (At p)) h.store h'.store sub sto)) (sim-br-on ctx q t k l p m [] [] (drop 1 names) s s' h.store h'.store c on same.1 sto)))

  sim-br_if-off : (ctx : List Label) (q t : ℕ) (k : Node) (l p : ℕ) (m : Bool) (n : Node) (names : List Node) (h h' : Here) (s : List Value) (es : List Event)
      (b : Below) (rest next : Marked)
      → es ≡ [] → p + 1 ≤ q → BrOk Z W G Cuts K M P N ctx m l p (drop 1 names) → K (At p) ≡ false → ((x : Loc) → N n x → N (At p) x)
      → Rel M P names s h'.stack → Stores (N (At p)) h.store h'.store → Within ctx q
      → ((h1 h1' : Here) → Rel M P (drop 1 names) h1.stack h1'.stack → Stores (N n) h1.store h1'.store → Sim K M N ctx q t k (run Z b (arities ctx) rest h1) (run Z b (arities ctx) next h1'))
      → (Dark K (p + 1) q → Fallen Z W G Cuts K M P N (arities ctx) t (drop 1 names) next b)
      → Sim K M N ctx q t k
      (on_top h s
      (λ v s1. after es (if_zero (number_of v) (run Z b (arities ctx) rest (at_stack s1 h)) (ends (Branch l) (at_stack (take (carried (arities ctx) l) s1) h)))))
      (run Z b (arities ctx) (drops (shown P (take 1 names)) next) h')
  sim-br_if-off ctx q t k l p m n names h h' [] es b rest next ev le c off sub rel sto within cont fall = tt
  sim-br_if-off ctx q t k l p m n names h h' (v ∷ s) es b rest next ev le c off sub rel sto within cont fall =
      let dr = rel-drop M P 1 names (v ∷ s) h'.stack rel in
      let h1' = at (drop (shown P (take 1 names)) h'.stack) h'.store in
      let off_branch = run Z b (arities ctx) rest (at_stack s h) in
      let on_branch = ends (Branch l) (at_stack (take (carried (arities ctx) l) s) h) in
      let x = if_zero (number_of v) off_branch on_branch in
      let x' = run Z b (arities ctx) next h1' in
      let long = rel-long M P (drop 1 names) s h1'.stack dr.1 in
      let falls_it = fall (skip-dark Cuts K ctx l (p + 1) q within (c.skips off)) h1'.stack h'.store (rel-shown M P (drop 1 names) s h1'.stack dr.1) in
      subst (λ z. Sim K M N ctx q t k (after es x) z) (sym (run_drops Z b (arities ctx) (shown P (take 1 names)) next h'.stack h'.store dr.0))
      (sim-after Z W G Cuts K M P N ctx q t k es [] x.outcome x.there x.events x'.outcome x'.there x'.events (sym ev)
      (sim-zero-left ctx q t k (number_of v) off_branch on_branch x' (cont (at_stack s h) h1' dr.1 (stores-from (N n) (N (At p)) h.store h'.store sub sto)) (sim-br-off ctx q t k l p m (drop 1 names) s h.store h'.store b next h1'.stack c off le long sto falls_it)))

  sim-table-on : (ctx : List Label) (q t : ℕ) (k : Node) (labels : List ℕ) (other p : ℕ) (m : Bool) (names : List Node) (h h' : Here) (s s' : List Value)
      → h.stack ≡ s → h'.stack ≡ s' → AllIn M 1 names → ((l : ℕ) → OneOf labels other l → BrOk Z W G Cuts K M P N ctx m l p (drop 1 names)) → K (At p) ≡ true
      → Rel M P names s s' → Stores (N (At p)) h.store h'.store
      → Sim K M N ctx q t k
      (on_top h s
      (λ v s1. after (seen m (Take (reverse (take (carried (arities ctx) other + 1) h.stack)) ∷ [])) (ends (Branch (chosen labels other (number_of v))) (at_stack (take (carried (arities ctx) (chosen labels other (number_of v))) s1) h))))
      (on_top h' s'
      (λ v s1. after (seen m (Take (reverse (take (carried (arities ctx) other + 1) h'.stack)) ∷ [])) (ends (Branch (chosen labels other (number_of v))) (at_stack (take (carried (arities ctx) (chosen labels other (number_of v))) s1) h'))))
  sim-table-on ctx q t k labels other p m names h h' [] s' eh eh' ks c on rel sto = tt
  sim-table-on ctx q t k labels other p m names h h' (v ∷ s) [] eh eh' ks c on rel sto = absurd (has_top names v s ks rel)
  sim-table-on ctx q t k labels other p m names h h' (v ∷ s) (v' ∷ s') eh eh' ks c on rel sto =
      let same = same_top names v v' s s' ks rel in
      let w = carried (arities ctx) other in
      let es = seen m (Take (reverse (take (w + 1) h.stack)) ∷ []) in
      let es' = seen m (Take (reverse (take (w + 1) h'.stack)) ∷ []) in
      let ev : es' ≡ es =
      seen-eq m (Take (reverse (take (w + 1) h.stack)) ∷ []) (Take (reverse (take (w + 1) h'.stack)) ∷ [])
      (λ on1. let tk : take (w + 1) h'.stack ≡ take (w + 1) h.stack = rw (add-one, eh, eh')
      ((rel-kept M P mp (suc w) names (v ∷ s) (v' ∷ s') rel (more_all w names ks ((c other (last_one labels other)).watched on1))).0) in ap
      (λ z. Take (reverse z) ∷ []) tk) in
      let l = chosen labels other (number_of v) in
      let x = ends (Branch l) (at_stack (take (carried (arities ctx) l) s) h) in
      let x' = ends (Branch l) (at_stack (take (carried (arities ctx) l) s') h') in
      subst
      (λ z. Sim K M N ctx q t k (after es x)
      (after es' (ends (Branch (chosen labels other (number_of z))) (at_stack (take (carried (arities ctx) (chosen labels other (number_of z))) s') h'))))
      same.0
      (sim-after Z W G Cuts K M P N ctx q t k es es' x.outcome x.there x.events x'.outcome x'.there x'.events ev (sim-br-on ctx q t k l p m [] [] (drop 1 names) s s' h.store h'.store (c l (chosen_is Z W G Cuts K M P N labels other (number_of v))) on same.1 sto))

  sim-table-off : (ctx : List Label) (q t : ℕ) (k : Node) (labels : List ℕ) (other p : ℕ) (m : Bool) (names : List Node) (h : Here) (s : List Value)
      (st' : Store) (es : List Event) (b : Below) (c' : Marked) (s' : List Value)
      → ((l : ℕ) → OneOf labels other l → BrOk Z W G Cuts K M P N ctx m l p (drop 1 names)) → K (At p) ≡ false → p + 1 ≤ q → length s ≡ length names
      → Stores (N (At p)) h.store st' → Falls Z b (arities ctx) t c' s' st'
      → Sim K M N ctx q t k
      (on_top h s
      (λ v s1. after (seen m es) (ends (Branch (chosen labels other (number_of v))) (at_stack (take (carried (arities ctx) (chosen labels other (number_of v))) s1) h))))
      (run Z b (arities ctx) c' (at s' st'))
  sim-table-off ctx q t k labels other p m names h [] st' es b c' s' c off le long sto f = tt
  sim-table-off ctx q t k labels other p m names h (v ∷ s) st' es b c' s' c off le long sto f =
      let l = chosen labels other (number_of v) in
      let cl = c l (chosen_is Z W G Cuts K M P N labels other (number_of v)) in
      let x = ends (Branch l) (at (take (carried (arities ctx) l) s) h.store) in
      let x' = run Z b (arities ctx) c' (at s' st') in
      sim-after Z W G Cuts K M P N ctx q t k (seen m es) [] x.outcome x.there x.events x'.outcome x'.there x'.events
      (sym (unmarked Z W G Cuts K M P N m p es cl.marks off))
      (sim-br-off ctx q t k l p m (drop 1 names) s h.store st' b c' s' cl off le (length-drop_of Z W G Cuts K M P N 1 (v ∷ s) names long) sto f)

  whole : (t : ℕ) (s s' : List Value) → length s ≡ t → length s' ≡ t → take t s' ≡ take t s → s' ≡ s
  whole t s s' e e' q = sym (take_all t s' (omega arith)) ∙ q ∙ take_all t s (omega arith)

  -- the slice follows the original: where that takes an unkept branch, the slice falls through
  pub simulate : (b : Below) → Lawful Z W G Cuts K M P N b → DarkLaps Z W G Cuts K M P N b → KeptLaps b
      → (code : Marked) (ctx : List Label) (k : Node) (t : Option ValType) (p q : ℕ) (names : List Node)
      → Closed Z W G Cuts K M P N ctx true k (arity t) code p names → q ≡ p + size code → Within ctx q → (h h' : Here) → Rel M P names h.stack h'.stack
      → Stores (N (first p code k)) h.store h'.store
      → Sim K M N ctx q (arity t) k (run Z b (arities ctx) code h) (run Z b (arities ctx) (cut (callees Z.m) K P T t code p names) h')
  simulate b bc dl kl End ctx k t p q names c eq w h h' rel sto =
      let long = rel-long M P names h.stack h'.stack rel ∙ c.long in
      let long' = rel-shown M P names h.stack h'.stack rel ∙ c.shows refl in
      record { values = record { long = long; long' = long'; equal = λ on. whole (arity t) h.stack h'.stack long long' (rel-kept M P mp (arity t) names h.stack h'.stack rel (c.values on)).0 }; store = sto; events = refl }
  simulate b bc dl kl (Do m op rest) ctx k t p q names c eq w h h' rel sto =
      let next = cut (callees Z.m) K P T t rest (p + 1) (made (callees Z.m) p op names) in
      let cont =
      λ (h1 h1' : Here) (rel1 : Rel M P (made (callees Z.m) p op names) h1.stack h1'.stack) (sto1 : Stores (N (first (p + 1) rest k)) h1.store h1'.store).
      simulate b bc dl kl rest ctx k t (p + 1) q (made (callees Z.m) p op names) c.1 (omega arith) w h1 h1' rel1 sto1 in
      let orig = run Z b (arities ctx) (Do m op rest) h in
      keep_or_not (K (At p))
      (λ on. subst (λ z. Sim K M N ctx q (arity t) k orig (run Z b (arities ctx) z h')) (sym (pick_true (K (At p)) _ _ on)) (sim-do-on b bc ctx q (arity t) k m op p names (first (p + 1) rest k) h h' (run Z b (arities ctx) rest) (run Z b (arities ctx) next) c.0 on rel sto cont _ refl))
      (λ off. subst (λ z. Sim K M N ctx q (arity t) k orig (run Z b (arities ctx) z h')) (sym (pick_false (K (At p)) _ _ off)) (sim-do-off b bc (arities ctx) ctx q (arity t) k m op p names (first (p + 1) rest k) h h' (run Z b (arities ctx) rest) next c.0 off rel sto cont _ refl))
  simulate b bc dl kl (Block m r body rest) ctx k t p q names c eq w h h' rel sto =
      let e = p + 1 + size body in
      let names1 = named (arity r) (Join p) names in
      let next = cut (callees Z.m) K P T t rest e names1 in
      let inner = cut (callees Z.m) K P T r body (p + 1) [] in
      let rb = run Z b (arity r ∷ arities ctx) body (at_stack [] h) in
      let rb' = run Z b (arity r ∷ arities ctx) inner (at_stack [] h') in
      let cont =
      λ (h1 h1' : Here) (rel1 : Rel M P names1 h1.stack h1'.stack) (sto1 : Stores (N (first e rest k)) h1.store h1'.store). simulate b bc dl kl rest ctx k t e
      q names1 c.2 (omega arith) w h1 h1' rel1 sto1 in
      let fall =
      λ (d : Dark K e q) (s1 : List Value) (st1 : Store) (l1 : length s1 ≡ shown P names1). falls Z W G Cuts K M P T N b (arities ctx) t k ctx rest e names1
      c.2 (dark-sub K e q e (e + size rest) d (omega arith) (omega arith)) s1 st1 l1 in
      let orig = run Z b (arities ctx) (Block m r body rest) h in
      keep_or_not (K (At p))
      (λ on.
      let c1 : Closed Z W G Cuts K M P N (block_label p (arity r) e ∷ ctx) true (Join p) (arity r) body (p + 1) [] =
      subst (λ o. Closed Z W G Cuts K M P N (block_label p (arity r) e ∷ ctx) o (Join p) (arity r) body (p + 1) []) on c.1 in
      let sim =
      simulate b bc dl kl body (block_label p (arity r) e ∷ ctx) (Join p) r (p + 1) e [] c1 refl (omega arith) (at_stack [] h) (at_stack [] h') refl
      (stores-from _ (N (At p)) h.store h'.store c.0.enters sto) in
      subst (λ z. Sim K M N ctx q (arity t) k orig (run Z b (arities ctx) z h')) (sym (pick_true (K (At p)) _ _ on))
      (sim-block ctx q e (arity t) (arity r) k p (first e rest k) (seen m (Take [] ∷ [])) (seen m (Take [] ∷ [])) names h.stack h'.stack rb rb' b rest next refl c.0.small (c.0.shows on) (omega arith) w c.0.leaves_it rel sim cont fall))
      (λ off.
      let reg =
      region Z W G Cuts K M P N b bc dl body (block_label p (arity r) e ∷ ctx) (K (At p)) (Join p) (arity r) (p + 1) e [] c.1 refl (c.0.dark refl off)
      (at_stack [] h) refl in
      let one = block-one Z W G Cuts K M P N ctx p e (arity r) _ (N (At p)) h.stack h.store rb.outcome rb.there rb.events c.0.enters reg in
      subst (λ z. Sim K M N ctx q (arity t) k orig (run Z b (arities ctx) z h')) (sym (pick_false (K (At p)) _ _ off))
      (sim-gone ctx q e (arity t) r k p (first e rest k) (seen m (Take [] ∷ [])) names h.stack h'.stack h.store h'.store (leave h.stack rb) b rest next (unmarked Z W G Cuts K M P N m p (Take [] ∷ []) c.0.marks off) (c.0.join refl off) (omega arith) w c.0.leaves_it rel sto one cont fall))
  simulate b bc dl kl (Loop m r body rest) ctx k t p q names c eq w h h' rel sto =
      let e = p + 1 + size body in
      let names1 = named (arity r) (Join p) names in
      let next = cut (callees Z.m) K P T t rest e names1 in
      let inner = cut (callees Z.m) K P T r body (p + 1) [] in
      let rb = run Z b (0 ∷ arities ctx) body (at_stack [] h) in
      let rb' = run Z b (0 ∷ arities ctx) inner (at_stack [] h') in
      let la = again rb (b.lap (arities ctx) body) in
      let la' = again rb' (b.lap (arities ctx) inner) in
      let cont =
      λ (h1 h1' : Here) (rel1 : Rel M P names1 h1.stack h1'.stack) (sto1 : Stores (N (first e rest k)) h1.store h1'.store). simulate b bc dl kl rest ctx k t e
      q names1 c.2 (omega arith) w h1 h1' rel1 sto1 in
      let fall =
      λ (d : Dark K e q) (s1 : List Value) (st1 : Store) (l1 : length s1 ≡ shown P names1). falls Z W G Cuts K M P T N b (arities ctx) t k ctx rest e names1
      c.2 (dark-sub K e q e (e + size rest) d (omega arith) (omega arith)) s1 st1 l1 in
      let orig = run Z b (arities ctx) (Loop m r body rest) h in
      keep_or_not (K (At p))
      (λ on.
      let c1 : Closed Z W G Cuts K M P N (loop_label p e ∷ ctx) true (Join p) (arity r) body (p + 1) [] =
      subst (λ o. Closed Z W G Cuts K M P N (loop_label p e ∷ ctx) o (Join p) (arity r) body (p + 1) []) on c.1 in
      let sim =
      simulate b bc dl kl body (loop_label p e ∷ ctx) (Join p) r (p + 1) e [] c1 refl (omega arith) (at_stack [] h) (at_stack [] h') refl
      (stores-from _ (N (At p)) h.store h'.store c.0.enters sto) in
      let laps =
      again-sim Z W G Cuts K M P N mik ctx p e (arity r) (b.lap (arities ctx) body) (b.lap (arities ctx) inner) rb.outcome rb.there rb.events rb'.outcome
      rb'.there rb'.events (λ h1 h1' e1 e1' sto1. kl ctx p r body c1 c.0.enters h1 h1' e1 e1' sto1)
      (λ d h1 e1. dl refl ctx p (arity r) body true c1 d c.0.enters h1 e1) sim in
      let one =
      loop-sim Z W G Cuts K M P N mik ctx p e (arity r) names h.stack h'.stack la.outcome la.there la.events la'.outcome la'.there la'.events c.0.small
      (c.0.shows on) rel laps in
      let li = leave h.stack la in let li' = leave h'.stack la' in
      let x = then_do li (run Z b (arities ctx) rest) in let x' = then_do li' (run Z b (arities ctx) next) in
      subst (λ z. Sim K M N ctx q (arity t) k orig (run Z b (arities ctx) z h')) (sym (pick_true (K (At p)) _ _ on))
      (sim-after Z W G Cuts K M P N ctx q (arity t) k (seen m (Take [] ∷ [])) (seen m (Take [] ∷ [])) x.outcome x.there x.events x'.outcome x'.there x'.events refl
      (sim-then Z W G Cuts K M P N ctx q e (arity t) k (Join p) (first e rest k) names1 b (run Z b (arities ctx) rest) next li.outcome li.there li.events li'.outcome li'.there li'.events (omega arith) w c.0.leaves_it cont fall one)))
      (λ off.
      let reg =
      region Z W G Cuts K M P N b bc dl body (loop_label p e ∷ ctx) (K (At p)) (Join p) (arity r) (p + 1) e [] c.1 refl (c.0.dark refl off) (at_stack [] h)
      refl in
      let laps =
      again-laps Z W G Cuts K M P N ctx p e (arity r) _ h.store (b.lap (arities ctx) body) rb.outcome rb.there rb.events c.0.enters reg
      (λ off1 h1 e1. dl refl ctx p (arity r) body (K (At p)) c.1 (c.0.dark refl off) c.0.enters h1 e1) in
      let one = laps-one Z W G Cuts K M P N ctx p e (arity r) (N (At p)) h.stack h.store la.outcome la.there la.events laps in
      subst (λ z. Sim K M N ctx q (arity t) k orig (run Z b (arities ctx) z h')) (sym (pick_false (K (At p)) _ _ off))
      (sim-gone ctx q e (arity t) r k p (first e rest k) (seen m (Take [] ∷ [])) names h.stack h'.stack h.store h'.store (leave h.stack la) b rest next (unmarked Z W G Cuts K M P N m p (Take [] ∷ []) c.0.marks off) (c.0.join refl off) (omega arith) w c.0.leaves_it rel sto one cont fall))
  simulate b bc dl kl (If m r x y rest) ctx k t p q names c eq w h h' rel sto =
      let f = p + 1 + size x in
      let e = p + 1 + size x + size y in
      let L = block_label p (arity r) e in
      let names1 = named (arity r) (Join p) (drop 1 names) in
      let next = cut (callees Z.m) K P T t rest e names1 in
      let cx = cut (callees Z.m) K P T r x (p + 1) [] in
      let cy = cut (callees Z.m) K P T r y f [] in
      let rx = run Z b (arity r ∷ arities ctx) x (at_stack [] h) in
      let ry = run Z b (arity r ∷ arities ctx) y (at_stack [] h) in
      let rx' = run Z b (arity r ∷ arities ctx) cx (at_stack [] h') in
      let ry' = run Z b (arity r ∷ arities ctx) cy (at_stack [] h') in
      let cont =
      λ (h1 h1' : Here) (rel1 : Rel M P names1 h1.stack h1'.stack) (sto1 : Stores (N (first e rest k)) h1.store h1'.store). simulate b bc dl kl rest ctx k t e
      q names1 c.5 (omega arith) w h1 h1' rel1 sto1 in
      let fall =
      λ (d : Dark K e q) (s1 : List Value) (st1 : Store) (l1 : length s1 ≡ shown P names1). falls Z W G Cuts K M P T N b (arities ctx) t k ctx rest e names1
      c.5 (dark-sub K e q e (e + size rest) d (omega arith) (omega arith)) s1 st1 l1 in
      let orig = run Z b (arities ctx) (If m r x y rest) h in
      keep_or_not (K (At p))
      (λ on.
      let c1 : Closed Z W G Cuts K M P N (L ∷ ctx) true (Join p) (arity r) x (p + 1) [] =
      subst (λ o. Closed Z W G Cuts K M P N (L ∷ ctx) o (Join p) (arity r) x (p + 1) []) on c.3 in
      let c2 : Closed Z W G Cuts K M P N (L ∷ ctx) true (Join p) (arity r) y f [] =
      subst (λ o. Closed Z W G Cuts K M P N (L ∷ ctx) o (Join p) (arity r) y f []) on c.4 in
      let sx =
      simulate b bc dl kl x (L ∷ ctx) (Join p) r (p + 1) f [] c1 refl (omega arith) (at_stack [] h) (at_stack [] h') refl
      (stores-from _ (N (At p)) h.store h'.store c.1.enters sto) in
      let sy =
      simulate b bc dl kl y (L ∷ ctx) (Join p) r f e [] c2 refl (omega arith) (at_stack [] h) (at_stack [] h') refl
      (stores-from _ (N (At p)) h.store h'.store c.2 sto) in
      subst (λ z. Sim K M N ctx q (arity t) k orig (run Z b (arities ctx) z h')) (sym (pick_true (K (At p)) _ _ on))
      (sim-if-on ctx q e (arity t) (arity r) k m p (first e rest k) names h h' h.stack h'.stack rx ry rx' ry' b rest next (c.0.operand on) c.1.small (c.1.shows on) (omega arith) w c.1.leaves_it rel (sim-longer (L ∷ ctx) f e (arity r) (Join p) rx rx' (omega arith) sx) sy cont fall))
      (λ off.
      let dark = c.1.dark refl off in
      let regx =
      region Z W G Cuts K M P N b bc dl x (L ∷ ctx) (K (At p)) (Join p) (arity r) (p + 1) f [] c.3 refl
      (dark-sub K (p + 1) e (p + 1) f dark (omega arith) (omega arith)) (at_stack [] h) refl in
      let regy =
      region Z W G Cuts K M P N b bc dl y (L ∷ ctx) (K (At p)) (Join p) (arity r) f e [] c.4 refl (dark-sub K (p + 1) e f e dark (omega arith) (omega arith))
      (at_stack [] h) refl in
      subst (λ z. Sim K M N ctx q (arity t) k orig (run Z b (arities ctx) z h')) (sym (pick_false (K (At p)) _ _ off))
      (sim-if-off ctx q e (arity t) r k m p (first e rest k) names h h' h.stack rx ry b rest next (λ v. unmarked Z W G Cuts K M P N m p (Take (v ∷ []) ∷ []) c.1.marks off) (c.1.join refl off) (omega arith) w c.1.leaves_it rel sto (region-longer Z W G Cuts K M P N (L ∷ ctx) f e (arity r) (Join p) _ (N (At p)) h.store rx (omega arith) c.1.enters regx) (region-longer Z W G Cuts K M P N (L ∷ ctx) e e (arity r) (Join p) _ (N (At p)) h.store ry (omega arith) c.2 regy) cont fall))
  simulate b bc dl kl (Br m l rest) ctx k t p q names c eq w h h' rel sto =
      let n = carried (arities ctx) l in
      let orig = run Z b (arities ctx) (Br m l rest) h in
      let es = seen m (Take (reverse (take n h.stack)) ∷ []) in
      let es' = seen m (Take (reverse (take n h'.stack)) ∷ []) in
      let x = ends (Branch l) (at (take n h.stack) h.store) in
      keep_or_not (K (At p))
      (λ on.
      let x' = ends (Branch l) (at (take n h'.stack) h'.store) in
      let ev : es' ≡ es =
      seen-eq m (Take (reverse (take n h.stack)) ∷ []) (Take (reverse (take n h'.stack)) ∷ [])
      (λ on1. let tk = (rel-kept M P mp n names h.stack h'.stack rel (c.watched on1)).0 in ap {A = List Value} (λ z. Take (reverse z) ∷ []) tk) in
      subst (λ z. Sim K M N ctx q (arity t) k orig (run Z b (arities ctx) z h')) (sym (pick_true (K (At p)) _ _ on))
      (sim-after Z W G Cuts K M P N ctx q (arity t) k es es' x.outcome x.there x.events x'.outcome x'.there x'.events ev (sim-br-on ctx q (arity t) k l p m [] [] names h.stack h'.stack h.store h'.store c on rel sto)))
      (λ off.
      let f = falls-zeros P Z b (arities ctx) t names h'.stack h'.store (rel-shown M P names h.stack h'.stack rel) in
      let x' = run Z b (arities ctx) (drops (shown P names) (zeros t End)) h' in
      subst (λ z. Sim K M N ctx q (arity t) k orig (run Z b (arities ctx) z h')) (sym (pick_false (K (At p)) _ _ off))
      (sim-after Z W G Cuts K M P N ctx q (arity t) k es [] x.outcome x.there x.events x'.outcome x'.there x'.events (sym (unmarked Z W G Cuts K M P N m p (Take (reverse (take n h.stack)) ∷ []) c.marks off)) (sim-br-off ctx q (arity t) k l p m names h.stack h.store h'.store b _ h'.stack c off (omega arith) (rel-long M P names h.stack h'.stack rel) sto f)))
  simulate b bc dl kl (BrIf m l rest) ctx k t p q names c eq w h h' rel sto =
      let next = cut (callees Z.m) K P T t rest (p + 1) (drop 1 names) in
      let cont =
      λ (h1 h1' : Here) (rel1 : Rel M P (drop 1 names) h1.stack h1'.stack) (sto1 : Stores (N (first (p + 1) rest k)) h1.store h1'.store). simulate b bc dl kl
      rest ctx k t (p + 1) q (drop 1 names) c.3 (omega arith) w h1 h1' rel1 sto1 in
      let fall =
      λ (d : Dark K (p + 1) q) (s1 : List Value) (st1 : Store) (l1 : length s1 ≡ shown P (drop 1 names)). falls Z W G Cuts K M P T N b (arities ctx) t k ctx
      rest (p + 1) (drop 1 names) c.3 (dark-sub K (p + 1) q (p + 1) (p + 1 + size rest) d (omega arith) (omega arith)) s1 st1 l1 in
      let orig = run Z b (arities ctx) (BrIf m l rest) h in
      keep_or_not (K (At p))
      (λ on. subst (λ z. Sim K M N ctx q (arity t) k orig (run Z b (arities ctx) z h')) (sym (pick_true (K (At p)) _ _ on)) (sim-br_if-on ctx q (arity t) k l p m (first (p + 1) rest k) names h h' h.stack h'.stack b rest next refl refl (c.0.operand on) c.1 on c.2 rel sto cont))
      (λ off. subst (λ z. Sim K M N ctx q (arity t) k orig (run Z b (arities ctx) z h')) (sym (pick_false (K (At p)) _ _ off)) (sim-br_if-off ctx q (arity t) k l p m (first (p + 1) rest k) names h h' h.stack (seen m (Take (reverse (take (carried (arities ctx) l + 1) h.stack)) ∷ [])) b rest next (unmarked Z W G Cuts K M P N m p (Take (reverse (take (carried (arities ctx) l + 1) h.stack)) ∷ []) c.1.marks off) (omega arith) c.1 off c.2 rel sto w cont fall))
  simulate b bc dl kl (BrTable m labels other rest) ctx k t p q names c eq w h h' rel sto =
      let orig = run Z b (arities ctx) (BrTable m labels other rest) h in
      let c1 = λ (l : ℕ) (one : OneOf labels other l). (c.1 l one).0 in
      keep_or_not (K (At p))
      (λ on. subst (λ z. Sim K M N ctx q (arity t) k orig (run Z b (arities ctx) z h')) (sym (pick_true (K (At p)) _ _ on)) (sim-table-on ctx q (arity t) k labels other p m names h h' h.stack h'.stack refl refl (c.0.operand on) c1 on rel sto))
      (λ off.
      let f = falls-zeros P Z b (arities ctx) t names h'.stack h'.store (rel-shown M P names h.stack h'.stack rel) in
      subst (λ z. Sim K M N ctx q (arity t) k orig (run Z b (arities ctx) z h')) (sym (pick_false (K (At p)) _ _ off))
      (sim-table-off ctx q (arity t) k labels other p m names h h.stack h'.store (Take (reverse (take (carried (arities ctx) other + 1) h.stack)) ∷ []) b _ h'.stack c1 off (omega arith) (rel-long M P names h.stack h'.stack rel) sto f))
  simulate b bc dl kl (Return m rest) ctx k t p q names c eq w h h' rel sto =
      let n = carried (arities ctx) (outermost (arities ctx)) in
      let orig = run Z b (arities ctx) (Return m rest) h in
      let es = seen m (Take (reverse (take n h.stack)) ∷ []) in
      let es' = seen m (Take (reverse (take n h'.stack)) ∷ []) in
      let x = ends (Branch (outermost (arities ctx))) (at (take n h.stack) h.store) in
      keep_or_not (K (At p))
      (λ on.
      let x' = ends (Branch (outermost (arities ctx))) (at (take n h'.stack) h'.store) in
      let ev : es' ≡ es =
      seen-eq m (Take (reverse (take n h.stack)) ∷ []) (Take (reverse (take n h'.stack)) ∷ [])
      (λ on1. let tk = (rel-kept M P mp n names h.stack h'.stack rel (c.watched on1)).0 in ap {A = List Value} (λ z. Take (reverse z) ∷ []) tk) in
      subst (λ z. Sim K M N ctx q (arity t) k orig (run Z b (arities ctx) z h')) (sym (pick_true (K (At p)) _ _ on))
      (sim-after Z W G Cuts K M P N ctx q (arity t) k es es' x.outcome x.there x.events x'.outcome x'.there x'.events ev (sim-br-on ctx q (arity t) k (outermost (arities ctx)) p m [] [] names h.stack h'.stack h.store h'.store c on rel sto)))
      (λ off.
      let f = falls-zeros P Z b (arities ctx) t names h'.stack h'.store (rel-shown M P names h.stack h'.stack rel) in
      let x' = run Z b (arities ctx) (drops (shown P names) (zeros t End)) h' in
      subst (λ z. Sim K M N ctx q (arity t) k orig (run Z b (arities ctx) z h')) (sym (pick_false (K (At p)) _ _ off))
      (sim-after Z W G Cuts K M P N ctx q (arity t) k es [] x.outcome x.there x.events x'.outcome x'.there x'.events (sym (unmarked Z W G Cuts K M P N m p (Take (reverse (take n h.stack)) ∷ []) c.marks off)) (sim-br-off ctx q (arity t) k (outermost (arities ctx)) p m names h.stack h.store h'.store b _ h'.stack c off (omega arith) (rel-long M P names h.stack h'.stack rel) sto f)))
  simulate b bc dl kl (Unreachable m rest) ctx k t p q names c eq w h h' rel sto = tt

  -- laps of a kept loop, whatever the number
  pub kept-laps : (F : Below → Calls) (n : ℕ) → ((m : ℕ) → m ≤ n → Lawful Z W G Cuts K M P N (below Z F m)) → KeptLaps (below Z F n)
  kept-laps F zero good ctx p r body c enters h h' e e' sto = tt
  kept-laps F (suc n) good ctx p r body c enters h h' e e' sto =
      let inner = cut (callees Z.m) K P T r body (p + 1) [] in
      let rb = run Z (below Z F n) (0 ∷ arities ctx) body h in
      let rb' = run Z (below Z F n) (0 ∷ arities ctx) inner h' in
      let rel : Rel M P [] h.stack h'.stack = rw e e' in
      let sim =
      simulate (below Z F n) (good n (omega arith)) (dark-laps Z W G Cuts K M P N F n (λ m le. good m (omega arith)))
      (kept-laps F n (λ m le. good m (omega arith))) body (loop_label p (p + 1 + size body) ∷ ctx) (Join p) r (p + 1) (p + 1 + size body) [] c refl
      (omega arith) h h' rel (stores-from _ (N (At p)) h.store h'.store enters sto) in
      again-sim Z W G Cuts K M P N mik ctx p (p + 1 + size body) (arity r) ((below Z F n).lap (arities ctx) body) ((below Z F n).lap (arities ctx) inner)
      rb.outcome rb.there rb.events rb'.outcome rb'.there rb'.events
      (λ h1 h1' e1 e1' sto1. kept-laps F n (λ m le. good m (omega arith)) ctx p r body c enters h1 h1' e1 e1' sto1)
      (λ d h1 e1. dark-laps Z W G Cuts K M P N F n (λ m le. good m (omega arith)) refl ctx p (arity r) body true c d enters h1 e1) sim
