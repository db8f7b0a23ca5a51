-- The simulation, one instruction at a time.
use Rattle.std.proofs.Common.{◌≡◌, ℕ, zero, suc, ◌+◌, ◌≤◌, List, [], ◌∷◌, ◌++◌, Bool, true, false, Option, length, refl, sym, ap, ap₂, ◌∙◌, subst, arith, length-append, append-nil}
use Rattle.wasm_types.specs.Marked.{Marked}
use Rattle.wasm_types.specs.declared.module.ValType.{ValType}
use Rattle.wasm_types.specs.declared.module.Value.{Value}
use Rattle.wasm_meaning.specs.State.{Store}
use Rattle.wasm_types.specs.declared.place.Loc.{Loc}
use Rattle.flow_domain.specs.Bounds.{Cover}
use Rattle.wasm_meaning.specs.Effects.{Fixed, Calls}
use Rattle.wasm_meaning.specs.Run.{Here, Outcome, Normal, Branch, Stopped, Run, ends, after, seen, then_do, leave, back, again, Below, run}
use Rattle.wasm_types.specs.declared.run.Event.{Event}
use Rattle.wasm_types.specs.Labels.{arity, carried, Label, block_label, loop_label, arities, point_of}
use Rattle.wasm_meaning.proofs.Equal.{eq-sym, eq-then, eq-both_turns}
use Rattle.wasm_types.specs.declared.place.Node.{Node}
use Rattle.wasm_types.specs.Nodes.{At, Join, named}
use Rattle.flow_domain.specs.Cut.{shown}
use Rattle.flow_laws.proofs.Closed.{Mode, Cuts, strict, Dark, Skip}
use Rattle.flow_laws.proofs.Simulates.{Rel, Stores, Normals, Jumps, Skips, SimBy, Sim}
use Rattle.flow_laws.proofs.Stacks.{at, filled, length-filled, rel-shown, rel-fill, rel-new}
use Rattle.flow_laws.proofs.Falls.{dark-sub, Falls}
use Rattle.flow_laws.proofs.Region.{mk, Keeps, skip-later, Laps, One, not_both}

abbrev pub Within : List Label → ℕ → Type 0
Within [] q = Unit {0}
Within (L ∷ ctx) q = q ≤ L.stop

pub skip-dark : (w1 : Mode) (K : Node → Bool) (ctx : List Label) (l e q : ℕ) → Within ctx q → Skip w1 K ctx l e → Dark K e q
skip-dark w1 K [] l e q w s = absurd s
skip-dark w1 K (L ∷ ctx) zero e q w s = dark-sub K e L.stop e q s.0 (omega arith) w
skip-dark w1 K (L ∷ ctx) (suc l) e q w s = dark-sub K e L.stop e q s.0 (omega arith) w

pub stores-keep : (d : Bool) (f g : Loc → Type 0) (st st1 st' : Store) → Keeps d f g st st1 → Stores g st st' → Stores f st1 st'
stores-keep d f g st st1 st' a b = record {
  equal = λ x e. eq-then x st1 st st' (eq-sym x st st1 (a.equal x e)) (b.equal x (a.back_to x e));
  turns = let l = a.turns in let m = b.turns in omega arith;
}

pub stores-from : (f g : Loc → Type 0) (st st' : Store) → ((x : Loc) → f x → g x) → Stores g st st' → Stores f st st'
stores-from f g st st' sub b = record { equal = λ x e. b.equal x (sub x e); turns = b.turns }

pub seen-eq : (m : Bool) (es es' : List Event) → (m ≡ true → es' ≡ es) → seen m es' ≡ seen m es
seen-eq true es es' e = e refl
seen-eq false es es' e = refl

module _ (Z : Fixed) (W : Cover) (G : Calls → Type 0) (wh : Mode) (K M P : Node → Bool) (N : Node → Loc → Type 0) where
  -- one instruction, after which the slice's stack is the original's at the places shown
  pub record Ones (names : List Node) (j : Node) (r r' : Run) : Type 0 where
    pub rel : Rel M P names r.there.stack r'.there.stack
    pub store : Stores (N j) r.there.store r'.there.store
    pub events : r'.events ≡ r.events

  pub record SkipsOne (ctx : List Label) (l e : ℕ) (names : List Node) (r r' : Run) : Type 0 where
    pub long : length r.there.stack ≡ carried (arities ctx) l
    pub long' : length r'.there.stack ≡ shown P names
    pub store : Stores (N (point_of ctx l)) r.there.store r'.there.store
    pub skip : Skip Cuts K ctx l e
    pub events : r'.events ≡ r.events

  abbrev pub SimOneBy : List Label → ℕ → List Node → Node → Run → Run → Outcome → Outcome → Type 0
  SimOneBy ctx e names j r r' Normal Normal = Ones names j r r'
  SimOneBy ctx e names j r r' (Branch l) (Branch l') = (l' ≡ l) × Jumps K M N ctx l r r'
  SimOneBy ctx e names j r r' (Branch l) Normal = SkipsOne ctx l e names r r'
  SimOneBy ctx e names j r r' (Stopped why) o' = Unit {0}
  SimOneBy ctx e names j r r' _ _ = ⊥

  abbrev pub SimOne : List Label → ℕ → List Node → Node → Run → Run → Type 0
  SimOne ctx e names j r r' = SimOneBy ctx e names j r r' r.outcome r'.outcome

  -- laps of a kept loop
  abbrev pub SimLapsBy : List Label → ℕ → ℕ → Node → Run → Run → Outcome → Outcome → Type 0
  SimLapsBy ctx q t k r r' (Branch zero) o' = ⊥
  SimLapsBy ctx q t k r r' Normal Normal = Normals K M N k t r r'
  SimLapsBy ctx q t k r r' (Branch (suc l)) (Branch l') = (l' ≡ suc l) × Jumps K M N ctx (suc l) r r'
  SimLapsBy ctx q t k r r' (Branch (suc l)) Normal = Skips K M N ctx (suc l) q t r r'
  SimLapsBy ctx q t k r r' (Stopped why) o' = Unit {0}
  SimLapsBy ctx q t k r r' _ _ = ⊥

  abbrev pub SimLaps : List Label → ℕ → ℕ → Node → Run → Run → Type 0
  SimLaps ctx q t k r r' = SimLapsBy ctx q t k r r' r.outcome r'.outcome

  events-after : (es es' fs fs' : List Event) → es' ≡ es → fs' ≡ fs → es' ++ fs' ≡ es ++ fs
  events-after es es' fs fs' e f = ap₂ {A = List Event} {B = List Event} (λ x y. x ++ y) e f

  pub sim-after : (ctx : List Label) (q t : ℕ) (k : Node) (es es' : List Event) (o : Outcome) (h : Here) (fs : List Event) (o' : Outcome) (h' : Here)
      (fs' : List Event)
      → es' ≡ es → Sim K M N ctx q t k (mk o h fs) (mk o' h' fs') → Sim K M N ctx q t k (after es (mk o h fs)) (after es' (mk o' h' fs'))
  sim-after ctx q t k es es' Normal h fs Normal h' fs' e a = record { values = a.values; store = a.store; events = events-after es es' fs fs' e a.events }
  sim-after ctx q t k es es' Normal h fs (Branch l') h' fs' e a = absurd a
  sim-after ctx q t k es es' Normal h fs (Stopped why) h' fs' e a = absurd a
  sim-after ctx q t k es es' (Branch l) h fs Normal h' fs' e a =
      record { long = a.long; long' = a.long'; store = a.store; skip = a.skip; events = events-after es es' fs fs' e a.events }
  sim-after ctx q t k es es' (Branch l) h fs (Branch l') h' fs' e a =
      (a.0, record { values = a.1.values; store = a.1.store; events = events-after es es' fs fs' e a.1.events })
  sim-after ctx q t k es es' (Branch l) h fs (Stopped why) h' fs' e a = absurd a
  sim-after ctx q t k es es' (Stopped why) h fs o' h' fs' e a = tt

  sim-laps-after : (ctx : List Label) (q t : ℕ) (k : Node) (es es' : List Event) (o : Outcome) (h : Here) (fs : List Event) (o' : Outcome) (h' : Here)
      (fs' : List Event)
      → es' ≡ es → SimLaps ctx q t k (mk o h fs) (mk o' h' fs') → SimLaps ctx q t k (after es (mk o h fs)) (after es' (mk o' h' fs'))
  sim-laps-after ctx q t k es es' Normal h fs Normal h' fs' e a = record { values = a.values; store = a.store; events = events-after es es' fs fs' e a.events }
  sim-laps-after ctx q t k es es' Normal h fs (Branch l') h' fs' e a = absurd a
  sim-laps-after ctx q t k es es' Normal h fs (Stopped why) h' fs' e a = absurd a
  sim-laps-after ctx q t k es es' (Branch zero) h fs o' h' fs' e a = absurd a
  sim-laps-after ctx q t k es es' (Branch (suc l)) h fs Normal h' fs' e a =
      record { long = a.long; long' = a.long'; store = a.store; skip = a.skip; events = events-after es es' fs fs' e a.events }
  sim-laps-after ctx q t k es es' (Branch (suc l)) h fs (Branch l') h' fs' e a =
      (a.0, record { values = a.1.values; store = a.1.store; events = events-after es es' fs fs' e a.1.events })
  sim-laps-after ctx q t k es es' (Branch (suc l)) h fs (Stopped why) h' fs' e a = absurd a
  sim-laps-after ctx q t k es es' (Stopped why) h fs o' h' fs' e a = tt

  -- what the rest of the slice does from a stack of the right height, where nothing is kept
  abbrev pub Fallen : List ℕ → ℕ → List Node → Marked → Below → Type 0
  Fallen ls t names c b = (s : List Value) (st : Store) → length s ≡ shown P names → Falls Z b ls t c s st

  skipped : (ctx : List Label) (q t l : ℕ) (k : Node) (r : Run) (h' : Here) (es' : List Event) (b : Below) (ls : List ℕ) (c : Marked) → r.outcome ≡ Branch l
      → length r.there.stack ≡ carried (arities ctx) l → Stores (N (point_of ctx l)) r.there.store h'.store → Skip Cuts K ctx l q → es' ≡ r.events
      → Falls Z b ls t c h'.stack h'.store → Sim K M N ctx q t k r (after es' (run Z b ls c h'))
  skipped ctx q t l k r h' es' b ls c o long st sk ev f =
      subst (λ x. SimBy K M N ctx q t k r (after es' x) r.outcome x.outcome) (sym f.does)
      (subst (λ x. SimBy K M N ctx q t k r (after es' (ends Normal (at f.stack h'.store))) x Normal) (sym o)
      (record { long = long; long' = f.long; store = st; skip = sk; events = append-nil es' ∙ ev }))

  -- one instruction, and the rest
  pub sim-then : (ctx : List Label) (q e t : ℕ) (k j n : Node) (names : List Node) (b : Below) (go : Here → Run) (c : Marked) (o : Outcome) (h : Here)
      (es : List Event) (o' : Outcome) (h' : Here) (es' : List Event)
      → e ≤ q → Within ctx q → ((x : Loc) → N n x → N j x)
      → ((h1 h1' : Here) → Rel M P names h1.stack h1'.stack → Stores (N n) h1.store h1'.store → Sim K M N ctx q t k (go h1) (run Z b (arities ctx) c h1'))
      → (Dark K e q → Fallen (arities ctx) t names c b) → SimOne ctx e names j (mk o h es) (mk o' h' es')
      → Sim K M N ctx q t k (then_do (mk o h es) go) (then_do (mk o' h' es') (run Z b (arities ctx) c))
  sim-then ctx q e t k j n names b go c Normal h es Normal h' es' le w sub rest fall a =
      let r = go h in let r' = run Z b (arities ctx) c h' in
      sim-after ctx q t k es es' r.outcome r.there r.events r'.outcome r'.there r'.events a.events
      (rest h h' a.rel (stores-from (N n) (N j) h.store h'.store sub a.store))
  sim-then ctx q e t k j n names b go c Normal h es (Branch l') h' es' le w sub rest fall a = absurd a
  sim-then ctx q e t k j n names b go c Normal h es (Stopped why) h' es' le w sub rest fall a = absurd a
  sim-then ctx q e t k j n names b go c (Branch l) h es Normal h' es' le w sub rest fall a =
      skipped ctx q t l k (mk (Branch l) h es) h' es' b (arities ctx) c refl a.long a.store (skip-later Cuts K ctx l e q le a.skip) a.events
      (fall (skip-dark Cuts K ctx l e q w a.skip) h'.stack h'.store a.long')
  sim-then ctx q e t k j n names b go c (Branch l) h es (Branch l') h' es' le w sub rest fall a = a
  sim-then ctx q e t k j n names b go c (Branch l) h es (Stopped why) h' es' le w sub rest fall a = absurd a
  sim-then ctx q e t k j n names b go c (Stopped why) h es o' h' es' le w sub rest fall a = tt

  -- an unkept block, loop or if: the slice has only a filler for its result
  pub unkept-then : ((d : Node) → M d ≡ true → K d ≡ true)
      → (ctx : List Label) (q e t : ℕ) (r : Option ValType) (k j n : Node) (names : List Node) (b : Below) (go : Here → Run) (c : Marked) (g : Loc → Type 0)
      (s s' : List Value) (st st' : Store) (o : Outcome) (h : Here) (es : List Event)
      → e ≤ q → Within ctx q → ((x : Loc) → N n x → N j x) → (K j ≡ false) → Rel M P names s s' → Stores g st st'
      → ((h1 h1' : Here) → Rel M P (named (arity r) j names) h1.stack h1'.stack → Stores (N n) h1.store h1'.store → Sim K M N ctx q t k (go h1) (run Z b (arities ctx) c h1'))
      → (Dark K e q → Fallen (arities ctx) t (named (arity r) j names) c b) → One Z W G Cuts K M P N ctx e (arity r) j g s st (mk o h es)
      → Sim K M N ctx q t k (then_do (mk o h es) go) (run Z b (arities ctx) c (at (filled P r j s') st'))
  unkept-then mik ctx q e t r k j n names b go c g s s' st st' Normal h es le w sub off rel sto rest fall a =
      let h1' = at (filled P r j s') st' in
      let x = go h in let x' = run Z b (arities ctx) c h1' in
      let rel1 : Rel M P (named (arity r) j names) h.stack h1'.stack =
      subst (λ z. Rel M P (named (arity r) j names) z h1'.stack) (sym a.stack)
      (rel-fill M P r j names a.values s s' (λ on. not_both Z W G Cuts K M P N (K j) (mik j on) off) a.long rel) in
      sim-after ctx q t k es [] x.outcome x.there x.events x'.outcome x'.there x'.events (sym a.events)
      (rest h h1' rel1 (stores-from (N n) (N j) h.store st' sub (stores-keep (strict Cuts) (N j) g st h.store st' a.keeps sto)))
  unkept-then mik ctx q e t r k j n names b go c g s s' st st' (Branch l) h es le w sub off rel sto rest fall a =
      skipped ctx q t l k (mk (Branch l) h es) (at (filled P r j s') st') [] b (arities ctx) c refl a.long
      (stores-keep (strict Cuts) (N (point_of ctx l)) g st h.store st' a.keeps sto) (skip-later Cuts K ctx l e q le a.skip) (sym a.events)
      (fall (skip-dark Cuts K ctx l e q w a.skip) (filled P r j s') st' (length-filled P r j names s' (rel-shown M P names s s' rel)))
  unkept-then mik ctx q e t r k j n names b go c g s s' st st' (Stopped why) h es le w sub off rel sto rest fall a = tt

  length-new : (r : ℕ) (j : Node) (names : List Node) (vs s : List Value) → P j ≡ true → r ≤ 1 → length vs ≡ r → length s ≡ shown P names
      → length (vs ++ s) ≡ shown P (named r j names)
  length-new zero j names vs s p small e f = omega (arith, length-append vs s)
  length-new (suc zero) j names vs s p small e f = rw p (omega (arith, length-append vs s))
  length-new (suc (suc r)) j names vs s p small e f = absurd (omega arith)

  -- a kept block as one instruction
  pub block-sim : ((d : Node) → M d ≡ true → K d ≡ true)
      → (ctx : List Label) (p e r : ℕ) (names : List Node) (s s' : List Value) (o : Outcome) (h : Here) (es : List Event) (o' : Outcome) (h' : Here)
      (es' : List Event)
      → r ≤ 1 → P (Join p) ≡ true → Rel M P names s s' → Sim K M N (block_label p r e ∷ ctx) e r (Join p) (mk o h es) (mk o' h' es')
      → SimOne ctx e (named r (Join p) names) (Join p) (leave s (mk o h es)) (leave s' (mk o' h' es'))
  block-sim mik ctx p e r names s s' Normal h es Normal h' es' small sh rel a = record {
    rel = rel-new M P r (Join p) names h.stack h'.stack s s' sh a.values.long a.values.long' small a.values.equal rel;
    store = a.store;
    events = a.events;
  }
  block-sim mik ctx p e r names s s' Normal h es (Branch l') h' es' small sh rel a = absurd a
  block-sim mik ctx p e r names s s' Normal h es (Stopped why) h' es' small sh rel a = absurd a
  block-sim mik ctx p e r names s s' (Branch zero) h es Normal h' es' small sh rel a = record {
    rel =
        rel-new M P r (Join p) names h.stack h'.stack s s' sh a.long a.long' small (λ on. not_both Z W G Cuts K M P N (K (Join p)) (mik (Join p) on) a.skip.1)
        rel;
    store = a.store;
    events = a.events;
  }
  block-sim mik ctx p e r names s s' (Branch zero) h es (Branch zero) h' es' small sh rel a = record {
    rel = rel-new M P r (Join p) names h.stack h'.stack s s' sh a.1.values.long a.1.values.long' small a.1.values.equal rel;
    store = a.1.store;
    events = a.1.events;
  }
  block-sim mik ctx p e r names s s' (Branch zero) h es (Branch (suc l')) h' es' small sh rel a = absurd (let q = a.0 in omega arith)
  block-sim mik ctx p e r names s s' (Branch zero) h es (Stopped why) h' es' small sh rel a = absurd a
  block-sim mik ctx p e r names s s' (Branch (suc l)) h es Normal h' es' small sh rel a = record {
    long = a.long;
    long' = length-new r (Join p) names h'.stack s' sh small a.long' (rel-shown M P names s s' rel);
    store = a.store;
    skip = a.skip.1;
    events = a.events;
  }
  block-sim mik ctx p e r names s s' (Branch (suc l)) h es (Branch zero) h' es' small sh rel a = absurd (let q = a.0 in omega arith)
  block-sim mik ctx p e r names s s' (Branch (suc l)) h es (Branch (suc l')) h' es' small sh rel a =
      (let q = a.0 in omega arith, record { values = a.1.values; store = a.1.store; events = a.1.events })
  block-sim mik ctx p e r names s s' (Branch (suc l)) h es (Stopped why) h' es' small sh rel a = absurd a
  block-sim mik ctx p e r names s s' (Stopped why) h es o' h' es' small sh rel a = tt

  -- the laps of a kept loop as one instruction
  pub loop-sim : ((d : Node) → M d ≡ true → K d ≡ true)
      → (ctx : List Label) (p e r : ℕ) (names : List Node) (s s' : List Value) (o : Outcome) (h : Here) (es : List Event) (o' : Outcome) (h' : Here)
      (es' : List Event)
      → r ≤ 1 → P (Join p) ≡ true → Rel M P names s s' → SimLaps (loop_label p e ∷ ctx) e r (Join p) (mk o h es) (mk o' h' es')
      → SimOne ctx e (named r (Join p) names) (Join p) (leave s (mk o h es)) (leave s' (mk o' h' es'))
  loop-sim mik ctx p e r names s s' Normal h es Normal h' es' small sh rel a = record {
    rel = rel-new M P r (Join p) names h.stack h'.stack s s' sh a.values.long a.values.long' small a.values.equal rel;
    store = a.store;
    events = a.events;
  }
  loop-sim mik ctx p e r names s s' Normal h es (Branch l') h' es' small sh rel a = absurd a
  loop-sim mik ctx p e r names s s' Normal h es (Stopped why) h' es' small sh rel a = absurd a
  loop-sim mik ctx p e r names s s' (Branch zero) h es o' h' es' small sh rel a = absurd a
  loop-sim mik ctx p e r names s s' (Branch (suc l)) h es Normal h' es' small sh rel a = record {
    long = a.long;
    long' = length-new r (Join p) names h'.stack s' sh small a.long' (rel-shown M P names s s' rel);
    store = a.store;
    skip = a.skip.1;
    events = a.events;
  }
  loop-sim mik ctx p e r names s s' (Branch (suc l)) h es (Branch zero) h' es' small sh rel a = absurd (let q = a.0 in omega arith)
  loop-sim mik ctx p e r names s s' (Branch (suc l)) h es (Branch (suc l')) h' es' small sh rel a =
      (let q = a.0 in omega arith, record { values = a.1.values; store = a.1.store; events = a.1.events })
  loop-sim mik ctx p e r names s s' (Branch (suc l)) h es (Stopped why) h' es' small sh rel a = absurd a
  loop-sim mik ctx p e r names s s' (Stopped why) h es o' h' es' small sh rel a = tt

  -- the original goes round a loop in which nothing is kept, while the slice stands at its end
  pub dark-then : ((d : Node) → M d ≡ true → K d ≡ true)
      → (ctx : List Label) (e r : ℕ) (k : Node) (g : Loc → Type 0) (st : Store) (es es' : List Event) (h' : Here) → (K k ≡ false) → es' ≡ es
      → length h'.stack ≡ r → Stores g st h'.store → (o : Outcome) (h : Here) (fs : List Event) → Laps Z W G Cuts K M P N ctx e r k g st (mk o h fs)
      → SimLaps ctx e r k (after es (mk o h fs)) (mk Normal h' es')
  dark-then mik ctx e r k g st es es' h' off ev long sto Normal h fs a = record {
    values = record { long = a.long; long' = long; equal = λ on. not_both Z W G Cuts K M P N (K k) (mik k on) off };
    store = stores-keep (strict Cuts) (N k) g st h.store h'.store a.keeps sto;
    events = ev ∙ sym (append-nil es) ∙ ap (λ z. es ++ z) (sym a.events);
  }
  dark-then mik ctx e r k g st es es' h' off ev long sto (Branch zero) h fs a = absurd a
  dark-then mik ctx e r k g st es es' h' off ev long sto (Branch (suc l)) h fs a = record {
    long = a.long;
    long' = long;
    store = stores-keep (strict Cuts) (N (point_of ctx (suc l))) g st h.store h'.store a.keeps sto;
    skip = a.skip;
    events = ev ∙ sym (append-nil es) ∙ ap (λ z. es ++ z) (sym a.events);
  }
  dark-then mik ctx e r k g st es es' h' off ev long sto (Stopped why) h fs a = tt

  -- the contents of a kept loop, and its further laps
  pub again-sim : ((d : Node) → M d ≡ true → K d ≡ true)
      → (ctx : List Label) (p e r : ℕ) (go go' : Here → Run) (o : Outcome) (h : Here) (es : List Event) (o' : Outcome) (h' : Here) (es' : List Event)
      → ((h1 h1' : Here) → h1.stack ≡ [] → h1'.stack ≡ [] → Stores (N (At p)) h1.store h1'.store → SimLaps (loop_label p e ∷ ctx) e r (Join p) (go h1) (go' h1'))
      → (Dark K (p + 1) e → (h1 : Here) → h1.stack ≡ [] → Laps Z W G Cuts K M P N (loop_label p e ∷ ctx) e r (Join p) (N (At p)) h1.store (go h1))
      → Sim K M N (loop_label p e ∷ ctx) e r (Join p) (mk o h es) (mk o' h' es')
      → SimLaps (loop_label p e ∷ ctx) e r (Join p) (again (mk o h es) go) (again (mk o' h' es') go')
  again-sim mik ctx p e r go go' Normal h es Normal h' es' next dark a = a
  again-sim mik ctx p e r go go' Normal h es (Branch l') h' es' next dark a = absurd a
  again-sim mik ctx p e r go go' Normal h es (Stopped why) h' es' next dark a = absurd a
  again-sim mik ctx p e r go go' (Branch zero) h es Normal h' es' next dark a =
      let x = go (back h) in
      let sto : Stores (N (At p)) (back h).store h'.store =
      record { equal = λ x q. eq-both_turns x h.store h'.store (h.store.state.turns + 1) h'.store.state.turns (a.store.equal x q); turns = let l = a.store.turns in omega arith }
      in
      dark-then mik (loop_label p e ∷ ctx) e r (Join p) (N (At p)) (back h).store es es' h' a.skip.1 a.events a.long' sto x.outcome x.there x.events
      (dark (a.skip.2 refl) (back h) refl)
  again-sim mik ctx p e r go go' (Branch zero) h es (Branch zero) h' es' next dark a =
      let x = go (back h) in let x' = go' (back h') in
      sim-laps-after (loop_label p e ∷ ctx) e r (Join p) es es' x.outcome x.there x.events x'.outcome x'.there x'.events a.1.events
      (next (back h) (back h') refl refl
      (record { equal = λ x q. eq-both_turns x h.store h'.store (h.store.state.turns + 1) (h'.store.state.turns + 1) (a.1.store.equal x q); turns = let l = a.1.store.turns in omega arith }))
  again-sim mik ctx p e r go go' (Branch zero) h es (Branch (suc l')) h' es' next dark a = absurd (let q = a.0 in omega arith)
  again-sim mik ctx p e r go go' (Branch zero) h es (Stopped why) h' es' next dark a = absurd a
  again-sim mik ctx p e r go go' (Branch (suc l)) h es Normal h' es' next dark a = a
  again-sim mik ctx p e r go go' (Branch (suc l)) h es (Branch zero) h' es' next dark a = absurd (let q = a.0 in omega arith)
  again-sim mik ctx p e r go go' (Branch (suc l)) h es (Branch (suc l')) h' es' next dark a = a
  again-sim mik ctx p e r go go' (Branch (suc l)) h es (Stopped why) h' es' next dark a = absurd a
  again-sim mik ctx p e r go go' (Stopped why) h es o' h' es' next dark a = tt
