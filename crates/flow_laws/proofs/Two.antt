-- Two runs of one body from two starts that agree where something is led to.
use Rattle.std.proofs.Common.{◌≡◌, ℕ, zero, suc, ◌+◌, ◌≤◌, ◌⊎◌, inl, inr, List, [], ◌∷◌, ◌++◌, Bool, true, false, take, drop, length, refl, sym, ap, ◌∙◌, subst, arith, true≢false, length-append}
use Rattle.std.proofs.lemmas.List.{take_all}
use Rattle.wasm_types.specs.declared.module.Value.{Value}
use Rattle.wasm_types.specs.declared.module.Value.TheVariants as value
use Rattle.wasm_types.specs.declared.instr.Instr.{Instr}
use Rattle.flow_laws.proofs.Closed.{Agreed, Agrees, BrOk, Closed, Completes, Cuts, Dark, DoOk, Matches, Mode, Skip, follows, strict}
use Rattle.flow_laws.proofs.Falls.{dark-sub}
use Rattle.flow_laws.proofs.Region.{DarkLaps, Keeps, Laps, Lawful, Lost, Region, chosen_is, dark-laps, length-take_of, lost_or, mk, on_or_off, region, region-longer, region-zero, skip-later}
use Rattle.flow_laws.proofs.Simulates.{Rel, Values}
use Rattle.flow_laws.proofs.Stacks.{at, rel-kept, rel-long, rel-new, rel-take}
use Rattle.flow_laws.proofs.Steps.{Within, skip-dark}
use Rattle.wasm_types.specs.Labels.{Label, arities, block_label, first, join_of, loop_label, point_of, arity, carried, outermost}
use Rattle.wasm_types.specs.Nodes.{AllIn, At, Join, every, made, named}
use Rattle.wasm_types.specs.declared.place.Node.{Node}
use Rattle.wasm_types.specs.Sites.{OneOf}
use Rattle.wasm_meaning.proofs.Equal.{across, eq-both_turns, eq-sym, eq-then}
use Rattle.wasm_meaning.proofs.ActionLaws.{gives_is}
use Rattle.flow_laws.proofs.Effects.{stops_give, Comes, Does}
use Rattle.wasm_meaning.specs.Effects.{Answer, Calls, Effect, Fixed, Gives, Stops, effect}
use Rattle.wasm_types.specs.Actions.{callees, leaves, takes}
use Rattle.wasm_meaning.specs.Operations.{number_of}
use Rattle.flow_domain.specs.Bounds.{Bounds, Cover, bounds, writes}
use Rattle.wasm_meaning.specs.Equality.{EqAt}
use Rattle.wasm_types.specs.declared.place.Loc.{Loc}
use Rattle.wasm_meaning.specs.Run.{Below, Branch, Here, Normal, Outcome, Run, Stopped, after, again, at_stack, back, below, chosen, do_step, ends, if_zero, leave, on_top, run, seen, then_do}
use Rattle.wasm_types.specs.declared.run.Event.{Event}
use Rattle.wasm_types.specs.declared.run.Event.TheVariants.{Take}
use Rattle.wasm_meaning.specs.State.{Store}
use Rattle.wasm_meaning.specs.Stops.{Stop}
use Rattle.wasm_types.specs.Marked.{Block, Br, BrIf, BrTable, Do, End, If, Loop, Marked, Return, Unreachable, size}

module _ (Z : Fixed) (W : Cover) (G : Calls → Type 0) (md : Mode) (K M : Node → Bool) (N : Node → Loc → Type 0) (mik : (d : Node) → M d ≡ true → K d ≡ true)
    (from from' : ℕ) where
  abbrev B : Bounds
  B = bounds Z.m W

  -- two stores agree on what both places need; in a strict proof both runs took as many turns
  pub record Apart (f f' : Loc → Type 0) (s s' : Store) : Type 0 where
    pub equal : (x : Loc) → f x → f' x → EqAt x s s'
    pub turns : strict md ≡ true → s'.state.turns + from ≡ s.state.turns + from'

  pub apart-left : (f g f' : Loc → Type 0) (s s1 s' : Store) → Keeps (strict md) f g s s1 → Apart g f' s s' → Apart f f' s1 s'
  apart-left f g f' s s1 s' a b = record {
    equal = λ x n n'. eq-then x s1 s s' (eq-sym x s s1 (a.equal x n)) (b.equal x (a.back_to x n) n');
    turns = λ on. let p = a.still on in let q = b.turns on in omega arith;
  }

  pub apart-right : (f f' g' : Loc → Type 0) (s s' s1' : Store) → Keeps (strict md) f' g' s' s1' → Apart f g' s s' → Apart f f' s s1'
  apart-right f f' g' s s' s1' a b = record {
    equal = λ x n n'. eq-then x s s' s1' (b.equal x n (a.back_to x n')) (a.equal x n');
    turns = λ on. let p = a.still on in let q = b.turns on in omega arith;
  }

  pub apart-both : (f g f' g' : Loc → Type 0) (s s1 s' s1' : Store) → Keeps (strict md) f g s s1 → Keeps (strict md) f' g' s' s1' → Apart g g' s s'
      → Apart f f' s1 s1'
  apart-both f g f' g' s s1 s' s1' a a' b = apart-right f f' g' s1 s' s1' a' (apart-left f g g' s s1 s' a b)

  pub apart-sub : (f g f' g' : Loc → Type 0) (s s' : Store) → ((x : Loc) → f x → g x) → ((x : Loc) → f' x → g' x) → Apart g g' s s' → Apart f f' s s'
  apart-sub f g f' g' s s' sub sub' b = record { equal = λ x n n'. b.equal x (sub x n) (sub' x n'); turns = b.turns }

  pub apart-from : (f g : Loc → Type 0) (s s' : Store) → ((x : Loc) → f x → g x) → Apart g g s s' → Apart f f s s'
  apart-from f g s s' sub b = apart-sub f g f g s s' sub sub b

  -- a branch back changes the turns alone
  back-left : (f f' : Loc → Type 0) (h h' : Here) → strict md ≡ false → Apart f f' h.store h'.store → Apart f f' (back h).store h'.store
  back-left f f' h h' off a = record {
    equal = λ x n n'. eq-both_turns x h.store h'.store (h.store.state.turns + 1) h'.store.state.turns (a.equal x n n');
    turns = λ on. absurd (true≢false (sym on ∙ off));
  }

  back-right : (f f' : Loc → Type 0) (h h' : Here) → strict md ≡ false → Apart f f' h.store h'.store → Apart f f' h.store (back h').store
  back-right f f' h h' off a = record {
    equal = λ x n n'. eq-both_turns x h.store h'.store h.store.state.turns (h'.store.state.turns + 1) (a.equal x n n');
    turns = λ on. absurd (true≢false (sym on ∙ off));
  }

  back-two : (f f' : Loc → Type 0) (h h' : Here) → Apart f f' h.store h'.store → Apart f f' (back h).store (back h').store
  back-two f f' h h' a = record {
    equal = λ x n n'. eq-both_turns x h.store h'.store (h.store.state.turns + 1) (h'.store.state.turns + 1) (a.equal x n n');
    turns = λ on. let q = a.turns on in omega arith;
  }

  pub record Ends (j : Bool) (t : ℕ) (f : Loc → Type 0) (h h' : Here) : Type 0 where
    pub values : Values j t h.stack h'.stack
    pub store : Apart f f h.store h'.store

  -- one stands at an end, the other went to a label and stands there
  pub record OneOff (n n' : ℕ) (f f' : Loc → Type 0) (skip_it : Type 0) (h h' : Here) : Type 0 where
    pub long : length h.stack ≡ n
    pub long' : length h'.stack ≡ n'
    pub store : Apart f f' h.store h'.store
    pub skip : skip_it

  -- both went to a label: to the same one, or with nothing led to on the way
  pub record TwoLabels (ctx : List Label) (l l' q : ℕ) (h h' : Here) : Type 0 where
    pub long : length h.stack ≡ carried (arities ctx) l
    pub long' : length h'.stack ≡ carried (arities ctx) l'
    pub store : Apart (N (point_of ctx l)) (N (point_of ctx l')) h.store h'.store
    pub either : ((l' ≡ l) × (M (join_of ctx l) ≡ true → h'.stack ≡ h.stack)) ⊎ (Skip md K ctx l q × Skip md K ctx l' q)

  abbrev pub TwoBy : List Label → ℕ → ℕ → Node → Here → Here → Outcome → Outcome → Type 0
  TwoBy ctx q t k h h' Normal Normal = Ends (M k) t (N k) h h'
  TwoBy ctx q t k h h' Normal (Branch l') = OneOff t (carried (arities ctx) l') (N k) (N (point_of ctx l')) (Skip md K ctx l' q) h h'
  TwoBy ctx q t k h h' Normal (Stopped why) = Lost (strict md)
  TwoBy ctx q t k h h' (Branch l) Normal = OneOff (carried (arities ctx) l) t (N (point_of ctx l)) (N k) (Skip md K ctx l q) h h'
  TwoBy ctx q t k h h' (Branch l) (Branch l') = TwoLabels ctx l l' q h h'
  TwoBy ctx q t k h h' (Branch l) (Stopped why) = Lost (strict md)
  TwoBy ctx q t k h h' (Stopped why) o' = Unit {0}

  abbrev pub Two : List Label → ℕ → ℕ → Node → Run → Run → Type 0
  Two ctx q t k r r' = TwoBy ctx q t k r.there r'.there r.outcome r'.outcome

  -- after one instruction
  pub record After (names : List Node) (j : Node) (h h' : Here) : Type 0 where
    pub rel : Rel M every names h.stack h'.stack
    pub store : Apart (N j) (N j) h.store h'.store

  abbrev pub TwoOneBy : List Label → ℕ → List Node → Node → Here → Here → Outcome → Outcome → Type 0
  TwoOneBy ctx e names j h h' Normal Normal = After names j h h'
  TwoOneBy ctx e names j h h' Normal (Branch l') = OneOff (length names) (carried (arities ctx) l') (N j) (N (point_of ctx l')) (Skip md K ctx l' e) h h'
  TwoOneBy ctx e names j h h' Normal (Stopped why) = Lost (strict md)
  TwoOneBy ctx e names j h h' (Branch l) Normal = OneOff (carried (arities ctx) l) (length names) (N (point_of ctx l)) (N j) (Skip md K ctx l e) h h'
  TwoOneBy ctx e names j h h' (Branch l) (Branch l') = TwoLabels ctx l l' e h h'
  TwoOneBy ctx e names j h h' (Branch l) (Stopped why) = Lost (strict md)
  TwoOneBy ctx e names j h h' (Stopped why) o' = Unit {0}

  abbrev pub TwoOne : List Label → ℕ → List Node → Node → Run → Run → Type 0
  TwoOne ctx e names j r r' = TwoOneBy ctx e names j r.there r'.there r.outcome r'.outcome

  -- the left goes on where nothing is led to, and the right stands at a label
  dark-left : (ctx : List Label) (q t l' : ℕ) (k : Node) (g : Loc → Type 0) (st : Store) (h' : Here) → length h'.stack ≡ carried (arities ctx) l'
      → Skip md K ctx l' q → Apart g (N (point_of ctx l')) st h'.store → (o : Outcome) (h : Here) (es : List Event)
      → Region Z W G md K M every N ctx q t k g st (mk o h es) → TwoBy ctx q t k h h' o (Branch l')
  dark-left ctx q t l' k g st h' long' sk ap0 Normal h es a =
      record { long = a.long; long' = long'; store = apart-left (N k) g _ st h.store h'.store a.keeps ap0; skip = sk }
  dark-left ctx q t l' k g st h' long' sk ap0 (Branch l) h es a =
      record { long = a.long; long' = long'; store = apart-left (N (point_of ctx l)) g _ st h.store h'.store a.keeps ap0; either = inr (a.skip, sk) }
  dark-left ctx q t l' k g st h' long' sk ap0 (Stopped why) h es a = tt

  dark-right : (ctx : List Label) (q t l : ℕ) (k : Node) (g : Loc → Type 0) (st' : Store) (h : Here) → length h.stack ≡ carried (arities ctx) l
      → Skip md K ctx l q → Apart (N (point_of ctx l)) g h.store st' → (o' : Outcome) (h' : Here) (es : List Event)
      → Region Z W G md K M every N ctx q t k g st' (mk o' h' es) → TwoBy ctx q t k h h' (Branch l) o'
  dark-right ctx q t l k g st' h long sk ap0 Normal h' es a =
      record { long = long; long' = a.long; store = apart-right _ (N k) g h.store st' h'.store a.keeps ap0; skip = sk }
  dark-right ctx q t l k g st' h long sk ap0 (Branch l') h' es a =
      record { long = long; long' = a.long; store = apart-right _ (N (point_of ctx l')) g h.store st' h'.store a.keeps ap0; either = inr (sk, a.skip) }
  dark-right ctx q t l k g st' h long sk ap0 (Stopped why) h' es a = a

  -- both go where nothing is led to
  both-dark : (ctx : List Label) (q t : ℕ) (k : Node) (g : Loc → Type 0) (st st' : Store) → K k ≡ false → Apart g g st st'
      → (o : Outcome) (h : Here) (es : List Event) (o' : Outcome) (h' : Here) (es' : List Event) → Region Z W G md K M every N ctx q t k g st (mk o h es)
      → Region Z W G md K M every N ctx q t k g st' (mk o' h' es') → TwoBy ctx q t k h h' o o'
  both-dark ctx q t k g st st' off b Normal h es Normal h' es' a a' = record {
    values = record { long = a.long; long' = a'.long; equal = λ on. absurd (true≢false (sym (mik k on) ∙ off)) };
    store = apart-both _ g _ g st h.store st' h'.store a.keeps a'.keeps b;
  }
  both-dark ctx q t k g st st' off b Normal h es (Branch l') h' es' a a' =
      record { long = a.long; long' = a'.long; store = apart-both _ g _ g st h.store st' h'.store a.keeps a'.keeps b; skip = a'.skip }
  both-dark ctx q t k g st st' off b Normal h es (Stopped why) h' es' a a' = a'
  both-dark ctx q t k g st st' off b (Branch l) h es Normal h' es' a a' =
      record { long = a.long; long' = a'.long; store = apart-both _ g _ g st h.store st' h'.store a.keeps a'.keeps b; skip = a.skip }
  both-dark ctx q t k g st st' off b (Branch l) h es (Branch l') h' es' a a' =
      record { long = a.long; long' = a'.long; store = apart-both _ g _ g st h.store st' h'.store a.keeps a'.keeps b; either = inr (a.skip, a'.skip) }
  both-dark ctx q t k g st st' off b (Branch l) h es (Stopped why) h' es' a a' = a'
  both-dark ctx q t k g st st' off b (Stopped why) h es o' h' es' a a' = tt

  labels-later : (ctx : List Label) (l l' e q : ℕ) (h h' : Here) → e ≤ q → TwoLabels ctx l l' e h h' → TwoLabels ctx l l' q h h'
  labels-later ctx l l' e q h h' le a = record { long = a.long; long' = a.long'; store = a.store; either = go a.either }
    where
      go : ((l' ≡ l) × (M (join_of ctx l) ≡ true → h'.stack ≡ h.stack)) ⊎ (Skip md K ctx l e × Skip md K ctx l' e)
          → ((l' ≡ l) × (M (join_of ctx l) ≡ true → h'.stack ≡ h.stack)) ⊎ (Skip md K ctx l q × Skip md K ctx l' q)
      go (inl x) = inl x
      go (inr x) = inr (skip-later md K ctx l e q le x.0, skip-later md K ctx l' e q le x.1)

  lost-trapped : (why : Stop) (ctx : List Label) (q t : ℕ) (k : Node) (h h' : Here) (o : Outcome) → Lost (strict md) → TwoBy ctx q t k h h' o (Stopped why)
  lost-trapped why ctx q t k h h' Normal a = a
  lost-trapped why ctx q t k h h' (Branch l) a = a
  lost-trapped why ctx q t k h h' (Stopped why1) a = tt

  -- one instruction, and the rest
  two-then : (ctx : List Label) (q e t : ℕ) (k j n : Node) (names : List Node) (go : Here → Run) → e ≤ q → Within ctx q → ((x : Loc) → N n x → N j x)
      → ((h h' : Here) → Rel M every names h.stack h'.stack → Apart (N n) (N n) h.store h'.store → Two ctx q t k (go h) (go h'))
      → (Dark K e q → (h : Here) → length h.stack ≡ length names → Region Z W G md K M every N ctx q t k (N n) h.store (go h))
      → (o : Outcome) (h : Here) (es : List Event) (o' : Outcome) (h' : Here) (es' : List Event) → TwoOneBy ctx e names j h h' o o'
      → Two ctx q t k (then_do (mk o h es) go) (then_do (mk o' h' es') go)
  two-then ctx q e t k j n names go le w sub rest dark Normal h es Normal h' es' a = rest h h' a.rel (apart-from (N n) (N j) h.store h'.store sub a.store)
  two-then ctx q e t k j n names go le w sub rest dark Normal h es (Branch l') h' es' a =
      let d = dark (skip-dark md K ctx l' e q w a.skip) h a.long in
      dark-left ctx q t l' k (N n) h.store h' a.long' (skip-later md K ctx l' e q le a.skip)
      (apart-sub (N n) (N j) _ _ h.store h'.store sub (λ x z. z) a.store) (go h).outcome (go h).there (go h).events d
  two-then ctx q e t k j n names go le w sub rest dark Normal h es (Stopped why) h' es' a = lost-trapped why ctx q t k (go h).there h' (go h).outcome a
  two-then ctx q e t k j n names go le w sub rest dark (Branch l) h es Normal h' es' a =
      let d = dark (skip-dark md K ctx l e q w a.skip) h' a.long' in
      dark-right ctx q t l k (N n) h'.store h a.long (skip-later md K ctx l e q le a.skip) (apart-sub _ _ (N n) (N j) h.store h'.store (λ x z. z) sub a.store)
      (go h').outcome (go h').there (go h').events d
  two-then ctx q e t k j n names go le w sub rest dark (Branch l) h es (Branch l') h' es' a = labels-later ctx l l' e q h h' le a
  two-then ctx q e t k j n names go le w sub rest dark (Branch l) h es (Stopped why) h' es' a = a
  two-then ctx q e t k j n names go le w sub rest dark (Stopped why) h es o' h' es' a = tt

  length-put : (r : ℕ) (j : Node) (names : List Node) (vs s : List Value) → r ≤ 1 → length vs ≡ r → length s ≡ length names
      → length (vs ++ s) ≡ length (named r j names)
  length-put zero j names vs s small e f = omega (arith, length-append vs s)
  length-put (suc zero) j names vs s small e f = omega (arith, length-append vs s)
  length-put (suc (suc r)) j names vs s small e f = absurd (omega arith)

  flip-long : (names : List Node) (s s' : List Value) → Rel M every names s s' → length s' ≡ length names
  flip-long [] [] s' r = ap length r
  flip-long [] (v ∷ s) s' r = absurd r
  flip-long (d ∷ names) [] s' r = absurd r
  flip-long (d ∷ names) (v ∷ s) [] r = absurd r
  flip-long (d ∷ names) (v ∷ s) (v' ∷ s') r = ap suc (flip-long names s s' r.1)

  -- the contents of a block: what it makes of two ends of its contents
  block-two : (ctx : List Label) (p e r : ℕ) (names : List Node) (s s' : List Value) → r ≤ 1 → Rel M every names s s'
      → (o : Outcome) (h : Here) (es : List Event) (o' : Outcome) (h' : Here) (es' : List Event) → TwoBy (block_label p r e ∷ ctx) e r (Join p) h h' o o'
      → TwoOne ctx e (named r (Join p) names) (Join p) (leave s (mk o h es)) (leave s' (mk o' h' es'))
  block-two ctx p e r names s s' small rel Normal h es Normal h' es' a =
      record { rel = rel-new M every r (Join p) names h.stack h'.stack s s' refl a.values.long a.values.long' small a.values.equal rel; store = a.store }
  block-two ctx p e r names s s' small rel Normal h es (Branch zero) h' es' a = record {
    rel = rel-new M every r (Join p) names h.stack h'.stack s s' refl a.long a.long' small (λ on. absurd (true≢false (sym (mik (Join p) on) ∙ a.skip.1))) rel;
    store = a.store;
  }
  block-two ctx p e r names s s' small rel Normal h es (Branch (suc l')) h' es' a = record {
    long = length-put r (Join p) names h.stack s small a.long (rel-long M every names s s' rel);
    long' = a.long';
    store = a.store;
    skip = a.skip.1;
  }
  block-two ctx p e r names s s' small rel Normal h es (Stopped why) h' es' a = a
  block-two ctx p e r names s s' small rel (Branch zero) h es Normal h' es' a = record {
    rel = rel-new M every r (Join p) names h.stack h'.stack s s' refl a.long a.long' small (λ on. absurd (true≢false (sym (mik (Join p) on) ∙ a.skip.1))) rel;
    store = a.store;
  }
  block-two ctx p e r names s s' small rel (Branch zero) h es (Branch zero) h' es' a =
      record { rel = rel-new M every r (Join p) names h.stack h'.stack s s' refl a.long a.long' small (λ on. go on a.either) rel; store = a.store }
    where
      go : M (Join p) ≡ true
          → ((zero ≡ zero) × (M (Join p) ≡ true → h'.stack ≡ h.stack)) ⊎ (Skip md K (block_label p r e ∷ ctx) 0 e × Skip md K (block_label p r e ∷ ctx) 0 e)
          → h'.stack ≡ h.stack
      go on (inl x) = x.1 on
      go on (inr x) = absurd (true≢false (sym (mik (Join p) on) ∙ x.0.1))
  block-two ctx p e r names s s' small rel (Branch zero) h es (Branch (suc l')) h' es' a = go a.either
    where
      go
          : ((suc l' ≡ zero) × (M (Join p) ≡ true → h'.stack ≡ h.stack)) ⊎ (Skip md K (block_label p r e ∷ ctx) 0 e × Skip md K (block_label p r e ∷ ctx) (suc l') e)
          → OneOff (length (named r (Join p) names)) (carried (arities ctx) l') (N (Join p)) (N (point_of ctx l')) (Skip md K ctx l' e)
          (at_stack (h.stack ++ s) h) h'
      go (inl x) = absurd (let q = x.0 in omega arith)
      go (inr x) = record {
        long = length-put r (Join p) names h.stack s small a.long (rel-long M every names s s' rel);
        long' = a.long';
        store = a.store;
        skip = x.1.1;
      }
  block-two ctx p e r names s s' small rel (Branch zero) h es (Stopped why) h' es' a = a
  block-two ctx p e r names s s' small rel (Branch (suc l)) h es Normal h' es' a =
      record { long = a.long; long' = length-put r (Join p) names h'.stack s' small a.long' (flip-long names s s' rel); store = a.store; skip = a.skip.1 }
  block-two ctx p e r names s s' small rel (Branch (suc l)) h es (Branch zero) h' es' a = go a.either
    where
      go
          : ((zero ≡ suc l) × (M (join_of ctx l) ≡ true → h'.stack ≡ h.stack)) ⊎ (Skip md K (block_label p r e ∷ ctx) (suc l) e × Skip md K (block_label p r e ∷ ctx) 0 e)
          → OneOff (carried (arities ctx) l) (length (named r (Join p) names)) (N (point_of ctx l)) (N (Join p)) (Skip md K ctx l e) h
          (at_stack (h'.stack ++ s') h')
      go (inl x) = absurd (let q = x.0 in omega arith)
      go (inr x) =
          record { long = a.long; long' = length-put r (Join p) names h'.stack s' small a.long' (flip-long names s s' rel); store = a.store; skip = x.0.1 }
  block-two ctx p e r names s s' small rel (Branch (suc l)) h es (Branch (suc l')) h' es' a =
      record { long = a.long; long' = a.long'; store = a.store; either = go a.either }
    where
      go
          : ((suc l' ≡ suc l) × (M (join_of ctx l) ≡ true → h'.stack ≡ h.stack)) ⊎ (Skip md K (block_label p r e ∷ ctx) (suc l) e × Skip md K (block_label p r e ∷ ctx) (suc l') e)
          → ((l' ≡ l) × (M (join_of ctx l) ≡ true → h'.stack ≡ h.stack)) ⊎ (Skip md K ctx l e × Skip md K ctx l' e)
      go (inl x) = inl (let q = x.0 in omega arith, x.1)
      go (inr x) = inr (x.0.1, x.1.1)
  block-two ctx p e r names s s' small rel (Branch (suc l)) h es (Stopped why) h' es' a = a
  block-two ctx p e r names s s' small rel (Stopped why) h es o' h' es' a = go o'
    where
      go : (o' : Outcome) → TwoOne ctx e (named r (Join p) names) (Join p) (leave s (mk (Stopped why) h es)) (leave s' (mk o' h' es'))
      go Normal = tt
      go (Branch zero) = tt
      go (Branch (suc l)) = tt
      go (Stopped why1) = tt

  -- laps of a loop
  abbrev pub TwoLapsBy : List Label → ℕ → ℕ → Node → Here → Here → Outcome → Outcome → Type 0
  TwoLapsBy ctx q t k h h' Normal Normal = Ends (M k) t (N k) h h'
  TwoLapsBy ctx q t k h h' Normal (Branch zero) = ⊥
  TwoLapsBy ctx q t k h h' Normal (Branch (suc l')) =
      OneOff t (carried (arities ctx) (suc l')) (N k) (N (point_of ctx (suc l'))) (Skip md K ctx (suc l') q) h h'
  TwoLapsBy ctx q t k h h' Normal (Stopped why) = Lost (strict md)
  TwoLapsBy ctx q t k h h' (Branch zero) o' = ⊥
  TwoLapsBy ctx q t k h h' (Branch (suc l)) Normal = OneOff (carried (arities ctx) (suc l)) t (N (point_of ctx (suc l))) (N k) (Skip md K ctx (suc l) q) h h'
  TwoLapsBy ctx q t k h h' (Branch (suc l)) (Branch zero) = ⊥
  TwoLapsBy ctx q t k h h' (Branch (suc l)) (Branch (suc l')) = TwoLabels ctx (suc l) (suc l') q h h'
  TwoLapsBy ctx q t k h h' (Branch (suc l)) (Stopped why) = Lost (strict md)
  TwoLapsBy ctx q t k h h' (Stopped why) o' = Unit {0}

  abbrev pub TwoLaps : List Label → ℕ → ℕ → Node → Run → Run → Type 0
  TwoLaps ctx q t k r r' = TwoLapsBy ctx q t k r.there r'.there r.outcome r'.outcome

  abbrev DLaps : List Label → ℕ → ℕ → Node → (Loc → Type 0) → Store → Run → Type 0
  DLaps ctx q t k g st r = Laps Z W G md K M every N ctx q t k g st r

  -- the left goes on round a loop in which nothing is led to; the right stands at its end, or has left it
  laps-left-end : (ctx : List Label) (q t : ℕ) (k : Node) (g : Loc → Type 0) (st : Store) (h' : Here) → K k ≡ false → length h'.stack ≡ t
      → Apart g (N k) st h'.store → (o : Outcome) (h : Here) (es : List Event) → DLaps ctx q t k g st (mk o h es) → TwoLapsBy ctx q t k h h' o Normal
  laps-left-end ctx q t k g st h' off long' b Normal h es a = record {
    values = record { long = a.long; long' = long'; equal = λ on. absurd (true≢false (sym (mik k on) ∙ off)) };
    store = apart-left (N k) g _ st h.store h'.store a.keeps b;
  }
  laps-left-end ctx q t k g st h' off long' b (Branch zero) h es a = absurd a
  laps-left-end ctx q t k g st h' off long' b (Branch (suc l)) h es a =
      record { long = a.long; long' = long'; store = apart-left _ g _ st h.store h'.store a.keeps b; skip = a.skip }
  laps-left-end ctx q t k g st h' off long' b (Stopped why) h es a = tt

  laps-left-out : (ctx : List Label) (q t l' : ℕ) (k : Node) (g : Loc → Type 0) (st : Store) (h' : Here) → length h'.stack ≡ carried (arities ctx) (suc l')
      → Skip md K ctx (suc l') q → Apart g (N (point_of ctx (suc l'))) st h'.store → (o : Outcome) (h : Here) (es : List Event)
      → DLaps ctx q t k g st (mk o h es) → TwoLapsBy ctx q t k h h' o (Branch (suc l'))
  laps-left-out ctx q t l' k g st h' long' sk b Normal h es a =
      record { long = a.long; long' = long'; store = apart-left (N k) g _ st h.store h'.store a.keeps b; skip = sk }
  laps-left-out ctx q t l' k g st h' long' sk b (Branch zero) h es a = absurd a
  laps-left-out ctx q t l' k g st h' long' sk b (Branch (suc l)) h es a =
      record { long = a.long; long' = long'; store = apart-left _ g _ st h.store h'.store a.keeps b; either = inr (a.skip, sk) }
  laps-left-out ctx q t l' k g st h' long' sk b (Stopped why) h es a = tt

  laps-right-end : (ctx : List Label) (q t : ℕ) (k : Node) (g : Loc → Type 0) (st' : Store) (h : Here) → K k ≡ false → length h.stack ≡ t
      → Apart (N k) g h.store st' → (o' : Outcome) (h' : Here) (es : List Event) → DLaps ctx q t k g st' (mk o' h' es) → TwoLapsBy ctx q t k h h' Normal o'
  laps-right-end ctx q t k g st' h off long b Normal h' es a = record {
    values = record { long = long; long' = a.long; equal = λ on. absurd (true≢false (sym (mik k on) ∙ off)) };
    store = apart-right _ (N k) g h.store st' h'.store a.keeps b;
  }
  laps-right-end ctx q t k g st' h off long b (Branch zero) h' es a = absurd a
  laps-right-end ctx q t k g st' h off long b (Branch (suc l)) h' es a =
      record { long = long; long' = a.long; store = apart-right _ _ g h.store st' h'.store a.keeps b; skip = a.skip }
  laps-right-end ctx q t k g st' h off long b (Stopped why) h' es a = a

  laps-right-out : (ctx : List Label) (q t l : ℕ) (k : Node) (g : Loc → Type 0) (st' : Store) (h : Here) → length h.stack ≡ carried (arities ctx) (suc l)
      → Skip md K ctx (suc l) q → Apart (N (point_of ctx (suc l))) g h.store st' → (o' : Outcome) (h' : Here) (es : List Event)
      → DLaps ctx q t k g st' (mk o' h' es) → TwoLapsBy ctx q t k h h' (Branch (suc l)) o'
  laps-right-out ctx q t l k g st' h long sk b Normal h' es a =
      record { long = long; long' = a.long; store = apart-right _ (N k) g h.store st' h'.store a.keeps b; skip = sk }
  laps-right-out ctx q t l k g st' h long sk b (Branch zero) h' es a = absurd a
  laps-right-out ctx q t l k g st' h long sk b (Branch (suc l')) h' es a =
      record { long = long; long' = a.long; store = apart-right _ _ g h.store st' h'.store a.keeps b; either = inr (sk, a.skip) }
  laps-right-out ctx q t l k g st' h long sk b (Stopped why) h' es a = a

  -- a loop whose left goes round and whose right has trapped: nothing is claimed, but the laps end
  abbrev NoBack : Outcome → Type 0
  NoBack (Branch zero) = ⊥
  NoBack Normal = Unit {0}
  NoBack (Branch (suc l)) = Unit {0}
  NoBack (Stopped why) = Unit {0}

  trap-right : (why : Stop) (ctx : List Label) (q t : ℕ) (k : Node) (h h' : Here) (o : Outcome) → NoBack o → Lost (strict md)
      → TwoLapsBy ctx q t k h h' o (Stopped why)
  trap-right why ctx q t k h h' Normal f a = a
  trap-right why ctx q t k h h' (Branch zero) f a = absurd f
  trap-right why ctx q t k h h' (Branch (suc l)) f a = a
  trap-right why ctx q t k h h' (Stopped why1) f a = tt

  again-two : (ctx : List Label) (p e r : ℕ) (go : Here → Run) → ((h : Here) → NoBack (go h).outcome)
      → ((h h' : Here) → h.stack ≡ [] → h'.stack ≡ [] → Apart (N (At p)) (N (At p)) h.store h'.store → TwoLaps (loop_label p e ∷ ctx) e r (Join p) (go h) (go h'))
      → (strict md ≡ false → Dark K (p + 1) e → (h : Here) → h.stack ≡ [] → DLaps (loop_label p e ∷ ctx) e r (Join p) (N (At p)) h.store (go h))
      → (o : Outcome) (h : Here) (es : List Event) (o' : Outcome) (h' : Here) (es' : List Event) → TwoBy (loop_label p e ∷ ctx) e r (Join p) h h' o o'
      → TwoLaps (loop_label p e ∷ ctx) e r (Join p) (again (mk o h es) go) (again (mk o' h' es') go)
  again-two ctx p e r go nb next dark Normal h es Normal h' es' a = a
  again-two ctx p e r go nb next dark Normal h es (Branch zero) h' es' a = on_or_off (strict md) (λ on. absurd (true≢false (a.skip.3 on))) (λ off.
      let x = go (back h') in
      laps-right-end (loop_label p e ∷ ctx) e r (Join p) (N (At p)) (back h').store h a.skip.1 a.long (back-right _ _ h h' off a.store) x.outcome x.there
      x.events (dark off (a.skip.2 refl) (back h') refl))
  again-two ctx p e r go nb next dark Normal h es (Branch (suc l')) h' es' a = a
  again-two ctx p e r go nb next dark Normal h es (Stopped why) h' es' a = a
  again-two ctx p e r go nb next dark (Branch zero) h es Normal h' es' a = on_or_off (strict md) (λ on. absurd (true≢false (a.skip.3 on))) (λ off.
      let x = go (back h) in
      laps-left-end (loop_label p e ∷ ctx) e r (Join p) (N (At p)) (back h).store h' a.skip.1 a.long' (back-left _ _ h h' off a.store) x.outcome x.there
      x.events (dark off (a.skip.2 refl) (back h) refl))
  again-two ctx p e r go nb next dark (Branch zero) h es (Branch zero) h' es' a = next (back h) (back h') refl refl (back-two _ _ h h' a.store)
  again-two ctx p e r go nb next dark (Branch zero) h es (Branch (suc l')) h' es' a = split a.either
    where
      split
          : ((suc l' ≡ zero) × (M (Join p) ≡ true → h'.stack ≡ h.stack)) ⊎ (Skip md K (loop_label p e ∷ ctx) 0 e × Skip md K (loop_label p e ∷ ctx) (suc l') e)
          → TwoLapsBy (loop_label p e ∷ ctx) e r (Join p) (go (back h)).there h' (go (back h)).outcome (Branch (suc l'))
      split (inl x) = absurd (let q = x.0 in omega arith)
      split (inr x) =
          on_or_off (strict md) (λ on. absurd (true≢false (x.0.3 on)))
          (λ off. let y = go (back h) in laps-left-out (loop_label p e ∷ ctx) e r l' (Join p) (N (At p)) (back h).store h' a.long' x.1
          (back-left _ _ h h' off a.store) y.outcome y.there y.events (dark off (x.0.2 refl) (back h) refl))
  again-two ctx p e r go nb next dark (Branch zero) h es (Stopped why) h' es' a =
      trap-right why (loop_label p e ∷ ctx) e r (Join p) (go (back h)).there h' (go (back h)).outcome (nb (back h)) a
  again-two ctx p e r go nb next dark (Branch (suc l)) h es Normal h' es' a = a
  again-two ctx p e r go nb next dark (Branch (suc l)) h es (Branch zero) h' es' a = split a.either
    where
      split
          : ((zero ≡ suc l) × (M (join_of ctx l) ≡ true → h'.stack ≡ h.stack)) ⊎ (Skip md K (loop_label p e ∷ ctx) (suc l) e × Skip md K (loop_label p e ∷ ctx) 0 e)
          → TwoLapsBy (loop_label p e ∷ ctx) e r (Join p) h (go (back h')).there (Branch (suc l)) (go (back h')).outcome
      split (inl x) = absurd (let q = x.0 in omega arith)
      split (inr x) =
          on_or_off (strict md) (λ on. absurd (true≢false (x.1.3 on)))
          (λ off. let y = go (back h') in laps-right-out (loop_label p e ∷ ctx) e r l (Join p) (N (At p)) (back h').store h a.long x.0
          (back-right _ _ h h' off a.store) y.outcome y.there y.events (dark off (x.1.2 refl) (back h') refl))
  again-two ctx p e r go nb next dark (Branch (suc l)) h es (Branch (suc l')) h' es' a = a
  again-two ctx p e r go nb next dark (Branch (suc l)) h es (Stopped why) h' es' a = a
  again-two ctx p e r go nb next dark (Stopped why) h es o' h' es' a = tt

  loop-two : (ctx : List Label) (p e r : ℕ) (names : List Node) (s s' : List Value) → r ≤ 1 → Rel M every names s s'
      → (o : Outcome) (h : Here) (es : List Event) (o' : Outcome) (h' : Here) (es' : List Event) → TwoLapsBy (loop_label p e ∷ ctx) e r (Join p) h h' o o'
      → TwoOne ctx e (named r (Join p) names) (Join p) (leave s (mk o h es)) (leave s' (mk o' h' es'))
  loop-two ctx p e r names s s' small rel Normal h es Normal h' es' a =
      record { rel = rel-new M every r (Join p) names h.stack h'.stack s s' refl a.values.long a.values.long' small a.values.equal rel; store = a.store }
  loop-two ctx p e r names s s' small rel Normal h es (Branch zero) h' es' a = absurd a
  loop-two ctx p e r names s s' small rel Normal h es (Branch (suc l')) h' es' a = record {
    long = length-put r (Join p) names h.stack s small a.long (rel-long M every names s s' rel);
    long' = a.long';
    store = a.store;
    skip = a.skip.1;
  }
  loop-two ctx p e r names s s' small rel Normal h es (Stopped why) h' es' a = a
  loop-two ctx p e r names s s' small rel (Branch zero) h es o' h' es' a = absurd a
  loop-two ctx p e r names s s' small rel (Branch (suc l)) h es Normal h' es' a =
      record { long = a.long; long' = length-put r (Join p) names h'.stack s' small a.long' (flip-long names s s' rel); store = a.store; skip = a.skip.1 }
  loop-two ctx p e r names s s' small rel (Branch (suc l)) h es (Branch zero) h' es' a = absurd a
  loop-two ctx p e r names s s' small rel (Branch (suc l)) h es (Branch (suc l')) h' es' a =
      record { long = a.long; long' = a.long'; store = a.store; either = go a.either }
    where
      go
          : ((suc l' ≡ suc l) × (M (join_of ctx l) ≡ true → h'.stack ≡ h.stack)) ⊎ (Skip md K (loop_label p e ∷ ctx) (suc l) e × Skip md K (loop_label p e ∷ ctx) (suc l') e)
          → ((l' ≡ l) × (M (join_of ctx l) ≡ true → h'.stack ≡ h.stack)) ⊎ (Skip md K ctx l e × Skip md K ctx l' e)
      go (inl x) = inl (let q = x.0 in omega arith, x.1)
      go (inr x) = inr (x.0.1, x.1.1)
  loop-two ctx p e r names s s' small rel (Branch (suc l)) h es (Stopped why) h' es' a = a
  loop-two ctx p e r names s s' small rel (Stopped why) h es o' h' es' a = tt

  all_every : (n : ℕ) (names : List Node) → n ≤ length names → AllIn every n names
  all_every zero names le = tt
  all_every (suc n) [] le = absurd (omega arith)
  all_every (suc n) (d ∷ names) le = (refl, all_every n names (omega arith))

  strict_follows : (w1 : Mode) → strict w1 ≡ true → follows w1 ≡ true
  strict_follows Cuts on = absurd (true≢false (sym on))
  strict_follows Agrees on = absurd (true≢false (sym on))
  strict_follows Completes on = refl

  come : (b : Below) (bc : Lawful Z W G md K M every N b) (op : Instr) (p : ℕ) (names : List Node) (s : Node) (m : Bool) (h h' : Here) (e : Effect)
      → DoOk Z W G md K M every N m op p names s → Rel M every names h.stack h'.stack → Apart (N (At p)) (N (At p)) h.store h'.store → strict md ≡ true
      → K (At p) ≡ true → effect Z b.call op (take (takes (callees Z.m) op) h.stack) h.store ≡ Gives e
      → Comes Z b.call op (take (takes (callees Z.m) op) h'.stack) h.store h'.store e
  come b bc op p names s m h h' e c rel sto on kept eq =
      c.comes (strict_follows md on) kept b.call bc (take (takes (callees Z.m) op) h.stack) (take (takes (callees Z.m) op) h'.stack) h.store h'.store e
      (rel-take M every (takes (callees Z.m) op) names h.stack h'.stack rel (all_every (takes (callees Z.m) op) names c.enough)).0 (λ x n. sto.equal x n n) eq

  -- an instruction, in both runs
  two-do : (b : Below) (bc : Lawful Z W G md K M every N b) (ctx : List Label) (q t : ℕ) (k : Node) (m : Bool) (op : Instr) (p : ℕ) (names : List Node)
      (s : Node) (h h' : Here) (go : Here → Run)
      → DoOk Z W G md K M every N m op p names s → Rel M every names h.stack h'.stack → Apart (N (At p)) (N (At p)) h.store h'.store
      → ((h1 h1' : Here) → Rel M every (made (callees Z.m) p op names) h1.stack h1'.stack → Apart (N s) (N s) h1.store h1'.store → Two ctx q t k (go h1) (go h1'))
      → (e e' : Answer) → effect Z b.call op (take (takes (callees Z.m) op) h.stack) h.store ≡ e
      → effect Z b.call op (take (takes (callees Z.m) op) h'.stack) h'.store ≡ e'
      → Two ctx q t k (do_step m (takes (callees Z.m) op) h e go) (do_step m (takes (callees Z.m) op) h' e' go)
  two-do b bc ctx q t k m op p names s h h' go c rel sto rest (Stops why s1) e' eq eq' = tt
  two-do b bc ctx q t k m op p names s h h' go c rel sto rest (Gives e) (Stops why s1) eq eq' =
      lost-trapped why ctx q t k _ _ (go (record { stack = e.results ++ drop (takes (callees Z.m) op) h.stack; store = e.store })).outcome
      (lost_or (strict md) (λ on. on_or_off (K (At p)) (λ kept. stops_give _ (sym eq' ∙ (come b bc op p names s m h h' e c rel sto on kept eq).is)) (λ off. stops_give _ (sym eq' ∙ (c.total on off b.call bc (take (takes (callees Z.m) op) h'.stack) h'.store (length-take_of Z W G md K M every N (takes (callees Z.m) op) h'.stack (let l = flip-long names h.stack h'.stack rel in let en = c.enough in omega arith))).is))))
  two-do b bc ctx q t k m op p names s h h' go c rel sto rest (Gives e) (Gives e') eq eq' =
      rest h1 h1'
      (rel-new M every (leaves (callees Z.m) op) (At p) (drop (takes (callees Z.m) op) names) e.results e'.results (drop (takes (callees Z.m) op) h.stack)
      (drop (takes (callees Z.m) op) h'.stack) refl d.left d'.left c.few (λ on. (ag (mik (At p) on)).results on) both.1)
      (record { equal = λ y n n'. value y n (writes B op y) refl; turns = turns })
    where
      vs : List Value
      vs = take (takes (callees Z.m) op) h.stack

      vs' : List Value
      vs' = take (takes (callees Z.m) op) h'.stack

      d : Does B op vs h.store e
      d = c.does b.call bc vs h.store e eq

      d' : Does B op vs' h'.store e'
      d' = c.does b.call bc vs' h'.store e' eq'

      both : Matches M (take (takes (callees Z.m) op) names) vs vs' × Rel M every (drop (takes (callees Z.m) op) names)
          (drop (takes (callees Z.m) op) h.stack) (drop (takes (callees Z.m) op) h'.stack)
      both = rel-take M every (takes (callees Z.m) op) names h.stack h'.stack rel (all_every (takes (callees Z.m) op) names c.enough)

      ag : K (At p) ≡ true → Agreed B op (M (At p)) (N s) e e'
      ag on = c.agree on b.call bc vs vs' h.store h'.store e e' both.0 (λ y n1. sto.equal y n1 n1) eq eq'

      h1 : Here
      h1 = record { stack = e.results ++ drop (takes (callees Z.m) op) h.stack; store = e.store }

      h1' : Here
      h1' = record { stack = e'.results ++ drop (takes (callees Z.m) op) h'.stack; store = e'.store }

      long1 : length vs ≡ takes (callees Z.m) op
      long1 =
          length-take_of Z W G md K M every N (takes (callees Z.m) op) h.stack
          (let l = rel-long M every names h.stack h'.stack rel in let en = c.enough in omega arith)

      long1' : length vs' ≡ takes (callees Z.m) op
      long1' =
          length-take_of Z W G md K M every N (takes (callees Z.m) op) h'.stack
          (let l = flip-long names h.stack h'.stack rel in let en = c.enough in omega arith)

      kept_turns : strict md ≡ true → K (At p) ≡ true → e'.store.state.turns + from ≡ e.store.state.turns + from'
      kept_turns on kept =
          let cm = come b bc op p names s m h h' e c rel sto on kept eq in
          let q : e'.store.state.turns + h.store.state.turns ≡ e.store.state.turns + h'.store.state.turns =
          subst (λ z. z.store.state.turns + h.store.state.turns ≡ e.store.state.turns + h'.store.state.turns) (gives_is cm.other e' (sym cm.is ∙ eq'))
          cm.turns in
          let a = sto.turns on in omega arith

      loose_turns : strict md ≡ true → K (At p) ≡ false → e'.store.state.turns + from ≡ e.store.state.turns + from'
      loose_turns on off =
          let g = c.total on off b.call bc vs h.store long1 in
          let g' = c.total on off b.call bc vs' h'.store long1' in
          let x : e.store.state.turns ≡ h.store.state.turns =
          subst (λ z. z.store.state.turns ≡ h.store.state.turns) (gives_is g.effect_is e (sym g.is ∙ eq)) g.turns in
          let x' : e'.store.state.turns ≡ h'.store.state.turns =
          subst (λ z. z.store.state.turns ≡ h'.store.state.turns) (gives_is g'.effect_is e' (sym g'.is ∙ eq')) g'.turns in
          let a = sto.turns on in omega arith

      turns : strict md ≡ true → e'.store.state.turns + from ≡ e.store.state.turns + from'
      turns on = on_or_off (K (At p)) (λ kept. kept_turns on kept) (λ off. loose_turns on off)

      value : (y : Loc) → N s y → (b : Bool) → writes B op y ≡ b → EqAt y e.store e'.store
      value y n true w = (ag (c.defines y n w)).written y n w
      value y n false w = across y e.store h.store h'.store e'.store (d.frame y w) (sto.equal y (c.keeps y n w) (c.keeps y n w)) (d'.frame y w)

  abbrev pub LapTwo : Below → Type 0
  LapTwo b =
      (ctx : List Label) (p r : ℕ) (body : Marked) (o : Bool)
      → Closed Z W G md K M every N (loop_label p (p + 1 + size body) ∷ ctx) o (Join p) r body (p + 1) []
      → ((x : Loc) → N (first (p + 1) body (Join p)) x → N (At p) x) → (h h' : Here) → h.stack ≡ [] → h'.stack ≡ []
      → Apart (N (At p)) (N (At p)) h.store h'.store
      → TwoLaps (loop_label p (p + 1 + size body) ∷ ctx) (p + 1 + size body) r (Join p) (b.lap (arities ctx) body h) (b.lap (arities ctx) body h')

  abbrev pub NeverBack : Below → Type 0
  NeverBack b = (ls : List ℕ) (body : Marked) (h : Here) → NoBack (b.lap ls body h).outcome

  again-no_back : (go : Here → Run) → ((h : Here) → NoBack (go h).outcome) → (o : Outcome) (h : Here) (es : List Event) → NoBack (again (mk o h es) go).outcome
  again-no_back go f Normal h es = tt
  again-no_back go f (Branch zero) h es = f (back h)
  again-no_back go f (Branch (suc l)) h es = tt
  again-no_back go f (Stopped why) h es = tt

  pub never_back : (F : Below → Calls) (n : ℕ) → NeverBack (below Z F n)
  never_back F zero ls body h = tt
  never_back F (suc n) ls body h =
      let r = run Z (below Z F n) (0 ∷ ls) body h in again-no_back ((below Z F n).lap ls body) (never_back F n ls body) r.outcome r.there r.events

  two-zero : (ctx : List Label) (q t : ℕ) (k : Node) (v : ℕ) (a b a' b' : Run) → Two ctx q t k a a' → Two ctx q t k b b'
      → Two ctx q t k (if_zero v a b) (if_zero v a' b')
  two-zero ctx q t k zero a b a' b' x y = x
  two-zero ctx q t k (suc v) a b a' b' x y = y

  head : List Value → Value
  head [] = value.I32 0
  head (x ∷ xs) = x

  same_top : (names : List Node) (v w : Value) (s s' : List Value) → AllIn M 1 names → Rel M every names (v ∷ s) (w ∷ s')
      → (v ≡ w) × Rel M every (drop 1 names) s s'
  unfolding head
  same_top names v w s s' ks rel = let a = rel-kept M every (λ z y. refl) 1 names (v ∷ s) (w ∷ s') rel ks in (ap head (sym a.0), a.1)

  rest_rel : (names : List Node) (v w : Value) (s s' : List Value) → Rel M every names (v ∷ s) (w ∷ s') → Rel M every (drop 1 names) s s'
  rest_rel [] v w s s' r = absurd r
  rest_rel (d ∷ names) v w s s' r = r.1

  keep_or_not : {A : Type 0} (q : Bool) → (q ≡ true → A) → (q ≡ false → A) → A
  keep_or_not true f g = f refl
  keep_or_not false f g = g refl

  no_short : (names : List Node) (v : Value) (s : List Value) → Rel M every names (v ∷ s) [] → ⊥
  no_short [] v s r = r
  no_short (d ∷ names) v s r = r

  -- an if, in both runs
  two-if : (ctx : List Label) (q e t r : ℕ) (k : Node) (m : Bool) (p : ℕ) (n : Node) (names : List Node) (h h' : Here) (s s' : List Value)
      (rx ry rx' ry' : Run) (go : Here → Run)
      → r ≤ 1 → e ≤ q → Within ctx q → ((x : Loc) → N n x → N (Join p) x) → Rel M every names s s' → (K (At p) ≡ true → AllIn M 1 names)
      → Two (block_label p r e ∷ ctx) e r (Join p) rx rx' → Two (block_label p r e ∷ ctx) e r (Join p) ry ry'
      → (K (At p) ≡ false → (v v' : Value) → Two (block_label p r e ∷ ctx) e r (Join p) (if_zero (number_of v) ry rx) (if_zero (number_of v') ry' rx'))
      → ((h h' : Here) → Rel M every (named r (Join p) (drop 1 names)) h.stack h'.stack → Apart (N n) (N n) h.store h'.store → Two ctx q t k (go h) (go h'))
      → (Dark K e q → (h : Here) → length h.stack ≡ length (named r (Join p) (drop 1 names)) → Region Z W G md K M every N ctx q t k (N n) h.store (go h))
      → Two ctx q t k (on_top h s (λ v s1. after (seen m (Take (v ∷ []) ∷ [])) (then_do (leave s1 (if_zero (number_of v) ry rx)) go)))
      (on_top h' s' (λ v s1. after (seen m (Take (v ∷ []) ∷ [])) (then_do (leave s1 (if_zero (number_of v) ry' rx')) go)))
  two-if ctx q e t r k m p n names h h' [] s' rx ry rx' ry' go small le w sub rel ks ax ay off rest dark = tt
  two-if ctx q e t r k m p n names h h' (v ∷ s) [] rx ry rx' ry' go small le w sub rel ks ax ay off rest dark = absurd (no_short names v s rel)
  two-if ctx q e t r k m p n names h h' (v ∷ s) (v' ∷ s') rx ry rx' ry' go small le w sub rel ks ax ay off rest dark =
      let both : Two (block_label p r e ∷ ctx) e r (Join p) (if_zero (number_of v) ry rx) (if_zero (number_of v') ry' rx') =
      keep_or_not (K (At p))
      (λ on. subst (λ z. Two (block_label p r e ∷ ctx) e r (Join p) (if_zero (number_of v) ry rx) (if_zero (number_of z) ry' rx'))
      (same_top names v v' s s' (ks on) rel).0 (two-zero (block_label p r e ∷ ctx) e r (Join p) (number_of v) ry rx ry' rx' ay ax)) (λ o. off o v v') in
      let rv = if_zero (number_of v) ry rx in let rv' = if_zero (number_of v') ry' rx' in
      let one =
      block-two ctx p e r (drop 1 names) s s' small (rest_rel names v v' s s' rel) rv.outcome rv.there rv.events rv'.outcome rv'.there rv'.events both in
      let li = leave s rv in let li' = leave s' rv' in
      two-then ctx q e t k (Join p) n (named r (Join p) (drop 1 names)) go le w sub rest dark li.outcome li.there li.events li'.outcome li'.there li'.events one

  two-branch : (ctx : List Label) (q t l p : ℕ) (k : Node) (m : Bool) (names : List Node) (s s' : List Value) (st st' : Store)
      → BrOk Z W G md K M every N ctx m l p names → Rel M every names s s' → Apart (N (At p)) (N (At p)) st st'
      → Two ctx q t k (ends (Branch l) (at (take (carried (arities ctx) l) s) st)) (ends (Branch l) (at (take (carried (arities ctx) l) s') st'))
  two-branch ctx q t l p k m names s s' st st' c rel sto =
      let e = c.enough in
      record {
        long = length-take_of Z W G md K M every N (carried (arities ctx) l) s (let x = rel-long M every names s s' rel in omega arith);
        long' = length-take_of Z W G md K M every N (carried (arities ctx) l) s' (let x = flip-long names s s' rel in omega arith);
        store = apart-from (N (point_of ctx l)) (N (At p)) st st' c.goes sto;
        either = inl (refl, (λ on. (rel-kept M every (λ z y. refl) (carried (arities ctx) l) names s s' rel (c.carries on)).0));
      }

  -- a table of labels, in both runs
  two-table : (ctx : List Label) (q t : ℕ) (k : Node) (labels : List ℕ) (other p : ℕ) (m : Bool) (names : List Node) (h h' : Here) (s s' : List Value)
      (es es' : List Event)
      → p + 1 ≤ q → ((l : ℕ) → OneOf labels other l → BrOk Z W G md K M every N ctx m l p (drop 1 names)) → (K (At p) ≡ true → AllIn M 1 names)
      → Rel M every names s s' → Apart (N (At p)) (N (At p)) h.store h'.store
      → Two ctx q t k
      (on_top h s
      (λ v s1. after es (ends (Branch (chosen labels other (number_of v))) (at_stack (take (carried (arities ctx) (chosen labels other (number_of v))) s1) h))))
      (on_top h' s'
      (λ v s1. after es' (ends (Branch (chosen labels other (number_of v))) (at_stack (take (carried (arities ctx) (chosen labels other (number_of v))) s1) h'))))
  two-table ctx q t k labels other p m names h h' [] s' es es' le c ks rel sto = tt
  two-table ctx q t k labels other p m names h h' (v ∷ s) [] es es' le c ks rel sto = absurd (no_short names v s rel)
  two-table ctx q t k labels other p m names h h' (v ∷ s) (v' ∷ s') es es' le c ks rel sto =
      keep_or_not (K (At p))
      (λ on. subst (λ z. Two ctx q t k (to v s h) (to z s' h')) (same_top names v v' s s' (ks on) rel).0 (two-branch ctx q t (chosen labels other (number_of v)) p k m (drop 1 names) s s' h.store h'.store (cl v) rel1 sto))
      (λ off. record {
        long =
            length-take_of Z W G md K M every N (carried (arities ctx) (chosen labels other (number_of v))) s
            (let x = rel-long M every (drop 1 names) s s' rel1 in let e = (cl v).enough in omega arith);
        long' =
            length-take_of Z W G md K M every N (carried (arities ctx) (chosen labels other (number_of v'))) s'
            (let x = flip-long (drop 1 names) s s' rel1 in let e = (cl v').enough in omega arith);
        store =
            apart-sub (N (point_of ctx (chosen labels other (number_of v)))) (N (At p)) (N (point_of ctx (chosen labels other (number_of v')))) (N (At p))
            h.store h'.store (cl v).goes (cl v').goes sto;
        either =
            inr
            (skip-later md K ctx (chosen labels other (number_of v)) (p + 1) q le ((cl v).skips off), skip-later md K ctx (chosen labels other (number_of v')) (p + 1) q le ((cl v').skips off));
      })
    where
      to : Value → List Value → Here → Run
      to z s1 g = ends (Branch (chosen labels other (number_of z))) (at_stack (take (carried (arities ctx) (chosen labels other (number_of z))) s1) g)

      rel1 : Rel M every (drop 1 names) s s'
      rel1 = rest_rel names v v' s s' rel

      cl : (z : Value) → BrOk Z W G md K M every N ctx m (chosen labels other (number_of z)) p (drop 1 names)
      cl z = c (chosen labels other (number_of z)) (chosen_is Z W G md K M every N labels other (number_of z))

  -- a conditional branch, in both runs
  two-br_if : (ctx : List Label) (q t : ℕ) (k : Node) (l p : ℕ) (m : Bool) (n : Node) (names : List Node) (h h' : Here) (s s' : List Value)
      (es es' : List Event) (go : Here → Run)
      → p + 1 ≤ q → Within ctx q → BrOk Z W G md K M every N ctx m l p (drop 1 names) → (K (At p) ≡ true → AllIn M 1 names) → ((x : Loc) → N n x → N (At p) x)
      → Rel M every names s s' → Apart (N (At p)) (N (At p)) h.store h'.store
      → ((h h' : Here) → Rel M every (drop 1 names) h.stack h'.stack → Apart (N n) (N n) h.store h'.store → Two ctx q t k (go h) (go h'))
      → (Dark K (p + 1) q → (h : Here) → length h.stack ≡ length (drop 1 names) → Region Z W G md K M every N ctx q t k (N n) h.store (go h))
      → Two ctx q t k
      (on_top h s (λ v s1. after es (if_zero (number_of v) (go (at_stack s1 h)) (ends (Branch l) (at_stack (take (carried (arities ctx) l) s1) h)))))
      (on_top h' s' (λ v s1. after es' (if_zero (number_of v) (go (at_stack s1 h')) (ends (Branch l) (at_stack (take (carried (arities ctx) l) s1) h')))))
  two-br_if ctx q t k l p m n names h h' [] s' es es' go le w c ks sub rel sto rest dark = tt
  two-br_if ctx q t k l p m n names h h' (v ∷ s) [] es es' go le w c ks sub rel sto rest dark = absurd (no_short names v s rel)
  two-br_if ctx q t k l p m n names h h' (v ∷ s) (v' ∷ s') es es' go le w c ks sub rel sto rest dark =
      keep_or_not (K (At p))
      (λ on. subst (λ z. Two ctx q t k (if_zero (number_of v) past on_it) (if_zero (number_of z) past' on_it')) (same_top names v v' s s' (ks on) rel).0
      (two-zero ctx q t k (number_of v) past on_it past' on_it' both_past both_on)) (λ off. apart off (number_of v) (number_of v'))
    where
      past : Run
      past = go (at_stack s h)

      past' : Run
      past' = go (at_stack s' h')

      on_it : Run
      on_it = ends (Branch l) (at_stack (take (carried (arities ctx) l) s) h)

      on_it' : Run
      on_it' = ends (Branch l) (at_stack (take (carried (arities ctx) l) s') h')

      rel1 : Rel M every (drop 1 names) s s'
      rel1 = rest_rel names v v' s s' rel

      both_past : Two ctx q t k past past'
      both_past = rest (at_stack s h) (at_stack s' h') rel1 (apart-from (N n) (N (At p)) h.store h'.store sub sto)

      both_on : Two ctx q t k on_it on_it'
      both_on = two-branch ctx q t l p k m (drop 1 names) s s' h.store h'.store c rel1 sto

      to : ℕ
      to = carried (arities ctx) l

      apart : K (At p) ≡ false → (v v' : ℕ) → Two ctx q t k (if_zero v past on_it) (if_zero v' past' on_it')
      apart off zero zero = both_past
      apart off zero (suc v') =
          let sk = c.skips off in
          let e = c.enough in
          let d = dark (skip-dark md K ctx l (p + 1) q w sk) (at_stack s h) (rel-long M every (drop 1 names) s s' rel1) in
          dark-left ctx q t l k (N n) h.store on_it'.there
          (length-take_of Z W G md K M every N to s' (let x = flip-long (drop 1 names) s s' rel1 in omega arith)) (skip-later md K ctx l (p + 1) q le sk)
          (apart-sub (N n) (N (At p)) _ _ h.store h'.store sub c.goes sto) past.outcome past.there past.events d
      apart off (suc v) zero =
          let sk = c.skips off in
          let e = c.enough in
          let d = dark (skip-dark md K ctx l (p + 1) q w sk) (at_stack s' h') (flip-long (drop 1 names) s s' rel1) in
          dark-right ctx q t l k (N n) h'.store on_it.there
          (length-take_of Z W G md K M every N to s (let x = rel-long M every (drop 1 names) s s' rel1 in omega arith))
          (skip-later md K ctx l (p + 1) q le sk) (apart-sub _ _ (N n) (N (At p)) h.store h'.store c.goes sub sto) past'.outcome past'.there past'.events d
      apart off (suc v) (suc v') = both_on

  two-longer : (ctx : List Label) (q q' t : ℕ) (k : Node) (r r' : Run) → q ≤ q' → Two ctx q t k r r' → Two ctx q' t k r r'
  two-longer ctx q q' t k r r' le a = go r.outcome r'.outcome a
    where
      go : (o o' : Outcome) → TwoBy ctx q t k r.there r'.there o o' → TwoBy ctx q' t k r.there r'.there o o'
      go Normal Normal a = a
      go Normal (Branch l') a = record { long = a.long; long' = a.long'; store = a.store; skip = skip-later md K ctx l' q q' le a.skip }
      go Normal (Stopped why) a = a
      go (Branch l) Normal a = record { long = a.long; long' = a.long'; store = a.store; skip = skip-later md K ctx l q q' le a.skip }
      go (Branch l) (Branch l') a = labels-later ctx l l' q q' r.there r'.there le a
      go (Branch l) (Stopped why) a = a
      go (Stopped why) o' a = tt

  -- two runs of a sequence
  pub two : (b : Below) → Lawful Z W G md K M every N b → DarkLaps Z W G md K M every N b → NeverBack b → LapTwo b
      → (code : Marked) (ctx : List Label) (o : Bool) (k : Node) (t p q : ℕ) (names : List Node) → Closed Z W G md K M every N ctx o k t code p names
      → q ≡ p + size code → Within ctx q → (h h' : Here) → Rel M every names h.stack h'.stack
      → Apart (N (first p code k)) (N (first p code k)) h.store h'.store → Two ctx q t k (run Z b (arities ctx) code h) (run Z b (arities ctx) code h')
  two b bc dl nb lt End ctx o k t p q names c eq w h h' rel sto =
      let long = rel-long M every names h.stack h'.stack rel ∙ c.long in
      let long' = flip-long names h.stack h'.stack rel ∙ c.long in
      record { values = record { long = long; long' = long'; equal = λ on. sym (take_all t h'.stack (omega arith)) ∙ (rel-kept M every (λ z y. refl) t names h.stack h'.stack rel (c.values on)).0 ∙ take_all t h.stack (omega arith) }; store = sto }
  two b bc dl nb lt (Do m op rest) ctx o k t p q names c eq w h h' rel sto =
      two-do b bc ctx q t k m op p names (first (p + 1) rest k) h h' (run Z b (arities ctx) rest) c.0 rel sto
      (λ h1 h1' rel1 sto1. two b bc dl nb lt rest ctx o k t (p + 1) q (made (callees Z.m) p op names) c.1 (omega arith) w h1 h1' rel1 sto1) _ _ refl refl
  two b bc dl nb lt (Block m r body rest) ctx o k t p q names c eq w h h' rel sto =
      let e = p + 1 + size body in
      let names1 = named (arity r) (Join p) names in
      let rb = run Z b ((arity r) ∷ arities ctx) body (at_stack [] h) in
      let rb' = run Z b ((arity r) ∷ arities ctx) body (at_stack [] h') in
      let inner =
      two b bc dl nb lt body (block_label p (arity r) e ∷ ctx) (K (At p)) (Join p) (arity r) (p + 1) e [] c.1 refl (omega arith) (at_stack [] h)
      (at_stack [] h') refl (apart-from _ (N (At p)) h.store h'.store c.0.enters sto) in
      let one = block-two ctx p e (arity r) names h.stack h'.stack c.0.small rel rb.outcome rb.there rb.events rb'.outcome rb'.there rb'.events inner in
      let li = leave h.stack rb in let li' = leave h'.stack rb' in
      two-then ctx q e t k (Join p) (first e rest k) names1 (run Z b (arities ctx) rest) (omega arith) w c.0.leaves_it
      (λ h1 h1' rel1 sto1. two b bc dl nb lt rest ctx o k t e q names1 c.2 (omega arith) w h1 h1' rel1 sto1)
      (λ d h1 l1. region Z W G md K M every N b bc dl rest ctx o k t e q names1 c.2 (omega arith) d h1 l1) li.outcome li.there li.events li'.outcome li'.there
      li'.events one
  two b bc dl nb lt (Loop m r body rest) ctx o k t p q names c eq w h h' rel sto =
      let e = p + 1 + size body in
      let names1 = named (arity r) (Join p) names in
      let rb = run Z b (0 ∷ arities ctx) body (at_stack [] h) in
      let rb' = run Z b (0 ∷ arities ctx) body (at_stack [] h') in
      let inner =
      two b bc dl nb lt body (loop_label p e ∷ ctx) (K (At p)) (Join p) (arity r) (p + 1) e [] c.1 refl (omega arith) (at_stack [] h) (at_stack [] h') refl
      (apart-from _ (N (At p)) h.store h'.store c.0.enters sto) in
      let la = again rb (b.lap (arities ctx) body) in let la' = again rb' (b.lap (arities ctx) body) in
      let laps =
      again-two ctx p e (arity r) (b.lap (arities ctx) body) (nb (arities ctx) body)
      (λ h1 h1' e1 e1' sto1. lt ctx p (arity r) body (K (At p)) c.1 c.0.enters h1 h1' e1 e1' sto1)
      (λ off d h1 e1. dl off ctx p (arity r) body (K (At p)) c.1 d c.0.enters h1 e1) rb.outcome rb.there rb.events rb'.outcome rb'.there rb'.events inner in
      let one = loop-two ctx p e (arity r) names h.stack h'.stack c.0.small rel la.outcome la.there la.events la'.outcome la'.there la'.events laps in
      let li = leave h.stack la in let li' = leave h'.stack la' in
      two-then ctx q e t k (Join p) (first e rest k) names1 (run Z b (arities ctx) rest) (omega arith) w c.0.leaves_it
      (λ h1 h1' rel1 sto1. two b bc dl nb lt rest ctx o k t e q names1 c.2 (omega arith) w h1 h1' rel1 sto1)
      (λ d h1 l1. region Z W G md K M every N b bc dl rest ctx o k t e q names1 c.2 (omega arith) d h1 l1) li.outcome li.there li.events li'.outcome li'.there
      li'.events one
  two b bc dl nb lt (If m r x y rest) ctx o k t p q names c eq w h h' rel sto =
      let f = p + 1 + size x in
      let e = p + 1 + size x + size y in
      let L = block_label p (arity r) e in
      let names1 = named (arity r) (Join p) (drop 1 names) in
      let rx = run Z b ((arity r) ∷ arities ctx) x (at_stack [] h) in
      let ry = run Z b ((arity r) ∷ arities ctx) y (at_stack [] h) in
      let rx' = run Z b ((arity r) ∷ arities ctx) x (at_stack [] h') in
      let ry' = run Z b ((arity r) ∷ arities ctx) y (at_stack [] h') in
      let ax =
      two b bc dl nb lt x (L ∷ ctx) (K (At p)) (Join p) (arity r) (p + 1) f [] c.3 refl (omega arith) (at_stack [] h) (at_stack [] h') refl
      (apart-from _ (N (At p)) h.store h'.store c.1.enters sto) in
      let ay =
      two b bc dl nb lt y (L ∷ ctx) (K (At p)) (Join p) (arity r) f e [] c.4 refl (omega arith) (at_stack [] h) (at_stack [] h') refl
      (apart-from _ (N (At p)) h.store h'.store c.2 sto) in
      let reg = λ (off : K (At p) ≡ false) (g : Here) (v : ℕ).
      region-zero Z W G md K M every N (L ∷ ctx) e (arity r) (Join p) (N k) (N (At p)) (N k) g.store v (run Z b ((arity r) ∷ arities ctx) y (at_stack [] g))
      (run Z b ((arity r) ∷ arities ctx) x (at_stack [] g))
      (region-longer Z W G md K M every N (L ∷ ctx) e e (arity r) (Join p) _ (N (At p)) g.store (run Z b ((arity r) ∷ arities ctx) y (at_stack [] g)) (omega arith) c.2 (region Z W G md K M every N b bc dl y (L ∷ ctx) (K (At p)) (Join p) (arity r) f e [] c.4 refl (dark-sub K (p + 1) e f e (c.1.dark refl off) (omega arith) (omega arith)) (at_stack [] g) refl))
      (region-longer Z W G md K M every N (L ∷ ctx) f e (arity r) (Join p) _ (N (At p)) g.store (run Z b ((arity r) ∷ arities ctx) x (at_stack [] g)) (omega arith) c.1.enters (region Z W G md K M every N b bc dl x (L ∷ ctx) (K (At p)) (Join p) (arity r) (p + 1) f [] c.3 refl (dark-sub K (p + 1) e (p + 1) f (c.1.dark refl off) (omega arith) (omega arith)) (at_stack [] g) refl))
      in
      two-if ctx q e t (arity r) k m p (first e rest k) names h h' h.stack h'.stack rx ry rx' ry' (run Z b (arities ctx) rest) c.1.small (omega arith) w
      c.1.leaves_it rel c.0.operand (two-longer (L ∷ ctx) f e (arity r) (Join p) rx rx' (omega arith) ax) ay
      (λ off v v'. let z = if_zero (number_of v) ry rx in let z' = if_zero (number_of v') ry' rx' in both-dark (L ∷ ctx) e (arity r) (Join p) (N (At p)) h.store h'.store (c.1.join refl off) sto z.outcome z.there z.events z'.outcome z'.there z'.events (reg off h (number_of v)) (reg off h' (number_of v')))
      (λ h1 h1' rel1 sto1. two b bc dl nb lt rest ctx o k t e q names1 c.5 (omega arith) w h1 h1' rel1 sto1)
      (λ d h1 l1. region Z W G md K M every N b bc dl rest ctx o k t e q names1 c.5 (omega arith) d h1 l1)
  two b bc dl nb lt (Br m l rest) ctx o k t p q names c eq w h h' rel sto = two-branch ctx q t l p k m names h.stack h'.stack h.store h'.store c rel sto
  two b bc dl nb lt (BrIf m l rest) ctx o k t p q names c eq w h h' rel sto =
      two-br_if ctx q t k l p m (first (p + 1) rest k) names h h' h.stack h'.stack _ _ (run Z b (arities ctx) rest) (omega arith) w c.1 c.0.operand c.2 rel
      sto (λ h1 h1' rel1 sto1. two b bc dl nb lt rest ctx o k t (p + 1) q (drop 1 names) c.3 (omega arith) w h1 h1' rel1 sto1)
      (λ d h1 l1. region Z W G md K M every N b bc dl rest ctx o k t (p + 1) q (drop 1 names) c.3 (omega arith) d h1 l1)
  two b bc dl nb lt (BrTable m labels other rest) ctx o k t p q names c eq w h h' rel sto =
      two-table ctx q t k labels other p m names h h' h.stack h'.stack _ _ (omega arith) (λ l one. (c.1 l one).0) c.0.operand rel sto
  two b bc dl nb lt (Return m rest) ctx o k t p q names c eq w h h' rel sto =
      two-branch ctx q t (outermost (arities ctx)) p k m names h.stack h'.stack h.store h'.store c rel sto
  two b bc dl nb lt (Unreachable m rest) ctx o k t p q names c eq w h h' rel sto = tt

  pub lap_two : (F : Below → Calls) (n : ℕ) → ((m : ℕ) → m ≤ n → Lawful Z W G md K M every N (below Z F m)) → LapTwo (below Z F n)
  lap_two F zero good ctx p r body o c enters h h' e e' sto = tt
  lap_two F (suc n) good ctx p r body o c enters h h' e e' sto =
      let rb = run Z (below Z F n) (0 ∷ arities ctx) body h in let rb' = run Z (below Z F n) (0 ∷ arities ctx) body h' in
      let rel : Rel M every [] h.stack h'.stack = rw e e' in
      let inner =
      two (below Z F n) (good n (omega arith)) (dark-laps Z W G md K M every N F n (λ m le. good m (omega arith))) (never_back F n)
      (lap_two F n (λ m le. good m (omega arith))) body (loop_label p (p + 1 + size body) ∷ ctx) o (Join p) r (p + 1) (p + 1 + size body) [] c refl
      (omega arith) h h' rel (apart-from _ (N (At p)) h.store h'.store enters sto) in
      again-two ctx p (p + 1 + size body) r ((below Z F n).lap (arities ctx) body) (never_back F n (arities ctx) body)
      (λ h1 h1' e1 e1' sto1. lap_two F n (λ m le. good m (omega arith)) ctx p r body o c enters h1 h1' e1 e1' sto1)
      (λ off d h1 e1. dark-laps Z W G md K M every N F n (λ m le. good m (omega arith)) off ctx p r body o c d enters h1 e1) rb.outcome rb.there rb.events
      rb'.outcome rb'.there rb'.events inner
