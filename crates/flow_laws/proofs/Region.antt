-- A region with nothing kept, in the original: it changes no needed location, whichever way it is left.
use Rattle.std.proofs.Common.{◌≡◌, ℕ, zero, suc, ◌+◌, ◌≤◌, inl, inr, List, [], ◌∷◌, ◌++◌, Bool, true, false, take, drop, length, reverse, refl, sym, ap, ◌∙◌, subst, arith, true≢false}
use Rattle.wasm_types.specs.Marked.{Marked, End, Do, Block, Loop, If, Br, BrIf, BrTable, Return, Unreachable, size}
use Rattle.wasm_types.specs.declared.instr.Instr.{Instr}
use Rattle.wasm_types.specs.declared.module.Value.{Value}
use Rattle.wasm_meaning.specs.State.{Store}
use Rattle.wasm_types.specs.declared.place.Loc.{Loc}
use Rattle.wasm_meaning.specs.Equality.{EqAt}
use Rattle.flow_domain.specs.Bounds.{Cover, bounds, writes}
use Rattle.wasm_meaning.specs.Effects.{Fixed, Answer, Gives, Stops, Calls, effect}
use Rattle.wasm_types.specs.Actions.{callees, takes, leaves}
use Rattle.wasm_meaning.specs.Operations.{number_of}
use Rattle.wasm_meaning.specs.Run.{Here, Outcome, Normal, Branch, Stopped, Run, ends, after, seen, then_do, chosen, at_stack, leave, back, again, do_step, if_zero, on_top, Below, run, below}
use Rattle.wasm_types.specs.declared.run.Event.{Event}
use Rattle.wasm_types.specs.declared.run.Event.TheVariants.{Take}
use Rattle.wasm_types.specs.Labels.{arity, carried, outermost, Label, block_label, loop_label, arities, point_of, first}
use Rattle.wasm_meaning.proofs.Equal.{eq-refl, eq-then, eq-turns}
use Rattle.flow_laws.proofs.Effects.{stops_give}
use Rattle.wasm_meaning.proofs.ActionLaws.{gives_is}
use Rattle.wasm_types.specs.declared.place.Node.{Node}
use Rattle.wasm_types.specs.Nodes.{At, Join, named, made}
use Rattle.wasm_types.specs.Sites.{OneOf}
use Rattle.flow_laws.proofs.Closed.{Mode, strict, Dark, Skip, DoOk, BrOk, Closed}
use Rattle.flow_laws.proofs.Falls.{dark-sub}

abbrev pub mk : Outcome → Here → List Event → Run
mk o h es = record { outcome = o; there = h; events = es }

-- from s to s1 nothing needed by f changes, and f needs no more than g does
pub record Keeps (d : Bool) (f g : Loc → Type 0) (s s1 : Store) : Type 0 where
  pub back_to : (x : Loc) → f x → g x
  pub equal : (x : Loc) → f x → EqAt x s s1
  pub turns : s.state.turns ≤ s1.state.turns
  pub still : d ≡ true → s1.state.turns ≡ s.state.turns

pub keeps-refl : (d : Bool) (f g : Loc → Type 0) (s : Store) → ((x : Loc) → f x → g x) → Keeps d f g s s
keeps-refl d f g s sub = record { back_to = sub; equal = λ x e. eq-refl x s; turns = omega arith; still = λ on. refl }

pub keeps-then : (d : Bool) (f g h : Loc → Type 0) (s s1 s2 : Store) → Keeps d g h s s1 → Keeps d f g s1 s2 → Keeps d f h s s2
keeps-then d f g h s s1 s2 a b = record {
  back_to = λ x e. a.back_to x (b.back_to x e);
  equal = λ x e. eq-then x s s1 s2 (a.equal x (b.back_to x e)) (b.equal x e);
  turns = let l = a.turns in let m = b.turns in omega arith;
  still = λ on. b.still on ∙ a.still on;
}

pub skip-later : (w : Mode) (K : Node → Bool) (ctx : List Label) (l q q' : ℕ) → q ≤ q' → Skip w K ctx l q → Skip w K ctx l q'
skip-later w K [] l q q' le s = s
skip-later w K (L ∷ ctx) zero q q' le s = (dark-sub K q L.stop q' L.stop s.0 le (omega arith), s.1, s.2, s.3)
skip-later w K (L ∷ ctx) (suc l) q q' le s = (dark-sub K q L.stop q' L.stop s.0 le (omega arith), s.1)

pub record ToEnd (d : Bool) (f g : Loc → Type 0) (t : ℕ) (st : Store) (r : Run) : Type 0 where
  pub long : length r.there.stack ≡ t
  pub keeps : Keeps d f g st r.there.store
  pub events : r.events ≡ []

pub record ToLabel (w : Mode) (K : Node → Bool) (N : Node → Loc → Type 0) (ctx : List Label) (l q : ℕ) (g : Loc → Type 0) (st : Store) (r : Run) : Type 0 where
  pub long : length r.there.stack ≡ carried (arities ctx) l
  pub keeps : Keeps (strict w) (N (point_of ctx l)) g st r.there.store
  pub skip : Skip w K ctx l q
  pub events : r.events ≡ []

-- what one instruction leaves above s
pub record Above (d : Bool) (f g : Loc → Type 0) (t : ℕ) (s : List Value) (st : Store) (r : Run) : Type 0 where
  pub values : List Value
  pub long : length values ≡ t
  pub stack : r.there.stack ≡ values ++ s
  pub keeps : Keeps d f g st r.there.store
  pub events : r.events ≡ []

-- a run that doesn't go on
abbrev pub Lost : Bool → Type 0
Lost true = ⊥
Lost false = Unit {0}

pub on_or_off : {A : Type 0} (q : Bool) → (q ≡ true → A) → (q ≡ false → A) → A
on_or_off true f g = f refl
on_or_off false f g = g refl

pub lost_or : (d : Bool) → (d ≡ true → ⊥) → Lost d
lost_or true f = f refl
lost_or false f = tt

module _ (Z : Fixed) (W : Cover) (G : Calls → Type 0) (w : Mode) (K M P : Node → Bool) (N : Node → Loc → Type 0) where
  -- a run of a sequence to its end at q, where g is needed before it
  abbrev pub RegionBy : List Label → ℕ → ℕ → Node → (Loc → Type 0) → Store → Run → Outcome → Type 0
  RegionBy ctx q t k g st r Normal = ToEnd (strict w) (N k) g t st r
  RegionBy ctx q t k g st r (Branch l) = ToLabel w K N ctx l q g st r
  RegionBy ctx q t k g st r (Stopped why) = Lost (strict w)

  abbrev pub Region : List Label → ℕ → ℕ → Node → (Loc → Type 0) → Store → Run → Type 0
  Region ctx q t k g st r = RegionBy ctx q t k g st r r.outcome

  -- the laps of a loop end by no branch back
  abbrev pub LapsBy : List Label → ℕ → ℕ → Node → (Loc → Type 0) → Store → Run → Outcome → Type 0
  LapsBy ctx q t k g st r Normal = ToEnd (strict w) (N k) g t st r
  LapsBy ctx q t k g st r (Branch zero) = ⊥
  LapsBy ctx q t k g st r (Branch (suc l)) = ToLabel w K N ctx (suc l) q g st r
  LapsBy ctx q t k g st r (Stopped why) = Lost (strict w)

  abbrev pub Laps : List Label → ℕ → ℕ → Node → (Loc → Type 0) → Store → Run → Type 0
  Laps ctx q t k g st r = LapsBy ctx q t k g st r r.outcome

  -- one instruction
  abbrev pub OneBy : List Label → ℕ → ℕ → Node → (Loc → Type 0) → List Value → Store → Run → Outcome → Type 0
  OneBy ctx q t k g s st r Normal = Above (strict w) (N k) g t s st r
  OneBy ctx q t k g s st r (Branch l) = ToLabel w K N ctx l q g st r
  OneBy ctx q t k g s st r (Stopped why) = Lost (strict w)

  abbrev pub One : List Label → ℕ → ℕ → Node → (Loc → Type 0) → List Value → Store → Run → Type 0
  One ctx q t k g s st r = OneBy ctx q t k g s st r r.outcome

  pub no_events : (es fs : List Event) → es ≡ [] → fs ≡ [] → es ++ fs ≡ []
  no_events es fs e f = rw (e, f)

  -- what stands before a region keeps what the region needs
  region-after : (ctx : List Label) (q t : ℕ) (k : Node) (f g : Loc → Type 0) (st st1 : Store) (es : List Event) (o : Outcome) (h : Here) (fs : List Event)
      → Keeps (strict w) f g st st1 → es ≡ [] → Region ctx q t k f st1 (mk o h fs) → Region ctx q t k g st (after es (mk o h fs))
  region-after ctx q t k f g st st1 es Normal h fs a e r =
      record { long = r.long; keeps = keeps-then (strict w) _ f g st st1 h.store a r.keeps; events = no_events es fs e r.events }
  region-after ctx q t k f g st st1 es (Branch l) h fs a e r =
      record { long = r.long; keeps = keeps-then (strict w) _ f g st st1 h.store a r.keeps; skip = r.skip; events = no_events es fs e r.events }
  region-after ctx q t k f g st st1 es (Stopped why) h fs a e r = r

  pub laps-after : (ctx : List Label) (q t : ℕ) (k : Node) (f g : Loc → Type 0) (st st1 : Store) (es : List Event) (o : Outcome) (h : Here) (fs : List Event)
      → Keeps (strict w) f g st st1 → es ≡ [] → Laps ctx q t k f st1 (mk o h fs) → Laps ctx q t k g st (after es (mk o h fs))
  laps-after ctx q t k f g st st1 es Normal h fs a e r =
      record { long = r.long; keeps = keeps-then (strict w) _ f g st st1 h.store a r.keeps; events = no_events es fs e r.events }
  laps-after ctx q t k f g st st1 es (Branch zero) h fs a e r = absurd r
  laps-after ctx q t k f g st st1 es (Branch (suc l)) h fs a e r =
      record { long = r.long; keeps = keeps-then (strict w) _ f g st st1 h.store a r.keeps; skip = r.skip; events = no_events es fs e r.events }
  laps-after ctx q t k f g st st1 es (Stopped why) h fs a e r = r

  -- one instruction, and the rest
  one-then : (ctx : List Label) (q e t r : ℕ) (k j : Node) (f g : Loc → Type 0) (s : List Value) (st : Store) (go : Here → Run) (o : Outcome) (h : Here)
      (es : List Event)
      → e ≤ q → ((x : Loc) → f x → N j x) → ((h1 : Here) → (vs : List Value) → length vs ≡ r → h1.stack ≡ vs ++ s → Region ctx q t k f h1.store (go h1))
      → One ctx e r j g s st (mk o h es) → Region ctx q t k g st (then_do (mk o h es) go)
  one-then ctx q e t r k j f g s st go Normal h es le sub rest a =
      region-after ctx q t k f g st h.store es (go h).outcome (go h).there (go h).events
      (keeps-then (strict w) f (N j) g st h.store h.store a.keeps (keeps-refl (strict w) f (N j) h.store sub)) a.events (rest h a.values a.long a.stack)
  one-then ctx q e t r k j f g s st go (Branch l) h es le sub rest a =
      record { long = a.long; keeps = a.keeps; skip = skip-later w K ctx l e q le a.skip; events = a.events }
  one-then ctx q e t r k j f g s st go (Stopped why) h es le sub rest a = a

  keeps-from : (f g g' : Loc → Type 0) (s s1 : Store) → ((x : Loc) → g x → g' x) → Keeps (strict w) f g s s1 → Keeps (strict w) f g' s s1
  keeps-from f g g' s s1 sub a = record { back_to = λ x e. sub x (a.back_to x e); equal = a.equal; turns = a.turns; still = a.still }

  -- a block as one instruction
  pub block-one : (ctx : List Label) (p e r : ℕ) (f g : Loc → Type 0) (s : List Value) (st : Store) (o : Outcome) (h : Here) (es : List Event)
      → ((x : Loc) → f x → g x) → Region (block_label p r e ∷ ctx) e r (Join p) f st (mk o h es) → One ctx e r (Join p) g s st (leave s (mk o h es))
  block-one ctx p e r f g s st Normal h es sub a =
      record { values = h.stack; long = a.long; stack = refl; keeps = keeps-from _ f g st h.store sub a.keeps; events = a.events }
  block-one ctx p e r f g s st (Branch zero) h es sub a =
      record { values = h.stack; long = a.long; stack = refl; keeps = keeps-from _ f g st h.store sub a.keeps; events = a.events }
  block-one ctx p e r f g s st (Branch (suc l)) h es sub a =
      record { long = a.long; keeps = keeps-from _ f g st h.store sub a.keeps; skip = a.skip.1; events = a.events }
  block-one ctx p e r f g s st (Stopped why) h es sub a = a

  pub laps-one : (ctx : List Label) (p e r : ℕ) (g : Loc → Type 0) (s : List Value) (st : Store) (o : Outcome) (h : Here) (es : List Event)
      → Laps (loop_label p e ∷ ctx) e r (Join p) g st (mk o h es) → One ctx e r (Join p) g s st (leave s (mk o h es))
  laps-one ctx p e r g s st Normal h es a = record { values = h.stack; long = a.long; stack = refl; keeps = a.keeps; events = a.events }
  laps-one ctx p e r g s st (Branch zero) h es a = absurd a
  laps-one ctx p e r g s st (Branch (suc l)) h es a = record { long = a.long; keeps = a.keeps; skip = a.skip.1; events = a.events }
  laps-one ctx p e r g s st (Stopped why) h es a = a

  -- one lap, and those after it
  pub again-laps : (ctx : List Label) (p e r : ℕ) (f : Loc → Type 0) (st : Store) (go : Here → Run) (o : Outcome) (h : Here) (es : List Event)
      → ((x : Loc) → f x → N (At p) x) → Region (loop_label p e ∷ ctx) e r (Join p) f st (mk o h es)
      → (strict w ≡ false → (h1 : Here) → h1.stack ≡ [] → Laps (loop_label p e ∷ ctx) e r (Join p) (N (At p)) h1.store (go h1))
      → Laps (loop_label p e ∷ ctx) e r (Join p) (N (At p)) st (again (mk o h es) go)
  again-laps ctx p e r f st go Normal h es sub a next = record { long = a.long; keeps = keeps-from _ f (N (At p)) st h.store sub a.keeps; events = a.events }
  again-laps ctx p e r f st go (Branch zero) h es sub a next = on_or_off (strict w) (λ on. absurd (true≢false (a.skip.3 on))) (λ off.
      let b : Keeps (strict w) (N (At p)) (N (At p)) st (back h).store =
      record { back_to = λ x q. q; equal = λ x q. eq-turns x st h.store (h.store.state.turns + 1) (a.keeps.equal x q); turns = let l = a.keeps.turns in omega arith; still = λ on. absurd (true≢false (sym on ∙ off)) }
      in
      laps-after (loop_label p e ∷ ctx) e r (Join p) (N (At p)) (N (At p)) st (back h).store es (go (back h)).outcome (go (back h)).there (go (back h)).events
      b a.events (next off (back h) refl))
  again-laps ctx p e r f st go (Branch (suc l)) h es sub a next =
      record { long = a.long; keeps = keeps-from _ f (N (At p)) st h.store sub a.keeps; skip = a.skip; events = a.events }
  again-laps ctx p e r f st go (Stopped why) h es sub a next = a

  -- what laps of a loop with nothing kept do
  abbrev pub DarkLaps : Below → Type 0
  DarkLaps b =
      strict w ≡ false → (ctx : List Label) (p r : ℕ) (body : Marked) (o : Bool)
      → Closed Z W G w K M P N (loop_label p (p + 1 + size body) ∷ ctx) o (Join p) r body (p + 1) [] → Dark K (p + 1) (p + 1 + size body)
      → ((x : Loc) → N (first (p + 1) body (Join p)) x → N (At p) x) → (h : Here) → h.stack ≡ []
      → Laps (loop_label p (p + 1 + size body) ∷ ctx) (p + 1 + size body) r (Join p) (N (At p)) h.store (b.lap (arities ctx) body h)

  pub unmarked : (m : Bool) (p : ℕ) (es : List Event) → (m ≡ true → K (At p) ≡ true) → K (At p) ≡ false → seen m es ≡ []
  unmarked true p es marks off = absurd (true≢false (sym (marks refl) ∙ off))
  unmarked false p es marks off = refl

  pub length-take_of : (n : ℕ) (s : List Value) → n ≤ length s → length (take n s) ≡ n
  length-take_of zero s le = refl
  length-take_of (suc n) [] le = absurd (omega arith)
  length-take_of (suc n) (v ∷ s) le = ap suc (length-take_of n s (omega arith))

  pub length-drop_of : {A B : Type 0} (n : ℕ) (s : List A) (names : List B) → length s ≡ length names → length (drop n s) ≡ length (drop n names)
  length-drop_of zero s names e = e
  length-drop_of (suc n) [] [] e = refl
  length-drop_of (suc n) [] (d ∷ names) e = absurd (omega arith)
  length-drop_of (suc n) (v ∷ s) [] e = absurd (omega arith)
  length-drop_of (suc n) (v ∷ s) (d ∷ names) e = length-drop_of n s names (omega arith)

  pub length-named : (k : ℕ) (d : Node) (names : List Node) (vs s : List Value) → k ≤ 1 → length vs ≡ k → length s ≡ length names
      → length (vs ++ s) ≡ length (named k d names)
  length-named zero d names [] s le e q = q
  length-named zero d names (v ∷ vs) s le e q = absurd (omega arith)
  length-named (suc k) d names [] s le e q = absurd (omega arith)
  length-named (suc k) d names (v ∷ []) s le e q = ap suc q
  length-named (suc k) d names (v ∷ w ∷ vs) s le e q = absurd (omega arith)

  pub not_both : {A : Type 0} (q : Bool) → q ≡ true → q ≡ false → A
  not_both q e f = absurd (true≢false (sym e ∙ f))

  pub off-or-on : (q : Bool) → (q ≡ true → ⊥) → q ≡ false
  off-or-on true f = absurd (f refl)
  off-or-on false f = refl

  -- one plain instruction that isn't kept, and the rest
  -- b's calls are lawful
  abbrev pub Lawful : Below → Type 0
  Lawful b = G b.call

  region-do : (b : Below) (bc : Lawful b) (ctx : List Label) (q t : ℕ) (k : Node) (m : Bool) (op : Instr) (p : ℕ) (names : List Node) (s : Node) (h : Here)
      (go : Here → Run)
      → DoOk Z W G w K M P N m op p names s → K (At p) ≡ false → length h.stack ≡ length names
      → ((h1 : Here) → length h1.stack ≡ length (made (callees Z.m) p op names) → Region ctx q t k (N s) h1.store (go h1)) → (e : Answer)
      → effect Z b.call op (take (takes (callees Z.m) op) h.stack) h.store ≡ e
      → Region ctx q t k (N (At p)) h.store (do_step m (takes (callees Z.m) op) h e go)
  region-do b bc ctx q t k m op p names s h go c off long rest (Stops why st1) eq =
      let en = c.enough in
      lost_or (strict w)
      (λ on. stops_give _
      (sym eq ∙ (c.total on off b.call bc (take (takes (callees Z.m) op) h.stack) h.store (length-take_of (takes (callees Z.m) op) h.stack (omega arith))).is))
  region-do b bc ctx q t k m op p names s h go c off long rest (Gives e) eq =
      let d = c.does b.call bc (take (takes (callees Z.m) op) h.stack) h.store e eq in
      let h1 : Here = record { stack = e.results ++ drop (takes (callees Z.m) op) h.stack; store = e.store } in
      let unwritten = λ (x : Loc) (needed : N s x). off-or-on (writes (bounds Z.m W) op x) (λ w. not_both (K (At p)) (c.defines x needed w) off) in
      region-after ctx q t k (N s) (N (At p)) h.store e.store _ (go h1).outcome (go h1).there (go h1).events
      (record { back_to = λ x needed. c.keeps x needed (unwritten x needed); equal = λ x needed. d.frame x (unwritten x needed); turns = d.turns; still = λ on. let en = c.enough in let g = c.total on off b.call bc (take (takes (callees Z.m) op) h.stack) h.store (length-take_of (takes (callees Z.m) op) h.stack (omega arith)) in subst (λ z. z.store.state.turns ≡ h.store.state.turns) (gives_is g.effect_is e (sym g.is ∙ eq)) g.turns })
      (unmarked m p _ c.marks off)
      (rest h1 (length-named (leaves (callees Z.m) op) (At p) (drop (takes (callees Z.m) op) names) e.results (drop (takes (callees Z.m) op) h.stack) c.few d.left (length-drop_of (takes (callees Z.m) op) h.stack names long)))

  pub region-zero : (ctx : List Label) (q t : ℕ) (k : Node) (f g h : Loc → Type 0) (st : Store) (v : ℕ) (a b : Run) → Region ctx q t k g st a
      → Region ctx q t k g st b → Region ctx q t k g st (if_zero v a b)
  region-zero ctx q t k f g h st zero a b x y = x
  region-zero ctx q t k f g h st (suc v) a b x y = y

  pub region-from : (ctx : List Label) (q t : ℕ) (k : Node) (f g : Loc → Type 0) (st : Store) (r : Run) → ((x : Loc) → f x → g x) → Region ctx q t k f st r
      → Region ctx q t k g st r
  region-from ctx q t k f g st r sub a = region-after ctx q t k f g st st [] r.outcome r.there r.events (keeps-refl (strict w) f g st sub) refl a

  pub region-branch : (ctx : List Label) (q t l p : ℕ) (k : Node) (m : Bool) (names : List Node) (s : List Value) (st : Store)
      → BrOk Z W G w K M P N ctx m l p names → K (At p) ≡ false → p + 1 ≤ q → length s ≡ length names
      → Region ctx q t k (N (At p)) st (ends (Branch l) (record { stack = take (carried (arities ctx) l) s; store = st }))
  region-branch ctx q t l p k m names s st c off le long =
      record { long = length-take_of (carried (arities ctx) l) s (let e = c.enough in omega arith); keeps = keeps-refl (strict w) _ _ st c.goes; skip = skip-later w K ctx l (p + 1) q le (c.skips off); events = refl }

  pub region-longer : (ctx : List Label) (q q' t : ℕ) (k : Node) (f g : Loc → Type 0) (st : Store) (r : Run) → q ≤ q' → ((x : Loc) → f x → g x)
      → Region ctx q t k f st r → Region ctx q' t k g st r
  region-longer ctx q q' t k f g st r le sub a = go r.outcome (region-from ctx q t k f g st r sub a)
    where
      go : (o : Outcome) → RegionBy ctx q t k g st r o → RegionBy ctx q' t k g st r o
      go Normal a = record { long = a.long; keeps = a.keeps; events = a.events }
      go (Branch l) a = record { long = a.long; keeps = a.keeps; skip = skip-later w K ctx l q q' le a.skip; events = a.events }
      go (Stopped why) a = a

  region-if : (ctx : List Label) (q t : ℕ) (k : Node) (m : Bool) (r p e : ℕ) (names : List Node) (n : Node) (h : Here) (s : List Value) (rx ry : Run)
      (go : Here → Run)
      → r ≤ 1 → 1 ≤ length names → ((v : Value) → seen m (Take (v ∷ []) ∷ []) ≡ []) → e ≤ q → ((x : Loc) → N n x → N (Join p) x)
      → Region (block_label p r e ∷ ctx) e r (Join p) (N (At p)) h.store rx → Region (block_label p r e ∷ ctx) e r (Join p) (N (At p)) h.store ry
      → ((h1 : Here) → length h1.stack ≡ length (named r (Join p) (drop 1 names)) → Region ctx q t k (N n) h1.store (go h1)) → length s ≡ length names
      → Region ctx q t k (N (At p)) h.store (on_top h s (λ v s1. after (seen m (Take (v ∷ []) ∷ [])) (then_do (leave s1 (if_zero (number_of v) ry rx)) go)))
  region-if ctx q t k m r p e names n h [] rx ry go small en unseen le sub a b rest long = absurd (omega arith)
  region-if ctx q t k m r p e names n h (v ∷ s) rx ry go small en unseen le sub a b rest long =
      let rv = if_zero (number_of v) ry rx in
      let in_arm = region-zero (block_label p r e ∷ ctx) e r (Join p) (N n) (N (At p)) (N n) h.store (number_of v) ry rx b a in
      let one = block-one ctx p e r (N (At p)) (N (At p)) s h.store rv.outcome rv.there rv.events (λ x y. y) in_arm in
      let li = leave s rv in
      let all =
      one-then ctx q e t r k (Join p) (N n) (N (At p)) s h.store go li.outcome li.there li.events le sub
      (λ h1 vs lv st1. rest h1 (ap length st1 ∙ length-named r (Join p) (drop 1 names) vs s small lv (length-drop_of 1 (v ∷ s) names long))) one in
      let whole = then_do li go in
      region-after ctx q t k (N (At p)) (N (At p)) h.store h.store (seen m (Take (v ∷ []) ∷ [])) whole.outcome whole.there whole.events
      (keeps-refl (strict w) _ _ h.store (λ x y. y)) (unseen v) all

  region-br_if : (ctx : List Label) (q t : ℕ) (k : Node) (m : Bool) (l p : ℕ) (names : List Node) (n : Node) (h : Here) (s : List Value) (go : Here → Run)
      (es : List Event)
      → 1 ≤ length names → BrOk Z W G w K M P N ctx m l p (drop 1 names) → K (At p) ≡ false → p + 1 ≤ q → ((x : Loc) → N n x → N (At p) x)
      → ((h1 : Here) → length h1.stack ≡ length (drop 1 names) → Region ctx q t k (N n) h1.store (go h1)) → length s ≡ length names
      → Region ctx q t k (N (At p)) h.store
      (on_top h s (λ v s1. after (seen m es) (if_zero (number_of v) (go (at_stack s1 h)) (ends (Branch l) (at_stack (take (carried (arities ctx) l) s1) h)))))
  region-br_if ctx q t k m l p names n h [] go es en c off le sub rest long = absurd (omega arith)
  region-br_if ctx q t k m l p names n h (v ∷ s) go es en c off le sub rest long =
      let ls = length-drop_of 1 (v ∷ s) names long in
      let on = ends (Branch l) (at_stack (take (carried (arities ctx) l) s) h) in
      let past = go (at_stack s h) in
      let rv = if_zero (number_of v) past on in
      region-after ctx q t k (N (At p)) (N (At p)) h.store h.store (seen m es) rv.outcome rv.there rv.events (keeps-refl (strict w) _ _ h.store (λ x y. y))
      (unmarked m p es c.marks off)
      (region-zero ctx q t k (N n) (N (At p)) (N n) h.store (number_of v) past on (region-from ctx q t k (N n) (N (At p)) h.store past sub (rest (at_stack s h) ls)) (region-branch ctx q t l p k m (drop 1 names) s h.store c off le ls))

  -- the label that an index picks is one of them
  pub chosen_is : (labels : List ℕ) (other v : ℕ) → OneOf labels other (chosen labels other v)
  chosen_is [] other v = refl
  chosen_is (l ∷ ls) other zero = inl refl
  chosen_is (l ∷ ls) other (suc v) = inr (chosen_is ls other v)

  region-table : (ctx : List Label) (q t : ℕ) (k : Node) (m : Bool) (labels : List ℕ) (other p : ℕ) (names : List Node) (h : Here) (s : List Value)
      (es : List Event)
      → 1 ≤ length names → ((l : ℕ) → OneOf labels other l → BrOk Z W G w K M P N ctx m l p (drop 1 names)) → K (At p) ≡ false → p + 1 ≤ q
      → length s ≡ length names
      → Region ctx q t k (N (At p)) h.store
      (on_top h s
      (λ v s1. after (seen m es) (ends (Branch (chosen labels other (number_of v))) (at_stack (take (carried (arities ctx) (chosen labels other (number_of v))) s1) h))))
  region-table ctx q t k m labels other p names h [] es en c off le long = absurd (omega arith)
  region-table ctx q t k m labels other p names h (v ∷ s) es en c off le long =
      let l = chosen labels other (number_of v) in
      let cl = c l (chosen_is labels other (number_of v)) in
      let r1 = ends (Branch l) (at_stack (take (carried (arities ctx) l) s) h) in
      region-after ctx q t k (N (At p)) (N (At p)) h.store h.store (seen m es) r1.outcome r1.there r1.events (keeps-refl (strict w) _ _ h.store (λ x y. y))
      (unmarked m p es cl.marks off) (region-branch ctx q t l p k m (drop 1 names) s h.store cl off le (length-drop_of 1 (v ∷ s) names long))

  pub region : (b : Below) → Lawful b → DarkLaps b → (code : Marked) (ctx : List Label) (o : Bool) (k : Node) (t p q : ℕ) (names : List Node)
      → Closed Z W G w K M P N ctx o k t code p names → q ≡ p + size code → Dark K p q → (h : Here) → length h.stack ≡ length names
      → Region ctx q t k (N (first p code k)) h.store (run Z b (arities ctx) code h)
  region b bc dl End ctx o k t p q names c eq dark h long = record { long = long ∙ c.long; keeps = keeps-refl (strict w) _ _ h.store (λ x e. e); events = refl }
  region b bc dl (Do m op rest) ctx o k t p q names c eq dark h long =
      region-do b bc ctx q t k m op p names (first (p + 1) rest k) h (run Z b (arities ctx) rest) c.0 (dark p (omega arith) (omega arith)).0 long
      (λ h1 long1. region b bc dl rest ctx o k t (p + 1) q (made (callees Z.m) p op names) c.1 (omega arith)
      (dark-sub K p q (p + 1) q dark (omega arith) (omega arith)) h1 long1) _ refl
  region b bc dl (Block m r body rest) ctx o k t p q names c eq dark h long =
      let off = (dark p (omega arith) (omega arith)).0 in
      let e = p + 1 + size body in
      let rb = run Z b (arity r ∷ arities ctx) body (at_stack [] h) in
      let inner =
      region b bc dl body (block_label p (arity r) e ∷ ctx) (K (At p)) (Join p) (arity r) (p + 1) e [] c.1 refl
      (dark-sub K p q (p + 1) e dark (omega arith) (omega arith)) (at_stack [] h) refl in
      let one = block-one ctx p e (arity r) _ (N (At p)) h.stack h.store rb.outcome rb.there rb.events c.0.enters inner in
      let li = leave h.stack rb in
      region-after ctx q t k (N (At p)) (N (At p)) h.store h.store _ _ _ _ (keeps-refl (strict w) _ _ h.store (λ x y. y)) (unmarked m p _ c.0.marks off)
      (one-then ctx q e t (arity r) k (Join p) (N (first e rest k)) (N (At p)) h.stack h.store (run Z b (arities ctx) rest) li.outcome li.there li.events (omega arith) c.0.leaves_it (λ h1 vs lv st1. region b bc dl rest ctx o k t e q (named (arity r) (Join p) names) c.2 (omega arith) (dark-sub K p q e q dark (omega arith) (omega arith)) h1 (ap length st1 ∙ length-named (arity r) (Join p) names vs h.stack c.0.small lv long)) one)
  region b bc dl (Loop m r body rest) ctx o k t p q names c eq dark h long =
      let off = (dark p (omega arith) (omega arith)).0 in
      let e = p + 1 + size body in
      let d : Dark K (p + 1) e = dark-sub K p q (p + 1) e dark (omega arith) (omega arith) in
      let rb = run Z b (0 ∷ arities ctx) body (at_stack [] h) in
      let inner = region b bc dl body (loop_label p e ∷ ctx) (K (At p)) (Join p) (arity r) (p + 1) e [] c.1 refl d (at_stack [] h) refl in
      let laps =
      again-laps ctx p e (arity r) _ h.store (b.lap (arities ctx) body) rb.outcome rb.there rb.events c.0.enters inner
      (λ off h1 e1. dl off ctx p (arity r) body (K (At p)) c.1 d c.0.enters h1 e1) in
      let la = again rb (b.lap (arities ctx) body) in
      let one = laps-one ctx p e (arity r) (N (At p)) h.stack h.store la.outcome la.there la.events laps in
      let li = leave h.stack la in
      region-after ctx q t k (N (At p)) (N (At p)) h.store h.store _ _ _ _ (keeps-refl (strict w) _ _ h.store (λ x y. y)) (unmarked m p _ c.0.marks off)
      (one-then ctx q e t (arity r) k (Join p) (N (first e rest k)) (N (At p)) h.stack h.store (run Z b (arities ctx) rest) li.outcome li.there li.events (omega arith) c.0.leaves_it (λ h1 vs lv st1. region b bc dl rest ctx o k t e q (named (arity r) (Join p) names) c.2 (omega arith) (dark-sub K p q e q dark (omega arith) (omega arith)) h1 (ap length st1 ∙ length-named (arity r) (Join p) names vs h.stack c.0.small lv long)) one)
  region b bc dl (If m r x y rest) ctx o k t p q names c eq dark h long =
      let off = (dark p (omega arith) (omega arith)).0 in
      let e = p + 1 + size x + size y in
      let f = p + 1 + size x in
      let rx =
      region b bc dl x (block_label p (arity r) e ∷ ctx) (K (At p)) (Join p) (arity r) (p + 1) f [] c.3 refl
      (dark-sub K p q (p + 1) f dark (omega arith) (omega arith)) (at_stack [] h) refl in
      let ry =
      region b bc dl y (block_label p (arity r) e ∷ ctx) (K (At p)) (Join p) (arity r) f e [] c.4 refl (dark-sub K p q f e dark (omega arith) (omega arith))
      (at_stack [] h) refl in
      region-if ctx q t k m (arity r) p e names (first e rest k) h h.stack (run Z b (arity r ∷ arities ctx) x (at_stack [] h))
      (run Z b (arity r ∷ arities ctx) y (at_stack [] h)) (run Z b (arities ctx) rest) c.1.small c.0.enough
      (λ v. unmarked m p (Take (v ∷ []) ∷ []) c.1.marks off) (omega arith) c.1.leaves_it
      (region-longer (block_label p (arity r) e ∷ ctx) f e (arity r) (Join p) _ (N (At p)) h.store (run Z b (arity r ∷ arities ctx) x (at_stack [] h)) (omega arith) c.1.enters rx)
      (region-longer (block_label p (arity r) e ∷ ctx) e e (arity r) (Join p) _ (N (At p)) h.store (run Z b (arity r ∷ arities ctx) y (at_stack [] h)) (omega arith) c.2 ry)
      (λ h1 l1. region b bc dl rest ctx o k t e q (named (arity r) (Join p) (drop 1 names)) c.5 (omega arith) (dark-sub K p q e q dark (omega arith) (omega arith)) h1 l1)
      long
  region b bc dl (Br m l rest) ctx o k t p q names c eq dark h long =
      let off = (dark p (omega arith) (omega arith)).0 in
      let r1 = ends (Branch l) (record { stack = take (carried (arities ctx) l) h.stack; store = h.store }) in
      region-after ctx q t k (N (At p)) (N (At p)) h.store h.store _ r1.outcome r1.there r1.events (keeps-refl (strict w) _ _ h.store (λ x y. y))
      (unmarked m p (Take (reverse (take (carried (arities ctx) l) h.stack)) ∷ []) c.marks off)
      (region-branch ctx q t l p k m names h.stack h.store c off (omega arith) long)
  region b bc dl (BrIf m l rest) ctx o k t p q names c eq dark h long =
      let off = (dark p (omega arith) (omega arith)).0 in
      region-br_if ctx q t k m l p names (first (p + 1) rest k) h h.stack (run Z b (arities ctx) rest)
      (Take (reverse (take (carried (arities ctx) l + 1) h.stack)) ∷ []) c.0.enough c.1 off (omega arith) c.2
      (λ h1 l1. region b bc dl rest ctx o k t (p + 1) q (drop 1 names) c.3 (omega arith) (dark-sub K p q (p + 1) q dark (omega arith) (omega arith)) h1 l1)
      long
  region b bc dl (BrTable m labels other rest) ctx o k t p q names c eq dark h long =
      region-table ctx q t k m labels other p names h h.stack (Take (reverse (take (carried (arities ctx) other + 1) h.stack)) ∷ []) c.0.enough
      (λ l one. (c.1 l one).0) (dark p (omega arith) (omega arith)).0 (omega arith) long
  region b bc dl (Return m rest) ctx o k t p q names c eq dark h long =
      let off = (dark p (omega arith) (omega arith)).0 in
      let r1 = ends (Branch (outermost (arities ctx))) (record { stack = take (carried (arities ctx) (outermost (arities ctx))) h.stack; store = h.store }) in
      region-after ctx q t k (N (At p)) (N (At p)) h.store h.store _ r1.outcome r1.there r1.events (keeps-refl (strict w) _ _ h.store (λ x y. y))
      (unmarked m p (Take (reverse (take (carried (arities ctx) (outermost (arities ctx))) h.stack)) ∷ []) c.marks off)
      (region-branch ctx q t (outermost (arities ctx)) p k m names h.stack h.store c off (omega arith) long)
  region b bc dl (Unreachable m rest) ctx o k t p q names c eq dark h long =
      lost_or (strict w) (λ on. true≢false (sym (c.1 on) ∙ (dark p (omega arith) (omega arith)).0))

  -- laps of a loop with nothing kept, whatever the number
  pub dark-laps : (F : Below → Calls) (n : ℕ) → ((m : ℕ) → m ≤ n → Lawful (below Z F m)) → DarkLaps (below Z F n)
  dark-laps F zero good off ctx p r body o c dark sub h e = lost_or (strict w) (λ on. true≢false (sym on ∙ off))
  dark-laps F (suc n) good off ctx p r body o c dark sub h e =
      let rb = run Z (below Z F n) (0 ∷ arities ctx) body h in
      again-laps ctx p (p + 1 + size body) r _ h.store ((below Z F n).lap (arities ctx) body) rb.outcome rb.there rb.events sub
      (region (below Z F n) (good n (omega arith)) (dark-laps F n (λ m le. good m (omega arith))) body (loop_label p (p + 1 + size body) ∷ ctx) o (Join p) r
      (p + 1) (p + 1 + size body) [] c refl dark h (ap length e))
      (λ off1 h1 e1. dark-laps F n (λ m le. good m (omega arith)) off1 ctx p r body o c dark sub h1 e1)
