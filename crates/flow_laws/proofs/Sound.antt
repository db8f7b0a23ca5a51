-- The rows of any round hold what they lead to, so the table is sound.
use Rattle.wasm_types.specs.Spaces.{mems_of}
use Rattle.wasm_meaning.specs.Memory.{most_of}
use Rattle.std.proofs.Common.{◌≡◌, ℕ, zero, suc, ◌+◌, ◌≤◌, inl, inr, List, [], ◌∷◌, All, IfSome, None, Bool, true, false, Option, Some, slice_get, refl, sym, ap, ap₂, ◌∙◌, subst, arith}
use Rattle.std.proofs.lemmas.List.Elements.{All-get_or}
use Rattle.std.proofs.lemmas.Option.{get_or_from_slice_get, slice_get_within}
use Rattle.wasm_types.specs.declared.module.Value.{Value}
use Rattle.wasm_types.specs.declared.module.Module.{Module}
use Rattle.wasm_types.specs.Sites.{Sites, EndAt}
use Rattle.flow_laws.proofs.Callees.{FixedOk}
use Rattle.flow_laws.proofs.Classical.{NN, agree_stable, done_laws, nat_stable, nn_tests, two_laws}
use Rattle.flow_laws.proofs.Laws.{Returned, done_from, input_or, one_from, ran}
use Rattle.wasm_meaning.proofs.Longer.{longer_budget}
use Rattle.wasm_meaning.specs.Longer.{Lives}
use Rattle.flow_laws.proofs.Starts.{own_no_host, entry_past, entry_same, some_func}
use Rattle.wasm_types.specs.Labels.{first}
use Rattle.flow_laws.specs.Soundness.{AgreeAt, DifferOnly, Omits, entry}
use Rattle.flow_laws.proofs.Ends.{RowsEnd, DoneEnd, OwnEnds, own_run}
use Rattle.wasm_types.specs.declared.place.Node.TheVariants.{Exit}
use Rattle.flow_laws.specs.Calls.{AgreeOn, TableFits}
use Rattle.flow_domain.specs.Rows.{AnyRound, CallRows, Dep, Done, Final, Holds, IsInput, Item, Led, LedTo, Needed, Output, Ret, RowOf, Rows, argument, by_code, by_host, carrying, condition, deciding, deciding_again, done_branch, done_trap, done_unreachable, ending, final, func_ends, func_sites, operand, place, reading, result, writer}
use Rattle.wasm_types.specs.Funcs.{text, Func, func_of, unwatched}
use Rattle.wasm_meaning.proofs.ActionLaws.{gives_is}
use Rattle.flow_laws.proofs.Effects.{stops_give}
use Rattle.wasm_meaning.specs.Effects.{Effect, Fixed, Gives, fixed}
use Rattle.wasm_types.specs.Actions.{Callee, Own, Through}
use Rattle.wasm_meaning.specs.Fits.{Fits}
use Rattle.wasm_types.specs.Hosts.{MayStand, HostFunc}
use Rattle.flow_laws.proofs.Following.{IsReturn}
use Rattle.wasm_meaning.specs.Invoke.{calls, entered, returned}
use Rattle.flow_domain.specs.Bounds.{Bounds, Cover, bounds}
use Rattle.wasm_meaning.specs.Equality.{EqAt}
use Rattle.wasm_types.specs.declared.place.Loc.{Loc}
use Rattle.wasm_meaning.specs.Run.{Branch, Here, Normal, Outcome, Run, Stopped, below, run}
use Rattle.wasm_meaning.specs.State.{State, Store}

-- greater rows lead to more
abbrev pub Within : Rows → Rows → Type 0
Within R Q = (g : ℕ) (o : Output) (x : Loc) → R g o x → Q g o x

-- greater rows of functions are greater rows of callees
abbrev pub CallsWithin : CallRows → CallRows → Type 0
CallsWithin R Q = (g : Callee) (o : Output) (x : Loc) → R g o x → Q g o x

callees-more : (m : Module) (R Q : Rows) → Within R Q → CallsWithin (RowOf m R) (RowOf m Q)
callees-more m R Q w (Own f) o x row = w f o x row
callees-more m R Q w (Through t n) o x (inl i) = inl i
callees-more m R Q w (Through t n) o x (inr row) = inr (row.0, row.1, w row.0 o x row.2)

led-more : (B : Bounds) (R Q : CallRows) (S : Sites) (E : List EndAt) (o : Output) (i : Item) → CallsWithin R Q → Led B R S E o i → Led B Q S E o i
led-more B R Q S E o i w (result e) = result e
led-more B R Q S E o i w (final e) = final e
led-more B R Q S E o i w (done_branch l s e is br lp) = done_branch l s e is br lp
led-more B R Q S E o i w (done_trap op s e is hd m) = done_trap op s e is hd m
led-more B R Q S E o i w (done_unreachable s e is hd) = done_unreachable s e is hd
led-more B R Q S E o i w (writer a led wr path) = writer a (led-more B R Q S E o _ w led) wr path
led-more B R Q S E o i w (operand p k out s op led is hd c nd g) = operand p k out s op (led-more B R Q S E o _ w led) is hd c nd g
led-more B R Q S E o i w (reading out s op led is hd nd) = reading out s op (led-more B R Q S E o _ w led) is hd nd
led-more B R Q S E o i w (argument p k g out s op led is hd c row e) = argument p k g out s op (led-more B R Q S E o _ w led) is hd c (w g out _ row) e
led-more B R Q S E o i w (place {x = x} g out s op led is hd c row on) = place g out s op (led-more B R Q S E o _ w led) is hd c (w g out x row) on
led-more B R Q S E o i w (carrying p l k s led is br g) = carrying p l k s (led-more B R Q S E o _ w led) is br g
led-more B R Q S E o i w (ending e k led a g) = ending e k (led-more B R Q S E o _ w led) a g
led-more B R Q S E o i w (deciding n out led sh) = deciding n out (led-more B R Q S E o _ w led) sh
led-more B R Q S E o i w (deciding_again q led sh) = deciding_again q (led-more B R Q S E o _ w led) sh
led-more B R Q S E o i w (condition p k s led is g) = condition p k s (led-more B R Q S E o _ w led) is g

ledto-more : (B : Bounds) (R Q : Rows) (f : ℕ) (o : Output) (x : Loc) → Within R Q → LedTo R B f o x → LedTo Q B f o x
ledto-more B R Q f o x w (by_code F is needed input) =
    by_code F is
    (record { at = needed.at; enters = needed.enters; led = led-more B (RowOf B.m R) (RowOf B.m Q) (func_sites B F) (func_ends B F) o _ (callees-more B.m R Q w) needed.led })
    input
ledto-more B R Q f o x w (by_host row) = by_host row

round-more : (B : Bounds) (n : ℕ) → Within (Dep B n) (Dep B (suc n))
round-more B zero f o x h = ledto-more B _ _ f o x (λ g out inp r. by_host r) h
round-more B (suc n) f o x h = ledto-more B _ _ f o x (round-more B n) h

rounds-more : (B : Bounds) (k n : ℕ) → Within (Dep B n) (Dep B (k + n))
rounds-more B zero n g o j h = let e : n ≡ 0 + n = omega arith in subst (λ z. Dep B z g o j) e h
rounds-more B (suc k) n g o j h =
    let e : suc (k + n) ≡ suc k + n = omega arith in subst (λ z. Dep B z g o j) e (round-more B (k + n) g o j (rounds-more B k n g o j h))

up-to : (B : Bounds) (m n : ℕ) → n ≤ m → Within (Dep B n) (Dep B m)
up-to B m n le g o j h = let a = split m n le in subst (λ z. Dep B z g o j) a.1 (rounds-more B a.0 n g o j h)
  where
    split : (m n : ℕ) → n ≤ m → (k : ℕ) × (k + n ≡ m)
    split m zero le = (m, omega arith)
    split zero (suc n) le = absurd (omega arith)
    split (suc m) (suc n) le = let a = split m n (omega arith) in (a.0, omega (arith, a.1))

module _ (B : Bounds) (S : Sites) (E : List EndAt) (o : Output) where
  abbrev One : Item → Type 0
  One i = (n : ℕ) × Led B (RowOf B.m (Dep B n)) S E o i

  -- a step that calls nothing
  lift : (i j : Item) → ((n : ℕ) → Led B (RowOf B.m (Dep B n)) S E o i → Led B (RowOf B.m (Dep B n)) S E o j) → One i → One j
  lift i j f a = (a.0, f a.0 a.1)

  up : (m n : ℕ) (i : Item) → n ≤ m → Led B (RowOf B.m (Dep B n)) S E o i → Led B (RowOf B.m (Dep B m)) S E o i
  up m n i le led = led-more B _ _ S E o i (callees-more B.m (Dep B n) (Dep B m) (up-to B m n le)) led

  -- an input of a callee's rows of any round is one of its rows of one round
  round_of : (g : Callee) (out : Output) (x : Loc) → RowOf B.m (AnyRound B) g out x → (n : ℕ) × RowOf B.m (Dep B n) g out x
  round_of (Own f) out x row = row
  round_of (Through t n) out x (inl i) = (0, inl i)
  round_of (Through t n) out x (inr row) = (row.2.0, inr (row.0, row.1, row.2.1))

  -- what is led to by the rows of any round is led to in one round
  one-round : (i : Item) → Led B (RowOf B.m (AnyRound B)) S E o i → One i
  one-round i (result e) = (0, result e)
  one-round i (final e) = (0, final e)
  one-round i (done_branch l s e is br lp) = (0, done_branch l s e is br lp)
  one-round i (done_trap op s e is hd m) = (0, done_trap op s e is hd m)
  one-round i (done_unreachable s e is hd) = (0, done_unreachable s e is hd)
  one-round i (writer a led wr path) = lift _ i (λ n z. writer a z wr path) (one-round _ led)
  one-round i (operand p k out s op led is hd c nd g) = lift _ i (λ n z. operand p k out s op z is hd c nd g) (one-round _ led)
  one-round i (reading out s op led is hd nd) = lift _ i (λ n z. reading out s op z is hd nd) (one-round _ led)
  one-round i (argument p k g out s op led is hd c row e) =
      let a = one-round _ led in let r = round_of g out _ row in let m = a.0 + r.0 in
      (m, argument p k g out s op (up m a.0 _ (omega arith) a.1) is hd c (callees-more B.m (Dep B r.0) (Dep B m) (up-to B m r.0 (omega arith)) g out _ r.1) e)
  one-round i (place {x = x} g out s op led is hd c row on) =
      let a = one-round _ led in let r = round_of g out x row in let m = a.0 + r.0 in
      (m, place g out s op (up m a.0 _ (omega arith) a.1) is hd c (callees-more B.m (Dep B r.0) (Dep B m) (up-to B m r.0 (omega arith)) g out x r.1) on)
  one-round i (carrying p l k s led is br g) = lift _ i (λ n z. carrying p l k s z is br g) (one-round _ led)
  one-round i (ending e k led a g) = lift _ i (λ n z. ending e k z a g) (one-round _ led)
  one-round i (deciding n out led sh) = lift _ i (λ m z. deciding n out z sh) (one-round _ led)
  one-round i (deciding_again q led sh) = lift _ i (λ n z. deciding_again q z sh) (one-round _ led)
  one-round i (condition p k s led is g) = lift _ i (λ n z. condition p k s z is g) (one-round _ led)

pub any_round_holds : (B : Bounds) → Holds B (AnyRound B)
any_round_holds B f o x (by_code F is needed input) =
    let a = one-round B (func_sites B F) (func_ends B F) o _ needed.led in
    (suc a.0, by_code F is (record { at = needed.at; enters = needed.enters; led = a.1 }) input)
any_round_holds B f o x (by_host row) = (0, by_host row)

same_func : (m : Module) (f : ℕ) (F F1 : Func) → func_of m f ≡ Some F → func_of m f ≡ Some F1 → F1 ≡ F
same_func m f F F1 is is1 = some_func F1 F (sym is1 ∙ is)

host_absurd : {A : Type 0} (H : HostFunc) → None ≡ Some H → A
host_absurd H e = absurd (grind arith)

led_input : (B : Bounds) (R : Rows) (f : ℕ) (F : Func) (o : Output) (x : Loc) → func_of B.m f ≡ Some F → LedTo R B f o x → IsInput F.params x
led_input B R f F o x is (by_code F1 is1 needed input) = subst (λ z. IsInput z.params x) (same_func B.m f F F1 is is1) input
led_input B R f F o x is (by_host row) = host_absurd row.0 (sym (own_no_host B.m f F is) ∙ row.1)

input_of : (B : Bounds) (n f : ℕ) (F : Func) (o : Output) (x : Loc) → func_of B.m f ≡ Some F → Dep B n f o x → IsInput F.params x
input_of B zero f F o x is h = led_input B _ f F o x is h
input_of B (suc n) f F o x is h = led_input B _ f F o x is h

-- each entry of the table of a state that fits may stand there
all-at : {A : Type 0} (P : A → Type 0) (xs : List A) (i : ℕ) (x : A) → All P xs → slice_get xs i ≡ Some x → P x
all-at P xs i x h e = subst P (get_or_from_slice_get xs i x x e) (All-get_or P xs i x (slice_get_within xs i x e) h)

pub table_fits : (m : Module) (s : State) → Fits m s → TableFits (fixed m s)
table_fits m s ft i f e = all-at (λ (entry : Option ℕ). IfSome entry (MayStand m)) s.table i (Some f) ft.table e

-- the starts' tables and caps are equal, so what stays fixed is equal. Nothing else speaks of two tables
same_fixed : (m : Module) (s s' : State) → s'.table ≡ s.table → s'.cap ≡ s.cap → fixed m s' ≡ fixed m s
same_fixed m s s' t c = ap₂ {A = List (Option ℕ)} {B = ℕ} (λ x y. record { m = m; table = x; cap = most_of (mems_of m) y }) t c

-- the first store of an with the locals behind its arguments
abbrev first_store : Func → List Value → State → Store
first_store F args s = (entered F args s).store

-- two starts that differ in what no round leads the output to are equal where something is needed
needed_same : (Z : Fixed) (m : Module) (W : Cover) → FixedOk Z W → (f : ℕ) (F : Func) (o : Output) (J : Loc → Bool) (args args' : List Value) (s s' : State)
    → func_of m f ≡ Some F → Omits (bounds m W) f o J → DifferOnly m F J args args' s s' → (x : Loc)
    → Needed (bounds m W) (RowOf m (AnyRound (bounds m W))) (func_sites (bounds m W) F) (func_ends (bounds m W) F) o (first 0 (text F) Exit) x
    → EqAt x (first_store F args s) (first_store F args' s')
needed_same Z m W fok f F o J args args' s s' is omitted d x nd =
    input_or Z W fok F.params x
    (λ i. entry_same F x args args' s s' (d.long' ∙ sym d.long) (by (J x) refl (any_round_holds (bounds m W) f o x (by_code F is nd i))))
    (λ k e le. subst (λ z. EqAt z (first_store F args s) (first_store F args' s')) (sym e) (entry_past F k args args' s s' (d.long' ∙ sym d.long) (let l = d.long in omega arith)))
  where
    by : (b : Bool) → J x ≡ b → AnyRound (bounds m W) f o x → EqAt x (entry args s) (entry args' s')
    by true on row = absurd (omitted x on row.0 row.1)
    by false off row = d.equal x (input_of (bounds m W) row.0 f F o x is row.1) off

-- the end of a call that an invocation's end is like
abbrev end_of : Run → Store → Effect
end_of r st = record { results = r.there.stack; store = record st { state = r.there.store.state } }

gives_end : (o : Outcome) (h : Here) (st : Store) → IsReturn o
    → returned o st h ≡ Gives (record { results = h.stack; store = record st { state = h.store.state } })
gives_end Normal h st r = refl
gives_end (Branch zero) h st r = refl
gives_end (Branch (suc l)) h st r = absurd r
gives_end (Stopped why) h st r = absurd r

return_lives : (o : Outcome) → IsReturn o → Lives o
return_lives Normal r = tt
return_lives (Branch l) r = tt
return_lives (Stopped why) r = absurd r

gives_return : (o : Outcome) (h : Here) (st : Store) (e : Effect) → returned o st h ≡ Gives e → IsReturn o
gives_return Normal h st e q = tt
gives_return (Branch zero) h st e q = tt
gives_return (Branch (suc l)) h st e q = stops_give e q
gives_return (Stopped why) h st e q = stops_give e q

-- an end of function F, whose number is f
record EndOf (m : Module) (F : Func) (args : List Value) (s : State) (depth : ℕ) (results : List Value) (last : State) : Type 0 where
  pub returns : IsReturn (own_run m depth unwatched F args s).outcome
  pub gives : (own_run m depth unwatched F args s).there.stack ≡ results
  pub ends : (own_run m depth unwatched F args s).there.store.state ≡ last

of_ends : (m : Module) (f : ℕ) (F : Func) (args : List Value) (s : State) (d : ℕ) (results : List Value) (last : State) → func_of m f ≡ Some F
    → OwnEnds m f args s d results last → EndOf m F args s d results last
of_ends m f F args s d results last is e =
    subst (λ z. EndOf m z args s d results last) (same_func m f F e.func is e.is) (record { returns = e.returns; gives = e.gives; ends = e.ends })

-- with more turns the end is the same
more_end : (m : Module) (F : Func) (args : List Value) (s : State) (d k : ℕ) → d ≤ k → IsReturn (own_run m d unwatched F args s).outcome
    → own_run m k unwatched F args s ≡ own_run m d unwatched F args s
more_end m F args s d k le r =
    longer_budget.run_stays (fixed m s) d k le (F.results ∷ []) (text F) (entered F args s) (return_lives (own_run m d unwatched F args s).outcome r)

agree_at : (o : Output) (r r' : Run) (s s' : State) (results results' : List Value) (last last' : State) → r.there.stack ≡ results
    → r.there.store.state ≡ last → r'.there.stack ≡ results' → r'.there.store.state ≡ last' → AgreeOn o (end_of r (entry [] s)) (end_of r' (entry [] s'))
    → AgreeAt o results results' last last'
agree_at Ret r r' s s' results results' last last' g e g' e' a = sym g' ∙ a ∙ g
agree_at (Final x) r r' s s' results results' last last' g e g' e' a =
    λ on. subst (λ z. EqAt x (entry [] z) (entry [] last')) e (subst (λ z. EqAt x (entry [] r.there.store.state) (entry [] z)) e' (a on))
agree_at Done r r' s s' results results' last last' g e g' e' a = tt

pub rows_end : RowsEnd
rows_end m W ok f F is o J omitted args args' s s' d n n' results results' last last' en en' =
    let Z = fixed m s in
    let k = n + n' in
    let fok : FixedOk Z W = record { module_ok = ok; fits = table_fits m s d.fits } in
    let R = AnyRound (bounds m W) in
    let a = of_ends m f F args s n results last is en in
    let a' = of_ends m f F args' s' n' results' last' is en' in
    let r = own_run m n unwatched F args s in
    let r' = own_run m n' unwatched F args' s' in
    let up : ran Z W fok k F (first_store F args s) ≡ r = more_end m F args s n k (omega arith) a.returns in
    let up' : ran Z W fok k F (first_store F args' s') ≡ r' =
    ap (λ z. run z (below z (calls z) k) (F.results ∷ []) (text F) (entered F args' s')) (sym (same_fixed m s s' d.table d.cap))
    ∙ more_end m F args' s' n' k (omega arith) a'.returns in
    let q : returned (ran Z W fok k F (first_store F args s)).outcome (entry [] s) (ran Z W fok k F (first_store F args s)).there ≡ Gives
    (end_of r (entry [] s)) =
    ap (λ z. returned z.outcome (entry [] s) z.there) up ∙ gives_end r.outcome r.there (entry [] s) a.returns in
    let q' : returned (ran Z W fok k F (first_store F args' s')).outcome (entry [] s') (ran Z W fok k F (first_store F args' s')).there ≡ Gives
    (end_of r' (entry [] s')) =
    ap (λ z. returned z.outcome (entry [] s') z.there) up' ∙ gives_end r'.outcome r'.there (entry [] s') a'.returns in
    agree_at o r r' s s' results results' last last' a.gives a.ends a'.gives a'.ends
    (agree_stable o (end_of r (entry [] s)) (end_of r' (entry [] s')) (λ no. nn_tests Z W fok R F o (λ t. no (one_from Z W fok R (any_round_holds (bounds m W)) k (λ j le. two_laws Z W fok R (any_round_holds (bounds m W)) k j le) f F is o t (first_store F args s) (first_store F args' s') (λ x nd. needed_same Z m W fok f F o J args args' s s' is omitted d x nd) (entry [] s) (entry [] s') (end_of r (entry [] s)) (end_of r' (entry [] s')) q q'))))

-- the other invocation returns
record EndsBy (m : Module) (F : Func) (args : List Value) (s : State) (depth : ℕ) (before after : State) : Type 0 where
  pub returns : IsReturn (own_run m depth unwatched F args s).outcome
  pub turns : (own_run m depth unwatched F args s).there.store.state.turns + before.turns ≡ after.turns + s.turns

ends_stable : (m : Module) (F : Func) (args : List Value) (s : State) (d : ℕ) (before after : State) → NN (EndsBy m F args s d before after)
    → EndsBy m F args s d before after
ends_stable m F args s d before after n =
    record { returns = go (own_run m d unwatched F args s).outcome (λ f. n (λ e. f e.returns)); turns = nat_stable _ _ (λ f. n (λ e. f e.turns)) }
  where
    go : (o : Outcome) → NN (IsReturn o) → IsReturn o
    go Normal n = tt
    go (Branch zero) n = tt
    go (Branch (suc l)) n = absurd (n (λ z. z))
    go (Stopped why) n = absurd (n (λ z. z))

pub done_end : DoneEnd
done_end m W ok f F is J omitted args args' s s' d n results last en =
    let b = ends_stable m F args' s' n s last nn in
    record { results = _; final = _; returns = record { func = F; is = is; returns = b.returns; gives = refl; ends = refl }; turns = b.turns }
  where
    Z : Fixed
    Z = fixed m s

    fok : FixedOk Z W
    fok = record { module_ok = ok; fits = table_fits m s d.fits }

    R : Rows
    R = AnyRound (bounds m W)

    a : EndOf m F args s n results last
    a = of_ends m f F args s n results last is en

    r : Run
    r = own_run m n unwatched F args s

    r' : Run
    r' = own_run m n unwatched F args' s'

    same_r : ran Z W fok n F (first_store F args' s') ≡ r'
    same_r = ap (λ z. run z (below z (calls z) n) (F.results ∷ []) (text F) (entered F args' s')) (sym (same_fixed m s s' d.table d.cap))

    from_returned : Returned Z W fok (ran Z W fok n F (first_store F args' s')).outcome (ran Z W fok n F (first_store F args' s')).there (entry [] s)
        (entry [] s') (end_of r (entry [] s))
        → EndsBy m F args' s' n s last
    from_returned w =
        let x : returned r'.outcome (entry [] s') r'.there ≡ Gives w.other =
        subst (λ z. returned z.outcome (entry [] s') z.there ≡ Gives w.other) same_r w.is in
        let ret = gives_return r'.outcome r'.there (entry [] s') w.other x in
        let y : end_of r' (entry [] s') ≡ w.other = gives_is _ w.other (sym (gives_end r'.outcome r'.there (entry [] s') ret) ∙ x) in
        let t : r'.there.store.state.turns ≡ w.other.store.state.turns = ap (λ z. z.store.state.turns) y in
        let u : r.there.store.state.turns ≡ last.turns = ap (λ z. z.turns) a.ends in
        let v = w.turns in
        record { returns = ret; turns = omega arith }

    nn : NN (EndsBy m F args' s' n s last)
    nn bad =
        nn_tests Z W fok R F Done
        (λ t. bad
        (from_returned (done_from Z W fok R (any_round_holds (bounds m W)) n (λ j le. two_laws Z W fok R (any_round_holds (bounds m W)) n j le) (λ j le. done_laws Z W fok R (any_round_holds (bounds m W)) n j le) f F is t (first_store F args s) (first_store F args' s') (λ x nd. needed_same Z m W fok f F Done J args args' s s' is omitted d x nd) (entry [] s) (entry [] s') (omega arith) (end_of r (entry [] s)) (gives_end r.outcome r.there (entry [] s) a.returns))))
