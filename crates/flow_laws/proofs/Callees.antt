-- What is known of a call, from what is known of the functions: with an equal index two calls through the table call the same one.
use Rattle.std.proofs.Common.{◌≡◌, ℕ, suc, ◌≤◌, ◌<◌, ◌⊎◌, inl, inr, List, [], ◌∷◌, reverse, Bool, true, false, Option, Some, None, nat_eq, if◌then◌else◌, length, slice_get, refl, sym, ap, ◌∙◌, subst, arith, true≢false}
use Rattle.wasm_types.specs.declared.module.Value.{Value}
use Rattle.wasm_types.specs.declared.module.FuncType.{FuncType}
use Rattle.wasm_types.specs.declared.instr.Instr.{Instr}
use Rattle.wasm_types.specs.Spaces.{type_of_func}
use Rattle.wasm_meaning.specs.State.{State, Store, arg}
use Rattle.wasm_meaning.specs.Stops.{Stop, Stuck}
use Rattle.wasm_types.specs.declared.run.Reason.TheVariants.{WrongType}
use Rattle.wasm_types.specs.declared.place.Loc.{Loc}
use Rattle.wasm_types.specs.declared.place.Loc.TheVariants.{Local, Global, Mem, Size, Host}
use Rattle.flow_domain.specs.Bounds.{Cover, Bounds, bounds, writes, writes_of}
use Rattle.wasm_types.specs.Locations.{is_outer}
use Rattle.wasm_meaning.specs.Effects.{Fixed, same_type, Effect, Answer, Gives, Stops, Calls, Found, Fails, found, found_at, found_by, call_found, perform, do_task, effect}
use Rattle.wasm_types.specs.Actions.{callees, Callee, Own, Through, takes_of, leaves_of}
use Rattle.wasm_meaning.specs.Effects.{Finds}
use Rattle.wasm_meaning.specs.Operations.{number_of}
use Rattle.flow_laws.proofs.Effects.{Does, Comes, stops_give}
use Rattle.flow_domain.specs.Rows.{Output, Done, Rows, RowOf, Target}
use Rattle.flow_laws.specs.Calls.{TableFits, ModuleOk, AgreeOn, SameOn, TwoLaw, DoesLaw, DoneLaw}
use Rattle.flow_laws.proofs.Order.{less_or, arg_below, arg_index, arg_past_all}
use Rattle.flow_laws.proofs.Tasks.{IsCall, info_of, same_kind}

-- a well formed module, and a table that fits it
pub record FixedOk (Z : Fixed) (W : Cover) : Type 0 where
  pub module_ok : ModuleOk (bounds Z.m W)
  pub fits : TableFits Z

pub through : (b : Bool) (o : Answer) (w : Stop) (s : State) (e : Effect) → (if b then o else Stops w s) ≡ Gives e → (b ≡ true) × (o ≡ Gives e)
through true o w s e q = (refl, q)
through false o w s e q = stops_give e q

pub eq_of : (x y : ℕ) → nat_eq x y ≡ true → x ≡ y
eq_of x y e = grind arith

module _ (Z : Fixed) (W : Cover) (ok : FixedOk Z W) (c : Calls) where
  abbrev B : Bounds
  B = bounds Z.m W

  -- a call through the table that goes on: its index and arguments, and the function that it found
  record Held (t : ℕ) (vs : List Value) (st : Store) (e : Effect) : Type 0 where
    pub index : Value
    pub args : List Value
    pub operands : vs ≡ index ∷ args
    pub f : ℕ
    pub target : Target Z.m t f
    pub finds : found Z t (number_of index) ≡ Finds f
    pub does : c f args st ≡ Gives e

  held : (t n : ℕ) (vs : List Value) (st : Store) (e : Effect) → perform Z c (Through t n) vs st ≡ Gives e → Held t vs st e
  held t n [] st e q = stops_give e q
  held t n (i ∷ vs) st e q = by_entry (slice_get Z.table (number_of i)) refl q
    where
      by_kind : (f : ℕ) (T U : FuncType) → slice_get Z.table (number_of i) ≡ Some (Some f) → type_of_func Z.m f ≡ Some T → slice_get Z.m.types t ≡ Some U
          → (b : Bool) → same_type T U ≡ b → call_found c (if b then Finds f else Fails WrongType) vs st ≡ Gives e → Held t (i ∷ vs) st e
      by_kind f T U te fe we false k q = stops_give e q
      by_kind f T U te fe we true k q = record {
        index = i;
        args = vs;
        operands = refl;
        f = f;
        target = record { kind = T; is = fe; named = we ∙ ap Some (sym (same_kind T U k)); stands = ok.fits (number_of i) f te };
        finds =
            ap (found_at (callees Z.m) t) te ∙ ap (λ z. found_by f z (slice_get Z.m.types t)) fe ∙ ap (found_by f (Some T)) we
            ∙ ap (λ z. if z then Finds f else Fails WrongType) k;
        does = q;
      }

      by_types : (f : ℕ) → slice_get Z.table (number_of i) ≡ Some (Some f) → (o : Option FuncType) → type_of_func Z.m f ≡ o → (w : Option FuncType)
          → slice_get Z.m.types t ≡ w → call_found c (found_by f o w) vs st ≡ Gives e → Held t (i ∷ vs) st e
      by_types f te None fe None we q = stops_give e q
      by_types f te None fe (Some U) we q = stops_give e q
      by_types f te (Some T) fe None we q = stops_give e q
      by_types f te (Some T) fe (Some U) we q = by_kind f T U te fe we (same_type T U) refl q

      by_entry : (o : Option (Option ℕ)) → slice_get Z.table (number_of i) ≡ o → call_found c (found_at (callees Z.m) t o) vs st ≡ Gives e
          → Held t (i ∷ vs) st e
      by_entry None te q = stops_give e q
      by_entry (Some None) te q = stops_give e q
      by_entry (Some (Some f)) te q = by_types f te (type_of_func Z.m f) refl (slice_get Z.m.types t) refl q

  off_by : (a b : Bool) → (a ≡ true → b ≡ true) → b ≡ false → a ≡ false
  off_by true b f off = absurd (true≢false (sym (f refl) ∙ off))
  off_by false b f off = refl

  -- a call that goes on has its number of operands
  record Asked (op : Instr) (g : Callee) (n : ℕ) (vs : List Value) (st : Store) (e : Effect) : Type 0 where
    pub long : length vs ≡ n
    pub does : perform Z c g vs st ≡ Gives e

  asked : (op : Instr) (g : Callee) (k : IsCall (callees Z.m) op g) (vs : List Value) (st : Store) (e : Effect) → effect Z c op vs st ≡ Gives e
      → Asked op g k.n vs st e
  asked op g k vs st e q =
      let t = through (nat_eq (length vs) k.n) (perform Z c g vs st) Stuck st.state e (subst (λ z. do_task Z c z vs st ≡ Gives e) k.is q) in
      record { long = eq_of (length vs) k.n t.0; does = t.1 }

  -- the other way round
  if_on : (b : Bool) (o : Answer) (s : State) → b ≡ true → (if b then o else Stops Stuck s) ≡ o
  if_on b o s on = rw on

  nat_on : (x y : ℕ) → x ≡ y → nat_eq x y ≡ true
  nat_on x y e = grind arith

  asks : (op : Instr) (g : Callee) (k : IsCall (callees Z.m) op g) (vs : List Value) (st : Store) → length vs ≡ k.n → effect Z c op vs st ≡ perform Z c g vs st
  asks op g k vs st l = ap (λ z. do_task Z c z vs st) k.is ∙ if_on (nat_eq (length vs) k.n) (perform Z c g vs st) st.state (nat_on (length vs) k.n l)

  target_long : (t f : ℕ) (T : Target Z.m t f) (u : FuncType) → slice_get Z.m.types t ≡ Some u
      → (length T.kind.params ≡ length u.params) × (length T.kind.results ≡ length u.results)
  target_long t f T u e = let k = type_is T.kind u (sym T.named ∙ e) in (ap (λ z. length z.params) k, ap (λ z. length z.results) k)
    where
      get : Option FuncType → FuncType → FuncType
      get None d = d
      get (Some x) d = x

      type_is : (a b : FuncType) → Some a ≡ Some b → a ≡ b
      type_is a b e = ap (λ o. get o a) e

  -- what it does at all
  pub call_does : DoesLaw B c → (op : Instr) (g : Callee) → IsCall (callees Z.m) op g → (vs : List Value) (st : Store) (e : Effect)
      → effect Z c op vs st ≡ Gives e → Does B op vs st e
  call_does law op (Own f) k vs st e q =
      let a = asked op (Own f) k vs st e q in
      let i = info_of (callees Z.m) op (Own f) k in
      let d = law f i.0 i.1 vs st e a.does in
      record { took = a.long ∙ ap takes_of (sym k.is); left = d.left ∙ i.3 ∙ ap leaves_of (sym k.is); frame = λ x off. d.frame x (ap (λ z. writes_of W z x) (sym k.is) ∙ off); turns = d.turns }
  call_does law op (Through t n) k vs st e q =
      let a = asked op (Through t n) k vs st e q in
      let i = info_of (callees Z.m) op (Through t n) k in
      let h = held t n vs st e a.does in
      let d = law h.f h.target.kind h.target.is h.args st e h.does in
      record {
        took = a.long ∙ ap takes_of (sym k.is);
        left = d.left ∙ (target_long t h.f h.target i.0 i.1).1 ∙ i.4 ∙ ap leaves_of (sym k.is);
        frame =
            λ x off. d.frame x
            (off_by (W.writes (Own h.f) x) (W.writes (Through t n) x) (λ on. ok.module_ok.targets t n h.f h.target x on) (ap (λ z. writes_of W z x) (sym k.is) ∙ off));
        turns = d.turns;
      }

  -- what calls write is no local
  pub call_outer : (op : Instr) (g : Callee) → IsCall (callees Z.m) op g → (x : Loc) → writes B op x ≡ true → is_outer x ≡ true
  call_outer op g k x on = ok.module_ok.outer g x (ap (λ z. writes_of W z x) (sym k.is) ∙ on)

  get_found : Found → ℕ → ℕ
  get_found (Finds f) d = f
  get_found (Fails reason) d = d

  same_found : (f f' : ℕ) → Finds f' ≡ Finds f → f' ≡ f
  unfolding get_found
  same_found f f' e = ap (λ w. get_found w f) e

  module _ (R : Rows) where
    -- the rows of the function that was found, below the index
    found_row : (t n f : ℕ) (i i' : Value) (T : Target Z.m t f) (out : Output) (args args' : List Value) → length args ≡ n → length args' ≡ n
        → (st st' : Store) → SameOn (RowOf Z.m R (Through t n) out) (i ∷ args) (i' ∷ args') st st' → SameOn (R f out) args args' st st'
    found_row t n f i i' T out args args' l l' st st' same (Local k) row = go (less_or k n)
      where
        go : (k < n) ⊎ (n ≤ k) → arg (reverse args') k ≡ arg (reverse args) k
        go (inl lt) = sym (arg_below i' args' k (omega arith)) ∙ same (Local k) (inr (f, T, row)) ∙ arg_below i args k (omega arith)
        go (inr le) = arg_past_all args' k (omega arith) ∙ sym (arg_past_all args k (omega arith))
    found_row t n f i i' T out args args' l l' st st' same (Global j) row = same (Global j) (inr (f, T, row))
    found_row t n f i i' T out args args' l l' st st' same Mem row = same Mem (inr (f, T, row))
    found_row t n f i i' T out args args' l l' st st' same Size row = same Size (inr (f, T, row))
    found_row t n f i i' T out args args' l l' st st' same Host row = same Host (inr (f, T, row))

    -- calls through the table that began equal have equal indices
    same_index : (t n : ℕ) (i i' : Value) (out : Output) (args args' : List Value) → length args ≡ n → length args' ≡ n → (st st' : Store)
        → SameOn (RowOf Z.m R (Through t n) out) (i ∷ args) (i' ∷ args') st st' → i' ≡ i
    same_index t n i i' out args args' l l' st st' same = sym (arg_index i' args' n l') ∙ same (Local n) (inl refl) ∙ arg_index i args n l

    -- two calls that go on agree on an output on whose row they began equal
    pub call_two : TwoLaw R Z.m c → (op : Instr) (g : Callee) → IsCall (callees Z.m) op g
        → (out : Output) (vs vs' : List Value) (st st' : Store) (e e' : Effect) → SameOn (RowOf Z.m R g out) vs vs' st st' → effect Z c op vs st ≡ Gives e
        → effect Z c op vs' st' ≡ Gives e' → AgreeOn out e e'
    call_two law op (Own f) k out vs vs' st st' e e' same q q' =
        let a = asked op (Own f) k vs st e q in
        let a' = asked op (Own f) k vs' st' e' q' in
        let i = info_of (callees Z.m) op (Own f) k in
        law f i.0 i.1 out vs vs' (a.long ∙ sym i.2) (a'.long ∙ sym i.2) st st' e e' same a.does a'.does
    call_two law op (Through t n) k out vs vs' st st' e e' same q q' =
        let a = asked op (Through t n) k vs st e q in
        let a' = asked op (Through t n) k vs' st' e' q' in
        let i = info_of (callees Z.m) op (Through t n) k in
        let kn : k.n ≡ suc n = i.3 in
        let h = held t n vs st e a.does in
        let h' = held t n vs' st' e' a'.does in
        let same1 : SameOn (RowOf Z.m R (Through t n) out) (h.index ∷ h.args) (h'.index ∷ h'.args) st st' =
        subst (λ z. SameOn (RowOf Z.m R (Through t n) out) (h.index ∷ h.args) z st st') h'.operands
        (subst (λ z. SameOn (RowOf Z.m R (Through t n) out) z vs' st st') h.operands same) in
        let l : suc (length h.args) ≡ suc n = ap length (sym h.operands) ∙ a.long ∙ kn in
        let l' : suc (length h'.args) ≡ suc n = ap length (sym h'.operands) ∙ a'.long ∙ kn in
        let n0 : length h.args ≡ n = omega arith in
        let n1 : length h'.args ≡ n = omega arith in
        let ie = same_index t n h.index h'.index out h.args h'.args n0 n1 st st' same1 in
        let fe : h'.f ≡ h.f = same_found h.f h'.f (sym h'.finds ∙ ap (λ z. found Z t (number_of z)) ie ∙ h.finds) in
        let p : length h.target.kind.params ≡ n = (target_long t h.f h.target i.0 i.1).0 ∙ i.2 in
        law h.f h.target.kind h.target.is out h.args h'.args (n0 ∙ sym p) (n1 ∙ sym p) st st' e e'
        (found_row t n h.f h.index h'.index h.target out h.args h'.args n0 n1 st st' same1) h.does (subst (λ z. c z h'.args st' ≡ Gives e') fe h'.does)

    -- a call that goes on does so from a start that is equal on its row for Done
    pub call_done : DoneLaw R Z.m c → (op : Instr) (g : Callee) → IsCall (callees Z.m) op g → (vs vs' : List Value) (st st' : Store) (e : Effect)
        → length vs' ≡ length vs → SameOn (RowOf Z.m R g Done) vs vs' st st' → effect Z c op vs st ≡ Gives e → Comes Z c op vs' st st' e
    call_done law op (Own f) k vs vs' st st' e ll same q =
        let a = asked op (Own f) k vs st e q in
        let i = info_of (callees Z.m) op (Own f) k in
        let lv = a.long ∙ sym i.2 in
        let cm = law f i.0 i.1 vs vs' lv (ll ∙ lv) st st' e same a.does in
        record { other = cm.other; is = asks op (Own f) k vs' st' (ll ∙ a.long) ∙ cm.is; turns = cm.turns }
    call_done law op (Through t n) k vs vs' st st' e ll same q =
        let a = asked op (Through t n) k vs st e q in
        let i = info_of (callees Z.m) op (Through t n) k in
        let kn : k.n ≡ suc n = i.3 in
        let h = held t n vs st e a.does in
        go (a.long ∙ kn) i h vs' ll (ll ∙ a.long) (subst (λ z. SameOn (RowOf Z.m R (Through t n) Done) z vs' st st') h.operands same)
      where
        go : length vs ≡ suc n
            → (i : (u : FuncType) × (slice_get Z.m.types t ≡ Some u) × (length u.params ≡ n) × (k.n ≡ suc n) × (length u.results ≡ k.r)) (h : Held t vs st e)
            (vs1 : List Value)
            → length vs1 ≡ length vs → length vs1 ≡ k.n → SameOn (RowOf Z.m R (Through t n) Done) (h.index ∷ h.args) vs1 st st' → Comes Z c op vs1 st st' e
        go lv i h [] l1 l2 same1 = absurd (omega arith)
        go lv i h (j ∷ args) l1 l2 same1 =
            let l : suc (length h.args) ≡ length vs = ap length (sym h.operands) in
            let n0 : length h.args ≡ n = omega arith in
            let n1 : length args ≡ n = omega arith in
            let ie = same_index t n h.index j Done h.args args n0 n1 st st' same1 in
            let p : length h.target.kind.params ≡ n = (target_long t h.f h.target i.0 i.1).0 ∙ i.2 in
            let cm =
            law h.f h.target.kind h.target.is h.args args (n0 ∙ sym p) (n1 ∙ sym p) st st' e
            (found_row t n h.f h.index j h.target Done h.args args n0 n1 st st' same1) h.does in
            record {
              other = cm.other;
              is = asks op (Through t n) k (j ∷ args) st' l2 ∙ ap (λ z. call_found c z args st') (ap (λ z. found Z t (number_of z)) ie ∙ h.finds) ∙ cm.is;
              turns = cm.turns;
            }
