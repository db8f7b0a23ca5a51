-- The laws of a module's calls, by the number that is left.
use Rattle.std.proofs.Common.{◌≡◌, ℕ, zero, suc, ◌+◌, ◌≤◌, ◌<◌, ◌⊎◌, inl, inr, List, [], ◌∷◌, Bool, true, false, Option, Some, None, length, refl, sym, ap, ◌∙◌, subst, arith, true≢false}
use Rattle.wasm_types.specs.declared.module.Value.{Value}
use Rattle.wasm_types.specs.declared.instr.Instr.{Instr}
use Rattle.flow_laws.proofs.Bridge.{Facts, among_end, among_left, among_right, closed_of, has_all}
use Rattle.flow_laws.proofs.Callees.{FixedOk}
use Rattle.flow_laws.proofs.Closed.{Agrees, Closed, Completes, Mode, Skip}
use Rattle.flow_laws.proofs.Module.{Apt, Good, Sets, facts, makes_it, op_does}
use Rattle.flow_laws.proofs.Region.{Region, dark-laps, mk, region}
use Rattle.flow_laws.proofs.Silent.{silent_text}
use Rattle.flow_laws.proofs.Starts.{own_calls, host_type, start, start_same, start_past, has_type}
use Rattle.flow_domain.specs.Heights.{Shaped}
use Rattle.flow_laws.proofs.Two.{Two, lap_two, never_back, two}
use Rattle.wasm_types.specs.Labels.{body_label, first}
use Rattle.wasm_types.specs.Nodes.{every}
use Rattle.wasm_types.specs.declared.place.Node.TheVariants.{Exit}
use Rattle.wasm_types.specs.declared.place.Node.{Node}
use Rattle.flow_laws.specs.Calls.{AgreeOn, CallComes, CallDoes, DoesLaw, DoneLaw, OpOk, SameOn, TwoLaw}
use Rattle.flow_domain.specs.Rows.{Done, Final, Holds, IsInput, Needed, Output, Ret, RowOf, Rows, by_code, final, func_ends, func_sites, result}
use Rattle.wasm_types.specs.Reaching.{stands}
use Rattle.wasm_types.specs.Funcs.{text, Func, func_of}
use Rattle.wasm_types.specs.Sites.{EndAt, Sites, end_names, inner_ends, one_end}
use Rattle.wasm_meaning.proofs.ActionLaws.{gives_is}
use Rattle.flow_laws.proofs.Effects.{stops_give}
use Rattle.wasm_types.specs.Actions.{Own, callees}
use Rattle.wasm_meaning.specs.Effects.{Calls, Effect, Fixed, Gives, Stops}
use Rattle.wasm_types.specs.Hosts.{HostFunc, host_of, host_writes}
use Rattle.flow_laws.proofs.Imports.{host_does}
use Rattle.wasm_meaning.specs.Invoke.{call_by, call_own, calls, returned}
use Rattle.flow_domain.specs.Bounds.{Bounds, Cover, bounds}
use Rattle.wasm_meaning.specs.Equality.{EqAt}
use Rattle.wasm_types.specs.declared.place.Loc.TheVariants.{Global, Host, Local, Mem, Size}
use Rattle.wasm_types.specs.declared.place.Loc.{Loc}
use Rattle.wasm_types.specs.Locations.{is_outer}
use Rattle.wasm_meaning.specs.Run.{turned, Below, Branch, Here, Normal, Outcome, Run, Stopped, below, run}
use Rattle.wasm_types.specs.declared.run.Event.{Event}
use Rattle.wasm_meaning.specs.State.{Store}
use Rattle.wasm_meaning.specs.Stops.{Spent}
use Rattle.wasm_types.specs.Marked.{size}

abbrev none : Node → Bool
none d = false

-- a whole body
pub whole : (Z : Fixed) (W : Cover) (G : Calls → Type 0) (w : Mode) (X : Instr → Type 0) (F : Func) (K M : Node → Bool) (N : Node → Loc → Type 0)
    → Facts Z W G w (func_sites (bounds Z.m W) F) (func_ends (bounds Z.m W) F) X K M N → Shaped (callees Z.m) X (F.results ∷ []) F.results (text F) 0
    → Closed Z W G w K M every N (body_label F.results (size (text F)) ∷ []) true Exit F.results (text F) 0 []
whole Z W G w X F K M N fa ty =
    closed_of Z W G w (func_sites (bounds Z.m W) F) (func_ends (bounds Z.m W) F) X K M N fa (text F) (body_label F.results (size (text F)) ∷ []) Exit
    F.results 0 [] (has_all [] (func_sites (bounds Z.m W) F) 0 refl) ty (silent_text F.code 0) (omega arith, tt)
    (λ ns e long on. fa.live_ends _ (among_left (one_end Exit F.results (end_names (callees Z.m) (text F) 0 [])) (inner_ends (callees Z.m) (text F) 0 []) _ (among_end Exit F.results ns (end_names (callees Z.m) (text F) 0 []) e)) (omega arith) on)
    (λ z a. among_right (one_end Exit F.results (end_names (callees Z.m) (text F) 0 [])) (inner_ends (callees Z.m) (text F) 0 []) z a) true

up_or_here : (m n : ℕ) → m ≤ suc n → (m ≤ n) ⊎ (m ≡ suc n)
up_or_here zero n le = inl (omega arith)
up_or_here (suc m) zero le = inr (omega arith)
up_or_here (suc m) (suc n) le = step (up_or_here m n (omega arith))
  where
    step : (m ≤ n) ⊎ (m ≡ suc n) → (suc m ≤ suc n) ⊎ (suc m ≡ suc (suc n))
    step (inl a) = inl (omega arith)
    step (inr a) = inr (omega arith)

-- by all smaller numbers, for laws of calls: with none left nothing returns
pub by_number : (Z : Fixed) (Q : Calls → Type 0) → Q (λ f vs s. Stops Spent s.state)
    → ((n : ℕ) → ((m : ℕ) → m ≤ n → Q (below Z (calls Z) m).call) → Q (calls Z (below Z (calls Z) n))) → (n m : ℕ) → m ≤ n → Q (below Z (calls Z) m).call
by_number Z Q base step zero m le = let e : zero ≡ m = omega arith in subst (λ z. Q (below Z (calls Z) z).call) e base
by_number Z Q base step (suc n) m le = go (λ i li. by_number Z Q base step n i li) (up_or_here m n le)
  where
    go : ((i : ℕ) → i ≤ n → Q (below Z (calls Z) i).call) → (m ≤ n) ⊎ (m ≡ suc n) → Q (below Z (calls Z) m).call
    go ih (inl a) = ih m a
    go ih (inr a) = subst (λ z. Q (below Z (calls Z) z).call) (sym a) (step n ih)

frame-call : (F : Func) (x : Loc) (vs : List Value) (st s1 : Store) → (is_outer x ≡ true → EqAt x (start F vs st) s1)
    → EqAt x st (record st { state = s1.state })
frame-call F (Local k) vs st s1 e = refl
frame-call F (Global g) vs st s1 e = e refl
frame-call F Mem vs st s1 e = e refl
frame-call F Size vs st s1 e = e refl
frame-call F Host vs st s1 e = e refl

-- a call's end, read off its body's
pub record CallEnd (o : Outcome) (st : Store) (h : Here) (e : Effect) : Type 0 where
  pub is : record { results = h.stack; store = record st { state = h.store.state } } ≡ e

call_end : (o : Outcome) (st : Store) (h : Here) (e : Effect) → returned o st h ≡ Gives e → CallEnd o st h e
call_end Normal st h e q = record { is = gives_is _ e q }
call_end (Branch zero) st h e q = record { is = gives_is _ e q }
call_end (Branch (suc l)) st h e q = stops_give e q
call_end (Stopped why) st h e q = stops_give e q

off_by : (a b : Bool) → (a ≡ true → b ≡ true) → b ≡ false → a ≡ false
off_by true b f off = absurd (true≢false (sym (f refl) ∙ off))
off_by false b f off = refl

module _ (Z : Fixed) (W : Cover) (ok : FixedOk Z W) where
  abbrev B : Bounds
  B = bounds Z.m W

  -- where nothing is kept, all that is not written is needed
  abbrev N0 : ℕ → Node → Loc → Type 0
  N0 f a x = (is_outer x ≡ true) × (W.writes (Own f) x ≡ false)

  quiet : (f : ℕ) (S : Sites) (ends : List EndAt) → Facts Z W (DoesLaw B) Agrees S ends (OpOk B f) none none (N0 f)
  quiet f S ends = record {
    do_ok = λ p s op is hd w enough few. record {
      does = λ c g vs st e q. op_does Z W ok c g op vs st e q;
      few = few;
      enough = enough;
      marks = λ on. absurd (true≢false (sym on));
      watched = λ on. absurd (true≢false (sym on));
      shows = λ on. absurd (true≢false (sym on));
      total = λ on. absurd (true≢false (sym on));
      comes = λ on. absurd (true≢false (sym on));
      agree = λ on. absurd (true≢false (sym on));
      keeps = λ x nd off. nd;
      defines = λ x nd on. absurd (true≢false (sym (w x on nd.0) ∙ nd.1));
    };
    standing = record { at_live = λ p on. absurd (true≢false (sym on)); at_end = λ b on. absurd (true≢false (sym on)) };
    test_if = λ p kind s is hd on le. absurd (true≢false (sym on));
    test_br = λ p l s is hd on le. absurd (true≢false (sym on));
    test_table = λ p other labels s is hd on le. absurd (true≢false (sym on));
    shadows = λ p n sh on. absurd (true≢false (sym on));
    carries = λ p l s is br le on. absurd (true≢false (sym on));
    live_ends = λ e a le on. absurd (true≢false (sym on));
    no_back = λ on. absurd (true≢false (sym on));
    stops = λ on. absurd (true≢false (sym on));
    no_cut = refl;
    before = λ a b x l off nd. nd;
  }

  read_region : (F : Func) (f t q : ℕ) (vs : List Value) (st : Store) (e : Effect) (o : Outcome) (h : Here) (es : List Event) → returned o st h ≡ Gives e
      → Region Z W (DoesLaw B) Agrees none none every (N0 f) (body_label t q ∷ []) q t Exit (N0 f Exit) (start F vs st) (mk o h es)
      → CallDoes (W.writes (Own f)) t st e
  read_region F f t q vs st e Normal h es c a =
      subst (λ z. CallDoes (W.writes (Own f)) t st z) (gives_is _ e c)
      (record { left = a.long; frame = λ x off. frame-call F x vs st h.store (λ on. a.keeps.equal x (on, off)); turns = let l = a.keeps.turns in omega arith })
  read_region F f t q vs st e (Branch zero) h es c a =
      subst (λ z. CallDoes (W.writes (Own f)) t st z) (gives_is _ e c)
      (record { left = a.long; frame = λ x off. frame-call F x vs st h.store (λ on. a.keeps.equal x (on, off)); turns = let l = a.keeps.turns in omega arith })
  read_region F f t q vs st e (Branch (suc l)) h es c a = stops_give e c
  read_region F f t q vs st e (Stopped why) h es c a = stops_give e c

  does_own : (n : ℕ) → ((m : ℕ) → m ≤ n → DoesLaw B (below Z (calls Z) m).call) → (f : ℕ) (F : Func) → func_of Z.m f ≡ Some F
      → (vs : List Value) (st : Store) (e : Effect) → calls Z (below Z (calls Z) n) f vs st ≡ Gives e → CallDoes (W.writes (Own f)) F.results st e
  does_own n goods f F is vs st e q =
      let b = below Z (calls Z) n in
      let c = whole Z W (DoesLaw B) Agrees (OpOk B f) F none none (N0 f) (quiet f (func_sites B F) (func_ends B F)) (ok.module_ok.shaped f F is) in
      let h : Here = record { stack = []; store = start F vs st } in
      let r = run Z b (F.results ∷ []) (text F) h in
      read_region F f F.results (size (text F)) vs st e r.outcome r.there r.events (sym (own_calls Z b f F is vs st) ∙ q)
      (region Z W (DoesLaw B) Agrees none none every (N0 f) b (goods n (omega arith)) (dark-laps Z W (DoesLaw B) Agrees none none every (N0 f) (calls Z) n goods) (text F) (body_label F.results (size (text F)) ∷ []) true Exit F.results 0 (size (text F)) [] c (omega arith) (λ m a b. (refl, refl)) h refl)

  does_step : (n : ℕ) → ((m : ℕ) → m ≤ n → DoesLaw B (below Z (calls Z) m).call) → DoesLaw B (calls Z (below Z (calls Z) n))
  does_step n goods f t is vs st e q = by_host (host_of Z.m f) refl q
    where
      by_code : (o : Option Func) → func_of Z.m f ≡ o → call_own Z (below Z (calls Z) n) o vs (turned st) ≡ Gives e
          → CallDoes (W.writes (Own f)) (length t.results) st e
      by_code None e1 q1 = stops_give e q1
      by_code (Some F) e1 q1 = subst (λ z. CallDoes (W.writes (Own f)) z st e) (has_type Z.m f F t e1 is).results (does_own n goods f F e1 vs st e q)

      by_host : (w : Option HostFunc) → host_of Z.m f ≡ w → call_by Z (below Z (calls Z) n) w f vs (turned st) ≡ Gives e
          → CallDoes (W.writes (Own f)) (length t.results) st e
      by_host None e1 q1 = by_code (func_of Z.m f) refl q1
      by_host (Some H) e1 q1 =
          let d = host_does H vs st e q1 in let tu = d.turns in
          record { left = d.left ∙ ap (λ z. length z.results) (host_type Z.m f H t e1 is); frame = λ x off. d.frame x (off_by (host_writes H x) (W.writes (Own f) x) (λ on. ok.module_ok.hosts f H e1 x on) off); turns = omega arith }

  pub does_laws : (n m : ℕ) → m ≤ n → DoesLaw B (below Z (calls Z) m).call
  does_laws = by_number Z (DoesLaw B) (λ f t is vs st e q. stops_give e q) does_step

  -- what is read off two ends of a body
  pub record Ended (M : Node → Bool) (N : Loc → Type 0) (e e' : Effect) : Type 0 where
    pub results : M Exit ≡ true → e'.results ≡ e.results
    pub finals : (x : Loc) → N x → is_outer x ≡ true → EqAt x e.store e'.store

  outer-end : (x : Loc) (s s' st st' : Store) → is_outer x ≡ true → EqAt x s s' → EqAt x (record st { state = s.state }) (record st' { state = s'.state })
  outer-end (Local k) s s' st st' on e = absurd (true≢false (sym on))
  outer-end (Global g) s s' st st' on e = e
  outer-end Mem s s' st st' on e = e
  outer-end Size s s' st st' on e = e
  outer-end Host s s' st st' on e = e

  ended : (M : Node → Bool) (N : Loc → Type 0) (st st' : Store) (h h' : Here) (e e' : Effect) (o o' : Outcome) → CallEnd o st h e → CallEnd o' st' h' e'
      → (M Exit ≡ true → h'.stack ≡ h.stack) → ((x : Loc) → N x → EqAt x h.store h'.store) → Ended M N e e'
  ended M N st st' h h' e e' o o' c c' res fin =
      subst (λ z. Ended M N z e') c.is
      (subst (λ z. Ended M N (record { results = h.stack; store = record st { state = h.store.state } }) z) c'.is
      (record { results = res; finals = λ x n on. outer-end x h.store h'.store st st' on (fin x n) }))

  module _ (G : Calls → Type 0) (K M : Node → Bool) (N : Node → Loc → Type 0) (mik : (d : Node) → M d ≡ true → K d ≡ true) (t q : ℕ) where
    read_two : (st st' : Store) (e e' : Effect) (o : Outcome) (h : Here) (es : List Event) (o' : Outcome) (h' : Here) (es' : List Event)
        → returned o st h ≡ Gives e → returned o' st' h' ≡ Gives e' → Two Z W G Agrees K M N mik 0 0 (body_label t q ∷ []) q t Exit (mk o h es) (mk o' h' es')
        → Ended M (N Exit) e e'
    read_two st st' e e' Normal h es Normal h' es' c c' a =
        ended M (N Exit) st st' h h' e e' Normal Normal (call_end Normal st h e c) (call_end Normal st' h' e' c') a.values.equal (λ x n. a.store.equal x n n)
    read_two st st' e e' Normal h es (Branch zero) h' es' c c' a =
        ended M (N Exit) st st' h h' e e' Normal Normal (record { is = gives_is _ e c }) (record { is = gives_is _ e' c' })
        (λ on. absurd (true≢false (sym (mik Exit on) ∙ a.skip.1))) (λ x n. a.store.equal x n n)
    read_two st st' e e' Normal h es (Branch (suc l)) h' es' c c' a = stops_give e' c'
    read_two st st' e e' Normal h es (Stopped why) h' es' c c' a = stops_give e' c'
    read_two st st' e e' (Branch zero) h es Normal h' es' c c' a =
        ended M (N Exit) st st' h h' e e' Normal Normal (record { is = gives_is _ e c }) (record { is = gives_is _ e' c' })
        (λ on. absurd (true≢false (sym (mik Exit on) ∙ a.skip.1))) (λ x n. a.store.equal x n n)
    read_two st st' e e' (Branch zero) h es (Branch zero) h' es' c c' a =
        ended M (N Exit) st st' h h' e e' Normal Normal (record { is = gives_is _ e c }) (record { is = gives_is _ e' c' }) (λ on. go on a.either)
        (λ x n. a.store.equal x n n)
      where
        go : M Exit ≡ true
            → ((zero ≡ zero) × (M Exit ≡ true → h'.stack ≡ h.stack)) ⊎ (Skip Agrees K (body_label t q ∷ []) 0 q × Skip Agrees K (body_label t q ∷ []) 0 q)
            → h'.stack ≡ h.stack
        go on (inl x) = x.1 on
        go on (inr x) = absurd (true≢false (sym (mik Exit on) ∙ x.0.1))
    read_two st st' e e' (Branch zero) h es (Branch (suc l)) h' es' c c' a = stops_give e' c'
    read_two st st' e e' (Branch zero) h es (Stopped why) h' es' c c' a = stops_give e' c'
    read_two st st' e e' (Branch (suc l)) h es o' h' es' c c' a = stops_give e c
    read_two st st' e e' (Stopped why) h es o' h' es' c c' a = stops_give e c

  -- an input, or a local past the parameters
  pub input_or : {A : Type 0} (n : ℕ) (x : Loc) → (IsInput n x → A) → ((k : ℕ) → x ≡ Local k → n ≤ k → A) → A
  input_or {A = A} n (Local k) f g = go (less n k)
    where
      less : (n k : ℕ) → (k < n) ⊎ (n ≤ k)
      less zero k = inr (omega arith)
      less (suc n) zero = inl (omega arith)
      less (suc n) (suc k) = step (less n k)
        where
          step : (k < n) ⊎ (n ≤ k) → (suc k < suc n) ⊎ (suc n ≤ suc k)
          step (inl a) = inl (omega arith)
          step (inr a) = inr (omega arith)

      go : (k < n) ⊎ (n ≤ k) → A
      go (inl a) = f a
      go (inr a) = g k refl a
  input_or n (Global i) f g = f tt
  input_or n Mem f g = f tt
  input_or n Size f g = f tt
  input_or n Host f g = f tt

  -- two starts that are equal on a row are equal where something is needed at the first point
  pub begins : (R : Rows) → Holds B R → (f : ℕ) (F : Func) → func_of Z.m f ≡ Some F → (o : Output) (vs vs' : List Value) → length vs ≡ F.params
      → length vs' ≡ F.params → (st st' : Store) → SameOn (R f o) vs vs' st st' → (x : Loc)
      → Needed B (RowOf Z.m R) (func_sites B F) (func_ends B F) o (first 0 (text F) Exit) x → EqAt x (start F vs st) (start F vs' st')
  begins R holds f F is o vs vs' lv lv' st st' same x nd =
      input_or F.params x (λ i. start_same F x vs vs' st st' (lv' ∙ sym lv) (same x (holds f o x (by_code F is nd i))))
      (λ k e le. subst (λ z. EqAt z (start F vs st) (start F vs' st')) (sym e) (start_past F k vs vs' st st' (lv' ∙ sym lv) (omega arith)))

  pub record Tests (R : Rows) (F : Func) (o : Output) : Type 0 where
    pub K : Node → Bool
    pub M : Node → Bool
    pub sets : Sets B (RowOf Z.m R) (func_sites B F) (func_ends B F) o K M
    pub apt : Apt B (RowOf Z.m R) (func_sites B F) (func_ends B F) o

  -- the run of a function's text from a store
  abbrev pub ran : ℕ → Func → Store → Run
  ran n F s0 = run Z (below Z (calls Z) n) (F.results ∷ []) (text F) (record { stack = []; store = s0 })

  abbrev pub EqNeeded : Rows → Func → Output → Store → Store → Type 0
  EqNeeded R F o s0 s0' = (x : Loc) → Needed B (RowOf Z.m R) (func_sites B F) (func_ends B F) o (first 0 (text F) Exit) x → EqAt x s0 s0'

  -- two activations that end agree, where their starts are equal on what is needed
  pub one_from : (R : Rows) → Holds B R → (n : ℕ) → ((m : ℕ) → m ≤ n → TwoLaw R Z.m (below Z (calls Z) m).call) → (f : ℕ) (F : Func) → func_of Z.m f ≡ Some F
      → (o : Output) → Tests R F o → (s0 s0' : Store) → EqNeeded R F o s0 s0' → (st st' : Store) (e e' : Effect)
      → returned (ran n F s0).outcome st (ran n F s0).there ≡ Gives e → returned (ran n F s0').outcome st' (ran n F s0').there ≡ Gives e' → AgreeOn o e e'
  one_from R holds n below_it f F is o t s0 s0' eq st st' e e' q q' =
      read_off o (read_two G K M N mik F.results (size (text F)) st st' e e' r.outcome r.there r.events r'.outcome r'.there r'.events q q'
      (two Z W G Agrees K M N mik 0 0 b (goods n (omega arith)) (dark-laps Z W G Agrees K M every N (calls Z) n goods) (never_back Z W G Agrees K M N mik 0 0 (calls Z) n) (lap_two Z W G Agrees K M N mik 0 0 (calls Z) n goods) (text F) (body_label F.results (size (text F)) ∷ []) true Exit F.results 0 (size (text F)) [] c (omega arith) (omega arith) h h' refl (record { equal = λ x nd nd'. eq x nd; turns = λ on. absurd (true≢false (sym on)) }))) t.sets
    where
      K : Node → Bool
      K = t.K

      M : Node → Bool
      M = t.M

      N : Node → Loc → Type 0
      N a x = Needed B (RowOf Z.m R) (func_sites B F) (func_ends B F) o a x

      G : Calls → Type 0
      G = Good B R

      mik : (d : Node) → M d ≡ true → K d ≡ true
      mik d on = t.sets.k_is d (makes_it Ret (t.sets.m_has d on))

      b : Below
      b = below Z (calls Z) n

      goods : (m : ℕ) → m ≤ n → G (below Z (calls Z) m).call
      goods m le = record { does = does_laws n m le; two = below_it m le }

      h : Here
      h = record { stack = []; store = s0 }

      h' : Here
      h' = record { stack = []; store = s0' }

      r : Run
      r = run Z b (F.results ∷ []) (text F) h

      r' : Run
      r' = run Z b (F.results ∷ []) (text F) h'

      c : Closed Z W G Agrees K M every N (body_label F.results (size (text F)) ∷ []) true Exit F.results (text F) 0 []
      c =
          whole Z W G Agrees (OpOk B f) F K M N
          (facts Z W R ok f (func_sites B F) (func_ends B F) o K M t.sets t.apt G Agrees refl (λ z g. g) (λ on. absurd (true≢false (sym on))))
          (ok.module_ok.shaped f F is)

      read_off : (o : Output) → Ended M (λ x. Needed B (RowOf Z.m R) (func_sites B F) (func_ends B F) o Exit x) e e'
          → Sets B (RowOf Z.m R) (func_sites B F) (func_ends B F) o K M → AgreeOn o e e'
      read_off Ret en sets = en.results (sets.m_is Exit (result refl))
      read_off (Final x) en sets = λ on. en.finals x (record { at = Exit; enters = stands; led = final refl }) on
      read_off Done en sets = tt

  pub one_step : (R : Rows) → Holds B R → (n : ℕ) → ((m : ℕ) → m ≤ n → TwoLaw R Z.m (below Z (calls Z) m).call) → (f : ℕ) (F : Func) → func_of Z.m f ≡ Some F
      → (o : Output) → Tests R F o → (vs vs' : List Value) → length vs ≡ F.params → length vs' ≡ F.params → (st st' : Store) (e e' : Effect)
      → SameOn (R f o) vs vs' st st' → calls Z (below Z (calls Z) n) f vs st ≡ Gives e → calls Z (below Z (calls Z) n) f vs' st' ≡ Gives e' → AgreeOn o e e'
  one_step R holds n below_it f F is o t vs vs' lv lv' st st' e e' same q q' =
      let b = below Z (calls Z) n in
      one_from R holds n below_it f F is o t (start F vs st) (start F vs' st') (λ x nd. begins R holds f F is o vs vs' lv lv' st st' same x nd) st st' e e'
      (sym (own_calls Z b f F is vs st) ∙ q) (sym (own_calls Z b f F is vs' st') ∙ q')

  -- completion
  pub record GoodDone (R : Rows) (c : Calls) : Type 0 where
    pub good : Good B R c
    pub done : DoneLaw R Z.m c

  -- the other body returns too
  pub record Returned (o' : Outcome) (h' : Here) (st st' : Store) (e : Effect) : Type 0 where
    pub other : Effect
    pub is : returned o' st' h' ≡ Gives other
    pub turns : other.store.state.turns + st.state.turns ≡ e.store.state.turns + st'.state.turns

  module _ (G : Calls → Type 0) (K M : Node → Bool) (N : Node → Loc → Type 0) (mik : (d : Node) → M d ≡ true → K d ≡ true) (t q from from' : ℕ) where
    read_done : (st st' : Store) (e : Effect) → from + st'.state.turns ≡ from' + st.state.turns
        → (o : Outcome) (h : Here) (es : List Event) (o' : Outcome) (h' : Here) (es' : List Event) → returned o st h ≡ Gives e
        → Two Z W G Completes K M N mik from from' (body_label t q ∷ []) q t Exit (mk o h es) (mk o' h' es') → Returned o' h' st st' e
    read_done st st' e fe Normal h es Normal h' es' c a =
        let b = a.store.turns refl in
        let x : h.store.state.turns ≡ e.store.state.turns = ap (λ z. z.store.state.turns) (gives_is _ e c) in
        record { other = _; is = refl; turns = omega arith }
    read_done st st' e fe Normal h es (Branch zero) h' es' c a =
        let b = a.store.turns refl in
        let x : h.store.state.turns ≡ e.store.state.turns = ap (λ z. z.store.state.turns) (gives_is _ e c) in
        record { other = _; is = refl; turns = omega arith }
    read_done st st' e fe Normal h es (Branch (suc l)) h' es' c a = absurd a.skip.1
    read_done st st' e fe Normal h es (Stopped why) h' es' c a = absurd a
    read_done st st' e fe (Branch zero) h es Normal h' es' c a =
        let b = a.store.turns refl in
        let x : h.store.state.turns ≡ e.store.state.turns = ap (λ z. z.store.state.turns) (gives_is _ e c) in
        record { other = _; is = refl; turns = omega arith }
    read_done st st' e fe (Branch zero) h es (Branch zero) h' es' c a =
        let b = a.store.turns refl in
        let x : h.store.state.turns ≡ e.store.state.turns = ap (λ z. z.store.state.turns) (gives_is _ e c) in
        record { other = _; is = refl; turns = omega arith }
    read_done st st' e fe (Branch zero) h es (Branch (suc l)) h' es' c a = absurd (go a.either)
      where
        go
            : ((suc l ≡ zero) × (M Exit ≡ true → h'.stack ≡ h.stack)) ⊎ (Skip Completes K (body_label t q ∷ []) 0 q × Skip Completes K (body_label t q ∷ []) (suc l) q)
            → ⊥
        go (inl x) = let z = x.0 in omega arith
        go (inr x) = x.1.1
    read_done st st' e fe (Branch zero) h es (Stopped why) h' es' c a = absurd a
    read_done st st' e fe (Branch (suc l)) h es o' h' es' c a = stops_give e c
    read_done st st' e fe (Stopped why) h es o' h' es' c a = stops_give e c

  -- where an activation ends, one from a start that is equal on what is needed ends too, in as many turns
  pub done_from : (R : Rows) → Holds B R → (n : ℕ) → ((m : ℕ) → m ≤ n → TwoLaw R Z.m (below Z (calls Z) m).call)
      → ((m : ℕ) → m ≤ n → DoneLaw R Z.m (below Z (calls Z) m).call) → (f : ℕ) (F : Func) → func_of Z.m f ≡ Some F → Tests R F Done → (s0 s0' : Store)
      → EqNeeded R F Done s0 s0' → (st st' : Store) → s0.state.turns + st'.state.turns ≡ s0'.state.turns + st.state.turns → (e : Effect)
      → returned (ran n F s0).outcome st (ran n F s0).there ≡ Gives e → Returned (ran n F s0').outcome (ran n F s0').there st st' e
  done_from R holds n twos dones f F is t s0 s0' eq st st' fe e q =
      read_done G K M N mik F.results (size (text F)) s0.state.turns s0'.state.turns st st' e fe r.outcome r.there r.events r'.outcome r'.there r'.events q
      (two Z W G Completes K M N mik s0.state.turns s0'.state.turns b (goods n (omega arith)) (dark-laps Z W G Completes K M every N (calls Z) n goods) (never_back Z W G Completes K M N mik s0.state.turns s0'.state.turns (calls Z) n) (lap_two Z W G Completes K M N mik s0.state.turns s0'.state.turns (calls Z) n goods) (text F) (body_label F.results (size (text F)) ∷ []) true Exit F.results 0 (size (text F)) [] c (omega arith) (omega arith) h h' refl (record { equal = λ x nd nd'. eq x nd; turns = λ on. omega arith }))
    where
      K : Node → Bool
      K = t.K

      M : Node → Bool
      M = t.M

      N : Node → Loc → Type 0
      N a x = Needed B (RowOf Z.m R) (func_sites B F) (func_ends B F) Done a x

      G : Calls → Type 0
      G = GoodDone R

      mik : (d : Node) → M d ≡ true → K d ≡ true
      mik d on = t.sets.k_is d (makes_it Ret (t.sets.m_has d on))

      b : Below
      b = below Z (calls Z) n

      goods : (m : ℕ) → m ≤ n → G (below Z (calls Z) m).call
      goods m le = record { good = record { does = does_laws n m le; two = twos m le }; done = dones m le }

      h : Here
      h = record { stack = []; store = s0 }

      h' : Here
      h' = record { stack = []; store = s0' }

      r : Run
      r = run Z b (F.results ∷ []) (text F) h

      r' : Run
      r' = run Z b (F.results ∷ []) (text F) h'

      c : Closed Z W G Completes K M every N (body_label F.results (size (text F)) ∷ []) true Exit F.results (text F) 0 []
      c =
          whole Z W G Completes (OpOk B f) F K M N
          (facts Z W R ok f (func_sites B F) (func_ends B F) Done K M t.sets t.apt G Completes refl (λ z g. g.good) (λ on. (refl, (λ z g. g.done))))
          (ok.module_ok.shaped f F is)

  pub done_step : (R : Rows) → Holds B R → (n : ℕ) → ((m : ℕ) → m ≤ n → TwoLaw R Z.m (below Z (calls Z) m).call)
      → ((m : ℕ) → m ≤ n → DoneLaw R Z.m (below Z (calls Z) m).call) → (f : ℕ) (F : Func) → func_of Z.m f ≡ Some F → Tests R F Done → (vs vs' : List Value)
      → length vs ≡ F.params → length vs' ≡ F.params → (st st' : Store) (e : Effect) → SameOn (R f Done) vs vs' st st'
      → calls Z (below Z (calls Z) n) f vs st ≡ Gives e → CallComes (calls Z (below Z (calls Z) n)) f vs' st st' e
  done_step R holds n twos dones f F is t vs vs' lv lv' st st' e same q =
      let b = below Z (calls Z) n in
      let d =
      done_from R holds n twos dones f F is t (start F vs st) (start F vs' st') (λ x nd. begins R holds f F is Done vs vs' lv lv' st st' same x nd) st st'
      (omega arith) e (sym (own_calls Z b f F is vs st) ∙ q) in
      record { other = d.other; is = own_calls Z b f F is vs' st' ∙ d.is; turns = d.turns }
