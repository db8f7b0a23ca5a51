-- Nodes that are met one after another, and edges that are listed.
use Rattle.std.proofs.Common.{◌≡◌, ◌↔◌, ℕ, ◌+◌, ◌<◌, List, [], ◌∷◌, ◌++◌, true, false, nat_eq, Some, length, get_or, take, refl, sym, ap, ◌∙◌, subst, inl, inr, ◌⊎◌, ⊎_elim, arith, length-append}
use Rattle.std.specs.Prelude.{slice_get, if◌then◌else◌}
use Rattle.std.specs.List.{All, Contains, list_any}
use Rattle.std.proofs.lemmas.Bool.{cases_lt}
use Rattle.std.proofs.lemmas.Bool.Decides.{Decides-eqb}
use Rattle.std.proofs.lemmas.List.{take_more, get_or_append_left, get_or_push}
use Rattle.std.proofs.lemmas.List.Folds.{list_any_at}
use Rattle.std.proofs.lemmas.List.Elements.{Contains-push, Contains-push_cases, Contains-append_left, All-contains_itself}
use Rattle.std.proofs.lemmas.Option.{slice_get_within, get_or_from_slice_get}
use Rattle.worklist.specs.declared.labels.Root.{Root}
use Rattle.worklist.specs.Gains.{Gains}
use Rattle.worklist.specs.Reached.{Reached, root, step}
use Rattle.worklist.specs.Roots.{IsRootOf}
use Rattle.worklist.proofs.Searching.{none_waits}
use Rattle.sparse_reach.specs.declared.met.Edge.{Edge}
use Rattle.sparse_reach.specs.Met.{IsNumber, Listed, MeetsOne, AreStarts, Leads, ByNumber, Waits}

pub none_listed : (j k : ℕ) → Listed [] j k → ⊥
none_listed j k (i, lt, is) = omega arith

-- ---- numbers

pub same_node : (nodes : List ℕ) (x y k : ℕ) → IsNumber nodes x k → IsNumber nodes y k → x ≡ y
same_node nodes x y k (lt, is) (lt', is') = sym is ∙ is'

number_kept : (nodes : List ℕ) (y x k : ℕ) → IsNumber nodes x k → IsNumber (nodes ++ y ∷ []) x k
number_kept nodes y x k (lt, is) = (omega (arith, length-append nodes (y ∷ [])), get_or_append_left nodes (y ∷ []) 0 k lt ∙ is)

number_cases : (nodes : List ℕ) (y x k : ℕ) → IsNumber (nodes ++ y ∷ []) x k → IsNumber nodes x k ⊎ (x ≡ y)
number_cases nodes y x k (lt, is) = ⊎_elim
    (λ below. inl (below, sym (get_or_append_left nodes (y ∷ []) 0 k below) ∙ is))
    (λ past. let at : length nodes ≡ k = omega (arith, length-append nodes (y ∷ [])) in inr (sym is ∙ get_or_push nodes y 0 k at))
    (cases_lt k (length nodes))

number_there : (nodes : List ℕ) (k : ℕ) → k < length nodes → IsNumber nodes (get_or nodes k 0) k
number_there nodes k lt = (lt, refl)

waits_none : (nodes waiting : List ℕ) → Waits nodes nodes waiting waiting
waits_none nodes waiting = record { kept = λ k h. h; new = λ k lt. inl lt; only = λ k h. inl h }

module _ (a b c u v w : List ℕ) where
  waits_then : ((x k : ℕ) → IsNumber b x k → IsNumber c x k) → Waits a b u v → Waits b c v w → Waits a c u w
  waits_then keep m n = record {
    kept = λ k h. n.kept k (m.kept k h);
    new = λ k lt. ⊎_elim (λ below. ⊎_elim inl (λ h. inr (n.kept k h)) (m.new k below)) inr (n.new k lt);
    only = λ k h. ⊎_elim (λ g. ⊎_elim inl (λ lt. inr (keep (get_or b k 0) k (number_there b k lt)).0) (m.only k g)) inr (n.only k h);
  }

waits_more : (nodes waiting : List ℕ) (node : ℕ) → Waits nodes (nodes ++ node ∷ []) waiting (waiting ++ length nodes ∷ [])
waits_more nodes waiting node =
    let long : length (nodes ++ node ∷ []) ≡ length nodes + 1 = length-append nodes (node ∷ []) in
    record {
      kept = λ k h. Contains-append_left waiting (length nodes ∷ []) k h;
      new = λ k lt. ⊎_elim
          inl
          (λ past. let e : k ≡ length nodes = omega arith in
          inr (subst (λ i. Contains (waiting ++ length nodes ∷ []) i) (sym e) (Contains-push waiting (length nodes))))
          (cases_lt k (length nodes));
      only = λ k h. ⊎_elim inl (λ e. inr (omega arith)) (Contains-push_cases waiting (length nodes) k h);
    }

-- a node that is there, and one that goes last
meets_known : (nodes waiting : List ℕ) (node number : ℕ) → IsNumber nodes node number → MeetsOne nodes nodes waiting waiting node number
meets_known nodes waiting node number here = record {
  kept = λ x k h. h;
  here = here;
  only = λ x k h. inl h;
  waits = waits_none nodes waiting;
}

meets_new : (nodes waiting : List ℕ) (node number : ℕ) → number ≡ length nodes
    → MeetsOne nodes (nodes ++ node ∷ []) waiting (waiting ++ number ∷ []) node number
meets_new nodes waiting node number at = record {
  kept = λ x k h. number_kept nodes node x k h;
  here = (omega (arith, length-append nodes (node ∷ [])), get_or_push nodes node 0 number (sym at));
  only = λ x k h. number_cases nodes node x k h;
  waits = rw at (waits_more nodes waiting node);
}

module _ (nodes nodes' waiting : List ℕ) (node number : ℕ) (is : nodes' ≡ (if list_any (nat_eq node) nodes then nodes else nodes ++ node ∷ [])) (y : ℕ)
    (stored : slice_get nodes' number ≡ Some y) (same : nat_eq node y ≡ true) where
  here_now : IsNumber nodes' node number
  here_now = (slice_get_within nodes' number y stored, get_or_from_slice_get nodes' number y 0 stored ∙ sym ((Decides-eqb node y).0 same))

  pub inserted_known : list_any (nat_eq node) nodes ≡ true → MeetsOne nodes nodes' waiting waiting node number
  inserted_known there =
      let e : nodes' ≡ nodes = is ∙ rw there refl in
      subst (λ (ns : List ℕ). MeetsOne nodes ns waiting waiting node number) (sym e)
      (meets_known nodes waiting node number (subst (λ (ns : List ℕ). IsNumber ns node number) e here_now))

  pub inserted_new : list_any (nat_eq node) nodes ≡ false → MeetsOne nodes nodes' waiting (waiting ++ number ∷ []) node number
  inserted_new new =
      let e : nodes' ≡ nodes ++ node ∷ [] = is ∙ rw new refl in
      let here = subst (λ (ns : List ℕ). IsNumber ns node number) e here_now in
      let last : number ≡ length nodes = ⊎_elim
      (λ old. let any : list_any (nat_eq node) nodes ≡ true = list_any_at (nat_eq node) nodes number 0 old
      ((Decides-eqb node (get_or nodes number 0)).1 (sym (sym (get_or_append_left nodes (node ∷ []) 0 number old) ∙ here.1))) in absurd (cc))
      (λ past. let long = length-append nodes (node ∷ []) in omega (arith, here.0))
      (cases_lt number (length nodes)) in
      subst (λ (ns : List ℕ). MeetsOne nodes ns waiting (waiting ++ number ∷ []) node number) (sym e) (meets_new nodes waiting node number last)

-- ---- roots

no_root : (o x : ℕ) → IsRootOf [] o x → ⊥
no_root o x (k, lt, is) = omega arith

pub starts_none : (nodes waiting : List ℕ) → nodes ≡ [] → waiting ≡ [] → (starts : List Root) → starts ≡ [] → AreStarts [] nodes waiting starts
starts_none nodes waiting none quiet starts empty = record {
  all = λ o x r. absurd (no_root o x r);
  only = λ o k r. absurd (no_root o k (subst (λ (rs : List Root). IsRootOf rs o k) empty r));
  met = λ x k h. let lt : k < length nodes = h.0 in let e : length nodes ≡ 0 = ap length none in absurd (omega arith);
  waits = rw (none, quiet) (waits_none [] []);
}

module _ (roots : List Root) (i : ℕ) (d : Root) (lt : i < length roots) (nodes nodes' waiting waiting' : List ℕ) (starts starts' : List Root)
    (number : ℕ) (s : AreStarts (take i roots) nodes waiting starts) (m : MeetsOne nodes nodes' waiting waiting' (get_or roots i d).node number)
    (is : starts' ≡ starts ++ record { label = (get_or roots i d).label; node = number } ∷ []) where
  begin : Root
  begin = record { label = (get_or roots i d).label; node = number }

  front : take (i + 1) roots ≡ take i roots ++ get_or roots i d ∷ []
  front = take_more roots i d lt

  root_was : (o x : ℕ) → IsRootOf (take i roots) o x → IsRootOf (take (i + 1) roots) o x
  root_was o x r = subst (λ (rs : List Root). IsRootOf rs o x) (sym front)
      (Contains-append_left (take i roots) (get_or roots i d ∷ []) (record { label = o; node = x }) r)

  root_last : IsRootOf (take (i + 1) roots) (get_or roots i d).label (get_or roots i d).node
  root_last = subst (λ (rs : List Root). IsRootOf rs (get_or roots i d).label (get_or roots i d).node) (sym front)
      (Contains-push (take i roots) (get_or roots i d))

  start_was : (o k : ℕ) → IsRootOf starts o k → IsRootOf starts' o k
  start_was o k r = subst (λ (rs : List Root). IsRootOf rs o k) (sym is)
      (Contains-append_left starts (record { label = (get_or roots i d).label; node = number } ∷ []) (record { label = o; node = k }) r)

  start_last : IsRootOf starts' (get_or roots i d).label number
  start_last = subst (λ (rs : List Root). IsRootOf rs (get_or roots i d).label number) (sym is)
      (Contains-push starts (record { label = (get_or roots i d).label; node = number }))

  all_on : (o x : ℕ) → IsRootOf (take (i + 1) roots) o x → (k : ℕ) × (IsNumber nodes' x k × IsRootOf starts' o k)
  all_on o x r = ⊎_elim
      (λ old. let a = s.all o x old in (a.0, (m.kept x a.0 a.1.0, start_was o a.0 a.1.1)))
      (λ (e : get_or roots i d ≡ record { label = o; node = x }). (
        number,
        (
          subst (λ z. IsNumber nodes' z number) (ap (λ (z : Root). z.node) e) m.here,
          subst (λ z. IsRootOf starts' z number) (ap (λ (z : Root). z.label) e) start_last,
        ),
      ))
      (Contains-push_cases (take i roots) (get_or roots i d) (record { label = o; node = x }) (subst (λ (rs : List Root). IsRootOf rs o x) front r))

  only_on : (o k : ℕ) → IsRootOf starts' o k → (x : ℕ) × (IsNumber nodes' x k × IsRootOf (take (i + 1) roots) o x)
  only_on o k r = ⊎_elim
      (λ old. let a = s.only o k old in (a.0, (m.kept a.0 k a.1.0, root_was o a.0 a.1.1)))
      (λ (e : record { label = (get_or roots i d).label; node = number } ≡ record { label = o; node = k }). (
        (get_or roots i d).node,
        (
          subst (λ z. IsNumber nodes' (get_or roots i d).node z) (ap (λ (z : Root). z.node) e) m.here,
          subst (λ z. IsRootOf (take (i + 1) roots) z (get_or roots i d).node) (ap (λ (z : Root). z.label) e) root_last,
        ),
      ))
      (Contains-push_cases starts (record { label = (get_or roots i d).label; node = number }) (record { label = o; node = k })
      (subst (λ (rs : List Root). IsRootOf rs o k) is r))

  pub starts_more : AreStarts (take (i + 1) roots) nodes' waiting' starts'
  starts_more = record {
    all = all_on;
    only = only_on;
    met = λ x k h. ⊎_elim
        (λ old. let a = s.met x k old in (a.0, root_was a.0 x a.1))
        (λ e. ((get_or roots i d).label, subst (λ z. IsRootOf (take (i + 1) roots) (get_or roots i d).label z) (sym e) root_last))
        (m.only x k h);
    waits = waits_then [] nodes nodes' [] waiting waiting' m.kept s.waits m.waits;
  }

-- ---- edges out of one node

pub leads_none : (from : ℕ) (list nodes waiting : List ℕ) (edges : List Edge)
    → Leads from (Contains (take 0 list)) nodes nodes waiting waiting edges edges
leads_none from list nodes waiting edges = record {
  kept = λ x k h. h;
  only = λ x k h. inl h;
  waits = waits_none nodes waiting;
  stays = λ j k h. h;
  all = λ x h. absurd (none_waits x h);
  new = λ j k h. inl h;
}

pub leads_one : (from node number : ℕ) (nodes nodes' waiting waiting' : List ℕ) (edges edges' : List Edge) → MeetsOne nodes nodes' waiting waiting' node number
    → edges' ≡ edges ++ record { from = from; to = number } ∷ [] → Leads from (λ x. x ≡ node) nodes nodes' waiting waiting' edges edges'
leads_one from node number nodes nodes' waiting waiting' edges edges' m is = record {
  kept = m.kept;
  only = m.only;
  waits = m.waits;
  stays = λ j k h. subst (λ (es : List Edge). Listed es j k) (sym is)
      (Contains-append_left edges (record { from = from; to = number } ∷ []) (record { from = j; to = k }) h);
  all = λ x e. (
    number,
    (
      subst (λ z. IsNumber nodes' z number) (sym e) m.here,
      subst (λ (es : List Edge). Listed es from number) (sym is) (Contains-push edges (record { from = from; to = number })),
    ),
  );
  new = λ j k h. ⊎_elim
      inl
      (λ (e : record { from = from; to = number } ≡ record { from = j; to = k }). inr (
        sym (ap (λ (z : Edge). z.from) e),
        (node, (subst (λ z. IsNumber nodes' node z) (ap (λ (z : Edge). z.to) e) m.here, refl)),
      ))
      (Contains-push_cases edges (record { from = from; to = number }) (record { from = j; to = k }) (subst (λ (es : List Edge). Listed es j k) is h));
}

pub leads_known : (from node number : ℕ) (nodes waiting : List ℕ) (edges : List Edge) → IsNumber nodes node number → Listed edges from number
    → Leads from (λ x. x ≡ node) nodes nodes waiting waiting edges edges
leads_known from node number nodes waiting edges here listed = record {
  kept = λ x k h. h;
  only = λ x k h. inl h;
  waits = waits_none nodes waiting;
  stays = λ j k h. h;
  all = λ x e. (number, (subst (λ z. IsNumber nodes z number) (sym e) here, listed));
  new = λ j k h. inl h;
}

module _ (from : ℕ) (P Q R : ℕ → Type 0) (a b c p q r : List ℕ) (u v w : List Edge) where
  leads_then : Leads from P a b p q u v → Leads from Q b c q r v w → ((x : ℕ) → R x → P x ⊎ Q x) → ((x : ℕ) → P x → R x) → ((x : ℕ) → Q x → R x)
      → Leads from R a c p r u w
  leads_then m n split left right = record {
    kept = λ x k h. n.kept x k (m.kept x k h);
    only = λ x k h. ⊎_elim (λ g. ⊎_elim inl (λ p. inr (left x p)) (m.only x k g)) (λ q. inr (right x q)) (n.only x k h);
    waits = waits_then a b c p q r n.kept m.waits n.waits;
    stays = λ j k h. n.stays j k (m.stays j k h);
    all = λ x r. ⊎_elim (λ p. let t = m.all x p in (t.0, (n.kept x t.0 t.1.0, n.stays from t.0 t.1.1))) (λ q. n.all x q) (split x r);
    new = λ j k h. ⊎_elim
        (λ g. ⊎_elim inl (λ t. inr (t.0, (t.1.0, (n.kept t.1.0 k t.1.1.0, left t.1.0 t.1.1.1)))) (m.new j k g))
        (λ t. inr (t.0, (t.1.0, (t.1.1.0, right t.1.0 t.1.1.1))))
        (n.new j k h);
  }

pub leads_more : (from : ℕ) (list : List ℕ) (i : ℕ) → i < length list → (a b c p q r : List ℕ) (u v w : List Edge)
    → Leads from (Contains (take i list)) a b p q u v → Leads from (λ x. x ≡ get_or list i 0) b c q r v w
    → Leads from (Contains (take (i + 1) list)) a c p r u w
leads_more from list i lt a b c p q r u v w m n =
    let node = get_or list i 0 in
    let e : take (i + 1) list ≡ take i list ++ node ∷ [] = take_more list i 0 lt in
    rw e (leads_then from (Contains (take i list)) (λ x. x ≡ node) (Contains (take i list ++ node ∷ [])) a b c p q r u v w m n
    (λ x h. ⊎_elim inl (λ is. inr (sym is)) (Contains-push_cases (take i list) node x h))
    (λ x h. Contains-append_left (take i list) (node ∷ []) x h)
    (λ x is. subst (λ y. Contains (take i list ++ node ∷ []) y) (sym is) (Contains-push (take i list) node)))

-- ---- the search

pub reached_closed : (P Q : ℕ → Type 0) (E : ℕ → ℕ → Type 0) → ((x : ℕ) → P x → Q x) → ((x y : ℕ) → E x y → Q x → Q y) → (x : ℕ) → Reached P E x → Q x
reached_closed P Q E roots closed x (root r) = roots x r
reached_closed P Q E roots closed x (step w h e) = closed w x e (reached_closed P Q E roots closed w h)

abbrev FullAt : (ℕ → ℕ → Type 0) → List ℕ → List Edge → ℕ → Type 0
FullAt Edge' nodes edges j = (x : ℕ) × (IsNumber nodes x j × ((y : ℕ) → Edge' x y → (k : ℕ) × (IsNumber nodes y k × Listed edges j k)))

-- all nodes but those that wait were asked for those that they lead to
pub record Asked (roots : List Root) (Edge' : ℕ → ℕ → Type 0) (nodes waiting : List ℕ) (starts : List Root) (edges : List Edge) : Type 0 where
  pub all : (o x : ℕ) → IsRootOf roots o x → (k : ℕ) × (IsNumber nodes x k × IsRootOf starts o k)
  pub only : (o k : ℕ) → IsRootOf starts o k → (x : ℕ) × (IsNumber nodes x k × IsRootOf roots o x)
  pub sound : (x k : ℕ) → IsNumber nodes x k → Reached (λ y. (o : ℕ) × IsRootOf roots o y) Edge' x
  pub listed : (j k : ℕ) → Listed edges j k → (x : ℕ) × ((y : ℕ) × (IsNumber nodes x j × (IsNumber nodes y k × Edge' x y)))
  pub waits : (j : ℕ) → Contains waiting j → j < length nodes
  pub full : (j : ℕ) → j < length nodes → Contains waiting j ⊎ FullAt Edge' nodes edges j

module _ (roots : List Root) (Edge' : ℕ → ℕ → Type 0) where
  pub asked_none : (nodes waiting : List ℕ) (starts : List Root) (edges : List Edge) → AreStarts roots nodes waiting starts → edges ≡ []
      → Asked roots Edge' nodes waiting starts edges
  asked_none nodes waiting starts edges s none = record {
    all = s.all;
    only = s.only;
    sound = λ x k h. root (s.met x k h);
    listed = λ j k h. absurd (none_listed j k (subst (λ (es : List Edge). Listed es j k) none h));
    waits = λ j h. ⊎_elim (λ k. absurd (none_waits j k)) (λ lt. lt) (s.waits.only j h);
    full = λ j lt. ⊎_elim (λ below. absurd (omega arith)) inl (s.waits.new j lt);
  }

  -- the node of a number that waited is asked
  module _ (before : List ℕ) (number node : ℕ) (nodes nodes' waiting waiting' : List ℕ) (starts : List Root) (edges edges' : List Edge)
      (taken : before ≡ waiting ++ number ∷ []) (here : IsNumber nodes node number) (a : Asked roots Edge' nodes before starts edges) where
    waited : (j : ℕ) → Contains waiting j → j < length nodes
    waited j h = a.waits j (rw taken (Contains-append_left waiting (number ∷ []) j h))

    asked_one : Leads number (Edge' node) nodes nodes' waiting waiting' edges edges' → Asked roots Edge' nodes' waiting' starts edges'
    asked_one m = record {
      all = λ o x r. let t = a.all o x r in (t.0, (m.kept x t.0 t.1.0, t.1.1));
      only = λ o k r. let t = a.only o k r in (t.0, (m.kept t.0 k t.1.0, t.1.1));
      sound = λ x k h. ⊎_elim (λ g. a.sound x k g) (λ e. step node (a.sound node number here) e) (m.only x k h);
      listed = λ j k h. ⊎_elim
          (λ g. let t = a.listed j k g in (t.0, (t.1.0, (m.kept t.0 j t.1.1.0, (m.kept t.1.0 k t.1.1.1.0, t.1.1.1.1)))))
          (λ t. (node, (t.1.0, (subst (λ z. IsNumber nodes' node z) (sym t.0) (m.kept node number here), (t.1.1.0, t.1.1.1)))))
          (m.new j k h);
      waits = λ j h. ⊎_elim (λ g. (m.kept (get_or nodes j 0) j (number_there nodes j (waited j g))).0) (λ lt. lt) (m.waits.only j h);
      full = λ j lt. ⊎_elim
          (λ below. ⊎_elim
          (λ w. ⊎_elim (λ g. inl (m.waits.kept j g)) (λ e. inr (now_full j e)) (Contains-push_cases waiting number j (rw taken at w)))
          (λ f. inr (still_full j f))
          (a.full j below))
          inl
          (m.waits.new j lt);
    }
      where
        still_full : (j : ℕ) → FullAt Edge' nodes edges j → FullAt Edge' nodes' edges' j
        still_full j t = (t.0, (m.kept t.0 j t.1.0, λ y e. let u = t.1.1 y e in (u.0, (m.kept y u.0 u.1.0, m.stays j u.0 u.1.1))))

        now_full : (j : ℕ) → number ≡ j → FullAt Edge' nodes' edges' j
        now_full j e = subst (λ i. FullAt Edge' nodes' edges' i) e (node, (m.kept node number here, λ y f. m.all y f))

    led : (none next list : List ℕ) → none ≡ [] → Gains (Edge' node) none next → list ≡ next → (x : ℕ) → Contains list x ↔ Edge' node x
    led none next list empty gains same x = (
      λ h. ⊎_elim (λ k. absurd (none_waits x (rw empty at k))) (λ e. e) (gains.only x (rw same at h)),
      λ e. rw same (gains.all x e),
    )

    pub asked_next : (none next list : List ℕ) → none ≡ [] → Gains (Edge' node) none next → list ≡ next
        → Leads number (Contains list) nodes nodes' waiting waiting' edges edges' → Asked roots Edge' nodes' waiting' starts edges'
    asked_next none next list empty gains same m =
        let by = led none next list empty gains same in
        asked_one (record {
          kept = m.kept;
          only = λ x k h. ⊎_elim inl (λ c. inr ((by x).0 c)) (m.only x k h);
          waits = m.waits;
          stays = m.stays;
          all = λ x e. m.all x ((by x).1 e);
          new = λ j k h. ⊎_elim inl (λ t. inr (t.0, (t.1.0, (t.1.1.0, (by t.1.0).0 t.1.1.1)))) (m.new j k h);
        })

  -- all nodes were asked
  module _ (nodes waiting : List ℕ) (starts : List Root) (edges : List Edge) (a : Asked roots Edge' nodes waiting starts edges) where
    pub asked_below : (n : ℕ) → All (λ (r : Root). r.node < n) roots → ((x y : ℕ) → x < n → Edge' x y → y < n) → (x k : ℕ) → IsNumber nodes x k → x < n
    asked_below n first stays x k h =
        reached_closed (λ y. (o : ℕ) × IsRootOf roots o y) (λ y. y < n) Edge'
        (λ y r. root_below n first r.0 y r.1) (λ y z e lt. stays y z lt e) x (a.sound x k h)
      where
        root_below : (n : ℕ) → All (λ (r : Root). r.node < n) roots → (o y : ℕ) → IsRootOf roots o y → y < n
        root_below n first o y (i, lt, is) = subst (λ (r : Root). r.node < n) is (first i (record { label = o; node = y }) lt)

    pub waiting_last : (rest : List ℕ) (number : ℕ) → waiting ≡ rest ++ number ∷ [] → number < length nodes
    waiting_last rest number taken = a.waits number (rw taken (Contains-push rest number))

    pub starts_below : All (λ (r : Root). r.node < length nodes) starts
    starts_below i d lt = let r = get_or starts i d in (a.only r.label r.node (All-contains_itself starts i d lt)).1.0.0

    pub edges_below : All (λ (e : Edge). (e.from < length nodes) × (e.to < length nodes)) edges
    edges_below i d lt = let e = get_or edges i d in let t = a.listed e.from e.to (All-contains_itself edges i d lt) in (t.1.1.0.0, t.1.1.1.0.0)

    pub by_number : waiting ≡ [] → (o : ℕ) → ByNumber nodes (IsRootOf roots o) Edge' (IsRootOf starts o) (Listed edges)
    by_number whole o = record { number = number; node = node }
      where
        number : (x : ℕ) → Reached (IsRootOf roots o) Edge' x → (k : ℕ) × (IsNumber nodes x k × Reached (IsRootOf starts o) (Listed edges) k)
        number x (root r) = let t = a.all o x r in (t.0, (t.1.0, root t.1.1))
        number x (step w h e) =
            let t = number w h in
            let f = ⊎_elim (λ g. absurd (none_waits t.0 (rw whole at g))) (λ (h : FullAt Edge' nodes edges t.0). h) (a.full t.0 t.1.0.0) in
            let same : w ≡ f.0 = same_node nodes w f.0 t.0 t.1.0 f.1.0 in
            let u = f.1.1 x (subst (λ z. Edge' z x) same e) in
            (u.0, (u.1.0, step t.0 t.1.1 u.1.1))

        node : (k : ℕ) → Reached (IsRootOf starts o) (Listed edges) k → (x : ℕ) × (IsNumber nodes x k × Reached (IsRootOf roots o) Edge' x)
        node k (root r) = let t = a.only o k r in (t.0, (t.1.0, root t.1.1))
        node k (step w h e) =
            let t = node w h in
            let f = a.listed w k e in
            let same : t.0 ≡ f.0 = same_node nodes t.0 f.0 w t.1.0 f.1.1.0 in
            (f.1.0, (f.1.1.1.0, step t.0 t.1.1 (subst (λ z. Edge' z f.1.0) (sym same) f.1.1.1.1)))
