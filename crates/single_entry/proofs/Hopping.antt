-- The table of near and far entries, as it grows point by point.
use Rattle.std.proofs.Common.{◌≡◌, ℕ, zero, suc, ◌+◌, ◌/◌, ◌%◌, ◌<◌, ◌≤◌, ◌⊎◌, inl, inr, ⊎_elim, List, [], ◌∷◌, ◌++◌, Option, Some, None}
use Rattle.std.proofs.Common.{IfSome, length, length-append, refl, sym, ap, subst, ◌∙◌, arith}
use Rattle.std.proofs.lemmas.Bool.{cases_lt, cases_eq}
use Rattle.std.specs.List.{slice_get}
use Rattle.std.proofs.lemmas.Option.{same_Some, none-some, slice_get_past}
use Rattle.wasm_types.specs.declared.place.Node.{Node}
use Rattle.wasm_types.specs.declared.place.Node.TheVariants.{Exit}
use Rattle.wasm_types.specs.Nodes.{At, Join}
use Rattle.block_cfg.specs.Graph.{Graph, number}
use Rattle.block_cfg.proofs.MemberLemmas.{number_injective}
use Rattle.single_entry.specs.declared.entry.Entry.{Entry}
use Rattle.single_entry.specs.declared.entry.Hop.{Hop}
use Rattle.single_entry.specs.declared.skips.Skips.{Skips}
use Rattle.single_entry.specs.Entries.{IsEntry}
use Rattle.single_entry.specs.Climbs.{hop_in, near_in, entry_of, IsQuiet, Climbs, stays, climbs, IsHop, AreHops, AreEntries}
use Rattle.single_entry.specs.Far.{IsJoined, IsFar, IsPushed, IsTable}
use Rattle.single_entry.proofs.Climbing.{climbs_on}

-- ---- far entries

-- an entry that covers less is quiet too
pub quiet_part : (writers : List ℕ) (part whole : Entry) → whole.low ≤ part.low → part.high ≤ whole.high → IsQuiet writers whole → IsQuiet writers part
quiet_part writers part whole low high quiet v has from less = quiet v has (omega arith) (omega arith)

pub far_near : (s : Skips) (near : Entry) → IsFar s near near
far_near s near = record {
  through = omega arith;
  low = omega arith;
  high = omega arith;
  leads = λ writers m a from to quiet. subst (λ z. Climbs s writers m z) (number_injective m a (from ∙ sym to)) stays;
}

pub far_joined : (s : Skips) → AreHops s → (near : Entry) (from middle : Node) (one two : Hop) → number from ≡ near.through
    → Some one ≡ hop_in (slice_get s (number from)) → number middle ≡ one.far.through → Some two ≡ hop_in (slice_get s (number middle))
    → (both far : Entry) → IsJoined one.far two.far both → IsJoined near both far → IsFar s near far
far_joined s hops near from middle one two at is at' is' both far join join' =
    let good : IsHop s (number from) one = hops (number from) one (sym is) in
    let good' : IsHop s (number middle) two = hops (number middle) two (sym is') in
    let lt = good.far in
    let lt' = good'.far in
    record {
      through = omega (arith, join.through, join'.through);
      low = join'.low_one;
      high = join'.high_one;
      leads = λ writers m a m_at a_at quiet.
          let onward = quiet_part writers both far join'.low_two join'.high_two quiet in
          climbs_on s writers m middle a
          (good.leads writers m middle (m_at ∙ sym at) at' (quiet_part writers one.far both join.low_one join.high_one onward))
          (good'.leads writers middle a refl (a_at ∙ join'.through ∙ join.through) (quiet_part writers two.far both join.low_two join.high_two onward));
    }

-- ---- lists with one element more

get_front : {A : Type 0} (xs ys : List A) (k : ℕ) → k < length xs → slice_get (xs ++ ys) k ≡ slice_get xs k
get_front [] ys k lt = absurd (omega arith)
get_front (x ∷ xs) ys zero lt = refl
get_front (x ∷ xs) ys (suc k) lt = get_front xs ys k (omega arith)

get_last : {A : Type 0} (xs : List A) (x : A) (k : ℕ) → k ≡ length xs → slice_get (xs ++ x ∷ []) k ≡ Some x
get_last [] x zero is = refl
get_last [] x (suc k) is = absurd (omega arith)
get_last (y ∷ xs) x zero is = absurd (omega arith)
get_last (y ∷ xs) x (suc k) is = get_last xs x k (omega arith)

-- a point of each number
node_at : (k : ℕ) → (n : Node) × (number n ≡ k)
node_at zero = (Exit, refl)
node_at (suc k) = elim (cases_eq (k % 2) 0) [
  | inl even ↦ (At (k / 2), omega arith)
  | inr odd ↦ (Join (k / 2), omega arith)
]

module _ (s : Skips) (hop : Option Hop) where
  -- the hop of a number is one from before, or the new one
  hop_cases : (k : ℕ) (h : Hop) → hop_in (slice_get (s ++ hop ∷ []) k) ≡ Some h → (hop_in (slice_get s k) ≡ Some h) ⊎ ((k ≡ length s) × (hop ≡ Some h))
  hop_cases k h is = elim (cases_lt k (length s)) [
    | inl less ↦ inl (ap hop_in (sym (get_front s (hop ∷ []) k less)) ∙ is)
    | inr ge ↦ elim (cases_eq k (length s)) [
      | inl same ↦ inr (same, ap hop_in (sym (get_last s hop k same)) ∙ is)
      | inr more ↦
          let past : slice_get (s ++ hop ∷ []) k ≡ None = slice_get_past (s ++ hop ∷ []) k (omega (arith, length-append s (hop ∷ []))) in
          absurd (none-some h (ap hop_in (sym past) ∙ is))
    ]
  ]

  hop_kept : (k : ℕ) (h : Hop) → hop_in (slice_get s k) ≡ Some h → hop_in (slice_get (s ++ hop ∷ []) k) ≡ Some h
  hop_kept k h is = elim (cases_lt k (length s)) [
    | inl less ↦ ap hop_in (get_front s (hop ∷ []) k less) ∙ is
    | inr ge ↦ absurd (none-some h (ap hop_in (sym (slice_get_past s k ge)) ∙ is))
  ]

  hop_new : (h : Hop) (k : ℕ) → k ≡ length s → hop ≡ Some h → hop_in (slice_get (s ++ hop ∷ []) k) ≡ Some h
  hop_new h k same is = ap hop_in (get_last s hop k same) ∙ is

-- an entry is the near one of a hop
near_some : (o : Option Hop) (e : Entry) → near_in o ≡ Some e → (h : Hop) × ((o ≡ Some h) × (h.near ≡ e))
near_some None e is = absurd (none-some e is)
near_some (Some h) e is = (h, (refl, same_Some h.near e is))

module _ (s : Skips) (hop : Option Hop) where
  entry_kept : (n : Node) (e : Entry) → entry_of s n ≡ Some e → entry_of (s ++ hop ∷ []) n ≡ Some e
  entry_kept n e is =
      let (h, (at, same)) = near_some (hop_in (slice_get s (number n))) e is in
      ap near_in (hop_kept s hop (number n) h at) ∙ ap Some same

  -- what was climbed can be climbed in the longer table
  climbs_kept : (writers : List ℕ) (n a : Node) → Climbs s writers n a → Climbs (s ++ hop ∷ []) writers n a
  climbs_kept writers n a stays = stays
  climbs_kept writers n a (climbs e from has is quiet more) = climbs e from (entry_kept n e has) is quiet (climbs_kept writers from a more)

  hop_is_kept : (k : ℕ) (h : Hop) → IsHop s k h → IsHop (s ++ hop ∷ []) k h
  hop_is_kept k h good = record {
    near = good.near;
    far = good.far;
    leads = λ writers n a from to quiet. climbs_kept writers n a (good.leads writers n a from to quiet);
  }

  hop_is_new : (k : ℕ) (h : Hop) → k ≡ length s → hop ≡ Some h → h.near.through < length s → IsFar s h.near h.far → IsHop (s ++ hop ∷ []) k h
  hop_is_new k h at is falls far =
      let le = far.through in
      record {
        near = omega arith;
        far = omega arith;
        leads = λ writers n a n_at a_at quiet.
            let (from, from_at) = node_at h.near.through in
            let has : entry_of (s ++ hop ∷ []) n ≡ Some h.near = ap near_in (hop_new s hop h (number n) (n_at ∙ at) is) in
            climbs h.near from has from_at (quiet_part writers h.near h.far far.low far.high quiet)
            (climbs_kept writers from a (far.leads writers from a from_at a_at quiet));
      }

  pub hops_pushed : AreHops s → IfSome hop (λ h. IsFar s h.near h.far) → IfSome (near_in hop) (λ e. e.through < length s) → AreHops (s ++ hop ∷ [])
  hops_pushed hops far falls k h is = ⊎_elim
      (λ old. hop_is_kept k h (hops k h old))
      (λ (at, new). hop_is_new k h at new
      (subst (λ o. IfSome (near_in o) (λ e. e.through < length s)) new falls)
      (subst (λ o. IfSome o (λ x. IsFar s x.near x.far)) new far))
      (hop_cases s hop k h is)

  entries_pushed : (g : Graph) → AreEntries g s → IfSome (near_in hop) (λ e. (n : Node) → number n ≡ length s → IsEntry g n e) → AreEntries g (s ++ hop ∷ [])
  entries_pushed g entries entry n e is =
      let (h, (at, same)) = near_some (hop_in (slice_get (s ++ hop ∷ []) (number n))) e is in
      ⊎_elim
      (λ old. entries n e (ap near_in old ∙ ap Some same))
      (λ (last, new). subst (IsEntry g n) same (subst (λ o. IfSome (near_in o) (λ x. (m : Node) → number m ≡ length s → IsEntry g m x)) new entry n last))
      (hop_cases s hop (number n) h at)

-- ---- the table

pub hops_grown : (old new : List (Option Hop)) (hop : Option Hop) (near : Option Entry) → AreHops old → IfSome near (λ e. e.through < length old)
    → near_in hop ≡ near → IfSome hop (λ h. IsFar old h.near h.far) → new ≡ old ++ hop ∷ [] → AreHops new
hops_grown old new hop near hops falls is far grown =
    subst AreHops (sym grown) (hops_pushed old hop hops far (subst (λ o. IfSome o (λ e. e.through < length old)) (sym is) falls))

pub table_empty : (g : Graph) → IsTable g 0 []
table_empty g = record {
  size = refl;
  hops = λ k hop is. absurd (none-some hop is);
  entries = λ n e is. absurd (none-some e is);
}

pub table_grown : (g : Graph) (count : ℕ) (old new : List (Option Hop)) (near : Option Entry) → IsTable g count old
    → IfSome near (λ e. (n : Node) → number n ≡ count → IsEntry g n e) → AreHops new → IsPushed old new near → IsTable g (count + 1) new
table_grown g count old new near table entry hops (hop, (is, grown)) =
    let size = table.size in
    let entry' : IfSome (near_in hop) (λ e. (n : Node) → number n ≡ length old → IsEntry g n e) =
    subst (λ k. IfSome (near_in hop) (λ e. (n : Node) → number n ≡ k → IsEntry g n e)) (sym size)
    (subst (λ o. IfSome o (λ e. (n : Node) → number n ≡ count → IsEntry g n e)) (sym is) entry) in
    record {
      size = ap length grown ∙ length-append old (hop ∷ []) ∙ ap (λ k. k + 1) size;
      hops = hops;
      entries = subst (AreEntries g) (sym grown) (entries_pushed old hop g table.entries entry');
    }
