-- What the search by numbers meets, in terms of items.
use Rattle.std.proofs.Common.{◌≡◌, ◌↔◌, ℕ, ◌+◌, ◌*◌, ◌<◌, ◌≤◌, List, [], Bool, true, false, Option, Some, None, nat_lt, if◌then◌else◌, refl, sym, subst, inl, inr, ⊎_elim, arith}
use Rattle.std.specs.Prelude.{slice_index_or}
use Rattle.std.specs.List.{All, Contains}
use Rattle.std.proofs.Math.Nat.{mul-le-mul_right}
use Rattle.std.proofs.lemmas.List.Elements.{All-contains}
use Rattle.wasm_types.specs.declared.module.Pos.{Pos}
use Rattle.wasm_types.specs.declared.place.Node.{Node}
use Rattle.wasm_types.specs.Nodes.{At}
use Rattle.block_cfg.specs.Graph.{number}
use Rattle.worklist.specs.Gains.{Gains}
use Rattle.worklist.specs.Packed.{PackedRoot, PackedEdge, Packs}
use Rattle.worklist.specs.Reached.{Reached, root, step}
use Rattle.worklist.specs.Search.{IsMarked}
use Rattle.worklist.proofs.Reaching.{reached_more, packed_reached}
use Rattle.stack_names.specs.declared.place.Place.{Place}
use Rattle.called_rows.specs.declared.instrs.Whom.{Whom}
use Rattle.slice_closure.specs.declared.tables.Tables.{Tables}
use Rattle.slice_closure.specs.declared.items.Item.{Item}
use Rattle.slice_closure.specs.declared.items.Item.TheVariants.{Keeps}
use Rattle.slice_closure.specs.Items.{item_number, IsItem, Numbered}
use Rattle.slice_closure.specs.Next.{operands_at, whom_in, value_by, value_item, First, Next, Fits}
use Rattle.slice_closure.specs.Runs.{Short}
use Rattle.slice_closure.specs.NextLaws.{value_fits, short_item, item_below}
use Rattle.slice_closure.proofs.Numbers.{item_one}
use Rattle.slice_closure.proofs.Right.{all_from}
use Rattle.slice_closure.proofs.RunLemmas.{keeps_met, values_met}

nothing_there : (x : ℕ) → Contains [] x → ⊥
nothing_there x (k, lt, is) = omega arith

is_below : (a b : ℕ) → nat_lt a b ≡ true → a < b
is_below a b e = grind arith

not_below : (a b : ℕ) → nat_lt a b ≡ false → a < b → ⊥
not_below a b e lt = grind arith

module _ (N L : ℕ) (t : Tables) (at : Pos) (fits : Fits N L t) (fit : number (At at.0) < N) where
  value_there : (n : Node) → number n < N → IsItem N L (value_item t n)
  value_there n lt = value_fits N L (whom_in t n) n lt

  node_below : (w : Option Whom) (n : Node) → IsItem N L (value_by w n) → number n < N
  node_below None n ok = ok.1
  node_below (Some w) n ok = ok.1

  first_item : (j : Item) → First t at j → IsItem N L j
  first_item j (inl e) = subst (IsItem N L) (sym e) (value_there (At at.0) fit)
  first_item j (inr (place, (has, e))) =
      subst (IsItem N L) (sym e) (value_there place.maker
      (All-contains (λ (q : Place). number q.maker < N) (operands_at t at.0) place (fits.operands at.0) has))

  met_item : (i : Item) → Reached (First t at) (Short t) i → IsItem N L i
  met_item i (root h) = first_item i h
  met_item i (step w h e) = short_item N L t fits w (met_item w h) i e

  packs : Packs (IsItem N L) (item_number N) (First t at) (Short t)
  packs = record { injective = λ i j v v' e. item_one N L i j v v' e; roots = first_item; edges = λ i j v e. short_item N L t fits i v j e }

  -- the numbers at which the search begins
  pub first_below : (list roots : List ℕ) → Gains (Numbered N (First t at)) [] list → roots ≡ list → All (λ x. x < (2 * L + 2) * N) roots
  first_below list roots gained is = all_from (λ (x : ℕ). x < (2 * L + 2) * N) roots (λ x has.
      ⊎_elim (λ none. absurd (nothing_there x none))
      (λ (j, (first, e)). subst (λ k. k < (2 * L + 2) * N) (sym e) (item_below N L j (first_item j first)))
      (gained.only x (subst (λ (zs : List ℕ). Contains zs x) is has)))

  abbrev Begins : ℕ → Type 0
  Begins = PackedRoot (item_number N) (First t at)

  abbrev Edge : ℕ → ℕ → Type 0
  Edge = PackedEdge (IsItem N L) (item_number N) (Short t)

  -- the marks of a search from there tell the items that are met
  module _ (list roots : List ℕ) (gained : Gains (Numbered N (First t at)) [] list) (is : roots ≡ list) (marks : List Bool)
      (exact : (x : ℕ) → IsMarked marks x ↔ Reached (Contains roots) (PackedEdge (IsItem N L) (item_number N) (Short t)) x) where
    in_first : (x : ℕ) → Contains roots x → Begins x
    in_first x has = ⊎_elim (λ none. absurd (nothing_there x none)) (λ (j, (first, e)). (j, (e, first)))
        (gained.only x (subst (λ (zs : List ℕ). Contains zs x) is has))

    first_in : (x : ℕ) → Begins x → Contains roots x
    first_in x (j, (e, first)) = subst (λ (zs : List ℕ). Contains zs x) (sym is) (gained.all x (j, (first, e)))

    marked_met : (i : Item) → IsItem N L i → IsMarked marks (item_number N i) ↔ Reached (First t at) (Short t) i
    marked_met i ok = (
      λ on. (packed_reached (IsItem N L) (item_number N) (First t at) (Short t) packs i ok).0
          (reached_more (Contains roots) Begins Edge Edge in_first (λ x y e. e) (item_number N i) ((exact (item_number N i)).0 on)),
      λ met. (exact (item_number N i)).1 (reached_more Begins (Contains roots) Edge Edge first_in (λ x y e. e) (item_number N i)
          ((packed_reached (IsItem N L) (item_number N) (First t at) (Short t) packs i ok).1 met)),
    )

    -- the kept nodes
    pub search_exact : (n : Node) → ((number n < N) × IsMarked marks (number n)) ↔ Reached (First t at) (Next t) (Keeps n)
    search_exact n =
        let same : item_number N (Keeps n) ≡ number n = omega arith in
        let both = keeps_met t (First t at) n in (
          λ (lt, on). both.0 ((marked_met (Keeps n) (tt, lt)).0 (subst (IsMarked marks) (sym same) on)),
          λ met.
              let short = both.1 met in
              let lt : number n < N = (met_item (Keeps n) short).1 in
              (lt, subst (IsMarked marks) same ((marked_met (Keeps n) (tt, lt)).1 short)),
        )

    -- a test of the nodes whose value is met
    value_marked : (n : Node) (b : Bool) → nat_lt (number n) N ≡ b
        → (if b then slice_index_or marks (item_number N (value_item t n)) false else false) ≡ true ↔ Reached (First t at) (Next t) (value_item t n)
    value_marked n true e =
        let both = values_met t (First t at) n in
        let tells = marked_met (value_item t n) (value_there n (is_below (number n) N e)) in
        (λ on. both.0 (tells.0 on), λ met. tells.1 (both.1 met))
    value_marked n false e = (
      λ h. absurd cc,
      λ met.
          let short = (values_met t (First t at) n).1 met in
          absurd (not_below (number n) N e (node_below (whom_in t n) n (met_item (value_item t n) short))),
    )

    pub values_told : (makers : Node → Bool) × ((n : Node) → makers n ≡ true ↔ Reached (First t at) (Next t) (value_item t n))
    values_told = (
      λ n. if nat_lt (number n) N then slice_index_or marks (item_number N (value_item t n)) false else false,
      λ n. value_marked n (nat_lt (number n) N) refl,
    )

pub rows_enough : (L N : ℕ) → N ≤ (2 * L + 2) * N
rows_enough L N = omega (arith, mul-le-mul_right N (let le : 1 ≤ 2 * L + 2 = omega arith in le))
