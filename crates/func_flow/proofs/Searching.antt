-- What a search by numbers meets, in terms of items.
use Rattle.std.proofs.Common.{◌↔◌, ℕ, ◌+◌, ◌*◌, ◌<◌, List, [], get_or, sym, subst, inl, inr, ⊎_elim, arith}
use Rattle.std.specs.List.{All, Contains}
use Rattle.std.proofs.lemmas.List.Elements.{All-contains_itself}
use Rattle.worklist.specs.declared.labels.Root.{Root}
use Rattle.worklist.specs.Bits.{HasBit}
use Rattle.worklist.specs.Packed.{PackedRoot, PackedEdge, Packs}
use Rattle.worklist.specs.Reached.{Reached, root, step}
use Rattle.worklist.specs.Roots.{IsRootOf}
use Rattle.worklist.proofs.Reaching.{reached_more, packed_reached}
use Rattle.func_flow.specs.declared.items.Item.{Item}
use Rattle.func_flow.specs.declared.numbering.Numbering.{Numbering}
use Rattle.func_flow.specs.declared.runs.Runs.{Runs}
use Rattle.func_flow.specs.declared.tables.Tables.{Tables}
use Rattle.func_flow.specs.Items.{item_number, IsItem}
use Rattle.func_flow.specs.Next.{First, Next, Fits}
use Rattle.func_flow.specs.NextLaws.{next_item, first_item, item_below}
use Rattle.func_flow.specs.RunLaws.{short_item}
use Rattle.func_flow.specs.Runs.{IsInOrder, Short}
use Rattle.func_flow.specs.Roots.{Adds, Begins}
use Rattle.func_flow.proofs.Numbers.{item_one}

nothing_there : {A : Type 0} (x : A) → Contains [] x → ⊥
nothing_there x (k, lt, is) = omega arith

module _ (t : Tables) (fits : Fits t) (some : 0 < t.numbering.nodes) where
  abbrev K : Numbering
  K = t.numbering

  first_label : (label : ℕ) (j : Item) → First t label j → label < t.numbering.globals + 5
  first_label label j (inl (is, e)) = omega arith
  first_label label j (inr (inl (i, (lt, (is, rest))))) = omega arith
  first_label label j (inr (inr (is, rest))) = omega arith

  -- the roots have labels and numbers within bounds
  pub roots_below : (roots : List Root) → Adds (Begins t.numbering (First t)) [] roots
      → All (λ (r : Root). (r.label < t.numbering.globals + 5) × (r.node < (2 * (t.numbering.globals + t.numbering.locals) + 10) * t.numbering.nodes)) roots
  roots_below roots adds = λ k d lt.
      let r = get_or roots k d in
      ⊎_elim
      (λ none. absurd (nothing_there r none))
      (λ (j, (h, e)). (
        first_label r.label j h,
        subst (λ n. n < (2 * (t.numbering.globals + t.numbering.locals) + 10) * t.numbering.nodes) (sym e) (item_below K j (first_item t fits some r.label j h)),
      ))
      ((adds r).0 (All-contains_itself roots k d lt))

  module _ (label : ℕ) where
    met_item : (i : Item) → Reached (First t label) (Next t) i → IsItem K i
    met_item i (root h) = first_item t fits some label i h
    met_item i (step w h e) = next_item t fits w (met_item w h) i e

    module _ (r : Runs) (order : IsInOrder r) where
      packs : Packs (IsItem K) (item_number K) (First t label) (Short t r)
      packs = record {
        injective = λ i j v v' e. item_one K i j v v' e;
        roots = λ j h. first_item t fits some label j h;
        edges = λ i j v e. short_item t r fits order i v j e;
      }

      abbrev Starts : ℕ → Type 0
      Starts = PackedRoot (item_number t.numbering) (First t label)

      abbrev Edge : ℕ → ℕ → Type 0
      Edge = PackedEdge (IsItem t.numbering) (item_number t.numbering) (Short t r)

      -- the bits of a search tell the items that are met
      pub search_exact : (roots : List Root) → Adds (Begins t.numbering (First t)) [] roots → (words : ℕ) (bits : List ℕ)
          → ((x : ℕ)
          → HasBit words bits x label ↔ Reached (IsRootOf roots label) (PackedEdge (IsItem t.numbering) (item_number t.numbering) (Short t r)) x)
          → (i : Item) → IsItem t.numbering i → HasBit words bits (item_number t.numbering i) label ↔ Reached (First t label) (Short t r) i
      search_exact roots adds words bits exact i ok = (
        λ bit. (packed_reached (IsItem K) (item_number K) (First t label) (Short t r) packs i ok).0
            (reached_more (IsRootOf roots label) Starts Edge Edge in_first (λ x y e. e) (item_number K i) ((exact (item_number K i)).0 bit)),
        λ met. (exact (item_number K i)).1 (reached_more Starts (IsRootOf roots label) Edge Edge first_in (λ x y e. e) (item_number K i)
            ((packed_reached (IsItem K) (item_number K) (First t label) (Short t r) packs i ok).1 met)),
      )
        where
          in_first : (x : ℕ) → IsRootOf roots label x → Starts x
          in_first x has = ⊎_elim
              (λ none. absurd (nothing_there (record { label = label; node = x }) none))
              (λ (j, (h, e)). (j, (e, h)))
              ((adds (record { label = label; node = x })).0 has)

          first_in : (x : ℕ) → Starts x → IsRootOf roots label x
          first_in x (j, (e, h)) = (adds (record { label = label; node = x })).1 (inr (j, (h, e)))

  pub reached_item : (label : ℕ) (i : Item) → Reached (First t label) (Next t) i → IsItem t.numbering i
  reached_item label i h = met_item label i h
