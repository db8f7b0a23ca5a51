-- The rows that a search tells, bit by bit.
use Rattle.std.proofs.Common.{◌≡◌, ◌↔◌, ℕ, ◌+◌, ◌<◌, ◌≤◌, Some, sym, ap, ◌∙◌, subst, inl, inr, ◌⊎◌, ⊎_elim, arith}
use Rattle.std.proofs.lemmas.Bool.{cases_lt}
use Rattle.wasm_types.specs.declared.place.Loc.{Loc}
use Rattle.wasm_types.specs.declared.place.Node.{Node}
use Rattle.worklist.specs.Bits.{HasBit}
use Rattle.sparse_reach.specs.declared.table.SparseRows.{SparseRows}
use Rattle.flow_domain.specs.Rows.{Output}
use Rattle.flow_domain.specs.Summaries.{row_number, column_number}
use Rattle.func_flow.specs.declared.items.Item.TheVariants.{Needed}
use Rattle.func_flow.specs.declared.numbering.Numbering.{Numbering}
use Rattle.wasm_types.specs.declared.place.Loc.TheVariants as loc
use Rattle.block_cfg.specs.Graph.{number}
use Rattle.func_flow.specs.Items.{item_number, IsItem, IsLoc}
use Rattle.func_flow.specs.Met.{IsMetAt, AnyRow, IsMet}
use Rattle.flow_domain.proofs.Summing.{among_some, row_once, column_once}

-- two relations of outputs and locations, of which the second has more
abbrev pub Grows : (Output → Loc → Type 0) → (Output → Loc → Type 0) → (Output → Loc → Type 0) → Type 0
Grows old more new = (o : Output) (x : Loc) → new o x ↔ (old o x ⊎ more o x)

module _ (met : SparseRows) (item globals params : ℕ) where
  -- a bit that is set
  pub bit_more : (row column : ℕ) (o' : Output) (x' : Loc) (old new : Output → Loc → Type 0) → row_number globals o' ≡ Some row
      → column_number globals params x' ≡ Some column → HasBit met.words met.bits item row → Grows old (λ o x. (o ≡ o') × (x ≡ x')) new
      → Grows old (IsMetAt met item globals params row column) new
  bit_more row column o' x' old new ro co bit g o x = (
    λ h. ⊎_elim (λ k. inl k) (λ (e, e'). inr (ap (row_number globals) e ∙ ro, (ap (column_number globals params) e' ∙ co, bit))) ((g o x).0 h),
    λ h. (g o x).1 (⊎_elim (λ k. inl k) (λ (r, (c, b)). inr (row_once globals o o' row r ro, column_once globals params x x' column c co)) h),
  )

  -- and one that isn't
  pub bit_none : (row column : ℕ) (old : Output → Loc → Type 0) → (HasBit met.words met.bits item row → ⊥)
      → Grows old (IsMetAt met item globals params row column) old
  bit_none row column old none o x = (λ h. inl h, λ h. ⊎_elim (λ k. k) (λ (r, (c, b)). absurd (none b)) h)

  pub rows_start : (column : ℕ) (old : Output → Loc → Type 0) → Grows old (AnyRow met item globals params 0 column) old
  rows_start column old o x = (λ h. inl h, λ h. ⊎_elim (λ k. k) (λ (row, (lt, m)). absurd (omega arith)) h)

  pub rows_next : (row column : ℕ) (old mid new : Output → Loc → Type 0) → Grows old (AnyRow met item globals params row column) mid
      → Grows mid (IsMetAt met item globals params row column) new → Grows old (AnyRow met item globals params (row + 1) column) new
  rows_next row column old mid new g h o x = (
    λ k. ⊎_elim
        (λ m. ⊎_elim (λ u. inl u) (λ (i, (lt, a)). inr (i, (omega arith, a))) ((g o x).0 m))
        (λ a. inr (row, (omega arith, a)))
        ((h o x).0 k),
    λ k. ⊎_elim
        (λ u. (h o x).1 (inl ((g o x).1 (inl u))))
        (λ (i, (lt, a)). elim (cases_lt i row) [
          | inl less ↦ (h o x).1 (inl ((g o x).1 (inr (i, (less, a)))))
          | inr ge ↦ let e : i ≡ row = omega arith in (h o x).1 (inr (subst (λ n. IsMetAt met item globals params n column o x) e a))
        ])
        k,
  )

module _ (met : SparseRows) (K : Numbering) (first : Node) (globals params : ℕ) where
  abbrev pub Columns : ℕ → Output → Loc → Type 0
  Columns n o x = IsMet met K first globals params n o x

  pub columns_start : (now : Output → Loc → Type 0) → ((o : Output) (x : Loc) → now o x → ⊥) → (o : Output) (x : Loc) → now o x ↔ Columns 0 o x
  columns_start now none o x = (λ h. absurd (none o x h), λ (c, (lt, m)). absurd (omega arith))

  -- one column more, that of the location y
  pub columns_next : (column : ℕ) (y : Loc) (now next : Output → Loc → Type 0) → column_number globals params y ≡ Some column
      → ((o : Output) (x : Loc) → now o x ↔ Columns column o x)
      → Grows now (AnyRow met (item_number K (Needed y first)) globals params (5 + globals) column) next
      → (o : Output) (x : Loc) → next o x ↔ Columns (column + 1) o x
  columns_next column y now next is so g o x = (
    λ h. ⊎_elim
        (λ u. let c = (so o x).0 u in let lt = c.1.0 in (c.0, (omega arith, c.1.1)))
        (λ (row, (lt, (r, (c, b)))).
        let same : y ≡ x = column_once globals params y x column is c in
        (column, (omega arith, (row, (lt, (r, (c, subst (λ z. HasBit met.words met.bits (item_number K (Needed z first)) row) same b)))))))
        ((g o x).0 h),
    λ (i, (lt, a)). elim (cases_lt i column) [
      | inl less ↦ (g o x).1 (inl ((so o x).1 (i, (less, a))))
      | inr ge ↦
          let e : i ≡ column = omega arith in
          let b = subst (λ n. AnyRow met (item_number K (Needed x first)) globals params (5 + globals) n o x) e a in
          let same : x ≡ y = column_once globals params x y column b.1.1.1.0 is in
          (g o x).1 (inr (b.0, (b.1.0, (b.1.1.0, (b.1.1.1.0, subst (λ z. HasBit met.words met.bits (item_number K (Needed z first)) b.0) same b.1.1.1.1)))))
    ],
  )

-- ---- the item of an entry

entry_loc : (globals params locals : ℕ) (x : Loc) (c : ℕ) → column_number globals params x ≡ Some c → params ≤ locals → IsLoc globals locals x
entry_loc globals params locals (loc.Local k) c e le = let lt = (among_some (3 + globals) params k c e).0 in omega arith
entry_loc globals params locals (loc.Global k) c e le = (among_some 3 globals k c e).0
entry_loc globals params locals loc.Mem c e le = omega arith
entry_loc globals params locals loc.Size c e le = omega arith
entry_loc globals params locals loc.Host c e le = omega arith

pub entry_item : (K : Numbering) (globals params : ℕ) (first : Node) (x : Loc) (c : ℕ) → K.globals ≡ globals → params ≤ K.locals → number first < K.nodes
    → column_number globals params x ≡ Some c → IsItem K (Needed x first)
entry_item K globals params first x c same le lt is =
    (subst (λ g. IsLoc g K.locals x) (sym same) (entry_loc globals params K.locals x c is le), lt)
