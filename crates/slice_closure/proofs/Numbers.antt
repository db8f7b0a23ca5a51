-- Items have numbers of their own.
use Rattle.std.proofs.Common.{◌≡◌, ℕ, suc, ◌+◌, ◌*◌, ◌<◌, ◌≤◌, List, inl, inr, refl, sym, ap, ◌∙◌, subst, arith}
use Rattle.std.proofs.lemmas.Bool.{cases_lt}
use Rattle.std.proofs.Math.Nat.{mul-le-mul_right}
use Rattle.wasm_types.specs.declared.place.Loc.{Loc}
use Rattle.wasm_types.specs.declared.place.Loc.TheVariants as loc
use Rattle.block_cfg.specs.Graph.{number}
use Rattle.block_cfg.proofs.MemberLemmas.{number_injective}
use Rattle.worklist.specs.Gains.{Gains}
use Rattle.worklist.specs.Packed.{PackedEdge}
use Rattle.worklist.proofs.Pushing.{gains_same}
use Rattle.called_rows.specs.Locs.{loc_number as outer_number, IsLoc}
use Rattle.slice_closure.specs.declared.items.Item.{Item}
use Rattle.slice_closure.specs.declared.items.Item.TheVariants.{Keeps, Value, Written, Needs}
use Rattle.slice_closure.specs.Items.{loc_number, node_of, kind_number, item_number, IsItem, Numbered}

pub loc_injective : (x y : Loc) → loc_number x ≡ loc_number y → x ≡ y
loc_injective loc.Mem loc.Mem e = refl
loc_injective loc.Size loc.Size e = refl
loc_injective loc.Host loc.Host e = refl
loc_injective (loc.Local j) (loc.Local k) e = let same : j ≡ k = omega arith in ap loc.Local same
loc_injective (loc.Global j) (loc.Global k) e = let same : j ≡ k = omega arith in ap loc.Global same
loc_injective loc.Mem loc.Size e = absurd (omega arith)
loc_injective loc.Mem loc.Host e = absurd (omega arith)
loc_injective loc.Mem (loc.Local k) e = absurd (omega arith)
loc_injective loc.Mem (loc.Global k) e = absurd (omega arith)
loc_injective loc.Size loc.Mem e = absurd (omega arith)
loc_injective loc.Size loc.Host e = absurd (omega arith)
loc_injective loc.Size (loc.Local k) e = absurd (omega arith)
loc_injective loc.Size (loc.Global k) e = absurd (omega arith)
loc_injective loc.Host loc.Mem e = absurd (omega arith)
loc_injective loc.Host loc.Size e = absurd (omega arith)
loc_injective loc.Host (loc.Local k) e = absurd (omega arith)
loc_injective loc.Host (loc.Global k) e = absurd (omega arith)
loc_injective (loc.Local j) loc.Mem e = absurd (omega arith)
loc_injective (loc.Local j) loc.Size e = absurd (omega arith)
loc_injective (loc.Local j) loc.Host e = absurd (omega arith)
loc_injective (loc.Local j) (loc.Global k) e = absurd (omega arith)
loc_injective (loc.Global j) loc.Mem e = absurd (omega arith)
loc_injective (loc.Global j) loc.Size e = absurd (omega arith)
loc_injective (loc.Global j) loc.Host e = absurd (omega arith)
loc_injective (loc.Global j) (loc.Local k) e = absurd (omega arith)

-- the module's locations that are no locals have numbers of their own, too
pub outer_once : (g : ℕ) (x y : Loc) → IsLoc g 0 x → IsLoc g 0 y → outer_number g x ≡ outer_number g y → x ≡ y
outer_once g loc.Mem loc.Mem ok ok' e = refl
outer_once g loc.Mem loc.Size ok ok' e = absurd (omega arith)
outer_once g loc.Mem loc.Host ok ok' e = absurd (omega arith)
outer_once g loc.Mem (loc.Local k) ok ok' e = absurd (omega arith)
outer_once g loc.Mem (loc.Global k) ok ok' e = absurd (omega arith)
outer_once g loc.Size loc.Mem ok ok' e = absurd (omega arith)
outer_once g loc.Size loc.Size ok ok' e = refl
outer_once g loc.Size loc.Host ok ok' e = absurd (omega arith)
outer_once g loc.Size (loc.Local k) ok ok' e = absurd (omega arith)
outer_once g loc.Size (loc.Global k) ok ok' e = absurd (omega arith)
outer_once g loc.Host loc.Mem ok ok' e = absurd (omega arith)
outer_once g loc.Host loc.Size ok ok' e = absurd (omega arith)
outer_once g loc.Host loc.Host ok ok' e = refl
outer_once g loc.Host (loc.Local k) ok ok' e = absurd (omega arith)
outer_once g loc.Host (loc.Global k) ok ok' e = absurd (omega arith)
outer_once g (loc.Local j) loc.Mem ok ok' e = absurd (omega arith)
outer_once g (loc.Local j) loc.Size ok ok' e = absurd (omega arith)
outer_once g (loc.Local j) loc.Host ok ok' e = absurd (omega arith)
outer_once g (loc.Local j) (loc.Local k) ok ok' e = absurd (omega arith)
outer_once g (loc.Local j) (loc.Global k) ok ok' e = absurd (omega arith)
outer_once g (loc.Global j) loc.Mem ok ok' e = absurd (omega arith)
outer_once g (loc.Global j) loc.Size ok ok' e = absurd (omega arith)
outer_once g (loc.Global j) loc.Host ok ok' e = absurd (omega arith)
outer_once g (loc.Global j) (loc.Local k) ok ok' e = absurd (omega arith)
outer_once g (loc.Global j) (loc.Global k) ok ok' e = let same : j ≡ k = omega arith in ap loc.Global same

-- two rows of numbers below N meet in one alone
row_less : (N a b i j : ℕ) → i < N → a * N + i ≡ b * N + j → a < b → ⊥
row_less N a b i j lt e less =
    let le : suc a * N ≤ b * N = mul-le-mul_right N (let le : suc a ≤ b = omega arith in le) in
    let more : suc a * N ≡ a * N + N = omega arith in
    omega arith

pub row_one : (N a b i j : ℕ) → i < N → j < N → a * N + i ≡ b * N + j → a ≡ b
row_one N a b i j lt lt' e = elim (cases_lt a b) [
  | inl less ↦ absurd (row_less N a b i j lt e less)
  | inr le ↦ elim (cases_lt b a) [
    | inl less ↦ absurd (row_less N b a j i lt' (sym e) less)
    | inr ge ↦ omega arith
  ]
]

-- an item by its node and what is asked of it
same_item : (i j : Item) → kind_number i ≡ kind_number j → node_of i ≡ node_of j → i ≡ j
same_item (Keeps n) (Keeps m) e same = ap Keeps same
same_item (Value n) (Value m) e same = ap Value same
same_item (Written x n) (Written y m) e same =
    let one : x ≡ y = loc_injective x y (omega arith) in ap (λ z. Written z n) one ∙ ap (λ z. Written y z) same
same_item (Needs x n) (Needs y m) e same = let one : x ≡ y = loc_injective x y (omega arith) in ap (λ z. Needs z n) one ∙ ap (λ z. Needs y z) same
same_item (Keeps n) (Value m) e same = absurd (omega arith)
same_item (Keeps n) (Written y m) e same = absurd (omega arith)
same_item (Keeps n) (Needs y m) e same = absurd (omega arith)
same_item (Value n) (Keeps m) e same = absurd (omega arith)
same_item (Value n) (Written y m) e same = absurd (omega arith)
same_item (Value n) (Needs y m) e same = absurd (omega arith)
same_item (Written x n) (Keeps m) e same = absurd (omega arith)
same_item (Written x n) (Value m) e same = absurd (omega arith)
same_item (Written x n) (Needs y m) e same = absurd (omega arith)
same_item (Needs x n) (Keeps m) e same = absurd (omega arith)
same_item (Needs x n) (Value m) e same = absurd (omega arith)
same_item (Needs x n) (Written y m) e same = absurd (omega arith)

pub item_one : (N L : ℕ) (i j : Item) → IsItem N L i → IsItem N L j → item_number N i ≡ item_number N j → i ≡ j
item_one N L i j ok ok' e =
    let a = kind_number i in
    let b = kind_number j in
    let one : a ≡ b = row_one N a b (number (node_of i)) (number (node_of j)) ok.1 ok'.1 e in
    let rows : a * N ≡ b * N = ap (λ k. k * N) one in
    let here : number (node_of i) ≡ number (node_of j) = omega arith in
    same_item i j one (number_injective (node_of i) (node_of j) here)

-- what an item leads to is what its number leads to
pub packed_gains : (N L : ℕ) (Edge : Item → Item → Type 0) (i : Item) (x : ℕ) (old new : List ℕ) → IsItem N L i → item_number N i ≡ x
    → Gains (Numbered N (Edge i)) old new → Gains (PackedEdge (IsItem N L) (item_number N) Edge x) old new
packed_gains N L Edge i x old new ok is gained =
    gains_same (Numbered N (Edge i)) (PackedEdge (IsItem N L) (item_number N) Edge x) old new
    (λ y (j, (e, to)). (i, (j, (sym is, (to, (ok, e))))))
    (λ y (k, (j, (from, (to, (valid, e))))). (j, (subst (λ z. Edge z j) (item_one N L k i valid ok (sym from ∙ sym is)) e, to)))
    gained
