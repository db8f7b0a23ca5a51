-- Items have numbers of their own.
use Rattle.std.proofs.Common.{◌≡◌, ℕ, ◌*◌, List, refl, sym, ap, ◌∙◌, subst, arith}
use Rattle.wasm_types.specs.declared.place.Loc.{Loc}
use Rattle.wasm_types.specs.declared.place.Loc.TheVariants as loc
use Rattle.block_cfg.specs.Graph.{number}
use Rattle.block_cfg.proofs.MemberLemmas.{number_injective}
use Rattle.worklist.specs.Gains.{Gains}
use Rattle.worklist.specs.Packed.{PackedEdge}
use Rattle.worklist.proofs.Pushing.{gains_same}
use Rattle.func_flow.specs.declared.items.Item.{Item}
use Rattle.func_flow.specs.declared.items.Item.TheVariants.{Value, Completion, Decider, Decided, Written, Needed}
use Rattle.func_flow.specs.declared.numbering.Numbering.{Numbering}
use Rattle.func_flow.specs.Items.{loc_number, IsLoc, HasLoc, node_of, kind_number, item_number, IsItem, Numbered}
use Rattle.slice_closure.proofs.Numbers.{row_one}

pub loc_injective : (g n : ℕ) (x y : Loc) → IsLoc g n x → IsLoc g n y → loc_number g x ≡ loc_number g y → x ≡ y
loc_injective g n loc.Mem loc.Mem ok ok' e = refl
loc_injective g n loc.Size loc.Size ok ok' e = refl
loc_injective g n loc.Host loc.Host ok ok' e = refl
loc_injective g n (loc.Local j) (loc.Local k) ok ok' e = let same : j ≡ k = omega arith in ap loc.Local same
loc_injective g n (loc.Global j) (loc.Global k) ok ok' e = let same : j ≡ k = omega arith in ap loc.Global same
loc_injective g n loc.Mem loc.Size ok ok' e = absurd (omega arith)
loc_injective g n loc.Mem loc.Host ok ok' e = absurd (omega arith)
loc_injective g n loc.Mem (loc.Local k) ok ok' e = absurd (omega arith)
loc_injective g n loc.Mem (loc.Global k) ok ok' e = absurd (omega arith)
loc_injective g n loc.Size loc.Mem ok ok' e = absurd (omega arith)
loc_injective g n loc.Size loc.Host ok ok' e = absurd (omega arith)
loc_injective g n loc.Size (loc.Local k) ok ok' e = absurd (omega arith)
loc_injective g n loc.Size (loc.Global k) ok ok' e = absurd (omega arith)
loc_injective g n loc.Host loc.Mem ok ok' e = absurd (omega arith)
loc_injective g n loc.Host loc.Size ok ok' e = absurd (omega arith)
loc_injective g n loc.Host (loc.Local k) ok ok' e = absurd (omega arith)
loc_injective g n loc.Host (loc.Global k) ok ok' e = absurd (omega arith)
loc_injective g n (loc.Local j) loc.Mem ok ok' e = absurd (omega arith)
loc_injective g n (loc.Local j) loc.Size ok ok' e = absurd (omega arith)
loc_injective g n (loc.Local j) loc.Host ok ok' e = absurd (omega arith)
loc_injective g n (loc.Local j) (loc.Global k) ok ok' e = absurd (omega arith)
loc_injective g n (loc.Global j) loc.Mem ok ok' e = absurd (omega arith)
loc_injective g n (loc.Global j) loc.Size ok ok' e = absurd (omega arith)
loc_injective g n (loc.Global j) loc.Host ok ok' e = absurd (omega arith)
loc_injective g n (loc.Global j) (loc.Local k) ok ok' e = absurd (omega arith)

-- an item by its node and what is asked of it
same_item : (g n : ℕ) (i j : Item) → HasLoc g n i → HasLoc g n j → kind_number g i ≡ kind_number g j → node_of i ≡ node_of j → i ≡ j
same_item g n (Value a) (Value b) ok ok' e same = ap Value same
same_item g n (Completion a) (Completion b) ok ok' e same = ap Completion same
same_item g n (Decider a) (Decider b) ok ok' e same = ap Decider same
same_item g n (Decided a) (Decided b) ok ok' e same = ap Decided same
same_item g n (Written x a) (Written y b) ok ok' e same =
    let one : x ≡ y = loc_injective g n x y ok ok' (omega arith) in ap (λ z. Written z a) one ∙ ap (λ z. Written y z) same
same_item g n (Needed x a) (Needed y b) ok ok' e same =
    let one : x ≡ y = loc_injective g n x y ok ok' (omega arith) in ap (λ z. Needed z a) one ∙ ap (λ z. Needed y z) same
same_item g n (Value a) (Completion b) ok ok' e same = absurd (omega arith)
same_item g n (Value a) (Decider b) ok ok' e same = absurd (omega arith)
same_item g n (Value a) (Decided b) ok ok' e same = absurd (omega arith)
same_item g n (Value a) (Written y b) ok ok' e same = absurd (omega arith)
same_item g n (Value a) (Needed y b) ok ok' e same = absurd (omega arith)
same_item g n (Completion a) (Value b) ok ok' e same = absurd (omega arith)
same_item g n (Completion a) (Decider b) ok ok' e same = absurd (omega arith)
same_item g n (Completion a) (Decided b) ok ok' e same = absurd (omega arith)
same_item g n (Completion a) (Written y b) ok ok' e same = absurd (omega arith)
same_item g n (Completion a) (Needed y b) ok ok' e same = absurd (omega arith)
same_item g n (Decider a) (Value b) ok ok' e same = absurd (omega arith)
same_item g n (Decider a) (Completion b) ok ok' e same = absurd (omega arith)
same_item g n (Decider a) (Decided b) ok ok' e same = absurd (omega arith)
same_item g n (Decider a) (Written y b) ok ok' e same = absurd (omega arith)
same_item g n (Decider a) (Needed y b) ok ok' e same = absurd (omega arith)
same_item g n (Decided a) (Value b) ok ok' e same = absurd (omega arith)
same_item g n (Decided a) (Completion b) ok ok' e same = absurd (omega arith)
same_item g n (Decided a) (Decider b) ok ok' e same = absurd (omega arith)
same_item g n (Decided a) (Written y b) ok ok' e same = absurd (omega arith)
same_item g n (Decided a) (Needed y b) ok ok' e same = absurd (omega arith)
same_item g n (Written x a) (Value b) ok ok' e same = absurd (omega arith)
same_item g n (Written x a) (Completion b) ok ok' e same = absurd (omega arith)
same_item g n (Written x a) (Decider b) ok ok' e same = absurd (omega arith)
same_item g n (Written x a) (Decided b) ok ok' e same = absurd (omega arith)
same_item g n (Written x a) (Needed y b) ok ok' e same = absurd (omega arith)
same_item g n (Needed x a) (Value b) ok ok' e same = absurd (omega arith)
same_item g n (Needed x a) (Completion b) ok ok' e same = absurd (omega arith)
same_item g n (Needed x a) (Decider b) ok ok' e same = absurd (omega arith)
same_item g n (Needed x a) (Decided b) ok ok' e same = absurd (omega arith)
same_item g n (Needed x a) (Written y b) ok ok' e same = absurd (omega arith)

pub item_one : (K : Numbering) (i j : Item) → IsItem K i → IsItem K j → item_number K i ≡ item_number K j → i ≡ j
item_one K i j ok ok' e =
    let a = kind_number K.globals i in
    let b = kind_number K.globals j in
    let one : a ≡ b = row_one K.nodes a b (number (node_of i)) (number (node_of j)) ok.1 ok'.1 e in
    let rows : a * K.nodes ≡ b * K.nodes = ap (λ k. k * K.nodes) one in
    let here : number (node_of i) ≡ number (node_of j) = omega arith in
    same_item K.globals K.locals i j ok.0 ok'.0 one (number_injective (node_of i) (node_of j) here)

-- what an item leads to is what its number leads to
pub packed_gains : (K : Numbering) (Edge : Item → Item → Type 0) (i : Item) (x : ℕ) (old new : List ℕ) → IsItem K i → item_number K i ≡ x
    → Gains (Numbered K (Edge i)) old new → Gains (PackedEdge (IsItem K) (item_number K) Edge x) old new
packed_gains K Edge i x old new ok is gained =
    gains_same (Numbered K (Edge i)) (PackedEdge (IsItem K) (item_number K) Edge x) old new
    (λ y (j, (e, to)). (i, (j, (sym is, (to, (ok, e))))))
    (λ y (k, (j, (from, (to, (valid, e))))). (j, (subst (λ z. Edge z j) (item_one K k i valid ok (sym from ∙ sym is)) e, to)))
    gained
