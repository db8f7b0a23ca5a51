use Rattle.std.proofs.Common.{◌⊎◌, inl, inr, ⊎_elim}
use Rattle.wasm_types.specs.declared.place.Node.{Node}
use Rattle.slice_closure.specs.declared.items.Item.{Item}
use Rattle.slice_closure.specs.declared.items.Item.TheVariants.{Needs}
use Rattle.slice_closure.specs.Flow.{ways_to}
use Rattle.slice_closure.specs.Next.{FromEach, Arrives}
use Rattle.slice_closure.specs.Runs.{Lands, Short}
use Rattle.slice_closure.proofs.Pushes.{numbered_same, numbered_both}
use Rattle.slice_closure.proofs.search.Closing.push_before.Goals as goal

pub returns : goal.returns
returns c =
    let t = c.args.self.now.tables in
    let N = c.args.self.now.numbering.nodes in
    let P : Item → Type 0 = λ j. (b : Node) × (Arrives t c.args.point b × Lands t c.args.loc b j) in
    let Q : Item → Type 0 = FromEach (ways_to t.flow.now.before.items c.args.point) (Lands t c.args.loc) in
    numbered_same N (λ j. P j ⊎ Q j) (Short t (Needs c.args.loc c.args.point)) c.args.next.now.items c.push_ways.new.next.items
    (λ j h. ⊎_elim (λ (b, (a, on)). (b, (inl a, on))) (λ (b, (w, on)). (b, (inr w, on))) h)
    (λ j (b, (comes, on)). ⊎_elim (λ a. inl (b, (a, on))) (λ w. inr (b, (w, on))) comes)
    (numbered_both N P Q c.args.next.now.items c.push_came.new.next.items c.push_ways.new.next.items c.in_ok-push_came.ensures c.in_ok-push_ways.ensures)
