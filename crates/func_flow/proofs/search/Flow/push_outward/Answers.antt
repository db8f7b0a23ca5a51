use Rattle.std.proofs.Common.{◌≡◌, ◌∙◌, sym, subst}
use Rattle.wasm_types.specs.declared.place.Node.{Node}
use Rattle.worklist.specs.Gains.{Gains}
use Rattle.func_flow.specs.Items.{Numbered}
use Rattle.func_flow.specs.Next.{Outward, holder_at}
use Rattle.func_flow.proofs.Pushes.{numbered_same}
use Rattle.func_flow.proofs.search.Flow.push_outward.Goals as goal

pub returns-in_ok-push_holder-in-At : goal.returns-in_ok-push_holder-in-At
returns-in_ok-push_holder-in-At c =
    subst (λ (n : Node). Gains (Numbered c.args.self.now.tables.numbering (Outward c.args.self.now.tables n)) c.args.next.now.items c.push_holder.new.next.items)
    (sym c.in-At.is) c.in_ok-push_holder-in-At.ensures

pub returns-in_ok-push-in-Join : goal.returns-in_ok-push-in-Join
returns-in_ok-push-in-Join c =
    subst (λ (n : Node). Gains (Numbered c.args.self.now.tables.numbering (Outward c.args.self.now.tables n)) c.args.next.now.items c.push.new.next.items)
    (sym c.in-Join.is)
    (numbered_same c.args.self.now.tables.numbering (λ j. j ≡ c.holder.result) (λ j. j ≡ holder_at c.args.self.now.tables c.in-Join.block) c.args.next.now.items
    c.push.new.next.items (λ j e. e ∙ c.holder.ensures) (λ j e. e ∙ sym c.holder.ensures) c.in_ok-push-in-Join.ensures)
