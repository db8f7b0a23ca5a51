use Rattle.std.proofs.Common.{◌≡◌}
use Rattle.slice_closure.specs.Runs.{Lands}
use Rattle.slice_closure.proofs.Pushes.{numbered_same}
use Rattle.slice_closure.proofs.search.Closing.push_earlier.Goals as goal

pub returns : goal.returns
returns c =
    numbered_same c.args.self.now.numbering.nodes (λ j. j ≡ c.passed-item.result) (Lands c.args.self.now.tables c.args.loc c.args.point) c.args.next.now.items
    c.push.new.next.items
    (λ j. (c.passed-item.ensures.exact j).1) (λ j. (c.passed-item.ensures.exact j).0) c.in_ok-push.ensures
