use Rattle.std.proofs.Common.{◌≡◌, ◌++◌, drop}
use Rattle.report_text.specs.Listing.{nodes_after}
use Rattle.report_text.specs.Drafts.{written}
use Rattle.report_text.proofs.listing.push_nodes.Given as goal

abbrev pub invariant-loop-node : goal.invariant-loop-node
invariant-loop-node l = written l.out ++ nodes_after (drop l.node-index l.nodes) ≡ written l.initial.out ++ nodes_after l.nodes
