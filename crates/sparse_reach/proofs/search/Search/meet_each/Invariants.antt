use Rattle.std.proofs.Common.{◌≡◌, length, take}
use Rattle.std.specs.List.{Contains}
use Rattle.worklist.specs.Search.{Meets}
use Rattle.sparse_reach.specs.Flags.{flags}
use Rattle.sparse_reach.proofs.search.Search.meet_each.Given as goal

abbrev pub invariant-loop-node : goal.invariant-loop-node
invariant-loop-node l = record {
  length_is : length (flags l.self.marks.words) ≡ length (flags l.initial.self.marks.words);
  meets : Meets (Contains (take l.node-index l.nodes)) (flags l.initial.self.marks.words) (flags l.self.marks.words) l.initial.self.waiting.items l.self.waiting.items;
}
