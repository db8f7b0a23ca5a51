use Rattle.std.proofs.Common.{◌≡◌, length, take}
use Rattle.std.specs.List.{Contains}
use Rattle.worklist.specs.Search.{Lists, Meets}
use Rattle.worklist.proofs.search.Search.meet_each.Given as goal

abbrev pub invariant-loop-node : goal.invariant-loop-node
invariant-loop-node l = record {
  length_is : length l.self.marks.items ≡ length l.initial.self.marks.items;
  meets : Meets (Contains (take l.node-index l.nodes)) l.initial.self.marks.items l.self.marks.items l.initial.self.waiting.items l.self.waiting.items;
  lists : Lists l.initial.self.marks.items l.initial.self.met.items → Lists l.self.marks.items l.self.met.items;
}
