use Rattle.std.proofs.Common.{◌≡◌}
use Rattle.wasm_types.specs.declared.place.Loc.TheVariants.{Mem, Size}
use Rattle.slice_closure.specs.declared.items.Item.TheVariants.{Needs}
use Rattle.slice_closure.proofs.Pushes.{numbered_both}
use Rattle.slice_closure.proofs.search.Closing.push_memory.Goals as goal

pub returns : goal.returns
returns c =
    numbered_both c.args.self.now.numbering.nodes (λ j. j ≡ Needs Mem c.args.point) (λ j. j ≡ Needs Size c.args.point) c.args.next.now.items
    c.push.new.next.items c.push-2.new.next.items c.in_ok-push.ensures c.in_ok-push-2.ensures
