use Rattle.std.proofs.Common.{sym, ◌∙◌}
use Rattle.slice_closure.specs.declared.spot.Touch.TheVariants as touch
use Rattle.slice_closure.specs.Flow.{touch_at}
use Rattle.slice_closure.specs.Next.{spot_in}
use Rattle.slice_closure.proofs.Pushes.{reads_fit, changes_fit, loads_fit, stores_fit, asked_same}
use Rattle.slice_closure.proofs.search.Closing.push_uses.Goals as goal

pub push-requires : goal.push-requires
push-requires c =
    let t = c.args.self.now.tables in (
      reads_fit c.args.self.now.numbering.locs (touch_at (spot_in t c.args.pos.0)) c.in-Reads.loc (c.args.self.now.fits.uses c.args.pos.0)
          (sym c.touch.ensures ∙ c.in-Reads.is),
      c.requires,
    )

pub push-requires-in-Changes : goal.push-requires-in-Changes
push-requires-in-Changes c =
    let t = c.args.self.now.tables in (
      changes_fit c.args.self.now.numbering.locs (touch_at (spot_in t c.args.pos.0)) c.in-Changes.loc (c.args.self.now.fits.uses c.args.pos.0)
          (sym c.touch.ensures ∙ c.in-Changes.is),
      c.requires,
    )

pub push_memory-requires-clause-locs : goal.push_memory-requires-clause-locs
push_memory-requires-clause-locs c =
    loads_fit c.args.self.now.numbering.locs (touch_at (spot_in c.args.self.now.tables c.args.pos.0)) (c.args.self.now.fits.uses c.args.pos.0)
    (sym c.touch.ensures ∙ c.in-Loads.is)

pub push_memory-requires-in-Stores-clause-locs : goal.push_memory-requires-in-Stores-clause-locs
push_memory-requires-in-Stores-clause-locs c =
    stores_fit c.args.self.now.numbering.locs (touch_at (spot_in c.args.self.now.tables c.args.pos.0)) (c.args.self.now.fits.uses c.args.pos.0)
    (sym c.touch.ensures ∙ c.in-Stores.is)

pub returns-in_ok-push-in-Reads : goal.returns-in_ok-push-in-Reads
returns-in_ok-push-in-Reads c =
    asked_same c.args.self.now.numbering.nodes (touch_at (spot_in c.args.self.now.tables c.args.pos.0)) (touch.Reads c.in-Reads.loc) c.args.pos.0
    c.args.next.now.items c.push.new.next.items (sym c.touch.ensures ∙ c.in-Reads.is) c.in_ok-push-in-Reads.ensures

pub returns-in_ok-push-in-Changes : goal.returns-in_ok-push-in-Changes
returns-in_ok-push-in-Changes c =
    asked_same c.args.self.now.numbering.nodes (touch_at (spot_in c.args.self.now.tables c.args.pos.0)) (touch.Changes c.in-Changes.loc) c.args.pos.0
    c.args.next.now.items c.push-in-Changes.new.next.items (sym c.touch.ensures ∙ c.in-Changes.is) c.in_ok-push-in-Changes.ensures

pub returns-in_ok-push_memory-in-Loads : goal.returns-in_ok-push_memory-in-Loads
returns-in_ok-push_memory-in-Loads c =
    asked_same c.args.self.now.numbering.nodes (touch_at (spot_in c.args.self.now.tables c.args.pos.0)) touch.Loads c.args.pos.0
    c.args.next.now.items c.push_memory.new.next.items (sym c.touch.ensures ∙ c.in-Loads.is) c.in_ok-push_memory-in-Loads.ensures

pub returns-in_ok-push_memory-in-Stores : goal.returns-in_ok-push_memory-in-Stores
returns-in_ok-push_memory-in-Stores c =
    asked_same c.args.self.now.numbering.nodes (touch_at (spot_in c.args.self.now.tables c.args.pos.0)) touch.Stores c.args.pos.0
    c.args.next.now.items c.push_memory-in-Stores.new.next.items (sym c.touch.ensures ∙ c.in-Stores.is) c.in_ok-push_memory-in-Stores.ensures
