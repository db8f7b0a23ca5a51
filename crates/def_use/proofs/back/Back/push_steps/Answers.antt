use Rattle.std.proofs.Common.{inl, inr}
use Rattle.worklist.proofs.Pushing.{gains_then}
use Rattle.def_use.specs.Places.{Steps, IsEarlier, IsEntry}
use Rattle.def_use.proofs.back.Back.push_steps.Goals as goal

pub returns : goal.returns
returns c =
    let back = c.args.self.now in
    gains_then (IsEntry back.cfg.now c.args.place) (IsEarlier back.cfg.now back.skips.now back.places.now back.writers.now c.args.place)
    (Steps back.cfg.now back.skips.now back.places.now back.writers.now c.args.place) c.args.next.now.items c.push_entry.new.next.items
    c.push_earlier.new.next.items
    (λ y h. h) (λ y h. inl h) (λ y h. inr h) c.in_ok-push_entry.ensures c.in_ok-push_earlier.ensures
