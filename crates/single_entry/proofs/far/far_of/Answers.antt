use Rattle.single_entry.proofs.Hopping.{far_near, far_joined}
use Rattle.single_entry.proofs.far.far_of.Goals as goal

pub returns-in_default : goal.returns-in_default
returns-in_default c = far_near c.args.hops.now c.args.near

pub returns-in_default-hop_at : goal.returns-in_default-hop_at
returns-in_default-hop_at c = far_near c.args.hops.now c.args.near

pub returns-then-not-is_halfway : goal.returns-then-not-is_halfway
returns-then-not-is_halfway c = far_near c.args.hops.now c.args.near

pub returns : goal.returns
returns c =
    far_joined c.args.hops.now c.requires.hops c.args.near c.point_of_number.result c.point_of_number-middle.result c.in-Some.one c.in-Some-hop_at.two
    c.point_of_number.ensures c.in-Some.ensures c.point_of_number-middle.ensures c.in-Some-hop_at.ensures
    c.joined.result c.joined-2.result c.joined.ensures c.joined-2.ensures
