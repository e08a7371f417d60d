use Rattle.std.proofs.Common.{arith}
use Rattle.vg_meta.proofs.Places.{place_in_order}
use Rattle.vg_meta.proofs.volumes.place_near.Goals as goal

pub returns-then-is_named-clause-found : goal.returns-then-is_named-clause-found
returns-then-is_named-clause-found c =
    place_in_order c.args.volumes.now c.args.name.now c.loop-at.at c.index-volumes-at.result (omega arith) c.index-volumes-at.is
    (c.is_named.ensures.named.0 c.if-is_named.true) c.requires.rising
