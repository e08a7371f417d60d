use Rattle.std.proofs.lemmas.Bool.{iff_false}
use Rattle.vg_meta.proofs.Places.{sought_first, sought_more, sought_found, sought_none}
use Rattle.vg_meta.proofs.volumes.place.Goals as goal

pub loop-at-init : goal.loop-at-init
loop-at-init c = sought_first c.args.volumes.now c.args.name.now

pub returns-then-is_named-clause-found : goal.returns-then-is_named-clause-found
returns-then-is_named-clause-found c =
    sought_found c.args.volumes.now c.args.name.now c.loop-at.at c.index-volumes-at.result c.loop-at-test.true c.index-volumes-at.is
    (c.is_named.ensures.named.0 c.if-is_named.true) c.loop-at.invariant

pub loop-at-preserved : goal.loop-at-preserved
loop-at-preserved c =
    sought_more c.args.volumes.now c.args.name.now c.loop-at.at c.index-volumes-at.result c.loop-at-test.true c.index-volumes-at.is
    (iff_false c.is_named.ensures.named c.if-is_named.false) c.loop-at.invariant

pub returns-clause-none : goal.returns-clause-none
returns-clause-none c = sought_none c.args.volumes.now c.args.name.now c.loop-at.at c.loop-at-test.false c.loop-at.invariant
