use Rattle.std.proofs.Common.{length, inl, inr}
use Rattle.vg_meta.proofs.TakenLaws.{met_first, met_more, met_stop, met_end}
use Rattle.vg_meta.proofs.reading.meet.Goals as goal
use Rattle.vg_meta.proofs.reading.meet.Goals.{then-at-met-via-then-at-met, then-at-met-via-else-at-met+then-met-at}

pub loop-extent-init : goal.loop-extent-init
loop-extent-init c = λ us m. met_first us c.args.extents.now c.args.met.now m

pub returns-then-at-met-clause-new : goal.returns-then-at-met-clause-new
returns-then-at-met-clause-new c = λ us m.
    met_stop (length c.args.met.now) us c.args.extents.now c.loop-extent.met c.loop-extent.extent-index c.loop-extent-test.true
    (elim c.then-at-met.branch [
      | then-at-met-via-then-at-met w ↦ inl w.if-at-met.true
      | then-at-met-via-else-at-met+then-met-at w ↦ inr (w.if-at-met.false, w.if-met-at.true)
    ])
    (c.loop-extent.invariant us m)

pub loop-extent-preserved : goal.loop-extent-preserved
loop-extent-preserved c = λ us m.
    met_more (length c.args.met.now) us c.args.extents.now c.loop-extent.met c.loop-extent.extent-index c.loop-extent-test.true c.if-at-met.false c.if-met-at.false
    (c.loop-extent.invariant us m)

pub returns-clause-new : goal.returns-clause-new
returns-clause-new c = λ us m.
    (met_end (length c.args.met.now) us c.args.extents.now c.loop-extent.met c.loop-extent.extent-index c.loop-extent-test.false (c.loop-extent.invariant us m)).0

pub returns-clause-marked : goal.returns-clause-marked
returns-clause-marked c = λ us m _.
    (met_end (length c.args.met.now) us c.args.extents.now c.loop-extent.met c.loop-extent.extent-index c.loop-extent-test.false (c.loop-extent.invariant us m)).1
