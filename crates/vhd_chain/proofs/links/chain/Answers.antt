use Rattle.std.proofs.Common.{arith}
use Rattle.vhd_chain.proofs.LinkLaws.{ends_below, ends_at, goes_on, full}
use Rattle.vhd_chain.proofs.links.chain.Goals as goal

pub returns-in_default : goal.returns-in_default
returns-in_default c =
    let end = ends_below c.args.rows.now c.loop-below.below c.loop-below.next c.loop-below-test.true c.in_default.ensures in
    omega (arith, end, c.loop-below.invariant)

pub returns-in_default-parent : goal.returns-in_default-parent
returns-in_default-parent c =
    let end = ends_at c.args.rows.now c.loop-below.below c.loop-below.next c.in-Some.row.now c.loop-below-test.true c.in-Some.ensures c.in_default-parent.ensures in
    omega (arith, end, c.loop-below.invariant)

pub loop-below-preserved : goal.loop-below-preserved
loop-below-preserved c =
    let on = goes_on c.args.rows.now c.loop-below.below c.loop-below.next c.in-Some.row.now c.in-Some-parent.parent c.loop-below-test.true c.in-Some.ensures c.in-Some-parent.ensures in
    omega (arith, on, c.loop-below.invariant)

pub returns : goal.returns
returns c =
    let end = full c.args.rows.now c.loop-below.below c.loop-below.next c.loop-below-test.false in
    omega (arith, end, c.loop-below.invariant, c.loop-below.auto.below-end)
