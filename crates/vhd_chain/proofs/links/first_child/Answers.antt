use Rattle.std.proofs.lemmas.Bool.{iff_false}
use Rattle.std.proofs.Common.{ap, ◌∙◌, Some}
use Rattle.vhd_chain.proofs.LinkLaws.{no_child, first_is}
use Rattle.vhd_chain.proofs.links.first_child.Goals as goal

pub returns-then-is_child : goal.returns-then-is_child
returns-then-is_child c =
    ap Some c.name.ensures
    ∙ first_is c.args.rows.now c.args.parent.now c.loop-row.row-index c.row-item.result c.loop-row-test.true c.row-item.is
    (c.is_child.ensures.0 c.if-is_child.true) c.loop-row.invariant

pub loop-row-preserved : goal.loop-row-preserved
loop-row-preserved c =
    no_child c.args.rows.now c.args.parent.now c.loop-row.row-index c.row-item.result c.loop-row-test.true c.row-item.is
    (iff_false c.is_child.ensures c.if-is_child.false) c.loop-row.invariant
