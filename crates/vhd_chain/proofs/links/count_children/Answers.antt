use Rattle.std.proofs.Common.{arith}
use Rattle.std.proofs.lemmas.Bool.{iff_false}
use Rattle.vhd_chain.proofs.LinkLaws.{count_child, count_other}
use Rattle.vhd_chain.proofs.links.count_children.Goals as goal
use Rattle.vhd_chain.proofs.links.count_children.Goals.{then-is_child, else-is_child}

pub loop-row-preserved : goal.loop-row-preserved
loop-row-preserved c =
    elim c.if-is_child.branch [
      | then-is_child w ↦ let one = count_child c.args.rows.now c.args.parent.now c.loop-row.row-index c.row-item.result c.loop-row-test.true c.row-item.is (c.is_child.ensures.0 w.if-is_child.true) in
          (omega (arith, one, w.count-is, c.loop-row.invariant.0), omega (arith, w.count-is, c.loop-row.invariant.1))
      | else-is_child w ↦ let none = count_other c.args.rows.now c.args.parent.now c.loop-row.row-index c.row-item.result c.loop-row-test.true c.row-item.is (iff_false c.is_child.ensures w.if-is_child.false) in
          (omega (arith, none, w.count-is, c.loop-row.invariant.0), omega (arith, w.count-is, c.loop-row.invariant.1))
    ]
