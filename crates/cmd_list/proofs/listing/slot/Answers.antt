use Rattle.std.proofs.Common.{sym, ◌∙◌}
use Rattle.sm_ready.proofs.InsertLaws.{past_more, put_here, put_at_end}
use Rattle.cmd_list.specs.Listed.{is_row_before}
use Rattle.cmd_list.proofs.listing.slot.Goals as goal

pub returns-then-is_before-clause-place : goal.returns-then-is_before-clause-place
returns-then-is_before-clause-place c = put_here is_row_before _ _ _ c.index-rows-at.result c.loop-at-test.true c.index-rows-at.is (sym c.is_before.ensures ∙ c.if-is_before.true) c.loop-at.invariant

pub loop-at-preserved : goal.loop-at-preserved
loop-at-preserved c = past_more is_row_before _ _ _ c.index-rows-at.result c.loop-at-test.true c.index-rows-at.is (sym c.is_before.ensures ∙ c.if-is_before.false) c.loop-at.invariant

pub returns-clause-place : goal.returns-clause-place
returns-clause-place c = put_at_end is_row_before _ _ _ c.loop-at-test.false c.loop-at.invariant
