use Rattle.sm_ready.proofs.InsertLaws.{IsPast}
use Rattle.cmd_list.specs.Listed.{is_row_before}
use Rattle.cmd_list.proofs.listing.slot.Given as goal

abbrev pub invariant-loop-at : goal.invariant-loop-at
invariant-loop-at l = IsPast is_row_before l.rows l.row l.at
