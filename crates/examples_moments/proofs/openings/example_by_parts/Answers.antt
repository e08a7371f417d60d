use Rattle.std.proofs.Common.{sym, ◌∙◌}
use Rattle.examples_moments.proofs.LeftShapes.{opened_1, opened_2, opened_3, opened_4, opened_5, opened_6, opened_7, swap_opened_1, swap_opened_2, swap_opened_3, swap_opened_4, swap_opened_5}
use Rattle.examples_moments.proofs.OpenedLaws.{opened_1 as fork_parts_1, opened_2 as fork_parts_2, opened_3 as fork_parts_3, opened_4 as fork_parts_4, opened_5 as fork_parts_5, opened_6 as fork_parts_6, opened_7 as fork_parts_7, swap_opened_1 as swap_parts_1, swap_opened_2 as swap_parts_2, swap_opened_3 as swap_parts_3, swap_opened_4 as swap_parts_4, swap_opened_5 as swap_parts_5}
use Rattle.examples_moments.proofs.RelinkLeft.{relink_opened}
use Rattle.examples_moments.proofs.RelinkOpened.{relink_opened as relink_parts}
use Rattle.examples_moments.proofs.openings.example_by_parts.Goals as goal

pub returns : goal.returns
returns c = record {
  fork_1 = fork_parts_1 ∙ sym opened_1;
  fork_2 = fork_parts_2 ∙ sym opened_2;
  fork_3 = fork_parts_3 ∙ sym opened_3;
  fork_4 = fork_parts_4 ∙ sym opened_4;
  fork_5 = fork_parts_5 ∙ sym opened_5;
  fork_6 = fork_parts_6 ∙ sym opened_6;
  fork_7 = fork_parts_7 ∙ sym opened_7;
  swap_1 = swap_parts_1 ∙ sym swap_opened_1;
  swap_2 = swap_parts_2 ∙ sym swap_opened_2;
  swap_3 = swap_parts_3 ∙ sym swap_opened_3;
  swap_4 = swap_parts_4 ∙ sym swap_opened_4;
  swap_5 = swap_parts_5 ∙ sym swap_opened_5;
  relink = relink_parts ∙ sym relink_opened;
}
