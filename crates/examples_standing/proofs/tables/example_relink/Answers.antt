use Rattle.std.proofs.Common.{refl}
use Rattle.vg_meta.specs.Tables.{row_of, name_eq}
use Rattle.sm_standing.specs.Entries.{is_at_stage, image_with}
use Rattle.sm_standing.specs.Standing.{standing_volume}
use Rattle.examples_standing.proofs.tables.example_relink.Goals as goal

pub returns-clause-stage : goal.returns-clause-stage
unfolding standing_volume is_at_stage image_with row_of name_eq
returns-clause-stage c = refl

pub returns-clause-disk : goal.returns-clause-disk
unfolding standing_volume is_at_stage image_with row_of name_eq
returns-clause-disk c = refl

pub returns-clause-child : goal.returns-clause-child
unfolding standing_volume is_at_stage image_with row_of name_eq
returns-clause-child c = refl

pub returns-clause-parent : goal.returns-clause-parent
unfolding standing_volume is_at_stage image_with row_of name_eq
returns-clause-parent c = refl

pub returns-clause-visible : goal.returns-clause-visible
unfolding standing_volume is_at_stage image_with row_of name_eq
returns-clause-visible c = refl

pub returns-clause-alone : goal.returns-clause-alone
unfolding standing_volume is_at_stage image_with row_of name_eq
returns-clause-alone c = refl
