use Rattle.std.proofs.Common.{refl}
use Rattle.vg_meta.specs.Tables.{row_of, name_eq}
use Rattle.sm_standing.specs.Entries.{is_at_stage, image_with}
use Rattle.sm_standing.specs.Standing.{standing_volume}
use Rattle.examples_standing.proofs.tables.example_fork_made.Goals as goal

pub returns-clause-stage : goal.returns-clause-stage
unfolding standing_volume is_at_stage image_with row_of name_eq
returns-clause-stage c = refl

pub returns-clause-disk : goal.returns-clause-disk
unfolding standing_volume is_at_stage image_with row_of name_eq
returns-clause-disk c = refl

pub returns-clause-base : goal.returns-clause-base
unfolding standing_volume is_at_stage image_with row_of name_eq
returns-clause-base c = refl

pub returns-clause-twin : goal.returns-clause-twin
unfolding standing_volume is_at_stage image_with row_of name_eq
returns-clause-twin c = refl
