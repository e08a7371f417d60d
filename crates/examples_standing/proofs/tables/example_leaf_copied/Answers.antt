use Rattle.std.proofs.Common.{refl}
use Rattle.vg_meta.specs.Tables.{row_of, name_eq}
use Rattle.sm_standing.specs.Entries.{is_at_stage, image_with}
use Rattle.sm_standing.specs.Standing.{standing_volume}
use Rattle.examples_standing.proofs.tables.example_leaf_copied.Goals as goal

pub returns-clause-stage : goal.returns-clause-stage
unfolding standing_volume is_at_stage image_with row_of name_eq
returns-clause-stage c = refl

pub returns-clause-leaf : goal.returns-clause-leaf
unfolding standing_volume is_at_stage image_with row_of name_eq
returns-clause-leaf c = refl

pub returns-clause-parent : goal.returns-clause-parent
unfolding standing_volume is_at_stage image_with row_of name_eq
returns-clause-parent c = refl
