use Rattle.std.proofs.Common.{refl}
use Rattle.vg_meta.specs.Tables.{row_of, name_eq}
use Rattle.sm_standing.specs.Entries.{is_at_stage, image_with}
use Rattle.sm_standing.specs.Standing.{standing_volume}
use Rattle.examples_standing.proofs.tables.example_raw.Goals as goal

pub returns-clause-visible : goal.returns-clause-visible
unfolding standing_volume is_at_stage image_with row_of name_eq
returns-clause-visible c = refl

pub returns-clause-other : goal.returns-clause-other
unfolding standing_volume is_at_stage image_with row_of name_eq
returns-clause-other c = refl

pub returns-clause-hidden : goal.returns-clause-hidden
unfolding standing_volume is_at_stage image_with row_of name_eq
returns-clause-hidden c = refl

pub returns-clause-fresh : goal.returns-clause-fresh
unfolding standing_volume is_at_stage image_with row_of name_eq
returns-clause-fresh c = refl
