use Rattle.std.proofs.Common.{refl}
use Rattle.sm_base.specs.Names.{name_cmp, spelling, uuid_text}
use Rattle.uuid.specs.Text.{by_index}
use Rattle.vg_meta.specs.Changes.{put, with_row, without}
use Rattle.vg_meta.specs.Tables.{row_of, name_eq}
use Rattle.sm_standing.specs.Entries.{image_with}
use Rattle.sm_standing.specs.Opened.{cleaned, end_changes, ended, undo_changes, undone}
use Rattle.examples_standing.proofs.orders.example_undone_first.Goals as goal

pub returns-clause-leaf_beside_fork : goal.returns-clause-leaf_beside_fork
unfolding cleaned end_changes ended undo_changes undone with_row without put row_of name_eq image_with name_cmp spelling uuid_text by_index
returns-clause-leaf_beside_fork c = refl

pub returns-clause-parent_enlarged : goal.returns-clause-parent_enlarged
unfolding cleaned end_changes ended undo_changes undone with_row without put row_of name_eq image_with name_cmp spelling uuid_text by_index
returns-clause-parent_enlarged c = refl

pub returns-clause-leaf_enlarged : goal.returns-clause-leaf_enlarged
unfolding cleaned end_changes ended undo_changes undone with_row without put row_of name_eq image_with name_cmp spelling uuid_text by_index
returns-clause-leaf_enlarged c = refl

pub returns-clause-copied_enlarged : goal.returns-clause-copied_enlarged
unfolding cleaned end_changes ended undo_changes undone with_row without put row_of name_eq image_with name_cmp spelling uuid_text by_index
returns-clause-copied_enlarged c = refl

pub returns-clause-link_beside_fork : goal.returns-clause-link_beside_fork
unfolding cleaned end_changes ended undo_changes undone with_row without put row_of name_eq image_with name_cmp spelling uuid_text by_index
returns-clause-link_beside_fork c = refl

pub returns-clause-copy_beside_fork : goal.returns-clause-copy_beside_fork
unfolding cleaned end_changes ended undo_changes undone with_row without put row_of name_eq image_with name_cmp spelling uuid_text by_index
returns-clause-copy_beside_fork c = refl
