use Rattle.std.proofs.Common.{refl}
use Rattle.sm_base.specs.Names.{name_cmp, spelling}
use Rattle.vg_meta.specs.Changes.{put, with_row, without}
use Rattle.vg_meta.specs.Tables.{row_of, name_eq}
use Rattle.sm_standing.specs.Entries.{image_with}
use Rattle.sm_standing.specs.Opened.{undo_changes, undone}
use Rattle.sm_standing.specs.Undone.{undone_from}
use Rattle.examples_standing.proofs.outlines.example_fork_undone.Goals as goal

pub returns-clause-undone : goal.returns-clause-undone
unfolding undo_changes undone undone_from with_row without put row_of name_eq image_with name_cmp spelling
returns-clause-undone c = refl

pub returns-clause-image : goal.returns-clause-image
unfolding undo_changes undone undone_from with_row without put row_of name_eq image_with name_cmp spelling
returns-clause-image c = refl

pub returns-clause-base : goal.returns-clause-base
unfolding undo_changes undone undone_from with_row without put row_of name_eq image_with name_cmp spelling
returns-clause-base c = refl

pub returns-clause-twin : goal.returns-clause-twin
unfolding undo_changes undone undone_from with_row without put row_of name_eq image_with name_cmp spelling
returns-clause-twin c = refl

pub returns-clause-other : goal.returns-clause-other
unfolding undo_changes undone undone_from with_row without put row_of name_eq image_with name_cmp spelling
returns-clause-other c = refl
