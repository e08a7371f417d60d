use Rattle.std.proofs.Common.{refl, arith}
use Rattle.sm_base.specs.declared.names.Name.TheVariants.{Vhd}
use Rattle.vg_meta.specs.Changes.{with_row, without}
use Rattle.vg_meta.specs.Tables.{row_of, name_eq}
use Rattle.sm_standing.specs.Opened.{undo_changes, undone}
use Rattle.examples_standing.specs.SmallContents.{sized_row}
use Rattle.examples_standing.proofs.outlines.example_undone.Goals as goal

pub returns-clause-being : goal.returns-clause-being
unfolding row_of name_eq
returns-clause-being c = record { entry = refl; own = sized_row _ (Vhd _) _; there = refl; filled = refl; had = omega arith; some = omega arith }

pub returns-clause-cut : goal.returns-clause-cut
unfolding undo_changes undone with_row without row_of name_eq
returns-clause-cut c = refl

pub returns-clause-undone : goal.returns-clause-undone
unfolding undo_changes undone with_row without row_of name_eq
returns-clause-undone c = refl

pub returns-clause-at_once : goal.returns-clause-at_once
unfolding undo_changes undone with_row without row_of name_eq
returns-clause-at_once c = refl

pub returns-clause-none : goal.returns-clause-none
unfolding undo_changes undone with_row without row_of name_eq
returns-clause-none c = refl
