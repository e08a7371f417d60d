use Rattle.sm_standing.proofs.PlainKept.{but_leaf_sound}
use Rattle.sm_standing.proofs.UndoneLaws.{few_changes}
use Rattle.sm_standing.proofs.UndoneButLeaf.{table_undone, but_leaf_disks, but_leaf_holding, but_leaf_images, but_leaf_opened, but_leaf_permits, but_leaf_rows, but_leaf_undone, undoing_disks, undoing_kept, undoing_table}
use Rattle.sm_standing.proofs.plain.law_undone.Goals as goal

pub returns-clause-sound : goal.returns-clause-sound
returns-clause-sound c = λ a h none table geometry. but_leaf_undone a table geometry (but_leaf_sound a h none)

pub returns-clause-images : goal.returns-clause-images
returns-clause-images c = λ a h none table geometry. but_leaf_images a table geometry (but_leaf_sound a h none)

pub returns-clause-rows : goal.returns-clause-rows
returns-clause-rows c = λ a h none table geometry. but_leaf_rows a table geometry (but_leaf_sound a h none)

pub returns-clause-disks : goal.returns-clause-disks
returns-clause-disks c = λ a h none table geometry. but_leaf_disks a table geometry (but_leaf_sound a h none)

pub returns-clause-opened : goal.returns-clause-opened
returns-clause-opened c = λ a h none table geometry. but_leaf_opened a table geometry (but_leaf_sound a h none)

pub returns-clause-holding : goal.returns-clause-holding
returns-clause-holding c = λ a h none table geometry. but_leaf_holding a table geometry (but_leaf_sound a h none)

pub returns-clause-table : goal.returns-clause-table
returns-clause-table c = λ a h none table geometry. table_undone a table geometry (but_leaf_sound a h none)

pub returns-clause-few : goal.returns-clause-few
returns-clause-few c = few_changes

pub returns-clause-permits : goal.returns-clause-permits
returns-clause-permits c = λ a h none table geometry. but_leaf_permits a table geometry (but_leaf_sound a h none)

pub returns-clause-tables : goal.returns-clause-tables
returns-clause-tables c = λ a h none table geometry. undoing_table a table geometry (but_leaf_sound a h none)

pub returns-clause-kept : goal.returns-clause-kept
returns-clause-kept c = λ a h none table geometry. undoing_kept a table geometry (but_leaf_sound a h none)

pub returns-clause-shown : goal.returns-clause-shown
returns-clause-shown c = λ a h none table geometry. undoing_disks a table geometry (but_leaf_sound a h none)
