use Rattle.sm_standing.proofs.AreaLaws.{area_disks, area_kept}
use Rattle.sm_standing.proofs.PlainDisks.{simple_folding}
use Rattle.sm_standing.proofs.PlainKept.{simple_sound, simple_but_leaf, but_leaf_known}
use Rattle.sm_standing.proofs.UnfoldedButLeaf.{cases, fold_permits, unfolded_disks, unfolded_holding, unfolded_images, unfolded_is, unfolded_kept, unfolded_making, unfolded_none, unfolded_opened, unfolded_rows, unfolded_shown, unfolded_sound, unfolded_table, unfolded_but_leaf}
use Rattle.sm_standing.specs.Unfolded.{unfolded, unfolded_content}
use Rattle.sm_standing.proofs.unfolding.law_unfolded.Goals as goal

pub returns-clause-one : goal.returns-clause-one
returns-clause-one c = λ x h. cases x (but_leaf_known x h)

pub returns-clause-permits : goal.returns-clause-permits
returns-clause-permits c = λ x e one. fold_permits x.count x.table e one

pub returns-clause-commit : goal.returns-clause-commit
returns-clause-commit c = λ x e one. unfolded_is x.table e one

pub returns-clause-none : goal.returns-clause-none
returns-clause-none c = λ x none. unfolded_none x.table none

pub returns-clause-sound : goal.returns-clause-sound
returns-clause-sound c = λ x h table. let s = unfolded_sound x (but_leaf_known x h) table in simple_but_leaf (unfolded_content x) (simple_sound (unfolded_content x) s) s.only

pub returns-clause-simple : goal.returns-clause-simple
returns-clause-simple c = λ x h table. (unfolded_sound x (but_leaf_known x h) table).only

pub returns-clause-quiet : goal.returns-clause-quiet
returns-clause-quiet c = λ x h table. simple_folding (unfolded x.table).volumes (unfolded_sound x (but_leaf_known x h) table).only

pub returns-clause-making : goal.returns-clause-making
returns-clause-making c = λ x h. unfolded_making x (but_leaf_known x h)

pub returns-clause-rows : goal.returns-clause-rows
returns-clause-rows c = λ x h. unfolded_rows x (but_leaf_known x h)

pub returns-clause-table : goal.returns-clause-table
returns-clause-table c = λ x h table. unfolded_table x (but_leaf_known x h) table

pub returns-clause-images : goal.returns-clause-images
returns-clause-images c = λ x h. unfolded_images x (but_leaf_known x h)

pub returns-clause-disks : goal.returns-clause-disks
returns-clause-disks c = λ x h table. unfolded_disks x (but_leaf_known x h) table

pub returns-clause-holding : goal.returns-clause-holding
returns-clause-holding c = λ x h. unfolded_holding x (but_leaf_known x h)

pub returns-clause-opened : goal.returns-clause-opened
returns-clause-opened c = λ x h table. unfolded_opened x (but_leaf_known x h) table

pub returns-clause-kept : goal.returns-clause-kept
returns-clause-kept c = λ x h table geometry holding area same. unfolded_kept x (but_leaf_known x h) table geometry area same holding

pub returns-clause-shown : goal.returns-clause-shown
returns-clause-shown c = λ x h table geometry area same. unfolded_shown x (but_leaf_known x h) table geometry area same

pub returns-clause-still : goal.returns-clause-still
returns-clause-still c = λ x h table geometry well area same. area_kept x table geometry (but_leaf_known x h) area same well

pub returns-clause-still_shown : goal.returns-clause-still_shown
returns-clause-still_shown c = λ x h table geometry area same. area_disks x table geometry (but_leaf_known x h) area same

pub returns-clause-outlined : goal.returns-clause-outlined
returns-clause-outlined c = unfolded_but_leaf
