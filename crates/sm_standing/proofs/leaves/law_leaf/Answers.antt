use Rattle.sm_standing.specs.Outlines.{outline}
use Rattle.sm_standing.proofs.LeafContents.{images_at_last, left_at_last, left_kept, left_on_the_way, left_shown}
use Rattle.sm_standing.proofs.LeafEnds.{ended_folding, ended_making, ended_permits, ended_simple, ended_unmade, ends_are, few_ends}
use Rattle.sm_standing.proofs.LeafStages.{content_images}
use Rattle.sm_standing.proofs.OpenedLaws.{opened_ended}
use Rattle.sm_standing.proofs.leaves.law_leaf.Goals as goal

pub returns-clause-changes : goal.returns-clause-changes
returns-clause-changes c = λ x leaf parent i. ends_are x.table leaf parent i.entry

pub returns-clause-few : goal.returns-clause-few
returns-clause-few c = few_ends

pub returns-clause-permits : goal.returns-clause-permits
returns-clause-permits c = λ x leaf parent i. ended_permits x.count (outline x) i.sound i.table (content_images x) leaf parent i.entry

pub returns-clause-tables : goal.returns-clause-tables
returns-clause-tables c = λ x leaf parent i v ending. (left_on_the_way x i.sound i.table i.sizes leaf parent i.entry v ending).table

pub returns-clause-sound : goal.returns-clause-sound
returns-clause-sound c = λ x leaf parent i v ending. (left_on_the_way x i.sound i.table i.sizes leaf parent i.entry v ending).sound

pub returns-clause-kept : goal.returns-clause-kept
returns-clause-kept c = λ x leaf parent i well v area ending same. left_kept x v (left_on_the_way x i.sound i.table i.sizes leaf parent i.entry v ending) i.sizes well area same

pub returns-clause-shown : goal.returns-clause-shown
returns-clause-shown c = λ x leaf parent i v area ending same. left_shown x v (left_on_the_way x i.sound i.table i.sizes leaf parent i.entry v ending) i.sizes area same

pub returns-clause-ended : goal.returns-clause-ended
returns-clause-ended c = λ x leaf parent i. let p = left_at_last x i.sound i.table i.sizes leaf parent i.entry in p.sound

pub returns-clause-quiet : goal.returns-clause-quiet
returns-clause-quiet c = λ x leaf parent i. ended_folding x.count (outline x) i.sound i.table (content_images x) leaf parent i.entry

pub returns-clause-simple : goal.returns-clause-simple
returns-clause-simple c = λ x leaf parent i. ended_simple x.count (outline x) i.sound i.table (content_images x) leaf parent i.entry

pub returns-clause-making : goal.returns-clause-making
returns-clause-making c = λ x leaf parent i free. ended_making x.count (outline x) i.sound i.table (content_images x) leaf parent i.entry free

pub returns-clause-parent : goal.returns-clause-parent
returns-clause-parent c = λ x leaf parent extents i renamed made.
    ended_unmade x.count (outline x) i.sound i.table (content_images x) leaf parent i.entry extents renamed made

pub returns-clause-images : goal.returns-clause-images
returns-clause-images c = λ x leaf parent i n. images_at_last x i.sound i.table i.sizes leaf parent i.entry n

pub returns-clause-holding : goal.returns-clause-holding
returns-clause-holding c = λ x leaf parent i. let p = left_at_last x i.sound i.table i.sizes leaf parent i.entry in p.holding

pub returns-clause-disks : goal.returns-clause-disks
returns-clause-disks c = λ x leaf parent i. let p = left_at_last x i.sound i.table i.sizes leaf parent i.entry in p.shown

pub returns-clause-opened : goal.returns-clause-opened
returns-clause-opened c = λ x leaf parent i. opened_ended x leaf parent i.entry (ended_folding x.count (outline x) i.sound i.table (content_images x) leaf parent i.entry)
