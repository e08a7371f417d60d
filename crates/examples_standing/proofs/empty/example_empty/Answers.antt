use Rattle.std.proofs.Common.{sym, ◌∙◌}
use Rattle.std.proofs.lemmas.Option.{none-some}
use Rattle.examples_standing.specs.SmallContents.{empty_content}
use Rattle.sm_standing.proofs.PlainKept.{plain_kept, plain_sound}
use Rattle.examples_standing.proofs.EmptyContent.{empty_sound, empty_disks, no_image}
use Rattle.examples_standing.proofs.empty.example_empty.Goals as goal

pub returns-clause-sound : goal.returns-clause-sound
returns-clause-sound c = empty_sound

pub returns-clause-kept : goal.returns-clause-kept
returns-clause-kept c = λ extents long. plain_kept (empty_content extents) (empty_sound extents long) (λ u i is. absurd (none-some i (sym (no_image extents u) ∙ is)))

pub returns-clause-no_fault : goal.returns-clause-no_fault
returns-clause-no_fault c = λ extents long. plain_sound (empty_content extents) (empty_sound extents long)

pub returns-clause-disks : goal.returns-clause-disks
returns-clause-disks c = empty_disks
