use Rattle.examples_moments.proofs.EntrySound.{relink_sound, linked_sound}
use Rattle.examples_moments.proofs.openings.example_relink_sound.Goals as goal

pub returns : goal.returns
returns c = record { before = relink_sound; linked = linked_sound }
