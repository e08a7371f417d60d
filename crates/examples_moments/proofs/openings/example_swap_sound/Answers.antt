use Rattle.examples_moments.proofs.EntrySound.{uncopied_sound, unswapped_sound, leaf_renamed_sound, parent_renamed_sound, parent_shown_sound, leaf_removed_sound}
use Rattle.examples_moments.proofs.openings.example_swap_sound.Goals as goal

pub returns : goal.returns
returns c = record {
  uncopied = uncopied_sound;
  before = unswapped_sound;
  leaf_renamed = leaf_renamed_sound;
  parent_renamed = parent_renamed_sound;
  parent_shown = parent_shown_sound;
  leaf_removed = leaf_removed_sound;
}
