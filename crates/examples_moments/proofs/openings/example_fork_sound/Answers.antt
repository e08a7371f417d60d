use Rattle.examples_moments.proofs.EntrySound.{entry_made_sound, renamed_sound, base_hidden_sound, disk_made_sound, twin_made_sound, disk_filled_sound, twin_filled_sound}
use Rattle.examples_moments.proofs.openings.example_fork_sound.Goals as goal

pub returns : goal.returns
returns c = record {
  entry_made = entry_made_sound;
  renamed = renamed_sound;
  base_hidden = base_hidden_sound;
  disk_made = disk_made_sound;
  twin_made = twin_made_sound;
  disk_filled = disk_filled_sound;
  twin_filled = twin_filled_sound;
}
