use Rattle.vhd_map.specs.Places.{word}
use Rattle.vhd_map.proofs.entries.entry_at.Goals as goal

pub returns : goal.returns
unfolding word
returns c = c.from_be_bytes.ensures
