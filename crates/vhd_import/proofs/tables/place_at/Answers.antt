use Rattle.vhd_map.specs.Places.{word}
use Rattle.vhd_import.proofs.tables.place_at.Goals as goal

pub returns : goal.returns
unfolding word
returns c = c.from_be_bytes.ensures
