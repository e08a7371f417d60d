use Rattle.vhd_layout.proofs.ImageLaws.{value-with_slot, value-without_slot, content-of_head}
use Rattle.vhd_layout.proofs.laws.contents.Goals as goal

pub returns : goal.returns
returns c = record { with_slot = value-with_slot; without_slot = value-without_slot; head = content-of_head }
