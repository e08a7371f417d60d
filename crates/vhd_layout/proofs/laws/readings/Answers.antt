use Rattle.vhd_layout.proofs.ReadingLaws.{valid-decided, slots-of_table, layout-at}
use Rattle.vhd_layout.proofs.laws.readings.Goals as goal

pub returns : goal.returns
returns c = record { valid = valid-decided; slots = slots-of_table; layout = layout-at }
