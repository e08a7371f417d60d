use Rattle.vhd_layout.proofs.ImageLaws.{table-readable}
use Rattle.vhd_layout.proofs.laws.tables.Goals as goal

pub returns : goal.returns
returns c = table-readable
