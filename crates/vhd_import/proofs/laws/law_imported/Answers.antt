use Rattle.vhd_import.proofs.DiskLaws.{imported-front, imported-rest, imported-size}
use Rattle.vhd_import.proofs.laws.law_imported.Goals as goal

pub returns : goal.returns
returns c = record { size = imported-size; front = imported-front; rest = imported-rest }
