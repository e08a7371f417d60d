use Rattle.vhd_import.proofs.TakenLaws.{made-file, one-disk}
use Rattle.vhd_import.proofs.laws.law_made.Goals as goal

pub returns : goal.returns
returns c = record { holds = made-file; one = one-disk }
