use Rattle.vhd_import.proofs.KeptLaws.{kept-of-file}
use Rattle.vhd_import.proofs.laws.law_table.Goals as goal

pub returns : goal.returns
returns c = kept-of-file
