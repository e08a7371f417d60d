use Rattle.vhd_import.proofs.StepLaws.{put-of-block, put-of-none}
use Rattle.vhd_import.proofs.laws.law_put.Goals as goal

pub returns : goal.returns
returns c = record { block = put-of-block; none = put-of-none }
