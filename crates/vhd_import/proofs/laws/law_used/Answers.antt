use Rattle.vhd_import.proofs.StepLaws.{used-more, used-none, used-same}
use Rattle.vhd_import.proofs.laws.law_used.Goals as goal

pub returns : goal.returns
returns c = record { none = used-none; same = used-same; more = used-more }
