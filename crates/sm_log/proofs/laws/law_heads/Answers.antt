use Rattle.sm_log.proofs.HeadLaws.{again, found, sector_fits}
use Rattle.sm_log.proofs.laws.law_heads.Goals as goal

pub returns : goal.returns
returns c = record { again = again; only = found; sector = sector_fits }
