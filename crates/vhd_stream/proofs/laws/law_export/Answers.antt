use Rattle.vhd_stream.proofs.DiskLaws.{export-holds}
use Rattle.vhd_stream.proofs.laws.law_export.Goals as goal

pub returns : goal.returns
returns c = record { holds = export-holds }
