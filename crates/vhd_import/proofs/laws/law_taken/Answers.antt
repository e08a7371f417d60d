use Rattle.vhd_stream.proofs.DiskLaws.{export-holds}
use Rattle.vhd_import.proofs.TakenLaws.{taken}
use Rattle.vhd_import.proofs.laws.law_taken.Goals as goal

pub returns : goal.returns
returns c = record {
  made = taken;
  exported = λ t size image d bytes e room short. taken t bytes d.sectors (export-holds size image d bytes e) room short;
}
