use Rattle.std.proofs.Common.{◌≡◌, ◌++◌, ap, ◌∙◌, arith}
use Rattle.sm_record.specs.Records.{record_sector, fields, reading}
use Rattle.sm_record.proofs.RoundTrips.{reading_again}
use Rattle.sm_record.proofs.Sectors.{ended}
use Rattle.sm_record.proofs.records.Record.write.Goals as goal

pub returns-clause-again : goal.returns-clause-again
unfolding record_sector
returns-clause-again c =
    let r = c.args.self.now in
    let e : c.write_fields.new.to ++ c.write_u32.new.buf ≡ record_sector r = ended c.write_fields.new.to c.write_u32.new.buf c.split_at_mut-front.result.1.now (fields r) c.sum_of.result c.write_fields.ensures.fields c.sum_of.ensures (omega arith) c.write_u32.ensures in
    ap reading e ∙ reading_again r c.write_fields.ensures.proper
