use Rattle.std.proofs.Common.{subst}
use Rattle.sm_base.specs.Names.{IsUuid}
use Rattle.sm_record.specs.Records.{IsGiven}
use Rattle.sm_clone.proofs.forks.twin_record.Goals as goal

pub returns-clause-proper : goal.returns-clause-proper
returns-clause-proper c = record {
  uuid = record { uuid = subst IsUuid c.as_bytes.ensures c.law_uuid.ensures; not_nil = c.requires.not_nil };
  origin = subst IsGiven c.requires.named c.requires.proper.uuid;
  label = c.requires.proper.label;
}
