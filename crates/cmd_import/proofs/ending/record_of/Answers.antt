use Rattle.std.proofs.Common.{subst}
use Rattle.sm_base.specs.Names.{IsUuid}
use Rattle.cmd_import.proofs.ending.record_of.Goals as goal

pub returns-clause-proper : goal.returns-clause-proper
returns-clause-proper c = record {
  uuid = record { uuid = subst IsUuid c.as_bytes.ensures c.law_uuid.ensures; not_nil = c.requires.not_nil };
  origin = tt;
  label = c.text-text.ensures.label;
}
