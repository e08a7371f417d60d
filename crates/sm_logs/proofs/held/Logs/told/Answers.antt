use Rattle.std.proofs.Common.{sym, ◌∙◌}
use Rattle.sm_logs.proofs.UniteLaws.{changed_long}
use Rattle.sm_logs.proofs.held.Logs.told.Goals as goal

pub spelled_first-requires : goal.spelled_first-requires
spelled_first-requires c = changed_long c.args.pieces c.args.earlier.now c.args.later.now c.args.self.now c.in-Some.bits (sym c.in_ok-bits.ensures.changed ∙ c.in-Some.is)
