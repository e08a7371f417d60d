use Rattle.sm_session.proofs.CollectLaws.{three_begin}
use Rattle.sm_session.proofs.collecting.start.Goals as goal

pub unreachable-requires : goal.unreachable-requires
unreachable-requires g c = three_begin c.args.plan.now c.requires.working c.in_default.not-Begin c.in_default.not-Leaf c.in_default.not-Live
