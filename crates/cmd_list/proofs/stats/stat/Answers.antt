use Rattle.std.proofs.Common.{inr}
use Rattle.sm_ready.specs.Known.{known}
use Rattle.cmd_list.proofs.StatLaws.{law_stat}
use Rattle.cmd_list.proofs.stats.stat.Goals as goal

pub returns-in-Ok-clause-answered : goal.returns-in-Ok-clause-answered
returns-in-Ok-clause-answered c = λ s ds count o tidy. inr (law_stat s ds _ (known c.args.memory.now) c.args.extents c.seq.result c.free.result c.told.result c.in-Ok.rows.items
    count c.seq.ensures.seq c.free.ensures.free c.told.ensures c.in-Ok.ensures o tidy)
