use Rattle.sm_disk.proofs.HeldLaws.{Keeps-none}
use Rattle.sm_span.proofs.pieces.sync_both.Goals as goal

pub returns-in_err-sync-clause-second_keeps : goal.returns-in_err-sync-clause-second_keeps
returns-in_err-sync-clause-second_keeps g c = λ told. Keeps-none (g.B.Disk.held c.args.second.now)
