use Rattle.sm_span.proofs.PartLaws.{Keeps-joined}
use Rattle.sm_span.proofs.spans.SpanDisk.sync.Goals as goal

pub returns-clause-keeps : goal.returns-clause-keeps
returns-clause-keeps g c = λ told.
    Keeps-joined (g.A.Disk.size c.args.self.now.first) (g.A.Disk.size c.sync_both.new.first) c.sync_both.ensures.first_size
    (c.sync_both.ensures.first_keeps told.0) (c.sync_both.ensures.second_keeps told.1)
