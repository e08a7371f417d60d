use Rattle.sm_span.proofs.PartLaws.{HasSectors-joined}
use Rattle.sm_span.proofs.spans.SpanDisk.sectors.Goals as goal

pub returns-clause-sectors : goal.returns-clause-sectors
returns-clause-sectors g c = λ told.
    HasSectors-joined (g.A.Disk.size c.args.self.now.first) (g.B.Disk.size c.args.self.now.second) (c.sectors.ensures.sectors told.0) (c.sectors-2.ensures.sectors told.1)
