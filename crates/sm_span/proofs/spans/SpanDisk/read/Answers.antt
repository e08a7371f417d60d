use Rattle.std.proofs.Common.{◌++◌, refl, arith, length-append}
use Rattle.sm_span.proofs.PartLaws.{IsCut, Gave-joined}
use Rattle.sm_span.proofs.spans.SpanDisk.read.Goals as goal

pub returns-clause-gave : goal.returns-clause-gave
returns-clause-gave g c = λ told.
    let border = g.A.Disk.size c.args.self.now.first in
    let near = c.read_piece.new.to in
    let far = c.read_piece-2.new.to in
    let cut : IsCut border c.args.at c.saturating_sub.result (near ++ far) near far = record {
      behind = omega arith;
      whole = refl;
      cut = omega (arith, length-append near far, c.split_at_mut-near.ensures.front_len, c.split_at_mut-near.ensures.back_len, c.read_piece.auto.to, c.read_piece-2.auto.to);
      sectors = omega (arith, length-append near far, c.requires.whole, c.split_at_mut-near.ensures.front_len, c.split_at_mut-near.ensures.back_len, c.read_piece.auto.to, c.read_piece-2.auto.to);
    } in
    Gave-joined (g.A.Disk.held c.args.self.now.first) (g.B.Disk.held c.args.self.now.second) cut (c.in_ok-read_piece.ensures.gave told.0) (c.in_ok-read_piece-2.ensures.gave told.1)
