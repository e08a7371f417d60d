use Rattle.std.proofs.Common.{◌-◌, refl, arith}
use Rattle.sm_disk.proofs.HeldLaws.{SameHeld-none, torn_from_same}
use Rattle.sm_span.proofs.PartLaws.{cut_at, Torn-joined, Wrote-joined}
use Rattle.sm_span.proofs.spans.SpanDisk.write.Goals as goal

pub returns-in_err-write_piece-clause-torn : goal.returns-in_err-write_piece-clause-torn
returns-in_err-write_piece-clause-torn g c = λ told.
    let border = g.A.Disk.size c.args.self.now.first in
    let far = c.split_at.result.1.now in
    let cut = cut_at border c.args.at (c.args.at - border) c.args.from.now c.split_at.result.0.now far c.below.result refl (omega arith) c.split_at.ensures.front c.split_at.ensures.back c.requires.whole in
    Torn-joined c.write_piece.ensures.size cut (c.write_piece.ensures.torn told.0)
    (torn_from_same (c.args.at - border) far (SameHeld-none (g.B.Disk.held c.args.self.now.second)))

pub returns-in_err-write_piece-2-clause-torn : goal.returns-in_err-write_piece-2-clause-torn
returns-in_err-write_piece-2-clause-torn g c = λ told.
    let border = g.A.Disk.size c.args.self.now.first in
    let far = c.split_at.result.1.now in
    let cut = cut_at border c.args.at c.saturating_sub.result c.args.from.now c.split_at.result.0.now far c.below.result (omega arith) (omega arith) c.split_at.ensures.front c.split_at.ensures.back c.requires.whole in
    Torn-joined c.write_piece.ensures.size cut (c.write_piece.ensures.torn told.0) (c.write_piece-2.ensures.torn told.1)

pub returns-clause-torn : goal.returns-clause-torn
returns-clause-torn g c = λ told.
    let border = g.A.Disk.size c.args.self.now.first in
    let far = c.split_at.result.1.now in
    let cut = cut_at border c.args.at c.saturating_sub.result c.args.from.now c.split_at.result.0.now far c.below.result (omega arith) (omega arith) c.split_at.ensures.front c.split_at.ensures.back c.requires.whole in
    Torn-joined c.write_piece.ensures.size cut (c.write_piece.ensures.torn told.0) (c.write_piece-2.ensures.torn told.1)

pub returns-clause-wrote : goal.returns-clause-wrote
returns-clause-wrote g c = λ told.
    let border = g.A.Disk.size c.args.self.now.first in
    let far = c.split_at.result.1.now in
    let cut = cut_at border c.args.at c.saturating_sub.result c.args.from.now c.split_at.result.0.now far c.below.result (omega arith) (omega arith) c.split_at.ensures.front c.split_at.ensures.back c.requires.whole in
    Wrote-joined c.write_piece.ensures.size cut (c.in_ok-write_piece.ensures.wrote told.0) (c.in_ok-write_piece-2.ensures.wrote told.1)
