use Rattle.std.proofs.Common.{◌+◌, ℕ, ap, subst, arith}
use Rattle.vg_meta.specs.Segments.{segments, CountsUp}
use Rattle.vg_meta.proofs.SegmentLaws.{split_front, split_both}
use Rattle.vg_meta.proofs.segments.split_segment.Goals as goal

pub returns-in_default-clause-none : goal.returns-in_default-clause-none
unfolding segments
returns-in_default-clause-none c = ap segments c.in_default.ensures.none

pub returns-then-here-extents-clause-split : goal.returns-then-here-extents-clause-split
returns-then-here-extents-clause-split c =
    split_front c.args.extents.now c.args.more.now c.split_at.result.1.now c.in-Some.first c.counted-here.result c.in-Some.ensures.first
    (subst (λ (x : ℕ). CountsUp x c.counted-here.result c.args.extents.now) c.from.ensures c.counted-here.ensures) c.if-here-extents.true c.split_at.ensures.back

pub returns-clause-split : goal.returns-clause-split
returns-clause-split c =
    split_both c.args.extents.now c.args.more.now c.split_at.result.1.now c.split_at-2.result.1.now c.in-Some.first c.counted-here.result c.counted-there.result c.in-Some.ensures.first
    (subst (λ (x : ℕ). CountsUp x c.counted-here.result c.args.extents.now) c.from.ensures c.counted-here.ensures) (omega (arith, c.if-here-extents.false)) c.split_at.ensures.back
    (subst (λ (x : ℕ). CountsUp (x + c.counted-here.result) c.counted-there.result c.args.more.now) c.from-2.ensures c.counted-there.ensures) c.split_at-2.ensures.back
