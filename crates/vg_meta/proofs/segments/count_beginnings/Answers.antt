use Rattle.std.proofs.Common.{◌≡◌, ℕ, get_or, cond, true, false, ap, arith}
use Rattle.vg_meta.specs.Segments.{follows}
use Rattle.vg_meta.proofs.SegmentLaws.{begun_all, begun_more}
use Rattle.vg_meta.proofs.segments.count_beginnings.Goals.{then-not-follows, else-not-follows}
use Rattle.vg_meta.proofs.segments.count_beginnings.Goals as goal

pub loop-extent-preserved : goal.loop-extent-preserved
loop-extent-preserved c = elim c.if-not-follows.branch [
  | then-not-follows w ↦
      let es = c.args.extents.now in
      let i = c.loop-extent.extent-index in
      let no : cond false 0 1 ≡ cond (follows c.loop-extent.last (get_or es i 0)) 0 1 = ap {B = ℕ} (λ b. cond b 0 1) w.if-not-follows.ensures in
      record {
        few = omega (arith, w.count-is, c.loop-extent.invariant.few);
        counted = begun_more es i c.loop-extent.last c.if-not-follows.last c.loop-extent.count c.if-not-follows.count _ c.loop-extent-test.true w.last-is (omega (arith, w.count-is, no)) c.loop-extent.invariant.counted;
      }
  | else-not-follows w ↦
      let es = c.args.extents.now in
      let i = c.loop-extent.extent-index in
      let yes : cond true 0 1 ≡ cond (follows c.loop-extent.last (get_or es i 0)) 0 1 = ap {B = ℕ} (λ b. cond b 0 1) w.if-not-follows.ensures in
      record {
        few = omega (arith, w.count-is, c.loop-extent.invariant.few);
        counted = begun_more es i c.loop-extent.last c.if-not-follows.last c.loop-extent.count c.if-not-follows.count _ c.loop-extent-test.true w.last-is (omega (arith, w.count-is, yes)) c.loop-extent.invariant.counted;
      }
]

pub returns : goal.returns
returns c = omega (arith, c.loop-extent.invariant.counted, begun_all c.args.extents.now c.loop-extent.extent-index c.loop-extent.last c.loop-extent-test.false)
