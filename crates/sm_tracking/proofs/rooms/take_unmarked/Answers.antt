use Rattle.std.proofs.Common.{◌≡◌, length, rules, arith, ap, ◌∙◌}
use Rattle.vg_extents.proofs.CountLaws.{found_all, found_full, found_marked, found_more, without_mark}
use Rattle.sm_tracking.proofs.rooms.take_unmarked.Goals as goal

pub returns-then-len-need : goal.returns-then-len-need
returns-then-len-need c =
    found_full c.args.marks.now c.args.need c.loop-extent.extent _ c.loop-extent.found.items (omega (arith, c.loop-extent-test.true)) c.loop-extent.invariant.free (omega (arith, c.if-len-need.true, c.len.ensures))

pub loop-extent-preserved-then-marks-extent : goal.loop-extent-preserved-then-marks-extent
loop-extent-preserved-then-marks-extent c = record {
  free = found_marked c.args.marks.now c.loop-extent.extent c.loop-extent.found.items c.if-marks-extent.true c.loop-extent.invariant.free;
  few = c.loop-extent.invariant.few;
  places = c.loop-extent.invariant.places;
}

pub loop-extent-preserved : goal.loop-extent-preserved
loop-extent-preserved c = record { free = found_more c.args.marks.now c.loop-extent.extent c.loop-extent.found.items c.push.new.self.items c.if-marks-extent.false c.loop-extent.invariant.free (search rules); few = omega (arith, c.len.ensures, c.if-len-need.false, c.push.ensures.items); places = omega arith }

pub returns : goal.returns
returns c =
    let ends : c.loop-extent.extent ≡ length c.args.marks.now = omega (arith, c.loop-extent.auto.extent-end, c.loop-extent-test.false) in
    found_all c.args.marks.now c.args.need (length c.args.marks.now) c.loop-extent.found.items (c.loop-extent.invariant.free ∙ ap (without_mark c.args.marks.now) ends) c.loop-extent.invariant.few
