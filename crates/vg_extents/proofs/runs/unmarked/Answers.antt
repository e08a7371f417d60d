use Rattle.std.proofs.Common.{◌+◌, ◌-◌, ◌∷◌, ◌<◌, [], length, ap, sym, ◌∙◌, arith, length-append}
use Rattle.std.specs.Slice.Iter.{iter_rest}
use Rattle.vg_extents.specs.Runs.{segments_of, extents_of}
use Rattle.vg_extents.proofs.CountLaws.{found_marked, found_more, found_full, next_mark, behind_marked, behind_unmarked, behind_full, behind_end}
use Rattle.vg_extents.proofs.RunLaws.{wider_apart}
use Rattle.vg_extents.proofs.runs.unmarked.Goals as goal

pub returns-then-found-need-clause-apart : goal.returns-then-found-need-clause-apart
returns-then-found-need-clause-apart c =
    wider_apart 0 c.loop-extent.extent (length (iter_rest c.args.marks.now)) (segments_of c.loop-extent.runs.items) (omega (arith, c.len-extent-end.ensures.value)) c.loop-extent.invariant.apart

pub returns-then-found-need-clause-least : goal.returns-then-found-need-clause-least
returns-then-found-need-clause-least c =
    found_full (iter_rest c.args.marks.now) c.args.need c.loop-extent.extent (length (iter_rest c.args.marks.now)) (extents_of c.loop-extent.runs.items) (omega (arith, c.len-extent-end.ensures.value)) c.loop-extent.invariant.free
    (sym c.loop-extent.invariant.count ∙ c.if-found-need.true)

pub returns-then-found-need-clause-early : goal.returns-then-found-need-clause-early
returns-then-found-need-clause-early c =
    sym (c.loop-extent.invariant.early ∙ behind_full c.args.need c.loop-extent.found (iter_rest c.loop-extent.marks) c.if-found-need.true)

pub loop-extent-preserved-then-mark : goal.loop-extent-preserved-then-mark
loop-extent-preserved-then-mark c =
    let marks = iter_rest c.args.marks.now in
    let e = c.loop-extent.extent in
    let mark = c.in-Some.mark.now in
    let next = next_mark marks e mark (omega (arith, c.len-extent-end.ensures.value, c.loop-extent-test.true)) c.loop-extent.invariant.taken c.in-Some.ensures.steps in
    record {
      apart = wider_apart 0 e (e + 1) (segments_of c.loop-extent.runs.items) (omega arith) c.loop-extent.invariant.apart;
      free = found_marked marks e (extents_of c.loop-extent.runs.items) (next.0 ∙ c.if-mark.true) c.loop-extent.invariant.free;
      count = c.loop-extent.invariant.count;
      few = c.loop-extent.invariant.few;
      taken = next.1;
      early = c.loop-extent.invariant.early
          ∙ behind_marked c.args.need c.loop-extent.found mark (omega (arith, c.loop-extent.invariant.few, c.if-found-need.false)) c.in-Some.ensures.steps c.if-mark.true;
    }

pub loop-extent-preserved : goal.loop-extent-preserved
loop-extent-preserved c =
    let marks = iter_rest c.args.marks.now in
    let e = c.loop-extent.extent in
    let mark = c.in-Some.mark.now in
    let next = next_mark marks e mark (omega (arith, c.len-extent-end.ensures.value, c.loop-extent-test.true)) c.loop-extent.invariant.taken c.in-Some.ensures.steps in
    let lacking : c.loop-extent.found < c.args.need = omega (arith, c.loop-extent.invariant.few, c.if-found-need.false) in
    record {
      apart = c.in_ok-add.ensures.apart;
      free = found_more marks e (extents_of c.loop-extent.runs.items) (extents_of c.add.new.runs.items) (next.0 ∙ c.if-mark.false) c.loop-extent.invariant.free c.in_ok-add.ensures.added;
      count = omega (arith, c.loop-extent.invariant.count, ap length c.in_ok-add.ensures.added, length-append (extents_of c.loop-extent.runs.items) (e ∷ []));
      few = omega (arith, lacking);
      taken = next.1;
      early = c.loop-extent.invariant.early ∙ behind_unmarked c.args.need c.loop-extent.found mark lacking c.in-Some.ensures.steps c.if-mark.false;
    }

pub returns-clause-early : goal.returns-clause-early
returns-clause-early c =
    let marks = iter_rest c.args.marks.now in
    let left = iter_rest c.loop-extent.marks in
    behind_end (c.args.need - c.loop-extent.found) c.loop-extent.extent marks left (omega (arith, c.len-extent-end.ensures.value, c.loop-extent-test.false)) c.loop-extent.invariant.taken
    ∙ sym c.loop-extent.invariant.early
