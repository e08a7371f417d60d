use Rattle.std.proofs.Common.{◌++◌, arith}
use Rattle.vg_meta.proofs.SegmentSteps.{put_first, put_room, put_more, put_all}
use Rattle.vg_meta.proofs.encoding.put_segments.Goals as goal

pub loop-segment-init : goal.loop-segment-init
loop-segment-init c = put_first c.args.at (c.args.extents.now ++ c.args.more.now) c.args.to.now c.requires.few

pub put_segment-end-requires : goal.put_segment-end-requires
put_segment-end-requires c =
    let all = c.args.extents.now ++ c.args.more.now in
    let left = c.loop-segment.rest.0.now ++ c.loop-segment.rest.1.now in
    let next = c.in-Some.extents.now ++ c.in-Some.more.now in
    let room = put_room c.args.at all left next c.args.to.now c.loop-segment.to c.loop-segment.end _ c.loop-segment.invariant c.in-Some.ensures.split c.requires.room in
    omega (arith, room)

pub loop-segment-preserved : goal.loop-segment-preserved
loop-segment-preserved c =
    let all = c.args.extents.now ++ c.args.more.now in
    let left = c.loop-segment.rest.0.now ++ c.loop-segment.rest.1.now in
    let next = c.in-Some.extents.now ++ c.in-Some.more.now in
    put_more c.args.at all left next c.args.to.now c.loop-segment.to c.put_segment-end.new.to c.loop-segment.end c.put_segment-end.result c.in-Some.segment.first c.in-Some.segment.count
    (omega (arith, c.requires.room)) c.loop-segment.invariant c.in-Some.ensures.split c.put_segment-end.ensures

pub returns : goal.returns
returns c =
    put_all c.args.at (c.args.extents.now ++ c.args.more.now) (c.loop-segment.rest.0.now ++ c.loop-segment.rest.1.now) c.args.to.now c.loop-segment.to c.loop-segment.end
    c.loop-segment.invariant c.in_default.ensures.none
