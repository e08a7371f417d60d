use Rattle.std.proofs.Common.{◌++◌, length}
use Rattle.vg_meta.specs.Segments.{segments}
use Rattle.vg_meta.proofs.SegmentSteps.{PutSegments}
use Rattle.vg_meta.proofs.encoding.put_segments.Given as goal

abbrev pub decreases-loop-segment : goal.decreases-loop-segment
decreases-loop-segment l = length (segments (l.rest.0.now ++ l.rest.1.now))

abbrev pub invariant-loop-segment : goal.invariant-loop-segment
invariant-loop-segment l = PutSegments l.at (l.extents ++ l.more) (l.rest.0.now ++ l.rest.1.now) l.initial.to l.to l.end
