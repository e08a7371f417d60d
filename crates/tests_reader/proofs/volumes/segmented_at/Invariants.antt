use Rattle.vg_meta.proofs.SegmentSteps.{ReadSegments}
use Rattle.tests_reader.proofs.volumes.segmented_at.Given as goal

abbrev pub invariant-loop : goal.invariant-loop
invariant-loop l = ReadSegments l.count l.count l.bytes l.number l.rest l.extents.items l.counter
