use Rattle.vg_meta.proofs.SegmentLaws.{few-segments, maximal-segments, segments-spread, spread-segments}
use Rattle.vg_meta.proofs.laws.law_segments.Goals as goal

pub returns-clause-back : goal.returns-clause-back
returns-clause-back c = spread-segments

pub returns-clause-maximal : goal.returns-clause-maximal
returns-clause-maximal c = maximal-segments

pub returns-clause-one : goal.returns-clause-one
returns-clause-one c = segments-spread

pub returns-clause-few : goal.returns-clause-few
returns-clause-few c = few-segments
