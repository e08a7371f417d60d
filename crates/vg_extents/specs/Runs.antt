-- Extents as runs (this project's own): rising, and never two runs where one would do.
use Rattle.std.specs.Prelude.{ℕ, zero, suc, ◌+◌, ◌≤◌, Bool, List, [], ◌∷◌, map, if◌then◌else◌}
use Rattle.vg_meta.specs.Segments.{Segment, spread_all}
use Rattle.vg_extents.specs.declared.runs.Run.{Run}

-- a run as a segment
abbrev pub segment_of : Run → Segment
segment_of r = record { first = r.first; count = r.count }

abbrev pub segments_of : List Run → List Segment
segments_of rs = map segment_of rs

-- the extents of runs, one run after the other
abbrev pub extents_of : List Run → List ℕ
extents_of rs = spread_all (segments_of rs)

-- segments of one extent or more, from one place on and up to another, with an extent or more between each two: so they rise, and none goes on with another
abbrev pub AreApart : ℕ → ℕ → List Segment → Type 0
AreApart from end [] = from ≤ end + 1
AreApart from end (s ∷ ss) = (from ≤ s.first) × (1 ≤ s.count) × AreApart (s.first + s.count + 1) end ss

-- the marks behind the one at which so many extents without a mark are found: all of them where none is needed, and none where there are fewer
abbrev pub behind_last : ℕ → List Bool → List Bool
behind_last zero marks = marks
behind_last (suc need) [] = []
behind_last (suc need) (mark ∷ marks) = if mark then behind_last (suc need) marks else behind_last need marks
