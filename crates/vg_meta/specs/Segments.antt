-- Extents by segments (this project's format): a segment is a first extent, and how many follow one another from it on.
use Rattle.std.specs.Prelude.{◌≡◌, ◌≢◌, ℕ, ◌+◌, ◌-◌, ◌<◌, ◌≤◌, ◌==◌, if◌then◌else◌, Bool, false, List, [], ◌∷◌, ◌++◌, length, drop, Option, None, Some, slice_get}
use Rattle.std.specs.List.{flat_map, range_with_len, AllByRecursion}

-- so many extents that follow one another, from a first one on
pub record Segment : Type 0 where
  pub first : ℕ
  pub count : ℕ

-- the extents of segments, one segment after the other
abbrev pub spread_all : List Segment → List ℕ
spread_all ss = flat_map (λ s. range_with_len s.first s.count) ss

-- an extent in front of segments: it joins the first of these where that goes on with it
unfoldable pub joined : ℕ → List Segment → List Segment
joined e [] = record { first = e; count = 1 } ∷ []
joined e (s ∷ ss) = if s.first == e + 1 then record { first = e; count = s.count + 1 } ∷ ss else record { first = e; count = 1 } ∷ s ∷ ss

-- extents as the fewest segments, in the order of the extents
unfoldable pub segments : List ℕ → List Segment
segments [] = []
segments (e ∷ es) = joined e (segments es)

-- an extent follows the one in front of it, where there is one
abbrev pub follows : Option ℕ → ℕ → Bool
follows None e = false
follows (Some last) e = e == last + 1

-- so many extents do not follow the one in front of them: a segment begins at each of these
unfoldable pub beginnings : Option ℕ → List ℕ → ℕ
beginnings last [] = 0
beginnings last (e ∷ es) = (if follows last e then 0 else 1) + beginnings (Some e) es

-- what stands behind a segment does not begin where this one ends
abbrev pub GoesOnElsewhere : Segment → List Segment → Type 0
GoesOnElsewhere s [] = Unit {0}
GoesOnElsewhere s (t ∷ ss) = t.first ≢ s.first + s.count

-- segments of one extent or more, of which none begins where the one in front of it ends
abbrev pub AreMaximal : List Segment → Type 0
AreMaximal [] = Unit {0}
AreMaximal (s ∷ ss) = (1 ≤ s.count) × GoesOnElsewhere s ss × AreMaximal ss

-- the first so many of the extents count up from a number one by one, and the next of them does not
pub record CountsUp (from many : ℕ) (es : List ℕ) : Type 0 where
  pub within : many ≤ length es
  pub run : es ≡ range_with_len from many ++ drop many es
  pub ends : (e : ℕ) → slice_get es many ≡ Some e → e ≢ from + many

-- a segment that may stand behind extents, where extents are counted up to a count and a volume may have so many: it has one extent or
-- more, ends within the count, leaves no more extents than the volume may have, and does not begin where the extents end
pub record GoesOn (count most : ℕ) (es : List ℕ) (first many : ℕ) : Type 0 where
  pub some : 1 ≤ many
  pub below : first + many ≤ count
  pub few : length es + many ≤ most
  pub apart : (e : ℕ) → slice_get es (length es - 1) ≡ Some e → first ≢ e + 1

-- extents that a volume of a table may have, where they are counted up to a count and it may have so many: each is below the count, and there
-- are no more than that many
pub record AreFew (count most : ℕ) (es : List ℕ) : Type 0 where
  pub below : AllByRecursion (λ e. e < count) es
  pub few : length es ≤ most
