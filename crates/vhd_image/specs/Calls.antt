-- What one call did to the sectors of a volume.
use Rattle.std.specs.Prelude.{◌≡◌, ◌≢◌, ℕ, ◌-◌, ◌⊎◌, List}
use Rattle.sm_disk.specs.Held.{Held, May, Reaches, reads}

-- the bytes at their place
abbrev pub IsAt : ℕ → List ℕ → ℕ → List ℕ → Type 0
IsAt place bytes p v = (p ≡ place) × (v ≡ bytes)

-- One sector was to be written: a stop leaves nothing new but these bytes at this place, and a read of any other place
-- gives what it gave.
pub record MayPut (place : ℕ) (bytes : List ℕ) (old new : Held) : Type 0 where
  pub reaches : Reaches (IsAt place bytes) old new
  pub others : (p : ℕ) → p ≢ place → reads new p ≡ reads old p

-- sector 0 or the last of so many
abbrev pub IsEnd : ℕ → ℕ → Type 0
IsEnd n p = (p ≡ 0) ⊎ (p ≡ n - 1)

-- These bytes were to be written into the first sector of so many and into the last one: a stop leaves nothing new but
-- them, there.
abbrev pub IsEnds : ℕ → List ℕ → Held → Held → Type 0
IsEnds n bytes a b = (p : ℕ) (v : List ℕ) → May b p v → May a p v ⊎ (IsEnd n p × (v ≡ bytes))
