-- Which extents are given out (this project's format): always the least free ones, rising.
use Rattle.std.specs.Prelude.{◌≡◌, ℕ, ◌<◌, List, length, take}
use Rattle.vg_meta.specs.Tables.{VolumeTable, free}
use Rattle.vg_extents.specs.declared.faults.FitFault.{FitFault}
use Rattle.vg_extents.specs.declared.faults.FitFault.TheVariants.{NoSpace, NoMemory}

-- these are the least free extents, so many
pub record AreLeastFree (count need : ℕ) (t : VolumeTable) (es : List ℕ) : Type 0 where
  pub least : es ≡ take need (free count t)
  pub many : length es ≡ need

-- fewer extents are free than are needed, and the fault says how many of each; want of memory is free
abbrev pub IsShortOf : ℕ → ℕ → FitFault → Type 0
IsShortOf need there (NoSpace needed left) = (needed ≡ need) × (left ≡ there) × (left < need)
IsShortOf need there NoMemory = Unit {0}

-- fewer extents of a table are free than are needed, and the fault says how many of each; want of memory is free
abbrev pub IsShort : ℕ → ℕ → VolumeTable → FitFault → Type 0
IsShort count need t = IsShortOf need (length (free count t))
