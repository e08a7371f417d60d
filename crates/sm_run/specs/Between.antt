-- What a stop may leave of the disks during one step, and after it.
use Rattle.std.specs.Prelude.{◌≡◌, ◌⊎◌, ℕ, List, map}
use Rattle.sm_machine.specs.Disks.{Disk}
use Rattle.sm_machine.specs.Runs.{face, HasSector}

-- a sector that these disks have, other disks had before
abbrev pub HadSector : (List Disk → Type 0) → List ℕ → ℕ → List ℕ → Type 0
HadSector before u k bytes = (ds : List Disk) × before ds × HasSector ds u k bytes

-- the disks are those from before the step: each sector has a value that it might have had as the step began
pub record IsStill (before : List Disk → Type 0) (old : List Disk) (ds : List Disk) : Type 0 where
  pub faces : map face ds ≡ map face old
  pub sectors : (u : List ℕ) (k : ℕ) (bytes : List ℕ) → HasSector ds u k bytes → HadSector before u k bytes

-- the disks are those from after the step: each sector has its value after it, or one that it might have had as the step began
pub record IsAlready (before : List Disk → Type 0) (new : List Disk) (ds : List Disk) : Type 0 where
  pub faces : map face ds ≡ map face new
  pub sectors : (u : List ℕ) (k : ℕ) (bytes : List ℕ) → HasSector ds u k bytes
      → HadSector before u k bytes ⊎ HasSector new u k bytes

-- what a stop may leave at the return of a step: the disks from before it, or those from after it
abbrev pub IsBetween : (List Disk → Type 0) → List Disk → List Disk → List Disk → Type 0
IsBetween before old new ds = IsStill before old ds ⊎ IsAlready before new ds

-- disks that have the faces of others, and in each sector what those have
pub record IsSettledAs (new : List Disk) (ds : List Disk) : Type 0 where
  pub faces : map face ds ≡ map face new
  pub sectors : (u : List ℕ) (k : ℕ) (bytes : List ℕ) → HasSector ds u k bytes → HasSector new u k bytes
