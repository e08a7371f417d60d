-- Why a volume of an import was not made or did not grow (this project's own).
use Rattle.std.specs.Prelude.{◌≡◌, ◌<◌, ℕ, Err, Result}
use Rattle.vg_volumes.specs.Stored.{Faults}
use Rattle.vg_volumes.specs.declared.stores.Store.{Ghosts}
use Rattle.sm_importing.specs.declared.faults.RoomFault.{RoomFault}
use Rattle.sm_importing.specs.declared.faults.RoomFault.TheVariants.{NoSpace, NoMemory, Device}

-- where space was wanting, fewer extents are free than are needed, and the fault says how many of each
abbrev pub IsLack : ℕ → ℕ → RoomFault → Type 0
IsLack need there (NoSpace needed left) = (needed ≡ need) × (left ≡ there) × (left < need)
IsLack need there NoMemory = Unit {0}
IsLack need there Device = Unit {0}

-- the device had a fault exactly where the call failed by it
pub record CountsRoom {S : Type 0} (g : Ghosts S) {T : Type 0} (result : Result T RoomFault) (old new : S) : Type 0 where
  pub device : result ≡ Err Device → Faults g old new
  pub calm : (result ≡ Err Device → ⊥) → g.faults new ≡ g.faults old
