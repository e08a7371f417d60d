-- What a device holds, what a read gives, and what a crash may leave (this project's model of a disk).
--
-- A device has at each place a floor, which is the sector there at the last sync, and the values written there
-- since, in order. A read gives the last of these, or the floor. A crash may leave at each place the floor or any
-- one of the values: each place chooses by itself. A place is the number of a sector.
use Rattle.std.specs.Prelude.{◌≡◌, ℕ, ◌+◌, ◌-◌, ◌*◌, ◌%◌, ◌^◌, ◌<◌, ◌≤◌, min, ◌⊎◌, List, [], ◌∷◌, ◌++◌, length, Contains, Result, OnOk, OnErr}
use Rattle.sm_disk.specs.Sectors.{IsSector, sector}

-- at each place its floor and what was written since, in order
pub record Held : Type 0 where
  pub floor : ℕ → List ℕ
  pub pending : ℕ → List (List ℕ)

-- the last of some values, or the first value where there are none
abbrev pub newest : List ℕ → List (List ℕ) → List ℕ
newest x [] = x
newest x (y ∷ ys) = newest y ys

-- what a read gives
abbrev pub reads : Held → ℕ → List ℕ
reads h p = newest (h.floor p) (h.pending p)

-- what a crash may leave at a place
abbrev pub May : Held → ℕ → List ℕ → Type 0
May h p v = (v ≡ h.floor p) ⊎ Contains (h.pending p) v

-- what a crash may leave of a device of so many sectors
abbrev pub Allows : ℕ → Held → (ℕ → List ℕ) → Type 0
Allows size h image = (p : ℕ) → p < size → May h p (image p)

-- one of the places, from `at` on, of so many bytes
abbrev pub IsIn : ℕ → ℕ → ℕ → Type 0
IsIn at len p = (at ≤ p) × (512 * p < 512 * at + len)

-- so many bytes, from the place `at` on, are whole sectors of a device of so many sectors, and at least one
pub record IsWhole (at len size : ℕ) : Type 0 where
  pub some : 0 < len
  pub whole : len % 512 ≡ 0
  pub within : 512 * at + len ≤ 512 * size

-- a write of these bytes that may have failed: any of its sectors are pending
pub record Torn (at : ℕ) (bytes : List ℕ) (old new : Held) : Type 0 where
  pub floor : (p : ℕ) → new.floor p ≡ old.floor p
  pub pending : (p : ℕ) → (new.pending p ≡ old.pending p)
      ⊎ (IsIn at (length bytes) p × (new.pending p ≡ old.pending p ++ sector bytes (p - at) ∷ []))

-- a write of these bytes that succeeded: each of its sectors is pending, and newest
pub record Wrote (at : ℕ) (bytes : List ℕ) (old new : Held) : Type 0 where
  pub floor : (p : ℕ) → new.floor p ≡ old.floor p
  pub inside : (p : ℕ) → IsIn at (length bytes) p → new.pending p ≡ old.pending p ++ sector bytes (p - at) ∷ []
  pub outside : (p : ℕ) → (IsIn at (length bytes) p → ⊥) → new.pending p ≡ old.pending p

-- a read of these bytes that succeeded
abbrev pub Gave : ℕ → Held → List ℕ → Type 0
Gave at h bytes = (p : ℕ) → IsIn at (length bytes) p → sector bytes (p - at) ≡ reads h p

-- at each place the same floor and the same pending values
pub record SameHeld (old new : Held) : Type 0 where
  pub floor : (p : ℕ) → new.floor p ≡ old.floor p
  pub pending : (p : ℕ) → new.pending p ≡ old.pending p

-- a sync, failed or not: a read gives what it gave, and a crash leaves nothing that it could not leave before
pub record Keeps (old new : Held) : Type 0 where
  pub reads : (p : ℕ) → reads new p ≡ reads old p
  pub may : (p : ℕ) (v : List ℕ) → May new p v → May old p v

-- nothing is pending
abbrev pub IsSettled : Held → Type 0
IsSettled h = (p : ℕ) → h.pending p ≡ []

-- what the device holds is sectors
pub record HasSectors (size : ℕ) (h : Held) : Type 0 where
  pub floor : (p : ℕ) → p < size → IsSector (h.floor p)
  pub pending : (p : ℕ) (v : List ℕ) → p < size → Contains (h.pending p) v → IsSector v

-- a count of faults that rose, or that is spent: no fault can raise 2^64 - 1
abbrev pub Rose : ℕ → ℕ → Type 0
Rose before now = min (before + 1) (2 ^ 64 - 1) ≤ now

-- a call fails only where the count of faults rose, and where it succeeds the count is what it was: so nothing
-- succeeds over a failed call, whether that is passed over or tried again
abbrev pub IsCounted : {T E : Type 0} → Result T E → ℕ → ℕ → Type 0
IsCounted result before now = OnErr result (Rose before now) × OnOk result (now ≡ before)

-- Whatever happened in between: a crash leaves nothing new but what was written, and so does a read.
pub record Reaches (W : ℕ → List ℕ → Type 0) (old new : Held) : Type 0 where
  pub may : (p : ℕ) (v : List ℕ) → May new p v → May old p v ⊎ W p v
  pub gives : (p : ℕ) → (reads new p ≡ reads old p) ⊎ W p (reads new p)

-- a write of these bytes puts this value at this place
abbrev pub Puts : ℕ → List ℕ → ℕ → List ℕ → Type 0
Puts at bytes p v = IsIn at (length bytes) p × (v ≡ sector bytes (p - at))

-- at each other place a read gives what it gave
abbrev pub ReadsElsewhere : ℕ → ℕ → Held → Held → Type 0
ReadsElsewhere at len old new = (p : ℕ) → (IsIn at len p → ⊥) → reads new p ≡ reads old p

-- a device seen through a function of places
abbrev pub moved : (ℕ → ℕ) → Held → Held
moved place h = record { floor = λ p. h.floor (place p); pending = λ p. h.pending (place p) }
