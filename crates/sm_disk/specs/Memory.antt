-- What a device in memory stands for (this project's fake of a device).
use Rattle.std.specs.Prelude.{◌≡◌, ℕ, zero, suc, ◌+◌, ◌%◌, min, Bool, false, List, [], ◌∷◌, length, map, All, unwrap_or, slice_index, slice_index_or}
use Rattle.std.specs.Map.{lookup, values_of}
use Rattle.std.specs.BTreeMap.{is_at}
use Rattle.std.specs.Ordering.{nat_cmp}
use Rattle.sm_disk.specs.Sectors.{IsSector, zeros}
use Rattle.sm_disk.specs.Held.{Held, newest, IsSettled}
use Rattle.sm_disk.specs.Failing.{Orders, no_orders}

-- one place that was written
pub record HeldPlace : Type 0 where
  pub floor : List ℕ
  pub pending : List (List ℕ)

-- a place that was never written holds zeros
abbrev pub blank : HeldPlace
blank = record { floor = zeros; pending = [] }

-- the place after a sync
abbrev pub settled : HeldPlace → HeldPlace
settled k = record { floor = newest k.floor k.pending; pending = [] }

-- the value with this number: 0 is the floor, k the k-th pending one, and so round
abbrev pub value_of : HeldPlace → ℕ → List ℕ
value_of k number = slice_index_or (k.floor ∷ k.pending) (number % (length k.pending + 1)) k.floor

-- the places that were written, in rising order
abbrev pub WrittenPlaces : Type 0
WrittenPlaces = List (ℕ × HeldPlace)

unfoldable pub slot_at : WrittenPlaces → ℕ → HeldPlace
slot_at slots p = unwrap_or (lookup (is_at (nat_cmp p)) slots) blank

-- what the places hold together
abbrev pub held_by : WrittenPlaces → Held
held_by slots = record { floor = λ p. (slot_at slots p).floor; pending = λ p. (slot_at slots p).pending }

-- a sync settles each place
abbrev pub all_settled : WrittenPlaces → WrittenPlaces
all_settled slots = map (λ e. (e.0, settled e.1)) slots

-- a place holds sectors
pub record HoldsSectors (k : HeldPlace) : Type 0 where
  pub floor : IsSector k.floor
  pub pending : All (λ v. IsSector v) k.pending

-- all that the places hold is sectors
abbrev pub AllSectors : WrittenPlaces → Type 0
AllSectors slots = All (λ k. HoldsSectors k) (values_of slots)

-- a device in memory
pub record Memory : Type 0 where
  -- its size, in sectors
  pub sectors : ℕ
  pub slots : WrittenPlaces
  -- which calls to come fail
  pub orders : Orders
  -- how many calls have failed
  pub faults : ℕ
  -- how many reads were called
  pub read_calls : ℕ
  -- the last write found no memory
  pub short : Bool

-- a device that was never written, of which no call fails
abbrev pub new_memory : ℕ → Memory
new_memory sectors = record { sectors = sectors; slots = []; orders = no_orders; faults = 0; read_calls = 0; short = false }

-- crash images by choice

-- 1 where a value is pending
abbrev pub weight : List (List ℕ) → ℕ
weight pending = min (length pending) 1

-- so many of the places below this one have pending values
unfoldable pub rank : Held → ℕ → ℕ
rank h zero = 0
rank h (suc p) = rank h p + weight (h.pending p)

-- the number for the place that has so many before it: the choice goes round, and an empty one is all zeros
abbrev pub pick : List ℕ → ℕ → ℕ
pick choice i = slice_index choice (i % length choice)

-- the value with this number: 0 is the floor, k the k-th pending one, and so round
abbrev pub chosen : Held → ℕ → ℕ → List ℕ
chosen h p number = value_of (record { floor = h.floor p; pending = h.pending p }) number

-- what a crash leaves by these choices
pub record IsLeft (choice : List ℕ) (old new : Held) : Type 0 where
  pub floor : (p : ℕ) → new.floor p ≡ chosen old p (pick choice (rank old p))
  pub pending : IsSettled new

-- a device that a crash left by these choices: it has nothing pending, and no call of it fails
pub record IsCrashImage (choice : List ℕ) (old new : Memory) : Type 0 where
  pub size : new.sectors ≡ old.sectors
  pub left : IsLeft choice (held_by old.slots) (held_by new.slots)
  pub fresh : new ≡ record (new_memory old.sectors) { slots = new.slots }
