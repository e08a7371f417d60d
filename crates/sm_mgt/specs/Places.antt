-- The places of the volume of records: 512 sectors, each free or with the record of a disk (this project's format).
use Rattle.std.specs.Prelude.{◌≡◌, ◌≢◌, ℕ, ◌<◌, ◌≤◌, ◌⊎◌, All, IfSome, Bool, true, false, if◌then◌else◌, List, [], ◌∷◌, ◌++◌, length, find, position, is_none, Option, Some, None, unwrap_or, slice_index_or}
use Rattle.std.specs.List.{slice_get}
use Rattle.std.specs.Option.{option_or}
use Rattle.std.specs.Str.{bytes_eq}
use Rattle.sm_base.specs.declared.names.Name.TheVariants.{Mgt}
use Rattle.sm_disk.specs.Held.{Held, reads}
use Rattle.sm_disk.specs.Sectors.{sector, zeros}
use Rattle.sm_record.specs.declared.records.Record.{Record}
use Rattle.sm_record.specs.declared.records.Reading.{Reading}
use Rattle.sm_record.specs.declared.records.Reading.TheVariants.{Free, Taken, Damaged}
use Rattle.sm_record.specs.Records.{IsRecord, reading}
use Rattle.vg_meta.specs.Tables.{VolumeTable}
use Rattle.vg_volumes.specs.Sites.{Site, volume_of}
use Rattle.vg_volumes.specs.Stored.{stored, sectors_in, held_in}
use Rattle.vg_volumes.specs.declared.stores.Store.{Ghosts}

-- the number of places
abbrev pub place_count : ℕ
place_count = 512

-- what the sector of a place reads as
abbrev pub reading_of : Held → ℕ → Reading
reading_of held k = reading (reads held k)

-- the volume of records
abbrev pub records_held : Site → VolumeTable → Held → Held
records_held site t area = volume_of site t area Mgt

-- what a store's volume of records holds
abbrev pub records_of : {S : Type 0} → Ghosts S → S → Held
records_of g s = held_in (stored g s) Mgt

-- the volume of records of a store has all places
abbrev pub HasAllPlaces : {S : Type 0} → Ghosts S → S → Type 0
HasAllPlaces g s = place_count ≤ sectors_in (stored g s) Mgt

-- free for none
abbrev pub as_reading : Option Record → Reading
as_reading None = Free
as_reading (Some r) = Taken r

-- a place with a record has a right one
abbrev pub IsProperPlace : Option Record → Type 0
IsProperPlace place = IfSome place IsRecord

-- the list is that of all places, each free or with a right record
pub record ArePlaces (places : List (Option Record)) : Type 0 where
  pub long : length places ≡ place_count
  pub proper : All IsProperPlace places

-- the places in memory are those that a read gives
pub record Agrees (held : Held) (places : List (Option Record)) : Type 0 where
  pub long : length places ≡ place_count
  pub each : (k : ℕ) (o : Option Record) → slice_get places k ≡ Some o → reading_of held k ≡ as_reading o

-- a place with the record of a UUID
abbrev pub is_of : List ℕ → Option Record → Bool
is_of u None = false
is_of u (Some r) = bytes_eq r.uuid u

-- the record of a UUID: the one in the least place that has it
abbrev pub record_in : List (Option Record) → List ℕ → Option Record
record_in places u = unwrap_or (find (is_of u) places) None

-- the place of this number has a record of the UUID
abbrev pub HasRecordAt : List (Option Record) → List ℕ → ℕ → Type 0
HasRecordAt places u p = is_of u (slice_index_or places p None) ≡ true

-- a place, free where it had a record of the UUID
abbrev pub cleared : List ℕ → Option Record → Option Record
cleared u place = if is_of u place then None else place

-- where a record of this UUID goes: over the one of the same UUID in the least place, else into the least free place
unfoldable pub place_for : List (Option Record) → List ℕ → Option ℕ
place_for places u = option_or (position (is_of u) places) (position is_none places)

-- the first damaged record
pub record IsFirstDamaged (held : Held) (place : ℕ) : Type 0 where
  pub within : place < place_count
  pub damaged : reading_of held place ≡ Damaged
  pub before : (k : ℕ) → k < place → reading_of held k ≢ Damaged

-- zeros were to be written at some places, and maybe were not at all of them: at each place the sector is as it
-- was, or zeros are pending behind it
pub record TornZeros (At : ℕ → Type 0) (old new : Held) : Type 0 where
  pub floor : (p : ℕ) → new.floor p ≡ old.floor p
  pub pending : (p : ℕ) → (new.pending p ≡ old.pending p) ⊎ (At p × (new.pending p ≡ old.pending p ++ zeros ∷ []))

-- zeros were written at these places, and nothing anywhere else
pub record WroteZeros (At : ℕ → Type 0) (old new : Held) : Type 0 where
  pub floor : (p : ℕ) → new.floor p ≡ old.floor p
  pub inside : (p : ℕ) → At p → new.pending p ≡ old.pending p ++ zeros ∷ []
  pub outside : (p : ℕ) → (At p → ⊥) → new.pending p ≡ old.pending p

-- so many sectors of these bytes read as these places
pub record ReadsAsPlaces (bytes : List ℕ) (count : ℕ) (places : List (Option Record)) : Type 0 where
  pub long : length places ≡ count
  pub each : (k : ℕ) (o : Option Record) → slice_get places k ≡ Some o → reading (sector bytes k) ≡ as_reading o

-- this sector of the bytes is the first that is damaged
pub record IsDamagedFirst (bytes : List ℕ) (place : ℕ) : Type 0 where
  pub within : place < place_count
  pub damaged : reading (sector bytes place) ≡ Damaged
  pub before : (k : ℕ) → k < place → reading (sector bytes k) ≢ Damaged
