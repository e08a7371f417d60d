-- The six changes of a table (this project's format): when each is allowed, and what it leaves. Each change
-- raises the sequence number by one, or leaves 2^48 - 1.
use Rattle.std.specs.Prelude.{◌≡◌, ◌≢◌, ℕ, ◌+◌, ◌-◌, ◌<◌, ◌≤◌, ◌^◌, min, Bool, true, false, not, ◌||◌, IsTrue, nat_eq, if◌then◌else◌, ◌⊎◌, List, [], ◌∷◌, ◌++◌, length, take, Option, Some, None}
use Rattle.std.specs.List.{AllByRecursion, IsDistinct}
use Rattle.std.specs.Ordering.{is_lt}
use Rattle.sm_base.specs.declared.names.Name.{Name}
use Rattle.sm_base.specs.declared.names.Name.TheVariants.{Mgt}
use Rattle.sm_base.specs.Names.{IsName, name_cmp}
use Rattle.vg_meta.specs.declared.changes.Tag.{Tag}
use Rattle.vg_meta.specs.declared.changes.Tag.TheVariants.{Hidden, Fresh}
use Rattle.vg_meta.specs.declared.changes.Change.{Change}
use Rattle.vg_meta.specs.declared.changes.Change.TheVariants.{Create, Remove, Rename, Grow, Cut, Mark}
use Rattle.sm_base.specs.Kinds.{is_image, is_log, is_entry}
use Rattle.vg_meta.specs.Tables.{Row, VolumeTable, Rows, row_of, extents_in, name_eq, is_one_of, suits, extents_of}
use Rattle.vg_meta.specs.Roomy.{RoomyTable, places}

-- extents below the count that no volume has, none of them twice
pub record AreFree (count : ℕ) (rs : List Row) (es : List ℕ) : Type 0 where
  pub below : AllByRecursion (λ e. e < count) es
  pub unused : AllByRecursion (λ e. is_one_of (extents_in rs) e ≡ false) es
  pub distinct : IsDistinct nat_eq es

-- the volume that a Create makes
abbrev pub made : Name → Bool → List ℕ → Row
made name fresh extents = record { name = name; hidden = false; fresh = fresh; extents = extents }

-- a mark of a volume
abbrev pub has_tag : Tag → Row → Bool
has_tag Hidden r = r.hidden
has_tag Fresh r = r.fresh

-- the volume with a mark set or taken away
abbrev pub tagged : Tag → Bool → Row → Row
tagged Hidden on r = record r { hidden = on }
tagged Fresh on r = record r { fresh = on }

-- a volume with more extents at its end
abbrev pub grown : List ℕ → Row → Row
grown more r = record r { extents = r.extents ++ more }

-- a volume with so many of its first extents alone
abbrev pub cut_to : ℕ → Row → Row
cut_to keep r = record r { extents = take keep r.extents }

-- a volume under another name
abbrev pub renamed : Name → Row → Row
renamed to r = record r { name = to }

-- no volume has the name, which is a name; a journal entry has no extents and no marks, an image and a log have at least one extent
pub record AllowsCreate (count : ℕ) (rs : List Row) (name : Name) (fresh : Bool) (extents : List ℕ) : Type 0 where
  pub name_proper : IsName name
  pub new_name : row_of rs name ≡ None
  pub not_mgt : name ≢ Mgt
  pub kind : IsTrue (suits (made name fresh extents))
  pub extents_free : AreFree count rs extents

-- the volume is there, and is not that of the records
pub record AllowsRemove (rs : List Row) (name : Name) : Type 0 where
  pub row : Row
  pub there : row_of rs name ≡ Some row
  pub not_mgt : name ≢ Mgt

-- the one name is there and the other is not, and is a name; both are of journal entries or both of images
pub record AllowsRename (rs : List Row) (from to : Name) : Type 0 where
  pub row : Row
  pub there : row_of rs from ≡ Some row
  pub name_proper : IsName to
  pub new_name : row_of rs to ≡ None
  pub same_kind : ((is_image from ≡ true) × (is_image to ≡ true)) ⊎ ((is_entry from ≡ true) × (is_entry to ≡ true))

-- an image gets at least one free extent
pub record AllowsGrow (count : ℕ) (rs : List Row) (name : Name) (extents : List ℕ) : Type 0 where
  pub row : Row
  pub there : row_of rs name ≡ Some row
  pub image : is_image name ≡ true
  pub some_extents : 0 < length extents
  pub extents_free : AreFree count rs extents

-- an image keeps at least one extent, and not all
pub record AllowsCut (rs : List Row) (name : Name) (keep : ℕ) : Type 0 where
  pub row : Row
  pub there : row_of rs name ≡ Some row
  pub image : is_image name ≡ true
  pub some_kept : 0 < keep
  pub some_gone : keep < length row.extents

-- an image has both marks, a log may be new
abbrev pub takes_tag : Tag → Name → Bool
takes_tag Hidden n = is_image n
takes_tag Fresh n = is_image n || is_log n

-- a volume that takes the mark has it otherwise
pub record AllowsMark (rs : List Row) (name : Name) (tag : Tag) (on : Bool) : Type 0 where
  pub row : Row
  pub there : row_of rs name ≡ Some row
  pub taking : takes_tag tag name ≡ true
  pub otherwise : has_tag tag row ≡ not on

-- when a change of volumes is allowed, where extents are counted up to a count
abbrev pub AllowsIn : ℕ → List Row → Change → Type 0
AllowsIn count rs (Create name fresh extents) = AllowsCreate count rs name fresh extents
AllowsIn count rs (Remove name) = AllowsRemove rs name
AllowsIn count rs (Rename from to) = AllowsRename rs from to
AllowsIn count rs (Grow name extents) = AllowsGrow count rs name extents
AllowsIn count rs (Cut name keep) = AllowsCut rs name keep
AllowsIn count rs (Mark name tag on) = AllowsMark rs name tag on

-- when a change of a table is allowed
abbrev pub Permits : ℕ → VolumeTable → Change → Type 0
Permits count t change = AllowsIn count t.volumes change

-- the volumes with one more, in order of name
unfoldable pub put : Row → List Row → List Row
put r [] = r ∷ []
put r (s ∷ rs) = if is_lt (name_cmp r.name s.name) then r ∷ s ∷ rs else s ∷ put r rs

-- the volumes without the first of this name
unfoldable pub without : Name → List Row → List Row
without n [] = []
without n (r ∷ rs) = if name_eq r.name n then rs else r ∷ without n rs

-- the volumes with the first of this name as f makes it
unfoldable pub with_row : Name → (Row → Row) → List Row → List Row
with_row n f [] = []
with_row n f (r ∷ rs) = if name_eq r.name n then f r ∷ rs else r ∷ with_row n f rs

-- the volumes with a row put in, where there is one
abbrev pub put_some : Option Row → (Row → Row) → List Row → List Row
put_some None f rs = rs
put_some (Some r) f rs = put (f r) rs

-- the volumes that a change leaves
abbrev pub changed : List Row → Change → List Row
changed rs (Create name fresh extents) = put (made name fresh extents) rs
changed rs (Remove name) = without name rs
changed rs (Rename from to) = put_some (row_of rs from) (renamed to) (without from rs)
changed rs (Grow name extents) = with_row name (grown extents) rs
changed rs (Cut name keep) = with_row name (cut_to keep) rs
changed rs (Mark name tag on) = with_row name (tagged tag on) rs

-- one more, or the last sequence number
abbrev pub raised : ℕ → ℕ
raised sequence = min (sequence + 1) (2 ^ 48 - 1)

-- the table that a change leaves
abbrev pub applied : VolumeTable → Change → VolumeTable
applied t change = record { sequence = raised t.sequence; volumes = changed t.volumes change }

-- the same by name: the names that a change speaks of
abbrev pub SpeaksOf : Change → Name → Type 0
SpeaksOf (Create name fresh extents) n = n ≡ name
SpeaksOf (Remove name) n = n ≡ name
SpeaksOf (Rename from to) n = (n ≡ from) ⊎ (n ≡ to)
SpeaksOf (Grow name extents) n = n ≡ name
SpeaksOf (Cut name keep) n = n ≡ name
SpeaksOf (Mark name tag on) n = n ≡ name

-- extents below the count that no volume has, by name
pub record AreUnused (count : ℕ) (vs : Rows) (es : List ℕ) : Type 0 where
  pub below : AllByRecursion (λ e. e < count) es
  pub unused : (n : Name) → AllByRecursion (λ e. is_one_of (extents_of (vs n)) e ≡ false) es
  pub distinct : IsDistinct nat_eq es

-- what becomes of them
abbrev pub Does : ℕ → Change → Rows → Rows → Type 0
Does count (Create name fresh extents) old new = (old name ≡ None) × (new name ≡ Some (made name fresh extents)) × AreUnused count old extents
Does count (Remove name) old new = (r : Row) × (old name ≡ Some r) × (new name ≡ None)
Does count (Rename from to) old new = (r : Row) × (old from ≡ Some r) × (old to ≡ None) × (new from ≡ None) × (new to ≡ Some (renamed to r))
Does count (Grow name extents) old new = (r : Row) × (old name ≡ Some r) × (new name ≡ Some (grown extents r)) × AreUnused count old extents
Does count (Cut name keep) old new = (r : Row) × (old name ≡ Some r) × (new name ≡ Some (cut_to keep r)) × (keep < length r.extents)
Does count (Mark name tag on) old new = (r : Row) × (old name ≡ Some r) × (new name ≡ Some (tagged tag on r))

-- a change of the volumes by name
pub record Changes (count : ℕ) (change : Change) (old new : Rows) : Type 0 where
  pub does : Does count change old new
  pub others : (n : Name) → (SpeaksOf change n → ⊥) → new n ≡ old n

-- a Create wants a spare row, and a Grow spare places of its volume
abbrev pub HasRoom : RoomyTable → Change → Type 0
HasRoom k (Create name fresh extents) = 0 < k.spare
HasRoom k (Remove name) = Unit {0}
HasRoom k (Rename from to) = Unit {0}
HasRoom k (Grow name extents) = length extents ≤ places k name
HasRoom k (Cut name keep) = Unit {0}
HasRoom k (Mark name tag on) = Unit {0}

-- how many rows are spare afterwards
abbrev pub spare_after : ℕ → Change → ℕ
spare_after spare (Create name fresh extents) = spare - 1
spare_after spare (Remove name) = spare + 1
spare_after spare (Rename from to) = spare
spare_after spare (Grow name extents) = spare
spare_after spare (Cut name keep) = spare
spare_after spare (Mark name tag on) = spare

-- how many places of each volume are spare afterwards at least
abbrev pub places_after : (Name → ℕ) → Change → Name → ℕ
places_after places (Create name fresh extents) n = if name_eq n name then 0 else places n
places_after places (Remove name) n = if name_eq n name then 0 else places n
places_after places (Rename from to) n = if name_eq n to then places from else if name_eq n from then 0 else places n
places_after places (Grow name extents) n = if name_eq n name then places n - length extents else places n
places_after places (Cut name keep) n = places n
places_after places (Mark name tag on) n = places n
