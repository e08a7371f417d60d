-- The table of a volume group (this project's format): a sequence number, which each commit raises, and the
-- volumes in order of name. A volume has a name, two marks and its extents, in order. The marks are hidden, and
-- fresh: made and not yet filled. Extents are counted from 0. A table is seen in two ways: as its list of
-- volumes, by which it is written, and by name, by which it is used.
use Rattle.std.specs.Prelude.{◌≡◌, ℕ, ◌<◌, ◌^◌, Bool, true, false, not, ◌&&◌, ◌||◌, ◌==◌, nat_lt, nat_eq, if◌then◌else◌, IsTrue, List, [], ◌∷◌, length, map, filter, Option, Some, None, bytes_eq, slice_get}
use Rattle.std.specs.List.{flat_map, list_any, range_with_len, AllByRecursion, IsDistinct}
use Rattle.std.specs.List.Sorted.{IsStrictlySortedBy}
use Rattle.sm_base.specs.declared.names.Name.{Name}
use Rattle.sm_base.specs.declared.names.Name.TheVariants.{Mgt, Vhd, Raw, Old, Cbt, Clone, Inflate, Coalesce, Relink, Leaf}
use Rattle.sm_base.specs.Names.{IsName, name_cmp}
use Rattle.sm_base.specs.Kinds.{is_image, is_log, is_entry}

-- a volume
pub record Row : Type 0 where
  pub name : Name
  pub hidden : Bool
  pub fresh : Bool
  pub extents : List ℕ

-- a table
pub record VolumeTable : Type 0 where
  pub sequence : ℕ
  pub volumes : List Row

-- whether two names are the same
unfoldable pub name_eq : Name → Name → Bool
name_eq Mgt Mgt = true
name_eq (Vhd u) (Vhd v) = bytes_eq u v
name_eq (Raw u) (Raw v) = bytes_eq u v
name_eq (Old u) (Old v) = bytes_eq u v
name_eq (Cbt u) (Cbt v) = bytes_eq u v
name_eq (Clone d b t) (Clone e c u) = bytes_eq d e && bytes_eq b c && bytes_eq t u
name_eq (Inflate i m) (Inflate j n) = bytes_eq i j && (m == n)
name_eq (Coalesce c p) (Coalesce d q) = bytes_eq c d && bytes_eq p q
name_eq (Relink c p) (Relink d q) = bytes_eq c d && bytes_eq p q
name_eq (Leaf l p) (Leaf m q) = bytes_eq l m && bytes_eq p q
name_eq _ _ = false

-- an image and a log have at least one extent, and a log is not hidden; no other volume has marks, and a journal entry has no extents
abbrev pub suits : Row → Bool
suits r =
    if is_image r.name then nat_lt 0 (length r.extents)
    else if is_log r.name then not r.hidden && nat_lt 0 (length r.extents)
    else not r.hidden && (not r.fresh && (not (is_entry r.name) || (length r.extents == 0)))

-- what a volume of a table is
pub record IsVolume (r : Row) : Type 0 where
  pub name : IsName r.name
  pub kind : IsTrue (suits r)

-- the names, in order
abbrev pub names_of : List Row → List Name
names_of rs = map (λ r. r.name) rs

-- the extents of all volumes, one volume after the other
abbrev pub extents_in : List Row → List ℕ
extents_in rs = flat_map (λ r. r.extents) rs

-- the extents of all volumes of a table
abbrev pub used : VolumeTable → List ℕ
used t = extents_in t.volumes

-- volumes in strictly rising order of name; each extent is below the count, and no extent stands twice
pub record AreVolumes (count : ℕ) (rs : List Row) : Type 0 where
  pub each : AllByRecursion IsVolume rs
  pub rising : IsStrictlySortedBy name_cmp (names_of rs)
  pub below : AllByRecursion (λ e. e < count) (extents_in rs)
  pub distinct : IsDistinct nat_eq (extents_in rs)

-- what each table is, where extents are counted up to a count
pub record IsTable (count : ℕ) (t : VolumeTable) : Type 0 where
  pub sequence : t.sequence < 2 ^ 48
  pub volumes : AreVolumes count t.volumes

-- the volumes by name
abbrev pub Rows : Type 0
Rows = Name → Option Row

-- the volume of this name that stands first
unfoldable pub row_of : List Row → Rows
row_of [] n = None
row_of (r ∷ rs) n = if name_eq r.name n then Some r else row_of rs n

-- the volumes of a table by their names
abbrev pub rows : VolumeTable → Rows
rows t = row_of t.volumes

-- the extents of a volume, where it is there
abbrev pub extents_of : Option Row → List ℕ
extents_of None = []
extents_of (Some r) = r.extents

-- extents below the count, none of them in two places
pub record IsSpread (count : ℕ) (vs : Rows) : Type 0 where
  pub below : (n : Name) (i e : ℕ) → slice_get (extents_of (vs n)) i ≡ Some e → e < count
  pub same_name : (n m : Name) (i j e : ℕ) → slice_get (extents_of (vs n)) i ≡ Some e → slice_get (extents_of (vs m)) j ≡ Some e → n ≡ m
  pub same_place : (n : Name) (i j e : ℕ) → slice_get (extents_of (vs n)) i ≡ Some e → slice_get (extents_of (vs n)) j ≡ Some e → i ≡ j

-- whether a number is among others
abbrev pub is_one_of : List ℕ → ℕ → Bool
is_one_of es e = list_any (λ x. x == e) es

-- the extents below the count that no volume has, rising
unfoldable pub free : ℕ → VolumeTable → List ℕ
free count t = filter (λ e. not (is_one_of (used t) e)) (range_with_len 0 count)

-- the table of a new group: the volume of the records alone, on the first extents
abbrev pub new_table : ℕ → VolumeTable
new_table extents = record {
  sequence = 1;
  volumes = record { name = Mgt; hidden = false; fresh = false; extents = range_with_len 0 extents } ∷ [];
}
