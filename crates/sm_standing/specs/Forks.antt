-- A fork of a disk, as the disks see it (this project's format): the disk's image becomes a hidden base, and two new
-- images that hold nothing lie over it, the disk's own and that of its twin. Its commits are: the entry is made; the
-- image gets the base's name; the base is marked hidden; the disk's new image is made, and the twin's; the disk's is
-- no longer new, and the twin's; the entry is removed.
use Rattle.std.specs.Prelude.{◌≡◌, ◌≢◌, ◌⊎◌, ℕ, ◌<◌, ◌≤◌, true, false, List, [], ◌∷◌, length, Some, None}
use Rattle.std.specs.List.{filter, list_any}
use Rattle.sm_base.specs.declared.names.Name.{Name}
use Rattle.sm_base.specs.declared.names.Name.TheVariants.{Vhd, Clone}
use Rattle.common_laws.specs.Lists.{In}
use Rattle.vg_meta.specs.Tables.{VolumeTable, Row, IsTable}
use Rattle.sm_machine.specs.Shapes.{image_limit, chain_limit}
use Rattle.sm_record.specs.declared.records.Record.{Record}
use Rattle.sm_standing.specs.Changes.{parent_of}
use Rattle.sm_standing.specs.Checks.{depth, images, is_damaged}
use Rattle.sm_standing.specs.Outlines.{outline}
use Rattle.sm_standing.specs.Contents.{Content, row, record_count, reading_at, records, is_record_of, record_of}
use Rattle.sm_standing.specs.Entries.{making, folding, folding_uuids, head, image_with, is_among, is_visible, is_forking, are_past}
use Rattle.sm_standing.specs.Images.{Image, image_of}
use Rattle.sm_standing.specs.Standing.{standing_volume, stands_plainly}
use Rattle.sm_standing.specs.Apart.{is_apart, IsSameApart, IsEmptyOver}

-- the UUIDs that a fork speaks of
abbrev pub forked : List ℕ → List ℕ → List ℕ → List (List ℕ)
forked disk base twin = disk ∷ base ∷ twin ∷ []

-- before a fork: the disk stands in the image n, and neither the base's UUID nor the twin's is a disk; no entry of a
-- fork is there, and the other entry speaks of none of the three; no image has a parent of these UUIDs; and the chain
-- of n has room for one image more
pub record IsForkable (a : Content) (disk base twin : List ℕ) (n : Name) (i : Image) : Type 0 where
  pub stood : standing_volume a.table disk ≡ Some n
  pub image : image_of a n ≡ Some i
  pub no_base : standing_volume a.table base ≡ None
  pub no_twin : standing_volume a.table twin ≡ None
  pub none_making : making a.table ≡ []
  pub beside : list_any (is_among (forked disk base twin)) (folding_uuids a.table) ≡ false
  pub childless : (m p : Name) → parent_of a m ≡ Some p → is_apart (forked disk base twin) p ≡ true
  pub room : depth (outline a) chain_limit n < chain_limit

-- where the disk's image lies: before the rename the disk stands by itself in m, and no image has the base's UUID;
-- afterwards m is the image that has it
abbrev pub IsForkPlace : VolumeTable → List ℕ → List ℕ → Name → Type 0
IsForkPlace t disk base m = ((image_with t base ≡ None) × (stands_plainly t disk ≡ Some m)) ⊎ (image_with t base ≡ Some m)

-- at any moment while the entry of a fork is there: the disk's image lies in m, whatever the new images are by then;
-- each record but the twin's is as it was
pub record IsForking (a b : Content) (disk base twin : List ℕ) (n m : Name) : Type 0 where
  pub entry : head (making b.table) ≡ Some (Clone disk base twin)
  pub folding : folding b.table ≡ folding a.table
  pub apart : IsSameApart a b (forked disk base twin)
  pub place : IsForkPlace b.table disk base m
  pub image : image_of b m ≡ image_of a n
  pub recorded : (u : List ℕ) → u ≢ twin → record_of b u ≡ record_of a u

-- once the entry is removed: the two new images are visible, and hold nothing over the base m, which is the disk's
-- image from before; the twin has a record
pub record IsForked (a b : Content) (disk base twin : List ℕ) (n m : Name) (i j k : Image) (entry : Record) : Type 0 where
  pub none_making : making b.table ≡ []
  pub folding : folding b.table ≡ folding a.table
  pub apart : IsSameApart a b (forked disk base twin)
  pub disk_visible : is_visible b.table (Vhd disk) ≡ true
  pub twin_visible : is_visible b.table (Vhd twin) ≡ true
  pub no_base : stands_plainly b.table base ≡ None
  pub image : image_of b m ≡ image_of a n
  pub disk_image : IsEmptyOver b (Vhd disk) m j i
  pub twin_image : IsEmptyOver b (Vhd twin) m k i
  pub recorded : (u : List ℕ) → u ≢ twin → record_of b u ≡ record_of a u
  pub twin_recorded : record_of b twin ≡ Some entry

-- a new image of a fork: visible, and still new, or it holds nothing over the base
pub record IsForkChild (b : Content) (m : Name) (r : Row) : Type 0 where
  pub shown : r.hidden ≡ false
  pub empty : (r.fresh ≡ true) ⊎ ((i q : Image) × IsEmptyOver b r.name m i q)

-- at any moment while the entry of a fork is there, volume by volume: n is the disk's image from before, and m its name by then
pub record IsForkMoment (a b : Content) (disk base twin : List ℕ) (n m : Name) : Type 0 where
  pub extent : b.extent ≡ a.extent
  pub block : b.block ≡ a.block
  pub entries : b.entries ≡ a.entries
  pub table : IsTable b.count b.table
  pub later : a.table.sequence < b.table.sequence
  pub making : making b.table ≡ Clone disk base twin ∷ []
  pub folding : folding b.table ≡ folding a.table
  pub apart : IsSameApart a b (forked disk base twin)
  pub place : IsForkPlace b.table disk base m
  pub few : length (images b.table) ≤ image_limit
  pub stage : is_forking b.table disk base twin ≡ true
  pub past : are_past b.table (Clone disk base twin) ≡ true
  pub own : Row
  pub stood : row a n ≡ Some own
  pub filled : own.fresh ≡ false
  pub now : Row
  pub moved : row b m ≡ Some now
  pub still : now.fresh ≡ false
  pub long : length now.extents ≡ length own.extents
  pub image : image_of b m ≡ image_of a n
  -- each volume whose name speaks of one of the three is the entry, the disk's image, or one of the two new ones
  pub volumes : (r : Row) → In r b.table.volumes → is_apart (forked disk base twin) r.name ≡ false
      → (r.name ≡ Clone disk base twin) ⊎ ((r.name ≡ m) ⊎ (((r.name ≡ Vhd disk) ⊎ (r.name ≡ Vhd twin)) × IsForkChild b m r))
  pub right : (k : ℕ) → k < record_count → is_damaged (reading_at b k) ≡ false
  pub recorded : (u : List ℕ) → u ≢ twin → length (filter (is_record_of u) (records b)) ≡ length (filter (is_record_of u) (records a))
