-- Worked contents: three images of 64 KiB lie on the extents from 16, 21 and 26 on, behind the records. A fork's commits
-- are applied one after the other, and so are a swap's, and those that end a relink. An image of 32 KiB grows to 64 KiB.
use Rattle.std.specs.Prelude.{ℕ, ◌+◌, ◌-◌, ◌&&◌, nat_le, nat_lt, Bool, true, false, List, [], ◌∷◌, ◌++◌, map, take, replicate, codes, get_or, Some, None, if◌then◌else◌}
use Rattle.sm_base.specs.declared.names.Name.{Name}
use Rattle.sm_base.specs.declared.names.Name.TheVariants.{Vhd, Old, Clone, Leaf, Relink}
use Rattle.sm_disk.specs.Sectors.{zeros}
use Rattle.common_laws.specs.Lists.{numbers}
use Rattle.sm_record.specs.declared.records.Record.{Record}
use Rattle.sm_record.specs.Records.{record_sector}
use Rattle.vg_meta.specs.Changes.{applied}
use Rattle.vg_meta.specs.Tables.{Row, VolumeTable, name_eq}
use Rattle.vg_meta.specs.declared.changes.Change.{Change}
use Rattle.vg_meta.specs.declared.changes.Change.TheVariants.{Create, Remove, Rename, Mark}
use Rattle.vg_meta.specs.declared.changes.Tag.TheVariants.{Hidden, Fresh}
use Rattle.examples_vhd.specs.SmallImages.{empty, fresh_image, written_image}
use Rattle.vhd_layout.specs.Layouts.{Sectors}
use Rattle.sm_standing.specs.Contents.{Content}
use Rattle.examples_standing.specs.SmallContents.{record_row, base_of}
use Rattle.examples_moments.specs.WorkedImages.{small_top_footer, small_child_footer, grown_child_footer, between_footers, top_image, filled_child, empty_child}

-- ---- UUIDs and records

abbrev pub uuid_of : ℕ → List ℕ
uuid_of k = replicate 15 0 ++ (k ∷ [])

abbrev pub first : List ℕ
first = uuid_of 1

abbrev pub second : List ℕ
second = uuid_of 2

abbrev pub base : List ℕ
base = base_of 3

-- the record of the disk, and that of its snapshot
abbrev pub first_record : Record
first_record = record { uuid = first; label = codes "a"; origin = None; read_only = false }

abbrev pub second_record : Record
second_record = record { uuid = second; label = codes "a"; origin = Some first; read_only = true }

-- ---- the area

-- an image of 160 sectors from a place on
abbrev pub laid : ℕ → Sectors → (ℕ → List ℕ) → ℕ → List ℕ
laid at image rest = λ p. if nat_le at p && nat_lt p (at + 160) then image (p - at) else rest p

-- records in their places, and zeros behind them
abbrev pub record_area : List Record → ℕ → List ℕ
record_area records = λ p. get_or (map record_sector records) p zeros

-- three images behind the records, each in five extents of 32 sectors
abbrev pub area_of : Sectors → Sectors → Sectors → List Record → ℕ → List ℕ
area_of x y z records = laid 512 x (laid 672 y (laid 832 z (record_area records)))

-- an image on five extents from one on
abbrev pub image_row : Bool → Name → ℕ → Row
image_row hidden n at = record { name = n; hidden = hidden; fresh = false; extents = numbers at 5 }

-- these volumes behind the volume of records, at sequence number 4
abbrev pub table_with : List Row → VolumeTable
table_with volumes = record { sequence = 4; volumes = record_row (numbers 0 16) ∷ volumes }

abbrev pub content_with : VolumeTable → (ℕ → List ℕ) → Content
content_with t area = record { extent = 32; block = 8; entries = 64; count = 64; table = t; area = area }

-- ---- commits

-- the table that some changes leave, one after the other
abbrev pub after_all : VolumeTable → List Change → VolumeTable
after_all t [] = t
after_all t (change ∷ changes) = after_all (applied t change) changes

-- ---- one disk, which is forked

abbrev pub one_disk : VolumeTable
one_disk = table_with (image_row false (Vhd first) 16 ∷ [])

-- the disk as it was made, and with two of its sectors written
abbrev pub fresh_disk : Content
fresh_disk = content_with one_disk (area_of fresh_image empty empty (first_record ∷ []))

abbrev pub written_disk : Content
written_disk = content_with one_disk (area_of written_image empty empty (first_record ∷ []))

-- the commits of a fork
abbrev pub fork_changes : List Change
fork_changes =
    Create (Clone first base second) false []
    ∷ Rename (Vhd first) (Vhd base)
    ∷ Mark (Vhd base) Hidden true
    ∷ Create (Vhd first) true (numbers 21 5)
    ∷ Create (Vhd second) true (numbers 26 5)
    ∷ Mark (Vhd first) Fresh false
    ∷ Mark (Vhd second) Fresh false
    ∷ Remove (Clone first base second)
    ∷ []

-- the table after so many of them
abbrev pub fork_after : ℕ → VolumeTable
fork_after k = after_all one_disk (take k fork_changes)

-- the disk's sector 0 was written with byte 17 before the fork; the new images hold nothing
abbrev pub fork_area : List Record → ℕ → List ℕ
fork_area records = area_of (top_image 17) (empty_child (Vhd base)) (empty_child (Vhd base)) records

-- before the fork, and after so many of its commits; the twin's record is written before the sixth
abbrev pub unforked : Content
unforked = content_with one_disk (fork_area (first_record ∷ []))

abbrev pub forking_at : ℕ → Content
forking_at k = content_with (fork_after k) (fork_area (first_record ∷ []))

abbrev pub filled_at : ℕ → Content
filled_at k = content_with (fork_after k) (fork_area (first_record ∷ second_record ∷ []))

-- ---- two disks over a base

-- after the fork the disk's sector 0 was written again, with byte 34
abbrev pub two_disks : Content
two_disks = content_with (fork_after 8) (area_of (top_image 17) (filled_child (Vhd base) 34) (empty_child (Vhd base)) (first_record ∷ second_record ∷ []))

-- ---- a leaf, which is folded into its parent

-- the leaf and its hidden parent, under the entry
abbrev pub leaf_copied : VolumeTable
leaf_copied = table_with (image_row false (Vhd first) 21 ∷ image_row true (Vhd base) 16 ∷ record { name = Leaf first base; hidden = false; fresh = false; extents = [] } ∷ [])

-- the commits of a swap
abbrev pub swap_changes : List Change
swap_changes =
    Rename (Vhd first) (Old first)
    ∷ Rename (Vhd base) (Vhd first)
    ∷ Mark (Vhd first) Hidden false
    ∷ Remove (Old first)
    ∷ Remove (Leaf first base)
    ∷ []

-- the table after so many of them
abbrev pub swap_after : ℕ → VolumeTable
swap_after k = after_all leaf_copied (take k swap_changes)

-- leaf and parent both hold sector 0: the leaf's is of byte 34, and the parent's of this one
abbrev pub leaf_area : ℕ → ℕ → List ℕ
leaf_area byte = area_of (top_image byte) (filled_child (Vhd base) 34) (empty_child (Vhd base)) (first_record ∷ [])

-- before the leaf's sector is copied into the parent
abbrev pub uncopied : Content
uncopied = content_with leaf_copied (leaf_area 17)

abbrev pub swap_area : ℕ → List ℕ
swap_area = leaf_area 34

-- after so many commits of the swap
abbrev pub swapping_at : ℕ → Content
swapping_at k = content_with (swap_after k) swap_area

-- the names that the swap's second commit exchanges: the parent's image gets the leaf's name
unfoldable pub exchanged : Name → Name
exchanged n = if name_eq n (Vhd base) then Vhd first else if name_eq n (Vhd first) then Vhd base else n

-- ---- a relink

-- a disk over a hidden image over a base; the entry links the disk past the hidden image
abbrev pub relink_table : VolumeTable
relink_table = table_with (image_row false (Vhd first) 21
    ∷ image_row true (Vhd second) 26
    ∷ image_row true (Vhd base) 16
    ∷ record { name = Relink second base; hidden = false; fresh = false; extents = [] }
    ∷ [])

-- the base holds sector 0, the two images over it hold nothing
abbrev pub relinking : Content
relinking = content_with relink_table (area_of (top_image 17) (empty_child (Vhd second)) (empty_child (Vhd base)) (first_record ∷ []))

-- once the disk lies over the base the entry is removed, and then the hidden image, which is nobody's parent any more
abbrev pub relink_changes : List Change
relink_changes = Remove (Relink second base) ∷ Remove (Vhd second) ∷ []

-- the table after so many of them
abbrev pub relink_after : ℕ → VolumeTable
relink_after k = after_all relink_table (take k relink_changes)

-- after so many of these commits; the disk's image and the hidden one hold nothing over the base
abbrev pub relinked_at : ℕ → Content
relinked_at k = content_with (relink_after k) (fork_area (first_record ∷ []))

-- the entry was removed while the disk still lies over the hidden image
abbrev pub still_linked : Content
still_linked = content_with (relink_after 1) relinking.area

-- ---- an image that grows

-- a base of 32 KiB
abbrev pub small_base : Sectors
small_base = between_footers small_top_footer (top_image 17)

-- an image of 32 KiB over it, and the same when it has grown to 64 KiB: only its footers differ
abbrev pub small_child : Sectors
small_child = between_footers small_child_footer (filled_child (Vhd base) 34)

abbrev pub grown_child : Sectors
grown_child = between_footers grown_child_footer (filled_child (Vhd base) 34)

-- a disk over a hidden base
abbrev pub disk_and_base : VolumeTable
disk_and_base = table_with (image_row false (Vhd first) 21 ∷ image_row true (Vhd base) 16 ∷ [])

-- the disk's image over a base
abbrev pub disk_over : Sectors → Sectors → Content
disk_over below image = content_with disk_and_base (area_of below image empty (first_record ∷ []))

-- before the disk's image grows, and afterwards
abbrev pub ungrown : Content
ungrown = disk_over small_base small_child

abbrev pub grown : Content
grown = disk_over small_base grown_child

-- over a base of 64 KiB
abbrev pub over_larger : Content
over_larger = disk_over (top_image 17) small_child
