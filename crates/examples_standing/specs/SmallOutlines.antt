-- Small outlines: one of a thin disk, with its table while the disk's image is being enlarged, one of a VHD image beside a raw
-- one, one of a disk that is being forked, and those of an image that is being copied into its parent, and whose children are being
-- linked to it.
use Rattle.std.specs.Prelude.{ℕ, Bool, ◌==◌, false, true, bytes_eq, List, [], ◌∷◌, ◌++◌, map, Option, None, Some, if◌then◌else◌}
use Rattle.sm_base.specs.declared.names.Name.{Name}
use Rattle.sm_base.specs.declared.names.Name.TheVariants.{Mgt, Vhd, Raw, Old, Cbt, Clone, Inflate, Coalesce, Relink, Leaf}
use Rattle.vg_meta.specs.Tables.{Row, VolumeTable}
use Rattle.sm_record.specs.declared.records.Reading.{Reading}
use Rattle.sm_record.specs.declared.records.Reading.TheVariants.{Free, Taken}
use Rattle.sm_standing.specs.Outlines.{Outline, Link}
use Rattle.examples_standing.specs.SmallContents.{one, two, three, record_row, sized_row}

-- the volume of records, and the image of a disk of four blocks of 8 sectors, which has one extent of 32 sectors
abbrev pub thin_table : VolumeTable
thin_table = record { sequence = 4; volumes = record_row (0 ∷ 1 ∷ 2 ∷ 3 ∷ 4 ∷ 5 ∷ 6 ∷ 7 ∷ 8 ∷ 9 ∷ 10 ∷ 11 ∷ 12 ∷ 13 ∷ 14 ∷ 15 ∷ []) ∷ sized_row false (Vhd one) (16 ∷ []) ∷ [] }

abbrev pub thin_links : Name → Option Link
thin_links (Vhd u) = Some (record { size = 32; parent = None })
thin_links Mgt = None
thin_links (Raw u) = None
thin_links (Old u) = None
thin_links (Cbt u) = None
thin_links (Clone disk base twin) = None
thin_links (Inflate image extents) = None
thin_links (Coalesce child into) = None
thin_links (Relink child into) = None
thin_links (Leaf leaf into) = None

abbrev pub one_record : ℕ → Reading
one_record k = if k == 0 then Taken (record { uuid = one; label = []; origin = None; read_only = false }) else Free

abbrev pub thin_outline : Outline
thin_outline = record { extent = 32; block = 8; entries = 64; table = thin_table; links = thin_links; readings = one_record }

-- the entry says that the image had one extent; it has three by now
abbrev pub enlarging_table : VolumeTable
enlarging_table = record { sequence = 6; volumes = sized_row false (Inflate one 1) [] ∷ record_row (0 ∷ 1 ∷ 2 ∷ 3 ∷ 4 ∷ 5 ∷ 6 ∷ 7 ∷ 8 ∷ 9 ∷ 10 ∷ 11 ∷ 12 ∷ 13 ∷ 14 ∷ 15 ∷ []) ∷ sized_row false (Vhd one) (16 ∷ 17 ∷ 18 ∷ []) ∷ [] }

-- the same volumes with these entries
abbrev pub entries_table : List Name → VolumeTable
entries_table entries = record { sequence = 6; volumes = map (λ n. sized_row false n []) entries ++ record_row (0 ∷ 1 ∷ 2 ∷ 3 ∷ 4 ∷ 5 ∷ 6 ∷ 7 ∷ 8 ∷ 9 ∷ 10 ∷ 11 ∷ 12 ∷ 13 ∷ 14 ∷ 15 ∷ []) ∷ sized_row false (Vhd one) (16 ∷ 17 ∷ 18 ∷ []) ∷ [] }

-- an old leaf of the image, and no entry
abbrev pub old_table : VolumeTable
old_table = record { sequence = 6; volumes = record_row (0 ∷ 1 ∷ 2 ∷ 3 ∷ 4 ∷ 5 ∷ 6 ∷ 7 ∷ 8 ∷ 9 ∷ 10 ∷ 11 ∷ 12 ∷ 13 ∷ 14 ∷ 15 ∷ []) ∷ sized_row false (Old one) (17 ∷ []) ∷ sized_row false (Vhd one) (16 ∷ []) ∷ [] }

-- a volume that is not new, and may be hidden
abbrev pub image_row : Bool → Name → List ℕ → Row
image_row hidden n extents = record { name = n; hidden = hidden; fresh = false; extents = extents }

-- a raw image two beside the VHD image one; each may be hidden
abbrev pub mixed_table : Bool → Bool → VolumeTable
mixed_table raw_hidden vhd_hidden = record { sequence = 6; volumes = image_row raw_hidden (Raw two) (17 ∷ []) ∷ record_row (0 ∷ 1 ∷ 2 ∷ 3 ∷ 4 ∷ 5 ∷ 6 ∷ 7 ∷ 8 ∷ 9 ∷ 10 ∷ 11 ∷ 12 ∷ 13 ∷ 14 ∷ 15 ∷ []) ∷ image_row vhd_hidden (Vhd one) (16 ∷ []) ∷ [] }

-- the VHD image may have a parent
abbrev pub mixed_links : Option Name → Name → Option Link
mixed_links parent (Vhd u) = Some (record { size = 32; parent = parent })
mixed_links parent (Raw u) = Some (record { size = 32; parent = None })
mixed_links parent Mgt = None
mixed_links parent (Old u) = None
mixed_links parent (Cbt u) = None
mixed_links parent (Clone disk base twin) = None
mixed_links parent (Inflate image extents) = None
mixed_links parent (Coalesce child into) = None
mixed_links parent (Relink child into) = None
mixed_links parent (Leaf leaf into) = None

abbrev pub two_records : ℕ → Reading
two_records k = if k == 1 then Taken (record { uuid = two; label = []; origin = None; read_only = false }) else one_record k

abbrev pub mixed_outline : Bool → Bool → Option Name → Outline
mixed_outline raw_hidden vhd_hidden parent = record { extent = 32; block = 8; entries = 64; table = mixed_table raw_hidden vhd_hidden; links = mixed_links parent; readings = two_records }

-- the disk one is being forked: its image is the hidden base two, its own new image is filled, and that of the twin three is new
abbrev pub forking_table : VolumeTable
forking_table = record {
  sequence = 10;
  volumes = record_row (0 ∷ 1 ∷ 2 ∷ 3 ∷ 4 ∷ 5 ∷ 6 ∷ 7 ∷ 8 ∷ 9 ∷ 10 ∷ 11 ∷ 12 ∷ 13 ∷ 14 ∷ 15 ∷ [])
      ∷ image_row false (Vhd one) (17 ∷ []) ∷ image_row true (Vhd two) (16 ∷ []) ∷ sized_row true (Vhd three) (18 ∷ []) ∷ image_row false (Clone one two three) [] ∷ [];
}

-- the disk's new image may have another parent than the base
abbrev pub forking_links : Option Name → Name → Option Link
forking_links parent (Vhd u) = if bytes_eq u two then Some (record { size = 32; parent = None }) else if bytes_eq u one then Some (record { size = 32; parent = parent }) else None
forking_links parent Mgt = None
forking_links parent (Raw u) = None
forking_links parent (Old u) = None
forking_links parent (Cbt u) = None
forking_links parent (Clone disk base twin) = None
forking_links parent (Inflate image extents) = None
forking_links parent (Coalesce child into) = None
forking_links parent (Relink child into) = None
forking_links parent (Leaf leaf into) = None

abbrev pub forking_outline : Option Name → Outline
forking_outline parent = record { extent = 32; block = 8; entries = 64; table = forking_table; links = forking_links parent; readings = one_record }

-- the disk one lies over the hidden image two, and that over the hidden image three, under the entry of a fold
abbrev pub linking_images : List Row
linking_images = record_row (0 ∷ 1 ∷ 2 ∷ 3 ∷ 4 ∷ 5 ∷ 6 ∷ 7 ∷ 8 ∷ 9 ∷ 10 ∷ 11 ∷ 12 ∷ 13 ∷ 14 ∷ 15 ∷ [])
    ∷ image_row false (Vhd one) (16 ∷ []) ∷ image_row true (Vhd two) (17 ∷ []) ∷ image_row true (Vhd three) (18 ∷ []) ∷ []

abbrev pub folding_table : Name → VolumeTable
folding_table entry = record { sequence = 8; volumes = image_row false entry [] ∷ linking_images }

-- the disk may have another parent, and the image three may be smaller
abbrev pub folding_links : Name → ℕ → Name → Option Link
folding_links parent size (Vhd u) = if bytes_eq u one then Some (record { size = 32; parent = Some parent }) else if bytes_eq u two then Some (record { size = 32; parent = Some (Vhd three) }) else Some (record { size = size; parent = None })
folding_links parent size Mgt = None
folding_links parent size (Raw u) = None
folding_links parent size (Old u) = None
folding_links parent size (Cbt u) = None
folding_links parent size (Clone disk base twin) = None
folding_links parent size (Inflate image extents) = None
folding_links parent size (Coalesce child into) = None
folding_links parent size (Relink child into) = None
folding_links parent size (Leaf leaf into) = None

abbrev pub folding_outline : Name → Name → ℕ → Outline
folding_outline entry parent size = record { extent = 32; block = 8; entries = 64; table = folding_table entry; links = folding_links parent size; readings = one_record }

-- the children of the image two are being linked to the image three
abbrev pub linking_table : VolumeTable
linking_table = folding_table (Relink two three)

abbrev pub linking_outline : ℕ → Outline
linking_outline size = folding_outline (Relink two three) (Vhd two) size

-- the image two is being copied into the image three
abbrev pub copying_outline : Name → Outline
copying_outline parent = folding_outline (Coalesce two three) parent 32
