-- What the images of the worked contents say, and the disks that they show.
use Rattle.std.specs.Prelude.{ℕ, List, ◌∷◌, replicate}
use Rattle.vhd_layout.specs.Contents.{content_at}
use Rattle.sm_base.specs.declared.names.Name.TheVariants.{Vhd}
use Rattle.sm_disk.specs.Sectors.{zeros}
use Rattle.sm_machine.specs.Disks.{Disk}
use Rattle.sm_record.specs.declared.records.Record.{Record}
use Rattle.sm_standing.specs.Images.{Image}
use Rattle.examples_moments.specs.Worked.{base, small_base, small_child, grown_child}
use Rattle.examples_moments.specs.WorkedImages.{top_image, filled_child, empty_child, sector_of}

-- an image without a parent whose sector 0 is filled with a byte
abbrev pub top : ℕ → Image
top byte = content_at 8 64 160 (top_image byte)

-- one over the base whose sector 0 is filled with a byte
abbrev pub filled : ℕ → Image
filled byte = content_at 8 64 160 (filled_child (Vhd base) byte)

-- one over the base that holds nothing
abbrev pub child : Image
child = content_at 8 64 160 (empty_child (Vhd base))

-- one over an image of another UUID that holds nothing
abbrev pub empty_over : List ℕ → Image
empty_over parent = content_at 8 64 160 (empty_child (Vhd parent))

-- the base of 32 KiB; and the image over it, of 32 KiB and when it has grown
abbrev pub small_top : Image
small_top = content_at 8 64 160 small_base

abbrev pub small : Image
small = content_at 8 64 160 small_child

abbrev pub large : Image
large = content_at 8 64 160 grown_child

-- the sectors of a disk of 64 KiB whose sector 0 is filled with a byte
abbrev pub written : ℕ → List (List ℕ)
written byte = sector_of byte ∷ replicate 127 zeros

-- a disk with the fields of its record
abbrev pub disk_of : Record → List (List ℕ) → Disk
disk_of r sectors = record { uuid = r.uuid; label = r.label; origin = r.origin; read_only = r.read_only; sectors = sectors }
