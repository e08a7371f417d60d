-- What follows from the definitions of a VHD file and of an export: an exported file holds the disk.
use Rattle.std.specs.Prelude.{◌≡◌, ℕ, ◌+◌, ◌*◌, ◌%◌, ◌^◌, ◌<◌, ◌≤◌, false, IsTrue, List, length, All, None}
use Rattle.common_laws.specs.Lists.{In}
use Rattle.sm_disk.specs.Sectors.{IsSector, zeros}
use Rattle.vg_layout.specs.Opening.{GroupFound, StandsOn}
use Rattle.vhd_fields.specs.Headers.{is_block}
use Rattle.sm_machine.specs.Disks.{Disk}
use Rattle.sm_standing.specs.Checks.{first_fault}
use Rattle.sm_standing.specs.Devices.{content_of}
use Rattle.sm_standing.specs.Standing.{disks}
use Rattle.vhd_stream.specs.Files.{sector_at}
use Rattle.vhd_stream.specs.Exports.{DiskBlocks, ExportOf}

-- a disk by its blocks can be exported: it has so many blocks, of 4 KiB to 2 MiB, whole sectors, and zeros in each block that is not there
pub record AreExportable (x : DiskBlocks) (blocks : ℕ) : Type 0 where
  pub sized : length x.sectors ≡ blocks * x.block
  pub least : 1 ≤ blocks
  pub most : blocks ≤ 1044480
  pub block_least : 8 ≤ x.block
  pub block_most : x.block ≤ 4096
  pub eighths : x.block % 8 ≡ 0
  pub block_fits : IsTrue (is_block (512 * x.block))
  pub whole : All (λ s. length s ≡ 512) x.sectors
  pub empty : (b i : ℕ) → b < blocks → x.there b ≡ false → i < x.block → sector_at x.sectors (b * x.block + i) ≡ zeros

-- a device of so many sectors of 512 bytes on which a volume group stands, and all checks of an opening pass
pub record IsSoundImage (size : ℕ) (image : ℕ → List ℕ) (g : GroupFound) : Type 0 where
  pub sectors : (p : ℕ) → p < size → IsSector (image p)
  pub stands : StandsOn size image g
  pub sound : first_fault (content_of g image) ≡ None

-- bytes that a disk of a sound image is exported as, at some moment that four bytes can tell
pub record IsExported (size : ℕ) (image : ℕ → List ℕ) (d : Disk) (bytes : List ℕ) : Type 0 where
  pub group : GroupFound
  pub sound : IsSoundImage size image group
  pub disk : In d (disks (content_of group image))
  pub now : ℕ
  pub early : now < 2 ^ 32
  pub bytes_are : ExportOf (content_of group image) d.uuid now bytes
