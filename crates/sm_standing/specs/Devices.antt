-- What stands on a device of so many sectors (this project's format): the group that its label, header and text tell,
-- the content of its extents, the disks that it shows, and that it is kept.
use Rattle.std.specs.Prelude.{◌≡◌, ℕ, ◌+◌, List}
use Rattle.sm_machine.specs.Disks.{Disk}
use Rattle.vg_layout.specs.Places.{area_place}
use Rattle.vg_layout.specs.Opening.{GroupFound, StandsOn}
use Rattle.sm_standing.specs.Contents.{Content}
use Rattle.sm_standing.specs.Standing.{disks}
use Rattle.sm_standing.specs.LogChecks.{IsKeptWithLogs}

-- what stands on the extents of a group
abbrev pub content_of : GroupFound → (ℕ → List ℕ) → Content
content_of g image = record {
  extent = g.plate.extent;
  block = g.plate.block;
  entries = g.plate.entries;
  count = g.plate.count;
  table = g.table;
  area = λ p. image (area_place g.plate.layout + p);
}

-- a repository stands on the device, it is kept, and the check of its logs passes
pub record IsKeptOn (sectors : ℕ) (image : ℕ → List ℕ) : Type 0 where
  pub group : GroupFound
  pub stands : StandsOn sectors image group
  pub kept : IsKeptWithLogs (content_of group image)

-- a repository stands on the device, and these are its disks
pub record Shows (sectors : ℕ) (image : ℕ → List ℕ) (ds : List Disk) : Type 0 where
  pub group : GroupFound
  pub stands : StandsOn sectors image group
  pub shown : ds ≡ disks (content_of group image)
