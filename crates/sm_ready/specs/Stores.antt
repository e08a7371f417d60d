-- What stands in a store of volumes: the content of its table and of its area, and what a stop may leave of it (this
-- project's format).
use Rattle.std.specs.Prelude.{◌≡◌, ◌⊎◌, ℕ, Bool, false, List}
use Rattle.sm_disk.specs.Held.{Held, reads}
use Rattle.vg_meta.specs.Roomy.{table_alone}
use Rattle.vg_meta.specs.Tables.{VolumeTable}
use Rattle.vg_volumes.specs.Commits.{IsBefore}
use Rattle.vg_volumes.specs.Sites.{Site, area_size}
use Rattle.vg_volumes.specs.declared.stores.Store.{Ghosts}
use Rattle.sm_machine.specs.Disks.{Disk}
use Rattle.sm_standing.specs.Contents.{Content}
use Rattle.sm_standing.specs.Standing.{disks}

-- the content of a table and of an image of the area
abbrev pub content_in : Site → VolumeTable → (ℕ → List ℕ) → Content
content_in s t image = record {
  extent = s.geometry.extent;
  block = s.geometry.block;
  entries = s.geometry.entries;
  count = s.count;
  table = t;
  area = image;
}

-- the content that a read gives now
abbrev pub content_now : Site → VolumeTable → Held → Content
content_now s t area = content_in s t (reads area)

-- the content that a read of a store gives now
abbrev pub store_content : {S : Type 0} → Ghosts S → S → Content
store_content g s = content_now (g.site s) (table_alone (g.table s)) (g.area s)

-- what a stop may leave: a table, and the sectors of the area
abbrev pub Leaving : Type 1
Leaving = VolumeTable → (ℕ → List ℕ) → Type 0

-- what the store says that it leaves, or, where its content is told, while no commit has failed any choice of its sectors
abbrev pub Left : Type 0 → Site → Leaving → Bool → VolumeTable → Held → Leaving
Left told s leaves failed t area u image = leaves u image ⊎ (told × (failed ≡ false) × IsBefore (area_size s) t area u image)

-- what a stop of a store may leave
abbrev pub StoreLeaves : {S : Type 0} → Ghosts S → S → Leaving
StoreLeaves g s = Left g.told (g.site s) (g.leaves s) (g.failed s) (table_alone (g.table s)) (g.area s)

-- a stop of a store that may leave these tables and sectors may show these disks
pub record MayShow (site : Site) (leaves : Leaving) (ds : List Disk) : Type 0 where
  pub table : VolumeTable
  pub image : ℕ → List ℕ
  pub left : leaves table image
  pub shown : ds ≡ disks (content_in site table image)
