-- Where a guest's write puts anything: in one volume, and there nowhere but where it has to.
use Rattle.std.specs.Prelude.{◌≡◌, ℕ, List, Some, is_some, if◌then◌else◌}
use Rattle.sm_base.specs.declared.names.Name.{Name}
use Rattle.sm_base.specs.declared.names.Name.TheVariants.{Raw, Vhd}
use Rattle.vg_volumes.specs.Stored.{WorksOn, sectors_in, stored}
use Rattle.vg_volumes.specs.declared.stores.Store.{Ghosts}
use Rattle.vhd_volumes.specs.Steps.{Does}
use Rattle.vhd_chain.specs.Trees.{tree_row}
use Rattle.vhd_chain.specs.declared.rows.TreeRow.{TreeRow}
use Rattle.vhd_image.specs.Written.{BodyKeepsToPlaces}
use Rattle.sm_ready.specs.declared.memory.Memory.{Memory}

-- the name of a disk's own image among those in memory: that of a VHD image, where there is one
abbrev pub own_name : List TreeRow → List ℕ → Name
own_name rows u = if is_some (tree_row rows (Vhd u)) then Vhd u else Raw u

-- A write of these bytes to the disk, from this sector on, worked on the volume of its own image alone, and put there nothing but
-- the bytes, and in a VHD image the bitmaps of their blocks, with no new bits but theirs, and the sectors of the table with these
-- blocks' entries.
pub record WritesOnly {S : Type 0} (g : Ghosts S) (m : Memory) (u : List ℕ) (at : ℕ) (bytes : List ℕ) (old new : S) : Type 0 where
  pub works : WorksOn g (own_name m.tree.rows u) old new
  pub places : (r : TreeRow) → tree_row m.tree.rows (own_name m.tree.rows u) ≡ Some r
      → Does g (own_name m.tree.rows u) (BodyKeepsToPlaces (g.site old).geometry (sectors_in (stored g old) (own_name m.tree.rows u)) r.image at bytes) old new
