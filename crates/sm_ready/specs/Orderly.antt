-- What holds of the table and of memory between two steps, told or not.
use Rattle.std.specs.Prelude.{◌≡◌, ℕ, ◌*◌, ◌≤◌, max, true, false, List, length}
use Rattle.sm_base.specs.Limits.{extent_limit}
use Rattle.sm_base.specs.declared.names.Name.{Name}
use Rattle.sm_base.specs.declared.names.Name.TheVariants.{Mgt, Cbt}
use Rattle.sm_log.specs.Logs.{Log, log_of, log_sectors}
use Rattle.sm_logs.specs.Held.{IsRising, log_limit}
use Rattle.sm_machine.specs.Operations.{Op}
use Rattle.vg_layout.specs.Places.{record_extents}
use Rattle.vg_meta.specs.Tables.{VolumeTable, Row, IsTable, rows, extents_of}
use Rattle.sm_base.specs.Kinds.{is_image, is_entry}
use Rattle.vg_volumes.specs.Sites.{Site}
use Rattle.common_laws.specs.Lists.{In}
use Rattle.sm_standing.specs.Checks.{images as table_images, is_misnamed}
use Rattle.sm_machine.specs.Shapes.{image_limit, Shape, ImageRow, is_vhd, top, refs, thin_in}
use Rattle.sm_machine.specs.Collector.{count_either}
use Rattle.sm_machine.specs.WellFormed.{IsWellFormed, is_image_name}
use Rattle.sm_standing.specs.Entries.{names_in}
use Rattle.vhd_image.specs.Bodies.{StandsIn}
use Rattle.sm_mgt.specs.Places.{place_count}
use Rattle.sm_refs.specs.Attached.{count_of}
use Rattle.sm_ready.specs.Known.{Known, shape_in, entry_of, row_face, tree_face, log_face}
use Rattle.vhd_chain.specs.declared.rows.TreeRow.{TreeRow}
use Rattle.vhd_chain.specs.Trees.{tree_row}
use Rattle.sm_machine.specs.Operations as op

-- a parent of a copy has room for the blocks that either image has
abbrev pub IsRoomyFor : Shape → Name → Name → Type 0
IsRoomyFor s v p = (i q : ImageRow) → In i s.images → In q s.images → i.name ≡ v → q.name ≡ p → is_vhd p ≡ true
    → thin_in s (max (top q.slots) (count_either q.slots i.slots)) ≤ q.extents

abbrev pub IsRoomyIn : Shape → Op → Type 0
IsRoomyIn s op.Idle = Unit {0}
IsRoomyIn s (op.Copy v p cursor) = IsRoomyFor s v p
IsRoomyIn s (op.Relink v p) = Unit {0}
IsRoomyIn s (op.Leaf l p cursor) = IsRoomyFor s l p
IsRoomyIn s (op.Live l p cursor dirty) = IsRoomyFor s l p

abbrev pub IsRoomy : Shape → Type 0
IsRoomy s = IsRoomyIn s s.op

-- a log's volume has room for its head and its bits
abbrev pub HasLogRoom : ℕ → Log → Type 0
HasLogRoom extent l = log_sectors (length l.bits) ≤ l.extents * extent

-- the table has its form, memory has an image for each of its images and no other, that image's size fits its extents, and a log
-- for each of its logs and no other; the shape is well formed, and each image is counted as often as something uses it
pub record IsOrderly (s : Site) (t : VolumeTable) (m : Known) : Type 0 where
  pub table : IsTable s.count t
  pub few_extents : s.count ≤ extent_limit
  pub record_volume : length (extents_of (rows t Mgt)) ≡ record_extents s.geometry.extent
  -- new volumes may stand beside the images
  pub few : length (table_images t) ≤ image_limit
  pub new_named : (r : Row) → In r t.volumes → r.fresh ≡ true → (is_misnamed t r ≡ false) × (is_image_name r.name ≡ true)
  pub images : (n : Name) → is_image n ≡ true → row_face (rows t n) ≡ tree_face (tree_row m.rows n)
  pub logs : (u : List ℕ) → row_face (rows t (Cbt u)) ≡ log_face (log_of u m.logs)
  pub few_logs : length m.logs ≤ log_limit
  pub logs_in_order : IsRising m.logs
  pub log_room : (l : Log) → In l m.logs → HasLogRoom s.geometry.extent l
  pub places : length m.places ≡ place_count
  pub entries : names_in t is_entry ≡ entry_of m.op
  pub stands : (r : TreeRow) → In r m.rows → StandsIn s.geometry (r.extents * s.geometry.extent) r.image
  pub well_formed : ∥ IsWellFormed (shape_in s t m) ∥₁
  pub roomy : IsRoomy (shape_in s t m)
  pub counts : (n : Name) → count_of m.attached n ≡ refs n (shape_in s t m)
