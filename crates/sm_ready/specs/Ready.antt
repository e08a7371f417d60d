-- What holds of the sectors between two steps, where they are told.
use Rattle.std.specs.Prelude.{◌≡◌, ℕ, ◌*◌, ◌/◌, ◌<◌, Bool, true, false, not, ◌&&◌, List, [], length, Option, None, Some, slice_index_or}
use Rattle.sm_base.specs.declared.names.Name.{Name}
use Rattle.sm_base.specs.declared.names.Name.TheVariants.{Cbt}
use Rattle.sm_machine.specs.Operations.{Op, is_dirty}
use Rattle.sm_disk.specs.Held.{Held}
use Rattle.sm_log.specs.Logs.{Log}
use Rattle.vg_meta.specs.Tables.{VolumeTable, Row}
use Rattle.vg_volumes.specs.Sites.{Site, volume_of}
use Rattle.common_laws.specs.Lists.{In}
use Rattle.sm_machine.specs.Shapes.{Shape, ImageRow, find_image, attached_as, is_rw, image_uuid}
use Rattle.sm_record.specs.declared.records.Record.{Record}
use Rattle.sm_standing.specs.Contents.{Content, reading_at}
use Rattle.sm_standing.specs.Images.{Image, image_of}
use Rattle.sm_standing.specs.Logs.{IsLogged}
use Rattle.sm_ready.specs.Known.{Known, shape_in, is_shown}
use Rattle.vhd_chain.specs.declared.rows.TreeRow.{TreeRow}
use Rattle.vhd_chain.specs.Trees.{row_name}
use Rattle.sm_mgt.specs.Places.{Agrees, records_held, place_count, as_reading}
use Rattle.vhd_image.specs.Steady.{IsSteady}
use Rattle.vhd_volumes.specs.Steady.{IsQuiet}
use Rattle.sm_ready.specs.Stores.{content_in, content_now}
use Rattle.sm_machine.specs.Operations as op

-- the own image of a disk that is attached for writing
abbrev pub is_written_as : Shape → Name → Option ImageRow → Bool
is_written_as s n None = false
is_written_as s n (Some i) = not i.hidden && is_rw (attached_as (image_uuid n) s)

unfoldable pub is_written_in : Shape → Name → Bool
is_written_in s n = is_written_as s n (find_image n s.images)

-- p holds alike what n holds in the blocks that are settled, those below the cursor that are not dirty, and is as large
pub record IsHeldBelow (c : Content) (n p : Name) (cursor : ℕ) (dirty : List ℕ) : Type 0 where
  pub child : Image
  pub parent : Image
  pub image : image_of c n ≡ Some child
  pub under : image_of c p ≡ Some parent
  pub size : parent.size ≡ child.size
  pub held : (k : ℕ) (bytes : List ℕ) → k < cursor * c.block → is_dirty (k / c.block) dirty ≡ false → child.own k ≡ Some bytes → parent.own k ≡ Some bytes

abbrev pub IsBelow : Content → Op → Type 0
IsBelow c op.Idle = Unit {0}
IsBelow c (op.Copy v p cursor) = IsHeldBelow c v p cursor []
IsBelow c (op.Relink v p) = IsHeldBelow c v p c.entries []
IsBelow c (op.Leaf l p cursor) = IsHeldBelow c l p cursor []
IsBelow c (op.Live l p cursor dirty) = IsHeldBelow c l p cursor dirty

-- the images: what a stop may leave of each is that image, and of one that is not written to, what a read gives
pub record IsFirm (s : Site) (t : VolumeTable) (area : Held) (m : Known) : Type 0 where
  pub images : (r : TreeRow) → In r m.rows → IsSteady s.geometry (r.extents * s.geometry.extent) (volume_of s t area (row_name r)) r.image
  pub quiet : (r : TreeRow) → In r m.rows → is_written_in (shape_in s t m) (row_name r) ≡ false → IsQuiet (volume_of s t area (row_name r))
  pub below : IsBelow (content_now s t area) m.op

-- the records of one image of the area are those of these places
pub record HoldsPlaces (s : Site) (t : VolumeTable) (image : ℕ → List ℕ) (places : List (Option Record)) : Type 0 where
  pub long : length places ≡ place_count
  pub each : (k : ℕ) → k < place_count → reading_at (content_in s t image) k ≡ as_reading (slice_index_or places k None)

-- what a read gives of images, records and logs is what memory says, and of no record and no log anything is pending
pub record IsReady (s : Site) (t : VolumeTable) (area : Held) (m : Known) : Type 0 where
  pub firm : IsFirm s t area m
  pub records : Agrees (records_held s t area) m.places
  pub recorded : IsQuiet (records_held s t area)
  pub logs : IsLogged (content_now s t area) m.logs
  pub logged : (u : List ℕ) → IsQuiet (volume_of s t area (Cbt u))

-- each record is that of a visible image
abbrev pub HasNoStray : Known → Type 0
HasNoStray m = (r : Record) → In (Some r) m.places → is_shown m.rows r.uuid ≡ true

-- each log is that of a visible image's disk
abbrev pub HasNoStrayLog : Known → Type 0
HasNoStrayLog m = (l : Log) → In l m.logs → is_shown m.rows l.disk ≡ true

-- between two commands no volume is new and no record is stray
pub record IsTidy (t : VolumeTable) (m : Known) : Type 0 where
  pub none_new : (r : Row) → In r t.volumes → r.fresh ≡ false
  pub no_stray : HasNoStray m
