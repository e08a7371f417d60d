-- A table while a VHD image is being enlarged (this project's format): it has the entry that says so, and the image may
-- have more extents by then.
use Rattle.std.specs.Prelude.{◌≡◌, ◌≢◌, ℕ, ◌<◌, ◌≤◌, false, List, [], ◌∷◌, length, Some, None}
use Rattle.std.specs.List.{AllZip}
use Rattle.sm_base.specs.declared.names.Name.{Name}
use Rattle.sm_base.specs.declared.names.Name.TheVariants.{Mgt, Vhd, Inflate}
use Rattle.vg_meta.specs.Tables.{Row, VolumeTable, rows}
use Rattle.sm_base.specs.Numbers.{IsGeometry}
use Rattle.sm_standing.specs.Contents.{Content, record_count, sectors_of, size_of}
use Rattle.sm_standing.specs.Entries.{making}
use Rattle.sm_standing.specs.Outlines.{Outline, outline}

-- the same volume, which may have more extents where it is that of the image
pub record IsAtLeast (u : List ℕ) (q r : Row) : Type 0 where
  pub name : r.name ≡ q.name
  pub hidden : r.hidden ≡ q.hidden
  pub fresh : r.fresh ≡ q.fresh
  pub more : length q.extents ≤ length r.extents
  pub same : q.name ≢ Vhd u → r.extents ≡ q.extents

-- the same volumes, and among them the entry
pub data HasEntry (entry : Name) (u : List ℕ) : List Row → List Row → Type 0 where
  here : (r : Row) (qs rs : List Row) → r.name ≡ entry → AllZip (IsAtLeast u) qs rs → HasEntry entry u qs (r ∷ rs)
  next : (q r : Row) (qs rs : List Row) → IsAtLeast u q r → HasEntry entry u qs rs → HasEntry entry u (q ∷ qs) (r ∷ rs)

-- t is the table of an outline, while the image of a UUID is being enlarged that had so many extents; no image of another
-- group of entries is at work
pub record IsEnlarging (o : Outline) (t : VolumeTable) (u : List ℕ) (extents : ℕ) : Type 0 where
  pub later : o.table.sequence ≤ t.sequence
  pub volumes : HasEntry (Inflate u extents) u o.table.volumes t.volumes
  pub own : Row
  pub there : rows o.table (Vhd u) ≡ Some own
  pub filled : own.fresh ≡ false
  pub had : extents ≤ length own.extents
  pub none_making : making o.table ≡ []
  pub no_image : o.links (Inflate u extents) ≡ None

-- b is a while this image is being enlarged that had so many extents: of each volume the sectors that it had are the same
pub record IsEnlargingOn (a b : Content) (u : List ℕ) (extents : ℕ) : Type 0 where
  pub extent : b.extent ≡ a.extent
  pub block : b.block ≡ a.block
  pub entries : b.entries ≡ a.entries
  pub geometry : IsGeometry a.extent a.block a.entries
  pub table : IsEnlarging (outline a) b.table u extents
  pub all : extents ≡ length table.own.extents
  pub sectors : (n : Name) (p : ℕ) → p < size_of a n → sectors_of b n p ≡ sectors_of a n p
  pub records : record_count ≤ size_of a Mgt
