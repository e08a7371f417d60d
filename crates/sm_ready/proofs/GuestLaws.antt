-- A guest's write into the VHD image of a disk, at every stop.
use Rattle.std.proofs.Common.{◌≡◌, ◌≢◌, ℕ, ◌*◌, ◌<◌, Bool, true, false, cond, List, length, Some, None, sym, ◌∙◌, subst, arith}
use Rattle.std.proofs.lemmas.Bool.{cond-true}
use Rattle.sm_base.specs.declared.names.Name.{Name}
use Rattle.sm_base.specs.declared.names.Name.TheVariants.{Vhd, Raw}
use Rattle.sm_disk.specs.Held.{Held, Allows}
use Rattle.vg_meta.specs.Tables.{VolumeTable, Row, rows, extents_of}
use Rattle.vg_volumes.specs.Sites.{Site, size_of, volume_of}
use Rattle.vhd_layout.specs.Contents.{content_at}
use Rattle.vhd_layout.specs.Layouts.{Sectors}
use Rattle.vhd_layout.specs.Readings.{is_valid}
use Rattle.vhd_layout.proofs.ReadingLaws.{valid-decided}
use Rattle.vg_volumes.specs.Volumes.{KeepsElsewhere}
use Rattle.vhd_volumes.specs.Truth.{layout_in}
use Rattle.vhd_volumes.specs.Writes.{IsGuarded, IsFollowing}
use Rattle.sm_machine.specs.Disks.{Disk}
use Rattle.sm_standing.specs.Contents.{sectors_of}
use Rattle.sm_standing.specs.Entries.{is_visible}
use Rattle.sm_standing.specs.Images.{image_of}
use Rattle.sm_standing.specs.Keeping.{IsKept}
use Rattle.sm_standing.specs.Standing.{standing_volume, disks}
use Rattle.sm_run.specs.Between.{IsBetween}
use Rattle.sm_ready.specs.Known.{Known}
use Rattle.sm_ready.specs.Orderly.{IsOrderly}
use Rattle.sm_ready.specs.Ready.{IsReady}
use Rattle.sm_ready.specs.Stores.{Leaving, MayShow, content_in, content_now}
use Rattle.sm_ready.specs.Written.{HasBytes}
use Rattle.sm_standing.proofs.ImageSectors.{image_same}
use Rattle.sm_ready.proofs.KeptLaws.{holding_at}
use Rattle.sm_ready.proofs.LeftLaws.{left_in, IsLeft, extent_some, vhd_of, vhd_allowed, IsVhdIn, size_there}
use Rattle.sm_ready.proofs.Orders.{geometry_of, whole}
use Rattle.sm_ready.proofs.ShapeLaws.{plainly_stands}
use Rattle.sm_ready.proofs.SpliceLaws.{with_volume, splice_here, splice_other, splice_left}
use Rattle.sm_ready.proofs.Steadies.{steady_valid}
use Rattle.sm_ready.proofs.StopLaws.{IsStopped, stop_between, stop_kept}

-- what is known as a write goes on
pub record Writes (s : Site) (t : VolumeTable) (m : Known) (old new : Held) (u : List ℕ) (r : Row) (W : ℕ → List ℕ → Type 0) : Type 0 where
  pub orderly : IsOrderly s t m
  pub ready : IsReady s t old m
  pub there : rows t (Vhd u) ≡ Some r
  pub at : IsVhdIn s t old m u r
  pub shown : at.at.row.hidden ≡ false
  pub keeps : KeepsElsewhere s.geometry.extent (extents_of (rows t (Vhd u))) old new
  pub guarded : IsGuarded (layout_in s.geometry at.head.footer (length r.extents * s.geometry.extent)) W (volume_of s t old (Vhd u)) (volume_of s t new (Vhd u))

module _ (s : Site) (t : VolumeTable) (m : Known) (old new : Held) (u : List ℕ) (r : Row) (W : ℕ → List ℕ → Type 0) (h : Writes s t m old new u r W) (image : Sectors) (left : IsLeft s new image) where
  count : ℕ
  count = length r.extents * s.geometry.extent

  now : Sectors
  now = sectors_of (content_in s t image) (Vhd u)

  pub allowed_now : Allows (length r.extents * s.geometry.extent) (volume_of s t new (Vhd u)) (sectors_of (content_in s t image) (Vhd u))
  allowed_now = vhd_allowed s t new m image u r h.orderly (left_in s t m new image h.orderly left) h.there h.at.at.filled

  pub following : IsFollowing (layout_in s.geometry h.at.head.footer (length r.extents * s.geometry.extent)) W (volume_of s t old (Vhd u)) (sectors_of (content_in s t image) (Vhd u))
  following = h.guarded.follows (sectors_of (content_in s t image) (Vhd u)) allowed_now

  -- the earlier choice
  abbrev pub earlier : Sectors
  earlier = with_volume s.geometry.extent (extents_of (rows t (Vhd u))) following.before image

  pos : 0 < s.geometry.extent
  pos = extent_some s t m h.orderly

  pub earlier_left : IsLeft s old earlier
  earlier_left = splice_left s t (Vhd u) old new following.before image h.keeps
      (subst (λ k. Allows k (volume_of s t old (Vhd u)) following.before) (sym (size_there s t (Vhd u) r h.there)) following.allowed) left

  others : (n : Name) → n ≢ Vhd u → (p : ℕ) → p < size_of s t n → sectors_of (content_in s t image) n p ≡ sectors_of (content_in s t earlier) n p
  others n other p below = sym (splice_other s t (Vhd u) n following.before image p h.orderly.table pos other below)

  pub valid_now : image_of (content_in s t image) (Vhd u) ≡ Some (content_at s.geometry.block s.geometry.entries (length r.extents * s.geometry.extent) (sectors_of (content_in s t image) (Vhd u)))
  valid_now =
      vhd_of (content_in s t image) u r h.there h.at.at.filled (whole s t m (Vhd u) h.orderly)
      ∙ cond-true (is_valid s.geometry.block s.geometry.entries (length r.extents * s.geometry.extent) (sectors_of (content_in s t image) (Vhd u))) (Some _) None
      ((valid-decided s.geometry.extent s.geometry.block s.geometry.entries (length r.extents * s.geometry.extent) (sectors_of (content_in s t image) (Vhd u)) (geometry_of s t m h.orderly)).1
      (h.guarded.valid (sectors_of (content_in s t image) (Vhd u)) allowed_now))

  pub valid_before : image_of (content_in s t earlier) (Vhd u) ≡ Some (content_at s.geometry.block s.geometry.entries (length r.extents * s.geometry.extent) following.before)
  valid_before =
      vhd_of (content_in s t earlier) u r h.there h.at.at.filled (whole s t m (Vhd u) h.orderly)
      ∙ image_same s.geometry.extent s.geometry.block s.geometry.entries (length r.extents * s.geometry.extent) (sectors_of (content_in s t earlier) (Vhd u)) following.before (geometry_of s t m h.orderly)
      (λ p below. splice_here s t (Vhd u) following.before image p h.orderly.table pos (omega (arith, below, size_there s t (Vhd u) r h.there)))
      ∙ steady_valid s.geometry (length r.extents * s.geometry.extent) (volume_of s t old (Vhd u)) h.at.head h.at.slots following.before (geometry_of s t m h.orderly) h.at.steady following.allowed

  -- a stop leaves this, beside one that it might have left before
  pub vhd_stopped : IsStopped s t m old (Vhd u) W image
  vhd_stopped = record {
    row = h.at.at.row;
    there = h.at.at.there;
    shown = h.shown;
    named = h.at.at.named;
    earlier = earlier;
    might = earlier_left;
    others = others;
    was = content_at s.geometry.block s.geometry.entries (length r.extents * s.geometry.extent) following.before;
    now = content_at s.geometry.block s.geometry.entries (length r.extents * s.geometry.extent) (sectors_of (content_in s t image) (Vhd u));
    before = valid_before;
    after = valid_now;
    size = following.follows.size;
    parent = following.follows.parent;
    own = following.follows.own;
    holding = λ v same. holding_at s.geometry.block s.geometry.entries (length r.extents * s.geometry.extent) (sectors_of (content_in s t image) (Vhd u)) (h.guarded.valid (sectors_of (content_in s t image) (Vhd u)) allowed_now)
        (following.follows.holds (h.at.steady.holding following.before following.allowed));
  }

  owner : (v : List ℕ) → standing_volume t v ≡ Some (Vhd u) → v ≡ u
  owner v is = by (is_visible t (Vhd v)) (is_visible t (Raw v)) (sym (plainly_stands s t m v h.orderly) ∙ is)
    where
      by : (a b : Bool) → cond a (Some (Vhd v)) (cond b (Some (Raw v)) None) ≡ Some (Vhd u) → v ≡ u
      by true b e = (let x = e in cc)
      by false true e = absurd (let x = e in cc)
      by false false e = absurd (let x = e in cc)

  pub law_written : (ds : List Disk) (before : Leaving) → HasBytes (disks (content_now s t old)) ds u W → ((other : Sectors) → IsLeft s old other → before t other)
      → IsBetween (MayShow s before) (disks (content_now s t old)) ds (disks (content_in s t image))
  law_written ds before has might = stop_between s t m old (Vhd u) u W image h.orderly h.ready vhd_stopped owner ds before has might

  -- and it is kept
  pub kept_written : IsKept (content_in s t image)
  kept_written = stop_kept s t m old (Vhd u) u W image h.orderly h.ready vhd_stopped owner
