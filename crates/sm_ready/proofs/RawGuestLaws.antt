-- A guest's write into the raw image of a disk, at every stop.
use Rattle.std.proofs.Common.{◌≡◌, ◌⊎◌, inl, inr, ⊎_elim, ℕ, ◌<◌, nat_lt, false, cond, List, Some, None, refl, sym, ap, ◌∙◌, arith}
use Rattle.std.proofs.lemmas.Bool.{lt-ltb, le-ltb, cases_lt}
use Rattle.sm_base.specs.declared.names.Name.TheVariants.{Raw}
use Rattle.sm_disk.specs.Held.{Held, Allows, May, reads}
use Rattle.sm_disk.proofs.HeldLaws.{May-reads}
use Rattle.vg_meta.specs.Tables.{VolumeTable, Row, rows, extents_of}
use Rattle.vg_volumes.specs.Sites.{Site, size_of, volume_of}
use Rattle.vg_volumes.specs.Volumes.{KeepsElsewhere}
use Rattle.vhd_layout.specs.Layouts.{Sectors}
use Rattle.vhd_chain.specs.Trees.{row_name}
use Rattle.vhd_chain.specs.declared.rows.TreeRow.{TreeRow}
use Rattle.common_laws.specs.Lists.{In}
use Rattle.sm_standing.specs.Contents.{sectors_of}
use Rattle.sm_standing.specs.Images.{raw_image}
use Rattle.sm_ready.specs.Known.{Known}
use Rattle.sm_ready.specs.Orderly.{IsOrderly}
use Rattle.sm_ready.specs.Stores.{content_in}
use Rattle.sm_ready.proofs.LeftLaws.{IsLeft, extent_some, left_volume, raw_of}
use Rattle.sm_ready.proofs.SpliceLaws.{with_volume, splice_here, splice_other, splice_left}
use Rattle.sm_ready.proofs.StopLaws.{IsStopped}

-- what is known as a write goes on
pub record RawWrites (s : Site) (t : VolumeTable) (m : Known) (old new : Held) (u : List ℕ) (W : ℕ → List ℕ → Type 0) : Type 0 where
  pub orderly : IsOrderly s t m
  pub volume : Row
  pub there : rows t (Raw u) ≡ Some volume
  pub filled : volume.fresh ≡ false
  pub row : TreeRow
  pub among : In row m.rows
  pub named : row_name row ≡ Raw u
  pub shown : row.hidden ≡ false
  pub keeps : KeepsElsewhere s.geometry.extent (extents_of (rows t (Raw u))) old new
  pub reaches : (p : ℕ) (v : List ℕ) → May (volume_of s t new (Raw u)) p v → May (volume_of s t old (Raw u)) p v ⊎ W p v

module _ (s : Site) (t : VolumeTable) (m : Known) (old new : Held) (u : List ℕ) (W : ℕ → List ℕ → Type 0) (h : RawWrites s t m old new u W) (image : Sectors) (left : IsLeft s new image) where
  n : ℕ
  n = size_of s t (Raw u)

  now : Sectors
  now = sectors_of (content_in s t image) (Raw u)

  allowed : Allows (size_of s t (Raw u)) (volume_of s t new (Raw u)) (sectors_of (content_in s t image) (Raw u))
  allowed = left_volume s t m new image (Raw u) h.orderly left

  -- what a stop might have left of it before: what it leaves now, or where that is new, what a read gave
  choice : (p : ℕ) → (v : List ℕ) × (p < size_of s t (Raw u) → May (volume_of s t old (Raw u)) p v × ((sectors_of (content_in s t image) (Raw u) p ≡ v) ⊎ W p (sectors_of (content_in s t image) (Raw u) p)))
  choice p = ⊎_elim
      (λ below. ⊎_elim
      (λ was. (sectors_of (content_in s t image) (Raw u) p, λ _. (was, inl refl)))
      (λ put. (reads (volume_of s t old (Raw u)) p, λ _. (May-reads (volume_of s t old (Raw u)) p, inr put)))
      (h.reaches p (sectors_of (content_in s t image) (Raw u) p) (allowed p below)))
      (λ past. (sectors_of (content_in s t image) (Raw u) p, λ below. absurd (omega (arith, past, below)))) (cases_lt p (size_of s t (Raw u)))

  abbrev earlier : Sectors
  earlier = with_volume s.geometry.extent (extents_of (rows t (Raw u))) (λ p. (choice p).0) image

  pos : 0 < s.geometry.extent
  pos = extent_some s t m h.orderly

  own : (k : ℕ) → ((raw_image (content_in s t image) (Raw u)).own k ≡ (raw_image (content_in s t earlier) (Raw u)).own k) ⊎ ((bytes : List ℕ) × W k bytes × ((raw_image (content_in s t image) (Raw u)).own k ≡ Some bytes))
  unfolding raw_image
  own k = ⊎_elim
      (λ below.
      let here = splice_here s t (Raw u) (λ p. (choice p).0) image k h.orderly.table pos below in
      ⊎_elim
      (λ same. inl (ap (λ v. cond (nat_lt k (size_of s t (Raw u))) (Some v) None) (same ∙ sym here)))
      (λ put. inr (sectors_of (content_in s t image) (Raw u) k, put, ap (λ b. cond b (Some (sectors_of (content_in s t image) (Raw u) k)) None) (lt-ltb k (size_of s t (Raw u)) below)))
      ((choice k).1 below).1)
      (λ past. inl (ap (λ b. cond b (Some (sectors_of (content_in s t image) (Raw u) k)) None) (le-ltb k (size_of s t (Raw u)) past)
      ∙ sym (ap (λ b. cond b (Some (sectors_of (content_in s t earlier) (Raw u) k)) None) (le-ltb k (size_of s t (Raw u)) past)))) (cases_lt k (size_of s t (Raw u)))

  pub raw_stopped : IsStopped s t m old (Raw u) W image
  unfolding raw_image
  raw_stopped = record {
    row = h.row;
    there = h.among;
    shown = h.shown;
    named = h.named;
    earlier = earlier;
    might = splice_left s t (Raw u) old new (λ p. (choice p).0) image h.keeps (λ p below. ((choice p).1 below).0) left;
    others = λ n other p below. sym (splice_other s t (Raw u) n (λ p. (choice p).0) image p h.orderly.table pos other below);
    was = raw_image (content_in s t earlier) (Raw u);
    now = raw_image (content_in s t image) (Raw u);
    before = raw_of (content_in s t earlier) u h.volume h.there h.filled;
    after = raw_of (content_in s t image) u h.volume h.there h.filled;
    size = refl;
    parent = refl;
    own = own;
    holding = λ v same. absurd (let x = same in cc);
  }
