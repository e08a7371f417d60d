-- One volume gets other extents, its image is the same, and each other volume holds what it held: all images are the same, and
-- all disks.
use Rattle.std.proofs.Common.{◌≡◌, ◌≢◌, ⊎_elim, ℕ, ◌<◌, ◌&&◌, not, Bool, false, cond, List, Option, Some, None, refl, sym, ap, ap₂, ◌∙◌, arith}
use Rattle.sm_base.specs.Kinds.{is_entry}
use Rattle.sm_base.specs.declared.names.Name.{Name}
use Rattle.sm_base.specs.declared.names.Name.TheVariants.{Mgt, Vhd, Raw, Old, Cbt, Clone, Inflate, Coalesce, Relink, Leaf}
use Rattle.sm_disk.specs.Held.{Held}
use Rattle.vg_meta.specs.Tables.{Row, VolumeTable, rows}
use Rattle.vg_volumes.specs.Sites.{Site, size_of}
use Rattle.sm_record.specs.Records.{reading}
use Rattle.sm_standing.specs.Contents.{Content, record_of, sectors_of}
use Rattle.sm_standing.specs.Entries.{is_visible, of_row}
use Rattle.sm_standing.specs.Images.{image_of}
use Rattle.sm_standing.specs.Standing.{disks, standing_volume}
use Rattle.sm_standing.proofs.ImageLaws.{disks_as}
use Rattle.sm_standing.proofs.ImageSectors.{gone, raw_same, vhd_same}
use Rattle.sm_standing.proofs.RecordLists.{first_of, record_of_first, records_same}
use Rattle.sm_ready.specs.Known.{Known}
use Rattle.sm_ready.specs.Orderly.{IsOrderly}
use Rattle.sm_ready.specs.Stores.{content_now}
use Rattle.sm_ready.proofs.LeftLaws.{mgt_long}
use Rattle.sm_ready.proofs.Orders.{geometry_of, whole}
use Rattle.sm_ready.proofs.ShapeLaws.{plainly_stands}
use Rattle.sm_space.proofs.OwnLaws.{named_or_not}

-- the volume of u has other extents in the table y than in t, and its marks
pub record IsTurnedTo (t y : VolumeTable) (u : List ℕ) : Type 0 where
  pub before : Row
  pub after : Row
  pub was : rows t (Vhd u) ≡ Some before
  pub is : rows y (Vhd u) ≡ Some after
  pub hidden : after.hidden ≡ before.hidden
  pub fresh : after.fresh ≡ before.fresh
  pub others : (n : Name) → n ≢ Vhd u → rows y n ≡ rows t n

module _ (s : Site) (t y : VolumeTable) (m k : Known) (old new : Held) (u : List ℕ) (o : IsOrderly s t m) (o' : IsOrderly s y k) (h : IsTurnedTo t y u)
    (sectors : (n : Name) → n ≢ Vhd u → is_entry n ≡ false → (p : ℕ) → p < size_of s t n → sectors_of (content_now s y new) n p ≡ sectors_of (content_now s t old) n p)
    (own : image_of (content_now s y new) (Vhd u) ≡ image_of (content_now s t old) (Vhd u)) where
  abbrev before : Content
  before = content_now s t old

  abbrev after : Content
  after = content_now s y new

  -- ---- each image

  vhd_image : (v : List ℕ) (x : Option Row) → Vhd v ≢ Vhd u → rows t (Vhd v) ≡ x → image_of after (Vhd v) ≡ image_of before (Vhd v)
  vhd_image v None other is = gone before after (Vhd v) is (h.others (Vhd v) other ∙ is)
  vhd_image v (Some r) other is =
      vhd_same before after v v r r (geometry_of s t m o) (record {
        extent = refl;
        block = refl;
        entries = refl;
        before = is;
        after = h.others (Vhd v) other ∙ is;
        extents = refl;
        fresh = refl;
        sectors = sectors (Vhd v) other refl;
      }) (whole s t m (Vhd v) o) (whole s y k (Vhd v) o')

  raw_image : (v : List ℕ) (x : Option Row) → rows t (Raw v) ≡ x → image_of after (Raw v) ≡ image_of before (Raw v)
  raw_image v None is = gone before after (Raw v) is (h.others (Raw v) (λ same. (let x = same in cc)) ∙ is)
  raw_image v (Some r) is =
      raw_same before after v v r r (record {
        extent = refl;
        block = refl;
        entries = refl;
        before = is;
        after = h.others (Raw v) (λ same. (let x = same in cc)) ∙ is;
        extents = refl;
        fresh = refl;
        sectors = sectors (Raw v) (λ same. (let x = same in cc)) refl;
      })

  pub images_turned : (n : Name) → image_of (content_now s y new) n ≡ image_of (content_now s t old) n
  unfolding image_of
  images_turned (Vhd v) = ⊎_elim (λ is. ap (image_of after) is ∙ own ∙ sym (ap (image_of before) is)) (λ other. vhd_image v (rows t (Vhd v)) other refl) (named_or_not (Vhd v) (Vhd u))
  images_turned (Raw v) = raw_image v (rows t (Raw v)) refl
  images_turned Mgt = refl
  images_turned (Old v) = refl
  images_turned (Cbt v) = refl
  images_turned (Clone a b c) = refl
  images_turned (Inflate a b) = refl
  images_turned (Coalesce a b) = refl
  images_turned (Relink a b) = refl
  images_turned (Leaf a b) = refl

  -- ---- and each disk

  recorded : (v : List ℕ) → record_of after v ≡ record_of before v
  recorded v =
      record_of_first after v
      ∙ ap first_of (records_same before after v (λ j below. ap reading (sectors Mgt (λ same. (let x = same in cc)) refl j (omega (arith, below, mgt_long s t m o)))))
      ∙ sym (record_of_first before v)

  abbrev shown : Row → Bool
  shown r = not r.hidden && not r.fresh

  visible_same : (n : Name) → is_visible y n ≡ is_visible t n
  visible_same n = ⊎_elim
      (λ same. ap (λ x. of_row shown (rows y x)) same ∙ ap (of_row shown) h.is ∙ ap₂ (λ a b. not a && not b) h.hidden h.fresh ∙ sym (ap (of_row shown) h.was) ∙ sym (ap (λ x. of_row shown (rows t x)) same))
      (λ other. ap (of_row shown) (h.others n other)) (named_or_not n (Vhd u))

  stands_same : (v : List ℕ) → standing_volume y v ≡ standing_volume t v
  stands_same v =
      plainly_stands s y k v o'
      ∙ ap₂ (λ (a b : Bool). cond a (Some (Vhd v)) (cond b (Some (Raw v)) None)) (visible_same (Vhd v)) (visible_same (Raw v))
      ∙ sym (plainly_stands s t m v o)

  pub disks_turned : disks (content_now s y new) ≡ disks (content_now s t old)
  disks_turned = disks_as before after stands_same images_turned recorded
