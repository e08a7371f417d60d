-- While an image is being enlarged a kept content stays kept, and shows the disks from before.
use Rattle.std.proofs.Common.{◌≡◌, ◌≢◌, ℕ, ◌*◌, ◌<◌, Bool, true, false, cond, List, length, Option, Some, None, refl, sym, ap, ap₂, ◌∙◌, subst, arith}
use Rattle.std.proofs.Math.Path.{fun_ext}
use Rattle.std.specs.Str.{bytes_eq}
use Rattle.std.proofs.lemmas.Bool.{cases_lt, true≢false}
use Rattle.std.proofs.lemmas.Option.{same_Some}
use Rattle.common_laws.proofs.Bytes.{bytes_eq-same, bytes_eq-refl}
use Rattle.common_laws.specs.Lists.{◌>>=◌}
use Rattle.sm_base.specs.declared.names.Name.{Name}
use Rattle.sm_base.specs.declared.names.Name.TheVariants.{Mgt, Vhd, Raw, Old, Cbt, Clone, Inflate, Coalesce, Relink, Leaf}
use Rattle.vg_meta.specs.Tables.{Row, extents_of}
use Rattle.vg_meta.proofs.NameLaws.{name_eq-true}
use Rattle.sm_machine.specs.Shapes.{same_image}
use Rattle.sm_record.specs.Records.{reading}
use Rattle.sm_standing.specs.Checks.{fault_of}
use Rattle.sm_standing.specs.Contents.{Content, row, record_count, sectors_of, record_of}
use Rattle.sm_standing.specs.Enlarging.{IsAtLeast, IsEnlargingOn}
use Rattle.sm_standing.specs.Images.{image_extents, image_of, vhd_image}
use Rattle.sm_standing.specs.Keeping.{IsKept, IsHolding}
use Rattle.sm_standing.specs.Outlines.{link_of, outline}
use Rattle.sm_standing.specs.Readings.{SameReadings}
use Rattle.sm_standing.specs.Standing.{disks}
use Rattle.sm_standing.specs.Volumes.{IsAtSize, IsSameVolume}
use Rattle.sm_standing.proofs.DisksShown.{row_of-In}
use Rattle.sm_standing.proofs.EnlargingLaws.{Beside, near, making_now, enlarging_sound, stands_alike}
use Rattle.sm_standing.proofs.ImageSectors.{image_same, vhd_same, raw_same, gone, whole_none}
use Rattle.sm_standing.proofs.OutlineLaws.{made-of, in_same}
use Rattle.sm_standing.proofs.RecordLists.{records_same, record_of_first, first_of}
use Rattle.vhd_layout.specs.Readings.{image_at}
use Rattle.sm_standing.proofs.ImageLaws.{disks_as}

module _ (a b : Content) (u : List ℕ) (extents : ℕ) (w : IsEnlargingOn a b u extents) where
  beside : (n : Name) → n ≢ Inflate u extents → Beside u (row a n) (row b n)
  beside n other = near (outline a) b.table u extents w.table n other

  named : (n : Name) (q : Row) → row a n ≡ Some q → q.name ≡ n
  named n q is = name_eq-true q.name n (row_of-In a.table.volumes n q is).1

  -- a volume that keeps its extents
  same_volume : (n : Name) (q r : Row) → row a n ≡ Some q → row b n ≡ Some r → IsAtLeast u q r → n ≢ Vhd u → IsSameVolume a b n n q r
  same_volume n q r was now one other = record {
    extent = w.extent;
    block = w.block;
    entries = w.entries;
    before = was;
    after = now;
    extents = one.same (λ own. other (sym (named n q was) ∙ own));
    fresh = one.fresh;
    sectors = λ p below. w.sectors n p below;
  }

  -- the entry speaks of this image alone
  whole_now : (v : List ℕ) → bytes_eq u v ≡ false → IsAtSize b.table (Vhd v)
  unfolding same_image
  whole_now v other all =
      ap (λ ns. image_extents ns (Vhd v) all) (making_now (outline a) b.table u extents w.table) ∙ ap (λ c. cond c extents all) other

  -- which lies in the extents that it had
  own_image : (r : Row) → row b (Vhd u) ≡ Some r → r.fresh ≡ false → image_of b (Vhd u) ≡ image_of a (Vhd u)
  unfolding image_of vhd_image same_image
  own_image r now filled =
      let own = w.table.own in
      let long = ap (λ n. n * a.extent) w.all in
      ap (λ o. o >>= (λ (x : Row). cond x.fresh None (vhd_image b (Vhd u) x))) now
      ∙ ap (λ c. cond c None (vhd_image b (Vhd u) r)) filled
      ∙ ap (λ ns. image_at b.block b.entries (image_extents ns (Vhd u) (length r.extents) * b.extent) (sectors_of b (Vhd u))) (making_now (outline a) b.table u extents w.table)
      ∙ ap (λ c. image_at b.block b.entries (cond c extents (length r.extents) * b.extent) (sectors_of b (Vhd u))) (bytes_eq-refl u)
      ∙ ap (λ k. image_at b.block b.entries (extents * k) (sectors_of b (Vhd u))) w.extent
      ∙ ap₂ (λ x y. image_at x y (extents * a.extent) (sectors_of b (Vhd u))) w.block w.entries
      ∙ image_same a.extent a.block a.entries (extents * a.extent) (sectors_of b (Vhd u)) (sectors_of a (Vhd u)) w.geometry
      (λ p below. w.sectors (Vhd u) p (subst (λ n. p < n) (long ∙ sym (ap (λ o. length (extents_of o) * a.extent) w.table.there)) below))
      ∙ ap (λ n. image_at a.block a.entries n (sectors_of a (Vhd u))) long
      ∙ sym (ap (λ k. image_at a.block a.entries (k * a.extent) (sectors_of a (Vhd u))) (whole_none a.table (Vhd u) w.table.none_making (length own.extents)))
      ∙ sym (ap (λ c. cond c None (vhd_image a (Vhd u) own)) w.table.filled)
      ∙ sym (ap (λ o. o >>= (λ (x : Row). cond x.fresh None (vhd_image a (Vhd u) x))) w.table.there)

  vhd_alike : (v : List ℕ) → image_of b (Vhd v) ≡ image_of a (Vhd v)
  vhd_alike v = by (row a (Vhd v)) (row b (Vhd v)) refl refl (beside (Vhd v) (λ is. let x = is in cc)) (bytes_eq u v) refl
    where
      by : (x y : Option Row) → row a (Vhd v) ≡ x → row b (Vhd v) ≡ y → Beside u x y → (c : Bool) → bytes_eq u v ≡ c → image_of b (Vhd v) ≡ image_of a (Vhd v)
      by None None was now one c is = gone a b (Vhd v) was now
      by (Some q) (Some r) was now one false is =
          vhd_same a b v v q r w.geometry (same_volume (Vhd v) q r was now one (λ same. true≢false (sym (subst (λ x. bytes_eq u x ≡ true) (let e : u ≡ v = (let x = sym same in cc) in e) (bytes_eq-refl u)) ∙ is)))
          (whole_none a.table (Vhd v) w.table.none_making) (whole_now v is)
      by (Some q) (Some r) was now one true is =
          let same = bytes_eq-same u v is in
          let own : Some q ≡ Some w.table.own = sym was ∙ ap (λ x. row a (Vhd x)) (sym same) ∙ w.table.there in
          subst (λ x. image_of b (Vhd x) ≡ image_of a (Vhd x)) same
          (own_image r (ap (λ x. row b (Vhd x)) same ∙ now) (one.fresh ∙ ap (λ (x : Row). x.fresh) (same_Some q w.table.own own) ∙ w.table.filled))
      by None (Some r) was now one c is = absurd one
      by (Some q) None was now one c is = absurd one

  raw_alike : (v : List ℕ) → image_of b (Raw v) ≡ image_of a (Raw v)
  raw_alike v = by (row a (Raw v)) (row b (Raw v)) refl refl (beside (Raw v) (λ is. let x = is in cc))
    where
      by : (x y : Option Row) → row a (Raw v) ≡ x → row b (Raw v) ≡ y → Beside u x y → image_of b (Raw v) ≡ image_of a (Raw v)
      by None None was now one = gone a b (Raw v) was now
      by (Some q) (Some r) was now one = raw_same a b v v q r (same_volume (Raw v) q r was now one (λ same. let x = same in cc))
      by None (Some r) was now one = absurd one
      by (Some q) None was now one = absurd one

  -- each image is the same
  pub images_enlarging : (n : Name) → image_of b n ≡ image_of a n
  unfolding image_of
  images_enlarging (Vhd v) = vhd_alike v
  images_enlarging (Raw v) = raw_alike v
  images_enlarging Mgt = refl
  images_enlarging (Old v) = refl
  images_enlarging (Cbt v) = refl
  images_enlarging (Clone x y z) = refl
  images_enlarging (Inflate x y) = refl
  images_enlarging (Coalesce x y) = refl
  images_enlarging (Relink x y) = refl
  images_enlarging (Leaf x y) = refl

  readings_enlarging : SameReadings a b
  readings_enlarging k below = ap reading (w.sectors Mgt k (omega (arith, below, w.records)))

  pub outline_enlarging : outline b ≡ record (outline a) { table = b.table }
  outline_enlarging = made-of w.extent w.block w.entries refl (fun_ext (λ n. ap link_of (images_enlarging n))) (fun_ext (λ k. in_same a b k (readings_enlarging k) (cases_lt k record_count)))

  -- it stays kept
  pub enlarging_kept : IsKept a → IsKept b
  enlarging_kept kept = record {
    sound = ap fault_of outline_enlarging ∙ enlarging_sound (outline a) b.table u extents w.table kept.sound;
    holding = λ v i is. subst (λ k. IsHolding k i) (sym w.block) (kept.holding v i (sym (images_enlarging (Vhd v)) ∙ is));
    linking = λ child parent r v p n there is linked is_parent.
        let q = linked_row child parent r there in
        kept.linking child parent q.0 v p n q.1 (sym (images_enlarging (Vhd child)) ∙ is) linked (sym (images_enlarging n) ∙ is_parent);
  }
    where
      linked_row : (child parent : List ℕ) (r : Row) → row b (Relink child parent) ≡ Some r → (q : Row) × (row a (Relink child parent) ≡ Some q)
      linked_row child parent r there = by (row a (Relink child parent)) refl (subst (Beside u (row a (Relink child parent))) there (beside (Relink child parent) (λ is. let x = is in cc)))
        where
          by : (x : Option Row) → row a (Relink child parent) ≡ x → Beside u x (Some r) → (q : Row) × (row a (Relink child parent) ≡ Some q)
          by None is one = absurd one
          by (Some q) is one = (q, is)

  -- and shows the same disks
  pub enlarging_disks : disks b ≡ disks a
  enlarging_disks = disks_as a b (stands_alike (outline a) b.table u extents w.table) images_enlarging recorded
    where
      recorded : (v : List ℕ) → record_of b v ≡ record_of a v
      recorded v = record_of_first b v ∙ ap first_of (records_same a b v readings_enlarging) ∙ sym (record_of_first a v)
