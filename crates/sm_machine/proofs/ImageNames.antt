-- Names of images: when they are the same, and their order.
use Rattle.std.proofs.Common.{◌≡◌, Bool, true, false, not, List, map, refl, ap, ◌∙◌}
use Rattle.std.specs.Ordering.{is_lt, nat_cmp, ordering_reverse}
use Rattle.std.specs.declared.cmp.Ordering.{Ordering}
use Rattle.std.specs.declared.cmp.Ordering.TheVariants.{Less, Equal, Greater}
use Rattle.std.specs.Cmp.{IsTotalOrder}
use Rattle.std.specs.Cmp.Lexicographic.{slice_cmp}
use Rattle.std.proofs.lemmas.Cmp.{nat_list_cmp_total}
use Rattle.std.proofs.lemmas.Bool.{false_from_ne_true}
use Rattle.common_laws.proofs.Bytes.{bytes_eq-same, bytes_eq-refl}
use Rattle.sm_base.specs.Names.{name_cmp, spelling}
use Rattle.sm_base.specs.declared.names.Name.{Name}
use Rattle.sm_base.specs.declared.names.Name.TheVariants.{Vhd, Raw}
use Rattle.common_laws.specs.Lists.{Sorted}
use Rattle.sm_machine.specs.Disks.{uuid_before}
use Rattle.sm_machine.specs.Shapes.{ImageRow, DiskRecord, same_image, with_image}
use Rattle.sm_machine.specs.Steps.{with_record}
use Rattle.sm_machine.specs.WellFormed.{is_image_name, name_le, uuid_le}
use Rattle.common_laws.proofs.Lists.{Sorted-insert}

-- two names of one image are equal
pub same_image-sound : (a b : Name) → same_image a b ≡ true → a ≡ b
unfolding same_image
same_image-sound (Vhd u) (Vhd v) e = ap Vhd (bytes_eq-same u v e)
same_image-sound (Raw u) (Raw v) e = ap Raw (bytes_eq-same u v e)
same_image-sound _ _ e = cc

pub same_image-refl : (a : Name) → is_image_name a ≡ true → same_image a a ≡ true
unfolding same_image is_image_name
same_image-refl (Vhd u) e = bytes_eq-refl u
same_image-refl (Raw u) e = bytes_eq-refl u
same_image-refl _ e = cc

pub other_image : (a b : Name) → (a ≡ b → ⊥) → same_image a b ≡ false
other_image a b h = false_from_ne_true (same_image a b) (λ e. h (same_image-sound a b e))

-- ---- order

module _ {K : Type 0} (R : K → K → Ordering) (t : IsTotalOrder R) where
  flipped : (x y : K) (o : Ordering) → R y x ≡ o → is_lt (R x y) ≡ true → is_lt o ≡ false
  flipped x y Less e h = let r : R x y ≡ Greater = t.antisymm x y ∙ ap ordering_reverse e in let g : is_lt (R x y) ≡ false = ap is_lt r in cc
  flipped x y Equal e h = refl
  flipped x y Greater e h = refl

  pub before_le : (x y : K) → is_lt (R x y) ≡ true → not (is_lt (R y x)) ≡ true
  before_le x y h = ap not (flipped x y (R y x) refl h)

  less_of : (o : Ordering) → is_lt o ≡ true → o ≡ Less
  less_of Less e = refl
  less_of Equal e = cc
  less_of Greater e = cc

  middle : (v w x : K) (o : Ordering) → R w x ≡ o → R x v ≡ Less → is_lt (R w v) ≡ false → is_lt (R x w) ≡ false → ⊥
  middle v w x Less e h a b = let r : R w v ≡ Less = t.trans w x v e h in let g : is_lt (R w v) ≡ true = ap is_lt r in cc
  middle v w x Equal e h a b = let r : R w v ≡ Less = t.congr w x v e ∙ h in let g : is_lt (R w v) ≡ true = ap is_lt r in cc
  middle v w x Greater e h a b = let r : R x w ≡ Less = t.antisymm x w ∙ ap ordering_reverse e in let g : is_lt (R x w) ≡ true = ap is_lt r in cc

  not_true : (b : Bool) → not b ≡ true → b ≡ false
  not_true true e = cc
  not_true false e = refl

  pub le_chain : (v w x : K) → not (is_lt (R w v)) ≡ true → not (is_lt (R x w)) ≡ true → not (is_lt (R x v)) ≡ true
  le_chain v w x a b = ap not (false_from_ne_true (is_lt (R x v)) (λ h. middle v w x (R w x) refl (less_of (R x v) h) (not_true _ a) (not_true _ b)))

pub names_total : IsTotalOrder name_cmp
unfolding name_cmp
names_total = record {
  antisymm = λ x y. nat_list_cmp_total.antisymm (spelling x) (spelling y);
  trans = λ x y z. nat_list_cmp_total.trans (spelling x) (spelling y) (spelling z);
  congr = λ x y z. nat_list_cmp_total.congr (spelling x) (spelling y) (spelling z);
}

-- an image put in its place leaves the images in order
pub images_sorted : (i : ImageRow) (images : List ImageRow) → Sorted name_le (map (λ j. j.name) images) → Sorted name_le (map (λ j. j.name) (with_image i images))
unfolding with_image
images_sorted i images d = Sorted-insert (λ j. j.name) name_le (λ a b. is_lt (name_cmp a.name b.name))
    (λ x y. before_le name_cmp names_total x.name y.name) (λ x y e. ap not e) (le_chain name_cmp names_total) i images d

pub records_sorted : (r : DiskRecord) (records : List DiskRecord) → Sorted uuid_le (map (λ q. q.uuid) records) → Sorted uuid_le (map (λ q. q.uuid) (with_record r records))
unfolding with_record
records_sorted r records d = Sorted-insert (λ q. q.uuid) uuid_le (λ a b. uuid_before a.uuid b.uuid)
    (λ x y. before_le (slice_cmp nat_cmp) nat_list_cmp_total x.uuid y.uuid) (λ x y e. ap not e) (le_chain (slice_cmp nat_cmp) nat_list_cmp_total) r records d
