-- The worked contents are sound: no check of an opening fails.
use Rattle.std.proofs.Common.{◌≡◌, ℕ, suc, ◌==◌, ◌&&◌, ◌||◌, not, nat_le, Bool, true, false, cond, List, [], ◌∷◌, ◌++◌, length, map, Option, Some, None, is_none, refl, ap, ap₂, ◌∙◌}
use Rattle.std.specs.List.{find, filter}
use Rattle.common_laws.proofs.Booleans.{all_hold}
use Rattle.sm_base.specs.Names.{is_base}
use Rattle.sm_base.specs.Numbers.{div_up}
use Rattle.sm_base.specs.declared.faults.Place.{Place}
use Rattle.sm_base.specs.declared.faults.Place.TheVariants as at
use Rattle.sm_base.specs.declared.names.Name.{Name}
use Rattle.sm_base.specs.declared.names.Name.TheVariants.{Vhd}
use Rattle.vg_layout.specs.Places.{record_extents}
use Rattle.vg_meta.specs.Tables.{Row, row_of, name_eq}
use Rattle.common_laws.specs.Lists.{numbers, first_some}
use Rattle.sm_machine.specs.Shapes.{same_image}
use Rattle.sm_record.specs.declared.records.Record.{Record}
use Rattle.sm_standing.specs.Checks.{fault_of, first_fault, first_name, name_in, placed, record_volume_fault, too_many_fault, misnamed_fault, second_entry_fault, lost_entry_fault, old_leaf_fault, is_invalid, invalid_fault, children, parent_is, chain_length, is_no_larger, is_misplaced, is_tree_wrong, tree_fault, is_entry_linked, entry_link_fault, record_fault, disk_place, disk_uuids, disk_fault}
use Rattle.sm_standing.specs.Outlines.{link_of, outline}
use Rattle.sm_standing.proofs.OutlineLaws.{outline_records_same}
use Rattle.sm_standing.specs.Contents.{Content, records, is_record_of}
use Rattle.sm_standing.specs.Entries.{is_hidden, is_at_stage}
use Rattle.sm_standing.specs.Images.{Image, image_of}
use Rattle.sm_standing.specs.Standing.{standing_volume, uuids, with_uuid, in_order}
use Rattle.sm_standing.proofs.WalkLaws.{length_top, length_up}
use Rattle.examples_moments.specs.Moments.{top, filled, child}
use Rattle.examples_moments.specs.Worked.{first, second, base, first_record, second_record, image_row, one_disk, unforked, two_disks}
use Rattle.examples_moments.specs.WorkedImages.{top_image, filled_child, empty_child}
use Rattle.examples_moments.proofs.ForkExample.{first_right, second_right, unforked_image, unforked_records}
use Rattle.examples_moments.proofs.ForkMoments.{fork_8}
use Rattle.examples_moments.proofs.PlacedLaws.{one_undamaged, two_undamaged}
use Rattle.examples_moments.proofs.SwapExample.{filled_size, filled_parent}
use Rattle.examples_moments.proofs.WorkedDisks.{pair, is_pair, pair_base, pair_first, pair_second, child_parent_is, child_size_is, pair_records}
use Rattle.examples_moments.proofs.WorkedLaws.{top_size, top_parent}

-- ---- all checks

-- a test that fails at each volume
abbrev pub Fails : (Row → Bool) → List Row → Type 0
Fails test [] = Unit {0}
Fails test (r ∷ rs) = (test r ≡ false) × Fails test rs

-- the checks that the table decides alone
abbrev pub table_faults : Content → List (Option Place)
table_faults c = record_volume_fault (outline c) ∷ too_many_fault (outline c) ∷ misnamed_fault (outline c) ∷ second_entry_fault (outline c) ∷ lost_entry_fault (outline c) ∷ old_leaf_fault (outline c) ∷ []

pub record Passes (c : Content) : Type 0 where
  pub table : first_some (table_faults c) ≡ None
  pub invalid : Fails (is_invalid (outline c)) c.table.volumes
  pub tree : Fails (is_tree_wrong (outline c)) c.table.volumes
  pub entry_link : Fails (λ r. not (is_entry_linked (outline c) r.name)) c.table.volumes
  pub records : record_fault (outline c) ≡ None
  pub disks : disk_fault (outline c) ≡ None

none_named : (test : Row → Bool) (rs : List Row) → Fails test rs → first_name test rs ≡ None
unfolding first_name
none_named test [] fails = refl
none_named test (r ∷ rs) fails = ap (λ b. name_in (cond b (Some r) (find test rs))) fails.0 ∙ none_named test rs fails.1

after_none : (os ps : List (Option Place)) → first_some os ≡ None → first_some (os ++ ps) ≡ first_some ps
after_none [] ps none = refl
after_none (None ∷ os) ps none = after_none os ps none
after_none (Some x ∷ os) ps none = absurd (let e = none in cc)

skip : (o : Option Place) (os : List (Option Place)) → o ≡ None → first_some (o ∷ os) ≡ first_some os
skip o os is = ap (λ p. first_some (p ∷ os)) is

pub sound : (c : Content) → Passes c → first_fault c ≡ None
unfolding fault_of invalid_fault tree_fault entry_link_fault
sound c h =
    after_none (table_faults c) (invalid_fault (outline c) ∷ tree_fault (outline c) ∷ entry_link_fault (outline c) ∷ record_fault (outline c) ∷ disk_fault (outline c) ∷ []) h.table
    ∙ skip (invalid_fault (outline c)) _ (ap (placed at.Image) (none_named (is_invalid (outline c)) c.table.volumes h.invalid))
    ∙ skip (tree_fault (outline c)) _ (ap (placed at.Tree) (none_named (is_tree_wrong (outline c)) c.table.volumes h.tree))
    ∙ skip (entry_link_fault (outline c)) _ (ap (placed at.Journal) (none_named (λ r. not (is_entry_linked (outline c) r.name)) c.table.volumes h.entry_link))
    ∙ skip (record_fault (outline c)) _ h.records
    ∙ skip (disk_fault (outline c)) [] h.disks

-- with these records
pub recorded : (c : Content) (rs : List Record) → records c ≡ rs
    → disk_place (find (λ u. not (length (filter (is_record_of u) rs) == 1)) (disk_uuids (outline c))) ≡ None → disk_fault (outline c) ≡ None
unfolding disk_fault
recorded c rs are none = ap (λ qs. disk_place (find (λ u. not (length (filter (is_record_of u) qs) == 1)) (disk_uuids (outline c)))) (outline_records_same c ∙ are) ∙ none

-- ---- images, with what they say written out

abbrev pub written_out : Option Name → Image → Image
written_out p i = record i { parent = p; size = 128 }

pub saying : (c : Content) (n : Name) (p : Option Name) (i : Image) → image_of c n ≡ Some i → i.parent ≡ p → i.size ≡ 128 → image_of c n ≡ Some (written_out p i)
saying c n p i is parent size = is ∙ ap₂ (λ o s. Some (record i { parent = o; size = s })) parent size

pub saying_top : (c : Content) (n : Name) (byte : ℕ) → image_of c n ≡ Some (top byte) → image_of c n ≡ Some (written_out None (top byte))
saying_top c n byte is = saying c n None (top byte) is (top_parent byte) (top_size byte)

pub saying_child : (c : Content) (n : Name) → image_of c n ≡ Some child → image_of c n ≡ Some (written_out (Some (Vhd base)) child)
saying_child c n is = saying c n (Some (Vhd base)) child is child_parent_is child_size_is

pub ap₃ : {A B : Type 0} (f : A → A → A → B) {a b c x y z : A} → a ≡ x → b ≡ y → c ≡ z → f a b c ≡ f x y z
ap₃ f {a} {b} {c} {x} {y} {z} h k l = ap₂ (λ v w. f v w c) h k ∙ ap (f x y) l

-- an image that is there is valid
pub valid : {o : Option Image} {i : Image} → o ≡ Some i → is_none (link_of o) ≡ false
valid is = ap (λ o. is_none (link_of o)) is

-- the images of all volumes
abbrev pub images_of : Content → List (Option Image)
images_of c = map (λ (r : Row). image_of c r.name) c.table.volumes

-- the volumes whose images pass a test
abbrev pub kept : (Option Image → Bool) → List Row → List (Option Image) → List Row
kept test [] os = []
kept test (r ∷ rs) [] = []
kept test (r ∷ rs) (o ∷ os) = cond (test o) (r ∷ kept test rs os) (kept test rs os)

kept_all : (c : Content) (test : Option Image → Bool) (rs : List Row) → filter (λ (r : Row). test (image_of c r.name)) rs ≡ kept test rs (map (λ (r : Row). image_of c r.name) rs)
kept_all c test [] = refl
kept_all c test (r ∷ rs) = ap (λ qs. cond (test (image_of c r.name)) (r ∷ qs) qs) (kept_all c test rs)

-- whether an image has this parent
abbrev pub is_under : Name → Option Image → Bool
is_under p o = parent_is p (link_of o)

pub children_are : (c : Content) (os : List (Option Image)) (x : Name) → images_of c ≡ os → children (outline c) x ≡ kept (is_under x) c.table.volumes os
unfolding children
children_are c os x are = kept_all c (is_under x) c.table.volumes ∙ ap (kept (is_under x) c.table.volumes) are

-- hidden, or without children
abbrev pub is_free : Bool → List Row → Bool
is_free hidden rs = hidden || (length rs == 0)

pub free : (c : Content) (os : List (Option Image)) (u : List ℕ) (hidden : Bool) → images_of c ≡ os
    → is_free hidden (kept (is_under (Vhd u)) c.table.volumes os) ≡ true → is_free hidden (children (outline c) (Vhd u)) ≡ true
free c os u hidden are is = ap (is_free hidden) (children_are c os (Vhd u) are) ∙ is

pub chain_top : (c : Content) (most : ℕ) (n : Name) (i : Image) → image_of c n ≡ Some (written_out None i) → chain_length (outline c) (suc most) n ≡ 1
chain_top c most n i is = length_top (outline c) most n _ (ap link_of is) refl

pub chain_up : (c : Content) (most : ℕ) (n p : Name) (i : Image) → image_of c n ≡ Some (written_out (Some p) i) → chain_length (outline c) (suc most) n ≡ suc (chain_length (outline c) most p)
chain_up c most n p i is = length_up (outline c) most n p _ (ap link_of is) refl

-- an image without a parent, and one under a parent, lie rightly
pub top_right : (c : Content) (u : List ℕ) (hidden : Bool) (place : ℕ) (i : Image) → image_of c (Vhd u) ≡ Some (written_out None i)
    → is_free hidden (children (outline c) (Vhd u)) ≡ true → is_tree_wrong (outline c) (image_row hidden (Vhd u) place) ≡ false
top_right c u hidden place i is childless =
    ap (λ o. is_misplaced (outline c) (image_row hidden (Vhd u) place) (link_of o)) is
    ∙ all_hold true (nat_le (chain_length (outline c) 31 (Vhd u)) 30) (is_free hidden (children (outline c) (Vhd u))) refl (ap (λ d. nat_le d 30) (chain_top c 30 (Vhd u) i is)) childless

pub child_right : (c : Content) (u p : List ℕ) (hidden : Bool) (place : ℕ) (i q : Image) (above : Option Name) → image_of c (Vhd u) ≡ Some (written_out (Some (Vhd p)) i)
    → is_hidden c.table (Vhd p) ≡ true → image_of c (Vhd p) ≡ Some (written_out above q) → nat_le (chain_length (outline c) 31 (Vhd u)) 30 ≡ true
    → is_free hidden (children (outline c) (Vhd u)) ≡ true → is_tree_wrong (outline c) (image_row hidden (Vhd u) place) ≡ false
child_right c u p hidden place i q above is there below short childless =
    ap (λ o. is_misplaced (outline c) (image_row hidden (Vhd u) place) (link_of o)) is
    ∙ all_hold (is_hidden c.table (Vhd p) && is_no_larger 128 (link_of (image_of c (Vhd p)))) (nat_le (chain_length (outline c) 31 (Vhd u)) 30) (is_free hidden (children (outline c) (Vhd u)))
    (ap₂ (λ b o. b && is_no_larger 128 (link_of o)) there below) short childless

-- one right under the top of its chain
pub over_right : (c : Content) (u p : List ℕ) (hidden : Bool) (place : ℕ) (i q : Image) → image_of c (Vhd u) ≡ Some (written_out (Some (Vhd p)) i)
    → is_hidden c.table (Vhd p) ≡ true → image_of c (Vhd p) ≡ Some (written_out None q) → is_free hidden (children (outline c) (Vhd u)) ≡ true
    → is_tree_wrong (outline c) (image_row hidden (Vhd u) place) ≡ false
over_right c u p hidden place i q is there below childless =
    child_right c u p hidden place i q None is there below
    (ap (λ d. nat_le d 30) (chain_up c 30 (Vhd u) (Vhd p) i is ∙ ap (λ d. suc d) (chain_top c 29 (Vhd p) q below))) childless

-- ---- one disk

one_image : image_of unforked (Vhd first) ≡ Some (written_out None (top 17))
one_image = saying_top unforked (Vhd first) 17 unforked_image

one_images : images_of unforked ≡ None ∷ Some (written_out None (top 17)) ∷ []
unfolding image_of
one_images = ap (λ o. None ∷ o ∷ []) one_image

pub unforked_sound : first_fault unforked ≡ None
unfolding record_volume_fault too_many_fault misnamed_fault second_entry_fault lost_entry_fault old_leaf_fault first_name is_at_stage is_entry_linked row_of name_eq is_base numbers record_extents div_up standing_volume uuids with_uuid in_order
unforked_sound = sound unforked (record {
  table = refl;
  invalid = (refl, (valid one_image, tt));
  tree = (refl, (top_right unforked first false 16 (top 17) one_image (free unforked _ first false one_images refl), tt));
  entry_link = (refl, (refl, tt));
  records = one_undamaged one_disk (top_image 17) (empty_child (Vhd base)) (empty_child (Vhd base)) first_record refl first_right;
  disks = recorded unforked (first_record ∷ []) unforked_records refl;
})

-- ---- two disks over a base

base_written : image_of pair (Vhd base) ≡ Some (written_out None (top 17))
base_written = saying_top pair (Vhd base) 17 pair_base

first_written : image_of pair (Vhd first) ≡ Some (written_out (Some (Vhd base)) (filled 34))
first_written = saying pair (Vhd first) (Some (Vhd base)) (filled 34) pair_first (filled_parent 34) (filled_size 34)

second_written : image_of pair (Vhd second) ≡ Some (written_out (Some (Vhd base)) child)
second_written = saying_child pair (Vhd second) pair_second

pair_images : images_of pair ≡ None ∷ Some (written_out (Some (Vhd base)) (filled 34)) ∷ Some (written_out (Some (Vhd base)) child) ∷ Some (written_out None (top 17)) ∷ []
unfolding image_of
pair_images = ap₃ (λ o p q. None ∷ o ∷ p ∷ q ∷ []) first_written second_written base_written

pair_sound : first_fault pair ≡ None
unfolding record_volume_fault too_many_fault misnamed_fault second_entry_fault lost_entry_fault old_leaf_fault first_name is_at_stage is_entry_linked row_of name_eq is_base numbers record_extents div_up same_image standing_volume uuids with_uuid in_order
pair_sound = sound pair (record {
  table = refl;
  invalid = (refl, (valid first_written, (valid second_written, (valid base_written, tt))));
  tree =
      let disk = over_right pair first base false 21 (filled 34) (top 17) first_written refl base_written (free pair _ first false pair_images refl) in
      let twin = over_right pair second base false 26 child (top 17) second_written refl base_written (free pair _ second false pair_images refl) in
      (refl, (disk, (twin, (top_right pair base true 16 (top 17) base_written refl, tt))));
  entry_link = (refl, (refl, (refl, (refl, tt))));
  records = two_undamaged fork_8 (top_image 17) (filled_child (Vhd base) 34) (empty_child (Vhd base)) first_record second_record refl first_right second_right;
  disks = recorded pair (first_record ∷ second_record ∷ []) pair_records refl;
})

pub two_disks_sound : first_fault two_disks ≡ None
two_disks_sound = ap first_fault is_pair ∙ pair_sound
