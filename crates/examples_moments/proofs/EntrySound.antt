-- No check of an opening fails at a moment of the worked fork, of the worked swap or of the worked relink.
use Rattle.std.proofs.Common.{◌≡◌, ℕ, ◌==◌, ◌&&◌, ◌||◌, not, nat_le, Bool, true, false, suc, List, [], ◌∷◌, ◌++◌, length, Option, Some, None, refl, ap, ap₂, ◌∙◌, if◌then◌else◌}
use Rattle.std.specs.List.{filter}
use Rattle.sm_base.specs.Names.{is_base}
use Rattle.sm_base.specs.Numbers.{div_up}
use Rattle.sm_base.specs.declared.names.Name.TheVariants.{Vhd, Raw, Clone, Relink, Leaf}
use Rattle.vg_layout.specs.Places.{record_extents}
use Rattle.vg_meta.specs.Tables.{Row, VolumeTable, rows, row_of, name_eq}
use Rattle.common_laws.specs.Lists.{◌>>=◌, numbers}
use Rattle.sm_machine.specs.Shapes.{same_image}
use Rattle.sm_record.specs.declared.records.Record.{Record}
use Rattle.examples_vhd.specs.SmallImages.{table_of, empty}
use Rattle.sm_standing.specs.Checks.{first_fault, children, chain_length, is_misplaced, record_fault, first_name, record_volume_fault, too_many_fault, misnamed_fault, second_entry_fault, lost_entry_fault, old_leaf_fault, of_image, has_such_parent, children_with, is_base_of, is_entry_linked}
use Rattle.sm_standing.specs.Outlines.{link_of, outline}
use Rattle.sm_standing.specs.Contents.{Content, records}
use Rattle.sm_standing.specs.Entries.{making, image_with, is_at_stage, is_fork_made, is_leaf_copied, is_leaf_renamed, is_leaf_swapped}
use Rattle.sm_standing.specs.Images.{Image, image_of, vhd_image, image_extents}
use Rattle.sm_standing.specs.Standing.{standing_volume, uuids, with_uuid, in_order}
use Rattle.examples_moments.specs.Moments.{top, filled, child, empty_over}
use Rattle.examples_moments.specs.Worked.{first, second, base, first_record, second_record, content_with, image_row, fork_area, leaf_copied, leaf_area, uncopied, swap_area, relink_table, relinking, relinked_at, forking_at, filled_at, swapping_at}
use Rattle.examples_moments.specs.WorkedImages.{top_image, filled_child, empty_child}
use Rattle.examples_moments.proofs.ChainExample.{uncopied_base, uncopied_leaf, linked_over_base, linked_hidden, linked_below}
use Rattle.examples_moments.proofs.ForkExample.{disk_image, first_child, second_child, first_right, second_right, HasRecords, records_two}
use Rattle.examples_moments.proofs.ForkMoments.{fresh_row, fork_1, fork_2, fork_3, fork_4, fork_5, fork_6, fork_7, is_fork_1, is_fork_2, is_fork_3, is_fork_4, is_fork_5, is_fork_6, is_fork_7, swap_1, swap_2, swap_3, swap_4, is_swap_1, is_swap_2, is_swap_3, is_swap_4}
use Rattle.examples_moments.proofs.PlacedLaws.{one_record, one_undamaged, two_undamaged}
use Rattle.examples_moments.proofs.RelinkOpened.{second_named, over_second, first_image, second_image, base_image}
use Rattle.examples_moments.proofs.SwapExample.{filled_size, filled_parent, parent_image, leaf_image, below_image}
use Rattle.examples_moments.proofs.WorkedLaws.{child_size}
use Rattle.examples_moments.proofs.WorkedSound.{sound, recorded, written_out, saying, saying_top, saying_child, ap₃, valid, images_of, kept, is_under, children_are, free, chain_top, chain_up, top_right, child_right, over_right}

-- ---- the entries' conditions, where it is known what the images say

-- an image that is not there, and one that is new
absent : (c : Content) (u : List ℕ) → rows c.table (Vhd u) ≡ None → image_of c (Vhd u) ≡ None
unfolding image_of
absent c u is = ap (λ (o : Option Row). o >>= (λ r. if r.fresh then None else vhd_image c (Vhd u) r)) is

unfilled : (c : Content) (u : List ℕ) (place : ℕ) → rows c.table (Vhd u) ≡ Some (fresh_row (Vhd u) place) → image_of c (Vhd u) ≡ None
unfolding image_of
unfilled c u place is = ap (λ (o : Option Row). o >>= (λ r. if r.fresh then None else vhd_image c (Vhd u) r)) is

-- the new images of a fork, and the children of its base
abbrev fork_right : VolumeTable → Option Image → Option Image → List Row → Bool
fork_right t o p rs =
    not (is_fork_made t first base second)
    || (is_base_of base (link_of o) && (is_base_of base (link_of p) && (length (filter (λ (r : Row). not (same_image r.name (Vhd first) || same_image r.name (Vhd second))) rs) == 0)))

fork_linked : (c : Content) (o p : Option Image) (os : List (Option Image)) → images_of c ≡ os → image_of c (Vhd first) ≡ o → image_of c (Vhd second) ≡ p
    → fork_right c.table o p (kept (is_under (Vhd base)) c.table.volumes os ++ kept (is_under (Raw base)) c.table.volumes os) ≡ true
    → not (is_entry_linked (outline c) (Clone first base second)) ≡ false
unfolding is_entry_linked
fork_linked c o p os are is_first is_second right =
    ap₂ (λ v w. not (fork_right c.table v w (children_with (outline c) base))) is_first is_second
    ∙ ap₂ (λ xs ys. not (fork_right c.table o p (xs ++ ys))) (children_are c os (Vhd base) are) (children_are c os (Raw base) are)
    ∙ ap not right

-- the image of a leaf, and the children of its parent and of the leaf
abbrev leaf_right : VolumeTable → Option Image → List Row → List Row → Bool
leaf_right t o below above =
    if is_leaf_copied t first base then is_under (Vhd base) o && (length below == 1)
    else if is_leaf_renamed t first base then length below == 0
    else if is_leaf_swapped t first base then length above == 0
    else true

leaf_linked : (c : Content) (o : Option Image) (os : List (Option Image)) → images_of c ≡ os → image_of c (Vhd first) ≡ o
    → leaf_right c.table o (kept (is_under (Vhd base)) c.table.volumes os) (kept (is_under (Vhd first)) c.table.volumes os) ≡ true
    → not (is_entry_linked (outline c) (Leaf first base)) ≡ false
unfolding is_entry_linked
leaf_linked c o os are is_first right =
    ap (λ v. not (leaf_right c.table v (children (outline c) (Vhd base)) (children (outline c) (Vhd first)))) is_first
    ∙ ap₂ (λ xs ys. not (leaf_right c.table o xs ys)) (children_are c os (Vhd base) are) (children_are c os (Vhd first) are)
    ∙ ap not right

-- ---- the fork

abbrev pub early : VolumeTable → Content
early t = content_with t (fork_area (first_record ∷ []))

abbrev pub late : VolumeTable → Content
late t = content_with t (fork_area (first_record ∷ second_record ∷ []))

-- without a parent
written_top : (t : VolumeTable) (rs : List Record) (u : List ℕ) (hidden : Bool) → rows t (Vhd u) ≡ Some (image_row hidden (Vhd u) 16) → image_extents (making t) (Vhd u) 5 ≡ 5
    → image_of (content_with t (fork_area rs)) (Vhd u) ≡ Some (written_out None (top 17))
written_top t rs u hidden there whole = saying_top (content_with t (fork_area rs)) (Vhd u) 17 (disk_image t rs u hidden (Vhd u) there whole)

pub early_undamaged : (t : VolumeTable) → HasRecords t → record_fault (outline (early t)) ≡ None
early_undamaged t there = one_undamaged t (top_image 17) (empty_child (Vhd base)) (empty_child (Vhd base)) first_record there first_right

pub late_undamaged : (t : VolumeTable) → HasRecords t → record_fault (outline (late t)) ≡ None
late_undamaged t there = two_undamaged t (top_image 17) (empty_child (Vhd base)) (empty_child (Vhd base)) first_record second_record there first_right second_right

pub early_records : (t : VolumeTable) → HasRecords t → records (early t) ≡ first_record ∷ []
early_records t there = one_record t (top_image 17) (empty_child (Vhd base)) (empty_child (Vhd base)) first_record there first_right

-- the entry was made
first_1 : image_of (early fork_1) (Vhd first) ≡ Some (written_out None (top 17))
unfolding row_of name_eq
first_1 = written_top fork_1 (first_record ∷ []) first false refl refl

images_1 : images_of (early fork_1) ≡ None ∷ Some (written_out None (top 17)) ∷ None ∷ []
unfolding image_of
images_1 = ap (λ o. None ∷ o ∷ None ∷ []) first_1

sound_1 : first_fault (early fork_1) ≡ None
unfolding record_volume_fault too_many_fault misnamed_fault second_entry_fault lost_entry_fault old_leaf_fault first_name is_at_stage is_entry_linked row_of name_eq is_base numbers record_extents div_up same_image standing_volume uuids with_uuid in_order image_with
sound_1 = sound (early fork_1) (record {
  table = refl;
  invalid = (refl, (valid first_1, (refl, tt)));
  tree = (refl, (top_right (early fork_1) first false 16 (top 17) first_1 (free (early fork_1) _ first false images_1 refl), (refl, tt)));
  entry_link = (refl, (refl, (refl, tt)));
  records = early_undamaged fork_1 refl;
  disks = recorded (early fork_1) (first_record ∷ []) (early_records fork_1 refl) refl;
})

pub entry_made_sound : first_fault (forking_at 1) ≡ None
entry_made_sound = ap (λ t. first_fault (early t)) is_fork_1 ∙ sound_1

-- the disk's image is the base
base_2 : image_of (early fork_2) (Vhd base) ≡ Some (written_out None (top 17))
unfolding row_of name_eq
base_2 = written_top fork_2 (first_record ∷ []) base false refl refl

images_2 : images_of (early fork_2) ≡ None ∷ Some (written_out None (top 17)) ∷ None ∷ []
unfolding image_of
images_2 = ap (λ o. None ∷ o ∷ None ∷ []) base_2

sound_2 : first_fault (early fork_2) ≡ None
unfolding record_volume_fault too_many_fault misnamed_fault second_entry_fault lost_entry_fault old_leaf_fault first_name is_at_stage is_entry_linked row_of name_eq is_base numbers record_extents div_up same_image standing_volume uuids with_uuid in_order image_with
sound_2 = sound (early fork_2) (record {
  table = refl;
  invalid = (refl, (valid base_2, (refl, tt)));
  tree = (refl, (top_right (early fork_2) base false 16 (top 17) base_2 (free (early fork_2) _ base false images_2 refl), (refl, tt)));
  entry_link = (refl, (refl, (fork_linked (early fork_2) _ _ _ images_2 (absent (early fork_2) first refl) (absent (early fork_2) second refl) refl, tt)));
  records = early_undamaged fork_2 refl;
  disks = recorded (early fork_2) (first_record ∷ []) (early_records fork_2 refl) refl;
})

pub renamed_sound : first_fault (forking_at 2) ≡ None
renamed_sound = ap (λ t. first_fault (early t)) is_fork_2 ∙ sound_2

-- the base is hidden
base_3 : image_of (early fork_3) (Vhd base) ≡ Some (written_out None (top 17))
unfolding row_of name_eq
base_3 = written_top fork_3 (first_record ∷ []) base true refl refl

images_3 : images_of (early fork_3) ≡ None ∷ Some (written_out None (top 17)) ∷ None ∷ []
unfolding image_of
images_3 = ap (λ o. None ∷ o ∷ None ∷ []) base_3

sound_3 : first_fault (early fork_3) ≡ None
unfolding record_volume_fault too_many_fault misnamed_fault second_entry_fault lost_entry_fault old_leaf_fault first_name is_at_stage is_entry_linked row_of name_eq is_base numbers record_extents div_up same_image standing_volume uuids with_uuid in_order image_with
sound_3 = sound (early fork_3) (record {
  table = refl;
  invalid = (refl, (valid base_3, (refl, tt)));
  tree = (refl, (top_right (early fork_3) base true 16 (top 17) base_3 refl, (refl, tt)));
  entry_link = (refl, (refl, (fork_linked (early fork_3) _ _ _ images_3 (absent (early fork_3) first refl) (absent (early fork_3) second refl) refl, tt)));
  records = early_undamaged fork_3 refl;
  disks = recorded (early fork_3) (first_record ∷ []) (early_records fork_3 refl) refl;
})

pub base_hidden_sound : first_fault (forking_at 3) ≡ None
base_hidden_sound = ap (λ t. first_fault (early t)) is_fork_3 ∙ sound_3

-- the disk's new image is there
first_4 : image_of (early fork_4) (Vhd first) ≡ None
unfolding row_of name_eq
first_4 = unfilled (early fork_4) first 21 refl

base_4 : image_of (early fork_4) (Vhd base) ≡ Some (written_out None (top 17))
unfolding row_of name_eq
base_4 = written_top fork_4 (first_record ∷ []) base true refl refl

images_4 : images_of (early fork_4) ≡ None ∷ None ∷ Some (written_out None (top 17)) ∷ None ∷ []
unfolding image_of
images_4 = ap₂ (λ o q. None ∷ o ∷ q ∷ None ∷ []) first_4 base_4

sound_4 : first_fault (early fork_4) ≡ None
unfolding record_volume_fault too_many_fault misnamed_fault second_entry_fault lost_entry_fault old_leaf_fault first_name is_at_stage is_entry_linked row_of name_eq is_base numbers record_extents div_up same_image standing_volume uuids with_uuid in_order image_with
sound_4 = sound (early fork_4) (record {
  table = refl;
  invalid = (refl, (refl, (valid base_4, (refl, tt))));
  tree = (refl, (ap (λ o. is_misplaced (outline (early fork_4)) (fresh_row (Vhd first) 21) (link_of o)) first_4, (top_right (early fork_4) base true 16 (top 17) base_4 refl, (refl, tt))));
  entry_link = (refl, (refl, (refl, (fork_linked (early fork_4) _ _ _ images_4 first_4 (absent (early fork_4) second refl) refl, tt))));
  records = early_undamaged fork_4 refl;
  disks = recorded (early fork_4) (first_record ∷ []) (early_records fork_4 refl) refl;
})

pub disk_made_sound : first_fault (forking_at 4) ≡ None
disk_made_sound = ap (λ t. first_fault (early t)) is_fork_4 ∙ sound_4

-- the twin's is there too
first_5 : image_of (early fork_5) (Vhd first) ≡ None
unfolding row_of name_eq
first_5 = unfilled (early fork_5) first 21 refl

second_5 : image_of (early fork_5) (Vhd second) ≡ None
unfolding row_of name_eq
second_5 = unfilled (early fork_5) second 26 refl

base_5 : image_of (early fork_5) (Vhd base) ≡ Some (written_out None (top 17))
unfolding row_of name_eq
base_5 = written_top fork_5 (first_record ∷ []) base true refl refl

images_5 : images_of (early fork_5) ≡ None ∷ None ∷ None ∷ Some (written_out None (top 17)) ∷ None ∷ []
unfolding image_of
images_5 = ap₃ (λ o p q. None ∷ o ∷ p ∷ q ∷ None ∷ []) first_5 second_5 base_5

sound_5 : first_fault (early fork_5) ≡ None
unfolding record_volume_fault too_many_fault misnamed_fault second_entry_fault lost_entry_fault old_leaf_fault first_name is_at_stage is_entry_linked row_of name_eq is_base numbers record_extents div_up same_image standing_volume uuids with_uuid in_order image_with
sound_5 = sound (early fork_5) (record {
  table = refl;
  invalid = (refl, (refl, (refl, (valid base_5, (refl, tt)))));
  tree = (refl, (ap (λ o. is_misplaced (outline (early fork_5)) (fresh_row (Vhd first) 21) (link_of o)) first_5, (ap (λ o. is_misplaced (outline (early fork_5)) (fresh_row (Vhd second) 26) (link_of o)) second_5, (top_right (early fork_5) base true 16 (top 17) base_5 refl, (refl, tt)))));
  entry_link = (refl, (refl, (refl, (refl, (fork_linked (early fork_5) _ _ _ images_5 first_5 second_5 refl, tt)))));
  records = early_undamaged fork_5 refl;
  disks = recorded (early fork_5) (first_record ∷ []) (early_records fork_5 refl) refl;
})

pub twin_made_sound : first_fault (forking_at 5) ≡ None
twin_made_sound = ap (λ t. first_fault (early t)) is_fork_5 ∙ sound_5

-- the disk's is filled
first_6 : image_of (late fork_6) (Vhd first) ≡ Some (written_out (Some (Vhd base)) child)
unfolding row_of name_eq
first_6 = saying_child (late fork_6) (Vhd first) (first_child fork_6 (first_record ∷ second_record ∷ []) (Vhd first) refl refl)

second_6 : image_of (late fork_6) (Vhd second) ≡ None
unfolding row_of name_eq
second_6 = unfilled (late fork_6) second 26 refl

base_6 : image_of (late fork_6) (Vhd base) ≡ Some (written_out None (top 17))
unfolding row_of name_eq
base_6 = written_top fork_6 (first_record ∷ second_record ∷ []) base true refl refl

images_6 : images_of (late fork_6) ≡ None ∷ Some (written_out (Some (Vhd base)) child) ∷ None ∷ Some (written_out None (top 17)) ∷ None ∷ []
unfolding image_of
images_6 = ap₃ (λ o p q. None ∷ o ∷ p ∷ q ∷ None ∷ []) first_6 second_6 base_6

sound_6 : first_fault (late fork_6) ≡ None
unfolding record_volume_fault too_many_fault misnamed_fault second_entry_fault lost_entry_fault old_leaf_fault first_name is_at_stage is_entry_linked row_of name_eq is_base numbers record_extents div_up same_image standing_volume uuids with_uuid in_order image_with
sound_6 = sound (late fork_6) (record {
  table = refl;
  invalid = (refl, (valid first_6, (refl, (valid base_6, (refl, tt)))));
  tree = (refl, (over_right (late fork_6) first base false 21 child (top 17) first_6 refl base_6 (free (late fork_6) _ first false images_6 refl), (ap (λ o. is_misplaced (outline (late fork_6)) (fresh_row (Vhd second) 26) (link_of o)) second_6, (top_right (late fork_6) base true 16 (top 17) base_6 refl, (refl, tt)))));
  entry_link = (refl, (refl, (refl, (refl, (fork_linked (late fork_6) _ _ _ images_6 first_6 second_6 refl, tt)))));
  records = late_undamaged fork_6 refl;
  disks = recorded (late fork_6) (first_record ∷ second_record ∷ []) (records_two fork_6 refl) refl;
})

pub disk_filled_sound : first_fault (filled_at 6) ≡ None
disk_filled_sound = ap (λ t. first_fault (late t)) is_fork_6 ∙ sound_6

-- the twin's is filled too
first_7 : image_of (late fork_7) (Vhd first) ≡ Some (written_out (Some (Vhd base)) child)
unfolding row_of name_eq
first_7 = saying_child (late fork_7) (Vhd first) (first_child fork_7 (first_record ∷ second_record ∷ []) (Vhd first) refl refl)

second_7 : image_of (late fork_7) (Vhd second) ≡ Some (written_out (Some (Vhd base)) child)
unfolding row_of name_eq
second_7 = saying_child (late fork_7) (Vhd second) (second_child fork_7 (first_record ∷ second_record ∷ []) false (Vhd second) refl refl)

base_7 : image_of (late fork_7) (Vhd base) ≡ Some (written_out None (top 17))
unfolding row_of name_eq
base_7 = written_top fork_7 (first_record ∷ second_record ∷ []) base true refl refl

images_7 : images_of (late fork_7) ≡ None ∷ Some (written_out (Some (Vhd base)) child) ∷ Some (written_out (Some (Vhd base)) child) ∷ Some (written_out None (top 17)) ∷ None ∷ []
unfolding image_of
images_7 = ap₃ (λ o p q. None ∷ o ∷ p ∷ q ∷ None ∷ []) first_7 second_7 base_7

sound_7 : first_fault (late fork_7) ≡ None
unfolding record_volume_fault too_many_fault misnamed_fault second_entry_fault lost_entry_fault old_leaf_fault first_name is_at_stage is_entry_linked row_of name_eq is_base numbers record_extents div_up same_image standing_volume uuids with_uuid in_order image_with
sound_7 = sound (late fork_7) (record {
  table = refl;
  invalid = (refl, (valid first_7, (valid second_7, (valid base_7, (refl, tt)))));
  tree = (refl, (over_right (late fork_7) first base false 21 child (top 17) first_7 refl base_7 (free (late fork_7) _ first false images_7 refl), (over_right (late fork_7) second base false 26 child (top 17) second_7 refl base_7 (free (late fork_7) _ second false images_7 refl), (top_right (late fork_7) base true 16 (top 17) base_7 refl, (refl, tt)))));
  entry_link = (refl, (refl, (refl, (refl, (fork_linked (late fork_7) _ _ _ images_7 first_7 second_7 refl, tt)))));
  records = late_undamaged fork_7 refl;
  disks = recorded (late fork_7) (first_record ∷ second_record ∷ []) (records_two fork_7 refl) refl;
})

pub twin_filled_sound : first_fault (filled_at 7) ≡ None
twin_filled_sound = ap (λ t. first_fault (late t)) is_fork_7 ∙ sound_7

-- ---- the swap

abbrev swap_at : VolumeTable → Content
swap_at t = content_with t swap_area

-- the parent, under whatever name
written_parent : (t : VolumeTable) (u : List ℕ) (hidden : Bool) → rows t (Vhd u) ≡ Some (image_row hidden (Vhd u) 16) → image_extents (making t) (Vhd u) 5 ≡ 5
    → image_of (swap_at t) (Vhd u) ≡ Some (written_out None (top 34))
written_parent t u hidden there whole = saying_top (swap_at t) (Vhd u) 34 (parent_image t u hidden (Vhd u) there whole)

leaf_undamaged : (t : VolumeTable) (byte : ℕ) → HasRecords t → record_fault (outline (content_with t (leaf_area byte))) ≡ None
leaf_undamaged t byte there = one_undamaged t (top_image byte) (filled_child (Vhd base) 34) (empty_child (Vhd base)) first_record there first_right

leaf_records : (t : VolumeTable) (byte : ℕ) → HasRecords t → records (content_with t (leaf_area byte)) ≡ first_record ∷ []
leaf_records t byte there = one_record t (top_image byte) (filled_child (Vhd base) 34) (empty_child (Vhd base)) first_record there first_right

-- before the swap, whatever byte the parent's sector is of
abbrev leaf_at : ℕ → Content
leaf_at byte = content_with leaf_copied (leaf_area byte)

leaf_images : (byte : ℕ) → image_of (leaf_at byte) (Vhd first) ≡ Some (written_out (Some (Vhd base)) (filled 34)) → image_of (leaf_at byte) (Vhd base) ≡ Some (written_out None (top byte))
    → images_of (leaf_at byte) ≡ None ∷ Some (written_out (Some (Vhd base)) (filled 34)) ∷ Some (written_out None (top byte)) ∷ None ∷ []
unfolding image_of
leaf_images byte leaf parent = ap₂ (λ o p. None ∷ o ∷ p ∷ None ∷ []) leaf parent

leaf_sound : (byte : ℕ) → image_of (leaf_at byte) (Vhd first) ≡ Some (written_out (Some (Vhd base)) (filled 34)) → image_of (leaf_at byte) (Vhd base) ≡ Some (written_out None (top byte))
    → first_fault (leaf_at byte) ≡ None
unfolding record_volume_fault too_many_fault misnamed_fault second_entry_fault lost_entry_fault old_leaf_fault first_name is_at_stage is_entry_linked row_of name_eq is_base numbers record_extents div_up same_image standing_volume uuids with_uuid in_order image_with
leaf_sound byte leaf parent = sound (leaf_at byte) (record {
  table = refl;
  invalid = (refl, (valid leaf, (valid parent, (refl, tt))));
  tree = (refl, (over_right (leaf_at byte) first base false 21 (filled 34) (top byte) leaf refl parent (free (leaf_at byte) _ first false (leaf_images byte leaf parent) refl), (top_right (leaf_at byte) base true 16 (top byte) parent refl, (refl, tt))));
  entry_link = (refl, (refl, (refl, (leaf_linked (leaf_at byte) _ _ (leaf_images byte leaf parent) leaf refl, tt))));
  records = leaf_undamaged leaf_copied byte refl;
  disks = recorded (leaf_at byte) (first_record ∷ []) (leaf_records leaf_copied byte refl) refl;
})

saying_filled : (c : Content) → image_of c (Vhd first) ≡ Some (filled 34) → image_of c (Vhd first) ≡ Some (written_out (Some (Vhd base)) (filled 34))
saying_filled c is = saying c (Vhd first) (Some (Vhd base)) (filled 34) is (filled_parent 34) (filled_size 34)

pub uncopied_sound : first_fault uncopied ≡ None
uncopied_sound = leaf_sound 17 (saying_filled uncopied uncopied_leaf) (saying_top uncopied (Vhd base) 17 uncopied_base)

pub unswapped_sound : first_fault (swapping_at 0) ≡ None
unswapped_sound = leaf_sound 34 (saying_filled (leaf_at 34) leaf_image) (saying_top (leaf_at 34) (Vhd base) 34 below_image)

-- the leaf was renamed
parent_1 : image_of (swap_at swap_1) (Vhd base) ≡ Some (written_out None (top 34))
unfolding row_of name_eq
parent_1 = written_parent swap_1 base true refl refl

swap_images_1 : images_of (swap_at swap_1) ≡ None ∷ None ∷ Some (written_out None (top 34)) ∷ None ∷ []
unfolding image_of
swap_images_1 = ap (λ o. None ∷ None ∷ o ∷ None ∷ []) parent_1

swap_sound_1 : first_fault (swap_at swap_1) ≡ None
unfolding record_volume_fault too_many_fault misnamed_fault second_entry_fault lost_entry_fault old_leaf_fault first_name is_at_stage is_entry_linked row_of name_eq is_base numbers record_extents div_up same_image standing_volume uuids with_uuid in_order image_with
swap_sound_1 = sound (swap_at swap_1) (record {
  table = refl;
  invalid = (refl, (refl, (valid parent_1, (refl, tt))));
  tree = (refl, (refl, (top_right (swap_at swap_1) base true 16 (top 34) parent_1 refl, (refl, tt))));
  entry_link = (refl, (refl, (refl, (leaf_linked (swap_at swap_1) _ _ swap_images_1 (absent (swap_at swap_1) first refl) refl, tt))));
  records = leaf_undamaged swap_1 34 refl;
  disks = recorded (swap_at swap_1) (first_record ∷ []) (leaf_records swap_1 34 refl) refl;
})

pub leaf_renamed_sound : first_fault (swapping_at 1) ≡ None
leaf_renamed_sound = ap (λ t. first_fault (swap_at t)) is_swap_1 ∙ swap_sound_1

-- the parent has the leaf's name
parent_2 : image_of (swap_at swap_2) (Vhd first) ≡ Some (written_out None (top 34))
unfolding row_of name_eq
parent_2 = written_parent swap_2 first true refl refl

swap_images_2 : images_of (swap_at swap_2) ≡ None ∷ None ∷ Some (written_out None (top 34)) ∷ None ∷ []
unfolding image_of
swap_images_2 = ap (λ o. None ∷ None ∷ o ∷ None ∷ []) parent_2

swap_sound_2 : first_fault (swap_at swap_2) ≡ None
unfolding record_volume_fault too_many_fault misnamed_fault second_entry_fault lost_entry_fault old_leaf_fault first_name is_at_stage is_entry_linked row_of name_eq is_base numbers record_extents div_up same_image standing_volume uuids with_uuid in_order image_with
swap_sound_2 = sound (swap_at swap_2) (record {
  table = refl;
  invalid = (refl, (refl, (valid parent_2, (refl, tt))));
  tree = (refl, (refl, (top_right (swap_at swap_2) first true 16 (top 34) parent_2 refl, (refl, tt))));
  entry_link = (refl, (refl, (refl, (leaf_linked (swap_at swap_2) _ _ swap_images_2 parent_2 refl, tt))));
  records = leaf_undamaged swap_2 34 refl;
  disks = recorded (swap_at swap_2) (first_record ∷ []) (leaf_records swap_2 34 refl) refl;
})

pub parent_renamed_sound : first_fault (swapping_at 2) ≡ None
parent_renamed_sound = ap (λ t. first_fault (swap_at t)) is_swap_2 ∙ swap_sound_2

-- it is not hidden
parent_3 : image_of (swap_at swap_3) (Vhd first) ≡ Some (written_out None (top 34))
unfolding row_of name_eq
parent_3 = written_parent swap_3 first false refl refl

swap_images_3 : images_of (swap_at swap_3) ≡ None ∷ None ∷ Some (written_out None (top 34)) ∷ None ∷ []
unfolding image_of
swap_images_3 = ap (λ o. None ∷ None ∷ o ∷ None ∷ []) parent_3

swap_sound_3 : first_fault (swap_at swap_3) ≡ None
unfolding record_volume_fault too_many_fault misnamed_fault second_entry_fault lost_entry_fault old_leaf_fault first_name is_at_stage is_entry_linked row_of name_eq is_base numbers record_extents div_up same_image standing_volume uuids with_uuid in_order image_with
swap_sound_3 = sound (swap_at swap_3) (record {
  table = refl;
  invalid = (refl, (refl, (valid parent_3, (refl, tt))));
  tree = (refl, (refl, (top_right (swap_at swap_3) first false 16 (top 34) parent_3 (free (swap_at swap_3) _ first false swap_images_3 refl), (refl, tt))));
  entry_link = (refl, (refl, (refl, (leaf_linked (swap_at swap_3) _ _ swap_images_3 parent_3 refl, tt))));
  records = leaf_undamaged swap_3 34 refl;
  disks = recorded (swap_at swap_3) (first_record ∷ []) (leaf_records swap_3 34 refl) refl;
})

pub parent_shown_sound : first_fault (swapping_at 3) ≡ None
parent_shown_sound = ap (λ t. first_fault (swap_at t)) is_swap_3 ∙ swap_sound_3

-- the old leaf is gone
parent_4 : image_of (swap_at swap_4) (Vhd first) ≡ Some (written_out None (top 34))
unfolding row_of name_eq
parent_4 = written_parent swap_4 first false refl refl

swap_images_4 : images_of (swap_at swap_4) ≡ None ∷ Some (written_out None (top 34)) ∷ None ∷ []
unfolding image_of
swap_images_4 = ap (λ o. None ∷ o ∷ None ∷ []) parent_4

swap_sound_4 : first_fault (swap_at swap_4) ≡ None
unfolding record_volume_fault too_many_fault misnamed_fault second_entry_fault lost_entry_fault old_leaf_fault first_name is_at_stage is_entry_linked row_of name_eq is_base numbers record_extents div_up same_image standing_volume uuids with_uuid in_order image_with
swap_sound_4 = sound (swap_at swap_4) (record {
  table = refl;
  invalid = (refl, (valid parent_4, (refl, tt)));
  tree = (refl, (top_right (swap_at swap_4) first false 16 (top 34) parent_4 (free (swap_at swap_4) _ first false swap_images_4 refl), (refl, tt)));
  entry_link = (refl, (refl, (leaf_linked (swap_at swap_4) _ _ swap_images_4 parent_4 refl, tt)));
  records = leaf_undamaged swap_4 34 refl;
  disks = recorded (swap_at swap_4) (first_record ∷ []) (leaf_records swap_4 34 refl) refl;
})

pub leaf_removed_sound : first_fault (swapping_at 4) ≡ None
leaf_removed_sound = ap (λ t. first_fault (swap_at t)) is_swap_4 ∙ swap_sound_4

-- ---- the relink

relink_first : image_of relinking (Vhd first) ≡ Some (written_out (Some (Vhd second)) (empty_over second))
relink_first = saying relinking (Vhd first) (Some (Vhd second)) (empty_over second) first_image over_second (child_size (Vhd second) (table_of []) empty second_named refl)

relink_second : image_of relinking (Vhd second) ≡ Some (written_out (Some (Vhd base)) (empty_over base))
relink_second = saying_child relinking (Vhd second) second_image

relink_base : image_of relinking (Vhd base) ≡ Some (written_out None (top 17))
relink_base = saying_top relinking (Vhd base) 17 base_image

relink_images : images_of relinking ≡ None ∷ Some (written_out (Some (Vhd second)) (empty_over second)) ∷ Some (written_out (Some (Vhd base)) (empty_over base)) ∷ Some (written_out None (top 17)) ∷ None ∷ []
unfolding image_of
relink_images = ap₃ (λ o p q. None ∷ o ∷ p ∷ q ∷ None ∷ []) relink_first relink_second relink_base

relink_depth : chain_length (outline relinking) 31 (Vhd first) ≡ 3
relink_depth =
    chain_up relinking 30 (Vhd first) (Vhd second) (empty_over second) relink_first
    ∙ ap (λ d. suc d) (chain_up relinking 29 (Vhd second) (Vhd base) (empty_over base) relink_second ∙ ap (λ d. suc d) (chain_top relinking 28 (Vhd base) (top 17) relink_base))

relink_linked : (c : Content) → image_of c (Vhd second) ≡ Some (written_out (Some (Vhd base)) (empty_over base)) → image_of c (Vhd base) ≡ Some (written_out None (top 17))
    → not (is_entry_linked (outline c) (Relink second base)) ≡ false
unfolding is_entry_linked same_image
relink_linked c hidden below =
    ap (λ o. not (of_image (λ v. has_such_parent (outline c) base (λ p. nat_le v.size p.size) v.parent) (link_of o))) hidden
    ∙ ap (λ o. not (of_image (λ p. nat_le 128 p.size) (link_of o))) below

pub relink_sound : first_fault relinking ≡ None
unfolding record_volume_fault too_many_fault misnamed_fault second_entry_fault lost_entry_fault old_leaf_fault first_name is_at_stage is_entry_linked row_of name_eq is_base numbers record_extents div_up same_image standing_volume uuids with_uuid in_order image_with
relink_sound = sound relinking (record {
  table = refl;
  invalid = (refl, (valid relink_first, (valid relink_second, (valid relink_base, (refl, tt)))));
  tree =
      let disk = child_right relinking first second false 21 (empty_over second) (empty_over base) (Some (Vhd base)) relink_first refl relink_second (ap (λ d. nat_le d 30) relink_depth) (free relinking _ first false relink_images refl) in
      let middle = over_right relinking second base true 26 (empty_over base) (top 17) relink_second refl relink_base refl in
      (refl, (disk, (middle, (top_right relinking base true 16 (top 17) relink_base refl, (refl, tt)))));
  entry_link = (refl, (refl, (refl, (refl, (relink_linked relinking relink_second relink_base, tt)))));
  records = one_undamaged relink_table (top_image 17) (empty_child (Vhd second)) (empty_child (Vhd base)) first_record refl first_right;
  disks = recorded relinking (first_record ∷ []) (one_record relink_table (top_image 17) (empty_child (Vhd second)) (empty_child (Vhd base)) first_record refl first_right) refl;
})

-- the disk was linked to the base
linked_first : image_of (early relink_table) (Vhd first) ≡ Some (written_out (Some (Vhd base)) child)
linked_first = saying_child (early relink_table) (Vhd first) linked_over_base

linked_second : image_of (early relink_table) (Vhd second) ≡ Some (written_out (Some (Vhd base)) child)
linked_second = saying_child (early relink_table) (Vhd second) linked_hidden

linked_base : image_of (early relink_table) (Vhd base) ≡ Some (written_out None (top 17))
linked_base = saying_top (early relink_table) (Vhd base) 17 linked_below

linked_images : images_of (early relink_table) ≡ None ∷ Some (written_out (Some (Vhd base)) child) ∷ Some (written_out (Some (Vhd base)) child) ∷ Some (written_out None (top 17)) ∷ None ∷ []
unfolding image_of
linked_images = ap₃ (λ o p q. None ∷ o ∷ p ∷ q ∷ None ∷ []) linked_first linked_second linked_base

pub linked_sound : first_fault (relinked_at 0) ≡ None
unfolding record_volume_fault too_many_fault misnamed_fault second_entry_fault lost_entry_fault old_leaf_fault first_name is_at_stage is_entry_linked row_of name_eq is_base numbers record_extents div_up same_image standing_volume uuids with_uuid in_order image_with
linked_sound = sound (early relink_table) (record {
  table = refl;
  invalid = (refl, (valid linked_first, (valid linked_second, (valid linked_base, (refl, tt)))));
  tree =
      let disk = over_right (early relink_table) first base false 21 child (top 17) linked_first refl linked_base (free (early relink_table) _ first false linked_images refl) in
      let hidden = over_right (early relink_table) second base true 26 child (top 17) linked_second refl linked_base refl in
      (refl, (disk, (hidden, (top_right (early relink_table) base true 16 (top 17) linked_base refl, (refl, tt)))));
  entry_link = (refl, (refl, (refl, (refl, (relink_linked (early relink_table) linked_second linked_base, tt)))));
  records = early_undamaged relink_table refl;
  disks = recorded (early relink_table) (first_record ∷ []) (early_records relink_table refl) refl;
})
