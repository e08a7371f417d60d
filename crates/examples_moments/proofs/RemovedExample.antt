-- The end of the worked relink: the hidden image past which the disk was linked is removed.
use Rattle.std.proofs.Common.{◌≡◌, ◌≢◌, ℕ, ◌*◌, true, cond, List, [], ◌∷◌, length, Some, None, refl, sym, ap, ap₂, ◌∙◌, subst}
use Rattle.std.specs.List.{find, filter_map, cons_option}
use Rattle.sm_base.specs.declared.names.Name.{Name}
use Rattle.sm_base.specs.declared.names.Name.TheVariants.{Vhd, Raw}
use Rattle.common_laws.specs.Lists.{◌>>=◌}
use Rattle.sm_machine.specs.Shapes.{same_image}
use Rattle.vg_meta.specs.Changes.{without}
use Rattle.vg_meta.specs.Tables.{Row, VolumeTable, rows, row_of, name_eq, extents_of}
use Rattle.vg_meta.proofs.RowLaws.{row_of-without_other}
use Rattle.vg_volumes.specs.Volumes.{piece, span}
use Rattle.vhd_layout.specs.Contents.{raw_content}
use Rattle.vhd_layout.specs.Readings.{image_at}
use Rattle.sm_standing.specs.Changes.{IsRemoved}
use Rattle.sm_standing.specs.Checks.{children}
use Rattle.sm_standing.specs.Outlines.{outline}
use Rattle.sm_standing.specs.Contents.{Content, is_record_of, sectors_of}
use Rattle.sm_standing.specs.Entries.{making}
use Rattle.sm_standing.specs.Images.{image_of, image_extents, vhd_image, raw_image}
use Rattle.sm_standing.specs.Standing.{standing_volume, disks, disk_at, uuids, with_uuid, in_order}
use Rattle.sm_standing.proofs.ImageLaws.{removed_disks, childless_parent}
use Rattle.examples_moments.specs.Moments.{top, child, empty_over, written, disk_of}
use Rattle.examples_moments.specs.Worked.{first, second, base, first_record, content_with, image_row, fork_area, relinking, relinked_at, still_linked}
use Rattle.sm_standing.proofs.ApartLaws.{none_disk}
use Rattle.examples_moments.proofs.ForkExample.{HasRecords, disk_image, first_child, second_child, recorded_one, unforked_records}
use Rattle.examples_moments.proofs.ForkMoments.{relink_1, relink_2, is_relink_1, is_relink_2}
use Rattle.examples_moments.proofs.RelinkOpened.{over_hidden, over_second}
use Rattle.examples_moments.proofs.WorkedDisks.{child_sectors, shown}
use Rattle.examples_moments.proofs.WorkedSound.{written_out, saying_top, saying_child, ap₃, images_of, children_are}

abbrev at_table : VolumeTable → Content
at_table t = content_with t (fork_area (first_record ∷ []))

-- ---- its images

base_image : image_of (at_table relink_1) (Vhd base) ≡ Some (top 17)
unfolding row_of name_eq
base_image = disk_image relink_1 (first_record ∷ []) base true (Vhd base) refl refl

first_image : image_of (at_table relink_1) (Vhd first) ≡ Some child
unfolding row_of name_eq
first_image = first_child relink_1 (first_record ∷ []) (Vhd first) refl refl

second_image : image_of (at_table relink_1) (Vhd second) ≡ Some child
unfolding row_of name_eq
second_image = second_child relink_1 (first_record ∷ []) true (Vhd second) refl refl

pub hidden_image : image_of (relinked_at 1) (Vhd second) ≡ Some child
hidden_image = ap (λ t. image_of (at_table t) (Vhd second)) is_relink_1 ∙ second_image

images_are : images_of (at_table relink_1)
    ≡ None ∷ Some (written_out (Some (Vhd base)) child) ∷ Some (written_out (Some (Vhd base)) child) ∷ Some (written_out None (top 17)) ∷ []
unfolding image_of
images_are = ap₃ (λ o p q. None ∷ o ∷ p ∷ q ∷ [])
    (saying_child (at_table relink_1) (Vhd first) first_image) (saying_child (at_table relink_1) (Vhd second) second_image)
    (saying_top (at_table relink_1) (Vhd base) 17 base_image)

second_childless : children (outline (at_table relink_1)) (Vhd second) ≡ []
unfolding same_image
second_childless = children_are (at_table relink_1) _ (Vhd second) images_are

-- ---- all others are as they were

volumes_left : (relink_2).volumes ≡ without (Vhd second) (relink_1).volumes
unfolding without name_eq
volumes_left = refl

other_rows : (n : Name) → n ≢ Vhd second → rows relink_2 n ≡ rows relink_1 n
other_rows n other = ap (λ rs. row_of rs n) volumes_left ∙ row_of-without_other (relink_1).volumes (Vhd second) n (λ e. other (sym e))

-- where the area is the same, an image depends on the row of its volume
image_by_row : (t u : VolumeTable) (area : ℕ → List ℕ) (n : Name) → making u ≡ making t → rows u n ≡ rows t n → image_of (content_with u area) n ≡ image_of (content_with t area) n
unfolding image_of vhd_image raw_image sectors_of
image_by_row t u area (Vhd v) entries row =
    ap₂ (λ es o. o >>= (λ (r : Row). cond r.fresh None (image_at 8 64 (image_extents es (Vhd v) (length r.extents) * 32) (piece 32 (extents_of o) area)))) entries row
image_by_row t u area (Raw v) entries row =
    ap (λ o. o >>= (λ (r : Row). cond r.fresh None (Some (raw_content (span 32 (extents_of o)) (piece 32 (extents_of o) area))))) row
image_by_row t u area _ entries row = refl

has_records_1 : HasRecords relink_1
unfolding row_of name_eq
has_records_1 = refl

has_records_2 : HasRecords relink_2
unfolding row_of name_eq
has_records_2 = refl

removed_2 : IsRemoved (at_table relink_1) (at_table relink_2) (Vhd second) (image_row true (Vhd second) 26)
unfolding row_of name_eq same_image
removed_2 = record {
  name = refl;
  there = refl;
  hidden = refl;
  childless = second_childless;
  gone = refl;
  others = other_rows;
  images = λ n other. image_by_row relink_1 relink_2 (fork_area (first_record ∷ [])) n refl (other_rows n other);
  recorded = λ u. recorded_one relink_2 has_records_2 u ∙ sym (recorded_one relink_1 has_records_1 u);
  none_making = refl;
  none_folding = refl;
  still_none_making = refl;
  still_none_folding = refl;
}

pub removed : IsRemoved (relinked_at 1) (relinked_at 2) (Vhd second) (image_row true (Vhd second) 26)
removed =
    subst (λ t. IsRemoved (at_table t) (relinked_at 2) (Vhd second) (image_row true (Vhd second) 26)) (sym is_relink_1)
    (subst (λ t. IsRemoved (at_table relink_1) (at_table t) (Vhd second) (image_row true (Vhd second) 26)) (sym is_relink_2) removed_2)

-- ---- the disk

uuids_1 : uuids relink_1 ≡ first ∷ second ∷ base ∷ []
unfolding uuids with_uuid in_order
uuids_1 = refl

first_stands : standing_volume relink_1 first ≡ Some (Vhd first)
unfolding standing_volume row_of name_eq
first_stands = refl

second_stands : standing_volume relink_1 second ≡ None
unfolding standing_volume row_of name_eq
second_stands = refl

base_stands : standing_volume relink_1 base ≡ None
unfolding standing_volume row_of name_eq
base_stands = refl

disk_1 : disk_at (at_table relink_1) first ≡ Some (disk_of first_record (written 17))
disk_1 =
    shown (at_table relink_1) first (Vhd first) first_record (written 17) first_stands
    (recorded_one relink_1 has_records_1 first ∙ ap (find (is_record_of first)) unforked_records)
    (child_sectors (at_table relink_1) 17 (Vhd first) base_image first_image) refl

disks_1 : disks (at_table relink_1) ≡ disk_of first_record (written 17) ∷ []
unfolding disks
disks_1 =
    ap (filter_map (disk_at (at_table relink_1))) uuids_1
    ∙ ap (λ o. cons_option o (cons_option (disk_at (at_table relink_1) second) (cons_option (disk_at (at_table relink_1) base) []))) disk_1
    ∙ ap₂ (λ o q. disk_of first_record (written 17) ∷ cons_option o (cons_option q []))
    (none_disk (at_table relink_1) second second_stands) (none_disk (at_table relink_1) base base_stands)

pub disks_before : disks (relinked_at 1) ≡ disk_of first_record (written 17) ∷ []
disks_before = ap (λ t. disks (at_table t)) is_relink_1 ∙ disks_1

pub disks_after : disks (relinked_at 2) ≡ disk_of first_record (written 17) ∷ []
disks_after = removed_disks (relinked_at 1) (relinked_at 2) (Vhd second) (image_row true (Vhd second) 26) removed ∙ disks_before

-- ---- a parent is not removed

over_hidden_1 : image_of (content_with relink_1 relinking.area) (Vhd first) ≡ Some (empty_over second)
unfolding row_of name_eq
over_hidden_1 = over_hidden relink_1 refl refl

linked_image : image_of still_linked (Vhd first) ≡ Some (empty_over second)
linked_image = ap (λ t. image_of (content_with t relinking.area) (Vhd first)) is_relink_1 ∙ over_hidden_1

pub not_while_a_parent : (b : Content) (was : Row) → ¬ IsRemoved still_linked b (Vhd second) was
not_while_a_parent b was h = childless_parent still_linked (Vhd second) (Vhd first) (empty_over second) h.name h.childless linked_image over_second
