-- What an opening makes of the worked relink.
use Rattle.std.proofs.Common.{◌≡◌, ◌+◌, ◌*◌, true, false, List, [], ◌∷◌, Option, Some, None, refl, ap, ap₂, ◌∙◌}
use Rattle.sm_base.specs.Names.{IsName, name_cmp, spelling, uuid_text}
use Rattle.uuid.specs.Text.{by_index}
use Rattle.sm_base.specs.declared.names.Name.{Name}
use Rattle.sm_base.specs.declared.names.Name.TheVariants.{Vhd, Relink}
use Rattle.sm_machine.specs.Disks.{Disk}
use Rattle.common_laws.specs.Lists.{numbers, insert_by}
use Rattle.sm_machine.specs.Shapes.{with_image, same_image}
use Rattle.vg_meta.specs.Tables.{VolumeTable, rows, row_of, name_eq}
use Rattle.vhd_fields.specs.ParentNames.{IsParent}
use Rattle.examples_vhd.specs.SmallImages.{table_of, empty}
use Rattle.sm_standing.specs.Entries.{making, image_with}
use Rattle.sm_standing.specs.Images.{Image, image_of, image_extents}
use Rattle.examples_moments.specs.ByParts.{Work, begun, repaired, new_removed, opened_by_parts}
use Rattle.sm_standing.specs.Standing.{disks}
use Rattle.examples_moments.specs.Moments.{top, empty_over}
use Rattle.examples_moments.specs.Opened.{relinked_shape}
use Rattle.examples_moments.specs.Worked.{first, second, base, first_record, content_with, image_row, relink_table, relinking}
use Rattle.examples_moments.specs.WorkedImages.{top_image, empty_child}
use Rattle.examples_moments.proofs.ForkExample.{base_named, all_bytes}
use Rattle.examples_moments.proofs.OpenedLaws.{made_from, opened_made, volume, entry_part, with_entry}
use Rattle.examples_moments.proofs.PlacedLaws.{placed_image, area_first, area_second, area_third}
use Rattle.examples_moments.proofs.WorkedLaws.{top_valid, top_parent, empty_valid, child_parent}

pub second_named : IsParent (Some (Vhd second))
unfolding IsParent IsName
second_named = (record { long = refl; bytes = all_bytes second refl }, refl)

-- an image with another parent
abbrev pub under_parent : Option Name → Image → Image
under_parent p i = record i { parent = p }

-- the disk's image over the hidden one, in a table that has its row
pub over_hidden : (t : VolumeTable) → rows t (Vhd first) ≡ Some (image_row false (Vhd first) 21) → image_extents (making t) (Vhd first) 5 ≡ 5
    → image_of (content_with t relinking.area) (Vhd first) ≡ Some (empty_over second)
over_hidden t there whole =
    placed_image t relinking.area first false 21 (Vhd first) (empty_child (Vhd second)) there whole
    (λ s below. area_second (top_image 17) (empty_child (Vhd second)) (empty_child (Vhd base)) (first_record ∷ []) (32 * 21 + s) s refl below)
    (empty_valid (Vhd second) second_named)

pub over_second : (empty_over second).parent ≡ Some (Vhd second)
over_second = child_parent (Vhd second) (table_of []) empty second_named refl

pub first_image : image_of relinking (Vhd first) ≡ Some (empty_over second)
unfolding row_of name_eq
first_image = over_hidden relink_table refl refl

pub second_image : image_of relinking (Vhd second) ≡ Some (empty_over base)
unfolding row_of name_eq
second_image =
    placed_image relink_table relinking.area second true 26 (Vhd second) (empty_child (Vhd base)) refl refl
    (λ s below. area_third (top_image 17) (empty_child (Vhd second)) (empty_child (Vhd base)) (first_record ∷ []) (32 * 26 + s) s refl below)
    (empty_valid (Vhd base) base_named)

pub base_image : image_of relinking (Vhd base) ≡ Some (top 17)
unfolding row_of name_eq
base_image =
    placed_image relink_table relinking.area base true 16 (Vhd base) (top_image 17) refl refl
    (λ s below. area_first (top_image 17) (empty_child (Vhd second)) (empty_child (Vhd base)) (first_record ∷ []) (32 * 16 + s) s refl below) (top_valid 17)

-- each with its parent written out
pub first_linked : image_of relinking (Vhd first) ≡ Some (under_parent (Some (Vhd second)) (empty_over second))
first_linked = first_image ∙ ap (λ p. Some (under_parent p (empty_over second))) over_second

pub second_linked : image_of relinking (Vhd second) ≡ Some (under_parent (Some (Vhd base)) (empty_over base))
second_linked = second_image ∙ ap (λ p. Some (under_parent p (empty_over base))) (child_parent (Vhd base) (table_of []) empty base_named refl)

pub base_linked : image_of relinking (Vhd base) ≡ Some (under_parent None (top 17))
base_linked = base_image ∙ ap (λ p. Some (under_parent p (top 17))) (top_parent 17)

abbrev parts : Option Image → Option Image → Option Image → Work
parts o p q = with_entry 4 (volume (Vhd first) false false o ∷ volume (Vhd second) true false p ∷ volume (Vhd base) true false q ∷ entry_part (Relink second base) ∷ [])

begun_relink : begun relinking ≡ parts (image_of relinking (Vhd first)) (image_of relinking (Vhd second)) (image_of relinking (Vhd base))
unfolding image_of numbers
begun_relink = refl

-- the disk's image is linked to the base, and the entry is gone
repaired_relink : (i j k : Image)
    → repaired relink_table (parts (Some (under_parent (Some (Vhd second)) i)) (Some (under_parent (Some (Vhd base)) j)) (Some (under_parent None k)))
    ≡ with_entry 5 (volume (Vhd first) false false (Some (under_parent (Some (Vhd base)) i)) ∷ volume (Vhd second) true false (Some (under_parent (Some (Vhd base)) j)) ∷ volume (Vhd base) true false (Some (under_parent None k)) ∷ [])
unfolding new_removed row_of name_eq image_with same_image
repaired_relink i j k = refl

left_relink : (ds : List Disk)
    → made_from (with_entry 5 (volume (Vhd first) false false (Some (under_parent (Some (Vhd base)) (empty_over second))) ∷ volume (Vhd second) true false (Some (under_parent (Some (Vhd base)) (empty_over base))) ∷ volume (Vhd base) true false (Some (under_parent None (top 17))) ∷ [])) ds
    ≡ relinked_shape ds
unfolding made_from with_image insert_by name_cmp spelling uuid_text by_index
left_relink ds = refl

begun_linked : begun relinking ≡ parts (Some (under_parent (Some (Vhd second)) (empty_over second))) (Some (under_parent (Some (Vhd base)) (empty_over base))) (Some (under_parent None (top 17)))
begun_linked =
    begun_relink
    ∙ ap (λ o. parts o (image_of relinking (Vhd second)) (image_of relinking (Vhd base))) first_linked
    ∙ ap₂ (λ p q. parts (Some (under_parent (Some (Vhd second)) (empty_over second))) p q) second_linked base_linked

pub relink_opened : opened_by_parts relinking ≡ relinked_shape (disks relinking)
relink_opened =
    opened_made relink_table relinking.area refl
    ∙ ap (λ w. made_from (repaired relink_table w) (disks relinking)) begun_linked
    ∙ ap (λ w. made_from w (disks relinking)) (repaired_relink (empty_over second) (empty_over base) (top 17))
    ∙ left_relink (disks relinking)
