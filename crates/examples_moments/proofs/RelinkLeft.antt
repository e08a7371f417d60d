-- What an opening makes of the worked relink: the table without the entry is written out, and the disk is linked past the hidden image.
use Rattle.std.proofs.Common.{◌≡◌, ℕ, Bool, true, false, List, [], ◌∷◌, map, Option, Some, None, refl, ap, ap₂, ◌∙◌}
use Rattle.std.specs.List.{sum, cons_option}
use Rattle.sm_base.specs.declared.names.Name.{Name}
use Rattle.sm_base.specs.declared.names.Name.TheVariants.{Vhd, Relink}
use Rattle.sm_machine.specs.Operations.{Idle}
use Rattle.common_laws.specs.Lists.{numbers}
use Rattle.sm_machine.specs.Disks.{Disk}
use Rattle.sm_machine.specs.Shapes.{Shape, ImageRow}
use Rattle.vg_meta.specs.Changes.{without}
use Rattle.vg_meta.specs.Tables.{row_of, name_eq}
use Rattle.examples_standing.specs.SmallContents.{record_row}
use Rattle.sm_standing.specs.Entries.{image_with}
use Rattle.sm_standing.specs.Contents.{Content}
use Rattle.sm_standing.specs.Images.{Image, image_of}
use Rattle.sm_standing.specs.Logs.{logs, logs_in}
use Rattle.sm_standing.specs.Opened.{cleaned, end_changes, ended, linked_up, opened, undo_changes, undone}
use Rattle.sm_standing.specs.Shapes.{disk_record, image_row as row_as, shape, row_of as shape_row}
use Rattle.sm_standing.specs.Standing.{disks}
use Rattle.sm_standing.proofs.UnfoldedContents.{disks_bare, images_bare}
use Rattle.sm_standing.proofs.UnfoldedLaws.{fold_link}
use Rattle.examples_moments.specs.Moments.{top, empty_over}
use Rattle.examples_moments.specs.Opened.{relinked_shape}
use Rattle.examples_moments.specs.Worked.{first, second, base, content_with, image_row, relink_table, relinking}
use Rattle.examples_moments.proofs.ForkMoments.{relink_1}
use Rattle.examples_moments.proofs.RelinkOpened.{first_linked, second_linked, base_linked, under_parent}

abbrev d : Content
d = content_with relink_1 relinking.area

ends : cleaned (undone (ended relink_table)) ≡ relink_1
unfolding cleaned undone undo_changes ended end_changes without name_eq numbers
ends = refl

-- each image and each disk is as it was under the entry
image_still : (n : Name) → image_of d n ≡ image_of relinking n
unfolding without name_eq
image_still n = images_bare relinking (Relink second base) (fold_link second base) 5 n

disks_still : disks d ≡ disks relinking
unfolding without name_eq
disks_still = disks_bare relinking (Relink second base) (fold_link second base) 5 refl

by_rows : Option ImageRow → Option ImageRow → Option ImageRow → Option ImageRow → List Disk → Shape
by_rows a x y z ds = record {
  sequence = 5;
  extent = 32;
  block = 8;
  entries = 64;
  extents = 64;
  others = sum (elim a [ None ↦ 16 | Some i ↦ 0 ] ∷ elim x [ None ↦ 5 | Some i ↦ 0 ] ∷ elim y [ None ↦ 5 | Some i ↦ 0 ] ∷ elim z [ None ↦ 5 | Some i ↦ 0 ] ∷ []);
  records = map disk_record ds;
  images = cons_option a (cons_option x (cons_option y (cons_option z [])));
  logs = [];
  attached = [];
  op = Idle;
}

rows_are : shape d ≡ by_rows (shape_row d (record_row (numbers 0 16))) (shape_row d (image_row false (Vhd first) 21)) (shape_row d (image_row true (Vhd second) 26)) (shape_row d (image_row true (Vhd base) 16)) (disks d)
unfolding shape numbers by_rows logs logs_in
rows_are = refl

no_row : shape_row d (record_row (numbers 0 16)) ≡ None
unfolding shape_row image_of
no_row = refl

row_is : (hidden : Bool) (u : List ℕ) (at : ℕ) (i : Image) → image_of relinking (Vhd u) ≡ Some i → shape_row d (image_row hidden (Vhd u) at) ≡ Some (row_as (image_row hidden (Vhd u) at) i)
unfolding shape_row
row_is hidden u at i is = ap (λ (o : Option Image). elim o [ None ↦ None | Some j ↦ Some (row_as (image_row hidden (Vhd u) at) j) ]) (image_still (Vhd u) ∙ is)

past : (i j k : Image) → linked_up relink_table (by_rows None (Some (row_as (image_row false (Vhd first) 21) (under_parent (Some (Vhd second)) i)))
    (Some (row_as (image_row true (Vhd second) 26) (under_parent (Some (Vhd base)) j))) (Some (row_as (image_row true (Vhd base) 16) (under_parent None k))) (disks relinking))
    ≡ by_rows None (Some (row_as (image_row false (Vhd first) 21) (under_parent (Some (Vhd base)) i)))
    (Some (row_as (image_row true (Vhd second) 26) (under_parent (Some (Vhd base)) j))) (Some (row_as (image_row true (Vhd base) 16) (under_parent None k))) (disks relinking)
unfolding by_rows row_of name_eq image_with numbers
past i j k = refl

left : by_rows None (Some (row_as (image_row false (Vhd first) 21) (under_parent (Some (Vhd base)) (empty_over second))))
    (Some (row_as (image_row true (Vhd second) 26) (under_parent (Some (Vhd base)) (empty_over base)))) (Some (row_as (image_row true (Vhd base) 16) (under_parent None (top 17)))) (disks relinking)
    ≡ relinked_shape (disks relinking)
unfolding by_rows numbers
left = refl

pub relink_opened : opened relinking ≡ relinked_shape (disks relinking)
unfolding opened
relink_opened =
    ap (λ t. linked_up relink_table (shape (content_with t relinking.area))) ends
    ∙ ap (linked_up relink_table) (rows_are
    ∙ ap₂ (λ a x. by_rows a x (shape_row d (image_row true (Vhd second) 26)) (shape_row d (image_row true (Vhd base) 16)) (disks d)) no_row (row_is false first 21 (under_parent (Some (Vhd second)) (empty_over second)) first_linked)
    ∙ ap₂ (λ y z. by_rows None (Some (row_as (image_row false (Vhd first) 21) (under_parent (Some (Vhd second)) (empty_over second)))) y z (disks d))
    (row_is true second 26 (under_parent (Some (Vhd base)) (empty_over base)) second_linked) (row_is true base 16 (under_parent None (top 17)) base_linked)
    ∙ ap (by_rows None (Some (row_as (image_row false (Vhd first) 21) (under_parent (Some (Vhd second)) (empty_over second))))
    (Some (row_as (image_row true (Vhd second) 26) (under_parent (Some (Vhd base)) (empty_over base)))) (Some (row_as (image_row true (Vhd base) 16) (under_parent None (top 17))))) disks_still)
    ∙ past (empty_over second) (empty_over base) (top 17) ∙ left
