-- What an opening makes of the worked contents: the table behind its commits is written out, and the shape of what stands on it.
use Rattle.std.proofs.Common.{◌≡◌, ℕ, ◌+◌, ◌*◌, false, List, [], ◌∷◌, map, Option, Some, None, refl, ap, ap₂, ◌∙◌}
use Rattle.std.specs.List.{find, filter_map, sum, cons_option}
use Rattle.sm_base.specs.Names.{name_cmp, spelling, uuid_text}
use Rattle.sm_base.specs.declared.names.Name.TheVariants.{Vhd}
use Rattle.sm_machine.specs.Operations.{Idle}
use Rattle.uuid.specs.Text.{by_index}
use Rattle.common_laws.specs.Lists.{numbers}
use Rattle.sm_machine.specs.Disks.{Disk}
use Rattle.sm_machine.specs.Shapes.{Shape, ImageRow}
use Rattle.sm_record.specs.declared.records.Record.{Record}
use Rattle.vg_meta.specs.Changes.{put, without, with_row}
use Rattle.vg_meta.specs.Tables.{VolumeTable, row_of, name_eq}
use Rattle.vhd_layout.specs.Layouts.{Sectors}
use Rattle.examples_standing.specs.SmallContents.{record_row}
use Rattle.sm_standing.specs.Contents.{Content, record_of, is_record_of}
use Rattle.sm_standing.specs.Entries.{image_with}
use Rattle.sm_standing.specs.Images.{Image, image_of}
use Rattle.sm_standing.specs.Logs.{logs, logs_in}
use Rattle.sm_standing.specs.Opened.{cleaned, end_changes, ended, linked_up, opened, undo_changes, undone}
use Rattle.sm_standing.specs.Shapes.{disk_record, image_row as row_as, shape, row_of as shape_row}
use Rattle.sm_standing.specs.Standing.{standing_volume, disks, disk_at, uuids, with_uuid, in_order}
use Rattle.examples_moments.specs.Moments.{top, written, disk_of}
use Rattle.examples_moments.specs.Opened.{one_disk_shape}
use Rattle.examples_moments.specs.Worked.{first, base, first_record, second_record, area_of, content_with, image_row, fork_after, swap_after, forking_at, filled_at, swapping_at}
use Rattle.examples_moments.specs.WorkedImages.{top_image, filled_child, empty_child}
use Rattle.examples_moments.proofs.ForkExample.{first_right, second_right}
use Rattle.examples_moments.proofs.ForkMoments.{listed, fork_1, fork_2, fork_3, fork_4, fork_5, fork_6, fork_7, is_fork_1, is_fork_2, is_fork_3, is_fork_4, is_fork_5, is_fork_6, is_fork_7, swap_1, swap_2, swap_3, swap_4, swap_5, is_swap_1, is_swap_2, is_swap_3, is_swap_4, is_swap_5}
use Rattle.examples_moments.proofs.PlacedLaws.{placed_image, area_first, one_record, two_records}
use Rattle.examples_moments.proofs.WorkedDisks.{shown, top_sectors}
use Rattle.examples_moments.proofs.WorkedLaws.{top_valid}

-- one image is left
abbrev left : ℕ → VolumeTable
left k = listed k (image_row false (Vhd first) 16 ∷ [])

by_rows : ℕ → Option ImageRow → Option ImageRow → List Disk → Shape
by_rows k a b ds = record {
  sequence = k;
  extent = 32;
  block = 8;
  entries = 64;
  extents = 64;
  others = sum (elim a [ None ↦ 16 | Some i ↦ 0 ] ∷ elim b [ None ↦ 5 | Some i ↦ 0 ] ∷ []);
  records = map disk_record ds;
  images = cons_option a (cons_option b []);
  logs = [];
  attached = [];
  op = Idle;
}

module _ (k byte : ℕ) (y z : Sectors) (rs : List Record) where
  abbrev area : ℕ → List ℕ
  area = area_of (top_image byte) y z rs

  abbrev c : Content
  c = content_with (left k) area

  image_left : image_of c (Vhd first) ≡ Some (top byte)
  unfolding row_of name_eq
  image_left =
      placed_image (left k) area first false 16 (Vhd first) (top_image byte) refl refl (λ s below. area_first (top_image byte) y z rs (32 * 16 + s) s refl below) (top_valid byte)

  uuids_left : uuids (left k) ≡ first ∷ []
  unfolding uuids with_uuid in_order
  uuids_left = refl

  stands_left : standing_volume (left k) first ≡ Some (Vhd first)
  unfolding standing_volume row_of name_eq
  stands_left = refl

  rows_left : shape c ≡ by_rows k (shape_row c (record_row (numbers 0 16))) (shape_row c (image_row false (Vhd first) 16)) (disks c)
  unfolding shape numbers by_rows logs logs_in
  rows_left = refl

  no_row : shape_row c (record_row (numbers 0 16)) ≡ None
  unfolding shape_row image_of
  no_row = refl

  one_row : shape_row c (image_row false (Vhd first) 16) ≡ Some (record { name = Vhd first; hidden = false; parent = (top byte).parent; size = (top byte).size; slots = (top byte).slots; extents = 5 })
  unfolding shape_row numbers
  one_row = ap (λ (o : Option Image). elim o [ None ↦ None | Some i ↦ Some (row_as (image_row false (Vhd first) 16) i) ]) image_left

  disks_left : record_of c first ≡ Some first_record → disks c ≡ disk_of first_record (written byte) ∷ []
  unfolding disks
  disks_left recorded =
      ap (filter_map (disk_at c)) uuids_left
      ∙ ap (λ o. cons_option o []) (shown c first (Vhd first) first_record (written byte) stands_left recorded (top_sectors c (Vhd first) byte image_left) refl)

  -- behind the commits of an opening
  pub opened_left : (s t : VolumeTable) → s ≡ t → cleaned (undone (ended t)) ≡ left k → ((σ : Shape) → linked_up t σ ≡ σ) → record_of c first ≡ Some first_record
      → opened (content_with s area) ≡ one_disk_shape k (top byte)
  unfolding opened by_rows
  opened_left s t is ends plain recorded =
      ap (λ l. opened (content_with l area)) is
      ∙ plain (shape (content_with (cleaned (undone (ended t))) area))
      ∙ ap (λ l. shape (content_with l area)) ends
      ∙ rows_left ∙ ap₂ (λ a b. by_rows k a b (disks c)) no_row one_row
      ∙ ap (by_rows k None (Some (record { name = Vhd first; hidden = false; parent = (top byte).parent; size = (top byte).size; slots = (top byte).slots; extents = 5 }))) (disks_left recorded)

-- ---- a fork

early : (k : ℕ) (s t : VolumeTable) → s ≡ t → cleaned (undone (ended t)) ≡ left k → ((σ : Shape) → linked_up t σ ≡ σ)
    → opened (content_with s (area_of (top_image 17) (empty_child (Vhd base)) (empty_child (Vhd base)) (first_record ∷ []))) ≡ one_disk_shape k (top 17)
unfolding row_of name_eq
early k s t is ends plain =
    opened_left k 17 (empty_child (Vhd base)) (empty_child (Vhd base)) (first_record ∷ []) s t is ends plain
    (ap (find (is_record_of first)) (one_record (left k) (top_image 17) (empty_child (Vhd base)) (empty_child (Vhd base)) first_record refl first_right))

late : (k : ℕ) (s t : VolumeTable) → s ≡ t → cleaned (undone (ended t)) ≡ left k → ((σ : Shape) → linked_up t σ ≡ σ)
    → opened (content_with s (area_of (top_image 17) (empty_child (Vhd base)) (empty_child (Vhd base)) (first_record ∷ second_record ∷ []))) ≡ one_disk_shape k (top 17)
unfolding row_of name_eq
late k s t is ends plain =
    opened_left k 17 (empty_child (Vhd base)) (empty_child (Vhd base)) (first_record ∷ second_record ∷ []) s t is ends plain
    (ap (find (is_record_of first)) (two_records (left k) (top_image 17) (empty_child (Vhd base)) (empty_child (Vhd base)) first_record second_record refl first_right second_right))

ends_1 : cleaned (undone (ended fork_1)) ≡ left 6
unfolding cleaned undone undo_changes ended end_changes put without with_row row_of name_eq image_with name_cmp spelling uuid_text by_index numbers
ends_1 = refl

pub opened_1 : opened (forking_at 1) ≡ one_disk_shape 6 (top 17)
opened_1 = early 6 (fork_after 1) fork_1 is_fork_1 ends_1 (λ σ. refl)

ends_2 : cleaned (undone (ended fork_2)) ≡ left 8
unfolding cleaned undone undo_changes ended end_changes put without with_row row_of name_eq image_with name_cmp spelling uuid_text by_index numbers
ends_2 = refl

pub opened_2 : opened (forking_at 2) ≡ one_disk_shape 8 (top 17)
opened_2 = early 8 (fork_after 2) fork_2 is_fork_2 ends_2 (λ σ. refl)

ends_3 : cleaned (undone (ended fork_3)) ≡ left 10
unfolding cleaned undone undo_changes ended end_changes put without with_row row_of name_eq image_with name_cmp spelling uuid_text by_index numbers
ends_3 = refl

pub opened_3 : opened (forking_at 3) ≡ one_disk_shape 10 (top 17)
opened_3 = early 10 (fork_after 3) fork_3 is_fork_3 ends_3 (λ σ. refl)

ends_4 : cleaned (undone (ended fork_4)) ≡ left 12
unfolding cleaned undone undo_changes ended end_changes put without with_row row_of name_eq image_with name_cmp spelling uuid_text by_index numbers
ends_4 = refl

pub opened_4 : opened (forking_at 4) ≡ one_disk_shape 12 (top 17)
opened_4 = early 12 (fork_after 4) fork_4 is_fork_4 ends_4 (λ σ. refl)

ends_5 : cleaned (undone (ended fork_5)) ≡ left 14
unfolding cleaned undone undo_changes ended end_changes put without with_row row_of name_eq image_with name_cmp spelling uuid_text by_index numbers
ends_5 = refl

pub opened_5 : opened (forking_at 5) ≡ one_disk_shape 14 (top 17)
opened_5 = early 14 (fork_after 5) fork_5 is_fork_5 ends_5 (λ σ. refl)

ends_6 : cleaned (undone (ended fork_6)) ≡ left 15
unfolding cleaned undone undo_changes ended end_changes put without with_row row_of name_eq image_with name_cmp spelling uuid_text by_index numbers
ends_6 = refl

pub opened_6 : opened (filled_at 6) ≡ one_disk_shape 15 (top 17)
opened_6 = late 15 (fork_after 6) fork_6 is_fork_6 ends_6 (λ σ. refl)

ends_7 : cleaned (undone (ended fork_7)) ≡ left 16
unfolding cleaned undone undo_changes ended end_changes put without with_row row_of name_eq image_with name_cmp spelling uuid_text by_index numbers
ends_7 = refl

pub opened_7 : opened (filled_at 7) ≡ one_disk_shape 16 (top 17)
opened_7 = late 16 (fork_after 7) fork_7 is_fork_7 ends_7 (λ σ. refl)

-- ---- a swap

swapping : (k : ℕ) (s t : VolumeTable) → s ≡ t → cleaned (undone (ended t)) ≡ left k → ((σ : Shape) → linked_up t σ ≡ σ)
    → opened (content_with s (area_of (top_image 34) (filled_child (Vhd base) 34) (empty_child (Vhd base)) (first_record ∷ []))) ≡ one_disk_shape k (top 34)
unfolding row_of name_eq
swapping k s t is ends plain =
    opened_left k 34 (filled_child (Vhd base) 34) (empty_child (Vhd base)) (first_record ∷ []) s t is ends plain
    (ap (find (is_record_of first)) (one_record (left k) (top_image 34) (filled_child (Vhd base) 34) (empty_child (Vhd base)) first_record refl first_right))

swap_ends_1 : cleaned (undone (ended swap_1)) ≡ left 9
unfolding cleaned undone undo_changes ended end_changes put without with_row row_of name_eq image_with name_cmp spelling uuid_text by_index numbers
swap_ends_1 = refl

pub swap_opened_1 : opened (swapping_at 1) ≡ one_disk_shape 9 (top 34)
swap_opened_1 = swapping 9 (swap_after 1) swap_1 is_swap_1 swap_ends_1 (λ σ. refl)

swap_ends_2 : cleaned (undone (ended swap_2)) ≡ left 9
unfolding cleaned undone undo_changes ended end_changes put without with_row row_of name_eq image_with name_cmp spelling uuid_text by_index numbers
swap_ends_2 = refl

pub swap_opened_2 : opened (swapping_at 2) ≡ one_disk_shape 9 (top 34)
swap_opened_2 = swapping 9 (swap_after 2) swap_2 is_swap_2 swap_ends_2 (λ σ. refl)

swap_ends_3 : cleaned (undone (ended swap_3)) ≡ left 9
unfolding cleaned undone undo_changes ended end_changes put without with_row row_of name_eq image_with name_cmp spelling uuid_text by_index numbers
swap_ends_3 = refl

pub swap_opened_3 : opened (swapping_at 3) ≡ one_disk_shape 9 (top 34)
swap_opened_3 = swapping 9 (swap_after 3) swap_3 is_swap_3 swap_ends_3 (λ σ. refl)

swap_ends_4 : cleaned (undone (ended swap_4)) ≡ left 9
unfolding cleaned undone undo_changes ended end_changes put without with_row row_of name_eq image_with name_cmp spelling uuid_text by_index numbers
swap_ends_4 = refl

pub swap_opened_4 : opened (swapping_at 4) ≡ one_disk_shape 9 (top 34)
swap_opened_4 = swapping 9 (swap_after 4) swap_4 is_swap_4 swap_ends_4 (λ σ. refl)

swap_ends_5 : cleaned (undone (ended swap_5)) ≡ left 9
unfolding cleaned undone undo_changes ended end_changes put without with_row row_of name_eq image_with name_cmp spelling uuid_text by_index numbers
swap_ends_5 = refl

pub swap_opened_5 : opened (swapping_at 5) ≡ one_disk_shape 9 (top 34)
swap_opened_5 = swapping 9 (swap_after 5) swap_5 is_swap_5 swap_ends_5 (λ σ. refl)
