-- What an opening makes of the worked contents.
use Rattle.std.proofs.Common.{◌≡◌, ℕ, Bool, true, false, is_some, List, [], ◌∷◌, map, Option, Some, None, refl, sym, ap, ap₂, ◌∙◌}
use Rattle.std.specs.List.{filter, find, filter_map, sum, cons_option}
use Rattle.sm_base.specs.declared.names.Name.{Name}
use Rattle.sm_base.specs.declared.names.Name.TheVariants.{Mgt, Vhd, Old, Clone, Leaf}
use Rattle.sm_machine.specs.Operations.{Idle}
use Rattle.sm_machine.specs.Disks.{Disk}
use Rattle.common_laws.specs.Lists.{numbers, insert_by}
use Rattle.sm_machine.specs.Shapes.{Shape, ImageRow, with_image}
use Rattle.sm_record.specs.declared.records.Record.{Record}
use Rattle.vg_meta.specs.Tables.{VolumeTable, row_of, name_eq}
use Rattle.sm_standing.specs.Contents.{records, is_record_of}
use Rattle.sm_standing.specs.Entries.{image_with}
use Rattle.examples_standing.specs.SmallContents.{record_row}
use Rattle.sm_standing.specs.Images.{Image, image_of}
use Rattle.examples_moments.specs.ByParts.{Part, Work, begun, repaired, new_removed, extents_besides, in_name_order, row_of_part, opened_by_parts}
use Rattle.sm_standing.specs.Logs.{log_named, logs, logs_in}
use Rattle.sm_standing.specs.Shapes.{disk_record, image_row, shape, row_of as shape_row}
use Rattle.sm_standing.specs.Standing.{standing_volume, disks, disk_at, uuids, with_uuid, in_order}
use Rattle.sm_standing.specs.Forks.{IsForking}
use Rattle.examples_moments.specs.Moments.{top, filled, written, disk_of}
use Rattle.examples_moments.specs.Opened.{one_disk_shape}
use Rattle.examples_moments.specs.Worked.{first, second, base, first_record, second_record, content_with, image_row as worked_row, fork_area, fork_after, swap_area, unforked, forking_at, filled_at, swapping_at}
use Rattle.examples_moments.proofs.ForkExample.{forkable, moment_1, moment_2, moment_3, moment_4, moment_5, moment_6, moment_7, unforked_image, first_right}
use Rattle.sm_standing.proofs.ForkLaws.{forking}
use Rattle.examples_moments.proofs.ForkMoments.{fork_1, fork_2, fork_3, fork_4, fork_5, fork_6, fork_7, is_fork_1, is_fork_2, is_fork_3, is_fork_4, is_fork_5, is_fork_6, is_fork_7, swap_1, swap_2, swap_3, swap_4, swap_5, is_swap_1, is_swap_2, is_swap_3, is_swap_4, is_swap_5}
use Rattle.examples_moments.proofs.PlacedLaws.{one_record}
use Rattle.examples_moments.proofs.SwapExample.{parent_image, swappable, moment_1 as swap_moment_1, moment_2 as swap_moment_2, moment_3 as swap_moment_3, moment_4 as swap_moment_4, moment_5 as swap_moment_5}
use Rattle.sm_standing.proofs.SwapLaws.{swapping}
use Rattle.examples_moments.proofs.WorkedDisks.{unforked_disks, shown, top_sectors}
use Rattle.examples_moments.specs.WorkedImages.{top_image, filled_child, empty_child}

-- the shape of what is left
unfoldable pub made_from : Work → List Disk → Shape
made_from w ds = record {
  sequence = w.sequence;
  extent = 32;
  block = 8;
  entries = 64;
  extents = 64;
  others = sum (map extents_besides w.parts);
  records = map disk_record ds;
  images = in_name_order (filter_map row_of_part w.parts);
  logs = [];
  attached = [];
  op = Idle;
}

-- no volume of a table is a log's
abbrev pub HasNoLog : VolumeTable → (ℕ → List ℕ) → Type 0
HasNoLog t area = filter_map (λ r. log_named (content_with t area) r.name) t.volumes ≡ []

pub opened_made : (t : VolumeTable) (area : ℕ → List ℕ) → HasNoLog t area
    → opened_by_parts (content_with t area) ≡ made_from (repaired t (begun (content_with t area))) (disks (content_with t area))
unfolding opened_by_parts made_from logs logs_in
opened_made t area none = let c = content_with t area in
    ap (λ ls. record (made_from (repaired t (begun c)) (disks c)) { logs = filter (λ l. is_some (standing_volume t l.disk)) ls }) none

abbrev pub volume : Name → Bool → Bool → Option Image → Part
volume n hidden fresh image = record { name = n; hidden = hidden; fresh = fresh; extents = 5; image = image }

abbrev pub records_part : Part
records_part = record { name = Mgt; hidden = false; fresh = false; extents = 16; image = None }

abbrev pub entry_part : Name → Part
entry_part n = record { name = n; hidden = false; fresh = false; extents = 0; image = None }

-- one image is left
left_shape : (sequence : ℕ) (i : Image) (ds : List Disk) (sectors : List (List ℕ)) → ds ≡ disk_of first_record sectors ∷ []
    → made_from (record { sequence = sequence; parts = records_part ∷ volume (Vhd first) false false (Some i) ∷ [] }) ds ≡ one_disk_shape sequence i
unfolding made_from with_image insert_by
left_shape sequence i ds sectors is =
    ap (made_from (record { sequence = sequence; parts = records_part ∷ volume (Vhd first) false false (Some i) ∷ [] })) is

-- the same of a content whose two volumes have these rows
shape_of : Option ImageRow → Option ImageRow → List Disk → Shape
shape_of a b ds = record {
  sequence = 4;
  extent = 32;
  block = 8;
  entries = 64;
  extents = 64;
  others = sum (elim a [ None ↦ 16 | Some i ↦ 0 ] ∷ elim b [ None ↦ 5 | Some i ↦ 0 ] ∷ []);
  records = map disk_record ds;
  images = cons_option a (cons_option b []);
  logs = [];
  attached = [];
  op = Idle;
}

shape_is : shape unforked ≡ shape_of (shape_row unforked (record_row (numbers 0 16))) (shape_row unforked (worked_row false (Vhd first) 16)) (disks unforked)
unfolding shape numbers shape_of logs logs_in
shape_is = refl

no_row : shape_row unforked (record_row (numbers 0 16)) ≡ None
unfolding shape_row image_of
no_row = refl

one_row : shape_row unforked (worked_row false (Vhd first) 16) ≡ Some (record { name = Vhd first; hidden = false; parent = (top 17).parent; size = (top 17).size; slots = (top 17).slots; extents = 5 })
unfolding shape_row numbers
one_row = ap (λ (o : Option Image). elim o [ None ↦ None | Some i ↦ Some (image_row (worked_row false (Vhd first) 16) i) ]) unforked_image

pub unforked_shape : shape unforked ≡ one_disk_shape 4 (top 17)
unfolding shape_of
unforked_shape =
    shape_is
    ∙ ap₂ (λ a b. shape_of a b (disks unforked)) no_row one_row
    ∙ ap (shape_of None (Some (record { name = Vhd first; hidden = false; parent = (top 17).parent; size = (top 17).size; slots = (top 17).slots; extents = 5 }))) unforked_disks

-- ---- a fork

abbrev one_left : ℕ → Image → Work
one_left sequence i = record { sequence = sequence; parts = records_part ∷ volume (Vhd first) false false (Some i) ∷ [] }

-- an opening of a table on an area whose parts these are, which leaves one image
opened_one : (t : VolumeTable) (area : ℕ → List ℕ) (w : Work) (sequence : ℕ) (i : Image) (sectors : List (List ℕ)) → HasNoLog t area → begun (content_with t area) ≡ w → repaired t w ≡ one_left sequence i
    → disks (content_with t area) ≡ disk_of first_record sectors ∷ [] → opened_by_parts (content_with t area) ≡ one_disk_shape sequence i
opened_one t area w sequence i sectors none begins leaves shows =
    opened_made t area none
    ∙ ap (λ v. made_from (repaired t v) (disks (content_with t area))) begins
    ∙ ap (λ v. made_from v (disks (content_with t area))) leaves
    ∙ left_shape sequence i (disks (content_with t area)) sectors shows

abbrev early : ℕ → List ℕ
early = fork_area (first_record ∷ [])

abbrev late : ℕ → List ℕ
late = fork_area (first_record ∷ second_record ∷ [])

abbrev pub with_entry : ℕ → List Part → Work
with_entry sequence parts = record { sequence = sequence; parts = records_part ∷ parts }

abbrev fork_entry : Part
fork_entry = entry_part (Clone first base second)

-- a moment of the fork whose disk's image lies in m; its table is written out
undone : (s t : VolumeTable) (rs : List Record) (m : Name) (parts : Option Image → Work) (sequence : ℕ) → s ≡ t
    → IsForking unforked (content_with s (fork_area rs)) first base second (Vhd first) m → HasNoLog t (fork_area rs)
    → begun (content_with t (fork_area rs)) ≡ parts (image_of (content_with t (fork_area rs)) m)
    → ((i : Image) → repaired t (parts (Some i)) ≡ one_left sequence i) → opened_by_parts (content_with s (fork_area rs)) ≡ one_disk_shape sequence (top 17)
undone s t rs m parts sequence is forks none begins leaves =
    ap (λ l. opened_by_parts (content_with l (fork_area rs))) is
    ∙ opened_one t (fork_area rs) (parts (Some (top 17))) sequence (top 17) (written 17) none
    (begins ∙ ap parts (sym (ap (λ l. image_of (content_with l (fork_area rs)) m) is) ∙ forks.image ∙ unforked_image)) (leaves (top 17))
    (sym (ap (λ l. disks (content_with l (fork_area rs))) is)
    ∙ forking unforked (content_with s (fork_area rs)) first base second (Vhd first) m (top 17) forkable forks
    ∙ unforked_disks)

-- the disk's image has its own name
abbrev parts_1 : Option Image → Work
parts_1 o = with_entry 5 (volume (Vhd first) false false o ∷ fork_entry ∷ [])

begun_1 : begun (content_with fork_1 early) ≡ parts_1 (image_of (content_with fork_1 early) (Vhd first))
unfolding image_of numbers
begun_1 = refl

-- one commit: the entry goes
repaired_1 : (i : Image) → repaired fork_1 (parts_1 (Some i)) ≡ one_left 6 i
unfolding new_removed row_of name_eq image_with
repaired_1 i = refl

pub opened_1 : opened_by_parts (forking_at 1) ≡ one_disk_shape 6 (top 17)
opened_1 = undone (fork_after 1) fork_1 (first_record ∷ []) (Vhd first) parts_1 6 is_fork_1 moment_1 refl begun_1 repaired_1

-- it is the base, hidden or not
abbrev base_parts : ℕ → Bool → Option Image → Work
base_parts sequence hidden o = with_entry sequence (volume (Vhd base) hidden false o ∷ fork_entry ∷ [])

begun_2 : begun (content_with fork_2 early) ≡ base_parts 6 false (image_of (content_with fork_2 early) (Vhd base))
unfolding image_of numbers
begun_2 = refl

-- two: the base is renamed, and the entry goes
repaired_2 : (i : Image) → repaired fork_2 (base_parts 6 false (Some i)) ≡ one_left 8 i
unfolding new_removed row_of name_eq image_with
repaired_2 i = refl

pub opened_2 : opened_by_parts (forking_at 2) ≡ one_disk_shape 8 (top 17)
opened_2 = undone (fork_after 2) fork_2 (first_record ∷ []) (Vhd base) (base_parts 6 false) 8 is_fork_2 moment_2 refl begun_2 repaired_2

begun_3 : begun (content_with fork_3 early) ≡ base_parts 7 true (image_of (content_with fork_3 early) (Vhd base))
unfolding image_of numbers
begun_3 = refl

-- three: the base is unmarked before
repaired_3 : (i : Image) → repaired fork_3 (base_parts 7 true (Some i)) ≡ one_left 10 i
unfolding new_removed row_of name_eq image_with
repaired_3 i = refl

pub opened_3 : opened_by_parts (forking_at 3) ≡ one_disk_shape 10 (top 17)
opened_3 = undone (fork_after 3) fork_3 (first_record ∷ []) (Vhd base) (base_parts 7 true) 10 is_fork_3 moment_3 refl begun_3 repaired_3

-- the disk's new image is there
abbrev parts_4 : Option Image → Option Image → Work
parts_4 o q = with_entry 8 (volume (Vhd first) false true o ∷ volume (Vhd base) true false q ∷ fork_entry ∷ [])

begun_4 : begun (content_with fork_4 early) ≡ parts_4 (image_of (content_with fork_4 early) (Vhd first)) (image_of (content_with fork_4 early) (Vhd base))
unfolding image_of numbers
begun_4 = refl

-- four: the disk's new image goes before
repaired_4 : (o : Option Image) (i : Image) → repaired fork_4 (parts_4 o (Some i)) ≡ one_left 12 i
unfolding new_removed row_of name_eq image_with
repaired_4 o i = refl

pub opened_4 : opened_by_parts (forking_at 4) ≡ one_disk_shape 12 (top 17)
opened_4 =
    let o = image_of (content_with fork_4 early) (Vhd first) in
    undone (fork_after 4) fork_4 (first_record ∷ []) (Vhd base) (parts_4 o) 12 is_fork_4 moment_4 refl begun_4 (repaired_4 o)

-- both new images are there, each of them new or not
abbrev both_parts : ℕ → Bool → Bool → Option Image → Option Image → Option Image → Work
both_parts sequence disk_new twin_new o p q =
    with_entry sequence (volume (Vhd first) false disk_new o ∷ volume (Vhd second) false twin_new p ∷ volume (Vhd base) true false q ∷ fork_entry ∷ [])

begun_5 : begun (content_with fork_5 early)
    ≡ both_parts 9 true true (image_of (content_with fork_5 early) (Vhd first)) (image_of (content_with fork_5 early) (Vhd second)) (image_of (content_with fork_5 early) (Vhd base))
unfolding image_of numbers
begun_5 = refl

-- five: the twin goes first of all
repaired_5 : (o p : Option Image) (i : Image) → repaired fork_5 (both_parts 9 true true o p (Some i)) ≡ one_left 14 i
unfolding new_removed row_of name_eq image_with
repaired_5 o p i = refl

pub opened_5 : opened_by_parts (forking_at 5) ≡ one_disk_shape 14 (top 17)
opened_5 =
    let o = image_of (content_with fork_5 early) (Vhd first) in
    let p = image_of (content_with fork_5 early) (Vhd second) in
    undone (fork_after 5) fork_5 (first_record ∷ []) (Vhd base) (both_parts 9 true true o p) 14 is_fork_5 moment_5 refl begun_5 (repaired_5 o p)

begun_6 : begun (content_with fork_6 late)
    ≡ both_parts 10 false true (image_of (content_with fork_6 late) (Vhd first)) (image_of (content_with fork_6 late) (Vhd second)) (image_of (content_with fork_6 late) (Vhd base))
unfolding image_of numbers
begun_6 = refl

-- and five from here on
repaired_6 : (o p : Option Image) (i : Image) → repaired fork_6 (both_parts 10 false true o p (Some i)) ≡ one_left 15 i
unfolding new_removed row_of name_eq image_with
repaired_6 o p i = refl

pub opened_6 : opened_by_parts (filled_at 6) ≡ one_disk_shape 15 (top 17)
opened_6 =
    let o = image_of (content_with fork_6 late) (Vhd first) in
    let p = image_of (content_with fork_6 late) (Vhd second) in
    undone (fork_after 6) fork_6 (first_record ∷ second_record ∷ []) (Vhd base) (both_parts 10 false true o p) 15 is_fork_6 moment_6 refl begun_6 (repaired_6 o p)

begun_7 : begun (content_with fork_7 late)
    ≡ both_parts 11 false false (image_of (content_with fork_7 late) (Vhd first)) (image_of (content_with fork_7 late) (Vhd second)) (image_of (content_with fork_7 late) (Vhd base))
unfolding image_of numbers
begun_7 = refl

repaired_7 : (o p : Option Image) (i : Image) → repaired fork_7 (both_parts 11 false false o p (Some i)) ≡ one_left 16 i
unfolding new_removed row_of name_eq image_with
repaired_7 o p i = refl

pub opened_7 : opened_by_parts (filled_at 7) ≡ one_disk_shape 16 (top 17)
opened_7 =
    let o = image_of (content_with fork_7 late) (Vhd first) in
    let p = image_of (content_with fork_7 late) (Vhd second) in
    undone (fork_after 7) fork_7 (first_record ∷ second_record ∷ []) (Vhd base) (both_parts 11 false false o p) 16 is_fork_7 moment_7 refl begun_7 (repaired_7 o p)

-- ---- a swap

abbrev leaf_entry : Part
leaf_entry = entry_part (Leaf first base)

swapped_uuids : uuids swap_5 ≡ first ∷ []
unfolding uuids with_uuid in_order
swapped_uuids = refl

swapped_stands : standing_volume swap_5 first ≡ Some (Vhd first)
unfolding standing_volume row_of name_eq
swapped_stands = refl

swapped_records : records (content_with swap_5 swap_area) ≡ first_record ∷ []
unfolding row_of name_eq
swapped_records = one_record swap_5 (top_image 34) (filled_child (Vhd base) 34) (empty_child (Vhd base)) first_record refl first_right

swapped_image : image_of (content_with swap_5 swap_area) (Vhd first) ≡ Some (top 34)
unfolding row_of name_eq
swapped_image = parent_image swap_5 first false (Vhd first) refl refl

swapped_disks : disks (content_with swap_5 swap_area) ≡ disk_of first_record (written 34) ∷ []
unfolding disks
swapped_disks =
    ap (filter_map (disk_at (content_with swap_5 swap_area))) swapped_uuids
    ∙ ap (λ o. cons_option o [])
    (shown (content_with swap_5 swap_area) first (Vhd first) first_record (written 34) swapped_stands (ap (find (is_record_of first)) swapped_records)
    (top_sectors (content_with swap_5 swap_area) (Vhd first) 34 swapped_image) refl)

pub swap_disks_5 : disks (swapping_at 5) ≡ disk_of first_record (written 34) ∷ []
swap_disks_5 = ap (λ t. disks (content_with t swap_area)) is_swap_5 ∙ swapped_disks

-- before the swap they are the same, since the swap keeps them
pub swap_disks_0 : disks (swapping_at 0) ≡ disk_of first_record (written 34) ∷ []
swap_disks_0 = sym (swapping (swapping_at 0) (swapping_at 5) first base (Vhd first) (filled 34) (top 34) swappable swap_moment_5) ∙ swap_disks_5

swap_disks_1 : disks (swapping_at 1) ≡ disk_of first_record (written 34) ∷ []
swap_disks_1 = swapping (swapping_at 0) (swapping_at 1) first base (Vhd base) (filled 34) (top 34) swappable swap_moment_1 ∙ swap_disks_0

swap_disks_2 : disks (swapping_at 2) ≡ disk_of first_record (written 34) ∷ []
swap_disks_2 = swapping (swapping_at 0) (swapping_at 2) first base (Vhd first) (filled 34) (top 34) swappable swap_moment_2 ∙ swap_disks_0

swap_disks_3 : disks (swapping_at 3) ≡ disk_of first_record (written 34) ∷ []
swap_disks_3 = swapping (swapping_at 0) (swapping_at 3) first base (Vhd first) (filled 34) (top 34) swappable swap_moment_3 ∙ swap_disks_0

swap_disks_4 : disks (swapping_at 4) ≡ disk_of first_record (written 34) ∷ []
swap_disks_4 = swapping (swapping_at 0) (swapping_at 4) first base (Vhd first) (filled 34) (top 34) swappable swap_moment_4 ∙ swap_disks_0

swap_image_1 : image_of (content_with swap_1 swap_area) (Vhd base) ≡ Some (top 34)
unfolding row_of name_eq
swap_image_1 = parent_image swap_1 base true (Vhd base) refl refl

swap_begun_1 : begun (content_with swap_1 swap_area) ≡ with_entry 5 (volume (Old first) false false None ∷ volume (Vhd base) true false (image_of (content_with swap_1 swap_area) (Vhd base)) ∷ leaf_entry ∷ [])
unfolding image_of numbers
swap_begun_1 = refl

swap_repaired_1 : (i : Image) → repaired swap_1 (with_entry 5 (volume (Old first) false false None ∷ volume (Vhd base) true false (Some i) ∷ leaf_entry ∷ [])) ≡ one_left 9 i
unfolding new_removed row_of name_eq image_with
swap_repaired_1 i = refl

pub swap_opened_1 : opened_by_parts (swapping_at 1) ≡ one_disk_shape 9 (top 34)
swap_opened_1 =
    ap (λ t. opened_by_parts (content_with t swap_area)) is_swap_1
    ∙ opened_one swap_1 swap_area (with_entry 5 (volume (Old first) false false None ∷ volume (Vhd base) true false (Some (top 34)) ∷ leaf_entry ∷ [])) 9 (top 34) (written 34) refl
    (swap_begun_1 ∙ ap (λ o. with_entry 5 (volume (Old first) false false None ∷ volume (Vhd base) true false o ∷ leaf_entry ∷ [])) swap_image_1) (swap_repaired_1 (top 34))
    (sym (ap (λ t. disks (content_with t swap_area)) is_swap_1) ∙ swap_disks_1)

swap_image_2 : image_of (content_with swap_2 swap_area) (Vhd first) ≡ Some (top 34)
unfolding row_of name_eq
swap_image_2 = parent_image swap_2 first true (Vhd first) refl refl

swap_begun_2 : begun (content_with swap_2 swap_area) ≡ with_entry 6 (volume (Old first) false false None ∷ volume (Vhd first) true false (image_of (content_with swap_2 swap_area) (Vhd first)) ∷ leaf_entry ∷ [])
unfolding image_of numbers
swap_begun_2 = refl

swap_repaired_2 : (i : Image) → repaired swap_2 (with_entry 6 (volume (Old first) false false None ∷ volume (Vhd first) true false (Some i) ∷ leaf_entry ∷ [])) ≡ one_left 9 i
unfolding new_removed row_of name_eq image_with
swap_repaired_2 i = refl

pub swap_opened_2 : opened_by_parts (swapping_at 2) ≡ one_disk_shape 9 (top 34)
swap_opened_2 =
    ap (λ t. opened_by_parts (content_with t swap_area)) is_swap_2
    ∙ opened_one swap_2 swap_area (with_entry 6 (volume (Old first) false false None ∷ volume (Vhd first) true false (Some (top 34)) ∷ leaf_entry ∷ [])) 9 (top 34) (written 34) refl
    (swap_begun_2 ∙ ap (λ o. with_entry 6 (volume (Old first) false false None ∷ volume (Vhd first) true false o ∷ leaf_entry ∷ [])) swap_image_2) (swap_repaired_2 (top 34))
    (sym (ap (λ t. disks (content_with t swap_area)) is_swap_2) ∙ swap_disks_2)

swap_image_3 : image_of (content_with swap_3 swap_area) (Vhd first) ≡ Some (top 34)
unfolding row_of name_eq
swap_image_3 = parent_image swap_3 first false (Vhd first) refl refl

swap_begun_3 : begun (content_with swap_3 swap_area) ≡ with_entry 7 (volume (Old first) false false None ∷ volume (Vhd first) false false (image_of (content_with swap_3 swap_area) (Vhd first)) ∷ leaf_entry ∷ [])
unfolding image_of numbers
swap_begun_3 = refl

swap_repaired_3 : (i : Image) → repaired swap_3 (with_entry 7 (volume (Old first) false false None ∷ volume (Vhd first) false false (Some i) ∷ leaf_entry ∷ [])) ≡ one_left 9 i
unfolding new_removed row_of name_eq image_with
swap_repaired_3 i = refl

pub swap_opened_3 : opened_by_parts (swapping_at 3) ≡ one_disk_shape 9 (top 34)
swap_opened_3 =
    ap (λ t. opened_by_parts (content_with t swap_area)) is_swap_3
    ∙ opened_one swap_3 swap_area (with_entry 7 (volume (Old first) false false None ∷ volume (Vhd first) false false (Some (top 34)) ∷ leaf_entry ∷ [])) 9 (top 34) (written 34) refl
    (swap_begun_3 ∙ ap (λ o. with_entry 7 (volume (Old first) false false None ∷ volume (Vhd first) false false o ∷ leaf_entry ∷ [])) swap_image_3) (swap_repaired_3 (top 34))
    (sym (ap (λ t. disks (content_with t swap_area)) is_swap_3) ∙ swap_disks_3)

swap_image_4 : image_of (content_with swap_4 swap_area) (Vhd first) ≡ Some (top 34)
unfolding row_of name_eq
swap_image_4 = parent_image swap_4 first false (Vhd first) refl refl

swap_begun_4 : begun (content_with swap_4 swap_area) ≡ with_entry 8 (volume (Vhd first) false false (image_of (content_with swap_4 swap_area) (Vhd first)) ∷ leaf_entry ∷ [])
unfolding image_of numbers
swap_begun_4 = refl

swap_repaired_4 : (i : Image) → repaired swap_4 (with_entry 8 (volume (Vhd first) false false (Some i) ∷ leaf_entry ∷ [])) ≡ one_left 9 i
unfolding new_removed row_of name_eq image_with
swap_repaired_4 i = refl

pub swap_opened_4 : opened_by_parts (swapping_at 4) ≡ one_disk_shape 9 (top 34)
swap_opened_4 =
    ap (λ t. opened_by_parts (content_with t swap_area)) is_swap_4
    ∙ opened_one swap_4 swap_area (with_entry 8 (volume (Vhd first) false false (Some (top 34)) ∷ leaf_entry ∷ [])) 9 (top 34) (written 34) refl
    (swap_begun_4 ∙ ap (λ o. with_entry 8 (volume (Vhd first) false false o ∷ leaf_entry ∷ [])) swap_image_4) (swap_repaired_4 (top 34))
    (sym (ap (λ t. disks (content_with t swap_area)) is_swap_4) ∙ swap_disks_4)

swap_image_5 : image_of (content_with swap_5 swap_area) (Vhd first) ≡ Some (top 34)
unfolding row_of name_eq
swap_image_5 = parent_image swap_5 first false (Vhd first) refl refl

swap_begun_5 : begun (content_with swap_5 swap_area) ≡ with_entry 9 (volume (Vhd first) false false (image_of (content_with swap_5 swap_area) (Vhd first)) ∷ [])
unfolding image_of numbers
swap_begun_5 = refl

swap_repaired_5 : (i : Image) → repaired swap_5 (with_entry 9 (volume (Vhd first) false false (Some i) ∷ [])) ≡ one_left 9 i
unfolding new_removed row_of name_eq image_with
swap_repaired_5 i = refl

pub swap_opened_5 : opened_by_parts (swapping_at 5) ≡ one_disk_shape 9 (top 34)
swap_opened_5 =
    ap (λ t. opened_by_parts (content_with t swap_area)) is_swap_5
    ∙ opened_one swap_5 swap_area (with_entry 9 (volume (Vhd first) false false (Some (top 34)) ∷ [])) 9 (top 34) (written 34) refl
    (swap_begun_5 ∙ ap (λ o. with_entry 9 (volume (Vhd first) false false o ∷ [])) swap_image_5) (swap_repaired_5 (top 34))
    (sym (ap (λ t. disks (content_with t swap_area)) is_swap_5) ∙ swap_disks_5)
