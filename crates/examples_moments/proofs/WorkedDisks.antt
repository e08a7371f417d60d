-- The disks of the worked contents.
use Rattle.std.proofs.Common.{◌≡◌, ℕ, zero, suc, ◌+◌, ◌*◌, ◌<◌, ◌≤◌, true, false, List, [], ◌∷◌, map, replicate, Option, Some, None, refl, sym, ap, ap₂, ◌∙◌, arith, lit≤}
use Rattle.std.specs.List.{find, filter_map, cons_option}
use Rattle.sm_base.specs.declared.names.Name.{Name}
use Rattle.sm_base.specs.declared.names.Name.TheVariants.{Vhd}
use Rattle.sm_disk.specs.Sectors.{zeros}
use Rattle.sm_machine.specs.Disks.{Disk}
use Rattle.common_laws.specs.Lists.{numbers, ◌>>=◌}
use Rattle.sm_record.specs.declared.records.Record.{Record}
use Rattle.vg_meta.specs.Tables.{rows, row_of, name_eq}
use Rattle.vhd_layout.specs.Contents.{content_at, own}
use Rattle.examples_vhd.specs.SmallImages.{footer_sector, header_sector, table_of, empty, fresh_image, written_image}
use Rattle.examples_vhd.proofs.SmallImageLaws.{footer_reads, without_slots, written_valid}
use Rattle.sm_standing.specs.Changes.{parent_of, IsShortChain}
use Rattle.sm_standing.specs.Checks.{depth}
use Rattle.sm_standing.specs.Outlines.{link_of, outline}
use Rattle.sm_standing.specs.Contents.{Content, records, record_of, is_record_of}
use Rattle.sm_standing.specs.Images.{Image, image_of, image_reads, sectors_read}
use Rattle.sm_standing.specs.Standing.{standing_volume, disks, disk_at, uuids, with_uuid, in_order}
use Rattle.sm_standing.proofs.ImageLaws.{held_reads, top_zeros, parent_reads, parent-is}
use Rattle.sm_standing.proofs.WalkLaws.{depth_top, depth_up}
use Rattle.examples_moments.specs.Moments.{top, filled, child, written, disk_of}
use Rattle.examples_moments.specs.Worked.{first, second, base, first_record, second_record, content_with, area_of, image_row, one_disk, unforked, two_disks, fresh_disk, written_disk}
use Rattle.examples_moments.specs.WorkedImages.{top_image, filled_child, empty_child, sector_of}
use Rattle.sm_standing.proofs.ApartLaws.{none_disk}
use Rattle.examples_moments.proofs.ForkExample.{base_named, first_right, second_right, unforked_image, unforked_records, child_empty, HasRecords}
use Rattle.sm_standing.proofs.ForkLaws.{made_disk}
use Rattle.examples_moments.proofs.ForkMoments.{fork_8, is_fork_8}
use Rattle.examples_moments.proofs.PlacedLaws.{placed_image, area_first, area_second, area_third, two_records}
use Rattle.examples_moments.proofs.SwapExample.{filled_size, filled_parent, held_alike}
use Rattle.examples_moments.proofs.WorkedLaws.{top_valid, top_size, top_parent, top_first, top_rest, filled_valid, empty_valid, child_size, child_parent}

-- ---- lists of sectors

map_constant : (f : ℕ → List ℕ) (a n : ℕ) (z : List ℕ) → ((k : ℕ) → a ≤ k → k < a + n → f k ≡ z) → map f (numbers a n) ≡ replicate n z
unfolding numbers
map_constant f a zero z same = refl
map_constant f a (suc n) z same = ap₂ (λ x xs. x ∷ xs) (same a (omega arith) (omega arith)) (map_constant f (a + 1) n z (λ k from below. same k (omega arith) (omega arith)))

map_first : (f : ℕ → List ℕ) (n : ℕ) → map f (numbers 0 (suc n)) ≡ f 0 ∷ map f (numbers 1 n)
unfolding numbers
map_first f n = refl

-- the sectors of an image of 128 sectors, of which 0 has one content and the others another
sectors_as : (c : Content) (n : Name) (i : Image) (x z : List ℕ) → image_of c n ≡ Some i → i.size ≡ 128 → image_reads c n 0 ≡ x → ((s : ℕ) → 1 ≤ s → s < 128 → image_reads c n s ≡ z)
    → sectors_read c n ≡ x ∷ replicate 127 z
unfolding sectors_read
sectors_as c n i x z is size head rest =
    ap (λ o. elim o [ None ↦ [] | Some k ↦ map (image_reads c n) (numbers 0 k.size) ]) is
    ∙ ap (λ k. map (image_reads c n) (numbers 0 k)) size
    ∙ map_first (image_reads c n) 127
    ∙ ap₂ (λ y ys. y ∷ ys) head (map_constant (image_reads c n) 1 127 z (λ k from below. rest k from (omega (arith, below))))

-- ---- one disk

pub top_held : (byte : ℕ) → (top byte).own 0 ≡ Some (sector_of byte)
top_held byte = ap (λ n. own 8 n (top_image byte) 0) (top_size byte) ∙ top_first byte 128 (lit≤ tt)

pub top_behind : (byte s : ℕ) → 1 ≤ s → (top byte).own s ≡ None
top_behind byte s from = ap (λ n. own 8 n (top_image byte) s) (top_size byte) ∙ top_rest byte 128 s (lit≤ tt) from

pub top_sectors : (c : Content) (n : Name) (byte : ℕ) → image_of c n ≡ Some (top byte) → sectors_read c n ≡ written byte
top_sectors c n byte is =
    sectors_as c n (top byte) (sector_of byte) zeros is (top_size byte)
    (held_reads c n (top byte) 0 (sector_of byte) is (omega (arith, top_size byte)) (top_held byte))
    (λ s from below. top_zeros c n (top byte) s is (top_behind byte s from) (top_parent byte))

-- the disk of a UUID, made of its record and the sectors
pub shown : (c : Content) (u : List ℕ) (x : Name) (entry : Record) (sectors : List (List ℕ)) → standing_volume c.table u ≡ Some x → record_of c u ≡ Some entry → sectors_read c x ≡ sectors
    → entry.uuid ≡ u → disk_at c u ≡ Some (disk_of entry sectors)
shown c u x entry sectors stand recorded are at = made_disk c u x entry stand recorded ∙ ap₂ as_disk (sym at) are
  where
    as_disk : List ℕ → List (List ℕ) → Option Disk
    as_disk v ss = Some (record { uuid = v; label = entry.label; origin = entry.origin; read_only = entry.read_only; sectors = ss })

pub unforked_uuids : uuids (one_disk) ≡ first ∷ []
unfolding uuids with_uuid in_order
unforked_uuids = refl

unforked_stands : standing_volume (one_disk) first ≡ Some (Vhd first)
unfolding standing_volume row_of name_eq
unforked_stands = refl

pub unforked_disks : disks unforked ≡ disk_of first_record (written 17) ∷ []
unfolding disks
unforked_disks =
    ap (filter_map (disk_at unforked)) unforked_uuids
    ∙ ap (λ o. cons_option o [])
    (shown unforked first (Vhd first) first_record (written 17) unforked_stands (ap (find (is_record_of first)) unforked_records) (top_sectors unforked (Vhd first) 17 unforked_image) refl)

-- ---- the images as they are made, and as two sectors of them are written

one_there : rows one_disk (Vhd first) ≡ Some (image_row false (Vhd first) 16)
unfolding row_of name_eq
one_there = refl

pub fresh_there : image_of fresh_disk (Vhd first) ≡ Some (content_at 8 64 160 fresh_image)
fresh_there =
    placed_image one_disk (area_of fresh_image empty empty (first_record ∷ [])) first false 16 (Vhd first) fresh_image one_there refl
    (λ s below. area_first fresh_image empty empty (first_record ∷ []) (32 * 16 + s) s refl below)
    (without_slots footer_sector footer_sector (footer_reads header_sector (table_of []) empty))

pub written_there : image_of written_disk (Vhd first) ≡ Some (content_at 8 64 160 written_image)
written_there =
    placed_image one_disk (area_of written_image empty empty (first_record ∷ [])) first false 16 (Vhd first) written_image one_there refl
    (λ s below. area_first written_image empty empty (first_record ∷ []) (32 * 16 + s) s refl below) written_valid

-- ---- an image over the base

-- the base holds sector 0, filled with this byte
abbrev pub HasBase : Content → ℕ → Type 0
HasBase c byte = image_of c (Vhd base) ≡ Some (top byte)

pub base_top : (c : Content) (byte : ℕ) → HasBase c byte → parent_of c (Vhd base) ≡ None
base_top c byte below = ap (λ o. link_of o >>= (λ i. i.parent)) below ∙ top_parent byte

base_rest : (c : Content) (byte s : ℕ) → HasBase c byte → 1 ≤ s → image_reads c (Vhd base) s ≡ zeros
base_rest c byte s below from = top_zeros c (Vhd base) (top byte) s below (top_behind byte s from) (top_parent byte)

pub over_depth : (c : Content) (byte : ℕ) (x : Name) (i : Image) → HasBase c byte → image_of c x ≡ Some i → i.parent ≡ Some (Vhd base) → depth (outline c) 31 x ≡ 2
over_depth c byte x i below is parent =
    let e = depth_up (outline c) 30 x (Vhd base) (parent-is c x (Vhd base) i is parent) in let f = depth_top (outline c) 29 (Vhd base) (base_top c byte below) in omega (arith, e, f)

over_short : (c : Content) (byte : ℕ) (x : Name) (i : Image) → HasBase c byte → image_of c x ≡ Some i → i.parent ≡ Some (Vhd base) → IsShortChain c x
over_short c byte x i below is parent = let e = over_depth c byte x i below is parent in omega (arith, e)

pub child_parent_is : child.parent ≡ Some (Vhd base)
child_parent_is = child_parent (Vhd base) (table_of []) empty base_named refl

pub child_size_is : child.size ≡ 128
child_size_is = child_size (Vhd base) (table_of []) empty base_named refl

child_reads : (c : Content) (byte : ℕ) (x : Name) (s : ℕ) → HasBase c byte → image_of c x ≡ Some child → s < 128 → image_reads c x s ≡ image_reads c (Vhd base) s
child_reads c byte x s below is low =
    parent_reads c x (Vhd base) child s is (omega (arith, child_size_is, low)) (child_empty s) child_parent_is (over_short c byte x child below is child_parent_is)

-- a child that holds nothing reads as the base
pub child_sectors : (c : Content) (byte : ℕ) (x : Name) → HasBase c byte → image_of c x ≡ Some child → sectors_read c x ≡ written byte
child_sectors c byte x below is =
    sectors_as c x child (sector_of byte) zeros is child_size_is
    (child_reads c byte x 0 below is (omega arith) ∙ held_reads c (Vhd base) (top byte) 0 (sector_of byte) below (omega (arith, top_size byte)) (top_held byte))
    (λ s from low. child_reads c byte x s below is low ∙ base_rest c byte s below from)

-- ---- two disks over a base

abbrev pub pair : Content
pair = content_with fork_8 (area_of (top_image 17) (filled_child (Vhd base) 34) (empty_child (Vhd base)) (first_record ∷ second_record ∷ []))

pub is_pair : two_disks ≡ pair
is_pair = ap (λ t. content_with t (area_of (top_image 17) (filled_child (Vhd base) 34) (empty_child (Vhd base)) (first_record ∷ second_record ∷ []))) is_fork_8

pub pair_base : image_of pair (Vhd base) ≡ Some (top 17)
unfolding row_of name_eq
pair_base =
    placed_image fork_8 pair.area base true 16 (Vhd base) (top_image 17) refl refl
    (λ s below. area_first (top_image 17) (filled_child (Vhd base) 34) (empty_child (Vhd base)) (first_record ∷ second_record ∷ []) (32 * 16 + s) s refl below) (top_valid 17)

pub pair_first : image_of pair (Vhd first) ≡ Some (filled 34)
unfolding row_of name_eq
pair_first =
    placed_image fork_8 pair.area first false 21 (Vhd first) (filled_child (Vhd base) 34) refl refl
    (λ s below. area_second (top_image 17) (filled_child (Vhd base) 34) (empty_child (Vhd base)) (first_record ∷ second_record ∷ []) (32 * 21 + s) s refl below)
    (filled_valid (Vhd base) 34 base_named)

pub pair_second : image_of pair (Vhd second) ≡ Some child
unfolding row_of name_eq
pair_second =
    placed_image fork_8 pair.area second false 26 (Vhd second) (empty_child (Vhd base)) refl refl
    (λ s below. area_third (top_image 17) (filled_child (Vhd base) 34) (empty_child (Vhd base)) (first_record ∷ second_record ∷ []) (32 * 26 + s) s refl below)
    (empty_valid (Vhd base) base_named)

pub filled_held : (filled 34).own 0 ≡ Some (sector_of 34)
filled_held = ap (λ (held : ℕ → Option (List ℕ)). held 0) (sym (held_alike 34)) ∙ top_held 34

pub filled_behind : (s : ℕ) → 1 ≤ s → (filled 34).own s ≡ None
filled_behind s from = ap (λ (held : ℕ → Option (List ℕ)). held s) (sym (held_alike 34)) ∙ top_behind 34 s from

first_sectors : sectors_read pair (Vhd first) ≡ written 34
first_sectors =
    sectors_as pair (Vhd first) (filled 34) (sector_of 34) zeros pair_first (filled_size 34)
    (held_reads pair (Vhd first) (filled 34) 0 (sector_of 34) pair_first (omega (arith, filled_size 34)) filled_held)
    (λ s from below.
    parent_reads pair (Vhd first) (Vhd base) (filled 34) s pair_first (omega (arith, filled_size 34, below)) (filled_behind s from) (filled_parent 34) (over_short pair 17 (Vhd first) (filled 34) pair_base pair_first (filled_parent 34))
    ∙ base_rest pair 17 s pair_base from)

pair_there : HasRecords fork_8
unfolding row_of name_eq
pair_there = refl

pub pair_records : records pair ≡ first_record ∷ second_record ∷ []
pair_records = two_records fork_8 (top_image 17) (filled_child (Vhd base) 34) (empty_child (Vhd base)) first_record second_record pair_there first_right second_right

pub pair_uuids : uuids fork_8 ≡ first ∷ second ∷ base ∷ []
unfolding uuids with_uuid in_order
pair_uuids = refl

pair_stands_first : standing_volume fork_8 first ≡ Some (Vhd first)
unfolding standing_volume row_of name_eq
pair_stands_first = refl

pair_stands_second : standing_volume fork_8 second ≡ Some (Vhd second)
unfolding standing_volume row_of name_eq
pair_stands_second = refl

pair_stands_base : standing_volume fork_8 base ≡ None
unfolding standing_volume row_of name_eq
pair_stands_base = refl

pair_disks : disks pair ≡ disk_of first_record (written 34) ∷ disk_of second_record (written 17) ∷ []
unfolding disks
pair_disks =
    ap (filter_map (disk_at pair)) pair_uuids
    ∙ ap (λ o. cons_option o (cons_option (disk_at pair second) (cons_option (disk_at pair base) [])))
    (shown pair first (Vhd first) first_record (written 34) pair_stands_first (ap (find (is_record_of first)) pair_records) first_sectors refl)
    ∙ ap₂ (λ o q. disk_of first_record (written 34) ∷ cons_option o (cons_option q []))
    (shown pair second (Vhd second) second_record (written 17) pair_stands_second (ap (find (is_record_of second)) pair_records) (child_sectors pair 17 (Vhd second) pair_base pair_second) refl)
    (none_disk pair base pair_stands_base)

pub two_disks_shown : disks two_disks ≡ disk_of first_record (written 34) ∷ disk_of second_record (written 17) ∷ []
two_disks_shown = ap disks is_pair ∙ pair_disks

pub two_disks_image : (n : Name) (i : Image) → image_of pair n ≡ Some i → image_of two_disks n ≡ Some i
two_disks_image n i is = ap (λ c. image_of c n) is_pair ∙ is
