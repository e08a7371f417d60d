-- The worked images against the definition.
use Rattle.std.proofs.Common.{◌≡◌, ◌≢◌, ℕ, ◌+◌, ◌-◌, ◌*◌, ◌/◌, ◌%◌, ◌<◌, ◌≤◌, ◌⊎◌, ◌==◌, ◌++◌, if◌then◌else◌, false, List, [], ◌∷◌, length, get_or, replicate, Some, None, is_some, zero, suc, refl, sym, ap, ap₂, ◌∙◌, inl, inr, ⊎_elim, arith, lit≤, lit<, true}
use Rattle.std.proofs.lemmas.Bool.{true≢false, cond-false, ne_eqb}
use Rattle.std.proofs.lemmas.List.{get_or-replicate, get_or-append_right}
use Rattle.std.specs.Result.{result_ok}
use Rattle.std.proofs.lemmas.Option.{none-some, same_Some}
use lib.Count.{ones}
use Rattle.common_laws.proofs.Options.{option_cases}
use Rattle.sm_base.specs.Numbers.{first, div_up}
use Rattle.vhd_fields.specs.declared.footers.Footer.{Footer}
use Rattle.vhd_fields.specs.declared.headers.Header.{Header}
use Rattle.vhd_fields.specs.Checksums.{checksum}
use Rattle.vhd_fields.specs.Footers.{footer_tests, footer_fields}
use Rattle.vhd_fields.specs.Headers.{header_tests, header_fields, header_read}
use Rattle.vhd_fields.specs.ParentNames.{parent_bytes, parent_read}
use Rattle.vhd_map.specs.Bitmaps.{is_set}
use Rattle.vhd_map.specs.Places.{spot, blank, word}
use Rattle.vhd_layout.specs.Layouts.{Sectors, Layout, layout_of, Slots, IsSlots, entry, code, entries_in_sectors, slot_count}
use Rattle.vhd_layout.specs.Images.{footer_at, header_at, IsFooterOf, IsHeaderOf, IsHead, IsValid, EachSlotHolds}
use Rattle.vhd_layout.specs.Contents.{size_at, parent_at}
use Rattle.examples_vhd.specs.SmallImages.{footer_sector, header_sector, zeros, table_of, empty, volume, written_table, written_slots, written_image, with_table}

-- ---- the head of the worked image

pub the_footer : Footer
the_footer = footer_fields footer_sector

pub the_header : Header
the_header = header_fields (header_sector ++ zeros)

-- footer and header read in a volume that has them
pub footer_reads : (header table : List ℕ) (inside : Sectors) → footer_at 160 (volume footer_sector header table inside footer_sector) ≡ Some the_footer
unfolding footer_at footer_tests footer_fields checksum footer_sector the_footer
footer_reads header table inside = refl

pub copy_reads : (header table : List ℕ) (inside : Sectors) → footer_at 160 (volume footer_sector header table inside zeros) ≡ Some the_footer
unfolding footer_at footer_tests footer_fields checksum footer_sector the_footer
copy_reads header table inside = refl

pub last_reads : (copy header table : List ℕ) (inside : Sectors) → footer_at 160 (volume copy header table inside footer_sector) ≡ Some the_footer
unfolding footer_at footer_tests footer_fields checksum footer_sector the_footer
last_reads copy header table inside = refl

pub header_reads : (copy table last : List ℕ) (inside : Sectors) → inside 2 ≡ zeros → header_at (volume copy header_sector table inside last) ≡ Some the_header
unfolding header_at header_tests header_fields checksum parent_bytes parent_read header_sector the_header ones
header_reads copy table last inside second = ap (λ (s : List ℕ). result_ok (header_read (header_sector ++ s))) second

pub footer_fits : IsFooterOf (layout_of 8 64 16 160) the_footer
unfolding footer_fields footer_sector the_footer
footer_fits = record { kind = inl refl; size = refl; least = lit≤ tt; most = lit≤ tt }

pub header_fits : IsHeaderOf (layout_of 8 64 16 160) the_footer the_header
unfolding footer_fields footer_sector the_footer header_fields header_sector the_header parent_read parent_bytes
header_fits = record { table_offset = refl; entries = refl; block = refl; parent = refl }

pub first_64 : first 64 ≡ 4
unfolding first div_up
first_64 = refl

-- the head of a volume with the worked header, whichever of the two footers there are
pub head-from : (copy table last : List ℕ) (inside : Sectors) → inside 2 ≡ zeros → footer_at 160 (volume copy header_sector table inside last) ≡ Some the_footer → IsHead (layout_of 8 64 16 160) (volume copy header_sector table inside last) the_footer the_header
head-from copy table last inside second reads = record {
  footer_reads = reads;
  footer_fits = footer_fits;
  header_reads = header_reads copy table last inside second;
  header_fits = header_fits;
  room = omega (arith, first_64);
}

-- its size and its parent
pub size-from : (v : Sectors) → footer_at 160 v ≡ Some the_footer → size_at 160 v ≡ 128
unfolding size_at footer_fields footer_sector the_footer
size-from v reads = rw reads refl

pub parent-from : (v : Sectors) → header_at v ≡ Some the_header → parent_at v ≡ None
unfolding parent_at header_fields header_sector the_header parent_read parent_bytes
parent-from v reads = rw reads refl

pub without_parent : is_some (the_header).parent ≡ false
unfolding the_header header_fields header_sector parent_bytes parent_read
without_parent = refl

-- ---- the table

-- the entries of the table's only sector
pub entry-volume : (copy header table last : List ℕ) (inside : Sectors) (b : ℕ) → b < 128 → entry (volume copy header table inside last) b ≡ word table b
entry-volume copy header table last inside b within =
    let row : b / 128 ≡ 0 = omega arith in
    let column : b % 128 ≡ b = omega arith in
    ap₂ (λ (s k : ℕ). word (volume copy header table inside last (3 + s)) k) row column

-- an entry behind the bytes that a table begins with is blank
pub word-table_of : (bytes : List ℕ) (j : ℕ) → length bytes ≤ 4 * j → j < 128 → word (table_of bytes) j ≡ blank
unfolding word
word-table_of bytes j far within =
    let ones_at : (i : ℕ) → length bytes ≤ i → i < 512 → get_or (table_of bytes) i 0 ≡ 255 = λ i low high.
    get_or-append_right bytes (replicate (512 - length bytes) 255) (length bytes) i 0 refl low ∙ get_or-replicate (512 - length bytes) (i - length bytes) 255 0 (omega arith) in
    omega (arith, ones_at (4 * j) far (omega arith), ones_at (4 * j + 1) (omega arith) (omega arith), ones_at (4 * j + 2) (omega arith) (omega arith), ones_at (4 * j + 3) (omega arith) (omega arith))

pub in_sector : (blocks b : ℕ) → b < entries_in_sectors (layout_of 8 64 blocks 160) → b < 128
unfolding entries_in_sectors div_up
in_sector blocks b below = omega arith

pub sector_in : (blocks b : ℕ) → b < 128 → b < entries_in_sectors (layout_of 8 64 blocks 160)
unfolding entries_in_sectors div_up
sector_in blocks b below = omega arith

-- the entry of slot k
pub code-slot : (blocks k : ℕ) → code (layout_of 8 64 blocks 160) (Some k) ≡ 4 + k * 9
unfolding spot
code-slot blocks k = omega (arith, first_64)

pub slots-160 : (blocks : ℕ) → slot_count (layout_of 8 64 blocks 160) ≡ 17
unfolding slot_count
slots-160 blocks = let e = first_64 in omega arith

-- ---- the image as it was made

pub no_slots : Slots
no_slots b = None

pub no_slots_lie : (l : Layout) → IsSlots l no_slots
unfolding no_slots
no_slots_lie l = record {
  sized = λ b k has. absurd (none-some k has);
  fits = λ b k has. absurd (none-some k has);
  once = λ b c k has has'. absurd (none-some k has);
}

pub without_slots : (copy last : List ℕ) → footer_at 160 (volume copy header_sector (table_of []) empty last) ≡ Some the_footer → IsValid 8 64 160 (volume copy header_sector (table_of []) empty last)
unfolding no_slots
without_slots copy last reads = (
  16,
  the_footer,
  the_header,
  no_slots,
  record {
    head = head-from copy (table_of []) last empty refl reads;
    table = λ b below. let near = in_sector 16 b below in
        entry-volume copy header_sector (table_of []) last empty b near ∙ word-table_of [] b (omega arith) near;
    slots = no_slots_lie (layout_of 8 64 16 160);
  },
)

-- ---- the image after a write

pub two_slots : Slots
two_slots b = if b == 0 then Some 0 else if b == 1 then Some 1 else None

-- a block is 0, 1, or a later one
record Which (b : ℕ) : Type 0 where
  cases : ((b ≡ 0) × (two_slots b ≡ Some 0)) ⊎ (((b ≡ 1) × (two_slots b ≡ Some 1)) ⊎ ((2 ≤ b) × (two_slots b ≡ None)))

which : (b : ℕ) → Which b
unfolding two_slots
which zero = record { cases = inl (refl, refl) }
which (suc zero) = record { cases = inr (inl (refl, refl)) }
which (suc (suc b)) = record {
  cases = inr (inr (
    omega arith,
    cond-false (suc (suc b) == 0) (Some 0) (if suc (suc b) == 1 then Some 1 else None) (ne_eqb (suc (suc b)) 0 (λ e. omega (arith, e)))
        ∙ cond-false (suc (suc b) == 1) (Some 1) None (ne_eqb (suc (suc b)) 1 (λ e. omega (arith, e))),
  ));
}

-- a block with slot k is block k
slot_is_block : (b k : ℕ) → two_slots b ≡ Some k → (b ≡ k) × (b < 2)
slot_is_block b k has = ⊎_elim
    (λ h. let e = same_Some 0 k (sym h.1 ∙ has) in (omega (arith, h.0, e), omega (arith, h.0)))
    (λ rest. ⊎_elim
    (λ h. let e = same_Some 1 k (sym h.1 ∙ has) in (omega (arith, h.0, e), omega (arith, h.0)))
    (λ h. absurd (none-some k (sym h.1 ∙ has))) rest)
    ((which b).cases)

two_slots_lie : IsSlots (layout_of 8 64 16 160) two_slots
two_slots_lie = record {
  sized = λ b k has. let h = slot_is_block b k has in omega (arith, h.1);
  fits = λ b k has. let h = slot_is_block b k has in (omega (arith, h.0, h.1), omega (arith, h.0, h.1, slots-160 16));
  once = λ b c k has has'. (slot_is_block b k has).0 ∙ sym (slot_is_block c k has').0;
}

written_zero : word written_table 0 ≡ 4
unfolding word
written_zero = refl

written_one : word written_table 1 ≡ 13
unfolding word
written_one = refl

-- the entries of the written image
written_entry : (b : ℕ) → b < 128 → word written_table b ≡ code (layout_of 8 64 16 160) (two_slots b)
written_entry b near = ⊎_elim
    (λ h. ap (word written_table) h.0 ∙ (written_zero ∙ sym (ap (code (layout_of 8 64 16 160)) h.1 ∙ code-slot 16 0)))
    (λ rest. ⊎_elim
    (λ h. ap (word written_table) h.0 ∙ (written_one ∙ sym (ap (code (layout_of 8 64 16 160)) h.1 ∙ code-slot 16 1)))
    (λ h. word-table_of (0 ∷ 0 ∷ 0 ∷ 4 ∷ 0 ∷ 0 ∷ 0 ∷ 13 ∷ []) b (omega (arith, h.0)) near ∙ sym (ap (code (layout_of 8 64 16 160)) h.1)) rest)
    ((which b).cases)

pub written_valid : IsValid 8 64 160 written_image
written_valid = (
  16,
  the_footer,
  the_header,
  two_slots,
  record {
    head = head-from footer_sector written_table footer_sector written_slots refl (footer_reads header_sector written_table written_slots);
    table = λ b below. let near = in_sector 16 b below in
        entry-volume footer_sector header_sector written_table footer_sector written_slots b near ∙ written_entry b near;
    slots = two_slots_lie;
  },
)

first_block : is_set (written_image (entry written_image 0)) 7 ≡ true
unfolding is_set word
first_block = refl

second_block : is_set (written_image (entry written_image 1)) 0 ≡ true
unfolding is_set word
second_block = refl

pub written_holds : EachSlotHolds 8 64 written_image
written_holds = record { holds = holds }
  where
    holds : (b : ℕ) → b < 64 → entry written_image b ≢ blank → (i : ℕ) × (i < 8) × (is_set (written_image (entry written_image b)) i ≡ true)
    holds b low filled = ⊎_elim
        (λ h. (7, lit< tt, ap (λ (c : ℕ). is_set (written_image (entry written_image c)) 7) h.0 ∙ first_block))
        (λ rest. ⊎_elim
        (λ h. (0, lit< tt, ap (λ (c : ℕ). is_set (written_image (entry written_image c)) 0) h.0 ∙ second_block))
        (λ h. absurd (filled (entry-volume footer_sector header_sector written_table footer_sector written_slots b (omega arith) ∙ word-table_of (0 ∷ 0 ∷ 0 ∷ 4 ∷ 0 ∷ 0 ∷ 0 ∷ 13 ∷ []) b (omega (arith, h.0)) (omega arith)))) rest)
        ((which b).cases)

-- ---- images that are refused

-- footer and header of a valid image are those that read
footer_of : (v : Sectors) (footer : Footer) → footer_at 160 v ≡ Some footer → (h : IsValid 8 64 160 v) → h.1 ≡ footer
footer_of v footer reads h = same_Some h.1 footer (sym h.4.head.footer_reads ∙ reads)

header_of' : (v : Sectors) (header : Header) → header_at v ≡ Some header → (h : IsValid 8 64 160 v) → h.2 ≡ header
header_of' v header reads h = same_Some h.2 header (sym h.4.head.header_reads ∙ reads)

pub no_footer : (v : Sectors) → footer_at 160 v ≡ None → ¬ IsValid 8 64 160 v
no_footer v none h = none-some h.1 (sym none ∙ h.4.head.footer_reads)

pub no_header : (v : Sectors) → header_at v ≡ None → ¬ IsValid 8 64 160 v
no_header v none h = none-some h.2 (sym none ∙ h.4.head.header_reads)

pub fixed_disk : (v : Sectors) (footer : Footer) → footer_at 160 v ≡ Some footer → footer.kind ≡ 2 → ¬ IsValid 8 64 160 v
fixed_disk v footer reads kind h =
    let e = ap (λ (f : Footer). f.kind) (footer_of v footer reads h) in
    ⊎_elim (λ three. omega (arith, e, kind, three)) (λ four. omega (arith, e, kind, four)) h.4.head.footer_fits.kind

pub other_size : (v : Sectors) (footer : Footer) → footer_at 160 v ≡ Some footer → ((blocks : ℕ) → 512 * (blocks * 8) ≡ footer.current → blocks ≤ 64 → ⊥) → ¬ IsValid 8 64 160 v
other_size v footer reads no_blocks h =
    no_blocks h.0 (sym h.4.head.footer_fits.size ∙ ap (λ (f : Footer). f.current) (footer_of v footer reads h)) h.4.head.footer_fits.most

pub other_offset : (v : Sectors) (header : Header) → header_at v ≡ Some header → header.table_offset ≢ 1536 → ¬ IsValid 8 64 160 v
other_offset v header reads other h = other (ap (λ (f : Header). f.table_offset) (sym (header_of' v header reads h)) ∙ h.4.head.header_fits.table_offset)

pub other_entries : (v : Sectors) (header : Header) → header_at v ≡ Some header → header.entries ≢ 64 → ¬ IsValid 8 64 160 v
other_entries v header reads other h = other (ap (λ (f : Header). f.entries) (sym (header_of' v header reads h)) ∙ h.4.head.header_fits.entries)

pub other_block : (v : Sectors) (header : Header) → header_at v ≡ Some header → header.block ≢ 4096 → ¬ IsValid 8 64 160 v
other_block v header reads other h = other (ap (λ (f : Header). f.block) (sym (header_of' v header reads h)) ∙ h.4.head.header_fits.block)

pub no_parent : (v : Sectors) (footer : Footer) (header : Header) → footer_at 160 v ≡ Some footer → header_at v ≡ Some header → footer.kind ≡ 4 → is_some header.parent ≡ false → ¬ IsValid 8 64 160 v
no_parent v footer header reads reads' kind none h =
    let e = ap (λ (f : Footer). f.kind) (footer_of v footer reads h) ∙ kind in
    true≢false (sym (h.4.head.header_fits.parent ∙ ap (λ (k : ℕ). k == 4) e) ∙ (ap (λ (f : Header). is_some f.parent) (header_of' v header reads' h) ∙ none))

-- the slot that an entry of a valid image with this table names
named_slot : (bytes : List ℕ) (h : IsValid 8 64 160 (with_table bytes)) (b : ℕ) → b < 128 → word (table_of bytes) b < blank → (k : ℕ) × (h.3 b ≡ Some k) × (word (table_of bytes) b ≡ 4 + k * 9)
named_slot bytes h b near low =
    let is = sym (entry-volume footer_sector header_sector (table_of bytes) footer_sector empty b near) ∙ h.4.table b (sector_in h.0 b near) in
    ⊎_elim (λ none. absurd (let e = is ∙ ap (code (layout_of 8 64 h.0 160)) none in omega (arith, low, e)))
    (λ some. (some.0, some.1, is ∙ (ap (code (layout_of 8 64 h.0 160)) some.1 ∙ code-slot h.0 some.0)))
    (option_cases (h.3 b))

-- it has 16 blocks
sixteen : (bytes : List ℕ) (h : IsValid 8 64 160 (with_table bytes)) → h.0 ≡ 16
unfolding footer_fields footer_sector the_footer
sixteen bytes h =
    let e = ap (λ (f : Footer). f.current) (footer_of (with_table bytes) the_footer (footer_reads header_sector (table_of bytes) empty) h) in
    let size : (the_footer).current ≡ 65536 = refl in omega (arith, e, size, h.4.head.footer_fits.size)

pub between_slots : (bytes : List ℕ) (e : ℕ) → word (table_of bytes) 0 ≡ e → e < blank → ((k : ℕ) → e ≡ 4 + k * 9 → ⊥) → ¬ IsValid 8 64 160 (with_table bytes)
between_slots bytes e is low none h =
    let slot = named_slot bytes h 0 (omega arith) (omega (arith, is, low)) in none slot.0 (sym is ∙ slot.2)

pub twice : (bytes : List ℕ) → word (table_of bytes) 0 ≡ 4 → word (table_of bytes) 1 ≡ 4 → ¬ IsValid 8 64 160 (with_table bytes)
twice bytes zeroth first h =
    let a = named_slot bytes h 0 (omega arith) (omega (arith, zeroth)) in
    let b = named_slot bytes h 1 (omega arith) (omega (arith, first)) in
    let same : a.0 ≡ b.0 = omega (arith, zeroth, first, a.2, b.2) in
    let one = h.4.slots.once 0 1 b.0 (a.1 ∙ ap Some same) b.1 in omega (arith, one)

pub past_the_size : (bytes : List ℕ) (b : ℕ) → b < 128 → 16 ≤ b → word (table_of bytes) b < blank → ¬ IsValid 8 64 160 (with_table bytes)
past_the_size bytes b near far low h =
    let slot = named_slot bytes h b near low in
    omega (arith, sixteen bytes h, h.4.slots.sized b slot.0 slot.1)

pub past_the_slots : (bytes : List ℕ) → word (table_of bytes) 0 ≡ 157 → ¬ IsValid 8 64 160 (with_table bytes)
past_the_slots bytes is h =
    let slot = named_slot bytes h 0 (omega arith) (omega (arith, is)) in
    let fits = h.4.slots.fits 0 slot.0 slot.1 in
    omega (arith, is, slot.2, fits.1, slots-160 h.0)

five : word (table_of (0 ∷ 0 ∷ 0 ∷ 5 ∷ [])) 0 ≡ 5
unfolding word
five = refl

pub five_refused : ¬ IsValid 8 64 160 (with_table (0 ∷ 0 ∷ 0 ∷ 5 ∷ []))
five_refused = between_slots (0 ∷ 0 ∷ 0 ∷ 5 ∷ []) 5 five (lit< tt) (λ k e. omega (arith, e))
