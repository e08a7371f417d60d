-- The worked images are valid.
use Rattle.std.proofs.Common.{◌≡◌, ◌⊎◌, inl, inr, ⊎_elim, ℕ, zero, suc, ◌+◌, ◌/◌, ◌%◌, ◌^◌, ◌<◌, ◌≤◌, ◌==◌, ◌++◌, Bool, true, false, cond, nat_lt, List, [], ◌∷◌, take, replicate, Option, Some, None, refl, sym, ap, ◌∙◌, arith, lit≤, lit<}
use Rattle.std.specs.Option.{option_or}
use Rattle.std.specs.Result.{result_ok}
use Rattle.std.proofs.lemmas.List.{take-append-drop}
use lib.Count.{ones}
use Rattle.sm_base.specs.declared.names.Name.{Name}
use Rattle.vhd_fields.specs.declared.footers.Footer.{Footer}
use Rattle.vhd_fields.specs.Footers.{footer_bytes, footer_read, IsFooter, FooterFits}
use Rattle.vhd_fields.specs.Headers.{header_bytes, header_read, IsHeader, HeaderFits}
use Rattle.vhd_fields.specs.ParentNames.{IsParent}
use Rattle.vhd_fields.proofs.FooterLaws.{reads_back}
use Rattle.vhd_fields.proofs.HeaderLaws.{reads_back as header_reads_back, second_sector}
use Rattle.vhd_layout.specs.Contents.{size_at, parent_at, own, value}
use Rattle.examples_vhd.specs.SmallImages.{footer_sector, header_sector, zeros, table_of, empty, volume}
use Rattle.vhd_layout.specs.Images.{IsFooterOf, IsHead, IsImage, IsValid, footer_at, header_at}
use Rattle.vhd_layout.specs.Layouts.{Sectors, Slots, IsSlots, entry, code, layout_of}
use Rattle.examples_vhd.proofs.SmallImageLaws.{first_64, slots-160, code-slot, in_sector, entry-volume, word-table_of, the_footer, the_header, head-from, size-from, parent-from, footer_reads, header_reads}
use Rattle.vhd_layout.proofs.ImageLaws.{content-of_head}
use Rattle.vhd_map.specs.Bitmaps.{is_set}
use Rattle.vhd_map.specs.Places.{blank, word}
use Rattle.std.proofs.lemmas.Option.{none-some}
use Rattle.std.proofs.lemmas.Bool.{lt-ltb, le-ltb, cases_lt, ne_eqb}
use Rattle.examples_moments.proofs.PieceLaws.{inside_own}
use Rattle.examples_moments.specs.WorkedImages.{footer_of, child_footer, child_header, child_image, one_entry, one_slot, sector_of, top_image, filled_child, empty_child}

pub footer_room : (kind original current : ℕ) → kind < 2 ^ 32 → original < 2 ^ 64 → current < 2 ^ 64 → FooterFits (footer_of kind original current)
footer_room kind original current small few many = record {
  stamp = lit< tt;
  creator = refl;
  creator_version = lit< tt;
  host = lit< tt;
  original = few;
  current = many;
  kind = small;
  data_offset = lit< tt;
  uid = refl;
}

-- a footer that reads as it was written, of a disk of so many blocks
pub record IsRight (blocks : ℕ) (footer : Footer) : Type 0 where
  pub right : IsFooter footer
  pub room : FooterFits footer
  pub fits : IsFooterOf (layout_of 8 64 blocks 160) footer

child_right : IsRight 16 child_footer
child_right = record {
  right = record { data_offset = refl; size = refl; kind = refl };
  room = footer_room 4 65536 65536 (lit< tt) (lit< tt) (lit< tt);
  fits = record { kind = inr refl; size = refl; least = lit≤ tt; most = lit≤ tt };
}

-- the footer of a volume whose last sector it is
pub last_footer : (blocks : ℕ) (footer : Footer) (v : Sectors) → IsRight blocks footer → v 159 ≡ footer_bytes footer → footer_at 160 v ≡ Some footer
unfolding footer_at
last_footer blocks footer v h last =
    ap (λ bytes. option_or (result_ok (footer_read bytes)) (result_ok (footer_read (v 0)))) last
    ∙ ap (λ r. option_or (result_ok r) (result_ok (footer_read (v 0)))) (reads_back footer h.right h.room)

header_right : (parent : Name) → IsParent (Some parent) → IsHeader (child_header parent)
unfolding ones
header_right parent named = record { table_offset = refl; entries = refl; block = refl; parent = named }

header_room : (parent : Name) → HeaderFits (child_header parent)
header_room parent = record { table_offset = lit< tt; entries = lit< tt; block = lit< tt; parent_uid = refl; parent_stamp = lit< tt }

header_whole : (parent : Name) → IsParent (Some parent) → take 512 (header_bytes (child_header parent)) ++ replicate 512 0 ≡ header_bytes (child_header parent)
header_whole parent named =
    ap (λ s. take 512 (header_bytes (child_header parent)) ++ s) (sym (second_sector (child_header parent) (header_room parent) named))
    ∙ take-append-drop 512 (header_bytes (child_header parent))

child_head : (parent : Name) (table : List ℕ) (slots : Sectors) → IsParent (Some parent) → slots 2 ≡ zeros
    → IsHead (layout_of 8 64 16 160) (child_image parent table slots) child_footer (child_header parent)
unfolding child_image header_at
child_head parent table slots named second = record {
  footer_reads = last_footer 16 child_footer (child_image parent table slots) child_right refl;
  footer_fits = child_right.fits;
  header_reads =
      ap (λ s. result_ok (header_read (take 512 (header_bytes (child_header parent)) ++ s))) second
      ∙ ap (λ bytes. result_ok (header_read bytes)) (header_whole parent named)
      ∙ ap (λ r. result_ok r) (header_reads_back (child_header parent) (header_right parent named) (header_room parent));
  header_fits = record { table_offset = refl; entries = refl; block = refl; parent = refl };
  room = omega (arith, first_64);
}

-- ---- the empty child

abbrev no_slots : Slots
no_slots b = None

no_slots_lie : IsSlots (layout_of 8 64 16 160) no_slots
no_slots_lie = record {
  sized = λ b k has. absurd (none-some k has);
  fits = λ b k has. absurd (none-some k has);
  once = λ b c k has has'. absurd (none-some k has);
}

pub empty_valid : (parent : Name) → IsParent (Some parent) → IsValid 8 64 160 (empty_child parent)
unfolding child_image
empty_valid parent named = (
  16,
  child_footer,
  child_header parent,
  no_slots,
  record {
    head = child_head parent (table_of []) empty named refl;
    table = λ b below. let near = in_sector 16 b below in
        entry-volume (footer_bytes child_footer) (take 512 (header_bytes (child_header parent))) (table_of []) (footer_bytes child_footer) empty b near ∙ word-table_of [] b (omega arith) near;
    slots = no_slots_lie;
  },
)

empty_value : (parent : Name) (b i : ℕ) → b < 128 → value (empty_child parent) b i ≡ None
unfolding value child_image
empty_value parent b i near =
    ap (λ e. cond (e == blank) None (cond (is_set (empty_child parent e) i) (Some (empty_child parent (e + (1 + i)))) None))
    (entry-volume (footer_bytes child_footer) (take 512 (header_bytes (child_header parent))) (table_of []) (footer_bytes child_footer) empty b near
    ∙ word-table_of [] b (omega arith) near)

own_none : (v : Sectors) (n s : ℕ) → n ≤ 1024 → ((b i : ℕ) → b < 128 → value v b i ≡ None) → (s < n) ⊎ (n ≤ s) → own 8 n v s ≡ None
unfolding own
own_none v n s few none (inl below) = both (nat_lt s n) (value v (s / 8) (s % 8)) (none (s / 8) (s % 8) (omega arith))
  where
    both : (b : Bool) (o : Option (List ℕ)) → o ≡ None → cond b o None ≡ None
    both true o is = is
    both false o is = refl
own_none v n s few none (inr past) = ap (λ b. cond b (value v (s / 8) (s % 8)) None) (le-ltb s n past)

pub empty_own : (parent : Name) (n s : ℕ) → n ≤ 1024 → own 8 n (empty_child parent) s ≡ None
empty_own parent n s few = own_none (empty_child parent) n s few (empty_value parent) (cases_lt s n)

pub child_size : (parent : Name) (table : List ℕ) (slots : Sectors) → IsParent (Some parent) → slots 2 ≡ zeros → size_at 160 (child_image parent table slots) ≡ 128
child_size parent table slots named second =
    (content-of_head (layout_of 8 64 16 160) (child_image parent table slots) child_footer (child_header parent) (child_head parent table slots named second)).0

pub child_parent : (parent : Name) (table : List ℕ) (slots : Sectors) → IsParent (Some parent) → slots 2 ≡ zeros → parent_at (child_image parent table slots) ≡ Some parent
child_parent parent table slots named second =
    (content-of_head (layout_of 8 64 16 160) (child_image parent table slots) child_footer (child_header parent) (child_head parent table slots named second)).1

-- ---- images that hold sector 0 alone

pub one_at : Slots
one_at b = cond (b == 0) (Some 0) None

record Which (b : ℕ) : Type 0 where
  cases : ((b ≡ 0) × (one_at b ≡ Some 0)) ⊎ ((1 ≤ b) × (one_at b ≡ None))

which : (b : ℕ) → Which b
unfolding one_at
which zero = record { cases = inl (refl, refl) }
which (suc b) = record { cases = inr (omega arith, ap (λ t. cond t (Some 0) None) (ne_eqb (suc b) 0 (λ e. omega (arith, e)))) }

pub only_zero : (b k : ℕ) → one_at b ≡ Some k → (b ≡ 0) × (k ≡ 0)
only_zero b k has = ⊎_elim (λ h. (h.0, let e = sym h.1 ∙ has in (let x = e in cc))) (λ h. absurd (none-some k (sym h.1 ∙ has))) (which b).cases

one_lies : IsSlots (layout_of 8 64 16 160) one_at
one_lies = record {
  sized = λ b k has. let h = only_zero b k has in omega (arith, h.0);
  fits = λ b k has. let h = only_zero b k has in (omega (arith, h.1), omega (arith, h.1, slots-160 16));
  once = λ b c k has has'. (only_zero b k has).0 ∙ sym (only_zero c k has').0;
}

first_word : word one_entry 0 ≡ 4
unfolding word
first_word = refl

one_word : (b : ℕ) → b < 128 → word one_entry b ≡ code (layout_of 8 64 16 160) (one_at b)
one_word b near = ⊎_elim
    (λ h. ap (word one_entry) h.0 ∙ (first_word ∙ sym (ap (code (layout_of 8 64 16 160)) h.1 ∙ code-slot 16 0)))
    (λ h. word-table_of (0 ∷ 0 ∷ 0 ∷ 4 ∷ []) b (omega (arith, h.0)) near ∙ sym (ap (code (layout_of 8 64 16 160)) h.1)) (which b).cases

pub top_laid : (byte : ℕ) → IsImage (layout_of 8 64 16 160) (top_image byte) the_footer the_header one_at
top_laid byte = record {
  head = head-from footer_sector one_entry footer_sector (one_slot byte) refl (footer_reads header_sector one_entry (one_slot byte));
  table = λ b below. let near = in_sector 16 b below in
      entry-volume footer_sector header_sector one_entry footer_sector (one_slot byte) b near ∙ one_word b near;
  slots = one_lies;
}

pub top_valid : (byte : ℕ) → IsValid 8 64 160 (top_image byte)
top_valid byte = (16, the_footer, the_header, one_at, top_laid byte)

pub filled_laid : (parent : Name) (byte : ℕ) → IsParent (Some parent) → IsImage (layout_of 8 64 16 160) (filled_child parent byte) child_footer (child_header parent) one_at
unfolding child_image
filled_laid parent byte named = record {
  head = child_head parent one_entry (one_slot byte) named refl;
  table = λ b below. let near = in_sector 16 b below in
      entry-volume (footer_bytes child_footer) (take 512 (header_bytes (child_header parent))) one_entry (footer_bytes child_footer) (one_slot byte) b near ∙ one_word b near;
  slots = one_lies;
}

pub filled_valid : (parent : Name) (byte : ℕ) → IsParent (Some parent) → IsValid 8 64 160 (filled_child parent byte)
filled_valid parent byte named = (16, child_footer, child_header parent, one_at, filled_laid parent byte named)

pub top_size : (byte : ℕ) → size_at 160 (top_image byte) ≡ 128
top_size byte = size-from (top_image byte) (footer_reads header_sector one_entry (one_slot byte))

pub top_parent : (byte : ℕ) → parent_at (top_image byte) ≡ None
top_parent byte = parent-from (top_image byte) (header_reads footer_sector one_entry footer_sector (one_slot byte) refl)

-- behind the header and in front of the footer an image is its table and its slots
volume_inside : (copy header table last : List ℕ) (slots : Sectors) (s : ℕ) → 2 ≤ s → s < 159 → volume copy header table slots last s ≡ cond (s == 3) table (slots s)
volume_inside copy header table last slots s from below =
    ap (λ b. cond b copy (cond (s == 1) header (cond (s == 3) table (cond (s == 159) last (slots s))))) (ne_eqb s 0 (λ e. omega (arith, e)))
    ∙ ap (λ b. cond b header (cond (s == 3) table (cond (s == 159) last (slots s)))) (ne_eqb s 1 (λ e. omega (arith, e)))
    ∙ ap (λ b. cond (s == 3) table (cond b last (slots s))) (ne_eqb s 159 (λ e. omega (arith, e)))

-- the child holds what the image without a parent holds
pub filled_own : (parent : Name) (byte n : ℕ) → n ≤ 1024 → own 8 n (filled_child parent byte) ≡ own 8 n (top_image byte)
unfolding child_image
filled_own parent byte n few =
    inside_own (filled_child parent byte) (top_image byte) n few
    (λ s from below. volume_inside (footer_bytes child_footer) (take 512 (header_bytes (child_header parent))) one_entry (footer_bytes child_footer) (one_slot byte) s from below
    ∙ sym (volume_inside footer_sector header_sector one_entry footer_sector (one_slot byte) s from below)) (top_valid byte)

-- which is sector 0
pub top_first : (byte n : ℕ) → 1 ≤ n → own 8 n (top_image byte) 0 ≡ Some (sector_of byte)
unfolding own value is_set word
top_first byte n some = ap (λ b. cond b (Some (sector_of byte)) None) (lt-ltb 0 n some)

other_bit : (i : ℕ) → i < 8 → 1 ≤ i → is_set (128 ∷ replicate 511 0) i ≡ false
unfolding is_set
other_bit zero low from = absurd (omega arith)
other_bit (suc zero) low from = refl
other_bit (suc (suc zero)) low from = refl
other_bit (suc (suc (suc zero))) low from = refl
other_bit (suc (suc (suc (suc zero)))) low from = refl
other_bit (suc (suc (suc (suc (suc zero))))) low from = refl
other_bit (suc (suc (suc (suc (suc (suc zero)))))) low from = refl
other_bit (suc (suc (suc (suc (suc (suc (suc zero))))))) low from = refl
other_bit (suc (suc (suc (suc (suc (suc (suc (suc i)))))))) low from = absurd (omega arith)

value_by : (v : Sectors) (b i e : ℕ) → entry v b ≡ e → value v b i ≡ cond (e == blank) None (cond (is_set (v e) i) (Some (v (e + (1 + i)))) None)
unfolding value
value_by v b i e is = ap (λ k. cond (k == blank) None (cond (is_set (v k) i) (Some (v (k + (1 + i)))) None)) is

top_entry : (byte b : ℕ) → b < 128 → entry (top_image byte) b ≡ word one_entry b
top_entry byte b near = entry-volume footer_sector header_sector one_entry footer_sector (one_slot byte) b near

top_value : (byte b i : ℕ) → b < 128 → i < 8 → (b ≡ 0) ⊎ (1 ≤ b) → (1 ≤ b) ⊎ (1 ≤ i) → value (top_image byte) b i ≡ None
top_value byte b i near low (inr far) other =
    value_by (top_image byte) b i blank (top_entry byte b near ∙ word-table_of (0 ∷ 0 ∷ 0 ∷ 4 ∷ []) b (omega arith) near)
top_value byte b i near low (inl at) (inl far) = absurd (omega (arith, at, far))
top_value byte b i near low (inl at) (inr from) =
    value_by (top_image byte) b i 4 (top_entry byte b near ∙ ap (word one_entry) at ∙ first_word)
    ∙ ap (λ t. cond t (Some (top_image byte (4 + (1 + i)))) None) (other_bit i low from)

which_block : (b : ℕ) → (b ≡ 0) ⊎ (1 ≤ b)
which_block zero = inl refl
which_block (suc b) = inr (omega arith)

which_part : (s : ℕ) → 1 ≤ s → (1 ≤ s / 8) ⊎ (1 ≤ s % 8)
which_part s from = by (which_block (s / 8))
  where
    by : (s / 8 ≡ 0) ⊎ (1 ≤ s / 8) → (1 ≤ s / 8) ⊎ (1 ≤ s % 8)
    by (inl none) = inr (omega (arith, none))
    by (inr some) = inl some

top_rest-step : (byte n s : ℕ) → n ≤ 1024 → 1 ≤ s → (s < n) ⊎ (n ≤ s) → own 8 n (top_image byte) s ≡ None
unfolding own
top_rest-step byte n s few from (inl below) =
    ap (λ b. cond b (value (top_image byte) (s / 8) (s % 8)) None) (lt-ltb s n below)
    ∙ top_value byte (s / 8) (s % 8) (omega arith) (omega arith) (which_block (s / 8)) (which_part s from)
top_rest-step byte n s few from (inr past) = ap (λ b. cond b (value (top_image byte) (s / 8) (s % 8)) None) (le-ltb s n past)

pub top_rest : (byte n s : ℕ) → n ≤ 1024 → 1 ≤ s → own 8 n (top_image byte) s ≡ None
top_rest byte n s few from = top_rest-step byte n s few from (cases_lt s n)
