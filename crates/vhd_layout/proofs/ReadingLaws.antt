-- The test of a volume agrees with the definition of a valid image.
use Rattle.std.proofs.Common.{◌≡◌, ◌≢◌, ℕ, ◌+◌, ◌-◌, ◌*◌, ◌/◌, ◌<◌, ◌≤◌, ◌⊎◌, ◌==◌, ◌&&◌, not, if◌then◌else◌, Bool, true, false, ltb, leb, Decides, Option, Some, None, is_some, refl, sym, ap, ◌∙◌, inl, inr, ⊎_elim, eq-eqb, arith}
use Rattle.std.proofs.lemmas.Bool.{cases_lt, cases_order, cond-true, cond-false, ne_eqb, lt-ltb, le-ltb, le-leb, leb-true, true≢false, and_parts, and_from}
use Rattle.std.proofs.lemmas.Bool.Decides.{Decides-and, Decides-or, Decides-not, Decides-eqb, Decides-ltb, Decides-like, Decides-below_and, Decides-below_or}
use Rattle.std.proofs.lemmas.Nat.{div-mul-add}
use Rattle.std.proofs.lemmas.List.FromFn.{get_or-map-range_with_len}
use Rattle.std.proofs.lemmas.Option.{none-some, same_Some}
use Rattle.common_laws.proofs.Options.{option_cases}
use Rattle.vhd_fields.specs.declared.footers.Footer.{Footer}
use Rattle.vhd_fields.specs.declared.headers.Header.{Header}
use Rattle.vhd_map.specs.Places.{spot, blank}
use Rattle.vhd_layout.specs.Layouts.{Sectors, Layout, IsLayout, layout_of, slot_count, entry, code, entries_in_sectors, Slots, IsSlots}
use Rattle.vhd_layout.specs.Images.{footer_at, header_at, IsFooterOf, IsHeaderOf, IsImage}
use Rattle.vhd_layout.specs.Contents.{size_at, layout_at, slot_number, slot_at}
use Rattle.vhd_layout.specs.Readings.{each_below, some_below, is_footer_of, same_answer, is_header_of, is_head_of, is_entry_of, is_entry_right, is_image_of}
use Rattle.vhd_layout.specs.Laws.{ValidDecided, SlotsOfTable, LayoutAt}
use Rattle.vhd_layout.proofs.ImageLaws.{place-small, layout-of, code-one, content-of_head, in_entries}

-- ---- tests below a number

each : (p : ℕ → Bool) (P : ℕ → Type 0) → ((k : ℕ) → Decides (p k) (P k)) → (n : ℕ) → Decides (each_below p n) ((k : ℕ) → k < n → P k)
unfolding each_below
each p P decides n = Decides-below_and p P (each_below p) decides refl (λ _. refl) n

some : (p : ℕ → Bool) (P : ℕ → Type 0) → ((k : ℕ) → Decides (p k) (P k)) → (n : ℕ) → Decides (some_below p n) ((k : ℕ) × (k < n) × P k)
unfolding some_below
some p P decides n = Decides-below_or p P (some_below p) decides refl (λ _. refl) n

leb_decides : (a b : ℕ) → Decides (leb a b) (a ≤ b)
leb_decides a b = (λ e. leb-true a b e, λ h. le-leb a b h)

-- ---- the head

same_answer_decides : (a b : Bool) → Decides (same_answer a b) (a ≡ b)
same_answer_decides true true = (λ _. refl, λ _. refl)
same_answer_decides true false = (λ e. absurd (true≢false (sym e)), λ e. absurd (true≢false e))
same_answer_decides false true = (λ e. absurd (true≢false (sym e)), λ e. absurd (true≢false (sym e)))
same_answer_decides false false = (λ _. refl, λ _. refl)

footer_decides : (l : Layout) (footer : Footer) → Decides (is_footer_of l footer) (IsFooterOf l footer)
footer_decides l footer = Decides-like (is_footer_of l footer)
    (λ h. record { kind = h.0; size = h.1.0; least = h.1.1.0; most = h.1.1.1 })
    (λ h. (h.kind, (h.size, (h.least, h.most))))
    (Decides-and _ _ (Decides-or _ _ (Decides-eqb footer.kind 3) (Decides-eqb footer.kind 4))
    (Decides-and _ _ (Decides-eqb footer.current (512 * (l.blocks * l.block))) (Decides-and _ _ (leb_decides 1 l.blocks) (leb_decides l.blocks l.entries))))

header_decides : (l : Layout) (footer : Footer) (header : Header) → Decides (is_header_of l footer header) (IsHeaderOf l footer header)
header_decides l footer header = Decides-like (is_header_of l footer header)
    (λ h. record { table_offset = h.0; entries = h.1.0; block = h.1.1.0; parent = h.1.1.1 })
    (λ h. (h.table_offset, (h.entries, (h.block, h.parent))))
    (Decides-and _ _ (Decides-eqb header.table_offset 1536)
    (Decides-and _ _ (Decides-eqb header.entries l.entries)
    (Decides-and _ _ (Decides-eqb header.block (512 * l.block)) (same_answer_decides (is_some header.parent) (footer.kind == 4)))))

-- ---- one entry

-- entry b names slot k of the image, and no entry in front of it is the same
pub record Right (l : Layout) (v : Sectors) (b : ℕ) : Type 0 where
  sized : b < l.blocks
  fits : slot_number l (entry v b) < l.entries
  within : slot_number l (entry v b) < slot_count l
  named : code l (Some (slot_number l (entry v b))) ≡ entry v b
  new : ¬ ((c : ℕ) × (c < b) × (entry v c ≡ entry v b))

pub entry_decides : (l : Layout) (v : Sectors) (b : ℕ) → Decides (is_entry_right l v b) ((entry v b ≡ blank) ⊎ Right l v b)
unfolding is_entry_right is_entry_of
entry_decides l v b = Decides-or _ _ (Decides-eqb (entry v b) blank)
    (Decides-like (is_entry_of l b (entry v b) && not (some_below (λ c. entry v c == entry v b) b))
    (λ h. record { sized = h.0.0; fits = h.0.1.0; within = h.0.1.1.0; named = h.0.1.1.1; new = h.1 })
    (λ h. ((h.sized, (h.fits, (h.within, h.named))), h.new))
    (Decides-and _ _
    (Decides-and _ _ (Decides-ltb b l.blocks) (Decides-and _ _ (Decides-ltb (slot_number l (entry v b)) l.entries)
    (Decides-and _ _ (Decides-ltb (slot_number l (entry v b)) (slot_count l)) (Decides-eqb (code l (Some (slot_number l (entry v b)))) (entry v b)))))
    (Decides-not _ (some (λ c. entry v c == entry v b) (λ c. entry v c ≡ entry v b) (λ c. Decides-eqb (entry v c) (entry v b)) b))))

-- ---- the slot that an entry names

slot_number-code : (l : Layout) (k : ℕ) → slot_number l (code l (Some k)) ≡ k
unfolding spot slot_number
slot_number-code l k =
    let after : code l (Some k) - l.first ≡ k * (1 + l.block) + 0 = omega arith in
    ap (λ (n : ℕ). n / (1 + l.block)) after ∙ div-mul-add k (1 + l.block) 0 (omega arith)

slot_at-blank : (l : Layout) (v : Sectors) (b : ℕ) → entry v b ≡ blank → slot_at l v b ≡ None
unfolding slot_at
slot_at-blank l v b is = cond-true (entry v b == blank) None (Some (slot_number l (entry v b))) (eq-eqb (entry v b) blank is)

slot_at-named : (l : Layout) (v : Sectors) (b : ℕ) → entry v b ≢ blank → slot_at l v b ≡ Some (slot_number l (entry v b))
unfolding slot_at
slot_at-named l v b filled = cond-false (entry v b == blank) None (Some (slot_number l (entry v b))) (ne_eqb (entry v b) blank filled)

-- it is that of a map whose entry it is
slot_at-code : (l : Layout) (v : Sectors) (b : ℕ) (o : Option ℕ) → IsLayout l → ((k : ℕ) → o ≡ Some k → k < l.entries) → entry v b ≡ code l o → slot_at l v b ≡ o
slot_at-code l v b None ok small is = slot_at-blank l v b is
slot_at-code l v b (Some k) ok small is =
    let low = place-small l k ok (small k refl) in
    slot_at-named l v b (λ e. omega (arith, low, sym is ∙ e)) ∙ ap Some (ap (slot_number l) is ∙ slot_number-code l k)

-- ---- from the test to the image

-- the map that the table gives
map_at : Layout → Sectors → Slots
map_at l v b = if ltb b (entries_in_sectors l) then slot_at l v b else None

map_at-near : (l : Layout) (v : Sectors) (b : ℕ) → b < entries_in_sectors l → map_at l v b ≡ slot_at l v b
unfolding map_at
map_at-near l v b near = cond-true (ltb b (entries_in_sectors l)) (slot_at l v b) None (lt-ltb b (entries_in_sectors l) near)

map_at-far : (l : Layout) (v : Sectors) (b : ℕ) → entries_in_sectors l ≤ b → map_at l v b ≡ None
unfolding map_at
map_at-far l v b far = cond-false (ltb b (entries_in_sectors l)) (slot_at l v b) None (le-ltb b (entries_in_sectors l) far)

head_parts : (l : Layout) (o : Option Footer) (p : Option Header) → is_head_of l o p ≡ true → (footer : Footer) × (header : Header) × (o ≡ Some footer) × (p ≡ Some header) × IsFooterOf l footer × IsHeaderOf l footer header
head_parts l None p passes = absurd (true≢false (sym passes))
head_parts l (Some footer) None passes = absurd (true≢false (sym passes))
head_parts l (Some footer) (Some header) passes =
    let parts = and_parts (is_footer_of l footer) (is_header_of l footer header) passes in
    (footer, header, refl, refl, (footer_decides l footer).0 parts.0, (header_decides l footer header).0 parts.1)

module _ (l : Layout) (v : Sectors) (ok : IsLayout l) (rights : (b : ℕ) → b < entries_in_sectors l → (entry v b ≡ blank) ⊎ Right l v b) where
  -- an entry that names a slot is not blank
  filled : (b : ℕ) → Right l v b → entry v b ≢ blank
  filled b right e = let low = place-small l (slot_number l (entry v b)) ok right.fits in omega (arith, low, right.named, e)

  table_is : (b : ℕ) → b < entries_in_sectors l → entry v b ≡ code l (map_at l v b)
  table_is b near = ⊎_elim
      (λ e. e ∙ sym (ap (code l) (map_at-near l v b near ∙ slot_at-blank l v b e)))
      (λ right. sym (ap (code l) (map_at-near l v b near ∙ slot_at-named l v b (filled b right)) ∙ right.named))
      (rights b near)

  -- a block that has a slot has a right entry, which names that slot
  right_of : (b k : ℕ) → map_at l v b ≡ Some k → Right l v b × (slot_number l (entry v b) ≡ k)
  right_of b k has = ⊎_elim
      (λ near. ⊎_elim
      (λ e. absurd (none-some k (sym (map_at-near l v b near ∙ slot_at-blank l v b e) ∙ has)))
      (λ right. (right, same_Some (slot_number l (entry v b)) k (sym (map_at-near l v b near ∙ slot_at-named l v b (filled b right)) ∙ has)))
      (rights b near))
      (λ far. absurd (none-some k (sym (map_at-far l v b far) ∙ has)))
      (cases_lt b (entries_in_sectors l))

  entry_of : (b k : ℕ) → map_at l v b ≡ Some k → entry v b ≡ code l (Some k)
  entry_of b k has = let right = right_of b k has in sym (ap (λ (j : ℕ). code l (Some j)) (sym right.1) ∙ right.0.named)

  slots_are : IsSlots l (map_at l v)
  slots_are = record {
    sized = λ b k has. (right_of b k has).0.sized;
    fits = λ b k has. let right = right_of b k has in (omega (arith, right.0.fits, right.1), omega (arith, right.0.within, right.1));
    once = λ b c k has has'. ⊎_elim (λ e. e)
        (λ apart. ⊎_elim
        (λ less. absurd ((right_of c k has').0.new (b, less, entry_of b k has ∙ sym (entry_of c k has'))))
        (λ more. absurd ((right_of b k has).0.new (c, more, entry_of c k has' ∙ sym (entry_of b k has)))) apart)
        (cases_order b c);
  }

image-from_test : (l : Layout) (v : Sectors) → IsLayout l → is_image_of l v ≡ true → (footer : Footer) × (header : Header) × (m : Slots) × IsImage l v footer header m
unfolding is_image_of
image-from_test l v ok passes =
    let parts = and_parts (is_head_of l (footer_at l.sectors v) (header_at v)) (leb (l.first + 1) l.sectors && each_below (is_entry_right l v) (entries_in_sectors l)) passes in
    let rest = and_parts (leb (l.first + 1) l.sectors) (each_below (is_entry_right l v) (entries_in_sectors l)) parts.1 in
    let head = head_parts l (footer_at l.sectors v) (header_at v) parts.0 in
    let rights = (each (is_entry_right l v) (λ b. (entry v b ≡ blank) ⊎ Right l v b) (entry_decides l v) (entries_in_sectors l)).0 rest.1 in (
      head.0,
      head.1,
      map_at l v,
      record {
        head = record { footer_reads = head.2; footer_fits = head.4; header_reads = head.3; header_fits = head.5; room = leb-true (l.first + 1) l.sectors rest.0 };
        table = table_is l v ok rights;
        slots = slots_are l v ok rights;
      },
    )

-- ---- from the image to the test

right-from_image : (l : Layout) (v : Sectors) (footer : Footer) (header : Header) (m : Slots) → IsLayout l → IsImage l v footer header m → (b : ℕ) → b < entries_in_sectors l → (entry v b ≡ blank) ⊎ Right l v b
right-from_image l v footer header m ok image b near = ⊎_elim
    (λ none. inl (image.table b near ∙ ap (code l) none))
    (λ some.
    let is = image.table b near ∙ ap (code l) some.1 in
    let number = ap (slot_number l) is ∙ slot_number-code l some.0 in
    let fits = image.slots.fits b some.0 some.1 in
    inr (record {
      sized = image.slots.sized b some.0 some.1;
      fits = omega (arith, number, fits.0);
      within = omega (arith, number, fits.1);
      named = ap (λ (k : ℕ). code l (Some k)) number ∙ sym is;
      new = λ h. let before : m h.0 ≡ m b = code-one l m (λ _. m b) h.0 ok (λ k has. (image.slots.fits h.0 k has).0) (λ k has. (image.slots.fits b k has).0) (sym (image.table h.0 (omega (arith, h.1))) ∙ (h.2 ∙ image.table b near)) in
          let one = image.slots.once h.0 b some.0 (before ∙ some.1) some.1 in omega (arith, one, h.1);
    }))
    (option_cases (m b))

test-from_image : (l : Layout) (v : Sectors) (footer : Footer) (header : Header) (m : Slots) → IsLayout l → IsImage l v footer header m → is_image_of l v ≡ true
unfolding is_image_of
test-from_image l v footer header m ok image =
    let head = image.head in
    let reads : is_head_of l (footer_at l.sectors v) (header_at v) ≡ true = rw (head.footer_reads, head.header_reads) (and_from (is_footer_of l footer) (is_header_of l footer header) ((footer_decides l footer).1 head.footer_fits) ((header_decides l footer header).1 head.header_fits)) in
    and_from (is_head_of l (footer_at l.sectors v) (header_at v)) (leb (l.first + 1) l.sectors && each_below (is_entry_right l v) (entries_in_sectors l)) reads
    (and_from (leb (l.first + 1) l.sectors) (each_below (is_entry_right l v) (entries_in_sectors l)) (le-leb (l.first + 1) l.sectors head.room)
    ((each (is_entry_right l v) (λ b. (entry v b ≡ blank) ⊎ Right l v b) (entry_decides l v) (entries_in_sectors l)).1 (right-from_image l v footer header m ok image)))

-- ---- the laws

pub layout-at : LayoutAt
layout-at block entries blocks sectors v footer header wide head =
    let size = (content-of_head (layout_of block entries blocks sectors) v footer header head).0 in
    let whole : size_at sectors v ≡ blocks * block + 0 = omega (arith, size) in
    ap (λ (k : ℕ). layout_of block entries k sectors) (ap (λ (n : ℕ). n / block) whole ∙ div-mul-add blocks block 0 (omega arith))

pub valid-decided : ValidDecided
valid-decided extent block entries sectors v geometry = (
  λ passes. let found = image-from_test (layout_at block entries sectors v) v (layout-of extent block entries (size_at sectors v / block) sectors geometry) passes in
      (size_at sectors v / block, found.0, found.1, found.2, found.3),
  λ valid. let wide = geometry.block_least in
      let same = layout-at block entries valid.0 sectors v valid.1 valid.2 wide valid.4.head in
      ap (λ (l : Layout). is_image_of l v) same ∙ test-from_image (layout_of block entries valid.0 sectors) v valid.1 valid.2 valid.3 (layout-of extent block entries valid.0 sectors geometry) valid.4,
)

pub slots-of_table : SlotsOfTable
slots-of_table l v footer header m b ok image below =
    get_or-map-range_with_len (slot_at l v) 0 l.entries b b None below (omega arith) ∙ slot_at-code l v b (m b) ok (λ k has. (image.slots.fits b k has).0) (image.table b (in_entries l b below))
