-- Two volumes whose tables and slots are the same hold the same image, but for the head.
use Rattle.std.proofs.Common.{◌≡◌, ◌≢◌, ℕ, ◌+◌, ◌-◌, ◌*◌, ◌/◌, ◌%◌, ◌<◌, ◌≤◌, if◌then◌else◌, List, true, Option, Some, None, refl, sym, ap, ◌∙◌, ⊎_elim, arith}
use Rattle.std.specs.Option.{option_map_or}
use Rattle.std.proofs.lemmas.Bool.{cases_lt, lt-ltb, le-ltb, cond-true, cond-false}
use Rattle.std.proofs.lemmas.Nat.{div_below, le-div}
use Rattle.vhd_fields.specs.declared.footers.Footer.{Footer}
use Rattle.vhd_fields.specs.declared.headers.Header.{Header}
use Rattle.vhd_map.specs.Bitmaps.{is_set}
use Rattle.vhd_map.specs.Places.{blank, word}
use Rattle.vhd_layout.specs.Layouts.{Sectors, Layout, IsLayout, layout_of, place, slot_count, entry, code, entries_in_sectors, Slots}
use Rattle.vhd_layout.specs.Images.{IsImage, IsFooterOf, IsHeaderOf, EachSlotHolds, footer_at, header_at}
use Rattle.vhd_layout.specs.Contents.{own, value, size_at, parent_at}
use Rattle.vhd_layout.proofs.ImageLaws.{option_cases, table-first, value-with_slot, value-without_slot, in_entries, content-of_head}
use Rattle.vhd_volumes.specs.Writes.{own_in}
use Rattle.vhd_image.specs.Changes.{SaysSame}

-- the table and the slots of a map are the same in both
pub record SameBody (l : Layout) (m : Slots) (v w : Sectors) : Type 0 where
  pub table : (i : ℕ) → 3 + i < l.first → w (3 + i) ≡ v (3 + i)
  pub slots : (b k j : ℕ) → m b ≡ Some k → j < 1 + l.block → w (place l k j) ≡ v (place l k j)

pub size-same : (n : ℕ) (v w : Sectors) → footer_at n w ≡ footer_at n v → size_at n w ≡ size_at n v
unfolding size_at
size-same n v w same = ap (λ (o : Option Footer). option_map_or (λ (footer : Footer). footer.current / 512) o 0) same

pub size-is : (n : ℕ) (w : Sectors) (f : Footer) → footer_at n w ≡ Some f → size_at n w ≡ f.current / 512
unfolding size_at
size-is n w f reads = rw reads refl

pub parent-same : (v w : Sectors) → header_at w ≡ header_at v → parent_at w ≡ parent_at v
unfolding parent_at
parent-same v w same = rw same refl

pub parent-is : (w : Sectors) (h : Header) → header_at w ≡ Some h → parent_at w ≡ h.parent
unfolding parent_at
parent-is w h reads = rw reads refl

module _ (l : Layout) (v w : Sectors) (f : Footer) (h : Header) (m : Slots) (ok : IsLayout l) (image : IsImage l v f h m) (same : SameBody l m v w) where
  pub entry-same : (b : ℕ) → b < entries_in_sectors l → entry w b ≡ entry v b
  entry-same b below = ap (λ (x : List ℕ). word x (b % 128)) (same.table (b / 128) (table-first l b ok below))

  entry-code : (b : ℕ) → b < entries_in_sectors l → entry w b ≡ code l (m b)
  entry-code b below = entry-same b below ∙ image.table b below

  value-same : (b i : ℕ) → b < entries_in_sectors l → i < l.block → value w b i ≡ value v b i
  value-same b i below part = ⊎_elim
      (λ none. value-without_slot l w m b i (entry-code b below) none ∙ sym (value-without_slot l v m b i (image.table b below) none))
      (λ some. let k = some.0 in let has = some.1 in
      let low = (image.slots.fits b k has).0 in
      let bits : w (place l k 0) ≡ v (place l k 0) = same.slots b k 0 has (omega arith) in
      let bytes : w (place l k (1 + i)) ≡ v (place l k (1 + i)) = same.slots b k (1 + i) has (omega arith) in
      value-with_slot l w m b k i ok (entry-code b below) has low
      ∙ (ap (λ (x : List ℕ). if is_set x i then Some (w (place l k (1 + i))) else None) bits
      ∙ (ap (λ (x : List ℕ). if is_set (v (place l k 0)) i then Some x else None) bytes
      ∙ sym (value-with_slot l v m b k i ok (image.table b below) has low))))
      (option_cases (m b))

  -- no sector of a block past the disk's is held
  value-past : (b i : ℕ) → b < entries_in_sectors l → l.blocks ≤ b → value w b i ≡ None
  value-past b i below past = ⊎_elim
      (λ none. value-without_slot l w m b i (entry-code b below) none)
      (λ some. absurd (let low = image.slots.sized b some.0 some.1 in omega arith))
      (option_cases (m b))

  size-here : size_at l.sectors v ≡ l.blocks * l.block
  size-here = (content-of_head l v f h image.head).0

  own-within : (s : ℕ) → s < size_at l.sectors v → size_at l.sectors v ≤ size_at l.sectors w → own_in l w s ≡ own_in l v s
  unfolding own
  own-within s below wider =
      let wide : 0 < l.block = omega (arith, ok.block_least) in
      let block : s / l.block < l.blocks = div_below s l.block l.blocks wide (omega (arith, size-here, below)) in
      let inside : s / l.block < entries_in_sectors l = in_entries l (s / l.block) (omega (arith, block, image.head.footer_fits.most)) in
      let part : s % l.block < l.block = omega arith in
      cond-true _ (value w (s / l.block) (s % l.block)) None (lt-ltb s (size_at l.sectors w) (omega (arith, below, wider)))
      ∙ (value-same (s / l.block) (s % l.block) inside part
      ∙ sym (cond-true _ (value v (s / l.block) (s % l.block)) None (lt-ltb s (size_at l.sectors v) below)))

  own-past : (s : ℕ) → size_at l.sectors v ≤ s → size_at l.sectors w ≤ l.entries * l.block → own_in l w s ≡ None
  unfolding own
  own-past s past few = ⊎_elim
      (λ below.
      let wide : 0 < l.block = omega (arith, ok.block_least) in
      let block : l.blocks ≤ s / l.block = le-div l.blocks s l.block wide (omega (arith, size-here, past)) in
      let low : s / l.block < l.entries = div_below s l.block l.entries wide (omega (arith, below, few)) in
      cond-true _ (value w (s / l.block) (s % l.block)) None (lt-ltb s (size_at l.sectors w) below)
      ∙ value-past (s / l.block) (s % l.block) (in_entries l (s / l.block) low) block)
      (λ beyond. cond-false _ (value w (s / l.block) (s % l.block)) None (le-ltb s (size_at l.sectors w) beyond))
      (cases_lt s (size_at l.sectors w))

  own-none : (s : ℕ) → size_at l.sectors v ≤ s → own_in l v s ≡ None
  unfolding own
  own-none s past = cond-false _ (value v (s / l.block) (s % l.block)) None (le-ltb s (size_at l.sectors v) past)

  -- an image of at least the size that has the same table and slots says the same
  pub says-same : size_at l.sectors v ≤ size_at l.sectors w → size_at l.sectors w ≤ l.entries * l.block → SaysSame l v w
  says-same wider few = record {
    own = λ s. ⊎_elim (λ below. own-within s below wider) (λ past. own-past s past few ∙ sym (own-none s past)) (cases_lt s (size_at l.sectors v));
    entries = entry-same;
    holds = λ each. record { holds = λ b below filled. held each b below filled };
  }
    where
      held : EachSlotHolds l.block l.entries v → (b : ℕ) → b < l.entries → entry w b ≢ blank → (i : ℕ) × (i < l.block) × (is_set (w (entry w b)) i ≡ true)
      held each b below filled = ⊎_elim
          (λ none. absurd (filled (entry-code b inside ∙ ap (code l) none)))
          (λ some.
          let k = some.0 in
          let has = some.1 in
          let e = entry-same b inside in
          let found = each.holds b below (λ is. filled (e ∙ is)) in
          let at_v : entry v b ≡ place l k 0 = image.table b inside ∙ ap (code l) has in
          let bits : w (entry w b) ≡ v (entry v b) = ap w (e ∙ at_v) ∙ (same.slots b k 0 has (omega arith) ∙ ap v (sym at_v)) in
          (found.0, found.1, ap (λ (x : List ℕ). is_set x found.0) bits ∙ found.2))
          (option_cases (m b))
        where
          inside : b < entries_in_sectors l
          inside = in_entries l b below

  -- with a head of its own it holds an image with the same map
  pub image-same : (blocks : ℕ) (f' : Footer) (h' : Header) → l.blocks ≤ blocks → footer_at l.sectors w ≡ Some f' → header_at w ≡ Some h'
      → IsFooterOf (layout_of l.block l.entries blocks l.sectors) f' → IsHeaderOf (layout_of l.block l.entries blocks l.sectors) f' h' → IsImage (layout_of l.block l.entries blocks l.sectors) w f' h' m
  unfolding entries_in_sectors slot_count
  image-same blocks f' h' wider footer header fits fits' = record {
    head = record {
      footer_reads = footer;
      footer_fits = fits;
      header_reads = header;
      header_fits = fits';
      room = omega (arith, image.head.room, ok.begins);
    };
    table = λ b below. entry-code b below ∙ ap (λ (first : ℕ). code (record l { first = first }) (m b)) ok.begins;
    slots = record {
      sized = λ b k has. let low = image.slots.sized b k has in omega arith;
      fits = λ b k has. let low = image.slots.fits b k has in (low.0, omega (arith, low.1, ap (λ (first : ℕ). (l.sectors - 1 - first) / (1 + l.block)) ok.begins));
      once = image.slots.once;
    };
  }
