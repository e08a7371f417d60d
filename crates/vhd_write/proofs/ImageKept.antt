-- An image that keeps its head and its table, and what follows from its values.
use Rattle.std.proofs.Common.{◌≡◌, ℕ, ◌+◌, ◌-◌, ◌*◌, ◌/◌, ◌%◌, ◌<◌, ◌≤◌, ◌⊎◌, true, false, ltb, if◌then◌else◌, List, Some, None, refl, sym, ap, ap₂, ◌∙◌, subst, inl, inr, ⊎_elim, arith}
use Rattle.std.proofs.lemmas.Bool.{cases_lt, cond-true, cond-false, lt-ltb, le-ltb}
use Rattle.std.proofs.lemmas.Nat.{div_below, mod_below, div-add-mod'}
use Rattle.std.specs.Option.{option_map_or, option_or}
use Rattle.std.specs.Prelude.{option_and_then, ◌++◌}
use Rattle.std.specs.Result.{result_ok}
use Rattle.vhd_fields.specs.Footers.{footer_read}
use Rattle.vhd_fields.specs.Headers.{header_read}
use Rattle.vhd_fields.specs.declared.footers.Footer.{Footer}
use Rattle.vhd_fields.specs.declared.headers.Header.{Header}
use Rattle.sm_base.specs.Numbers.{first, div_up}
use Rattle.vhd_map.specs.Bitmaps.{is_set}
use Rattle.vhd_map.specs.Places.{blank, word}
use Rattle.vhd_layout.specs.Layouts.{Sectors, Layout, IsLayout, layout_of, place, entry, code, entries_in_sectors, Slots}
use Rattle.vhd_layout.specs.Images.{IsImage, IsValid, EachSlotHolds, footer_at, header_at}
use Rattle.vhd_layout.specs.Contents.{value, size_at, parent_at, own}
use Rattle.vhd_layout.proofs.ImageLaws.{table-first, head-kept, value-with_slot, value-without_slot, content-of_head}
use Rattle.vhd_volumes.specs.Writes.{Follows, own_in}

-- w is as v in front of the slots and in the last sector
pub record SameEnds (l : Layout) (v w : Sectors) : Type 0 where
  pub front : (p : ℕ) → p < l.first → w p ≡ v p
  pub last : w (l.sectors - 1) ≡ v (l.sectors - 1)

-- w is as v in the head
pub record SameHead (l : Layout) (v w : Sectors) : Type 0 where
  pub zero : w 0 ≡ v 0
  pub one : w 1 ≡ v 1
  pub two : w 2 ≡ v 2
  pub last : w (l.sectors - 1) ≡ v (l.sectors - 1)

pub head_in_front : (l : Layout) → IsLayout l → 3 < l.first
unfolding first div_up
head_in_front l ok = omega (arith, ok.begins, ok.entries_least)

pub head-from_ends : {l : Layout} {v w : Sectors} → IsLayout l → SameEnds l v w → SameHead l v w
head-from_ends {l} {v} {w} ok s =
    let f = head_in_front l ok in
    record { zero = s.front 0 (omega arith); one = s.front 1 (omega arith); two = s.front 2 (omega arith); last = s.last }

pub entry-kept : {l : Layout} {v w : Sectors} → IsLayout l → SameEnds l v w → (b : ℕ) → b < entries_in_sectors l → entry w b ≡ entry v b
entry-kept {l} {v} {w} ok s b near = ap (λ (x : List ℕ). word x (b % 128)) (s.front (3 + b / 128) (table-first l b ok near))

pub size-kept : {l : Layout} {v w : Sectors} → SameHead l v w → size_at l.sectors w ≡ size_at l.sectors v
unfolding size_at footer_at
size-kept {l} {v} {w} s = ap₂ (λ (a b : List ℕ). option_map_or (λ (f : Footer). f.current / 512) (option_or (result_ok (footer_read a)) (result_ok (footer_read b))) 0) s.last s.zero

pub parent-kept : {l : Layout} {v w : Sectors} → SameHead l v w → parent_at w ≡ parent_at v
unfolding parent_at header_at
parent-kept {l} {v} {w} s = ap₂ (λ (a b : List ℕ). option_and_then (λ (h : Header). h.parent) (result_ok (header_read (a ++ b)))) s.one s.two

pub image-kept : {l : Layout} {v w : Sectors} {footer : Footer} {header : Header} {m : Slots} → IsLayout l → SameEnds l v w → IsImage l v footer header m → IsImage l w footer header m
image-kept {l} {v} {w} {footer} {header} {m} ok s image =
    let h = head-from_ends ok s in
    record {
      head = head-kept l v w footer header h.zero h.one h.two h.last image.head;
      table = λ b near. entry-kept ok s b near ∙ image.table b near;
      slots = image.slots;
    }

-- the same numbers with another number of blocks
pub with_blocks-layout : (l : Layout) (blocks : ℕ) → IsLayout l → IsLayout (layout_of l.block l.entries blocks l.sectors)
with_blocks-layout l blocks ok = record { begins = refl; block_least = ok.block_least; block_most = ok.block_most; entries_least = ok.entries_least; entries_most = ok.entries_most }

pub valid-kept : {l : Layout} {v w : Sectors} → IsLayout l → SameEnds l v w → IsValid l.block l.entries l.sectors v → IsValid l.block l.entries l.sectors w
valid-kept {l} {v} {w} ok s valid =
    let there : SameEnds (layout_of l.block l.entries valid.0 l.sectors) v w = record { front = λ p below. s.front p (omega (arith, ok.begins)); last = s.last } in
    (valid.0, valid.1, valid.2, valid.3, image-kept (with_blocks-layout l valid.0 ok) there valid.4)

-- an image of the layout is a valid one
pub valid-from_image : (l : Layout) {v : Sectors} {footer : Footer} {header : Header} {m : Slots} → IsLayout l → IsImage l v footer header m → IsValid l.block l.entries l.sectors v
valid-from_image l {v} {footer} {header} {m} ok image =
    let P : ℕ → Type 0 = λ f. IsImage (record { first = f; block = l.block; entries = l.entries; blocks = l.blocks; sectors = l.sectors }) v footer header m in
    (l.blocks, footer, header, m, subst P ok.begins image)

-- the size of a valid image
pub valid-size : (l : Layout) (v : Sectors) → IsValid l.block l.entries l.sectors v → (blocks : ℕ) × (blocks ≤ l.entries) × (size_at l.sectors v ≡ blocks * l.block)
valid-size l v valid =
    let c = content-of_head (layout_of l.block l.entries valid.0 l.sectors) v valid.1 valid.2 valid.4.head in
    (valid.0, valid.4.head.footer_fits.most, c.0)

-- the value of a block by its entry
pub value-blank : (v : Sectors) (b i : ℕ) → entry v b ≡ blank → value v b i ≡ None
unfolding value
value-blank v b i is = value-without_slot (record { first = 0; block = 0; entries = 0; blocks = 0; sectors = 0 }) v (λ _. None) b i is refl

pub value-slot : (l : Layout) (v : Sectors) (b k i : ℕ) → IsLayout l → k < l.entries → entry v b ≡ code l (Some k) → value v b i ≡ (if is_set (v (place l k 0)) i then Some (v (place l k (1 + i))) else None)
value-slot l v b k i ok below is = value-with_slot l v (λ _. Some k) b k i ok is refl below

-- what it is where the bit is known
pub value-set : (l : Layout) (v : Sectors) (b k i : ℕ) → IsLayout l → k < l.entries → entry v b ≡ code l (Some k) → is_set (v (place l k 0)) i ≡ true → value v b i ≡ Some (v (place l k (1 + i)))
value-set l v b k i ok below is set = value-slot l v b k i ok below is ∙ cond-true (is_set (v (place l k 0)) i) (Some (v (place l k (1 + i)))) None set

pub value-unset : (l : Layout) (v : Sectors) (b k i : ℕ) → IsLayout l → k < l.entries → entry v b ≡ code l (Some k) → is_set (v (place l k 0)) i ≡ false → value v b i ≡ None
value-unset l v b k i ok below is unset = value-slot l v b k i ok below is ∙ cond-false (is_set (v (place l k 0)) i) (Some (v (place l k (1 + i)))) None unset

-- a sector of the disk, by its block
abbrev pub StepsValue : Layout → (ℕ → List ℕ → Type 0) → Sectors → Sectors → Type 0
StepsValue l W v w =
    (b i : ℕ) → b < l.entries → i < l.block → (value w b i ≡ value v b i) ⊎ ((bytes : List ℕ) × W (b * l.block + i) bytes × (value w b i ≡ Some bytes))

pub own-in : (l : Layout) (v : Sectors) (s : ℕ) → s < size_at l.sectors v → own_in l v s ≡ value v (s / l.block) (s % l.block)
unfolding own
own-in l v s within = cond-true (ltb s (size_at l.sectors v)) (value v (s / l.block) (s % l.block)) None (lt-ltb s (size_at l.sectors v) within)

own-past : (l : Layout) (v : Sectors) (s : ℕ) → size_at l.sectors v ≤ s → own_in l v s ≡ None
unfolding own
own-past l v s past = cond-false (ltb s (size_at l.sectors v)) (value v (s / l.block) (s % l.block)) None (le-ltb s (size_at l.sectors v) past)

pub follows-from_values : {l : Layout} {W : ℕ → List ℕ → Type 0} {v w : Sectors} → IsLayout l → SameHead l v w → IsValid l.block l.entries l.sectors v → StepsValue l W v w
    → (EachSlotHolds l.block l.entries v → EachSlotHolds l.block l.entries w) → Follows l W v w
follows-from_values {l} {W} {v} {w} ok same valid steps holds = record {
  size = size-kept same;
  parent = parent-kept same;
  own = λ s. ⊎_elim (λ within. inside s within) (λ past. inl (own-past l w s (omega (arith, size-kept same)) ∙ sym (own-past l v s past))) (cases_lt s (size_at l.sectors v));
  holds = holds;
}
  where
    inside : (s : ℕ) → s < size_at l.sectors v → (own_in l w s ≡ own_in l v s) ⊎ ((bytes : List ℕ) × W s bytes × (own_in l w s ≡ Some bytes))
    inside s within =
        let z = valid-size l v valid in
        let block : s / l.block < z.0 = div_below s l.block z.0 (omega (arith, ok.block_least)) (omega (arith, z.2)) in
        let low : s % l.block < l.block = mod_below s l.block (omega (arith, ok.block_least)) in
        let here = own-in l w s (omega (arith, size-kept same)) in
        let there = own-in l v s within in
        ⊎_elim
        (λ e. inl (here ∙ (e ∙ sym there)))
        (λ h. inr (h.0, subst (λ (x : ℕ). W x h.0) (div-add-mod' s l.block) h.1, here ∙ h.2))
        (steps (s / l.block) (s % l.block) (omega (arith, z.1)) low)
