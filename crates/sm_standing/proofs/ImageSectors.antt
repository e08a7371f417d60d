-- What an image says depends on the sectors of its own part of the volume alone, in a repository of any geometry.
use Rattle.std.proofs.Common.{◌≡◌, ◌⊎◌, inl, inr, ⊎_elim, ℕ, zero, suc, ◌+◌, ◌-◌, ◌*◌, ◌/◌, ◌%◌, ◌<◌, ◌≤◌, ◌==◌, Bool, true, false, cond, nat_lt, List, [], ◌∷◌, length, map, Option, Some, None, refl, sym, ap, ap₂, ◌∙◌, arith}
use Rattle.std.proofs.Math.Nat.{div-lt_iff_lt-mul, mod-lt}
use Rattle.std.proofs.Math.Path.{fun_ext}
use Rattle.std.proofs.lemmas.Bool.{cond-true, le-ltb, cases_lt, false_from_ne_true}
use Rattle.std.specs.List.{range_with_len}
use Rattle.common_laws.proofs.Options.{option_cases}
use Rattle.sm_base.specs.Numbers.{IsGeometry, first}
use Rattle.sm_base.specs.declared.names.Name.{Name}
use Rattle.sm_base.specs.declared.names.Name.TheVariants.{Vhd, Raw, Clone}
use Rattle.vg_meta.specs.Tables.{Row, VolumeTable, extents_of}
use Rattle.vhd_fields.specs.declared.footers.Footer.{Footer}
use Rattle.vhd_fields.specs.declared.headers.Header.{Header}
use Rattle.vhd_map.specs.Bitmaps.{is_set}
use Rattle.vhd_map.specs.Places.{word, blank}
use Rattle.vhd_layout.specs.Contents.{ImageContent as Said, content_at, raw_content, own, value, size_at, parent_at, slot_at, slot_number, slots_at}
use Rattle.vhd_layout.specs.Images.{IsHead, IsImage, IsValid}
use Rattle.vhd_layout.specs.Layouts.{Sectors, Slots, Layout, IsLayout, layout_of, entry, code, place, entries_in_sectors}
use Rattle.vhd_layout.specs.Readings.{is_valid, image_at}
use Rattle.vhd_layout.proofs.ImageLaws.{head-kept, content-of_head, table-first, layout-of, place-within, value-with_slot, value-without_slot, in_entries}
use Rattle.vhd_layout.proofs.ReadingLaws.{valid-decided, layout-at}
use Rattle.common_laws.specs.Lists.{◌>>=◌}
use Rattle.sm_standing.specs.Contents.{Content, row, sectors_of, size_of}
use Rattle.sm_standing.specs.Entries.{making, head}
use Rattle.sm_standing.specs.Images.{image_of, vhd_image, raw_image, image_extents}
use Rattle.sm_standing.specs.Apart.{is_apart, IsSameApart}
use Rattle.sm_standing.specs.Volumes.{IsAtSize, IsSameVolume, AreSameApart}

div_below : (s d n : ℕ) → 0 < d → s < n * d → s / d < n
div_below s d n some below = (div-lt_iff_lt-mul some).1 below

mod_below : (s d : ℕ) → 0 < d → s % d < d
mod_below s d some = mod-lt s some

-- two volumes that begin with the same so many sectors
abbrev pub SameBelow : ℕ → Sectors → Sectors → Type 0
SameBelow n v w = (s : ℕ) → s < n → v s ≡ w s

back : (n : ℕ) (v w : Sectors) → SameBelow n v w → SameBelow n w v
back n v w same s below = sym (same s below)

entry_same : (l : Layout) (v w : Sectors) → IsLayout l → l.first + 1 ≤ l.sectors → SameBelow l.sectors v w → (b : ℕ) → b < entries_in_sectors l → entry v b ≡ entry w b
entry_same l v w ok room same b near = let e = table-first l b ok near in ap (λ s. word s (b % 128)) (same (3 + b / 128) (omega (arith, e)))

three_first : (entries : ℕ) → 3 ≤ first entries
unfolding first
three_first entries = omega arith

kept_head : (extent block entries sectors : ℕ) (v w : Sectors) → IsGeometry extent block entries → SameBelow sectors v w → (h : IsValid block entries sectors w)
    → IsHead (layout_of block entries h.0 sectors) v h.1 h.2
kept_head extent block entries sectors v w geometry same h =
    let room : first entries + 1 ≤ sectors = h.4.head.room in
    let wide = three_first entries in
    head-kept (layout_of block entries h.0 sectors) w v h.1 h.2 (same 0 (omega arith)) (same 1 (omega arith)) (same 2 (omega arith)) (same (sectors - 1) (omega arith)) h.4.head

valid_same : (extent block entries sectors : ℕ) (v w : Sectors) → IsGeometry extent block entries → SameBelow sectors v w → IsValid block entries sectors w → IsValid block entries sectors v
valid_same extent block entries sectors v w geometry same h =
    let l = layout_of block entries h.0 sectors in
    let ok = layout-of extent block entries h.0 sectors geometry in (
      h.0,
      h.1,
      h.2,
      h.3,
      record {
        head = kept_head extent block entries sectors v w geometry same h;
        table = λ b below. entry_same l v w ok h.4.head.room same b below ∙ h.4.table b below;
        slots = h.4.slots;
      },
    )

value_same : (l : Layout) (v w : Sectors) (footer : Footer) (header : Header) (m : Slots) → IsLayout l → SameBelow l.sectors v w → IsImage l w footer header m
    → (b i : ℕ) → b < l.entries → i < l.block → value v b i ≡ value w b i
value_same l v w footer header m ok same image b i below low = ⊎_elim
    (λ none. value-without_slot l v m b i at_v none ∙ sym (value-without_slot l w m b i at_w none))
    (λ some.
    let fits = image.slots.fits b some.0 some.1 in
    let bitmap = place-within l some.0 0 fits.1 (omega arith) in
    let bytes_at = place-within l some.0 (1 + i) fits.1 (omega arith) in
    value-with_slot l v m b some.0 i ok at_v some.1 fits.0
    ∙ ap₂ (λ bits bytes. cond (is_set bits i) (Some bytes) None) (same (place l some.0 0) (omega (arith, bitmap))) (same (place l some.0 (1 + i)) (omega (arith, bytes_at)))
    ∙ sym (value-with_slot l w m b some.0 i ok at_w some.1 fits.0))
    (option_cases (m b))
  where
    at_w : entry w b ≡ code l (m b)
    at_w = image.table b (in_entries l b below)

    at_v : entry v b ≡ code l (m b)
    at_v = entry_same l v w ok image.head.room same b (in_entries l b below) ∙ image.table b (in_entries l b below)

own_same : (l : Layout) (v w : Sectors) (footer : Footer) (header : Header) (m : Slots) → IsLayout l → SameBelow l.sectors v w → IsImage l w footer header m
    → (s : ℕ) → (s < l.blocks * l.block) ⊎ (l.blocks * l.block ≤ s) → own l.block (l.blocks * l.block) v s ≡ own l.block (l.blocks * l.block) w s
unfolding own
own_same l v w footer header m ok same image s (inl below) =
    let wide = ok.block_least in
    let most = image.head.footer_fits.most in
    let near = div_below s l.block l.blocks (omega (arith, wide)) below in
    let low = mod_below s l.block (omega (arith, wide)) in
    ap (λ x. cond (nat_lt s (l.blocks * l.block)) x None) (value_same l v w footer header m ok same image (s / l.block) (s % l.block) (omega (arith, near, most)) low)
own_same l v w footer header m ok same image s (inr past) =
    ap (λ b. cond b (value v (s / l.block) (s % l.block)) None) (le-ltb s (l.blocks * l.block) past)
    ∙ sym (ap (λ b. cond b (value w (s / l.block) (s % l.block)) None) (le-ltb s (l.blocks * l.block) past))

map_same : (f g : ℕ → Option ℕ) (a n : ℕ) → ((k : ℕ) → k < a + n → f k ≡ g k) → map f (range_with_len a n) ≡ map g (range_with_len a n)
map_same f g a zero same = refl
map_same f g a (suc n) same = ap₂ (λ x xs. x ∷ xs) (same a (omega arith)) (map_same f g (a + 1) n (λ k below. same k (omega arith)))

slots_same : (l : Layout) (v w : Sectors) → IsLayout l → l.first + 1 ≤ l.sectors → SameBelow l.sectors v w → slots_at l v ≡ slots_at l w
unfolding slot_at
slots_same l v w ok room same =
    map_same (slot_at l v) (slot_at l w) 0 l.entries (λ b below.
    ap (λ e. cond (e == blank) None (Some (slot_number l e))) (entry_same l v w ok room same b (in_entries l b (omega (arith, below)))))

made : ℕ → Option Name → List (Option ℕ) → (ℕ → Option (List ℕ)) → Said
made size parent slots held = record { size = size; parent = parent; slots = slots; own = held }

-- what an image says, by its head and its layout
said : (block entries blocks sectors : ℕ) (v : Sectors) (footer : Footer) (header : Header) → 8 ≤ block → IsHead (layout_of block entries blocks sectors) v footer header
    → content_at block entries sectors v ≡ made (blocks * block) header.parent (slots_at (layout_of block entries blocks sectors) v) (own block (blocks * block) v)
unfolding made
said block entries blocks sectors v footer header wide head =
    let facts = content-of_head (layout_of block entries blocks sectors) v footer header head in
    ap (λ l. made (size_at sectors v) (parent_at v) (slots_at l v) (own block (size_at sectors v) v)) (layout-at block entries blocks sectors v footer header wide head)
    ∙ ap₂ (λ n p. made n p (slots_at (layout_of block entries blocks sectors) v) (own block n v)) facts.0 facts.1

content_same : (extent block entries sectors : ℕ) (v w : Sectors) → IsGeometry extent block entries → SameBelow sectors v w → (h : IsValid block entries sectors w)
    → content_at block entries sectors v ≡ content_at block entries sectors w
content_same extent block entries sectors v w geometry same h =
    let l = layout_of block entries h.0 sectors in
    let ok = layout-of extent block entries h.0 sectors geometry in
    let wide = geometry.block_least in
    said block entries h.0 sectors v h.1 h.2 wide (kept_head extent block entries sectors v w geometry same h)
    ∙ ap₂ (made (h.0 * block) h.2.parent) (slots_same l v w ok h.4.head.room same)
    (fun_ext (λ s. own_same l v w h.1 h.2 h.3 ok same h.4 s (cases_lt s (h.0 * block))))
    ∙ sym (said block entries h.0 sectors w h.1 h.2 wide h.4.head)

valid_test : (extent block entries sectors : ℕ) (v w : Sectors) → IsGeometry extent block entries → SameBelow sectors v w → (b : Bool) → is_valid block entries sectors w ≡ b
    → image_at block entries sectors v ≡ image_at block entries sectors w
valid_test extent block entries sectors v w geometry same true is =
    let h = (valid-decided extent block entries sectors w geometry).0 is in
    let k = valid_same extent block entries sectors v w geometry same h in
    cond-true (is_valid block entries sectors v) (Some (content_at block entries sectors v)) None ((valid-decided extent block entries sectors v geometry).1 k)
    ∙ ap Some (content_same extent block entries sectors v w geometry same h)
    ∙ sym (cond-true (is_valid block entries sectors w) (Some (content_at block entries sectors w)) None is)
valid_test extent block entries sectors v w geometry same false is =
    let fails : is_valid block entries sectors v ≡ false = false_from_ne_true (is_valid block entries sectors v) (λ e.
    let h = (valid-decided extent block entries sectors v geometry).0 e in
    let k = valid_same extent block entries sectors w v geometry (back sectors v w same) h in
    let t = (valid-decided extent block entries sectors w geometry).1 k in
    let x : true ≡ false = sym t ∙ is in (let y = x in cc)) in
    ap (λ b. cond b (Some (content_at block entries sectors v)) None) fails ∙ sym (ap (λ b. cond b (Some (content_at block entries sectors w)) None) is)

-- where two volumes begin with the same so many sectors, they hold the same image, or none
pub image_same : (extent block entries sectors : ℕ) (v w : Sectors) → IsGeometry extent block entries → SameBelow sectors v w → image_at block entries sectors v ≡ image_at block entries sectors w
image_same extent block entries sectors v w geometry same = valid_test extent block entries sectors v w geometry same (is_valid block entries sectors w) refl

-- ---- in a content

size_is : (a : Content) (n : Name) (was : Row) → row a n ≡ Some was → size_of a n ≡ length was.extents * a.extent
size_is a n was there = ap (λ o. length (extents_of o) * a.extent) there

vhd_by : (a b : Content) (u v : List ℕ) (was now : Row) → IsGeometry a.extent a.block a.entries → IsSameVolume a b (Vhd u) (Vhd v) was now → IsAtSize a.table (Vhd u) → IsAtSize b.table (Vhd v)
    → vhd_image b (Vhd v) now ≡ vhd_image a (Vhd u) was
unfolding vhd_image
vhd_by a b u v was now geometry h whole whole_now =
    let long : length now.extents * b.extent ≡ length was.extents * a.extent = ap₂ (λ (es : List ℕ) (k : ℕ). length es * k) h.extents h.extent in
    ap (λ k. image_at b.block b.entries (k * b.extent) (sectors_of b (Vhd v))) (whole_now (length now.extents))
    ∙ ap₂ (λ block entries. image_at block entries (length now.extents * b.extent) (sectors_of b (Vhd v))) h.block h.entries
    ∙ ap (λ k. image_at a.block a.entries k (sectors_of b (Vhd v))) long
    ∙ image_same a.extent a.block a.entries (length was.extents * a.extent) (sectors_of b (Vhd v)) (sectors_of a (Vhd u)) geometry
    (λ p below. h.sectors p (omega (arith, below, size_is a (Vhd u) was h.before)))
    ∙ sym (ap (λ k. image_at a.block a.entries (k * a.extent) (sectors_of a (Vhd u))) (whole (length was.extents)))

-- a VHD image in a volume with the same sectors
pub vhd_same : (a b : Content) (u v : List ℕ) (was now : Row) → IsGeometry a.extent a.block a.entries → IsSameVolume a b (Vhd u) (Vhd v) was now → IsAtSize a.table (Vhd u) → IsAtSize b.table (Vhd v)
    → image_of b (Vhd v) ≡ image_of a (Vhd u)
unfolding image_of
vhd_same a b u v was now geometry h whole whole_now =
    ap (λ o. o >>= (λ (r : Row). cond r.fresh None (vhd_image b (Vhd v) r))) h.after
    ∙ ap₂ (λ t image. cond t None image) h.fresh (vhd_by a b u v was now geometry h whole whole_now)
    ∙ sym (ap (λ o. o >>= (λ (r : Row). cond r.fresh None (vhd_image a (Vhd u) r))) h.before)

raw_own : (v w : Sectors) (n s : ℕ) → SameBelow n v w → (s < n) ⊎ (n ≤ s) → (raw_content n v).own s ≡ (raw_content n w).own s
raw_own v w n s same (inl below) = ap (λ x. cond (nat_lt s n) (Some x) None) (same s below)
raw_own v w n s same (inr past) = ap (λ b. cond b (Some (v s)) None) (le-ltb s n past) ∙ sym (ap (λ b. cond b (Some (w s)) None) (le-ltb s n past))

raw_by : (a b : Content) (u v : List ℕ) (was now : Row) → IsSameVolume a b (Raw u) (Raw v) was now → raw_image b (Raw v) ≡ raw_image a (Raw u)
unfolding raw_image made
raw_by a b u v was now h =
    let long : size_of b (Raw v) ≡ size_of a (Raw u) =
    size_is b (Raw v) now h.after ∙ ap₂ (λ (es : List ℕ) (k : ℕ). length es * k) h.extents h.extent ∙ sym (size_is a (Raw u) was h.before) in
    ap (λ k. raw_content k (sectors_of b (Raw v))) long
    ∙ ap (λ held. made (size_of a (Raw u)) None [] held)
    (fun_ext (λ s. raw_own (sectors_of b (Raw v)) (sectors_of a (Raw u)) (size_of a (Raw u)) s h.sectors (cases_lt s (size_of a (Raw u)))))

-- and a raw one
pub raw_same : (a b : Content) (u v : List ℕ) (was now : Row) → IsSameVolume a b (Raw u) (Raw v) was now → image_of b (Raw v) ≡ image_of a (Raw u)
unfolding image_of
raw_same a b u v was now h =
    ap (λ o. o >>= (λ (r : Row). cond r.fresh None (Some (raw_image b (Raw v))))) h.after
    ∙ ap₂ (λ t image. cond t None (Some image)) h.fresh (raw_by a b u v was now h)
    ∙ sym (ap (λ o. o >>= (λ (r : Row). cond r.fresh None (Some (raw_image a (Raw u))))) h.before)

-- ---- all of them

-- no image where there is no volume
pub gone : (a b : Content) (n : Name) → row a n ≡ None → row b n ≡ None → image_of b n ≡ image_of a n
unfolding image_of
gone a b (Vhd u) was now =
    ap (λ o. o >>= (λ (r : Row). cond r.fresh None (vhd_image b (Vhd u) r))) now ∙ sym (ap (λ o. o >>= (λ (r : Row). cond r.fresh None (vhd_image a (Vhd u) r))) was)
gone a b (Raw u) was now =
    ap (λ o. o >>= (λ (r : Row). cond r.fresh None (Some (raw_image b (Raw u))))) now ∙ sym (ap (λ o. o >>= (λ (r : Row). cond r.fresh None (Some (raw_image a (Raw u))))) was)
gone a b _ was now = refl

same_volume : (a b : Content) (us : List (List ℕ)) (n : Name) (r : Row) → AreSameApart a b us → is_apart us n ≡ true → row a n ≡ Some r → IsSameVolume a b n n r r
same_volume a b us n r h apart is = record {
  extent = h.extent;
  block = h.block;
  entries = h.entries;
  before = is;
  after = h.rows n apart ∙ is;
  extents = refl;
  fresh = refl;
  sectors = λ p below. h.sectors n p apart below;
}

there : (a b : Content) (us : List (List ℕ)) → IsGeometry a.extent a.block a.entries → AreSameApart a b us → (n : Name) (r : Row) → is_apart us n ≡ true → row a n ≡ Some r
    → image_of b n ≡ image_of a n
unfolding image_of
there a b us geometry h (Vhd u) r apart is = vhd_same a b u u r r geometry (same_volume a b us (Vhd u) r h apart is) (h.whole (Vhd u) apart) (h.still_whole (Vhd u) apart)
there a b us geometry h (Raw u) r apart is = raw_same a b u u r r (same_volume a b us (Raw u) r h apart is)
there a b us geometry h _ r apart is = refl

image_by : (a b : Content) (us : List (List ℕ)) → IsGeometry a.extent a.block a.entries → AreSameApart a b us → (n : Name) → is_apart us n ≡ true → (o : Option Row) → row a n ≡ o
    → image_of b n ≡ image_of a n
image_by a b us geometry h n apart None is = gone a b n is (h.rows n apart ∙ is)
image_by a b us geometry h n apart (Some r) is = there a b us geometry h n r apart is

pub same_images : (a b : Content) (us : List (List ℕ)) → IsGeometry a.extent a.block a.entries → AreSameApart a b us → IsSameApart a b us
same_images a b us geometry h = record { rows = h.rows; images = λ n apart. image_by a b us geometry h n apart (row a n) refl }

pub whole_none : (t : VolumeTable) (n : Name) → making t ≡ [] → IsAtSize t n
whole_none t n none all = ap (λ es. image_extents es n all) none

head_extents : (es : List Name) (n : Name) (disk base twin : List ℕ) (all : ℕ) → head es ≡ Some (Clone disk base twin) → image_extents es n all ≡ all
head_extents [] n disk base twin all h = absurd (let e = h in cc)
head_extents (e ∷ es) n disk base twin all h =
    let at : e ≡ Clone disk base twin = (let y = h in cc) in ap (λ x. image_extents (x ∷ es) n all) at

pub whole_fork : (t : VolumeTable) (n : Name) (disk base twin : List ℕ) → head (making t) ≡ Some (Clone disk base twin) → IsAtSize t n
whole_fork t n disk base twin h all = head_extents (making t) n disk base twin all h
