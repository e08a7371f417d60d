-- What the passes behind the sync leave of an image: r is what a read gave as the write began, q what it gave behind the
-- first pass, and w has some of the later passes' values.
use Rattle.std.proofs.Common.{◌≡◌, ◌≢◌, ℕ, ◌+◌, ◌-◌, ◌*◌, ◌/◌, ◌%◌, ◌<◌, ◌⊎◌, ◌==◌, if◌then◌else◌, true, List, Some, None, refl, sym, ap, ◌∙◌, subst, inl, inr, ⊎_elim, eq-eqb, arith}
use Rattle.std.proofs.lemmas.Bool.{cases_eq, cases_Bool, cond-true, cond-false, ne_eqb, true≢false}
use Rattle.std.proofs.lemmas.Option.{none-some}
use Rattle.vhd_fields.specs.declared.footers.Footer.{Footer}
use Rattle.vhd_fields.specs.declared.headers.Header.{Header}
use Rattle.vhd_map.specs.Bitmaps.{is_set}
use Rattle.vhd_map.specs.Places.{blank, word}
use Rattle.vhd_layout.specs.Layouts.{Sectors, Layout, IsLayout, place, entry, code, entries_in_sectors, Slots, IsSlots}
use Rattle.vhd_layout.specs.Images.{IsHead, IsImage, IsValid, EachSlotHolds}
use Rattle.vhd_layout.specs.Contents.{value}
use Rattle.vhd_layout.proofs.ImageLaws.{option_cases, place-first, place-within, place-same, place-small, in_entries, table-first, head-kept}
use Rattle.vhd_volumes.specs.Writes.{Follows}
use Rattle.vhd_write.specs.Passes.{PutsData, IsPut, PutsRest}
use Rattle.vhd_write.specs.WritePlaces.{HasMoreBits}
use Rattle.vhd_write.proofs.ImageKept.{SameEnds, SameHead, head_in_front, valid-from_image, value-blank, value-set, value-unset, StepsValue, follows-from_values}
use Rattle.vhd_write.proofs.GivenLaws.{IsGivenBy}
use Rattle.vhd_write.proofs.FirstLaws.{first-ends, first-bitmap, first-data}

-- two facts of the map: it has grown, and each block is put
pub record AllPut (l : Layout) (W : ℕ → List ℕ → Type 0) (M : ℕ → Type 0) (m n : Slots) (q : Sectors) : Type 0 where
  pub grown : (b k : ℕ) → m b ≡ Some k → n b ≡ Some k
  pub each : (b : ℕ) → IsPut l W M (m b) (n b) b q

module _ (l : Layout) (ok : IsLayout l) (W : ℕ → List ℕ → Type 0) (M : ℕ → Type 0) (given : IsGivenBy W M) (m n : Slots) (slots : IsSlots l n) (footer : Footer) (header : Header) (r q w : Sectors) (image : IsImage l r footer header m)
    (first_pass : (p : ℕ) → p < l.sectors → (q p ≡ r p) ⊎ PutsData l W m p (q p))
    (put : AllPut l W M m n q)
    (rest : (p : ℕ) → p < l.sectors → (w p ≡ q p) ⊎ PutsRest l M n q p (w p)) where
  ends : SameEnds l r q
  ends = first-ends l ok W m image.slots r q first_pass image.head.room

  place_in : (b k j : ℕ) → n b ≡ Some k → j < 1 + l.block → place l k j < l.sectors
  place_in b k j has within = omega (arith, place-within l k j (slots.fits b k has).1 within)

  -- ---- head and table

  table_low : (t : ℕ) → 128 * t < l.entries → 3 + t < l.first
  table_low t within =
      let low = table-first l (128 * t) ok (in_entries l (128 * t) within) in
      omega (arith, low)

  -- the head is as it was
  head_place : (p : ℕ) → (p < 3) ⊎ (p ≡ l.sectors - 1) → p < l.sectors → PutsRest l M n q p (w p) → ⊥
  head_place p (inl front) below (inl (b, k, has, h)) = omega (arith, place-first l k 0, h.here, head_in_front l ok)
  head_place p (inr last) below (inl (b, k, has, h)) = omega (arith, h.here, place-within l k 0 (slots.fits b k has).1 (omega arith))
  head_place p (inl front) below (inr h) = omega (arith, h.puts.here)
  head_place p (inr last) below (inr h) = omega (arith, h.puts.here, table_low (h.b / 128) h.puts.within, image.head.room)

  front_same : (p : ℕ) → p < 3 → w p ≡ r p
  front_same p low =
      let f = head_in_front l ok in
      ⊎_elim (λ e. e ∙ ends.front p (omega arith)) (λ h. absurd (head_place p (inl low) (omega (arith, image.head.room)) h)) (rest p (omega (arith, image.head.room)))

  pub rest-head : SameHead l r w
  rest-head = record {
    zero = front_same 0 (omega arith);
    one = front_same 1 (omega arith);
    two = front_same 2 (omega arith);
    last = ⊎_elim (λ e. e ∙ ends.last) (λ h. absurd (head_place (l.sectors - 1) (inr refl) (omega (arith, image.head.room)) h)) (rest (l.sectors - 1) (omega (arith, image.head.room)));
  }

  -- an entry is as it was, or that of the new map
  pub entry_is : (b : ℕ) → b < entries_in_sectors l → (entry w b ≡ code l (m b)) ⊎ (entry w b ≡ code l (n b))
  entry_is b near = ⊎_elim
      (λ e. inl (ap (λ x. word x (b % 128)) (e ∙ ends.front (3 + b / 128) low) ∙ image.table b near))
      (λ h. inr (go h)) (rest (3 + b / 128) (omega (arith, image.head.room, low)))
    where
      low : 3 + b / 128 < l.first
      low = table-first l b ok near

      go : PutsRest l M n q (3 + b / 128) (w (3 + b / 128)) → entry w b ≡ code l (n b)
      go (inl (c, k, has, h)) = absurd (omega (arith, place-first l k 0, h.here, low))
      go (inr h) =
          let index : h.b / 128 ≡ b / 128 = omega (arith, h.puts.here) in
          let whole : 128 * (h.b / 128) + b % 128 ≡ b = omega (arith, index) in
          h.puts.sector (b % 128) (omega arith) ∙ ap (λ x. code l (n x)) whole

  pub rest-within : (b : ℕ) → b < entries_in_sectors l → (entry w b ≡ blank) ⊎ (entry w b ≡ code l (n b))
  rest-within b near = ⊎_elim
      (λ old. ⊎_elim (λ none. inl (old ∙ ap (code l) none)) (λ has. inr (old ∙ (ap (code l) has.1 ∙ sym (ap (code l) (put.grown b has.0 has.1))))) (option_cases (m b)))
      (λ new. inr new) (entry_is b near)

  -- ---- slots

  pub data_same : (b k i : ℕ) → n b ≡ Some k → i < l.block → w (place l k (1 + i)) ≡ q (place l k (1 + i))
  data_same b k i has within = ⊎_elim (λ e. e) (λ h. absurd (go h)) (rest (place l k (1 + i)) (place_in b k (1 + i) has (omega arith)))
    where
      go : PutsRest l M n q (place l k (1 + i)) (w (place l k (1 + i))) → ⊥
      go (inl (c, o, had, h)) = let same = place-same l k o (1 + i) 0 (omega arith) (omega arith) h.here in omega (arith, same.1)
      go (inr h) = omega (arith, h.puts.here, table_low (h.b / 128) h.puts.within, place-first l k (1 + i))

  pub bits_more : (b k : ℕ) → n b ≡ Some k → HasMoreBits l M b (q (place l k 0)) (w (place l k 0))
  bits_more b k has = ⊎_elim (λ e i. inl (ap (λ x. is_set x i) e)) go (rest (place l k 0) (place_in b k 0 has (omega arith)))
    where
      go : PutsRest l M n q (place l k 0) (w (place l k 0)) → HasMoreBits l M b (q (place l k 0)) (w (place l k 0))
      go (inl (c, o, had, h)) =
          let same = place-same l k o 0 0 (omega arith) (omega arith) h.here in
          let one : c ≡ b = slots.once c b k (had ∙ ap Some (sym same.0)) has in
          let P : ℕ → Type 0 = λ x. HasMoreBits l M x (q (place l k 0)) (w (place l k 0)) in
          subst P one h.more
      go (inr h) = absurd (omega (arith, h.puts.here, table_low (h.b / 128) h.puts.within, place-first l k 0))

  -- ---- values

  new_bytes : (b k i : ℕ) → n b ≡ Some k → i < l.block → M (b * l.block + i) → W (b * l.block + i) (w (place l k (1 + i)))
  new_bytes b k i has within here =
      let some = given.some (b * l.block + i) here in
      let is : w (place l k (1 + i)) ≡ some.0 = data_same b k i has within ∙ (put.each b).data_is k has i some.0 within some.1 in
      let P : List ℕ → Type 0 = λ x. W (b * l.block + i) x in
      subst P (sym is) some.1

  module _ (b i : ℕ) (below : b < l.entries) (small : i < l.block) where
    abbrev Goal : Type 0
    Goal = (value w b i ≡ value r b i) ⊎ ((bytes : List ℕ) × W (b * l.block + i) bytes × (value w b i ≡ Some bytes))

    near : b < entries_in_sectors l
    near = in_entries l b below

    -- a block that had a slot
    held_same : (k : ℕ) → m b ≡ Some k → entry r b ≡ code l (Some k) → entry w b ≡ code l (Some k) → is_set (w (place l k 0)) i ≡ is_set (r (place l k 0)) i → w (place l k (1 + i)) ≡ r (place l k (1 + i)) → value w b i ≡ value r b i
    held_same k has was is bits bytes =
        let low = (image.slots.fits b k has).0 in
        ⊎_elim
        (λ set. value-set l w b k i ok low is (bits ∙ set) ∙ (ap Some bytes ∙ sym (value-set l r b k i ok low was set)))
        (λ unset. value-unset l w b k i ok low is (bits ∙ unset) ∙ sym (value-unset l r b k i ok low was unset))
        (cases_Bool (is_set (r (place l k 0)) i))

    held : (k : ℕ) → m b ≡ Some k → Goal
    held k has =
        let low = (image.slots.fits b k has).0 in
        let grown = put.grown b k has in
        let was : entry r b ≡ code l (Some k) = image.table b near ∙ ap (code l) has in
        let is : entry w b ≡ code l (Some k) = ⊎_elim (λ e. e ∙ ap (code l) has) (λ e. e ∙ ap (code l) grown) (entry_is b near) in
        let bitmap : q (place l k 0) ≡ r (place l k 0) = first-bitmap l ok W m image.slots r q first_pass image.head.room b k has in
        ⊎_elim
        (λ here.
        ⊎_elim
        (λ set. inr (w (place l k (1 + i)), new_bytes b k i grown small here, value-set l w b k i ok low is set))
        (λ unset. ⊎_elim
        (λ bits. inl (value-unset l w b k i ok low is unset ∙ sym (value-unset l r b k i ok low was (sym (bits ∙ ap (λ x. is_set x i) bitmap) ∙ unset))))
        (λ h. absurd (true≢false (sym h.0 ∙ unset)))
        (bits_more b k grown i))
        (cases_Bool (is_set (w (place l k 0)) i)))
        (λ away. ⊎_elim
        (λ bits. inl (held_same k has was is (bits ∙ ap (λ x. is_set x i) bitmap)
        (data_same b k i grown small ∙ ⊎_elim (λ e. e) (λ h. absurd (away (given.inside (b * l.block + i) _ h))) (first-data l ok W m image.slots r q first_pass image.head.room b k i has small))))
        (λ h. absurd (away h.2))
        (bits_more b k grown i))
        (given.either (b * l.block + i))

    -- a block that had none, and whose entry names a slot now
    fresh : (k : ℕ) → m b ≡ None → n b ≡ Some k → value r b i ≡ None → entry w b ≡ code l (Some k) → Goal
    fresh k none has was is =
        let low = (slots.fits b k has).0 in
        let new = (put.each b).fresh k none has in
        ⊎_elim
        (λ set. ⊎_elim
        (λ here. inr (w (place l k (1 + i)), new_bytes b k i has small here, value-set l w b k i ok low is set))
        (λ away. ⊎_elim
        (λ bits. absurd (away (new.only i (sym bits ∙ set)).1))
        (λ h. absurd (away h.2))
        (bits_more b k has i))
        (given.either (b * l.block + i)))
        (λ unset. inl (value-unset l w b k i ok low is unset ∙ sym was))
        (cases_Bool (is_set (w (place l k 0)) i))

    without : m b ≡ None → Goal
    without none =
        let was : value r b i ≡ None = value-blank r b i (image.table b near ∙ ap (code l) none) in
        ⊎_elim
        (λ empty. inl (value-blank w b i empty ∙ sym was))
        (λ named. ⊎_elim
        (λ still. inl (value-blank w b i (named ∙ ap (code l) still) ∙ sym was))
        (λ has. fresh has.0 none has.1 was (named ∙ ap (code l) has.1))
        (option_cases (n b)))
        (rest-within b near)

    one_value : Goal
    one_value = ⊎_elim without (λ has. held has.0 has.1) (option_cases (m b))

  pub rest-values : StepsValue l (W) r w
  rest-values b i below small = one_value b i below small

  -- ---- each slot holds a sector

  rest-holds : EachSlotHolds l.block l.entries r → EachSlotHolds l.block l.entries w
  rest-holds h = record { holds = λ b below filled. go b below (in_entries l b below) filled (option_cases (m b)) }
    where
      still : (b k i : ℕ) → n b ≡ Some k → is_set (q (place l k 0)) i ≡ true → is_set (w (place l k 0)) i ≡ true
      still b k i has set = ⊎_elim (λ bits. bits ∙ set) (λ x. x.0) (bits_more b k has i)

      go : (b : ℕ) → b < l.entries → b < entries_in_sectors l → entry w b ≢ blank → (m b ≡ None) ⊎ ((k : ℕ) × (m b ≡ Some k)) → (i : ℕ) × (i < l.block) × (is_set (w (entry w b)) i ≡ true)
      go b below near filled (inr (k, has)) =
          let grown = put.grown b k has in
          let was : entry r b ≡ place l k 0 = image.table b near ∙ ap (code l) has in
          let is : entry w b ≡ place l k 0 = ⊎_elim (λ e. e ∙ ap (code l) has) (λ e. e ∙ ap (code l) grown) (entry_is b near) in
          let low = place-small l k ok (image.slots.fits b k has).0 in
          let old = h.holds b below (λ e. omega (arith, low, was, e)) in
          let bitmap : q (place l k 0) ≡ r (place l k 0) = first-bitmap l ok W m image.slots r q first_pass image.head.room b k has in
          (old.0, old.1, ap (λ p. is_set (w p) old.0) is ∙ still b k old.0 grown (ap (λ x. is_set x old.0) bitmap ∙ (ap (λ p. is_set (r p) old.0) (sym was) ∙ old.2)))
      go b below near filled (inl none) = ⊎_elim
          (λ empty. absurd (filled empty))
          (λ named. ⊎_elim
          (λ gone. absurd (filled (named ∙ ap (code l) gone)))
          (λ has.
          let new = (put.each b).fresh has.0 none has.1 in
          let is : entry w b ≡ place l has.0 0 = named ∙ ap (code l) has.1 in
          (new.some.0, new.some.1, ap (λ p. is_set (w p) new.some.0) is ∙ still b has.0 new.some.0 has.1 (new.each new.some.0 new.some.1 new.some.2)))
          (option_cases (n b)))
          (rest-within b near)

  -- ---- valid

  -- the map that the entries give: that of memory, where they are not blank
  left : Slots
  left b = if entry w b == blank then None else n b

  left-some : (b k : ℕ) → left b ≡ Some k → n b ≡ Some k
  unfolding left
  left-some b k has = ⊎_elim
      (λ empty. absurd (none-some k (sym (cond-true (entry w b == blank) None (n b) (eq-eqb (entry w b) blank empty)) ∙ has)))
      (λ filled. sym (cond-false (entry w b == blank) None (n b) (ne_eqb (entry w b) blank filled)) ∙ has)
      (cases_eq (entry w b) blank)

  left-entry : (b : ℕ) → b < entries_in_sectors l → entry w b ≡ code l (left b)
  unfolding left
  left-entry b near = ⊎_elim
      (λ empty. empty ∙ sym (ap (code l) (cond-true (entry w b == blank) None (n b) (eq-eqb (entry w b) blank empty))))
      (λ filled. ⊎_elim (λ e. absurd (filled e)) (λ e. e) (rest-within b near) ∙ sym (ap (code l) (cond-false (entry w b == blank) None (n b) (ne_eqb (entry w b) blank filled))))
      (cases_eq (entry w b) blank)

  rest-image_head : IsHead l w footer header
  rest-image_head = head-kept l r w footer header rest-head.zero rest-head.one rest-head.two rest-head.last image.head

  pub rest-valid : IsValid l.block l.entries l.sectors w
  rest-valid = valid-from_image l ok (let image' : IsImage l w footer header left = record {
    head = rest-image_head;
    table = left-entry;
    slots = record {
      sized = λ b k has. slots.sized b k (left-some b k has);
      fits = λ b k has. slots.fits b k (left-some b k has);
      once = λ b c k has had. slots.once b c k (left-some b k has) (left-some c k had);
    };
  } in image')

  pub rest-follows : Follows l (W) r w
  rest-follows = follows-from_values ok rest-head (valid-from_image l ok image) rest-values rest-holds

  -- ---- all of it is written

  -- where each block's entry is that of the map, w is an image with that map
  pub rest-image : ((b : ℕ) → b < entries_in_sectors l → entry w b ≡ code l (n b)) → IsImage l w footer header n
  rest-image table = record { head = rest-image_head; table = table; slots = slots }
