-- What a write leaves at each of its returns.
use Rattle.std.proofs.Common.{◌≡◌, ℕ, ◌+◌, ◌*◌, ◌/◌, ◌%◌, ◌<◌, ◌≤◌, ◌⊎◌, true, List, length, Option, Some, sym, ap, ◌∙◌, subst, inl, inr, ⊎_elim, arith}
use Rattle.std.proofs.lemmas.Bool.{cases_lt}
use Rattle.std.proofs.lemmas.Nat.{mod_below, div-add-mod'}
use Rattle.std.proofs.lemmas.Option.{none-some}
use Rattle.sm_disk.specs.Held.{Held, Allows, Reaches, reads}
use Rattle.sm_disk.proofs.HeldLaws.{Allows-reads}
use Rattle.sm_disk.proofs.ReachesLaws.{Reaches-then, Reaches-keeps, image_before}
use Rattle.vhd_fields.specs.declared.footers.Footer.{Footer}
use Rattle.vhd_fields.specs.declared.headers.Header.{Header}
use Rattle.vhd_map.specs.Bitmaps.{is_set}
use Rattle.vhd_map.specs.Slots.{slot_of, top_of}
use Rattle.vhd_layout.specs.Layouts.{Sectors, Layout, IsLayout, Slots, IsSlots, place, entry, code, entries_in_sectors}
use Rattle.vhd_layout.specs.Images.{IsImage}
use Rattle.vhd_layout.specs.Contents.{size_at}
use Rattle.vhd_layout.proofs.ImageLaws.{content-of_head, in_entries}
use Rattle.vhd_volumes.specs.declared.heads.Head.{Head}
use Rattle.vhd_volumes.specs.Truth.{IsTrueOf}
use Rattle.vhd_volumes.specs.Writes.{Follows, IsGuarded, HasWritten, own_in}
use Rattle.vhd_write.specs.Passes.{PutsData, HasBits, IsPut, ArePut, AreSet, IsTableSector, PutsRest, Goes, GoesOn}
use Rattle.vhd_write.specs.Spans.{Given}
use Rattle.vhd_write.proofs.ImageKept.{image-kept, valid-kept, own-in, value-set}
use Rattle.vhd_write.proofs.FirstLaws.{first-ends, first-bitmap, first-within, first-follows}
use Rattle.vhd_write.proofs.RestLaws.{AllPut, rest-within, rest-valid, rest-follows, rest-image, data_same, entry_is}
use Rattle.vhd_write.proofs.GivenLaws.{IsGivenBy, IsWithin}
use Rattle.vhd_write.proofs.PartLaws.{slot-in}

-- ---- what a read gives of the written sectors

-- sector i of block b is one that the image holds with its new bytes
pub record Shows (l : Layout) (W : ℕ → List ℕ → Type 0) (n : Slots) (w : Sectors) (b i : ℕ) : Type 0 where
  pub k : ℕ
  pub has : n b ≡ Some k
  pub bit : is_set (w (place l k 0)) i ≡ true
  pub bytes : (v : List ℕ) → W (b * l.block + i) v → w (place l k (1 + i)) ≡ v

abbrev pub ShowsAll : Layout → (ℕ → List ℕ → Type 0) → (ℕ → Type 0) → Slots → Sectors → Type 0
ShowsAll l W M n w = (b i : ℕ) → i < l.block → M (b * l.block + i) → Shows l W n w b i

written-inside : (l : Layout) (W : ℕ → List ℕ → Type 0) (M : ℕ → Type 0) (given : IsGivenBy W M) (n : Slots) (w : Sectors) (footer : Footer) (header : Header) → IsLayout l → IsImage l w footer header n
    → ((s : ℕ) → M s → s < l.blocks * l.block) → ShowsAll l W M n w → (s : ℕ) (v : List ℕ) → W s v → own_in l w s ≡ Some v
written-inside l W M given n w footer header ok image within shows s v puts =
    let size = (content-of_head l w footer header image.head).0 in
    let inside : s < size_at l.sectors w = let low = within s (given.inside s v puts) in omega (arith, size, low) in
    let small : s % l.block < l.block = mod_below s l.block (omega (arith, ok.block_least)) in
    let whole : s / l.block * l.block + s % l.block ≡ s = div-add-mod' s l.block in
    let P : ℕ → Type 0 = λ x. W x v in
    let here = subst P (sym whole) puts in
    let h = shows (s / l.block) (s % l.block) small (given.inside _ v here) in
    let low = (image.slots.fits (s / l.block) h.k h.has).0 in
    let sized = image.slots.sized (s / l.block) h.k h.has in
    let near = in_entries l (s / l.block) (omega (arith, sized, image.head.footer_fits.most)) in
    own-in l w s inside ∙ (value-set l w (s / l.block) h.k (s % l.block) ok low (image.table (s / l.block) near ∙ ap (code l) h.has) h.bit ∙ ap Some (h.bytes v here))

-- what is elsewhere
written-outside : (l : Layout) (W : ℕ → List ℕ → Type 0) {v w : Sectors} → Follows l (W) v w → (s : ℕ) → ((x : List ℕ) → W s x → ⊥) → own_in l w s ≡ own_in l v s
written-outside l W f s none = ⊎_elim (λ e. e) (λ h. absurd (none h.0 h.1)) (f.own s)

module _ (l : Layout) (ok : IsLayout l) (W : ℕ → List ℕ → Type 0) (M : ℕ → Type 0) (given : IsGivenBy W M) (head : Head) (m : List (Option ℕ)) (old : Held) (was : IsTrueOf l old head (slot_of m)) where
  -- ---- behind the first pass

  record Step (new : Held) (w : Sectors) : Type 0 where
    before : Sectors
    allowed : Allows l.sectors old before
    each : (p : ℕ) → p < l.sectors → (w p ≡ before p) ⊎ PutsData l W (slot_of m) p (w p)

  step : {new : Held} → Reaches (PutsData l W (slot_of m)) old new → (w : Sectors) → Allows l.sectors new w → Step new w
  step r w a = let h = image_before l.sectors w r a in record { before = h.0; allowed = h.1; each = h.2 }

  pub guarded-first : {new : Held} → Reaches (PutsData l W (slot_of m)) old new → IsGuarded l (W) old new
  guarded-first r = record {
    valid = λ w a. let s = step r w a in valid-kept ok (first-ends l ok W (slot_of m) was.now.slots s.before w s.each was.now.head.room) (was.valid s.before s.allowed);
    follows = λ w a. let s = step r w a in
        record { before = s.before; allowed = s.allowed; follows = first-follows l ok W (slot_of m) was.now.slots s.before w s.each was.now.head.room (λ b near. was.within s.before s.allowed b near) (was.valid s.before s.allowed) };
  }

  pub true-first : {new : Held} → Reaches (PutsData l W (slot_of m)) old new → IsTrueOf l new head (slot_of m)
  true-first {new} r = record {
    now = image-kept ok (first-ends l ok W (slot_of m) was.now.slots (reads old) (reads new) (λ p below. r.gives p) was.now.head.room) was.now;
    valid = (guarded-first r).valid;
    within = λ w a b near. let s = step r w a in first-within l ok W (slot_of m) was.now.slots s.before w s.each was.now.head.room (λ c close. was.within s.before s.allowed c close) b near;
  }

  pub written-first : {new : Held} → Reaches (PutsData l W (slot_of m)) old new → ((s : ℕ) → M s → s < l.blocks * l.block) → ShowsAll l W M (slot_of m) (reads new) → HasWritten l W old new
  written-first {new} r within shows = record {
    inside = written-inside l W M given (slot_of m) (reads new) head.footer head.header ok (true-first r).now within shows;
    outside = written-outside l W (first-follows l ok W (slot_of m) was.now.slots (reads old) (reads new) (λ p below. r.gives p) was.now.head.room
        (λ b near. was.within (reads old) (Allows-reads l.sectors old) b near) (was.valid (reads old) (Allows-reads l.sectors old)));
  }

  -- where all bits were set already
  pub shows-first : {new : Held} {first end : ℕ} → Reaches (PutsData l W (slot_of m)) old new → IsWithin l M first end
      → ((b : ℕ) → first ≤ b → b < end → (k : ℕ) × (slot_of m b ≡ Some k) × HasBits l M b (reads old (place l k 0)))
      → ArePut l W M (slot_of m) (slot_of m) end (reads new) → ShowsAll l W M (slot_of m) (reads new)
  shows-first {new} {first} {end} r span full put b i small here =
      let range = span b i small here in
      let f = full b range.0 range.1 in
      let same = first-bitmap l ok W (slot_of m) was.now.slots (reads old) (reads new) (λ p below. r.gives p) was.now.head.room b f.0 f.1 in
      record {
        k = f.0;
        has = f.1;
        bit = ap (λ x. is_set x i) same ∙ f.2 i small here;
        bytes = λ v puts. (put b range.1).data_is f.0 f.1 i v small puts;
      }

  -- ---- behind the sync

  module _ (n : List (Option ℕ)) (slots : IsSlots l (slot_of n)) (mid : Held) (first_pass : Reaches (PutsData l W (slot_of m)) old mid)
      (put : AllPut l W M (slot_of m) (slot_of n) (reads mid)) where
    pub guarded-after : {new : Held} → GoesOn l M (slot_of n) mid new → IsGuarded l (W) old new
    guarded-after (inl keeps) = guarded-first (Reaches-then first_pass (Reaches-keeps _ keeps))
    guarded-after {new} (inr goes) = record {
      valid = λ w a. rest-valid l ok W M given (slot_of m) (slot_of n) slots head.footer head.header (reads old) (reads mid) w was.now (λ p below. first_pass.gives p) put (λ p below. goes.may p (w p) (a p below));
      follows = λ w a. record {
        before = reads old;
        allowed = Allows-reads l.sectors old;
        follows = rest-follows l ok W M given (slot_of m) (slot_of n) slots head.footer head.header (reads old) (reads mid) w was.now (λ p below. first_pass.gives p) put (λ p below. goes.may p (w p) (a p below));
      };
    }

    pub true-after : {new : Held} → Goes (PutsRest l M (slot_of n)) mid new → ((b : ℕ) → b < entries_in_sectors l → entry (reads new) b ≡ code l (slot_of n b)) → IsTrueOf l new head (slot_of n)
    true-after {new} goes table = record {
      now = rest-image l ok W M given (slot_of m) (slot_of n) slots head.footer head.header (reads old) (reads mid) (reads new) was.now (λ p below. first_pass.gives p) put (λ p below. goes.gives p) table;
      valid = (guarded-after (inr goes)).valid;
      within = λ w a b near. rest-within l ok W M given (slot_of m) (slot_of n) slots head.footer head.header (reads old) (reads mid) w was.now (λ p below. first_pass.gives p) put (λ p below. goes.may p (w p) (a p below)) b near;
    }

    pub written-after : {new : Held} → Goes (PutsRest l M (slot_of n)) mid new → ((b : ℕ) → b < entries_in_sectors l → entry (reads new) b ≡ code l (slot_of n b))
        → ((s : ℕ) → M s → s < l.blocks * l.block) → ShowsAll l W M (slot_of n) (reads new) → HasWritten l W old new
    written-after {new} goes table within shows = record {
      inside = written-inside l W M given (slot_of n) (reads new) head.footer head.header ok (true-after goes table).now within shows;
      outside = written-outside l W (rest-follows l ok W M given (slot_of m) (slot_of n) slots head.footer head.header (reads old) (reads mid) (reads new) was.now (λ p below. first_pass.gives p) put (λ p below. goes.gives p));
    }

    -- the entries, where each sector of the table with a new one was written
    pub table-after : {new : Held} {first end : ℕ} → Goes (PutsRest l M (slot_of n)) mid new → Given first end m n
        → ((b : ℕ) → first ≤ b → b < end → (slot_of n b ≡ slot_of m b) ⊎ IsTableSector l (slot_of n) (b / 128) (reads new (3 + b / 128)))
        → (b : ℕ) → b < entries_in_sectors l → entry (reads new) b ≡ code l (slot_of n b)
    table-after {new} {first} {end} goes got table b near = ⊎_elim (λ e. by_old e (cases_lt b first) (cases_lt b end)) (λ e. e)
        (entry_is l ok W M given (slot_of m) (slot_of n) slots head.footer head.header (reads old) (reads mid) (reads new) was.now (λ p below. first_pass.gives p) put (λ p below. goes.gives p) b near)
      where
        by_old : entry (reads new) b ≡ code l (slot_of m b) → (b < first) ⊎ (first ≤ b) → (b < end) ⊎ (end ≤ b) → entry (reads new) b ≡ code l (slot_of n b)
        by_old e (inl less) _ = e ∙ sym (ap (code l) (got.others b (inl less)))
        by_old e (inr low) (inr past) = e ∙ sym (ap (code l) (got.others b (inr past)))
        by_old e (inr low) (inl high) = ⊎_elim
            (λ same. e ∙ sym (ap (code l) same))
            (λ right. let whole : 128 * (b / 128) + b % 128 ≡ b = omega arith in right (b % 128) (omega arith) ∙ ap (λ x. code l (slot_of n x)) whole)
            (table b low high)

    pub shows-after : {new : Held} {first end : ℕ} → Goes (PutsRest l M (slot_of n)) mid new → IsWithin l M first end → Given first end m n
        → ((b : ℕ) → first ≤ b → b < end → AreSet l M (slot_of n b) b (reads new)) → ShowsAll l W M (slot_of n) (reads new)
    shows-after {new} {first} {end} goes span got set b i small here =
        let range = span b i small here in
        let has = got.has b range.0 range.1 in
        record {
          k = has.0;
          has = has.1;
          bit = set b range.0 range.1 has.0 has.1 i small here;
          bytes = λ v puts.
              data_same l ok W M given (slot_of m) (slot_of n) slots head.footer head.header (reads old) (reads mid) (reads new) was.now (λ p below. first_pass.gives p) put (λ p below. goes.gives p) b has.0 i has.1 small
              ∙ (put.each b).data_is has.0 has.1 i v small puts;
        }

-- ---- the new map

pub all-put : (l : Layout) (W : ℕ → List ℕ → Type 0) (M : ℕ → Type 0) → IsGivenBy W M → (m n : List (Option ℕ)) (r : Sectors) {first end : ℕ} → IsWithin l M first end → Given first end m n
    → ArePut l W M (slot_of m) (slot_of n) end r → AllPut l W M (slot_of m) (slot_of n) r
all-put l W M by m n r {first} {end} span given put = record {
  grown = given.grown.keeps;
  each = λ b. ⊎_elim (λ below. put b below) (λ past. far b past) (cases_lt b end);
}
  where
    far : (b : ℕ) → end ≤ b → IsPut l W M (slot_of m b) (slot_of n b) b r
    far b past = record {
      data_is = λ k has i v within puts. absurd (let here = span b i within (by.inside _ v puts) in omega (arith, here.1));
      fresh = λ k none has. absurd (none-some k (sym (given.others b (inr past) ∙ none) ∙ has));
    }

pub new-slots : (l : Layout) (m n : List (Option ℕ)) {first end : ℕ} → IsSlots l (slot_of m) → Given first end m n → end ≤ l.blocks → length n ≡ l.entries → l.first + top_of n * (1 + l.block) + 1 ≤ l.sectors → IsSlots l (slot_of n)
new-slots l m n {first} {end} old given most long room = record {
  sized = λ b k has. ⊎_elim (λ below. omega arith) (λ past. old.sized b k (sym (given.others b (inr past)) ∙ has)) (cases_lt b end);
  fits = λ b k has. (omega (arith, given.good.below b k has, long), slot-in l n b k has room);
  once = given.good.once;
}
