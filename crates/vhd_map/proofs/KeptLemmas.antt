-- A map is kept when it is made, when a slot is given, and its least free slot is read off its words.
use Rattle.std.proofs.Common.{◌≡◌, ◌≢◌, ℕ, ◌+◌, ◌-◌, ◌*◌, ◌/◌, ◌%◌, ◌^◌, ◌<◌, ◌≤◌, ◌∷◌, true, false, max, List, length, get_or, set, bit_or, replicate, Option, Some, None, refl, sym, ap, ◌∙◌, ⊎_elim, arith, zero, suc, add-one, length-set, get_or-set_other, w64}
use Rattle.std.specs.Int.{trailing_ones}
use Rattle.std.proofs.lemmas.Nat.Bits.{bit_at-trailing_ones}
use Rattle.std.proofs.lemmas.Bool.{cases_eq, cases_lt, true≢false, ne_eqb}
use Rattle.std.proofs.lemmas.List.{get_or_read, map-set, length-map, length-replicate}
use Rattle.vhd_map.specs.Slots.{slot_of, is_used, used_count, top_of, least_free_slot, IsMap}
use Rattle.vhd_map.specs.Words.{is_marked}
use Rattle.vhd_map.specs.Kept.{slot_or_none, kept_map, AgreesWithEntries}
use Rattle.vhd_map.proofs.Bits.{is_marked-set_same, is_marked-set_other, is_marked-replicate, not_full, is_marked-lowest, is_marked-below_lowest, is_marked-full}
use Rattle.vhd_map.proofs.SlotLemmas.{is_used-past, is_used-set_same, is_used-set_other, used_count-set, used_count-le, used_count-replicate, top_of-set, top_of-replicate, is_used-replicate, IsMap-replicate, IsMap-set, least_free_slot-is}

pub slot_or_none-some : (e : ℕ) → e ≢ 4294967295 → slot_or_none e ≡ Some e
slot_or_none-some e differs = rw (ne_eqb e 4294967295 differs) refl

-- the map after a slot is written at a block
pub kept_map-set : (es : List ℕ) (block slot : ℕ) → slot ≢ 4294967295 → kept_map (set es block slot) ≡ set (kept_map es) block (Some slot)
kept_map-set es block slot differs =
    map-set slot_or_none es block slot ∙ ap (λ (o : Option ℕ). set (kept_map es) block o) (slot_or_none-some slot differs)

pub kept_map-replicate : (n : ℕ) → kept_map (replicate n 4294967295) ≡ replicate n None
kept_map-replicate zero = refl
kept_map-replicate (suc n) = ap (λ (m : List (Option ℕ)). None ∷ m) (kept_map-replicate n)

pub AgreesWithEntries-blank : (n : ℕ) → n < 2 ^ 32 → AgreesWithEntries (replicate n 4294967295) (replicate (n / 64 + 1) 0) 0 0 0
AgreesWithEntries-blank n fits =
    let blank = kept_map-replicate n in
    let long : length (replicate {A = ℕ} n 4294967295) ≡ n = length-replicate n 4294967295 in
    let words : length (replicate {A = ℕ} (n / 64 + 1) 0) ≡ n / 64 + 1 = length-replicate (n / 64 + 1) 0 in
    record {
      fits = omega arith;
      good = rw blank (IsMap-replicate n);
      room = omega arith;
      marked = λ slot. is_marked-replicate (n / 64 + 1) slot ∙ sym (rw blank (is_used-replicate n slot));
      counted = sym (rw blank (used_count-replicate n));
      topped = sym (rw blank (top_of-replicate n));
      within = omega arith;
      least_room = λ e. omega (arith, e, zeros (n / 64));
      full = λ w below. absurd (omega arith);
    }
  where
    zeros : (k : ℕ) → get_or (replicate {A = ℕ} (k + 1) 0) 0 0 ≡ 0
    zeros k = rw add-one refl

-- ---- a slot is given

-- what a call that gives a slot asks
pub record MayPut (entries : List ℕ) (block slot : ℕ) : Type 0 where
  pub block_in : block < length entries
  pub without : slot_of (kept_map entries) block ≡ None
  pub free : is_used (kept_map entries) slot ≡ false
  pub slot_in : slot < length entries

pub may_put : (es : List ℕ) (now : List (Option ℕ)) (block slot : ℕ) → kept_map es ≡ now → block < length now → slot_of now block ≡ None → is_used now slot ≡ false → slot < length now → MayPut es block slot
may_put es now block slot seen block_in without free slot_in =
    let long : length now ≡ length es = sym (ap length seen) ∙ length-map es slot_or_none in
    record { block_in = omega (arith, long); without = rw seen without; free = rw seen free; slot_in = omega (arith, long) }

-- the words with the slot's bit set
abbrev pub marks : List ℕ → ℕ → List ℕ
marks words slot = set words (slot / 64) (bit_or (get_or words (slot / 64) 0) (1 * 2 ^ (slot % 64) % 2 ^ 64))

-- the word that was read there
pub marks_read : (ws : List ℕ) (slot word : ℕ) → slot / 64 < length ws → word ≡ get_or ws (slot / 64) word → set ws (slot / 64) (bit_or word (1 * 2 ^ (slot % 64) % 2 ^ 64)) ≡ marks ws slot
marks_read ws slot word within read =
    ap (λ (x : ℕ). set ws (slot / 64) (bit_or x (1 * 2 ^ (slot % 64) % 2 ^ 64))) (get_or_read ws (slot / 64) word within read 0)

module _ (es ws : List ℕ) (count top least : ℕ) (kept : AgreesWithEntries es ws count top least) (block slot : ℕ) (may : MayPut es block slot) where
  long : length (kept_map es) ≡ length es
  long = length-map es slot_or_none

  pub differs : slot ≢ 4294967295
  differs e = omega (arith, kept.fits, may.slot_in)

  after : kept_map (set es block slot) ≡ set (kept_map es) block (Some slot)
  after = kept_map-set es block slot differs

  pub word_in : slot / 64 < length ws
  word_in = omega (arith, kept.room, may.slot_in)

  block_in : block < length (kept_map es)
  block_in = omega (arith, long, may.block_in)

  pub put-good : IsMap (kept_map (set es block slot))
  put-good = rw after (IsMap-set (kept_map es) block slot kept.good block_in may.free (omega (arith, long, may.slot_in)))

  pub put-marked : (k : ℕ) → is_marked (marks ws slot) k ≡ is_used (kept_map (set es block slot)) k
  put-marked k = rw after (⊎_elim
      (λ e. rw e (is_marked-set_same ws slot word_in ∙ sym (is_used-set_same (kept_map es) block slot block_in)))
      (λ ne. is_marked-set_other ws slot k word_in ne ∙ kept.marked k ∙ sym (is_used-set_other (kept_map es) block slot k block_in may.without ne))
      (cases_eq k slot))

  pub put-count : count + 1 ≡ used_count (kept_map (set es block slot))
  put-count = rw after (let step = used_count-set (kept_map es) block slot block_in may.without in omega (arith, step, kept.counted))

  pub put-top : max top (slot + 1) ≡ top_of (kept_map (set es block slot))
  put-top = rw after (let step = top_of-set (kept_map es) block slot block_in may.without in omega (arith, step, kept.topped))

  -- the count still fits
  pub put-fits : count + 1 < 2 ^ 32
  put-fits = let most = used_count-le (kept_map (set es block slot)) in
      let same : length (kept_map (set es block slot)) ≡ length es = length-map (set es block slot) slot_or_none ∙ length-set es block slot in
      omega (arith, most, same, put-count, kept.fits)

  -- the last word has a free bit, that of T
  pub put-last : get_or (marks ws slot) (length (marks ws slot) - 1) 0 ≢ 2 ^ 64 - 1
  put-last =
      let same : length (kept_map (set es block slot)) ≡ length es = length-map (set es block slot) slot_or_none ∙ length-set es block slot in
      let free = put-marked (length es) ∙ is_used-past (kept_map (set es block slot)) (length es) put-good (omega (arith, same)) in
      let last : length (marks ws slot) - 1 ≡ length es / 64 = omega (arith, length-set ws (slot / 64) (bit_or (get_or ws (slot / 64) 0) (1 * 2 ^ (slot % 64) % 2 ^ 64)), kept.room) in
      rw last (not_full (marks ws slot) (length es) free)

  -- the words below the old least are still full
  pub put-full : (w : ℕ) → w < least → get_or (marks ws slot) w 0 ≡ 2 ^ 64 - 1
  put-full w below = ⊎_elim
      (λ here. absurd (true≢false (sym (is_marked-full ws slot (ap (λ (v : ℕ). get_or ws v 0) (sym here) ∙ kept.full w below)) ∙ (kept.marked slot ∙ may.free))))
      (λ other. get_or-set_other ws (slot / 64) w _ 0 other ∙ kept.full w below)
      (cases_eq w (slot / 64))

  pub AgreesWithEntries-put : (later : ℕ) → later < length (marks ws slot) → get_or (marks ws slot) later 0 ≢ 2 ^ 64 - 1 → ((w : ℕ) → least ≤ w → w < later → get_or (marks ws slot) w 0 ≡ 2 ^ 64 - 1) → AgreesWithEntries (set es block slot) (marks ws slot) (count + 1) (max top (slot + 1)) later
  AgreesWithEntries-put later within room full = record {
    fits = omega (arith, kept.fits, length-set es block slot);
    good = put-good;
    room = omega (arith, kept.room, length-set es block slot, length-set ws (slot / 64) (bit_or (get_or ws (slot / 64) 0) (1 * 2 ^ (slot % 64) % 2 ^ 64)));
    marked = put-marked;
    counted = put-count;
    topped = put-top;
    within = within;
    least_room = room;
    full = λ w below. ⊎_elim (λ low. put-full w low) (λ high. full w high below) (cases_lt w least);
  }

-- ---- the least free slot

pub least_free_slot-read : (es ws : List ℕ) (count top least : ℕ) → AgreesWithEntries es ws count top least → get_or ws least 0 < 2 ^ 64 → (least * 64 + trailing_ones w64 (get_or ws least 0) ≡ least_free_slot (kept_map es)) × (least * 64 + trailing_ones w64 (get_or ws least 0) ≤ length es)
least_free_slot-read es ws count top least kept fits =
    let m = kept_map es in
    let s = least * 64 + trailing_ones w64 (get_or ws least 0) in
    let free : is_used m s ≡ false = sym (kept.marked s) ∙ is_marked-lowest ws least fits kept.least_room in
    let used : (k : ℕ) → k < s → is_used m k ≡ true = λ k below. sym (kept.marked k) ∙ ⊎_elim
    (λ low. is_marked-full ws k (kept.full (k / 64) low))
    (λ high. is_marked-below_lowest ws least k fits kept.least_room (at k below high) below)
    (cases_lt (k / 64) least) in
    let same : length m ≡ length es = length-map es slot_or_none in
    (least_free_slot-is m s kept.good free used, ⊎_elim (λ far. absurd (true≢false (sym (used (length m) (omega arith)) ∙ is_used-past m (length m) kept.good (omega arith)))) (λ near. near) (cases_lt (length es) s))
  where
    few : trailing_ones w64 (get_or ws least 0) < 64
    few = (bit_at-trailing_ones w64 (get_or ws least 0) (let room = kept.least_room in omega arith)).0

    at : (k : ℕ) → k < least * 64 + trailing_ones w64 (get_or ws least 0) → least ≤ k / 64 → k / 64 ≡ least
    at k below high = omega (arith, few)
