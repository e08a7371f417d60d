-- Where memory agreed with the store before a change, it agrees after it.
use Rattle.std.proofs.Common.{◌≡◌, ℕ, ◌-◌, ◌<◌, ◌⊎◌, inl, inr, true, false, List, length, map, get_or, set, slice_get, Option, Some, None, sym, ap, ◌∙◌, arith}
use Rattle.std.proofs.lemmas.Bool.{cases_eq, cases_Bool, cond-true, cond-false, true≢false}
use Rattle.std.proofs.lemmas.List.{length-map, length-set, get_or-map, get_or-set_other}
use Rattle.std.proofs.lemmas.Grind.{get_or-set_at}
use Rattle.std.proofs.lemmas.Option.{slice_get-get_or, slice_get_within, get_or_from_slice_get}
use Rattle.sm_disk.specs.Held.{Held, IsIn, Wrote, newest, reads}
use Rattle.sm_disk.specs.Sectors.{sector, zeros}
use Rattle.sm_disk.proofs.HeldLaws.{in_one, newest-push, reads-at, reads-wrote, reads-elsewhere, torn_from_wrote}
use Rattle.sm_disk.proofs.SectorLaws.{sector-one, IsSector-zeros}
use Rattle.sm_record.specs.declared.records.Record.{Record}
use Rattle.sm_record.specs.declared.records.Reading.TheVariants.{Free}
use Rattle.sm_record.specs.Records.{IsRecord, reading, record_sector}
use Rattle.sm_record.proofs.RoundTrips.{reading_again, reading_zeros, sector_fits}
use Rattle.sm_mgt.specs.Places.{is_of, as_reading, reading_of, Agrees, place_for, HasRecordAt, cleared, WroteZeros}
use Rattle.sm_mgt.proofs.PlaceLaws.{place_below}

reading-zeros : reading zeros ≡ Free
unfolding zeros
reading-zeros = reading_zeros 512

-- one sector was written, and its place says in memory what it reads as
pub agrees_wrote : (places : List (Option Record)) (o : Option Record) (s : List ℕ) (k : ℕ) (old new : Held) → k < length places → length s ≡ 512 → reading s ≡ as_reading o
    → Wrote k s old new → Agrees old places → Agrees new (set places k o)
agrees_wrote places o s k old new below long is wrote was = record {
  long = length-set places k o ∙ was.long;
  each = λ j x at. each j x at (cases_eq j k);
}
  where
    each : (j : ℕ) (x : Option Record) → slice_get (set places k o) j ≡ Some x → (j ≡ k) ⊎ (j ≡ k → ⊥) → reading_of new j ≡ as_reading x
    each j x at (inl same) =
        let value : x ≡ o = sym (get_or_from_slice_get (set places k o) j x x at) ∙ get_or-set_at places k j o x same below in
        let here : IsIn k (length s) j = (omega arith, omega arith) in
        let first : j - k ≡ 0 = omega arith in
        ap reading (reads-wrote wrote j here ∙ ap (sector s) first ∙ sector-one s long) ∙ is ∙ ap as_reading (sym value)
    each j x at (inr other) =
        let within : j < length places = omega (arith, slice_get_within (set places k o) j x at, length-set places k o) in
        let before : slice_get places j ≡ Some x = slice_get-get_or places j x within ∙ ap (λ y. Some y) (sym (get_or-set_other places k j o x other) ∙ get_or_from_slice_get (set places k o) j x x at) in
        ap reading (reads-elsewhere (torn_from_wrote wrote) j (λ here. other (in_one k (length s) j long here))) ∙ was.each j x before

pub agrees_put : (places : List (Option Record)) (row : Record) (k : ℕ) (old new : Held) → IsRecord row → place_for places row.uuid ≡ Some k → Wrote k (record_sector row) old new → Agrees old places → Agrees new (set places k (Some row))
agrees_put places row k old new proper at wrote was =
    agrees_wrote places (Some row) (record_sector row) k old new (place_below places row.uuid k at) (sector_fits row proper).long (reading_again row proper) wrote was

pub agrees_wipe : (places : List (Option Record)) (k : ℕ) (old new : Held) → k < length places → Wrote k zeros old new → Agrees old places → Agrees new (set places k None)
agrees_wipe places k old new below wrote was =
    agrees_wrote places None zeros k old new below IsSector-zeros.long reading-zeros wrote was

-- a place that was zeroed reads as free
pub reads-zeroed : {At : ℕ → Type 0} {old new : Held} → WroteZeros At old new → (p : ℕ) → At p → reads new p ≡ zeros
reads-zeroed {At} {old} {new} w p here =
    ap (λ l. newest (new.floor p) l) (w.inside p here) ∙ newest-push (new.floor p) (old.pending p) zeros

pub agrees_clear : (places : List (Option Record)) (u : List ℕ) (old new : Held) → WroteZeros (HasRecordAt places u) old new → Agrees old places → Agrees new (map (cleared u) places)
agrees_clear places u old new w was = record {
  long = length-map places (cleared u) ∙ was.long;
  each = λ j x at. each j x at (cases_Bool (is_of u (get_or places j None)));
}
  where
    by : (j : ℕ) (x : Option Record) → x ≡ cleared u (get_or places j None) → slice_get places j ≡ Some (get_or places j None)
        → (is_of u (get_or places j None) ≡ true) ⊎ (is_of u (get_or places j None) ≡ false) → reading_of new j ≡ as_reading x
    by j x value there (inl has) =
        ap reading (reads-zeroed w j has) ∙ reading-zeros ∙ ap as_reading (sym (value ∙ cond-true (is_of u (get_or places j None)) None (get_or places j None) has))
    by j x value there (inr hasnt) =
        let away : HasRecordAt places u j → ⊥ = λ h. true≢false (sym h ∙ hasnt) in
        ap reading (reads-at old new j (w.floor j) (w.outside j away))
        ∙ was.each j (get_or places j None) there
        ∙ ap as_reading (sym (value ∙ cond-false (is_of u (get_or places j None)) None (get_or places j None) hasnt))

    each : (j : ℕ) (x : Option Record) → slice_get (map (cleared u) places) j ≡ Some x → (is_of u (get_or places j None) ≡ true) ⊎ (is_of u (get_or places j None) ≡ false)
        → reading_of new j ≡ as_reading x
    each j x at which =
        let within : j < length places = omega (arith, slice_get_within (map (cleared u) places) j x at, length-map places (cleared u)) in
        let value : x ≡ cleared u (get_or places j None) = sym (get_or_from_slice_get (map (cleared u) places) j x x at) ∙ get_or-map (cleared u) places j None x within in
        by j x value (slice_get-get_or places j None within) which
