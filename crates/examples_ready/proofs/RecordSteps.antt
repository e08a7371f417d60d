-- The worked records are those of their places.
use Rattle.std.proofs.Common.{◌≡◌, inl, inr, ℕ, zero, suc, ◌+◌, ◌<◌, ◌≤◌, true, List, [], ◌∷◌, length, replicate, Option, Some, None, sym, ap, ◌∙◌, subst, arith}
use Rattle.std.proofs.lemmas.Option.{none-some, same_Some}
use Rattle.std.specs.List.{slice_get, AllByRecursion}
use Rattle.common_laws.specs.Lists.{In, numbers}
use Rattle.sm_base.specs.declared.names.Name.TheVariants.{Mgt}
use Rattle.sm_disk.specs.Held.{Held, reads}
use Rattle.sm_disk.specs.Sectors.{zeros}
use Rattle.sm_mgt.specs.Places.{Agrees, as_reading, records_held}
use Rattle.sm_record.specs.declared.records.Record.{Record}
use Rattle.sm_record.specs.Records.{IsRecord, reading}
use Rattle.sm_record.specs.declared.records.Reading.TheVariants.{Free}
use Rattle.sm_record.proofs.RoundTrips.{reading_again, reading_zeros}
use Rattle.vg_meta.specs.Tables.{VolumeTable, rows, extents_of}
use Rattle.vg_volumes.specs.Volumes.{span, volume}
use Rattle.vg_volumes.proofs.VolumeLaws.{volume_reads}
use Rattle.vhd_chain.specs.declared.rows.TreeRow.{TreeRow}
use Rattle.sm_ready.specs.Known.{is_shown}
use Rattle.examples_moments.specs.Worked.{record_area}
use Rattle.examples_ready.specs.WorkedRows.{site}
use Rattle.examples_moments.proofs.PlacedLaws.{spot_numbers}

-- a place behind the records is free
blank_place : (n k : ℕ) (o : Option Record) → slice_get (replicate n None) k ≡ Some o → (o ≡ None) × (k < n)
blank_place zero k o has = absurd (none-some o has)
blank_place (suc n) zero o has = (sym (same_Some None o has), omega arith)
blank_place (suc n) (suc k) o has = let h = blank_place n k o has in (h.0, omega (arith, h.1))

zeros_free : reading zeros ≡ Free
unfolding zeros
zeros_free = reading_zeros 512

abbrev pub placed : List Record → ℕ → List (Option Record)
placed [] n = replicate n None
placed (r ∷ rs) n = Some r ∷ placed rs n

-- each place of some records, and of so many free ones behind them
pub places_read : (rs : List Record) (n k : ℕ) (o : Option Record) → AllByRecursion IsRecord rs → slice_get (placed rs n) k ≡ Some o → (reading (record_area rs k) ≡ as_reading o) × (k < length rs + n)
places_read [] n k o right has = let h = blank_place n k o has in (zeros_free ∙ ap as_reading (sym h.0), omega (arith, h.1))
places_read (r ∷ rs) n zero o right has = (reading_again r right.0 ∙ ap as_reading (same_Some (Some r) o has), omega arith)
places_read (r ∷ rs) n (suc k) o right has = let h = places_read rs n k o right.1 has in (h.0, omega (arith, h.1))

records_long : 512 ≤ span 32 (numbers 0 16)
unfolding numbers
records_long = omega arith

-- the records of the first places agree with those of the volume of records on the first extents
pub records_agree : (t : VolumeTable) (area : Held) (rs : List Record) (n : ℕ) → extents_of (rows t Mgt) ≡ numbers 0 16 → length (placed rs n) ≡ 512 → length rs + n ≡ 512
    → AllByRecursion IsRecord rs → ((k : ℕ) → k < 512 → reads area k ≡ record_area rs k) → Agrees (records_held site t area) (placed rs n)
records_agree t area rs n there long many right same = record {
  long = long;
  each = λ k o has.
      let h = places_read rs n k o right has in
      let below : k < 512 = omega (arith, h.1, many) in
      ap (λ es. reading (reads (volume 32 es area) k)) there
      ∙ ap reading (volume_reads 32 (numbers 0 16) area k (omega (arith, below, records_long)) ∙ ap (reads area) (spot_numbers 0 16 k (omega (arith, below)) ∙ omega arith) ∙ same k below)
      ∙ h.0;
}

-- no free place has a record
none_there : (n : ℕ) (r : Record) → In (Some r) (replicate n None) → ⊥
none_there zero r none = none
none_there (suc n) r (inl e) = none-some r (sym e)
none_there (suc n) r (inr later) = none_there n r later

-- each record is that of a visible image
pub no_stray_in : (shown : List TreeRow) (rs : List Record) (n : ℕ) → AllByRecursion (λ r. is_shown shown r.uuid ≡ true) rs → (r : Record) → In (Some r) (placed rs n) → is_shown shown r.uuid ≡ true
no_stray_in shown [] n all r here = absurd (none_there n r here)
no_stray_in shown (x ∷ rs) n all r (inl e) = subst (λ (y : Record). is_shown shown y.uuid ≡ true) (sym (same_Some r x e)) all.0
no_stray_in shown (x ∷ rs) n all r (inr later) = no_stray_in shown rs n all.1 r later
