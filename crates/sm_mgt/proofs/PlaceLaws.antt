-- Laws of the places of records.
use Rattle.std.proofs.Common.{◌≡◌, ◌≢◌, ℕ, zero, suc, ⊎_elim, ◌+◌, ◌<◌, ◌⊎◌, inl, inr, List, [], ◌∷◌, ◌++◌, length, Option, Some, None, refl, sym, ap, ◌∙◌, arith, length-append, get_or, slice_get, position, is_none, Bool, IfSome}
use Rattle.std.proofs.lemmas.Option.{slice_get-get_or}
use Rattle.sm_disk.specs.Sectors.{sector}
use Rattle.sm_record.specs.declared.records.Record.{Record}
use Rattle.sm_record.specs.declared.records.Reading.TheVariants.{Damaged}
use Rattle.sm_record.specs.Records.{reading}
use Rattle.std.proofs.lemmas.List.Quantifiers.{position-Some}
use Rattle.std.specs.Option.{option_or}
use Rattle.sm_mgt.specs.Places.{is_of, place_for, place_count, as_reading, ReadsAsPlaces, IsDamagedFirst}

got_push : (ps : List (Option Record)) (x o : Option Record) (k : ℕ) → slice_get (ps ++ x ∷ []) k ≡ Some o → ((k ≡ length ps) × (o ≡ x)) ⊎ (slice_get ps k ≡ Some o)
got_push [] x o zero h = inl (refl, (let e = h in cc))
got_push [] x o (suc k) h = absurd (let e = h in cc)
got_push (p ∷ ps) x o zero h = inr h
got_push (p ∷ ps) x o (suc k) h = ⊎_elim (λ w. inl (ap suc w.0, w.1)) (λ g. inr g) (got_push ps x o k h)

-- one more sector reads as one more place
pub ReadsAsPlaces-push : (bytes : List ℕ) (n : ℕ) (ps : List (Option Record)) (x : Option Record) → ReadsAsPlaces bytes n ps → reading (sector bytes n) ≡ as_reading x → ReadsAsPlaces bytes (n + 1) (ps ++ x ∷ [])
ReadsAsPlaces-push bytes n ps x r is = record {
  long = omega (arith, length-append ps (x ∷ []), r.long);
  each = λ k o h. of_cases k o (got_push ps x o k h);
}
  where
    of_cases : (k : ℕ) (o : Option Record) → ((k ≡ length ps) × (o ≡ x)) ⊎ (slice_get ps k ≡ Some o) → reading (sector bytes k) ≡ as_reading o
    of_cases k o (inl w) = ap (λ i. reading (sector bytes i)) (w.0 ∙ r.long) ∙ is ∙ ap as_reading (sym w.1)
    of_cases k o (inr h) = r.each k o h

not_damaged : (o : Option Record) → as_reading o ≢ Damaged
not_damaged None e = (let x = e in cc)
not_damaged (Some r) e = (let x = e in cc)

-- a damaged sector behind those that read as places is the first
pub first_damaged : (bytes : List ℕ) (n : ℕ) (ps : List (Option Record)) → ReadsAsPlaces bytes n ps → n < place_count → reading (sector bytes n) ≡ Damaged → IsDamagedFirst bytes n
first_damaged bytes n ps r below is = record {
  within = below;
  damaged = is;
  before = λ k lt e. let there = slice_get-get_or ps k None (omega (arith, r.long)) in not_damaged (get_or ps k None) (sym (r.each k (get_or ps k None) there) ∙ e);
}

below-position : (test : Option Record → Bool) (xs : List (Option Record)) (k : ℕ) → position test xs ≡ Some k → k < length xs
below-position test xs k h = (position-Some test xs k None h).0

below_either : (o p : Option ℕ) (n k : ℕ) → ((j : ℕ) → o ≡ Some j → j < n) → ((j : ℕ) → p ≡ Some j → j < n) → option_or o p ≡ Some k → k < n
below_either None p n k first second h = second k h
below_either (Some j) p n k first second h = first k h

-- the place for a record is one of the places
pub place_below : (ps : List (Option Record)) (u : List ℕ) (k : ℕ) → place_for ps u ≡ Some k → k < length ps
unfolding place_for
place_below ps u k h = below_either (position (is_of u) ps) (position is_none ps) (length ps) k (below-position (is_of u) ps) (below-position is_none ps) h

-- the same of a call's answer
pub place_within : (ps : List (Option Record)) (u : List ℕ) (o : Option ℕ) → o ≡ place_for ps u → IfSome o (λ k. k < length ps)
place_within ps u None h = tt
place_within ps u (Some k) h = place_below ps u k (sym h)
