-- Places of two volumes never meet, so what is done to one volume leaves each other.
use Rattle.std.proofs.Common.{◌≡◌, ◌≢◌, ◌⊎◌, inl, inr, ℕ, ◌/◌, ◌%◌, ◌<◌, ◌≤◌, cond, List, [], Some, sym, ap, ◌∙◌, nat_lt}
use Rattle.std.specs.Prelude.{slice_get, slice_index}
use Rattle.std.proofs.lemmas.Bool.{lt-ltb, le-ltb, cases_lt}
use Rattle.std.proofs.lemmas.Nat.{same_from_place, mod_below}
use Rattle.std.proofs.lemmas.Option.{slice_get-get_or}
use Rattle.std.proofs.Math.Nat.{div-lt_iff_lt-mul}
use Rattle.sm_base.specs.declared.names.Name.{Name}
use Rattle.sm_disk.specs.Held.{Held}
use Rattle.vg_meta.specs.Tables.{VolumeTable, IsTable, IsSpread, Rows, rows, extents_of}
use Rattle.vg_meta.proofs.ByName.{spread}
use Rattle.vg_volumes.specs.Volumes.{spot, span, volume, IsElsewhere, SameElsewhere}

-- the extent in which a sector of a volume lies is one of the volume's
pub extent_there : (extent : ℕ) (es : List ℕ) (p : ℕ) → 0 < extent → p < span extent es → slice_get es (p / extent) ≡ Some (slice_index es (p / extent))
extent_there extent es p pos below = slice_get-get_or es (p / extent) 0 ((div-lt_iff_lt-mul pos).1 below)

-- places of two volumes never meet
pub spots_apart : (count extent : ℕ) (vs : Rows) (n m : Name) (p q : ℕ) → IsSpread count vs → 0 < extent → m ≢ n
    → p < span extent (extents_of (vs m)) → q < span extent (extents_of (vs n)) → spot extent (extents_of (vs n)) q ≢ spot extent (extents_of (vs m)) p
unfolding spot
spots_apart count extent vs n m p q sp pos other p_in q_in at =
    let es = extents_of (vs m) in
    let fs = extents_of (vs n) in
    let one = (same_from_place (slice_index fs (q / extent)) (q % extent) (slice_index es (p / extent)) (p % extent) extent (mod_below q extent pos) (mod_below p extent pos) at).0 in
    other (sp.same_name m n (p / extent) (q / extent) (slice_index es (p / extent)) (extent_there extent es p pos p_in)
    (extent_there extent fs q pos q_in ∙ ap Some one))

-- a place of one volume is elsewhere for each other
pub elsewhere : (count extent : ℕ) (vs : Rows) (n m : Name) (p : ℕ) → IsSpread count vs → 0 < extent → m ≢ n
    → p < span extent (extents_of (vs m)) → IsElsewhere extent (extents_of (vs n)) (spot extent (extents_of (vs m)) p)
elsewhere count extent vs n m p sp pos other p_in q q_in = spots_apart count extent vs n m p q sp pos other p_in q_in

-- ---- one volume was written: what each other holds

held-step : {A : Type 0} (size p : ℕ) (x y z : A) → (p < size) ⊎ (size ≤ p) → (p < size → x ≡ y) → cond (nat_lt p size) x z ≡ cond (nat_lt p size) y z
held-step size p x y z (inl below) same = ap (λ v. cond (nat_lt p size) v z) (same below)
held-step size p x y z (inr past) same = ap (λ b. cond b x z) (le-ltb p size past) ∙ sym (ap (λ b. cond b y z) (le-ltb p size past))

pub other_floor : (extent count : ℕ) (t : VolumeTable) (old new : Held) (n m : Name) → IsTable count t → 0 < extent
    → SameElsewhere extent (extents_of (rows t n)) old new → m ≢ n
    → (p : ℕ) → (volume extent (extents_of (rows t m)) new).floor p ≡ (volume extent (extents_of (rows t m)) old).floor p
unfolding volume
other_floor extent count t old new n m table pos h other p =
    let es = extents_of (rows t m) in
    held-step (span extent es) p (new.floor (spot extent es p)) (old.floor (spot extent es p)) [] (cases_lt p (span extent es))
    (λ below. h.floor (spot extent es p) (elsewhere count extent (rows t) n m p (spread count t table) pos other below))

pub other_pending : (extent count : ℕ) (t : VolumeTable) (old new : Held) (n m : Name) → IsTable count t → 0 < extent
    → SameElsewhere extent (extents_of (rows t n)) old new → m ≢ n
    → (p : ℕ) → (volume extent (extents_of (rows t m)) new).pending p ≡ (volume extent (extents_of (rows t m)) old).pending p
unfolding volume
other_pending extent count t old new n m table pos h other p =
    let es = extents_of (rows t m) in
    held-step (span extent es) p (new.pending (spot extent es p)) (old.pending (spot extent es p)) [] (cases_lt p (span extent es))
    (λ below. h.pending (spot extent es p) (elsewhere count extent (rows t) n m p (spread count t table) pos other below))
