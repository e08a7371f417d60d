-- Records of no disk are wiped, place by place.
use Rattle.std.proofs.Common.{◌≡◌, ◌≢◌, ℕ, zero, suc, ◌+◌, ◌-◌, ◌<◌, ◌≤◌, ◌⊎◌, inl, inr, ⊎_elim, List, [], ◌∷◌, length, set, Option, Some, None, refl, sym, ap, ◌∙◌, subst, arith}
use Rattle.std.specs.List.{slice_get}
use Rattle.std.proofs.lemmas.Bool.{cases_lt}
use Rattle.std.proofs.lemmas.List.{length-set, get_or-set_same}
use Rattle.std.proofs.lemmas.Option.{slice_get_within, slice_get-get_or}
use Rattle.sm_disk.specs.Held.{Held, Torn, Wrote, Puts}
use Rattle.sm_disk.specs.Sectors.{sector, zeros}
use Rattle.sm_disk.proofs.HeldLaws.{in_one, may-torn}
use Rattle.sm_disk.proofs.SectorLaws.{sector-one, IsSector-zeros}
use Rattle.vg_meta.specs.Tables.{VolumeTable}
use Rattle.sm_record.specs.declared.records.Record.{Record}
use Rattle.sm_mgt.specs.Places.{Agrees, place_count}
use Rattle.sm_mgt.proofs.AgreeLaws.{agrees_wipe}
use Rattle.sm_ready.specs.Repairs.{IsRightAt, IsStrayAt, IsWithoutStrays, IsZeroedAt}

-- ---- one place

put_at : (t : VolumeTable) (places : List (Option Record)) (place : ℕ) → IsStrayAt t places place → (p : ℕ) (v : List ℕ) → Puts place zeros p v → (v ≡ zeros) × IsStrayAt t places p
put_at t places place stray p v (here, is) =
    let at : p ≡ place = in_one place (length zeros) p IsSector-zeros.long here in
    let first : p - place ≡ 0 = omega arith in
    (is ∙ ap (sector zeros) first ∙ sector-one zeros IsSector-zeros.long, subst (IsStrayAt t places) (sym at) stray)

-- zeros were to be written over a stray record
pub zeroed_one : (t : VolumeTable) (places : List (Option Record)) (place : ℕ) → IsStrayAt t places place → (old new : Held) → Torn place zeros old new → IsZeroedAt (IsStrayAt t places) old new
zeroed_one t places place stray old new torn p v may = ⊎_elim (λ was. inl was) (λ puts. inr (put_at t places place stray p v puts)) (may-torn torn p v may)

pub agrees_after : (places after : List (Option Record)) (place : ℕ) (old new : Held) → place < place_count → after ≡ set places place None → Wrote place zeros old new
    → Agrees old places → Agrees new after
agrees_after places after place old new below is wrote was = subst (Agrees new) (sym is) (agrees_wipe places place old new (omega (arith, below, was.long)) wrote was)

-- ---- each place is as it was, or was freed

set_other : {A : Type 0} (xs : List A) (k j : ℕ) (x : A) → j ≢ k → slice_get (set xs k x) j ≡ slice_get xs j
set_other [] k j x other = refl
set_other (y ∷ xs) zero zero x other = absurd (other refl)
set_other (y ∷ xs) zero (suc j) x other = refl
set_other (y ∷ xs) (suc k) zero x other = refl
set_other (y ∷ xs) (suc k) (suc j) x other = set_other xs k j x (λ e. other (ap suc e))

set_here : {A : Type 0} (xs : List A) (k : ℕ) (x : A) → k < length xs → slice_get (set xs k x) k ≡ Some x
set_here xs k x below = slice_get-get_or (set xs k x) k x (omega (arith, below, length-set xs k x)) ∙ ap Some (get_or-set_same xs k x x below)

same_or_not : (k place : ℕ) → (k ≡ place) ⊎ (k ≢ place)
same_or_not k place = ⊎_elim (λ below. inr (λ e. omega (arith, below, e))) (λ up. ⊎_elim (λ past. inr (λ e. omega (arith, past, e))) (λ at. inl (omega (arith, up, at))) (cases_lt place k)) (cases_lt k place)

-- a place that was freed has no record
pub freed_right : (t : VolumeTable) (places after : List (Option Record)) (place : ℕ) → after ≡ set places place None → IsRightAt t after place
freed_right t places after place is r at =
    let there : slice_get (set places place None) place ≡ Some (Some r) = subst (λ (xs : List (Option Record)). slice_get xs place ≡ Some (Some r)) is at in
    let within : place < length places = omega (arith, slice_get_within (set places place None) place (Some r) there, length-set places place None) in
    absurd (let e : Some None ≡ Some (Some r) = sym (set_here places place None within) ∙ there in cc)

pub freed_none : (t : VolumeTable) (places : List (Option Record)) → IsWithoutStrays t places places
freed_none t places = record { long = refl; each = λ k. inl refl }

pub freed_one : (t : VolumeTable) (places after : List (Option Record)) (place : ℕ) → after ≡ set places place None → IsStrayAt t places place → IsWithoutStrays t places after
freed_one t places after place is stray = record {
  long = ap length is ∙ length-set places place None;
  each = λ k. ⊎_elim
      (λ same. inr (subst (λ j. (slice_get after j ≡ Some None) × IsStrayAt t places j) (sym same)
      (ap (λ (xs : List (Option Record)). slice_get xs place) is ∙ set_here places place None (slice_get_within places place (Some stray.0) stray.1), stray)))
      (λ other. inl (ap (λ (xs : List (Option Record)). slice_get xs k) is ∙ set_other places place k None other)) (same_or_not k place);
}

freed_twice : (t : VolumeTable) (a b d : List (Option Record)) (k : ℕ) → (slice_get b k ≡ slice_get a k) ⊎ ((slice_get b k ≡ Some None) × IsStrayAt t a k)
    → (slice_get d k ≡ slice_get b k) ⊎ ((slice_get d k ≡ Some None) × IsStrayAt t b k) → (slice_get d k ≡ slice_get a k) ⊎ ((slice_get d k ≡ Some None) × IsStrayAt t a k)
freed_twice t a b d k (inl same) (inl also) = inl (also ∙ same)
freed_twice t a b d k (inr w) (inl also) = inr (also ∙ w.0, w.1)
freed_twice t a b d k (inl same) (inr (free, (r, at, stray))) = inr (free, (r, sym same ∙ at, stray))
freed_twice t a b d k (inr w) (inr (free, v)) = inr (free, w.1)

pub freed_then : {t u : VolumeTable} (a b d : List (Option Record)) → u ≡ t → IsWithoutStrays t a b → IsWithoutStrays u b d → IsWithoutStrays t a d
freed_then {t} {u} a b d table first second =
    let also = subst (λ x. IsWithoutStrays x b d) table second in
    record { long = also.long ∙ first.long; each = λ k. freed_twice t a b d k (first.each k) (also.each k) }

-- ---- one place after another

-- a record that is there now was there
was_there : {t : VolumeTable} {first now : List (Option Record)} (k : ℕ) {r : Record} → IsWithoutStrays t first now → slice_get now k ≡ Some (Some r) → slice_get first k ≡ Some (Some r)
was_there {t} {first} {now} k {r} w at = of (w.each k)
  where
    of : (slice_get now k ≡ slice_get first k) ⊎ ((slice_get now k ≡ Some None) × IsStrayAt t first k) → slice_get first k ≡ Some (Some r)
    of (inl same) = sym same ∙ at
    of (inr (free, stray)) = absurd (let e : Some None ≡ Some (Some r) = sym free ∙ at in cc)

pub zeroed_step : {t0 t : VolumeTable} (first now : List (Option Record)) → t ≡ t0 → IsWithoutStrays t0 first now → (a b d : Held)
    → IsZeroedAt (IsStrayAt t0 first) a b → IsZeroedAt (IsStrayAt t now) b d → IsZeroedAt (IsStrayAt t0 first) a d
zeroed_step {t0} {t} first now table freed a b d before after p v may =
    ⊎_elim (λ mid. before p v mid) (λ w. let z = subst (λ x. IsStrayAt x now p) table w.1 in inr (w.0, (z.0, was_there p freed z.1, z.2))) (after p v may)

-- no stray record stands below this place
abbrev pub AreRightBelow : VolumeTable → List (Option Record) → ℕ → Type 0
AreRightBelow t now place = (k : ℕ) → k < place → IsRightAt t now k

pub right_more : {t0 t : VolumeTable} (now after : List (Option Record)) (place : ℕ) → t ≡ t0 → AreRightBelow t0 now place → IsRightAt t after place → IsWithoutStrays t now after → AreRightBelow t0 after (place + 1)
right_more {t0} {t} now after place table far here freed k below = subst (λ x. IsRightAt x after k) table (of (cases_lt k place))
  where
    of : (k < place) ⊎ (place ≤ k) → IsRightAt t after k
    of (inl before) r at = subst (λ x. IsRightAt x now k) (sym table) (far k before) r (was_there k freed at)
    of (inr behind) r at = let e : place ≡ k = omega (arith, behind, below) in subst (IsRightAt t after) e here r at
