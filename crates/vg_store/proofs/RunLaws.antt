-- Where the sectors of a volume stand on the device, and what a call for one run of them is to the volume.
use Rattle.std.proofs.Common.{Fits, w64, ◌≡◌, ℕ, ◌+◌, ◌-◌, ◌*◌, ◌/◌, ◌%◌, ◌^◌, ◌<◌, ◌≤◌, min, ◌⊎◌, inl, inr, List, [], ◌∷◌, ◌++◌, length, sym, ap, ap₂, subst, ◌∙◌, arith}
use Rattle.std.specs.Prelude.{slice_index}
use Rattle.std.proofs.lemmas.Bool.{cases_lt}
use Rattle.std.proofs.lemmas.Nat.{mod_below, div_below, div-add-mod'}
use Rattle.std.proofs.Math.Nat.{mul-le-mul_right}
use Rattle.sm_disk.specs.Sectors.{sector}
use Rattle.sm_disk.specs.Held.{Held, IsIn, IsWhole, Torn, Wrote, Gave}
use Rattle.vg_layout.specs.Places.{area_place}
use Rattle.vg_volumes.specs.Volumes.{AreIn, spot, span, volume, SameElsewhere}
use Rattle.vg_volumes.proofs.SpotLaws.{ahead_div, ahead_mod, extent_some, spot_below, spot_once}
use Rattle.vg_volumes.proofs.VolumeLaws.{past_pending, volume_floor_same, volume_pending, volume_reads}
use Rattle.vg_store.specs.Groups.{area_of}
use Rattle.vg_store.specs.Runs.{AreAdjacent, AreOn, IsRun, SameInFront}

-- to the end of the extents that stand one after the other, one sector stands behind the other
pub spot_next : (x : ℕ) (es : List ℕ) (p k many : ℕ) → AreAdjacent es (p / x) many → p % x + k < many * x → spot x es (p + k) ≡ spot x es p + k
unfolding spot
spot_next x es p k many beside low =
    let wide = extent_some (p % x + k) many x low in
    let i = (p % x + k) / x in
    let index : (p + k) / x ≡ p / x + i = sym (ahead_div p k x wide) in
    let offset : (p + k) % x ≡ (p % x + k) % x = sym (ahead_mod p k x) in
    let along : slice_index es (p / x + i) ≡ slice_index es (p / x) + i = beside i (div_below (p % x + k) x many wide low) in
    let sum : (slice_index es (p / x) + i) * x + (p % x + k) % x ≡ slice_index es (p / x) * x + p % x + k = omega (arith, div-add-mod' (p % x + k) x) in
    ap₂ (λ j r. slice_index es j * x + r) index offset ∙ ap (λ e. e * x + (p % x + k) % x) along ∙ sum

-- extents that are whole on a device are whole behind its front
on_area : {l size x : ℕ} {es : List ℕ} → AreOn l size x es → AreIn (size - area_place l) x es
on_area on = record { within = λ i below. let most = on.within i below in omega (arith, most); once = on.once }

-- each sector of a volume stands on the device
pub spot_on : (l size x : ℕ) (es : List ℕ) (p : ℕ) → AreOn l size x es → p < span x es → area_place l + spot x es p < size
spot_on l size x es p on p_in = let below = spot_below p (on_area on) p_in in omega (arith, below)

pub run_from : (l x : ℕ) (es : List ℕ) (at done left place n many : ℕ) → 0 < left → at + (done + left) ≤ span x es
    → 0 < many → AreAdjacent es (at / x + (at % x + done) / x) many
    → place ≡ area_place l + slice_index es (at / x + (at % x + done) / x) * x + (at % x + done) % x → n ≡ min (many * x - (at % x + done) % x) left
    → IsRun l x es (at + done) place n
unfolding spot
run_from l x es at done left place n many some within more beside begins long =
    let in_span : at + done < span x es = omega arith in
    let wide = extent_some (at + done) (length es) x in_span in
    let low = mod_below (at + done) x wide in
    let index = ahead_div at done x wide in
    let offset = ahead_mod at done x in
    let room : 1 * x ≤ many * x = mul-le-mul_right x more in
    let most : n ≤ many * x - (at + done) % x = omega (arith, long, offset) in
    record {
      some = omega (arith, long, offset, low, room);
      within = omega (arith, long);
      begins = begins ∙ ap₂ (λ i r. area_place l + slice_index es i * x + r) index offset ∙ omega arith;
      together = λ k below. spot_next x es (at + done) k many (subst (λ i. AreAdjacent es i many) index beside) (omega (arith, most));
    }

-- its places have room in 64 bits
pub run_fits : (l x : ℕ) (es : List ℕ) (i off top e y : ℕ) → AreOn l (2 ^ 64 - 1) x es → i < length es → off < y → top ≡ area_place l → e ≡ slice_index es i → y ≡ x → Fits w64 (top + e * y + off)
run_fits l x es i off top e y on below small is e_is y_is =
    let most = on.within i below in
    let same : e * y ≡ slice_index es i * x = ap₂ (λ a b. a * b) e_is y_is in
    omega (arith, most, same, small, is, y_is)

-- ---- one run

-- a run of a volume whose extents stand on the device
pub record IsPart (l size x : ℕ) (es : List ℕ) (p place n : ℕ) : Type 0 where
  pub on : AreOn l size x es
  pub run : IsRun l x es p place n

-- a call for the run is for whole sectors of the device
pub part_whole : {l size x : ℕ} {es : List ℕ} {p place n : ℕ} (len wide : ℕ) → IsPart l size x es p place n → len ≡ 512 * n → wide ≡ size → IsWhole place len wide
part_whole {l} {size} {x} {es} {p} {place} {n} len wide s long same =
    let next = s.run.together (n - 1) (omega (arith, s.run.some)) in
    let below = spot_on l size x es (p + (n - 1)) s.on (omega (arith, s.run.some, s.run.within)) in
    record {
      some = omega (arith, long, s.run.some);
      whole = omega (arith, long);
      within = omega (arith, long, same, next, below, s.run.begins, s.run.some);
    }

-- the sectors of the run stand within it on the device
pub within_run : {l size x : ℕ} {es : List ℕ} {p place n : ℕ} → IsPart l size x es p place n → (q : ℕ) → IsIn p (512 * n) q
    → (q < span x es) × (area_place l + spot x es q ≡ place + (q - p))
within_run {l} {size} {x} {es} {p} {place} {n} s q here =
    let at : p + (q - p) ≡ q = omega (arith, here.0) in
    let next = s.run.together (q - p) (omega (arith, here.0, here.1)) in
    let spot_is : spot x es q ≡ spot x es p + (q - p) = ap (spot x es) (sym at) ∙ next in
    (omega (arith, here.1, s.run.within), omega (arith, spot_is, s.run.begins))

-- and no other sector does
pub from_run : {l size x : ℕ} {es : List ℕ} {p place n : ℕ} → IsPart l size x es p place n → (q : ℕ) → q < span x es
    → IsIn place (512 * n) (area_place l + spot x es q) → IsIn p (512 * n) q
from_run {l} {size} {x} {es} {p} {place} {n} s q below there =
    let k = spot x es q - spot x es p in
    let low : k < n = omega (arith, there.0, there.1, s.run.begins) in
    let sum : spot x es p + k ≡ spot x es q = omega (arith, there.0, s.run.begins) in
    let same : p + k ≡ q = spot_once (p + k) q (on_area s.on) (omega (arith, low, s.run.within)) below (s.run.together k low ∙ sum) in
    (omega (arith, same), omega (arith, same, low))

run_pending : (x : ℕ) (es : List ℕ) (a b : Held) (bytes : List ℕ) (q there back : ℕ) → q < span x es → there ≡ back
    → b.pending (spot x es q) ≡ a.pending (spot x es q) ++ sector bytes there ∷ []
    → (volume x es b).pending q ≡ (volume x es a).pending q ++ sector bytes back ∷ []
run_pending x es a b bytes q there back below is more =
    volume_pending x es b q below ∙ more
    ∙ ap₂ (λ l i. l ++ sector bytes i ∷ []) (sym (volume_pending x es a q below)) is

-- a write of the run is a write of the volume
pub run_torn : {l size x : ℕ} {es : List ℕ} {p place n : ℕ} {bytes : List ℕ} {a b : Held} → IsPart l size x es p place n → length bytes ≡ 512 * n
    → Torn place bytes a b → Torn p bytes (volume x es (area_of l a)) (volume x es (area_of l b))
run_torn {l} {size} {x} {es} {p} {place} {n} {bytes} {a} {b} s long t = record {
  floor = volume_floor_same x es (area_of l a) (area_of l b) (λ q. t.floor (area_place l + q));
  pending = λ q. at_place q (cases_lt q (span x es));
}
  where
    IsEither : ℕ → Type 0
    IsEither q = ((volume x es (area_of l b)).pending q ≡ (volume x es (area_of l a)).pending q)
        ⊎ (IsIn p (length bytes) q × ((volume x es (area_of l b)).pending q ≡ (volume x es (area_of l a)).pending q ++ sector bytes (q - p) ∷ []))

    by : (q : ℕ) → q < span x es → (b.pending (area_place l + spot x es q) ≡ a.pending (area_place l + spot x es q))
        ⊎ (IsIn place (length bytes) (area_place l + spot x es q) × (b.pending (area_place l + spot x es q) ≡ a.pending (area_place l + spot x es q) ++ sector bytes (area_place l + spot x es q - place) ∷ []))
        → IsEither q
    by q below (inl same) = inl (volume_pending x es (area_of l b) q below ∙ same ∙ sym (volume_pending x es (area_of l a) q below))
    by q below (inr (there, more)) =
        let here = from_run s q below (there.0, omega (arith, there.1, long)) in
        let at = (within_run s q here).1 in
        inr ((here.0, omega (arith, here.1, long)), run_pending x es (area_of l a) (area_of l b) bytes q (area_place l + spot x es q - place) (q - p) below (omega (arith, at)) more)

    at_place : (q : ℕ) → (q < span x es) ⊎ (span x es ≤ q) → IsEither q
    at_place q (inl below) = by q below (t.pending (area_place l + spot x es q))
    at_place q (inr past) = inl (past_pending x es (area_of l b) q past ∙ sym (past_pending x es (area_of l a) q past))

pub run_wrote : {l size x : ℕ} {es : List ℕ} {p place n : ℕ} {bytes : List ℕ} {a b : Held} → IsPart l size x es p place n → length bytes ≡ 512 * n
    → Wrote place bytes a b → Wrote p bytes (volume x es (area_of l a)) (volume x es (area_of l b))
run_wrote {l} {size} {x} {es} {p} {place} {n} {bytes} {a} {b} s long w = record {
  floor = volume_floor_same x es (area_of l a) (area_of l b) (λ q. w.floor (area_place l + q));
  inside = λ q here. inside q (here.0, omega (arith, here.1, long));
  outside = λ q not_here. outside q (λ here. not_here (here.0, omega (arith, here.1, long))) (cases_lt q (span x es));
}
  where
    inside : (q : ℕ) → IsIn p (512 * n) q → (volume x es (area_of l b)).pending q ≡ (volume x es (area_of l a)).pending q ++ sector bytes (q - p) ∷ []
    inside q here =
        let at = within_run s q here in
        run_pending x es (area_of l a) (area_of l b) bytes q (area_place l + spot x es q - place) (q - p) at.0 (omega (arith, at.1))
        (w.inside (area_place l + spot x es q) (omega (arith, at.1), omega (arith, at.1, here.0, here.1, long)))

    outside : (q : ℕ) → (IsIn p (512 * n) q → ⊥) → (q < span x es) ⊎ (span x es ≤ q) → (volume x es (area_of l b)).pending q ≡ (volume x es (area_of l a)).pending q
    outside q not_here (inl below) =
        volume_pending x es (area_of l b) q below
        ∙ w.outside (area_place l + spot x es q) (λ there. not_here (from_run s q below (there.0, omega (arith, there.1, long))))
        ∙ sym (volume_pending x es (area_of l a) q below)
    outside q not_here (inr past) = past_pending x es (area_of l b) q past ∙ sym (past_pending x es (area_of l a) q past)

-- a read of the run is a read of the volume
pub run_gave : {l size x : ℕ} {es : List ℕ} {p place n : ℕ} (h : Held) (bytes : List ℕ) → IsPart l size x es p place n → length bytes ≡ 512 * n
    → Gave place h bytes → Gave p (volume x es (area_of l h)) bytes
run_gave {l} {size} {x} {es} {p} {place} {n} h bytes s long g = λ q here.
    let at = within_run s q (here.0, omega (arith, here.1, long)) in
    let back : q - p ≡ area_place l + spot x es q - place = omega (arith, at.1) in
    ap (sector bytes) back
    ∙ g (area_place l + spot x es q) (omega (arith, at.1), omega (arith, at.1, here.0, here.1))
    ∙ sym (volume_reads x es (area_of l h) q at.0)

-- no other place of the area is written
pub run_elsewhere : {l size x : ℕ} {es : List ℕ} {p place n : ℕ} {bytes : List ℕ} {a b : Held} → IsPart l size x es p place n → length bytes ≡ 512 * n
    → Torn place bytes a b → SameElsewhere x es (area_of l a) (area_of l b)
run_elsewhere {l} {size} {x} {es} {p} {place} {n} {bytes} {a} {b} s long t = record {
  floor = λ q _. t.floor (area_place l + q);
  pending = λ q away. by q away (t.pending (area_place l + q));
}
  where
    by : (q : ℕ) → ((r : ℕ) → r < span x es → spot x es r ≡ q → ⊥) → (b.pending (area_place l + q) ≡ a.pending (area_place l + q))
        ⊎ (IsIn place (length bytes) (area_place l + q) × (b.pending (area_place l + q) ≡ a.pending (area_place l + q) ++ sector bytes (area_place l + q - place) ∷ []))
        → b.pending (area_place l + q) ≡ a.pending (area_place l + q)
    by q away (inl same) = same
    by q away (inr (there, more)) =
        let k = q - spot x es p in
        let low : k < n = omega (arith, there.0, there.1, s.run.begins, long) in
        let sum : spot x es p + k ≡ q = omega (arith, there.0, s.run.begins) in
        absurd (away (p + k) (omega (arith, low, s.run.within)) (s.run.together k low ∙ sum))

-- nor any in front of it
pub run_front : {l size x : ℕ} {es : List ℕ} {p place n : ℕ} {bytes : List ℕ} {a b : Held} → IsPart l size x es p place n
    → Torn place bytes a b → SameInFront l a b
run_front {l} {size} {x} {es} {p} {place} {n} {bytes} {a} {b} s t = record {
  floor = λ q _. t.floor q;
  pending = λ q front. by q front (t.pending q);
}
  where
    by : (q : ℕ) → q < area_place l → (b.pending q ≡ a.pending q) ⊎ (IsIn place (length bytes) q × (b.pending q ≡ a.pending q ++ sector bytes (q - place) ∷ [])) → b.pending q ≡ a.pending q
    by q front (inl same) = same
    by q front (inr (there, more)) = absurd (omega (arith, there.0, s.run.begins))
