-- Laws of two parts as one device.
use Rattle.std.proofs.Common.{◌≡◌, ℕ, ◌+◌, ◌-◌, ◌*◌, ◌%◌, ◌<◌, ◌≤◌, min, ◌⊎◌, inl, inr, Bool, true, false, cond, ltb, List, [], ◌∷◌, ◌++◌, length, take, drop, Contains, sym, refl, ap, ◌∙◌, subst, length-append, arith}
use Rattle.std.proofs.Math.Seq.{drop-append_seam}
use Rattle.std.proofs.lemmas.List.{length-take, take-append-drop}
use Rattle.std.proofs.lemmas.Bool.{cases_lt, lt-ltb, le-ltb}
use Rattle.sm_disk.specs.Sectors.{IsSector, sector}
use Rattle.sm_disk.specs.Held.{Held, newest, reads, May, Allows, IsIn, Torn, Wrote, Gave, SameHeld, Keeps, IsSettled, HasSectors}
use Rattle.sm_disk.proofs.SectorLaws.{sector-append_left, sector-drop}
use Rattle.sm_span.specs.Parts.{parted, joined, IsImageOfParts, PartsAllow, SumIsSpent}

-- what holds below the border, and from it on, holds whichever the test answers
by_border : (border p : ℕ) (P : Bool → Type 0) → (p < border → P true) → (border ≤ p → P false) → P (ltb p border)
by_border border p P near far = by (cases_lt p border)
  where
    by : (p < border) ⊎ (border ≤ p) → P (ltb p border)
    by (inl below) = subst P (sym (lt-ltb p border below)) (near below)
    by (inr from) = subst P (sym (le-ltb p border from)) (far from)

-- what a crash may leave at a place below the border, and from it on
may_near : (border p : ℕ) (h k : Held) (v : List ℕ) → p < border → May (joined border h k) p v → May h p v
may_near border p h k v below m =
    let P : Bool → Type 0 = λ b. (v ≡ cond b (h.floor p) (k.floor (p - border))) ⊎ Contains (cond b (h.pending p) (k.pending (p - border))) v in
    subst P (lt-ltb p border below) m

may_far : (border p : ℕ) (h k : Held) (v : List ℕ) → border ≤ p → May (joined border h k) p v → May k (p - border) v
may_far border p h k v from m =
    let P : Bool → Type 0 = λ b. (v ≡ cond b (h.floor p) (k.floor (p - border))) ⊎ Contains (cond b (h.pending p) (k.pending (p - border))) v in
    subst P (le-ltb p border from) m

may_joined : (border p : ℕ) (h k : Held) (v : List ℕ) → (p < border → May h p v) → (border ≤ p → May k (p - border) v) → May (joined border h k) p v
may_joined border p h k v near far =
    by_border border p (λ b. (v ≡ cond b (h.floor p) (k.floor (p - border))) ⊎ Contains (cond b (h.pending p) (k.pending (p - border))) v) near far

-- ---- calls

pub SameHeld-joined : (border now : ℕ) {h h' k k' : Held} → now ≡ border → SameHeld h h' → SameHeld k k' → SameHeld (joined border h k) (joined now h' k')
SameHeld-joined border now {h} {h'} {k} {k'} is s t =
    let P : ℕ → Type 0 = λ n. SameHeld (joined border h k) (joined n h' k') in
    subst P (sym is) (record {
      floor = λ p. by_border border p (λ b. cond b (h'.floor p) (k'.floor (p - border)) ≡ cond b (h.floor p) (k.floor (p - border))) (λ _. s.floor p) (λ _. t.floor (p - border));
      pending = λ p. by_border border p (λ b. cond b (h'.pending p) (k'.pending (p - border)) ≡ cond b (h.pending p) (k.pending (p - border))) (λ _. s.pending p) (λ _. t.pending (p - border));
    })

pub Keeps-joined : (border now : ℕ) {h h' k k' : Held} → now ≡ border → Keeps h h' → Keeps k k' → Keeps (joined border h k) (joined now h' k')
Keeps-joined border now {h} {h'} {k} {k'} is s t =
    let P : ℕ → Type 0 = λ n. Keeps (joined border h k) (joined n h' k') in
    subst P (sym is) (record { reads = same; may = less })
  where
    same : (p : ℕ) → reads (joined border h' k') p ≡ reads (joined border h k) p
    same p = by_border border p
        (λ b. newest (cond b (h'.floor p) (k'.floor (p - border))) (cond b (h'.pending p) (k'.pending (p - border)))
        ≡ newest (cond b (h.floor p) (k.floor (p - border))) (cond b (h.pending p) (k.pending (p - border))))
        (λ _. s.reads p) (λ _. t.reads (p - border))

    less : (p : ℕ) (v : List ℕ) → May (joined border h' k') p v → May (joined border h k) p v
    less p v m = may_joined border p h k v
        (λ below. s.may p v (may_near border p h' k' v below m)) (λ from. t.may (p - border) v (may_far border p h' k' v from m))

pub IsSettled-joined : (border : ℕ) (h k : Held) → IsSettled h → IsSettled k → IsSettled (joined border h k)
IsSettled-joined border h k s t =
    λ p. by_border border p (λ b. cond b (h.pending p) (k.pending (p - border)) ≡ []) (λ _. s p) (λ _. t (p - border))

pub HasSectors-joined : (border more : ℕ) {h k : Held} → HasSectors border h → HasSectors more k → HasSectors (border + more) (joined border h k)
HasSectors-joined border more {h} {k} s t = record {
  floor = λ p within. by_border border p (λ b. IsSector (cond b (h.floor p) (k.floor (p - border)))) (λ below. s.floor p below) (λ from. t.floor (p - border) (omega arith));
  pending = λ p v within. by_border border p (λ b. Contains (cond b (h.pending p) (k.pending (p - border))) v → IsSector v)
      (λ below. s.pending p v below) (λ from. t.pending (p - border) v (omega arith));
}

-- ---- whole sectors, cut at the border

-- these bytes, from the place `at` on, are those below the border and those from it on, which begin at this place of the second part
pub record IsCut (border at place : ℕ) (bytes near far : List ℕ) : Type 0 where
  pub behind : place ≡ at - border
  pub whole : bytes ≡ near ++ far
  pub cut : length near ≡ min (512 * (border - at)) (length bytes)
  pub sectors : length bytes % 512 ≡ 0

-- the bytes are cut where those below the border end
pub cut_at : (border at place : ℕ) (bytes near far : List ℕ) (mid : ℕ) → place ≡ at - border → mid ≡ min (512 * (border - at)) (length bytes) → near ≡ take mid bytes → far ≡ drop mid bytes
    → length bytes % 512 ≡ 0 → IsCut border at place bytes near far
cut_at border at place bytes near far mid behind below front back sectors = record {
  behind = behind;
  whole = sym (ap (λ l. l ++ far) front ∙ ap (λ l. take mid bytes ++ l) back ∙ take-append-drop mid bytes);
  cut = omega (arith, ap length front, length-take mid bytes, below);
  sectors = sectors;
}

length_far : {border at place : ℕ} {bytes near far : List ℕ} → IsCut border at place bytes near far → length near + length far ≡ length bytes
length_far {border} {at} {place} {bytes} {near} {far} c = sym (length-append near far) ∙ sym (ap length c.whole)

sector_near : {border at place : ℕ} {bytes near far : List ℕ} → IsCut border at place bytes near far → (p : ℕ) → IsIn at (length near) p → sector near (p - at) ≡ sector bytes (p - at)
sector_near {border} {at} {place} {bytes} {near} {far} c p here =
    let within : 512 * (p - at) + 512 ≤ length near = omega (arith, here.0, here.1, c.cut, c.sectors) in
    sym (ap (λ l. sector l (p - at)) c.whole ∙ sector-append_left near far (p - at) within)

sector_far : {border at place : ℕ} {bytes near far : List ℕ} → IsCut border at place bytes near far → (p : ℕ) → border ≤ p → IsIn place (length far) (p - border)
    → sector far ((p - border) - place) ≡ sector bytes (p - at)
sector_far {border} {at} {place} {bytes} {near} {far} c p from here =
    let sum : length near + length far ≡ length bytes = length_far c in
    let long : length near ≡ 512 * (border - at) = omega (arith, here.0, here.1, c.cut, c.behind) in
    let same : (border - at) + ((p - border) - place) ≡ p - at = omega (arith, here.0, here.1, c.cut, c.behind) in
    let behind : far ≡ drop (512 * (border - at)) bytes =
    sym (drop-append_seam near far) ∙ ap (λ l. drop (length near) l) (sym c.whole) ∙ ap (λ n. drop n bytes) long in
    ap (λ l. sector l ((p - border) - place)) behind ∙ sector-drop bytes (border - at) ((p - border) - place) ∙ ap (sector bytes) same

in_near : {border at place : ℕ} {bytes near far : List ℕ} → IsCut border at place bytes near far → (p : ℕ) → p < border → IsIn at (length bytes) p → IsIn at (length near) p
in_near c p below here = (here.0, omega (arith, here.0, here.1, c.cut, c.behind))

in_far : {border at place : ℕ} {bytes near far : List ℕ} → IsCut border at place bytes near far → (p : ℕ) → border ≤ p → IsIn at (length bytes) p → IsIn place (length far) (p - border)
in_far c p from here = (omega (arith, here.0, c.behind), omega (arith, here.0, here.1, c.cut, c.behind, length_far c))

from_near : {border at place : ℕ} {bytes near far : List ℕ} → IsCut border at place bytes near far → (p : ℕ) → IsIn at (length near) p → IsIn at (length bytes) p
from_near c p here = (here.0, omega (arith, here.1, c.cut, c.behind))

from_far : {border at place : ℕ} {bytes near far : List ℕ} → IsCut border at place bytes near far → (p : ℕ) → border ≤ p → IsIn place (length far) (p - border) → IsIn at (length bytes) p
from_far c p from here = (omega (arith, here.0, here.1, c.cut, c.behind, length_far c), omega (arith, here.0, here.1, c.cut, c.behind, length_far c))

pub Gave-joined : {border at place : ℕ} {bytes near far : List ℕ} (h k : Held) → IsCut border at place bytes near far → Gave at h near → Gave place k far
    → Gave at (joined border h k) bytes
Gave-joined {border} {at} {place} {bytes} {near} {far} h k c s t = λ p here.
    by_border border p (λ b. sector bytes (p - at) ≡ newest (cond b (h.floor p) (k.floor (p - border))) (cond b (h.pending p) (k.pending (p - border))))
    (λ below. let near_here = in_near c p below here in sym (sector_near c p near_here) ∙ s p near_here)
    (λ from. let far_here = in_far c p from here in sym (sector_far c p from far_here) ∙ t (p - border) far_here)

pub Torn-joined : {border now at place : ℕ} {bytes near far : List ℕ} {h h' k k' : Held} → now ≡ border → IsCut border at place bytes near far → Torn at near h h' → Torn place far k k'
    → Torn at bytes (joined border h k) (joined now h' k')
Torn-joined {border} {now} {at} {place} {bytes} {near} {far} {h} {h'} {k} {k'} is c s t =
    let P : ℕ → Type 0 = λ n. Torn at bytes (joined border h k) (joined n h' k') in
    subst P (sym is) (record { floor = same; pending = pending })
  where
    same : (p : ℕ) → (joined border h' k').floor p ≡ (joined border h k).floor p
    same p = by_border border p (λ b. cond b (h'.floor p) (k'.floor (p - border)) ≡ cond b (h.floor p) (k.floor (p - border))) (λ _. s.floor p) (λ _. t.floor (p - border))

    near_by : (p : ℕ) → (h'.pending p ≡ h.pending p) ⊎ (IsIn at (length near) p × (h'.pending p ≡ h.pending p ++ sector near (p - at) ∷ []))
        → (h'.pending p ≡ h.pending p) ⊎ (IsIn at (length bytes) p × (h'.pending p ≡ h.pending p ++ sector bytes (p - at) ∷ []))
    near_by p (inl old) = inl old
    near_by p (inr (here, more)) = inr (from_near c p here, more ∙ ap (λ v. h.pending p ++ v ∷ []) (sector_near c p here))

    far_by : (p : ℕ) → border ≤ p
        → (k'.pending (p - border) ≡ k.pending (p - border)) ⊎ (IsIn place (length far) (p - border) × (k'.pending (p - border) ≡ k.pending (p - border) ++ sector far ((p - border) - place) ∷ []))
        → (k'.pending (p - border) ≡ k.pending (p - border)) ⊎ (IsIn at (length bytes) p × (k'.pending (p - border) ≡ k.pending (p - border) ++ sector bytes (p - at) ∷ []))
    far_by p from (inl old) = inl old
    far_by p from (inr (here, more)) = inr (from_far c p from here, more ∙ ap (λ v. k.pending (p - border) ++ v ∷ []) (sector_far c p from here))

    pending : (p : ℕ) → ((joined border h' k').pending p ≡ (joined border h k).pending p)
        ⊎ (IsIn at (length bytes) p × ((joined border h' k').pending p ≡ (joined border h k).pending p ++ sector bytes (p - at) ∷ []))
    pending p = by_border border p
        (λ b. (cond b (h'.pending p) (k'.pending (p - border)) ≡ cond b (h.pending p) (k.pending (p - border)))
        ⊎ (IsIn at (length bytes) p × (cond b (h'.pending p) (k'.pending (p - border)) ≡ cond b (h.pending p) (k.pending (p - border)) ++ sector bytes (p - at) ∷ [])))
        (λ _. near_by p (s.pending p)) (λ from. far_by p from (t.pending (p - border)))

pub Wrote-joined : {border now at place : ℕ} {bytes near far : List ℕ} {h h' k k' : Held} → now ≡ border → IsCut border at place bytes near far → Wrote at near h h' → Wrote place far k k'
    → Wrote at bytes (joined border h k) (joined now h' k')
Wrote-joined {border} {now} {at} {place} {bytes} {near} {far} {h} {h'} {k} {k'} is c s t =
    let P : ℕ → Type 0 = λ n. Wrote at bytes (joined border h k) (joined n h' k') in
    subst P (sym is) (record { floor = same; inside = inside; outside = outside })
  where
    same : (p : ℕ) → (joined border h' k').floor p ≡ (joined border h k).floor p
    same p = by_border border p (λ b. cond b (h'.floor p) (k'.floor (p - border)) ≡ cond b (h.floor p) (k.floor (p - border))) (λ _. s.floor p) (λ _. t.floor (p - border))

    inside : (p : ℕ) → IsIn at (length bytes) p → (joined border h' k').pending p ≡ (joined border h k).pending p ++ sector bytes (p - at) ∷ []
    inside p here = by_border border p
        (λ b. cond b (h'.pending p) (k'.pending (p - border)) ≡ cond b (h.pending p) (k.pending (p - border)) ++ sector bytes (p - at) ∷ [])
        (λ below. let near_here = in_near c p below here in s.inside p near_here ∙ ap (λ v. h.pending p ++ v ∷ []) (sector_near c p near_here))
        (λ from. let far_here = in_far c p from here in t.inside (p - border) far_here ∙ ap (λ v. k.pending (p - border) ++ v ∷ []) (sector_far c p from far_here))

    outside : (p : ℕ) → (IsIn at (length bytes) p → ⊥) → (joined border h' k').pending p ≡ (joined border h k).pending p
    outside p not_here = by_border border p (λ b. cond b (h'.pending p) (k'.pending (p - border)) ≡ cond b (h.pending p) (k.pending (p - border)))
        (λ _. s.outside p (λ here. not_here (from_near c p here)))
        (λ from. t.outside (p - border) (λ here. not_here (from_far c p from here)))

-- ---- images

pub parts_allow : PartsAllow
parts_allow border more first second image = (apart, together)
  where
    apart : Allows (border + more) (joined border first second) image → IsImageOfParts border more first second image
    apart allowed = record {
      front = image;
      back = λ p. image (border + p);
      front_allowed = λ p below. may_near border p first second (image p) below (allowed p (omega arith));
      back_allowed = λ p below.
          let same : (border + p) - border ≡ p = omega arith in
          let P : ℕ → Type 0 = λ q. May second q (image (border + p)) in
          subst P same (may_far border (border + p) first second (image (border + p)) (omega arith) (allowed (border + p) (omega arith)));
      follows = λ p within. by_border border p (λ b. image p ≡ cond b (image p) (image (border + (p - border)))) (λ _. refl)
          (λ from. let same : p ≡ border + (p - border) = omega arith in ap image same);
    }

    together : IsImageOfParts border more first second image → Allows (border + more) (joined border first second) image
    together i = λ p within.
        let P : List ℕ → Type 0 = λ v. May (joined border first second) p v in
        subst P (sym (i.follows p within)) (may_joined border p first second (parted border i.front i.back p)
        (λ below. let Q : Bool → Type 0 = λ b. May first p (cond b (i.front p) (i.back (p - border))) in
        subst Q (sym (lt-ltb p border below)) (i.front_allowed p below))
        (λ from. let Q : Bool → Type 0 = λ b. May second (p - border) (cond b (i.front p) (i.back (p - border))) in
        subst Q (sym (le-ltb p border from)) (i.back_allowed (p - border) (omega arith))))

-- ---- counts

pub sum_is_spent : SumIsSpent
sum_is_spent first second (inl spent) = omega arith
sum_is_spent first second (inr spent) = omega arith
