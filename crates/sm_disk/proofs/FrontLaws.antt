-- A write that goes sector by sector.
use Rattle.std.proofs.Common.{◌≡◌, ℕ, ◌+◌, ◌-◌, ◌*◌, ◌<◌, ◌≤◌, ◌⊎◌, inl, inr, List, [], ◌∷◌, ◌++◌, length, refl, ap, ◌∙◌, arith}
use Rattle.std.proofs.lemmas.Bool.{cases_lt}
use Rattle.sm_disk.specs.Sectors.{sector}
use Rattle.sm_disk.specs.Held.{Held, IsIn, Torn, Wrote, Gave, SameHeld, reads}
use Rattle.sm_disk.proofs.SectorLaws.{length-sector, sector-one}

-- the first n sectors of the bytes were written
pub record WroteFront (at : ℕ) (bytes : List ℕ) (n : ℕ) (old new : Held) : Type 0 where
  pub floor : (p : ℕ) → new.floor p ≡ old.floor p
  pub inside : (p : ℕ) → at ≤ p → p < at + n → new.pending p ≡ old.pending p ++ sector bytes (p - at) ∷ []
  pub below : (p : ℕ) → p < at → new.pending p ≡ old.pending p
  pub above : (p : ℕ) → at + n ≤ p → new.pending p ≡ old.pending p

pub WroteFront-none : (at : ℕ) (bytes : List ℕ) (h : Held) → WroteFront at bytes 0 h h
WroteFront-none at bytes h = record {
  floor = λ p. refl;
  inside = λ p from below. absurd (omega arith);
  below = λ p _. refl;
  above = λ p _. refl;
}

pub WroteFront-more : {at : ℕ} {bytes : List ℕ} {n place : ℕ} {value : List ℕ} {old mid new : Held} → 512 * n + 512 ≤ length bytes → place ≡ at + n
    → value ≡ sector bytes n → WroteFront at bytes n old mid → Wrote place value mid new → WroteFront at bytes (n + 1) old new
WroteFront-more {at} {bytes} {n} {place} {value} {old} {mid} {new} within at_place is front wrote = record {
  floor = λ p. wrote.floor p ∙ front.floor p;
  inside = λ p from to. inside p from to (cases_lt p (at + n));
  below = λ p before. elsewhere p (λ here. omega (arith, here.0)) ∙ front.below p before;
  above = λ p past. elsewhere p (λ here. omega (arith, here.1)) ∙ front.above p (omega arith);
}
  where
    long : length value ≡ 512
    long = ap length is ∙ length-sector bytes n within

    elsewhere : (p : ℕ) → (IsIn place 512 p → ⊥) → new.pending p ≡ mid.pending p
    elsewhere p not_here = wrote.outside p (λ here. not_here (here.0, omega (arith, here.1, long)))

    at_end : (p : ℕ) → p ≡ place → new.pending p ≡ old.pending p ++ sector bytes (p - at) ∷ []
    at_end p same =
        let first : p - place ≡ 0 = omega arith in
        let last : n ≡ p - at = omega arith in
        wrote.inside p (omega arith, omega (arith, long))
        ∙ ap (λ i. mid.pending p ++ sector value i ∷ []) first
        ∙ ap (λ v. mid.pending p ++ v ∷ []) (sector-one value long ∙ is ∙ ap (sector bytes) last)
        ∙ ap (λ l. l ++ sector bytes (p - at) ∷ []) (front.above p (omega arith))

    inside : (p : ℕ) → at ≤ p → p < at + (n + 1) → (p < at + n) ⊎ (at + n ≤ p) → new.pending p ≡ old.pending p ++ sector bytes (p - at) ∷ []
    inside p from to (inl before) = elsewhere p (λ here. omega (arith, here.0)) ∙ front.inside p from before
    inside p from to (inr past) = at_end p (omega arith)

pub torn_from_front : {at : ℕ} {bytes : List ℕ} {n : ℕ} {old mid new : Held} → 512 * n ≤ length bytes
    → WroteFront at bytes n old mid → SameHeld mid new → Torn at bytes old new
torn_from_front {at} {bytes} {n} {old} {mid} {new} within front same = record {
  floor = λ p. same.floor p ∙ front.floor p;
  pending = λ p. by p (cases_lt p at) (cases_lt p (at + n));
}
  where
    by : (p : ℕ) → (p < at) ⊎ (at ≤ p) → (p < at + n) ⊎ (at + n ≤ p) → (new.pending p ≡ old.pending p)
        ⊎ (IsIn at (length bytes) p × (new.pending p ≡ old.pending p ++ sector bytes (p - at) ∷ []))
    by p (inl before) _ = inl (same.pending p ∙ front.below p before)
    by p (inr from) (inl below) = inr ((from, omega arith), same.pending p ∙ front.inside p from below)
    by p (inr from) (inr past) = inl (same.pending p ∙ front.above p past)

-- the first n sectors were read
abbrev pub GaveFront : ℕ → Held → List ℕ → ℕ → Type 0
GaveFront at h bytes n = (j : ℕ) → j < n → sector bytes j ≡ reads h (at + j)

pub gave_from_front : (at : ℕ) (h : Held) (bytes : List ℕ) (n : ℕ) → length bytes ≡ 512 * n → GaveFront at h bytes n → Gave at h bytes
gave_from_front at h bytes n whole front = λ p here.
    let place : at + (p - at) ≡ p = omega (arith, here.0) in
    front (p - at) (omega (arith, here.0, here.1)) ∙ ap (reads h) place
