-- Two sectors are one exactly where `==` says so, and which sectors are among some.
use Rattle.std.proofs.Common.{◌≡◌, ◌⊎◌, inl, inr, ℕ, ◌+◌, ◌≤◌, ◌<◌, Bool, true, false, not, ◌&&◌, refl, sym, ap, ap₂, subst, ◌∙◌, rules, arith}
use Rattle.std.specs.Prelude.{◌↔◌, IsTrue, nat_le, nat_lt}
use Rattle.std.specs.Cmp.{IsEquivalence}
use Rattle.std.proofs.lemmas.Bool.{and_from, and_parts, leb-true, le-leb, ltb-true, lt-ltb, cases_lt, false≢true}
use Rattle.sm_base.specs.declared.names.Name.{Name}
use Rattle.vg_meta.specs.Tables.{name_eq}
use Rattle.vg_meta.proofs.NameLaws.{name_eq-true, name_eq-same}
use Rattle.sm_cache.specs.declared.keys.Spot.{Spot}
use Rattle.sm_cache.specs.contracts.keys.SpotEq.TheImpl.Laws.{laws-law}
use Rattle.sm_cache.specs.Kept.{is_among, same_spot, spot_of}

pub spot_same : (k l : Spot) → same_spot k l ≡ true → k ≡ l
unfolding same_spot
spot_same k l h = search rules

same_spot_laws : IsEquivalence same_spot
unfolding same_spot
same_spot_laws = laws-law

pub same_spot-refl : (k : Spot) → same_spot k k ≡ true
same_spot-refl k = same_spot_laws.refl k

-- ---- among so many sectors of a volume, from a place on

pub among_parts : (volume : Name) (at many : ℕ) (k : Spot) → is_among volume at many k ≡ true → (k.volume ≡ volume) × (at ≤ k.at) × (k.at < at + many)
among_parts volume at many k h =
    let whole = and_parts (name_eq k.volume volume) (nat_le at k.at && nat_lt k.at (at + many)) h in
    let places = and_parts (nat_le at k.at) (nat_lt k.at (at + many)) whole.1 in
    (name_eq-true k.volume volume whole.0, leb-true at k.at places.0, ltb-true k.at (at + many) places.1)

pub among_from : (volume : Name) (at many : ℕ) (k : Spot) → k.volume ≡ volume → at ≤ k.at → k.at < at + many → is_among volume at many k ≡ true
among_from volume at many k same from until =
    and_from (name_eq k.volume volume) (nat_le at k.at && nat_lt k.at (at + many)) (name_eq-same k.volume volume same)
    (and_from (nat_le at k.at) (nat_lt k.at (at + many)) (le-leb at k.at from) (lt-ltb k.at (at + many) until))

same_truth : (a b : Bool) → (a ≡ true → b ≡ true) → (b ≡ true → a ≡ true) → a ≡ b
same_truth true b f g = sym (f refl)
same_truth false true f g = g refl
same_truth false false f g = refl

-- an answer that is true exactly for the sectors among these
pub among_told : (volume : Name) (at many : ℕ) (k : Spot) (b : Bool) → IsTrue b ↔ ((k.volume ≡ volume) × (at ≤ k.at) × (k.at < at + many)) → is_among volume at many k ≡ b
among_told volume at many k true told = let p = told.0 refl in among_from volume at many k p.0 p.1 p.2
among_told volume at many k false told = same_truth (is_among volume at many k) false (λ h. absurd (false≢true (told.1 (among_parts volume at many k h)))) (λ h. absurd (false≢true h))

-- among one sector is this sector alone
pub among_one : (volume : Name) (at : ℕ) (k : Spot) → same_spot (spot_of volume at) k ≡ is_among volume at 1 k
among_one volume at k = same_truth (same_spot (spot_of volume at) k) (is_among volume at 1 k)
    (λ h. subst (λ (q : Spot). is_among volume at 1 q ≡ true) (spot_same (spot_of volume at) k h) (among_from volume at 1 (spot_of volume at) refl (omega arith) (omega arith)))
    (λ h.
    let parts = among_parts volume at 1 k h in
    let here : at ≡ k.at = omega (arith, parts.1, parts.2) in
    subst (λ (q : Spot). same_spot (spot_of volume at) q ≡ true) (ap₂ (λ n p. spot_of n p) (sym parts.0) here) (same_spot-refl (spot_of volume at)))

pub among_itself : (volume : Name) (at : ℕ) → is_among volume at 1 (spot_of volume at) ≡ true
among_itself volume at = among_from volume at 1 (spot_of volume at) refl (omega arith) (omega arith)

-- none is among none
pub among_none : (volume : Name) (at : ℕ) (k : Spot) → is_among volume at 0 k ≡ false
among_none volume at k = same_truth (is_among volume at 0 k) false
    (λ h. let parts = among_parts volume at 0 k h in absurd (omega (arith, parts.1, parts.2)))
    (λ h. absurd (false≢true h))

-- among one more: among the others, or this one
among_more : (volume : Name) (at many : ℕ) (k : Spot) → is_among volume at many k ≡ false → is_among volume at (many + 1) k ≡ is_among volume (at + many) 1 k
among_more volume at many k out = same_truth (is_among volume at (many + 1) k) (is_among volume (at + many) 1 k)
    (λ h. let parts = among_parts volume at (many + 1) k h in last parts.0 parts.1 parts.2 (cases_lt k.at (at + many)))
    (λ h.
    let parts = among_parts volume (at + many) 1 k h in
    among_from volume at (many + 1) k parts.0 (omega (arith, parts.1)) (omega (arith, parts.2)))
  where
    last : k.volume ≡ volume → at ≤ k.at → k.at < at + (many + 1) → (k.at < at + many) ⊎ (at + many ≤ k.at) → is_among volume (at + many) 1 k ≡ true
    last same from until (inl less) = absurd (false≢true (sym out ∙ among_from volume at many k same from less))
    last same from until (inr past) = among_from volume (at + many) 1 k same past (omega (arith, until))

-- so not among one more is neither
pub not_among_more : (volume : Name) (at many : ℕ) (k : Spot)
    → not (is_among volume at (many + 1) k) ≡ (not (is_among volume at many k) && not (is_among volume (at + many) 1 k))
not_among_more volume at many k = by (is_among volume at many k) refl
  where
    by : (b : Bool) → is_among volume at many k ≡ b → not (is_among volume at (many + 1) k) ≡ (not b && not (is_among volume (at + many) 1 k))
    by true h = let parts = among_parts volume at many k h in ap not (among_from volume at (many + 1) k parts.0 parts.1 (omega (arith, parts.2)))
    by false h = ap not (among_more volume at many k h)
