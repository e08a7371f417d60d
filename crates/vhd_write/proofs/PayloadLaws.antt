-- A write of bytes that go run by run.
use Rattle.std.proofs.Common.{◌≡◌, ℕ, ◌+◌, ◌-◌, ◌*◌, ◌<◌, ◌≤◌, ◌⊎◌, inl, inr, List, [], ◌∷◌, ◌++◌, length, drop, ap, ◌∙◌, sym, arith}
use Rattle.std.proofs.lemmas.Bool.{cases_lt}
use Rattle.std.proofs.lemmas.List.{length-take, length-drop}
use Rattle.sm_disk.specs.Held.{Held, IsIn, Torn, Wrote}
use Rattle.sm_disk.specs.Sectors.{sector}
use Rattle.sm_disk.proofs.FrontLaws.{WroteFront}
use Rattle.sm_disk.proofs.SectorLaws.{sector-part}
use Rattle.vhd_write.specs.Payloads.{IsRun, piece_of}

pub length-piece : (skip count : ℕ) (bytes : List ℕ) → 512 * (skip + count) ≤ length bytes → length (piece_of skip count bytes) ≡ 512 * count
length-piece skip count bytes inside = omega (arith, length-take (512 * count) (drop (512 * skip) bytes), length-drop (512 * skip) bytes)

-- A run behind n sectors of a piece, that is written behind the sectors in front of it.
module _ (at skip count n place : ℕ) (from run : List ℕ) (inside : 512 * (skip + count) ≤ length from) (r : IsRun (skip + n) (count - n) from run) (here : place ≡ at + n) where
  abbrev all : List ℕ
  all = piece_of skip count from

  sector_is : (p : ℕ) → IsIn place (length run) p → sector run (p - place) ≡ sector all (p - at)
  sector_is p i =
      let near : p - place < r.count = omega (arith, i.0, i.1, r.long) in
      let nth : (skip + n) + (p - place) ≡ skip + (p - at) = omega (arith, i.0, here) in
      ap (λ x. sector x (p - place)) r.is
      ∙ sector-part from (skip + n) (512 * r.count) (p - place) (omega (arith, near))
      ∙ ap (sector from) nth
      ∙ sym (sector-part from skip (512 * count) (p - at) (omega (arith, near, r.within, i.0, here)))

  more : (old mid new : Held) → WroteFront at all n old mid → (p : ℕ) → IsIn place (length run) p → new.pending p ≡ mid.pending p ++ sector run (p - place) ∷ [] → new.pending p ≡ old.pending p ++ sector all (p - at) ∷ []
  more old mid new front p i is = is ∙ ap (λ v. mid.pending p ++ v ∷ []) (sector_is p i) ∙ ap (λ l. l ++ sector all (p - at) ∷ []) (front.above p (omega (arith, i.0, here)))

  pub wrote_more : {old mid new : Held} (k : ℕ) → k ≡ r.count → WroteFront at all n old mid → Wrote place run mid new → WroteFront at all (n + k) old new
  wrote_more {old} {mid} {new} k same front w = record {
    floor = λ p. w.floor p ∙ front.floor p;
    inside = λ p low high. by p low high (cases_lt p (at + n));
    below = λ p before. w.outside p (λ i. omega (arith, i.0, here)) ∙ front.below p before;
    above = λ p past. w.outside p (λ i. omega (arith, i.1, here, r.long, same)) ∙ front.above p (omega arith);
  }
    where
      by : (p : ℕ) → at ≤ p → p < at + (n + k) → (p < at + n) ⊎ (at + n ≤ p) → new.pending p ≡ old.pending p ++ sector all (p - at) ∷ []
      by p low high (inl before) = w.outside p (λ i. omega (arith, i.0, here)) ∙ front.inside p low before
      by p low high (inr from) = let i : IsIn place (length run) p = (omega (arith, here), omega (arith, here, r.long, same)) in more old mid new front p i (w.inside p i)

  pub torn_more : {old mid new : Held} → n ≤ count → WroteFront at all n old mid → Torn place run mid new → Torn at all old new
  torn_more {old} {mid} {new} most front t = record { floor = λ p. t.floor p ∙ front.floor p; pending = λ p. by p (t.pending p) (cases_lt p at) (cases_lt p (at + n)) }
    where
      long : length all ≡ 512 * count
      long = length-piece skip count from inside

      by : (p : ℕ) → (new.pending p ≡ mid.pending p) ⊎ (IsIn place (length run) p × (new.pending p ≡ mid.pending p ++ sector run (p - place) ∷ [])) → (p < at) ⊎ (at ≤ p) → (p < at + n) ⊎ (at + n ≤ p)
          → (new.pending p ≡ old.pending p) ⊎ (IsIn at (length all) p × (new.pending p ≡ old.pending p ++ sector all (p - at) ∷ []))
      by p (inr (i, is)) _ _ = inr ((omega (arith, i.0, here), omega (arith, i.1, here, r.long, r.within, long)), more old mid new front p i is)
      by p (inl same) (inl before) _ = inl (same ∙ front.below p before)
      by p (inl same) (inr low) (inl high) = inr ((low, omega (arith, long)), same ∙ front.inside p low high)
      by p (inl same) (inr low) (inr past) = inl (same ∙ front.above p past)

-- all of it is written
pub wrote_all : {at n : ℕ} {bytes : List ℕ} {old new : Held} → length bytes ≡ 512 * n → WroteFront at bytes n old new → Wrote at bytes old new
wrote_all {at} {n} {bytes} {old} {new} long front = record {
  floor = front.floor;
  inside = λ p i. front.inside p i.0 (omega (arith, i.1, long));
  outside = λ p away. by p away (cases_lt p at) (cases_lt p (at + n));
}
  where
    by : (p : ℕ) → (IsIn at (length bytes) p → ⊥) → (p < at) ⊎ (at ≤ p) → (p < at + n) ⊎ (at + n ≤ p) → new.pending p ≡ old.pending p
    by p away (inl before) _ = front.below p before
    by p away (inr low) (inl high) = absurd (away (low, omega (arith, long)))
    by p away (inr low) (inr past) = front.above p past
