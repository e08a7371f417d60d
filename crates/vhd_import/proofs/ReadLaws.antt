-- Reading a sector in pieces.
use Rattle.std.proofs.Common.{◌≡◌, ℕ, ◌+◌, ◌≤◌, arith, List, [], ◌∷◌, ◌++◌, suc, length, take, Option, refl, sym, ap, ◌∙◌, subst}
use Rattle.std.proofs.lemmas.List.{length-take}
use Rattle.sm_disk.specs.Streams.{Takes}
use Rattle.sm_disk.proofs.StreamLaws.{Takes-none, Takes-then}

-- so many bytes of a buffer were read, and no call has failed
pub record HasTaken (had left : Option (List ℕ)) (to : List ℕ) (done before now : ℕ) : Type 0 where
  pub within : done ≤ 512
  pub long : length to ≡ 512
  pub takes : Takes had (take done to) left
  pub calm : now ≡ before

take-over : (front piece : List ℕ) (n : ℕ) → take (length front + n) (front ++ piece) ≡ front ++ take n piece
take-over [] piece n = let e : length (let xs : List ℕ = [] in xs) + n ≡ n = omega arith in ap (λ k. take k piece) e
take-over (x ∷ front) piece n = let e : length (x ∷ front) + n ≡ suc (length front + n) = omega arith in rw e (ap (λ (l : List ℕ). x ∷ l) (take-over front piece n))

-- a piece was read behind the bytes that were there
pub taken-more : (had mid left : Option (List ℕ)) (to front piece : List ℕ) (done n : ℕ) → front ≡ take done to → done ≤ length to → Takes had (take done to) mid → Takes mid (take n piece) left
    → Takes had (take (done + n) (front ++ piece)) left
taken-more had mid left to front piece done n is low begun more =
    let long : length front ≡ done = ap (λ (l : List ℕ). length l) is ∙ omega (arith, length-take done to, low) in
    let both : take (done + n) (front ++ piece) ≡ take done to ++ take n piece = ap (λ k. take (k + n) (front ++ piece)) (sym long) ∙ take-over front piece n ∙ ap (λ (l : List ℕ). l ++ take n piece) is in
    subst (λ bytes. Takes had bytes left) (sym both) (Takes-then had mid left (take done to) (take n piece) begun more)

pub begun : (content : Option (List ℕ)) (to : List ℕ) (faults : ℕ) → length to ≡ 512 → HasTaken content content to 0 faults faults
begun content to faults long = record { within = omega arith; long = long; takes = Takes-none content; calm = refl }
