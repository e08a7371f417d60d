-- Laws of bytes: when two texts are the same, and how large a byte is.
use Rattle.std.proofs.Common.{◌≡◌, ◌≢◌, ℕ, ◌<◌, ◌⊎◌, inl, inr, Bool, true, false, List, All, get_or, length, ⊎_elim, refl, arith}
use Rattle.std.specs.Prelude.{bytes_eq}
use Rattle.std.proofs.lemmas.Bool.{cases_lt, false_from_ne_true}
use Rattle.std.proofs.lemmas.List.{get_or_past}
use Rattle.std.proofs.lemmas.List.Elements.{All-get_or}
use Rattle.std.proofs.lemmas.Slice.Eq.{bytes_eq-Decides}

pub bytes_eq-same : (u v : List ℕ) → bytes_eq u v ≡ true → u ≡ v
bytes_eq-same u v h = (bytes_eq-Decides u v).0 h

pub bytes_eq-refl : (u : List ℕ) → bytes_eq u u ≡ true
bytes_eq-refl u = (bytes_eq-Decides u u).1 refl

pub bytes_eq-apart : (u v : List ℕ) → u ≢ v → bytes_eq u v ≡ false
bytes_eq-apart u v h = false_from_ne_true (bytes_eq u v) (λ e. h (bytes_eq-same u v e))

decided : (u v : List ℕ) (b : Bool) → bytes_eq u v ≡ b → (u ≡ v) ⊎ (u ≢ v)
decided u v true is = inl (bytes_eq-same u v is)
decided u v false is = inr (λ e. absurd (let same = (bytes_eq-Decides u v).1 e in cc))

pub same_or_not : (u v : List ℕ) → (u ≡ v) ⊎ (u ≢ v)
same_or_not u v = decided u v (bytes_eq u v) refl

pub byte_below : (bytes : List ℕ) → All (λ b. b < 256) bytes → (i : ℕ) → get_or bytes i 0 < 256
byte_below bytes h i =
    elim (cases_lt i (length bytes)) [
      | inl lt ↦ All-get_or (λ b. b < 256) bytes i 0 lt h
      | inr le ↦ rw (get_or_past bytes i 0 le) (omega arith)
    ]
