-- Fields that are written one behind the other.
use Rattle.std.proofs.Common.{◌≡◌, ℕ, List, [], ◌∷◌, ◌++◌, append_assoc}
use Rattle.std.specs.List.{concat}
use Rattle.std.proofs.lemmas.List.{append-nil}

-- twelve fields, as they are appended in turn
pub twelve : (a b c d e f g h i j k l : List ℕ) → ((((((((((([] ++ a) ++ b) ++ c) ++ d) ++ e) ++ f) ++ g) ++ h) ++ i) ++ j) ++ k) ++ l ≡ concat (a ∷ b ∷ c ∷ d ∷ e ∷ f ∷ g ∷ h ∷ i ∷ j ∷ k ∷ l ∷ [])
twelve a b c d e f g h i j k l = simp (append_assoc, append-nil)

-- six fields
pub six : (a b c d e f : List ℕ) → ((((([] ++ a) ++ b) ++ c) ++ d) ++ e) ++ f ≡ concat (a ∷ b ∷ c ∷ d ∷ e ∷ f ∷ [])
six a b c d e f = simp (append_assoc, append-nil)

-- five fields behind a front
pub five_behind : (front a b c d e : List ℕ) → ((((front ++ a) ++ b) ++ c) ++ d) ++ e ≡ front ++ concat (a ∷ b ∷ c ∷ d ∷ e ∷ [])
five_behind front a b c d e = simp (append_assoc, append-nil)
