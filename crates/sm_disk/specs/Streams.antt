-- What the calls of a source and of a sink do with their content, where it is told (this project's model of a
-- stream). None is an object that tells no content, and it stays one.
use Rattle.std.specs.Prelude.{◌≡◌, ℕ, ◌≤◌, List, ◌++◌, length, take, Option, Some, None}

-- these bytes came from the front of what was left
abbrev pub Takes : Option (List ℕ) → List ℕ → Option (List ℕ) → Type 0
Takes None bytes new = new ≡ None
Takes (Some left) bytes new = (rest : List ℕ) × (new ≡ Some rest) × (left ≡ bytes ++ rest)

-- these bytes went to the end of what there was
abbrev pub Adds : Option (List ℕ) → List ℕ → Option (List ℕ) → Type 0
Adds None bytes new = new ≡ None
Adds (Some had) bytes new = new ≡ Some (had ++ bytes)

-- the first so many of these bytes went to the end, at most all
abbrev pub AddsFront : Option (List ℕ) → List ℕ → Option (List ℕ) → Type 0
AddsFront old bytes new = (n : ℕ) × (n ≤ length bytes) × Adds old (take n bytes) new
