-- What stands behind a line's first word, if a space ends it (this project's format).
use Rattle.std.specs.Prelude.{ℕ, List, [], ◌∷◌, Option, Some, None}
use Rattle.sm_machine.specs.Lines.{words}

-- the bytes behind the first word: a space and the rest, or none
abbrev pub behind : Option (List ℕ) → List ℕ
behind None = []
behind (Some rest) = 32 ∷ rest

-- the words behind the first word
abbrev pub words_behind : Option (List ℕ) → List (List ℕ)
words_behind None = []
words_behind (Some rest) = words rest
