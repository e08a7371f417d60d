-- A map of counts (this project's own).
use Rattle.std.specs.Prelude.{ℕ, ◌<◌, List, All}
use Rattle.sm_base.specs.declared.names.Name.{Name}

-- each count that is kept is above 0
abbrev pub AreAbove : List (Name × ℕ) → Type 0
AreAbove counts = All (λ c. 0 < c.1) counts
