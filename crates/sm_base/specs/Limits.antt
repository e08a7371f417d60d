-- The limits of a repository (this project's format).
use Rattle.std.specs.Prelude.{ℕ}

-- the most extents of a volume group
abbrev pub extent_limit : ℕ
extent_limit = 1048576
