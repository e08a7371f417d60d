-- Entries that stand one behind the other.
use Rattle.std.specs.Prelude.{ℕ, ◌+◌, ◌&&◌, nat_le, Bool, true, List, [], ◌∷◌}
use Rattle.vhd_import.specs.declared.tables.Entry.{Entry}

-- the first entry stands at a sector or behind it, and each next one so many sectors behind the one before or more
unfoldable pub stand_apart : ℕ → ℕ → List Entry → Bool
stand_apart from long [] = true
stand_apart from long (e ∷ es) = nat_le from e.place && stand_apart (e.place + long) long es
