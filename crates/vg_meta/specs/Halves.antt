-- What stands in order of name, and how many of it are not behind a name: so a search by halving finds it.
use Rattle.std.specs.Prelude.{◌≡◌, ℕ, Bool, true, false, not, List, map}
use Rattle.std.specs.List.Sorted.{IsStrictlySortedBy, IsPartitionPoint}
use Rattle.std.specs.Ordering.{is_lt}
use Rattle.sm_base.specs.declared.names.Name.{Name}
use Rattle.sm_base.specs.Names.{name_cmp}

-- whether a name is not behind this one
abbrev pub is_up_to : Name → Name → Bool
is_up_to n m = not (is_lt (name_cmp n m))

-- the names are in strictly rising order
abbrev pub IsInOrder : {X : Type 0} → (X → Name) → List X → Type 0
IsInOrder name xs = IsStrictlySortedBy name_cmp (map name xs)

-- so many, the first ones, have names that are not behind this one, and all others have names behind it
abbrev pub AreUpTo : {X : Type 0} → (X → Name) → Name → List X → ℕ → Type 0
AreUpTo name n xs i = IsPartitionPoint (λ x. is_up_to n (name x) ≡ true) (λ x. is_up_to n (name x) ≡ false) xs i
