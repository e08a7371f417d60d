-- Lists in strictly rising order, and the order of disks: that of their UUIDs, by their bytes.
use Rattle.std.specs.Prelude.{◌≡◌, ℕ, List, [], ◌∷◌}
use Rattle.std.specs.declared.cmp.Ordering.{Ordering}
use Rattle.std.specs.declared.cmp.Ordering.TheVariants.{Less}
use Rattle.std.specs.Cmp.Lexicographic.{slice_cmp}
use Rattle.std.specs.Ordering.{nat_cmp}
use Rattle.sm_machine.specs.Disks.{Disk}
use Rattle.common_laws.specs.Lists.{In}

-- each element stands before each later one
abbrev pub Rising : {K : Type 0} → (K → K → Ordering) → List K → Type 0
Rising {K} R [] = Unit {0}
Rising {K} R (x ∷ xs) = ((y : K) → In y xs → R x y ≡ Less) × Rising R xs

-- UUIDs are ordered by their bytes
abbrev pub uuid_cmp : List ℕ → List ℕ → Ordering
uuid_cmp = slice_cmp nat_cmp

-- disks are ordered by their UUID
abbrev pub disk_cmp : Disk → Disk → Ordering
disk_cmp d e = uuid_cmp d.uuid e.uuid
