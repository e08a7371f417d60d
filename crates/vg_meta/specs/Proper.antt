-- That a name is proper has one proof at most, so a type can carry that a table is one.
use Rattle.std.specs.Prelude.{ℕ, List}
use Rattle.std.proofs.Props.{props}
use Rattle.sm_base.specs.declared.names.Name.{Name}
use Rattle.sm_base.specs.declared.names.Name.TheVariants.{Mgt, Vhd, Raw, Old, Cbt, Clone, Inflate, Coalesce, Relink, Leaf}
use Rattle.sm_base.specs.Names.{IsUuid, IsName}

IsUuid-prop : (u : List ℕ) → IsProp (IsUuid u)
IsUuid-prop u = hlevel props

pub IsName-prop : (n : Name) → IsProp (IsName n)
unfolding IsName
IsName-prop Mgt = hlevel props
IsName-prop (Vhd u) = IsUuid-prop u
IsName-prop (Raw u) = IsUuid-prop u
IsName-prop (Old u) = IsUuid-prop u
IsName-prop (Cbt u) = IsUuid-prop u
IsName-prop (Clone disk base twin) = hlevel (props, IsUuid-prop)
IsName-prop (Inflate image extents) = hlevel (props, IsUuid-prop)
IsName-prop (Coalesce child parent) = hlevel (props, IsUuid-prop)
IsName-prop (Relink child parent) = hlevel (props, IsUuid-prop)
IsName-prop (Leaf leaf parent) = hlevel (props, IsUuid-prop)
