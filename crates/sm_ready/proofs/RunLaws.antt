-- Changes made one after the other, in two parts.
use Rattle.std.proofs.Common.{◌≡◌, ℕ, List, [], ◌∷◌, ◌++◌, refl}
use Rattle.vg_meta.specs.Changes.{applied}
use Rattle.vg_meta.specs.Tables.{VolumeTable}
use Rattle.vg_meta.specs.declared.changes.Change.{Change}
use Rattle.sm_standing.specs.Opened.{applied_all}
use Rattle.sm_ready.specs.Runs.{AllMay}

pub applied_append : (t : VolumeTable) (xs ys : List Change) → applied_all t (xs ++ ys) ≡ applied_all (applied_all t xs) ys
applied_append t [] ys = refl
applied_append t (c ∷ xs) ys = applied_append (applied t c) xs ys

pub may_front : (count : ℕ) (t : VolumeTable) (xs ys : List Change) → AllMay count t (xs ++ ys) → AllMay count t xs
may_front count t [] ys may = tt
may_front count t (c ∷ xs) ys may = (may.0, may.1, may_front count (applied t c) xs ys may.2)

pub may_back : (count : ℕ) (t : VolumeTable) (xs ys : List Change) → AllMay count t (xs ++ ys) → AllMay count (applied_all t xs) ys
may_back count t [] ys may = may
may_back count t (c ∷ xs) ys may = may_back count (applied t c) xs ys may.2
