-- The rows in memory once the folding of a leaf is ended, by the entry that is found.
use Rattle.std.proofs.Common.{◌≡◌, ◌≢◌, ℕ, List, Some, None, refl, ap}
use Rattle.sm_base.specs.declared.names.Name.{Name}
use Rattle.sm_base.specs.declared.names.Name.TheVariants.{Mgt, Vhd, Raw, Old, Cbt, Clone, Inflate, Coalesce, Relink, Leaf}
use Rattle.vg_meta.specs.Tables.{VolumeTable}
use Rattle.sm_standing.specs.Entries.{folding, head}
use Rattle.vhd_chain.specs.declared.rows.TreeRow.{TreeRow}
use Rattle.sm_recover.specs.Ending.{leaf_back, rows_ended}

pub ended_none : (t : VolumeTable) (xs : List TreeRow) → head (folding t) ≡ None → rows_ended t xs ≡ xs
unfolding rows_ended
ended_none t xs none = ap (λ o. leaf_back t o xs) none

pub ended_some : (t : VolumeTable) (xs : List TreeRow) (e : Name) → head (folding t) ≡ Some e → rows_ended t xs ≡ leaf_back t (Some e) xs
unfolding rows_ended
ended_some t xs e found = ap (λ o. leaf_back t o xs) found

-- no other entry changes memory
pub other_ended : (t : VolumeTable) (e : Name) (xs : List TreeRow) → ((leaf parent : List ℕ) → e ≢ Leaf leaf parent) → leaf_back t (Some e) xs ≡ xs
other_ended t (Leaf l p) xs other = absurd (other l p refl)
other_ended t Mgt xs other = refl
other_ended t (Vhd u) xs other = refl
other_ended t (Raw u) xs other = refl
other_ended t (Old u) xs other = refl
other_ended t (Cbt u) xs other = refl
other_ended t (Clone d b w) xs other = refl
other_ended t (Inflate u e) xs other = refl
other_ended t (Coalesce v p) xs other = refl
other_ended t (Relink v p) xs other = refl
