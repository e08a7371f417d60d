-- The places of a store beside one volume, over several calls.
use Rattle.std.proofs.Common.{subst₂}
use Rattle.sm_base.specs.declared.names.Name.{Name}
use Rattle.vg_meta.specs.Tables.{VolumeTable, rows, extents_of}
use Rattle.vg_volumes.specs.Sites.{Site}
use Rattle.vg_volumes.specs.Stored.{stored, SameBeside, Stays}
use Rattle.vg_volumes.specs.Volumes.{SameElsewhere}
use Rattle.vg_volumes.specs.declared.stores.Store.{Ghosts}
use Rattle.vg_volumes.proofs.VolumeLaws.{SameElsewhere-then}

module _ {S : Type 0} {g : Ghosts S} (n : Name) where
  pub beside_then : {a b c : S} → Stays g a b → SameBeside n (stored g a) (stored g b) → SameBeside n (stored g b) (stored g c) → SameBeside n (stored g a) (stored g c)
  beside_then {a} {b} {c} stays p q =
      SameElsewhere-then p (subst₂ (λ (x : Site) (y : VolumeTable). SameElsewhere x.geometry.extent (extents_of (rows y n)) (g.area b) (g.area c)) stays.site stays.table q)
