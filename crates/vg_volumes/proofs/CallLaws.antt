-- What one call of a store did to a volume, from the clauses of the trait, which tell it in the site and the table before.
use Rattle.std.proofs.Common.{List, ℕ, sym, subst}
use Rattle.sm_base.specs.declared.names.Name.{Name}
use Rattle.sm_disk.specs.Held.{Held, Keeps, SameHeld}
use Rattle.vg_meta.specs.Roomy.{table_alone}
use Rattle.vg_meta.specs.Tables.{VolumeTable, rows, extents_of}
use Rattle.vg_volumes.specs.Sites.{volume_of}
use Rattle.vg_volumes.specs.Volumes.{SameElsewhere}
use Rattle.vg_volumes.specs.Stored.{stored, held_in, Stays, OnlyReads, WorksOn}
use Rattle.vg_volumes.specs.declared.stores.Store.{Ghosts}
use Rattle.vg_volumes.proofs.StoredLaws.{held_stays}
use Rattle.vg_volumes.proofs.VolumeLaws.{Keeps-volume, SameHeld-volume, KeepsElsewhere-same}

module _ {S : Type 0} {g : Ghosts S} where
  -- a read
  pub reads_from : {a b : S} → Stays g a b → (g.told → Keeps (g.device a) (g.device b)) → (g.told → SameHeld (g.area a) (g.area b))
      → (g.told → (t : VolumeTable) (image : ℕ → List ℕ) → g.leaves b t image → g.leaves a t image) → OnlyReads g a b
  reads_from stays device held leaves = record { stays = stays; device = device; held = held; leaves = leaves }

  -- a write
  pub works_from : (name : Name) {a b : S} → Stays g a b → (g.told → SameElsewhere (g.site a).geometry.extent (extents_of (rows (table_alone (g.table a)) name)) (g.area a) (g.area b)) → WorksOn g name a b
  works_from name stays beside = record { stays = stays; elsewhere = λ told. KeepsElsewhere-same (beside told) }

  -- what the volume holds by the store's own site and table
  pub held_from : (name : Name) {a b : S} (P : Held → Type 0) → Stays g a b → P (volume_of (g.site a) (table_alone (g.table a)) (g.area b) name) → P (held_in (stored g b) name)
  held_from name P stays is = subst P (sym (held_stays name stays)) is

  -- a sync, and a read
  pub keeps_in : (name : Name) {a b : S} → Stays g a b → Keeps (g.area a) (g.area b) → Keeps (held_in (stored g a) name) (held_in (stored g b) name)
  keeps_in name {a} {b} stays k = held_from name (λ (h : Held). Keeps (held_in (stored g a) name) h) stays (Keeps-volume _ _ k)

  pub same_in : (name : Name) {a b : S} → OnlyReads g a b → g.told → SameHeld (held_in (stored g a) name) (held_in (stored g b) name)
  same_in name {a} {b} r told = held_from name (λ (h : Held). SameHeld (held_in (stored g a) name) h) r.stays (SameHeld-volume _ _ (r.held told))
