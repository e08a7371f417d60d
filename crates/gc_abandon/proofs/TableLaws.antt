-- The table behind the folding of a leaf that is given up is that without its entry.
use Rattle.std.proofs.Common.{◌≡◌, Bool, true, false, List, ℕ, [], ◌∷◌, cond, refl, ap}
use Rattle.std.specs.Str.{bytes_eq}
use Rattle.sm_base.specs.declared.names.Name.{Name}
use Rattle.sm_base.specs.declared.names.Name.TheVariants.{Leaf}
use Rattle.sm_machine.specs.Operations.{Op}
use Rattle.sm_machine.specs.Operations as op
use Rattle.vg_meta.specs.Changes.{applied}
use Rattle.vg_meta.specs.declared.changes.Change.TheVariants.{Remove}
use Rattle.vg_volumes.specs.Stored.{Commits}
use Rattle.vg_volumes.specs.declared.stores.Store.{Ghosts}
use Rattle.sm_machine.specs.Commits.{folds}
use Rattle.sm_machine.specs.Shapes.{image_uuid}
use Rattle.sm_ready.specs.Known.{entry_of}
use Rattle.sm_ready.specs.declared.memory.Memory.{Memory}
use Rattle.sm_ready.proofs.ChainLaws.{tab}
use Rattle.gc_abandon.specs.Abandoning.{unfolded_table}

-- by the operation
table_by : {S : Type 0} (g : Ghosts S) (a b : S) (u : List ℕ) (o : Op) → (folds o u ≡ false → b ≡ a) → (folds o u ≡ true → (e : Name) → entry_of o ≡ e ∷ [] → Commits g (Remove e) a b)
    → tab g b ≡ unfolded_table o u (tab g a)
unfolding folds
table_by g a b u (op.Leaf l p cursor) none gone = by (bytes_eq (image_uuid l) u) none gone
  where
    by : (f : Bool) → (f ≡ false → b ≡ a) → (f ≡ true → (e : Name) → Leaf (image_uuid l) (image_uuid p) ∷ [] ≡ e ∷ [] → Commits g (Remove e) a b)
        → tab g b ≡ cond f (applied (tab g a) (Remove (Leaf (image_uuid l) (image_uuid p)))) (tab g a)
    by false none gone = ap (tab g) (none refl)
    by true none gone = (gone refl (Leaf (image_uuid l) (image_uuid p)) refl).table
table_by g a b u (op.Live l p cursor dirty) none gone = by (bytes_eq (image_uuid l) u) none gone
  where
    by : (f : Bool) → (f ≡ false → b ≡ a) → (f ≡ true → (e : Name) → Leaf (image_uuid l) (image_uuid p) ∷ [] ≡ e ∷ [] → Commits g (Remove e) a b)
        → tab g b ≡ cond f (applied (tab g a) (Remove (Leaf (image_uuid l) (image_uuid p)))) (tab g a)
    by false none gone = ap (tab g) (none refl)
    by true none gone = (gone refl (Leaf (image_uuid l) (image_uuid p)) refl).table
table_by g a b u op.Idle none gone = ap (tab g) (none refl)
table_by g a b u (op.Copy v p cursor) none gone = ap (tab g) (none refl)
table_by g a b u (op.Relink v p) none gone = ap (tab g) (none refl)

pub table_given : {S : Type 0} (g : Ghosts S) (a b : S) (m : Memory) (u : List ℕ) → (folds m.operation u ≡ false → b ≡ a)
    → (folds m.operation u ≡ true → (e : Name) → entry_of m.operation ≡ e ∷ [] → Commits g (Remove e) a b) → tab g b ≡ unfolded_table m.operation u (tab g a)
table_given g a b m u none gone = table_by g a b u m.operation none gone
