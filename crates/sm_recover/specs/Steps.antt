-- Changes of a table, made one after the other by a commit each: what all of them make, and what stands while they are made.
use Rattle.std.specs.Prelude.{◌≡◌, ℕ, ◌≤◌, Bool, true, false, List, [], ◌∷◌, ◌++◌, take, Option, None, Some}
use Rattle.sm_base.specs.declared.names.Name.{Name}
use Rattle.sm_base.specs.declared.names.Name.TheVariants.{Mgt, Vhd, Raw, Old, Cbt, Clone, Inflate, Coalesce, Relink, Leaf}
use Rattle.sm_disk.specs.Held.{Keeps, IsSettled}
use Rattle.vg_meta.specs.Roomy.{table_alone}
use Rattle.vg_meta.specs.Tables.{VolumeTable, rows}
use Rattle.vg_meta.specs.declared.changes.Change.{Change}
use Rattle.vg_meta.specs.declared.changes.Change.TheVariants.{Mark, Remove, Rename}
use Rattle.vg_meta.specs.declared.changes.Tag.TheVariants.{Hidden}
use Rattle.vg_volumes.specs.Stored.{Leaves, stored}
use Rattle.vg_volumes.specs.declared.stores.Store.{Ghosts}
use Rattle.sm_standing.specs.Entries.{folding, head, of_row}
use Rattle.sm_standing.specs.Opened.{applied_all, under_name, undo_changes, wanted}
use Rattle.sm_ready.specs.Sessions.{HasRows}
use Rattle.sm_recover.specs.Repairs.{IsLeftOf}

-- the table behind the first so many of them
abbrev pub IsPartOf : VolumeTable → List Change → VolumeTable → Type 0
IsPartOf t cs v = (k : ℕ) × (v ≡ applied_all t (take k cs))

-- some of them were made, in their order, and a stop leaves the table behind some, with what a read gave where nothing was pending
pub record MakesPart {S : Type 0} (g : Ghosts S) (cs : List Change) (old new : S) : Type 0 where
  pub site : g.site new ≡ g.site old
  pub counts : g.faults old ≤ g.faults new
  pub beside : g.told → Keeps (g.beside old) (g.beside new)
  pub keeps : g.told → Keeps (g.area old) (g.area new)
  pub part : IsPartOf (table_alone (g.table old)) cs (table_alone (g.table new))
  pub left : Leaves g new (IsLeftOf (stored g old) (IsPartOf (table_alone (g.table old)) cs))

-- all of these changes were made
pub record MakesAll {S : Type 0} (g : Ghosts S) (cs : List Change) (old new : S) : Type 0 where
  pub usable : g.failed new ≡ false
  pub table : table_alone (g.table new) ≡ applied_all (table_alone (g.table old)) cs
  pub room : HasRows (g.table old) → HasRows (g.table new)
  pub settled : g.told → IsSettled (g.area old) → IsSettled (g.area new)

-- the changes that give a disk its base as image again, where the base is there: by whether the new image is there, and whether
-- the base is hidden
abbrev pub changes_of_base : List ℕ → Option Name → Bool → Bool → List Change
changes_of_base disk None has_own hidden = []
changes_of_base disk (Some base) has_own hidden = wanted has_own (Remove (Vhd disk)) ++ (wanted hidden (Mark base Hidden false) ++ Rename base (under_name base disk) ∷ [])

-- whether the volume of a name, where there is one, is there and hidden
abbrev pub is_marked : VolumeTable → Option Name → Bool
is_marked t None = false
is_marked t (Some n) = of_row (λ r. r.hidden) (rows t n)

-- the change that takes away the entry of a copy, where it is one
abbrev pub is_copy : Name → Bool
is_copy (Coalesce child parent) = true
is_copy Mgt = false
is_copy (Vhd u) = false
is_copy (Raw u) = false
is_copy (Old u) = false
is_copy (Cbt u) = false
is_copy (Clone disk base twin) = false
is_copy (Inflate image extents) = false
is_copy (Relink child parent) = false
is_copy (Leaf leaf parent) = false

abbrev pub ends_copy : Option Name → List Change
ends_copy None = []
ends_copy (Some n) = wanted (is_copy n) (Remove n)

-- the table without the entry of a copy
abbrev pub uncopied : VolumeTable → VolumeTable
uncopied t = applied_all t (ends_copy (head (folding t)))

-- the changes in front of the linking of children: the entry of a copy goes, and a fork or an enlargement is undone
abbrev pub first_changes : VolumeTable → List Change
first_changes t = ends_copy (head (folding t)) ++ undo_changes (uncopied t)
