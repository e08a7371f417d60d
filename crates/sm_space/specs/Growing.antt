-- What is planned of extents for a command that first gives a disk's image those that it lacks.
use Rattle.std.specs.Prelude.{◌≡◌, ℕ, ◌+◌, ◌-◌, ◌<◌, List, Option, None, Some}
use Rattle.sm_base.specs.declared.names.Name.TheVariants.{Vhd}
use Rattle.vg_meta.specs.Changes.{HasRoom}
use Rattle.vg_meta.specs.Roomy.{table_alone}
use Rattle.vg_meta.specs.declared.changes.Change.{Change}
use Rattle.vg_volumes.specs.declared.stores.Store.{Ghosts}
use Rattle.vhd_chain.specs.Trees.{tree_row}
use Rattle.sm_machine.specs.Refusals.{need}
use Rattle.sm_machine.specs.declared.commands.Command.{Command}
use Rattle.sm_space.specs.Inflating.{IsGrowth, extents_in}
use Rattle.sm_ready.specs.Does.{NeedsNone, store_shape}
use Rattle.sm_ready.specs.declared.memory.Memory.{Memory}

-- the extents that the command needs for the image of this disk are planned: the least that are free, and all memory was taken for
-- them
pub record IsPlanned {S : Type 0} (g : Ghosts S) (x : S) (m : Memory) (c : Command) (u : List ℕ) (to : ℕ) (growth : Change) : Type 0 where
  pub some : 0 < need (store_shape g x m) c
  pub extents : to ≡ extents_in (tree_row m.tree.rows (Vhd u)) + need (store_shape g x m) c
  pub grows : IsGrowth (g.site x).count (table_alone (g.table x)) (Vhd u) (to - extents_in (tree_row m.tree.rows (Vhd u))) growth
  pub row : 0 < (g.table x).spare
  pub places : HasRoom (g.table x) growth

-- the extents that the command needs for the image of this disk are planned, or it needs none
abbrev pub HasGrowth : {S : Type 0} → Ghosts S → S → Memory → Command → List ℕ → Option (ℕ × Change) → Type 0
HasGrowth g x m c u None = NeedsNone g c x m
HasGrowth g x m c u (Some p) = IsPlanned g x m c u p.0 p.1
