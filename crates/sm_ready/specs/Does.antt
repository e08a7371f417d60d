-- What a command that is not refused does, whether or not the machine's switch has it on.
use Rattle.std.specs.Prelude.{◌≡◌, false}
use Rattle.vg_meta.specs.Roomy.{table_alone}
use Rattle.vg_volumes.specs.declared.stores.Store.{Ghosts}
use Rattle.sm_machine.specs.declared.commands.Command.{Command}
use Rattle.sm_machine.specs.Commits.{is_given_up}
use Rattle.sm_machine.specs.Refusals.{need}
use Rattle.sm_machine.specs.Shapes.{Shape}
use Rattle.sm_machine.specs.Steps.{disks_next, shape_next}
use Rattle.sm_standing.specs.Standing.{disks}
use Rattle.sm_ready.specs.Done.{HasDone}
use Rattle.sm_ready.specs.Known.{known, shape_in}
use Rattle.sm_ready.specs.Stores.{StoreLeaves, store_content}
use Rattle.sm_ready.specs.declared.memory.Memory.{Memory}

-- the machine's shape of a store and of what is in memory beside it
abbrev pub store_shape : {S : Type 0} → Ghosts S → S → Memory → Shape
store_shape g s m = shape_in (g.site s) (table_alone (g.table s)) (known m)

-- it gives up no operation of the collector
abbrev pub IsKeptUp : {S : Type 0} → Ghosts S → Command → S → Memory → Type 0
IsKeptUp g c s m = is_given_up (store_shape g s m) c ≡ false

-- it takes no extents
abbrev pub NeedsNone : {S : Type 0} → Ghosts S → Command → S → Memory → Type 0
NeedsNone g c s m = need (store_shape g s m) c ≡ 0

-- the shape in memory is the machine's after the command
abbrev pub ShapesAs : {S : Type 0} → Ghosts S → Command → S → Memory → S → Memory → Type 0
ShapesAs g c old m new n = store_shape g new n ≡ shape_next (store_shape g old m) c

-- The command was done, where ok holds: the store is ready, all lasts, and the disks are the machine's after it. Whatever a stop
-- leaves is kept, and shows disks between those from before and those from after.
abbrev pub StoreDoes : {S : Type 0} → Ghosts S → Command → S → Memory → S → Memory → Type 0 → Type 0
StoreDoes g c old m new n ok = HasDone (g.site old) (table_alone (g.table old)) (table_alone (g.table new)) (g.area old) (g.area new) (known n) (StoreLeaves g old) (StoreLeaves g new) ok
    (disks_next (disks (store_content g old)) (store_shape g old m) c)
