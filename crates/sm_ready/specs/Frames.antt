-- What a command leaves, whether or not what the store holds is as memory says: the images that stand, and the table's number.
use Rattle.std.specs.Prelude.{◌≡◌, ◌+◌, ◌≤◌, ℕ, length, min}
use Rattle.vg_meta.specs.Tables.{VolumeTable}
use Rattle.vg_volumes.specs.Stored.{stored}
use Rattle.vg_volumes.specs.declared.stores.Store.{Ghosts}
use Rattle.sm_machine.specs.Shapes.{last_sequence}
use Rattle.vhd_chain.specs.Reading.{AllAreTrue}
use Rattle.sm_ready.specs.declared.memory.Memory.{Memory}

-- each image in memory is true of what its volume holds, where that is told
abbrev pub HasTrueImages : {S : Type 0} → Ghosts S → S → Memory → Type 0
HasTrueImages g s m = g.told → ∥ AllAreTrue (stored g s) m.tree.rows ∥₁

-- the sequence number was raised at most by so many
abbrev pub HasCommits : ℕ → VolumeTable → VolumeTable → Type 0
HasCommits count old new = new.sequence ≤ old.sequence + count

-- the sequence number is no lower, where it was not above the last
abbrev pub IsNoLower : VolumeTable → VolumeTable → Type 0
IsNoLower old new = min old.sequence last_sequence ≤ new.sequence

-- the tree has as many images and as much room, and all but the tree is as it was
pub record IsBesideTree (old new : Memory) : Type 0 where
  pub images : length new.tree.rows ≡ length old.tree.rows
  pub spare : new.tree.spare ≡ old.tree.spare
  pub records : new.records ≡ old.records
  pub logs : new.logs ≡ old.logs
  pub attached : new.attached ≡ old.attached
  pub operation : new.operation ≡ old.operation
