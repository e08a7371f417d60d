-- What a call leaves that makes all last before it writes one image (this project's format).
use Rattle.std.specs.Prelude.{◌≡◌, ◌⊎◌, ℕ, ◌<◌, List}
use Rattle.sm_base.specs.declared.names.Name.{Name}
use Rattle.sm_machine.specs.Operations.{Op}
use Rattle.sm_machine.specs.Operations as op
use Rattle.sm_disk.specs.Held.{reads}
use Rattle.vg_meta.specs.Tables.{extents_of, rows}
use Rattle.vg_volumes.specs.Sites.{area_size}
use Rattle.vg_volumes.specs.Stored.{Leaves, Stored, stored}
use Rattle.vg_volumes.specs.Volumes.{IsElsewhere}
use Rattle.vg_volumes.specs.declared.stores.Store.{Ghosts}

-- each place of the area that a volume has not holds what a read gave
abbrev pub IsReadBeside : Stored → Name → (ℕ → List ℕ) → Type 0
IsReadBeside x n image = (p : ℕ) → p < area_size x.site → IsElsewhere x.site.geometry.extent (extents_of (rows x.table n)) p → image p ≡ reads x.area p

-- whatever a stop leaves was left before, or holds beside one volume what a read gave: so nothing else was pending when that was written
abbrev pub LeavesSynced : {S : Type 0} → Ghosts S → Name → S → S → Type 0
LeavesSynced g n old new = Leaves g new (λ t image. g.leaves old t image ⊎ IsReadBeside (stored g old) n image)

-- where a copy runs, whatever a stop leaves was left before, or holds beside the copy's parent what a read gave: the parent alone is written
abbrev pub CopySynced : {S : Type 0} → Ghosts S → Op → S → S → Type 0
CopySynced g op.Idle old new = Unit {0}
CopySynced g (op.Copy child parent cursor) old new = LeavesSynced g parent old new
CopySynced g (op.Relink child parent) old new = Unit {0}
CopySynced g (op.Leaf leaf parent cursor) old new = LeavesSynced g parent old new
CopySynced g (op.Live leaf parent cursor dirty) old new = LeavesSynced g parent old new
