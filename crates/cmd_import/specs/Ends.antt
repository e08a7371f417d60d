-- The end of an import: the record of its disk, and what the end did since the begin (this project's own).
use Rattle.std.specs.Prelude.{◌≡◌, ◌⊎◌, ◌≤◌, Bool, true, false, List, ℕ, codes, Option, None, Result}
use Rattle.sm_disk.specs.Held.{Rose}
use Rattle.sm_record.specs.declared.records.Record.{Record}
use Rattle.sm_ready.specs.Sessions.{IsReadyStore}
use Rattle.sm_ready.specs.declared.memory.Memory.{Memory}
use Rattle.vg_volumes.specs.declared.stores.Store.{Ghosts}
use Rattle.vhd_import.specs.Progress.{HasMade}
use Rattle.vhd_import.specs.Room.{Target}
use Rattle.vhd_import.specs.declared.faults.ImportFault.{ImportFault}
use Rattle.vhd_import.specs.declared.faults.ImportFault.TheVariants.{Device}
use Rattle.vhd_filling.specs.declared.fillings.Filling.{Filling}
use Rattle.sm_importing.specs.Disks.{Begin, HoldsPuts}
use Rattle.cmd_import.specs.Importing.{HasImported, shape_of, target_in}

-- the record of a disk that is imported: it is no snapshot, and of no other disk
abbrev pub import_record : List ℕ → Record
import_record uuid = record { uuid = uuid; label = codes "import"; origin = None; read_only = false }

-- the repository that the store is, as it was at the begin
abbrev pub target_from : {S : Type 0} → Ghosts S → S → Memory → Target
target_from g a m = target_in (shape_of g a m)

-- the image holds what was read of the bytes, in the repository of the begin: a disk of so many sectors
abbrev pub HasMadeIn : {S : Type 0} → Ghosts S → Filling → S → Option (List ℕ) → ℕ → S → Memory → Type 0
HasMadeIn g f s bytes sectors a m = HasMade (target_from g a m) bytes (HoldsPuts g f s (target_from g a m)) sectors

-- what was done since the begin, where the store is told and was ready
abbrev pub EndsFrom : {S : Type 0} → Ghosts S → Option (List ℕ) → Memory → Begin S → S → Result ℕ ImportFault → Type 0
EndsFrom g bytes m o new result = g.told → IsReadyStore g o.store o.memory → HasImported g o.disk bytes o.memory m o.store new result

-- behind a fault: it is the answer, and no call of the device failed since; or one did, or the import was cut by one before, and Device is
-- the answer
abbrev pub UndoCounts : {S : Type 0} → Ghosts S → Type 0 → ImportFault → S → S → ImportFault → Type 0
UndoCounts g cut fault old new answer =
    ((answer ≡ fault) × (g.faults new ≡ g.faults old)) ⊎ ((answer ≡ Device) × (g.faults old ≤ g.faults new) × (Rose (g.faults old) (g.faults new) ⊎ cut))

-- an import is cut: it is over though its volume may be there, since a call of the store failed
abbrev pub IsCut : Bool → Bool → Type 0
IsCut begun over = (over ≡ true) × (begun ≡ true)
