-- A disk that is made of what is put on it, sector by sector: what it holds, and how many extents that takes.
use Rattle.std.specs.Prelude.{◌≡◌, ℕ, ◌-◌, ◌==◌, ⊤, List, [], ◌∷◌, Option, None, Some, Result, Ok, Err, if◌then◌else◌}
use Rattle.std.specs.List.{filter_map}
use Rattle.sm_base.specs.declared.refusals.Refusal.{Refusal}
use Rattle.sm_base.specs.declared.refusals.Refusal.TheVariants as refusal
use Rattle.sm_disk.specs.Sectors.{zeros}
use Rattle.vhd_import.specs.declared.disks.PutFault.{PutFault}
use Rattle.vhd_import.specs.declared.disks.PutFault.TheVariants.{NoSpace}
use Rattle.vhd_import.specs.declared.faults.ImportFault.{ImportFault}
use Rattle.vhd_import.specs.declared.faults.ImportFault.TheVariants.{Long, Refused}
use Rattle.vhd_import.specs.Puts.{Put}
use Rattle.vhd_import.specs.Room.{Target, block_of, distinct_blocks, extents_for, lacks}

-- what a sector of the disk holds behind some puts, of which the newest comes first: the bytes of the newest one of this sector, else zeros
unfoldable pub filled : List Put → ℕ → List ℕ
filled [] s = zeros
filled (p ∷ puts) s = if p.sector == s then p.bytes else filled puts s

-- how many blocks of the repository have a slot behind some puts: those into which other bytes than zeros came
unfoldable pub slots_of : Target → List Put → ℕ
slots_of t puts = distinct_blocks t (filter_map (block_of t) puts)

-- an image without slots needs more extents than are free
unfoldable pub begin_lacks : Target → Option Refusal
begin_lacks t = lacks (extents_for t 0) t.free

-- A put behind others asks for more extents than are free: those by which the slot that it takes makes the image longer.
unfoldable pub put_lacks : Target → Put → List Put → Option Refusal
put_lacks t p puts =
    let old : ℕ = extents_for t (slots_of t puts) in
    lacks (extents_for t (slots_of t (p ∷ puts)) - old) (t.free - old)

-- a disk is refused extents exactly where they are wanting, but where another cause comes first
abbrev pub AnswersRoom : Option Refusal → Result ⊤ PutFault → Type 0
AnswersRoom lacking (Ok _) = lacking ≡ None
AnswersRoom lacking (Err (NoSpace need free)) = lacking ≡ Some (refusal.NoSpace need free)
AnswersRoom lacking (Err _) = ⊤

-- an import that puts something on a disk is refused extents exactly where they are wanting, and does not find the file too long
abbrev pub HasAnsweredRoom : Option Refusal → Result ⊤ ImportFault → Type 0
HasAnsweredRoom lacking (Ok _) = lacking ≡ None
HasAnsweredRoom lacking (Err (Refused r)) = lacking ≡ Some r
HasAnsweredRoom lacking (Err Long) = ⊥
HasAnsweredRoom lacking (Err _) = ⊤
