-- How far an import has come: the sectors of a file that were read, what was put on the disk, and what its faults say of the file.
use Rattle.std.specs.Prelude.{◌≡◌, ℕ, zero, suc, ◌<◌, ◌≤◌, Bool, List, [], ◌++◌, length, take, All, IfErr, IfOk, IfSome, OnOk, Option, None, Some, Result, ⊤, slice_index_or}
use Rattle.std.specs.List.{concat, cons_option}
use Rattle.sm_base.specs.declared.refusals.Refusal.TheVariants.{Cut}
use Rattle.sm_disk.specs.Held.{Rose}
use Rattle.sm_disk.specs.Sectors.{zeros}
use Rattle.sm_disk.specs.Streams.{Takes}
use Rattle.sm_run.specs.Runs.{IsSpent}
use Rattle.vhd_stream.specs.Files.{File}
use Rattle.vhd_import.specs.declared.faults.ImportFault.{ImportFault}
use Rattle.vhd_import.specs.declared.faults.ImportFault.TheVariants as fault
use Rattle.vhd_import.specs.declared.reading.Part.{Part}
use Rattle.vhd_import.specs.declared.reading.Part.TheVariants.{End, Whole}
use Rattle.vhd_import.specs.Making.{filled}
use Rattle.vhd_import.specs.Puts.{Put, put_at}
use Rattle.vhd_import.specs.Room.{Target}
use Rattle.vhd_import.specs.Verdicts.{Denied, Long, Made, denial_at, denial_at_end, file_of, sector_limit, verdict_of}

-- what the first so many sectors of a file put on the disk, the newest first
unfoldable pub puts_of : File → ℕ → List Put
puts_of file zero = []
puts_of file (suc k) = cons_option (put_at file k) (puts_of file k)

-- These whole sectors were read, from the begin of the file. None of them decides a denial, and what they put is on the disk.
pub record HasRead (t : Target) (had left : Option (List ℕ)) (front : File) (puts : List Put) : Type 0 where
  pub whole : All (λ s. length s ≡ 512) front
  pub few : length front ≤ sector_limit
  pub takes : Takes had (concat front) left
  pub undenied : (k : ℕ) → k < length front → denial_at t front k ≡ None
  pub puts_are : puts ≡ puts_of front (length front)

-- behind so many sectors one more came, or some bytes and then the end
abbrev pub HasNext : ℕ → Part → Option (List ℕ) → List ℕ → Option (List ℕ) → Type 0
HasNext count Whole had to left = (count < sector_limit) × Takes had to left
HasNext count (End n) had to left = (n < 512) × (0 < n → count < sector_limit) × Takes had (take n to) left × IsSpent left

-- a fault says what is answered to the file, where that is told: a refusal is its denial, and Long says that it is longer than is read
abbrev pub FaultSays : Target → Option (List ℕ) → ImportFault → Type 0
FaultSays t had (fault.Refused r) = IfSome had (λ bytes. verdict_of t bytes ≡ Denied r)
FaultSays t had fault.Long = IfSome had (λ bytes. verdict_of t bytes ≡ Long)
FaultSays t had _ = ⊤

-- the count of the faults of the source or of the disk rose, where the fault is one of these, and no other
abbrev pub FaultCounts : ℕ → ℕ → ℕ → ℕ → ImportFault → Type 0
FaultCounts s s' d d' fault.Source = (s ≤ s') × Rose s s' × (d' ≡ d)
FaultCounts s s' d d' fault.Device = (d ≤ d') × Rose d d' × (s' ≡ s)
FaultCounts s s' d d' _ = (s' ≡ s) × (d' ≡ d)

-- faults of the source, before and now, and of the disk: none came where the call succeeded, and else those that its fault says
abbrev pub AreCounted : {T : Type 0} → Result T ImportFault → ℕ → ℕ → ℕ → ℕ → Type 0
AreCounted result s s' d d' = OnOk result ((s' ≡ s) × (d' ≡ d)) × IfErr result (FaultCounts s s' d d')

-- the end of a file denies it, behind whole sectors or inside one, and the fault says why
abbrev pub EndDenies : File → Bool → ImportFault → Type 0
EndDenies file inside (fault.Refused r) = denial_at_end file inside ≡ Some r
EndDenies file inside _ = ⊥

-- a file that ended here would be cut
abbrev pub IsOpen : File → Type 0
IsOpen front = (inside : Bool) → denial_at_end front inside ≡ Some (Cut (length front))

-- the sectors behind these decide nothing and put nothing, up to sector `until`
pub record IsQuiet (t : Target) (front : File) (until : ℕ) : Type 0 where
  pub undenied : (more : File) (k : ℕ) → length front ≤ k → k < until → k < length (front ++ more) → denial_at t (front ++ more) k ≡ None
  pub puts : (more : File) (k : ℕ) → length front ≤ k → k < until → k < length (front ++ more) → put_at (front ++ more) k ≡ None

-- a file that ended behind these sectors and in front of sector `until` would be cut
abbrev pub IsOpenUntil : File → ℕ → Type 0
IsOpenUntil front until = (more : File) → length (front ++ more) < until → IsOpen (front ++ more)

-- Bytes were read, of which a disk of so many sectors is made: just what their sectors put was put on it, and it holds these sectors, and
-- then zeros.
pub record IsMadeOf (t : Target) (bytes : List ℕ) (size : ℕ) (puts : List Put) : Type 0 where
  pub sectors : List (List ℕ)
  pub made : verdict_of t bytes ≡ Made sectors
  pub long : length sectors ≡ size
  pub puts_are : puts ≡ puts_of (file_of bytes) (length (file_of bytes))
  pub filled_are : (s : ℕ) → filled puts s ≡ slice_index_or sectors s zeros

-- A disk of so many sectors holds some puts, each within it, which make it the one that the file holds, where that is told.
pub record HasMade (t : Target) (had : Option (List ℕ)) (holds : List Put → Type 0) (size : ℕ) : Type 0 where
  pub puts : List Put
  pub held : holds puts
  pub below : All (λ (p : Put). p.sector < size) puts
  pub made : IfSome had (λ bytes. IsMadeOf t bytes size puts)

-- what is answered to a file: a fault says so, where the file is told, or a disk is made that holds it
abbrev pub HasImported : Target → Option (List ℕ) → Result ℕ ImportFault → (List Put → Type 0) → Type 0
HasImported t had result holds = IfErr result (FaultSays t had) × IfOk result (HasMade t had holds)
