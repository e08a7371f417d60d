-- What a call took from a source that was to read a sector of a file.
use Rattle.std.specs.Prelude.{ℕ, ◌<◌, List, length, take, Option, Result, Ok, Err}
use Rattle.sm_base.specs.declared.faults.Failed.{Failed}
use Rattle.sm_disk.specs.Streams.{Takes}
use Rattle.sm_run.specs.Runs.{IsSpent}
use Rattle.vhd_import.specs.declared.reading.Part.{Part}
use Rattle.vhd_import.specs.declared.reading.Part.TheVariants.{End, Whole}

-- A sector was read whole, or so many bytes of it and nothing is left. Where a call of the source failed, some bytes were taken, fewer than
-- a sector has.
abbrev pub HasReadSector : Result Part Failed → Option (List ℕ) → List ℕ → Option (List ℕ) → Type 0
HasReadSector (Ok Whole) had to left = Takes had to left
HasReadSector (Ok (End n)) had to left = (n < 512) × Takes had (take n to) left × IsSpent left
HasReadSector (Err _) had to left = (bytes : List ℕ) × (length bytes < 512) × Takes had bytes left
