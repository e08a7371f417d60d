-- Two snapshots of a tracked disk of two pieces, of which the second piece was written to in between; and what a stop leaves.
use Rattle.std.specs.Prelude.{ℕ, List, [], ◌∷◌, false, replicate, Option, Some}
use Rattle.common_laws.specs.Lists.{◌>>=◌}
use Rattle.sm_log.specs.Logs.{Log, new_log, touched, on_log, split, twin_log, with_log, changed}
use Rattle.sm_log.specs.Coded.{spelled}

-- the tracked disk
abbrev pub disk : List ℕ
disk = replicate 16 1

-- the first snapshot of the disk
abbrev pub earlier : List ℕ
earlier = replicate 16 2

-- the second snapshot of the disk
abbrev pub later : List ℕ
later = replicate 16 3

-- tracking has begun, and the first snapshot is taken
abbrev pub logs_earlier : List Log
logs_earlier = split disk earlier 8 (new_log disk 1 2 ∷ [])

-- sector 128, the first of the second piece, is written
abbrev pub logs_written : List Log
logs_written = on_log disk (touched 128 1) logs_earlier

-- the second snapshot is taken
abbrev pub logs_later : List Log
logs_later = split disk later 18 logs_written

-- a stop behind the making of the second snapshot's log: the disk's log has not begun anew yet
abbrev pub logs_stopped : List Log
logs_stopped = with_log (twin_log later 18 (touched 128 1 (record { disk = disk; extents = 1; tag = 0; since = 8; bits = replicate 2 false }))) logs_written

-- the second snapshot is taken where nothing was written since the first
abbrev pub logs_unwritten : List Log
logs_unwritten = split disk later 18 logs_earlier

-- what is answered of two disks, where anything is
abbrev pub answer : List ℕ → List ℕ → List Log → Option (List ℕ)
answer u n logs = changed 2 u n logs >>= λ bits. Some (spelled bits)
