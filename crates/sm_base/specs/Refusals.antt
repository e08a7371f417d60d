-- The numbers of the refusals, in the order of their tests but for those of tracked disks (this project's format).
use Rattle.std.specs.Prelude.{ℕ}
use Rattle.sm_base.specs.declared.refusals.Refusal.{Refusal}
use Rattle.sm_base.specs.declared.refusals.Refusal.TheVariants.{BadLine, ReservedName, UnknownDisk, NameTaken, InUse, NotAttached, ReadOnly, RawDisk, Tracked, NotTracked, OutOfRange, BadSize, Shrink, ChainTooLong, TooMany, SequenceSpent, NoSpace, NoMemory, Differencing, BadFile, Cut}

-- from 1 to 21
abbrev pub number_of : Refusal → ℕ
number_of BadLine = 1
number_of ReservedName = 2
number_of UnknownDisk = 3
number_of NameTaken = 4
number_of InUse = 5
number_of NotAttached = 6
number_of ReadOnly = 7
number_of RawDisk = 8
number_of Tracked = 20
number_of NotTracked = 21
number_of OutOfRange = 9
number_of BadSize = 10
number_of Shrink = 11
number_of (ChainTooLong depth) = 12
number_of (TooMany have need) = 13
number_of SequenceSpent = 14
number_of (NoSpace need free) = 15
number_of NoMemory = 16
number_of Differencing = 17
number_of (BadFile sector) = 18
number_of (Cut sector) = 19
