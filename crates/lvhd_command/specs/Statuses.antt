-- The exit status of the program (this project's format).
use Rattle.std.specs.Prelude.{ℕ}
use Rattle.lvhd_command.specs.declared.statuses.Status.{Status}
use Rattle.lvhd_command.specs.declared.statuses.Status.TheVariants.{Done, Words, Device, Source, Sink, Refused, Memory, TooLong, Denied}

-- the exit status of each outcome
abbrev pub status_code : Status → ℕ
status_code Done = 0
status_code Words = 2
status_code Device = 3
status_code Source = 4
status_code Sink = 5
status_code Refused = 6
status_code Memory = 7
status_code TooLong = 8
status_code Denied = 10
