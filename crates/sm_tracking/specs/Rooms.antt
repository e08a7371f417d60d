-- What is taken before a snapshot for the split of its disk's log, and what the split rests on.
use Rattle.std.specs.Prelude.{◌≡◌, ℕ, ◌<◌, ◌≤◌, ◌^◌, false, List, [], length, replicate, Some, None}
use Rattle.std.specs.Vec.{vec_capacity}
use Rattle.sm_base.specs.Names.{IsUuid}
use Rattle.sm_log.specs.Logs.{Log, log_of, twin_log}
use Rattle.sm_logs.specs.Held.{log_limit}
use Rattle.sm_machine.specs.Shapes.{Shape, free}
use Rattle.sm_tracking.specs.declared.rooms.Room.{Room}

-- the twin's log, a mark that is not set for each extent of so many, and places for as many extents as the log has
pub record IsRoomOf (count : ℕ) (twin : Log) (r : Room) : Type 0 where
  pub log : r.log ≡ twin
  pub marks : r.marks.items ≡ replicate count false
  pub counted : count < 2 ^ 32
  pub none : r.extents.items ≡ []
  pub places : r.log.extents ≤ vec_capacity r.extents

-- beside these logs, in a group of so many extents: the disk's log is split into the twin's of this room, the twin has none, and there is a
-- place for one log more
pub record IsRoomFor (count : ℕ) (logs : List Log) (u : List ℕ) (r : Room) : Type 0 where
  pub own : Log
  pub tracked : log_of u logs ≡ Some own
  pub room : IsRoomOf count (twin_log r.log.disk r.log.tag own) r
  pub absent : log_of r.log.disk logs ≡ None
  pub few : length logs < log_limit
  pub proper : IsUuid r.log.disk

-- the twin's log has a piece at least, and there are free extents for it
pub record CanSplit (s : Shape) (r : Room) : Type 0 where
  pub some : 1 ≤ length r.log.bits
  pub enough : r.log.extents ≤ free s
