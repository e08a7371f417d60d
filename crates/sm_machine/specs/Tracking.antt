-- What happens to the logs of tracked disks, and with it the step of a line (this project's own). A log's volume is none of an image: its
-- extents are among the others' of a shape. What a command does to the logs comes on top of its step.
use Rattle.std.specs.Prelude.{◌≡◌, ◌≢◌, ℕ, ◌+◌, ◌-◌, ◌*◌, ◌/◌, ◌<◌, ◌≤◌, Bool, true, false, List, [], length, map, Option, Some, None}
use Rattle.sm_base.specs.declared.refusals.Refusal.{Refusal}
use Rattle.sm_base.specs.declared.refusals.Refusal.TheVariants.{BadLine}
use Rattle.common_laws.specs.Lists.{In, Distinct, Sorted}
use Rattle.sm_log.specs.Logs.{Log, piece_count, log_sectors, log_of, with_log, without_log, on_log, log_extents, new_log, touched, split}
use Rattle.sm_machine.specs.declared.commands.Command.{Command}
use Rattle.sm_machine.specs.declared.commands.Command.TheVariants.{Create, Delete, Attach, Detach, Snapshot, Clone, Resize, Label, Write, Fill, Read, Flush, Gc, List as Listing, Stat, Track, Changed}
use Rattle.sm_machine.specs.Disks.{sector_bytes}
use Rattle.sm_machine.specs.Shapes.{Shape, ImageRow, disk_image, risen}
use Rattle.sm_machine.specs.Lines.{spelled}
use Rattle.sm_machine.specs.Refusals.{disk_pieces, is_snapshot, log_room, of_log, refusal}
use Rattle.sm_machine.specs.Steps.{State, Outcome, accepted, refused}
use Rattle.sm_machine.specs.WellFormed.{HasRecord, uuid_le}

-- ---- what a command does to logs

-- the logs after an accepted command: a write sets the bits of the pieces that it reaches, a deleted disk's log goes, and a snapshot
-- of a tracked disk has a log, with the sequence number before the command as its tag; tracking begins with a log without bits
unfoldable pub logs_after : Shape → Command → List Log
logs_after s (Create u size raw label) = s.logs
logs_after s (Delete u) = without_log u s.logs
logs_after s (Attach u mode) = s.logs
logs_after s (Detach u) = s.logs
logs_after s (Snapshot u twin) = split u twin s.sequence s.logs
logs_after s (Clone u twin) = s.logs
logs_after s (Resize u size) = s.logs
logs_after s (Label u text) = s.logs
logs_after s (Write u sector bytes) = on_log u (touched sector (length bytes / sector_bytes)) s.logs
logs_after s (Fill u sector count byte) = on_log u (touched sector count) s.logs
logs_after s (Read u sector count) = s.logs
logs_after s (Flush u) = s.logs
logs_after s Gc = s.logs
logs_after s Listing = s.logs
logs_after s Stat = s.logs
logs_after s (Track u true) = with_log (new_log u (log_room s u) (disk_pieces u s)) s.logs
logs_after s (Track u false) = without_log u s.logs
logs_after s (Changed u n) = s.logs

-- the commits that a command makes for logs: one where a log goes, two where one is made
unfoldable pub log_commits : Shape → Command → ℕ
log_commits s (Create u size raw label) = 0
log_commits s (Delete u) = of_log (λ l. 1) (log_of u s.logs)
log_commits s (Attach u mode) = 0
log_commits s (Detach u) = 0
log_commits s (Snapshot u twin) = of_log (λ l. 2) (log_of u s.logs)
log_commits s (Clone u twin) = 0
log_commits s (Resize u size) = 0
log_commits s (Label u text) = 0
log_commits s (Write u sector bytes) = 0
log_commits s (Fill u sector count byte) = 0
log_commits s (Read u sector count) = 0
log_commits s (Flush u) = 0
log_commits s Gc = 0
log_commits s Listing = 0
log_commits s Stat = 0
log_commits s (Track u true) = 2
log_commits s (Track u false) = 1
log_commits s (Changed u n) = 0

-- whether a command makes the log of a disk that has none
unfoldable pub begins_log : Command → Bool
begins_log (Track u on) = on
begins_log _ = false

-- ---- the shape with other logs

-- a shape with these logs in place of its own: their extents are among those of others, and so many commits are counted
abbrev pub with_logs : List Log → ℕ → Shape → Shape
with_logs logs commits s = record s {
  sequence = risen s.sequence commits;
  others = s.others + log_extents logs - log_extents s.logs;
  logs = logs;
}

-- from s, the shape before a command, and t, that after it without what it does to logs: the shape after it
abbrev pub tracked : Shape → Command → Shape → Shape
tracked s c t = with_logs (logs_after s c) (log_commits s c) t

-- an outcome, of a command from a shape, with what it does to logs
abbrev pub with_tracked : Shape → Command → Outcome → Outcome
with_tracked s c o = record { reply = o.reply; after = record { disks = o.after.disks; shape = tracked s c o.after.shape } }

abbrev pub tracked_unless : Option Refusal → State → Command → Outcome
tracked_unless (Some r) σ c = refused σ r
tracked_unless None σ c = with_tracked σ.shape c (accepted σ c)

-- the step of a command, with what it does to logs: that of a line which spells it; a refused one changes nothing
unfoldable pub tracked_step : State → Command → Outcome
tracked_step σ c = tracked_unless (refusal σ.shape c) σ c

-- ---- the step of a line

-- of a line that spells a command
abbrev pub step_or_bad : Option Command → State → Outcome
step_or_bad None σ = refused σ BadLine
step_or_bad (Some c) σ = tracked_step σ c

-- the step of a line
unfoldable pub step_line : State → List ℕ → Outcome
step_line σ line = step_or_bad (spelled line) σ

-- ---- tracking begins, and ends

-- the shape once a disk is tracked
abbrev pub begun : Shape → List ℕ → Shape
begun s u = with_logs (with_log (new_log u (log_room s u) (disk_pieces u s)) s.logs) 2 s

-- the shape once a disk is tracked no more
abbrev pub ended : Shape → List ℕ → Shape
ended s u = with_logs (without_log u s.logs) 1 s

-- ---- which logs there are

-- a log is that of a disk: it has a bit for each piece, and extents for its sectors; its numbers were used
pub record IsGoodLog (s : Shape) (l : Log) : Type 0 where
  pub disk : HasRecord s l.disk
  pub pieces : (i : ImageRow) → disk_image l.disk s ≡ Some i → length l.bits ≡ piece_count i.size
  pub room : log_sectors (length l.bits) ≤ l.extents * s.extent
  pub tag : l.tag < s.sequence
  pub since : l.since < s.sequence

-- logs are in order of UUID, at most one for each disk; no two have one tag, other than 0; their extents are among those of others
pub record AreGoodLogs (s : Shape) : Type 0 where
  pub in_order : Sorted uuid_le (map (λ (l : Log). l.disk) s.logs)
  pub one_log : Distinct (map (λ (l : Log). l.disk) s.logs)
  pub good : (l : Log) → In l s.logs → IsGoodLog s l
  pub one_tag : (a b : Log) → In a s.logs → In b s.logs → a.tag ≡ b.tag → a.tag ≢ 0 → a ≡ b
  pub within : log_extents s.logs ≤ s.others

-- each log with a tag is that of a snapshot
abbrev pub AreOfSnapshots : Shape → Type 0
AreOfSnapshots s = (l : Log) → In l s.logs → l.tag ≢ 0 → is_snapshot l.disk s ≡ true

-- no disk is tracked
abbrev pub AreUntracked : Shape → Type 0
AreUntracked s = s.logs ≡ []
