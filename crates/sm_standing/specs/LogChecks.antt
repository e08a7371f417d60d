-- The last check of an opening, the fourteenth, of the logs of tracked disks; and all checks from the sixth on (this project's format).
--   14. Each log that is not new and whose disk is there is right: its first sector is a head, of as many pieces as the image has in which the
--       disk stands; its volume has the sectors for head and bits; its tag and its since are below the table's sequence number; and no
--       such log before it, in order of name, has the same tag other than 0.
-- The first in order of name that is not is named. Bits behind the last piece, and sectors behind those of the bits, are not looked at.
use Rattle.std.specs.Prelude.{◌≡◌, ◌≢◌, ℕ, ◌*◌, ◌<◌, ◌≤◌, ◌==◌, ◌&&◌, not, nat_le, nat_lt, Bool, true, false, List, [], ◌∷◌, length, map, Option, Some, None, is_some}
use Rattle.std.specs.List.{filter, list_any}
use Rattle.std.specs.Ordering.{is_lt}
use Rattle.sm_base.specs.Names.{name_cmp}
use Rattle.sm_base.specs.declared.faults.Place.{Place}
use Rattle.sm_base.specs.declared.faults.Place.TheVariants as at
use Rattle.sm_base.specs.declared.names.Name.{Name}
use Rattle.sm_base.specs.declared.names.Name.TheVariants.{Mgt, Vhd, Raw, Old, Cbt, Clone, Inflate, Coalesce, Relink, Leaf}
use Rattle.vg_meta.specs.Tables.{Row}
use Rattle.common_laws.specs.Lists.{In, first_some, ◌>>=◌}
use Rattle.sm_log.specs.Logs.{Log, log_sectors, piece_count}
use Rattle.sm_standing.specs.Checks.{first_fault, first_name, placed}
use Rattle.sm_standing.specs.Contents.{Content, row, size_of}
use Rattle.sm_standing.specs.Images.{Image, image_of}
use Rattle.sm_standing.specs.Keeping.{IsKept}
use Rattle.sm_standing.specs.Logs.{log_at, logs}
use Rattle.sm_standing.specs.Ordered.{Rising, uuid_cmp}
use Rattle.sm_standing.specs.Standing.{standing_volume}

-- the pieces of an image; none where there is none
abbrev pub pieces_in : Option Image → ℕ
pieces_in None = 0
pieces_in (Some i) = piece_count i.size

-- the pieces of a disk: those of the image in which it stands
unfoldable pub standing_pieces : Content → List ℕ → ℕ
standing_pieces c u = pieces_in (standing_volume c.table u >>= image_of c)

-- the logs before that of a disk, in order of name, that are not new and whose disks are there
unfoldable pub logs_before : Content → List ℕ → List Log
logs_before c u = filter (λ l. is_lt (name_cmp (Cbt l.disk) (Cbt u))) (logs c)

-- whether one of some logs has this tag, other than 0
abbrev pub is_tag_met : List Log → ℕ → Bool
is_tag_met ls tag = not (tag == 0) && list_any (λ l. l.tag == tag) ls

-- a log of so many pieces, in a volume of so many sectors, behind earlier ones, with numbers below this one
abbrev pub is_log_right : ℕ → ℕ → List Log → ℕ → Log → Bool
is_log_right pieces size earlier sequence l =
    (length l.bits == pieces)
    && (nat_le (log_sectors pieces) size
    && (nat_lt l.tag sequence
    && (nat_lt l.since sequence
    && not (is_tag_met earlier l.tag))))

-- one that does not read is wrong too
abbrev pub is_log_wrong : ℕ → ℕ → List Log → ℕ → Option Log → Bool
is_log_wrong pieces size earlier sequence None = true
is_log_wrong pieces size earlier sequence (Some l) = not (is_log_right pieces size earlier sequence l)

-- the check speaks of logs alone, and of those whose disk is there
abbrev pub log_wrong_as : Content → Name → Bool
log_wrong_as c (Cbt u) = is_some (standing_volume c.table u)
    && is_log_wrong (standing_pieces c u) (size_of c (Cbt u)) (logs_before c u) c.table.sequence (log_at c u)
log_wrong_as c Mgt = false
log_wrong_as c (Vhd u) = false
log_wrong_as c (Raw u) = false
log_wrong_as c (Old u) = false
log_wrong_as c (Clone disk base twin) = false
log_wrong_as c (Inflate image extents) = false
log_wrong_as c (Coalesce child parent) = false
log_wrong_as c (Relink child parent) = false
log_wrong_as c (Leaf leaf parent) = false

-- a log that is not new, whose disk is there, and that is not right
abbrev pub is_wrong_log : Content → Row → Bool
is_wrong_log c r = not r.fresh && log_wrong_as c r.name

-- the first log, by name, that fails the check of logs
unfoldable pub log_fault : Content → Option Place
log_fault c = placed at.Log (first_name (is_wrong_log c) c.table.volumes)

-- the place of the first check that fails on a content, that of logs as the last
abbrev pub first_place : Content → Option Place
first_place c = first_some (first_fault c ∷ log_fault c ∷ [])

-- ---- what passes

-- each volume of a log that is not new is that of a disk that is there
abbrev pub AreLogsOfDisks : Content → Type 0
AreLogsOfDisks c = (u : List ℕ) (r : Row) → In r c.table.volumes → r.name ≡ Cbt u → r.fresh ≡ false → is_some (standing_volume c.table u) ≡ true

-- a log stands in its volume, and its disk is there: it has a bit for each of the disk's pieces, the volume has the sectors for head and bits,
-- and its numbers were used
pub record IsRightLog (c : Content) (l : Log) : Type 0 where
  pub here : log_at c l.disk ≡ Some l
  pub stands : is_some (standing_volume c.table l.disk) ≡ true
  pub pieces : length l.bits ≡ standing_pieces c l.disk
  pub room : log_sectors (length l.bits) ≤ l.extents * c.extent
  pub tag : l.tag < c.table.sequence
  pub since : l.since < c.table.sequence

-- logs are in order of UUID, at most one for each disk, and right; no two have one tag, other than 0
pub record AreRightLogs (c : Content) (ls : List Log) : Type 0 where
  pub in_order : Rising uuid_cmp (map (λ (l : Log). l.disk) ls)
  pub right : (l : Log) → In l ls → IsRightLog c l
  pub one_tag : (a b : Log) → In a ls → In b ls → a.tag ≡ b.tag → a.tag ≢ 0 → a ≡ b

-- the log of a disk with so many pieces stands in its volume, and is right: the volume has the sectors for head and bits, and its numbers were used
pub record HasRightLog (c : Content) (u : List ℕ) (count : ℕ) : Type 0 where
  pub log : Log
  pub here : log_at c u ≡ Some log
  pub pieces : length log.bits ≡ count
  pub room : log_sectors (length log.bits) ≤ log.extents * c.extent
  pub tag : log.tag < c.table.sequence
  pub since : log.since < c.table.sequence

-- the logs of no two disks that are there have one tag, other than 0
abbrev pub HaveOneTag : Content → Type 0
HaveOneTag c = (u v : List ℕ) (a b : Log) → log_at c u ≡ Some a → log_at c v ≡ Some b → is_some (standing_volume c.table u) ≡ true → is_some (standing_volume c.table v) ≡ true
    → a.tag ≡ b.tag → a.tag ≢ 0 → u ≡ v

-- a log is another but for its bits and for the snapshot since which it has them
pub record IsLogLike (m l : Log) : Type 0 where
  pub disk : l.disk ≡ m.disk
  pub extents : l.extents ≡ m.extents
  pub tag : l.tag ≡ m.tag
  pub pieces : length l.bits ≡ length m.bits

-- the log of this disk is the first, by name, that fails the check of logs
pub record IsFirstWrong (c : Content) (u : List ℕ) : Type 0 where
  pub held : Row
  pub here : In held c.table.volumes
  pub named : held.name ≡ Cbt u
  pub wrong : is_wrong_log c held ≡ true
  pub first : (r : Row) → In r c.table.volumes → is_wrong_log c r ≡ true → is_lt (name_cmp r.name (Cbt u)) ≡ false

-- ---- what stays

-- The logs of a content stand in another: their volumes and what a read of them gives are the same, and the sequence number is no lower.
pub record HasLogsOf (was now : Content) : Type 0 where
  pub volumes : (u : List ℕ) → row now (Cbt u) ≡ row was (Cbt u)
  pub logs : (u : List ℕ) → log_at now u ≡ log_at was u
  pub sequence : was.table.sequence ≤ now.table.sequence

-- all checks of an opening pass, that of logs too, and what no opening tests holds
pub record IsKeptWithLogs (c : Content) : Type 0 where
  pub kept : IsKept c
  pub passes : log_fault c ≡ None
