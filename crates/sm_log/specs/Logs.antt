-- The logs of tracked disks (this project's format). A log has a bit for each piece of 64 KiB of its disk, in order. A set bit says
-- that the piece may have been written to since the snapshot whose log has the log's `since` as its tag was taken, or, where
-- `since` is 0, since the disk is tracked. A snapshot's log has the bits that the disk's log had when the snapshot was taken.
use Rattle.std.specs.Prelude.{ℕ, zero, suc, ◌+◌, ◌-◌, ◌/◌, ◌==◌, ◌||◌, not, Bool, true, false, List, [], ◌∷◌, length, replicate, Option, Some, None, if◌then◌else◌}
use Rattle.std.specs.List.{filter, find, slice_set, slice_index_or}
use Rattle.std.specs.Ordering.{is_lt, nat_cmp}
use Rattle.std.specs.Cmp.Lexicographic.{slice_cmp}
use Rattle.std.specs.Str.{bytes_eq}
use Rattle.sm_base.specs.Numbers.{div_up}
use Rattle.common_laws.specs.Lists.{change, insert_by, numbers, ◌>>=◌}

-- the sectors of a piece
abbrev pub piece_sectors : ℕ
piece_sectors = 128

-- the bits of a sector
abbrev pub sector_bits : ℕ
sector_bits = 4096

-- the number of pieces of a disk of so many sectors; the last may be smaller
abbrev pub piece_count : ℕ → ℕ
piece_count sectors = div_up sectors piece_sectors

-- the sectors of a log of so many pieces: its head, and its bits
abbrev pub log_sectors : ℕ → ℕ
log_sectors pieces = 1 + div_up pieces sector_bits

-- a log: its disk, the extents of its volume, the number by which other logs name it (0 for a disk that is no snapshot), the number
-- of the snapshot since which it has bits (0 for none), and a bit for each piece
pub record Log : Type 0 where
  pub disk : List ℕ
  pub extents : ℕ
  pub tag : ℕ
  pub since : ℕ
  pub bits : List Bool

-- ---- bits

-- whether the bit of a piece is set; behind the last one none is
abbrev pub bit : List Bool → ℕ → Bool
bit bits k = slice_index_or bits k false

-- bits in which those of some pieces are set, and the others as they were
unfoldable pub marked : List ℕ → List Bool → List Bool
marked [] bits = bits
marked (k ∷ ks) bits = marked ks (slice_set bits k true)

-- the pieces that so many sectors from one on reach, at least one sector
abbrev pub pieces_touched : ℕ → ℕ → List ℕ
pieces_touched sector count = numbers (sector / piece_sectors) ((sector + count - 1) / piece_sectors + 1 - sector / piece_sectors)

-- two lists of bits as one: a bit is set where it is in one or in the other
unfoldable pub either : List Bool → List Bool → List Bool
either [] ys = ys
either (a ∷ xs) [] = a ∷ xs
either (a ∷ xs) (b ∷ ys) = (a || b) ∷ either xs ys

-- ---- logs, in order of UUID

-- whether this is the log of a disk
abbrev pub is_log_of : List ℕ → Log → Bool
is_log_of u l = bytes_eq l.disk u

-- the log of a disk, where it has one
abbrev pub log_of : List ℕ → List Log → Option Log
log_of u logs = find (is_log_of u) logs

-- one log before another, by the bytes of their disks' UUIDs
abbrev pub log_before : Log → Log → Bool
log_before a b = is_lt (slice_cmp nat_cmp a.disk b.disk)

-- one log more, in its place
unfoldable pub with_log : Log → List Log → List Log
with_log l logs = insert_by log_before l logs

-- all logs but that of a disk
abbrev pub without_log : List ℕ → List Log → List Log
without_log u logs = filter (λ l. not (is_log_of u l)) logs

-- the log of a disk changed
abbrev pub on_log : List ℕ → (Log → Log) → List Log → List Log
on_log u f logs = change (is_log_of u) f logs

-- the extents of all logs
unfoldable pub log_extents : List Log → ℕ
log_extents [] = 0
log_extents (l ∷ logs) = l.extents + log_extents logs

-- ---- what happens to a log

-- tracking begins: no bit is set
abbrev pub new_log : List ℕ → ℕ → ℕ → Log
new_log u extents pieces = record { disk = u; extents = extents; tag = 0; since = 0; bits = replicate pieces false }

-- so many sectors from one on are written
abbrev pub touched : ℕ → ℕ → Log → Log
touched sector count l = record l { bits = marked (pieces_touched sector count) l.bits }

-- a snapshot's log has the bits of the disk's log so far
abbrev pub twin_log : List ℕ → ℕ → Log → Log
twin_log twin tag l = record l { disk = twin; tag = tag }

-- the log of a disk of which a snapshot was taken begins anew, since the snapshot's tag
abbrev pub begun_anew : ℕ → Log → Log
begun_anew tag l = record l { since = tag; bits = replicate (length l.bits) false }

-- a snapshot is taken of a disk with this log
abbrev pub split_of : List ℕ → List ℕ → ℕ → Option Log → List Log → List Log
split_of u twin tag None logs = logs
split_of u twin tag (Some l) logs = with_log (twin_log twin tag l) (on_log u (begun_anew tag) logs)

-- a snapshot is taken of a disk; one without a log gives its snapshot none
abbrev pub split : List ℕ → List ℕ → ℕ → List Log → List Log
split u twin tag logs = split_of u twin tag (log_of u logs) logs

-- ---- the walk

-- the log that was begun before: its tag is this one's since
abbrev pub before : Log → List Log → Option Log
before l logs = if l.since == 0 then None else find (λ k. k.tag == l.since) logs

-- the logs from one back to that of a disk, which is left out; none where that is not met within so many
unfoldable pub walk : ℕ → List ℕ → List Log → Option Log → Option (List Log)
walk zero u logs at = None
walk (suc most) u logs None = None
walk (suc most) u logs (Some l) =
    if bytes_eq l.disk u then Some []
    else (walk most u logs (before l logs) >>= λ ls. Some (l ∷ ls))

-- from the log of the later disk, as many as there are: a longer walk meets a log again, and comes to nothing new
abbrev pub walked : List ℕ → List ℕ → List Log → Option (List Log)
walked u n logs = walk (length logs) u logs (log_of n logs)

-- the bits of some logs, each set where it is in one of them
unfoldable pub united : List Bool → List Log → List Bool
united blank [] = blank
united blank (l ∷ ls) = either l.bits (united blank ls)

-- the pieces, of a disk with so many, that may have been written between the snapshots of two disks: none for one and the same disk;
-- else where the walk leads from the later one's log to the earlier one's
unfoldable pub changed : ℕ → List ℕ → List ℕ → List Log → Option (List Bool)
changed pieces u n logs =
    if bytes_eq u n then Some (replicate pieces false)
    else (walked u n logs >>= λ ls. Some (united (replicate pieces false) ls))
