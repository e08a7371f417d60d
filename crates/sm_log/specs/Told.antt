-- What logs tell (this project's own): two disks of which one was begun where the other was taken differ at most in the pieces that
-- the later one's log names.
use Rattle.std.specs.Prelude.{◌≡◌, ◌≢◌, ℕ, ◌+◌, ◌*◌, ◌/◌, ◌<◌, ◌≤◌, ◌⊎◌, Bool, true, List, map, length, Some}
use Rattle.common_laws.specs.Lists.{In, Distinct}
use Rattle.sm_log.specs.Logs.{Log, piece_sectors, bit, pieces_touched, on_log, touched, split, twin_log, changed, walked}

-- what may be shown: of a disk, by its UUID, a sector with these bytes
abbrev pub Showing : Type 1
Showing = List ℕ → ℕ → List ℕ → Type 0

-- b was begun where a was taken
pub record Follows (a b : Log) : Type 0 where
  pub tagged : a.tag ≢ 0
  pub since : b.since ≡ a.tag

-- whatever may be shown of the two disks of a pair of such logs, where it differs the later log names the piece
abbrev pub Tells : Showing → List Log → Type 0
Tells shows logs = (a b : Log) (k : ℕ) (x y : List ℕ) → In a logs → In b logs → Follows a b
    → shows a.disk k x → shows b.disk k y → x ≢ y → bit b.bits (k / piece_sectors) ≡ true

-- each disk on the walk from a later disk back to an earlier one shows something in this sector, and the earlier one shows one thing
pub record ShowsAlong (shows : Showing) (logs : List Log) (u n : List ℕ) (k : ℕ) : Type 0 where
  pub some : (ls : List Log) (l : Log) → walked u n logs ≡ Some ls → In l ls → (x : List ℕ) × shows l.disk k x
  pub one : (x y : List ℕ) → shows u k x → shows u k y → x ≡ y

-- b is a log as a was, with more bits
pub record HasMore (a b : Log) : Type 0 where
  pub disk : b.disk ≡ a.disk
  pub tag : b.tag ≡ a.tag
  pub since : b.since ≡ a.since
  pub bits : (k : ℕ) → bit a.bits k ≡ true → bit b.bits k ≡ true

-- each of the logs ms is one of ls, with more bits
abbrev pub HaveMore : List Log → List Log → Type 0
HaveMore ls ms = (m : Log) → In m ms → (l : Log) × In l ls × HasMore l m

-- a sector is one of so many from one on
pub record IsWithin (sector count k : ℕ) : Type 0 where
  pub from : sector ≤ k
  pub to : k < sector + count

-- ---- what the laws say

-- the walk leads back to a disk: each piece in which the two differ is in what it gives
abbrev pub ChangedCovers : Showing → Type 0
ChangedCovers shows = (logs : List Log) (u n : List ℕ) (pieces k : ℕ) (bits : List Bool) → Tells shows logs → ShowsAlong shows logs u n k
    → changed pieces u n logs ≡ Some bits → u ≢ n
    → (x y : List ℕ) → shows u k x → shows n k y → x ≢ y → bit bits (k / piece_sectors) ≡ true

-- what is answered has a bit for each piece, where each log has
abbrev pub ChangedIsLong : Type 0
ChangedIsLong = (logs : List Log) (u n : List ℕ) (pieces : ℕ) (bits : List Bool) → ((l : Log) → In l logs → length l.bits ≡ pieces)
    → changed pieces u n logs ≡ Some bits → length bits ≡ pieces

-- no log is new, and disks that have one show nothing new: a line that touches no tracked disk, a log that goes
abbrev pub TellsElsewhere : Showing → Showing → Type 0
TellsElsewhere old new = (ls ms : List Log) → Tells old ls
    → ((l : Log) → In l ms → In l ls)
    → ((l : Log) (k : ℕ) (x : List ℕ) → In l ms → new l.disk k x → old l.disk k x)
    → Tells new ms

-- bits are set before anything is written
abbrev pub TellsMore : Showing → Type 0
TellsMore shows = (ls ms : List Log) → Tells shows ls → HaveMore ls ms → Tells shows ms

-- what is written are sectors in pieces whose bits are set, on a disk whose log no other names
abbrev pub TellsWritten : Showing → Showing → Type 0
TellsWritten old new = (ls : List Log) (u : List ℕ) (sector count : ℕ) → Tells old ls
    → ((v : List ℕ) (k : ℕ) (x : List ℕ) → new v k x → old v k x ⊎ ((v ≡ u) × IsWithin sector count k))
    → ((l : Log) → In l ls → l.disk ≡ u → l.tag ≡ 0)
    → ((l : Log) (p : ℕ) → In l ls → l.disk ≡ u → In p (pieces_touched sector count) → bit l.bits p ≡ true)
    → Tells new ls

-- one log more, that of a disk whose tracking begins: it has no tag, and was begun at no snapshot
abbrev pub TellsBegun : Showing → Type 0
TellsBegun shows = (ls ms : List Log) (n : Log) → Tells shows ls → n.tag ≡ 0 → n.since ≡ 0
    → ((m : Log) → In m ms → (m ≡ n) ⊎ In m ls) → Tells shows ms

-- one log more, that of a snapshot: it has the bits and the since of the disk's, and the snapshot shows what the disk shows
abbrev pub TellsTwin : Showing → Type 0
TellsTwin shows = (ls ms : List Log) (l : Log) (twin : List ℕ) (tag : ℕ) → Tells shows ls → In l ls
    → ((m : Log) → In m ls → m.since < tag)
    → ((k : ℕ) (x : List ℕ) → shows twin k x → shows l.disk k x)
    → ((m : Log) → In m ms → (m ≡ twin_log twin tag l) ⊎ In m ls) → Tells shows ms

-- the disk's log begins anew, whatever its bits are by then: it follows the snapshot's alone, and the two disks show one thing
abbrev pub TellsAnew : Showing → Type 0
TellsAnew shows = (ls ms : List Log) (l : Log) (tag : ℕ) (twin : List ℕ) → Tells shows ls
    → ((m : Log) → In m ls → m.tag ≡ tag → m.disk ≡ twin)
    → ((k : ℕ) (x y : List ℕ) → shows twin k x → shows l.disk k y → x ≡ y)
    → ((m : Log) → In m ms → In m ls ⊎ ((m.disk ≡ l.disk) × (m.tag ≡ l.tag) × (m.since ≡ tag)))
    → In l ls → Tells shows ms

-- bits of a disk's log are set, whatever is written behind
abbrev pub TellsTouched : Showing → Type 0
TellsTouched shows = (logs : List Log) (u : List ℕ) (sector count : ℕ) → Tells shows logs → Tells shows (on_log u (touched sector count) logs)

-- sectors of a disk are written, and the bits of its log are set: no other log names this one, which has a bit for each sector
abbrev pub TellsGuest : Showing → Showing → Type 0
TellsGuest old new = (logs : List Log) (u : List ℕ) (sector count : ℕ) → Tells old logs
    → ((v : List ℕ) (k : ℕ) (x : List ℕ) → new v k x → old v k x ⊎ ((v ≡ u) × IsWithin sector count k))
    → ((l : Log) → In l logs → l.disk ≡ u → (l.tag ≡ 0) × (sector + count ≤ piece_sectors * length l.bits))
    → Tells new (on_log u (touched sector count) logs)

-- a snapshot is taken, with a tag that is above all others: it shows what its disk shows, and nothing else
abbrev pub TellsSplit : Showing → Type 0
TellsSplit shows = (logs : List Log) (u twin : List ℕ) (tag : ℕ) → Tells shows logs → Distinct (map (λ (l : Log). l.disk) logs)
    → ((l : Log) → In l logs → (l.tag < tag) × (l.since < tag))
    → ((k : ℕ) (x : List ℕ) → shows twin k x → shows u k x)
    → ((k : ℕ) (x y : List ℕ) → shows twin k x → shows u k y → x ≡ y)
    → Tells shows (split u twin tag logs)
