-- Logs as they are held in memory: in order of their disks' UUIDs, with places for 500.
use Rattle.std.specs.Prelude.{◌≡◌, ℕ, suc, ◌≤◌, Bool, true, false, replicate, List, ◌∷◌, ◌++◌, length, map, take, drop, Option, Some, None, slice_get}
use Rattle.std.specs.List.{list_all, AllByRecursion}
use Rattle.std.specs.List.Sorted.{IsStrictlySortedBy}
use Rattle.std.specs.Ordering.{nat_cmp}
use Rattle.std.specs.Cmp.Lexicographic.{slice_cmp}
use Rattle.common_laws.specs.Lists.{◌>>=◌}
use Rattle.sm_log.specs.Coded.{spelled_first}
use Rattle.sm_log.specs.Logs.{Log, bit, changed, is_log_of, log_of, pieces_touched, united, with_log}

-- the most logs that there are: one for each disk
abbrev pub log_limit : ℕ
log_limit = 500

-- the disks' UUIDs are in strictly rising order
abbrev pub IsRising : List Log → Type 0
IsRising logs = IsStrictlySortedBy (slice_cmp nat_cmp) (map (λ l. l.disk) logs)

-- logs in order, and so many places, which are enough for all logs that there are
pub record AreHeld (logs : List Log) (places : ℕ) : Type 0 where
  pub rising : IsRising logs
  pub room : log_limit ≤ places

-- no log is of this disk
abbrev pub AreOthers : List ℕ → List Log → Type 0
AreOthers u logs = AllByRecursion (λ l. is_log_of u l ≡ false) logs

-- the log of a disk, and no other, stands at this place
pub record IsPlace (logs : List Log) (u : List ℕ) (i : ℕ) : Type 0 where
  pub held : Log
  pub at : slice_get logs i ≡ Some held
  pub named : held.disk ≡ u
  pub before : AreOthers u (take i logs)
  pub behind : AreOthers u (drop (suc i) logs)

-- a disk has no log, and one would belong in this place
pub record IsSlot (logs : List Log) (u : List ℕ) (i : ℕ) : Type 0 where
  pub within : i ≤ length logs
  pub none : log_of u logs ≡ None
  pub put : (l : Log) → l.disk ≡ u → take i logs ++ l ∷ drop i logs ≡ with_log l logs

-- whether a disk has no log, or its log has the bits set of all pieces that so many sectors from one on reach
abbrev pub is_touched : List ℕ → ℕ → ℕ → List Log → Bool
is_touched u sector count logs = elim (log_of u logs) as (λ _. Bool) [ None ↦ true | Some l ↦ list_all (bit l.bits) (pieces_touched sector count) ]

-- what changed between the snapshots of two disks as text, a bit for each piece of a disk with so many
abbrev pub told : ℕ → List ℕ → List ℕ → List Log → Option (List ℕ)
told pieces u n logs = changed pieces u n logs >>= λ bits. Some (spelled_first pieces bits)

-- the bits, at least so many, that are set in one of the logs that a walk gave
abbrev pub bits_of : ℕ → Option (List Log) → Option (List Bool)
bits_of pieces walked = walked >>= λ ls. Some (united (replicate pieces false) ls)
