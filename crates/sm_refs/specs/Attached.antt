-- Which disks are attached, and how many of them use each volume (this project's own).
use Rattle.std.specs.Prelude.{◌≡◌, ℕ, ◌+◌, ◌<◌, ◌≤◌, Bool, List, length, filter, not, Option, unwrap_or, if◌then◌else◌, IsTrue}
use Rattle.std.specs.List.{list_any}
use Rattle.std.specs.Map.{lookup}
use Rattle.sm_base.specs.declared.names.Name.{Name}
use Rattle.sm_base.specs.declared.operations.Mode.{Mode}
use Rattle.sm_base.specs.contracts.names.NamePartialEq.TheImpl as name
use Rattle.uuid.specs.contracts.UuidPartialEq.TheImpl as uuid

-- the disks with their modes, in the order of attaching; the volumes in use, each with the number of disks that
-- use it; how many disks fit, and how many volumes
pub record Attached : Type 0 where
  pub disks : List (List ℕ × Mode)
  pub counts : List (Name × ℕ)
  pub room : ℕ

-- what `==` says of two names, and of two UUIDs
unfoldable pub same_name : Name → Name → Bool
same_name = name.ghosts.eq

unfoldable pub same_uuid : List ℕ → List ℕ → Bool
same_uuid = uuid.ghosts.eq

-- the mode of a disk, where it is attached
abbrev pub mode_of : Attached → List ℕ → Option Mode
mode_of a disk = lookup (same_uuid disk) a.disks

-- the disks but one
abbrev pub without : List ℕ → List (List ℕ × Mode) → List (List ℕ × Mode)
without disk disks = filter (λ d. not (same_uuid disk d.0)) disks

-- the number that a list of counts gives for a volume, and 0 for one that it does not have
abbrev pub tally : List (Name × ℕ) → Name → ℕ
tally counts volume = unwrap_or (lookup (same_name volume) counts) 0

-- how many attached disks use a volume
abbrev pub count_of : Attached → Name → ℕ
count_of a = tally a.counts

-- the volume stands in the chain
abbrev pub has : List Name → Name → Bool
has chain volume = list_any (same_name volume) chain

-- 1 for a volume of the chain, and 0 for any other
abbrev pub one_in : List Name → Name → ℕ
one_in chain volume = if has chain volume then 1 else 0

-- each volume of the chain has one more, and each other the same
abbrev pub CountsMore : List Name → Attached → Attached → Type 0
CountsMore chain old new = (volume : Name) → count_of new volume ≡ count_of old volume + one_in chain volume

-- each volume of the chain has one less, and each other the same
abbrev pub CountsLess : List Name → Attached → Attached → Type 0
CountsLess chain old new = (volume : Name) → count_of old volume ≡ count_of new volume + one_in chain volume

-- the volumes that have a count and those of the chain fit: a list of at most `room` names has them all
pub record HoldsChain (counts : List (Name × ℕ)) (chain : List Name) (room : ℕ) : Type 0 where
  pub names : List Name
  pub few : length names ≤ room
  pub counted : (volume : Name) → 0 < tally counts volume → IsTrue (has names volume)
  pub added : (volume : Name) → IsTrue (has chain volume) → IsTrue (has names volume)
