-- The number of users of each volume, counted from scratch over the attached disks and their chains, and what the
-- calls do to these chains (this project's own). Attachments keep no chain: here stands what their counts mean.
use Rattle.std.specs.Prelude.{◌≡◌, ◌≢◌, ℕ, ◌+◌, true, false, not, ◌&&◌, List, [], ◌∷◌, ◌++◌, map, count_by, All}
use Rattle.std.specs.List.{AllZip}
use Rattle.sm_base.specs.declared.names.Name.{Name}
use Rattle.sm_base.specs.declared.operations.Mode.{Mode}
use Rattle.sm_refs.specs.Attached.{Attached, without, count_of, has, CountsMore, CountsLess}

-- an attached disk, its mode, and the volumes of its chain
pub record Use : Type 0 where
  pub disk : List ℕ
  pub mode : Mode
  pub chain : List Name

-- from scratch: how many of the disks have the volume in their chain
abbrev pub refs_from_scratch : List Use → Name → ℕ
refs_from_scratch uses volume = count_by (λ u. has u.chain volume) uses

-- what is kept is what these disks give
pub record IsFromScratch (kept : Attached) (uses : List Use) : Type 0 where
  pub disks : kept.disks ≡ map (λ u. (u.disk, u.mode)) uses
  pub counts : (volume : Name) → count_of kept volume ≡ refs_from_scratch uses volume

-- a call, with what it is handed
pub data Call : Type 0 where
  Enter : (disk : List ℕ) (mode : Mode) (chain : List Name) → Call
  Leave : (disk : List ℕ) (chain : List Name) → Call
  Forked : (leaf base : Name) → Call
  Relinked : (child out : Name) → Call
  Swapped : (parent : Name) → Call

-- ---- what each call does to what is kept, by its contract

pub record Enters (disk : List ℕ) (mode : Mode) (chain : List Name) (old new : Attached) : Type 0 where
  pub disks : new.disks ≡ old.disks ++ (disk, mode) ∷ []
  pub counts : CountsMore chain old new

pub record LeavesChain (disk : List ℕ) (chain : List Name) (old new : Attached) : Type 0 where
  pub disks : new.disks ≡ without disk old.disks
  pub counts : CountsLess chain old new

pub record Forks (leaf base : Name) (old new : Attached) : Type 0 where
  pub disks : new.disks ≡ old.disks
  pub counted : count_of new base ≡ count_of old leaf
  pub others : (volume : Name) → volume ≢ base → count_of new volume ≡ count_of old volume

pub record Relinks (child out : Name) (old new : Attached) : Type 0 where
  pub disks : new.disks ≡ old.disks
  pub counted : count_of new out + count_of old child ≡ count_of old out
  pub others : (volume : Name) → volume ≢ out → count_of new volume ≡ count_of old volume

pub record Swaps (parent : Name) (old new : Attached) : Type 0 where
  pub disks : new.disks ≡ old.disks
  pub counted : count_of new parent ≡ 0
  pub others : (volume : Name) → volume ≢ parent → count_of new volume ≡ count_of old volume

abbrev pub DoesCall : Call → Attached → Attached → Type 0
DoesCall (Enter disk mode chain) = Enters disk mode chain
DoesCall (Leave disk chain) = LeavesChain disk chain
DoesCall (Forked leaf base) = Forks leaf base
DoesCall (Relinked child out) = Relinks child out
DoesCall (Swapped parent) = Swaps parent

-- ---- what has happened to the disks and their chains

-- a disk goes, wherever it stood, with the chain that is handed in
pub record GoesAway (disk : List ℕ) (chain : List Name) (old new : List Use) : Type 0 where
  pub front : List Use
  pub gone : Use
  pub back : List Use
  pub was : old ≡ front ++ gone ∷ back
  pub now : new ≡ front ++ back
  pub same_disk : gone.disk ≡ disk
  pub others : All (λ u. u.disk ≢ disk) (front ++ back)
  pub same_chain : (volume : Name) → has gone.chain volume ≡ has chain volume

-- a chain has got the base if it has the leaf, and no other volume comes or goes
pub record GetsBase (leaf base : Name) (old new : Use) : Type 0 where
  pub disk : new.disk ≡ old.disk
  pub mode : new.mode ≡ old.mode
  pub gets : has new.chain base ≡ has old.chain leaf
  pub others : (volume : Name) → volume ≢ base → has new.chain volume ≡ has old.chain volume

-- a chain has lost `out` if it has the child, under which `out` stood, and no other volume comes or goes
pub record LosesOut (child out : Name) (old new : Use) : Type 0 where
  pub disk : new.disk ≡ old.disk
  pub mode : new.mode ≡ old.mode
  pub under : has old.chain child ≡ true → has old.chain out ≡ true
  pub loses : has new.chain out ≡ (has old.chain out && not (has old.chain child))
  pub others : (volume : Name) → volume ≢ out → has new.chain volume ≡ has old.chain volume

-- a chain has the parent no more, whose volume stands under the leaf's name, and no other volume comes or goes
pub record LosesParent (parent : Name) (old new : Use) : Type 0 where
  pub disk : new.disk ≡ old.disk
  pub mode : new.mode ≡ old.mode
  pub loses : has new.chain parent ≡ false
  pub others : (volume : Name) → volume ≢ parent → has new.chain volume ≡ has old.chain volume

abbrev pub ChangesUses : Call → List Use → List Use → Type 0
ChangesUses (Enter disk mode chain) old new = new ≡ old ++ (record { disk = disk; mode = mode; chain = chain }) ∷ []
ChangesUses (Leave disk chain) old new = GoesAway disk chain old new
ChangesUses (Forked leaf base) old new = AllZip (GetsBase leaf base) old new
ChangesUses (Relinked child out) old new = AllZip (LosesOut child out) old new
ChangesUses (Swapped parent) old new = AllZip (LosesParent parent) old new

-- ---- the laws

-- each call keeps what is kept right
abbrev pub CallsKeepCounts : Type 0
CallsKeepCounts = (call : Call) (old new : Attached) (uses now : List Use) → IsFromScratch old uses → DoesCall call old new → ChangesUses call uses now → IsFromScratch new now

-- one call after the other, from what is kept and the disks at first to both at last
abbrev pub Runs : List Call → Attached → List Use → Attached → List Use → Type 0
Runs [] old uses new now = (new ≡ old) × (now ≡ uses)
Runs (call ∷ calls) old uses new now =
    (next : Attached) × (then : List Use) × DoesCall call old next × ChangesUses call uses then × Runs calls next then new now

-- where nothing was attached at first, after any calls each count is the one from scratch
abbrev pub CountsAreFromScratch : Type 0
CountsAreFromScratch = (calls : List Call) (first last : Attached) (now : List Use) → first.disks ≡ [] → first.counts ≡ [] → Runs calls first [] last now → IsFromScratch last now
