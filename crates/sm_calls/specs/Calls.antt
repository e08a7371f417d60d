-- Calls of a store, made one after the other: what they ask, what they make, and what a stop among them leaves (this project's own).
use Rattle.std.specs.Prelude.{◌≡◌, ◌⊎◌, ℕ, ◌<◌, ◌≤◌, true, false, List, [], ◌∷◌, ◌++◌, length}
use Rattle.sm_base.specs.declared.names.Name.{Name}
use Rattle.sm_disk.specs.Held.{Allows, Held, Keeps, IsSettled, reads}
use Rattle.vg_meta.specs.Changes.{places_after, spare_after}
use Rattle.vg_meta.specs.Roomy.{places, table_alone}
use Rattle.vg_meta.specs.Tables.{VolumeTable}
use Rattle.vg_meta.specs.declared.changes.Change.{Change}
use Rattle.vg_meta.specs.declared.changes.Change.TheVariants.{Create, Remove, Rename, Grow, Cut, Mark}
use Rattle.vg_volumes.specs.Sites.{Site, area_size}
use Rattle.vg_volumes.specs.Stored.{IsChoiceOf, Stored, stored}
use Rattle.vg_volumes.specs.declared.stores.Store.{Ghosts}
use Rattle.sm_log.specs.Logs.{Log}
use Rattle.sm_machine.specs.Disks.{Disk}
use Rattle.sm_run.specs.Between.{IsBetween}
use Rattle.sm_standing.specs.Keeping.{IsKept}
use Rattle.sm_standing.specs.Logs.{IsLogged}
use Rattle.sm_standing.specs.Standing.{disks}
use Rattle.sm_standing.specs.Opened.{applied_all}
use Rattle.sm_ready.specs.Done.{at_rest}
use Rattle.sm_ready.specs.Frames.{HasCommits, IsNoLower}
use Rattle.sm_ready.specs.Known.{Known}
use Rattle.sm_ready.specs.Ready.{IsReady}
use Rattle.sm_ready.specs.Runs.{AllMay, committed}
use Rattle.sm_ready.specs.Sessions.{HasRows}
use Rattle.sm_ready.specs.Stores.{Leaving, MayShow, StoreLeaves, content_in, content_now}

-- One call of a store: a commit; work on the sectors, by what it did at any return and by what it did besides where it succeeded; or a
-- sync.
pub data Call : Type 1 where
  Commit : Change → Call
  Work : (Held → Held → Type 0) → (Held → Held → Type 0) → Call
  Settle : Call

-- the changes of the commits among these calls
abbrev pub changes : List Call → List Change
changes [] = []
changes (Commit c ∷ cs) = c ∷ changes cs
changes (Work did done ∷ cs) = changes cs
changes (Settle ∷ cs) = changes cs

-- the calls that make these changes, by a commit each
abbrev pub commits : List Change → List Call
commits [] = []
commits (c ∷ cs) = Commit c ∷ commits cs

-- each of these calls is a commit
abbrev pub AreCommits : List Call → Type 0
AreCommits [] = Unit {0}
AreCommits (Commit c ∷ cs) = AreCommits cs
AreCommits (Work did done ∷ cs) = ⊥
AreCommits (Settle ∷ cs) = ⊥

-- ---- what a stop leaves, and what they make

-- a store with these sectors in place of its own
abbrev pub worked : Stored → Held → Stored
worked x area = record { site = x.site; table = x.table; area = area }

-- a store behind a sync: it holds what a read gave, and nothing is pending
abbrev pub settled : Stored → Stored
settled x = worked x (at_rest (reads x.area))

-- A stop among these calls leaves this table and these sectors: it leaves a choice of what the store held in front of the first call or
-- behind any of them that succeeded, or of what work had done that did not come to its end.
abbrev pub IsAmong : Stored → List Call → VolumeTable → (ℕ → List ℕ) → Type 0
IsAmong x [] t image = IsChoiceOf x t image
IsAmong x (Commit c ∷ cs) t image = IsChoiceOf x t image ⊎ IsAmong (committed x c) cs t image
IsAmong x (Work did done ∷ cs) t image =
    IsChoiceOf x t image ⊎ ((area : Held) × did x.area area × (IsChoiceOf (worked x area) t image ⊎ (done x.area area × IsAmong (worked x area) cs t image)))
IsAmong x (Settle ∷ cs) t image = IsChoiceOf x t image ⊎ IsAmong (settled x) cs t image

-- these calls, each of which succeeded, lead from the first store to the second
abbrev pub Ran : Stored → List Call → Stored → Type 0
Ran x [] y = y ≡ x
Ran x (Commit c ∷ cs) y = Ran (committed x c) cs y
Ran x (Work did done ∷ cs) y = (area : Held) × did x.area area × done x.area area × Ran (worked x area) cs y
Ran x (Settle ∷ cs) y = Ran (settled x) cs y

-- ---- what a command owes of its calls

-- whatever a stop leaves of a store with this table and these sectors is fine
abbrev pub IsFine : Leaving → Stored → Type 0
IsFine Fine x = (image : ℕ → List ℕ) → Allows (area_size x.site) x.area image → Fine x.table image

-- From this store on, each moment behind the first is fine, and behind the last call the store is as wanted. A sync makes no moment that
-- was not there before.
abbrev pub GoesOn : Leaving → (Stored → Type 0) → Stored → List Call → Type 0
GoesOn Fine End x [] = End x
GoesOn Fine End x (Commit c ∷ cs) = IsFine Fine (committed x c) × GoesOn Fine End (committed x c) cs
GoesOn Fine End x (Work did done ∷ cs) =
    ((area : Held) → did x.area area → IsFine Fine (worked x area)) × ((area : Held) → did x.area area → done x.area area → GoesOn Fine End (worked x area) cs)
GoesOn Fine End x (Settle ∷ cs) = GoesOn Fine End (settled x) cs

-- each moment among these calls is fine, the first too, and behind the last of them the store is as wanted
pub record GoesWell (Fine : Leaving) (End : Stored → Type 0) (x : Stored) (calls : List Call) : Type 0 where
  pub first : IsFine Fine x
  pub next : GoesOn Fine End x calls

-- ---- a run of calls over a store

-- so many spare rows, and so many spare places of each volume, are enough for a change
abbrev pub IsEnoughFor : ℕ → (Name → ℕ) → Change → Type 0
IsEnoughFor spare_rows spare_places (Create name fresh extents) = 0 < spare_rows
IsEnoughFor spare_rows spare_places (Remove name) = Unit {0}
IsEnoughFor spare_rows spare_places (Rename from to) = Unit {0}
IsEnoughFor spare_rows spare_places (Grow name extents) = length extents ≤ spare_places name
IsEnoughFor spare_rows spare_places (Cut name keep) = Unit {0}
IsEnoughFor spare_rows spare_places (Mark name tag on) = Unit {0}

-- so many spare rows, and so many spare places of each volume, are enough for these changes, one after the other
abbrev pub RoomFor : ℕ → (Name → ℕ) → List Change → Type 0
RoomFor spare_rows spare_places [] = Unit {0}
RoomFor spare_rows spare_places (c ∷ cs) = IsEnoughFor spare_rows spare_places c × RoomFor (spare_after spare_rows c) (places_after spare_places c) cs

-- what these calls ask of a store: commits may be made, each change is allowed in its turn, and there is room for it
pub record CanRun {S : Type 0} (g : Ghosts S) (calls : List Call) (s : S) : Type 0 where
  pub usable : g.failed s ≡ false
  pub allowed : AllMay (g.site s).count (table_alone (g.table s)) (changes calls)
  pub room : RoomFor (g.table s).spare (places (g.table s)) (changes calls)

-- What these calls did to a store. At any return a stop leaves what it leaves among them. Where all of them succeeded (ok) the store is as
-- they make it, and the room that was enough for these changes and others is enough for the others. Where they are commits alone what is
-- held is kept, and behind one that failed no further commit is made.
pub record DoesRun {S : Type 0} (g : Ghosts S) (calls : List Call) (old new : S) (ok : Type 0) : Type 0 where
  pub site : g.site new ≡ g.site old
  pub faults : g.faults old ≤ g.faults new
  pub few : HasCommits (length (changes calls)) (table_alone (g.table old)) (table_alone (g.table new))
  pub no_lower : IsNoLower (table_alone (g.table old)) (table_alone (g.table new))
  pub beside : g.told → Keeps (g.beside old) (g.beside new)
  pub left : g.told → (t : VolumeTable) (image : ℕ → List ℕ) → StoreLeaves g new t image → IsAmong (stored g old) calls t image
  pub keeps : AreCommits calls → g.told → Keeps (g.area old) (g.area new)
  pub stuck : AreCommits calls → (ok → ⊥) → g.failed new ≡ true
  pub table : ok → table_alone (g.table new) ≡ applied_all (table_alone (g.table old)) (changes calls)
  pub usable : ok → g.failed new ≡ false
  pub room : ok → (cs : List Change) → RoomFor (g.table old).spare (places (g.table old)) (changes calls ++ cs) → RoomFor (g.table new).spare (places (g.table new)) cs
  pub rows : ok → HasRows (g.table old) → HasRows (g.table new)
  pub ran : ok → g.told → Ran (stored g old) calls (stored g new)

-- ---- what a command shows

-- what a stop leaves is kept, shows disks between those from before and those from after, and has these logs
abbrev pub ShowsBetween : Site → Leaving → List Disk → List Disk → List Log → Leaving
ShowsBetween s before was ds ls t image =
    IsKept (content_in s t image) × IsBetween (MayShow s before) was ds (disks (content_in s t image)) × IsLogged (content_in s t image) ls

-- a store is ready for what is in memory, with nothing pending, and a read gives these disks
pub record IsReadyWith (m : Known) (ds : List Disk) (x : Stored) : Type 0 where
  pub ready : IsReady x.site x.table x.area m
  pub settled : IsSettled x.area
  pub shown : disks (content_now x.site x.table x.area) ≡ ds

-- ---- calls that no list in a contract can name, as those of a loop

-- some calls were made, none of which failed: whatever a stop leaves is fine, and the store is as wanted by now
pub record IsSoFar {S : Type 0} (g : Ghosts S) (Fine : Leaving) (Now : Stored → Type 0) (old new : S) : Type 0 where
  pub site : g.site new ≡ g.site old
  pub faults : g.faults old ≤ g.faults new
  pub usable : g.failed new ≡ false
  pub beside : g.told → Keeps (g.beside old) (g.beside new)
  pub left : g.told → (t : VolumeTable) (image : ℕ → List ℕ) → StoreLeaves g new t image → Fine t image
  pub now : g.told → Now (stored g new)
