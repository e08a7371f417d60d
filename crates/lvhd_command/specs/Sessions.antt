-- What stands in the repository of an open session, by the words of its store: what never changes of it, its table, its content and its
-- state as they are now, and what a stop may leave of it (this project's format).
use Rattle.vg_meta.specs.Roomy.{table_alone}
use Rattle.vg_meta.specs.Tables.{VolumeTable}
use Rattle.vg_volumes.specs.Sites.{Site}
use Rattle.vg_volumes.specs.declared.stores.Store.{Ghosts}
use Rattle.sm_machine.specs.Steps.{State}
use Rattle.sm_machine.specs.Tracking.{AreGoodLogs}
use Rattle.sm_ready.specs.Does.{store_shape}
use Rattle.sm_ready.specs.Sessions.{IsReadyStore, KeepsAll, store_state}
use Rattle.sm_ready.specs.Stores.{Leaving, StoreLeaves, store_content}
use Rattle.sm_session.specs.declared.sessions.Session.{Session}
use Rattle.sm_standing.specs.Contents.{Content}

-- what never changes of a session's repository
abbrev pub site_of : {S : Type 0} {g : Ghosts S} → Session S g → Site
site_of {S} {g} s = g.site s.store

-- the table of a session's repository
abbrev pub table_of : {S : Type 0} {g : Ghosts S} → Session S g → VolumeTable
table_of {S} {g} s = table_alone (g.table s.store)

-- the content that a read of a session's store gives now
abbrev pub content_read : {S : Type 0} {g : Ghosts S} → Session S g → Content
content_read {S} {g} s = store_content g s.store

-- the machine's state of a session: the disks that a read gives now, and the shape of what is in memory
abbrev pub state_of : {S : Type 0} {g : Ghosts S} → Session S g → State
state_of {S} {g} s = store_state g s.store s.memory

-- what a read of a session's store gives of images and records is what is in memory of it, and the logs in memory are those of disks, as they
-- should be
abbrev pub IsReadySession : {S : Type 0} {g : Ghosts S} → Session S g → Type 0
IsReadySession {S} {g} s = IsReadyStore g s.store s.memory × ∥ AreGoodLogs (store_shape g s.store s.memory) ∥₁

-- what a stop may leave of a session's store
abbrev pub session_leaves : {S : Type 0} {g : Ghosts S} → Session S g → Leaving
session_leaves {S} {g} s = StoreLeaves g s.store

-- whatever a stop leaves of a session's store is kept
abbrev pub KeepsSession : {S : Type 0} {g : Ghosts S} → Session S g → Type 0
KeepsSession s = KeepsAll (site_of s) (session_leaves s)
