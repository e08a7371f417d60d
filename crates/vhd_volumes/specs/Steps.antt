-- What a store holds in one volume, and what a step did to it, where the store tells its content.
use Rattle.std.specs.Prelude.{ℕ, List}
use Rattle.sm_base.specs.declared.names.Name.{Name}
use Rattle.sm_disk.specs.Held.{Held, reads}
use Rattle.vg_volumes.specs.Stored.{stored, held_in}
use Rattle.vg_volumes.specs.declared.stores.Store.{Ghosts}

-- this is so of what the volume holds
abbrev pub Holds : {S : Type 0} → Ghosts S → Name → (Held → Type 0) → S → Type 0
Holds g name P s = g.told → P (held_in (stored g s) name)

-- this is so of what a read of the volume gives
abbrev pub Gives : {S : Type 0} → Ghosts S → Name → ((ℕ → List ℕ) → Type 0) → S → Type 0
Gives g name P s = g.told → P (reads (held_in (stored g s) name))

-- this happened to what the volume holds
abbrev pub Does : {S : Type 0} → Ghosts S → Name → (Held → Held → Type 0) → S → S → Type 0
Does g name P old new = g.told → P (held_in (stored g old) name) (held_in (stored g new) name)
