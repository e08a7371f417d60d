-- What taking a command did, with what it does to logs.
use Rattle.std.specs.Prelude.{◌≡◌, ◌⊎◌, ℕ, true, List, None, Result, IfOk, OnOk}
use Rattle.sm_base.specs.declared.faults.Failed.{Failed}
use Rattle.sm_base.specs.declared.refusals.Refusal.TheVariants.{NoMemory}
use Rattle.sm_disk.specs.Held.{Held, IsSettled}
use Rattle.vg_meta.specs.Roomy.{table_alone}
use Rattle.vg_meta.specs.Tables.{VolumeTable}
use Rattle.vg_volumes.specs.Sites.{Site}
use Rattle.vg_volumes.specs.declared.stores.Store.{Ghosts}
use Rattle.sm_machine.specs.declared.commands.Command.{Command}
use Rattle.sm_machine.specs.declared.replies.Reply.{Reply}
use Rattle.sm_machine.specs.declared.replies.Reply.TheVariants.{No}
use Rattle.sm_machine.specs.Runs.{is_accepted, is_settling}
use Rattle.sm_machine.specs.Steps.{Outcome}
use Rattle.sm_machine.specs.Tracking.{tracked_step}
use Rattle.sm_run.specs.Between.{IsBetween}
use Rattle.sm_standing.specs.Keeping.{IsKept}
use Rattle.sm_standing.specs.LogChecks.{log_fault}
use Rattle.sm_standing.specs.Standing.{disks}
use Rattle.sm_ready.specs.Known.{Known, known}
use Rattle.sm_ready.specs.Ready.{IsReady}
use Rattle.sm_ready.specs.Sessions.{state_in, store_state}
use Rattle.sm_ready.specs.Stores.{Leaving, MayShow, StoreLeaves, content_in}
use Rattle.sm_ready.specs.declared.memory.Memory.{Memory}
use Rattle.sm_tracking.specs.Tracking.{IsLoggedBetween}
use Rattle.sm_session.specs.Truth.{AreTold, LeavesTold}

-- The answer and the state are these, or memory was wanting and all is as it was. At an answer the sectors are as memory
-- says, and behind a command that makes all last nothing is pending. Whatever a stop leaves is kept, shows disks
-- between those from before and those from after, has logs between those of memory and those from after, and passes the check of logs. What its
-- logs tell is true of all that a stop may show, where what those of memory told was.
pub record HasSteppedTo (o : Outcome) (s : Site) (command : Command) (t : VolumeTable) (area : Held) (m : Known) (u : VolumeTable) (now : Held) (n : Known) (before leaves : Leaving) (result : Result Reply Failed) : Type 0 where
  pub reply : IfOk result (λ r. ((r ≡ No NoMemory) × (state_in s u now n ≡ state_in s t area m)) ⊎ ((r ≡ o.reply) × (state_in s u now n ≡ o.after)))
  pub ready : OnOk result (IsReady s u now n)
  pub settled : IfOk result (λ r. is_accepted r ≡ true → is_settling command ≡ true → IsSettled now)
  pub crash : (v : VolumeTable) (image : ℕ → List ℕ) → leaves v image → IsKept (content_in s v image)
      × IsBetween (MayShow s before) (state_in s t area m).disks o.after.disks (disks (content_in s v image))
  pub logged : (v : VolumeTable) (image : ℕ → List ℕ) → leaves v image → IsLoggedBetween (content_in s v image) m.logs o.after.shape.logs
  pub passes : (v : VolumeTable) (image : ℕ → List ℕ) → leaves v image → log_fault (content_in s v image) ≡ None
  pub truthful : AreTold s before (state_in s t area m).shape → LeavesTold s leaves

-- of a store with its memory: a call takes this command to what the machine makes of it, with what it does to logs
abbrev pub StoreSteps : {S : Type 0} → Ghosts S → Command → S → Memory → S → Memory → Result Reply Failed → Type 0
StoreSteps g command old m new n result =
    HasSteppedTo (tracked_step (store_state g old m) command) (g.site old) command (table_alone (g.table old)) (g.area old) (known m) (table_alone (g.table new)) (g.area new) (known n) (StoreLeaves g old) (StoreLeaves g new) result
