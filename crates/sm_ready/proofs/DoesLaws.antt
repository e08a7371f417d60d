-- A command that was done is taken.
use Rattle.std.proofs.Common.{◌≡◌, None, Ok, Err, sym, ap, ◌∙◌}
use Rattle.sm_base.specs.declared.faults.Failed.{Failed}
use Rattle.vg_volumes.specs.declared.stores.Store.{Ghosts}
use Rattle.sm_machine.specs.declared.commands.Command.{Command}
use Rattle.sm_machine.specs.declared.replies.Reply.{Reply}
use Rattle.sm_machine.specs.Refusals.{refusal}
use Rattle.sm_machine.specs.Steps.{reply_to}
use Rattle.vg_meta.specs.Roomy.{table_alone}
use Rattle.sm_ready.specs.Known.{known, shape_in}
use Rattle.sm_ready.specs.Does.{ShapesAs, StoreDoes, store_shape}
use Rattle.sm_ready.specs.Sessions.{store_state}
use Rattle.sm_ready.specs.Taken.{StoreTakes}
use Rattle.sm_ready.specs.declared.memory.Memory.{Memory}
use Rattle.sm_ready.proofs.OwnLaws.{step_shape}
use Rattle.sm_ready.proofs.TakenLaws.{IsTold, taken_accepted, taken_stopped}

module _ {S : Type 0} {g : Ghosts S} {a b : S} {m : Memory} (h : IsTold g a m) (c : Command) (n : Memory) {ok : Type 0} (passes : refusal (store_shape g a m) c ≡ None) (done : StoreDoes g c a m b n ok) where
  -- it did its work, and is answered so
  pub does_ok : (r : Reply) → r ≡ reply_to (store_state g a m).disks (store_state g a m).shape c → ok → g.site b ≡ g.site a → ShapesAs g c a m b n → StoreTakes g c a m b n (Ok r)
  does_ok r replied fine site shaped = taken_accepted h c n passes done r replied fine (ap (λ s. shape_in s (table_alone (g.table b)) (known n)) (sym site) ∙ shaped ∙ sym (step_shape (store_state g a m) c passes))

  -- it failed
  pub does_err : (f : Failed) → StoreTakes g c a m b n (Err f)
  does_err f = taken_stopped h c n passes done f
