-- What a session knows of its logs from step to step.
use Rattle.std.proofs.Common.{◌≡◌, ◌⊎◌, ⊎_elim, Ok, sym, subst}
use Rattle.std.proofs.Math.Logic.{∥∥₁_elim, ∥∥₁_map}
use Rattle.std.proofs.Props.{props}
use Rattle.vg_meta.specs.Roomy.{table_alone}
use Rattle.vg_volumes.specs.Sites.{Site}
use Rattle.vg_volumes.specs.declared.stores.Store.{Ghosts}
use Rattle.sm_machine.specs.declared.commands.Command.{Command}
use Rattle.sm_machine.specs.declared.replies.Reply.{Reply}
use Rattle.sm_machine.specs.Steps.{State}
use Rattle.sm_machine.specs.Tracking.{AreGoodLogs, tracked_step}
use Rattle.sm_machine.specs.WellFormed.{IsWellFormed}
use Rattle.sm_machine.proofs.TrackedLogs.{tracked_step_keeps_logs}
use Rattle.sm_ready.specs.Does.{store_shape}
use Rattle.sm_ready.specs.Known.{known, shape_in}
use Rattle.sm_ready.specs.Sessions.{store_state}
use Rattle.sm_ready.specs.declared.memory.Memory.{Memory}
use Rattle.sm_session.specs.Stepped.{StoreSteps}

-- a step keeps them good
good_state : (σ τ : State) (c : Command) (P Q : Type 0) → (P × (τ ≡ σ)) ⊎ (Q × (τ ≡ (tracked_step σ c).after)) → ∥ IsWellFormed σ.shape ∥₁ → ∥ AreGoodLogs σ.shape ∥₁ → ∥ AreGoodLogs τ.shape ∥₁
good_state σ τ c P Q h well good = ⊎_elim
    (λ poor. subst (λ (z : State). ∥ AreGoodLogs z.shape ∥₁) (sym poor.1) good)
    (λ whole. subst (λ (z : State). ∥ AreGoodLogs z.shape ∥₁) (sym whole.1) (∥∥₁_elim well (hlevel props) (λ w. ∥∥₁_map good (λ x. tracked_step_keeps_logs σ c w x))))
    h

pub good_stepped : {S : Type 0} (g : Ghosts S) (a b : S) (m n : Memory) (c : Command) (r : Reply) → g.site b ≡ g.site a → ∥ IsWellFormed (store_shape g a m) ∥₁ → ∥ AreGoodLogs (store_shape g a m) ∥₁ → StoreSteps g c a m b n (Ok r)
    → ∥ AreGoodLogs (store_shape g b n) ∥₁
good_stepped g a b m n c r site well good t =
    subst (λ (s : Site). ∥ AreGoodLogs (shape_in s (table_alone (g.table b)) (known n)) ∥₁) (sym site)
    (good_state (store_state g a m) _ c _ _ t.reply well good)
