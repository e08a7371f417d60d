-- The two laws for a run that began with a shape of which no more than that it is well-formed, with good logs, is known.
use Rattle.std.proofs.Common.{List}
use Rattle.std.proofs.Math.Logic.{∥∥₁_elim}
use Rattle.std.proofs.Props.{props}
use Rattle.sm_machine.specs.Runs.{Turn}
use Rattle.sm_machine.specs.Steps.{State}
use Rattle.sm_machine.specs.Tracking.{AreGoodLogs, AreOfSnapshots}
use Rattle.sm_machine.specs.WellFormed.{IsWellFormed}
use Rattle.sm_reached.specs.Reached.{NamesNoMore, NamesReached, NotLedBack}
use Rattle.sm_reached.proofs.BackLaws.{back_is_not_told}
use Rattle.sm_reached.proofs.ReachedLaws.{changed_is_reached}

names_known : (σ : State) (turns : List Turn) → ∥ IsWellFormed σ.shape ∥₁ → ∥ AreGoodLogs σ.shape ∥₁ → AreOfSnapshots σ.shape → NamesReached σ turns
names_known σ turns well good m = λ d u n between pieces piece bits r e q. ∥∥₁_elim well (hlevel props) (λ w. ∥∥₁_elim good (hlevel props) (λ g. changed_is_reached σ turns w g m d u n between pieces piece bits r e q))

back_known : (σ : State) (turns : List Turn) → ∥ IsWellFormed σ.shape ∥₁ → ∥ AreGoodLogs σ.shape ∥₁ → AreOfSnapshots σ.shape → NotLedBack σ turns
back_known σ turns well good m = λ d u n between pieces r k. ∥∥₁_elim well (hlevel props) (λ w. ∥∥₁_elim good (hlevel props) (λ g. back_is_not_told σ turns w g m d u n between pieces r k))

pub no_more_known : (σ : State) (turns : List Turn) → ∥ IsWellFormed σ.shape ∥₁ → ∥ AreGoodLogs σ.shape ∥₁ → AreOfSnapshots σ.shape → NamesNoMore σ turns
no_more_known σ turns well good m = λ front rest e. (names_known σ front well good m, back_known σ front well good m)
