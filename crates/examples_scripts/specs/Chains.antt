-- A script that fills a chain, and the collector's steps that fold it.
use Rattle.std.specs.Prelude.{ℕ, zero, suc, Bool, true, false, List, [], ◌∷◌, codes}
use Rattle.sm_base.specs.declared.operations.Plan.{Plan}
use Rattle.sm_base.specs.declared.operations.Plan.TheVariants as plan
use Rattle.sm_machine.specs.Collector.{next_step}
use Rattle.sm_machine.specs.Steps.{State}
use Rattle.sm_machine.specs.Tracking.{step_line}
use Rattle.examples_scripts.specs.Scripts.{Script, line, new, after}

-- a snapshot is made and deleted so many times
abbrev pub again : ℕ → Script → Script
again zero rest = rest
again (suc n) rest =
    line (codes "snapshot 11111111-1111-4111-8111-111111111111 22222222-2222-4222-8222-222222222222") (codes "ok") ∷
    line (codes "delete 22222222-2222-4222-8222-222222222222") (codes "ok") ∷
    again n rest

-- thirty images in one chain, and no room for one more
abbrev pub filling : Script
filling =
    line (codes "create 11111111-1111-4111-8111-111111111111 4096 vhd x") (codes "ok 4096") ∷
    again 29 (line (codes "snapshot 11111111-1111-4111-8111-111111111111 22222222-2222-4222-8222-222222222222") (codes "no ChainTooLong depth 30") ∷ [])

abbrev pub filled : State
filled = after new filling

abbrev pub is_idle : Plan → Bool
is_idle plan.Idle = true
is_idle _ = false

-- the repository after a collector's line
abbrev pub after_one : State → State
after_one σ = (step_line σ (codes "gc")).after

-- whether each of so many collector's lines is answered idle
abbrev pub gc_is_idle : ℕ → State → List Bool
gc_is_idle zero σ = []
gc_is_idle (suc n) σ = is_idle (next_step σ.shape) ∷ gc_is_idle n (after_one σ)

abbrev pub after_gc : ℕ → State → State
after_gc zero σ = σ
after_gc (suc n) σ = after_gc n (after_one σ)

abbrev pub one_more : Script
one_more = line (codes "snapshot 11111111-1111-4111-8111-111111111111 22222222-2222-4222-8222-222222222222") (codes "ok") ∷ []
