use Rattle.std.proofs.Common.{◌≡◌, map, drop}
use Rattle.common_laws.specs.Lists.{first_some}
use Rattle.vg_meta.specs.Tables.{VolumeTable}
use Rattle.vg_volumes.specs.Sites.{Site}
use Rattle.sm_ready.specs.Known.{known, shape_in}
use Rattle.sm_ready.specs.Orderly.{IsOrderly}
use Rattle.sm_ready.specs.Ready.{IsTidy}
use Rattle.gc_plan.proofs.PlanLaws.{removed}
use Rattle.gc_plan.proofs.finding.removal.Given as goal

abbrev pub invariant-loop-row : goal.invariant-loop-row
invariant-loop-row l = (s : Site) (t : VolumeTable) → IsOrderly s t (known l.memory) → IsTidy t (known l.memory) →
    first_some (map (removed (shape_in s t (known l.memory))) (drop l.row-index l.rows)) ≡ first_some (map (removed (shape_in s t (known l.memory))) l.rows)
