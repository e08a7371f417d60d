use Rattle.std.proofs.Common.{◌≡◌, map, drop}
use Rattle.vg_meta.specs.Tables.{VolumeTable}
use Rattle.vg_volumes.specs.Sites.{Site}
use Rattle.sm_ready.specs.Known.{known, shape_in}
use Rattle.sm_ready.specs.Orderly.{IsOrderly}
use Rattle.sm_ready.specs.Ready.{IsTidy}
use Rattle.gc_plan.specs.Planning.{lesser}
use Rattle.gc_plan.proofs.PlanLaws.{grown}
use Rattle.gc_plan.proofs.StepLaws.{least_in}
use Rattle.gc_plan.proofs.finding.least_growth.Given as goal

abbrev pub invariant-loop-row : goal.invariant-loop-row
invariant-loop-row l = (s : Site) (t : VolumeTable) → s.geometry ≡ l.geometry → IsOrderly s t (known l.memory) → IsTidy t (known l.memory) →
    lesser l.least (least_in (map (grown l.kind (shape_in s t (known l.memory))) (drop l.row-index l.rows))) ≡ least_in (map (grown l.kind (shape_in s t (known l.memory))) l.rows)
