use Rattle.std.proofs.Common.{◌≡◌, ◌+◌, length}
use Rattle.vg_meta.specs.Tables.{extents_in}
use Rattle.vg_meta.specs.Roomy.{rows_alone}
use Rattle.vg_meta.proofs.ReadSteps.{Read}
use Rattle.vg_meta.proofs.reading.volumes_at.Given as goal

abbrev pub invariant-loop : goal.invariant-loop
invariant-loop l = record {
  so_far : Read l.grammar l.count l.bytes l.rest l.volumes.items l.met.items l.counter;
  left : length (extents_in (rows_alone l.volumes.items)) + l.left ≡ l.count;
}
