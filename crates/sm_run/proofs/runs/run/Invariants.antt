use Rattle.std.proofs.Common.{◌≡◌, ◌≤◌, false}
use Rattle.sm_disk.specs.Held.{Keeps}
use Rattle.sm_run.specs.Runs.{BeginsSettled}
use Rattle.sm_run.proofs.RunLaws.{SoFar}
use Rattle.sm_run.proofs.runs.run.Given as goal

abbrev pub invariant-lines : goal.invariant-lines
invariant-lines g l = record {
  run : g.M.Steps.told → g.M.Steps.ready l.fn.machine → g.M.Steps.kept l.fn.machine
      → BeginsSettled (g.M.Steps.state l.fn.machine) (g.M.Steps.leaves l.fn.machine)
      → SoFar (g.M.Steps.state l.fn.machine) (g.M.Steps.state l.machine) (g.S.Source.content l.fn.source) (g.S.Source.content l.source)
      (g.K.Sink.content l.fn.sink) (g.K.Sink.content l.sink) l.room (g.M.Steps.leaves l.machine) (g.M.Steps.ready l.machine) (g.M.Steps.kept l.machine);
  ready : g.M.Steps.told → g.M.Steps.ready l.fn.machine → g.M.Steps.ready l.machine;
  telling : g.M.Steps.told → g.M.Steps.ready l.fn.machine → g.M.Steps.telling l.fn.machine → g.M.Steps.telling l.machine;
  going_on : g.M.Steps.broken l.fn.machine ≡ false → g.M.Steps.broken l.machine ≡ false;
  site : g.M.Steps.site l.machine ≡ g.M.Steps.site l.fn.machine;
  beside : g.M.Steps.told → Keeps (g.M.Steps.beside l.fn.machine) (g.M.Steps.beside l.machine);
  calm : g.M.Steps.broken l.fn.machine ≡ false → g.M.Steps.faults l.machine ≡ g.M.Steps.faults l.fn.machine;
  counts : g.M.Steps.faults l.fn.machine ≤ g.M.Steps.faults l.machine;
  source_calm : g.S.Source.faults l.source ≡ g.S.Source.faults l.fn.source;
  sink_calm : g.K.Sink.faults l.sink ≡ g.K.Sink.faults l.fn.sink;
}

abbrev pub decreases-lines : goal.decreases-lines
decreases-lines g l = l.room
