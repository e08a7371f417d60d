use Rattle.std.proofs.Common.{◌≡◌, ◌≤◌, false}
use Rattle.sm_disk.specs.Held.{Keeps}
use Rattle.sm_machine.specs.Runs.{after_run, ample}
use Rattle.sm_trial.specs.Tallies.{Comes, IsWithin, tally_after, no_replies}
use Rattle.sm_script.specs.Trials.{trial_lines}
use Rattle.sm_trial.proofs.trials.try_lines.Given as goal

abbrev pub invariant-loop-left : goal.invariant-loop-left
invariant-loop-left g l = record {
  comes : g.M.Steps.told → g.M.Steps.ready l.fn.machine → g.M.Steps.kept l.fn.machine
      → Comes (g.M.Steps.state l.machine) l.tally l.left l.trial
      (after_run (g.M.Steps.state l.fn.machine) (ample (trial_lines l.fn.number)))
      (tally_after (g.M.Steps.state l.fn.machine) (ample (trial_lines l.fn.number)) no_replies);
  ready : g.M.Steps.told → g.M.Steps.ready l.fn.machine → g.M.Steps.kept l.fn.machine → g.M.Steps.ready l.machine;
  kept : g.M.Steps.told → g.M.Steps.ready l.fn.machine → g.M.Steps.kept l.fn.machine → g.M.Steps.kept l.machine;
  telling : g.M.Steps.told → g.M.Steps.ready l.fn.machine → g.M.Steps.kept l.fn.machine → g.M.Steps.telling l.fn.machine → g.M.Steps.telling l.machine;
  within : IsWithin l.tally l.left;
  going_on : g.M.Steps.broken l.fn.machine ≡ false → g.M.Steps.broken l.machine ≡ false;
  site : g.M.Steps.site l.machine ≡ g.M.Steps.site l.fn.machine;
  beside : g.M.Steps.told → Keeps (g.M.Steps.beside l.fn.machine) (g.M.Steps.beside l.machine);
  counts : g.M.Steps.faults l.fn.machine ≤ g.M.Steps.faults l.machine;
  calm : g.M.Steps.broken l.fn.machine ≡ false → g.M.Steps.faults l.machine ≡ g.M.Steps.faults l.fn.machine;
}

abbrev pub decreases-loop-left : goal.decreases-loop-left
decreases-loop-left g l = l.left
