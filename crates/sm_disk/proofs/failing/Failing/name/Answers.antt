use Rattle.sm_disk.proofs.FailingLaws.{names_from_append}
use Rattle.sm_disk.proofs.failing.Failing.name.Goals as goal
use Rattle.sm_disk.proofs.failing.Failing.name.Goals.{in-Ok, in-Err}

pub returns-clause-named : goal.returns-clause-named
returns-clause-named c =
    elim c.match-extend_from_slice.branch [
      | in-Ok w ↦ rw (w.result-is, w.in-Ok.ensures.items, ← c.self.view_is) (names_from_append _ c.args.calls.now)
      | in-Err w ↦ rw w.result-is tt
    ]
