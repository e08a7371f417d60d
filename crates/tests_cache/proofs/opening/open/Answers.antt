use Rattle.tests_cache.proofs.opening.open.Goals as goal

pub begin-requires-clause-settled : goal.begin-requires-clause-settled
begin-requires-clause-settled c = λ told p. c.in_ok-cache.ensures.settled _
