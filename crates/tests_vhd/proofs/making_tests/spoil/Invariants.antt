use Rattle.std.proofs.Common.{◌≡◌}
use Rattle.tests_vhd.proofs.making_tests.spoil.Given as goal

abbrev pub invariant-loop-at : goal.invariant-loop-at
invariant-loop-at g l = g.S.Store.failed l.store ≡ g.S.Store.failed l.initial.store
