use Rattle.std.proofs.Common.{arith}
use Rattle.vg_meta.proofs.ReadLaws.{extents_cut}
use Rattle.tests_reader.proofs.volumes.listed_at.Goals as goal

pub returns-in_default-number_at-clause-none : goal.returns-in_default-number_at-clause-none
returns-in_default-number_at-clause-none c =
    extents_cut c.args.bytes.now c.loop.rest.now c.in-Some.count c.loop.extents.items c.loop.invariant.read (omega arith)
    (omega (arith, c.loop.invariant.number, c.loop-test.true)) c.in_default-number_at.ensures.none
