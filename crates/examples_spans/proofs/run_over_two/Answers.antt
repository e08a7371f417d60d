use Rattle.examples_spans.proofs.KeptLaws.{device_kept, parts_kept, run_keeps}
use Rattle.examples_spans.proofs.run_over_two.Goals as goal

pub returns-clause-run : goal.returns-clause-run
returns-clause-run c = λ asks kept. c.lvhd.ensures.run asks (tt, tt) (device_kept c.args.disk.first c.args.disk.second kept)

pub returns-clause-kept : goal.returns-clause-kept
returns-clause-kept c = λ asks kept.
    let did = c.lvhd.ensures.run asks (tt, tt) (device_kept c.args.disk.first c.args.disk.second kept) in
    parts_kept c.lvhd.result.1.first c.lvhd.result.1.second _ c.lvhd.ensures.size (run_keeps _ c.lvhd.result.0 did)
