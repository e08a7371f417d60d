use Rattle.std.proofs.Common.{sym, ap, ◌∙◌}
use Rattle.std.specs.Option.{option_copied}
use Rattle.sm_machine.specs.Refusals.{of_some}
use Rattle.sm_machine.specs.Shapes.{DiskRecord}
use Rattle.sm_ready.specs.Known.{known}
use Rattle.sm_ready.proofs.LookLaws.{record_is}
use Rattle.sm_refusals.proofs.causes.is_snapshot.Goals as goal

pub returns-in-Some : goal.returns-in-Some
returns-in-Some c = λ s t o tidy. sym (ap (of_some (λ (r : DiskRecord). r.read_only)) (record_is s t (known c.args.memory.now) c.args.disk.now _ o tidy (sym c.find.ensures.found ∙ ap option_copied c.in-Some.is)))

pub returns-in-None : goal.returns-in-None
returns-in-None c = λ s t o tidy. sym (ap (of_some (λ (r : DiskRecord). r.read_only)) (record_is s t (known c.args.memory.now) c.args.disk.now _ o tidy (sym c.find.ensures.found ∙ ap option_copied c.in-None.is)))
