use Rattle.std.proofs.Common.{Some, sym, ap, ◌∙◌}
use Rattle.sm_machine.specs.Refusals.{wanted}
use Rattle.sm_machine.specs.Shapes.{is_rw}
use Rattle.sm_ready.specs.Known.{known, shape_in}
use Rattle.sm_ready.proofs.LookLaws.{mode_found}
use Rattle.sm_ready.proofs.needs.wanted.Goals as goal

pub returns-in-Some-Rw-clause-exact : goal.returns-in-Some-Rw-clause-exact
returns-in-Some-Rw-clause-exact c = λ within s t same o tidy.
    let m = known c.args.memory.now in
    c.thick.ensures.exact within s t m same ∙ sym (ap (λ x. wanted (shape_in s t m) (is_rw x) c.args.sectors) (mode_found s t m c.args.disk.now ∙ sym c.mode.ensures ∙ c.in-Some-Rw.is ∙ ap Some c.in-Some-Rw.field-0-is))

pub returns-in-Some-Ro-clause-exact : goal.returns-in-Some-Ro-clause-exact
returns-in-Some-Ro-clause-exact c = λ within s t same o tidy.
    let m = known c.args.memory.now in
    c.thin.ensures.exact s t m same ∙ sym (ap (λ x. wanted (shape_in s t m) (is_rw x) c.args.sectors) (mode_found s t m c.args.disk.now ∙ sym c.mode.ensures ∙ c.in-Some-Ro.is ∙ ap Some c.in-Some-Ro.field-0-is))

pub returns-in-None-clause-exact : goal.returns-in-None-clause-exact
returns-in-None-clause-exact c = λ within s t same o tidy.
    let m = known c.args.memory.now in
    c.thin-in-None.ensures.exact s t m same ∙ sym (ap (λ x. wanted (shape_in s t m) (is_rw x) c.args.sectors) (mode_found s t m c.args.disk.now ∙ sym c.mode.ensures ∙ c.in-None.is))
