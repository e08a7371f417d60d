use Rattle.std.proofs.Common.{sym, ap, ◌∙◌}
use Rattle.std.specs.Option.{option_copied}
use Rattle.sm_machine.specs.Shapes.{top}
use Rattle.sm_ready.proofs.MapLaws.{top_alike}
use Rattle.gc_plan.proofs.ImageLaws.{slots_none, slots_some}
use Rattle.gc_plan.proofs.images.top.Goals as goal

pub returns-in-Some-clause-top : goal.returns-in-Some-clause-top
returns-in-Some-clause-top c =
    let b = c.args.row.now.image in
    let m = c.in-Some.map.now in
    c.top.ensures.top ∙ sym (top_alike m) ∙ ap top (sym (slots_some b m (sym c.map.ensures ∙ ap option_copied c.in-Some.is)))

pub returns-in-None-clause-top : goal.returns-in-None-clause-top
unfolding top
returns-in-None-clause-top c = ap top (sym (slots_none c.args.row.now.image (sym c.map.ensures ∙ ap option_copied c.in-None.is)))
