use Rattle.std.proofs.Common.{sym, ap, ◌∙◌}
use Rattle.std.specs.Ordering.{is_lt}
use Rattle.sm_base.specs.declared.names.Name.{Name}
use Rattle.sm_base.specs.Names.{name_cmp}
use Rattle.vg_meta.proofs.PushLaws.{follows_last}
use Rattle.vg_meta.proofs.reading.follows.Goals as goal

pub returns-in-Some : goal.returns-in-Some
returns-in-Some c =
    follows_last c.args.volumes.now c.in-Some.last.now c.args.name.now c.is_lt.result c.requires (sym c.in-Some.ensures.value)
    (c.is_lt.ensures ∙ ap is_lt (c.compare.ensures ∙ ap (λ (m : Name). name_cmp m c.args.name.now) c.name.ensures.name))
