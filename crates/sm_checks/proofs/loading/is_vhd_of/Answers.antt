use Rattle.std.proofs.Common.{ap, arith, sym, ◌∙◌}
use Rattle.sm_base.specs.declared.names.Name.TheVariants.{Vhd}
use Rattle.sm_machine.specs.Shapes.{same_image}
use Rattle.sm_checks.proofs.ReadLaws.{not_vhd}
use Rattle.sm_checks.proofs.loading.is_vhd_of.Goals as goal

pub returns-in-Vhd : goal.returns-in-Vhd
unfolding same_image
returns-in-Vhd c = c.eq.ensures ∙ sym (ap (same_image (Vhd c.args.image.now)) c.in-Vhd.is)

pub returns-in-Mgt : goal.returns-in-Mgt
returns-in-Mgt c = sym (not_vhd c.args.image.now c.args.name.now (λ v is. grind (arith, is, c.in-Mgt.is)))
