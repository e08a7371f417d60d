use Rattle.std.proofs.Common.{sym, subst}
use Rattle.sm_base.specs.Names.{IsName}
use Rattle.vhd_image.specs.Bodies.{volume_name}
use Rattle.vhd_image.specs.declared.images.Body.{Body}
use Rattle.cmd_create.proofs.making.add_image.Goals as goal

pub add-requires-clause-name : goal.add-requires-clause-name
unfolding IsName
add-requires-clause-name c = subst (λ (b : Body). IsName (volume_name b)) (sym c.raw.ensures) c.requires.proper
