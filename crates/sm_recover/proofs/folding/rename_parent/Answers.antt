use Rattle.std.proofs.Common.{false, [], ◌∷◌}
use Rattle.sm_base.specs.declared.names.Name.TheVariants.{Vhd}
use Rattle.vg_meta.specs.declared.changes.Change.TheVariants.{Mark, Rename}
use Rattle.vg_meta.specs.declared.changes.Tag.TheVariants.{Hidden}
use Rattle.sm_recover.proofs.StepLaws.{front_part, then_part}
use Rattle.sm_recover.proofs.folding.rename_parent.Goals as goal

pub returns-in_err-commit_where-clause-part : goal.returns-in_err-commit_where-clause-part
returns-in_err-commit_where-clause-part g c = front_part (Rename (Vhd c.args.parent) (Vhd c.args.leaf) ∷ []) (Mark (Vhd c.args.leaf) Hidden false ∷ []) c.commit_where.ensures.part

pub returns-in_err-commit_where-2-clause-part : goal.returns-in_err-commit_where-2-clause-part
returns-in_err-commit_where-2-clause-part g c =
    then_part (Rename (Vhd c.args.parent) (Vhd c.args.leaf) ∷ []) (Mark (Vhd c.args.leaf) Hidden false ∷ []) c.commit_where.ensures.part c.in_ok-commit_where.ensures.all c.commit_where-2.ensures.part

pub returns-clause-part : goal.returns-clause-part
returns-clause-part g c =
    then_part (Rename (Vhd c.args.parent) (Vhd c.args.leaf) ∷ []) (Mark (Vhd c.args.leaf) Hidden false ∷ []) c.commit_where.ensures.part c.in_ok-commit_where.ensures.all c.commit_where-2.ensures.part
