use Rattle.std.proofs.Common.{[], ◌∷◌}
use Rattle.sm_base.specs.declared.names.Name.TheVariants.{Leaf, Old}
use Rattle.vg_meta.specs.declared.changes.Change.TheVariants.{Remove}
use Rattle.sm_recover.proofs.StepLaws.{front_part, then_part}
use Rattle.sm_recover.proofs.folding.drop_leaf.Goals as goal

pub returns-in_err-commit_where-clause-part : goal.returns-in_err-commit_where-clause-part
returns-in_err-commit_where-clause-part g c = front_part (Remove (Old c.args.leaf) ∷ []) (Remove (Leaf c.args.leaf c.args.parent) ∷ []) c.commit_where.ensures.part

pub returns-in_err-commit_where-2-clause-part : goal.returns-in_err-commit_where-2-clause-part
returns-in_err-commit_where-2-clause-part g c =
    then_part (Remove (Old c.args.leaf) ∷ []) (Remove (Leaf c.args.leaf c.args.parent) ∷ []) c.commit_where.ensures.part c.in_ok-commit_where.ensures.all c.commit_where-2.ensures.part

pub returns-clause-part : goal.returns-clause-part
returns-clause-part g c =
    then_part (Remove (Old c.args.leaf) ∷ []) (Remove (Leaf c.args.leaf c.args.parent) ∷ []) c.commit_where.ensures.part c.in_ok-commit_where.ensures.all c.commit_where-2.ensures.part
