use Rattle.std.proofs.Common.{ℕ, List, [], ◌∷◌, false}
use Rattle.sm_base.specs.declared.names.Name.TheVariants.{Leaf, Old, Vhd}
use Rattle.vg_meta.specs.declared.changes.Change.TheVariants.{Mark, Remove, Rename}
use Rattle.vg_meta.specs.declared.changes.Tag.TheVariants.{Hidden}
use Rattle.sm_mgt.proofs.ClearLaws.{on_err}
use Rattle.sm_calls.specs.Calls.{Call, commits}
use Rattle.sm_calls.proofs.StoreLaws.{can_front, can_next, run_front, run_then}
use Rattle.gc_leaf.proofs.runs.run.Goals as goal

-- the first three, and the last two
abbrev front : List ℕ → List ℕ → List Call
front l p = commits (Rename (Vhd l) (Old l) ∷ Rename (Vhd p) (Vhd l) ∷ Mark (Vhd l) Hidden false ∷ [])

abbrev back : List ℕ → List ℕ → List Call
back l p = commits (Remove (Old l) ∷ Remove (Leaf l p) ∷ [])

pub commit_three-requires : goal.commit_three-requires
commit_three-requires g c =
    can_front (front c.args.leaf c.args.parent) (back c.args.leaf c.args.parent) c.requires

pub returns-in_err-commit_three-clause-cut : goal.returns-in_err-commit_three-clause-cut
returns-in_err-commit_three-clause-cut g c =
    on_err _ (run_front (front c.args.leaf c.args.parent) (back c.args.leaf c.args.parent)
    c.in_err-commit_three.ensures.cut)

pub commit_two-requires : goal.commit_two-requires
commit_two-requires g c =
    can_next (front c.args.leaf c.args.parent) (back c.args.leaf c.args.parent) tt c.requires
    c.in_ok-commit_three.ensures.run

pub returns-in_err-commit_two-clause-cut : goal.returns-in_err-commit_two-clause-cut
returns-in_err-commit_two-clause-cut g c =
    on_err _ (run_then (front c.args.leaf c.args.parent) (back c.args.leaf c.args.parent) tt
    c.in_ok-commit_three.ensures.run c.in_err-commit_two.ensures.cut)

pub returns-clause-run : goal.returns-clause-run
returns-clause-run g c =
    run_then (front c.args.leaf c.args.parent) (back c.args.leaf c.args.parent) tt
    c.in_ok-commit_three.ensures.run c.in_ok-commit_two.ensures.run
