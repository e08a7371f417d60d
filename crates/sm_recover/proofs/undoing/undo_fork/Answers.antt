use Rattle.std.proofs.Common.{◌≡◌, List, [], ◌∷◌, ◌++◌, sym, subst}
use Rattle.sm_base.specs.declared.names.Name.TheVariants.{Vhd, Clone}
use Rattle.vg_meta.specs.Roomy.{table_alone}
use Rattle.vg_meta.specs.declared.changes.Change.{Change}
use Rattle.vg_meta.specs.declared.changes.Change.TheVariants.{Remove}
use Rattle.sm_standing.specs.Opened.{changes_back, wanted}
use Rattle.sm_recover.specs.Steps.{MakesPart, changes_of_base}
use Rattle.sm_recover.proofs.BackLaws.{planned}
use Rattle.sm_recover.proofs.StepLaws.{front_part, then_part}
use Rattle.sm_recover.proofs.undoing.undo_fork.Goals as goal

pub returns-in_err-commit_where-clause-part : goal.returns-in_err-commit_where-clause-part
returns-in_err-commit_where-clause-part g c =
    let old = c.args.store.now in
    let k = g.S.Store.table old in
    let xs = wanted c.has-has_twin.result (Remove (Vhd c.args.twin.now)) in
    let ys = changes_of_base c.args.disk.now c.image_with-found.result c.has-has_own.result c.is_marked-is_hidden.result in
    let zs : List Change = Remove (Clone c.args.disk.now c.args.base.now c.args.twin.now) ∷ [] in
    let plan : changes_back (table_alone k) (Clone c.args.disk.now c.args.base.now c.args.twin.now) ≡ xs ++ (ys ++ zs) =
    planned k c.args.disk.now c.args.base.now c.args.twin.now c.table.ensures.table c.has-has_twin.ensures c.table-2.ensures.table c.has-has_own.ensures c.table-3.ensures.table c.image_with-found.ensures
    c.table-4.ensures.table c.is_marked-is_hidden.ensures in
    subst (λ cs. MakesPart g.S.Store cs old c.commit_where.new.store) (sym plan)
    (front_part xs (ys ++ zs) c.commit_where.ensures.part)

pub returns-in_err-give_back-clause-part : goal.returns-in_err-give_back-clause-part
returns-in_err-give_back-clause-part g c =
    let old = c.args.store.now in
    let k = g.S.Store.table old in
    let xs = wanted c.has-has_twin.result (Remove (Vhd c.args.twin.now)) in
    let ys = changes_of_base c.args.disk.now c.image_with-found.result c.has-has_own.result c.is_marked-is_hidden.result in
    let zs : List Change = Remove (Clone c.args.disk.now c.args.base.now c.args.twin.now) ∷ [] in
    let plan : changes_back (table_alone k) (Clone c.args.disk.now c.args.base.now c.args.twin.now) ≡ xs ++ (ys ++ zs) =
    planned k c.args.disk.now c.args.base.now c.args.twin.now c.table.ensures.table c.has-has_twin.ensures c.table-2.ensures.table c.has-has_own.ensures c.table-3.ensures.table c.image_with-found.ensures
    c.table-4.ensures.table c.is_marked-is_hidden.ensures in
    subst (λ cs. MakesPart g.S.Store cs old c.give_back.new.store) (sym plan)
    (then_part xs (ys ++ zs) c.commit_where.ensures.part c.in_ok-commit_where.ensures.all (front_part ys zs c.give_back.ensures.part))

pub returns-in_err-commit_where-2-clause-part : goal.returns-in_err-commit_where-2-clause-part
returns-in_err-commit_where-2-clause-part g c =
    let old = c.args.store.now in
    let k = g.S.Store.table old in
    let xs = wanted c.has-has_twin.result (Remove (Vhd c.args.twin.now)) in
    let ys = changes_of_base c.args.disk.now c.image_with-found.result c.has-has_own.result c.is_marked-is_hidden.result in
    let zs : List Change = Remove (Clone c.args.disk.now c.args.base.now c.args.twin.now) ∷ [] in
    let plan : changes_back (table_alone k) (Clone c.args.disk.now c.args.base.now c.args.twin.now) ≡ xs ++ (ys ++ zs) =
    planned k c.args.disk.now c.args.base.now c.args.twin.now c.table.ensures.table c.has-has_twin.ensures c.table-2.ensures.table c.has-has_own.ensures c.table-3.ensures.table c.image_with-found.ensures
    c.table-4.ensures.table c.is_marked-is_hidden.ensures in
    subst (λ cs. MakesPart g.S.Store cs old c.commit_where-2.new.store) (sym plan)
    (then_part xs (ys ++ zs) c.commit_where.ensures.part c.in_ok-commit_where.ensures.all (then_part ys zs c.give_back.ensures.part c.in_ok-give_back.ensures.all c.commit_where-2.ensures.part))

pub returns-clause-part : goal.returns-clause-part
returns-clause-part g c =
    let old = c.args.store.now in
    let k = g.S.Store.table old in
    let xs = wanted c.has-has_twin.result (Remove (Vhd c.args.twin.now)) in
    let ys = changes_of_base c.args.disk.now c.image_with-found.result c.has-has_own.result c.is_marked-is_hidden.result in
    let zs : List Change = Remove (Clone c.args.disk.now c.args.base.now c.args.twin.now) ∷ [] in
    let plan : changes_back (table_alone k) (Clone c.args.disk.now c.args.base.now c.args.twin.now) ≡ xs ++ (ys ++ zs) =
    planned k c.args.disk.now c.args.base.now c.args.twin.now c.table.ensures.table c.has-has_twin.ensures c.table-2.ensures.table c.has-has_own.ensures c.table-3.ensures.table c.image_with-found.ensures
    c.table-4.ensures.table c.is_marked-is_hidden.ensures in
    subst (λ cs. MakesPart g.S.Store cs old c.commit_where-2.new.store) (sym plan)
    (then_part xs (ys ++ zs) c.commit_where.ensures.part c.in_ok-commit_where.ensures.all (then_part ys zs c.give_back.ensures.part c.in_ok-give_back.ensures.all c.commit_where-2.ensures.part))
