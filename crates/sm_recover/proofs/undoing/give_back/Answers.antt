use Rattle.std.proofs.Common.{◌≡◌, false, Some, List, [], ◌∷◌, ◌++◌, sym, subst, rules}
use Rattle.sm_base.specs.declared.names.Name.TheVariants.{Vhd}
use Rattle.vg_meta.specs.declared.changes.Change.{Change}
use Rattle.vg_meta.specs.declared.changes.Change.TheVariants.{Mark, Remove, Rename}
use Rattle.vg_meta.specs.declared.changes.Tag.TheVariants.{Hidden}
use Rattle.sm_standing.specs.Opened.{under_name, wanted}
use Rattle.sm_recover.specs.Steps.{MakesPart, changes_of_base}
use Rattle.sm_recover.proofs.StepLaws.{front_part, then_part}
use Rattle.sm_recover.proofs.undoing.give_back.Goals as goal

pub returns-in_err-commit_where-clause-part : goal.returns-in_err-commit_where-clause-part
returns-in_err-commit_where-clause-part g c =
    let is : c.args.base ≡ Some c.in-Some.from = search rules in
    let from = c.in-Some.from in
    let ys = wanted c.args.is_hidden (Mark from Hidden false) in
    let zs : List Change = Rename from (under_name from c.args.disk) ∷ [] in
    subst (λ o. MakesPart g.S.Store (changes_of_base c.args.disk o c.args.has_own c.args.is_hidden) c.args.store.now c.commit_where.new.store) (sym is)
    (front_part (wanted c.args.has_own (Remove (Vhd c.args.disk))) (ys ++ zs) c.commit_where.ensures.part)

pub returns-in_err-commit_where-2-clause-part : goal.returns-in_err-commit_where-2-clause-part
returns-in_err-commit_where-2-clause-part g c =
    let is : c.args.base ≡ Some c.in-Some.from = search rules in
    let from = c.in-Some.from in
    let ys = wanted c.args.is_hidden (Mark from Hidden false) in
    let zs : List Change = Rename from (under_name from c.args.disk) ∷ [] in
    subst (λ o. MakesPart g.S.Store (changes_of_base c.args.disk o c.args.has_own c.args.is_hidden) c.args.store.now c.commit_where-2.new.store) (sym is)
    (then_part (wanted c.args.has_own (Remove (Vhd c.args.disk))) (ys ++ zs) c.commit_where.ensures.part c.in_ok-commit_where.ensures.all (front_part ys zs c.commit_where-2.ensures.part))

pub returns-in_err-commit_where-3-clause-part : goal.returns-in_err-commit_where-3-clause-part
returns-in_err-commit_where-3-clause-part g c =
    let is : c.args.base ≡ Some c.in-Some.from = search rules in
    let from = c.in-Some.from in
    let xs = wanted c.args.has_own (Remove (Vhd c.args.disk)) in
    let ys = wanted c.args.is_hidden (Mark from Hidden false) in
    let zs : List Change = Rename from c.under_name-to.result ∷ [] in
    let old = c.args.store.now in
    let new = c.commit_where-3.new.store in
    let all : MakesPart g.S.Store (xs ++ (ys ++ zs)) old new =
    then_part xs (ys ++ zs) c.commit_where.ensures.part c.in_ok-commit_where.ensures.all (then_part ys zs c.commit_where-2.ensures.part c.in_ok-commit_where-2.ensures.all c.commit_where-3.ensures.part) in
    subst (λ o. MakesPart g.S.Store (changes_of_base c.args.disk o c.args.has_own c.args.is_hidden) old new) (sym is)
    (subst (λ to. MakesPart g.S.Store (xs ++ (ys ++ Rename from to ∷ [])) old new) c.under_name-to.ensures all)

pub returns-clause-part : goal.returns-clause-part
returns-clause-part g c =
    let is : c.args.base ≡ Some c.in-Some.from = search rules in
    let from = c.in-Some.from in
    let xs = wanted c.args.has_own (Remove (Vhd c.args.disk)) in
    let ys = wanted c.args.is_hidden (Mark from Hidden false) in
    let zs : List Change = Rename from c.under_name-to.result ∷ [] in
    let old = c.args.store.now in
    let new = c.commit_where-3.new.store in
    let all : MakesPart g.S.Store (xs ++ (ys ++ zs)) old new =
    then_part xs (ys ++ zs) c.commit_where.ensures.part c.in_ok-commit_where.ensures.all (then_part ys zs c.commit_where-2.ensures.part c.in_ok-commit_where-2.ensures.all c.commit_where-3.ensures.part) in
    subst (λ o. MakesPart g.S.Store (changes_of_base c.args.disk o c.args.has_own c.args.is_hidden) old new) (sym is)
    (subst (λ to. MakesPart g.S.Store (xs ++ (ys ++ Rename from to ∷ [])) old new) c.under_name-to.ensures all)
