use Rattle.std.proofs.Common.{ℕ, List, true, [], ◌∷◌, sym, ap, ap₂, ◌∙◌, subst}
use Rattle.sm_base.specs.declared.names.Name.TheVariants.{Vhd}
use Rattle.vg_meta.specs.declared.changes.Change.{Change}
use Rattle.vg_meta.specs.declared.changes.Change.TheVariants.{Create, Mark, Rename}
use Rattle.vg_meta.specs.declared.changes.Tag.TheVariants.{Hidden}
use Rattle.sm_journal.specs.Entries.{putting}
use Rattle.sm_clone.specs.Forking.{base_name, entry_name}
use Rattle.sm_clone.specs.declared.forks.Fork.{Fork}
use Rattle.sm_mgt.proofs.ClearLaws.{on_err}
use Rattle.sm_calls.specs.Calls.{CanRun, DoesRun, commits}
use Rattle.sm_calls.proofs.StoreLaws.{can_front, can_next, run_front, run_then}
use Rattle.sm_clone.proofs.runs.begin.Goals as goal

-- the first three, and the last two
abbrev base_changes : Fork → List Change
base_changes f = putting (entry_name f) ∷ Rename f.own (base_name f) ∷ Mark (base_name f) Hidden true ∷ []

abbrev image_changes : Fork → List ℕ → List ℕ → List Change
image_changes f own twins = Create (Vhd f.disk) true own ∷ Create (Vhd f.twin) true twins ∷ []

pub commit_three-requires : goal.commit_three-requires
commit_three-requires g c =
    let f = c.args.fork.now in
    let same = ap₂ (λ x y. x ∷ y ∷ c.hidden_image-hidden.result ∷ []) c.entry_change-entry.ensures c.moved_image-moved.ensures
    ∙ ap (λ z. putting (entry_name f) ∷ Rename f.own (base_name f) ∷ z ∷ []) c.hidden_image-hidden.ensures in
    subst (λ cs. CanRun g.S.Store (commits cs) c.args.store.now) (sym same)
    (can_front (commits (base_changes f)) (commits (image_changes f c.args.own.items c.args.twins.items)) c.requires)

pub returns-in_err-commit_three-clause-cut : goal.returns-in_err-commit_three-clause-cut
returns-in_err-commit_three-clause-cut g c =
    let f = c.args.fork.now in
    let same = ap₂ (λ x y. x ∷ y ∷ c.hidden_image-hidden.result ∷ []) c.entry_change-entry.ensures c.moved_image-moved.ensures
    ∙ ap (λ z. putting (entry_name f) ∷ Rename f.own (base_name f) ∷ z ∷ []) c.hidden_image-hidden.ensures in
    on_err _ (run_front (commits (base_changes f)) (commits (image_changes f c.args.own.items c.args.twins.items))
    (subst (λ cs. DoesRun g.S.Store (commits cs) c.args.store.now c.commit_three.new.store ⊥) same c.in_err-commit_three.ensures.cut))

pub commit_two-requires : goal.commit_two-requires
commit_two-requires g c =
    let f = c.args.fork.now in
    let same = ap₂ (λ x y. x ∷ y ∷ c.hidden_image-hidden.result ∷ []) c.entry_change-entry.ensures c.moved_image-moved.ensures
    ∙ ap (λ z. putting (entry_name f) ∷ Rename f.own (base_name f) ∷ z ∷ []) c.hidden_image-hidden.ensures in
    let pair = ap₂ (λ x y. x ∷ y ∷ []) c.new_image-own.ensures c.new_image-twin.ensures in
    subst (λ cs. CanRun g.S.Store (commits cs) c.commit_three.new.store) (sym pair)
    (can_next (commits (base_changes f)) (commits (image_changes f c.args.own.items c.args.twins.items)) tt c.requires
    (subst (λ cs. DoesRun g.S.Store (commits cs) c.args.store.now c.commit_three.new.store (Unit {0})) same c.in_ok-commit_three.ensures.run))

pub returns-in_err-commit_two-clause-cut : goal.returns-in_err-commit_two-clause-cut
returns-in_err-commit_two-clause-cut g c =
    let f = c.args.fork.now in
    let same = ap₂ (λ x y. x ∷ y ∷ c.hidden_image-hidden.result ∷ []) c.entry_change-entry.ensures c.moved_image-moved.ensures
    ∙ ap (λ z. putting (entry_name f) ∷ Rename f.own (base_name f) ∷ z ∷ []) c.hidden_image-hidden.ensures in
    let pair = ap₂ (λ x y. x ∷ y ∷ []) c.new_image-own.ensures c.new_image-twin.ensures in
    on_err _ (run_then (commits (base_changes f)) (commits (image_changes f c.args.own.items c.args.twins.items)) tt
    (subst (λ cs. DoesRun g.S.Store (commits cs) c.args.store.now c.commit_three.new.store (Unit {0})) same c.in_ok-commit_three.ensures.run)
    (subst (λ cs. DoesRun g.S.Store (commits cs) c.commit_three.new.store c.commit_two.new.store ⊥) pair c.in_err-commit_two.ensures.cut))

pub returns-clause-run : goal.returns-clause-run
returns-clause-run g c =
    let f = c.args.fork.now in
    let same = ap₂ (λ x y. x ∷ y ∷ c.hidden_image-hidden.result ∷ []) c.entry_change-entry.ensures c.moved_image-moved.ensures
    ∙ ap (λ z. putting (entry_name f) ∷ Rename f.own (base_name f) ∷ z ∷ []) c.hidden_image-hidden.ensures in
    let pair = ap₂ (λ x y. x ∷ y ∷ []) c.new_image-own.ensures c.new_image-twin.ensures in
    run_then (commits (base_changes f)) (commits (image_changes f c.args.own.items c.args.twins.items)) tt
    (subst (λ cs. DoesRun g.S.Store (commits cs) c.args.store.now c.commit_three.new.store (Unit {0})) same c.in_ok-commit_three.ensures.run)
    (subst (λ cs. DoesRun g.S.Store (commits cs) c.commit_three.new.store c.commit_two.new.store (Unit {0})) pair c.in_ok-commit_two.ensures.run)
