use Rattle.std.proofs.Common.{sym, ap, ◌∙◌, subst, arith}
use Rattle.vg_meta.specs.Roomy.{table_alone}
use Rattle.sm_standing.specs.Entries.{folding, head}
use Rattle.sm_ready.specs.Sessions.{IsOrderlyStore, IsReadyStore}
use Rattle.sm_recover.specs.Linking.{LinksAll, link_image}
use Rattle.sm_recover.proofs.LinkingLaws.{links_none, links_rest}
use Rattle.sm_recover.proofs.LinkUpLaws.{all_rest, all_shape, all_table, begun_orderly, begun_ready, none_orderly, none_rest, none_shape, one_folding, same_table}
use Rattle.sm_recover.proofs.linking.link_up.Goals as goal

pub returns-in_default-clause-unfolded : goal.returns-in_default-clause-unfolded
returns-in_default-clause-unfolded g c =
    sym (same_table g.S.Store c.args.store.now c.args.memory.now c.requires.linkable c.requires.orderly
    (sym c.in_default.is ∙ c.linked_image.ensures ∙ ap (λ k. link_image (head (folding (table_alone k)))) c.table.ensures.table))

pub returns-in_default-clause-orderly : goal.returns-in_default-clause-orderly
returns-in_default-clause-orderly g c =
    none_orderly g.S.Store c.args.store.now c.args.memory.now c.requires.linkable c.requires.orderly
    (sym c.in_default.is ∙ c.linked_image.ensures ∙ ap (λ k. link_image (head (folding (table_alone k)))) c.table.ensures.table)

pub returns-in_default-clause-rest : goal.returns-in_default-clause-rest
returns-in_default-clause-rest g c = λ told.
    none_rest g.S.Store c.args.store.now c.args.memory.now c.requires.linkable c.requires.orderly
    (sym c.in_default.is ∙ c.linked_image.ensures ∙ ap (λ k. link_image (head (folding (table_alone k)))) c.table.ensures.table)

pub returns-in_default-clause-shape : goal.returns-in_default-clause-shape
returns-in_default-clause-shape g c =
    none_shape g.S.Store c.args.store.now c.args.memory.now c.requires.linkable c.requires.orderly
    (sym c.in_default.is ∙ c.linked_image.ensures ∙ ap (λ k. link_image (head (folding (table_alone k)))) c.table.ensures.table)

pub returns-in_default-clause-crash : goal.returns-in_default-clause-crash
returns-in_default-clause-crash g c = λ told t image leaves begun.
    let a = c.args.store.now in
    let rest = returns-in_default-clause-rest g c told begun in
    links_rest g.S.Store (links_none g.S.Store a c.args.memory.now c.requires.usable (returns-in_default-clause-orderly g c) c.requires.true_now) told (g.met.S.Store.leaves_now a told c.requires.usable) begun.settled rest.ready leaves

pub link_all-requires-clause-orderly : goal.link_all-requires-clause-orderly
link_all-requires-clause-orderly g c = subst (λ o. IsOrderlyStore g.S.Store c.args.store.now (record c.args.memory.now { operation = o })) (sym c.set.ensures)
    (begun_orderly g.S.Store c.args.store.now c.args.memory.now c.requires.linkable c.requires.orderly c.in-Some.child c.in-Some-parent.parent
    (sym c.in-Some.is ∙ c.linked_image.ensures ∙ ap (λ k. link_image (head (folding (table_alone k)))) c.table.ensures.table) (sym c.in-Some-parent.is ∙ c.parent.ensures))

pub returns-in_err-link_all-clause-few_left : goal.returns-in_err-link_all-clause-few_left
returns-in_err-link_all-clause-few_left g c = λ told t image leaves.
    let some = one_folding (folding (table_alone (g.S.Store.table c.args.store.now))) c.in-Some.child (sym (c.linked_image.ensures ∙ ap (λ k. link_image (head (folding (table_alone k)))) c.table.ensures.table) ∙ c.in-Some.is) in
    let few = c.link_all.ensures.few_left told t image leaves in omega (arith, some, few)

pub returns-in_err-link_all-clause-crash : goal.returns-in_err-link_all-clause-crash
returns-in_err-link_all-clause-crash g c = λ told t image leaves begun.
    c.link_all.ensures.crash told t image leaves begun.settled
    (subst (λ o. IsReadyStore g.S.Store c.args.store.now (record c.args.memory.now { operation = o })) (sym c.set.ensures) (begun_ready g.S.Store c.args.store.now c.args.memory.now c.requires.linkable c.requires.orderly c.in-Some.child c.in-Some-parent.parent
    (sym c.in-Some.is ∙ c.linked_image.ensures ∙ ap (λ k. link_image (head (folding (table_alone k)))) c.table.ensures.table) (sym c.in-Some-parent.is ∙ c.parent.ensures) begun))

pub returns-clause-few_left : goal.returns-clause-few_left
returns-clause-few_left g c = λ told t image leaves.
    let some = one_folding (folding (table_alone (g.S.Store.table c.args.store.now))) c.in-Some.child (sym (c.linked_image.ensures ∙ ap (λ k. link_image (head (folding (table_alone k)))) c.table.ensures.table) ∙ c.in-Some.is) in
    let few = c.link_all.ensures.few_left told t image leaves in omega (arith, some, few)

pub returns-clause-unfolded : goal.returns-clause-unfolded
returns-clause-unfolded g c =
    all_table g.S.Store c.args.store.now c.args.memory.now c.requires.linkable c.requires.orderly c.in-Some.child c.in-Some-parent.parent
    (sym c.in-Some.is ∙ c.linked_image.ensures ∙ ap (λ k. link_image (head (folding (table_alone k)))) c.table.ensures.table) (sym c.in-Some-parent.is ∙ c.parent.ensures)
    (subst (λ o. LinksAll g.S.Store c.args.store.now (record c.args.memory.now { operation = o }) c.link_all.new.store c.link_all.new.memory) c.set.ensures c.in_ok-link_all.ensures.all)

pub returns-clause-rest : goal.returns-clause-rest
returns-clause-rest g c =
    all_rest g.S.Store c.args.store.now c.args.memory.now c.requires.linkable c.requires.orderly c.in-Some.child c.in-Some-parent.parent
    (sym c.in-Some.is ∙ c.linked_image.ensures ∙ ap (λ k. link_image (head (folding (table_alone k)))) c.table.ensures.table) (sym c.in-Some-parent.is ∙ c.parent.ensures)
    (subst (λ o. LinksAll g.S.Store c.args.store.now (record c.args.memory.now { operation = o }) c.link_all.new.store c.link_all.new.memory) c.set.ensures c.in_ok-link_all.ensures.all)

pub returns-clause-shape : goal.returns-clause-shape
returns-clause-shape g c =
    all_shape g.S.Store c.args.store.now c.args.memory.now c.requires.linkable c.requires.orderly c.in-Some.child c.in-Some-parent.parent
    (sym c.in-Some.is ∙ c.linked_image.ensures ∙ ap (λ k. link_image (head (folding (table_alone k)))) c.table.ensures.table) (sym c.in-Some-parent.is ∙ c.parent.ensures)
    (subst (λ o. LinksAll g.S.Store c.args.store.now (record c.args.memory.now { operation = o }) c.link_all.new.store c.link_all.new.memory) c.set.ensures c.in_ok-link_all.ensures.all) c.requires.at_ease.idle

pub returns-clause-crash : goal.returns-clause-crash
returns-clause-crash g c = λ told t image leaves begun.
    c.link_all.ensures.crash told t image leaves begun.settled
    (subst (λ o. IsReadyStore g.S.Store c.args.store.now (record c.args.memory.now { operation = o })) (sym c.set.ensures) (begun_ready g.S.Store c.args.store.now c.args.memory.now c.requires.linkable c.requires.orderly c.in-Some.child c.in-Some-parent.parent
    (sym c.in-Some.is ∙ c.linked_image.ensures ∙ ap (λ k. link_image (head (folding (table_alone k)))) c.table.ensures.table) (sym c.in-Some-parent.is ∙ c.parent.ensures) begun))
