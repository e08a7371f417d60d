use Rattle.std.proofs.Common.{inl, ◌≡◌, ◌∙◌, refl, sym, ap, ap₂, subst, subst₂}
use Rattle.std.specs.Prelude.{option_copied, IsSome}
use Rattle.common_laws.specs.Lists.{In}
use Rattle.sm_base.specs.Names.{IsName}
use Rattle.vg_meta.specs.Roomy.{table_alone}
use Rattle.vg_volumes.proofs.StoredLaws.{stays_from, stays_then}
use Rattle.vg_volumes.specs.Stored.{WorksOn}
use Rattle.vhd_chain.specs.Trees.{row_name, tree_row, with_replaced}
use Rattle.vhd_chain.proofs.ByName.{tree_row-without_other, tree_row-without_same}
use Rattle.sm_machine.specs.Operations.{told}
use Rattle.sm_machine.proofs.Told.{told_relink}
use Rattle.sm_ready.specs.Known.{Known, known, shape_in}
use Rattle.sm_ready.specs.Orderly.{IsOrderly}
use Rattle.sm_ready.specs.Ready.{IsTidy}
use Rattle.sm_ready.proofs.ChainLaws.{err_not_ok, tab}
use Rattle.sm_ready.proofs.FrameLaws.{true_stays}
use Rattle.sm_ready.proofs.PutBackLaws.{row_proper}
use Rattle.sm_ready.proofs.TakenLaws.{is_told}
use Rattle.sm_ready.proofs.TruthLaws.{row_stands, row_true}
use Rattle.gc_coalesce.proofs.LinkEnds.{IsRested, IsToLinkIn, links_there, proper, relink_done, relink_failed, relink_unsettled, rest_failed, rested}
use Rattle.gc_coalesce.proofs.LinkLaws.{above_found, child_found, enough, linked_row, not_parent, orderly_linked, own_vhd, runs, shape_next_linked, tidy_linked, to_link}
use Rattle.gc_coalesce.proofs.LinkStores.{parent_row, rows_back, rows_length, same_name, true_linked, with_image}
use Rattle.sm_ready.proofs.FramingLaws.{stays_now}
use Rattle.gc_coalesce.proofs.SyncedLaws.{synced_again, written_synced}
use Rattle.gc_coalesce.proofs.linking.relink_one.Given.{Over}
use Rattle.gc_coalesce.proofs.linking.relink_one.Goals as goal

pub unreachable-requires : goal.unreachable-requires
unfolding told
unreachable-requires g c = runs _ _ (known c.args.memory.now) c.args.child.now c.requires.planned (λ v p is. c.in_default.not-Relink v p (c.told.ensures ∙ ap told is))

pub returns-in_err-sync-clause-done : goal.returns-in_err-sync-clause-done
returns-in_err-sync-clause-done g c = λ told ready.
    rest_failed g.S.Store c.args.store.now c.sync.new.self c.args.memory.now
    (is_told g.S.Store c.args.store.now c.args.memory.now c.requires.orderly c.requires.usable told ready (g.met.S.Store.leaves_now c.args.store.now told c.requires.usable))
    (record { site = c.sync.ensures.site; table = c.sync.ensures.table.0; failed = c.sync.ensures.table.1; keeps = c.sync.ensures.keeps told; leaves = c.sync.ensures.leaves told })
    _ refl _ (λ fine. err_not_ok _ tt c.from_residual.ensures.0 fine)

pub unreachable-requires-in_default-take : goal.unreachable-requires-in_default-take
unreachable-requires-in_default-take g c =
    child_found _ _ (known c.args.memory.now) c.args.child.now c.in-Relink.out c.in-Relink.parent _ c.requires.orderly (told_relink _ _ _ (sym c.told.ensures ∙ c.in-Relink.is)) c.requires.planned c.take.ensures.taken c.in_default-take.is

-- the child, whose row was taken out: before its parent is looked up
abbrev looked : (g : Over) (c : goal.In_default-get g) → IsToLinkIn g.S.Store c.args.store.now c.args.memory.now c.args.child.now c.in-Relink.out c.in-Relink.parent c.in-Some.row
looked g c = to_link _ _ (known c.args.memory.now) c.args.child.now _ _ _ c.requires.orderly (told_relink _ _ _ (sym c.told.ensures ∙ c.in-Relink.is)) c.requires.planned c.take.ensures.taken c.in-Some.row c.in-Some.is

pub unreachable-requires-in_default-get : goal.unreachable-requires-in_default-get
unreachable-requires-in_default-get g c = above_found (looked g c)
    (sym (tree_row-without_other c.args.memory.now.tree.rows c.args.child.now c.in-Relink.parent (not_parent (looked g c))) ∙ ap (λ rs. tree_row rs c.in-Relink.parent) (sym c.take.ensures.rows)
    ∙ sym c.get.ensures ∙ ap option_copied c.in_default-get.is)

-- before it is linked
abbrev taken : (g : Over) (c : goal.After-set_parent-arg-2-1 g)
    → IsToLinkIn g.S.Store c.args.store.now c.args.memory.now c.args.child.now c.in-Relink.out c.in-Relink.parent c.in-Some.row
taken g c = to_link _ _ (known c.args.memory.now) c.args.child.now _ _ _ c.requires.orderly (told_relink _ _ _ (sym c.told.ensures ∙ c.in-Relink.is)) c.requires.planned c.take.ensures.taken c.in-Some.row c.in-Some.is

-- and the same once all rests
abbrev resting : (g : Over) (c : goal.After-set_parent-arg-2-1 g)
    → IsToLinkIn g.S.Store c.sync.new.self c.args.memory.now c.args.child.now c.in-Relink.out c.in-Relink.parent c.in-Some.row
resting g c =
    links_there g.S.Store c.args.store.now c.sync.new.self c.args.memory.now c.args.child.now c.in-Relink.out c.in-Relink.parent c.in-Some.row c.sync.ensures.site c.sync.ensures.table.0 (taken g c)

pub set_parent-linked-requires-clause-vhd : goal.set_parent-linked-requires-clause-vhd
set_parent-linked-requires-clause-vhd g c = own_vhd (taken g c)

pub set_parent-linked-requires-clause-child : goal.set_parent-linked-requires-clause-child
set_parent-linked-requires-clause-child g c = subst IsSome (sym (taken g c).linked) refl

pub set_parent-linked-requires-clause-proper : goal.set_parent-linked-requires-clause-proper
set_parent-linked-requires-clause-proper g c =
    let above = parent_row _ _ (known c.args.memory.now) c.args.child.now _ _ c.in-Some.row c.in-Some-get.above.now (taken g c) c.take.ensures.rows
    (sym c.get.ensures ∙ ap option_copied c.in-Some-get.is) in
    proper _ _ (known c.args.memory.now) c.requires.orderly c.in-Some-get.above.now above.0

pub set_parent-linked-requires-clause-stands : goal.set_parent-linked-requires-clause-stands
set_parent-linked-requires-clause-stands g c = row_stands _ _ (known c.args.memory.now) (resting g c).orderly c.in-Some.row (taken g c).there

pub set_parent-linked-requires-clause-true_now : goal.set_parent-linked-requires-clause-true_now
set_parent-linked-requires-clause-true_now g c = λ told. row_true g.S.Store c.sync.new.self c.args.memory.now (resting g c).orderly
    (true_stays g.S.Store c.args.memory.now c.args.memory.now c.sync.ensures.site c.sync.ensures.table.0 refl c.sync.ensures.keeps c.requires.true_now) told c.in-Some.row (taken g c).there

-- once it is linked, or the link failed
abbrev linked : (g : Over) (c : goal.After-add-arg-1 g) → IsToLinkIn g.S.Store c.args.store.now c.args.memory.now c.args.child.now c.in-Relink.out c.in-Relink.parent c.in-Some.row
linked g c = to_link _ _ (known c.args.memory.now) c.args.child.now _ _ _ c.requires.orderly (told_relink _ _ _ (sym c.told.ensures ∙ c.in-Relink.is)) c.requires.planned c.take.ensures.taken c.in-Some.row c.in-Some.is

named_still : (g : Over) (c : goal.After-add-arg-1 g) → row_name (with_image c.set_parent-linked.new.self c.in-Some.row) ≡ row_name c.in-Some.row
named_still g c =
    same_name c.set_parent-linked.result c.in-Some-get.above.now.image c.in-Some.row.image c.set_parent-linked.new.self c.set_parent-linked.ensures.new_parent c.set_parent-linked.ensures.unchanged

pub add-requires-clause-name : goal.add-requires-clause-name
add-requires-clause-name g c = subst IsName (sym (named_still g c)) (row_proper _ _ (known c.args.memory.now) c.requires.orderly c.in-Some.row (linked g c).there)

pub add-requires-clause-absent : goal.add-requires-clause-absent
add-requires-clause-absent g c =
    ap₂ (λ rs n. tree_row rs n) (c.take.ensures.rows) (named_still g c ∙ (linked g c).named) ∙ tree_row-without_same c.args.memory.now.tree.rows c.args.child.now

-- where the link failed
abbrev unlinked : (g : Over) (c : goal.After-from_residual-in_err-linked g)
    → IsToLinkIn g.S.Store c.args.store.now c.args.memory.now c.args.child.now c.in-Relink.out c.in-Relink.parent c.in-Some.row
unlinked g c = to_link _ _ (known c.args.memory.now) c.args.child.now _ _ _ c.requires.orderly (told_relink _ _ _ (sym c.told.ensures ∙ c.in-Relink.is)) c.requires.planned c.take.ensures.taken c.in-Some.row c.in-Some.is

abbrev unlinked_above : (g : Over) (c : goal.After-from_residual-in_err-linked g) → In c.in-Some-get.above.now c.args.memory.now.tree.rows × (row_name c.in-Some-get.above.now ≡ c.in-Relink.parent)
unlinked_above g c =
    parent_row _ _ (known c.args.memory.now) c.args.child.now _ _ c.in-Some.row c.in-Some-get.above.now (unlinked g c) c.take.ensures.rows (sym c.get.ensures ∙ ap option_copied c.in-Some-get.is)

unlinked_rest : (g : Over) (c : goal.After-from_residual-in_err-linked g) → IsRested g.S.Store c.args.store.now c.sync.new.self
unlinked_rest g c = let e = c.sync.ensures in rested g.S.Store c.args.store.now c.sync.new.self e.site e.table e.keeps e.leaves c.in_ok-sync.ensures.settled

unlinked_back : (g : Over) (c : goal.After-from_residual-in_err-linked g) → c.add.new.self.rows ≡ with_replaced (with_image c.set_parent-linked.new.self c.in-Some.row) c.args.memory.now.tree.rows
unlinked_back g c = rows_back _ _ (known c.args.memory.now) c.args.child.now _ _ c.in-Some.row c.set_parent-linked.new.self (unlinked g c)
    (same_name c.set_parent-linked.result c.in-Some-get.above.now.image c.in-Some.row.image c.set_parent-linked.new.self c.set_parent-linked.ensures.new_parent c.set_parent-linked.ensures.unchanged)
    c.take.ensures.rows c.add.ensures.rows

pub returns-in_err-linked-clause-images : goal.returns-in_err-linked-clause-images
returns-in_err-linked-clause-images g c = rows_length (with_image c.set_parent-linked.new.self c.in-Some.row) c.args.memory.now.tree.rows (unlinked_back g c)

pub returns-in_err-linked-clause-done : goal.returns-in_err-linked-clause-done
returns-in_err-linked-clause-done g c = λ told ready.
    relink_failed g.S.Store c.args.store.now c.sync.new.self c.set_parent-linked.new.store c.args.memory.now c.args.child.now c.in-Relink.out c.in-Relink.parent c.in-Some.row c.in-Some-get.above.now
    (unlinked g c) (unlinked_above g c)
    c.requires.usable g.met.S.Store.leaves_now (unlinked_rest g c) c.set_parent-linked.ensures.works c.set_parent-linked.ensures.changes told ready
    _ refl _ (λ fine. err_not_ok _ tt c.from_residual-in_err-linked.ensures.0 fine)

-- where the sync behind it failed
abbrev unsynced : (g : Over) (c : goal.After-from_residual-in_err-sync-2 g)
    → IsToLinkIn g.S.Store c.args.store.now c.args.memory.now c.args.child.now c.in-Relink.out c.in-Relink.parent c.in-Some.row
unsynced g c = to_link _ _ (known c.args.memory.now) c.args.child.now _ _ _ c.requires.orderly (told_relink _ _ _ (sym c.told.ensures ∙ c.in-Relink.is)) c.requires.planned c.take.ensures.taken c.in-Some.row c.in-Some.is

abbrev unsynced_above : (g : Over) (c : goal.After-from_residual-in_err-sync-2 g) → In c.in-Some-get.above.now c.args.memory.now.tree.rows × (row_name c.in-Some-get.above.now ≡ c.in-Relink.parent)
unsynced_above g c =
    parent_row _ _ (known c.args.memory.now) c.args.child.now _ _ c.in-Some.row c.in-Some-get.above.now (unsynced g c) c.take.ensures.rows (sym c.get.ensures ∙ ap option_copied c.in-Some-get.is)

unsynced_rest : (g : Over) (c : goal.After-from_residual-in_err-sync-2 g) → IsRested g.S.Store c.args.store.now c.sync.new.self
unsynced_rest g c = let e = c.sync.ensures in rested g.S.Store c.args.store.now c.sync.new.self e.site e.table e.keeps e.leaves c.in_ok-sync.ensures.settled

unsynced_back : (g : Over) (c : goal.After-from_residual-in_err-sync-2 g) → c.add.new.self.rows ≡ with_replaced (with_image c.set_parent-linked.new.self c.in-Some.row) c.args.memory.now.tree.rows
unsynced_back g c = rows_back _ _ (known c.args.memory.now) c.args.child.now _ _ c.in-Some.row c.set_parent-linked.new.self (unsynced g c)
    (same_name c.set_parent-linked.result c.in-Some-get.above.now.image c.in-Some.row.image c.set_parent-linked.new.self c.set_parent-linked.ensures.new_parent c.set_parent-linked.ensures.unchanged)
    c.take.ensures.rows c.add.ensures.rows

pub returns-in_err-sync-2-clause-images : goal.returns-in_err-sync-2-clause-images
returns-in_err-sync-2-clause-images g c = rows_length (with_image c.set_parent-linked.new.self c.in-Some.row) c.args.memory.now.tree.rows (unsynced_back g c)

pub returns-in_err-sync-2-clause-done : goal.returns-in_err-sync-2-clause-done
returns-in_err-sync-2-clause-done g c = λ told ready.
    relink_unsettled g.S.Store c.args.store.now c.sync.new.self c.set_parent-linked.new.store c.args.memory.now c.args.child.now c.in-Relink.out c.in-Relink.parent c.in-Some.row c.in-Some-get.above.now
    (unsynced g c) (unsynced_above g c)
    c.requires.usable g.met.S.Store.leaves_now (unsynced_rest g c) c.set_parent-linked.ensures.works c.set_parent-linked.ensures.changes told ready c.sync-2.new.self
    (record { site = c.sync-2.ensures.site; table = c.sync-2.ensures.table.0; failed = c.sync-2.ensures.table.1; keeps = c.sync-2.ensures.keeps told; leaves = c.sync-2.ensures.leaves told })
    _ refl _ (λ fine. err_not_ok _ tt c.from_residual-in_err-sync-2.ensures.0 fine)

-- before it is counted
abbrev noting : (g : Over) (c : goal.After-out-2-1 g) → IsToLinkIn g.S.Store c.args.store.now c.args.memory.now c.args.child.now c.in-Relink.out c.in-Relink.parent c.in-Some.row
noting g c = to_link _ _ (known c.args.memory.now) c.args.child.now _ _ _ c.requires.orderly (told_relink _ _ _ (sym c.told.ensures ∙ c.in-Relink.is)) c.requires.planned c.take.ensures.taken c.in-Some.row c.in-Some.is

pub relinked-requires : goal.relinked-requires
relinked-requires g c = record { enough = enough (noting g c) }

-- once all lasts
abbrev lasting : (g : Over) (c : goal.After-relinked g) → IsToLinkIn g.S.Store c.args.store.now c.args.memory.now c.args.child.now c.in-Relink.out c.in-Relink.parent c.in-Some.row
lasting g c = to_link _ _ (known c.args.memory.now) c.args.child.now _ _ _ c.requires.orderly (told_relink _ _ _ (sym c.told.ensures ∙ c.in-Relink.is)) c.requires.planned c.take.ensures.taken c.in-Some.row c.in-Some.is

abbrev lasting_above : (g : Over) (c : goal.After-relinked g) → In c.in-Some-get.above.now c.args.memory.now.tree.rows × (row_name c.in-Some-get.above.now ≡ c.in-Relink.parent)
lasting_above g c =
    parent_row _ _ (known c.args.memory.now) c.args.child.now _ _ c.in-Some.row c.in-Some-get.above.now (lasting g c) c.take.ensures.rows (sym c.get.ensures ∙ ap option_copied c.in-Some-get.is)

lasting_rest : (g : Over) (c : goal.After-relinked g) → IsRested g.S.Store c.args.store.now c.sync.new.self
lasting_rest g c = let e = c.sync.ensures in rested g.S.Store c.args.store.now c.sync.new.self e.site e.table e.keeps e.leaves c.in_ok-sync.ensures.settled

lasting_back : (g : Over) (c : goal.After-relinked g) → c.add.new.self.rows ≡ with_replaced (with_image c.set_parent-linked.new.self c.in-Some.row) c.args.memory.now.tree.rows
lasting_back g c = rows_back _ _ (known c.args.memory.now) c.args.child.now _ _ c.in-Some.row c.set_parent-linked.new.self (lasting g c)
    (same_name c.set_parent-linked.result c.in-Some-get.above.now.image c.in-Some.row.image c.set_parent-linked.new.self c.set_parent-linked.ensures.new_parent c.set_parent-linked.ensures.unchanged)
    c.take.ensures.rows c.add.ensures.rows

-- memory with the child linked
rows_are : (g : Over) (c : goal.After-relinked g) → c.add.new.self.rows ≡ with_replaced (linked_row c.in-Some-get.above.now c.in-Some.row) c.args.memory.now.tree.rows
rows_are g c = lasting_back g c ∙ ap (λ b. with_replaced (with_image b c.in-Some.row) c.args.memory.now.tree.rows) c.in_ok-linked.ensures.new_parent

abbrev then : (g : Over) (c : goal.After-relinked g) → Known
then g c = record (known c.args.memory.now) { rows = with_replaced (linked_row c.in-Some-get.above.now c.in-Some.row) c.args.memory.now.tree.rows; attached = c.relinked.new.self }

memory_is : (g : Over) (c : goal.After-relinked g) → record (known c.args.memory.now) { rows = c.add.new.self.rows; attached = c.relinked.new.self } ≡ then g c
memory_is g c = ap (λ rs. let k : Known = record (known c.args.memory.now) { rows = rs; attached = c.relinked.new.self } in k) (rows_are g c)

site_is : (g : Over) (c : goal.After-relinked g) → g.S.Store.site c.sync-2.new.self ≡ g.S.Store.site c.args.store.now
site_is g c = c.sync-2.ensures.site ∙ c.set_parent-linked.ensures.works.stays.site ∙ c.sync.ensures.site

table_is : (g : Over) (c : goal.After-relinked g) → tab g.S.Store c.sync-2.new.self ≡ tab g.S.Store c.args.store.now
table_is g c = c.sync-2.ensures.table.0 ∙ c.set_parent-linked.ensures.works.stays.table ∙ c.sync.ensures.table.0

pub returns-clause-images : goal.returns-clause-images
returns-clause-images g c = rows_length (with_image c.set_parent-linked.new.self c.in-Some.row) c.args.memory.now.tree.rows (lasting_back g c)

pub returns-clause-orderly_still : goal.returns-clause-orderly_still
returns-clause-orderly_still g c =
    let above = lasting_above g c in
    subst (λ k. IsOrderly (g.S.Store.site c.sync-2.new.self) (table_alone (g.S.Store.table c.sync-2.new.self)) k) (sym (memory_is g c))
    (subst₂ (λ s t. IsOrderly s t (then g c)) (sym (site_is g c)) (sym (table_is g c))
    (orderly_linked (lasting g c) c.in-Some-get.above.now above.0 above.1 c.relinked.new.self c.relinked.ensures.disks c.relinked.ensures.out c.relinked.ensures.others))

pub returns-clause-tidy_still : goal.returns-clause-tidy_still
returns-clause-tidy_still g c = λ tidy.
    let above = lasting_above g c in
    subst (λ k. IsTidy (table_alone (g.S.Store.table c.sync-2.new.self)) k) (sym (memory_is g c))
    (subst (λ t. IsTidy t (then g c)) (sym (table_is g c)) (tidy_linked (lasting g c) c.in-Some-get.above.now above.0 above.1 c.relinked.new.self c.relinked.ensures.disks tidy))

pub returns-clause-true_still : goal.returns-clause-true_still
returns-clause-true_still g c =
    let above = lasting_above g c in
    true_linked g.S.Store c.sync.new.self c.set_parent-linked.new.store c.args.memory.now c.args.child.now c.in-Relink.out c.in-Relink.parent c.in-Some.row c.in-Some-get.above.now
    (links_there g.S.Store c.args.store.now c.sync.new.self c.args.memory.now c.args.child.now c.in-Relink.out c.in-Relink.parent c.in-Some.row c.sync.ensures.site c.sync.ensures.table.0
    (lasting g c)) above.0 above.1
    c.set_parent-linked.ensures.works c.sync-2.new.self c.sync-2.ensures.site c.sync-2.ensures.table.0 c.sync-2.ensures.keeps
    (record { tree = c.add.new.self; records = c.args.memory.now.records; logs = c.args.memory.now.logs; attached = c.relinked.new.self; operation = c.args.memory.now.operation }) c.set_parent-linked.new.self
    (rows_are g c) c.in_ok-linked.ensures.new_parent c.in_ok-linked.ensures.true_after
    (true_stays g.S.Store c.args.memory.now c.args.memory.now c.sync.ensures.site c.sync.ensures.table.0 refl c.sync.ensures.keeps c.requires.true_now)

pub returns-clause-shape : goal.returns-clause-shape
returns-clause-shape g c =
    let above = lasting_above g c in
    ap (λ k. shape_in (g.S.Store.site c.sync-2.new.self) (table_alone (g.S.Store.table c.sync-2.new.self)) k) (memory_is g c)
    ∙ ap₂ (λ s t. shape_in s t (then g c)) (site_is g c) (table_is g c) ∙ shape_next_linked (lasting g c) c.in-Some-get.above.now above.0 above.1 c.relinked.new.self c.relinked.ensures.disks

pub returns-clause-done : goal.returns-clause-done
returns-clause-done g c = λ told ready.
    relink_done g.S.Store c.args.store.now c.sync.new.self c.set_parent-linked.new.store c.args.memory.now c.args.child.now c.in-Relink.out c.in-Relink.parent c.in-Some.row c.in-Some-get.above.now
    (lasting g c) (lasting_above g c)
    c.requires.usable g.met.S.Store.leaves_now (lasting_rest g c) c.set_parent-linked.ensures.works c.set_parent-linked.ensures.changes told ready c.sync-2.new.self
    (record { site = c.sync-2.ensures.site; table = c.sync-2.ensures.table.0; failed = c.sync-2.ensures.table.1; keeps = c.sync-2.ensures.keeps told; leaves = c.sync-2.ensures.leaves told })
    (let e = c.sync-2.ensures in stays_from {g = g.S.Store} e.site e.table e.no_less e.counts e.beside) (c.in_ok-sync-2.ensures.settled told)
    c.set_parent-linked.new.self c.in_ok-linked.ensures.new_parent c.in_ok-linked.ensures.true_after _ c.relinked.new.self (memory_is g c) _

-- ---- nothing else was pending when the child was linked

pub returns-in_err-sync-clause-first : goal.returns-in_err-sync-clause-first
returns-in_err-sync-clause-first g c = λ told t image leaves. inl (c.sync.ensures.leaves told t image leaves)

pub returns-in_err-linked-clause-first : goal.returns-in_err-linked-clause-first
returns-in_err-linked-clause-first g c =
    written_synced g.S.Store c.args.store.now c.sync.new.self c.set_parent-linked.new.store c.args.child.now c.requires.usable g.met.S.Store.leaves_now (unlinked_rest g c)
    (subst (λ n. WorksOn g.S.Store n c.sync.new.self c.set_parent-linked.new.store) (unlinked g c).named c.set_parent-linked.ensures.works)

pub returns-in_err-sync-2-clause-first : goal.returns-in_err-sync-2-clause-first
returns-in_err-sync-2-clause-first g c =
    synced_again g.S.Store c.args.store.now c.sync.new.self c.set_parent-linked.new.store c.args.child.now c.requires.usable g.met.S.Store.leaves_now (unsynced_rest g c)
    (subst (λ n. WorksOn g.S.Store n c.sync.new.self c.set_parent-linked.new.store) (unsynced g c).named c.set_parent-linked.ensures.works) c.sync-2.new.self c.sync-2.ensures.leaves

pub returns-clause-first : goal.returns-clause-first
returns-clause-first g c =
    synced_again g.S.Store c.args.store.now c.sync.new.self c.set_parent-linked.new.store c.args.child.now c.requires.usable g.met.S.Store.leaves_now (lasting_rest g c)
    (subst (λ n. WorksOn g.S.Store n c.sync.new.self c.set_parent-linked.new.store) (lasting g c).named c.set_parent-linked.ensures.works) c.sync-2.new.self c.sync-2.ensures.leaves

-- ---- the frame

pub returns-in_err-sync-clause-step : goal.returns-in_err-sync-clause-step
returns-in_err-sync-clause-step g c = let e = c.sync.ensures in stays_now g.met.S.Store.leaves_now c.requires.usable (stays_from {g = g.S.Store} e.site e.table e.no_less e.counts e.beside)

pub returns-in_err-linked-clause-step : goal.returns-in_err-linked-clause-step
returns-in_err-linked-clause-step g c =
    let e = c.sync.ensures in
    stays_now g.met.S.Store.leaves_now c.requires.usable (stays_then (stays_from {g = g.S.Store} e.site e.table e.no_less e.counts e.beside) c.set_parent-linked.ensures.works.stays)

pub returns-in_err-sync-2-clause-step : goal.returns-in_err-sync-2-clause-step
returns-in_err-sync-2-clause-step g c =
    let e = c.sync.ensures in
    let f = c.sync-2.ensures in
    stays_now g.met.S.Store.leaves_now c.requires.usable
    (stays_then (stays_from {g = g.S.Store} e.site e.table e.no_less e.counts e.beside) (stays_then c.set_parent-linked.ensures.works.stays (stays_from {g = g.S.Store} f.site f.table f.no_less f.counts f.beside)))

pub returns-clause-step : goal.returns-clause-step
returns-clause-step g c =
    let e = c.sync.ensures in
    let f = c.sync-2.ensures in
    stays_now g.met.S.Store.leaves_now c.requires.usable
    (stays_then (stays_from {g = g.S.Store} e.site e.table e.no_less e.counts e.beside) (stays_then c.set_parent-linked.ensures.works.stays (stays_from {g = g.S.Store} f.site f.table f.no_less f.counts f.beside)))
