use Rattle.std.proofs.Common.{length, ◌≡◌, ap, ap₂, arith, refl, subst, subst₂, sym, unwrap_or, ◌∙◌}
use Rattle.sm_base.specs.Names.{IsName}
use Rattle.vg_meta.specs.Roomy.{table_alone}
use Rattle.vg_volumes.specs.Sites.{Site}
use Rattle.vhd_image.specs.Bodies.{sector_count, volume_name}
use Rattle.vhd_image.specs.Made.{IsDiskSize, IsParentImage}
use Rattle.vhd_chain.specs.Trees.{row_name, tree_row}
use Rattle.vhd_chain.specs.declared.rows.TreeRow.{TreeRow}
use Rattle.sm_mgt.specs.Places.{place_for}
use Rattle.sm_ready.specs.declared.memory.Memory.{Memory}
use Rattle.sm_ready.proofs.ChainLaws.{err_not_ok}
use Rattle.sm_calls.specs.Calls.{DoesRun}
use Rattle.sm_clone.specs.Forking.{fork_calls, forked_rows}
use Rattle.sm_clone.proofs.ForkedLaws.{IsForkedMemory, orderly_end, shape_end, tidy_end, true_end}
use Rattle.sm_calls.proofs.StoreLaws.{run_steps}
use Rattle.sm_clone.proofs.DoneLaws.{fork_done, fork_failed, run_begun, run_ended, run_filled}
use Rattle.sm_clone.proofs.MakingLaws.{apart, base_named, can_begin, can_end, few_own, few_twins, found_not, images_are, names, names_apart, no_base, no_leaf, no_twin, number_is, own_room, parent_is, places, size_is, three_spare, tree_room, twin_room, use_room}
use Rattle.sm_clone.proofs.forking.make_fork.Given.{Over}
use Rattle.sm_clone.proofs.forking.make_fork.Goals as goal

pub unreachable-requires : goal.unreachable-requires
unreachable-requires g c = found_not c.requires.can (sym c.take.ensures.taken ∙ c.in_default.is)

pub overflow_cast-own_count : goal.overflow_cast-own_count
overflow_cast-own_count g c = omega (arith, c.len-own_count.ensures, c.args.parts.own.ok.0, few_own c.requires.can)

pub overflow_cast-twin_count : goal.overflow_cast-twin_count
overflow_cast-twin_count g c = omega (arith, c.len-twin_count.ensures, c.args.parts.twins.ok.0, few_twins c.requires.can)

pub begin-requires : goal.begin-requires
begin-requires g c = can_begin c.requires.can

pub returns-in_err-begin-clause-step : goal.returns-in_err-begin-clause-step
returns-in_err-begin-clause-step g c = run_steps (run_begun c.args.now c.make_base.new.row.image (unwrap_or (place_for c.args.memory.now.records c.args.entry.uuid) 0) c.args.entry c.in_err-begin.ensures.cut)

pub returns-in_err-begin-clause-done : goal.returns-in_err-begin-clause-done
returns-in_err-begin-clause-done g c = λ told ready.
    fork_failed c.requires.can told ready c.args.now c.make_base.new.row.image c.in-Some.base (sym c.take.ensures.taken ∙ c.in-Some.is) (ap (λ (r : TreeRow). r.image) c.make_base.ensures) _ refl _
    (λ fine. err_not_ok _ tt c.from_residual.ensures.0 fine) (run_begun c.args.now c.make_base.new.row.image (unwrap_or (place_for c.args.memory.now.records c.args.entry.uuid) 0) c.args.entry c.in_err-begin.ensures.cut)

pub fill-requires-clause-own_room : goal.fill-requires-clause-own_room
fill-requires-clause-own_room g c = own_room c.requires.can c.in_ok-begin.ensures.run

pub fill-requires-clause-twin_room : goal.fill-requires-clause-twin_room
fill-requires-clause-twin_room g c = twin_room c.requires.can c.in_ok-begin.ensures.run

pub fill-requires-clause-apart : goal.fill-requires-clause-apart
fill-requires-clause-apart g c = apart c.requires.can

pub fill-requires-clause-size : goal.fill-requires-clause-size
fill-requires-clause-size g c =
    subst₂ (λ (z : Site) (r : TreeRow). IsDiskSize z.geometry (sector_count r.image)) (sym c.in_ok-begin.ensures.run.site) (sym c.make_base.ensures)
    (size_is c.requires.can c.in-Some.base (sym c.take.ensures.taken ∙ c.in-Some.is))

pub fill-requires-clause-parent : goal.fill-requires-clause-parent
fill-requires-clause-parent g c = subst (λ (r : TreeRow). IsParentImage r.image) (sym c.make_base.ensures) (parent_is c.requires.can c.in-Some.base (sym c.take.ensures.taken ∙ c.in-Some.is))

pub fill-requires-clause-places : goal.fill-requires-clause-places
fill-requires-clause-places g c = places c.requires.can c.in_ok-begin.ensures.run

pub returns-in_err-own-clause-step : goal.returns-in_err-own-clause-step
returns-in_err-own-clause-step g c =
    run_steps (run_filled c.args.now c.make_base.new.row.image (unwrap_or (place_for c.args.memory.now.records c.args.entry.uuid) 0) c.args.entry c.in_ok-begin.ensures.run c.fill.ensures.stays c.fill.ensures.middle (g.met.S.Store.leaves_now c.fill.new.store))

pub returns-in_err-own-clause-done : goal.returns-in_err-own-clause-done
returns-in_err-own-clause-done g c = λ told ready.
    fork_failed c.requires.can told ready c.args.now c.make_base.new.row.image c.in-Some.base (sym c.take.ensures.taken ∙ c.in-Some.is) (ap (λ (r : TreeRow). r.image) c.make_base.ensures) _ refl _
    (λ fine. err_not_ok _ tt c.from_residual-in_err-own.ensures.0 fine)
    (run_filled c.args.now c.make_base.new.row.image (unwrap_or (place_for c.args.memory.now.records c.args.entry.uuid) 0) c.args.entry c.in_ok-begin.ensures.run c.fill.ensures.stays c.fill.ensures.middle (g.met.S.Store.leaves_now c.fill.new.store))

pub end-requires : goal.end-requires
end-requires g c = can_end c.requires.can c.in_ok-begin.ensures.run c.fill.ensures.stays

pub returns-in_err-end-clause-step : goal.returns-in_err-end-clause-step
returns-in_err-end-clause-step g c =
    run_steps (run_ended c.args.now c.make_base.new.row.image (unwrap_or (place_for c.args.memory.now.records c.args.entry.uuid) 0) c.args.entry c.in_ok-begin.ensures.run c.fill.ensures.stays c.fill.ensures.middle (g.met.S.Store.leaves_now c.fill.new.store)
    c.in_ok-own.ensures.filled c.in_err-end.ensures.cut)

pub returns-in_err-end-clause-done : goal.returns-in_err-end-clause-done
returns-in_err-end-clause-done g c = λ told ready.
    fork_failed c.requires.can told ready c.args.now c.make_base.new.row.image c.in-Some.base (sym c.take.ensures.taken ∙ c.in-Some.is) (ap (λ (r : TreeRow). r.image) c.make_base.ensures) _ refl _
    (λ fine. err_not_ok _ tt c.from_residual-in_err-end.ensures.0 fine)
    (run_ended c.args.now c.make_base.new.row.image (unwrap_or (place_for c.args.memory.now.records c.args.entry.uuid) 0) c.args.entry c.in_ok-begin.ensures.run c.fill.ensures.stays c.fill.ensures.middle (g.met.S.Store.leaves_now c.fill.new.store)
    c.in_ok-own.ensures.filled c.in_err-end.ensures.cut)

pub add_rows-requires-clause-room : goal.add_rows-requires-clause-room
add_rows-requires-clause-room g c = three_spare c.requires.can c.take.new.self.spare c.in-Some.ensures.some c.requires.can.session.tree_room

pub add_rows-requires-clause-names : goal.add_rows-requires-clause-names
add_rows-requires-clause-names g c =
    let base = ap row_name c.make_base.ensures ∙ base_named c.requires.can c.in-Some.base (sym c.take.ensures.taken ∙ c.in-Some.is) in
    let own = ap row_name c.shown_row-own.ensures ∙ ap volume_name c.in_ok-own.ensures.own in
    let twin = ap row_name c.shown_row-twin.ensures ∙ ap volume_name c.in_ok-own.ensures.twin in
    let is = names c.requires.can in
    (subst IsName (sym base) is.0, subst IsName (sym own) is.1, subst IsName (sym twin) is.2)

pub add_rows-requires-clause-no_base : goal.add_rows-requires-clause-no_base
add_rows-requires-clause-no_base g c =
    ap₂ tree_row c.take.ensures.rows (ap row_name c.make_base.ensures ∙ base_named c.requires.can c.in-Some.base (sym c.take.ensures.taken ∙ c.in-Some.is)) ∙ no_base c.requires.can

pub add_rows-requires-clause-no_own : goal.add_rows-requires-clause-no_own
add_rows-requires-clause-no_own g c =
    ap₂ tree_row c.take.ensures.rows (ap row_name c.shown_row-own.ensures ∙ ap volume_name c.in_ok-own.ensures.own) ∙ no_leaf c.requires.can

pub add_rows-requires-clause-no_twin : goal.add_rows-requires-clause-no_twin
add_rows-requires-clause-no_twin g c =
    ap₂ tree_row c.take.ensures.rows (ap row_name c.shown_row-twin.ensures ∙ ap volume_name c.in_ok-own.ensures.twin) ∙ no_twin c.requires.can

pub add_rows-requires-clause-apart : goal.add_rows-requires-clause-apart
add_rows-requires-clause-apart g c =
    let base = ap row_name c.make_base.ensures ∙ base_named c.requires.can c.in-Some.base (sym c.take.ensures.taken ∙ c.in-Some.is) in
    let own = ap row_name c.shown_row-own.ensures ∙ ap volume_name c.in_ok-own.ensures.own in
    let twin = ap row_name c.shown_row-twin.ensures ∙ ap volume_name c.in_ok-own.ensures.twin in
    let apart = names_apart c.requires.can in
    (λ is. apart.0 (sym base ∙ is ∙ own), λ is. apart.1 (sym base ∙ is ∙ twin), λ is. apart.2 (sym own ∙ is ∙ twin))

pub note_uses-requires : goal.note_uses-requires
note_uses-requires g c = record { room = use_room c.requires.can c.requires.can.session.attachment_room }

-- ---- at the end

-- what is in memory then
abbrev last : (g : Over) (c : goal.After-note_uses g) → Memory
last g c = record { tree = c.add_rows.new.tree; records = c.fill.new.records; logs = c.args.memory.now.logs; attached = c.note_uses.new.attached; operation = c.args.memory.now.operation }

rows_are : (g : Over) (c : goal.After-note_uses g) → c.add_rows.new.tree.rows ≡ forked_rows (g.S.Store.site c.args.store.now) (table_alone (g.S.Store.table c.args.store.now)) c.args.fork.now c.args.now
    (length c.args.parts.own.items) (length c.args.parts.twins.items) (tree_row c.args.memory.now.tree.rows c.args.fork.now.own) c.args.memory.now.tree.rows
rows_are g c =
    let begun = c.in_ok-begin.ensures.run in
    let own : c.len-own_count.result ≡ length c.args.parts.own.items = omega (arith, c.len-own_count.ensures, c.args.parts.own.ok.0) in
    let twins : c.len-twin_count.result ≡ length c.args.parts.twins.items = omega (arith, c.len-twin_count.ensures, c.args.parts.twins.ok.0) in
    images_are c.requires.can c.args.now (table_alone (g.S.Store.table c.begin.new.store)).sequence _ _ (g.S.Store.site c.begin.new.store) c.in-Some.base c.make_base.new.row c.shown_row-own.result c.shown_row-twin.result _ _
    c.take.new.self.rows c.add_rows.new.tree.rows (sym c.take.ensures.taken ∙ c.in-Some.is) c.take.ensures.rows c.make_base.ensures begun.site (number_is c.requires.can begun)
    own twins c.in_ok-own.ensures.own c.in_ok-own.ensures.twin c.shown_row-own.ensures c.shown_row-twin.ensures c.add_rows.ensures.rows

memory_is : (g : Over) (c : goal.After-note_uses g) → IsForkedMemory (g.S.Store.site c.args.store.now) (table_alone (g.S.Store.table c.args.store.now)) c.args.memory.now (last g c) c.args.fork.now
    (length c.args.parts.own.items) (length c.args.parts.twins.items) c.args.entry c.args.now
memory_is g c = record { rows = rows_are g c; records = c.in_ok-own.ensures.kept; logs = refl; uses = c.note_uses.ensures.uses; others = refl }

run : (g : Over) (c : goal.After-note_uses g) → DoesRun g.S.Store (fork_calls (g.S.Store.site c.args.store.now) (table_alone (g.S.Store.table c.args.store.now)) c.args.fork.now c.args.parts.own.items
    c.args.parts.twins.items c.args.now c.make_base.new.row.image (unwrap_or (place_for c.args.memory.now.records c.args.entry.uuid) 0) c.args.entry) c.args.store.now c.end.new.store (Unit {0})
run g c = run_ended c.args.now c.make_base.new.row.image (unwrap_or (place_for c.args.memory.now.records c.args.entry.uuid) 0) c.args.entry c.in_ok-begin.ensures.run c.fill.ensures.stays c.fill.ensures.middle
    (g.met.S.Store.leaves_now c.fill.new.store) c.in_ok-own.ensures.filled c.in_ok-end.ensures.run

pub returns-clause-step : goal.returns-clause-step
returns-clause-step g c = run_steps (run g c)

pub returns-clause-session_still : goal.returns-clause-session_still
returns-clause-session_still g c =
    let can = c.requires.can in
    let i = can.session in
    record {
      usable = (run g c).usable tt;
      orderly = orderly_end can (last g c) c.args.now (run g c).site ((run g c).table tt) (memory_is g c);
      tidy = tidy_end can (last g c) c.args.now (run g c).site ((run g c).table tt) (memory_is g c);
      true_images = true_end can c.args.now c.make_base.new.row.image (run g c) c.in-Some.base (sym c.take.ensures.taken ∙ c.in-Some.is) (ap (λ (r : TreeRow). r.image) c.make_base.ensures)
          (last g c) (rows_are g c) i.true_images;
      rows = (run g c).rows tt i.rows;
      tree_room = tree_room can c.take.new.self c.add_rows.new.tree _ _ _ c.take.ensures.rows c.in-Some.ensures.some c.add_rows.ensures.rows c.add_rows.ensures.spare i.tree_room;
      attachment_room = let room = i.attachment_room in omega (arith, room, c.note_uses.ensures.room);
    }

pub returns-clause-images : goal.returns-clause-images
returns-clause-images g c = rows_are g c

pub returns-clause-shape : goal.returns-clause-shape
returns-clause-shape g c =
    let can = c.requires.can in
    shape_end can (last g c) c.args.now (run g c).site ((run g c).table tt) (memory_is g c)

pub returns-clause-done : goal.returns-clause-done
returns-clause-done g c = λ told ready.
    fork_done c.requires.can told ready c.args.now c.make_base.new.row.image c.in-Some.base (sym c.take.ensures.taken ∙ c.in-Some.is) (ap (λ (r : TreeRow). r.image) c.make_base.ensures) (last g c) _
    (run g c) (memory_is g c)
