use Rattle.std.proofs.Common.{false, ◌≡◌, [], ◌∷◌, refl, sym, ap, ◌∙◌, subst, arith}
use Rattle.sm_base.specs.Names.{IsName}
use Rattle.sm_base.specs.declared.names.Name.TheVariants.{Vhd}
use Rattle.vg_meta.specs.Roomy.{RoomyTable, table_alone}
use Rattle.vg_meta.specs.declared.changes.Change.TheVariants.{Mark}
use Rattle.vg_meta.specs.declared.changes.Tag.TheVariants.{Fresh}
use Rattle.vhd_chain.specs.Trees.{with_row}
use Rattle.sm_ready.specs.Known.{known}
use Rattle.sm_ready.specs.declared.memory.Memory.{Memory}
use Rattle.sm_ready.proofs.ChainLaws.{err_not_ok}
use Rattle.sm_ready.proofs.LastLaws.{made_memory}
use Rattle.sm_ready.proofs.LeftLaws.{mgt_long}
use Rattle.sm_ready.proofs.MakingLaws.{known_made}
use Rattle.sm_ready.proofs.RoomLaws.{tree_room_with}
use Rattle.sm_calls.specs.Calls.{Commit}
use Rattle.sm_calls.proofs.StoreLaws.{run_front, run_steps, run_then}
use Rattle.sm_importing.specs.Endings.{place_of, record_calls, row_of}
use Rattle.sm_importing.specs.Imports.{extents_of_volume}
use Rattle.sm_importing.proofs.CompleteLaws.{between_made, can_mark, completes_cut, completes_made, volume_few}
use Rattle.sm_importing.proofs.completing.complete.Given.{Over}
use Rattle.sm_importing.proofs.completing.complete.Goals as goal

pub overflow_cast-extents : goal.overflow_cast-extents
overflow_cast-extents g c =
    let h = c.requires.importing in
    let few = volume_few (Vhd c.args.entry.uuid) h.volume.row h.orderly h.volume.there in
    let is = c.extents_in-extents.ensures ∙ ap (λ (k : RoomyTable). extents_of_volume (table_alone k) (Vhd c.args.entry.uuid)) c.table.ensures.table in
    omega (arith, is, few)

pub put_record-requires-clause-places : goal.put_record-requires-clause-places
put_record-requires-clause-places g c = mgt_long (g.S.Store.site c.args.store.now) (table_alone (g.S.Store.table c.args.store.now)) (known c.args.memory.now) c.requires.importing.orderly

pub commit-requires : goal.commit-requires
commit-requires g c = let r = c.requires in can_mark r.importing r.proper r.writable r.image c.in_ok-put_record.ensures.run

pub returns-in_err-put_record-clause-completes : goal.returns-in_err-put_record-clause-completes
returns-in_err-put_record-clause-completes g c = λ a made since told disk.
    let r = c.requires in
    let s = g.S.Store.site c.args.store.now in
    let t = table_alone (g.S.Store.table c.args.store.now) in
    completes_cut r.importing r.proper r.writable r.image since made told disk r.steady _ _ (λ fine. err_not_ok _ tt c.from_residual.ensures.0 fine) c.put_record.ensures.logs
    (run_front (record_calls s t (place_of c.args.memory.now c.args.entry) c.args.entry) (Commit (Mark (Vhd c.args.entry.uuid) Fresh false) ∷ []) c.in_err-put_record.ensures.cut)

pub returns-in_err-commit-clause-completes : goal.returns-in_err-commit-clause-completes
returns-in_err-commit-clause-completes g c = λ a made since told disk.
    let r = c.requires in
    let s = g.S.Store.site c.args.store.now in
    let t = table_alone (g.S.Store.table c.args.store.now) in
    let one : Unit {0} = tt in
    completes_cut r.importing r.proper r.writable r.image since made told disk r.steady _ _ (λ fine. err_not_ok _ tt c.from_residual-in_err-commit.ensures.0 fine) c.put_record.ensures.logs
    (run_then (record_calls s t (place_of c.args.memory.now c.args.entry) c.args.entry) (Commit (Mark (Vhd c.args.entry.uuid) Fresh false) ∷ []) one c.in_ok-put_record.ensures.run c.in_err-commit.ensures.cut)

pub returns-in_err-commit-clause-step : goal.returns-in_err-commit-clause-step
returns-in_err-commit-clause-step g c =
    let s = g.S.Store.site c.args.store.now in
    let t = table_alone (g.S.Store.table c.args.store.now) in
    let one : Unit {0} = tt in
    run_steps (run_then (record_calls s t (place_of c.args.memory.now c.args.entry) c.args.entry) (Commit (Mark (Vhd c.args.entry.uuid) Fresh false) ∷ []) one c.in_ok-put_record.ensures.run c.in_err-commit.ensures.cut)

pub add-requires-clause-name : goal.add-requires-clause-name
unfolding IsName
add-requires-clause-name g c = subst IsName (sym c.requires.image.named) c.requires.proper.uuid.uuid

pub returns-clause-step : goal.returns-clause-step
returns-clause-step g c =
    let s = g.S.Store.site c.args.store.now in
    let t = table_alone (g.S.Store.table c.args.store.now) in
    let one : Unit {0} = tt in
    run_steps (run_then (record_calls s t (place_of c.args.memory.now c.args.entry) c.args.entry) (Commit (Mark (Vhd c.args.entry.uuid) Fresh false) ∷ []) one c.in_ok-put_record.ensures.run c.in_ok-commit.ensures.run)

-- what is in memory then
abbrev last : (g : Over) (c : goal.After-add g) → Memory
last g c = record { tree = c.add.new.self; records = c.put_record.new.memory.records; logs = c.put_record.new.memory.logs; attached = c.put_record.new.memory.attached; operation = c.put_record.new.memory.operation }

row_added : (g : Over) (c : goal.After-add g) → c.add.new.self.rows
    ≡ with_row (row_of c.args.image (extents_of_volume (table_alone (g.S.Store.table c.args.store.now)) (Vhd c.args.entry.uuid))) c.put_record.new.memory.tree.rows
row_added g c = c.add.ensures.rows ∙ ap (λ n. with_row (row_of c.args.image n) c.put_record.new.memory.tree.rows)
    (c.extents_in-extents.ensures ∙ ap (λ (k : RoomyTable). extents_of_volume (table_alone k) (Vhd c.args.entry.uuid)) c.table.ensures.table)

memory_is : (g : Over) (c : goal.After-add g) → known (last g c)
    ≡ made_memory (row_of c.args.image (extents_of_volume (table_alone (g.S.Store.table c.args.store.now)) (Vhd c.args.entry.uuid))) (place_of c.args.memory.now c.args.entry) c.args.entry (known c.args.memory.now)
memory_is g c =
    let x = c.put_record.ensures.others in
    known_made c.args.memory.now c.put_record.new.memory (last g c) (row_of c.args.image (extents_of_volume (table_alone (g.S.Store.table c.args.store.now)) (Vhd c.args.entry.uuid)))
    (place_of c.args.memory.now c.args.entry) c.args.entry x.0 c.put_record.ensures.logs x.1 x.2 c.in_ok-put_record.ensures.kept (row_added g c) refl refl refl refl

pub returns-clause-session : goal.returns-clause-session
returns-clause-session g c =
    let r = c.requires in
    let s = g.S.Store.site c.args.store.now in
    let t = table_alone (g.S.Store.table c.args.store.now) in
    let one : Unit {0} = tt in
    between_made r.importing r.proper r.writable r.image (last g c) (memory_is g c)
    (run_then (record_calls s t (place_of c.args.memory.now c.args.entry) c.args.entry) (Commit (Mark (Vhd c.args.entry.uuid) Fresh false) ∷ []) one c.in_ok-put_record.ensures.run c.in_ok-commit.ensures.run)
    r.steady (tree_room_with _ _ _ _ c.put_record.ensures.others.0 (row_added g c) c.add.ensures.spare r.importing.tree_room)

pub returns-clause-completes : goal.returns-clause-completes
returns-clause-completes g c = λ a made since told disk.
    let r = c.requires in
    let s = g.S.Store.site c.args.store.now in
    let t = table_alone (g.S.Store.table c.args.store.now) in
    let one : Unit {0} = tt in
    completes_made r.importing r.proper r.writable r.image since made told disk r.steady (last g c) _ (memory_is g c)
    (run_then (record_calls s t (place_of c.args.memory.now c.args.entry) c.args.entry) (Commit (Mark (Vhd c.args.entry.uuid) Fresh false) ∷ []) one c.in_ok-put_record.ensures.run c.in_ok-commit.ensures.run)
