use Rattle.std.proofs.Common.{◌≡◌, ◌*◌, ◌<◌, ◌≤◌, true, false, length, refl, sym, ap, ap₂, ◌∙◌, arith, subst}
use Rattle.std.proofs.Math.Nat.{mul-le-mul}
use Rattle.sm_base.specs.Limits.{extent_limit}
use Rattle.sm_base.specs.declared.names.Name.TheVariants.{Raw}
use Rattle.sm_base.specs.declared.sizes.Geometry.{Geometry}
use Rattle.sm_disk.proofs.HeldLaws.{Keeps-none}
use Rattle.vg_meta.specs.Roomy.{table_alone}
use Rattle.vhd_chain.specs.Trees.{Tree, tree_row, with_row}
use Rattle.sm_ready.specs.Known.{known, shape_in}
use Rattle.sm_record.specs.declared.records.Record.{Record}
use Rattle.sm_ready.proofs.CauseLaws.{raw_uuid}
use Rattle.sm_ready.proofs.ChainLaws.{err_not_ok}
use Rattle.sm_ready.proofs.FramingLaws.{commit_steps, failed_steps, more_steps, then_steps}
use Rattle.sm_ready.proofs.LastLaws.{made_memory}
use Rattle.sm_ready.proofs.MakingLaws.{MakesIn, can_begin, can_end, next_orderly, next_there, begin_failed, fill_failed, end_failed, end_made, table_end, known_made}
use Rattle.sm_ready.proofs.NewLaws.{no_row, shape_made}
use Rattle.sm_ready.proofs.RoomLaws.{tree_room_with}
use Rattle.vg_meta.specs.declared.changes.Change.TheVariants.{Create, Mark}
use Rattle.vg_meta.specs.declared.changes.Tag.TheVariants.{Fresh}
use Rattle.cmd_create.specs.Stages.{raw_row}
use Rattle.cmd_create.proofs.MadeBetween.{begun_steps, between_made}
use Rattle.cmd_create.proofs.RawLaws.{disk_is, enough, makes, place_of, raw_image, row_is}
use Rattle.cmd_create.proofs.making.make_disk.Given.{Over}
use Rattle.cmd_create.proofs.making.make_disk.Goals as goal

pub overflow_cast-count : goal.overflow_cast-count
overflow_cast-count g c =
    let r = c.requires in
    omega (arith, c.len-count.ensures, enough (g.S.Store.site c.args.store.now) (table_alone (g.S.Store.table c.args.store.now)) (known c.args.memory.now) c.args.entry.uuid c.args.entry.label r.disk.size r.session.orderly r.session.tidy r.disk.accepted, r.disk.many, c.args.extents.ok.0)

pub overflow_mul-sectors : goal.overflow_mul-sectors
overflow_mul-sectors g c =
    let r = c.requires in
    let most : c.from.result ≤ extent_limit = omega (arith, c.from.ensures, c.len-count.ensures, enough (g.S.Store.site c.args.store.now) (table_alone (g.S.Store.table c.args.store.now)) (known c.args.memory.now) c.args.entry.uuid c.args.entry.label r.disk.size r.session.orderly r.session.tidy r.disk.accepted, r.disk.many, c.args.extents.ok.0) in
    let wide : c.from-2.result ≤ 8192 = omega (arith, c.from-2.ensures, c.geometry.result.in_range.extent_most) in
    omega (arith, mul-le-mul most wide)

pub begin-requires : goal.begin-requires
begin-requires g c = let r = c.requires in can_begin (makes g.S.Store c.args.store.now c.args.memory.now c.args.entry c.args.extents.items r.session.orderly r.session.tidy r.disk r.proper r.plain r.place r.session.usable) r.row

pub returns-in_err-begin-clause-done : goal.returns-in_err-begin-clause-done
returns-in_err-begin-clause-done g c = λ told ready.
    let r = c.requires in
    begin_failed (makes g.S.Store c.args.store.now c.args.memory.now c.args.entry c.args.extents.items r.session.orderly r.session.tidy r.disk r.proper r.plain r.place r.session.usable) told ready _ _ _ (λ fine. err_not_ok _ tt c.from_residual.ensures.0 fine) refl c.in_err-begin.ensures.fails (c.begin.ensures.crash told)

pub fill_disk-requires-clause-orderly : goal.fill_disk-requires-clause-orderly
fill_disk-requires-clause-orderly g c = let r = c.requires in next_orderly (makes g.S.Store c.args.store.now c.args.memory.now c.args.entry c.args.extents.items r.session.orderly r.session.tidy r.disk r.proper r.plain r.place r.session.usable) c.in_ok-begin.ensures.commits

pub fill_disk-requires-clause-new : goal.fill_disk-requires-clause-new
fill_disk-requires-clause-new g c =
    let r = c.requires in
    record { row = _; there = next_there (makes g.S.Store c.args.store.now c.args.memory.now c.args.entry c.args.extents.items r.session.orderly r.session.tidy r.disk r.proper r.plain r.place r.session.usable) c.in_ok-begin.ensures.commits; fresh = refl; visible = refl; long = omega (arith, c.len-count.ensures, c.args.extents.ok.0) }

pub fill_disk-requires-clause-few : goal.fill_disk-requires-clause-few
fill_disk-requires-clause-few g c =
    let r = c.requires in
    omega (arith, c.len-count.ensures, enough (g.S.Store.site c.args.store.now) (table_alone (g.S.Store.table c.args.store.now)) (known c.args.memory.now) c.args.entry.uuid c.args.entry.label r.disk.size r.session.orderly r.session.tidy r.disk.accepted, r.disk.many, c.args.extents.ok.0)

pub returns-in_err-fill_disk-clause-done : goal.returns-in_err-fill_disk-clause-done
returns-in_err-fill_disk-clause-done g c = λ told ready.
    let r = c.requires in
    let m = c.in_ok-begin.ensures.commits in
    let stays = c.fill_disk.ensures.stays in
    fill_failed (makes g.S.Store c.args.store.now c.args.memory.now c.args.entry c.args.extents.items r.session.orderly r.session.tidy r.disk r.proper r.plain r.place r.session.usable) told ready m (c.begin.ensures.crash told) stays (c.fill_disk.ensures.middle told) _ _ _
    (λ fine. err_not_ok _ tt c.from_residual-in_err-fill_disk.ensures.0 fine) c.fill_disk.ensures.logs (g.met.S.Store.leaves_now c.fill_disk.new.store told (stays.failed ∙ m.usable))

pub end-requires : goal.end-requires
end-requires g c = let r = c.requires in can_end (makes g.S.Store c.args.store.now c.args.memory.now c.args.entry c.args.extents.items r.session.orderly r.session.tidy r.disk r.proper r.plain r.place r.session.usable) c.in_ok-begin.ensures.commits c.fill_disk.ensures.stays

pub returns-in_err-end-clause-done : goal.returns-in_err-end-clause-done
returns-in_err-end-clause-done g c = λ told ready.
    let r = c.requires in
    let b = makes g.S.Store c.args.store.now c.args.memory.now c.args.entry c.args.extents.items r.session.orderly r.session.tidy r.disk r.proper r.plain r.place r.session.usable in
    let filled = c.in_ok-fill_disk.ensures.filled told in
    end_failed b told ready c.in_ok-begin.ensures.commits (c.begin.ensures.crash told) c.fill_disk.ensures.stays (c.fill_disk.ensures.middle told) _ (Keeps-none _) filled.records refl _ (disk_is b r.plain c.in_ok-begin.ensures.commits filled)
    _ _ (λ fine. err_not_ok _ tt c.from_residual-in_err-end.ensures.0 fine) c.fill_disk.ensures.logs c.in_err-end.ensures.fails (c.end.ensures.crash told)

pub add_image-requires-clause-room : goal.add_image-requires-clause-room
add_image-requires-clause-room g c =
    let r = c.requires in
    let few = (makes g.S.Store c.args.store.now c.args.memory.now c.args.entry c.args.extents.items r.session.orderly r.session.tidy r.disk r.proper r.plain r.place r.session.usable).begins.few in
    subst (λ (t : Tree). 0 < t.spare) (sym c.fill_disk.ensures.others.0) (omega (arith, r.session.tree_room, few))

pub add_image-requires-clause-absent : goal.add_image-requires-clause-absent
add_image-requires-clause-absent g c =
    let r = c.requires in
    ap (λ (t : Tree). tree_row t.rows (Raw c.args.entry.uuid)) c.fill_disk.ensures.others.0
    ∙ no_row _ _ _ _ _ _ _ _ (makes g.S.Store c.args.store.now c.args.memory.now c.args.entry c.args.extents.items r.session.orderly r.session.tidy r.disk r.proper r.plain r.place r.session.usable).begins (Raw c.args.entry.uuid) (raw_image _) (raw_uuid _)

-- ---- at the end

made : (g : Over) (c : goal.After-add_image g) → MakesIn g.S.Store c.args.store.now c.args.memory.now (Raw c.args.entry.uuid) c.args.extents.items (raw_row c.args.entry.uuid (length c.args.extents.items) (length c.args.extents.items * (g.S.Store.site c.args.store.now).geometry.extent)) (place_of c.args.memory.now c.args.entry) c.args.entry
made g c = let r = c.requires in makes g.S.Store c.args.store.now c.args.memory.now c.args.entry c.args.extents.items r.session.orderly r.session.tidy r.disk r.proper r.plain r.place r.session.usable

memory_is : (g : Over) (c : goal.After-add_image g) → known c.add_image.new.memory ≡ made_memory (raw_row c.args.entry.uuid (length c.args.extents.items) (length c.args.extents.items * (g.S.Store.site c.args.store.now).geometry.extent)) (place_of c.args.memory.now c.args.entry) c.args.entry (known c.args.memory.now)
memory_is g c =
    let x = c.fill_disk.ensures.others in
    let y = c.add_image.ensures.others in
    let count : c.len-count.result ≡ length c.args.extents.items = omega (arith, c.len-count.ensures, c.args.extents.ok.0) in
    let wide = ap₂ (λ n m. n * m) (c.from.ensures ∙ count) (c.from-2.ensures ∙ ap (λ (h : Geometry). h.extent) c.geometry.ensures) in
    known_made c.args.memory.now c.fill_disk.new.memory c.add_image.new.memory _ _ _ x.0 c.fill_disk.ensures.logs x.1 x.2 c.in_ok-fill_disk.ensures.kept (c.add_image.ensures.rows ∙ ap₂ (λ n m. with_row (raw_row c.args.entry.uuid n m) c.fill_disk.new.memory.tree.rows) count wide) y.0 c.add_image.ensures.logs y.1 y.2

pub returns-clause-shape : goal.returns-clause-shape
returns-clause-shape g c = λ σ disk same.
    let r = c.requires in
    ap₂ (λ y z. shape_in (g.S.Store.site c.args.store.now) y z) (table_end (made g c) c.in_ok-begin.ensures.commits c.fill_disk.ensures.stays c.in_ok-end.ensures.commits) (memory_is g c)
    ∙ shape_made _ _ _ _ _ _ _ _ (made g c).begins σ disk.size true same disk.accepted (ap (λ (q : Record). q.origin) r.plain) (ap (λ (q : Record). q.read_only) r.plain) (row_is _ _ _ _ _ disk.size disk.many)

pub returns-clause-done : goal.returns-clause-done
returns-clause-done g c = λ told ready.
    let filled = c.in_ok-fill_disk.ensures.filled told in
    end_made (made g c) told ready c.in_ok-begin.ensures.commits (c.begin.ensures.crash told) c.fill_disk.ensures.stays (c.fill_disk.ensures.middle told) _ (Keeps-none _) filled.records refl _ (disk_is (made g c) c.requires.plain c.in_ok-begin.ensures.commits filled)
    c.add_image.new.memory _ c.in_ok-end.ensures.commits (c.end.ensures.crash told) (memory_is g c)

-- ---- the frame

pub returns-in_err-begin-clause-step : goal.returns-in_err-begin-clause-step
returns-in_err-begin-clause-step g c = more_steps (omega arith) (failed_steps (Create (Raw c.args.entry.uuid) true c.args.extents.items) c.in_err-begin.ensures.fails c.begin.ensures.crash)

pub returns-in_err-fill_disk-clause-step : goal.returns-in_err-fill_disk-clause-step
returns-in_err-fill_disk-clause-step g c = more_steps (omega arith) (begun_steps c.in_ok-begin.ensures.commits c.begin.ensures.crash c.fill_disk.ensures.stays g.met.S.Store.leaves_now)

pub returns-in_err-end-clause-step : goal.returns-in_err-end-clause-step
returns-in_err-end-clause-step g c =
    then_steps (begun_steps c.in_ok-begin.ensures.commits c.begin.ensures.crash c.fill_disk.ensures.stays g.met.S.Store.leaves_now)
    (failed_steps (Mark (Raw c.args.entry.uuid) Fresh false) c.in_err-end.ensures.fails c.end.ensures.crash)

pub returns-clause-step : goal.returns-clause-step
returns-clause-step g c =
    then_steps (begun_steps c.in_ok-begin.ensures.commits c.begin.ensures.crash c.fill_disk.ensures.stays g.met.S.Store.leaves_now) (commit_steps c.in_ok-end.ensures.commits c.end.ensures.crash)

pub returns-clause-session_still : goal.returns-clause-session_still
returns-clause-session_still g c =
    between_made (made g c) c.in_ok-begin.ensures.commits c.fill_disk.ensures.stays c.in_ok-end.ensures.commits c.requires.row c.add_image.new.memory (memory_is g c)
    (tree_room_with _ _ _ _ c.fill_disk.ensures.others.0 c.add_image.ensures.rows c.add_image.ensures.spare c.requires.session.tree_room) c.fill_disk.ensures.middle (λ told. refl) c.requires.session
