use Rattle.std.proofs.Common.{◌≡◌, ◌<◌, true, false, length, refl, sym, ap, ap₂, ◌∙◌, arith, subst}
use Rattle.sm_base.specs.Names.{IsName}
use Rattle.sm_base.specs.declared.names.Name.TheVariants.{Vhd}
use Rattle.vg_volumes.specs.Sites.{Site}
use Rattle.vhd_chain.specs.Trees.{Tree, tree_row, with_row}
use Rattle.vhd_image.specs.Bodies.{volume_name}
use Rattle.vhd_image.specs.Made.{IsDiskSize}
use Rattle.vhd_image.specs.declared.images.Body.{Body}
use Rattle.sm_record.specs.declared.records.Record.{Record}
use Rattle.sm_ready.specs.Known.{known, shape_in}
use Rattle.sm_ready.specs.declared.memory.Memory.{Memory}
use Rattle.sm_ready.proofs.CauseLaws.{vhd_uuid}
use Rattle.sm_ready.proofs.ChainLaws.{err_not_ok}
use Rattle.sm_ready.proofs.FramingLaws.{commit_steps, failed_steps, more_steps, then_steps}
use Rattle.sm_ready.proofs.LastLaws.{made_memory}
use Rattle.sm_ready.proofs.MadeLaws.{read_end}
use Rattle.sm_ready.proofs.MakingLaws.{begin_failed, can_begin, can_end, end_failed, end_made, fill_failed, known_made, next_orderly, next_there, table_end}
use Rattle.sm_ready.proofs.NewLaws.{no_row, shape_made}
use Rattle.sm_ready.proofs.RoomLaws.{tree_room_with}
use Rattle.cmd_create.specs.Vhds.{HasHead, vhd_extents, vhd_row}
use Rattle.vg_meta.specs.declared.changes.Change.TheVariants.{Create, Mark}
use Rattle.vg_meta.specs.declared.changes.Tag.TheVariants.{Fresh}
use Rattle.cmd_create.proofs.MadeBetween.{begun_steps, between_made}
use Rattle.cmd_create.proofs.RawLaws.{place_of}
use Rattle.cmd_create.proofs.VhdLaws.{added, added_is, added_now, head, imaged, makes_vhd, not_many, size_is, steady_vhd, vhd_disk_is, vhd_image}
use Rattle.cmd_create.proofs.vhd_making.make_vhd_disk.Given.{Over}
use Rattle.cmd_create.proofs.vhd_making.make_vhd_disk.Goals as goal

pub overflow_cast-count : goal.overflow_cast-count
overflow_cast-count g c = omega (arith, c.len-count.ensures, not_many (g.S.Store.site c.args.store.now), c.requires.can.disk.many, c.args.extents.ok.0)

pub begin-requires : goal.begin-requires
begin-requires g c = can_begin (makes_vhd c.requires.session c.requires.can c.args.now) c.requires.can.row

pub returns-in_err-begin-clause-done : goal.returns-in_err-begin-clause-done
returns-in_err-begin-clause-done g c = λ told ready.
    begin_failed (makes_vhd c.requires.session c.requires.can c.args.now) told ready _ _ _ (λ fine. err_not_ok _ tt c.from_residual.ensures.0 fine) refl c.in_err-begin.ensures.fails (c.begin.ensures.crash told)

pub write_disk-requires-clause-orderly : goal.write_disk-requires-clause-orderly
write_disk-requires-clause-orderly g c = next_orderly (makes_vhd c.requires.session c.requires.can c.args.now) c.in_ok-begin.ensures.commits

pub write_disk-requires-clause-new : goal.write_disk-requires-clause-new
write_disk-requires-clause-new g c =
    let begun = c.in_ok-begin.ensures.commits in
    record { row = _; there = next_there (makes_vhd c.requires.session c.requires.can c.args.now) begun; fresh = refl; visible = refl; long = c.requires.can.disk.many ∙ sym (ap (λ (s : Site). vhd_extents s.geometry) begun.site) }

pub write_disk-requires-clause-size : goal.write_disk-requires-clause-size
write_disk-requires-clause-size g c = subst (λ (s : Site). IsDiskSize s.geometry c.args.sectors) (sym c.in_ok-begin.ensures.commits.site) (size_is c.requires.session c.requires.can c.args.now)

pub returns-in_err-image-clause-done : goal.returns-in_err-image-clause-done
returns-in_err-image-clause-done g c = λ told ready.
    let begun = c.in_ok-begin.ensures.commits in
    let stays = c.write_disk.ensures.stays in
    fill_failed (makes_vhd c.requires.session c.requires.can c.args.now) told ready begun (c.begin.ensures.crash told) stays (c.write_disk.ensures.middle told) _ _ _
    (λ fine. err_not_ok _ tt c.from_residual-in_err-image.ensures.0 fine) c.write_disk.ensures.logs (g.met.S.Store.leaves_now c.write_disk.new.store told (stays.failed ∙ begun.usable))

-- ---- once the image is written

pub end-requires : goal.end-requires
end-requires g c = can_end (makes_vhd c.requires.session c.requires.can c.args.now) c.in_ok-begin.ensures.commits c.write_disk.ensures.stays

pub returns-in_err-end-clause-done : goal.returns-in_err-end-clause-done
returns-in_err-end-clause-done g c = λ told ready.
    let can = c.requires.can in
    let begun = c.in_ok-begin.ensures.commits in
    let wrote = c.in_ok-image.ensures.written told in
    end_failed (makes_vhd c.requires.session can c.args.now) told ready begun (c.begin.ensures.crash told) c.write_disk.ensures.stays (c.write_disk.ensures.middle told) wrote.between wrote.kept wrote.records
    (steady_vhd c.requires.session can c.args.now begun c.write_disk.new.store wrote) _ (vhd_disk_is c.requires.session can c.args.now begun c.write_disk.new.store wrote)
    _ _ (λ fine. err_not_ok _ tt c.from_residual-in_err-end.ensures.0 fine) c.write_disk.ensures.logs c.in_err-end.ensures.fails (c.end.ensures.crash told)

pub add-requires-clause-name : goal.add-requires-clause-name
unfolding IsName
add-requires-clause-name g c = subst (λ (b : Body). IsName (volume_name b)) (sym (c.in_ok-image.ensures.image ∙ added_now c.requires.session c.requires.can c.args.now c.in_ok-begin.ensures.commits)) c.requires.can.proper.uuid.uuid

pub add-requires-clause-absent : goal.add-requires-clause-absent
add-requires-clause-absent g c =
    ap₂ (λ (t : Tree) (b : Body). tree_row t.rows (volume_name b)) c.write_disk.ensures.others.0 (c.in_ok-image.ensures.image ∙ added_now c.requires.session c.requires.can c.args.now c.in_ok-begin.ensures.commits)
    ∙ no_row _ _ _ _ _ _ _ _ (makes_vhd c.requires.session c.requires.can c.args.now).begins (Vhd c.args.entry.uuid) (vhd_image _) (vhd_uuid _)

pub add-requires-clause-room : goal.add-requires-clause-room
add-requires-clause-room g c =
    let few = (makes_vhd c.requires.session c.requires.can c.args.now).begins.few in
    subst (λ (t : Tree). 0 < t.spare) (sym c.write_disk.ensures.others.0) (omega (arith, c.requires.session.tree_room, few))

-- ---- at the end

row_added : (g : Over) (c : goal.After-add g) → c.add.new.self.rows ≡ with_row (added c.requires.session c.requires.can c.args.now) c.write_disk.new.memory.tree.rows
row_added g c =
    let count : c.len-count.result ≡ length c.args.extents.items = omega (arith, c.len-count.ensures, c.args.extents.ok.0) in
    c.add.ensures.rows ∙ ap₂ (λ (b : Body) n. with_row (record { image = b; hidden = false; extents = n }) c.write_disk.new.memory.tree.rows)
    (c.in_ok-image.ensures.image ∙ added_now c.requires.session c.requires.can c.args.now c.in_ok-begin.ensures.commits) count

-- what is in memory then
abbrev last : (g : Over) (c : goal.After-add g) → Memory
last g c = record { tree = c.add.new.self; records = c.write_disk.new.memory.records; logs = c.write_disk.new.memory.logs; attached = c.write_disk.new.memory.attached; operation = c.write_disk.new.memory.operation }

memory_is : (g : Over) (c : goal.After-add g) → known (last g c) ≡ made_memory (added c.requires.session c.requires.can c.args.now) (place_of c.args.memory.now c.args.entry) c.args.entry (known c.args.memory.now)
memory_is g c =
    let x = c.write_disk.ensures.others in
    known_made c.args.memory.now c.write_disk.new.memory (last g c) (added c.requires.session c.requires.can c.args.now) (place_of c.args.memory.now c.args.entry) c.args.entry x.0 c.write_disk.ensures.logs x.1 x.2 c.in_ok-image.ensures.kept (row_added g c) refl refl refl refl

pub returns-clause-image : goal.returns-clause-image
returns-clause-image g c =
    row_added g c ∙ ap₂ (λ n (t : Tree). with_row (vhd_row (g.S.Store.site c.args.store.now).geometry (head c.requires.session c.requires.can c.args.now) n) t.rows) c.requires.can.disk.many c.write_disk.ensures.others.0

pub returns-clause-head : goal.returns-clause-head
returns-clause-head g c = λ told.
    let begun = c.in_ok-begin.ensures.commits in
    read_end (makes_vhd c.requires.session c.requires.can c.args.now) begun c.write_disk.ensures.stays c.in_ok-end.ensures.commits told (λ n r. HasHead n (head c.requires.session c.requires.can c.args.now) r)
    (imaged c.requires.session c.requires.can c.args.now begun c.write_disk.new.store (c.in_ok-image.ensures.written told)).bytes

pub returns-clause-shape : goal.returns-clause-shape
returns-clause-shape g c = λ σ disk same.
    let makes = makes_vhd c.requires.session c.requires.can c.args.now in
    let plain = c.requires.can.plain in
    ap₂ (λ y z. shape_in (g.S.Store.site c.args.store.now) y z) (table_end makes c.in_ok-begin.ensures.commits c.write_disk.ensures.stays c.in_ok-end.ensures.commits) (memory_is g c)
    ∙ shape_made _ _ _ _ _ _ _ _ makes.begins σ disk.size false same disk.accepted (ap (λ (q : Record). q.origin) plain) (ap (λ (q : Record). q.read_only) plain) (added_is c.requires.session c.requires.can c.args.now disk.size disk.rounded)

pub returns-clause-done : goal.returns-clause-done
returns-clause-done g c = λ told ready.
    let can = c.requires.can in
    let begun = c.in_ok-begin.ensures.commits in
    let wrote = c.in_ok-image.ensures.written told in
    end_made (makes_vhd c.requires.session can c.args.now) told ready begun (c.begin.ensures.crash told) c.write_disk.ensures.stays (c.write_disk.ensures.middle told) wrote.between wrote.kept wrote.records
    (steady_vhd c.requires.session can c.args.now begun c.write_disk.new.store wrote) _ (vhd_disk_is c.requires.session can c.args.now begun c.write_disk.new.store wrote)
    (last g c) _ c.in_ok-end.ensures.commits (c.end.ensures.crash told) (memory_is g c)

-- ---- the frame

pub returns-in_err-begin-clause-step : goal.returns-in_err-begin-clause-step
returns-in_err-begin-clause-step g c = more_steps (omega arith) (failed_steps (Create (Vhd c.args.entry.uuid) true c.args.extents.items) c.in_err-begin.ensures.fails c.begin.ensures.crash)

pub returns-in_err-image-clause-step : goal.returns-in_err-image-clause-step
returns-in_err-image-clause-step g c = more_steps (omega arith) (begun_steps c.in_ok-begin.ensures.commits c.begin.ensures.crash c.write_disk.ensures.stays g.met.S.Store.leaves_now)

pub returns-in_err-end-clause-step : goal.returns-in_err-end-clause-step
returns-in_err-end-clause-step g c =
    then_steps (begun_steps c.in_ok-begin.ensures.commits c.begin.ensures.crash c.write_disk.ensures.stays g.met.S.Store.leaves_now)
    (failed_steps (Mark (Vhd c.args.entry.uuid) Fresh false) c.in_err-end.ensures.fails c.end.ensures.crash)

pub returns-clause-step : goal.returns-clause-step
returns-clause-step g c =
    then_steps (begun_steps c.in_ok-begin.ensures.commits c.begin.ensures.crash c.write_disk.ensures.stays g.met.S.Store.leaves_now) (commit_steps c.in_ok-end.ensures.commits c.end.ensures.crash)

pub returns-clause-session_still : goal.returns-clause-session_still
returns-clause-session_still g c =
    let r = c.requires in
    let begun = c.in_ok-begin.ensures.commits in
    between_made (makes_vhd r.session r.can c.args.now) begun c.write_disk.ensures.stays c.in_ok-end.ensures.commits r.can.row (last g c) (memory_is g c)
    (tree_room_with _ _ _ _ c.write_disk.ensures.others.0 (row_added g c) c.add.ensures.spare r.session.tree_room) c.write_disk.ensures.middle
    (λ told. steady_vhd r.session r.can c.args.now begun c.write_disk.new.store (c.in_ok-image.ensures.written told)) r.session
