use Rattle.std.proofs.Common.{◌≡◌, inl, OnOk, Ok, Err, refl, sym, ap, ap₂, ◌∙◌, subst, subst₂, option_copied, arith}
use Rattle.std.proofs.lemmas.Result.{err_from_is_err_and}
use Rattle.vg_meta.specs.Roomy.{table_alone}
use Rattle.vg_meta.specs.Tables.{VolumeTable}
use Rattle.vg_volumes.specs.Sites.{Site}
use Rattle.vg_volumes.specs.Stored.{Stored}
use Rattle.vg_volumes.proofs.StoredLaws.{reads_then}
use Rattle.sm_machine.specs.Shapes.{image_uuid}
use Rattle.sm_machine.specs.Steps.{disks_next}
use Rattle.sm_standing.specs.Standing.{disks}
use Rattle.sm_ready.specs.Known.{known}
use Rattle.sm_ready.specs.Orderly.{IsOrderly}
use Rattle.sm_ready.specs.Stores.{content_in, content_now}
use Rattle.sm_ready.proofs.ChainLaws.{done_behind, err_not_ok, ready_read}
use Rattle.sm_ready.proofs.FramingLaws.{more_steps, reads_between, stays_now, then_steps}
use Rattle.sm_space.specs.Inflating.{HasFree, IsBelow, IsEnlarged, inflated}
use Rattle.sm_space.proofs.InflatingLaws.{only_read, still_read}
use Rattle.gc_coalesce.specs.Beginning.{CanBegin, KeepsExtents, entered}
use Rattle.gc_coalesce.proofs.BeginRows.{spare_row}
use Rattle.gc_coalesce.proofs.BeginSteps.{both_done, both_still, can_now, can_then, has_free, idle, image_name, is_below, next_now, next_then, not_gone, shape_read, told_read, widened_now, widened_then}
use Rattle.gc_coalesce.proofs.beginning.fold.Goals as goal

pub unreachable-requires : goal.unreachable-requires
unreachable-requires g c = not_gone _ _ (known c.args.memory.now) c.args.kind c.args.child.now c.args.parent.now c.args.to c.requires.session.orderly c.requires.planned (sym c.get.ensures ∙ ap option_copied c.in_default.is)

-- ---- memory is wanting

pub returns-in_default-make_room-clause-done : goal.returns-in_default-make_room-clause-done
unfolding disks_next
returns-in_default-make_room-clause-done g c = λ told ready.
    let e = c.make_room.ensures in
    only_read c.args.memory.now c.requires.session.orderly c.requires.session.usable told ready (g.met.S.Store.leaves_now c.args.store.now told c.requires.session.usable) e.reads e.same.0 e.leaves _ _ (λ fine. absurd (let x = fine in cc)) refl

pub returns-in_default-make_room-clause-still : goal.returns-in_default-make_room-clause-still
returns-in_default-make_room-clause-still g c = λ told ready again w image l. record { table = w; image = image; left = inl (c.make_room.ensures.leaves w image l); shown = refl }

-- ---- the parent has its extents

pub enter-requires-clause-row : goal.enter-requires-clause-row
enter-requires-clause-row g c =
    let stays = c.make_room.ensures.reads.stays in
    spare_row (g.S.Store.site c.args.store.now) (g.S.Store.table c.make_room.new.store) (known c.args.memory.now)
    (subst (λ t. IsOrderly (g.S.Store.site c.args.store.now) t (known c.args.memory.now)) (sym stays.table) c.requires.session.orderly)
    (idle _ _ (known c.args.memory.now) c.args.kind c.args.child.now c.args.parent.now c.args.to c.requires.session.orderly c.requires.planned) c.in-Ok.ensures.room

pub enter-requires-clause-can : goal.enter-requires-clause-can
enter-requires-clause-can g c =
    let there = sym c.get.ensures ∙ ap option_copied c.in-Some.is in
    subst (λ σ. CanBegin σ c.args.kind c.args.child.now c.args.parent.now) (sym (shape_read c.args.memory.now c.make_room.ensures.reads))
    (can_now _ _ (known c.args.memory.now) c.args.kind c.args.child.now c.args.parent.now c.args.to c.requires.session.orderly c.requires.planned c.in-Some.row.now there c.if-to-had.true)

pub returns-in_default-enter-clause-done : goal.returns-in_default-enter-clause-done
unfolding disks_next
returns-in_default-enter-clause-done g c = λ told ready.
    let e = c.make_room.ensures in
    done_behind _ (λ (x : Stored). disks (content_now x.site x.table x.area)) e.reads e.same.0 e.leaves (λ fine. absurd (let x = fine in cc))
    (c.enter.ensures.done told (ready_read c.args.memory.now e.reads e.same.0 ready))

pub returns-in_default-enter-clause-still : goal.returns-in_default-enter-clause-still
returns-in_default-enter-clause-still g c = λ told ready again w image l.
    let e = c.make_room.ensures in
    still_read e.reads e.same.0 e.leaves (λ s. disks (content_in s w image)) (c.enter.ensures.still told (ready_read c.args.memory.now e.reads e.same.0 ready) again w image l)

pub returns-then-to-had-clause-shape : goal.returns-then-to-had-clause-shape
returns-then-to-had-clause-shape g c =
    let there = sym c.get.ensures ∙ ap option_copied c.in-Some.is in
    c.in-Ok-enter.ensures.shape ∙ ap (entered c.args.kind c.args.child.now c.args.parent.now) (shape_read c.args.memory.now c.make_room.ensures.reads)
    ∙ next_now _ _ (known c.args.memory.now) c.args.kind c.args.child.now c.args.parent.now c.args.to c.requires.session.orderly c.requires.planned c.in-Some.row.now there c.if-to-had.true

pub returns-then-to-had-clause-least : goal.returns-then-to-had-clause-least
returns-then-to-had-clause-least g c =
    let there = sym c.get.ensures ∙ ap option_copied c.in-Some.is in
    widened_now _ _ (known c.args.memory.now) c.args.kind c.args.child.now c.args.parent.now c.args.to c.requires.session.orderly c.requires.planned c.in-Some.row.now there c.if-to-had.true _
    (subst (λ t. KeepsExtents t (table_alone (g.S.Store.table c.enter.new.store))) c.make_room.ensures.reads.stays.table c.in-Ok-enter.ensures.extents)

pub returns-then-to-had-clause-done : goal.returns-then-to-had-clause-done
unfolding disks_next
returns-then-to-had-clause-done g c = λ told ready.
    let e = c.make_room.ensures in
    done_behind _ (λ (x : Stored). disks (content_now x.site x.table x.area)) e.reads e.same.0 e.leaves (λ fine. c.in-Ok-enter.is)
    (c.enter.ensures.done told (ready_read c.args.memory.now e.reads e.same.0 ready))

pub returns-then-to-had-clause-still : goal.returns-then-to-had-clause-still
returns-then-to-had-clause-still g c = λ told ready again w image l.
    let e = c.make_room.ensures in
    still_read e.reads e.same.0 e.leaves (λ s. disks (content_in s w image)) (c.enter.ensures.still told (ready_read c.args.memory.now e.reads e.same.0 ready) again w image l)

-- ---- it is to gain some

pub uuid_of-requires : goal.uuid_of-requires
uuid_of-requires g c =
    record {
      image = image_name _ _ (known c.args.memory.now) c.args.kind c.args.child.now c.args.parent.now c.args.to
          c.requires.session.orderly c.requires.planned c.in-Some.row.now (sym c.get.ensures ∙ ap option_copied c.in-Some.is);
    }

pub inflate-requires-clause-there : goal.inflate-requires-clause-there
inflate-requires-clause-there g c =
    subst (λ u. IsBelow c.args.memory.now.tree.rows u c.args.to) (sym c.uuid_of.ensures)
    (is_below _ _ (known c.args.memory.now) c.args.kind c.args.child.now c.args.parent.now c.args.to c.requires.session.orderly c.requires.planned c.in-Some.row.now (sym c.get.ensures ∙ ap option_copied c.in-Some.is) c.if-to-had.false)

pub inflate-requires-clause-free : goal.inflate-requires-clause-free
inflate-requires-clause-free g c =
    let stays = c.make_room.ensures.reads.stays in
    subst (λ u. HasFree (g.S.Store.site c.make_room.new.store).count (table_alone (g.S.Store.table c.make_room.new.store)) c.args.memory.now.tree.rows u c.args.to) (sym c.uuid_of.ensures)
    (subst₂ (λ (s : Site) (t : VolumeTable). HasFree s.count t c.args.memory.now.tree.rows (image_uuid c.args.parent.now) c.args.to) (sym stays.site) (sym stays.table)
    (has_free _ _ (known c.args.memory.now) c.args.kind c.args.child.now c.args.parent.now c.args.to c.requires.session.orderly c.requires.planned c.in-Some.row.now (sym c.get.ensures ∙ ap option_copied c.in-Some.is) c.if-to-had.false c.requires.session.tidy))

pub returns-in_err-inflate-clause-poor : goal.returns-in_err-inflate-clause-poor
returns-in_err-inflate-clause-poor g c = λ poor.
    let from = err_from_is_err_and c.from_residual.result c.from_residual.ensures.1 in
    let e = c.make_room.ensures in
    let w = c.inflate.ensures.poor (c.in_err-inflate.was ∙ ap Err (sym from.2) ∙ sym from.1 ∙ poor) in
    (reads_then e.reads w.0, λ t image l. e.leaves t image (w.1 t image l), w.2)

pub returns-in_err-inflate-clause-done : goal.returns-in_err-inflate-clause-done
unfolding disks_next
returns-in_err-inflate-clause-done g c = λ told ready.
    let e = c.make_room.ensures in
    done_behind _ (λ (x : Stored). disks (content_now x.site x.table x.area)) e.reads e.same.0 e.leaves (λ fine. absurd (err_not_ok _ tt c.from_residual.ensures.0 fine))
    (c.inflate.ensures.done told (ready_read c.args.memory.now e.reads e.same.0 ready))

pub returns-in_err-inflate-clause-still : goal.returns-in_err-inflate-clause-still
returns-in_err-inflate-clause-still g c = λ told ready again w image l.
    let e = c.make_room.ensures in
    still_read e.reads e.same.0 e.leaves (λ s. disks (content_in s w image)) (c.inflate.ensures.still told (ready_read c.args.memory.now e.reads e.same.0 ready) again w image l)

-- ---- it has them

pub enter-requires-2-clause-row : goal.enter-requires-2-clause-row
enter-requires-2-clause-row g c =
    spare_row (g.S.Store.site c.inflate.new.store) (g.S.Store.table c.inflate.new.store) (known c.inflate.new.memory) c.in_ok-inflate.ensures.session_still.orderly
    (c.inflate.ensures.others.2 ∙ idle _ _ (known c.args.memory.now) c.args.kind c.args.child.now c.args.parent.now c.args.to c.requires.session.orderly c.requires.planned) c.in_ok-inflate.ensures.session_still.rows

pub enter-requires-2-clause-can : goal.enter-requires-2-clause-can
enter-requires-2-clause-can g c =
    let there = sym c.get.ensures ∙ ap option_copied c.in-Some.is in
    subst (λ σ. CanBegin σ c.args.kind c.args.child.now c.args.parent.now)
    (sym (c.in_ok-inflate.ensures.shape ∙ ap₂ (λ u σ. inflated u c.args.to σ) c.uuid_of.ensures (shape_read c.args.memory.now c.make_room.ensures.reads)))
    (can_then _ _ (known c.args.memory.now) c.args.kind c.args.child.now c.args.parent.now c.args.to c.requires.session.orderly c.requires.planned c.in-Some.row.now there c.if-to-had.false)

pub returns-in_default-enter-2-clause-done : goal.returns-in_default-enter-2-clause-done
unfolding disks_next
returns-in_default-enter-2-clause-done g c = λ told ready.
    let e = c.make_room.ensures in
    let i = c.in_ok-inflate.ensures in
    let was = ready_read c.args.memory.now e.reads e.same.0 ready in
    let h = told_read c.args.memory.now c.requires.session.orderly c.requires.session.usable told was e.reads (g.met.S.Store.leaves_now c.make_room.new.store told (e.reads.stays.failed ∙ c.requires.session.usable)) in
    done_behind _ (λ (x : Stored). disks (content_now x.site x.table x.area)) e.reads e.same.0 e.leaves (λ fine. absurd (let x = fine in cc))
    (both_done c.inflate.new.memory h i.step.site i.session_still.orderly i.session_still.usable (g.met.S.Store.leaves_now c.inflate.new.store told i.session_still.usable) (i.done told was) (refl {a = Ok tt}) _ _ (λ made. c.enter-2.ensures.done told made))

pub returns-in_default-enter-2-clause-still : goal.returns-in_default-enter-2-clause-still
returns-in_default-enter-2-clause-still g c = λ told ready again w image l.
    let e = c.make_room.ensures in
    let i = c.in_ok-inflate.ensures in
    let was = ready_read c.args.memory.now e.reads e.same.0 ready in
    let h = told_read c.args.memory.now c.requires.session.orderly c.requires.session.usable told was e.reads (g.met.S.Store.leaves_now c.make_room.new.store told (e.reads.stays.failed ∙ c.requires.session.usable)) in
    still_read e.reads e.same.0 e.leaves (λ s. disks (content_in s w image))
    (both_still c.inflate.new.memory h i.step.site i.session_still.orderly i.session_still.usable (g.met.S.Store.leaves_now c.inflate.new.store told i.session_still.usable) (i.done told was) (refl {a = Ok tt})
    (λ made. c.enter-2.ensures.still told made) w image l)

pub returns-clause-shape : goal.returns-clause-shape
returns-clause-shape g c =
    let there = sym c.get.ensures ∙ ap option_copied c.in-Some.is in
    c.in-Ok-enter-2.ensures.shape
    ∙ ap (entered c.args.kind c.args.child.now c.args.parent.now) (c.in_ok-inflate.ensures.shape ∙ ap₂ (λ u σ. inflated u c.args.to σ) c.uuid_of.ensures (shape_read c.args.memory.now c.make_room.ensures.reads))
    ∙ next_then _ _ (known c.args.memory.now) c.args.kind c.args.child.now c.args.parent.now c.args.to c.requires.session.orderly c.requires.planned c.in-Some.row.now there c.if-to-had.false

pub returns-clause-least : goal.returns-clause-least
returns-clause-least g c =
    let there = sym c.get.ensures ∙ ap option_copied c.in-Some.is in
    let stays = c.make_room.ensures.reads.stays in
    widened_then _ _ (known c.args.memory.now) c.args.kind c.args.child.now c.args.parent.now c.args.to c.requires.session.orderly c.requires.planned c.in-Some.row.now there c.if-to-had.false _ _
    (subst (λ u. IsEnlarged (g.S.Store.site c.args.store.now).count (table_alone (g.S.Store.table c.args.store.now)) u c.args.to (table_alone (g.S.Store.table c.inflate.new.store))) c.uuid_of.ensures
    (subst₂ (λ (s : Site) (t : VolumeTable). IsEnlarged s.count t c.uuid_of.result c.args.to (table_alone (g.S.Store.table c.inflate.new.store))) stays.site stays.table c.in_ok-inflate.ensures.least))
    c.in-Ok-enter-2.ensures.extents

pub returns-clause-done : goal.returns-clause-done
unfolding disks_next
returns-clause-done g c = λ told ready.
    let e = c.make_room.ensures in
    let i = c.in_ok-inflate.ensures in
    let was = ready_read c.args.memory.now e.reads e.same.0 ready in
    let h = told_read c.args.memory.now c.requires.session.orderly c.requires.session.usable told was e.reads (g.met.S.Store.leaves_now c.make_room.new.store told (e.reads.stays.failed ∙ c.requires.session.usable)) in
    done_behind _ (λ (x : Stored). disks (content_now x.site x.table x.area)) e.reads e.same.0 e.leaves (λ fine. c.in-Ok-enter-2.is)
    (both_done c.inflate.new.memory h i.step.site i.session_still.orderly i.session_still.usable (g.met.S.Store.leaves_now c.inflate.new.store told i.session_still.usable) (i.done told was) (refl {a = Ok tt}) _ _ (λ made. c.enter-2.ensures.done told made))

pub returns-clause-still : goal.returns-clause-still
returns-clause-still g c = λ told ready again w image l.
    let e = c.make_room.ensures in
    let i = c.in_ok-inflate.ensures in
    let was = ready_read c.args.memory.now e.reads e.same.0 ready in
    let h = told_read c.args.memory.now c.requires.session.orderly c.requires.session.usable told was e.reads (g.met.S.Store.leaves_now c.make_room.new.store told (e.reads.stays.failed ∙ c.requires.session.usable)) in
    still_read e.reads e.same.0 e.leaves (λ s. disks (content_in s w image))
    (both_still c.inflate.new.memory h i.step.site i.session_still.orderly i.session_still.usable (g.met.S.Store.leaves_now c.inflate.new.store told i.session_still.usable) (i.done told was) (refl {a = Ok tt})
    (λ made. c.enter-2.ensures.still told made) w image l)

-- ---- the frame

pub returns-in_default-make_room-clause-step : goal.returns-in_default-make_room-clause-step
returns-in_default-make_room-clause-step g c = more_steps (omega arith) (stays_now g.met.S.Store.leaves_now c.requires.session.usable c.make_room.ensures.reads.stays)

pub enter-requires-clause-session : goal.enter-requires-clause-session
enter-requires-clause-session g c = reads_between c.args.memory.now c.make_room.ensures.reads c.requires.session

pub returns-in_default-enter-clause-step : goal.returns-in_default-enter-clause-step
returns-in_default-enter-clause-step g c = more_steps (omega arith) (then_steps (stays_now g.met.S.Store.leaves_now c.requires.session.usable c.make_room.ensures.reads.stays) c.enter.ensures.step)

pub returns-then-to-had-clause-step : goal.returns-then-to-had-clause-step
returns-then-to-had-clause-step g c = more_steps (omega arith) (then_steps (stays_now g.met.S.Store.leaves_now c.requires.session.usable c.make_room.ensures.reads.stays) c.enter.ensures.step)

pub inflate-requires-clause-session : goal.inflate-requires-clause-session
inflate-requires-clause-session g c = reads_between c.args.memory.now c.make_room.ensures.reads c.requires.session

pub returns-in_err-inflate-clause-step : goal.returns-in_err-inflate-clause-step
returns-in_err-inflate-clause-step g c = more_steps (omega arith) (then_steps (stays_now g.met.S.Store.leaves_now c.requires.session.usable c.make_room.ensures.reads.stays) c.inflate.ensures.step)

pub returns-in_err-inflate-clause-cause : goal.returns-in_err-inflate-clause-cause
returns-in_err-inflate-clause-cause g c =
    let from = err_from_is_err_and c.from_residual.result c.from_residual.ensures.1 in
    let was = c.in_err-inflate.was ∙ ap Err (sym from.2) ∙ sym from.1 in
    let steady = c.make_room.ensures.same.1 in
    let e = c.inflate.ensures.cause in
    (λ is. omega (arith, steady, e.0 (was ∙ is)), subst (λ r. OnOk r (g.S.Store.faults c.inflate.new.store ≡ g.S.Store.faults c.args.store.now)) (sym from.1) tt, λ is. e.2 (was ∙ is) ∙ steady)

pub returns-in_default-enter-2-clause-step : goal.returns-in_default-enter-2-clause-step
returns-in_default-enter-2-clause-step g c =
    then_steps (stays_now g.met.S.Store.leaves_now c.requires.session.usable c.make_room.ensures.reads.stays) (then_steps c.inflate.ensures.step c.enter-2.ensures.step)

pub returns-clause-step : goal.returns-clause-step
returns-clause-step g c =
    then_steps (stays_now g.met.S.Store.leaves_now c.requires.session.usable c.make_room.ensures.reads.stays) (then_steps c.inflate.ensures.step c.enter-2.ensures.step)
