use Rattle.std.proofs.Common.{◌*◌, ◌≤◌, true, Err, refl, sym, ap, ap₂, ◌∙◌, subst, arith}
use Rattle.std.proofs.Math.Nat.{mul-le-mul}
use Rattle.sm_base.specs.Limits.{extent_limit}
use Rattle.sm_base.specs.declared.sizes.Geometry.{Geometry}
use Rattle.vg_meta.specs.Changes.{AreFree}
use Rattle.vg_meta.specs.Roomy.{table_alone}
use Rattle.sm_machine.specs.Refusals.{rounded}
use Rattle.sm_machine.specs.Steps.{disks_next, reply_to}
use Rattle.sm_machine.specs.declared.commands.Command.TheVariants.{Create}
use Rattle.sm_machine.specs.declared.replies.Reply.TheVariants as reply
use Rattle.sm_ready.specs.Known.{shape_in}
use Rattle.sm_ready.specs.Sessions.{store_state}
use Rattle.sm_ready.specs.Framing.{IsBetweenSteps}
use Rattle.sm_ready.proofs.FramingLaws.{more_steps, reads_between, stays_steps}
use Rattle.sm_ready.proofs.TakenLaws.{is_told, taken_accepted, taken_poor, taken_stopped}
use Rattle.vg_volumes.proofs.StoredLaws.{reads_none, stays_none}
use Rattle.sm_ready.specs.Refusing.{extents_for}
use Rattle.cmd_create.proofs.RawLaws.{enough}
use Rattle.cmd_create.proofs.creating.create.Goals as goal

pub returns-in_default-clause-taken : goal.returns-in_default-clause-taken
returns-in_default-clause-taken g c = λ told ready.
    taken_poor (is_told g.S.Store c.args.store.now c.args.memory.now c.requires.session.orderly c.requires.session.usable told ready (g.met.S.Store.leaves_now c.args.store.now told c.requires.session.usable)) _ _ (reads_none _) (λ t image h. h) refl

pub returns-in-Err-NoMemory-clause-taken : goal.returns-in-Err-NoMemory-clause-taken
returns-in-Err-NoMemory-clause-taken g c = λ told ready.
    let poor = c.make_raw.ensures.poor (c.in-Err-NoMemory.is ∙ ap (λ f. Err f) c.in-Err-NoMemory.field-0-is) in
    taken_poor (is_told g.S.Store c.args.store.now c.args.memory.now c.requires.session.orderly c.requires.session.usable told ready (g.met.S.Store.leaves_now c.args.store.now told c.requires.session.usable)) _ _ poor.0 poor.1 poor.2

pub overflow_cast-need : goal.overflow_cast-need
overflow_cast-need g c =
    let need = c.extents_needed-need.ensures.extents ∙ ap (λ (h : Geometry). extents_for h.extent c.args.size) c.geometry-geometry.ensures in
    let most = enough (g.S.Store.site c.args.store.now) _ _ _ c.args.label.now c.args.size c.requires.session.orderly c.requires.session.tidy c.requires.allowed in
    omega (arith, need, most)

pub overflow_mul-result-in-Ok-make_raw : goal.overflow_mul-result-in-Ok-make_raw
overflow_mul-result-in-Ok-make_raw g c =
    let need = c.extents_needed-need.ensures.extents ∙ ap (λ (h : Geometry). extents_for h.extent c.args.size) c.geometry-geometry.ensures in
    let most = enough (g.S.Store.site c.args.store.now) _ _ _ c.args.label.now c.args.size c.requires.session.orderly c.requires.session.tidy c.requires.allowed in
    let many : c.extents_needed-need.result ≤ extent_limit = omega (arith, need, most) in
    let wide : c.from.result ≤ 8192 = omega (arith, c.from.ensures, c.geometry-geometry.result.in_range.extent_most) in
    omega (arith, mul-le-mul many wide)

pub returns-in-Ok-make_raw-clause-taken : goal.returns-in-Ok-make_raw-clause-taken
unfolding disks_next reply_to rounded shape_in
returns-in-Ok-make_raw-clause-taken g c = λ told ready.
    let extent = ap (λ (h : Geometry). h.extent) c.geometry-geometry.ensures in
    let need = c.extents_needed-need.ensures.extents ∙ ap (λ n. extents_for n c.args.size) extent in
    let long = c.in-Ok.ensures.fit.many ∙ need in
    taken_accepted (is_told g.S.Store c.args.store.now c.args.memory.now c.requires.session.orderly c.requires.session.usable told ready (g.met.S.Store.leaves_now c.args.store.now told c.requires.session.usable)) (Create c.args.disk.now c.args.size true c.args.label.now) c.make_raw.new.memory c.requires.allowed
    (rw long at (c.make_raw.ensures.done told ready (λ poor. let x = sym c.in-Ok-make_raw.is ∙ poor in cc))) _ (ap₂ (λ n m. reply.Size (n * m * 512)) need (c.from.ensures ∙ extent)) c.in-Ok-make_raw.is
    (c.in-Ok-make_raw.ensures.shape (store_state g.S.Store c.args.store.now c.args.memory.now) (record { size = c.args.size; accepted = c.requires.allowed; many = long; extents_free = subst (λ n. AreFree n (table_alone (g.S.Store.table c.args.store.now)).volumes c.in-Ok.found.items) c.extents-extents.ensures.count (rw c.table.ensures.table at c.in-Ok.ensures.free) }) refl)

pub returns-in-Err-Device-clause-taken : goal.returns-in-Err-Device-clause-taken
unfolding disks_next rounded shape_in
returns-in-Err-Device-clause-taken g c = λ told ready.
    let need = c.extents_needed-need.ensures.extents ∙ ap (λ (h : Geometry). extents_for h.extent c.args.size) c.geometry-geometry.ensures in
    let long = c.in-Ok.ensures.fit.many ∙ need in
    taken_stopped (is_told g.S.Store c.args.store.now c.args.memory.now c.requires.session.orderly c.requires.session.usable told ready (g.met.S.Store.leaves_now c.args.store.now told c.requires.session.usable)) (Create c.args.disk.now c.args.size true c.args.label.now) c.make_raw.new.memory c.requires.allowed
    (rw long at (c.make_raw.ensures.done told ready (λ poor. let x = sym c.in-Err-Device.is ∙ poor in let y = c.in-Err-Device.field-0-is in cc))) _

-- ---- the frame

pub returns-in_default-clause-step : goal.returns-in_default-clause-step
returns-in_default-clause-step g c = more_steps (omega arith) (stays_steps (stays_none c.args.store.now) (λ told. g.met.S.Store.leaves_now c.args.store.now told c.requires.session.usable))

pub returns-in-Err-NoMemory-clause-session_still : goal.returns-in-Err-NoMemory-clause-session_still
returns-in-Err-NoMemory-clause-session_still g c =
    let poor = c.make_raw.ensures.poor (c.in-Err-NoMemory.is ∙ ap (λ f. Err f) c.in-Err-NoMemory.field-0-is) in
    subst (IsBetweenSteps g.S.Store c.make_raw.new.store) (sym poor.2) (reads_between c.args.memory.now poor.0 c.requires.session)

pub returns-in-Err-NoMemory-clause-cause : goal.returns-in-Err-NoMemory-clause-cause
returns-in-Err-NoMemory-clause-cause g c = (tt, c.make_raw.ensures.cause.2 (c.in-Err-NoMemory.is ∙ ap (λ f. Err f) c.in-Err-NoMemory.field-0-is))
