use Rattle.std.proofs.Common.{◌≡◌, ℕ, ◌*◌, false, Err, refl, sym, ap, ap₂, ◌∙◌, subst, subst₂, arith}
use Rattle.std.specs.Int.{div_ceil}
use Rattle.sm_base.proofs.NumberLemmas.{div_up-div_ceil}
use Rattle.sm_base.specs.declared.names.Name.TheVariants.{Vhd}
use Rattle.sm_base.specs.declared.sizes.Geometry.{Geometry}
use Rattle.sm_disk.specs.Held.{reads}
use Rattle.vg_meta.specs.Changes.{AreFree}
use Rattle.vg_meta.specs.Roomy.{RoomyTable, table_alone}
use Rattle.vg_volumes.specs.Stored.{stored, held_in, sectors_in}
use Rattle.vg_volumes.proofs.StoredLaws.{reads_none, stays_none}
use Rattle.vhd_chain.specs.Trees.{with_row}
use Rattle.sm_machine.specs.Refusals.{rounded}
use Rattle.sm_machine.specs.Steps.{disks_next, reply_to}
use Rattle.sm_machine.specs.declared.commands.Command.TheVariants.{Create}
use Rattle.sm_machine.specs.declared.replies.Reply.TheVariants as reply
use Rattle.sm_ready.specs.Known.{known, shape_in}
use Rattle.sm_ready.specs.Sessions.{store_state}
use Rattle.sm_ready.specs.Framing.{IsBetweenSteps}
use Rattle.sm_ready.proofs.FramingLaws.{more_steps, reads_between, stays_steps}
use Rattle.sm_ready.proofs.TakenLaws.{done_by, is_told, stopped_by, taken_poor, step_accepted}
use Rattle.cmd_create.specs.Vhds.{HasHead, disk_head, image_uid, made_row, vhd_extents, vhd_sectors}
use Rattle.cmd_create.proofs.VhdLaws.{few_sectors, not_many}
use Rattle.cmd_create.proofs.vhd_creating.create_vhd.Goals as goal

-- the sectors are those that the machine rounds the size up to
sectors_are : (size ceil from : ℕ) (h : Geometry) → ceil ≡ div_ceil size (512 * from) → from ≡ h.block → ceil * from ≡ vhd_sectors h.block size
sectors_are size ceil from h ceil_is from_is =
    ap₂ (λ (x y : ℕ). x * y) (ceil_is ∙ ap (λ b. div_ceil size (512 * b)) from_is ∙ div_up-div_ceil size (512 * h.block) (omega (arith, h.in_range.block_least))) from_is

pub overflow_cast-need : goal.overflow_cast-need
overflow_cast-need g c = omega (arith, c.thin-need.ensures, ap vhd_extents c.geometry-geometry.ensures, not_many (g.S.Store.site c.args.store.now))

pub returns-in_default-clause-taken : goal.returns-in_default-clause-taken
returns-in_default-clause-taken g c = λ told ready.
    taken_poor (is_told g.S.Store c.args.store.now c.args.memory.now c.requires.session.orderly c.requires.session.usable told ready (g.met.S.Store.leaves_now c.args.store.now told c.requires.session.usable)) _ _ (reads_none _) (λ t image h. h) refl

pub make_vhd-requires-clause-disk : goal.make_vhd-requires-clause-disk
make_vhd-requires-clause-disk g c =
    let is = sectors_are c.args.size c.div_ceil.result c.from-block.result (g.S.Store.site c.args.store.now).geometry c.div_ceil.ensures (c.from-block.ensures ∙ ap (λ (h : Geometry). h.block) c.geometry-geometry.ensures) in
    record {
      size = c.args.size;
      accepted = c.requires.allowed;
      rounded = is;
      many = c.in-Ok.ensures.fit.many ∙ c.thin-need.ensures ∙ ap vhd_extents c.geometry-geometry.ensures;
      extents_free = subst₂ (λ n (k : RoomyTable). AreFree n (table_alone k).volumes c.in-Ok.found.items) c.extents.ensures.count c.table.ensures.table c.in-Ok.ensures.free;
    }

pub overflow_mul-result : goal.overflow_mul-result
overflow_mul-result g c =
    let is = sectors_are c.args.size c.div_ceil.result c.from-block.result (g.S.Store.site c.args.store.now).geometry c.div_ceil.ensures (c.from-block.ensures ∙ ap (λ (h : Geometry). h.block) c.geometry-geometry.ensures) in
    omega (arith, is, few_sectors (g.S.Store.site c.args.store.now) (table_alone (g.S.Store.table c.args.store.now)) (known c.args.memory.now) c.args.disk.now c.args.label.now c.args.size c.requires.session.orderly c.requires.session.tidy c.requires.allowed)

pub returns-in-Ok-make_vhd-clause-image : goal.returns-in-Ok-make_vhd-clause-image
returns-in-Ok-make_vhd-clause-image g c = λ yes.
    let is = sectors_are c.args.size c.div_ceil.result c.from-block.result (g.S.Store.site c.args.store.now).geometry c.div_ceil.ensures (c.from-block.ensures ∙ ap (λ (h : Geometry). h.block) c.geometry-geometry.ensures) in
    subst (λ n. c.make_vhd.new.memory.tree.rows ≡ with_row (made_row (g.S.Store.site c.args.store.now) (table_alone (g.S.Store.table c.args.store.now)) c.args.disk.now c.args.now n) c.args.memory.now.tree.rows) is c.in-Ok-make_vhd.ensures.image

pub returns-in-Ok-make_vhd-clause-head : goal.returns-in-Ok-make_vhd-clause-head
returns-in-Ok-make_vhd-clause-head g c = λ yes told.
    let is = sectors_are c.args.size c.div_ceil.result c.from-block.result (g.S.Store.site c.args.store.now).geometry c.div_ceil.ensures (c.from-block.ensures ∙ ap (λ (h : Geometry). h.block) c.geometry-geometry.ensures) in
    subst (λ n. HasHead (sectors_in (stored g.S.Store c.make_vhd.new.store) (Vhd c.args.disk.now)) (disk_head (g.S.Store.site c.args.store.now).geometry c.args.disk.now c.args.now n (image_uid (table_alone (g.S.Store.table c.args.store.now))))
    (reads (held_in (stored g.S.Store c.make_vhd.new.store) (Vhd c.args.disk.now)))) is (c.in-Ok-make_vhd.ensures.head told)

pub returns-in-Ok-make_vhd-clause-taken : goal.returns-in-Ok-make_vhd-clause-taken
unfolding disks_next reply_to rounded shape_in
returns-in-Ok-make_vhd-clause-taken g c = λ told ready.
    let is = sectors_are c.args.size c.div_ceil.result c.from-block.result (g.S.Store.site c.args.store.now).geometry c.div_ceil.ensures (c.from-block.ensures ∙ ap (λ (h : Geometry). h.block) c.geometry-geometry.ensures) in
    let σ = store_state g.S.Store c.args.store.now c.args.memory.now in
    let command = Create c.args.disk.now c.args.size false c.args.label.now in
    done_by (is_told g.S.Store c.args.store.now c.args.memory.now c.requires.session.orderly c.requires.session.usable told ready (g.met.S.Store.leaves_now c.args.store.now told c.requires.session.usable)) command c.make_vhd.new.memory (step_accepted σ command c.requires.allowed)
    (rw is at (c.make_vhd.ensures.done told ready (λ poor. let x = sym c.in-Ok-make_vhd.is ∙ poor in cc))) _ (ap (λ (n : ℕ). reply.Size (n * 512)) is) c.in-Ok-make_vhd.is
    (c.in-Ok-make_vhd.ensures.shape σ (record {
      size = c.args.size;
      accepted = c.requires.allowed;
      rounded = is;
      many = c.in-Ok.ensures.fit.many ∙ c.thin-need.ensures ∙ ap vhd_extents c.geometry-geometry.ensures;
      extents_free = subst₂ (λ n (k : RoomyTable). AreFree n (table_alone k).volumes c.in-Ok.found.items) c.extents.ensures.count c.table.ensures.table c.in-Ok.ensures.free;
    }) refl)

pub returns-in-Err-NoMemory-clause-taken : goal.returns-in-Err-NoMemory-clause-taken
returns-in-Err-NoMemory-clause-taken g c = λ told ready.
    let poor = c.make_vhd.ensures.poor (c.in-Err-NoMemory.is ∙ ap (λ f. Err f) c.in-Err-NoMemory.field-0-is) in
    taken_poor (is_told g.S.Store c.args.store.now c.args.memory.now c.requires.session.orderly c.requires.session.usable told ready (g.met.S.Store.leaves_now c.args.store.now told c.requires.session.usable)) _ _ poor.0 poor.1 poor.2

pub returns-in-Err-Device-clause-taken : goal.returns-in-Err-Device-clause-taken
unfolding disks_next rounded shape_in
returns-in-Err-Device-clause-taken g c = λ told ready.
    let is = sectors_are c.args.size c.div_ceil.result c.from-block.result (g.S.Store.site c.args.store.now).geometry c.div_ceil.ensures (c.from-block.ensures ∙ ap (λ (h : Geometry). h.block) c.geometry-geometry.ensures) in
    let σ = store_state g.S.Store c.args.store.now c.args.memory.now in
    let command = Create c.args.disk.now c.args.size false c.args.label.now in
    stopped_by (is_told g.S.Store c.args.store.now c.args.memory.now c.requires.session.orderly c.requires.session.usable told ready (g.met.S.Store.leaves_now c.args.store.now told c.requires.session.usable)) command c.make_vhd.new.memory (step_accepted σ command c.requires.allowed)
    (rw is at (c.make_vhd.ensures.done told ready (λ poor. let x = sym c.in-Err-Device.is ∙ poor in let y = c.in-Err-Device.field-0-is in cc))) _

-- ---- the frame

pub returns-in_default-clause-step : goal.returns-in_default-clause-step
returns-in_default-clause-step g c = more_steps (omega arith) (stays_steps (stays_none c.args.store.now) (λ told. g.met.S.Store.leaves_now c.args.store.now told c.requires.session.usable))

pub returns-in-Err-NoMemory-clause-session_still : goal.returns-in-Err-NoMemory-clause-session_still
returns-in-Err-NoMemory-clause-session_still g c =
    let poor = c.make_vhd.ensures.poor (c.in-Err-NoMemory.is ∙ ap (λ f. Err f) c.in-Err-NoMemory.field-0-is) in
    subst (IsBetweenSteps g.S.Store c.make_vhd.new.store) (sym poor.2) (reads_between c.args.memory.now poor.0 c.requires.session)

pub returns-in-Err-NoMemory-clause-cause : goal.returns-in-Err-NoMemory-clause-cause
returns-in-Err-NoMemory-clause-cause g c = (tt, c.make_vhd.ensures.cause.2 (c.in-Err-NoMemory.is ∙ ap (λ f. Err f) c.in-Err-NoMemory.field-0-is))
