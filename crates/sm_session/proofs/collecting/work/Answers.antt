use Rattle.std.proofs.Common.{arith, ◌≡◌, ◌+◌, ◌≤◌, length, OnOk, sym, ap, ◌∙◌, subst}
use Rattle.std.proofs.lemmas.Result.{on_ok_weaker}
use Rattle.sm_machine.specs.Laws.{is_working}
use Rattle.sm_machine.specs.Shapes.{image_uuid}
use Rattle.sm_machine.specs.Steps.{disks_next, shape_next}
use Rattle.sm_machine.specs.declared.commands.Command.TheVariants.{Gc}
use Rattle.sm_ready.specs.Does.{ShapesAs, store_shape}
use Rattle.sm_ready.specs.Known.{shape_in}
use Rattle.sm_ready.proofs.KeptLaws.{vhd_named}
use Rattle.sm_ready.proofs.FramingLaws.{more_steps}
use Rattle.sm_space.specs.Deflating.{CanDeflate, deflated}
use Rattle.sm_space.proofs.LooseLaws.{planned_cut, shape_planned}
use Rattle.sm_refs.specs.Attached.{Attached}
use Rattle.vhd_chain.specs.Trees.{Tree}
use Rattle.sm_session.proofs.CarryLaws.{between_parts}
use Rattle.sm_session.proofs.CollectLaws.{copy_runs, eight_work, work_lowers}
use Rattle.sm_session.proofs.collecting.work.Given.{Over}
use Rattle.sm_session.proofs.collecting.work.Goals as goal

pub unreachable-requires : goal.unreachable-requires
unreachable-requires g c =
    let cut = planned_cut (store_shape g.S.Store c.args.store.now c.args.memory.now) c.in-Deflate.name c.in-Deflate.to (c.requires.planned ∙ c.in-Deflate.is) in
    c.in_default-name.not-Vhd (image_uuid c.in-Deflate.name) (vhd_named c.in-Deflate.name cut.1)

pub deflate-requires-clause-there : goal.deflate-requires-clause-there
deflate-requires-clause-there g c =
    let s = store_shape g.S.Store c.args.store.now c.args.memory.now in
    subst (λ n. CanDeflate s n c.in-Deflate.to) c.in-Vhd.is (planned_cut s c.in-Deflate.name c.in-Deflate.to (c.requires.planned ∙ c.in-Deflate.is)).0

pub copy_block-requires-clause-copying : goal.copy_block-requires-clause-copying
unfolding shape_in
copy_block-requires-clause-copying g c = copy_runs (store_shape g.S.Store c.args.store.now c.args.memory.now) c.in-Copy.block (c.requires.planned ∙ c.in-Copy.is)

pub unreachable-requires-in_default : goal.unreachable-requires-in_default
unfolding shape_in
unreachable-requires-in_default g c =
    eight_work c.args.plan c.requires.working c.requires.no_begin
    c.in_default.not-Remove c.in_default.not-Deflate c.in_default.not-Copy c.in_default.not-Turn c.in_default.not-RelinkOne c.in_default.not-Finish c.in_default.not-Swap c.in_default.not-Abandon

-- a cut leaves the machine's shape
cut_shape : (g : Over) (c : goal.After-deflate g) → OnOk c.deflate.result (ShapesAs g.S.Store Gc c.args.store.now c.args.memory.now c.deflate.new.store c.deflate.new.memory)
cut_shape g c =
    let s = store_shape g.S.Store c.args.store.now c.args.memory.now in
    let next = subst (λ n. shape_next s Gc ≡ deflated n c.in-Deflate.to s) c.in-Vhd.is (shape_planned s c.in-Deflate.name c.in-Deflate.to (c.requires.planned ∙ c.in-Deflate.is)) in
    on_ok_weaker c.deflate.result (λ is. is ∙ sym next) c.deflate.ensures.shape

pub returns-in-Vhd-clause-shape : goal.returns-in-Vhd-clause-shape
returns-in-Vhd-clause-shape g c = λ told ready. cut_shape g c

pub returns-in-Vhd-clause-lowered : goal.returns-in-Vhd-clause-lowered
returns-in-Vhd-clause-lowered g c =
    work_lowers (store_shape g.S.Store c.args.store.now c.args.memory.now) _ c.requires.session.orderly.well_formed (ap is_working c.requires.planned ∙ c.requires.working) c.deflate.result (cut_shape g c)

pub returns-in-Vhd-clause-done : goal.returns-in-Vhd-clause-done
unfolding disks_next
returns-in-Vhd-clause-done g c = c.deflate.ensures.done

pub returns-in-Remove-clause-lowered : goal.returns-in-Remove-clause-lowered
returns-in-Remove-clause-lowered g c =
    work_lowers (store_shape g.S.Store c.args.store.now c.args.memory.now) _ c.requires.session.orderly.well_formed (ap is_working c.requires.planned ∙ c.requires.working) c.remove.result c.remove.ensures.shape

pub returns-in-Turn-clause-lowered : goal.returns-in-Turn-clause-lowered
returns-in-Turn-clause-lowered g c =
    work_lowers (store_shape g.S.Store c.args.store.now c.args.memory.now) _ c.requires.session.orderly.well_formed (ap is_working c.requires.planned ∙ c.requires.working) c.turn.result c.turn.ensures.shape

pub returns-in-RelinkOne-clause-lowered : goal.returns-in-RelinkOne-clause-lowered
returns-in-RelinkOne-clause-lowered g c =
    work_lowers (store_shape g.S.Store c.args.store.now c.args.memory.now) _ c.requires.session.orderly.well_formed (ap is_working c.requires.planned ∙ c.requires.working) c.relink_one.result c.relink_one.ensures.shape

pub returns-in-Finish-clause-lowered : goal.returns-in-Finish-clause-lowered
returns-in-Finish-clause-lowered g c =
    work_lowers (store_shape g.S.Store c.args.store.now c.args.memory.now) _ c.requires.session.orderly.well_formed (ap is_working c.requires.planned ∙ c.requires.working) c.finish.result c.finish.ensures.shape

pub returns-in-Abandon-clause-lowered : goal.returns-in-Abandon-clause-lowered
returns-in-Abandon-clause-lowered g c =
    work_lowers (store_shape g.S.Store c.args.store.now c.args.memory.now) _ c.requires.session.orderly.well_formed (ap is_working c.requires.planned ∙ c.requires.working) c.abandon.result c.abandon.ensures.shape

pub returns-in-Remove-clause-step : goal.returns-in-Remove-clause-step
returns-in-Remove-clause-step g c = more_steps (omega arith) c.remove.ensures.step

pub returns-in-Vhd-clause-step : goal.returns-in-Vhd-clause-step
returns-in-Vhd-clause-step g c = more_steps (omega arith) c.deflate.ensures.step

pub returns-in-Copy-clause-step : goal.returns-in-Copy-clause-step
returns-in-Copy-clause-step g c = more_steps (omega arith) c.copy_block.ensures.step

pub returns-in-Turn-clause-step : goal.returns-in-Turn-clause-step
returns-in-Turn-clause-step g c = more_steps (omega arith) c.turn.ensures.step

pub returns-in-RelinkOne-clause-step : goal.returns-in-RelinkOne-clause-step
returns-in-RelinkOne-clause-step g c = more_steps (omega arith) c.relink_one.ensures.step

pub returns-in-Finish-clause-step : goal.returns-in-Finish-clause-step
returns-in-Finish-clause-step g c = more_steps (omega arith) c.finish.ensures.step

pub returns-in-Swap-clause-step : goal.returns-in-Swap-clause-step
returns-in-Swap-clause-step g c = more_steps (omega arith) c.swap.ensures.step

pub returns-in-Abandon-clause-step : goal.returns-in-Abandon-clause-step
returns-in-Abandon-clause-step g c = more_steps (omega arith) c.abandon.ensures.step

pub returns-in-RelinkOne-clause-session_still : goal.returns-in-RelinkOne-clause-session_still
returns-in-RelinkOne-clause-session_still g c =
    let e = c.relink_one.ensures in
    let s = c.requires.session in
    between_parts g.S.Store c.args.store.now c.relink_one.new.store c.args.memory.now c.relink_one.new.memory c.relink_one.result s e.usable_still e.orderly_still e.tidy_still e.true_still e.room (omega (arith, e.images, e.spare, s.tree_room)) (omega (arith, e.attached.1, s.attachment_room))

pub returns-in-Finish-clause-session_still : goal.returns-in-Finish-clause-session_still
returns-in-Finish-clause-session_still g c =
    let e = c.finish.ensures in
    let s = c.requires.session in
    between_parts g.S.Store c.args.store.now c.finish.new.store c.args.memory.now c.finish.new.memory c.finish.result s e.usable_still e.orderly_still e.tidy_still e.true_still e.room (subst (λ (t : Tree). 500 ≤ length t.rows + t.spare) (sym e.others.0) s.tree_room) (subst (λ (k : Attached). 500 ≤ k.room) (sym e.others.2) s.attachment_room)
