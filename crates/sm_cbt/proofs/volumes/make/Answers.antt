use Rattle.std.proofs.Common.{inl, inr}
use Rattle.std.proofs.lemmas.Result.{IfErr-weaker, IfOk-weaker}
use Rattle.sm_cbt.proofs.MakeLaws.{begin_fails, can_finish, fill_fails, fill_left, finish_fails, finish_left, is_made, on_err, room_begun, usable_filled}
use Rattle.sm_cbt.proofs.volumes.make.Goals as goal

pub returns-in_err-begin-clause-fails : goal.returns-in_err-begin-clause-fails
returns-in_err-begin-clause-fails g c = on_err c.from_residual.result (begin_fails c.args.log.now c.args.extents.items c.requires.may c.in_err-begin.ensures.fails)

pub fill-requires-clause-room : goal.fill-requires-clause-room
fill-requires-clause-room g c = room_begun c.args.log.now c.args.extents.items c.requires.may c.in_ok-begin.ensures.commits

pub returns-in_err-fill-clause-crash : goal.returns-in_err-fill-clause-crash
returns-in_err-fill-clause-crash g c = λ told t image left.
    let begun = c.in_ok-begin.ensures.commits in
    inr (inl (fill_left c.args.log.now c.args.extents.items c.requires.may begun c.fill.ensures.works told t image
    (g.met.S.Store.leaves_now c.fill.new.store told (usable_filled c.args.log.now c.args.extents.items c.requires.may begun c.fill.ensures.works) t image left)))

pub returns-in_err-fill-clause-fails : goal.returns-in_err-fill-clause-fails
returns-in_err-fill-clause-fails g c =
    on_err c.from_residual-in_err-fill.result (fill_fails c.args.log.now c.args.extents.items c.requires.may c.in_ok-begin.ensures.commits c.fill.ensures.works)

pub finish-requires : goal.finish-requires
finish-requires g c = can_finish c.args.log.now c.args.extents.items c.requires.may c.in_ok-begin.ensures.commits c.fill.ensures.works

pub returns-clause-crash : goal.returns-clause-crash
returns-clause-crash g c = λ told t image left.
    finish_left c.args.log.now c.args.extents.items c.requires.may c.in_ok-begin.ensures.commits c.fill.ensures.works c.fill.ensures.proper c.in_ok-fill.ensures.filled told t image
    (c.finish.ensures.crash told t image left)

pub returns-clause-makes : goal.returns-clause-makes
returns-clause-makes g c =
    IfOk-weaker c.finish.result _ _
    (λ v e. is_made c.args.log.now c.args.extents.items c.requires.may c.in_ok-begin.ensures.commits c.fill.ensures.works c.fill.ensures.proper c.in_ok-fill.ensures.filled e) c.finish.ensures.commits

pub returns-clause-fails : goal.returns-clause-fails
returns-clause-fails g c =
    IfErr-weaker c.finish.result _ _ (λ v e. finish_fails c.args.log.now c.args.extents.items c.requires.may c.in_ok-begin.ensures.commits c.fill.ensures.works e) c.finish.ensures.fails
