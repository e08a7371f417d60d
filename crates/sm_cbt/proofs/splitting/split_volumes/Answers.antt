use Rattle.std.proofs.Common.{inr, arith}
use Rattle.std.proofs.lemmas.Result.{IfOk-weaker}
use Rattle.sm_cbt.proofs.MakeLaws.{on_err}
use Rattle.sm_cbt.proofs.SplitLaws.{is_split, make_fails, own_room, renew_fails, renew_left, usable_renewed}
use Rattle.sm_cbt.proofs.splitting.split_volumes.Goals as goal

pub returns-in_err-make-clause-fails : goal.returns-in_err-make-clause-fails
returns-in_err-make-clause-fails g c = on_err c.from_residual.result (make_fails c.args.twin.now c.args.log.now c.args.extents.items c.in_err-make.ensures.fails)

pub renew-requires-clause-room : goal.renew-requires-clause-room
renew-requires-clause-room g c =
    own_room c.args.twin.now c.args.log.now c.args.extents.items c.requires.may c.in_ok-make.ensures.makes c.requires.apart c.table-table.ensures.spread c.requires.room

pub returns-clause-crash : goal.returns-clause-crash
returns-clause-crash g c = λ told t image left.
    inr (renew_left c.args.twin.now c.args.log.now c.args.extents.items c.requires.may c.in_ok-make.ensures.makes c.requires.apart c.table-table.ensures.spread c.renew.ensures.works
    c.renew.ensures.proper (omega (arith, c.requires.room)) c.renew.ensures.order told t image
    (g.met.S.Store.leaves_now c.renew.new.store told
    (usable_renewed c.args.twin.now c.args.log.now c.args.extents.items c.requires.may c.in_ok-make.ensures.makes c.requires.apart c.table-table.ensures.spread c.renew.ensures.works) t image left))

pub returns-clause-splits : goal.returns-clause-splits
returns-clause-splits g c =
    IfOk-weaker c.renew.result _ _
    (λ v n. is_split c.args.twin.now c.args.log.now c.args.extents.items c.requires.may c.in_ok-make.ensures.makes c.requires.apart c.table-table.ensures.spread c.renew.ensures.works n)
    c.renew.ensures.lasts

pub returns-clause-fails : goal.returns-clause-fails
returns-clause-fails g c =
    on_err c.renew.result
    (renew_fails c.args.twin.now c.args.log.now c.args.extents.items c.requires.may c.in_ok-make.ensures.makes c.requires.apart c.table-table.ensures.spread c.renew.ensures.works
    c.renew.ensures.proper (omega (arith, c.requires.room)) c.renew.ensures.order)
