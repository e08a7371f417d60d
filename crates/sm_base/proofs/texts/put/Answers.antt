use Rattle.std.proofs.Common.{◌+◌, ◌-◌, arith, ap, ◌∙◌, length}
use Rattle.sm_base.proofs.TextLemmas.{put_mid-placed}
use Rattle.sm_base.proofs.texts.put.Goals as goal
use borrow.Rule.Slice.PartMut.{put_mid}

pub returns-clause-written : goal.returns-clause-written
returns-clause-written c =
    let at = c.args.at in
    let size = at + length c.args.text.now - at in
    ap (put_mid at size c.args.to.now) c.copy_from_slice.ensures.after
    ∙ put_mid-placed at size c.args.text.now c.args.to.now (omega arith)
