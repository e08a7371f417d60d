use Rattle.std.proofs.Common.{◌+◌, ◌-◌, rules, arith, ap, ◌∙◌, length}
use Rattle.sm_base.proofs.TextLemmas.{put_mid-placed}
use borrow.Rule.Slice.PartMut.{put_mid}
use Rattle.vg_meta.proofs.encoding.put_bytes.Goals as goal

pub returns : goal.returns
returns c =
    let at = c.args.at in
    let size = at + length c.args.bytes.now - at in
    record {
      written = ap (put_mid at size c.args.to.now) c.copy_from_slice.ensures.after
          ∙ put_mid-placed at size c.args.bytes.now c.args.to.now (omega arith);
      behind = search rules;
    }
