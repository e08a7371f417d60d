use Rattle.std.proofs.Common.{length-append, sym, arith}
use Rattle.vg_meta.proofs.WriteLaws.{extents_written}
use Rattle.vg_meta.proofs.encoding.put_listed.Goals as goal

pub overflow_add-count : goal.overflow_add-count
overflow_add-count c = omega (arith, length-append c.args.extents.now c.args.more.now, c.requires.few)

pub returns : goal.returns
returns c =
    extents_written c.args.extents.now c.args.more.now _ c.args.at _ _ _ c.args.to.now _ _ _ (omega (arith, c.requires.room))
    (sym (length-append c.args.extents.now c.args.more.now)) c.put_number-extents_at.ensures c.put_numbers-more_at.ensures c.put_numbers.ensures
