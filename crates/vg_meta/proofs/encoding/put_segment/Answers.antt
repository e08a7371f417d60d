use Rattle.std.proofs.Common.{arith}
use Rattle.byteorder.specs.Endian.{big_bytes}
use Rattle.vg_meta.proofs.WriteLaws.{puts_then}
use Rattle.vg_meta.proofs.encoding.put_segment.Goals as goal

pub returns : goal.returns
returns c =
    puts_then c.args.at _ _ (big_bytes 4 c.args.segment.first) (big_bytes 4 c.args.segment.count) c.args.to.now _ _ (omega (arith, c.requires))
    c.put_number-count_at.ensures c.put_number.ensures
