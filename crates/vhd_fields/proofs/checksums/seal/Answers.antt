use Rattle.vhd_fields.proofs.Sealing.{is_sealed}
use Rattle.vhd_fields.proofs.checksums.seal.Goals as goal

pub returns : goal.returns
returns c =
    is_sealed c.args.at c.checksum_of-checksum.result c.args.to.now c.put_u32.new.to c.checksum_of-checksum.ensures
    (rw c.put_u32.ensures.next at c.put_u32.ensures.written)
    (rw c.put_u32.ensures.next at c.put_u32.ensures.rest)
