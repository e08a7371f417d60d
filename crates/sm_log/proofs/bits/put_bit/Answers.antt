use Rattle.sm_log.proofs.ByteLaws.{put_turned}
use Rattle.sm_log.proofs.bits.put_bit.Goals as goal

pub returns-then-bit-flag : goal.returns-then-bit-flag
returns-then-bit-flag c = put_turned c.args.bytes.now c.args.piece c.args.flag c.requires (rw c.bit.ensures at c.if-bit-flag.true)
