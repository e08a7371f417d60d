use Rattle.std.proofs.Common.{arith}
use Rattle.sm_record.proofs.Sectors.{sealed, unsealed}
use Rattle.sm_record.proofs.records.is_sealed.Goals as goal

pub returns-then-starts_with : goal.returns-then-starts_with
returns-then-starts_with c =
    sealed c.args.bytes.now c.starts_with.result c.read_u32.result c.sum_of.result (rw c.split_at.ensures.front at c.starts_with.ensures.value) c.if-starts_with.true (omega arith)
    (rw c.split_at.ensures.back at c.read_u32.ensures) (rw c.split_at.ensures.front at c.sum_of.ensures)

pub returns-else-starts_with : goal.returns-else-starts_with
returns-else-starts_with c = unsealed c.args.bytes.now c.starts_with.result (rw c.split_at.ensures.front at c.starts_with.ensures.value) c.if-starts_with.false
