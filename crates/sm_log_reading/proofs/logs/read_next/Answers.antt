use Rattle.std.proofs.Common.{ap, sym, ◌∙◌}
use Rattle.vg_meta.specs.Roomy.{RoomyTable, table_alone}
use Rattle.vg_volumes.specs.Stored.{stored}
use Rattle.sm_log_reading.specs.Reading.{content_of}
use Rattle.sm_log_reading.specs.Right.{is_to_read}
use Rattle.sm_log_reading.proofs.NextLaws.{next_none, next_judged, same_reason}
use Rattle.sm_log_reading.proofs.logs.read_next.Goals as goal

pub returns-then-not-is_to_read-clause-next : goal.returns-then-not-is_to_read-clause-next
returns-then-not-is_to_read-clause-next g c = λ told.
    let same = ap (λ (k : RoomyTable). is_to_read (table_alone k) c.args.earlier.now c.args.disk.now) c.table.ensures.table in
    next_none (content_of (stored g.S.Store c.args.store.now)) c.args.earlier.now c.args.disk.now (sym same ∙ sym c.is_to_read.ensures ∙ c.if-not-is_to_read.true)

pub returns-in-Ok-clause-next : goal.returns-in-Ok-clause-next
returns-in-Ok-clause-next g c = λ told.
    let same = ap (λ (k : RoomyTable). is_to_read (table_alone k) c.args.earlier.now c.args.disk.now) c.table.ensures.table in
    next_judged (content_of (stored g.S.Store c.args.store.now)) c.args.earlier.now c.args.disk.now (sym same ∙ sym c.is_to_read.ensures ∙ c.if-not-is_to_read.false)
    ∙ c.in-Ok.ensures.right told

pub returns-in-Err-clause-cause : goal.returns-in-Err-clause-cause
returns-in-Err-clause-cause g c =
    let same = ap (λ (k : RoomyTable). is_to_read (table_alone k) c.args.earlier.now c.args.disk.now) c.table.ensures.table in
    let judged = next_judged (content_of (stored g.S.Store c.args.store.now)) c.args.earlier.now c.args.disk.now (sym same ∙ sym c.is_to_read.ensures ∙ c.if-not-is_to_read.false) in
    same_reason g.S.Store c.args.store.now c.read_right.new.store c.in-Err.fault (λ told u wrong. judged ∙ wrong) c.in-Err.ensures.cause
