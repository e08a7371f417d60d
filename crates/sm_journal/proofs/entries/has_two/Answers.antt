use Rattle.std.proofs.Common.{count_by, sym, ◌∙◌}
use Rattle.vg_meta.specs.Tables.{names_of}
use Rattle.vg_meta.specs.Roomy.{rows_alone}
use Rattle.sm_journal.specs.Entries.{is_operation, is_call}
use Rattle.sm_journal.proofs.EntryLaws.{counted_names, more_first, more_second}
use Rattle.sm_journal.proofs.entries.has_two.Goals as goal

pub returns-then-operations-gt1 : goal.returns-then-operations-gt1
returns-then-operations-gt1 c =
    let vs = c.args.volumes.now in
    more_first c.count_operations-operations.result (count_by is_operation (names_of (rows_alone vs))) (count_by is_call (names_of (rows_alone vs)))
    (c.count_operations-operations.ensures ∙ sym (counted_names is_operation vs)) c.if-operations-gt1.true

pub returns-else-operations-gt1 : goal.returns-else-operations-gt1
returns-else-operations-gt1 c =
    let vs = c.args.volumes.now in
    more_second c.count_operations-operations.result c.count_calls-calls.result (count_by is_operation (names_of (rows_alone vs))) (count_by is_call (names_of (rows_alone vs)))
    (c.count_operations-operations.ensures ∙ sym (counted_names is_operation vs))
    (c.count_calls-calls.ensures ∙ sym (counted_names is_call vs)) c.if-operations-gt1.false
