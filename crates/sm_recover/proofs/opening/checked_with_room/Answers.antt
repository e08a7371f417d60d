use Rattle.std.proofs.Common.{◌≡◌, Err, refl, sym, ap, ◌∙◌, subst, rules}
use Rattle.vg_meta.specs.Roomy.{table_alone}
use Rattle.vg_volumes.proofs.StoredLaws.{reads_then}
use Rattle.sm_standing.specs.Entries.{folding, head}
use Rattle.sm_ready.specs.Stores.{store_content}
use Rattle.sm_checks.proofs.OpeningLaws.{if_err}
use Rattle.sm_recover.specs.Backs.{CanGiveBack, rows_back}
use Rattle.sm_recover.specs.Ending.{CanEnd, rows_ended}
use Rattle.sm_recover.specs.Stores.{IsOpeningStopped}
use Rattle.sm_recover.specs.Tracked.{HasPiecesOf}
use Rattle.sm_recover.proofs.OpenedOn.{can_give, can_name, few_read, opened_on, pieces_are, rows_are}
use Rattle.sm_recover.proofs.StoppedLaws.{all_pass, check_stopped, few_before, logs_before, pieces_before, stopped_before}
use Rattle.sm_recover.proofs.opening.checked_with_room.Goals as goal

pub returns-in_err-tree-clause-cause : goal.returns-in_err-tree-clause-cause
returns-in_err-tree-clause-cause g c =
    let is : c.from_residual.result ≡ Err c.in_err-tree.field-0.0 = search rules in
    if_err (IsOpeningStopped g.S.Store.told (store_content g.S.Store c.args.store.now) (g.S.Store.faults c.args.store.now) (g.S.Store.faults c.checked.new.store)) c.from_residual.result c.in_err-tree.field-0.0 is
    (check_stopped g.S.Store.told (store_content g.S.Store c.args.store.now) _ _ c.in_err-tree.field-0.0 c.in_err-tree.ensures.cause)

pub take_name-requires : goal.take_name-requires
take_name-requires g c =
    let k = c.in_ok-tree.ensures in
    let same = ap table_alone c.table.ensures.table ∙ c.checked.ensures.reads.stays.table in
    subst (λ t. CanEnd t (head (folding t)) c.in_ok-tree.tree.rows) (sym same) (can_name g.S.Store c.args.store.now c.in_ok-tree.tree.rows c.in_ok-tree.records k.checked k.rows k.each k.long k.passed)

pub give_back-requires : goal.give_back-requires
give_back-requires g c =
    let k = c.in_ok-tree.ensures in
    let same = ap table_alone c.table.ensures.table ∙ c.checked.ensures.reads.stays.table in
    let same_then = ap table_alone c.table-2.ensures.table ∙ c.checked.ensures.reads.stays.table in
    let is = c.take_name.ensures.rows ∙ ap (λ t. rows_ended t c.in_ok-tree.tree.rows) same in
    subst (λ t. CanGiveBack t c.take_name.new.tree.rows) (sym same_then)
    (subst (CanGiveBack (table_alone (g.S.Store.table c.args.store.now))) (sym is) (can_give g.S.Store c.args.store.now c.in_ok-tree.tree.rows c.in_ok-tree.records k.checked k.rows k.each k.long k.passed))

pub checked_logs-requires-clause-few : goal.checked_logs-requires-clause-few
checked_logs-requires-clause-few g c =
    let k = c.in_ok-tree.ensures in
    few_before c.checked.ensures.reads c.give_back.new.tree.rows
    (few_read g.S.Store c.args.store.now c.in_ok-tree.tree.rows c.in_ok-tree.records k.checked k.rows k.each k.long k.passed c.give_back.new.tree.rows)

pub checked_logs-requires-clause-pieces : goal.checked_logs-requires-clause-pieces
checked_logs-requires-clause-pieces g c =
    let k = c.in_ok-tree.ensures in
    let same = ap table_alone c.table.ensures.table ∙ c.checked.ensures.reads.stays.table in
    let same_then = ap table_alone c.table-2.ensures.table ∙ c.checked.ensures.reads.stays.table in
    let is = rows_are g.S.Store c.args.store.now c.in_ok-tree.tree.rows c.in_ok-tree.records k.checked k.rows k.each k.long k.passed (c.take_name.ensures.rows ∙ ap (λ t. rows_ended t c.in_ok-tree.tree.rows) same)
    (c.give_back.ensures.rows ∙ ap (λ t. rows_back t c.take_name.new.tree.rows) same_then) in
    pieces_before c.checked.ensures.reads c.give_back.new.tree.rows
    (λ told. subst (HasPiecesOf (store_content g.S.Store c.args.store.now)) (sym is)
    (pieces_are g.S.Store c.args.store.now c.in_ok-tree.tree.rows c.in_ok-tree.records k.checked k.rows k.each k.long k.passed (k.sound told) told))

pub returns-in_err-logs-clause-reads : goal.returns-in_err-logs-clause-reads
returns-in_err-logs-clause-reads g c = reads_then c.checked.ensures.reads c.checked_logs.ensures.reads

pub returns-in_err-logs-clause-cause : goal.returns-in_err-logs-clause-cause
returns-in_err-logs-clause-cause g c =
    let is : c.from_residual-in_err-logs.result ≡ Err c.in_err-logs.field-0.0 = search rules in
    if_err (IsOpeningStopped g.S.Store.told (store_content g.S.Store c.args.store.now) (g.S.Store.faults c.args.store.now) (g.S.Store.faults c.checked_logs.new.store)) c.from_residual-in_err-logs.result c.in_err-logs.field-0.0 is
    (stopped_before c.checked.ensures.reads c.in_err-logs.field-0.0 (g.S.Store.faults c.checked_logs.new.store) c.in_ok-tree.ensures.sound c.in_err-logs.ensures.cause)

pub returns-in_default-clause-reads : goal.returns-in_default-clause-reads
returns-in_default-clause-reads g c = reads_then (reads_then c.checked.ensures.reads c.checked_logs.ensures.reads) c.room_of.ensures.reads

pub returns-clause-reads : goal.returns-clause-reads
returns-clause-reads g c = reads_then (reads_then c.checked.ensures.reads c.checked_logs.ensures.reads) c.room_of.ensures.reads

pub returns-clause-sound : goal.returns-clause-sound
returns-clause-sound g c = λ told.
    all_pass (store_content g.S.Store c.args.store.now) (c.in_ok-tree.ensures.sound told)
    ((logs_before c.checked.ensures.reads c.give_back.new.tree.rows c.in_ok-logs.logs c.in_ok-logs.ensures.read).pass told)

pub returns-clause-opened : goal.returns-clause-opened
returns-clause-opened g c =
    let k = c.in_ok-tree.ensures in
    let same = ap table_alone c.table.ensures.table ∙ c.checked.ensures.reads.stays.table in
    let same_then = ap table_alone c.table-2.ensures.table ∙ c.checked.ensures.reads.stays.table in
    let is = rows_are g.S.Store c.args.store.now c.in_ok-tree.tree.rows c.in_ok-tree.records k.checked k.rows k.each k.long k.passed (c.take_name.ensures.rows ∙ ap (λ t. rows_ended t c.in_ok-tree.tree.rows) same)
    (c.give_back.ensures.rows ∙ ap (λ t. rows_back t c.take_name.new.tree.rows) same_then) in
    opened_on g.S.Store c.args.store.now c.in_ok-tree.tree.rows c.in_ok-tree.records k.checked k.rows k.each k.long k.passed _ is refl c.in-Ok.ensures.unattached.0 c.in-Ok.ensures.unattached.1 c.in-Ok.ensures.idle
    (logs_before c.checked.ensures.reads c.give_back.new.tree.rows c.in_ok-logs.logs c.in_ok-logs.ensures.read) k.sound k.agrees
