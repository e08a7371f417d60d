use Rattle.std.proofs.Common.{inl, ◌<◌, List, length, subst, ap, arith}
use Rattle.sm_base.specs.Names.{IsUuid}
use Rattle.sm_log.specs.Logs.{Log, new_log}
use Rattle.sm_logs.specs.Held.{log_limit}
use Rattle.vg_meta.specs.Roomy.{table_alone}
use Rattle.vg_volumes.proofs.StoredLaws.{reads_none}
use Rattle.sm_machine.specs.Refusals.{log_room}
use Rattle.sm_machine.specs.Tracking.{begun}
use Rattle.sm_ready.specs.Does.{store_shape}
use Rattle.sm_ready.proofs.TakenLaws.{is_told}
use Rattle.sm_tracking.proofs.BeginLaws.{begins, least_begun, unlogged}
use Rattle.sm_tracking.proofs.BeginStops.{reads_tracked, reads_unlogged}
use Rattle.sm_tracking.proofs.MadeLaws.{may_make}
use Rattle.sm_tracking.proofs.OutcomeLaws.{outcome_between, outcome_lasting, outcome_least, outcome_memory, outcome_numbered, outcome_shape, outcome_tracked}
use Rattle.sm_tracking.proofs.beginning.begin.Goals as goal

pub returns-then-rows-ge-LOG_LIMIT-clause-tracked : goal.returns-then-rows-ge-LOG_LIMIT-clause-tracked
returns-then-rows-ge-LOG_LIMIT-clause-tracked g c = λ told ready.
    reads_tracked (is_told g.S.Store c.args.store.now c.args.memory.now c.requires.session.orderly c.requires.session.usable told ready (g.met.S.Store.leaves_now c.args.store.now told c.requires.session.usable))
    c.args.memory.now _ _ (λ e. (let z = e in cc)) (reads_none _) (λ t image left. left)

pub returns-in_default-clause-tracked : goal.returns-in_default-clause-tracked
returns-in_default-clause-tracked g c = λ told ready.
    reads_tracked (is_told g.S.Store c.args.store.now c.args.memory.now c.requires.session.orderly c.requires.session.usable told ready (g.met.S.Store.leaves_now c.args.store.now told c.requires.session.usable))
    c.args.memory.now _ _ (λ e. (let z = e in cc)) (reads_none _) (λ t image left. left)

pub returns-then-rows-ge-LOG_LIMIT-clause-numbered : goal.returns-then-rows-ge-LOG_LIMIT-clause-numbered
returns-then-rows-ge-LOG_LIMIT-clause-numbered g c = λ told ready v image left.
    inl (reads_unlogged (is_told g.S.Store c.args.store.now c.args.memory.now c.requires.session.orderly c.requires.session.usable told ready (g.met.S.Store.leaves_now c.args.store.now told c.requires.session.usable))
    c.args.disk.now (unlogged c.args.disk.now c.requires.session.orderly c.requires.session.tidy c.requires.allowed) (reads_none _) (λ t i l. l) v image left)

pub returns-in_default-clause-numbered : goal.returns-in_default-clause-numbered
returns-in_default-clause-numbered g c = λ told ready v image left.
    inl (reads_unlogged (is_told g.S.Store c.args.store.now c.args.memory.now c.requires.session.orderly c.requires.session.usable told ready (g.met.S.Store.leaves_now c.args.store.now told c.requires.session.usable))
    c.args.disk.now (unlogged c.args.disk.now c.requires.session.orderly c.requires.session.tidy c.requires.allowed) (reads_none _) (λ t i l. l) v image left)

pub start-requires-clause-absent : goal.start-requires-clause-absent
start-requires-clause-absent g c =
    let few : length c.args.memory.now.logs < log_limit = omega (arith, c.if-rows-ge-LOG_LIMIT.false, ap (λ (ls : List Log). length ls) c.rows.ensures.rows) in
    let b = begins g.S.Store c.args.store.now c.args.memory.now c.args.disk.now c.disk_pieces-pieces.result c.log_room-need.result c.extents-extents.result c.geometry-geometry.result (table_alone c.table.result.now) c.in-Ok.found.items
    c.requires.session c.requires.allowed few (subst IsUuid c.as_bytes.ensures c.law_uuid.ensures) c.disk_pieces-pieces.ensures c.log_room-need.ensures.exact
    c.geometry-geometry.ensures c.extents-extents.ensures.count (ap table_alone c.table.ensures.table) c.in-Ok.ensures.fit.many c.in-Ok.ensures.free in
    b.may.absent

pub start-requires-clause-few : goal.start-requires-clause-few
start-requires-clause-few g c =
    let few : length c.args.memory.now.logs < log_limit = omega (arith, c.if-rows-ge-LOG_LIMIT.false, ap (λ (ls : List Log). length ls) c.rows.ensures.rows) in
    let b = begins g.S.Store c.args.store.now c.args.memory.now c.args.disk.now c.disk_pieces-pieces.result c.log_room-need.result c.extents-extents.result c.geometry-geometry.result (table_alone c.table.result.now) c.in-Ok.found.items
    c.requires.session c.requires.allowed few (subst IsUuid c.as_bytes.ensures c.law_uuid.ensures) c.disk_pieces-pieces.ensures c.log_room-need.ensures.exact
    c.geometry-geometry.ensures c.extents-extents.ensures.count (ap table_alone c.table.ensures.table) c.in-Ok.ensures.fit.many c.in-Ok.ensures.free in
    b.may.few

pub start-requires-clause-may : goal.start-requires-clause-may
start-requires-clause-may g c =
    let few : length c.args.memory.now.logs < log_limit = omega (arith, c.if-rows-ge-LOG_LIMIT.false, ap (λ (ls : List Log). length ls) c.rows.ensures.rows) in
    let b = begins g.S.Store c.args.store.now c.args.memory.now c.args.disk.now c.disk_pieces-pieces.result c.log_room-need.result c.extents-extents.result c.geometry-geometry.result (table_alone c.table.result.now) c.in-Ok.found.items
    c.requires.session c.requires.allowed few (subst IsUuid c.as_bytes.ensures c.law_uuid.ensures) c.disk_pieces-pieces.ensures c.log_room-need.ensures.exact
    c.geometry-geometry.ensures c.extents-extents.ensures.count (ap table_alone c.table.ensures.table) c.in-Ok.ensures.fit.many c.in-Ok.ensures.free in
    may_make b.may

pub returns-clause-memory : goal.returns-clause-memory
returns-clause-memory g c =
    let few : length c.args.memory.now.logs < log_limit = omega (arith, c.if-rows-ge-LOG_LIMIT.false, ap (λ (ls : List Log). length ls) c.rows.ensures.rows) in
    let b = begins g.S.Store c.args.store.now c.args.memory.now c.args.disk.now c.disk_pieces-pieces.result c.log_room-need.result c.extents-extents.result c.geometry-geometry.result (table_alone c.table.result.now) c.in-Ok.found.items
    c.requires.session c.requires.allowed few (subst IsUuid c.as_bytes.ensures c.law_uuid.ensures) c.disk_pieces-pieces.ensures c.log_room-need.ensures.exact
    c.geometry-geometry.ensures c.extents-extents.ensures.count (ap table_alone c.table.ensures.table) c.in-Ok.ensures.fit.many c.in-Ok.ensures.free in
    outcome_memory g.S.Store c.args.store.now c.start.new.store c.args.memory.now (new_log c.args.disk.now (length c.in-Ok.found.items) c.disk_pieces-pieces.result) c.in-Ok.found.items c.start.new.logs b.may c.start.result (begun (store_shape g.S.Store c.args.store.now c.args.memory.now) c.args.disk.now).logs b.logs c.start.ensures.logs

pub returns-clause-session_still : goal.returns-clause-session_still
returns-clause-session_still g c =
    let few : length c.args.memory.now.logs < log_limit = omega (arith, c.if-rows-ge-LOG_LIMIT.false, ap (λ (ls : List Log). length ls) c.rows.ensures.rows) in
    let b = begins g.S.Store c.args.store.now c.args.memory.now c.args.disk.now c.disk_pieces-pieces.result c.log_room-need.result c.extents-extents.result c.geometry-geometry.result (table_alone c.table.result.now) c.in-Ok.found.items
    c.requires.session c.requires.allowed few (subst IsUuid c.as_bytes.ensures c.law_uuid.ensures) c.disk_pieces-pieces.ensures c.log_room-need.ensures.exact
    c.geometry-geometry.ensures c.extents-extents.ensures.count (ap table_alone c.table.ensures.table) c.in-Ok.ensures.fit.many c.in-Ok.ensures.free in
    outcome_between g.S.Store c.args.store.now c.start.new.store c.args.memory.now (new_log c.args.disk.now (length c.in-Ok.found.items) c.disk_pieces-pieces.result) c.in-Ok.found.items c.start.new.logs b.may c.start.result c.requires.session c.start.ensures.makes c.start.ensures.logs

pub returns-clause-shape : goal.returns-clause-shape
returns-clause-shape g c =
    let few : length c.args.memory.now.logs < log_limit = omega (arith, c.if-rows-ge-LOG_LIMIT.false, ap (λ (ls : List Log). length ls) c.rows.ensures.rows) in
    let b = begins g.S.Store c.args.store.now c.args.memory.now c.args.disk.now c.disk_pieces-pieces.result c.log_room-need.result c.extents-extents.result c.geometry-geometry.result (table_alone c.table.result.now) c.in-Ok.found.items
    c.requires.session c.requires.allowed few (subst IsUuid c.as_bytes.ensures c.law_uuid.ensures) c.disk_pieces-pieces.ensures c.log_room-need.ensures.exact
    c.geometry-geometry.ensures c.extents-extents.ensures.count (ap table_alone c.table.ensures.table) c.in-Ok.ensures.fit.many c.in-Ok.ensures.free in
    outcome_shape g.S.Store c.args.store.now c.start.new.store c.args.memory.now (new_log c.args.disk.now (length c.in-Ok.found.items) c.disk_pieces-pieces.result) c.in-Ok.found.items c.start.new.logs b.may c.start.result (begun (store_shape g.S.Store c.args.store.now c.args.memory.now) c.args.disk.now) b.shape c.start.ensures.makes c.start.ensures.logs

pub returns-clause-lasting : goal.returns-clause-lasting
returns-clause-lasting g c =
    outcome_lasting g.S.Store c.args.store.now c.start.new.store (new_log c.args.disk.now (length c.in-Ok.found.items) c.disk_pieces-pieces.result) c.in-Ok.found.items c.start.result c.start.ensures.makes

pub returns-clause-least : goal.returns-clause-least
returns-clause-least g c =
    let least = least_begun g.S.Store c.args.store.now c.args.memory.now c.args.disk.now c.log_room-need.result c.extents-extents.result c.geometry-geometry.result (table_alone c.table.result.now) c.in-Ok.found.items
    c.requires.session c.log_room-need.ensures.exact c.geometry-geometry.ensures c.extents-extents.ensures.count (ap table_alone c.table.ensures.table) c.in-Ok.ensures.fit in
    outcome_least g.S.Store c.args.store.now c.start.new.store (new_log c.args.disk.now (length c.in-Ok.found.items) c.disk_pieces-pieces.result) c.in-Ok.found.items c.start.result (log_room (store_shape g.S.Store c.args.store.now c.args.memory.now) c.args.disk.now) least c.start.ensures.makes

pub returns-clause-numbered : goal.returns-clause-numbered
returns-clause-numbered g c = λ told ready v image left.
    let few : length c.args.memory.now.logs < log_limit = omega (arith, c.if-rows-ge-LOG_LIMIT.false, ap (λ (ls : List Log). length ls) c.rows.ensures.rows) in
    let b = begins g.S.Store c.args.store.now c.args.memory.now c.args.disk.now c.disk_pieces-pieces.result c.log_room-need.result c.extents-extents.result c.geometry-geometry.result (table_alone c.table.result.now) c.in-Ok.found.items
    c.requires.session c.requires.allowed few (subst IsUuid c.as_bytes.ensures c.law_uuid.ensures) c.disk_pieces-pieces.ensures c.log_room-need.ensures.exact
    c.geometry-geometry.ensures c.extents-extents.ensures.count (ap table_alone c.table.ensures.table) c.in-Ok.ensures.fit.many c.in-Ok.ensures.free in
    outcome_numbered g.S.Store c.args.store.now c.start.new.store c.args.memory.now (new_log c.args.disk.now (length c.in-Ok.found.items) c.disk_pieces-pieces.result) c.in-Ok.found.items c.start.new.logs b.may c.start.result
    (is_told g.S.Store c.args.store.now c.args.memory.now c.requires.session.orderly c.requires.session.usable told ready (g.met.S.Store.leaves_now c.args.store.now told c.requires.session.usable))
    c.start.ensures.makes c.start.ensures.fails (λ e. (c.start.ensures.poor e).0) c.start.ensures.fewer c.start.ensures.crash v image left

pub returns-clause-tracked : goal.returns-clause-tracked
returns-clause-tracked g c = λ told ready.
    let few : length c.args.memory.now.logs < log_limit = omega (arith, c.if-rows-ge-LOG_LIMIT.false, ap (λ (ls : List Log). length ls) c.rows.ensures.rows) in
    let b = begins g.S.Store c.args.store.now c.args.memory.now c.args.disk.now c.disk_pieces-pieces.result c.log_room-need.result c.extents-extents.result c.geometry-geometry.result (table_alone c.table.result.now) c.in-Ok.found.items
    c.requires.session c.requires.allowed few (subst IsUuid c.as_bytes.ensures c.law_uuid.ensures) c.disk_pieces-pieces.ensures c.log_room-need.ensures.exact
    c.geometry-geometry.ensures c.extents-extents.ensures.count (ap table_alone c.table.ensures.table) c.in-Ok.ensures.fit.many c.in-Ok.ensures.free in
    outcome_tracked g.S.Store c.args.store.now c.start.new.store c.args.memory.now (new_log c.args.disk.now (length c.in-Ok.found.items) c.disk_pieces-pieces.result) c.in-Ok.found.items c.start.new.logs b.may c.start.result (begun (store_shape g.S.Store c.args.store.now c.args.memory.now) c.args.disk.now).logs b.logs
    (is_told g.S.Store c.args.store.now c.args.memory.now c.requires.session.orderly c.requires.session.usable told ready (g.met.S.Store.leaves_now c.args.store.now told c.requires.session.usable))
    c.start.ensures.makes c.start.ensures.logs c.start.ensures.fails (λ e. (c.start.ensures.poor e).0) c.start.ensures.fewer c.start.ensures.crash
