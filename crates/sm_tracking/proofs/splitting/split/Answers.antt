use Rattle.std.proofs.Common.{arith, ap}
use Rattle.std.proofs.Common.{OnErr, OnOk}
use Rattle.sm_cbt.specs.Splitting.{FailsToSplit, IsInSplit, Splits}
use Rattle.sm_log.specs.Logs.{begun_anew, log_of}
use Rattle.vg_volumes.specs.Stored.{Leaves, stored}
use Rattle.sm_ready.proofs.TakenLaws.{is_told}
use Rattle.sm_tracking.proofs.AnewLaws.{to_log}
use Rattle.sm_tracking.proofs.MadeLaws.{may_make}
use Rattle.sm_tracking.proofs.SplitEnds.{enough_found, least_is, of_log, own_room, row_spare, split_in_order, split_least, split_shaped, split_steps, split_still, split_tracked, to_split}
use Rattle.sm_tracking.proofs.splitting.split.Goals as goal
use Rattle.sm_tracking.proofs.splitting.split.Goals.{then-head-eq0-via-then-head-eq0, then-head-eq0-via-else-head-eq0+then-len-need}

pub returns-then-head-eq0-clause-shape : goal.returns-then-head-eq0-clause-shape
returns-then-head-eq0-clause-shape g c = λ can.
    let least = least_is g.S.Store c.args.store.now c.args.memory.now c.args.disk.now c.args.room c.find_least.new.found.items c.requires.session c.requires.room c.extents-need.result c.table.result.now c.find_least.ensures c.extents-need.ensures c.table.ensures.table in
    absurd (elim c.then-head-eq0.branch [
      | then-head-eq0-via-then-head-eq0 w ↦ (let some = can.some in omega (arith, some, w.if-head-eq0.true, ap (λ h. h.pieces) c.head.ensures))
      | then-head-eq0-via-else-head-eq0+then-len-need w ↦
          (let found = enough_found g.S.Store c.args.store.now c.args.memory.now c.args.disk.now c.args.room c.find_least.new.found.items c.requires.session c.requires.room least can.enough in
          omega (arith, found, w.if-len-need.true, w.len.ensures, c.extents-need.ensures))
    ])

pub returns-then-head-eq0-clause-split : goal.returns-then-head-eq0-clause-split
returns-then-head-eq0-clause-split g c = λ told ready can.
    let least = least_is g.S.Store c.args.store.now c.args.memory.now c.args.disk.now c.args.room c.find_least.new.found.items c.requires.session c.requires.room c.extents-need.result c.table.result.now c.find_least.ensures c.extents-need.ensures c.table.ensures.table in
    absurd (elim c.then-head-eq0.branch [
      | then-head-eq0-via-then-head-eq0 w ↦ (let some = can.some in omega (arith, some, w.if-head-eq0.true, ap (λ h. h.pieces) c.head.ensures))
      | then-head-eq0-via-else-head-eq0+then-len-need w ↦
          (let found = enough_found g.S.Store c.args.store.now c.args.memory.now c.args.disk.now c.args.room c.find_least.new.found.items c.requires.session c.requires.room least can.enough in
          omega (arith, found, w.if-len-need.true, w.len.ensures, c.extents-need.ensures))
    ])

pub returns-then-head-eq0-clause-order : goal.returns-then-head-eq0-clause-order
returns-then-head-eq0-clause-order g c = λ told ready can.
    let least = least_is g.S.Store c.args.store.now c.args.memory.now c.args.disk.now c.args.room c.find_least.new.found.items c.requires.session c.requires.room c.extents-need.result c.table.result.now c.find_least.ensures c.extents-need.ensures c.table.ensures.table in
    absurd (elim c.then-head-eq0.branch [
      | then-head-eq0-via-then-head-eq0 w ↦ (let some = can.some in omega (arith, some, w.if-head-eq0.true, ap (λ h. h.pieces) c.head.ensures))
      | then-head-eq0-via-else-head-eq0+then-len-need w ↦
          (let found = enough_found g.S.Store c.args.store.now c.args.memory.now c.args.disk.now c.args.room c.find_least.new.found.items c.requires.session c.requires.room least can.enough in
          omega (arith, found, w.if-len-need.true, w.len.ensures, c.extents-need.ensures))
    ])

pub returns-then-head-eq0-clause-least : goal.returns-then-head-eq0-clause-least
returns-then-head-eq0-clause-least g c = λ can.
    let least = least_is g.S.Store c.args.store.now c.args.memory.now c.args.disk.now c.args.room c.find_least.new.found.items c.requires.session c.requires.room c.extents-need.result c.table.result.now c.find_least.ensures c.extents-need.ensures c.table.ensures.table in
    absurd (elim c.then-head-eq0.branch [
      | then-head-eq0-via-then-head-eq0 w ↦ (let some = can.some in omega (arith, some, w.if-head-eq0.true, ap (λ h. h.pieces) c.head.ensures))
      | then-head-eq0-via-else-head-eq0+then-len-need w ↦
          (let found = enough_found g.S.Store c.args.store.now c.args.memory.now c.args.disk.now c.args.room c.find_least.new.found.items c.requires.session c.requires.room least can.enough in
          omega (arith, found, w.if-len-need.true, w.len.ensures, c.extents-need.ensures))
    ])

pub split-requires-clause-room : goal.split-requires-clause-room
split-requires-clause-room g c =
    let least = least_is g.S.Store c.args.store.now c.args.memory.now c.args.disk.now c.args.room c.find_least.new.found.items c.requires.session c.requires.room c.extents-need.result c.table.result.now c.find_least.ensures c.extents-need.ensures c.table.ensures.table in
    let x = to_split g.S.Store c.args.store.now c.args.memory.now c.args.disk.now c.args.room c.find_least.new.found.items c.requires.session c.requires.room least
    (omega (arith, c.if-len-need.false, c.len.ensures, c.extents-need.ensures)) (omega (arith, c.if-head-eq0.false, ap (λ h. h.pieces) c.head.ensures)) in
    own_room g.S.Store c.args.store.now c.args.memory.now x

pub split-requires-clause-row : goal.split-requires-clause-row
split-requires-clause-row g c =
    let least = least_is g.S.Store c.args.store.now c.args.memory.now c.args.disk.now c.args.room c.find_least.new.found.items c.requires.session c.requires.room c.extents-need.result c.table.result.now c.find_least.ensures c.extents-need.ensures c.table.ensures.table in
    let x = to_split g.S.Store c.args.store.now c.args.memory.now c.args.disk.now c.args.room c.find_least.new.found.items c.requires.session c.requires.room least
    (omega (arith, c.if-len-need.false, c.len.ensures, c.extents-need.ensures)) (omega (arith, c.if-head-eq0.false, ap (λ h. h.pieces) c.head.ensures)) in
    row_spare g.S.Store c.args.store.now c.args.memory.now x c.requires.session

pub split-requires-clause-may : goal.split-requires-clause-may
split-requires-clause-may g c =
    let least = least_is g.S.Store c.args.store.now c.args.memory.now c.args.disk.now c.args.room c.find_least.new.found.items c.requires.session c.requires.room c.extents-need.result c.table.result.now c.find_least.ensures c.extents-need.ensures c.table.ensures.table in
    let x = to_split g.S.Store c.args.store.now c.args.memory.now c.args.disk.now c.args.room c.find_least.new.found.items c.requires.session c.requires.room least
    (omega (arith, c.if-len-need.false, c.len.ensures, c.extents-need.ensures)) (omega (arith, c.if-head-eq0.false, ap (λ h. h.pieces) c.head.ensures)) in
    may_make (to_log x)

pub returns-clause-session_still : goal.returns-clause-session_still
returns-clause-session_still g c =
    let least = least_is g.S.Store c.args.store.now c.args.memory.now c.args.disk.now c.args.room c.find_least.new.found.items c.requires.session c.requires.room c.extents-need.result c.table.result.now c.find_least.ensures c.extents-need.ensures c.table.ensures.table in
    let x = to_split g.S.Store c.args.store.now c.args.memory.now c.args.disk.now c.args.room c.find_least.new.found.items c.requires.session c.requires.room least
    (omega (arith, c.if-len-need.false, c.len.ensures, c.extents-need.ensures)) (omega (arith, c.if-head-eq0.false, ap (λ h. h.pieces) c.head.ensures)) in
    split_still g.S.Store c.args.store.now c.args.memory.now x c.split.new.store c.split.new.logs c.split.result c.requires.session
    (of_log (λ l. OnOk c.split.result (Splits g.S.Store c.args.room.log (begun_anew c.args.room.log.tag l) c.find_least.new.found.items c.args.store.now c.split.new.store)) (log_of c.args.disk.now c.args.memory.now.logs) c.requires.room.own c.requires.room.tracked c.split.ensures.splits)
    c.split.ensures.logs

pub returns-clause-shape : goal.returns-clause-shape
returns-clause-shape g c = λ can.
    let least = least_is g.S.Store c.args.store.now c.args.memory.now c.args.disk.now c.args.room c.find_least.new.found.items c.requires.session c.requires.room c.extents-need.result c.table.result.now c.find_least.ensures c.extents-need.ensures c.table.ensures.table in
    let x = to_split g.S.Store c.args.store.now c.args.memory.now c.args.disk.now c.args.room c.find_least.new.found.items c.requires.session c.requires.room least
    (omega (arith, c.if-len-need.false, c.len.ensures, c.extents-need.ensures)) (omega (arith, c.if-head-eq0.false, ap (λ h. h.pieces) c.head.ensures)) in
    split_shaped g.S.Store c.args.store.now c.args.memory.now x c.split.new.store c.split.new.logs c.split.result
    (of_log (λ l. OnOk c.split.result (Splits g.S.Store c.args.room.log (begun_anew c.args.room.log.tag l) c.find_least.new.found.items c.args.store.now c.split.new.store)) (log_of c.args.disk.now c.args.memory.now.logs) c.requires.room.own c.requires.room.tracked c.split.ensures.splits)
    c.split.ensures.logs

pub returns-clause-split : goal.returns-clause-split
returns-clause-split g c = λ told ready can.
    let least = least_is g.S.Store c.args.store.now c.args.memory.now c.args.disk.now c.args.room c.find_least.new.found.items c.requires.session c.requires.room c.extents-need.result c.table.result.now c.find_least.ensures c.extents-need.ensures c.table.ensures.table in
    let x = to_split g.S.Store c.args.store.now c.args.memory.now c.args.disk.now c.args.room c.find_least.new.found.items c.requires.session c.requires.room least
    (omega (arith, c.if-len-need.false, c.len.ensures, c.extents-need.ensures)) (omega (arith, c.if-head-eq0.false, ap (λ h. h.pieces) c.head.ensures)) in
    split_tracked g.S.Store c.args.store.now c.args.memory.now x c.split.new.store c.split.new.logs c.split.result
    (is_told g.S.Store c.args.store.now c.args.memory.now c.requires.session.orderly c.requires.session.usable told ready (g.met.S.Store.leaves_now c.args.store.now told c.requires.session.usable))
    (of_log (λ l. OnOk c.split.result (Splits g.S.Store c.args.room.log (begun_anew c.args.room.log.tag l) c.find_least.new.found.items c.args.store.now c.split.new.store)) (log_of c.args.disk.now c.args.memory.now.logs) c.requires.room.own c.requires.room.tracked c.split.ensures.splits)
    c.split.ensures.logs
    (of_log (λ l. OnErr c.split.result (FailsToSplit g.S.Store c.args.room.log (begun_anew c.args.room.log.tag l) c.find_least.new.found.items c.args.store.now c.split.new.store)) (log_of c.args.disk.now c.args.memory.now.logs) c.requires.room.own c.requires.room.tracked c.split.ensures.fails)
    (of_log (λ l. Leaves g.S.Store c.split.new.store (IsInSplit (stored g.S.Store c.args.store.now) c.args.room.log (begun_anew c.args.room.log.tag l) c.find_least.new.found.items)) (log_of c.args.disk.now c.args.memory.now.logs) c.requires.room.own c.requires.room.tracked c.split.ensures.crash)

pub returns-clause-order : goal.returns-clause-order
returns-clause-order g c = λ told ready can.
    let least = least_is g.S.Store c.args.store.now c.args.memory.now c.args.disk.now c.args.room c.find_least.new.found.items c.requires.session c.requires.room c.extents-need.result c.table.result.now c.find_least.ensures c.extents-need.ensures c.table.ensures.table in
    let x = to_split g.S.Store c.args.store.now c.args.memory.now c.args.disk.now c.args.room c.find_least.new.found.items c.requires.session c.requires.room least
    (omega (arith, c.if-len-need.false, c.len.ensures, c.extents-need.ensures)) (omega (arith, c.if-head-eq0.false, ap (λ h. h.pieces) c.head.ensures)) in
    split_in_order g.S.Store c.args.store.now c.args.memory.now x c.split.new.store c.split.new.logs c.split.result
    (is_told g.S.Store c.args.store.now c.args.memory.now c.requires.session.orderly c.requires.session.usable told ready (g.met.S.Store.leaves_now c.args.store.now told c.requires.session.usable))
    (of_log (λ l. OnOk c.split.result (Splits g.S.Store c.args.room.log (begun_anew c.args.room.log.tag l) c.find_least.new.found.items c.args.store.now c.split.new.store)) (log_of c.args.disk.now c.args.memory.now.logs) c.requires.room.own c.requires.room.tracked c.split.ensures.splits)
    (of_log (λ l. OnErr c.split.result (FailsToSplit g.S.Store c.args.room.log (begun_anew c.args.room.log.tag l) c.find_least.new.found.items c.args.store.now c.split.new.store)) (log_of c.args.disk.now c.args.memory.now.logs) c.requires.room.own c.requires.room.tracked c.split.ensures.fails)
    (of_log (λ l. Leaves g.S.Store c.split.new.store (IsInSplit (stored g.S.Store c.args.store.now) c.args.room.log (begun_anew c.args.room.log.tag l) c.find_least.new.found.items)) (log_of c.args.disk.now c.args.memory.now.logs) c.requires.room.own c.requires.room.tracked c.split.ensures.crash)

pub returns-clause-least : goal.returns-clause-least
returns-clause-least g c = λ can.
    let least = least_is g.S.Store c.args.store.now c.args.memory.now c.args.disk.now c.args.room c.find_least.new.found.items c.requires.session c.requires.room c.extents-need.result c.table.result.now c.find_least.ensures c.extents-need.ensures c.table.ensures.table in
    let x = to_split g.S.Store c.args.store.now c.args.memory.now c.args.disk.now c.args.room c.find_least.new.found.items c.requires.session c.requires.room least
    (omega (arith, c.if-len-need.false, c.len.ensures, c.extents-need.ensures)) (omega (arith, c.if-head-eq0.false, ap (λ h. h.pieces) c.head.ensures)) in
    split_least g.S.Store c.args.store.now c.args.memory.now x c.split.new.store c.split.new.logs c.split.result least
    (of_log (λ l. OnOk c.split.result (Splits g.S.Store c.args.room.log (begun_anew c.args.room.log.tag l) c.find_least.new.found.items c.args.store.now c.split.new.store)) (log_of c.args.disk.now c.args.memory.now.logs) c.requires.room.own c.requires.room.tracked c.split.ensures.splits)

pub returns-clause-step : goal.returns-clause-step
returns-clause-step g c =
    let least = least_is g.S.Store c.args.store.now c.args.memory.now c.args.disk.now c.args.room c.find_least.new.found.items c.requires.session c.requires.room c.extents-need.result c.table.result.now c.find_least.ensures c.extents-need.ensures c.table.ensures.table in
    let x = to_split g.S.Store c.args.store.now c.args.memory.now c.args.disk.now c.args.room c.find_least.new.found.items c.requires.session c.requires.room least
    (omega (arith, c.if-len-need.false, c.len.ensures, c.extents-need.ensures)) (omega (arith, c.if-head-eq0.false, ap (λ h. h.pieces) c.head.ensures)) in
    split_steps g.S.Store c.args.store.now c.args.memory.now x c.split.new.store c.split.new.logs c.split.result
    (of_log (λ l. OnOk c.split.result (Splits g.S.Store c.args.room.log (begun_anew c.args.room.log.tag l) c.find_least.new.found.items c.args.store.now c.split.new.store)) (log_of c.args.disk.now c.args.memory.now.logs) c.requires.room.own c.requires.room.tracked c.split.ensures.splits)
    (of_log (λ l. OnErr c.split.result (FailsToSplit g.S.Store c.args.room.log (begun_anew c.args.room.log.tag l) c.find_least.new.found.items c.args.store.now c.split.new.store)) (log_of c.args.disk.now c.args.memory.now.logs) c.requires.room.own c.requires.room.tracked c.split.ensures.fails)
    (of_log (λ l. Leaves g.S.Store c.split.new.store (IsInSplit (stored g.S.Store c.args.store.now) c.args.room.log (begun_anew c.args.room.log.tag l) c.find_least.new.found.items)) (log_of c.args.disk.now c.args.memory.now.logs) c.requires.room.own c.requires.room.tracked c.split.ensures.crash)
