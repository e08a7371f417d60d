use Rattle.std.proofs.Common.{◌*◌, ◌<◌, ◌≤◌, ◌∙◌, ℕ, Some, ap, sym, arith}
use Rattle.std.proofs.lemmas.Nat.{mul-le}
use Rattle.sm_base.specs.Limits.{extent_limit}
use Rattle.sm_base.specs.declared.names.Name.TheVariants.{Cbt}
use Rattle.sm_base.specs.declared.sizes.Geometry.{Geometry}
use Rattle.sm_disk.proofs.HeldLaws.{reads-same}
use Rattle.vg_meta.specs.Roomy.{RoomyTable, table_alone}
use Rattle.vg_volumes.specs.Stored.{stored, sectors_in}
use Rattle.vg_volumes.proofs.CallLaws.{same_in}
use Rattle.vg_volumes.proofs.StoredLaws.{reads_then}
use Rattle.sm_log.specs.Heads.{head_in}
use Rattle.sm_log.specs.Logs.{log_sectors}
use Rattle.sm_log_reading.specs.Reading.{filled_extents}
use Rattle.sm_log_reading.proofs.BitLaws.{bits_same}
use Rattle.sm_log_reading.proofs.ReadLaws.{filled_few, filled_size, told_filled, whole_none, whole_small, whole_headless, whole_other, whole_found}
use Rattle.sm_log_reading.proofs.reading.read_log.Goals as goal

pub returns-in_default-clause-log : goal.returns-in_default-clause-log
returns-in_default-clause-log g c = λ told.
    let none = ap (λ (k : RoomyTable). filled_extents (table_alone k) c.args.disk.now) (sym c.table.ensures.table) ∙ sym c.filled_extents.ensures ∙ c.in_default.is in
    sym (whole_none (stored g.S.Store c.args.store.now) c.args.disk.now c.args.pieces none)

pub overflow_mul-size : goal.overflow_mul-size
overflow_mul-size g c =
    let f = told_filled c.table.ensures.table c.filled_extents.ensures c.in-Some.is in
    let few : c.in-Some.extents ≤ extent_limit = omega (arith, filled_few _ _ c.args.disk.now _ c.table.ensures.spread f, c.extents-most.ensures.few) in
    let extent : c.from.result ≤ 8192 = omega (arith, c.from.ensures, c.geometry.result.in_range.extent_most) in
    omega (arith, mul-le c.in-Some.extents c.from.result extent_limit 8192 few extent)

pub overflow_cast-extents : goal.overflow_cast-extents
overflow_cast-extents g c =
    let f = told_filled c.table.ensures.table c.filled_extents.ensures c.in-Some.is in
    omega (arith, filled_few _ _ c.args.disk.now _ c.table.ensures.spread f, c.extents-most.ensures.few)

pub returns-then-size-from-clause-log : goal.returns-then-size-from-clause-log
returns-then-size-from-clause-log g c = λ told.
    let x = stored g.S.Store c.args.store.now in
    let f = told_filled c.table.ensures.table c.filled_extents.ensures c.in-Some.is in
    let size = ap (λ (e : ℕ). c.in-Some.extents * e) (c.from.ensures ∙ ap (λ (k : Geometry). k.extent) c.geometry.ensures) ∙ sym (filled_size x c.args.disk.now c.in-Some.extents f) in
    let small : sectors_in x (Cbt c.args.disk.now) < log_sectors c.args.pieces = omega (arith, size, c.from-2.ensures, c.bit_sectors.ensures, c.if-size-from.true) in
    sym (whole_small x c.args.disk.now c.in-Some.extents c.args.pieces f small)

pub returns-in_default-read-clause-log : goal.returns-in_default-read-clause-log
returns-in_default-read-clause-log g c = λ told.
    let x = stored g.S.Store c.args.store.now in
    let f = told_filled c.table.ensures.table c.filled_extents.ensures c.in-Some.is in
    let size = ap (λ (e : ℕ). c.in-Some.extents * e) (c.from.ensures ∙ ap (λ (k : Geometry). k.extent) c.geometry.ensures) ∙ sym (filled_size x c.args.disk.now c.in-Some.extents f) in
    let fits : log_sectors c.args.pieces ≤ sectors_in x (Cbt c.args.disk.now) = omega (arith, size, c.from-2.ensures, c.bit_sectors.ensures, c.if-size-from.false) in
    sym (whole_headless x c.args.disk.now c.in-Some.extents c.args.pieces f fits (ap head_in (sym (c.in-Ok.ensures.gave told)) ∙ sym c.read.ensures ∙ c.in_default-read.is))

pub returns-then-head-pieces-clause-log : goal.returns-then-head-pieces-clause-log
returns-then-head-pieces-clause-log g c = λ told.
    let x = stored g.S.Store c.args.store.now in
    let f = told_filled c.table.ensures.table c.filled_extents.ensures c.in-Some.is in
    let size = ap (λ (e : ℕ). c.in-Some.extents * e) (c.from.ensures ∙ ap (λ (k : Geometry). k.extent) c.geometry.ensures) ∙ sym (filled_size x c.args.disk.now c.in-Some.extents f) in
    let fits : log_sectors c.args.pieces ≤ sectors_in x (Cbt c.args.disk.now) = omega (arith, size, c.from-2.ensures, c.bit_sectors.ensures, c.if-size-from.false) in
    sym (whole_other x c.args.disk.now c.in-Some.extents c.args.pieces f fits c.in-Some-read.head (ap head_in (sym (c.in-Ok.ensures.gave told)) ∙ sym c.read.ensures ∙ c.in-Some-read.is) c.if-head-pieces.true)

pub returns-in_err-bits-clause-only : goal.returns-in_err-bits-clause-only
returns-in_err-bits-clause-only g c = reads_then c.sector_of.ensures.only c.read_bits.ensures.only

pub returns-clause-only : goal.returns-clause-only
returns-clause-only g c = reads_then c.sector_of.ensures.only c.read_bits.ensures.only

pub returns-clause-log : goal.returns-clause-log
returns-clause-log g c = λ told.
    let x = stored g.S.Store c.args.store.now in
    let f = told_filled c.table.ensures.table c.filled_extents.ensures c.in-Some.is in
    let size = ap (λ (e : ℕ). c.in-Some.extents * e) (c.from.ensures ∙ ap (λ (k : Geometry). k.extent) c.geometry.ensures) ∙ sym (filled_size x c.args.disk.now c.in-Some.extents f) in
    let fits : log_sectors c.args.pieces ≤ sectors_in x (Cbt c.args.disk.now) = omega (arith, size, c.from-2.ensures, c.bit_sectors.ensures, c.if-size-from.false) in
    let read = c.in_ok-bits.ensures.bits told ∙ bits_same _ _ c.args.pieces (reads-same (same_in (Cbt c.args.disk.now) c.sector_of.ensures.only told)) in
    ap Some c.new-log.ensures
    ∙ sym (whole_found x c.args.disk.now c.in-Some.extents c.args.pieces f fits c.in-Some-read.head c.in_ok-bits.bits (ap head_in (sym (c.in-Ok.ensures.gave told)) ∙ sym c.read.ensures ∙ c.in-Some-read.is)
    c.if-head-pieces.false read)
