use Rattle.std.proofs.Common.{◌+◌, ◌-◌, ◌≤◌, length, sym, ap, ◌∙◌, subst₂, arith}
use Rattle.vg_meta.specs.Roomy.{table_alone}
use Rattle.vg_meta.specs.Tables.{free as free_of}
use Rattle.vg_volumes.proofs.StoredLaws.{reads_room}
use Rattle.sm_ready.specs.Known.{known}
use Rattle.sm_clone.proofs.PassedLaws.{enough, few, for_fork, need_is, no_size, passes_now, thin_is}
use Rattle.sm_clone.proofs.preparing.prepare.Goals as goal

pub overflow_cast-all : goal.overflow_cast-all
overflow_cast-all g c =
    let r = c.requires in
    let all = c.need-all.ensures (g.S.Store.site c.args.store.now) (table_alone (g.S.Store.table c.args.store.now)) (sym c.geometry-geometry.ensures) r.session.orderly r.session.tidy (no_size _ _ _) in
    let low = few (g.S.Store.site c.args.store.now) (table_alone (g.S.Store.table c.args.store.now)) (known c.args.memory.now) c.args.disk.now c.args.twin.now c.args.read_only
    r.session.orderly r.session.tidy (passes_now r.session.orderly r.allowed) in
    omega (arith, low, all)

pub overflow_cast-more : goal.overflow_cast-more
overflow_cast-more g c =
    let r = c.requires in
    let all = c.need-all.ensures (g.S.Store.site c.args.store.now) (table_alone (g.S.Store.table c.args.store.now)) (sym c.geometry-geometry.ensures) r.session.orderly r.session.tidy (no_size _ _ _) in
    let is = need_is (g.S.Store.site c.args.store.now) (table_alone (g.S.Store.table c.args.store.now)) (known c.args.memory.now) c.args.disk.now c.args.twin.now c.args.read_only
    r.session.orderly r.session.tidy (passes_now r.session.orderly r.allowed) in
    let more = c.thin-more.ensures ∙ thin_is (g.S.Store.site c.args.store.now) (table_alone (g.S.Store.table c.args.store.now)) (known c.args.memory.now) _ c.geometry-geometry.ensures in
    let low = few (g.S.Store.site c.args.store.now) (table_alone (g.S.Store.table c.args.store.now)) (known c.args.memory.now) c.args.disk.now c.args.twin.now c.args.read_only
    r.session.orderly r.session.tidy (passes_now r.session.orderly r.allowed) in
    omega (arith, low, is, more)

pub overflow_sub-all : goal.overflow_sub-all
overflow_sub-all g c =
    let r = c.requires in
    let all = c.need-all.ensures (g.S.Store.site c.args.store.now) (table_alone (g.S.Store.table c.args.store.now)) (sym c.geometry-geometry.ensures) r.session.orderly r.session.tidy (no_size _ _ _) in
    let is = need_is (g.S.Store.site c.args.store.now) (table_alone (g.S.Store.table c.args.store.now)) (known c.args.memory.now) c.args.disk.now c.args.twin.now c.args.read_only
    r.session.orderly r.session.tidy (passes_now r.session.orderly r.allowed) in
    let more = c.thin-more.ensures ∙ thin_is (g.S.Store.site c.args.store.now) (table_alone (g.S.Store.table c.args.store.now)) (known c.args.memory.now) _ c.geometry-geometry.ensures in
    omega (arith, all, is, more)

pub split_fit-requires-clause-few : goal.split_fit-requires-clause-few
split_fit-requires-clause-few g c =
    let r = c.requires in
    let all = c.need-all.ensures (g.S.Store.site c.args.store.now) (table_alone (g.S.Store.table c.args.store.now)) (sym c.geometry-geometry.ensures) r.session.orderly r.session.tidy (no_size _ _ _) in
    let is = need_is (g.S.Store.site c.args.store.now) (table_alone (g.S.Store.table c.args.store.now)) (known c.args.memory.now) c.args.disk.now c.args.twin.now c.args.read_only
    r.session.orderly r.session.tidy (passes_now r.session.orderly r.allowed) in
    let more = c.thin-more.ensures ∙ thin_is (g.S.Store.site c.args.store.now) (table_alone (g.S.Store.table c.args.store.now)) (known c.args.memory.now) _ c.geometry-geometry.ensures in
    let low = few (g.S.Store.site c.args.store.now) (table_alone (g.S.Store.table c.args.store.now)) (known c.args.memory.now) c.args.disk.now c.args.twin.now c.args.read_only
    r.session.orderly r.session.tidy (passes_now r.session.orderly r.allowed) in
    omega (arith, all, low, is, more)

pub split_fit-requires-clause-enough : goal.split_fit-requires-clause-enough
split_fit-requires-clause-enough g c =
    let r = c.requires in
    let all = c.need-all.ensures (g.S.Store.site c.args.store.now) (table_alone (g.S.Store.table c.args.store.now)) (sym c.geometry-geometry.ensures) r.session.orderly r.session.tidy (no_size _ _ _) in
    let is = need_is (g.S.Store.site c.args.store.now) (table_alone (g.S.Store.table c.args.store.now)) (known c.args.memory.now) c.args.disk.now c.args.twin.now c.args.read_only
    r.session.orderly r.session.tidy (passes_now r.session.orderly r.allowed) in
    let more = c.thin-more.ensures ∙ thin_is (g.S.Store.site c.args.store.now) (table_alone (g.S.Store.table c.args.store.now)) (known c.args.memory.now) _ c.geometry-geometry.ensures in
    let free = enough (g.S.Store.site c.args.store.now) (table_alone (g.S.Store.table c.args.store.now)) (known c.args.memory.now) c.args.disk.now c.args.twin.now c.args.read_only
    r.session.orderly r.session.tidy (passes_now r.session.orderly r.allowed) in
    subst₂ (λ n k. c.need-all.result - c.thin-more.result + c.thin-more.result ≤ length (free_of n (table_alone k))) (sym c.extents.ensures.count) (sym c.table.ensures.table) (omega (arith, all, is, more, free))

pub returns-in_err-reserve_rows-clause-reads : goal.returns-in_err-reserve_rows-clause-reads
returns-in_err-reserve_rows-clause-reads g c = let e = c.reserve_rows.ensures in reads_room e.same e.device e.table e.no_less e.leaves

pub returns-clause-reads : goal.returns-clause-reads
returns-clause-reads g c = let e = c.reserve_rows.ensures in reads_room e.same e.device e.table e.no_less e.leaves

pub returns-clause-extents : goal.returns-clause-extents
returns-clause-extents g c =
    let r = c.requires in
    let all = c.need-all.ensures (g.S.Store.site c.args.store.now) (table_alone (g.S.Store.table c.args.store.now)) (sym c.geometry-geometry.ensures) r.session.orderly r.session.tidy (no_size _ _ _) in
    let more = c.thin-more.ensures ∙ thin_is (g.S.Store.site c.args.store.now) (table_alone (g.S.Store.table c.args.store.now)) (known c.args.memory.now) _ c.geometry-geometry.ensures in
    let e = c.in_ok-own.ensures in
    for_fork (g.S.Store.site c.args.store.now) (table_alone (g.S.Store.table c.args.store.now)) (known c.args.memory.now) c.args.disk.now c.args.twin.now c.args.read_only
    r.session.orderly r.session.tidy (passes_now r.session.orderly r.allowed) c.need-all.result c.thin-more.result _ _ _ _
    c.extents.ensures.count (ap table_alone c.table.ensures.table) all more e.first e.more e.least e.free
