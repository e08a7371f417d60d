use Rattle.std.proofs.Common.{◌*◌, length, refl, sym, ap, ap₂, ◌∙◌, subst, arith}
use Rattle.sm_disk.specs.Held.{IsWhole, Torn, Wrote}
use Rattle.vg_meta.specs.Roomy.{table_alone}
use Rattle.vg_volumes.proofs.StoredLaws.{stays_from, size_stays, writes_none, writes_then, writes_as, writes_from}
use Rattle.cmd_create.proofs.FillLaws.{whole_turn, fill_step, all_filled}
use Rattle.cmd_create.proofs.making.fill.Goals as goal

pub loop-index-init : goal.loop-index-init
loop-index-init g c = record { wrote = writes_none _ _ _ (λ h p below. absurd (omega (arith, below))); steady = refl }

pub write-requires : goal.write-requires
write-requires g c =
    let i = c.loop-index.invariant in
    let at = c.from.result * c.from-extent.result in
    subst (λ n. IsWhole at (length c.args.bytes.now) n) (sym (size_stays c.args.name.now i.wrote.stays))
    (whole_turn (g.S.Store.site c.args.store.now) (table_alone (g.S.Store.table c.args.store.now)) c.args.name.now c.loop-index.index c.args.extents c.from-extent.result at c.args.bytes.now
    c.loop-index-test.true c.requires.extents (c.from-extent.ensures ∙ ap (λ s. s.extent) c.geometry.ensures)
    (omega (arith, c.from-extent.ensures, c.geometry.result.in_range.extent_least)) (ap (λ n. n * c.from-extent.result) c.from.ensures) c.requires.bytes)

pub loop-index-preserved : goal.loop-index-preserved
loop-index-preserved g c =
    let w = c.write.ensures in
    let at = c.from.result * c.from-extent.result in
    record {
      wrote = writes_then (fill_step (g.S.Store.site c.args.store.now).geometry.extent c.loop-index.index at c.args.bytes.now
          (ap₂ (λ x y. x * y) c.from.ensures (c.from-extent.ensures ∙ ap (λ s. s.extent) c.geometry.ensures)) c.requires.bytes) c.loop-index.invariant.wrote
          (writes_from {Did = Wrote at c.args.bytes.now} (stays_from w.site w.table w.no_less w.counts w.beside) c.in_ok-write.ensures.wrote w.elsewhere);
      steady = c.in_ok-write.ensures.cause.1 ∙ c.loop-index.invariant.steady;
    }

pub returns-in_err-write-clause-writes : goal.returns-in_err-write-clause-writes
returns-in_err-write-clause-writes g c =
    let w = c.write.ensures in
    let at = c.from.result * c.from-extent.result in
    writes_then (λ x y z p q. tt) c.loop-index.invariant.wrote
    (writes_from {Did = Torn at c.args.bytes.now} (stays_from w.site w.table w.no_less w.counts w.beside) w.torn w.elsewhere)

pub returns-clause-writes : goal.returns-clause-writes
returns-clause-writes g c = writes_as (λ x y h. tt) c.loop-index.invariant.wrote

pub returns-clause-filled : goal.returns-clause-filled
returns-clause-filled g c =
    writes_as (all_filled (g.S.Store.site c.args.store.now) (table_alone (g.S.Store.table c.args.store.now)) c.args.name.now c.loop-index.index c.args.extents c.requires.extents (omega (arith, c.loop-index-test.false)))
    c.loop-index.invariant.wrote
