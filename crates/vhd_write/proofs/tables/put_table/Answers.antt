use Rattle.std.proofs.Common.{◌∙◌, ◌+◌, ◌/◌, sym, subst, arith}
use Rattle.sm_disk.specs.Held.{Reaches, reads}
use Rattle.vhd_map.specs.Slots.{slot_of}
use Rattle.sm_disk.proofs.ReachesLaws.{Reaches-then}
use Rattle.vg_volumes.specs.Stored.{stored, held_in}
use Rattle.vg_volumes.proofs.StoredLaws.{works_then}
use Rattle.vhd_volumes.specs.Truth.{layout_now}
use Rattle.vhd_write.specs.Passes.{PutsEntries, IsTableSector}
use Rattle.vhd_write.specs.Spans.{IsSpan}
use Rattle.vhd_write.proofs.LoopLaws.{full-more}
use Rattle.vhd_write.proofs.PlaceLaws.{table-touched}
use Rattle.vhd_write.proofs.WorkLaws.{works_layout}
use Rattle.vhd_write.proofs.tables.put_table.Goals as goal

pub returns-in_err-put_entries-clause-works : goal.returns-in_err-put_entries-clause-works
returns-in_err-put_entries-clause-works g c = works_then c.loop-index.invariant.works c.put_entries.ensures.works

pub returns-in_err-put_entries-clause-reaches : goal.returns-in_err-put_entries-clause-reaches
returns-in_err-put_entries-clause-reaches g c = λ told.
    let i = c.loop-index.invariant in
    let before = held_in (stored g.S.Store c.loop-index.store) c.args.head.now.volume in
    let after = held_in (stored g.S.Store c.put_entries.new.store) c.args.head.now.volume in
    let l = layout_now (stored g.S.Store c.args.store.now) c.args.head.now in
    let s = c.args.span.now in
    let m = slot_of c.args.map.now in
    let index = c.loop-index.index in
    let span = subst (λ b. IsSpan b s.sector s.count s.first s.end) c.requires.sizes s.in_range in
    Reaches-then (i.reaches told) (table-touched l m span index c.loop-index.auto.index (omega (arith, c.loop-index-test.true))
    (subst (λ x. Reaches (PutsEntries x m index) before after) (works_layout c.args.head.now i.works) (c.put_entries.ensures.reaches told)))

pub loop-index-preserved : goal.loop-index-preserved
loop-index-preserved g c =
    let i = c.loop-index.invariant in
    let l = layout_now (stored g.S.Store c.args.store.now) c.args.head.now in
    let m = slot_of c.args.map.now in
    let index = c.loop-index.index in
    let before = held_in (stored g.S.Store c.loop-index.store) c.args.head.now.volume in
    let after = held_in (stored g.S.Store c.put_entries.new.store) c.args.head.now.volume in
    let s = c.args.span.now in
    let span = subst (λ b. IsSpan b s.sector s.count s.first s.end) c.requires.sizes s.in_range in
    let same = works_layout c.args.head.now i.works in
    record {
      calm = c.in_ok-put_entries.ensures.cause.1 ∙ i.calm;
      works = works_then i.works c.put_entries.ensures.works;
      reaches = λ told. Reaches-then (i.reaches told) (table-touched l m span index c.loop-index.auto.index (omega (arith, c.loop-index-test.true))
          (subst (λ x. Reaches (PutsEntries x m index) before after) same (c.put_entries.ensures.reaches told)));
      done = λ told. full-more (λ k. IsTableSector l m k (reads after (3 + k))) (c.args.span.now.first / 128) index
          (λ k low high. subst (λ x. IsTableSector l m k x) (sym (c.put_entries.ensures.others told (3 + k) (λ e. omega arith))) (i.done told k low high))
          (subst (λ x. IsTableSector x m index (reads after (3 + index))) same (c.in_ok-put_entries.ensures.done told));
    }
