use Rattle.std.proofs.Common.{◌∙◌, ◌*◌, sym, subst}
use Rattle.sm_disk.specs.Held.{IsIn, Reaches, reads}
use Rattle.vhd_map.specs.Slots.{slot_of}
use Rattle.vg_volumes.specs.Stored.{stored, held_in}
use Rattle.vg_volumes.proofs.StoredLaws.{works_then}
use Rattle.vhd_volumes.specs.Truth.{layout_now}
use Rattle.vhd_layout.specs.Layouts.{place}
use Rattle.vhd_write.specs.Passes.{PutsBitsOf, AreSet, AreNewSet}
use Rattle.vhd_write.proofs.BitLaws.{bits-reaches, bits-done, bits-stay}
use Rattle.vhd_write.proofs.WorkLaws.{works_layout}
use Rattle.vhd_write.proofs.finish.set_bitmaps.Goals as goal

pub set_bitmap-requires-clause-set : goal.set_bitmap-requires-clause-set
set_bitmap-requires-clause-set g c = λ told.
    let i = c.loop-block.invariant in
    let s = c.args.span.now in
    let l = layout_now (stored g.S.Store c.args.store.now) c.args.head.now in
    let block = c.loop-block.block in
    let n = slot_of c.args.map.now in
    let now = reads (held_in (stored g.S.Store c.loop-block.store) c.args.head.now.volume) in
    let M = IsIn s.sector (512 * s.count) in
    subst (λ x. AreNewSet x M c.args.fresh (n block) block now) (sym (works_layout c.args.head.now i.works))
    (λ k has new. bits-stay l M n block (place l k 0) (i.reaches told) (c.requires.set told block c.loop-block.auto.block c.loop-block-test.true k has new))

pub returns-in_err-set_bitmap-clause-works : goal.returns-in_err-set_bitmap-clause-works
returns-in_err-set_bitmap-clause-works g c = works_then c.loop-block.invariant.works c.set_bitmap.ensures.works

pub returns-in_err-set_bitmap-clause-reaches : goal.returns-in_err-set_bitmap-clause-reaches
returns-in_err-set_bitmap-clause-reaches g c = λ told.
    let i = c.loop-block.invariant in
    let s = c.args.span.now in
    let l = layout_now (stored g.S.Store c.args.store.now) c.args.head.now in
    let block = c.loop-block.block in
    let n = c.args.map.now in
    let before = held_in (stored g.S.Store c.loop-block.store) c.args.head.now.volume in
    let after = held_in (stored g.S.Store c.set_bitmap.new.store) c.args.head.now.volume in
    let step = subst (λ x. Reaches (PutsBitsOf x (IsIn s.sector (512 * s.count)) (slot_of n block) block (reads before)) before after) (works_layout c.args.head.now i.works) (c.set_bitmap.ensures.reaches told) in
    bits-reaches l (IsIn s.sector (512 * s.count)) n c.requires.good block (i.reaches told) step

pub loop-block-preserved : goal.loop-block-preserved
loop-block-preserved g c =
    let i = c.loop-block.invariant in
    let s = c.args.span.now in
    let l = layout_now (stored g.S.Store c.args.store.now) c.args.head.now in
    let block = c.loop-block.block in
    let n = c.args.map.now in
    let before = held_in (stored g.S.Store c.loop-block.store) c.args.head.now.volume in
    let after = held_in (stored g.S.Store c.set_bitmap.new.store) c.args.head.now.volume in
    let same = works_layout c.args.head.now i.works in
    let step = λ (told : g.S.Store.told). subst (λ x. Reaches (PutsBitsOf x (IsIn s.sector (512 * s.count)) (slot_of n block) block (reads before)) before after) same (c.set_bitmap.ensures.reaches told) in
    record {
      calm = c.in_ok-set_bitmap.ensures.cause.1 ∙ i.calm;
      works = works_then i.works c.set_bitmap.ensures.works;
      reaches = λ told. bits-reaches l (IsIn s.sector (512 * s.count)) n c.requires.good block (i.reaches told) (step told);
      done = λ told. bits-done l (IsIn s.sector (512 * s.count)) n c.requires.good s.first block (step told) (i.done told)
          (subst (λ x. AreSet x (IsIn s.sector (512 * s.count)) (slot_of n block) block (reads after)) same (c.in_ok-set_bitmap.ensures.done told));
    }
