use Rattle.std.proofs.Common.{◌∙◌, ◌≡◌, ◌*◌, true, subst, rules}
use Rattle.sm_disk.specs.Held.{IsIn, reads}
use Rattle.vhd_map.specs.Slots.{slot_of}
use Rattle.sm_disk.proofs.HeldLaws.{SameHeld-then, reads-same}
use Rattle.vg_volumes.specs.Stored.{stored, held_in}
use Rattle.vg_volumes.proofs.StoredLaws.{works_then}
use Rattle.vhd_volumes.specs.Truth.{layout_now}
use Rattle.vhd_write.specs.Passes.{IsFull}
use Rattle.vhd_write.proofs.LoopLaws.{full-more, full-as, true_on}
use Rattle.vhd_write.proofs.WorkLaws.{works_layout}
use Rattle.vhd_write.proofs.finish.is_complete.Goals as goal

pub returns-in_err-is_full-clause-works : goal.returns-in_err-is_full-clause-works
returns-in_err-is_full-clause-works g c = works_then c.loop-block.invariant.works c.is_full.ensures.works

pub returns-then-not-branch-clause-works : goal.returns-then-not-branch-clause-works
returns-then-not-branch-clause-works g c = works_then c.loop-block.invariant.works c.is_full.ensures.works

pub loop-block-preserved : goal.loop-block-preserved
loop-block-preserved g c =
    let i = c.loop-block.invariant in
    let s = c.args.span.now in
    let r = reads (held_in (stored g.S.Store c.loop-block.store) c.args.head.now.volume) in
    let set : c.in_ok-is_full.field-0 ≡ true = search rules in
    let there = true_on {P = IsFull g.S.Store.told (layout_now (stored g.S.Store c.loop-block.store) c.args.head.now) (IsIn c.args.span.now.sector (512 * c.args.span.now.count)) (slot_of c.args.map.now) c.loop-block.block (reads (held_in (stored g.S.Store c.loop-block.store) c.args.head.now.volume))} c.in_ok-is_full.field-0 set c.in_ok-is_full.ensures.full in
    let here = full-as (layout_now (stored g.S.Store c.args.store.now) c.args.head.now) (IsIn s.sector (512 * s.count)) c.loop-block.block (slot_of c.args.map.now) (subst (λ x. IsFull g.S.Store.told x (IsIn s.sector (512 * s.count)) (slot_of c.args.map.now) c.loop-block.block r) (works_layout c.args.head.now i.works) there) (λ told p. reads-same (i.same told) p) in
    record {
      calm = c.in_ok-is_full.ensures.cause.1 ∙ i.calm;
      works = works_then i.works c.is_full.ensures.works;
      same = λ told. SameHeld-then (i.same told) (c.is_full.ensures.same told);
      full = full-more (λ b. IsFull g.S.Store.told (layout_now (stored g.S.Store c.args.store.now) c.args.head.now) (IsIn s.sector (512 * s.count)) (slot_of c.args.map.now) b (reads (held_in (stored g.S.Store c.args.store.now) c.args.head.now.volume))) s.first c.loop-block.block i.full here;
    }
