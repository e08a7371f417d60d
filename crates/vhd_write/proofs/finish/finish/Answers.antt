use Rattle.std.proofs.Common.{◌*◌, ◌∙◌, refl, sym, ap, subst, inr}
use Rattle.sm_disk.specs.Held.{IsIn, reads}
use Rattle.vhd_map.specs.Bitmaps.{is_set}
use Rattle.vhd_map.specs.Slots.{slot_of}
use Rattle.vhd_layout.specs.Layouts.{place}
use Rattle.vg_volumes.specs.Stored.{stored, held_in}
use Rattle.vhd_volumes.specs.Truth.{layout_now}
use Rattle.vhd_write.specs.WriteSpans.{AreNewSetIn}
use Rattle.vg_volumes.proofs.StoredLaws.{works_then}
use Rattle.vhd_write.proofs.FinishLaws.{goes-bits, finished-bits, goes-table, finished-table}
use Rattle.vhd_write.proofs.WorkLaws.{works_layout}
use Rattle.vhd_write.proofs.finish.finish.Goals as goal

pub set_bitmaps-requires-clause-set : goal.set_bitmaps-requires-clause-set
set_bitmaps-requires-clause-set g c = λ told.
    let l = layout_now (stored g.S.Store c.args.store.now) c.args.head.now in
    let after = reads (held_in (stored g.S.Store c.settle.new.store) c.args.head.now.volume) in
    subst (λ x. AreNewSetIn x c.args.span.now c.args.fresh (slot_of c.args.map.now) after) (sym (works_layout c.args.head.now c.settle.ensures.works))
    (λ b low high k has new i within here. ap (λ x. is_set x i) ((c.settle.ensures.keeps told).reads (place l k 0)) ∙ c.requires.set told b low high k has new i within here)

-- ---- the store

pub returns-in_err-set_bitmaps-clause-works : goal.returns-in_err-set_bitmaps-clause-works
returns-in_err-set_bitmaps-clause-works g c = works_then c.settle.ensures.works c.set_bitmaps.ensures.works

pub returns-then-held-clause-works : goal.returns-then-held-clause-works
returns-then-held-clause-works g c = works_then c.settle.ensures.works c.set_bitmaps.ensures.works

pub returns-in_err-put_table-clause-works : goal.returns-in_err-put_table-clause-works
returns-in_err-put_table-clause-works g c = works_then (works_then c.settle.ensures.works c.set_bitmaps.ensures.works) c.put_table.ensures.works

pub returns-clause-works : goal.returns-clause-works
returns-clause-works g c = works_then (works_then c.settle.ensures.works c.set_bitmaps.ensures.works) c.put_table.ensures.works

-- ---- what the volume holds behind the bitmaps

pub returns-in_err-set_bitmaps-clause-goes : goal.returns-in_err-set_bitmaps-clause-goes
returns-in_err-set_bitmaps-clause-goes g c = λ told.
    inr (goes-bits (works_layout c.args.head.now c.settle.ensures.works) (c.settle.ensures.keeps told) (c.in_ok-settle.ensures.settled told) (c.set_bitmaps.ensures.reaches told))

pub returns-then-held-clause-done : goal.returns-then-held-clause-done
returns-then-held-clause-done g c = λ told.
    finished-bits (works_layout c.args.head.now c.settle.ensures.works) (c.settle.ensures.keeps told) (c.in_ok-settle.ensures.settled told) (c.set_bitmaps.ensures.reaches told)
    (c.in_ok-set_bitmaps.ensures.done told) c.if-held.true

pub returns-then-held-clause-goes : goal.returns-then-held-clause-goes
returns-then-held-clause-goes g c = λ told. inr (returns-then-held-clause-done g c told).goes

-- ---- and behind the table

pub returns-in_err-put_table-clause-goes : goal.returns-in_err-put_table-clause-goes
returns-in_err-put_table-clause-goes g c = λ told.
    inr (goes-table (works_layout c.args.head.now c.settle.ensures.works) (c.settle.ensures.keeps told) (c.in_ok-settle.ensures.settled told) (c.set_bitmaps.ensures.reaches told)
    (works_layout c.args.head.now c.set_bitmaps.ensures.works) (c.put_table.ensures.reaches told))

pub returns-clause-done : goal.returns-clause-done
returns-clause-done g c = λ told.
    finished-table (works_layout c.args.head.now c.settle.ensures.works) (c.settle.ensures.keeps told) (c.in_ok-settle.ensures.settled told) (c.set_bitmaps.ensures.reaches told)
    (works_layout c.args.head.now c.set_bitmaps.ensures.works) (c.put_table.ensures.reaches told) refl (c.in_ok-set_bitmaps.ensures.done told) (c.in_ok-put_table.ensures.done told)

pub returns-clause-goes : goal.returns-clause-goes
returns-clause-goes g c = λ told. inr (returns-clause-done g c told).goes
