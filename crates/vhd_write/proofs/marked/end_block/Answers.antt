use Rattle.std.proofs.Common.{◌+◌, ◌/◌, refl, sym, ap, ◌∙◌, inr, subst}
use Rattle.sm_disk.specs.Held.{Reaches, reads}
use Rattle.sm_disk.proofs.ReachesLaws.{Reaches-none}
use Rattle.vhd_map.specs.Bitmaps.{is_set}
use Rattle.vhd_map.specs.Slots.{slot_of}
use Rattle.vhd_layout.specs.Layouts.{place}
use Rattle.vg_volumes.specs.Sites.{Site}
use Rattle.vg_volumes.specs.Stored.{stored, held_in}
use Rattle.vg_volumes.proofs.StoredLaws.{works_then}
use Rattle.vhd_volumes.specs.Truth.{layout_now}
use Rattle.vhd_write.specs.Marks.{HasMark, IsMarkedIn}
use Rattle.vhd_write.specs.Passes.{AreSet, IsTableSector, PutsBitsAll, PutsBitsOf, PutsEntries}
use Rattle.vhd_write.proofs.BlockLaws.{bits-one, entries-touch, only-one, one-index}
use Rattle.vhd_write.proofs.FinishLaws.{goes-bits, finished-bits, goes-table, finished-table}
use Rattle.vhd_write.proofs.LoopLaws.{false_on}
use Rattle.vhd_write.proofs.MarkLaws.{marks-touch}
use Rattle.vhd_write.proofs.WorkLaws.{works_layout}
use Rattle.vhd_write.proofs.marked.end_block.Goals as goal

pub set_marks-requires-clause-some : goal.set_marks-requires-clause-some
set_marks-requires-clause-some g c = subst (λ (x : Site). HasMark x.geometry.block c.args.marks.now) (sym c.settle.ensures.works.stays.site) c.requires.some

-- ---- the store

pub returns-in_err-set_marks-clause-works : goal.returns-in_err-set_marks-clause-works
returns-in_err-set_marks-clause-works g c = works_then c.settle.ensures.works c.set_marks.ensures.works

pub returns-then-held-clause-works : goal.returns-then-held-clause-works
returns-then-held-clause-works g c = works_then c.settle.ensures.works c.set_marks.ensures.works

pub returns-in_err-put_entries-clause-works : goal.returns-in_err-put_entries-clause-works
returns-in_err-put_entries-clause-works g c = works_then c.settle.ensures.works c.put_entries.ensures.works

pub returns-clause-works : goal.returns-clause-works
returns-clause-works g c = works_then c.settle.ensures.works c.put_entries.ensures.works

-- ---- what the volume holds behind the bitmap

pub returns-in_err-set_marks-clause-goes : goal.returns-in_err-set_marks-clause-goes
returns-in_err-set_marks-clause-goes g c = λ told.
    let l = layout_now (stored g.S.Store c.args.store.now) c.args.head.now in
    let M = IsMarkedIn l.block c.args.block c.args.marks.now in
    let m = slot_of c.args.map.now in
    let before = held_in (stored g.S.Store c.settle.new.store) c.args.head.now.volume in
    let after = held_in (stored g.S.Store c.set_marks.new.store) c.args.head.now.volume in
    let same = works_layout c.args.head.now c.settle.ensures.works in
    let bits = bits-one c.args.block (subst (λ x. Reaches (PutsBitsOf x (IsMarkedIn x.block c.args.block c.args.marks.now) (m c.args.block) c.args.block (reads before)) before after) same (c.set_marks.ensures.reaches told)) in
    inr (goes-bits refl (c.settle.ensures.keeps told) (c.in_ok-settle.ensures.settled told) bits)

pub returns-then-held-clause-done : goal.returns-then-held-clause-done
returns-then-held-clause-done g c = λ told.
    let l = layout_now (stored g.S.Store c.args.store.now) c.args.head.now in
    let M = IsMarkedIn l.block c.args.block c.args.marks.now in
    let m = slot_of c.args.map.now in
    let before = held_in (stored g.S.Store c.settle.new.store) c.args.head.now.volume in
    let after = held_in (stored g.S.Store c.set_marks.new.store) c.args.head.now.volume in
    let same = works_layout c.args.head.now c.settle.ensures.works in
    let bits = bits-one c.args.block (subst (λ x. Reaches (PutsBitsOf x (IsMarkedIn x.block c.args.block c.args.marks.now) (m c.args.block) c.args.block (reads before)) before after) same (c.set_marks.ensures.reaches told)) in
    let set = only-one (λ b. AreSet l M (m b) b (reads after)) c.args.block (subst (λ x. AreSet x (IsMarkedIn x.block c.args.block c.args.marks.now) (m c.args.block) c.args.block (reads after)) same (c.in_ok-set_marks.ensures.done told)) in
    finished-bits refl (c.settle.ensures.keeps told) (c.in_ok-settle.ensures.settled told) bits set c.if-held.true

pub returns-then-held-clause-goes : goal.returns-then-held-clause-goes
returns-then-held-clause-goes g c = λ told. inr (returns-then-held-clause-done g c told).goes

-- ---- and behind the table, where the bits are set already

pub returns-in_err-put_entries-clause-goes : goal.returns-in_err-put_entries-clause-goes
returns-in_err-put_entries-clause-goes g c = λ told.
    let l = layout_now (stored g.S.Store c.args.store.now) c.args.head.now in
    let M = IsMarkedIn l.block c.args.block c.args.marks.now in
    let m = slot_of c.args.map.now in
    let before = held_in (stored g.S.Store c.settle.new.store) c.args.head.now.volume in
    let last = held_in (stored g.S.Store c.put_entries.new.store) c.args.head.now.volume in
    let same = works_layout c.args.head.now c.settle.ensures.works in
    let table = entries-touch l M m c.args.block (marks-touch l c.args.block c.args.marks.now c.requires.some) (subst (λ x. Reaches (PutsEntries x m (c.args.block / 128)) before last) same (c.put_entries.ensures.reaches told)) in
    inr (goes-table refl (c.settle.ensures.keeps told) (c.in_ok-settle.ensures.settled told) (Reaches-none (PutsBitsAll l M m (reads before)) before) refl table)

pub returns-clause-done : goal.returns-clause-done
returns-clause-done g c = λ told.
    let l = layout_now (stored g.S.Store c.args.store.now) c.args.head.now in
    let M = IsMarkedIn l.block c.args.block c.args.marks.now in
    let m = slot_of c.args.map.now in
    let before = held_in (stored g.S.Store c.settle.new.store) c.args.head.now.volume in
    let last = held_in (stored g.S.Store c.put_entries.new.store) c.args.head.now.volume in
    let same = works_layout c.args.head.now c.settle.ensures.works in
    let keeps = c.settle.ensures.keeps told in
    let was = false_on c.args.held c.if-held.false c.requires.set told in
    let now : AreSet l M (m c.args.block) c.args.block (reads before) = λ k has i within here. ap (λ x. is_set x i) (keeps.reads (place l k 0)) ∙ was k has i within here in
    let set = only-one (λ b. AreSet l M (m b) b (reads before)) c.args.block now in
    let table = entries-touch l M m c.args.block (marks-touch l c.args.block c.args.marks.now c.requires.some) (subst (λ x. Reaches (PutsEntries x m (c.args.block / 128)) before last) same (c.put_entries.ensures.reaches told)) in
    finished-table refl keeps (c.in_ok-settle.ensures.settled told) (Reaches-none (PutsBitsAll l M m (reads before)) before) refl table refl set
    (one-index c.args.block (λ index. IsTableSector l m index (reads last (3 + index))) (subst (λ x. IsTableSector x m (c.args.block / 128) (reads last (3 + c.args.block / 128))) same (c.in_ok-put_entries.ensures.done told)))

pub returns-clause-goes : goal.returns-clause-goes
returns-clause-goes g c = λ told. inr (returns-clause-done g c told).goes
