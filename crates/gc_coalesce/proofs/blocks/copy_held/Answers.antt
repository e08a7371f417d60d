use Rattle.std.proofs.Common.{◌≡◌, ◌+◌, ◌-◌, ◌*◌, ap, ◌∙◌, arith}
use Rattle.vg_volumes.specs.Stored.{stored}
use Rattle.vhd_chain.specs.Reading.{own_read}
use Rattle.vhd_image.proofs.ReadLaws.{true-still}
use Rattle.gc_coalesce.proofs.CopyBlockLaws.{copied_none, copied_put, copies_none, copies_put, none_fact, some_fact}
use Rattle.gc_coalesce.proofs.blocks.copy_held.Goals as goal

pub returns-in_err-marks-clause-copies : goal.returns-in_err-marks-clause-copies
returns-in_err-marks-clause-copies g c = copies_none g.S.Store c.args.child.now c.args.parent.now c.gather.ensures.reads_only c.requires.can.is_true

pub returns-in_default-clause-copies : goal.returns-in_default-clause-copies
returns-in_default-clause-copies g c = copies_none g.S.Store c.args.child.now c.args.parent.now c.gather.ensures.reads_only c.requires.can.is_true

pub returns-in_default-clause-copied : goal.returns-in_default-clause-copied
returns-in_default-clause-copied g c =
    let base = c.args.block * (g.S.Store.site c.args.store.now).geometry.block in
    copied_none g.S.Store c.args.child.now c.args.parent.now c.args.block base (g.S.Store.site c.args.store.now).geometry.block c.gather.ensures.reads_only c.requires.can.stands c.requires.can.is_true
    (λ told k low below.
    let place : k ≡ base + (k - base) = omega (arith, low) in
    ap (own_read (stored g.S.Store c.args.store.now) c.args.child.now) place ∙ none_fact c.in_default.is c.in_ok-marks.ensures.none told (k - base) (omega (arith, low, below)))

pub write_marked-requires-clause-true_now : goal.write_marked-requires-clause-true_now
write_marked-requires-clause-true_now g c = λ told. true-still c.gather.ensures.reads_only c.args.parent.now told (c.requires.can.is_true told)

pub returns-in_err-write_marked-clause-copies : goal.returns-in_err-write_marked-clause-copies
returns-in_err-write_marked-clause-copies g c =
    copies_put g.S.Store c.args.child.now c.args.parent.now c.write_marked.new.self c.args.block c.in-Some.marks c.gather.new.bytes c.gather.ensures.reads_only (some_fact _ c.in-Some.is c.in_ok-marks.ensures.gathered)
    c.write_marked.ensures.works c.write_marked.ensures.guarded c.write_marked.ensures.slot

pub returns-clause-copies : goal.returns-clause-copies
returns-clause-copies g c =
    copies_put g.S.Store c.args.child.now c.args.parent.now c.write_marked.new.self c.args.block c.in-Some.marks c.gather.new.bytes c.gather.ensures.reads_only (some_fact _ c.in-Some.is c.in_ok-marks.ensures.gathered)
    c.write_marked.ensures.works c.write_marked.ensures.guarded c.write_marked.ensures.slot

pub returns-clause-copied : goal.returns-clause-copied
returns-clause-copied g c =
    let e = c.in_ok-write_marked.ensures in
    copied_put g.S.Store c.args.child.now c.args.parent.now c.write_marked.new.self c.args.block c.in-Some.marks c.gather.new.bytes c.gather.ensures.reads_only (some_fact _ c.in-Some.is c.in_ok-marks.ensures.gathered)
    c.write_marked.ensures.works e.map e.stands_after e.true_after e.written
