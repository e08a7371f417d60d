use Rattle.std.proofs.Common.{◌≡◌, ◌+◌, ◌*◌, ◌/◌, length, refl, sym, ap, ◌∙◌, arith}
use Rattle.sm_disk.specs.Held.{reads}
use Rattle.vg_volumes.specs.Stored.{stored, held_in}
use Rattle.vhd_write.proofs.MarkLaws.{run-reaches, run-done, unmarked-done}
use Rattle.vhd_write.proofs.PayloadLaws.{length-piece}
use Rattle.vhd_write.proofs.marks.put_run.Goals as goal

pub returns-in_err-put-clause-reaches : goal.returns-in_err-put-clause-reaches
returns-in_err-put-clause-reaches g c = λ told.
    let n = c.alike-count.result in
    let long : length c.part-run.result.now ≡ 512 * n = ap length c.part-run.ensures ∙ length-piece c.args.begin n c.args.bytes.now (omega (arith, c.alike-count.ensures.within, c.requires.inside)) in
    run-reaches c.args.at c.args.begin n (length c.args.bytes.now / 512) (c.args.at + c.args.begin) c.args.marks.now c.args.bytes.now c.part-run.result.now c.part-run.ensures long refl (omega (arith, c.alike-count.ensures.within, c.requires.inside))
    (λ i below. c.alike-count.ensures.alike i below ∙ sym c.bit.ensures ∙ c.if-bit.true) (c.put.ensures.torn told)

pub returns-in_ok-put-clause-reaches : goal.returns-in_ok-put-clause-reaches
returns-in_ok-put-clause-reaches g c = λ told.
    let n = c.alike-count.result in
    let long : length c.part-run.result.now ≡ 512 * n = ap length c.part-run.ensures ∙ length-piece c.args.begin n c.args.bytes.now (omega (arith, c.alike-count.ensures.within, c.requires.inside)) in
    run-reaches c.args.at c.args.begin n (length c.args.bytes.now / 512) (c.args.at + c.args.begin) c.args.marks.now c.args.bytes.now c.part-run.result.now c.part-run.ensures long refl (omega (arith, c.alike-count.ensures.within, c.requires.inside))
    (λ i below. c.alike-count.ensures.alike i below ∙ sym c.bit.ensures ∙ c.if-bit.true) (c.put.ensures.torn told)

pub returns-in_ok-put-clause-done : goal.returns-in_ok-put-clause-done
returns-in_ok-put-clause-done g c = λ told.
    let n = c.alike-count.result in
    let long : length c.part-run.result.now ≡ 512 * n = ap length c.part-run.ensures ∙ length-piece c.args.begin n c.args.bytes.now (omega (arith, c.alike-count.ensures.within, c.requires.inside)) in
    run-done c.args.at c.args.begin n (length c.args.bytes.now / 512) (c.args.at + c.args.begin) c.args.marks.now c.args.bytes.now c.part-run.result.now c.part-run.ensures long refl (omega (arith, c.alike-count.ensures.within, c.requires.inside))
    (λ i below. c.alike-count.ensures.alike i below ∙ sym c.bit.ensures ∙ c.if-bit.true) (c.in_ok-put.ensures.wrote told)

pub returns-else-bit-clause-done : goal.returns-else-bit-clause-done
returns-else-bit-clause-done g c = λ told.
    unmarked-done c.args.at c.args.begin c.alike-count.result c.args.marks.now c.args.bytes.now (reads (held_in (stored g.S.Store c.args.store.now) c.args.volume.now)) (λ i below. c.alike-count.ensures.alike i below ∙ sym c.bit.ensures ∙ c.if-bit.false)
