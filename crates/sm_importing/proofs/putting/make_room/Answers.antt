use Rattle.std.proofs.Common.{◌<◌, refl, ap, arith}
use Rattle.sm_base.specs.declared.names.Name.TheVariants.{Vhd}
use Rattle.sm_base.specs.declared.sizes.Geometry.{Geometry}
use Rattle.vhd_filling.specs.Filled.{slots_taken}
use Rattle.sm_importing.proofs.AnswerLaws.{by_result, err_by, err_has, ok_by, ok_has}
use Rattle.sm_importing.proofs.BlockLaws.{slots_below}
use Rattle.sm_importing.proofs.FillLaws.{enough_more, filled_more, filled_same, grows_more, grows_same, holds_more, still_more}
use Rattle.sm_importing.proofs.putting.make_room.Goals as goal

pub returns-then-not-takes_slot-clause-stops : goal.returns-then-not-takes_slot-clause-stops
returns-then-not-takes_slot-clause-stops g c = λ a since. since.so_far.left

pub grow-requires-clause-within : goal.grow-requires-clause-within
grow-requires-clause-within g c =
    let f = c.args.filling.now in
    let h = c.requires.filled in
    let below : slots_taken f < f.geometry.entries = slots_below f c.args.sector c.args.bytes.now h.fills.sound c.requires.within (c.takes_slot.ensures.0 c.if-not-takes_slot.false) in
    omega (arith, c.slots.ensures, below, ap (λ (z : Geometry). z.entries) h.fills.sizes)

pub returns-clause-room : goal.returns-clause-room
returns-clause-room g c =
    let e = c.grow.ensures in
    ok_by c.grow.result (λ is. record {
      more = λ takes. filled_more c.requires.filled e.step.site e.keeps (ok_has c.grow.result is e.importing) c.slots.result c.slots.ensures e.idle (ok_has c.grow.result is e.grown);
      same = λ none. absurd (none (c.takes_slot.ensures.0 c.if-not-takes_slot.false));
    })

pub returns-clause-held : goal.returns-clause-held
returns-clause-held g c =
    let e = c.grow.ensures in
    ok_by c.grow.result (λ is told. holds_more c.requires.filled e.step.site e.keeps (ok_has c.grow.result is e.importing) c.slots.result c.slots.ensures e.idle (ok_has c.grow.result is e.grown) told)

pub returns-clause-enough : goal.returns-clause-enough
returns-clause-enough g c =
    let e = c.grow.ensures in
    ok_by c.grow.result (λ is takes. enough_more c.requires.filled e.step.site e.keeps (ok_has c.grow.result is e.importing) c.slots.result c.slots.ensures e.idle (ok_has c.grow.result is e.grown))

pub returns-clause-poor : goal.returns-clause-poor
returns-clause-poor g c =
    let e = c.grow.ensures in
    err_by c.grow.result (λ fault is calm. let poor = err_has c.grow.result fault is e.poor calm in filled_same c.requires.filled e.step.site e.keeps poor.0 poor.1)

pub returns-then-not-takes_slot-clause-grows : goal.returns-then-not-takes_slot-clause-grows
returns-then-not-takes_slot-clause-grows g c = λ calm. grows_same (Vhd c.args.disk.now) refl

pub returns-clause-still : goal.returns-clause-still
returns-clause-still g c =
    let e = c.grow.ensures in
    ok_by c.grow.result (λ is. still_more c.requires.filled e.step.site e.keeps (ok_has c.grow.result is e.importing) c.slots.result c.slots.ensures e.idle (ok_has c.grow.result is e.grown))

pub returns-clause-grows : goal.returns-clause-grows
returns-clause-grows g c = λ calm.
    let e = c.grow.ensures in
    by_result c.grow.result
    (ok_by c.grow.result (λ is. grows_more c.requires.filled e.step.site e.keeps (ok_has c.grow.result is e.importing) c.slots.result c.slots.ensures e.idle (ok_has c.grow.result is e.grown) e.step.few))
    (err_by c.grow.result (λ fault is. grows_same (Vhd c.args.disk.now) (err_has c.grow.result fault is e.poor calm).1))
