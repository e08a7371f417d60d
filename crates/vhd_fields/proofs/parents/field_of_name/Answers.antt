use Rattle.std.proofs.Common.{◌≡◌, ◌++◌, replicate, take, refl, ap, ◌∙◌, arith}
use Rattle.std.proofs.lemmas.List.{take_all}
use Rattle.sm_base.specs.Names.{spelling}
use Rattle.vhd_fields.specs.ParentNames.{utf16, parent_bytes}
use Rattle.vhd_fields.proofs.Utf16.{one_more, all_written}
use Rattle.vhd_fields.proofs.parents.field_of_name.Goals as goal

pub loop-unit-init : goal.loop-unit-init
unfolding utf16
loop-unit-init c = refl

pub loop-unit-preserved : goal.loop-unit-preserved
loop-unit-preserved c =
    rw c.loop-unit.invariant (one_more c.spell.new.to c.loop-unit.unit (omega (arith, c.type_inv.text)) (omega arith))

pub returns : goal.returns
unfolding parent_bytes
returns c =
    let text = c.spell.new.to in
    let end : c.loop-unit.unit ≡ 128 = omega arith in
    let whole : take 128 text ≡ text = take_all 128 text (omega (arith, c.spell.array_long)) in
    rw end at c.loop-unit.invariant ∙ ap (λ (t : _). utf16 t ++ replicate 256 0) whole ∙ all_written (spelling c.args.name.now) text (omega (arith, c.spell.ensures.most, c.spell.ensures.length)) c.spell.ensures.text
