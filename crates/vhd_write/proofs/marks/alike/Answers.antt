use Rattle.std.proofs.Common.{◌≡◌, ◌+◌, ◌∙◌, ap, sym, arith}
use Rattle.vhd_map.specs.Bitmaps.{is_set}
use Rattle.vhd_write.proofs.marks.alike.Goals as goal

pub loop-count-init : goal.loop-count-init
loop-count-init c = λ i below.
    let at : c.args.part + i ≡ c.args.part = omega arith in
    ap (is_set c.args.marks.now) at ∙ sym c.bit-first.ensures
