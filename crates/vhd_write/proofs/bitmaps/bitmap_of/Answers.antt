use Rattle.std.proofs.Common.{◌∙◌}
use Rattle.vhd_write.proofs.BitLaws.{is_set-zeros}
use Rattle.vhd_write.proofs.bitmaps.bitmap_of.Goals as goal

pub returns-clause-others : goal.returns-clause-others
returns-clause-others c = λ i away. c.set_bits.ensures.others i away ∙ is_set-zeros 512 i
