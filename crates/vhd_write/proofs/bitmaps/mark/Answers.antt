use Rattle.std.proofs.Common.{ap, ◌∙◌, inl, inr, ⊎_elim, arith}
use Rattle.std.proofs.lemmas.Bool.{cases_eq}
use Rattle.vhd_map.specs.Bitmaps.{is_set}
use Rattle.vhd_write.proofs.bitmaps.mark.Goals as goal

pub loop-i-preserved : goal.loop-i-preserved
loop-i-preserved c =
    let i = c.loop-i.invariant in
    record {
      set = λ k low high. ⊎_elim (λ e. ap (is_set c.set_bit.new.map) e ∙ c.set_bit.ensures.set) (λ ne. c.set_bit.ensures.others k ne ∙ i.set k low (omega arith)) (cases_eq k c.loop-i.i);
      others = λ k far. ⊎_elim
          (λ below. c.set_bit.ensures.others k (λ e. omega (arith, c.loop-i.auto.i)) ∙ i.others k (inl below))
          (λ past. c.set_bit.ensures.others k (λ e. omega arith) ∙ i.others k (inr (omega arith))) far;
    }
