use Rattle.std.proofs.Common.{◌<◌, sym, ap, ◌∙◌, arith}
use Rattle.std.specs.Int.{div_ceil}
use Rattle.std.specs.Prelude.{nat_lt}
use Rattle.sm_base.proofs.NumberLemmas.{div_up-div_ceil}
use Rattle.vhd_import.proofs.heads.is_too_large.Goals as goal

pub returns : goal.returns
returns c = λ t entries block.
    let some : 0 < t.block = omega (arith, c.requires, block) in
    ap (λ n. nat_lt n c.div_ceil.result) (c.from-2.ensures ∙ sym entries)
    ∙ ap (nat_lt t.entries) (c.div_ceil.ensures ∙ ap (div_ceil c.args.sectors) (c.from.ensures ∙ sym block) ∙ div_up-div_ceil c.args.sectors t.block some)
