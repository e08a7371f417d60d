use Rattle.std.proofs.Common.{max, ap, sym, ◌∙◌}
use Rattle.sm_ready.specs.Known.{known, shape_in}
use Rattle.gc_plan.specs.Planning.{as_pair}
use Rattle.gc_plan.proofs.PairLaws.{target_raw, target_vhd}
use Rattle.gc_plan.proofs.pairs.target.Goals as goal

pub returns-then-is_vhd : goal.returns-then-is_vhd
returns-then-is_vhd c = λ s t same o tidy p.
    let q = c.args.pair.now in
    c.max.ensures ∙ ap (max q.parent.now.extents) (c.needed.ensures s t same o tidy p)
    ∙ sym (target_vhd (shape_in s t (known c.args.memory.now)) (as_pair q) (sym c.is_vhd.ensures ∙ c.if-is_vhd.true))

pub returns-else-is_vhd : goal.returns-else-is_vhd
returns-else-is_vhd c = λ s t same o tidy p. sym (target_raw (shape_in s t (known c.args.memory.now)) (as_pair c.args.pair.now) (sym c.is_vhd.ensures ∙ c.if-is_vhd.false))
