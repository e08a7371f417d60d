use Rattle.std.proofs.Common.{◌+◌, ap, arith}
use Rattle.sm_base.specs.Numbers.{first}
use Rattle.sm_base.proofs.NumberLemmas.{div_up-div_ceil}
use Rattle.sm_base.proofs.sizes.Geometry.first.Goals as goal

pub returns : goal.returns
unfolding first
returns c = rw (c.div_ceil.ensures, c.from.ensures) (ap (λ n. 3 + n) (div_up-div_ceil c.args.self.now.entries 128 (omega arith)))
