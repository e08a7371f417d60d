use Rattle.std.proofs.Common.{ap₂}
use Rattle.std.specs.Prelude.{nat_le}
use Rattle.gc_plan.proofs.pairs.fits.Goals as goal

pub returns : goal.returns
returns c = λ s t same o tidy room p. ap₂ nat_le (c.growth.ensures s t same o tidy p) room
