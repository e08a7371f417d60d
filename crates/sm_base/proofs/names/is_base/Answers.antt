use Rattle.std.proofs.Common.{refl}
use Rattle.sm_base.specs.Names.{is_base}
use Rattle.sm_base.proofs.names.is_base.Goals as goal

pub returns : goal.returns
unfolding is_base
returns c = rw (c.eq.ensures, c.as_bytes.ensures, c.as_slice.ensures) refl
