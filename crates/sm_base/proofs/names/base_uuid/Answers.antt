use Rattle.std.proofs.Common.{refl}
use Rattle.sm_base.specs.Names.{base_uuid}
use Rattle.sm_base.proofs.names.base_uuid.Goals as goal

pub returns : goal.returns
unfolding base_uuid
returns c = rw (c.from_bytes.ensures, c.copy_from_slice.ensures.after, c.copy_from_slice-2.ensures.after, c.to_be_bytes.ensures) refl
