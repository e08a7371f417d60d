use Rattle.std.proofs.Common.{arith}
use Rattle.uuid.proofs.TextLemmas.{all_fit}
use Rattle.sm_tracking.proofs.rooms.law_uuid.Goals as goal

pub returns : goal.returns
returns c = record { long = c.requires; bytes = all_fit c.args.bytes.now (λ k below. omega (arith, c.type_inv.bytes k)) }
