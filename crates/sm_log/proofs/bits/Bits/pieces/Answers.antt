use Rattle.std.proofs.Common.{◌∙◌, sym, ap, length, List, Bool}
use Rattle.sm_log.proofs.ByteLaws.{length-bits}
use Rattle.sm_log.proofs.bits.Bits.pieces.Goals as goal

pub returns : goal.returns
returns c = sym (length-bits c.self.inside.pieces c.self.inside.bytes.items) ∙ ap (λ (x : List Bool). length x) c.self.view_is
