use Rattle.std.proofs.Common.{◌∙◌, ◌+◌, ◌*◌, nat_le, ℕ, List, Bool, length, sym, ap}
use Rattle.sm_log.proofs.ByteLaws.{length-bits}
use Rattle.sm_log.proofs.bits.Bits.has.Goals as goal

pub returns : goal.returns
returns c =
    let a = c.self.inside in
    c.is_within.ensures ∙ ap (λ (n : ℕ). nat_le (c.args.sector + c.args.count) (128 * n)) (sym (length-bits a.pieces a.bytes.items) ∙ ap (λ (x : List Bool). length x) c.self.view_is)
