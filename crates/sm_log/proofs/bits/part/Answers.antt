use Rattle.std.proofs.Common.{◌≡◌, ◌∙◌, ◌+◌, ◌-◌, ◌*◌, sym, ap, take, drop, ℕ, arith}
use Rattle.sm_log.specs.Coded.{packed}
use Rattle.sm_log.proofs.ByteLaws.{packed-is}
use Rattle.sm_log.proofs.bits.part.Goals as goal

pub returns : goal.returns
returns c = λ flags agree.
    let s = c.args.bytes.now in
    let at : ℕ = 512 * c.args.index in
    let n : ℕ = 512 * c.args.count in
    let count : at + n - at ≡ n = omega arith in
    let from : 8 * at ≡ 4096 * c.args.index = omega arith in
    let is : packed n (drop (8 * at) flags) ≡ take n (drop at s) = packed-is n at flags s agree (λ i. omega (arith, c.type_inv.bytes i)) c.requires in
    ap (λ (m : ℕ). take m (drop at s)) count ∙ sym is ∙ ap (λ (m : ℕ). packed n (drop m flags)) from
