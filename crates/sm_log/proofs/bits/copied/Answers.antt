use Rattle.std.proofs.Common.{◌≡◌, ◌∙◌, ◌+◌, ◌-◌, ◌*◌, sym, ap, take, drop, ℕ, arith}
use Rattle.sm_log.specs.Coded.{packed}
use Rattle.sm_log.proofs.ByteLaws.{packed-is}
use Rattle.sm_log.proofs.bits.copied.Goals as goal

pub returns : goal.returns
returns c = λ flags agree.
    let s = c.args.bytes.now in
    let at : ℕ = 512 * c.args.index in
    let count : at + 512 - at ≡ 512 = omega arith in
    let from : 8 * at ≡ 4096 * c.args.index = omega arith in
    let is : packed 512 (drop (8 * at) flags) ≡ take 512 (drop at s) = packed-is 512 at flags s agree (λ i. omega (arith, c.type_inv.bytes i)) (omega arith) in
    c.copy_from_slice.ensures.after ∙ ap (λ (n : ℕ). take n (drop at s)) count ∙ sym is ∙ ap (λ (n : ℕ). packed 512 (drop n flags)) from
