use Rattle.std.proofs.Common.{◌≡◌, ◌≤◌, ◌∙◌, ◌+◌, sym, ap, length, List, ℕ, Bool, arith}
use Rattle.sm_base.specs.Numbers.{div_up}
use Rattle.vhd_map.specs.Bitmaps.{is_set}
use Rattle.sm_log.specs.Logs.{bit, sector_bits}
use Rattle.sm_log.proofs.ByteLaws.{length-bits, kept-bit, sectors_within}
use Rattle.sm_log.proofs.bits.Bits.sectors.Goals as goal

pub part-requires : goal.part-requires
part-requires c =
    let a = c.self.inside in
    let pieces : length c.args.self.now ≡ a.pieces = sym (ap (λ (x : List Bool). length x) c.self.view_is) ∙ length-bits a.pieces a.bytes.items in
    let index : c.args.index + c.args.count ≤ div_up a.pieces sector_bits = rw (← pieces) c.requires in
    let bytes : length c.deref.result.now ≡ length a.bytes.items = ap (λ (x : List ℕ). length x) c.deref.ensures.value in
    omega (arith, sectors_within a.pieces c.args.index c.args.count a.bytes.items c.self.invariant index)

pub returns : goal.returns
returns c =
    let a = c.self.inside in
    c.part.ensures c.args.self.now (λ k. sym (ap (λ (x : List Bool). bit x k) c.self.view_is) ∙ kept-bit a.pieces a.bytes.items c.self.invariant k
    ∙ ap (λ (x : List ℕ). is_set x k) (sym c.deref.ensures.value))
