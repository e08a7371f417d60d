use Rattle.std.proofs.Common.{◌≡◌, ◌∙◌, sym, ap, length, List, ℕ, Bool, arith}
use Rattle.vhd_map.specs.Bitmaps.{is_set}
use Rattle.sm_log.specs.Logs.{bit}
use Rattle.sm_log.proofs.ByteLaws.{length-bits, kept-bit, room}
use Rattle.sm_log.proofs.bits.Bits.is_marked.Goals as goal

pub bit-requires : goal.bit-requires
bit-requires c =
    let a = c.self.inside in
    let pieces : length c.args.self.now ≡ a.pieces = sym (ap (λ (x : List Bool). length x) c.self.view_is) ∙ length-bits a.pieces a.bytes.items in
    let bytes : length c.deref.result.now ≡ length a.bytes.items = ap (λ (x : List ℕ). length x) c.deref.ensures.value in
    omega (arith, room a.pieces a.bytes.items c.self.invariant)

pub returns : goal.returns
returns c =
    let a = c.self.inside in
    c.bit.ensures ∙ ap (λ (x : List ℕ). is_set x c.args.piece) c.deref.ensures.value
    ∙ sym (kept-bit a.pieces a.bytes.items c.self.invariant c.args.piece) ∙ ap (λ (x : List Bool). bit x c.args.piece) c.self.view_is
