use Rattle.std.proofs.Common.{◌≡◌, ◌∙◌, ◌+◌, ◌/◌, sym, ap, length, List, ℕ, Bool, arith}
use Rattle.std.proofs.lemmas.Result.{IfOk-weaker}
use Rattle.sm_base.specs.Numbers.{div_up}
use Rattle.vhd_map.specs.Bitmaps.{is_set}
use Rattle.sm_log.specs.Logs.{bit}
use Rattle.sm_log.specs.Coded.{packed, base64}
use Rattle.sm_log.specs.Kept.{AreBitsOf}
use Rattle.sm_log.proofs.ByteLaws.{length-bits, kept-bit, room, bytes_count}
use Rattle.sm_log.proofs.bits.spelled.Goals as goal

pub text_of-requires : goal.text_of-requires
text_of-requires c =
    let a = c.bits.inside in
    let bytes : length c.deref.result.now ≡ length a.bytes.items = ap (λ (x : List ℕ). length x) c.deref.ensures.value in
    omega (arith, room a.pieces a.bytes.items c.bits.invariant)

pub returns : goal.returns
returns c =
    let a = c.bits.inside in
    let flags = c.args.bits.now in
    let pieces : length flags ≡ a.pieces = sym (ap (λ (x : List Bool). length x) c.bits.view_is) ∙ length-bits a.pieces a.bytes.items in
    let agree : AreBitsOf c.deref.result.now flags = λ k. sym (ap (λ (x : List Bool). bit x k) c.bits.view_is) ∙ kept-bit a.pieces a.bytes.items c.bits.invariant k
    ∙ ap (λ (x : List ℕ). is_set x k) (sym c.deref.ensures.value) in
    let count : (a.pieces + 7) / 8 ≡ div_up (length flags) 8 = ap (λ (m : ℕ). (m + 7) / 8) (sym pieces) ∙ sym (bytes_count (length flags)) in
    IfOk-weaker c.text_of.result _ _ (λ t h. h flags agree ∙ ap (λ (m : ℕ). base64 (packed m flags)) count) c.text_of.ensures
