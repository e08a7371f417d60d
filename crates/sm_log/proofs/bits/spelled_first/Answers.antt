use Rattle.std.proofs.Common.{◌≡◌, ◌∙◌, ◌<◌, ◌≤◌, ◌⊎◌, inl, inr, sym, ap, take, length, List, ℕ, Bool, false, arith}
use Rattle.std.proofs.lemmas.Bool.{cases_lt}
use Rattle.std.proofs.lemmas.List.{with_items_is}
use Rattle.std.proofs.lemmas.Result.{IfOk-weaker}
use Rattle.vhd_map.specs.Bitmaps.{is_set}
use Rattle.sm_log.specs.Logs.{bit}
use Rattle.sm_log.specs.Coded.{packed, base64}
use Rattle.sm_log.specs.Kept.{AreBitsOf, AreClear}
use Rattle.sm_log.proofs.ByteLaws.{bit-behind, bit-cut, bytes_count, kept-bit, length-bits, room}
use Rattle.sm_log.proofs.bits.spelled_first.Goals as goal

pub clear_all-requires-clause-within : goal.clear_all-requires-clause-within
clear_all-requires-clause-within c =
    let a = c.bits.inside in
    let pieces : length c.args.bits ≡ a.pieces = sym (ap (λ (x : List Bool). length x) c.bits.view_is) ∙ length-bits a.pieces a.bytes.items in
    let bytes : length c.deref_mut.result.now ≡ length a.bytes.items = ap (λ (x : List ℕ). length x) c.deref_mut.ensures.value in
    omega (arith, c.pieces-pieces.ensures, pieces, room a.pieces a.bytes.items c.bits.invariant)

pub text_of-requires : goal.text_of-requires
text_of-requires c =
    let a = c.bits.inside in
    let pieces : length c.args.bits ≡ a.pieces = sym (ap (λ (x : List Bool). length x) c.bits.view_is) ∙ length-bits a.pieces a.bytes.items in
    let bytes : length c.deref_mut.result.now ≡ length a.bytes.items = ap (λ (x : List ℕ). length x) c.deref_mut.ensures.value in
    let clear : AreClear c.args.count c.pieces-pieces.result a.bytes.items c.clear_all.new.bytes = rw c.deref_mut.ensures.value at c.clear_all.ensures in
    let whole : c.deref.result.now ≡ c.clear_all.new.bytes = c.deref.ensures.value ∙ with_items_is a.bytes c.clear_all.new.bytes (clear.long ∙ sym a.bytes.ok.0) in
    let long : length c.deref.result.now ≡ length c.clear_all.new.bytes = ap (λ (x : List ℕ). length x) whole in
    omega (arith, pieces, bytes, long, c.clear_all.ensures.long, c.requires, room a.pieces a.bytes.items c.bits.invariant)

pub returns : goal.returns
returns c = IfOk-weaker c.text_of.result _ _ (λ t h. h (take c.args.count flags) agree ∙ ap (λ (m : ℕ). base64 (packed m (take c.args.count flags))) (sym (bytes_count c.args.count))) c.text_of.ensures
  where
    flags : List Bool
    flags = c.args.bits

    old : List ℕ
    old = c.bits.inside.bytes.items

    clear : AreClear c.args.count c.pieces-pieces.result old c.clear_all.new.bytes
    clear = rw c.deref_mut.ensures.value at c.clear_all.ensures

    whole : c.deref.result.now ≡ c.clear_all.new.bytes
    whole = c.deref.ensures.value ∙ with_items_is c.bits.inside.bytes c.clear_all.new.bytes (clear.long ∙ sym c.bits.inside.bytes.ok.0)

    pieces : c.pieces-pieces.result ≡ c.bits.inside.pieces
    pieces = c.pieces-pieces.ensures ∙ (sym (ap (λ (x : List Bool). length x) c.bits.view_is) ∙ length-bits c.bits.inside.pieces old)

    kept : (k : ℕ) → bit flags k ≡ is_set old k
    kept k = sym (ap (λ (x : List Bool). bit x k) c.bits.view_is) ∙ kept-bit c.bits.inside.pieces old c.bits.invariant k

    past : (k : ℕ) → (k < c.pieces-pieces.result) ⊎ (c.pieces-pieces.result ≤ k) → c.args.count ≤ k → is_set c.clear_all.new.bytes k ≡ false
    past k (inl w) low = clear.inside k low w
    past k (inr far) low = clear.behind k far ∙ c.bits.invariant.clear k (omega (arith, far, pieces))

    by : (k : ℕ) → (k < c.args.count) ⊎ (c.args.count ≤ k) → bit (take c.args.count flags) k ≡ is_set c.clear_all.new.bytes k
    by k (inl w) = bit-cut c.args.count flags k w ∙ (kept k ∙ sym (clear.before k w))
    by k (inr far) = bit-behind c.args.count flags k far ∙ sym (past k (cases_lt k c.pieces-pieces.result) far)

    agree : AreBitsOf c.deref.result.now (take c.args.count flags)
    agree k = by k (cases_lt k c.args.count) ∙ ap (λ (x : List ℕ). is_set x k) (sym whole)
