use Rattle.std.proofs.Common.{◌≡◌, ◌∙◌, ◌+◌, ◌-◌, ◌*◌, ◌/◌, ◌<◌, ◌≤◌, sym, ap, length, List, ℕ, Bool, false, arith, MatchBool}
use Rattle.std.proofs.lemmas.Bool.{leb-true, leb-false}
use Rattle.vhd_map.specs.Bitmaps.{is_set}
use Rattle.sm_log.specs.Logs.{bit, pieces_touched}
use Rattle.sm_log.specs.Kept.{AllSet, SomeClear}
use Rattle.sm_log.proofs.ByteLaws.{kept-bit, room, all_same, found_all, not_all_numbers}
use Rattle.sm_log.proofs.bits.Bits.are_marked.Goals as goal

pub are_set-requires-clause-within : goal.are_set-requires-clause-within
are_set-requires-clause-within c =
    let a = c.self.inside in
    let bytes : length c.deref.result.now ≡ length a.bytes.items = ap (λ (x : List ℕ). length x) c.deref.ensures.value in
    omega (arith, c.reached-first.ensures.end, room a.pieces a.bytes.items c.self.invariant)

pub returns-then-is_within : goal.returns-then-is_within
returns-then-is_within c =
    let a = c.self.inside in
    let s = c.deref.result.now in
    let first : ℕ = c.args.sector / 128 in
    let end : ℕ = (c.args.sector + c.args.count - 1) / 128 + 1 in
    let low : c.args.sector + c.args.count ≤ 128 * a.pieces = leb-true (c.args.sector + c.args.count) (128 * a.pieces) (sym c.is_within.ensures ∙ c.if-is_within.true) in
    let from : c.reached-first.result.0 ≡ first = omega (arith, c.reached-first.ensures.first, low, c.requires.some) in
    let to : c.reached-first.result.1 ≡ end = omega (arith, c.reached-first.ensures.end, low, c.requires.some) in
    let found : MatchBool c.are_set.result (AllSet first end s) (SomeClear first end s) = rw from at (rw to at c.are_set.ensures) in
    found_all c.are_set.result first (end - first) end s (omega (arith, c.requires.some)) found
    ∙ sym (all_same (bit c.args.self.now) (is_set s) (pieces_touched c.args.sector c.args.count) (λ k. sym (ap (λ (x : List Bool). bit x k) c.self.view_is)
    ∙ kept-bit a.pieces a.bytes.items c.self.invariant k ∙ ap (λ (x : List ℕ). is_set x k) (sym c.deref.ensures.value)))

pub returns-else-is_within : goal.returns-else-is_within
returns-else-is_within c =
    let a = c.self.inside in
    let first : ℕ = c.args.sector / 128 in
    let last : ℕ = (c.args.sector + c.args.count - 1) / 128 in
    let high : 128 * a.pieces < c.args.sector + c.args.count = leb-false (c.args.sector + c.args.count) (128 * a.pieces) (sym c.is_within.ensures ∙ c.if-is_within.false) in
    let clear : is_set a.bytes.items last ≡ false = c.self.invariant.clear last (omega (arith, high)) in
    let is : bit c.args.self.now last ≡ false = sym (ap (λ (x : List Bool). bit x last) c.self.view_is) ∙ kept-bit a.pieces a.bytes.items c.self.invariant last ∙ clear in
    c.if-is_within.false ∙ sym (not_all_numbers (bit c.args.self.now) first (last + 1 - first) last (omega (arith, c.requires.some)) (omega (arith, c.requires.some)) is)
