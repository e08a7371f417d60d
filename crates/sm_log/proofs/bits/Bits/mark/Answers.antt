use Rattle.std.proofs.Common.{◌≡◌, ◌∙◌, ◌+◌, ◌-◌, ◌/◌, sym, ap, subst, length, List, ℕ, Bool, min, arith}
use Rattle.std.proofs.lemmas.List.{with_items_is}
use Rattle.sm_log.specs.Logs.{marked, pieces_touched}
use Rattle.sm_log.specs.Kept.{bits_in, AreKept, AreSet}
use Rattle.sm_log.proofs.ByteLaws.{length-bits, room, kept-set, seen-set}
use Rattle.sm_log.proofs.bits.Bits.mark.Goals as goal

pub set_all-requires-clause-within : goal.set_all-requires-clause-within
set_all-requires-clause-within c =
    let a = c.self.inside in
    let pieces : length c.args.self.now ≡ a.pieces = sym (ap (λ (x : List Bool). length x) c.self.view_is) ∙ length-bits a.pieces a.bytes.items in
    let bytes : length c.deref_mut.result.now ≡ length a.bytes.items = ap (λ (x : List ℕ). length x) c.deref_mut.ensures.value in
    omega (arith, room a.pieces a.bytes.items c.self.invariant)

pub invariant_of-self : goal.invariant_of-self
invariant_of-self c =
    let a = c.self.inside in
    let set : AreSet c.reached-first.result.0 c.reached-first.result.1 a.bytes.items c.set_all.new.bytes = rw c.deref_mut.ensures.value at c.set_all.ensures in
    let e = with_items_is a.bytes c.set_all.new.bytes (set.long ∙ sym a.bytes.ok.0) in
    subst (λ (x : List ℕ). AreKept a.pieces x) (sym e) (kept-set a.pieces c.reached-first.result.0 c.reached-first.result.1 a.bytes.items c.set_all.new.bytes c.self.invariant set (omega arith))

pub returns : goal.returns
returns c =
    let a = c.self.inside in
    let first : ℕ = c.args.sector / 128 in
    let end : ℕ = (c.args.sector + c.args.count - 1) / 128 + 1 in
    let set : AreSet c.reached-first.result.0 c.reached-first.result.1 a.bytes.items c.set_all.new.bytes = rw c.deref_mut.ensures.value at c.set_all.ensures in
    let e = with_items_is a.bytes c.set_all.new.bytes (set.long ∙ sym a.bytes.ok.0) in
    let all : first + (end - first) ≡ end = omega (arith, c.requires.some) in
    ap (λ (x : List ℕ). bits_in a.pieces x) e
    ∙ seen-set a.pieces first (end - first) c.reached-first.result.0 c.reached-first.result.1 a.bytes.items c.set_all.new.bytes c.self.invariant set
    c.reached-first.ensures.first (c.reached-first.ensures.end ∙ ap (λ (n : ℕ). min n a.pieces) (sym all))
    ∙ ap (λ (x : List Bool). marked (pieces_touched c.args.sector c.args.count) x) c.self.view_is
