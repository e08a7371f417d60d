use Rattle.std.proofs.Common.{◌≡◌, ◌<◌, ◌∙◌, ◌*◌, sym, ap, subst, length, List, ℕ, Bool, arith}
use Rattle.std.proofs.lemmas.List.{with_items_is}
use Rattle.sm_log.specs.Kept.{bits_in, AreKept, AreFrom, with_sector}
use Rattle.sm_log.proofs.ByteLaws.{length-bits, room, kept-from, seen-from}
use Rattle.sm_log.proofs.bits.Bits.from_sector.Goals as goal
use Rattle.sm_log.proofs.ByteLaws.{before_end}

pub take_all-requires-clause-order : goal.take_all-requires-clause-order
take_all-requires-clause-order c =
    let a = c.self.inside in
    let pieces : length c.args.self.now ≡ a.pieces = sym (ap (λ (x : List Bool). length x) c.self.view_is) ∙ length-bits a.pieces a.bytes.items in
    let low : 4096 * c.args.index < length c.args.self.now = before_end (length c.args.self.now) c.args.index c.requires in
    omega (arith, c.min-end.ensures)

pub take_all-requires-clause-within : goal.take_all-requires-clause-within
take_all-requires-clause-within c =
    let a = c.self.inside in
    let bytes : length c.deref_mut.result.now ≡ length a.bytes.items = ap (λ (x : List ℕ). length x) c.deref_mut.ensures.value in
    omega (arith, c.min-end.ensures, room a.pieces a.bytes.items c.self.invariant)

pub invariant_of-self : goal.invariant_of-self
invariant_of-self c =
    let a = c.self.inside in
    let from : AreFrom (4096 * c.args.index) c.min-end.result c.args.sector.now a.bytes.items c.take_all.new.bytes = rw c.deref_mut.ensures.value at c.take_all.ensures in
    let e = with_items_is a.bytes c.take_all.new.bytes (from.long ∙ sym a.bytes.ok.0) in
    subst (λ (x : List ℕ). AreKept a.pieces x) (sym e)
    (kept-from a.pieces _ c.min-end.result c.args.sector.now a.bytes.items c.take_all.new.bytes c.self.invariant from (omega (arith, c.min-end.ensures)))

pub returns : goal.returns
returns c =
    let a = c.self.inside in
    let from : AreFrom (4096 * c.args.index) c.min-end.result c.args.sector.now a.bytes.items c.take_all.new.bytes = rw c.deref_mut.ensures.value at c.take_all.ensures in
    let e = with_items_is a.bytes c.take_all.new.bytes (from.long ∙ sym a.bytes.ok.0) in
    ap (λ (x : List ℕ). bits_in a.pieces x) e
    ∙ seen-from a.pieces c.args.index c.min-end.result c.args.sector.now a.bytes.items c.take_all.new.bytes c.self.invariant from (omega (arith, c.min-end.ensures))
    ∙ ap (λ (x : List Bool). with_sector c.args.index c.args.sector.now x) c.self.view_is
