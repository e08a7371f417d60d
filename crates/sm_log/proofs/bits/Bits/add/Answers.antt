use Rattle.std.proofs.Common.{◌≡◌, ◌≤◌, ◌∙◌, sym, ap, ap₂, subst, length, List, ℕ, Bool, arith}
use Rattle.std.proofs.lemmas.List.{with_items_is}
use Rattle.sm_log.specs.Logs.{either}
use Rattle.sm_log.specs.Kept.{bits_in, AreKept, AreEither}
use Rattle.sm_log.proofs.ByteLaws.{length-bits, room, kept-either, seen-either}
use Rattle.sm_log.proofs.bits.Bits.add.Goals as goal

-- the other has no more pieces
few : (c : goal.After-self-1) → c.other.inside.pieces ≤ c.self.inside.pieces
few c =
    let a = c.self.inside in
    let b = c.other.inside in
    let here : length c.args.self.now ≡ a.pieces = sym (ap (λ (x : List Bool). length x) c.self.view_is) ∙ length-bits a.pieces a.bytes.items in
    let there : length c.args.other.now ≡ b.pieces = sym (ap (λ (x : List Bool). length x) c.other.view_is) ∙ length-bits b.pieces b.bytes.items in
    omega (arith, here, there, c.requires)

pub unite-requires : goal.unite-requires
unite-requires c =
    let a = c.self.inside in
    let b = c.other.inside in
    let here : length c.args.self.now ≡ a.pieces = sym (ap (λ (x : List Bool). length x) c.self.view_is) ∙ length-bits a.pieces a.bytes.items in
    let there : length c.args.other.now ≡ b.pieces = sym (ap (λ (x : List Bool). length x) c.other.view_is) ∙ length-bits b.pieces b.bytes.items in
    let fewer : b.pieces ≤ a.pieces = omega (arith, here, there, c.requires) in
    let x : length c.deref_mut.result.now ≡ length a.bytes.items = ap (λ (x : List ℕ). length x) c.deref_mut.ensures.value in
    let y : length c.deref.result.now ≡ length b.bytes.items = ap (λ (x : List ℕ). length x) c.deref.ensures.value in
    omega (arith, fewer, x, y, room a.pieces a.bytes.items c.self.invariant, room b.pieces b.bytes.items c.other.invariant)

pub invariant_of-self : goal.invariant_of-self
invariant_of-self c =
    let a = c.self.inside in
    let b = c.other.inside in
    let both : AreEither b.bytes.items a.bytes.items c.unite.new.bytes = rw c.deref.ensures.value at (rw c.deref_mut.ensures.value at c.unite.ensures) in
    let e = with_items_is a.bytes c.unite.new.bytes (both.long ∙ sym a.bytes.ok.0) in
    subst (λ (x : List ℕ). AreKept a.pieces x) (sym e) (kept-either a.pieces b.pieces b.bytes.items a.bytes.items c.unite.new.bytes (few c) c.self.invariant c.other.invariant both)

pub returns : goal.returns
returns c =
    let a = c.self.inside in
    let b = c.other.inside in
    let both : AreEither b.bytes.items a.bytes.items c.unite.new.bytes = rw c.deref.ensures.value at (rw c.deref_mut.ensures.value at c.unite.ensures) in
    let e = with_items_is a.bytes c.unite.new.bytes (both.long ∙ sym a.bytes.ok.0) in
    ap (λ (x : List ℕ). bits_in a.pieces x) e
    ∙ seen-either a.pieces b.pieces b.bytes.items a.bytes.items c.unite.new.bytes (few c) c.self.invariant c.other.invariant both
    ∙ ap₂ (λ (x y : List Bool). either x y) c.self.view_is c.other.view_is
