use Rattle.std.proofs.Common.{◌≡◌, ◌∙◌, sym, ap, subst, false, length, replicate, List, ℕ, Bool}
use Rattle.sm_log.specs.Kept.{bits_in, AreKept}
use Rattle.sm_log.proofs.ByteLaws.{length-bits, kept-clear, seen-new}
use Rattle.sm_log.proofs.bits.Bits.clear.Goals as goal

pub invariant_of-self : goal.invariant_of-self
invariant_of-self c =
    let a = c.self.inside in
    let zeros : c.fill.new.self.items ≡ replicate (length a.bytes.items) 0 = c.fill.ensures.items (λ y h. h) ∙ ap (λ (n : ℕ). replicate {A = ℕ} n 0) a.bytes.ok.0 in
    subst (λ (x : List ℕ). AreKept a.pieces x) (sym zeros) (kept-clear a.pieces a.bytes.items c.self.invariant)

pub returns : goal.returns
returns c =
    let a = c.self.inside in
    let zeros : c.fill.new.self.items ≡ replicate (length a.bytes.items) 0 = c.fill.ensures.items (λ y h. h) ∙ ap (λ (n : ℕ). replicate {A = ℕ} n 0) a.bytes.ok.0 in
    let pieces : length c.args.self.now ≡ a.pieces = sym (ap (λ (x : List Bool). length x) c.self.view_is) ∙ length-bits a.pieces a.bytes.items in
    ap (λ (x : List ℕ). bits_in a.pieces x) zeros ∙ seen-new a.pieces (length a.bytes.items) ∙ ap (λ (n : ℕ). replicate {A = Bool} n false) (sym pieces)
