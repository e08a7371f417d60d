use Rattle.std.proofs.Common.{◌≡◌, true, false, ◌∷◌, sym, ◌∙◌, arith}
use Rattle.std.specs.Prelude.{◌==◌}
use Rattle.std.proofs.lemmas.Bool.Decides.{nat_tests}
use Rattle.vhd_import.proofs.BeginningLaws.{kind-is, kind-none, size-is}
use Rattle.vhd_import.proofs.heads.beginning_of.Goals as goal

pub returns-in_default : goal.returns-in_default
returns-in_default c = λ rest.
    let reads = sym c.read.ensures.exact ∙ c.in_default.is in
    (kind-none 3 (c.args.first.now ∷ rest) c.in_default.field-0 reads, kind-none 4 (c.args.first.now ∷ rest) c.in_default.field-0 reads)

pub returns-then-footer-eq3 : goal.returns-then-footer-eq3
returns-then-footer-eq3 c = λ rest.
    let reads = sym c.read.ensures.exact ∙ c.in-Ok.is in
    let three : (c.in-Ok.footer.kind == 3) ≡ true = let k = c.if-footer-eq3.true in grind (arith, nat_tests) in
    (kind-is 3 (c.args.first.now ∷ rest) c.in-Ok.footer true reads three, size-is (c.args.first.now ∷ rest) c.in-Ok.footer reads)

pub returns-then-footer-eq4 : goal.returns-then-footer-eq4
returns-then-footer-eq4 c = λ rest.
    let reads = sym c.read.ensures.exact ∙ c.in-Ok.is in
    let three : (c.in-Ok.footer.kind == 3) ≡ false = let k = c.if-footer-eq3.false in grind (arith, nat_tests) in
    let four : (c.in-Ok.footer.kind == 4) ≡ true = let k = c.if-footer-eq4.true in grind (arith, nat_tests) in
    (kind-is 3 (c.args.first.now ∷ rest) c.in-Ok.footer false reads three, kind-is 4 (c.args.first.now ∷ rest) c.in-Ok.footer true reads four)

pub returns : goal.returns
returns c = λ rest.
    let reads = sym c.read.ensures.exact ∙ c.in-Ok.is in
    let three : (c.in-Ok.footer.kind == 3) ≡ false = let k = c.if-footer-eq3.false in grind (arith, nat_tests) in
    let four : (c.in-Ok.footer.kind == 4) ≡ false = let k = c.if-footer-eq4.false in grind (arith, nat_tests) in
    (kind-is 3 (c.args.first.now ∷ rest) c.in-Ok.footer false reads three, kind-is 4 (c.args.first.now ∷ rest) c.in-Ok.footer false reads four)
