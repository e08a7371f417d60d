use Rattle.std.proofs.Common.{◌≡◌, ◌*◌, true, false, sym, ap, ◌∙◌, arith}
use Rattle.std.specs.Prelude.{◌==◌, ◌&&◌}
use Rattle.std.proofs.lemmas.Bool.Decides.{nat_tests}
use Rattle.vhd_fields.specs.Footers.{footer_read}
use Rattle.vhd_import.proofs.BeginningLaws.{footed-is, footed-none}
use Rattle.vhd_import.proofs.heads.is_footed.Goals as goal

pub returns-then-footer-eq2 : goal.returns-then-footer-eq2
returns-then-footer-eq2 c = λ file long last.
    let reads = ap footer_read last ∙ sym c.read.ensures.exact ∙ c.in-Ok.is in
    let two : (c.in-Ok.footer.kind == 2) ≡ true = let k = c.if-footer-eq2.true in grind (arith, nat_tests) in
    sym (footed-is file c.args.sectors c.in-Ok.footer long reads ∙ ap (λ b. b && (c.in-Ok.footer.current == 512 * c.args.sectors)) two)

pub returns-else-footer-eq2 : goal.returns-else-footer-eq2
returns-else-footer-eq2 c = λ file long last.
    let reads = ap footer_read last ∙ sym c.read.ensures.exact ∙ c.in-Ok.is in
    let other : (c.in-Ok.footer.kind == 2) ≡ false = let k = c.if-footer-eq2.false in grind (arith, nat_tests) in
    other ∙ sym (footed-is file c.args.sectors c.in-Ok.footer long reads ∙ ap (λ b. b && (c.in-Ok.footer.current == 512 * c.args.sectors)) other)

pub returns-in-Err : goal.returns-in-Err
returns-in-Err c = λ file long last. sym (footed-none file c.args.sectors c.in-Err.field-0 long (ap footer_read last ∙ sym c.read.ensures.exact ∙ c.in-Err.is))
