use Rattle.std.proofs.Common.{◌≡◌, ◌&&◌, eqb, take, drop, true, false, sym, ◌∙◌}
use Rattle.std.specs.Prelude.{sum}
use Rattle.std.specs.List.{list_all}
use Rattle.std.specs.Str.{bytes_eq}
use Rattle.vg_layout.specs.Sectors.{header_cookie, header_sector, number_at, pointer_in}
use Rattle.tests_reader.proofs.HeadLaws.{header_same}
use Rattle.tests_reader.proofs.heads.is_header_spelled.Goals as goal

pub returns-then-begins_with : goal.returns-then-begins_with
returns-then-begins_with c =
    let s = c.args.header.now in
    let cookie : bytes_eq (take 8 s) header_cookie ≡ true = sym c.begins_with.ensures ∙ c.if-begins_with.true in
    let same : (bytes_eq (take 8 s) header_cookie && (list_all (λ b. eqb b 0) (take 488 (drop 20 s)) && eqb (sum (take 508 (drop 0 s))) (number_at 508 s))) ≡ bytes_eq s (header_sector (pointer_in s)) =
    header_same s c.law_sector.ensures in
    let left : (list_all (λ b. eqb b 0) (take 488 (drop 20 s)) && eqb (sum (take 508 (drop 0 s))) (number_at 508 s)) ≡ bytes_eq s (header_sector (pointer_in s)) = rw cookie at same in
    c.is_filled.ensures ∙ left

pub returns-else-begins_with : goal.returns-else-begins_with
returns-else-begins_with c =
    let s = c.args.header.now in
    let cookie : bytes_eq (take 8 s) header_cookie ≡ false = sym c.begins_with.ensures ∙ c.if-begins_with.false in
    let same : (bytes_eq (take 8 s) header_cookie && (list_all (λ b. eqb b 0) (take 488 (drop 20 s)) && eqb (sum (take 508 (drop 0 s))) (number_at 508 s))) ≡ bytes_eq s (header_sector (pointer_in s)) =
    header_same s c.law_sector.ensures in
    let left : false ≡ bytes_eq s (header_sector (pointer_in s)) = rw cookie at same in
    c.if-begins_with.false ∙ left
