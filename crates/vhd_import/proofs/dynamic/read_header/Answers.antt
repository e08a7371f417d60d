use Rattle.std.proofs.Common.{◌≡◌, Err, refl, ◌∙◌, rules}
use Rattle.vhd_import.proofs.FrontLaws.{counts-err, says-err}
use Rattle.vhd_import.proofs.HeaderLaws.{first-read, header-read, header-says, here, one, one-long, open-first, open-second, two, two-dynamic}
use Rattle.vhd_import.proofs.dynamic.read_header.Goals as goal

pub returns-in_err-whole_sector-clause-says : goal.returns-in_err-whole_sector-clause-says
returns-in_err-whole_sector-clause-says g c = λ t had front puts w.
    let is : c.from_residual.result ≡ Err c.in_err-whole_sector.field-0.0 = search rules in
    says-err t had c.from_residual.result c.in_err-whole_sector.field-0.0 is (c.in_err-whole_sector.ensures.says t had front puts w.read w.long (open-first t had _ front puts c.args.sectors w))

pub returns-in_err-whole_sector-2-clause-says : goal.returns-in_err-whole_sector-2-clause-says
returns-in_err-whole_sector-2-clause-says g c = λ t had front puts w.
    let next = c.in_ok-whole_sector.ensures.read in
    let first = c.whole_sector.new.to in
    let full = c.whole_sector.array_long in
    let is : c.from_residual-in_err-whole_sector-2.result ≡ Err c.in_err-whole_sector-2.field-0.0 = search rules in
    says-err t had c.from_residual-in_err-whole_sector-2.result c.in_err-whole_sector-2.field-0.0 is
    (c.in_err-whole_sector-2.ensures.says t had (one t had _ _ front puts c.args.sectors w first full next.1) puts (first-read t had _ _ front puts c.args.sectors w first full next.1) (one-long t had _ _ front puts c.args.sectors w first full next.1)
    (open-second t had _ _ front puts c.args.sectors w first full next.1))

pub returns-in-Ok-clause-read : goal.returns-in-Ok-clause-read
returns-in-Ok-clause-read g c = λ t had front puts w.
    let next = c.in_ok-whole_sector.ensures.read in
    let last = c.in_ok-whole_sector-2.ensures.read in
    let first = c.whole_sector.new.to in
    let full = c.whole_sector.array_long in
    let second = c.whole_sector-2.new.to in
    let whole = c.whole_sector-2.array_long in
    let d = two-dynamic t had _ _ front puts c.args.sectors w first full next.1 _ second whole last.1 in
    header-read t had _ _ front puts c.args.sectors w first full next.1 _ second whole last.1 c.in-Ok.numbers
    (c.in-Ok.ensures.numbers (two t had _ _ front puts c.args.sectors w first full next.1 _ second whole last.1) d.0 d.1 (here t had _ _ front puts c.args.sectors w first full next.1 _ second whole last.1 _ c.joined-header.ensures))

pub returns-in-Err-clause-says : goal.returns-in-Err-clause-says
returns-in-Err-clause-says g c = λ t had front puts w.
    let next = c.in_ok-whole_sector.ensures.read in
    let last = c.in_ok-whole_sector-2.ensures.read in
    let first = c.whole_sector.new.to in
    let full = c.whole_sector.array_long in
    let second = c.whole_sector-2.new.to in
    let whole = c.whole_sector-2.array_long in
    let d = two-dynamic t had _ _ front puts c.args.sectors w first full next.1 _ second whole last.1 in
    header-says t had _ _ front puts c.args.sectors w first full next.1 _ second whole last.1 c.in-Err.refusal
    (c.in-Err.ensures.denied t (two t had _ _ front puts c.args.sectors w first full next.1 _ second whole last.1) d.0 d.1 (here t had _ _ front puts c.args.sectors w first full next.1 _ second whole last.1 _ c.joined-header.ensures))

pub returns-in_err-whole_sector-clause-counts : goal.returns-in_err-whole_sector-clause-counts
returns-in_err-whole_sector-clause-counts g c = λ d.
    let is : c.from_residual.result ≡ Err c.in_err-whole_sector.field-0.0 = search rules in
    counts-err c.from_residual.result c.in_err-whole_sector.field-0.0 _ _ _ _ _ _ is (c.in_err-whole_sector.ensures.counts d).1 refl refl

pub returns-in_err-whole_sector-2-clause-counts : goal.returns-in_err-whole_sector-2-clause-counts
returns-in_err-whole_sector-2-clause-counts g c = λ d.
    let is : c.from_residual-in_err-whole_sector-2.result ≡ Err c.in_err-whole_sector-2.field-0.0 = search rules in
    counts-err c.from_residual-in_err-whole_sector-2.result c.in_err-whole_sector-2.field-0.0 _ _ _ _ _ _ is (c.in_err-whole_sector-2.ensures.counts d).1 (c.in_ok-whole_sector.ensures.counts d).0.0 refl

pub returns-in-Ok-clause-counts : goal.returns-in-Ok-clause-counts
returns-in-Ok-clause-counts g c = λ d. (((c.in_ok-whole_sector-2.ensures.counts d).0.0 ∙ (c.in_ok-whole_sector.ensures.counts d).0.0, refl), tt)

pub returns-in-Err-clause-counts : goal.returns-in-Err-clause-counts
returns-in-Err-clause-counts g c = λ d. (tt, ((c.in_ok-whole_sector-2.ensures.counts d).0.0 ∙ (c.in_ok-whole_sector.ensures.counts d).0.0, refl))
