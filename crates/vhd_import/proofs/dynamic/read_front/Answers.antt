use Rattle.std.proofs.Common.{◌≡◌, ◌+◌, ◌++◌, Err, refl, ap, ◌∙◌, arith, rules}
use Rattle.sm_base.specs.Numbers.{div_up}
use Rattle.vhd_import.specs.Apart.{stand_apart}
use Rattle.vhd_import.specs.Beginnings.{layout_by}
use Rattle.vhd_import.proofs.FrontLaws.{counts-err, says-err}
use Rattle.vhd_import.proofs.HeaderLaws.{before-table, open-head, places-front, quiet-head}
use Rattle.vhd_import.proofs.dynamic.read_front.Goals as goal

pub returns-in_err-numbers-clause-says : goal.returns-in_err-numbers-clause-says
returns-in_err-numbers-clause-says g c = λ t had front puts w.
    let is : c.from_residual.result ≡ Err c.in_err-numbers.field-0.0 = search rules in
    says-err t had c.from_residual.result c.in_err-numbers.field-0.0 is (c.in_err-numbers.ensures.says t had front puts w)

pub returns-in_err-numbers-clause-counts : goal.returns-in_err-numbers-clause-counts
returns-in_err-numbers-clause-counts g c = λ d.
    let is : c.from_residual.result ≡ Err c.in_err-numbers.field-0.0 = search rules in
    counts-err c.from_residual.result c.in_err-numbers.field-0.0 _ _ _ _ _ _ is (c.in_err-numbers.ensures.counts d).1 refl refl

pub returns-in_err-skip-clause-says : goal.returns-in_err-skip-clause-says
returns-in_err-skip-clause-says g c = λ t had front puts w.
    let h = c.in_ok-numbers.ensures.read t had front puts w in
    let is : c.from_residual-in_err-skip.result ≡ Err c.in_err-skip.field-0.0 = search rules in
    says-err t had c.from_residual-in_err-skip.result c.in_err-skip.field-0.0 is
    (c.in_err-skip.ensures.says t had (front ++ h.more) puts h.read h.long (quiet-head t had _ front puts c.args.sectors c.in_ok-numbers.numbers h) (open-head t had _ front puts c.args.sectors c.in_ok-numbers.numbers h))

pub returns-in_err-skip-clause-counts : goal.returns-in_err-skip-clause-counts
returns-in_err-skip-clause-counts g c = λ d.
    let is : c.from_residual-in_err-skip.result ≡ Err c.in_err-skip.field-0.0 = search rules in
    counts-err c.from_residual-in_err-skip.result c.in_err-skip.field-0.0 _ _ _ _ _ _ is (c.in_err-skip.ensures.counts d).1 (c.in_ok-numbers.ensures.counts d).0.0 refl

pub returns-in_err-entries-clause-says : goal.returns-in_err-entries-clause-says
returns-in_err-entries-clause-says g c = λ t had front puts w.
    let h = c.in_ok-numbers.ensures.read t had front puts w in
    let s = c.in_ok-skip.ensures.read t had (front ++ h.more) puts h.read h.long (quiet-head t had _ front puts c.args.sectors c.in_ok-numbers.numbers h) in
    let is : c.from_residual-in_err-entries.result ≡ Err c.in_err-entries.field-0.0 = search rules in
    says-err t had c.from_residual-in_err-entries.result c.in_err-entries.field-0.0 is
    (c.in_err-entries.ensures.says t had ((front ++ h.more) ++ s.0) puts c.args.sectors (before-table t had _ front puts c.args.sectors c.in_ok-numbers.numbers h _ s.0 s.1 s.2))

pub returns-in_err-entries-clause-counts : goal.returns-in_err-entries-clause-counts
returns-in_err-entries-clause-counts g c = λ d.
    let is : c.from_residual-in_err-entries.result ≡ Err c.in_err-entries.field-0.0 = search rules in
    counts-err c.from_residual-in_err-entries.result c.in_err-entries.field-0.0 _ _ _ _ _ _ is (c.in_err-entries.ensures.counts d).1 ((c.in_ok-skip.ensures.counts d).0.0 ∙ (c.in_ok-numbers.ensures.counts d).0.0) refl

pub returns-clause-read : goal.returns-clause-read
unfolding div_up
returns-clause-read g c = λ t had front puts w.
    let h = c.in_ok-numbers.ensures.read t had front puts w in
    let s = c.in_ok-skip.ensures.read t had (front ++ h.more) puts h.read h.long (quiet-head t had _ front puts c.args.sectors c.in_ok-numbers.numbers h) in
    let p = c.in_ok-entries.ensures.read t had ((front ++ h.more) ++ s.0) puts c.args.sectors (before-table t had _ front puts c.args.sectors c.in_ok-numbers.numbers h _ s.0 s.1 s.2) in
    record {
      layout = layout_by c.in_ok-numbers.numbers;
      places = places-front t had _ front puts c.args.sectors c.in_ok-numbers.numbers h _ s.0 s.1 s.2 _ _ p;
      block = refl;
      end = omega (arith, c.from.ensures, c.div_ceil.ensures);
    }

pub returns-clause-apart : goal.returns-clause-apart
unfolding div_up
returns-clause-apart g c =
    let n = c.in_ok-numbers.numbers in
    let end : n.table + c.from.result ≡ n.table + div_up n.entries 128 = omega (arith, c.from.ensures, c.div_ceil.ensures) in
    ap (λ k. stand_apart k (1 + n.block) c.in_ok-entries.entries.items) end ∙ c.in_ok-entries.ensures.apart

pub returns-clause-within : goal.returns-clause-within
unfolding div_up
returns-clause-within g c = omega (arith, c.in_ok-entries.ensures.within, c.from.ensures, c.div_ceil.ensures)

pub returns-clause-counts : goal.returns-clause-counts
returns-clause-counts g c = λ d. (((c.in_ok-entries.ensures.counts d).0.0 ∙ (c.in_ok-skip.ensures.counts d).0.0 ∙ (c.in_ok-numbers.ensures.counts d).0.0, refl), tt)
