use Rattle.std.proofs.Common.{◌≡◌, ◌+◌, true, false, Err, refl, sym, ap, ◌∙◌, arith, rules, subst}
use Rattle.std.proofs.lemmas.Bool.{not-false, not-true}
use Rattle.sm_base.specs.Numbers.{div_up}
use Rattle.vhd_stream.specs.Files.{FileLayout, table_end}
use Rattle.vhd_import.specs.Apart.{stand_apart}
use Rattle.vhd_import.specs.Beginnings.{layout_by}
use Rattle.vhd_import.specs.Dynamics.{HasPlaces}
use Rattle.vhd_import.specs.Tables.{is_table_wrong}
use Rattle.vhd_import.proofs.FrontLaws.{counts-err, says-err}
use Rattle.vhd_import.proofs.PlaceLaws.{all, all-long, has-places, kept-part, part, table-stopped, wrong-says}
use Rattle.vhd_import.proofs.dynamic.read_places.Goals as goal

pub returns-in_err-kept-clause-says : goal.returns-in_err-kept-clause-says
returns-in_err-kept-clause-says g c = λ t had front puts size w.
    let is : c.from_residual.result ≡ Err c.in_err-kept.field-0.0 = search rules in
    says-err t had c.from_residual.result c.in_err-kept.field-0.0 is (c.in_err-kept.ensures.says t had)

pub returns-in_err-kept-clause-counts : goal.returns-in_err-kept-clause-counts
returns-in_err-kept-clause-counts g c = λ d.
    let is : c.from_residual.result ≡ Err c.in_err-kept.field-0.0 = search rules in
    counts-err c.from_residual.result c.in_err-kept.field-0.0 _ _ _ _ _ _ is (c.in_err-kept.ensures.counts d).1 refl refl

pub returns-then-not-sort_entries-clause-says : goal.returns-then-not-sort_entries-clause-says
unfolding div_up
returns-then-not-sort_entries-clause-says g c = λ t had front puts size w.
    let f : FileLayout = layout_by c.args.numbers in
    let p = c.in_ok-kept.ensures.read in
    let end : table_end f ≡ c.args.numbers.table + c.from.result = omega (arith, c.from.ensures, c.div_ceil.ensures) in
    let right = c.sort_entries.ensures.right (part t had _ _ front puts f size w c.in_ok-kept.field-0 p) (all t had _ _ front puts f size w c.in_ok-kept.field-0 p) end refl
    (kept-part t had _ _ front puts f size w c.in_ok-kept.field-0 p) in
    wrong-says t had _ _ front puts f size w c.in_ok-kept.field-0 p (not-false _ (sym right ∙ c.if-not-sort_entries.true))

pub returns-then-not-sort_entries-clause-counts : goal.returns-then-not-sort_entries-clause-counts
returns-then-not-sort_entries-clause-counts g c = λ d. (tt, (c.in_ok-kept.ensures.counts d).0)

pub whole_table-requires-clause-order : goal.whole_table-requires-clause-order
unfolding div_up
whole_table-requires-clause-order g c = omega (arith, c.from-2.ensures, c.in_ok-kept.sectors-is, c.in_ok-kept.ensures.read.few, c.from.ensures, c.div_ceil.ensures)

pub returns-in_err-whole_table-clause-says : goal.returns-in_err-whole_table-clause-says
unfolding div_up
returns-in_err-whole_table-clause-says g c = λ t had front puts size w.
    let f : FileLayout = layout_by c.args.numbers in
    let p = c.in_ok-kept.ensures.read in
    let r = c.in_ok-kept.field-0 in
    let end : table_end f ≡ c.args.numbers.table + c.from.result = omega (arith, c.from.ensures, c.div_ceil.ensures) in
    let count : f.table + r.sectors ≡ c.args.numbers.table + c.from-2.result = omega (arith, c.from-2.ensures, c.in_ok-kept.sectors-is) in
    let right = c.sort_entries.ensures.right (part t had _ _ front puts f size w r p) (all t had _ _ front puts f size w r p) end refl (kept-part t had _ _ front puts f size w r p) in
    let good : is_table_wrong (part t had _ _ front puts f size w r p) (all t had _ _ front puts f size w r p) ≡ false = not-true _ (sym right ∙ c.if-not-sort_entries.false) in
    let is : c.from_residual-in_err-whole_table.result ≡ Err c.in_err-whole_table.field-0.0 = search rules in
    says-err t had c.from_residual-in_err-whole_table.result c.in_err-whole_table.field-0.0 is
    (c.in_err-whole_table.ensures.says t had (all t had _ _ front puts f size w r p) puts (all-long t had _ _ front puts f size w r p ∙ count) (λ short. table-stopped t had _ _ front puts f size w r p good (omega (arith, short, count, end))))

pub returns-in_err-whole_table-clause-counts : goal.returns-in_err-whole_table-clause-counts
returns-in_err-whole_table-clause-counts g c = λ d.
    let is : c.from_residual-in_err-whole_table.result ≡ Err c.in_err-whole_table.field-0.0 = search rules in
    counts-err c.from_residual-in_err-whole_table.result c.in_err-whole_table.field-0.0 _ _ _ _ _ _ is (c.in_err-whole_table.ensures.counts d).1 (c.in_ok-kept.ensures.counts d).0.0 refl

pub returns-clause-read : goal.returns-clause-read
unfolding div_up
returns-clause-read g c = λ t had front puts size w.
    let f : FileLayout = layout_by c.args.numbers in
    let p = c.in_ok-kept.ensures.read in
    let r = c.in_ok-kept.field-0 in
    let end : table_end f ≡ c.args.numbers.table + c.from.result = omega (arith, c.from.ensures, c.div_ceil.ensures) in
    let right = c.sort_entries.ensures.right (part t had _ _ front puts f size w r p) (all t had _ _ front puts f size w r p) end refl (kept-part t had _ _ front puts f size w r p) in
    let good : is_table_wrong (part t had _ _ front puts f size w r p) (all t had _ _ front puts f size w r p) ≡ false = not-true _ (sym right ∙ c.if-not-sort_entries.false) in
    let whole : f.table + r.sectors ≡ table_end f = omega (arith, c.in_ok-whole_table.ensures.whole, end, c.from-2.ensures, c.in_ok-kept.sectors-is) in
    let stands : stand_apart (table_end f) (1 + f.block) c.sort_entries.new.entries.items ≡ true =
    ap (λ n. stand_apart n (1 + f.block) c.sort_entries.new.entries.items) end ∙ sym c.sort_entries.ensures.stands ∙ c.if-not-sort_entries.false in
    subst (λ o. HasPlaces t had o front puts f size c.sort_entries.new.entries.items) (sym c.in_ok-whole_table.ensures.still) (has-places t had _ _ front puts f size w r p good whole c.sort_entries.new.entries.items c.sort_entries.ensures.same stands)

pub returns-clause-apart : goal.returns-clause-apart
unfolding div_up
returns-clause-apart g c =
    let end : c.args.numbers.table + div_up c.args.numbers.entries 128 ≡ c.args.numbers.table + c.from.result = omega (arith, c.from.ensures, c.div_ceil.ensures) in
    ap (λ n. stand_apart n (1 + c.args.numbers.block) c.sort_entries.new.entries.items) end ∙ sym c.sort_entries.ensures.stands ∙ c.if-not-sort_entries.false

pub returns-clause-within : goal.returns-clause-within
unfolding div_up
returns-clause-within g c = omega (arith, c.in_ok-whole_table.ensures.whole, c.from-2.ensures, c.in_ok-kept.sectors-is, c.in_ok-kept.ensures.read.within, c.from.ensures, c.div_ceil.ensures)

pub returns-clause-counts : goal.returns-clause-counts
returns-clause-counts g c = λ d. (((c.in_ok-whole_table.ensures.counts d).0.0 ∙ (c.in_ok-kept.ensures.counts d).0.0, refl), tt)
