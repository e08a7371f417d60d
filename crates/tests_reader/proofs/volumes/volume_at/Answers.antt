use Rattle.std.proofs.Common.{rules, sym, ◌∙◌, arith, ◌≢◌, ◌++◌, ℕ, List}
use Rattle.vg_meta.specs.Segments.{AreFew}
use Rattle.vg_meta.specs.Text.{extents_by}
use Rattle.vg_meta.proofs.ReadLaws.{Fronts, front_same, no_name_by, no_marks_by, no_kind_by, volume_read_by}
use Rattle.tests_reader.proofs.volumes.volume_at.Goals as goal

pub returns-in_default-clause-none : goal.returns-in_default-clause-none
returns-in_default-clause-none c = λ r rest v few e. no_name_by c.args.grammar c.args.bytes.now c.in_default.ensures.none r rest v (omega (arith, few.few)) e

pub returns-in_default-flags_at-clause-none : goal.returns-in_default-flags_at-clause-none
returns-in_default-flags_at-clause-none c = λ r rest v few e.
    no_marks_by c.args.grammar c.args.bytes.now c.in-Some.name c.in-Some.behind.now c.in-Some.ensures.proper c.in-Some.ensures.name c.in_default-flags_at.ensures.none
    r rest v (omega (arith, few.few)) e

pub returns-in_default-2-clause-none : goal.returns-in_default-2-clause-none
returns-in_default-2-clause-none c = λ r rest v few e.
    let f : Fronts c.args.bytes.now c.in-Some.name c.in-Some-flags_at.hidden c.in-Some-flags_at.fresh c.in-Some-flags_at.behind.now =
    record { proper = c.in-Some.ensures.proper; behind = c.in-Some.behind.now; named = c.in-Some.ensures.name; marked = c.in-Some-flags_at.ensures.flags } in
    let none : (es rest : List ℕ) → AreFew c.args.count c.args.count es → c.in-Some-flags_at.behind.now ≢ extents_by c.args.grammar es ++ rest = search rules in
    none r.extents rest few
    (front_same c.args.grammar c.args.bytes.now c.in-Some.name c.in-Some-flags_at.hidden c.in-Some-flags_at.fresh c.in-Some-flags_at.behind.now f r rest v.name e).3

pub returns-then-suits-clause-text : goal.returns-then-suits-clause-text
returns-then-suits-clause-text c =
    let f : Fronts c.args.bytes.now c.in-Some.name c.in-Some-flags_at.hidden c.in-Some-flags_at.fresh c.in-Some-flags_at.behind.now =
    record { proper = c.in-Some.ensures.proper; behind = c.in-Some.behind.now; named = c.in-Some.ensures.name; marked = c.in-Some-flags_at.ensures.flags } in
    volume_read_by c.args.grammar c.args.bytes.now c.in-Some.name c.in-Some-flags_at.hidden c.in-Some-flags_at.fresh c.in-Some-flags_at.behind.now c.in-Some-2.extents.items c.in-Some-2.behind.now f (search rules)

pub returns-clause-none : goal.returns-clause-none
returns-clause-none c = λ r rest v few e.
    let f : Fronts c.args.bytes.now c.in-Some.name c.in-Some-flags_at.hidden c.in-Some-flags_at.fresh c.in-Some-flags_at.behind.now =
    record { proper = c.in-Some.ensures.proper; behind = c.in-Some.behind.now; named = c.in-Some.ensures.name; marked = c.in-Some-flags_at.ensures.flags } in
    no_kind_by c.args.grammar c.args.bytes.now c.in-Some.name c.in-Some-flags_at.hidden c.in-Some-flags_at.fresh c.in-Some-flags_at.behind.now c.in-Some-2.extents.items c.in-Some-2.behind.now f
    (search rules) (search rules) (sym c.suits.ensures ∙ c.if-suits.false) r rest v (omega (arith, few.few)) e
