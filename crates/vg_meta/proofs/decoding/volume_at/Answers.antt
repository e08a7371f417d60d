use Rattle.std.proofs.Common.{◌++◌, List, ℕ, sym, ap, ◌∙◌, arith}
use Rattle.vg_meta.specs.Tables.{Row, suits}
use Rattle.vg_meta.specs.Text.{volume_by}
use Rattle.vg_meta.proofs.ReadLaws.{Fronts, front_same, no_name_by, no_marks_by, no_kind_by, volume_read_by, unread_from}
use Rattle.vg_meta.proofs.decoding.volume_at.Goals as goal

pub returns-in_default-clause-damaged : goal.returns-in_default-clause-damaged
returns-in_default-clause-damaged c = λ r rest v few e.
    no_name_by c.args.grammar c.args.bytes.now c.in_default.ensures.none r rest v (omega (arith, few.few)) e

pub returns-in_default-marks_at-clause-damaged : goal.returns-in_default-marks_at-clause-damaged
returns-in_default-marks_at-clause-damaged c = λ r rest v few e.
    no_marks_by c.args.grammar c.args.bytes.now c.in-Some.name c.in-Some.behind.now c.in-Some.ensures.proper c.in-Some.ensures.name c.in_default-marks_at.ensures.none
    r rest v (omega (arith, few.few)) e

pub returns-in-Err-clause-damaged : goal.returns-in-Err-clause-damaged
returns-in-Err-clause-damaged c =
    let f : Fronts c.args.bytes.now c.in-Some.name c.in-Some-marks_at.hidden c.in-Some-marks_at.fresh c.in-Some-marks_at.rest.now =
    record { proper = c.in-Some.ensures.proper; behind = c.in-Some.behind.now; named = c.in-Some.ensures.name; marked = c.in-Some-marks_at.ensures.marks } in
    unread_from c.in-Err.unread _ _
    (λ none r rest v few e.
    none r.extents rest few (front_same c.args.grammar c.args.bytes.now c.in-Some.name c.in-Some-marks_at.hidden c.in-Some-marks_at.fresh c.in-Some-marks_at.rest.now f r rest v.name e).3)
    c.in-Err.ensures.damaged

pub returns-then-not-suits_kind-clause-damaged : goal.returns-then-not-suits_kind-clause-damaged
returns-then-not-suits_kind-clause-damaged c = λ r rest v few e.
    let f : Fronts c.args.bytes.now c.in-Some.name c.in-Some-marks_at.hidden c.in-Some-marks_at.fresh c.in-Some-marks_at.rest.now =
    record { proper = c.in-Some.ensures.proper; behind = c.in-Some.behind.now; named = c.in-Some.ensures.name; marked = c.in-Some-marks_at.ensures.marks } in
    no_kind_by c.args.grammar c.args.bytes.now c.in-Some.name c.in-Some-marks_at.hidden c.in-Some-marks_at.fresh c.in-Some-marks_at.rest.now c.in-Ok.read.0.items c.in-Ok.read.1.now
    f c.in-Ok.ensures.extents c.in-Ok.ensures.few
    (ap (λ (es : List ℕ). suits (record { name = c.in-Some.name; hidden = c.in-Some-marks_at.hidden; fresh = c.in-Some-marks_at.fresh; extents = es })) (sym c.deref.ensures.value)
    ∙ sym c.suits_kind.ensures ∙ c.if-not-suits_kind.true) r rest v (omega (arith, few.few)) e

pub returns-clause-text : goal.returns-clause-text
returns-clause-text c =
    let f : Fronts c.args.bytes.now c.in-Some.name c.in-Some-marks_at.hidden c.in-Some-marks_at.fresh c.in-Some-marks_at.rest.now =
    record { proper = c.in-Some.ensures.proper; behind = c.in-Some.behind.now; named = c.in-Some.ensures.name; marked = c.in-Some-marks_at.ensures.marks } in
    volume_read_by c.args.grammar c.args.bytes.now c.in-Some.name c.in-Some-marks_at.hidden c.in-Some-marks_at.fresh c.in-Some-marks_at.rest.now c.in-Ok.read.0.items c.in-Ok.read.1.now
    f c.in-Ok.ensures.extents ∙ ap (λ (r : Row). volume_by c.args.grammar r ++ c.in-Ok.read.1.now) (sym c.new.ensures)
