use Rattle.std.proofs.Common.{◌≡◌, ◌<◌, arith, ◌∙◌}
use Rattle.sm_disk.proofs.HeldLaws.{Keeps-then}
use Rattle.std.proofs.lemmas.Result.{err_from_is_err_and}
use Rattle.sm_trial.proofs.TrialLaws.{as_answered, comes-next, comes-end, ok_no_err, owes_nothing}
use Rattle.sm_trial.proofs.trials.try_lines.Goals as goal

pub returns-in_err-room-clause-beside : goal.returns-in_err-room-clause-beside
returns-in_err-room-clause-beside g c = λ told. Keeps-then (c.loop-left.invariant.beside told) (c.try_line.ensures.beside told)

pub loop-left-preserved : goal.loop-left-preserved
loop-left-preserved g c =
    let i = c.loop-left.invariant in
    let e = c.in_ok-room.ensures in
    let some : 0 < c.loop-left.left = omega arith in
    record {
      comes = λ told ready kept. comes-next _ _ _ _ c.loop-left.left _ _ _ _ _ some (e.goes told (i.ready told ready kept) (i.kept told ready kept)) (i.comes told ready kept);
      ready = λ told ready kept. (e.goes told (i.ready told ready kept) (i.kept told ready kept)).ready;
      kept = λ told ready kept. c.try_line.ensures.kept told (i.ready told ready kept) (i.kept told ready kept);
      telling = λ told ready kept telling. (e.truthful told (i.ready told ready kept) (i.kept told ready kept) (i.telling told ready kept telling)).1;
      within = e.within;
      going_on = λ h. c.try_line.ensures.going_on (i.going_on h) (ok_no_err _ _ c.in_ok-room.was);
      site = c.try_line.ensures.site ∙ i.site;
      beside = λ told. Keeps-then (i.beside told) (c.try_line.ensures.beside told);
      counts = omega (arith, i.counts, c.try_line.ensures.counts);
      calm = λ h. c.try_line.ensures.calm (i.going_on h) (ok_no_err _ _ c.in_ok-room.was) ∙ i.calm h;
    }

pub returns-clause-tried : goal.returns-clause-tried
returns-clause-tried g c = λ told ready kept.
    let i = c.loop-left.invariant in
    let none : c.loop-left.left ≡ 0 = omega arith in
    (comes-end _ _ _ c.loop-left.left _ _ none (i.comes told ready kept), i.ready told ready kept)

pub returns-in_err-room-clause-calm : goal.returns-in_err-room-clause-calm
returns-in_err-room-clause-calm g c = λ whole other.
    let from = err_from_is_err_and c.from_residual.result c.from_residual.ensures.1 in
    c.try_line.ensures.calm (c.loop-left.invariant.going_on whole) (as_answered _ _ _ c.in_err-room.was from.1 from.2 other) ∙ c.loop-left.invariant.calm whole

pub returns-in_err-room-clause-truthful : goal.returns-in_err-room-clause-truthful
returns-in_err-room-clause-truthful g c = λ told ready kept telling.
    let i = c.loop-left.invariant in
    let from = err_from_is_err_and c.from_residual.result c.from_residual.ensures.1 in
    ((c.try_line.ensures.truthful told (i.ready told ready kept) (i.kept told ready kept) (i.telling told ready kept telling)).0, owes_nothing _ _ from.1)

pub returns-clause-truthful : goal.returns-clause-truthful
returns-clause-truthful g c = λ told ready kept telling.
    let i = c.loop-left.invariant in
    let t = i.telling told ready kept telling in
    (g.met.M.Steps.tells_now c.loop-left.machine told (i.ready told ready kept) t, t)
