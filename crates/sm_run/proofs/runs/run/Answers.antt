use Rattle.std.proofs.Common.{◌∙◌, sym, arith, refl}
use Rattle.std.proofs.lemmas.Result.{err_from_is_err_and}
use Rattle.sm_disk.proofs.HeldLaws.{Keeps-none, Keeps-then}
use Rattle.sm_run.proofs.RunLaws.{empty-buffer, empty-front, ok-no_fault, run-cut_line, run-done, run-failed, run-last, run-past, so_far-begins, so_far-faces, so_far-more, some-line}
use Rattle.sm_run.proofs.runs.run.Goals as goal

pub lines-init : goal.lines-init
lines-init g c = record {
  run = λ told ready kept begins.
      so_far-begins _ (g.S.Source.content c.args.source.now) (g.K.Sink.content c.args.sink.now) _ (g.M.Steps.leaves c.args.machine.now) _ _ refl begins ready kept;
  ready = λ told ready. ready;
  telling = λ told ready telling. telling;
  going_on = λ h. h;
  site = refl;
  beside = λ told. Keeps-none (g.M.Steps.beside c.args.machine.now);
  calm = λ _. refl;
  counts = omega arith;
  source_calm = refl;
  sink_calm = refl;
}

pub returns-in-Err-clause-truthful : goal.returns-in-Err-clause-truthful
returns-in-Err-clause-truthful g c = λ told ready telling.
    g.met.M.Steps.tells_now c.lines.machine told (c.lines.invariant.ready told ready) (c.lines.invariant.telling told ready telling)

pub returns-in-Err-clause-run : goal.returns-in-Err-clause-run
returns-in-Err-clause-run g c = λ told ready kept begins.
    let r = c.in-Err.ensures.read in
    run-failed _ _ _ _ _ _ _ _ _ (g.M.Steps.leaves c.lines.machine) _ _ r.bytes (c.lines.invariant.run told ready kept begins) r.in_line r.ends.0 r.ends.1

pub returns-in-Ok-PastLimit-clause-truthful : goal.returns-in-Ok-PastLimit-clause-truthful
returns-in-Ok-PastLimit-clause-truthful g c = λ told ready telling.
    g.met.M.Steps.tells_now c.lines.machine told (c.lines.invariant.ready told ready) (c.lines.invariant.telling told ready telling)

pub returns-in-Ok-PastLimit-clause-run : goal.returns-in-Ok-PastLimit-clause-run
returns-in-Ok-PastLimit-clause-run g c = λ told ready kept begins.
    let r = rw c.in-Ok-PastLimit.field-0-is at c.in-Ok-PastLimit.ensures.read in
    run-past _ _ _ _ _ _ _ _ (g.M.Steps.leaves c.lines.machine) _ _ r.bytes r.ends.0 (c.lines.invariant.run told ready kept begins) r.in_line r.ends.1 r.ends.2

pub returns-then-is_empty-clause-truthful : goal.returns-then-is_empty-clause-truthful
returns-then-is_empty-clause-truthful g c = λ told ready telling.
    g.met.M.Steps.tells_now c.lines.machine told (c.lines.invariant.ready told ready) (c.lines.invariant.telling told ready telling)

pub returns-then-is_empty-clause-run : goal.returns-then-is_empty-clause-run
returns-then-is_empty-clause-run g c = λ told ready kept begins.
    let r = rw c.in-Ok-ScriptEnd.field-0-is at c.in-Ok-ScriptEnd.ensures.read in
    run-done _ _ _ _ _ _ _ _ _ (g.M.Steps.leaves c.lines.machine) _ _ r.bytes (c.lines.invariant.run told ready kept begins)
    (empty-front r.bytes (sym r.kept ∙ sym c.bytes.ensures ∙ empty-buffer c.bytes.result.now c.is_empty.result c.is_empty.ensures c.if-is_empty.true)) r.ends.0 r.ends.1 r.ends.2

pub returns-in-Ok-ScriptEnd-clause-truthful : goal.returns-in-Ok-ScriptEnd-clause-truthful
returns-in-Ok-ScriptEnd-clause-truthful g c = λ told ready telling.
    (c.answer.ensures.truthful told (c.lines.invariant.ready told ready) (c.lines.invariant.telling told ready telling)).0

pub returns-in-Ok-ScriptEnd-clause-run : goal.returns-in-Ok-ScriptEnd-clause-run
returns-in-Ok-ScriptEnd-clause-run g c = λ told ready kept begins.
    let r = rw c.in-Ok-ScriptEnd.field-0-is at c.in-Ok-ScriptEnd.ensures.read in
    let so = c.lines.invariant.run told ready kept begins in
    run-last _ _ _ c.answer.result _ _ _ _ _ _ _ _ (g.M.Steps.leaves c.lines.machine) (g.M.Steps.leaves c.answer.new.machine) _ _ _ _ r.bytes so r.in_line (some-line r.bytes c.bytes.result.now c.is_empty.result (c.bytes.ensures ∙ r.kept) c.is_empty.ensures c.if-is_empty.false) r.ends.0 r.ends.1 r.ends.2
    (c.answer.ensures.answered told so.ready so.kept (so_far-faces _ _ _ _ _ _ _ (g.M.Steps.leaves c.lines.machine) _ _ so) r.bytes r.kept)

pub returns-in-Ok-ScriptEnd-clause-beside : goal.returns-in-Ok-ScriptEnd-clause-beside
returns-in-Ok-ScriptEnd-clause-beside g c = λ told. Keeps-then (c.lines.invariant.beside told) (c.answer.ensures.beside told)

pub returns-in_err-answer-in-Ok-Newline-clause-beside : goal.returns-in_err-answer-in-Ok-Newline-clause-beside
returns-in_err-answer-in-Ok-Newline-clause-beside g c = λ told.
    Keeps-then (c.lines.invariant.beside told) (c.answer-in-Ok-Newline.ensures.beside told)

pub lines-preserved : goal.lines-preserved
lines-preserved g c = record {
  run = λ told ready kept begins.
      let r = rw c.in-Ok-Newline.field-0-is at c.in-Ok-Newline.ensures.read in
      let so = c.lines.invariant.run told ready kept begins in
      so_far-more _ _ _ _ _ _ _ _ _ _ _ (g.M.Steps.leaves c.lines.machine) (g.M.Steps.leaves c.answer-in-Ok-Newline.new.machine) _ _ _ _ r.bytes so r.in_line r.ends.0 r.ends.1
      (c.in_ok-answer-in-Ok-Newline.ensures.answered told so.ready so.kept (so_far-faces _ _ _ _ _ _ _ (g.M.Steps.leaves c.lines.machine) _ _ so) r.bytes r.kept);
  ready = λ told ready. c.in_ok-answer-in-Ok-Newline.ensures.ready told (c.lines.invariant.ready told ready);
  telling = λ told ready telling. (c.in_ok-answer-in-Ok-Newline.ensures.truthful told (c.lines.invariant.ready told ready) (c.lines.invariant.telling told ready telling)).1;
  going_on = λ h. c.answer-in-Ok-Newline.ensures.going_on (c.lines.invariant.going_on h) (ok-no_fault _ _ _ c.in_ok-answer-in-Ok-Newline.was);
  site = c.answer-in-Ok-Newline.ensures.site ∙ c.lines.invariant.site;
  beside = λ told. Keeps-then (c.lines.invariant.beside told) (c.answer-in-Ok-Newline.ensures.beside told);
  calm = λ h. c.answer-in-Ok-Newline.ensures.calm (c.lines.invariant.going_on h) (ok-no_fault _ _ _ c.in_ok-answer-in-Ok-Newline.was) ∙ c.lines.invariant.calm h;
  counts = omega (arith, c.lines.invariant.counts, c.answer-in-Ok-Newline.ensures.counts);
  source_calm = c.in-Ok-Newline.ensures.cause.1 ∙ c.lines.invariant.source_calm;
  sink_calm = c.answer-in-Ok-Newline.ensures.sink_calm (ok-no_fault _ _ _ c.in_ok-answer-in-Ok-Newline.was) ∙ c.lines.invariant.sink_calm;
}

pub returns-in_err-answer-in-Ok-Newline-clause-truthful : goal.returns-in_err-answer-in-Ok-Newline-clause-truthful
returns-in_err-answer-in-Ok-Newline-clause-truthful g c = λ told ready telling.
    (c.answer-in-Ok-Newline.ensures.truthful told (c.lines.invariant.ready told ready) (c.lines.invariant.telling told ready telling)).0

pub returns-in_err-answer-in-Ok-Newline-clause-run : goal.returns-in_err-answer-in-Ok-Newline-clause-run
returns-in_err-answer-in-Ok-Newline-clause-run g c = λ told ready kept begins.
    let r = rw c.in-Ok-Newline.field-0-is at c.in-Ok-Newline.ensures.read in
    let so = c.lines.invariant.run told ready kept begins in
    let a = c.in_err-answer-in-Ok-Newline.ensures.answered told so.ready so.kept (so_far-faces _ _ _ _ _ _ _ (g.M.Steps.leaves c.lines.machine) _ _ so) r.bytes r.kept in
    let p = err_from_is_err_and c.from_residual.result c.from_residual.ensures.1 in
    rw (p.1, p.2) (run-cut_line _ _ _ c.in_err-answer-in-Ok-Newline.field-0.0 _ _ _ _ _ _ _ _ (g.M.Steps.leaves c.lines.machine) (g.M.Steps.leaves c.answer-in-Ok-Newline.new.machine)
    _ _ _ _ r.bytes so r.in_line r.ends.0 r.ends.1 a)
