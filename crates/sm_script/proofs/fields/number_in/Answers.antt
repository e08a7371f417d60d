use Rattle.std.proofs.Common.{◌∙◌, sym}
use Rattle.sm_script.proofs.FieldLaws.{IsUtf8-number, number_none, number_read, text_is, text_is_some}
use Rattle.sm_script.proofs.fields.number_in.Goals as goal

pub returns-then-not-has_digits : goal.returns-then-not-has_digits
returns-then-not-has_digits c = number_none c.args.word.now (sym c.if-not-has_digits.ensures)

pub returns-in_err-ok : goal.returns-in_err-ok
returns-in_err-ok c =
    absurd (text_is_some c.from_utf8.result c.args.word.now _ (IsUtf8-number c.args.word.now (sym c.if-not-has_digits.ensures)) c.from_utf8.ensures.cases c.in_err-ok.ensures.value)

pub returns : goal.returns
returns c =
    let text = text_is c.from_utf8.result c.args.word.now _ c.in_ok-ok.field-0 c.from_utf8.ensures.cases c.in_ok-ok.ensures.value in
    c.ok-2.ensures.value ∙ number_read c.parse.result c.in_ok-ok.field-0.now c.args.word.now text (sym c.if-not-has_digits.ensures) c.parse.ensures.value.0
