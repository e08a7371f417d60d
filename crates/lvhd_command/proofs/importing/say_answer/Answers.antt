use Rattle.std.proofs.Common.{ℕ, Result, Err, sym, ap, subst, ◌∙◌}
use Rattle.vhd_import.specs.declared.faults.ImportFault.{ImportFault}
use Rattle.lvhd_command.specs.Importing.{HasAnswered}
use Rattle.lvhd_command.specs.Texts.{line_of}
use Rattle.lvhd_command.proofs.ImportLaws.{answered_refusal}
use Rattle.lvhd_command.proofs.importing.say_answer.Goals as goal

pub returns-in-Err-Refused : goal.returns-in-Err-Refused
unfolding line_of
returns-in-Err-Refused g c =
    let refused = rw c.in-Err-Refused.is at c.in-Err-Refused.field-0-is in
    let is = c.in-Err-Refused.is ∙ ap (λ (f : ImportFault). Err f) refused in
    subst (λ (x : Result ℕ ImportFault). HasAnswered x (g.K.Sink.content c.args.sink.now) (g.K.Sink.content c.write_refusal_line.new.sink) (g.K.Sink.faults c.args.sink.now) (g.K.Sink.faults c.write_refusal_line.new.sink) c.said.result)
    (sym is) (answered_refusal c.in-Err-Refused.refusal _ _ _ _ c.write_refusal_line.result c.said.result c.write_refusal_line.ensures c.said.ensures)
