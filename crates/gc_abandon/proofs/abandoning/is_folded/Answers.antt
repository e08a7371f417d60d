use Rattle.std.proofs.Common.{sym, ap, ◌∙◌}
use Rattle.std.specs.Str.{bytes_eq}
use Rattle.gc_abandon.proofs.EndingLaws.{folds_found, folds_none}
use Rattle.gc_abandon.proofs.abandoning.is_folded.Goals as goal

pub returns-in_default : goal.returns-in_default
returns-in_default c = λ o is. sym (folds_none o c.args.operation.now c.folded.result is c.folded.ensures c.args.disk.now c.in_default.is)

pub uuid_of-requires : goal.uuid_of-requires
uuid_of-requires c = record { image = c.requires c.in-Some.leaf c.in-Some.field-0-1 (sym c.folded.ensures ∙ c.in-Some.is) }

pub returns : goal.returns
returns c = λ o is.
    c.eq.ensures ∙ ap (λ v. bytes_eq v c.args.disk.now) c.uuid_of.ensures
    ∙ sym (folds_found o c.args.operation.now c.folded.result is c.folded.ensures c.args.disk.now c.in-Some.leaf c.in-Some.field-0-1 c.in-Some.is)
