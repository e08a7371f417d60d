use Rattle.std.proofs.Common.{sym, ◌∙◌}
use Rattle.vg_meta.proofs.TextLaws.{spells_once}
use Rattle.vg_meta.proofs.laws.law_one_spelling.Goals as goal

pub returns-clause-bytes : goal.returns-clause-bytes
returns-clause-bytes c = λ g count a b t s r. s.spelled ∙ sym r.spelled

pub returns-clause-table : goal.returns-clause-table
returns-clause-table c = spells_once
