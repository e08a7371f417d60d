use Rattle.std.proofs.Common.{◌∙◌}
use Rattle.tests_reader.proofs.HeadLaws.{label_same}
use Rattle.tests_reader.proofs.heads.is_label_spelled.Goals as goal

pub returns : goal.returns
returns c = c.is_filled.ensures ∙ label_same c.args.label.now c.law_sector.ensures c.requires
