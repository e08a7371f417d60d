use Rattle.vg_meta.proofs.TextLaws.{length-against, length-most}
use Rattle.vg_meta.proofs.laws.law_length.Goals as goal

pub returns-clause-against : goal.returns-clause-against
returns-clause-against c = length-against

pub returns-clause-most : goal.returns-clause-most
returns-clause-most c = length-most
