use Rattle.sm_span.proofs.PartLaws.{parts_allow}
use Rattle.sm_span.proofs.laws.law_images.Goals as goal

pub returns : goal.returns
returns c = parts_allow
