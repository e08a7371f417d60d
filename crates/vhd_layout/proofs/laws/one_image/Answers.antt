use Rattle.vhd_layout.proofs.ImageLaws.{code-one, one-head, one-map, head-kept}
use Rattle.vhd_layout.proofs.laws.one_image.Goals as goal

pub returns : goal.returns
returns c = record { entries = code-one; head = one-head; map = one-map; kept = head-kept }
