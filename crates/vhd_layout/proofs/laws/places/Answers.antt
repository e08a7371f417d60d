use Rattle.vhd_layout.proofs.ImageLaws.{place-first, place-within, place-same, place-part, place-small, table-first, layout-of, slots-fit, slots-need}
use Rattle.vhd_layout.proofs.laws.places.Goals as goal

pub returns : goal.returns
returns c = record { first = place-first; within = place-within; same = place-same; part = place-part; small = place-small; table = table-first; geometry = layout-of; fit = slots-fit; need = slots-need }
