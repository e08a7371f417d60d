use Rattle.vhd_map.proofs.KeptLemmas.{AgreesWithEntries-blank, kept_map-replicate}
use Rattle.vhd_map.proofs.maps.Map.blank.Goals as goal

pub invariant_of-result : goal.invariant_of-result
invariant_of-result c =
    rw (c.in-Ok.ensures.items_if_clones_equal (λ y same. same), c.in-Ok-vec.ensures.items_if_clones_equal (λ y same. same)) (AgreesWithEntries-blank c.args.entries c.ranges.entries.fits)

pub returns : goal.returns
returns c = record { blank = rw (c.in-Ok.ensures.items_if_clones_equal (λ y same. same)) (kept_map-replicate c.args.entries) }
