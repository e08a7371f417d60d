use Rattle.vhd_map.proofs.SectorLemmas.{Filled}
use Rattle.vhd_map.proofs.maps.Map.read_sector.Given as goal

abbrev pub invariant-loop-j : goal.invariant-loop-j
invariant-loop-j l = Filled l.initial.self l.index l.found l.self l.j
