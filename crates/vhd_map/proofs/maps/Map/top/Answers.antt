use Rattle.std.proofs.Common.{arith}
use Rattle.vhd_map.specs.Kept.{kept_map}
use Rattle.vhd_map.proofs.SlotLemmas.{top_of-le}
use Rattle.vhd_map.proofs.maps.Map.top.Goals as goal

pub returns-clause-within : goal.returns-clause-within
returns-clause-within c =
    rw (← c.self.view_is) (omega (arith, c.self.invariant.topped, top_of-le (kept_map c.self.inside.entries.items) c.self.invariant.good))
