use Rattle.std.proofs.Common.{◌^◌, List, subst, sym}
use Rattle.vg_meta.specs.Halves.{IsInOrder}
use Rattle.vg_meta.specs.Roomy.{RoomyRow}
use Rattle.vg_meta.proofs.Places.{row_name, in_order}
use Rattle.vg_meta.proofs.tables.Table.find_near.Goals as goal

pub place_near-requires : goal.place_near-requires
place_near-requires c = record {
  rising = subst (λ (l : List RoomyRow). IsInOrder row_name l) (sym c.deref.ensures.value)
      (in_order (2 ^ 32) (record { sequence = c.self.inside.seq; rows = c.self.inside.volumes.items; spare = 0 }) c.self.invariant);
}
