use Rattle.std.proofs.Common.{◌<◌, length, List, Bool, sym, subst}
use Rattle.sm_operation.proofs.CountLaws.{small_room}
use Rattle.sm_operation.proofs.operations.Operation.least_dirty.Goals as goal

pub least_set-requires : goal.least_set-requires
least_set-requires c = record { few = subst (λ (xs : List Bool). length xs < 4294967296) (sym c.deref.ensures.value) (small_room c.self.inside.op _ c.self.inside.dirty.items c.self.invariant) }
