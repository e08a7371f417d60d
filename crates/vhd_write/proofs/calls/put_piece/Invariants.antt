use Rattle.std.proofs.Common.{◌≡◌, ◌-◌, ◌≤◌}
use Rattle.sm_disk.proofs.FrontLaws.{WroteFront}
use Rattle.vg_volumes.specs.Stored.{stored, held_in, WorksOn}
use Rattle.vhd_write.specs.Payloads.{piece_of}
use Rattle.vhd_write.proofs.calls.put_piece.Given as goal

-- the sectors in front are written
abbrev pub invariant-loop-done : goal.invariant-loop-done
invariant-loop-done g l = record {
  most : l.done ≤ l.count;
  calm : g.S.Store.faults l.store ≡ g.S.Store.faults l.fn.store;
  works : WorksOn g.S.Store l.volume l.fn.store l.store;
  wrote : g.S.Store.told
      → WroteFront l.at (piece_of l.skip l.count l.from) l.done
      (held_in (stored g.S.Store l.fn.store) l.volume)
      (held_in (stored g.S.Store l.store) l.volume);
}

abbrev pub decreases-loop-done : goal.decreases-loop-done
decreases-loop-done g l = l.count - l.done
