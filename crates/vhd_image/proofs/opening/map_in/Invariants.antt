use Rattle.std.proofs.Common.{◌≡◌, ℕ, ◌*◌, ◌≤◌, None, length}
use Rattle.sm_disk.specs.Held.{reads}
use Rattle.vhd_map.specs.Slots.{slot_of, IsMap}
use Rattle.vg_volumes.specs.Stored.{stored, held_in, OnlyReads}
use Rattle.vhd_volumes.specs.Truth.{layout_in}
use Rattle.vhd_image.specs.Opened.{FitsIn, IsTableTo}
use Rattle.vhd_image.proofs.opening.map_in.Given as goal

-- the map has the entries of the sectors so far, and none behind them
abbrev pub invariant-loop-index : goal.invariant-loop-index
invariant-loop-index g l = record {
  calm : g.S.Store.faults l.store ≡ g.S.Store.faults l.fn.store;
  only : OnlyReads g.S.Store l.fn.store l.store;
  good : IsMap l.map;
  long : length l.map ≡ l.geometry.entries;
  fits : FitsIn (layout_in l.geometry l.head.footer l.sectors) l.map;
  rest : (b : ℕ) → 128 * l.index ≤ b → slot_of l.map b ≡ None;
  so_far : g.S.Store.told
      → IsTableTo (128 * l.index) (layout_in l.geometry l.head.footer l.sectors) (reads (held_in (stored g.S.Store l.fn.store) l.head.volume)) l.map;
}
