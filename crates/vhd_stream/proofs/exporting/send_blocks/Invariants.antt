use Rattle.std.proofs.Common.{◌≡◌, Ok, take}
use Rattle.std.specs.List.{concat, flat_map, range_with_len}
use Rattle.vg_volumes.specs.Stored.{OnlyReads, stored}
use Rattle.vhd_stream.specs.Exports.{piece}
use Rattle.vhd_stream.specs.Known.{blocks_read}
use Rattle.vhd_stream.specs.Sending.{Sends, send_sides}
use Rattle.vhd_stream.proofs.exporting.send_blocks.Given as goal

abbrev pub invariant-loop-b : goal.invariant-loop-b
invariant-loop-b g l =
    OnlyReads g.S.Store l.initial.store l.store × (take 512 l.page ≡ take 512 l.initial.page)
    × Sends g.S.Store.told (flat_map (λ b. concat (piece (blocks_read (stored g.S.Store l.initial.store) l.tree.rows l.name l.count) b)) (range_with_len 0 l.b))
    (send_sides g.K.Sink.content g.K.Sink.faults g.S.Store.faults l.initial.sink l.sink l.initial.store l.store) (Ok tt)
