use Rattle.std.proofs.Common.{◌≡◌, ◌*◌, min, Ok}
use Rattle.std.specs.List.{flat_map, range_with_len}
use Rattle.sm_script.specs.Pieces.{Writes}
use Rattle.vhd_stream.specs.Exports.{place, table_sector}
use Rattle.vhd_stream.specs.Known.{blocks_known}
use Rattle.vhd_stream.proofs.tables.send_table.Given as goal

abbrev pub invariant-loop-index : goal.invariant-loop-index
invariant-loop-index g l =
    (l.place ≡ place (blocks_known l.block l.tree.rows l.name l.count) (min (128 * l.index) l.count))
    × Writes (flat_map (table_sector (blocks_known l.block l.tree.rows l.name l.count)) (range_with_len 0 l.index))
    (g.K.Sink.content l.initial.sink) (g.K.Sink.content l.sink) (g.K.Sink.faults l.initial.sink) (g.K.Sink.faults l.sink) (Ok tt)
