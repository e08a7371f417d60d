use Rattle.std.proofs.Common.{◌≡◌, List, ℕ, ap, ◌∙◌, subst}
use Rattle.std.specs.List.{flat_map, range_with_len}
use Rattle.sm_base.specs.Numbers.{div_up}
use Rattle.sm_disk.specs.Streams.{Adds, AddsFront}
use Rattle.sm_script.proofs.PieceLaws.{Writes-after, Writes-cut}
use Rattle.vhd_fields.specs.Headers.{header_bytes}
use Rattle.vhd_stream.specs.Exports.{export_header, table_sector}
use Rattle.vhd_stream.specs.Known.{blocks_known}
use Rattle.vhd_stream.proofs.exporting.send_front.Goals as goal

pub returns-in_err-write_all-2 : goal.returns-in_err-write_all-2
returns-in_err-write_all-2 g c =
    let header : List ℕ = header_bytes (export_header c.args.count c.args.block) in
    let table : List ℕ = flat_map (table_sector (blocks_known c.args.block c.args.tree.now.rows c.args.name.now c.args.count)) (range_with_len 0 (div_up c.args.count 128)) in
    let is : c.write.new.to ≡ header = c.write.ensures.bytes ∙ ap header_bytes c.header_of.ensures in
    let first = c.in_ok-write_all.ensures in
    let e = c.in_err-write_all-2.ensures in
    Writes-after c.args.footer.now
    (Writes-cut header table c.from_residual-in_err-write_all-2.ensures.0 (subst (λ l. AddsFront (g.K.Sink.content c.write_all.new.sink) l (g.K.Sink.content c.write_all-2.new.sink)) is e.front) e.counts e.cause.0)
    first.adds first.cause.1

pub returns : goal.returns
returns g c =
    let header : List ℕ = header_bytes (export_header c.args.count c.args.block) in
    let is : c.write.new.to ≡ header = c.write.ensures.bytes ∙ ap header_bytes c.header_of.ensures in
    let first = c.in_ok-write_all.ensures in
    let second = c.in_ok-write_all-2.ensures in
    Writes-after c.args.footer.now
    (Writes-after header c.send_table.ensures (subst (λ l. Adds (g.K.Sink.content c.write_all.new.sink) l (g.K.Sink.content c.write_all-2.new.sink)) is second.adds) second.cause.1)
    first.adds first.cause.1
