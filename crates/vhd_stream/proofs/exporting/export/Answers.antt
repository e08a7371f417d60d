use Rattle.std.proofs.Common.{◌≡◌, ◌/◌, sym, ap, ap₂, ◌∙◌, subst, arith}
use Rattle.std.specs.List.{concat}
use Rattle.sm_base.specs.declared.sizes.Geometry.{Geometry}
use Rattle.sm_disk.proofs.StreamLaws.{Adds-none}
use Rattle.vg_meta.specs.Roomy.{table_alone}
use Rattle.vg_volumes.specs.Stored.{stored}
use Rattle.vhd_image.specs.Bodies.{sector_count}
use Rattle.sm_ready.specs.Known.{known}
use Rattle.sm_ready.specs.Stores.{store_content}
use Rattle.sm_ready.proofs.TruthLaws.{row_stands, row_true}
use Rattle.vhd_stream.specs.Exports.{ExportOf, exported}
use Rattle.vhd_stream.specs.Known.{blocks_read}
use Rattle.vhd_stream.proofs.ExportSteps.{export_of, few_blocks, no_row, sent_of}
use Rattle.vhd_stream.proofs.exporting.export.Goals as goal

pub unreachable-requires : goal.unreachable-requires
unreachable-requires g c =
    let s = g.S.Store.site c.args.store.now in
    let t = table_alone (g.S.Store.table c.args.store.now) in
    no_row s t (known c.args.memory.now) c.args.disk.now c.requires.session.orderly c.requires.known c.image_name-name.result c.image_name-name.ensures (sym c.in_default.ensures)

pub overflow_cast-count : goal.overflow_cast-count
overflow_cast-count g c =
    let s = g.S.Store.site c.args.store.now in
    let t = table_alone (g.S.Store.table c.args.store.now) in
    let few = few_blocks s t (known c.args.memory.now) c.args.disk.now c.requires.session.orderly c.in-Some.row.now c.image_name-name.result (sym c.in-Some.ensures) in
    let e : c.sectors.result / c.from.result ≡ sector_count c.in-Some.row.now.image / s.geometry.block =
    ap₂ (λ i j. i / j) c.sectors.ensures (c.from.ensures ∙ ap (λ (x : Geometry). x.block) c.geometry-block.ensures) in
    omega (arith, e, few)

pub send_file-requires-clause-stand : goal.send_file-requires-clause-stand
send_file-requires-clause-stand g c = λ r i. row_stands _ _ _ c.requires.session.orderly r i

pub send_file-requires-clause-true_now : goal.send_file-requires-clause-true_now
send_file-requires-clause-true_now g c = λ told r i. row_true g.S.Store c.args.store.now c.args.memory.now c.requires.session.orderly c.requires.session.true_images told r i

pub send_file-requires-clause-few : goal.send_file-requires-clause-few
send_file-requires-clause-few g c =
    let s = g.S.Store.site c.args.store.now in
    let t = table_alone (g.S.Store.table c.args.store.now) in
    let few = few_blocks s t (known c.args.memory.now) c.args.disk.now c.requires.session.orderly c.in-Some.row.now c.image_name-name.result (sym c.in-Some.ensures) in
    let e : c.sectors.result / c.from.result ≡ sector_count c.in-Some.row.now.image / s.geometry.block =
    ap₂ (λ i j. i / j) c.sectors.ensures (c.from.ensures ∙ ap (λ (x : Geometry). x.block) c.geometry-block.ensures) in
    omega (arith, e, few)

pub returns-in_default-page_of-clause-sent : goal.returns-in_default-page_of-clause-sent
returns-in_default-page_of-clause-sent g c = λ told ready.
    let s = g.S.Store.site c.args.store.now in
    let t = table_alone (g.S.Store.table c.args.store.now) in (
      _,
      export_of s t (known c.args.memory.now) c.args.disk.now c.requires.session.orderly (g.S.Store.area c.args.store.now) c.requires.session.tidy ready c.requires.known c.image_name-name.result c.in-Some.row.now
          c.image_name-name.ensures (sym c.in-Some.ensures) c.args.now,
      Adds-none _,
    )

pub returns-clause-sent : goal.returns-clause-sent
returns-clause-sent g c = λ told ready.
    let s = g.S.Store.site c.args.store.now in
    let t = table_alone (g.S.Store.table c.args.store.now) in
    let x = stored g.S.Store c.args.store.now in
    let rows = c.args.memory.now.tree.rows in
    let n = c.image_name-name.result in
    let e : c.sectors.result / c.from.result ≡ sector_count c.in-Some.row.now.image / s.geometry.block =
    ap₂ (λ i j. i / j) c.sectors.ensures (c.from.ensures ∙ ap (λ (y : Geometry). y.block) c.geometry-block.ensures) in
    let made = export_of s t (known c.args.memory.now) c.args.disk.now c.requires.session.orderly (g.S.Store.area c.args.store.now) c.requires.session.tidy ready c.requires.known n c.in-Some.row.now
    c.image_name-name.ensures (sym c.in-Some.ensures) c.args.now in (
      concat (exported (blocks_read x rows n (c.sectors.result / c.from.result)) c.args.disk.now c.args.now),
      subst (λ k. ExportOf (store_content g.S.Store c.args.store.now) c.args.disk.now c.args.now (concat (exported (blocks_read x rows n k) c.args.disk.now c.args.now))) (sym e) made,
      sent_of _ _ c.send_file.result c.send_file.ensures.sends told,
    )
