use Rattle.std.proofs.Common.{sym, subst, ◌∙◌}
use Rattle.vg_meta.specs.Roomy.{table_alone}
use Rattle.sm_ready.specs.Known.{known}
use Rattle.sm_ready.specs.Stores.{store_content}
use Rattle.lvhd_command.specs.Exporting.{ContentSent}
use Rattle.lvhd_command.proofs.ExportLaws.{content_refused, content_sent, file_known, lacks_unknown}
use Rattle.lvhd_command.proofs.exporting.send_or_refuse.Goals as goal

pub returns-then-is_disk-clause-sent : goal.returns-then-is_disk-clause-sent
returns-then-is_disk-clause-sent g c = λ told ready.
    let s = g.S.Store.site c.args.store.now in
    let t = table_alone (g.S.Store.table c.args.store.now) in
    let m = known c.args.memory.now in
    let sent = c.export.ensures.sent told ready in
    let is = sym (c.is_disk.ensures s t c.requires.session.orderly c.requires.session.tidy) ∙ c.if-is_disk.true in
    subst (ContentSent (store_content g.S.Store c.args.store.now) c.args.uuid.now c.args.now (g.K.Sink.content c.args.sink.now) (g.K.Sink.content c.export.new.sink)) (sym c.status_of_export.ensures)
    (content_sent _ c.args.uuid.now c.args.now sent.0 _ _ c.export.result (file_known s t (g.S.Store.area c.args.store.now) m c.args.uuid.now c.requires.session.orderly ready is c.args.now sent.0 sent.1) sent.2)

pub returns-else-is_disk-clause-sent : goal.returns-else-is_disk-clause-sent
returns-else-is_disk-clause-sent g c = λ told ready.
    let s = g.S.Store.site c.args.store.now in
    let t = table_alone (g.S.Store.table c.args.store.now) in
    let m = known c.args.memory.now in
    let is = sym (c.is_disk.ensures s t c.requires.session.orderly c.requires.session.tidy) ∙ c.if-is_disk.false in
    content_refused _ c.args.uuid.now c.args.now _ _ _ _ c.print_unknown.result c.said.result (lacks_unknown s t (g.S.Store.area c.args.store.now) m c.args.uuid.now c.requires.session.orderly ready is)
    c.print_unknown.ensures c.said.ensures
