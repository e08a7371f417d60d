use Rattle.std.proofs.Common.{◌≡◌, None, Some, Err, sym, ap, ◌∙◌, subst₂, rules}
use Rattle.sm_disk.specs.Held.{reads}
use Rattle.vg_meta.specs.Roomy.{table_alone}
use Rattle.vg_volumes.proofs.StoredLaws.{reads_then}
use Rattle.sm_standing.specs.Outlines.{outline}
use Rattle.sm_ready.specs.Stores.{content_now}
use Rattle.sm_checks.specs.Openable.{IsOpenable, IsCheckStopped}
use Rattle.sm_checks.proofs.OpeningLaws.{agrees_before, damaged_before, records_fit, has_table, all_pass, all_say, stopped_by, if_err}
use Rattle.sm_checks.proofs.EntryLaws.{staged_open}
use Rattle.sm_recover.proofs.SeenLaws.{links_now}
use Rattle.sm_recover.proofs.opening.checked.Goals as goal

pub load-requires : goal.load-requires
load-requires g c =
    let stays = c.checked_images.ensures.reads.stays in
    records_fit (subst₂ IsOpenable (sym stays.site) (sym stays.table) c.in_ok-tree.ensures.checked)

pub returns-in_err-mgt-clause-reads : goal.returns-in_err-mgt-clause-reads
returns-in_err-mgt-clause-reads g c = reads_then c.checked_images.ensures.reads c.load.ensures.reads

pub returns-in_err-mgt-clause-cause : goal.returns-in_err-mgt-clause-cause
returns-in_err-mgt-clause-cause g c =
    let s = g.S.Store.site c.args.store.now in
    let t = table_alone (g.S.Store.table c.args.store.now) in
    let area = g.S.Store.area c.args.store.now in
    let x = outline (content_now s t area) in
    let k = c.in_ok-tree.ensures in
    let is : c.from_residual-in_err-mgt.result ≡ Err c.in_err-mgt.field-0.0 = search rules in
    if_err (IsCheckStopped g.S.Store.told (content_now s t area) (g.S.Store.faults c.args.store.now) (g.S.Store.faults c.load.new.store))
    c.from_residual-in_err-mgt.result c.in_err-mgt.field-0.0 is
    (stopped_by g.S.Store.told area _ _ _ c.in_err-mgt.field-0.0 k.checked k.tables
    (λ told. k.passed x (has_table s t (reads area)) (links_now g.S.Store c.args.store.now (staged_open k.checked) c.in_ok-tree.tree.rows k.each k.rows told))
    k.reads.stays.faults (λ told. damaged_before k.reads told) c.in_err-mgt.ensures.cause)

pub returns-in-Some-clause-reads : goal.returns-in-Some-clause-reads
returns-in-Some-clause-reads g c = reads_then c.checked_images.ensures.reads c.load.ensures.reads

pub returns-in-Some-clause-cause : goal.returns-in-Some-clause-cause
returns-in-Some-clause-cause g c = λ told.
    let s = g.S.Store.site c.args.store.now in
    let t = table_alone (g.S.Store.table c.args.store.now) in
    let area = g.S.Store.area c.args.store.now in
    let x = outline (content_now s t area) in
    let k = c.in_ok-tree.ensures in
    all_say area c.in_ok-mgt.mgt (Some c.in-Some.place) k.checked
    (ap table_alone c.table.ensures.table ∙ c.load.ensures.reads.stays.table ∙ k.reads.stays.table) (agrees_before k.reads told c.in_ok-mgt.mgt (c.in_ok-mgt.ensures.ok told)) k.tables c.in-Some.ensures
    (k.passed x (has_table s t (reads area)) (links_now g.S.Store c.args.store.now (staged_open k.checked) c.in_ok-tree.tree.rows k.each k.rows told))

pub returns-clause-reads : goal.returns-clause-reads
returns-clause-reads g c = reads_then c.checked_images.ensures.reads c.load.ensures.reads

pub returns-clause-sound : goal.returns-clause-sound
returns-clause-sound g c = λ told.
    let s = g.S.Store.site c.args.store.now in
    let t = table_alone (g.S.Store.table c.args.store.now) in
    let area = g.S.Store.area c.args.store.now in
    let x = outline (content_now s t area) in
    let k = c.in_ok-tree.ensures in
    all_say area c.in_ok-mgt.mgt None k.checked
    (ap table_alone c.table.ensures.table ∙ c.load.ensures.reads.stays.table ∙ k.reads.stays.table) (agrees_before k.reads told c.in_ok-mgt.mgt (c.in_ok-mgt.ensures.ok told)) k.tables c.in_default.ensures
    (k.passed x (has_table s t (reads area)) (links_now g.S.Store c.args.store.now (staged_open k.checked) c.in_ok-tree.tree.rows k.each k.rows told))

pub returns-clause-agrees : goal.returns-clause-agrees
returns-clause-agrees g c = λ told. agrees_before c.in_ok-tree.ensures.reads told c.in_ok-mgt.mgt (c.in_ok-mgt.ensures.ok told)

pub returns-clause-passed : goal.returns-clause-passed
returns-clause-passed g c = λ x has links.
    let k = c.in_ok-tree.ensures in
    all_pass (g.S.Store.site c.args.store.now) c.in_ok-mgt.mgt None (ap table_alone c.table.ensures.table ∙ c.load.ensures.reads.stays.table ∙ k.reads.stays.table) k.tables c.in_default.ensures x has (k.passed x has links)
