use Rattle.std.proofs.Common.{◌≡◌, Err, refl, sym, ap, ◌∙◌, rules}
use Rattle.sm_disk.specs.Held.{reads}
use Rattle.vg_meta.specs.Roomy.{table_alone}
use Rattle.sm_standing.specs.Outlines.{outline}
use Rattle.sm_ready.specs.Stores.{content_now}
use Rattle.sm_checks.specs.Openable.{IsCheckStopped}
use Rattle.sm_checks.proofs.OpeningLaws.{has_table, if_err, not_read, whole_links, whole_table, whole_trees}
use Rattle.sm_checks.proofs.EntryLaws.{staged_open}
use Rattle.sm_recover.proofs.SeenLaws.{all_valid, children_counted, links_now, volumes_seen}
use Rattle.sm_recover.proofs.opening.checked_images.Goals as goal

pub returns-in-Some-clause-cause : goal.returns-in-Some-clause-cause
returns-in-Some-clause-cause g c = λ told.
    let s = g.S.Store.site c.args.store.now in
    let t = table_alone (g.S.Store.table c.args.store.now) in
    let x = outline (content_now s t (g.S.Store.area c.args.store.now)) in
    whole_table x c.in-Some.place (c.in-Some.ensures.says x (has_table s t (reads (g.S.Store.area c.args.store.now))))

pub returns-in_err-tree-clause-cause : goal.returns-in_err-tree-clause-cause
returns-in_err-tree-clause-cause g c =
    let area = g.S.Store.area c.args.store.now in
    let is : c.from_residual.result ≡ Err c.in_err-tree.field-0.0 = search rules in
    if_err (IsCheckStopped g.S.Store.told (content_now (g.S.Store.site c.args.store.now) (table_alone (g.S.Store.table c.args.store.now)) area) (g.S.Store.faults c.args.store.now) (g.S.Store.faults c.load.new.store))
    c.from_residual.result c.in_err-tree.field-0.0 is
    (not_read (g.S.Store.site c.args.store.now) (table_alone (g.S.Store.table c.args.store.now)) g.S.Store.told area _ _ c.in_err-tree.field-0.0 c.in_default.ensures.says c.in_err-tree.ensures.cause)

pub returns-in-Some-tree_fault-clause-cause : goal.returns-in-Some-tree_fault-clause-cause
returns-in-Some-tree_fault-clause-cause g c = λ told.
    let s = g.S.Store.site c.args.store.now in
    let t = table_alone (g.S.Store.table c.args.store.now) in
    let area = g.S.Store.area c.args.store.now in
    let x = outline (content_now s t area) in
    let has = has_table s t (reads area) in
    let k = c.in_ok-tree.ensures in
    let links = links_now g.S.Store c.args.store.now (staged_open c.in_default.ensures.checked) c.in_ok-tree.tree.rows k.each k.rows told in
    let same : t ≡ table_alone c.table.result.now = sym (ap table_alone c.table.ensures.table ∙ c.load.ensures.reads.stays.table) in
    whole_trees x c.in-Some-tree_fault.place (c.in_default.ensures.says x has) (all_valid g.S.Store c.args.store.now (staged_open c.in_default.ensures.checked) c.in_ok-tree.tree.rows k.each x has links)
    (sym (c.in-Some-tree_fault.ensures x same links (children_counted g.S.Store c.args.store.now (staged_open c.in_default.ensures.checked) c.in_ok-tree.tree.rows k.each k.rows x refl links)))

pub returns-in-Some-link_fault-clause-cause : goal.returns-in-Some-link_fault-clause-cause
returns-in-Some-link_fault-clause-cause g c = λ told.
    let s = g.S.Store.site c.args.store.now in
    let t = table_alone (g.S.Store.table c.args.store.now) in
    let area = g.S.Store.area c.args.store.now in
    let x = outline (content_now s t area) in
    let has = has_table s t (reads area) in
    let k = c.in_ok-tree.ensures in
    let u = staged_open c.in_default.ensures.checked in
    let xs = c.in_ok-tree.tree.rows in
    let links = links_now g.S.Store c.args.store.now u xs k.each k.rows told in
    let kept = c.load.ensures.reads.stays.table in
    whole_links x c.in-Some-link_fault.place (c.in_default.ensures.says x has) (all_valid g.S.Store c.args.store.now u xs k.each x has links)
    (sym (c.in_default-tree_fault.ensures x (sym (ap table_alone c.table.ensures.table ∙ kept)) links (children_counted g.S.Store c.args.store.now u xs k.each k.rows x refl links)))
    (sym (c.in-Some-link_fault.ensures x (sym (ap table_alone c.table-2.ensures.table ∙ kept)) links
    (volumes_seen g.S.Store c.args.store.now u xs k.each k.rows x refl) (children_counted g.S.Store c.args.store.now u xs k.each k.rows x refl links)))

pub returns-clause-passed : goal.returns-clause-passed
returns-clause-passed g c = λ x has links.
    let k = c.in_ok-tree.ensures in
    let u = staged_open c.in_default.ensures.checked in
    let xs = c.in_ok-tree.tree.rows in
    let kept = c.load.ensures.reads.stays.table in
    record {
      valid = all_valid g.S.Store c.args.store.now u xs k.each x has links;
      placed = sym (c.in_default-tree_fault.ensures x (has.table ∙ sym (ap table_alone c.table.ensures.table ∙ kept)) links (children_counted g.S.Store c.args.store.now u xs k.each k.rows x has.table links));
      linked = sym (c.in_default-link_fault.ensures x (has.table ∙ sym (ap table_alone c.table-2.ensures.table ∙ kept)) links
          (volumes_seen g.S.Store c.args.store.now u xs k.each k.rows x has.table) (children_counted g.S.Store c.args.store.now u xs k.each k.rows x has.table links));
    }
