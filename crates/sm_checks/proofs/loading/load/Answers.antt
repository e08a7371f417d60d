use Rattle.std.proofs.Common.{◌≡◌, ◌+◌, ◌<◌, ◌≤◌, List, None, Err, length, take, sym, ap, ◌∙◌, subst, arith, rules}
use Rattle.sm_base.specs.Names.{IsName}
use Rattle.vg_meta.specs.Roomy.{RoomyRow, RoomyTable, rows_alone, table_alone}
use Rattle.sm_standing.specs.Entries.{making}
use Rattle.common_laws.proofs.Lists.{length-insert_by}
use Rattle.vg_volumes.proofs.StoredLaws.{reads_then}
use Rattle.vhd_chain.specs.Trees.{Tree, is_before}
use Rattle.vhd_chain.specs.declared.rows.TreeRow.{TreeRow}
use Rattle.sm_checks.specs.Loaded.{AreRowsOf, HasEachRow, stored_read}
use Rattle.sm_checks.proofs.OpeningLaws.{if_err, if_none, if_some}
use Rattle.sm_checks.proofs.LoadedLaws.{each_none, each_some, name_free, one_less, rows_none, rows_some}
use Rattle.sm_checks.proofs.TurnLaws.{all_read, few_read, filled_read, read_filled, read_rows, row_kept_as, stopped_at, turn, volume_named}
use Rattle.sm_checks.proofs.loading.load.Goals as goal
use Rattle.sm_checks.proofs.loading.load.Goals.{in-Some, in_default-found}

pub returns-in_err-found-clause-reads : goal.returns-in_err-found-clause-reads
returns-in_err-found-clause-reads g c = reads_then c.loop-index.invariant.only c.row_at.ensures.reads

pub returns-in_err-found-clause-cause : goal.returns-in_err-found-clause-cause
returns-in_err-found-clause-cause g c =
    let i = c.loop-index.invariant in
    let below : c.loop-index.index < length (g.S.Store.table c.args.store.now).rows =
    omega (arith, c.loop-index-test.true, ap (λ (xs : List RoomyRow). length xs) c.volumes-count.ensures.volumes, ap (λ (k : RoomyTable). length k.rows) c.table.ensures.table) in
    let t = turn i.only c.requires.checked c.loop-index.index below in
    let is : c.from_residual.result ≡ Err c.in_err-found.field-0.0 = search rules in
    if_err _ c.from_residual.result c.in_err-found.field-0.0 is
    (stopped_at i.only c.requires.checked c.loop-index.index t.volume t.item c.loop-index.tree.rows c.in_err-found.field-0.0 i.each (c.in_err-found.ensures.cause t.volume.row t.here))

pub add-requires-clause-name : goal.add-requires-clause-name
add-requires-clause-name g c =
    let i = c.loop-index.invariant in
    let below : c.loop-index.index < length (g.S.Store.table c.args.store.now).rows =
    omega (arith, c.loop-index-test.true, ap (λ (xs : List RoomyRow). length xs) c.volumes-count.ensures.volumes, ap (λ (k : RoomyTable). length k.rows) c.table.ensures.table) in
    let t = turn i.only c.requires.checked c.loop-index.index below in
    let found = if_some _ c.in-Some.is c.in_ok-found.ensures.some t.volume.row t.here in
    let row = row_kept_as i.only c.requires.checked t.volume.row c.in-Some.row found.1 in
    subst IsName (sym row.named) (volume_named i.only c.requires.checked c.loop-index.index t.volume t.item)

pub add-requires-clause-absent : goal.add-requires-clause-absent
add-requires-clause-absent g c =
    let i = c.loop-index.invariant in
    let below : c.loop-index.index < length (g.S.Store.table c.args.store.now).rows =
    omega (arith, c.loop-index-test.true, ap (λ (xs : List RoomyRow). length xs) c.volumes-count.ensures.volumes, ap (λ (k : RoomyTable). length k.rows) c.table.ensures.table) in
    let t = turn i.only c.requires.checked c.loop-index.index below in
    let found = if_some _ c.in-Some.is c.in_ok-found.ensures.some t.volume.row t.here in
    let row = row_kept_as i.only c.requires.checked t.volume.row c.in-Some.row found.1 in
    name_free t.item c.loop-index.tree.rows c.in-Some.row i.rows (filled_read (making (table_alone (g.S.Store.table c.args.store.now))) found.0) row.named

pub add-requires-clause-room : goal.add-requires-clause-room
add-requires-clause-room g c =
    let i = c.loop-index.invariant in
    let below : c.loop-index.index < length (g.S.Store.table c.args.store.now).rows =
    omega (arith, c.loop-index-test.true, ap (λ (xs : List RoomyRow). length xs) c.volumes-count.ensures.volumes, ap (λ (k : RoomyTable). length k.rows) c.table.ensures.table) in
    let t = turn i.only c.requires.checked c.loop-index.index below in
    let found = if_some _ c.in-Some.is c.in_ok-found.ensures.some t.volume.row t.here in
    let row = row_kept_as i.only c.requires.checked t.volume.row c.in-Some.row found.1 in
    let less = one_less t.item c.loop-index.tree.rows c.in-Some.row i.rows (filled_read (making (table_alone (g.S.Store.table c.args.store.now))) found.0) row.named row.hidden row.extents in
    omega (arith, less, few_read (g.S.Store.table c.args.store.now), c.requires.checked.few_images, i.room)

pub loop-index-preserved : goal.loop-index-preserved
loop-index-preserved g c =
    let i = c.loop-index.invariant in
    let below : c.loop-index.index < length (g.S.Store.table c.args.store.now).rows =
    omega (arith, c.loop-index-test.true, ap (λ (xs : List RoomyRow). length xs) c.volumes-count.ensures.volumes, ap (λ (k : RoomyTable). length k.rows) c.table.ensures.table) in
    let t = turn i.only c.requires.checked c.loop-index.index below in
    let only = reads_then i.only c.row_at.ensures.reads in
    let calm = c.in_ok-found.ensures.calm (λ e. cc) ∙ i.calm in
    elim c.match-found.branch [
      | in-Some w ↦
          let found = if_some _ w.in-Some.is c.in_ok-found.ensures.some t.volume.row t.here in
          let row = row_kept_as i.only c.requires.checked t.volume.row w.in-Some.row found.1 in
          let same = ap (λ (z : Tree). z.rows) w.tree-is ∙ w.add.ensures.rows in
          record {
            calm = calm;
            only = only;
            rows = subst (AreRowsOf (rows_alone (take (c.loop-index.index + 1) (read_rows (g.S.Store.table c.args.store.now))))) (sym same)
                (rows_some t.item c.loop-index.tree.rows w.in-Some.row i.rows (filled_read (making (table_alone (g.S.Store.table c.args.store.now))) found.0) row.named row.hidden row.extents);
            each = subst (HasEachRow g.S.Store.told (stored_read g.S.Store c.args.store.now) (rows_alone (take (c.loop-index.index + 1) (read_rows (g.S.Store.table c.args.store.now))))) (sym same)
                (each_some t.item g.S.Store.told (stored_read g.S.Store c.args.store.now) c.loop-index.tree.rows i.each w.in-Some.row i.rows (filled_read (making (table_alone (g.S.Store.table c.args.store.now))) found.0) row);
            room = subst (λ (z : Tree). 500 ≤ length z.rows + z.spare) (sym w.tree-is)
                (omega (arith, i.room, w.add.ensures.spare, ap (λ (xs : List TreeRow). length xs) w.add.ensures.rows, length-insert_by is_before w.in-Some.row c.loop-index.tree.rows));
          }
      | in_default-found w ↦
          let none : c.in_ok-found.found ≡ None = search rules in
          let not_filled = if_none _ none c.in_ok-found.ensures.none t.volume.row t.here in
          let same = ap (λ (z : Tree). z.rows) w.tree-is in
          record {
            calm = calm;
            only = only;
            rows = subst (AreRowsOf (rows_alone (take (c.loop-index.index + 1) (read_rows (g.S.Store.table c.args.store.now))))) (sym same)
                (rows_none t.item c.loop-index.tree.rows i.rows (λ f. not_filled (read_filled (making (table_alone (g.S.Store.table c.args.store.now))) f)));
            each = subst (HasEachRow g.S.Store.told (stored_read g.S.Store c.args.store.now) (rows_alone (take (c.loop-index.index + 1) (read_rows (g.S.Store.table c.args.store.now))))) (sym same)
                (each_none t.item g.S.Store.told (stored_read g.S.Store c.args.store.now) c.loop-index.tree.rows i.each (λ f. not_filled (read_filled (making (table_alone (g.S.Store.table c.args.store.now))) f)));
            room = subst (λ (z : Tree). 500 ≤ length z.rows + z.spare) (sym w.tree-is) i.room;
          }
    ]

pub returns-clause-rows : goal.returns-clause-rows
returns-clause-rows g c =
    let long = ap (λ (xs : List RoomyRow). length xs) c.volumes-count.ensures.volumes ∙ ap (λ (k : RoomyTable). length k.rows) c.table.ensures.table in
    subst (λ rs. AreRowsOf rs c.loop-index.tree.rows) (all_read (g.S.Store.table c.args.store.now) c.loop-index.index (omega (arith, c.loop-index-test.false, long))) c.loop-index.invariant.rows

pub returns-clause-each : goal.returns-clause-each
returns-clause-each g c =
    let long = ap (λ (xs : List RoomyRow). length xs) c.volumes-count.ensures.volumes ∙ ap (λ (k : RoomyTable). length k.rows) c.table.ensures.table in
    subst (λ rs. HasEachRow g.S.Store.told (stored_read g.S.Store c.args.store.now) rs c.loop-index.tree.rows)
    (all_read (g.S.Store.table c.args.store.now) c.loop-index.index (omega (arith, c.loop-index-test.false, long))) c.loop-index.invariant.each
