use Rattle.std.proofs.Common.{◌≡◌, ◌≤◌, refl, sym, ap, ap₂, ◌∙◌, subst, subst₂, arith}
use Rattle.sm_base.specs.Names.{IsName}
use Rattle.vg_meta.specs.Roomy.{table_alone}
use Rattle.vg_volumes.proofs.StoredLaws.{stays_from, stays_then}
use Rattle.vhd_image.specs.Bodies.{sector_count}
use Rattle.vhd_image.specs.Changes.{resized}
use Rattle.vhd_image.specs.Made.{IsDiskSize}
use Rattle.vhd_chain.specs.Trees.{tree_row, without}
use Rattle.vhd_chain.proofs.ByName.{tree_row-without_same}
use Rattle.sm_ready.specs.Known.{Known, known, shape_in}
use Rattle.sm_ready.specs.Orderly.{IsOrderly}
use Rattle.sm_ready.specs.Ready.{IsTidy}
use Rattle.sm_ready.proofs.Orders.{geometry_of}
use Rattle.sm_ready.proofs.PutBackLaws.{row_proper, spared}
use Rattle.sm_ready.proofs.RoomLaws.{rows_stays}
use Rattle.sm_ready.proofs.TakenLaws.{is_told}
use Rattle.sm_ready.proofs.TruthLaws.{row_stands, row_true}
use Rattle.sm_ready.proofs.GrownStores.{true_sized}
use Rattle.sm_ready.proofs.SizedRows.{beside_resized, rows_back, same_name, tidy_sized, with_image}
use Rattle.sm_space.proofs.ResizeLaws.{grown, named_here, no_less, none_found, orderly_grown, own_vhd, sectors, shape_sized, size_proper, stands_grown, to_resize}
use Rattle.sm_space.proofs.ResizedLaws.{IsToResizeIn, bytes_fit, changes_as, memory_resized, never_ok, resized_done, resized_failed, resized_unsettled}
use Rattle.sm_space.proofs.resizing.set_sizes.Given.{Over}
use Rattle.sm_space.proofs.resizing.set_sizes.Goals as goal

pub unreachable-requires : goal.unreachable-requires
unreachable-requires g c = none_found _ _ (known c.args.memory.now) c.args.disk.now c.args.size _ _ c.requires.session.orderly c.requires.allowed c.image_name-name.ensures c.take.ensures.taken c.in_default.is

-- the disk, in the row that was taken out: before its size is set
abbrev taken : (g : Over) (c : goal.After-set_size-arg-2-1 g) → IsToResizeIn g.S.Store c.args.store.now c.args.memory.now c.args.disk.now c.args.size c.in-Some.row
taken g c = to_resize _ _ (known c.args.memory.now) c.args.disk.now c.args.size _ _ c.requires.session.orderly c.requires.allowed c.image_name-name.ensures c.take.ensures.taken c.in-Some.row c.in-Some.is c.requires.kept_up c.requires.enough

pub set_size-sized-requires-clause-vhd : goal.set_size-sized-requires-clause-vhd
set_size-sized-requires-clause-vhd g c = own_vhd (taken g c)

pub set_size-sized-requires-clause-stands : goal.set_size-sized-requires-clause-stands
set_size-sized-requires-clause-stands g c = row_stands _ _ _ c.requires.session.orderly c.in-Some.row (taken g c).there

pub set_size-sized-requires-clause-true_now : goal.set_size-sized-requires-clause-true_now
set_size-sized-requires-clause-true_now g c = λ told. row_true g.S.Store c.args.store.now c.args.memory.now c.requires.session.orderly c.requires.session.true_images told c.in-Some.row (taken g c).there

pub set_size-sized-requires-clause-size : goal.set_size-sized-requires-clause-size
set_size-sized-requires-clause-size g c = subst (IsDiskSize (g.S.Store.site c.args.store.now).geometry) (sym (c.rounded-sectors.ensures _ _ (known c.args.memory.now) (sym c.geometry.ensures))) (size_proper (taken g c))

pub set_size-sized-requires-clause-grows : goal.set_size-sized-requires-clause-grows
set_size-sized-requires-clause-grows g c = subst (λ k. sector_count c.in-Some.row.image ≤ k) (sym (c.rounded-sectors.ensures _ _ (known c.args.memory.now) (sym c.geometry.ensures))) (no_less (taken g c))

-- the disk, in the row that was taken out: once its size is set
abbrev sized : (g : Over) (c : goal.After-add-arg-1 g) → IsToResizeIn g.S.Store c.args.store.now c.args.memory.now c.args.disk.now c.args.size c.in-Some.row
sized g c = to_resize _ _ (known c.args.memory.now) c.args.disk.now c.args.size _ _ c.requires.session.orderly c.requires.allowed c.image_name-name.ensures c.take.ensures.taken c.in-Some.row c.in-Some.is c.requires.kept_up c.requires.enough

pub add-requires-clause-name : goal.add-requires-clause-name
add-requires-clause-name g c = subst IsName (sym (same_name c.set_size-sized.result c.rounded-sectors.result c.in-Some.row.image c.set_size-sized.new.self c.set_size-sized.ensures.new_size c.set_size-sized.ensures.unchanged)) (row_proper _ _ _ c.requires.session.orderly c.in-Some.row (sized g c).there)

pub add-requires-clause-absent : goal.add-requires-clause-absent
add-requires-clause-absent g c =
    ap₂ (λ rs n. tree_row rs n) (c.take.ensures.rows ∙ ap (λ n. without n c.args.memory.now.tree.rows)
    ((named_here _ _ (known c.args.memory.now) c.args.disk.now c.args.size _ _ c.requires.session.orderly c.requires.allowed c.image_name-name.ensures c.take.ensures.taken c.in-Some.row c.in-Some.is)
    ∙ sym (same_name c.set_size-sized.result c.rounded-sectors.result c.in-Some.row.image c.set_size-sized.new.self c.set_size-sized.ensures.new_size c.set_size-sized.ensures.unchanged))) refl ∙ tree_row-without_same c.args.memory.now.tree.rows _

-- the disk, in the row that was taken out: where a footer was not written
abbrev unwritten : (g : Over) (c : goal.After-from_residual g) → IsToResizeIn g.S.Store c.args.store.now c.args.memory.now c.args.disk.now c.args.size c.in-Some.row
unwritten g c = to_resize _ _ (known c.args.memory.now) c.args.disk.now c.args.size _ _ c.requires.session.orderly c.requires.allowed c.image_name-name.ensures c.take.ensures.taken c.in-Some.row c.in-Some.is c.requires.kept_up c.requires.enough

pub returns-in_err-sized-clause-others : goal.returns-in_err-sized-clause-others
returns-in_err-sized-clause-others g c = beside_resized c.args.memory.now _ (with_image c.set_size-sized.new.self c.in-Some.row) (
    rows_back _ _ (known c.args.memory.now) c.requires.session.orderly c.in-Some.row (unwritten g c).there c.set_size-sized.new.self
    (same_name c.set_size-sized.result c.rounded-sectors.result c.in-Some.row.image c.set_size-sized.new.self c.set_size-sized.ensures.new_size c.set_size-sized.ensures.unchanged)
    (named_here _ _ (known c.args.memory.now) c.args.disk.now c.args.size _ _ c.requires.session.orderly c.requires.allowed c.image_name-name.ensures c.take.ensures.taken c.in-Some.row c.in-Some.is)
    c.take.ensures.rows c.add.ensures.rows
    ) (spared c.take.ensures.some c.in-Some.is c.add.ensures.spare) refl refl refl refl

pub returns-in_err-sized-clause-done : goal.returns-in_err-sized-clause-done
returns-in_err-sized-clause-done g c = λ told ready.
    resized_failed g.S.Store c.args.store.now c.set_size-sized.new.store c.args.memory.now c.args.disk.now c.args.size c.in-Some.row (unwritten g c) c.set_size-sized.ensures.works
    (is_told g.S.Store c.args.store.now c.args.memory.now c.requires.session.orderly c.requires.session.usable told ready (g.met.S.Store.leaves_now c.args.store.now told c.requires.session.usable))
    (changes_as g.S.Store c.args.store.now c.set_size-sized.new.store c.in-Some.row.image (c.rounded-sectors.ensures _ _ (known c.args.memory.now) (sym c.geometry.ensures)) c.set_size-sized.ensures.changes) (g.met.S.Store.leaves_now c.set_size-sized.new.store told (c.set_size-sized.ensures.works.stays.failed ∙ c.requires.session.usable))
    (stands_grown (unwritten g c)) _ _ (λ fine. never_ok _ c.from_residual.ensures.0 fine) refl

-- the disk, in the row that was taken out: where the sync failed
abbrev unsynced : (g : Over) (c : goal.After-from_residual-in_err-sync g) → IsToResizeIn g.S.Store c.args.store.now c.args.memory.now c.args.disk.now c.args.size c.in-Some.row
unsynced g c = to_resize _ _ (known c.args.memory.now) c.args.disk.now c.args.size _ _ c.requires.session.orderly c.requires.allowed c.image_name-name.ensures c.take.ensures.taken c.in-Some.row c.in-Some.is c.requires.kept_up c.requires.enough

pub returns-in_err-sync-clause-stays : goal.returns-in_err-sync-clause-stays
returns-in_err-sync-clause-stays g c = let e = c.sync.ensures in stays_then c.set_size-sized.ensures.works.stays (stays_from {g = g.S.Store} e.site e.table e.no_less e.counts e.beside)

pub returns-in_err-sync-clause-others : goal.returns-in_err-sync-clause-others
returns-in_err-sync-clause-others g c = beside_resized c.args.memory.now _ (with_image c.set_size-sized.new.self c.in-Some.row) (
    rows_back _ _ (known c.args.memory.now) c.requires.session.orderly c.in-Some.row (unsynced g c).there c.set_size-sized.new.self
    (same_name c.set_size-sized.result c.rounded-sectors.result c.in-Some.row.image c.set_size-sized.new.self c.set_size-sized.ensures.new_size c.set_size-sized.ensures.unchanged)
    (named_here _ _ (known c.args.memory.now) c.args.disk.now c.args.size _ _ c.requires.session.orderly c.requires.allowed c.image_name-name.ensures c.take.ensures.taken c.in-Some.row c.in-Some.is)
    c.take.ensures.rows c.add.ensures.rows
    ) (spared c.take.ensures.some c.in-Some.is c.add.ensures.spare) refl refl refl refl

pub returns-in_err-sync-clause-done : goal.returns-in_err-sync-clause-done
returns-in_err-sync-clause-done g c = λ told ready.
    resized_unsettled g.S.Store c.args.store.now c.set_size-sized.new.store c.args.memory.now c.args.disk.now c.args.size c.in-Some.row (unsynced g c) c.set_size-sized.ensures.works
    (is_told g.S.Store c.args.store.now c.args.memory.now c.requires.session.orderly c.requires.session.usable told ready (g.met.S.Store.leaves_now c.args.store.now told c.requires.session.usable))
    (changes_as g.S.Store c.args.store.now c.set_size-sized.new.store c.in-Some.row.image (c.rounded-sectors.ensures _ _ (known c.args.memory.now) (sym c.geometry.ensures)) c.set_size-sized.ensures.changes) (g.met.S.Store.leaves_now c.set_size-sized.new.store told (c.set_size-sized.ensures.works.stays.failed ∙ c.requires.session.usable))
    (stands_grown (unsynced g c)) c.sync.new.self
    (record { site = c.sync.ensures.site; table = c.sync.ensures.table.0; failed = c.sync.ensures.table.1; keeps = c.sync.ensures.keeps told; leaves = c.sync.ensures.leaves told })
    _ _ (λ fine. never_ok _ c.from_residual-in_err-sync.ensures.0 fine) refl

-- the disk, in the row that was taken out: once all lasts
abbrev lasting : (g : Over) (c : goal.In_ok-sync g) → IsToResizeIn g.S.Store c.args.store.now c.args.memory.now c.args.disk.now c.args.size c.in-Some.row
lasting g c = to_resize _ _ (known c.args.memory.now) c.args.disk.now c.args.size _ _ c.requires.session.orderly c.requires.allowed c.image_name-name.ensures c.take.ensures.taken c.in-Some.row c.in-Some.is c.requires.kept_up c.requires.enough

-- the image with the machine's size
new_is : (g : Over) (c : goal.In_ok-sync g) → c.set_size-sized.new.self ≡ resized (sectors (lasting g c)) c.in-Some.row.image
new_is g c = c.in_ok-sized.ensures.new_size ∙ ap (λ k. resized k c.in-Some.row.image) (c.rounded-sectors.ensures _ _ (known c.args.memory.now) (sym c.geometry.ensures))

memory_is : (g : Over) (c : goal.In_ok-sync g) → record (known c.args.memory.now) { rows = c.add.new.self.rows } ≡ grown (lasting g c)
memory_is g c = memory_resized g.S.Store c.args.store.now c.args.memory.now c.args.disk.now c.args.size c.in-Some.row c.set_size-sized.new.self (lasting g c) c.add.new.self.rows (
    rows_back _ _ (known c.args.memory.now) c.requires.session.orderly c.in-Some.row (lasting g c).there c.set_size-sized.new.self
    (same_name c.set_size-sized.result c.rounded-sectors.result c.in-Some.row.image c.set_size-sized.new.self c.set_size-sized.ensures.new_size c.set_size-sized.ensures.unchanged)
    (named_here _ _ (known c.args.memory.now) c.args.disk.now c.args.size _ _ c.requires.session.orderly c.requires.allowed c.image_name-name.ensures c.take.ensures.taken c.in-Some.row c.in-Some.is)
    c.take.ensures.rows c.add.ensures.rows
    ) (new_is g c)

pub returns-clause-stays : goal.returns-clause-stays
returns-clause-stays g c = let e = c.sync.ensures in stays_then c.set_size-sized.ensures.works.stays (stays_from {g = g.S.Store} e.site e.table e.no_less e.counts e.beside)

pub returns-clause-others : goal.returns-clause-others
returns-clause-others g c = beside_resized c.args.memory.now _ (with_image c.set_size-sized.new.self c.in-Some.row) (
    rows_back _ _ (known c.args.memory.now) c.requires.session.orderly c.in-Some.row (lasting g c).there c.set_size-sized.new.self
    (same_name c.set_size-sized.result c.rounded-sectors.result c.in-Some.row.image c.set_size-sized.new.self c.set_size-sized.ensures.new_size c.set_size-sized.ensures.unchanged)
    (named_here _ _ (known c.args.memory.now) c.args.disk.now c.args.size _ _ c.requires.session.orderly c.requires.allowed c.image_name-name.ensures c.take.ensures.taken c.in-Some.row c.in-Some.is)
    c.take.ensures.rows c.add.ensures.rows
    ) (spared c.take.ensures.some c.in-Some.is c.add.ensures.spare) refl refl refl refl

pub overflow_mul-result : goal.overflow_mul-result
overflow_mul-result g c = bytes_fit (g.S.Store.site c.args.store.now).geometry c.rounded-sectors.result (geometry_of _ _ (known c.args.memory.now) c.requires.session.orderly)
    (subst (IsDiskSize (g.S.Store.site c.args.store.now).geometry) (sym (c.rounded-sectors.ensures _ _ (known c.args.memory.now) (sym c.geometry.ensures))) (size_proper (lasting g c)))

pub returns-clause-session_still : goal.returns-clause-session_still
returns-clause-session_still g c =
    let r = c.requires.session in
    let stays = returns-clause-stays g c in
    let others = returns-clause-others g c in
    record {
      usable = stays.failed ∙ r.usable;
      orderly = subst (λ k. IsOrderly (g.S.Store.site c.sync.new.self) (table_alone (g.S.Store.table c.sync.new.self)) k) (sym (memory_is g c))
          (subst₂ (λ s t. IsOrderly s t (grown (lasting g c))) (sym stays.site) (sym stays.table) (orderly_grown (lasting g c) (stands_grown (lasting g c))));
      tidy = subst (λ k. IsTidy (table_alone (g.S.Store.table c.sync.new.self)) k) (sym (memory_is g c))
          (subst (λ t. IsTidy t (grown (lasting g c))) (sym stays.table) (tidy_sized _ _ (known c.args.memory.now) r.orderly c.in-Some.row (lasting g c).there (sectors (lasting g c)) r.tidy));
      true_images =
          true_sized g.S.Store c.args.store.now c.set_size-sized.new.store c.args.memory.now (sectors (lasting g c)) c.in-Some.row r.orderly (lasting g c).there c.set_size-sized.ensures.works
          c.sync.new.self c.sync.ensures.site c.sync.ensures.table.0 c.sync.ensures.keeps c.set_size-sized.new.self (new_is g c) c.in_ok-sized.ensures.true_after
          (record { tree = c.add.new.self; records = c.args.memory.now.records; logs = c.args.memory.now.logs; attached = c.args.memory.now.attached; operation = c.args.memory.now.operation })
          (ap (λ (k : Known). k.rows) (memory_is g c)) r.true_images;
      rows = rows_stays stays r.rows;
      tree_room = let room = r.tree_room in omega (arith, others.images, others.spare, room);
      attachment_room = r.attachment_room;
    }

pub returns-clause-shape : goal.returns-clause-shape
returns-clause-shape g c =
    let stays = returns-clause-stays g c in
    ap (λ k. shape_in (g.S.Store.site c.sync.new.self) (table_alone (g.S.Store.table c.sync.new.self)) k) (memory_is g c)
    ∙ ap₂ (λ s t. shape_in s t (grown (lasting g c))) stays.site stays.table ∙ shape_sized (lasting g c)

pub returns-clause-done : goal.returns-clause-done
returns-clause-done g c = λ told ready.
    resized_done g.S.Store c.args.store.now c.set_size-sized.new.store c.args.memory.now c.args.disk.now c.args.size c.in-Some.row (lasting g c) c.set_size-sized.ensures.works
    (is_told g.S.Store c.args.store.now c.args.memory.now c.requires.session.orderly c.requires.session.usable told ready (g.met.S.Store.leaves_now c.args.store.now told c.requires.session.usable))
    (changes_as g.S.Store c.args.store.now c.set_size-sized.new.store c.in-Some.row.image (c.rounded-sectors.ensures _ _ (known c.args.memory.now) (sym c.geometry.ensures)) c.set_size-sized.ensures.changes) (g.met.S.Store.leaves_now c.set_size-sized.new.store told (c.set_size-sized.ensures.works.stays.failed ∙ c.requires.session.usable))
    (stands_grown (lasting g c)) c.sync.new.self
    (record { site = c.sync.ensures.site; table = c.sync.ensures.table.0; failed = c.sync.ensures.table.1; keeps = c.sync.ensures.keeps told; leaves = c.sync.ensures.leaves told })
    (c.requires.settled told)
    (c.in_ok-sync.ensures.settled told)
    c.set_size-sized.new.self (new_is g c) c.in_ok-sized.ensures.true_after
    _ (memory_is g c) _
