use Rattle.std.proofs.Common.{◌≡◌, length, List, refl, sym, ap, ap₂, ◌∙◌, subst, arith}
use Rattle.std.specs.Option.{option_copied}
use Rattle.std.proofs.lemmas.List.{length-map}
use Rattle.sm_base.specs.Names.{IsName}
use Rattle.vg_volumes.specs.Stored.{Stays}
use Rattle.vg_volumes.proofs.StoredLaws.{stays_from, stays_then}
use Rattle.vg_meta.specs.Roomy.{table_alone}
use Rattle.vhd_chain.specs.Trees.{tree_row, with_replaced}
use Rattle.vhd_chain.specs.declared.rows.TreeRow.{TreeRow}
use Rattle.vhd_chain.proofs.ByName.{tree_row-without_same}
use Rattle.sm_ready.specs.Known.{Known, known}
use Rattle.sm_ready.specs.declared.memory.Memory.{Memory}
use Rattle.sm_ready.proofs.ChainLaws.{err_not_ok}
use Rattle.sm_ready.proofs.FrameLaws.{true_stays}
use Rattle.sm_ready.proofs.PutBackLaws.{row_proper, spared}
use Rattle.sm_ready.proofs.RoomLaws.{rows_stays}
use Rattle.sm_ready.proofs.TakenLaws.{is_told}
use Rattle.sm_machine.specs.Operations.{advanced}
use Rattle.gc_coalesce.proofs.CopyBlockLaws.{grown_name}
use Rattle.gc_coalesce.proofs.CopyCallLaws.{back_in_place, can_copy, block_below, to_copy_at}
use Rattle.gc_coalesce.proofs.CopyCrashLaws.{masked_first, never_done}
use Rattle.gc_coalesce.proofs.CopyMemoryLaws.{with_image}
use Rattle.gc_coalesce.proofs.CopyPlanLaws.{IsToCopy, named, no_child_left, no_parent, there, to_copy}
use Rattle.gc_coalesce.proofs.CopyStillLaws.{shown_before, shown_still}
use Rattle.gc_coalesce.proofs.CopyWholeLaws.{IsSync, IsUnderWay, failed_done, failed_masked, synced_beside, synced_masked, unsynced_done, whole_done, whole_lowered, whole_next, whole_orderly, whole_shape, whole_tidy, whole_true, written_beside}
use Rattle.sm_ready.proofs.FramingLaws.{stays_now}
use Rattle.gc_coalesce.proofs.SyncedLaws.{copy_synced, nothing_synced}
use Rattle.gc_coalesce.proofs.copying.copy_into_parent.Given.{Over}
use Rattle.gc_coalesce.proofs.copying.copy_into_parent.Goals as goal

-- ---- the first sync

pub returns-in_err-sync-clause-done : goal.returns-in_err-sync-clause-done
returns-in_err-sync-clause-done g c = λ told ready.
    never_done {g = g.S.Store} (is_told g.S.Store c.args.store.now c.args.memory.now c.requires.session.orderly c.requires.session.usable told ready
    (g.met.S.Store.leaves_now c.args.store.now told c.requires.session.usable))
    (record { site = c.sync.ensures.site; table = c.sync.ensures.table.0; failed = c.sync.ensures.table.1; keeps = c.sync.ensures.keeps told; leaves = c.sync.ensures.leaves told })
    (known c.args.memory.now) refl _ (λ fine. err_not_ok _ tt c.from_residual.ensures.0 fine)

pub returns-in_err-sync-clause-masked : goal.returns-in_err-sync-clause-masked
returns-in_err-sync-clause-masked g c = λ told ready again t image l.
    masked_first g.S.Store c.args.store.now c.args.memory.now c.images-child.result.0 c.images-child.result.1 c.args.block c.images-child.ensures c.requires.may
    (is_told g.S.Store c.args.store.now c.args.memory.now c.requires.session.orderly c.requires.session.usable told ready
    (g.met.S.Store.leaves_now c.args.store.now told c.requires.session.usable))
    t image (g.met.S.Store.leaves_now c.args.store.now told c.requires.session.usable t image (c.sync.ensures.leaves told t image l))

-- ---- the rows

pub unreachable-requires : goal.unreachable-requires
unreachable-requires g c =
    no_parent c.requires.session.orderly c.images-child.result.0 c.images-child.result.1 c.images-child.ensures (sym c.take.ensures.taken ∙ c.in_default.is)

pub unreachable-requires-in_default-get : goal.unreachable-requires-in_default-get
unreachable-requires-in_default-get g c =
    no_child_left c.requires.session.orderly c.images-child.result.0 c.images-child.result.1 c.images-child.ensures c.take.ensures.rows (sym c.get.ensures ∙ ap option_copied c.in_default-get.is)

-- ---- the copy

pub copy_sectors-copied-requires-clause-can : goal.copy_sectors-copied-requires-clause-can
copy_sectors-copied-requires-clause-can g c =
    can_copy g.S.Store c.sync.new.self c.args.memory.now
    (to_copy_at c.sync.ensures.site c.sync.ensures.table.0
    (to_copy c.requires.session.orderly c.images-child.result.0 c.images-child.result.1 c.images-child.ensures c.take.ensures.rows
    c.requires.may (sym c.take.ensures.taken ∙ c.in-Some.is) (sym c.get.ensures ∙ ap option_copied c.in-Some-get.is)))
    (true_stays g.S.Store c.args.memory.now c.args.memory.now c.sync.ensures.site c.sync.ensures.table.0 refl c.sync.ensures.keeps c.requires.session.true_images)

-- the images of the copy: before the row is put back
abbrev taken : (g : Over) (c : goal.After-add-arg-1 g)
    → IsToCopy (g.S.Store.site c.args.store.now) (table_alone (g.S.Store.table c.args.store.now)) (known c.args.memory.now)
    c.images-child.result.0 c.images-child.result.1 c.images-child.ensures.1 c.args.block c.in-Some-get.from.now c.in-Some.row
taken g c = to_copy c.requires.session.orderly c.images-child.result.0 c.images-child.result.1 c.images-child.ensures c.take.ensures.rows
    c.requires.may (sym c.take.ensures.taken ∙ c.in-Some.is) (sym c.get.ensures ∙ ap option_copied c.in-Some-get.is)

pub add-requires-clause-name : goal.add-requires-clause-name
add-requires-clause-name g c = subst IsName (sym (grown_name c.in-Some.row.image c.copy_sectors-copied.new.parent c.copy_sectors-copied.ensures.copies.grown)) (row_proper _ _ _ c.requires.session.orderly c.in-Some.row (there (taken g c)))

pub add-requires-clause-absent : goal.add-requires-clause-absent
add-requires-clause-absent g c =
    ap₂ (λ rs n. tree_row rs n) c.take.ensures.rows (grown_name c.in-Some.row.image c.copy_sectors-copied.new.parent c.copy_sectors-copied.ensures.copies.grown ∙ named (taken g c))
    ∙ tree_row-without_same c.args.memory.now.tree.rows c.images-child.result.1

-- ---- where the copy failed

abbrev stopped : (g : Over) (c : goal.After-from_residual-in_err-copied g)
    → IsUnderWay g.S.Store c.args.store.now c.sync.new.self c.copy_sectors-copied.new.store c.args.memory.now
    c.images-child.result.0 c.images-child.result.1 c.images-child.ensures.1 c.args.block c.in-Some-get.from.now c.in-Some.row c.copy_sectors-copied.new.parent
stopped g c = record {
  images = to_copy c.requires.session.orderly c.images-child.result.0 c.images-child.result.1 c.images-child.ensures c.take.ensures.rows
      c.requires.may (sym c.take.ensures.taken ∙ c.in-Some.is) (sym c.get.ensures ∙ ap option_copied c.in-Some-get.is);
  usable = c.requires.session.usable;
  sync = let e = c.sync.ensures in record { site = e.site; table = e.table.0; failed = e.table.1; keeps = e.keeps; leaves = e.leaves };
  settled = c.in_ok-sync.ensures.settled;
  copies = c.copy_sectors-copied.ensures.copies;
  choice = g.met.S.Store.leaves_now;
}

-- what is in memory then
abbrev stopped_memory : (g : Over) (c : goal.After-from_residual-in_err-copied g) → Memory
stopped_memory g c = record { tree = c.add.new.self; records = c.args.memory.now.records; logs = c.args.memory.now.logs; attached = c.args.memory.now.attached; operation = c.args.memory.now.operation }

stopped_rows : (g : Over) (c : goal.After-from_residual-in_err-copied g)
    → c.add.new.self.rows ≡ with_replaced (with_image c.copy_sectors-copied.new.parent c.in-Some.row) c.args.memory.now.tree.rows
stopped_rows g c = back_in_place (stopped g c).images c.copy_sectors-copied.new.parent
    (grown_name c.in-Some.row.image c.copy_sectors-copied.new.parent c.copy_sectors-copied.ensures.copies.grown) c.take.ensures.rows c.add.ensures.rows

pub returns-in_err-copied-clause-images : goal.returns-in_err-copied-clause-images
returns-in_err-copied-clause-images g c = ap (λ (rs : List TreeRow). length rs) (stopped_rows g c) ∙ length-map c.args.memory.now.tree.rows _

pub returns-in_err-copied-clause-done : goal.returns-in_err-copied-clause-done
returns-in_err-copied-clause-done g c = failed_done (stopped g c) (stopped_memory g c) _ (λ fine. err_not_ok _ tt c.from_residual-in_err-copied.ensures.0 fine) refl

pub returns-in_err-copied-clause-masked : goal.returns-in_err-copied-clause-masked
returns-in_err-copied-clause-masked g c = failed_masked (stopped g c)

-- ---- where the second sync failed

abbrev unsynced : (g : Over) (c : goal.After-from_residual-in_err-sync-2 g)
    → IsUnderWay g.S.Store c.args.store.now c.sync.new.self c.copy_sectors-copied.new.store c.args.memory.now
    c.images-child.result.0 c.images-child.result.1 c.images-child.ensures.1 c.args.block c.in-Some-get.from.now c.in-Some.row c.copy_sectors-copied.new.parent
unsynced g c = record {
  images = to_copy c.requires.session.orderly c.images-child.result.0 c.images-child.result.1 c.images-child.ensures c.take.ensures.rows
      c.requires.may (sym c.take.ensures.taken ∙ c.in-Some.is) (sym c.get.ensures ∙ ap option_copied c.in-Some-get.is);
  usable = c.requires.session.usable;
  sync = let e = c.sync.ensures in record { site = e.site; table = e.table.0; failed = e.table.1; keeps = e.keeps; leaves = e.leaves };
  settled = c.in_ok-sync.ensures.settled;
  copies = c.copy_sectors-copied.ensures.copies;
  choice = g.met.S.Store.leaves_now;
}

abbrev unsynced_last : (g : Over) (c : goal.After-from_residual-in_err-sync-2 g) → IsSync g.S.Store c.copy_sectors-copied.new.store c.sync-2.new.self
unsynced_last g c = let e = c.sync-2.ensures in record { site = e.site; table = e.table.0; failed = e.table.1; keeps = e.keeps; leaves = e.leaves }

-- what is in memory then
abbrev unsynced_memory : (g : Over) (c : goal.After-from_residual-in_err-sync-2 g) → Memory
unsynced_memory g c = record { tree = c.add.new.self; records = c.args.memory.now.records; logs = c.args.memory.now.logs; attached = c.args.memory.now.attached; operation = c.args.memory.now.operation }

unsynced_rows : (g : Over) (c : goal.After-from_residual-in_err-sync-2 g)
    → c.add.new.self.rows ≡ with_replaced (with_image c.copy_sectors-copied.new.parent c.in-Some.row) c.args.memory.now.tree.rows
unsynced_rows g c = back_in_place (unsynced g c).images c.copy_sectors-copied.new.parent
    (grown_name c.in-Some.row.image c.copy_sectors-copied.new.parent c.copy_sectors-copied.ensures.copies.grown) c.take.ensures.rows c.add.ensures.rows

pub returns-in_err-sync-2-clause-images : goal.returns-in_err-sync-2-clause-images
returns-in_err-sync-2-clause-images g c = ap (λ (rs : List TreeRow). length rs) (unsynced_rows g c) ∙ length-map c.args.memory.now.tree.rows _

pub returns-in_err-sync-2-clause-done : goal.returns-in_err-sync-2-clause-done
returns-in_err-sync-2-clause-done g c = unsynced_done (unsynced g c) (unsynced_last g c) (unsynced_memory g c) _ (λ fine. err_not_ok _ tt c.from_residual-in_err-sync-2.ensures.0 fine) refl

pub returns-in_err-sync-2-clause-masked : goal.returns-in_err-sync-2-clause-masked
returns-in_err-sync-2-clause-masked g c = synced_masked (unsynced g c) (unsynced_last g c)

-- ---- where all lasts

pub advance-requires : goal.advance-requires
advance-requires g c =
    block_below (to_copy c.requires.session.orderly c.images-child.result.0 c.images-child.result.1 c.images-child.ensures c.take.ensures.rows
    c.requires.may (sym c.take.ensures.taken ∙ c.in-Some.is) (sym c.get.ensures ∙ ap option_copied c.in-Some-get.is))

abbrev lasting : (g : Over) (c : goal.After-advance g)
    → IsUnderWay g.S.Store c.args.store.now c.sync.new.self c.copy_sectors-copied.new.store c.args.memory.now
    c.images-child.result.0 c.images-child.result.1 c.images-child.ensures.1 c.args.block c.in-Some-get.from.now c.in-Some.row c.copy_sectors-copied.new.parent
lasting g c = record {
  images = to_copy c.requires.session.orderly c.images-child.result.0 c.images-child.result.1 c.images-child.ensures c.take.ensures.rows
      c.requires.may (sym c.take.ensures.taken ∙ c.in-Some.is) (sym c.get.ensures ∙ ap option_copied c.in-Some-get.is);
  usable = c.requires.session.usable;
  sync = let e = c.sync.ensures in record { site = e.site; table = e.table.0; failed = e.table.1; keeps = e.keeps; leaves = e.leaves };
  settled = c.in_ok-sync.ensures.settled;
  copies = c.copy_sectors-copied.ensures.copies;
  choice = g.met.S.Store.leaves_now;
}

abbrev lasting_last : (g : Over) (c : goal.After-advance g) → IsSync g.S.Store c.copy_sectors-copied.new.store c.sync-2.new.self
lasting_last g c = let e = c.sync-2.ensures in record { site = e.site; table = e.table.0; failed = e.table.1; keeps = e.keeps; leaves = e.leaves }

-- what is in memory then
abbrev lasting_memory : (g : Over) (c : goal.After-advance g) → Memory
lasting_memory g c = record { tree = c.add.new.self; records = c.args.memory.now.records; logs = c.args.memory.now.logs; attached = c.args.memory.now.attached; operation = c.advance.new.self }

lasting_rows : (g : Over) (c : goal.After-advance g)
    → c.add.new.self.rows ≡ with_replaced (with_image c.copy_sectors-copied.new.parent c.in-Some.row) c.args.memory.now.tree.rows
lasting_rows g c = back_in_place (lasting g c).images c.copy_sectors-copied.new.parent
    (grown_name c.in-Some.row.image c.copy_sectors-copied.new.parent c.copy_sectors-copied.ensures.copies.grown) c.take.ensures.rows c.add.ensures.rows

lasting_rest : (g : Over) (c : goal.After-advance g) → known (lasting_memory g c) ≡ record (known c.args.memory.now) { rows = c.add.new.self.rows; op = advanced c.args.block c.args.memory.now.operation }
lasting_rest g c = ap (λ o. let k : Known = record (known c.args.memory.now) { rows = c.add.new.self.rows; op = o } in k) c.advance.ensures

pub returns-clause-images : goal.returns-clause-images
returns-clause-images g c = ap (λ (rs : List TreeRow). length rs) (lasting_rows g c) ∙ length-map c.args.memory.now.tree.rows _

pub returns-clause-lowered : goal.returns-clause-lowered
returns-clause-lowered g c = whole_lowered (lasting g c) (lasting_last g c) (lasting_memory g c) c.in_ok-copied.ensures.copied (lasting_rows g c) (lasting_rest g c)

pub returns-clause-next : goal.returns-clause-next
returns-clause-next g c = whole_next (lasting g c) (lasting_last g c) (lasting_memory g c) c.in_ok-copied.ensures.copied (lasting_rows g c) (lasting_rest g c)

pub returns-clause-shape : goal.returns-clause-shape
returns-clause-shape g c = whole_shape (lasting g c) (lasting_last g c) (lasting_memory g c) c.in_ok-copied.ensures.copied (lasting_rows g c) (lasting_rest g c) c.in_ok-sync-2.ensures.settled

pub returns-clause-done : goal.returns-clause-done
returns-clause-done g c = whole_done (lasting g c) (lasting_last g c) (lasting_memory g c) c.in_ok-copied.ensures.copied (lasting_rows g c) (lasting_rest g c) c.in_ok-sync-2.ensures.settled _

pub returns-clause-masked : goal.returns-clause-masked
returns-clause-masked g c = synced_masked (lasting g c) (lasting_last g c)

-- ---- nothing else was pending when the parent was written

pub returns-in_err-sync-clause-first : goal.returns-in_err-sync-clause-first
returns-in_err-sync-clause-first g c = nothing_synced g.S.Store c.args.memory.now.operation c.args.store.now c.sync.new.self c.sync.ensures.leaves

pub returns-in_err-copied-clause-first : goal.returns-in_err-copied-clause-first
returns-in_err-copied-clause-first g c =
    copy_synced g.S.Store c.args.memory.now.operation c.images-child.result.0 c.images-child.result.1 c.args.store.now c.copy_sectors-copied.new.store c.images-child.ensures (written_beside (stopped g c))

pub returns-in_err-sync-2-clause-first : goal.returns-in_err-sync-2-clause-first
returns-in_err-sync-2-clause-first g c =
    copy_synced g.S.Store c.args.memory.now.operation c.images-child.result.0 c.images-child.result.1 c.args.store.now c.sync-2.new.self c.images-child.ensures (synced_beside (unsynced g c) (unsynced_last g c))

pub returns-clause-first : goal.returns-clause-first
returns-clause-first g c =
    copy_synced g.S.Store c.args.memory.now.operation c.images-child.result.0 c.images-child.result.1 c.args.store.now c.sync-2.new.self c.images-child.ensures (synced_beside (lasting g c) (lasting_last g c))

-- ---- whatever a stop leaves shows the disks of an image that might be left before

pub returns-in_err-sync-clause-still : goal.returns-in_err-sync-clause-still
returns-in_err-sync-clause-still g c = λ told ready again. shown_still g.S.Store c.args.store.now c.sync.new.self c.sync.ensures.leaves told

pub returns-in_err-copied-clause-still : goal.returns-in_err-copied-clause-still
returns-in_err-copied-clause-still g c = λ told ready again. shown_before (stopped g c) told ready

pub returns-in_err-sync-2-clause-still : goal.returns-in_err-sync-2-clause-still
returns-in_err-sync-2-clause-still g c = λ told ready again t image l. shown_before (unsynced g c) told ready t image (c.sync-2.ensures.leaves told t image l)

pub returns-clause-still : goal.returns-clause-still
returns-clause-still g c = λ told ready again t image l. shown_before (lasting g c) told ready t image (c.sync-2.ensures.leaves told t image l)

-- ---- the frame

pub returns-in_err-sync-clause-step : goal.returns-in_err-sync-clause-step
returns-in_err-sync-clause-step g c = let e = c.sync.ensures in stays_now g.met.S.Store.leaves_now c.requires.session.usable (stays_from {g = g.S.Store} e.site e.table e.no_less e.counts e.beside)

pub returns-in_err-copied-clause-step : goal.returns-in_err-copied-clause-step
returns-in_err-copied-clause-step g c =
    let e = c.sync.ensures in
    stays_now g.met.S.Store.leaves_now c.requires.session.usable (stays_then (stays_from {g = g.S.Store} e.site e.table e.no_less e.counts e.beside) c.copy_sectors-copied.ensures.copies.works.stays)

pub returns-in_err-sync-2-clause-step : goal.returns-in_err-sync-2-clause-step
returns-in_err-sync-2-clause-step g c =
    let e = c.sync.ensures in
    let f = c.sync-2.ensures in
    stays_now g.met.S.Store.leaves_now c.requires.session.usable
    (stays_then (stays_from {g = g.S.Store} e.site e.table e.no_less e.counts e.beside) (stays_then c.copy_sectors-copied.ensures.copies.works.stays (stays_from {g = g.S.Store} f.site f.table f.no_less f.counts f.beside)))

-- no commit was made
lasting_stays : (g : Over) (c : goal.After-advance g) → Stays g.S.Store c.args.store.now c.sync-2.new.self
lasting_stays g c =
    let e = c.sync.ensures in
    let f = c.sync-2.ensures in
    stays_then (stays_from {g = g.S.Store} e.site e.table e.no_less e.counts e.beside) (stays_then c.copy_sectors-copied.ensures.copies.works.stays (stays_from {g = g.S.Store} f.site f.table f.no_less f.counts f.beside))

pub returns-clause-step : goal.returns-clause-step
returns-clause-step g c = stays_now g.met.S.Store.leaves_now c.requires.session.usable (lasting_stays g c)

pub returns-clause-session_still : goal.returns-clause-session_still
returns-clause-session_still g c =
    let i = c.requires.session in
    let stays = lasting_stays g c in
    record {
      usable = stays.failed ∙ i.usable;
      orderly = whole_orderly (lasting g c) (lasting_last g c) (lasting_memory g c) c.in_ok-copied.ensures.copied (lasting_rows g c) (lasting_rest g c);
      tidy = whole_tidy (lasting g c) (lasting_last g c) (lasting_memory g c) c.in_ok-copied.ensures.copied (lasting_rows g c) (lasting_rest g c) i.tidy;
      true_images = whole_true (lasting g c) (lasting_last g c) (lasting_memory g c) c.in_ok-copied.ensures.copied (lasting_rows g c) (lasting_rest g c) i.true_images;
      rows = rows_stays stays i.rows;
      tree_room = omega (arith, returns-clause-images g c, spared c.take.ensures.some c.in-Some.is c.add.ensures.spare, i.tree_room);
      attachment_room = i.attachment_room;
    }
