use Rattle.std.proofs.Common.{refl, ◌∙◌}
use Rattle.sm_base.specs.declared.names.Name.TheVariants.{Mgt}
use Rattle.vg_meta.specs.declared.changes.Change.TheVariants.{Remove}
use Rattle.vg_volumes.proofs.StoredLaws.{stays_from, stays_then, works_keeps, works_then, works_writes}
use Rattle.sm_ready.specs.Known.{known}
use Rattle.sm_ready.specs.declared.memory.Memory.{Memory}
use Rattle.sm_ready.proofs.ChainLaws.{err_not_ok}
use Rattle.sm_ready.proofs.FramingLaws.{commit_steps, failed_steps, stays_steps, then_steps}
use Rattle.sm_ready.proofs.OwnLaws.{own_name}
use Rattle.sm_ready.proofs.RoomLaws.{rows_commits, rows_stays}
use Rattle.sm_ready.proofs.TakenLaws.{is_told}
use Rattle.cmd_change.proofs.DeleteLaws.{to_delete}
use Rattle.cmd_change.proofs.DeletedLaws.{can_remove, clear_failed, end_done, end_failed, has_places, known_ended, orderly_end, remove_failed, shape_end, tidy_end, tree_room_less, true_deleted}
use Rattle.cmd_change.proofs.deleting.take_away.Goals as goal

pub remove-requires : goal.remove-requires
remove-requires g c =
    let r = c.requires in
    let d = to_delete _ _ (known c.args.memory.now) c.args.disk.now r.session.orderly r.session.tidy r.allowed r.kept_up in
    can_remove g.S.Store c.args.store.now c.args.memory.now d (own_name _ _ (known c.args.memory.now) c.args.disk.now _ r.session.orderly d.own c.image_name-name.ensures) r.session.usable

pub returns-in_err-remove-clause-step : goal.returns-in_err-remove-clause-step
returns-in_err-remove-clause-step g c = failed_steps (Remove c.image_name-name.result) c.in_err-remove.ensures.fails c.remove.ensures.crash

pub returns-in_err-remove-clause-done : goal.returns-in_err-remove-clause-done
returns-in_err-remove-clause-done g c = λ told ready.
    let r = c.requires in
    let d = to_delete _ _ (known c.args.memory.now) c.args.disk.now r.session.orderly r.session.tidy r.allowed r.kept_up in
    remove_failed
    (is_told g.S.Store c.args.store.now c.args.memory.now r.session.orderly r.session.usable told ready (g.met.S.Store.leaves_now c.args.store.now told r.session.usable)) d
    (own_name _ _ (known c.args.memory.now) c.args.disk.now _ r.session.orderly d.own c.image_name-name.ensures) c.args.memory.now _ (λ fine. err_not_ok _ tt c.from_residual.ensures.0 fine) refl c.in_err-remove.ensures.fails (c.remove.ensures.crash told)

pub clear-requires : goal.clear-requires
clear-requires g c =
    let r = c.requires in
    let d = to_delete _ _ (known c.args.memory.now) c.args.disk.now r.session.orderly r.session.tidy r.allowed r.kept_up in
    record { size = has_places g.S.Store c.args.store.now c.args.memory.now d (own_name _ _ (known c.args.memory.now) c.args.disk.now _ r.session.orderly d.own c.image_name-name.ensures) c.in_ok-remove.ensures.commits }

pub returns-in_err-clear-clause-step : goal.returns-in_err-clear-clause-step
returns-in_err-clear-clause-step g c =
    let w = c.clear.ensures.writes.stays in
    then_steps (commit_steps c.in_ok-remove.ensures.commits c.remove.ensures.crash) (stays_steps w (λ told. g.met.S.Store.leaves_now c.clear.new.store told (w.failed ∙ c.in_ok-remove.ensures.commits.usable)))

pub returns-in_err-clear-clause-done : goal.returns-in_err-clear-clause-done
returns-in_err-clear-clause-done g c = λ told ready.
    let r = c.requires in
    let d = to_delete _ _ (known c.args.memory.now) c.args.disk.now r.session.orderly r.session.tidy r.allowed r.kept_up in
    let w = c.clear.ensures.writes in
    let after : Memory = record { tree = c.take.new.self; records = c.clear.new.self; logs = c.args.memory.now.logs; attached = c.args.memory.now.attached; operation = c.args.memory.now.operation } in
    clear_failed
    (is_told g.S.Store c.args.store.now c.args.memory.now r.session.orderly r.session.usable told ready (g.met.S.Store.leaves_now c.args.store.now told r.session.usable)) d
    (own_name _ _ (known c.args.memory.now) c.args.disk.now _ r.session.orderly d.own c.image_name-name.ensures) c.in_ok-remove.ensures.commits (c.remove.ensures.crash told)
    w (g.met.S.Store.leaves_now c.clear.new.store told (w.stays.failed ∙ c.in_ok-remove.ensures.commits.usable)) after _ (λ fine. err_not_ok _ tt c.from_residual-in_err-clear.ensures.0 fine) refl

pub returns-in_err-sync-clause-step : goal.returns-in_err-sync-clause-step
returns-in_err-sync-clause-step g c =
    let w = c.clear.ensures.writes.stays in
    let e = c.sync.ensures in
    let s = stays_then w (stays_from {g = g.S.Store} e.site e.table e.no_less e.counts e.beside) in
    then_steps (commit_steps c.in_ok-remove.ensures.commits c.remove.ensures.crash) (stays_steps s (λ told. g.met.S.Store.leaves_now c.sync.new.self told (s.failed ∙ c.in_ok-remove.ensures.commits.usable)))

pub returns-in_err-sync-clause-done : goal.returns-in_err-sync-clause-done
returns-in_err-sync-clause-done g c = λ told ready.
    let r = c.requires in
    let d = to_delete _ _ (known c.args.memory.now) c.args.disk.now r.session.orderly r.session.tidy r.allowed r.kept_up in
    let w = c.clear.ensures.writes in
    let e = c.sync.ensures in
    let after : Memory = record { tree = c.take.new.self; records = c.clear.new.self; logs = c.args.memory.now.logs; attached = c.args.memory.now.attached; operation = c.args.memory.now.operation } in
    end_failed
    (is_told g.S.Store c.args.store.now c.args.memory.now r.session.orderly r.session.usable told ready (g.met.S.Store.leaves_now c.args.store.now told r.session.usable)) d
    (own_name _ _ (known c.args.memory.now) c.args.disk.now _ r.session.orderly d.own c.image_name-name.ensures) c.in_ok-remove.ensures.commits (c.remove.ensures.crash told)
    w (g.met.S.Store.leaves_now c.clear.new.store told (w.stays.failed ∙ c.in_ok-remove.ensures.commits.usable))
    (record { site = e.site; table = e.table.0; failed = e.table.1; keeps = e.keeps told; leaves = e.leaves told }) after _ (λ fine. err_not_ok _ tt c.from_residual-in_err-sync.ensures.0 fine) refl

pub returns-clause-step : goal.returns-clause-step
returns-clause-step g c =
    let w = c.clear.ensures.writes.stays in
    let e = c.sync.ensures in
    let s = stays_then w (stays_from {g = g.S.Store} e.site e.table e.no_less e.counts e.beside) in
    then_steps (commit_steps c.in_ok-remove.ensures.commits c.remove.ensures.crash) (stays_steps s (λ told. g.met.S.Store.leaves_now c.sync.new.self told (s.failed ∙ c.in_ok-remove.ensures.commits.usable)))

pub returns-clause-session_still : goal.returns-clause-session_still
returns-clause-session_still g c =
    let r = c.requires in
    let d = to_delete _ _ (known c.args.memory.now) c.args.disk.now r.session.orderly r.session.tidy r.allowed r.kept_up in
    let name = own_name _ _ (known c.args.memory.now) c.args.disk.now _ r.session.orderly d.own c.image_name-name.ensures in
    let after : Memory = record { tree = c.take.new.self; records = c.clear.new.self; logs = c.args.memory.now.logs; attached = c.args.memory.now.attached; operation = c.args.memory.now.operation } in
    let e = c.sync.ensures in
    let commits = c.in_ok-remove.ensures.commits in
    let s = stays_then c.clear.ensures.writes.stays (stays_from {g = g.S.Store} e.site e.table e.no_less e.counts e.beside) in
    let after_is = known_ended c.args.memory.now after _ _ _ name c.take.ensures.rows c.in_ok-clear.ensures.places refl refl refl in
    record {
      usable = s.failed ∙ commits.usable;
      orderly = orderly_end g.S.Store c.args.store.now c.args.memory.now d name (s.site ∙ commits.site) (s.table ∙ commits.table) after after_is;
      tidy = tidy_end g.S.Store c.args.store.now c.args.memory.now d name (s.site ∙ commits.site) (s.table ∙ commits.table) after after_is;
      true_images = true_deleted g.S.Store c.args.store.now c.args.memory.now d name commits
          (works_then (works_writes c.clear.ensures.writes) (works_keeps Mgt (stays_from {g = g.S.Store} e.site e.table e.no_less e.counts e.beside) e.keeps)) after c.take.ensures.rows r.session.true_images;
      rows = rows_stays s (rows_commits (can_remove g.S.Store c.args.store.now c.args.memory.now d name r.session.usable) commits r.session.rows);
      tree_room = tree_room_less d name c.args.memory.now after refl _ c.take.ensures.taken c.take.ensures.rows c.take.ensures.some r.session.tree_room;
      attachment_room = r.session.attachment_room;
    }

pub returns-clause-shape : goal.returns-clause-shape
returns-clause-shape g c =
    let r = c.requires in
    let d = to_delete _ _ (known c.args.memory.now) c.args.disk.now r.session.orderly r.session.tidy r.allowed r.kept_up in
    let name = own_name _ _ (known c.args.memory.now) c.args.disk.now _ r.session.orderly d.own c.image_name-name.ensures in
    let after : Memory = record { tree = c.take.new.self; records = c.clear.new.self; logs = c.args.memory.now.logs; attached = c.args.memory.now.attached; operation = c.args.memory.now.operation } in
    shape_end g.S.Store c.args.store.now c.args.memory.now d name
    (c.sync.ensures.site ∙ c.clear.ensures.writes.stays.site ∙ c.in_ok-remove.ensures.commits.site) (c.sync.ensures.table.0 ∙ c.clear.ensures.writes.stays.table ∙ c.in_ok-remove.ensures.commits.table)
    after (known_ended c.args.memory.now after _ _ _ name c.take.ensures.rows c.in_ok-clear.ensures.places refl refl refl)

pub returns-clause-done : goal.returns-clause-done
returns-clause-done g c = λ told ready.
    let r = c.requires in
    let d = to_delete _ _ (known c.args.memory.now) c.args.disk.now r.session.orderly r.session.tidy r.allowed r.kept_up in
    let name = own_name _ _ (known c.args.memory.now) c.args.disk.now _ r.session.orderly d.own c.image_name-name.ensures in
    let w = c.clear.ensures.writes in
    let e = c.sync.ensures in
    let after : Memory = record { tree = c.take.new.self; records = c.clear.new.self; logs = c.args.memory.now.logs; attached = c.args.memory.now.attached; operation = c.args.memory.now.operation } in
    end_done
    (is_told g.S.Store c.args.store.now c.args.memory.now r.session.orderly r.session.usable told ready (g.met.S.Store.leaves_now c.args.store.now told r.session.usable)) d
    name c.in_ok-remove.ensures.commits (c.remove.ensures.crash told)
    w (g.met.S.Store.leaves_now c.clear.new.store told (w.stays.failed ∙ c.in_ok-remove.ensures.commits.usable))
    (record { site = e.site; table = e.table.0; failed = e.table.1; keeps = e.keeps told; leaves = e.leaves told }) (c.in_ok-sync.ensures.settled told) c.in_ok-clear.ensures.wrote
    after _ (known_ended c.args.memory.now after _ _ _ name c.take.ensures.rows c.in_ok-clear.ensures.places refl refl refl)
