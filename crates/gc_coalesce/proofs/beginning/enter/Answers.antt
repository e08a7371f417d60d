use Rattle.std.proofs.Common.{◌≡◌, [], false, refl, sym, ap, ap₂, ◌∙◌, subst, arith}
use Rattle.vg_meta.specs.Roomy.{table_alone}
use Rattle.vg_meta.specs.declared.changes.Change.TheVariants.{Create}
use Rattle.vg_volumes.specs.Stored.{CanCommit, Commits, IsEitherOf, stored}
use Rattle.sm_ready.specs.Does.{store_shape}
use Rattle.sm_ready.specs.Known.{Known, known, shape_in}
use Rattle.sm_ready.specs.declared.memory.Memory.{Memory}
use Rattle.sm_ready.proofs.ChainLaws.{err_not_ok}
use Rattle.sm_ready.proofs.FramingLaws.{commit_steps, failed_steps, more_steps, stays_now, then_steps}
use Rattle.sm_ready.proofs.RoomLaws.{rows_commits}
use Rattle.gc_coalesce.specs.Beginning.{copy_entry}
use Rattle.gc_coalesce.specs.Copying.{copy_of}
use Rattle.gc_coalesce.proofs.BeginEntry.{IsToEnter, can_put, child_named, extents_end, orderly_end, parent_named, put_done, put_failed, put_still, raise_failed, raise_still, shape_end, tidy_end, to_enter, true_end}
use Rattle.gc_coalesce.proofs.beginning.enter.Given.{Over}
use Rattle.gc_coalesce.proofs.beginning.enter.Goals as goal

pub entry_for-entry-requires-clause-child : goal.entry_for-entry-requires-clause-child
entry_for-entry-requires-clause-child g c = (child_named _ _ (known c.args.memory.now) _ _ c.requires.session.orderly c.requires.can.pair).0

pub entry_for-entry-requires-clause-parent : goal.entry_for-entry-requires-clause-parent
entry_for-entry-requires-clause-parent g c = (parent_named _ _ (known c.args.memory.now) _ _ c.requires.session.orderly c.requires.can.pair).0

pub returns-in_err-raise-clause-done : goal.returns-in_err-raise-clause-done
returns-in_err-raise-clause-done g c = λ told ready.
    let e = c.raise.ensures in
    raise_failed e.stays (e.safe told ready) (g.met.S.Store.leaves_now c.raise.new.store told (e.stays.failed ∙ c.requires.session.usable)) _ refl _ (λ fine. err_not_ok _ tt c.from_residual.ensures.0 fine)

pub returns-in_err-raise-clause-still : goal.returns-in_err-raise-clause-still
returns-in_err-raise-clause-still g c = λ told ready again.
    let e = c.raise.ensures in
    raise_still e.stays (e.safe told ready) (g.met.S.Store.leaves_now c.raise.new.store told (e.stays.failed ∙ c.requires.session.usable))

-- memory with the parent's new size
abbrev sized : (g : Over) (c : goal.After-put-arg-1 g) → IsToEnter (g.S.Store.site c.args.store.now) (table_alone (g.S.Store.table c.args.store.now)) (known c.raise.new.memory) c.args.kind c.args.child.now c.args.parent.now
sized g c = let e = c.in_ok-raise.ensures in to_enter {a = c.args.store.now} {b = c.raise.new.store} c.args.memory.now c.raise.new.memory c.requires.session.orderly c.requires.can e.stays e.session_still.orderly e.session_still.tidy e.shape e.others.operation

pub put-requires : goal.put-requires
put-requires g c =
    subst (λ n. CanCommit g.S.Store (Create n false []) c.raise.new.store) (sym c.entry_for-entry.ensures)
    (can_put c.raise.new.memory (sized g c) c.in_ok-raise.ensures.stays c.requires.session.usable (omega (arith, c.requires.row, c.in_ok-raise.ensures.stays.room.spare_rows)))

pub returns-in_err-put-clause-done : goal.returns-in_err-put-clause-done
returns-in_err-put-clause-done g c = λ told ready.
    let e = c.in_ok-raise.ensures in
    let h = to_enter {a = c.args.store.now} {b = c.raise.new.store} c.args.memory.now c.raise.new.memory c.requires.session.orderly c.requires.can e.stays e.session_still.orderly e.session_still.tidy e.shape e.others.operation in
    let w = e.ready told ready in
    put_failed c.raise.new.memory h e.stays c.requires.session.usable told (e.safe told ready) w.0 w.1 _ refl _ (λ fine. err_not_ok _ tt c.from_residual-in_err-put.ensures.0 fine) c.in_err-put.ensures.fails
    (λ v image l. subst (λ n. IsEitherOf (stored g.S.Store c.raise.new.store) (Create n false []) v image) c.entry_for-entry.ensures (c.put.ensures.crash told v image l))

pub returns-in_err-put-clause-still : goal.returns-in_err-put-clause-still
returns-in_err-put-clause-still g c = λ told ready again.
    let e = c.in_ok-raise.ensures in
    let h = to_enter {a = c.args.store.now} {b = c.raise.new.store} c.args.memory.now c.raise.new.memory c.requires.session.orderly c.requires.can e.stays e.session_still.orderly e.session_still.tidy e.shape e.others.operation in
    let w = e.ready told ready in
    put_still c.raise.new.memory h e.stays c.requires.session.usable told (e.safe told ready) w.0 w.1
    (λ v image l. subst (λ n. IsEitherOf (stored g.S.Store c.raise.new.store) (Create n false []) v image) c.entry_for-entry.ensures (c.put.ensures.crash told v image l))

-- the entry stands
abbrev put : (g : Over) (c : goal.After-set g) → IsToEnter (g.S.Store.site c.args.store.now) (table_alone (g.S.Store.table c.args.store.now)) (known c.raise.new.memory) c.args.kind c.args.child.now c.args.parent.now
put g c = let e = c.in_ok-raise.ensures in to_enter {a = c.args.store.now} {b = c.raise.new.store} c.args.memory.now c.raise.new.memory c.requires.session.orderly c.requires.can e.stays e.session_still.orderly e.session_still.tidy e.shape e.others.operation

commits : (g : Over) (c : goal.After-set g) → Commits g.S.Store (Create (copy_entry c.args.kind c.args.child.now c.args.parent.now) false []) c.raise.new.store c.put.new.store
commits g c = subst (λ n. Commits g.S.Store (Create n false []) c.raise.new.store c.put.new.store) c.entry_for-entry.ensures c.in_ok-put.ensures.commits

-- memory behind it
abbrev behind : (g : Over) (c : goal.After-set g) → Memory
behind g c = record { tree = c.raise.new.memory.tree; records = c.raise.new.memory.records; logs = c.raise.new.memory.logs; attached = c.raise.new.memory.attached; operation = c.set.new.self }

behind_is : (g : Over) (c : goal.After-set g) → known (behind g c) ≡ record (known c.raise.new.memory) { op = copy_of c.args.kind c.args.child.now c.args.parent.now 0 [] }
behind_is g c = ap (λ o. let k : Known = record (known c.raise.new.memory) { op = o } in k) (c.set.ensures ∙ c.first.ensures)

pub returns-clause-extents : goal.returns-clause-extents
returns-clause-extents g c = extents_end c.raise.new.memory (put g c) c.in_ok-raise.ensures.stays c.requires.session.usable (commits g c) (behind g c) (behind_is g c)

pub returns-clause-shape : goal.returns-clause-shape
unfolding shape_in
returns-clause-shape g c =
    let stays = c.in_ok-raise.ensures.stays in
    shape_end c.raise.new.memory (put g c) stays c.requires.session.usable (commits g c) (behind g c) (behind_is g c) (store_shape g.S.Store c.args.store.now c.args.memory.now)
    (sym (ap₂ (λ y z. shape_in y z (known c.raise.new.memory)) stays.site stays.table) ∙ c.in_ok-raise.ensures.shape) refl

pub returns-clause-done : goal.returns-clause-done
returns-clause-done g c = λ told ready.
    let e = c.in_ok-raise.ensures in
    let w = e.ready told ready in
    put_done c.raise.new.memory (put g c) e.stays c.requires.session.usable told (e.safe told ready) w.0 w.1 (behind g c) _ (commits g c)
    (λ v image l. subst (λ n. IsEitherOf (stored g.S.Store c.raise.new.store) (Create n false []) v image) c.entry_for-entry.ensures (c.put.ensures.crash told v image l)) (behind_is g c)

pub returns-clause-still : goal.returns-clause-still
returns-clause-still g c = λ told ready again.
    let e = c.in_ok-raise.ensures in
    let w = e.ready told ready in
    put_still c.raise.new.memory (put g c) e.stays c.requires.session.usable told (e.safe told ready) w.0 w.1
    (λ v image l. subst (λ n. IsEitherOf (stored g.S.Store c.raise.new.store) (Create n false []) v image) c.entry_for-entry.ensures (c.put.ensures.crash told v image l))

pub returns-in_err-raise-clause-step : goal.returns-in_err-raise-clause-step
returns-in_err-raise-clause-step g c = more_steps (omega arith) (stays_now g.met.S.Store.leaves_now c.requires.session.usable c.raise.ensures.stays)

pub returns-in_err-put-clause-step : goal.returns-in_err-put-clause-step
returns-in_err-put-clause-step g c =
    then_steps (stays_now g.met.S.Store.leaves_now c.requires.session.usable c.raise.ensures.stays) (failed_steps (Create c.entry_for-entry.result false []) c.in_err-put.ensures.fails c.put.ensures.crash)

pub returns-clause-step : goal.returns-clause-step
returns-clause-step g c = then_steps (stays_now g.met.S.Store.leaves_now c.requires.session.usable c.raise.ensures.stays) (commit_steps c.in_ok-put.ensures.commits c.put.ensures.crash)

pub returns-clause-session_still : goal.returns-clause-session_still
returns-clause-session_still g c =
    let e = c.in_ok-raise.ensures in
    let r = c.requires in
    record {
      usable = c.in_ok-put.ensures.commits.usable;
      orderly = orderly_end c.raise.new.memory (put g c) e.stays r.session.usable (commits g c) (behind g c) (behind_is g c);
      tidy = tidy_end c.raise.new.memory (put g c) e.stays r.session.usable (commits g c) (behind g c) (behind_is g c);
      true_images = true_end c.raise.new.memory (put g c) e.stays r.session.usable (commits g c) (behind g c) (behind_is g c) refl e.session_still.true_images;
      rows = rows_commits (can_put c.raise.new.memory (put g c) e.stays r.session.usable (omega (arith, r.row, e.stays.room.spare_rows))) (commits g c) e.session_still.rows;
      tree_room = e.session_still.tree_room;
      attachment_room = e.session_still.attachment_room;
    }
