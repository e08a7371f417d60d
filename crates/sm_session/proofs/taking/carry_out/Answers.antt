use Rattle.std.proofs.Common.{arith, ◌≡◌, ◌⊎◌, ⊎_elim, inl, inr, true, None, IfOk, Ok, refl, sym, ap, ◌∙◌, subst}
use Rattle.std.proofs.lemmas.Bool.{true≢false}
use Rattle.std.proofs.lemmas.Result.{err_from_is_err_and}
use Rattle.vg_meta.specs.Roomy.{table_alone}
use Rattle.sm_machine.specs.Refusals.{refusal}
use Rattle.sm_base.specs.declared.refusals.Refusal.TheVariants.{NoMemory}
use Rattle.sm_machine.specs.declared.replies.Reply.TheVariants.{No}
use Rattle.sm_machine.specs.Runs.{is_accepted, is_settling, takes_memory}
use Rattle.sm_run.specs.Runs.{may_want_memory}
use Rattle.sm_machine.specs.Steps.{reply_to}
use Rattle.sm_machine.specs.declared.commands.Command.TheVariants as command
use Rattle.cmd_list.proofs.ListLaws.{step_after}
use Rattle.cmd_list.proofs.StatSteps.{stat_after, stat_reply}
use Rattle.sm_ready.specs.Does.{ShapesAs, StoreDoes, store_shape}
use Rattle.sm_ready.specs.Known.{known, shape_in}
use Rattle.sm_ready.specs.Orderly.{IsOrderly}
use Rattle.sm_ready.specs.Ready.{IsTidy}
use Rattle.sm_ready.specs.Sessions.{store_state}
use Rattle.sm_ready.specs.Taken.{StoreTakes}
use Rattle.sm_ready.proofs.DoesLaws.{does_err, does_ok}
use Rattle.sm_ready.proofs.TakenLaws.{is_told, taken_answered}
use Rattle.sm_session.specs.Carrying.{most_commits}
use Rattle.sm_session.proofs.CarryLaws.{of_reply, others_guests, steps_by, steps_none, steps_stay}
use Rattle.sm_session.proofs.taking.carry_out.Goals as goal

pub returns-in_err-delete-in-Delete-clause-taken : goal.returns-in_err-delete-in-Delete-clause-taken
returns-in_err-delete-in-Delete-clause-taken g c = λ told ready.
    let e = err_from_is_err_and c.from_residual.result c.from_residual.ensures.1 in
    subst (λ k. StoreTakes g.S.Store k c.args.store.now c.args.memory.now c.delete.new.store c.delete.new.memory c.from_residual.result) (sym c.in-Delete.is)
    (subst (λ r. StoreTakes g.S.Store (command.Delete c.in-Delete.disk) c.args.store.now c.args.memory.now c.delete.new.store c.delete.new.memory r) (sym e.1)
    (does_err (is_told g.S.Store c.args.store.now c.args.memory.now c.requires.session.orderly c.requires.session.usable told ready (g.met.S.Store.leaves_now c.args.store.now told c.requires.session.usable)) (command.Delete c.in-Delete.disk) c.delete.new.memory
    (subst (λ k. refusal (store_shape g.S.Store c.args.store.now c.args.memory.now) k ≡ None) c.in-Delete.is c.requires.allowed) (c.delete.ensures.done told ready) e.0))

pub returns-in_ok-delete-in-Delete-clause-refused : goal.returns-in_ok-delete-in-Delete-clause-refused
unfolding is_accepted
returns-in_ok-delete-in-Delete-clause-refused g c = λ e. absurd (true≢false e)

pub returns-in_ok-delete-in-Delete-clause-untouched : goal.returns-in_ok-delete-in-Delete-clause-untouched
unfolding is_accepted
returns-in_ok-delete-in-Delete-clause-untouched g c = λ e. absurd (true≢false e)

pub returns-in_ok-delete-in-Delete-clause-taken : goal.returns-in_ok-delete-in-Delete-clause-taken
unfolding reply_to
returns-in_ok-delete-in-Delete-clause-taken g c = λ told ready.
    does_ok (is_told g.S.Store c.args.store.now c.args.memory.now c.requires.session.orderly c.requires.session.usable told ready (g.met.S.Store.leaves_now c.args.store.now told c.requires.session.usable)) c.args.command.now c.delete.new.memory c.requires.allowed
    (subst (λ k. StoreDoes g.S.Store k c.args.store.now c.args.memory.now c.delete.new.store c.delete.new.memory (c.delete.result ≡ Ok tt)) (sym c.in-Delete.is) (c.delete.ensures.done told ready))
    _ (sym (ap (reply_to (store_state g.S.Store c.args.store.now c.args.memory.now).disks (store_state g.S.Store c.args.store.now c.args.memory.now).shape) c.in-Delete.is)) c.in_ok-delete-in-Delete.was c.delete.ensures.step.site
    (subst (λ k. ShapesAs g.S.Store k c.args.store.now c.args.memory.now c.delete.new.store c.delete.new.memory) (sym c.in-Delete.is) c.in_ok-delete-in-Delete.ensures.shape)

pub returns-in_err-label-in-Label-clause-taken : goal.returns-in_err-label-in-Label-clause-taken
returns-in_err-label-in-Label-clause-taken g c = λ told ready.
    let e = err_from_is_err_and c.from_residual-in_err-label-in-Label.result c.from_residual-in_err-label-in-Label.ensures.1 in
    subst (λ k. StoreTakes g.S.Store k c.args.store.now c.args.memory.now c.label.new.store c.label.new.memory c.from_residual-in_err-label-in-Label.result) (sym c.in-Label.is)
    (subst (λ r. StoreTakes g.S.Store (command.Label c.in-Label.disk c.in-Label.text) c.args.store.now c.args.memory.now c.label.new.store c.label.new.memory r) (sym e.1)
    (does_err (is_told g.S.Store c.args.store.now c.args.memory.now c.requires.session.orderly c.requires.session.usable told ready (g.met.S.Store.leaves_now c.args.store.now told c.requires.session.usable)) (command.Label c.in-Label.disk c.in-Label.text) c.label.new.memory
    (subst (λ k. refusal (store_shape g.S.Store c.args.store.now c.args.memory.now) k ≡ None) c.in-Label.is c.requires.allowed) (c.label.ensures.done told ready) e.0))

pub returns-in_ok-label-in-Label-clause-refused : goal.returns-in_ok-label-in-Label-clause-refused
unfolding is_accepted
returns-in_ok-label-in-Label-clause-refused g c = λ e. absurd (true≢false e)

pub returns-in_ok-label-in-Label-clause-untouched : goal.returns-in_ok-label-in-Label-clause-untouched
unfolding is_accepted
returns-in_ok-label-in-Label-clause-untouched g c = λ e. absurd (true≢false e)

pub returns-in_ok-label-in-Label-clause-taken : goal.returns-in_ok-label-in-Label-clause-taken
unfolding reply_to
returns-in_ok-label-in-Label-clause-taken g c = λ told ready.
    does_ok (is_told g.S.Store c.args.store.now c.args.memory.now c.requires.session.orderly c.requires.session.usable told ready (g.met.S.Store.leaves_now c.args.store.now told c.requires.session.usable)) c.args.command.now c.label.new.memory c.requires.allowed
    (subst (λ k. StoreDoes g.S.Store k c.args.store.now c.args.memory.now c.label.new.store c.label.new.memory (c.label.result ≡ Ok tt)) (sym c.in-Label.is) (c.label.ensures.done told ready))
    _ (sym (ap (reply_to (store_state g.S.Store c.args.store.now c.args.memory.now).disks (store_state g.S.Store c.args.store.now c.args.memory.now).shape) c.in-Label.is)) c.in_ok-label-in-Label.was c.label.ensures.stays.site
    (subst (λ k. ShapesAs g.S.Store k c.args.store.now c.args.memory.now c.label.new.store c.label.new.memory) (sym c.in-Label.is) c.in_ok-label-in-Label.ensures.shape)

pub returns-else-raw-clause-taken : goal.returns-else-raw-clause-taken
returns-else-raw-clause-taken g c = λ told ready.
    (subst (λ k. StoreTakes g.S.Store k c.args.store.now c.args.memory.now c.create_vhd.new.store c.create_vhd.new.memory c.create_vhd.result)
    (sym (c.in-Create.is ∙ ap (λ b. command.Create c.in-Create.disk c.in-Create.size b c.in-Create.label) c.if-raw.false)) (c.create_vhd.ensures.taken told ready))

pub returns-in-List-clause-taken : goal.returns-in-List-clause-taken
unfolding is_settling shape_in
returns-in-List-clause-taken g c = λ told ready.
    let a = c.args.store.now in
    let listed = c.list.ensures.listed (g.S.Store.site a) (table_alone (g.S.Store.table a)) (g.S.Store.area a) c.requires.session.orderly c.requires.session.tidy ready in
    subst (λ k. StoreTakes g.S.Store k a c.args.memory.now a c.args.memory.now (Ok c.list.result)) (sym c.in-List.is)
    (taken_answered (is_told g.S.Store c.args.store.now c.args.memory.now c.requires.session.orderly c.requires.session.usable told ready (g.met.S.Store.leaves_now c.args.store.now told c.requires.session.usable)) _ listed (step_after (store_state g.S.Store a c.args.memory.now) c.requires.session.orderly.table.sequence) refl)

pub serve-requires-clause-guests : goal.serve-requires-clause-guests
serve-requires-clause-guests g c = others_guests c.args.command.now c.in_default.not-Create c.in_default.not-Delete c.in_default.not-Label c.in_default.not-Resize c.in_default.not-Snapshot c.in_default.not-Clone c.in_default.not-List c.in_default.not-Stat c.in_default.not-Gc c.requires.disks

pub returns-then-raw-clause-spared : goal.returns-then-raw-clause-spared
unfolding may_want_memory takes_memory
returns-then-raw-clause-spared g c = of_reply (λ r. r ≡ No NoMemory → may_want_memory (store_shape g.S.Store c.args.store.now c.args.memory.now) c.args.command.now ≡ true) c.create.result (λ r e. subst (λ k. may_want_memory (store_shape g.S.Store c.args.store.now c.args.memory.now) k ≡ true) (sym c.in-Create.is) refl)

pub returns-else-raw-clause-spared : goal.returns-else-raw-clause-spared
unfolding may_want_memory takes_memory
returns-else-raw-clause-spared g c = of_reply (λ r. r ≡ No NoMemory → may_want_memory (store_shape g.S.Store c.args.store.now c.args.memory.now) c.args.command.now ≡ true) c.create_vhd.result (λ r e. subst (λ k. may_want_memory (store_shape g.S.Store c.args.store.now c.args.memory.now) k ≡ true) (sym c.in-Create.is) refl)

pub returns-in-List-clause-spared : goal.returns-in-List-clause-spared
unfolding may_want_memory takes_memory
returns-in-List-clause-spared g c = λ e. subst (λ k. may_want_memory (store_shape g.S.Store c.args.store.now c.args.memory.now) k ≡ true) (sym c.in-List.is) refl

pub returns-in-Resize-clause-spared : goal.returns-in-Resize-clause-spared
returns-in-Resize-clause-spared g c = subst (λ k. IfOk c.raise.result (λ r. r ≡ No NoMemory → may_want_memory (store_shape g.S.Store c.args.store.now c.args.memory.now) k ≡ true)) (sym c.in-Resize.is) c.raise.ensures.spared

pub returns-in-Resize-clause-taken : goal.returns-in-Resize-clause-taken
returns-in-Resize-clause-taken g c = λ told ready.
    subst (λ k. StoreTakes g.S.Store k c.args.store.now c.args.memory.now c.raise.new.store c.raise.new.memory c.raise.result) (sym c.in-Resize.is) (c.raise.ensures.taken told ready)

pub returns-in-Snapshot-clause-spared : goal.returns-in-Snapshot-clause-spared
unfolding may_want_memory takes_memory
returns-in-Snapshot-clause-spared g c = of_reply (λ r. r ≡ No NoMemory → may_want_memory (store_shape g.S.Store c.args.store.now c.args.memory.now) c.args.command.now ≡ true) c.derive.result (λ r e. subst (λ k. may_want_memory (store_shape g.S.Store c.args.store.now c.args.memory.now) k ≡ true) (sym c.in-Snapshot.is) refl)

pub returns-in-Snapshot-clause-taken : goal.returns-in-Snapshot-clause-taken
returns-in-Snapshot-clause-taken g c = λ told ready.
    subst (λ k. StoreTakes g.S.Store k c.args.store.now c.args.memory.now c.derive.new.store c.derive.new.memory c.derive.result) (sym c.in-Snapshot.is) (c.derive.ensures.taken told ready)

pub returns-in-Clone-clause-spared : goal.returns-in-Clone-clause-spared
unfolding may_want_memory takes_memory
returns-in-Clone-clause-spared g c = of_reply (λ r. r ≡ No NoMemory → may_want_memory (store_shape g.S.Store c.args.store.now c.args.memory.now) c.args.command.now ≡ true) c.derive-in-Clone.result (λ r e. subst (λ k. may_want_memory (store_shape g.S.Store c.args.store.now c.args.memory.now) k ≡ true) (sym c.in-Clone.is) refl)

pub returns-in-Clone-clause-taken : goal.returns-in-Clone-clause-taken
returns-in-Clone-clause-taken g c = λ told ready.
    subst (λ k. StoreTakes g.S.Store k c.args.store.now c.args.memory.now c.derive-in-Clone.new.store c.derive-in-Clone.new.memory c.derive-in-Clone.result) (sym c.in-Clone.is) (c.derive-in-Clone.ensures.taken told ready)

pub returns-in-Stat-clause-spared : goal.returns-in-Stat-clause-spared
unfolding may_want_memory takes_memory
returns-in-Stat-clause-spared g c = λ e. subst (λ k. may_want_memory (store_shape g.S.Store c.args.store.now c.args.memory.now) k ≡ true) (sym c.in-Stat.is) refl

pub returns-in-Stat-clause-taken : goal.returns-in-Stat-clause-taken
unfolding is_settling shape_in
returns-in-Stat-clause-taken g c = λ told ready.
    let a = c.args.store.now in
    let σ = store_state g.S.Store a c.args.memory.now in
    let at = c.table.ensures.table in
    let answered = subst (λ k. (c.stat.result ≡ No NoMemory) ⊎ (c.stat.result ≡ reply_to σ.disks (shape_in (g.S.Store.site a) (table_alone k) (known c.args.memory.now)) command.Stat)) at
    (c.stat.ensures.answered (g.S.Store.site a) σ.disks (sym c.extents-extents.ensures.count) (subst (λ k. IsOrderly (g.S.Store.site a) (table_alone k) (known c.args.memory.now)) (sym at) c.requires.session.orderly)
    (subst (λ k. IsTidy (table_alone k) (known c.args.memory.now)) (sym at) c.requires.session.tidy)) in
    subst (λ k. StoreTakes g.S.Store k a c.args.memory.now a c.args.memory.now (Ok c.stat.result)) (sym c.in-Stat.is)
    (taken_answered (is_told g.S.Store c.args.store.now c.args.memory.now c.requires.session.orderly c.requires.session.usable told ready (g.met.S.Store.leaves_now c.args.store.now told c.requires.session.usable)) _
    (⊎_elim (λ poor. inl poor) (λ is. inr (is ∙ sym (stat_reply σ))) answered) (stat_after σ c.requires.session.orderly.table.sequence) refl)

pub returns-in-Gc-clause-spared : goal.returns-in-Gc-clause-spared
unfolding may_want_memory
returns-in-Gc-clause-spared g c = subst (λ k. IfOk c.gc.result (λ r. r ≡ No NoMemory → may_want_memory (store_shape g.S.Store c.args.store.now c.args.memory.now) k ≡ true)) (sym c.in-Gc.is) c.gc.ensures.spared_plan

pub returns-then-raw-clause-step : goal.returns-then-raw-clause-step
unfolding most_commits
returns-then-raw-clause-step g c = steps_by c.args.command.now _ 2 c.in-Create.is (omega arith) c.create.ensures.step

pub returns-else-raw-clause-step : goal.returns-else-raw-clause-step
unfolding most_commits
returns-else-raw-clause-step g c = steps_by c.args.command.now _ 2 c.in-Create.is (omega arith) c.create_vhd.ensures.step

pub returns-in_err-delete-in-Delete-clause-step : goal.returns-in_err-delete-in-Delete-clause-step
unfolding most_commits
returns-in_err-delete-in-Delete-clause-step g c = steps_by c.args.command.now _ 2 c.in-Delete.is (omega arith) c.delete.ensures.step

pub returns-in_ok-delete-in-Delete-clause-step : goal.returns-in_ok-delete-in-Delete-clause-step
unfolding most_commits
returns-in_ok-delete-in-Delete-clause-step g c = steps_by c.args.command.now _ 2 c.in-Delete.is (omega arith) c.delete.ensures.step

pub returns-in-Resize-clause-step : goal.returns-in-Resize-clause-step
unfolding most_commits
returns-in-Resize-clause-step g c = steps_by c.args.command.now _ 4 c.in-Resize.is (omega arith) c.raise.ensures.step

pub returns-in-Snapshot-clause-step : goal.returns-in-Snapshot-clause-step
unfolding most_commits
returns-in-Snapshot-clause-step g c = steps_by c.args.command.now _ 9 c.in-Snapshot.is (omega arith) c.derive.ensures.step

pub returns-in-Clone-clause-step : goal.returns-in-Clone-clause-step
unfolding most_commits
returns-in-Clone-clause-step g c = steps_by c.args.command.now _ 9 c.in-Clone.is (omega arith) c.derive-in-Clone.ensures.step

pub returns-in-Gc-clause-step : goal.returns-in-Gc-clause-step
unfolding most_commits
returns-in-Gc-clause-step g c = steps_by c.args.command.now _ 5 c.in-Gc.is (omega arith) c.gc.ensures.step

pub returns-in_err-label-in-Label-clause-step : goal.returns-in_err-label-in-Label-clause-step
returns-in_err-label-in-Label-clause-step g c = steps_stay (most_commits c.args.command.now) (λ told usable t image. g.met.S.Store.leaves_now c.label.new.store told usable t image) c.requires.session.usable c.label.ensures.stays

pub returns-in_ok-label-in-Label-clause-step : goal.returns-in_ok-label-in-Label-clause-step
returns-in_ok-label-in-Label-clause-step g c = steps_stay (most_commits c.args.command.now) (λ told usable t image. g.met.S.Store.leaves_now c.label.new.store told usable t image) c.requires.session.usable c.label.ensures.stays

pub returns-in-List-clause-step : goal.returns-in-List-clause-step
returns-in-List-clause-step g c = steps_none g.S.Store (most_commits c.args.command.now) c.args.store.now (λ told usable t image. g.met.S.Store.leaves_now c.args.store.now told usable t image) c.requires.session.usable

pub returns-in-Stat-clause-step : goal.returns-in-Stat-clause-step
returns-in-Stat-clause-step g c = steps_none g.S.Store (most_commits c.args.command.now) c.args.store.now (λ told usable t image. g.met.S.Store.leaves_now c.args.store.now told usable t image) c.requires.session.usable
