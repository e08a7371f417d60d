use Rattle.std.proofs.Common.{arith, ◌≡◌, inl, inr, ◌+◌, ◌/◌, ℕ, List, length, None, IfOk, Ok, true, refl, sym, ap, ◌∙◌, subst}
use Rattle.std.proofs.lemmas.Result.{err_from_is_err_and}
use Rattle.vg_meta.specs.Roomy.{table_alone}
use Rattle.sm_machine.specs.declared.commands.Command.TheVariants as command
use Rattle.sm_base.specs.declared.refusals.Refusal.TheVariants.{NoMemory}
use Rattle.sm_log.specs.Logs.{without_log}
use Rattle.sm_machine.specs.Runs.{takes_memory}
use Rattle.sm_machine.specs.declared.replies.Reply.TheVariants.{No}
use Rattle.sm_run.specs.Runs.{may_want_memory}
use Rattle.sm_ready.specs.Ready.{IsReady}
use Rattle.sm_machine.specs.Refusals.{refusal}
use Rattle.sm_machine.specs.Tracking.{logs_after}
use Rattle.sm_ready.specs.Does.{store_shape}
use Rattle.sm_ready.specs.Framing.{StepsOn}
use Rattle.sm_ready.specs.Known.{known, shape_in}
use Rattle.sm_ready.specs.Sessions.{store_state}
use Rattle.sm_ready.specs.Taken.{StoreTakes}
use Rattle.sm_ready.proofs.FramingLaws.{more_steps, then_steps}
use Rattle.sm_ready.proofs.TakenLaws.{is_told}
use Rattle.sm_session.specs.Carrying.{is_of_logs, most_commits, most_log_commits}
use Rattle.sm_session.specs.Stepped.{StoreSteps}
use Rattle.sm_machine.specs.Steps.{step}
use Rattle.sm_session.proofs.CarryLaws.{of_reply, on_ok, steps_none, steps_stay, stopped_at}
use Rattle.sm_session.proofs.LoggedLaws.{accepts, delete_carries, delete_rich, end_stepped, end_stopped, fits_log, logs_behind, logs_marked, marks_puts, marks_stepped, marks_stopped, marks_then, never_poor, no_marks, not_of_logs, nothing_put, passes_marked, ready_behind, rich_refused, rich_spared, shape_end, shape_marked, some_sectors, state_marked, step_marked, step_same, stepped_same, stopped_same, write_carries, write_of}
use Rattle.sm_session.proofs.ToldLaws.{delete_still, no_write}
use Rattle.sm_session.proofs.TrackLaws.{changed_stepped}
use Rattle.sm_session.proofs.TruthLaws.{marks_grow}
use Rattle.sm_session.proofs.taking.carry_tracked.Goals as goal

-- ---- what is no command of logs alone

pub carry_out-requires-clause-disks : goal.carry_out-requires-clause-disks
unfolding is_of_logs
carry_out-requires-clause-disks g c = ap is_of_logs c.in-Write.is

pub carry_out-requires-in-Fill-clause-disks : goal.carry_out-requires-in-Fill-clause-disks
unfolding is_of_logs
carry_out-requires-in-Fill-clause-disks g c = ap is_of_logs c.in-Fill.is

pub carry_out-requires-in-Delete-clause-disks : goal.carry_out-requires-in-Delete-clause-disks
unfolding is_of_logs
carry_out-requires-in-Delete-clause-disks g c = ap is_of_logs c.in-Delete.is

pub carry_out-requires-in_default : goal.carry_out-requires-in_default
carry_out-requires-in_default g c = record {
  session = c.requires.session;
  buffer = c.requires.buffer;
  children = c.requires.children;
  allowed = c.requires.allowed;
  disks = not_of_logs c.args.command.now c.in_default.not-Track c.in_default.not-Changed;
}

-- ---- a write

pub mark-requires-clause-some : goal.mark-requires-clause-some
mark-requires-clause-some g c = some_sectors c.args.command.now (store_shape g.S.Store c.args.store.now c.args.memory.now) (write_of c.len.result c.in-Write.is (c.len.ensures ∙ c.bytes.inside.bytes.ok.0 ∙ ap (λ (xs : List ℕ). length xs) c.bytes.view_is)) c.requires.allowed

pub returns-in_err-mark-in-Write-clause-taken : goal.returns-in_err-mark-in-Write-clause-taken
unfolding shape_in
returns-in_err-mark-in-Write-clause-taken g c = λ told ready good.
    let σ = store_shape g.S.Store c.args.store.now c.args.memory.now in
    let e = err_from_is_err_and c.from_residual.result c.from_residual.ensures.1 in
    let h = is_told g.S.Store c.args.store.now c.args.memory.now c.requires.session.orderly c.requires.session.usable told ready (g.met.S.Store.leaves_now c.args.store.now told c.requires.session.usable) in
    subst (StoreSteps g.S.Store c.args.command.now c.args.store.now c.args.memory.now c.mark.new.store c.mark.new.memory) (sym e.1)
    (marks_stopped h good c.mark.ensures.works.stays.site
    (c.mark.ensures.marked told ready (fits_log c.args.command.now σ (write_of c.len.result c.in-Write.is (c.len.ensures ∙ c.bytes.inside.bytes.ok.0 ∙ ap (λ (xs : List ℕ). length xs) c.bytes.view_is)) c.requires.allowed c.requires.session.orderly.well_formed good)) c.args.command.now e.0
    (steps_stay (most_commits c.args.command.now + most_log_commits c.args.command.now) (λ told usable t image. g.met.S.Store.leaves_now c.mark.new.store told usable t image) c.requires.session.usable c.mark.ensures.works.stays) (write_carries c.args.command.now σ (write_of c.len.result c.in-Write.is (c.len.ensures ∙ c.bytes.inside.bytes.ok.0 ∙ ap (λ (xs : List ℕ). length xs) c.bytes.view_is)))
    (sym (logs_behind (store_state g.S.Store c.args.store.now c.args.memory.now) c.args.command.now c.requires.allowed ∙ logs_marked c.args.command.now σ (write_of c.len.result c.in-Write.is (c.len.ensures ∙ c.bytes.inside.bytes.ok.0 ∙ ap (λ (xs : List ℕ). length xs) c.bytes.view_is))))
    (marks_grow c.in-Write.disk c.in-Write.sector (c.len.result / 512) c.args.memory.now.logs))

pub carry_out-requires-clause-allowed : goal.carry_out-requires-clause-allowed
carry_out-requires-clause-allowed g c =
    let σ = store_shape g.S.Store c.args.store.now c.args.memory.now in
    subst (λ s. refusal s c.args.command.now ≡ None) (sym (shape_marked c.in-Write.disk c.in-Write.sector (c.len.result / 512) g.S.Store c.args.store.now c.mark.new.store c.args.memory.now c.mark.new.memory c.mark.ensures.works.stays c.mark.ensures.memory))
    (passes_marked c.args.command.now σ _ (write_of c.len.result c.in-Write.is (c.len.ensures ∙ c.bytes.inside.bytes.ok.0 ∙ ap (λ (xs : List ℕ). length xs) c.bytes.view_is)) c.requires.allowed)

pub returns-in_err-mark-in-Write-clause-step : goal.returns-in_err-mark-in-Write-clause-step
returns-in_err-mark-in-Write-clause-step g c =
    steps_stay (most_commits c.args.command.now + most_log_commits c.args.command.now) (λ told usable t image. g.met.S.Store.leaves_now c.mark.new.store told usable t image) c.requires.session.usable c.mark.ensures.works.stays

pub returns-in_err-mark-in-Write-clause-writes : goal.returns-in_err-mark-in-Write-clause-writes
returns-in_err-mark-in-Write-clause-writes g c = marks_puts c.args.memory.now c.args.command.now (write_of c.len.result c.in-Write.is (c.len.ensures ∙ c.bytes.inside.bytes.ok.0 ∙ ap (λ (xs : List ℕ). length xs) c.bytes.view_is)) c.mark.ensures.works

pub returns-in_ok-mark-in-Write-clause-step : goal.returns-in_ok-mark-in-Write-clause-step
returns-in_ok-mark-in-Write-clause-step g c =
    more_steps (omega arith) (then_steps (steps_stay 0 (λ told usable t image. g.met.S.Store.leaves_now c.mark.new.store told usable t image) c.requires.session.usable c.mark.ensures.works.stays) c.carry_out.ensures.step)

pub returns-in_ok-mark-in-Write-clause-logs : goal.returns-in_ok-mark-in-Write-clause-logs
unfolding shape_in
returns-in_ok-mark-in-Write-clause-logs g c =
    on_ok c.carry_out.result (inr (c.carry_out.ensures.logs ∙ ap (λ m. m.logs) c.mark.ensures.memory ∙ sym (logs_marked c.args.command.now (store_shape g.S.Store c.args.store.now c.args.memory.now) (write_of c.len.result c.in-Write.is (c.len.ensures ∙ c.bytes.inside.bytes.ok.0 ∙ ap (λ (xs : List ℕ). length xs) c.bytes.view_is)))))

pub returns-in_ok-mark-in-Write-clause-refused : goal.returns-in_ok-mark-in-Write-clause-refused
returns-in_ok-mark-in-Write-clause-refused g c = rich_refused _ _ _ (never_poor c.args.command.now _ (write_of c.len.result c.in-Write.is (c.len.ensures ∙ c.bytes.inside.bytes.ok.0 ∙ ap (λ (xs : List ℕ). length xs) c.bytes.view_is))) c.carry_out.ensures.poor c.carry_out.ensures.spared

pub returns-in_ok-mark-in-Write-clause-spared : goal.returns-in_ok-mark-in-Write-clause-spared
returns-in_ok-mark-in-Write-clause-spared g c = rich_spared _ _ _ (never_poor c.args.command.now _ (write_of c.len.result c.in-Write.is (c.len.ensures ∙ c.bytes.inside.bytes.ok.0 ∙ ap (λ (xs : List ℕ). length xs) c.bytes.view_is))) c.carry_out.ensures.spared

pub returns-in_ok-mark-in-Write-clause-untouched : goal.returns-in_ok-mark-in-Write-clause-untouched
returns-in_ok-mark-in-Write-clause-untouched g c = rich_refused _ _ _ (never_poor c.args.command.now _ (write_of c.len.result c.in-Write.is (c.len.ensures ∙ c.bytes.inside.bytes.ok.0 ∙ ap (λ (xs : List ℕ). length xs) c.bytes.view_is))) c.carry_out.ensures.poor c.carry_out.ensures.spared

pub returns-in_ok-mark-in-Write-clause-writes : goal.returns-in_ok-mark-in-Write-clause-writes
returns-in_ok-mark-in-Write-clause-writes g c = marks_then c.args.memory.now c.args.command.now c.mark.new.memory c.carry_out.new.store (write_of c.len.result c.in-Write.is (c.len.ensures ∙ c.bytes.inside.bytes.ok.0 ∙ ap (λ (xs : List ℕ). length xs) c.bytes.view_is)) c.mark.ensures.works c.mark.ensures.memory
    (λ told ready within. (c.mark.ensures.marked told ready within).ready c.in_ok-mark-in-Write.was) c.carry_out.ensures.writes

pub returns-in_ok-mark-in-Write-clause-taken : goal.returns-in_ok-mark-in-Write-clause-taken
unfolding shape_in
returns-in_ok-mark-in-Write-clause-taken g c = λ told ready good.
    let σ = store_shape g.S.Store c.args.store.now c.args.memory.now in
    let h = is_told g.S.Store c.args.store.now c.args.memory.now c.requires.session.orderly c.requires.session.usable told ready (g.met.S.Store.leaves_now c.args.store.now told c.requires.session.usable) in
    let x = c.mark.ensures.marked told ready (fits_log c.args.command.now σ (write_of c.len.result c.in-Write.is (c.len.ensures ∙ c.bytes.inside.bytes.ok.0 ∙ ap (λ (xs : List ℕ). length xs) c.bytes.view_is)) c.requires.allowed c.requires.session.orderly.well_formed good) in
    marks_stepped h good c.mark.ensures.works.stays.site x c.carry_out.new.store c.carry_out.new.memory c.args.command.now c.carry_out.result
    (ap (λ (z : _). step z c.args.command.now) (state_marked c.in-Write.disk c.in-Write.sector (c.len.result / 512) g.S.Store c.args.store.now c.mark.new.store c.args.memory.now c.mark.new.memory c.mark.ensures.works.stays c.mark.ensures.memory x.shown)
    ∙ step_marked (store_state g.S.Store c.args.store.now c.args.memory.now) c.args.command.now (write_of c.len.result c.in-Write.is (c.len.ensures ∙ c.bytes.inside.bytes.ok.0 ∙ ap (λ (xs : List ℕ). length xs) c.bytes.view_is)) c.requires.allowed)
    (rich_spared _ _ _ (never_poor c.args.command.now _ (write_of c.len.result c.in-Write.is (c.len.ensures ∙ c.bytes.inside.bytes.ok.0 ∙ ap (λ (xs : List ℕ). length xs) c.bytes.view_is))) c.carry_out.ensures.spared)
    c.in-Write.disk c.in-Write.sector (c.len.result / 512) (write_of c.len.result c.in-Write.is (c.len.ensures ∙ c.bytes.inside.bytes.ok.0 ∙ ap (λ (xs : List ℕ). length xs) c.bytes.view_is)) c.requires.allowed
    (then_steps (steps_stay 0 (λ told usable t image. g.met.S.Store.leaves_now c.mark.new.store told usable t image) c.requires.session.usable c.mark.ensures.works.stays) c.carry_out.ensures.step) (write_carries c.args.command.now σ (write_of c.len.result c.in-Write.is (c.len.ensures ∙ c.bytes.inside.bytes.ok.0 ∙ ap (λ (xs : List ℕ). length xs) c.bytes.view_is)))
    (c.carry_out.ensures.logs ∙ ap (λ m. m.logs) c.mark.ensures.memory ∙ sym (logs_behind (store_state g.S.Store c.args.store.now c.args.memory.now) c.args.command.now c.requires.allowed ∙ logs_marked c.args.command.now σ (write_of c.len.result c.in-Write.is (c.len.ensures ∙ c.bytes.inside.bytes.ok.0 ∙ ap (λ (xs : List ℕ). length xs) c.bytes.view_is))))
    (c.carry_out.ensures.taken told (x.ready (c.in_ok-mark-in-Write.was)))

-- ---- a fill

pub mark-requires-in-Fill-clause-some : goal.mark-requires-in-Fill-clause-some
mark-requires-in-Fill-clause-some g c = some_sectors c.args.command.now (store_shape g.S.Store c.args.store.now c.args.memory.now) (inr (c.in-Fill.byte, c.in-Fill.is)) c.requires.allowed

pub returns-in_err-mark-in-Fill-clause-taken : goal.returns-in_err-mark-in-Fill-clause-taken
unfolding shape_in
returns-in_err-mark-in-Fill-clause-taken g c = λ told ready good.
    let σ = store_shape g.S.Store c.args.store.now c.args.memory.now in
    let e = err_from_is_err_and c.from_residual-in_err-mark-in-Fill.result c.from_residual-in_err-mark-in-Fill.ensures.1 in
    let h = is_told g.S.Store c.args.store.now c.args.memory.now c.requires.session.orderly c.requires.session.usable told ready (g.met.S.Store.leaves_now c.args.store.now told c.requires.session.usable) in
    subst (StoreSteps g.S.Store c.args.command.now c.args.store.now c.args.memory.now c.mark-in-Fill.new.store c.mark-in-Fill.new.memory) (sym e.1)
    (marks_stopped h good c.mark-in-Fill.ensures.works.stays.site
    (c.mark-in-Fill.ensures.marked told ready (fits_log c.args.command.now σ (inr (c.in-Fill.byte, c.in-Fill.is)) c.requires.allowed c.requires.session.orderly.well_formed good)) c.args.command.now e.0
    (steps_stay (most_commits c.args.command.now + most_log_commits c.args.command.now) (λ told usable t image. g.met.S.Store.leaves_now c.mark-in-Fill.new.store told usable t image) c.requires.session.usable c.mark-in-Fill.ensures.works.stays) (write_carries c.args.command.now σ (inr (c.in-Fill.byte, c.in-Fill.is)))
    (sym (logs_behind (store_state g.S.Store c.args.store.now c.args.memory.now) c.args.command.now c.requires.allowed ∙ logs_marked c.args.command.now σ (inr (c.in-Fill.byte, c.in-Fill.is))))
    (marks_grow c.in-Fill.disk c.in-Fill.sector c.in-Fill.count c.args.memory.now.logs))

pub carry_out-requires-in-Fill-clause-allowed : goal.carry_out-requires-in-Fill-clause-allowed
carry_out-requires-in-Fill-clause-allowed g c =
    let σ = store_shape g.S.Store c.args.store.now c.args.memory.now in
    subst (λ s. refusal s c.args.command.now ≡ None) (sym (shape_marked c.in-Fill.disk c.in-Fill.sector c.in-Fill.count g.S.Store c.args.store.now c.mark-in-Fill.new.store c.args.memory.now c.mark-in-Fill.new.memory c.mark-in-Fill.ensures.works.stays c.mark-in-Fill.ensures.memory))
    (passes_marked c.args.command.now σ _ (inr (c.in-Fill.byte, c.in-Fill.is)) c.requires.allowed)

pub returns-in_err-mark-in-Fill-clause-step : goal.returns-in_err-mark-in-Fill-clause-step
returns-in_err-mark-in-Fill-clause-step g c =
    steps_stay (most_commits c.args.command.now + most_log_commits c.args.command.now) (λ told usable t image. g.met.S.Store.leaves_now c.mark-in-Fill.new.store told usable t image) c.requires.session.usable c.mark-in-Fill.ensures.works.stays

pub returns-in_err-mark-in-Fill-clause-writes : goal.returns-in_err-mark-in-Fill-clause-writes
returns-in_err-mark-in-Fill-clause-writes g c = marks_puts c.args.memory.now c.args.command.now (inr (c.in-Fill.byte, c.in-Fill.is)) c.mark-in-Fill.ensures.works

pub returns-in_ok-mark-in-Fill-clause-step : goal.returns-in_ok-mark-in-Fill-clause-step
returns-in_ok-mark-in-Fill-clause-step g c =
    more_steps (omega arith) (then_steps (steps_stay 0 (λ told usable t image. g.met.S.Store.leaves_now c.mark-in-Fill.new.store told usable t image) c.requires.session.usable c.mark-in-Fill.ensures.works.stays) c.carry_out-in-Fill.ensures.step)

pub returns-in_ok-mark-in-Fill-clause-logs : goal.returns-in_ok-mark-in-Fill-clause-logs
unfolding shape_in
returns-in_ok-mark-in-Fill-clause-logs g c =
    on_ok c.carry_out-in-Fill.result (inr (c.carry_out-in-Fill.ensures.logs ∙ ap (λ m. m.logs) c.mark-in-Fill.ensures.memory ∙ sym (logs_marked c.args.command.now (store_shape g.S.Store c.args.store.now c.args.memory.now) (inr (c.in-Fill.byte, c.in-Fill.is)))))

pub returns-in_ok-mark-in-Fill-clause-refused : goal.returns-in_ok-mark-in-Fill-clause-refused
returns-in_ok-mark-in-Fill-clause-refused g c = rich_refused _ _ _ (never_poor c.args.command.now _ (inr (c.in-Fill.byte, c.in-Fill.is))) c.carry_out-in-Fill.ensures.poor c.carry_out-in-Fill.ensures.spared

pub returns-in_ok-mark-in-Fill-clause-spared : goal.returns-in_ok-mark-in-Fill-clause-spared
returns-in_ok-mark-in-Fill-clause-spared g c = rich_spared _ _ _ (never_poor c.args.command.now _ (inr (c.in-Fill.byte, c.in-Fill.is))) c.carry_out-in-Fill.ensures.spared

pub returns-in_ok-mark-in-Fill-clause-untouched : goal.returns-in_ok-mark-in-Fill-clause-untouched
returns-in_ok-mark-in-Fill-clause-untouched g c = rich_refused _ _ _ (never_poor c.args.command.now _ (inr (c.in-Fill.byte, c.in-Fill.is))) c.carry_out-in-Fill.ensures.poor c.carry_out-in-Fill.ensures.spared

pub returns-in_ok-mark-in-Fill-clause-writes : goal.returns-in_ok-mark-in-Fill-clause-writes
returns-in_ok-mark-in-Fill-clause-writes g c = marks_then c.args.memory.now c.args.command.now c.mark-in-Fill.new.memory c.carry_out-in-Fill.new.store (inr (c.in-Fill.byte, c.in-Fill.is)) c.mark-in-Fill.ensures.works c.mark-in-Fill.ensures.memory
    (λ told ready within. (c.mark-in-Fill.ensures.marked told ready within).ready c.in_ok-mark-in-Fill.was) c.carry_out-in-Fill.ensures.writes

pub returns-in_ok-mark-in-Fill-clause-taken : goal.returns-in_ok-mark-in-Fill-clause-taken
unfolding shape_in
returns-in_ok-mark-in-Fill-clause-taken g c = λ told ready good.
    let σ = store_shape g.S.Store c.args.store.now c.args.memory.now in
    let h = is_told g.S.Store c.args.store.now c.args.memory.now c.requires.session.orderly c.requires.session.usable told ready (g.met.S.Store.leaves_now c.args.store.now told c.requires.session.usable) in
    let x = c.mark-in-Fill.ensures.marked told ready (fits_log c.args.command.now σ (inr (c.in-Fill.byte, c.in-Fill.is)) c.requires.allowed c.requires.session.orderly.well_formed good) in
    marks_stepped h good c.mark-in-Fill.ensures.works.stays.site x c.carry_out-in-Fill.new.store c.carry_out-in-Fill.new.memory c.args.command.now c.carry_out-in-Fill.result
    (ap (λ (z : _). step z c.args.command.now) (state_marked c.in-Fill.disk c.in-Fill.sector c.in-Fill.count g.S.Store c.args.store.now c.mark-in-Fill.new.store c.args.memory.now c.mark-in-Fill.new.memory c.mark-in-Fill.ensures.works.stays c.mark-in-Fill.ensures.memory x.shown)
    ∙ step_marked (store_state g.S.Store c.args.store.now c.args.memory.now) c.args.command.now (inr (c.in-Fill.byte, c.in-Fill.is)) c.requires.allowed)
    (rich_spared _ _ _ (never_poor c.args.command.now _ (inr (c.in-Fill.byte, c.in-Fill.is))) c.carry_out-in-Fill.ensures.spared)
    c.in-Fill.disk c.in-Fill.sector c.in-Fill.count (inr (c.in-Fill.byte, c.in-Fill.is)) c.requires.allowed
    (then_steps (steps_stay 0 (λ told usable t image. g.met.S.Store.leaves_now c.mark-in-Fill.new.store told usable t image) c.requires.session.usable c.mark-in-Fill.ensures.works.stays) c.carry_out-in-Fill.ensures.step) (write_carries c.args.command.now σ (inr (c.in-Fill.byte, c.in-Fill.is)))
    (c.carry_out-in-Fill.ensures.logs ∙ ap (λ m. m.logs) c.mark-in-Fill.ensures.memory ∙ sym (logs_behind (store_state g.S.Store c.args.store.now c.args.memory.now) c.args.command.now c.requires.allowed ∙ logs_marked c.args.command.now σ (inr (c.in-Fill.byte, c.in-Fill.is))))
    (c.carry_out-in-Fill.ensures.taken told (x.ready (c.in_ok-mark-in-Fill.was)))

-- ---- a deletion

pub returns-in_err-reply-in-Delete-clause-taken : goal.returns-in_err-reply-in-Delete-clause-taken
returns-in_err-reply-in-Delete-clause-taken g c = λ told ready good.
    let h = is_told g.S.Store c.args.store.now c.args.memory.now c.requires.session.orderly c.requires.session.usable told ready (g.met.S.Store.leaves_now c.args.store.now told c.requires.session.usable) in
    let e = err_from_is_err_and c.from_residual-in_err-reply-in-Delete.result c.from_residual-in_err-reply-in-Delete.ensures.1 in
    subst (StoreSteps g.S.Store c.args.command.now c.args.store.now c.args.memory.now c.carry_out-in-Delete.new.store c.carry_out-in-Delete.new.memory) (sym e.1)
    (stopped_same h good c.carry_out-in-Delete.new.memory c.args.command.now e.0 c.carry_out-in-Delete.ensures.step (delete_carries c.args.command.now _ c.in-Delete.disk c.in-Delete.is) (delete_still c.args.command.now c.in-Delete.disk c.in-Delete.is) c.carry_out-in-Delete.ensures.logs c.requires.allowed (stopped_at g.S.Store c.args.store.now c.carry_out-in-Delete.new.store c.args.memory.now c.carry_out-in-Delete.new.memory c.args.command.now _ e.0 (c.carry_out-in-Delete.ensures.taken told ready)))

pub returns-in_err-reply-in-Delete-clause-step : goal.returns-in_err-reply-in-Delete-clause-step
returns-in_err-reply-in-Delete-clause-step g c = more_steps (omega arith) c.carry_out-in-Delete.ensures.step

pub returns-in_err-untrack-in-Delete-clause-step : goal.returns-in_err-untrack-in-Delete-clause-step
unfolding most_log_commits
returns-in_err-untrack-in-Delete-clause-step g c =
    subst (λ k. StepsOn g.S.Store (most_commits c.args.command.now + most_log_commits k) c.args.store.now c.untrack.new.store) (sym c.in-Delete.is) (then_steps c.carry_out-in-Delete.ensures.step c.untrack.ensures.step)

pub returns-in_err-untrack-in-Delete-clause-taken : goal.returns-in_err-untrack-in-Delete-clause-taken
returns-in_err-untrack-in-Delete-clause-taken g c = λ told ready good.
    let h = is_told g.S.Store c.args.store.now c.args.memory.now c.requires.session.orderly c.requires.session.usable told ready (g.met.S.Store.leaves_now c.args.store.now told c.requires.session.usable) in
    let e = err_from_is_err_and c.from_residual-in_err-untrack-in-Delete.result c.from_residual-in_err-untrack-in-Delete.ensures.1 in
    let t : StoreTakes g.S.Store (command.Delete c.in-Delete.disk) c.args.store.now c.args.memory.now c.carry_out-in-Delete.new.store c.carry_out-in-Delete.new.memory (Ok c.in_ok-reply-in-Delete.reply) =
    subst (λ k. StoreTakes g.S.Store k c.args.store.now c.args.memory.now c.carry_out-in-Delete.new.store c.carry_out-in-Delete.new.memory (Ok c.in_ok-reply-in-Delete.reply)) c.in-Delete.is
    (subst (StoreTakes g.S.Store c.args.command.now c.args.store.now c.args.memory.now c.carry_out-in-Delete.new.store c.carry_out-in-Delete.new.memory) c.in_ok-reply-in-Delete.was (c.carry_out-in-Delete.ensures.taken told ready)) in
    subst (λ k. StoreSteps g.S.Store k c.args.store.now c.args.memory.now c.untrack.new.store c.untrack.new.memory c.from_residual-in_err-untrack-in-Delete.result) (sym c.in-Delete.is)
    (subst (StoreSteps g.S.Store (command.Delete c.in-Delete.disk) c.args.store.now c.args.memory.now c.untrack.new.store c.untrack.new.memory) (sym e.1)
    (end_stopped h good c.in-Delete.disk c.in_ok-reply-in-Delete.reply (subst (λ k. refusal (store_shape g.S.Store c.args.store.now c.args.memory.now) k ≡ None) c.in-Delete.is c.requires.allowed)
    t c.carry_out-in-Delete.ensures.step.site c.carry_out-in-Delete.ensures.logs (c.untrack.ensures.removed told (ready_behind g.S.Store c.args.store.now c.carry_out-in-Delete.new.store c.args.memory.now c.carry_out-in-Delete.new.memory (command.Delete c.in-Delete.disk) c.in_ok-reply-in-Delete.reply t c.carry_out-in-Delete.ensures.step.site)) (then_steps c.carry_out-in-Delete.ensures.step c.untrack.ensures.step) e.0))

pub returns-in_ok-untrack-in-Delete-clause-step : goal.returns-in_ok-untrack-in-Delete-clause-step
unfolding most_log_commits
returns-in_ok-untrack-in-Delete-clause-step g c =
    subst (λ k. StepsOn g.S.Store (most_commits c.args.command.now + most_log_commits k) c.args.store.now c.untrack.new.store) (sym c.in-Delete.is) (then_steps c.carry_out-in-Delete.ensures.step c.untrack.ensures.step)

pub returns-in_ok-untrack-in-Delete-clause-logs : goal.returns-in_ok-untrack-in-Delete-clause-logs
unfolding logs_after shape_in
returns-in_ok-untrack-in-Delete-clause-logs g c =
    inr (ap (λ m. m.logs) c.in_ok-untrack-in-Delete.ensures.memory ∙ ap (without_log c.in-Delete.disk) c.carry_out-in-Delete.ensures.logs ∙ sym (ap (logs_after (store_shape g.S.Store c.args.store.now c.args.memory.now)) c.in-Delete.is))

pub returns-in_ok-untrack-in-Delete-clause-refused : goal.returns-in_ok-untrack-in-Delete-clause-refused
returns-in_ok-untrack-in-Delete-clause-refused g c = λ e.
    absurd (accepts c.in_ok-reply-in-Delete.reply _ (delete_rich c.args.command.now _ c.in-Delete.disk c.in-Delete.is) c.in_ok-reply-in-Delete.ensures.poor c.in_ok-reply-in-Delete.ensures.spared e)

pub returns-in_ok-untrack-in-Delete-clause-untouched : goal.returns-in_ok-untrack-in-Delete-clause-untouched
returns-in_ok-untrack-in-Delete-clause-untouched g c = λ e.
    absurd (accepts c.in_ok-reply-in-Delete.reply _ (delete_rich c.args.command.now _ c.in-Delete.disk c.in-Delete.is) c.in_ok-reply-in-Delete.ensures.poor c.in_ok-reply-in-Delete.ensures.spared e)

pub returns-in_ok-untrack-in-Delete-clause-taken : goal.returns-in_ok-untrack-in-Delete-clause-taken
returns-in_ok-untrack-in-Delete-clause-taken g c = λ told ready good.
    let h = is_told g.S.Store c.args.store.now c.args.memory.now c.requires.session.orderly c.requires.session.usable told ready (g.met.S.Store.leaves_now c.args.store.now told c.requires.session.usable) in
    let t : StoreTakes g.S.Store (command.Delete c.in-Delete.disk) c.args.store.now c.args.memory.now c.carry_out-in-Delete.new.store c.carry_out-in-Delete.new.memory (Ok c.in_ok-reply-in-Delete.reply) =
    subst (λ k. StoreTakes g.S.Store k c.args.store.now c.args.memory.now c.carry_out-in-Delete.new.store c.carry_out-in-Delete.new.memory (Ok c.in_ok-reply-in-Delete.reply)) c.in-Delete.is
    (subst (StoreTakes g.S.Store c.args.command.now c.args.store.now c.args.memory.now c.carry_out-in-Delete.new.store c.carry_out-in-Delete.new.memory) c.in_ok-reply-in-Delete.was (c.carry_out-in-Delete.ensures.taken told ready)) in
    let site = c.carry_out-in-Delete.ensures.step.site in
    let logs = c.carry_out-in-Delete.ensures.logs in
    let site_end = c.untrack.ensures.step.site ∙ site in
    let x = c.untrack.ensures.removed told (ready_behind g.S.Store c.args.store.now c.carry_out-in-Delete.new.store c.args.memory.now c.carry_out-in-Delete.new.memory (command.Delete c.in-Delete.disk) c.in_ok-reply-in-Delete.reply t site) in
    subst (λ k. StoreSteps g.S.Store k c.args.store.now c.args.memory.now c.untrack.new.store c.untrack.new.memory (Ok c.in_ok-reply-in-Delete.reply)) (sym c.in-Delete.is)
    (end_stepped h good c.in-Delete.disk c.in_ok-reply-in-Delete.reply (subst (λ k. refusal (store_shape g.S.Store c.args.store.now c.args.memory.now) k ≡ None) c.in-Delete.is c.requires.allowed)
    t site logs x (then_steps c.carry_out-in-Delete.ensures.step c.untrack.ensures.step) c.in_ok-untrack-in-Delete.was (λ poor. delete_rich c.args.command.now _ c.in-Delete.disk c.in-Delete.is (c.in_ok-reply-in-Delete.ensures.spared poor)) site_end
    (shape_end g.S.Store c.args.store.now c.carry_out-in-Delete.new.store c.args.memory.now c.carry_out-in-Delete.new.memory c.untrack.new.store c.untrack.new.memory c.in-Delete.disk site_end site logs c.in_ok-untrack-in-Delete.ensures.shape)
    (subst (λ s. IsReady s (table_alone (g.S.Store.table c.untrack.new.store)) (g.S.Store.area c.untrack.new.store) (known c.untrack.new.memory)) site_end (x.ready c.in_ok-untrack-in-Delete.was)))

-- ---- another command

pub returns-in_default-clause-step : goal.returns-in_default-clause-step
returns-in_default-clause-step g c = more_steps (omega arith) c.carry_out-in_default.ensures.step

pub returns-in_default-clause-logs : goal.returns-in_default-clause-logs
returns-in_default-clause-logs g c = on_ok c.carry_out-in_default.result (inl c.carry_out-in_default.ensures.logs)

pub returns-in_default-clause-writes : goal.returns-in_default-clause-writes
returns-in_default-clause-writes g c = no_marks g.S.Store c.args.memory.now c.args.command.now c.args.store.now c.carry_out-in_default.new.store c.in_default.not-Write c.in_default.not-Fill

pub returns-in_default-clause-taken : goal.returns-in_default-clause-taken
unfolding shape_in
returns-in_default-clause-taken g c = λ told ready good.
    let h = is_told g.S.Store c.args.store.now c.args.memory.now c.requires.session.orderly c.requires.session.usable told ready (g.met.S.Store.leaves_now c.args.store.now told c.requires.session.usable) in
    stepped_same h good c.carry_out-in_default.new.memory c.args.command.now c.carry_out-in_default.result c.carry_out-in_default.ensures.step
    (λ passes. ((λ u twin is. absurd (c.in_default.not-Snapshot u twin is)), (λ u on is. absurd (c.in_default.not-Track u on is)))) (no_write c.args.command.now c.in_default.not-Write c.in_default.not-Fill) c.carry_out-in_default.ensures.logs
    (step_same (store_state g.S.Store c.args.store.now c.args.memory.now) c.args.command.now c.in_default.not-Write c.in_default.not-Fill c.in_default.not-Delete
    (λ u twin is. absurd (c.in_default.not-Snapshot u twin is)) c.in_default.not-Track)
    (c.carry_out-in_default.ensures.taken told ready)

-- ---- a snapshot

pub returns-in-Snapshot-clause-step : goal.returns-in-Snapshot-clause-step
unfolding most_commits most_log_commits
returns-in-Snapshot-clause-step g c = subst (λ k. StepsOn g.S.Store (most_commits k + most_log_commits k) c.args.store.now c.snapshot.new.store) (sym c.in-Snapshot.is) c.snapshot.ensures.step

pub returns-in-Snapshot-clause-spared : goal.returns-in-Snapshot-clause-spared
unfolding may_want_memory takes_memory
returns-in-Snapshot-clause-spared g c = of_reply (λ r. r ≡ No NoMemory → may_want_memory (store_shape g.S.Store c.args.store.now c.args.memory.now) c.args.command.now ≡ true) c.snapshot.result
    (λ r e. subst (λ k. may_want_memory (store_shape g.S.Store c.args.store.now c.args.memory.now) k ≡ true) (sym c.in-Snapshot.is) refl)

-- ---- tracking begins or ends

pub returns-in-Track-clause-step : goal.returns-in-Track-clause-step
unfolding most_commits
returns-in-Track-clause-step g c = subst (λ k. StepsOn g.S.Store (most_commits k + most_log_commits k) c.args.store.now c.track.new.store) (sym c.in-Track.is) (more_steps (omega arith) c.track.ensures.step)

pub returns-in-Track-clause-spared : goal.returns-in-Track-clause-spared
unfolding may_want_memory
returns-in-Track-clause-spared g c = subst (λ k. IfOk c.track.result (λ r. r ≡ No NoMemory → may_want_memory (store_shape g.S.Store c.args.store.now c.args.memory.now) k ≡ true)) (sym c.in-Track.is) c.track.ensures.spared

-- ---- what changed

pub returns-in-Changed-clause-step : goal.returns-in-Changed-clause-step
returns-in-Changed-clause-step g c = steps_none g.S.Store (most_commits c.args.command.now + most_log_commits c.args.command.now) c.args.store.now (λ told usable t image. g.met.S.Store.leaves_now c.args.store.now told usable t image) c.requires.session.usable

pub returns-in-Changed-clause-spared : goal.returns-in-Changed-clause-spared
unfolding may_want_memory takes_memory
returns-in-Changed-clause-spared g c = λ e. subst (λ k. may_want_memory (store_shape g.S.Store c.args.store.now c.args.memory.now) k ≡ true) (sym c.in-Changed.is) refl

pub returns-in-Changed-clause-writes : goal.returns-in-Changed-clause-writes
returns-in-Changed-clause-writes g c = nothing_put g.S.Store c.args.memory.now c.args.command.now c.args.store.now

pub returns-in-Changed-clause-taken : goal.returns-in-Changed-clause-taken
returns-in-Changed-clause-taken g c = λ told ready good.
    let h = is_told g.S.Store c.args.store.now c.args.memory.now c.requires.session.orderly c.requires.session.usable told ready (g.met.S.Store.leaves_now c.args.store.now told c.requires.session.usable) in
    subst (λ k. StoreSteps g.S.Store k c.args.store.now c.args.memory.now c.args.store.now c.args.memory.now (Ok c.changed.result)) (sym c.in-Changed.is)
    (changed_stepped h good c.requires.session.tidy c.in-Changed.from c.in-Changed.to c.changed.result
    (subst (λ k. refusal (store_shape g.S.Store c.args.store.now c.args.memory.now) k ≡ None) c.in-Changed.is c.requires.allowed) c.changed.ensures.changed)
