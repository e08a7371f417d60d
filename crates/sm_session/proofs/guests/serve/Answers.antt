use Rattle.std.proofs.Common.{arith, ◌≡◌, true, None, Ok, Err, refl, sym, ap, ◌∙◌, subst}
use Rattle.std.proofs.lemmas.Bool.{true≢false}
use Rattle.std.proofs.lemmas.Result.{err_from_is_err_and}
use Rattle.sm_machine.specs.Refusals.{refusal}
use Rattle.sm_base.specs.declared.refusals.Refusal.TheVariants.{NoMemory}
use Rattle.sm_machine.specs.Runs.{is_accepted, takes_memory}
use Rattle.sm_run.specs.Runs.{may_want_memory}
use Rattle.sm_machine.specs.Steps.{reply_to}
use Rattle.sm_machine.specs.declared.commands.Command.TheVariants as command
use Rattle.sm_machine.specs.declared.replies.Reply.TheVariants.{Done, No}
use Rattle.cmd_guest.specs.Taken.{answered}
use Rattle.sm_ready.specs.Does.{ShapesAs, StoreDoes, store_shape}
use Rattle.sm_ready.specs.Sessions.{store_state}
use Rattle.sm_ready.specs.Taken.{StoreTakes}
use Rattle.sm_ready.proofs.DoesLaws.{does_err, does_ok}
use Rattle.sm_ready.proofs.TakenLaws.{is_told, taken_poor}
use Rattle.sm_session.specs.Carrying.{most_commits}
use Rattle.sm_session.proofs.CarryLaws.{between_poor, not_guests, of_reply, steps_by, steps_stay, stopped_at}
use Rattle.sm_session.proofs.guests.serve.Goals as goal

pub returns-in-Ok-clause-refused : goal.returns-in-Ok-clause-refused
unfolding is_accepted
returns-in-Ok-clause-refused g c = λ e. absurd (true≢false e)

pub returns-in-Ok-clause-untouched : goal.returns-in-Ok-clause-untouched
unfolding is_accepted
returns-in-Ok-clause-untouched g c = λ e. absurd (true≢false e)

pub returns-in-Ok-clause-taken : goal.returns-in-Ok-clause-taken
unfolding reply_to
returns-in-Ok-clause-taken g c = λ told ready.
    does_ok (is_told g.S.Store c.args.store.now c.args.memory.now c.requires.session.orderly c.requires.session.usable told ready (g.met.S.Store.leaves_now c.args.store.now told c.requires.session.usable)) c.args.command.now c.attach.new.memory c.requires.allowed (subst (λ k. StoreDoes g.S.Store k c.args.store.now c.args.memory.now c.attach.new.store c.attach.new.memory (c.attach.result ≡ Ok tt)) (sym c.in-Attach.is) (c.attach.ensures.done told ready))
    _ (sym (ap (reply_to (store_state g.S.Store c.args.store.now c.args.memory.now).disks (store_state g.S.Store c.args.store.now c.args.memory.now).shape) c.in-Attach.is)) c.in-Ok.is c.attach.ensures.step.site (subst (λ k. ShapesAs g.S.Store k c.args.store.now c.args.memory.now c.attach.new.store c.attach.new.memory) (sym c.in-Attach.is) c.in-Ok.ensures.shape)

pub returns-in-Err-NoMemory-clause-taken : goal.returns-in-Err-NoMemory-clause-taken
returns-in-Err-NoMemory-clause-taken g c = λ told ready. let p = c.attach.ensures.poor (c.in-Err-NoMemory.is ∙ ap (λ f. Err f) c.in-Err-NoMemory.field-0-is) in taken_poor (is_told g.S.Store c.args.store.now c.args.memory.now c.requires.session.orderly c.requires.session.usable told ready (g.met.S.Store.leaves_now c.args.store.now told c.requires.session.usable)) c.args.command.now c.attach.new.memory p.0 p.1 p.2

pub returns-in-Err-Device-clause-taken : goal.returns-in-Err-Device-clause-taken
returns-in-Err-Device-clause-taken g c = λ told ready. does_err (is_told g.S.Store c.args.store.now c.args.memory.now c.requires.session.orderly c.requires.session.usable told ready (g.met.S.Store.leaves_now c.args.store.now told c.requires.session.usable)) c.args.command.now c.attach.new.memory c.requires.allowed (subst (λ k. StoreDoes g.S.Store k c.args.store.now c.args.memory.now c.attach.new.store c.attach.new.memory (c.attach.result ≡ Ok tt)) (sym c.in-Attach.is) (c.attach.ensures.done told ready)) _

pub returns-in_err-detach-in-Detach-clause-taken : goal.returns-in_err-detach-in-Detach-clause-taken
returns-in_err-detach-in-Detach-clause-taken g c = λ told ready.
    let e = err_from_is_err_and c.from_residual.result c.from_residual.ensures.1 in
    subst (λ r. StoreTakes g.S.Store c.args.command.now c.args.store.now c.args.memory.now c.detach.new.store c.detach.new.memory r) (sym e.1) (does_err (is_told g.S.Store c.args.store.now c.args.memory.now c.requires.session.orderly c.requires.session.usable told ready (g.met.S.Store.leaves_now c.args.store.now told c.requires.session.usable)) c.args.command.now c.detach.new.memory c.requires.allowed (subst (λ k. StoreDoes g.S.Store k c.args.store.now c.args.memory.now c.detach.new.store c.detach.new.memory (c.detach.result ≡ Ok tt)) (sym c.in-Detach.is) (c.detach.ensures.done told ready)) e.0)

pub returns-in_ok-detach-in-Detach-clause-refused : goal.returns-in_ok-detach-in-Detach-clause-refused
unfolding is_accepted
returns-in_ok-detach-in-Detach-clause-refused g c = λ e. absurd (true≢false e)

pub returns-in_ok-detach-in-Detach-clause-untouched : goal.returns-in_ok-detach-in-Detach-clause-untouched
unfolding is_accepted
returns-in_ok-detach-in-Detach-clause-untouched g c = λ e. absurd (true≢false e)

pub returns-in_ok-detach-in-Detach-clause-taken : goal.returns-in_ok-detach-in-Detach-clause-taken
unfolding reply_to
returns-in_ok-detach-in-Detach-clause-taken g c = λ told ready.
    does_ok (is_told g.S.Store c.args.store.now c.args.memory.now c.requires.session.orderly c.requires.session.usable told ready (g.met.S.Store.leaves_now c.args.store.now told c.requires.session.usable)) c.args.command.now c.detach.new.memory c.requires.allowed (subst (λ k. StoreDoes g.S.Store k c.args.store.now c.args.memory.now c.detach.new.store c.detach.new.memory (c.detach.result ≡ Ok tt)) (sym c.in-Detach.is) (c.detach.ensures.done told ready))
    _ (sym (ap (reply_to (store_state g.S.Store c.args.store.now c.args.memory.now).disks (store_state g.S.Store c.args.store.now c.args.memory.now).shape) c.in-Detach.is)) c.in_ok-detach-in-Detach.was c.detach.ensures.step.site (subst (λ k. ShapesAs g.S.Store k c.args.store.now c.args.memory.now c.detach.new.store c.detach.new.memory) (sym c.in-Detach.is) c.in_ok-detach-in-Detach.ensures.shape)

pub returns-in_err-write-in-Write-clause-taken : goal.returns-in_err-write-in-Write-clause-taken
returns-in_err-write-in-Write-clause-taken g c = λ told ready.
    let e = err_from_is_err_and c.from_residual-in_err-write-in-Write.result c.from_residual-in_err-write-in-Write.ensures.1 in
    subst (λ r. StoreTakes g.S.Store c.args.command.now c.args.store.now c.args.memory.now c.write.new.store c.write.new.memory r) (sym e.1) (stopped_at g.S.Store c.args.store.now c.write.new.store c.args.memory.now c.write.new.memory c.args.command.now _ e.0 ((subst (λ k. StoreTakes g.S.Store k c.args.store.now c.args.memory.now c.write.new.store c.write.new.memory (answered Done c.write.result)) (sym c.in-Write.is) (subst (λ b. StoreTakes g.S.Store (command.Write c.in-Write.disk c.in-Write.sector b) c.args.store.now c.args.memory.now c.write.new.store c.write.new.memory (answered Done c.write.result)) (c.deref.ensures.value ∙ c.bytes.view_is) (c.write.ensures.taken told ready)))))

pub returns-in_ok-write-in-Write-clause-refused : goal.returns-in_ok-write-in-Write-clause-refused
unfolding is_accepted
returns-in_ok-write-in-Write-clause-refused g c = λ e. absurd (true≢false e)

pub returns-in_ok-write-in-Write-clause-untouched : goal.returns-in_ok-write-in-Write-clause-untouched
unfolding is_accepted
returns-in_ok-write-in-Write-clause-untouched g c = λ e. absurd (true≢false e)

pub returns-in_ok-write-in-Write-clause-taken : goal.returns-in_ok-write-in-Write-clause-taken
returns-in_ok-write-in-Write-clause-taken g c = λ told ready.
    subst (λ r. StoreTakes g.S.Store c.args.command.now c.args.store.now c.args.memory.now c.write.new.store c.write.new.memory (answered Done r)) c.in_ok-write-in-Write.was ((subst (λ k. StoreTakes g.S.Store k c.args.store.now c.args.memory.now c.write.new.store c.write.new.memory (answered Done c.write.result)) (sym c.in-Write.is) (subst (λ b. StoreTakes g.S.Store (command.Write c.in-Write.disk c.in-Write.sector b) c.args.store.now c.args.memory.now c.write.new.store c.write.new.memory (answered Done c.write.result)) (c.deref.ensures.value ∙ c.bytes.view_is) (c.write.ensures.taken told ready))))

pub returns-in_err-fill-in-Fill-clause-taken : goal.returns-in_err-fill-in-Fill-clause-taken
returns-in_err-fill-in-Fill-clause-taken g c = λ told ready.
    let e = err_from_is_err_and c.from_residual-in_err-fill-in-Fill.result c.from_residual-in_err-fill-in-Fill.ensures.1 in
    subst (λ r. StoreTakes g.S.Store c.args.command.now c.args.store.now c.args.memory.now c.fill.new.store c.fill.new.memory r) (sym e.1) (stopped_at g.S.Store c.args.store.now c.fill.new.store c.args.memory.now c.fill.new.memory c.args.command.now _ e.0 ((subst (λ k. StoreTakes g.S.Store k c.args.store.now c.args.memory.now c.fill.new.store c.fill.new.memory (answered Done c.fill.result)) (sym c.in-Fill.is) (c.fill.ensures.taken told ready))))

pub returns-in_ok-fill-in-Fill-clause-refused : goal.returns-in_ok-fill-in-Fill-clause-refused
unfolding is_accepted
returns-in_ok-fill-in-Fill-clause-refused g c = λ e. absurd (true≢false e)

pub returns-in_ok-fill-in-Fill-clause-untouched : goal.returns-in_ok-fill-in-Fill-clause-untouched
unfolding is_accepted
returns-in_ok-fill-in-Fill-clause-untouched g c = λ e. absurd (true≢false e)

pub returns-in_ok-fill-in-Fill-clause-taken : goal.returns-in_ok-fill-in-Fill-clause-taken
returns-in_ok-fill-in-Fill-clause-taken g c = λ told ready.
    subst (λ r. StoreTakes g.S.Store c.args.command.now c.args.store.now c.args.memory.now c.fill.new.store c.fill.new.memory (answered Done r)) c.in_ok-fill-in-Fill.was ((subst (λ k. StoreTakes g.S.Store k c.args.store.now c.args.memory.now c.fill.new.store c.fill.new.memory (answered Done c.fill.result)) (sym c.in-Fill.is) (c.fill.ensures.taken told ready)))

pub returns-in_err-flush-in-Flush-clause-taken : goal.returns-in_err-flush-in-Flush-clause-taken
returns-in_err-flush-in-Flush-clause-taken g c = λ told ready.
    let e = err_from_is_err_and c.from_residual-in_err-flush-in-Flush.result c.from_residual-in_err-flush-in-Flush.ensures.1 in
    subst (λ r. StoreTakes g.S.Store c.args.command.now c.args.store.now c.args.memory.now c.flush.new.store c.args.memory.now r) (sym e.1) (stopped_at g.S.Store c.args.store.now c.flush.new.store c.args.memory.now c.args.memory.now c.args.command.now _ e.0 ((subst (λ k. StoreTakes g.S.Store k c.args.store.now c.args.memory.now c.flush.new.store c.args.memory.now (answered Done c.flush.result)) (sym c.in-Flush.is) (c.flush.ensures.taken told c.args.memory.now c.in-Flush.disk c.requires.session.orderly ready (subst (λ k. refusal (store_shape g.S.Store c.args.store.now c.args.memory.now) k ≡ None) c.in-Flush.is c.requires.allowed)))))

pub returns-in_ok-flush-in-Flush-clause-refused : goal.returns-in_ok-flush-in-Flush-clause-refused
unfolding is_accepted
returns-in_ok-flush-in-Flush-clause-refused g c = λ e. absurd (true≢false e)

pub returns-in_ok-flush-in-Flush-clause-untouched : goal.returns-in_ok-flush-in-Flush-clause-untouched
unfolding is_accepted
returns-in_ok-flush-in-Flush-clause-untouched g c = λ e. absurd (true≢false e)

pub returns-in_ok-flush-in-Flush-clause-taken : goal.returns-in_ok-flush-in-Flush-clause-taken
returns-in_ok-flush-in-Flush-clause-taken g c = λ told ready.
    subst (λ r. StoreTakes g.S.Store c.args.command.now c.args.store.now c.args.memory.now c.flush.new.store c.args.memory.now (answered Done r)) c.in_ok-flush-in-Flush.was ((subst (λ k. StoreTakes g.S.Store k c.args.store.now c.args.memory.now c.flush.new.store c.args.memory.now (answered Done c.flush.result)) (sym c.in-Flush.is) (c.flush.ensures.taken told c.args.memory.now c.in-Flush.disk c.requires.session.orderly ready (subst (λ k. refusal (store_shape g.S.Store c.args.store.now c.args.memory.now) k ≡ None) c.in-Flush.is c.requires.allowed))))

pub returns-in-Read-clause-taken : goal.returns-in-Read-clause-taken
returns-in-Read-clause-taken g c = λ told ready.
    (subst (λ k. StoreTakes g.S.Store k c.args.store.now c.args.memory.now c.read.new.store c.args.memory.now c.read.result) (sym c.in-Read.is) (c.read.ensures.taken told ready))

pub unreachable-requires : goal.unreachable-requires
unreachable-requires g c = not_guests c.args.command.now c.requires.guests c.in_default.not-Attach c.in_default.not-Detach c.in_default.not-Write c.in_default.not-Fill c.in_default.not-Read c.in_default.not-Flush

pub returns-in-Err-NoMemory-clause-spared : goal.returns-in-Err-NoMemory-clause-spared
unfolding may_want_memory takes_memory
returns-in-Err-NoMemory-clause-spared g c = λ e. subst (λ k. may_want_memory (store_shape g.S.Store c.args.store.now c.args.memory.now) k ≡ true) (sym c.in-Attach.is) refl

pub returns-in-Read-clause-spared : goal.returns-in-Read-clause-spared
unfolding may_want_memory takes_memory
returns-in-Read-clause-spared g c = of_reply (λ r. r ≡ No NoMemory → may_want_memory (store_shape g.S.Store c.args.store.now c.args.memory.now) c.args.command.now ≡ true) c.read.result (λ r e. subst (λ k. may_want_memory (store_shape g.S.Store c.args.store.now c.args.memory.now) k ≡ true) (sym c.in-Read.is) refl)

pub returns-in-Ok-clause-step : goal.returns-in-Ok-clause-step
unfolding most_commits
returns-in-Ok-clause-step g c = steps_by c.args.command.now _ 4 c.in-Attach.is (omega arith) c.attach.ensures.step

pub returns-in-Err-NoMemory-clause-step : goal.returns-in-Err-NoMemory-clause-step
unfolding most_commits
returns-in-Err-NoMemory-clause-step g c = steps_by c.args.command.now _ 4 c.in-Attach.is (omega arith) c.attach.ensures.step

pub returns-in-Err-Device-clause-step : goal.returns-in-Err-Device-clause-step
unfolding most_commits
returns-in-Err-Device-clause-step g c = steps_by c.args.command.now _ 4 c.in-Attach.is (omega arith) c.attach.ensures.step

pub returns-in-Err-NoMemory-clause-session_still : goal.returns-in-Err-NoMemory-clause-session_still
returns-in-Err-NoMemory-clause-session_still g c = let p = c.attach.ensures.poor (c.in-Err-NoMemory.is ∙ ap (λ f. Err f) c.in-Err-NoMemory.field-0-is) in between_poor c.args.memory.now c.attach.new.memory p.0 p.2 c.requires.session

pub returns-in_err-detach-in-Detach-clause-step : goal.returns-in_err-detach-in-Detach-clause-step
unfolding most_commits
returns-in_err-detach-in-Detach-clause-step g c = steps_by c.args.command.now _ 1 c.in-Detach.is (omega arith) c.detach.ensures.step

pub returns-in_ok-detach-in-Detach-clause-step : goal.returns-in_ok-detach-in-Detach-clause-step
unfolding most_commits
returns-in_ok-detach-in-Detach-clause-step g c = steps_by c.args.command.now _ 1 c.in-Detach.is (omega arith) c.detach.ensures.step

pub returns-in_err-write-in-Write-clause-step : goal.returns-in_err-write-in-Write-clause-step
returns-in_err-write-in-Write-clause-step g c = steps_stay (most_commits c.args.command.now) (λ told usable t image. g.met.S.Store.leaves_now c.write.new.store told usable t image) c.requires.session.usable c.write.ensures.stays

pub returns-in_ok-write-in-Write-clause-step : goal.returns-in_ok-write-in-Write-clause-step
returns-in_ok-write-in-Write-clause-step g c = steps_stay (most_commits c.args.command.now) (λ told usable t image. g.met.S.Store.leaves_now c.write.new.store told usable t image) c.requires.session.usable c.write.ensures.stays

pub returns-in_err-fill-in-Fill-clause-step : goal.returns-in_err-fill-in-Fill-clause-step
returns-in_err-fill-in-Fill-clause-step g c = steps_stay (most_commits c.args.command.now) (λ told usable t image. g.met.S.Store.leaves_now c.fill.new.store told usable t image) c.requires.session.usable c.fill.ensures.stays

pub returns-in_ok-fill-in-Fill-clause-step : goal.returns-in_ok-fill-in-Fill-clause-step
returns-in_ok-fill-in-Fill-clause-step g c = steps_stay (most_commits c.args.command.now) (λ told usable t image. g.met.S.Store.leaves_now c.fill.new.store told usable t image) c.requires.session.usable c.fill.ensures.stays

pub returns-in_err-flush-in-Flush-clause-step : goal.returns-in_err-flush-in-Flush-clause-step
returns-in_err-flush-in-Flush-clause-step g c = steps_stay (most_commits c.args.command.now) (λ told usable t image. g.met.S.Store.leaves_now c.flush.new.store told usable t image) c.requires.session.usable c.flush.ensures.stays

pub returns-in_ok-flush-in-Flush-clause-step : goal.returns-in_ok-flush-in-Flush-clause-step
returns-in_ok-flush-in-Flush-clause-step g c = steps_stay (most_commits c.args.command.now) (λ told usable t image. g.met.S.Store.leaves_now c.flush.new.store told usable t image) c.requires.session.usable c.flush.ensures.stays

pub returns-in-Read-clause-step : goal.returns-in-Read-clause-step
returns-in-Read-clause-step g c = steps_stay (most_commits c.args.command.now) (λ told usable t image. g.met.S.Store.leaves_now c.read.new.store told usable t image) c.requires.session.usable c.read.ensures.reads_only.stays
