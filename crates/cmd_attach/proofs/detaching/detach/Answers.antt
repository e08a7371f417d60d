use Rattle.std.proofs.Common.{◌≡◌, Ok, refl, ◌∙◌, subst, arith}
use Rattle.std.proofs.lemmas.Result.{on_ok_weaker}
use Rattle.sm_machine.specs.Commits.{gives_up}
use Rattle.vg_volumes.specs.Stored.{Stays}
use Rattle.sm_machine.specs.declared.commands.Command.TheVariants as command
use Rattle.sm_ready.proofs.ChainLaws.{err_not_ok}
use Rattle.sm_ready.proofs.FramingLaws.{more_steps, stays_steps, then_steps}
use Rattle.gc_abandon.proofs.AbandonedLaws.{GaveUp, gave_up, give_up_failed, then_allowed, then_does, then_kept, then_next}
use Rattle.cmd_attach.proofs.detaching.detach.Given.{Over}
use Rattle.cmd_attach.proofs.detaching.detach.Goals as goal

pub returns-in_err-give_up-clause-step : goal.returns-in_err-give_up-clause-step
returns-in_err-give_up-clause-step g c = more_steps (omega arith) c.give_up.ensures.step

pub returns-in_err-give_up-clause-done : goal.returns-in_err-give_up-clause-done
returns-in_err-give_up-clause-done g c = λ told ready.
    give_up_failed g.S.Store c.args.store.now c.give_up.new.store c.args.memory.now c.give_up.new.memory c.args.disk.now (command.Detach c.args.disk.now) _ _ c.requires.session.usable told
    (λ some. let failed = c.in_err-give_up.was in let fine = (c.give_up.ensures.none some).0 in cc) (λ fine. err_not_ok _ tt c.from_residual.ensures.0 fine) (λ is. c.give_up.ensures.done is told ready)

-- the operation was given up, or none was there
gave : (g : Over) (c : goal.After-leave-arg-2-1 g) → GaveUp g.S.Store c.args.disk.now c.args.store.now c.args.memory.now c.give_up.new.store c.give_up.new.memory
gave g c = let v = c.in_ok-give_up.ensures in gave_up c.give_up.ensures.step v.session_still v.shape c.give_up.ensures.none c.give_up.ensures.done c.in_ok-give_up.was

-- and so it is behind the work
gave_then : (g : Over) (c : goal.After-leave g) → GaveUp g.S.Store c.args.disk.now c.args.store.now c.args.memory.now c.give_up.new.store c.give_up.new.memory
gave_then g c = let v = c.in_ok-give_up.ensures in gave_up c.give_up.ensures.step v.session_still v.shape c.give_up.ensures.none c.give_up.ensures.done c.in_ok-give_up.was

pub leave-requires-clause-allowed : goal.leave-requires-clause-allowed
unfolding gives_up
leave-requires-clause-allowed g c = then_allowed (gave g c) (command.Detach c.args.disk.now) refl refl c.requires.allowed

pub leave-requires-clause-kept_up : goal.leave-requires-clause-kept_up
unfolding gives_up
leave-requires-clause-kept_up g c = then_kept (gave g c) (command.Detach c.args.disk.now) refl

pub returns-clause-step : goal.returns-clause-step
returns-clause-step g c = then_steps c.give_up.ensures.step (stays_steps c.leave.ensures.stays (λ told. g.met.S.Store.leaves_now c.leave.new.store told c.leave.ensures.session_still.usable))

pub returns-clause-shape : goal.returns-clause-shape
unfolding gives_up
returns-clause-shape g c = on_ok_weaker c.leave.result (λ shaped. shaped ∙ then_next (gave_then g c) (command.Detach c.args.disk.now) refl refl) c.leave.ensures.shape

pub returns-clause-done : goal.returns-clause-done
returns-clause-done g c = λ told ready.
    then_does (gave_then g c) c.leave.new.memory (c.leave.result ≡ Ok tt) (command.Detach c.args.disk.now) c.requires.session told ready
    (g.met.S.Store.leaves_now c.args.store.now told c.requires.session.usable) (g.met.S.Store.leaves_now c.give_up.new.store told c.in_ok-give_up.ensures.session_still.usable) (c.leave.ensures.done told)

pub returns-in_err-give_up-clause-kept : goal.returns-in_err-give_up-clause-kept
returns-in_err-give_up-clause-kept g c = λ none. absurd (let failed = c.in_err-give_up.was in let fine = (c.give_up.ensures.none none).0 in cc)

pub returns-clause-kept : goal.returns-clause-kept
returns-clause-kept g c = λ none. subst (λ s. Stays g.S.Store s c.leave.new.store) (c.give_up.ensures.none none).1 c.leave.ensures.stays

pub returns-in_err-give_up-clause-kept_between : goal.returns-in_err-give_up-clause-kept_between
returns-in_err-give_up-clause-kept_between g c = λ none. absurd (let failed = c.in_err-give_up.was in let fine = (c.give_up.ensures.none none).0 in cc)

pub returns-clause-kept_between : goal.returns-clause-kept_between
returns-clause-kept_between g c = λ none. c.leave.ensures.session_still
