use Rattle.std.proofs.Common.{◌≡◌, Ok, refl, ◌∙◌, arith}
use Rattle.std.proofs.lemmas.Result.{on_ok_weaker}
use Rattle.sm_machine.specs.Commits.{gives_up}
use Rattle.sm_machine.specs.declared.commands.Command.TheVariants as command
use Rattle.sm_ready.proofs.ChainLaws.{err_not_ok}
use Rattle.sm_ready.proofs.FramingLaws.{more_steps, then_steps}
use Rattle.gc_abandon.proofs.AbandonedLaws.{GaveUp, gave_up, give_up_failed, then_allowed, then_does, then_kept, then_next}
use Rattle.cmd_change.proofs.deleting.delete.Given.{Over}
use Rattle.cmd_change.proofs.deleting.delete.Goals as goal

pub returns-in_err-give_up-clause-step : goal.returns-in_err-give_up-clause-step
returns-in_err-give_up-clause-step g c = more_steps (omega arith) c.give_up.ensures.step

pub returns-in_err-give_up-clause-done : goal.returns-in_err-give_up-clause-done
returns-in_err-give_up-clause-done g c = λ told ready.
    give_up_failed g.S.Store c.args.store.now c.give_up.new.store c.args.memory.now c.give_up.new.memory c.args.disk.now (command.Delete c.args.disk.now) _ _ c.requires.session.usable told
    (λ some. let failed = c.in_err-give_up.was in let fine = (c.give_up.ensures.none some).0 in cc) (λ fine. err_not_ok _ tt c.from_residual.ensures.0 fine) (λ is. c.give_up.ensures.done is told ready)

-- the operation was given up, or none was there
gave : (g : Over) (c : goal.After-take_away-arg-2-1 g) → GaveUp g.S.Store c.args.disk.now c.args.store.now c.args.memory.now c.give_up.new.store c.give_up.new.memory
gave g c = let v = c.in_ok-give_up.ensures in gave_up c.give_up.ensures.step v.session_still v.shape c.give_up.ensures.none c.give_up.ensures.done c.in_ok-give_up.was

-- and so it is behind the work
gave_then : (g : Over) (c : goal.After-take_away g) → GaveUp g.S.Store c.args.disk.now c.args.store.now c.args.memory.now c.give_up.new.store c.give_up.new.memory
gave_then g c = let v = c.in_ok-give_up.ensures in gave_up c.give_up.ensures.step v.session_still v.shape c.give_up.ensures.none c.give_up.ensures.done c.in_ok-give_up.was

pub take_away-requires-clause-allowed : goal.take_away-requires-clause-allowed
unfolding gives_up
take_away-requires-clause-allowed g c = then_allowed (gave g c) (command.Delete c.args.disk.now) refl refl c.requires.allowed

pub take_away-requires-clause-kept_up : goal.take_away-requires-clause-kept_up
unfolding gives_up
take_away-requires-clause-kept_up g c = then_kept (gave g c) (command.Delete c.args.disk.now) refl

pub returns-clause-step : goal.returns-clause-step
returns-clause-step g c = then_steps c.give_up.ensures.step c.take_away.ensures.step

pub returns-clause-shape : goal.returns-clause-shape
unfolding gives_up
returns-clause-shape g c = on_ok_weaker c.take_away.result (λ shaped. shaped ∙ then_next (gave_then g c) (command.Delete c.args.disk.now) refl refl) c.take_away.ensures.shape

pub returns-clause-done : goal.returns-clause-done
returns-clause-done g c = λ told ready.
    then_does (gave_then g c) c.take_away.new.memory (c.take_away.result ≡ Ok tt) (command.Delete c.args.disk.now) c.requires.session told ready
    (g.met.S.Store.leaves_now c.args.store.now told c.requires.session.usable) (g.met.S.Store.leaves_now c.give_up.new.store told c.in_ok-give_up.ensures.session_still.usable) (c.take_away.ensures.done told)
