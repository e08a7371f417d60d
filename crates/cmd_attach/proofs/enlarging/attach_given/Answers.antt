use Rattle.std.proofs.Common.{◌≡◌, Ok, refl, ◌∙◌, arith}
use Rattle.std.proofs.lemmas.Result.{on_ok_weaker}
use Rattle.vg_meta.specs.Roomy.{table_alone}
use Rattle.sm_machine.specs.Commits.{gives_up}
use Rattle.sm_machine.specs.declared.commands.Command.TheVariants as command
use Rattle.sm_space.proofs.KeptRoom.{KeepsRoom, keeps_room}
use Rattle.sm_ready.proofs.ChainLaws.{err_not_ok}
use Rattle.sm_ready.proofs.FramingLaws.{more_steps, then_steps}
use Rattle.gc_abandon.proofs.AbandonedLaws.{GaveUp, gave_up, give_up_failed, then_allowed, then_does, then_kept, then_next}
use Rattle.gc_abandon.proofs.TableLaws.{table_given}
use Rattle.sm_space.proofs.GivenLaws.{growth_given, least_given}
use Rattle.cmd_attach.proofs.enlarging.attach_given.Given.{Over}
use Rattle.cmd_attach.proofs.enlarging.attach_given.Goals as goal

pub returns-in_err-give_up-clause-step : goal.returns-in_err-give_up-clause-step
returns-in_err-give_up-clause-step g c = more_steps (omega arith) c.give_up.ensures.step

pub returns-in_err-give_up-clause-done : goal.returns-in_err-give_up-clause-done
returns-in_err-give_up-clause-done g c = λ told ready.
    give_up_failed g.S.Store c.args.store.now c.give_up.new.store c.args.memory.now c.give_up.new.memory c.args.disk.now (command.Attach c.args.disk.now c.args.mode) _ _ c.requires.session.usable told
    (λ some. let failed = c.in_err-give_up.was in let fine = (c.give_up.ensures.none some).0 in cc) (λ fine. err_not_ok _ tt c.from_residual.ensures.0 fine) (λ is. c.give_up.ensures.done is told ready)

-- the operation was given up, or none was there
gave : (g : Over) (c : goal.After-attach_kept-arg-2-1 g) → GaveUp g.S.Store c.args.disk.now c.args.store.now c.args.memory.now c.give_up.new.store c.give_up.new.memory
gave g c = let v = c.in_ok-give_up.ensures in gave_up c.give_up.ensures.step v.session_still v.shape c.give_up.ensures.none c.give_up.ensures.done c.in_ok-give_up.was

roomy : (g : Over) (c : goal.After-attach_kept-arg-2-1 g) → KeepsRoom g.S.Store c.args.store.now c.give_up.new.store
roomy g c = keeps_room g.S.Store c.args.store.now c.give_up.new.store c.args.memory.now c.args.disk.now c.requires.session.orderly (λ no. (c.give_up.ensures.none no).1) c.in_ok-give_up.ensures.commits

-- and so it is behind the work
gave_then : (g : Over) (c : goal.After-attach_kept g) → GaveUp g.S.Store c.args.disk.now c.args.store.now c.args.memory.now c.give_up.new.store c.give_up.new.memory
gave_then g c = let v = c.in_ok-give_up.ensures in gave_up c.give_up.ensures.step v.session_still v.shape c.give_up.ensures.none c.give_up.ensures.done c.in_ok-give_up.was

roomy_then : (g : Over) (c : goal.After-attach_kept g) → KeepsRoom g.S.Store c.args.store.now c.give_up.new.store
roomy_then g c = keeps_room g.S.Store c.args.store.now c.give_up.new.store c.args.memory.now c.args.disk.now c.requires.session.orderly (λ no. (c.give_up.ensures.none no).1) c.in_ok-give_up.ensures.commits

pub attach_kept-requires-clause-allowed : goal.attach_kept-requires-clause-allowed
unfolding gives_up
attach_kept-requires-clause-allowed g c = then_allowed (gave g c) (command.Attach c.args.disk.now c.args.mode) refl refl c.requires.allowed

pub attach_kept-requires-clause-kept_up : goal.attach_kept-requires-clause-kept_up
unfolding gives_up
attach_kept-requires-clause-kept_up g c = then_kept (gave g c) (command.Attach c.args.disk.now c.args.mode) refl

pub attach_kept-requires-clause-growth : goal.attach_kept-requires-clause-growth
attach_kept-requires-clause-growth g c = growth_given (gave g c) (roomy g c) c.give_up.ensures.others.0 (command.Attach c.args.disk.now c.args.mode) refl c.args.growth c.requires.growth

pub returns-clause-step : goal.returns-clause-step
returns-clause-step g c = then_steps c.give_up.ensures.step c.attach_kept.ensures.step

pub returns-clause-least : goal.returns-clause-least
returns-clause-least g c = on_ok_weaker c.attach_kept.result
    (least_given (gave_then g c) (roomy_then g c) c.give_up.ensures.others.0 (command.Attach c.args.disk.now c.args.mode) refl (table_alone (g.S.Store.table c.attach_kept.new.store))
    (table_given g.S.Store c.args.store.now c.give_up.new.store c.args.memory.now c.args.disk.now (λ no. (c.give_up.ensures.none no).1) c.in_ok-give_up.ensures.commits)) c.attach_kept.ensures.least

pub returns-clause-shape : goal.returns-clause-shape
unfolding gives_up
returns-clause-shape g c = on_ok_weaker c.attach_kept.result (λ shaped. shaped ∙ then_next (gave_then g c) (command.Attach c.args.disk.now c.args.mode) refl refl) c.attach_kept.ensures.shape

pub returns-clause-done : goal.returns-clause-done
returns-clause-done g c = λ told ready.
    then_does (gave_then g c) c.attach_kept.new.memory (c.attach_kept.result ≡ Ok tt) (command.Attach c.args.disk.now c.args.mode) c.requires.session told ready
    (g.met.S.Store.leaves_now c.args.store.now told c.requires.session.usable) (g.met.S.Store.leaves_now c.give_up.new.store told c.in_ok-give_up.ensures.session_still.usable) (c.attach_kept.ensures.done told)
