use Rattle.std.proofs.Common.{◌≡◌, ◌*◌, IfOk, refl, ◌∙◌, subst, arith}
use Rattle.std.specs.Result.{IsOk}
use Rattle.std.proofs.lemmas.Result.{on_ok_weaker}
use Rattle.sm_base.specs.Numbers.{div_up}
use Rattle.vg_meta.specs.Roomy.{table_alone}
use Rattle.vg_volumes.specs.Sites.{Site}
use Rattle.sm_machine.specs.Disks.{sector_bytes}
use Rattle.sm_machine.specs.Refusals.{rounded}
use Rattle.sm_ready.specs.Known.{shape_in}
use Rattle.sm_machine.specs.Commits.{gives_up}
use Rattle.sm_machine.specs.declared.commands.Command.TheVariants as command
use Rattle.sm_space.proofs.KeptRoom.{KeepsRoom, keeps_room}
use Rattle.sm_ready.proofs.FramingLaws.{more_steps, then_steps}
use Rattle.gc_abandon.proofs.AbandonedLaws.{GaveUp, gave_up, give_up_failed, then_allowed, then_does, then_kept, then_next}
use Rattle.sm_space.proofs.ResizedLaws.{never_ok}
use Rattle.gc_abandon.proofs.TableLaws.{table_given}
use Rattle.sm_space.proofs.GivenLaws.{growth_given, least_given}
use Rattle.sm_space.proofs.resizing.resize_given.Given.{Over}
use Rattle.sm_space.proofs.resizing.resize_given.Goals as goal

pub returns-in_err-give_up-clause-step : goal.returns-in_err-give_up-clause-step
returns-in_err-give_up-clause-step g c = more_steps (omega arith) c.give_up.ensures.step

pub returns-in_err-give_up-clause-done : goal.returns-in_err-give_up-clause-done
returns-in_err-give_up-clause-done g c = λ told ready.
    give_up_failed g.S.Store c.args.store.now c.give_up.new.store c.args.memory.now c.give_up.new.memory c.args.disk.now (command.Resize c.args.disk.now c.args.size) _ _ c.requires.session.usable told
    (λ some. let failed = c.in_err-give_up.was in let fine = (c.give_up.ensures.none some).0 in cc) (λ fine. never_ok _ c.from_residual.ensures.0 fine) (λ is. c.give_up.ensures.done is told ready)

-- the operation was given up, or none was there
gave : (g : Over) (c : goal.After-resize_kept-arg-2-1 g) → GaveUp g.S.Store c.args.disk.now c.args.store.now c.args.memory.now c.give_up.new.store c.give_up.new.memory
gave g c = let v = c.in_ok-give_up.ensures in gave_up c.give_up.ensures.step v.session_still v.shape c.give_up.ensures.none c.give_up.ensures.done c.in_ok-give_up.was

roomy : (g : Over) (c : goal.After-resize_kept-arg-2-1 g) → KeepsRoom g.S.Store c.args.store.now c.give_up.new.store
roomy g c = keeps_room g.S.Store c.args.store.now c.give_up.new.store c.args.memory.now c.args.disk.now c.requires.session.orderly (λ no. (c.give_up.ensures.none no).1) c.in_ok-give_up.ensures.commits

-- and so it is behind the work
gave_then : (g : Over) (c : goal.After-resize_kept g) → GaveUp g.S.Store c.args.disk.now c.args.store.now c.args.memory.now c.give_up.new.store c.give_up.new.memory
gave_then g c = let v = c.in_ok-give_up.ensures in gave_up c.give_up.ensures.step v.session_still v.shape c.give_up.ensures.none c.give_up.ensures.done c.in_ok-give_up.was

roomy_then : (g : Over) (c : goal.After-resize_kept g) → KeepsRoom g.S.Store c.args.store.now c.give_up.new.store
roomy_then g c = keeps_room g.S.Store c.args.store.now c.give_up.new.store c.args.memory.now c.args.disk.now c.requires.session.orderly (λ no. (c.give_up.ensures.none no).1) c.in_ok-give_up.ensures.commits

pub resize_kept-requires-clause-allowed : goal.resize_kept-requires-clause-allowed
unfolding gives_up
resize_kept-requires-clause-allowed g c = then_allowed (gave g c) (command.Resize c.args.disk.now c.args.size) refl refl c.requires.allowed

pub resize_kept-requires-clause-kept_up : goal.resize_kept-requires-clause-kept_up
unfolding gives_up
resize_kept-requires-clause-kept_up g c = then_kept (gave g c) (command.Resize c.args.disk.now c.args.size) refl

pub resize_kept-requires-clause-growth : goal.resize_kept-requires-clause-growth
resize_kept-requires-clause-growth g c = growth_given (gave g c) (roomy g c) c.give_up.ensures.others.0 (command.Resize c.args.disk.now c.args.size) refl c.args.growth c.requires.growth

pub returns-clause-step : goal.returns-clause-step
returns-clause-step g c = then_steps c.give_up.ensures.step c.resize_kept.ensures.step

pub returns-clause-least : goal.returns-clause-least
returns-clause-least g c = on_ok_weaker c.resize_kept.result
    (least_given (gave_then g c) (roomy_then g c) c.give_up.ensures.others.0 (command.Resize c.args.disk.now c.args.size) refl (table_alone (g.S.Store.table c.resize_kept.new.store))
    (table_given g.S.Store c.args.store.now c.give_up.new.store c.args.memory.now c.args.disk.now (λ no. (c.give_up.ensures.none no).1) c.in_ok-give_up.ensures.commits)) c.resize_kept.ensures.least

pub returns-clause-size : goal.returns-clause-size
unfolding shape_in rounded
returns-clause-size g c =
    subst (λ (s : Site). IfOk c.resize_kept.result (λ bytes. bytes ≡ div_up c.args.size (sector_bytes * s.geometry.block) * s.geometry.block * sector_bytes)) c.give_up.ensures.step.site c.resize_kept.ensures.size

pub returns-clause-shape : goal.returns-clause-shape
unfolding gives_up
returns-clause-shape g c = on_ok_weaker c.resize_kept.result (λ shaped. shaped ∙ then_next (gave_then g c) (command.Resize c.args.disk.now c.args.size) refl refl) c.resize_kept.ensures.shape

pub returns-clause-done : goal.returns-clause-done
returns-clause-done g c = λ told ready.
    then_does (gave_then g c) c.resize_kept.new.memory (IsOk c.resize_kept.result) (command.Resize c.args.disk.now c.args.size) c.requires.session told ready
    (g.met.S.Store.leaves_now c.args.store.now told c.requires.session.usable) (g.met.S.Store.leaves_now c.give_up.new.store told c.in_ok-give_up.ensures.session_still.usable) (c.resize_kept.ensures.done told)
