use Rattle.std.proofs.Common.{◌≡◌, Ok, sym, ap, ◌∙◌, subst, arith}
use Rattle.vg_meta.specs.Roomy.{table_alone}
use Rattle.sm_machine.specs.declared.commands.Command.TheVariants as command
use Rattle.sm_machine.specs.Commits.{is_given_up}
use Rattle.sm_machine.specs.Refusals.{need as needed, refusal}
use Rattle.sm_machine.specs.Steps.{disks_next, shape_next}
use Rattle.sm_ready.specs.Does.{store_shape}
use Rattle.sm_ready.specs.Done.{HasDone}
use Rattle.sm_ready.specs.Known.{known}
use Rattle.sm_ready.specs.Ready.{IsReady}
use Rattle.sm_ready.specs.Stores.{StoreLeaves, content_now, store_content}
use Rattle.sm_ready.proofs.ChainLaws.{err_not_ok, only_crash}
use Rattle.sm_ready.proofs.FramingLaws.{more_steps, stays_steps, then_steps}
use Rattle.sm_ready.proofs.TakenLaws.{is_told}
use Rattle.sm_ready.proofs.ThenLaws.{then_done}
use Rattle.sm_space.specs.Inflating.{IsBelow, inflated}
use Rattle.sm_standing.specs.Standing.{disks}
use Rattle.sm_space.specs.Growing.{HasGrowth}
use Rattle.cmd_attach.proofs.LackLaws.{allowed_then, is_below, needs_none_then, next_then}
use Rattle.cmd_attach.proofs.enlarging.attach_kept.Goals as goal

pub note-requires-clause-enough : goal.note-requires-clause-enough
note-requires-clause-enough g c = subst (HasGrowth g.S.Store c.args.store.now c.args.memory.now (command.Attach c.args.disk.now c.args.mode) c.args.disk.now) c.in_default.is c.requires.growth

pub returns-in_err-note-clause-step : goal.returns-in_err-note-clause-step
returns-in_err-note-clause-step g c = let n = c.note.ensures in more_steps (omega arith) (stays_steps n.stays (λ told. g.met.S.Store.leaves_now c.note.new.store told n.session_still.usable))

pub returns-in_default-clause-step : goal.returns-in_default-clause-step
returns-in_default-clause-step g c = let n = c.note.ensures in more_steps (omega arith) (stays_steps n.stays (λ told. g.met.S.Store.leaves_now c.note.new.store told n.session_still.usable))

pub enlarge-requires : goal.enlarge-requires
enlarge-requires g c =
    let p = subst (HasGrowth g.S.Store c.args.store.now c.args.memory.now (command.Attach c.args.disk.now c.args.mode) c.args.disk.now) c.in-Some.is c.requires.growth in
    record {
      session = c.requires.session;
      there = subst (λ k. IsBelow c.args.memory.now.tree.rows c.args.disk.now k) (sym p.extents) (is_below (g.S.Store.site c.args.store.now) (table_alone (g.S.Store.table c.args.store.now)) (known c.args.memory.now) c.args.disk.now c.args.mode c.requires.session.orderly c.requires.allowed p.some);
      growth = p.grows;
      row = p.row;
      places = p.places;
    }

pub note-requires-2-clause-allowed : goal.note-requires-2-clause-allowed
note-requires-2-clause-allowed g c =
    let p = subst (HasGrowth g.S.Store c.args.store.now c.args.memory.now (command.Attach c.args.disk.now c.args.mode) c.args.disk.now) c.in-Some.is c.requires.growth in
    let now = c.in_ok-enlarge.ensures.shape ∙ ap (λ k. inflated c.args.disk.now k (store_shape g.S.Store c.args.store.now c.args.memory.now)) p.extents in
    ap (λ σ. refusal σ (command.Attach c.args.disk.now c.args.mode)) now ∙ allowed_then (g.S.Store.site c.args.store.now) (table_alone (g.S.Store.table c.args.store.now)) (known c.args.memory.now) c.args.disk.now c.args.mode c.requires.session.orderly c.requires.allowed p.some

pub note-requires-2-clause-kept_up : goal.note-requires-2-clause-kept_up
unfolding is_given_up
note-requires-2-clause-kept_up g c = ap (λ σ. is_given_up σ (command.Attach c.args.disk.now c.args.mode)) c.in_ok-enlarge.ensures.shape ∙ c.requires.kept_up

pub note-requires-2-clause-enough : goal.note-requires-2-clause-enough
note-requires-2-clause-enough g c =
    let p = subst (HasGrowth g.S.Store c.args.store.now c.args.memory.now (command.Attach c.args.disk.now c.args.mode) c.args.disk.now) c.in-Some.is c.requires.growth in
    let now = c.in_ok-enlarge.ensures.shape ∙ ap (λ k. inflated c.args.disk.now k (store_shape g.S.Store c.args.store.now c.args.memory.now)) p.extents in
    ap (λ σ. needed σ (command.Attach c.args.disk.now c.args.mode)) now ∙ needs_none_then (g.S.Store.site c.args.store.now) (table_alone (g.S.Store.table c.args.store.now)) (known c.args.memory.now) c.args.disk.now c.args.mode c.requires.session.orderly c.requires.allowed p.some

pub returns-clause-step : goal.returns-clause-step
returns-clause-step g c =
    let n = c.note-2.ensures in then_steps c.enlarge.ensures.step (stays_steps n.stays (λ told. g.met.S.Store.leaves_now c.note-2.new.store told n.session_still.usable))

pub returns-clause-shape : goal.returns-clause-shape
returns-clause-shape g c =
    let p = subst (HasGrowth g.S.Store c.args.store.now c.args.memory.now (command.Attach c.args.disk.now c.args.mode) c.args.disk.now) c.in-Some.is c.requires.growth in
    let now = c.in_ok-enlarge.ensures.shape ∙ ap (λ k. inflated c.args.disk.now k (store_shape g.S.Store c.args.store.now c.args.memory.now)) p.extents in
    c.in_ok-note-2.ensures.shape ∙ ap (λ σ. shape_next σ (command.Attach c.args.disk.now c.args.mode)) now ∙ next_then (g.S.Store.site c.args.store.now) (table_alone (g.S.Store.table c.args.store.now)) (known c.args.memory.now) c.args.disk.now c.args.mode c.requires.session.orderly c.requires.allowed p.some c.requires.kept_up

pub returns-clause-done : goal.returns-clause-done
unfolding disks_next
returns-clause-done g c = λ told ready.
    let d = c.enlarge.ensures.done told ready in
    let h = is_told g.S.Store c.args.store.now c.args.memory.now c.requires.session.orderly c.requires.session.usable told ready (g.met.S.Store.leaves_now c.args.store.now told c.requires.session.usable) in
    let made = subst (λ s. IsReady s (table_alone (g.S.Store.table c.enlarge.new.store)) (g.S.Store.area c.enlarge.new.store) (known c.enlarge.new.memory)) (sym c.enlarge.ensures.step.site) (d.ready c.in_ok-enlarge.was) in
    let mid = is_told g.S.Store c.enlarge.new.store c.enlarge.new.memory c.in_ok-enlarge.ensures.session_still.orderly c.in_ok-enlarge.ensures.session_still.usable told made (g.met.S.Store.leaves_now c.enlarge.new.store told c.in_ok-enlarge.ensures.session_still.usable) in
    let same = ap (λ s. disks (content_now s (table_alone (g.S.Store.table c.enlarge.new.store)) (g.S.Store.area c.enlarge.new.store))) c.enlarge.ensures.step.site ∙ d.shown c.in_ok-enlarge.was in
    let w = then_done h mid c.enlarge.ensures.step.site (d.settled c.in_ok-enlarge.was) same (known c.note-2.new.memory) (c.note-2.result ≡ Ok tt) (disks (store_content g.S.Store c.args.store.now))
    (subst (λ ds. HasDone (g.S.Store.site c.enlarge.new.store) (table_alone (g.S.Store.table c.enlarge.new.store)) (table_alone (g.S.Store.table c.note-2.new.store)) (g.S.Store.area c.enlarge.new.store) (g.S.Store.area c.note-2.new.store) (known c.note-2.new.memory) (StoreLeaves g.S.Store c.enlarge.new.store) (StoreLeaves g.S.Store c.note-2.new.store) (c.note-2.result ≡ Ok tt) ds) same (c.note-2.ensures.done told made)) in
    record { ready = λ fine. w.ready c.in_ok-note-2.was; settled = λ fine. w.settled c.in_ok-note-2.was; shown = λ fine. w.shown c.in_ok-note-2.was; crash = w.crash; logged = w.logged }

pub returns-in_err-enlarge-clause-done : goal.returns-in_err-enlarge-clause-done
unfolding disks_next
returns-in_err-enlarge-clause-done g c = λ told ready. let d = c.enlarge.ensures.done told ready in only_crash (λ fine. err_not_ok _ tt c.from_residual-in_err-enlarge.ensures.0 fine) d.crash d.logged

pub returns-in_err-note-2-clause-step : goal.returns-in_err-note-2-clause-step
returns-in_err-note-2-clause-step g c =
    let n = c.note-2.ensures in then_steps c.enlarge.ensures.step (stays_steps n.stays (λ told. g.met.S.Store.leaves_now c.note-2.new.store told n.session_still.usable))

pub returns-in_err-note-2-clause-done : goal.returns-in_err-note-2-clause-done
unfolding disks_next
returns-in_err-note-2-clause-done g c = λ told ready.
    let d = c.enlarge.ensures.done told ready in
    let h = is_told g.S.Store c.args.store.now c.args.memory.now c.requires.session.orderly c.requires.session.usable told ready (g.met.S.Store.leaves_now c.args.store.now told c.requires.session.usable) in
    let made = subst (λ s. IsReady s (table_alone (g.S.Store.table c.enlarge.new.store)) (g.S.Store.area c.enlarge.new.store) (known c.enlarge.new.memory)) (sym c.enlarge.ensures.step.site) (d.ready c.in_ok-enlarge.was) in
    let mid = is_told g.S.Store c.enlarge.new.store c.enlarge.new.memory c.in_ok-enlarge.ensures.session_still.orderly c.in_ok-enlarge.ensures.session_still.usable told made (g.met.S.Store.leaves_now c.enlarge.new.store told c.in_ok-enlarge.ensures.session_still.usable) in
    let same = ap (λ s. disks (content_now s (table_alone (g.S.Store.table c.enlarge.new.store)) (g.S.Store.area c.enlarge.new.store))) c.enlarge.ensures.step.site ∙ d.shown c.in_ok-enlarge.was in
    let w = then_done h mid c.enlarge.ensures.step.site (d.settled c.in_ok-enlarge.was) same (known c.note-2.new.memory) (c.note-2.result ≡ Ok tt) (disks (store_content g.S.Store c.args.store.now))
    (subst (λ ds. HasDone (g.S.Store.site c.enlarge.new.store) (table_alone (g.S.Store.table c.enlarge.new.store)) (table_alone (g.S.Store.table c.note-2.new.store)) (g.S.Store.area c.enlarge.new.store) (g.S.Store.area c.note-2.new.store) (known c.note-2.new.memory) (StoreLeaves g.S.Store c.enlarge.new.store) (StoreLeaves g.S.Store c.note-2.new.store) (c.note-2.result ≡ Ok tt) ds) same (c.note-2.ensures.done told made)) in
    only_crash (λ fine. err_not_ok _ tt c.from_residual-in_err-note-2.ensures.0 fine) w.crash w.logged
