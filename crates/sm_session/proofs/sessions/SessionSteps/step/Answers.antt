use Rattle.std.proofs.Common.{Ok, sym, subst}
use Rattle.vg_meta.specs.Roomy.{table_alone}
use Rattle.sm_machine.specs.Tracking.{AreGoodLogs}
use Rattle.sm_ready.specs.Does.{store_shape}
use Rattle.sm_ready.specs.Known.{known}
use Rattle.sm_ready.specs.Ready.{IsReady}
use Rattle.sm_ready.specs.Sessions.{IsReadyStore, KeepsAll}
use Rattle.sm_ready.specs.Stores.{StoreLeaves}
use Rattle.sm_ready.proofs.ShowLaws.{faces_ready, settled_ready}
use Rattle.sm_ready.proofs.TakenLaws.{IsTold, is_told}
use Rattle.sm_session.proofs.sessions.SessionSteps.step.Given.{Over}
use Rattle.std.proofs.lemmas.Bool.{true≢false}
use Rattle.sm_session.proofs.GoodLaws.{good_stepped}
use Rattle.sm_session.proofs.TellingLaws.{told_stepped, truthful_stepped}
use Rattle.sm_session.proofs.sessions.SessionSteps.step.Goals as goal

pub returns-in-Ok-clause-kept : goal.returns-in-Ok-clause-kept
returns-in-Ok-clause-kept g c = λ told ready.
    let e = c.take-taken.ensures in
    subst (λ s. KeepsAll s (StoreLeaves g.S.Store c.take-taken.new.store)) (sym e.step.site) (λ t image l. let k = e.taken told ready.1 ready.2 in record { kept = (k.crash t image l).0; passes = k.passes t image l })

pub returns-in-Err-clause-kept : goal.returns-in-Err-clause-kept
returns-in-Err-clause-kept g c = λ told ready.
    let e = c.take-taken.ensures in
    subst (λ s. KeepsAll s (StoreLeaves g.S.Store c.take-taken.new.store)) (sym e.step.site) (λ t image l. let k = e.taken told ready.1 ready.2 in record { kept = (k.crash t image l).0; passes = k.passes t image l })

-- after a step that succeeded
told_after : (g : Over) (c : goal.In-Ok g) (told : g.S.Store.told) (ready : IsReadyStore g.S.Store c.args.self.now.store c.args.self.now.memory) (good : ∥ AreGoodLogs (store_shape g.S.Store c.args.self.now.store c.args.self.now.memory) ∥₁) → IsTold g.S.Store c.take-taken.new.store c.take-taken.new.memory
told_after g c told ready good =
    let e = c.in-Ok.ensures in
    is_told g.S.Store c.take-taken.new.store c.take-taken.new.memory e.session_still.orderly e.session_still.usable told
    (subst (λ s. IsReady s (table_alone (g.S.Store.table c.take-taken.new.store)) (g.S.Store.area c.take-taken.new.store) (known c.take-taken.new.memory)) (sym e.step.site) (e.taken told ready good).ready)
    (g.met.S.Store.leaves_now c.take-taken.new.store told e.session_still.usable)

pub returns-in-Ok-clause-faces : goal.returns-in-Ok-clause-faces
returns-in-Ok-clause-faces g c = λ told ready. faces_ready (told_after g c told ready.1 ready.2)

pub returns-in-Ok-clause-settled : goal.returns-in-Ok-clause-settled
returns-in-Ok-clause-settled g c = λ told ready accepted settling. settled_ready (told_after g c told ready.1 ready.2) ((c.in-Ok.ensures.taken told ready.1 ready.2).settled accepted settling)

pub returns-in-Ok-clause-lasting : goal.returns-in-Ok-clause-lasting
returns-in-Ok-clause-lasting g c = λ told ready accepted settling. (c.in-Ok.ensures.taken told ready.1 ready.2).settled accepted settling

pub invariant_of-self : goal.invariant_of-self
invariant_of-self g c =
    let e = c.take-taken.ensures in
    let was = c.args.self.now in
    record {
      between = λ whole. c.in-Ok.ensures.session_still;
      buffer = rw (e.pool, e.step.site) was.buffer;
      child_counts = rw e.children was.child_counts;
    }

pub invariant_of-self-in-Err : goal.invariant_of-self-in-Err
invariant_of-self-in-Err g c =
    let e = c.take-taken.ensures in
    let was = c.args.self.now in
    record {
      between = λ whole. absurd (true≢false whole);
      buffer = rw (e.pool, e.step.site) was.buffer;
      child_counts = rw e.children was.child_counts;
    }

pub returns-in-Ok-clause-ready : goal.returns-in-Ok-clause-ready
returns-in-Ok-clause-ready g c = λ told ready.
    let e = c.in-Ok.ensures in
    let t = e.taken told ready.1 ready.2 in
    let was = c.args.self.now in (
      ready.0,
      subst (λ s. IsReady s (table_alone (g.S.Store.table c.take-taken.new.store)) (g.S.Store.area c.take-taken.new.store) (known c.take-taken.new.memory)) (sym e.step.site) t.ready,
      good_stepped g.S.Store was.store c.take-taken.new.store was.memory c.take-taken.new.memory c.args.command.now c.in-Ok.reply e.step.site (was.between c.if-self.false).orderly.well_formed ready.2 t,
    )

-- ---- what logs tell

pub returns-in-Err-clause-truthful : goal.returns-in-Err-clause-truthful
returns-in-Err-clause-truthful g c = λ told ready telling.
    let e = c.take-taken.ensures in
    let was = c.args.self.now in (
      truthful_stepped g.S.Store was.store c.take-taken.new.store was.memory c.take-taken.new.memory c.args.command.now c.take-taken.result e.step.site telling (e.taken told ready.1 ready.2),
      tt,
    )

pub returns-in-Ok-clause-truthful : goal.returns-in-Ok-clause-truthful
returns-in-Ok-clause-truthful g c = λ told ready telling.
    let e = c.in-Ok.ensures in
    let t = e.taken told ready.1 ready.2 in
    let was = c.args.self.now in
    let between = was.between c.if-self.false in
    let good = good_stepped g.S.Store was.store c.take-taken.new.store was.memory c.take-taken.new.memory c.args.command.now c.in-Ok.reply e.step.site between.orderly.well_formed ready.2 t in (
      truthful_stepped g.S.Store was.store c.take-taken.new.store was.memory c.take-taken.new.memory c.args.command.now (Ok c.in-Ok.reply) e.step.site telling t,
      told_stepped g.S.Store was.store c.take-taken.new.store was.memory c.take-taken.new.memory c.args.command.now c.in-Ok.reply e.step.site ready.2
          (is_told g.S.Store was.store was.memory between.orderly between.usable told ready.1 (g.met.S.Store.leaves_now was.store told between.usable))
          (told_after g c told ready.1 ready.2) good telling t,
    )
