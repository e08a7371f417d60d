use Rattle.std.proofs.Common.{◌≢◌, ◌<◌, ◌+◌, ◌-◌, ℕ, zero, suc, refl, sym, ap, ap₂, ◌∙◌, subst, subst₂, arith, option_copied}
use Rattle.std.specs.Prelude.{is_some}
use Rattle.std.proofs.lemmas.Bool.{true≢false}
use Rattle.vg_meta.specs.Roomy.{table_alone}
use Rattle.sm_machine.specs.declared.commands.Command.TheVariants as command
use Rattle.sm_machine.specs.Steps.{disks_next}
use Rattle.sm_machine.proofs.Passed.{passed}
use Rattle.sm_ready.specs.Known.{known, shape_in}
use Rattle.sm_ready.proofs.ChainLaws.{done_behind, only_crash, ready_read}
use Rattle.sm_ready.proofs.FramingLaws.{more_steps, reads_between, stays_steps, then_steps}
use Rattle.sm_ready.specs.Stores.{content_now}
use Rattle.sm_base.specs.declared.names.Name.TheVariants.{Vhd}
use Rattle.vhd_chain.specs.Trees.{tree_row}
use Rattle.sm_machine.specs.Refusals.{need as needed}
use Rattle.sm_space.specs.Inflating.{IsBelow, IsGrowth, extents_in}
use Rattle.sm_space.proofs.InflatingLaws.{only_read}
use Rattle.vg_volumes.specs.Stored.{Stored}
use Rattle.sm_standing.specs.Standing.{disks}
use Rattle.cmd_attach.proofs.LackLaws.{few_extents, has_free, image_there, is_below}
use Rattle.cmd_attach.proofs.enlarging.attach.Goals as goal

positive : (n : ℕ) → n ≢ 0 → 0 < n
positive zero e = absurd (e refl)
positive (suc n) e = omega arith

pub unreachable-requires : goal.unreachable-requires
unreachable-requires g c =
    let is = c.need-lacking.ensures (g.S.Store.site c.args.store.now) (table_alone (g.S.Store.table c.args.store.now)) (sym c.geometry-geometry.ensures) c.requires.session.orderly c.requires.session.tidy (passed _ (command.Attach c.args.disk.now c.args.mode) c.requires.allowed).bad_size in
    let some = subst (λ n. 0 < n) is (positive c.need-lacking.result c.if-lacking-eq0.false) in
    absurd (true≢false (sym (image_there (g.S.Store.site c.args.store.now) (table_alone (g.S.Store.table c.args.store.now)) (known c.args.memory.now) c.args.disk.now c.args.mode c.requires.session.orderly c.requires.allowed some) ∙ ap is_some (sym c.get.ensures ∙ ap (λ o. option_copied o) c.in_default-get.is)))

pub overflow_cast-to : goal.overflow_cast-to
overflow_cast-to g c =
    let is = c.need-lacking.ensures (g.S.Store.site c.args.store.now) (table_alone (g.S.Store.table c.args.store.now)) (sym c.geometry-geometry.ensures) c.requires.session.orderly c.requires.session.tidy (passed _ (command.Attach c.args.disk.now c.args.mode) c.requires.allowed).bad_size in
    let some = subst (λ n. 0 < n) is (positive c.need-lacking.result c.if-lacking-eq0.false) in
    let few = few_extents (g.S.Store.site c.args.store.now) (table_alone (g.S.Store.table c.args.store.now)) (known c.args.memory.now) c.args.disk.now c.args.mode c.requires.session.orderly c.requires.allowed some in omega (arith, few, is)

pub overflow_add-to : goal.overflow_add-to
overflow_add-to g c =
    let is = c.need-lacking.ensures (g.S.Store.site c.args.store.now) (table_alone (g.S.Store.table c.args.store.now)) (sym c.geometry-geometry.ensures) c.requires.session.orderly c.requires.session.tidy (passed _ (command.Attach c.args.disk.now c.args.mode) c.requires.allowed).bad_size in
    let some = subst (λ n. 0 < n) is (positive c.need-lacking.result c.if-lacking-eq0.false) in
    let had = ap extents_in (sym c.get.ensures ∙ ap (λ o. option_copied o) c.in-Some.is) in
    let few = few_extents (g.S.Store.site c.args.store.now) (table_alone (g.S.Store.table c.args.store.now)) (known c.args.memory.now) c.args.disk.now c.args.mode c.requires.session.orderly c.requires.allowed some in omega (arith, few, is, had)

pub plan_growth-requires-clause-there : goal.plan_growth-requires-clause-there
plan_growth-requires-clause-there g c =
    let is = c.need-lacking.ensures (g.S.Store.site c.args.store.now) (table_alone (g.S.Store.table c.args.store.now)) (sym c.geometry-geometry.ensures) c.requires.session.orderly c.requires.session.tidy (passed _ (command.Attach c.args.disk.now c.args.mode) c.requires.allowed).bad_size in
    let some = subst (λ n. 0 < n) is (positive c.need-lacking.result c.if-lacking-eq0.false) in
    let had = ap extents_in (sym c.get.ensures ∙ ap (λ o. option_copied o) c.in-Some.is) in
    subst (λ k. IsBelow c.args.memory.now.tree.rows c.args.disk.now k) (let sum = is in omega (arith, sum, had)) (is_below (g.S.Store.site c.args.store.now) (table_alone (g.S.Store.table c.args.store.now)) (known c.args.memory.now) c.args.disk.now c.args.mode c.requires.session.orderly c.requires.allowed some)

pub plan_growth-requires-clause-free : goal.plan_growth-requires-clause-free
plan_growth-requires-clause-free g c =
    let is = c.need-lacking.ensures (g.S.Store.site c.args.store.now) (table_alone (g.S.Store.table c.args.store.now)) (sym c.geometry-geometry.ensures) c.requires.session.orderly c.requires.session.tidy (passed _ (command.Attach c.args.disk.now c.args.mode) c.requires.allowed).bad_size in
    let some = subst (λ n. 0 < n) is (positive c.need-lacking.result c.if-lacking-eq0.false) in
    let had = ap extents_in (sym c.get.ensures ∙ ap (λ o. option_copied o) c.in-Some.is) in
    let free = has_free (g.S.Store.site c.args.store.now) (table_alone (g.S.Store.table c.args.store.now)) (known c.args.memory.now) c.args.disk.now c.args.mode c.requires.session.orderly c.requires.allowed some c.requires.session.tidy in omega (arith, free, is, had)

pub attach_given-requires-clause-growth : goal.attach_given-requires-clause-growth
attach_given-requires-clause-growth g c =
    sym (c.need-lacking.ensures (g.S.Store.site c.args.store.now) (table_alone (g.S.Store.table c.args.store.now)) (sym c.geometry-geometry.ensures) c.requires.session.orderly c.requires.session.tidy (passed _ (command.Attach c.args.disk.now c.args.mode) c.requires.allowed).bad_size) ∙ c.if-lacking-eq0.true

pub attach_given-requires-2-clause-growth : goal.attach_given-requires-2-clause-growth
attach_given-requires-2-clause-growth g c =
    let is = c.need-lacking.ensures (g.S.Store.site c.args.store.now) (table_alone (g.S.Store.table c.args.store.now)) (sym c.geometry-geometry.ensures) c.requires.session.orderly c.requires.session.tidy (passed _ (command.Attach c.args.disk.now c.args.mode) c.requires.allowed).bad_size in
    let some = subst (λ n. 0 < n) is (positive c.need-lacking.result c.if-lacking-eq0.false) in
    let had = ap extents_in (sym c.get.ensures ∙ ap (λ o. option_copied o) c.in-Some.is) in
    let e = c.in-Ok-plan_growth.ensures in
    let alike = ap₂ (λ s t. needed (shape_in s t (known c.args.memory.now)) (command.Attach c.args.disk.now c.args.mode)) e.same.0 e.table in
    record {
      some = subst (λ n. 0 < n) (sym alike) some;
      extents = omega (arith, had, is, alike);
      grows = subst₂ (λ n t. IsGrowth n t (Vhd c.args.disk.now) (c.in-Some.row.now.extents + c.need-lacking.result - extents_in (tree_row c.args.memory.now.tree.rows (Vhd c.args.disk.now))) c.in-Ok-plan_growth.growth)
          (sym (ap (λ s. s.count) e.same.0)) (sym e.table) e.growth;
      row = e.row;
      places = e.places;
    }

pub returns-in_default-clause-done : goal.returns-in_default-clause-done
returns-in_default-clause-done g c = λ told ready. let d = c.attach_given.ensures.done told ready in only_crash (λ fine. let x = fine in cc) d.crash d.logged

pub returns-then-lacking-eq0-clause-done : goal.returns-then-lacking-eq0-clause-done
returns-then-lacking-eq0-clause-done g c = λ told ready.
    let d = c.attach_given.ensures.done told ready in
    record { ready = λ fine. d.ready c.in-Ok.is; settled = λ fine. d.settled c.in-Ok.is; shown = λ fine. d.shown c.in-Ok.is; crash = d.crash; logged = d.logged }

pub returns-in_default-plan_growth-clause-step : goal.returns-in_default-plan_growth-clause-step
returns-in_default-plan_growth-clause-step g c =
    let r = c.plan_growth.ensures.reads.stays in
    more_steps (omega arith) (stays_steps r (λ told. g.met.S.Store.leaves_now c.plan_growth.new.store told (r.failed ∙ c.requires.session.usable)))

pub returns-in_default-plan_growth-clause-done : goal.returns-in_default-plan_growth-clause-done
unfolding disks_next
returns-in_default-plan_growth-clause-done g c = λ told ready.
    let e = c.plan_growth.ensures in
    only_read c.args.memory.now c.requires.session.orderly c.requires.session.usable told ready (g.met.S.Store.leaves_now c.args.store.now told c.requires.session.usable) e.reads e.same.1 e.leaves _ _ (λ fine. absurd (let x = fine in cc)) refl

pub attach_given-requires-2-clause-session : goal.attach_given-requires-2-clause-session
attach_given-requires-2-clause-session g c = reads_between c.args.memory.now c.plan_growth.ensures.reads c.requires.session

pub returns-in_default-attach_given-clause-step : goal.returns-in_default-attach_given-clause-step
returns-in_default-attach_given-clause-step g c =
    let r = c.plan_growth.ensures.reads.stays in
    then_steps (stays_steps r (λ told. g.met.S.Store.leaves_now c.plan_growth.new.store told (r.failed ∙ c.requires.session.usable))) c.attach_given-2.ensures.step

pub returns-in_default-attach_given-clause-done : goal.returns-in_default-attach_given-clause-done
returns-in_default-attach_given-clause-done g c = λ told ready.
    let e = c.plan_growth.ensures in
    done_behind _ (λ (x : Stored). disks_next (disks (content_now x.site x.table x.area)) (shape_in x.site x.table (known c.args.memory.now)) (command.Attach c.args.disk.now c.args.mode)) e.reads e.same.1 e.leaves (λ fine. absurd (let x = fine in cc))
    (c.attach_given-2.ensures.done told (ready_read c.args.memory.now e.reads e.same.1 ready))

pub returns-clause-step : goal.returns-clause-step
returns-clause-step g c =
    let r = c.plan_growth.ensures.reads.stays in
    then_steps (stays_steps r (λ told. g.met.S.Store.leaves_now c.plan_growth.new.store told (r.failed ∙ c.requires.session.usable))) c.attach_given-2.ensures.step

pub returns-clause-done : goal.returns-clause-done
returns-clause-done g c = λ told ready.
    let e = c.plan_growth.ensures in
    done_behind _ (λ (x : Stored). disks_next (disks (content_now x.site x.table x.area)) (shape_in x.site x.table (known c.args.memory.now)) (command.Attach c.args.disk.now c.args.mode)) e.reads e.same.1 e.leaves (λ fine. c.in-Ok-attach_given.is)
    (c.attach_given-2.ensures.done told (ready_read c.args.memory.now e.reads e.same.1 ready))
