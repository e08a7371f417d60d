use Rattle.std.proofs.Common.{inr, ◌+◌, sym, ◌∙◌}
use Rattle.std.proofs.lemmas.Bool.{true≢false}
use Rattle.sm_machine.specs.Runs.{is_accepted}
use Rattle.sm_ready.specs.Does.{store_shape}
use Rattle.sm_ready.proofs.TakenLaws.{is_told}
use Rattle.sm_session.specs.Carrying.{most_commits, most_log_commits}
use Rattle.sm_run.proofs.PoorLaws.{never_for_memory}
use Rattle.sm_session.proofs.CarryLaws.{only_poor, steps_none}
use Rattle.sm_session.proofs.LoggedLaws.{nothing_put, refused_stepped}
use Rattle.sm_session.proofs.taking.take.Goals as goal

pub returns-in-Some-clause-least : goal.returns-in-Some-clause-least
unfolding is_accepted
returns-in-Some-clause-least g c = λ u size label e yes. absurd (true≢false (sym yes))

pub returns-in-Some-clause-taken : goal.returns-in-Some-clause-taken
returns-in-Some-clause-taken g c = λ told ready good.
    let is = (rw c.table.ensures.table at c.in-Some.ensures.exact) (g.S.Store.site c.args.store.now) (record { same_sizes = sym c.geometry-geometry.ensures; same_count = sym c.extents-extents.ensures.count }) c.requires.session.orderly c.requires.session.tidy in
    let h = is_told g.S.Store c.args.store.now c.args.memory.now c.requires.session.orderly c.requires.session.usable told ready (g.met.S.Store.leaves_now c.args.store.now told c.requires.session.usable) in
    refused_stepped h good _ _ (sym is)

pub carry_tracked-requires-clause-allowed : goal.carry_tracked-requires-clause-allowed
carry_tracked-requires-clause-allowed g c =
    sym ((rw c.table.ensures.table at c.in_default.ensures.exact) (g.S.Store.site c.args.store.now) (record { same_sizes = sym c.geometry-geometry.ensures; same_count = sym c.extents-extents.ensures.count }) c.requires.session.orderly c.requires.session.tidy)

pub returns-in-Some-clause-spared : goal.returns-in-Some-clause-spared
returns-in-Some-clause-spared g c = λ e.
    let is = (rw c.table.ensures.table at c.in-Some.ensures.exact) (g.S.Store.site c.args.store.now) (record { same_sizes = sym c.geometry-geometry.ensures; same_count = sym c.extents-extents.ensures.count }) c.requires.session.orderly c.requires.session.tidy in
    absurd (never_for_memory (store_shape g.S.Store c.args.store.now c.args.memory.now) c.args.command.now (sym is ∙ (let x = e in cc)))

pub returns-in-Some-clause-lowered_gc : goal.returns-in-Some-clause-lowered_gc
unfolding is_accepted
returns-in-Some-clause-lowered_gc g c = λ collects yes. absurd (true≢false (sym yes))

-- the causes are tested before all else, by table and memory alone
pub returns-in-Some-clause-exact : goal.returns-in-Some-clause-exact
returns-in-Some-clause-exact g c = λ x causes.
    let is = (rw c.table.ensures.table at c.in-Some.ensures.exact) (g.S.Store.site c.args.store.now) (record { same_sizes = sym c.geometry-geometry.ensures; same_count = sym c.extents-extents.ensures.count }) c.requires.session.orderly c.requires.session.tidy in
    let found = is ∙ causes in cc

pub returns-in-Some-clause-step : goal.returns-in-Some-clause-step
returns-in-Some-clause-step g c = steps_none g.S.Store (most_commits c.args.command.now + most_log_commits c.args.command.now) c.args.store.now (λ told usable t image. g.met.S.Store.leaves_now c.args.store.now told usable t image) c.requires.session.usable

pub returns-in-Some-clause-writes : goal.returns-in-Some-clause-writes
returns-in-Some-clause-writes g c = nothing_put g.S.Store c.args.memory.now c.args.command.now c.args.store.now

pub returns-in-Some-clause-exact_only : goal.returns-in-Some-clause-exact_only
returns-in-Some-clause-exact_only g c = λ x same.
    let is = (rw c.table.ensures.table at c.in-Some.ensures.exact) (g.S.Store.site c.args.store.now) (record { same_sizes = sym c.geometry-geometry.ensures; same_count = sym c.extents-extents.ensures.count }) c.requires.session.orderly c.requires.session.tidy in
    inr (let e = same in let found = sym is in cc)

pub returns-clause-exact_only : goal.returns-clause-exact_only
returns-clause-exact_only g c = only_poor (store_shape g.S.Store c.args.store.now c.args.memory.now) c.args.command.now c.carry_tracked.result c.carry_tracked.ensures.poor
