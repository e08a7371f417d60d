use Rattle.std.proofs.Common.{refl, sym, subst}
use Rattle.std.specs.Option.{IsSome}
use Rattle.sm_ready.proofs.ChainLaws.{err_not_ok}
use Rattle.sm_calls.proofs.StoreLaws.{run_steps}
use Rattle.sm_space.proofs.DeflatingLaws.{can_calls, cuts_in, done, image_there, session_end, shape_end}
use Rattle.sm_space.proofs.InflatingLaws.{known_after}
use Rattle.sm_space.proofs.deflating.deflate.Goals as goal

pub run_cut-requires-clause-can : goal.run_cut-requires-clause-can
run_cut-requires-clause-can g c =
    let r = c.requires in
    can_calls (cuts_in g.S.Store c.args.store.now c.args.memory.now c.args.disk.now c.args.to r.session.orderly r.session.tidy r.session.usable r.there).1

pub run_cut-requires-clause-image : goal.run_cut-requires-clause-image
run_cut-requires-clause-image g c =
    let r = c.requires in
    image_there (cuts_in g.S.Store c.args.store.now c.args.memory.now c.args.disk.now c.args.to r.session.orderly r.session.tidy r.session.usable r.there).1

pub returns-in_err-run_cut-clause-step : goal.returns-in_err-run_cut-clause-step
returns-in_err-run_cut-clause-step g c = run_steps c.in_err-run_cut.ensures.cut

pub returns-in_err-run_cut-clause-done : goal.returns-in_err-run_cut-clause-done
returns-in_err-run_cut-clause-done g c =
    let r = c.requires in
    let h = (cuts_in g.S.Store c.args.store.now c.args.memory.now c.args.disk.now c.args.to r.session.orderly r.session.tidy r.session.usable r.there).1 in
    λ told ready. done h told ready _ refl c.in_err-run_cut.ensures.cut (λ fine. absurd (err_not_ok _ tt c.from_residual.ensures.0 fine))

pub set_extents-requires : goal.set_extents-requires
set_extents-requires g c =
    let r = c.requires in
    let h = (cuts_in g.S.Store c.args.store.now c.args.memory.now c.args.disk.now c.args.to r.session.orderly r.session.tidy r.session.usable r.there).1 in
    record { there = subst IsSome (sym h.cuts.found) refl }

pub returns-clause-step : goal.returns-clause-step
returns-clause-step g c = run_steps c.in_ok-run_cut.ensures.run

pub returns-clause-session_still : goal.returns-clause-session_still
returns-clause-session_still g c =
    let r = c.requires in
    let h = (cuts_in g.S.Store c.args.store.now c.args.memory.now c.args.disk.now c.args.to r.session.orderly r.session.tidy r.session.usable r.there).1 in
    let o = c.set_extents.ensures.others in
    let is = known_after c.args.memory.now c.set_extents.new.memory c.args.disk.now c.args.to c.args.to refl c.set_extents.ensures.rows o.0 c.set_extents.ensures.logs o.1 o.2 in
    session_end h c.in_ok-run_cut.ensures.run tt c.set_extents.new.memory r.session c.set_extents.ensures.rows c.set_extents.ensures.spare o.1 is

pub returns-clause-shape : goal.returns-clause-shape
returns-clause-shape g c =
    let r = c.requires in
    let h = (cuts_in g.S.Store c.args.store.now c.args.memory.now c.args.disk.now c.args.to r.session.orderly r.session.tidy r.session.usable r.there).1 in
    let o = c.set_extents.ensures.others in
    let is = known_after c.args.memory.now c.set_extents.new.memory c.args.disk.now c.args.to c.args.to refl c.set_extents.ensures.rows o.0 c.set_extents.ensures.logs o.1 o.2 in
    shape_end h c.in_ok-run_cut.ensures.run tt c.set_extents.new.memory is

pub returns-clause-done : goal.returns-clause-done
returns-clause-done g c =
    let r = c.requires in
    let h = (cuts_in g.S.Store c.args.store.now c.args.memory.now c.args.disk.now c.args.to r.session.orderly r.session.tidy r.session.usable r.there).1 in
    let o = c.set_extents.ensures.others in
    let is = known_after c.args.memory.now c.set_extents.new.memory c.args.disk.now c.args.to c.args.to refl c.set_extents.ensures.rows o.0 c.set_extents.ensures.logs o.1 o.2 in
    λ told ready. done h told ready _ c.set_extents.ensures.logs c.in_ok-run_cut.ensures.run (λ fine. (tt, is))
