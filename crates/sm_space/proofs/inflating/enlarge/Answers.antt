use Rattle.std.proofs.Common.{ℕ, ◌+◌, List, length, ◌≡◌, refl, sym, ap, ◌∙◌, subst, subst₂}
use Rattle.sm_base.specs.declared.names.Name.{Name}
use Rattle.sm_base.specs.declared.names.Name.TheVariants.{Vhd, Inflate}
use Rattle.vg_meta.specs.Changes.{HasRoom, applied}
use Rattle.vg_meta.specs.Roomy.{table_alone}
use Rattle.vg_meta.specs.declared.changes.Change.{Change}
use Rattle.vg_volumes.specs.declared.stores.Store.{Ghosts}
use Rattle.vhd_chain.specs.Trees.{tree_row}
use Rattle.vhd_chain.specs.declared.rows.TreeRow.{TreeRow}
use Rattle.sm_journal.specs.Entries.{putting}
use Rattle.sm_ready.proofs.ChainLaws.{err_not_ok}
use Rattle.sm_calls.specs.Calls.{CanRun, DoesRun}
use Rattle.sm_calls.proofs.StoreLaws.{run_steps}
use Rattle.sm_space.specs.Inflating.{CanEndIn, extents_in, growth_calls}
use Rattle.sm_space.proofs.GrowthLaws.{can_calls, done, enlarged_end, image_there, session_end, shape_end, still}
use Rattle.sm_space.proofs.InflatingLaws.{grows_in, known_after, least_is, sum_is}
use Rattle.sm_space.proofs.inflating.enlarge.Goals as goal

-- the run, with the entry and the growth as they are
run_is : {S : Type 0} {g : Ghosts S} {a z : S} {ok : Type 0} {k had : ℕ} {x growth : Change} (entry : ℕ → Name) (n : Name) (rs : List TreeRow) (to : ℕ) → k ≡ had → x ≡ growth
    → DoesRun g (growth_calls (g.site a) (table_alone (g.table a)) (entry k) x n (tree_row rs n) to) a z ok → DoesRun g (growth_calls (g.site a) (table_alone (g.table a)) (entry had) growth n (tree_row rs n) to) a z ok
run_is {g = g} {a} {z} {ok} entry n rs to is same run = subst₂ (λ j y. DoesRun g (growth_calls (g.site a) (table_alone (g.table a)) (entry j) y n (tree_row rs n) to) a z ok) is same run

pub run_growth-requires-clause-can : goal.run_growth-requires-clause-can
run_growth-requires-clause-can g c =
    let r = c.requires in
    let a = c.args.store.now in
    let m = c.args.memory.now in
    let u = c.args.disk.now in
    let h = grows_in g.S.Store a m u c.args.to c.args.growth r.session.orderly r.session.tidy r.session.usable r.there r.growth in
    let sum = sum_is g.S.Store a m u c.args.to c.args.growth r.session.orderly r.session.tidy r.session.usable r.there r.growth in
    subst₂ (λ k x. CanRun g.S.Store (growth_calls (g.S.Store.site a) (table_alone (g.S.Store.table a)) (Inflate u k) x (Vhd u) (tree_row m.tree.rows (Vhd u)) c.args.to) a)
    (sym (c.extents_of.ensures ∙ ap extents_in r.there.there)) (sym r.growth.is) (can_calls h c.args.to sum r.row (subst (HasRoom (g.S.Store.table a)) r.growth.is r.places))

pub run_growth-requires-clause-image : goal.run_growth-requires-clause-image
run_growth-requires-clause-image g c =
    let r = c.requires in
    let a = c.args.store.now in
    let m = c.args.memory.now in
    let u = c.args.disk.now in
    let h = grows_in g.S.Store a m u c.args.to c.args.growth r.session.orderly r.session.tidy r.session.usable r.there r.growth in
    let sum = sum_is g.S.Store a m u c.args.to c.args.growth r.session.orderly r.session.tidy r.session.usable r.there r.growth in
    subst₂ (λ k x. CanEndIn (g.S.Store.site a) (applied (applied (table_alone (g.S.Store.table a)) (putting (Inflate u k))) x) m.tree.rows (Vhd u) c.args.to)
    (sym (c.extents_of.ensures ∙ ap extents_in r.there.there)) (sym r.growth.is) (image_there h c.args.to sum)

pub returns-in_err-run_growth-clause-step : goal.returns-in_err-run_growth-clause-step
returns-in_err-run_growth-clause-step g c = run_steps c.in_err-run_growth.ensures.cut

pub returns-in_err-run_growth-clause-done : goal.returns-in_err-run_growth-clause-done
returns-in_err-run_growth-clause-done g c =
    let r = c.requires in
    let a = c.args.store.now in
    let m = c.args.memory.now in
    let u = c.args.disk.now in
    let h = grows_in g.S.Store a m u c.args.to c.args.growth r.session.orderly r.session.tidy r.session.usable r.there r.growth in
    let sum = sum_is g.S.Store a m u c.args.to c.args.growth r.session.orderly r.session.tidy r.session.usable r.there r.growth in
    let run = run_is (Inflate u) (Vhd u) m.tree.rows c.args.to (c.extents_of.ensures ∙ ap extents_in r.there.there) r.growth.is c.in_err-run_growth.ensures.cut in
    λ told ready. done h c.args.to sum told ready _ refl run (λ fine. absurd (err_not_ok _ tt c.from_residual.ensures.0 fine))

pub returns-in_err-run_growth-clause-still : goal.returns-in_err-run_growth-clause-still
returns-in_err-run_growth-clause-still g c =
    let r = c.requires in
    let a = c.args.store.now in
    let m = c.args.memory.now in
    let u = c.args.disk.now in
    let h = grows_in g.S.Store a m u c.args.to c.args.growth r.session.orderly r.session.tidy r.session.usable r.there r.growth in
    let sum = sum_is g.S.Store a m u c.args.to c.args.growth r.session.orderly r.session.tidy r.session.usable r.there r.growth in
    let run = run_is (Inflate u) (Vhd u) m.tree.rows c.args.to (c.extents_of.ensures ∙ ap extents_in r.there.there) r.growth.is c.in_err-run_growth.ensures.cut in
    λ told ready again. still h c.args.to sum told ready run

pub returns-clause-step : goal.returns-clause-step
returns-clause-step g c = run_steps c.in_ok-run_growth.ensures.run

pub returns-clause-session_still : goal.returns-clause-session_still
returns-clause-session_still g c =
    let r = c.requires in
    let a = c.args.store.now in
    let m = c.args.memory.now in
    let u = c.args.disk.now in
    let h = grows_in g.S.Store a m u c.args.to c.args.growth r.session.orderly r.session.tidy r.session.usable r.there r.growth in
    let sum = sum_is g.S.Store a m u c.args.to c.args.growth r.session.orderly r.session.tidy r.session.usable r.there r.growth in
    let run = run_is (Inflate u) (Vhd u) m.tree.rows c.args.to (c.extents_of.ensures ∙ ap extents_in r.there.there) r.growth.is c.in_ok-run_growth.ensures.run in
    let o = c.set_extents.ensures.others in
    let is = known_after m c.set_extents.new.memory u c.args.to (r.there.row.extents + length r.growth.extents) sum c.set_extents.ensures.rows o.0 c.set_extents.ensures.logs o.1 o.2 in
    session_end h c.args.to sum run tt c.set_extents.new.memory r.session c.set_extents.ensures.rows c.set_extents.ensures.spare o.1 is

pub returns-clause-shape : goal.returns-clause-shape
returns-clause-shape g c =
    let r = c.requires in
    let a = c.args.store.now in
    let m = c.args.memory.now in
    let u = c.args.disk.now in
    let h = grows_in g.S.Store a m u c.args.to c.args.growth r.session.orderly r.session.tidy r.session.usable r.there r.growth in
    let sum = sum_is g.S.Store a m u c.args.to c.args.growth r.session.orderly r.session.tidy r.session.usable r.there r.growth in
    let run = run_is (Inflate u) (Vhd u) m.tree.rows c.args.to (c.extents_of.ensures ∙ ap extents_in r.there.there) r.growth.is c.in_ok-run_growth.ensures.run in
    let o = c.set_extents.ensures.others in
    let is = known_after m c.set_extents.new.memory u c.args.to (r.there.row.extents + length r.growth.extents) sum c.set_extents.ensures.rows o.0 c.set_extents.ensures.logs o.1 o.2 in
    shape_end h c.args.to sum run tt c.set_extents.new.memory is

pub returns-clause-least : goal.returns-clause-least
returns-clause-least g c =
    let r = c.requires in
    let a = c.args.store.now in
    let m = c.args.memory.now in
    let u = c.args.disk.now in
    let h = grows_in g.S.Store a m u c.args.to c.args.growth r.session.orderly r.session.tidy r.session.usable r.there r.growth in
    let sum = sum_is g.S.Store a m u c.args.to c.args.growth r.session.orderly r.session.tidy r.session.usable r.there r.growth in
    let run = run_is (Inflate u) (Vhd u) m.tree.rows c.args.to (c.extents_of.ensures ∙ ap extents_in r.there.there) r.growth.is c.in_ok-run_growth.ensures.run in
    enlarged_end h c.args.to sum run tt c.set_extents.new.memory (least_is g.S.Store a m u c.args.to c.args.growth r.session.orderly r.session.tidy r.session.usable r.there r.growth)

pub returns-clause-done : goal.returns-clause-done
returns-clause-done g c =
    let r = c.requires in
    let a = c.args.store.now in
    let m = c.args.memory.now in
    let u = c.args.disk.now in
    let h = grows_in g.S.Store a m u c.args.to c.args.growth r.session.orderly r.session.tidy r.session.usable r.there r.growth in
    let sum = sum_is g.S.Store a m u c.args.to c.args.growth r.session.orderly r.session.tidy r.session.usable r.there r.growth in
    let run = run_is (Inflate u) (Vhd u) m.tree.rows c.args.to (c.extents_of.ensures ∙ ap extents_in r.there.there) r.growth.is c.in_ok-run_growth.ensures.run in
    let o = c.set_extents.ensures.others in
    let is = known_after m c.set_extents.new.memory u c.args.to (r.there.row.extents + length r.growth.extents) sum c.set_extents.ensures.rows o.0 c.set_extents.ensures.logs o.1 o.2 in
    λ told ready. done h c.args.to sum told ready _ c.set_extents.ensures.logs run (λ fine. (tt, is))

pub returns-clause-still : goal.returns-clause-still
returns-clause-still g c =
    let r = c.requires in
    let a = c.args.store.now in
    let m = c.args.memory.now in
    let u = c.args.disk.now in
    let h = grows_in g.S.Store a m u c.args.to c.args.growth r.session.orderly r.session.tidy r.session.usable r.there r.growth in
    let sum = sum_is g.S.Store a m u c.args.to c.args.growth r.session.orderly r.session.tidy r.session.usable r.there r.growth in
    let run = run_is (Inflate u) (Vhd u) m.tree.rows c.args.to (c.extents_of.ensures ∙ ap extents_in r.there.there) r.growth.is c.in_ok-run_growth.ensures.run in
    λ told ready again. still h c.args.to sum told ready run
