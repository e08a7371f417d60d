use Rattle.std.proofs.Common.{◌≡◌, Err, refl, ap, ◌∙◌}
use Rattle.sm_base.specs.declared.names.Name.TheVariants.{Vhd}
use Rattle.vg_meta.specs.Changes.{applied, grown, without}
use Rattle.vg_meta.specs.Tables.{VolumeTable}
use Rattle.vg_meta.specs.Roomy.{table_alone}
use Rattle.sm_ready.proofs.FramingLaws.{stays_now, then_steps}
use Rattle.sm_mgt.proofs.ClearLaws.{on_err}
use Rattle.sm_calls.proofs.StoreLaws.{run_steps}
use Rattle.sm_importing.specs.Imports.{IsImporting}
use Rattle.sm_importing.specs.declared.faults.RoomFault.TheVariants.{Device}
use Rattle.sm_importing.proofs.BackLaws.{without_with_row}
use Rattle.sm_importing.proofs.ImportLaws.{growth_can, growth_importing, growth_since, growth_stops, importing_reads, since_reads}
use Rattle.sm_importing.proofs.importing.add_extents.Goals as goal

pub returns-in_err-growth-clause-poor : goal.returns-in_err-growth-clause-poor
returns-in_err-growth-clause-poor g c =
    let e = c.plan_growth.ensures in
    let kept : (c.from_residual.result ≡ Err Device → ⊥) → IsImporting g.S.Store c.plan_growth.new.store c.args.memory.now c.args.disk.now
    × (table_alone (g.S.Store.table c.plan_growth.new.store) ≡ table_alone (g.S.Store.table c.args.store.now)) = λ calm. (importing_reads e.reads c.requires.importing, e.table) in
    on_err _ kept

pub returns-in_err-growth-clause-since : goal.returns-in_err-growth-clause-since
returns-in_err-growth-clause-since g c = λ calm a since. let e = c.plan_growth.ensures in since_reads e.reads e.same.1 e.leaves since

pub returns-in_err-growth-clause-stops : goal.returns-in_err-growth-clause-stops
returns-in_err-growth-clause-stops g c = λ a since. let e = c.plan_growth.ensures in (since_reads e.reads e.same.1 e.leaves since).so_far.left

pub commit-requires : goal.commit-requires
commit-requires g c = let e = c.in_ok-growth.ensures in growth_can c.requires.importing e.growth c.requires.some e.reads e.same.1 e.leaves e.room

pub returns-in_default-clause-step : goal.returns-in_default-clause-step
returns-in_default-clause-step g c = then_steps (stays_now g.met.S.Store.leaves_now c.requires.importing.usable c.plan_growth.ensures.reads.stays) (run_steps c.in_default.ensures.cut)

pub returns-in_default-clause-stops : goal.returns-in_default-clause-stops
returns-in_default-clause-stops g c = let e = c.in_ok-growth.ensures in growth_stops c.requires.importing e.growth c.requires.some e.reads e.same.1 e.leaves c.in_default.ensures.cut

pub returns-clause-step : goal.returns-clause-step
returns-clause-step g c = then_steps (stays_now g.met.S.Store.leaves_now c.requires.importing.usable c.plan_growth.ensures.reads.stays) (run_steps c.in-Ok.ensures.run)

pub returns-clause-importing : goal.returns-clause-importing
returns-clause-importing g c = let e = c.in_ok-growth.ensures in growth_importing c.requires.importing e.growth c.requires.some e.reads e.same.1 e.leaves c.in-Ok.ensures.run

pub returns-clause-since : goal.returns-clause-since
returns-clause-since g c = λ calm. let e = c.in_ok-growth.ensures in growth_since c.requires.importing e.growth c.requires.some e.reads e.same.1 e.leaves c.in-Ok.ensures.run

pub returns-clause-stops : goal.returns-clause-stops
returns-clause-stops g c = let e = c.in_ok-growth.ensures in growth_stops c.requires.importing e.growth c.requires.some e.reads e.same.1 e.leaves c.in-Ok.ensures.run

pub returns-clause-volumes : goal.returns-clause-volumes
returns-clause-volumes g c =
    let e = c.in_ok-growth.ensures in
    let n = Vhd c.args.disk.now in
    let t = table_alone (g.S.Store.table c.args.store.now) in
    ap (λ (x : VolumeTable). without n x.volumes) (c.in-Ok.ensures.run.table tt ∙ ap (λ (x : VolumeTable). applied x c.in_ok-growth.growth) e.table ∙ ap (applied t) e.growth.is)
    ∙ without_with_row n (grown e.growth.extents) (λ q. refl) t.volumes
