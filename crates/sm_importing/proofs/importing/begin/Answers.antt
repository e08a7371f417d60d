use Rattle.std.proofs.Common.{◌≡◌, ◌<◌, ℕ, true, [], ◌∷◌, sym, ap, ◌∙◌, subst, arith}
use Rattle.sm_base.specs.Names.{IsUuid}
use Rattle.sm_base.specs.declared.names.Name.TheVariants.{Vhd}
use Rattle.sm_base.specs.declared.sizes.Geometry.{Geometry}
use Rattle.sm_base.specs.Numbers.{thin}
use Rattle.vg_meta.specs.Changes.{applied, made, without}
use Rattle.vg_meta.specs.Roomy.{table_alone}
use Rattle.vg_meta.specs.Tables.{VolumeTable}
use Rattle.vg_meta.specs.declared.changes.Change.TheVariants.{Create}
use Rattle.vg_volumes.specs.Sites.{Site}
use Rattle.vg_volumes.specs.Stored.{CanCommit}
use Rattle.sm_ready.proofs.FramingLaws.{stays_now, then_steps}
use Rattle.sm_calls.specs.Calls.{Commit, DoesRun}
use Rattle.sm_calls.proofs.StoreLaws.{run_steps}
use Rattle.sm_importing.specs.Imports.{thin_in}
use Rattle.sm_importing.proofs.BackLaws.{without_put}
use Rattle.sm_importing.proofs.ImportLaws.{begin_allowed, begin_can, begin_importing, since_begun, stops_begun, stops_unbegun, thin_few, thin_some}
use Rattle.sm_importing.proofs.importing.begin.Goals as goal

needed : (s : Site) (h : Geometry) (k : ℕ) → k ≡ thin h.extent h.block h.entries 0 → h ≡ s.geometry → k ≡ thin_in s 0
needed s h k is same = is ∙ ap (λ (x : Geometry). thin x.extent x.block x.entries 0) same

some : (s : Site) (h : Geometry) (n k : ℕ) → n ≡ k → k ≡ thin h.extent h.block h.entries 0 → h ≡ s.geometry → 0 < n
some s h n k many is same = omega (arith, many, needed s h k is same, thin_some s 0)

pub overflow_cast-need : goal.overflow_cast-need
overflow_cast-need g c = let few = thin_few (g.S.Store.site c.args.store.now) 0 (omega arith) in omega (arith, needed (g.S.Store.site c.args.store.now) c.geometry.result c.thin-need.result c.thin-need.ensures c.geometry.ensures, few)

pub returns-in_err-found-clause-stops : goal.returns-in_err-found-clause-stops
returns-in_err-found-clause-stops g c = λ told ready.
    let e = c.plan_volume.ensures in
    stops_unbegun c.args.memory.now g.met.S.Store.leaves_now c.requires.session ready e.reads e.same.1 e.leaves

pub commit-requires : goal.commit-requires
commit-requires g c =
    let e = c.in_ok-found.ensures in
    subst (λ es. CanCommit g.S.Store (Create (Vhd c.args.disk.now) true es) c.plan_volume.new.store) (sym c.new.ensures)
    (begin_can c.args.memory.now c.args.disk.now c.in_ok-found.found.items c.requires.session c.requires.may (subst IsUuid c.as_bytes.ensures c.law_uuid.ensures) (some (g.S.Store.site c.args.store.now) c.geometry.result _ c.thin-need.result e.least.many c.thin-need.ensures c.geometry.ensures) e.free e.reads e.row)

pub returns-in_default-clause-step : goal.returns-in_default-clause-step
returns-in_default-clause-step g c = then_steps (stays_now g.met.S.Store.leaves_now c.requires.session.usable c.plan_volume.ensures.reads.stays) (run_steps c.in_default.ensures.cut)

pub returns-in_default-clause-stops : goal.returns-in_default-clause-stops
returns-in_default-clause-stops g c = λ told ready.
    let e = c.in_ok-found.ensures in
    let run = subst (λ es. DoesRun g.S.Store (Commit (Create (Vhd c.args.disk.now) true es) ∷ []) c.plan_volume.new.store c.commit.new.store ⊥) c.new.ensures c.in_default.ensures.cut in
    stops_begun c.args.memory.now c.args.disk.now c.in_ok-found.found.items g.met.S.Store.leaves_now c.requires.session c.requires.may (subst IsUuid c.as_bytes.ensures c.law_uuid.ensures) (some (g.S.Store.site c.args.store.now) c.geometry.result _ c.thin-need.result e.least.many c.thin-need.ensures c.geometry.ensures) e.free e.reads e.same.1 e.leaves ready run

pub returns-clause-step : goal.returns-clause-step
returns-clause-step g c = then_steps (stays_now g.met.S.Store.leaves_now c.requires.session.usable c.plan_volume.ensures.reads.stays) (run_steps c.in-Ok.ensures.run)

pub returns-clause-volumes : goal.returns-clause-volumes
returns-clause-volumes g c =
    let e = c.in_ok-found.ensures in
    let n = Vhd c.args.disk.now in
    let es = c.in_ok-found.found.items in
    let ran = subst (λ fs. DoesRun g.S.Store (Commit (Create n true fs) ∷ []) c.plan_volume.new.store c.commit.new.store (Unit {0})) c.new.ensures c.in-Ok.ensures.run in
    let allows = begin_allowed c.args.memory.now c.args.disk.now es c.requires.session c.requires.may (subst IsUuid c.as_bytes.ensures c.law_uuid.ensures) (some (g.S.Store.site c.args.store.now) c.geometry.result _ c.thin-need.result e.least.many c.thin-need.ensures c.geometry.ensures) e.free in
    ap (λ (t : VolumeTable). without n t.volumes) (ran.table tt ∙ ap (λ (t : VolumeTable). applied t (Create n true es)) e.table)
    ∙ without_put (made n true es) (table_alone (g.S.Store.table c.args.store.now)).volumes allows.new_name

pub returns-clause-importing : goal.returns-clause-importing
returns-clause-importing g c =
    let e = c.in_ok-found.ensures in
    let ran = subst (λ es. DoesRun g.S.Store (Commit (Create (Vhd c.args.disk.now) true es) ∷ []) c.plan_volume.new.store c.commit.new.store (Unit {0})) c.new.ensures c.in-Ok.ensures.run in
    begin_importing c.args.memory.now c.args.disk.now c.in_ok-found.found.items c.requires.session c.requires.may (subst IsUuid c.as_bytes.ensures c.law_uuid.ensures) (some (g.S.Store.site c.args.store.now) c.geometry.result _ c.thin-need.result e.least.many c.thin-need.ensures c.geometry.ensures) e.free e.reads ran e.place

pub returns-clause-since : goal.returns-clause-since
returns-clause-since g c = λ told ready.
    let e = c.in_ok-found.ensures in
    let ran = subst (λ es. DoesRun g.S.Store (Commit (Create (Vhd c.args.disk.now) true es) ∷ []) c.plan_volume.new.store c.commit.new.store (Unit {0})) c.new.ensures c.in-Ok.ensures.run in
    since_begun c.args.memory.now c.args.disk.now c.in_ok-found.found.items g.met.S.Store.leaves_now c.requires.session c.requires.may (subst IsUuid c.as_bytes.ensures c.law_uuid.ensures) (some (g.S.Store.site c.args.store.now) c.geometry.result _ c.thin-need.result e.least.many c.thin-need.ensures c.geometry.ensures) e.free e.reads e.same.1 e.leaves ready ran

pub returns-clause-stops : goal.returns-clause-stops
returns-clause-stops g c = λ told ready.
    let e = c.in_ok-found.ensures in
    let ran = subst (λ es. DoesRun g.S.Store (Commit (Create (Vhd c.args.disk.now) true es) ∷ []) c.plan_volume.new.store c.commit.new.store (Unit {0})) c.new.ensures c.in-Ok.ensures.run in
    stops_begun c.args.memory.now c.args.disk.now c.in_ok-found.found.items g.met.S.Store.leaves_now c.requires.session c.requires.may (subst IsUuid c.as_bytes.ensures c.law_uuid.ensures) (some (g.S.Store.site c.args.store.now) c.geometry.result _ c.thin-need.result e.least.many c.thin-need.ensures c.geometry.ensures) e.free e.reads e.same.1 e.leaves ready ran
