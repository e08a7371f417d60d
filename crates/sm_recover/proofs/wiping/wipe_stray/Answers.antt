use Rattle.std.proofs.Common.{inl, subst}
use Rattle.vg_meta.specs.Roomy.{table_alone}
use Rattle.vg_volumes.proofs.StoredLaws.{writes_none, writes_as}
use Rattle.sm_ready.specs.Repairs.{IsStrayAt}
use Rattle.sm_ready.proofs.WipeLaws.{zeroed_one, agrees_after, freed_right, freed_none, freed_one}
use Rattle.sm_recover.proofs.wiping.wipe_stray.Goals as goal

pub returns-then-not-is_stray-clause-writes : goal.returns-then-not-is_stray-clause-writes
returns-then-not-is_stray-clause-writes g c = writes_none _ _ _ (λ h p v may. inl may)

pub returns-in_err-wipe-clause-writes : goal.returns-in_err-wipe-clause-writes
returns-in_err-wipe-clause-writes g c =
    let stray = subst (λ k. IsStrayAt (table_alone k) c.args.mgt.now c.args.place) c.table.ensures.table (c.is_stray.ensures.stray c.if-not-is_stray.false) in
    writes_as (zeroed_one _ c.args.mgt.now c.args.place stray) c.wipe.ensures.writes

pub returns-clause-writes : goal.returns-clause-writes
returns-clause-writes g c =
    let stray = subst (λ k. IsStrayAt (table_alone k) c.args.mgt.now c.args.place) c.table.ensures.table (c.is_stray.ensures.stray c.if-not-is_stray.false) in
    writes_as (zeroed_one _ c.args.mgt.now c.args.place stray) c.wipe.ensures.writes

pub returns-clause-agrees : goal.returns-clause-agrees
returns-clause-agrees g c = λ told.
    agrees_after c.args.mgt.now c.wipe.new.self c.args.place _ _ c.requires.within c.in_ok-wipe.ensures.places (c.in_ok-wipe.ensures.wrote.did told)

pub returns-clause-right : goal.returns-clause-right
returns-clause-right g c = freed_right _ c.args.mgt.now c.wipe.new.self c.args.place c.in_ok-wipe.ensures.places

pub returns-then-not-is_stray-clause-freed : goal.returns-then-not-is_stray-clause-freed
returns-then-not-is_stray-clause-freed g c = freed_none _ c.args.mgt.now

pub returns-clause-freed : goal.returns-clause-freed
returns-clause-freed g c =
    freed_one _ c.args.mgt.now c.wipe.new.self c.args.place c.in_ok-wipe.ensures.places
    (subst (λ k. IsStrayAt (table_alone k) c.args.mgt.now c.args.place) c.table.ensures.table (c.is_stray.ensures.stray c.if-not-is_stray.false))
