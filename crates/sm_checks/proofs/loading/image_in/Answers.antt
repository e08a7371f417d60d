use Rattle.std.proofs.Common.{◌*◌, ◌<◌, arith, subst}
use Rattle.std.specs.Prelude.{IfErr, IfOk}
use Rattle.sm_base.specs.declared.sizes.Geometry.{Geometry}
use Rattle.vg_volumes.specs.Stored.{held_in, stored}
use Rattle.sm_checks.specs.Loaded.{IsRawRead}
use Rattle.sm_checks.proofs.ReadLaws.{raw_fails, raw_image, raw_name}
use Rattle.sm_checks.proofs.loading.image_in.Goals as goal

pub returns-in-Mgt-clause-name : goal.returns-in-Mgt-clause-name
returns-in-Mgt-clause-name g c = raw_name c.geometry.result _ c.args.name.now c.raw_in.result c.raw_in.ensures.image

pub returns-in-Mgt-clause-image : goal.returns-in-Mgt-clause-image
returns-in-Mgt-clause-image g c =
    raw_image g.S.Store.told _ _ (held_in (stored g.S.Store c.args.store.now) c.args.name.now) c.args.name.now c.raw_in.result c.requires.image (λ v is. grind (arith, is, c.in-Mgt.is))
    (subst (λ (z : Geometry). IfOk c.raw_in.result (IsRawRead z (c.args.extents * z.extent) c.args.name.now)) c.geometry.ensures c.raw_in.ensures.image)

pub returns-in-Mgt-clause-cause : goal.returns-in-Mgt-clause-cause
returns-in-Mgt-clause-cause g c =
    raw_fails g.S.Store c.args.store.now _ c.args.name.now c.raw_in.result c.requires.image (λ v is. grind (arith, is, c.in-Mgt.is)) c.raw_in.ensures.err
    (subst (λ (z : Geometry). IfErr c.raw_in.result (λ e. z.entries * z.block < c.args.extents * z.extent)) c.geometry.ensures c.raw_in.ensures.long)
