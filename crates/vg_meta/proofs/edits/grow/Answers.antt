use Rattle.std.proofs.Common.{refl, arith}
use Rattle.vg_meta.specs.Changes.{grown}
use Rattle.vg_meta.proofs.EditLaws.{Edited, edited}
use Rattle.vg_meta.proofs.edits.grow.Goals as goal

done : (c : goal.After-volumes-1) → Edited c.args.volumes.now.items c.args.name.now (grown c.args.extents.now) c.in-Some.at c.index_mut-volume.result.now c.grow.new.self
done c = edited c.deref.result.now c.args.volumes.now.items c.args.name.now (grown c.args.extents.now) c.in-Some.at c.index_mut-volume.result.now c.grow.new.self
    (λ r. refl) c.deref.ensures.value c.in-Some.ensures.found c.index_mut-volume.ensures.value c.grow.ensures.row

pub returns-clause-rows : goal.returns-clause-rows
returns-clause-rows c = (done c).rows

pub returns-clause-places : goal.returns-clause-places
returns-clause-places c = omega (arith, (done c).was, (done c).now, c.grow.ensures.spare)

pub returns-clause-others : goal.returns-clause-others
returns-clause-others c = (done c).others
