use Rattle.std.proofs.Common.{refl, ◌∙◌, arith}
use Rattle.vg_meta.specs.Tables.{Row}
use Rattle.vg_meta.specs.Roomy.{rows_alone}
use Rattle.vg_meta.proofs.EditLaws.{Edited, edited, with_row-same}
use Rattle.vg_meta.proofs.edits.reserve_for.Goals as goal

done : (c : goal.After-volumes-1) → Edited c.args.volumes.now.items c.args.name.now (λ (r : Row). r) c.in-Some.at c.index_mut-volume.result.now c.reserve.new.self
done c = edited c.deref.result.now c.args.volumes.now.items c.args.name.now (λ (r : Row). r) c.in-Some.at c.index_mut-volume.result.now c.reserve.new.self
    (λ r. refl) c.deref.ensures.value c.in-Some.ensures.found c.index_mut-volume.ensures.value c.reserve.ensures.row

pub returns-clause-rows : goal.returns-clause-rows
returns-clause-rows c = (done c).rows ∙ with_row-same (rows_alone c.args.volumes.now.items) c.args.name.now

pub returns-clause-no_fewer : goal.returns-clause-no_fewer
returns-clause-no_fewer c = omega (arith, (done c).was, (done c).now, c.reserve.ensures.no_fewer)

pub returns-clause-others : goal.returns-clause-others
returns-clause-others c = (done c).others

pub returns-clause-ok : goal.returns-clause-ok
returns-clause-ok c = rw (done c).now c.reserve.ensures.ok
