use Rattle.std.proofs.Common.{sym, ◌∙◌}
use Rattle.vg_meta.specs.Changes.{tagged}
use Rattle.vg_meta.proofs.ChangeLaws.{tagged_name}
use Rattle.vg_meta.proofs.EditLaws.{Edited, edited}
use Rattle.vg_meta.proofs.edits.mark.Goals as goal

done : (c : goal.After-volumes-1) → Edited c.args.volumes.now.items c.args.name.now (tagged c.args.tag c.args.on) c.in-Some.at c.index_mut-volume.result.now c.mark.new.self
done c = edited c.deref.result.now c.args.volumes.now.items c.args.name.now (tagged c.args.tag c.args.on) c.in-Some.at c.index_mut-volume.result.now c.mark.new.self
    (tagged_name c.args.tag c.args.on) c.deref.ensures.value c.in-Some.ensures.found c.index_mut-volume.ensures.value c.mark.ensures.row

pub returns-clause-rows : goal.returns-clause-rows
returns-clause-rows c = (done c).rows

pub returns-clause-places : goal.returns-clause-places
returns-clause-places c = (done c).now ∙ c.mark.ensures.spare ∙ sym (done c).was

pub returns-clause-others : goal.returns-clause-others
returns-clause-others c = (done c).others
