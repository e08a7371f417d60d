use Rattle.std.proofs.Common.{subst, List}
use Rattle.vg_meta.specs.Roomy.{RoomyRow, IsPlace}
use Rattle.vg_meta.proofs.EditLaws.{without_at, places_without}
use Rattle.vg_meta.proofs.edits.take_out.Goals as goal

spot : (c : goal.After-remove) → IsPlace c.args.volumes.now.items c.args.name.now c.in-Some.at
spot c = subst (λ (l : List RoomyRow). IsPlace l c.args.name.now c.in-Some.at) c.deref.ensures.value c.in-Some.ensures.found

pub returns-clause-rows : goal.returns-clause-rows
returns-clause-rows c = rw c.remove.ensures.items (without_at c.args.volumes.now.items c.args.name.now c.in-Some.at (spot c))

pub returns-clause-others : goal.returns-clause-others
returns-clause-others c = λ n other. rw c.remove.ensures.items (places_without c.args.volumes.now.items c.args.name.now c.in-Some.at (spot c) n other)
