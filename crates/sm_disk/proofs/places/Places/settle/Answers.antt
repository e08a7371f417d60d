use Rattle.std.proofs.Common.{◌≡◌, rules}
use Rattle.sm_disk.specs.Memory.{all_settled}
use Rattle.sm_disk.proofs.SlotLaws.{AllSectors-settled, settled_by_retain}
use Rattle.sm_disk.proofs.places.Places.settle.Goals as goal

pub invariant_of-self : goal.invariant_of-self
invariant_of-self c =
    let all : c.retain.new.self.entries ≡ all_settled c.self.inside.slots.entries =
    settled_by_retain _ (λ f p k b w f' t. (search rules, search rules)) _ _ _ c.retain.ensures.filtered in
    rw all (AllSectors-settled _ c.self.invariant)

pub returns : goal.returns
returns c =
    let all : c.retain.new.self.entries ≡ all_settled c.self.inside.slots.entries =
    settled_by_retain _ (λ f p k b w f' t. (search rules, search rules)) _ _ _ c.retain.ensures.filtered in
    rw (← c.self.view_is) all
