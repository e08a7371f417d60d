use Rattle.sm_disk.proofs.SlotLaws.{keeps_by_sync, settled_by_sync}
use Rattle.sm_disk.proofs.places.Places.sync.Goals as goal

pub returns-then-not-fails-clause-keeps : goal.returns-then-not-fails-clause-keeps
returns-then-not-fails-clause-keeps c = rw c.settle.ensures (keeps_by_sync c.args.self.now)

pub returns-then-not-fails-clause-settled : goal.returns-then-not-fails-clause-settled
returns-then-not-fails-clause-settled c = λ works. rw c.settle.ensures (settled_by_sync c.args.self.now)
