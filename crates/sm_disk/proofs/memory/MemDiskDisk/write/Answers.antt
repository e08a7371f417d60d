use Rattle.std.proofs.Common.{◌≡◌, ◌||◌, is_err, rules}
use Rattle.sm_disk.specs.Failing.{fails}
use Rattle.sm_disk.proofs.HeldLaws.{IsWhole-wider}
use Rattle.sm_disk.proofs.FailingLaws.{on_ok_told}
use Rattle.sm_disk.proofs.memory.MemDiskDisk.write.Goals as goal

pub write-self-inside-requires : goal.write-self-inside-requires
write-self-inside-requires c = IsWhole-wider c.requires (rw (← c.self.view_is) c.self.invariant)

pub returns-clause-wrote : goal.returns-clause-wrote
returns-clause-wrote c =
    let orders = c.args.self.now.orders in
    let short = c.write-self-inside.result in
    let exact : is_err c.answer.result ≡ (fails orders 0 || short) = search rules in
    on_ok_told c.answer.result orders short exact (λ early found. search rules)
