use Rattle.std.proofs.Common.{◌≡◌, length, rules}
use Rattle.sm_disk.proofs.HeldLaws.{gave_one}
use Rattle.vg_volumes.specs.Stored.{stored, held_in}
use Rattle.vhd_write.proofs.calls.get.Goals as goal

pub returns-clause-gave : goal.returns-clause-gave
returns-clause-gave g c = λ told.
    let long : length c.read.new.to ≡ 512 = search rules in
    gave_one _ (held_in (stored g.S.Store c.args.store.now) c.args.volume.now) _ long (c.in_ok-read.ensures.gave told)
