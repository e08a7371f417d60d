use Rattle.std.proofs.Common.{◌*◌, ◌+◌, ◌≤◌, length, refl, arith}
use Rattle.sm_disk.proofs.SectorLaws.{range-sector}
use Rattle.sm_disk.proofs.FrontLaws.{WroteFront-more}
use Rattle.sm_disk.proofs.places.Places.add_all.Goals as goal

pub loop-i-preserved : goal.loop-i-preserved
loop-i-preserved c =
    let within : 512 * c.loop-i.i + 512 ≤ length c.args.from.now = omega arith in
    WroteFront-more within refl (range-sector c.args.from.now _ _ c.loop-i.i refl refl) c.loop-i.invariant (c.in_ok-add.ensures.added)
