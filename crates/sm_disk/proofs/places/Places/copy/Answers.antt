use Rattle.std.proofs.Common.{◌≡◌, ◌*◌, ◌+◌, ◌≤◌, length, refl, ◌∙◌, ap, below_more, arith, rules}
use Rattle.sm_disk.proofs.SectorLaws.{sector-put_mid_same, sector-put_mid_below}
use Rattle.sm_disk.proofs.places.Places.copy.Goals as goal

pub loop-i-preserved : goal.loop-i-preserved
loop-i-preserved c =
    let i = c.loop-i.i in
    let to = c.loop-i.to in
    let within : 512 * i + 512 ≤ length to = omega arith in
    let copied = c.copy_from_slice.ensures.after in
    let whole : length c.newest-sector.result ≡ 512 = search rules in
    below_more _ _
    (λ j below. sector-put_mid_below to _ (512 * i) _ i j refl within below ∙ c.loop-i.invariant j below)
    (sector-put_mid_same to _ (512 * i) _ i refl within (ap length copied ∙ whole) ∙ copied ∙ c.newest-sector.ensures)
