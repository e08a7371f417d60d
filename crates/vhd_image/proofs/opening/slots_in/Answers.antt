use Rattle.std.proofs.Common.{◌≡◌, ◌-◌, ◌/◌, ◌+◌, ℕ, ap, arith}
use Rattle.sm_base.specs.Numbers.{first}
use Rattle.vhd_layout.specs.Layouts.{slot_count}
use Rattle.vhd_image.proofs.opening.slots_in.Goals as goal

pub returns : goal.returns
unfolding slot_count
returns c =
    let geometry = c.args.geometry.now in
    let same : (c.args.sectors - 1 - c.first.result) / (1 + geometry.block) ≡ (c.args.sectors - 1 - first geometry.entries) / (1 + geometry.block) = ap (λ (k : ℕ). (c.args.sectors - 1 - k) / (1 + geometry.block)) c.first.ensures in
    omega (arith, c.min.ensures, same)
