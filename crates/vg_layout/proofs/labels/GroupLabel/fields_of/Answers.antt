use Rattle.std.proofs.Common.{◌≡◌, ◌*◌, leb, refl}
use Rattle.sm_base.specs.Numbers.{IsGeometry}
use Rattle.vg_layout.specs.Sectors.{number_at, is_geometry}
use Rattle.vg_layout.proofs.SectorLaws.{and_wrong, geometry_false}
use Rattle.vg_layout.proofs.labels.GroupLabel.fields_of.Goals as goal

pub returns-in_err-of-clause-none : goal.returns-in_err-of-clause-none
returns-in_err-of-clause-none c =
    let s = c.args.bytes.now in
    let extent : number_at 28 s * 512 ≡ c.from-extent.result * 512 = rw (c.from-extent.ensures, c.number_at.ensures) refl in
    let block : number_at 32 s * 512 ≡ c.from-block.result * 512 = rw (c.from-block.ensures, c.number_at-2.ensures) refl in
    let none : IsGeometry (number_at 28 s) (number_at 32 s) c.from-entries.result → ⊥ = c.in_err-of.ensures.none (number_at 28 s) (number_at 32 s) extent block in
    rw c.from_residual-in_err-of.ensures (and_wrong (leb (number_at 44 s) 1) (is_geometry (number_at 28 s) (number_at 32 s) (number_at 36 s))
    (geometry_false (number_at 28 s) (number_at 32 s) (number_at 36 s) (rw (c.from-entries.ensures, c.number_at-3.ensures) at none)))
