use Rattle.std.proofs.Common.{ℕ, List, length, take, drop, ◌++◌, ◌*◌, ap, ◌∙◌, arith}
use Rattle.vg_meta.specs.Roomy.{table_alone}
use Rattle.vg_meta.specs.Text.{text}
use Rattle.vg_layout.proofs.FrameLaws.{sectors_most}
use Rattle.vg_layout.specs.Places.{narrow_frame}
use Rattle.vg_upgrade.specs.Upgrades.{new_sectors}
use Rattle.vg_upgrade.proofs.UpgradeLaws.{new_padded}
use Rattle.vg_upgrade.proofs.upgrading.new_text.Goals as goal

pub returns-clause-bytes : goal.returns-clause-bytes
returns-clause-bytes c =
    let t = table_alone c.args.table.now in
    let few = sectors_most narrow_frame (length (text t)) c.requires.fits in
    ap (take (512 * new_sectors t)) (c.encode_by-length.ensures.text ∙ ap (λ (z : List ℕ). text t ++ drop (length (text t)) z) (c.fill.ensures.after (λ y h. h)))
    ∙ new_padded t (length c.args.buffer.now) (omega (arith, few, c.requires.room))
