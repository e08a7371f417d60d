use Rattle.std.proofs.Common.{◌*◌, ◌/◌, ◌<◌, ◌≤◌, ◌⊎◌, inl, inr, sym, ◌∙◌}
use Rattle.vhd_fields.specs.DiskGeometry.{geometry, heads_for}
use Rattle.vhd_fields.proofs.Cylinders.{sixty_three}
use Rattle.vhd_fields.proofs.geometries.geometry_of.Goals as goal
use Rattle.vhd_fields.proofs.geometries.geometry_of.Goals.{else-tracks-heads-via-then-tracks-heads+else-heads-le16, else-tracks-heads-via-else-tracks-heads}

pub returns : goal.returns
unfolding geometry
returns c =
    let sectors = c.min-sectors.result in
    let not_17 : (heads_for (sectors / 17) * 1024 ≤ sectors / 17) ⊎ (16 < heads_for (sectors / 17)) =
    elim c.else-tracks-heads.branch [
      | else-tracks-heads-via-then-tracks-heads+else-heads-le16 w ↦ inr (rw (← c.max-heads.ensures) w.if-heads-le16.false)
      | else-tracks-heads-via-else-tracks-heads w ↦ inl (rw (← c.max-heads.ensures) w.if-tracks-heads.false)
    ] in
    rw (← c.min-sectors.ensures) (c.chs_of-2.ensures ∙ sym (sixty_three sectors c.if-sectors-ge-LARGE.false not_17 c.if-tracks.false))
