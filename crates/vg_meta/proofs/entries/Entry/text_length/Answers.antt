use Rattle.std.proofs.Common.{◌≡◌, ◌-◌, ◌^◌, ◌++◌, length, min, ap, ◌∙◌, arith}
use Rattle.vg_meta.specs.Text.{volume_text}
use Rattle.vg_meta.specs.Tables.{Row}
use Rattle.vg_meta.proofs.SegmentTextLaws.{length-segmented}
use Rattle.vg_meta.proofs.WriteLaws.{length-volume_text}
use Rattle.vg_meta.proofs.entries.Entry.text_length.Goals as goal

pub returns : goal.returns
returns c =
    let i = c.self.inside in
    let r : Row = record { name = i.name; hidden = i.hidden; fresh = i.fresh; extents = i.extents.now ++ i.more.now } in
    let now : c.saturating_add.result ≡ min (length (volume_text r)) (2 ^ 64 - 1) =
    omega (
      arith,
      length-volume_text r,
      length-segmented r.extents,
      c.spell-size.ensures.length,
      c.count_segments-segments.ensures,
      c.saturating_mul.ensures,
      c.saturating_add.ensures,
    ) in
    now ∙ ap (λ (q : Row). min (length (volume_text q)) (2 ^ 64 - 1)) c.self.view_is
