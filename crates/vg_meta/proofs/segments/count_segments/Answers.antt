use Rattle.std.proofs.Common.{◌≡◌, ◌++◌, ℕ, None, Option, arith, ap, sym, ◌∙◌}
use Rattle.vg_meta.specs.Segments.{beginnings}
use Rattle.vg_meta.proofs.SegmentLaws.{beginnings-append, last_at, last_behind, length-segments}
use Rattle.vg_meta.proofs.segments.count_segments.Goals as goal

pub returns : goal.returns
returns c =
    let es = c.args.extents.now in
    let ms = c.args.more.now in
    let last : c.copied.result ≡ last_behind None es = c.copied.ensures ∙ c.last.ensures.value ∙ sym (last_at es) in
    let behind : beginnings c.copied.result ms ≡ beginnings (last_behind None es) ms = ap (λ (o : Option ℕ). beginnings o ms) last in
    omega (arith, length-segments (es ++ ms), beginnings-append None es ms, behind, c.count_beginnings-front.ensures, c.count_beginnings.ensures, c.saturating_add.ensures)
