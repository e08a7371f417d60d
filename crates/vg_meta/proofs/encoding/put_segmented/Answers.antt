use Rattle.std.proofs.Common.{◌≡◌, ◌++◌, ℕ, length, subst, arith}
use Rattle.std.specs.List.{flat_map}
use Rattle.byteorder.specs.Endian.{big_bytes}
use Rattle.vg_meta.specs.Segments.{segments}
use Rattle.vg_meta.specs.Text.{numbers_of}
use Rattle.vg_meta.specs.Writing.{WritesText}
use Rattle.vg_meta.proofs.SegmentLaws.{few-segments}
use Rattle.vg_meta.proofs.SegmentTextLaws.{length-segmented}
use Rattle.vg_meta.proofs.WriteLaws.{puts_then}
use Rattle.vg_meta.proofs.encoding.put_segmented.Goals as goal

pub overflow_cast-count_segments : goal.overflow_cast-count_segments
overflow_cast-count_segments c = omega (arith, c.count_segments.ensures, few-segments (c.args.extents.now ++ c.args.more.now), c.requires.few)

pub put_number-segments_at-requires : goal.put_number-segments_at-requires
put_number-segments_at-requires c = omega (arith, length-segmented (c.args.extents.now ++ c.args.more.now), c.requires.room)

pub put_segments-requires-clause-room : goal.put_segments-requires-clause-room
put_segments-requires-clause-room c =
    omega (arith, c.put_number-segments_at.ensures.behind, length-segmented (c.args.extents.now ++ c.args.more.now), c.requires.room)

pub returns : goal.returns
returns c =
    let es = c.args.extents.now ++ c.args.more.now in
    let count : c.count_segments.result ≡ length (segments es) = omega (arith, c.count_segments.ensures, few-segments es, c.requires.few) in
    let first = subst (λ (n : ℕ). WritesText c.args.at (big_bytes 4 n) c.args.to.now c.put_number-segments_at.new.to c.put_number-segments_at.result) count c.put_number-segments_at.ensures in
    puts_then c.args.at _ _ (big_bytes 4 (length (segments es))) (flat_map (big_bytes 4) (numbers_of (segments es))) c.args.to.now _ _
    (omega (arith, length-segmented es, c.requires.room)) first c.put_segments.ensures
