use Rattle.std.proofs.Common.{◌≡◌, ◌∙◌, length, arith, refl}
use Rattle.std.specs.Int.{w32, w64, to_be_bytes}
use Rattle.sm_log.specs.Heads.{head_fields}
use Rattle.sm_log.proofs.HeadLaws.{written, written4, written8}
use Rattle.sm_log.proofs.heads.Head.write_fields.Goals as goal

pub returns : goal.returns
unfolding head_fields
returns c =
    let h = c.args.self.now in
    let l2 : length c.write_u64.new.buf ≡ 8 = omega arith in
    let l3 : length c.write_u64-2.new.buf ≡ 8 = omega arith in
    let l4 : length c.write_u32.new.buf ≡ 4 = omega arith in
    let tag : c.write_u64.new.buf ≡ to_be_bytes w64 h.tag = written8 _ _ h.tag c.write_u64.ensures l2 in
    let since : c.write_u64-2.new.buf ≡ to_be_bytes w64 h.since = written8 _ _ h.since c.write_u64-2.ensures l3 in
    let pieces : c.write_u32.new.buf ≡ to_be_bytes w32 h.pieces = written4 _ _ h.pieces c.write_u32.ensures l4 in
    record {
      fields = written c.args.to.now c.copy_from_slice.new.self c.write_u64.new.buf c.write_u64-2.new.buf c.write_u32.new.buf c.fill.new.self
          (omega arith) c.copy_from_slice.ensures.after l2 l3 l4 (c.fill.ensures.after (λ y h. h)) ∙ rw (tag, since, pieces) refl;
    }
