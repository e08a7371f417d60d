use Rattle.std.proofs.Common.{◌≡◌, ◌+◌, ◌∙◌, length, sym, ap, subst, arith}
use Rattle.sm_disk.specs.Held.{reads}
use Rattle.sm_disk.proofs.HeldLaws.{reads-same}
use Rattle.vg_volumes.specs.Stored.{held_in, stored}
use Rattle.vg_volumes.proofs.CallLaws.{same_in}
use Rattle.vg_volumes.proofs.StoredLaws.{reads_then}
use Rattle.sm_log_reading.proofs.BitLaws.{AreReadTo, length-with_sector, read_all, read_more}
use Rattle.sm_log_reading.proofs.reading.read_bits.Goals as goal

pub returns-in_default-sector_of-clause-only : goal.returns-in_default-sector_of-clause-only
returns-in_default-sector_of-clause-only g c = reads_then c.loop-index.invariant.only c.sector_of.ensures.only

pub loop-index-preserved : goal.loop-index-preserved
loop-index-preserved g c =
    let i = c.loop-index.invariant in
    let index = c.loop-index.index in
    let sector = c.in-Ok-sector_of.sector in
    let held = held_in (stored g.S.Store c.args.store.now) c.args.volume.now in
    let read = c.from_sector.ensures in
    let at : 1 + c.from.result ≡ 1 + index = omega (arith, c.from.ensures) in
    record {
      calm = c.in-Ok-sector_of.ensures.cause.1 ∙ i.calm;
      only = reads_then i.only c.sector_of.ensures.only;
      long = ap length read ∙ length-with_sector index sector c.loop-index.bits ∙ i.long;
      so_far = λ told. subst (λ bits. AreReadTo c.args.pieces (index + 1) (reads held) bits) (sym read)
          (read_more c.args.pieces index (reads held) sector c.loop-index.bits i.long (c.in-Ok-sector_of.ensures.gave told ∙ reads-same (same_in c.args.volume.now i.only told) (1 + c.from.result) ∙ ap (reads held) at) (i.so_far told));
    }

pub returns-clause-bits : goal.returns-clause-bits
returns-clause-bits g c = λ told.
    let i = c.loop-index.invariant in
    read_all c.args.pieces c.loop-index.index (reads (held_in (stored g.S.Store c.args.store.now) c.args.volume.now)) c.loop-index.bits i.long
    (omega (arith, c.bit_sectors-index-end.ensures, c.loop-index-test.false)) (i.so_far told)
