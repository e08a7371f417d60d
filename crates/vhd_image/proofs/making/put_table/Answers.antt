use Rattle.std.proofs.Common.{◌+◌, refl, ◌∙◌, arith}
use Rattle.sm_disk.specs.Held.{reads}
use Rattle.vg_volumes.specs.Stored.{stored, held_in}
use Rattle.vg_volumes.proofs.StoredLaws.{works_none, works_then, size_stays}
use Rattle.vg_volumes.proofs.VolumeLaws.{KeepsAt-none, KeepsAt-then}
use Rattle.vhd_image.specs.Made.{IsInTable}
use Rattle.vhd_image.proofs.MakingLaws.{rows-first, rows-cover, entries-more, keeps_put}
use Rattle.vhd_image.proofs.making.put_table.Goals as goal

pub loop-index-init : goal.loop-index-init
loop-index-init g c = record {
  calm = refl;
  works = works_none c.args.volume.now c.args.store.now;
  table = λ told b below. absurd (omega (arith, below));
  others = λ told. KeepsAt-none _ _;
}

pub put_sector-requires : goal.put_sector-requires
put_sector-requires g c =
    let below = rows-first c.args.geometry.now.entries c.loop-index.index c.div_ceil-index-end.result c.div_ceil-index-end.ensures c.loop-index-test.true in
    omega (arith, below, size_stays c.args.volume.now c.loop-index.invariant.works.stays, c.requires.room)

pub returns-in_err-put_sector-clause-works : goal.returns-in_err-put_sector-clause-works
returns-in_err-put_sector-clause-works g c = works_then c.loop-index.invariant.works c.put_sector.ensures.works

pub returns-in_err-put_sector-clause-others : goal.returns-in_err-put_sector-clause-others
returns-in_err-put_sector-clause-others g c = λ told.
    let below = rows-first c.args.geometry.now.entries c.loop-index.index c.div_ceil-index-end.result c.div_ceil-index-end.ensures c.loop-index-test.true in
    KeepsAt-then (c.loop-index.invariant.others told)
    (keeps_put (IsInTable c.args.geometry.now) (3 + c.loop-index.index) c.write_sector.new.to (omega arith, below) (c.put_sector.ensures.may_put told))

pub loop-index-preserved : goal.loop-index-preserved
loop-index-preserved g c =
    let i = c.loop-index.invariant in
    let index = c.loop-index.index in
    let geometry = c.args.geometry.now in
    let below = rows-first geometry.entries index c.div_ceil-index-end.result c.div_ceil-index-end.ensures c.loop-index-test.true in
    record {
      calm = c.in_ok-put_sector.ensures.cause.1 ∙ i.calm;
      works = works_then i.works c.put_sector.ensures.works;
      table = λ told. entries-more index geometry c.args.map.now (reads (held_in (stored g.S.Store c.loop-index.store) c.args.volume.now)) (reads (held_in (stored g.S.Store c.put_sector.new.store) c.args.volume.now)) c.write_sector.new.to (i.table told) (c.put_sector.ensures.may_put told).others (c.in_ok-put_sector.ensures.put told)
          c.write_sector.ensures;
      others = λ told. KeepsAt-then (i.others told) (keeps_put (IsInTable geometry) (3 + index) c.write_sector.new.to (omega arith, below) (c.put_sector.ensures.may_put told));
    }

pub returns-clause-table : goal.returns-clause-table
returns-clause-table g c = λ told b below.
    c.loop-index.invariant.table told b (rows-cover c.args.geometry.now.entries c.loop-index.index c.div_ceil-index-end.result b c.div_ceil-index-end.ensures c.loop-index-test.false below)
