use Rattle.std.proofs.Common.{◌+◌, ◌/◌, ◌∙◌, length, arith}
use Rattle.sm_disk.specs.Held.{reads}
use Rattle.sm_disk.proofs.ReachesLaws.{Reaches-then}
use Rattle.vg_volumes.specs.Stored.{stored, held_in}
use Rattle.vg_volumes.proofs.StoredLaws.{works_then}
use Rattle.vhd_write.proofs.MarkLaws.{marked-stays, marked-then}
use Rattle.vhd_write.proofs.marks.put_marked.Goals as goal

pub returns-in_err-done-clause-works : goal.returns-in_err-done-clause-works
returns-in_err-done-clause-works g c = works_then c.loop-done.invariant.works c.put_run.ensures.works

pub returns-in_err-done-clause-reaches : goal.returns-in_err-done-clause-reaches
returns-in_err-done-clause-reaches g c = λ told. Reaches-then (c.loop-done.invariant.reaches told) (c.put_run.ensures.reaches told)

pub loop-done-preserved : goal.loop-done-preserved
loop-done-preserved g c =
    let i = c.loop-done.invariant in
    let e = c.in_ok-done.ensures in
    record {
      most = e.inside.1;
      calm = e.cause.1 ∙ i.calm;
      works = works_then i.works c.put_run.ensures.works;
      reaches = λ told. Reaches-then (i.reaches told) (c.put_run.ensures.reaches told);
      done = λ told. marked-then c.args.at c.args.marks.now c.args.bytes.now 0 c.loop-done.done (c.loop-done.done + c.in_ok-done.field-0) (reads (held_in (stored g.S.Store c.put_run.new.store) c.args.volume.now))
          (marked-stays (length c.args.bytes.now / 512) c.args.at c.args.marks.now c.args.bytes.now 0 c.loop-done.done (omega (arith, i.most)) (c.put_run.ensures.reaches told) (i.done told)) (e.done told);
    }
