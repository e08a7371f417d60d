use Rattle.std.proofs.Common.{◌≡◌, ◌+◌, ◌*◌, ◌/◌, length, ◌∙◌, refl, sym, ap, arith}
use Rattle.sm_disk.proofs.FrontLaws.{WroteFront-none}
use Rattle.sm_disk.proofs.HeldLaws.{torn_from_wrote}
use Rattle.vg_volumes.specs.Stored.{stored, held_in}
use Rattle.vg_volumes.proofs.StoredLaws.{works_none, works_then, size_stays}
use Rattle.vhd_write.specs.Payloads.{piece_of}
use Rattle.vhd_write.proofs.PayloadLaws.{length-piece, torn_more, wrote_all, wrote_more}
use Rattle.vhd_write.proofs.calls.put_piece.Goals as goal

pub loop-done-init : goal.loop-done-init
loop-done-init g c = record {
  most = omega arith;
  calm = refl;
  works = works_none c.args.volume.now c.args.store.now;
  wrote = λ told. WroteFront-none c.args.at (piece_of c.args.skip c.args.count c.args.from.now) (held_in (stored g.S.Store c.args.store.now) c.args.volume.now);
}

pub put-requires : goal.put-requires
put-requires g c =
    let r = c.run-run.ensures in
    let size = size_stays c.args.volume.now c.loop-done.invariant.works.stays in
    record {
      some = omega (arith, r.some, r.long);
      whole = omega (arith, r.long);
      within = omega (arith, r.within, r.long, size, c.requires.whole.within, c.loop-done-test.true);
    }

pub returns-in_err-put-clause-works : goal.returns-in_err-put-clause-works
returns-in_err-put-clause-works g c = works_then c.loop-done.invariant.works c.put.ensures.works

pub returns-in_err-put-clause-torn : goal.returns-in_err-put-clause-torn
returns-in_err-put-clause-torn g c = λ told.
    torn_more c.args.at c.args.skip c.args.count c.loop-done.done (c.args.at + c.loop-done.done) c.args.from.now c.run-run.result.now c.requires.inside c.run-run.ensures refl c.loop-done.invariant.most
    (c.loop-done.invariant.wrote told) (c.put.ensures.torn told)

pub loop-done-preserved : goal.loop-done-preserved
loop-done-preserved g c =
    let i = c.loop-done.invariant in
    let r = c.run-run.ensures in
    record {
      most = omega (arith, r.within, r.long, i.most, c.loop-done-test.true);
      calm = c.in_ok-put.ensures.cause.1 ∙ i.calm;
      works = works_then i.works c.put.ensures.works;
      wrote = λ told.
          wrote_more c.args.at c.args.skip c.args.count c.loop-done.done (c.args.at + c.loop-done.done) c.args.from.now c.run-run.result.now c.requires.inside r refl (length c.run-run.result.now / 512) (omega (arith, r.long))
          (i.wrote told) (c.in_ok-put.ensures.wrote told);
    }

pub returns-clause-wrote : goal.returns-clause-wrote
returns-clause-wrote g c = λ told.
    let i = c.loop-done.invariant in
    let all : c.loop-done.done ≡ c.args.count = omega (arith, i.most, c.loop-done-test.false) in
    wrote_all {n = c.loop-done.done} (length-piece c.args.skip c.args.count c.args.from.now c.requires.inside ∙ ap (λ n. 512 * n) (sym all)) (i.wrote told)

pub returns-clause-torn : goal.returns-clause-torn
returns-clause-torn g c = λ told. torn_from_wrote (returns-clause-wrote g c told)

pub returns-clause-works : goal.returns-clause-works
returns-clause-works g c = c.loop-done.invariant.works
