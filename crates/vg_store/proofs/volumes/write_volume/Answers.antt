use Rattle.std.proofs.Common.{◌+◌, ◌∙◌, refl, arith}
use Rattle.vg_layout.specs.Fields.{layout_number}
use Rattle.vg_store.proofs.RunLaws.{IsPart, part_whole}
use Rattle.vg_store.proofs.PartLaws.{piece_from, HasWritten-none, HasWritten-more, HasTorn-more}
use Rattle.vg_store.proofs.volumes.write_volume.Goals as goal

pub loop-done-init : goal.loop-done-init
loop-done-init g c = record {
  size_is = refl;
  calm = refl;
  most = omega arith;
  wrote = λ told. HasWritten-none (layout_number c.args.layout) c.args.extent c.args.extents.now c.args.at c.args.from.now (g.D.Disk.held c.args.disk.now);
}

pub write-requires : goal.write-requires
write-requires g c =
    let run : IsPart (layout_number c.args.layout) (g.D.Disk.size c.args.disk.now) c.args.extent c.args.extents.now (c.args.at + c.loop-done.done) c.run_at-run.result.place c.run_at-run.result.sectors =
    record { on = c.requires.on; run = c.run_at-run.ensures.run } in
    part_whole _ _ run c.split_at-in-loop-done.ensures.front_len c.loop-done.invariant.size_is

pub returns-in_err-write-clause-torn : goal.returns-in_err-write-clause-torn
returns-in_err-write-clause-torn g c = λ told.
    let run : IsPart (layout_number c.args.layout) (g.D.Disk.size c.args.disk.now) c.args.extent c.args.extents.now (c.args.at + c.loop-done.done) c.run_at-run.result.place c.run_at-run.result.sectors =
    record { on = c.requires.on; run = c.run_at-run.ensures.run } in
    let piece = piece_from c.split_at.ensures.back c.split_at-in-loop-done.ensures.front c.run_at-run.ensures.most c.loop-done-test.true (omega arith) in
    (HasTorn-more run piece (c.loop-done.invariant.wrote told) (c.write.ensures.torn told)).torn

pub returns-in_err-write-clause-elsewhere : goal.returns-in_err-write-clause-elsewhere
returns-in_err-write-clause-elsewhere g c = λ told.
    let run : IsPart (layout_number c.args.layout) (g.D.Disk.size c.args.disk.now) c.args.extent c.args.extents.now (c.args.at + c.loop-done.done) c.run_at-run.result.place c.run_at-run.result.sectors =
    record { on = c.requires.on; run = c.run_at-run.ensures.run } in
    let piece = piece_from c.split_at.ensures.back c.split_at-in-loop-done.ensures.front c.run_at-run.ensures.most c.loop-done-test.true (omega arith) in
    (HasTorn-more run piece (c.loop-done.invariant.wrote told) (c.write.ensures.torn told)).elsewhere

pub loop-done-preserved : goal.loop-done-preserved
loop-done-preserved g c =
    let run : IsPart (layout_number c.args.layout) (g.D.Disk.size c.args.disk.now) c.args.extent c.args.extents.now (c.args.at + c.loop-done.done) c.run_at-run.result.place c.run_at-run.result.sectors =
    record { on = c.requires.on; run = c.run_at-run.ensures.run } in
    let piece = piece_from c.split_at.ensures.back c.split_at-in-loop-done.ensures.front c.run_at-run.ensures.most c.loop-done-test.true (omega arith) in
    record {
      size_is = c.write.ensures.size ∙ c.loop-done.invariant.size_is;
      calm = c.in_ok-write.ensures.cause.1 ∙ c.loop-done.invariant.calm;
      most = omega (arith, c.run_at-run.ensures.most, c.loop-done-test.true);
      wrote = λ told. HasWritten-more run piece (c.loop-done.invariant.wrote told) (c.in_ok-write.ensures.wrote told) (c.write.ensures.torn told);
    }
