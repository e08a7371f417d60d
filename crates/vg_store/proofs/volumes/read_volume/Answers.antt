use Rattle.std.proofs.Common.{◌≡◌, ◌+◌, ◌*◌, ◌%◌, length, ◌∙◌, refl, arith}
use Rattle.sm_disk.proofs.HeldLaws.{SameHeld-none, SameHeld-then}
use Rattle.sm_disk.proofs.FrontLaws.{gave_from_front}
use Rattle.vg_volumes.specs.Volumes.{volume}
use Rattle.vg_store.specs.Groups.{area_of}
use Rattle.vg_layout.specs.Fields.{layout_number}
use Rattle.vg_store.proofs.RunLaws.{IsPart, part_whole}
use Rattle.vg_store.proofs.PartLaws.{run_read}
use Rattle.vg_store.proofs.volumes.read_volume.Goals as goal

pub loop-done-init : goal.loop-done-init
loop-done-init g c = record {
  size_is = refl;
  calm = refl;
  most = omega arith;
  same = λ told. SameHeld-none (g.D.Disk.held c.args.disk.now);
  gave = λ told j low. absurd (omega arith);
}

pub read-requires : goal.read-requires
read-requires g c =
    let run : IsPart (layout_number c.args.layout) (g.D.Disk.size c.args.disk.now) c.args.extent c.args.extents.now (c.args.at + c.loop-done.done) c.run_at-run.result.place c.run_at-run.result.sectors =
    record { on = c.requires.on; run = c.run_at-run.ensures.run } in
    part_whole _ _ run c.split_at_mut-part.ensures.front_len c.loop-done.invariant.size_is

pub loop-done-preserved : goal.loop-done-preserved
loop-done-preserved g c =
    let held = c.loop-done.invariant in
    let front = c.split_at_mut-rest.ensures in
    let run : IsPart (layout_number c.args.layout) (g.D.Disk.size c.args.disk.now) c.args.extent c.args.extents.now (c.args.at + c.loop-done.done) c.run_at-run.result.place c.run_at-run.result.sectors =
    record { on = c.requires.on; run = c.run_at-run.ensures.run } in
    let long : length c.read.new.to ≡ 512 * c.run_at-run.result.sectors = omega (arith, c.read.auto.to, c.split_at_mut-part.ensures.front_len) in
    record {
      size_is = c.read.ensures.size ∙ held.size_is;
      calm = c.in_ok-read.ensures.cause.1 ∙ held.calm;
      most = omega (arith, c.run_at-run.ensures.most, c.loop-done-test.true);
      same = λ told. SameHeld-then (held.same told) (c.read.ensures.same told);
      gave = λ told. run_read c.args.at c.loop-done.done (g.D.Disk.held c.args.disk.now) (g.D.Disk.held c.loop-done.disk) c.loop-done.to c.split_at_mut-rest.result.0.now c.read.new.to c.split_at_mut-part.result.1.now run
          (omega (arith, front.back_len)) front.front long (held.same told) (c.in_ok-read.ensures.gave told) (held.gave told);
    }

pub returns-in_err-read-clause-same : goal.returns-in_err-read-clause-same
returns-in_err-read-clause-same g c = λ told. SameHeld-then (c.loop-done.invariant.same told) (c.read.ensures.same told)

pub returns-clause-gave : goal.returns-clause-gave
returns-clause-gave g c = λ told.
    let whole : length c.args.to.now % 512 ≡ 0 = c.requires.whole.whole in
    let long : length c.loop-done.to ≡ 512 * c.loop-done.done = omega (arith, whole, c.loop-done.auto.to, c.loop-done.invariant.most, c.loop-done-test.false) in
    gave_from_front c.args.at (volume c.args.extent c.args.extents.now (area_of (layout_number c.args.layout) (g.D.Disk.held c.args.disk.now))) c.loop-done.to c.loop-done.done long
    (c.loop-done.invariant.gave told)
