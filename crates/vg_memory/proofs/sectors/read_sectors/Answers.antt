use Rattle.std.proofs.Common.{◌≡◌, ◌+◌, ◌*◌, ◌%◌, ◌∙◌, length, arith, refl}
use Rattle.sm_disk.specs.Memory.{held_by}
use Rattle.sm_disk.proofs.FrontLaws.{gave_from_front}
use Rattle.sm_disk.proofs.HeldLaws.{SameHeld-none, SameHeld-then}
use Rattle.vg_volumes.specs.Volumes.{volume}
use Rattle.vg_volumes.proofs.SpotLaws.{spot_whole}
use Rattle.vg_memory.proofs.SectorWrites.{IsSpot, GaveFront-more, still_quiet}
use Rattle.vg_memory.proofs.sectors.read_sectors.Goals as goal

pub loop-done-init : goal.loop-done-init
loop-done-init c = record {
  size_is = refl;
  quiet = c.requires.quiet;
  faults_are = refl;
  most = omega arith;
  same = SameHeld-none (held_by c.args.area.now.slots);
  gave = λ j low. absurd (omega arith);
}

pub read-requires : goal.read-requires
read-requires c =
    let whole = c.requires.whole in
    spot_whole (c.args.at + c.loop-done.done) _ _ _ c.requires.inside (omega (arith, whole.within, c.loop-done-test.true)) c.place_of-place.ensures.place
    c.split_at_mut-sector.ensures.front_len c.loop-done.invariant.size_is

pub loop-done-preserved : goal.loop-done-preserved
loop-done-preserved c =
    let held = c.loop-done.invariant in
    let front = c.split_at_mut-rest.ensures in
    let spot : IsSpot c.args.area.now.sectors c.args.extent c.args.extents.now (c.args.at + c.loop-done.done) c.place_of-place.result =
    record { on = c.requires.inside; in_span = omega (arith, c.requires.whole.within, c.loop-done-test.true); at = c.place_of-place.ensures.place } in
    let long : length c.read.new.to ≡ 512 = omega (arith, c.read.auto.to, c.split_at_mut-sector.ensures.front_len) in
    record {
      size_is = c.read.ensures.size ∙ held.size_is;
      quiet = still_quiet held.quiet c.read.ensures.passed;
      faults_are = c.in-Ok.ensures.cause.1 ∙ held.faults_are;
      most = omega (arith, c.loop-done-test.true);
      same = SameHeld-then held.same c.read.ensures.same;
      gave = GaveFront-more c.args.at c.loop-done.done (held_by c.args.area.now.slots) (held_by c.loop-done.area.slots) c.loop-done.to c.split_at_mut-rest.result.0.now c.read.new.to c.split_at_mut-sector.result.1.now spot
          (omega (arith, front.back_len)) front.front long held.same c.in-Ok.ensures.gave held.gave;
    }

pub returns-clause-gave : goal.returns-clause-gave
returns-clause-gave c =
    let whole : length c.args.to.now % 512 ≡ 0 = c.requires.whole.whole in
    let long : length c.loop-done.to ≡ 512 * c.loop-done.done = omega (arith, whole, c.loop-done.auto.to, c.loop-done.invariant.most, c.loop-done-test.false) in
    gave_from_front c.args.at (volume c.args.extent c.args.extents.now (held_by c.args.area.now.slots)) c.loop-done.to c.loop-done.done long c.loop-done.invariant.gave
