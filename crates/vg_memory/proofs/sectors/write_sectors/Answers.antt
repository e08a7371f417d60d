use Rattle.std.proofs.Common.{◌≡◌, false, true, rules, is_err, sym, ◌+◌, ◌∙◌, arith, refl}
use Rattle.sm_disk.specs.Memory.{held_by}
use Rattle.vg_volumes.proofs.SpotLaws.{spot_whole}
use Rattle.vg_memory.proofs.SectorWrites.{IsSpot, IsPiece, HasWritten-none, HasWritten-more, HasTorn-more, piece_from, still_quiet, short_is}
use Rattle.vg_memory.proofs.sectors.write_sectors.Goals as goal

pub loop-done-init : goal.loop-done-init
loop-done-init c = record {
  size_is = refl;
  quiet = c.requires.quiet;
  calm = refl;
  most = omega arith;
  long = λ more. absurd (omega arith);
  wrote = HasWritten-none c.args.extent c.args.extents.now c.args.at c.args.from.now (held_by c.args.area.now.slots);
}

pub write-requires : goal.write-requires
write-requires c =
    let whole = c.requires.whole in
    spot_whole (c.args.at + c.loop-done.done) _ _ _ c.requires.inside (omega (arith, whole.within, c.loop-done-test.true)) c.place_of-place.ensures.place
    c.split_at-in-loop-done.ensures.front_len c.loop-done.invariant.size_is

pub returns-in_err-write-clause-torn : goal.returns-in_err-write-clause-torn
returns-in_err-write-clause-torn c =
    let spot : IsSpot c.args.area.now.sectors c.args.extent c.args.extents.now (c.args.at + c.loop-done.done) c.place_of-place.result =
    record { on = c.requires.inside; in_span = omega (arith, c.requires.whole.within, c.loop-done-test.true); at = c.place_of-place.ensures.place } in
    let piece : IsPiece c.args.from.now c.split_at-in-loop-done.result.0.now c.loop-done.done = piece_from c.split_at.ensures.back c.split_at-in-loop-done.ensures.front (omega (arith, c.loop-done-test.true)) in
    (HasTorn-more spot piece c.loop-done.invariant.wrote c.write.ensures.torn).torn

pub returns-in_err-write-clause-elsewhere : goal.returns-in_err-write-clause-elsewhere
returns-in_err-write-clause-elsewhere c =
    let spot : IsSpot c.args.area.now.sectors c.args.extent c.args.extents.now (c.args.at + c.loop-done.done) c.place_of-place.result =
    record { on = c.requires.inside; in_span = omega (arith, c.requires.whole.within, c.loop-done-test.true); at = c.place_of-place.ensures.place } in
    let piece : IsPiece c.args.from.now c.split_at-in-loop-done.result.0.now c.loop-done.done = piece_from c.split_at.ensures.back c.split_at-in-loop-done.ensures.front (omega (arith, c.loop-done-test.true)) in
    (HasTorn-more spot piece c.loop-done.invariant.wrote c.write.ensures.torn).elsewhere

pub returns-in_err-write-clause-quiet : goal.returns-in_err-write-clause-quiet
returns-in_err-write-clause-quiet c = still_quiet c.loop-done.invariant.quiet c.write.ensures.passed

pub loop-done-preserved : goal.loop-done-preserved
loop-done-preserved c =
    let spot : IsSpot c.args.area.now.sectors c.args.extent c.args.extents.now (c.args.at + c.loop-done.done) c.place_of-place.result =
    record { on = c.requires.inside; in_span = omega (arith, c.requires.whole.within, c.loop-done-test.true); at = c.place_of-place.ensures.place } in
    let piece : IsPiece c.args.from.now c.split_at-in-loop-done.result.0.now c.loop-done.done = piece_from c.split_at.ensures.back c.split_at-in-loop-done.ensures.front (omega (arith, c.loop-done-test.true)) in
    record {
      size_is = c.write.ensures.size ∙ c.loop-done.invariant.size_is;
      quiet = still_quiet c.loop-done.invariant.quiet c.write.ensures.passed;
      calm = c.in_ok-write.ensures.cause.1 ∙ c.loop-done.invariant.calm;
      most = omega (arith, c.loop-done-test.true);
      long = λ more. short_is c.loop-done.area.orders false c.write.new.self.short c.loop-done.invariant.quiet (search rules);
      wrote = HasWritten-more spot piece c.loop-done.invariant.wrote c.in_ok-write.ensures.wrote;
    }

pub returns-in_err-write-clause-short : goal.returns-in_err-write-clause-short
returns-in_err-write-clause-short c =
    let err : is_err c.from_residual.result ≡ true = search rules in
    short_is c.loop-done.area.orders true c.write.new.self.short c.loop-done.invariant.quiet (search rules) ∙ sym err

pub returns-clause-short : goal.returns-clause-short
returns-clause-short c = c.loop-done.invariant.long (omega (arith, c.requires.whole.some, c.requires.whole.whole, c.loop-done-test.false))
