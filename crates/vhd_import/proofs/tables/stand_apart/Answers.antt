use Rattle.std.proofs.Common.{◌≡◌, ◌+◌, ◌<◌, ◌≤◌, drop, get_or, ap, ◌∙◌, arith}
use Rattle.vhd_import.specs.Apart.{stand_apart}
use Rattle.vhd_import.specs.declared.tables.Entry.{Entry}
use Rattle.vhd_import.proofs.ApartLaws.{ended, passed, stopped}
use Rattle.vhd_import.proofs.tables.stand_apart.Goals as goal

none : Entry
none = record { place = 0; block = 0 }

pub returns-then-place-from : goal.returns-then-place-from
unfolding none
returns-then-place-from c =
    let low : (get_or c.args.entries.now c.loop-entry.entry-index none).place < c.loop-entry.from = omega (arith, c.if-place-from.true, c.from-place.ensures) in
    stopped c.loop-entry.from (1 + c.args.block) c.args.end c.args.entries.now c.loop-entry.entry-index none (omega (arith, c.loop-entry-test.true)) c.loop-entry.invariant.rest low

pub loop-entry-preserved : goal.loop-entry-preserved
unfolding none
loop-entry-preserved c =
    let low : c.loop-entry.from ≤ (get_or c.args.entries.now c.loop-entry.entry-index none).place = omega (arith, c.if-place-from.false, c.from-place.ensures) in
    let next : c.from-place.result + 1 + c.from.result ≡ (get_or c.args.entries.now c.loop-entry.entry-index none).place + (1 + c.args.block) = omega (arith, c.from-place.ensures, c.from.ensures) in
    record {
      rest = ap (λ n. stand_apart n (1 + c.args.block) (drop (c.loop-entry.entry-index + 1) c.args.entries.now)) next
          ∙ passed c.loop-entry.from (1 + c.args.block) c.args.end c.args.entries.now c.loop-entry.entry-index none (omega (arith, c.loop-entry-test.true)) c.loop-entry.invariant.rest low;
    }

pub returns : goal.returns
returns c = ended c.loop-entry.from (1 + c.args.block) c.args.end c.args.entries.now c.loop-entry.entry-index (omega (arith, c.loop-entry-test.false)) c.loop-entry.invariant.rest
