use Rattle.std.proofs.Common.{◌<◌, Ok, length, take, arith, refl, subst}
use Rattle.std.proofs.lemmas.List.{length-take}
use Rattle.sm_base.specs.Numbers.{div_up}
use Rattle.vhd_import.specs.Reading.{HasReadSector}
use Rattle.vhd_import.specs.declared.reading.Part.{Part}
use Rattle.vhd_import.proofs.KeptLaws.{all-kept, ended-kept, left-kept, more-kept, none-kept, whole-left}
use Rattle.vhd_import.proofs.tables.read_table.Goals as goal

pub loop-index-init : goal.loop-index-init
loop-index-init g c = none-kept (g.S.Source.content c.args.source.now) c.args.blocks c.new-kept.result.items (g.S.Source.faults c.args.source.now) c.new-kept.ensures.items

pub returns-in-Ok-End-clause-read : goal.returns-in-Ok-End-clause-read
unfolding div_up
returns-in-Ok-End-clause-read g c =
    let r = subst (λ (p : Part). HasReadSector (Ok p) (g.S.Source.content c.loop-index.source) c.read_sector.new.to (g.S.Source.content c.read_sector.new.source)) c.in-Ok-End.field-0-is c.in-Ok-End.ensures.read in
    let short : length (take c.in-Ok-End.field-0-0 c.read_sector.new.to) < 512 = omega (arith, length-take c.in-Ok-End.field-0-0 c.read_sector.new.to, r.0) in
    ended-kept _ _ _ c.loop-index.index c.args.entries c.args.blocks _ (take c.in-Ok-End.field-0-0 c.read_sector.new.to) _ _ c.loop-index.invariant short r.1 r.2 (omega (arith, c.loop-index-test.true, c.loop-index.auto.index-end, c.div_ceil-sectors.ensures)) refl

pub returns-in-Err-clause-left : goal.returns-in-Err-clause-left
returns-in-Err-clause-left g c = left-kept _ _ _ c.loop-index.index c.args.blocks c.loop-index.kept.items _ _ c.loop-index.invariant c.in-Err.ensures.read

pub returns-in_default-clause-left : goal.returns-in_default-clause-left
returns-in_default-clause-left g c =
    whole-left _ _ _ c.loop-index.index c.args.blocks c.loop-index.kept.items c.read_sector.new.to _ _ c.loop-index.invariant c.read_sector.array_long (subst (λ (p : Part). HasReadSector (Ok p) (g.S.Source.content c.loop-index.source) c.read_sector.new.to (g.S.Source.content c.read_sector.new.source)) c.in-Ok-Whole.field-0-is c.in-Ok-Whole.ensures.read)

pub loop-index-preserved : goal.loop-index-preserved
loop-index-preserved g c =
    more-kept _ _ _ c.loop-index.index c.args.blocks c.min-count.result c.loop-index.kept.items c.add_entries.new.to.items c.read_sector.new.to _ _ _ c.loop-index.invariant c.read_sector.array_long (subst (λ (p : Part). HasReadSector (Ok p) (g.S.Source.content c.loop-index.source) c.read_sector.new.to (g.S.Source.content c.read_sector.new.source)) c.in-Ok-Whole.field-0-is c.in-Ok-Whole.ensures.read)
    (omega (arith, c.min-count.ensures, c.saturating_sub.ensures)) c.in-Ok.ensures.added c.in-Ok-Whole.ensures.cause.1

pub returns-clause-read : goal.returns-clause-read
unfolding div_up
returns-clause-read g c =
    all-kept _ _ c.loop-index.index c.args.entries c.args.blocks _ _ _ c.loop-index.invariant (omega (arith, c.loop-index-test.false, c.loop-index.auto.index-end, c.div_ceil-sectors.ensures))
    (omega (arith, c.loop-index-test.false, c.loop-index.auto.index-end))
