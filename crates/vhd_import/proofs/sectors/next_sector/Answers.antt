use Rattle.std.proofs.Common.{◌<◌, Ok, length, take, arith, subst}
use Rattle.std.proofs.lemmas.List.{length-take}
use Rattle.vhd_import.specs.Reading.{HasReadSector}
use Rattle.vhd_import.specs.declared.reading.Part.{Part}
use Rattle.vhd_import.proofs.FrontLaws.{long-says}
use Rattle.vhd_import.proofs.sectors.next_sector.Goals as goal

pub returns-then-count-eq-MOST_SECTORS-clause-says : goal.returns-then-count-eq-MOST_SECTORS-clause-says
returns-then-count-eq-MOST_SECTORS-clause-says g c = λ t had front puts h long.
    let r = subst (λ (p : Part). HasReadSector (Ok p) (g.S.Source.content c.args.source.now) c.read_sector.new.to (g.S.Source.content c.read_sector.new.source)) c.in-Ok-Whole.field-0-is c.in-Ok-Whole.ensures.read in
    long-says t had _ _ front puts c.read_sector.new.to h (omega (arith, long, c.if-count-eq-MOST_SECTORS.true)) (omega (arith, c.read_sector.array_long)) r

pub returns-then-count-eq-MOST_SECTORS-2-clause-says : goal.returns-then-count-eq-MOST_SECTORS-2-clause-says
returns-then-count-eq-MOST_SECTORS-2-clause-says g c = λ t had front puts h long.
    let r = subst (λ (p : Part). HasReadSector (Ok p) (g.S.Source.content c.args.source.now) c.read_sector.new.to (g.S.Source.content c.read_sector.new.source)) c.in-Ok-End.field-0-is c.in-Ok-End.ensures.read in
    let some : 0 < length (take c.in-Ok-End.part c.read_sector.new.to) = omega (arith, length-take c.in-Ok-End.part c.read_sector.new.to, c.read_sector.array_long, c.if-part-gt0.true) in
    long-says t had _ _ front puts (take c.in-Ok-End.part c.read_sector.new.to) h (omega (arith, long, c.if-count-eq-MOST_SECTORS-2.true)) some r.1
