use Rattle.std.proofs.Common.{refl}
use Rattle.sm_disk.specs.Held.{reads}
use Rattle.vg_layout.specs.Fields.{plate}
use Rattle.vg_store.proofs.OpeningLaws.{too_small, label_answer, label_shown, label_taken}
use Rattle.vg_store.proofs.openings.label_on.Goals as goal

pub returns-then-sectors-lt2-clause-err : goal.returns-then-sectors-lt2-clause-err
returns-then-sectors-lt2-clause-err g c = (λ told. too_small _ _ (rw (← c.sectors-sectors.ensures.size) c.if-sectors-lt2.true), refl)

pub returns-in-Ok-read-clause-ok : goal.returns-in-Ok-read-clause-ok
returns-in-Ok-read-clause-ok g c = λ told.
    rw (← c.sectors-sectors.ensures.size)
    (label_shown c.sectors-sectors.result c.version.result c.in-Ok.sector (reads (g.D.Disk.held c.args.disk.now)) (plate c.in-Ok-read.label) c.version.ensures (c.in-Ok.ensures.gave told) c.in-Ok-read.ensures.ok)

pub returns-in-Ok-read-clause-sizes : goal.returns-in-Ok-read-clause-sizes
returns-in-Ok-read-clause-sizes g c =
    rw (← c.sectors-sectors.ensures.size) (label_taken c.sectors-sectors.result c.version.result c.in-Ok.sector (plate c.in-Ok-read.label) c.version.ensures c.in-Ok-read.ensures.ok)

pub returns-in-Err-clause-err : goal.returns-in-Err-clause-err
returns-in-Err-clause-err g c =
    rw (← c.sectors-sectors.ensures.size)
    (label_answer g.D.Disk.told _ _ c.sectors-sectors.result c.in-Ok.sector (reads (g.D.Disk.held c.args.disk.now)) c.in-Err.fault c.in-Ok.ensures.gave c.in-Ok.ensures.cause.1 c.in-Err.ensures.err)
