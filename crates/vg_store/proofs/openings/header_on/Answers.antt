use Rattle.std.proofs.Common.{sym, ap, ◌∙◌}
use Rattle.sm_disk.specs.Held.{reads}
use Rattle.vg_layout.specs.Fields.{places_in, pointer}
use Rattle.vg_layout.specs.Opening.{pointer_by}
use Rattle.vg_store.proofs.ImageLaws.{pointer_right_by}
use Rattle.vg_store.proofs.OpeningLaws.{header_answer}
use Rattle.vg_store.proofs.openings.header_on.Goals as goal

pub returns-in-Ok-read-clause-ok : goal.returns-in-Ok-read-clause-ok
returns-in-Ok-read-clause-ok g c = λ told. ap (pointer_by (places_in c.args.frame.now)) (sym (c.in-Ok.ensures.gave told)) ∙ c.in-Ok-read.ensures.ok

pub returns-in-Err-clause-err : goal.returns-in-Err-clause-err
returns-in-Err-clause-err g c =
    header_answer g.D.Disk.told _ _ (places_in c.args.frame.now) c.in-Ok.sector (reads (g.D.Disk.held c.args.disk.now) c.args.frame.now.header) c.in-Err.fault c.in-Ok.ensures.gave c.in-Ok.ensures.cause.1 c.in-Err.ensures.err

pub returns-in-Ok-read-clause-short : goal.returns-in-Ok-read-clause-short
returns-in-Ok-read-clause-short g c = (pointer_right_by (places_in c.args.frame.now) c.in-Ok.sector (pointer c.in-Ok-read.header) c.in-Ok-read.ensures.ok).size
