use Rattle.std.proofs.Common.{sym, ◌∙◌, subst}
use Rattle.sm_base.specs.declared.names.Name.{Name}
use Rattle.sm_disk.specs.Held.{reads}
use Rattle.vg_volumes.specs.Stored.{stored, held_in, SameBeside, WorksOn}
use Rattle.vg_volumes.proofs.StoredLaws.{works_then}
use Rattle.vhd_filling.specs.Filled.{HasBitmaps}
use Rattle.vhd_filling.proofs.StoreLaws.{beside_then}
use Rattle.vhd_filling.proofs.fillings.Filling.turn_to.Goals as goal

pub returns-in-Some-clause-works : goal.returns-in-Some-clause-works
returns-in-Some-clause-works g c =
    works_then c.leave.ensures.works (subst (λ (n : Name). WorksOn g.S.Store n c.leave.new.store c.resume.new.store) c.in_ok-leave.ensures.goes_on.volume c.resume.ensures.works)

pub returns-in-None-clause-fills : goal.returns-in-None-clause-fills
returns-in-None-clause-fills g c =
    let was = c.in_ok-leave.ensures.fills in
    let on = c.begin.ensures.goes_on in
    record {
      sound = c.begin.ensures.sound;
      sizes = was.sizes ∙ sym on.geometry;
      marked = λ told. subst (λ (n : Name). HasBitmaps c.begin.new.self (reads (held_in (stored g.S.Store c.leave.new.store) n))) (sym on.volume) (c.begin.ensures.bitmaps _ (was.marked told));
    }

pub returns-in-Some-clause-beside : goal.returns-in-Some-clause-beside
returns-in-Some-clause-beside g c = λ told.
    beside_then c.args.self.now.volume c.leave.ensures.works.stays (c.leave.ensures.beside told)
    (subst (λ (n : Name). SameBeside n (stored g.S.Store c.leave.new.store) (stored g.S.Store c.resume.new.store)) c.in_ok-leave.ensures.goes_on.volume (c.resume.ensures.beside told))
