use Rattle.std.specs.Prelude.{vec_len}
use Rattle.vg_meta.specs.Roomy.{table_alone}
use Rattle.vg_layout.specs.Fields.{layout_number, plate, pointer}
use Rattle.vg_store.proofs.OpenedLaws.{IsOpened, current_from, opened_area, opened_before, opened_early, opened_keeps, opened_known, opened_now, opened_stands}
use Rattle.vg_store.proofs.groups.Group.open.Goals as goal

pub invariant_of-result : goal.invariant_of-result
invariant_of-result g c =
    let d = g.D.Disk in
    let f = c.in-Ok-find.field-0 in
    let found = c.in-Ok-find.ensures in
    let known : IsOpened (d.size c.find.new.disk) f.version (vec_len f.buffer) (plate f.label) (pointer f.header) (table_alone f.table) = opened_known c.find.ensures.size found.buffer found.known in
    record {
      few = known.few;
      area = known.area;
      known = known.known;
      room = found.buffer;
      spelled = known.spelled;
      fits = known.fits;
      current = λ usable. current_from f.version usable;
      summed = λ usable. known.summed (current_from f.version usable);
      rests = λ told usable. opened_now c.find.ensures.size (current_from f.version usable) (c.in-Ok.ensures.settled told) (c.find.ensures.same told) (found.found told) found.known;
      taken = λ told early. opened_early c.find.ensures.size early (c.in-Ok.ensures.settled told) (c.find.ensures.same told) (found.found told) found.known;
      stands = λ told. opened_stands c.find.ensures.size (c.in-Ok.ensures.settled told) (c.find.ensures.same told) (found.found told) found.known;
    }

pub returns-in-Ok-find-clause-keeps : goal.returns-in-Ok-find-clause-keeps
returns-in-Ok-find-clause-keeps g c = λ told. opened_keeps (c.sync.ensures.keeps told) (c.find.ensures.same told)

pub returns-in-Ok-find-clause-area : goal.returns-in-Ok-find-clause-area
returns-in-Ok-find-clause-area g c = λ told. opened_area (layout_number c.in-Ok-find.field-0.label.layout) (c.sync.ensures.keeps told) (c.find.ensures.same told)

pub returns-in-Ok-find-clause-stands : goal.returns-in-Ok-find-clause-stands
returns-in-Ok-find-clause-stands g c = λ told. rw (← c.sync.ensures.size) (opened_before (c.sync.ensures.keeps told) (c.in-Ok-find.ensures.found told)).stands

pub returns-in-Ok-find-clause-version : goal.returns-in-Ok-find-clause-version
returns-in-Ok-find-clause-version g c = λ told. (opened_before (c.sync.ensures.keeps told) (c.in-Ok-find.ensures.found told)).says

pub returns-in-Err-clause-keeps_back : goal.returns-in-Err-clause-keeps_back
returns-in-Err-clause-keeps_back g c = λ told. opened_keeps (c.sync.ensures.keeps told) (c.find.ensures.same told)
