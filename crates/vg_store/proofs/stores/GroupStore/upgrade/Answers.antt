use Rattle.std.proofs.Common.{◌*◌, refl, sym, ap, arith}
use Rattle.vg_layout.specs.Sectors.{Pointer}
use Rattle.vg_meta.specs.Roomy.{table_alone}
use Rattle.vg_store.specs.Leaving.{fits_early, layout_early, place_early, slot_early}
use Rattle.vg_store.proofs.CommittedLaws.{not_early, some_text}
use Rattle.vg_store.proofs.UpgradedLaws.{area_taken, beside_taken, current_known, early_from, earlier, leaves_taken, rests_taken, stands_early, still_early}
use Rattle.vg_store.proofs.stores.GroupStore.upgrade.Goals as goal

pub take_over-requires-clause-room : goal.take_over-requires-clause-room
take_over-requires-clause-room g c =
    let s = c.args.self.now in
    let early = earlier s.known c.if-self-eq-CURRENT_VERSION.false in
    omega (arith, s.area, place_early (layout_early s.known early))

pub take_over-requires-clause-some : goal.take_over-requires-clause-some
take_over-requires-clause-some g c = some_text (table_alone c.args.self.now.table)

pub take_over-requires-clause-fits : goal.take_over-requires-clause-fits
take_over-requires-clause-fits g c =
    let s = c.args.self.now in
    let early = earlier s.known c.if-self-eq-CURRENT_VERSION.false in
    fits_early (table_alone s.table) (layout_early s.known early) s.room s.fits

pub take_over-requires-clause-buffer : goal.take_over-requires-clause-buffer
take_over-requires-clause-buffer g c =
    let s = c.args.self.now in
    let early = earlier s.known c.if-self-eq-CURRENT_VERSION.false in
    omega (arith, c.deref_mut.ensures.len, s.room, slot_early (layout_early s.known early))

pub invariant_of-self : goal.invariant_of-self
invariant_of-self g c =
    let s = c.args.self.now in
    let same = c.take_over.ensures.size in
    let early = earlier s.known c.if-self-eq-CURRENT_VERSION.false in
    record {
      few = s.few;
      area = omega (arith, s.area, same);
      known = s.known;
      room = s.room;
      spelled = s.spelled;
      fits = s.fits;
      current = s.current;
      summed = s.summed;
      rests = λ told usable. absurd (not_early (s.current usable) early);
      taken = λ told before. still_early same (early_from (s.label.extents * s.label.geometry.extent) (table_alone s.table) s.area s.few s.known early s.room s.fits (s.taken told early)) (c.take_over.ensures.going told);
      stands = λ told. stands_early same (early_from (s.label.extents * s.label.geometry.extent) (table_alone s.table) s.area s.few s.known early s.room s.fits (s.taken told early)) (c.take_over.ensures.going told);
    }

pub returns-in_err-header-clause-beside : goal.returns-in_err-header-clause-beside
returns-in_err-header-clause-beside g c = λ told.
    let s = c.args.self.now in
    let early = earlier s.known c.if-self-eq-CURRENT_VERSION.false in
    beside_taken (s.label.extents * s.label.geometry.extent) (layout_early s.known early) (c.take_over.ensures.writes told)

pub returns-in_err-header-clause-keeps : goal.returns-in_err-header-clause-keeps
returns-in_err-header-clause-keeps g c = λ told.
    let s = c.args.self.now in
    let early = earlier s.known c.if-self-eq-CURRENT_VERSION.false in
    area_taken (layout_early s.known early) (c.take_over.ensures.writes told)

pub returns-in_err-header-clause-leaves : goal.returns-in_err-header-clause-leaves
returns-in_err-header-clause-leaves g c = λ told.
    let s = c.args.self.now in
    let early = earlier s.known c.if-self-eq-CURRENT_VERSION.false in
    leaves_taken c.take_over.ensures.size (early_from (s.label.extents * s.label.geometry.extent) (table_alone s.table) s.area s.few s.known early s.room s.fits (s.taken told early)) (c.take_over.ensures.going told) (c.take_over.ensures.writes told)

pub invariant_of-self-2 : goal.invariant_of-self-2
invariant_of-self-2 g c =
    let s = c.args.self.now in
    let same = c.take_over.ensures.size in
    let early = earlier s.known c.if-self-eq-CURRENT_VERSION.false in
    record {
      few = s.few;
      area = omega (arith, s.area, same);
      known = current_known (layout_early s.known early);
      room = s.room;
      spelled = s.spelled;
      fits = s.fits;
      current = λ usable. refl;
      summed = λ usable. sym (ap (λ (k : Pointer). k.total) c.in_ok-header.ensures.header);
      rests = λ told usable. rests_taken same c.in_ok-header.ensures.header (early_from (s.label.extents * s.label.geometry.extent) (table_alone s.table) s.area s.few s.known early s.room s.fits (s.taken told early)) (c.take_over.ensures.going told) (c.in_ok-header.ensures.taken told);
      taken = λ told before. absurd (omega (arith, before));
      stands = λ told. stands_early same (early_from (s.label.extents * s.label.geometry.extent) (table_alone s.table) s.area s.few s.known early s.room s.fits (s.taken told early)) (c.take_over.ensures.going told);
    }

pub returns-clause-beside : goal.returns-clause-beside
returns-clause-beside g c = λ told.
    let s = c.args.self.now in
    let early = earlier s.known c.if-self-eq-CURRENT_VERSION.false in
    beside_taken (s.label.extents * s.label.geometry.extent) (layout_early s.known early) (c.take_over.ensures.writes told)

pub returns-clause-keeps : goal.returns-clause-keeps
returns-clause-keeps g c = λ told.
    let s = c.args.self.now in
    let early = earlier s.known c.if-self-eq-CURRENT_VERSION.false in
    area_taken (layout_early s.known early) (c.take_over.ensures.writes told)

pub returns-clause-leaves : goal.returns-clause-leaves
returns-clause-leaves g c = λ told.
    let s = c.args.self.now in
    let early = earlier s.known c.if-self-eq-CURRENT_VERSION.false in
    leaves_taken c.take_over.ensures.size (early_from (s.label.extents * s.label.geometry.extent) (table_alone s.table) s.area s.few s.known early s.room s.fits (s.taken told early)) (c.take_over.ensures.going told) (c.take_over.ensures.writes told)
