use Rattle.std.proofs.Common.{◌≡◌, inl, inr, ⊎_elim, Ok, sym, refl, ap, ◌∙◌, subst}
use Rattle.sm_disk.specs.Held.{Keeps, reads}
use Rattle.sm_disk.proofs.HeldLaws.{Allows-reads, Keeps-none}
use Rattle.vg_store.specs.Groups.{area_of}
use Rattle.vg_volumes.specs.Sites.{Site}
use Rattle.sm_ready.specs.Known.{known}
use Rattle.sm_reached.proofs.KnownLaws.{no_more_known}
use Rattle.sm_run.specs.declared.runs.RunFault.TheVariants as fault
use Rattle.lvhd_command.specs.Devices.{IsOneTable, beside_at, plate_at}
use Rattle.lvhd_command.specs.Running.{RunSides, IsGivenBack}
use Rattle.lvhd_command.specs.Sessions.{site_of, state_of, table_of}
use Rattle.lvhd_command.proofs.OpenLaws.{kept_well}
use Rattle.lvhd_command.proofs.RunLaws.{has_run_sized, back_itself, ok_not_err, ends_done, ends_early, ended_not, refused_calm, refused_sink_calm, session_state, said_refused, has_stayed, stayed_poor, kept_off, left_of, done_not_kept_off}
use Rattle.lvhd_command.proofs.ExactLaws.{never_so, never_poor, sound_or_refused}
use Rattle.lvhd_command.proofs.TruthLaws.{truthful_back}
use Rattle.lvhd_command.proofs.UnsoundLaws.{beside_whole, beside_then, beside_last}
use Rattle.lvhd_command.proofs.running.run_script.Goals as goal

pub returns-in-Err-clause-did : goal.returns-in-Err-clause-did
returns-in-Err-clause-did g c = λ told kept.
    let s : RunSides = record {
      size = g.D.Disk.size c.args.disk;
      old = g.D.Disk.held c.args.disk;
      new = g.D.Disk.held c.in-Err.disk;
      had_left = g.S.Source.content c.args.source.now;
      left = g.S.Source.content c.args.source.now;
      had_got = g.K.Sink.content c.args.sink.now;
      got = g.K.Sink.content c.refuse.new.sink;
    } in
    inr (record {
      source = refl;
      said = said_refused s c.in-Err.fault c.refuse.result g.D.Disk.told _ _ _ _ told c.in-Err.ensures.refused c.refuse.ensures;
      kept = c.in-Err.ensures.kept_back told kept;
      shown = c.in-Err.ensures.shown_back told (kept_well (g.D.Disk.size c.args.disk) (g.D.Disk.held c.args.disk) kept);
      label = c.in-Err.ensures.label_back told;
      untouched = left_of (Keeps s.old s.new) c.in-Err.fault _ _ _ _ c.refuse.result c.refuse.ensures (c.in-Err.ensures.untouched told);
    })

pub returns-in-Ok-run-clause-did : goal.returns-in-Ok-run-clause-did
returns-in-Ok-run-clause-did g c = λ told kept.
    let s : RunSides = record {
      size = g.D.Disk.size c.args.disk;
      old = g.D.Disk.held c.args.disk;
      new = g.D.Disk.held c.close.result.1;
      had_left = g.S.Source.content c.args.source.now;
      left = g.S.Source.content c.run.new.source;
      had_got = g.K.Sink.content c.args.sink.now;
      got = g.K.Sink.content c.run.new.sink;
    } in
    let e = c.in-Ok-open.ensures in
    let m = c.run.new.machine in
    let n = g.D.Disk.size m.store.inner.disk in
    let site : Site = site_of m in
    let is_size : n ≡ s.size = ap (λ (x : Site). x.sectors) c.run.ensures.site ∙ e.size in
    let labelled = e.label told ∙ ap (λ (x : Site). Ok (plate_at x)) (sym c.run.ensures.site) in
    let slots = kept_well (g.D.Disk.size c.args.disk) (g.D.Disk.held c.args.disk) kept in
    let r = c.run.ensures.run told (e.whole, (e.ready told slots).0, (e.ready told slots).1) (e.kept told slots) (e.begins told slots) in
    let ready = r.ready (λ failed. ok_not_err c.run.result _ _ c.in-Ok-run.is failed) in
    inl (has_run_sized s c.close.result.0 n site (table_of m) (g.D.Disk.held m.store.inner.disk) _ _ c.run.result _ g.D.Disk.told m.store.inner.failed is_size (e.sound told) (e.shown told slots) (e.opened told slots) r
    (c.close.ensures.back told) (λ q. c.close.ensures.one told q.0)
    (λ q. session_state site (table_of m) (area_of site.layout (g.D.Disk.held m.store.inner.disk)) (known m.memory) ((m.between q.0).orderly) ((m.between q.0).tidy) q.2 q.1)
    (ends_done s.size n s.new _ c.run.result _ c.close.result.0 g.D.Disk.told told c.in-Ok-run.is is_size c.close.ensures.status (c.close.ensures.shown told ready.0 (ready.1, ready.2))) labelled
    (λ truthful turns. no_more_known (state_of c.in-Ok-open.session) turns (c.in-Ok-open.session.between e.whole).orderly.well_formed (e.ready told slots).1
    (e.telling told slots (truthful (reads s.old) (Allows-reads s.size s.old))).taken))

pub returns-clause-did : goal.returns-clause-did
returns-clause-did g c = λ told kept.
    let s : RunSides = record {
      size = g.D.Disk.size c.args.disk;
      old = g.D.Disk.held c.args.disk;
      new = g.D.Disk.held c.leave.result;
      had_left = g.S.Source.content c.args.source.now;
      left = g.S.Source.content c.run.new.source;
      had_got = g.K.Sink.content c.args.sink.now;
      got = g.K.Sink.content c.run.new.sink;
    } in
    let e = c.in-Ok-open.ensures in
    let m = c.run.new.machine in
    let n = g.D.Disk.size m.store.inner.disk in
    let site : Site = site_of m in
    let is_size : n ≡ s.size = ap (λ (x : Site). x.sectors) c.run.ensures.site ∙ e.size in
    let labelled = e.label told ∙ ap (λ (x : Site). Ok (plate_at x)) (sym c.run.ensures.site) in
    let slots = kept_well (g.D.Disk.size c.args.disk) (g.D.Disk.held c.args.disk) kept in
    let r = c.run.ensures.run told (e.whole, (e.ready told slots).0, (e.ready told slots).1) (e.kept told slots) (e.begins told slots) in
    let back = subst (λ d. IsGivenBack n site (g.D.Disk.held m.store.inner.disk) (g.D.Disk.held d)) (sym c.leave.ensures.disk) (back_itself n site (g.D.Disk.held m.store.inner.disk) (c.leave.ensures.stands told)) in
    inl (has_run_sized s c.status_of_fault.result n site (table_of m) (g.D.Disk.held m.store.inner.disk) _ _ c.run.result _ g.D.Disk.told m.store.inner.failed is_size (e.sound told) (e.shown told slots) (e.opened told slots) r
    back (λ q. subst (λ d. IsOneTable n site (g.D.Disk.held d) (table_of m)) (sym c.leave.ensures.disk) (c.leave.ensures.one told q.0))
    (λ q. session_state site (table_of m) (area_of site.layout (g.D.Disk.held m.store.inner.disk)) (known m.memory) ((m.between q.0).orderly) ((m.between q.0).tidy) q.2 q.1)
    (ends_early s.size s.new _ c.run.result c.in-Err-run.fault c.status_of_fault.result c.in-Err-run.is c.status_of_fault.ensures) labelled
    (λ truthful turns. no_more_known (state_of c.in-Ok-open.session) turns (c.in-Ok-open.session.between e.whole).orderly.well_formed (e.ready told slots).1
    (e.telling told slots (truthful (reads s.old) (Allows-reads s.size s.old))).taken))

pub returns-in-Err-clause-unsound : goal.returns-in-Err-clause-unsound
returns-in-Err-clause-unsound g c = λ told e on.
    let s : RunSides = record {
      size = g.D.Disk.size c.args.disk;
      old = g.D.Disk.held c.args.disk;
      new = g.D.Disk.held c.in-Err.disk;
      had_left = g.S.Source.content c.args.source.now;
      left = g.S.Source.content c.args.source.now;
      had_got = g.K.Sink.content c.args.sink.now;
      got = g.K.Sink.content c.refuse.new.sink;
    } in
    has_stayed s c.in-Err.fault c.refuse.result g.D.Disk.told _ _ _ _ told refl c.in-Err.ensures.refused c.refuse.ensures (c.in-Err.ensures.unsound told e on)

pub returns-in-Err-clause-refused : goal.returns-in-Err-clause-refused
returns-in-Err-clause-refused g c = λ told is.
    let s : RunSides = record {
      size = g.D.Disk.size c.args.disk;
      old = g.D.Disk.held c.args.disk;
      new = g.D.Disk.held c.in-Err.disk;
      had_left = g.S.Source.content c.args.source.now;
      left = g.S.Source.content c.args.source.now;
      had_got = g.K.Sink.content c.args.sink.now;
      got = g.K.Sink.content c.refuse.new.sink;
    } in
    let k = left_of (Keeps s.old s.new) c.in-Err.fault _ _ _ _ c.refuse.result c.refuse.ensures (c.in-Err.ensures.untouched told) (kept_off c.refuse.result is) in
    has_stayed s c.in-Err.fault c.refuse.result g.D.Disk.told _ _ _ _ told refl c.in-Err.ensures.refused c.refuse.ensures k

pub returns-in-Ok-run-clause-refused : goal.returns-in-Ok-run-clause-refused
returns-in-Ok-run-clause-refused g c = λ told is. absurd (done_not_kept_off _ c.close.result.0 c.close.ensures.status is)

pub returns-clause-refused : goal.returns-clause-refused
returns-clause-refused g c = λ told is.
    absurd (⊎_elim (λ e. never_so c.in-Err-run.fault (sym c.status_of_fault.ensures ∙ e)) (λ e. never_poor c.in-Err-run.fault (sym c.status_of_fault.ensures ∙ e)) is)

pub returns-in-Ok-run-clause-unsound : goal.returns-in-Ok-run-clause-unsound
returns-in-Ok-run-clause-unsound g c = λ told e on. absurd (sound_or_refused _ _ e (c.in-Ok-open.ensures.sound told) on)

pub returns-clause-unsound : goal.returns-clause-unsound
returns-clause-unsound g c = λ told e on. absurd (sound_or_refused _ _ e (c.in-Ok-open.ensures.sound told) on)

pub returns-in_default-clause-did : goal.returns-in_default-clause-did
returns-in_default-clause-did g c = λ told kept.
    let s : RunSides = record {
      size = g.D.Disk.size c.args.disk;
      old = g.D.Disk.held c.args.disk;
      new = g.D.Disk.held c.args.disk;
      had_left = g.S.Source.content c.args.source.now;
      left = g.S.Source.content c.args.source.now;
      had_got = g.K.Sink.content c.args.sink.now;
      got = g.K.Sink.content c.args.sink.now;
    } in
    let stayed = stayed_poor s refl refl refl in
    inr (record {
      source = stayed.source;
      said = stayed.said;
      kept = kept;
      shown = λ image allowed. inl (record { before = image; allowed = allowed; same = λ g on. (g, on, refl) });
      label = λ image allowed. inl allowed;
      untouched = λ _. stayed.untouched;
    })

pub returns-in_default-clause-refused : goal.returns-in_default-clause-refused
returns-in_default-clause-refused g c = λ told is. stayed_poor _ refl refl refl

pub returns-in_default-clause-unsound : goal.returns-in_default-clause-unsound
returns-in_default-clause-unsound g c = λ told e on. stayed_poor _ refl refl refl

pub returns-in_default-clause-beside : goal.returns-in_default-clause-beside
returns-in_default-clause-beside g c = λ told. beside_whole (g.D.Disk.size c.args.disk) (g.D.Disk.held c.args.disk) _ (Keeps-none _)

pub returns-in-Ok-run-clause-beside : goal.returns-in-Ok-run-clause-beside
returns-in-Ok-run-clause-beside g c = λ told.
    let size = g.D.Disk.size c.args.disk in
    let old = g.D.Disk.held c.args.disk in
    let s = c.in-Ok-open.session in
    let m = c.run.new.machine in
    let e = c.in-Ok-open.ensures in
    let site : Site = site_of m in
    let labelled = e.label told ∙ ap (λ (x : Site). Ok (plate_at x)) (sym c.run.ensures.site) in
    let k = subst (λ (n : Site). Keeps (beside_at n (g.D.Disk.held s.store.inner.disk)) (beside_at site (g.D.Disk.held m.store.inner.disk))) (sym c.run.ensures.site) (c.run.ensures.beside told) in
    beside_last size old (g.D.Disk.held m.store.inner.disk) _ (beside_then size old (g.D.Disk.held s.store.inner.disk) (g.D.Disk.held m.store.inner.disk) site labelled (e.beside told) k)
    (c.close.ensures.keeps told)

pub returns-clause-beside : goal.returns-clause-beside
returns-clause-beside g c = λ told.
    let size = g.D.Disk.size c.args.disk in
    let old = g.D.Disk.held c.args.disk in
    let s = c.in-Ok-open.session in
    let m = c.run.new.machine in
    let e = c.in-Ok-open.ensures in
    let site : Site = site_of m in
    let labelled = e.label told ∙ ap (λ (x : Site). Ok (plate_at x)) (sym c.run.ensures.site) in
    let k = subst (λ (n : Site). Keeps (beside_at n (g.D.Disk.held s.store.inner.disk)) (beside_at site (g.D.Disk.held m.store.inner.disk))) (sym c.run.ensures.site) (c.run.ensures.beside told) in
    beside_last size old (g.D.Disk.held m.store.inner.disk) _ (beside_then size old (g.D.Disk.held s.store.inner.disk) (g.D.Disk.held m.store.inner.disk) site labelled (e.beside told) k)
    (subst (λ d. Keeps (g.D.Disk.held m.store.inner.disk) (g.D.Disk.held d)) (sym c.leave.ensures.disk) (Keeps-none (g.D.Disk.held m.store.inner.disk)))

pub returns-in-Err-clause-calm : goal.returns-in-Err-clause-calm
returns-in-Err-clause-calm g c = λ other. refused_calm g.D.Disk.told _ _ _ _ c.in-Err.fault _ _ _ _ c.refuse.result c.in-Err.ensures.refused c.refuse.ensures other

pub returns-in-Err-clause-sink_calm : goal.returns-in-Err-clause-sink_calm
returns-in-Err-clause-sink_calm g c = λ other. refused_sink_calm c.in-Err.fault _ _ _ _ c.refuse.result c.refuse.ensures other

pub returns-in-Ok-run-clause-calm : goal.returns-in-Ok-run-clause-calm
returns-in-Ok-run-clause-calm g c = λ other.
    let e = c.in-Ok-open.ensures in
    c.close.ensures.calm other ∙ c.run.ensures.calm e.whole (λ failed. ok_not_err c.run.result _ _ c.in-Ok-run.is failed) ∙ e.calm

pub returns-in-Ok-run-clause-source_calm : goal.returns-in-Ok-run-clause-source_calm
returns-in-Ok-run-clause-source_calm g c = λ other. c.run.ensures.source_calm (λ failed. ok_not_err c.run.result _ _ c.in-Ok-run.is failed)

pub returns-in-Ok-run-clause-sink_calm : goal.returns-in-Ok-run-clause-sink_calm
returns-in-Ok-run-clause-sink_calm g c = λ other. c.run.ensures.sink_calm (λ failed. ok_not_err c.run.result _ _ c.in-Ok-run.is failed)

pub returns-clause-calm : goal.returns-clause-calm
returns-clause-calm g c = λ other.
    let e = c.in-Ok-open.ensures in
    ap g.D.Disk.faults c.leave.ensures.disk ∙ c.run.ensures.calm e.whole (ended_not c.run.result c.in-Err-run.fault fault.Device c.status_of_fault.result c.in-Err-run.is c.status_of_fault.ensures other) ∙ e.calm

pub returns-clause-source_calm : goal.returns-clause-source_calm
returns-clause-source_calm g c = λ other.
    c.run.ensures.source_calm (ended_not c.run.result c.in-Err-run.fault fault.Source c.status_of_fault.result c.in-Err-run.is c.status_of_fault.ensures other)

pub returns-clause-sink_calm : goal.returns-clause-sink_calm
returns-clause-sink_calm g c = λ other.
    c.run.ensures.sink_calm (ended_not c.run.result c.in-Err-run.fault fault.Sink c.status_of_fault.result c.in-Err-run.is c.status_of_fault.ensures other)

-- ---- what logs tell

pub returns-in_default-clause-truthful : goal.returns-in_default-clause-truthful
returns-in_default-clause-truthful g c = λ told kept truthful. truthful

pub returns-in-Err-clause-truthful : goal.returns-in-Err-clause-truthful
returns-in-Err-clause-truthful g c = λ told kept truthful.
    c.in-Err.ensures.truthful_back told (kept_well (g.D.Disk.size c.args.disk) (g.D.Disk.held c.args.disk) kept) truthful

pub returns-in-Ok-run-clause-truthful : goal.returns-in-Ok-run-clause-truthful
returns-in-Ok-run-clause-truthful g c = λ told kept truthful.
    let e = c.in-Ok-open.ensures in
    let m = c.run.new.machine in
    let n = g.D.Disk.size m.store.inner.disk in
    let site : Site = site_of m in
    let is_size : n ≡ g.D.Disk.size c.args.disk = ap (λ (x : Site). x.sectors) c.run.ensures.site ∙ e.size in
    let slots = kept_well (g.D.Disk.size c.args.disk) (g.D.Disk.held c.args.disk) kept in
    let telling = e.telling told slots (truthful (reads (g.D.Disk.held c.args.disk)) (Allows-reads (g.D.Disk.size c.args.disk) (g.D.Disk.held c.args.disk))) in
    let all = c.run.ensures.truthful told (e.whole, (e.ready told slots).0, (e.ready told slots).1) telling in
    truthful_back (g.D.Disk.size c.args.disk) n site (g.D.Disk.held m.store.inner.disk) (g.D.Disk.held c.close.result.1) _ is_size (λ t image l. inl l) all (c.close.ensures.back told)

pub returns-clause-truthful : goal.returns-clause-truthful
returns-clause-truthful g c = λ told kept truthful.
    let e = c.in-Ok-open.ensures in
    let m = c.run.new.machine in
    let n = g.D.Disk.size m.store.inner.disk in
    let site : Site = site_of m in
    let is_size : n ≡ g.D.Disk.size c.args.disk = ap (λ (x : Site). x.sectors) c.run.ensures.site ∙ e.size in
    let slots = kept_well (g.D.Disk.size c.args.disk) (g.D.Disk.held c.args.disk) kept in
    let telling = e.telling told slots (truthful (reads (g.D.Disk.held c.args.disk)) (Allows-reads (g.D.Disk.size c.args.disk) (g.D.Disk.held c.args.disk))) in
    let all = c.run.ensures.truthful told (e.whole, (e.ready told slots).0, (e.ready told slots).1) telling in
    let back = subst (λ d. IsGivenBack n site (g.D.Disk.held m.store.inner.disk) (g.D.Disk.held d)) (sym c.leave.ensures.disk) (back_itself n site (g.D.Disk.held m.store.inner.disk) (c.leave.ensures.stands told)) in
    truthful_back (g.D.Disk.size c.args.disk) n site (g.D.Disk.held m.store.inner.disk) (g.D.Disk.held c.leave.result) _ is_size (λ t image l. inl l) all back
