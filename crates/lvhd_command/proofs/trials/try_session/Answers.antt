use Rattle.std.proofs.Common.{◌≡◌, ◌<◌, ◌^◌, inl, sym, ap, ◌∙◌, subst, subst₂}
use Rattle.sm_machine.specs.Steps.{State}
use Rattle.sm_ready.specs.Known.{shape_in}
use Rattle.vg_store.proofs.BesideLaws.{beside_kept}
use Rattle.sm_disk.specs.Held.{Keeps}
use Rattle.sm_disk.proofs.HeldLaws.{Keeps-then}
use Rattle.vg_volumes.specs.Sites.{Site, area_size}
use Rattle.lvhd_command.specs.Devices.{IsKeptDevice, IsTruthfulDevice, beside_at, plate_at}
use Rattle.lvhd_command.specs.Running.{IsGivenBack}
use Rattle.lvhd_command.specs.Sessions.{site_of, state_of}
use Rattle.lvhd_command.specs.Trials.{HasPlate, RestsAs}
use Rattle.lvhd_command.proofs.OpenLaws.{kept_device}
use Rattle.lvhd_command.proofs.RunLaws.{back_itself}
use Rattle.lvhd_command.proofs.TrialLaws.{call_failed, call_not_done, counted_still, counted_words, session_said}
use Rattle.lvhd_command.proofs.TruthLaws.{truthful_back}
use Rattle.lvhd_command.proofs.trials.try_session.Goals as goal

pub returns-in-Err-clause-tried : goal.returns-in-Err-clause-tried
returns-in-Err-clause-tried g c = λ told ready keeps telling.
    let whole = c.requires.whole in
    let site : Site = site_of c.try_lines.new.machine in
    let m = c.try_lines.new.machine in
    let n = g.D.Disk.size m.store.inner.disk in
    let is_size : n ≡ g.D.Disk.size c.args.session.store.inner.disk = ap (λ (x : Site). x.sectors) c.try_lines.ensures.site in
    let k = c.try_lines.ensures.kept told (whole, ready.0, ready.1) keeps in
    let all = (c.try_lines.ensures.truthful told (whole, ready.0, ready.1) keeps telling).0 in
    let back = subst (λ d. IsGivenBack n site (g.D.Disk.held m.store.inner.disk) (g.D.Disk.held d)) (sym c.leave.ensures.disk) (back_itself n site (g.D.Disk.held m.store.inner.disk) (c.leave.ensures.stands told)) in
    call_failed _ _ _ _ _ c.in-Err.why c.status_of_call.result c.status_of_call.ensures
    (subst (λ d. IsKeptDevice (g.D.Disk.size c.args.session.store.inner.disk) (g.D.Disk.held d)) (sym c.leave.ensures.disk)
    (subst (λ z. IsKeptDevice z (g.D.Disk.held m.store.inner.disk)) is_size
    (kept_device n (g.D.Disk.held m.store.inner.disk) (site_of m) (c.leave.ensures.stands told) (λ u image l. k u image (inl l)))))
    (truthful_back (g.D.Disk.size c.args.session.store.inner.disk) n site (g.D.Disk.held m.store.inner.disk) (g.D.Disk.held c.leave.result) _ is_size (λ t image l. inl l) all back)

pub returns-in-Err-count_all-clause-tried : goal.returns-in-Err-count_all-clause-tried
returns-in-Err-count_all-clause-tried g c = λ told ready keeps telling.
    let whole = c.requires.whole in
    let site : Site = site_of c.count_all.new.machine in
    let m = c.count_all.new.machine in
    let n = g.D.Disk.size m.store.inner.disk in
    let is_size : n ≡ g.D.Disk.size c.args.session.store.inner.disk = ap (λ (x : Site). x.sectors) (c.count_all.ensures.site ∙ c.try_lines.ensures.site) in
    let tried = c.in-Ok.ensures.tried told (whole, ready.0, ready.1) keeps in
    let k = c.count_all.ensures.kept told tried.1 (c.try_lines.ensures.kept told (whole, ready.0, ready.1) keeps) in
    let all = (c.count_all.ensures.truthful told tried.1 (c.in-Ok.ensures.truthful told (whole, ready.0, ready.1) keeps telling).1).0 in
    let back = subst (λ d. IsGivenBack n site (g.D.Disk.held m.store.inner.disk) (g.D.Disk.held d)) (sym c.leave-in-Err-count_all.ensures.disk)
    (back_itself n site (g.D.Disk.held m.store.inner.disk) (c.leave-in-Err-count_all.ensures.stands told)) in
    call_failed _ _ _ _ _ c.in-Err-count_all.why c.status_of_call-in-Err-count_all.result c.status_of_call-in-Err-count_all.ensures
    (subst (λ d. IsKeptDevice (g.D.Disk.size c.args.session.store.inner.disk) (g.D.Disk.held d)) (sym c.leave-in-Err-count_all.ensures.disk)
    (subst (λ z. IsKeptDevice z (g.D.Disk.held m.store.inner.disk)) is_size
    (kept_device n (g.D.Disk.held m.store.inner.disk) (site_of m) (c.leave-in-Err-count_all.ensures.stands told) (λ u image l. k u image (inl l)))))
    (truthful_back (g.D.Disk.size c.args.session.store.inner.disk) n site (g.D.Disk.held m.store.inner.disk) (g.D.Disk.held c.leave-in-Err-count_all.result) _ is_size (λ t image l. inl l) all back)

pub returns-clause-tried : goal.returns-clause-tried
unfolding shape_in
returns-clause-tried g c = λ told ready keeps telling.
    let whole = c.requires.whole in
    let first = c.try_lines.new.machine in
    let m = c.count_all.new.machine in
    let n = g.D.Disk.size m.store.inner.disk in
    let size = g.D.Disk.size c.args.session.store.inner.disk in
    let is_size : n ≡ size = ap (λ (x : Site). x.sectors) (c.count_all.ensures.site ∙ c.try_lines.ensures.site) in
    let tried = c.in-Ok.ensures.tried told (whole, ready.0, ready.1) keeps in
    let k = c.count_all.ensures.kept told tried.1 (c.try_lines.ensures.kept told (whole, ready.0, ready.1) keeps) in
    let counted = c.in-Ok-count_all.ensures.counted told tried.1 in
    let all = (c.count_all.ensures.truthful told tried.1 (c.in-Ok.ensures.truthful told (whole, ready.0, ready.1) keeps telling).1).0 in
    let σ : State = state_of first in
    let last : State = state_of m in
    let few : σ.shape.sequence < 2 ^ 48 = ((first.between tried.1.0).orderly).table.sequence in
    session_said _ _ _ _ _ _ _ c.say.result.0 c.say.ensures.said
    (λ other. record {
      end = σ;
      tally = c.in-Ok.tally;
      tried = tried.0;
      text_is = counted_words c.args.number c.in-Ok.tally σ last c.in-Ok-count_all.ending counted.0;
      rests = subst (λ (x : State). RestsAs size (g.D.Disk.held c.say.result.1) x)
          (counted_still σ last c.in-Ok-count_all.ending few counted.0)
          (subst (λ z. RestsAs z (g.D.Disk.held c.say.result.1) last) is_size (c.say.ensures.rests told (counted.1.1, counted.1.2) k all other));
    })
    (subst (λ z. IsKeptDevice z (g.D.Disk.held c.say.result.1)) is_size (c.say.ensures.kept told k))
    (subst (λ z. IsTruthfulDevice z (g.D.Disk.held c.say.result.1)) is_size (c.say.ensures.truthful told all))

pub returns-in-Err-clause-label : goal.returns-in-Err-clause-label
returns-in-Err-clause-label g c = λ told done. absurd (call_not_done c.in-Err.why c.status_of_call.result c.status_of_call.ensures done)

pub returns-in-Err-count_all-clause-label : goal.returns-in-Err-count_all-clause-label
returns-in-Err-count_all-clause-label g c = λ told done. absurd (call_not_done c.in-Err-count_all.why c.status_of_call-in-Err-count_all.result c.status_of_call-in-Err-count_all.ensures done)

pub returns-clause-label : goal.returns-clause-label
returns-clause-label g c = λ told done. subst (λ (x : Site). HasPlate x.sectors (g.D.Disk.held c.say.result.1) (plate_at x)) (c.count_all.ensures.site ∙ c.try_lines.ensures.site) (c.say.ensures.label told)

pub returns-in-Err-clause-beside : goal.returns-in-Err-clause-beside
returns-in-Err-clause-beside g c = λ told.
    let s = c.args.session in
    let m = c.try_lines.new.machine in
    let n : Site = site_of s in
    subst (λ d. Keeps (beside_at n (g.D.Disk.held s.store.inner.disk)) (beside_at n (g.D.Disk.held d))) (sym c.leave.ensures.disk)
    (subst (λ (k : Site). Keeps (beside_at n (g.D.Disk.held s.store.inner.disk)) (beside_at k (g.D.Disk.held m.store.inner.disk))) c.try_lines.ensures.site (c.try_lines.ensures.beside told))

pub returns-in-Err-count_all-clause-beside : goal.returns-in-Err-count_all-clause-beside
returns-in-Err-count_all-clause-beside g c = λ told.
    let s = c.args.session in
    let first = c.try_lines.new.machine in
    let m = c.count_all.new.machine in
    let n : Site = site_of s in
    let a = subst (λ (k : Site). Keeps (beside_at n (g.D.Disk.held s.store.inner.disk)) (beside_at k (g.D.Disk.held first.store.inner.disk))) c.try_lines.ensures.site (c.try_lines.ensures.beside told) in
    let b = subst₂ (λ (j k : Site). Keeps (beside_at j (g.D.Disk.held first.store.inner.disk)) (beside_at k (g.D.Disk.held m.store.inner.disk))) c.try_lines.ensures.site (c.count_all.ensures.site ∙ c.try_lines.ensures.site) (c.count_all.ensures.beside told) in
    subst (λ d. Keeps (beside_at n (g.D.Disk.held s.store.inner.disk)) (beside_at n (g.D.Disk.held d))) (sym c.leave-in-Err-count_all.ensures.disk) (Keeps-then a b)

pub returns-clause-beside : goal.returns-clause-beside
returns-clause-beside g c = λ told.
    let s = c.args.session in
    let first = c.try_lines.new.machine in
    let m = c.count_all.new.machine in
    let n : Site = site_of s in
    let a = subst (λ (k : Site). Keeps (beside_at n (g.D.Disk.held s.store.inner.disk)) (beside_at k (g.D.Disk.held first.store.inner.disk))) c.try_lines.ensures.site (c.try_lines.ensures.beside told) in
    let b = subst₂ (λ (j k : Site). Keeps (beside_at j (g.D.Disk.held first.store.inner.disk)) (beside_at k (g.D.Disk.held m.store.inner.disk))) c.try_lines.ensures.site (c.count_all.ensures.site ∙ c.try_lines.ensures.site) (c.count_all.ensures.beside told) in
    Keeps-then (Keeps-then a b) (beside_kept n.layout (area_size n) (c.say.ensures.keeps told))
