use Rattle.std.proofs.Common.{◌≡◌, ◌⊎◌, inl, inr, refl, sym, ◌∙◌, subst}
use Rattle.vg_store.specs.Groups.{area_of}
use Rattle.vg_volumes.specs.Sites.{Site}
use Rattle.sm_ready.specs.Known.{known}
use Rattle.sm_disk.specs.Held.{IsSettled}
use Rattle.lvhd_command.specs.declared.statuses.Status.{Status}
use Rattle.lvhd_command.specs.declared.statuses.Status.TheVariants.{Device, Done}
use Rattle.lvhd_command.specs.Sessions.{site_of, table_of}
use Rattle.lvhd_command.proofs.FormatLaws.{said_calm}
use Rattle.lvhd_command.proofs.OpenLaws.{kept_device}
use Rattle.lvhd_command.proofs.RunLaws.{reads_as, session_state}
use Rattle.lvhd_command.proofs.TrialLaws.{said_trial}
use Rattle.lvhd_command.proofs.TruthLaws.{truthful_back}
use Rattle.lvhd_command.proofs.trials.say.Goals as goal

pub returns-in-Done-clause-said : goal.returns-in-Done-clause-said
returns-in-Done-clause-said g c = said_trial _ _ _ _ _ c.print_summary.result _ c.print_summary.ensures c.said.ensures

pub returns-in-Done-clause-sink_calm : goal.returns-in-Done-clause-sink_calm
returns-in-Done-clause-sink_calm g c = λ other. said_calm _ _ _ _ _ c.print_summary.result _ _ c.print_summary.ensures c.said.ensures other

pub returns-in-Done-clause-kept : goal.returns-in-Done-clause-kept
returns-in-Done-clause-kept g c = λ told keeps.
    let s = c.args.session in
    let size = g.D.Disk.size s.store.inner.disk in
    let site : Site = site_of s in
    let back = c.close-status.ensures.back told in
    kept_device size (g.D.Disk.held c.close-status.result.1) site back.stands (λ u image l. keeps u image (inl (back.fewer u image l)))

pub returns-in_default-clause-kept : goal.returns-in_default-clause-kept
returns-in_default-clause-kept g c = λ told keeps.
    let s = c.args.session in
    let size = g.D.Disk.size s.store.inner.disk in
    let site : Site = site_of s in
    let back = c.close-status.ensures.back told in
    kept_device size (g.D.Disk.held c.close-status.result.1) site back.stands (λ u image l. keeps u image (inl (back.fewer u image l)))

pub returns-in-Done-clause-truthful : goal.returns-in-Done-clause-truthful
returns-in-Done-clause-truthful g c = λ told all.
    let s = c.args.session in
    let size = g.D.Disk.size s.store.inner.disk in
    truthful_back size size (site_of s) (g.D.Disk.held s.store.inner.disk) (g.D.Disk.held c.close-status.result.1) _ refl (λ t image l. inl l) all (c.close-status.ensures.back told)

pub returns-in_default-clause-truthful : goal.returns-in_default-clause-truthful
returns-in_default-clause-truthful g c = λ told all.
    let s = c.args.session in
    let size = g.D.Disk.size s.store.inner.disk in
    truthful_back size size (site_of s) (g.D.Disk.held s.store.inner.disk) (g.D.Disk.held c.close-status.result.1) _ refl (λ t image l. inl l) all (c.close-status.ensures.back told)

done_settled : (status : Status) (P : Type 0) → status ≡ Done → ((status ≡ Done) × P) ⊎ (status ≡ Device) → P
done_settled status P is (inl done) = done.1
done_settled status P is (inr failed) = absurd (let x = sym is ∙ failed in (let y = x in cc))

pub returns-in-Done-clause-rests : goal.returns-in-Done-clause-rests
returns-in-Done-clause-rests g c = λ told ready keeps all other.
    let s = c.args.session in
    let size = g.D.Disk.size s.store.inner.disk in
    let site : Site = site_of s in
    let e = c.close-status.ensures in
    let back = e.back told in
    let whole = c.requires.whole in
    let settled = done_settled c.close-status.result.0 (g.D.Disk.told → IsSettled (g.D.Disk.held c.close-status.result.1)) c.in-Done.is e.status told in
    record {
      settled = settled;
      only = e.shown told whole ready settled;
      reads = reads_as size site (g.D.Disk.held s.store.inner.disk) (g.D.Disk.held c.close-status.result.1) (table_of s) _ back (e.one told whole)
          (session_state site (table_of s) (area_of site.layout (g.D.Disk.held s.store.inner.disk)) (known s.memory) ((s.between whole).orderly) ((s.between whole).tidy) ready.1 ready.0);
      kept = returns-in-Done-clause-kept g c told keeps;
      truthful = returns-in-Done-clause-truthful g c told all;
    }

pub returns-in-Done-clause-label : goal.returns-in-Done-clause-label
returns-in-Done-clause-label g c = λ told image allowed. ((c.close-status.ensures.back told).stands image allowed).stands.labelled

pub returns-in_default-clause-label : goal.returns-in_default-clause-label
returns-in_default-clause-label g c = λ told image allowed. ((c.close-status.ensures.back told).stands image allowed).stands.labelled
