use Rattle.std.proofs.Common.{inl, refl, ◌∙◌, subst, arith}
use Rattle.sm_disk.proofs.HeldLaws.{Allows-reads}
use Rattle.sm_disk.specs.Held.{HasSectors, Keeps, reads}
use Rattle.sm_ready.specs.Known.{known}
use Rattle.sm_standing.specs.Contents.{Content}
use Rattle.vg_meta.specs.Tables.{VolumeTable}
use Rattle.vg_store.specs.Groups.{area_of}
use Rattle.vg_volumes.specs.Sites.{Site}
use Rattle.lvhd_command.specs.Devices.{IsKeptDevice, IsOneTable, StandsAlways}
use Rattle.lvhd_command.specs.Exporting.{export_sides}
use Rattle.lvhd_command.specs.Running.{HasStayed, RunSides}
use Rattle.lvhd_command.specs.Sessions.{content_read, site_of, state_of, table_of}
use Rattle.lvhd_command.proofs.ExactLaws.{sound_or_refused}
use Rattle.lvhd_command.proofs.ExportLaws.{closed_said, opened_said, HoldsContent, back_read, did_of, did_refused, few_said, few_told, kept_opened, said_export, said_of, stands_opened, truthful_opened}
use Rattle.lvhd_command.proofs.OpenLaws.{kept_sound, kept_well}
use Rattle.lvhd_command.proofs.RunLaws.{has_stayed, kept_off, left_of, refused_calm, refused_sink_calm, said_refused, session_state, stands_back}
use Rattle.lvhd_command.proofs.UnsoundLaws.{beside_last}
use Rattle.lvhd_command.proofs.exporting.run_export.Goals as goal

pub returns-in-Ok-clause-few : goal.returns-in-Ok-clause-few
returns-in-Ok-clause-few g c = few_said _ _ c.send_disk.result.0 c.send_disk.ensures.said

pub returns-in-Ok-clause-did : goal.returns-in-Ok-clause-did
returns-in-Ok-clause-did g c = λ told.
    let s : RunSides = export_sides g.D.Disk.size g.D.Disk.held g.K.Sink.content c.args.disk c.send_disk.result.1 c.args.sink.now c.send_disk.new.sink in
    let e = c.in-Ok.ensures in
    let m = c.in-Ok.session in
    let n = g.D.Disk.size m.store.inner.disk in
    let site : Site = site_of m in
    let held = g.D.Disk.held m.store.inner.disk in
    let t : VolumeTable = table_of m in
    let is_size = c.send_disk.ensures.size ∙ e.size in
    let keeps = c.send_disk.ensures.keeps told in
    let always = subst (λ k. StandsAlways k s.new site) is_size (c.send_disk.ensures.stands told) in
    let one = subst (λ k. IsOneTable k site s.new t) is_size (c.send_disk.ensures.one told) in
    let between = m.between e.whole in
    let kept = λ (k : IsKeptDevice s.size s.old). kept_opened s.size n site held s.new t m.store.inner.failed g.D.Disk.told e.size keeps always (e.kept told (kept_well s.size s.old k)) in
    let content : Content = content_read m in
    let holds : IsKeptDevice s.size s.old → HoldsContent s content = λ k. record {
      stands = (stands_back s.size site held s.new t (back_read s.size site held s.new keeps always) one).content;
      shown = e.shown told (kept_well s.size s.old k);
      sectors = subst (λ x. HasSectors x s.new) is_size (c.send_disk.ensures.sectors told);
      kept = kept k;
    } in
    record {
      said = said_of s c.send_disk.result.0 c.send_disk.ensures.said;
      beside = beside_last s.size s.old held s.new (e.beside told) keeps;
      unsound = λ f on. absurd (sound_or_refused _ _ f (e.sound told) on);
      sent = λ k. did_of s content c.args.wanted.now.disk c.args.now c.send_disk.result.0 (holds k) (omega (arith, c.ranges.now.fits)) (c.send_disk.ensures.sent told (e.ready told (kept_well s.size s.old k)));
      kept = kept;
      opened = λ k.
          let slots = kept_well s.size s.old k in
          opened_said s.size s.old s.new s.had_got s.got c.send_disk.result.0 c.send_disk.ensures.said
          (stands_opened s.size n site held s.new t m.store.inner.failed g.D.Disk.told e.size keeps always s.old (state_of m) (e.shown told slots) (e.opened told slots) (e.begins told slots) one
          (session_state site t (area_of site.layout held) (known m.memory) between.orderly between.tidy ((e.ready told slots).1) ((e.ready told slots).0)) (e.label told));
    }

pub returns-in-Ok-clause-truthful : goal.returns-in-Ok-clause-truthful
returns-in-Ok-clause-truthful g c = λ told kept truthful.
    let size = g.D.Disk.size c.args.disk in
    let old = g.D.Disk.held c.args.disk in
    let new = g.D.Disk.held c.send_disk.result.1 in
    let e = c.in-Ok.ensures in
    let m = c.in-Ok.session in
    let site : Site = site_of m in
    let always = subst (λ k. StandsAlways k new site) (c.send_disk.ensures.size ∙ e.size) (c.send_disk.ensures.stands told) in
    truthful_opened size (g.D.Disk.size m.store.inner.disk) site (g.D.Disk.held m.store.inner.disk) new (table_of m) m.store.inner.failed g.D.Disk.told e.size (c.send_disk.ensures.keeps told) always
    (e.telling told (kept_well size old kept) (truthful (reads old) (Allows-reads size old))).left

pub returns-in-Err-clause-truthful : goal.returns-in-Err-clause-truthful
returns-in-Err-clause-truthful g c = λ told kept. c.in-Err.ensures.truthful_back told (kept_well (g.D.Disk.size c.args.disk) (g.D.Disk.held c.args.disk) kept)

pub returns-in-Ok-clause-calm : goal.returns-in-Ok-clause-calm
returns-in-Ok-clause-calm g c = λ other. c.send_disk.ensures.calm other ∙ c.in-Ok.ensures.calm

pub returns-in-Err-clause-few : goal.returns-in-Err-clause-few
returns-in-Err-clause-few g c = few_told c.in-Err.fault _ _ _ _ c.refuse.result c.refuse.ensures

pub returns-in-Err-clause-did : goal.returns-in-Err-clause-did
returns-in-Err-clause-did g c = λ told.
    let s : RunSides = export_sides g.D.Disk.size g.D.Disk.held g.K.Sink.content c.args.disk c.in-Err.disk c.args.sink.now c.refuse.new.sink in
    let e = c.in-Err.ensures in
    let said = said_refused s c.in-Err.fault c.refuse.result g.D.Disk.told _ _ _ _ told e.refused c.refuse.ensures in
    let untouched = left_of (Keeps s.old s.new) c.in-Err.fault _ _ _ _ c.refuse.result c.refuse.ensures (e.untouched told) in
    let stayed = λ (k : Keeps s.old s.new). has_stayed s c.in-Err.fault c.refuse.result g.D.Disk.told _ _ _ _ told refl e.refused c.refuse.ensures k in
    record {
      said = said_export s c.refuse.result said (λ is. subst (HasStayed s) is (stayed (untouched (kept_off c.refuse.result (inl is)))));
      beside = e.beside_back told;
      unsound = λ f on. stayed (e.unsound told f on);
      sent = λ k. did_refused s c.args.wanted.now.disk c.args.now c.refuse.result (kept_sound s.size s.old k) said;
      kept = e.kept_back told;
      opened = λ k. closed_said s.size s.old s.new c.in-Err.fault _ _ _ _ c.refuse.result c.refuse.ensures (record {
        shown = e.shown_back told (kept_well s.size s.old k);
        label = e.label_back told;
        untouched = untouched;
      });
    }

pub returns-in-Err-clause-calm : goal.returns-in-Err-clause-calm
returns-in-Err-clause-calm g c = λ other. refused_calm g.D.Disk.told _ _ _ _ c.in-Err.fault _ _ _ _ c.refuse.result c.in-Err.ensures.refused c.refuse.ensures other

pub returns-in-Err-clause-sink_calm : goal.returns-in-Err-clause-sink_calm
returns-in-Err-clause-sink_calm g c = λ other. refused_sink_calm c.in-Err.fault _ _ _ _ c.refuse.result c.refuse.ensures other
