use Rattle.std.proofs.Common.{inl, inr, refl, sym, ◌∙◌, subst}
use Rattle.sm_disk.proofs.HeldLaws.{Allows-reads}
use Rattle.sm_disk.specs.Held.{Keeps, reads}
use Rattle.sm_machine.specs.Steps.{State}
use Rattle.vg_volumes.specs.Sites.{Site}
use Rattle.lvhd_command.specs.Devices.{IsKeptDevice, IsTruthfulDevice, StandsAlways}
use Rattle.lvhd_command.specs.Importing.{ImportLeft}
use Rattle.lvhd_command.specs.Running.{RunSides, sides}
use Rattle.lvhd_command.specs.Sessions.{site_of, state_of}
use Rattle.lvhd_command.proofs.ExactLaws.{sound_or_refused}
use Rattle.lvhd_command.proofs.ImportLaws.{counted_calm, counted_counts, counted_rose, refused_at_once}
use Rattle.lvhd_command.proofs.OpenLaws.{kept_well}
use Rattle.lvhd_command.proofs.RunLaws.{has_stayed, left_of, refused_calm, refused_sink_calm, said_refused}
use Rattle.lvhd_command.proofs.UnsoundLaws.{beside_then}
use Rattle.lvhd_command.proofs.importing.run_import.Goals as goal

pub returns-in-Ok-clause-size : goal.returns-in-Ok-clause-size
returns-in-Ok-clause-size g c = c.make_disk.ensures.size ∙ c.in-Ok.ensures.size

pub returns-in-Ok-clause-counts : goal.returns-in-Ok-clause-counts
returns-in-Ok-clause-counts g c = let counted = rw c.in-Ok.ensures.calm at c.make_disk.ensures.counted in (counted_counts _ _ _ _ _ _ c.make_disk.result.0 counted).1

pub returns-in-Ok-clause-source_counts : goal.returns-in-Ok-clause-source_counts
returns-in-Ok-clause-source_counts g c = (counted_counts _ _ _ _ _ _ c.make_disk.result.0 c.make_disk.ensures.counted).0

pub returns-in-Ok-clause-sink_counts : goal.returns-in-Ok-clause-sink_counts
returns-in-Ok-clause-sink_counts g c = (counted_counts _ _ _ _ _ _ c.make_disk.result.0 c.make_disk.ensures.counted).2

pub returns-in-Ok-clause-words : goal.returns-in-Ok-clause-words
returns-in-Ok-clause-words g c = (counted_rose _ _ _ _ _ _ c.make_disk.result.0 c.make_disk.ensures.counted).3

pub returns-in-Ok-clause-device : goal.returns-in-Ok-clause-device
returns-in-Ok-clause-device g c = let counted = rw c.in-Ok.ensures.calm at c.make_disk.ensures.counted in (counted_rose _ _ _ _ _ _ c.make_disk.result.0 counted).0

pub returns-in-Ok-clause-source : goal.returns-in-Ok-clause-source
returns-in-Ok-clause-source g c = (counted_rose _ _ _ _ _ _ c.make_disk.result.0 c.make_disk.ensures.counted).1

pub returns-in-Ok-clause-sink : goal.returns-in-Ok-clause-sink
returns-in-Ok-clause-sink g c = (counted_rose _ _ _ _ _ _ c.make_disk.result.0 c.make_disk.ensures.counted).2

pub returns-in-Ok-clause-calm : goal.returns-in-Ok-clause-calm
returns-in-Ok-clause-calm g c = let counted = rw c.in-Ok.ensures.calm at c.make_disk.ensures.counted in (counted_calm _ _ _ _ _ _ c.make_disk.result.0 counted).0

pub returns-in-Ok-clause-source_calm : goal.returns-in-Ok-clause-source_calm
returns-in-Ok-clause-source_calm g c = (counted_calm _ _ _ _ _ _ c.make_disk.result.0 c.make_disk.ensures.counted).1

pub returns-in-Ok-clause-sink_calm : goal.returns-in-Ok-clause-sink_calm
returns-in-Ok-clause-sink_calm g c = (counted_calm _ _ _ _ _ _ c.make_disk.result.0 c.make_disk.ensures.counted).2

pub returns-in-Ok-clause-did : goal.returns-in-Ok-clause-did
returns-in-Ok-clause-did g c = λ told.
    let s : RunSides = sides g.D.Disk.size g.D.Disk.held g.S.Source.content g.K.Sink.content c.args.disk c.make_disk.result.1 c.args.source.now c.make_disk.new.source c.args.sink.now c.make_disk.new.sink in
    let e = c.in-Ok.ensures in
    let m = c.in-Ok.session in
    let site : Site = site_of m in
    let σ : State = state_of m in
    let is_size = c.make_disk.ensures.size ∙ e.size in
    let always = subst (λ k. StandsAlways k s.new site) is_size (c.make_disk.ensures.stands told) in
    record {
      beside = beside_then s.size s.old (g.D.Disk.held m.store.inner.disk) s.new site (e.label told) (e.beside told) (c.make_disk.ensures.beside told);
      unsound = λ f on. absurd (sound_or_refused _ _ f (e.sound told) on);
      kept = λ k. subst (λ n. IsKeptDevice n s.new) is_size (c.make_disk.ensures.kept told (e.ready told (kept_well s.size s.old k)) (e.kept told (kept_well s.size s.old k)));
      tried = λ k.
          let slots = kept_well s.size s.old k in
          inl (record {
            start = σ;
            shown = e.shown told slots;
            opened = e.opened told slots;
            told = c.make_disk.ensures.told;
            left = subst (λ n. ImportLeft σ c.args.wanted.now.disk n s.new s.had_left s.left c.make_disk.result.0) e.size (c.make_disk.ensures.left told (e.ready told slots) (e.begins told slots));
            label = λ image allowed. (always image allowed).stands.labelled ∙ sym (e.label told);
          });
    }

pub returns-in-Ok-clause-truthful : goal.returns-in-Ok-clause-truthful
returns-in-Ok-clause-truthful g c = λ told kept truthful.
    let size = g.D.Disk.size c.args.disk in
    let old = g.D.Disk.held c.args.disk in
    let e = c.in-Ok.ensures in
    let slots = kept_well size old kept in
    subst (λ n. IsTruthfulDevice n (g.D.Disk.held c.make_disk.result.1)) (c.make_disk.ensures.size ∙ e.size)
    (c.make_disk.ensures.truthful told (e.ready told slots) (e.telling told slots (truthful (reads old) (Allows-reads size old))))

pub returns-in-Err-clause-truthful : goal.returns-in-Err-clause-truthful
returns-in-Err-clause-truthful g c = λ told kept. c.in-Err.ensures.truthful_back told (kept_well (g.D.Disk.size c.args.disk) (g.D.Disk.held c.args.disk) kept)

pub returns-in-Ok-clause-unread : goal.returns-in-Ok-clause-unread
returns-in-Ok-clause-unread g c = λ told kept r.
    let s : RunSides = sides g.D.Disk.size g.D.Disk.held g.S.Source.content g.K.Sink.content c.args.disk c.make_disk.result.1 c.args.source.now c.make_disk.new.source c.args.sink.now c.make_disk.new.sink in
    let σ : State = state_of c.in-Ok.session in
    c.make_disk.ensures.unread r.refusal (refused_at_once s c.args.wanted.now.disk σ.shape (c.in-Ok.ensures.opened told (kept_well s.size s.old kept)) r)

pub returns-in-Err-clause-did : goal.returns-in-Err-clause-did
returns-in-Err-clause-did g c = λ told.
    let s : RunSides = sides g.D.Disk.size g.D.Disk.held g.S.Source.content g.K.Sink.content c.args.disk c.in-Err.disk c.args.source.now c.args.source.now c.args.sink.now c.refuse.new.sink in
    let e = c.in-Err.ensures in
    let said = said_refused s c.in-Err.fault c.refuse.result g.D.Disk.told _ _ _ _ told e.refused c.refuse.ensures in
    record {
      beside = e.beside_back told;
      unsound = λ f on. has_stayed s c.in-Err.fault c.refuse.result g.D.Disk.told _ _ _ _ told refl e.refused c.refuse.ensures (e.unsound told f on);
      kept = e.kept_back told;
      tried = λ k. inr (record {
        source = refl;
        said = said;
        kept = e.kept_back told k;
        shown = e.shown_back told (kept_well s.size s.old k);
        label = e.label_back told;
        untouched = left_of (Keeps s.old s.new) c.in-Err.fault _ _ _ _ c.refuse.result c.refuse.ensures (e.untouched told);
      });
    }

pub returns-in-Err-clause-unread : goal.returns-in-Err-clause-unread
returns-in-Err-clause-unread g c = λ told kept r. refl

pub returns-in-Err-clause-calm : goal.returns-in-Err-clause-calm
returns-in-Err-clause-calm g c = λ other. refused_calm g.D.Disk.told _ _ _ _ c.in-Err.fault _ _ _ _ c.refuse.result c.in-Err.ensures.refused c.refuse.ensures other

pub returns-in-Err-clause-sink_calm : goal.returns-in-Err-clause-sink_calm
returns-in-Err-clause-sink_calm g c = λ other. refused_sink_calm c.in-Err.fault _ _ _ _ c.refuse.result c.refuse.ensures other
