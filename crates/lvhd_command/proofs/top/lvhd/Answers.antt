use Rattle.std.proofs.Common.{refl, sym, ap, subst, arith, ◌∙◌, Some}
use Rattle.lvhd_command.specs.declared.words.Form.{Form}
use Rattle.lvhd_command.specs.declared.words.Wanted.{Wanted}
use Rattle.lvhd_command.proofs.ExactLaws.{completes}
use Rattle.lvhd_command.proofs.ExportLaws.{export_completes, export_denies, same_wanted}
use Rattle.lvhd_command.proofs.FormatLaws.{same_request, beside_as, did_as, cannot_as}
use Rattle.lvhd_command.proofs.ImportLaws.{import_completes, same_import}
use Rattle.lvhd_command.proofs.OpenLaws.{kept_sound}
use Rattle.lvhd_command.specs.Exporting.{ExportDid, IsUnknown, export_sides}
use Rattle.lvhd_command.specs.Devices.{IsTruthfulDevice}
use Rattle.lvhd_command.specs.Formatting.{Sides, asked, format_sides}
use Rattle.lvhd_command.specs.Importing.{ImportDid, IsImportable, IsRefusedAtOnce}
use Rattle.lvhd_command.specs.Running.{RunSides, sides}
use Rattle.lvhd_command.specs.Trials.{TrialDid}
use Rattle.lvhd_command.proofs.TrialLaws.{same_number, trial_completes, trial_truthful}
use Rattle.lvhd_command.proofs.TruthLaws.{format_truthful}
use Rattle.lvhd_command.proofs.top.lvhd.Goals as goal

pub returns-in-Some-Format-clause-format : goal.returns-in-Some-Format-clause-format
returns-in-Some-Format-clause-format g c = λ request is.
    let here = c.in-Some-Format.is ∙ ap (λ (f : Form). Some f) c.in-Some-Format.field-0-is in
    (refl, did_as _ c.in-Some-Format.request request c.run_format-status.result (same_request c.in-Some-Format.request request (sym here ∙ c.read.ensures ∙ is)) c.run_format-status.ensures.did)

pub returns-in-Some-Format-clause-cannot_format : goal.returns-in-Some-Format-clause-cannot_format
returns-in-Some-Format-clause-cannot_format g c = λ request is cannot.
    let here = c.in-Some-Format.is ∙ ap (λ (f : Form). Some f) c.in-Some-Format.field-0-is in
    c.run_format-status.ensures.cannot_format (cannot_as _ c.in-Some-Format.request request (same_request c.in-Some-Format.request request (sym here ∙ c.read.ensures ∙ is)) cannot)

pub returns-in-Some-Format-clause-format_beside : goal.returns-in-Some-Format-clause-format_beside
returns-in-Some-Format-clause-format_beside g c = λ request is told.
    let here = c.in-Some-Format.is ∙ ap (λ (f : Form). Some f) c.in-Some-Format.field-0-is in
    beside_as _ c.in-Some-Format.request request _ _ (same_request c.in-Some-Format.request request (sym here ∙ c.read.ensures ∙ is)) (c.run_format-status.ensures.beside told)

pub returns-in-Some-Run-clause-complete : goal.returns-in-Some-Run-clause-complete
returns-in-Some-Run-clause-complete g c = λ is told kept d s k.
    completes _ c.run_script.result.0 (c.run_script.ensures.did told kept) (kept_sound _ _ kept)
    (λ e. c.run_script.ensures.words e)
    (λ e. d (c.run_script.ensures.device e))
    (λ e. s (c.run_script.ensures.source e))
    (λ e. k (c.run_script.ensures.sink e))

pub returns-in-Some-Trial-clause-trial : goal.returns-in-Some-Trial-clause-trial
returns-in-Some-Trial-clause-trial g c = λ number is.
    let here = c.in-Some-Trial.is ∙ ap (λ (f : Form). Some f) c.in-Some-Trial.field-0-is in
    let s : Sides = format_sides g.D.Disk.size g.D.Disk.told g.D.Disk.held g.D.Disk.faults g.K.Sink.content g.K.Sink.faults c.args.disk c.run_trial.result.1 c.args.sink.now c.run_trial.new.sink in
    (refl, λ told. subst (λ n. TrialDid s n c.run_trial.result.0) (same_number c.in-Some-Trial.number number (sym here ∙ c.read.ensures ∙ is)) (c.run_trial.ensures.did told))

pub returns-in-Some-Trial-clause-complete_trial : goal.returns-in-Some-Trial-clause-complete_trial
returns-in-Some-Trial-clause-complete_trial g c = λ number is told large d k.
    trial_completes _ c.in-Some-Trial.number c.run_trial.result.0 (c.run_trial.ensures.did told) (λ small. absurd (omega (arith, large, small))) (λ e. d (c.run_trial.ensures.device e)) (λ e. k (c.run_trial.ensures.sink e))

pub returns-in-Some-Trial-clause-trial_label : goal.returns-in-Some-Trial-clause-trial_label
returns-in-Some-Trial-clause-trial_label g c = λ number is told done. c.run_trial.ensures.label told done

pub returns-in-Some-Trial-clause-trial_beside : goal.returns-in-Some-Trial-clause-trial_beside
returns-in-Some-Trial-clause-trial_beside g c = λ number is told. c.run_trial.ensures.beside told

pub returns-in-Some-Trial-clause-cannot_try : goal.returns-in-Some-Trial-clause-cannot_try
returns-in-Some-Trial-clause-cannot_try g c = λ number is small. c.run_trial.ensures.small small

pub returns-in-Some-Export-clause-export : goal.returns-in-Some-Export-clause-export
returns-in-Some-Export-clause-export g c = λ wanted is.
    let here = c.in-Some-Export.is ∙ ap (λ (f : Form). Some f) c.in-Some-Export.field-0-is in
    let s : RunSides = export_sides g.D.Disk.size g.D.Disk.held g.K.Sink.content c.args.disk c.run_export.result.1 c.args.sink.now c.run_export.new.sink in
    (refl, λ told. subst (λ (w : Wanted). ExportDid s w.disk c.args.now c.run_export.result.0) (same_wanted c.in-Some-Export.wanted wanted (sym here ∙ c.read.ensures ∙ is)) (c.run_export.ensures.did told))

pub returns-in-Some-Export-clause-complete_export : goal.returns-in-Some-Export-clause-complete_export
returns-in-Some-Export-clause-complete_export g c = λ wanted ds d is told kept shown i named dev snk.
    let here = c.in-Some-Export.is ∙ ap (λ (f : Form). Some f) c.in-Some-Export.field-0-is in
    let same = same_wanted c.in-Some-Export.wanted wanted (sym here ∙ c.read.ensures ∙ is) in
    let s : RunSides = export_sides g.D.Disk.size g.D.Disk.held g.K.Sink.content c.args.disk c.run_export.result.1 c.args.sink.now c.run_export.new.sink in
    export_completes s c.in-Some-Export.wanted.disk c.args.now ds d c.run_export.result.0 ((c.run_export.ensures.did told).sent kept) shown i (named ∙ ap (λ (w : Wanted). w.disk) (sym same)) (λ e. dev (c.run_export.ensures.device e)) (λ e. snk (c.run_export.ensures.sink e))

pub returns-in-Some-Export-clause-complete_unknown : goal.returns-in-Some-Export-clause-complete_unknown
returns-in-Some-Export-clause-complete_unknown g c = λ wanted is told kept unknown dev snk.
    let here = c.in-Some-Export.is ∙ ap (λ (f : Form). Some f) c.in-Some-Export.field-0-is in
    let same = same_wanted c.in-Some-Export.wanted wanted (sym here ∙ c.read.ensures ∙ is) in
    let s : RunSides = export_sides g.D.Disk.size g.D.Disk.held g.K.Sink.content c.args.disk c.run_export.result.1 c.args.sink.now c.run_export.new.sink in
    export_denies s c.in-Some-Export.wanted.disk c.args.now c.run_export.result.0 ((c.run_export.ensures.did told).sent kept) (subst (λ (w : Wanted). IsUnknown s w.disk) (sym same) unknown) (λ e. dev (c.run_export.ensures.device e)) (λ e. snk (c.run_export.ensures.sink e))

pub returns-in-Some-Import-clause-source_calm : goal.returns-in-Some-Import-clause-source_calm
returns-in-Some-Import-clause-source_calm g c = λ device other.
    let here = c.in-Some-Import.is ∙ ap (λ (f : Form). Some f) c.in-Some-Import.field-0-is in
    c.run_import.ensures.source_calm other (device c.in-Some-Import.wanted (sym c.read.ensures ∙ here))

pub returns-in-Some-Import-clause-import : goal.returns-in-Some-Import-clause-import
returns-in-Some-Import-clause-import g c = λ wanted is told.
    let here = c.in-Some-Import.is ∙ ap (λ (f : Form). Some f) c.in-Some-Import.field-0-is in
    let s : RunSides = sides g.D.Disk.size g.D.Disk.held g.S.Source.content g.K.Sink.content c.args.disk c.run_import.result.1 c.args.source.now c.run_import.new.source c.args.sink.now c.run_import.new.sink in
    subst (λ (w : Wanted). ImportDid s w.disk c.run_import.result.0) (same_import c.in-Some-Import.wanted wanted (sym here ∙ c.read.ensures ∙ is)) (c.run_import.ensures.did told)

pub returns-in-Some-Import-clause-import_unread : goal.returns-in-Some-Import-clause-import_unread
returns-in-Some-Import-clause-import_unread g c = λ wanted is told kept r.
    let here = c.in-Some-Import.is ∙ ap (λ (f : Form). Some f) c.in-Some-Import.field-0-is in
    let s : RunSides = sides g.D.Disk.size g.D.Disk.held g.S.Source.content g.K.Sink.content c.args.disk c.run_import.result.1 c.args.source.now c.run_import.new.source c.args.sink.now c.run_import.new.sink in
    c.run_import.ensures.unread told kept (subst (λ (w : Wanted). IsRefusedAtOnce s w.disk) (sym (same_import c.in-Some-Import.wanted wanted (sym here ∙ c.read.ensures ∙ is))) r)

pub returns-in-Some-Import-clause-complete_import : goal.returns-in-Some-Import-clause-complete_import
returns-in-Some-Import-clause-complete_import g c = λ wanted is told kept may dev src snk.
    let here = c.in-Some-Import.is ∙ ap (λ (f : Form). Some f) c.in-Some-Import.field-0-is in
    let s : RunSides = sides g.D.Disk.size g.D.Disk.held g.S.Source.content g.K.Sink.content c.args.disk c.run_import.result.1 c.args.source.now c.run_import.new.source c.args.sink.now c.run_import.new.sink in
    let mine = subst (λ (w : Wanted). IsImportable s w.disk) (sym (same_import c.in-Some-Import.wanted wanted (sym here ∙ c.read.ensures ∙ is))) may in
    import_completes s c.in-Some-Import.wanted.disk c.run_import.result.0 ((c.run_import.ensures.did told).tried kept) mine (kept_sound s.size s.old kept)
    (λ e. dev (c.run_import.ensures.device e)) (λ e. src (c.run_import.ensures.source e)) (λ e. snk (c.run_import.ensures.sink e))

pub returns-in-Some-Run-clause-source_calm : goal.returns-in-Some-Run-clause-source_calm
returns-in-Some-Run-clause-source_calm g c = λ _ other. c.run_script.ensures.source_calm other

-- ---- what logs tell

pub returns-in-Some-Format-clause-truthful : goal.returns-in-Some-Format-clause-truthful
returns-in-Some-Format-clause-truthful g c = λ told kept truthful.
    let size = g.D.Disk.size c.args.disk in
    let s : Sides = format_sides g.D.Disk.size g.D.Disk.told g.D.Disk.held g.D.Disk.faults g.K.Sink.content g.K.Sink.faults c.args.disk c.run_format-status.new.disk c.args.sink.now c.run_format-status.new.sink in
    format_truthful s (asked c.in-Some-Format.request) c.run_format-status.result c.run_format-status.ensures.did told truthful (λ same. subst (λ d. IsTruthfulDevice size (g.D.Disk.held d)) (sym same) truthful)

pub returns-in-Some-Run-clause-truthful : goal.returns-in-Some-Run-clause-truthful
returns-in-Some-Run-clause-truthful g c = λ told kept truthful. c.run_script.ensures.truthful told kept truthful

pub returns-in-Some-Trial-clause-truthful : goal.returns-in-Some-Trial-clause-truthful
returns-in-Some-Trial-clause-truthful g c = λ told kept truthful.
    let size = g.D.Disk.size c.args.disk in
    let s : Sides = format_sides g.D.Disk.size g.D.Disk.told g.D.Disk.held g.D.Disk.faults g.K.Sink.content g.K.Sink.faults c.args.disk c.run_trial.result.1 c.args.sink.now c.run_trial.new.sink in
    trial_truthful s c.in-Some-Trial.number c.run_trial.result.0 (c.run_trial.ensures.did told) truthful (λ same. subst (λ d. IsTruthfulDevice size (g.D.Disk.held d)) (sym same) truthful)

pub returns-in-Some-Export-clause-truthful : goal.returns-in-Some-Export-clause-truthful
returns-in-Some-Export-clause-truthful g c = λ told kept truthful. c.run_export.ensures.truthful told kept truthful

pub returns-in-Some-Import-clause-truthful : goal.returns-in-Some-Import-clause-truthful
returns-in-Some-Import-clause-truthful g c = λ told kept truthful. c.run_import.ensures.truthful told kept truthful
