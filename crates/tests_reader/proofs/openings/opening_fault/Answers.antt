use Rattle.std.proofs.Common.{◌≡◌, ◌⊎◌, ℕ, ◌+◌, ◌*◌, ◌/◌, ◌<◌, ◌≤◌, true, false, length, subst, sym, ap, ap₂, ◌∙◌}
use Rattle.std.specs.Prelude.{IfOk}
use Rattle.sm_disk.specs.Sectors.{sector}
use Rattle.tests_reader.specs.Answers.{IsTextFault}
use Rattle.tests_reader.specs.Frames.{places}
use Rattle.tests_reader.proofs.OpeningLaws.{frame_by, too_small, label_refused, header_refused, header_within, judged}
use Rattle.vg_layout.specs.Opening.{grammar_of, is_header_right}
use Rattle.vg_layout.specs.Places.{Frame, frame_of, slot_bytes, slot_place, slot_text}
use Rattle.vg_layout.specs.Sectors.{number_at}
use Rattle.vg_meta.specs.declared.grammars.Grammar.{Grammar}
use Rattle.tests_reader.proofs.openings.opening_fault.Goals as goal

pub returns-then-sectors-lt2 : goal.returns-then-sectors-lt2
returns-then-sectors-lt2 c = too_small (length c.args.device.now / 512) (sector c.args.device.now) c.if-sectors-lt2.true

pub returns-in-Some : goal.returns-in-Some
returns-in-Some c =
    label_refused (length c.args.device.now / 512) c.args.device.now c.sector-label.result c.in-Some.fault c.sector-label.ensures c.in-Some.ensures.some

pub sector-header-requires : goal.sector-header-requires
sector-header-requires c =
    let same : places c.frame_of-frame.result ≡ frame_by c.sector-label.result = c.frame_of-frame.ensures.exact ∙ ap₂ frame_of c.number-version.ensures c.number.ensures in
    subst (λ (f : Frame). 512 * f.header + 512 ≤ length c.args.device.now) (sym same) (header_within c.args.device.now c.sector-label.result c.in_default.ensures.none)

pub returns-in_default-text_of : goal.returns-in_default-text_of
returns-in_default-text_of c =
    let device = c.args.device.now in
    let header = c.sector-header.result in
    let same : places c.frame_of-frame.result ≡ frame_by c.sector-label.result = c.frame_of-frame.ensures.exact ∙ ap₂ frame_of c.number-version.ensures c.number.ensures in
    header_refused device c.sector-label.result header c.sector-label.ensures (c.sector-header.ensures ∙ ap (λ (f : Frame). sector device f.header) same) c.in_default.ensures.none
    (subst (λ (f : Frame). (is_header_right f header ≡ false) ⊎ (length device < 512 * slot_place f (number_at 8 header) + slot_bytes f)) same c.in_default-text_of.ensures.none)

pub returns : goal.returns
returns c =
    let device = c.args.device.now in
    let label = c.sector-label.result in
    let header = c.sector-header.result in
    let text = c.in-Some-text_of.text.now in
    let same : places c.frame_of-frame.result ≡ frame_by label = c.frame_of-frame.ensures.exact ∙ ap₂ frame_of c.number-version.ensures c.number.ensures in
    let grammar : c.grammar_of-grammar.result ≡ grammar_of (number_at 8 label) = c.grammar_of-grammar.ensures ∙ ap grammar_of c.number-version.ensures in
    judged device label header text c.sector-label.ensures (c.sector-header.ensures ∙ ap (λ (f : Frame). sector device f.header) same) c.in_default.ensures.none
    (subst (λ (f : Frame). is_header_right f header ≡ true) same c.in-Some-text_of.ensures.right)
    (c.in-Some-text_of.ensures.text ∙ ap (λ (f : Frame). slot_text f (sector device) (number_at 8 header) (number_at 12 header)) same) c.text_fault.result
    (subst (λ (g : Grammar). IfOk c.text_fault.result (IsTextFault g (number_at 40 label) (number_at 16 header) text)) grammar
    (subst (λ (count : ℕ). IfOk c.text_fault.result (IsTextFault c.grammar_of-grammar.result count (number_at 16 header) text)) c.number-3.ensures
    (subst (λ (total : ℕ). IfOk c.text_fault.result (IsTextFault c.grammar_of-grammar.result c.number-3.result total text)) c.number-2.ensures c.text_fault.ensures)))
