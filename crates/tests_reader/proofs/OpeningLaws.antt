-- What the reader of a device answers is what the first five checks of an opening answer.
use Rattle.std.proofs.Common.{◌≡◌, ◌≢◌, ◌⊎◌, inl, inr, ℕ, ◌+◌, ◌-◌, ◌*◌, ◌/◌, ◌<◌, ◌≤◌, Bool, true, false, cond, List, length, take, drop, sum, Option, Some, None, Result, Ok, Err, refl, sym, ap, ap₂, subst, ◌∙◌, arith}
use Rattle.std.specs.Prelude.{IfOk}
use Rattle.std.proofs.lemmas.Bool.{lt-ltb}
use Rattle.std.proofs.lemmas.List.{length-drop, take_all}
use Rattle.sm_base.specs.declared.faults.OpenFault.{OpenFault}
use Rattle.sm_base.specs.declared.faults.OpenFault.TheVariants.{Damaged, NotARepository}
use Rattle.sm_base.specs.declared.faults.Place.TheVariants.{Header, TableSum}
use Rattle.sm_base.specs.Numbers.{div_up}
use Rattle.sm_disk.specs.Sectors.{sector}
use Rattle.sm_disk.proofs.SectorLaws.{sector-drop}
use Rattle.tests_reader.specs.Answers.{IsTextFault, IsFault}
use Rattle.vg_layout.specs.Opening.{IsRefused, by_label, by_header, by_sum, by_text, frame_in, grammar_of, is_header_right, plate_of, pointer_by, pointer_of, text_in, version_of}
use Rattle.vg_layout.specs.Places.{Frame, IsApart, area_place, frame_of, slot_bytes, slot_place, slot_text}
use Rattle.vg_layout.specs.Sectors.{Plate, Pointer, number_at, plate_in, pointer_in}
use Rattle.vg_layout.proofs.FrameLaws.{frame_apart, sectors_most, slot_front}
use Rattle.vg_layout.proofs.StandingLaws.{plate_area, pointer_right_by}
use Rattle.vg_layout.proofs.ImageLaws.{plate_same, pointer_seen, slot_written, stands_from}
use Rattle.vg_meta.specs.Reading.{IsDamagedBy}
use Rattle.vg_meta.specs.declared.grammars.Grammar.{Grammar}
use Rattle.tests_reader.specs.Answers.{IsTextRefused, by_sum as text_by_sum, by_text as text_by_text}

-- ---- the text that a header names

-- bytes that reach to the end of a slot have the text that stands in it
pub text_there : (f : Frame) (device header : List ℕ) (begin : ℕ) → begin ≡ 512 * slot_place f (number_at 8 header) → begin + slot_bytes f ≤ length device
    → number_at 12 header ≤ slot_bytes f
    → take (begin + number_at 12 header - begin) (drop begin device) ≡ slot_text f (sector device) (number_at 8 header) (number_at 12 header)
text_there f device header begin is long few =
    let slot = number_at 8 header in
    let size = number_at 12 header in
    let place = slot_place f slot in
    let count : begin + size - begin ≡ size = omega arith in
    let most = sectors_most f size few in
    let room : 512 * div_up size 512 ≤ length (drop (512 * place) device) = omega (arith, length-drop (512 * place) device, is, most, long) in
    ap₂ (λ (n m : ℕ). take n (drop m device)) count is
    ∙ sym (slot_written f (sector device) slot size (drop (512 * place) device) room (λ i below. sym (sector-drop device place i)))

-- ---- the label

pub too_small : (sectors : ℕ) (image : ℕ → List ℕ) → sectors < 2 → IsRefused sectors image NotARepository
unfolding plate_of
too_small sectors image small = by_label NotARepository (rw (lt-ltb sectors 2 small) refl)

pub plate_seen : (sectors : ℕ) (device label : List ℕ) → label ≡ sector device 0 → plate_of sectors (λ (p : ℕ). label) ≡ plate_of sectors (sector device)
plate_seen sectors device label is = plate_same sectors (sector device) (λ (p : ℕ). label) is

pub label_refused : (sectors : ℕ) (device label : List ℕ) (fault : OpenFault) → label ≡ sector device 0 → plate_of sectors (λ (p : ℕ). label) ≡ Err fault
    → IsRefused sectors (sector device) fault
label_refused sectors device label fault is e = by_label fault (sym (plate_seen sectors device label is) ∙ e)

-- the label says the frame
abbrev pub frame_by : List ℕ → Frame
frame_by label = frame_of (number_at 8 label) (number_at 44 label)

frame_there : (device label : List ℕ) → label ≡ sector device 0 → frame_in (sector device) ≡ frame_by label
unfolding plate_in
frame_there device label is = ap frame_by (sym is)

-- ---- the header

-- a device with a right label reaches past the header and the slots
apart_there : (label : List ℕ) → IsApart (frame_by label) (area_place (plate_in label).layout)
unfolding plate_in
apart_there label = frame_apart (number_at 8 label) (number_at 44 label)

pub header_within : (device label : List ℕ) → plate_of (length device / 512) (λ (p : ℕ). label) ≡ Ok (plate_in label) → 512 * (frame_by label).header + 512 ≤ length device
header_within device label e =
    omega (arith, plate_area (length device / 512) (λ (p : ℕ). label) (plate_in label) e, (apart_there label).front.0)

slot_within : (device label : List ℕ) (slot : ℕ) → plate_of (length device / 512) (λ (p : ℕ). label) ≡ Ok (plate_in label) → slot ≤ 1
    → 512 * slot_place (frame_by label) slot + slot_bytes (frame_by label) ≤ length device
slot_within device label slot e low =
    omega (arith, plate_area (length device / 512) (λ (p : ℕ). label) (plate_in label) e, slot_front slot low (apart_there label))

pointer_there : (device label header : List ℕ) (b : Bool) → label ≡ sector device 0 → header ≡ sector device (frame_by label).header
    → is_header_right (frame_by label) header ≡ b → pointer_of (sector device) ≡ cond b (Ok (pointer_in header)) (Err (Damaged Header))
unfolding pointer_by
pointer_there device label header b is at right =
    let f = frame_by label in
    pointer_seen (sector device) f (frame_there device label is) ∙ ap (pointer_by f) (sym at)
    ∙ ap (λ (c : Bool). cond c (Ok (pointer_in header)) (Err (Damaged Header))) right

slot_right : (f : Frame) (header : List ℕ) → is_header_right f header ≡ true → number_at 8 header ≤ 1
unfolding pointer_by pointer_in
slot_right f header right =
    (pointer_right_by f header (pointer_in header) (ap (λ (c : Bool). cond c (Ok (pointer_in header)) (Err (Damaged Header))) right)).slot

-- the header is refused
pub header_refused : (device label header : List ℕ) → label ≡ sector device 0 → header ≡ sector device (frame_by label).header
    → plate_of (length device / 512) (λ (p : ℕ). label) ≡ Ok (plate_in label)
    → (is_header_right (frame_by label) header ≡ false) ⊎ (length device < 512 * slot_place (frame_by label) (number_at 8 header) + slot_bytes (frame_by label))
    → IsRefused (length device / 512) (sector device) (Damaged Header)
header_refused device label header is at e answer = by (is_header_right (frame_by label) header) refl answer
  where
    wrong : is_header_right (frame_by label) header ≡ false → IsRefused (length device / 512) (sector device) (Damaged Header)
    wrong not_right = by_header (plate_in label) (Damaged Header) (sym (plate_seen (length device / 512) device label is) ∙ e) (pointer_there device label header false is at not_right)

    by : (b : Bool) → is_header_right (frame_by label) header ≡ b
        → (is_header_right (frame_by label) header ≡ false) ⊎ (length device < 512 * slot_place (frame_by label) (number_at 8 header) + slot_bytes (frame_by label))
        → IsRefused (length device / 512) (sector device) (Damaged Header)
    by false not_right a = wrong not_right
    by true right (inl not_right) = wrong not_right
    by true right (inr short) = absurd (omega (arith, slot_within device label (number_at 8 header) e (slot_right (frame_by label) header right), short))

-- ---- the text

pub wrong_sum : (g : Grammar) (count total seen : ℕ) (bytes : List ℕ) → seen ≡ sum (take (length bytes - 0) (drop 0 bytes)) → seen ≢ total → IsTextRefused g count total bytes (Damaged TableSum)
wrong_sum g count total seen bytes is other = text_by_sum (λ e. other (is ∙ ap sum (take_all (length bytes - 0) bytes (omega arith)) ∙ e))

pub right_sum : (total seen : ℕ) (bytes : List ℕ) → seen ≡ sum (take (length bytes - 0) (drop 0 bytes)) → seen ≡ total → sum bytes ≡ total
right_sum total seen bytes is same = ap sum (sym (take_all (length bytes - 0) bytes (omega arith))) ∙ sym is ∙ same

-- the fifth check is the last
text_judged : (sectors : ℕ) (image : ℕ → List ℕ) (p : Plate) (h : Pointer) (bytes : List ℕ) → plate_of sectors image ≡ Ok p → pointer_of image ≡ Ok h → bytes ≡ text_in image h
    → (answer : Option OpenFault) → IsTextFault (grammar_of (version_of image)) p.count h.total bytes answer → IsFault sectors image answer
text_judged sectors image p h bytes plate pointer text None stands = record {
  group = record { plate = p; pointer = h; table = stands.1.table };
  stands = stands_from sectors image p h stands.1.table bytes plate pointer (sym text) stands.0 stands.1.spells;
}
text_judged sectors image p h bytes plate pointer text (Some _) (text_by_sum other) = by_sum p h plate pointer (λ e. other (ap sum text ∙ e))
text_judged sectors image p h bytes plate pointer text (Some _) (text_by_text place same damaged) =
    by_text p h place plate pointer (ap sum (sym text) ∙ same)
    (subst (λ (b : List ℕ). IsDamagedBy (grammar_of (version_of image)) p.count b place) text damaged)

ok_from : {X E : Type 0} (P Q : X → Type 0) → ((x : X) → P x → Q x) → (r : Result X E) → IfOk r P → IfOk r Q
ok_from P Q f (Ok x) is = f x is
ok_from P Q f (Err e) is = tt

pub judged : {E : Type 0} (device label header bytes : List ℕ) → label ≡ sector device 0 → header ≡ sector device (frame_by label).header
    → plate_of (length device / 512) (λ (p : ℕ). label) ≡ Ok (plate_in label) → is_header_right (frame_by label) header ≡ true
    → bytes ≡ slot_text (frame_by label) (sector device) (number_at 8 header) (number_at 12 header)
    → (r : Result (Option OpenFault) E) → IfOk r (IsTextFault (grammar_of (number_at 8 label)) (number_at 40 label) (number_at 16 header) bytes) → IfOk r (IsFault (length device / 512) (sector device))
unfolding plate_in pointer_in
judged device label header bytes is at e right text r answer =
    let version : number_at 8 label ≡ version_of (sector device) = ap (number_at 8) is in
    ok_from (IsTextFault (grammar_of (version_of (sector device))) (number_at 40 label) (number_at 16 header) bytes) (IsFault (length device / 512) (sector device))
    (text_judged (length device / 512) (sector device) (plate_in label) (pointer_in header) bytes (sym (plate_seen (length device / 512) device label is) ∙ e)
    (pointer_there device label header true is at right)
    (text ∙ ap (λ (f : Frame). slot_text f (sector device) (number_at 8 header) (number_at 12 header)) (sym (frame_there device label is)))) r
    (subst (λ (v : ℕ). IfOk r (IsTextFault (grammar_of v) (number_at 40 label) (number_at 16 header) bytes)) version answer)
