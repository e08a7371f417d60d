-- What an opening answers of one sector that it read.
use Rattle.std.proofs.Common.{◌≡◌, ℕ, ◌+◌, ◌-◌, ◌*◌, ◌<◌, ◌≤◌, ◌⊎◌, inl, inr, Bool, true, false, cond, not, eqb, ltb, List, ◌++◌, length, take, sum, Result, Ok, Err, refl, sym, ap, subst, ◌∙◌, arith}
use Rattle.std.proofs.lemmas.List.{take-append-le}
use Rattle.std.proofs.lemmas.Bool.{lt-ltb}
use Rattle.std.specs.Str.{bytes_eq}
use Rattle.sm_base.specs.declared.faults.OpenFault.{OpenFault}
use Rattle.sm_base.specs.declared.faults.OpenFault.TheVariants.{NotARepository, Unsupported, Damaged, Device, NoMemory}
use Rattle.sm_base.specs.declared.faults.Place.TheVariants.{Header, Label, Table}
use Rattle.sm_base.specs.Numbers.{div_up}
use Rattle.sm_disk.specs.Held.{Held, Gave, SameHeld, reads}
use Rattle.sm_disk.proofs.HeldLaws.{SameHeld-then, reads-same}
use Rattle.sm_disk.specs.Sectors.{sector}
use Rattle.vg_meta.specs.declared.grammars.Grammar.{Grammar}
use Rattle.vg_meta.specs.Tables.{VolumeTable}
use Rattle.vg_meta.specs.Text.{text_by}
use Rattle.vg_meta.specs.Reading.{SpellsBy, IsDamagedBy, no_sequence, no_number, no_volume, bytes_follow, told}
use Rattle.vg_layout.specs.Places.{Frame, IsApart, area_place, extents_on, frame_of, old_frame, narrow_frame, wide_frame, label_place, slot_bytes, slot_place, slot_text}
use Rattle.vg_layout.specs.Sectors.{Plate, Pointer, label_cookie, plate_in, pointer_in, version_in}
use Rattle.vg_layout.specs.Opening.{IsRefused, by_header, by_sum, by_text, frame_in, grammar_of, version_of, plate_of, pointer_by, pointer_of, is_version, is_label_right, is_header_right, text_in}
use Rattle.vg_volumes.specs.Commits.{current_version}
use Rattle.vg_store.specs.Openings.{HasLabel, HasTextOf, IsAnswer, IsFoundOn, IsKnown, IsTextAnswer, IsTextRefused, ShowsLabel, by_sum as sum_wrong, by_text as text_wrong}
use Rattle.vg_store.proofs.ImageLaws.{apart_within, frame_apart, frame_room, plate_area, plate_frame, plate_right, plate_same, plate_version, pointer_seen, slot_same, slot_written, sectors_hold, stands_from}

pub too_small : (size : ℕ) (m : ℕ → List ℕ) → size < 2 → plate_of size m ≡ Err NotARepository
unfolding plate_of
too_small size m h = rw (lt-ltb size 2 h) refl

-- a label is never answered with a fault of the device
no_device : (size : ℕ) (m : ℕ → List ℕ) → plate_of size m ≡ Err Device → ⊥
unfolding plate_of
no_device size m e = go (ltb size 2) (not (bytes_eq (take 8 (m label_place)) label_cookie)) (not (is_version (version_of m))) (is_label_right size (m label_place)) e
  where
    go : (a b c d : Bool)
        → cond a (Err NotARepository) (cond b (Err NotARepository) (cond c (Err (Unsupported (version_of m))) (cond d (Ok (plate_in (m label_place))) (Err (Damaged Label))))) ≡ Err Device → ⊥
    go true b c d x = cc
    go false true c d x = cc
    go false false true d x = cc
    go false false false false x = cc
    go false false false true x = cc

pub label_answer : (T : Type 0) (before now size : ℕ) (s : List ℕ) (m : ℕ → List ℕ) (e : OpenFault) → (T → s ≡ m label_place)
    → now ≡ before → plate_of size (λ q. s) ≡ Err e → IsAnswer (λ x. T → plate_of size m ≡ Err x) before now e
label_answer T before now size s m NotARepository is calm h = (λ told. plate_same size (λ q. s) m (sym (is told)) ∙ h, calm)
label_answer T before now size s m (Unsupported version) is calm h = (λ told. plate_same size (λ q. s) m (sym (is told)) ∙ h, calm)
label_answer T before now size s m (Damaged place) is calm h = (λ told. plate_same size (λ q. s) m (sym (is told)) ∙ h, calm)
label_answer T before now size s m Device is calm h = absurd (no_device size (λ q. s) h)
label_answer T before now size s m NoMemory is calm h = calm

no_header_device : (f : Frame) (s : List ℕ) → pointer_by f s ≡ Err Device → ⊥
unfolding pointer_by
no_header_device f s e = go (is_header_right f s) e
  where
    go : (a : Bool) → cond a (Ok (pointer_in s)) (Err (Damaged Header)) ≡ Err Device → ⊥
    go true x = cc
    go false x = cc

pub header_answer : (T : Type 0) (before now : ℕ) (f : Frame) (s v : List ℕ) (e : OpenFault) → (T → s ≡ v)
    → now ≡ before → pointer_by f s ≡ Err e → IsAnswer (λ x. T → pointer_by f v ≡ Err x) before now e
header_answer T before now f s v NotARepository is calm h = (λ told. ap (pointer_by f) (sym (is told)) ∙ h, calm)
header_answer T before now f s v (Unsupported version) is calm h = (λ told. ap (pointer_by f) (sym (is told)) ∙ h, calm)
header_answer T before now f s v (Damaged place) is calm h = (λ told. ap (pointer_by f) (sym (is told)) ∙ h, calm)
header_answer T before now f s v Device is calm h = absurd (no_header_device f s h)
header_answer T before now f s v NoMemory is calm h = calm

-- ---- the label

-- a label that is right is one that an opening takes
pub label_taken : (size version : ℕ) (s : List ℕ) (p : Plate) → version ≡ version_in s → plate_of size (λ q. s) ≡ Ok p → HasLabel size version p
unfolding extents_on
label_taken size version s p is label =
    let right = plate_right size (λ q. s) p label in
    let low = right.layout in
    let most = right.most in
    record {
      known = record { some = omega (arith, is, low); most = at_most (plate_version size (λ q. s) p label); narrow = omega (arith, is, low) };
      few = omega (arith, most);
      area = plate_area size (λ q. s) p label;
    }
  where
    at_most : (version_in s ≡ 1) ⊎ (version_in s ≡ 2) → version ≤ 2
    at_most (inl one) = omega (arith, is, one)
    at_most (inr two) = omega (arith, is, two)

pub label_shown : (size version : ℕ) (s : List ℕ) (m : ℕ → List ℕ) (p : Plate) → version ≡ version_in s → s ≡ m label_place → plate_of size (λ q. s) ≡ Ok p → ShowsLabel size m version p
label_shown size version s m p is there label = record {
  says = ap version_in (sym there) ∙ sym is;
  labelled = plate_same size (λ q. s) m (sym there) ∙ label;
}

-- the frame by which an image is read that shows a label
pub frame_shown : {size version : ℕ} {m : ℕ → List ℕ} {p : Plate} → ShowsLabel size m version p → frame_in m ≡ frame_of version p.layout
frame_shown {size} {version} {m} {p} l = plate_frame size m p l.labelled ∙ ap (λ (v : ℕ). frame_of v p.layout) l.says

-- no version has larger slots in a layout than the current one
pub slot_within : (version layout : ℕ) → slot_bytes (frame_of version layout) ≤ slot_bytes (frame_of current_version layout)
unfolding frame_of
slot_within version layout = by (eqb version 1) (eqb layout 0)
  where
    by : (old narrow : Bool) → slot_bytes (cond old old_frame (cond narrow narrow_frame wide_frame)) ≤ slot_bytes (cond narrow narrow_frame wide_frame)
    by true true = omega arith
    by true false = omega arith
    by false true = omega arith
    by false false = omega arith

-- the frame by which a group is read has its parts apart on the device, and its texts have room in a buffer of the layout
pub apart_on : {size now version : ℕ} {p : Plate} (f : Frame) → f ≡ frame_of version p.layout → HasLabel size version p → now ≡ size → IsApart f now
apart_on {size} {now} {version} {p} f is label same =
    let fits = label.area in
    apart_within (subst (λ (k : Frame). IsApart k (area_place p.layout)) (sym is) (frame_apart version p.layout)) (omega (arith, fits, same))

pub slot_most : (version layout : ℕ) (f : Frame) → f ≡ frame_of version layout → slot_bytes f ≤ 8519680
slot_most version layout f is = subst (λ (k : Frame). slot_bytes k ≤ 8519680) (sym is) (frame_room version layout)

pub room_for : (version layout bytes : ℕ) (f : Frame) → f ≡ frame_of version layout → bytes ≡ slot_bytes (frame_of current_version layout) → slot_bytes f ≤ bytes
room_for version layout bytes f is room = subst (λ (k : Frame). slot_bytes k ≤ bytes) (sym is) (omega (arith, room, slot_within version layout))

-- ---- the text

pub none_text : (f : Frame) (m : ℕ → List ℕ) (slot size : ℕ) (bytes : List ℕ) → size ≡ 0 → take size bytes ≡ slot_text f m slot size
unfolding slot_text
none_text f m slot size bytes e = rw e refl

pub text_read : (f : Frame) (slot size : ℕ) (held : Held) (front back : List ℕ) (at : ℕ) → at ≡ slot_place f slot → length front ≡ 512 * div_up size 512
    → Gave at held front → take size (front ++ back) ≡ slot_text f (reads held) slot size
text_read f slot size held front back at is long gave =
    let holds = sectors_hold size in
    let short : size ≤ length front = omega (arith, long, holds) in
    take-append-le size front back short ∙ sym (slot_written f (reads held) slot size front (omega (arith, long)) same)
  where
    same : (i : ℕ) → i < div_up size 512 → reads held (slot_place f slot + i) ≡ sector front i
    same i below =
        let there : slot_place f slot + i ≡ at + i = ap (λ x. x + i) (sym is) in
        let back_to : (at + i) - at ≡ i = omega arith in
        ap (reads held) there ∙ sym (gave (at + i) (omega arith, omega (arith, long, below))) ∙ ap (λ k. sector front k) back_to

damaged_most : (g : Grammar) (count : ℕ) (bytes : List ℕ) (place : ℕ) → IsDamagedBy g count bytes place → place ≤ 8 + length bytes
damaged_most g count bytes _ (no_sequence none) = omega arith
damaged_most g count bytes _ (no_number sequence rest fits spelled short) = omega arith
damaged_most g count bytes _ (no_volume sequence number front rest begins fewer none) = omega arith
damaged_most g count bytes _ (bytes_follow sequence number front rest begins all more) = omega arith

pub damaged_told : (g : Grammar) (count total : ℕ) (bytes text : List ℕ) (at : ℕ) → bytes ≡ text → sum text ≡ total → length bytes ≤ 8519680
    → (place : ℕ) × IsDamagedBy g count bytes place × (at ≡ told place) → IsTextRefused g count total text (Damaged (Table at))
damaged_told g count total bytes text at same right short (place, damaged, is) =
    let most = damaged_most g count bytes place damaged in
    let place_is : place ≡ at = omega (arith, is, most, short) in
    let P : ℕ → Type 0 = λ x. IsTextRefused g count total text (Damaged (Table x)) in
    let Q : List ℕ → Type 0 = λ b. IsDamagedBy g count b place in
    subst P place_is (text_wrong place right (subst Q same damaged))

-- ---- the first check that fails

pub answer_from : (P Q : OpenFault → Type 0) (before mid now : ℕ) (e : OpenFault) → mid ≡ before → ((x : OpenFault) → P x → Q x)
    → IsAnswer P mid now e → IsAnswer Q before now e
answer_from P Q before mid now NotARepository same wider is = (wider NotARepository is.0, is.1 ∙ same)
answer_from P Q before mid now (Unsupported version) same wider is = (wider (Unsupported version) is.0, is.1 ∙ same)
answer_from P Q before mid now (Damaged place) same wider is = (wider (Damaged place) is.0, is.1 ∙ same)
answer_from P Q before mid now Device same wider is = omega (arith, same, is)
answer_from P Q before mid now NoMemory same wider is = is ∙ same

-- the device shows the pointer that was read behind the label
pub pointer_there : {size version : ℕ} (a b : Held) (p : Plate) (f : Frame) (r : Result Pointer OpenFault) → SameHeld a b → ShowsLabel size (reads a) version p → f ≡ frame_of version p.layout
    → pointer_by f (reads b f.header) ≡ r → pointer_of (reads a) ≡ r
pointer_there a b p f r same label is header =
    pointer_seen (reads a) f (frame_shown label ∙ sym is) ∙ ap (pointer_by f) (sym (reads-same same f.header)) ∙ header

-- and the text that was read behind the header
text_there : {size version : ℕ} (a c : Held) (p : Plate) (f : Frame) (h : Pointer) → SameHeld a c → ShowsLabel size (reads a) version p → f ≡ frame_of version p.layout
    → text_in (reads a) h ≡ slot_text f (reads c) h.slot h.size
text_there a c p f h same label is =
    ap (λ (k : Frame). slot_text k (reads a) h.slot h.size) (frame_shown label ∙ sym is) ∙ sym (slot_same f (reads a) (reads c) h.slot h.size (λ q from below. reads-same same q))

pub refused_header : {size version : ℕ} (a b : Held) (p : Plate) (f : Frame) (e : OpenFault) → SameHeld a b → ShowsLabel size (reads a) version p → f ≡ frame_of version p.layout
    → pointer_by f (reads b f.header) ≡ Err e → IsRefused size (reads a) e
refused_header a b p f e same label is header = by_header p e label.labelled (pointer_there a b p f (Err e) same label is header)

text_refused : (size : ℕ) (m : ℕ → List ℕ) (p : Plate) (h : Pointer) (e : OpenFault) → plate_of size m ≡ Ok p → pointer_of m ≡ Ok h
    → IsTextRefused (grammar_of (version_of m)) p.count h.total (text_in m h) e → IsRefused size m e
text_refused size m p h _ label header (sum_wrong other) = by_sum p h label header other
text_refused size m p h _ label header (text_wrong place right damaged) = by_text p h place label header right damaged

pub refused_text : {size version : ℕ} (a b c : Held) (p : Plate) (f : Frame) (g : Grammar) (h : Pointer) (e : OpenFault) → SameHeld a b → SameHeld b c → ShowsLabel size (reads a) version p
    → f ≡ frame_of version p.layout → g ≡ grammar_of version → pointer_by f (reads b f.header) ≡ Ok h → IsTextAnswer g f p.count h c e → IsRefused size (reads a) e
refused_text {size} {version} a b c p f g h e same again label is spelling header wrong =
    let texts = text_there a c p f h (SameHeld-then same again) label is in
    let grammar : grammar_of (version_of (reads a)) ≡ g = ap grammar_of label.says ∙ sym spelling in
    text_refused size (reads a) p h e label.labelled (pointer_there a b p f (Ok h) same label is header)
    (subst (λ (k : Grammar). IsTextRefused k p.count h.total (text_in (reads a) h) e) (sym grammar)
    (subst (λ (b : List ℕ). IsTextRefused g p.count h.total b e) (sym texts) wrong))

-- ---- what was found

-- a text that spells a table is the one that a pointer names
pub text_named : (g : Grammar) (count : ℕ) (at : Pointer) (t : VolumeTable) (bytes : List ℕ) → SpellsBy g count bytes t → length bytes ≡ at.size → sum bytes ≡ at.total → HasTextOf g count at t
text_named g count at t bytes s long total = record {
  spelled = record { spelled = refl; table = s.table; fits = s.fits };
  size = ap length (sym s.spelled) ∙ long;
  total = ap sum (sym s.spelled) ∙ total;
}

pub known_from : {size version : ℕ} (p : Plate) (f : Frame) (g : Grammar) (at : Pointer) (t : VolumeTable) → HasLabel size version p → f ≡ frame_of version p.layout → g ≡ grammar_of version
    → at.size ≤ slot_bytes f → HasTextOf g p.count at t → IsKnown size version p at t
known_from p f g at t label is spelling short table = record {
  label = label;
  table = subst (λ (k : Grammar). HasTextOf k p.count at t) spelling table;
  short = subst (λ (k : Frame). at.size ≤ slot_bytes k) is short;
}

pub found_from : {size version : ℕ} (a b c : Held) (p : Plate) (f : Frame) (g : Grammar) (h : Pointer) (t : VolumeTable) → SameHeld a b → SameHeld b c → ShowsLabel size (reads a) version p
    → f ≡ frame_of version p.layout → g ≡ grammar_of version → pointer_by f (reads b f.header) ≡ Ok h → slot_text f (reads c) h.slot h.size ≡ text_by g t → HasTextOf g p.count h t
    → IsFoundOn size (reads a) version p h t
found_from {size} {version} a b c p f g h t same again label is spelling header text table = record {
  says = label.says;
  stands = stands_from size (reads a) p h t (text_by g t) label.labelled (pointer_there a b p f (Ok h) same label is header) (text_there a c p f h (SameHeld-then same again) label is ∙ text) table.total
      (subst (λ (k : Grammar). SpellsBy k p.count (text_by g t) t) (sym grammar) table.spelled);
}
  where
    grammar : grammar_of (version_of (reads a)) ≡ g
    grammar = ap grammar_of label.says ∙ sym spelling
