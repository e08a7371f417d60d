-- What an image shows in front of the extents depends on those sectors alone.
use Rattle.std.proofs.Common.{◌≡◌, ℕ, zero, suc, ◌+◌, ◌-◌, ◌*◌, ◌<◌, ◌≤◌, List, ◌++◌, length, take, drop, sum, Ok, refl, sym, ap, ap₂, subst, ◌∙◌, arith}
use Rattle.std.proofs.Math.Seq.{take-add}
use Rattle.std.proofs.lemmas.List.{take-take, length-drop}
use Rattle.sm_disk.proofs.SectorLaws.{sector-drop}
use Rattle.sm_base.specs.Numbers.{div_up}
use Rattle.sm_disk.specs.Sectors.{sector}
use Rattle.vg_meta.specs.Tables.{VolumeTable}
use Rattle.vg_meta.specs.Reading.{SpellsBy}
use Rattle.vg_layout.specs.Places.{Frame, IsApart, frame_of, label_place, slot_place, run_of, slot_text}
use Rattle.vg_layout.specs.Sectors.{Plate, Pointer, plate_in, version_in}
use Rattle.vg_layout.specs.Opening.{StandsOn, frame_in, grammar_of, version_of, plate_of, pointer_by, pointer_of, text_in}
use Rattle.vg_layout.proofs.FrameLaws.{sectors_most, slot_front}
pub use Rattle.vg_layout.proofs.StandingLaws.{IsRightPointer, pointer_right, plate_apart, plate_few, plate_area, pointer_once, stands_once}

pub plate_same : (size : ℕ) (f m : ℕ → List ℕ) → m label_place ≡ f label_place → plate_of size m ≡ plate_of size f
unfolding plate_of
plate_same size f m e = ap (λ s. plate_of size (λ q. s)) e

-- the label says the frame and the grammar
pub frame_same : (f m : ℕ → List ℕ) → m label_place ≡ f label_place → frame_in m ≡ frame_in f
frame_same f m e = ap (λ (s : List ℕ). frame_of (version_in s) (plate_in s).layout) e

pub spells_same : (f m : ℕ → List ℕ) (count : ℕ) (bytes : List ℕ) (t : VolumeTable) → m label_place ≡ f label_place
    → SpellsBy (grammar_of (version_of f)) count bytes t → SpellsBy (grammar_of (version_of m)) count bytes t
spells_same f m count bytes t e = subst (λ (s : List ℕ). SpellsBy (grammar_of (version_in s)) count bytes t) (sym e)

pub pointer_seen : (m : ℕ → List ℕ) (f : Frame) → frame_in m ≡ f → pointer_of m ≡ pointer_by f (m f.header)
unfolding pointer_of
pointer_seen m f e = ap (λ (g : Frame). pointer_by g (m g.header)) e

pub pointer_same : (f m : ℕ → List ℕ) → m label_place ≡ f label_place → m (frame_in f).header ≡ f (frame_in f).header → pointer_of m ≡ pointer_of f
unfolding pointer_of
pointer_same f m label header = pointer_seen m (frame_in f) (frame_same f m label) ∙ ap (pointer_by (frame_in f)) header

pub run_same : (f m : ℕ → List ℕ) (at n : ℕ) → ((q : ℕ) → at ≤ q → q < at + n → m q ≡ f q) → run_of m at n ≡ run_of f at n
unfolding run_of
run_same f m at zero same = refl
run_same f m at (suc n) same =
    ap₂ (λ (x y : List ℕ). x ++ y) (same at (omega arith) (omega arith)) (run_same f m (at + 1) n (λ q a b. same q (omega arith) (omega arith)))

pub slot_same : (f : Frame) (k m : ℕ → List ℕ) (slot size : ℕ) → ((q : ℕ) → slot_place f slot ≤ q → q < slot_place f slot + div_up size 512 → m q ≡ k q)
    → slot_text f m slot size ≡ slot_text f k slot size
unfolding slot_text
slot_same f k m slot size same = ap (take size) (run_same k m (slot_place f slot) (div_up size 512) same)

pub text_same : (f m : ℕ → List ℕ) (h : Pointer) → m label_place ≡ f label_place
    → ((q : ℕ) → slot_place (frame_in f) h.slot ≤ q → q < slot_place (frame_in f) h.slot + div_up h.size 512 → m q ≡ f q) → text_in m h ≡ text_in f h
text_same f m h label same = ap (λ (g : Frame). slot_text g m h.slot h.size) (frame_same f m label) ∙ slot_same (frame_in f) f m h.slot h.size same

pub stands_from : (size : ℕ) (m : ℕ → List ℕ) (p : Plate) (h : Pointer) (t : VolumeTable) (bytes : List ℕ)
    → plate_of size m ≡ Ok p → pointer_of m ≡ Ok h → text_in m h ≡ bytes → sum bytes ≡ h.total → SpellsBy (grammar_of (version_of m)) p.count bytes t
    → StandsOn size m (record { plate = p; pointer = h; table = t })
stands_from size m p h t bytes labelled headed is total spells = record {
  labelled = labelled;
  headed = headed;
  summed = ap sum is ∙ total;
  spelled = let P : List ℕ → Type 0 = λ b. SpellsBy (grammar_of (version_of m)) p.count b t in subst P (sym is) spells;
}

pub sectors_hold : (size : ℕ) → size ≤ 512 * div_up size 512
unfolding div_up
sectors_hold size = omega arith

-- the run of sectors that some bytes were written to begins with these bytes
pub run_written : (m : ℕ → List ℕ) (at n : ℕ) (bytes : List ℕ) → 512 * n ≤ length bytes
    → ((i : ℕ) → i < n → m (at + i) ≡ sector bytes i) → run_of m at n ≡ take (512 * n) bytes
unfolding run_of sector
run_written m at zero bytes long same = refl
run_written m at (suc n) bytes long same =
    let here : at ≡ at + 0 = omega arith in
    let first : m at ≡ take 512 bytes = ap m here ∙ same 0 (omega arith) in
    let left : 512 * n ≤ length (drop (512 * 1) bytes) = omega (arith, length-drop (512 * 1) bytes) in
    let moved = λ (i : ℕ) (below : i < n). let on : (at + 1) + i ≡ at + (1 + i) = omega arith in ap m on ∙ same (1 + i) (omega arith) ∙ sym (sector-drop bytes 1 i) in
    let rest : run_of m (at + 1) n ≡ take (512 * n) (drop 512 bytes) = run_written m (at + 1) n (drop (512 * 1) bytes) left moved in
    let whole : 512 + 512 * n ≡ 512 * suc n = omega arith in
    ap₂ (λ (x y : List ℕ). x ++ y) first rest ∙ sym (take-add 512 (512 * n) bytes) ∙ ap (λ k. take k bytes) whole

-- and the text is their first ones
pub slot_written : (f : Frame) (m : ℕ → List ℕ) (slot size : ℕ) (bytes : List ℕ) → 512 * div_up size 512 ≤ length bytes
    → ((i : ℕ) → i < div_up size 512 → m (slot_place f slot + i) ≡ sector bytes i) → slot_text f m slot size ≡ take size bytes
unfolding slot_text
slot_written f m slot size bytes long same =
    ap (take size) (run_written m (slot_place f slot) (div_up size 512) bytes long same) ∙ take-take size (512 * div_up size 512) bytes (sectors_hold size)

pub text_written : (m : ℕ → List ℕ) (h : Pointer) (bytes : List ℕ) → 512 * div_up h.size 512 ≤ length bytes
    → ((i : ℕ) → i < div_up h.size 512 → m (slot_place (frame_in m) h.slot + i) ≡ sector bytes i) → text_in m h ≡ take h.size bytes
text_written m h bytes long same = slot_written (frame_in m) m h.slot h.size bytes long same

-- label, header and the text that the header names stand in front of the extents
pub pointer_front : (from : ℕ) (f m : ℕ → List ℕ) → IsApart (frame_in f) from → ((q : ℕ) → q < from → m q ≡ f q) → pointer_of m ≡ pointer_of f
pointer_front from f m apart same = pointer_same f m (same label_place (omega (arith, apart.front.0))) (same (frame_in f).header apart.front.0)

pub text_front : (from : ℕ) (f m : ℕ → List ℕ) (h : Pointer) → IsApart (frame_in f) from → pointer_of f ≡ Ok h → ((q : ℕ) → q < from → m q ≡ f q) → text_in m h ≡ text_in f h
text_front from f m h apart headed same =
    let right = pointer_right f h headed in
    let few = sectors_most (frame_in f) h.size right.size in
    let front = slot_front h.slot right.slot apart in
    text_same f m h (same label_place (omega (arith, apart.front.0))) (λ q at below. same q (omega (arith, below, few, front)))
