-- While a group of version 1 is taken over a stop leaves it by version 1 or by version 2, with the same table.
use Rattle.std.proofs.Common.{◌≡◌, ◌≢◌, ◌⊎◌, inl, inr, Bool, cond, ltb, ℕ, zero, suc, ◌+◌, ◌-◌, ◌*◌, ◌<◌, ◌≤◌, true, false, List, ◌++◌, length, take, drop, replicate, refl, sym, ap, subst, ◌∙◌, arith, length-append}
use Rattle.std.proofs.Math.Seq.{take-append-add, take-append_seam}
use Rattle.std.specs.Str.{bytes_eq}
use Rattle.std.proofs.lemmas.Bool.{cases_lt, le-ltb, lt-ltb, true≢false}
use Rattle.std.proofs.lemmas.Slice.Eq.{bytes_eq-Decides}
use Rattle.std.proofs.lemmas.List.{drop-replicate, length-replicate, take-replicate}
use Rattle.sm_base.specs.Numbers.{div_up}
use Rattle.sm_disk.specs.Held.{Held, Allows, May}
use Rattle.vg_meta.specs.Tables.{VolumeTable}
use Rattle.vg_meta.specs.Reading.{SpellsBy}
use Rattle.vg_meta.specs.Text.{text}
use Rattle.vg_layout.specs.Places.{Frame, frame_of, old_frame, narrow_frame, slot_bytes, slot_place, label_place}
use Rattle.vg_layout.specs.Sectors.{Plate, Pointer, label_sector, plate_in, version_in}
use Rattle.vg_layout.specs.Opening.{StandsOn, text_in, version_of, frame_in, grammar_of}
use Rattle.vg_layout.proofs.FrameLaws.{sectors_most}
use Rattle.vg_layout.proofs.ImageLaws.{plate_same, pointer_same, text_same, text_written, spells_same, stands_from, sectors_hold, IsRightPointer, pointer_right}
use Rattle.vg_layout.proofs.RoundTrips.{IsFields, HasSizes, plate_again, version_again, label_again, header_again, right_fields}
use Rattle.vg_layout.proofs.SectorLaws.{geometry_from}
use Rattle.vg_layout.proofs.StandingLaws.{IsRightPlate, plate_right}
use Rattle.vg_upgrade.specs.Upgrades.{IsLaidAt, IsTakenOver, new_bytes, new_pointer, new_sectors}

-- two sectors are the same or not
same_or : (a b : List ℕ) → (a ≡ b) ⊎ (a ≢ b)
same_or a b = go (bytes_eq a b) refl
  where
    go : (e : Bool) → bytes_eq a b ≡ e → (a ≡ b) ⊎ (a ≢ b)
    go true h = inl ((bytes_eq-Decides a b).0 h)
    go false h = inr (λ same. true≢false (sym ((bytes_eq-Decides a b).1 same) ∙ h))

-- the frame of an image by its label's version and layout
frame_old : (m : ℕ → List ℕ) → version_of m ≡ 1 → frame_in m ≡ old_frame
unfolding frame_of
frame_old m e = subst (λ (v : ℕ). frame_of v (plate_in (m label_place)).layout ≡ old_frame) (sym e) refl

frame_narrow : (m : ℕ → List ℕ) → version_of m ≡ 2 → (plate_in (m label_place)).layout ≡ 0 → frame_in m ≡ narrow_frame
unfolding frame_of
frame_narrow m e l = subst (λ (v : ℕ). frame_of v (plate_in (m label_place)).layout ≡ narrow_frame) (sym e) (subst (λ (k : ℕ). frame_of 2 k ≡ narrow_frame) (sym l) refl)

-- a text in a slot of version 1 stands behind the label and in front of sector 2,050
in_front : (slot q many : ℕ) → slot ≤ 1 → many ≤ 1024 → slot_place old_frame slot ≤ q → q < slot_place old_frame slot + many → (1 ≤ q) × (q < 2050)
in_front zero q many one few a b = (omega (arith, a), omega (arith, b, few))
in_front (suc zero) q many one few a b = (omega (arith, a), omega (arith, b, few))
in_front (suc (suc n)) q many one few a b = absurd (omega (arith, one))

-- version 1 reads no sector from 2,050 on
pub agrees_stands : {size : ℕ} {was : ℕ → List ℕ} {p : Plate} {at : Pointer} {t : VolumeTable} → StandsOn size was (record { plate = p; pointer = at; table = t }) → version_of was ≡ 1
    → (image : ℕ → List ℕ) → ((q : ℕ) → q < 2050 → image q ≡ was q) → StandsOn size image (record { plate = p; pointer = at; table = t })
agrees_stands {size} {was} {p} {at} {t} stands old image same =
    let label = same 0 (omega arith) in
    let own = frame_old was old in
    let right : IsRightPointer old_frame at = subst (λ (f : Frame). IsRightPointer f at) own (pointer_right was at stands.headed) in
    let place : (frame_in was).header ≡ 1 = ap (λ (f : Frame). f.header) own in
    let header : image (frame_in was).header ≡ was (frame_in was).header = same (frame_in was).header (omega (arith, place)) in
    let slots : slot_place (frame_in was) at.slot ≡ slot_place old_frame at.slot = ap (λ (f : Frame). slot_place f at.slot) own in
    let text = text_same was image at label (λ q a b. same q (in_front at.slot q (div_up at.size 512) right.slot (sectors_most old_frame at.size right.size) (omega (arith, a, slots)) (omega (arith, b, slots))).1) in
    stands_from size image p at t (text_in was at) (plate_same size was image label ∙ stands.labelled) (pointer_same was image label header ∙ stands.headed) text stands.summed
    (spells_same was image p.count (text_in was at) t label stands.spelled)

-- zeros up to the end of the last sector of a text
pub new_padded : (t : VolumeTable) (n : ℕ) → 512 * new_sectors t ≤ n → take (512 * new_sectors t) (text t ++ drop (length (text t)) (replicate n 0)) ≡ new_bytes t
new_padded t n enough =
    let long = length (text t) in
    let hold = sectors_hold long in
    let split : 512 * new_sectors t ≡ long + (512 * new_sectors t - long) = omega (arith, hold) in
    ap (λ (z : List ℕ). take (512 * new_sectors t) (text t ++ z)) (drop-replicate long n 0) ∙ ap (λ (k : ℕ). take k (text t ++ replicate (n - long) 0)) split
    ∙ take-append-add (text t) (replicate (n - long) 0) (512 * new_sectors t - long)
    ∙ ap (λ (z : List ℕ). text t ++ z) (take-replicate (512 * new_sectors t - long) (n - long) 0 (omega (arith, enough)))

-- the new text's sectors begin with the text, and end within a narrow slot
pub new_long : (t : VolumeTable) → length (new_bytes t) ≡ 512 * new_sectors t
new_long t =
    let n = length (text t) in
    let hold = sectors_hold n in
    let zeros : length {A = ℕ} (replicate (512 * new_sectors t - n) 0) ≡ 512 * new_sectors t - n = length-replicate {A = ℕ} (512 * new_sectors t - n) 0 in
    length-append (text t) (replicate (512 * new_sectors t - n) 0) ∙ omega (arith, hold, zeros)

new_begins : (t : VolumeTable) → take (length (text t)) (new_bytes t) ≡ text t
new_begins t = take-append_seam (text t) (replicate (512 * new_sectors t - length (text t)) 0)

module _ {size : ℕ} {was : ℕ → List ℕ} {h : Held} {p : Plate} {at : Pointer} {t : VolumeTable} (k : IsTakenOver size was h p at t) (image : ℕ → List ℕ) (enough : 4096 ≤ size) (allowed : Allows size h image) where
  label_2 : image 0 ≡ label_sector 2 p → version_of image ≡ 2
  label_2 e = ap version_in e ∙ version_again 2 p (omega arith)

  pub either : (version_of image ≡ 1) ⊎ (version_of image ≡ 2)
  either = elim (same_or (image 0) (was 0)) [
    | inl same ↦ inl (ap version_in same ∙ k.old)
    | inr other ↦ inr (label_2 (k.label (image 0) (allowed 0 (omega (arith, enough))) other))
  ]

  old_label : version_of image ≡ 1 → image 0 ≡ was 0
  old_label v = elim (same_or (image 0) (was 0)) [
    | inl same ↦ same
    | inr other ↦ let two = label_2 (k.label (image 0) (allowed 0 (omega (arith, enough))) other) in absurd (omega (arith, v, two))
  ]

  still : (q : ℕ) → 1 ≤ q → q < 2050 → image q ≡ was q
  still q some low = k.still q (image q) some low (allowed q (omega (arith, enough, low)))

  pub old_stands : version_of image ≡ 1 → StandsOn size image (record { plate = p; pointer = at; table = t })
  old_stands v = agrees_stands k.stands k.old image (λ q low. by q low (cases_lt q 1))
    where
      by : (q : ℕ) → q < 2050 → (q < 1) ⊎ (1 ≤ q) → image q ≡ was q
      by q low (inl less) = let zero : q ≡ 0 = omega (arith, less) in ap image zero ∙ old_label v ∙ ap was (sym zero)
      by q low (inr some) = still q some low

  other : version_of image ≡ 2 → image 0 ≢ was 0
  other v e = let one = ap version_in e ∙ k.old in absurd (omega (arith, v, one))

  new_label : version_of image ≡ 2 → image 0 ≡ label_sector 2 p
  new_label v = k.label (image 0) (allowed 0 (omega (arith, enough))) (other v)

  right : IsRightPlate size was p
  right = plate_right size was p k.stands.labelled

  pub narrow : p.layout ≡ 0
  narrow = let low = right.layout in let one = k.old in omega (arith, low, one)

  fields : IsFields p
  fields = right_fields right

  sizes : HasSizes size 2 p
  sizes = record { layout = omega (arith, narrow); sizes = geometry_from p.extent p.block p.entries right.sizes; most = right.most; least = right.least }

  laid : version_of image ≡ 2 → (q : ℕ) → q < 4096 → IsLaidAt t q (image q)
  laid v q low = k.lasts (image 0) (allowed 0 (omega (arith, enough))) (other v) q (image q) (allowed q (omega (arith, enough, low)))

  spelled_2 : version_of image ≡ 2 → SpellsBy (grammar_of (version_of image)) p.count (text t) t
  unfolding grammar_of
  spelled_2 v =
      subst (λ (w : ℕ). SpellsBy (grammar_of w) p.count (text t) t) (sym v)
      (record { spelled = refl; table = k.stands.spelled.table; fits = k.stands.spelled.fits })

  pub new_stands : version_of image ≡ 2 → length (text t) ≤ slot_bytes narrow_frame
      → StandsOn size image (record { plate = p; pointer = new_pointer t; table = t })
  new_stands v fits =
      let total = k.total (image 0) (allowed 0 (omega (arith, enough))) (other v) in
      let label = new_label v in
      let frame = frame_narrow image v (ap (λ (q : Plate). q.layout) (ap plate_in label ∙ plate_again 2 p fields) ∙ narrow) in
      let few = sectors_most narrow_frame (length (text t)) fits in
      let place : (frame_in image).header ≡ 2050 = ap (λ (f : Frame). f.header) frame in
      let first : slot_place (frame_in image) 0 ≡ 2051 = ap (λ (f : Frame). slot_place f 0) frame in
      let room : slot_bytes (frame_in image) ≡ slot_bytes narrow_frame = ap slot_bytes frame in
      let header = ap image place ∙ (laid v 2050 (omega arith)).header refl in
      let shown : text_in image (new_pointer t) ≡ text t =
      text_written image (new_pointer t) (new_bytes t) (omega (arith, new_long t))
      (λ i below. let same = ap (λ (n : ℕ). n + i) first in ap image same ∙ (laid v (2051 + i) (omega (arith, below, few))).text i below refl) ∙ new_begins t in
      stands_from size image p (new_pointer t) t (text t)
      (label_again size 2 p image (omega (arith, enough)) refl (omega arith) fields sizes label)
      (header_again (new_pointer t) image (omega arith) (omega (arith, fits, room)) (omega (arith, fits)) total header)
      shown refl (spelled_2 v)

-- the label on which a group of version 1 stood is spelled by its fields
pub old_spelled : {size : ℕ} {was : ℕ → List ℕ} {h : Held} {p : Plate} {at : Pointer} {t : VolumeTable} → IsTakenOver size was h p at t → was 0 ≡ label_sector 1 p
old_spelled {size} {was} {h} {p} {at} {t} k = (plate_right size was p k.stands.labelled).spelled ∙ ap (λ (v : ℕ). label_sector v p) k.old

-- nothing was begun
pub taken_none : (size : ℕ) (h : Held) (p : Plate) (at : Pointer) (t : VolumeTable) → StandsOn size h.floor (record { plate = p; pointer = at; table = t }) → version_of h.floor ≡ 1
    → ((q : ℕ) (v : List ℕ) → q < 4096 → May h q v → v ≡ h.floor q) → IsTakenOver size h.floor h p at t
taken_none size h p at t stands old still = record {
  stands = stands;
  old = old;
  still = λ q v some low m. still q v (omega (arith, low)) m;
  label = λ v m other. absurd (other (still 0 v (omega arith) m));
  lasts = λ v m other q w here. absurd (other (still 0 v (omega arith) m));
  total = λ v m other. absurd (other (still 0 v (omega arith) m));
}

-- ---- what a stop leaves of the extents

-- the image from before in front of the extents, and this one behind
pub over : (ℕ → List ℕ) → (ℕ → List ℕ) → ℕ → List ℕ
over was image q = cond (ltb q 4096) (was q) (image q)

pub over_low : (was image : ℕ → List ℕ) (q : ℕ) → q < 4096 → over was image q ≡ was q
unfolding over
over_low was image q low = ap (λ b. cond b (was q) (image q)) (lt-ltb q 4096 low)

pub over_high : (was image : ℕ → List ℕ) (q : ℕ) → 4096 ≤ q → over was image q ≡ image q
unfolding over
over_high was image q high = ap (λ b. cond b (was q) (image q)) (le-ltb q 4096 high)
