-- What stands while a group is taken over, in the words of an open group.
use Rattle.std.proofs.Common.{◌≡◌, ◌⊎◌, inl, inr, cond, ℕ, ◌<◌, ◌≤◌, List, length, refl, sym, ap, subst, ◌∙◌, arith}
use Rattle.std.proofs.lemmas.Bool.{cases_lt, ne_eqb}
use Rattle.sm_disk.specs.Held.{Held, Allows, May, Reaches, reads}
use Rattle.sm_disk.proofs.HeldLaws.{May-reads, reads-settled}
use Rattle.vg_meta.specs.Tables.{VolumeTable}
use Rattle.vg_meta.specs.Text.{text}
use Rattle.vg_layout.specs.Places.{narrow_frame, slot_bytes, label_place}
use Rattle.vg_layout.specs.Sectors.{Plate, Pointer, label_sector, version_in}
use Rattle.vg_layout.specs.Opening.{StandsOn, version_of}
use Rattle.vg_layout.proofs.FrameLaws.{sectors_most}
use Rattle.vg_layout.proofs.RoundTrips.{version_again}
use Rattle.vg_upgrade.specs.Upgrades.{IsBeingTaken, IsLaidAt, IsTaken, IsTakenOver, IsUpgradeWrite, new_pointer, old_image}
use Rattle.vg_upgrade.proofs.UpgradeLaws.{agrees_stands, either, new_stands, old_spelled, old_stands, over, over_high, over_low}

-- the old image is the floor behind the label
image_behind : (p : Plate) (h : Held) (q : ℕ) → 1 ≤ q → old_image p h q ≡ h.floor q
unfolding old_image
image_behind p h q some = ap (λ b. cond b (label_sector 1 p) (h.floor q)) (ne_eqb q 0 (λ e. omega (arith, some, e)))

image_label : (p : Plate) (h : Held) → old_image p h 0 ≡ label_sector 1 p
unfolding old_image
image_label p h = refl

-- while a group that stood on one image is taken over, so is the one that stood on the old image of what is held
pub taken_again : {size : ℕ} {was : ℕ → List ℕ} {h : Held} {p : Plate} {at : Pointer} {t : VolumeTable} → IsTakenOver size was h p at t → IsBeingTaken size h p at t
taken_again {size} {was} {h} {p} {at} {t} k = record {
  stands = agrees_stands k.stands k.old (old_image p h) front;
  old = ap version_in (front 0 (omega arith)) ∙ k.old;
  still = λ q v some low m. k.still q v some low m ∙ sym (front q low);
  label = λ v m other. k.label v m (λ e. other (e ∙ sym (front 0 (omega arith))));
  lasts = λ v m other q w here. k.lasts v m (λ e. other (e ∙ sym (front 0 (omega arith)))) q w here;
  total = λ v m other. k.total v m (λ e. other (e ∙ sym (front 0 (omega arith))));
}
  where
    front : (q : ℕ) → q < 2050 → old_image p h q ≡ was q
    front q low = by (cases_lt q 1)
      where
        by : (q < 1) ⊎ (1 ≤ q) → old_image p h q ≡ was q
        by (inl less) = let zero : q ≡ 0 = omega (arith, less) in ap (old_image p h) zero ∙ image_label p h ∙ sym (old_spelled k) ∙ ap was (sym zero)
        by (inr some) = image_behind p h q some ∙ k.still q (h.floor q) some low (inl refl)

-- behind a narrow slot nothing of the new header and text stands
laid_nowhere : (t : VolumeTable) (q : ℕ) (w : List ℕ) → length (text t) ≤ slot_bytes narrow_frame → 4096 ≤ q → IsLaidAt t q w
laid_nowhere t q w fits past =
    let few = sectors_most narrow_frame (length (text t)) fits in
    record { header = λ e. absurd (omega (arith, past, e)); text = λ i below e. absurd (omega (arith, past, below, few, e)) }

-- where a stop leaves nothing more in front of the extents, a group goes on being taken over
pub taken_less : {size : ℕ} {was : ℕ → List ℕ} {a b : Held} {p : Plate} {at : Pointer} {t : VolumeTable} → length (text t) ≤ slot_bytes narrow_frame
    → ((q : ℕ) (v : List ℕ) → q < 4096 → May b q v → May a q v) → IsTakenOver size was a p at t → IsTakenOver size was b p at t
taken_less {size} {was} {a} {b} {p} {at} {t} fits fewer k = record {
  stands = k.stands;
  old = k.old;
  still = λ q v some low m. k.still q v some low (fewer q v (omega (arith, low)) m);
  label = λ v m. k.label v (fewer label_place v (omega arith) m);
  lasts = λ v m other q w here. elim (cases_lt q 4096) [
    | inl low ↦ k.lasts v (fewer label_place v (omega arith) m) other q w (fewer q w low here)
    | inr past ↦ laid_nowhere t q w fits past
  ];
  total = λ v m other. k.total v (fewer label_place v (omega arith) m) other;
}

-- on each image that a stop leaves the table stands, by one of the two headers
pub taken_shows : {size : ℕ} {was : ℕ → List ℕ} {h : Held} {p : Plate} {at : Pointer} {t : VolumeTable} → IsTakenOver size was h p at t → 4096 ≤ size → length (text t) ≤ slot_bytes narrow_frame
    → (image : ℕ → List ℕ) → Allows size h image → (k : Pointer) × StandsOn size image (record { plate = p; pointer = k; table = t })
taken_shows {size} {was} {h} {p} {at} {t} k enough fits image allowed = elim (either k image enough allowed) [
  | inl old ↦ (at, old_stands k image enough allowed old)
  | inr new ↦ (new_pointer t, new_stands k image enough allowed new fits)
]

-- what a stop leaves of the extents, where it leaves nothing more of these, it might have left before, beside the same table
pub left_taken : {size : ℕ} {was : ℕ → List ℕ} (a b : Held) {p : Plate} {at : Pointer} {t : VolumeTable} → IsTakenOver size was a p at t → 4096 ≤ size → length (text t) ≤ slot_bytes narrow_frame
    → ((q : ℕ) (v : List ℕ) → 4096 ≤ q → May b q v → May a q v) → (image : ℕ → List ℕ) → Allows size b image
    → (whole : ℕ → List ℕ) × (k : Pointer) × Allows size a whole × StandsOn size whole (record { plate = p; pointer = k; table = t }) × ((q : ℕ) → 4096 ≤ q → whole q ≡ image q)
left_taken {size} {was} a b {p} {at} {t} k enough fits fewer image allowed =
    let shown = taken_shows k enough fits (over (reads a) image) before in
    (over (reads a) image, shown.0, before, shown.1, over_high (reads a) image)
  where
    before : Allows size a (over (reads a) image)
    before q below = elim (cases_lt q 4096) [
      | inl low ↦ subst (May a q) (sym (over_low (reads a) image q low)) (May-reads a q)
      | inr high ↦ subst (May a q) (sym (over_high (reads a) image q high)) (fewer q (image q) high (allowed q below))
    ]

-- at the end the floor shows version 2
pub version_taken : {p : Plate} {t : VolumeTable} {h : Held} → IsTaken p t h → version_of h.floor ≡ 2
version_taken {p} {t} {h} e = ap version_in (sym (reads-settled h label_place (e.settled label_place)) ∙ e.label) ∙ version_again 2 p (omega arith)

-- and there the table stands by the new header
pub stands_taken : {size : ℕ} {was : ℕ → List ℕ} {h : Held} {p : Plate} {at : Pointer} {t : VolumeTable} → IsTakenOver size was h p at t → IsTaken p t h → 4096 ≤ size → length (text t) ≤ slot_bytes narrow_frame
    → StandsOn size h.floor (record { plate = p; pointer = new_pointer t; table = t })
stands_taken {size} {was} {h} {p} {at} {t} k e enough fits = new_stands k h.floor enough (λ q below. inl refl) (version_taken e) fits

-- an upgrade writes nothing of the extents
pub reads_taken : {a b : Held} {p : Plate} {t : VolumeTable} → Reaches (IsUpgradeWrite p t) a b → (q : ℕ) → 4096 ≤ q → reads b q ≡ reads a q
reads_taken {a} {b} {p} {t} r q past = elim (r.gives q) [
  | inl same ↦ same
  | inr (inl part) ↦ let to = part.to in absurd (omega (arith, past, to))
  | inr (inr label) ↦ let place = label.place in absurd (omega (arith, past, place))
]

pub may_taken : {a b : Held} {p : Plate} {t : VolumeTable} → Reaches (IsUpgradeWrite p t) a b → (q : ℕ) (v : List ℕ) → 4096 ≤ q → May b q v → May a q v
may_taken {a} {b} {p} {t} r q v past m = elim (r.may q v m) [
  | inl was ↦ was
  | inr (inl part) ↦ let to = part.to in absurd (omega (arith, past, to))
  | inr (inr label) ↦ let place = label.place in absurd (omega (arith, past, place))
]
