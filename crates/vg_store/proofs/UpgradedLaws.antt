-- What a group is once it was taken over, and what a stop leaves of it.
use Rattle.std.proofs.Common.{◌≡◌, ◌⊎◌, inl, inr, ℕ, ◌+◌, ◌<◌, ◌≤◌, List, length, sym, subst, ◌∙◌, arith}
use Rattle.std.proofs.lemmas.Bool.{cases_lt}
use Rattle.sm_disk.specs.Held.{Held, Allows, Keeps, Reaches}
use Rattle.sm_disk.proofs.HeldLaws.{may_settled, reads-settled}
use Rattle.vg_meta.specs.Tables.{VolumeTable}
use Rattle.vg_meta.specs.Text.{text}
use Rattle.vg_meta.specs.Reading.{SpellsBy}
use Rattle.vg_layout.specs.Places.{area_place, frame_of, label_place, most_extents, narrow_frame, slot_bytes}
use Rattle.vg_layout.specs.Sectors.{Plate, Pointer}
use Rattle.vg_layout.specs.Opening.{StandsOn, grammar_of, text_in}
use Rattle.vg_layout.proofs.StandingLaws.{stands_once}
use Rattle.vg_volumes.specs.Commits.{current_version}
use Rattle.vg_upgrade.specs.Upgrades.{IsBeingTaken, IsTaken, IsTakenOver, IsUpgradeWrite, new_pointer, old_image}
use Rattle.vg_upgrade.proofs.RestLaws.{left_taken, may_taken, reads_taken, stands_taken, taken_again, taken_shows, version_taken}
use Rattle.vg_store.specs.Groups.{GroupStands, IsVersionOf, LeavesGroup, Rests, area_of, beside_of}
use Rattle.vg_store.specs.Leaving.{few_extents, fits_early, layout_early, place_early}
use Rattle.vg_store.proofs.BesideLaws.{beside_narrow}

-- a version that is not the current one is an earlier one
pub earlier : {version layout : ℕ} → IsVersionOf version layout → (version ≡ current_version → ⊥) → version < current_version
earlier {version} {layout} k other =
    let most = k.most in
    elim (cases_lt version 2) [
      | inl low ↦ low
      | inr now ↦ absurd (other (omega (arith, most, now)))
    ]

pub current_known : {layout : ℕ} → layout ≡ 0 → IsVersionOf current_version layout
current_known narrow = record { some = omega arith; most = omega arith; narrow = omega (arith, narrow) }

-- a group of the earlier version in memory, on a device that holds this
pub record IsEarly (size : ℕ) (h : Held) (p : Plate) (at : Pointer) (t : VolumeTable) : Type 0 where
  pub narrow : p.layout ≡ 0
  pub few : p.count ≤ most_extents p.layout
  pub room : 4096 ≤ size
  pub fits : length (text t) ≤ slot_bytes narrow_frame
  pub taken : IsBeingTaken size h p at t

pub early_from : {size version bytes : ℕ} {h : Held} {p : Plate} {at : Pointer} (area : ℕ) (t : VolumeTable) → area_place p.layout + area ≤ size → p.count ≤ most_extents p.layout → IsVersionOf version p.layout → version < current_version
    → bytes ≡ slot_bytes (frame_of current_version p.layout) → length (text t) ≤ bytes → IsBeingTaken size h p at t → IsEarly size h p at t
early_from {size} area t on few known early room fits taken =
    let narrow = layout_early known early in
    record { narrow = narrow; few = few; room = omega (arith, on, place_early narrow); fits = fits_early t narrow room fits; taken = taken }

-- what `take_over` promises of an image goes on for the one of what is held
going : {size : ℕ} {a b : Held} {p : Plate} {at : Pointer} {t : VolumeTable} → IsEarly size a p at t
    → ((n : ℕ) (was : ℕ → List ℕ) (k : Pointer) → IsTakenOver n was a p k t → IsTakenOver n was b p k t) → IsTakenOver size (old_image p a) b p at t
going {size} {a} {b} {p} {at} {t} e goes = goes size (old_image p a) at e.taken

-- the group goes on being taken over
pub still_early : {size now : ℕ} {a b : Held} {p : Plate} {at : Pointer} {t : VolumeTable} → now ≡ size → IsEarly size a p at t
    → ((n : ℕ) (was : ℕ → List ℕ) (k : Pointer) → IsTakenOver n was a p k t → IsTakenOver n was b p k t) → IsBeingTaken now b p at t
still_early {size} {now} {a} {b} {p} {at} {t} is e goes = subst (λ (n : ℕ). IsBeingTaken n b p at t) (sym is) (taken_again (going e goes))

-- and stands on each image that a stop leaves
pub stands_early : {size now : ℕ} {a b : Held} {p : Plate} {at : Pointer} {t : VolumeTable} → now ≡ size → IsEarly size a p at t
    → ((n : ℕ) (was : ℕ → List ℕ) (k : Pointer) → IsTakenOver n was a p k t → IsTakenOver n was b p k t) → (image : ℕ → List ℕ) → Allows now b image → GroupStands now image p
stands_early {size} {now} {a} {b} {p} {at} {t} is e goes =
    subst (λ (n : ℕ). (image : ℕ → List ℕ) → Allows n b image → GroupStands n image p) (sym is)
    (λ image allowed. let shown = taken_shows (going e goes) e.room e.fits image allowed in record { pointer = shown.0; table = t; stands = shown.1 })

-- what a stop leaves it might have left before
pub leaves_taken : {size now : ℕ} {a b : Held} {p : Plate} {at : Pointer} {t : VolumeTable} → now ≡ size → IsEarly size a p at t
    → ((n : ℕ) (was : ℕ → List ℕ) (k : Pointer) → IsTakenOver n was a p k t → IsTakenOver n was b p k t) → Reaches (IsUpgradeWrite p t) a b
    → (u : VolumeTable) (image : ℕ → List ℕ) → LeavesGroup now b p u image → LeavesGroup size a p u image
leaves_taken {size} {now} {a} {b} {p} {at} {t} is e goes writes u image left =
    let l : LeavesGroup size b p u image = subst (λ (n : ℕ). LeavesGroup n b p u image) is left in
    let shown = taken_shows (going e goes) e.room e.fits l.whole l.allowed in
    let same : t ≡ u = stands_once size l.whole p shown.0 l.pointer t u (few_extents p.layout e.few) shown.1 l.stands in
    let before = left_taken a b e.taken e.room e.fits (λ q v past m. may_taken writes q v past m) l.whole l.allowed in
    record {
      whole = before.0;
      allowed = before.2;
      pointer = before.1;
      stands = subst (λ (v : VolumeTable). StandsOn size before.0 (record { plate = p; pointer = before.1; table = v })) same before.3;
      sectors = λ q. l.sectors q ∙ sym (before.4 (area_place p.layout + q) (let place = place_early e.narrow in omega (arith, place)));
    }

-- of the extents nothing is written
pub area_taken : {a b : Held} {p : Plate} {t : VolumeTable} → p.layout ≡ 0 → Reaches (IsUpgradeWrite p t) a b → Keeps (area_of p.layout a) (area_of p.layout b)
area_taken {a} {b} {p} {t} narrow writes =
    let place = place_early narrow in
    record {
      reads = λ q. reads_taken writes (area_place p.layout + q) (omega (arith, place));
      may = λ q v m. may_taken writes (area_place p.layout + q) v (omega (arith, place)) m;
    }

-- nor beside the group
pub beside_taken : {a b : Held} {p : Plate} {t : VolumeTable} (area : ℕ) → p.layout ≡ 0 → Reaches (IsUpgradeWrite p t) a b → Keeps (beside_of p.layout area a) (beside_of p.layout area b)
beside_taken {a} {b} {p} {t} area narrow writes = beside_narrow (IsUpgradeWrite p t) p.layout area a b narrow there writes
  where
    there : (q : ℕ) (v : List ℕ) → IsUpgradeWrite p t q v → ((narrow_frame.header ≤ q) × (q < 4096)) ⊎ (q ≡ label_place)
    there q v (inl part) = inl (part.from, part.to)
    there q v (inr label) = inr label.place

-- at the end version 2 rests
pub rests_taken : {size now : ℕ} {a b : Held} {p : Plate} {at next : Pointer} {t : VolumeTable} → now ≡ size → next ≡ new_pointer t → IsEarly size a p at t
    → ((n : ℕ) (was : ℕ → List ℕ) (k : Pointer) → IsTakenOver n was a p k t → IsTakenOver n was b p k t) → IsTaken p t b → Rests now b p next (text t)
unfolding grammar_of
rests_taken {size} {now} {a} {b} {p} {at} {next} {t} is header e goes end =
    let stands = stands_taken (going e goes) end e.room e.fits in
    let by : SpellsBy (grammar_of 2) p.count (text_in b.floor (new_pointer t)) t = subst (λ (v : ℕ). SpellsBy (grammar_of v) p.count (text_in b.floor (new_pointer t)) t) (version_taken end) stands.spelled in
    subst (λ (n : ℕ). Rests n b p next (text t)) (sym is) (subst (λ (k : Pointer). Rests size b p k (text t)) (sym header) (record {
      still = λ q v low m. may_settled b q v (end.settled q) m ∙ reads-settled b q (end.settled q);
      current = version_taken end;
      labelled = stands.labelled;
      headed = stands.headed;
      text = by.spelled;
    }))
