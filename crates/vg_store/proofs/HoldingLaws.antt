-- A group goes on standing where a stop leaves in front of the extents nothing that it could not leave before.
use Rattle.std.proofs.Common.{◌≡◌, ℕ, ◌<◌, ◌≤◌, cond, ltb, ◌⊎◌, inl, inr, List, length, sum, refl, sym, ap, subst, ◌∙◌, arith}
use Rattle.std.proofs.lemmas.Bool.{lt-ltb, le-ltb, cases_lt}
use Rattle.sm_disk.specs.Held.{Held, May, Allows, Keeps, SameHeld, reads}
use Rattle.sm_disk.proofs.HeldLaws.{May-reads, may-at, Keeps-same, Allows-keeps}
use Rattle.vg_meta.specs.Tables.{VolumeTable}
use Rattle.vg_meta.specs.Reading.{SpellsBy}
use Rattle.vg_meta.specs.Text.{text}
use Rattle.vg_layout.specs.Places.{IsApart, area_place, frame_of, label_place, slot_bytes}
use Rattle.vg_layout.specs.Sectors.{Plate, Pointer, version_in}
use Rattle.vg_layout.specs.Opening.{frame_in, grammar_of, text_in, version_of}
use Rattle.vg_volumes.specs.Commits.{current_version}
use Rattle.vg_upgrade.specs.Upgrades.{IsBeingTaken}
use Rattle.vg_upgrade.proofs.RestLaws.{taken_again, taken_less}
use Rattle.vg_store.specs.Groups.{IsVersionOf, Rests, GroupStands, LeavesGroup}
use Rattle.vg_store.specs.Leaving.{fits_early, layout_early, place_early}
use Rattle.vg_store.specs.Runs.{SameInFront}
use Rattle.vg_store.proofs.ImageLaws.{plate_apart, plate_same, pointer_front, spells_same, text_front}

-- in front of the extents of a layout a stop leaves nothing that it could not leave before
abbrev pub LeavesNoMore : ℕ → Held → Held → Type 0
LeavesNoMore layout old new = (q : ℕ) (v : List ℕ) → q < area_place layout → May new q v → May old q v

pub no_more-front : {layout : ℕ} {old new : Held} → SameInFront layout old new → LeavesNoMore layout old new
no_more-front {layout} {old} {new} s = λ q v low m. may-at old new q v (s.floor q low) (s.pending q low) m

pub no_more-keeps : (layout : ℕ) {old new : Held} → Keeps old new → LeavesNoMore layout old new
no_more-keeps layout k = λ q v low m. k.may q v m

pub no_more-same : (layout : ℕ) {old new : Held} → SameHeld old new → LeavesNoMore layout old new
no_more-same layout s = no_more-keeps layout (Keeps-same s)

pub rests_still : {size wide : ℕ} {old new : Held} {p : Plate} {at : Pointer} {bytes : List ℕ} → wide ≡ size → LeavesNoMore p.layout old new → Rests size old p at bytes → Rests wide new p at bytes
rests_still {size} {wide} {old} {new} {p} {at} {bytes} same no_more r =
    let P : ℕ → Type 0 = λ n. Rests n new p at bytes in
    subst P (sym same) (record {
      still = λ q v low m. r.still q v low (no_more q v low m) ∙ sym (floor q low);
      current = ap version_in (floor label_place (omega (arith, apart.front.0))) ∙ r.current;
      labelled = plate_same size old.floor new.floor (floor label_place (omega (arith, apart.front.0))) ∙ r.labelled;
      headed = pointer_front (area_place p.layout) old.floor new.floor apart floor ∙ r.headed;
      text = text_front (area_place p.layout) old.floor new.floor at apart r.headed floor ∙ r.text;
    })
  where
    apart : IsApart (frame_in old.floor) (area_place p.layout)
    apart = plate_apart size old.floor p r.labelled

    floor : (q : ℕ) → q < area_place p.layout → new.floor q ≡ old.floor q
    floor q low = r.still q (new.floor q) low (no_more q (new.floor q) low (inl refl))

-- an image stands where another stands that is the same in front of the extents
pub standing_from : (size : ℕ) (f m : ℕ → List ℕ) (p : Plate) → ((q : ℕ) → q < area_place p.layout → m q ≡ f q) → GroupStands size f p → GroupStands size m p
standing_from size f m p same s =
    let apart = plate_apart size f p s.stands.labelled in
    let label = same label_place (omega (arith, apart.front.0)) in
    let text : text_in m s.pointer ≡ text_in f s.pointer = text_front (area_place p.layout) f m s.pointer apart s.stands.headed same in
    let P : List ℕ → Type 0 = λ b. SpellsBy (grammar_of (version_of m)) p.count b s.table in
    record {
      pointer = s.pointer;
      table = s.table;
      stands = record {
        labelled = plate_same size f m label ∙ s.stands.labelled;
        headed = pointer_front (area_place p.layout) f m apart same ∙ s.stands.headed;
        summed = ap sum text ∙ s.stands.summed;
        spelled = subst P (sym text) (spells_same f m p.count (text_in f s.pointer) s.table label s.stands.spelled);
      };
    }

-- an image in front of a place, and behind it what a read gives
front_of : ℕ → Held → (ℕ → List ℕ) → ℕ → List ℕ
front_of from h image q = cond (ltb q from) (image q) (reads h q)

front_in : (from : ℕ) (h : Held) (image : ℕ → List ℕ) (q : ℕ) → q < from → front_of from h image q ≡ image q
unfolding front_of
front_in from h image q low = ap (λ b. cond b (image q) (reads h q)) (lt-ltb q from low)

front_past : (from : ℕ) (h : Held) (image : ℕ → List ℕ) (q : ℕ) → from ≤ q → front_of from h image q ≡ reads h q
unfolding front_of
front_past from h image q past = ap (λ b. cond b (image q) (reads h q)) (le-ltb q from past)

front_allowed : (layout size : ℕ) (old new : Held) (image : ℕ → List ℕ) → LeavesNoMore layout old new → Allows size new image → Allows size old (front_of (area_place layout) old image)
front_allowed layout size old new image no_more allowed = λ q below. by q below (cases_lt q (area_place layout))
  where
    by : (q : ℕ) → q < size → (q < area_place layout) ⊎ (area_place layout ≤ q) → May old q (front_of (area_place layout) old image q)
    by q below (inl low) =
        let P : List ℕ → Type 0 = λ v. May old q v in
        subst P (sym (front_in (area_place layout) old image q low)) (no_more q (image q) low (allowed q below))
    by q below (inr past) =
        let P : List ℕ → Type 0 = λ v. May old q v in
        subst P (sym (front_past (area_place layout) old image q past)) (May-reads old q)

pub stands_still : {size wide : ℕ} (old new : Held) (p : Plate) → wide ≡ size → LeavesNoMore p.layout old new
    → ((image : ℕ → List ℕ) → Allows size old image → GroupStands size image p) → (image : ℕ → List ℕ) → Allows wide new image → GroupStands wide image p
stands_still {size} {wide} old new p same no_more stands =
    let P : ℕ → Type 0 = λ n. (image : ℕ → List ℕ) → Allows n new image → GroupStands n image p in
    subst P (sym same) (λ image allowed. standing_from size (front_of (area_place p.layout) old image) image p (λ q low. sym (front_in (area_place p.layout) old image q low))
    (stands (front_of (area_place p.layout) old image) (front_allowed p.layout size old new image no_more allowed)))

-- and a group goes on being taken over
pub taken_still : {size wide version bytes : ℕ} {old new : Held} {p : Plate} {at : Pointer} (t : VolumeTable) → wide ≡ size → IsVersionOf version p.layout → version < current_version
    → bytes ≡ slot_bytes (frame_of current_version p.layout) → length (text t) ≤ bytes → LeavesNoMore p.layout old new → IsBeingTaken size old p at t → IsBeingTaken wide new p at t
taken_still {size} {wide} {version} {bytes} {old} {new} {p} {at} t same known early room fits no_more taken =
    let narrow = layout_early known early in
    let place = place_early narrow in
    let P : ℕ → Type 0 = λ n. IsBeingTaken n new p at t in
    subst P (sym same) (taken_again (taken_less (fits_early t narrow room fits) (λ q v low m. no_more q v (omega (arith, low, place)) m) taken))

-- a sync, failed or not, leaves no more
pub LeavesGroup-keeps : {size wide : ℕ} {old new : Held} {p : Plate} {t : VolumeTable} {image : ℕ → List ℕ} → wide ≡ size → Keeps old new
    → LeavesGroup wide new p t image → LeavesGroup size old p t image
LeavesGroup-keeps {size} {wide} {old} {new} {p} {t} {image} same k l =
    let P : ℕ → Type 0 = λ n. LeavesGroup n old p t image in
    subst P same (record {
      whole = l.whole;
      allowed = Allows-keeps wide l.whole k l.allowed;
      pointer = l.pointer;
      stands = l.stands;
      sectors = l.sectors;
    })
