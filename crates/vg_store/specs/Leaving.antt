-- While no commit has failed, and in an earlier version always, a stop leaves the one table and of the extents any choice sector by
-- sector; in the current version what reads give is among them.
use Rattle.std.proofs.Common.{◌≡◌, ℕ, Bool, true, false, cond, eqb, refl, ap, ◌+◌, ◌<◌, ◌≤◌, List, length, sum, sym, subst, ◌∙◌, arith}
use Rattle.sm_disk.specs.Held.{Held, May, reads}
use Rattle.sm_disk.proofs.HeldLaws.{May-reads, Allows-reads}
use Rattle.vg_meta.specs.Tables.{VolumeTable}
use Rattle.vg_meta.specs.Reading.{Spells, SpellsBy}
use Rattle.vg_meta.specs.Text.{text}
use Rattle.sm_base.specs.Limits.{extent_limit}
use Rattle.vg_layout.specs.Places.{area_place, frame_of, label_place, most_extents, narrow_frame, slot_bytes}
use Rattle.vg_layout.specs.Sectors.{Plate, Pointer, version_in}
use Rattle.vg_layout.specs.Opening.{StandsOn, grammar_of, version_of}
use Rattle.vg_layout.proofs.ImageLaws.{plate_same, pointer_front, text_front, stands_from}
use Rattle.vg_layout.proofs.StandingLaws.{plate_apart, plate_few, spells_by, stands_once}
use Rattle.vg_volumes.specs.Commits.{IsBefore, current_version}
use Rattle.vg_upgrade.specs.Upgrades.{IsBeingTaken}
use Rattle.vg_upgrade.proofs.RestLaws.{taken_shows}
use Rattle.vg_store.specs.Groups.{IsVersionOf, Rests, LeavesGroup, area_of}

-- a text by segments is one by the grammar of an image of the current version
pub spells_current : (m : ℕ → List ℕ) (count : ℕ) (bytes : List ℕ) (t : VolumeTable) → version_of m ≡ current_version → Spells count bytes t → SpellsBy (grammar_of (version_of m)) count bytes t
unfolding grammar_of
spells_current m count bytes t is spells = spells_by m current_version count bytes t is spells

-- what stands in front of the extents, in an image that shows there what the floor has
stands_in_front : (size : ℕ) (h : Held) (p : Plate) (at : Pointer) (t : VolumeTable) (bytes : List ℕ) (m : ℕ → List ℕ) → Rests size h p at bytes → sum bytes ≡ at.total
    → Spells p.count bytes t → ((q : ℕ) → q < area_place p.layout → m q ≡ h.floor q) → StandsOn size m (record { plate = p; pointer = at; table = t })
stands_in_front size h p at t bytes m r total spells same =
    let apart = plate_apart size h.floor p r.labelled in
    let label = same label_place (omega (arith, apart.front.0)) in
    stands_from size m p at t bytes (plate_same size h.floor m label ∙ r.labelled)
    (pointer_front (area_place p.layout) h.floor m apart same ∙ r.headed) (text_front (area_place p.layout) h.floor m at apart r.headed same ∙ r.text) total
    (spells_current m p.count bytes t (ap version_in label ∙ r.current) spells)

pub leaves_one : (size area : ℕ) (h : Held) (p : Plate) (at : Pointer) (t u : VolumeTable) (bytes : List ℕ) (image : ℕ → List ℕ) → area_place p.layout + area ≤ size
    → Rests size h p at bytes → sum bytes ≡ at.total → Spells p.count bytes t → LeavesGroup size h p u image
    → IsBefore area t (area_of p.layout h) u image
leaves_one size area h p at t u bytes image fits r total spells l =
    let same = λ (q : ℕ) (low : q < area_place p.layout). r.still q (l.whole q) low (l.allowed q (omega arith)) in
    let stands = stands_in_front size h p at t bytes l.whole r total spells same in
    record {
      table_is = sym (stands_once size l.whole p at l.pointer t u (plate_few size h.floor p r.labelled) stands l.stands);
      sectors = λ q below. let P : List ℕ → Type 0 = λ v. May (area_of p.layout h) q v in subst P (sym (l.sectors q)) (l.allowed (area_place p.layout + q) (omega arith));
    }

pub leaves_reads : (size : ℕ) (h : Held) (p : Plate) (at : Pointer) (t : VolumeTable) (bytes : List ℕ)
    → Rests size h p at bytes → sum bytes ≡ at.total → Spells p.count bytes t → LeavesGroup size h p t (reads (area_of p.layout h))
leaves_reads size h p at t bytes r total spells = record {
  whole = reads h;
  allowed = Allows-reads size h;
  pointer = at;
  stands = stands_in_front size h p at t bytes (reads h) r total spells (λ q low. r.still q (reads h q) low (May-reads h q));
  sectors = λ q. refl;
}

-- ---- the earlier version

-- it has the narrow layout alone
pub layout_early : {version layout : ℕ} → IsVersionOf version layout → version < current_version → layout ≡ 0
layout_early k early = let low = k.narrow in omega (arith, low, early)

pub place_early : {layout : ℕ} → layout ≡ 0 → area_place layout ≡ 4096
unfolding area_place
place_early {layout} e = ap area_place e ∙ refl

pub slot_early : {layout : ℕ} → layout ≡ 0 → slot_bytes (frame_of current_version layout) ≡ slot_bytes narrow_frame
unfolding frame_of
slot_early {layout} e = ap (λ (l : ℕ). slot_bytes (frame_of current_version l)) e ∙ refl

-- a table that has room in a buffer fits a narrow slot
pub fits_early : {layout bytes : ℕ} (t : VolumeTable) → layout ≡ 0 → bytes ≡ slot_bytes (frame_of current_version layout) → length (text t) ≤ bytes → length (text t) ≤ slot_bytes narrow_frame
fits_early {layout} {bytes} t e room fits = omega (arith, room, fits, slot_early e)

-- no layout has more extents than a group may have
pub few_extents : {count : ℕ} (layout : ℕ) → count ≤ most_extents layout → count ≤ extent_limit
unfolding most_extents
few_extents {count} layout = by (eqb layout 0)
  where
    by : (narrow : Bool) → count ≤ cond narrow 65536 1048576 → count ≤ extent_limit
    by true few = omega (arith, few)
    by false few = omega (arith, few)

-- and a stop leaves the one table
pub leaves_early : (size area : ℕ) (h : Held) (p : Plate) (at : Pointer) (t u : VolumeTable) (version bytes : ℕ) (image : ℕ → List ℕ) → area_place p.layout + area ≤ size → p.count ≤ most_extents p.layout
    → IsVersionOf version p.layout → version < current_version → bytes ≡ slot_bytes (frame_of current_version p.layout) → length (text t) ≤ bytes
    → IsBeingTaken size h p at t → LeavesGroup size h p u image → IsBefore area t (area_of p.layout h) u image
leaves_early size area h p at t u version bytes image on few known early room fits taken l =
    let narrow = layout_early known early in
    let shown = taken_shows taken (omega (arith, on, place_early narrow)) (fits_early t narrow room fits) l.whole l.allowed in
    record {
      table_is = sym (stands_once size l.whole p shown.0 l.pointer t u (few_extents p.layout few) shown.1 l.stands);
      sectors = λ q below. let P : List ℕ → Type 0 = λ v. May (area_of p.layout h) q v in subst P (sym (l.sectors q)) (l.allowed (area_place p.layout + q) (omega (arith, on, below)));
    }
