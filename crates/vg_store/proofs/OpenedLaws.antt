-- What stands on a device that an opening synced and read.
use Rattle.std.proofs.Common.{◌≡◌, ◌⊎◌, inl, inr, Bool, true, false, not, ℕ, ◌+◌, ◌*◌, ◌<◌, ◌≤◌, List, length, sum, refl, sym, ap, subst, ◌∙◌, arith}
use Rattle.std.proofs.lemmas.Bool.{cases_lt, eqb-true}
use Rattle.std.specs.Prelude.{nat_eq}
use Rattle.sm_base.specs.declared.faults.OpenFault.{OpenFault}
use Rattle.sm_disk.specs.Held.{Held, Allows, IsSettled, Keeps, May, SameHeld, reads}
use Rattle.sm_disk.proofs.HeldLaws.{may_settled, Keeps-same, Keeps-then, reads-settled}
use Rattle.vg_meta.specs.declared.grammars.Grammar.TheVariants.{Listed, Segmented}
use Rattle.vg_meta.specs.Tables.{VolumeTable}
use Rattle.vg_meta.specs.Text.{text, text_by}
use Rattle.vg_meta.specs.Reading.{Spells, SpellsBy}
use Rattle.vg_meta.proofs.DecodeLaws.{used-le}
use Rattle.vg_meta.proofs.TextLaws.{length-against}
use Rattle.vg_layout.specs.Places.{area_place, frame_of, most_extents, slot_bytes}
use Rattle.vg_layout.specs.Sectors.{Plate, Pointer}
use Rattle.vg_layout.specs.Opening.{IsRefused, grammar_of, text_in}
use Rattle.vg_volumes.specs.Commits.{current_version}
use Rattle.vg_upgrade.specs.Upgrades.{IsBeingTaken}
use Rattle.vg_upgrade.proofs.RestLaws.{taken_again}
use Rattle.vg_upgrade.proofs.UpgradeLaws.{taken_none}
use Rattle.vg_store.specs.Groups.{IsVersionOf, Rests, IsGroup, GroupStands, area_of}
use Rattle.vg_store.specs.Openings.{HasTextOf, IsAnswer, IsFoundOn, IsKnown}
use Rattle.vg_store.proofs.CommitLaws.{stands_now}
use Rattle.vg_store.proofs.HoldingLaws.{standing_from}
use Rattle.vg_store.proofs.OpeningLaws.{answer_from}

-- at each place the same is read
same_image : (a b : ℕ → List ℕ) → ((q : ℕ) → a q ≡ b q) → a ≡ b
same_image a b same = λ i q. same q i

still_settled : {b c : Held} → IsSettled b → SameHeld b c → IsSettled c
still_settled s same q = same.pending q ∙ s q

-- the floor is what was read
floor_is : {b c : Held} → IsSettled b → SameHeld b c → reads b ≡ c.floor
floor_is {b} {c} s same = same_image (reads b) c.floor (λ q. reads-settled b q (s q) ∙ sym (same.floor q))

-- what was read stands on the floor
floor_stands : {size version : ℕ} {b c : Held} {p : Plate} {at : Pointer} {t : VolumeTable} → IsSettled b → SameHeld b c → IsFoundOn size (reads b) version p at t → IsFoundOn size c.floor version p at t
floor_stands {size} {version} {b} {c} {p} {at} {t} s same = subst (λ (m : ℕ → List ℕ). IsFoundOn size m version p at t) (floor_is s same)

-- and a stop leaves nothing else
floor_still : {b c : Held} → IsSettled b → SameHeld b c → (q : ℕ) (v : List ℕ) → May c q v → v ≡ c.floor q
floor_still {b} {c} s same q v m = may_settled c q v (still_settled s same q) m ∙ reads-settled c q (still_settled s same q)

-- the text of a group of the current version is the one by segments
named_now : {version count : ℕ} {at : Pointer} {t : VolumeTable} → version ≡ current_version → HasTextOf (grammar_of version) count at t → HasTextOf Segmented count at t
unfolding grammar_of
named_now {version} {count} {at} {t} is = subst (λ (v : ℕ). HasTextOf (grammar_of v) count at t) is

named_first : {version count : ℕ} {at : Pointer} {t : VolumeTable} → version ≡ 1 → HasTextOf (grammar_of version) count at t → HasTextOf Listed count at t
unfolding grammar_of
named_first {version} {count} {at} {t} is = subst (λ (v : ℕ). HasTextOf (grammar_of v) count at t) is

opened_rests : {size version : ℕ} {b c : Held} {p : Plate} {at : Pointer} {t : VolumeTable} → version ≡ current_version → IsSettled b → SameHeld b c → IsFoundOn size (reads b) version p at t
    → HasTextOf (grammar_of version) p.count at t → Rests size c p at (text t)
unfolding grammar_of
opened_rests {size} {version} {b} {c} {p} {at} {t} is s same found named =
    let f = floor_stands s same found in
    let by : SpellsBy (grammar_of 2) p.count (text_in c.floor at) t = subst (λ (v : ℕ). SpellsBy (grammar_of v) p.count (text_in c.floor at) t) (f.says ∙ is) f.stands.spelled in
    record {
      still = λ q v below m. floor_still s same q v m;
      current = f.says ∙ is;
      labelled = f.stands.labelled;
      headed = f.stands.headed;
      text = by.spelled;
    }

-- in version 1 nothing of an upgrade was begun
opened_taken : {size version : ℕ} {b c : Held} {p : Plate} {at : Pointer} {t : VolumeTable} → version ≡ 1 → IsSettled b → SameHeld b c → IsFoundOn size (reads b) version p at t → IsBeingTaken size c p at t
opened_taken {size} {version} {b} {c} {p} {at} {t} is s same found =
    let f = floor_stands s same found in
    taken_again (taken_none size c p at t f.stands (f.says ∙ is) (λ q v low m. floor_still s same q v m))

-- what an open group is, whatever the device tells
pub record IsOpened (size version bytes : ℕ) (p : Plate) (at : Pointer) (t : VolumeTable) : Type 0 where
  pub few : p.count ≤ most_extents p.layout
  pub area : area_place p.layout + p.count * p.extent ≤ size
  pub known : IsVersionOf version p.layout
  pub spelled : Spells p.count (text t) t
  pub fits : length (text t) ≤ bytes
  pub summed : version ≡ current_version → sum (text t) ≡ at.total

one_or_current : {version layout : ℕ} → IsVersionOf version layout → (version ≡ 1) ⊎ (version ≡ current_version)
one_or_current {version} {layout} k =
    let some = k.some in
    let most = k.most in
    elim (cases_lt version 2) [
      | inl early ↦ inl (omega (arith, some, early))
      | inr now ↦ inr (omega (arith, most, now))
    ]

pub opened_known : {size now version bytes : ℕ} {p : Plate} {at : Pointer} {t : VolumeTable} → now ≡ size → bytes ≡ slot_bytes (frame_of current_version p.layout) → IsKnown size version p at t → IsOpened now version bytes p at t
unfolding most_extents frame_of
opened_known {size} {now} {version} {bytes} {p} {at} {t} same room k = record {
  few = k.label.few;
  area = let fits = k.label.area in omega (arith, fits, same);
  known = k.label.known;
  spelled = let s = k.table.spelled in record { spelled = refl; table = s.table; fits = s.fits };
  fits = by (one_or_current k.label.known);
  summed = λ is. (named_now is k.table).total;
}
  where
    first : version ≡ 1 → length (text t) ≤ bytes
    first is =
        let low = k.label.known.narrow in
        let narrow : p.layout ≡ 0 = omega (arith, low, is) in
        let most : p.count ≤ 65536 = subst (λ (l : ℕ). p.count ≤ most_extents l) narrow k.label.few in
        let slot : slot_bytes (frame_of version p.layout) ≡ 524288 = ap (λ (v : ℕ). slot_bytes (frame_of v p.layout)) is ∙ refl in
        let buffer : slot_bytes (frame_of current_version p.layout) ≡ 1047040 = ap (λ (l : ℕ). slot_bytes (frame_of current_version l)) narrow ∙ refl in
        let old = named_first is k.table in
        let listed : length (text_by Listed t) ≤ 524288 = omega (arith, old.size, k.short, slot) in
        let used = used-le p.count t.volumes old.spelled.table.volumes in
        omega (arith, length-against t, listed, used, most, room, buffer)

    by : (version ≡ 1) ⊎ (version ≡ current_version) → length (text t) ≤ bytes
    by (inl is) = first is
    by (inr is) =
        let own = named_now is k.table in
        let slot : slot_bytes (frame_of version p.layout) ≡ slot_bytes (frame_of current_version p.layout) = ap (λ (v : ℕ). slot_bytes (frame_of v p.layout)) is in
        omega (arith, own.size, k.short, slot, room)

pub opened_now : {size now version : ℕ} {b c : Held} {p : Plate} {at : Pointer} {t : VolumeTable} → now ≡ size → version ≡ current_version → IsSettled b → SameHeld b c
    → IsFoundOn size (reads b) version p at t → IsKnown size version p at t → Rests now c p at (text t)
opened_now {size} {now} {version} {b} {c} {p} {at} {t} is current s same found known = subst (λ (n : ℕ). Rests n c p at (text t)) (sym is) (opened_rests current s same found known.table)

pub opened_early : {size now version : ℕ} {b c : Held} {p : Plate} {at : Pointer} {t : VolumeTable} → now ≡ size → version < current_version → IsSettled b → SameHeld b c
    → IsFoundOn size (reads b) version p at t → IsKnown size version p at t → IsBeingTaken now c p at t
opened_early {size} {now} {version} {b} {c} {p} {at} {t} is early s same found known =
    let some = known.label.known.some in
    let first : version ≡ 1 = omega (arith, some, early) in
    subst (λ (n : ℕ). IsBeingTaken n c p at t) (sym is) (opened_taken first s same found)

-- what opens as usable is of the current version
pub current_from : (version : ℕ) → not (nat_eq version current_version) ≡ false → version ≡ current_version
current_from version usable = by (nat_eq version current_version) (eqb-true version current_version) usable
  where
    by : (same : Bool) → (same ≡ true → version ≡ current_version) → not same ≡ false → version ≡ current_version
    by true is usable = is refl
    by false is usable = absurd cc

-- on each image that may be left a group with the label stands
pub opened_stands : {size now version : ℕ} {b c : Held} {p : Plate} {at : Pointer} {t : VolumeTable} → now ≡ size → IsSettled b → SameHeld b c
    → IsFoundOn size (reads b) version p at t → IsKnown size version p at t → (image : ℕ → List ℕ) → Allows now c image → GroupStands now image p
opened_stands {size} {now} {version} {b} {c} {p} {at} {t} is s same found known image allowed =
    let fits = known.label.area in
    let f = floor_stands s same found in
    subst (λ (n : ℕ). GroupStands n image p) (sym is)
    (standing_from size c.floor image p (λ q low. floor_still s same q (image q) (allowed q (omega (arith, fits, low, is)))) (record { pointer = at; table = t; stands = f.stands }))

-- on each image that may be left, a group that stands does
pub group_stands : (size area : ℕ) (c : Held) (p : Plate) (at : Pointer) (t : VolumeTable) (bytes : List ℕ) (image : ℕ → List ℕ) → area_place p.layout + area ≤ size
    → IsGroup size c p at t bytes → Allows size c image → GroupStands size image p
group_stands size area c p at t bytes image fits g allowed = record {
  pointer = at;
  table = t;
  stands = stands_now size c p at t bytes image (omega (arith, fits)) g allowed;
}

-- a read before the sync gave the same
pub opened_before : {size version : ℕ} {a b : Held} {p : Plate} {at : Pointer} {t : VolumeTable} → Keeps a b → IsFoundOn size (reads b) version p at t → IsFoundOn size (reads a) version p at t
opened_before {size} {version} {a} {b} {p} {at} {t} k = subst (λ (m : ℕ → List ℕ). IsFoundOn size m version p at t) (same_image (reads b) (reads a) k.reads)

pub opened_keeps : {a b c : Held} → Keeps a b → SameHeld b c → Keeps a c
opened_keeps k same = Keeps-then k (Keeps-same same)

pub opened_area : {a b c : Held} (layout : ℕ) → Keeps a b → SameHeld b c → Keeps (area_of layout a) (area_of layout c)
opened_area layout k same = let all = opened_keeps k same in record { reads = λ q. all.reads (area_place layout + q); may = λ q v m. all.may (area_place layout + q) v m }

pub opened_settled : {b c : Held} → IsSettled b → SameHeld b c → IsSettled c
opened_settled s same = still_settled s same

-- and was refused alike
pub refused_before : (T : Type 0) (size before mid now : ℕ) (a b : Held) (e : OpenFault) → mid ≡ before → (T → Keeps a b)
    → IsAnswer (λ f. T → IsRefused size (reads b) f) mid now e → IsAnswer (λ f. T → IsRefused size (reads a) f) before now e
refused_before T size before mid now a b e same k is =
    answer_from (λ (f : OpenFault). T → IsRefused size (reads b) f) (λ (f : OpenFault). T → IsRefused size (reads a) f) before mid now e same
    (λ f refused told. let P : (ℕ → List ℕ) → Type 0 = λ m. IsRefused size m f in subst P (same_image (reads b) (reads a) (k told).reads) (refused told)) is
