-- What an image shows of a label and a header that are right; it shows one pointer and one table alone.
use Rattle.std.proofs.Common.{◌≡◌, ◌⊎◌, inl, inr, zero, suc, ℕ, ◌+◌, ◌-◌, ◌*◌, ◌/◌, ◌<◌, ◌≤◌, Bool, true, false, cond, not, leb, ltb, eqb, List, take, Result, Ok, Err, refl, sym, ap, subst, ◌∙◌, arith}
use Rattle.std.proofs.Math.Nat.{mul-le-mul_right, div-mul-le_self}
use Rattle.std.proofs.lemmas.Bool.{and_parts, leb-true, ltb-true}
use Rattle.std.proofs.lemmas.Grind.{div_ceil_times}
use Rattle.std.proofs.lemmas.Slice.Eq.{bytes_eq-Decides}
use Rattle.std.specs.Int.{is_power_of_two}
use Rattle.std.specs.Str.{bytes_eq}
use Rattle.sm_base.specs.Limits.{extent_limit}
use Rattle.sm_base.proofs.NumberLemmas.{div_up-div_ceil}
use Rattle.sm_base.specs.Numbers.{div_up}
use Rattle.sm_base.specs.declared.faults.OpenFault.{OpenFault}
use Rattle.sm_base.specs.declared.faults.OpenFault.TheVariants.{Damaged, NotARepository, Unsupported}
use Rattle.sm_base.specs.declared.faults.Place.TheVariants.{Header, Label}
use Rattle.vg_meta.specs.Tables.{VolumeTable}
use Rattle.vg_meta.specs.Reading.{Spells, SpellsBy}
use Rattle.vg_meta.specs.declared.grammars.Grammar.TheVariants.{Listed}
use Rattle.vg_meta.proofs.TextLaws.{spells_once}
use Rattle.vg_layout.specs.Places.{Frame, IsApart, frame_of, area_place, record_extents, label_place, extents_on, most_extents, slot_bytes}
use Rattle.vg_layout.specs.Sectors.{Plate, Pointer, label_cookie, label_sector, is_geometry, plate_in, pointer_in, version_in}
use Rattle.vg_layout.specs.Opening.{StandsOn, frame_in, grammar_of, version_of, plate_of, pointer_by, pointer_of, is_version, is_label_right, is_header_right, text_in}
use Rattle.vg_layout.proofs.FrameLaws.{frame_apart}

pub record IsRightPointer (f : Frame) (h : Pointer) : Type 0 where
  pub slot : h.slot ≤ 1
  pub size : h.size ≤ slot_bytes f

pub pointer_right_by : (f : Frame) (sector : List ℕ) (h : Pointer) → pointer_by f sector ≡ Ok h → IsRightPointer f h
unfolding pointer_by is_header_right
pointer_right_by f sector h e = go (is_header_right f sector) refl e
  where
    go : (b : Bool) → is_header_right f sector ≡ b → cond b (Ok (pointer_in sector)) (Err (Damaged Header)) ≡ Ok h → IsRightPointer f h
    go false r x = absurd cc
    go true r x =
        let p = pointer_in sector in
        let same : p ≡ h = cc in
        let a = and_parts _ _ r in
        let b = and_parts (leb p.slot 1) (leb p.size (slot_bytes f)) a.1 in
        let right : IsRightPointer f p = record { slot = leb-true _ _ b.0; size = leb-true _ _ b.1 } in
        subst (IsRightPointer f) same right

pub pointer_right : (m : ℕ → List ℕ) (h : Pointer) → pointer_of m ≡ Ok h → IsRightPointer (frame_in m) h
unfolding pointer_of
pointer_right m h e = pointer_right_by (frame_in m) (m (frame_in m).header) h e

-- what the checks of a label say of its version and of its fields
pub record IsRightPlate (size : ℕ) (m : ℕ → List ℕ) (p : Plate) : Type 0 where
  pub version : is_version (version_of m) ≡ true
  pub fields : plate_in (m label_place) ≡ p
  pub spelled : m label_place ≡ label_sector (version_of m) p
  pub sizes : is_geometry p.extent p.block p.entries ≡ true
  pub layout : p.layout < version_of m
  pub most : p.count ≤ extents_on p.layout size p.extent
  pub least : record_extents p.extent ≤ p.count
  pub extent : 32 ≤ p.extent

pub plate_right : (size : ℕ) (m : ℕ → List ℕ) (p : Plate) → plate_of size m ≡ Ok p → IsRightPlate size m p
unfolding plate_of is_label_right is_geometry
plate_right size m p e = go (ltb size 2) (not (bytes_eq (take 8 (m label_place)) label_cookie)) (is_version (version_of m)) refl (is_label_right size (m label_place)) refl e
  where
    go : (a b c : Bool) → is_version (version_of m) ≡ c → (d : Bool) → is_label_right size (m label_place) ≡ d
        → cond a (Err NotARepository) (cond b (Err NotARepository) (cond (not c) (Err (Unsupported (version_of m))) (cond d (Ok (plate_in (m label_place))) (Err (Damaged Label))))) ≡ Ok p → IsRightPlate size m p
    go true b c v d r x = absurd cc
    go false true c v d r x = absurd cc
    go false false false v d r x = absurd cc
    go false false true v false r x = absurd cc
    go false false true v true r x =
        let q = plate_in (m label_place) in
        let same : q ≡ p = cc in
        let right = and_parts (bytes_eq (m label_place) (label_sector (version_of m) q)) _ r in
        let layouts = and_parts (ltb q.layout (version_of m)) _ right.1 in
        let sizes = and_parts (is_geometry q.extent q.block q.entries) _ layouts.1 in
        let counts = and_parts (leb q.count (extents_on q.layout size q.extent)) _ sizes.1 in
        let powers = and_parts (is_power_of_two q.extent) _ sizes.0 in
        let wide = and_parts (leb 32 q.extent) _ powers.1 in
        let is : IsRightPlate size m q =
        record { version = v; fields = refl; spelled = (bytes_eq-Decides (m label_place) (label_sector (version_of m) q)).0 right.0; sizes = sizes.0; layout = ltb-true _ _ layouts.0; most = leb-true _ _ counts.0; least = leb-true _ _ counts.1; extent = leb-true _ _ wide.0 } in
        subst (IsRightPlate size m) same is

-- the version is 1 or 2
pub plate_version : (size : ℕ) (m : ℕ → List ℕ) (p : Plate) → plate_of size m ≡ Ok p → (version_of m ≡ 1) ⊎ (version_of m ≡ 2)
plate_version size m p e =
    let parts = and_parts (leb 1 (version_of m)) (leb (version_of m) 2) (plate_right size m p e).version in
    one_or_two (version_of m) (leb-true _ _ parts.0) (leb-true _ _ parts.1)
  where
    one_or_two : (v : ℕ) → 1 ≤ v → v ≤ 2 → (v ≡ 1) ⊎ (v ≡ 2)
    one_or_two zero some most = absurd (omega (arith, some))
    one_or_two (suc zero) some most = inl refl
    one_or_two (suc (suc zero)) some most = inr refl
    one_or_two (suc (suc (suc n))) some most = absurd (omega (arith, most))

-- what is spelled by the grammar of a version is spelled by that of an image of this version
pub spells_by : (m : ℕ → List ℕ) (version count : ℕ) (bytes : List ℕ) (t : VolumeTable) → version_of m ≡ version → SpellsBy (grammar_of version) count bytes t
    → SpellsBy (grammar_of (version_of m)) count bytes t
spells_by m version count bytes t is = subst (λ (v : ℕ). SpellsBy (grammar_of v) count bytes t) (sym is)

-- the label says the frame
pub plate_frame : (size : ℕ) (m : ℕ → List ℕ) (p : Plate) → plate_of size m ≡ Ok p → frame_in m ≡ frame_of (version_of m) p.layout
plate_frame size m p e = ap (λ (q : Plate). frame_of (version_of m) q.layout) (plate_right size m p e).fields

-- whose parts stand apart in front of the extents
pub plate_apart : (size : ℕ) (m : ℕ → List ℕ) (p : Plate) → plate_of size m ≡ Ok p → IsApart (frame_in m) (area_place p.layout)
plate_apart size m p e = subst (λ (f : Frame). IsApart f (area_place p.layout)) (sym (plate_frame size m p e)) (frame_apart (version_of m) p.layout)

-- no layout has more extents
most_few : (layout : ℕ) → most_extents layout ≤ 1048576
unfolding most_extents
most_few layout = by (eqb layout 0)
  where
    by : (b : Bool) → cond b 65536 1048576 ≤ 1048576
    by true = omega arith
    by false = omega arith

-- a group has no more extents than any layout
pub right_few : {size : ℕ} {m : ℕ → List ℕ} {p : Plate} → IsRightPlate size m p → p.count ≤ extent_limit
unfolding extents_on
right_few {size} {m} {p} right =
    let most = right.most in
    let few : most_extents p.layout ≤ 1048576 = most_few p.layout in
    omega (arith, most, few)

pub plate_few : (size : ℕ) (m : ℕ → List ℕ) (p : Plate) → plate_of size m ≡ Ok p → p.count ≤ extent_limit
plate_few size m p e = right_few (plate_right size m p e)

-- and they are on the device
pub plate_area : (size : ℕ) (m : ℕ → List ℕ) (p : Plate) → plate_of size m ≡ Ok p → area_place p.layout + p.count * p.extent ≤ size
unfolding extents_on record_extents
plate_area size m p e =
    let r = plate_right size m p e in
    let some : 0 < p.extent = omega (arith, r.extent) in
    let up = div_up-div_ceil 512 p.extent some in
    let rounded = (div_ceil_times 512 p.extent some).0 in
    let enough : 512 ≤ div_up 512 p.extent * p.extent = rw (← up) rounded in
    let least : div_up 512 p.extent * p.extent ≤ p.count * p.extent = mul-le-mul_right p.extent r.least in
    let few : p.count ≤ (size - area_place p.layout) / p.extent = omega (arith, r.most) in
    let most : p.count * p.extent ≤ (size - area_place p.layout) / p.extent * p.extent = mul-le-mul_right p.extent few in
    let whole = div-mul-le_self (size - area_place p.layout) p.extent in
    omega (arith, enough, least, most, whole)

ok_same : (r : Result Pointer OpenFault) (h k : Pointer) → r ≡ Ok h → r ≡ Ok k → h ≡ k
ok_same r h k e f = cc

-- a device shows one pointer
pub pointer_once : (size : ℕ) (m : ℕ → List ℕ) (p : Plate) (h k : Pointer) (t u : VolumeTable)
    → StandsOn size m (record { plate = p; pointer = h; table = t }) → StandsOn size m (record { plate = p; pointer = k; table = u }) → h ≡ k
pointer_once size m p h k t u a b = ok_same (pointer_of m) h k a.headed b.headed

-- a device shows one table
pub stands_once : (size : ℕ) (m : ℕ → List ℕ) (p : Plate) (h k : Pointer) (t u : VolumeTable) → p.count ≤ extent_limit
    → StandsOn size m (record { plate = p; pointer = h; table = t }) → StandsOn size m (record { plate = p; pointer = k; table = u }) → t ≡ u
stands_once size m p h k t u few a b =
    let same : h ≡ k = ok_same (pointer_of m) h k a.headed b.headed in
    let P : Pointer → Type 0 = λ x. SpellsBy (grammar_of (version_of m)) p.count (text_in m x) t in
    spells_once (grammar_of (version_of m)) p.count (text_in m k) t u (omega arith) (subst P same a.spelled) b.spelled
