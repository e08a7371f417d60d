-- The tests of a label and of a table header, in the words of the program.
use Rattle.std.proofs.Common.{◌≡◌, ℕ, ◌<◌, ◌≤◌, Bool, true, false, ◌&&◌, leb, ltb, List, [], ◌++◌, refl, append_assoc, arith}
use Rattle.std.proofs.lemmas.Bool.{and_parts, leb-false, leb-true, le-leb, le-ltb, lt-ltb}
use Rattle.std.proofs.lemmas.Slice.Eq.{bytes_eq-Decides}
use Rattle.std.specs.Int.{is_power_of_two}
use Rattle.std.specs.Str.{bytes_eq}
use Rattle.sm_base.specs.Numbers.{IsGeometry}
use Rattle.vg_layout.specs.Places.{Frame, extents_on, record_extents, slot_bytes}
use Rattle.vg_layout.specs.Sectors.{Plate, number_at, label_sector, header_sector, plate_in, pointer_in, version_in, is_geometry}
use Rattle.vg_layout.specs.Opening.{is_label_right, is_header_right, is_version}

-- ---- the ranges of the three sizes

pub geometry_from : (extent block entries : ℕ) → is_geometry extent block entries ≡ true → IsGeometry extent block entries
unfolding is_geometry
geometry_from extent block entries h =
    let a = and_parts (is_power_of_two extent) _ h in
    let b = and_parts (leb 32 extent) _ a.1 in
    let c = and_parts (leb extent 8192) _ b.1 in
    let d = and_parts (is_power_of_two block) _ c.1 in
    let e = and_parts (leb 8 block) _ d.1 in
    let f = and_parts (leb block 4096) _ e.1 in
    let g = and_parts (leb block extent) _ f.1 in
    let i = and_parts (leb 1 entries) (leb entries 1044480) g.1 in
    record {
      extent_power = a.0;
      extent_least = leb-true _ _ b.0;
      extent_most = leb-true _ _ c.0;
      block_power = d.0;
      block_least = leb-true _ _ e.0;
      block_most = leb-true _ _ f.0;
      within = leb-true _ _ g.0;
      entries_least = leb-true _ _ i.0;
      entries_most = leb-true _ _ i.1;
    }

pub geometry_true : (extent block entries : ℕ) → IsGeometry extent block entries → is_geometry extent block entries ≡ true
unfolding is_geometry
geometry_true extent block entries g =
    rw (g.extent_power, le-leb 32 extent g.extent_least, le-leb extent 8192 g.extent_most, g.block_power, le-leb 8 block g.block_least, le-leb block 4096 g.block_most, le-leb block extent g.within, le-leb 1 entries g.entries_least, le-leb entries 1044480 g.entries_most) refl

pub geometry_false : (extent block entries : ℕ) → (IsGeometry extent block entries → ⊥) → is_geometry extent block entries ≡ false
geometry_false extent block entries none = go (is_geometry extent block entries) refl
  where
    go : (b : Bool) → is_geometry extent block entries ≡ b → b ≡ false
    go false e = refl
    go true e = absurd (none (geometry_from extent block entries e))

-- ---- tests

pub and_wrong : (a b : Bool) → b ≡ false → (a && b) ≡ false
and_wrong true b wrong = wrong
and_wrong false b wrong = refl

none_right : (a b : Bool) → (a && (false && b)) ≡ false
none_right true b = refl
none_right false b = refl

none_behind : (a b c : Bool) → (a && (b && (false && c))) ≡ false
none_behind true b c = none_right b c
none_behind false b c = refl

-- a layout that is none, or sizes out of their ranges
pub wrong_fields : (size : ℕ) (sector : List ℕ) → is_version (version_in sector) ≡ true
    → (leb (number_at 44 sector) 1 && is_geometry (number_at 28 sector) (number_at 32 sector) (number_at 36 sector)) ≡ false → is_label_right size sector ≡ false
unfolding is_label_right plate_in
wrong_fields size sector version h = by (leb (number_at 44 sector) 1) refl h
  where
    p : Plate
    p = plate_in sector

    by : (b : Bool) → leb (number_at 44 sector) 1 ≡ b → (b && is_geometry p.extent p.block p.entries) ≡ false → is_label_right size sector ≡ false
    by false none wrong =
        let most = leb-true _ _ (and_parts (leb 1 (version_in sector)) (leb (version_in sector) 2) version).1 in
        let high : ltb p.layout (version_in sector) ≡ false = le-ltb p.layout (version_in sector) (omega (arith, most, leb-false _ _ none)) in
        rw high (none_right (bytes_eq sector (label_sector (version_in sector) p)) (is_geometry p.extent p.block p.entries && (leb p.count (extents_on p.layout size p.extent) && leb (record_extents p.extent) p.count)))
    by true some wrong =
        rw wrong (none_behind (bytes_eq sector (label_sector (version_in sector) p)) (ltb p.layout (version_in sector)) (leb p.count (extents_on p.layout size p.extent) && leb (record_extents p.extent) p.count))

pub label_right : (size version : ℕ) (sector : List ℕ) (p : Plate) → version_in sector ≡ version → plate_in sector ≡ p → sector ≡ label_sector version p → p.layout < version
    → IsGeometry p.extent p.block p.entries → p.count ≤ extents_on p.layout size p.extent → record_extents p.extent ≤ p.count → is_label_right size sector ≡ true
unfolding is_label_right
label_right size version sector p is fields same layout g most least =
    let eq : bytes_eq sector (label_sector version p) ≡ true = (bytes_eq-Decides sector (label_sector version p)).1 same in
    rw (is, fields, eq, lt-ltb p.layout version layout, geometry_true p.extent p.block p.entries g, le-leb p.count (extents_on p.layout size p.extent) most, le-leb (record_extents p.extent) p.count least) refl

pub wrong_slot : (f : Frame) (sector : List ℕ) → leb (number_at 8 sector) 1 ≡ false → is_header_right f sector ≡ false
unfolding is_header_right pointer_in
wrong_slot f sector h =
    let there = pointer_in sector in
    rw h (none_right (bytes_eq sector (header_sector there)) (leb there.size (slot_bytes f)))

-- ---- fields that are written one behind the other

pub five : (a b c d e : List ℕ) → (((([] ++ a) ++ b) ++ c) ++ d) ++ e ≡ a ++ (b ++ (c ++ (d ++ e)))
five a b c d e = simp append_assoc

pub nine : (a b c d e f g h i : List ℕ) → (((((((([] ++ a) ++ b) ++ c) ++ d) ++ e) ++ f) ++ g) ++ h) ++ i ≡ a ++ (b ++ (c ++ (d ++ (e ++ (f ++ (g ++ (h ++ i)))))))
nine a b c d e f g h i = simp append_assoc
