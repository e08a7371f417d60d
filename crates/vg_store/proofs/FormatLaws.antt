-- What stands after each stage of a format, and what a stop leaves.
use Rattle.std.proofs.Common.{◌≡◌, ℕ, ◌+◌, ◌-◌, ◌*◌, ◌<◌, ◌≤◌, ◌⊎◌, inl, inr, Bool, true, false, cond, eqb, ltb, Result, List, length, take, drop, replicate, Err, refl, sym, ap, subst, ◌∙◌, arith}
use Rattle.std.proofs.lemmas.Bool.{cases_eq}
use Rattle.std.proofs.lemmas.List.{drop-replicate, take-replicate, length-replicate}
use Rattle.sm_base.specs.declared.faults.OpenFault.{OpenFault}
use Rattle.sm_base.specs.declared.faults.OpenFault.TheVariants.{NotARepository}
use Rattle.sm_disk.specs.Held.{Held, IsIn, Keeps, May, Allows, IsSettled, Torn, Wrote, Reaches, Puts, Gave, ReadsElsewhere, reads}
use Rattle.sm_disk.proofs.HeldLaws.{gave_one, in_one, reads-elsewhere, reads-settled, reads-wrote, torn_from_wrote}
use Rattle.sm_disk.proofs.ReachesLaws.{Reaches-torn, Reaches-wider, may_reached}
use Rattle.sm_disk.proofs.SectorLaws.{sector-one}
use Rattle.sm_disk.specs.Sectors.{sector, zeros}
use Rattle.vg_layout.specs.Places.{area_place, frame_of, label_place, narrow_frame, slot_bytes, slot_place, wide_frame}
use Rattle.vg_layout.specs.Sectors.{Plate, Pointer, header_sector, label_sector}
use Rattle.vg_layout.specs.Opening.{plate_of}
use Rattle.vg_volumes.specs.Commits.{current_version}
use Rattle.vg_store.specs.Groups.{beside_of}
use Rattle.vg_store.specs.Formats.{IsBehindLabel, IsBlank, IsFormatPlace, IsFormatWrite, StandsBehindLabel, IsLaidOut, IsLeftOf, new_frame}
use Rattle.vg_store.proofs.BesideLaws.{IsBesideAt, beside_apart}

-- ---- zeros

pub zeros_long : (xs : List ℕ) (n : ℕ) → xs ≡ replicate n 0 → length xs ≡ n
zeros_long xs n is = ap length is ∙ length-replicate n 0

pub blank_from : (xs : List ℕ) (n : ℕ) → xs ≡ replicate n 0 → IsBlank xs
unfolding sector zeros
blank_from xs n is = λ i fits.
    ap (λ (l : List ℕ). take 512 (drop (512 * i) l)) is
    ∙ ap (take 512) (drop-replicate (512 * i) n 0)
    ∙ take-replicate 512 (n - 512 * i) 0 (omega (arith, fits, zeros_long xs n is))

pub zeros_is : (xs : List ℕ) → xs ≡ replicate 512 0 → xs ≡ zeros
unfolding zeros
zeros_is xs is = is

-- the label was taken away
pub cleared_reads : (h : Held) (none : List ℕ) → none ≡ replicate 512 0 → Gave label_place h none → reads h label_place ≡ zeros
cleared_reads h none same gave = sym (gave_one label_place h none (zeros_long none 512 same) gave) ∙ zeros_is none same

-- a sector of zeros is no label
pub no_label : (size : ℕ) (m : ℕ → List ℕ) → m label_place ≡ zeros → plate_of size m ≡ Err NotARepository
unfolding plate_of zeros
no_label size m is = rw is (by (ltb size 2))
  where
    none_here : Result Plate OpenFault
    none_here = Err NotARepository

    by : (b : Bool) → cond b none_here none_here ≡ none_here
    by true = refl
    by false = refl

-- ---- the sectors behind the label

pub narrow_area : area_place 0 ≡ 4096
unfolding area_place
narrow_area = refl

-- what a format writes stands in this order: label, header, text, records
pub record AreInOrder (layout : ℕ) : Type 0 where
  pub header : 0 < (new_frame layout).header
  pub slot : (new_frame layout).header < slot_place (new_frame layout) 0
  pub area : slot_place (new_frame layout) 0 < area_place layout

pub in_order : (layout : ℕ) → AreInOrder layout
unfolding frame_of area_place
in_order layout = record { header = header (eqb layout 0); slot = slot (eqb layout 0); area = area (eqb layout 0) }
  where
    header : (b : Bool) → 0 < (cond b narrow_frame wide_frame).header
    header true = omega arith
    header false = omega arith

    slot : (b : Bool) → (cond b narrow_frame wide_frame).header < (cond b narrow_frame wide_frame).first
    slot true = omega arith
    slot false = omega arith

    area : (b : Bool) → (cond b narrow_frame wide_frame).first < cond b 4096 37376
    area true = omega arith
    area false = omega arith

-- a slot has a sector or more
pub new_room : (layout : ℕ) → 512 ≤ slot_bytes (new_frame layout)
unfolding frame_of
new_room layout = by (eqb layout 0)
  where
    by : (b : Bool) → 512 ≤ slot_bytes (cond b narrow_frame wide_frame)
    by true = omega arith
    by false = omega arith

-- where the text is written
pub at_first : (layout slot : ℕ) → slot ≡ 0 → slot_place (new_frame layout) slot ≡ slot_place (new_frame layout) 0
at_first layout slot first = ap (λ (s : ℕ). slot_place (new_frame layout) s) first

-- one sector at a place of a format, and the sectors of the records, are places of a format
one_place : (layout at : ℕ) (bytes : List ℕ) → IsFormatPlace layout at → length bytes ≡ 512 → (q : ℕ) → IsIn at (length bytes) q → IsFormatPlace layout q
one_place layout at bytes place long q here = let P : ℕ → Type 0 = λ x. IsFormatPlace layout x in subst P (sym (in_one at (length bytes) q long here)) place

record_places : (layout : ℕ) (bytes : List ℕ) → length bytes ≡ 262144 → (q : ℕ) → IsIn (area_place layout) (length bytes) q → IsFormatPlace layout q
record_places layout bytes long q here = inr (inr (inr (here.0, omega (arith, long, here.1))))

pub torn_records : (layout from : ℕ) (bytes : List ℕ) (a b : Held) → from ≡ area_place layout → length bytes ≡ 262144 → Torn from bytes a b → Reaches (IsBehindLabel layout) a b
torn_records layout from bytes a b is long torn =
    let o = in_order layout in
    let t : Torn (area_place layout) bytes a b = subst (λ (x : ℕ). Torn x bytes a b) is torn in
    Reaches-wider (λ q v p. (omega (arith, p.0.0, o.area), record_places layout bytes long q p.0)) (Reaches-torn t)

pub torn_text : (layout slot at : ℕ) (bytes : List ℕ) (a b : Held) → slot ≡ 0 → at ≡ slot_place (new_frame layout) slot → length bytes ≡ 512 → Torn at bytes a b → Reaches (IsBehindLabel layout) a b
torn_text layout slot at bytes a b first is long t =
    let o = in_order layout in
    let place : at ≡ slot_place (new_frame layout) 0 = is ∙ at_first layout slot first in
    Reaches-wider (λ q v p. (omega (arith, p.0.0, place, o.slot), one_place layout at bytes (inr (inr (inl place))) long q p.0)) (Reaches-torn t)

pub put_header : (layout at : ℕ) (bytes : List ℕ) (a b : Held) → at ≡ (new_frame layout).header → length bytes ≡ 512 → Reaches (Puts at bytes) a b → Reaches (IsBehindLabel layout) a b
put_header layout at bytes a b is long r =
    let o = in_order layout in
    Reaches-wider (λ q v p. (omega (arith, p.0.0, is, o.header), one_place layout at bytes (inr (inl is)) long q p.0)) r

-- the label is written at one, too
pub put_label : (layout : ℕ) (bytes : List ℕ) (a b : Held) → length bytes ≡ 512 → Reaches (Puts label_place bytes) a b → Reaches (IsFormatWrite layout) a b
put_label layout bytes a b long r = Reaches-wider (λ q v p. one_place layout label_place bytes (inl refl) long q p.0) r

pub fills : (layout : ℕ) (a b : Held) → Reaches (IsBehindLabel layout) a b → Reaches (IsFormatWrite layout) a b
fills layout a b r = Reaches-wider (λ q v p. p.1) r

pub filled_after : (layout : ℕ) (a b c d : Held) (h : Pointer) (blank written head : List ℕ) (from place top : ℕ) → h.slot ≡ 0
    → from ≡ area_place layout → place ≡ slot_place (new_frame layout) h.slot → top ≡ (new_frame layout).header
    → length blank ≡ 262144 → IsBlank blank → length written ≡ 512 → head ≡ header_sector h → length head ≡ 512
    → Wrote from blank a b → Wrote place written b c → Gave top d head → ReadsElsewhere top (length head) c d
    → StandsBehindLabel layout h written (reads d)
filled_after layout a b c d h blank written head from place top first at_extents is top_is long each short head_is head_long wrote then gave elsewhere = record {
  header = ap (reads d) (sym top_is) ∙ sym (gave_one top d head head_long gave) ∙ head_is;
  text = ap (reads d) (sym is) ∙ elsewhere place (λ i. omega (arith, in_one top (length head) place head_long i, top_is, at, o.slot)) ∙ text;
  records = λ q below. elsewhere (area_place layout + q) (λ i. omega (arith, in_one top (length head) (area_place layout + q) head_long i, top_is, o.slot, o.area)) ∙ record_at q below;
}
  where
    o : AreInOrder layout
    o = in_order layout

    at : place ≡ slot_place (new_frame layout) 0
    at = is ∙ at_first layout h.slot first

    records_written : Wrote (area_place layout) blank a b
    records_written = subst (λ (x : ℕ). Wrote x blank a b) at_extents wrote

    text : reads c place ≡ written
    text =
        let none : place - place ≡ 0 = omega arith in
        reads-wrote then place (omega arith, omega (arith, short)) ∙ ap (λ i. sector written i) none ∙ sector-one written short

    record_at : (q : ℕ) → q < 512 → reads c (area_place layout + q) ≡ zeros
    record_at q below =
        let back : (area_place layout + q) - area_place layout ≡ q = omega arith in
        reads-elsewhere (torn_from_wrote then) (area_place layout + q) (λ i. omega (arith, in_one place (length written) (area_place layout + q) short i, at, o.area))
        ∙ reads-wrote records_written (area_place layout + q) (omega arith, omega (arith, long, below)) ∙ ap (λ i. sector blank i) back ∙ each q (omega (arith, long, below))

-- ---- what a stop leaves

-- while the label is being taken away
pub clear_crash : (size : ℕ) (a b : Held) (p : Plate) (h : Pointer) (written : List ℕ) (none : List ℕ) (image : ℕ → List ℕ) → 0 < size
    → Reaches (Puts label_place none) a b → Allows size b image → none ≡ replicate 512 0 → IsLeftOf size a p h written image
clear_crash size a b p h written none image some r allowed same = first (r.may label_place (image label_place) (allowed label_place some))
  where
    long : length none ≡ 512
    long = zeros_long none 512 same

    is : none ≡ zeros
    is = zeros_is none same

    each : May a label_place (image label_place) → (q : ℕ) → q < size → (q ≡ label_place) ⊎ (q ≡ label_place → ⊥) → May a q (image q)
    each was q below (inl e) = let P : ℕ → Type 0 = λ x. May a x (image x) in subst P (sym e) was
    each was q below (inr other) = at_place (r.may q (image q) (allowed q below))
      where
        at_place : May a q (image q) ⊎ Puts label_place none q (image q) → May a q (image q)
        at_place (inl m) = m
        at_place (inr (here, there)) = absurd (other (in_one label_place (length none) q long here))

    first : May a label_place (image label_place) ⊎ Puts label_place none label_place (image label_place) → IsLeftOf size a p h written image
    first (inl was) = inl (λ q below. each was q below (cases_eq q label_place))
    first (inr (here, there)) = inr (inl (no_label size image (there ∙ sector-one none long ∙ is)))

-- while the sectors behind it are being filled
pub fill_crash : (size layout : ℕ) (a b c : Held) (p : Plate) (h : Pointer) (written : List ℕ) (image : ℕ → List ℕ) → 0 < size
    → IsSettled b → reads b label_place ≡ zeros → Reaches (IsBehindLabel layout) b c → Allows size c image → IsLeftOf size a p h written image
fill_crash size layout a b c p h written image some settled none r allowed =
    inr (inl (no_label size image (by (may_reached settled r label_place (image label_place) (allowed label_place some)))))
  where
    by : (image label_place ≡ reads b label_place) ⊎ IsBehindLabel layout label_place (image label_place) → image label_place ≡ zeros
    by (inl same) = same ∙ none
    by (inr behind) = absurd (omega (arith, behind.0))

pub still_none : (layout : ℕ) (b c : Held) → reads b label_place ≡ zeros → Reaches (IsBehindLabel layout) b c → reads c label_place ≡ zeros
still_none layout b c none r = by (r.gives label_place)
  where
    by : (reads c label_place ≡ reads b label_place) ⊎ IsBehindLabel layout label_place (reads c label_place) → reads c label_place ≡ zeros
    by (inl same) = same ∙ none
    by (inr behind) = absurd (omega (arith, behind.0))

-- what shows all but the label as read shows what was filled
filled_shown : (layout : ℕ) (c : Held) (h : Pointer) (written : List ℕ) (m : ℕ → List ℕ) (size : ℕ) → area_place layout + 512 ≤ size → h.slot ≡ 0
    → ((q : ℕ) → 0 < q → q < size → m q ≡ reads c q) → StandsBehindLabel layout h written (reads c) → StandsBehindLabel layout h written m
filled_shown layout c h written m size room first same f =
    let o = in_order layout in
    let at = at_first layout h.slot first in
    record {
      header = same (new_frame layout).header o.header (omega (arith, o.slot, o.area, room)) ∙ f.header;
      text = same (slot_place (new_frame layout) h.slot) (omega (arith, at, o.slot)) (omega (arith, at, o.area, room)) ∙ f.text;
      records = λ q below. same (area_place layout + q) (omega (arith, o.area)) (omega (arith, room, below)) ∙ f.records q below;
    }

-- while the new label is being written
pub label_crash : (size : ℕ) (a c d : Held) (p : Plate) (h : Pointer) (written head : List ℕ) (image : ℕ → List ℕ) → area_place p.layout + 512 ≤ size
    → h.slot ≡ 0 → IsSettled c → reads c label_place ≡ zeros → StandsBehindLabel p.layout h written (reads c)
    → head ≡ label_sector current_version p → length head ≡ 512 → Reaches (Puts label_place head) c d → Allows size d image → IsLeftOf size a p h written image
label_crash size a c d p h written head image room first settled none f is long r allowed =
    by (may_reached settled r label_place (image label_place) (allowed label_place (omega arith)))
  where
    shown : (q : ℕ) → 0 < q → q < size → image q ≡ reads c q
    shown q behind below = at_place (may_reached settled r q (image q) (allowed q below))
      where
        at_place : (image q ≡ reads c q) ⊎ Puts label_place head q (image q) → image q ≡ reads c q
        at_place (inl same) = same
        at_place (inr (here, there)) = absurd (omega (arith, behind, in_one label_place (length head) q long here))

    by : (image label_place ≡ reads c label_place) ⊎ Puts label_place head label_place (image label_place) → IsLeftOf size a p h written image
    by (inl same) = inr (inl (no_label size image (same ∙ none)))
    by (inr (here, there)) =
        inr (inr (record { label = there ∙ sector-one head long ∙ is; filled = filled_shown p.layout c h written image size room first shown f }))

-- ---- the end

pub laid_after : (size : ℕ) (c d : Held) (p : Plate) (h : Pointer) (written head : List ℕ) → area_place p.layout + 512 ≤ size
    → h.slot ≡ 0 → StandsBehindLabel p.layout h written (reads c) → head ≡ label_sector current_version p → length head ≡ 512
    → IsSettled d → Gave label_place d head → ReadsElsewhere label_place (length head) c d → IsLaidOut p h written d.floor
laid_after size c d p h written head room first f is long settled gave elsewhere = record {
  label = floor_reads label_place ∙ sym (gave_one label_place d head long gave) ∙ is;
  filled = filled_shown p.layout c h written d.floor size room first (λ q behind below. floor_reads q ∙ elsewhere q (λ i. omega (arith, behind, in_one label_place (length head) q long i))) f;
}
  where
    floor_reads : (q : ℕ) → d.floor q ≡ reads d q
    floor_reads q = sym (reads-settled d q (settled q))

-- ---- what is kept

-- what a format writes is part of the group, which has the records' sectors or more in its extents
pub beside_formatted : (layout area : ℕ) (a b : Held) → 512 ≤ area → Reaches (IsFormatWrite layout) a b → Keeps (beside_of layout area a) (beside_of layout area b)
beside_formatted layout area a b some = beside_apart (IsFormatWrite layout) layout area a b (λ p v at here. by p at here)
  where
    o : AreInOrder layout
    o = in_order layout

    in_slot : (p : ℕ) → p ≡ slot_place (new_frame layout) 0
        → (p < slot_place (new_frame layout) 0) ⊎ (slot_place (new_frame layout) 0 + (new_frame layout).room ≤ p) → ⊥
    in_slot p is (inl front) = omega (arith, is, front)
    in_slot p is (inr behind) = omega (arith, is, behind, new_room layout)

    by : (p : ℕ) → IsBesideAt layout area p → IsFormatPlace layout p → ⊥
    by p (inl front) (inl label) = omega (arith, front.1.label, label)
    by p (inl front) (inr (inl header)) = front.1.header header
    by p (inl front) (inr (inr (inl text))) = in_slot p text (front.1.slots 0 (omega arith))
    by p (inl front) (inr (inr (inr record_at))) = omega (arith, front.0, record_at.0)
    by p (inr past) (inl label) = omega (arith, past, label, o.area)
    by p (inr past) (inr (inl header)) = omega (arith, past, header, o.slot, o.area)
    by p (inr past) (inr (inr (inl text))) = omega (arith, past, text, o.area)
    by p (inr past) (inr (inr (inr record_at))) = omega (arith, past, record_at.1, some)
