-- The new group stands where its label, its header and its text do.
use Rattle.std.proofs.Common.{min, ◌≡◌, ℕ, ◌+◌, ◌-◌, ◌*◌, ◌/◌, ◌<◌, ◌≤◌, ◌^◌, ◌⊎◌, inl, inr, Bool, true, false, cond, eqb, ltb, List, length, take, sum, Ok, refl, sym, ap, ap₂, subst, ◌∙◌, arith}
use Rattle.std.specs.List.{flat_map, range_with_len}
use Rattle.std.proofs.Math.Nat.{mul-le-mul_right, le-div_iff_mul-le, div-mul-le_self}
use Rattle.std.proofs.lemmas.Bool.{cases_lt, ltb-true}
use Rattle.std.proofs.lemmas.Grind.{div_ceil_times}
use Rattle.std.proofs.lemmas.List.{append-nil}
use Rattle.std.proofs.lemmas.List.FromFn.{length-range_with_len}
use Rattle.sm_base.specs.Limits.{extent_limit}
use Rattle.sm_base.specs.Numbers.{div_up}
use Rattle.sm_base.specs.Names.{spelling}
use Rattle.sm_base.specs.declared.names.Name.TheVariants.{Mgt}
use Rattle.sm_base.specs.declared.sizes.Geometry.{Geometry}
use Rattle.sm_base.proofs.NumberLemmas.{div_up-div_ceil}
use Rattle.sm_disk.specs.Sectors.{sector}
use Rattle.sm_disk.specs.Held.{Held}
use Rattle.sm_disk.proofs.SectorLaws.{sector-one}
use Rattle.vg_meta.specs.Tables.{Row, VolumeTable, used, new_table}
use Rattle.vg_meta.specs.Text.{text, volume_text, HasText}
use Rattle.vg_meta.specs.Reading.{Spells, SpellsBy}
use Rattle.vg_meta.proofs.RangeLaws.{IsTable-new}
use Rattle.vg_meta.proofs.SegmentTextLaws.{length-segmented}
use Rattle.vg_meta.proofs.SegmentLaws.{few-segments}
use Rattle.vg_meta.proofs.WriteLaws.{length-text, length-volume_text}
use Rattle.vg_layout.specs.Places.{Frame, area_place, best_layout, extents_on, frame_of, most_extents, new_extents, record_extents, slot_bytes, slot_place}
use Rattle.vg_layout.specs.Sectors.{Plate, Pointer, header_sector, version_in}
use Rattle.vg_layout.specs.Opening.{frame_in, grammar_of, plate_of, pointer_of, text_in, version_of}
use Rattle.vg_layout.proofs.RoundTrips.{IsFields, HasSizes, header_again, label_again, version_again}
use Rattle.vg_volumes.specs.Commits.{current_version}
use Rattle.vg_store.specs.Formats.{IsFormatted, IsLaidOut, IsLeftByFormat, IsLeftOf, least_size, new_frame, new_group}
use Rattle.vg_store.proofs.FormatLaws.{new_room}
use Rattle.vg_store.proofs.ImageLaws.{plate_frame, spells_by, stands_from, text_written}

-- ---- the sizes

-- a layout that has the records' extents on a device
pub record FitsRecords (size extent layout : ℕ) : Type 0 where
  pub few : record_extents extent ≤ 16
  pub low : layout < current_version
  pub room : area_place layout + 512 ≤ size
  pub large : 512 ≤ extents_on layout size extent * extent
  pub least : record_extents extent ≤ extents_on layout size extent
  pub most : extents_on layout size extent ≤ extent_limit

records_hold : (extent : ℕ) → 32 ≤ extent → (512 ≤ record_extents extent * extent) × (record_extents extent * extent < 512 + extent)
unfolding record_extents
records_hold extent wide = rw (← div_up-div_ceil 512 extent (omega arith)) (div_ceil_times 512 extent (omega arith))

pub records_few : (extent : ℕ) → 32 ≤ extent → record_extents extent ≤ 16
records_few extent wide = by (cases_lt 16 (record_extents extent))
  where
    by : (16 < record_extents extent) ⊎ (record_extents extent ≤ 16) → record_extents extent ≤ 16
    by (inr few) = few
    by (inl many) =
        let more : 17 * extent ≤ record_extents extent * extent = mul-le-mul_right extent many in
        absurd (omega (arith, more, (records_hold extent wide).1, wide))

-- no layout has more extents
few_extents : (layout size extent : ℕ) → extents_on layout size extent ≤ extent_limit
unfolding extents_on most_extents
few_extents layout size extent = by (eqb layout 0)
  where
    by : (b : Bool) → min ((size - area_place layout) / extent) (cond b 65536 1048576) ≤ 1048576
    by true = omega arith
    by false = omega arith

-- those that it has stand on the device
extents_within : (layout size extent : ℕ) → extents_on layout size extent * extent ≤ size - area_place layout
unfolding extents_on
extents_within layout size extent =
    let few : extents_on layout size extent ≤ (size - area_place layout) / extent = omega arith in
    let most : extents_on layout size extent * extent ≤ (size - area_place layout) / extent * extent = mul-le-mul_right extent few in
    omega (arith, most, div-mul-le_self (size - area_place layout) extent)

-- the best layout is one of the two, and none has more extents than it
best_low : (size extent : ℕ) → best_layout size extent < current_version
unfolding best_layout
best_low size extent = by (ltb (extents_on 0 size extent) (extents_on 1 size extent))
  where
    by : (b : Bool) → cond b 1 0 < 2
    by true = omega arith
    by false = omega arith

best_most : (size extent : ℕ) → extents_on 0 size extent ≤ new_extents size extent
unfolding best_layout
best_most size extent = by (ltb (extents_on 0 size extent) (extents_on 1 size extent)) (ltb-true (extents_on 0 size extent) (extents_on 1 size extent))
  where
    by : (b : Bool) → (b ≡ true → extents_on 0 size extent < extents_on 1 size extent) → extents_on 0 size extent ≤ extents_on (cond b 1 0) size extent
    by true more = omega (arith, more refl)
    by false more = omega arith

-- the narrow layout has the records' extents where the device is large enough
narrow_least : (size extent : ℕ) → 32 ≤ extent → least_size extent ≤ size → record_extents extent ≤ extents_on 0 size extent
unfolding extents_on most_extents
narrow_least size extent wide enough =
    let some : 0 < extent = omega arith in
    let front : record_extents extent * extent ≤ size - area_place 0 = omega arith in
    let within : record_extents extent ≤ (size - area_place 0) / extent = (le-div_iff_mul-le some).1 front in
    omega (arith, within, records_few extent wide)

pub fits_records : (size extent : ℕ) → 32 ≤ extent → least_size extent ≤ size → FitsRecords size extent (best_layout size extent)
fits_records size extent wide enough =
    let hold = records_hold extent wide in
    let least : record_extents extent ≤ new_extents size extent = omega (arith, narrow_least size extent wide enough, best_most size extent) in
    let more : record_extents extent * extent ≤ new_extents size extent * extent = mul-le-mul_right extent least in
    let within = extents_within (best_layout size extent) size extent in
    record {
      few = records_few extent wide;
      low = best_low size extent;
      room = omega (arith, hold.0, more, within);
      large = omega (arith, hold.0, more);
      least = least;
      most = few_extents (best_layout size extent) size extent;
    }

-- ---- the table

pub new_text : (n : ℕ) → length (text (new_table n)) ≤ 21 + 8 * n
unfolding spelling
new_text n =
    let t = new_table n in
    let es = range_with_len 0 n in
    let row : Row = record { name = Mgt; hidden = false; fresh = false; extents = es } in
    let alone : length (flat_map volume_text t.volumes) ≡ length (volume_text row) = ap length (append-nil (volume_text row)) in
    omega (arith, length-text t, alone, length-volume_text row, length-segmented es, few-segments es, length-range_with_len 0 n)

pub new_has_text : (n : ℕ) → n ≤ 16 → HasText (new_table n)
new_has_text n few = record {
  volumes = omega arith;
  extents = let all : length (used (new_table n)) ≡ n = ap length (append-nil (range_with_len 0 n)) ∙ length-range_with_len 0 n in omega (arith, all);
}

pub new_spells : (count n : ℕ) → n ≤ count → n ≤ 16 → Spells count (text (new_table n)) (new_table n)
new_spells count n le few = record { spelled = refl; table = IsTable-new count n le; fits = new_has_text n few }

-- a commit's grammar is the one by segments
by_segments : (count : ℕ) (bytes : List ℕ) (t : VolumeTable) → Spells count bytes t → SpellsBy (grammar_of current_version) count bytes t
unfolding grammar_of
by_segments count bytes t s = s

-- ---- all of it

-- a text in one sector
one_sector : (n i : ℕ) → n ≤ 512 → i < div_up n 512 → i ≡ 0
unfolding div_up
one_sector n i few below = omega arith

one_most : (n : ℕ) → n ≤ 512 → 512 * div_up n 512 ≤ 512
unfolding div_up
one_most n few = omega arith

pub text_shown : (h : Pointer) (written bytes : List ℕ) (m : ℕ → List ℕ) (layout : ℕ) → frame_in m ≡ new_frame layout → h.size ≤ 512 → length written ≡ 512 → take h.size written ≡ bytes
    → m (slot_place (new_frame layout) h.slot) ≡ written → text_in m h ≡ bytes
text_shown h written bytes m layout frame few long is there =
    text_written m h written (omega (arith, long, one_most h.size few)) same ∙ is
  where
    same : (i : ℕ) → i < div_up h.size 512 → m (slot_place (frame_in m) h.slot + i) ≡ sector written i
    same i below =
        let first : i ≡ 0 = one_sector h.size i few below in
        let place : slot_place (frame_in m) h.slot + i ≡ slot_place (new_frame layout) h.slot = ap (λ (f : Frame). slot_place f h.slot + i) frame ∙ omega (arith, first) in
        ap m place ∙ there ∙ sym (ap (sector written) first ∙ sector-one written long)

-- what was laid out for a new group
pub record IsForNew (size : ℕ) (g : Geometry) (repository written : List ℕ) : Type 0 where
  pub total : sum (text (new_table (record_extents g.extent))) < 2 ^ 32
  pub identity : length repository ≡ 16
  pub long : length written ≡ 512
  pub text : take (length (text (new_table (record_extents g.extent)))) written ≡ text (new_table (record_extents g.extent))

new_fields : (size : ℕ) (g : Geometry) (repository : List ℕ) → FitsRecords size g.extent (best_layout size g.extent) → length repository ≡ 16
    → IsFields (new_group size g repository).plate
new_fields size g repository fits long = record {
  extent = omega (arith, g.in_range.extent_most);
  block = omega (arith, g.in_range.block_most);
  entries = omega (arith, g.in_range.entries_most);
  count = omega (arith, fits.most);
  layout = omega (arith, fits.low);
  identity = long;
}

pub formatted_new : (size : ℕ) (g : Geometry) (repository written : List ℕ) (m : ℕ → List ℕ) → least_size g.extent ≤ size
    → IsForNew size g repository written → IsLaidOut (new_group size g repository).plate (new_group size g repository).pointer written m
    → IsFormatted size m g repository
formatted_new size g repository written m enough new laid = record {
  stands = stands_from size m p h t (text t) labelled headed (text_shown h written (text t) m p.layout frame short new.long new.text laid.filled.text) refl
      (spells_by m current_version p.count (text t) t version (by_segments p.count (text t) t (new_spells p.count n fits.least fits.few)));
  records = laid.filled.records;
}
  where
    n : ℕ
    n = record_extents g.extent

    t : VolumeTable
    t = new_table n

    p : Plate
    p = (new_group size g repository).plate

    h : Pointer
    h = (new_group size g repository).pointer

    fits : FitsRecords size g.extent p.layout
    fits = fits_records size g.extent g.in_range.extent_least enough

    short : length (text t) ≤ 512
    short = omega (arith, new_text n, fits.few)

    sizes : HasSizes size current_version p
    sizes = record { layout = fits.low; sizes = g.in_range; most = omega arith; least = fits.least }

    labelled : plate_of size m ≡ Ok p
    labelled = label_again size current_version p m (omega (arith, fits.room)) refl (omega arith) (new_fields size g repository fits new.identity) sizes laid.label

    version : version_of m ≡ current_version
    version = ap version_in laid.label ∙ version_again current_version p (omega arith)

    frame : frame_in m ≡ new_frame p.layout
    frame = plate_frame size m p labelled ∙ ap (λ (v : ℕ). frame_of v p.layout) version

    headed : pointer_of m ≡ Ok h
    headed =
        header_again h m (omega arith) (subst (λ (f : Frame). h.size ≤ slot_bytes f) (sym frame) (omega (arith, short, new_room p.layout))) (omega (arith, short)) new.total
        (subst (λ (f : Frame). m f.header ≡ header_sector h) (sym frame) laid.filled.header)

pub formatted_from : (size : ℕ) (g : Geometry) (repository written : List ℕ) (p : Plate) (h : Pointer) → least_size g.extent ≤ size
    → h.total < 2 ^ 32 → length repository ≡ 16 → length written ≡ 512
    → p ≡ (new_group size g repository).plate → h ≡ (new_group size g repository).pointer → take h.size written ≡ text (new_group size g repository).table
    → (m : ℕ → List ℕ) → IsLaidOut p h written m → IsFormatted size m g repository
formatted_from size g repository written p h enough low sixteen long plate_is pointer_is front m laid =
    let sum_is : h.total ≡ (new_group size g repository).pointer.total = ap (λ (x : Pointer). x.total) pointer_is in
    let size_is : h.size ≡ (new_group size g repository).pointer.size = ap (λ (x : Pointer). x.size) pointer_is in
    let new : IsForNew size g repository written = record { total = omega (arith, sum_is, low); identity = sixteen; long = long; text = ap (λ k. take k written) (sym size_is) ∙ front } in
    let P : Plate → Type 0 = λ x. IsLaidOut x h written m in
    let Q : Pointer → Type 0 = λ x. IsLaidOut (new_group size g repository).plate x written m in
    formatted_new size g repository written m enough new (subst Q pointer_is (subst P plate_is laid))

pub left_from : (size : ℕ) (old : Held) (g : Geometry) (repository written : List ℕ) (p : Plate) (h : Pointer) (image : ℕ → List ℕ)
    → (IsLaidOut p h written image → IsFormatted size image g repository) → IsLeftOf size old p h written image → IsLeftByFormat size old g repository image
left_from size old g repository written p h image finished (inl was) = inl was
left_from size old g repository written p h image finished (inr (inl none)) = inr (inl none)
left_from size old g repository written p h image finished (inr (inr laid)) = inr (inr (finished laid))

pub enough_from : (size sectors top r a b extent : ℕ) → top ≡ area_place 0 → r ≡ record_extents extent → a ≡ r → b ≡ extent → sectors ≡ size → top + a * b ≤ sectors
    → least_size extent ≤ size
enough_from size sectors top r a b extent top_is r_is a_is b_is size_is le =
    let same : a * b ≡ record_extents extent * extent = ap₂ (λ x y. x * y) (a_is ∙ r_is) b_is in omega (arith, same, top_is, size_is, le)
