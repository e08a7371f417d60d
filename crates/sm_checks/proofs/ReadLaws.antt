-- One volume of a table as an opening comes to it: which row it is, and what is asked before its image is read.
use Rattle.std.proofs.Common.{◌≡◌, ◌≢◌, inl, inr, ℕ, zero, suc, ◌+◌, ◌-◌, ◌*◌, ◌/◌, ◌%◌, ◌^◌, ◌&&◌, ◌||◌, ◌==◌, ◌<◌, ◌≤◌, Bool, true, false, cond, not, List, [], ◌∷◌, length, take, get_or, slice_index, Some, refl, sym, ap, ap₂, ◌∙◌, subst, subst₂, arith, nat_lt}
use Rattle.std.specs.Prelude.{Result, Ok, Err, IfOk, IfErr, option_map}
use Rattle.std.specs.List.{slice_get}
use Rattle.std.proofs.lemmas.Bool.{true≢false, ltb-true}
use Rattle.std.proofs.lemmas.List.{get_or-take, length-map, length-take-le}
use Rattle.std.proofs.lemmas.Nat.{div_below}
use Rattle.std.proofs.lemmas.Option.{none-some, same_Some, slice_get-map, slice_get_read}
use Rattle.std.proofs.Math.Nat.{mul-le-mul_right}
use Rattle.sm_base.specs.Kinds.{is_image, is_log, is_entry}
use Rattle.sm_base.specs.declared.faults.OpenFault.{OpenFault}
use Rattle.sm_base.specs.declared.faults.OpenFault.TheVariants as fault
use Rattle.sm_base.specs.declared.faults.Place.TheVariants as at
use Rattle.sm_base.specs.declared.names.Name.{Name}
use Rattle.sm_base.specs.declared.names.Name.TheVariants.{Mgt, Vhd, Raw, Old, Cbt, Clone, Inflate, Coalesce, Relink, Leaf}
use Rattle.sm_base.specs.declared.sizes.Geometry.{Geometry}
use Rattle.sm_disk.specs.Held.{Held, reads}
use Rattle.vg_meta.specs.Tables.{Row, VolumeTable, IsVolume, extents_of, rows, suits}
use Rattle.vg_meta.specs.Roomy.{RoomyRow, RoomyTable, rows_alone, table_alone}
use Rattle.vg_volumes.specs.Sites.{Site, size_of}
use Rattle.vg_volumes.specs.Stored.{held_in, stored}
use Rattle.vg_volumes.specs.Volumes.{spot, volume}
use Rattle.vg_volumes.specs.declared.stores.Store.{Ghosts}
use Rattle.vg_volumes.proofs.SpotLaws.{extent_some}
use Rattle.vg_volumes.proofs.VolumeLaws.{volume_reads}
use Rattle.common_laws.specs.Lists.{In}
use Rattle.common_laws.proofs.Lists.{In-map_at}
use Rattle.sm_machine.specs.Shapes.{same_image}
use Rattle.sm_machine.specs.WellFormed.{is_image_name}
use Rattle.sm_checks.proofs.LoadedLaws.{named_data}
use Rattle.sm_standing.specs.Entries.{making}
use Rattle.sm_standing.specs.Images.{image_extents}
use Rattle.sm_standing.specs.Plain.{is_known_name}
use Rattle.vhd_fields.specs.declared.footers.Footer.{Footer}
use Rattle.vhd_fields.specs.declared.headers.Header.{Header}
use Rattle.vhd_map.specs.Slots.{slot_of}
use Rattle.vhd_layout.specs.Images.{IsImage, IsValid}
use Rattle.vhd_layout.specs.Layouts.{Layout, Sectors, Slots, layout_of}
use Rattle.vhd_layout.proofs.ImageLaws.{layout-of}
use Rattle.vhd_volumes.specs.Truth.{disk_blocks}
use Rattle.vhd_write.proofs.ImageKept.{SameEnds, image-kept}
use Rattle.vhd_image.specs.Bodies.{IfVhd, volume_name}
use Rattle.vhd_image.specs.Opened.{ReadsAsImage}
use Rattle.vhd_image.specs.declared.images.Body.{Body}
use Rattle.vhd_image.specs.declared.images.Body.TheVariants as body
use Rattle.sm_ready.proofs.EntryKinds.{image_not_making}
use Rattle.sm_ready.proofs.LoadLaws.{at_item, extents_few}
use Rattle.sm_ready.proofs.RowLaws.{All-In, found_in}
use Rattle.sm_checks.specs.Loaded.{FailsAt, FailsToRead, IsNoneRead, IsRawRead, IsReadAs, IsRow, as_read, shortened, stored_read}
use Rattle.sm_checks.specs.Openable.{IsOpenable, IsOpenableStore}
use Rattle.sm_checks.proofs.EntryLaws.{staged_open}
use Rattle.sm_checks.proofs.TableLaws.{read_within, short_row}

-- ---- a raw image

as_raw : (told : Type 0) (g : Geometry) (sectors : ℕ) (h : Held) (n : Name) (image : Body) → is_image_name n ≡ true → ((u : List ℕ) → n ≢ Vhd u) → IsRawRead g sectors n image → IsReadAs told g sectors h n image
unfolding is_image_name
as_raw told g sectors h (Vhd u) image named other read = absurd (other u refl)
as_raw told g sectors h (Raw u) image named other read = read
as_raw told g sectors h _ image named other read = absurd (true≢false (sym named))

pub raw_image : (told : Type 0) (g : Geometry) (sectors : ℕ) (h : Held) (n : Name) (r : Result Body OpenFault) → is_image_name n ≡ true → ((u : List ℕ) → n ≢ Vhd u) → IfOk r (IsRawRead g sectors n)
    → IfOk r (IsReadAs told g sectors h n)
raw_image told g sectors h n (Ok image) named other read = as_raw told g sectors h n image named other read
raw_image told g sectors h n (Err e) named other read = tt

pub raw_name : (g : Geometry) (sectors : ℕ) (n : Name) (r : Result Body OpenFault) → IfOk r (IsRawRead g sectors n) → IfOk r (λ image. volume_name image ≡ n)
raw_name g sectors n (Ok image) read = ap volume_name read.is
raw_name g sectors n (Err e) read = tt

module _ {S : Type 0} (g : Ghosts S) (s : S) (sectors : ℕ) where
  none_raw : (n : Name) (e : OpenFault) → is_image_name n ≡ true → ((u : List ℕ) → n ≢ Vhd u) → e ≡ fault.Damaged (at.Image n) → (g.site s).geometry.entries * (g.site s).geometry.block < sectors → FailsToRead g (stored g s) n sectors e s s
  unfolding is_image_name
  none_raw (Vhd u) e named other is long = absurd (other u refl)
  none_raw (Raw u) e named other is long = inr (inr (is, long))
  none_raw _ e named other is long = absurd (true≢false (sym named))

  pub raw_fails : (n : Name) (r : Result Body OpenFault) → is_image_name n ≡ true → ((u : List ℕ) → n ≢ Vhd u) → IfErr r (λ e. e ≡ fault.Damaged (at.Image n))
      → IfErr r (λ e. (g.site s).geometry.entries * (g.site s).geometry.block < sectors) → IfErr r (λ e. FailsToRead g (stored g s) n sectors e s s)
  raw_fails n (Ok image) named other is long = tt
  raw_fails n (Err e) named other is long = none_raw n e named other is long

-- ---- a volume of the table

-- an image of a table in which no leaf is being folded is a VHD or a raw one
pub image_named : (n : Name) → is_known_name n ≡ true → is_image n ≡ true → is_image_name n ≡ true
unfolding is_image_name
image_named (Vhd u) known image = refl
image_named (Raw u) known image = refl
image_named Mgt known image = absurd (true≢false (sym image))
image_named (Cbt u) known image = absurd (true≢false (sym image))
image_named (Inflate u e) known image = absurd (true≢false (sym image))
image_named (Clone d b w) known image = absurd (true≢false (sym image))
image_named (Coalesce v p) known image = absurd (true≢false (sym image))
image_named (Relink v p) known image = absurd (true≢false (sym image))
image_named _ known image = absurd (true≢false (sym known))

pub some_extents : (r : Row) → suits r ≡ true → is_image r.name ≡ true → 0 < length r.extents
some_extents r right image =
    ltb-true 0 (length r.extents) (sym (ap (λ b. cond b (nat_lt 0 (length r.extents)) (cond (is_log r.name) (not r.hidden && nat_lt 0 (length r.extents)) (not r.hidden && (not r.fresh && (not (is_entry r.name) || (length r.extents == 0)))))) image)
    ∙ right)

abbrev alone : RoomyRow → Row
alone h = h.row

place_in : {A : Type 0} (xs : List A) (i : ℕ) (x : A) → slice_get xs i ≡ Some x → In x xs
place_in [] i x at = absurd (none-some x at)
place_in (y ∷ xs) zero x at = inl (sym (same_Some y x at))
place_in (y ∷ xs) (suc i) x at = inr (place_in xs i x at)

module _ {s : Site} (kept : RoomyTable) {k : RoomyTable} {hs : List RoomyRow} {i : ℕ} {h : RoomyRow} (c : IsOpenable s (table_alone kept)) (same : k ≡ kept) (is : hs ≡ k.rows) (within : i < length (rows_alone kept.rows)) (at : h ≡ get_or hs i h) where
  rows_are : hs ≡ kept.rows
  rows_are = is ∙ ap (λ (x : RoomyTable). x.rows) same

  place : slice_get kept.rows i ≡ Some h
  place =
      let long : length (rows_alone kept.rows) ≡ length kept.rows = length-map kept.rows alone in
      slice_get_read kept.rows (length kept.rows) i h refl (omega (arith, within, long)) (at ∙ ap (λ (xs : List RoomyRow). get_or xs i h) rows_are)

  pub row_here : slice_get (rows_alone kept.rows) i ≡ Some h.row
  row_here = slice_get-map alone kept.rows i ∙ ap (option_map alone) place

  pub row_is : (r : Row) → slice_get (rows_alone kept.rows) i ≡ Some r → r ≡ h.row
  row_is r there = same_Some r h.row (sym there ∙ row_here)

  pub row_in : In h.row (rows_alone kept.rows)
  row_in = In-map_at alone kept.rows h (place_in kept.rows i h place)

  pub row_few : length h.row.extents < 2 ^ 32
  row_few =
      let long : length (rows_alone kept.rows) ≡ length kept.rows = length-map kept.rows alone in
      extents_few kept c.table rows_are (at_item c.table same is (omega (arith, within, long, ap (λ (xs : List RoomyRow). length xs) rows_are)) at) c.few_extents

  pub row_some : is_image_name h.row.name ≡ true → 1 ≤ length h.row.extents
  row_some image = some_extents h.row (All-In IsVolume (rows_alone kept.rows) h.row c.table.volumes.each row_in).kind (named_data h.row.name image)

  pub row_size : length h.row.extents * s.geometry.extent ≡ size_of s (table_alone kept) h.row.name
  row_size = sym (ap (λ o. length (extents_of o) * s.geometry.extent) (found_in (rows_alone kept.rows) c.table.volumes.rising h.row row_in))

-- ---- the first sectors of a volume hold what they hold where it has no others

front_index : (k : ℕ) (es : List ℕ) (i : ℕ) → i < k → slice_index (take k es) i ≡ slice_index es i
front_index k es i below = get_or-take k es i 0 below

module _ (x k : ℕ) (es : List ℕ) (a : Held) (within : k ≤ length es) where
  front_spot : (p : ℕ) → p < k * x → spot x (take k es) p ≡ spot x es p
  unfolding spot
  front_spot p below = ap (λ e. e * x + p % x) (front_index k es (p / x) (div_below p x k (extent_some p k x below) below))

  pub front_reads : (p : ℕ) → p < k * x → reads (volume x (take k es) a) p ≡ reads (volume x es a) p
  front_reads p below =
      let long = length-take-le k es within in
      volume_reads x (take k es) a p (subst (λ n. p < n * x) (sym long) below) ∙ ap (reads a) (front_spot p below)
      ∙ sym (volume_reads x es a p (omega (arith, below, mul-le-mul_right x within)))

-- ---- an image by its own sectors alone

abbrev SameBelow : ℕ → Sectors → Sectors → Type 0
SameBelow n v w = (p : ℕ) → p < n → w p ≡ v p

module _ (g : Geometry) (sectors : ℕ) (v w : Sectors) (same : SameBelow sectors v w) where
  same_ends : (l : Layout) → l.sectors ≡ sectors → l.first + 1 ≤ sectors → SameEnds l v w
  same_ends l long room = record { front = λ p below. same p (omega (arith, below, room)); last = same (l.sectors - 1) (omega (arith, long, room)) }

  image_below : (blocks : ℕ) (footer : Footer) (header : Header) (m : Slots) → IsImage (layout_of g.block g.entries blocks sectors) v footer header m → IsImage (layout_of g.block g.entries blocks sectors) w footer header m
  image_below blocks footer header m image =
      image-kept (layout-of g.extent g.block g.entries blocks sectors g.in_range) (same_ends (layout_of g.block g.entries blocks sectors) refl image.head.room) image

  valid_below : IsValid g.block g.entries sectors v → IsValid g.block g.entries sectors w
  valid_below (blocks, footer, header, m, image) = (blocks, footer, header, m, image_below blocks footer header m image)

module _ (told : Type 0) (g : Geometry) (sectors : ℕ) (h k : Held) (same : SameBelow sectors (reads h) (reads k)) where
  vhd_below : (image : Body) → IfVhd image (ReadsAsImage g sectors h) → IfVhd image (ReadsAsImage g sectors k)
  vhd_below (body.Raw volume size) read = read
  vhd_below (body.Vhd head m) read = image_below g sectors (reads h) (reads k) same (disk_blocks g head.footer) head.footer head.header (slot_of m) read

  read_below : (n : Name) (image : Body) → IsReadAs told g sectors h n image → IsReadAs told g sectors k n image
  read_below (Raw u) image read = read
  read_below (Vhd u) image read = record { vhd = read.vhd; stands = read.stands; gives = λ known. vhd_below image (read.gives known) }
  read_below Mgt image read = read
  read_below (Old u) image read = read
  read_below (Cbt u) image read = read
  read_below (Clone d b w) image read = read
  read_below (Inflate u e) image read = read
  read_below (Coalesce v p) image read = read
  read_below (Relink v p) image read = read
  read_below (Leaf l p) image read = read

  none_below : (n : Name) → IsNoneRead told g sectors h n → IsNoneRead told g sectors k n
  none_below (Raw u) none = none
  none_below (Vhd u) none = λ known valid. none known (valid_below g sectors (reads k) (reads h) (λ p below. sym (same p below)) valid)
  none_below Mgt none = none
  none_below (Old u) none = none
  none_below (Cbt u) none = none
  none_below (Clone d b w) none = none
  none_below (Inflate u e) none = none
  none_below (Coalesce v p) none = none
  none_below (Relink v p) none = none
  none_below (Leaf l p) none = none

-- ---- what was read is that of the volume, without the enlargement

-- no other kind is that of a VHD image
pub not_vhd : (u : List ℕ) (n : Name) → ((v : List ℕ) → n ≢ Vhd v) → same_image (Vhd u) n ≡ false
unfolding same_image
not_vhd u (Vhd v) other = absurd (other v refl)
not_vhd u Mgt other = refl
not_vhd u (Raw v) other = refl
not_vhd u (Old v) other = refl
not_vhd u (Cbt v) other = refl
not_vhd u (Clone d b w) other = refl
not_vhd u (Inflate v e) other = refl
not_vhd u (Coalesce v p) other = refl
not_vhd u (Relink v p) other = refl
not_vhd u (Leaf l p) other = refl

pub many_is : {k kept : RoomyTable} {n m : Name} {es fs : List ℕ} {result : ℕ} → result ≡ image_extents (making (table_alone k)) n (length es) → k ≡ kept → n ≡ m → es ≡ fs
    → result ≡ image_extents (making (table_alone kept)) m (length fs)
many_is {kept = kept} {n = n} {es = es} is same named extents =
    is ∙ ap (λ (x : RoomyTable). image_extents (making (table_alone x)) n (length es)) same
    ∙ ap₂ (λ (x : Name) (ys : List ℕ). image_extents (making (table_alone kept)) x (length ys)) named extents

module _ {S : Type 0} (g : Ghosts S) (s : S) (r : Row) (c : IsOpenableStore g s) (there : In r (table_alone (g.table s)).volumes) (image : is_image_name r.name ≡ true) where
  abbrev t : VolumeTable
  t = table_alone (g.table s)

  -- in so many extents it is read
  abbrev pub many : ℕ
  many = image_extents (making t) r.name (length r.extents)

  within : many ≤ length r.extents
  within = read_within (staged_open c) r there

  many_read : length (as_read (making t) r).extents ≡ many
  many_read = length-take-le many r.extents within

  row_found : rows t r.name ≡ Some r
  row_found = found_in t.volumes c.table.volumes.rising r there

  extents_short : extents_of (rows (shortened t) r.name) ≡ take many (extents_of (rows t r.name))
  extents_short =
      ap extents_of (short_row (staged_open c) r.name (image_not_making r.name (named_data r.name image)) ∙ ap (option_map (as_read (making t))) row_found)
      ∙ sym (ap (λ o. take many (extents_of o)) row_found)

  same_below : SameBelow (many * (g.site s).geometry.extent) (reads (held_in (stored g s) r.name)) (reads (held_in (stored_read g s) r.name))
  same_below p below =
      ap (λ es. reads (volume (g.site s).geometry.extent es (g.area s)) p) extents_short
      ∙ front_reads (g.site s).geometry.extent many (extents_of (rows t r.name)) (g.area s) (subst (λ o. many ≤ length (extents_of o)) (sym row_found) within) p below

  pub row_read : {name : Name} {extents : ℕ} {hidden : Bool} (found : Body) → name ≡ r.name → extents ≡ many → hidden ≡ r.hidden → volume_name found ≡ name
      → IsReadAs g.told (g.site s).geometry (extents * (g.site s).geometry.extent) (held_in (stored g s) name) name found
      → IsRow g.told (stored_read g s) (as_read (making t) r) (record { image = found; hidden = hidden; extents = extents })
  row_read found named long hidden is read = record {
    named = is ∙ named;
    hidden = hidden;
    extents = long ∙ sym many_read;
    image = subst (λ k. IsReadAs g.told (g.site s).geometry (k * (g.site s).geometry.extent) (held_in (stored_read g s) r.name) r.name found) (sym many_read)
        (read_below g.told (g.site s).geometry (many * (g.site s).geometry.extent) (held_in (stored g s) r.name) (held_in (stored_read g s) r.name) same_below r.name found
        (subst₂ (λ n k. IsReadAs g.told (g.site s).geometry (k * (g.site s).geometry.extent) (held_in (stored g s) n) n found) named long read));
  }

  pub row_fails : {name : Name} {extents : ℕ} (e : OpenFault) (new : S) → name ≡ r.name → extents ≡ many → r.fresh ≡ false → FailsToRead g (stored g s) name (extents * (g.site s).geometry.extent) e s new
      → FailsAt g (stored_read g s) (as_read (making t) r) e s new
  row_fails e new named long filled fails = record {
    volume = record { image = image; filled = filled };
    fails = subst (λ k. FailsToRead g (stored_read g s) r.name (k * (g.site s).geometry.extent) e s new) (sym many_read)
        (by (subst₂ (λ n k. FailsToRead g (stored g s) n (k * (g.site s).geometry.extent) e s new) named long fails));
  }
    where
      by : FailsToRead g (stored g s) r.name (many * (g.site s).geometry.extent) e s new → FailsToRead g (stored_read g s) r.name (many * (g.site s).geometry.extent) e s new
      by (inl is) = inl is
      by (inr (inl w)) = inr (inl w)
      by (inr (inr (is, none))) = inr (inr (is, none_below g.told (g.site s).geometry (many * (g.site s).geometry.extent) (held_in (stored g s) r.name) (held_in (stored_read g s) r.name) same_below r.name none))
