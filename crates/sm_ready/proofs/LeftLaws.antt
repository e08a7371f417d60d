-- What a stop leaves of a ready store has the outline that memory tells, and the images and records of a read but for
-- own images of disks attached for writing.
use Rattle.std.proofs.Common.{◌≡◌, ◌⊎◌, inl, inr, ℕ, ◌*◌, ◌<◌, ◌≤◌, Bool, true, false, cond, nat_lt, List, [], length, get_or, Option, Some, None, refl, sym, ap, ap₂, ◌∙◌, subst, arith}
use Rattle.std.proofs.Math.Path.{fun_ext}
use Rattle.std.proofs.lemmas.Bool.{lt-ltb, le-ltb, cases_lt, cond-true}
use Rattle.std.proofs.lemmas.List.{get_or_past}
use Rattle.std.proofs.lemmas.Option.{none-some, slice_get-get_or}
use Rattle.sm_base.proofs.NumberLemmas.{le-div_up}
use Rattle.sm_base.specs.declared.names.Name.{Name}
use Rattle.sm_base.specs.declared.names.Name.TheVariants.{Mgt, Vhd, Raw, Old, Cbt, Clone, Inflate, Coalesce, Relink, Leaf}
use Rattle.sm_disk.specs.Held.{Held, Allows, reads, newest}
use Rattle.sm_disk.proofs.HeldLaws.{Allows-reads}
use Rattle.vg_layout.specs.Places.{record_extents}
use Rattle.vg_meta.specs.Tables.{VolumeTable, Row, rows, extents_of}
use Rattle.sm_base.specs.Kinds.{is_image}
use Rattle.vg_volumes.specs.Commits.{IsBefore}
use Rattle.vg_volumes.specs.Sites.{Site, area_size, size_of, volume_of}
use Rattle.vg_volumes.specs.Volumes.{span, spot, piece, volume}
use Rattle.vhd_layout.specs.Contents.{content_at}
use Rattle.vhd_layout.specs.Readings.{image_at}
use Rattle.vhd_volumes.specs.declared.heads.Head.{Head}
use Rattle.vhd_volumes.specs.Truth.{IsStanding}
use Rattle.common_laws.specs.Lists.{In, ◌>>=◌}
use Rattle.sm_machine.specs.WellFormed.{is_image_name}
use Rattle.sm_record.specs.Records.{reading}
use Rattle.sm_record.specs.declared.records.Reading.{Reading}
use Rattle.sm_record.specs.declared.records.Reading.TheVariants.{Free}
use Rattle.sm_standing.specs.Readings.{SameReadings}
use Rattle.sm_standing.specs.Contents.{Content, sectors_of, reading_at, record_count, record_of, is_record_of, records}
use Rattle.sm_standing.specs.Images.{Image, image_of, vhd_image, raw_image}
use Rattle.sm_standing.proofs.RecordLists.{records_same, record_of_first, first_of}
use Rattle.sm_standing.proofs.WorldLaws.{commit_before}
use Rattle.sm_ready.specs.Alike.{IsAlike}
use Rattle.vhd_image.specs.Bodies.{StandsIn, sector_count, parent_name}
use Rattle.sm_ready.specs.Outlined.{outline_in, link_in}
use Rattle.sm_ready.specs.Known.{Known, shape_in}
use Rattle.vhd_chain.specs.declared.rows.TreeRow.{TreeRow}
use Rattle.vhd_chain.specs.Trees.{row_name, tree_row}
use Rattle.sm_ready.specs.Orderly.{IsOrderly}
use Rattle.sm_standing.specs.Outlines.{Outline, Link, outline, link_of, reading_in}
use Rattle.sm_mgt.specs.Places.{as_reading}
use Rattle.sm_ready.specs.Ready.{IsFirm, IsReady, HoldsPlaces, is_written_in}
use Rattle.vhd_image.specs.Steady.{IsSteady}
use Rattle.vhd_volumes.specs.Steady.{IsSteadyIn, IsQuiet}
use Rattle.sm_ready.specs.Stores.{content_in, content_now}
use Rattle.sm_standing.specs.Volumes.{IsAtSize}
use Rattle.sm_standing.proofs.ImageSectors.{image_same, raw_same}
use Rattle.sm_ready.proofs.Orders.{geometry_of, IsRowed, rowed, unrowed, new_unrowed, In-tree_row, vhd_row, raw_row, other_row, whole}
use Rattle.sm_ready.proofs.Steadies.{steady_valid, steady_size, steady_parent}
use Rattle.sm_standing.specs.Contents as content
use Rattle.vhd_image.specs.declared.images.Body.TheVariants as body

-- ---- sectors

-- a read of a volume is a read of the area
pub volume_reads : (extent : ℕ) (es : List ℕ) (area : Held) (p : ℕ) → p < span extent es → reads (volume extent es area) p ≡ piece extent es (reads area) p
unfolding volume piece
volume_reads extent es area p below =
    ap (λ b. newest (cond b (area.floor (spot extent es p)) []) (cond b (area.pending (spot extent es p)) [])) (lt-ltb p (span extent es) below)

pub now_sector : (s : Site) (t : VolumeTable) (area : Held) (n : Name) (p : ℕ) → p < size_of s t n → sectors_of (content_now s t area) n p ≡ reads (volume_of s t area n) p
unfolding sectors_of
now_sector s t area n p below = sym (volume_reads s.geometry.extent (extents_of (rows t n)) area p below)

pub extent_some : (s : Site) (t : VolumeTable) (m : Known) → IsOrderly s t m → 0 < s.geometry.extent
extent_some s t m o = omega (arith, (geometry_of s t m o).extent_least)

-- an image of the area that a stop may leave, while the table stands
abbrev pub IsLeft : Site → Held → (ℕ → List ℕ) → Type 0
IsLeft s area image = Allows (area_size s) area image

pub left_volume : (s : Site) (t : VolumeTable) (m : Known) (area : Held) (image : ℕ → List ℕ) (n : Name) → IsOrderly s t m → IsLeft s area image
    → Allows (size_of s t n) (volume_of s t area n) (sectors_of (content_in s t image) n)
left_volume s t m area image n o left p below =
    commit_before (content_now s t area) area t image o.table (extent_some s t m o) (record { table_is = refl; sectors = left }) n p below

-- a choice that a stop may leave of the images' volumes, whatever it leaves elsewhere
abbrev pub IsLeftIn : Site → VolumeTable → Known → Held → (ℕ → List ℕ) → Type 0
IsLeftIn s t m area image = (r : TreeRow) → In r m.rows → Allows (size_of s t (row_name r)) (volume_of s t area (row_name r)) (sectors_of (content_in s t image) (row_name r))

pub left_in : (s : Site) (t : VolumeTable) (m : Known) (area : Held) (image : ℕ → List ℕ) → IsOrderly s t m → IsLeft s area image → IsLeftIn s t m area image
left_in s t m area image o left r i = left_volume s t m area image (row_name r) o left

left_row : (s : Site) (t : VolumeTable) (m : Known) (area : Held) (image : ℕ → List ℕ) (n : Name) (r : Row) → IsOrderly s t m → IsLeftIn s t m area image → is_image n ≡ true → rows t n ≡ Some r → r.fresh ≡ false
    → Allows (size_of s t n) (volume_of s t area n) (sectors_of (content_in s t image) n)
left_row s t m area image n r o left kind there full =
    let w = rowed s t m n r o kind there full in
    subst (λ x. Allows (size_of s t x) (volume_of s t area x) (sectors_of (content_in s t image) x)) w.named (left w.row w.there)

-- ---- images

pub vhd_of : (c : Content) (u : List ℕ) (r : Row) → content.row c (Vhd u) ≡ Some r → r.fresh ≡ false → IsAtSize c.table (Vhd u)
    → image_of c (Vhd u) ≡ image_at c.block c.entries (length r.extents * c.extent) (sectors_of c (Vhd u))
unfolding image_of vhd_image
vhd_of c u r there filled is_whole =
    ap (λ o. o >>= (λ (r : Row). cond r.fresh None (vhd_image c (Vhd u) r))) there
    ∙ ap (λ f. cond f None (vhd_image c (Vhd u) r)) filled
    ∙ ap (λ k. image_at c.block c.entries (k * c.extent) (sectors_of c (Vhd u))) (is_whole (length r.extents))

pub raw_of : (c : Content) (u : List ℕ) (r : Row) → content.row c (Raw u) ≡ Some r → r.fresh ≡ false → image_of c (Raw u) ≡ Some (raw_image c (Raw u))
unfolding image_of
raw_of c u r there filled =
    ap (λ o. o >>= (λ (r : Row). cond r.fresh None (Some (raw_image c (Raw u))))) there ∙ ap (λ f. cond f None (Some (raw_image c (Raw u)))) filled

pub none_of_raw : (c : Content) (u : List ℕ) → content.row c (Raw u) ≡ None → image_of c (Raw u) ≡ None
unfolding image_of
none_of_raw c u none = ap (λ o. o >>= (λ (r : Row). cond r.fresh None (Some (raw_image c (Raw u))))) none

pub none_of_vhd : (c : Content) (u : List ℕ) → content.row c (Vhd u) ≡ None → image_of c (Vhd u) ≡ None
unfolding image_of
none_of_vhd c u none = ap (λ o. o >>= (λ (r : Row). cond r.fresh None (vhd_image c (Vhd u) r))) none

-- what is known of a VHD image's volume
pub record IsVhdIn (s : Site) (t : VolumeTable) (area : Held) (m : Known) (u : List ℕ) (r : Row) : Type 0 where
  pub at : IsRowed m (Vhd u) r
  pub head : Head
  pub slots : List (Option ℕ)
  pub is : at.row.image ≡ body.Vhd head slots
  pub stands : IsStanding s.geometry (length r.extents * s.geometry.extent) head slots
  pub steady : IsSteadyIn s.geometry (length r.extents * s.geometry.extent) (volume_of s t area (Vhd u)) head slots

pub vhd_in : (s : Site) (t : VolumeTable) (area : Held) (m : Known) (u : List ℕ) (r : Row) → IsOrderly s t m → IsFirm s t area m → rows t (Vhd u) ≡ Some r → r.fresh ≡ false → IsVhdIn s t area m u r
vhd_in s t area m u r o ready there full =
    let w = rowed s t m (Vhd u) r o refl there full in
    let h = vhd_row s t m w.row u o w.there w.named in
    record {
      at = w;
      head = h.head;
      slots = h.slots;
      is = h.is;
      stands = subst (λ k. IsStanding s.geometry (k * s.geometry.extent) h.head h.slots) w.long (subst (λ b. StandsIn s.geometry (w.row.extents * s.geometry.extent) b) h.is (o.stands w.row w.there));
      steady = subst (λ k. IsSteadyIn s.geometry (k * s.geometry.extent) (volume_of s t area (Vhd u)) h.head h.slots) w.long
          (subst (λ n. IsSteadyIn s.geometry (w.row.extents * s.geometry.extent) (volume_of s t area n) h.head h.slots) w.named
          (subst (λ b. IsSteady s.geometry (w.row.extents * s.geometry.extent) (volume_of s t area (row_name w.row)) b) h.is (ready.images w.row w.there)));
    }

pub size_there : (s : Site) (t : VolumeTable) (n : Name) (r : Row) → rows t n ≡ Some r → size_of s t n ≡ length r.extents * s.geometry.extent
size_there s t n r there = ap (λ o. length (extents_of o) * s.geometry.extent) there

pub vhd_allowed : (s : Site) (t : VolumeTable) (area : Held) (m : Known) (image : ℕ → List ℕ) (u : List ℕ) (r : Row) → IsOrderly s t m → IsLeftIn s t m area image → rows t (Vhd u) ≡ Some r → r.fresh ≡ false
    → Allows (length r.extents * s.geometry.extent) (volume_of s t area (Vhd u)) (sectors_of (content_in s t image) (Vhd u))
vhd_allowed s t area m image u r o left there full =
    subst (λ k. Allows k (volume_of s t area (Vhd u)) (sectors_of (content_in s t image) (Vhd u))) (size_there s t (Vhd u) r there) (left_row s t m area image (Vhd u) r o left refl there full)

-- a VHD image that a stop leaves
pub vhd_left : (s : Site) (t : VolumeTable) (area : Held) (m : Known) (image : ℕ → List ℕ) (u : List ℕ) (r : Row) → IsOrderly s t m → IsFirm s t area m → IsLeftIn s t m area image → rows t (Vhd u) ≡ Some r → r.fresh ≡ false
    → image_of (content_in s t image) (Vhd u) ≡ Some (content_at s.geometry.block s.geometry.entries (length r.extents * s.geometry.extent) (sectors_of (content_in s t image) (Vhd u)))
vhd_left s t area m image u r o ready left there full =
    let w = vhd_in s t area m u r o ready there full in
    vhd_of (content_in s t image) u r there w.at.filled (whole s t m (Vhd u) o)
    ∙ steady_valid s.geometry (length r.extents * s.geometry.extent) (volume_of s t area (Vhd u)) w.head w.slots (sectors_of (content_in s t image) (Vhd u)) (geometry_of s t m o) w.steady
    (vhd_allowed s t area m image u r o left there full)

abbrev link : ℕ → Option Name → Option Link
link size parent = Some (record { size = size; parent = parent })

pub new_vhd : (c : Content) (u : List ℕ) (r : Row) → content.row c (Vhd u) ≡ Some r → r.fresh ≡ true → image_of c (Vhd u) ≡ None
unfolding image_of
new_vhd c u r there new = ap (λ o. o >>= (λ (r : Row). cond r.fresh None (vhd_image c (Vhd u) r))) there ∙ ap (λ f. cond f None (vhd_image c (Vhd u) r)) new

pub new_raw : (c : Content) (u : List ℕ) (r : Row) → content.row c (Raw u) ≡ Some r → r.fresh ≡ true → image_of c (Raw u) ≡ None
unfolding image_of
new_raw c u r there new = ap (λ o. o >>= (λ (r : Row). cond r.fresh None (Some (raw_image c (Raw u))))) there ∙ ap (λ f. cond f None (Some (raw_image c (Raw u)))) new

vhd_link_filled : (s : Site) (t : VolumeTable) (area : Held) (m : Known) (image : ℕ → List ℕ) (u : List ℕ) (r : Row) → IsOrderly s t m → IsFirm s t area m → IsLeftIn s t m area image → rows t (Vhd u) ≡ Some r → r.fresh ≡ false
    → link_of (image_of (content_in s t image) (Vhd u)) ≡ link_in (tree_row m.rows (Vhd u))
vhd_link_filled s t area m image u r o ready left there full =
    let w = vhd_in s t area m u r o ready there full in
    let v = sectors_of (content_in s t image) (Vhd u) in
    let n = length r.extents * s.geometry.extent in
    let allows = vhd_allowed s t area m image u r o left there full in
    ap link_of (vhd_left s t area m image u r o ready left there full)
    ∙ ap₂ link (steady_size s.geometry n (volume_of s t area (Vhd u)) w.head w.slots v w.stands w.steady allows) (steady_parent s.geometry n (volume_of s t area (Vhd u)) w.head w.slots v w.steady allows)
    ∙ sym (ap (λ b. link (sector_count b) (parent_name b)) w.is)
    ∙ sym (ap link_in w.at.found)

vhd_link : (s : Site) (t : VolumeTable) (area : Held) (m : Known) (image : ℕ → List ℕ) (u : List ℕ) (x : Option Row) → IsOrderly s t m → IsFirm s t area m → IsLeftIn s t m area image → rows t (Vhd u) ≡ x
    → link_of (image_of (content_in s t image) (Vhd u)) ≡ link_in (tree_row m.rows (Vhd u))
vhd_link s t area m image u None o ready left none =
    ap link_of (none_of_vhd (content_in s t image) u none) ∙ sym (ap link_in (unrowed s t m (Vhd u) o refl none))
vhd_link s t area m image u (Some r) o ready left there = by r.fresh refl
  where
    by : (b : Bool) → r.fresh ≡ b → link_of (image_of (content_in s t image) (Vhd u)) ≡ link_in (tree_row m.rows (Vhd u))
    by true new = ap link_of (new_vhd (content_in s t image) u r there new) ∙ sym (ap link_in (new_unrowed s t m (Vhd u) r o refl there new))
    by false full = vhd_link_filled s t area m image u r o ready left there full

raw_size : (c : Content) (u : List ℕ) → link_of (Some (raw_image c (Raw u))) ≡ link (content.size_of c (Raw u)) None
unfolding raw_image
raw_size c u = refl

raw_link_filled : (s : Site) (t : VolumeTable) (area : Held) (m : Known) (image : ℕ → List ℕ) (u : List ℕ) (r : Row) → IsOrderly s t m → IsFirm s t area m → rows t (Raw u) ≡ Some r → r.fresh ≡ false
    → link_of (image_of (content_in s t image) (Raw u)) ≡ link_in (tree_row m.rows (Raw u))
raw_link_filled s t area m image u r o ready there full =
    let w = rowed s t m (Raw u) r o refl there full in
    let h = raw_row s t m w.row u o w.there w.named in
    let size : h.sectors ≡ w.row.extents * s.geometry.extent = subst (λ b. IsSteady s.geometry (w.row.extents * s.geometry.extent) (volume_of s t area (row_name w.row)) b) h.is (ready.images w.row w.there) in
    ap link_of (raw_of (content_in s t image) u r there w.filled)
    ∙ raw_size (content_in s t image) u
    ∙ ap (λ k. link k None) (size_there s t (Raw u) r there ∙ sym (ap (λ k. k * s.geometry.extent) w.long) ∙ sym size)
    ∙ sym (ap (λ b. link (sector_count b) (parent_name b)) h.is)
    ∙ sym (ap link_in w.found)

raw_link : (s : Site) (t : VolumeTable) (area : Held) (m : Known) (image : ℕ → List ℕ) (u : List ℕ) (x : Option Row) → IsOrderly s t m → IsFirm s t area m → rows t (Raw u) ≡ x
    → link_of (image_of (content_in s t image) (Raw u)) ≡ link_in (tree_row m.rows (Raw u))
raw_link s t area m image u None o ready none =
    ap link_of (none_of_raw (content_in s t image) u none) ∙ sym (ap link_in (unrowed s t m (Raw u) o refl none))
raw_link s t area m image u (Some r) o ready there = by r.fresh refl
  where
    by : (b : Bool) → r.fresh ≡ b → link_of (image_of (content_in s t image) (Raw u)) ≡ link_in (tree_row m.rows (Raw u))
    by true new = ap link_of (new_raw (content_in s t image) u r there new) ∙ sym (ap link_in (new_unrowed s t m (Raw u) r o refl there new))
    by false full = raw_link_filled s t area m image u r o ready there full

no_link : (s : Site) (t : VolumeTable) (m : Known) (c : Content) (n : Name) → IsOrderly s t m → image_of c n ≡ None → tree_row m.rows n ≡ None → link_of (image_of c n) ≡ link_in (tree_row m.rows n)
no_link s t m c n o left right = ap link_of left ∙ sym (ap link_in right)

pub links_left : (s : Site) (t : VolumeTable) (area : Held) (m : Known) (image : ℕ → List ℕ) (n : Name) → IsOrderly s t m → IsFirm s t area m → IsLeftIn s t m area image
    → link_of (image_of (content_in s t image) n) ≡ link_in (tree_row m.rows n)
unfolding image_of is_image_name
links_left s t area m image (Vhd u) o ready left = vhd_link s t area m image u (rows t (Vhd u)) o ready left refl
links_left s t area m image (Raw u) o ready left = raw_link s t area m image u (rows t (Raw u)) o ready refl
links_left s t area m image Mgt o ready left = no_link s t m (content_in s t image) Mgt o refl (other_row s t m Mgt o refl)
links_left s t area m image (Old u) o ready left = no_link s t m (content_in s t image) (Old u) o refl (other_row s t m (Old u) o refl)
links_left s t area m image (Cbt u) o ready left = no_link s t m (content_in s t image) (Cbt u) o refl (other_row s t m (Cbt u) o refl)
links_left s t area m image (Clone d b w) o ready left = no_link s t m (content_in s t image) (Clone d b w) o refl (other_row s t m (Clone d b w) o refl)
links_left s t area m image (Inflate u k) o ready left = no_link s t m (content_in s t image) (Inflate u k) o refl (other_row s t m (Inflate u k) o refl)
links_left s t area m image (Coalesce v p) o ready left = no_link s t m (content_in s t image) (Coalesce v p) o refl (other_row s t m (Coalesce v p) o refl)
links_left s t area m image (Relink v p) o ready left = no_link s t m (content_in s t image) (Relink v p) o refl (other_row s t m (Relink v p) o refl)
links_left s t area m image (Leaf l p) o ready left = no_link s t m (content_in s t image) (Leaf l p) o refl (other_row s t m (Leaf l p) o refl)

-- ---- records

pub mgt_long : (s : Site) (t : VolumeTable) (m : Known) → IsOrderly s t m → record_count ≤ size_of s t Mgt
unfolding record_extents
mgt_long s t m o = subst (λ n. record_count ≤ n * s.geometry.extent) (sym o.record_volume) (le-div_up 512 s.geometry.extent (extent_some s t m o))

-- sectors of a volume where nothing is pending
pub quiet_sector : (s : Site) (t : VolumeTable) (area : Held) (image : ℕ → List ℕ) (n : Name) → Allows (size_of s t n) (volume_of s t area n) (sectors_of (content_in s t image) n) → IsQuiet (volume_of s t area n)
    → (p : ℕ) → p < size_of s t n → sectors_of (content_in s t image) n p ≡ sectors_of (content_now s t area) n p
quiet_sector s t area image n left settled p below =
    settled p (sectors_of (content_in s t image) n p) (left p below)
    ∙ sym (now_sector s t area n p below)

pub same_readings : (s : Site) (t : VolumeTable) (area : Held) (m : Known) (image : ℕ → List ℕ) → IsOrderly s t m → IsReady s t area m → IsLeft s area image
    → SameReadings (content_now s t area) (content_in s t image)
same_readings s t area m image o ready left k below =
    ap reading (quiet_sector s t area image Mgt (left_volume s t m area image Mgt o left) ready.recorded k (omega (arith, below, mgt_long s t m o)))

pub place_reads : (s : Site) (t : VolumeTable) (area : Held) (m : Known) → IsOrderly s t m → IsReady s t area m → (k : ℕ) → k < record_count
    → reading_at (content_now s t area) k ≡ as_reading (get_or m.places k None)
place_reads s t area m o ready k below =
    ap reading (now_sector s t area Mgt k (omega (arith, below, mgt_long s t m o)))
    ∙ ready.records.each k (get_or m.places k None) (slice_get-get_or m.places k None (omega (arith, below, ready.records.long)))

-- the records that a stop leaves where none is pending
pub ready_places : (s : Site) (t : VolumeTable) (area : Held) (m : Known) (image : ℕ → List ℕ) → IsOrderly s t m → IsReady s t area m → IsLeft s area image → HoldsPlaces s t image m.places
ready_places s t area m image o ready left = record {
  long = ready.records.long;
  each = λ k below. same_readings s t area m image o ready left k below ∙ place_reads s t area m o ready k below;
}

readings_left : (s : Site) (t : VolumeTable) (m : Known) (image : ℕ → List ℕ) → HoldsPlaces s t image m.places → (k : ℕ) → reading_in (content_in s t image) k ≡ as_reading (get_or m.places k None)
readings_left s t m image holds k = by (cases_lt k record_count)
  where
    by : (k < record_count) ⊎ (record_count ≤ k) → reading_in (content_in s t image) k ≡ as_reading (get_or m.places k None)
    by (inl below) = cond-true (nat_lt k record_count) (reading_at (content_in s t image) k) Free (lt-ltb k record_count below) ∙ holds.each k below
    by (inr past) =
        ap (λ b. cond b (reading_at (content_in s t image) k) Free) (le-ltb k record_count past)
        ∙ sym (ap as_reading (get_or_past m.places k None (omega (arith, past, holds.long))))

-- ---- the outline

pub outline_left : (s : Site) (t : VolumeTable) (area : Held) (m : Known) (image : ℕ → List ℕ) → IsOrderly s t m → IsFirm s t area m → IsLeftIn s t m area image → HoldsPlaces s t image m.places
    → outline (content_in s t image) ≡ outline_in s t m
unfolding outline_in
outline_left s t area m image o ready left holds =
    ap₂ (λ (ls : Name → Option Link) (rs : ℕ → Reading). let x : Outline = record { extent = s.geometry.extent; block = s.geometry.block; entries = s.geometry.entries; table = t; links = ls; readings = rs } in x)
    (fun_ext (λ n. links_left s t area m image n o ready left)) (fun_ext (λ k. readings_left s t m image holds k))

-- ---- images that are not written

vhd_quiet : (s : Site) (t : VolumeTable) (area : Held) (m : Known) (image : ℕ → List ℕ) (u : List ℕ) (x : Option Row) → IsOrderly s t m → IsFirm s t area m → IsLeftIn s t m area image → rows t (Vhd u) ≡ x
    → IsQuiet (volume_of s t area (Vhd u)) → image_of (content_in s t image) (Vhd u) ≡ image_of (content_now s t area) (Vhd u)
vhd_quiet s t area m image u None o ready left none settled = none_of_vhd (content_in s t image) u none ∙ sym (none_of_vhd (content_now s t area) u none)
vhd_quiet s t area m image u (Some r) o ready left there settled = by r.fresh refl
  where
    n : ℕ
    n = length r.extents * s.geometry.extent

    by : (b : Bool) → r.fresh ≡ b → image_of (content_in s t image) (Vhd u) ≡ image_of (content_now s t area) (Vhd u)
    by true new = new_vhd (content_in s t image) u r there new ∙ sym (new_vhd (content_now s t area) u r there new)
    by false full =
        vhd_of (content_in s t image) u r there full (whole s t m (Vhd u) o)
        ∙ image_same s.geometry.extent s.geometry.block s.geometry.entries n (sectors_of (content_in s t image) (Vhd u)) (sectors_of (content_now s t area) (Vhd u)) (geometry_of s t m o)
        (λ p below. quiet_sector s t area image (Vhd u) (left_row s t m area image (Vhd u) r o left refl there full) settled p (omega (arith, below, size_there s t (Vhd u) r there)))
        ∙ sym (vhd_of (content_now s t area) u r there full (whole s t m (Vhd u) o))

raw_quiet : (s : Site) (t : VolumeTable) (area : Held) (m : Known) (image : ℕ → List ℕ) (u : List ℕ) (x : Option Row) → IsOrderly s t m → IsFirm s t area m → IsLeftIn s t m area image → rows t (Raw u) ≡ x
    → IsQuiet (volume_of s t area (Raw u)) → image_of (content_in s t image) (Raw u) ≡ image_of (content_now s t area) (Raw u)
raw_quiet s t area m image u None o ready left none settled = none_of_raw (content_in s t image) u none ∙ sym (none_of_raw (content_now s t area) u none)
raw_quiet s t area m image u (Some r) o ready left there settled = by r.fresh refl
  where
    by : (b : Bool) → r.fresh ≡ b → image_of (content_in s t image) (Raw u) ≡ image_of (content_now s t area) (Raw u)
    by true new = new_raw (content_in s t image) u r there new ∙ sym (new_raw (content_now s t area) u r there new)
    by false full = raw_same (content_now s t area) (content_in s t image) u u r r (record {
      extent = refl;
      block = refl;
      entries = refl;
      before = there;
      after = there;
      extents = refl;
      fresh = refl;
      sectors = quiet_sector s t area image (Raw u) (left_row s t m area image (Raw u) r o left refl there full) settled;
    })

pub image_quiet : (s : Site) (t : VolumeTable) (area : Held) (m : Known) (image : ℕ → List ℕ) (n : Name) → IsOrderly s t m → IsFirm s t area m → IsLeftIn s t m area image
    → IsQuiet (volume_of s t area n) → image_of (content_in s t image) n ≡ image_of (content_now s t area) n
unfolding image_of
image_quiet s t area m image (Vhd u) o ready left settled = vhd_quiet s t area m image u (rows t (Vhd u)) o ready left refl settled
image_quiet s t area m image (Raw u) o ready left settled = raw_quiet s t area m image u (rows t (Raw u)) o ready left refl settled
image_quiet s t area m image Mgt o ready left settled = refl
image_quiet s t area m image (Old u) o ready left settled = refl
image_quiet s t area m image (Cbt u) o ready left settled = refl
image_quiet s t area m image (Clone d b w) o ready left settled = refl
image_quiet s t area m image (Inflate u k) o ready left settled = refl
image_quiet s t area m image (Coalesce v p) o ready left settled = refl
image_quiet s t area m image (Relink v p) o ready left settled = refl
image_quiet s t area m image (Leaf l p) o ready left settled = refl

pub none_link : (o : Option Image) → link_of o ≡ None → o ≡ None
none_link None e = refl
none_link (Some i) e = absurd (none-some _ (sym e))

-- an image that is not written to
pub image_still : (s : Site) (t : VolumeTable) (area : Held) (m : Known) (image : ℕ → List ℕ) (n : Name) → IsOrderly s t m → IsFirm s t area m → IsLeftIn s t m area image
    → is_written_in (shape_in s t m) n ≡ false → image_of (content_in s t image) n ≡ image_of (content_now s t area) n
image_still s t area m image n o firm left still = by (tree_row m.rows n) refl
  where
    none : (v : ℕ → List ℕ) → IsLeftIn s t m area v → tree_row m.rows n ≡ None → image_of (content_in s t v) n ≡ None
    none v l is = none_link (image_of (content_in s t v) n) (links_left s t area m v n o firm l ∙ ap link_in is)

    by : (x : Option TreeRow) → tree_row m.rows n ≡ x → image_of (content_in s t image) n ≡ image_of (content_now s t area) n
    by None is = none image left is ∙ sym (none (reads area) (left_in s t m area (reads area) o (Allows-reads (area_size s) area)) is)
    by (Some r) is =
        let w = In-tree_row m.rows n r is in
        image_quiet s t area m image n o firm left
        (subst (λ x. IsQuiet (volume_of s t area x)) w.1 (firm.quiet r w.0 (subst (λ x. is_written_in (shape_in s t m) x ≡ false) (sym w.1) still)))

-- ---- all of it

pub left_now : (s : Site) (area : Held) → IsLeft s area (reads area)
left_now s area = Allows-reads (area_size s) area

pub law_left_now : (s : Site) (t : VolumeTable) (area : Held) (m : Known) (image : ℕ → List ℕ) → IsOrderly s t m → IsReady s t area m → IsLeft s area image
    → IsAlike (shape_in s t m) (content_now s t area) (content_in s t image)
law_left_now s t area m image o ready left = record {
  outline = outline_left s t area m image o ready.firm (left_in s t m area image o left) (ready_places s t area m image o ready left)
      ∙ sym (outline_left s t area m (reads area) o ready.firm (left_in s t m area (reads area) o (left_now s area)) (ready_places s t area m (reads area) o ready (left_now s area)));
  images = λ n still. image_still s t area m image n o ready.firm (left_in s t m area image o left) still;
  records = λ u. record_of_first (content_in s t image) u
      ∙ ap first_of (records_same (content_now s t area) (content_in s t image) u (same_readings s t area m image o ready left))
      ∙ sym (record_of_first (content_now s t area) u);
}

pub law_left : (s : Site) (t : VolumeTable) (area : Held) (m : Known) (v : VolumeTable) (image : ℕ → List ℕ) → IsOrderly s t m → IsReady s t area m → IsBefore (area_size s) t area v image
    → IsAlike (shape_in s t m) (content_now s t area) (content_in s v image)
law_left s t area m v image o ready before =
    subst (λ l. IsAlike (shape_in s t m) (content_now s t area) (content_in s l image)) (sym before.table_is) (law_left_now s t area m image o ready before.sectors)
