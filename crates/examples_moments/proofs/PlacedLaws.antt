-- Where the images and records of a worked content lie.
use Rattle.std.proofs.Common.{◌≡◌, ℕ, zero, suc, ◌+◌, ◌-◌, ◌*◌, ◌/◌, ◌<◌, ◌≤◌, ◌&&◌, Bool, false, cond, nat_le, nat_lt, slice_index, List, [], ◌∷◌, Option, Some, None, refl, ap, ◌∙◌, arith}
use Rattle.std.proofs.lemmas.Bool.{lt-ltb, le-ltb, le-leb, lt-leb, and_from, and_right}
use Rattle.std.specs.List.{filter_map, cons_option}
use Rattle.sm_base.specs.declared.names.Name.{Name}
use Rattle.sm_base.specs.declared.names.Name.TheVariants.{Mgt, Vhd}
use Rattle.sm_disk.specs.Sectors.{zeros}
use Rattle.common_laws.specs.Lists.{numbers, ◌>>=◌}
use Rattle.sm_record.specs.declared.records.Record.{Record}
use Rattle.sm_record.specs.declared.records.Reading.TheVariants.{Free}
use Rattle.sm_record.specs.Records.{IsRecord, record_sector, reading}
use Rattle.sm_record.proofs.RoundTrips.{reading_again, reading_zeros}
use Rattle.vg_meta.specs.Tables.{Row, VolumeTable, rows, extents_of}
use Rattle.vg_volumes.specs.Volumes.{piece, spot}
use Rattle.vhd_layout.specs.Contents.{content_at}
use Rattle.vhd_layout.specs.Images.{IsValid}
use Rattle.vhd_layout.specs.Layouts.{Sectors}
use Rattle.sm_standing.specs.Contents.{sectors_of, records, reading_at, taken}
use Rattle.sm_standing.specs.Entries.{making}
use Rattle.examples_standing.specs.SmallContents.{record_row}
use Rattle.sm_standing.specs.Images.{image_of, vhd_image, image_extents}
use Rattle.sm_standing.specs.Checks.{is_damaged, record_place, record_fault}
use Rattle.sm_standing.specs.Outlines.{reading_in, outline}
use Rattle.sm_standing.proofs.OutlineLaws.{reading_within}
use Rattle.common_laws.proofs.Lists.{find_none, In-numbers}
use Rattle.examples_moments.specs.Worked.{laid, record_area, area_of, content_with}
use Rattle.examples_moments.proofs.PieceLaws.{same_image_at}

-- ---- places

index_numbers : (a n j : ℕ) → j < n → slice_index (numbers a n) j ≡ a + j
unfolding numbers
index_numbers a zero j below = absurd (omega arith)
index_numbers a (suc n) zero below = omega arith
index_numbers a (suc n) (suc j) below = index_numbers (a + 1) n j (omega arith) ∙ omega arith

pub spot_numbers : (a n s : ℕ) → s < 32 * n → spot 32 (numbers a n) s ≡ 32 * a + s
unfolding spot
spot_numbers a n s below = let e = index_numbers a n (s / 32) (omega arith) in omega (arith, e)

laid_here : (at : ℕ) (image : Sectors) (rest : ℕ → List ℕ) (p s : ℕ) → p ≡ at + s → s < 160 → laid at image rest p ≡ image s
laid_here at image rest p s is below =
    ap (λ b. cond b (image (p - at)) (rest p)) (and_from (nat_le at p) (nat_lt p (at + 160)) (le-leb at p (omega (arith, is))) (lt-ltb p (at + 160) (omega (arith, is))))
    ∙ ap image (omega (arith, is))

laid_past : (at : ℕ) (image : Sectors) (rest : ℕ → List ℕ) (p : ℕ) → at + 160 ≤ p → laid at image rest p ≡ rest p
laid_past at image rest p past = ap (λ b. cond b (image (p - at)) (rest p)) (and_right (nat_le at p) (nat_lt p (at + 160)) (le-ltb p (at + 160) past))

not_yet : (at p : ℕ) → p < at → nat_le at p ≡ false
not_yet at p before = lt-leb at p before

laid_before : (at : ℕ) (image : Sectors) (rest : ℕ → List ℕ) (p : ℕ) → p < at → laid at image rest p ≡ rest p
laid_before at image rest p before = ap (λ b. cond (b && nat_lt p (at + 160)) (image (p - at)) (rest p)) (not_yet at p before)

pub area_first : (x y z : Sectors) (rs : List Record) (p s : ℕ) → p ≡ 512 + s → s < 160 → area_of x y z rs p ≡ x s
area_first x y z rs p s is below = laid_here 512 x (laid 672 y (laid 832 z (record_area rs))) p s is below

pub area_second : (x y z : Sectors) (rs : List Record) (p s : ℕ) → p ≡ 672 + s → s < 160 → area_of x y z rs p ≡ y s
area_second x y z rs p s is below =
    laid_past 512 x (laid 672 y (laid 832 z (record_area rs))) p (omega (arith, is)) ∙ laid_here 672 y (laid 832 z (record_area rs)) p s is below

pub area_third : (x y z : Sectors) (rs : List Record) (p s : ℕ) → p ≡ 832 + s → s < 160 → area_of x y z rs p ≡ z s
area_third x y z rs p s is below =
    laid_past 512 x (laid 672 y (laid 832 z (record_area rs))) p (omega (arith, is))
    ∙ laid_past 672 y (laid 832 z (record_area rs)) p (omega (arith, is))
    ∙ laid_here 832 z (record_area rs) p s is below

pub area_records : (x y z : Sectors) (rs : List Record) (p : ℕ) → p < 512 → area_of x y z rs p ≡ record_area rs p
area_records x y z rs p below =
    laid_before 512 x (laid 672 y (laid 832 z (record_area rs))) p (omega arith)
    ∙ laid_before 672 y (laid 832 z (record_area rs)) p (omega arith)
    ∙ laid_before 832 z (record_area rs) p (omega arith)

-- ---- images

sectors_by : (t : VolumeTable) (area : ℕ → List ℕ) (n : Name) (r : Row) (at k : ℕ) → rows t n ≡ Some r → r.extents ≡ numbers at k → (s : ℕ) → s < 32 * k
    → sectors_of (content_with t area) n s ≡ area (32 * at + s)
unfolding sectors_of piece
sectors_by t area n r at k there extents s below =
    ap (λ o. area (spot 32 (extents_of o) s)) there ∙ ap (λ es. area (spot 32 es s)) extents ∙ ap area (spot_numbers at k s below)

-- the image of a row is what lies in its extents
pub placed_image : (t : VolumeTable) (area : ℕ → List ℕ) (u : List ℕ) (hidden : Bool) (at : ℕ) (name : Name) (v : Sectors)
    → rows t (Vhd u) ≡ Some (record { name = name; hidden = hidden; fresh = false; extents = numbers at 5 })
    → image_extents (making t) (Vhd u) 5 ≡ 5 → ((s : ℕ) → s < 160 → area (32 * at + s) ≡ v s) → IsValid 8 64 160 v
    → image_of (content_with t area) (Vhd u) ≡ Some (content_at 8 64 160 v)
unfolding image_of vhd_image numbers
placed_image t area u hidden at name v there whole lies valid =
    ap (λ o. o >>= (λ r. cond r.fresh None (vhd_image (content_with t area) (Vhd u) r))) there
    ∙ ap (λ (k : ℕ). Rattle.vhd_layout.specs.Readings.image_at 8 64 (k * 32) (sectors_of (content_with t area) (Vhd u))) whole
    ∙ same_image_at (sectors_of (content_with t area) (Vhd u)) v
    (λ s below. sectors_by t area (Vhd u) (record { name = name; hidden = hidden; fresh = false; extents = numbers at 5 }) at 5 there refl s (omega arith) ∙ lies s below) valid

-- ---- records

taken_first : {A : Type 0} (f : ℕ → Option A) (a n : ℕ) (x : A) → f a ≡ Some x → filter_map f (numbers a (suc n)) ≡ x ∷ filter_map f (numbers (a + 1) n)
unfolding numbers
taken_first f a n x is = ap (λ o. cons_option o (filter_map f (numbers (a + 1) n))) is

taken_none : {A : Type 0} (f : ℕ → Option A) (a n : ℕ) → ((k : ℕ) → a ≤ k → k < a + n → f k ≡ None) → filter_map f (numbers a n) ≡ []
unfolding numbers
taken_none f a zero none = refl
taken_none f a (suc n) none =
    ap (λ o. cons_option o (filter_map f (numbers (a + 1) n))) (none a (omega arith) (omega arith))
    ∙ taken_none f (a + 1) n (λ k from below. none k (omega arith) (omega arith))

pub reading_placed : (t : VolumeTable) (x y z : Sectors) (rs : List Record) (k : ℕ) → rows t Mgt ≡ Some (record_row (numbers 0 16)) → k < 512
    → reading_at (content_with t (area_of x y z rs)) k ≡ reading (record_area rs k)
reading_placed t x y z rs k there below =
    let place : 32 * 0 + k ≡ k = omega arith in
    ap reading (sectors_by t (area_of x y z rs) Mgt (record_row (numbers 0 16)) 0 16 there refl k (omega arith) ∙ ap (area_of x y z rs) place ∙ area_records x y z rs k below)

zeros_free : reading zeros ≡ Free
unfolding zeros
zeros_free = reading_zeros 512

behind_one : (r : Record) (k : ℕ) → 1 ≤ k → record_area (r ∷ []) k ≡ zeros
behind_one r zero from = absurd (omega arith)
behind_one r (suc k) from = refl

behind_two : (r s : Record) (k : ℕ) → 2 ≤ k → record_area (r ∷ s ∷ []) k ≡ zeros
behind_two r s zero from = absurd (omega arith)
behind_two r s (suc zero) from = absurd (omega arith)
behind_two r s (suc (suc k)) from = refl

-- one record, and two
pub one_record : (t : VolumeTable) (x y z : Sectors) (r : Record) → rows t Mgt ≡ Some (record_row (numbers 0 16)) → IsRecord r
    → records (content_with t (area_of x y z (r ∷ []))) ≡ r ∷ []
unfolding records
one_record t x y z r there right =
    taken_first (λ k. taken (reading_at (content_with t (area_of x y z (r ∷ []))) k)) 0 511 r
    (ap taken (reading_placed t x y z (r ∷ []) 0 there (omega arith) ∙ reading_again r right))
    ∙ ap (λ rs. r ∷ rs) (taken_none (λ k. taken (reading_at (content_with t (area_of x y z (r ∷ []))) k)) 1 511 (λ k from below.
    ap taken (reading_placed t x y z (r ∷ []) k there (omega arith) ∙ ap reading (behind_one r k from) ∙ zeros_free)))

pub two_records : (t : VolumeTable) (x y z : Sectors) (r s : Record) → rows t Mgt ≡ Some (record_row (numbers 0 16)) → IsRecord r → IsRecord s
    → records (content_with t (area_of x y z (r ∷ s ∷ []))) ≡ r ∷ s ∷ []
unfolding records
two_records t x y z r s there right right' =
    taken_first (λ k. taken (reading_at (content_with t (area_of x y z (r ∷ s ∷ []))) k)) 0 511 r
    (ap taken (reading_placed t x y z (r ∷ s ∷ []) 0 there (omega arith) ∙ reading_again r right))
    ∙ ap (λ rs. r ∷ rs) (taken_first (λ k. taken (reading_at (content_with t (area_of x y z (r ∷ s ∷ []))) k)) 1 510 s
    (ap taken (reading_placed t x y z (r ∷ s ∷ []) 1 there (omega arith) ∙ reading_again s right')))
    ∙ ap (λ rs. r ∷ s ∷ rs) (taken_none (λ k. taken (reading_at (content_with t (area_of x y z (r ∷ s ∷ []))) k)) 2 510 (λ k from below.
    ap taken (reading_placed t x y z (r ∷ s ∷ []) k there (omega arith) ∙ ap reading (behind_two r s k from) ∙ zeros_free)))

free_right : (rs : List Record) (k : ℕ) → record_area rs k ≡ zeros → is_damaged (reading (record_area rs k)) ≡ false
free_right rs k is = ap is_damaged (ap reading is ∙ zeros_free)

taken_right : (r : Record) → IsRecord r → is_damaged (reading (record_sector r)) ≡ false
taken_right r right = ap is_damaged (reading_again r right)

one_right : (r : Record) → IsRecord r → (k : ℕ) → is_damaged (reading (record_area (r ∷ []) k)) ≡ false
one_right r right zero = taken_right r right
one_right r right (suc k) = free_right (r ∷ []) (suc k) refl

two_right : (r s : Record) → IsRecord r → IsRecord s → (k : ℕ) → is_damaged (reading (record_area (r ∷ s ∷ []) k)) ≡ false
two_right r s right right' zero = taken_right r right
two_right r s right right' (suc zero) = taken_right s right'
two_right r s right right' (suc (suc k)) = free_right (r ∷ s ∷ []) (suc (suc k)) refl

by_sector : (t : VolumeTable) (x y z : Sectors) (rs : List Record) → rows t Mgt ≡ Some (record_row (numbers 0 16)) → ((k : ℕ) → is_damaged (reading (record_area rs k)) ≡ false)
    → record_fault (outline (content_with t (area_of x y z rs))) ≡ None
unfolding record_fault
by_sector t x y z rs there right =
    ap record_place (find_none (λ k. is_damaged (reading_in (content_with t (area_of x y z rs)) k)) (numbers 0 512) (λ k h.
    let within = (In-numbers 0 512 k h).1 in ap is_damaged (reading_within (content_with t (area_of x y z rs)) k within ∙ reading_placed t x y z rs k there (omega (arith, within))) ∙ right k))

pub one_undamaged : (t : VolumeTable) (x y z : Sectors) (r : Record) → rows t Mgt ≡ Some (record_row (numbers 0 16)) → IsRecord r → record_fault (outline (content_with t (area_of x y z (r ∷ [])))) ≡ None
one_undamaged t x y z r there right = by_sector t x y z (r ∷ []) there (one_right r right)

pub two_undamaged : (t : VolumeTable) (x y z : Sectors) (r s : Record) → rows t Mgt ≡ Some (record_row (numbers 0 16)) → IsRecord r → IsRecord s
    → record_fault (outline (content_with t (area_of x y z (r ∷ s ∷ [])))) ≡ None
two_undamaged t x y z r s there right right' = by_sector t x y z (r ∷ s ∷ []) there (two_right r s right right')
