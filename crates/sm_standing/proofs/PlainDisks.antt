-- The disks of a repository in which nothing is under way, and the sectors of a raw image.
use Rattle.std.proofs.Common.{◌≡◌, ℕ, zero, suc, ◌+◌, ◌<◌, ◌≤◌, inl, inr, true, false, cond, List, [], ◌∷◌, map, Some, None, refl, sym, ap, ap₂, ◌∙◌, subst, arith, nat_lt}
use Rattle.std.specs.List.{AllByRecursion, filter}
use Rattle.sm_base.specs.declared.names.Name.{Name}
use Rattle.sm_base.specs.declared.names.Name.TheVariants.{Mgt, Vhd, Raw, Cbt, Clone, Inflate}
use Rattle.vg_meta.specs.Tables.{VolumeTable, Row, names_of}
use Rattle.std.proofs.lemmas.Bool.{lt-ltb}
use Rattle.sm_disk.specs.Sectors.{zeros}
use Rattle.common_laws.specs.Lists.{In, numbers, ◌>>=◌}
use Rattle.sm_standing.specs.Plain.{is_plain, is_plain_name, IsPlain, is_simple, is_simple_name}
use Rattle.sm_standing.specs.Contents.{Content, row, sectors_of, size_of, record_of}
use Rattle.sm_standing.specs.Entries.{is_making, is_folding, folding, head}
use Rattle.sm_standing.specs.Images.{image_of, raw_image, answer_of, here, up, walk, image_reads, sectors_read, held_or}
use Rattle.sm_standing.specs.Standing.{standing_volume, stands_plainly, stands_forked, stands_folded, under, disk_at, disk_in}

-- ---- names

-- what holds of each row holds of one among them
pub all-In : (P : Row → Type 0) (rs : List Row) (r : Row) → AllByRecursion P rs → In r rs → P r
all-In P [] r all h = elim h [ ]
all-In P (s ∷ rs) r all (inl is) = subst P (sym is) all.0
all-In P (s ∷ rs) r all (inr h) = all-In P rs r all.1 h

plain_is_no_entry : (n : Name) → is_plain_name n ≡ true → (is_making n ≡ false) × (is_folding n ≡ false)
plain_is_no_entry Mgt h = (refl, refl)
plain_is_no_entry (Raw u) h = (refl, refl)
plain_is_no_entry (Vhd u) h = (refl, refl)
plain_is_no_entry (Cbt u) h = (refl, refl)
plain_is_no_entry _ h = absurd (let x = h in cc)

pub no_making : (rs : List Row) → AllByRecursion (λ r. is_plain r ≡ true) rs → filter is_making (names_of rs) ≡ []
no_making [] all = refl
no_making (r ∷ rs) all = ap (λ b. cond b (r.name ∷ filter is_making (names_of rs)) (filter is_making (names_of rs))) (plain_is_no_entry r.name all.0).0 ∙ no_making rs all.1

pub no_folding : (rs : List Row) → AllByRecursion (λ r. is_plain r ≡ true) rs → filter is_folding (names_of rs) ≡ []
no_folding [] all = refl
no_folding (r ∷ rs) all = ap (λ b. cond b (r.name ∷ filter is_folding (names_of rs)) (filter is_folding (names_of rs))) (plain_is_no_entry r.name all.0).1 ∙ no_folding rs all.1

simple_is_no_folding : (n : Name) → is_simple_name n ≡ true → is_folding n ≡ false
simple_is_no_folding Mgt h = refl
simple_is_no_folding (Raw u) h = refl
simple_is_no_folding (Vhd u) h = refl
simple_is_no_folding (Cbt u) h = refl
simple_is_no_folding (Clone disk base twin) h = refl
simple_is_no_folding (Inflate u extents) h = refl
simple_is_no_folding _ h = absurd (let x = h in cc)

pub simple_folding : (rs : List Row) → AllByRecursion (λ r. is_simple r ≡ true) rs → filter is_folding (names_of rs) ≡ []
simple_folding [] all = refl
simple_folding (r ∷ rs) all = ap (λ b. cond b (r.name ∷ filter is_folding (names_of rs)) (filter is_folding (names_of rs))) (simple_is_no_folding r.name all.0) ∙ simple_folding rs all.1

-- ---- standing

-- each UUID stands by itself
pub plain_stands : (t : VolumeTable) (u : List ℕ) → IsPlain t → standing_volume t u ≡ stands_plainly t u
unfolding standing_volume
plain_stands t u plain =
    ap (λ ns. under (λ e. stands_forked t e u) (head ns) (under (λ e. stands_folded t e u) (head (folding t)) (stands_plainly t u))) (no_making t.volumes plain)
    ∙ ap (λ ns. under (λ e. stands_folded t e u) (head ns) (stands_plainly t u)) (no_folding t.volumes plain)

-- what does not stand is no disk
pub none_stands : (c : Content) (u : List ℕ) → standing_volume c.table u ≡ None → disk_at c u ≡ None
unfolding disk_at
none_stands c u none = ap (λ o. o >>= (λ n. record_of c u >>= (λ r. Some (disk_in c u r n)))) none

-- ---- the sectors of a raw image

pub map_numbers : {A : Type 0} (f g : ℕ → A) (a n : ℕ) → ((k : ℕ) → a ≤ k → k < a + n → f k ≡ g k) → map f (numbers a n) ≡ map g (numbers a n)
unfolding numbers
map_numbers f g a zero same = refl
map_numbers {A} f g a (suc n) same =
    ap₂ (λ (x : A) (xs : List A). x ∷ xs) (same a (omega arith) (omega arith)) (map_numbers f g (a + 1) n (λ k from below. same k (omega arith) (omega arith)))

-- what a row of a raw image makes of the image
filled_image : (c : Content) (u : List ℕ) (r : Row) → row c (Raw u) ≡ Some r → r.fresh ≡ false → image_of c (Raw u) ≡ Some (raw_image c (Raw u))
unfolding image_of
filled_image c u r there filled =
    ap (λ o. o >>= (λ s. cond s.fresh None (Some (raw_image c (Raw u))))) there
    ∙ ap (λ b. cond b None (Some (raw_image c (Raw u)))) filled

below_true : (a b : ℕ) → a < b → nat_lt a b ≡ true
below_true a b h = lt-ltb a b h

-- a sector of a raw image is read as it stands in the volume
pub raw_reads : (c : Content) (u : List ℕ) (r : Row) → row c (Raw u) ≡ Some r → r.fresh ≡ false
    → (s : ℕ) → s < size_of c (Raw u) → image_reads c (Raw u) s ≡ sectors_of c (Raw u) s
unfolding image_reads walk answer_of raw_image
raw_reads c u r there filled s within =
    ap (λ o. elim (answer_of s o) [ here bytes ↦ bytes | up p ↦ walk 29 (λ m. answer_of s (image_of c m)) p ]) (filled_image c u r there filled)
    ∙ ap (λ b. elim (cond b (held_or (cond b (Some (sectors_of c (Raw u) s)) None) None) (here zeros)) [ here bytes ↦ bytes | up p ↦ walk 29 (λ m. answer_of s (image_of c m)) p ])
    (below_true s (size_of c (Raw u)) within)

pub raw_sectors_read : (c : Content) (u : List ℕ) (r : Row) → row c (Raw u) ≡ Some r → r.fresh ≡ false
    → sectors_read c (Raw u) ≡ map (sectors_of c (Raw u)) (numbers 0 (size_of c (Raw u)))
unfolding sectors_read raw_image
raw_sectors_read c u r there filled =
    ap (λ o. elim o [ None ↦ [] | Some i ↦ map (image_reads c (Raw u)) (numbers 0 i.size) ]) (filled_image c u r there filled)
    ∙ map_numbers (image_reads c (Raw u)) (sectors_of c (Raw u)) 0 (size_of c (Raw u)) (λ k from below. raw_reads c u r there filled k (omega arith))
