-- Bytes spell one table by a grammar, and how long its text is.
use Rattle.std.proofs.Common.{◌≡◌, ℕ, ◌+◌, ◌*◌, ◌<◌, ◌≤◌, ◌^◌, Bool, true, false, not, cond, List, [], ◌∷◌, ◌++◌, length, length-append, refl, sym, ap, ap₂, ◌∙◌, arith}
use Rattle.std.specs.Prelude.{filter}
use Rattle.std.specs.List.{flat_map, AllByRecursion}
use Rattle.std.proofs.lemmas.Bool.{true≢false}
use Rattle.sm_base.specs.declared.names.Name.{Name}
use Rattle.sm_base.specs.declared.names.Name.TheVariants.{Mgt, Vhd, Raw, Old, Cbt, Clone, Inflate, Coalesce, Relink, Leaf}
use Rattle.sm_base.specs.Kinds.{is_image}
use Rattle.sm_base.specs.Names.{spelling}
use Rattle.sm_base.proofs.NameLemmas.{length-spelling, length-spelling-le}
use Rattle.vg_meta.specs.declared.grammars.Grammar.{Grammar}
use Rattle.vg_meta.specs.declared.grammars.Grammar.TheVariants.{Listed, Segmented}
use Rattle.vg_meta.specs.Reading.{SpellsBy}
use Rattle.vg_meta.specs.Tables.{Row, VolumeTable, IsVolume, IsTable, extents_in, used}
use Rattle.vg_meta.specs.Text.{text_by, extents_by, volume_by}
use Rattle.vg_meta.proofs.ReadLaws.{number_same, parts_same, volume_same_by}
use Rattle.vg_meta.proofs.SegmentLaws.{few-segments}
use Rattle.vg_meta.proofs.SegmentTextLaws.{length-segmented}
use Rattle.vg_meta.proofs.WriteLaws.{text-parts, length-text_by, length-volume_by, length-listed_extents}

-- ---- one table

all_parts : (P : ℕ → Type 0) (xs ys : List ℕ) → AllByRecursion P (xs ++ ys) → AllByRecursion P xs × AllByRecursion P ys
all_parts P [] ys h = (tt, h)
all_parts P (x ∷ xs) ys h = let t = all_parts P xs ys h.1 in ((h.0, t.0), t.1)

all_weaker : (P Q : ℕ → Type 0) → ((x : ℕ) → P x → Q x) → (xs : List ℕ) → AllByRecursion P xs → AllByRecursion Q xs
all_weaker P Q w [] h = tt
all_weaker P Q w (x ∷ xs) h = (w x h.0, all_weaker P Q w xs h.1)

-- volumes that have their places in a text
record HasPlaces (rs : List Row) : Type 0 where
  each : AllByRecursion IsVolume rs
  few : length (extents_in rs) < 2 ^ 32
  fit : AllByRecursion (λ e. e < 2 ^ 32) (extents_in rs)

rest_has : (r : Row) (rs : List Row) → HasPlaces (r ∷ rs) → HasPlaces rs
rest_has r rs h = record {
  each = h.each.1;
  few = omega (arith, h.few, length-append r.extents (extents_in rs));
  fit = (all_parts (λ e. e < 2 ^ 32) r.extents (extents_in rs) h.fit).1;
}

few_first : (r : Row) (rs : List Row) → HasPlaces (r ∷ rs) → length r.extents < 2 ^ 32
few_first r rs h = omega (arith, h.few, length-append r.extents (extents_in rs))

fit_first : (r : Row) (rs : List Row) → HasPlaces (r ∷ rs) → AllByRecursion (λ e. e < 2 ^ 32) r.extents
fit_first r rs h = (all_parts (λ e. e < 2 ^ 32) r.extents (extents_in rs) h.fit).0

volumes_same : (g : Grammar) (rs ss : List Row) → length rs ≡ length ss → HasPlaces rs → HasPlaces ss
    → flat_map (volume_by g) rs ≡ flat_map (volume_by g) ss → rs ≡ ss
volumes_same g [] [] long h k e = refl
volumes_same g [] (s ∷ ss) long h k e = absurd (omega arith)
volumes_same g (r ∷ rs) [] long h k e = absurd (omega arith)
volumes_same g (r ∷ rs) (s ∷ ss) long h k e =
    let first : r ≡ s = volume_same_by g (flat_map (volume_by g) (r ∷ rs)) r s (flat_map (volume_by g) rs) (flat_map (volume_by g) ss) h.each.0.name k.each.0.name
    (few_first r rs h) (few_first s ss k) (fit_first r rs h) (fit_first s ss k) refl e in
    let rest : flat_map (volume_by g) rs ≡ flat_map (volume_by g) ss =
    (parts_same (volume_by g r) (flat_map (volume_by g) rs) (volume_by g s) (flat_map (volume_by g) ss) (ap length (ap (volume_by g) first)) e).1 in
    ap₂ (λ (x : Row) (xs : List Row). x ∷ xs) first (volumes_same g rs ss (omega arith) (rest_has r rs h) (rest_has s ss k) rest)

has_places : (g : Grammar) (count : ℕ) (bytes : List ℕ) (t : VolumeTable) → count ≤ 2 ^ 32 → SpellsBy g count bytes t → HasPlaces t.volumes
has_places g count bytes t few s = record {
  each = s.table.volumes.each;
  few = s.fits.extents;
  fit = all_weaker (λ e. e < count) (λ e. e < 2 ^ 32) (λ e h. omega arith) (extents_in t.volumes) s.table.volumes.below;
}

pub spells_once : (g : Grammar) (count : ℕ) (bytes : List ℕ) (t u : VolumeTable) → count ≤ 2 ^ 32 → SpellsBy g count bytes t → SpellsBy g count bytes u → t ≡ u
spells_once g count bytes t u few s r =
    let small : t.sequence < 256 ^ 8 = omega (arith, s.table.sequence) in
    let low : u.sequence < 256 ^ 8 = omega (arith, r.table.sequence) in
    let first = number_same 8 t.sequence u.sequence _ _ small low (sym (s.spelled ∙ text-parts g t) ∙ r.spelled ∙ text-parts g u) in
    let numbers = number_same 4 (length t.volumes) (length u.volumes) _ _ (omega (arith, s.fits.volumes)) (omega (arith, r.fits.volumes)) first.1 in
    let volumes : t.volumes ≡ u.volumes = volumes_same g t.volumes u.volumes numbers.0 (has_places g count bytes t few s) (has_places g count bytes u few r) numbers.1 in
    ap₂ (λ (q : ℕ) (rs : List Row). let l : VolumeTable = record { sequence = q; volumes = rs } in l) first.0 volumes

-- ---- how long

segmented_most : (rs : List Row) → length (flat_map (volume_by Segmented) rs) ≤ length (flat_map (volume_by Listed) rs) + 4 * length (extents_in rs)
segmented_most [] = omega arith
segmented_most (r ∷ rs) =
    omega (
      arith,
      segmented_most rs,
      length-append (volume_by Segmented r) (flat_map (volume_by Segmented) rs),
      length-append (volume_by Listed r) (flat_map (volume_by Listed) rs),
      length-append r.extents (extents_in rs),
      length-volume_by Segmented r,
      length-volume_by Listed r,
      length-segmented r.extents,
      length-listed_extents r.extents,
      few-segments r.extents,
    )

pub length-against : (t : VolumeTable) → length (text_by Segmented t) ≤ length (text_by Listed t) + 4 * length (used t)
length-against t = omega (arith, length-text_by Segmented t, length-text_by Listed t, segmented_most t.volumes)

extents_most : (g : Grammar) (es : List ℕ) → length (extents_by g es) ≤ 4 + 8 * length es
extents_most Listed es = omega (arith, length-listed_extents es)
extents_most Segmented es = omega (arith, length-segmented es, few-segments es)

image_spelling : (n : Name) → is_image n ≡ true → length (spelling n) ≤ 40
image_spelling Mgt is = absurd (true≢false (sym is))
image_spelling (Vhd u) is = omega (arith, length-spelling (Vhd u))
image_spelling (Raw u) is = omega (arith, length-spelling (Raw u))
image_spelling (Old u) is = omega (arith, length-spelling (Old u))
image_spelling (Cbt u) is = absurd (true≢false (sym is))
image_spelling (Clone d b t) is = absurd (true≢false (sym is))
image_spelling (Inflate i m) is = absurd (true≢false (sym is))
image_spelling (Coalesce c p) is = absurd (true≢false (sym is))
image_spelling (Relink c p) is = absurd (true≢false (sym is))
image_spelling (Leaf l p) is = absurd (true≢false (sym is))

images : List Row → ℕ
images rs = length (filter (λ (r : Row). is_image r.name) rs)

others : List Row → ℕ
others rs = length (filter (λ (r : Row). not (is_image r.name)) rs)

one_image : (r : Row) (rs : List Row) → is_image r.name ≡ true → (images (r ∷ rs) ≡ 1 + images rs) × (others (r ∷ rs) ≡ others rs)
unfolding images others
one_image r rs is =
    let left = filter (λ (s : Row). is_image s.name) rs in
    let right = filter (λ (s : Row). not (is_image s.name)) rs in (
      ap (λ (b : Bool). length (cond b (r ∷ left) left)) is ∙ omega arith,
      ap (λ (b : Bool). length (cond (not b) (r ∷ right) right)) is,
    )

one_other : (r : Row) (rs : List Row) → is_image r.name ≡ false → (images (r ∷ rs) ≡ images rs) × (others (r ∷ rs) ≡ 1 + others rs)
unfolding images others
one_other r rs is =
    let left = filter (λ (s : Row). is_image s.name) rs in
    let right = filter (λ (s : Row). not (is_image s.name)) rs in (
      ap (λ (b : Bool). length (cond b (r ∷ left) left)) is,
      ap (λ (b : Bool). length (cond (not b) (r ∷ right) right)) is ∙ omega arith,
    )

volumes_most : (g : Grammar) (rs : List Row) → AllByRecursion IsVolume rs
    → length (flat_map (volume_by g) rs) ≤ 46 * images rs + 122 * others rs + 8 * length (extents_in rs)
volumes_most g [] all = omega arith
volumes_most g (r ∷ rs) all = by (is_image r.name) refl (volumes_most g rs all.1)
  where
    by : (b : Bool) → is_image r.name ≡ b → length (flat_map (volume_by g) rs) ≤ 46 * images rs + 122 * others rs + 8 * length (extents_in rs)
        → length (flat_map (volume_by g) (r ∷ rs)) ≤ 46 * images (r ∷ rs) + 122 * others (r ∷ rs) + 8 * length (extents_in (r ∷ rs))
    by true is rest =
        omega (
          arith,
          rest,
          one_image r rs is,
          length-append (volume_by g r) (flat_map (volume_by g) rs),
          length-append r.extents (extents_in rs),
          length-volume_by g r,
          extents_most g r.extents,
          image_spelling r.name is,
        )
    by false is rest =
        omega (
          arith,
          rest,
          one_other r rs is,
          length-append (volume_by g r) (flat_map (volume_by g) rs),
          length-append r.extents (extents_in rs),
          length-volume_by g r,
          extents_most g r.extents,
          length-spelling-le r.name all.0.name,
        )

pub length-most : (g : Grammar) (count : ℕ) (t : VolumeTable) → IsTable count t
    → length (text_by g t) ≤ 12 + 46 * length (filter (λ (r : Row). is_image r.name) t.volumes) + 122 * length (filter (λ (r : Row). not (is_image r.name)) t.volumes) + 8 * length (used t)
unfolding images others
length-most g count t is = omega (arith, length-text_by g t, volumes_most g t.volumes is.volumes.each)

-- an extent has 4 bytes where it is listed
listed_least : (rs : List Row) → 4 * length (extents_in rs) ≤ length (flat_map (volume_by Listed) rs)
listed_least [] = omega arith
listed_least (r ∷ rs) =
    omega (
      arith,
      listed_least rs,
      length-append (volume_by Listed r) (flat_map (volume_by Listed) rs),
      length-append r.extents (extents_in rs),
      length-volume_by Listed r,
      length-listed_extents r.extents,
    )

-- so by segments a text is never more than twice as long
pub length-twice : (t : VolumeTable) → length (text_by Segmented t) ≤ 2 * length (text_by Listed t)
length-twice t = omega (arith, length-against t, length-text_by Listed t, listed_least t.volumes)
