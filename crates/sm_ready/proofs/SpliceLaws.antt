-- An image of the area with other sectors in one volume.
use Rattle.std.proofs.Common.{◌≡◌, ◌≢◌, ℕ, ◌+◌, ◌*◌, ◌/◌, ◌%◌, ◌<◌, ◌==◌, cond, List, [], Option, Some, None, refl, sym, ap, ap₂, ◌∙◌, subst, arith, eq-eqb}
use Rattle.std.specs.Prelude.{slice_get, slice_index}
use Rattle.std.specs.List.{find}
use Rattle.std.proofs.lemmas.Bool.{lt-ltb, true≢false, eqb-true}
use Rattle.std.proofs.lemmas.Nat.{same_from_place, mod_below, div-add-mod'}
use Rattle.std.proofs.lemmas.Option.{slice_get-get_or}
use Rattle.std.proofs.Math.Nat.{div-lt_iff_lt-mul}
use Rattle.sm_base.specs.declared.names.Name.{Name}
use Rattle.sm_disk.specs.Held.{Held, May, Allows}
use Rattle.vg_meta.specs.Tables.{VolumeTable, IsTable, rows, extents_of}
use Rattle.vg_meta.proofs.ByName.{spread}
use Rattle.vg_volumes.specs.Sites.{Site, area_size, size_of, volume_of}
use Rattle.vg_volumes.specs.Volumes.{spot, span, volume, piece, IsElsewhere, KeepsElsewhere}
use Rattle.vhd_layout.specs.Layouts.{Sectors}
use Rattle.common_laws.specs.Lists.{numbers}
use Rattle.common_laws.proofs.Lists.{find-some, In-numbers, numbers-In, none_find}
use Rattle.sm_standing.specs.Contents.{sectors_of}
use Rattle.sm_standing.proofs.WorldLaws.{elsewhere}
use Rattle.sm_ready.specs.Stores.{content_in}

-- the volume's sector that lies at a place of the area
unfoldable pub place_in : ℕ → List ℕ → ℕ → Option ℕ
place_in extent es q = find (λ p. spot extent es p == q) (numbers 0 (span extent es))

-- the volume's sectors v, and the image's own elsewhere
abbrev spliced : Sectors → List ℕ → Option ℕ → List ℕ
spliced v own None = own
spliced v own (Some p) = v p

unfoldable pub with_volume : ℕ → List ℕ → Sectors → Sectors → Sectors
with_volume extent es v image q = spliced v (image q) (place_in extent es q)

place_some : (extent : ℕ) (es : List ℕ) (q p : ℕ) → place_in extent es q ≡ Some p → (p < span extent es) × (spot extent es p ≡ q)
unfolding place_in
place_some extent es q p is =
    let w = find-some (λ p. spot extent es p == q) (numbers 0 (span extent es)) p is in
    (omega (arith, (In-numbers 0 (span extent es) p w.0).1), eqb-true (spot extent es p) q w.1)

place_none : (extent : ℕ) (es : List ℕ) (q : ℕ) → place_in extent es q ≡ None → IsElsewhere extent es q
unfolding place_in
place_none extent es q is p below same =
    true≢false (sym (eq-eqb (spot extent es p) q same) ∙ none_find (λ p. spot extent es p == q) (numbers 0 (span extent es)) is p (numbers-In 0 (span extent es) p (omega arith) (omega (arith, below))))

-- two sectors of a volume lie at two places
spots_same : (s : Site) (t : VolumeTable) (n : Name) (p q : ℕ) → IsTable s.count t → 0 < s.geometry.extent → p < size_of s t n → q < size_of s t n
    → spot s.geometry.extent (extents_of (rows t n)) p ≡ spot s.geometry.extent (extents_of (rows t n)) q → p ≡ q
unfolding spot
spots_same s t n p q table pos p_in q_in at =
    let e = s.geometry.extent in
    let es = extents_of (rows t n) in
    let one = same_from_place (slice_index es (p / e)) (p % e) (slice_index es (q / e)) (q % e) e (mod_below p e pos) (mod_below q e pos) at in
    let there : (k : ℕ) → k < size_of s t n → slice_get es (k / e) ≡ Some (slice_index es (k / e)) = λ k below. slice_get-get_or es (k / e) 0 ((div-lt_iff_lt-mul pos).1 below) in
    let place : p / e ≡ q / e = (spread s.count t table).same_place n (p / e) (q / e) (slice_index es (p / e)) (there p p_in) (there q q_in ∙ ap Some (sym one.0)) in
    sym (div-add-mod' p e) ∙ ap₂ (λ a b. a * e + b) place one.1 ∙ div-add-mod' q e

-- ---- read off it

pub splice_here : (s : Site) (t : VolumeTable) (n : Name) (v image : Sectors) (p : ℕ) → IsTable s.count t → 0 < s.geometry.extent → p < size_of s t n
    → sectors_of (content_in s t (with_volume s.geometry.extent (extents_of (rows t n)) v image)) n p ≡ v p
unfolding sectors_of piece with_volume
splice_here s t n v image p table pos below = by (place_in e es (spot e es p)) refl
  where
    e : ℕ
    e = s.geometry.extent

    es : List ℕ
    es = extents_of (rows t n)

    by : (o : Option ℕ) → place_in e es (spot e es p) ≡ o → spliced v (image (spot e es p)) o ≡ v p
    by None is = absurd (place_none e es (spot e es p) is p below refl)
    by (Some q) is = let w = place_some e es (spot e es p) q is in ap v (spots_same s t n q p table pos w.0 below w.1)

pub splice_other : (s : Site) (t : VolumeTable) (n m : Name) (v image : Sectors) (p : ℕ) → IsTable s.count t → 0 < s.geometry.extent → m ≢ n → p < size_of s t m
    → sectors_of (content_in s t (with_volume s.geometry.extent (extents_of (rows t n)) v image)) m p ≡ sectors_of (content_in s t image) m p
unfolding sectors_of piece with_volume
splice_other s t n m v image p table pos other below = by (place_in e es at) refl
  where
    e : ℕ
    e = s.geometry.extent

    es : List ℕ
    es = extents_of (rows t n)

    at : ℕ
    at = spot e (extents_of (rows t m)) p

    by : (o : Option ℕ) → place_in e es at ≡ o → spliced v (image at) o ≡ image at
    by None is = refl
    by (Some q) is = let w = place_some e es at q is in absurd (elsewhere s.count e (rows t) n m p (spread s.count t table) pos other below q w.0 w.1)

-- ---- a stop might have left it

area_may : (extent : ℕ) (es : List ℕ) (area : Held) (p : ℕ) (v : List ℕ) → p < span extent es → May (volume extent es area) p v → May area (spot extent es p) v
unfolding volume
area_may extent es area p v below may =
    subst (λ b. May (record { floor = λ q. cond b (area.floor (spot extent es p)) []; pending = λ q. cond b (area.pending (spot extent es p)) [] }) p v) (lt-ltb p (span extent es) below) may

pub splice_left : (s : Site) (t : VolumeTable) (n : Name) (old new : Held) (v image : Sectors) → KeepsElsewhere s.geometry.extent (extents_of (rows t n)) old new
    → Allows (size_of s t n) (volume_of s t old n) v → Allows (area_size s) new image → Allows (area_size s) old (with_volume s.geometry.extent (extents_of (rows t n)) v image)
unfolding with_volume
splice_left s t n old new v image keeps allowed left q below = by (place_in e es q) refl
  where
    e : ℕ
    e = s.geometry.extent

    es : List ℕ
    es = extents_of (rows t n)

    by : (o : Option ℕ) → place_in e es q ≡ o → May old q (spliced v (image q) o)
    by None is = keeps.may q (image q) (place_none e es q is) (left q below)
    by (Some p) is = let w = place_some e es q p is in subst (λ x. May old x (v p)) w.1 (area_may e es old p (v p) w.0 (allowed p w.0))
