-- What an image says depends on the sectors of its own part of the volume alone; worked for 160 sectors, blocks of 8
-- and 64 entries.
use Rattle.std.proofs.Common.{◌≡◌, ◌⊎◌, inl, inr, ⊎_elim, ℕ, ◌+◌, ◌/◌, ◌%◌, ◌<◌, ◌≤◌, ◌==◌, cond, nat_lt, List, Option, Some, None, refl, sym, ap, ap₂, ◌∙◌, arith, lit≤}
use Rattle.std.proofs.Math.Path.{fun_ext}
use Rattle.std.proofs.lemmas.Bool.{cond-true, le-ltb, cases_lt}
use lib.Count.{ones}
use Rattle.common_laws.proofs.Options.{option_cases}
use Rattle.sm_base.specs.Numbers.{IsGeometry}
use Rattle.vhd_map.specs.Bitmaps.{is_set}
use Rattle.vhd_map.specs.Places.{word, blank}
use Rattle.vhd_layout.specs.Contents.{content_at, own, value}
use Rattle.vhd_layout.specs.Images.{IsValid}
use Rattle.vhd_layout.specs.Layouts.{Sectors, layout_of, entry, code}
use Rattle.vhd_layout.specs.Readings.{is_valid, image_at}
use Rattle.examples_vhd.proofs.SmallImageLaws.{sector_in, code-slot, slots-160}
use Rattle.vhd_layout.proofs.ReadingLaws.{valid-decided}
use Rattle.sm_standing.proofs.ImageSectors.{image_same}

geometry : IsGeometry 32 8 64
unfolding ones
geometry = record { extent_power = refl; extent_least = lit≤ tt; extent_most = lit≤ tt; block_power = refl; block_least = lit≤ tt; block_most = lit≤ tt; within = lit≤ tt; entries_least = lit≤ tt; entries_most = lit≤ tt }

-- two volumes that begin with the same 160 sectors
abbrev pub SameSectors : Sectors → Sectors → Type 0
SameSectors v w = (s : ℕ) → s < 160 → v s ≡ w s

-- a valid image is read
pub valid_image : (v : Sectors) → IsValid 8 64 160 v → image_at 8 64 160 v ≡ Some (content_at 8 64 160 v)
valid_image v h = cond-true (is_valid 8 64 160 v) (Some (content_at 8 64 160 v)) None ((valid-decided 32 8 64 160 v geometry).1 h)

-- two volumes that are the same behind the header and in front of the footer
abbrev pub SameInside : Sectors → Sectors → Type 0
SameInside v w = (s : ℕ) → 2 ≤ s → s < 159 → v s ≡ w s

inside_entry : (v w : Sectors) → SameInside v w → (b : ℕ) → b < 128 → entry v b ≡ entry w b
inside_entry v w same b near = ap (λ s. word s (b % 128)) (same (3 + b / 128) (omega arith) (omega arith))

-- an entry is blank, or its slot lies there
entry_fits : (w : Sectors) → IsValid 8 64 160 w → (b : ℕ) → b < 128 → (entry w b ≡ blank) ⊎ ((4 ≤ entry w b) × (entry w b + 9 ≤ 159))
entry_fits w h b near = ⊎_elim
    (λ none. inl (at ∙ ap (code (layout_of 8 64 h.0 160)) none))
    (λ some.
    let fits = (h.4.slots.fits b some.0 some.1).1 in
    let e = at ∙ (ap (code (layout_of 8 64 h.0 160)) some.1 ∙ code-slot h.0 some.0) in
    inr (omega (arith, e), omega (arith, fits, e, slots-160 h.0)))
    (option_cases (h.3 b))
  where
    at : entry w b ≡ code (layout_of 8 64 h.0 160) (h.3 b)
    at = h.4.table b (sector_in h.0 b near)

-- what a block's entry says of a sector
by_entry : Sectors → ℕ → ℕ → Option (List ℕ)
by_entry v i e = cond (e == blank) None (cond (is_set (v e) i) (Some (v (e + (1 + i)))) None)

value-by_entry : (v : Sectors) (b i : ℕ) → value v b i ≡ by_entry v i (entry v b)
unfolding value by_entry
value-by_entry v b i = refl

by_entry_same : (v w : Sectors) → SameInside v w → (i e : ℕ) → i < 8 → (e ≡ blank) ⊎ ((4 ≤ e) × (e + 9 ≤ 159)) → by_entry v i e ≡ by_entry w i e
unfolding by_entry
by_entry_same v w same i e low (inl none) = ap (λ k. cond (k == blank) None (cond (is_set (v k) i) (Some (v (k + (1 + i)))) None)) none ∙ sym (ap (λ k. cond (k == blank) None (cond (is_set (w k) i) (Some (w (k + (1 + i)))) None)) none)
by_entry_same v w same i e low (inr fits) =
    ap₂ (λ bits bytes. cond (e == blank) None (cond (is_set bits i) (Some bytes) None)) (same e (omega (arith, fits.0)) (omega (arith, fits.1))) (same (e + (1 + i)) (omega (arith, fits.0)) (omega (arith, fits.1)))

value_same : (v w : Sectors) → SameInside v w → IsValid 8 64 160 w → (b i : ℕ) → b < 128 → i < 8 → value v b i ≡ value w b i
value_same v w same h b i near low =
    value-by_entry v b i
    ∙ ap (by_entry v i) (inside_entry v w same b near)
    ∙ by_entry_same v w same i (entry w b) low (entry_fits w h b near)
    ∙ sym (value-by_entry w b i)

own-step : (v w : Sectors) (n s : ℕ) → n ≤ 1024 → SameInside v w → IsValid 8 64 160 w → (s < n) ⊎ (n ≤ s) → own 8 n v s ≡ own 8 n w s
unfolding own
own-step v w n s few same h (inl below) = ap (λ x. cond (nat_lt s n) x None) (value_same v w same h (s / 8) (s % 8) (omega arith) (omega arith))
own-step v w n s few same h (inr past) =
    ap (λ b. cond b (value v (s / 8) (s % 8)) None) (le-ltb s n past) ∙ sym (ap (λ b. cond b (value w (s / 8) (s % 8)) None) (le-ltb s n past))

pub inside_own : (v w : Sectors) (n : ℕ) → n ≤ 1024 → SameInside v w → IsValid 8 64 160 w → own 8 n v ≡ own 8 n w
inside_own v w n few same h = fun_ext (λ s. own-step v w n s few same h (cases_lt s n))

-- where two volumes begin with the same 160 sectors and the one holds a valid image, the other holds the same
pub same_image_at : (v w : Sectors) → SameSectors v w → IsValid 8 64 160 w → image_at 8 64 160 v ≡ Some (content_at 8 64 160 w)
same_image_at v w same h = image_same 32 8 64 160 v w geometry same ∙ valid_image w h
