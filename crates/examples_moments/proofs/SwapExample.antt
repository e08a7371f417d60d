-- The worked swap meets the hypotheses of its law, commit by commit.
use Rattle.std.proofs.Common.{◌≡◌, ◌≢◌, ◌⊎◌, inl, inr, ℕ, ◌+◌, ◌*◌, Bool, true, false, List, [], ◌∷◌, Option, Some, None, refl, sym, ap, ◌∙◌, subst, arith, lit≤}
use Rattle.std.specs.List.{find}
use Rattle.sm_base.specs.declared.names.Name.{Name}
use Rattle.sm_base.specs.declared.names.Name.TheVariants.{Mgt, Vhd, Leaf}
use Rattle.common_laws.specs.Lists.{In, numbers, ◌>>=◌}
use Rattle.vg_meta.specs.Tables.{Row, VolumeTable, rows, row_of, name_eq}
use Rattle.vhd_layout.specs.Contents.{size_at, parent_at, own}
use Rattle.sm_standing.specs.Changes.{parent_of}
use Rattle.sm_standing.specs.Contents.{Content, record_of, is_record_of}
use Rattle.sm_standing.specs.Entries.{making}
use Rattle.examples_standing.specs.SmallContents.{record_row}
use Rattle.sm_standing.specs.Outlines.{link_of, outline}
use Rattle.sm_standing.specs.Images.{Image, image_of, image_extents}
use Rattle.sm_standing.specs.Standing.{standing_volume, stands_plainly}
use Rattle.sm_standing.proofs.ImageLaws.{image_there, parent-is}
use Rattle.sm_standing.proofs.WalkLaws.{depth_top, depth_up}
use Rattle.sm_standing.specs.Swaps.{swapped, IsSwappable, IsSwapping, IsLeafAway, IsParentNamed, IsLeafGone}
use Rattle.examples_moments.specs.Moments.{top, filled}
use Rattle.examples_moments.specs.Worked.{first, base, first_record, content_with, image_row, leaf_copied, swap_area, swapping_at}
use Rattle.examples_moments.specs.WorkedImages.{top_image, filled_child, empty_child, one_entry, one_slot}
use Rattle.examples_moments.proofs.ForkExample.{base_named, first_right, named}
use Rattle.examples_moments.proofs.ForkMoments.{swap_1, swap_2, swap_3, swap_4, swap_5, is_swap_1, is_swap_2, is_swap_3, is_swap_4, is_swap_5}
use Rattle.examples_moments.proofs.PlacedLaws.{placed_image, area_first, area_second, one_record}
use Rattle.examples_moments.proofs.TableLaws.{apart_rows, same_apart}
use Rattle.examples_moments.proofs.WorkedLaws.{top_valid, top_size, top_parent, filled_valid, filled_own, child_size, child_parent}

pub filled_size : (byte : ℕ) → size_at 160 (filled_child (Vhd base) byte) ≡ 128
filled_size byte = child_size (Vhd base) one_entry (one_slot byte) base_named refl

pub filled_parent : (byte : ℕ) → parent_at (filled_child (Vhd base) byte) ≡ Some (Vhd base)
filled_parent byte = child_parent (Vhd base) one_entry (one_slot byte) base_named refl

-- leaf and parent hold alike
pub held_alike : (byte : ℕ) → (top byte).own ≡ (filled byte).own
held_alike byte =
    ap (λ n. own 8 n (top_image byte)) (top_size byte)
    ∙ sym (filled_own (Vhd base) byte 128 (lit≤ tt))
    ∙ ap (λ n. own 8 n (filled_child (Vhd base) byte)) (sym (filled_size byte))

pub parent_image : (t : VolumeTable) (u : List ℕ) (hidden : Bool) (name : Name) → rows t (Vhd u) ≡ Some (image_row hidden name 16)
    → image_extents (making t) (Vhd u) 5 ≡ 5 → image_of (content_with t swap_area) (Vhd u) ≡ Some (top 34)
parent_image t u hidden name there whole =
    placed_image t swap_area u hidden 16 name (top_image 34) there whole
    (λ s below. area_first (top_image 34) (filled_child (Vhd base) 34) (empty_child (Vhd base)) (first_record ∷ []) (32 * 16 + s) s refl below) (top_valid 34)

-- ---- before the swap

abbrev copied : Content
copied = content_with leaf_copied swap_area

pub leaf_image : image_of copied (Vhd first) ≡ Some (filled 34)
unfolding row_of name_eq
leaf_image =
    placed_image leaf_copied swap_area first false 21 (Vhd first) (filled_child (Vhd base) 34) refl refl
    (λ s below. area_second (top_image 34) (filled_child (Vhd base) 34) (empty_child (Vhd base)) (first_record ∷ []) (32 * 21 + s) s refl below)
    (filled_valid (Vhd base) 34 base_named)

pub below_image : image_of copied (Vhd base) ≡ Some (top 34)
unfolding row_of name_eq
below_image = parent_image leaf_copied base true (Vhd base) refl refl

base_parent : parent_of copied (Vhd base) ≡ None
base_parent = ap (λ o. link_of o >>= (λ i. i.parent)) below_image ∙ top_parent 34

no_image : (c : Content) → parent_of c Mgt ≡ None
unfolding image_of
no_image c = refl

entry_none : (c : Content) → parent_of c (Leaf first base) ≡ None
unfolding image_of
entry_none c = refl

only_leaf : (m p : Name) → m ≢ Vhd first → parent_of copied m ≡ Some p → ⊥
only_leaf m p other is = by (image_of copied m) refl
  where
    fails : (n : Name) → m ≡ n → parent_of copied n ≡ None → ⊥
    fails n at none = let e = sym is ∙ ap (parent_of copied) at ∙ none in (let x = e in cc)

    at : (r : Row) → In r (leaf_copied).volumes × (m ≡ r.name) → ⊥
    at r (inl here, name) = fails Mgt (name ∙ ap (λ (s : Row). s.name) here) (no_image copied)
    at r (inr (inl here), name) = other (name ∙ ap (λ (s : Row). s.name) here)
    at r (inr (inr (inl here)), name) = fails (Vhd base) (name ∙ ap (λ (s : Row). s.name) here) base_parent
    at r (inr (inr (inr (inl here))), name) = fails (Leaf first base) (name ∙ ap (λ (s : Row). s.name) here) (entry_none copied)
    at r (inr (inr (inr (inr none))), name) = elim none [ ]

    by : (o : Option Image) → image_of copied m ≡ o → ⊥
    by None none = let e = sym is ∙ ap (λ o. link_of o >>= (λ i. i.parent)) none in (let x = e in cc)
    by (Some i) some = let w = image_there copied m i some in at w.0 (named (leaf_copied).volumes m w.0 w.1)

leaf_parent : parent_of copied (Vhd first) ≡ Some (Vhd base)
leaf_parent = parent-is copied (Vhd first) (Vhd base) (filled 34) leaf_image (filled_parent 34)

pub swappable : IsSwappable (swapping_at 0) first base (filled 34) (top 34)
unfolding standing_volume row_of name_eq
swappable = record {
  entry = refl;
  stood = refl;
  no_parent = refl;
  none_making = refl;
  copied = record {
    image = leaf_image;
    parent = filled_parent 34;
    below = below_image;
    size = top_size 34 ∙ sym (filled_size 34);
    held = λ s bytes is. ap (λ (held : ℕ → Option (List ℕ)). held s) (held_alike 34) ∙ is;
  };
  short = let e = depth_up (outline copied) 30 (Vhd first) (Vhd base) leaf_parent in let f = depth_top (outline copied) 29 (Vhd base) base_parent in omega (arith, e, f);
  childless = λ m p other is. absurd (only_leaf m p other is);
}

-- ---- its moments

recorded_alike : (t : VolumeTable) → rows t Mgt ≡ Some (record_row (numbers 0 16)) → (u : List ℕ) → record_of (content_with t swap_area) u ≡ record_of copied u
unfolding row_of name_eq
recorded_alike t there u =
    ap (find (is_record_of u))
    (one_record t (top_image 34) (filled_child (Vhd base) 34) (empty_child (Vhd base)) first_record there first_right
    ∙ sym (one_record leaf_copied (top_image 34) (filled_child (Vhd base) 34) (empty_child (Vhd base)) first_record refl first_right))

abbrev Stage : VolumeTable → Name → Type 0
Stage t m = IsLeafAway t first base m ⊎ (IsParentNamed t first base m ⊎ IsLeafGone t first base m)

moment : (t : VolumeTable) (u : List ℕ) → Stage t (Vhd u) → making t ≡ [] → apart_rows (swapped first base) t.volumes ≡ record_row (numbers 0 16) ∷ []
    → stands_plainly t base ≡ None → image_of (content_with t swap_area) (Vhd u) ≡ Some (top 34) → rows t Mgt ≡ Some (record_row (numbers 0 16))
    → IsSwapping copied (content_with t swap_area) first base (Vhd u)
moment t u stage none lone away image there = record {
  stage = stage;
  none_making = none;
  apart = same_apart copied (content_with t swap_area) (swapped first base) (numbers 0 16) refl lone;
  no_parent = away;
  image = image ∙ sym below_image;
  recorded = recorded_alike t there;
}

pub moment_1 : IsSwapping (swapping_at 0) (swapping_at 1) first base (Vhd base)
unfolding row_of name_eq
moment_1 = subst (λ t. IsSwapping copied (content_with t swap_area) first base (Vhd base)) (sym is_swap_1)
    (moment swap_1 base (inl (refl, refl, refl)) refl refl refl (parent_image swap_1 base true (Vhd base) refl refl) refl)

pub moment_2 : IsSwapping (swapping_at 0) (swapping_at 2) first base (Vhd first)
unfolding row_of name_eq
moment_2 = subst (λ t. IsSwapping copied (content_with t swap_area) first base (Vhd first)) (sym is_swap_2)
    (moment swap_2 first (inr (inl (refl, refl, refl))) refl refl refl (parent_image swap_2 first true (Vhd first) refl refl) refl)

pub moment_3 : IsSwapping (swapping_at 0) (swapping_at 3) first base (Vhd first)
unfolding row_of name_eq
moment_3 = subst (λ t. IsSwapping copied (content_with t swap_area) first base (Vhd first)) (sym is_swap_3)
    (moment swap_3 first (inr (inl (refl, refl, refl))) refl refl refl (parent_image swap_3 first false (Vhd first) refl refl) refl)

pub moment_4 : IsSwapping (swapping_at 0) (swapping_at 4) first base (Vhd first)
unfolding row_of name_eq
moment_4 = subst (λ t. IsSwapping copied (content_with t swap_area) first base (Vhd first)) (sym is_swap_4)
    (moment swap_4 first (inr (inr (inl refl, refl, refl))) refl refl refl (parent_image swap_4 first false (Vhd first) refl refl) refl)

pub moment_5 : IsSwapping (swapping_at 0) (swapping_at 5) first base (Vhd first)
unfolding row_of name_eq
moment_5 = subst (λ t. IsSwapping copied (content_with t swap_area) first base (Vhd first)) (sym is_swap_5)
    (moment swap_5 first (inr (inr (inr refl, refl, refl))) refl refl refl (parent_image swap_5 first false (Vhd first) refl refl) refl)
