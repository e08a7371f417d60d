-- The worked image that grows over a base: all that its law asks for.
use Rattle.std.proofs.Common.{◌≡◌, ◌≢◌, inl, inr, ℕ, zero, suc, ◌+◌, ◌*◌, ◌≤◌, true, false, List, [], ◌∷◌, Option, Some, None, refl, sym, ap, ◌∙◌, subst, arith, lit≤, lit<}
use Rattle.std.proofs.lemmas.Option.{same_Some}
use Rattle.sm_base.specs.declared.names.Name.{Name}
use Rattle.sm_base.specs.declared.names.Name.TheVariants.{Mgt, Vhd}
use Rattle.sm_disk.specs.Sectors.{zeros}
use Rattle.common_laws.specs.Lists.{In}
use Rattle.vg_meta.specs.Tables.{Row, row_of, name_eq}
use Rattle.vg_meta.proofs.NameLaws.{name_eq-false}
use Rattle.vhd_fields.specs.declared.footers.Footer.{Footer}
use Rattle.vhd_layout.specs.Contents.{content_at, own}
use Rattle.examples_vhd.specs.SmallImages.{empty}
use Rattle.vhd_layout.specs.Images.{IsImage, IsValid}
use Rattle.vhd_layout.specs.Layouts.{Sectors, layout_of}
use Rattle.examples_vhd.proofs.SmallImageLaws.{the_footer, the_header, without_parent}
use Rattle.sm_standing.specs.Changes.{IsRaised}
use Rattle.sm_standing.specs.Contents.{Content, row}
use Rattle.sm_standing.specs.Images.{Image, image_of, image_reads}
use Rattle.sm_standing.proofs.ImageLaws.{held_reads, raised_zeros}
use Rattle.examples_moments.specs.Moments.{top, small, small_top, large}
use Rattle.examples_moments.specs.Worked.{first, base, first_record, area_of, small_base, small_child, grown_child, disk_and_base, disk_over, ungrown, grown, over_larger}
use Rattle.examples_moments.specs.WorkedImages.{child_footer, small_top_footer, small_child_footer, grown_child_footer, child_header, between_footers, sector_of, top_image, filled_child}
use Rattle.examples_moments.proofs.BetweenFooters.{laid_between, size_between, parent_between, own_between}
use Rattle.examples_moments.proofs.ForkExample.{base_named, named}
use Rattle.sm_standing.proofs.ImageSectors.{gone}
use Rattle.examples_moments.proofs.PlacedLaws.{placed_image, area_first, area_second}
use Rattle.examples_moments.proofs.WorkedLaws.{IsRight, footer_room, one_at, top_laid, top_valid, top_size, top_first, top_rest, filled_laid, filled_valid, filled_own}

-- ---- the three images

base_right : IsRight 8 small_top_footer
base_right = record {
  right = record { data_offset = refl; size = refl; kind = refl };
  room = footer_room 3 32768 32768 (lit< tt) (lit< tt) (lit< tt);
  fits = record { kind = inl refl; size = refl; least = lit≤ tt; most = lit≤ tt };
}

small_right : IsRight 8 small_child_footer
small_right = record {
  right = record { data_offset = refl; size = refl; kind = refl };
  room = footer_room 4 32768 32768 (lit< tt) (lit< tt) (lit< tt);
  fits = record { kind = inr refl; size = refl; least = lit≤ tt; most = lit≤ tt };
}

grown_right : IsRight 16 grown_child_footer
grown_right = record {
  right = record { data_offset = refl; size = refl; kind = refl };
  room = footer_room 4 32768 65536 (lit< tt) (lit< tt) (lit< tt);
  fits = record { kind = inr refl; size = refl; least = lit≤ tt; most = lit≤ tt };
}

base_laid : IsImage (layout_of 8 64 8 160) small_base small_top_footer the_header one_at
base_laid = laid_between 8 small_top_footer the_footer (top_image 17) the_header base_right without_parent (top_laid 17)

small_laid : IsImage (layout_of 8 64 8 160) small_child small_child_footer (child_header (Vhd base)) one_at
small_laid =
    laid_between 8 small_child_footer child_footer (filled_child (Vhd base) 34) (child_header (Vhd base)) small_right refl (filled_laid (Vhd base) 34 base_named)

grown_laid : IsImage (layout_of 8 64 16 160) grown_child grown_child_footer (child_header (Vhd base)) one_at
grown_laid =
    laid_between 16 grown_child_footer child_footer (filled_child (Vhd base) 34) (child_header (Vhd base)) grown_right refl (filled_laid (Vhd base) 34 base_named)

pub base_size : small_top.size ≡ 64
base_size = size_between 8 small_top_footer (top_image 17) the_header base_laid

pub small_size : small.size ≡ 64
small_size = size_between 8 small_child_footer (filled_child (Vhd base) 34) (child_header (Vhd base)) small_laid

pub large_size : large.size ≡ 128
large_size = size_between 16 grown_child_footer (filled_child (Vhd base) 34) (child_header (Vhd base)) grown_laid

pub small_parent : small.parent ≡ Some (Vhd base)
small_parent = parent_between 8 small_child_footer (filled_child (Vhd base) 34) (child_header (Vhd base)) small_laid

large_parent : large.parent ≡ Some (Vhd base)
large_parent = parent_between 16 grown_child_footer (filled_child (Vhd base) 34) (child_header (Vhd base)) grown_laid

-- ---- what the image holds, small and large

child_own : (footer : Footer) (n s : ℕ) → n ≤ 1024 → own 8 n (between_footers footer (filled_child (Vhd base) 34)) s ≡ own 8 n (top_image 34) s
child_own footer n s few =
    ap (λ (held : ℕ → Option (List ℕ)). held s)
    (own_between footer (filled_child (Vhd base) 34) n few (filled_valid (Vhd base) 34 base_named) ∙ filled_own (Vhd base) 34 n few)

small_own : (s : ℕ) → small.own s ≡ own 8 64 (top_image 34) s
small_own s = ap (λ n. own 8 n small_child s) small_size ∙ child_own small_child_footer 64 s (lit≤ tt)

large_own : (s : ℕ) → large.own s ≡ own 8 128 (top_image 34) s
large_own s = ap (λ n. own 8 n grown_child s) large_size ∙ child_own grown_child_footer 128 s (lit≤ tt)

small_behind : (s : ℕ) → 1 ≤ s → small.own s ≡ None
small_behind s from = small_own s ∙ top_rest 34 64 s (lit≤ tt) from

large_held : large.own 0 ≡ Some (sector_of 34)
large_held = large_own 0 ∙ top_first 34 128 (lit≤ tt)

same_own : (s : ℕ) → large.own s ≡ small.own s
same_own zero = large_held ∙ sym (small_own 0 ∙ top_first 34 64 (lit≤ tt))
same_own (suc s) = large_own (suc s) ∙ top_rest 34 128 (suc s) (lit≤ tt) (omega arith) ∙ sym (small_behind (suc s) (omega arith))

-- ---- in the two contents

first_image : (below image : Sectors) → IsValid 8 64 160 image → image_of (disk_over below image) (Vhd first) ≡ Some (content_at 8 64 160 image)
unfolding row_of name_eq
first_image below image valid =
    placed_image disk_and_base (area_of below image empty (first_record ∷ [])) first false 21 (Vhd first) image refl refl
    (λ s within. area_second below image empty (first_record ∷ []) (32 * 21 + s) s refl within) valid

below_image : (below image : Sectors) → IsValid 8 64 160 below → image_of (disk_over below image) (Vhd base) ≡ Some (content_at 8 64 160 below)
unfolding row_of name_eq
below_image below image valid =
    placed_image disk_and_base (area_of below image empty (first_record ∷ [])) base true 16 (Vhd base) below refl refl
    (λ s within. area_first below image empty (first_record ∷ []) (32 * 16 + s) s refl within) valid

base_valid : IsValid 8 64 160 small_base
base_valid = (8, small_top_footer, the_header, one_at, base_laid)

small_valid : IsValid 8 64 160 small_child
small_valid = (8, small_child_footer, child_header (Vhd base), one_at, small_laid)

small_image : image_of ungrown (Vhd first) ≡ Some small
small_image = first_image small_base small_child small_valid

large_image : image_of grown (Vhd first) ≡ Some large
large_image = first_image small_base grown_child (16, grown_child_footer, child_header (Vhd base), one_at, grown_laid)

pub base_image : image_of ungrown (Vhd base) ≡ Some small_top
base_image = below_image small_base small_child base_valid

parent_fits : (p : Name) (q : Image) → small.parent ≡ Some p → image_of ungrown p ≡ Some q → q.size ≤ small.size
parent_fits p q parent there =
    let at = same_Some (Vhd base) p (sym small_parent ∙ parent) in
    let is = same_Some small_top q (sym base_image ∙ ap (image_of ungrown) at ∙ there) in
    let size = ap (λ (i : Image). i.size) is in omega (arith, size, base_size, small_size)

base_other : name_eq (Vhd base) (Vhd first) ≡ false
unfolding name_eq
base_other = refl

records_alike : image_of grown Mgt ≡ image_of ungrown Mgt
unfolding image_of
records_alike = refl

other_images : (n : Name) → n ≢ Vhd first → image_of grown n ≡ image_of ungrown n
other_images n other = by (row ungrown n) refl
  where
    at : (r : Row) → In r (disk_and_base).volumes × (n ≡ r.name) → image_of grown n ≡ image_of ungrown n
    at r (inl here, name) = subst (λ m. image_of grown m ≡ image_of ungrown m) (sym (name ∙ ap (λ (s : Row). s.name) here)) records_alike
    at r (inr (inl here), name) = absurd (other (name ∙ ap (λ (s : Row). s.name) here))
    at r (inr (inr (inl here)), name) =
        subst (λ m. image_of grown m ≡ image_of ungrown m) (sym (name ∙ ap (λ (s : Row). s.name) here)) (below_image small_base grown_child base_valid ∙ sym base_image)
    at r (inr (inr (inr none)), name) = elim none [ ]

    by : (o : Option Row) → row ungrown n ≡ o → image_of grown n ≡ image_of ungrown n
    by None none = gone ungrown grown n none none
    by (Some r) there = at r (named (disk_and_base).volumes n r there)

pub raised : IsRaised ungrown grown (Vhd first) small large
raised = record {
  before = small_image;
  after = large_image;
  larger = omega (arith, small_size, large_size);
  parent = large_parent ∙ sym small_parent;
  own = same_own;
  empty = λ s past. small_behind s (omega (arith, past, small_size));
  fits = parent_fits;
  no_loop = λ e. name_eq-false (Vhd base) (Vhd first) base_other (same_Some (Vhd base) (Vhd first) (sym small_parent ∙ e));
  others = other_images;
}

-- ---- what is read

pub kept : image_reads grown (Vhd first) 0 ≡ sector_of 34
kept = held_reads grown (Vhd first) large 0 (sector_of 34) large_image (omega (arith, large_size)) large_held

pub zeros_behind : (s : ℕ) → 64 ≤ s → image_reads grown (Vhd first) s ≡ zeros
zeros_behind s past = raised_zeros ungrown grown (Vhd first) small large raised s (omega (arith, past, small_size))

-- ---- over a larger base

pub not_over_a_larger : (b : Content) (i j : Image) → ¬ IsRaised over_larger b (Vhd first) i j
not_over_a_larger b i j h =
    let is = same_Some i small (sym h.before ∙ first_image (top_image 17) small_child small_valid) in
    let parent = ap (λ (k : Image). k.parent) is ∙ small_parent in
    let size = ap (λ (k : Image). k.size) is in
    let fits = h.fits (Vhd base) (top 17) parent (below_image (top_image 17) small_child (top_valid 17)) in
    omega (arith, fits, size, small_size, top_size 17)
