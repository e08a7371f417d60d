-- The worked images are steady in their volumes: nothing is pending but in sector 5, which is the first of slot 0.
use Rattle.std.proofs.Common.{◌≡◌, ◌≢◌, ◌⊎◌, ⊎_elim, inl, inr, ℕ, zero, suc, ◌+◌, ◌*◌, ◌/◌, ◌%◌, ◌<◌, ◌≤◌, Bool, true, false, cond, nat_lt, List, [], ◌∷◌, take, replicate, Option, Some, None, refl, sym, ap, ◌∙◌, subst, arith, lit<}
use Rattle.std.proofs.Math.Path.{fun_ext}
use Rattle.std.proofs.lemmas.Bool.{ltb-true, ltb-false}
use Rattle.std.proofs.lemmas.Option.{none-some, same_Some}
use Rattle.std.specs.List.{slice_index_or}
use lib.Count.{ones}
use Rattle.vhd_fields.specs.Checksums.{checksum}
use Rattle.common_laws.proofs.Options.{option_cases}
use Rattle.common_laws.specs.Lists.{numbers}
use Rattle.sm_base.specs.declared.names.Name.{Name}
use Rattle.sm_disk.specs.Held.{Held, Allows, IsSettled, reads}
use Rattle.sm_disk.proofs.HeldLaws.{may_settled, reads-settled}
use Rattle.vg_meta.specs.Tables.{VolumeTable, rows, extents_of}
use Rattle.vg_volumes.specs.Sites.{volume_of}
use Rattle.vg_volumes.specs.Volumes.{span, spot, volume}
use Rattle.vg_volumes.proofs.VolumeLaws.{past_pending, volume_floor, volume_pending}
use Rattle.vhd_fields.specs.Footers.{footer_bytes, footer_fields, footer_tests}
use Rattle.vhd_fields.specs.Headers.{header_bytes, header_fields, header_tests}
use Rattle.vhd_fields.specs.ParentNames.{IsParent, parent_bytes, parent_read}
use Rattle.vhd_layout.specs.Images.{IsImage, EachSlotHolds, footer_at, header_at}
use Rattle.vhd_layout.specs.Layouts.{Sectors, Layout, layout_of, entry, code, entries_in_sectors}
use Rattle.vhd_layout.proofs.ImageLaws.{head-kept}
use Rattle.vhd_map.specs.Bitmaps.{is_set}
use Rattle.vhd_map.specs.Places.{blank, word}
use Rattle.vhd_map.specs.Slots.{slot_of}
use Rattle.vhd_volumes.specs.declared.heads.Head.{Head}
use Rattle.vhd_volumes.specs.Steady.{IsHeadSector, IsSteadyIn}
use Rattle.vhd_volumes.specs.Truth.{disk_blocks, layout_in}
use Rattle.sm_ready.specs.Done.{at_rest}
use Rattle.examples_vhd.specs.SmallImages.{footer_sector, header_sector, table_of, empty, volume as laid_out}
use Rattle.examples_vhd.proofs.SmallImageLaws.{code-slot, entry-volume, footer_reads, header_reads, in_sector, sector_in, slots-160, the_footer, the_header, word-table_of}
use Rattle.examples_moments.specs.WorkedImages.{child_image, one_entry, one_slot, top_image, filled_child, empty_child, child_footer, child_header}
use Rattle.examples_moments.proofs.WorkedLaws.{filled_laid, one_at, only_zero, top_laid}
use Rattle.examples_ready.specs.WorkedRows.{sizes, site, top_footer, top_header, top_head, head_over, first_slot, no_slots}
use Rattle.examples_moments.proofs.PlacedLaws.{spot_numbers}

-- ---- what is held

-- a volume holds an image, and only its sector 5 may be pending
pub record HoldsImage (v : Sectors) (h : Held) : Type 0 where
  pub floor : (p : ℕ) → p < 160 → h.floor p ≡ v p
  pub settled : (p : ℕ) → p < 160 → p ≢ 5 → h.pending p ≡ []

-- alike at each other sector
abbrev pub IsAlikeBut : Sectors → Sectors → Type 0
IsAlikeBut v w = (p : ℕ) → p < 160 → p ≢ 5 → w p ≡ v p

pub held_reads : (v : Sectors) (h : Held) → HoldsImage v h → IsAlikeBut v (reads h)
held_reads v h holds p below other = reads-settled h p (holds.settled p below other) ∙ holds.floor p below

held_left : (v : Sectors) (h : Held) (w : Sectors) → HoldsImage v h → Allows 160 h w → IsAlikeBut v w
held_left v h w holds allows p below other = may_settled h p (w p) (holds.settled p below other) (allows p below) ∙ held_reads v h holds p below other

-- ---- the image

-- the table is sector 3
pub entry_alike : (v w : Sectors) → IsAlikeBut v w → (b : ℕ) → b < 128 → entry w b ≡ entry v b
entry_alike v w same b near = ap (λ s. word s (b % 128)) (same (3 + b / 128) (omega arith) (λ e. omega (arith, e, near)))

module _ (head : Head) (m : List (Option ℕ)) where
  abbrev l : Layout
  l = layout_in sizes head.footer 160

  abbrev Holds : Sectors → Type 0
  Holds v = IsImage l v head.footer head.header (slot_of m)

  image_alike : (v w : Sectors) → IsAlikeBut v w → Holds v → Holds w
  image_alike v w same is = record {
    head = head-kept l v w head.footer head.header (same 0 (lit< tt) (λ e. omega (arith, e))) (same 1 (lit< tt) (λ e. omega (arith, e))) (same 2 (lit< tt) (λ e. omega (arith, e))) (same 159 (lit< tt) (λ e. omega (arith, e))) is.head;
    table = λ b below. entry_alike v w same b (in_sector (disk_blocks sizes head.footer) b below) ∙ is.table b below;
    slots = is.slots;
  }

  -- the bitmap of a slot is no sector 5
  holds_alike : (v w : Sectors) → IsAlikeBut v w → Holds v → EachSlotHolds 8 64 v → EachSlotHolds 8 64 w
  holds_alike v w same is holds = record { holds = holding }
    where
      holding : (b : ℕ) → b < 64 → entry w b ≢ blank → (i : ℕ) × (i < 8) × (is_set (w (entry w b)) i ≡ true)
      holding b below filled = ⊎_elim
          (λ none. absurd (filled (e ∙ (is.table b inside ∙ ap (code l) none))))
          (λ some.
          let at : entry v b ≡ 4 + some.0 * 9 = is.table b inside ∙ ap (code l) some.1 ∙ code-slot (disk_blocks sizes head.footer) some.0 in
          let fits = (is.slots.fits b some.0 some.1).1 in
          let many = slots-160 (disk_blocks sizes head.footer) in
          let found = holds.holds b below (λ none. filled (e ∙ none)) in
          let bits : w (entry w b) ≡ v (entry v b) = ap w e ∙ same (entry v b) (omega (arith, at, fits, many)) (λ five. omega (arith, at, five)) in
          (found.0, found.1, ap (λ s. is_set s found.0) bits ∙ found.2))
          (option_cases (slot_of m b))
        where
          inside : b < entries_in_sectors l
          inside = sector_in (disk_blocks sizes head.footer) b (omega arith)

          e : entry w b ≡ entry v b
          e = entry_alike v w same b (omega arith)

  pub steady : (v : Sectors) (h : Held) → Holds v → EachSlotHolds 8 64 v → HoldsImage v h → IsSteadyIn sizes 160 h head m
  steady v h is holds held = record {
    is_true = record {
      now = image_alike v (reads h) (held_reads v h held) is;
      valid = λ w allows. (disk_blocks sizes head.footer, head.footer, head.header, slot_of m, image_alike v w (held_left v h w held allows) is);
      within = λ w allows b below. inr ((image_alike v w (held_left v h w held allows) is).table b below);
    };
    still = λ p x here may. may_settled h p x (held.settled p (inside p here) (λ five. not_five p here five)) may;
    holding = λ w allows. holds_alike v w (held_left v h w held allows) is holds;
  }
    where
      inside : (p : ℕ) → IsHeadSector 160 p → p < 160
      inside p (inl front) = omega (arith, front)
      inside p (inr last) = omega (arith, last)

      not_five : (p : ℕ) → IsHeadSector 160 p → p ≡ 5 → ⊥
      not_five p (inl front) five = omega (arith, front, five)
      not_five p (inr last) five = omega (arith, last, five)

-- ---- the maps

no_slot : Option ℕ
no_slot = None

past_none : (n b : ℕ) → slice_index_or (replicate n no_slot) b no_slot ≡ no_slot
past_none zero b = refl
past_none (suc n) zero = refl
past_none (suc n) (suc b) = past_none n b

first_named : one_at 0 ≡ Some 0
unfolding word
first_named = ⊎_elim
    (λ none. absurd (let e = (top_laid 0).table 0 (sector_in 16 0 (lit< tt)) ∙ ap (code (layout_of 8 64 16 160)) none in let four : 4 ≡ blank = e in omega (arith, four)))
    (λ some. some.1 ∙ ap Some (only_zero 0 some.0 some.1).1)
    (option_cases (one_at 0))

first_alone : (b : ℕ) → one_at b ≡ slot_of first_slot b
unfolding no_slot
first_alone zero = first_named
first_alone (suc b) = ⊎_elim (λ none. none) (λ some. absurd (let e = (only_zero (suc b) some.0 some.1).0 in omega (arith, e))) (option_cases (one_at (suc b))) ∙ sym (past_none 63 b)

none_at_all : (b : ℕ) → slot_of no_slots b ≡ None
unfolding no_slot
none_at_all b = past_none 64 b

-- ---- the three images

footer_is : the_footer ≡ top_footer
unfolding footer_at footer_tests footer_fields checksum footer_sector
footer_is = same_Some the_footer top_footer (sym (footer_reads header_sector one_entry (one_slot 0)) ∙ refl)

header_is : the_header ≡ top_header
unfolding header_at header_tests header_fields checksum parent_bytes parent_read header_sector ones
header_is = same_Some the_header top_header (sym (header_reads footer_sector one_entry footer_sector (one_slot 0) refl) ∙ refl)

pub top_here : (byte : ℕ) (u : List ℕ) → Holds (top_head u) first_slot (top_image byte)
top_here byte u =
    subst (λ m. IsImage (layout_of 8 64 16 160) (top_image byte) top_footer top_header m) (fun_ext first_alone)
    (subst (λ f. IsImage (layout_of 8 64 16 160) (top_image byte) f top_header one_at) footer_is
    (subst (λ h. IsImage (layout_of 8 64 16 160) (top_image byte) the_footer h one_at) header_is (top_laid byte)))

pub filled_here : (byte : ℕ) (p : Name) (u : List ℕ) → IsParent (Some p) → Holds (head_over p u) first_slot (filled_child p byte)
filled_here byte p u named = subst (λ m. IsImage (layout_of 8 64 16 160) (filled_child p byte) child_footer (child_header p) m) (fun_ext first_alone) (filled_laid p byte named)

pub empty_here : (p : Name) (u : List ℕ) → IsParent (Some p) → Holds (head_over p u) no_slots (empty_child p)
unfolding child_image
empty_here p u named = record {
  head = head-kept (layout_of 8 64 16 160) (filled_child p 0) (empty_child p) child_footer (child_header p) refl refl refl refl (filled_laid p 0 named).head;
  table = λ b below. let near = in_sector 16 b below in
      entry-volume (footer_bytes child_footer) (take 512 (header_bytes (child_header p))) (table_of []) (footer_bytes child_footer) empty b near
      ∙ word-table_of [] b (omega arith) near ∙ sym (ap (code (layout_of 8 64 16 160)) (none_at_all b));
  slots = record {
    sized = λ b k has. absurd (none-some k (sym (none_at_all b) ∙ has));
    fits = λ b k has. absurd (none-some k (sym (none_at_all b) ∙ has));
    once = λ b c k has has'. absurd (none-some k (sym (none_at_all b) ∙ has));
  };
}

-- each block with a slot holds a sector
which : (b : ℕ) → (b ≡ 0) ⊎ (1 ≤ b)
which zero = inl refl
which (suc b) = inr (omega arith)

first_bit : (copy header last : List ℕ) (byte : ℕ) → is_set (laid_out copy header one_entry (one_slot byte) last (entry (laid_out copy header one_entry (one_slot byte) last) 0)) 0 ≡ true
unfolding is_set word
first_bit copy header last byte = refl

one_holds : (copy header last : List ℕ) (byte : ℕ) → EachSlotHolds 8 64 (laid_out copy header one_entry (one_slot byte) last)
one_holds copy header last byte = record {
  holds = λ b below filled. ⊎_elim
      (λ at. (0, lit< tt, ap (λ c. is_set (laid_out copy header one_entry (one_slot byte) last (entry (laid_out copy header one_entry (one_slot byte) last) c)) 0) at ∙ first_bit copy header last byte))
      (λ far. absurd (filled (entry-volume copy header one_entry last (one_slot byte) b (omega arith) ∙ word-table_of (0 ∷ 0 ∷ 0 ∷ 4 ∷ []) b (omega (arith, far)) (omega arith)))) (which b);
}

pub top_holds : (byte : ℕ) → EachSlotHolds 8 64 (top_image byte)
top_holds byte = one_holds footer_sector header_sector footer_sector byte

pub filled_holds : (byte : ℕ) (p : Name) → EachSlotHolds 8 64 (filled_child p byte)
unfolding child_image
filled_holds byte p = one_holds (footer_bytes child_footer) (take 512 (header_bytes (child_header p))) (footer_bytes child_footer) byte

pub empty_holds : (p : Name) → EachSlotHolds 8 64 (empty_child p)
unfolding child_image
empty_holds p = record { holds = λ b below filled. absurd (filled (entry-volume (footer_bytes child_footer) (take 512 (header_bytes (child_header p))) (table_of []) (footer_bytes child_footer) empty b (omega arith) ∙ word-table_of [] b (omega arith) (omega arith))) }

-- ---- volumes

five_long : (at p : ℕ) → p < 160 → p < span 32 (numbers at 5)
unfolding numbers
five_long at p below = omega arith

-- the image of five extents from one on
pub volume_holds : (t : VolumeTable) (area : Held) (n : Name) (at : ℕ) (v : Sectors) → extents_of (rows t n) ≡ numbers at 5
    → ((s : ℕ) → s < 160 → area.floor (32 * at + s) ≡ v s) → ((s : ℕ) → s < 160 → s ≢ 5 → area.pending (32 * at + s) ≡ []) → HoldsImage v (volume_of site t area n)
volume_holds t area n at v there floor settled = subst (λ es. HoldsImage v (volume 32 es area)) (sym there) (record {
  floor = λ p below. volume_floor 32 (numbers at 5) area p (five_long at p below) ∙ ap area.floor (spot_numbers at 5 p (omega arith)) ∙ floor p below;
  settled = λ p below other. volume_pending 32 (numbers at 5) area p (five_long at p below) ∙ ap area.pending (spot_numbers at 5 p (omega arith)) ∙ settled p below other;
})

-- nothing is pending in a volume of an area at rest
none_pending : (b : Bool) → cond {A = List (List ℕ)} b [] [] ≡ []
none_pending true = refl
none_pending false = refl

pub rest_settled : (es : List ℕ) (image : ℕ → List ℕ) → IsSettled (volume 32 es (at_rest image))
unfolding volume
rest_settled es image p = none_pending (nat_lt p (span 32 es))

-- nor in one that has not the only place where something is
pub apart_settled : (area : Held) (place : ℕ) → ((p : ℕ) → p ≢ place → area.pending p ≡ []) → (es : List ℕ) → ((p : ℕ) → p < span 32 es → spot 32 es p ≢ place) → IsSettled (volume 32 es area)
apart_settled area place elsewhere es apart p = by (nat_lt p (span 32 es)) refl
  where
    by : (b : Bool) → nat_lt p (span 32 es) ≡ b → (volume 32 es area).pending p ≡ []
    by true is = volume_pending 32 es area p (ltb-true p (span 32 es) is) ∙ elsewhere (spot 32 es p) (apart p (ltb-true p (span 32 es) is))
    by false is = past_pending 32 es area p (ltb-false p (span 32 es) is)

-- nor in one without extents
pub none_settled : (area : Held) → IsSettled (volume 32 [] area)
none_settled area p = past_pending 32 [] area p (omega arith)
