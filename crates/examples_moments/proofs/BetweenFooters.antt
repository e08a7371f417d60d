-- The worked images that hold sector 0, between other footers: disks of another size that hold the same.
use Rattle.std.proofs.Common.{◌≡◌, ℕ, ◌+◌, ◌*◌, ◌/◌, ◌%◌, ◌<◌, ◌≤◌, ◌==◌, cond, is_some, refl, ap, ◌∙◌, arith}
use Rattle.std.proofs.lemmas.Bool.{ne_eqb}
use Rattle.vhd_fields.specs.declared.footers.Footer.{Footer}
use Rattle.vhd_fields.specs.declared.headers.Header.{Header}
use Rattle.vhd_fields.specs.Footers.{footer_bytes}
use Rattle.vhd_layout.specs.Contents.{size_at, parent_at, own}
use Rattle.vhd_layout.specs.Images.{IsHead, IsImage, IsValid, header_at}
use Rattle.vhd_layout.specs.Layouts.{Sectors, IsSlots, layout_of, entry, slot_count}
use Rattle.examples_vhd.proofs.SmallImageLaws.{in_sector, sector_in}
use Rattle.vhd_layout.proofs.ImageLaws.{content-of_head}
use Rattle.vhd_map.specs.Places.{word}
use Rattle.examples_moments.specs.WorkedImages.{between_footers}
use Rattle.examples_moments.proofs.PieceLaws.{inside_own}
use Rattle.examples_moments.proofs.WorkedLaws.{IsRight, last_footer, one_at, only_zero}

-- between its footers the image is as it was
between : (footer : Footer) (v : Sectors) (s : ℕ) → 1 ≤ s → s < 159 → between_footers footer v s ≡ v s
unfolding between_footers
between footer v s from below =
    ap (λ b. cond b (footer_bytes footer) (cond (s == 159) (footer_bytes footer) (v s))) (ne_eqb s 0 (λ e. omega (arith, e)))
    ∙ ap (λ b. cond b (footer_bytes footer) (v s)) (ne_eqb s 159 (λ e. omega (arith, e)))

between_entry : (footer : Footer) (v : Sectors) (b : ℕ) → b < 128 → entry (between_footers footer v) b ≡ entry v b
between_entry footer v b near = ap (λ s. word s (b % 128)) (between footer v (3 + b / 128) (omega arith) (omega arith))

head_between : (blocks : ℕ) (new old : Footer) (v : Sectors) (header : Header) → IsRight blocks new → is_some header.parent ≡ (new.kind == 4)
    → IsHead (layout_of 8 64 16 160) v old header → IsHead (layout_of 8 64 blocks 160) (between_footers new v) new header
unfolding between_footers header_at
head_between blocks new old v header right parent head = record {
  footer_reads = last_footer blocks new (between_footers new v) right refl;
  footer_fits = right.fits;
  header_reads = head.header_reads;
  header_fits = record { table_offset = head.header_fits.table_offset; entries = head.header_fits.entries; block = head.header_fits.block; parent = parent };
  room = head.room;
}

-- slot 0 lies in a disk of any size
one_lies_in : (blocks : ℕ) → 1 ≤ blocks → IsSlots (layout_of 8 64 16 160) one_at → IsSlots (layout_of 8 64 blocks 160) one_at
unfolding slot_count
one_lies_in blocks some lies = record {
  sized = λ b k has. let h = only_zero b k has in omega (arith, h.0);
  fits = lies.fits;
  once = lies.once;
}

pub laid_between : (blocks : ℕ) (new old : Footer) (v : Sectors) (header : Header) → IsRight blocks new → is_some header.parent ≡ (new.kind == 4)
    → IsImage (layout_of 8 64 16 160) v old header one_at → IsImage (layout_of 8 64 blocks 160) (between_footers new v) new header one_at
laid_between blocks new old v header right parent image = record {
  head = head_between blocks new old v header right parent image.head;
  table = λ b below. let near = in_sector blocks b below in between_entry new v b near ∙ image.table b (sector_in 16 b near);
  slots = one_lies_in blocks right.fits.least image.slots;
}

-- its size, its parent, and what it holds
pub size_between : (blocks : ℕ) (new : Footer) (v : Sectors) (header : Header) → IsImage (layout_of 8 64 blocks 160) (between_footers new v) new header one_at
    → size_at 160 (between_footers new v) ≡ blocks * 8
size_between blocks new v header image = (content-of_head (layout_of 8 64 blocks 160) (between_footers new v) new header image.head).0

pub parent_between : (blocks : ℕ) (new : Footer) (v : Sectors) (header : Header) → IsImage (layout_of 8 64 blocks 160) (between_footers new v) new header one_at
    → parent_at (between_footers new v) ≡ header.parent
parent_between blocks new v header image = (content-of_head (layout_of 8 64 blocks 160) (between_footers new v) new header image.head).1

pub own_between : (new : Footer) (v : Sectors) (n : ℕ) → n ≤ 1024 → IsValid 8 64 160 v → own 8 n (between_footers new v) ≡ own 8 n v
own_between new v n few valid = inside_own (between_footers new v) v n few (λ s from below. between new v s (omega arith) below) valid
