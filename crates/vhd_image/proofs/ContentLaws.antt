-- What an image says of one sector, by its map.
use Rattle.std.proofs.Common.{◌≡◌, ℕ, ◌+◌, ◌-◌, ◌*◌, ◌/◌, ◌%◌, ◌<◌, if◌then◌else◌, List, Option, Some, None, sym, ap, subst, ◌∙◌, arith}
use Rattle.std.proofs.lemmas.Bool.{cond-true, lt-ltb}
use Rattle.std.proofs.lemmas.Nat.{div_below}
use Rattle.sm_base.specs.Numbers.{IsGeometry, first}
use Rattle.sm_base.specs.declared.sizes.Geometry.{Geometry}
use Rattle.vhd_fields.specs.declared.footers.Footer.{Footer}
use Rattle.vhd_fields.specs.declared.headers.Header.{Header}
use Rattle.vhd_map.specs.Bitmaps.{is_set}
use Rattle.vhd_map.specs.Places.{spot, blank}
use Rattle.vhd_map.specs.Slots.{slot_of, top_of}
use Rattle.vhd_map.proofs.SlotLemmas.{top_of-past}
use Rattle.vhd_map.proofs.Spots.{spot-within, spot-small, first-most}
use Rattle.vhd_layout.specs.Layouts.{Sectors, Layout, IsLayout, place, entries_in_sectors, Slots}
use Rattle.vhd_layout.specs.Images.{IsImage}
use Rattle.vhd_layout.specs.Contents.{own, value, size_at}
use Rattle.vhd_layout.proofs.ImageLaws.{layout-of, content-of_head, value-with_slot, value-without_slot, in_entries}
use Rattle.vhd_volumes.specs.declared.heads.Head.{Head}
use Rattle.vhd_volumes.specs.Truth.{IsStanding, disk_sectors, disk_blocks, layout_in}
use Rattle.vhd_volumes.specs.Writes.{own_in}

-- the layout of an image of a repository
pub is-layout : (g : Geometry) (f : Footer) (n : ℕ) → IsGeometry g.extent g.block g.entries → IsLayout (layout_in g f n)
is-layout g f n ok = layout-of g.extent g.block g.entries (disk_blocks g f) n ok

-- ---- numbers of an image that stands

module _ (g : Geometry) (n : ℕ) (head : Head) (m : List (Option ℕ)) (ok : IsGeometry g.extent g.block g.entries) (stands : IsStanding g n head m) where
  sectors_are : disk_sectors head.footer ≡ disk_blocks g head.footer * g.block
  sectors_are = omega (arith, stands.size)

  -- a sector of the disk is one of a block that the map has
  pub block-below : (s : ℕ) → s < disk_sectors head.footer → s / g.block < disk_blocks g head.footer
  block-below s below = div_below s g.block (disk_blocks g head.footer) (omega (arith, sectors_are, below)) (omega (arith, ok.block_least))

  -- each part of a slot stands in the volume, in front of the last sector
  pub part-in : (b k j : ℕ) → slot_of m b ≡ Some k → j < 1 + g.block → place (layout_in g head.footer n) k j < n - 1
  part-in b k j has part =
      spot-within (layout_in g head.footer n).first g.block k j (top_of m) (n - 1) (top_of-past m b k has) part (omega (arith, stands.room))

-- ---- one sector

own-inside : (l : Layout) (v : Sectors) (f : Footer) (h : Header) (m : Slots) (s : ℕ) → IsImage l v f h m → s < disk_sectors f → own_in l v s ≡ value v (s / l.block) (s % l.block)
unfolding own
own-inside l v f h m s image below =
    let size : size_at l.sectors v ≡ l.blocks * l.block = (content-of_head l v f h image.head).0 in
    let inside : s < size_at l.sectors v = omega (arith, size, image.head.footer_fits.size, below) in
    let t = lt-ltb s (size_at l.sectors v) inside in
    cond-true _ (value v (s / l.block) (s % l.block)) None t

block-in_table : (l : Layout) (v : Sectors) (f : Footer) (h : Header) (m : Slots) (s : ℕ) → IsLayout l → IsImage l v f h m → s < disk_sectors f → s / l.block < entries_in_sectors l
block-in_table l v f h m s ok image below =
    let size : s < l.blocks * l.block = omega (arith, image.head.footer_fits.size, below) in
    let block : s / l.block < l.blocks = div_below s l.block l.blocks (omega (arith, ok.block_least)) size in
    in_entries l (s / l.block) (omega (arith, block, image.head.footer_fits.most))

-- where the block has a slot
pub own-slot : (l : Layout) (v : Sectors) (f : Footer) (h : Header) (m : Slots) (s k : ℕ) → IsLayout l → IsImage l v f h m → s < disk_sectors f → m (s / l.block) ≡ Some k
    → own_in l v s ≡ (if is_set (v (place l k 0)) (s % l.block) then Some (v (place l k (1 + s % l.block))) else None)
own-slot l v f h m s k ok image below has =
    own-inside l v f h m s image below ∙ value-with_slot l v m (s / l.block) k (s % l.block) ok (image.table (s / l.block) (block-in_table l v f h m s ok image below)) has (image.slots.fits (s / l.block) k has).0

-- where it has none
pub own-no_slot : (l : Layout) (v : Sectors) (f : Footer) (h : Header) (m : Slots) (s : ℕ) → IsLayout l → IsImage l v f h m → s < disk_sectors f → m (s / l.block) ≡ None → own_in l v s ≡ None
own-no_slot l v f h m s ok image below none =
    own-inside l v f h m s image below ∙ value-without_slot l v m (s / l.block) (s % l.block) (image.table (s / l.block) (block-in_table l v f h m s ok image below)) none

-- ---- a geometry that was read off a store

pub geometry-ok : {r g : Geometry} → r ≡ g → IsGeometry r.extent r.block r.entries → IsGeometry g.extent g.block g.entries
geometry-ok e ok = subst (λ (x : Geometry). IsGeometry x.extent x.block x.entries) e ok

pub place-read : {r g : Geometry} (k : ℕ) → r ≡ g → spot (first r.entries) r.block k 0 ≡ spot (first g.entries) g.block k 0
place-read k e = ap (λ (x : Geometry). spot (first x.entries) x.block k 0) e

pub block-read : {r g : Geometry} (m : List (Option ℕ)) (s : ℕ) (o : Option ℕ) → r ≡ g → o ≡ slot_of m (s / r.block) → slot_of m (s / g.block) ≡ o
block-read m s o e is = ap (λ (x : Geometry). slot_of m (s / x.block)) (sym e) ∙ sym is

pub part-small : (g : Geometry) (k : ℕ) → IsGeometry g.extent g.block g.entries → k < g.entries → spot (first g.entries) g.block k 0 < blank
part-small g k ok below = spot-small (first g.entries) g.block k (first-most g.entries ok.entries_most) ok.block_most (omega (arith, ok.entries_most))
