-- A write into an image in a volume that has room for a slot of each entry.
use Rattle.std.proofs.Common.{◌≡◌, ℕ, ◌+◌, ◌-◌, ◌*◌, ◌/◌, ◌<◌, ◌≤◌, List, length, Option, Some, zero, suc, sym, ap, ◌∙◌, subst, arith}
use Rattle.std.proofs.lemmas.Option.{same_Some}
use Rattle.sm_base.specs.Numbers.{first}
use Rattle.sm_base.specs.declared.sizes.Geometry.{Geometry}
use Rattle.sm_disk.specs.Held.{IsWhole}
use Rattle.vhd_map.specs.Slots.{top_of, IsMap}
use Rattle.vhd_map.proofs.SlotLemmas.{top_of-le}
use Rattle.vhd_volumes.specs.declared.heads.Head.{Head}
use Rattle.vhd_volumes.specs.Truth.{IsStanding, HasRoomFor, disk_blocks, disk_sectors}
use Rattle.vhd_volumes.specs.Writes.{with_block, with_blocks, written_map, blocks_touched}
use Rattle.vhd_write.proofs.MapLaws.{with_block-gives, with_block-good}
use Rattle.vhd_image.specs.declared.images.Body.{Body}
use Rattle.vhd_image.specs.declared.images.Body.TheVariants.{Raw, Vhd}
use Rattle.vhd_image.specs.Bodies.{StandsIn, map_of, sector_count}
use Rattle.vhd_image.specs.Written.{HasRoomToWrite}

-- a map stays a map, and no slot passes its entries
with_blocks-few : (b n : ℕ) (m : List (Option ℕ)) → IsMap m → b + n ≤ length m → top_of (with_blocks b n m) ≤ length m
unfolding with_blocks
with_blocks-few b zero m good within = top_of-le m good
with_blocks-few b (suc n) m good within =
    let long = (with_block-gives b m).grown.long in
    let rest = with_blocks-few (suc b) n (with_block b m) (with_block-good b m good (omega arith)) (omega (arith, long)) in
    omega (arith, long, rest)

in-vhd : (g : Geometry) (sectors at len : ℕ) (head : Head) (m : List (Option ℕ)) → IsMap m → IsStanding g sectors head m → IsWhole at len (disk_sectors head.footer) → g.block ≡ 8 → first g.entries + 9 * g.entries < sectors
    → HasRoomFor g (top_of (written_map g.block at len m)) sectors
in-vhd g sectors at len head m good stands whole eight room =
    let blocks = disk_blocks g head.footer in
    let size : blocks ≡ disk_sectors head.footer / 8 = ap (λ x. disk_sectors head.footer / x) eight in
    let exact : head.footer.current ≡ 512 * (blocks * 8) = stands.size ∙ ap (λ x. 512 * (blocks * x)) eight in
    let touched : blocks_touched g.block at len ≡ (at + len / 512 - 1) / 8 - at / 8 + 1 = ap (λ x. (at + len / 512 - 1) / x - at / x + 1) eight in
    let from : at / g.block ≡ at / 8 = ap (λ x. at / x) eight in
    let few = with_blocks-few (at / g.block) (blocks_touched g.block at len) m good (omega (arith, size, exact, touched, from, whole.some, whole.whole, whole.within, stands.entries, stands.most)) in
    let top = top_of (written_map g.block at len m) in
    let slots : top * (1 + g.block) ≡ top * 9 = ap (λ x. top * (1 + x)) eight in
    omega (arith, few, stands.entries, slots, room)

pub room-to-write : (g : Geometry) (sectors at len : ℕ) (image : Body) (m : List (Option ℕ)) → map_of image ≡ Some m → IsMap m → StandsIn g sectors image → IsWhole at len (sector_count image) → g.block ≡ 8
    → first g.entries + 9 * g.entries < sectors → HasRoomToWrite g sectors at len image
room-to-write g sectors at len (Raw volume size) m is good stands whole eight room = tt
room-to-write g sectors at len (Vhd head n) m is good stands whole eight room =
    in-vhd g sectors at len head n (subst IsMap (sym (same_Some n m is)) good) stands whole eight room
