-- A parent that gets extents for all blocks of its child, which is no smaller, has them for the blocks that it or the child has.
use Rattle.std.proofs.Common.{◌≡◌, ⊎_elim, ℕ, ◌+◌, ◌*◌, ◌/◌, ◌<◌, ◌≤◌, max, List, Option, sym, ap, ◌∙◌, subst, arith}
use Rattle.std.proofs.lemmas.Bool.{cases_lt}
use Rattle.std.proofs.lemmas.Nat.{le-div, mul-le}
use Rattle.std.proofs.Math.Nat.{div-mul-le_self, mul-div_cancel}
use Rattle.sm_base.specs.Numbers.{div_up, first, thick, thin}
use Rattle.sm_base.specs.declared.sizes.Geometry.{Geometry}
use Rattle.sm_base.proofs.NumberLemmas.{div_up-le, le-div_up}
use Rattle.vhd_map.specs.Slots.{top_of}
use Rattle.vhd_volumes.specs.declared.heads.Head.{Head}
use Rattle.vhd_volumes.specs.Truth.{IsStanding, disk_blocks, disk_sectors}
use Rattle.sm_machine.specs.Collector.{count_either}
use Rattle.sm_machine.specs.Shapes.{top}
use Rattle.sm_ready.proofs.MapLaws.{top_alike}
use Rattle.sm_ready.proofs.RoomyLaws.{either_few, more_thin}

-- both images stand, the parent in so many extents, of which it gets more
pub roomy_wide : (g : Geometry) (extents n to : ℕ) (h i : Head) (p v : List (Option ℕ)) → IsStanding g (extents * g.extent) h p → IsStanding g n i v → disk_sectors h.footer ≤ disk_sectors i.footer → extents ≤ to
    → thick g.extent g.block g.entries (disk_sectors i.footer) ≤ to → thin g.extent g.block g.entries (max (top p) (count_either p v)) ≤ to
unfolding thin thick
roomy_wide g extents n to h i p v parent child smaller more all = ⊎_elim
    (λ less. subst (λ k. thin g.extent g.block g.entries k ≤ to) (omega (arith, less)) either)
    (λ no_less. subst (λ k. thin g.extent g.block g.entries k ≤ to) (omega (arith, no_less)) tops)
    (cases_lt (top p) (count_either p v))
  where
    some : 0 < g.block
    some = let least = g.in_range.block_least in omega (arith, least)

    fewer : disk_blocks g h.footer ≤ disk_blocks g i.footer
    fewer = let low = div-mul-le_self (disk_sectors h.footer) g.block in le-div (disk_blocks g h.footer) (disk_sectors i.footer) g.block some (omega (arith, low, smaller))

    size : disk_sectors i.footer ≡ disk_blocks g i.footer * g.block
    size = ap (λ k. k / 512) child.size ∙ (let e : 512 * (disk_blocks g i.footer * g.block) ≡ disk_blocks g i.footer * g.block * 512 = omega arith in ap (λ k. k / 512) e) ∙ mul-div_cancel (disk_blocks g i.footer * g.block) (omega arith)

    up : disk_blocks g i.footer ≤ div_up (disk_sectors i.footer) g.block
    up = let f = le-div_up (disk_sectors i.footer) g.block some in ⊎_elim
        (λ less. absurd (let z = mul-le (div_up (disk_sectors i.footer) g.block + 1) g.block (disk_blocks g i.footer) g.block (omega (arith, less)) (omega arith) in omega (arith, z, f, size, some)))
        (λ fine. fine) (cases_lt (div_up (disk_sectors i.footer) g.block) (disk_blocks g i.footer))

    tops : thin g.extent g.block g.entries (top p) ≤ to
    tops = let room = parent.room in let alike = top_alike p in let least = g.in_range.extent_least in
        subst (λ k. thin g.extent g.block g.entries k ≤ to) (sym alike) (let t = div_up-le (first g.entries + top_of p * (1 + g.block) + 1) g.extent extents (omega (arith, least)) room in omega (arith, t, more))

    either : thin g.extent g.block g.entries (count_either p v) ≤ to
    either =
        let few = either_few p v (disk_blocks g i.footer) (parent.entries ∙ sym child.entries) (λ b k is. let z = parent.sized b k is in omega (arith, z, fewer)) child.sized in
        let less = more_thin g (count_either p v) (div_up (disk_sectors i.footer) g.block) (omega (arith, few, up)) in omega (arith, less, all)
