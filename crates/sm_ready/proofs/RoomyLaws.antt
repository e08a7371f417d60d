-- A parent that has extents for all blocks of its size has them for the blocks that it or its child has, whatever the guest writes.
use Rattle.std.proofs.Common.{◌≡◌, ⊎_elim, ℕ, zero, suc, ◌+◌, ◌*◌, ◌/◌, ◌<◌, ◌≤◌, max, List, [], ◌∷◌, length, Option, Some, None, refl, sym, ap, ◌∙◌, subst, arith}
use Rattle.std.proofs.lemmas.Bool.{cases_lt}
use Rattle.std.proofs.lemmas.Nat.{mul-le}
use Rattle.std.proofs.Math.Nat.{mul-div_cancel}
use Rattle.sm_base.specs.Numbers.{div_up, first, thick, thin}
use Rattle.sm_base.specs.declared.sizes.Geometry.{Geometry}
use Rattle.sm_base.proofs.NumberLemmas.{div_up-le, le-div_up}
use Rattle.vhd_map.specs.Slots.{slot_of, top_of}
use Rattle.vhd_volumes.specs.declared.heads.Head.{Head}
use Rattle.vhd_volumes.specs.Truth.{IsStanding, disk_blocks, disk_sectors}
use Rattle.sm_machine.specs.Collector.{count_either}
use Rattle.sm_machine.specs.Shapes.{count_blocks, top}
use Rattle.sm_ready.proofs.MapLaws.{top_alike}

-- blocks that one of two tables has are no more than those below which both have theirs
pub either_few : (p v : List (Option ℕ)) (most : ℕ) → length p ≡ length v → ((b k : ℕ) → slot_of p b ≡ Some k → b < most) → ((b k : ℕ) → slot_of v b ≡ Some k → b < most) → count_either p v ≤ most
unfolding count_either count_blocks
either_few [] [] most same low high = omega arith
either_few [] (y ∷ v) most same low high = absurd (omega (arith, same))
either_few (x ∷ p) [] most same low high = absurd (omega (arith, same))
either_few (None ∷ p) (None ∷ v) zero same low high =
    either_few p v zero (omega (arith, same)) (λ b k is. absurd (let z = low (suc b) k is in omega (arith, z))) (λ b k is. absurd (let z = high (suc b) k is in omega (arith, z)))
either_few (None ∷ p) (None ∷ v) (suc most) same low high =
    let rest = either_few p v most (omega (arith, same)) (λ b k is. let z = low (suc b) k is in omega (arith, z)) (λ b k is. let z = high (suc b) k is in omega (arith, z)) in omega (arith, rest)
either_few (None ∷ p) (Some j ∷ v) zero same low high = absurd (let z = high 0 j refl in omega (arith, z))
either_few (None ∷ p) (Some j ∷ v) (suc most) same low high =
    let rest = either_few p v most (omega (arith, same)) (λ b k is. let z = low (suc b) k is in omega (arith, z)) (λ b k is. let z = high (suc b) k is in omega (arith, z)) in omega (arith, rest)
either_few (Some i ∷ p) (y ∷ v) zero same low high = absurd (let z = low 0 i refl in omega (arith, z))
either_few (Some i ∷ p) (y ∷ v) (suc most) same low high =
    let rest = either_few p v most (omega (arith, same)) (λ b k is. let z = low (suc b) k is in omega (arith, z)) (λ b k is. let z = high (suc b) k is in omega (arith, z)) in omega (arith, rest)

-- more blocks take no less room
pub more_thin : (g : Geometry) (few many : ℕ) → few ≤ many → thin g.extent g.block g.entries few ≤ thin g.extent g.block g.entries many
unfolding thin
more_thin g few many less =
    let some = g.in_range.extent_least in
    let one = le-div_up (first g.entries + many * (1 + g.block) + 1) g.extent (omega (arith, some)) in
    let two = mul-le few (1 + g.block) many (1 + g.block) less (omega arith) in
    div_up-le (first g.entries + few * (1 + g.block) + 1) g.extent (div_up (first g.entries + many * (1 + g.block) + 1) g.extent) (omega (arith, some)) (omega (arith, one, two))

-- both images stand, the parent in so many extents
pub roomy_thick : (g : Geometry) (extents n : ℕ) (h i : Head) (p v : List (Option ℕ)) → IsStanding g (extents * g.extent) h p → IsStanding g n i v → disk_sectors h.footer ≡ disk_sectors i.footer
    → thick g.extent g.block g.entries (disk_sectors h.footer) ≤ extents → thin g.extent g.block g.entries (max (top p) (count_either p v)) ≤ extents
unfolding thin thick
roomy_thick g extents n h i p v parent child same all = ⊎_elim
    (λ less. subst (λ k. thin g.extent g.block g.entries k ≤ extents) (omega (arith, less)) either)
    (λ no_less. subst (λ k. thin g.extent g.block g.entries k ≤ extents) (omega (arith, no_less)) tops)
    (cases_lt (top p) (count_either p v))
  where
    blocks : ℕ
    blocks = disk_blocks g h.footer

    blocks_alike : disk_blocks g i.footer ≡ disk_blocks g h.footer
    blocks_alike = ap (λ k. k / g.block) (sym same)

    some : 0 < g.block
    some = let least = g.in_range.block_least in omega (arith, least)

    size : disk_sectors h.footer ≡ disk_blocks g h.footer * g.block
    size = ap (λ k. k / 512) parent.size ∙ (let e : 512 * (disk_blocks g h.footer * g.block) ≡ disk_blocks g h.footer * g.block * 512 = omega arith in ap (λ k. k / 512) e) ∙ mul-div_cancel (disk_blocks g h.footer * g.block) (omega arith)

    up : disk_blocks g h.footer ≤ div_up (disk_sectors h.footer) g.block
    up = let f = le-div_up (disk_sectors h.footer) g.block some in ⊎_elim
        (λ less. absurd (let z = mul-le (div_up (disk_sectors h.footer) g.block + 1) g.block (disk_blocks g h.footer) g.block (omega (arith, less)) (omega arith) in omega (arith, z, f, size, some)))
        (λ fine. fine) (cases_lt (div_up (disk_sectors h.footer) g.block) (disk_blocks g h.footer))

    tops : thin g.extent g.block g.entries (top p) ≤ extents
    tops = let room = parent.room in let alike = top_alike p in let least = g.in_range.extent_least in
        subst (λ k. thin g.extent g.block g.entries k ≤ extents) (sym alike) (div_up-le (first g.entries + top_of p * (1 + g.block) + 1) g.extent extents (omega (arith, least)) room)

    either : thin g.extent g.block g.entries (count_either p v) ≤ extents
    either =
        let few = either_few p v (disk_blocks g h.footer) (parent.entries ∙ sym child.entries) parent.sized (λ b k is. let z = child.sized b k is in omega (arith, z, blocks_alike)) in
        let more = more_thin g (count_either p v) (div_up (disk_sectors h.footer) g.block) (omega (arith, few, up)) in omega (arith, more, all)
