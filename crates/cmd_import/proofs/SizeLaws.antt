-- So many sectors as whole blocks, where a table has an entry for each.
use Rattle.std.proofs.Common.{◌≡◌, ℕ, ◌*◌, ◌/◌, ◌<◌, ◌≤◌, sym, ap, subst, arith}
use Rattle.std.proofs.Math.Nat.{mul-div_cancel, mul-le-mul}
use Rattle.sm_base.proofs.NumberLemmas.{div_up-pos}
use Rattle.sm_base.specs.Numbers.{div_up}
use Rattle.sm_base.specs.declared.sizes.Geometry.{Geometry}
use Rattle.vhd_image.specs.Made.{IsDiskSize}
use Rattle.cmd_import.specs.Importing.{whole_blocks}

module _ (g : Geometry) (sectors : ℕ) (some : 0 < sectors) (fits : div_up sectors g.block ≤ g.entries) where
  pub blocks_are : whole_blocks g.block sectors / g.block ≡ div_up sectors g.block
  blocks_are = let least = g.in_range.block_least in mul-div_cancel (div_up sectors g.block) {n = g.block} (omega (arith, least))

  -- they are a disk's size
  pub whole_proper : IsDiskSize g (whole_blocks g.block sectors)
  whole_proper =
      let least = g.in_range.block_least in
      record {
        whole = ap (λ k. k * g.block) (sym blocks_are);
        least = subst (λ k. 1 ≤ k) (sym blocks_are) (div_up-pos sectors g.block (omega (arith, least)) some);
        most = subst (λ k. k ≤ g.entries) (sym blocks_are) fits;
      }

  pub whole_few : whole_blocks g.block sectors ≤ 1044480 * 4096
  whole_few = omega (arith, mul-le-mul fits g.in_range.block_most, mul-le-mul g.in_range.entries_most g.in_range.block_most)
