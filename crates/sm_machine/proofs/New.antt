-- The shape of a new repository is well-formed.
use Rattle.std.proofs.Common.{[], refl, ◌≡◌, ℕ, ◌*◌, ◌≤◌, arith}
use Rattle.sm_base.specs.Numbers.{IsGeometry}
use Rattle.sm_machine.specs.Shapes.{new_shape, image_extents}
use Rattle.sm_machine.specs.WellFormed.{AreDisksOf, IsWellFormed}

pub new_well_formed : (extent block entries extents others m : ℕ) → IsGeometry extent block entries → extent ≡ m * block → others ≤ extents → IsWellFormed (new_shape extent block entries extents others)
unfolding image_extents
new_well_formed extent block entries extents others m g e h = record {
  geometry = g;
  blocks = (m, e);
  sequence = omega arith;
  room = omega arith;
  few = omega arith;
  images_in_order = tt;
  one_image = tt;
  images = λ i k. absurd k;
  parents = λ i p k q. absurd k;
  chains = λ i k. absurd k;
  bases = λ i n k l q. absurd k;
  records_in_order = tt;
  one_record = tt;
  disks = λ r k. absurd k;
  visible = λ i k q. absurd k;
  attachments = record { once = tt; disks = λ a k. absurd k; writable = λ a r k q l f. absurd k; thick = λ a i k q l f j v. absurd k };
  operation = tt;
}

pub new_disks : (extent block entries extents others : ℕ) → AreDisksOf [] (new_shape extent block entries extents others)
new_disks extent block entries extents others = record { recorded = refl; sizes = λ d i h k hid e. absurd h }
