-- What a VHD image says of several sectors of one block.
use Rattle.std.proofs.Common.{◌≡◌, ℕ, ◌+◌, ◌-◌, ◌*◌, ◌/◌, ◌%◌, ◌<◌, Bool, true, false, if◌then◌else◌, List, length, Some, None, refl, sym, ap, ◌∙◌, arith}
use Rattle.std.specs.Prelude.{is_some}
use Rattle.std.proofs.lemmas.Bool.{cond-true}
use Rattle.std.proofs.lemmas.Nat.{div-mul-add, mod-mul-add, div-add-mod'}
use Rattle.sm_disk.specs.Held.{Held, Gave, reads}
use Rattle.sm_disk.specs.Sectors.{sector}
use Rattle.vhd_fields.specs.declared.footers.Footer.{Footer}
use Rattle.vhd_fields.specs.declared.headers.Header.{Header}
use Rattle.vhd_map.specs.Bitmaps.{is_set}
use Rattle.vhd_layout.specs.Layouts.{Sectors, Layout, IsLayout, place, Slots}
use Rattle.vhd_layout.specs.Images.{IsImage}
use Rattle.vhd_volumes.specs.Truth.{disk_sectors}
use Rattle.vhd_volumes.specs.Writes.{own_in}
use Rattle.vhd_image.proofs.ContentLaws.{own-slot, own-no_slot}

-- a later sector of the same block
pub same-block : (b s j : ℕ) → s % b + j < b → ((s + j) / b ≡ s / b) × ((s + j) % b ≡ s % b + j)
same-block b s j within =
    let e : s + j ≡ s / b * b + (s % b + j) = omega (arith, div-add-mod' s b) in
    (ap (λ n. n / b) e ∙ div-mul-add (s / b) b (s % b + j) within, ap (λ n. n % b) e ∙ mod-mul-add (s / b) b (s % b + j) within)

is_some-if : (b : Bool) (x : List ℕ) → is_some (if b then Some x else None) ≡ b
is_some-if true x = refl
is_some-if false x = refl

module _ (l : Layout) (v : Sectors) (f : Footer) (h : Header) (m : Slots) (s : ℕ) (ok : IsLayout l) (image : IsImage l v f h m) where
  -- of a block without a slot none is held
  pub run-no_slot : (j : ℕ) → s % l.block + j < l.block → s + j < disk_sectors f → m (s / l.block) ≡ None → own_in l v (s + j) ≡ None
  run-no_slot j within below none = own-no_slot l v f h m (s + j) ok image below (ap m (same-block l.block s j within).0 ∙ none)

  run-slot : (k j : ℕ) → s % l.block + j < l.block → s + j < disk_sectors f → m (s / l.block) ≡ Some k
      → own_in l v (s + j) ≡ (if is_set (v (place l k 0)) (s % l.block + j) then Some (v (place l k (1 + (s % l.block + j)))) else None)
  run-slot k j within below has =
      let same = same-block l.block s j within in
      own-slot l v f h m (s + j) k ok image below (ap m same.0 ∙ has)
      ∙ ap (λ (i : ℕ). if is_set (v (place l k 0)) i then Some (v (place l k (1 + i))) else None) same.1

  -- of a block with a slot the bitmap says which are held
  pub run-bit : (k j : ℕ) → s % l.block + j < l.block → s + j < disk_sectors f → m (s / l.block) ≡ Some k
      → is_some (own_in l v (s + j)) ≡ is_set (v (place l k 0)) (s % l.block + j)
  run-bit k j within below has =
      ap is_some (run-slot k j within below has) ∙ is_some-if (is_set (v (place l k 0)) (s % l.block + j)) (v (place l k (1 + (s % l.block + j))))

  -- and these stand behind it
  pub run-held : (k j : ℕ) → s % l.block + j < l.block → s + j < disk_sectors f → m (s / l.block) ≡ Some k
      → is_some (own_in l v (s + j)) ≡ true → own_in l v (s + j) ≡ Some (v (place l k (1 + (s % l.block + j))))
  run-held k j within below has held =
      run-slot k j within below has
      ∙ cond-true (is_set (v (place l k 0)) (s % l.block + j)) (Some (v (place l k (1 + (s % l.block + j))))) None (sym (run-bit k j within below has) ∙ held)

-- the sector with this number in what a read gave
pub gave-one : (at : ℕ) (h : Held) (bytes : List ℕ) (k p : ℕ) → Gave at h bytes → 512 * k < length bytes → p ≡ at + k → reads h p ≡ sector bytes k
gave-one at h bytes k p gave below is =
    let nth : p - at ≡ k = omega arith in
    sym (gave p (omega arith, omega arith)) ∙ ap (sector bytes) nth
