-- The last branch of the geometry.
use Rattle.std.proofs.Common.{◌≡◌, ℕ, ◌*◌, ◌/◌, ◌<◌, ◌≤◌, ◌⊎◌, Bool, true, false, ◌&&◌, inl, inr, refl}
use Rattle.std.specs.Prelude.{nat_le}
use Rattle.std.proofs.lemmas.Bool.{lt-leb, le-ltb}
use Rattle.vhd_fields.specs.DiskGeometry.{chs, heads_for, reach, geometry_within}

and_false : (b : Bool) → (b && false) ≡ false
and_false true = refl
and_false false = refl

seventeen_not : (heads tracks : ℕ) → (heads * 1024 ≤ tracks) ⊎ (16 < heads) → (reach heads tracks && nat_le heads 16) ≡ false
seventeen_not heads tracks (inl short) = rw (le-ltb tracks (heads * 1024) short) refl
seventeen_not heads tracks (inr many) = rw (lt-leb heads 16 many) (and_false (reach heads tracks))

pub sixty_three : (sectors : ℕ) → sectors < 66059280 → (heads_for (sectors / 17) * 1024 ≤ sectors / 17) ⊎ (16 < heads_for (sectors / 17)) → 16384 ≤ sectors / 31 → geometry_within sectors ≡ chs (sectors / 63) 16 63
sixty_three sectors small not_17 not_31 =
    rw (lt-leb 66059280 sectors small, seventeen_not (heads_for (sectors / 17)) (sectors / 17) not_17, le-ltb (sectors / 31) 16384 not_31) refl
