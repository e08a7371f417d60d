-- Pieces of a read: what stays of them where the store was only read, and their bytes in a buffer.
use Rattle.std.proofs.Common.{◌≡◌, ◌⊎◌, inl, inr, ℕ, ◌+◌, ◌-◌, ◌*◌, ◌<◌, ◌≤◌, Bool, List, length, take, drop, replicate, Option, Some, None, sym, ap, subst, ◌∙◌, arith}
use Rattle.std.specs.Prelude.{IfSome, is_some}
use Rattle.std.proofs.lemmas.List.{length-take, length-drop, drop-replicate, take-replicate}
use Rattle.std.proofs.lemmas.Bool.{cases_lt}
use Rattle.std.proofs.lemmas.Slice.{between-put_mid, take-put_mid_below}
use borrow.Rule.Slice.PartMut.{put_mid}
use Rattle.sm_disk.specs.Sectors.{sector, zeros}
use Rattle.sm_disk.proofs.SectorLaws.{sector-part, sector-take}
use Rattle.vg_volumes.specs.Sites.{Site}
use Rattle.vg_volumes.specs.Stored.{Stored, stored, OnlyReads}
use Rattle.vg_volumes.specs.declared.stores.Store.{Ghosts}
use Rattle.vhd_image.specs.declared.images.Body.{Body}
use Rattle.vhd_image.specs.Runs.{AreInRow, AreHeld}
use Rattle.vhd_image.proofs.ReadLaws.{same-stored, stands-still, true-still}
use Rattle.vhd_chain.specs.Reading.{own_read, AllStand, AllAreTrue, AreRead}
use Rattle.vhd_chain.specs.Pieces.{HoldsAll, IsPiece, AreFilled}
use Rattle.vhd_chain.specs.declared.rows.TreeRow.{TreeRow}

-- ---- a buffer of zeros

-- a sector of it
pub sector-zeros : (n i : ℕ) → 512 * i + 512 ≤ n → sector (replicate {A = ℕ} n 0) i ≡ zeros
unfolding sector zeros
sector-zeros n i within = ap (take 512) (drop-replicate (512 * i) n 0) ∙ take-replicate 512 (n - 512 * i) 0 (omega arith)

-- ---- the store was only read

module _ {S : Type 0} {g : Ghosts S} {a b : S} (r : OnlyReads g a b) where
  pub all-stand-still : (rows : List TreeRow) → AllStand (stored g a) rows → AllStand (stored g b) rows
  all-stand-still rows all = λ row among. stands-still r row.image (all row among)

  pub all-true-still : (rows : List TreeRow) → (g.told → AllAreTrue (stored g a) rows) → g.told → AllAreTrue (stored g b) rows
  all-true-still rows all = λ told row among. true-still r row.image told (all told row among)

  pub holds-still : (at n m : ℕ) (o : Option Body) → m ≡ n → IfSome o (HoldsAll g.told (stored g a) at n) → IfSome o (HoldsAll g.told (stored g b) at m)
  holds-still at n m None e h = h
  holds-still at n m (Some body) e h = record {
    stands = stands-still r body h.stands;
    true_now = λ told. true-still r body told (h.true_now told);
    within = omega (arith, e, h.within);
    in_row = subst (λ (i : ℕ). AreInRow (stored g b).site.geometry.block at i body) (sym e) (subst (λ (x : Site). AreInRow x.geometry.block at n body) (sym r.stays.site) h.in_row);
    held = λ told. subst (λ (x : Stored). AreHeld (own_read x body) at m) (sym (same-stored r told)) (λ k below. h.held told k (omega (arith, e)));
  }

  pub alike-still : g.told → (body : Body) (at n : ℕ) (held : Bool) → ((k : ℕ) → k < n → is_some (own_read (stored g b) body (at + k)) ≡ held)
      → (k : ℕ) → k < n → is_some (own_read (stored g a) body (at + k)) ≡ held
  alike-still told body at n held h = λ k below. ap (λ (x : Stored). is_some (own_read x body (at + k))) (sym (same-stored r told)) ∙ h k below

-- ---- a piece of zeros

pub zeros-piece : (x : Stored) (f : ℕ → List ℕ) (at n : ℕ) (o : Option Body) → o ≡ None → ((k : ℕ) → k < n → f (at + k) ≡ zeros) → IsPiece x f at n o
zeros-piece x f at n o none all = subst (λ (p : Option Body). IsPiece x f at n p) (sym none) all

-- ---- a piece in a buffer

pub piece-long : (xs : List ℕ) (at n : ℕ) → 512 * (at + n) ≤ length xs → length (take (512 * (at + n) - 512 * at) (drop (512 * at) xs)) ≡ 512 * n
piece-long xs at n fits = omega (arith, length-take (512 * (at + n) - 512 * at) (drop (512 * at) xs), length-drop (512 * at) xs)

pub front-stays : (xs ys : List ℕ) (at n k : ℕ) → 512 * (at + n) ≤ length xs → k < at → sector (put_mid (512 * at) (512 * (at + n) - 512 * at) xs ys) k ≡ sector xs k
front-stays xs ys at n k fits below =
    sym (sector-take (put_mid (512 * at) (512 * (at + n) - 512 * at) xs ys) (512 * at) k (omega arith))
    ∙ ap (λ l. sector l k) (take-put_mid_below (512 * at) (512 * (at + n) - 512 * at) xs ys (512 * at) (omega arith) (omega arith))
    ∙ sector-take xs (512 * at) k (omega arith)

pub piece-put : (xs ys : List ℕ) (at n k : ℕ) → length ys ≡ 512 * n → 512 * (at + n) ≤ length xs → at ≤ k → k < at + n
    → sector (put_mid (512 * at) (512 * (at + n) - 512 * at) xs ys) k ≡ sector ys (k - at)
piece-put xs ys at n k long fits from below =
    let e : k ≡ at + (k - at) = omega arith in
    ap (sector (put_mid (512 * at) (512 * (at + n) - 512 * at) xs ys)) e
    ∙ sym (sector-part (put_mid (512 * at) (512 * (at + n) - 512 * at) xs ys) at (512 * (at + n) - 512 * at) (k - at) (omega arith))
    ∙ ap (λ l. sector l (k - at)) (between-put_mid (512 * at) (512 * (at + n) - 512 * at) xs ys (512 * (at + n)) (omega arith) (omega (arith, long)))

-- its bytes are those that are read
pub filled-is : (x : Stored) (f : ℕ → List ℕ) (at n : ℕ) (o : Option Body) (ys : List ℕ) (j : ℕ) → IsPiece x f at n o → AreFilled x o at ys → j < n → 512 * j < length ys → sector ys j ≡ f (at + j)
filled-is x f at n None ys j piece filled below short = filled j short ∙ sym (piece j below)
filled-is x f at n (Some body) ys j piece filled below short =
    let same : Some (sector ys j) ≡ Some (f (at + j)) = sym (filled j short) ∙ piece j below in
    cc

-- one piece more is read
pub read-more : (f : ℕ → List ℕ) (at done next : ℕ) (old new : List ℕ) → AreRead f at 0 done old → ((k : ℕ) → k < done → sector new k ≡ sector old k) → AreRead f at done next new → AreRead f at 0 next new
read-more f at done next old new before same more = λ k from below. go k below (cases_lt k done)
  where
    go : (k : ℕ) → k < next → (k < done) ⊎ (done ≤ k) → sector new k ≡ f (at + k)
    go k below (inl front) = same k front ∙ before k (omega arith) front
    go k below (inr here) = more k here below
