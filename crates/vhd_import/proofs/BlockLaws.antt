-- The blocks of a dynamic file, sector by sector, where its table was read and is right.
use Rattle.std.proofs.Common.{◌≡◌, ◌⊎◌, inl, inr, ℕ, zero, suc, ◌+◌, ◌-◌, ◌*◌, ◌/◌, ◌<◌, ◌≤◌, Bool, true, false, ◌&&◌, List, ◌++◌, length, length-append, Some, None, refl, sym, ap, ◌∙◌, arith}
use Rattle.std.specs.Prelude.{nat_le, nat_lt}
use Rattle.std.proofs.Math.Nat.{div-lt_iff_lt-mul}
use Rattle.std.proofs.lemmas.Bool.{and_from, and_parts}
use Rattle.std.proofs.lemmas.Bool.Decides.{nat_tests}
use Rattle.common_laws.specs.Lists.{given}
use Rattle.sm_base.specs.Numbers.{div_up}
use Rattle.vhd_map.specs.Bitmaps.{is_set}
use Rattle.vhd_stream.specs.Files.{File, FileLayout, IsThere, entry, sector_at}
use Rattle.vhd_import.specs.Blocks.{IsTabled}
use Rattle.vhd_import.specs.Heads.{size_at}
use Rattle.vhd_import.specs.Making.{put_lacks}
use Rattle.vhd_import.specs.Progress.{puts_of}
use Rattle.vhd_import.specs.Puts.{Put, has_sector, put_at}
use Rattle.vhd_import.specs.Room.{Target, is_too_large, lacks_space}
use Rattle.vhd_import.specs.Tables.{is_named}
use Rattle.vhd_import.specs.Verdicts.{denial_at}
use Rattle.vhd_import.proofs.AgreeLaws.{agree-front, same-entry, same-table}
use Rattle.vhd_import.proofs.DynamicLaws.{behind-denial, known-more, part-right, quiet-sector}
use Rattle.vhd_import.proofs.FilledLaws.{lacks-put}
use Rattle.vhd_import.proofs.HeadLaws.{end-behind, headed}
use Rattle.vhd_import.proofs.StepLaws.{put-of-block, put-of-none}
use Rattle.vhd_import.proofs.TableLaws.{there-test}

-- ---- a file goes on

module _ (front more : File) (f : FileLayout) (size : ℕ) (w : IsTabled front f size) where
  some : 4 ≤ length front
  some = let e = end-behind front f w.known.layout in let b = w.behind in omega (arith, e, b)

  pub entry-more : (b : ℕ) → b < f.entries → entry f (front ++ more) b ≡ entry f front b
  entry-more b below =
      let k : ℕ = length front - 1 in
      let s = some in
      same-entry k (front ++ more) front (agree-front front more k (omega (arith, s))) f b below (omega (arith, s, w.behind))

  pub there-more : (b : ℕ) → IsThere f front b → IsThere f (front ++ more) b
  there-more b is = record { below = is.below; named = λ blank_is. is.named (sym (entry-more b (let h = headed front f w.known.layout in omega (arith, is.below, h.fits))) ∙ blank_is) }

  pub tabled-more : IsTabled (front ++ more) f size
  unfolding div_up
  tabled-more =
      let k : ℕ = length front - 1 in
      let s = some in
      let h = headed front f w.known.layout in
      record {
        known = known-more front more f size (omega (arith, s)) w.known;
        behind = omega (arith, w.behind, length-append front more);
        right = same-table k (front ++ more) front (agree-front front more k (omega (arith, s))) f (omega (arith, s, w.behind, h.fits)) ∙ w.right;
      }

as-suc : (n : ℕ) → 0 < n → (k : ℕ) × (n ≡ suc k)
as-suc n some = (n - 1, omega (arith, some))

-- ---- a data sector

-- what a data sector of a block puts: it where its bit is set and the disk reaches so far
pub data-put : (file : File) (f : FileLayout) (size k b i : ℕ) → IsTabled file f size → IsThere f file b → k ≡ entry f file b + 1 + i → i < f.block
    → put_at file k ≡ given (is_set (sector_at file (entry f file b)) i && nat_lt (b * f.block + i) size) (record { sector = b * f.block + i; bytes = sector_at file k })
data-put file f size k b i w there at less =
    let e : ℕ = entry f file b in
    let part : k - e - 1 ≡ i = omega (arith, at) in
    put-of-block file f k b w.known.dynamic w.known.layout w.right there (omega (arith, at)) (omega (arith, at, less))
    ∙ ap (λ j. given (is_set (sector_at file e) j && nat_lt (b * f.block + j) (size_at file)) (record { sector = b * f.block + j; bytes = sector_at file k })) part
    ∙ ap (λ n. given (is_set (sector_at file e) i && nat_lt (b * f.block + i) n) (record { sector = b * f.block + i; bytes = sector_at file k })) w.known.sized

-- behind the table a sector decides what its space does
pub data-denial : (t : Target) (file : File) (f : FileLayout) (size k : ℕ) → IsTabled file f size → 0 < k → denial_at t file k ≡ lacks_space t file k
data-denial t file f size zero w some = absurd (omega (arith, some))
data-denial t file f size (suc k) w some = behind-denial t file f size k w.known (part-right f file _ (omega arith) w.right)

-- a data sector whose bit is set is put, and denies the file where its put lacks extents
pub set-data : (t : Target) (file : File) (f : FileLayout) (size k b i : ℕ) → IsTabled file f size → IsThere f file b → k ≡ entry f file b + 1 + i → i < f.block → is_set (sector_at file (entry f file b)) i ≡ true → b * f.block + i < size
    → (put_at file k ≡ Some (record { sector = b * f.block + i; bytes = sector_at file k })) × (denial_at t file k ≡ put_lacks t (record { sector = b * f.block + i; bytes = sector_at file k }) (puts_of file k))
set-data t file f size k b i w there at less set within =
    let low : nat_lt (b * f.block + i) size ≡ true = grind (arith, nat_tests) in
    let p : Put = record { sector = b * f.block + i; bytes = sector_at file k } in
    let both : (is_set (sector_at file (entry f file b)) i && nat_lt (b * f.block + i) size) ≡ true = and_from (is_set (sector_at file (entry f file b)) i) (nat_lt (b * f.block + i) size) set low in
    let put : put_at file k ≡ Some p = data-put file f size k b i w there at less ∙ ap (λ v. given v p) both in
    (put, by k (omega (arith, at)) put)
  where
    by : (n : ℕ) → 0 < n → put_at file n ≡ Some (record { sector = b * f.block + i; bytes = sector_at file k }) → denial_at t file n ≡ put_lacks t (record { sector = b * f.block + i; bytes = sector_at file k }) (puts_of file n)
    by zero some put = absurd (omega (arith, some))
    by (suc n) some put = data-denial t file f size (suc n) w some ∙ lacks-put t file n _ put

-- one whose bit is not set, or that lies past the disk's end, puts nothing and decides nothing
pub other-data : (t : Target) (file : File) (f : FileLayout) (size k b i : ℕ) → IsTabled file f size → IsThere f file b → k ≡ entry f file b + 1 + i → i < f.block → (is_set (sector_at file (entry f file b)) i ≡ false) ⊎ (size ≤ b * f.block + i)
    → (put_at file k ≡ None) × (denial_at t file k ≡ None)
other-data t file f size k b i w there at less which =
    let p : Put = record { sector = b * f.block + i; bytes = sector_at file k } in
    let neither : (is_set (sector_at file (entry f file b)) i && nat_lt (b * f.block + i) size) ≡ false = by (is_set (sector_at file (entry f file b)) i) which in
    let put : put_at file k ≡ None = data-put file f size k b i w there at less ∙ ap (λ v. given v p) neither in
    (put, quiet-sector t file f size k w.known (omega (arith, at)) (part-right f file _ (omega arith) w.right) put)
  where
    by : (v : Bool) → (v ≡ false) ⊎ (size ≤ b * f.block + i) → (v && nat_lt (b * f.block + i) size) ≡ false
    by false h = refl
    by true (inl h) = absurd (cc h)
    by true (inr h) = grind (arith, nat_tests)

-- ---- a sector between the blocks, or a bitmap

not-has : (file : File) (f : FileLayout) (k b : ℕ) → (IsThere f file b → (k ≤ entry f file b) ⊎ (entry f file b + f.block < k)) → b < f.blocks → has_sector f file k b ≡ false
not-has file f k b apart below = by (is_named f file b) refl
  where
    outside : (k ≤ entry f file b) ⊎ (entry f file b + f.block < k) → (nat_lt (entry f file b) k && nat_le k (entry f file b + f.block)) ≡ false
    outside (inl low) = let e : nat_lt (entry f file b) k ≡ false = grind (arith, nat_tests) in ap (λ v. v && nat_le k (entry f file b + f.block)) e
    outside (inr high) = let e : nat_le k (entry f file b + f.block) ≡ false = grind (arith, nat_tests) in ap (λ v. nat_lt (entry f file b) k && v) e ∙ last (nat_lt (entry f file b) k)
      where
        last : (v : Bool) → (v && false) ≡ false
        last true = refl
        last false = refl

    by : (v : Bool) → is_named f file b ≡ v → has_sector f file k b ≡ false
    by false is = ap (λ v. v && (nat_lt (entry f file b) k && nat_le k (entry f file b + f.block))) is
    by true is = ap (λ v. v && (nat_lt (entry f file b) k && nat_le k (entry f file b + f.block))) is ∙ outside (apart (there-test f file b below is))

-- a sector of which each block lies behind or in front puts nothing and decides nothing
pub between : (t : Target) (file : File) (f : FileLayout) (size k : ℕ) → IsTabled file f size → 0 < k → ((b : ℕ) → IsThere f file b → (k ≤ entry f file b) ⊎ (entry f file b + f.block < k)) → (put_at file k ≡ None) × (denial_at t file k ≡ None)
between t file f size k w some apart =
    let put : put_at file k ≡ None = put-of-none file f k w.known.dynamic w.known.layout (λ b below. not-has file f k b (apart b) below) in
    (put, quiet-sector t file f size k w.known some (part-right f file _ (omega arith) w.right) put)

-- ---- a sector of the disk

-- a sector that goes to the disk has its bit set, and lies in front of the disk's end
pub asked-parts : (bits : List ℕ) (i at size : ℕ) (b : Bool) → b ≡ (is_set bits i && nat_lt at size) → b ≡ true → (is_set bits i ≡ true) × (at < size)
asked-parts bits i at size b is asked =
    let p = and_parts (is_set bits i) (nat_lt at size) (sym is ∙ asked) in
    (p.0, (let t = p.1 in grind (arith, nat_tests)))

pub unasked-parts : (bits : List ℕ) (i at size : ℕ) (b : Bool) → b ≡ (is_set bits i && nat_lt at size) → b ≡ false → (is_set bits i ≡ false) ⊎ (size ≤ at)
unasked-parts bits i at size b is asked = by (is_set bits i) refl
  where
    by : (v : Bool) → is_set bits i ≡ v → (is_set bits i ≡ false) ⊎ (size ≤ at)
    by false set = inl set
    by true set = inr (let e : nat_lt at size ≡ false = ap (λ v. v && nat_lt at size) (sym set) ∙ sym is ∙ asked in grind (arith, nat_tests))

pub below-up : (n k s e : ℕ) → 0 < n → k < s → div_up s n ≤ e → k / n < e
unfolding div_up
below-up n k s e some less fits =
    let low : (s + n - 1) / n < e + 1 = omega (arith, fits) in
    let m = (div-lt_iff_lt-mul {k = n} {x = s + n - 1} {y = e + 1} some).0 low in
    (div-lt_iff_lt-mul {k = n} {x = k} {y = e} some).1 (omega (arith, m, less))

-- of a disk that is not too large each sector has an entry for its block
pub fits-at : (t : Target) (k s : ℕ) → 0 < t.block → k < s → is_too_large t s ≡ false → k / t.block < t.entries
fits-at t k s some less fits = below-up t.block k s t.entries some less (grind (arith, nat_tests))

pub same-place : (x y z b n i m : ℕ) → x ≡ b → y ≡ n → z ≡ i → m ≡ n → x * y + z ≡ b * m + i
same-place x y z b n i m hx hy hz hm = rw (hx, hy, hz, hm) refl
