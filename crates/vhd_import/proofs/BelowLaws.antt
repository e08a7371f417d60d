-- What a file puts lies within the disk that it holds.
use Rattle.std.proofs.Common.{◌≡◌, inl, inr, ℕ, zero, suc, ◌+◌, ◌-◌, ◌*◌, ◌<◌, Bool, true, false, ◌&&◌, List, [], ◌∷◌, length, Option, Some, None, refl, sym, ap, ◌∙◌, arith, subst}
use Rattle.std.specs.Prelude.{All, nat_lt, nat_le, if◌then◌else◌}
use Rattle.std.specs.List.{find}
use Rattle.std.proofs.lemmas.Bool.{and_parts}
use Rattle.std.proofs.lemmas.Bool.Decides.{nat_tests}
use Rattle.std.proofs.lemmas.List.Elements.{All-cons, All-nil}
use Rattle.common_laws.specs.Lists.{In, numbers, ◌>>=◌}
use Rattle.common_laws.proofs.Options.{bind-some}
use Rattle.vhd_map.specs.Bitmaps.{is_set}
use Rattle.vhd_stream.specs.Files.{File, FileLayout, entry, sector_at, table_end}
use Rattle.vhd_import.specs.Heads.{is_dynamic, layout_at, size_at}
use Rattle.vhd_import.specs.Progress.{puts_of}
use Rattle.vhd_import.specs.Puts.{Put, block_put, dynamic_put, fixed_put, has_sector, put_at}
use Rattle.vhd_import.proofs.FilledLaws.{puts-In}
use Rattle.vhd_import.proofs.TestLaws.{is-given, same_some}

all-of : (P : Put → Type 0) (puts : List Put) → ((p : Put) → In p puts → P p) → All P puts
all-of P [] each = All-nil P
all-of P (p ∷ puts) each = All-cons P p puts (each p (inl refl)) (all-of P puts (λ q i. each q (inr i)))

-- ---- a dynamic file

block-below : (f : FileLayout) (file : File) (k b : ℕ) (p : Put) → block_put f file k b ≡ Some p → p.sector < size_at file
block-below f file k b p is =
    let i : ℕ = k - entry f file b - 1 in
    let s : ℕ = b * f.block + i in
    let g = is-given (is_set (sector_at file (entry f file b)) i && nat_lt s (size_at file)) (record { sector = s; bytes = sector_at file k }) p is in
    let q = and_parts (is_set (sector_at file (entry f file b)) i) (nat_lt s (size_at file)) g.0 in
    let below : s < size_at file = let t : nat_lt s (size_at file) ≡ true = q.1 in grind (arith, nat_tests) in
    subst (λ (x : Put). x.sector < size_at file) g.1 below

dynamic-below : (f : FileLayout) (file : File) (k : ℕ) (p : Put) → dynamic_put f file k ≡ Some p → p.sector < size_at file
unfolding dynamic_put
dynamic-below f file k p is = by (nat_le (table_end f) k) refl
  where
    found : (find (has_sector f file k) (numbers 0 f.blocks) >>= block_put f file k) ≡ Some p → p.sector < size_at file
    found q =
        let b = bind-some (find (has_sector f file k) (numbers 0 f.blocks)) (block_put f file k) p q in
        block-below f file k b.0 p (ap (λ (o : Option ℕ). o >>= block_put f file k) (sym b.1) ∙ q)

    by : (t : Bool) → nat_le (table_end f) k ≡ t → p.sector < size_at file
    by true t = found (let q = is in rw t at q)
    by false t = absurd (let q : None ≡ Some p = rw t at is in cc q)

put-below : (file : File) (k : ℕ) (p : Put) → is_dynamic file ≡ true → put_at file k ≡ Some p → p.sector < size_at file
unfolding put_at
put-below file k p dynamic is =
    let a : (layout_at file >>= (λ x. dynamic_put x file k)) ≡ Some p = ap (λ b. if b then layout_at file >>= (λ x. dynamic_put x file k) else fixed_put file k) (sym dynamic) ∙ is in
    let f = bind-some (layout_at file) (λ x. dynamic_put x file k) p a in
    dynamic-below f.0 file k p (ap (λ (o : Option FileLayout). o >>= (λ x. dynamic_put x file k)) (sym f.1) ∙ a)

-- the puts of a dynamic file of a disk of so many sectors
pub dynamic-within : (file : File) (size : ℕ) → is_dynamic file ≡ true → size_at file ≡ size → All (λ (p : Put). p.sector < size) (puts_of file (length file))
dynamic-within file size dynamic sized =
    all-of (λ (p : Put). p.sector < size) (puts_of file (length file)) (λ p i.
    let j = puts-In file (length file) p i in
    subst (λ n. p.sector < n) sized (put-below file j.0 p dynamic j.2))

-- ---- a fixed file

fixed-below : (file : File) (k n : ℕ) (p : Put) → k < n + 1 → fixed_put file k ≡ Some p → p.sector < n
fixed-below file zero n p less is = absurd (cc is)
fixed-below file (suc k) n p less is =
    let q : Put = record { sector = k; bytes = sector_at file k } in
    let e : k ≡ p.sector = ap (λ (x : Put). x.sector) (same_some q p is) in
    omega (arith, less, e)

-- the puts of a fixed file, whose last sector is its footer
pub fixed-within : (file : File) (size : ℕ) → is_dynamic file ≡ false → length file ≡ size + 1 → All (λ (p : Put). p.sector < size) (puts_of file (length file))
unfolding put_at
fixed-within file size plain long =
    all-of (λ (p : Put). p.sector < size) (puts_of file (length file)) (λ p i.
    let j = puts-In file (length file) p i in
    let a : fixed_put file j.0 ≡ Some p = ap (λ b. if b then layout_at file >>= (λ x. dynamic_put x file j.0) else fixed_put file j.0) (sym plain) ∙ j.2 in
    fixed-below file j.0 size p (omega (arith, j.1, long)) a)
