-- The sectors of a disk as a list, and some of them as bytes.
use Rattle.std.proofs.Common.{◌≡◌, ◌⊎◌, inl, inr, ℕ, zero, suc, ◌+◌, ◌-◌, ◌*◌, ◌<◌, ◌≤◌, nat_le, nat_lt, ◌&&◌, Bool, true, false, cond, List, [], ◌∷◌, ◌++◌, length, map, take, drop, option_map, Some, refl, sym, ap, ap₂, ◌∙◌, arith, length-drop}
use Rattle.std.specs.List.{concat, slice_get}
use Rattle.std.proofs.lemmas.Bool.{le-leb, lt-leb, lt-ltb, le-ltb}
use Rattle.std.proofs.lemmas.Option.{slice_get-map}
use Rattle.std.proofs.lemmas.List.{take-map, drop-map, length-map, take-append-drop}
use Rattle.common_laws.specs.Lists.{numbers}
use Rattle.sm_disk.specs.Sectors.{sector}
use Rattle.sm_disk.proofs.SectorLaws.{sector-drop}
use Rattle.sm_ready.proofs.WrittenLaws.{length-numbers, slice-numbers}
use Rattle.sm_machine.specs.Disks.{cut_sectors, overwritten, bytes_at}

-- ---- numbers in a row

take_numbers : (a n k : ℕ) → take n (numbers a (n + k)) ≡ numbers a n
unfolding numbers
take_numbers a zero k = refl
take_numbers a (suc n) k = ap (λ j. take (suc n) (numbers a j)) (let e : suc n + k ≡ suc (n + k) = omega arith in e) ∙ ap (λ xs. a ∷ xs) (take_numbers (a + 1) n k)

drop_numbers : (a n k : ℕ) → drop n (numbers a (n + k)) ≡ numbers (a + n) k
unfolding numbers
drop_numbers a zero k = ap₂ numbers (let e : a ≡ a + zero = omega arith in e) (let e : zero + k ≡ k = omega arith in e)
drop_numbers a (suc n) k =
    ap (λ j. drop (suc n) (numbers a j)) (let e : suc n + k ≡ suc (n + k) = omega arith in e) ∙ drop_numbers (a + 1) n k ∙ ap (λ j. numbers j k) (let e : a + 1 + n ≡ a + suc n = omega arith in e)

map_numbers : (f g : ℕ → List ℕ) (a b n : ℕ) → ((k : ℕ) → k < n → f (a + k) ≡ g (b + k)) → map f (numbers a n) ≡ map g (numbers b n)
unfolding numbers
map_numbers f g a b zero same = refl
map_numbers f g a b (suc n) same =
    ap₂ (λ x xs. x ∷ xs) (ap f (let e : a ≡ a + 0 = omega arith in e) ∙ same 0 (omega arith) ∙ ap g (let e : b + 0 ≡ b = omega arith in e))
    (map_numbers f g (a + 1) (b + 1) n (λ k below. ap f (let e : a + 1 + k ≡ a + suc k = omega arith in e) ∙ same (suc k) (omega (arith, below)) ∙ ap g (let e : b + suc k ≡ b + 1 + k = omega arith in e)))

pub split_numbers : (a n k : ℕ) → numbers a (n + k) ≡ numbers a n ++ numbers (a + n) k
split_numbers a n k = sym (take-append-drop n (numbers a (n + k))) ∙ ap₂ (λ xs ys. xs ++ ys) (take_numbers a n k) (drop_numbers a n k)

map-append : (f : ℕ → List ℕ) (xs ys : List ℕ) → map f (xs ++ ys) ≡ map f xs ++ map f ys
map-append f [] ys = refl
map-append f (x ∷ xs) ys = ap (λ zs. f x ∷ zs) (map-append f xs ys)

-- ---- bytes as sectors

pub cut_is : (n : ℕ) (bytes : List ℕ) → cut_sectors n bytes ≡ map (sector bytes) (numbers 0 n)
unfolding cut_sectors numbers sector
cut_is zero bytes = refl
cut_is (suc n) bytes =
    ap (λ xs. take 512 bytes ∷ xs) (cut_is n (drop 512 bytes) ∙ map_numbers (sector (drop 512 bytes)) (sector bytes) 0 (0 + 1) n (λ k below. sector-drop bytes 1 (0 + k) ∙ ap (sector bytes) (let e : 1 + (0 + k) ≡ 0 + 1 + k = omega arith in e)))

cut_joined : (n : ℕ) (bytes : List ℕ) → length bytes ≡ 512 * n → concat (cut_sectors n bytes) ≡ bytes
unfolding cut_sectors
cut_joined zero [] long = refl
cut_joined zero (b ∷ bytes) long = absurd (omega (arith, long))
cut_joined (suc n) bytes long =
    let rest : length (drop 512 bytes) ≡ 512 * n = let e = length-drop 512 bytes in omega (arith, e, long) in
    ap (λ xs. take 512 bytes ++ xs) (cut_joined n (drop 512 bytes) rest) ∙ take-append-drop 512 bytes

-- the bytes of some sectors of a disk
pub bytes_read : (f : ℕ → List ℕ) (bytes : List ℕ) (at n size : ℕ) → at + n ≤ size → length bytes ≡ 512 * n → ((k : ℕ) → k < n → sector bytes k ≡ f (at + k)) → bytes ≡ bytes_at at n (map f (numbers 0 size))
unfolding bytes_at
bytes_read f bytes at n size fits long same =
    let rest : ℕ = size - (at + n) in
    let whole : size ≡ at + (n + rest) = omega (arith, fits) in
    sym (cut_joined n bytes long)
    ∙ ap concat (cut_is n bytes
    ∙ map_numbers (sector bytes) f 0 at n (λ k below. ap (sector bytes) (let e : 0 + k ≡ k = omega arith in e) ∙ same k below)
    ∙ ap (map f) (sym (ap (take n) (ap (λ k. drop at (numbers 0 k)) whole ∙ drop_numbers 0 at (n + rest) ∙ ap (λ k. numbers k (n + rest)) (let e : 0 + at ≡ at = omega arith in e)) ∙ take_numbers at n rest))
    ∙ sym (ap (take n) (drop-map f at (numbers 0 size)) ∙ take-map f n (drop at (numbers 0 size))))

-- the sectors of a disk, some of which are written over
pub over_written : (f g : ℕ → List ℕ) (bytes : List ℕ) (at n size : ℕ) → at + n ≤ size → ((k : ℕ) → k < n → g (at + k) ≡ sector bytes k) → ((k : ℕ) → k < size → (k < at) ⊎ (at + n ≤ k) → g k ≡ f k)
    → map g (numbers 0 size) ≡ overwritten at (cut_sectors n bytes) (map f (numbers 0 size))
unfolding overwritten
over_written f g bytes at n size fits inside outside =
    let rest : ℕ = size - (at + n) in
    let whole : size ≡ at + (n + rest) = omega (arith, fits) in
    let ended : size ≡ at + n + rest = omega (arith, fits) in
    let long : length (cut_sectors n bytes) ≡ n = ap length (cut_is n bytes) ∙ length-map (numbers 0 n) (sector bytes) ∙ length-numbers 0 n in
    ap (map g) (ap (numbers 0) whole ∙ split_numbers 0 at (n + rest) ∙ ap (λ xs. numbers 0 at ++ xs) (split_numbers (0 + at) n rest))
    ∙ map-append g (numbers 0 at) (numbers (0 + at) n ++ numbers (0 + at + n) rest)
    ∙ ap₂ (λ xs ys. xs ++ ys)
    (map_numbers g f 0 0 at (λ k below. outside (0 + k) (omega (arith, below, fits)) (inl (omega (arith, below))))
    ∙ ap (map f) (sym (ap (λ k. take at (numbers 0 k)) whole ∙ take_numbers 0 at (n + rest))) ∙ sym (take-map f at (numbers 0 size)))
    (map-append g (numbers (0 + at) n) (numbers (0 + at + n) rest)
    ∙ ap₂ (λ xs ys. xs ++ ys)
    (map_numbers g (sector bytes) (0 + at) 0 n (λ k below. ap g (let e : 0 + at + k ≡ at + k = omega arith in e) ∙ inside k below ∙ ap (sector bytes) (let e : k ≡ 0 + k = omega arith in e)) ∙ sym (cut_is n bytes))
    (map_numbers g f (0 + at + n) (0 + (at + n)) rest (λ k below. ap g (let e : 0 + at + n + k ≡ 0 + (at + n) + k = omega arith in e) ∙ outside (0 + (at + n) + k) (omega (arith, below, ended)) (inr (omega arith)))
    ∙ ap (map f) (sym (ap (λ k. drop (at + n) (numbers 0 k)) ended ∙ drop_numbers 0 (at + n) rest)) ∙ sym (drop-map f (at + n) (numbers 0 size)) ∙ ap (λ k. drop (at + k) (map f (numbers 0 size))) (sym long)))

-- ---- a sector of what is written over

written_at : (f : ℕ → List ℕ) (bytes : List ℕ) (at n k : ℕ) → List ℕ
written_at f bytes at n k = cond (nat_le at k && nat_lt k (at + n)) (sector bytes (k - at)) (f k)

in_written : (f : ℕ → List ℕ) (bytes : List ℕ) (at n k : ℕ) → at ≤ k → k < at + n → written_at f bytes at n k ≡ sector bytes (k - at)
unfolding written_at
in_written f bytes at n k low high = ap₂ (λ a b. cond (a && b) (sector bytes (k - at)) (f k)) (le-leb at k low) (lt-ltb k (at + n) high)

by_written : (f : ℕ → List ℕ) (bytes : List ℕ) (at n k : ℕ) → (k < at) ⊎ (at + n ≤ k) → written_at f bytes at n k ≡ f k
unfolding written_at
by_written f bytes at n k (inl low) = ap (λ a. cond (a && nat_lt k (at + n)) (sector bytes (k - at)) (f k)) (lt-leb at k low)
by_written f bytes at n k (inr high) = ap (λ b. cond (nat_le at k && b) (sector bytes (k - at)) (f k)) (le-ltb k (at + n) high) ∙ neither (nat_le at k)
  where
    neither : (a : Bool) → cond (a && false) (sector bytes (k - at)) (f k) ≡ f k
    neither true = refl
    neither false = refl

by_places : (f : ℕ → List ℕ) (bytes : List ℕ) (at n size : ℕ) → at + n ≤ size → overwritten at (cut_sectors n bytes) (map f (numbers 0 size)) ≡ map (written_at f bytes at n) (numbers 0 size)
by_places f bytes at n size fits = sym (over_written f (written_at f bytes at n) bytes at n size fits
    (λ k below. in_written f bytes at n (at + k) (omega arith) (omega (arith, below)) ∙ ap (sector bytes) (let e : at + k - at ≡ k = omega arith in e)) (λ k below apart. by_written f bytes at n k apart))

pub length_over : (f : ℕ → List ℕ) (bytes : List ℕ) (at n size : ℕ) → at + n ≤ size → length (overwritten at (cut_sectors n bytes) (map f (numbers 0 size))) ≡ size
length_over f bytes at n size fits = ap length (by_places f bytes at n size fits) ∙ length-map (numbers 0 size) (written_at f bytes at n) ∙ length-numbers 0 size

pub sector_over : (f : ℕ → List ℕ) (bytes : List ℕ) (at n size k : ℕ) → at + n ≤ size → at ≤ k → k < at + n → slice_get (overwritten at (cut_sectors n bytes) (map f (numbers 0 size))) k ≡ Some (sector bytes (k - at))
sector_over f bytes at n size k fits low high =
    ap (λ xs. slice_get xs k) (by_places f bytes at n size fits) ∙ slice_get-map (written_at f bytes at n) (numbers 0 size) k
    ∙ ap (option_map (written_at f bytes at n)) (slice-numbers 0 size k (omega (arith, high, fits))) ∙ ap (λ j. Some (written_at f bytes at n j)) (let e : 0 + k ≡ k = omega arith in e)
    ∙ ap Some (in_written f bytes at n k low high)

pub length_read : (f : ℕ → List ℕ) (size : ℕ) → length (map f (numbers 0 size)) ≡ size
length_read f size = length-map (numbers 0 size) f ∙ length-numbers 0 size
