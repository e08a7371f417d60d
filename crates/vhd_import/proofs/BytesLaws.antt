-- Bytes, and the sectors that they are cut into.
use Rattle.std.proofs.Common.{◌≡◌, ℕ, zero, suc, ◌*◌, ◌/◌, ◌%◌, ◌≤◌, ◌^◌, false, List, [], ◌∷◌, ◌++◌, length, length-append, take, drop, refl, sym, ap, ◌∙◌, arith}
use Rattle.std.specs.Prelude.{All, nat_lt, min}
use Rattle.std.specs.List.{AllByRecursion, concat}
use Rattle.std.proofs.lemmas.Bool.Decides.{nat_tests}
use Rattle.std.proofs.lemmas.List.{length-drop, length-take, take-append-drop}
use Rattle.std.proofs.lemmas.List.Elements.{All-cons, All-nil, recursion_from_All}
use Rattle.sm_machine.specs.Disks.{cut_sectors}
use Rattle.vhd_stream.specs.Files.{File, IsCutInto}
use Rattle.vhd_import.specs.Verdicts.{sector_limit}

IsLong : List ℕ → Type 0
IsLong s = length s ≡ 512

pub length-joined : (file : File) → AllByRecursion (λ s. length s ≡ 512) file → length (concat file) ≡ 512 * length file
length-joined [] whole = refl
length-joined (s ∷ file) whole = omega (arith, length-append s (concat file), length-joined file whole.1, whole.0)

pub take-front : (xs ys : List ℕ) (n : ℕ) → length xs ≡ n → take n (xs ++ ys) ≡ xs
take-front [] ys zero is = refl
take-front [] ys (suc n) is = absurd (omega (arith, is))
take-front (x ∷ xs) ys zero is = absurd (omega (arith, is))
take-front (x ∷ xs) ys (suc n) is = ap (λ (l : List ℕ). x ∷ l) (take-front xs ys n (omega (arith, is)))

pub drop-front : (xs ys : List ℕ) (n : ℕ) → length xs ≡ n → drop n (xs ++ ys) ≡ ys
drop-front [] ys zero is = refl
drop-front [] ys (suc n) is = absurd (omega (arith, is))
drop-front (x ∷ xs) ys zero is = absurd (omega (arith, is))
drop-front (x ∷ xs) ys (suc n) is = drop-front xs ys n (omega (arith, is))

pub cut-joined : (file : File) → AllByRecursion (λ s. length s ≡ 512) file → cut_sectors (length file) (concat file) ≡ file
unfolding cut_sectors
cut-joined [] whole = refl
cut-joined (s ∷ file) whole =
    ap (λ (a : List ℕ). a ∷ cut_sectors (length file) (drop 512 (s ++ concat file))) (take-front s (concat file) 512 whole.0)
    ∙ ap (λ (b : List ℕ). s ∷ cut_sectors (length file) b) (drop-front s (concat file) 512 whole.0)
    ∙ ap (λ (f : File). s ∷ f) (cut-joined file whole.1)

-- bytes that are whole sectors, at most as many as are read
pub record AreCut (bytes : List ℕ) (file : File) : Type 0 where
  pub sectors : cut_sectors (min (length bytes / 512) sector_limit) bytes ≡ file
  pub inside : nat_lt 0 (length bytes % 512) ≡ false
  pub past : nat_lt (512 * sector_limit) (length bytes) ≡ false

pub are-cut : (bytes : List ℕ) (file : File) → IsCutInto bytes file → length bytes ≤ 2 ^ 42 → AreCut bytes file
are-cut bytes file cut short =
    let whole : AllByRecursion (λ s. length s ≡ 512) file = recursion_from_All (λ s. length s ≡ 512) file cut.whole in
    let long : length bytes ≡ 512 * length file = ap (λ (b : List ℕ). length b) cut.joined ∙ length-joined file whole in
    let few : length file ≤ sector_limit = omega (arith, long, short) in
    let count : min (length bytes / 512) sector_limit ≡ length file = omega (arith, long, few) in
    record {
      sectors = ap (λ n. cut_sectors n bytes) count ∙ ap (cut_sectors (length file)) cut.joined ∙ cut-joined file whole;
      inside = let r : length bytes % 512 ≡ 0 = omega (arith, long) in rw r refl;
      past = grind (arith, nat_tests);
    }

-- ---- cut bytes are a file

length-cut : (n : ℕ) (bytes : List ℕ) → length (cut_sectors n bytes) ≡ n
unfolding cut_sectors
length-cut zero bytes = refl
length-cut (suc n) bytes = ap suc (length-cut n (drop 512 bytes))

joined-cut : (n : ℕ) (bytes : List ℕ) → length bytes ≡ 512 * n → concat (cut_sectors n bytes) ≡ bytes
unfolding cut_sectors
joined-cut zero [] is = refl
joined-cut zero (b ∷ bytes) is = absurd (omega (arith, is))
joined-cut (suc n) bytes is =
    ap (λ (l : List ℕ). take 512 bytes ++ l) (joined-cut n (drop 512 bytes) (omega (arith, length-drop 512 bytes, is))) ∙ take-append-drop 512 bytes

long-cut : (n : ℕ) (bytes : List ℕ) → length bytes ≡ 512 * n → All IsLong (cut_sectors n bytes)
unfolding cut_sectors IsLong
long-cut zero bytes is = All-nil IsLong
long-cut (suc n) bytes is =
    All-cons IsLong (take 512 bytes) (cut_sectors n (drop 512 bytes)) (omega (arith, length-take 512 bytes, is)) (long-cut n (drop 512 bytes) (omega (arith, length-drop 512 bytes, is)))

-- bytes of whole sectors are cut into a file
pub cut-is : (bytes : List ℕ) → nat_lt 0 (length bytes % 512) ≡ false → nat_lt (512 * sector_limit) (length bytes) ≡ false → IsCutInto bytes (cut_sectors (min (length bytes / 512) sector_limit) bytes)
unfolding IsLong
cut-is bytes inside past =
    let none : length bytes % 512 ≡ 0 = grind (arith, nat_tests) in
    let few : length bytes ≤ 512 * sector_limit = grind (arith, nat_tests) in
    let long : length bytes ≡ 512 * min (length bytes / 512) sector_limit = omega (arith, none, few) in
    record { joined = sym (joined-cut _ bytes long); whole = long-cut _ bytes long }
