-- A label, and a table header, is the spelling of its fields exactly where its letters, its zeros and its sum are right.
use Rattle.std.proofs.Common.{◌≡◌, ℕ, ◌+◌, ◌<◌, ◌≤◌, Bool, true, false, ◌&&◌, eqb, List, ◌++◌, length, get_or, take, drop, All, refl, sym, ap, ap₂, ◌∙◌, arith, append_assoc, ◌^◌, inl, inr}
use Rattle.std.specs.Prelude.{sum, replicate}
use Rattle.std.specs.List.{list_all}
use Rattle.std.specs.Int.{w32, from_be_bytes}
use Rattle.std.specs.Str.{bytes_eq}
use Rattle.std.proofs.lemmas.Bool.{and_parts, and_from, eqb-true, eq-eqb, cases_lt}
use Rattle.std.proofs.lemmas.Nat.{be_bytes_4, from_be_bytes-to_be_bytes_4}
use Rattle.std.proofs.lemmas.List.{take_at, drop_at, take_all, get_or_past, length-take, length-drop, length-append, length-replicate}
use Rattle.std.proofs.lemmas.List.Elements.{All-take, All-drop, All-get_or}
use Rattle.std.proofs.lemmas.Slice.Eq.{bytes_eq-Decides}
use Rattle.sm_disk.specs.Sectors.{IsSector}
use Rattle.sm_record.proofs.Fields.{cut, at_is, length-at, is_zeros-zeros, zeros_from, sum_fits}
use Rattle.vg_layout.specs.Sectors.{number, number_at, label_cookie, header_cookie, sealed, label_front, label_sector, header_front, header_sector, plate_in, pointer_in}

-- so many bytes from an offset on
abbrev at : ℕ → ℕ → List ℕ → List ℕ
at from count s = take count (drop from s)

abbrev are_zeros : List ℕ → Bool
are_zeros bytes = list_all (λ b. eqb b 0) bytes

byte_below : (bytes : List ℕ) → All (λ b. b < 256) bytes → (i : ℕ) → get_or bytes i 0 < 256
byte_below bytes h i =
    elim (cases_lt i (length bytes)) [
      | inl lt ↦ All-get_or (λ b. b < 256) bytes i 0 lt h
      | inr le ↦ rw (get_or_past bytes i 0 le) (omega arith)
    ]

same_from : (a b : Bool) → (a ≡ true → b ≡ true) → (b ≡ true → a ≡ true) → a ≡ b
same_from true b there back = sym (there refl)
same_from false true there back = back refl
same_from false false there back = refl

-- ---- numbers and the sum

-- the number at an offset is spelled by its four bytes
number_is : (from : ℕ) (s : List ℕ) → IsSector s → from + 4 ≤ 512 → number (number_at from s) ≡ at from 4 s
number_is from s sector le =
    be_bytes_4 (at from 4 s) (number_at from s) (length-at from 4 s (omega (arith, sector.long)))
    (λ i. byte_below (at from 4 s) (All-take (λ b. b < 256) 4 (drop from s) (All-drop (λ b. b < 256) from s sector.bytes)) i) refl

-- the four bytes behind a sector's first 508 are all that is behind them
end_is : (s : List ℕ) → IsSector s → at 508 4 s ≡ drop 508 s
end_is s sector = take_all 4 (drop 508 s) (omega (arith, length-drop 508 s, sector.long))

-- a sector whose sum is right is sealed
sealed_from : (s front : List ℕ) → IsSector s → s ≡ front ++ drop 508 s → sum (at 0 508 s) ≡ number_at 508 s → s ≡ sealed front
unfolding sealed
sealed_from s front sector parts e =
    let back = drop 508 s in
    let long : length front ≡ 508 = omega (arith, ap length parts, length-append front back, length-drop 508 s, sector.long) in
    let same : take 508 s ≡ front = ap (take 508) parts ∙ take_at front back 508 long in
    let end : back ≡ number (sum front) = sym (end_is s sector) ∙ sym (number_is 508 s sector (omega arith)) ∙ ap number (sym e) ∙ ap (λ (x : List ℕ). number (sum x)) same in
    parts ∙ ap (λ (x : List ℕ). front ++ x) end

-- and a sealed sector's sum is right
sum_right : (s front : List ℕ) → IsSector s → s ≡ sealed front → sum (at 0 508 s) ≡ number_at 508 s
unfolding sealed
sum_right s front sector is =
    let long : length front ≡ 508 = omega (arith, ap length is, length-append front (number (sum front)), sector.long) in
    let same : take 508 s ≡ front = ap (take 508) is ∙ take_at front (number (sum front)) 508 long in
    let end : at 508 4 s ≡ number (sum front) = end_is s sector ∙ ap (drop 508) is ∙ drop_at front (number (sum front)) 508 long in
    let small : sum (take 508 s) < 2 ^ 32 = sum_fits (take 508 s) (omega (arith, length-take 508 s)) (All-take (λ b. b < 256) 508 s sector.bytes) in
    let back : number_at 508 s ≡ sum (take 508 s) = ap (from_be_bytes w32) (end ∙ ap (λ (x : List ℕ). number (sum x)) (sym same)) ∙ from_be_bytes-to_be_bytes_4 (sum (take 508 s)) small in
    sym back

-- ---- the label

nine : (a b c d e f g h i j : List ℕ) → a ++ (b ++ (c ++ (d ++ (e ++ (f ++ (g ++ (h ++ (i ++ j)))))))) ≡ (a ++ (b ++ (c ++ (d ++ (e ++ (f ++ (g ++ (h ++ i)))))))) ++ j
nine a b c d e f g h i j = simp append_assoc

eight : (a b c d e f g h i j : List ℕ) → (a ++ (b ++ (c ++ (d ++ (e ++ (f ++ (g ++ (h ++ i)))))))) ++ j ≡ (a ++ (b ++ (c ++ (d ++ (e ++ (f ++ (g ++ h))))))) ++ (i ++ j)
eight a b c d e f g h i j = simp append_assoc

label_spelled : (s : List ℕ) → IsSector s → at 0 8 s ≡ label_cookie → are_zeros (at 48 460 s) ≡ true → sum (at 0 508 s) ≡ number_at 508 s
    → s ≡ label_sector (number_at 8 s) (plate_in s)
unfolding label_sector label_front plate_in
label_spelled s sector cookie zeros total =
    let back = drop 508 s in
    let join = λ (x y : List ℕ). x ++ y in
    let filled : at 48 460 s ≡ replicate 460 0 = zeros_from (at 48 460 s) zeros ∙ ap (λ (n : ℕ). replicate n 0) (length-at 48 460 s (omega (arith, sector.long))) in
    let d48 = cut 48 460 s ∙ ap (λ (x : List ℕ). x ++ back) filled in
    let d44 = cut 44 4 s ∙ ap₂ join (sym (number_is 44 s sector (omega arith))) d48 in
    let d40 = cut 40 4 s ∙ ap₂ join (sym (number_is 40 s sector (omega arith))) d44 in
    let d36 = cut 36 4 s ∙ ap₂ join (sym (number_is 36 s sector (omega arith))) d40 in
    let d32 = cut 32 4 s ∙ ap₂ join (sym (number_is 32 s sector (omega arith))) d36 in
    let d28 = cut 28 4 s ∙ ap₂ join (sym (number_is 28 s sector (omega arith))) d32 in
    let d12 = cut 12 16 s ∙ ap (λ (x : List ℕ). at 12 16 s ++ x) d28 in
    let d8 = cut 8 4 s ∙ ap₂ join (sym (number_is 8 s sector (omega arith))) d12 in
    let d0 = cut 0 8 s ∙ ap₂ join cookie d8 in
    let parts : s ≡ label_front (number_at 8 s) (plate_in s) ++ back =
    d0 ∙ nine label_cookie (number (number_at 8 s)) (at 12 16 s) (number (number_at 28 s)) (number (number_at 32 s)) (number (number_at 36 s)) (number (number_at 40 s)) (number (number_at 44 s)) (replicate 460 0) back in
    sealed_from s (label_front (number_at 8 s) (plate_in s)) sector parts total

label_zeros : (s : List ℕ) → IsSector s → s ≡ label_sector (number_at 8 s) (plate_in s) → are_zeros (at 48 460 s) ≡ true
unfolding label_sector label_front plate_in sealed
label_zeros s sector is =
    let id = at 12 16 s in
    let front = label_cookie ++ (number (number_at 8 s) ++ (id ++ (number (number_at 28 s) ++ (number (number_at 32 s) ++ (number (number_at 36 s) ++ (number (number_at 40 s) ++ number (number_at 44 s))))))) in
    let end = number (sum (label_front (number_at 8 s) (plate_in s))) in
    let regrouped : s ≡ front ++ (replicate 460 0 ++ end) =
    is ∙ eight label_cookie (number (number_at 8 s)) id (number (number_at 28 s)) (number (number_at 32 s)) (number (number_at 36 s)) (number (number_at 40 s)) (number (number_at 44 s)) (replicate 460 0) end in
    let long : length id ≡ 16 = length-at 12 16 s (omega (arith, sector.long)) in
    let tail : List ℕ = number (number_at 28 s) ++ (number (number_at 32 s) ++ (number (number_at 36 s) ++ (number (number_at 40 s) ++ number (number_at 44 s)))) in
    let size : length front ≡ 48 = omega (arith, long, length-append id tail) in
    let there : at 48 460 s ≡ replicate 460 0 = ap (at 48 460) regrouped ∙ at_is 48 460 front (replicate 460 0) end size (length-replicate {A = ℕ} 460 0) in
    ap are_zeros there ∙ is_zeros-zeros 460

label_total : (s : List ℕ) → IsSector s → s ≡ label_sector (number_at 8 s) (plate_in s) → sum (at 0 508 s) ≡ number_at 508 s
unfolding label_sector
label_total s sector is = sum_right s (label_front (number_at 8 s) (plate_in s)) sector is

-- behind its letters, a label is the spelling of its version and its fields where its zeros and its sum are right
pub label_same : (s : List ℕ) → IsSector s → take 8 s ≡ label_cookie
    → (are_zeros (at 48 460 s) && eqb (sum (at 0 508 s)) (number_at 508 s)) ≡ bytes_eq s (label_sector (number_at 8 s) (plate_in s))
label_same s sector cookie =
    let label = label_sector (number_at 8 s) (plate_in s) in
    same_from (are_zeros (at 48 460 s) && eqb (sum (at 0 508 s)) (number_at 508 s)) (bytes_eq s label)
    (λ h. let p = and_parts (are_zeros (at 48 460 s)) (eqb (sum (at 0 508 s)) (number_at 508 s)) h in
    (bytes_eq-Decides s label).1 (label_spelled s sector cookie p.0 (eqb-true (sum (at 0 508 s)) (number_at 508 s) p.1)))
    (λ h. let is = (bytes_eq-Decides s label).0 h in
    and_from (are_zeros (at 48 460 s)) (eqb (sum (at 0 508 s)) (number_at 508 s)) (label_zeros s sector is)
    (eq-eqb (sum (at 0 508 s)) (number_at 508 s) (label_total s sector is)))

-- ---- the header

five : (a b c d e f : List ℕ) → a ++ (b ++ (c ++ (d ++ (e ++ f)))) ≡ (a ++ (b ++ (c ++ (d ++ e)))) ++ f
five a b c d e f = simp append_assoc

four : (a b c d e f : List ℕ) → (a ++ (b ++ (c ++ (d ++ e)))) ++ f ≡ (a ++ (b ++ (c ++ d))) ++ (e ++ f)
four a b c d e f = simp append_assoc

header_spelled : (s : List ℕ) → IsSector s → at 0 8 s ≡ header_cookie → are_zeros (at 20 488 s) ≡ true → sum (at 0 508 s) ≡ number_at 508 s
    → s ≡ header_sector (pointer_in s)
unfolding header_sector header_front pointer_in
header_spelled s sector cookie zeros total =
    let back = drop 508 s in
    let join = λ (x y : List ℕ). x ++ y in
    let filled : at 20 488 s ≡ replicate 488 0 = zeros_from (at 20 488 s) zeros ∙ ap (λ (n : ℕ). replicate n 0) (length-at 20 488 s (omega (arith, sector.long))) in
    let d20 = cut 20 488 s ∙ ap (λ (x : List ℕ). x ++ back) filled in
    let d16 = cut 16 4 s ∙ ap₂ join (sym (number_is 16 s sector (omega arith))) d20 in
    let d12 = cut 12 4 s ∙ ap₂ join (sym (number_is 12 s sector (omega arith))) d16 in
    let d8 = cut 8 4 s ∙ ap₂ join (sym (number_is 8 s sector (omega arith))) d12 in
    let d0 = cut 0 8 s ∙ ap₂ join cookie d8 in
    let parts : s ≡ header_front (pointer_in s) ++ back =
    d0 ∙ five header_cookie (number (number_at 8 s)) (number (number_at 12 s)) (number (number_at 16 s)) (replicate 488 0) back in
    sealed_from s (header_front (pointer_in s)) sector parts total

record HeaderParts (s : List ℕ) : Type 0 where
  cookie : at 0 8 s ≡ header_cookie
  zeros : are_zeros (at 20 488 s) ≡ true
  total : sum (at 0 508 s) ≡ number_at 508 s

header_parts : (s : List ℕ) → IsSector s → s ≡ header_sector (pointer_in s) → HeaderParts s
unfolding header_sector header_front pointer_in sealed
header_parts s sector is =
    let front = header_cookie ++ (number (number_at 8 s) ++ (number (number_at 12 s) ++ number (number_at 16 s))) in
    let end = number (sum (header_front (pointer_in s))) in
    let regrouped : s ≡ front ++ (replicate 488 0 ++ end) =
    is ∙ four header_cookie (number (number_at 8 s)) (number (number_at 12 s)) (number (number_at 16 s)) (replicate 488 0) end in
    let there : at 20 488 s ≡ replicate 488 0 = ap (at 20 488) regrouped ∙ at_is 20 488 front (replicate 488 0) end refl (length-replicate {A = ℕ} 488 0) in
    record {
      cookie = ap (take 8) is;
      zeros = ap are_zeros there ∙ is_zeros-zeros 488;
      total = sum_right s (header_front (pointer_in s)) sector is;
    }

-- a header is the spelling of its fields where its letters, its zeros and its sum are right
pub header_same : (s : List ℕ) → IsSector s
    → (bytes_eq (take 8 s) header_cookie && (are_zeros (at 20 488 s) && eqb (sum (at 0 508 s)) (number_at 508 s))) ≡ bytes_eq s (header_sector (pointer_in s))
header_same s sector =
    let cookies = bytes_eq (take 8 s) header_cookie in
    let zeros = are_zeros (at 20 488 s) in
    let total = eqb (sum (at 0 508 s)) (number_at 508 s) in
    same_from (cookies && (zeros && total)) (bytes_eq s (header_sector (pointer_in s)))
    (λ h. let p = and_parts cookies (zeros && total) h in
    let q = and_parts zeros total p.1 in
    (bytes_eq-Decides s (header_sector (pointer_in s))).1 (header_spelled s sector ((bytes_eq-Decides (take 8 s) header_cookie).0 p.0) q.0 (eqb-true (sum (at 0 508 s)) (number_at 508 s) q.1)))
    (λ h. let parts = header_parts s sector ((bytes_eq-Decides s (header_sector (pointer_in s))).0 h) in
    and_from cookies (zeros && total) ((bytes_eq-Decides (take 8 s) header_cookie).1 parts.cookie)
    (and_from zeros total parts.zeros (eq-eqb (sum (at 0 508 s)) (number_at 508 s) parts.total)))
