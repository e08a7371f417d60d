-- ASCII characters in UTF-16, and back.
use Rattle.std.proofs.Common.{◌≡◌, ℕ, zero, suc, ◌+◌, ◌-◌, ◌*◌, ◌<◌, ◌≤◌, List, [], ◌∷◌, ◌++◌, length, get_or, set, take, drop, replicate, refl, sym, ap, ◌∙◌, append_assoc, arith}
use Rattle.std.proofs.lemmas.List.{length-take-le, take_more, set-append_right, replicate-append-replicate, drop-replicate}
use Rattle.vhd_fields.specs.ParentNames.{utf16, low_bytes}

pub utf16-append : (xs ys : List ℕ) → utf16 (xs ++ ys) ≡ utf16 xs ++ utf16 ys
unfolding utf16
utf16-append [] ys = refl
utf16-append (x ∷ xs) ys = ap (λ (rest : List ℕ). 0 ∷ x ∷ rest) (utf16-append xs ys)

pub length-utf16 : (xs : List ℕ) → length (utf16 xs) ≡ 2 * length xs
unfolding utf16
length-utf16 [] = refl
length-utf16 (x ∷ xs) = omega (arith, length-utf16 xs)

utf16-zeros : (n : ℕ) → utf16 (replicate n 0) ≡ replicate (2 * n) 0
unfolding utf16
utf16-zeros zero = refl
utf16-zeros (suc n) =
    let two : 2 * suc n ≡ suc (suc (2 * n)) = omega arith in
    rw two (ap (λ (rest : List ℕ). 0 ∷ 0 ∷ rest) (utf16-zeros n))

-- the characters of a text come back, whatever follows
pub low_bytes-utf16 : (xs ys : List ℕ) → low_bytes (utf16 xs ++ ys) ≡ xs ++ low_bytes ys
unfolding utf16 low_bytes
low_bytes-utf16 [] ys = refl
low_bytes-utf16 (x ∷ xs) ys = ap (λ (rest : List ℕ). x ∷ rest) (low_bytes-utf16 xs ys)

-- a character stands in the second byte of its pair
pub character_at : (xs ys : List ℕ) (k : ℕ) → k < length xs → get_or (utf16 xs ++ ys) (2 * k + 1) 0 ≡ get_or xs k 0
unfolding utf16
character_at [] ys k within = absurd (omega arith)
character_at (x ∷ xs) ys zero within = refl
character_at (x ∷ xs) ys (suc k) within =
    let two : 2 * suc k + 1 ≡ suc (suc (2 * k + 1)) = omega arith in
    rw two (character_at xs ys k (omega arith))

two_zeros : (n : ℕ) → 2 ≤ n → replicate {A = ℕ} n 0 ≡ 0 ∷ 0 ∷ replicate {A = ℕ} (n - 2) 0
two_zeros n some =
    let e : n ≡ suc (suc (n - 2)) = omega arith in
    ap (λ (k : ℕ). replicate {A = ℕ} k 0) e

-- one character more
pub one_more : (text : List ℕ) (unit : ℕ) → unit < length text → unit < 256 → set (utf16 (take unit text) ++ replicate (512 - 2 * unit) 0) (2 * unit + 1) (get_or text unit 0) ≡ utf16 (take (unit + 1) text) ++ replicate (512 - 2 * (unit + 1)) 0
unfolding utf16
one_more text unit within small =
    let front = utf16 (take unit text) in
    let character = get_or text unit 0 in
    let front_long : length front ≡ 2 * unit = omega (arith, length-utf16 (take unit text), length-take-le unit text (omega arith)) in
    let room : replicate {A = ℕ} (512 - 2 * unit) 0 ≡ 0 ∷ 0 ∷ replicate (512 - 2 * unit - 2) 0 = two_zeros (512 - 2 * unit) (omega arith) in
    let left : 512 - 2 * unit - 2 ≡ 512 - 2 * (unit + 1) = omega arith in
    let place : 2 * unit + 1 - 2 * unit ≡ 1 = omega arith in
    let written : set (front ++ replicate (512 - 2 * unit) 0) (2 * unit + 1) character ≡ front ++ set (replicate (512 - 2 * unit) 0) (2 * unit + 1 - 2 * unit) character =
    set-append_right front (replicate (512 - 2 * unit) 0) (2 * unit) (2 * unit + 1) character front_long (omega arith) in
    let longer : utf16 (take (unit + 1) text) ≡ front ++ 0 ∷ character ∷ [] = ap utf16 (take_more text unit 0 within) ∙ utf16-append (take unit text) (character ∷ []) in
    written ∙ rw (place, room, left, longer) (sym (append_assoc front (0 ∷ character ∷ []) (replicate (512 - 2 * (unit + 1)) 0)))

-- a text and the zeros behind it
pub all_written : (text buffer : List ℕ) → length text ≤ 116 → buffer ≡ text ++ drop (length text) (replicate 128 0) → utf16 buffer ++ replicate 256 0 ≡ utf16 text ++ replicate (512 - 2 * length text) 0
all_written text buffer small is =
    let zeros : buffer ≡ text ++ replicate (128 - length text) 0 = is ∙ ap (λ (rest : List ℕ). text ++ rest) (drop-replicate (length text) 128 0) in
    let spread : utf16 buffer ≡ utf16 text ++ replicate (2 * (128 - length text)) 0 =
    ap utf16 zeros ∙ utf16-append text (replicate (128 - length text) 0) ∙ ap (λ (rest : List ℕ). utf16 text ++ rest) (utf16-zeros (128 - length text)) in
    let count : 2 * (128 - length text) + 256 ≡ 512 - 2 * length text = omega arith in
    rw (spread, append_assoc (utf16 text) (replicate (2 * (128 - length text)) 0) (replicate 256 0), replicate-append-replicate {A = ℕ} (2 * (128 - length text)) 256 0, count) refl
