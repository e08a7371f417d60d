-- Parts that are made of the numbers of a range, one after the other.
use Rattle.std.proofs.Common.{◌≡◌, ℕ, zero, suc, ◌+◌, ◌<◌, ◌≤◌, List, [], ◌∷◌, ◌++◌, length, map, drop, get_or, refl, sym, ap, ◌∙◌, append_assoc, arith}
use Rattle.std.specs.List.{concat, flat_map, range_with_len}
use Rattle.std.proofs.lemmas.List.{append-nil}
use Rattle.std.proofs.lemmas.List.Concat.{flat_map-append}
use Rattle.std.proofs.lemmas.List.FromFn.{length-range_with_len, get_or-range_with_len}
use Rattle.sm_script.proofs.PieceLaws.{parts_at}
use Rattle.vhd_stream.proofs.PieceLaws.{take-range}

range-more : (a n : ℕ) → range_with_len a (suc n) ≡ range_with_len a n ++ (a + n) ∷ []
range-more a zero = ap (λ (k : ℕ). k ∷ []) (let e : a ≡ a + 0 = omega arith in e)
range-more a (suc n) = ap (λ (l : List ℕ). a ∷ l) (range-more (a + 1) n ∙ ap (λ (k : ℕ). range_with_len (a + 1) n ++ k ∷ []) (let e : a + 1 + n ≡ a + suc n = omega arith in e))

-- the parts of a range with one number more
pub flat-more : {A : Type 0} (f : ℕ → List A) (a n b m : ℕ) → b ≡ a + n → m ≡ n + 1 → flat_map f (range_with_len a n) ++ f b ≡ flat_map f (range_with_len a m)
flat-more f a n b m last more =
    ap (λ k. flat_map f (range_with_len a n) ++ f k) last
    ∙ ap (λ l. flat_map f (range_with_len a n) ++ l) (sym (append-nil (f (a + n))))
    ∙ sym (flat_map-append f (range_with_len a n) ((a + n) ∷ []))
    ∙ sym (ap (flat_map f) (range-more a n))
    ∙ ap (λ k. flat_map f (range_with_len a k)) (let e : suc n ≡ m = omega (arith, more) in e)

-- the part of a number, between those in front of it and those behind it
pub flat-at : (f : ℕ → List ℕ) (n b : ℕ) → b < n → flat_map f (range_with_len 0 b) ++ (f b ++ flat_map f (drop (b + 1) (range_with_len 0 n))) ≡ flat_map f (range_with_len 0 n)
flat-at f n b within =
    let xs = range_with_len 0 n in
    let long : b < length xs = omega (arith, within, length-range_with_len 0 n) in
    let short : b ≤ n = omega arith in
    let same : 0 + b ≡ b = omega arith in
    let is : b ≡ get_or xs b b = sym (get_or-range_with_len 0 n b b within ∙ same) in
    ap (λ l. flat_map f l ++ (f b ++ flat_map f (drop (b + 1) xs))) (sym (take-range 0 n b short)) ∙ parts_at f xs b b long is

-- bytes of parts that are joined
pub concat-append : (xs ys : List (List ℕ)) → concat (xs ++ ys) ≡ concat xs ++ concat ys
concat-append [] ys = refl
concat-append (x ∷ xs) ys = ap (λ l. x ++ l) (concat-append xs ys) ∙ sym (append_assoc x (concat xs) (concat ys))

pub concat-map : (f : ℕ → List ℕ) (xs : List ℕ) → concat (map f xs) ≡ flat_map f xs
concat-map f [] = refl
concat-map f (x ∷ xs) = ap (λ l. f x ++ l) (concat-map f xs)

pub concat-flat : (f : ℕ → List (List ℕ)) (xs : List ℕ) → concat (flat_map f xs) ≡ flat_map (λ b. concat (f b)) xs
concat-flat f [] = refl
concat-flat f (x ∷ xs) = concat-append (f x) (flat_map f xs) ∙ ap (λ l. concat (f x) ++ l) (concat-flat f xs)
