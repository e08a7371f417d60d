-- The place at which something is put into a list in order, whatever the order.
use Rattle.std.proofs.Common.{◌≡◌, ℕ, suc, ◌+◌, ◌<◌, ◌≤◌, Bool, true, false, List, [], ◌∷◌, ◌++◌, length, get_or, take, drop, drop-cons, add-one, refl, sym, ap, ◌∙◌, append_assoc}
use Rattle.std.proofs.Math.Seq.{take-length, drop-length}
use Rattle.std.proofs.lemmas.List.{take_all, drop_all}
use Rattle.common_laws.specs.Lists.{insert_by}
use Rattle.common_laws.proofs.Lists.{take_next}

-- it is put in at or behind this place
abbrev pub IsPast : {A : Type 0} → (A → A → Bool) → List A → A → ℕ → Type 0
IsPast before xs x i = take i xs ++ insert_by before x (drop i xs) ≡ insert_by before x xs

module _ {A : Type 0} (before : A → A → Bool) (xs : List A) (x : A) (i : ℕ) where
  opened : (y : A) → i < length xs → y ≡ get_or xs i y → drop i xs ≡ y ∷ drop (i + 1) xs
  opened y lt is = rw (add-one) (drop-cons xs i y lt ∙ ap (λ (z : A). z ∷ drop (suc i) xs) (sym is))

  pub past_more : (y : A) → i < length xs → y ≡ get_or xs i y → before x y ≡ false → IsPast before xs x i → IsPast before xs x (i + 1)
  unfolding insert_by
  past_more y lt is behind p =
      let rest = insert_by before x (drop (i + 1) xs) in
      let back : insert_by before x (drop i xs) ≡ y ∷ rest = ap (insert_by before x) (opened y lt is) ∙ (rw behind refl) in
      ap (λ (l : List A). l ++ rest) (take_next xs i y lt is) ∙ append_assoc (take i xs) (y ∷ []) rest ∙ ap (λ (l : List A). take i xs ++ l) (sym back) ∙ p

  pub put_here : (y : A) → i < length xs → y ≡ get_or xs i y → before x y ≡ true → IsPast before xs x i → take i xs ++ x ∷ drop i xs ≡ insert_by before x xs
  unfolding insert_by
  put_here y lt is first p =
      let back : insert_by before x (drop i xs) ≡ x ∷ drop i xs = ap (insert_by before x) (opened y lt is) ∙ (rw first refl) ∙ ap (λ (l : List A). x ∷ l) (sym (opened y lt is)) in
      ap (λ (l : List A). take i xs ++ l) (sym back) ∙ p

  pub put_at_end : length xs ≤ i → IsPast before xs x i → take (length xs) xs ++ x ∷ drop (length xs) xs ≡ insert_by before x xs
  unfolding insert_by
  put_at_end le p =
      let front : take (length xs) xs ≡ take i xs = take-length xs ∙ sym (take_all i xs le) in
      rw (front, drop-length xs) (ap (λ (l : List A). take i xs ++ l) (sym (ap (insert_by before x) (drop_all i xs le))) ∙ p)
