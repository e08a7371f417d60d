-- One field at a time: what reads as a value is what is written for it, and what is written for it reads so.
use Rattle.std.proofs.Common.{◌≡◌, ℕ, zero, suc, ◌+◌, ◌-◌, ◌^◌, ◌<◌, ◌≤◌, Bool, true, false, cond, ◌&&◌, eqb, leb, List, [], ◌∷◌, ◌++◌, length, get_or, take, drop, All, Option, Some, None, refl, sym, ap, ◌∙◌, arith}
use Rattle.std.specs.Prelude.{sum, IfSome}
use Rattle.std.specs.List.{list_all}
use Rattle.std.proofs.lemmas.Bool.{eqb-true, and_parts, leb-true}
use Rattle.std.proofs.lemmas.List.{take-append-drop, drop-drop, take_at, drop_at, length-take, length-drop}
use Rattle.std.proofs.lemmas.List.Sums.{sum_by-le, AllPass-from_list_all}
use Rattle.std.proofs.lemmas.List.Elements.{All-weaker, All-from_get_or}
use Rattle.std.proofs.lemmas.Option.{none-some}
use Rattle.std.proofs.lemmas.Slice.Eq.{bytes_eq-Decides}
use Rattle.uuid.specs.Parts.{is_nil_bytes, zero_bytes}
use Rattle.sm_base.specs.Labels.{is_label, is_label_byte}
use Rattle.sm_record.specs.Records.{zeros, is_zeros, at, given, origin_bytes, flag_byte, flag_of, label_of, ◌>>=◌}

-- ---- parts of a sector

-- the next bytes, and what is behind them
pub cut : (from count : ℕ) (s : List ℕ) → drop from s ≡ at from count s ++ drop (from + count) s
cut from count s = sym (take-append-drop count (drop from s)) ∙ ap (λ (x : List ℕ). take count (drop from s) ++ x) (drop-drop count from s)

-- the field between what stands before it and behind it
pub at_is : (from count : ℕ) (front field back : List ℕ) → length front ≡ from → length field ≡ count → at from count (front ++ (field ++ back)) ≡ field
at_is from count front field back a b = ap (λ (x : List ℕ). take count x) (drop_at front (field ++ back) from a) ∙ take_at field back count b

pub length-at : (from count : ℕ) (s : List ℕ) → from + count ≤ length s → length (at from count s) ≡ count
length-at from count s le = omega (arith, length-take count (drop from s), length-drop from s)

-- ---- zeros

pub is_zeros-zeros : (n : ℕ) → is_zeros (zeros n) ≡ true
is_zeros-zeros zero = refl
is_zeros-zeros (suc n) = is_zeros-zeros n

pub zeros_from : (bytes : List ℕ) → is_zeros bytes ≡ true → bytes ≡ zeros (length bytes)
zeros_from [] h = refl
zeros_from (b ∷ bytes) h =
    let p = and_parts (eqb b 0) (is_zeros bytes) h in
    let b-is : b ≡ 0 = eqb-true b 0 p.0 in
    rw b-is (ap (λ (x : List ℕ). 0 ∷ x) (zeros_from bytes p.1))

-- ---- a UUID

pub given_from : (u v : List ℕ) → given u ≡ Some v → (u ≡ v) × (is_nil_bytes v ≡ false)
given_from u v h = go (is_nil_bytes u) refl h
  where
    go : (b : Bool) → is_nil_bytes u ≡ b → cond b None (Some u) ≡ Some v → (u ≡ v) × (is_nil_bytes v ≡ false)
    go true e h = absurd cc
    go false e h = let same : u ≡ v = cc in (same, rw (← same) e)

pub given_again : (u : List ℕ) → is_nil_bytes u ≡ false → given u ≡ Some u
given_again u h = rw h refl

nil_is : (u : List ℕ) → is_nil_bytes u ≡ true → u ≡ zeros 16
nil_is u h = (bytes_eq-Decides u zero_bytes).0 h

-- sixteen bytes are an origin's, or those of none
pub origin_from : (u : List ℕ) → (origin_bytes (given u) ≡ u) × IfSome (given u) (λ v. (v ≡ u) × (is_nil_bytes v ≡ false))
origin_from u = go (is_nil_bytes u) refl
  where
    go : (b : Bool) → is_nil_bytes u ≡ b → (origin_bytes (cond b None (Some u)) ≡ u) × IfSome (cond b None (Some u)) (λ v. (v ≡ u) × (is_nil_bytes v ≡ false))
    go true e = (sym (nil_is u e), tt)
    go false e = (refl, (refl, e))

pub origin_again : (o : Option (List ℕ)) → IfSome o (λ u. is_nil_bytes u ≡ false) → given (origin_bytes o) ≡ o
origin_again None h = refl
origin_again (Some u) h = given_again u h

-- ---- the flag

pub flag_from : (b : ℕ) (f : Bool) → flag_of b ≡ Some f → b ≡ flag_byte f
flag_from b f h = go (eqb b 0) (eqb b 1) refl refl h
  where
    go : (x y : Bool) → eqb b 0 ≡ x → eqb b 1 ≡ y → cond x (Some false) (cond y (Some true) None) ≡ Some f → b ≡ flag_byte f
    go true y p q h = let e : f ≡ false = cc in rw e (eqb-true b 0 p)
    go false true p q h = let e : f ≡ true = cc in rw e (eqb-true b 1 q)
    go false false p q h = absurd (none-some f h)

pub flag_again : (f : Bool) → flag_of (flag_byte f) ≡ Some f
flag_again true = refl
flag_again false = refl

-- ---- the label

pub record LabelStands (count : ℕ) (bytes text : List ℕ) : Type 0 where
  pub front : take count bytes ≡ text
  pub filled : drop count bytes ≡ zeros (length bytes - count)
  pub label : is_label text ≡ true

pub label_from : (count : ℕ) (bytes text : List ℕ) → label_of count bytes ≡ Some text → LabelStands count bytes text
unfolding label_of
label_from count bytes text h = go (is_label (take count bytes)) (is_zeros (drop count bytes)) refl refl h
  where
    go : (a b : Bool) → is_label (take count bytes) ≡ a → is_zeros (drop count bytes) ≡ b → cond (a && b) (Some (take count bytes)) None ≡ Some text → LabelStands count bytes text
    go false b p q h = absurd cc
    go true false p q h = absurd cc
    go true true p q h =
        let same : take count bytes ≡ text = cc in
        record {
          front = same;
          filled = zeros_from (drop count bytes) q ∙ ap zeros (length-drop count bytes);
          label = rw (← same) p;
        }

pub label_again : (text : List ℕ) (n : ℕ) → is_label text ≡ true → label_of (length text) (text ++ zeros n) ≡ Some text
unfolding label_of
label_again text n h =
    rw (take_at text (zeros n) (length text) refl, drop_at text (zeros n) (length text) refl, h, is_zeros-zeros n) refl

pub record LabelFacts (text : List ℕ) : Type 0 where
  pub least : 1 ≤ length text
  pub most : length text ≤ 64
  pub bytes : All (λ b. b < 256) text

pub label_facts : (text : List ℕ) → is_label text ≡ true → LabelFacts text
label_facts text h =
    let p = and_parts (leb 1 (length text) && leb (length text) 64) (list_all is_label_byte text) h in
    let q = and_parts (leb 1 (length text)) (leb (length text) 64) p.0 in
    record {
      least = leb-true _ _ q.0;
      most = leb-true _ _ q.1;
      bytes = All-weaker (λ b. is_label_byte b ≡ true) (λ b. b < 256) (λ b h. let r = and_parts (leb 33 b) (leb b 126) h in let m = leb-true b 126 r.1 in omega arith) text (AllPass-from_list_all is_label_byte text p.1);
    }

-- ---- steps

pub bind_from : {A B : Type 0} (o : Option A) (f : A → Option B) (y : B) → (o >>= f) ≡ Some y → (x : A) × (o ≡ Some x) × (f x ≡ Some y)
bind_from (Some x) f y e = (x, refl, e)
bind_from None f y e = absurd cc

pub guard_from : {A : Type 0} (b : Bool) (x y : A) → cond b (Some x) None ≡ Some y → (b ≡ true) × (x ≡ y)
guard_from true x y e = (refl, cc)
guard_from false x y e = absurd cc

-- ---- the sum

pub sum_fits : (bytes : List ℕ) → length bytes ≤ 508 → All (λ b. b < 256) bytes → sum bytes < 2 ^ 32
sum_fits bytes long fits = omega (arith, sum_by-le (λ x. x) 255 bytes (All-weaker (λ b. b < 256) (λ b. b ≤ 255) (λ x h. omega arith) bytes fits))

-- ---- what the types of the program give

pub bytes_are : (bytes : List ℕ) → ((i : ℕ) → get_or bytes i 0 < 256) → All (λ b. b < 256) bytes
bytes_are bytes h = All-from_get_or (λ b. b < 256) bytes 0 (λ i lt. h i)

pub bytes_of : (bytes other : List ℕ) → bytes ≡ other → ((i : ℕ) → get_or bytes i 0 < 256) → All (λ b. b < 256) other
bytes_of bytes other e h = rw (← e) (bytes_are bytes h)
