-- A text that is written piece by piece.
use Rattle.std.proofs.Common.{◌≡◌, ℕ, ◌+◌, ◌<◌, ◌≤◌, List, [], ◌∷◌, ◌++◌, length, length-append, append_assoc, map, take, drop, get_or, Option, Result, Ok, Err, OnOk, OnErr, arith, refl, sym, ap, subst, ◌∙◌}
use Rattle.std.specs.List.{flat_map, join_with_byte}
use Rattle.std.proofs.Math.Seq.{take-append-add}
use Rattle.std.proofs.lemmas.List.{take-append-le, take-append-drop, take_more, at_drop_more, append-nil}
use Rattle.std.proofs.lemmas.List.Concat.{flat_map-append}
use Rattle.sm_base.specs.declared.faults.Failed.{Failed}
use Rattle.std.specs.Prelude.{IsErr, ⊤}
use Rattle.sm_disk.specs.Held.{IsCounted, Rose}
use Rattle.sm_disk.specs.Streams.{Adds, AddsFront}
use Rattle.sm_disk.proofs.StreamLaws.{Adds-none, Adds-then}
use Rattle.sm_script.specs.Pieces.{Writes, led}

pub Writes-same : {text other : List ℕ} {had has : Option (List ℕ)} {before now : ℕ} {r : Result ⊤ Failed} → text ≡ other
    → Writes text had has before now r → Writes other had has before now r
Writes-same {text} {other} {had} {has} {before} {now} {r} e w =
    let P : List ℕ → Type 0 = λ t. Writes t had has before now r in subst P e w

-- nothing was to be written
pub Writes-none : (had : Option (List ℕ)) (before : ℕ) (u : ⊤) → Writes [] had had before before (Ok u)
Writes-none had before u = record {
  adds = Adds-none had;
  front = tt;
  counts = omega arith;
  cause = (tt, refl);
}

-- one text was written, and then another was to be
pub Writes-after : (first : List ℕ) {second : List ℕ} {had mid has : Option (List ℕ)} {before between now : ℕ} {r : Result ⊤ Failed}
    → Writes second mid has between now r → Adds had first mid → between ≡ before → Writes (first ++ second) had has before now r
Writes-after first {second} {had} {mid} {has} {before} {between} {now} {r = Ok v} b added calm = record {
  adds = Adds-then had mid has first second added b.adds;
  front = tt;
  counts = omega (arith, calm, b.counts);
  cause = (tt, b.cause.1 ∙ calm);
}
Writes-after first {second} {had} {mid} {has} {before} {between} {now} {r = Err e} b added calm =
    let n = b.front.0 in
    let within : length first + n ≤ length (first ++ second) = omega (arith, length-append first second, b.front.1) in
    let P : List ℕ → Type 0 = λ t. Adds had t has in
    record {
      adds = tt;
      front = (length first + n, within, subst P (sym (take-append-add first second n)) (Adds-then had mid has first (take n second) added b.front.2));
      counts = omega (arith, calm, b.counts);
      cause = (omega (arith, calm, b.cause.0), tt);
    }

-- the first text of two failed
pub Writes-cut : (first second : List ℕ) {had has : Option (List ℕ)} {before now : ℕ} {r : Result ⊤ Failed} → IsErr r
    → AddsFront had first has → before ≤ now → Rose before now → Writes (first ++ second) had has before now r
Writes-cut first second {had} {has} {before} {now} {r = Ok v} fails front counts rose = cc fails
Writes-cut first second {had} {has} {before} {now} {r = Err e} fails front counts rose =
    let n = front.0 in
    let within : n ≤ length (first ++ second) = omega (arith, length-append first second, front.1) in
    let P : List ℕ → Type 0 = λ t. Adds had t has in
    record {
      adds = tt;
      front = (n, within, subst P (sym (take-append-le n first second front.1)) front.2);
      counts = counts;
      cause = (rose, tt);
    }

-- a call that writes one text
pub Writes-one : (text : List ℕ) {had has : Option (List ℕ)} {before now : ℕ} {r : Result ⊤ Failed} → OnOk r (Adds had text has)
    → OnErr r (AddsFront had text has) → before ≤ now → IsCounted r before now → Writes text had has before now r
Writes-one text adds front counts cause = record { adds = adds; front = front; counts = counts; cause = cause }

-- a part for each of a list: the part of the element in this place, between those before and those behind
pub parts_at : {A : Type 0} (f : A → List ℕ) (xs : List A) (i : ℕ) (x : A) → i < length xs → x ≡ get_or xs i x
    → flat_map f (take i xs) ++ (f x ++ flat_map f (drop (i + 1) xs)) ≡ flat_map f xs
parts_at f xs i x within is =
    let behind = at_drop_more (flat_map f) xs i x within in
    ap (λ y. flat_map f (take i xs) ++ (f y ++ flat_map f (drop (i + 1) xs))) is
    ∙ ap (λ l. flat_map f (take i xs) ++ l) (sym behind)
    ∙ sym (flat_map-append f (take i xs) (drop i xs))
    ∙ ap (flat_map f) (take-append-drop i xs)

pub parts_more : {A : Type 0} (f : A → List ℕ) (xs : List A) (i : ℕ) (x : A) → i < length xs → x ≡ get_or xs i x
    → flat_map f (take i xs) ++ f x ≡ flat_map f (take (i + 1) xs)
parts_more {A} f xs i x within is =
    ap (λ l. flat_map f (take i xs) ++ l) (sym (append-nil (f x)))
    ∙ ap (λ (y : A). flat_map f (take i xs) ++ (f y ++ [])) is
    ∙ sym (flat_map-append f (take i xs) (get_or xs i x ∷ []))
    ∙ sym (ap (flat_map f) (take_more xs i x within))

-- the first part, and each other one with the separator in front of it
pub joined_led : (separator : ℕ) (part : List ℕ) (parts : List (List ℕ)) → part ++ led separator parts ≡ join_with_byte separator (part ∷ parts)
joined_led separator part [] = append-nil part
joined_led separator part (next ∷ parts) = ap (λ l. part ++ (separator ∷ l)) (joined_led separator next parts)

-- parts that are made of the elements of a list
pub led_map : {A : Type 0} (separator : ℕ) (f : A → List ℕ) (xs : List A) → flat_map (λ x. separator ∷ f x) xs ≡ led separator (map f xs)
led_map separator f [] = refl
led_map separator f (x ∷ xs) = ap (λ l. separator ∷ (f x ++ l)) (led_map separator f xs)

-- the front of the parts, and each other one with the separator in front of it
pub joined_more : (separator : ℕ) (part : List ℕ) (front parts : List (List ℕ))
    → join_with_byte separator (part ∷ front) ++ led separator parts ≡ join_with_byte separator (part ∷ (front ++ parts))
joined_more separator part [] parts = joined_led separator part parts
joined_more separator part (next ∷ front) parts =
    append_assoc part (separator ∷ join_with_byte separator (next ∷ front)) (led separator parts)
    ∙ ap (λ l. part ++ (separator ∷ l)) (joined_more separator next front parts)
