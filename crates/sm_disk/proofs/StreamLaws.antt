-- Laws of what calls take from a source and add to a sink.
use Rattle.std.proofs.Common.{◌≡◌, ◌≢◌, All, ℕ, ◌+◌, ◌-◌, ◌≤◌, ◌<◌, min, false, arith, List, [], ◌++◌, length, take, drop, Option, Some, None, Result, Ok, Err, IfOk, sym, refl, ap, ◌∙◌, subst, append_assoc}
use Rattle.std.proofs.lemmas.List.{append-nil, length-take, length-drop, take-append-drop, drop-drop, take_at, take-take, take-append-le, take_all, nil_from_length}
use Rattle.std.proofs.lemmas.List.Elements.{All-take}
use Rattle.std.specs.Io.{StopsAt}
use Rattle.std.proofs.lemmas.Bool.Decides.{nat_tests}
use Rattle.std.proofs.Math.Seq.{take-add}
use Rattle.sm_disk.specs.Streams.{Takes, Adds}
use Rattle.sm_disk.specs.MemoryStreams.{Spring, is_over, at_most, given_by}

pub Takes-none : (content : Option (List ℕ)) → Takes content [] content
Takes-none None = refl
Takes-none (Some left) = (left, refl, refl)

pub Takes-then : (a b c : Option (List ℕ)) (xs ys : List ℕ) → Takes a xs b → Takes b ys c → Takes a (xs ++ ys) c
Takes-then None b c xs ys s t = let P : Option (List ℕ) → Type 0 = λ o. Takes o ys c in subst P s t
Takes-then (Some left) b c xs ys (rest, is, front) t = by (let P : Option (List ℕ) → Type 0 = λ o. Takes o ys c in subst P is t)
  where
    by : Takes (Some rest) ys c → Takes (Some left) (xs ++ ys) c
    by (last, same, more) = (last, same, front ∙ ap (λ l. xs ++ l) more ∙ sym (append_assoc xs ys last))

pub Adds-none : (content : Option (List ℕ)) → Adds content [] content
Adds-none None = refl
Adds-none (Some had) = ap (λ l. Some l) (sym (append-nil had))

pub Adds-then : (a b c : Option (List ℕ)) (xs ys : List ℕ) → Adds a xs b → Adds b ys c → Adds a (xs ++ ys) c
Adds-then None b c xs ys s t = let P : Option (List ℕ) → Type 0 = λ o. Adds o ys c in subst P s t
Adds-then (Some had) b c xs ys s t =
    (let P : Option (List ℕ) → Type 0 = λ o. Adds o ys c in subst P s t) ∙ ap (λ l. Some l) (append_assoc had xs ys)

-- the first bytes, and then the next ones
pub Adds-more : (a b c : Option (List ℕ)) (bytes : List ℕ) (done n : ℕ) → Adds a (take done bytes) b
    → Adds b (take n (drop done bytes)) c → Adds a (take (done + n) bytes) c
Adds-more a b c bytes done n s t =
    let P : List ℕ → Type 0 = λ l. Adds a l c in
    subst P (sym (take-add done n bytes)) (Adds-then a b c (take done bytes) (take n (drop done bytes)) s t)

-- so many of the bytes were added, and no call has failed
pub record HasAdded (had has : Option (List ℕ)) (bytes : List ℕ) (done before now : ℕ) : Type 0 where
  pub within : done ≤ length bytes
  pub added : Adds had (take done bytes) has
  pub calm : now ≡ before

-- sources and sinks in memory

pub takes_by_copy : (all : List ℕ) (given n : ℕ) (to piece : List ℕ) → given + n ≤ length all → piece ≡ take (given + n - given) (drop given all)
    → Takes (Some (drop given all)) (take n (piece ++ drop n to)) (Some (drop (given + n) all))
takes_by_copy all given n to piece within is =
    let count : given + n - given ≡ n = omega arith in
    let front : piece ≡ take n (drop given all) = is ∙ ap (λ m. take m (drop given all)) count in
    let long : length piece ≡ n = ap length front ∙ omega (arith, length-take n (drop given all), length-drop given all) in (
      drop (given + n) all,
      refl,
      sym (take-append-drop n (drop given all))
          ∙ ap (λ l. l ++ drop n (drop given all)) (sym front ∙ sym (take_at piece (drop n to) n long))
          ∙ ap (λ l. take n (piece ++ drop n to) ++ l) (drop-drop n given all),
    )

-- a source that is not over and gives nothing has nothing left
pub none_left : (s : Spring) (len : ℕ) → is_over s.until ≡ false → 0 < s.chunk → 0 < len → given_by s len ≡ 0 → s.left ≡ []
none_left s len more some room none = nil_from_length s.left (let z = by s.until (min (min len s.chunk) (length s.left)) more none in omega (arith, z))
  where
    by : (until : Option ℕ) (n : ℕ) → is_over until ≡ false → at_most until n ≡ 0 → n ≡ 0
    by None n more none = none
    by (Some m) n more none = grind (arith, nat_tests)

-- bytes from the front, and none behind the first that is `last`
pub stops_through : (left bytes : List ℕ) (now : Option (List ℕ)) (last most : ℕ) → Takes (Some left) bytes now → length bytes ≤ most
    → All (λ byte. byte ≢ last) (take (most - 1) left) → StopsAt bytes last
stops_through left bytes now last most (rest, is, front) short before =
    let n = length bytes - 1 in
    let less : n ≤ most - 1 = omega arith in
    let within : n ≤ length bytes = omega arith in
    let P : List ℕ → Type 0 = All (λ byte. byte ≢ last) in
    subst P (take-take n (most - 1) left less ∙ ap (take n) front ∙ take-append-le n bytes rest within) (All-take (λ byte. byte ≢ last) n (take (most - 1) left) before)

-- so it is of what a call read into the front of a buffer
pub stops_by_read : {E : Type 0} (r : Result ℕ E) (left piece rest : List ℕ) (now : Option (List ℕ)) (last most : ℕ) → IfOk r (λ n. n ≤ length piece)
    → IfOk r (λ n. Takes (Some left) (take n piece) now) → length piece ≤ most → All (λ byte. byte ≢ last) (take (most - 1) left)
    → IfOk r (λ n. StopsAt (take n (piece ++ rest)) last)
stops_by_read (Ok n) left piece rest now last most within takes short before =
    let less : length (take n piece) ≤ most = omega (arith, length-take n piece) in
    let P : List ℕ → Type 0 = λ l. StopsAt l last in
    subst P (sym (take-append-le n piece rest within)) (stops_through left (take n piece) now last most takes less before)
stops_by_read (Err e) left piece rest now last most within takes short before = tt

-- what stands behind a place, up to the length
pub take-behind : (all : List ℕ) (given : ℕ) → take (length all - given) (drop given all) ≡ drop given all
take-behind all given = take_all (length all - given) (drop given all) (omega (arith, length-drop given all))
