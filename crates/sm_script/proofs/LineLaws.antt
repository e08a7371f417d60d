-- A line and its first word.
use Rattle.std.proofs.Common.{◌≡◌, ◌≢◌, ℕ, ◌<◌, ◌≤◌, Bool, true, false, true≢false, List, ◌∷◌, ◌++◌, codes, length, length-append, nat_le, None, if◌then◌else◌, arith, refl, sym, ap, ◌∙◌}
use Rattle.std.specs.Str.{bytes_eq}
use Rattle.std.proofs.lemmas.Bool.Decides.{nat_tests}
use Rattle.std.proofs.lemmas.Slice.Eq.{bytes_eq-Decides}
use Rattle.sm_machine.specs.Lines.{after_write, spelled, spelled_words, words, line_limit}

-- a line that is too long
pub spelled-long : (line : List ℕ) → line_limit < length line → spelled line ≡ None
unfolding spelled
spelled-long line long = by (nat_le (length line) 65536) (grind (arith, nat_tests))
  where
    by : (t : Bool) → t ≡ false → (if t then spelled_words (words line) else None) ≡ None
    by true e = cc
    by false e = refl

-- another line spells what its words do
pub spelled-short : (line verb : List ℕ) (rest : List (List ℕ)) → length line ≤ line_limit → words line ≡ verb ∷ rest → spelled_words (verb ∷ rest) ≡ spelled line
unfolding spelled
spelled-short line verb rest short e =
    ap spelled_words (sym e) ∙ by (nat_le (length line) 65536) (grind (arith, nat_tests))
  where
    by : (t : Bool) → t ≡ true → spelled_words (words line) ≡ (if t then spelled_words (words line) else None)
    by true e = refl
    by false e = cc

pub same_word : (verb word text : List ℕ) → true ≡ bytes_eq verb text → text ≡ word → verb ≡ word
same_word verb word text e is = (bytes_eq-Decides verb text).0 (sym e) ∙ is

pub other_word : (verb word text : List ℕ) → false ≡ bytes_eq verb text → text ≡ word → verb ≢ word
other_word verb word text e is = λ same. true≢false (sym ((bytes_eq-Decides verb text).1 (same ∙ sym is)) ∙ sym e)

not_word : (verb word : List ℕ) → verb ≢ word → false ≡ bytes_eq verb word
not_word verb word apart = by (bytes_eq verb word) (bytes_eq-Decides verb word).0
  where
    by : (t : Bool) → (t ≡ true → verb ≡ word) → false ≡ t
    by true h = absurd (apart (h refl))
    by false h = refl

pub spelled_words-write : (verb : List ℕ) (rest : List (List ℕ)) → verb ≡ codes "write" → after_write rest ≡ spelled_words (verb ∷ rest)
unfolding spelled_words
spelled_words-write verb rest is = ap (λ v. spelled_words (v ∷ rest)) (sym is)

-- a first word that is none of the commands
pub spelled_words-none : (verb : List ℕ) (rest : List (List ℕ)) → verb ≢ codes "write"
    → verb ≢ codes "create" → verb ≢ codes "delete" → verb ≢ codes "attach" → verb ≢ codes "detach" → verb ≢ codes "snapshot"
    → verb ≢ codes "clone" → verb ≢ codes "resize" → verb ≢ codes "label" → verb ≢ codes "fill" → verb ≢ codes "read"
    → verb ≢ codes "flush" → verb ≢ codes "gc" → verb ≢ codes "list" → verb ≢ codes "stat"
    → verb ≢ codes "cbt" → verb ≢ codes "changed" → None ≡ spelled_words (verb ∷ rest)
unfolding spelled_words
spelled_words-none verb rest n1 n2 n3 n4 n5 n6 n7 n8 n9 n10 n11 n12 n13 n14 n15 n16 n17 =
    let write = not_word verb (codes "write") n1 in
    let create = not_word verb (codes "create") n2 in
    let delete = not_word verb (codes "delete") n3 in
    let attach = not_word verb (codes "attach") n4 in
    let detach = not_word verb (codes "detach") n5 in
    let snapshot = not_word verb (codes "snapshot") n6 in
    let copy = not_word verb (codes "clone") n7 in
    let resize = not_word verb (codes "resize") n8 in
    let label = not_word verb (codes "label") n9 in
    let fill = not_word verb (codes "fill") n10 in
    let read = not_word verb (codes "read") n11 in
    let flush = not_word verb (codes "flush") n12 in
    let gc = not_word verb (codes "gc") n13 in
    let list = not_word verb (codes "list") n14 in
    let stat = not_word verb (codes "stat") n15 in
    let cbt = not_word verb (codes "cbt") n16 in
    let changed = not_word verb (codes "changed") n17 in
    rw (← create, ← delete, ← attach, ← detach, ← snapshot, ← copy, ← resize, ← label, ← write, ← fill, ← read, ← flush, ← gc, ← list, ← stat, ← cbt, ← changed) refl

-- what stands behind the first word is no longer than the line
pub behind_within : (line verb more : List ℕ) → line ≡ verb ++ more → length line ≤ line_limit → length more ≤ line_limit
behind_within line verb more bytes short = omega (arith, ap length bytes, length-append verb more)
