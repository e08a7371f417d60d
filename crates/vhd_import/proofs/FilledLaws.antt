-- What was put on a disk: its slots, and what its sectors hold.
use Rattle.std.proofs.Common.{◌≡◌, ◌⊎◌, inl, inr, ⊎_elim, ℕ, zero, suc, ◌-◌, ◌<◌, Bool, true, false, List, [], ◌∷◌, length, get_or, Option, Some, None, refl, sym, ap, ◌∙◌, arith}
use Rattle.std.specs.Prelude.{◌==◌, nat_lt, if◌then◌else◌}
use Rattle.std.specs.List.{cons_option, filter_map, list_any}
use Rattle.std.proofs.lemmas.Bool.{cases_lt}
use Rattle.std.proofs.lemmas.Bool.Decides.{nat_tests}
use Rattle.std.proofs.lemmas.List.{get_or_default}
use Rattle.common_laws.specs.Lists.{In, numbers, ◌>>=◌}
use Rattle.common_laws.proofs.Lists.{In-numbers, numbers-In}
use Rattle.common_laws.proofs.Options.{bind-some}
use Rattle.sm_base.specs.declared.refusals.Refusal.{Refusal}
use Rattle.sm_disk.specs.Sectors.{zeros}
use Rattle.vhd_stream.specs.Files.{File}
use Rattle.vhd_import.specs.Making.{filled, put_lacks, slots_of}
use Rattle.vhd_import.specs.Progress.{puts_of}
use Rattle.vhd_import.specs.Puts.{Put, put_at}
use Rattle.vhd_import.specs.Room.{Target, block_of, distinct_blocks, extents_for, filled_at, lacks, lacks_space, used}
use Rattle.vhd_import.proofs.PutLaws.{IsOf, PutsOnly}
use Rattle.vhd_import.proofs.TestLaws.{any-given, count_by-more, given-any}

-- ---- puts of a file

pub puts-In : (file : File) (k : ℕ) (p : Put) → In p (puts_of file k) → (j : ℕ) × (j < k) × (put_at file j ≡ Some p)
unfolding puts_of
puts-In file zero p i = absurd i
puts-In file (suc k) p i = by (put_at file k) refl (puts-In file k p) i
  where
    later : (j : ℕ) × (j < k) × (put_at file j ≡ Some p) → (n : ℕ) × (n < suc k) × (put_at file n ≡ Some p)
    later r = (r.0, omega (arith, r.1), r.2)

    by : (o : Option Put) → put_at file k ≡ o → (In p (puts_of file k) → (j : ℕ) × (j < k) × (put_at file j ≡ Some p)) → In p (cons_option (put_at file k) (puts_of file k)) → (n : ℕ) × (n < suc k) × (put_at file n ≡ Some p)
    by None is rest i = let j : In p (puts_of file k) = rw is at i in later (rest j)
    by (Some q) is rest i =
        let j : (p ≡ q) ⊎ In p (puts_of file k) = rw is at i in
        ⊎_elim (λ (same : p ≡ q). (k, omega arith, is ∙ ap Some (sym same))) (λ more. later (rest more)) j

pub In-puts : (file : File) (k j : ℕ) (p : Put) → j < k → put_at file j ≡ Some p → In p (puts_of file k)
unfolding puts_of
In-puts file zero j p less is = absurd (omega (arith, less))
In-puts file (suc k) j p less is = ⊎_elim (λ low. further (put_at file k) (In-puts file k j p low is)) (λ high. here (omega (arith, high, less))) (cases_lt j k)
  where
    further : (o : Option Put) → In p (puts_of file k) → In p (cons_option o (puts_of file k))
    further None i = i
    further (Some q) i = inr i

    here : j ≡ k → In p (cons_option (put_at file k) (puts_of file k))
    here same = let e : put_at file k ≡ Some p = ap (put_at file) (sym same) ∙ is in rw e (inl refl)

-- ---- slots

-- a file's puts take as many slots as it has used
pub slots-used : (t : Target) (file : File) (k : ℕ) → slots_of t (puts_of file k) ≡ used t file k
unfolding slots_of used distinct_blocks filled_at
slots-used t file k =
    let a = count_by-more (λ b. list_any (λ c. c == b) (filter_map (block_of t) (puts_of file k))) (λ b. list_any (λ c. c == b) (filter_map (filled_at t file) (numbers 0 k))) (numbers 0 t.entries) there in
    let b = count_by-more (λ b. list_any (λ c. c == b) (filter_map (filled_at t file) (numbers 0 k))) (λ b. list_any (λ c. c == b) (filter_map (block_of t) (puts_of file k))) (numbers 0 t.entries) back in
    omega (arith, a, b)
  where
    there : (b : ℕ) → list_any (λ c. c == b) (filter_map (block_of t) (puts_of file k)) ≡ true → list_any (λ c. c == b) (filter_map (filled_at t file) (numbers 0 k)) ≡ true
    there b h =
        let p = any-given (block_of t) (puts_of file k) b h in
        let j = puts-In file k p.0 p.1 in
        given-any (filled_at t file) (numbers 0 k) j.0 b (numbers-In 0 k j.0 (omega arith) (omega (arith, j.1))) (ap (λ (o : Option Put). o >>= block_of t) j.2 ∙ p.2)

    back : (b : ℕ) → list_any (λ c. c == b) (filter_map (filled_at t file) (numbers 0 k)) ≡ true → list_any (λ c. c == b) (filter_map (block_of t) (puts_of file k)) ≡ true
    back b h =
        let j = any-given (filled_at t file) (numbers 0 k) b h in
        let n = In-numbers 0 k j.0 j.1 in
        let p = bind-some (put_at file j.0) (block_of t) b j.2 in
        given-any (block_of t) (puts_of file k) p.0 b (In-puts file k j.0 p.0 (omega (arith, n.1)) p.1) (ap (λ (o : Option Put). o >>= block_of t) (sym p.1) ∙ j.2)

puts-next : (file : File) (k : ℕ) (p : Put) → put_at file k ≡ Some p → puts_of file (suc k) ≡ p ∷ puts_of file k
unfolding puts_of
puts-next file k p is = ap (λ (o : Option Put). cons_option o (puts_of file k)) is

puts-none : (file : File) (k : ℕ) → put_at file k ≡ None → puts_of file (suc k) ≡ puts_of file k
unfolding puts_of
puts-none file k is = ap (λ (o : Option Put). cons_option o (puts_of file k)) is

-- a sector that puts something lacks extents where its put does
pub lacks-put : (t : Target) (file : File) (k : ℕ) (p : Put) → put_at file (suc k) ≡ Some p → lacks_space t file (suc k) ≡ put_lacks t p (puts_of file (suc k))
unfolding lacks_space put_lacks
lacks-put t file k p is =
    let room : ℕ → ℕ → Option Refusal = λ a b. lacks (extents_for t b - extents_for t a) (t.free - extents_for t a) in
    let before : used t file (suc k) ≡ slots_of t (puts_of file (suc k)) = sym (slots-used t file (suc k)) in
    let after : used t file (suc (suc k)) ≡ slots_of t (p ∷ puts_of file (suc k)) = sym (slots-used t file (suc (suc k))) ∙ ap (slots_of t) (puts-next file (suc k) p is) in
    ap (λ a. room a (used t file (suc (suc k)))) before ∙ ap (room (slots_of t (puts_of file (suc k)))) after

-- and one that puts nothing lacks none
pub lacks-none : (t : Target) (file : File) (k : ℕ) → put_at file (suc k) ≡ None → lacks_space t file (suc k) ≡ None
unfolding lacks_space
lacks-none t file k is =
    let room : ℕ → ℕ → Option Refusal = λ a b. lacks (extents_for t b - extents_for t a) (t.free - extents_for t a) in
    let same : used t file (suc (suc k)) ≡ used t file (suc k) = sym (slots-used t file (suc (suc k))) ∙ ap (slots_of t) (puts-none file (suc k) is) ∙ slots-used t file (suc k) in
    let nothing : extents_for t (used t file (suc k)) - extents_for t (used t file (suc k)) ≡ 0 = omega arith in
    let enough : nat_lt (t.free - extents_for t (used t file (suc k))) 0 ≡ false = grind (arith, nat_tests) in
    ap (room (used t file (suc k))) same ∙ rw (nothing, enough) refl

-- ---- sectors

-- puts that are all sectors of a disk, of each sector that is no zeros one, fill it
pub filled-is : (puts : List Put) (sectors : List (List ℕ)) (s : ℕ) → ((p : Put) → In p puts → IsOf sectors p) → ((p : Put) × In p puts × (p.sector ≡ s)) ⊎ (get_or sectors s zeros ≡ zeros) → filled puts s ≡ get_or sectors s zeros
unfolding filled
filled-is [] sectors s all (inl w) = absurd w.1
filled-is [] sectors s all (inr none) = sym none
filled-is (p ∷ puts) sectors s all which = by (p.sector == s) refl (filled-is puts sectors s (λ q i. all q (inr i)))
  where
    rest : (p.sector == s) ≡ false → ((q : Put) × In q (p ∷ puts) × (q.sector ≡ s)) ⊎ (get_or sectors s zeros ≡ zeros) → ((q : Put) × In q puts × (q.sector ≡ s)) ⊎ (get_or sectors s zeros ≡ zeros)
    rest other (inr none) = inr none
    rest other (inl (q, inl same, is)) = absurd (let e : p.sector ≡ s = ap (λ (x : Put). x.sector) (sym same) ∙ is in let y : (p.sector == s) ≡ true = grind (arith, nat_tests) in cc (sym y ∙ other))
    rest other (inl (q, inr i, is)) = inl (q, i, is)

    by : (b : Bool) → (p.sector == s) ≡ b → (((q : Put) × In q puts × (q.sector ≡ s)) ⊎ (get_or sectors s zeros ≡ zeros) → filled puts s ≡ get_or sectors s zeros)
        → (if p.sector == s then p.bytes else filled puts s) ≡ get_or sectors s zeros
    by true is tail =
        let e : p.sector ≡ s = grind (arith, nat_tests) in
        let o = all p (inl refl) in
        rw is (o.same ∙ get_or_default sectors p.sector [] zeros o.within ∙ ap (λ n. get_or sectors n zeros) e)
    by false is tail = rw is (tail (rest is which))

-- what a file puts fills the disk that it holds
pub filled-file : (file : File) (sectors : List (List ℕ)) (s : ℕ) → PutsOnly file sectors → ((j : ℕ) × (p : Put) × (j < length file) × (put_at file j ≡ Some p) × (p.sector ≡ s)) ⊎ (get_or sectors s zeros ≡ zeros)
    → filled (puts_of file (length file)) s ≡ get_or sectors s zeros
filled-file file sectors s only which =
    filled-is (puts_of file (length file)) sectors s (λ p i. let j = puts-In file (length file) p i in only j.0 p j.1 j.2) (by which)
  where
    by : ((j : ℕ) × (p : Put) × (j < length file) × (put_at file j ≡ Some p) × (p.sector ≡ s)) ⊎ (get_or sectors s zeros ≡ zeros) → ((p : Put) × In p (puts_of file (length file)) × (p.sector ≡ s)) ⊎ (get_or sectors s zeros ≡ zeros)
    by (inl (j, p, less, is, same)) = inl (p, In-puts file (length file) j p less is, same)
    by (inr none) = inr none
