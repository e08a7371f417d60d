-- A file of which a front was read, and what is answered to it.
use Rattle.std.proofs.Common.{◌≡◌, ⊎_elim, ℕ, zero, suc, ◌+◌, ◌-◌, ◌*◌, ◌/◌, ◌%◌, ◌<◌, ◌≤◌, Bool, true, false, List, [], ◌∷◌, ◌++◌, length, length-append, map, drop, take, Option, Some, None, Result, Err, refl, sym, ap, ◌∙◌, arith, subst, append_assoc}
use Rattle.std.specs.Prelude.{All, IfErr, min, nat_lt, if◌then◌else◌}
use Rattle.std.specs.List.{AllByRecursion, concat, cons_option}
use Rattle.std.proofs.lemmas.Bool.{cases_lt}
use Rattle.std.proofs.lemmas.Bool.Decides.{nat_tests}
use Rattle.std.proofs.lemmas.List.{append-nil, length-take}
use Rattle.std.proofs.lemmas.List.Elements.{All-append, All-cons, All-nil, recursion_from_All}
use Rattle.std.proofs.lemmas.List.Folds.{concat-append}
use Rattle.common_laws.specs.Lists.{first_some, numbers}
use Rattle.common_laws.proofs.Lists.{In-map, In-numbers, first_none}
use Rattle.sm_base.specs.declared.refusals.Refusal.{Refusal}
use Rattle.sm_base.specs.declared.refusals.Refusal.TheVariants.{Cut}
use Rattle.sm_disk.specs.Streams.{Takes}
use Rattle.sm_disk.proofs.StreamLaws.{Takes-none, Takes-then}
use Rattle.sm_machine.specs.Disks.{cut_sectors}
use Rattle.sm_run.specs.Runs.{IsSpent}
use Rattle.vhd_stream.specs.Files.{File}
use Rattle.vhd_import.specs.declared.faults.ImportFault.{ImportFault}
use Rattle.vhd_import.specs.declared.faults.ImportFault.TheVariants as fault
use Rattle.vhd_import.specs.declared.reading.Part.TheVariants.{End}
use Rattle.vhd_import.specs.Progress.{AreCounted, FaultCounts, FaultSays, HasNext, HasRead, IsOpen, puts_of}
use Rattle.vhd_import.specs.Puts.{Put, put_at}
use Rattle.vhd_import.specs.Room.{Target}
use Rattle.vhd_import.specs.Verdicts.{Denied, Long, Made, Verdict, denial_at, denial_at_end, ends_as, file_of, sector_limit, sectors_of, verdict, verdict_of}
use Rattle.vhd_import.proofs.AgreeLaws.{agree-front, same-denial, same-put}
use Rattle.vhd_import.proofs.BytesLaws.{drop-front, length-joined, take-front}

IsLong : List ℕ → Type 0
IsLong s = length s ≡ 512

-- ---- one sector more

pub count-more : (front : File) (s : List ℕ) → length (front ++ s ∷ []) ≡ length front + 1
count-more front s = omega (arith, length-append front (s ∷ []))

joined-more : (front : File) (s : List ℕ) → concat (front ++ s ∷ []) ≡ concat front ++ s
joined-more front s = concat-append front (s ∷ []) ∙ ap (λ (l : List ℕ). concat front ++ l) (append-nil s)

pub puts-front : (front rest : File) (k : ℕ) → k ≤ length front → puts_of (front ++ rest) k ≡ puts_of front k
unfolding puts_of
puts-front front rest zero within = refl
puts-front front rest (suc k) within =
    ap (λ (o : Option Put). cons_option o (puts_of (front ++ rest) k)) (same-put k (front ++ rest) front (agree-front front rest k (omega (arith, within))) k (omega arith))
    ∙ ap (cons_option (put_at front k)) (puts-front front rest k (omega (arith, within)))

puts-more : (file : File) (k n : ℕ) → n ≡ k + 1 → puts_of file n ≡ cons_option (put_at file k) (puts_of file k)
unfolding puts_of
puts-more file k n is = let e : n ≡ suc k = omega (arith, is) in ap (puts_of file) e

pub none-read : (t : Target) (had : Option (List ℕ)) → HasRead t had had [] []
unfolding IsLong puts_of
none-read t had = record {
  whole = All-nil IsLong;
  few = omega arith;
  takes = Takes-none had;
  undenied = λ k less. absurd (omega (arith, less));
  puts_are = refl;
}

pub more-read : (t : Target) (had mid left : Option (List ℕ)) (front : File) (puts after : List Put) (s : List ℕ) → HasRead t had mid front puts → length s ≡ 512 → length front < sector_limit → Takes mid s left
    → denial_at t (front ++ s ∷ []) (length front) ≡ None → after ≡ cons_option (put_at (front ++ s ∷ []) (length front)) puts → HasRead t had left (front ++ s ∷ []) after
unfolding IsLong
more-read t had mid left front puts after s r long more takes none put = record {
  whole = All-append IsLong front (s ∷ []) r.whole (All-cons IsLong s [] long (All-nil IsLong));
  few = omega (arith, count-more front s, more);
  takes = subst (λ bytes. Takes had bytes left) (sym (joined-more front s)) (Takes-then had mid left (concat front) s r.takes takes);
  undenied = λ k less. ⊎_elim
      (λ (low : k < length front). same-denial k (front ++ s ∷ []) front (agree-front front (s ∷ []) k low) t ∙ r.undenied k low)
      (λ (high : length front ≤ k). let e : k ≡ length front = omega (arith, high, less, count-more front s) in ap (denial_at t (front ++ s ∷ [])) e ∙ none) (cases_lt k (length front));
  puts_are = put ∙ ap (cons_option (put_at (front ++ s ∷ []) (length front))) (r.puts_are ∙ sym (puts-front front (s ∷ []) (length front) (omega arith)))
      ∙ sym (puts-more (front ++ s ∷ []) (length front) (length (front ++ s ∷ [])) (count-more front s));
}

-- ---- bytes that begin with sectors

cut-front : (front : File) (rest : List ℕ) (m : ℕ) → AllByRecursion (λ s. length s ≡ 512) front → cut_sectors (length front + m) (concat front ++ rest) ≡ front ++ cut_sectors m rest
unfolding cut_sectors
cut-front [] rest m whole = let e : length (let f : File = [] in f) + m ≡ m = omega arith in ap (λ n. cut_sectors n rest) e
cut-front (s ∷ front) rest m whole =
    let e : length (s ∷ front) + m ≡ suc (length front + m) = omega arith in
    let b : (s ++ concat front) ++ rest ≡ s ++ (concat front ++ rest) = append_assoc s (concat front) rest in
    ap (λ n. cut_sectors n ((s ++ concat front) ++ rest)) e ∙ ap (cut_sectors (suc (length front + m))) b
    ∙ ap (λ (a : List ℕ). a ∷ cut_sectors (length front + m) (drop 512 (s ++ (concat front ++ rest)))) (take-front s (concat front ++ rest) 512 whole.0)
    ∙ ap (λ (x : List ℕ). s ∷ cut_sectors (length front + m) x) (drop-front s (concat front ++ rest) 512 whole.0)
    ∙ ap (λ (f : File). s ∷ f) (cut-front front rest m whole.1)

-- the first of some numbers at which something is said
first-at : (f : ℕ → Option Refusal) (k a n : ℕ) (r : Refusal) → ((j : ℕ) → a ≤ j → j < k → f j ≡ None) → f k ≡ Some r → a ≤ k → k < a + n → first_some (map f (numbers a n)) ≡ Some r
unfolding numbers
first-at f k a zero r none is low high = absurd (omega (arith, low, high))
first-at f k a (suc n) r none is low high = ⊎_elim
    (λ (less : a < k). rw (none a (omega arith) less) (first-at f k (a + 1) n r (λ j from to. none j (omega (arith, from)) to) is (omega (arith, less)) (omega (arith, high))))
    (λ (same : k ≤ a). let e : a ≡ k = omega (arith, same, low) in let here : f a ≡ Some r = ap f e ∙ is in rw here refl)
    (cases_lt a k)

-- what is answered where a sector denies or none does
answer : Target → File → Bool → Bool → Option Refusal → Verdict
answer t file inside past o = elim o [ Some d ↦ Denied d | None ↦ if past then Long else ends_as file inside ]

-- one of these sectors denies the file, and none before it does
denied : (t : Target) (front : File) (rest : List ℕ) (k : ℕ) (r : Refusal) → All (λ s. length s ≡ 512) front → k < length front → length front ≤ sector_limit
    → ((j : ℕ) → j < k → denial_at t front j ≡ None) → denial_at t front k ≡ Some r → verdict_of t (concat front ++ rest) ≡ Denied r
unfolding verdict answer
denied t front rest k r whole count few none is =
    let all : AllByRecursion (λ s. length s ≡ 512) front = recursion_from_All (λ s. length s ≡ 512) front whole in
    let bytes : List ℕ = concat front ++ rest in
    let long : length bytes ≡ 512 * length front + length rest = omega (arith, length-append (concat front) rest, length-joined front all) in
    let n : ℕ = min (length bytes / 512) sector_limit in
    let m : ℕ = n - length front in
    let enough : n ≡ length front + m = omega (arith, long, few) in
    let file : File = front ++ cut_sectors m rest in
    let cut : cut_sectors n bytes ≡ file = ap (λ x. cut_sectors x bytes) enough ∙ cut-front front rest m all in
    let first : first_some (map (denial_at t file) (numbers 0 (length file))) ≡ Some r =
    first-at (denial_at t file) k 0 (length file) r (λ j low less. same-denial j file front (agree-front front (cut_sectors m rest) j (omega (arith, less, count))) t ∙ none j less)
    (same-denial k file front (agree-front front (cut_sectors m rest) k (omega (arith, count))) t ∙ is) (omega arith) (omega (arith, length-append front (cut_sectors m rest), count)) in
    let inside : Bool = nat_lt 0 (length bytes % 512) in
    let past : Bool = nat_lt (512 * sector_limit) (length bytes) in
    ap (λ f. verdict t f inside past) cut ∙ ap (answer t file inside past) first

none-denied : (t : Target) (front : File) → ((j : ℕ) → j < length front → denial_at t front j ≡ None) → first_some (map (denial_at t front) (numbers 0 (length front))) ≡ None
none-denied t front none = first_none (map (denial_at t front) (numbers 0 (length front))) (λ o i.
    let k = In-map (denial_at t front) (numbers 0 (length front)) o i in
    let n = In-numbers 0 (length front) k.0 k.1 in
    k.2 ∙ none k.0 (omega (arith, n.1)))

cut-all : (front : File) (rest : List ℕ) (n : ℕ) → All (λ s. length s ≡ 512) front → n ≡ length front → cut_sectors n (concat front ++ rest) ≡ front
unfolding cut_sectors
cut-all front rest n whole is =
    let e : n ≡ length front + 0 = omega (arith, is) in
    ap (λ x. cut_sectors x (concat front ++ rest)) e ∙ cut-front front rest 0 (recursion_from_All (λ s. length s ≡ 512) front whole) ∙ append-nil front

-- as many sectors as are read, and a byte more
too-long : (t : Target) (front : File) (rest : List ℕ) → All (λ s. length s ≡ 512) front → length front ≡ sector_limit → ((j : ℕ) → j < length front → denial_at t front j ≡ None) → 0 < length rest
    → verdict_of t (concat front ++ rest) ≡ Long
unfolding verdict answer
too-long t front rest whole count none some =
    let all : AllByRecursion (λ s. length s ≡ 512) front = recursion_from_All (λ s. length s ≡ 512) front whole in
    let bytes : List ℕ = concat front ++ rest in
    let long : length bytes ≡ 512 * length front + length rest = omega (arith, length-append (concat front) rest, length-joined front all) in
    let past : nat_lt (512 * sector_limit) (length bytes) ≡ true = grind (arith, nat_tests) in
    let inside : Bool = nat_lt 0 (length bytes % 512) in
    let cut : cut_sectors (min (length bytes / 512) sector_limit) bytes ≡ front = cut-all front rest (min (length bytes / 512) sector_limit) whole (omega (arith, long, count)) in
    ap (λ f. verdict t f inside (nat_lt (512 * sector_limit) (length bytes))) cut ∙ ap (verdict t front inside) past ∙ ap (answer t front inside true) (none-denied t front none)

-- these sectors and fewer bytes than one more has
ended : (t : Target) (front : File) (part : List ℕ) → All (λ s. length s ≡ 512) front → length front ≤ sector_limit → ((j : ℕ) → j < length front → denial_at t front j ≡ None) → length part < 512
    → (0 < length part → length front < sector_limit) → verdict_of t (concat front ++ part) ≡ ends_as front (nat_lt 0 (length part))
unfolding verdict answer
ended t front part whole few none less within =
    let all : AllByRecursion (λ s. length s ≡ 512) front = recursion_from_All (λ s. length s ≡ 512) front whole in
    let bytes : List ℕ = concat front ++ part in
    let long : length bytes ≡ 512 * length front + length part = omega (arith, length-append (concat front) part, length-joined front all) in
    let short : length bytes ≤ 512 * sector_limit = ⊎_elim (λ (some : 0 < length part). omega (arith, long, less, within some)) (λ (empty : length part ≤ 0). omega (arith, long, few, empty)) (cases_lt 0 (length part)) in
    let past : nat_lt (512 * sector_limit) (length bytes) ≡ false = grind (arith, nat_tests) in
    let rest : length bytes % 512 ≡ length part = omega (arith, long, less) in
    let cut : cut_sectors (min (length bytes / 512) sector_limit) bytes ≡ front = cut-all front part (min (length bytes / 512) sector_limit) whole (omega (arith, long, few, less)) in
    ap (λ f. verdict t f (nat_lt 0 (length bytes % 512)) (nat_lt (512 * sector_limit) (length bytes))) cut
    ∙ ap (λ n. verdict t front (nat_lt 0 n) (nat_lt (512 * sector_limit) (length bytes))) rest
    ∙ ap (verdict t front (nat_lt 0 (length part))) past
    ∙ ap (answer t front (nat_lt 0 (length part)) false) (none-denied t front none)

-- ---- what a fault says of a file of which a front was read

pub refused-says : (t : Target) (had mid left : Option (List ℕ)) (front : File) (puts : List Put) (s : List ℕ) (r : Refusal) → HasRead t had mid front puts → length s ≡ 512 → length front < sector_limit → Takes mid s left
    → denial_at t (front ++ s ∷ []) (length front) ≡ Some r → FaultSays t had (fault.Refused r)
refused-says t None mid left front puts s r h long more takes is = tt
refused-says t (Some bytes) mid left front puts s r h long more takes is =
    let both = Takes-then (Some bytes) mid left (concat front) s h.takes takes in
    let here : bytes ≡ concat (front ++ s ∷ []) ++ both.0 = both.2 ∙ ap (λ (l : List ℕ). l ++ both.0) (sym (joined-more front s)) in
    subst (λ b. verdict_of t b ≡ Denied r) (sym here)
    (denied t (front ++ s ∷ []) both.0 (length front) r (All-append (λ x. length x ≡ 512) front (s ∷ []) h.whole (All-cons (λ x. length x ≡ 512) s [] long (All-nil (λ x. length x ≡ 512)))) (omega (arith, count-more front s)) (omega (arith, count-more front s, more))
    (λ j less. same-denial j (front ++ s ∷ []) front (agree-front front (s ∷ []) j less) t ∙ h.undenied j less) is)

-- a sector that was read denies the file, and none before it does
pub last-says : (t : Target) (had left : Option (List ℕ)) (front : File) (k : ℕ) (r : Refusal) → All (λ s. length s ≡ 512) front → k < length front → length front ≤ sector_limit → Takes had (concat front) left
    → ((j : ℕ) → j < k → denial_at t front j ≡ None) → denial_at t front k ≡ Some r → FaultSays t had (fault.Refused r)
last-says t None left front k r whole count few takes none is = tt
last-says t (Some bytes) left front k r whole count few takes none is = subst (λ b. verdict_of t b ≡ Denied r) (sym takes.2) (denied t front takes.0 k r whole count few none is)

pub long-says : (t : Target) (had mid left : Option (List ℕ)) (front : File) (puts : List Put) (s : List ℕ) → HasRead t had mid front puts → length front ≡ sector_limit → 0 < length s → Takes mid s left → FaultSays t had fault.Long
long-says t None mid left front puts s h count some takes = tt
long-says t (Some bytes) mid left front puts s h count some takes =
    let both = Takes-then (Some bytes) mid left (concat front) s h.takes takes in
    let here : bytes ≡ concat front ++ (s ++ both.0) = both.2 ∙ append_assoc (concat front) s both.0 in
    subst (λ b. verdict_of t b ≡ Long) (sym here) (too-long t front (s ++ both.0) h.whole count h.undenied (omega (arith, length-append s both.0, some)))

-- the whole file by what was read of it
spent-bytes : (bytes : List ℕ) (mid left : Option (List ℕ)) (front part : List ℕ) → Takes (Some bytes) front mid → Takes mid part left → IsSpent left → bytes ≡ front ++ part
spent-bytes bytes mid left front part begun more spent =
    let both = Takes-then (Some bytes) mid left front part begun more in
    let none : both.0 ≡ [] = subst IsSpent both.1 spent in
    both.2 ∙ ap (λ (l : List ℕ). (front ++ part) ++ l) none ∙ append-nil (front ++ part)

pub ended-as : (t : Target) (bytes : List ℕ) (mid left : Option (List ℕ)) (front : File) (puts : List Put) (part : List ℕ) → HasRead t (Some bytes) mid front puts → Takes mid part left → IsSpent left → length part < 512
    → (0 < length part → length front < sector_limit) → verdict_of t bytes ≡ ends_as front (nat_lt 0 (length part))
ended-as t bytes mid left front puts part h takes spent less within =
    subst (λ b. verdict_of t b ≡ ends_as front (nat_lt 0 (length part))) (sym (spent-bytes bytes mid left (concat front) part h.takes takes spent)) (ended t front part h.whole h.few h.undenied less within)

by-end : File → Option Refusal → Verdict
by-end front o = elim o [ Some d ↦ Denied d | None ↦ Made (sectors_of front) ]

-- the end denies the file
pub end-says : (t : Target) (had mid left : Option (List ℕ)) (front : File) (puts : List Put) (part : List ℕ) (r : Refusal) → HasRead t had mid front puts → Takes mid part left → IsSpent left → length part < 512
    → (0 < length part → length front < sector_limit) → denial_at_end front (nat_lt 0 (length part)) ≡ Some r → FaultSays t had (fault.Refused r)
unfolding by-end
end-says t None mid left front puts part r h takes spent less within is = tt
end-says t (Some bytes) mid left front puts part r h takes spent less within is =
    ended-as t bytes mid left front puts part h takes spent less within ∙ ap (by-end front) is

-- a file that would be cut if it ended here ends here
pub end-cut : (t : Target) (had mid left : Option (List ℕ)) (front : File) (puts : List Put) (to : List ℕ) (n count : ℕ) → HasRead t had mid front puts → length front ≡ count → HasNext count (End n) mid to left → length to ≡ 512 → IsOpen front
    → FaultSays t had (fault.Refused (Cut count))
end-cut t had mid left front puts to n count h long next full unended =
    let short : length (take n to) ≡ n = omega (arith, length-take n to, full, next.0) in
    end-says t had mid left front puts (take n to) (Cut count) h next.2 next.3 (omega (arith, short, next.0)) (λ some. let w = next.1 (omega (arith, some, short)) in omega (arith, w, long))
    (unended (nat_lt 0 (length (take n to))) ∙ ap (λ m. Some (Cut m)) long)

-- and where it does not, a disk is made
pub end-makes : (t : Target) (bytes : List ℕ) (mid left : Option (List ℕ)) (front : File) (puts : List Put) → HasRead t (Some bytes) mid front puts → Takes mid [] left → IsSpent left → denial_at_end front false ≡ None → verdict_of t bytes ≡ Made (sectors_of front)
unfolding by-end
end-makes t bytes mid left front puts h still spent is =
    ended-as t bytes mid left front puts [] h still spent (omega arith) (λ some. absurd (omega (arith, some))) ∙ ap (by-end front) is

-- the sectors of a file that was read to its end are those that were read
pub file-is : (t : Target) (bytes : List ℕ) (mid left : Option (List ℕ)) (front : File) (puts : List Put) → HasRead t (Some bytes) mid front puts → Takes mid [] left → IsSpent left → file_of bytes ≡ front
file-is t bytes mid left front puts h still spent =
    let whole : bytes ≡ concat front ++ [] = spent-bytes bytes mid left (concat front) [] h.takes still spent in
    let all : AllByRecursion (λ s. length s ≡ 512) front = recursion_from_All (λ s. length s ≡ 512) front h.whole in
    let long : length bytes ≡ 512 * length front = ap (λ (b : List ℕ). length b) whole ∙ omega (arith, length-append (concat front) [], length-joined front all) in
    ap (cut_sectors (min (length bytes / 512) sector_limit)) whole ∙ cut-all front [] (min (length bytes / 512) sector_limit) h.whole (omega (arith, long, h.few))

-- and a file begins with the sector that was read of it first
pub begins-with : (bytes : List ℕ) (left : Option (List ℕ)) (first : List ℕ) → length first ≡ 512 → Takes (Some bytes) first left → (rest : File) × (file_of bytes ≡ first ∷ rest)
begins-with bytes left first full takes =
    let front : File = first ∷ [] in
    let rest : List ℕ = takes.0 in
    let one : AllByRecursion (λ s. length s ≡ 512) front = (full, tt) in
    let is : bytes ≡ concat front ++ rest = takes.2 ∙ ap (λ (l : List ℕ). l ++ rest) (sym (append-nil first)) in
    let long : length bytes ≡ 512 + length rest = ap (λ (b : List ℕ). length b) takes.2 ∙ omega (arith, length-append first rest, full) in
    let n : ℕ = min (length bytes / 512) sector_limit in
    let enough : n ≡ length front + (n - 1) = omega (arith, long) in
    (cut_sectors (n - 1) rest, ap (cut_sectors n) is ∙ ap (λ x. cut_sectors x (concat front ++ rest)) enough ∙ cut-front front rest (n - 1) one)

-- ---- a fault that is passed on

pub says-err : {T : Type 0} (t : Target) (had : Option (List ℕ)) (r : Result T ImportFault) (e : ImportFault) → r ≡ Err e → FaultSays t had e → IfErr r (FaultSays t had)
says-err {T} t had r e is says = subst (λ (x : Result T ImportFault). IfErr x (FaultSays t had)) (sym is) says

pub counts-err : {T : Type 0} (r : Result T ImportFault) (e : ImportFault) (s mid s' d half d' : ℕ) → r ≡ Err e → FaultCounts mid s' half d' e → mid ≡ s → half ≡ d → AreCounted r s s' d d'
counts-err {T} r e s mid s' d half d' is counts same alike =
    let first : FaultCounts s s' half d' e = subst (λ n. FaultCounts n s' half d' e) same counts in
    let both : FaultCounts s s' d d' e = subst (λ n. FaultCounts s s' n d' e) alike first in
    subst (λ (x : Result T ImportFault). AreCounted x s s' d d') (sym is) (tt, both)
