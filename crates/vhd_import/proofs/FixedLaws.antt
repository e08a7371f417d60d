-- A fixed file, sector by sector.
use Rattle.std.proofs.Common.{◌≡◌, inl, inr, ⊎_elim, ℕ, suc, ◌+◌, ◌-◌, ◌/◌, ◌%◌, ◌<◌, ◌≤◌, Bool, true, false, not, ◌&&◌, List, [], ◌∷◌, ◌++◌, length, take, Option, Some, None, Result, Ok, Err, refl, sym, ap, ◌∙◌, arith, subst}
use Rattle.std.specs.Prelude.{◌==◌, All, IfErr, IfOk, OnOk, nat_lt, if◌then◌else◌}
use Rattle.std.specs.List.{cons_option}
use Rattle.std.proofs.Math.ListN.{get_or-append}
use Rattle.std.proofs.Math.Nat.{div-eq_of_lt, div-lt_iff_lt-mul}
use Rattle.std.proofs.lemmas.Bool.{and_parts, cases_lt}
use Rattle.std.proofs.lemmas.Bool.Decides.{nat_tests}
use Rattle.std.proofs.lemmas.List.{get_or-append-add, get_or_past, length-take}
use Rattle.common_laws.specs.Lists.{first_some, given, ◌>>=◌}
use Rattle.sm_base.specs.declared.refusals.Refusal.{Refusal}
use Rattle.sm_base.specs.declared.refusals.Refusal.TheVariants.{BadFile, BadSize, Cut, Differencing}
use Rattle.sm_base.specs.Numbers.{div_up}
use Rattle.sm_disk.specs.Sectors.{zeros}
use Rattle.sm_disk.specs.Streams.{Takes}
use Rattle.sm_run.specs.Runs.{IsSpent}
use Rattle.vhd_fields.specs.declared.faults.FieldFault.TheVariants.{Field}
use Rattle.vhd_fields.specs.declared.footers.Footer.{Footer}
use Rattle.vhd_fields.specs.Fields.{number_at}
use Rattle.vhd_fields.specs.Footers.{footer_fault, footer_fields, footer_read, footer_tests, is_size}
use Rattle.vhd_stream.specs.Files.{File, sector_at}
use Rattle.vhd_import.specs.declared.faults.ImportFault.{ImportFault}
use Rattle.vhd_import.specs.declared.faults.ImportFault.TheVariants as fault
use Rattle.vhd_import.specs.declared.heads.Beginning.TheVariants.{Other}
use Rattle.vhd_import.specs.declared.reading.Part.TheVariants.{End}
use Rattle.vhd_import.specs.Beginnings.{BeginsSo}
use Rattle.vhd_import.specs.Heads.{footer_at, is_kind, layout_at}
use Rattle.vhd_import.specs.Making.{HasAnsweredRoom, begin_lacks, filled, put_lacks}
use Rattle.vhd_import.specs.Progress.{AreCounted, EndDenies, FaultSays, HasImported, HasNext, HasRead, IsMadeOf, puts_of}
use Rattle.vhd_import.specs.Puts.{Put, dynamic_put, fixed_put, put_at}
use Rattle.vhd_import.specs.Room.{Target, is_too_large, lacks_space}
use Rattle.vhd_import.specs.Verdicts.{denial_at, denial_at_end, fixed_denials, is_footed, sector_limit, sectors_of}
use Rattle.vhd_import.proofs.BelowLaws.{fixed-within}
use Rattle.vhd_import.proofs.FilledLaws.{filled-file, lacks-put}
use Rattle.vhd_import.proofs.FrontLaws.{count-more, end-makes, end-says, file-is, more-read, none-read, puts-front, refused-says}
use Rattle.vhd_import.proofs.MadeLaws.{IsUndenied, fixed-holds, footed}
use Rattle.vhd_import.proofs.HeadLaws.{passes, read-fields}
use Rattle.vhd_import.proofs.PutLaws.{puts-fixed}
use Rattle.vhd_import.proofs.TestLaws.{read-ok}

-- ---- what a sector decides and puts

first-of-three : (a b c : Option Refusal) → a ≡ None → b ≡ None → first_some (a ∷ b ∷ c ∷ []) ≡ c
first-of-three a b (Some c) ha hb = rw (ha, hb) refl
first-of-three a b None ha hb = rw (ha, hb) refl

pub none-fits : (t : Target) → 0 < t.block → is_too_large t 0 ≡ false
unfolding div_up
none-fits t some =
    let low : 0 + t.block - 1 < t.block = omega (arith, some) in
    let none : (0 + t.block - 1) / t.block ≡ 0 = div-eq_of_lt low in
    grind (arith, nat_tests)

-- the last sector of a disk that is not too large has an entry for its block
pub fits-below : (t : Target) (k : ℕ) → 0 < t.block → 0 < k → is_too_large t k ≡ false → (k - 1) / t.block < t.entries
unfolding div_up
fits-below t k some more fits =
    let low : (k + t.block - 1) / t.block < t.entries + 1 = grind (arith, nat_tests) in
    let m = (div-lt_iff_lt-mul {k = t.block} {x = k + t.block - 1} {y = t.entries + 1} some).0 low in
    (div-lt_iff_lt-mul {k = t.block} {x = k - 1} {y = t.entries} some).1 (omega (arith, m, more))

pub fits-size : (t : Target) (k entries block : ℕ) → t.entries ≡ entries → t.block ≡ block → is_too_large t k ≡ false → div_up k block ≤ entries
fits-size t k entries block same alike fits =
    let low : div_up k t.block ≤ t.entries = grind (arith, nat_tests) in
    subst (λ b. div_up k b ≤ entries) alike (omega (arith, low, same))

-- the first sector is denied where an image without slots has no room
pub first-denial : (t : Target) (file : File) → BeginsSo Other file → 0 < t.block → denial_at t file 0 ≡ begin_lacks t
unfolding fixed_denials lacks_space begin_lacks
first-denial t file plain some =
    let fits = none-fits t some in
    let differs : given ((0 == 0) && is_kind 4 (footer_at file 0)) Differencing ≡ None = rw plain.1 refl in
    let large : given (is_too_large t 0) BadSize ≡ None = ap (λ b. given b BadSize) fits in
    rw plain.0 (first-of-three _ _ _ differs large)

pub later-denial : (t : Target) (file : File) (k : ℕ) → BeginsSo Other file → is_too_large t (suc k) ≡ false → denial_at t file (suc k) ≡ lacks_space t file (suc k)
unfolding fixed_denials
later-denial t file k plain fits =
    let no : (suc k == 0) ≡ false = grind (arith, nat_tests) in
    let differs : given ((suc k == 0) && is_kind 4 (footer_at file 0)) Differencing ≡ None = rw no refl in
    let large : given (is_too_large t (suc k)) BadSize ≡ None = ap (λ b. given b BadSize) fits in
    rw plain.0 (first-of-three _ _ _ differs large)

pub large-denial : (t : Target) (file : File) (k : ℕ) → BeginsSo Other file → is_too_large t (suc k) ≡ true → denial_at t file (suc k) ≡ Some BadSize
unfolding fixed_denials
large-denial t file k plain large =
    let no : (suc k == 0) ≡ false = grind (arith, nat_tests) in
    rw (plain.0, no, large) refl

pub first-put : (file : File) → BeginsSo Other file → put_at file 0 ≡ None
unfolding put_at
first-put file plain = ap (λ b. if b then layout_at file >>= (λ f. dynamic_put f file 0) else fixed_put file 0) plain.0

pub later-put : (file : File) (k : ℕ) → BeginsSo Other file → put_at file (suc k) ≡ Some (record { sector = k; bytes = sector_at file k })
unfolding put_at
later-put file k plain = ap (λ b. if b then layout_at file >>= (λ f. dynamic_put f file (suc k)) else fixed_put file (suc k)) plain.0

-- ---- what was read

-- So many sectors of a fixed file were read, of which this is the last, and all in front of it were put.
pub record IsFixedRead (t : Target) (had left : Option (List ℕ)) (count : ℕ) (held : List ℕ) (puts : List Put) : Type 0 where
  pub front : File
  pub read : HasRead t had left front puts
  pub long : length front ≡ count
  pub last : sector_at front (count - 1) ≡ held
  pub plain : BeginsSo Other front

plain-more : (front : File) (s : List ℕ) → 0 < length front → BeginsSo Other front → BeginsSo Other (front ++ s ∷ [])
unfolding footer_at
plain-more front s some plain =
    let same : sector_at (front ++ s ∷ []) 0 ≡ sector_at front 0 = get_or-append front (s ∷ []) [] 0 some in
    (rw same plain.0, rw same plain.1)

last-more : (front : File) (s : List ℕ) → sector_at (front ++ s ∷ []) (length front) ≡ s
last-more front s = let e : length front ≡ length front + 0 = omega arith in ap (sector_at (front ++ s ∷ [])) e ∙ get_or-append-add front (s ∷ []) 0 []

-- the volume was made
pub begun-fixed : (t : Target) (had left : Option (List ℕ)) (first : List ℕ) → 0 < t.block → length first ≡ 512 → BeginsSo Other (first ∷ []) → Takes had first left → begin_lacks t ≡ None → IsFixedRead t had left 1 first []
begun-fixed t had left first some long plain takes room = record {
  front = first ∷ [];
  read = more-read t had had left [] [] [] first (none-read t had) long (omega arith) takes (first-denial t (first ∷ []) plain some ∙ room) (ap (λ (o : Option Put). cons_option o []) (sym (first-put (first ∷ []) plain)));
  long = refl;
  last = refl;
  plain = plain;
}

-- and where it has no room, that is the answer
pub begun-refused : (t : Target) (had left : Option (List ℕ)) (first : List ℕ) (r : Refusal) → 0 < t.block → length first ≡ 512 → BeginsSo Other (first ∷ []) → Takes had first left → begin_lacks t ≡ Some r → FaultSays t had (fault.Refused r)
begun-refused t had left first r some long plain takes room = refused-says t had had left [] [] first r (none-read t had) long (omega arith) takes (first-denial t (first ∷ []) plain some ∙ room)

as-suc : (n : ℕ) → 0 < n → (k : ℕ) × (n ≡ suc k)
as-suc n some = (n - 1, omega (arith, some))

-- a further sector makes the disk too large
pub large-fixed : (t : Target) (had mid left : Option (List ℕ)) (count : ℕ) (held next : List ℕ) (puts : List Put) → IsFixedRead t had mid count held puts → 0 < count → length next ≡ 512 → count < sector_limit → Takes mid next left
    → is_too_large t count ≡ true → FaultSays t had (fault.Refused BadSize)
large-fixed t had mid left count held next puts f some long more takes large =
    let k : ℕ = count - 1 in
    let is : length f.front ≡ suc k = omega (arith, f.long, some) in
    let big : is_too_large t (suc k) ≡ true = let e : count ≡ suc k = omega (arith, some) in ap (is_too_large t) (sym e) ∙ large in
    refused-says t had mid left f.front puts next BadSize f.read long (omega (arith, f.long, more)) takes
    (ap (denial_at t (f.front ++ next ∷ [])) is ∙ large-denial t (f.front ++ next ∷ []) k (plain-more f.front next (omega (arith, is)) f.plain) big)

-- what a further sector decides where the disk is not too large
next-denial : (t : Target) (had mid : Option (List ℕ)) (count : ℕ) (held next : List ℕ) (puts : List Put) → (f : IsFixedRead t had mid count held puts) → 0 < count → is_too_large t count ≡ false
    → (denial_at t (f.front ++ next ∷ []) (length f.front) ≡ put_lacks t (record { sector = count - 1; bytes = held }) puts) × (put_at (f.front ++ next ∷ []) (length f.front) ≡ Some (record { sector = count - 1; bytes = held }))
next-denial t had mid count held next puts f some fits =
    let k : ℕ = count - 1 in
    let all : File = f.front ++ next ∷ [] in
    let is : length f.front ≡ suc k = omega (arith, f.long, some) in
    let small : is_too_large t (suc k) ≡ false = let e : count ≡ suc k = omega (arith, some) in ap (is_too_large t) (sym e) ∙ fits in
    let plain = plain-more f.front next (omega (arith, is)) f.plain in
    let here : sector_at all k ≡ held = get_or-append f.front (next ∷ []) [] k (omega (arith, is)) ∙ f.last in
    let put : put_at all (suc k) ≡ Some (record { sector = k; bytes = held }) = later-put all k plain ∙ ap (λ (b : List ℕ). Some (record { sector = k; bytes = b })) here in
    let before : puts_of all (suc k) ≡ puts = sym (ap (puts_of all) is) ∙ puts-front f.front (next ∷ []) (length f.front) (omega arith) ∙ sym f.read.puts_are in (
      ap (denial_at t all) is ∙ later-denial t all k plain small ∙ lacks-put t all k (record { sector = k; bytes = held }) put ∙ ap (put_lacks t (record { sector = k; bytes = held })) before,
      ap (put_at all) is ∙ put,
    )

pub more-fixed : (t : Target) (had mid left : Option (List ℕ)) (count : ℕ) (held next : List ℕ) (puts : List Put) → IsFixedRead t had mid count held puts → 0 < count → length next ≡ 512 → count < sector_limit → Takes mid next left
    → is_too_large t count ≡ false → put_lacks t (record { sector = count - 1; bytes = held }) puts ≡ None → IsFixedRead t had left (count + 1) next (record { sector = count - 1; bytes = held } ∷ puts)
more-fixed t had mid left count held next puts f some long more takes fits room =
    let d = next-denial t had mid count held next puts f some fits in
    record {
      front = f.front ++ next ∷ [];
      read = more-read t had mid left f.front puts (record { sector = count - 1; bytes = held } ∷ puts) next f.read long (omega (arith, f.long, more)) takes (d.0 ∙ room) (ap (λ (o : Option Put). cons_option o puts) (sym d.1));
      long = omega (arith, count-more f.front next, f.long);
      last = let e : count + 1 - 1 ≡ length f.front = omega (arith, f.long) in ap (sector_at (f.front ++ next ∷ [])) e ∙ last-more f.front next;
      plain = plain-more f.front next (omega (arith, f.long, some)) f.plain;
    }

pub full-fixed : (t : Target) (had mid left : Option (List ℕ)) (count : ℕ) (held next : List ℕ) (puts : List Put) (r : Refusal) → IsFixedRead t had mid count held puts → 0 < count → length next ≡ 512 → count < sector_limit → Takes mid next left
    → is_too_large t count ≡ false → put_lacks t (record { sector = count - 1; bytes = held }) puts ≡ Some r → FaultSays t had (fault.Refused r)
full-fixed t had mid left count held next puts r f some long more takes fits room =
    let d = next-denial t had mid count held next puts f some fits in
    refused-says t had mid left f.front puts next r f.read long (omega (arith, f.long, more)) takes (d.0 ∙ room)

-- ---- the end

pub ended-fixed : (t : Target) (had mid left : Option (List ℕ)) (count : ℕ) (held part : List ℕ) (puts : List Put) (e : ImportFault) → (f : IsFixedRead t had mid count held puts) → Takes mid part left → IsSpent left → length part < 512
    → (0 < length part → count < sector_limit) → EndDenies f.front (nat_lt 0 (length part)) e → FaultSays t had e
ended-fixed t had mid left count held part puts (fault.Refused r) f takes spent less within is = end-says t had mid left f.front puts part r f.read takes spent less (λ some. let w = within some in omega (arith, w, f.long)) is
ended-fixed t had mid left count held part puts fault.Long f takes spent less within is = absurd is
ended-fixed t had mid left count held part puts fault.Device f takes spent less within is = absurd is
ended-fixed t had mid left count held part puts fault.Source f takes spent less within is = absurd is
ended-fixed t had mid left count held part puts fault.NoMemory f takes spent less within is = absurd is

-- a disk is made
pub made-fixed : (t : Target) (bytes : List ℕ) (mid left : Option (List ℕ)) (n : ℕ) (held : List ℕ) (puts : List Put) → (f : IsFixedRead t (Some bytes) mid (n + 1) held puts) → Takes mid [] left → IsSpent left → denial_at_end f.front false ≡ None
    → IsMadeOf t bytes n puts
made-fixed t bytes mid left n held puts f still spent is =
    let undenied : IsUndenied t f.front = record { none = f.read.undenied; ended = is } in
    let holds = fixed-holds t f.front (sectors_of f.front) f.plain.0 undenied refl in
    let count : length (sectors_of f.front) ≡ n = omega (arith, holds.disk.count, f.long) in
    record {
      sectors = sectors_of f.front;
      made = end-makes t bytes mid left f.front puts f.read still spent is;
      long = count;
      puts_are = f.read.puts_are ∙ ap (λ (x : File). puts_of x (length x)) (sym (file-is t bytes mid left f.front puts f.read still spent));
      filled_are = λ s. ap (λ l. filled l s) f.read.puts_are ∙ filled-file f.front (sectors_of f.front) s (puts-fixed f.front (sectors_of f.front) holds)
          (⊎_elim
          (λ (low : s < n). inl (suc s, record { sector = s; bytes = sector_at f.front s }, omega (arith, low, f.long), later-put f.front s f.plain, refl))
          (λ (high : n ≤ s). inr (get_or_past (sectors_of f.front) s zeros (omega (arith, high, count))))
          (cases_lt s n));
    }

-- each of its puts lies within it
below-fixed : (t : Target) (had left : Option (List ℕ)) (count n : ℕ) (held : List ℕ) (puts : List Put) → IsFixedRead t had left count held puts → n + 1 ≡ count → All (λ (p : Put). p.sector < n) puts
below-fixed t had left count n held puts f is =
    subst (λ (l : List Put). All (λ (p : Put). p.sector < n) l) (sym f.read.puts_are) (fixed-within f.front n f.plain.0 (omega (arith, f.long, is)))

-- ---- how a fixed file may end

-- inside a sector
pub cut-end : (file : File) (count part : ℕ) → length file ≡ count → 0 < part → denial_at_end file (nat_lt 0 part) ≡ Some (Cut count)
unfolding denial_at_end
cut-end file count part long some =
    let inside : nat_lt 0 part ≡ true = grind (arith, nat_tests) in
    rw inside (ap (λ n. Some (Cut n)) long)

-- or with a sector that is not its footer
pub bad-end : (file : File) (count part : ℕ) → length file ≡ count → 0 < count → BeginsSo Other file → part ≡ 0 → is_footed file ≡ false → denial_at_end file (nat_lt 0 part) ≡ Some (BadFile (count - 1))
unfolding denial_at_end
bad-end file count part long some plain none bad =
    let whole : nat_lt 0 part ≡ false = grind (arith, nat_tests) in
    let more : (length file == 0) ≡ false = grind (arith, nat_tests) in
    rw (whole, more, plain.0, bad) (ap (λ n. Some (BadFile (n - 1))) long)

pub made-end : (file : File) → 0 < length file → BeginsSo Other file → is_footed file ≡ true → denial_at_end file false ≡ None
unfolding denial_at_end
made-end file some plain good =
    let more : (length file == 0) ≡ false = grind (arith, nat_tests) in
    rw (more, plain.0, good) refl

-- a footer says some sectors
some-current : (bytes : List ℕ) (f : Footer) → footer_read bytes ≡ Ok f → 0 < f.current
unfolding footer_tests footer_fields
some-current bytes f reads =
    let parts = read-fields (footer_fault bytes) (footer_fields bytes) f reads in
    let n : ℕ = number_at 48 8 bytes in
    let good : is_size n ≡ true = passes (footer_tests bytes) parts.0 (is_size n, Field 48) (inr (inr (inr (inr (inl refl))))) in
    let at : n ≡ f.current = ap (λ (x : Footer). x.current) parts.1 in
    let some : not (n == 0) ≡ true = (and_parts (n % 512 == 0) (not (n == 0)) good).1 in
    let more : 0 < n = grind (arith, nat_tests) in
    omega (arith, more, at)

-- so a fixed file holds some sectors
pub some-sectors : (file : File) (n : ℕ) → length file ≡ n + 1 → is_footed file ≡ true → 0 < n
unfolding footer_at
some-sectors file n long good =
    let f = footed file good in
    let reads = read-ok (footer_read (sector_at file (length file - 1))) f.footer f.reads in
    let some = some-current (sector_at file (length file - 1)) f.footer reads in
    omega (arith, some, f.size, long)

pub some-end : (last : List ℕ) (n : ℕ) (b : Bool) → b ≡ true → ((file : File) → length file ≡ n + 1 → sector_at file n ≡ last → b ≡ is_footed file) → 0 < n
some-end last n b good all = ⊎_elim (λ (some : 0 < n). some) (λ (low : n ≤ 0). absurd (nothing (omega (arith, low)))) (cases_lt 0 n)
  where
    nothing : n ≡ 0 → ⊥
    nothing none =
        let e : is_footed (last ∷ []) ≡ true = sym (all (last ∷ []) (omega (arith, none)) (ap (sector_at (last ∷ [])) none)) ∙ good in
        let s = some-sectors (last ∷ []) 0 refl e in
        omega (arith, s)

-- ---- answers

pub imported-err : (t : Target) (had : Option (List ℕ)) (r : Result ℕ ImportFault) (holds : List Put → Type 0) (e : ImportFault) → r ≡ Err e → FaultSays t had e → HasImported t had r holds
imported-err t had r holds e is says = subst (λ (x : Result ℕ ImportFault). HasImported t had x holds) (sym is) (says, tt)

-- where a put is refused for want of extents, that is the answer
pub room-says : (t : Target) (had : Option (List ℕ)) (lacking : Option Refusal) (e : ImportFault) → HasAnsweredRoom lacking (Err e) → ((r : Refusal) → lacking ≡ Some r → FaultSays t had (fault.Refused r)) → FaultSays t had e
room-says t had lacking (fault.Refused r) room says = says r room
room-says t had lacking fault.Long room says = absurd room
room-says t had lacking fault.Device room says = tt
room-says t had lacking fault.Source room says = tt
room-says t had lacking fault.NoMemory room says = tt

pub counts-same : (r : Result ℕ ImportFault) (s s' d d' : ℕ) → s' ≡ s → d' ≡ d → ((a b : ℕ) → AreCounted r a a b b) → AreCounted r s s' d d'
counts-same r s s' d d' same alike all = subst (λ n. AreCounted r s n d d') (sym same) (subst (λ n. AreCounted r s s d n) (sym alike) (all s d))

-- what is answered at the end
pub end-answers : (t : Target) (had mid left : Option (List ℕ)) (count n : ℕ) (held to : List ℕ) (holds : List Put → Type 0) (puts : List Put) (r : Result ℕ ImportFault) → (f : IsFixedRead t had mid count held puts) → holds puts
    → HasNext count (End n) mid to left → length to ≡ 512
    → IfOk r (λ k. (k + 1 ≡ count) × (n ≡ 0) × (0 < k) × ((file : File) → length file ≡ count → sector_at file k ≡ held → BeginsSo Other file → denial_at_end file false ≡ None))
    → IfErr r (λ e. (file : File) → length file ≡ count → sector_at file (count - 1) ≡ held → BeginsSo Other file → EndDenies file (nat_lt 0 n) e)
    → HasImported t had r holds
end-answers t had mid left count n held to holds puts (Err e) f h next full made denied =
    let short : length (take n to) ≡ n = omega (arith, length-take n to, full, next.0) in (
      ended-fixed t had mid left count held (take n to) puts e f next.2 next.3 (omega (arith, short, next.0)) (λ some. next.1 (omega (arith, some, short)))
          (subst (λ m. EndDenies f.front (nat_lt 0 m) e) (sym short) (denied f.front f.long f.last f.plain)),
      tt,
    )
end-answers t None mid left count n held to holds puts (Ok k) f h next full made denied =
    (tt, record { puts = puts; held = h; below = below-fixed t None mid count k held puts f made.0; made = tt })
end-answers t (Some bytes) mid left count n held to holds puts (Ok k) f h next full made denied =
    let g : IsFixedRead t (Some bytes) mid (k + 1) held puts = subst (λ m. IsFixedRead t (Some bytes) mid m held puts) (sym made.0) f in
    let none : take n to ≡ [] = ap (λ m. take m to) made.1 in
    let still : Takes mid [] left = subst (λ b. Takes mid b left) none next.2 in
    let last : sector_at g.front k ≡ held = let e : k + 1 - 1 ≡ k = omega arith in ap (sector_at g.front) (sym e) ∙ g.last in (
      tt,
      record {
        puts = puts;
        held = h;
        below = below-fixed t (Some bytes) mid count k held puts f made.0;
        made = made-fixed t bytes mid left k held puts g still next.3 (made.3 g.front (g.long ∙ made.0) last g.plain);
      },
    )

pub on-ok : {T E : Type 0} (r : Result T E) (P : Type 0) → P → OnOk r P
on-ok (Ok x) P p = p
on-ok (Err e) P p = tt
