-- Sectors that decide nothing and put nothing.
use Rattle.std.proofs.Common.{◌≡◌, ℕ, ◌+◌, ◌<◌, ◌≤◌, List, [], ◌∷◌, ◌++◌, length, take, true, Option, Some, None, refl, sym, ap, ◌∙◌, arith, subst, append_assoc}
use Rattle.std.specs.Prelude.{nat_lt}
use Rattle.std.specs.List.{concat, cons_option}
use Rattle.std.proofs.lemmas.Bool.Decides.{nat_tests}
use Rattle.std.proofs.lemmas.List.{append-nil, length-take}
use Rattle.sm_base.specs.declared.refusals.Refusal.TheVariants.{Cut}
use Rattle.sm_disk.specs.Streams.{Takes}
use Rattle.sm_disk.proofs.StreamLaws.{Takes-then}
use Rattle.vhd_stream.specs.Files.{File}
use Rattle.vhd_import.specs.declared.faults.ImportFault.TheVariants as fault
use Rattle.vhd_import.specs.declared.reading.Part.TheVariants.{End}
use Rattle.vhd_import.specs.Progress.{FaultSays, HasNext, HasRead, IsQuiet}
use Rattle.vhd_import.specs.Puts.{Put, put_at}
use Rattle.vhd_import.specs.Room.{Target}
use Rattle.vhd_import.specs.Verdicts.{denial_at, denial_at_end, sector_limit}
use Rattle.vhd_import.proofs.FrontLaws.{count-more, end-says, more-read}

-- a front was read, and some sectors more up to so many, which put nothing
pub record IsSkipped (t : Target) (had left : Option (List ℕ)) (front : File) (puts : List Put) (count : ℕ) : Type 0 where
  pub more : File
  pub read : HasRead t had left (front ++ more) puts
  pub long : length (front ++ more) ≡ count

pub none-skipped : (t : Target) (had left : Option (List ℕ)) (front : File) (puts : List Put) (count : ℕ) → HasRead t had left front puts → length front ≡ count → IsSkipped t had left front puts count
none-skipped t had left front puts count h long =
    let same : front ≡ front ++ [] = sym (append-nil front) in
    record { more = []; read = subst (λ f. HasRead t had left f puts) same h; long = ap (λ (f : File). length f) (sym same) ∙ long }

pub more-skipped : (t : Target) (had mid left : Option (List ℕ)) (front : File) (puts : List Put) (count until : ℕ) (s : List ℕ) → IsSkipped t had mid front puts count → IsQuiet t front until → length front ≤ count → count < until → count < sector_limit
    → length s ≡ 512 → Takes mid s left → IsSkipped t had left front puts (count + 1)
more-skipped t had mid left front puts count until s k quiet from below few long takes =
    let all : File = front ++ (k.more ++ s ∷ []) in
    let same : (front ++ k.more) ++ s ∷ [] ≡ all = append_assoc front k.more (s ∷ []) in
    let one : length all ≡ count + 1 = ap (λ (f : File). length f) (sym same) ∙ omega (arith, count-more (front ++ k.more) s, k.long) in
    let none : denial_at t ((front ++ k.more) ++ s ∷ []) (length (front ++ k.more)) ≡ None =
    ap (denial_at t ((front ++ k.more) ++ s ∷ [])) k.long ∙ ap (λ f. denial_at t f count) same ∙ quiet.undenied (k.more ++ s ∷ []) count from below (omega (arith, one)) in
    let nothing : put_at ((front ++ k.more) ++ s ∷ []) (length (front ++ k.more)) ≡ None =
    ap (put_at ((front ++ k.more) ++ s ∷ [])) k.long ∙ ap (λ f. put_at f count) same ∙ quiet.puts (k.more ++ s ∷ []) count from below (omega (arith, one)) in
    record {
      more = k.more ++ s ∷ [];
      read = subst (λ f. HasRead t had left f puts) same
          (more-read t had mid left (front ++ k.more) puts puts s k.read long (omega (arith, k.long, few)) takes none (ap (λ (o : Option Put). cons_option o puts) (sym nothing)));
      long = one;
    }

-- nothing more was taken
pub still-read : (t : Target) (had mid left : Option (List ℕ)) (front : File) (puts : List Put) → HasRead t had mid front puts → Takes mid [] left → HasRead t had left front puts
still-read t had mid left front puts h still = record {
  whole = h.whole;
  few = h.few;
  takes = subst (λ b. Takes had b left) (append-nil (concat front)) (Takes-then had mid left (concat front) [] h.takes still);
  undenied = h.undenied;
  puts_are = h.puts_are;
}

inside-cut : (file : File) (n : ℕ) → 0 < n → denial_at_end file (nat_lt 0 n) ≡ Some (Cut (length file))
unfolding denial_at_end
inside-cut file n some =
    let inside : nat_lt 0 n ≡ true = grind (arith, nat_tests) in
    rw inside refl

-- a file ends inside a sector
pub inside-says : (t : Target) (had mid left : Option (List ℕ)) (front : File) (puts : List Put) (to : List ℕ) (n count : ℕ) → HasRead t had mid front puts → length front ≡ count → HasNext count (End n) mid to left → length to ≡ 512 → 0 < n
    → FaultSays t had (fault.Refused (Cut count))
inside-says t had mid left front puts to n count h long next full some =
    let short : length (take n to) ≡ n = omega (arith, length-take n to, full, next.0) in
    end-says t had mid left front puts (take n to) (Cut count) h next.2 next.3 (omega (arith, short, next.0)) (λ more. let w = next.1 some in omega (arith, w, long))
    (inside-cut front (length (take n to)) (omega (arith, short, some)) ∙ ap (λ m. Some (Cut m)) long)
