-- The first sector of a file, and what is answered where it decides.
use Rattle.std.proofs.Common.{◌≡◌, ◌⊎◌, ⊎_elim, inl, inr, ℕ, ◌+◌, ◌/◌, ◌%◌, ◌<◌, ◌≤◌, Bool, true, false, not, ◌&&◌, List, [], ◌∷◌, length, length-append, Option, Some, None, Ok, refl, sym, ap, ◌∙◌, arith, subst}
use Rattle.std.specs.Prelude.{◌==◌, IfSome}
use Rattle.std.specs.Option.{option_map_or}
use Rattle.std.proofs.lemmas.Bool.{and_parts}
use Rattle.std.proofs.lemmas.Bool.Decides.{nat_tests}
use Rattle.common_laws.specs.Lists.{first_some, given}
use Rattle.sm_base.specs.declared.refusals.Refusal.{Refusal}
use Rattle.sm_base.specs.declared.refusals.Refusal.TheVariants.{Cut, Differencing as Differs}
use Rattle.sm_disk.specs.Streams.{Takes}
use Rattle.vhd_fields.specs.declared.faults.FieldFault.TheVariants.{Field}
use Rattle.vhd_fields.specs.declared.footers.Footer.{Footer}
use Rattle.vhd_fields.specs.Fields.{number_at}
use Rattle.vhd_fields.specs.Footers.{footer_fault, footer_fields, footer_read, footer_tests, is_size}
use Rattle.vhd_stream.specs.Files.{File, sector_at}
use Rattle.vhd_import.specs.declared.faults.ImportFault.TheVariants as fault
use Rattle.vhd_import.specs.declared.heads.Beginning.{Beginning}
use Rattle.vhd_import.specs.declared.heads.Beginning.TheVariants.{Differencing, Dynamic, Other}
use Rattle.vhd_import.specs.Beginnings.{BeginsSo}
use Rattle.vhd_import.specs.Heads.{footer_at, is_dynamic, is_kind, size_at}
use Rattle.vhd_import.specs.Progress.{FaultSays}
use Rattle.vhd_import.specs.Room.{Target, is_too_large}
use Rattle.vhd_import.specs.Verdicts.{IsRefusedFirst, denial_at, denial_at_end, file_of, fixed_denials}
use Rattle.vhd_import.proofs.FrontLaws.{begins-with, none-read, refused-says}
use Rattle.vhd_import.proofs.HeadLaws.{of-kind, passes, read-fields}
use Rattle.vhd_import.proofs.TestLaws.{read-ok, same_some}

-- a file without sectors is cut
pub open-none : (inside : Bool) → denial_at_end [] inside ≡ Some (Cut 0)
unfolding denial_at_end
open-none true = refl
open-none false = refl

-- a differencing file is denied by its first sector
first-of-three : (a b c : Option Refusal) (r : Refusal) → a ≡ Some r → first_some (a ∷ b ∷ c ∷ []) ≡ Some r
first-of-three a b c r is = rw is refl

differs-denial : (t : Target) (file : File) → BeginsSo Differencing file → denial_at t file 0 ≡ Some Differs
unfolding fixed_denials
differs-denial t file begins =
    let differs : given ((0 == 0) && is_kind 4 (footer_at file 0)) Differs ≡ Some Differs = ap (λ b. given ((0 == 0) && b) Differs) begins.1 in
    rw begins.0 (first-of-three _ _ _ Differs differs)

pub differencing-says : (t : Target) (had left : Option (List ℕ)) (first : List ℕ) → length first ≡ 512 → BeginsSo Differencing (first ∷ []) → Takes had first left → FaultSays t had (fault.Refused Differs)
differencing-says t had left first full begins takes = refused-says t had had left [] [] first Differs (none-read t had) full (omega arith) takes (differs-denial t (first ∷ []) begins)

-- ---- a footer says some sectors

some-size : (bytes : List ℕ) (f : Footer) → footer_read bytes ≡ Ok f → 0 < f.current / 512
unfolding footer_tests footer_fields
some-size bytes f reads =
    let parts = read-fields (footer_fault bytes) (footer_fields bytes) f reads in
    let n : ℕ = number_at 48 8 bytes in
    let good : is_size n ≡ true = passes (footer_tests bytes) parts.0 (is_size n, Field 48) (inr (inr (inr (inr (inl refl))))) in
    let at : n ≡ f.current = ap (λ (x : Footer). x.current) parts.1 in
    let both = and_parts (n % 512 == 0) (not (n == 0)) good in
    let whole : n % 512 ≡ 0 = let t : (n % 512 == 0) ≡ true = both.0 in grind (arith, nat_tests) in
    let more : 0 < n = let t : not (n == 0) ≡ true = both.1 in grind (arith, nat_tests) in
    omega (arith, more, whole, at)

-- so a dynamic file holds a disk of some
pub some-dynamic : (file : File) (n : ℕ) → BeginsSo (Dynamic n) file → 0 < n
unfolding footer_at size_at
some-dynamic file n begins =
    let f = of-kind 3 (footer_at file 0) begins.0 in
    let reads = read-ok (footer_read (sector_at file 0)) f.0 f.1 in
    let some = some-size (sector_at file 0) f.0 reads in
    let sized : f.0.current / 512 ≡ n = ap (λ (o : Option Footer). option_map_or (λ x. x.current / 512) o 0) (sym f.1) ∙ begins.1 in
    omega (arith, some, sized)

-- ---- a file that its first sector refuses

-- the same, of the sectors of a file
abbrev pub RefusesFirst : Target → File → Type 0
RefusesFirst t file = (is_kind 4 (footer_at file 0) ≡ true) ⊎ ((is_dynamic file ≡ true) × (is_too_large t (size_at file) ≡ true))

two-kinds : (o : Option Footer) → is_kind 3 o ≡ true → is_kind 4 o ≡ true → ⊥
two-kinds o three four =
    let f = of-kind 3 o three in
    let g = of-kind 4 o four in
    let same : f.0 ≡ g.0 = same_some f.0 g.0 (sym f.1 ∙ g.1) in
    omega (arith, f.2, g.2, ap (λ (x : Footer). x.kind) same)

-- the disk of a dynamic file that it refuses is too large
pub dynamic-large : (t : Target) (file : File) (n : ℕ) → BeginsSo (Dynamic n) file → RefusesFirst t file → is_too_large t n ≡ true
dynamic-large t file n begins (inl four) = absurd (two-kinds (footer_at file 0) begins.0 four)
dynamic-large t file n begins (inr large) = ap (is_too_large t) (sym begins.1) ∙ large.1

-- and no file that begins otherwise is refused by it
pub other-taken : (t : Target) (file : File) → BeginsSo Other file → RefusesFirst t file → ⊥
other-taken t file begins (inl four) = let e : true ≡ false = sym four ∙ begins.1 in cc e
other-taken t file begins (inr large) = let e : true ≡ false = sym large.0 ∙ begins.0 in cc e

-- a file of which a sector was read is not shorter than one
not-shorter : (bytes : List ℕ) (left : Option (List ℕ)) (first : List ℕ) → length first ≡ 512 → Takes (Some bytes) first left → 512 ≤ length bytes
not-shorter bytes left first full takes =
    let long : length bytes ≡ length first + length takes.0 = ap (λ (b : List ℕ). length b) takes.2 ∙ length-append first takes.0 in
    omega (arith, long, full)

-- what holds where a file that begins so is refused by its first sector
pub where-refused : (t : Target) (had left : Option (List ℕ)) (first : List ℕ) (b : Beginning) (P : Type 0) → length first ≡ 512 → ((rest : File) → BeginsSo b (first ∷ rest)) → Takes had first left
    → ((file : File) → BeginsSo b file → RefusesFirst t file → P) → IfSome had (λ bytes. IsRefusedFirst t bytes → P)
where-refused t None left first b P full begins takes all = tt
where-refused t (Some bytes) left first b P full begins takes all = λ refused.
    let w = begins-with bytes left first full takes in
    let whole = not-shorter bytes left first full takes in
    ⊎_elim (λ short. absurd (omega (arith, short, whole))) (all (file_of bytes) (subst (BeginsSo b) (sym w.1) (begins w.0))) refused

-- and what holds of any file holds there
pub refused-or-not : (t : Target) (had : Option (List ℕ)) (P : Type 0) → P → IfSome had (λ bytes. IsRefusedFirst t bytes → P)
refused-or-not t None P p = tt
refused-or-not t (Some bytes) P p = λ refused. p
