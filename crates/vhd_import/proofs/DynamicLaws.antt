-- A dynamic file, sector by sector: what is decided at each, and where it may end.
use Rattle.std.proofs.Common.{◌≡◌, ℕ, zero, suc, ◌+◌, ◌-◌, ◌*◌, ◌<◌, ◌≤◌, Bool, true, false, not, ◌&&◌, [], ◌∷◌, ◌++◌, length, Option, Some, None, refl, ap, ◌∙◌, arith}
use Rattle.std.specs.Prelude.{◌==◌, ◌||◌, is_some, min, nat_le, if◌then◌else◌}
use Rattle.std.specs.Option.{option_map_or}
use Rattle.std.proofs.lemmas.Bool.{and_parts}
use Rattle.std.proofs.lemmas.Bool.Decides.{nat_tests}
use Rattle.common_laws.specs.Lists.{first_some, given, ◌>>=◌}
use Rattle.sm_base.specs.declared.refusals.Refusal.{Refusal}
use Rattle.sm_base.specs.declared.refusals.Refusal.TheVariants.{BadFile, BadSize, Cut}
use Rattle.vhd_layout.specs.Readings.{some_below}
use Rattle.vhd_stream.specs.Files.{File, FileLayout, IsThere, block_end, entry, table_end}
use Rattle.vhd_import.specs.Blocks.{IsKnown}
use Rattle.vhd_import.specs.Heads.{is_dynamic, layout_at, size_at}
use Rattle.vhd_import.specs.Making.{begin_lacks}
use Rattle.vhd_import.specs.Progress.{IsOpen, IsOpenUntil, IsQuiet}
use Rattle.vhd_import.specs.Puts.{dynamic_put, fixed_put, put_at}
use Rattle.vhd_import.specs.Room.{Target, is_too_large, lacks_space}
use Rattle.vhd_import.specs.Tables.{is_entry_wrong, is_named, is_table_wrong}
use Rattle.vhd_import.specs.Verdicts.{denial_at, denial_at_end, dynamic_denials, is_footed, is_whole, read_up_to, wrong_table}
use Rattle.vhd_import.proofs.AgreeLaws.{agree-front, early-put, early-table, same-kind, same-layout, same-size}
use Rattle.vhd_import.proofs.FilledLaws.{lacks-none}
use Rattle.vhd_import.proofs.HeadLaws.{begin-behind, end-behind, entries-enough}
use Rattle.vhd_import.proofs.TableLaws.{named-test, whole-end}
use Rattle.vhd_import.proofs.TakenLaws.{not-asked}
use Rattle.vhd_import.proofs.TestLaws.{each_below-at, some_below-at, some_below-none}

-- ---- what is known of a file stays as it goes on

pub known-more : (front more : File) (f : FileLayout) (size : ℕ) → 3 ≤ length front → IsKnown front f size → IsKnown (front ++ more) f size
known-more front more f size some w =
    let k : ℕ = length front - 1 in
    let agree = agree-front front more k (omega (arith, some)) in
    record {
      dynamic = same-kind k (front ++ more) front agree 3 ∙ w.dynamic;
      layout = same-layout k (front ++ more) front agree (omega (arith, some)) ∙ w.layout;
      sized = same-size k (front ++ more) front agree ∙ w.sized;
    }

pub dynamic-more : (front more : File) (size : ℕ) → 0 < length front → is_dynamic front ≡ true → size_at front ≡ size → (is_dynamic (front ++ more) ≡ true) × (size_at (front ++ more) ≡ size)
dynamic-more front more size some dynamic sized =
    let agree = agree-front front more 0 some in
    (same-kind 0 (front ++ more) front agree 3 ∙ dynamic, same-size 0 (front ++ more) front agree ∙ sized)

-- ---- what a sector decides

last-of-five : (a b c d e : Option Refusal) → a ≡ None → b ≡ None → c ≡ None → d ≡ None → first_some (a ∷ b ∷ c ∷ d ∷ e ∷ []) ≡ e
last-of-five a b c d (Some x) ha hb hc hd = rw (ha, hb, hc, hd) refl
last-of-five a b c d None ha hb hc hd = rw (ha, hb, hc, hd) refl

fourth-of-five : (a b c d e : Option Refusal) (r : Refusal) → a ≡ None → b ≡ None → c ≡ None → d ≡ Some r → first_some (a ∷ b ∷ c ∷ d ∷ e ∷ []) ≡ Some r
fourth-of-five a b c d e r ha hb hc hd = rw (ha, hb, hc, hd) refl

third-of-five : (a b c d e : Option Refusal) (r : Refusal) → a ≡ None → b ≡ None → c ≡ Some r → first_some (a ∷ b ∷ c ∷ d ∷ e ∷ []) ≡ Some r
third-of-five a b c d e r ha hb hc = rw (ha, hb, hc) refl

not-first : (t : Target) (k size : ℕ) → given ((suc k == 0) && is_too_large t size) BadSize ≡ None
not-first t k size = let no : (suc k == 0) ≡ false = grind (arith, nat_tests) in rw no refl

begun-of : (t : Target) (file : File) → lacks_space t file 0 ≡ begin_lacks t
unfolding lacks_space begin_lacks
begun-of t file = refl

pub begin-denial : (t : Target) (file : File) (size : ℕ) → is_dynamic file ≡ true → size_at file ≡ size → is_too_large t size ≡ false → denial_at t file 0 ≡ begin_lacks t
unfolding dynamic_denials
begin-denial t file size dynamic sized fits =
    let small : given ((0 == 0) && is_too_large t (size_at file)) BadSize ≡ None = ap (λ n. given ((0 == 0) && is_too_large t n) BadSize) sized ∙ rw fits refl in
    rw dynamic (last-of-five _ _ _ _ (lacks_space t file 0) refl refl (early-table file 0 (omega arith)) small) ∙ begun-of t file

pub large-begin : (t : Target) (file : File) (size : ℕ) → is_dynamic file ≡ true → size_at file ≡ size → is_too_large t size ≡ true → denial_at t file 0 ≡ Some BadSize
unfolding dynamic_denials
large-begin t file size dynamic sized large =
    let big : given ((0 == 0) && is_too_large t (size_at file)) BadSize ≡ Some BadSize = ap (λ n. given ((0 == 0) && is_too_large t n) BadSize) sized ∙ rw large refl in
    rw dynamic (fourth-of-five _ _ _ _ (lacks_space t file 0) BadSize refl refl (early-table file 0 (omega arith)) big)

dynamic-puts : (file : File) (k : ℕ) → is_dynamic file ≡ true → (layout_at file >>= (λ f. dynamic_put f file k)) ≡ None → put_at file k ≡ None
unfolding put_at
dynamic-puts file k dynamic none = ap (λ b. if b then layout_at file >>= (λ f. dynamic_put f file k) else fixed_put file k) dynamic ∙ none

pub early-none : (file : File) (k : ℕ) → is_dynamic file ≡ true → k < 4 → put_at file k ≡ None
early-none file k dynamic early = dynamic-puts file k dynamic (early-put file k early)

pub second-denial : (t : Target) (file : File) → is_dynamic file ≡ true → denial_at t file 1 ≡ None
unfolding dynamic_denials
second-denial t file dynamic =
    rw dynamic (last-of-five _ _ _ _ (lacks_space t file 1) refl refl (early-table file 1 (omega arith)) (not-first t 0 (size_at file))) ∙ lacks-none t file 0 (early-none file 1 dynamic (omega arith))

-- behind the header a sector decides what its space does, where the table is right as far as it stands up to this sector
pub behind-denial : (t : Target) (file : File) (f : FileLayout) (size k : ℕ) → IsKnown file f size → is_table_wrong (read_up_to (suc k) f) file ≡ false → denial_at t file (suc k) ≡ lacks_space t file (suc k)
unfolding dynamic_denials
behind-denial t file f size k w right =
    let some : not (is_some (layout_at file)) ≡ false = ap (λ (o : Option FileLayout). not (is_some o)) w.layout in
    let table : option_map_or (wrong_table file (suc k)) (layout_at file) None ≡ None =
    ap (λ (o : Option FileLayout). option_map_or (wrong_table file (suc k)) o None) w.layout ∙ ap (λ b. given b (BadFile f.table)) right in
    rw w.dynamic
    (last-of-five _ _ _ _ (lacks_space t file (suc k)) (not-asked (suc k == 2) _ (BadFile 0) (entries-enough file f w.layout)) (not-asked (suc k == 2) _ (BadFile 1) some) table (not-first t k (size_at file)))

-- and where the table is wrong as far as it stands up to this sector, it denies the file
pub wrong-denial : (t : Target) (file : File) (f : FileLayout) (size k : ℕ) → IsKnown file f size → 0 < k → is_table_wrong (read_up_to k f) file ≡ true → denial_at t file k ≡ Some (BadFile f.table)
unfolding dynamic_denials
wrong-denial t file f size k w some wrong =
    let named : not (is_some (layout_at file)) ≡ false = ap (λ (o : Option FileLayout). not (is_some o)) w.layout in
    let table : option_map_or (wrong_table file k) (layout_at file) None ≡ Some (BadFile f.table) =
    ap (λ (o : Option FileLayout). option_map_or (wrong_table file k) o None) w.layout ∙ ap (λ b. given b (BadFile f.table)) wrong in
    rw w.dynamic
    (third-of-five _ _ _ _ _ (BadFile f.table) (not-asked (k == 2) _ (BadFile 0) (entries-enough file f w.layout)) (not-asked (k == 2) _ (BadFile 1) named) table)

pub front-right : (f : FileLayout) (file : File) (k : ℕ) → k < f.table → is_table_wrong (read_up_to k f) file ≡ false
unfolding some_below
front-right f file k before =
    let none : min f.blocks (128 * (k + 1 - f.table)) ≡ 0 = omega (arith, before) in
    rw none refl

pub third-denial : (t : Target) (file : File) (f : FileLayout) (size : ℕ) → IsKnown file f size → denial_at t file 2 ≡ None
third-denial t file f size w = behind-denial t file f size 1 w (front-right f file 2 (omega (arith, begin-behind file f w.layout))) ∙ lacks-none t file 1 (early-none file 2 w.dynamic (omega arith))

-- a table that is right is right as far as it was read
pub part-right : (f : FileLayout) (file : File) (n : ℕ) → n ≤ f.blocks → is_table_wrong f file ≡ false → is_table_wrong (record f { blocks = n }) file ≡ false
unfolding is_entry_wrong entry
part-right f file n within right = some_below-none (is_entry_wrong (record f { blocks = n }) file) n (λ k less. some_below-at (is_entry_wrong f file) f.blocks k right (omega (arith, less, within)))

-- ---- in front of the table

pub before-none : (file : File) (f : FileLayout) (size k : ℕ) → IsKnown file f size → k < table_end f → put_at file k ≡ None
unfolding dynamic_put
before-none file f size k w before =
    let early : nat_le (table_end f) k ≡ false = grind (arith, nat_tests) in
    dynamic-puts file k w.dynamic (rw w.layout (rw early refl))

as-suc : (n : ℕ) → 0 < n → (k : ℕ) × (n ≡ suc k)
as-suc n some = (n - 1, omega (arith, some))

-- a sector that puts nothing, behind the header, decides nothing where the table is right so far
pub quiet-sector : (t : Target) (file : File) (f : FileLayout) (size k : ℕ) → IsKnown file f size → 0 < k → is_table_wrong (read_up_to k f) file ≡ false → put_at file k ≡ None → denial_at t file k ≡ None
quiet-sector t file f size zero w some right none = absurd (omega (arith, some))
quiet-sector t file f size (suc k) w some right none = behind-denial t file f size k w right ∙ lacks-none t file k none

pub quiet-table : (t : Target) (front : File) (f : FileLayout) (size : ℕ) → 3 ≤ length front → IsKnown front f size → IsQuiet t front f.table
quiet-table t front f size some w = record {
  undenied = λ more k from below less.
      let wk = known-more front more f size some w in
      quiet-sector t (front ++ more) f size k wk (omega (arith, some, from)) (front-right f (front ++ more) k below) (before-none (front ++ more) f size k wk (omega (arith, below)));
  puts = λ more k from below less. before-none (front ++ more) f size k (known-more front more f size some w) (omega (arith, below));
}

-- ---- where a file may end

not-whole : (file : File) (inside : Bool) → is_dynamic file ≡ true → option_map_or (is_whole file) (layout_at file) false ≡ false → denial_at_end file inside ≡ Some (Cut (length file))
unfolding denial_at_end
not-whole file true dynamic part = refl
not-whole file false dynamic part = by (length file == 0) refl
  where
    by : (b : Bool) → (length file == 0) ≡ b
        → (if length file == 0 then Some (Cut (length file)) else if is_dynamic file then given (not (option_map_or (is_whole file) (layout_at file) false)) (Cut (length file)) else given (not (is_footed file)) (BadFile (length file - 1))) ≡ Some (Cut (length file))
    by true is = rw is refl
    by false is = rw (is, dynamic, part) refl

-- in front of the end of the table
pub open-early : (file : File) → is_dynamic file ≡ true → length file < 4 → IsOpen file
open-early file dynamic early = λ inside. not-whole file inside dynamic (by (layout_at file) refl)
  where
    whole : (f : FileLayout) (b : Bool) → is_whole file f ≡ b → layout_at file ≡ Some f → is_whole file f ≡ false
    whole f false is at = is
    whole f true is at = absurd (let e = whole-end file f is in let b = end-behind file f at in omega (arith, e, b, early))

    by : (o : Option FileLayout) → layout_at file ≡ o → option_map_or (is_whole file) (layout_at file) false ≡ false
    by None is = rw is refl
    by (Some f) is = rw is (whole f (is_whole file f) refl is)

pub open-known : (file : File) (f : FileLayout) (size : ℕ) → IsKnown file f size → is_whole file f ≡ false → IsOpen file
open-known file f size w part = λ inside. not-whole file inside w.dynamic (rw w.layout part)

pub short-part : (file : File) (f : FileLayout) (b : Bool) → is_whole file f ≡ b → length file < table_end f → is_whole file f ≡ false
short-part file f false is less = is
short-part file f true is less = absurd (let e = whole-end file f is in omega (arith, e, less))

pub open-table : (front : File) (f : FileLayout) (size : ℕ) → 3 ≤ length front → IsKnown front f size → IsOpenUntil front (table_end f)
open-table front f size some w = λ more less. open-known (front ++ more) f size (known-more front more f size some w) (short-part (front ++ more) f (is_whole (front ++ more) f) refl less)

-- in front of the end of a block that is there
pub open-block : (file : File) (f : FileLayout) (size b : ℕ) → IsKnown file f size → IsThere f file b → length file < block_end f file b → IsOpen file
unfolding is_whole
open-block file f size b w there less = open-known file f size w (by (is_whole file f) refl)
  where
    by : (v : Bool) → is_whole file f ≡ v → is_whole file f ≡ false
    by false is = is
    by true is = absurd
        (let all = (and_parts (nat_le (table_end f) (length file)) _ is).1 in
        let one = each_below-at (λ b. not (is_named f file b) || nat_le (block_end f file b) (length file)) f.blocks b all there.below in
        let named = named-test f file b there in
        let t : nat_le (block_end f file b) (length file) ≡ true = rw named at one in
        let e : block_end f file b ≤ length file = grind (arith, nat_tests) in
        omega (arith, e, less))
