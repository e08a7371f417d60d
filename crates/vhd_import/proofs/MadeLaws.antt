-- What is made of a file is what the file holds.
use Rattle.std.proofs.Common.{◌≡◌, ◌⊎◌, inl, inr, ⊎_elim, ℕ, zero, suc, ◌+◌, ◌-◌, ◌*◌, ◌/◌, ◌<◌, ◌≤◌, Bool, true, false, not, ◌&&◌, List, [], length, map, get_or, Option, Some, None, Result, refl, sym, ap, ◌∙◌, arith, subst}
use Rattle.std.specs.Prelude.{◌==◌, min, if◌then◌else◌}
use Rattle.std.specs.List.{range_with_len}
use Rattle.std.specs.Option.{option_map_or}
use Rattle.std.specs.Result.{result_ok}
use Rattle.std.proofs.lemmas.Bool.{and_parts, not-false}
use Rattle.std.proofs.lemmas.Bool.Decides.{nat_tests}
use Rattle.std.proofs.lemmas.List.FromFn.{length-map-range_with_len, get_or-map-range_with_len}
use Rattle.common_laws.specs.Lists.{first_some, given, numbers}
use Rattle.common_laws.proofs.Lists.{In-map_at, none_first, numbers-In}
use Rattle.sm_base.specs.Numbers.{div_up}
use Rattle.vhd_fields.specs.declared.faults.FieldFault.{FieldFault}
use Rattle.vhd_fields.specs.declared.footers.Footer.{Footer}
use Rattle.vhd_fields.specs.Footers.{footer_read}
use Rattle.vhd_stream.specs.Files.{AreSectors, BeginsAsDynamic, File, FileLayout, IsDynamic, IsFixed, IsTable, file_sector, sector_at, table_end}
use Rattle.sm_base.specs.declared.refusals.Refusal.{Refusal}
use Rattle.sm_base.specs.declared.refusals.Refusal.TheVariants.{BadFile, Cut, Differencing}
use Rattle.vhd_import.specs.Heads.{footer_at, is_dynamic, is_kind, layout_at, size_at}
use Rattle.vhd_import.specs.Room.{Target}
use Rattle.vhd_import.specs.Tables.{is_table_wrong}
use Rattle.vhd_import.specs.Verdicts.{Denied, Long, Made, Verdict, denial_at, denial_at_end, dynamic_denials, ends_as, fixed_denials, is_footed, is_whole, read_up_to, sectors_of, verdict, wrong_table}
use Rattle.vhd_import.proofs.HeadLaws.{end-behind, headed, of-kind}
use Rattle.vhd_import.proofs.TableLaws.{table-right, whole-end}
use Rattle.vhd_import.proofs.TestLaws.{not-given, read-ok}

-- ---- nothing was denied

pub record IsUndenied (t : Target) (file : File) : Type 0 where
  pub none : (k : ℕ) → k < length file → denial_at t file k ≡ None
  pub ended : denial_at_end file false ≡ None

not_made : (d : Refusal) (sectors : List (List ℕ)) → Denied d ≡ Made sectors → ⊥
not_made d sectors h = cc h

not_long : (sectors : List (List ℕ)) → Long ≡ Made sectors → ⊥
not_long sectors h = cc h

same_made : (a b : List (List ℕ)) → Made a ≡ Made b → a ≡ b
same_made a b h = cc h

end-of : File → Option Refusal → Verdict
end-of file o = elim o [ Some d ↦ Denied d | None ↦ Made (sectors_of file) ]

ended-made : (file : File) (inside : Bool) (sectors : List (List ℕ)) (o : Option Refusal) → denial_at_end file inside ≡ o → ends_as file inside ≡ Made sectors → (denial_at_end file inside ≡ None) × (sectors ≡ sectors_of file)
unfolding end-of
ended-made file inside sectors (Some d) is h = absurd (not_made d sectors (ap (end-of file) (sym is) ∙ h))
ended-made file inside sectors None is h = (is, sym (same_made (sectors_of file) sectors (ap (end-of file) (sym is) ∙ h)))

choice : (file : File) (inside past : Bool) → Option Refusal → Verdict
choice file inside past o = elim o [ Some d ↦ Denied d | None ↦ if past then Long else ends_as file inside ]

whole-ended : (file : File) (inside : Bool) → denial_at_end file inside ≡ None → inside ≡ false
unfolding denial_at_end
whole-ended file true h = absurd (cc h)
whole-ended file false h = refl

-- a file of which a disk was made: nothing was denied, it ended with a whole sector, and no byte came past the most that is read
pub record IsMade (t : Target) (file : File) (inside past : Bool) (sectors : List (List ℕ)) : Type 0 where
  pub undenied : IsUndenied t file
  pub whole : inside ≡ false
  pub short : past ≡ false
  pub sectors_are : sectors ≡ sectors_of file

chosen : (t : Target) (file : File) (inside past : Bool) (sectors : List (List ℕ)) (o : Option Refusal) → first_some (map (denial_at t file) (numbers 0 (length file))) ≡ o → choice file inside past o ≡ Made sectors
    → IsMade t file inside past sectors
unfolding choice
chosen t file inside past sectors (Some d) is h = absurd (not_made d sectors h)
chosen t file inside true sectors None is h = absurd (not_long sectors h)
chosen t file inside false sectors None is h =
    let e = ended-made file inside sectors (denial_at_end file inside) refl h in
    let whole = whole-ended file inside e.0 in
    record {
      undenied = record {
        none = λ k less. none_first (map (denial_at t file) (numbers 0 (length file))) is (denial_at t file k) (In-map_at (denial_at t file) (numbers 0 (length file)) k (numbers-In 0 (length file) k (omega arith) (omega (arith, less))));
        ended = ap (denial_at_end file) (sym whole) ∙ e.0;
      };
      whole = whole;
      short = refl;
      sectors_are = e.1;
    }

pub made : (t : Target) (file : File) (inside past : Bool) (sectors : List (List ℕ)) → verdict t file inside past ≡ Made sectors → IsMade t file inside past sectors
unfolding verdict choice
made t file inside past sectors h = chosen t file inside past sectors (first_some (map (denial_at t file) (numbers 0 (length file)))) refl h

-- ---- a dynamic file

-- the layout by which the end of the file was judged
record IsEndedBy (file : File) (f : FileLayout) : Type 0 where
  at : layout_at file ≡ Some f
  is : is_whole file f ≡ true

ended-by : (file : File) (o : Option FileLayout) → layout_at file ≡ o → option_map_or (is_whole file) o false ≡ true → (f : FileLayout) × IsEndedBy file f
ended-by file None is h = absurd (cc h)
ended-by file (Some f) is h = (f, record { at = is; is = h })

dynamic-ended : (file : File) → is_dynamic file ≡ true → 0 < length file → denial_at_end file false ≡ None → (f : FileLayout) × IsEndedBy file f
unfolding denial_at_end
dynamic-ended file dynamic some h =
    let more : (length file == 0) ≡ false = grind (arith, nat_tests) in
    let e : given (not (option_map_or (is_whole file) (layout_at file) false)) (Cut (length file)) ≡ None = rw (more, dynamic) at h in
    ended-by file (layout_at file) refl (not-false (option_map_or (is_whole file) (layout_at file) false) (not-given _ (Cut (length file)) e))

nonempty : (t : Target) (file : File) → IsUndenied t file → 0 < length file
unfolding denial_at_end
nonempty t file u = by (length file) refl
  where
    by : (n : ℕ) → length file ≡ n → 0 < length file
    by zero is = absurd (let e : (length file == 0) ≡ true = grind (arith, nat_tests) in let d : Some (Cut (length file)) ≡ None = rw e at u.ended in cc d)
    by (suc n) is = omega (arith, is)

table-passed : (t : Target) (file : File) (k : ℕ) (f : FileLayout) → is_dynamic file ≡ true → layout_at file ≡ Some f → denial_at t file k ≡ None → k + 1 ≡ table_end f → is_table_wrong f file ≡ false
unfolding dynamic_denials div_up
table-passed t file k f dynamic at h last =
    let all : first_some (dynamic_denials t file k) ≡ None = rw dynamic at h in
    let third = none_first (dynamic_denials t file k) all (option_map_or (wrong_table file k) (layout_at file) None) (inr (inr (inl refl))) in
    let right : given (is_table_wrong (read_up_to k f) file) (BadFile f.table) ≡ None = rw at at third in
    let whole : min f.blocks (128 * (k + 1 - f.table)) ≡ f.blocks = omega (arith, (headed file f at).fits, last) in
    ap (λ n. is_table_wrong (record f { blocks = n }) file) (sym whole) ∙ not-given _ (BadFile f.table) right

pub as-map : (n : ℕ) (f : ℕ → List ℕ) (sectors : List (List ℕ)) → sectors ≡ map f (range_with_len 0 n) → AreSectors n f sectors
as-map n f sectors is = record {
  count = ap (λ (l : List (List ℕ)). length l) is ∙ length-map-range_with_len f 0 n;
  each = λ k less. ap (λ (l : List (List ℕ)). get_or l k []) is ∙ get_or-map-range_with_len f 0 n k k [] less (omega arith);
}

pub dynamic-holds : (t : Target) (file : File) (sectors : List (List ℕ)) → is_dynamic file ≡ true → IsUndenied t file → sectors ≡ sectors_of file → IsDynamic file sectors
unfolding footer_at size_at
dynamic-holds t file sectors dynamic u is =
    let kind = of-kind 3 (footer_at file 0) dynamic in
    let ended = dynamic-ended file dynamic (nonempty t file u) u.ended in
    let f = ended.0 in
    let at = ended.1.at in
    let h = headed file f at in
    let same : kind.0 ≡ h.footer = let e : Some kind.0 ≡ Some h.footer = sym kind.1 ∙ h.footer_reads in cc e in
    let within : table_end f ≤ length file = whole-end file f ended.1.is in
    let end = end-behind file f at in
    let last : table_end f - 1 < length file = omega (arith, within, end) in
    let right = table-passed t file (table_end f - 1) f dynamic at (u.none (table_end f - 1) last) (omega (arith, end)) in
    let table : IsTable f file = table-right f file right ended.1.is in
    let size_is : size_at file ≡ h.footer.current / 512 = ap (λ (o : Option Footer). option_map_or (λ x. x.current / 512) o 0) h.footer_reads in
    let all : sectors ≡ map (file_sector f file) (range_with_len 0 (size_at file)) = is ∙ rw (dynamic, at) refl in
    record {
      footer = h.footer;
      header = h.header;
      footer_reads = read-ok (footer_read (sector_at file 0)) h.footer h.footer_reads;
      kind = ap (λ (x : Footer). x.kind) (sym same) ∙ kind.2;
      header_reads = h.header_reads;
      alone = h.orphan;
      fits = subst (λ (x : FileLayout). x.blocks ≤ h.header.entries) h.layout_is (omega (arith, h.fits, ap (λ (x : FileLayout). x.entries) h.layout_is));
      table_whole = subst (λ (x : FileLayout). table_end x ≤ length file) h.layout_is within;
      table = subst (λ (x : FileLayout). IsTable x file) h.layout_is table;
      disk = subst (λ (x : FileLayout). AreSectors (h.footer.current / 512) (file_sector x file) sectors) h.layout_is
          (subst (λ n. AreSectors n (file_sector f file) sectors) size_is (as-map (size_at file) (file_sector f file) sectors all));
    }

-- ---- a fixed file

plain-of : (t : Target) (file : File) → is_dynamic file ≡ false → IsUndenied t file → ¬ BeginsAsDynamic file
unfolding fixed_denials footer_at
plain-of t file plain u begins =
    let at : footer_at file 0 ≡ Some begins.footer = ap (λ (r : Result Footer FieldFault). result_ok r) begins.reads in
    ⊎_elim
    (λ (three : begins.footer.kind ≡ 3). let e : is_dynamic file ≡ true = rw at (grind (arith, nat_tests)) in cc (sym e ∙ plain))
    (λ (four : begins.footer.kind ≡ 4).
    let e : is_kind 4 (footer_at file 0) ≡ true = rw at (grind (arith, nat_tests)) in
    let all : first_some (fixed_denials t file 0) ≡ None = rw plain at (u.none 0 (nonempty t file u)) in
    let one : ((0 == 0) && is_kind 4 (footer_at file 0)) ≡ false = not-given _ Differencing (none_first (fixed_denials t file 0) all (given ((0 == 0) && is_kind 4 (footer_at file 0)) Differencing) (inl refl)) in
    let n : ((0 == 0) && is_kind 4 (footer_at file 0)) ≡ true = rw e refl in
    cc (sym n ∙ one))
    begins.kind

pub record IsFooted (file : File) : Type 0 where
  pub footer : Footer
  pub reads : footer_at file (length file - 1) ≡ Some footer
  pub kind : footer.kind ≡ 2
  pub size : footer.current ≡ 512 * (length file - 1)

pub footed : (file : File) → is_footed file ≡ true → IsFooted file
unfolding is_footed
footed file h = by (footer_at file (length file - 1)) refl
  where
    by : (o : Option Footer) → footer_at file (length file - 1) ≡ o → IsFooted file
    by None is = absurd (let e : false ≡ true = rw is at h in cc e)
    by (Some f) is =
        let e : ((f.kind == 2) && (f.current == 512 * (length file - 1))) ≡ true = rw is at h in
        let parts = and_parts (f.kind == 2) (f.current == 512 * (length file - 1)) e in
        record { footer = f; reads = is; kind = let k = parts.0 in grind (arith, nat_tests); size = let k = parts.1 in grind (arith, nat_tests) }

pub fixed-holds : (t : Target) (file : File) (sectors : List (List ℕ)) → is_dynamic file ≡ false → IsUndenied t file → sectors ≡ sectors_of file → IsFixed file sectors
unfolding denial_at_end footer_at
fixed-holds t file sectors plain u is =
    let some = nonempty t file u in
    let more : (length file == 0) ≡ false = grind (arith, nat_tests) in
    let e : given (not (is_footed file)) (BadFile (length file - 1)) ≡ None = rw (more, plain) at u.ended in
    let f = footed file (not-false (is_footed file) (not-given (not (is_footed file)) (BadFile (length file - 1)) e)) in
    record {
      plain = plain-of t file plain u;
      footer = f.footer;
      footer_reads = read-ok (footer_read (sector_at file (length file - 1))) f.footer f.reads;
      kind = f.kind;
      size = f.size;
      disk = as-map (length file - 1) (sector_at file) sectors (is ∙ rw plain refl);
    }

pub made-holds : (t : Target) (file : File) (sectors : List (List ℕ)) → IsUndenied t file → sectors ≡ sectors_of file → IsDynamic file sectors ⊎ IsFixed file sectors
made-holds t file sectors u same = by (is_dynamic file) refl
  where
    by : (b : Bool) → is_dynamic file ≡ b → IsDynamic file sectors ⊎ IsFixed file sectors
    by true is = inl (dynamic-holds t file sectors is u same)
    by false is = inr (fixed-holds t file sectors is u same)
