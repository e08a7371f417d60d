-- Each file that a repository has room for is taken, with the sectors that it holds.
use Rattle.std.proofs.Common.{◌≡◌, ◌⊎◌, inl, inr, ℕ, ◌+◌, ◌-◌, ◌*◌, ◌/◌, ◌%◌, ◌<◌, ◌≤◌, ◌^◌, Bool, true, false, not, ◌&&◌, List, [], ◌∷◌, ◌++◌, length, map, Option, Some, None, Result, Ok, refl, sym, ap, ◌∙◌, arith, subst}
use Rattle.std.specs.Prelude.{nat_lt, ◌==◌, is_some, min}
use Rattle.std.specs.List.{concat, range_with_len}
use Rattle.std.specs.Option.{option_map_or}
use Rattle.std.specs.Result.{result_ok}
use Rattle.std.proofs.lemmas.Bool.Decides.{nat_tests}
use Rattle.std.proofs.lemmas.List.Elements.{recursion_from_All}
use Rattle.std.proofs.lemmas.List.FromFn.{fill_by_all}
use Rattle.common_laws.specs.Lists.{In, first_some, given, numbers}
use Rattle.common_laws.proofs.Lists.{In-map, In-numbers, first_none}
use Rattle.vhd_fields.specs.declared.faults.FieldFault.{FieldFault}
use Rattle.vhd_fields.specs.declared.footers.Footer.{Footer}
use Rattle.sm_base.specs.Numbers.{div_up}
use Rattle.sm_machine.specs.Disks.{cut_sectors}
use Rattle.vhd_fields.specs.Footers.{footer_read, footer_tests}
use Rattle.vhd_stream.specs.Files.{File, FileLayout, FileOf, IsCutInto, IsDynamic, IsFixed, file_sector, layout_of, sector_at}
use Rattle.sm_base.specs.declared.refusals.Refusal.{Refusal}
use Rattle.sm_base.specs.declared.refusals.Refusal.TheVariants.{BadFile, BadSize, Differencing}
use Rattle.vhd_import.specs.Heads.{footer_at, is_dynamic, is_kind, layout_at, size_at}
use Rattle.vhd_import.specs.Laws.{HasRoomFor}
use Rattle.vhd_import.specs.Room.{Target, is_too_large}
use Rattle.vhd_import.specs.Verdicts.{Denied, Made, Verdict, denial_at, denial_at_end, dynamic_denials, ends_as, fixed_denials, is_footed, is_whole, sector_limit, sectors_of, verdict, verdict_of, wrong_table}
use Rattle.vhd_import.proofs.BytesLaws.{are-cut, cut-is, cut-joined, length-joined}
use Rattle.vhd_import.proofs.HeadLaws.{end-of-header, entries-enough}
use Rattle.vhd_import.proofs.MadeLaws.{IsUndenied, made, made-holds}
use Rattle.vhd_import.proofs.PutLaws.{known, not-dynamic, puts-dynamic, puts-fixed}
use Rattle.vhd_import.proofs.RoomLaws.{fits-size, roomy}
use Rattle.vhd_import.proofs.TableLaws.{right-front, right-whole}

-- ---- a disk is made

pub undenied-made : (t : Target) (file : File) (sectors : List (List ℕ)) → IsUndenied t file → sectors_of file ≡ sectors → verdict t file false false ≡ Made sectors
unfolding verdict
undenied-made t file sectors u is =
    let none : first_some (map (denial_at t file) (numbers 0 (length file))) ≡ None =
    first_none (map (denial_at t file) (numbers 0 (length file))) (λ o i.
    let k = In-map (denial_at t file) (numbers 0 (length file)) o i in
    let n = In-numbers 0 (length file) k.0 k.1 in
    k.2 ∙ u.none k.0 (omega (arith, n.1))) in
    let first : Option Refusal → Verdict = λ o. elim o [ Some d ↦ Denied d | None ↦ ends_as file false ] in
    let last : Option Refusal → Verdict = λ o. elim o [ Some d ↦ Denied d | None ↦ Made (sectors_of file) ] in
    ap first none ∙ ap last u.ended ∙ ap Made is

-- a test of one sector fails where what it asks fails
pub not-asked : (a b : Bool) (d : Refusal) → b ≡ false → given (a && b) d ≡ None
not-asked true b d is = rw is refl
not-asked false b d is = refl

-- ---- a dynamic file

dynamic-none : (t : Target) (file : File) (sectors : List (List ℕ)) → (d : IsDynamic file sectors) → HasRoomFor t sectors → (k : ℕ) → k < length file → denial_at t file k ≡ None
unfolding dynamic_denials
dynamic-none t file sectors d room k less =
    let f : FileLayout = layout_of d.footer d.header in
    let w = known file sectors d in
    let some : not (is_some (layout_at file)) ≡ false = ap (λ (o : Option FileLayout). not (is_some o)) w.layout in
    let right : option_map_or (wrong_table file k) (layout_at file) None ≡ None =
    ap (λ (o : Option FileLayout). option_map_or (wrong_table file k) o None) w.layout
    ∙ ap (λ b. given b (BadFile f.table)) (right-front f file (min f.blocks (128 * (k + 1 - f.table))) (omega arith) d.table) in
    let small : is_too_large t (size_at file) ≡ false =
    ap (is_too_large t) w.sized ∙ fits-size t (d.footer.current / 512) (d.footer.current / 512) room.geometry (subst (λ n. div_up n t.block ≤ t.entries) d.disk.count room.size) (omega arith) in
    let free = roomy t file sectors k room (puts-dynamic file sectors d) less in
    let none : first_some (dynamic_denials t file k) ≡ None = first_none (dynamic_denials t file k) (λ o i. each o i (not-asked (k == 2) _ (BadFile 0) (entries-enough file f w.layout)) (not-asked (k == 2) _ (BadFile 1) some) right (not-asked (k == 0) _ BadSize small) free) in
    rw w.dynamic none
  where
    each : {a b c e r : Option Refusal} (o : Option Refusal) → In o (a ∷ b ∷ c ∷ e ∷ r ∷ []) → a ≡ None → b ≡ None → c ≡ None → e ≡ None → r ≡ None → o ≡ None
    each o (inl is) ha hb hc he hr = is ∙ ha
    each o (inr (inl is)) ha hb hc he hr = is ∙ hb
    each o (inr (inr (inl is))) ha hb hc he hr = is ∙ hc
    each o (inr (inr (inr (inl is)))) ha hb hc he hr = is ∙ he
    each o (inr (inr (inr (inr (inl is))))) ha hb hc he hr = is ∙ hr
    each o (inr (inr (inr (inr (inr i))))) ha hb hc he hr = absurd i

dynamic-ended : (file : File) (sectors : List (List ℕ)) → IsDynamic file sectors → denial_at_end file false ≡ None
unfolding denial_at_end
dynamic-ended file sectors d =
    let f : FileLayout = layout_of d.footer d.header in
    let w = known file sectors d in
    let end = end-of-header (sector_at file 1 ++ sector_at file 2) d.footer d.header d.header_reads in
    let whole_end = d.table_whole in
    let some : (length file == 0) ≡ false = grind (arith, nat_tests) in
    let whole : option_map_or (is_whole file) (layout_at file) false ≡ true = ap (λ (o : Option FileLayout). option_map_or (is_whole file) o false) w.layout ∙ right-whole f file d.table_whole d.table in
    rw (some, w.dynamic, whole) refl

dynamic-sectors : (file : File) (sectors : List (List ℕ)) → IsDynamic file sectors → sectors_of file ≡ sectors
dynamic-sectors file sectors d =
    let f : FileLayout = layout_of d.footer d.header in
    let w = known file sectors d in
    let are : sectors ≡ map (file_sector f file) (range_with_len 0 (d.footer.current / 512)) = fill_by_all (file_sector f file) sectors (d.footer.current / 512) [] d.disk.count d.disk.each in
    rw (w.dynamic, w.layout, w.sized) (sym are)

-- ---- a fixed file

fixed-none : (t : Target) (file : File) (sectors : List (List ℕ)) → (d : IsFixed file sectors) → HasRoomFor t sectors → (k : ℕ) → k < length file → denial_at t file k ≡ None
unfolding fixed_denials
fixed-none t file sectors d room k less =
    let plain : is_dynamic file ≡ false = not-dynamic file 3 d.plain (inl refl) in
    let same : is_kind 4 (footer_at file 0) ≡ false = not-dynamic file 4 d.plain (inr refl) in
    let small : is_too_large t k ≡ false = fits-size t (length file - 1) k room.geometry (subst (λ n. div_up n t.block ≤ t.entries) d.disk.count room.size) (omega (arith, less)) in
    let free = roomy t file sectors k room (puts-fixed file sectors d) less in
    let none : first_some (fixed_denials t file k) ≡ None = first_none (fixed_denials t file k) (λ o i. each o i (not-asked (k == 0) _ Differencing same) (ap (λ b. given b BadSize) small) free) in
    rw plain none
  where
    each : {a b c : Option Refusal} (o : Option Refusal) → In o (a ∷ b ∷ c ∷ []) → a ≡ None → b ≡ None → c ≡ None → o ≡ None
    each o (inl is) ha hb hc = is ∙ ha
    each o (inr (inl is)) ha hb hc = is ∙ hb
    each o (inr (inr (inl is))) ha hb hc = is ∙ hc
    each o (inr (inr (inr i))) ha hb hc = absurd i

footed-at : (file : File) (sectors : List (List ℕ)) → IsFixed file sectors → is_footed file ≡ true
unfolding is_footed footer_at
footed-at file sectors d =
    let at : footer_at file (length file - 1) ≡ Some d.footer = ap (λ (r : Result Footer FieldFault). result_ok r) d.footer_reads in
    let two : (d.footer.kind == 2) ≡ true = let k = d.kind in grind (arith, nat_tests) in
    let sized : (d.footer.current == 512 * (length file - 1)) ≡ true = let k = d.size in grind (arith, nat_tests) in
    rw (at, two, sized) refl

-- no bytes are no footer
has-sector : (file : File) (a : Footer) → footer_read (sector_at file (length file - 1)) ≡ Ok a → (length file == 0) ≡ false
unfolding footer_tests
has-sector [] a h = absurd (cc h)
has-sector (s ∷ file) a h = grind (arith, nat_tests)

fixed-ended : (file : File) (sectors : List (List ℕ)) → IsFixed file sectors → denial_at_end file false ≡ None
unfolding denial_at_end
fixed-ended file sectors d =
    let some = has-sector file d.footer d.footer_reads in
    let plain : is_dynamic file ≡ false = not-dynamic file 3 d.plain (inl refl) in
    rw (some, plain, footed-at file sectors d) refl

fixed-sectors : (file : File) (sectors : List (List ℕ)) → IsFixed file sectors → sectors_of file ≡ sectors
fixed-sectors file sectors d =
    let plain : is_dynamic file ≡ false = not-dynamic file 3 d.plain (inl refl) in
    let are : sectors ≡ map (sector_at file) (range_with_len 0 (length file - 1)) = fill_by_all (sector_at file) sectors (length file - 1) [] d.disk.count d.disk.each in
    rw plain (sym are)

-- ---- bytes

taken-whole : (t : Target) (file : File) (sectors : List (List ℕ)) → IsDynamic file sectors ⊎ IsFixed file sectors → HasRoomFor t sectors → verdict t file false false ≡ Made sectors
taken-whole t file sectors (inl d) room = undenied-made t file sectors (record { none = dynamic-none t file sectors d room; ended = dynamic-ended file sectors d }) (dynamic-sectors file sectors d)
taken-whole t file sectors (inr d) room = undenied-made t file sectors (record { none = fixed-none t file sectors d room; ended = fixed-ended file sectors d }) (fixed-sectors file sectors d)

pub taken : (t : Target) (bytes : List ℕ) (sectors : List (List ℕ)) → FileOf bytes sectors → HasRoomFor t sectors → length bytes ≤ 2 ^ 42 → verdict_of t bytes ≡ Made sectors
taken t bytes sectors f room short =
    let c = are-cut bytes f.file f.cut short in
    rw (c.sectors, c.inside, c.past) (taken-whole t f.file sectors f.is room)

pub made-file : (t : Target) (bytes : List ℕ) (sectors : List (List ℕ)) → verdict_of t bytes ≡ Made sectors → FileOf bytes sectors
made-file t bytes sectors h =
    let file : File = cut_sectors (min (length bytes / 512) sector_limit) bytes in
    let m = made t file (nat_lt 0 (length bytes % 512)) (nat_lt (512 * sector_limit) (length bytes)) sectors h in
    record { file = file; cut = cut-is bytes m.whole m.short; is = made-holds t file sectors m.undenied m.sectors_are }

-- ---- one disk

same-file : (bytes : List ℕ) (x y : File) → IsCutInto bytes x → IsCutInto bytes y → x ≡ y
same-file bytes x y cx cy =
    let wx = recursion_from_All (λ s. length s ≡ 512) x cx.whole in
    let wy = recursion_from_All (λ s. length s ≡ 512) y cy.whole in
    let lx : length bytes ≡ 512 * length x = ap (λ (b : List ℕ). length b) cx.joined ∙ length-joined x wx in
    let ly : length bytes ≡ 512 * length y = ap (λ (b : List ℕ). length b) cy.joined ∙ length-joined y wy in
    let count : length x ≡ length y = omega (arith, lx, ly) in
    sym (cut-joined x wx) ∙ ap (cut_sectors (length x)) (sym cx.joined ∙ cy.joined) ∙ ap (λ n. cut_sectors n (concat y)) count ∙ cut-joined y wy

sectors-held : (file : File) (sectors : List (List ℕ)) → IsDynamic file sectors ⊎ IsFixed file sectors → sectors_of file ≡ sectors
sectors-held file sectors (inl d) = dynamic-sectors file sectors d
sectors-held file sectors (inr d) = fixed-sectors file sectors d

-- a VHD file holds one disk
pub one-disk : (bytes : List ℕ) (a b : List (List ℕ)) → FileOf bytes a → FileOf bytes b → a ≡ b
one-disk bytes a b x y = sym (sectors-held x.file a x.is) ∙ ap sectors_of (same-file bytes x.file y.file x.cut y.cut) ∙ sectors-held y.file b y.is
