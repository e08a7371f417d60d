-- What a file puts on the disk are the sectors of the disk that it holds.
use Rattle.std.proofs.Common.{◌≡◌, ◌⊎◌, inl, ℕ, zero, suc, ◌+◌, ◌-◌, ◌*◌, ◌/◌, ◌%◌, ◌<◌, ◌≤◌, Bool, true, false, ◌&&◌, List, length, Option, Some, None, Result, refl, sym, ap, ◌∙◌, arith, subst}
use Rattle.std.specs.Prelude.{nat_lt, nat_le, ◌==◌, if◌then◌else◌}
use Rattle.std.specs.List.{find}
use Rattle.std.specs.Option.{option_map_or}
use Rattle.std.specs.Result.{result_ok}
use Rattle.std.proofs.lemmas.Bool.{and_parts, not-true}
use Rattle.std.proofs.lemmas.Bool.Decides.{nat_tests}
use Rattle.std.proofs.lemmas.Nat.{div-mul-add, mod-mul-add}
use Rattle.common_laws.specs.Lists.{numbers, ◌>>=◌}
use Rattle.common_laws.proofs.Lists.{find-some}
use Rattle.common_laws.proofs.Options.{bind-some}
use Rattle.vhd_fields.specs.declared.faults.FieldFault.{FieldFault}
use Rattle.vhd_fields.specs.declared.footers.Footer.{Footer}
use Rattle.vhd_map.specs.Bitmaps.{is_set}
use Rattle.vhd_map.specs.Places.{blank}
use Rattle.vhd_stream.specs.Files.{BeginsAsDynamic, File, FileLayout, IsDynamic, IsFixed, entry, file_sector, layout_of, sector_at, sector_in, table_end}
use Rattle.vhd_import.specs.Blocks.{IsKnown}
use Rattle.vhd_import.specs.Heads.{footer_at, is_dynamic, is_kind, layout_at, size_at}
use Rattle.vhd_import.specs.Puts.{Put, block_put, dynamic_put, fixed_put, has_sector, put_at}
use Rattle.vhd_import.specs.Tables.{is_named}
use Rattle.vhd_import.proofs.HeadLaws.{header-is, layout-is, of-kind}
use Rattle.vhd_import.proofs.TestLaws.{is-given, read-ok, same_some}

-- a put is a sector of a disk
pub record IsOf (sectors : List (List ℕ)) (p : Put) : Type 0 where
  pub within : p.sector < length sectors
  pub same : p.bytes ≡ sector_at sectors p.sector

-- each sector of a file puts sectors of this disk alone
abbrev pub PutsOnly : File → List (List ℕ) → Type 0
PutsOnly file sectors = (k : ℕ) (p : Put) → k < length file → put_at file k ≡ Some p → IsOf sectors p

-- ---- a dynamic file

pub known : (file : File) (sectors : List (List ℕ)) → (d : IsDynamic file sectors) → IsKnown file (layout_of d.footer d.header) (d.footer.current / 512)
unfolding footer_at size_at
known file sectors d =
    let at : footer_at file 0 ≡ Some d.footer = ap (λ (r : Result Footer FieldFault). result_ok r) d.footer_reads in
    let three : (d.footer.kind == 3) ≡ true = let k = d.kind in grind (arith, nat_tests) in
    record {
      dynamic = ap (is_kind 3) at ∙ three;
      layout = layout-is file d.footer d.header at (header-is file d.header d.header_reads d.alone) d.fits;
      sized = ap (λ (o : Option Footer). option_map_or (λ f. f.current / 512) o 0) at;
    }

-- sector i of a block that is there, where its bit is set
set-sector : (file : File) (e i : ℕ) → (e == blank) ≡ false → is_set (sector_at file e) i ≡ true → sector_in file e i ≡ sector_at file (e + (1 + i))
unfolding sector_in
set-sector file e i there set = rw (there, set) refl

block-puts : (f : FileLayout) (file : File) (sectors : List (List ℕ)) (size k b : ℕ) (p : Put) → size_at file ≡ size → length sectors ≡ size
    → ((s : ℕ) → s < size → sector_at sectors s ≡ file_sector f file s) → has_sector f file k b ≡ true → block_put f file k b ≡ Some p → IsOf sectors p
block-puts f file sectors size k b p sized count each has is =
    let e : ℕ = entry f file b in
    let i : ℕ = k - e - 1 in
    let s : ℕ = b * f.block + i in
    let n = and_parts (is_named f file b) _ has in
    let l = and_parts (nat_lt e k) (nat_le k (e + f.block)) n.1 in
    let there : (e == blank) ≡ false = not-true (e == blank) n.0 in
    let low : e < k = let t = l.0 in grind (arith, nat_tests) in
    let high : k ≤ e + f.block = let t = l.1 in grind (arith, nat_tests) in
    let g = is-given (is_set (sector_at file e) i && nat_lt s (size_at file)) (record { sector = s; bytes = sector_at file k }) p is in
    let q = and_parts (is_set (sector_at file e) i) (nat_lt s (size_at file)) g.0 in
    let below : s < size = let t : nat_lt s size ≡ true = rw (← sized) q.1 in grind (arith, nat_tests) in
    let part : i < f.block = omega (arith, low, high) in
    let from : s / f.block ≡ b = div-mul-add b f.block i part in
    let rest : s % f.block ≡ i = mod-mul-add b f.block i part in
    let place : e + (1 + i) ≡ k = omega (arith, low) in
    let here : file_sector f file s ≡ sector_at file k =
    ap (λ c. sector_in file (entry f file c) (s % f.block)) from ∙ ap (sector_in file e) rest ∙ set-sector file e i there q.0 ∙ ap (sector_at file) place in
    subst (IsOf sectors) g.1 (record { within = omega (arith, below, count); same = sym (each s below ∙ here) })

dynamic-puts : (f : FileLayout) (file : File) (sectors : List (List ℕ)) (size k : ℕ) (p : Put) → size_at file ≡ size → length sectors ≡ size
    → ((s : ℕ) → s < size → sector_at sectors s ≡ file_sector f file s) → dynamic_put f file k ≡ Some p → IsOf sectors p
unfolding dynamic_put
dynamic-puts f file sectors size k p sized count each is = by (nat_le (table_end f) k) refl
  where
    found : (find (has_sector f file k) (numbers 0 f.blocks) >>= block_put f file k) ≡ Some p → IsOf sectors p
    found q =
        let b = bind-some (find (has_sector f file k) (numbers 0 f.blocks)) (block_put f file k) p q in
        let e : block_put f file k b.0 ≡ Some p = ap (λ (o : Option ℕ). o >>= block_put f file k) (sym b.1) ∙ q in
        block-puts f file sectors size k b.0 p sized count each (find-some (has_sector f file k) (numbers 0 f.blocks) b.0 b.1).1 e

    by : (t : Bool) → nat_le (table_end f) k ≡ t → IsOf sectors p
    by true t = found (let q = is in rw t at q)
    by false t = absurd (let q : None ≡ Some p = rw t at is in cc q)

pub puts-dynamic : (file : File) (sectors : List (List ℕ)) → IsDynamic file sectors → PutsOnly file sectors
unfolding put_at
puts-dynamic file sectors d = λ k p less is.
    let f : FileLayout = layout_of d.footer d.header in
    let w = known file sectors d in
    let a : (layout_at file >>= (λ x. dynamic_put x file k)) ≡ Some p = ap (λ b. if b then layout_at file >>= (λ x. dynamic_put x file k) else fixed_put file k) (sym w.dynamic) ∙ is in
    let b : dynamic_put f file k ≡ Some p = ap (λ (o : Option FileLayout). o >>= (λ x. dynamic_put x file k)) (sym w.layout) ∙ a in
    dynamic-puts f file sectors (d.footer.current / 512) k p w.sized d.disk.count d.disk.each b

-- ---- a fixed file

pub not-dynamic : (file : File) (kind : ℕ) → ¬ BeginsAsDynamic file → (kind ≡ 3) ⊎ (kind ≡ 4) → is_kind kind (footer_at file 0) ≡ false
unfolding footer_at
not-dynamic file kind plain which = by (is_kind kind (footer_at file 0)) refl
  where
    by : (b : Bool) → is_kind kind (footer_at file 0) ≡ b → is_kind kind (footer_at file 0) ≡ false
    by false is = is
    by true is = absurd
        (let f = of-kind kind (footer_at file 0) is in
        plain (record { footer = f.0; reads = read-ok _ f.0 f.1; kind = subst (λ n. (n ≡ 3) ⊎ (n ≡ 4)) (sym f.2) which }))

pub puts-fixed : (file : File) (sectors : List (List ℕ)) → IsFixed file sectors → PutsOnly file sectors
unfolding put_at
puts-fixed file sectors d = λ k p less is.
    let plain : is_dynamic file ≡ false = not-dynamic file 3 d.plain (inl refl) in
    let a : fixed_put file k ≡ Some p = ap (λ b. if b then layout_at file >>= (λ x. dynamic_put x file k) else fixed_put file k) (sym plain) ∙ is in
    by k p less a
  where
    by : (k : ℕ) (p : Put) → k < length file → fixed_put file k ≡ Some p → IsOf sectors p
    by zero p less a = absurd (cc a)
    by (suc k) p less a =
        let q : Put = record { sector = k; bytes = sector_at file k } in
        let below : k < length file - 1 = omega (arith, less) in
        let here : IsOf sectors q = record { within = omega (arith, below, d.disk.count); same = sym (d.disk.each k below) } in
        subst (IsOf sectors) (same_some q p a) here
