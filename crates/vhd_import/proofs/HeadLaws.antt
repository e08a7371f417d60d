-- What the first sectors of a file say, where they read.
use Rattle.std.proofs.Common.{◌≡◌, inl, inr, ℕ, ◌+◌, ◌/◌, ◌%◌, ◌<◌, ◌≤◌, Bool, true, false, ◌&&◌, List, [], ◌∷◌, ◌++◌, Option, Some, None, Result, Ok, refl, sym, ap, ◌∙◌, arith}
use Rattle.std.specs.Prelude.{nat_le, ◌==◌, is_some, if◌then◌else◌}
use Rattle.std.specs.Int.{is_power_of_two}
use Rattle.std.specs.Option.{option_map_or}
use Rattle.std.specs.Result.{result_ok}
use Rattle.std.proofs.lemmas.Bool.{and_parts, le-ltb}
use Rattle.std.proofs.lemmas.Bool.Decides.{nat_tests}
use Rattle.common_laws.specs.Lists.{In, given, ◌>>=◌}
use Rattle.common_laws.proofs.Options.{bind-some}
use Rattle.sm_base.specs.Numbers.{div_up}
use Rattle.vhd_fields.specs.declared.faults.FieldFault.{FieldFault}
use Rattle.vhd_fields.specs.declared.faults.FieldFault.TheVariants.{Field}
use Rattle.vhd_fields.specs.declared.footers.Footer.{Footer}
use Rattle.vhd_fields.specs.declared.headers.Header.{Header}
use Rattle.vhd_fields.specs.Fields.{first_fault, number_at, unless_fault}
use Rattle.vhd_fields.specs.Headers.{header_fault, header_fields, header_read, header_tests, is_block, is_entries, is_table_offset}
use Rattle.vhd_stream.specs.Files.{File, FileLayout, layout_of, sector_at, table_end}
use Rattle.vhd_import.specs.Heads.{any_header, exceeds, footer_at, header_at, is_kind, lacks_entries, layout_at, without_parent}
use Rattle.vhd_import.proofs.TestLaws.{is-given, read-ok, same_some}

pub of-kind : (kind : ℕ) (o : Option Footer) → is_kind kind o ≡ true → (f : Footer) × (o ≡ Some f) × (f.kind ≡ kind)
of-kind kind None h = absurd (cc h)
of-kind kind (Some f) h = (f, refl, grind (arith, nat_tests))

no-parent : (h x : Header) → without_parent h ≡ Some x → (h ≡ x) × (x.parent ≡ None)
no-parent h x is = by (h.parent) refl
  where
    by : (p : Option _) → h.parent ≡ p → (h ≡ x) × (x.parent ≡ None)
    by (Some q) e = absurd (let r : without_parent h ≡ None = rw e refl in cc (sym r ∙ is))
    by None e = let r : without_parent h ≡ Some h = rw e refl in let same = same_some h x (sym r ∙ is) in (same, ap (λ (y : Header). y.parent) (sym same) ∙ e)

-- a file begins with a footer and a header, which give this layout
pub record IsHeaded (file : File) (f : FileLayout) : Type 0 where
  pub footer : Footer
  pub header : Header
  pub footer_reads : footer_at file 0 ≡ Some footer
  pub header_reads : header_read (sector_at file 1 ++ sector_at file 2) ≡ Ok header
  pub orphan : header.parent ≡ None
  pub layout_is : f ≡ layout_of footer header
  pub fits : f.blocks ≤ f.entries

pub headed : (file : File) (f : FileLayout) → layout_at file ≡ Some f → IsHeaded file f
unfolding layout_at header_at
headed file f is =
    let ends : Footer → Header → Option FileLayout = λ a h. given (nat_le (layout_of a h).blocks h.entries) (layout_of a h) in
    let rest : Footer → Option FileLayout = λ a. header_at file >>= ends a in
    let a = bind-some (footer_at file 0) rest f is in
    let e : rest a.0 ≡ Some f = ap (λ o. o >>= rest) (sym a.1) ∙ is in
    let h = bind-some (header_at file) (ends a.0) f e in
    let d : ends a.0 h.0 ≡ Some f = ap (λ o. o >>= ends a.0) (sym h.1) ∙ e in
    let g = is-given (nat_le (layout_of a.0 h.0).blocks h.0.entries) (layout_of a.0 h.0) f d in
    let b = bind-some (result_ok (header_read (sector_at file 1 ++ sector_at file 2))) without_parent h.0 h.1 in
    let c : without_parent b.0 ≡ Some h.0 = ap (λ o. o >>= without_parent) (sym b.1) ∙ h.1 in
    let lone = no-parent b.0 h.0 c in
    let low : (layout_of a.0 h.0).blocks ≤ h.0.entries = let t = g.0 in grind (arith, nat_tests) in
    record {
      footer = a.0;
      header = h.0;
      footer_reads = a.1;
      header_reads = read-ok _ b.0 b.1 ∙ ap (λ (x : Header). let r : Result Header FieldFault = Ok x in r) lone.0;
      orphan = lone.1;
      layout_is = sym g.1;
      fits = rw (← g.1) low;
    }

-- and where a header reads and names no parent, it is the file's
pub header-is : (file : File) (h : Header) → header_read (sector_at file 1 ++ sector_at file 2) ≡ Ok h → h.parent ≡ None → header_at file ≡ Some h
unfolding header_at
header-is file h reads alone =
    let a : result_ok (header_read (sector_at file 1 ++ sector_at file 2)) ≡ Some h = ap (λ (r : Result Header FieldFault). result_ok r) reads in
    ap (λ (o : Option Header). o >>= without_parent) a ∙ ap (λ p. if is_some p then None else Some h) alone

pub layout-is : (file : File) (a : Footer) (h : Header) → footer_at file 0 ≡ Some a → header_at file ≡ Some h → (layout_of a h).blocks ≤ h.entries → layout_at file ≡ Some (layout_of a h)
unfolding layout_at
layout-is file a h footer header fits =
    let ends : Footer → Header → Option FileLayout = λ a h. given (nat_le (layout_of a h).blocks h.entries) (layout_of a h) in
    let t : nat_le (layout_of a h).blocks h.entries ≡ true = grind (arith, nat_tests) in
    ap (λ (o : Option Footer). o >>= (λ x. header_at file >>= ends x)) footer ∙ ap (λ (o : Option Header). o >>= ends a) header
    ∙ ap (λ b. given b (layout_of a h)) t

-- where a file has its numbers, the table has entries enough
pub entries-enough : (file : File) (f : FileLayout) → layout_at file ≡ Some f → lacks_entries file ≡ false
unfolding lacks_entries
entries-enough file f is =
    let h = headed file f is in
    let same : h.header.entries ≡ f.entries = ap (λ (x : FileLayout). x.entries) (sym h.layout_is) in
    let many : (layout_of h.footer h.header).blocks ≡ f.blocks = ap (λ (x : FileLayout). x.blocks) (sym h.layout_is) in
    let fits : exceeds h.footer h.header ≡ false = le-ltb h.header.entries (layout_of h.footer h.header).blocks (omega (arith, h.fits, same, many)) in
    let header : any_header file ≡ Some h.header = ap (λ (r : Result Header FieldFault). result_ok r) h.header_reads in
    ap (λ (o : Option Footer). option_map_or (λ a. option_map_or (exceeds a) (any_header file) false) o false) h.footer_reads
    ∙ ap (λ (o : Option Header). option_map_or (exceeds h.footer) o false) header ∙ fits

-- ---- where the table stands

pub passes : (ts : List (Bool × FieldFault)) → first_fault ts ≡ None → (t : Bool × FieldFault) → In t ts → t.0 ≡ true
passes [] h t i = absurd i
passes (x ∷ ts) h t i = by (x.0) refl (λ e j. passes ts e t j) i
  where
    by : (b : Bool) → x.0 ≡ b → (first_fault ts ≡ None → In t ts → t.0 ≡ true) → In t (x ∷ ts) → t.0 ≡ true
    by true is rest (inl same) = ap (λ (y : Bool × FieldFault). y.0) same ∙ is
    by true is rest (inr j) = let e : first_fault ts ≡ None = rw is at h in rest e j
    by false is rest j = absurd (let e : Some x.1 ≡ None = rw is at h in cc e)

pub read-fields : {A : Type 0} (o : Option FieldFault) (x y : A) → unless_fault o x ≡ Ok y → (o ≡ None) × (x ≡ y)
read-fields None x y h = (refl, cc h)
read-fields (Some e) x y h = absurd (cc h)

table-behind : (bytes : List ℕ) (h : Header) → header_read bytes ≡ Ok h → (1536 ≤ h.table_offset) × (1 ≤ h.entries)
unfolding header_tests header_fields
table-behind bytes h reads =
    let parts = read-fields (header_fault bytes) (header_fields bytes) h reads in
    let offset : is_table_offset (number_at 16 8 bytes) ≡ true = passes (header_tests bytes) parts.0 (is_table_offset (number_at 16 8 bytes), Field 16) (inr (inr (inr (inl refl)))) in
    let many : is_entries (number_at 28 4 bytes) ≡ true = passes (header_tests bytes) parts.0 (is_entries (number_at 28 4 bytes), Field 28) (inr (inr (inr (inr (inl refl))))) in
    let at : number_at 16 8 bytes ≡ h.table_offset = ap (λ (x : Header). x.table_offset) parts.1 in
    let count : number_at 28 4 bytes ≡ h.entries = ap (λ (x : Header). x.entries) parts.1 in
    let low : 1536 ≤ number_at 16 8 bytes = let t : nat_le 1536 (number_at 16 8 bytes) ≡ true = (and_parts (number_at 16 8 bytes % 512 == 0) (nat_le 1536 (number_at 16 8 bytes)) offset).1 in grind (arith, nat_tests) in
    let some : 1 ≤ number_at 28 4 bytes = let t : nat_le 1 (number_at 28 4 bytes) ≡ true = (and_parts (nat_le 1 (number_at 28 4 bytes)) (nat_le (number_at 28 4 bytes) 1044480) many).0 in grind (arith, nat_tests) in
    (omega (arith, low, at), omega (arith, some, count))

-- a block has some sectors
pub block-some : (bytes : List ℕ) (h : Header) → header_read bytes ≡ Ok h → 0 < h.block / 512
unfolding header_tests header_fields
block-some bytes h reads =
    let parts = read-fields (header_fault bytes) (header_fields bytes) h reads in
    let n : ℕ = number_at 32 4 bytes in
    let good : is_block n ≡ true = passes (header_tests bytes) parts.0 (is_block n, Field 32) (inr (inr (inr (inr (inr (inl refl)))))) in
    let at : n ≡ h.block = ap (λ (x : Header). x.block) parts.1 in
    let low : 4096 ≤ n = let t : nat_le 4096 n ≡ true = (and_parts (is_power_of_two n) (nat_le 4096 n) (and_parts (is_power_of_two n && nat_le 4096 n) (nat_le n 2097152) good).0).1 in grind (arith, nat_tests) in
    omega (arith, low, at)

-- where the table of a header may begin, how many entries it may have, and how long a block may be
pub header-bounds : (bytes : List ℕ) (h : Header) → header_read bytes ≡ Ok h → (3 ≤ h.table_offset / 512) × (h.entries ≤ 1044480) × (h.block / 512 ≤ 4096)
unfolding header_tests header_fields
header-bounds bytes h reads =
    let parts = read-fields (header_fault bytes) (header_fields bytes) h reads in
    let many : is_entries (number_at 28 4 bytes) ≡ true = passes (header_tests bytes) parts.0 (is_entries (number_at 28 4 bytes), Field 28) (inr (inr (inr (inr (inl refl))))) in
    let good : is_block (number_at 32 4 bytes) ≡ true = passes (header_tests bytes) parts.0 (is_block (number_at 32 4 bytes), Field 32) (inr (inr (inr (inr (inr (inl refl)))))) in
    let count : number_at 28 4 bytes ≡ h.entries = ap (λ (x : Header). x.entries) parts.1 in
    let long : number_at 32 4 bytes ≡ h.block = ap (λ (x : Header). x.block) parts.1 in
    let few : number_at 28 4 bytes ≤ 1044480 = let t : nat_le (number_at 28 4 bytes) 1044480 ≡ true = (and_parts (nat_le 1 (number_at 28 4 bytes)) (nat_le (number_at 28 4 bytes) 1044480) many).1 in grind (arith, nat_tests) in
    let short : number_at 32 4 bytes ≤ 2097152 = let t : nat_le (number_at 32 4 bytes) 2097152 ≡ true = (and_parts (is_power_of_two (number_at 32 4 bytes) && nat_le 4096 (number_at 32 4 bytes)) (nat_le (number_at 32 4 bytes) 2097152) good).1 in grind (arith, nat_tests) in
    let behind = table-behind bytes h reads in
    (omega (arith, behind.0), omega (arith, few, count), omega (arith, short, long))

-- the table of a file begins behind its footer and header
pub begin-behind : (file : File) (f : FileLayout) → layout_at file ≡ Some f → 3 ≤ f.table
begin-behind file f is =
    let h = headed file f is in
    let low = table-behind (sector_at file 1 ++ sector_at file 2) h.header h.header_reads in
    omega (arith, low.0, ap (λ (x : FileLayout). x.table) h.layout_is)

-- and ends there, since it has an entry
pub end-behind : (file : File) (f : FileLayout) → layout_at file ≡ Some f → 4 ≤ table_end f
unfolding div_up
end-behind file f is =
    let h = headed file f is in
    let low = table-behind (sector_at file 1 ++ sector_at file 2) h.header h.header_reads in
    let some : 1 ≤ f.entries = omega (arith, low.1, ap (λ (x : FileLayout). x.entries) h.layout_is) in
    omega (arith, begin-behind file f is, some)

-- the same, of a file by its definition
pub end-of-header : (bytes : List ℕ) (a : Footer) (h : Header) → header_read bytes ≡ Ok h → 4 ≤ table_end (layout_of a h)
unfolding div_up
end-of-header bytes a h reads = let low = table-behind bytes h reads in omega (arith, low.0, low.1)

-- a block of the disk has its entry in front of the end of the table
pub entry-within : (f : FileLayout) (b : ℕ) → b < f.entries → f.table + b / 128 < table_end f
unfolding div_up
entry-within f b less = omega (arith, less)
