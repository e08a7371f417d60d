-- A new image: its fields are proper, and what is written of it reads as it.
use Rattle.std.proofs.Common.{◌≡◌, ◌≢◌, ℕ, ◌+◌, ◌-◌, ◌*◌, ◌/◌, ◌%◌, ◌<◌, ◌≤◌, ◌==◌, ◌++◌, ◌&&◌, ◌⊎◌, min, if◌then◌else◌, List, [], ◌∷◌, length, take, drop, replicate, Bool, true, false, not, Option, Some, None, Ok, IsTrue, refl, sym, ap, ap₂, ◌∙◌, subst, inl, inr, ⊎_elim, eq-eqb, length-append, arith}
use Rattle.std.specs.Option.{ForSome}
use Rattle.std.specs.Int.{is_power_of_two}
use Rattle.std.specs.Int.RustNames.{count_ones}
use Rattle.std.specs.Int.Count.{ones_step}
use Rattle.std.specs.Prelude.{nat_le}
use Rattle.std.specs.Result.{result_ok}
use Rattle.std.proofs.lemmas.Bool.{cases_eq, ne_eqb, le-leb}
use Rattle.std.proofs.lemmas.List.{length-replicate, take-append-drop}
use Rattle.std.proofs.lemmas.Nat.{mul-le}
use Rattle.std.proofs.lemmas.Option.{none-some}
use Rattle.sm_base.specs.Numbers.{first, div_up, IsGeometry}
use Rattle.sm_base.proofs.NumberLemmas.{first-ge}
use Rattle.sm_base.specs.declared.names.Name.{Name}
use Rattle.sm_base.specs.declared.sizes.Geometry.{Geometry}
use Rattle.vg_meta.specs.Tables.{Row, row_of, extents_of, extents_in, name_eq}
use Rattle.vhd_fields.specs.declared.footers.Footer.{Footer}
use Rattle.vhd_fields.specs.declared.headers.Header.{Header}
use Rattle.vhd_fields.specs.Footers.{IsFooter, footer_read, is_size}
use Rattle.vhd_fields.specs.Headers.{IsHeader, header_read, is_block, is_entries}
use Rattle.vhd_fields.specs.ParentNames.{IsParent}
use Rattle.sm_disk.specs.Held.{Held}
use Rattle.vg_volumes.specs.Volumes.{KeepsAt}
use Rattle.vhd_map.specs.Places.{code, word}
use Rattle.vhd_map.specs.Slots.{slot_of, top_of, IsMap}
use Rattle.vhd_map.proofs.SlotLemmas.{top_of-past, top_of-replicate}
use Rattle.vhd_layout.specs.Layouts.{Sectors, entries_in_sectors, slot_count}
use Rattle.vhd_layout.specs.Images.{IsHead, IsFooterOf, IsHeaderOf, header_at}
use Rattle.vhd_layout.proofs.ImageLaws.{slots-fit}
use Rattle.vhd_volumes.specs.Truth.{layout_in, HasRoomFor, IsStanding}
use Rattle.vhd_image.specs.declared.images.Body.{Body}
use Rattle.vhd_volumes.specs.Steady.{IsHeadSector}
use Rattle.vhd_volumes.specs.Writes.{KeepsBut}
use Rattle.vhd_image.specs.Calls.{MayPut}
use Rattle.vhd_image.specs.Made.{IsDiskSize, MayHave, new_header, new_footer, HasEntriesTo, IsInSlots, IsInTable, IsMapOf}
use Rattle.vhd_image.specs.Opened.{FitsIn, IsTableTo}
use Rattle.vhd_image.proofs.CallLaws.{put-others}
use Rattle.vhd_image.proofs.OpeningLaws.{footer-own, stands-from}
use Rattle.vhd_image.proofs.TableLaws.{slot_of-blank}

-- ---- the size of a volume

-- a volume has no more extents than all have
pub extents-le : (rs : List Row) (n : Name) → length (extents_of (row_of rs n)) ≤ length (extents_in rs)
unfolding row_of
extents-le [] n = omega arith
extents-le (r ∷ rs) n =
    let rest = extents-le rs n in
    let all = length-append r.extents (extents_in rs) in
    elim (name_eq r.name n) as (λ (b : Bool). length (extents_of (if b then Some r else row_of rs n)) ≤ length (extents_in (r ∷ rs))) [
      | true ↦ omega (arith, all)
      | false ↦ omega (arith, all, rest)
    ]

-- ---- proper fields

ones-double : (n : ℕ) → count_ones (2 * n) ≡ count_ones n
ones-double n =
    let step = ones_step (2 * n) in
    let even : 2 * n % 2 ≡ 0 = omega arith in
    let half : 2 * n / 2 ≡ n = omega arith in
    let same : count_ones (2 * n / 2) ≡ count_ones n = ap count_ones half in
    omega (arith, step, even, same)

ones-512 : (n : ℕ) → count_ones (512 * n) ≡ count_ones n
ones-512 n =
    let at : 512 * n ≡ 2 * (2 * (2 * (2 * (2 * (2 * (2 * (2 * (2 * n)))))))) = omega arith in
    ap count_ones at ∙ ones-double (2 * (2 * (2 * (2 * (2 * (2 * (2 * (2 * n)))))))) ∙ ones-double (2 * (2 * (2 * (2 * (2 * (2 * (2 * n))))))) ∙ ones-double (2 * (2 * (2 * (2 * (2 * (2 * n)))))) ∙ ones-double (2 * (2 * (2 * (2 * (2 * n))))) ∙ ones-double (2 * (2 * (2 * (2 * n)))) ∙ ones-double (2 * (2 * (2 * n))) ∙ ones-double (2 * (2 * n)) ∙ ones-double (2 * n) ∙ ones-double n

all_true : (a b c : Bool) → a ≡ true → b ≡ true → c ≡ true → (a && b && c) ≡ true
all_true a b c ha hb hc = rw (ha, hb, hc) refl

both_true : (a b : Bool) → a ≡ true → b ≡ true → (a && b) ≡ true
both_true a b ha hb = rw (ha, hb) refl

block-proper : (g : Geometry) → IsGeometry g.extent g.block g.entries → IsTrue (is_block (512 * g.block))
block-proper g ok =
    let power : is_power_of_two (512 * g.block) ≡ true = ap (λ (k : ℕ). k == 1) (ones-512 g.block) ∙ ok.block_power in
    all_true (is_power_of_two (512 * g.block)) (nat_le 4096 (512 * g.block)) (nat_le (512 * g.block) 2097152) power (le-leb 4096 (512 * g.block) (omega (arith, ok.block_least))) (le-leb (512 * g.block) 2097152 (omega (arith, ok.block_most)))

entries-proper : (g : Geometry) → IsGeometry g.extent g.block g.entries → IsTrue (is_entries g.entries)
entries-proper g ok = both_true (nat_le 1 g.entries) (nat_le g.entries 1044480) (le-leb 1 g.entries ok.entries_least) (le-leb g.entries 1044480 ok.entries_most)

pub header-proper : (g : Geometry) (sectors : ℕ) (parent : Option Body) → IsGeometry g.extent g.block g.entries → ForSome parent (MayHave sectors) → IsHeader (new_header g parent)
unfolding IsParent
header-proper g sectors None ok may = record {
  table_offset = refl;
  entries = entries-proper g ok;
  block = block-proper g ok;
  parent = tt;
}
header-proper g sectors (Some p) ok may = record {
  table_offset = refl;
  entries = entries-proper g ok;
  block = block-proper g ok;
  parent = (may p refl).0;
}

-- a disk has sectors
pub some-sectors : (g : Geometry) (sectors : ℕ) → IsGeometry g.extent g.block g.entries → IsDiskSize g sectors → 1 ≤ sectors
some-sectors g sectors ok size =
    let least : 1 * 1 ≤ sectors / g.block * g.block = mul-le 1 1 (sectors / g.block) g.block size.least (omega (arith, ok.block_least)) in
    omega (arith, least, size.whole)

pub size-proper : (sectors : ℕ) → 1 ≤ sectors → IsTrue (is_size (512 * sectors))
size-proper sectors some =
    let whole : 512 * sectors % 512 ≡ 0 = omega arith in
    let other : (512 * sectors == 0) ≡ false = ne_eqb (512 * sectors) 0 (λ e. omega arith) in
    both_true (512 * sectors % 512 == 0) (not (512 * sectors == 0)) (eq-eqb (512 * sectors % 512) 0 whole) (ap not other)

pub footer-proper : (now sectors : ℕ) (uid : List ℕ) (parent : Option Body) → 1 ≤ sectors → IsFooter (new_footer now sectors uid parent)
footer-proper now sectors uid None some = record { data_offset = refl; size = size-proper sectors some; kind = refl }
footer-proper now sectors uid (Some p) some = record { data_offset = refl; size = size-proper sectors some; kind = refl }

-- ---- the head of a new image is one

module _ (g : Geometry) (n now sectors : ℕ) (uid : List ℕ) (size : IsDiskSize g sectors) where
  in_sectors : (parent : Option Body) → (new_footer now sectors uid parent).current / 512 / g.block ≡ sectors / g.block
  in_sectors parent = let back : 512 * sectors / 512 ≡ sectors = omega arith in ap (λ (k : ℕ). k / g.block) back

  pub footer-made : (parent : Option Body) → IsFooterOf (layout_in g (new_footer now sectors uid parent) n) (new_footer now sectors uid parent)
  footer-made parent = record {
    kind = by parent;
    size = ap (λ (k : ℕ). 512 * k) (size.whole ∙ ap (λ (b : ℕ). b * g.block) (sym (in_sectors parent)));
    least = omega (arith, in_sectors parent, size.least);
    most = omega (arith, in_sectors parent, size.most);
  }
    where
      by : (p : Option Body) → ((new_footer now sectors uid p).kind ≡ 3) ⊎ ((new_footer now sectors uid p).kind ≡ 4)
      by None = inl refl
      by (Some p) = inr refl

  pub header-made : (parent : Option Body) → IsHeaderOf (layout_in g (new_footer now sectors uid parent) n) (new_footer now sectors uid parent) (new_header g parent)
  header-made None = record { table_offset = refl; entries = refl; block = refl; parent = refl }
  header-made (Some p) = record { table_offset = refl; entries = refl; block = refl; parent = refl }

  -- ---- what is written reads as it

  pub head-sealed : (v : Sectors) (parent : Option Body) → first g.entries + 1 ≤ n → footer_read (v (n - 1)) ≡ Ok (new_footer now sectors uid parent) → header_at v ≡ Some (new_header g parent)
      → IsHead (layout_in g (new_footer now sectors uid parent) n) v (new_footer now sectors uid parent) (new_header g parent)
  head-sealed v parent room last header = record {
    footer_reads = footer-own n v (new_footer now sectors uid parent) (ap result_ok last);
    footer_fits = footer-made parent;
    header_reads = header;
    header_fits = header-made parent;
    room = room;
  }

  pub fits-sealed : (parent : Option Body) (m : List (Option ℕ)) → IsMap m → IsMapOf g sectors m → HasRoomFor g (top_of m) n → FitsIn (layout_in g (new_footer now sectors uid parent) n) m
  fits-sealed parent m good is room =
      let l = layout_in g (new_footer now sectors uid parent) n in
      let fit : top_of m ≤ slot_count l = slots-fit l (top_of m) room in
      record {
        sized = λ b k has. omega (arith, is.sized b k has, in_sectors parent);
        few = λ b k has. omega (arith, fit, top_of-past m b k has, good.below b k has, is.entries);
      }

  pub stands-sealed : (parent : Option Body) (volume : Name) (m : List (Option ℕ)) → first g.entries + 1 ≤ n → IsMap m → IsMapOf g sectors m → HasRoomFor g (top_of m) n
      → IsStanding g n (record { volume = volume; footer = new_footer now sectors uid parent; header = new_header g parent }) m
  stands-sealed parent volume m low good is room =
      stands-from g n (record { volume = volume; footer = new_footer now sectors uid parent; header = new_header g parent }) m is.entries (footer-made parent) (header-made parent) low (fits-sealed parent m good is room)

  pub made-stands : (parent : Option Body) (volume : Name) → HasRoomFor g 0 n → IsStanding g n (record { volume = volume; footer = new_footer now sectors uid parent; header = new_header g parent }) (replicate g.entries None)
  made-stands parent volume room =
      let f = footer-made parent in
      let h = header-made parent in
      record {
        entries = length-replicate g.entries None;
        block = h.block;
        size = f.size;
        least = f.least;
        most = f.most;
        sized = λ b slot has. absurd (none-some slot (sym (slot_of-blank g.entries b) ∙ has));
        room = subst (λ (k : ℕ). HasRoomFor g k n) (sym (top_of-replicate g.entries)) room;
      }

pub header-wrote : (v : Sectors) (bytes front back : List ℕ) (h : Header) → v 1 ≡ front → v 2 ≡ back → front ≡ take 512 bytes → back ≡ drop 512 bytes → header_read bytes ≡ Ok h → header_at v ≡ Some h
unfolding header_at
header-wrote v bytes front back h one two first second reads =
    let whole : v 1 ++ v 2 ≡ bytes = ap₂ (λ (x y : List ℕ). x ++ y) (one ∙ first) (two ∙ second) ∙ take-append-drop 512 bytes in
    ap (λ (x : List ℕ). result_ok (header_read x)) whole ∙ ap result_ok reads

-- ---- the table

pub rows-first : (entries index rows : ℕ) → rows ≡ entries / 128 + min 1 (entries % 128) → index < rows → 3 + index < first entries
unfolding first div_up
rows-first entries index rows are below = omega (arith, are, below)

pub rows-end : (entries rows : ℕ) → rows ≡ entries / 128 + min 1 (entries % 128) → first entries ≡ 3 + rows
unfolding first div_up
rows-end entries rows are = omega (arith, are)

pub rows-cover : (entries index rows b : ℕ) → rows ≡ entries / 128 + min 1 (entries % 128) → rows ≤ index → b < 128 * div_up entries 128 → b < 128 * index
unfolding div_up
rows-cover entries index rows b are past below = omega (arith, are, past, below)

pub entries-more : (index : ℕ) (g : Geometry) (m : List (Option ℕ)) (old new : Sectors) (bytes : List ℕ) → HasEntriesTo (128 * index) g m old → ((p : ℕ) → p ≢ 3 + index → new p ≡ old p) → new (3 + index) ≡ bytes
    → ((j : ℕ) → j < 128 → word bytes j ≡ code (first g.entries) g.block (slot_of m (128 * index + j))) → HasEntriesTo (128 * (index + 1)) g m new
entries-more index g m old new bytes so_far others here each b below = ⊎_elim
    (λ row. let at : 128 * index + b % 128 ≡ b = omega arith in
    ap (λ (i : ℕ). word (new (3 + i)) (b % 128)) row ∙ (ap (λ (x : List ℕ). word x (b % 128)) here
    ∙ (each (b % 128) (omega arith) ∙ ap (λ (x : ℕ). code (first g.entries) g.block (slot_of m x)) at)))
    (λ other. ap (λ (x : List ℕ). word x (b % 128)) (others (3 + b / 128) (λ e. other (omega (arith, e)))) ∙ so_far b (omega arith))
    (cases_eq (b / 128) index)

-- the entries of a table that is whole are those of an image
pub table-whole : (g : Geometry) (f : Footer) (n : ℕ) (m : List (Option ℕ)) (v : Sectors) → HasEntriesTo (128 * div_up g.entries 128) g m v → IsTableTo (entries_in_sectors (layout_in g f n)) (layout_in g f n) v m
unfolding entries_in_sectors
table-whole g f n m v has b below = has b below

-- a sector of the table is in front of a first one
pub table-front : (g : Geometry) (b : ℕ) → b < 128 * div_up g.entries 128 → 3 + b / 128 < first g.entries
unfolding first div_up
table-front g b below = omega (arith, below)

-- ---- what stays

-- at fewer places more is kept
pub keeps_fewer : {P Q : ℕ → Type 0} {a b : Held} → ((p : ℕ) → Q p → P p) → KeepsAt P a b → KeepsAt Q a b
keeps_fewer less k = record { reads = λ p at. k.reads p (less p at); may = λ p v at m. k.may p v (less p at) m }

-- a sector that was to be written keeps each other place
pub keeps_put : (W : ℕ → Type 0) (place : ℕ) (bytes : List ℕ) {a b : Held} → W place → MayPut place bytes a b → KeepsBut W a b
keeps_put W place bytes at put = keeps_fewer (λ p away e. away (subst W (sym e) at)) (put-others place bytes put)

module _ (g : Geometry) (n : ℕ) (some : 1 ≤ g.entries) where
  -- a sector of the head
  pub slots_put : (place : ℕ) (bytes : List ℕ) {a b : Held} → IsHeadSector n place → MayPut place bytes a b → KeepsAt (IsInSlots g n) a b
  slots_put place bytes at put = keeps_fewer (λ p inside e. ⊎_elim (λ front. omega (arith, front, e, inside.0, first-ge g.entries some)) (λ last. omega (arith, last, e, inside.1)) at) (put-others place bytes put)

  pub slots_header : {a b : Held} → KeepsBut (λ p. (1 ≤ p) × (p < 3)) a b → KeepsAt (IsInSlots g n) a b
  slots_header k = keeps_fewer (λ p inside at. omega (arith, at.1, inside.0, first-ge g.entries some)) k

  pub slots_table : {r : Geometry} {a b : Held} → r ≡ g → KeepsBut (IsInTable r) a b → KeepsAt (IsInSlots g n) a b
  slots_table e k = keeps_fewer (λ p inside at. omega (arith, at.1, inside.0, ap (λ (x : Geometry). first x.entries) e)) k
