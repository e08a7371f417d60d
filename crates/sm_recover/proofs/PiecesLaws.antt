-- Beside the table in which nothing is under way, each disk has as many pieces as its visible image in memory.
use Rattle.std.proofs.Common.{◌≡◌, ℕ, ◌*◌, ◌^◌, ◌≤◌, Bool, true, false, not, ◌&&◌, cond, List, [], length, Option, Some, None, is_some, refl, sym, ap, ap₂, ◌∙◌, arith}
use Rattle.std.specs.Option.{option_or}
use Rattle.std.proofs.lemmas.Bool.{true≢false}
use Rattle.std.proofs.lemmas.Nat.{mul-le}
use Rattle.std.proofs.lemmas.Option.{none-some, same_Some}
use Rattle.common_laws.specs.Lists.{◌>>=◌}
use Rattle.sm_base.specs.Numbers.{div_up}
use Rattle.sm_base.proofs.NumberLemmas.{div_up-le}
use Rattle.sm_base.specs.declared.names.Name.{Name}
use Rattle.sm_base.specs.declared.names.Name.TheVariants.{Vhd, Raw}
use Rattle.vg_meta.specs.Tables.{IsVolume, Row, VolumeTable, rows}
use Rattle.vg_meta.proofs.RowLaws.{row_of-name}
use Rattle.vg_volumes.specs.Sites.{Site}
use Rattle.vg_volumes.specs.Stored.{held_in}
use Rattle.vg_volumes.specs.declared.stores.Store.{Ghosts}
use Rattle.sm_log.specs.Logs.{piece_count}
use Rattle.sm_machine.specs.WellFormed.{IsImageRow, is_image_name}
use Rattle.sm_record.specs.declared.records.Record.{Record}
use Rattle.sm_standing.specs.Entries.{is_visible, of_row}
use Rattle.sm_standing.specs.Images.{Image, image_of}
use Rattle.sm_standing.specs.LogChecks.{pieces_in, standing_pieces}
use Rattle.sm_standing.specs.Opened.{undone}
use Rattle.sm_standing.specs.Outlines.{Link, link_of}
use Rattle.sm_standing.specs.Standing.{standing_volume}
use Rattle.sm_standing.proofs.DisksShown.{row_of-In}
use Rattle.sm_standing.proofs.PlainDisks.{no_making, plain_stands}
use Rattle.vhd_image.specs.Bodies.{sector_count}
use Rattle.vhd_chain.specs.Trees.{tree_row}
use Rattle.vhd_chain.specs.declared.rows.TreeRow.{TreeRow}
use Rattle.sm_ready.specs.Known.{machine_row, shape_in}
use Rattle.sm_ready.specs.Shown.{of_shown, of_visible}
use Rattle.sm_ready.specs.Stores.{content_now}
use Rattle.sm_ready.proofs.BegunLaws.{begun_with}
use Rattle.sm_ready.proofs.Orders.{In-tree_row}
use Rattle.sm_ready.proofs.RowLaws.{All-In, found_in}
use Rattle.sm_checks.specs.Loaded.{stored_with}
use Rattle.sm_checks.proofs.FoundLaws.{link_read}
use Rattle.sm_checks.proofs.LoadedLaws.{named_data, read_row}
use Rattle.sm_checks.proofs.ReadLaws.{some_extents}
use Rattle.sm_checks.proofs.TableLaws.{whole_none}
use Rattle.sm_recover.specs.Repairs.{IsUndoable}
use Rattle.sm_recover.specs.Tracked.{pieces_of, tree_pieces}
use Rattle.sm_recover.proofs.OpenedWell.{IsBeside, row_by, row_proper}
use Rattle.sm_recover.proofs.UndoneLaws.{undone_checked}

size_of_link : (o : Option Image) (n : ℕ) (p : Option Name) → link_of o ≡ Some (record { size = n; parent = p }) → pieces_in o ≡ piece_count n
size_of_link None n p is = absurd (none-some (record { size = n; parent = p }) is)
size_of_link (Some i) n p is = ap (λ (l : Link). piece_count l.size) (same_Some _ _ is)

module _ {S : Type 0} (g : Ghosts S) (store : S) (xs : List TreeRow) (places : List (Option Record)) {was : VolumeTable} (c : IsUndoable (g.site store) was) (k : IsBeside g store was xs places) where
  abbrev s : Site
  s = g.site store

  abbrev t : VolumeTable
  t = undone was

  -- the image of a volume that is not new, as it is in memory
  record IsRead (n : Name) (r : Row) (y : TreeRow) : Type 0 where
    found : tree_row xs n ≡ Some y
    hidden : y.hidden ≡ r.hidden
    few : pieces_of (Some y) ≡ piece_count (sector_count y.image)
    size : g.told → pieces_in (image_of (content_now s t (g.area store)) n) ≡ piece_count (sector_count y.image)

  few_pieces : (n : ℕ) → n ≤ s.geometry.entries * s.geometry.block → div_up n 128 ≤ 2 ^ 25
  few_pieces n within =
      let most : s.geometry.entries * s.geometry.block ≤ 1044480 * 4096 = mul-le s.geometry.entries s.geometry.block 1044480 4096 s.geometry.in_range.entries_most s.geometry.in_range.block_most in
      div_up-le n 128 (2 ^ 25) (omega arith) (omega (arith, within, most))

  within : (y : TreeRow) → IsImageRow (shape_in s t (begun_with xs places [] 0)) (machine_row y) → sector_count y.image ≤ s.geometry.entries * s.geometry.block
  unfolding shape_in
  within y proper = let w = proper.whole in let less = mul-le w.0 s.geometry.block s.geometry.entries s.geometry.block w.3 (omega arith) in omega (arith, w.1, less)

  read_of : (n : Name) (r : Row) → is_image_name n ≡ true → rows t n ≡ Some r → r.fresh ≡ false → (y : TreeRow) × IsRead n r y
  read_of n r image there filled =
      let d = undone_checked c in
      let named : r.name ≡ n = row_of-name t.volumes n r there in
      let i = (row_of-In t.volumes n r there).0 in
      let e = k.each r i (record { image = ap is_image_name named ∙ image; filled = filled }) in
      let y = e.0 in
      let row = e.2 in
      let some = some_extents r (All-In IsVolume t.volumes r d.table.volumes.each i).kind (named_data r.name (ap is_image_name named ∙ image)) in
      let proper = row_proper g.told s t (begun_with xs places [] 0) (held_in (stored_with g store t) r.name) r.name y.image y.hidden (length r.extents) row.image some row.named in
      let size : sector_count y.image ≤ s.geometry.entries * s.geometry.block = within (row_by y.image y.hidden (length r.extents)) proper in (
        y,
        record {
          found = ap (tree_row xs) (sym named) ∙ e.1;
          hidden = row.hidden;
          few = let f = few_pieces (sector_count y.image) size in omega (arith, f);
          size = λ told. ap (λ m. pieces_in (image_of (content_now s t (g.area store)) m)) (sym named)
              ∙ size_of_link (image_of (content_now s t (g.area store)) r.name) (sector_count y.image) _
              (link_read g.told s t (g.area store) r y.image (λ m all. (whole_none t (no_making t.volumes d.plain)).extents m all) (ap (rows t) named ∙ there) filled row.image told);
        },
      )

  -- a volume that is visible has its image in memory, visible
  visible_parts : (n : Name) → is_visible t n ≡ true → (r : Row) × (rows t n ≡ Some r) × (r.hidden ≡ false) × (r.fresh ≡ false)
  visible_parts n visible = by (rows t n) refl visible
    where
      of : (r : Row) → rows t n ≡ Some r → (a b : Bool) → r.hidden ≡ a → r.fresh ≡ b → (not a && not b) ≡ true → (r : Row) × (rows t n ≡ Some r) × (r.hidden ≡ false) × (r.fresh ≡ false)
      of r there false false shown filled e = (r, there, shown, filled)
      of r there true b shown filled e = absurd (true≢false (sym e))
      of r there false true shown filled e = absurd (true≢false (sym e))

      by : (o : Option Row) → rows t n ≡ o → of_row (λ r. not r.hidden && not r.fresh) o ≡ true → (r : Row) × (rows t n ≡ Some r) × (r.hidden ≡ false) × (r.fresh ≡ false)
      by None there e = absurd (true≢false (sym e))
      by (Some r) there e = of r there r.hidden r.fresh refl refl e

  -- one that is not visible has none that is
  none_visible : (n : Name) → is_visible t n ≡ false → of_visible (λ r. r) (tree_row xs n) ≡ None
  none_visible n other = by (tree_row xs n) refl
    where
      by : (o : Option TreeRow) → tree_row xs n ≡ o → of_visible (λ r. r) o ≡ None
      by None is = refl
      by (Some y) is =
          let v = In-tree_row xs n y is in
          let w = read_row k.are k.each y v.0 in
          let there : rows t n ≡ Some w.volume = ap (rows t) (sym v.1 ∙ w.row.named) ∙ found_in t.volumes (undone_checked c).table.volumes.rising w.volume w.there in
          shown_not y.hidden (ap not w.row.hidden ∙ sym (ap (λ b. not w.volume.hidden && not b) w.filled.filled ∙ and_true (not w.volume.hidden)) ∙ sym (ap (of_row (λ r. not r.hidden && not r.fresh)) there) ∙ other)
        where
          and_true : (b : Bool) → (b && true) ≡ b
          and_true true = refl
          and_true false = refl

          shown_not : (b : Bool) → not b ≡ false → cond b None (Some y) ≡ None
          shown_not true e = refl
          shown_not false e = absurd (true≢false e)

  -- a disk has the pieces of that image
  at_image : g.told → (u : List ℕ) (n : Name) (y : TreeRow) → standing_volume t u ≡ Some n → of_shown (λ r. r) xs u ≡ Some y → (r : Row) → IsRead n r y
      → tree_pieces xs u ≡ standing_pieces (content_now s t (g.area store)) u
  unfolding standing_pieces
  at_image told u n y stands shown r read =
      ap pieces_of shown ∙ read.few ∙ sym (read.size told) ∙ sym (ap (λ (o : Option Name). pieces_in (o >>= image_of (content_now s t (g.area store)))) stands)

  pub pieces_beside : g.told → (u : List ℕ) → is_some (standing_volume t u) ≡ true → tree_pieces xs u ≡ standing_pieces (content_now s t (g.area store)) u
  unfolding of_shown is_image_name
  pieces_beside told u stands = by (is_visible t (Vhd u)) (is_visible t (Raw u)) refl refl (sym (ap is_some plain) ∙ stands)
    where
      plain : standing_volume t u ≡ cond (is_visible t (Vhd u)) (Some (Vhd u)) (cond (is_visible t (Raw u)) (Some (Raw u)) None)
      plain = plain_stands t u (undone_checked c).plain

      seen : (n : Name) → is_image_name n ≡ true → is_visible t n ≡ true → (r : Row) × (y : TreeRow) × IsRead n r y × (of_visible (λ r. r) (tree_row xs n) ≡ Some y)
      seen n image visible =
          let v = visible_parts n visible in
          let e = read_of n v.0 image v.1 v.3 in
          (v.0, e.0, e.1, ap (of_visible (λ r. r)) e.1.found ∙ ap (λ b. cond b None (Some e.0)) (e.1.hidden ∙ v.2))

      by : (a b : Bool) → is_visible t (Vhd u) ≡ a → is_visible t (Raw u) ≡ b → is_some (cond a (Some (Vhd u)) (cond b (Some (Raw u)) None)) ≡ true → tree_pieces xs u ≡ standing_pieces (content_now s t (g.area store)) u
      by true b vhd raw e =
          let w = seen (Vhd u) refl vhd in
          at_image told u (Vhd u) w.1 (plain ∙ ap (λ x. cond x (Some (Vhd u)) (cond (is_visible t (Raw u)) (Some (Raw u)) None)) vhd)
          (ap (λ o. option_or o (of_visible (λ r. r) (tree_row xs (Raw u)))) w.3) w.0 w.2
      by false true vhd raw e =
          let w = seen (Raw u) refl raw in
          at_image told u (Raw u) w.1 (plain ∙ ap₂ (λ x z. cond x (Some (Vhd u)) (cond z (Some (Raw u)) None)) vhd raw)
          (ap₂ option_or (none_visible (Vhd u) vhd) w.3) w.0 w.2
      by false false vhd raw e = absurd (true≢false (sym e))
