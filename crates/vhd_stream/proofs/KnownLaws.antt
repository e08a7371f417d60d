-- The blocks of a disk by the images in memory are those of the disk that a read of a ready store gives.
use Rattle.std.proofs.Common.{◌≡◌, ℕ, zero, suc, ◌*◌, ◌≤◌, Bool, true, false, List, map, Option, Some, None, is_some, refl, sym, ap, ap₂, ◌∙◌, subst, arith}
use Rattle.std.proofs.Math.Logic.{∥∥₁_elim}
use Rattle.std.proofs.Math.Path.{fun_ext}
use Rattle.std.proofs.Props.{props}
use Rattle.std.proofs.lemmas.Bool.{true≢false}
use Rattle.std.proofs.lemmas.Option.{none-some, same_Some}
use Rattle.std.proofs.lemmas.Slice.Eq.{bytes_eq-Decides}
use Rattle.std.specs.Prelude.{◌||◌}
use Rattle.std.specs.List.{range_with_len}
use Rattle.std.specs.Str.{bytes_eq}
use Rattle.common_laws.specs.Lists.{In}
use Rattle.common_laws.proofs.Lists.{In-map, In-map_at, find-some}
use Rattle.sm_base.specs.declared.names.Name.{Name}
use Rattle.sm_disk.specs.Held.{Held}
use Rattle.vg_meta.specs.Tables.{Row, VolumeTable}
use Rattle.vg_volumes.specs.Sites.{Site}
use Rattle.vg_volumes.specs.Stored.{Stored}
use Rattle.vhd_image.specs.Bodies.{sector_count, parent_name}
use Rattle.vhd_chain.specs.Reading.{chain_reads, slots_of}
use Rattle.vhd_chain.specs.Trees.{row_name, tree_row}
use Rattle.vhd_chain.specs.declared.rows.TreeRow.{TreeRow}
use Rattle.sm_machine.specs.Shapes.{DiskRecord, ImageRow, chain_limit, disk_record, image_uuid}
use Rattle.sm_machine.specs.WellFormed.{IsWellFormed}
use Rattle.sm_standing.specs.Contents.{Content}
use Rattle.sm_standing.specs.Images.{Image, image_of, sectors_read}
use Rattle.sm_standing.specs.Shapes.{image_row, image_rows, row_of}
use Rattle.sm_standing.specs.Standing.{standing_volume}
use Rattle.sm_standing.proofs.Orders.{In-filter_map}
use Rattle.sm_ready.specs.Known.{Known, machine_row, shape_in}
use Rattle.sm_ready.specs.Orderly.{IsOrderly}
use Rattle.sm_ready.specs.Ready.{IsReady, IsTidy}
use Rattle.sm_ready.specs.Stores.{content_now}
use Rattle.sm_ready.proofs.Orders.{In-tree_row, geometry_of}
use Rattle.sm_ready.proofs.ShapeLaws.{images_now}
use Rattle.sm_ready.proofs.TruthLaws.{row_found}
use Rattle.cmd_guest.specs.Writing.{own_name}
use Rattle.cmd_guest.proofs.NowLaws.{chain_now, row_read, stands_in}
use Rattle.cmd_guest.proofs.OwnLaws.{own_name_is}
use Rattle.vhd_stream.specs.Exports.{DiskBlocks, disk_blocks, has_block, is_there}
use Rattle.vhd_stream.specs.Known.{blocks_read, is_known, row_has}
use Rattle.vhd_stream.proofs.DiskLaws.{sectors-are}

-- ---- the row of a disk

-- the own image of a disk, visible, and found by its name
pub record IsOwnDisk (m : Known) (u : List ℕ) : Type 0 where
  pub row : TreeRow
  pub there : In row m.rows
  pub shown : row.hidden ≡ false
  pub uuid : image_uuid (row_name row) ≡ u
  pub name : own_name m.rows u ≡ row_name row
  pub found : tree_row m.rows (own_name m.rows u) ≡ Some row

pub own_disk : (s : Site) (t : VolumeTable) (m : Known) (u : List ℕ) → IsOrderly s t m → IsWellFormed (shape_in s t m) → is_some (disk_record u (shape_in s t m)) ≡ true → IsOwnDisk m u
unfolding shape_in
own_disk s t m u o w known = by (disk_record u (shape_in s t m)) refl known
  where
    by : (x : Option DiskRecord) → disk_record u (shape_in s t m) ≡ x → is_some x ≡ true → IsOwnDisk m u
    by None e some = absurd (true≢false (sym some))
    by (Some d) e some =
        let f = find-some (λ (r : DiskRecord). bytes_eq r.uuid u) (shape_in s t m).records d e in
        let i = w.disks d f.0 in
        let q = In-map machine_row m.rows i.0 i.1 in
        let named : image_uuid (row_name q.0) ≡ u = sym (ap (λ (y : ImageRow). image_uuid y.name) q.2) ∙ i.3 ∙ (bytes_eq-Decides d.uuid u).0 f.1 in
        let own = own_name_is s t m u o w q.0 q.1 named in
        record {
          row = q.0;
          there = q.1;
          shown = sym (ap (λ (y : ImageRow). y.hidden) q.2) ∙ i.2;
          uuid = named;
          name = own;
          found = ap (tree_row m.rows) own ∙ row_found s t m o q.0 q.1;
        }

-- its blocks
pub record HasBlocks (s : Site) (r : TreeRow) : Type 0 where
  pub blocks : ℕ
  pub size : sector_count r.image ≡ blocks * s.geometry.block
  pub most : blocks ≤ 1044480

pub row_blocks : (s : Site) (t : VolumeTable) (m : Known) (r : TreeRow) → IsOrderly s t m → IsWellFormed (shape_in s t m) → In r m.rows → HasBlocks s r
unfolding shape_in
row_blocks s t m r o w i =
    let size = (w.images (machine_row r) (In-map_at machine_row m.rows r i)).whole in
    let g = geometry_of s t m o in
    record { blocks = size.0; size = size.1; most = omega (arith, size.3, g.entries_most) }

-- ---- the images of a ready store

module _ (s : Site) (t : VolumeTable) (area : Held) (m : Known) (o : IsOrderly s t m) (tidy : IsTidy t m) (ready : IsReady s t area m) where
  abbrev c : Content
  c = content_now s t area

  abbrev x : Stored
  x = record { site = s; table = t; area = area }

  -- the image of a row, as a read gives it
  record IsImageOf (r : TreeRow) : Type 0 where
    image : Image
    there : image_of (content_now s t area) (row_name r) ≡ Some image
    size : image.size ≡ sector_count r.image
    parent : image.parent ≡ parent_name r.image
    slots : image.slots ≡ slots_of r.image

  image_now : (r : TreeRow) → In r m.rows → IsImageOf r
  unfolding shape_in row_of
  image_now r i =
      let images : map machine_row m.rows ≡ image_rows (content_now s t area) = ∥∥₁_elim o.well_formed (hlevel props) (λ w. sym (images_now s t area m tidy.none_new o ready.firm w)) in
      let at = In-filter_map (row_of (content_now s t area)) t.volumes (machine_row r) (subst (In (machine_row r)) images (In-map_at machine_row m.rows r i)) in
      by at.0 (image_of (content_now s t area) at.0.name) refl at.2
    where
      by : (v : Row) (y : Option Image) → image_of (content_now s t area) v.name ≡ y → elim y as (λ _. Option ImageRow) [ None ↦ None | Some i ↦ Some (image_row v i) ] ≡ Some (machine_row r) → IsImageOf r
      by v None there is = absurd (none-some (machine_row r) is)
      by v (Some i) there is =
          let same : image_row v i ≡ machine_row r = same_Some (image_row v i) (machine_row r) is in
          record {
            image = i;
            there = ap (image_of (content_now s t area)) (sym (ap (λ (q : ImageRow). q.name) same)) ∙ there;
            size = ap (λ (q : ImageRow). q.size) same;
            parent = ap (λ (q : ImageRow). q.parent) same;
            slots = ap (λ (q : ImageRow). q.slots) same;
          }

  none_now : (n : Name) → tree_row m.rows n ≡ None → image_of (content_now s t area) n ≡ None
  none_now n none = by (image_of (content_now s t area) n) refl
    where
      by : (y : Option Image) → image_of (content_now s t area) n ≡ y → image_of (content_now s t area) n ≡ None
      by None e = e
      by (Some i) e =
          let w = row_read s t area m o ready n i e in
          absurd (none-some w.0 (sym none ∙ ap (tree_row m.rows) (sym w.2) ∙ row_found s t m o w.0 w.1))

  -- a block is there where memory knows it
  known : (most : ℕ) (n : Name) (b : ℕ) → is_there most (content_now s t area) n b ≡ is_known most s.geometry.block m.rows n b
  unfolding is_there is_known
  known zero n b = refl
  known (suc most) n b = by (λ p. known most p b) (tree_row m.rows n) refl
    where
      Same : Type 0
      Same = (p : Name) → is_there most (content_now s t area) p b ≡ is_known most s.geometry.block m.rows p b

      content_up : Option Name → Bool
      content_up p = elim p [ None ↦ false | Some q ↦ is_there most (content_now s t area) q b ]

      memory_up : Option Name → Bool
      memory_up p = elim p [ None ↦ false | Some q ↦ is_known most s.geometry.block m.rows q b ]

      up_same : Same → (p : Option Name) → content_up p ≡ memory_up p
      up_same same None = refl
      up_same same (Some q) = same q

      of_image : Option Image → Bool
      of_image y = elim y [ None ↦ false | Some i ↦ has_block s.geometry.block n i.size i.slots b || content_up i.parent ]

      by : Same → (y : Option TreeRow) → tree_row m.rows n ≡ y
          → of_image (image_of (content_now s t area) n) ≡ elim y as (λ _. Bool) [ None ↦ false | Some r ↦ row_has s.geometry.block r b || memory_up (parent_name r.image) ]
      by same None e = ap of_image (none_now n e)
      by same (Some r) e =
          let f = In-tree_row m.rows n r e in
          let w = image_now r f.0 in
          ap of_image (ap (image_of (content_now s t area)) (sym f.1) ∙ w.there)
          ∙ ap (λ (k : Name). has_block s.geometry.block k w.image.size w.image.slots b || content_up w.image.parent) (sym f.1)
          ∙ ap₂ (λ (z : ℕ) (l : List (Option ℕ)). has_block s.geometry.block (row_name r) z l b || content_up w.image.parent) w.size w.slots
          ∙ ap (λ (p : Bool). row_has s.geometry.block r b || p) (ap content_up w.parent ∙ up_same same (parent_name r.image))

  sectors_now : (n : Name) (r : TreeRow) (blocks : ℕ) → tree_row m.rows n ≡ Some r → sector_count r.image ≡ blocks * s.geometry.block
      → sectors_read (content_now s t area) n ≡ map (chain_reads x m.rows n) (range_with_len 0 (blocks * s.geometry.block))
  sectors_now n r blocks found size =
      let f = In-tree_row m.rows n r found in
      let w = image_now r f.0 in
      sectors-are (content_now s t area) n w.image (ap (image_of (content_now s t area)) (sym f.1) ∙ w.there)
      ∙ ap₂ (λ (g : ℕ → List ℕ) (k : ℕ). map g (range_with_len 0 k)) (fun_ext (chain_now s t area m o ready n)) (w.size ∙ size)

  -- the disk by its blocks
  pub blocks_now : (n : Name) (r : TreeRow) (blocks : ℕ) → tree_row m.rows n ≡ Some r → sector_count r.image ≡ blocks * s.geometry.block
      → disk_blocks (content_now s t area) n ≡ blocks_read x m.rows n blocks
  blocks_now n r blocks found size =
      ap₂ (λ (f : ℕ → Bool) (l : List (List ℕ)). let y : DiskBlocks = record { block = s.geometry.block; there = f; sectors = l } in y) (fun_ext (known chain_limit n)) (sectors_now n r blocks found size)

  pub stands_now : IsWellFormed (shape_in s t m) → (u : List ℕ) → IsOwnDisk m u → standing_volume t u ≡ Some (own_name m.rows u)
  stands_now w u d = stands_in s t area m o ready w u d.row d.there d.shown d.uuid ∙ ap Some (sym d.name)
