-- What an export of a disk sends, by the parts of its file.
use Rattle.std.proofs.Common.{◌≡◌, ◌≢◌, ℕ, ◌*◌, ◌/◌, ◌<◌, ◌≤◌, true, List, Result, Some, None, Ok, Err, is_some, refl, sym, ap, ◌∙◌, arith}
use Rattle.std.specs.Prelude.{⊤}
use Rattle.std.specs.List.{concat}
use Rattle.std.proofs.Math.Logic.{∥∥₁_elim}
use Rattle.std.proofs.Math.Nat.{mul-div_cancel}
use Rattle.std.proofs.Props.{props}
use Rattle.std.proofs.lemmas.Option.{none-some}
use Rattle.sm_base.specs.declared.names.Name.{Name}
use Rattle.sm_disk.specs.Held.{Held, Rose}
use Rattle.vg_meta.specs.Tables.{VolumeTable}
use Rattle.vg_volumes.specs.Sites.{Site}
use Rattle.vhd_image.specs.Bodies.{sector_count}
use Rattle.vhd_chain.specs.Trees.{tree_row}
use Rattle.vhd_chain.specs.declared.rows.TreeRow.{TreeRow}
use Rattle.sm_machine.specs.Shapes.{disk_record}
use Rattle.sm_ready.specs.Known.{Known, shape_in}
use Rattle.sm_ready.specs.Orderly.{IsOrderly}
use Rattle.sm_ready.specs.Ready.{IsReady, IsTidy}
use Rattle.sm_ready.specs.Stores.{content_now}
use Rattle.sm_ready.proofs.Orders.{In-tree_row, geometry_of}
use Rattle.cmd_guest.specs.Writing.{own_name}
use Rattle.vhd_stream.specs.declared.exporting.ExportFault.{ExportFault}
use Rattle.vhd_stream.specs.declared.exporting.ExportFault.TheVariants.{Device, NoMemory, Sink}
use Rattle.vhd_stream.specs.Exports.{DiskBlocks, ExportOf, exported}
use Rattle.vhd_stream.specs.Known.{blocks_read}
use Rattle.vhd_stream.specs.Sending.{HasSent, IsCaused, SendSides, Sends}
use Rattle.vhd_stream.proofs.KnownLaws.{blocks_now, own_disk, row_blocks, stands_now}

-- ---- the row of the disk

module _ (s : Site) (t : VolumeTable) (m : Known) (u : List ℕ) (o : IsOrderly s t m) where
  pub no_row : is_some (disk_record u (shape_in s t m)) ≡ true → (n : Name) → n ≡ own_name m.rows u → tree_row m.rows n ≡ None → ⊥
  no_row known n is none = ∥∥₁_elim o.well_formed (hlevel props) (λ w.
      let d = own_disk s t m u o w known in
      none-some d.row (sym none ∙ ap (tree_row m.rows) is ∙ d.found))

  counted : (r : TreeRow) (blocks : ℕ) → sector_count r.image ≡ blocks * s.geometry.block → sector_count r.image / s.geometry.block ≡ blocks
  counted r blocks size =
      let g = geometry_of s t m o in
      ap (λ k. k / s.geometry.block) size ∙ mul-div_cancel blocks (let some : 0 < s.geometry.block = omega (arith, g.block_least) in some)

  pub size_is : (r : TreeRow) (n : Name) → tree_row m.rows n ≡ Some r → sector_count r.image ≡ sector_count r.image / s.geometry.block * s.geometry.block
  size_is r n found = ∥∥₁_elim o.well_formed (hlevel props) (λ w.
      let b = row_blocks s t m r o w (In-tree_row m.rows n r found).0 in
      b.size ∙ ap (λ k. k * s.geometry.block) (sym (counted r b.blocks b.size)))

  pub few_blocks : (r : TreeRow) (n : Name) → tree_row m.rows n ≡ Some r → sector_count r.image / s.geometry.block ≤ 1044480
  few_blocks r n found = ∥∥₁_elim o.well_formed (hlevel props) (λ w.
      let b = row_blocks s t m r o w (In-tree_row m.rows n r found).0 in
      let e = counted r b.blocks b.size in
      omega (arith, e, b.most))

  -- the bytes are those of the export
  pub export_of : (area : Held) → IsTidy t m → IsReady s t area m → is_some (disk_record u (shape_in s t m)) ≡ true → (n : Name) (r : TreeRow) → n ≡ own_name m.rows u → tree_row m.rows n ≡ Some r → (now : ℕ)
      → ExportOf (content_now s t area) u now (concat (exported (blocks_read (record { site = s; table = t; area = area }) m.rows n (sector_count r.image / s.geometry.block)) u now))
  export_of area tidy ready known n r is found now = record {
    volume = n;
    stands = ∥∥₁_elim o.well_formed (hlevel props) (λ w. stands_now s t area m o tidy ready w u (own_disk s t m u o w known) ∙ ap Some (sym is));
    bytes_are = ap (λ (y : DiskBlocks). concat (exported y u now)) (sym (blocks_now s t area m o tidy ready n r (sector_count r.image / s.geometry.block) found (size_is r n found)));
  }

-- ---- what was sent, and why

pub sent_of : {told : Type 0} (text : List ℕ) (s : SendSides) (r : Result ⊤ ExportFault) → Sends told text s r → told → HasSent text s.had s.got r
sent_of text s (Ok u) b it = b.adds it
sent_of text s (Err Device) b it = b.front it
sent_of text s (Err Sink) b it = b.front it
sent_of text s (Err NoMemory) b it = absurd b.cause

pub device_rose : (s : SendSides) (r : Result ⊤ ExportFault) → IsCaused s r → r ≡ Err Device → Rose s.device s.device_now
device_rose s (Ok u) c is = absurd cc
device_rose s (Err Device) c is = c.1
device_rose s (Err Sink) c is = absurd cc
device_rose s (Err NoMemory) c is = absurd c

pub sink_rose : (s : SendSides) (r : Result ⊤ ExportFault) → IsCaused s r → r ≡ Err Sink → Rose s.sink s.sink_now
sink_rose s (Ok u) c is = absurd cc
sink_rose s (Err Device) c is = absurd cc
sink_rose s (Err Sink) c is = c.0
sink_rose s (Err NoMemory) c is = absurd c

pub never_poor : {P : Type 0} (s : SendSides) (r : Result ⊤ ExportFault) → IsCaused s r → r ≡ Err NoMemory → P
never_poor s (Ok u) c is = absurd cc
never_poor s (Err Device) c is = absurd cc
never_poor s (Err Sink) c is = absurd cc
never_poor s (Err NoMemory) c is = absurd c

pub device_calm : (s : SendSides) (r : Result ⊤ ExportFault) → IsCaused s r → r ≢ Err Device → s.device_now ≡ s.device
device_calm s (Ok u) c other = c.1
device_calm s (Err Device) c other = absurd (other refl)
device_calm s (Err Sink) c other = c.1
device_calm s (Err NoMemory) c other = absurd c

pub sink_calm : (s : SendSides) (r : Result ⊤ ExportFault) → IsCaused s r → r ≢ Err Sink → s.sink_now ≡ s.sink
sink_calm s (Ok u) c other = c.0
sink_calm s (Err Device) c other = c.0
sink_calm s (Err Sink) c other = absurd (other refl)
sink_calm s (Err NoMemory) c other = absurd c
