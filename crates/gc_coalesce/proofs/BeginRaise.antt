-- A hidden VHD image, to which the images that read through it are as large as it gets, gets a greater size: memory and shape with it.
use Rattle.std.proofs.Common.{◌≡◌, ℕ, ◌*◌, ◌/◌, ◌≤◌, not, ◌&&◌, true, false, List, Some, None, sym, ap, ◌∙◌, subst, arith}
use Rattle.std.proofs.Math.Logic.{∥∥₁_elim, ∥∥₁_map}
use Rattle.std.proofs.Math.Nat.{mul-div_cancel}
use Rattle.std.proofs.Props.{props}
use Rattle.common_laws.specs.Lists.{In}
use Rattle.common_laws.proofs.Lists.{In-map_at}
use Rattle.sm_base.specs.declared.names.Name.TheVariants.{Vhd}
use Rattle.sm_machine.specs.Operations as op
use Rattle.vg_meta.specs.Tables.{VolumeTable}
use Rattle.vg_volumes.specs.Sites.{Site}
use Rattle.vhd_image.specs.Bodies.{IsVhd, sector_count}
use Rattle.vhd_image.specs.Made.{IsDiskSize}
use Rattle.vhd_chain.specs.Trees.{row_name, tree_row, with_replaced}
use Rattle.vhd_chain.specs.declared.rows.TreeRow.{TreeRow}
use Rattle.sm_machine.specs.Laws.{MayGrow}
use Rattle.sm_machine.specs.Shapes.{ImageRow, Shape, attached_as, image_uuid, is_image, is_rw, on_image, same_image}
use Rattle.sm_machine.specs.WellFormed.{IsOperation, IsWellFormed, is_image_name}
use Rattle.sm_machine.proofs.Chains.{find_image-in}
use Rattle.sm_machine.proofs.ImageNames.{other_image, same_image-refl}
use Rattle.sm_machine.proofs.Moments.{size_keep}
use Rattle.sm_standing.specs.Checks.{fault_of}
use Rattle.sm_ready.specs.Known.{Known, machine_row, shape_in}
use Rattle.sm_ready.specs.Orderly.{IsOrderly, IsRoomyIn}
use Rattle.sm_ready.specs.Outlined.{outline_in}
use Rattle.sm_ready.specs.Ready.{is_written_as, is_written_in}
use Rattle.sm_ready.proofs.Orders.{HasHead, geometry_of, named_row, vhd_row}
use Rattle.sm_ready.proofs.SizedRows.{orderly_sized, shape_sized, sized, stands_sized}
use Rattle.sm_ready.proofs.SoundLaws.{sound}
use Rattle.sm_ready.proofs.TruthLaws.{row_found}

-- the image of u, which is hidden and may have this size
pub record IsToRaise (s : Site) (t : VolumeTable) (m : Known) (u : List ℕ) (size : ℕ) (own : TreeRow) : Type 0 where
  pub orderly : IsOrderly s t m
  pub there : In own m.rows
  pub named : row_name own ≡ Vhd u
  pub hidden : own.hidden ≡ true
  pub may : IsWellFormed (shape_in s t m) → MayGrow (shape_in s t m) (machine_row own) size
  pub idle : m.op ≡ op.Idle

module _ {s : Site} {t : VolumeTable} {m : Known} {u : List ℕ} {size : ℕ} {own : TreeRow} (h : IsToRaise s t m u size own) where
  abbrev σ : Shape
  σ = shape_in s t m

  abbrev next : TreeRow
  next = sized size own

  abbrev pub after : Known
  after = record m { rows = with_replaced (sized size own) m.rows }

  pub found : tree_row m.rows (Vhd u) ≡ Some own
  found = ap (tree_row m.rows) (sym h.named) ∙ row_found s t m h.orderly own h.there

  own_head : HasHead own
  own_head = vhd_row s t m own u h.orderly h.there h.named

  pub own_vhd : IsVhd own.image
  own_vhd = subst IsVhd (sym own_head.is) tt

  -- ---- its row

  abbrev with_size : ImageRow → ImageRow
  with_size i = record i { size = size }

  own_named : is_image (Vhd u) (machine_row own) ≡ true
  own_named = subst (λ n. same_image n (Vhd u) ≡ true) (sym h.named) (same_image-refl (Vhd u) (subst (λ n. is_image_name n ≡ true) h.named (named_row s t m own h.orderly h.there)))

  pub shape_raised : shape_in s t (record m { rows = with_replaced (sized size own) m.rows }) ≡ record (shape_in s t m) { images = on_image (Vhd u) (λ i. record i { size = size }) (shape_in s t m).images }
  shape_raised = shape_sized s t m h.orderly own h.there size (is_image (Vhd u)) own_vhd own_named (λ p i other. other_image (row_name p) (Vhd u) (λ is. other (is ∙ sym h.named)))

  well : IsWellFormed (shape_in s t m) → IsWellFormed (shape_in s t after)
  unfolding shape_in
  well w =
      let grown : Shape = record σ { images = on_image (row_name own) with_size σ.images } in
      let kept : IsWellFormed grown = size_keep σ (machine_row own) size w (h.may w) (subst (IsOperation grown) (sym h.idle) tt) in
      subst IsWellFormed (sym shape_raised) (subst (λ n. IsWellFormed (record σ { images = on_image n with_size σ.images })) h.named kept)

  -- ---- memory is orderly with it

  -- the size is a disk's
  pub size_proper : IsDiskSize s.geometry size
  unfolding shape_in
  size_proper = ∥∥₁_elim h.orderly.well_formed (hlevel props) (λ w.
      let whole = (h.may w).whole in
      let some = (geometry_of s t m h.orderly).block_least in
      let is : size / s.geometry.block ≡ whole.0 = ap (λ k. k / s.geometry.block) whole.1 ∙ mul-div_cancel whole.0 {n = s.geometry.block} (omega (arith, some)) in
      record { whole = whole.1 ∙ ap (λ k. k * s.geometry.block) (sym is); least = omega (arith, is, whole.2); most = omega (arith, is, whole.3) })

  pub no_less : sector_count own.image ≤ size
  no_less = ∥∥₁_elim h.orderly.well_formed (hlevel props) (λ w. (h.may w).more)

  room : IsRoomyIn (shape_in s t after) (shape_in s t after).op
  unfolding shape_in
  room = subst (IsRoomyIn (shape_in s t after)) (sym h.idle) tt

  pub orderly_raised : IsOrderly s t (record m { rows = with_replaced (sized size own) m.rows })
  unfolding shape_in
  orderly_raised = orderly_sized s t m h.orderly own h.there size (is_image (Vhd u)) shape_raised (stands_sized s t m h.orderly own h.there size own_head size_proper no_less) (∥∥₁_map h.orderly.well_formed well) room

  -- no check fails of memory with the new size
  pub sound_raised : fault_of (outline_in s t (record m { rows = with_replaced (sized size own) m.rows })) ≡ None
  sound_raised = ∥∥₁_elim orderly_raised.well_formed (hlevel props) (λ w. sound s t after orderly_raised w (λ v p c q is in_c in_q named_c named_q. absurd (let x : op.Idle ≡ op.Relink v p = sym h.idle ∙ is in cc)))

  -- and nothing is written to it
  pub not_written : is_written_in (shape_in s t m) (row_name own) ≡ false
  unfolding is_written_in shape_in
  not_written = ∥∥₁_elim h.orderly.well_formed (hlevel props) (λ w.
      let i = In-map_at machine_row m.rows own h.there in
      ap (is_written_as (shape_in s t m) (row_name own)) (find_image-in (shape_in s t m).images (machine_row own) w.one_image i (w.images (machine_row own) i).named)
      ∙ ap (λ b. not b && is_rw (attached_as (image_uuid (row_name own)) (shape_in s t m))) h.hidden)
