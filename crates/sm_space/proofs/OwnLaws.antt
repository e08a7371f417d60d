-- The volume of a VHD image in memory, as the table has it.
use Rattle.std.proofs.Common.{◌≡◌, ◌≢◌, ◌⊎◌, inl, inr, ℕ, ◌*◌, ◌<◌, Bool, true, false, List, length, Some, refl, sym, ap, ◌∙◌}
use Rattle.std.proofs.Math.Logic.{∥∥₁_elim}
use Rattle.std.proofs.Props.{props}
use Rattle.std.proofs.lemmas.Option.{same_Some}
use Rattle.sm_base.specs.Kinds.{is_image}
use Rattle.sm_base.specs.declared.names.Name.{Name}
use Rattle.sm_base.specs.declared.names.Name.TheVariants.{Vhd}
use Rattle.vg_meta.specs.Tables.{Row, VolumeTable, IsVolume, extents_of, name_eq, rows}
use Rattle.vg_meta.proofs.NameLaws.{name_eq-true, name_eq-false}
use Rattle.vg_meta.proofs.RowLaws.{All-row_of}
use Rattle.vg_volumes.specs.Sites.{Site, size_of}
use Rattle.vg_volumes.specs.Volumes.{span}
use Rattle.vhd_chain.specs.Trees.{row_name, tree_row}
use Rattle.vhd_chain.specs.declared.rows.TreeRow.{TreeRow}
use Rattle.common_laws.specs.Lists.{In}
use Rattle.common_laws.proofs.Lists.{In-map_at}
use Rattle.sm_ready.specs.Known.{Known, machine_row, shape_in}
use Rattle.sm_ready.specs.Orderly.{IsOrderly}
use Rattle.sm_ready.proofs.Orders.{In-tree_row, rowed}
use Rattle.sm_ready.proofs.RowLaws.{HasVolume, tree_found, volume_there}
use Rattle.sm_standing.proofs.DisksShown.{row_of-In}

-- its row of the table
pub record IsOwn (t : VolumeTable) (u : List ℕ) (row : TreeRow) : Type 0 where
  pub volume : Row
  pub there : rows t (Vhd u) ≡ Some volume
  pub filled : volume.fresh ≡ false
  pub hidden : row.hidden ≡ volume.hidden
  pub long : row.extents ≡ length volume.extents

-- a name is that of the image, or another
pub named_or_not : (n x : Name) → (n ≡ x) ⊎ (n ≢ x)
named_or_not n x = by (name_eq n x) refl
  where
    by : (b : Bool) → name_eq n x ≡ b → (n ≡ x) ⊎ (n ≢ x)
    by true e = inl (name_eq-true n x e)
    by false e = inr (name_eq-false n x e)

module _ (s : Site) (t : VolumeTable) (m : Known) (u : List ℕ) (row : TreeRow) (o : IsOrderly s t m) (found : tree_row m.rows (Vhd u) ≡ Some row) where
  pub in_rows : In row m.rows × (row_name row ≡ Vhd u)
  in_rows = In-tree_row m.rows (Vhd u) row found

  pub own : IsOwn t u row
  own = of (volume_there s t m row o (ap is_image in_rows.1) (ap (tree_row m.rows) in_rows.1 ∙ found))
    where
      of : HasVolume t (row_name row) → IsOwn t u row
      of v =
          let there = ap (rows t) (sym in_rows.1) ∙ v.there in
          let w = rowed s t m (Vhd u) v.row o refl there v.filled in
          let same : w.row ≡ row = same_Some w.row row (sym w.found ∙ found) in
          record { volume = v.row; there = there; filled = v.filled; hidden = ap (λ (r : TreeRow). r.hidden) (sym same) ∙ w.hidden; long = ap (λ (r : TreeRow). r.extents) (sym same) ∙ w.long }

  pub proper : IsVolume own.volume
  proper = All-row_of IsVolume t.volumes (Vhd u) own.volume o.table.volumes.each own.there

  pub named : own.volume.name ≡ Vhd u
  named = name_eq-true own.volume.name (Vhd u) (row_of-In t.volumes (Vhd u) own.volume own.there).1

  -- its sectors
  pub own_size : size_of s t (Vhd u) ≡ row.extents * s.geometry.extent
  own_size = ap (λ o. span s.geometry.extent (extents_of o)) own.there ∙ ap (λ n. n * s.geometry.extent) (sym own.long)

  -- it has an extent
  pub some : 0 < row.extents
  unfolding shape_in
  some = ∥∥₁_elim o.well_formed (hlevel props) (λ w. (w.images (machine_row row) (In-map_at machine_row m.rows row in_rows.0)).volume)

  -- no other row of memory has the name
  pub only : (x : TreeRow) → In x m.rows → row_name x ≡ Vhd u → x ≡ row
  unfolding shape_in
  only x i is = ∥∥₁_elim o.well_formed (hlevel props) (λ w. same_Some x row (sym (tree_found m.rows x w.one_image i) ∙ ap (tree_row m.rows) is ∙ found))
