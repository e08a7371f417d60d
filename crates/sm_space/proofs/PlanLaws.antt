-- A command needs extents for the VHD image of a disk: the image is found by its name, and the extents are free.
use Rattle.std.proofs.Common.{◌≡◌, ℕ, ◌+◌, ◌<◌, true, List, Some, None, sym, ap, ◌∙◌, arith, ⊎_elim}
use Rattle.std.proofs.Math.Logic.{∥∥₁_elim}
use Rattle.std.proofs.Props.{props}
use Rattle.std.proofs.lemmas.Bool.{true≢false, ltb-false}
use Rattle.sm_base.specs.declared.names.Name.TheVariants.{Vhd}
use Rattle.vg_meta.specs.Tables.{VolumeTable}
use Rattle.vg_volumes.specs.Sites.{Site}
use Rattle.vhd_chain.specs.Trees.{row_name, tree_row}
use Rattle.sm_machine.specs.declared.commands.Command.{Command}
use Rattle.sm_machine.specs.Refusals.{lacks_space, need, refusal}
use Rattle.sm_machine.specs.Shapes.{free, is_vhd}
use Rattle.sm_machine.proofs.Passed.{passed}
use Rattle.sm_ready.specs.Known.{Known, shape_in}
use Rattle.sm_ready.specs.Orderly.{IsOrderly}
use Rattle.sm_ready.specs.Ready.{IsTidy}
use Rattle.sm_ready.proofs.CauseLaws.{named_as}
use Rattle.sm_ready.proofs.Orders.{named_row}
use Rattle.sm_ready.proofs.OwnLaws.{IsOwn}
use Rattle.sm_ready.proofs.RowLaws.{tree_found}
use Rattle.sm_ready.proofs.SumLaws.{free_counted}
use Rattle.sm_space.specs.Inflating.{HasFree, IsBelow, extents_in}

module _ (s : Site) (t : VolumeTable) (m : Known) (u : List ℕ) (c : Command) (o : IsOrderly s t m) (passes : refusal (shape_in s t m) c ≡ None) (own : IsOwn m u) (vhd : is_vhd (row_name own.row) ≡ true) (some : 0 < need (shape_in s t m) c) where
  named : row_name own.row ≡ Vhd u
  unfolding is_vhd
  named = ⊎_elim (λ is. is) (λ raw. absurd (true≢false (sym vhd ∙ ap is_vhd raw))) (named_as (row_name own.row) u (named_row s t m own.row o own.there) own.uuid)

  pub found : tree_row m.rows (Vhd u) ≡ Some own.row
  unfolding shape_in
  found = ∥∥₁_elim o.well_formed (hlevel props) (λ w. ap (tree_row m.rows) (sym named) ∙ tree_found m.rows own.row w.one_image own.there)

  pub had : extents_in (tree_row m.rows (Vhd u)) ≡ own.row.extents
  had = ap extents_in found

  abbrev pub then_extents : ℕ
  then_extents = extents_in (tree_row m.rows (Vhd u)) + need (shape_in s t m) c

  pub below : IsBelow m.rows u then_extents
  below = record { row = own.row; there = found; below = omega (arith, had, some) }

  pub enough : IsTidy t m → HasFree s.count t m.rows u then_extents
  unfolding lacks_space
  enough tidy =
      let space = ltb-false (free (shape_in s t m)) (need (shape_in s t m) c) (passed (shape_in s t m) c passes).space in
      omega (arith, space, free_counted s t m tidy.none_new o)
