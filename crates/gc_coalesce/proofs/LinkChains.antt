-- The chains of what a read gives of a ready store are as short as a walk.
use Rattle.std.proofs.Common.{◌≡◌, ℕ, zero, suc, ◌≤◌, Option, Some, None, refl, sym, ap, ◌∙◌, subst, arith}
use Rattle.std.proofs.Math.Logic.{∥∥₁_elim}
use Rattle.std.proofs.Props.{props}
use Rattle.common_laws.specs.Lists.{◌>>=◌}
use Rattle.common_laws.proofs.Lists.{In-map_at}
use Rattle.sm_base.specs.declared.names.Name.{Name}
use Rattle.vg_meta.specs.Tables.{VolumeTable}
use Rattle.vg_volumes.specs.Sites.{Site}
use Rattle.vhd_chain.specs.Trees.{tree_row}
use Rattle.vhd_chain.specs.declared.rows.TreeRow.{TreeRow}
use Rattle.sm_machine.specs.Shapes.{parent_of}
use Rattle.sm_machine.specs.WellFormed.{EndsWithin, IsWellFormed}
use Rattle.sm_machine.proofs.Chains.{parent_of-in}
use Rattle.sm_ready.specs.Known.{Known, machine_row, shape_in}
use Rattle.sm_ready.specs.Orderly.{IsOrderly}
use Rattle.sm_ready.specs.Outlined.{link_in, outline_in}
use Rattle.sm_ready.proofs.Orders.{In-tree_row}
use Rattle.sm_standing.specs.Changes.{IsShortChain}
use Rattle.sm_standing.specs.Checks.{depth}
use Rattle.sm_standing.specs.Contents.{Content}
use Rattle.sm_standing.specs.Outlines.{Outline, outline, parent_in}

module _ (s : Site) (t : VolumeTable) (m : Known) (o : IsOrderly s t m) where
  abbrev up : ℕ → Option Name → ℕ
  up k x = elim x as (λ x. ℕ) [ None ↦ 0 | Some p ↦ depth (outline_in s t m) k p ]

  -- the parent that memory tells is the machine's
  known_parent : IsWellFormed (shape_in s t m) → (n : Name) (r : TreeRow) → tree_row m.rows n ≡ Some r → parent_in (outline_in s t m) n ≡ parent_of n (shape_in s t m).images
  unfolding shape_in outline_in
  known_parent w n r found =
      let i = In-tree_row m.rows n r found in
      let there = In-map_at machine_row m.rows r i.0 in
      ap (λ x. link_in x >>= (λ l. l.parent)) found ∙ sym (ap (λ k. parent_of k (shape_in s t m).images) (sym i.1)
      ∙ parent_of-in (shape_in s t m).images (machine_row r) w.one_image there (w.images (machine_row r) there).named)

  no_parent : (n : Name) → tree_row m.rows n ≡ None → parent_in (outline_in s t m) n ≡ None
  unfolding outline_in
  no_parent n none = ap (λ x. link_in x >>= (λ l. l.parent)) none

  deep : IsWellFormed (shape_in s t m) → (k : ℕ) (n : Name) → EndsWithin k (Some n) (shape_in s t m).images → depth (outline_in s t m) (suc k) n ≤ k
  unfolding depth
  deep w zero n e = absurd e
  deep w (suc k) n e = by (tree_row m.rows n) refl (λ p f. deep w k p f)
    where
      of : ((p : Name) → EndsWithin k (Some p) (shape_in s t m).images → depth (outline_in s t m) (suc k) p ≤ k) → (x : Option Name) → EndsWithin k x (shape_in s t m).images
          → suc (up (suc k) x) ≤ suc k
      of rest None f = omega arith
      of rest (Some p) f = omega (arith, rest p f)

      by : (x : Option TreeRow) → tree_row m.rows n ≡ x → ((p : Name) → EndsWithin k (Some p) (shape_in s t m).images → depth (outline_in s t m) (suc k) p ≤ k)
          → suc (up (suc k) (parent_in (outline_in s t m) n)) ≤ suc k
      by None none rest = subst (λ x. suc (up (suc k) x) ≤ suc k) (sym (no_parent n none)) (omega arith)
      by (Some r) found rest = subst (λ x. suc (up (suc k) x) ≤ suc k) (sym (known_parent w n r found)) (of rest (parent_of n (shape_in s t m).images) e)

  top : (n : Name) → tree_row m.rows n ≡ None → depth (outline_in s t m) 31 n ≤ 30
  unfolding depth
  top n none = subst (λ x. suc (up 30 x) ≤ 30) (sym (no_parent n none)) (omega arith)

  known_short : (n : Name) → depth (outline_in s t m) 31 n ≤ 30
  unfolding shape_in
  known_short n = ∥∥₁_elim o.well_formed (hlevel props) (λ w. by w (tree_row m.rows n) refl)
    where
      by : IsWellFormed (shape_in s t m) → (x : Option TreeRow) → tree_row m.rows n ≡ x → depth (outline_in s t m) 31 n ≤ 30
      by w None none = top n none
      by w (Some r) found =
          let i = In-tree_row m.rows n r found in
          deep w 30 n (subst (λ k. EndsWithin 30 (Some k) (shape_in s t m).images) i.1 (w.chains (machine_row r) (In-map_at machine_row m.rows r i.0)))

  -- so are those of a content of memory's outline
  pub all_short : (c : Content) → outline c ≡ outline_in s t m → (n : Name) → IsShortChain c n
  all_short c is n = subst (λ (x : Outline). depth x 31 n ≤ 30) (sym is) (known_short n)
