-- The image of a disk that lacks extents for being written to: it is a VHD image, and the extents that it lacks are free.
use Rattle.std.proofs.Common.{◌≡◌, ℕ, ◌+◌, ◌-◌, ◌<◌, ◌≤◌, ◌^◌, Bool, true, false, List, Some, None, is_some, refl, sym, ap, ◌∙◌, subst, arith}
use Rattle.std.proofs.Math.Logic.{∥∥₁_elim}
use Rattle.std.proofs.Props.{props}
use Rattle.common_laws.proofs.Lists.{In-map_at}
use Rattle.sm_base.specs.declared.names.Name.TheVariants.{Vhd}
use Rattle.sm_base.specs.declared.operations.Mode.{Mode}
use Rattle.sm_base.specs.declared.operations.Mode.TheVariants.{Ro, Rw}
use Rattle.vg_meta.specs.Tables.{VolumeTable}
use Rattle.vg_volumes.specs.Sites.{Site}
use Rattle.vhd_chain.specs.Trees.{row_name, tree_row}
use Rattle.sm_machine.specs.declared.commands.Command.TheVariants.{Attach}
use Rattle.sm_machine.specs.Commits.{is_given_up}
use Rattle.sm_machine.specs.Refusals.{lacking, need, refusal, with_image_of}
use Rattle.sm_machine.specs.Shapes.{Shape, is_image_of, is_vhd, thick_in}
use Rattle.sm_machine.specs.Steps.{shape_next}
use Rattle.sm_machine.proofs.Attaches.{is_its_image}
use Rattle.sm_ready.specs.Known.{Known, machine_row, shape_in}
use Rattle.sm_ready.specs.Orderly.{IsOrderly}
use Rattle.sm_ready.specs.Ready.{IsTidy}
use Rattle.sm_ready.proofs.NeedLaws.{thick_row}
use Rattle.sm_ready.proofs.OwnLaws.{IsOwn, own_image}
use Rattle.sm_space.specs.Inflating.{HasFree, IsBelow, extents_in, inflated}
use Rattle.cmd_attach.proofs.AttachedLaws.{own_attach}
use Rattle.sm_space.proofs.PlanLaws as plan
use Rattle.cmd_attach.proofs.GrowLaws as grow

-- the machine's image of a row that is a disk's own
own_shown : (m : Known) (u : List ℕ) (own : IsOwn m u) → is_image_of u (machine_row own.row) ≡ true
own_shown m u own = is_its_image (machine_row own.row) u own.shown own.uuid

module _ (s : Site) (t : VolumeTable) (m : Known) (u : List ℕ) (o : IsOrderly s t m) (passes : refusal (shape_in s t m) (Attach u Rw) ≡ None) (some : 0 < need (shape_in s t m) (Attach u Rw)) where
  own : IsOwn m u
  own = own_attach s t m u Rw o passes

  needed : need (shape_in s t m) (Attach u Rw) ≡ lacking (shape_in s t m) (machine_row own.row)
  unfolding need
  needed = ap (with_image_of (lacking (shape_in s t m))) (own_image s t m u o own)

  lacks : 0 < lacking (shape_in s t m) (machine_row own.row)
  lacks = subst (λ k. 0 < k) needed some

  vhd : is_vhd (row_name own.row) ≡ true
  vhd = by (is_vhd (row_name own.row)) refl
    where
      by : (b : Bool) → is_vhd (row_name own.row) ≡ b → is_vhd (row_name own.row) ≡ true
      by true is = is
      by false is = absurd (omega (arith, lacks, ap (λ c. elim c as (λ _. ℕ) [ true ↦ thick_in (shape_in s t m) (machine_row own.row).size - own.row.extents | false ↦ 0 ]) is))

  had : extents_in (tree_row m.rows (Vhd u)) ≡ own.row.extents
  had = plan.had s t m u (Attach u Rw) o passes own vhd some

  found : tree_row m.rows (Vhd u) ≡ Some own.row
  found = plan.found s t m u (Attach u Rw) o passes own vhd some

  abbrev to : ℕ
  to = extents_in (tree_row m.rows (Vhd u)) + need (shape_in s t m) (Attach u Rw)

  below : IsBelow m.rows u to
  below = plan.below s t m u (Attach u Rw) o passes own vhd some

  enough : IsTidy t m → HasFree s.count t m.rows u to
  enough = plan.enough s t m u (Attach u Rw) o passes own vhd some

  grown : inflated u to (shape_in s t m) ≡ inflated u (own.row.extents + lacking (shape_in s t m) (machine_row own.row)) (shape_in s t m)
  grown = ap (λ k. inflated u k (shape_in s t m)) (omega (arith, had, needed))

  still_allowed : refusal (inflated u to (shape_in s t m)) (Attach u Rw) ≡ None
  unfolding shape_in
  still_allowed = ∥∥₁_elim o.well_formed (hlevel props) (λ w. ap (λ σ. refusal σ (Attach u Rw)) grown
      ∙ grow.grown_allowed (shape_in s t m) w u (machine_row own.row) (In-map_at machine_row m.rows own.row own.there) (own_shown m u own) vhd lacks passes)

  none_needed : need (inflated u to (shape_in s t m)) (Attach u Rw) ≡ 0
  unfolding shape_in
  none_needed = ∥∥₁_elim o.well_formed (hlevel props) (λ w. ap (λ σ. need σ (Attach u Rw)) grown
      ∙ grow.none_needed (shape_in s t m) w u (machine_row own.row) (In-map_at machine_row m.rows own.row own.there) (own_shown m u own) vhd lacks)

  same_next : is_given_up (shape_in s t m) (Attach u Rw) ≡ false → shape_next (inflated u to (shape_in s t m)) (Attach u Rw) ≡ shape_next (shape_in s t m) (Attach u Rw)
  unfolding shape_in
  same_next keeps = ∥∥₁_elim o.well_formed (hlevel props) (λ w. ap (λ σ. shape_next σ (Attach u Rw)) grown
      ∙ grow.grown_next (shape_in s t m) w u (machine_row own.row) (In-map_at machine_row m.rows own.row own.there) (own_shown m u own) vhd lacks keeps needed)

  few : to ≤ 2 ^ 27
  unfolding shape_in
  few = ∥∥₁_elim o.well_formed (hlevel props) (λ w.
      let most = thick_row (shape_in s t m) w (machine_row own.row) (In-map_at machine_row m.rows own.row own.there) in
      let lack : lacking (shape_in s t m) (machine_row own.row) ≡ thick_in (shape_in s t m) (machine_row own.row).size - own.row.extents = ap (λ c. elim c as (λ _. ℕ) [ true ↦ thick_in (shape_in s t m) (machine_row own.row).size - own.row.extents | false ↦ 0 ]) vhd in
      omega (arith, most, lack, lacks, had, needed))

-- a disk that is attached for reading alone needs none
needs_rw : (σ : Shape) (u : List ℕ) (mode : Mode) → 0 < need σ (Attach u mode) → mode ≡ Rw
unfolding need
needs_rw σ u Rw some = refl
needs_rw σ u Ro some = absurd (omega (arith, some))

-- ---- of either mode

module _ (s : Site) (t : VolumeTable) (m : Known) (u : List ℕ) (mode : Mode) (o : IsOrderly s t m) (passes : refusal (shape_in s t m) (Attach u mode) ≡ None) (some : 0 < need (shape_in s t m) (Attach u mode)) where
  abbrev σ : Shape
  σ = shape_in s t m

  -- what holds for writing holds, since extents are needed
  for_rw : (Fact : Mode → Type 0) → ((p : refusal σ (Attach u Rw) ≡ None) → 0 < need σ (Attach u Rw) → Fact Rw) → Fact mode
  for_rw Fact fact = subst (λ k. refusal σ (Attach u k) ≡ None → 0 < need σ (Attach u k) → Fact k) (sym (needs_rw σ u mode some)) fact passes some

  abbrev pub extents_then : ℕ
  extents_then = extents_in (tree_row m.rows (Vhd u)) + need σ (Attach u mode)

  pub image_there : is_some (tree_row m.rows (Vhd u)) ≡ true
  image_there = for_rw (λ k. is_some (tree_row m.rows (Vhd u)) ≡ true) (λ p n. ap is_some (found s t m u o p n))

  pub is_below : IsBelow m.rows u extents_then
  is_below = for_rw (λ k. IsBelow m.rows u (extents_in (tree_row m.rows (Vhd u)) + need σ (Attach u k))) (below s t m u o)

  pub has_free : IsTidy t m → HasFree s.count t m.rows u extents_then
  has_free tidy = for_rw (λ k. HasFree s.count t m.rows u (extents_in (tree_row m.rows (Vhd u)) + need σ (Attach u k))) (λ p n. enough s t m u o p n tidy)

  pub few_extents : extents_then ≤ 2 ^ 27
  few_extents = for_rw (λ k. extents_in (tree_row m.rows (Vhd u)) + need σ (Attach u k) ≤ 2 ^ 27) (few s t m u o)

  pub allowed_then : refusal (inflated u extents_then σ) (Attach u mode) ≡ None
  allowed_then = for_rw (λ k. refusal (inflated u (extents_in (tree_row m.rows (Vhd u)) + need σ (Attach u k)) σ) (Attach u k) ≡ None) (still_allowed s t m u o)

  pub needs_none_then : need (inflated u extents_then σ) (Attach u mode) ≡ 0
  needs_none_then = for_rw (λ k. need (inflated u (extents_in (tree_row m.rows (Vhd u)) + need σ (Attach u k)) σ) (Attach u k) ≡ 0) (none_needed s t m u o)

  pub next_then : is_given_up σ (Attach u mode) ≡ false → shape_next (inflated u extents_then σ) (Attach u mode) ≡ shape_next σ (Attach u mode)
  next_then = for_rw (λ k. is_given_up σ (Attach u k) ≡ false → shape_next (inflated u (extents_in (tree_row m.rows (Vhd u)) + need σ (Attach u k)) σ) (Attach u k) ≡ shape_next σ (Attach u k)) (same_next s t m u o)
