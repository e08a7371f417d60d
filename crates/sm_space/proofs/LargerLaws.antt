-- The machine raises the size of a disk in two ways that agree: at once, and once its image has the extents for it.
use Rattle.std.proofs.Common.{◌≡◌, ℕ, ◌+◌, ◌-◌, ◌<◌, ◌≤◌, ◌^◌, nat_lt, not, Bool, true, false, List, map, Some, None, is_some, refl, sym, ap, ap₂, ◌∙◌, subst, arith}
use Rattle.std.proofs.Math.Logic.{∥∥₁_elim}
use Rattle.std.proofs.Props.{props}
use Rattle.std.proofs.lemmas.Bool.{le-ltb, lt-ltb}
use Rattle.common_laws.specs.Lists.{In, change, when}
use Rattle.common_laws.proofs.Booleans.{not_false}
use Rattle.common_laws.proofs.Lists.{In-map_at}
use Rattle.sm_base.specs.declared.names.Name.TheVariants.{Vhd}
use Rattle.vg_meta.specs.Tables.{VolumeTable}
use Rattle.vg_volumes.specs.Sites.{Site}
use Rattle.vhd_chain.specs.Trees.{row_name, tree_row}
use Rattle.sm_machine.specs.declared.commands.Command.TheVariants.{Resize}
use Rattle.sm_machine.specs.Commits.{commits, growth_commits, is_given_up, one_if, own_commits}
use Rattle.sm_machine.specs.Disks.{Disk}
use Rattle.sm_machine.specs.Refusals.{forked, is_bad_size, is_deep, is_in_use, is_not_attached, is_out_of_range, is_raw_disk, is_tracked, is_untracked, is_read_only, is_shrink, is_spent, is_taken, is_too_many, is_unknown, lacking_for, lacking_larger, lacks_space, named, need, new_uuid, of_some, refusal, rounded, with_image_of}
use Rattle.sm_machine.specs.Shapes.{ImageRow, Shape, attached_as, disk_image, free, is_image_of, is_rw, is_vhd, risen, thick_in}
use Rattle.sm_machine.specs.Steps.{disks_next, given_up, resize_shape, shape_after, shape_next}
use Rattle.sm_machine.specs.WellFormed.{IsWellFormed}
use Rattle.sm_machine.proofs.Attaches.{is_its_image}
use Rattle.sm_machine.proofs.Guests.{disk_image_is}
use Rattle.sm_machine.proofs.Passed.{passed}
use Rattle.sm_ready.specs.Known.{Known, machine_row, shape_in}
use Rattle.sm_ready.specs.Orderly.{IsOrderly}
use Rattle.sm_ready.specs.Ready.{IsTidy}
use Rattle.sm_ready.proofs.NeedLaws.{is_within, thick_few}
use Rattle.sm_ready.proofs.OwnLaws.{IsOwn, own_image, own_row}
use Rattle.sm_space.specs.Inflating.{HasFree, IsBelow, extents_in, inflated}
use Rattle.sm_space.proofs.GrowLaws.{changed_twice, filled_up, full, grown_image, grown_shape, images_alike, none_refuses}
use Rattle.sm_space.proofs.PlanLaws as plan

-- what a greater size takes, is there then
full_larger : (σ : Shape) (u : List ℕ) (size : ℕ) (y : ImageRow) → lacking_larger σ u size (record y { extents = y.extents + lacking_larger σ u size y }) ≡ 0
full_larger σ u size y = by (is_rw (attached_as u σ))
  where
    by : (b : Bool) → elim b as (λ _. ℕ) [ true ↦ lacking_for σ size (record y { extents = y.extents + elim b as (λ _. ℕ) [ true ↦ lacking_for σ size y | false ↦ 0 ] }) | false ↦ 0 ] ≡ 0
    by true = full σ size y
    by false = refl

-- the visible VHD image of a disk lacks extents for its new size
module _ (σ : Shape) (w : IsWellFormed σ) (u : List ℕ) (bytes : ℕ) (i : ImageRow) (there : In i σ.images) (shown : is_image_of u i ≡ true) (vhd : is_vhd i.name ≡ true) (lacks : 0 < lacking_larger σ u (rounded σ false bytes) i) where
  abbrev larger : ℕ
  larger = rounded σ false bytes

  abbrev more : ImageRow → ℕ
  more = lacking_larger σ u larger

  -- the shape once its volume has them
  abbrev with_room : Shape
  with_room = grown_shape σ w u i there shown vhd more

  own_then : disk_image u with_room ≡ Some (record i { extents = i.extents + more i })
  own_then = grown_image σ w u i there shown vhd more

  -- then it lacks none
  pub none_needed : need with_room (Resize u bytes) ≡ 0
  unfolding need rounded
  none_needed = ap (with_image_of (lacking_larger with_room u larger)) own_then ∙ full_larger σ u larger i

  own_now : disk_image u σ ≡ Some i
  own_now = disk_image_is σ w u i there shown

  -- it may get the size as before
  pub grown_allowed : refusal σ (Resize u bytes) ≡ None → refusal with_room (Resize u bytes) ≡ None
  unfolding is_unknown is_taken is_in_use is_not_attached is_read_only is_raw_disk is_tracked is_untracked is_out_of_range is_bad_size is_shrink is_deep is_too_many is_spent lacks_space named new_uuid forked rounded
  grown_allowed passes =
      let p = passed σ (Resize u bytes) passes in
      none_refuses with_room (Resize u bytes) (record {
        reserved = p.reserved;
        unknown = p.unknown;
        taken = refl;
        in_use = p.in_use;
        not_attached = refl;
        read_only = p.read_only;
        raw_disk = ap (of_some (λ (y : ImageRow). not (is_vhd y.name))) own_then ∙ sym (ap (of_some (λ (y : ImageRow). not (is_vhd y.name))) own_now) ∙ p.raw_disk;
        tracked = p.tracked;
        untracked = p.untracked;
        out_of_range = refl;
        bad_size = p.bad_size;
        shrink = ap (of_some (λ (y : ImageRow). nat_lt larger y.size)) own_then ∙ sym (ap (of_some (λ (y : ImageRow). nat_lt larger y.size)) own_now) ∙ p.shrink;
        deep = refl;
        too_many = refl;
        spent = refl;
        space = ap (nat_lt (free with_room)) none_needed ∙ le-ltb (free with_room) 0 (omega arith);
      })

  abbrev sized_in : Shape → ImageRow → ImageRow
  sized_in s y = record y { size = larger; extents = y.extents + lacking_larger s u larger y }

  images_next : change (is_image_of u) (sized_in with_room) with_room.images ≡ change (is_image_of u) (sized_in σ) σ.images
  images_next =
      ap (change (is_image_of u) (sized_in with_room)) (images_alike σ w u i there shown vhd more)
      ∙ changed_twice (is_image_of u) (filled_up σ w u i there shown vhd more) (sized_in with_room) (sized_in σ) σ.images (λ y h own.
      ap (λ b. when b (sized_in with_room) (record y { extents = y.extents + more y })) own
      ∙ ap (λ k. let x : ImageRow = record y { size = larger; extents = k } in x) (let none : lacking_larger with_room u larger (record y { extents = y.extents + more y }) ≡ 0 = full_larger σ u larger y in omega (arith, none)))

  next_by : (s : Shape) (k : ℕ) → is_given_up s (Resize u bytes) ≡ false → own_commits s (Resize u bytes) ≡ k → shape_next s (Resize u bytes) ≡ record (resize_shape s u bytes) { sequence = risen s.sequence (0 + k) }
  unfolding shape_next shape_after commits
  next_by s k keeps own =
      ap (λ (b : Bool). record (given_up b (shape_after s (Resize u bytes))) { sequence = risen s.sequence (one_if b + own_commits s (Resize u bytes)) }) keeps
      ∙ ap (λ (j : ℕ). let x : Shape = record (resize_shape s u bytes) { sequence = risen s.sequence (0 + j) } in x) own

  -- and what the machine makes of it is the same
  pub grown_next : is_given_up σ (Resize u bytes) ≡ false → need σ (Resize u bytes) ≡ more i → shape_next with_room (Resize u bytes) ≡ shape_next σ (Resize u bytes)
  unfolding is_given_up own_commits rounded
  grown_next keeps needed =
      next_by with_room 0 keeps (ap (λ k. growth_commits (nat_lt 0 k)) none_needed)
      ∙ ap₂ (λ (is : List ImageRow) (k : ℕ). let x : Shape = record σ { images = is; sequence = k } in x) images_next (omega arith)
      ∙ sym (next_by σ 3 keeps (ap growth_commits (ap (nat_lt 0) needed ∙ lt-ltb 0 (more i) lacks)))

-- the new size and the disks behind it are the same
pub rounded_then : (σ : Shape) (u : List ℕ) (to bytes : ℕ) → rounded (inflated u to σ) false bytes ≡ rounded σ false bytes
unfolding rounded
rounded_then σ u to bytes = refl

pub disks_then : (ds : List Disk) (σ : Shape) (u : List ℕ) (to bytes : ℕ) → disks_next ds (inflated u to σ) (Resize u bytes) ≡ disks_next ds σ (Resize u bytes)
unfolding disks_next rounded
disks_then ds σ u to bytes = refl

-- ---- by what is in memory

module _ (s : Site) (t : VolumeTable) (m : Known) (u : List ℕ) (bytes : ℕ) (o : IsOrderly s t m) (passes : refusal (shape_in s t m) (Resize u bytes) ≡ None) (some : 0 < need (shape_in s t m) (Resize u bytes)) where
  abbrev σ : Shape
  σ = shape_in s t m

  own : IsOwn m u
  unfolding named
  own = own_row s t m (Resize u bytes) u o passes refl

  needed : need σ (Resize u bytes) ≡ lacking_larger σ u (rounded σ false bytes) (machine_row own.row)
  unfolding need
  needed = ap (with_image_of (lacking_larger σ u (rounded σ false bytes))) (own_image s t m u o own)

  lacks : 0 < lacking_larger σ u (rounded σ false bytes) (machine_row own.row)
  lacks = subst (λ k. 0 < k) needed some

  vhd : is_vhd (row_name own.row) ≡ true
  unfolding is_raw_disk
  vhd = not_false (is_vhd (row_name own.row)) (sym (ap (of_some (λ (i : ImageRow). not (is_vhd i.name))) (own_image s t m u o own)) ∙ (passed σ (Resize u bytes) passes).raw_disk)

  own_shown : is_image_of u (machine_row own.row) ≡ true
  own_shown = is_its_image (machine_row own.row) u own.shown own.uuid

  in_shape : In (machine_row own.row) (map machine_row m.rows)
  in_shape = In-map_at machine_row m.rows own.row own.there

  abbrev pub extents_then : ℕ
  extents_then = extents_in (tree_row m.rows (Vhd u)) + need σ (Resize u bytes)

  pub image_there : is_some (tree_row m.rows (Vhd u)) ≡ true
  image_there = ap is_some (plan.found s t m u (Resize u bytes) o passes own vhd some)

  pub is_below : IsBelow m.rows u extents_then
  is_below = plan.below s t m u (Resize u bytes) o passes own vhd some

  pub has_free : IsTidy t m → HasFree s.count t m.rows u extents_then
  has_free = plan.enough s t m u (Resize u bytes) o passes own vhd some

  grown : inflated u extents_then σ ≡ inflated u (own.row.extents + lacking_larger σ u (rounded σ false bytes) (machine_row own.row)) σ
  grown = ap (λ k. inflated u k σ) (let had = plan.had s t m u (Resize u bytes) o passes own vhd some in omega (arith, had, needed))

  pub allowed_then : refusal (inflated u extents_then σ) (Resize u bytes) ≡ None
  unfolding shape_in
  allowed_then = ∥∥₁_elim o.well_formed (hlevel props) (λ w. ap (λ τ. refusal τ (Resize u bytes)) grown ∙ grown_allowed σ w u bytes (machine_row own.row) in_shape own_shown vhd lacks passes)

  pub needs_none_then : need (inflated u extents_then σ) (Resize u bytes) ≡ 0
  unfolding shape_in
  needs_none_then = ∥∥₁_elim o.well_formed (hlevel props) (λ w. ap (λ τ. need τ (Resize u bytes)) grown ∙ none_needed σ w u bytes (machine_row own.row) in_shape own_shown vhd lacks)

  pub next_then : is_given_up σ (Resize u bytes) ≡ false → shape_next (inflated u extents_then σ) (Resize u bytes) ≡ shape_next σ (Resize u bytes)
  unfolding shape_in
  next_then keeps = ∥∥₁_elim o.well_formed (hlevel props) (λ w. ap (λ τ. shape_next τ (Resize u bytes)) grown ∙ grown_next σ w u bytes (machine_row own.row) in_shape own_shown vhd lacks keeps needed)

  pub few_extents : extents_then ≤ 2 ^ 27
  unfolding shape_in is_bad_size
  few_extents = ∥∥₁_elim o.well_formed (hlevel props) (λ w.
      let size = rounded σ false bytes in
      let within = is_within σ bytes (passed σ (Resize u bytes) passes).bad_size in
      let most : thick_in σ size ≤ 2 ^ 27 = thick_few s.geometry.extent s.geometry.block s.geometry.entries size w.geometry within in
      let lack = by size (is_rw (attached_as u σ)) (is_vhd (row_name own.row)) in
      let had = plan.had s t m u (Resize u bytes) o passes own vhd some in
      omega (arith, most, lack lacks, had, needed))
    where
      by : (size : ℕ) (a b : Bool) → 0 < elim a as (λ _. ℕ) [ true ↦ elim b as (λ _. ℕ) [ true ↦ thick_in σ size - own.row.extents | false ↦ 0 ] | false ↦ 0 ]
          → own.row.extents + elim a as (λ _. ℕ) [ true ↦ elim b as (λ _. ℕ) [ true ↦ thick_in σ size - own.row.extents | false ↦ 0 ] | false ↦ 0 ] ≤ thick_in σ size
      by size true true l = omega (arith, l)
      by size true false l = absurd (omega (arith, l))
      by size false b l = absurd (omega (arith, l))
