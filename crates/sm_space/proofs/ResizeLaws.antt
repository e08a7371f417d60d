-- A disk whose image has its extents gets a greater size: memory and shape with it.
use Rattle.std.proofs.Common.{◌≡◌, ◌≢◌, inl, inr, ⊎_elim, ℕ, ◌+◌, ◌*◌, ◌/◌, ◌≤◌, not, max, nat_lt, ◌==◌, Bool, true, false, List, [], map, Option, Some, None, refl, sym, ap, ◌∙◌, subst, arith}
use Rattle.std.proofs.Math.Logic.{∥∥₁_elim, ∥∥₁_map}
use Rattle.std.proofs.Math.Nat.{le_of_mul-le-mul_right, mul-div_cancel}
use Rattle.std.proofs.Props.{props}
use Rattle.std.specs.Prelude.{if◌then◌else◌, is_some}
use Rattle.std.proofs.lemmas.Bool.{eqb-false, ltb-false, or_parts}
use Rattle.sm_base.proofs.NumberLemmas.{div_up-pos}
use Rattle.sm_base.specs.Numbers.{div_up}
use Rattle.std.proofs.lemmas.Option.{none-some, same_Some}
use Rattle.sm_base.specs.declared.names.Name.{Name}
use Rattle.sm_base.specs.declared.names.Name.TheVariants.{Vhd, Raw}
use Rattle.sm_machine.specs.Operations.{Op}
use Rattle.sm_machine.specs.Operations as op
use Rattle.common_laws.specs.Lists.{In, change, when}
use Rattle.common_laws.proofs.Booleans.{not_false}
use Rattle.sm_disk.specs.Held.{Held}
use Rattle.sm_standing.specs.Checks.{fault_of}
use Rattle.sm_ready.specs.Outlined.{outline_in}
use Rattle.sm_ready.specs.Ready.{IsFirm}
use Rattle.common_laws.proofs.Lists.{In-map, In-map_at}
use Rattle.vg_meta.specs.Tables.{VolumeTable}
use Rattle.vg_volumes.specs.Sites.{Site}
use Rattle.vhd_image.specs.Bodies.{IsVhd, StandsIn, sector_count}
use Rattle.vhd_image.specs.Made.{IsDiskSize}
use Rattle.vhd_chain.specs.Trees.{row_name, tree_row, with_replaced}
use Rattle.vhd_chain.specs.declared.rows.TreeRow.{TreeRow}
use Rattle.sm_machine.specs.declared.commands.Command.TheVariants.{Resize}
use Rattle.sm_machine.specs.Commits.{folds, gives_up, growth_commits, is_given_up, own_commits}
use Rattle.sm_machine.specs.Collector.{count_either}
use Rattle.sm_machine.specs.Refusals.{is_bad_size, is_raw_disk, is_shrink, lacking_larger, named, need, of_some, refusal, rounded, with_image_of}
use Rattle.sm_machine.specs.Shapes.{ImageRow, Shape, image_uuid, is_image_of, is_vhd, thin_in, top}
use Rattle.sm_machine.specs.Steps.{shape_after, shape_next}
use Rattle.sm_machine.specs.WellFormed.{IsWellFormed}
use Rattle.sm_machine.proofs.Attaches.{is_its_image}
use Rattle.sm_machine.proofs.Changes.{when-key}
use Rattle.sm_machine.proofs.Guests.{disk_image_is}
use Rattle.sm_machine.proofs.Passed.{passed}
use Rattle.sm_machine.proofs.Steps.{step_keeps_shape}
use Rattle.sm_space.proofs.GrowLaws.{map_alike}
use Rattle.sm_ready.specs.Known.{Known, machine_row, shape_in}
use Rattle.sm_ready.specs.Orderly.{IsOrderly, IsRoomyFor, IsRoomyIn}
use Rattle.sm_ready.proofs.KeptLaws.{vhd_named}
use Rattle.sm_ready.proofs.Orders.{HasHead, vhd_row}
use Rattle.sm_ready.proofs.OwnLaws.{IsOwn, next_shape, other_image, own_image, own_name as named_own, own_row, step_shape}
use Rattle.sm_ready.proofs.SizedRows.{orderly_sized, rows_sized, sized, sized_name, stands_sized}
use Rattle.sm_ready.proofs.SizedRows as in_rows
use Rattle.sm_ready.proofs.TruthLaws.{row_found}
use Rattle.sm_ready.proofs.ApartLaws as apart
use Rattle.sm_ready.proofs.KeptLaws.{relink_large}
use Rattle.sm_ready.proofs.OperationLaws.{WorksAt}
use Rattle.sm_ready.proofs.SoundLaws.{sound}

-- the disk that gets a size: its visible image is in this row
pub record IsToResize (s : Site) (t : VolumeTable) (m : Known) (u : List ℕ) (bytes : ℕ) (r : TreeRow) : Type 0 where
  pub orderly : IsOrderly s t m
  pub there : In r m.rows
  pub shown : r.hidden ≡ false
  pub uuid : image_uuid (row_name r) ≡ u
  pub passes : refusal (shape_in s t m) (Resize u bytes) ≡ None
  pub kept_up : is_given_up (shape_in s t m) (Resize u bytes) ≡ false
  pub enough : need (shape_in s t m) (Resize u bytes) ≡ 0

-- the name by which its image is looked up
abbrev pub own_name : List TreeRow → List ℕ → Name
own_name rows u = if is_some (tree_row rows (Vhd u)) then Vhd u else Raw u

module _ (s : Site) (t : VolumeTable) (m : Known) (u : List ℕ) (bytes : ℕ) (n : Name) (x : Option TreeRow) (o : IsOrderly s t m) (passes : refusal (shape_in s t m) (Resize u bytes) ≡ None) (named_as : n ≡ own_name m.rows u) (looked : x ≡ tree_row m.rows n) where
  has : IsOwn m u
  unfolding named
  has = own_row s t m (Resize u bytes) u o passes refl

  is_found : x ≡ Some has.row
  is_found = looked ∙ ap (tree_row m.rows) (named_own s t m u n o has named_as) ∙ row_found s t m o has.row has.there

  pub named_here : (r : TreeRow) → x ≡ Some r → n ≡ row_name r
  named_here r is = named_own s t m u n o has named_as ∙ ap row_name (same_Some has.row r (sym is_found ∙ is))

  pub none_found : x ≡ None → ⊥
  none_found none = none-some has.row (sym none ∙ is_found)

  pub to_resize : (r : TreeRow) → x ≡ Some r → is_given_up (shape_in s t m) (Resize u bytes) ≡ false → need (shape_in s t m) (Resize u bytes) ≡ 0 → IsToResize s t m u bytes r
  to_resize r is kept_up enough =
      let same : has.row ≡ r = same_Some has.row r (sym is_found ∙ is) in
      record {
        orderly = o;
        there = subst (λ (q : TreeRow). In q m.rows) same has.there;
        shown = subst (λ (q : TreeRow). q.hidden ≡ false) same has.shown;
        uuid = subst (λ (q : TreeRow). image_uuid (row_name q) ≡ u) same has.uuid;
        passes = passes;
        kept_up = kept_up;
        enough = enough;
      }

module _ {s : Site} {t : VolumeTable} {m : Known} {u : List ℕ} {bytes : ℕ} {own : TreeRow} (h : IsToResize s t m u bytes own) where
  abbrev σ : Shape
  σ = shape_in s t m

  abbrev pub sectors : ℕ
  sectors = rounded (shape_in s t m) false bytes

  abbrev next : TreeRow
  next = sized sectors own

  abbrev pub grown : Known
  grown = record m { rows = with_replaced next m.rows }

  pub found : tree_row m.rows (row_name own) ≡ Some own
  found = row_found s t m h.orderly own h.there

  own_is : is_image_of u (machine_row own) ≡ true
  own_is = is_its_image (machine_row own) u h.shown h.uuid

  abbrev has_own : IsOwn m u
  has_own = record { row = own; there = h.there; shown = h.shown; uuid = h.uuid }

  pub vhd_name : is_vhd (row_name own) ≡ true
  unfolding is_raw_disk
  vhd_name = not_false (is_vhd (row_name own)) (sym (ap (of_some (λ (i : ImageRow). not (is_vhd i.name))) (own_image s t m u h.orderly has_own)) ∙ (passed σ (Resize u bytes) h.passes).raw_disk)

  pub named_vhd : row_name own ≡ Vhd u
  named_vhd = vhd_named (row_name own) vhd_name ∙ ap Vhd h.uuid

  pub own_head : HasHead own
  own_head = vhd_row s t m own (image_uuid (row_name own)) h.orderly h.there (vhd_named (row_name own) vhd_name)

  pub own_vhd : IsVhd own.image
  own_vhd = subst IsVhd (sym own_head.is) tt

  pub no_less : sector_count own.image ≤ sectors
  unfolding is_shrink
  no_less = ltb-false sectors (sector_count own.image) (sym (ap (of_some (λ (i : ImageRow). nat_lt sectors i.size)) (own_image s t m u h.orderly has_own)) ∙ (passed σ (Resize u bytes) h.passes).shrink)

  -- ---- its rows

  abbrev with_size : ImageRow → ImageRow
  with_size i = record i { size = sectors }

  shape_with : IsWellFormed σ → shape_in s t grown ≡ record σ { images = change (is_image_of u) with_size σ.images }
  shape_with w = in_rows.shape_sized s t m h.orderly own h.there sectors (is_image_of u) own_vhd own_is (λ p i other. other_image s t m u own w h.there h.uuid p i other)

  shape_plain : shape_in s t grown ≡ record σ { images = change (is_image_of u) with_size σ.images }
  shape_plain = ∥∥₁_elim h.orderly.well_formed (hlevel props) shape_with

  -- its image lacks no extents
  lacks_none : IsWellFormed σ → (y : ImageRow) → In y σ.images → is_image_of u y ≡ true → lacking_larger σ u sectors y ≡ 0
  unfolding need
  lacks_none w y i own = sym (ap (with_image_of (lacking_larger σ u sectors)) (disk_image_is σ w u y i own)) ∙ h.enough

  images_alike : IsWellFormed σ → change (is_image_of u) with_size σ.images ≡ change (is_image_of u) (λ y. let x : ImageRow = record y { size = sectors; extents = y.extents + lacking_larger σ u sectors y } in x) σ.images
  images_alike w = map_alike _ _ σ.images (λ y i. by y i (is_image_of u y) refl)
    where
      by : (y : ImageRow) → In y σ.images → (b : Bool) → is_image_of u y ≡ b → when b with_size y ≡ when b (λ z. let x : ImageRow = record z { size = sectors; extents = z.extents + lacking_larger σ u sectors z } in x) y
      by y i true own = ap (λ k. let x : ImageRow = record y { size = sectors; extents = k } in x) (let none = lacks_none w y i own in omega (arith, none))
      by y i false own = refl

  -- the shape is the machine's
  pub shape_sized : shape_in s t grown ≡ shape_next σ (Resize u bytes)
  unfolding shape_after own_commits
  shape_sized = ∥∥₁_elim h.orderly.well_formed (hlevel props) (λ w. shape_with w ∙ ap (λ is. let x : Shape = record σ { images = is } in x) (images_alike w)
      ∙ sym (next_shape σ (Resize u bytes) w h.kept_up (ap (λ k. growth_commits (nat_lt 0 k)) h.enough)))

  roomy_for : (v p : Name) → IsRoomyFor σ v p → IsRoomyFor (record σ { images = change (is_image_of u) with_size σ.images }) v p
  roomy_for v p room i q hi hq is under vhd =
      let y = In-map (λ x. when (is_image_of u x) with_size x) σ.images i hi in
      let z = In-map (λ x. when (is_image_of u x) with_size x) σ.images q hq in
      by (is_image_of u y.0) (is_image_of u z.0) y.0 z.0 y.1 z.1 y.2 z.2
    where
      by : (a b : Bool) (y z : ImageRow) → In y σ.images → In z σ.images → i ≡ when a with_size y → q ≡ when b with_size z → thin_in σ (max (top q.slots) (count_either q.slots i.slots)) ≤ q.extents
      by a b y z hy hz iy qz =
          let slots_i : i.slots ≡ y.slots = ap (λ (x : ImageRow). x.slots) iy ∙ when-key (λ (x : ImageRow). x.slots) with_size (λ x. refl) a y in
          let slots_q : q.slots ≡ z.slots = ap (λ (x : ImageRow). x.slots) qz ∙ when-key (λ (x : ImageRow). x.slots) with_size (λ x. refl) b z in
          let extents_q : q.extents ≡ z.extents = ap (λ (x : ImageRow). x.extents) qz ∙ when-key (λ (x : ImageRow). x.extents) with_size (λ x. refl) b z in
          let h = room y z hy hz (sym (ap (λ (x : ImageRow). x.name) iy ∙ when-key (λ (x : ImageRow). x.name) with_size (λ x. refl) a y) ∙ is) (sym (ap (λ (x : ImageRow). x.name) qz ∙ when-key (λ (x : ImageRow). x.name) with_size (λ x. refl) b z) ∙ under) vhd in
          subst (λ k. thin_in σ (max (top q.slots) (count_either q.slots i.slots)) ≤ k) (sym extents_q)
          (subst (λ (l : List (Option ℕ)). thin_in σ (max (top l) (count_either l i.slots)) ≤ z.extents) (sym slots_q) (subst (λ (l : List (Option ℕ)). thin_in σ (max (top z.slots) (count_either z.slots l)) ≤ z.extents) (sym slots_i) h))

  roomy_sized : (o : Op) → IsRoomyIn σ o → IsRoomyIn (record σ { images = change (is_image_of u) with_size σ.images }) o
  roomy_sized op.Idle room = tt
  roomy_sized (op.Copy v p cursor) room = roomy_for v p room
  roomy_sized (op.Relink v p) room = tt
  roomy_sized (op.Leaf l p cursor) room = roomy_for l p room
  roomy_sized (op.Live l p cursor dirty) room = roomy_for l p room

  -- memory is orderly with it
  pub orderly_grown : StandsIn s.geometry (own.extents * s.geometry.extent) next.image → IsOrderly s t grown
  unfolding shape_in
  orderly_grown stands = orderly_sized s t m h.orderly own h.there sectors (is_image_of u) shape_plain stands
      (∥∥₁_map h.orderly.well_formed (λ w. subst IsWellFormed (step_shape (record { disks = []; shape = σ }) (Resize u bytes) h.passes ∙ sym shape_sized) (step_keeps_shape (record { disks = []; shape = σ }) (Resize u bytes) w)))
      (subst (λ (τ : Shape). IsRoomyIn τ m.op) (sym shape_plain) (roomy_sized m.op h.orderly.roomy))

  -- the size is a disk's
  pub size_proper : IsDiskSize s.geometry sectors
  unfolding is_bad_size shape_in rounded
  size_proper =
      let bad = or_parts _ false (passed (shape_in s t m) (Resize u bytes) h.passes).bad_size in
      let parts = or_parts (bytes == 0) (nat_lt (s.geometry.entries * s.geometry.block) (div_up bytes (512 * s.geometry.block) * s.geometry.block)) bad.0 in
      let least = s.geometry.in_range.block_least in
      let blocks = div_up bytes (512 * s.geometry.block) in
      let is : blocks * s.geometry.block / s.geometry.block ≡ blocks = mul-div_cancel blocks {n = s.geometry.block} (omega (arith, least)) in
      record {
        whole = ap (λ k. k * s.geometry.block) (sym is);
        least = subst (λ k. 1 ≤ k) (sym is) (div_up-pos bytes (512 * s.geometry.block) (omega (arith, least)) (let x : bytes ≢ 0 = eqb-false bytes 0 parts.0 in omega (arith, x)));
        most = subst (λ k. k ≤ s.geometry.entries) (sym is) (le_of_mul-le-mul_right (ltb-false (s.geometry.entries * s.geometry.block) (blocks * s.geometry.block) parts.1) (omega (arith, least)));
      }

  -- and the image stands with it
  pub stands_grown : StandsIn s.geometry (own.extents * s.geometry.extent) next.image
  stands_grown = stands_sized s t m h.orderly own h.there sectors own_head size_proper no_less

  -- ---- the operation works at other images

  pub works_apart : (n : Name) → WorksAt m.op n → n ≢ row_name own
  unfolding shape_in is_given_up gives_up
  works_apart = apart.works_apart s t m own h.orderly h.there h.shown (ap (folds m.op) h.uuid ∙ h.kept_up)

  -- an image of another name was there
  was_there : (x : ImageRow) → In x (map machine_row grown.rows) → x.name ≢ row_name own → In x (map machine_row m.rows)
  was_there x i other =
      let z = In-map machine_row grown.rows x i in
      ⊎_elim (λ old. subst (λ y. In y (map machine_row m.rows)) (sym z.2) (In-map_at machine_row m.rows z.0 old.0))
      (λ new. absurd (other (ap (λ (y : ImageRow). y.name) z.2 ∙ ap row_name new ∙ sized_name sectors own.image))) (rows_sized s t m h.orderly own h.there sectors z.0 z.1)

  -- no check fails of memory with the new size
  pub sound_sized : (area : Held) → IsFirm s t area m → IsOrderly s t grown → fault_of (outline_in s t grown) ≡ None
  unfolding shape_in
  sound_sized area firm orderly = ∥∥₁_elim orderly.well_formed (hlevel props) (λ after. ∥∥₁_elim h.orderly.well_formed (hlevel props) (λ w.
      sound s t grown orderly after (λ v p c q is in_c in_q named_c named_q.
      relink_large s t area m h.orderly firm w v p c q is
      (was_there c in_c (λ same. works_apart v (subst (λ o. WorksAt o v) (sym is) (inl refl)) (sym named_c ∙ same)))
      (was_there q in_q (λ same. works_apart p (subst (λ o. WorksAt o p) (sym is) (inr refl)) (sym named_q ∙ same))) named_c named_q)))
