-- The images in memory once a fork is made: which names they have, and that each stands in its volume.
use Rattle.std.proofs.Common.{◌≡◌, ◌≢◌, ⊎_elim, ℕ, ◌+◌, ◌*◌, ◌/◌, ◌≤◌, Bool, true, false, cond, not, List, Option, Some, None, is_some, refl, sym, ap, ◌∙◌, subst, arith}
use Rattle.std.proofs.Math.Logic.{∥∥₁_elim}
use Rattle.std.proofs.Math.Nat.{mul-div_cancel}
use Rattle.std.proofs.Props.{props}
use Rattle.std.proofs.lemmas.Bool.{or_parts, true≢false}
use Rattle.std.proofs.lemmas.Option.{none-some}
use Rattle.common_laws.specs.Lists.{In}
use Rattle.common_laws.proofs.Lists.{In-filter, In-insert, In-map_at}
use Rattle.common_laws.proofs.Options.{none_of_some}
use Rattle.sm_base.specs.Names.{base_uuid, is_base}
use Rattle.sm_base.specs.Numbers.{div_up, first, thick, thin}
use Rattle.sm_base.specs.declared.names.Name.{Name}
use Rattle.sm_base.specs.declared.names.Name.TheVariants as name
use Rattle.sm_base.specs.declared.sizes.Geometry.{Geometry}
use Rattle.sm_base.proofs.NumberLemmas.{le-div_up}
use Rattle.vg_meta.specs.Tables.{VolumeTable}
use Rattle.vg_meta.proofs.NameLaws.{name_eq-same}
use Rattle.vg_volumes.specs.Sites.{Site}
use Rattle.vhd_image.specs.Bodies.{StandsIn, in_volume, sector_count}
use Rattle.vhd_image.specs.Made.{IsDiskSize}
use Rattle.vhd_image.specs.declared.images.Body.{Body}
use Rattle.vhd_image.specs.declared.images.Body.TheVariants.{Raw, Vhd}
use Rattle.vhd_image.proofs.MakingLaws.{made-stands}
use Rattle.vhd_volumes.specs.Truth.{HasRoomFor}
use Rattle.vhd_chain.specs.declared.rows.TreeRow.{TreeRow}
use Rattle.vhd_chain.specs.Trees.{is_before, has_name, row_name, tree_row, with_row, without}
use Rattle.vhd_chain.proofs.ByName.{tree_row-with_other, tree_row-with_same, tree_row-without_other, tree_row-without_same}
use Rattle.sm_machine.specs.Refusals.{wanted}
use Rattle.sm_machine.specs.Shapes.{image_uuid, renamed}
use Rattle.sm_machine.specs.WellFormed.{IsSize, IsWellFormed, is_image_name}
use Rattle.sm_machine.proofs.Create.{base_form}
use Rattle.sm_ready.specs.Known.{Known, machine_row, shape_in}
use Rattle.sm_ready.specs.Orderly.{IsOrderly}
use Rattle.sm_ready.specs.Ready.{IsTidy}
use Rattle.sm_ready.proofs.CauseLaws.{vhd_uuid}
use Rattle.sm_ready.proofs.Orders.{In-tree_row}
use Rattle.sm_ready.proofs.OwnLaws.{IsOwn}
use Rattle.sm_space.proofs.OwnLaws.{named_or_not}
use Rattle.sm_clone.specs.Forking.{Passes, base_body, base_name, base_row, child_row, fork_of, own_uid, twin_uid}
use Rattle.sm_clone.specs.declared.forks.Fork.{Fork}
use Rattle.sm_clone.proofs.PassedLaws.{found, new, own}
use Rattle.sm_clone.proofs.ShapeLaws.{named_in, rows_are, rows_then, sized_in}
use Rattle.sm_clone.proofs.UseLaws.{base_uuid_is, no_base_row}

-- an image in a volume of another name stands in as many sectors
stands_in : (g : Geometry) (n : ℕ) (to : Name) (b : Body) → StandsIn g n b → StandsIn g n (in_volume to b)
stands_in g n to (Raw volume size) stands = stands
stands_in g n to (Vhd head m) stands = record {
  entries = stands.entries;
  block = stands.block;
  size = stands.size;
  least = stands.least;
  most = stands.most;
  sized = stands.sized;
  room = stands.room;
}

pub vhd_named : (u : List ℕ) → is_image_name (name.Vhd u) ≡ true
unfolding is_image_name
vhd_named u = refl

raw_named : (u : List ℕ) → is_image_name (name.Raw u) ≡ true
unfolding is_image_name
raw_named u = refl

vhd_moved : (u v : List ℕ) → is_image_name (renamed (name.Vhd u) v) ≡ true
unfolding is_image_name renamed
vhd_moved u v = refl

raw_moved : (u v : List ℕ) → is_image_name (renamed (name.Raw u) v) ≡ true
unfolding is_image_name renamed
raw_moved u v = refl

module _ (s : Site) (t : VolumeTable) (m : Known) (u twin : List ℕ) (read_only : Bool) (o : IsOrderly s t m) (tidy : IsTidy t m) (passes : Passes s t m u twin read_only) where
  abbrev f : Fork
  f = fork_of passes.number m.rows u twin

  abbrev its : IsOwn m u
  its = own s t m u twin read_only o tidy passes

  abbrev row : TreeRow
  row = its.row

  abbrev pub base_then : TreeRow
  base_then = base_row f row

  abbrev pub leaf_then : ℕ → ℕ → TreeRow
  leaf_then now a = child_row s.geometry u now (own_uid t) (base_body f row.image) a

  abbrev pub twin_then : ℕ → ℕ → TreeRow
  twin_then now b = child_row s.geometry twin now (twin_uid t) (base_body f row.image) b

  pub base_named : row_name base_then ≡ base_name f
  base_named = named_in (base_name f) row.image

  -- ---- names that no image has, and that differ

  pub own_image_name : is_image_name f.own ≡ true
  own_image_name = by (is_some (tree_row m.rows (name.Vhd u)))
    where
      by : (b : Bool) → is_image_name (cond b (name.Vhd u) (name.Raw u)) ≡ true
      by true = vhd_named u
      by false = raw_named u

  pub base_image : is_image_name (base_name f) ≡ true
  base_image = by (is_some (tree_row m.rows (name.Vhd u)))
    where
      by : (b : Bool) → is_image_name (renamed (cond b (name.Vhd u) (name.Raw u)) (base_uuid passes.number)) ≡ true
      by true = vhd_moved u (base_uuid passes.number)
      by false = raw_moved u (base_uuid passes.number)

  pub no_twin_row : tree_row m.rows (name.Vhd twin) ≡ None
  no_twin_row = none_of_some _ (or_parts (is_some (tree_row m.rows (name.Vhd twin))) (is_some (tree_row m.rows (name.Raw twin))) (new s t m u twin read_only o tidy passes).absent).0

  no_raw_twin : tree_row m.rows (name.Raw twin) ≡ None
  no_raw_twin = none_of_some _ (or_parts (is_some (tree_row m.rows (name.Vhd twin))) (is_some (tree_row m.rows (name.Raw twin))) (new s t m u twin read_only o tidy passes).absent).1

  pub no_base_then : tree_row m.rows (base_name f) ≡ None
  no_base_then = by (tree_row m.rows (base_name f)) refl
    where
      by : (x : Option TreeRow) → tree_row m.rows (base_name f) ≡ x → x ≡ None
      by None is = refl
      by (Some r) is =
          let w = In-tree_row m.rows (base_name f) r is in
          absurd (no_base_row s t m u twin read_only o tidy passes r w.0 (ap image_uuid w.1 ∙ base_uuid_is s t m u twin read_only o tidy passes))

  -- a raw disk has no image of the other name
  pub no_leaf_row : f.own ≢ name.Vhd u → tree_row m.rows (name.Vhd u) ≡ None
  no_leaf_row raw = by (tree_row m.rows (name.Vhd u)) refl
    where
      by : (x : Option TreeRow) → tree_row m.rows (name.Vhd u) ≡ x → x ≡ None
      by None is = refl
      by (Some r) is = absurd (raw (ap (λ (y : Option TreeRow). cond (is_some y) (name.Vhd u) (name.Raw u)) is))

  own_there : tree_row m.rows f.own ≡ Some row
  own_there = found s t m u twin read_only o tidy passes

  pub base_not_own : base_name f ≢ f.own
  base_not_own is = none-some row (sym no_base_then ∙ ap (tree_row m.rows) is ∙ own_there)

  pub own_not_twin : f.own ≢ name.Vhd twin
  own_not_twin is = none-some row (sym (ap (tree_row m.rows) is ∙ no_twin_row) ∙ own_there)

  u_not_twin : u ≢ twin
  u_not_twin is = by (is_some (tree_row m.rows (name.Vhd u))) refl
    where
      by : (b : Bool) → is_some (tree_row m.rows (name.Vhd u)) ≡ b → ⊥
      by true e = true≢false (sym e ∙ ap is_some (ap (λ v. tree_row m.rows (name.Vhd v)) is ∙ no_twin_row))
      by false e = none-some row (sym (ap (tree_row m.rows) (ap (λ b. cond b (name.Vhd u) (name.Raw u)) e ∙ ap name.Raw is) ∙ no_raw_twin) ∙ own_there)

  pub leaf_not_twin : name.Vhd u ≢ name.Vhd twin
  leaf_not_twin is = u_not_twin (let x = is in cc)

  pub base_not_leaf : base_name f ≢ name.Vhd u
  base_not_leaf is = no_base_row s t m u twin read_only o tidy passes row its.there
      (its.uuid ∙ sym (vhd_uuid u) ∙ ap image_uuid (sym is) ∙ base_uuid_is s t m u twin read_only o tidy passes)

  pub base_not_twin : base_name f ≢ name.Vhd twin
  base_not_twin is = true≢false (sym (base_form passes.number) ∙ ap is_base (sym (base_uuid_is s t m u twin read_only o tidy passes) ∙ ap image_uuid is ∙ vhd_uuid twin)
      ∙ (new s t m u twin read_only o tidy passes).not_base)

  -- ---- the images by name

  abbrev beside : List TreeRow
  beside = without f.own m.rows

  base_then_not : (n : Name) → base_name f ≢ n → row_name base_then ≢ n
  base_then_not n other is = other (sym base_named ∙ is)

  absent_base : tree_row beside (base_name f) ≡ None
  absent_base = tree_row-without_other m.rows f.own (base_name f) (λ is. base_not_own (sym is)) ∙ no_base_then

  absent_leaf : tree_row beside (name.Vhd u) ≡ None
  absent_leaf = ⊎_elim (λ is. subst (λ (n : Name). tree_row beside n ≡ None) is (tree_row-without_same m.rows f.own))
      (λ raw. tree_row-without_other m.rows f.own (name.Vhd u) raw ∙ no_leaf_row raw) (named_or_not f.own (name.Vhd u))

  absent_twin : tree_row beside (name.Vhd twin) ≡ None
  absent_twin = tree_row-without_other m.rows f.own (name.Vhd twin) own_not_twin ∙ no_twin_row

  module _ (now a b : ℕ) where
    abbrev two : List TreeRow
    two = with_row (leaf_then now a) (with_row base_then beside)

    pub look_base : tree_row (rows_then s t m u twin read_only o tidy passes now a b) (base_name f) ≡ Some base_then
    look_base =
        ap (λ rs. tree_row rs (base_name f)) (rows_are s t m u twin read_only o tidy passes now a b)
        ∙ tree_row-with_other two (twin_then now b) (base_name f) (λ is. base_not_twin (sym is))
        ∙ tree_row-with_other (with_row base_then beside) (leaf_then now a) (base_name f) (λ is. base_not_leaf (sym is))
        ∙ sym (ap (tree_row (with_row base_then beside)) base_named) ∙ tree_row-with_same beside base_then (ap (tree_row beside) base_named ∙ absent_base)

    pub look_leaf : tree_row (rows_then s t m u twin read_only o tidy passes now a b) (name.Vhd u) ≡ Some (leaf_then now a)
    look_leaf =
        ap (λ rs. tree_row rs (name.Vhd u)) (rows_are s t m u twin read_only o tidy passes now a b)
        ∙ tree_row-with_other two (twin_then now b) (name.Vhd u) (λ is. leaf_not_twin (sym is))
        ∙ tree_row-with_same (with_row base_then beside) (leaf_then now a) (tree_row-with_other beside base_then (name.Vhd u) (base_then_not (name.Vhd u) base_not_leaf) ∙ absent_leaf)

    pub look_twin : tree_row (rows_then s t m u twin read_only o tidy passes now a b) (name.Vhd twin) ≡ Some (twin_then now b)
    look_twin =
        ap (λ rs. tree_row rs (name.Vhd twin)) (rows_are s t m u twin read_only o tidy passes now a b)
        ∙ tree_row-with_same two (twin_then now b) (tree_row-with_other (with_row base_then beside) (leaf_then now a) (name.Vhd twin) leaf_not_twin
        ∙ tree_row-with_other beside base_then (name.Vhd twin) (base_then_not (name.Vhd twin) base_not_twin) ∙ absent_twin)

    -- one of another name is as it was, and the disk's image is gone
    look_beside : (n : Name) → n ≢ base_name f → n ≢ name.Vhd u → n ≢ name.Vhd twin → tree_row (rows_then s t m u twin read_only o tidy passes now a b) n ≡ tree_row beside n
    look_beside n not_base not_leaf not_twin =
        ap (λ rs. tree_row rs n) (rows_are s t m u twin read_only o tidy passes now a b)
        ∙ tree_row-with_other two (twin_then now b) n (λ is. not_twin (sym is))
        ∙ tree_row-with_other (with_row base_then beside) (leaf_then now a) n (λ is. not_leaf (sym is))
        ∙ tree_row-with_other beside base_then n (base_then_not n (λ is. not_base (sym is)))

    pub look_other : (n : Name) → n ≢ base_name f → n ≢ name.Vhd u → n ≢ name.Vhd twin → n ≢ f.own → tree_row (rows_then s t m u twin read_only o tidy passes now a b) n ≡ tree_row m.rows n
    look_other n not_base not_leaf not_twin not_own = look_beside n not_base not_leaf not_twin ∙ tree_row-without_other m.rows f.own n (λ is. not_own (sym is))

    pub look_gone : f.own ≢ name.Vhd u → tree_row (rows_then s t m u twin read_only o tidy passes now a b) f.own ≡ None
    look_gone raw = look_beside f.own (λ is. base_not_own (sym is)) raw own_not_twin ∙ tree_row-without_same m.rows f.own

    -- each image is one of the three, or another from before
    pub by_row : (P : TreeRow → Type 0) → P base_then → P (leaf_then now a) → P (twin_then now b) → ((r : TreeRow) → In r m.rows → row_name r ≢ f.own → P r)
        → (r : TreeRow) → In r (rows_then s t m u twin read_only o tidy passes now a b) → P r
    by_row P base leaf other each r i = ⊎_elim
        (λ is. subst P (sym is) other)
        (λ j. ⊎_elim (λ is. subst P (sym is) leaf)
        (λ k. ⊎_elim (λ is. subst P (sym is) base) (λ l. (let w = In-filter _ m.rows r l in each r w.0 (away r w.1))) (In-insert is_before base_then beside r k))
        (In-insert is_before (leaf_then now a) (with_row base_then beside) r j))
        (In-insert is_before (twin_then now b) two r (subst (In r) (rows_are s t m u twin read_only o tidy passes now a b) i))
      where
        away : (r : TreeRow) → not (has_name f.own r) ≡ true → row_name r ≢ f.own
        away r kept is = true≢false (sym kept ∙ ap not (name_eq-same (row_name r) f.own is))

  -- ---- the rooms of the three

  pub disk_size : IsDiskSize s.geometry (sector_count (base_body f row.image))
  unfolding shape_in
  disk_size = subst (IsDiskSize s.geometry) (sym (sized_in (base_name f) row.image)) record {
    whole = ∥∥₁_elim o.well_formed (hlevel props) (λ w. let x = size w in x.1 ∙ ap (λ k. k * s.geometry.block) (sym (blocks w)));
    least = ∥∥₁_elim o.well_formed (hlevel props) (λ w. let x = size w in subst (λ k. 1 ≤ k) (sym (blocks w)) x.2);
    most = ∥∥₁_elim o.well_formed (hlevel props) (λ w. let x = size w in subst (λ k. k ≤ s.geometry.entries) (sym (blocks w)) x.3);
  }
    where
      size : IsWellFormed (shape_in s t m) → IsSize (shape_in s t m) (sector_count row.image)
      size w = (w.images (machine_row row) (In-map_at machine_row m.rows row its.there)).whole

      blocks : (w : IsWellFormed (shape_in s t m)) → sector_count row.image / s.geometry.block ≡ (size w).0
      blocks w = let least = s.geometry.in_range.block_least in ap (λ k. k / s.geometry.block) (size w).1 ∙ mul-div_cancel (size w).0 {n = s.geometry.block} (omega (arith, least))

  roomy : (slots : ℕ) → HasRoomFor s.geometry 0 (thin s.geometry.extent s.geometry.block s.geometry.entries slots * s.geometry.extent)
  unfolding thin
  roomy slots = let g = s.geometry.in_range.extent_least in omega (arith, le-div_up (first s.geometry.entries + slots * (1 + s.geometry.block) + 1) s.geometry.extent (omega (arith, g)))

  -- what an image wants has room for one without slots
  pub roomy_wanted : (rw : Bool) (size : ℕ) → HasRoomFor s.geometry 0 (wanted (shape_in s t m) rw size * s.geometry.extent)
  unfolding shape_in thick
  roomy_wanted true size = roomy (div_up size s.geometry.block)
  roomy_wanted false size = roomy 0

  pub stands_then : (now a b : ℕ) → HasRoomFor s.geometry 0 (a * s.geometry.extent) → HasRoomFor s.geometry 0 (b * s.geometry.extent)
      → (r : TreeRow) → In r (rows_then s t m u twin read_only o tidy passes now a b) → StandsIn s.geometry (r.extents * s.geometry.extent) r.image
  stands_then now a b first second = by_row now a b (λ r. StandsIn s.geometry (r.extents * s.geometry.extent) r.image)
      (stands_in s.geometry (row.extents * s.geometry.extent) (base_name f) row.image (o.stands row its.there))
      (made-stands s.geometry (a * s.geometry.extent) now (sector_count (base_body f row.image)) (own_uid t) disk_size (Some (base_body f row.image)) (name.Vhd u) first)
      (made-stands s.geometry (b * s.geometry.extent) now (sector_count (base_body f row.image)) (twin_uid t) disk_size (Some (base_body f row.image)) (name.Vhd twin) second)
      (λ r i away. o.stands r i)
