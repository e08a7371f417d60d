-- The leaf and its parent, where a swap is next: both are in memory and have volumes, the leaf's visible and the parent's hidden; no
-- other volume has one of their UUIDs, and the entry is the only one.
use Rattle.std.proofs.Common.{◌≡◌, ◌≢◌, ℕ, ◌*◌, ◌≤◌, ◌||◌, Bool, true, false, List, [], ◌∷◌, length, map, Option, Some, None, refl, sym, ap, ap₂, ◌∙◌, subst, arith}
use Rattle.std.proofs.Math.Logic.{∥∥₁_elim}
use Rattle.std.proofs.Math.Nat.{mul-le-mul_right}
use Rattle.std.proofs.Props.{props}
use Rattle.std.proofs.lemmas.Bool.{true≢false}
use Rattle.std.proofs.lemmas.Option.{none-some, same_Some}
use Rattle.common_laws.specs.Lists.{In}
use Rattle.common_laws.proofs.Bytes.{bytes_eq-apart}
use Rattle.common_laws.proofs.Lists.{Distinct-key, In-map, In-map_at}
use Rattle.sm_base.specs.Kinds.{is_entry, is_image}
use Rattle.sm_base.specs.Names.{IsName}
use Rattle.sm_base.specs.declared.names.Name.{Name}
use Rattle.sm_base.specs.declared.names.Name.TheVariants.{Leaf, Old, Raw, Vhd}
use Rattle.vg_meta.specs.Tables.{IsVolume, Row, VolumeTable, rows}
use Rattle.vg_meta.proofs.RowLaws.{All-row_of, row_of-name}
use Rattle.vg_volumes.specs.Sites.{Site}
use Rattle.vhd_image.specs.Bodies.{parent_name, sector_count}
use Rattle.vhd_chain.specs.Trees.{row_name, tree_row}
use Rattle.vhd_chain.specs.declared.rows.TreeRow.{TreeRow}
use Rattle.sm_machine.specs.Shapes.{ImageRow, image_uuid}
use Rattle.sm_machine.specs.WellFormed.{IsOnlyChild, IsOperation, IsWellFormed, is_image_name}
use Rattle.sm_standing.specs.Apart.{is_apart}
use Rattle.sm_standing.specs.Entries.{is_among, names_in}
use Rattle.sm_standing.specs.Swaps.{swapped}
use Rattle.sm_standing.proofs.ApartLaws.{raw_apart, vhd_apart}
use Rattle.sm_standing.proofs.DisksShown.{row_of-In}
use Rattle.sm_ready.specs.Known.{Known, entry_of, machine_row, shape_in}
use Rattle.sm_ready.proofs.KeptLaws.{vhd_named}
use Rattle.sm_ready.proofs.Orders.{In-tree_row, rowed}
use Rattle.sm_ready.proofs.RowLaws.{HasVolume, tree_found, volume_there}
use Rattle.sm_ready.proofs.ShapeLaws.{no_old}
use Rattle.gc_leaf.proofs.SwapSteps.{IsToSwap, entry_is, only_of}

-- a volume of this name, hidden or not, and the row of memory behind it
pub record IsHeld (t : VolumeTable) (m : Known) (n : Name) (hidden : Bool) : Type 0 where
  pub image : TreeRow
  pub found : tree_row m.rows n ≡ Some image
  pub row : Row
  pub there : rows t n ≡ Some row
  pub filled : row.fresh ≡ false
  pub shown : row.hidden ≡ hidden
  pub image_shown : image.hidden ≡ hidden
  pub long : image.extents ≡ length row.extents

-- the UUID in a name
pub vhd_uuid : (x : List ℕ) → x ≡ image_uuid (Vhd x)
unfolding image_uuid
vhd_uuid x = refl

-- an image whose UUID is none of some
apart_image : (us : List (List ℕ)) (n : Name) → is_image_name n ≡ true → is_among us (image_uuid n) ≡ false → is_apart us n ≡ true
unfolding is_image_name image_uuid
apart_image us (Vhd x) image e = vhd_apart us x e
apart_image us (Raw x) image e = raw_apart us x e
apart_image us _ image e = absurd (true≢false (sym image))

module _ {s : Site} {t : VolumeTable} {m : Known} {l p : Name} {cursor : ℕ} (h : IsToSwap s t m l p cursor) where
  abbrev pub u : List ℕ
  u = image_uuid l

  abbrev pub v : List ℕ
  v = image_uuid p

  pub leaf_is : l ≡ Vhd u
  leaf_is = vhd_named l h.leaf_vhd

  pub parent_is : p ≡ Vhd v
  parent_is = vhd_named p h.parent_vhd

  -- ---- in memory

  abbrev Image : Name → Bool → Type 0
  Image n hidden = (r : TreeRow) × In r m.rows × (row_name r ≡ n) × (r.hidden ≡ hidden)

  pub child : IsWellFormed (shape_in s t m) → IsOnlyChild (shape_in s t m) false l p
  unfolding shape_in
  child w = only_of (shape_in s t m) h.attached l p cursor [] (subst (IsOperation (shape_in s t m)) h.is w.operation)

  leaf_image : IsWellFormed (shape_in s t m) → Image l false
  unfolding shape_in
  leaf_image w =
      let c = (child w).link in
      let y = In-map machine_row m.rows c.child c.there in
      (y.0, y.1, sym (ap (λ (i : ImageRow). i.name) y.2) ∙ c.is_named, sym (ap (λ (i : ImageRow). i.hidden) y.2) ∙ c.is_shown)

  parent_image : IsWellFormed (shape_in s t m) → Image p true
  unfolding shape_in
  parent_image w =
      let c = (child w).link in
      let g = w.parents c.child p c.there c.linked in
      let y = In-map machine_row m.rows g.parent g.there in
      (y.0, y.1, sym (ap (λ (i : ImageRow). i.name) y.2) ∙ g.is_named, sym (ap (λ (i : ImageRow). i.hidden) y.2) ∙ g.is_hidden)

  image_found : (n : Name) (hidden : Bool) → IsWellFormed (shape_in s t m) → (i : Image n hidden) → tree_row m.rows n ≡ Some i.0
  unfolding shape_in
  image_found n hidden w i = ap (tree_row m.rows) (sym i.2) ∙ tree_found m.rows i.0 w.one_image i.1

  held : (n : Name) (hidden : Bool) → n ≡ Vhd (image_uuid n) → (IsWellFormed (shape_in s t m) → Image n hidden) → IsHeld t m n hidden
  held n hidden vhd image = by (tree_row m.rows n) refl
    where
      by : (x : Option TreeRow) → tree_row m.rows n ≡ x → IsHeld t m n hidden
      by None none = absurd (∥∥₁_elim h.orderly.well_formed (hlevel props) (λ w. none-some (image w).0 (sym none ∙ image_found n hidden w (image w))))
      by (Some r) at =
          let name = (In-tree_row m.rows n r at).1 in
          let its : HasVolume t (row_name r) = volume_there s t m r h.orderly (ap is_image name ∙ ap is_image vhd) (ap (tree_row m.rows) name ∙ at) in
          let there : rows t n ≡ Some its.row = ap (rows t) (sym name) ∙ its.there in
          let w = rowed s t m n its.row h.orderly (ap is_image vhd) there its.filled in
          let same : w.row ≡ r = same_Some w.row r (sym w.found ∙ at) in
          let shown : r.hidden ≡ hidden = ∥∥₁_elim h.orderly.well_formed (hlevel props) (λ f.
          ap (λ (y : TreeRow). y.hidden) (same_Some r (image f).0 (sym at ∙ image_found n hidden f (image f))) ∙ (image f).3) in
          record {
            image = r;
            found = at;
            row = its.row;
            there = there;
            filled = its.filled;
            shown = sym w.hidden ∙ ap (λ (y : TreeRow). y.hidden) same ∙ shown;
            image_shown = shown;
            long = sym (ap (λ (y : TreeRow). y.extents) same) ∙ w.long;
          }

  leaf_held : IsHeld t m l false
  leaf_held = held l false leaf_is leaf_image

  parent_held : IsHeld t m p true
  parent_held = held p true parent_is parent_image

  pub leaf_vol : IsHeld t m (Vhd u) false
  leaf_vol = subst (λ n. IsHeld t m n false) leaf_is leaf_held

  pub parent_vol : IsHeld t m (Vhd v) true
  parent_vol = subst (λ n. IsHeld t m n true) parent_is parent_held

  -- the leaf's parent, and its size
  unfold_row : (n : Name) (hidden : Bool) (x : IsHeld t m n hidden) (r : TreeRow) → IsWellFormed (shape_in s t m) → In r m.rows → row_name r ≡ n → x.image ≡ r
  unfolding shape_in
  unfold_row n hidden x r w i is = same_Some x.image r (sym x.found ∙ ap (tree_row m.rows) (sym is) ∙ tree_found m.rows r w.one_image i)

  pub leaf_linked : parent_name (leaf_vol.image).image ≡ Some (Vhd v)
  unfolding shape_in
  leaf_linked = ∥∥₁_elim h.orderly.well_formed (hlevel props) (λ w.
      let c = (child w).link in
      let y = In-map machine_row m.rows c.child c.there in
      let same = unfold_row (Vhd u) false leaf_vol y.0 w y.1 (sym (ap (λ (i : ImageRow). i.name) y.2) ∙ c.is_named ∙ leaf_is) in
      ap (λ (r : TreeRow). parent_name r.image) same ∙ sym (ap (λ (i : ImageRow). i.parent) y.2) ∙ c.linked ∙ ap Some parent_is)

  pub leaf_small : sector_count (leaf_vol.image).image ≤ s.geometry.entries * s.geometry.block
  unfolding shape_in
  leaf_small = ∥∥₁_elim h.orderly.well_formed (hlevel props) (λ w.
      let i = In-tree_row m.rows (Vhd u) leaf_vol.image leaf_vol.found in
      let z = (w.images (machine_row leaf_vol.image) (In-map_at machine_row m.rows leaf_vol.image i.0)).whole in
      omega (arith, z.1, mul-le-mul_right s.geometry.block z.3))

  -- it is the parent's only child
  pub only_child : (r : TreeRow) → In r m.rows → parent_name r.image ≡ Some (Vhd v) → row_name r ≡ Vhd u
  unfolding shape_in
  only_child r i is = ∥∥₁_elim h.orderly.well_formed (hlevel props) (λ w.
      (child w).only (machine_row r) (In-map_at machine_row m.rows r i) (is ∙ ap Some (sym parent_is)) ∙ leaf_is)

  -- the parent of an image of memory has neither UUID, but where it is the leaf's
  pub parent_other : (r : TreeRow) (n : Name) → In r m.rows → parent_name r.image ≡ Some n → row_name r ≢ Vhd u → is_apart (swapped u v) n ≡ true
  unfolding shape_in
  parent_other r n i is other = ∥∥₁_elim h.orderly.well_formed (hlevel props) (λ w.
      let g = w.parents (machine_row r) n (In-map_at machine_row m.rows r i) is in
      let named = (w.images g.parent g.there).named in
      let leaf_at = In-tree_row m.rows (Vhd u) leaf_vol.image leaf_vol.found in
      let base_at = In-tree_row m.rows (Vhd v) parent_vol.image parent_vol.found in
      let key = λ (x : TreeRow) (j : In x m.rows) (e : image_uuid g.parent.name ≡ image_uuid (row_name x)).
      Distinct-key (λ (y : ImageRow). image_uuid y.name) (map machine_row m.rows) g.parent (machine_row x) w.one_image g.there (In-map_at machine_row m.rows x j) e in
      let not_leaf : u ≢ image_uuid g.parent.name = λ e. true≢false (sym g.is_hidden ∙ ap (λ (y : ImageRow). y.hidden) (key leaf_vol.image leaf_at.0 (sym e ∙ vhd_uuid u
      ∙ ap image_uuid (sym leaf_at.1))) ∙ leaf_vol.image_shown) in
      let not_base : v ≢ image_uuid g.parent.name = λ e. other (only_child r i (is ∙ ap Some (sym g.is_named
      ∙ ap (λ (y : ImageRow). y.name) (key parent_vol.image base_at.0 (sym e ∙ vhd_uuid v ∙ ap image_uuid (sym base_at.1))) ∙ base_at.1))) in
      subst (λ x. is_apart (swapped u v) x ≡ true) g.is_named (apart_image (swapped u v) g.parent.name named (ap₂ (λ x y. x || (y || false)) (bytes_eq-apart u (image_uuid g.parent.name) not_leaf)
      (bytes_eq-apart v (image_uuid g.parent.name) not_base))))

  -- ---- names apart

  pub apart : v ≢ u
  apart same =
      let both : leaf_vol.row ≡ parent_vol.row = same_Some leaf_vol.row parent_vol.row (sym leaf_vol.there ∙ ap (λ x. rows t (Vhd x)) (sym same) ∙ parent_vol.there) in
      true≢false (sym parent_vol.shown ∙ ap (λ (r : Row). r.hidden) (sym both) ∙ leaf_vol.shown)

  pub leaf_proper : IsName (Vhd u)
  leaf_proper = subst IsName (row_of-name t.volumes (Vhd u) leaf_vol.row leaf_vol.there) (All-row_of IsVolume t.volumes (Vhd u) leaf_vol.row h.orderly.table.volumes.each leaf_vol.there).name

  pub old_proper : IsName (Old u)
  unfolding IsName
  old_proper = leaf_proper

  -- ---- no other volume has one of the UUIDs

  pub none_old : (x : List ℕ) → rows t (Old x) ≡ None
  none_old x = no_old s t m x h.orderly

  none_raw : (n : Name) (hidden : Bool) (x : List ℕ) → n ≡ Vhd x → IsHeld t m n hidden → rows t (Raw x) ≡ None
  unfolding shape_in image_uuid
  none_raw n hidden x is vhd = by (rows t (Raw x)) refl
    where
      by : (y : Option Row) → rows t (Raw x) ≡ y → rows t (Raw x) ≡ None
      by None none = none
      by (Some r) at =
          let w = rowed s t m (Raw x) r h.orderly refl at (h.tidy.none_new r (row_of-In t.volumes (Raw x) r at).0) in
          let i = In-tree_row m.rows n vhd.image vhd.found in
          absurd (∥∥₁_elim h.orderly.well_formed (hlevel props) (λ f.
          let same : machine_row w.row ≡ machine_row vhd.image = Distinct-key (λ (j : ImageRow). image_uuid j.name) (map machine_row m.rows) (machine_row w.row) (machine_row vhd.image) f.one_image
          (In-map_at machine_row m.rows w.row w.there) (In-map_at machine_row m.rows vhd.image i.0) (ap image_uuid w.named ∙ sym (ap image_uuid (i.1 ∙ is))) in
          let names : Raw x ≡ Vhd x = sym w.named ∙ ap (λ (j : ImageRow). j.name) same ∙ i.1 ∙ is in
          (let z = names in cc)))

  pub no_raw_leaf : rows t (Raw u) ≡ None
  no_raw_leaf = none_raw (Vhd u) false u refl leaf_vol

  pub no_raw_parent : rows t (Raw v) ≡ None
  no_raw_parent = none_raw (Vhd v) true v refl parent_vol

  -- ---- the entry

  pub entry_alone : names_in t is_entry ≡ Leaf u v ∷ []
  entry_alone = h.orderly.entries ∙ ap entry_of h.is ∙ entry_is h.attached l p cursor []
