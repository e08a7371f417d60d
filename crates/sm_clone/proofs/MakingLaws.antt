-- What a fork knows where it goes, from the first commit to the last: each step is allowed, and the images in memory are those that it makes.
use Rattle.std.proofs.Common.{◌≡◌, ◌≢◌, ⊎_elim, suc, ℕ, ◌+◌, ◌-◌, ◌*◌, ◌/◌, ◌^◌, ◌<◌, ◌≤◌, Bool, true, false, cond, not, List, [], ◌∷◌, map, length, replicate, Option, Some, None, refl, sym, ap, ap₂, ◌∙◌, subst, subst₂, arith}
use Rattle.std.proofs.Math.Logic.{∥∥₁_elim}
use Rattle.std.proofs.Math.Nat.{mul-div_cancel}
use Rattle.std.proofs.Props.{props}
use Rattle.std.specs.Prelude.{IsTrue}
use Rattle.std.proofs.lemmas.Bool.{true≢false}
use Rattle.common_laws.specs.Lists.{Distinct, In}
use Rattle.common_laws.proofs.Lists.{In-map_at, length-insert_by}
use Rattle.sm_base.specs.Kinds.{is_image}
use Rattle.sm_base.specs.Names.{IsName, IsUuid, base_uuid}
use Rattle.sm_base.specs.Numbers.{div_up, first, thick, thin}
use Rattle.sm_base.specs.declared.names.Name.{Name}
use Rattle.sm_base.specs.declared.names.Name.TheVariants as name
use Rattle.sm_base.proofs.NumberLemmas.{le-div_up}
use Rattle.vg_meta.specs.Tables.{Row, VolumeTable, extents_of, rows}
use Rattle.vg_meta.proofs.NameLaws.{name_eq-true}
use Rattle.vg_volumes.specs.Sites.{Site, size_of}
use Rattle.vg_volumes.specs.Stored.{Stays, stored}
use Rattle.vg_volumes.specs.declared.stores.Store.{Ghosts}
use Rattle.vhd_volumes.specs.Truth.{HasRoomFor, HasRoomIn}
use Rattle.vhd_fields.specs.ParentNames.{IsParent, is_image as is_parent}
use Rattle.vhd_image.specs.Bodies.{sector_count}
use Rattle.vhd_image.specs.Made.{IsDiskSize, IsParentImage}
use Rattle.vhd_image.specs.declared.images.Body.{Body}
use Rattle.vhd_image.specs.declared.images.Body.TheVariants.{Vhd}
use Rattle.vhd_chain.specs.Trees.{Tree, has_name, is_before, row_name, tree_row, with_row, without}
use Rattle.vhd_chain.specs.declared.rows.TreeRow.{TreeRow}
use Rattle.vhd_chain.proofs.OrderLaws.{others_of, without_none}
use Rattle.vhd_chain.proofs.ByName.{tree_row-without_other, tree_row-without_same}
use Rattle.sm_machine.specs.Refusals.{wanted}
use Rattle.sm_machine.specs.Shapes.{ImageRow, Shape, attached_as, image_limit, image_uuid, is_rw, renamed, thin_in}
use Rattle.sm_machine.specs.WellFormed.{is_image_name}
use Rattle.sm_mgt.specs.Places.{HasAllPlaces, place_count}
use Rattle.sm_record.specs.declared.records.Record.{Record}
use Rattle.sm_ready.specs.Known.{known, machine_row, shape_in}
use Rattle.sm_ready.specs.Runs.{AllMay}
use Rattle.sm_ready.specs.declared.memory.Memory.{Memory}
use Rattle.sm_ready.proofs.CauseLaws.{vhd_uuid}
use Rattle.sm_ready.proofs.ChainLaws.{tab}
use Rattle.sm_ready.proofs.LeftLaws.{mgt_long}
use Rattle.sm_ready.proofs.Orders.{In-tree_row}
use Rattle.sm_ready.proofs.RemoveLaws.{name_or_not}
use Rattle.sm_calls.specs.Calls.{CanRun, DoesRun, commits}
use Rattle.sm_clone.specs.Forking.{CanFork, HasUseRoom, base_body, base_name, base_row, child_head, child_row, first_changes, fork_of, forked_rows, last_changes, own_name, own_uid, sectors_of, table_begun, twin_uid}
use Rattle.sm_clone.specs.declared.forks.Fork.{Fork}
use Rattle.sm_clone.specs.declared.preparing.Parts.{Parts}
use Rattle.sm_clone.proofs.ForkRows.{vhd_named}
use Rattle.sm_clone.proofs.PassedLaws.{few, found, makes_two, need_is, new}
use Rattle.sm_clone.proofs.ShapeLaws.{named_in, sized_in}
use Rattle.sm_clone.proofs.StageLaws.{IsToFork}
use Rattle.sm_clone.proofs.TableLaws as tables
use Rattle.sm_clone.proofs.UseLaws as uses

-- an image of some slots has room for one without
room_more : (extent front wide more : ℕ) → 0 < extent → front + 0 * wide + 1 ≤ div_up (front + more + 1) extent * extent
room_more extent front wide more some = omega (arith, le-div_up (front + more + 1) extent some)

-- an image under another UUID may be a parent
base_parent : (n : Name) (v : List ℕ) → is_image_name n ≡ true → IsTrue (is_parent (renamed n v))
unfolding is_image_name renamed
base_parent (name.Vhd u) v e = refl
base_parent (name.Raw u) v e = refl
base_parent _ v e = cc

-- at most one row has a name
one_fewer : (rs : List TreeRow) (x : Name) → Distinct (map (λ i. image_uuid i.name) (map machine_row rs)) → length rs ≤ length (without x rs) + 1
one_fewer [] x differ = omega arith
one_fewer (r ∷ rs) x differ = by (has_name x r) refl (one_fewer rs x differ.1)
  where
    none : has_name x r ≡ true → tree_row rs x ≡ None
    none is = of (tree_row rs x) refl
      where
        of : (o : Option TreeRow) → tree_row rs x ≡ o → o ≡ None
        of None at = refl
        of (Some q) at = let w = In-tree_row rs x q at in absurd (differ.0 (subst (λ v. In v (map (λ y. image_uuid y.name) (map machine_row rs))) (ap image_uuid (w.1 ∙ sym (name_eq-true (row_name r) x is)))
            (In-map_at (λ (y : ImageRow). image_uuid y.name) (map machine_row rs) (machine_row q) (In-map_at machine_row rs q w.0))))

    by : (b : Bool) → has_name x r ≡ b → length rs ≤ length (without x rs) + 1 → suc (length rs) ≤ length (cond (not b) (r ∷ without x rs) (without x rs)) + 1
    by true is more = let all = ap (λ (qs : List TreeRow). length qs) (without_none rs x (others_of rs x (none is))) in omega (arith, all)
    by false is more = omega (arith, more)

module _ {S : Type 0} {g : Ghosts S} {a : S} {m : Memory} {f : Fork} {p : Parts} {entry : Record} (can : CanFork g a m f p entry) where
  abbrev s : Site
  s = g.site a

  abbrev t : VolumeTable
  t = tab g a

  abbrev σ : Shape
  σ = shape_in s t (known m)

  abbrev own : List ℕ
  own = p.own.items

  abbrev twins : List ℕ
  twins = p.twins.items

  -- the fork as the table and memory give it
  abbrev pub fork_now : Fork
  fork_now = fork_of can.allowed.number m.tree.rows f.disk f.twin

  pub twin_uuid : IsUuid f.twin
  twin_uuid = subst IsUuid (ap (λ (r : Record). r.uuid) can.entry_is) can.proper.uuid.uuid

  abbrev sectors : ℕ
  sectors = sectors_of (tree_row m.tree.rows f.own)

  pub to_fork : IsToFork s.count t fork_now.own (base_name fork_now) (name.Vhd f.disk) (name.Vhd f.twin) (name.Clone f.disk (base_uuid can.allowed.number) f.twin) own twins
  to_fork = tables.to_fork s t (known m) f.disk f.twin entry.read_only can.session.orderly can.session.tidy can.allowed sectors own twins can.extents twin_uuid

  pub can_begin : CanRun g (commits (first_changes f own twins)) a
  can_begin = record {
    usable = can.session.usable;
    allowed = subst (λ x. AllMay s.count t (first_changes x own twins)) (sym can.fork) (tables.can_begin s t (known m) f.disk f.twin entry.read_only can.session.orderly can.session.tidy can.allowed sectors own twins can.extents twin_uuid);
    room = (omega (arith, can.rows), (tt, (tt, (omega (arith, can.rows), (omega (arith, can.rows), tt)))));
  }

  -- ---- the disk's image

  own_is : f.own ≡ own_name m.tree.rows f.disk
  own_is = ap (λ (x : Fork). x.own) can.fork

  pub found_not : tree_row m.tree.rows f.own ≡ None → ⊥
  found_not none = (let x = sym none ∙ ap (tree_row m.tree.rows) own_is ∙ found s t (known m) f.disk f.twin entry.read_only can.session.orderly can.session.tidy can.allowed in cc)

  own_image : is_image_name fork_now.own ≡ true
  own_image = tables.own_image s t (known m) f.disk f.twin entry.read_only can.session.orderly can.session.tidy can.allowed sectors own twins can.extents twin_uuid

  module _ (r : TreeRow) (at : tree_row m.tree.rows f.own ≡ Some r) where
    there : In r m.tree.rows
    there = (In-tree_row m.tree.rows f.own r at).0

    pub size_is : IsDiskSize s.geometry (sector_count (base_body f r.image))
    unfolding shape_in
    size_is = subst (IsDiskSize s.geometry) (sym (sized_in (base_name f) r.image)) (record {
      whole = ∥∥₁_elim can.session.orderly.well_formed (hlevel props) (λ w. let z = (w.images (machine_row r) (In-map_at machine_row m.tree.rows r there)).whole in z.1 ∙ ap (λ n. n * s.geometry.block) (sym (blocks z.0 z.1)));
      least = ∥∥₁_elim can.session.orderly.well_formed (hlevel props) (λ w. let z = (w.images (machine_row r) (In-map_at machine_row m.tree.rows r there)).whole in omega (arith, blocks z.0 z.1, z.2));
      most = ∥∥₁_elim can.session.orderly.well_formed (hlevel props) (λ w. let z = (w.images (machine_row r) (In-map_at machine_row m.tree.rows r there)).whole in omega (arith, blocks z.0 z.1, z.3));
    })
      where
        blocks : (n : ℕ) → sector_count r.image ≡ n * s.geometry.block → sector_count r.image / s.geometry.block ≡ n
        blocks n is = ap (λ k. k / s.geometry.block) is ∙ mul-div_cancel n {n = s.geometry.block} (let least = s.geometry.in_range.block_least in omega (arith, least))

    pub base_named : row_name (base_row f r) ≡ base_name f
    base_named = named_in (base_name f) r.image

    base_proper : IsName (base_name f)
    base_proper = subst (λ x. IsName (base_name x)) (sym can.fork) to_fork.base_proper

    pub parent_is : IsParentImage (base_body f r.image)
    unfolding IsParent
    parent_is = subst (λ n. IsName n × IsTrue (is_parent n)) (sym base_named) (base_proper, subst (λ x. IsTrue (is_parent (base_name x))) (sym can.fork) (base_parent fork_now.own fork_now.base own_image))

  -- ---- how many extents

  many : length own + length twins < 2 ^ 32
  many =
      let first = can.extents.own_many ∙ ap (λ n. wanted σ (is_rw (attached_as f.disk σ)) (sectors_of (tree_row m.tree.rows n))) own_is in
      omega (arith, first, can.extents.twin_many, need_is s t (known m) f.disk f.twin entry.read_only can.session.orderly can.session.tidy can.allowed, few s t (known m) f.disk f.twin entry.read_only can.session.orderly can.session.tidy can.allowed)

  pub few_own : length own < 2 ^ 32
  few_own = omega (arith, many)

  pub few_twins : length twins < 2 ^ 32
  few_twins = omega (arith, many)

  pub apart : name.Vhd f.disk ≢ name.Vhd f.twin
  apart = to_fork.leaf_twin

  some_extent : 0 < s.geometry.extent
  some_extent = let least = s.geometry.in_range.extent_least in omega (arith, least)

  thin_room : (slots n : ℕ) → n ≡ thin_in σ slots → HasRoomFor s.geometry 0 (n * s.geometry.extent)
  unfolding shape_in thin
  thin_room slots n is = subst (λ k. HasRoomFor s.geometry 0 (k * s.geometry.extent)) (sym is) (room_more s.geometry.extent (first s.geometry.entries) (1 + s.geometry.block) (slots * (1 + s.geometry.block)) some_extent)

  wanted_room : (b : Bool) (k n : ℕ) → n ≡ wanted σ b k → HasRoomFor s.geometry 0 (n * s.geometry.extent)
  unfolding thick
  wanted_room true k n is = thin_room _ n is
  wanted_room false k n is = thin_room 0 n is

  -- ---- behind the first commits

  module _ {b : S} (begun : DoesRun g (commits (first_changes f own twins)) a b (Unit {0})) where
    table_is : tab g b ≡ table_begun t fork_now own twins
    table_is = begun.table tt ∙ ap (λ x. table_begun t x own twins) can.fork

    -- the number was raised five times
    pub number_is : (tab g b).sequence ≡ t.sequence + 5
    number_is = ap (λ (v : VolumeTable). v.sequence) table_is ∙ (tables.stage_5 s t (known m) f.disk f.twin entry.read_only can.session.orderly can.session.tidy can.allowed sectors own twins can.extents twin_uuid).number

    room_at : (n : Name) (r : Row) → rows (table_begun t fork_now own twins) n ≡ Some r → HasRoomFor s.geometry 0 (length r.extents * s.geometry.extent) → HasRoomIn (stored g b) n 0
    room_at n r there room = subst₂ (λ (z : Site) v. HasRoomFor z.geometry 0 (size_of z v n)) (sym begun.site) (sym table_is)
        (subst (λ o. HasRoomFor s.geometry 0 (length (extents_of o) * s.geometry.extent)) (sym there) room)

    pub own_room : HasRoomIn (stored g b) (name.Vhd f.disk) 0
    own_room = room_at (name.Vhd f.disk) _ (tables.stage_5 s t (known m) f.disk f.twin entry.read_only can.session.orderly can.session.tidy can.allowed sectors own twins can.extents twin_uuid).leaf
        (wanted_room (is_rw (attached_as f.disk σ)) sectors (length own) can.extents.own_many)

    pub twin_room : HasRoomIn (stored g b) (name.Vhd f.twin) 0
    twin_room = room_at (name.Vhd f.twin) _ (tables.stage_5 s t (known m) f.disk f.twin entry.read_only can.session.orderly can.session.tidy can.allowed sectors own twins can.extents twin_uuid).twin
        (thin_room 0 (length twins) can.extents.twin_many)

    pub places : HasAllPlaces g b
    places = subst₂ (λ (z : Site) v. place_count ≤ size_of z v name.Mgt) (sym begun.site) (sym table_is)
        (subst (λ o. place_count ≤ length (extents_of o) * s.geometry.extent) (sym mgt_same) (mgt_long s t (known m) can.session.orderly))
      where
        no_image : (n : Name) → is_image n ≡ true → name.Mgt ≢ n
        no_image n image is = true≢false (sym image ∙ ap is_image (sym is))

        mgt_same : rows (table_begun t fork_now own twins) name.Mgt ≡ rows t name.Mgt
        mgt_same = (tables.stage_5 s t (known m) f.disk f.twin entry.read_only can.session.orderly can.session.tidy can.allowed sectors own twins can.extents twin_uuid).others name.Mgt
            (no_image fork_now.own to_fork.own_image) (no_image (base_name fork_now) to_fork.base_image) (λ is. (let x = is in cc)) (λ is. (let x = is in cc)) (λ is. (let x = is in cc))

    -- and once the two images are written
    pub can_end : {d : S} → Stays g b d → CanRun g (commits (last_changes f)) d
    can_end {d} stays = record {
      usable = stays.failed ∙ begun.usable tt;
      allowed = subst₂ (λ (z : Site) v. AllMay z.count v (last_changes f)) (sym (stays.site ∙ begun.site)) (sym (stays.table ∙ table_is))
          (subst (λ x. AllMay s.count (table_begun t fork_now own twins) (last_changes x)) (sym can.fork)
          (tables.can_end s t (known m) f.disk f.twin entry.read_only can.session.orderly can.session.tidy can.allowed sectors own twins can.extents twin_uuid));
      room = (tt, (tt, (tt, tt)));
    }

  -- ---- memory

  pub use_room : image_limit ≤ m.attached.room → HasUseRoom f m.attached
  use_room room = subst (λ x. HasUseRoom x m.attached) (sym can.fork) (uses.use_room s t (known m) f.disk f.twin entry.read_only can.session.orderly can.session.tidy can.allowed room)

  pub names : IsName (base_name f) × IsName (name.Vhd f.disk) × IsName (name.Vhd f.twin)
  names = (subst (λ x. IsName (base_name x)) (sym can.fork) to_fork.base_proper, to_fork.leaf_proper, to_fork.twin_proper)

  pub names_apart : (base_name f ≢ name.Vhd f.disk) × (base_name f ≢ name.Vhd f.twin) × (name.Vhd f.disk ≢ name.Vhd f.twin)
  names_apart = (subst (λ x. base_name x ≢ name.Vhd f.disk) (sym can.fork) to_fork.base_leaf, subst (λ x. base_name x ≢ name.Vhd f.twin) (sym can.fork) to_fork.base_twin, to_fork.leaf_twin)

  base_away : tree_row (without fork_now.own m.tree.rows) (base_name fork_now) ≡ None
  base_away = ⊎_elim
      (λ is. ap (tree_row (without fork_now.own m.tree.rows)) (sym is) ∙ tree_row-without_same m.tree.rows fork_now.own)
      (λ other. tree_row-without_other m.tree.rows fork_now.own (base_name fork_now) other
      ∙ tables.no_base_in s t (known m) f.disk f.twin entry.read_only can.session.orderly can.session.tidy can.allowed sectors own twins can.extents twin_uuid)
      (name_or_not fork_now.own (base_name fork_now))

  pub no_base : tree_row (without f.own m.tree.rows) (base_name f) ≡ None
  no_base = subst (λ x. tree_row (without x.own m.tree.rows) (base_name x) ≡ None) (sym can.fork) base_away

  leaf_away : tree_row (without fork_now.own m.tree.rows) (name.Vhd f.disk) ≡ None
  leaf_away = ⊎_elim
      (λ is. ap (tree_row (without fork_now.own m.tree.rows)) (sym is) ∙ tree_row-without_same m.tree.rows fork_now.own)
      (λ other. tree_row-without_other m.tree.rows fork_now.own (name.Vhd f.disk) other
      ∙ tables.no_leaf_in s t (known m) f.disk f.twin entry.read_only can.session.orderly can.session.tidy can.allowed sectors own twins can.extents twin_uuid other)
      (name_or_not fork_now.own (name.Vhd f.disk))

  pub no_leaf : tree_row (without f.own m.tree.rows) (name.Vhd f.disk) ≡ None
  no_leaf = subst (λ n. tree_row (without n m.tree.rows) (name.Vhd f.disk) ≡ None) (sym own_is) leaf_away

  twin_away : tree_row (without fork_now.own m.tree.rows) (name.Vhd f.twin) ≡ None
  twin_away = ⊎_elim
      (λ is. ap (tree_row (without fork_now.own m.tree.rows)) (sym is) ∙ tree_row-without_same m.tree.rows fork_now.own)
      (λ other. tree_row-without_other m.tree.rows fork_now.own (name.Vhd f.twin) other
      ∙ tables.no_twin_row s t (known m) f.disk f.twin entry.read_only can.session.orderly can.session.tidy can.allowed sectors own twins can.extents twin_uuid (name.Vhd f.twin) (vhd_named f.twin) (vhd_uuid f.twin))
      (name_or_not fork_now.own (name.Vhd f.twin))

  pub no_twin : tree_row (without f.own m.tree.rows) (name.Vhd f.twin) ≡ None
  no_twin = subst (λ n. tree_row (without n m.tree.rows) (name.Vhd f.twin) ≡ None) (sym own_is) twin_away

  -- the three rows have room
  pub three_spare : (n : ℕ) → n ≡ m.tree.spare + 1 → image_limit ≤ length m.tree.rows + m.tree.spare → 3 ≤ n
  three_spare n is room =
      let more = (new s t (known m) f.disk f.twin entry.read_only can.session.orderly can.session.tidy can.allowed).few in
      omega (arith, is, room, more, makes_two f.disk f.twin entry.read_only)

  -- the tree keeps room for all images
  pub tree_room : (rest next : Tree) (x y z : TreeRow) → rest.rows ≡ without f.own m.tree.rows → rest.spare ≡ m.tree.spare + 1 → next.rows ≡ with_row x (with_row y (with_row z rest.rows)) → next.spare + 3 ≡ rest.spare
      → image_limit ≤ length m.tree.rows + m.tree.spare → image_limit ≤ length next.rows + next.spare
  unfolding shape_in
  tree_room rest next x y z less more rows spare room = ∥∥₁_elim can.session.orderly.well_formed (hlevel props) (λ w.
      let long = ap (λ (qs : List TreeRow). length qs) rows in
      let short = ap (λ (qs : List TreeRow). length qs) less in
      omega (
        arith,
        long,
        short,
        more,
        spare,
        room,
        one_fewer m.tree.rows f.own w.one_image,
        length-insert_by is_before x (with_row y (with_row z rest.rows)),
        length-insert_by is_before y (with_row z rest.rows),
        length-insert_by is_before z rest.rows,
      ))

  -- ---- the images in memory

  -- the row of an image over the base
  row_is : (u : List ℕ) (now n k i j : ℕ) (z : Site) (b c : Body) (image : Body) (row : TreeRow) → z ≡ s → n ≡ k → b ≡ c → i ≡ j → image ≡ Vhd (child_head z.geometry u now (base_uuid n) b) (replicate z.geometry.entries None)
      → row ≡ record { image = image; hidden = false; extents = i } → row ≡ child_row s.geometry u now (base_uuid k) c j
  row_is u now n k i j z b c image row site number body long is shown =
      shown ∙ ap (λ x. let y : TreeRow = record { image = x; hidden = false; extents = i } in y) is
      ∙ ap₂ (λ (v : Site) x. child_row v.geometry u now (base_uuid x) b i) site number ∙ ap₂ (λ x y. child_row s.geometry u now (base_uuid k) x y) body long

  pub images_are : (now n i j : ℕ) (z : Site) (r base own_row twin_row : TreeRow) (own_image twin_image : Body) (rest next : List TreeRow)
      → tree_row m.tree.rows f.own ≡ Some r → rest ≡ without f.own m.tree.rows → base ≡ base_row f r
      → z ≡ s → n ≡ t.sequence + 5 → i ≡ length own → j ≡ length twins
      → own_image ≡ Vhd (child_head z.geometry f.disk now (base_uuid (n - 1)) base.image) (replicate z.geometry.entries None)
      → twin_image ≡ Vhd (child_head z.geometry f.twin now (base_uuid n) base.image) (replicate z.geometry.entries None)
      → own_row ≡ record { image = own_image; hidden = false; extents = i } → twin_row ≡ record { image = twin_image; hidden = false; extents = j }
      → next ≡ with_row twin_row (with_row own_row (with_row base rest))
      → next ≡ forked_rows s t f now (length own) (length twins) (tree_row m.tree.rows f.own) m.tree.rows
  images_are now n i j z r base own_row twin_row own_image twin_image rest next at less based site number long more first second one two is =
      is
      ∙ ap₂ (λ x y. with_row x (with_row y (with_row base rest)))
      (row_is f.twin now n (t.sequence + 5) j (length twins) z base.image (base_body f r.image) twin_image twin_row site number (ap (λ (x : TreeRow). x.image) based) more second two)
      (row_is f.disk now (n - 1) (t.sequence + 4) i (length own) z base.image (base_body f r.image) own_image own_row site (omega (arith, number)) (ap (λ (x : TreeRow). x.image) based) long first one)
      ∙ ap₂ (λ x y. with_row (child_row s.geometry f.twin now (twin_uid t) (base_body f r.image) (length twins))
      (with_row (child_row s.geometry f.disk now (own_uid t) (base_body f r.image) (length own)) (with_row x y))) based less
      ∙ ap (λ o. forked_rows s t f now (length own) (length twins) o m.tree.rows) (sym at)
