-- The parent of a copy that is to begin gets its child's size, as a session tells it: what a store and memory are behind the footers.
use Rattle.std.proofs.Common.{◌≡◌, ◌≢◌, inr, ⊎_elim, ℕ, List, Some, refl, sym, ap, ap₂, ◌∙◌, subst, subst₂}
use Rattle.std.specs.Option.{IsSome}
use Rattle.std.proofs.lemmas.Option.{same_Some}
use Rattle.common_laws.specs.Lists.{In}
use Rattle.common_laws.proofs.Lists.{In-map}
use Rattle.sm_base.specs.declared.names.Name.{Name}
use Rattle.sm_base.specs.declared.names.Name.TheVariants.{Vhd}
use Rattle.vg_meta.specs.Tables.{VolumeTable}
use Rattle.vg_volumes.specs.Sites.{Site}
use Rattle.vg_volumes.specs.Stored.{WorksOn, sectors_in, stored}
use Rattle.vg_volumes.specs.declared.stores.Store.{Ghosts}
use Rattle.vhd_volumes.specs.Steps.{Holds}
use Rattle.vhd_volumes.specs.Truth.{layout_now}
use Rattle.vhd_image.specs.Bodies.{IfVhdDoes, TrueIn}
use Rattle.vhd_image.specs.Changes.{ChangesBy, IsResized, resized}
use Rattle.vhd_image.specs.declared.images.Body.{Body}
use Rattle.vhd_chain.specs.Trees.{row_name, tree_row, with_replaced}
use Rattle.vhd_chain.specs.declared.rows.TreeRow.{TreeRow}
use Rattle.sm_machine.specs.Laws.{MayGrow}
use Rattle.sm_machine.specs.Shapes.{ImageRow, Shape, image_uuid, is_vhd, on_image}
use Rattle.sm_standing.specs.Standing.{disks}
use Rattle.sm_ready.specs.Done.{at_rest}
use Rattle.sm_ready.specs.Known.{Known, known, machine_row, shape_in}
use Rattle.sm_ready.specs.Orderly.{IsOrderly}
use Rattle.sm_ready.specs.Ready.{IsReady}
use Rattle.sm_ready.specs.Stores.{StoreLeaves, content_now, store_content}
use Rattle.sm_ready.specs.declared.memory.Memory.{Memory}
use Rattle.sm_ready.proofs.ChainLaws.{tab}
use Rattle.sm_ready.proofs.CommitLaws.{ready_safe}
use Rattle.sm_ready.proofs.KeptLaws.{vhd_named}
use Rattle.sm_ready.proofs.LogLaws.{logged_left}
use Rattle.sm_ready.proofs.LogStores.{logs_told}
use Rattle.sm_ready.proofs.Orders.{In-tree_row}
use Rattle.sm_ready.proofs.RepairLaws.{ready_synced}
use Rattle.sm_ready.proofs.RestLaws.{keeps_rest}
use Rattle.sm_ready.proofs.TakenLaws.{IsTold}
use Rattle.sm_ready.proofs.TruthLaws.{row_found}
use Rattle.sm_disk.specs.Held.{reads}
use Rattle.sm_ready.proofs.GrownStores.{grows, steady_sized}
use Rattle.sm_ready.proofs.SizedRows.{sized}
use Rattle.gc_coalesce.specs.Beginning.{CanEnter, LeavesStill, raised, sectors_of}
use Rattle.gc_coalesce.proofs.BeginLeft.{Raises, disks_now, leaves_still, ready_raised}
use Rattle.gc_coalesce.proofs.BeginRaise.{IsToRaise, shape_raised}
use Rattle.gc_coalesce.proofs.BeginShapes.{may_grow, parent_hidden, raised_same, size_is}

-- ---- the two images in memory

-- an image of the shape is that of a row
pub record IsRowOf (m : Known) (i : ImageRow) : Type 0 where
  pub row : TreeRow
  pub there : In row m.rows
  pub is : i ≡ machine_row row
  pub found : tree_row m.rows i.name ≡ Some row

pub row_of : (s : Site) (t : VolumeTable) (m : Known) (i : ImageRow) → IsOrderly s t m → In i (shape_in s t m).images → IsRowOf m i
unfolding shape_in
row_of s t m i o there =
    let y = In-map machine_row m.rows i there in
    record { row = y.0; there = y.1; is = y.2; found = ap (λ (x : ImageRow). tree_row m.rows x.name) y.2 ∙ row_found s t m o y.0 y.1 }

module _ (s : Site) (t : VolumeTable) (m : Known) (v p : Name) (o : IsOrderly s t m) (h : CanEnter (shape_in s t m) v p) where
  pub child_row : IsRowOf m h.child
  child_row = row_of s t m h.child o h.child_there

  pub parent_row : IsRowOf m h.parent
  parent_row = row_of s t m h.parent o h.parent_there

  pub child_found : tree_row m.rows v ≡ Some child_row.row
  child_found = ap (tree_row m.rows) (sym h.child_named) ∙ child_row.found

  pub parent_found : tree_row m.rows p ≡ Some parent_row.row
  parent_found = ap (tree_row m.rows) (sym h.parent_named) ∙ parent_row.found

  pub child_some : IsSome (tree_row m.rows v)
  child_some = subst IsSome (sym child_found) refl

  pub parent_some : IsSome (tree_row m.rows p)
  parent_some = subst IsSome (sym parent_found) refl

  pub child_sectors : sectors_of (tree_row m.rows v) ≡ h.child.size
  child_sectors = ap sectors_of child_found ∙ sym (ap (λ (i : ImageRow). i.size) child_row.is)

  pub parent_sectors : sectors_of (tree_row m.rows p) ≡ h.parent.size
  parent_sectors = ap sectors_of parent_found ∙ sym (ap (λ (i : ImageRow). i.size) parent_row.is)

  -- where the sizes are equal, the shape has the parent's new size already
  pub none_raised : sectors_of (tree_row m.rows p) ≡ sectors_of (tree_row m.rows v) → raised v p (shape_in s t m) ≡ shape_in s t m
  none_raised same = raised_same (shape_in s t m) v p o.well_formed h (sym parent_sectors ∙ same ∙ child_sectors)

  -- the parent is a VHD image where it is to grow
  pub vhd_parent : sectors_of (tree_row m.rows p) ≢ sectors_of (tree_row m.rows v) → p ≡ Vhd (image_uuid p)
  vhd_parent differs = vhd_named p (⊎_elim (λ is. is) (λ same. absurd (differs (parent_sectors ∙ same ∙ sym child_sectors))) h.kind)

  module _ (r : TreeRow) (taken : tree_row m.rows p ≡ Some r) where
    row_is : h.parent ≡ machine_row r
    row_is = parent_row.is ∙ ap machine_row (same_Some parent_row.row r (sym parent_found ∙ taken))

    pub to_raise : (k : ℕ) → k ≡ sectors_of (tree_row m.rows v) → sectors_of (tree_row m.rows p) ≢ k → IsToRaise s t m (image_uuid p) k r
    unfolding shape_in is_vhd
    to_raise k is differs =
        let vhd = vhd_parent (λ same. differs (same ∙ sym is)) in
        let size : h.child.size ≡ k = sym child_sectors ∙ sym is in
        record {
          orderly = o;
          there = (In-tree_row m.rows p r taken).0;
          named = (In-tree_row m.rows p r taken).1 ∙ vhd;
          hidden = sym (ap (λ (i : ImageRow). i.hidden) row_is) ∙ parent_hidden (shape_in s t m) v p o.well_formed h;
          may = λ w. subst₂ (MayGrow (shape_in s t m)) row_is size (may_grow (shape_in s t m) v p o.well_formed h w (ap is_vhd vhd));
          idle = h.idle;
        }

    -- the shape with it
    pub raised_is : (k : ℕ) → k ≡ sectors_of (tree_row m.rows v) → sectors_of (tree_row m.rows p) ≢ k → shape_in s t (record m { rows = with_replaced (sized k r) m.rows }) ≡ raised v p (shape_in s t m)
    raised_is k is differs =
        shape_raised (to_raise k is differs)
        ∙ ap₂ (λ (n : Name) (j : ℕ). let x : Shape = record (shape_in s t m) { images = on_image n (λ i. record i { size = j }) (shape_in s t m).images } in x)
        (sym (vhd_parent (λ same. differs (same ∙ sym is)))) (is ∙ child_sectors ∙ sym (size_is (shape_in s t m) v p o.well_formed h))

-- where nothing is written, a stop leaves the disks from before, and memory is ready once nothing is pending
pub safe_ready : {S : Type 0} {g : Ghosts S} {a : S} {m : Memory} → IsTold g a m → LeavesStill (g.site a) (tab g a) (g.area a) (StoreLeaves g a) (disks (store_content g a)) (known m).logs × IsReady (g.site a) (tab g a) (at_rest (reads (g.area a))) (known m)
safe_ready {g = g} {a} {m} i =
    let safe = ready_safe (g.site a) (tab g a) (g.area a) (known m) (StoreLeaves g a) i.orderly i.ready (λ image is. inr (i.told, i.usable, is)) in (
      record {
        kept = safe.kept;
        shown = safe.shown;
        still = λ image left. record { table = tab g a; image = image; left = inr (i.told, i.usable, record { table_is = refl; sectors = left }); shown = refl };
        logged = logged_left (logs_told i) i.orderly.table;
      },
      ready_synced (g.site a) (tab g a) (g.area a) (at_rest (reads (g.area a))) (known m) i.ready (keeps_rest (g.area a)) (λ p. refl),
    )

-- ---- behind the footers

module _ {S : Type 0} (g : Ghosts S) (a b : S) (m : Memory) (u : List ℕ) (size : ℕ) (r : TreeRow) (h : IsToRaise (g.site a) (tab g a) (known m) u size r) (works : WorksOn g (row_name r) a b) where
  abbrev s : Site
  s = g.site a

  abbrev t : VolumeTable
  t = tab g a

  -- ---- what is told

  module _ (i : IsTold g a m) (changes : IfVhdDoes g r.image (λ head slots. ChangesBy (layout_now (stored g a) head) (IsResized (layout_now (stored g a) head) size)) a b) where
    raises : Raises s t (known m) (g.area a) (g.area b) u size r
    raises = record { to_raise = h; ready = i.ready; keeps = works.elsewhere i.told; grows = grows g a b m size r h.orderly h.there works u h.named i changes }

    -- whatever a stop leaves shows the disks from before
    pub raise_safe : LeavesStill (g.site a) (tab g a) (g.area b) (StoreLeaves g a) (disks (store_content g a)) (known m).logs
    raise_safe = leaves_still raises (StoreLeaves g a) (λ other is. inr (i.told, i.usable, record { table_is = refl; sectors = is }))

    -- and so does a read, and memory is ready with the new size once nothing is pending
    pub raise_ready : (new : Body) → new ≡ resized size r.image → Holds g (row_name r) (λ x. TrueIn (g.site a).geometry (sectors_in (stored g a) (row_name r)) x new) b
        → IsReady (g.site a) (tab g a) (at_rest (reads (g.area b))) (record (known m) { rows = with_replaced (sized size r) m.tree.rows })
        × (disks (content_now (g.site a) (tab g a) (g.area b)) ≡ disks (store_content g a))
    raise_ready new is truth = (
      ready_raised raises (steady_sized g a b m size r h.orderly h.there works u h.named i changes (at_rest (reads (g.area b))) (keeps_rest (g.area b)) (λ p. refl) new is truth),
      disks_now raises,
    )
