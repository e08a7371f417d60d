-- The images in memory where a swap goes: the leaf's row and the parent's are there, the tree keeps its room, and each image is true.
use Rattle.std.proofs.Common.{◌≡◌, inl, inr, ⊎_elim, ℕ, suc, ◌+◌, ◌<◌, ◌≤◌, not, Bool, true, false, cond, List, [], ◌∷◌, length, map, refl, sym, ap, ap₂, ◌∙◌, subst, subst₂, arith}
use Rattle.std.proofs.Math.Logic.{∥∥₁_elim}
use Rattle.std.proofs.Props.{props}
use Rattle.std.specs.Option.{IsSome}
use Rattle.common_laws.specs.Lists.{Distinct, In}
use Rattle.common_laws.proofs.Lists.{Distinct-filter, In-map_at, filter-In, length-insert_by}
use Rattle.sm_base.specs.Names.{IsName}
use Rattle.sm_base.specs.declared.names.Name.{Name}
use Rattle.sm_machine.specs.Operations.{Idle}
use Rattle.sm_base.specs.declared.sizes.Geometry.{Geometry}
use Rattle.sm_disk.specs.Held.{Held, Keeps}
use Rattle.vg_volumes.proofs.VolumeLaws.{Keeps-volume}
use Rattle.vg_meta.specs.Tables.{VolumeTable, extents_of, rows}
use Rattle.vg_meta.proofs.NameLaws.{name_eq-other, name_eq-same, name_eq-true}
use Rattle.vg_volumes.specs.Sites.{Site}
use Rattle.vg_volumes.specs.Stored.{stored}
use Rattle.vg_volumes.specs.Volumes.{span, volume}
use Rattle.vg_volumes.specs.declared.stores.Store.{Ghosts}
use Rattle.vhd_image.specs.Bodies.{ImageIsTrue, TrueIn, in_volume}
use Rattle.vhd_image.specs.declared.images.Body.{Body}
use Rattle.vhd_image.specs.declared.images.Body.TheVariants as body
use Rattle.vhd_chain.specs.Trees.{Tree, has_name, is_before, row_name, tree_row, without}
use Rattle.vhd_chain.specs.declared.rows.TreeRow.{TreeRow}
use Rattle.sm_machine.specs.Shapes.{image_uuid}
use Rattle.sm_machine.proofs.Changes.{filter_less}
use Rattle.sm_refs.specs.Attached.{Attached}
use Rattle.sm_ready.specs.Frames.{HasTrueImages}
use Rattle.sm_ready.specs.Known.{known, machine_row, shape_in}
use Rattle.sm_ready.specs.Sessions.{HasTreeRoom}
use Rattle.sm_ready.specs.declared.memory.Memory.{Memory}
use Rattle.sm_ready.proofs.ChainLaws.{tab}
use Rattle.sm_ready.proofs.FrameLaws.{KeepsVolume, true_turned}
use Rattle.sm_ready.proofs.Orders.{In-tree_row}
use Rattle.sm_ready.proofs.RestLaws.{true_keeps}
use Rattle.sm_calls.specs.Calls.{DoesRun, commits}
use Rattle.gc_leaf.specs.Swapping.{CanFold, swap_changes, swapped_rows}
use Rattle.gc_leaf.proofs.SwapEnds.{folded_extents, other_extents, parent_at}
use Rattle.gc_leaf.proofs.SwapMemory.{folded, in_then, leaf_found, others, parent_found, parent_leaf, parent_row, rows_then}
use Rattle.gc_leaf.proofs.SwapPair.{leaf_is, leaf_proper, leaf_vol}
use Rattle.gc_leaf.proofs.SwapSteps.{IsToSwap}

-- ---- at most one row has a name

abbrev key : TreeRow → List ℕ
key r = image_uuid (row_name r)

keys_as : (rs : List TreeRow) → map (λ i. image_uuid i.name) (map machine_row rs) ≡ map key rs
keys_as [] = refl
keys_as (r ∷ rs) = ap (λ us. key r ∷ us) (keys_as rs)

one_fewer : (rs : List TreeRow) (x : Name) → Distinct (map key rs) → length rs ≤ length (without x rs) + 1
one_fewer [] x differ = omega arith
one_fewer (r ∷ rs) x differ = by (has_name x r) refl (one_fewer rs x differ.1)
  where
    away : has_name x r ≡ true → (q : TreeRow) → In q rs → has_name x q ≡ false
    away is q i = name_eq-other (row_name q) x (λ same. differ.0 (subst (λ v. In v (map key rs)) (ap image_uuid (same ∙ sym (name_eq-true (row_name r) x is))) (In-map_at key rs q i)))

    others_stay : (qs : List TreeRow) → ((q : TreeRow) → In q qs → has_name x q ≡ false) → length qs ≤ length (without x qs)
    others_stay [] none = omega arith
    others_stay (q ∷ qs) none =
        let rest = others_stay qs (λ y i. none y (inr i)) in
        omega (arith, rest, ap (λ b. length (cond (not b) (q ∷ without x qs) (without x qs))) (none q (inl refl)))

    by : (b : Bool) → has_name x r ≡ b → length rs ≤ length (without x rs) + 1 → suc (length rs) ≤ length (cond (not b) (r ∷ without x rs) (without x rs)) + 1
    by true is more = omega (arith, others_stay rs (away is))
    by false is more = omega (arith, more)

-- an image is as true of a volume under another name
true_under : (g : Geometry) (n : ℕ) (h : Held) (to : Name) (b : Body) → TrueIn g n h b → TrueIn g n h (in_volume to b)
true_under g n h to (body.Raw volume size) was = tt
true_under g n h to (body.Vhd head m) was = record { now = was.now; valid = was.valid; within = was.within }

module _ {s : Site} {t : VolumeTable} (m : Memory) {l p : Name} {cursor : ℕ} (h : IsToSwap s t (known m) l p cursor) where
  pub can_fold : CanFold m.tree l p
  can_fold = record {
    leaf_there = subst IsSome (sym (leaf_found h)) refl;
    parent_there = subst IsSome (sym (parent_found h)) refl;
    apart = parent_leaf h;
    named = subst IsName (sym (leaf_is h)) (leaf_proper h);
  }

  rows_is : swapped_rows l (tree_row m.tree.rows p) p m.tree.rows ≡ rows_then h
  rows_is = ap (λ o. swapped_rows l o p m.tree.rows) (parent_found h)

  pub tree_room_then : (tree : Tree) → tree.rows ≡ swapped_rows l (tree_row m.tree.rows p) p m.tree.rows → tree.spare ≡ m.tree.spare + 1 → HasTreeRoom m
      → (att : Attached) → HasTreeRoom (record m { tree = tree; attached = att; operation = Idle })
  unfolding shape_in
  tree_room_then tree is spare room att = ∥∥₁_elim h.orderly.well_formed (hlevel props) (λ w.
      let differ : Distinct (map key m.tree.rows) = subst Distinct (keys_as m.tree.rows) w.one_image in
      let long = ap (λ (rs : List TreeRow). length rs) (is ∙ rows_is) in
      omega (
        arith,
        long,
        length-insert_by is_before (folded h) (others h),
        spare,
        room,
        one_fewer m.tree.rows l differ,
        one_fewer (without l m.tree.rows) p (Distinct-filter key (λ r. not (has_name l r)) m.tree.rows differ),
      ))

  -- there is one image less
  pub rows_less : (tree : Tree) → tree.rows ≡ swapped_rows l (tree_row m.tree.rows p) p m.tree.rows → length tree.rows < length m.tree.rows
  rows_less tree is =
      let leaf = In-tree_row m.tree.rows l (leaf_vol h).image (leaf_found h) in
      let base = In-tree_row m.tree.rows p (parent_row h) (parent_found h) in
      let kept : In (parent_row h) (without l m.tree.rows) =
      filter-In (λ r. not (has_name l r)) m.tree.rows (parent_row h) base.0 (ap not (name_eq-other (row_name (parent_row h)) l (λ e. parent_leaf h (sym base.1 ∙ e)))) in
      let one = filter_less (λ (r : TreeRow). not (has_name l r)) m.tree.rows (leaf_vol h).image leaf.0 (ap not (name_eq-same (row_name (leaf_vol h).image) l leaf.1)) in
      let two = filter_less (λ (r : TreeRow). not (has_name p r)) (without l m.tree.rows) (parent_row h) kept (ap not (name_eq-same (row_name (parent_row h)) p base.1)) in
      let long = ap (λ (rs : List TreeRow). length rs) (is ∙ rows_is) in
      omega (arith, one, two, long, length-insert_by is_before (folded h) (others h))

module _ {S : Type 0} (g : Ghosts S) (a b : S) (m : Memory) {l p : Name} {cursor : ℕ} (h : IsToSwap (g.site a) (tab g a) (known m) l p cursor)
    (run : DoesRun g (commits (swap_changes (image_uuid l) (image_uuid p))) a b (Unit {0})) where
  abbrev s : Site
  s = g.site a

  abbrev t : VolumeTable
  t = tab g a

  abbrev extent : ℕ
  extent = s.geometry.extent

  abbrev had : TreeRow → List ℕ
  had r = extents_of (rows t (row_name r))

  other_kept : g.told → (r : TreeRow) (i : In r m.tree.rows) → (row_name r ≡ l → ⊥) → (row_name r ≡ p → ⊥) → KeepsVolume g a b r
  other_kept told r i not_leaf not_parent =
      let at = ap (λ v. extents_of (rows v (row_name r))) (run.table tt) ∙ other_extents h r i not_leaf not_parent in
      record {
        size = ap₂ (λ (x : Site) (es : List ℕ). span x.geometry.extent es) run.site at;
        keeps = subst₂ (λ (x : Site) (es : List ℕ). Keeps (volume extent (had r) (g.area a)) (volume x.geometry.extent es (g.area b))) (sym run.site) (sym at)
            (Keeps-volume extent (had r) (run.keeps tt told));
      }

  folded_true : g.told → ImageIsTrue (stored g a) (parent_row h).image → ImageIsTrue (stored g b) (folded h).image
  folded_true told was =
      let at = ap (λ v. extents_of (rows v (row_name (folded h)))) (run.table tt) ∙ folded_extents h in
      let es = had (parent_row h) in
      subst₂ (λ (x : Site) (fs : List ℕ). TrueIn x.geometry (span x.geometry.extent fs) (volume x.geometry.extent fs (g.area b)) (folded h).image) (sym run.site) (sym at)
      (true_under s.geometry (span extent es) (volume extent es (g.area b)) l (parent_row h).image
      (true_keeps s.geometry (span extent es) (volume extent es (g.area a)) (volume extent es (g.area b)) (parent_row h).image (Keeps-volume extent es (run.keeps tt told)) was))

  pub true_end : (tree : Tree) → tree.rows ≡ swapped_rows l (tree_row m.tree.rows p) p m.tree.rows → (att : Attached) → HasTrueImages g a m → HasTrueImages g b (record m { tree = tree; attached = att; operation = Idle })
  true_end tree is att = true_turned g m (record m { tree = tree; attached = att; operation = Idle }) run.site (λ told each r i. ⊎_elim
      (λ same. inr (subst (λ (q : TreeRow). ImageIsTrue (stored g b) q.image) (sym same) (folded_true told (each (parent_row h) (parent_at h).0))))
      (λ w. inl (w.0, other_kept told r w.0 w.1 w.2)) (in_then h r (subst (In r) (is ∙ rows_is m h) i)))
