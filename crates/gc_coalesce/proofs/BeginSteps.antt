-- Where the collector's next step begins a copy, as a session tells it: the parent in memory, the extents that it is to gain, and what
-- is known once it has them.
use Rattle.std.proofs.Common.{◌≡◌, ℕ, ◌*◌, ◌<◌, ◌≤◌, max, true, false, List, Some, None, sym, ap, ap₂, ◌∙◌, subst, subst₂, arith}
use Rattle.std.proofs.lemmas.Option.{none-some, same_Some}
use Rattle.sm_base.specs.Numbers.{thick}
use Rattle.sm_base.specs.declared.names.Name.{Name}
use Rattle.sm_base.specs.declared.names.Name.TheVariants.{Vhd}
use Rattle.sm_machine.specs.Operations as op
use Rattle.sm_disk.specs.Held.{IsSettled}
use Rattle.vg_meta.specs.Tables.{VolumeTable}
use Rattle.vg_volumes.specs.Sites.{Site}
use Rattle.vg_volumes.specs.Stored.{IsChoiceOf, Leaves, OnlyReads, stored}
use Rattle.vg_volumes.specs.declared.stores.Store.{Ghosts}
use Rattle.vhd_image.specs.Bodies.{StandsIn, sector_count}
use Rattle.vhd_volumes.specs.Truth.{disk_sectors}
use Rattle.vhd_chain.specs.Reading.{slots_of}
use Rattle.vhd_chain.specs.Trees.{tree_row}
use Rattle.vhd_chain.specs.declared.rows.TreeRow.{TreeRow}
use Rattle.sm_machine.specs.Collector.{count_either, next_step}
use Rattle.sm_machine.specs.Disks.{Disk}
use Rattle.sm_machine.specs.Shapes.{ImageRow, Shape, image_uuid, on_image, risen, thin_in, top}
use Rattle.sm_machine.specs.Steps.{shape_next}
use Rattle.sm_machine.specs.WellFormed.{is_image_name}
use Rattle.sm_machine.specs.declared.commands.Command.TheVariants.{Gc}
use Rattle.sm_standing.specs.Standing.{disks}
use Rattle.sm_ready.specs.Does.{store_shape}
use Rattle.sm_ready.specs.Done.{HasDone}
use Rattle.sm_ready.specs.Known.{Known, known, shape_in}
use Rattle.sm_ready.specs.Orderly.{IsOrderly}
use Rattle.sm_ready.specs.Ready.{IsReady, IsTidy}
use Rattle.sm_ready.specs.Sessions.{IsOrderlyStore, IsReadyStore}
use Rattle.sm_ready.specs.Stores.{MayShow, StoreLeaves, content_in, content_now, store_content}
use Rattle.sm_ready.specs.declared.memory.Memory.{Memory}
use Rattle.sm_ready.proofs.ChainLaws.{might_show, tab}
use Rattle.sm_ready.proofs.CommitLaws.{law_settled}
use Rattle.sm_ready.proofs.KeptLaws.{vhd_named}
use Rattle.sm_ready.proofs.LeaveLaws.{left_choice}
use Rattle.sm_ready.proofs.Orders.{In-tree_row, named_row, vhd_row}
use Rattle.sm_ready.proofs.RepairLaws.{all_quiet}
use Rattle.sm_ready.proofs.SumLaws.{free_counted}
use Rattle.sm_ready.proofs.TakenLaws.{IsTold, is_told}
use Rattle.sm_ready.proofs.ThenLaws.{then_done}
use Rattle.sm_space.specs.Inflating.{HasFree, IsBelow, IsEnlarged, extents_in, inflated}
use Rattle.gc_coalesce.specs.Beginning.{CanBegin, IsWidened, KeepsExtents, begins, entered}
use Rattle.gc_coalesce.proofs.BeginExtents.{all_gained, extents_known, none_gained}
use Rattle.gc_coalesce.specs.declared.kinds.Kind.{Kind}
use Rattle.gc_coalesce.proofs.BeginRoom.{roomy_wide}
use Rattle.gc_coalesce.proofs.BeginShapes.{IsPlanned, IsRoomyThick, at_least, can_begin, can_begin_wide, entered_next, entered_next_wide, foldable, gains_free, grows_vhd, parent_smaller, planned}
use Rattle.gc_coalesce.proofs.BeginStores.{IsRowOf, row_of}

module _ (s : Site) (t : VolumeTable) (m : Known) (k : Kind) (v p : Name) (to : ℕ) (o : IsOrderly s t m) (next : next_step (shape_in s t m) ≡ begins k v p to) where
  abbrev σ : Shape
  σ = shape_in s t m

  h : IsPlanned (shape_in s t m) k v p to
  h = planned σ v p to k next

  parent : IsRowOf m h.pair.parent
  parent = row_of s t m h.pair.parent o (foldable σ k v p to o.well_formed h).parent_there

  found : tree_row m.rows p ≡ Some parent.row
  found = ap (tree_row m.rows) (sym h.parent) ∙ parent.found

  pub not_gone : tree_row m.rows p ≡ None → ⊥
  not_gone none = none-some parent.row (sym none ∙ found)

  pub idle : m.op ≡ op.Idle
  unfolding shape_in
  idle = h.idle

  child : IsRowOf m h.pair.child
  child = row_of s t m h.pair.child o (foldable σ k v p to o.well_formed h).child_there

  -- a parent that gets extents for all blocks of its child has them for the blocks of both
  roomy_thick : IsRoomyThick (shape_in s t m) k v p to o.well_formed h
  unfolding shape_in
  roomy_thick vhd all =
      let f = foldable σ k v p to o.well_formed h in
      let i = vhd_row s t m child.row (image_uuid h.pair.child.name) o child.there (sym (ap (λ (x : ImageRow). x.name) child.is) ∙ vhd_named h.pair.child.name f.vhd) in
      let q = vhd_row s t m parent.row (image_uuid h.pair.parent.name) o parent.there (sym (ap (λ (x : ImageRow). x.name) parent.is) ∙ vhd_named h.pair.parent.name vhd) in
      let i_stands = subst (λ x. StandsIn s.geometry (child.row.extents * s.geometry.extent) x) i.is (o.stands child.row child.there) in
      let q_stands = subst (λ x. StandsIn s.geometry (parent.row.extents * s.geometry.extent) x) q.is (o.stands parent.row parent.there) in
      let i_size : h.pair.child.size ≡ disk_sectors i.head.footer = ap (λ (x : ImageRow). x.size) child.is ∙ ap sector_count i.is in
      let q_size : h.pair.parent.size ≡ disk_sectors q.head.footer = ap (λ (x : ImageRow). x.size) parent.is ∙ ap sector_count q.is in
      let i_slots : i.slots ≡ h.pair.child.slots = sym (ap (λ (x : ImageRow). x.slots) child.is ∙ ap slots_of i.is) in
      let q_slots : q.slots ≡ h.pair.parent.slots = sym (ap (λ (x : ImageRow). x.slots) parent.is ∙ ap slots_of q.is) in
      let few = ap (λ (x : ImageRow). x.extents) parent.is in
      subst₂ (λ a b. thin_in (shape_in s t m) (max (top a) (count_either a b)) ≤ to) q_slots i_slots
      (roomy_wide s.geometry parent.row.extents (child.row.extents * s.geometry.extent) to q.head i.head q.slots i.slots q_stands i_stands
      (omega (arith, parent_smaller σ k v p to o.well_formed h, i_size, q_size)) (omega (arith, at_least σ k v p to o.well_formed h, few))
      (subst (λ n. thick s.geometry.extent s.geometry.block s.geometry.entries n ≤ to) i_size all))

  module _ (r : TreeRow) (there : tree_row m.rows p ≡ Some r) where
    extents_are : h.pair.parent.extents ≡ r.extents
    extents_are = ap (λ (i : ImageRow). i.extents) parent.is ∙ ap (λ (x : TreeRow). x.extents) (same_Some parent.row r (sym found ∙ there))

    pub image_name : is_image_name p ≡ true
    image_name = let at = In-tree_row m.rows p r there in subst (λ n. is_image_name n ≡ true) at.1 (named_row s t m r o at.0)

    -- ---- no extents are wanting

    pub can_now : to ≤ r.extents → CanBegin (shape_in s t m) k v p
    can_now most = can_begin σ k v p to o.well_formed h roomy_thick (omega (arith, most, extents_are))

    pub next_now : to ≤ r.extents → entered k v p (shape_in s t m) ≡ shape_next (shape_in s t m) Gc
    next_now most = entered_next σ k v p to o.well_formed h (omega (arith, most, extents_are)) next

    pub widened_now : to ≤ r.extents → (next : VolumeTable) → KeepsExtents t next → IsWidened s.count t p to next
    widened_now most next keeps = none_gained s.count t p to next (omega (arith, most, extents_known s t m p r o there)) keeps

    -- ---- some are

    module _ (less : r.extents < to) where
      wants : h.pair.parent.extents < to
      wants = omega (arith, less, extents_are)

      vhd : p ≡ Vhd (image_uuid p)
      vhd = vhd_named p (grows_vhd σ k v p to o.well_formed h wants)

      is_there : tree_row m.rows (Vhd (image_uuid p)) ≡ Some r
      is_there = ap (tree_row m.rows) (sym vhd) ∙ there

      pub is_below : IsBelow m.rows (image_uuid p) to
      is_below = record { row = r; there = is_there; below = less }

      pub has_free : IsTidy t m → HasFree s.count t m.rows (image_uuid p) to
      has_free tidy = omega (arith, gains_free σ k v p to o.well_formed h, free_counted s t m tidy.none_new o, extents_are, ap extents_in is_there)

      pub widened_then : (mid next : VolumeTable) → IsEnlarged s.count t (image_uuid p) to mid → KeepsExtents mid next → IsWidened s.count t p to next
      widened_then mid next enlarged keeps = all_gained s.count t p (image_uuid p) to mid next vhd enlarged keeps

      abbrev wide : Name → Shape
      wide n = record (shape_in s t m) { sequence = risen (shape_in s t m).sequence 3; images = on_image n (λ i. record i { extents = to }) (shape_in s t m).images }

      wide_is : wide p ≡ inflated (image_uuid p) to (shape_in s t m)
      wide_is = ap wide vhd

      pub can_then : CanBegin (inflated (image_uuid p) to (shape_in s t m)) k v p
      can_then = subst (λ (x : Shape). CanBegin x k v p) wide_is (can_begin_wide σ k v p to o.well_formed h roomy_thick (risen σ.sequence 3))

      pub next_then : entered k v p (inflated (image_uuid p) to (shape_in s t m)) ≡ shape_next (shape_in s t m) Gc
      next_then = ap (entered k v p) (sym wide_is) ∙ entered_next_wide σ k v p to o.well_formed h wants next

-- ---- two calls that change no disk, one after the other

-- where nothing is pending, whatever a stop leaves shows the very disks of now
shown_settled : {S : Type 0} {g : Ghosts S} {b : S} {n : Memory} → IsTold g b n → IsSettled (g.area b) → (ds : List Disk) → MayShow (g.site b) (StoreLeaves g b) ds → ds ≡ disks (store_content g b)
shown_settled {g = g} {b} {n} h settled ds may =
    let is = left_choice g.told (g.site b) (tab g b) (g.area b) (g.leaves b) (g.failed b) h.now may.table may.image may.left in
    may.shown ∙ ap (λ y. disks (content_in (g.site b) y may.image)) is.table_is
    ∙ law_settled (g.site b) (tab g b) (g.area b) (known n) may.image h.orderly h.ready (all_quiet (g.site b) (tab g b) (g.area b) settled) is.sectors

module _ {S : Type 0} {g : Ghosts S} {a b e : S} {m : Memory} (n : Memory) {first : Type 0} (h : IsTold g a m) (site : g.site b ≡ g.site a) (orderly : IsOrderlyStore g b n) (usable : g.failed b ≡ false)
    (choice : (v : VolumeTable) (image : ℕ → List ℕ) → g.leaves b v image → IsChoiceOf (stored g b) v image)
    (d : HasDone (g.site a) (tab g a) (tab g b) (g.area a) (g.area b) (known n) (StoreLeaves g a) (StoreLeaves g b) first (disks (store_content g a))) (fine : first) where
  pub both_done : (k : Known) (ok : Type 0)
      → (IsReadyStore g b n → HasDone (g.site b) (tab g b) (tab g e) (g.area b) (g.area e) k (StoreLeaves g b) (StoreLeaves g e) ok (disks (store_content g b)))
      → HasDone (g.site a) (tab g a) (tab g e) (g.area a) (g.area e) k (StoreLeaves g a) (StoreLeaves g e) ok (disks (store_content g a))
  both_done k ok second =
      let made = subst (λ s. IsReady s (tab g b) (g.area b) (known n)) (sym site) (d.ready fine) in
      let same = ap (λ s. disks (content_now s (tab g b) (g.area b))) site ∙ d.shown fine in
      then_done h (is_told g b n orderly usable h.told made choice) site (d.settled fine) same k ok (disks (store_content g a))
      (subst (λ ds. HasDone (g.site b) (tab g b) (tab g e) (g.area b) (g.area e) k (StoreLeaves g b) (StoreLeaves g e) ok ds) same (second made))

  -- and whatever a stop leaves behind the first shows the disks of an image that might be left in front of it
  pub both_still : (IsReadyStore g b n → Leaves g e (λ t image. MayShow (g.site b) (StoreLeaves g b) (disks (content_in (g.site b) t image))))
      → (t : VolumeTable) (image : ℕ → List ℕ) → g.leaves e t image → MayShow (g.site a) (StoreLeaves g a) (disks (content_in (g.site a) t image))
  both_still second t image l =
      let made = subst (λ s. IsReady s (tab g b) (g.area b) (known n)) (sym site) (d.ready fine) in
      let same = shown_settled (is_told g b n orderly usable h.told made choice) (d.settled fine) (disks (content_in (g.site b) t image)) (second made h.told t image l) in
      let was : disks (store_content g b) ≡ disks (store_content g a) = ap (λ s. disks (content_now s (tab g b) (g.area b))) site ∙ d.shown fine in
      subst (λ (ds : List Disk). MayShow (g.site a) (StoreLeaves g a) ds) (sym (ap (λ s. disks (content_in s t image)) (sym site) ∙ same ∙ was)) (might_show g h.usable h.told)

-- the shape is the same where a call only read
pub shape_read : {S : Type 0} {g : Ghosts S} {a b : S} (m : Memory) → OnlyReads g a b → store_shape g b m ≡ store_shape g a m
shape_read m reads = ap₂ (λ s t. shape_in s t (known m)) reads.stays.site reads.stays.table

-- and what is known of the store
pub told_read : {S : Type 0} {g : Ghosts S} {a b : S} (m : Memory) → IsOrderlyStore g a m → g.failed a ≡ false → g.told → IsReadyStore g b m → OnlyReads g a b
    → ((v : VolumeTable) (image : ℕ → List ℕ) → g.leaves b v image → IsChoiceOf (stored g b) v image) → IsTold g b m
told_read {g = g} {b = b} m orderly usable told ready reads choice =
    is_told g b m (subst₂ (λ s t. IsOrderly s t (known m)) (sym reads.stays.site) (sym reads.stays.table) orderly) (reads.stays.failed ∙ usable) told ready choice
