-- Once a block was copied and all lasts, the store is ready with the cursor behind the block, and the shape is the machine's.
use Rattle.std.proofs.Common.{◌≡◌, ◌≢◌, inl, inr, ⊎_elim, ℕ, ◌+◌, ◌*◌, ◌/◌, ◌<◌, ◌≤◌, List, length, Option, Some, None, refl, sym, ap, ap₂, ◌∙◌, subst, subst₂, arith}
use Rattle.std.proofs.Math.Path.{fun_ext}
use Rattle.std.specs.List.{slice_get}
use Rattle.std.proofs.lemmas.Bool.{cases_lt}
use Rattle.std.proofs.lemmas.Nat.{div-mul-add, le-div, mul-le}
use Rattle.std.proofs.lemmas.Option.{none-some, same_Some, slice_get-get_or}
use Rattle.common_laws.specs.Lists.{In, when}
use Rattle.common_laws.proofs.Lists.{In-map_at}
use Rattle.sm_base.specs.declared.names.Name.{Name}
use Rattle.sm_base.specs.declared.names.Name.TheVariants.{Mgt, Vhd, Cbt}
use Rattle.sm_disk.specs.Held.{Held, IsSettled, Keeps, reads}
use Rattle.sm_disk.proofs.HeldLaws.{Keeps-then}
use Rattle.vg_meta.specs.Tables.{VolumeTable, rows, extents_of}
use Rattle.vg_meta.proofs.NameLaws.{name_eq-same}
use Rattle.vg_volumes.specs.Sites.{Site, size_of, volume_of}
use Rattle.vg_volumes.specs.Stored.{IsChoiceOf, held_in, sectors_in, stored}
use Rattle.vg_volumes.specs.declared.stores.Store.{Ghosts}
use Rattle.vg_volumes.proofs.StoredLaws.{held_stays}
use Rattle.vg_volumes.proofs.VolumeLaws.{IsSettled-volume, Keeps-volume}
use Rattle.vhd_layout.specs.Layouts.{Sectors}
use Rattle.vhd_map.specs.Slots.{slot_of}
use Rattle.vhd_map.proofs.SlotLemmas.{slot_of-within}
use Rattle.vhd_volumes.specs.Truth.{disk_blocks, layout_in}
use Rattle.vhd_volumes.specs.Writes.{with_block}
use Rattle.vhd_volumes.proofs.SteadyLaws.{steady_synced}
use Rattle.vhd_write.proofs.MapLaws.{with_block-held}
use Rattle.vhd_image.specs.Bodies.{StandsIn, TrueIn, own_of, sector_count}
use Rattle.vhd_image.specs.Steady.{IsSteady}
use Rattle.vhd_image.specs.declared.images.Body.{Body}
use Rattle.vhd_image.specs.declared.images.Body.TheVariants as body
use Rattle.vhd_image.proofs.ContentLaws.{is-layout, own-no_slot}
use Rattle.vhd_chain.specs.Reading.{own_read, slots_of}
use Rattle.vhd_chain.specs.Trees.{has_name, row_name, with_replaced}
use Rattle.vhd_chain.specs.declared.rows.TreeRow.{TreeRow}
use Rattle.std.proofs.Math.Nat.{div-mul-le_self}
use Rattle.sm_machine.specs.Operations.{advanced}
use Rattle.sm_machine.specs.Shapes.{image_uuid, slot_at}
use Rattle.sm_mgt.specs.Places.{records_held}
use Rattle.sm_standing.specs.Images.{Image, image_of}
use Rattle.sm_standing.specs.Standing.{disks}
use Rattle.sm_ready.specs.Done.{HasDone}
use Rattle.sm_ready.specs.Known.{Known, known}
use Rattle.sm_ready.specs.Orderly.{IsOrderly}
use Rattle.sm_ready.specs.Ready.{IsBelow, IsHeldBelow, IsReady}
use Rattle.sm_ready.specs.Stores.{StoreLeaves, content_now, store_content}
use Rattle.sm_ready.specs.declared.memory.Memory.{Memory}
use Rattle.sm_ready.proofs.ChainLaws.{tab}
use Rattle.sm_ready.proofs.HeldLaws.{held_copied}
use Rattle.sm_ready.proofs.KeptLaws.{law_kept, vhd_named}
use Rattle.sm_ready.proofs.LeftLaws.{IsLeft, left_in, left_now, now_sector, ready_places}
use Rattle.sm_ready.proofs.LogLaws.{holds_keeps}
use Rattle.sm_ready.proofs.LogRows.{name_apart}
use Rattle.sm_ready.proofs.LogStores.{logs_told}
use Rattle.sm_ready.proofs.Orders.{HasHead, geometry_of, vhd_row}
use Rattle.sm_ready.proofs.RepairLaws.{all_quiet}
use Rattle.sm_ready.proofs.RestLaws.{agrees_keeps, steady_keeps}
use Rattle.sm_ready.proofs.StopLaws.{image_by_sectors}
use Rattle.sm_ready.proofs.SyncLaws.{IsSynced}
use Rattle.sm_ready.proofs.TakenLaws.{IsTold}
use Rattle.sm_ready.proofs.TruthLaws.{row_sectors}
use Rattle.vhd_image.specs.Written.{MayHaveSlot, with_slot}
use Rattle.gc_coalesce.specs.Blocks.{Copies, HasCopied, IsMaskedBy, own_held}
use Rattle.gc_coalesce.specs.Copying.{dirty_of}
use Rattle.gc_coalesce.proofs.CopyBlockLaws.{add_one, grown_count, own_grown}
use Rattle.gc_coalesce.proofs.CopyCrashLaws.{crash_synced, keeps_parent, left_copied, logged_synced, masked_parent, parent_image}
use Rattle.gc_coalesce.proofs.CopyKinds.{below_in, below_of}
use Rattle.gc_coalesce.proofs.CopyLeftLaws.{child_now, kept_other, not_records, parent_now}
use Rattle.gc_coalesce.proofs.CopyMemoryLaws.{behind, may_name, orderly_behind, rows_behind, with_image}
use Rattle.sm_ready.proofs.NowLaws.{IsNow, row_now}
use Rattle.gc_coalesce.proofs.CopyPlanLaws.{IsToCopy, apart, child_named, child_there, child_vhd, has_slot, named, same_size, there}
use Rattle.gc_coalesce.proofs.CopyShownLaws.{disks_copied}

-- ---- the block lies within the images

module _ {s : Site} {t : VolumeTable} {m : Known} {v p : Name} {cursor b : ℕ} {i q : TreeRow} (h : IsToCopy s t m v p cursor b i q) where
  pub child_head : HasHead i
  child_head = vhd_row s t m i (image_uuid v) h.orderly (child_there h) (child_named h ∙ vhd_named v (child_vhd h))

  pub child_slot : (k : ℕ) × (slot_of child_head.slots b ≡ Some k)
  child_slot = let k = has_slot h in (k.0, sym (ap (λ x. slot_of (slots_of x) b) child_head.is) ∙ k.1)

  pub block_within : b * s.geometry.block + s.geometry.block ≤ sector_count i.image
  block_within =
      let stands = subst (λ x. StandsIn s.geometry (i.extents * s.geometry.extent) x) child_head.is (h.orderly.stands i (child_there h)) in
      let below = stands.sized b child_slot.0 child_slot.1 in
      let count = ap sector_count child_head.is in
      let blocks = disk_blocks s.geometry child_head.head.footer in
      let more = mul-le (b + 1) s.geometry.block blocks s.geometry.block (omega (arith, below)) (omega arith) in
      omega (arith, count, more, add_one b s.geometry.block, stands.size)

-- ---- the store once all lasts

module _ {S : Type 0} (g : Ghosts S) {b d : S} (e : S) (m : Memory) {v p : Name} {cursor blk : ℕ} {i q : TreeRow} (h : IsToCopy (g.site b) (tab g b) (known m) v p cursor blk i q) (new : Body) (copies : Copies g i.image q.image new b d)
    (done : HasCopied g i.image blk (blk * (g.site b).geometry.block) (g.site b).geometry.block q.image new b d) where
  abbrev s : Site
  s = g.site b

  abbrev t : VolumeTable
  t = tab g b

  abbrev wide : ℕ
  wide = q.extents * (g.site b).geometry.extent

  pub width : size_of (g.site b) (tab g b) p ≡ q.extents * (g.site b).geometry.extent
  width = ap (size_of s t) (sym (named h)) ∙ row_sectors s t (known m) h.orderly q (there h)

  pub stands_new : StandsIn (g.site b).geometry (q.extents * (g.site b).geometry.extent) new
  stands_new = subst (λ k. StandsIn s.geometry k new) width (subst (λ n. StandsIn s.geometry (sectors_in (stored g b) n) new) (named h) done.stands)

  pub true_new : g.told → TrueIn (g.site b).geometry (q.extents * (g.site b).geometry.extent) (volume_of (g.site b) (tab g b) (g.area d) p) new
  true_new told = subst (λ k. TrueIn s.geometry k (volume_of s t (g.area d) p) new) width
      (subst (λ x. TrueIn s.geometry (size_of s t p) x new) (held_stays {g = g} p copies.works.stays)
      (subst (λ n. TrueIn s.geometry (sectors_in (stored g b) n) (held_in (stored g d) n) new) (named h) (done.is_true told)))

  module _ (told : IsTold g b m) (settled : IsSettled (g.area b)) (y : IsSynced g d e) (last : IsSettled (g.area e)) where
    kept_all : (n : Name) → n ≢ p → Keeps (volume_of s t (g.area b) n) (volume_of s t (g.area e) n)
    kept_all n other = Keeps-then (kept_other h (g.area b) (g.area d) told.ready settled (keeps_parent g h new copies told settled) n other) (Keeps-volume s.geometry.extent (extents_of (rows t n)) y.keeps)

    kept_parent : Keeps (volume_of s t (g.area d) p) (volume_of s t (g.area e) p)
    kept_parent = Keeps-volume s.geometry.extent (extents_of (rows t p)) y.keeps

    -- ---- the parent is steady

    was_steady : IsSteady s.geometry wide (volume_of s t (g.area b) p) q.image
    was_steady = subst (λ n. IsSteady s.geometry wide (volume_of s t (g.area b) n) q.image) (named h) (told.ready.firm.images q (there h))

    abbrev own_b : ℕ → Option (List ℕ)
    own_b = own_of s.geometry (size_of s t v) i.image (reads (volume_of s t (g.area b) v))

    steady_by : (x : Body) → q.image ≡ x → IsMaskedBy s.geometry wide x own_b (volume_of s t (g.area b) p) (volume_of s t (g.area d) p) → IsSteady s.geometry wide (volume_of s t (g.area b) p) x
        → MayHaveSlot blk x new → IsSteady s.geometry wide (volume_of s t (g.area e) p) new
    steady_by (body.Raw n k) is masked was may = ⊎_elim (λ same. raw same) (λ same. raw same) may
      where
        raw : new ≡ body.Raw n k → IsSteady s.geometry wide (volume_of s t (g.area e) p) new
        raw same = subst (IsSteady s.geometry wide (volume_of s t (g.area e) p)) (sym same) was
    steady_by (body.Vhd head slots) is masked was may = ⊎_elim (λ same. vhd slots same) (λ same. vhd (with_block blk slots) same) may
      where
        vhd : (after : List (Option ℕ)) → new ≡ body.Vhd head after → IsSteady s.geometry wide (volume_of s t (g.area e) p) new
        vhd after same = subst (IsSteady s.geometry wide (volume_of s t (g.area e) p)) (sym same)
            (steady_synced s.geometry wide head after kept_parent (IsSettled-volume s.geometry.extent (extents_of (rows t p)) (g.area e) last) (subst (TrueIn s.geometry wide (volume_of s t (g.area d) p)) same (true_new told.told))
            (λ w allows. let f = masked.follows w allows in f.follows.holds (was.holding f.before f.allowed)))

    steady_new : IsSteady s.geometry wide (volume_of s t (g.area e) p) new
    steady_new = steady_by q.image refl (subst (λ k. IsMaskedBy s.geometry k q.image own_b (volume_of s t (g.area b) p) (volume_of s t (g.area d) p)) width (masked_parent g h new copies told settled)) was_steady done.slot

    -- ---- the images of a read

    abbrev next : TreeRow
    next = with_image new q

    next_name : row_name next ≡ p
    next_name = may_name blk q.image new done.slot ∙ named h

    next_there : In next (behind new q blk (known m)).rows
    next_there = subst (λ x. In x (with_replaced next m.tree.rows)) (ap (λ c. when c (λ _. next) q) (name_eq-same (row_name q) (row_name next) (named h ∙ sym next_name)))
        (In-map_at (λ r. when (has_name (row_name next) r) (λ _. next) r) m.tree.rows q (there h))

    orderly_new : IsOrderly s t (behind new q blk (known m))
    orderly_new = orderly_behind h new done.slot stands_new

    parent_end : IsNow (content_now s t (g.area e)) p s.geometry (size_of s t p) new (reads (volume_of s t (g.area e) p))
    parent_end = subst (λ n. IsNow (content_now s t (g.area e)) n s.geometry (size_of s t n) new (reads (volume_of s t (g.area e) n))) next_name
        (row_now s t (g.area e) (behind new q blk (known m)) orderly_new next next_there (subst (λ n. IsSteady s.geometry wide (volume_of s t (g.area e) n) new) (sym next_name) steady_new))

    image_end : (n : Name) → n ≢ p → image_of (content_now s t (g.area e)) n ≡ image_of (content_now s t (g.area b)) n
    image_end n other = image_by_sectors s t (known m) (reads (g.area b)) (reads (g.area e)) n (rows t n) h.orderly refl
        (λ k below. now_sector s t (g.area e) n k below ∙ (kept_all n other).reads k ∙ sym (now_sector s t (g.area b) n k below))

    child_b : IsNow (content_now s t (g.area b)) v s.geometry (size_of s t v) i.image (reads (volume_of s t (g.area b) v))
    child_b = child_now h (g.area b) (g.area d) told.ready settled (keeps_parent g h new copies told settled)

    parent_b : IsNow (content_now s t (g.area b)) p s.geometry (size_of s t p) q.image (reads (volume_of s t (g.area b) p))
    parent_b = parent_now h (g.area b) (g.area d) told.ready settled (keeps_parent g h new copies told settled)

    -- what the clauses say of what parent and child hold, by their names
    child_read : (k : ℕ) → own_read (stored g b) i.image k ≡ child_b.image.own k
    child_read k = ap (λ n. own_of s.geometry (size_of s t n) i.image (reads (volume_of s t (g.area b) n)) k) (child_named h) ∙ sym (child_b.own k)

    held_b : (k : ℕ) → own_held g q.image b b k ≡ parent_b.image.own k
    held_b k = ap (λ n. own_of s.geometry (size_of s t n) q.image (reads (volume_of s t (g.area b) n)) k) (named h) ∙ sym (parent_b.own k)

    held_d : (k : ℕ) → own_held g q.image b d k ≡ parent_end.image.own k
    held_d k =
        ap (λ n. own_of s.geometry (size_of s t n) q.image (reads (held_in (stored g d) n)) k) (named h)
        ∙ ap (λ (x : Held). own_of s.geometry (size_of s t p) q.image (reads x) k) (held_stays {g = g} p copies.works.stays)
        ∙ ap (λ (x : Sectors). own_of s.geometry (size_of s t p) q.image x k) (sym (fun_ext kept_parent.reads))
        ∙ sym (own_grown s.geometry (size_of s t p) q.image new (reads (volume_of s t (g.area e) p)) k copies.grown) ∙ sym (parent_end.own k)

    -- ---- the parent holds alike what the child holds in the blocks that are settled

    some_block : 0 < (g.site b).geometry.block
    some_block = let least = (g.site b).geometry.in_range.block_least in omega (arith, least)

    -- nothing is held of a block that has no slot
    none_held : (k : ℕ) → k / (g.site b).geometry.block < blk → slot_at (slots_of i.image) (k / (g.site b).geometry.block) ≡ None → child_b.image.own k ≡ None
    none_held k below free =
        let w = child_head h in
        let steady = subst (λ x. IsSteady s.geometry (i.extents * s.geometry.extent) (volume_of s t (g.area b) (row_name i)) x) w.is (told.ready.firm.images i (child_there h)) in
        let long : size_of s t v ≡ i.extents * s.geometry.extent = ap (size_of s t) (sym (child_named h)) ∙ row_sectors s t (known m) h.orderly i (child_there h) in
        let count = ap sector_count w.is in
        let empty : slot_of w.slots (k / (g.site b).geometry.block) ≡ None =
        sym (ap (λ x. slot_of (slots_of x) (k / (g.site b).geometry.block)) w.is)
        ∙ free in
        let before : k < blk * (g.site b).geometry.block = ⊎_elim (λ low. low) (λ past. absurd (let z = le-div blk k (g.site b).geometry.block some_block past in omega (arith, z, below))) (cases_lt k (blk * (g.site b).geometry.block)) in
        child_b.own k
        ∙ ap₂ (λ n x. own_of s.geometry n x (reads (volume_of s t (g.area b) v)) k) long w.is
        ∙ ap (λ n. own_of s.geometry (i.extents * s.geometry.extent) (body.Vhd w.head w.slots) (reads (volume_of s t (g.area b) n)) k) (sym (child_named h))
        ∙ own-no_slot (layout_in s.geometry w.head.footer (i.extents * s.geometry.extent)) (reads (volume_of s t (g.area b) (row_name i))) w.head.footer w.head.header (slot_of w.slots) k
        (is-layout s.geometry w.head.footer (i.extents * s.geometry.extent) (geometry_of s t (known m) h.orderly)) steady.is_true.now (let within = block_within h in omega (arith, within, before, count)) empty

    was_below : IsHeldBelow (content_now s t (g.area b)) v p cursor (dirty_of h.kind h.dirty)
    was_below = below_of (content_now s t (g.area b)) h.kind v p cursor h.dirty (subst (IsBelow (content_now s t (g.area b))) h.op told.ready.firm.below)

    child_is : was_below.child ≡ child_b.image
    child_is = same_Some was_below.child child_b.image (sym was_below.image ∙ child_b.there)

    parent_is : was_below.parent ≡ parent_b.image
    parent_is = same_Some was_below.parent parent_b.image (sym was_below.under ∙ parent_b.there)

    was_own : (k : ℕ) (bytes : List ℕ) → was_below.child.own k ≡ Some bytes → own_read (stored g b) i.image k ≡ Some bytes
    was_own k bytes has = child_read k ∙ ap (λ (z : Image). z.own k) (sym child_is) ∙ has

    held_below : IsHeldBelow (content_now s t (g.area e)) v p h.next.cursor_then (dirty_of h.kind h.next.dirty_then)
    held_below = held_copied (content_now s t (g.area b)) (content_now s t (g.area e)) v p cursor h.next.cursor_then (dirty_of h.kind h.dirty) (dirty_of h.kind h.next.dirty_then) blk some_block (record {
      block = refl;
      child_same = image_end v (apart h);
      was = was_below;
      now = parent_end.image;
      there = parent_end.there;
      size = parent_end.size ∙ grown_count q.image new copies.grown ∙ sym (ap (λ (z : Image). z.size) parent_is ∙ parent_b.size);
      copied = λ k bytes here has.
          let low : blk * (g.site b).geometry.block ≤ k = subst (λ x. x * (g.site b).geometry.block ≤ k) here (div-mul-le_self k (g.site b).geometry.block) in
          let high : k < (blk + 1) * (g.site b).geometry.block = ⊎_elim (λ less. less) (λ past. absurd (let z = le-div (blk + 1) k (g.site b).geometry.block some_block past in omega (arith, z, here))) (cases_lt k ((blk + 1) * (g.site b).geometry.block)) in
          sym (held_d k) ∙ done.copied told.told k bytes low (let x = add_one blk (g.site b).geometry.block in omega (arith, high, x)) (was_own k bytes has);
      kept = λ k bytes has had. sym (held_d k) ∙ done.kept told.told k bytes (was_own k bytes has) (held_b k ∙ ap (λ (z : Image). z.own k) (sym parent_is) ∙ had);
      rest = λ x below clean. ⊎_elim (λ here. inl here)
          (λ other. ⊎_elim (λ old. inr (inl old))
          (λ free. inr (inr (λ k at. ap (λ (z : Image). z.own k) child_is ∙ none_held k (omega (arith, at, free.0)) (ap (slot_at (slots_of i.image)) at ∙ free.1)))) other) (h.next.rest x below clean);
    })

    -- ---- the store is ready

    pub ready_new : IsReady (g.site b) (tab g b) (g.area e) (behind new q blk (known m))
    ready_new = record {
      firm = record {
        images = λ r j. ⊎_elim
            (λ old. steady_keeps s.geometry (r.extents * s.geometry.extent) (volume_of s t (g.area b) (row_name r)) (volume_of s t (g.area e) (row_name r)) r.image
            (kept_all (row_name r) (λ same. old.1 (same ∙ sym (named h)))) (told.ready.firm.images r old.0))
            (λ is. subst (λ (x : TreeRow). IsSteady s.geometry (x.extents * s.geometry.extent) (volume_of s t (g.area e) (row_name x)) x.image) (sym is)
            (subst (λ n. IsSteady s.geometry wide (volume_of s t (g.area e) n) new) (sym next_name) steady_new)) (rows_behind h new done.slot r j);
        quiet = λ r j _. all_quiet s t (g.area e) last (row_name r);
        below = subst (IsBelow (content_now s t (g.area e))) (sym (ap (advanced blk) h.op ∙ h.next.goes)) (below_in (content_now s t (g.area e)) h.kind v p h.next.cursor_then h.next.dirty_then held_below);
      };
      records = agrees_keeps (records_held s t (g.area b)) (records_held s t (g.area e)) m.records
          (kept_all Mgt (not_records h (g.area b) (g.area d) told.ready settled (keeps_parent g h new copies told settled))) told.ready.records;
      recorded = all_quiet s t (g.area e) last Mgt;
      logs = (holds_keeps (logs_told told) (g.area e) (λ u. kept_all (Cbt u) (name_apart p (parent_image g h new copies told settled) u))).logs;
      logged = λ u. all_quiet s t (g.area e) last (Cbt u);
    }

    same_reads : reads (g.area e) ≡ reads (g.area d)
    same_reads = fun_ext y.keeps.reads

    shown_new : disks (content_now s t (g.area e)) ≡ disks (store_content g b)
    shown_new = disks_copied (store_content g b) (content_now s t (g.area e)) v p
        (left_copied g h new copies told settled (reads (g.area e)) (subst (IsLeft s (g.area d)) (sym same_reads) (left_now s (g.area d))))

    pub copy_done : ((w : VolumeTable) (image : ℕ → List ℕ) → g.leaves d w image → IsChoiceOf (stored g d) w image) → (n : Known) → n ≡ behind new q blk (known m) → (ok : Type 0)
        → HasDone (g.site b) (tab g b) (tab g e) (g.area b) (g.area e) n (StoreLeaves g b) (StoreLeaves g e) ok (disks (store_content g b))
    copy_done later n is ok = record {
      ready = λ _. subst₂ (λ z k. IsReady s z (g.area e) k) (sym (y.table ∙ copies.works.stays.table)) (sym is) ready_new;
      settled = λ _. last;
      shown = λ _. ap (λ z. disks (content_now s z (g.area e))) (y.table ∙ copies.works.stays.table) ∙ shown_new;
      crash = crash_synced g h new copies told settled later e y;
      logged = logged_synced g h new copies told settled later e y n (ap (λ (k : Known). k.logs) is);
    }

    -- ---- the block has a slot

    -- of the child's block one sector is held, which the parent has now
    some_held : (u : List ℕ) → v ≡ Vhd u → (j : ℕ) × (j < (g.site b).geometry.block) × ((bytes : List ℕ) × (own_held g q.image b d (blk * (g.site b).geometry.block + j) ≡ Some bytes))
    some_held u is =
        let kept = law_kept s t (g.area b) (known m) (reads (g.area b)) h.orderly told.ready.firm (left_in s t (known m) (g.area b) (reads (g.area b)) h.orderly (left_now s (g.area b)))
        (ready_places s t (g.area b) (known m) (reads (g.area b)) h.orderly told.ready (left_now s (g.area b))) in
        let k = has_slot h in
        let long : blk < length (slots_of i.image) = slot_of-within (slots_of i.image) blk k.0 k.1 in
        let slot = ap (λ (x : List (Option ℕ)). slice_get x blk) child_b.slots ∙ slice_get-get_or (slots_of i.image) blk None long ∙ ap Some k.1 in
        let w = kept.holding u child_b.image (ap (image_of (content_now s t (g.area b))) (sym is) ∙ child_b.there) blk k.0 slot in
        (w.0, w.1, (w.2.0, done.copied told.told (blk * (g.site b).geometry.block + w.0) w.2.0 (omega arith) (omega (arith, w.1)) (child_read (blk * (g.site b).geometry.block + w.0) ∙ w.2.1)))

    slot_by : (x : Body) → q.image ≡ x → new ≡ q.image → with_slot blk x ≡ x
    slot_by (body.Raw n k) is same = refl
    slot_by (body.Vhd head slots) is same = by (slot_of slots blk) refl
      where
        by : (o : Option ℕ) → slot_of slots blk ≡ o → with_slot blk (body.Vhd head slots) ≡ body.Vhd head slots
        by (Some k) has = ap (body.Vhd head) (with_block-held blk slots k has)
        by None none =
            let w = some_held (image_uuid v) (vhd_named v (child_vhd h)) in
            let k = blk * (g.site b).geometry.block + w.0 in
            let truth = subst (TrueIn s.geometry wide (volume_of s t (g.area d) p)) (same ∙ is) (true_new told.told) in
            let count = ap sector_count is in
            let place = div-mul-add blk (g.site b).geometry.block w.0 w.1 in
            let gone = own-no_slot (layout_in s.geometry head.footer wide) (reads (volume_of s t (g.area d) p)) head.footer head.header (slot_of slots) k
            (is-layout s.geometry head.footer wide (geometry_of s t (known m) h.orderly)) truth.now (let within = block_within h in let size = same_size h in omega (arith, within, w.1, count, size)) (ap (slot_of slots) place ∙ none) in
            let held = sym w.2.1 ∙ ap (λ n. own_of s.geometry (size_of s t n) q.image (reads (held_in (stored g d) n)) k) (named h)
            ∙ ap (λ (z : Held). own_of s.geometry (size_of s t p) q.image (reads z) k) (held_stays {g = g} p copies.works.stays)
            ∙ ap₂ (λ n z. own_of s.geometry n z (reads (volume_of s t (g.area d) p)) k) width is ∙ gone in
            absurd (none-some w.2.0 (sym held))

    pub slot_new : new ≡ with_slot blk q.image
    slot_new = ⊎_elim (λ same. same ∙ sym (slot_by q.image refl same)) (λ is. is) done.slot
