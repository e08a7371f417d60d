-- Behind a swap: memory is orderly and tidy under the last table, and ready on what a read gave.
use Rattle.std.proofs.Common.{◌≡◌, ◌≢◌, ◌⊎◌, inl, inr, ⊎_elim, ℕ, ◌*◌, ◌≤◌, not, Bool, true, false, cond, List, [], ◌∷◌, filter, length, map, unwrap_or, Option, Some, None, refl, sym, ap, ◌∙◌, subst, arith}
use Rattle.std.proofs.Math.Logic.{∥∥₁_elim}
use Rattle.std.proofs.Props.{props}
use Rattle.std.proofs.lemmas.Bool.{le-ltb, true≢false}
use Rattle.std.proofs.lemmas.Option.{none-some, same_Some}
use Rattle.std.specs.Map.{lookup}
use Rattle.common_laws.specs.Lists.{Distinct, In, first_some, given}
use Rattle.common_laws.proofs.Lists.{In-map_at}
use Rattle.sm_base.specs.declared.names.Name.{Name}
use Rattle.sm_base.specs.declared.names.Name.TheVariants.{Mgt, Cbt, Old, Vhd}
use Rattle.sm_base.specs.Kinds.{is_entry}
use Rattle.sm_base.specs.declared.sizes.Geometry.{Geometry}
use Rattle.sm_base.proofs.KindLaws.{image-no_entry}
use Rattle.sm_disk.specs.Held.{Held, reads}
use Rattle.vg_volumes.proofs.VolumeLaws.{Keeps-volume}
use Rattle.vg_meta.specs.Tables.{IsVolume, Row, VolumeTable, extents_of, rows}
use Rattle.vg_meta.proofs.RowLaws.{All-row_of}
use Rattle.vg_volumes.specs.Sites.{Site, volume_of}
use Rattle.vg_volumes.specs.Volumes.{volume}
use Rattle.vhd_image.specs.Bodies.{StandsIn, in_volume}
use Rattle.vhd_image.specs.Steady.{IsSteady}
use Rattle.vhd_image.specs.declared.images.Body.{Body}
use Rattle.vhd_image.specs.declared.images.Body.TheVariants as body
use Rattle.vhd_chain.specs.Trees.{row_name, tree_row}
use Rattle.vhd_chain.specs.declared.rows.TreeRow.{TreeRow}
use Rattle.sm_base.specs.declared.refusals.Refusal.TheVariants.{NoSpace}
use Rattle.sm_machine.specs.Refusals.{forked, is_bad_size, is_deep, is_in_use, is_not_attached, is_out_of_range, is_raw_disk, is_tracked, is_untracked, is_read_only, is_reserved, is_shrink, is_spent, is_taken, is_too_many, is_unknown, lacks_space, named, need, new_uuid, refusal}
use Rattle.sm_machine.specs.Collector.{as_leaf}
use Rattle.sm_machine.specs.Shapes.{ImageRow, Shape, free, image_uuid, refs, with_image, without_image}
use Rattle.sm_machine.specs.Steps.{State}
use Rattle.sm_machine.specs.WellFormed.{IsOperation, IsWellFormed, is_image_name}
use Rattle.sm_machine.specs.declared.commands.Command.TheVariants.{Gc}
use Rattle.sm_refs.specs.Attached.{Attached, count_of, same_name}
use Rattle.sm_refs.proofs.NameLemmas.{other_name, same_name-refl}
use Rattle.sm_refs.proofs.TallyLemmas.{lookup-without}
use Rattle.sm_mgt.specs.Places.{Agrees, records_held}
use Rattle.sm_record.specs.declared.records.Record.{Record}
use Rattle.sm_standing.proofs.DisksShown.{row_of-In}
use Rattle.sm_ready.specs.Done.{at_rest}
use Rattle.sm_ready.specs.Known.{Known, machine_row, row_face, shape_in, tree_face}
use Rattle.sm_ready.specs.Orderly.{IsOrderly, IsRoomy}
use Rattle.sm_ready.specs.Ready.{IsReady, IsTidy}
use Rattle.sm_ready.proofs.CommitLaws.{volume_rested}
use Rattle.sm_ready.proofs.LogLaws.{holds_commit, holds_ready}
use Rattle.sm_ready.proofs.NewLaws.{well_target}
use Rattle.sm_ready.proofs.OwnLaws.{step_shape}
use Rattle.sm_ready.proofs.Orders.{In-tree_row, named_row}
use Rattle.sm_ready.proofs.RestLaws.{agrees_keeps, keeps_rest, steady_keeps}
use Rattle.sm_ready.proofs.RowLaws.{found_in, image_named}
use Rattle.gc_abandon.proofs.EntryLaws.{fresh_no_entry}
use Rattle.gc_leaf.specs.Swapping.{CountsAs, IsUncounted, folding_of, swapped_rows}
use Rattle.gc_leaf.proofs.SwapMemory.{folded, folded_name, images_alike, images_then, in_then, known_as, known_is, known_then, known_with, name_or, parent_found, parent_row, rows_then, shape_as, shape_with, shown_still}
use Rattle.gc_leaf.proofs.SwapPair.{leaf_is, parent_is, parent_vol, u, v}
use Rattle.gc_leaf.proofs.SwapSteps.{IsToSwap, free_of, only_of}
use Rattle.gc_leaf.proofs.SwapUses.{live_gone, live_uses, swap_uses}
use Rattle.gc_leaf.proofs.SwapTables.{logs_stay, shown_row, stage_5, table_then}

-- the collector is never refused
fits_always : (σ : Shape) → lacks_space σ Gc ≡ false
unfolding lacks_space need
fits_always σ = le-ltb (free σ) 0 (omega arith)

never_refused : (σ : Shape) → refusal σ Gc ≡ None
unfolding refusal is_reserved is_unknown is_taken is_in_use is_not_attached is_read_only is_raw_disk is_tracked is_untracked is_out_of_range is_bad_size is_shrink is_deep is_too_many is_spent new_uuid named forked
never_refused σ = ap (λ b. first_some (given b (NoSpace (need σ Gc) (free σ)) ∷ [])) (fits_always σ)

-- ---- an image in a volume of another name

stands_in : (g : Geometry) (n : ℕ) (to : Name) (b : Body) → StandsIn g n b → StandsIn g n (in_volume to b)
stands_in g n to (body.Raw volume size) stands = stands
stands_in g n to (body.Vhd head m) stands = record {
  entries = stands.entries;
  block = stands.block;
  size = stands.size;
  least = stands.least;
  most = stands.most;
  sized = stands.sized;
  room = stands.room;
}

steady_under : (g : Geometry) (n : ℕ) (h : Held) (to : Name) (b : Body) → IsSteady g n h b → IsSteady g n h (in_volume to b)
steady_under g n h to (body.Raw volume size) was = was
steady_under g n h to (body.Vhd head m) was = record { is_true = record { now = was.is_true.now; valid = was.is_true.valid; within = was.is_true.within }; still = was.still; holding = was.holding }

module _ {s : Site} {t : VolumeTable} {m : Known} {l p : Name} {cursor : ℕ} (h : IsToSwap s t m l p cursor) where
  abbrev last : VolumeTable
  last = table_then h

  pub parent_at : In (parent_row h) m.rows × (row_name (parent_row h) ≡ Vhd (v h))
  parent_at = In-tree_row m.rows (Vhd (v h)) (parent_row h) (parent_vol h).found

  -- the extents of another image's volume are as before
  pub other_extents : (r : TreeRow) → In r m.rows → row_name r ≢ l → row_name r ≢ p → extents_of (rows last (row_name r)) ≡ extents_of (rows t (row_name r))
  unfolding is_image_name
  other_extents r i not_leaf not_parent =
      let image = named_row s t m r h.orderly i in
      ap extents_of ((stage_5 h).others (row_name r) (λ is. not_leaf (is ∙ sym (leaf_is h))) (λ is. not_parent (is ∙ sym (parent_is h))) (λ is. old_no_image (row_name r) (u h) is image)
      (image-no_entry (row_name r) (image_named (row_name r) image)))
    where
      old_no_image : (n : Name) (x : List ℕ) → n ≡ Old x → is_image_name n ≡ true → ⊥
      old_no_image n x is image = true≢false (sym image ∙ ap is_image_name is)

  -- that of the parent's, under the leaf's name
  pub folded_extents : extents_of (rows last (row_name (folded h))) ≡ extents_of (rows t (row_name (parent_row h)))
  folded_extents = ap (λ n. extents_of (rows last n)) (folded_name h ∙ leaf_is h) ∙ ap extents_of (stage_5 h).leaf_row
      ∙ sym (ap extents_of (ap (rows t) parent_at.1 ∙ (parent_vol h).there))

  mgt_same : rows last Mgt ≡ rows t Mgt
  mgt_same = (stage_5 h).others Mgt (λ is. (let x = is in cc)) (λ is. (let x = is in cc)) (λ is. (let x = is in cc)) refl

  -- ---- tidy

  none_new : (r : Row) → In r last.volumes → r.fresh ≡ false
  none_new r i = by (name_or r.name (Vhd (u h))) (name_or r.name (Vhd (v h))) (name_or r.name (Old (u h))) (is_entry r.name) refl
    where
      there : rows last r.name ≡ Some r
      there = found_in last.volumes (stage_5 h).table.volumes.rising r i

      full : (e : Row) → IsVolume e → is_entry e.name ≡ true → e.fresh ≡ false
      full e w entry = of e.fresh refl
        where
          of : (b : Bool) → e.fresh ≡ b → e.fresh ≡ false
          of false is = is
          of true is = absurd (true≢false (sym entry ∙ fresh_no_entry e w is))

      by : (r.name ≡ Vhd (u h)) ⊎ (r.name ≢ Vhd (u h)) → (r.name ≡ Vhd (v h)) ⊎ (r.name ≢ Vhd (v h)) → (r.name ≡ Old (u h)) ⊎ (r.name ≢ Old (u h)) → (b : Bool) → is_entry r.name ≡ b → r.fresh ≡ false
      by (inl is) a b c e = ap (λ (x : Row). x.fresh) (same_Some r (shown_row h) (sym there ∙ ap (rows last) is ∙ (stage_5 h).leaf_row)) ∙ (parent_vol h).filled
      by (inr a) (inl is) b c e = absurd (none-some r (sym (ap (rows last) is ∙ (stage_5 h).base_row) ∙ there))
      by (inr a) (inr b) (inl is) c e = absurd (none-some r (sym (ap (rows last) is ∙ (stage_5 h).gone_row) ∙ there))
      by (inr a) (inr b) (inr c) true e = full r (All-row_of IsVolume last.volumes r.name r (stage_5 h).table.volumes.each there) e
      by (inr a) (inr b) (inr c) false e = h.tidy.none_new r (row_of-In t.volumes r.name r (sym ((stage_5 h).others r.name a b c e) ∙ there)).0

  -- ---- orderly

  abbrev state : State
  state = record { disks = []; shape = shape_in s t m }

  well : ∥ IsWellFormed (shape_in s last (known_as h)) ∥₁
  well = well_target s t m Gc state (shape_in s last (known_as h)) h.orderly refl (shape_as h ∙ sym (step_shape state Gc (never_refused (shape_in s t m))))

  tidy_then : IsTidy last (known_then h)
  tidy_then = subst (IsTidy last) (sym (known_is h)) (record { none_new = none_new; no_stray = λ (r : Record) i. shown_still h r.uuid ∙ h.tidy.no_stray r i })

  roomy_as : IsRoomy (shape_in s last (known_as h))
  unfolding shape_in
  roomy_as = tt

  -- the counts, which are those of the attachments from before where the leaf is not attached, and else of those without the parent's

  parent_image : is_image_name p ≡ true
  unfolding is_image_name
  parent_image = ap is_image_name (parent_is h)

  base_there : In (machine_row (parent_row h)) (map machine_row m.rows)
  base_there = In-map_at machine_row m.rows (parent_row h) parent_at.0

  module _ (w : IsWellFormed (shape_in s t m)) (z : IsWellFormed (shape_in s last (known_as h))) where
    works : IsOperation (shape_in s t m) (folding_of h.attached l p cursor [])
    unfolding shape_in
    works = subst (IsOperation (shape_in s t m)) h.is w.operation

    differ : Distinct (map (λ (i : ImageRow). image_uuid i.name) (with_image (as_leaf l (machine_row (parent_row h))) (without_image p (without_image l (map machine_row m.rows)))))
    unfolding shape_in
    differ = subst (λ is. Distinct (map (λ (i : ImageRow). image_uuid i.name) is)) (images_then h) z.one_image

    swapped_refs : (n : Name) → refs n (shape_in s last (known_as h)) ≡ refs n (record (shape_in s t m) { images = with_image (as_leaf l (machine_row (parent_row h))) (without_image p (without_image l (map machine_row m.rows))) })
    unfolding shape_in refs
    swapped_refs n = ap (λ is. refs n (record (shape_in s t m) { images = is })) (images_then h)

    counts_by : (attached : Bool) → IsOperation (shape_in s t m) (folding_of attached l p cursor []) → (att : Attached) → CountsAs (folding_of attached l p cursor []) p m.attached att → (n : Name)
        → count_of att n ≡ refs n (shape_in s last (known_as h))
    unfolding shape_in
    counts_by false o att same n =
        ap (λ (x : Attached). count_of x n) same ∙ h.orderly.counts n
        ∙ sym (swapped_refs n ∙ swap_uses (shape_in s t m) l p w (only_of (shape_in s t m) false l p cursor [] o) parent_image (machine_row (parent_row h)) base_there (parent_at.1 ∙ sym (parent_is h))
        (parent_vol h).image_shown differ (free_of (shape_in s t m) l p cursor [] o) n (name_or n p))
    counts_by true o att gone n = by (name_or n p)
      where
        by : (n ≡ p) ⊎ (n ≢ p) → count_of att n ≡ refs n (shape_in s last (known_as h))
        by (inl is) = ap (count_of att) is ∙ gone.gone
            ∙ sym (swapped_refs n ∙ ap (λ x. refs x (record (shape_in s t m) { images = with_image (as_leaf l (machine_row (parent_row h))) (without_image p (without_image l (map machine_row m.rows))) })) is
            ∙ live_gone (shape_in s t m) l p w (only_of (shape_in s t m) true l p cursor [] o) parent_image (machine_row (parent_row h)) base_there (parent_at.1 ∙ sym (parent_is h)) (parent_vol h).image_shown differ)
        by (inr other) = gone.others n other ∙ h.orderly.counts n
            ∙ sym (swapped_refs n ∙ live_uses (shape_in s t m) l p w (only_of (shape_in s t m) true l p cursor [] o) parent_image (machine_row (parent_row h)) base_there (parent_at.1 ∙ sym (parent_is h))
            (parent_vol h).image_shown differ n other)

  -- attachments that are so
  abbrev uncounted : Attached
  uncounted = record m.attached { counts = filter (λ (e : Name × ℕ). not (same_name p e.0)) m.attached.counts }

  uncounted_is : IsUncounted p m.attached uncounted
  uncounted_is = record {
    disks = refl;
    gone = ap tally_of (lookup-without m.attached.counts p p ∙ ap (λ c. cond c None (lookup (same_name p) m.attached.counts)) (same_name-refl p));
    others = λ n other. ap tally_of (lookup-without m.attached.counts p n ∙ ap (λ c. cond c None (lookup (same_name n) m.attached.counts)) (other_name p n (λ is. other (sym is))));
    room = omega arith;
  }
    where
      tally_of : Option ℕ → ℕ
      tally_of o = unwrap_or o 0

  counted_by : (attached : Bool) → (att : Attached) × CountsAs (folding_of attached l p cursor []) p m.attached att
  counted_by true = (uncounted, uncounted_is)
  counted_by false = (m.attached, refl)

  pub counted_then : Attached
  counted_then = (counted_by h.attached).0

  pub counted_as : CountsAs m.op p m.attached counted_then
  unfolding counted_then
  counted_as = subst (λ o. CountsAs o p m.attached (counted_by h.attached).0) (sym h.is) (counted_by h.attached).1

  module _ (att : Attached) (so : CountsAs m.op p m.attached att) where
    as_folding : CountsAs (folding_of h.attached l p cursor []) p m.attached att
    as_folding = subst (λ o. CountsAs o p m.attached att) h.is so

    pub same_disks : att.disks ≡ m.attached.disks
    same_disks = by h.attached as_folding
      where
        by : (attached : Bool) → CountsAs (folding_of attached l p cursor []) p m.attached att → att.disks ≡ m.attached.disks
        by true w = w.disks
        by false w = ap (λ (x : Attached). x.disks) w

    pub same_room : m.attached.room ≤ att.room
    same_room = by h.attached as_folding
      where
        by : (attached : Bool) → CountsAs (folding_of attached l p cursor []) p m.attached att → m.attached.room ≤ att.room
        by true w = w.room
        by false w = let same = ap (λ (x : Attached). x.room) w in omega (arith, same)

    counts_then : (n : Name) → count_of att n ≡ refs n (shape_in s last (known_as h))
    counts_then n = ∥∥₁_elim h.orderly.well_formed (hlevel props) (λ w. ∥∥₁_elim well (hlevel props) (λ z. counts_by w z h.attached (works w z) att as_folding n))

    shape_as_with : shape_in s last (known_with h att) ≡ shape_in s last (known_as h)
    shape_as_with = shape_with h att same_disks ∙ ap (shape_in s last) (known_is h)

    rows_are : swapped_rows l (tree_row m.rows p) p m.rows ≡ rows_then h
    rows_are = ap (λ o. swapped_rows l o p m.rows) (parent_found h)

    pub orderly_then : IsOrderly s last (known_with h att)
    orderly_then = record {
      table = (stage_5 h).table;
      few_extents = h.orderly.few_extents;
      record_volume = ap (λ x. length (extents_of x)) mgt_same ∙ h.orderly.record_volume;
      few = (stage_5 h).few;
      new_named = λ r i fresh. absurd (true≢false (sym fresh ∙ none_new r i));
      images = λ n is. images_alike h n is ∙ ap (λ rs. tree_face (tree_row rs n)) (sym rows_are);
      logs = λ d. ap row_face (logs_stay h (stage_5 h) (Cbt d) refl) ∙ h.orderly.logs d;
      few_logs = h.orderly.few_logs;
      logs_in_order = h.orderly.logs_in_order;
      log_room = h.orderly.log_room;
      places = h.orderly.places;
      entries = (stage_5 h).entries_are;
      stands = λ r i. ⊎_elim
          (λ is. subst (λ (q : TreeRow). StandsIn s.geometry (q.extents * s.geometry.extent) q.image) (sym is)
          (stands_in s.geometry ((parent_row h).extents * s.geometry.extent) l (parent_row h).image (h.orderly.stands (parent_row h) parent_at.0)))
          (λ w. h.orderly.stands r w.0) (in_then h r (subst (In r) rows_are i));
      well_formed = subst (λ σ. ∥ IsWellFormed σ ∥₁) (sym shape_as_with) well;
      roomy = subst (λ σ. IsRoomy σ) (sym shape_as_with) roomy_as;
      counts = λ n. counts_then n ∙ sym (ap (refs n) shape_as_with);
    }

    pub tidy_with : IsTidy last (known_with h att)
    tidy_with = record { none_new = tidy_then.none_new; no_stray = tidy_then.no_stray }

  -- ---- ready

  module _ (old : Held) (ready : IsReady s t old m) where
    abbrev end : Held
    end = at_rest (reads old)

    -- an image is as steady on the same extents, once nothing is pending
    steady_at : (r : TreeRow) → In r m.rows → (es : List ℕ) → es ≡ extents_of (rows t (row_name r)) → IsSteady s.geometry (r.extents * s.geometry.extent) (volume s.geometry.extent es end) r.image
    steady_at r i es same =
        subst (λ fs. IsSteady s.geometry (r.extents * s.geometry.extent) (volume s.geometry.extent fs end) r.image) (sym same)
        (steady_keeps s.geometry (r.extents * s.geometry.extent) (volume_of s t old (row_name r)) (volume s.geometry.extent (extents_of (rows t (row_name r))) end) r.image
        (Keeps-volume s.geometry.extent (extents_of (rows t (row_name r))) (keeps_rest old)) (ready.firm.images r i))

    ready_as : IsReady s last end (known_as h)
    ready_as = record {
      firm = record {
        images = λ r i. ⊎_elim
            (λ is. subst (λ (q : TreeRow). IsSteady s.geometry (q.extents * s.geometry.extent) (volume_of s last end (row_name q)) q.image) (sym is)
            (steady_under s.geometry ((parent_row h).extents * s.geometry.extent) (volume_of s last end (row_name (folded h))) l (parent_row h).image
            (steady_at (parent_row h) parent_at.0 (extents_of (rows last (row_name (folded h)))) folded_extents)))
            (λ w. steady_at r w.0 (extents_of (rows last (row_name r))) (other_extents r w.0 w.1 w.2)) (in_then h r i);
        quiet = λ r i _. volume_rested s last (reads old) (row_name r);
        below = tt;
      };
      records = subst (λ es. Agrees (volume s.geometry.extent es end) m.places) (sym (ap extents_of mgt_same))
          (agrees_keeps (records_held s t old) (volume s.geometry.extent (extents_of (rows t Mgt)) end) m.places
          (Keeps-volume s.geometry.extent (extents_of (rows t Mgt)) (keeps_rest old)) ready.records);
      recorded = volume_rested s last (reads old) Mgt;
      logs = (holds_commit (holds_ready s t old m h.orderly ready) last (stage_5 h).table (λ d. logs_stay h (stage_5 h) (Cbt d) refl) (λ d. volume_rested s last (reads old) (Cbt d))).logs;
      logged = λ d. volume_rested s last (reads old) (Cbt d);
    }

    pub ready_then : IsReady s last end (known_then h)
    ready_then = subst (IsReady s last end) (sym (known_is h)) ready_as

    pub ready_with : (att : Attached) → IsReady s last end (known_with h att)
    ready_with att = record {
      firm = record { images = ready_then.firm.images; quiet = λ r i _. volume_rested s last (reads old) (row_name r); below = tt };
      records = ready_then.records;
      recorded = ready_then.recorded;
      logs = ready_as.logs;
      logged = ready_as.logged;
    }
