-- Whatever a stop leaves among the commits of a swap is kept and shows the disks from before. Behind the first of them, the leaf's
-- rename, each volume is looked at. From there on the commits are those by which an opening ends the folding of a leaf that was cut
-- short, so what they leave is kept and shows the same disks (`law_leaf` of `sm_standing`).
use Rattle.std.proofs.Common.{◌≡◌, ◌≢◌, ◌⊎◌, inl, inr, ⊎_elim, ℕ, ◌≤◌, ◌&&◌, ◌||◌, not, Bool, true, false, cond, List, [], ◌∷◌, ◌++◌, filter, get_or, length, take, Option, Some, None, is_some, map, refl, sym, ap, ap₂, ◌∙◌, subst, arith}
use Rattle.std.proofs.lemmas.Bool.{true≢false}
use Rattle.std.proofs.lemmas.Option.{none-some}
use Rattle.common_laws.specs.Lists.{In}
use Rattle.common_laws.proofs.Bytes.{same_or_not}
use Rattle.common_laws.proofs.Lists.{In-map_at, filter-In}
use Rattle.sm_base.specs.Kinds.{is_entry}
use Rattle.sm_base.specs.Numbers.{IsGeometry}
use Rattle.sm_base.specs.declared.names.Name.{Name}
use Rattle.sm_base.specs.declared.names.Name.TheVariants.{Mgt, Vhd, Raw, Old, Cbt, Clone, Inflate, Coalesce, Relink, Leaf}
use Rattle.sm_disk.specs.Held.{Held, reads}
use Rattle.sm_disk.proofs.HeldLaws.{may_settled}
use Rattle.vg_meta.specs.Tables.{Row, VolumeTable, extents_of, names_of, rows}
use Rattle.vg_meta.specs.declared.changes.Change.{Change}
use Rattle.vg_meta.specs.declared.changes.Change.TheVariants.{Mark, Remove, Rename}
use Rattle.vg_meta.specs.declared.changes.Tag.TheVariants.{Hidden}
use Rattle.vg_meta.proofs.ByName.{changes_by_name}
use Rattle.vg_meta.proofs.RowLaws.{row_of-name}
use Rattle.vg_volumes.specs.Commits.{IsBefore}
use Rattle.vg_volumes.specs.Sites.{Site, area_size}
use Rattle.vg_volumes.specs.Volumes.{piece}
use Rattle.sm_machine.specs.Disks.{Disk}
use Rattle.sm_machine.specs.Runs.{HasSector, face}
use Rattle.sm_record.specs.Records.{reading}
use Rattle.sm_record.specs.declared.records.Record.{Record}
use Rattle.sm_mgt.specs.Places.{as_reading}
use Rattle.sm_standing.specs.Apart.{IsSameApart, is_apart}
use Rattle.sm_standing.specs.Checks.{first_fault, is_damaged}
use Rattle.sm_standing.specs.Contents.{Content, is_record_of, reading_at, records, sectors_of}
use Rattle.sm_standing.specs.Entries.{folding, head, is_among, is_folding, is_leaf_renamed, is_leaf_swapped, is_making, making, of_row}
use Rattle.sm_standing.specs.Images.{Image, image_of}
use Rattle.sm_standing.specs.Keeping.{HoldsWell, IsHolding, IsKept}
use Rattle.sm_standing.specs.Leaves.{IsEnding}
use Rattle.sm_standing.specs.Logs.{IsLogged}
use Rattle.sm_standing.specs.Opened.{applied_all, end_changes, leaf_gone, parent_changes, wanted}
use Rattle.sm_standing.specs.Standing.{disks, stands_plainly}
use Rattle.sm_standing.specs.Swaps.{swapped}
use Rattle.sm_standing.specs.Undone.{IsSameArea}
use Rattle.sm_standing.proofs.DisksShown.{row_of-In}
use Rattle.sm_standing.proofs.ImageSectors.{same_images, vhd_same, whole_none}
use Rattle.sm_standing.proofs.LeafContents.{left_kept, left_on_the_way, left_shown}
use Rattle.sm_standing.proofs.LeafEnds.{ends_are}
use Rattle.sm_standing.proofs.RecordLists.{first_of, record_of_first, records_same}
use Rattle.sm_standing.proofs.SwapLaws.{leaf_among, swapping, which}
use Rattle.sm_ready.specs.Done.{at_rest}
use Rattle.sm_ready.specs.Known.{Known}
use Rattle.sm_ready.specs.Ready.{IsReady}
use Rattle.sm_ready.specs.Stores.{Leaving, MayShow, content_in, content_now}
use Rattle.sm_ready.proofs.CommitLaws.{IsSafe, ready_safe, volume_rested}
use Rattle.sm_ready.proofs.KeptLaws.{law_kept}
use Rattle.sm_ready.proofs.LeftLaws.{IsLeft, left_in, left_now, none_of_vhd, place_reads, ready_places}
use Rattle.sm_ready.proofs.LogLaws.{HoldsLogs, holds_commit, holds_ready, logged_left}
use Rattle.sm_ready.proofs.Orders.{geometry_of, whole}
use Rattle.sm_ready.proofs.RowLaws.{found_in}
use Rattle.sm_calls.specs.Calls.{GoesWell, ShowsBetween, commits}
use Rattle.sm_calls.proofs.StoreLaws.{safe_fine}
use Rattle.gc_leaf.specs.Moments.{IsSwapMoment}
use Rattle.gc_leaf.specs.Swapping.{front_changes, swap_changes}
use Rattle.gc_leaf.proofs.SwapCopied.{hidden_away, leaf_image, parent_image, stands_none, swappable}
use Rattle.gc_leaf.proofs.SwapNames.{folding_among, making_among}
use Rattle.gc_leaf.proofs.SwapPair.{no_raw_leaf, no_raw_parent, none_old, parent_vol, u, v}
use Rattle.gc_leaf.proofs.SwapSound.{swap_sound}
use Rattle.gc_leaf.proofs.SwapSteps.{IsToSwap}
use Rattle.gc_leaf.proofs.SwapTables.{IsSwapTable, base_was, logs_stay, may_1, stage_1, stage_2, stage_3, stage_4, table_1, table_2, table_3, table_4, table_then}

module _ {s : Site} {t : VolumeTable} {m : Known} {l p : Name} {cursor : ℕ} (h : IsToSwap s t m l p cursor) where
  abbrev leaf : List ℕ
  leaf = u h

  abbrev parent : List ℕ
  parent = v h

  abbrev us : List (List ℕ)
  us = swapped leaf parent

  -- ---- the table behind the leaf's rename

  abbrev x : VolumeTable
  x = table_1 h

  -- each volume but the leaf is as it was
  other_row : (y : Name) → y ≢ Vhd leaf → y ≢ Old leaf → rows x y ≡ rows t y
  other_row y not_leaf not_old = let c = changes_by_name s.count t (Rename (Vhd leaf) (Old leaf)) h.orderly.table (may_1 h) in c.others y (λ of. ⊎_elim not_leaf not_old of)

  raw_row : (w : List ℕ) → rows x (Raw w) ≡ rows t (Raw w)
  raw_row w = other_row (Raw w) (λ e. (let z = e in cc)) (λ e. (let z = e in cc))

  base_row : rows x (Vhd parent) ≡ rows t (Vhd parent)
  base_row = (stage_1 h).base_row ∙ sym (parent_vol h).there

  near : is_apart us (Vhd leaf) ≡ false
  near = ap (λ c. not (c || false)) (leaf_among leaf parent)

  apart_row : (y : Name) → is_apart us y ≡ true → rows x y ≡ rows t y
  apart_row y apart = other_row y (λ is. true≢false (sym apart ∙ ap (is_apart us) is ∙ near)) (λ is. true≢false (sym apart ∙ ap (is_apart us) is ∙ near))

  raised : t.sequence ≤ x.sequence
  raised = omega (arith, h.orderly.table.sequence)

  making_now : making x ≡ []
  making_now = making_among (names_of x.volumes) ∙ ap (filter is_making) (stage_1 h).entries_are

  folding_now : folding x ≡ Leaf leaf parent ∷ []
  folding_now = folding_among (names_of x.volumes) ∙ ap (filter is_folding) (stage_1 h).entries_are

  renamed_now : is_leaf_renamed x leaf parent ≡ true
  renamed_now =
      ap₂ (λ c d. c && d) (ap is_some (stage_1 h).gone_row)
      (ap₂ (λ c d. c && d) (ap (of_row (λ r. r.hidden && not r.fresh)) (stage_1 h).base_row ∙ ap₂ (λ c d. c && not d) (parent_vol h).shown (parent_vol h).filled)
      (ap₂ (λ c d. not (is_some c) && not (is_some d)) (stage_1 h).leaf_row (raw_row leaf ∙ no_raw_leaf h)))

  -- ---- which of its volumes have a name that speaks of the two

  found : (r : Row) → In r x.volumes → rows x r.name ≡ Some r
  found r i = found_in x.volumes (stage_1 h).table.volumes.rising r i

  none_at : {A : Type 0} (r : Row) → In r x.volumes → rows x r.name ≡ None → A
  none_at r i none = absurd (none-some r (sym none ∙ found r i))

  -- there is no other entry
  entry_is : (r : Row) → In r x.volumes → is_entry r.name ≡ true → r.name ≡ Leaf leaf parent
  entry_is r i e = by (subst (In r.name) (stage_1 h).entries_are (filter-In is_entry (names_of x.volumes) r.name (In-map_at (λ (y : Row). y.name) x.volumes r i) e))
    where
      by : In r.name (Leaf leaf parent ∷ []) → r.name ≡ Leaf leaf parent
      by (inl is) = is
      by (inr none) = absurd none

  one_of_two : (w : List ℕ) → not (is_among us w || false) ≡ false → (w ≡ leaf) ⊎ (w ≡ parent)
  one_of_two w e = by (which leaf parent w).cases
    where
      by : (w ≡ leaf) ⊎ ((w ≡ parent) ⊎ (is_among us w ≡ false)) → (w ≡ leaf) ⊎ (w ≡ parent)
      by (inl at) = inl at
      by (inr (inl at)) = inr at
      by (inr (inr other)) = absurd (true≢false (sym (ap (λ c. not (c || false)) other) ∙ e))

  raw_none : (w : List ℕ) → (w ≡ leaf) ⊎ (w ≡ parent) → rows x (Raw w) ≡ None
  raw_none w (inl at) = raw_row w ∙ ap (λ y. rows t (Raw y)) at ∙ no_raw_leaf h
  raw_none w (inr at) = raw_row w ∙ ap (λ y. rows t (Raw y)) at ∙ no_raw_parent h

  near_named : (r : Row) → In r x.volumes → (y : Name) → r.name ≡ y → is_apart us y ≡ false → (r.name ≡ Leaf leaf parent) ⊎ ((r.name ≡ Vhd parent) ⊎ (r.name ≡ Old leaf))
  near_named r i Mgt is e = absurd (true≢false e)
  near_named r i (Vhd w) is e = ⊎_elim (λ at. none_at r i (ap (rows x) (is ∙ ap Vhd at) ∙ (stage_1 h).leaf_row)) (λ at. inr (inl (is ∙ ap Vhd at))) (one_of_two w e)
  near_named r i (Raw w) is e = none_at r i (ap (rows x) is ∙ raw_none w (one_of_two w e))
  near_named r i (Old w) is e =
      ⊎_elim (λ same. inr (inr (is ∙ ap Old same)))
      (λ other. none_at r i (ap (rows x) is ∙ other_row (Old w) (λ z. (let y = z in cc)) (λ z. other (let y = z in cc)) ∙ none_old h w)) (same_or_not w leaf)
  near_named r i (Cbt w) is e = absurd (true≢false e)
  near_named r i (Clone d b w) is e = inl (entry_is r i (ap is_entry is))
  near_named r i (Inflate w j) is e = inl (entry_is r i (ap is_entry is))
  near_named r i (Coalesce c q) is e = inl (entry_is r i (ap is_entry is))
  near_named r i (Relink c q) is e = inl (entry_is r i (ap is_entry is))
  near_named r i (Leaf c q) is e = inl (entry_is r i (ap is_entry is))

  -- ---- the changes left are those by which an opening ends the folding of the leaf

  abbrev changes_left : List Change
  changes_left = Rename (Vhd parent) (Vhd leaf) ∷ Mark (Vhd leaf) Hidden false ∷ leaf_gone leaf parent

  -- what they are where the leaf was not renamed
  abbrev otherwise : List Change
  otherwise =
      cond (is_leaf_swapped x leaf parent) (wanted (of_row (λ r. r.hidden) (rows x (Vhd leaf))) (Mark (Vhd leaf) Hidden false) ++ leaf_gone leaf parent) (Remove (Leaf leaf parent) ∷ [])

  ends_so : end_changes x ≡ changes_left
  ends_so = ends_are x leaf parent folding_now ∙ ap₂ (λ b ns. cond b (parent_changes x parent (head ns) ++ changes_left) otherwise) renamed_now making_now

  ending : (k : ℕ) (y : VolumeTable) → y ≡ applied_all x (take k changes_left) → IsEnding x y
  ending k y is = (k, is ∙ ap (λ cs. applied_all x (take k cs)) (sym ends_so))

  -- ---- what a read gives behind the rename

  module _ (old : Held) (ready : IsReady s t old m) where
    abbrev a : Content
    a = content_now s t old

    abbrev b : Content
    b = content_in s x (reads old)

    geometry : IsGeometry s.geometry.extent s.geometry.block s.geometry.entries
    geometry = geometry_of s t m h.orderly

    same_sectors : (y : Name) → rows x y ≡ rows t y → (q : ℕ) → sectors_of b y q ≡ sectors_of a y q
    unfolding sectors_of
    same_sectors y same q = ap (λ r. piece s.geometry.extent (extents_of r) (reads old) q) same

    same_apart : IsSameApart a b us
    same_apart = same_images a b us geometry (record {
      extent = refl;
      block = refl;
      entries = refl;
      rows = apart_row;
      sectors = λ y q apart below. same_sectors y (apart_row y apart) q;
      whole = λ y apart. whole s t m y h.orderly;
      still_whole = λ y apart. whole_none x y making_now;
    })

    parent_same : image_of b (Vhd parent) ≡ image_of a (Vhd parent)
    parent_same = vhd_same a b parent parent (base_was h) (base_was h) geometry (record {
      extent = refl;
      block = refl;
      entries = refl;
      before = (parent_vol h).there;
      after = (stage_1 h).base_row;
      extents = refl;
      fresh = refl;
      sectors = λ q below. same_sectors (Vhd parent) base_row q;
    }) (whole s t m (Vhd parent) h.orderly) (whole_none x (Vhd parent) making_now)

    readings : (q : ℕ) → reading_at b q ≡ reading_at a q
    readings q = ap reading (same_sectors Mgt (apart_row Mgt refl) q)

    records_kept : (w : List ℕ) → filter (is_record_of w) (records b) ≡ filter (is_record_of w) (records a)
    records_kept w = records_same a b w (λ q below. readings q)

    undamaged : (y : Option Record) → is_damaged (as_reading y) ≡ false
    undamaged None = refl
    undamaged (Some r) = refl

    no_parent : stands_plainly x parent ≡ None
    no_parent = stands_none x parent (hidden_away (base_was h) (rows x (Vhd parent)) (stage_1 h).base_row (parent_vol h).shown) (raw_none parent (inr refl))

    first_moment : IsSwapMoment a b leaf parent (Vhd parent)
    first_moment = record {
      extent = refl;
      block = refl;
      entries = refl;
      table = (stage_1 h).table;
      later = raised;
      making = making_now;
      folding = folding_now;
      apart = same_apart;
      stage = inl (renamed_now, refl);
      no_parent = no_parent;
      few = (stage_1 h).few;
      now = base_was h;
      moved = (stage_1 h).base_row;
      image = parent_same;
      volumes = λ r i near. near_named r i r.name refl near;
      right = λ q below. ap is_damaged (readings q ∙ place_reads s t old m h.orderly ready q below) ∙ undamaged (get_or m.places q None);
      recorded = λ w. ap (λ (rs : List Record). length rs) (records_kept w);
    }

    first_disks : disks b ≡ disks a
    first_disks = swapping a b leaf parent (Vhd parent) (leaf_image h old ready) (parent_image h old ready) (swappable h old ready) (record {
      stage = inl (ap head folding_now, renamed_now, refl);
      none_making = making_now;
      apart = same_apart;
      no_parent = no_parent;
      image = parent_same;
      recorded = λ w. record_of_first b w ∙ ap first_of (records_kept w) ∙ sym (record_of_first a w);
    })

    was_kept : IsKept a
    was_kept = law_kept s t old m (reads old) h.orderly ready.firm (left_in s t m old (reads old) h.orderly (left_now s old)) (ready_places s t old m (reads old) h.orderly ready (left_now s old))

    first_sound : first_fault b ≡ None
    first_sound = swap_sound a b leaf parent (Vhd parent) (leaf_image h old ready) (parent_image h old ready) (swappable h old ready) was_kept.sound first_moment

    -- no slot of an image is empty, and no children are being linked
    holds_well : HoldsWell b
    holds_well = record {
      holding = λ w i is. each w i is (is_apart us (Vhd w)) refl;
      linking = λ c q r i j y there is linked under. absurd (no_relink c q r there);
    }
      where
        each : (w : List ℕ) (i : Image) → image_of b (Vhd w) ≡ Some i → (c : Bool) → is_apart us (Vhd w) ≡ c → IsHolding s.geometry.block i
        each w i is true apart = was_kept.holding w i (sym (same_apart.images (Vhd w) apart) ∙ is)
        each w i is false e = ⊎_elim
            (λ at. absurd (none-some i (sym (none_of_vhd b w (ap (λ y. rows x (Vhd y)) at ∙ (stage_1 h).leaf_row)) ∙ is)))
            (λ at. was_kept.holding parent i (sym parent_same ∙ ap (λ y. image_of b (Vhd y)) (sym at) ∙ is)) (one_of_two w e)

        no_relink : (c q : List ℕ) (r : Row) → rows x (Relink c q) ≡ Some r → ⊥
        no_relink c q r there =
            let name : r.name ≡ Relink c q = row_of-name x.volumes (Relink c q) r there in
            let is : r.name ≡ Leaf leaf parent = entry_is r (row_of-In x.volumes (Relink c q) r there).0 (ap is_entry name) in
            (let z = sym name ∙ is in cc)

    -- ---- whatever a stop leaves from then on

    abbrev IsLater : VolumeTable → (ℕ → List ℕ) → Type 0
    IsLater y image = IsKept (content_in s y image) × (disks (content_in s y image) ≡ disks a)

    later : (y : VolumeTable) → IsEnding x y → (image : ℕ → List ℕ) → IsLeft s (at_rest (reads old)) image → IsLater y image
    later y so image left =
        let way = left_on_the_way b first_sound (stage_1 h).table geometry leaf parent folding_now y so in
        let same : IsSameArea b image = λ q below. may_settled (at_rest (reads old)) q (image q) refl (left q below) in
        (left_kept b y way geometry holds_well image same, left_shown b y way geometry image same ∙ first_disks)

    -- it is safe
    later_safe : (y : VolumeTable) → IsEnding x y → (before : Leaving) → MayShow s before (disks a) → IsSafe s y (at_rest (reads old)) before (disks a)
    later_safe y so before might = record {
      kept = λ image left. (later y so image left).0;
      shown = λ image left.
          let same = (later y so image left).1 in
          record {
            faces = ap (map face) same;
            sectors = λ w q bytes has. (disks a, might, subst (λ (ds : List Disk). HasSector ds w q bytes) same has);
          };
    }

    -- and it shows the disks from before, all sectors at once
    later_shows : (y : VolumeTable) → IsEnding x y → (before : Leaving) → MayShow s before (disks a) → (image : ℕ → List ℕ) → IsLeft s (at_rest (reads old)) image → MayShow s before (disks (content_in s y image))
    later_shows y so before might image left = subst (λ (ds : List Disk). MayShow s before ds) (sym (later y so image left).1) might

    -- the logs stay
    holds : HoldsLogs s t old m.logs
    holds = holds_ready s t old m h.orderly ready

    later_logged : {y : VolumeTable} {own base gone : Option Row} {es : List Name} → IsSwapTable s.count t leaf parent y own base gone es → (image : ℕ → List ℕ) → IsLeft s (at_rest (reads old)) image
        → IsLogged (content_in s y image) m.logs
    later_logged {y = y} z = logged_left (holds_commit holds y z.table (λ w. logs_stay h z (Cbt w) refl) (λ w. volume_rested s y (reads old) (Cbt w))) z.table

    -- whatever a stop leaves in front of the last commit is fine
    pub front_fine : (before : Leaving) → MayShow s before (disks a) → ((image : ℕ → List ℕ) → IsBefore (area_size s) t old t image → before t image)
        → GoesWell (ShowsBetween s before (disks a) (disks a) m.logs) (λ y. y ≡ record { site = s; table = table_4 h; area = at_rest (reads old) }) (record { site = s; table = t; area = old }) (commits (front_changes leaf parent))
    front_fine before might stays = record {
      first = safe_fine m.logs (disks a) (ready_safe s t old m before h.orderly ready stays) (logged_left holds h.orderly.table);
      next = (
        safe_fine m.logs (disks a) (later_safe x (ending 0 x refl) before might) (later_logged (stage_1 h)),
        (
          safe_fine m.logs (disks a) (later_safe (table_2 h) (ending 1 (table_2 h) refl) before might) (later_logged (stage_2 h)),
          (
            safe_fine m.logs (disks a) (later_safe (table_3 h) (ending 2 (table_3 h) refl) before might) (later_logged (stage_3 h)),
            (safe_fine m.logs (disks a) (later_safe (table_4 h) (ending 3 (table_4 h) refl) before might) (later_logged (stage_4 h)), refl),
          ),
        ),
      );
    }

    -- and behind the last commit the disks are those from before
    pub disks_then : disks (content_now s (table_then h) (at_rest (reads old))) ≡ disks a
    disks_then = (later (table_then h) (ending 4 (table_then h) refl) (reads (at_rest (reads old))) (left_now s (at_rest (reads old)))).1

    -- whatever a stop leaves among the commits shows the disks of an image that might be left before
    pub moments_show : (before : Leaving) → MayShow s before (disks a) → ((image : ℕ → List ℕ) → IsBefore (area_size s) t old t image → before t image)
        → GoesWell (λ y image. MayShow s before (disks (content_in s y image))) (λ y. Unit {0}) (record { site = s; table = t; area = old }) (commits (swap_changes leaf parent))
    moments_show before might stays = record {
      first = λ image allowed. record { table = t; image = image; left = stays image (record { table_is = refl; sectors = allowed }); shown = refl };
      next = (
        later_shows x (ending 0 x refl) before might,
        (
          later_shows (table_2 h) (ending 1 (table_2 h) refl) before might,
          (
            later_shows (table_3 h) (ending 2 (table_3 h) refl) before might,
            (later_shows (table_4 h) (ending 3 (table_4 h) refl) before might, (later_shows (table_then h) (ending 4 (table_then h) refl) before might, tt)),
          ),
        ),
      );
    }
