-- A disk that is not attached goes, in a store: by one commit the volume, then the places of its record, then a sync.
use Rattle.std.proofs.Common.{◌≡◌, ◌≢◌, ◌⊎◌, inl, inr, ⊎_elim, IfSome, ℕ, suc, ◌+◌, ◌≤◌, ◌&&◌, not, Bool, true, false, cond, Contains, List, [], ◌∷◌, ◌++◌, length, map, Option, Some, None, refl, sym, ap, ap₂, ◌∙◌, subst, subst₂, arith}
use Rattle.std.proofs.Math.Logic.{∥∥₁_elim}
use Rattle.std.proofs.Math.Path.{fun_ext}
use Rattle.std.proofs.Props.{props}
use Rattle.std.specs.List.{filter}
use Rattle.std.specs.Str.{bytes_eq}
use Rattle.std.proofs.Math.ListN.{get_or, get_or-map}
use Rattle.std.proofs.lemmas.List.{length-map}
use Rattle.std.proofs.lemmas.List.Elements.{Contains-push_cases}
use Rattle.std.proofs.lemmas.Bool.{true≢false}
use Rattle.std.proofs.lemmas.Option.{none-some, same_Some}
use Rattle.vg_meta.proofs.NameLaws.{name_eq-other, name_eq-same, name_eq-true}
use Rattle.common_laws.proofs.Bytes.{bytes_eq-refl, bytes_eq-same}
use Rattle.common_laws.proofs.Lists.{In-filter, In-map, In-map_at}
use Rattle.sm_base.specs.declared.names.Name.{Name}
use Rattle.sm_base.specs.declared.names.Name.TheVariants.{Mgt, Vhd, Raw, Cbt}
use Rattle.sm_disk.specs.Held.{Held, IsSettled, May, reads}
use Rattle.sm_disk.specs.Sectors.{zeros}
use Rattle.common_laws.specs.Lists.{◌>>=◌, Distinct, In, numbers}
use Rattle.vg_meta.specs.Tables.{VolumeTable, extents_of, rows}
use Rattle.vg_meta.specs.Changes.{applied}
use Rattle.vg_meta.specs.declared.changes.Change.TheVariants.{Remove}
use Rattle.vg_meta.proofs.ByName.{changes_by_name, mgt_stays}
use Rattle.vg_volumes.specs.Commits.{IsBefore}
use Rattle.vg_volumes.specs.Sites.{Site, area_size}
use Rattle.vg_volumes.specs.Stored.{CanCommit, Commits, FailsToCommit, IsChoiceOf, IsEitherOf, WorksOn, Writes, stored}
use Rattle.vg_volumes.specs.declared.stores.Store.{Ghosts}
use Rattle.vg_volumes.proofs.StoredLaws.{did_in, stays_none}
use Rattle.vg_volumes.proofs.VolumeLaws.{KeepsElsewhere-same, Keeps-volume}
use Rattle.sm_record.specs.Records.{reading}
use Rattle.sm_record.specs.declared.records.Record.{Record}
use Rattle.sm_record.proofs.RoundTrips.{reading_zeros}
use Rattle.sm_mgt.specs.Places.{Agrees, HasAllPlaces, HasRecordAt, TornZeros, WroteZeros, cleared, is_of, records_held}
use Rattle.sm_mgt.proofs.AgreeLaws.{agrees_clear}
use Rattle.vhd_chain.specs.Trees.{has_name, row_name, tree_row, without}
use Rattle.vhd_chain.specs.declared.rows.TreeRow.{TreeRow}
use Rattle.sm_machine.specs.Disks.{Disk, is_disk}
use Rattle.sm_machine.specs.declared.commands.Command.TheVariants.{Delete}
use Rattle.sm_machine.specs.Shapes.{ImageRow, image_uuid, is_parent, same_image}
use Rattle.sm_machine.specs.Steps.{disks_next}
use Rattle.sm_run.specs.Between.{IsBetween}
use Rattle.sm_machine.proofs.ImageNames.{same_image-refl}
use Rattle.sm_standing.specs.Changes.{turns_of}
use Rattle.sm_standing.specs.Contents.{Content, record_of}
use Rattle.sm_standing.specs.Entries.{is_visible, of_row}
use Rattle.sm_standing.specs.Images.{Image, answer_of, image_of, image_reads, sectors_read, up}
use Rattle.sm_standing.specs.Keeping.{IsKept}
use Rattle.sm_standing.specs.Outlines.{link_of}
use Rattle.sm_standing.specs.Standing.{disk_at, disk_in, disks, standing_volume}
use Rattle.sm_standing.specs.Checks.{parent_is}
use Rattle.sm_standing.proofs.DiskChanges.{disks_less}
use Rattle.sm_standing.proofs.ImageLaws.{moved_disk}
use Rattle.sm_standing.proofs.RecordLists.{first_of, record_of_first, records_same}
use Rattle.sm_standing.proofs.WalkLaws.{turn-up, walk_same}
use Rattle.sm_ready.specs.Known.{Known, is_shown, known, machine_row, shape_in}
use Rattle.sm_ready.specs.Orderly.{IsOrderly}
use Rattle.sm_ready.specs.Ready.{IsReady, IsTidy}
use Rattle.sm_ready.specs.Done.{HasDone, IsCommit, at_rest}
use Rattle.sm_ready.specs.Sessions.{HasTreeRoom, IsOrderlyStore, IsTidyStore}
use Rattle.sm_ready.specs.Does.{ShapesAs, StoreDoes}
use Rattle.sm_ready.specs.Frames.{HasTrueImages}
use Rattle.sm_refs.specs.Attached.{Attached}
use Rattle.sm_log.specs.Logs.{Log}
use Rattle.sm_machine.specs.Operations.{Op}
use Rattle.sm_ready.specs.Stores.{MayShow, StoreLeaves, content_in, content_now, store_content}
use Rattle.sm_ready.specs.declared.memory.Memory.{Memory}
use Rattle.sm_ready.proofs.AfterLaws.{other_keeps}
use Rattle.sm_ready.proofs.CommitLaws.{already, law_single_commit, volume_rested}
use Rattle.sm_ready.proofs.FitLaws.{fits_orderly}
use Rattle.sm_ready.proofs.FrameLaws.{not_mgt, true_kept, volume_commits, volume_then, volume_works}
use Rattle.sm_ready.proofs.LeaveLaws.{left_choice}
use Rattle.sm_ready.proofs.LeftLaws.{extent_some, mgt_long}
use Rattle.sm_ready.proofs.OperationLaws.{below_alike}
use Rattle.sm_ready.proofs.RepairLaws.{all_quiet, swept_now, swept_ready}
use Rattle.sm_ready.proofs.RemoveLaws.{In-without, after, image_kept, no_child, same_rows, sectors_kept}
use Rattle.sm_ready.proofs.RestLaws.{IsOfRow, agrees_keeps, ready_rest}
use Rattle.sm_ready.proofs.ShapeLaws.{plainly_stands, standing_shown}
use Rattle.sm_ready.proofs.ChainLaws.{commit_failed, commit_made, only_crash, tab}
use Rattle.sm_ready.proofs.LogLaws.{holds_commit, holds_keeps, holds_ready, logged_before}
use Rattle.sm_ready.proofs.LogRows.{name_apart}
use Rattle.sm_standing.specs.Logs.{IsLogged}
use Rattle.sm_ready.proofs.StrayLaws.{IsFreed, IsSwept, IsUnseen, orderly_freed, shape_freed, swept_disks, swept_kept, with_places}
use Rattle.sm_ready.proofs.SyncLaws.{IsSynced}
use Rattle.sm_ready.proofs.TakenLaws.{IsTold}
use Rattle.cmd_change.proofs.DeleteLaws.{IsToDelete, apart, childless, filter_all, found, may_go, named_image, orderly_less, shape_less, still_seen, unseen, volume, without_image_of}

module _ {s : Site} {t : VolumeTable} {m : Known} {u : List ℕ} (h : IsToDelete s t m u) (old : Held) (ready : IsReady s t old m) where
  abbrev x : Name
  x = volume h

  abbrev next : VolumeTable
  next = applied t (Remove x)

  abbrev was : Content
  was = content_now s t old

  abbrev now : Content
  now = after s t old x

  images : (n : Name) → n ≢ x → image_of now n ≡ image_of was n
  images n other = image_kept s t old m (without_image_of x m) x n (rows t n) h.orderly (orderly_less h) (may_go h) other refl

  -- memory is ready on a device at rest
  pub ready_less : IsReady s next (at_rest (reads old)) (without_image_of x m)
  ready_less = ready_rest s t next old m (without_image_of x m) ready from (ap extents_of (mgt_stays s.count t (Remove x) h.orderly.table (may_go h))) refl
      (holds_commit (holds_ready s t old m h.orderly ready) next (orderly_less h).table (λ u. (changes_by_name s.count t (Remove x) h.orderly.table (may_go h)).others (Cbt u) (name_apart x (named_image h) u))
      (λ u. volume_rested s next (reads old) (Cbt u))).logs
      (volume_rested s next (reads old))
      (below_alike was now m.op refl refl (λ n works. images n (λ same. ∥∥₁_elim h.orderly.well_formed (hlevel props) (λ w. apart h w n works same))) ready.firm.below)
    where
      from : (q : TreeRow) → In q (without_image_of x m).rows → IsOfRow t next m q
      from q i =
          let w = In-filter (λ r. not (has_name x r)) m.rows q i in
          record {
            row = q;
            there = w.0;
            image = refl;
            extents = refl;
            same = ap extents_of (same_rows s t m x (row_name q) h.orderly (may_go h) (λ same. true≢false (sym w.1 ∙ ap not (name_eq-same (row_name q) x same))));
          }

  -- ---- the other disks

  not_up : (n : Name) (k : ℕ) (p : Name) → answer_of k (image_of was n) ≡ up p → p ≢ x
  not_up n k p sent same =
      let w = turn-up k (image_of was n) p sent in
      true≢false (sym (ap (λ o. parent_is x (link_of o)) w.there ∙ ap (is_parent x) w.parent ∙ ap (λ q. same_image q x) same ∙ same_image-refl x (named_image h)) ∙ no_child s t old m x n h.orderly ready (childless h))

  reads_kept : (n : Name) → n ≢ x → (k : ℕ) → image_reads now n k ≡ image_reads was n k
  unfolding image_reads
  reads_kept n other k = walk_same (λ j. j ≢ x) (turns_of was k) (turns_of now k) (record { closed = λ j p away sent. not_up j k p sent }) (λ j away. ap (answer_of k) (images j away)) 30 n other

  sectors_same : (n : Name) → n ≢ x → sectors_read now n ≡ sectors_read was n
  unfolding sectors_read
  sectors_same n other =
      ap₂ (λ (o : Option Image) (f : ℕ → List ℕ). elim o as (λ o. List (List ℕ)) [ None ↦ [] | Some i ↦ map f (numbers 0 i.size) ]) (images n other) (fun_ext (λ k. reads_kept n other k))

  recorded : (v : List ℕ) → record_of now v ≡ record_of was v
  recorded v = record_of_first now v
      ∙ ap first_of (records_same was now v (λ k below. ap reading (sectors_kept s t old x Mgt (mgt_stays s.count t (Remove x) h.orderly.table (may_go h)) k)))
      ∙ sym (record_of_first was v)

  away : (v : List ℕ) (n : Name) → v ≢ u → image_uuid n ≡ v → n ≢ x
  away v n other its same = other (sym its ∙ ap image_uuid same ∙ h.own.uuid)

  seen_same : (n : Name) → n ≢ x → is_visible next n ≡ is_visible t n
  seen_same n other = ap (of_row (λ q. not q.hidden && not q.fresh)) (same_rows s t m x n h.orderly (may_go h) other)

  stands_same : (v : List ℕ) → v ≢ u → standing_volume next v ≡ standing_volume t v
  unfolding image_uuid
  stands_same v other =
      plainly_stands s next (without_image_of x m) v (orderly_less h)
      ∙ ap₂ (λ (a b : Bool). cond a (Some (Vhd v)) (cond b (Some (Raw v)) None)) (seen_same (Vhd v) (away v (Vhd v) other refl)) (seen_same (Raw v) (away v (Raw v) other refl))
      ∙ sym (plainly_stands s t m v h.orderly)

  its_uuid : (a b : Bool) (v : List ℕ) (n : Name) → cond a (Some (Vhd v)) (cond b (Some (Raw v)) None) ≡ Some n → image_uuid n ≡ v
  unfolding image_uuid
  its_uuid true b v n e = ap image_uuid (sym (same_Some (Vhd v) n e))
  its_uuid false true v n e = ap image_uuid (sym (same_Some (Raw v) n e))
  its_uuid false false v n e = absurd (none-some n e)

  others : (v : List ℕ) → v ≢ u → disk_at now v ≡ disk_at was v
  unfolding disk_at
  others v other = by (standing_volume t v) refl
    where
      by : (o : Option Name) → standing_volume t v ≡ o → disk_at now v ≡ disk_at was v
      by None is = ap (λ (o : Option Name). o >>= (λ n. record_of now v >>= (λ r. Some (disk_in now v r n)))) (stands_same v other ∙ is)
          ∙ sym (ap (λ (o : Option Name). o >>= (λ n. record_of was v >>= (λ r. Some (disk_in was v r n)))) is)
      by (Some n) is = moved_disk was now v n n is (stands_same v other ∙ is) (recorded v)
          (sectors_same n (away v n other (its_uuid (is_visible t (Vhd v)) (is_visible t (Raw v)) v n (sym (plainly_stands s t m v h.orderly) ∙ is))))

  gone : disk_at now u ≡ None
  unfolding disk_at
  gone = by (standing_volume next u) refl
    where
      by : (o : Option Name) → standing_volume next u ≡ o → disk_at now u ≡ None
      by None is = ap (λ (o : Option Name). o >>= (λ n. record_of now u >>= (λ r. Some (disk_in now u r n)))) is
      by (Some n) is = absurd (true≢false (sym (standing_shown s next (without_image_of x m) u n (orderly_less h) is) ∙ unseen h))

  -- the disks are these without the one
  pub disks_deleted : disks now ≡ filter (λ d. not (is_disk u d)) (disks was)
  disks_deleted = disks_less was now u gone others

-- ---- the places of its record

-- each place that had a record of the UUID is free
cleared_free : (rs : List TreeRow) (places : List (Option Record)) (u : List ℕ) → is_shown rs u ≡ false → IsFreed rs places (map (cleared u) places)
cleared_free rs places u gone_from = record {
  long = length-map places (cleared u);
  each = λ k. subst (λ y. (y ≡ get_or places k None) ⊎ ((y ≡ None) × IsUnseen rs (get_or places k None))) (sym (get_or-map (cleared u) places k None)) (one (get_or places k None));
}
  where
    of : (r : Record) (b : Bool) → bytes_eq r.uuid u ≡ b → (cond b None (Some r) ≡ Some r) ⊎ ((cond b None (Some r) ≡ None) × IsUnseen rs (Some r))
    of r true is = inr (refl, record { entry = r; held = refl; unseen = ap (is_shown rs) (bytes_eq-same r.uuid u is) ∙ gone_from })
    of r false is = inl refl

    one : (y : Option Record) → (cleared u y ≡ y) ⊎ ((cleared u y ≡ None) × IsUnseen rs y)
    one None = inl refl
    one (Some r) = of r (bytes_eq r.uuid u) refl

-- no record is stray any more
pub tidy_deleted : {s : Site} {t : VolumeTable} {m : Known} {u : List ℕ} (h : IsToDelete s t m u) → IsTidy (applied t (Remove (volume h))) (with_places (map (cleared u) m.places) (without_image_of (volume h) m))
tidy_deleted {s} {t} {m} {u} h = record {
  none_new = λ q i. h.tidy.none_new q (In-without (volume h) q t.volumes i);
  no_stray = λ r i. let w = In-map (cleared u) m.places (Some r) i in of r w.0 w.1 w.2;
}
  where
    by : (r q : Record) (b : Bool) → bytes_eq q.uuid u ≡ b → In (Some q) m.places → Some r ≡ cond b None (Some q) → is_shown (without_image_of (volume h) m).rows r.uuid ≡ true
    by r q true is i e = absurd (none-some r (sym e))
    by r q false is i e =
        ap (λ (z : Record). is_shown (without_image_of (volume h) m).rows z.uuid) (same_Some r q e)
        ∙ still_seen h q.uuid (λ same. true≢false (sym (subst (λ v. bytes_eq v u ≡ true) (sym same) (bytes_eq-refl u)) ∙ is))
        ∙ h.tidy.no_stray q i

    of : (r : Record) (o : Option Record) → In o m.places → Some r ≡ cleared u o → is_shown (without_image_of (volume h) m).rows r.uuid ≡ true
    of r None i e = absurd (none-some r (sym e))
    of r (Some q) i e = by r q (bytes_eq q.uuid u) refl i e

-- what a stop may leave of a volume in which zeros were to be written
may_zeroed : {At : ℕ → Type 0} {a b : Held} → TornZeros At a b → (p : ℕ) (v : List ℕ) → May b p v → May a p v ⊎ ((v ≡ zeros) × At p)
may_zeroed {At} {a} {b} z p v (inl floor) = inl (inl (floor ∙ z.floor p))
may_zeroed {At} {a} {b} z p v (inr pending) = by (z.pending p)
  where
    by : (b.pending p ≡ a.pending p) ⊎ (At p × (b.pending p ≡ a.pending p ++ zeros ∷ [])) → May a p v ⊎ ((v ≡ zeros) × At p)
    by (inl same) = inl (inr (subst (λ (vs : List (List ℕ)). Contains vs v) same pending))
    by (inr w) = ⊎_elim (λ before. inl (inr before)) (λ is. inr (sym is, w.0)) (Contains-push_cases (a.pending p) zeros v (subst (λ (vs : List (List ℕ)). Contains vs v) w.1 pending))

-- a place with a record of a UUID that no image has
unseen_at : (rs : List TreeRow) (places : List (Option Record)) (u : List ℕ) (p : ℕ) → is_shown rs u ≡ false → HasRecordAt places u p → IsUnseen rs (get_or places p None)
unseen_at rs places u p gone_from has = by (get_or places p None) refl has
  where
    by : (y : Option Record) → get_or places p None ≡ y → is_of u y ≡ true → IsUnseen rs y
    by None is e = absurd (true≢false (sym e))
    by (Some r) is e = record { entry = r; held = refl; unseen = ap (is_shown rs) (bytes_eq-same r.uuid u e) ∙ gone_from }

-- ---- in a store

abbrev pub less_disks : List ℕ → List Disk → List Disk
less_disks u ds = filter (λ d. not (is_disk u d)) ds

-- memory without the image and without the record
abbrev pub ended : Name → List ℕ → Known → Known
ended x u m = with_places (map (cleared u) m.places) (without_image_of x m)

pub known_ended : (m n : Memory) (x y : Name) (u : List ℕ) → x ≡ y → n.tree.rows ≡ without x m.tree.rows → n.records ≡ map (cleared u) m.records → n.logs ≡ m.logs → n.attached ≡ m.attached → n.operation ≡ m.operation
    → known n ≡ ended y u (known m)
known_ended m n x y u same rows_are records_are logs_are attached_are operation_is =
    ap₂ (λ (rs : List TreeRow) (ps : List (Option Record)). let k : Known = record { rows = rs; places = ps; logs = n.logs; attached = n.attached; op = n.operation } in k) (rows_are ∙ ap (λ z. without z m.tree.rows) same) records_are
    ∙ ap₂ (λ (z : Attached) (o : Op). let k : Known = record { rows = without y m.tree.rows; places = map (cleared u) m.records; logs = n.logs; attached = z; op = o } in k) attached_are operation_is
    ∙ ap (λ (ls : List Log). let k : Known = record { rows = without y m.tree.rows; places = map (cleared u) m.records; logs = ls; attached = m.attached; op = m.operation } in k) logs_are

module _ {S : Type 0} (g : Ghosts S) (a : S) (m : Memory) {u : List ℕ} (d : IsToDelete (g.site a) (tab g a) (known m) u) {x : Name} (is : x ≡ volume d) where
  abbrev less_known : Known
  less_known = without_image_of (volume d) (known m)

  abbrev less_table : VolumeTable
  less_table = applied (tab g a) (Remove (volume d))

  pub can_remove : g.failed a ≡ false → CanCommit g (Remove x) a
  can_remove usable = subst (λ n. CanCommit g (Remove n) a) (sym is) (record {
    usable = usable;
    allowed = may_go d;
    room = tt;
    fits = fits_orderly (g.site a) less_table less_known (orderly_less d);
  })

  -- behind the commit
  module _ {b : S} (c : Commits g (Remove x) a b) where
    removed : Commits g (Remove (volume d)) a b
    removed = subst (λ n. Commits g (Remove n) a b) is c

    orderly_removed : IsOrderly (g.site b) (tab g b) less_known
    orderly_removed = subst₂ (λ y z. IsOrderly y z less_known) (sym c.site) (sym removed.table) (orderly_less d)

    pub has_places : HasAllPlaces g b
    has_places = mgt_long (g.site b) (tab g b) less_known orderly_removed

    -- the images that are left stay true, and work on the records leaves them so
    pub true_deleted : {f : S} → WorksOn g Mgt b f → (n : Memory) → n.tree.rows ≡ without x m.tree.rows → HasTrueImages g a m → HasTrueImages g f n
    true_deleted works n less = true_kept g m n (works.stays.site ∙ c.site) (λ told r i.
        let w = In-filter (λ q. not (has_name x q)) m.tree.rows r (subst (In r) less i) in
        let away : row_name r ≢ volume d = λ same. true≢false (sym w.1 ∙ ap not (name_eq-same (row_name r) x (same ∙ sym is))) in
        (w.0, volume_then r (volume_commits r d.orderly.table (may_go d) away removed told) (volume_works r orderly_removed.table (not_mgt (g.site a) (tab g a) (known m) d.orderly r w.0) works told)))

  -- and at the end
  module _ {f : S} (site : g.site f ≡ g.site a) (table : tab g f ≡ applied (tab g a) (Remove x)) (n : Memory) (memory : known n ≡ ended (volume d) u (known m)) where
    table_end : tab g f ≡ less_table
    table_end = table ∙ ap (λ z. applied (tab g a) (Remove z)) is

    freed_end : IsFreed less_known.rows m.records (map (cleared u) m.records)
    freed_end = cleared_free less_known.rows m.records u (unseen d)

    pub orderly_end : IsOrderlyStore g f n
    orderly_end = subst₂ (λ y z. IsOrderly y z (known n)) (sym site) (sym table_end)
        (subst (IsOrderly (g.site a) less_table) (sym memory) (orderly_freed (g.site a) less_table less_known (map (cleared u) m.records) (orderly_less d) freed_end))

    pub tidy_end : IsTidyStore g f n
    tidy_end = subst₂ IsTidy (sym table_end) (sym memory) (tidy_deleted d)

    pub shape_end : ShapesAs g (Delete u) a m f n
    shape_end = ap₂ (λ y z. shape_in y z (known n)) site table_end ∙ ap (shape_in (g.site a) less_table) memory
        ∙ shape_freed (g.site a) less_table less_known (map (cleared u) m.records) freed_end ∙ shape_less d

module _ {S : Type 0} {g : Ghosts S} {a : S} {m : Memory} {u : List ℕ} (h : IsTold g a m) (d : IsToDelete (g.site a) (tab g a) (known m) u) {x : Name} (is : x ≡ volume d) where
  abbrev was_disks : List Disk
  was_disks = disks (store_content g a)

  first : {b : S} (ok : Type 0) → IsCommit (g.site a) (tab g a) (less_table g a m d is) (g.area a) (g.area b) (StoreLeaves g b) ok
      → HasDone (g.site a) (tab g a) (less_table g a m d is) (g.area a) (g.area b) (less_known g a m d is) (StoreLeaves g a) (StoreLeaves g b) ok (less_disks u was_disks)
  first {b} ok commit =
      law_single_commit (g.site a) (tab g a) (less_table g a m d is) (g.area a) (g.area b) (known m) (less_known g a m d is) (StoreLeaves g a) (StoreLeaves g b) ok (less_disks u was_disks) h.orderly h.ready
      (orderly_less d) (ready_less d (g.area a) h.ready) (λ image at. inr (h.told, h.usable, at)) commit (disks_deleted d (g.area a) h.ready) refl

  stops : {b : S} → ((v : VolumeTable) (image : ℕ → List ℕ) → g.leaves b v image → IsEitherOf (stored g a) (Remove x) v image) → (v : VolumeTable) (image : ℕ → List ℕ) → g.leaves b v image → IsEitherOf (stored g a) (Remove (volume d)) v image
  stops stop v image l = subst (λ n. IsEitherOf (stored g a) (Remove n) v image) is (stop v image l)

  -- the commit failed
  pub remove_failed : {b : S} (n : Memory) (ok : Type 0) → (ok → ⊥) → n.logs ≡ m.logs → FailsToCommit g a b → ((v : VolumeTable) (image : ℕ → List ℕ) → g.leaves b v image → IsEitherOf (stored g a) (Remove x) v image)
      → StoreDoes g (Delete u) a m b n ok
  unfolding disks_next
  remove_failed n ok never same_logs fails stop =
      let done = first ok (commit_failed g (Remove (volume d)) ok never refl refl h.told fails (stops stop)) in
      only_crash never done.crash (λ v image l. subst (IsLogged (content_in (g.site a) v image)) (sym same_logs) (done.logged v image l))

  module _ {b : S} (c : Commits g (Remove x) a b) (stop : (v : VolumeTable) (image : ℕ → List ℕ) → g.leaves b v image → IsEitherOf (stored g a) (Remove x) v image) where
    abbrev orderly_b : IsOrderly (g.site b) (tab g b) (less_known g a m d is)
    orderly_b = orderly_removed g a m d is c

    done_first : HasDone (g.site a) (tab g a) (less_table g a m d is) (g.area a) (g.area b) (less_known g a m d is) (StoreLeaves g a) (StoreLeaves g b) (Unit {0}) (less_disks u was_disks)
    done_first = first (Unit {0}) (commit_made g (Remove (volume d)) (Unit {0}) refl refl h.told (removed g a m d is c) (stops stop))

    ready_b : IsReady (g.site b) (tab g b) (g.area b) (less_known g a m d is)
    ready_b = subst₂ (λ y z. IsReady y z (g.area b) (less_known g a m d is)) (sym c.site) (sym (removed g a m d is c).table) (done_first.ready tt)

    shown_b : disks (store_content g b) ≡ less_disks u was_disks
    shown_b = subst₂ (λ y z. disks (content_now y z (g.area b)) ≡ less_disks u was_disks) (sym c.site) (sym (removed g a m d is c).table) (done_first.shown tt)

    settled_b : IsSettled (g.area b)
    settled_b = c.settled h.told

    module _ {e : S} (w : Writes g Mgt (TornZeros (HasRecordAt m.records u)) b e) (choice : (v : VolumeTable) (image : ℕ → List ℕ) → g.leaves e v image → IsChoiceOf (stored g e) v image) where
      swept : IsSwept (g.site b) (tab g b) (less_known g a m d is) (g.area b) (g.area e)
      unfolding zeros
      swept = record {
        images = λ q i. other_keeps (g.site b) (tab g b) (g.area b) (g.area e) Mgt (row_name q) orderly_b.table (extent_some (g.site b) (tab g b) (less_known g a m d is) orderly_b)
            (KeepsElsewhere-same (w.beside h.told)) (not_mgt (g.site b) (tab g b) (less_known g a m d is) orderly_b q i);
        logs = λ v. other_keeps (g.site b) (tab g b) (g.area b) (g.area e) Mgt (Cbt v) orderly_b.table (extent_some (g.site b) (tab g b) (less_known g a m d is) orderly_b)
            (KeepsElsewhere-same (w.beside h.told)) (λ same. let z = same in cc);
        records = λ p v below may. ⊎_elim (λ was. inl was) (λ z. inr (ap reading z.0 ∙ reading_zeros 512, unseen_at (less_known g a m d is).rows m.records u p (unseen d) z.1))
            (may_zeroed (did_in (stays_none b) w h.told) p v may);
      }

      -- what a stop leaves while the places are cleared
      cleared_crash : (v : VolumeTable) (image : ℕ → List ℕ) → IsBefore (area_size (g.site b)) (tab g b) (g.area e) v image
          → IsKept (content_in (g.site a) v image) × IsBetween (MayShow (g.site a) (StoreLeaves g a)) was_disks (less_disks u was_disks) (disks (content_in (g.site a) v image))
      cleared_crash v image at =
          let shown = swept_disks (g.site b) (tab g b) (less_known g a m d is) (g.area b) (g.area e) orderly_b ready_b swept image at.sectors (all_quiet (g.site b) (tab g b) (g.area b) settled_b) ∙ shown_b in
          subst₂ (λ z y. IsKept (content_in z y image) × IsBetween (MayShow (g.site a) (StoreLeaves g a)) was_disks (less_disks u was_disks) (disks (content_in z y image))) c.site (sym at.table_is) (
            swept_kept (g.site b) (tab g b) (less_known g a m d is) (g.area b) (g.area e) orderly_b ready_b swept image at.sectors,
            inr (already (MayShow (g.site a) (StoreLeaves g a)) (less_disks u was_disks) (disks (content_in (g.site b) (tab g b) image)) shown),
          )

      -- and it has the logs of memory
      cleared_logged : (logs : List Log) → logs ≡ m.logs → (v : VolumeTable) (image : ℕ → List ℕ) → IsBefore (area_size (g.site b)) (tab g b) (g.area e) v image → IsLogged (content_in (g.site a) v image) logs
      cleared_logged logs same v image at = subst₂ (λ z ls. IsLogged (content_in z v image) ls) c.site (sym same) (logged_before
          (holds_keeps (holds_ready (g.site b) (tab g b) (g.area b) (less_known g a m d is) orderly_b ready_b) (g.area e) swept.logs) orderly_b.table v image at)

      left_cleared : (v : VolumeTable) (image : ℕ → List ℕ) → StoreLeaves g e v image → IsBefore (area_size (g.site b)) (tab g b) (g.area e) v image
      left_cleared v image l =
          subst₂ (λ y z. IsBefore (area_size y) z (g.area e) v image) w.stays.site w.stays.table (left_choice g.told (g.site e) (tab g e) (g.area e) (g.leaves e) (g.failed e) choice v image l)

      -- a write failed
      pub clear_failed : (n : Memory) (ok : Type 0) → (ok → ⊥) → n.logs ≡ m.logs → StoreDoes g (Delete u) a m e n ok
      unfolding disks_next
      clear_failed n ok never same_logs = only_crash never (λ v image l. cleared_crash v image (left_cleared v image l)) (λ v image l. cleared_logged n.logs same_logs v image (left_cleared v image l))

      module _ {f : S} (y : IsSynced g e f) where
        left_end : (v : VolumeTable) (image : ℕ → List ℕ) → StoreLeaves g f v image → IsBefore (area_size (g.site b)) (tab g b) (g.area e) v image
        left_end v image l = ⊎_elim (λ k. left_cleared v image (inl (y.leaves v image k)))
            (λ z. let now = subst₂ (λ k t. IsBefore (area_size k) t (g.area f) v image) (y.site ∙ w.stays.site) (y.table ∙ w.stays.table) z.2 in
            record { table_is = now.table_is; sectors = λ p below. y.keeps.may p (image p) (now.sectors p below) }) l

        end_crash : (v : VolumeTable) (image : ℕ → List ℕ) → StoreLeaves g f v image
            → IsKept (content_in (g.site a) v image) × IsBetween (MayShow (g.site a) (StoreLeaves g a)) was_disks (less_disks u was_disks) (disks (content_in (g.site a) v image))
        end_crash v image l = cleared_crash v image (left_end v image l)

        -- the sync behind them failed
        pub end_failed : (n : Memory) (ok : Type 0) → (ok → ⊥) → n.logs ≡ m.logs → StoreDoes g (Delete u) a m f n ok
        unfolding disks_next
        end_failed n ok never same_logs = only_crash never end_crash (λ v image l. cleared_logged n.logs same_logs v image (left_end v image l))

        module _ (settled : IsSettled (g.area f)) (wrote : Writes g Mgt (WroteZeros (HasRecordAt m.records u)) b e) where
          agrees : Agrees (records_held (g.site b) (tab g b) (g.area f)) (map (cleared u) m.records)
          agrees = agrees_keeps (records_held (g.site b) (tab g b) (g.area e)) (records_held (g.site b) (tab g b) (g.area f)) (map (cleared u) m.records)
              (Keeps-volume (g.site b).geometry.extent (extents_of (rows (tab g b) Mgt)) y.keeps)
              (agrees_clear m.records u (records_held (g.site b) (tab g b) (g.area b)) (records_held (g.site b) (tab g b) (g.area e)) (did_in (stays_none b) wrote h.told) ready_b.records)

          ready_end : IsReady (g.site b) (tab g b) (g.area f) (ended (volume d) u (known m))
          ready_end = swept_ready (g.site b) (tab g b) (less_known g a m d is) (g.area b) (g.area e) (g.area f) orderly_b ready_b swept y.keeps (map (cleared u) m.records) settled agrees settled_b

          shown_end : disks (content_now (g.site b) (tab g b) (g.area f)) ≡ less_disks u was_disks
          shown_end = swept_now (g.site b) (tab g b) (less_known g a m d is) (g.area b) (g.area e) (g.area f) orderly_b ready_b swept y.keeps settled_b ∙ shown_b

          -- all lasts, without the disk
          pub end_done : (n : Memory) (ok : Type 0) → known n ≡ ended (volume d) u (known m) → StoreDoes g (Delete u) a m f n ok
          unfolding disks_next
          end_done n ok memory =
              let table : tab g b ≡ tab g f = sym (y.table ∙ w.stays.table) in
              record {
                ready = λ _. subst₂ (λ k t. IsReady k t (g.area f) (known n)) c.site table (subst (IsReady (g.site b) (tab g b) (g.area f)) (sym memory) ready_end);
                settled = λ _. settled;
                shown = λ _. subst₂ (λ k t. disks (content_now k t (g.area f)) ≡ less_disks u was_disks) c.site table shown_end;
                crash = end_crash;
                logged = λ v image l. cleared_logged n.logs (ap (λ (k : Known). k.logs) memory) v image (left_end v image l);
              }

-- ---- room

-- at most one row has a name
one_fewer : (rs : List TreeRow) (x : Name) → Distinct (map (λ i. image_uuid i.name) (map machine_row rs)) → length rs ≤ length (without x rs) + 1
one_fewer [] x differ = omega arith
one_fewer (r ∷ rs) x differ = by (has_name x r) refl (one_fewer rs x differ.1)
  where
    others_stay : has_name x r ≡ true → (q : TreeRow) → In q rs → not (has_name x q) ≡ true
    others_stay is q i = ap not (name_eq-other (row_name q) x (λ same. differ.0 (subst (λ v. In v (map (λ y. image_uuid y.name) (map machine_row rs))) (ap image_uuid (same ∙ sym (name_eq-true (row_name r) x is)))
        (In-map_at (λ (y : ImageRow). image_uuid y.name) (map machine_row rs) (machine_row q) (In-map_at machine_row rs q i)))))

    by : (b : Bool) → has_name x r ≡ b → length rs ≤ length (without x rs) + 1 → suc (length rs) ≤ length (cond (not b) (r ∷ without x rs) (without x rs)) + 1
    by true is more = let all = ap (λ (qs : List TreeRow). length qs) (filter_all (λ q. not (has_name x q)) rs (others_stay is)) in omega (arith, all)
    by false is more = omega (arith, more)

-- the tree keeps room for all images
pub tree_room_less : {s : Site} {t : VolumeTable} {k : Known} {u : List ℕ} (d : IsToDelete s t k u) {x : Name} → x ≡ volume d → (m n : Memory) → known m ≡ k → (taken : Option TreeRow) → taken ≡ tree_row m.tree.rows x → n.tree.rows ≡ without x m.tree.rows
    → IfSome taken (λ _. n.tree.spare ≡ m.tree.spare + 1) → HasTreeRoom m → HasTreeRoom n
unfolding shape_in
tree_room_less {s} {t} {k} {u} d {x} is m n same taken was rows spare room = ∥∥₁_elim d.orderly.well_formed (hlevel props) (λ w.
    let long = ap (λ (qs : List TreeRow). length qs) rows in
    let there : taken ≡ Some d.own.row = was ∙ ap (tree_row m.tree.rows) is ∙ ap (λ (z : Known). tree_row z.rows (volume d)) same ∙ found d in
    let more : n.tree.spare ≡ m.tree.spare + 1 = subst (λ o. IfSome o (λ _. n.tree.spare ≡ m.tree.spare + 1)) there spare in
    let fewer = one_fewer m.tree.rows x (subst (λ (z : Known). Distinct (map (λ i. image_uuid i.name) (map machine_row z.rows))) (sym same) w.one_image) in
    omega (arith, long, more, fewer, room))
