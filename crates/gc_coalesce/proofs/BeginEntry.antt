-- The entry of a copy, of a hidden image or of a disk's leaf, is put, once its parent has the child's size: what the commit asks, what a stop leaves, and what is known behind it.
use Rattle.std.proofs.Common.{◌≡◌, inl, inr, ℕ, ◌<◌, Bool, true, false, List, [], Option, Some, None, refl, sym, ap, ap₂, ◌∙◌, subst, subst₂, arith}
use Rattle.std.proofs.Math.Logic.{∥∥₁_elim}
use Rattle.std.proofs.Props.{props}
use Rattle.std.specs.List.{IsDistinct}
use Rattle.std.proofs.lemmas.Bool.{true≢false}
use Rattle.std.proofs.lemmas.Option.{none-some, same_Some}
use Rattle.common_laws.specs.Lists.{In}
use Rattle.common_laws.proofs.Lists.{In-map_at, filter-In}
use Rattle.sm_base.specs.Kinds.{is_entry}
use Rattle.sm_base.specs.Names.{IsName, IsUuid}
use Rattle.sm_base.specs.declared.names.Name.{Name}
use Rattle.sm_base.specs.declared.names.Name.TheVariants.{Vhd, Raw}
use Rattle.sm_machine.specs.Operations as op
use Rattle.sm_disk.specs.Held.{Held, reads}
use Rattle.sm_log.specs.Logs.{Log}
use Rattle.vg_meta.specs.Changes.{Permits, applied}
use Rattle.vg_meta.specs.Tables.{IsTable, Row, VolumeTable, names_of, rows}
use Rattle.vg_meta.specs.declared.changes.Change.{Change}
use Rattle.vg_meta.specs.declared.changes.Change.TheVariants.{Create}
use Rattle.vg_meta.proofs.NameLaws.{name_eq-true}
use Rattle.vg_volumes.specs.Commits.{IsBefore, IsEither}
use Rattle.vg_volumes.specs.Sites.{Fits, Site, area_size}
use Rattle.vg_volumes.specs.Stored.{CanCommit, Commits, FailsToCommit, IsChoiceOf, IsEitherOf, Stays, stored}
use Rattle.vg_volumes.specs.declared.stores.Store.{Ghosts}
use Rattle.vhd_image.specs.Bodies.{sector_count}
use Rattle.vhd_chain.specs.Trees.{row_name, tree_row}
use Rattle.vhd_chain.specs.declared.rows.TreeRow.{TreeRow}
use Rattle.sm_machine.specs.Disks.{Disk}
use Rattle.sm_machine.specs.Shapes.{ImageRow, Shape, image_uuid, risen}
use Rattle.sm_machine.specs.WellFormed.{IsOnlyChild, is_image_name}
use Rattle.sm_run.specs.Between.{IsBetween}
use Rattle.sm_standing.specs.Images.{Image, image_of}
use Rattle.sm_standing.specs.Keeping.{IsKept}
use Rattle.sm_standing.specs.Logs.{IsLogged}
use Rattle.sm_standing.specs.Outlines.{Link, link_of}
use Rattle.sm_standing.specs.Standing.{disks}
use Rattle.sm_standing.specs.Entries.{names_in}
use Rattle.sm_standing.proofs.DisksShown.{row_of-In}
use Rattle.sm_ready.specs.Does.{store_shape}
use Rattle.sm_ready.specs.Done.{HasDoneFrom, IsCommit, at_rest}
use Rattle.sm_ready.specs.Frames.{HasTrueImages}
use Rattle.sm_ready.specs.Known.{Known, entry_of, known, machine_row, shape_in}
use Rattle.sm_ready.specs.Orderly.{IsOrderly, IsRoomyFor}
use Rattle.sm_ready.specs.Outlined.{link_in}
use Rattle.sm_ready.specs.Ready.{IsFirm, IsHeldBelow, IsReady, IsTidy}
use Rattle.sm_ready.specs.Sessions.{IsOrderlyStore, IsTidyStore}
use Rattle.sm_ready.specs.Stores.{MayShow, StoreLeaves, content_in, content_now, store_content}
use Rattle.sm_ready.specs.declared.memory.Memory.{Memory}
use Rattle.sm_ready.proofs.ChainLaws.{commit_failed, commit_made, might_show, only_crash, stopped_at, tab}
use Rattle.sm_ready.proofs.CommitLaws.{IsSafe, law_commit, law_settled, rested, volume_rested}
use Rattle.sm_ready.proofs.FitLaws.{fits_orderly}
use Rattle.sm_ready.proofs.FrameLaws.{true_kept, volume_commits}
use Rattle.sm_ready.proofs.LeftLaws.{IsLeft, left_in, left_now, links_left}
use Rattle.sm_ready.proofs.LogLaws.{holds_ready, logged_left}
use Rattle.sm_ready.proofs.OperationLaws.{below_alike}
use Rattle.sm_ready.proofs.Orders.{In-tree_row, named_row}
use Rattle.sm_ready.proofs.PutBackLaws.{row_proper}
use Rattle.gc_coalesce.specs.Beginning.{CanBegin, CanEnter, KeepsExtents, LeavesStill, copy_entry, entered, raised}
use Rattle.gc_coalesce.specs.Copying.{copy_of, dirty_of, is_hidden}
use Rattle.gc_coalesce.specs.declared.kinds.Kind.{Kind}
use Rattle.gc_coalesce.proofs.BeginExtents.{extents_put}
use Rattle.gc_coalesce.proofs.BeginShapes.{leaf_in, roomy, works}
use Rattle.gc_coalesce.proofs.CopyKinds.{IsLeafIn, below_in, entry_no_image, entry_no_records, entry_proper, entry_suits, is_its_entry, its_entry, roomy_in, runs_first}
use Rattle.gc_coalesce.proofs.BeginStores.{IsRowOf, child_found, child_row, parent_found, parent_row, row_of}
use Rattle.gc_abandon.proofs.EntryLaws as entries

-- ---- the names of the two images

-- an image's name has a UUID
uuid_of : (n : Name) → is_image_name n ≡ true → IsName n → IsUuid (image_uuid n)
unfolding is_image_name image_uuid IsName
uuid_of (Vhd u) is proper = proper
uuid_of (Raw u) is proper = proper
uuid_of _ is proper = absurd (true≢false (sym is))

module _ (s : Site) (t : VolumeTable) (m : Known) (v p : Name) (o : IsOrderly s t m) (h : CanEnter (shape_in s t m) v p) where
  of_row : (n : Name) (r : TreeRow) → tree_row m.rows n ≡ Some r → is_image_name n ≡ true × IsUuid (image_uuid n)
  of_row n r found =
      let at = In-tree_row m.rows n r found in
      let image = subst (λ x. is_image_name x ≡ true) at.1 (named_row s t m r o at.0) in
      (image, uuid_of n image (subst IsName at.1 (row_proper s t m o r at.0)))

  pub child_named : is_image_name v ≡ true × IsUuid (image_uuid v)
  child_named = of_row v (child_row s t m v p o h).row (child_found s t m v p o h)

  pub parent_named : is_image_name p ≡ true × IsUuid (image_uuid p)
  parent_named = of_row p (parent_row s t m v p o h).row (parent_found s t m v p o h)

-- ---- nothing is copied yet

module _ (s : Site) (t : VolumeTable) (m : Known) (hidden : Bool) (v p : Name) (o : IsOrderly s t m) (works : IsOnlyChild (shape_in s t m) hidden v p) where
  child_at : IsRowOf m works.link.child
  child_at = row_of s t m works.link.child o works.link.there

  child_is : tree_row m.rows v ≡ Some child_at.row
  child_is = ap (tree_row m.rows) (sym works.link.is_named) ∙ child_at.found

  not_gone : tree_row m.rows p ≡ None → ⊥
  not_gone none = ∥∥₁_elim o.well_formed (hlevel props) (λ w.
      let q = w.parents works.link.child p works.link.there works.link.linked in
      let r = row_of s t m q.parent o q.there in
      none-some r.row (sym none ∙ ap (tree_row m.rows) (sym q.is_named) ∙ r.found))

  parent_at : (r : TreeRow) × (tree_row m.rows p ≡ Some r)
  parent_at = by (tree_row m.rows p) refl
    where
      by : (x : Option TreeRow) → tree_row m.rows p ≡ x → (r : TreeRow) × (tree_row m.rows p ≡ Some r)
      by None is = absurd (not_gone is)
      by (Some r) is = (r, is)

  -- they are as large
  same_size : sector_count parent_at.0.image ≡ sector_count child_at.row.image
  unfolding shape_in
  same_size =
      let at = In-tree_row m.rows p parent_at.0 parent_at.1 in
      works.same_size (machine_row parent_at.0) (In-map_at machine_row m.rows parent_at.0 at.0) at.1 ∙ ap (λ (i : ImageRow). i.size) child_at.is

  pub below_none : (area : Held) (dirty : List ℕ) → IsFirm s t area m → IsHeldBelow (content_now s t area) v p 0 dirty
  below_none area dirty firm =
      let c = at_image v child_at.row child_is in
      let q = at_image p parent_at.0 parent_at.1 in
      record { child = c.0; parent = q.0; image = c.1; under = q.1; size = q.2 ∙ same_size ∙ sym c.2; held = λ at bytes below clean. absurd (omega (arith, below)) }
    where
      at_image : (n : Name) (r : TreeRow) → tree_row m.rows n ≡ Some r → (i : Image) × (image_of (content_now s t area) n ≡ Some i) × (i.size ≡ sector_count r.image)
      at_image n r found = by (image_of (content_now s t area) n) refl (links_left s t area m (reads area) n o firm (left_in s t m area (reads area) o (left_now s area)) ∙ ap link_in found)
        where
          by : (x : Option Image) → image_of (content_now s t area) n ≡ x → link_of (image_of (content_now s t area) n) ≡ link_in (Some r) → (i : Image) × (image_of (content_now s t area) n ≡ Some i) × (i.size ≡ sector_count r.image)
          by None is link = absurd (none-some _ (sym (ap link_of is) ∙ link))
          by (Some i) is link = (i, is, ap (λ (l : Link). l.size) (same_Some _ _ (sym (ap link_of is) ∙ link)))

-- ---- the table and memory

-- memory is orderly, no operation runs, and a copy may begin
pub record IsToEnter (s : Site) (t : VolumeTable) (m : Known) (k : Kind) (v p : Name) : Type 0 where
  pub orderly : IsOrderly s t m
  pub tidy : IsTidy t m
  pub idle : m.op ≡ op.Idle
  pub child_uuid : IsUuid (image_uuid v)
  pub parent_uuid : IsUuid (image_uuid p)
  pub works : IsOnlyChild (shape_in s t m) (is_hidden k) v p
  pub leaf : IsLeafIn (shape_in s t m) k v p
  pub roomy : IsRoomyFor (shape_in s t m) v p

module _ (s : Site) (t : VolumeTable) (m : Known) (k : Kind) (v p : Name) (h : IsToEnter s t m k v p) where
  abbrev entry : Name
  entry = copy_entry k v p

  abbrev pub next : VolumeTable
  next = applied t (Create (copy_entry k v p) false [])

  abbrev pub after : Known
  after = record m { op = copy_of k v p 0 [] }

  none_there : names_in t is_entry ≡ []
  none_there = h.orderly.entries ∙ ap entry_of h.idle

  no_row : rows t entry ≡ None
  no_row = by (rows t entry) refl
    where
      by : (x : Option Row) → rows t (copy_entry k v p) ≡ x → x ≡ None
      by None is = refl
      by (Some q) is = absurd (
          let w = row_of-In t.volumes (copy_entry k v p) q is in
          let name = name_eq-true q.name (copy_entry k v p) w.1 in
          subst (In q.name) none_there (filter-In is_entry (names_of t.volumes) q.name (In-map_at (λ (r : Row). r.name) t.volumes q w.0) (ap is_entry name ∙ is_its_entry k v p)))

  pub may_put : Permits s.count t (Create (copy_entry k v p) false [])
  unfolding IsDistinct
  may_put = record {
    name_proper = entry_proper k v p h.child_uuid h.parent_uuid;
    new_name = no_row;
    not_mgt = entry_no_records k v p;
    kind = entry_suits k v p;
    extents_free = record { below = tt; unused = tt; distinct = tt };
  }

  put_table : entries.IsReentered s t (applied t (Create (copy_entry k v p) false []))
  put_table = entries.entered s t (Create entry false []) h.orderly.table may_put (λ n of. ap is_entry of ∙ is_its_entry k v p)

  pub orderly_put : IsOrderly s (applied t (Create (copy_entry k v p) false [])) (record m { op = copy_of k v p 0 [] })
  orderly_put = entries.orderly_entry s t next m h.orderly put_table (copy_of k v p 0 []) (entries.entry_put t entry false [] (is_its_entry k v p) none_there ∙ sym (its_entry k v p 0 []))
      (λ w. runs_first (shape_in s t m) k v p h.works h.leaf) (roomy_in (shape_in s t m) k v p 0 [] h.roomy)

  pub tidy_put : IsTidy (applied t (Create (copy_entry k v p) false [])) (record m { op = copy_of k v p 0 [] })
  tidy_put = entries.tidy_entry s t next m (copy_of k v p 0 []) put_table h.tidy

  pub fits_put : Fits s.count t (Create (copy_entry k v p) false [])
  fits_put = fits_orderly s next after orderly_put

  pub shape_put : shape_in s (applied t (Create (copy_entry k v p) false [])) (record m { op = copy_of k v p 0 [] }) ≡ record (shape_in s t m) { sequence = risen t.sequence 1; op = copy_of k v p 0 [] }
  shape_put = entries.shape_entry s t next m (copy_of k v p 0 []) ∙ ap (λ (n : ℕ). let x : Shape = record (shape_in s t m) { sequence = n; op = copy_of k v p 0 [] } in x) (omega arith)

  pub disks_put : (image : ℕ → List ℕ) → disks (content_in s (applied t (Create (copy_entry k v p) false [])) image) ≡ disks (content_in s t image)
  disks_put image = entries.disks_entry s t next m after image h.orderly orderly_put put_table.same

  pub ready_put : (area : Held) → IsReady s t area m → IsReady s (applied t (Create (copy_entry k v p) false [])) area (record m { op = copy_of k v p 0 [] })
  ready_put area ready =
      entries.ready_entry s t next m (copy_of k v p 0 []) (entries.extents_entry s t next m h.orderly put_table) area ready
      (below_alike (content_now s t area) (content_now s next area) (copy_of k v p 0 []) refl refl (λ n _. entries.image_entry s t next m after (reads area) h.orderly orderly_put put_table.same n)
      (below_in (content_now s t area) k v p 0 [] (below_none s t m (is_hidden k) v p h.orderly h.works area (dirty_of k []) ready.firm)))

-- ---- the commit

module _ {S : Type 0} {g : Ghosts S} {a b : S} (n : Memory) {k : Kind} {v p : Name} (h : IsToEnter (g.site a) (tab g a) (known n) k v p) (stays : Stays g a b) (usable : g.failed a ≡ false) where
  abbrev change : Change
  change = Create (copy_entry k v p) false []

  permits_put : Permits (g.site b).count (tab g b) (Create (copy_entry k v p) false [])
  permits_put = subst₂ (λ (x : Site) y. Permits x.count y change) (sym stays.site) (sym stays.table) (may_put (g.site a) (tab g a) (known n) k v p h)

  pub can_put : 0 < (g.table b).spare → CanCommit g (Create (copy_entry k v p) false []) b
  can_put row = record {
    usable = stays.failed ∙ usable;
    allowed = permits_put;
    room = row;
    fits = subst₂ (λ (x : Site) y. Fits x.count y change) (sym stays.site) (sym stays.table) (fits_put (g.site a) (tab g a) (known n) k v p h);
  }

  module _ {x : S} (c : Commits g (Create (copy_entry k v p) false []) b x) (l : Memory) (is : known l ≡ after (g.site a) (tab g a) (known n) k v p h) where
    site_end : g.site x ≡ g.site a
    site_end = c.site ∙ stays.site

    table_end : tab g x ≡ next (g.site a) (tab g a) (known n) k v p h
    table_end = c.table ∙ ap (λ y. applied y change) stays.table

    pub orderly_end : IsOrderlyStore g x l
    orderly_end = subst₂ (λ y z. IsOrderly y z (known l)) (sym site_end) (sym table_end) (subst (IsOrderly (g.site a) (next (g.site a) (tab g a) (known n) k v p h)) (sym is) (orderly_put (g.site a) (tab g a) (known n) k v p h))

    pub extents_end : KeepsExtents (tab g a) (tab g x)
    extents_end = subst (KeepsExtents (tab g a)) (sym table_end) (extents_put (tab g a) (copy_entry k v p) (no_row (g.site a) (tab g a) (known n) k v p h))

    pub tidy_end : IsTidyStore g x l
    tidy_end = subst₂ IsTidy (sym table_end) (sym is) (tidy_put (g.site a) (tab g a) (known n) k v p h)

    pub shape_end : (σ : Shape) → shape_in (g.site a) (tab g a) (known n) ≡ raised v p σ → (tab g a).sequence ≡ σ.sequence → store_shape g x l ≡ entered k v p σ
    shape_end σ shape number =
        ap₂ (λ (y : Site) (z : VolumeTable). shape_in y z (known l)) site_end table_end ∙ ap (shape_in (g.site a) (next (g.site a) (tab g a) (known n) k v p h)) is ∙ shape_put (g.site a) (tab g a) (known n) k v p h
        ∙ ap₂ (λ (y : Shape) j. let z : Shape = record y { sequence = risen j 1; op = copy_of k v p 0 [] } in z) shape number

    not_entry : (r : TreeRow) → In r n.tree.rows → row_name r ≡ copy_entry k v p → ⊥
    not_entry r i of = true≢false (sym (named_row (g.site a) (tab g a) (known n) r h.orderly i) ∙ ap is_image_name of ∙ entry_no_image k v p)

    pub true_end : l.tree.rows ≡ n.tree.rows → HasTrueImages g b n → HasTrueImages g x l
    true_end same = true_kept g n l c.site (λ told r i.
        let was = subst (In r) same i in
        (was, volume_commits r (subst₂ (λ (y : Site) z. IsTable y.count z) (sym stays.site) (sym stays.table) h.orderly.table) permits_put (λ of. not_entry r was of) c told))

  -- ---- where the store tells its content

  module _ (told : g.told) (leaves : LeavesStill (g.site a) (tab g a) (g.area b) (StoreLeaves g a) (disks (store_content g a)) (known n).logs) where
    abbrev was : List Disk
    was = disks (store_content g a)

    safe : IsSafe (g.site a) (tab g a) (g.area b) (StoreLeaves g a) (disks (store_content g a))
    safe = record { kept = leaves.kept; shown = leaves.shown }

    module _ (ready : IsReady (g.site a) (tab g a) (at_rest (reads (g.area b))) (known n)) (same : disks (content_now (g.site a) (tab g a) (g.area b)) ≡ disks (store_content g a)) where
      ready_then : IsReady (g.site a) (next (g.site a) (tab g a) (known n) k v p h) (at_rest (reads (g.area b))) (after (g.site a) (tab g a) (known n) k v p h)
      ready_then = ready_put (g.site a) (tab g a) (known n) k v p h (at_rest (reads (g.area b))) ready

      disks_then : disks (content_now (g.site a) (next (g.site a) (tab g a) (known n) k v p h) (at_rest (reads (g.area b)))) ≡ disks (store_content g a)
      disks_then = disks_put (g.site a) (tab g a) (known n) k v p h (reads (g.area b)) ∙ same

      crash : {x : S} (ok : Type 0) → IsCommit (g.site a) (tab g a) (next (g.site a) (tab g a) (known n) k v p h) (g.area b) (g.area x) (StoreLeaves g x) ok → (z : VolumeTable) (image : ℕ → List ℕ) → StoreLeaves g x z image
          → IsKept (content_in (g.site a) z image) × IsBetween (MayShow (g.site a) (StoreLeaves g a)) was was (disks (content_in (g.site a) z image))
      crash {x} ok commit = law_commit (g.site a) (tab g a) (next (g.site a) (tab g a) (known n) k v p h) (g.area b) (g.area x) (after (g.site a) (tab g a) (known n) k v p h) (StoreLeaves g a) (StoreLeaves g x) ok was was
          safe (orderly_put (g.site a) (tab g a) (known n) k v p h) ready_then commit disks_then

      -- and has the logs
      logged : {x : S} (l : Known) → l.logs ≡ (known n).logs → (ok : Type 0) → IsCommit (g.site a) (tab g a) (next (g.site a) (tab g a) (known n) k v p h) (g.area b) (g.area x) (StoreLeaves g x) ok
          → (z : VolumeTable) (image : ℕ → List ℕ) → StoreLeaves g x z image → IsLogged (content_in (g.site a) z image) l.logs
      logged l same_logs ok commit z image at = subst (IsLogged (content_in (g.site a) z image)) (sym same_logs) (by (commit.crash z image at))
        where
          by : IsEither (area_size (g.site a)) (tab g a) (next (g.site a) (tab g a) (known n) k v p h) (g.area b) z image → IsLogged (content_in (g.site a) z image) (known n).logs
          by (inl old) = subst (λ y. IsLogged (content_in (g.site a) y image) (known n).logs) (sym old.table_is) (leaves.logged image old.sectors)
          by (inr new) = subst (λ y. IsLogged (content_in (g.site a) y image) (known n).logs) (sym new.table_is)
              (logged_left (holds_ready (g.site a) (next (g.site a) (tab g a) (known n) k v p h) (at_rest (reads (g.area b))) (after (g.site a) (tab g a) (known n) k v p h) (orderly_put (g.site a) (tab g a) (known n) k v p h) ready_then) (orderly_put (g.site a) (tab g a) (known n) k v p h).table image (λ q below. inl (new.sectors q below)))

      pub put_failed : {x : S} (l : Known) → l.logs ≡ (known n).logs → (ok : Type 0) → (ok → ⊥) → FailsToCommit g b x → ((z : VolumeTable) (image : ℕ → List ℕ) → g.leaves x z image → IsEitherOf (stored g b) (Create (copy_entry k v p) false []) z image)
          → HasDoneFrom (g.site a) (tab g x) (g.area x) l (StoreLeaves g a) (StoreLeaves g x) ok (disks (store_content g a)) (disks (store_content g a))
      put_failed {x} l same_logs ok never fails either =
          let commit = commit_failed g change ok never stays.site stays.table told fails either in only_crash never (crash {x = x} ok commit) (logged {x = x} l same_logs ok commit)

      pub put_done : {x : S} (l : Memory) (ok : Type 0) (c : Commits g (Create (copy_entry k v p) false []) b x)
          → ((z : VolumeTable) (image : ℕ → List ℕ) → g.leaves x z image → IsEitherOf (stored g b) (Create (copy_entry k v p) false []) z image)
          → known l ≡ after (g.site a) (tab g a) (known n) k v p h
          → HasDoneFrom (g.site a) (tab g x) (g.area x) (known l) (StoreLeaves g a) (StoreLeaves g x) ok (disks (store_content g a)) (disks (store_content g a))
      put_done {x} l ok c either is =
          let rests = rested (g.area b) (g.area x) (c.keeps told) (c.settled told) in
          subst₂ (λ y z. HasDoneFrom (g.site a) y (g.area x) z (StoreLeaves g a) (StoreLeaves g x) ok was was) (sym (table_end c l is)) (sym is)
          (record {
            ready = λ fine. subst (λ y. IsReady (g.site a) (next (g.site a) (tab g a) (known n) k v p h) y (after (g.site a) (tab g a) (known n) k v p h)) (sym rests) ready_then;
            settled = λ fine. c.settled told;
            shown = λ fine. ap (λ y. disks (content_now (g.site a) (next (g.site a) (tab g a) (known n) k v p h) y)) rests ∙ disks_then;
            crash = crash {x = x} ok (commit_made g change ok stays.site stays.table told c either);
            logged = logged {x = x} (after (g.site a) (tab g a) (known n) k v p h) refl ok (commit_made g change ok stays.site stays.table told c either);
          })

      -- and whatever a stop leaves of the commit shows the disks of an image that might be left before
      pub put_still : {x : S} → ((z : VolumeTable) (image : ℕ → List ℕ) → g.leaves x z image → IsEitherOf (stored g b) (Create (copy_entry k v p) false []) z image)
          → (z : VolumeTable) (image : ℕ → List ℕ) → g.leaves x z image → MayShow (g.site a) (StoreLeaves g a) (disks (content_in (g.site a) z image))
      put_still either z image l = by (subst₂ (λ (y : Site) w. IsEither (area_size y) w (applied w change) (g.area b) z image) stays.site stays.table (either z image l))
        where
          by : IsEither (area_size (g.site a)) (tab g a) (next (g.site a) (tab g a) (known n) k v p h) (g.area b) z image → MayShow (g.site a) (StoreLeaves g a) (disks (content_in (g.site a) z image))
          by (inl at) = subst (λ y. MayShow (g.site a) (StoreLeaves g a) (disks (content_in (g.site a) y image))) (sym at.table_is) (leaves.still image at.sectors)
          by (inr then) =
              let left : IsLeft (g.site a) (at_rest (reads (g.area b))) image = λ q below. inl (then.sectors q below) in
              subst (λ (ds : List Disk). MayShow (g.site a) (StoreLeaves g a) ds)
              (sym (ap (λ y. disks (content_in (g.site a) y image)) then.table_is
              ∙ law_settled (g.site a) (next (g.site a) (tab g a) (known n) k v p h) (at_rest (reads (g.area b))) (after (g.site a) (tab g a) (known n) k v p h) image (orderly_put (g.site a) (tab g a) (known n) k v p h) ready_then
              (volume_rested (g.site a) (next (g.site a) (tab g a) (known n) k v p h) (reads (g.area b))) left ∙ disks_then))
              (might_show g usable told)

-- the parent's footers were not written
pub raise_failed : {S : Type 0} {g : Ghosts S} {a b : S} {ls : List Log} → Stays g a b → LeavesStill (g.site a) (tab g a) (g.area b) (StoreLeaves g a) (disks (store_content g a)) ls
    → ((z : VolumeTable) (image : ℕ → List ℕ) → g.leaves b z image → IsChoiceOf (stored g b) z image) → (k : Known) → k.logs ≡ ls → (ok : Type 0) → (ok → ⊥)
    → HasDoneFrom (g.site a) (tab g b) (g.area b) k (StoreLeaves g a) (StoreLeaves g b) ok (disks (store_content g a)) (disks (store_content g a))
raise_failed {g = g} {a} {b} stays leaves choice k same ok never = stopped_at g k ok (disks (store_content g a)) never stays.site stays.table (record { kept = leaves.kept; shown = leaves.shown })
    (λ image left. subst (IsLogged (content_in (g.site a) (tab g a) image)) (sym same) (leaves.logged image left)) choice

pub raise_still : {S : Type 0} {g : Ghosts S} {a b : S} {ls : List Log} → Stays g a b → LeavesStill (g.site a) (tab g a) (g.area b) (StoreLeaves g a) (disks (store_content g a)) ls
    → ((z : VolumeTable) (image : ℕ → List ℕ) → g.leaves b z image → IsChoiceOf (stored g b) z image)
    → (z : VolumeTable) (image : ℕ → List ℕ) → g.leaves b z image → MayShow (g.site a) (StoreLeaves g a) (disks (content_in (g.site a) z image))
raise_still {g = g} {a} {b} stays leaves choice z image l =
    let at = subst₂ (λ (y : Site) w. IsBefore (area_size y) w (g.area b) z image) stays.site stays.table (choice z image l) in
    subst (λ y. MayShow (g.site a) (StoreLeaves g a) (disks (content_in (g.site a) y image))) (sym at.table_is) (leaves.still image at.sectors)

-- ---- memory behind the raise

pub to_enter : {S : Type 0} {g : Ghosts S} {a b : S} (m n : Memory) {k : Kind} {v p : Name} → IsOrderlyStore g a m → CanBegin (store_shape g a m) k v p → Stays g a b → IsOrderlyStore g b n → IsTidyStore g b n → store_shape g b n ≡ raised v p (store_shape g a m)
    → n.operation ≡ m.operation → IsToEnter (g.site a) (tab g a) (known n) k v p
unfolding shape_in
to_enter {g = g} {a} {b} m n {k} {v} {p} o h stays orderly tidy shape operation =
    let same : shape_in (g.site a) (tab g a) (known n) ≡ raised v p (shape_in (g.site a) (tab g a) (known m)) = sym (ap₂ (λ (y : Site) (z : VolumeTable). shape_in y z (known n)) stays.site stays.table) ∙ shape in
    record {
      orderly = subst₂ (λ y z. IsOrderly y z (known n)) stays.site stays.table orderly;
      tidy = subst (λ z. IsTidy z (known n)) stays.table tidy;
      idle = operation ∙ h.pair.idle;
      child_uuid = (child_named (g.site a) (tab g a) (known m) v p o h.pair).1;
      parent_uuid = (parent_named (g.site a) (tab g a) (known m) v p o h.pair).1;
      works = subst (λ (σ : Shape). IsOnlyChild σ (is_hidden k) v p) (sym same) (works (shape_in (g.site a) (tab g a) (known m)) v p o.well_formed h.pair (is_hidden k) h.shown);
      leaf = subst (λ (σ : Shape). IsLeafIn σ k v p) (sym same) (leaf_in (shape_in (g.site a) (tab g a) (known m)) v p o.well_formed h.pair k h.shown h.leaf);
      roomy = subst (λ (σ : Shape). IsRoomyFor σ v p) (sym same) (roomy (shape_in (g.site a) (tab g a) (known m)) v p o.well_formed h.pair);
    }
