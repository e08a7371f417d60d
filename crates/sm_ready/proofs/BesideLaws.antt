-- A change of one new volume beside the images, by a commit of its own, after which the volume is gone or still new: memory stays
-- orderly, and no disk changes.
use Rattle.std.proofs.Common.{◌≡◌, ◌≢◌, ◌⊎◌, inl, inr, ⊎_elim, ℕ, ◌^◌, ◌<◌, ◌≤◌, ◌&&◌, not, Bool, true, false, cond, List, length, Option, Some, None, is_some, refl, sym, ap, ap₂, ◌∙◌, subst, arith}
use Rattle.std.proofs.Math.Path.{fun_ext}
use Rattle.std.proofs.Math.Logic.{∥∥₁_map, ∥∥₁_elim}
use Rattle.std.proofs.Props.{props}
use Rattle.std.proofs.lemmas.Option.{none-some}
use Rattle.sm_base.specs.Kinds.{is_entry}
use Rattle.sm_base.specs.declared.names.Name.{Name}
use Rattle.sm_base.specs.declared.names.Name.TheVariants.{Mgt, Vhd, Raw, Old, Cbt, Clone, Inflate, Coalesce, Relink, Leaf}
use Rattle.sm_disk.specs.Held.{Held, reads}
use Rattle.vg_meta.specs.Tables.{VolumeTable, Row, rows, extents_of, name_eq}
use Rattle.vg_meta.specs.Changes.{Permits, applied, raised}
use Rattle.vg_meta.specs.declared.changes.Change.{Change}
use Rattle.vg_meta.proofs.ByName.{mgt_stays}
use Rattle.vg_meta.proofs.ChangeLaws.{IsTable-applied}
use Rattle.vg_meta.proofs.NameLaws.{name_eq-true, name_eq-false}
use Rattle.vg_volumes.specs.Commits.{IsBefore}
use Rattle.vg_volumes.specs.Sites.{Site, area_size}
use Rattle.vg_volumes.specs.Volumes.{piece}
use Rattle.common_laws.specs.Lists.{In, ◌>>=◌}
use Rattle.sm_machine.specs.WellFormed.{is_image_name}
use Rattle.sm_record.specs.Records.{reading}
use Rattle.sm_record.specs.declared.records.Record.{Record}
use Rattle.sm_standing.specs.Checks.{images as table_images, is_misnamed}
use Rattle.sm_standing.specs.Contents.{Content, sectors_of, record_of}
use Rattle.sm_standing.specs.Entries.{is_there, is_visible, names_in, of_row}
use Rattle.sm_standing.specs.Images.{image_of}
use Rattle.sm_standing.specs.Standing.{standing_volume, disk_at, disk_in, disks}
use Rattle.sm_standing.proofs.DiskLists.{disks_same}
use Rattle.sm_standing.proofs.ImageLaws.{new_image, sectors_same}
use Rattle.sm_standing.proofs.ImageSectors.{vhd_same, raw_same}
use Rattle.sm_standing.proofs.NamedLaws.{named_still}
use Rattle.sm_standing.proofs.RecordLists.{records_same, record_of_first, first_of}
use Rattle.vhd_chain.specs.declared.rows.TreeRow.{TreeRow}
use Rattle.vhd_chain.specs.Trees.{row_name, tree_row}
use Rattle.sm_ready.specs.Done.{HasDone, IsCommit, at_rest}
use Rattle.sm_ready.specs.Known.{Known, shape_in, row_face}
use Rattle.sm_ready.specs.Orderly.{IsOrderly}
use Rattle.sm_ready.specs.Ready.{IsReady}
use Rattle.sm_ready.specs.Stores.{Leaving, content_now}
use Rattle.sm_ready.proofs.CommitLaws.{law_single_commit, volume_rested}
use Rattle.sm_ready.proofs.FreshLaws.{raised_well, refs_raised, roomy_raised}
use Rattle.sm_ready.proofs.LogLaws.{holds_commit, holds_ready}
use Rattle.sm_ready.proofs.LogRows.{name_apart}
use Rattle.sm_ready.proofs.LeftLaws.{none_of_vhd, none_of_raw}
use Rattle.sm_ready.proofs.OperationLaws.{below_alike}
use Rattle.sm_ready.proofs.Orders.{fresh_face, geometry_of, new_unrowed, whole}
use Rattle.sm_ready.proofs.RestLaws.{IsOfRow, ready_rest}
use Rattle.sm_ready.proofs.RowLaws.{tree_found, image_named}
use Rattle.sm_ready.proofs.ShapeLaws.{plainly_stands}

-- a volume that is new and beside the images, of which a change is allowed
pub record IsBeside (s : Site) (t : VolumeTable) (x : Name) (r : Row) (c : Change) : Type 0 where
  pub there : rows t x ≡ Some r
  pub fresh : r.fresh ≡ true
  pub allows : Permits s.count t c
  pub image : is_image_name x ≡ true

-- no volume, or one that is new
abbrev pub IsNewOrNone : Option Row → Type 0
IsNewOrNone None = Unit {0}
IsNewOrNone (Some r) = r.fresh ≡ true

-- a change of this volume alone: it is gone then, or still new, and no other volume comes, goes or changes
pub record IsAlone (t : VolumeTable) (x : Name) (c : Change) : Type 0 where
  pub others : (n : Name) → n ≢ x → rows (applied t c) n ≡ rows t n
  pub own : IsNewOrNone (rows (applied t c) x)
  pub few : length (table_images (applied t c)) ≤ length (table_images t)
  pub entries : names_in (applied t c) is_entry ≡ names_in t is_entry
  pub news : (q : Row) → In q (applied t c).volumes → q.fresh ≡ true → (p : Row) × In p t.volumes × (p.fresh ≡ true) × (p.name ≡ q.name)

raised_more : (k : ℕ) → k < 2 ^ 48 → k ≤ raised k
raised_more k h = omega (arith, h)

-- it is no image, and not visible
unfaced : (y : Option Row) → IsNewOrNone y → row_face y ≡ None
unfaced None h = refl
unfaced (Some q) h = fresh_face q h

unseen : (y : Option Row) → IsNewOrNone y → of_row (λ q. not q.hidden && not q.fresh) y ≡ false
unseen None h = refl
unseen (Some q) h = ap (λ b. not q.hidden && not b) h ∙ none (not q.hidden)
  where
    none : (b : Bool) → (b && false) ≡ false
    none true = refl
    none false = refl

module _ (s : Site) (t : VolumeTable) (m : Known) (x : Name) (r : Row) (c : Change) (o : IsOrderly s t m) (h : IsBeside s t x r c) (alone : IsAlone t x c) where
  abbrev next : VolumeTable
  next = applied t c

  name_case : (n : Name) → (n ≡ x) ⊎ (n ≢ x)
  name_case n = by (name_eq n x) refl
    where
      by : (b : Bool) → name_eq n x ≡ b → (n ≡ x) ⊎ (n ≢ x)
      by true e = inl (name_eq-true n x e)
      by false e = inr (name_eq-false n x e)

  new_or_none : IsNewOrNone (rows t x)
  new_or_none = subst IsNewOrNone (sym h.there) h.fresh

  fewer : (n : Name) → is_there t n ≡ false → is_there next n ≡ false
  fewer n e = ⊎_elim
      (λ same. absurd (let clash : false ≡ true = sym e ∙ ap is_some (ap (rows t) same ∙ h.there) in (let z = clash in cc)))
      (λ other. ap is_some (alone.others n other) ∙ e) (name_case n)

  named : (q p : Row) → In p t.volumes → p.fresh ≡ true → p.name ≡ q.name → (is_misnamed next q ≡ false) × (is_image_name q.name ≡ true)
  named q p i new same =
      let w = o.new_named p i new in (
        ap (λ n. is_misnamed next (record { name = n; hidden = q.hidden; fresh = q.fresh; extents = q.extents })) (sym same)
            ∙ named_still t next p (raised_more t.sequence o.table.sequence) fewer w.0,
        ap is_image_name (sym same) ∙ w.1,
      )

  -- memory stays orderly
  pub orderly_beside : IsOrderly s next m
  unfolding shape_in
  orderly_beside = record {
    table = IsTable-applied s.count t c o.table h.allows;
    few_extents = o.few_extents;
    record_volume = ap (λ v. length (extents_of v)) (mgt_stays s.count t c o.table h.allows) ∙ o.record_volume;
    few = omega (arith, alone.few, o.few);
    new_named = λ q i new. let w = alone.news q i new in named q w.0 w.1 w.2 w.3;
    images = λ n e. ⊎_elim
        (λ same. ap row_face (ap (rows next) same) ∙ unfaced (rows next x) alone.own ∙ sym (unfaced (rows t x) new_or_none) ∙ sym (ap row_face (ap (rows t) same)) ∙ o.images n e)
        (λ other. ap row_face (alone.others n other) ∙ o.images n e) (name_case n);
    logs = λ u. ap row_face (alone.others (Cbt u) (name_apart x h.image u)) ∙ o.logs u;
    few_logs = o.few_logs;
    logs_in_order = o.logs_in_order;
    log_room = o.log_room;
    entries = alone.entries ∙ o.entries;
    places = o.places;
    stands = o.stands;
    well_formed = ∥∥₁_map o.well_formed (λ w. raised_well (shape_in s t m) (raised t.sequence) (raised_more t.sequence o.table.sequence) (omega arith) w);
    roomy = roomy_raised (shape_in s t m) (raised t.sequence) m.op o.roomy;
    counts = λ n. o.counts n ∙ sym (refs_raised (shape_in s t m) (raised t.sequence) n);
  }

module _ (s : Site) (t : VolumeTable) (old : Held) (m : Known) (x : Name) (r : Row) (c : Change) (o : IsOrderly s t m) (ready : IsReady s t old m) (h : IsBeside s t x r c) (alone : IsAlone t x c) where
  abbrev was : Content
  was = content_now s t old

  abbrev now : Content
  now = content_now s (applied t c) (at_rest (reads old))

  abbrev still : IsOrderly s (applied t c) m
  still = orderly_beside s t m x r c o h alone

  abbrev row_still : (n : Name) → n ≢ x → rows (applied t c) n ≡ rows t n
  row_still n other = alone.others n other

  sector : (p : ℕ) (n : Name) → rows (applied t c) n ≡ rows t n → sectors_of now n p ≡ sectors_of was n p
  unfolding sectors_of
  sector p n same = ap (λ q. piece s.geometry.extent (extents_of q) (reads old) p) same

  retabled : (n : Name) (y : Option Row) → n ≢ x → rows t n ≡ y → image_of now n ≡ image_of was n
  unfolding image_of
  retabled (Vhd u) None other is = none_of_vhd now u (row_still (Vhd u) other ∙ is) ∙ sym (none_of_vhd was u is)
  retabled (Vhd u) (Some v) other is =
      vhd_same was now u u v v (geometry_of s t m o) (record {
        extent = refl;
        block = refl;
        entries = refl;
        before = is;
        after = row_still (Vhd u) other ∙ is;
        extents = refl;
        fresh = refl;
        sectors = λ p _. sector p (Vhd u) (row_still (Vhd u) other);
      })
      (whole s t m (Vhd u) o) (whole s (applied t c) m (Vhd u) still)
  retabled (Raw u) None other is = none_of_raw now u (row_still (Raw u) other ∙ is) ∙ sym (none_of_raw was u is)
  retabled (Raw u) (Some v) other is =
      raw_same was now u u v v (record {
        extent = refl;
        block = refl;
        entries = refl;
        before = is;
        after = row_still (Raw u) other ∙ is;
        extents = refl;
        fresh = refl;
        sectors = λ p _. sector p (Raw u) (row_still (Raw u) other);
      })
  retabled Mgt y other is = refl
  retabled (Old u) y other is = refl
  retabled (Cbt u) y other is = refl
  retabled (Clone d b w) y other is = refl
  retabled (Inflate u j) y other is = refl
  retabled (Coalesce k p) y other is = refl
  retabled (Relink k p) y other is = refl
  retabled (Leaf l p) y other is = refl

  none_after : (n : Name) → rows (applied t c) n ≡ None → image_of now n ≡ None
  unfolding image_of
  none_after (Vhd u) e = none_of_vhd now u e
  none_after (Raw u) e = none_of_raw now u e
  none_after Mgt e = refl
  none_after (Old u) e = refl
  none_after (Cbt u) e = refl
  none_after (Clone d b w) e = refl
  none_after (Inflate u j) e = refl
  none_after (Coalesce k p) e = refl
  none_after (Relink k p) e = refl
  none_after (Leaf l p) e = refl

  no_image : (y : Option Row) → rows (applied t c) x ≡ y → IsNewOrNone y → image_of now x ≡ None
  no_image None is new = none_after x is
  no_image (Some q) is new = new_image now x q is new

  pub images_beside : (n : Name) → image_of now n ≡ image_of was n
  images_beside n = ⊎_elim
      (λ same. ap (image_of now) same ∙ no_image (rows (applied t c) x) refl alone.own ∙ sym (ap (image_of was) same ∙ new_image was x r h.there h.fresh))
      (λ other. retabled n (rows t n) other refl) (name_case s t m x r c o h alone n)

  recorded : (u : List ℕ) → record_of now u ≡ record_of was u
  recorded u = record_of_first now u
      ∙ ap first_of (records_same was now u (λ k below. ap reading (sector k Mgt (mgt_stays s.count t c o.table h.allows))))
      ∙ sym (record_of_first was u)

  visible_same : (n : Name) → is_visible (applied t c) n ≡ is_visible t n
  visible_same n = ⊎_elim
      (λ same. ap (of_row (λ q. not q.hidden && not q.fresh)) (ap (rows (applied t c)) same) ∙ unseen (rows (applied t c) x) alone.own
      ∙ sym (ap (of_row (λ q. not q.hidden && not q.fresh)) (ap (rows t) same) ∙ unseen (rows t x) (new_or_none s t m x r c o h alone)))
      (λ other. ap (of_row (λ q. not q.hidden && not q.fresh)) (row_still n other)) (name_case s t m x r c o h alone n)

  stands_same : (u : List ℕ) → standing_volume (applied t c) u ≡ standing_volume t u
  stands_same u =
      plainly_stands s (applied t c) m u still
      ∙ ap₂ (λ (a b : Bool). cond a (Some (Vhd u)) (cond b (Some (Raw u)) None)) (visible_same (Vhd u)) (visible_same (Raw u))
      ∙ sym (plainly_stands s t m u o)

  -- the disks are the same
  pub disks_beside : disks now ≡ disks was
  unfolding disk_at
  disks_beside = disks_same was now (λ u.
      ap (λ (y : Option Name). y >>= (λ n. record_of now u >>= (λ q. Some (disk_in now u q n)))) (stands_same u)
      ∙ ap (λ (y : Option Record). standing_volume t u >>= (λ n. y >>= (λ q. Some (disk_in now u q n)))) (recorded u)
      ∙ ap (λ (f : Name → List (List ℕ)). standing_volume t u >>= (λ n. record_of was u >>= (λ q. Some (record { uuid = u; label = q.label; origin = q.origin; read_only = q.read_only; sectors = f n })))) (fun_ext (sectors_same was now images_beside)))

  -- memory is ready on a device at rest
  pub ready_beside : IsReady s (applied t c) (at_rest (reads old)) m
  unfolding shape_in
  ready_beside = ready_rest s t (applied t c) old m m ready from (ap extents_of (mgt_stays s.count t c o.table h.allows)) refl
      (holds_commit (holds_ready s t old m o ready) (applied t c) (IsTable-applied s.count t c o.table h.allows) (λ u. row_still (Cbt u) (name_apart x h.image u)) (λ u. volume_rested s (applied t c) (reads old) (Cbt u))).logs
      (volume_rested s (applied t c) (reads old))
      (below_alike was now m.op refl refl (λ n _. images_beside n) ready.firm.below)
    where
      from : (q : TreeRow) → In q m.rows → IsOfRow t (applied t c) m q
      from q i = record { row = q; there = i; image = refl; extents = refl; same = ap extents_of (row_still (row_name q) away) }
        where
          away : row_name q ≢ x
          away same = ∥∥₁_elim o.well_formed (hlevel props) (λ w. none-some q (sym (new_unrowed s t m x r o (image_named x h.image) h.there h.fresh) ∙ ap (tree_row m.rows) (sym same) ∙ tree_found m.rows q w.one_image i))

  -- so its commit leaves the disks from before, wherever it stops
  pub law_beside : (new : Held) (before leaves : Leaving) (ok : Type 0) → ((image : ℕ → List ℕ) → IsBefore (area_size s) t old t image → before t image)
      → IsCommit s t (applied t c) old new leaves ok
      → HasDone s t (applied t c) old new m before leaves ok (disks was)
  law_beside new before leaves ok might commit =
      law_single_commit s t (applied t c) old new m m before leaves ok (disks was) o ready still ready_beside might commit disks_beside refl
