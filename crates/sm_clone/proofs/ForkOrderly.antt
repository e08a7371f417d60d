-- Table and memory are orderly and tidy once a fork is made.
use Rattle.std.proofs.Common.{◌≡◌, ◌≢◌, ◌⊎◌, ⊎_elim, inl, inr, ℕ, ◌+◌, ◌*◌, ◌≤◌, Bool, true, false, cond, List, [], ◌∷◌, length, filter, Option, Some, None, refl, sym, ap, ap₂, ◌∙◌, subst, arith}
use Rattle.std.proofs.Math.Logic.{∥∥₁_elim, ∥∥₁_map}
use Rattle.std.proofs.Props.{props}
use Rattle.std.specs.Str.{bytes_eq}
use Rattle.std.proofs.lemmas.Bool.{true≢false}
use Rattle.std.proofs.lemmas.List.{length-set}
use Rattle.std.proofs.lemmas.Option.{none-some, same_Some}
use Rattle.common_laws.specs.Lists.{In}
use Rattle.common_laws.proofs.Bytes.{bytes_eq-refl}
use Rattle.common_laws.proofs.Lists.{Distinct-key, find-some}
use Rattle.sm_base.specs.Kinds.{is_entry, is_image}
use Rattle.sm_base.specs.Names.{IsUuid}
use Rattle.sm_base.specs.declared.names.Name.{Name}
use Rattle.sm_base.specs.declared.names.Name.TheVariants as name
use Rattle.sm_machine.specs.Operations.{Op}
use Rattle.sm_machine.specs.Operations as op
use Rattle.vg_meta.specs.Changes.{made}
use Rattle.vg_meta.specs.Tables.{IsTable, Row, VolumeTable, extents_of, names_of, rows}
use Rattle.vg_volumes.specs.Sites.{Site}
use Rattle.vhd_volumes.specs.Truth.{HasRoomFor}
use Rattle.vhd_chain.specs.Trees.{row_name, tree_row}
use Rattle.vhd_chain.specs.declared.rows.TreeRow.{TreeRow}
use Rattle.sm_machine.specs.Commits.{folds, gives_up, is_given_up}
use Rattle.sm_machine.specs.Refusals.{refusal, wanted}
use Rattle.sm_machine.specs.Shapes.{DiskRecord, ImageRow, Shape, attached_as, disk_image, image_limit, image_uuid, is_image_of, is_rw, refs, risen, thin_in}
use Rattle.sm_machine.specs.Steps.{State, fork_images, fork_shape, forked_images}
use Rattle.sm_machine.specs.WellFormed.{IsChild, IsOperation, IsWellFormed, is_image_name}
use Rattle.sm_machine.proofs.Chains.{IsThere}
use Rattle.sm_machine.proofs.Forks.{IsForkable}
use Rattle.sm_machine.proofs.Guests.{disks_own}
use Rattle.sm_machine.proofs.Passed.{passed}
use Rattle.sm_machine.proofs.Steps.{clone_facts, snapshot_facts}
use Rattle.sm_machine.proofs.Swaps.{In-without_kept}
use Rattle.sm_record.specs.declared.records.Record.{Record}
use Rattle.sm_refs.specs.Attached.{Attached, count_of}
use Rattle.sm_mgt.specs.Places.{place_for, record_in}
use Rattle.sm_standing.specs.Checks.{images as table_images}
use Rattle.sm_standing.specs.Entries.{is_folding, is_making, names_in}
use Rattle.sm_standing.proofs.DisksShown.{row_of-In}
use Rattle.sm_ready.specs.Known.{Face, Known, machine_row, row_face, shape_in, tree_face}
use Rattle.sm_ready.specs.Orderly.{IsOrderly, IsRoomyFor, IsRoomyIn}
use Rattle.sm_ready.specs.Ready.{IsTidy}
use Rattle.sm_ready.proofs.LogRows.{image_apart, name_apart}
use Rattle.sm_ready.proofs.NewLaws.{well_target}
use Rattle.sm_ready.proofs.OperationLaws.{WorksAt}
use Rattle.sm_ready.proofs.Orders.{filled_face}
use Rattle.sm_ready.proofs.OwnLaws.{own_image, step_shape}
use Rattle.sm_ready.proofs.RowLaws.{found_in, image_named}
use Rattle.sm_ready.proofs.ShapeLaws.{mgt_image}
use Rattle.sm_space.proofs.OwnLaws.{named_or_not}
use Rattle.gc_abandon.proofs.EntryLaws.{well_as}
use Rattle.sm_clone.specs.Forking.{AreForFork, IsUsedAs, Passes, base_name, entry_name, fork_of, forking, sectors_of, table_forked}
use Rattle.sm_clone.specs.declared.forks.Fork.{Fork}
use Rattle.sm_clone.proofs.ForkRows.{base_image, look_base, look_gone, look_leaf, look_other, look_twin, own_image_name, roomy_wanted, stands_then}
use Rattle.sm_clone.proofs.ForkUses.{differ, forked, kept, kept_there, parent_kept, uses_base, uses_gone, uses_leaf, uses_other, was}
use Rattle.sm_clone.proofs.PassedLaws.{found, own, own_is}
use Rattle.sm_clone.proofs.ShapeLaws.{base_is, by_number, known_then, next_then, no_stray_then, shape_then}
use Rattle.sm_clone.proofs.TableLaws.{few_images, hidden_row, own_filled, own_there, stage_8, to_fork}

-- what a fork that is not refused asks of the shape
pub forkable : (σ : Shape) (u twin : List ℕ) (read_only : Bool) → refusal σ (forking u twin read_only) ≡ None → IsForkable σ u twin
forkable σ u twin true none = snapshot_facts σ u twin (passed σ (forking u twin true) none)
forkable σ u twin false none = clone_facts σ u twin (passed σ (forking u twin false) none)

-- it gives no operation up that does not fold the disk's image
not_folded : (σ : Shape) (u twin : List ℕ) (read_only : Bool) → is_given_up σ (forking u twin read_only) ≡ false → folds σ.op u ≡ false
unfolding is_given_up gives_up
not_folded σ u twin true keeps = keeps
not_folded σ u twin false keeps = keeps

-- ---- the images at which the collector works stay

module _ (σ : Shape) (w : IsWellFormed σ) (u twin : List ℕ) (f : IsForkable σ u twin) (its : ImageRow) (at : disk_image u σ ≡ Some its) (not_its : folds σ.op u ≡ false) where
  its_is : In its σ.images × (is_image_of u its ≡ true)
  its_is = find-some (is_image_of u) σ.images its at

  face : (its.hidden ≡ false) × (image_uuid its.name ≡ u)
  face = disks_own σ w u its its_is.1

  hidden_kept : (c : ImageRow) → In c σ.images → c.hidden ≡ true → In c (kept σ w u twin f its at)
  hidden_kept c i hidden = In-without_kept its.name σ.images c i (λ same.
      true≢false (sym hidden ∙ ap (λ (x : ImageRow). x.hidden) (Distinct-key (λ (x : ImageRow). image_uuid x.name) σ.images c its w.one_image i its_is.0 (ap image_uuid same)) ∙ face.0))

  child_kept : (hidden : Bool) (v p n : Name) (link : IsChild σ hidden v p) → In link.child (kept σ w u twin f its at) → WorksAt (op.Relink v p) n → IsThere (kept σ w u twin f its at) n
  child_kept hidden v p n link i (inl is) = (link.child, i, link.is_named ∙ sym is)
  child_kept hidden v p n link i (inr is) = subst (IsThere (kept σ w u twin f its at)) (sym is) (parent_kept σ w u twin f its at link.child p link.there link.linked)

  leaf_kept : (l p : Name) (c : ImageRow) → In c σ.images → c.name ≡ l → bytes_eq (image_uuid l) u ≡ false → In c (kept σ w u twin f its at)
  leaf_kept l p c i named away = In-without_kept its.name σ.images c i (λ same.
      true≢false (sym (ap (λ v. bytes_eq v u) (ap image_uuid (sym named ∙ same) ∙ face.1) ∙ bytes_eq-refl u) ∙ away))

  by_op : (o : Op) → folds o u ≡ false → IsOperation σ o → (n : Name) → WorksAt o n → IsThere (kept σ w u twin f its at) n
  unfolding folds
  by_op op.Idle away h n works = absurd works
  by_op (op.Copy v p cursor) away h n works = child_kept true v p n h.link (hidden_kept h.link.child h.link.there h.link.is_shown) works
  by_op (op.Relink v p) away h n works = child_kept true v p n h (hidden_kept h.child h.there h.is_shown) works
  by_op (op.Leaf l p cursor) away h n works = child_kept false l p n h.0.link (leaf_kept l p h.0.link.child h.0.link.there h.0.link.is_named away) works
  by_op (op.Live l p cursor dirty) away h n works = child_kept false l p n h.only.link (leaf_kept l p h.only.link.child h.only.link.there h.only.link.is_named away) works

  pub works_kept : (n : Name) → WorksAt σ.op n → IsThere (kept σ w u twin f its at) n
  works_kept n works = by_op σ.op not_its w.operation n works

  -- one that has such a name is from before
  was_before : (x : ImageRow) → In x (forked σ w u twin f its at) → IsThere (kept σ w u twin f its at) x.name → In x σ.images
  was_before x i k = subst (λ (y : ImageRow). In y σ.images)
      (sym (Distinct-key (λ (y : ImageRow). image_uuid y.name) (forked σ w u twin f its at) x k.0 (differ σ w u twin f its at) i (kept_there σ w u twin f its at k.0 k.1) (ap image_uuid (sym k.2))))
      (was σ w u twin f its at k.0 k.1)

  module _ (k : ℕ) (rs : List DiskRecord) where
    roomy_for : (v p : Name) → IsThere (kept σ w u twin f its at) v → IsThere (kept σ w u twin f its at) p → IsRoomyFor σ v p → IsRoomyFor (record σ { sequence = k; records = rs; images = forked_images σ u twin its }) v p
    roomy_for v p one two had = λ i q there below is under vhd.
        had i q (was_before i there (subst (IsThere (kept σ w u twin f its at)) (sym is) one)) (was_before q below (subst (IsThere (kept σ w u twin f its at)) (sym under) two)) is under vhd

-- and the parent of a copy has as much room
module _ (σ : Shape) (well : ∥ IsWellFormed σ ∥₁) (u twin : List ℕ) (f : IsForkable σ u twin) (its : ImageRow) (at : disk_image u σ ≡ Some its) (not_its : folds σ.op u ≡ false) (k : ℕ) (rs : List DiskRecord) where
  abbrev then : Shape
  then = record σ { sequence = k; records = rs; images = forked_images σ u twin its }

  roomy_pair : (v p : Name) → WorksAt σ.op v → WorksAt σ.op p → IsRoomyFor σ v p → IsRoomyFor then v p
  roomy_pair v p one two had = λ i q there below is under vhd. ∥∥₁_elim well (hlevel props) (λ w.
      roomy_for σ w u twin f its at not_its k rs v p (works_kept σ w u twin f its at not_its v one) (works_kept σ w u twin f its at not_its p two) had i q there below is under vhd)

  roomy_by : (o : Op) → σ.op ≡ o → IsRoomyIn σ o → IsRoomyIn then o
  roomy_by op.Idle is had = tt
  roomy_by (op.Copy v p cursor) is had = roomy_pair v p (subst (λ o. WorksAt o v) (sym is) (inl refl)) (subst (λ o. WorksAt o p) (sym is) (inr refl)) had
  roomy_by (op.Relink v p) is had = tt
  roomy_by (op.Leaf l p cursor) is had = roomy_pair l p (subst (λ o. WorksAt o l) (sym is) (inl refl)) (subst (λ o. WorksAt o p) (sym is) (inr refl)) had
  roomy_by (op.Live l p cursor dirty) is had = roomy_pair l p (subst (λ o. WorksAt o l) (sym is) (inl refl)) (subst (λ o. WorksAt o p) (sym is) (inr refl)) had

  pub roomy_then : IsRoomyIn σ σ.op → IsRoomyIn then σ.op
  roomy_then had = roomy_by σ.op refl had

-- ---- the table once the fork is made, volume by volume

-- an entry of the journal is one of a call, or the collector's
of_collector : (n : Name) → is_making n ≡ false → is_entry n ≡ is_folding n
of_collector name.Mgt e = refl
of_collector (name.Vhd v) e = refl
of_collector (name.Raw v) e = refl
of_collector (name.Old v) e = refl
of_collector (name.Cbt v) e = refl
of_collector (name.Clone d b v) e = absurd (true≢false e)
of_collector (name.Inflate v k) e = absurd (true≢false e)
of_collector (name.Coalesce v p) e = refl
of_collector (name.Relink v p) e = refl
of_collector (name.Leaf l p) e = refl

all_of_collector : (ns : List Name) → filter is_making ns ≡ [] → filter is_entry ns ≡ filter is_folding ns
all_of_collector [] none = refl
all_of_collector (n ∷ ns) none = by (is_making n) refl none (all_of_collector ns)
  where
    by : (b : Bool) → is_making n ≡ b → cond b (n ∷ filter is_making ns) (filter is_making ns) ≡ [] → (filter is_making ns ≡ [] → filter is_entry ns ≡ filter is_folding ns)
        → cond (is_entry n) (n ∷ filter is_entry ns) (filter is_entry ns) ≡ cond (is_folding n) (n ∷ filter is_folding ns) (filter is_folding ns)
    by true is e further = cc
    by false is e further = ap₂ (λ (b : Bool) (xs : List Name). cond b (n ∷ xs) xs) (of_collector n is) (further e)

-- The base has the extents of the disk's image and is hidden; the two images over it have these, and are not new; each other volume
-- is as it was, and so are the journal's entries.
pub record IsForkedTable (count : ℕ) (t : VolumeTable) (f : Fork) (own twins : List ℕ) (next : VolumeTable) : Type 0 where
  pub table : IsTable count next
  pub base : Row
  pub base_there : rows next (base_name f) ≡ Some base
  pub base_hidden : base.hidden ≡ true
  pub base_filled : base.fresh ≡ false
  pub base_extents : base.extents ≡ extents_of (rows t f.own)
  pub own_there : rows next (name.Vhd f.disk) ≡ Some (made (name.Vhd f.disk) false own)
  pub twin_there : rows next (name.Vhd f.twin) ≡ Some (made (name.Vhd f.twin) false twins)
  pub gone : f.own ≢ name.Vhd f.disk → rows next f.own ≡ None
  pub others : (n : Name) → n ≢ base_name f → n ≢ name.Vhd f.disk → n ≢ name.Vhd f.twin → n ≢ f.own → rows next n ≡ rows t n
  pub entries : names_in next is_entry ≡ names_in t is_entry
  pub few : length (table_images next) ≤ image_limit

module _ (s : Site) (t : VolumeTable) (m : Known) (u twin : List ℕ) (read_only : Bool) (o : IsOrderly s t m) (tidy : IsTidy t m) (passes : Passes s t m u twin read_only) where
  -- the shape by the number that names the base
  abbrev σ : Shape
  σ = by_number s t m u twin read_only o tidy passes

  abbrev f : Fork
  f = fork_of passes.number m.rows u twin

  abbrev row : TreeRow
  row = (own s t m u twin read_only o tidy passes).row

  is_forkable : IsForkable σ u twin
  unfolding shape_in
  is_forkable = forkable σ u twin read_only passes.unrefused

  its_image : disk_image u σ ≡ Some (machine_row row)
  its_image = own_image s t m u o (own s t m u twin read_only o tidy passes)

  -- ---- the counts

  module _ (keeps : is_given_up (shape_in s t m) (forking u twin read_only) ≡ false) (used : Attached) (uses : IsUsedAs f m.attached used) where
    abbrev after : Shape
    after = record (fork_shape σ u twin read_only) { sequence = risen t.sequence 8 }

    own_named : f.own ≡ row_name row
    own_named = own_is s t m u twin read_only o tidy passes

    -- each image is counted as often as something uses it
    pub counts_then : (n : Name) → count_of used n ≡ refs n after
    unfolding shape_in
    counts_then n = ∥∥₁_elim passes.orderly.well_formed (hlevel props) (λ w. by w (named_or_not n (base_name f)) (named_or_not n (name.Vhd u)) (named_or_not n f.own))
      where
        by : IsWellFormed σ → (n ≡ base_name f) ⊎ (n ≢ base_name f) → (n ≡ name.Vhd u) ⊎ (n ≢ name.Vhd u) → (n ≡ f.own) ⊎ (n ≢ f.own) → count_of used n ≡ refs n after
        by w (inl is) leaf mine =
            ap (count_of used) is ∙ uses.base ∙ passes.orderly.counts f.own ∙ ap (λ x. refs x σ) own_named
            ∙ sym (uses_base σ w u twin is_forkable (machine_row row) its_image read_only (risen t.sequence 8))
            ∙ sym (ap (λ x. refs x after) (is ∙ base_is s t m u twin read_only o tidy passes))
        by w (inr not_base) (inl is) mine =
            ap (count_of used) is ∙ uses.own ∙ passes.orderly.counts f.own ∙ ap (λ x. refs x σ) own_named
            ∙ sym (uses_leaf σ w u twin is_forkable (machine_row row) its_image read_only (risen t.sequence 8))
            ∙ sym (ap (λ x. refs x after) is)
        by w (inr not_base) (inr not_leaf) (inl is) =
            ap (count_of used) is ∙ uses.gone (λ leaf. not_leaf (is ∙ leaf))
            ∙ sym (uses_gone σ w u twin is_forkable (machine_row row) its_image read_only (risen t.sequence 8) (λ leaf. not_leaf (is ∙ own_named ∙ leaf)))
            ∙ sym (ap (λ x. refs x after) (is ∙ own_named))
        by w (inr not_base) (inr not_leaf) (inr not_own) =
            uses.others n not_base not_leaf not_own ∙ passes.orderly.counts n
            ∙ sym (uses_other σ w u twin is_forkable (machine_row row) its_image read_only (risen t.sequence 8) n
            (λ is. not_base (is ∙ sym (base_is s t m u twin read_only o tidy passes))) not_leaf (λ is. not_own (is ∙ sym own_named)))

  -- ---- the volumes and the images in memory

  -- the volume of the disk's image has the extents of its row
  own_long : length (extents_of (rows t f.own)) ≡ row.extents
  own_long = by (rows t f.own) refl (o.images f.own (image_named f.own (own_image_name s t m u twin read_only o tidy passes)) ∙ ap tree_face (found s t m u twin read_only o tidy passes))
    where
      by : (x : Option Row) → rows t f.own ≡ x → row_face x ≡ tree_face (Some row) → length (extents_of x) ≡ row.extents
      by None is e = absurd (none-some _ e)
      by (Some r) is e = ap (λ (g : Face). g.extents) (same_Some _ _ (sym (filled_face r (tidy.none_new r (row_of-In t.volumes f.own r is).0)) ∙ e))

  module _ (keeps : is_given_up (shape_in s t m) (forking u twin read_only) ≡ false) (now k : ℕ) (origin : Record) (placed : place_for m.places twin ≡ Some k)
      (recorded : record_in m.places u ≡ Some origin) (own_es twins : List ℕ) (many : length own_es ≡ wanted σ (is_rw (attached_as u σ)) (sectors_of (tree_row m.rows f.own))) (more : length twins ≡ thin_in σ 0)
      (used : Attached) (uses : IsUsedAs f m.attached used) (next : VolumeTable) (v : IsForkedTable s.count t f own_es twins next) (number : next.sequence ≡ t.sequence + 8) where
    abbrev memory : Known
    memory = known_then s t m u twin read_only o tidy passes now (length own_es) (length twins) k origin placed recorded many more used uses.disks

    same_image : (n : Name) → is_image n ≡ true → row_face (rows next n) ≡ tree_face (tree_row memory.rows n)
    same_image n image = by (named_or_not n (base_name f)) (named_or_not n (name.Vhd u)) (named_or_not n (name.Vhd twin)) (named_or_not n f.own)
      where
        face_base : row_face (rows next (base_name f)) ≡ Some (record { hidden = true; extents = row.extents })
        face_base =
            ap row_face v.base_there ∙ filled_face v.base v.base_filled
            ∙ ap₂ (λ h e. let x : Face = record { hidden = h; extents = e } in Some x) v.base_hidden (ap (λ (es : List ℕ). length es) v.base_extents ∙ own_long)

        by : (n ≡ base_name f) ⊎ (n ≢ base_name f) → (n ≡ name.Vhd u) ⊎ (n ≢ name.Vhd u) → (n ≡ name.Vhd twin) ⊎ (n ≢ name.Vhd twin) → (n ≡ f.own) ⊎ (n ≢ f.own)
            → row_face (rows next n) ≡ tree_face (tree_row memory.rows n)
        by (inl is) leaf other mine =
            ap (λ x. row_face (rows next x)) is ∙ face_base
            ∙ sym (ap (λ x. tree_face (tree_row memory.rows x)) is ∙ ap tree_face (look_base s t m u twin read_only o tidy passes now (length own_es) (length twins)))
        by (inr not_base) (inl is) other mine =
            ap (λ x. row_face (rows next x)) is ∙ ap row_face v.own_there
            ∙ sym (ap (λ x. tree_face (tree_row memory.rows x)) is ∙ ap tree_face (look_leaf s t m u twin read_only o tidy passes now (length own_es) (length twins)))
        by (inr not_base) (inr not_leaf) (inl is) mine =
            ap (λ x. row_face (rows next x)) is ∙ ap row_face v.twin_there
            ∙ sym (ap (λ x. tree_face (tree_row memory.rows x)) is ∙ ap tree_face (look_twin s t m u twin read_only o tidy passes now (length own_es) (length twins)))
        by (inr not_base) (inr not_leaf) (inr not_twin) (inl is) =
            ap (λ x. row_face (rows next x)) is ∙ ap row_face (v.gone (λ leaf. not_leaf (is ∙ leaf)))
            ∙ sym (ap (λ x. tree_face (tree_row memory.rows x)) is ∙ ap tree_face (look_gone s t m u twin read_only o tidy passes now (length own_es) (length twins) (λ leaf. not_leaf (is ∙ leaf))))
        by (inr not_base) (inr not_leaf) (inr not_twin) (inr not_own) =
            ap row_face (v.others n not_base not_leaf not_twin not_own) ∙ o.images n image
            ∙ sym (ap tree_face (look_other s t m u twin read_only o tidy passes now (length own_es) (length twins) n not_base not_leaf not_twin not_own))

    -- no volume is new
    none_new : (r : Row) → In r next.volumes → r.fresh ≡ false
    none_new r i = by (named_or_not r.name (base_name f)) (named_or_not r.name (name.Vhd u)) (named_or_not r.name (name.Vhd twin)) (named_or_not r.name f.own)
      where
        there : rows next r.name ≡ Some r
        there = found_in next.volumes v.table.volumes.rising r i

        found_as : (n : Name) (q : Row) → r.name ≡ n → rows next n ≡ Some q → q.fresh ≡ false → r.fresh ≡ false
        found_as n q is at filled = ap (λ (x : Row). x.fresh) (same_Some r q (sym there ∙ ap (rows next) is ∙ at)) ∙ filled

        by : (r.name ≡ base_name f) ⊎ (r.name ≢ base_name f) → (r.name ≡ name.Vhd u) ⊎ (r.name ≢ name.Vhd u) → (r.name ≡ name.Vhd twin) ⊎ (r.name ≢ name.Vhd twin) → (r.name ≡ f.own) ⊎ (r.name ≢ f.own) → r.fresh ≡ false
        by (inl is) leaf other mine = found_as (base_name f) v.base is v.base_there v.base_filled
        by (inr not_base) (inl is) other mine = found_as (name.Vhd u) (made (name.Vhd u) false own_es) is v.own_there refl
        by (inr not_base) (inr not_leaf) (inl is) mine = found_as (name.Vhd twin) (made (name.Vhd twin) false twins) is v.twin_there refl
        by (inr not_base) (inr not_leaf) (inr not_twin) (inl is) = absurd (none-some r (sym (ap (rows next) is ∙ v.gone (λ leaf. not_leaf (is ∙ leaf))) ∙ there))
        by (inr not_base) (inr not_leaf) (inr not_twin) (inr not_own) = tidy.none_new r (row_of-In t.volumes r.name r (sym (v.others r.name not_base not_leaf not_twin not_own) ∙ there)).0

    shape_as : shape_in s next memory ≡ record (fork_shape σ u twin read_only) { sequence = risen t.sequence 8 }
    shape_as = shape_then s t m u twin read_only o tidy passes now (length own_es) (length twins) k origin placed recorded many more used uses.disks next number

    abbrev at_number : Shape
    at_number = record (fork_shape σ u twin read_only) { sequence = risen passes.number 8 }

    well_numbered : ∥ IsWellFormed at_number ∥₁
    unfolding shape_in
    well_numbered = well_target s (record t { sequence = passes.number }) m (forking u twin read_only) σ_state at_number passes.orderly refl
        (sym (next_then s t m u twin read_only o tidy passes now (length own_es) (length twins) k origin placed recorded many more used uses.disks keeps)
        ∙ sym (step_shape σ_state (forking u twin read_only) passes.unrefused))
      where
        σ_state : State
        σ_state = record { disks = []; shape = σ }

    -- so it is by a number that is not less
    well : ∥ IsWellFormed (shape_in s next memory) ∥₁
    well = subst (λ (x : Shape). ∥ IsWellFormed x ∥₁) (sym shape_as) (∥∥₁_map well_numbered (λ w.
        well_as at_number (risen t.sequence 8) at_number.op (omega arith)
        (λ i n there fits is. let less = w.bases i n there fits is in let more = passes.below in omega (arith, less, more)) w.operation w))

    roomy : IsRoomyIn (shape_in s next memory) m.op
    unfolding shape_in
    roomy = subst (λ (x : Shape). IsRoomyIn x m.op)
        (sym (shape_as ∙ ap (λ (i : Option ImageRow). let x : Shape = record (fork_shape σ u twin read_only) { sequence = risen t.sequence 8; images = fork_images σ u twin i } in x) its_image))
        (roomy_then σ passes.orderly.well_formed u twin is_forkable (machine_row row) its_image (not_folded (shape_in s t m) u twin read_only keeps)
        (risen t.sequence 8) (fork_shape σ u twin read_only).records passes.orderly.roomy)

    pub orderly_then : IsOrderly s next memory
    unfolding shape_in
    orderly_then = record {
      table = v.table;
      few_extents = o.few_extents;
      record_volume = ap (λ x. length (extents_of x)) (v.others name.Mgt
          (λ is. true≢false (sym (base_image s t m u twin read_only o tidy passes) ∙ ap is_image_name (sym is) ∙ mgt_image)) (λ is. (let x = is in cc)) (λ is. (let x = is in cc))
          (λ is. true≢false (sym (own_image_name s t m u twin read_only o tidy passes) ∙ ap is_image_name (sym is) ∙ mgt_image))) ∙ o.record_volume;
      few = v.few;
      new_named = λ r i fresh. absurd (true≢false (sym fresh ∙ none_new r i));
      images = same_image;
      logs = λ d. ap row_face (v.others (name.Cbt d) (name_apart (base_name f) (base_image s t m u twin read_only o tidy passes) d) (image_apart (name.Vhd u) refl d)
          (image_apart (name.Vhd twin) refl d) (name_apart f.own (own_image_name s t m u twin read_only o tidy passes) d)) ∙ o.logs d;
      few_logs = o.few_logs;
      logs_in_order = o.logs_in_order;
      log_room = o.log_room;
      places = length-set m.places k _ ∙ o.places;
      entries = v.entries ∙ o.entries;
      stands = stands_then s t m u twin read_only o tidy passes now (length own_es) (length twins)
          (subst (λ n. HasRoomFor s.geometry 0 (n * s.geometry.extent)) (sym many) (roomy_wanted s t m u twin read_only o tidy passes (is_rw (attached_as u σ)) (sectors_of (tree_row m.rows f.own))))
          (subst (λ n. HasRoomFor s.geometry 0 (n * s.geometry.extent)) (sym more) (roomy_wanted s t m u twin read_only o tidy passes false 0));
      well_formed = well;
      roomy = roomy;
      counts = λ n. counts_then keeps used uses n ∙ sym (ap (refs n) shape_as);
    }

    pub tidy_then : IsTidy next memory
    tidy_then = record {
      none_new = none_new;
      no_stray = no_stray_then s t m u twin read_only o tidy passes now (length own_es) (length twins) k origin placed recorded many more used uses.disks;
    }

-- the last table of a fork is one
module _ (s : Site) (t : VolumeTable) (m : Known) (u twin : List ℕ) (read_only : Bool) (o : IsOrderly s t m) (tidy : IsTidy t m) (passes : Passes s t m u twin read_only)
    (sectors : ℕ) (own_es twins : List ℕ) (taken : AreForFork s t (shape_in s t m) u sectors own_es twins) (proper : IsUuid twin) where
  pub forked_table : IsForkedTable s.count t (fork_of passes.number m.rows u twin) own_es twins (table_forked t (fork_of passes.number m.rows u twin) own_es twins)
  forked_table =
      let last = stage_8 s t m u twin read_only o tidy passes sectors own_es twins taken proper in
      let before = to_fork s t m u twin read_only o tidy passes sectors own_es twins taken proper in
      record {
        table = last.table;
        base = hidden_row s t m u twin read_only o tidy passes sectors own_es twins taken proper;
        base_there = last.base;
        base_hidden = refl;
        base_filled = own_filled s t m u twin read_only o tidy passes sectors own_es twins taken proper;
        base_extents = sym (ap extents_of (own_there s t m u twin read_only o tidy passes sectors own_es twins taken proper));
        own_there = last.leaf;
        twin_there = last.twin;
        gone = last.own;
        others = λ n not_base not_leaf not_twin not_own. ⊎_elim
            (λ is. ap (rows (table_forked t (fork_of passes.number m.rows u twin) own_es twins)) is ∙ last.entry ∙ sym (ap (rows t) is ∙ before.no_entry))
            (λ not_entry. last.others n not_own not_base not_leaf not_twin not_entry) (named_or_not n (entry_name (fork_of passes.number m.rows u twin)));
        entries = all_of_collector (names_of (table_forked t (fork_of passes.number m.rows u twin) own_es twins).volumes) last.making
            ∙ last.folding ∙ sym (all_of_collector (names_of t.volumes) before.none_making);
        few = few_images s t m u twin read_only o tidy passes sectors own_es twins taken proper (table_forked t (fork_of passes.number m.rows u twin) own_es twins) last.images;
      }
