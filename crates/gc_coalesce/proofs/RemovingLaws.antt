-- A hidden image that no image reads through goes, in a store: what the machine's plan says of it, and what its commit leaves.
use Rattle.std.proofs.Common.{◌≡◌, inl, inr, IfSome, ℕ, suc, ◌+◌, ◌≤◌, ◌&&◌, ◌==◌, not, Bool, true, false, cond, List, [], ◌∷◌, length, map, Option, None, refl, sym, ap, ap₂, ◌∙◌, subst, subst₂, arith}
use Rattle.std.proofs.Math.Logic.{∥∥₁_elim}
use Rattle.std.proofs.Math.Path.{fun_ext}
use Rattle.std.proofs.Props.{props}
use Rattle.std.proofs.lemmas.Bool.{and_parts, eqb-true, false_from_ne_true, le-ltb, true≢false}
use Rattle.std.proofs.lemmas.Option.{same_Some}
use Rattle.std.specs.List.{filter}
use Rattle.common_laws.proofs.Lists.{In-filter, In-map, In-map_at, filter-In}
use Rattle.common_laws.specs.Lists.{Distinct, In, first_some, given}
use Rattle.sm_base.specs.declared.names.Name.{Name}
use Rattle.sm_base.specs.declared.operations.Plan.TheVariants as plan
use Rattle.sm_base.specs.declared.refusals.Refusal.{Refusal}
use Rattle.sm_base.specs.declared.refusals.Refusal.TheVariants.{NoSpace}
use Rattle.vg_meta.specs.Tables.{VolumeTable, name_eq, rows}
use Rattle.vg_meta.specs.Changes.{Permits, applied}
use Rattle.vg_meta.specs.declared.changes.Change.TheVariants.{Remove}
use Rattle.vg_meta.proofs.NameLaws.{name_eq-false, name_eq-other, name_eq-same, name_eq-true}
use Rattle.vg_volumes.specs.Sites.{Site}
use Rattle.vg_volumes.specs.Stored.{CanCommit, Commits, FailsToCommit, IsEitherOf, stored}
use Rattle.vg_volumes.specs.declared.stores.Store.{Ghosts}
use Rattle.vhd_chain.specs.Trees.{Tree, has_name, row_name, tree_row, without}
use Rattle.vhd_chain.specs.declared.rows.TreeRow.{TreeRow}
use Rattle.sm_machine.specs.Collector.{is_childless, next_step}
use Rattle.sm_machine.specs.Refusals.{forked, is_bad_size, is_deep, is_in_use, is_not_attached, is_out_of_range, is_raw_disk, is_tracked, is_untracked, is_read_only, is_reserved, is_shrink, is_spent, is_taken, is_too_many, is_unknown, lacks_space, named, need, new_uuid, refusal}
use Rattle.sm_machine.specs.Shapes.{ImageRow, Shape, children, free, image_uuid, is_image_of, is_parent, same_image}
use Rattle.sm_machine.specs.Steps.{State, accepted, disks_next, shape_next, step, unless_refused}
use Rattle.sm_machine.specs.WellFormed.{is_image_name}
use Rattle.sm_machine.specs.declared.commands.Command.TheVariants.{Gc}
use Rattle.sm_machine.proofs.ImageNames.{same_image-refl, same_image-sound}
use Rattle.sm_base.specs.Kinds.{is_image as is_data}
use Rattle.std.specs.Str.{bytes_eq}
use Rattle.common_laws.proofs.Booleans.{not_false}
use Rattle.sm_standing.specs.Logs.{IsLogged}
use Rattle.sm_standing.specs.Standing.{disks}
use Rattle.sm_ready.specs.Does.{ShapesAs, StoreDoes}
use Rattle.sm_ready.specs.Done.{HasDone, IsCommit}
use Rattle.sm_ready.specs.Frames.{HasTrueImages}
use Rattle.sm_ready.specs.Framing.{IsBetweenSteps}
use Rattle.sm_ready.proofs.RoomLaws.{rows_commits}
use Rattle.sm_ready.specs.Known.{Known, is_shown, known, machine_row, shape_in}
use Rattle.sm_ready.specs.Orderly.{IsOrderly}
use Rattle.sm_ready.specs.Ready.{IsTidy}
use Rattle.sm_ready.specs.Sessions.{HasTreeRoom, IsOrderlyStore, IsTidyStore}
use Rattle.sm_ready.specs.Stores.{StoreLeaves, content_in, store_content}
use Rattle.sm_ready.specs.declared.memory.Memory.{Memory}
use Rattle.sm_ready.proofs.ChainLaws.{commit_failed, commit_made, only_crash, tab}
use Rattle.sm_ready.proofs.FitLaws.{fits_orderly}
use Rattle.sm_ready.proofs.FrameLaws.{true_kept, volume_commits}
use Rattle.sm_ready.proofs.GoneLaws.{fewer_left}
use Rattle.sm_ready.proofs.Orders.{In-tree_row, named_row}
use Rattle.sm_ready.proofs.RemoveLaws.{IsGarbage, In-without, law_remove, orderly_removed, shape_removed, without_row}
use Rattle.sm_ready.proofs.RowLaws.{HasVolume, image_named, tree_found, volume_there}
use Rattle.sm_ready.proofs.ShapeLaws.{any_filter}
use Rattle.sm_ready.proofs.TakenLaws.{IsTold}
use Rattle.gc_coalesce.proofs.PlannedLaws.{removal_planned}

-- the collector is never refused
fits_always : (σ : Shape) → lacks_space σ Gc ≡ false
unfolding lacks_space need
fits_always σ = le-ltb (free σ) 0 (omega arith)

never_refused : (σ : Shape) → refusal σ Gc ≡ None
unfolding refusal is_reserved is_unknown is_taken is_in_use is_not_attached is_read_only is_raw_disk is_tracked is_untracked is_out_of_range is_bad_size is_shrink is_deep is_too_many is_spent new_uuid named forked
never_refused σ = ap (λ b. first_some (given b (NoSpace (need σ Gc) (free σ)) ∷ [])) (fits_always σ)

-- ---- in memory

none_in : {A : Type 0} (xs : List A) → (length xs == 0) ≡ true → (x : A) → In x xs → ⊥
none_in [] none x i = i
none_in (y ∷ ys) none x i = absurd (omega (arith, eqb-true (suc (length ys)) 0 none))

-- an image goes that nobody uses
pub record IsToRemove (s : Site) (t : VolumeTable) (m : Known) (x : Name) : Type 0 where
  pub orderly : IsOrderly s t m
  pub tidy : IsTidy t m
  pub row : TreeRow
  pub garbage : IsGarbage s t m x row

pub to_remove : (s : Site) (t : VolumeTable) (m : Known) (x : Name) → IsOrderly s t m → IsTidy t m → next_step (shape_in s t m) ≡ plan.Remove x → IsToRemove s t m x
unfolding shape_in children
to_remove s t m x o tidy planned =
    let p = removal_planned (shape_in s t m) x planned in
    let w = In-map machine_row m.rows p.image p.there in
    let r = w.0 in
    let name : row_name r ≡ x = sym (ap (λ (i : ImageRow). i.name) w.2) ∙ p.is_named in
    let parts = and_parts p.image.hidden (is_childless (shape_in s t m) p.image) p.garbage in
    let none : (c : TreeRow) → In c m.rows → is_parent x (machine_row c).parent ≡ false = λ c i. false_from_ne_true (is_parent x (machine_row c).parent) (λ e.
    none_in (children p.image.name (shape_in s t m).images) parts.1 (machine_row c)
    (filter-In (λ (j : ImageRow). is_parent p.image.name j.parent) (map machine_row m.rows) (machine_row c) (In-map_at machine_row m.rows c i)
    (ap (λ n. is_parent n (machine_row c).parent) p.is_named ∙ e))) in
    record {
      orderly = o;
      tidy = tidy;
      row = r;
      garbage = record {
        idle = p.idle;
        no_new = tidy.none_new;
        few = omega (arith, fewer_left (λ q. is_data q.name) x t.volumes, o.few);
        planned = planned;
        taken = never_refused (shape_in s t m);
        there = ∥∥₁_elim o.well_formed (hlevel props) (λ f. ap (tree_row m.rows) (sym name) ∙ tree_found m.rows r f.one_image w.1);
        image = subst (λ n. is_image_name n ≡ true) name (named_row s t m r o w.1);
        hidden = sym (ap (λ (i : ImageRow). i.hidden) w.2) ∙ parts.0;
        childless = none;
      };
    }

module _ {s : Site} {t : VolumeTable} {m : Known} {x : Name} (h : IsToRemove s t m x) where
  abbrev next : VolumeTable
  next = applied t (Remove x)

  abbrev rest : Known
  rest = without_row x m

  abbrev state : State
  state = record { disks = []; shape = shape_in s t m }

  its : HasVolume t (row_name h.row)
  its = let r = In-tree_row m.rows x h.row h.garbage.there in
      volume_there s t m h.row h.orderly (image_named (row_name h.row) (named_row s t m h.row h.orderly r.0)) (ap (tree_row m.rows) r.1 ∙ h.garbage.there)

  pub may_go : Permits s.count t (Remove x)
  unfolding is_image_name
  may_go = record {
    row = its.row;
    there = ap (rows t) (sym (In-tree_row m.rows x h.row h.garbage.there).1) ∙ its.there;
    not_mgt = λ same. true≢false (sym h.garbage.image ∙ ap is_image_name same);
  }

  pub orderly_less : IsOrderly s next rest
  orderly_less = orderly_removed s t m x h.row state h.orderly h.garbage refl may_go

  pub shape_less : shape_in s next rest ≡ shape_next (shape_in s t m) Gc
  unfolding step accepted
  shape_less = shape_removed s t m x h.row state h.orderly h.garbage refl ∙ ap (λ (r : Option Refusal). (unless_refused r state Gc).after.shape) (never_refused (shape_in s t m))

  -- the row of the name is the image's
  only : (q : TreeRow) → In q m.rows → row_name q ≡ x → q ≡ h.row
  unfolding shape_in
  only q i same = ∥∥₁_elim h.orderly.well_formed (hlevel props) (λ w. same_Some q h.row (sym (tree_found m.rows q w.one_image i) ∙ ap (tree_row m.rows) same ∙ h.garbage.there))

  shown_less : (u : List ℕ) → is_shown rest.rows u ≡ is_shown m.rows u
  shown_less u = any_filter (λ q. is_image_of u (machine_row q)) (λ q. not (same_image (row_name q) x)) m.rows (λ q i gone.
      ap (λ b. not b && bytes_eq (image_uuid (row_name q)) u)
      (ap (λ (y : TreeRow). y.hidden) (only q i (same_image-sound (row_name q) x (not_false (same_image (row_name q) x) gone))) ∙ h.garbage.hidden))

  pub tidy_less : IsTidy next rest
  tidy_less = record { none_new = λ q i. h.tidy.none_new q (In-without x q t.volumes i); no_stray = λ r i. shown_less r.uuid ∙ h.tidy.no_stray r i }

  -- memory without the row is that without the image
  alike : (n : Name) → name_eq n x ≡ same_image n x
  alike n = by (name_eq n x) refl (same_image n x) refl
    where
      by : (a : Bool) → name_eq n x ≡ a → (b : Bool) → same_image n x ≡ b → name_eq n x ≡ same_image n x
      by true e true f = e ∙ sym f
      by false e false f = e ∙ sym f
      by true e false f = absurd (true≢false (sym (same_image-refl x h.garbage.image) ∙ ap (λ k. same_image k x) (sym (name_eq-true n x e)) ∙ f))
      by false e true f = absurd (name_eq-false n x e (same_image-sound n x f))

  pub rows_less : without x m.rows ≡ rest.rows
  rows_less = ap (λ keep. filter keep m.rows) (fun_ext (λ (r : TreeRow). ap not (alike (row_name r))))

-- ---- room in the tree

-- at most one row has a name
one_fewer : (rs : List TreeRow) (x : Name) → Distinct (map (λ i. image_uuid i.name) (map machine_row rs)) → length rs ≤ length (without x rs) + 1
one_fewer [] x differ = omega arith
one_fewer (r ∷ rs) x differ = by (has_name x r) refl (one_fewer rs x differ.1)
  where
    away : has_name x r ≡ true → (q : TreeRow) → In q rs → has_name x q ≡ false
    away is q i = name_eq-other (row_name q) x (λ same. differ.0 (subst (λ v. In v (map (λ y. image_uuid y.name) (map machine_row rs))) (ap image_uuid (same ∙ sym (name_eq-true (row_name r) x is)))
        (In-map_at (λ (y : ImageRow). image_uuid y.name) (map machine_row rs) (machine_row q) (In-map_at machine_row rs q i))))

    others : (qs : List TreeRow) → ((q : TreeRow) → In q qs → has_name x q ≡ false) → length qs ≤ length (without x qs)
    others [] none = omega arith
    others (q ∷ qs) none =
        let rest = others qs (λ y i. none y (inr i)) in
        omega (arith, rest, ap (λ b. length (cond (not b) (q ∷ without x qs) (without x qs))) (none q (inl refl)))

    by : (b : Bool) → has_name x r ≡ b → length rs ≤ length (without x rs) + 1 → suc (length rs) ≤ length (cond (not b) (r ∷ without x rs) (without x rs)) + 1
    by true is more = omega (arith, others rs (away is))
    by false is more = omega (arith, more)

-- the tree keeps room for all images
pub tree_room_less : {s : Site} {t : VolumeTable} {x : Name} (m : Memory) → IsToRemove s t (known m) x → (tree : Tree) (taken : Option TreeRow) → taken ≡ tree_row m.tree.rows x
    → tree.rows ≡ without x m.tree.rows → IfSome taken (λ _. tree.spare ≡ m.tree.spare + 1) → HasTreeRoom m → HasTreeRoom (record m { tree = tree })
unfolding shape_in
tree_room_less {x = x} m h tree taken was less spare room = ∥∥₁_elim h.orderly.well_formed (hlevel props) (λ w.
    let long = ap (λ (qs : List TreeRow). length qs) less in
    let more : tree.spare ≡ m.tree.spare + 1 = subst (λ o. IfSome o (λ _. tree.spare ≡ m.tree.spare + 1)) (was ∙ h.garbage.there) spare in
    omega (arith, long, more, one_fewer m.tree.rows x w.one_image, room))

-- ---- in a store

module _ {S : Type 0} (g : Ghosts S) (a : S) (m : Memory) {x : Name} (h : IsToRemove (g.site a) (tab g a) (known m) x) where
  pub can_remove : g.failed a ≡ false → CanCommit g (Remove x) a
  can_remove usable = record { usable = usable; allowed = may_go h; room = tt; fits = fits_orderly (g.site a) (applied (tab g a) (Remove x)) (without_row x (known m)) (orderly_less h) }

  -- what the commit leaves, where the store tells its content
  done_less : IsTold g a m → (b : S) (ok : Type 0) → IsCommit (g.site a) (tab g a) (applied (tab g a) (Remove x)) (g.area a) (g.area b) (StoreLeaves g b) ok
      → HasDone (g.site a) (tab g a) (applied (tab g a) (Remove x)) (g.area a) (g.area b) (without_row x (known m)) (StoreLeaves g a) (StoreLeaves g b) ok (disks (store_content g a))
  done_less k b ok commit = law_remove (g.site a) (tab g a) (g.area a) (g.area b) (known m) x h.row (StoreLeaves g a) (StoreLeaves g b) ok h.orderly k.ready h.garbage (may_go h)
      (λ image at. inr (k.told, k.usable, at)) commit

  -- behind the commit
  module _ {b : S} (c : Commits g (Remove x) a b) (tree : Tree) (less : tree.rows ≡ without x m.tree.rows) where
    abbrev after : Memory
    after = record m { tree = tree }

    memory : known after ≡ without_row x (known m)
    memory = ap (λ rs. let k : Known = record (known m) { rows = rs } in k) (less ∙ rows_less h)

    orderly_end : IsOrderlyStore g b after
    orderly_end = subst₂ (λ y z. IsOrderly y z (known after)) (sym c.site) (sym c.table) (subst (IsOrderly (g.site a) (applied (tab g a) (Remove x))) (sym memory) (orderly_less h))

    tidy_end : IsTidyStore g b after
    tidy_end = subst₂ IsTidy (sym c.table) (sym memory) (tidy_less h)

    pub shape_end : ShapesAs g Gc a m b after
    shape_end = ap₂ (λ y z. shape_in y z (known after)) c.site c.table ∙ ap (shape_in (g.site a) (applied (tab g a) (Remove x))) memory ∙ shape_less h

    true_end : HasTrueImages g a m → HasTrueImages g b after
    true_end = true_kept g m after c.site (λ told r i.
        let w = In-filter (λ q. not (has_name x q)) m.tree.rows r (subst (In r) less i) in
        (w.0, volume_commits r h.orderly.table (may_go h) (λ same. true≢false (sym w.1 ∙ ap not (name_eq-same (row_name r) x same))) c told))

    pub done_end : IsTold g a m → ((v : VolumeTable) (image : ℕ → List ℕ) → g.leaves b v image → IsEitherOf (stored g a) (Remove x) v image) → (ok : Type 0) → StoreDoes g Gc a m b after ok
    unfolding disks_next
    done_end k stop ok = subst₂ (λ z y. HasDone (g.site a) (tab g a) z (g.area a) (g.area b) y (StoreLeaves g a) (StoreLeaves g b) ok (disks (store_content g a))) (sym c.table) (sym memory)
        (done_less k b ok (commit_made g (Remove x) ok refl refl k.told c stop))

    -- the session is between two steps, as it was
    pub between_end : HasTreeRoom after → IsBetweenSteps g a m → IsBetweenSteps g b after
    between_end room i = record {
      usable = c.usable;
      orderly = orderly_end;
      tidy = tidy_end;
      true_images = true_end i.true_images;
      rows = rows_commits (can_remove i.usable) c i.rows;
      tree_room = room;
      attachment_room = i.attachment_room;
    }

  -- the commit failed
  pub failed_end : IsTold g a m → {b : S} (n : Memory) (ok : Type 0) → (ok → ⊥) → n.logs ≡ m.logs → FailsToCommit g a b
      → ((v : VolumeTable) (image : ℕ → List ℕ) → g.leaves b v image → IsEitherOf (stored g a) (Remove x) v image) → StoreDoes g Gc a m b n ok
  unfolding disks_next
  failed_end k {b} n ok never same_logs fails stop =
      let done = done_less k b ok (commit_failed g (Remove x) ok never refl refl k.told fails stop) in
      only_crash never done.crash (λ v image l. subst (IsLogged (content_in (g.site a) v image)) (sym same_logs) (done.logged v image l))
