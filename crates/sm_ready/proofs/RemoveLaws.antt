-- An image that nobody uses goes: the collector removes a hidden image without children.
use Rattle.vhd_image.specs.Bodies.{parent_name}
use Rattle.std.proofs.Common.{◌≡◌, ◌≢◌, ◌⊎◌, inl, inr, ⊎_elim, ℕ, ◌+◌, ◌≤◌, ◌&&◌, not, Bool, true, false, cond, List, [], ◌∷◌, length, map, Option, Some, None, refl, sym, ap, ap₂, ◌∙◌, subst}
use Rattle.std.proofs.Math.Logic.{∥∥₁_elim, ∥∥₁_map}
use Rattle.std.proofs.Props.{props}
use Rattle.std.proofs.lemmas.Bool.{true≢false}
use Rattle.std.proofs.lemmas.Option.{same_Some}
use Rattle.std.specs.List.{filter}
use Rattle.std.specs.Str.{bytes_eq}
use Rattle.sm_base.specs.declared.names.Name.{Name}
use Rattle.sm_base.specs.declared.names.Name.TheVariants.{Mgt, Vhd, Raw, Old, Cbt, Clone, Inflate, Coalesce, Relink, Leaf}
use Rattle.sm_disk.specs.Held.{Held, reads}
use Rattle.vg_meta.specs.Tables.{VolumeTable, Row, rows, extents_of, names_of, name_eq}
use Rattle.sm_base.specs.Kinds.{is_entry}
use Rattle.vg_meta.specs.Changes.{Permits, applied, raised, without}
use Rattle.vg_meta.specs.declared.changes.Change.TheVariants.{Remove}
use Rattle.vg_meta.proofs.ByName.{changes_by_name, mgt_stays}
use Rattle.vg_meta.proofs.ChangeLaws.{IsTable-applied}
use Rattle.vg_meta.proofs.NameLaws.{name_eq-other, name_eq-true, name_eq-false}
use Rattle.vg_volumes.specs.Commits.{IsBefore}
use Rattle.vg_volumes.specs.Sites.{Site, area_size}
use Rattle.sm_machine.specs.Collector.{collected, next_step}
use Rattle.sm_machine.specs.Commits.{commits, own_commits, plan_commits, is_given_up, gives_up}
use Rattle.common_laws.proofs.Booleans.{not_false}
use Rattle.common_laws.specs.Lists.{In}
use Rattle.sm_machine.specs.Shapes.{Shape, ImageRow, DiskRecord, same_image, is_image as is_image_in, is_parent, is_image_of, refs, risen, without_image, image_uuid, image_limit}
use Rattle.sm_machine.specs.Steps.{State, step, shape_next, shape_after, unless_refused, accepted}
use Rattle.sm_machine.specs.Laws.{IsUnused}
use Rattle.sm_machine.proofs.Uses.{less_uses}
use Rattle.sm_machine.specs.WellFormed.{IsWellFormed, is_image_name}
use Rattle.sm_machine.specs.declared.commands.Command.TheVariants.{Gc}
use Rattle.common_laws.proofs.Lists.{In-filter, filter-In, In-map_at, In-map}
use Rattle.sm_machine.proofs.Listed.{map-filter}
use Rattle.sm_machine.proofs.Steps.{step_keeps_shape}
use Rattle.sm_machine.specs.Operations.{Op}
use Rattle.sm_base.specs.declared.refusals.Refusal.{Refusal}
use Rattle.sm_machine.specs.Refusals.{refusal}
use Rattle.sm_machine.proofs.ImageNames.{same_image-sound, same_image-refl}
use Rattle.sm_ready.specs.Orderly.{IsRoomy, IsRoomyIn, IsOrderly}
use Rattle.sm_ready.proofs.RowLaws.{tree_found, image_named}
use Rattle.vg_volumes.specs.Volumes.{piece}
use Rattle.sm_record.specs.Records.{reading}
use Rattle.sm_standing.specs.Checks.{parent_is, children as children_of, images as table_images}
use Rattle.sm_standing.specs.Contents.{Content, sectors_of}
use Rattle.sm_standing.specs.Entries.{folding, is_folding}
use Rattle.sm_standing.specs.Images.{image_of}
use Rattle.sm_standing.proofs.ImageLaws.{removed_disks}
use Rattle.sm_standing.proofs.RecordLists.{records_same, record_of_first, first_of}
use Rattle.sm_ready.specs.Outlined.{link_in}
use Rattle.sm_standing.specs.Outlines.{link_of}
use Rattle.sm_ready.specs.Ready.{IsBelow, IsReady}
use Rattle.sm_standing.proofs.ImageSectors.{vhd_same, raw_same}
use Rattle.sm_ready.proofs.LogLaws.{holds_commit, holds_ready}
use Rattle.sm_ready.proofs.LogRows.{name_apart}
use Rattle.sm_ready.proofs.LeftLaws.{left_in, links_left, left_now, none_of_vhd, none_of_raw}
use Rattle.sm_ready.proofs.Orders.{geometry_of, rowed, whole, none_making, none_of, In-tree_row}
use Rattle.sm_ready.proofs.EntryKinds.{folding_journal}
use Rattle.sm_ready.proofs.ShapeLaws.{HasNoNew, any_filter, shown_same}
use Rattle.sm_standing.proofs.DisksShown.{row_of-In}
use Rattle.sm_ready.specs.Known.{Known, machine_row, shape_in, entry_of, row_face, tree_face, records_in, shown_places}
use Rattle.vhd_chain.specs.declared.rows.TreeRow.{TreeRow}
use Rattle.vhd_chain.specs.Trees.{row_name, tree_row}
use Rattle.sm_ready.specs.Done.{HasDone, IsCommit, at_rest}
use Rattle.sm_ready.specs.Stores.{Leaving, content_now}
use Rattle.sm_standing.specs.Standing.{disks}
use Rattle.sm_ready.proofs.CommitLaws.{law_single_commit, volume_rested}
use Rattle.sm_ready.proofs.RestLaws.{IsOfRow, ready_rest}
use Rattle.sm_machine.specs.Operations as op
use Rattle.sm_base.specs.declared.operations.Plan.TheVariants as plan
use Rattle.sm_base.specs.declared.operations.Plan as plan_type

-- memory without an image
abbrev pub without_row : Name → Known → Known
without_row x m = record m { rows = filter (λ r. not (same_image (row_name r) x)) m.rows }

-- a hidden image without children, while no operation runs
pub record IsGarbage (s : Site) (t : VolumeTable) (m : Known) (x : Name) (r : TreeRow) : Type 0 where
  pub idle : m.op ≡ op.Idle
  pub no_new : HasNoNew t
  pub few : length (table_images (applied t (Remove x))) ≤ image_limit
  pub planned : next_step (shape_in s t m) ≡ plan.Remove x
  pub taken : refusal (shape_in s t m) Gc ≡ None
  pub there : tree_row m.rows x ≡ Some r
  pub image : is_image_name x ≡ true
  pub hidden : r.hidden ≡ true
  pub childless : (c : TreeRow) → In c m.rows → is_parent x (machine_row c).parent ≡ false

-- ---- the shape is the machine's

abbrev collected_by : Shape → plan_type.Plan → Shape
collected_by σ p = record (collected p σ) { sequence = risen σ.sequence (0 + plan_commits σ p) }

removed_shape : (σ : State) (x : Name) → refusal σ.shape Gc ≡ None → next_step σ.shape ≡ plan.Remove x
    → (step σ Gc).after.shape ≡ record σ.shape { images = without_image x σ.shape.images; sequence = risen σ.shape.sequence 1 }
unfolding step accepted shape_next shape_after commits own_commits plan_commits is_given_up gives_up collected
removed_shape σ x taken planned = ap (λ (r : Option Refusal). (unless_refused r σ Gc).after.shape) taken ∙ ap (collected_by σ.shape) planned

images_removed : (rows : List TreeRow) (x : Name) → map machine_row (filter (λ r. not (same_image (row_name r) x)) rows) ≡ without_image x (map machine_row rows)
images_removed rows x = map-filter machine_row (λ r. not (same_image (row_name r) x)) (λ i. not (is_image_in x i)) (λ r. refl) rows

-- ---- memory is orderly

pub name_or_not : (n x : Name) → (n ≡ x) ⊎ (n ≢ x)
name_or_not n x = by (name_eq n x) refl
  where
    by : (b : Bool) → name_eq n x ≡ b → (n ≡ x) ⊎ (n ≢ x)
    by true e = inl (name_eq-true n x e)
    by false e = inr (name_eq-false n x e)

tree_without : (rs : List TreeRow) (x n : Name) → n ≢ x → tree_row (filter (λ r. not (same_image (row_name r) x)) rs) n ≡ tree_row rs n
unfolding tree_row
tree_without [] x n other = refl
tree_without (r ∷ rs) x n other = by (same_image (row_name r) x) refl (tree_without rs x n other)
  where
    by : (b : Bool) → same_image (row_name r) x ≡ b → tree_row (filter (λ r. not (same_image (row_name r) x)) rs) n ≡ tree_row rs n
        → tree_row (cond (not b) (r ∷ filter (λ r. not (same_image (row_name r) x)) rs) (filter (λ r. not (same_image (row_name r) x)) rs)) n ≡ tree_row (r ∷ rs) n
    by true is rest = rest ∙ sym (ap (λ b. cond b (Some r) (tree_row rs n)) (name_eq-other (row_name r) n (λ e. other (sym e ∙ same_image-sound (row_name r) x is))))
    by false is rest = ap (λ o. cond (name_eq (row_name r) n) (Some r) o) rest

tree_gone : (rs : List TreeRow) (x : Name) → is_image_name x ≡ true → tree_row (filter (λ r. not (same_image (row_name r) x)) rs) x ≡ None
tree_gone rs x image = by (tree_row (filter (λ r. not (same_image (row_name r) x)) rs) x) refl
  where
    by : (o : Option TreeRow) → tree_row (filter (λ r. not (same_image (row_name r) x)) rs) x ≡ o → o ≡ None
    by None e = refl
    by (Some r) e =
        let w = In-tree_row (filter (λ r. not (same_image (row_name r) x)) rs) x r e in
        let k = (In-filter (λ r. not (same_image (row_name r) x)) rs r w.0).1 in
        absurd (true≢false (sym k ∙ ap not (ap (λ n. same_image n x) w.1 ∙ same_image-refl x image)))

pub names_without : (rs : List Row) (x : Name) → is_entry x ≡ false → filter is_entry (names_of (without x rs)) ≡ filter is_entry (names_of rs)
unfolding without
names_without [] x none = refl
names_without (r ∷ rs) x none = by (name_eq r.name x) refl (names_without rs x none)
  where
    by : (b : Bool) → name_eq r.name x ≡ b → filter is_entry (names_of (without x rs)) ≡ filter is_entry (names_of rs)
        → filter is_entry (names_of (cond b rs (r ∷ without x rs))) ≡ filter is_entry (names_of (r ∷ rs))
    by true is rest = sym (ap (λ b. cond b (r.name ∷ filter is_entry (names_of rs)) (filter is_entry (names_of rs))) (ap is_entry (name_eq-true r.name x is) ∙ none))
    by false is rest = ap (λ ns. cond (is_entry r.name) (r.name ∷ ns) ns) rest

pub In-without : (x : Name) (r : Row) (rs : List Row) → In r (without x rs) → In r rs
unfolding without
In-without x r [] i = i
In-without x r (y ∷ rs) i = by (name_eq y.name x) (λ j. In-without x r rs j) i
  where
    by : (b : Bool) → (In r (without x rs) → In r rs) → In r (cond b rs (y ∷ without x rs)) → In r (y ∷ rs)
    by true rest j = inr j
    by false rest (inl is) = inl is
    by false rest (inr j) = inr (rest j)

-- ---- counts: nobody reads through it

hidden_in : (s : Site) (t : VolumeTable) (m : Known) (x : Name) (r : TreeRow) (i : ImageRow) → IsOrderly s t m → IsGarbage s t m x r → In i (shape_in s t m).images → i.name ≡ x → i.hidden ≡ true
unfolding shape_in
hidden_in s t m x r i o g h same = let w = In-map machine_row m.rows i h in
    ∥∥₁_elim o.well_formed (hlevel props) (λ f.
    let found = tree_found m.rows w.0 f.one_image w.1 in
    let named : row_name w.0 ≡ x = sym (ap (λ (y : ImageRow). y.name) w.2) ∙ same in
    ap (λ (y : ImageRow). y.hidden) w.2 ∙ ap (λ (q : TreeRow). q.hidden) (same_Some w.0 r (sym (ap (tree_row m.rows) (sym named) ∙ found) ∙ g.there)) ∙ g.hidden)

unused_in : (s : Site) (t : VolumeTable) (m : Known) (x : Name) (r : TreeRow) → IsOrderly s t m → IsGarbage s t m x r → IsUnused (shape_in s t m) x
unfolding shape_in
unused_in s t m x r o g = record {
  unattached = λ a i _ h same. ap (λ (b : Bool). not b && bytes_eq (image_uuid i.name) a.disk) (hidden_in s t m x r i o g h same);
  childless = λ i h linked. let w = In-map machine_row m.rows i h in
      true≢false (sym (ap (is_parent x) (sym (ap (λ (y : ImageRow). y.parent) w.2) ∙ linked) ∙ same_image-refl x g.image) ∙ g.childless w.0 w.1);
}

refs_removed : (s : Site) (t : VolumeTable) (m : Known) (x n : Name) (r : TreeRow) (k : ℕ) → IsOrderly s t m → IsGarbage s t m x r
    → refs n (record (shape_in s t m) { images = without_image x (shape_in s t m).images; sequence = k }) ≡ refs n (shape_in s t m)
unfolding refs
refs_removed s t m x n r k o g = ∥∥₁_elim o.well_formed (hlevel props) (λ w. less_uses (shape_in s t m) x w (unused_in s t m x r o g) n)

pub no_journal : (n : Name) → is_image_name n ≡ true → is_entry n ≡ false
unfolding is_image_name
no_journal (Vhd u) e = refl
no_journal (Raw u) e = refl
no_journal Mgt e = refl
no_journal (Old u) e = refl
no_journal (Cbt u) e = refl
no_journal (Clone d b w) e = absurd (true≢false (sym e))
no_journal (Inflate u k) e = absurd (true≢false (sym e))
no_journal (Coalesce c p) e = absurd (true≢false (sym e))
no_journal (Relink c p) e = absurd (true≢false (sym e))
no_journal (Leaf l p) e = absurd (true≢false (sym e))

-- the visible images are the same
records_removed : (s : Site) (t : VolumeTable) (m : Known) (x : Name) (r : TreeRow) → IsOrderly s t m → IsGarbage s t m x r → records_in (shown_places (without_row x m).rows m.places) ≡ records_in (shown_places m.rows m.places)
unfolding shape_in
records_removed s t m x r o g = ap (λ ps. records_in ps) (shown_same (without_row x m).rows m.rows m.places (λ u.
    any_filter (λ q. is_image_of u (machine_row q)) (λ q. not (same_image (row_name q) x)) m.rows (λ q i gone.
    ap (λ b. not b && bytes_eq (image_uuid (row_name q)) u)
    (hidden_in s t m x r (machine_row q) o g (In-map_at machine_row m.rows q i) (same_image-sound (row_name q) x (not_false (same_image (row_name q) x) gone))))))

shape_with : (s : Site) (t : VolumeTable) (m : Known) (x : Name) (r : TreeRow) → IsOrderly s t m → IsGarbage s t m x r
    → shape_in s (applied t (Remove x)) (without_row x m) ≡ record (shape_in s t m) { images = without_image x (shape_in s t m).images; sequence = raised t.sequence }
unfolding shape_in
shape_with s t m x r o g =
    ap₂ (λ (is : List ImageRow) (rs : List DiskRecord). record (shape_in s t m) { records = rs; images = is; sequence = raised t.sequence }) (images_removed m.rows x) (records_removed s t m x r o g)

pub shape_removed : (s : Site) (t : VolumeTable) (m : Known) (x : Name) (r : TreeRow) (σ : State) → IsOrderly s t m → IsGarbage s t m x r → σ.shape ≡ shape_in s t m
    → shape_in s (applied t (Remove x)) (without_row x m) ≡ (step σ Gc).after.shape
unfolding shape_in
shape_removed s t m x r σ o g is =
    shape_with s t m x r o g
    ∙ sym (removed_shape σ x (subst (λ y. refusal y Gc ≡ None) (sym is) g.taken) (subst (λ y. next_step y ≡ plan.Remove x) (sym is) g.planned)
    ∙ ap (λ (y : Shape). record y { images = without_image x y.images; sequence = risen y.sequence 1 }) is)

idle_roomy : (σ : Shape) (o : Op) → σ.op ≡ o → o ≡ op.Idle → IsRoomy σ
idle_roomy σ o is idle = subst (IsRoomyIn σ) (sym (is ∙ idle)) tt

pub orderly_removed : (s : Site) (t : VolumeTable) (m : Known) (x : Name) (r : TreeRow) (σ : State) → IsOrderly s t m → IsGarbage s t m x r → σ.shape ≡ shape_in s t m
    → Permits s.count t (Remove x) → IsOrderly s (applied t (Remove x)) (without_row x m)
unfolding shape_in
orderly_removed s t m x r σ o g is allows =
    let is_it = shape_removed s t m x r σ o g is in
    let by_name = changes_by_name s.count t (Remove x) o.table allows in
    record {
      table = IsTable-applied s.count t (Remove x) o.table allows;
      few_extents = o.few_extents;
      record_volume = ap (λ v. length (extents_of v)) (mgt_stays s.count t (Remove x) o.table allows) ∙ o.record_volume;
      few = g.few;
      new_named = λ q i new. absurd (true≢false (sym new ∙ g.no_new q (In-without x q t.volumes i)));
      images = λ n e. ⊎_elim
          (λ same. ap row_face (ap (rows (applied t (Remove x))) same ∙ by_name.does.2) ∙ sym (ap tree_face (ap (tree_row (without_row x m).rows) same ∙ tree_gone m.rows x g.image)))
          (λ other. ap row_face (by_name.others n other) ∙ o.images n e ∙ sym (ap tree_face (tree_without m.rows x n other))) (name_or_not n x);
      logs = λ u. ap row_face (by_name.others (Cbt u) (name_apart x g.image u)) ∙ o.logs u;
      few_logs = o.few_logs;
      logs_in_order = o.logs_in_order;
      log_room = o.log_room;
      entries = names_without t.volumes x (no_journal x g.image) ∙ o.entries;
      places = o.places;
      stands = λ q i. o.stands q (In-filter (λ r. not (same_image (row_name r) x)) m.rows q i).0;
      well_formed = ∥∥₁_map o.well_formed (λ w. subst IsWellFormed (sym is_it) (step_keeps_shape σ Gc (subst IsWellFormed (sym is) w)));
      roomy = idle_roomy (shape_in s (applied t (Remove x)) (without_row x m)) m.op refl g.idle;
      counts = λ n. o.counts n ∙ sym (refs_removed s t m x n r (raised t.sequence) o g) ∙ sym (ap (refs n) (shape_with s t m x r o g));
    }

-- ---- the content is the same without it

abbrev pub after : Site → VolumeTable → Held → Name → Content
after s t old x = content_now s (applied t (Remove x)) (at_rest (reads old))

pub same_rows : (s : Site) (t : VolumeTable) (m : Known) (x n : Name) → IsOrderly s t m → Permits s.count t (Remove x) → n ≢ x → rows (applied t (Remove x)) n ≡ rows t n
same_rows s t m x n o allows other = (changes_by_name s.count t (Remove x) o.table allows).others n other

pub sectors_kept : (s : Site) (t : VolumeTable) (old : Held) (x n : Name) → rows (applied t (Remove x)) n ≡ rows t n → (p : ℕ) → sectors_of (after s t old x) n p ≡ sectors_of (content_now s t old) n p
unfolding sectors_of
sectors_kept s t old x n same p = ap (λ o. piece s.geometry.extent (extents_of o) (reads old) p) same

-- each other image is the same, beside orderly memory
pub image_kept : (s : Site) (t : VolumeTable) (old : Held) (m m' : Known) (x n : Name) (o : Option Row) → IsOrderly s t m → IsOrderly s (applied t (Remove x)) m' → Permits s.count t (Remove x) → n ≢ x → rows t n ≡ o
    → image_of (after s t old x) n ≡ image_of (content_now s t old) n
unfolding image_of
image_kept s t old m m' x (Vhd u) None o o' allows other is = none_of_vhd (after s t old x) u (same_rows s t m x (Vhd u) o allows other ∙ is) ∙ sym (none_of_vhd (content_now s t old) u is)
image_kept s t old m m' x (Vhd u) (Some v) o o' allows other is =
    let same = same_rows s t m x (Vhd u) o allows other in
    vhd_same (content_now s t old) (after s t old x) u u v v (geometry_of s t m o) (record {
      extent = refl;
      block = refl;
      entries = refl;
      before = is;
      after = same ∙ is;
      extents = refl;
      fresh = refl;
      sectors = λ p _. sectors_kept s t old x (Vhd u) same p;
    }) (whole s t m (Vhd u) o) (whole s (applied t (Remove x)) m' (Vhd u) o')
image_kept s t old m m' x (Raw u) None o o' allows other is = none_of_raw (after s t old x) u (same_rows s t m x (Raw u) o allows other ∙ is) ∙ sym (none_of_raw (content_now s t old) u is)
image_kept s t old m m' x (Raw u) (Some v) o o' allows other is =
    let same = same_rows s t m x (Raw u) o allows other in
    raw_same (content_now s t old) (after s t old x) u u v v (record {
      extent = refl;
      block = refl;
      entries = refl;
      before = is;
      after = same ∙ is;
      extents = refl;
      fresh = refl;
      sectors = λ p _. sectors_kept s t old x (Raw u) same p;
    })
image_kept s t old m m' x Mgt v o o' allows other is = refl
image_kept s t old m m' x (Old u) v o o' allows other is = refl
image_kept s t old m m' x (Cbt u) v o o' allows other is = refl
image_kept s t old m m' x (Clone d b w) v o o' allows other is = refl
image_kept s t old m m' x (Inflate u k) v o o' allows other is = refl
image_kept s t old m m' x (Coalesce c p) v o o' allows other is = refl
image_kept s t old m m' x (Relink c p) v o o' allows other is = refl
image_kept s t old m m' x (Leaf l p) v o o' allows other is = refl

-- nobody's image has it as a parent
pub no_child : (s : Site) (t : VolumeTable) (old : Held) (m : Known) (x n : Name) → IsOrderly s t m → IsReady s t old m → ((c : TreeRow) → In c m.rows → is_parent x (machine_row c).parent ≡ false)
    → parent_is x (link_of (image_of (content_now s t old) n)) ≡ false
no_child s t old m x n o ready childless =
    ap (parent_is x) (links_left s t old m (reads old) n o ready.firm (left_in s t m old (reads old) o (left_now s old))) ∙ by (tree_row m.rows n) refl
  where
    by : (y : Option TreeRow) → tree_row m.rows n ≡ y → parent_is x (link_in y) ≡ false
    by None is = refl
    by (Some c) is = of (parent_name c.image) (childless c (In-tree_row m.rows n c is).0)
      where
        of : (q : Option Name) → is_parent x q ≡ false → elim q as (λ o. Bool) [ None ↦ false | Some p ↦ same_image p x ] ≡ false
        of None e = refl
        of (Some p) e = e

filter_none : {A : Type 0} (test : A → Bool) (xs : List A) → ((x : A) → In x xs → test x ≡ false) → filter test xs ≡ []
filter_none test [] none = refl
filter_none test (x ∷ xs) none = ap (λ b. cond b (x ∷ filter test xs) (filter test xs)) (none x (inl refl)) ∙ filter_none test xs (λ y i. none y (inr i))

pub none_folding : (s : Site) (t : VolumeTable) (m : Known) → IsOrderly s t m → m.op ≡ op.Idle → folding t ≡ []
none_folding s t m o idle = none_of (folding t) (λ n i.
    let w = In-filter is_folding (names_of t.volumes) n i in
    subst (In n) (o.entries ∙ ap entry_of idle) (filter-In is_entry (names_of t.volumes) n w.0 (folding_journal n w.1)))

removed_disks_same : (s : Site) (t : VolumeTable) (old : Held) (m : Known) (x : Name) (r : TreeRow) → IsOrderly s t m → IsReady s t old m → IsGarbage s t m x r → Permits s.count t (Remove x)
    → disks (after s t old x) ≡ disks (content_now s t old)
unfolding children_of
removed_disks_same s t old m x r o ready g allows =
    let o' = orderly_removed s t m x r (record { disks = []; shape = shape_in s t m }) o g refl allows in
    let by_name = changes_by_name s.count t (Remove x) o.table allows in
    let w = rowed s t m x by_name.does.0 o (image_named x g.image) by_name.does.1 (g.no_new by_name.does.0 (row_of-In t.volumes x by_name.does.0 by_name.does.1).0) in
    let c = content_now s t old in
    removed_disks c (after s t old x) x by_name.does.0 (record {
      name = same_image-refl x g.image;
      there = by_name.does.1;
      hidden = sym w.hidden ∙ ap (λ (q : TreeRow). q.hidden) (same_Some w.row r (sym w.found ∙ g.there)) ∙ g.hidden;
      childless = filter_none (λ q. parent_is x (link_of (image_of c q.name))) t.volumes (λ q i. no_child s t old m x q.name o ready g.childless);
      gone = by_name.does.2;
      others = λ n other. by_name.others n other;
      images = λ n other. image_kept s t old m (without_row x m) x n (rows t n) o o' allows other refl;
      recorded = λ u. record_of_first (after s t old x) u
          ∙ ap first_of (records_same c (after s t old x) u (λ k below. ap reading (sectors_kept s t old x Mgt (mgt_stays s.count t (Remove x) o.table allows) k)))
          ∙ sym (record_of_first c u);
      none_making = none_making s t m o;
      none_folding = none_folding s t m o g.idle;
      still_none_making = none_making s (applied t (Remove x)) (without_row x m) o';
      still_none_folding = none_folding s (applied t (Remove x)) (without_row x m) o' g.idle;
    })

-- ---- and the call has done its work

pub law_remove : (s : Site) (t : VolumeTable) (old new : Held) (m : Known) (x : Name) (r : TreeRow) (before leaves : Leaving) (ok : Type 0)
    → IsOrderly s t m → IsReady s t old m → IsGarbage s t m x r → Permits s.count t (Remove x)
    → ((image : ℕ → List ℕ) → IsBefore (area_size s) t old t image → before t image)
    → IsCommit s t (applied t (Remove x)) old new leaves ok
    → HasDone s t (applied t (Remove x)) old new (without_row x m) before leaves ok (disks (content_now s t old))
law_remove s t old new m x r before leaves ok o ready g allows might commit =
    law_single_commit s t (applied t (Remove x)) old new m (without_row x m) before leaves ok (disks (content_now s t old)) o ready
    (orderly_removed s t m x r (record { disks = []; shape = shape_in s t m }) o g refl allows)
    (ready_rest s t (applied t (Remove x)) old m (without_row x m) ready from (ap extents_of (mgt_stays s.count t (Remove x) o.table allows)) refl
    (holds_commit (holds_ready s t old m o ready) (applied t (Remove x)) (IsTable-applied s.count t (Remove x) o.table allows) (λ u. same_rows s t m x (Cbt u) o allows (name_apart x g.image u)) (λ u. volume_rested s (applied t (Remove x)) (reads old) (Cbt u))).logs
    (volume_rested s (applied t (Remove x)) (reads old)) (subst (IsBelow (after s t old x)) (sym g.idle) tt))
    might commit (removed_disks_same s t old m x r o ready g allows) refl
  where
    from : (q : TreeRow) → In q (without_row x m).rows → IsOfRow t (applied t (Remove x)) m q
    from q i =
        let w = In-filter (λ r. not (same_image (row_name r) x)) m.rows q i in
        record {
          row = q;
          there = w.0;
          image = refl;
          extents = refl;
          same = ap extents_of (same_rows s t m x (row_name q) o allows (λ same. true≢false (sym w.1 ∙ ap not (ap (λ n. same_image n x) same ∙ same_image-refl x g.image))));
        }
