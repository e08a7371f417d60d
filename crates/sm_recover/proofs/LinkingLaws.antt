-- Children that are linked one after the other: what a link makes of the shape in memory, that fewer children are left, and that what a
-- stop leaves has the disks from before.
use Rattle.std.proofs.Common.{◌≡◌, ◌⊎◌, inl, inr, ⊎_elim, ℕ, suc, ◌+◌, ◌<◌, Bool, true, false, cond, List, [], ◌∷◌, map, length, Option, Some, None, refl, sym, ap, ap₂, ◌∙◌, subst, subst₂, arith}
use Rattle.std.proofs.Math.Logic.{∥∥₁_elim}
use Rattle.std.proofs.Props.{props}
use Rattle.std.specs.List.{filter, slice_get}
use Rattle.std.specs.declared.cmp.Ordering.TheVariants.{Less}
use Rattle.std.proofs.lemmas.Bool.{true≢false}
use Rattle.std.proofs.lemmas.Option.{none-some, same_Some}
use Rattle.common_laws.specs.Lists.{In, when}
use Rattle.common_laws.proofs.Lists.{In-filter, In-map, In-map_at}
use Rattle.sm_base.specs.declared.names.Name.{Name}
use Rattle.sm_base.specs.declared.names.Name.TheVariants.{Cbt, Relink}
use Rattle.sm_machine.specs.Operations.{Op}
use Rattle.sm_machine.specs.Operations as op
use Rattle.sm_base.specs.declared.operations.Plan.TheVariants as plan
use Rattle.sm_disk.specs.Held.{IsSettled}
use Rattle.vg_meta.specs.Changes.{applied}
use Rattle.vg_meta.specs.Roomy.{table_alone}
use Rattle.vg_meta.specs.Tables.{IsTable, VolumeTable, name_eq, rows}
use Rattle.vg_meta.specs.declared.changes.Change.TheVariants.{Remove}
use Rattle.vg_meta.proofs.NameLaws.{name_eq-refl, name_eq-true}
use Rattle.vg_volumes.specs.Sites.{Site}
use Rattle.vg_volumes.specs.Stored.{IsChoiceOf, IsEitherOf, stored}
use Rattle.vg_volumes.specs.declared.stores.Store.{Ghosts}
use Rattle.vhd_image.specs.Bodies.{parent_name}
use Rattle.vhd_chain.specs.Trees.{first_name, is_child_of, row_name, tree_row}
use Rattle.vhd_chain.specs.Trees as tree
use Rattle.vhd_chain.specs.declared.rows.TreeRow.{TreeRow}
use Rattle.sm_machine.specs.Collector.{collected, linked, next_step, plan_running, relink_or}
use Rattle.sm_machine.specs.Commits.{commits, gives_up, is_given_up, own_commits, plan_commits}
use Rattle.sm_machine.specs.Disks.{Disk}
use Rattle.sm_machine.specs.Runs.{HasSector, face}
use Rattle.sm_machine.specs.Shapes.{ImageRow, Shape, children, image_uuid, is_image, is_parent, on_image, risen, same_image}
use Rattle.sm_machine.specs.Steps.{shape_after, shape_next}
use Rattle.sm_machine.specs.WellFormed.{IsChild, IsOperation, IsWellFormed}
use Rattle.sm_machine.specs.declared.commands.Command.TheVariants.{Gc}
use Rattle.sm_machine.proofs.Changes.{filter-map_less}
use Rattle.sm_machine.proofs.Debts.{is_itself, parent_apart}
use Rattle.sm_machine.proofs.ImageNames.{other_image, same_image-sound}
use Rattle.sm_run.specs.Between.{IsBetween}
use Rattle.sm_standing.specs.Keeping.{IsKept}
use Rattle.sm_standing.specs.LogChecks.{HasLogsOf}
use Rattle.sm_standing.specs.Opened.{linked_past, past_parent}
use Rattle.sm_standing.specs.Ordered.{Rising, disk_cmp}
use Rattle.sm_standing.specs.Standing.{disks}
use Rattle.sm_standing.proofs.DiskLists.{rising-disks}
use Rattle.sm_standing.proofs.DisksShown.{disk_cmp_total}
use Rattle.sm_disk.proofs.HeldLaws.{Keeps-none}
use Rattle.sm_machine.specs.Steps.{disks_next}
use Rattle.sm_ready.specs.Does.{ShapesAs, StoreDoes, store_shape}
use Rattle.sm_ready.specs.Frames.{HasTrueImages}
use Rattle.sm_ready.specs.Known.{Known, entry_of, known, machine_row, shape_in}
use Rattle.sm_ready.specs.Sessions.{IsOrderlyStore, IsReadyStore}
use Rattle.sm_ready.specs.Orderly.{IsOrderly}
use Rattle.sm_ready.specs.Repairs.{IsSame}
use Rattle.sm_ready.specs.Ready.{IsReady}
use Rattle.sm_ready.specs.Stores.{MayShow, StoreLeaves, content_in, content_now, store_content}
use Rattle.sm_ready.specs.declared.memory.Memory.{Memory}
use Rattle.sm_ready.proofs.LogLaws.{holds_ready}
use Rattle.sm_ready.proofs.RowLaws.{tree_found}
use Rattle.sm_ready.proofs.SameLogs.{same_logged, same_logs_left, same_logs_then}
use Rattle.sm_ready.proofs.ShowLaws.{kept_ready, settled_ready}
use Rattle.sm_ready.proofs.TakenLaws.{IsTold, is_told}
use Rattle.gc_abandon.proofs.EndingLaws.{ends}
use Rattle.gc_plan.proofs.ImageLaws.{children_counted, children_found}
use Rattle.gc_plan.proofs.PlanLaws.{link_next}
use Rattle.sm_recover.specs.Linking.{LinksPast, LinksSome, linked_on}
use Rattle.sm_recover.proofs.KeptLogs.{KeepsLogs, either_keeps, keeps_none, keeps_one}
use Rattle.sm_recover.proofs.UndoLaws.{IsKeptAs}

-- ---- lists of disks

-- as long, and each element is at its place
same_list : {A : Type 0} (xs ys : List A) → length xs ≡ length ys → ((k : ℕ) (x : A) → slice_get xs k ≡ Some x → slice_get ys k ≡ Some x) → xs ≡ ys
same_list [] [] long each = refl
same_list [] (y ∷ ys) long each = absurd (omega (arith, long))
same_list (x ∷ xs) [] long each = absurd (omega (arith, long))
same_list (x ∷ xs) (y ∷ ys) long each = ap₂ (λ z zs. z ∷ zs) (sym (same_Some y x (each 0 x refl))) (same_list xs ys (omega (arith, long)) (λ k z at. each (suc k) z at))

-- what is told of the disks beside their sectors, and each sector, is of others: they are these
pub same_shown : (was ds : List Disk) → Rising disk_cmp was → map face ds ≡ map face was → ((u : List ℕ) (k : ℕ) (bytes : List ℕ) → HasSector ds u k bytes → HasSector was u k bytes) → ds ≡ was
same_shown [] [] rising faces each = refl
same_shown [] (d ∷ ds) rising faces each = absurd (let x = faces in cc)
same_shown (w ∷ was) [] rising faces each = absurd (let x = faces in cc)
same_shown (w ∷ was) (d ∷ ds) rising faces each =
    ap₂ (λ x xs. x ∷ xs) first (same_shown was ds rising.1 rest (λ u k bytes h. behind u k bytes (each u k bytes (record { disk = h.disk; is_there = inr h.is_there; is_named = h.is_named; holds = h.holds })) h))
  where
    head_face : face d ≡ face w
    head_face = let x = faces in cc

    rest : map face ds ≡ map face was
    rest = let x = faces in cc

    named : d.uuid ≡ w.uuid
    named = ap (λ f. f.uuid) head_face

    -- none behind it has its UUID
    apart : (e : Disk) → In e was → e.uuid ≡ w.uuid → ⊥
    apart e i is = disk_not_itself (ap (λ u. disk_cmp w (record e { uuid = u })) (sym is) ∙ rising.0 e i)
      where
        disk_not_itself : disk_cmp w (record e { uuid = w.uuid }) ≡ Less → ⊥
        disk_not_itself less = let x = disk_cmp_total.antisymm w w in let y : disk_cmp w w ≡ Less = less in cc

    sectors : d.sectors ≡ w.sectors
    sectors = same_list d.sectors w.sectors (ap (λ f. f.size) head_face) (λ k bytes at. at_first k bytes (each d.uuid k bytes (record { disk = d; is_there = inl refl; is_named = refl; holds = at })))
      where
        at_first : (k : ℕ) (bytes : List ℕ) → HasSector (w ∷ was) d.uuid k bytes → slice_get w.sectors k ≡ Some bytes
        at_first k bytes h = by h.is_there
          where
            by : (h.disk ≡ w) ⊎ In h.disk was → slice_get w.sectors k ≡ Some bytes
            by (inl is) = subst (λ (e : Disk). slice_get e.sectors k ≡ Some bytes) is h.holds
            by (inr later) = absurd (apart h.disk later (h.is_named ∙ named))

    first : d ≡ w
    first = (λ i. record { uuid = (head_face i).uuid; label = (head_face i).label; origin = (head_face i).origin; read_only = (head_face i).read_only; sectors = sectors i })

    uuid_among : (e : Disk) → In e ds → (x : Disk) × In x was × (x.uuid ≡ e.uuid)
    uuid_among e i =
        let f = In-map face was (face e) (subst (In (face e)) rest (In-map_at face ds e i)) in
        (f.0, f.1, sym (ap (λ y. y.uuid) f.2))

    behind : (u : List ℕ) (k : ℕ) (bytes : List ℕ) → HasSector (w ∷ was) u k bytes → HasSector ds u k bytes → HasSector was u k bytes
    behind u k bytes h from = by h.is_there
      where
        by : (h.disk ≡ w) ⊎ In h.disk was → HasSector was u k bytes
        by (inl is) =
            let x = uuid_among from.disk from.is_there in
            absurd (apart x.0 x.1 (x.2 ∙ from.is_named ∙ sym h.is_named ∙ ap (λ (e : Disk). e.uuid) is))
        by (inr later) = record { disk = h.disk; is_there = later; is_named = h.is_named; holds = h.holds }

-- ---- a stop

module _ {S : Type 0} {g : Ghosts S} {b : S} {m : Memory} (h : IsTold g b m) (settled : IsSettled (g.area b)) where
  -- what might have been left is what stands, so what is between is that
  pub between_same : (v : VolumeTable) (image : ℕ → List ℕ)
      → IsKept (content_in (g.site b) v image) × IsBetween (MayShow (g.site b) (StoreLeaves g b)) (disks (store_content g b)) (disks (store_content g b)) (disks (content_in (g.site b) v image))
      → IsKeptAs (store_content g b) (content_in (g.site b) v image)
  between_same v image (kept, inl still) = record {
    kept = kept;
    same_disks = same_shown (disks (store_content g b)) (disks (content_in (g.site b) v image)) (rising-disks (store_content g b)) still.faces
        (λ u k bytes has. let w = still.sectors u k bytes has in (settled_ready h settled w.0 w.1).sectors u k bytes w.2);
  }
  between_same v image (kept, inr already) = record {
    kept = kept;
    same_disks = same_shown (disks (store_content g b)) (disks (content_in (g.site b) v image)) (rising-disks (store_content g b)) already.faces
        (λ u k bytes has. ⊎_elim (λ w. (settled_ready h settled w.0 w.1).sectors u k bytes w.2) (λ w. w) (already.sectors u k bytes has));
  }

-- ---- the shape behind a link

abbrev past : Name → Name → ImageRow → ImageRow
past v p i = record i { parent = past_parent v p i.parent }

abbrev link_to : Name → ImageRow → ImageRow
link_to p i = record i { parent = Some p }

module _ (σ : Shape) (v p c : Name) (works : σ.op ≡ op.Relink v p) (next : next_step σ ≡ plan.RelinkOne c) where
  pub link_shape : shape_next σ Gc ≡ record σ { images = on_image c (link_to p) σ.images; sequence = risen σ.sequence 0 }
  unfolding shape_next shape_after is_given_up gives_up commits own_commits plan_commits collected linked
  link_shape =
      ap (λ k. let x : Shape = record (collected k σ) { sequence = risen σ.sequence (0 + plan_commits σ k) } in x) next
      ∙ ap (λ o. let x : Shape = record (linked o c σ) { sequence = risen σ.sequence 0 } in x) works

  images_past : (is : List ImageRow) → ((i : ImageRow) → In i is → is_image c i ≡ true → i.parent ≡ Some v) → map (past v p) (on_image c (link_to p) is) ≡ map (past v p) is
  images_past [] each = refl
  images_past (i ∷ is) each = ap₂ (λ x xs. x ∷ xs) (by (is_image c i) refl) (images_past is (λ j h. each j (inr h)))
    where
      itself : (b : Bool) → cond b (Some p) (Some p) ≡ Some p
      itself true = refl
      itself false = refl

      by : (b : Bool) → is_image c i ≡ b → past v p (when b (link_to p) i) ≡ past v p i
      by false is = refl
      by true is = ap (λ o. record i { parent = o }) (itself (name_eq p v) ∙ sym (ap (past_parent v p) (each i (inl refl) is) ∙ ap (λ b. cond b (Some p) (Some v)) (name_eq-refl v)))

-- the child of the least name is one
least_found : (rows : List TreeRow) (v c : Name) → Some c ≡ first_name (tree.children rows v) → (r : TreeRow) × In r rows × (is_child_of v r ≡ true) × (row_name r ≡ c)
least_found rows v c is = of (tree.children rows v) refl is
  where
    of : (xs : List TreeRow) → tree.children rows v ≡ xs → Some c ≡ first_name xs → (r : TreeRow) × In r rows × (is_child_of v r ≡ true) × (row_name r ≡ c)
    of [] at none = absurd (none-some c (sym none))
    of (r ∷ xs) at some =
        let i = In-filter (is_child_of v) rows r (subst (In r) (sym at) (inl refl)) in
        (r, i.0, i.1, same_Some (row_name r) c (sym some))

child_parent : (v : Name) (o : Option Name) → elim o as (λ _. Bool) [ None ↦ false | Some q ↦ name_eq q v ] ≡ true → o ≡ Some v
child_parent v None is = absurd (true≢false (sym is))
child_parent v (Some q) is = ap Some (name_eq-true q v is)

module _ (s : Site) (t : VolumeTable) (m : Known) (o : IsOrderly s t m) (v p c : Name) (works : m.op ≡ op.Relink v p) (least : Some c ≡ first_name (tree.children m.rows v)) where
  pub next_link : next_step (shape_in s t m) ≡ plan.RelinkOne c
  unfolding next_step plan_running shape_in
  next_link =
      ap (plan_running (shape_in s t m)) works
      ∙ ap (λ (is : List ImageRow). relink_or is) (children_found s t m v o) ∙ sym (link_next (tree.children m.rows v) c least)

  -- the child is the image of its name
  only_child : IsWellFormed (shape_in s t m) → (i : ImageRow) → In i (shape_in s t m).images → is_image c i ≡ true → i.parent ≡ Some v
  unfolding shape_in
  only_child w i h is =
      let r = least_found m.rows v c least in
      let x = In-map machine_row m.rows i h in
      let named : row_name x.0 ≡ c = sym (ap (λ (y : ImageRow). y.name) x.2) ∙ same_image-sound i.name c is in
      let same : x.0 ≡ r.0 = same_Some x.0 r.0 (sym (tree_found m.rows x.0 w.one_image x.1) ∙ ap (tree_row m.rows) (named ∙ sym r.3) ∙ tree_found m.rows r.0 w.one_image r.1) in
      ap (λ (y : ImageRow). y.parent) x.2 ∙ ap (λ y. parent_name y.image) same ∙ child_parent v (parent_name r.0.image) r.2

  pub link_past : (new : Shape) → new ≡ shape_next (shape_in s t m) Gc → linked_past v p new ≡ linked_past v p (shape_in s t m)
  unfolding shape_in
  link_past new is =
      ap (linked_past v p) (is ∙ link_shape (shape_in s t m) v p c works next_link)
      ∙ ap₂ (λ is k. let x : Shape = record (shape_in s t m) { images = is; sequence = k } in x)
      (∥∥₁_elim o.well_formed (hlevel props) (λ w. images_past (shape_in s t m) v p c works next_link (shape_in s t m).images (only_child w))) (let h = o.table.sequence in omega (arith, h))

  -- fewer children are left
  pub link_fewer : (new : Shape) → new ≡ shape_next (shape_in s t m) Gc → length (children v new.images) < length (children v (shape_in s t m).images)
  unfolding children shape_in
  link_fewer new is =
      let σ = shape_in s t m in
      subst (λ (x : Shape). length (filter (λ (i : ImageRow). is_parent v i.parent) x.images) < length (filter (λ (i : ImageRow). is_parent v i.parent) σ.images)) (sym (is ∙ link_shape σ v p c works next_link))
      (∥∥₁_elim o.well_formed (hlevel props) (λ w.
      let r = least_found m.rows v c least in
      let i = machine_row r.0 in
      let there : In i σ.images = In-map_at machine_row m.rows r.0 r.1 in
      let reads : i.parent ≡ Some v = child_parent v (parent_name r.0.image) r.2 in
      filter-map_less (λ (i : ImageRow). is_parent v i.parent) (λ (y : ImageRow). when (is_image c y) (link_to p) y) σ.images i there (subst (λ x. is_parent v x ≡ true) (sym reads) (itself w i there reads))
      (moved w i (subst (λ n. is_image n i ≡ true) r.3 (is_itself σ w i there))) (λ y k h. not_more w y (is_image c y) h)))
    where
      link : (w : IsWellFormed (shape_in s t m)) → same_image p v ≡ false
      link w = by m.op works w.operation
        where
          by : (x : Op) → x ≡ op.Relink v p → IsOperation (shape_in s t m) x → same_image p v ≡ false
          by x is h =
              let k : IsChild (shape_in s t m) true v p = subst (IsOperation (shape_in s t m)) is h in
              other_image p v (λ e. parent_apart (shape_in s t m) w k.child p k.there k.linked (k.is_named ∙ sym e))

      itself : (w : IsWellFormed (shape_in s t m)) (i : ImageRow) → In i (shape_in s t m).images → i.parent ≡ Some v → is_parent v (Some v) ≡ true
      itself w i there reads = let up = w.parents i v there reads in subst (λ n. same_image n n ≡ true) up.is_named (is_itself (shape_in s t m) w up.parent up.there)

      moved : (w : IsWellFormed (shape_in s t m)) (i : ImageRow) → is_image c i ≡ true → is_parent v (when (is_image c i) (link_to p) i).parent ≡ false
      moved w i is = ap (λ b. is_parent v (when b (link_to p) i).parent) is ∙ link w

      not_more : (w : IsWellFormed (shape_in s t m)) (y : ImageRow) (b : Bool) → is_parent v (when b (link_to p) y).parent ≡ true → is_parent v y.parent ≡ true
      not_more w y true h = absurd (true≢false (sym h ∙ link w))
      not_more w y false h = h

-- ---- none is left

module _ (s : Site) (t : VolumeTable) (m : Known) (o : IsOrderly s t m) (v p : Name) (works : m.op ≡ op.Relink v p) (none : tree.children m.rows v ≡ []) where
  pub next_end : next_step (shape_in s t m) ≡ plan.Finish
  unfolding next_step plan_running shape_in
  next_end = ap (plan_running (shape_in s t m)) works ∙ ap (λ (is : List ImageRow). relink_or is) (children_found s t m v o ∙ ap (map machine_row) none)

  rows_past : (rows : List TreeRow) → tree.children rows v ≡ [] → map (past v p) (map machine_row rows) ≡ map machine_row rows
  rows_past [] is = refl
  rows_past (r ∷ rows) is = by (is_child_of v r) refl is (λ none. rows_past rows none)
    where
      unread : (x : Option Name) → elim x as (λ _. Bool) [ None ↦ false | Some q ↦ name_eq q v ] ≡ false → past_parent v p x ≡ x
      unread None is = refl
      unread (Some q) is = ap (λ b. cond b (Some p) (Some q)) is

      by : (b : Bool) → is_child_of v r ≡ b → cond b (r ∷ tree.children rows v) (tree.children rows v) ≡ [] → (tree.children rows v ≡ [] → map (past v p) (map machine_row rows) ≡ map machine_row rows)
          → map (past v p) (map machine_row (r ∷ rows)) ≡ map machine_row (r ∷ rows)
      by true is none rest = absurd (let x = none in cc)
      by false is none rest = ap₂ (λ x xs. x ∷ xs) (ap (λ x. record (machine_row r) { parent = x }) (unread (parent_name r.image) is)) (rest none)

  -- the shape is that in which all are linked
  pub end_past : linked_past v p (shape_in s t m) ≡ shape_in s t m
  unfolding shape_in
  end_past = ap (λ is. let x : Shape = record (shape_in s t m) { images = is } in x) (rows_past m.rows none)

  pub end_shape : (new : Shape) → new ≡ shape_next (shape_in s t m) Gc → new ≡ record (linked_past v p (shape_in s t m)) { sequence = risen t.sequence 1; op = op.Idle }
  unfolding shape_next shape_after is_given_up gives_up commits own_commits plan_commits collected shape_in
  end_shape new is =
      is ∙ ap (λ k. let x : Shape = record (collected k (shape_in s t m)) { sequence = risen t.sequence (0 + plan_commits (shape_in s t m) k) } in x) next_end
      ∙ ap (λ (σ : Shape). let x : Shape = record σ { sequence = risen t.sequence 1; op = op.Idle } in x) (sym end_past)

-- ---- in a store

-- what a stop leaves behind a link has the table from before
pub unlinked_keeps : {S : Type 0} (g : Ghosts S) (b d : S) {t : VolumeTable} {image : ℕ → List ℕ} → IsTable (g.site b).count (table_alone (g.table b)) → table_alone (g.table d) ≡ table_alone (g.table b) → IsChoiceOf (stored g d) t image
    → KeepsLogs (g.site b).count (table_alone (g.table b)) t
unlinked_keeps g b d table same stop = subst (KeepsLogs (g.site b).count (table_alone (g.table b))) (sym (stop.table_is ∙ same)) (keeps_none table)

-- the image whose children are linked is the operation's
of_op : {A : Type 0} (x : Op) (v : Name) → LinksPast v x → ((p : Name) → x ≡ op.Relink v p → A) → A
of_op (op.Relink w p) v links use_it = use_it p (ap (λ n. op.Relink n p) links)
of_op op.Idle v links use_it = absurd links
of_op (op.Copy w p k) v links use_it = absurd links
of_op (op.Leaf w p k) v links use_it = absurd links
of_op (op.Live w p k dirty) v links use_it = absurd links

module _ {S : Type 0} (g : Ghosts S) where
  -- none was linked yet
  pub links_none : (a : S) (m : Memory) → g.failed a ≡ false → IsOrderlyStore g a m → HasTrueImages g a m → LinksSome g a m a m
  links_none a m usable orderly true_images = record {
    site = refl;
    calm = refl;
    usable = usable;
    table = refl;
    room = λ had. had;
    beside = λ told. Keeps-none _;
    settled = λ told was. was;
    orderly = orderly;
    true_images = true_images;
    images = refl;
    spare = refl;
    logs = refl;
    records = refl;
    operation = refl;
    attached = refl;
    places = omega arith;
    shape = refl;
    ready = λ told ready. ready;
    same_disks = λ told was ready. refl;
  }

  module _ (b : S) (k : Memory) (v c : Name) (orderly : IsOrderlyStore g b k) (links : LinksPast v k.operation) (least : Some c ≡ first_name (tree.children k.tree.rows v)) where
    -- it comes next
    pub next_link_in : next_step (store_shape g b k) ≡ plan.RelinkOne c
    next_link_in = of_op k.operation v links (λ p is. next_link (g.site b) (table_alone (g.table b)) (known k) orderly v p c is least)

    module _ (d : S) (n : Memory) (shape : ShapesAs g Gc b k d n) where
      pub fewer_left : IsOrderlyStore g d n → length (tree.children n.tree.rows v) < length (tree.children k.tree.rows v)
      fewer_left behind =
          let less = of_op k.operation v links (λ p is. link_fewer (g.site b) (table_alone (g.table b)) (known k) orderly v p c is least (store_shape g d n) shape) in
          omega (arith, less, children_counted (g.site b) (table_alone (g.table b)) (known k) v orderly, children_counted (g.site d) (table_alone (g.table d)) (known n) v behind)

      pub links_more : linked_on k.operation (store_shape g d n) ≡ linked_on k.operation (store_shape g b k)
      links_more = of_op k.operation v links (λ p is.
          ap (λ x. linked_on x (store_shape g d n)) is ∙ link_past (g.site b) (table_alone (g.table b)) (known k) orderly v p c is least (store_shape g d n) shape ∙ sym (ap (λ x. linked_on x (store_shape g b k)) is))

  -- where some were linked the logs are the same
  links_logs : {a b : S} {m k : Memory} → LinksSome g a m b k → g.told → IsReadyStore g a m → HasLogsOf (store_content g a) (store_content g b)
  links_logs some told ready = same_logged ready.logs (some.ready told ready).logs some.logs (λ u. ap (λ t. rows t (Cbt u)) some.table) (omega (arith, ap (λ (t : VolumeTable). t.sequence) some.table))

  -- what a stop leaves of the next link, behind some
  pub links_stop : {a b d : S} {m k : Memory} (n : Memory) {ok : Type 0} {t : VolumeTable} {image : ℕ → List ℕ} → LinksSome g a m b k → g.told → ((v : VolumeTable) (f : ℕ → List ℕ) → g.leaves b v f → IsChoiceOf (stored g b) v f)
      → StoreDoes g Gc b k d n ok → n.logs ≡ k.logs → KeepsLogs (g.site b).count (table_alone (g.table b)) t → IsSettled (g.area a) → IsReadyStore g a m → g.leaves d t image
      → IsSame (store_content g a) (content_in (g.site a) t image)
  unfolding disks_next
  links_stop {a} {b} {d} {m} {k} n {ok} {t} {image} some told now done logs keeps settled ready leaves =
      let h = is_told g b k some.orderly some.usable told (some.ready told ready) now in
      let same = between_same h (some.settled told settled) t image (done.crash t image (inl leaves)) in
      record {
        table = subst (λ z. IsTable z.count t) some.site keeps.table;
        kept = subst (λ z. IsKept (content_in z t image)) some.site same.kept;
        same_disks = ap (λ z. disks (content_in z t image)) (sym some.site) ∙ same.same_disks ∙ some.same_disks told settled ready;
        same_logs = subst (λ z. HasLogsOf (store_content g a) (content_in z t image)) some.site (same_logs_then (links_logs some told ready)
            (same_logged (some.ready told ready).logs (done.logged t image (inl leaves)) logs keeps.volumes keeps.later));
      }

  -- what a stop leaves where none is left
  pub links_rest : {a b : S} {m k : Memory} {t : VolumeTable} {image : ℕ → List ℕ} → LinksSome g a m b k → g.told → ((v : VolumeTable) (f : ℕ → List ℕ) → g.leaves b v f → IsChoiceOf (stored g b) v f)
      → IsSettled (g.area a) → IsReadyStore g a m → g.leaves b t image → IsSame (store_content g a) (content_in (g.site a) t image)
  links_rest {a} {b} {m} {k} {t} {image} some told now settled ready leaves =
      let h = is_told g b k some.orderly some.usable told (some.ready told ready) now in
      let may : MayShow (g.site b) (StoreLeaves g b) (disks (content_in (g.site b) t image)) = record { table = t; image = image; left = inl leaves; shown = refl } in
      let shown = settled_ready h (some.settled told settled) (disks (content_in (g.site b) t image)) may in
      let stop = now t image leaves in
      record {
        table = subst₂ (λ z u. IsTable z.count u) some.site (sym stop.table_is) some.orderly.table;
        kept = subst (λ z. IsKept (content_in z t image)) some.site (kept_ready h t image (inl leaves));
        same_disks = ap (λ z. disks (content_in z t image)) (sym some.site)
            ∙ same_shown (disks (store_content g b)) (disks (content_in (g.site b) t image)) (rising-disks (store_content g b)) shown.faces shown.sectors ∙ some.same_disks told settled ready;
        same_logs = subst (λ z. HasLogsOf (store_content g a) (content_in z t image)) some.site (same_logs_then (links_logs some told ready)
            (subst (λ u. HasLogsOf (store_content g b) (content_in (g.site b) u image)) (sym stop.table_is)
            (same_logs_left (holds_ready (g.site b) (table_alone (g.table b)) (g.area b) (known k) some.orderly (some.ready told ready)) some.orderly.table image stop.sectors)));
      }

  module _ {a b : S} {m k : Memory} (v : Name) (some : LinksSome g a m b k) (links : LinksPast v m.operation) (none : tree.children k.tree.rows v ≡ []) where
    -- a stop leaves the volumes of logs, whether the entry is gone or not
    pub end_keeps : {t : VolumeTable} {image : ℕ → List ℕ} → ((e : Name) → entry_of k.operation ≡ e ∷ [] → IsEitherOf (stored g b) (Remove e) t image) → KeepsLogs (g.site b).count (table_alone (g.table b)) t
    end_keeps {t} {image} left = of_op m.operation v links (λ p is.
        let e = Relink (image_uuid v) (image_uuid p) in
        let ending = ends g b k some.orderly (some.operation ∙ is) refl (let same : e ≡ e = refl in same) in
        either_keeps (stored g b) t image (Remove e) some.orderly.table ending.permits refl (left e (ap entry_of (some.operation ∙ is))))

    -- and behind it the logs are the same
    pub ended_logs : g.told → IsReadyStore g a m → (d : S) (n : Memory) → g.site d ≡ g.site b
        → ((e : Name) → entry_of k.operation ≡ e ∷ [] → table_alone (g.table d) ≡ applied (table_alone (g.table b)) (Remove e)) → IsReady (g.site b) (table_alone (g.table d)) (g.area d) (known n) → n.logs ≡ k.logs
        → HasLogsOf (store_content g a) (store_content g d)
    ended_logs told ready d n site table then logs = of_op m.operation v links (λ p is.
        let e = Relink (image_uuid v) (image_uuid p) in
        let gone = table e (ap entry_of (some.operation ∙ is)) in
        let ending = ends g b k some.orderly (some.operation ∙ is) refl (let same : e ≡ e = refl in same) in
        let keeps = subst (KeepsLogs (g.site b).count (table_alone (g.table b))) (sym gone) (keeps_one (Remove e) some.orderly.table ending.permits refl) in
        same_logs_then (links_logs some told ready)
        (subst (λ z. HasLogsOf (store_content g b) (content_now z (table_alone (g.table d)) (g.area d))) (sym site)
        (same_logged (some.ready told ready).logs then.logs logs keeps.volumes keeps.later)))

    -- then the entry goes
    pub end_next : next_step (store_shape g b k) ≡ plan.Finish
    end_next = of_op m.operation v links (λ p is. next_end (g.site b) (table_alone (g.table b)) (known k) some.orderly v p (some.operation ∙ is) none)

    -- and the shape is that in which all are linked
    pub end_shapes : (d : S) (n : Memory) → ShapesAs g Gc b k d n → store_shape g d n ≡ record (linked_on m.operation (store_shape g a m)) { sequence = risen (table_alone (g.table a)).sequence 1; op = op.Idle }
    end_shapes d n shape = of_op m.operation v links (λ p is.
        end_shape (g.site b) (table_alone (g.table b)) (known k) some.orderly v p (some.operation ∙ is) none (store_shape g d n) shape
        ∙ ap₂ (λ σ j. let x : Shape = record σ { sequence = risen j 1; op = op.Idle } in x) (ap (λ x. linked_on x (store_shape g b k)) (sym is) ∙ some.shape) (ap (λ (t : VolumeTable). t.sequence) some.table))
