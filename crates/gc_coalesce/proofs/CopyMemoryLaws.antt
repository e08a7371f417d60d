-- Memory once a block was copied, or was not, and the cursor stands behind it: it is orderly, and the shape is the machine's.
use Rattle.std.proofs.Common.{◌≡◌, ◌≢◌, ◌⊎◌, inl, inr, ⊎_elim, ℕ, ◌+◌, ◌*◌, ◌≤◌, max, not, ◌&&◌, Bool, true, false, List, [], ◌∷◌, map, length, Option, Some, refl, sym, ap, ap₂, ◌∙◌, subst, arith}
use Rattle.std.proofs.Math.Logic.{∥∥₁_elim, ∥∥₁_map}
use Rattle.std.proofs.Props.{props}
use Rattle.std.proofs.lemmas.Nat.{mul-le}
use Rattle.std.proofs.lemmas.Option.{same_Some}
use Rattle.std.specs.Str.{bytes_eq}
use Rattle.common_laws.specs.Lists.{In, when}
use Rattle.common_laws.proofs.Lists.{In-map, In-map_at}
use Rattle.sm_base.specs.Numbers.{div_up, first, thin}
use Rattle.sm_base.specs.declared.names.Name.{Name}
use Rattle.sm_machine.specs.Operations.{Op}
use Rattle.sm_base.specs.declared.sizes.Geometry.{Geometry}
use Rattle.sm_base.proofs.NumberLemmas.{div_up-le, le-div_up}
use Rattle.vg_meta.specs.Tables.{VolumeTable}
use Rattle.vg_volumes.specs.Sites.{Site}
use Rattle.vhd_map.specs.Slots.{slot_of, top_of}
use Rattle.vhd_volumes.specs.declared.heads.Head.{Head}
use Rattle.vhd_volumes.specs.Writes as image
use Rattle.vhd_image.specs.Bodies.{StandsIn, parent_name, sector_count, volume_name}
use Rattle.vhd_image.specs.declared.images.Body.{Body}
use Rattle.vhd_image.specs.declared.images.Body.TheVariants as body
use Rattle.vhd_chain.specs.Reading.{slots_of}
use Rattle.vhd_chain.specs.Trees.{row_name, tree_row, with_replaced}
use Rattle.vhd_chain.specs.declared.rows.TreeRow.{TreeRow}
use Rattle.sm_machine.specs.Collector.{collected, copied, count_either, given_block, next_step, with_block}
use Rattle.sm_base.specs.declared.operations.Plan.TheVariants as plan
use Rattle.sm_machine.specs.Commits.{gives_up, is_given_up, own_commits, plan_commits}
use Rattle.sm_machine.specs.Operations.{advanced}
use Rattle.sm_machine.specs.Operations as op
use Rattle.sm_machine.specs.Shapes.{DiskRecord, ImageRow, Shape, image_uuid, is_image, is_image_of, is_vhd, on_image, refs, same_image, thin_in, top}
use Rattle.sm_machine.specs.Steps.{shape_after, shape_next}
use Rattle.sm_machine.specs.WellFormed.{IsOnlyChild, IsOperation, IsWellFormed, is_image_name}
use Rattle.sm_machine.specs.declared.commands.Command.TheVariants.{Gc}
use Rattle.sm_machine.proofs.Collects.{block_key, block_table, copied_shape, copy_extents, copy_keeps, copy_links, copy_marks, copy_names, copy_sizes, on_copy, operation_changes}
use Rattle.sm_machine.proofs.ImageNames.{other_image, same_image-refl}
use Rattle.sm_machine.proofs.Lives.{there_given, there_when}
use Rattle.sm_machine.proofs.Mapped.{operation_mapped}
use Rattle.sm_machine.proofs.Uses.{changed_uses}
use Rattle.sm_ready.specs.Known.{Known, entry_of, is_shown, machine_row, records_in, shape_in}
use Rattle.sm_ready.specs.Orderly.{IsOrderly, IsRoomyFor, IsRoomyIn}
use Rattle.sm_ready.specs.Ready.{IsTidy}
use Rattle.sm_ready.proofs.CauseLaws.{named_as}
use Rattle.sm_ready.proofs.MapLaws.{block_alike, top_alike}
use Rattle.sm_ready.proofs.Orders.{HasHead, named_row, raw_row, vhd_row}
use Rattle.sm_ready.proofs.KeptLaws.{vhd_named}
use Rattle.sm_ready.proofs.OwnLaws.{next_shape}
use Rattle.sm_ready.proofs.PutBackLaws.{any_replaced, face_replaced, map_replaced, of_rows}
use Rattle.sm_ready.proofs.ShapeLaws.{shown_same}
use Rattle.sm_ready.proofs.TruthLaws.{row_found}
use Rattle.vhd_image.specs.Written.{HasRoomForBlock, MayHaveSlot, with_slot}
use Rattle.gc_coalesce.proofs.CopyPlanLaws.{IsToCopy, apart, child_named, child_there, child_vhd, copy_runs, has_slot, its_slots, named, there}
use Rattle.gc_coalesce.specs.Copying.{copy_of}
use Rattle.gc_coalesce.specs.declared.kinds.Kind.{Kind}
use Rattle.gc_coalesce.specs.declared.kinds.Kind.TheVariants as kinds
use Rattle.gc_coalesce.proofs.CopyKinds.{IsWithin, copied_of, its_entry, roomy_in, roomy_of, runs_next}
use Rattle.gc_coalesce.proofs.CopyRoomLaws.{room_of, slot_either, slot_top}

-- the row with this image
abbrev pub with_image : Body → TreeRow → TreeRow
with_image d r = record r { image = d }

-- what is in memory then
abbrev pub behind : Body → TreeRow → ℕ → Known → Known
behind d q b m = record m { rows = with_replaced (with_image d q) m.rows; op = advanced b m.op }

-- ---- an image with one slot more

pub slot_name : (b : ℕ) (x : Body) → volume_name (with_slot b x) ≡ volume_name x
slot_name b (body.Raw n k) = refl
slot_name b (body.Vhd head m) = refl

slot_count : (b : ℕ) (x : Body) → sector_count (with_slot b x) ≡ sector_count x
slot_count b (body.Raw n k) = refl
slot_count b (body.Vhd head m) = refl

slot_parent : (b : ℕ) (x : Body) → parent_name (with_slot b x) ≡ parent_name x
slot_parent b (body.Raw n k) = refl
slot_parent b (body.Vhd head m) = refl

pub may_name : (b : ℕ) (x d : Body) → MayHaveSlot b x d → volume_name d ≡ volume_name x
may_name b x d (inl is) = ap volume_name is
may_name b x d (inr is) = ap volume_name is ∙ slot_name b x

-- more slots take no less room
thin_more : (g : Geometry) (few many : ℕ) → few ≤ many → thin g.extent g.block g.entries few ≤ thin g.extent g.block g.entries many
unfolding thin
thin_more g few many less =
    let some = g.in_range.extent_least in
    let one = le-div_up (first g.entries + many * (1 + g.block) + 1) g.extent (omega (arith, some)) in
    let two = mul-le few (1 + g.block) many (1 + g.block) less (omega arith) in
    div_up-le (first g.entries + few * (1 + g.block) + 1) g.extent (div_up (first g.entries + many * (1 + g.block) + 1) g.extent) (omega (arith, some)) (omega (arith, one, two))

-- ---- the same images under another operation

only_still : (σ : Shape) (o : Op) (hidden : Bool) (v p : Name) → IsOnlyChild σ hidden v p → IsOnlyChild (record σ { op = o }) hidden v p
only_still σ o hidden v p c = record {
  link = record { child = c.link.child; there = c.link.there; is_named = c.link.is_named; is_shown = c.link.is_shown; vhd = c.link.vhd; linked = c.link.linked };
  only = c.only;
  same_size = c.same_size;
}

pub runs_still : (σ : Shape) (k : Kind) (v p : Name) (cursor : ℕ) (dirty : List ℕ) (o : Op) → IsOperation σ (copy_of k v p cursor dirty) → IsOperation (record σ { op = o }) (copy_of k v p cursor dirty)
unfolding only_still
runs_still σ kinds.Hidden v p cursor dirty o h = only_still σ o true v p h
runs_still σ kinds.Leaf v p cursor dirty o h = (only_still σ o false v p h.0, h.1, h.2)
runs_still σ kinds.Live v p cursor dirty o h = record {
  only = only_still σ o false v p h.only;
  parent_vhd = h.parent_vhd;
  attached = h.attached;
  thick = h.thick;
  within = h.within;
  blocks = h.blocks;
}

-- a copy makes no commit
same_number : (σ : Shape) (o : Op) (b : ℕ) → record (copied o b σ) { sequence = σ.sequence } ≡ copied o b σ
unfolding copied
same_number σ op.Idle b = refl
same_number σ (op.Copy v p cursor) b = refl
same_number σ (op.Relink v p) b = refl
same_number σ (op.Leaf l p cursor) b = refl
same_number σ (op.Live l p cursor dirty) b = refl

-- a planned block is copied by the collector's step
pub copied_next : (σ : Shape) (b : ℕ) → ∥ IsWellFormed σ ∥₁ → next_step σ ≡ plan.Copy b → copied σ.op b σ ≡ shape_next σ Gc
unfolding shape_after own_commits plan_commits is_given_up gives_up collected
copied_next σ b x planned = ∥∥₁_elim x (hlevel props) (λ w.
    sym (next_shape σ Gc w refl (ap (plan_commits σ) planned) ∙ ap (λ y. record (collected y σ) { sequence = σ.sequence }) planned ∙ same_number σ σ.op b))

module _ {s : Site} {t : VolumeTable} {m : Known} {v p : Name} {cursor b : ℕ} {i q : TreeRow} (h : IsToCopy s t m v p cursor b i q) where
  abbrev σ : Shape
  σ = shape_in s t m

  -- the parent's row with the slot is the machine's
  pub row_copied : machine_row (with_image (with_slot b q.image) q) ≡ given_block b (machine_row q)
  unfolding is_vhd
  row_copied = ⊎_elim
      (λ is.
      let w = vhd_row s t m q (image_uuid (row_name q)) h.orderly (there h) is in
      by w.head w.slots w.is (ap is_vhd is))
      (λ is.
      let w = raw_row s t m q (image_uuid (row_name q)) h.orderly (there h) is in
      ap (λ x. machine_row (with_image x q)) (ap (with_slot b) w.is ∙ sym w.is) ∙ sym (ap (λ c. given c) (ap is_vhd is)))
      (named_as (row_name q) (image_uuid (row_name q)) (named_row s t m q h.orderly (there h)) refl)
    where
      given : Bool → ImageRow
      given c = elim c as (λ _. ImageRow) [ true ↦ record (machine_row q) { slots = with_block b (slots_of q.image) } | false ↦ machine_row q ]

      by : (head : _) (slots : List (Option ℕ)) → q.image ≡ body.Vhd head slots → is_vhd (row_name q) ≡ true → machine_row (with_image (with_slot b q.image) q) ≡ given_block b (machine_row q)
      by head slots is vhd =
          ap (λ x. machine_row (with_image (with_slot b x) q)) is
          ∙ ap (λ (l : List (Option ℕ)). let x : ImageRow = record (machine_row (with_image (body.Vhd head slots) q)) { slots = l } in x) (sym (block_alike b slots))
          ∙ ap (λ x. let y : ImageRow = record (machine_row (with_image x q)) { slots = with_block b (slots_of x) } in y) (sym is)
          ∙ sym (ap given vhd)

  mine : is_image p (machine_row q) ≡ true
  mine = ap (λ n. same_image n p) (named h) ∙ same_image-refl p (sym (ap is_image_name (named h)) ∙ named_row s t m q h.orderly (there h))

  -- ---- the shape, by what became of the parent's row

  module _ (d : Body) (f : ImageRow → ImageRow) (name : volume_name d ≡ volume_name q.image) (row : machine_row (with_image d q) ≡ f (machine_row q)) where
    shown_behind : (u : List ℕ) → is_shown (behind d q b m).rows u ≡ is_shown m.rows u
    shown_behind u = any_replaced s t m h.orderly q (with_image d q) (there h) name (λ x. is_image_of u (machine_row x)) (ap (λ n. not q.hidden && bytes_eq (image_uuid n) u) name)

    images_behind : map machine_row (behind d q b m).rows ≡ on_image p f (map machine_row m.rows)
    images_behind = map_replaced s t m h.orderly q (with_image d q) (there h) name machine_row (λ y. when (is_image p y) f y)
        (row ∙ sym (ap (λ c. when c f (machine_row q)) mine))
        (λ x j other. sym (ap (λ c. when c f (machine_row x)) (other_image (row_name x) p (λ same. other (same ∙ sym (named h))))))

    pub shape_behind : shape_in s t (behind d q b m) ≡ record (shape_in s t m) { images = on_image p f (shape_in s t m).images; op = advanced b m.op }
    unfolding shape_in
    shape_behind = ap₂ (λ (rs : List DiskRecord) (xs : List ImageRow). record (shape_in s t m) { records = rs; images = xs; op = advanced b m.op })
        (ap (λ ps. records_in ps) (shown_same (behind d q b m).rows m.rows m.places shown_behind)) images_behind

    pub tidy_behind : IsTidy t m → IsTidy t (behind d q b m)
    tidy_behind tidy = record { none_new = tidy.none_new; no_stray = λ r j. shown_behind r.uuid ∙ tidy.no_stray r j }

  -- it is the machine's where the parent got the slot
  pub shape_given : (d : Body) → d ≡ with_slot b q.image → shape_in s t (behind d q b m) ≡ copied m.op b (shape_in s t m)
  unfolding shape_in
  shape_given d is =
      shape_behind d (given_block b) (ap volume_name is ∙ slot_name b q.image) (ap (λ x. machine_row (with_image x q)) is ∙ row_copied)
      ∙ sym (subst (λ o. copied o b σ ≡ record σ { images = on_image p (given_block b) σ.images; op = advanced b o }) (sym h.op) (copied_of σ h.kind v p cursor b h.dirty))

  pub shape_copied : next_step (shape_in s t m) ≡ plan.Copy b → (d : Body) → d ≡ with_slot b q.image → shape_in s t (behind d q b m) ≡ shape_next (shape_in s t m) Gc
  unfolding shape_in
  shape_copied planned d is = shape_given d is ∙ copied_next (shape_in s t m) b h.orderly.well_formed planned

  -- ---- memory is orderly

  room_in : IsRoomyFor σ v p
  unfolding shape_in
  room_in = roomy_of (shape_in s t m) h.kind v p cursor h.dirty (subst (IsRoomyIn (shape_in s t m)) h.op h.orderly.roomy)

  same_images : (xs : List ImageRow) → on_image p (λ y. y) xs ≡ xs
  same_images [] = refl
  same_images (x ∷ xs) = ap₂ (λ (y : ImageRow) (ys : List ImageRow). y ∷ ys) (by (is_image p x)) (same_images xs)
    where
      by : (c : Bool) → when c (λ y. y) x ≡ x
      by true = refl
      by false = refl

  module _ (d : Body) (may : MayHaveSlot b q.image d) where
    abbrev o' : Op
    o' = advanced b m.op

    abbrev next : TreeRow
    next = with_image d q

    name : volume_name d ≡ volume_name q.image
    name = may_name b q.image d may

    -- the shape either way
    pub still_is : d ≡ q.image → shape_in s t (behind d q b m) ≡ record (shape_in s t m) { op = advanced b m.op }
    still_is is = shape_behind d (λ y. y) name (ap (λ x. machine_row (with_image x q)) is)
        ∙ ap (λ (xs : List ImageRow). record (shape_in s t m) { images = xs; op = advanced b m.op }) (same_images σ.images)

    pub slot_is : d ≡ with_slot b q.image → shape_in s t (behind d q b m) ≡ record (shape_in s t m) { images = on_image p (given_block b) (shape_in s t m).images; op = advanced b m.op }
    slot_is is = shape_behind d (given_block b) name (ap (λ x. machine_row (with_image x q)) is ∙ row_copied)

    goes_on : advanced b m.op ≡ copy_of h.kind v p h.next.cursor_then h.next.dirty_then
    goes_on = ap (advanced b) h.op ∙ h.next.goes

    -- the operation goes on among its images
    runs_then : IsWellFormed (shape_in s t m) → IsOperation (shape_in s t m) (copy_of h.kind v p h.next.cursor_then h.next.dirty_then)
    unfolding shape_in
    runs_then w = runs_next σ h.kind v p cursor h.next.cursor_then h.dirty h.next.dirty_then (copy_runs h w)
        (subst (IsWithin h.kind h.next.cursor_then h.next.dirty_then) (sym (its_slots h w)) h.next.within)

    -- also where the parent has the block
    runs_given : (w : IsWellFormed (shape_in s t m)) → IsOperation (copied_shape (shape_in s t m) w p b o') (copy_of h.kind v p h.next.cursor_then h.next.dirty_then)
    runs_given w = operation_mapped σ w (on_copy σ w p b) (copy_names σ w p b) (copy_marks σ w p b) (copy_links σ w p b) σ.attached o' refl (λ y k. copy_sizes σ w p b y)
        (λ y k hidden. subst (λ n. y.extents ≤ n) (sym (copy_extents σ w p b y)) (omega arith)) (block_table σ w p b)
        (λ y c e. there_when c (is_image p y) (given_block b) y (λ z f. there_given b c z f) e) (copy_of h.kind v p h.next.cursor_then h.next.dirty_then) (runs_then w)

    well : IsWellFormed σ → IsWellFormed (shape_in s t (behind d q b m))
    well w = ⊎_elim
        (λ is. subst IsWellFormed (sym (still_is is)) (operation_changes σ w o' (subst (IsOperation (record (shape_in s t m) { op = o' })) (sym goes_on) (runs_still σ h.kind v p h.next.cursor_then h.next.dirty_then o' (runs_then w)))))
        (λ is. subst IsWellFormed (sym (slot_is is)) (copy_keeps σ w p b o' (subst (IsOperation (copied_shape σ w p b o')) (sym goes_on) (runs_given w)))) may

    uses : IsWellFormed σ → (n : Name) → refs n (shape_in s t (behind d q b m)) ≡ refs n σ
    unfolding refs
    uses w n = ⊎_elim
        (λ is. ap (refs n) (still_is is))
        (λ is. ap (refs n) (slot_is is) ∙ changed_uses (record (shape_in s t m) { op = advanced b m.op }) (λ y. when (is_image p y) (given_block b) y) n (record {
          name = block_key σ w p b (λ (y : ImageRow). y.name) (λ y xs. refl);
          hidden = block_key σ w p b (λ (y : ImageRow). y.hidden) (λ y xs. refl);
          parent = block_key σ w p b (λ (y : ImageRow). y.parent) (λ y xs. refl);
        })) may

    pub rows_behind : (x : TreeRow) → In x (behind d q b m).rows → (In x m.rows × (row_name x ≢ row_name q)) ⊎ (x ≡ with_image d q)
    rows_behind = of_rows s t m h.orderly q (with_image d q) (there h) name

    -- ---- and has as much room

    child_head : HasHead i
    child_head = vhd_row s t m i (image_uuid v) h.orderly (child_there h) (child_named h ∙ vhd_named v (child_vhd h))

    child_slot : (k : ℕ) × (slot_of child_head.slots b ≡ Some k)
    child_slot = let k = has_slot h in (k.0, sym (ap (λ x. slot_of (slots_of x) b) child_head.is) ∙ k.1)

    child_long : length child_head.slots ≡ s.geometry.entries
    child_long = (subst (λ x. StandsIn s.geometry (i.extents * s.geometry.extent) x) child_head.is (h.orderly.stands i (child_there h))).entries

    no_less : (head : Head) (slots : List (Option ℕ)) → q.image ≡ body.Vhd head slots
        → max (top (slots_of d)) (count_either (slots_of d) (slots_of i.image)) ≤ max (top (slots_of q.image)) (count_either (slots_of q.image) (slots_of i.image))
    no_less head slots is = ⊎_elim
        (λ same. subst (λ x. max (top (slots_of x)) (count_either (slots_of x) (slots_of i.image)) ≤ max (top (slots_of q.image)) (count_either (slots_of q.image) (slots_of i.image))) (sym same) (omega arith))
        (λ new.
        let long = (subst (λ x. StandsIn s.geometry (q.extents * s.geometry.extent) x) is (h.orderly.stands q (there h))).entries in
        let alike = long ∙ sym child_long in
        let one = slot_top slots child_head.slots b child_slot.0 alike child_slot.1 in
        let two = slot_either slots child_head.slots b child_slot.0 alike child_slot.1 in
        let d_is = ap slots_of (new ∙ ap (with_slot b) is) in
        let q_is = ap slots_of is in
        let i_is = ap slots_of child_head.is in
        let top_d = ap top d_is ∙ top_alike (image.with_block b slots) in
        let top_q = ap top q_is ∙ top_alike slots in
        let either_d = ap₂ count_either d_is i_is in
        let either_q = ap₂ count_either q_is i_is in omega (arith, one, two, top_d, top_q, either_d, either_q)) may

    roomy_behind : IsRoomyFor σ v p → IsRoomyFor (shape_in s t (behind d q b m)) v p
    unfolding shape_in
    roomy_behind room x y x_there y_there x_is y_is vhd =
        let a = In-map machine_row (behind d q b m).rows x x_there in
        let c = In-map machine_row (behind d q b m).rows y y_there in
        let a_named : row_name a.0 ≡ v = sym (ap (λ (z : ImageRow). z.name) a.2) ∙ x_is in
        let c_named : row_name c.0 ≡ p = sym (ap (λ (z : ImageRow). z.name) c.2) ∙ y_is in
        let a_is : a.0 ≡ i = ⊎_elim
        (λ old. same_Some a.0 i (sym (row_found s t m h.orderly a.0 old.0) ∙ ap (tree_row m.rows) a_named ∙ h.child))
        (λ new. absurd (apart h (sym a_named ∙ ap row_name new ∙ name ∙ named h))) (rows_behind a.0 a.1) in
        let c_is : c.0 ≡ with_image d q = ⊎_elim (λ old. absurd (old.1 (c_named ∙ sym (named h)))) (λ new. new) (rows_behind c.0 c.1) in
        let was = room (machine_row i) (machine_row q) (In-map_at machine_row m.rows i (child_there h)) (In-map_at machine_row m.rows q (there h)) (child_named h) (named h) vhd in
        let u = vhd_row s t m q (image_uuid p) h.orderly (there h) (named h ∙ vhd_named p vhd) in
        subst (λ z. thin_in σ (max (top z.slots) (count_either z.slots x.slots)) ≤ z.extents) (sym (c.2 ∙ ap machine_row c_is))
        (subst (λ (z : ImageRow). thin_in σ (max (top (slots_of d)) (count_either (slots_of d) z.slots)) ≤ q.extents) (sym (a.2 ∙ ap machine_row a_is))
        (let more = thin_more s.geometry _ _ (no_less u.head u.slots u.is) in omega (arith, more, was)))

    pub orderly_behind : StandsIn s.geometry (q.extents * s.geometry.extent) d → IsOrderly s t (behind d q b m)
    unfolding shape_in
    orderly_behind stands =
        let o = h.orderly in
        record {
          table = o.table;
          few_extents = o.few_extents;
          record_volume = o.record_volume;
          few = o.few;
          new_named = o.new_named;
          images = λ n is. o.images n is ∙ sym (face_replaced s t m o q (with_image d q) (there h) name refl refl n);
          logs = o.logs;
          few_logs = o.few_logs;
          logs_in_order = o.logs_in_order;
          log_room = o.log_room;
          places = o.places;
          entries = o.entries ∙ ap entry_of h.op ∙ its_entry h.kind v p cursor h.dirty ∙ sym (ap entry_of goes_on ∙ its_entry h.kind v p h.next.cursor_then h.next.dirty_then);
          stands = λ x j. ⊎_elim (λ old. o.stands x old.0) (λ new. subst (λ (y : TreeRow). StandsIn s.geometry (y.extents * s.geometry.extent) y.image) (sym new) stands) (rows_behind x j);
          well_formed = ∥∥₁_map o.well_formed well;
          roomy = subst (IsRoomyIn (shape_in s t (behind d q b m))) (sym goes_on)
              (roomy_in (shape_in s t (behind d q b m)) h.kind v p h.next.cursor_then h.next.dirty_then (roomy_behind room_in));
          counts = λ n. o.counts n ∙ sym (∥∥₁_elim o.well_formed (hlevel props) (λ w. uses w n));
        }

  -- ---- the block has room in the parent

  pub block_room : HasRoomForBlock s.geometry (q.extents * s.geometry.extent) b q.image
  unfolding shape_in is_vhd
  block_room = ⊎_elim
      (λ is. let w = vhd_row s t m q (image_uuid (row_name q)) h.orderly (there h) is in by_vhd w.head w.slots w.is (ap is_vhd (sym (named h) ∙ is)))
      (λ is. let w = raw_row s t m q (image_uuid (row_name q)) h.orderly (there h) is in subst (HasRoomForBlock s.geometry (q.extents * s.geometry.extent) b) (sym w.is) tt)
      (named_as (row_name q) (image_uuid (row_name q)) (named_row s t m q h.orderly (there h)) refl)
    where
      by_vhd : (head : Head) (slots : List (Option ℕ)) → q.image ≡ body.Vhd head slots → is_vhd p ≡ true → HasRoomForBlock s.geometry (q.extents * s.geometry.extent) b q.image
      by_vhd head slots is vhd =
          let was = room_in (machine_row i) (machine_row q) (In-map_at machine_row m.rows i (child_there h)) (In-map_at machine_row m.rows q (there h)) (child_named h) (named h) vhd in
          let u = vhd_row s t m i (image_uuid v) h.orderly (child_there h) (child_named h ∙ vhd_named v (child_vhd h)) in
          let k = has_slot h in
          let long = (subst (λ x. StandsIn s.geometry (q.extents * s.geometry.extent) x) is (h.orderly.stands q (there h))).entries in
          let child_long = (subst (λ x. StandsIn s.geometry (i.extents * s.geometry.extent) x) u.is (h.orderly.stands i (child_there h))).entries in
          let one = slot_top slots u.slots b k.0 (long ∙ sym child_long) (sym (ap (λ x. slot_of (slots_of x) b) u.is) ∙ k.1) in
          let top_q = ap (λ x. top (slots_of x)) is ∙ top_alike slots in
          let either_q = ap₂ count_either (ap slots_of is) (ap slots_of u.is) in
          subst (HasRoomForBlock s.geometry (q.extents * s.geometry.extent) b) (sym is)
          (room_of s.geometry (top_of (image.with_block b slots)) (max (top (slots_of q.image)) (count_either (slots_of q.image) (slots_of i.image))) q.extents (omega (arith, one, top_q, either_q)) was)
