-- A child is linked past an image to that image's parent: memory and shape with it.
use Rattle.std.proofs.Common.{◌≡◌, ◌≢◌, ◌⊎◌, ⊎_elim, ℕ, ◌+◌, ◌-◌, ◌*◌, ◌≤◌, not, ◌&&◌, ◌||◌, Bool, true, false, cond, List, ◌∷◌, map, Option, Some, None, refl, sym, ap, ap₂, ◌∙◌, subst, arith}
use Rattle.std.proofs.Math.Logic.{∥∥₁_elim, ∥∥₁_map}
use Rattle.std.proofs.Props.{props}
use Rattle.std.specs.List.{find}
use Rattle.std.specs.Map.{lookup}
use Rattle.std.specs.Option.{option_map, unwrap_or}
use Rattle.std.specs.Str.{bytes_eq}
use Rattle.std.proofs.lemmas.Option.{none-some, same_Some}
use Rattle.common_laws.specs.Lists.{◌>>=◌, In, when}
use Rattle.common_laws.proofs.Lists.{In-map, In-map_at, find-some}
use Rattle.sm_base.specs.declared.names.Name.{Name}
use Rattle.sm_base.specs.declared.names.Name.TheVariants.{Vhd}
use Rattle.sm_machine.specs.Operations as op
use Rattle.sm_base.specs.declared.operations.Plan.TheVariants as plan
use Rattle.sm_base.specs.declared.sizes.Geometry.{Geometry}
use Rattle.sm_disk.specs.Held.{Held}
use Rattle.vg_meta.specs.Tables.{VolumeTable}
use Rattle.vg_volumes.specs.Sites.{Site}
use Rattle.vhd_image.specs.Bodies.{IsVhd, StandsIn, parent_name, sector_count, volume_name}
use Rattle.vhd_image.specs.Changes.{relinked}
use Rattle.vhd_image.specs.declared.images.Body.{Body}
use Rattle.vhd_image.specs.declared.images.Body.TheVariants as body
use Rattle.vhd_chain.specs.Reading.{slots_of}
use Rattle.vhd_chain.specs.Trees.{row_name, tree_row, with_replaced}
use Rattle.vhd_chain.specs.declared.rows.TreeRow.{TreeRow}
use Rattle.sm_refs.specs.Attached.{Attached, count_of, same_name}
use Rattle.sm_refs.proofs.NameLemmas.{other_name, same_name-refl}
use Rattle.sm_machine.specs.Collector.{collected, linked as machine_linked, next_step}
use Rattle.sm_machine.specs.Commits.{gives_up, is_given_up, own_commits, plan_commits}
use Rattle.sm_machine.specs.Shapes.{DiskRecord, ImageRow, Shape, find_image, image_uuid, is_image, is_image_of, is_vhd, on_image, parent_of, refs, same_image}
use Rattle.sm_machine.specs.Steps.{shape_after, shape_next}
use Rattle.sm_machine.specs.WellFormed.{EndsWithin, IsChild, IsOperation, IsWellFormed, is_image_name}
use Rattle.sm_machine.specs.declared.commands.Command.TheVariants.{Gc}
use Rattle.sm_machine.proofs.Chains.{find_image-in, parent_of-in}
use Rattle.sm_machine.proofs.Changes.{find-map}
use Rattle.sm_machine.proofs.Debts.{parent_apart}
use Rattle.sm_machine.proofs.GcSteps.{gc_keeps}
use Rattle.sm_machine.proofs.ImageNames.{other_image, same_image-refl, same_image-sound}
use Rattle.sm_ready.specs.Known.{Known, is_shown, machine_row, records_in, shape_in}
use Rattle.sm_ready.specs.Orderly.{IsOrderly, IsRoomyIn}
use Rattle.sm_ready.specs.Outlined.{outline_in}
use Rattle.sm_ready.specs.Ready.{IsFirm, IsTidy}
use Rattle.sm_ready.proofs.KeptLaws.{relink_large, vhd_named}
use Rattle.sm_ready.proofs.OwnLaws.{next_shape}
use Rattle.sm_ready.proofs.PutBackLaws.{any_replaced, face_replaced, map_replaced, of_rows}
use Rattle.sm_ready.proofs.ShapeLaws.{shown_same}
use Rattle.sm_ready.proofs.SoundLaws.{sound}
use Rattle.sm_ready.proofs.StopLaws.{name_or_not}
use Rattle.sm_ready.proofs.TruthLaws.{row_found}
use Rattle.sm_standing.specs.Checks.{fault_of}
use Rattle.gc_coalesce.proofs.LinkSteps.{IsChildRow, child_next, relink_runs}
use Rattle.gc_coalesce.proofs.LinkUses.{IsPast, above, name_of, not_above_true, through_step, uses_other, uses_out}

-- the child that is linked next, past v to its parent p: its image is in this row
pub record IsToLink (s : Site) (t : VolumeTable) (m : Known) (child v p : Name) (r : TreeRow) : Type 0 where
  pub orderly : IsOrderly s t m
  pub is : m.op ≡ op.Relink v p
  pub next : next_step (shape_in s t m) ≡ plan.RelinkOne child
  pub there : In r m.rows
  pub named : row_name r ≡ child
  pub linked : parent_name r.image ≡ Some v

-- only a relink links
pub runs : (s : Site) (t : VolumeTable) (m : Known) (child : Name) → next_step (shape_in s t m) ≡ plan.RelinkOne child → ((v p : Name) → m.op ≡ op.Relink v p → ⊥) → ⊥
unfolding shape_in
runs s t m child next none = relink_runs (shape_in s t m) child next none

module _ (s : Site) (t : VolumeTable) (m : Known) (child v p : Name) (x : Option TreeRow) (o : IsOrderly s t m) (is : m.op ≡ op.Relink v p) (next : next_step (shape_in s t m) ≡ plan.RelinkOne child)
    (looked : x ≡ tree_row m.rows child) where
  own : IsChildRow (shape_in s t m) v child
  unfolding shape_in
  own = child_next (shape_in s t m) v p child is next

  own_row : (y : TreeRow) × In y m.rows × (own.row ≡ machine_row y)
  unfolding shape_in
  own_row = In-map machine_row m.rows own.row own.there

  own_named : row_name own_row.0 ≡ child
  own_named = sym (ap (λ (i : ImageRow). i.name) own_row.2) ∙ own.named

  is_found : x ≡ Some own_row.0
  is_found = looked ∙ ap (tree_row m.rows) (sym own_named) ∙ row_found s t m o own_row.0 own_row.1

  pub child_found : x ≡ None → ⊥
  child_found none = none-some own_row.0 (sym none ∙ is_found)

  pub to_link : (r : TreeRow) → x ≡ Some r → IsToLink s t m child v p r
  to_link r at =
      let same : own_row.0 ≡ r = same_Some own_row.0 r (sym is_found ∙ at) in
      record {
        orderly = o;
        is = is;
        next = next;
        there = subst (λ (q : TreeRow). In q m.rows) same own_row.1;
        named = ap row_name (sym same) ∙ own_named;
        linked = ap (λ (q : TreeRow). parent_name q.image) (sym same) ∙ sym (ap (λ (i : ImageRow). i.parent) own_row.2) ∙ own.linked;
      }

-- ---- the body

-- the row with its image linked to the image of another row
abbrev pub linked_row : TreeRow → TreeRow → TreeRow
linked_row q r = record r { image = relinked q.image r.image }

pub is_vhd_body : (b : Body) (v : Name) → parent_name b ≡ Some v → IsVhd b
is_vhd_body (body.Raw n k) v e = none-some v e
is_vhd_body (body.Vhd head slots) v e = tt

pub linked_name : (q b : Body) → volume_name (relinked q b) ≡ volume_name b
linked_name q (body.Raw n k) = refl
linked_name q (body.Vhd head slots) = refl

pub linked_size : (q b : Body) → sector_count (relinked q b) ≡ sector_count b
linked_size q (body.Raw n k) = refl
linked_size q (body.Vhd head slots) = refl

linked_slots : (q b : Body) → slots_of (relinked q b) ≡ slots_of b
linked_slots q (body.Raw n k) = refl
linked_slots q (body.Vhd head slots) = refl

pub linked_parent : (q b : Body) → IsVhd b → parent_name (relinked q b) ≡ Some (volume_name q)
linked_parent q (body.Raw n k) vhd = absurd vhd
linked_parent q (body.Vhd head slots) vhd = refl

linked_stands : (g : Geometry) (n : ℕ) (q b : Body) → StandsIn g n b → StandsIn g n (relinked q b)
linked_stands g n q (body.Raw volume k) stands = stands
linked_stands g n q (body.Vhd head slots) stands =
    record { entries = stands.entries; block = stands.block; size = stands.size; least = stands.least; most = stands.most; sized = stands.sized; room = stands.room }

module _ {s : Site} {t : VolumeTable} {m : Known} {child v p : Name} {r : TreeRow} (h : IsToLink s t m child v p r) where
  pub own_vhd : IsVhd r.image
  own_vhd = is_vhd_body r.image v h.linked

  pub found : tree_row m.rows (row_name r) ≡ Some r
  found = row_found s t m h.orderly r h.there

  machine_there : In (machine_row r) (shape_in s t m).images
  unfolding shape_in
  machine_there = In-map_at machine_row m.rows r h.there

  base : IsWellFormed (shape_in s t m) → IsChild (shape_in s t m) true v p
  unfolding shape_in
  base w = subst (IsOperation (shape_in s t m)) h.is w.operation

  -- ---- the parent is there

  pub above_found : tree_row m.rows p ≡ None → ⊥
  unfolding shape_in
  above_found none = ∥∥₁_elim h.orderly.well_formed (hlevel props) (λ w.
      let b = base w in
      let q = w.parents b.child p b.there b.linked in
      let y = In-map machine_row m.rows q.parent q.there in
      none-some y.0 (sym none ∙ ap (tree_row m.rows) (sym (sym (ap (λ (i : ImageRow). i.name) y.2) ∙ q.is_named)) ∙ row_found s t m h.orderly y.0 y.1))

  -- what memory tells of the image between
  pub base_link : (y : TreeRow) → tree_row m.rows v ≡ Some y → parent_name y.image ≡ Some p
  unfolding shape_in
  base_link y f = ∥∥₁_elim h.orderly.well_formed (hlevel props) (λ w.
      let b = base w in
      let z = In-map machine_row m.rows b.child b.there in
      let named : row_name z.0 ≡ v = sym (ap (λ (i : ImageRow). i.name) z.2) ∙ b.is_named in
      let same : z.0 ≡ y = same_Some z.0 y (sym (row_found s t m h.orderly z.0 z.1) ∙ ap (tree_row m.rows) named ∙ f) in
      ap (λ (x : TreeRow). parent_name x.image) (sym same) ∙ sym (ap (λ (i : ImageRow). i.parent) z.2) ∙ b.linked)

  pub base_named : v ≡ Vhd (image_uuid v)
  base_named = ∥∥₁_elim h.orderly.well_formed (hlevel props) (λ w. vhd_named v (base w).vhd)

  pub child_named : child ≡ Vhd (image_uuid child)
  child_named = ∥∥₁_elim h.orderly.well_formed (hlevel props) (λ w. vhd_named child (by w (is_vhd child) refl))
    where
      by : IsWellFormed (shape_in s t m) → (b : Bool) → is_vhd child ≡ b → b ≡ true
      by w true e = refl
      by w false e = absurd (none-some v (sym ((w.images (machine_row r) machine_there).raw (ap is_vhd h.named ∙ e)).0 ∙ h.linked))

  -- ---- three images

  parent_was : IsWellFormed (shape_in s t m) → parent_of child (shape_in s t m).images ≡ Some v
  parent_was w =
      ap (λ n. parent_of n (shape_in s t m).images) (sym h.named) ∙ parent_of-in (shape_in s t m).images (machine_row r) w.one_image machine_there (w.images (machine_row r) machine_there).named ∙ h.linked

  parent_base : IsWellFormed (shape_in s t m) → parent_of v (shape_in s t m).images ≡ Some p
  parent_base w = let b = base w in
      ap (λ n. parent_of n (shape_in s t m).images) (sym b.is_named) ∙ parent_of-in (shape_in s t m).images b.child w.one_image b.there (w.images b.child b.there).named ∙ b.linked

  ends_child : IsWellFormed (shape_in s t m) → EndsWithin 29 (parent_of child (shape_in s t m).images) (shape_in s t m).images
  ends_child w = subst (λ n. EndsWithin 29 (parent_of n (shape_in s t m).images) (shape_in s t m).images) h.named (w.chains (machine_row r) machine_there)

  pub not_out : child ≢ v
  not_out same = ∥∥₁_elim h.orderly.well_formed (hlevel props) (λ w. parent_apart (shape_in s t m) w (machine_row r) v machine_there h.linked (h.named ∙ same))

  pub not_parent : child ≢ p
  not_parent same = ∥∥₁_elim h.orderly.well_formed (hlevel props) (λ w. not_above_true 29 2 (shape_in s t m).images child (ends_child w) (meets w))
    where
      meets : IsWellFormed (shape_in s t m) → above child 2 (shape_in s t m).images (parent_of child (shape_in s t m).images) ≡ true
      meets w = ap (above child 2 (shape_in s t m).images) (parent_was w) ∙ through_step child 1 (shape_in s t m).images v
          ∙ ap₂ (λ a o. a || above child 1 (shape_in s t m).images o) (other_image child v not_out) (parent_base w ∙ ap Some (sym same))
          ∙ through_step child 0 (shape_in s t m).images child ∙ ap (λ b. b || above child 0 (shape_in s t m).images (parent_of child (shape_in s t m).images))
          (same_image-refl child (subst (λ n. is_image_name n ≡ true) h.named (w.images (machine_row r) machine_there).named))

  -- ---- the images of the shape

  abbrev link_to : ImageRow → ImageRow
  link_to i = record i { parent = Some p }

  abbrev on_link : ImageRow → ImageRow
  on_link y = when (is_image child y) link_to y

  abbrev pub images_then : List ImageRow
  images_then = on_image child (λ i. record i { parent = Some p }) (shape_in s t m).images

  names : (y : ImageRow) → (on_link y).name ≡ y.name
  names y = by (is_image child y)
    where
      by : (b : Bool) → (when b link_to y).name ≡ y.name
      by true = refl
      by false = refl

  looked_then : (n : Name) → find_image n images_then ≡ option_map on_link (find_image n (shape_in s t m).images)
  looked_then n = find-map (is_image n) on_link (λ y. ap (λ k. same_image k n) (names y)) (shape_in s t m).images

  past : IsWellFormed (shape_in s t m) → IsPast (shape_in s t m) images_then child v p
  past w = record {
    was = parent_was w;
    now = ap (λ o. o >>= (λ i. i.parent)) (looked_then child ∙ ap (option_map on_link) own_image) ∙ ap (λ b. (when b link_to (machine_row r)).parent) own_is;
    base = parent_base w;
    others = λ n other. ap (λ o. o >>= (λ i. i.parent)) (looked_then n) ∙ same n other (find_image n (shape_in s t m).images) refl;
    apart = not_out;
    c_image = c_named;
    v_image = let b = base w in subst (λ n. is_image_name n ≡ true) b.is_named (w.images b.child b.there).named;
    shown = λ u. ap name_of (find-map (is_image_of u) on_link (seen u) (shape_in s t m).images) ∙ named_alike (find (is_image_of u) (shape_in s t m).images);
    ends = λ i j. w.chains i j;
    ends_c = ends_child w;
    ends_v = let b = base w in subst (λ n. EndsWithin 29 (parent_of n (shape_in s t m).images) (shape_in s t m).images) b.is_named (w.chains b.child b.there);
  }
    where
      c_named : is_image_name child ≡ true
      c_named = subst (λ n. is_image_name n ≡ true) h.named (w.images (machine_row r) machine_there).named

      own_is : is_image child (machine_row r) ≡ true
      own_is = ap (λ n. same_image n child) h.named ∙ same_image-refl child c_named

      own_image : find_image child (shape_in s t m).images ≡ Some (machine_row r)
      own_image =
          ap (λ n. find_image n (shape_in s t m).images) (sym h.named) ∙ find_image-in (shape_in s t m).images (machine_row r) w.one_image machine_there (w.images (machine_row r) machine_there).named

      same : (n : Name) → n ≢ child → (o : Option ImageRow) → find_image n (shape_in s t m).images ≡ o
          → (option_map on_link o >>= (λ i. i.parent)) ≡ (find_image n (shape_in s t m).images >>= (λ i. i.parent))
      same n other None e = sym (ap (λ o. o >>= (λ i. i.parent)) e)
      same n other (Some y) e =
          let named : y.name ≡ n = same_image-sound y.name n (find-some (is_image n) (shape_in s t m).images y e).1 in
          ap (λ b. (when b link_to y).parent) (other_image y.name child (λ is. other (sym named ∙ is))) ∙ sym (ap (λ o. o >>= (λ i. i.parent)) e)

      hides : (y : ImageRow) → (on_link y).hidden ≡ y.hidden
      hides y = by (is_image child y)
        where
          by : (b : Bool) → (when b link_to y).hidden ≡ y.hidden
          by true = refl
          by false = refl

      seen : (u : List ℕ) (y : ImageRow) → is_image_of u (on_link y) ≡ is_image_of u y
      seen u y = ap₂ (λ (n : Name) b. not b && bytes_eq (image_uuid n) u) (names y) (hides y)

      named_alike : (o : Option ImageRow) → name_of (option_map on_link o) ≡ name_of o
      named_alike None = refl
      named_alike (Some y) = ap Some (names y)

  -- ---- the machine's shape behind it

  abbrev pub shape_then : Shape
  shape_then = record (shape_in s t m) { images = images_then }

  collected_then : collected (next_step (shape_in s t m)) (shape_in s t m) ≡ shape_then
  unfolding collected machine_linked shape_in
  collected_then = ap (λ z. collected z (shape_in s t m)) h.next ∙ ap (λ o. machine_linked o child (shape_in s t m)) h.is

  none_committed : own_commits (shape_in s t m) Gc ≡ 0
  unfolding own_commits plan_commits
  none_committed = ap (plan_commits (shape_in s t m)) h.next

  pub next_then : shape_next (shape_in s t m) Gc ≡ shape_then
  unfolding shape_after is_given_up gives_up
  next_then = ∥∥₁_elim h.orderly.well_formed (hlevel props) (λ w.
      next_shape (shape_in s t m) Gc w refl none_committed ∙ ap (λ (x : Shape). record x { sequence = (shape_in s t m).sequence }) collected_then)

  well_formed_then : IsWellFormed (shape_in s t m) → IsWellFormed shape_then
  well_formed_then w = subst IsWellFormed collected_then (gc_keeps (shape_in s t m) w)

  -- ---- the counts behind it

  -- whoever uses the child uses the image
  pub enough : count_of m.attached child ≤ count_of m.attached v
  enough = ∥∥₁_elim h.orderly.well_formed (hlevel props) (λ w. omega (arith, h.orderly.counts child, h.orderly.counts v, uses_out (shape_in s t m) images_then child v p (past w)))

  -- attachments with such counts
  abbrev pub noted : Attached
  noted = record m.attached { counts = (v, count_of m.attached v - count_of m.attached child) ∷ m.attached.counts }

  pub noted_out : count_of noted v + count_of m.attached child ≡ count_of m.attached v
  noted_out =
      let is : count_of noted v ≡ count_of m.attached v - count_of m.attached child =
      ap (λ b. unwrap_or (cond b (Some (count_of m.attached v - count_of m.attached child)) (lookup (same_name v) m.attached.counts)) 0) (same_name-refl v) in
      omega (arith, is, enough)

  pub noted_others : (n : Name) → n ≢ v → count_of noted n ≡ count_of m.attached n
  noted_others n other = ap (λ b. unwrap_or (cond b (Some (count_of m.attached v - count_of m.attached child)) (lookup (same_name n) m.attached.counts)) 0) (other_name n v other)

  -- ---- memory behind it

  module _ (q : TreeRow) (higher : In q m.rows) (q_named : row_name q ≡ p) (a : Attached) (disks : a.disks ≡ m.attached.disks) where
    abbrev next : TreeRow
    next = linked_row q r

    abbrev pub after : Known
    after = record m { rows = with_replaced (linked_row q r) m.rows; attached = a }

    next_named : row_name next ≡ row_name r
    next_named = linked_name q.image r.image

    machine_next : machine_row next ≡ record (machine_row r) { parent = Some p }
    machine_next =
        ap₂ (λ (n : Name) (o : Option Name). let i : ImageRow = record { name = n; hidden = r.hidden; parent = o; size = sector_count next.image; slots = slots_of next.image; extents = r.extents } in i)
        next_named (linked_parent q.image r.image own_vhd ∙ ap Some q_named)
        ∙ ap₂ (λ (k : ℕ) (l : List (Option ℕ)). let i : ImageRow = record (machine_row r) { parent = Some p; size = k; slots = l } in i) (linked_size q.image r.image) (linked_slots q.image r.image)

    images_linked : IsWellFormed (shape_in s t m) → map machine_row (with_replaced (linked_row q r) m.rows) ≡ on_image child (λ i. record i { parent = Some p }) (map machine_row m.rows)
    images_linked w = map_replaced s t m h.orderly r next h.there next_named machine_row on_link
        (machine_next ∙ sym (ap (λ b. when b link_to (machine_row r)) (ap (λ n. same_image n child) h.named
        ∙ same_image-refl child (subst (λ n. is_image_name n ≡ true) h.named (w.images (machine_row r) machine_there).named))))
        (λ y i other. sym (ap (λ b. when b link_to (machine_row y)) (other_image (row_name y) child (λ is. other (is ∙ sym h.named)))))

    shown_linked : (u : List ℕ) → is_shown (with_replaced (linked_row q r) m.rows) u ≡ is_shown m.rows u
    shown_linked u = any_replaced s t m h.orderly r next h.there next_named (λ x. is_image_of u (machine_row x)) (ap (λ n. not r.hidden && bytes_eq (image_uuid n) u) next_named)

    pub shape_linked : shape_in s t (record m { rows = with_replaced (linked_row q r) m.rows; attached = a }) ≡ shape_then
    unfolding shape_in
    shape_linked = ∥∥₁_elim h.orderly.well_formed (hlevel props) (λ w.
        ap₂ (λ (rs : List DiskRecord) (xs : List ImageRow). let x : Shape = record (shape_in s t after) { records = rs; images = xs } in x)
        (ap (λ ps. records_in ps) (shown_same (with_replaced (linked_row q r) m.rows) m.rows m.places shown_linked)) (images_linked w)
        ∙ ap (λ (ds : List (List ℕ × _)). let x : Shape = record shape_then { attached = map (λ d. record { disk = d.0; mode = d.1 }) ds } in x) disks)

    pub shape_next_linked : shape_in s t (record m { rows = with_replaced (linked_row q r) m.rows; attached = a }) ≡ shape_next (shape_in s t m) Gc
    shape_next_linked = shape_linked ∙ sym next_then

    -- a row of it is one from before of another name, or the new one
    pub rows_linked : (x : TreeRow) → In x (with_replaced (linked_row q r) m.rows) → (In x m.rows × (row_name x ≢ row_name r)) ⊎ (x ≡ linked_row q r)
    rows_linked = of_rows s t m h.orderly r next h.there next_named

    -- no record is stray
    pub tidy_linked : IsTidy t m → IsTidy t (record m { rows = with_replaced (linked_row q r) m.rows; attached = a })
    tidy_linked tidy = record { none_new = tidy.none_new; no_stray = λ e i. shown_linked e.uuid ∙ tidy.no_stray e i }

    -- memory is orderly with it, where the image that goes is counted without those that use the child
    module _ (out : count_of a v + count_of m.attached child ≡ count_of m.attached v) (others : (n : Name) → n ≢ v → count_of a n ≡ count_of m.attached n) where
      counted : IsWellFormed (shape_in s t m) → (n : Name) → count_of a n ≡ refs n shape_then
      counted w n = ⊎_elim
          (λ same. ap (count_of a) same ∙ omega (arith, out, h.orderly.counts child, h.orderly.counts v, uses_out (shape_in s t m) images_then child v p (past w)) ∙ sym (ap (λ k. refs k shape_then) same))
          (λ other. others n other ∙ h.orderly.counts n ∙ sym (uses_other (shape_in s t m) images_then child v p (past w) n other)) (name_or_not n v)

      counts_linked : (n : Name) → count_of a n ≡ refs n (shape_in s t after)
      counts_linked n = ∥∥₁_elim h.orderly.well_formed (hlevel props) (λ w. counted w n) ∙ sym (ap (refs n) shape_linked)

      roomy_then : IsRoomyIn (shape_in s t after) (shape_in s t after).op
      unfolding shape_in
      roomy_then = subst (λ z. IsRoomyIn (shape_in s t after) z) (sym h.is) tt

      pub orderly_linked : IsOrderly s t (record m { rows = with_replaced (linked_row q r) m.rows; attached = a })
      orderly_linked =
          let o = h.orderly in
          record {
            table = o.table;
            few_extents = o.few_extents;
            record_volume = o.record_volume;
            few = o.few;
            new_named = o.new_named;
            images = λ n is. o.images n is ∙ sym (face_replaced s t m o r next h.there next_named refl refl n);
            logs = o.logs;
            few_logs = o.few_logs;
            logs_in_order = o.logs_in_order;
            log_room = o.log_room;
            places = o.places;
            entries = o.entries;
            stands = λ x i. ⊎_elim (λ old. o.stands x old.0) (λ new. subst (λ (y : TreeRow). StandsIn s.geometry (y.extents * s.geometry.extent) y.image) (sym new)
                (linked_stands s.geometry (r.extents * s.geometry.extent) q.image r.image (o.stands r h.there))) (rows_linked x i);
            well_formed = ∥∥₁_map o.well_formed (λ w. subst IsWellFormed (sym shape_linked) (well_formed_then w));
            roomy = roomy_then;
            counts = counts_linked;
          }

      -- no check fails of it
      was_sized : (c : ImageRow) → In c (map machine_row (with_replaced (linked_row q r) m.rows)) → (y : ImageRow) × In y (map machine_row m.rows) × (y.name ≡ c.name) × (y.size ≡ c.size)
      was_sized c i =
          let z = In-map machine_row (with_replaced (linked_row q r) m.rows) c i in ⊎_elim
          (λ old. (machine_row z.0, In-map_at machine_row m.rows z.0 old.0, sym (ap (λ (y : ImageRow). y.name) z.2), sym (ap (λ (y : ImageRow). y.size) z.2)))
          (λ new. (
            machine_row r,
            In-map_at machine_row m.rows r h.there,
            sym (ap (λ (y : ImageRow). y.name) z.2 ∙ ap row_name new ∙ next_named),
            sym (ap (λ (y : ImageRow). y.size) z.2 ∙ ap (λ (y : TreeRow). sector_count y.image) new ∙ linked_size q.image r.image),
          ))
          (rows_linked z.0 z.1)

      pub sound_linked : (area : Held) → IsFirm s t area m → fault_of (outline_in s t (record m { rows = with_replaced (linked_row q r) m.rows; attached = a })) ≡ None
      unfolding shape_in
      sound_linked area firm = ∥∥₁_elim orderly_linked.well_formed (hlevel props) (λ then. ∥∥₁_elim h.orderly.well_formed (hlevel props) (λ w.
          sound s t after orderly_linked then (λ x y c d is in_c in_d named_c named_d.
          let one = was_sized c in_c in
          let two = was_sized d in_d in
          let le = relink_large s t area m h.orderly firm w x y one.0 two.0 is one.1 two.1 (one.2 ∙ named_c) (two.2 ∙ named_d) in
          omega (arith, le, one.3, two.3))))
