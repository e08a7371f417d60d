-- What a stop leaves of a ready store is kept.
use Rattle.vhd_image.specs.Bodies.{sector_count, parent_name}
use Rattle.std.proofs.Common.{◌≡◌, ◌≢◌, inl, inr, ⊎_elim, ℕ, ◌+◌, ◌*◌, ◌/◌, ◌%◌, ◌<◌, ◌≤◌, ◌==◌, nat_lt, Bool, true, false, cond, List, [], length, Option, Some, None, refl, sym, ap, ap₂, ◌∙◌, subst, arith, not, ◌&&◌}
use Rattle.std.specs.List.{slice_get, range_with_len}
use Rattle.std.proofs.Math.Logic.{∥∥₁_elim}
use Rattle.std.proofs.Props.{props}
use Rattle.std.proofs.lemmas.Bool.{cond-true, lt-ltb, true≢false, ne_eqb, le-ltb, cases_lt}
use Rattle.std.proofs.lemmas.Nat.{same_from_place, mod_below, div-add-mod', mul-add-lt}
use Rattle.std.proofs.lemmas.List.{length-map}
use Rattle.std.proofs.lemmas.List.FromFn.{length-range_with_len, get_or-range_with_len}
use Rattle.std.proofs.lemmas.Option.{none-some, same_Some, slice_get-map, slice_get_within, slice_get-get_or}
use Rattle.std.proofs.Math.Nat.{mul_comm, mul-le-mul_right}
use Rattle.sm_base.specs.declared.names.Name.{Name}
use Rattle.sm_base.specs.declared.names.Name.TheVariants.{Mgt, Vhd, Raw, Old, Cbt, Clone, Inflate, Coalesce, Relink, Leaf}
use Rattle.sm_machine.specs.Operations.{Op}
use Rattle.sm_disk.specs.Held.{Held, reads}
use Rattle.vg_meta.specs.Tables.{VolumeTable, Row, rows, names_of}
use Rattle.sm_base.specs.Kinds.{is_entry}
use Rattle.vg_volumes.specs.Sites.{Site}
use Rattle.vhd_map.specs.Bitmaps.{is_set}
use Rattle.vhd_map.specs.Places.{blank}
use Rattle.vhd_layout.specs.Contents.{content_at, layout_at, slot_at, slot_number, slots_at, size_at, own, value}
use Rattle.vhd_layout.specs.Images.{IsValid, EachSlotHolds}
use Rattle.vhd_layout.specs.Layouts.{Sectors, Layout, layout_of, entry, code}
use Rattle.vhd_layout.proofs.ImageLaws.{content-of_head, in_entries}
use Rattle.common_laws.specs.Lists.{In}
use Rattle.sm_standing.specs.Checks.{fault_of}
use Rattle.sm_standing.specs.Contents.{sectors_of, row}
use Rattle.sm_standing.specs.Images.{Image, image_of}
use Rattle.sm_standing.specs.Keeping.{IsKept, IsHolding, IsHeldAlike}
use Rattle.vg_meta.proofs.RowLaws.{row_of-name}
use Rattle.sm_machine.specs.Shapes.{Shape, ImageRow, image_uuid, is_vhd, is_rw, attached_as}
use Rattle.sm_machine.specs.WellFormed.{IsWellFormed, IsChild, IsOperation}
use Rattle.sm_machine.proofs.Chains.{find_image-in}
use Rattle.common_laws.proofs.Lists.{In-map, In-map_at, filter-In}
use Rattle.sm_standing.proofs.DisksShown.{row_of-In}
use Rattle.sm_ready.specs.Outlined.{link_in, outline_in}
use Rattle.vhd_chain.specs.Trees.{row_name, tree_row}
use Rattle.sm_ready.specs.Known.{machine_row, entry_of, Known, shape_in}
use Rattle.sm_standing.specs.Outlines.{Link, link_of}
use Rattle.sm_ready.specs.Ready.{is_written_in, is_written_as, IsFirm, HoldsPlaces, IsBelow, IsHeldBelow}
use Rattle.sm_ready.proofs.LeftLaws.{image_still, links_left, left_now, new_vhd, IsLeftIn, left_in, vhd_in, vhd_left, vhd_allowed, none_of_vhd, outline_left}
use Rattle.sm_ready.proofs.RowLaws.{tree_found}
use Rattle.sm_ready.proofs.SoundLaws.{sound}
use Rattle.sm_ready.specs.Orderly.{IsOrderly}
use Rattle.sm_ready.specs.Stores.{content_in, content_now}
use Rattle.sm_machine.specs.Operations as op

-- the size of an image of the machine, in what a read gives
size_now : (s : Site) (t : VolumeTable) (area : Held) (m : Known) (n : Name) (i : Image) (c : ImageRow) → IsOrderly s t m → IsFirm s t area m → IsWellFormed (shape_in s t m) → In c (shape_in s t m).images → c.name ≡ n
    → image_of (content_now s t area) n ≡ Some i → i.size ≡ c.size
unfolding shape_in
size_now s t area m n i c o ready w there named is =
    let y = In-map machine_row m.rows c there in
    let found = tree_found m.rows y.0 w.one_image y.1 in
    let name : row_name y.0 ≡ n = sym (ap (λ (z : ImageRow). z.name) y.2) ∙ named in
    let l : record { size = i.size; parent = i.parent } ≡ record { size = sector_count y.0.image; parent = parent_name y.0.image } =
    same_Some _ _ (sym (ap link_of is) ∙ links_left s t area m (reads area) n o ready (left_in s t m area (reads area) o (left_now s area)) ∙ ap link_in (ap (tree_row m.rows) (sym name) ∙ found)) in
    ap (λ (z : Link). z.size) l ∙ sym (ap (λ (z : ImageRow). z.size) y.2)

-- while children are being linked to a parent, it is not smaller than the image between
pub relink_large : (s : Site) (t : VolumeTable) (area : Held) (m : Known) → IsOrderly s t m → IsFirm s t area m → IsWellFormed (shape_in s t m)
    → (v p : Name) (c q : ImageRow) → m.op ≡ op.Relink v p → In c (shape_in s t m).images → In q (shape_in s t m).images → c.name ≡ v → q.name ≡ p → c.size ≤ q.size
relink_large s t area m o ready w v p c q is in_c in_q named_c named_q =
    let below : IsHeldBelow (content_now s t area) v p s.geometry.entries [] = subst (IsBelow (content_now s t area)) is ready.below in
    omega (arith, size_now s t area m v below.child c o ready w in_c named_c below.image, size_now s t area m p below.parent q o ready w in_q named_q below.under, below.size)

-- no check fails of what memory tells
pub law_sound : (s : Site) (t : VolumeTable) (area : Held) (m : Known) → IsOrderly s t m → IsFirm s t area m → fault_of (outline_in s t m) ≡ None
law_sound s t area m o ready = ∥∥₁_elim o.well_formed (hlevel props) (λ w. sound s t m o w (relink_large s t area m o ready w))

-- ---- each block with a slot holds a sector

slot_there : (l : Layout) (v : Sectors) (b k : ℕ) → slice_get (slots_at l v) b ≡ Some (Some k) → (b < l.entries) × (entry v b ≢ blank)
unfolding slot_at
slot_there l v b k is =
    let below : b < l.entries = omega (arith, slice_get_within (slots_at l v) b (Some k) is, length-map (range_with_len 0 l.entries) (slot_at l v), length-range_with_len 0 l.entries) in
    let at : slice_get (range_with_len 0 l.entries) b ≡ Some b = slice_get-get_or (range_with_len 0 l.entries) b 0 (omega (arith, below, length-range_with_len 0 l.entries)) ∙ ap Some (get_or-range_with_len 0 l.entries b 0 below ∙ omega arith) in
    let slot : slot_at l v b ≡ Some k = same_Some (slot_at l v b) (Some k) (sym (slice_get-map (slot_at l v) (range_with_len 0 l.entries) b ∙ ap (λ o. elim o as (λ o. Option (Option ℕ)) [ None ↦ None | Some x ↦ Some (slot_at l v x) ]) at) ∙ is) in
    (below, λ e. none-some k (sym (ap (λ (x : ℕ). cond (x == blank) None (Some (slot_number l x))) e) ∙ slot))

by_place : (block b i : ℕ) → i < block → ((b * block + i) / block ≡ b) × ((b * block + i) % block ≡ i)
by_place block b i below = same_from_place ((b * block + i) / block) ((b * block + i) % block) b i block (mod_below (b * block + i) block (omega (arith, below))) below (div-add-mod' (b * block + i) block)

pub holding_at : (block entries n : ℕ) (v : Sectors) → (h : IsValid block entries n v) → EachSlotHolds block entries v → IsHolding block (content_at block entries n v)
unfolding own value
holding_at block entries n v h holds b k is =
    let l = layout_at block entries n v in
    let at = slot_there l v b k is in
    let w = holds.holds b at.0 at.1 in
    let sized : b < h.0 = in_blocks (h.3 b) refl in
    let inside : b * block + w.0 < size_at n v = subst (λ x. b * block + w.0 < x) (sym (content-of_head (layout_of block entries h.0 n) v h.1 h.2 h.4.head).0) (subst (λ x. b * block + w.0 < x) (mul_comm block h.0) (mul-add-lt b block w.0 h.0 sized w.1)) in
    let place = by_place block b w.0 w.1 in (
      w.0,
      w.1,
      (
        v (entry v b + (1 + w.0)),
        cond-true (nat_lt (b * block + w.0) (size_at n v)) (value v ((b * block + w.0) / block) ((b * block + w.0) % block)) None (lt-ltb (b * block + w.0) (size_at n v) inside)
            ∙ ap₂ (λ x y. value v x y) place.0 place.1
            ∙ ap (λ (c : Bool). cond c None (cond (is_set (v (entry v b)) w.0) (Some (v (entry v b + (1 + w.0)))) None)) (ne_eqb (entry v b) blank at.1)
            ∙ ap (λ (c : Bool). cond c (Some (v (entry v b + (1 + w.0)))) None) w.2,
      ),
    )
  where
    in_blocks : (o : Option ℕ) → h.3 b ≡ o → b < h.0
    in_blocks None e = absurd ((slot_there (layout_at block entries n v) v b k is).1
        (h.4.table b (in_entries (layout_of block entries h.0 n) b (slot_there (layout_at block entries n v) v b k is).0) ∙ ap (code (layout_of block entries h.0 n)) e))
    in_blocks (Some j) e = h.4.slots.sized b j e

-- ---- kept

-- a volume that has an image is not new
filled_image : (s : Site) (t : VolumeTable) (image : ℕ → List ℕ) (u : List ℕ) (r : Row) (i : Image) → rows t (Vhd u) ≡ Some r → image_of (content_in s t image) (Vhd u) ≡ Some i → r.fresh ≡ false
filled_image s t image u r i there is = by r.fresh refl
  where
    by : (b : Bool) → r.fresh ≡ b → r.fresh ≡ false
    by false e = e
    by true e = absurd (none-some i (sym (new_vhd (content_in s t image) u r there e) ∙ is))

holding_left : (s : Site) (t : VolumeTable) (area : Held) (m : Known) (image : ℕ → List ℕ) (u : List ℕ) (i : Image) (x : Option Row) → IsOrderly s t m → IsFirm s t area m → IsLeftIn s t m area image → rows t (Vhd u) ≡ x
    → image_of (content_in s t image) (Vhd u) ≡ Some i → IsHolding s.geometry.block i
holding_left s t area m image u i None o ready left none is = absurd (none-some i (sym (none_of_vhd (content_in s t image) u none) ∙ is))
holding_left s t area m image u i (Some r) o ready left there is =
    let full = filled_image s t image u r i there is in
    let w = vhd_in s t area m u r o ready there full in
    let v = sectors_of (content_in s t image) (Vhd u) in
    let n = length r.extents * s.geometry.extent in
    let allows = vhd_allowed s t area m image u r o left there full in
    subst (IsHolding s.geometry.block) (same_Some (content_at s.geometry.block s.geometry.entries n v) i (sym (vhd_left s t area m image u r o ready left there full) ∙ is))
    (holding_at s.geometry.block s.geometry.entries n v (w.steady.is_true.valid v allows) (w.steady.holding v allows))

-- an entry of a relink is that of the operation
pub record IsRelink (o : Op) (child parent : List ℕ) : Type 0 where
  pub v : Name
  pub p : Name
  pub is : o ≡ op.Relink v p
  pub uuid : image_uuid v ≡ child

relink_of : (o : Op) (child parent : List ℕ) → In (Relink child parent) (entry_of o) → IsRelink o child parent
relink_of op.Idle child parent i = absurd i
relink_of (op.Copy v p c) child parent (inl is) = absurd (let x = is in cc)
relink_of (op.Copy v p c) child parent (inr i) = absurd i
relink_of (op.Relink v p) child parent (inl is) = record { v = v; p = p; is = refl; uuid = (let x = is in cc) }
relink_of (op.Relink v p) child parent (inr i) = absurd i
relink_of (op.Leaf l p c) child parent (inl is) = absurd (let x = is in cc)
relink_of (op.Leaf l p c) child parent (inr i) = absurd i
relink_of (op.Live l p c dirty) child parent (inl is) = absurd (let x = is in cc)
relink_of (op.Live l p c dirty) child parent (inr i) = absurd i

pub vhd_named : (n : Name) → is_vhd n ≡ true → n ≡ Vhd (image_uuid n)
unfolding is_vhd image_uuid
vhd_named (Vhd u) e = refl
vhd_named (Raw u) e = absurd (true≢false (sym e))
vhd_named Mgt e = absurd (true≢false (sym e))
vhd_named (Old u) e = absurd (true≢false (sym e))
vhd_named (Cbt u) e = absurd (true≢false (sym e))
vhd_named (Clone d b w) e = absurd (true≢false (sym e))
vhd_named (Inflate u k) e = absurd (true≢false (sym e))
vhd_named (Coalesce c p) e = absurd (true≢false (sym e))
vhd_named (Relink c p) e = absurd (true≢false (sym e))
vhd_named (Leaf l p) e = absurd (true≢false (sym e))

-- a hidden image is not written to
hidden_quiet : (σ : Shape) (i : ImageRow) → IsWellFormed σ → In i σ.images → i.hidden ≡ true → is_written_in σ i.name ≡ false
unfolding is_written_in
hidden_quiet σ i w there hidden =
    ap (is_written_as σ i.name) (find_image-in σ.images i w.one_image there (w.images i there).named)
    ∙ ap (λ b. not b && is_rw (attached_as (image_uuid i.name) σ)) hidden

own_below : (block n : ℕ) (v : Sectors) (k : ℕ) (bytes : List ℕ) → own block n v k ≡ Some bytes → k < n
unfolding own
own_below block n v k bytes is = ⊎_elim (λ below. below) (λ past. absurd (none-some bytes (sym (ap (λ b. cond b (value v (k / block) (k % block)) None) (le-ltb k n past)) ∙ is))) (cases_lt k n)

pub entry_relink : (s : Site) (t : VolumeTable) (m : Known) (child parent : List ℕ) (r : Row) → IsOrderly s t m → rows t (Relink child parent) ≡ Some r → IsRelink m.op child parent
entry_relink s t m child parent r o there = relink_of m.op child parent (subst (In (Relink child parent)) o.entries (filter-In is_entry (names_of t.volumes) (Relink child parent)
    (subst (λ x. In x (names_of t.volumes)) (row_of-name t.volumes (Relink child parent) r there) (In-map_at (λ (y : Row). y.name) t.volumes r (row_of-In t.volumes (Relink child parent) r there).0)) refl))

linking_left : (s : Site) (t : VolumeTable) (area : Held) (m : Known) (image : ℕ → List ℕ) → IsOrderly s t m → IsFirm s t area m → IsLeftIn s t m area image
    → (child parent : List ℕ) (r : Row) (v p : Image) (n : Name) → row (content_in s t image) (Relink child parent) ≡ Some r → image_of (content_in s t image) (Vhd child) ≡ Some v → v.parent ≡ Some n
    → image_of (content_in s t image) n ≡ Some p → IsHeldAlike v p
unfolding shape_in
linking_left s t area m image o ready left child parent r v p n there child_is linked under k bytes has =
    ∥∥₁_elim o.well_formed (hlevel props) (λ w. by w (subst (IsOperation (shape_in s t m)) e.is w.operation))
  where
    e : IsRelink m.op child parent
    e = entry_relink s t m child parent r o there

    below : IsHeldBelow (content_now s t area) e.v e.p s.geometry.entries []
    below = subst (IsBelow (content_now s t area)) e.is ready.below

    by : IsWellFormed (shape_in s t m) → IsChild (shape_in s t m) true e.v e.p → p.own k ≡ Some bytes
    by w c =
        let name : e.v ≡ Vhd child = vhd_named e.v c.vhd ∙ ap Vhd e.uuid in
        let q = w.parents c.child e.p c.there c.linked in
        let v_quiet = subst (λ x. is_written_in (shape_in s t m) x ≡ false) (c.is_named ∙ name) (hidden_quiet (shape_in s t m) c.child w c.there c.is_shown) in
        let p_quiet = subst (λ x. is_written_in (shape_in s t m) x ≡ false) q.is_named (hidden_quiet (shape_in s t m) q.parent w q.there q.is_hidden) in
        let v_same : v ≡ below.child = same_Some v below.child (sym child_is ∙ image_still s t area m image (Vhd child) o ready left v_quiet ∙ ap (image_of (content_now s t area)) (sym name) ∙ below.image) in
        let y = In-map machine_row m.rows c.child c.there in
        let found = tree_found m.rows y.0 w.one_image y.1 in
        let named : row_name y.0 ≡ Vhd child = sym (ap (λ (z : ImageRow). z.name) y.2) ∙ c.is_named ∙ name in
        let l : record { size = v.size; parent = v.parent } ≡ record { size = sector_count y.0.image; parent = parent_name y.0.image } =
        same_Some _ _ (sym (ap link_of child_is) ∙ links_left s t area m image (Vhd child) o ready left ∙ ap link_in (ap (tree_row m.rows) (sym named) ∙ found)) in
        let up : n ≡ e.p = same_Some n e.p (sym linked ∙ ap (λ (z : Link). z.parent) l ∙ sym (ap (λ (z : ImageRow). z.parent) y.2) ∙ c.linked) in
        let p_same : p ≡ below.parent = same_Some p below.parent (sym under ∙ ap (image_of (content_in s t image)) up ∙ image_still s t area m image e.p o ready left p_quiet ∙ below.under) in
        let whole = (w.images c.child c.there).whole in
        let size : v.size ≡ whole.0 * s.geometry.block = ap (λ (z : Link). z.size) l ∙ sym (ap (λ (z : ImageRow). z.size) y.2) ∙ whole.1 in
        let inside : k < v.size = sized (rows t (Vhd child)) refl in
        let small : k < s.geometry.entries * s.geometry.block = omega (arith, inside, size, mul-le s.geometry.block whole.0 s.geometry.entries whole.3) in
        ap (λ (z : Image). z.own k) p_same ∙ below.held k bytes small refl (ap (λ (z : Image). z.own k) (sym v_same) ∙ has)
      where
        mul-le : (b x y : ℕ) → x ≤ y → x * b ≤ y * b
        mul-le b x y le = mul-le-mul_right b le

        sized : (x : Option Row) → rows t (Vhd child) ≡ x → k < v.size
        sized None none = absurd (none-some v (sym (none_of_vhd (content_in s t image) child none) ∙ child_is))
        sized (Some a) here =
            let z = sectors_of (content_in s t image) (Vhd child) in
            let cnt = length a.extents * s.geometry.extent in
            let same : content_at s.geometry.block s.geometry.entries cnt z ≡ v = same_Some _ v (sym (vhd_left s t area m image child a o ready left here (filled_image s t image child a v here child_is)) ∙ child_is) in
            subst (λ (y : Image). k < y.size) same (own_below s.geometry.block (size_at cnt z) z k bytes (ap (λ (y : Image). y.own k) same ∙ has))

pub law_kept : (s : Site) (t : VolumeTable) (area : Held) (m : Known) (image : ℕ → List ℕ) → IsOrderly s t m → IsFirm s t area m → IsLeftIn s t m area image → HoldsPlaces s t image m.places → IsKept (content_in s t image)
law_kept s t area m image o ready left holds = record {
  sound = ap fault_of (outline_left s t area m image o ready left holds) ∙ law_sound s t area m o ready;
  holding = λ u i is. holding_left s t area m image u i (rows t (Vhd u)) o ready left refl is;
  linking = linking_left s t area m image o ready left;
}
