-- A VHD image holds no sector in a block that has no slot. So where no block from the cursor on has one, all that the image holds
-- was copied.
use Rattle.std.proofs.Common.{◌≡◌, ⊎_elim, inl, inr, ℕ, ◌*◌, ◌+◌, ◌-◌, ◌/◌, ◌%◌, ◌<◌, ◌≤◌, ◌==◌, nat_lt, Bool, true, false, cond, List, [], length, Option, Some, None, refl, sym, ap, ◌∙◌, subst, arith}
use Rattle.std.proofs.Math.Logic.{∥∥₁_elim}
use Rattle.std.proofs.Math.Nat.{div-lt_iff_lt-mul}
use Rattle.std.proofs.Props.{props}
use Rattle.std.proofs.lemmas.Bool.{cases_lt, true≢false}
use Rattle.std.proofs.lemmas.List.{length-map}
use Rattle.std.proofs.lemmas.List.FromFn.{get_or-range_with_len, length-range_with_len}
use Rattle.std.proofs.lemmas.Nat.{le-div}
use Rattle.std.proofs.lemmas.Option.{get_or_from_slice_get, none-some, same_Some, slice_get-get_or, slice_get-map}
use Rattle.std.specs.List.{range_with_len, slice_get}
use Rattle.common_laws.specs.Lists.{In}
use Rattle.common_laws.proofs.Lists.{In-map, none_find, numbers-In}
use Rattle.sm_base.specs.declared.names.Name.{Name}
use Rattle.sm_base.specs.declared.names.Name.TheVariants.{Vhd}
use Rattle.sm_machine.specs.Operations as op
use Rattle.sm_disk.specs.Held.{Held, reads}
use Rattle.vg_meta.specs.Tables.{Row, VolumeTable, rows}
use Rattle.vg_meta.proofs.RowLaws.{row_of-name}
use Rattle.vg_volumes.specs.Sites.{Site}
use Rattle.vhd_map.specs.Bitmaps.{is_set}
use Rattle.vhd_map.specs.Places.{blank}
use Rattle.vhd_layout.specs.Contents.{content_at, layout_at, own, size_at, slot_number, slots_at, value}
use Rattle.vhd_layout.specs.Contents as content
use Rattle.vhd_layout.specs.Layouts.{Sectors, entry}
use Rattle.vhd_chain.specs.Trees.{row_name, tree_row}
use Rattle.vhd_chain.specs.declared.rows.TreeRow.{TreeRow}
use Rattle.sm_machine.specs.Collector.{next_block, table_of}
use Rattle.sm_machine.specs.Shapes.{ImageRow, find_image, image_uuid, is_there, slot_at}
use Rattle.sm_machine.specs.WellFormed.{IsChild, IsOperation, IsWellFormed, is_image_name}
use Rattle.sm_machine.proofs.Chains.{find_image-in}
use Rattle.sm_standing.specs.Images.{Image, image_of}
use Rattle.sm_standing.specs.Shapes.{image_row, row_of}
use Rattle.sm_ready.specs.Known.{Known, machine_row, shape_in}
use Rattle.sm_ready.specs.Orderly.{IsOrderly}
use Rattle.sm_ready.specs.Ready.{IsBelow, IsFirm, IsHeldBelow}
use Rattle.sm_ready.specs.Stores.{content_now}
use Rattle.sm_ready.proofs.KeptLaws.{vhd_named}
use Rattle.sm_ready.proofs.LeftLaws.{left_in, left_now, vhd_left}
use Rattle.sm_ready.proofs.Orders.{geometry_of, named_row}
use Rattle.sm_ready.proofs.RowLaws.{image_named, tree_found, volume_there}
use Rattle.sm_ready.proofs.ShapeLaws.{Seen, seen_by}

-- ---- an image by itself

-- the entry of the block of a sector that the image holds is not blank
held_entry : (block n : ℕ) (v : Sectors) (k : ℕ) (bytes : List ℕ) → own block (size_at n v) v k ≡ Some bytes → (entry v (k / block) == blank) ≡ false
unfolding own value
held_entry block n v k bytes has = by (nat_lt k (size_at n v)) (entry v (k / block) == blank) refl has
  where
    found : Option (List ℕ)
    found = cond (is_set (v (entry v (k / block))) (k % block)) (Some (v (entry v (k / block) + (1 + k % block)))) None

    by : (c d : Bool) → (entry v (k / block) == blank) ≡ d → cond c (cond (entry v (k / block) == blank) None found) None ≡ Some bytes → d ≡ false
    by false d e h = absurd (none-some bytes h)
    by true true e h = absurd (none-some bytes (sym (ap (λ b. cond b None found) e) ∙ h))
    by true false e h = refl

slots_long : (block entries n : ℕ) (v : Sectors) → length (content_at block entries n v).slots ≡ entries
slots_long block entries n v = length-map (range_with_len 0 entries) (content.slot_at (layout_at block entries n v) v) ∙ length-range_with_len 0 entries

-- so the block has a slot
pub held_slot : (block entries n : ℕ) (v : Sectors) (k : ℕ) (bytes : List ℕ) → own block (size_at n v) v k ≡ Some bytes → k / block < entries
    → is_there (slot_at (content_at block entries n v).slots (k / block)) ≡ true
unfolding content.slot_at
held_slot block entries n v k bytes has below =
    let l = layout_at block entries n v in
    let b = k / block in
    let at : slice_get (range_with_len 0 entries) b ≡ Some b =
    slice_get-get_or (range_with_len 0 entries) b 0 (omega (arith, below, length-range_with_len 0 entries)) ∙ ap Some (get_or-range_with_len 0 entries b 0 below ∙ omega arith) in
    let slot : slice_get (slots_at l v) b ≡ Some (content.slot_at l v b) =
    slice_get-map (content.slot_at l v) (range_with_len 0 entries) b ∙ ap (λ o. elim o as (λ o. Option (Option ℕ)) [ None ↦ None | Some x ↦ Some (content.slot_at l v x) ]) at in
    ap is_there (get_or_from_slice_get (slots_at l v) b (content.slot_at l v b) None slot)
    ∙ ap (λ (c : Bool). is_there (cond c None (Some (slot_number l (entry v b))))) (held_entry block n v k bytes has)

-- where the machine finds no block from the cursor on, none of these has a slot
no_slot_from : (cursor b : ℕ) (slots : List (Option ℕ)) → next_block cursor slots ≡ None → b < length slots → cursor ≤ b → is_there (slot_at slots b) ≡ false
unfolding next_block
no_slot_from cursor b slots none below from = none_find (λ c. is_there (slot_at slots c)) _ none b (numbers-In cursor (length slots - cursor) b from (omega (arith, below, from)))

-- ---- as memory has it

-- what a read gives of a VHD image that the machine's shape has, with its table
pub record IsRead (s : Site) (t : VolumeTable) (area : Held) (i : ImageRow) : Type 0 where
  pub sectors : ℕ
  pub held : Sectors
  pub is : image_of (content_now s t area) i.name ≡ Some (content_at s.geometry.block s.geometry.entries sectors held)
  pub slots : i.slots ≡ (content_at s.geometry.block s.geometry.entries sectors held).slots

pub image_read : (s : Site) (t : VolumeTable) (area : Held) (m : Known) (i : ImageRow) (u : List ℕ) → IsOrderly s t m → IsFirm s t area m → IsWellFormed (shape_in s t m)
    → In i (shape_in s t m).images → i.name ≡ Vhd u → IsRead s t area i
unfolding shape_in is_image_name row_of
image_read s t area m i u o firm w there named =
    let y = In-map machine_row m.rows i there in
    let name : row_name y.0 ≡ Vhd u = sym (ap (λ (z : ImageRow). z.name) y.2) ∙ named in
    let found = tree_found m.rows y.0 w.one_image y.1 in
    let has = volume_there s t m y.0 o (image_named (row_name y.0) (named_row s t m y.0 o y.1)) found in
    let at : rows t (Vhd u) ≡ Some has.row = ap (rows t) (sym name) ∙ has.there in
    let is = vhd_left s t area m (reads area) u has.row o firm (left_in s t m area (reads area) o (left_now s area)) at has.filled in
    seen name found has.row at _ _ is (seen_by s t area m (Vhd u) has.row o firm at has.filled) y.2
  where
    seen : {y : TreeRow} → row_name y ≡ Vhd u → tree_row m.rows (row_name y) ≡ Some y → (r : Row) → rows t (Vhd u) ≡ Some r → (n : ℕ) (v : Sectors)
        → image_of (content_now s t area) (Vhd u) ≡ Some (content_at s.geometry.block s.geometry.entries n v) → Seen s t area m (Vhd u) r → i ≡ machine_row y → IsRead s t area i
    seen {y} name found r at n v is (inl q) same =
        let row : q.at.row ≡ y = same_Some q.at.row y (sym q.at.found ∙ ap (tree_row m.rows) (sym name) ∙ found) in
        let read = content_at s.geometry.block s.geometry.entries n v in
        let it : image_row r read ≡ machine_row q.at.row = same_Some (image_row r read) (machine_row q.at.row)
        (sym (ap (λ (x : Option Image). elim x as (λ x. Option ImageRow) [ None ↦ None | Some j ↦ Some (image_row r j) ])
        (ap (image_of (content_now s t area)) (row_of-name t.volumes (Vhd u) r at) ∙ is)) ∙ q.seen) in
        record {
          sectors = n;
          held = v;
          is = ap (image_of (content_now s t area)) (ap (λ (z : ImageRow). z.name) same ∙ name) ∙ is;
          slots = ap (λ (z : ImageRow). z.slots) (same ∙ ap machine_row (sym row) ∙ sym it);
        }
    seen name found r at n v is (inr q) same = absurd (true≢false q.0)

-- ---- a copy

-- all blocks of the child were copied, so the parent holds all that it holds
pub all_copied : (s : Site) (t : VolumeTable) (area : Held) (m : Known) (v p : Name) (cursor : ℕ) → IsOrderly s t m → IsFirm s t area m → m.op ≡ op.Copy v p cursor
    → next_block cursor (table_of v (shape_in s t m)) ≡ None → IsHeldBelow (content_now s t area) v p s.geometry.entries []
unfolding shape_in
all_copied s t area m v p cursor o firm is none = record {
  child = below.child;
  parent = below.parent;
  image = below.image;
  under = below.under;
  size = below.size;
  held = λ k bytes inside clean has. ⊎_elim (λ front. below.held k bytes front clean has)
      (λ behind. absurd (∥∥₁_elim o.well_formed (hlevel props) (λ w. past w k bytes inside has behind))) (cases_lt k (cursor * s.geometry.block));
}
  where
    below : IsHeldBelow (content_now s t area) v p cursor []
    below = subst (IsBelow (content_now s t area)) is firm.below

    some : 0 < s.geometry.block
    some = omega (arith, (geometry_of s t m o).block_least)

    past : IsWellFormed (shape_in s t m) → (k : ℕ) (bytes : List ℕ) → k < s.geometry.entries * s.geometry.block → below.child.own k ≡ Some bytes → cursor * s.geometry.block ≤ k → ⊥
    past w k bytes inside has behind =
        let c : IsChild (shape_in s t m) true v p = (subst (IsOperation (shape_in s t m)) is w.operation).link in
        let i = image_read s t area m c.child (image_uuid v) o firm w c.there (c.is_named ∙ vhd_named v c.vhd) in
        let image = content_at s.geometry.block s.geometry.entries i.sectors i.held in
        let same : below.child ≡ image = same_Some below.child image (sym below.image ∙ ap (image_of (content_now s t area)) (sym c.is_named) ∙ i.is) in
        let b = k / s.geometry.block in
        let within : b < s.geometry.entries = (div-lt_iff_lt-mul some).1 inside in
        let found : find_image v (shape_in s t m).images ≡ Some c.child =
        subst (λ n. find_image n (shape_in s t m).images ≡ Some c.child) c.is_named (find_image-in (shape_in s t m).images c.child w.one_image c.there (w.images c.child c.there).named) in
        let table : table_of v (shape_in s t m) ≡ image.slots = ap (λ (x : Option ImageRow). elim x as (λ x. List (Option ℕ)) [ None ↦ [] | Some j ↦ j.slots ]) found ∙ i.slots in
        let long : length image.slots ≡ s.geometry.entries = slots_long s.geometry.block s.geometry.entries i.sectors i.held in
        let slot : is_there (slot_at image.slots b) ≡ true = held_slot s.geometry.block s.geometry.entries i.sectors i.held k bytes (ap (λ (x : Image). x.own k) (sym same) ∙ has) within in
        let no_slot : is_there (slot_at image.slots b) ≡ false =
        no_slot_from cursor b image.slots (ap (next_block cursor) (sym table) ∙ none) (omega (arith, within, long)) (le-div cursor k s.geometry.block some behind) in
        true≢false (sym slot ∙ no_slot)
