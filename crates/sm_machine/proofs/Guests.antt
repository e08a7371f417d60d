-- Commands that change a disk or its attachment keep a shape well-formed.
use Rattle.std.proofs.Common.{◌≡◌, ℕ, ◌+◌, ◌≤◌, Bool, true, false, cond, not, List, [], ◌∷◌, map, length, Option, Some, None, refl, sym, ap, ◌∙◌, subst, inl, inr, arith}
use Rattle.std.specs.List.{find, filter, slice_set}
use Rattle.std.specs.Prelude.{is_some, ◌&&◌, ◌<◌}
use Rattle.std.specs.Str.{bytes_eq}
use Rattle.sm_base.specs.declared.operations.Mode.{Mode}
use Rattle.sm_machine.specs.Commits.{folds}
use Rattle.std.proofs.lemmas.Bool.{and_parts, false_from_ne_true}
use Rattle.std.proofs.Math.ListN.{length-set}
use Rattle.common_laws.proofs.Bytes.{bytes_eq-same, bytes_eq-refl}
use Rattle.common_laws.proofs.Booleans.{not_true}
use Rattle.sm_base.specs.declared.names.Name.{Name}
use Rattle.sm_machine.specs.Operations.{Op}
use Rattle.sm_machine.specs.Operations as op
use Rattle.common_laws.specs.Lists.{◌>>=◌, In, Distinct, Sorted, when, change}
use Rattle.sm_machine.specs.Shapes.{Shape, ImageRow, DiskRecord, Attachment, image_uuid, is_vhd, is_there, slot_at, is_image_of, disk_image, attached_as, is_rw, mode_in, thick_in}
use Rattle.sm_machine.specs.Collector.{with_block, least_free}
use Rattle.sm_machine.specs.Steps.{with_blocks, written_image, written_op, blocks_touched, is_record, is_attached, write_shape, detach_shape, label_shape}
use Rattle.sm_machine.specs.WellFormed.{IsWellFormed, HasImage, HasRecord, IsChild, IsLive, IsOnlyChild, IsOperation, uuid_le}
use Rattle.common_laws.proofs.Lists.{In-map, In-map_at, In-filter, Distinct-key, Distinct-filter, find-only, find-none}
use Rattle.sm_machine.proofs.Changes.{when-key}
use Rattle.sm_machine.proofs.Mapped.{keeps_images, keeps_mapped, image_like, extents-map_same, attachments_mapped, live_mapped, operation_mapped}
use Rattle.sm_machine.specs.Operations.{dirtied}
use Rattle.sm_machine.proofs.Lives.{in_dirtied, there_all, there_when, there_written}

-- ---- the image of a disk

module _ (s : Shape) (w : IsWellFormed s) (u : List ℕ) where
  -- an image that is the disk's has its UUID and is not hidden
  pub disks_own : (y : ImageRow) → is_image_of u y ≡ true → (y.hidden ≡ false) × (image_uuid y.name ≡ u)
  disks_own y e = let r = and_parts (not y.hidden) (bytes_eq (image_uuid y.name) u) e in (not_true y.hidden r.0, bytes_eq-same (image_uuid y.name) u r.1)

  pub disk_image_is : (y : ImageRow) → In y s.images → is_image_of u y ≡ true → disk_image u s ≡ Some y
  disk_image_is y h e = find-only (is_image_of u) s.images y h e (λ z k q. Distinct-key (λ (i : ImageRow). image_uuid i.name) s.images z y w.one_image k h ((disks_own z q).1 ∙ sym (disks_own y e).1))

-- ---- writes

length-with_block : (b : ℕ) (slots : List (Option ℕ)) → length (with_block b slots) ≡ length slots
unfolding with_block
length-with_block b slots = by_slot (is_there (slot_at slots b))
  where
    by_slot : (c : Bool) → length (elim c as (λ _. List (Option ℕ)) [ true ↦ slots | false ↦ slice_set slots b (Some (least_free slots)) ]) ≡ length slots
    by_slot true = refl
    by_slot false = length-set slots b _

pub length-block : (b : ℕ) (slots : List (Option ℕ)) → length (with_block b slots) ≡ length slots
length-block = length-with_block

length-with_blocks : (blocks : List ℕ) (slots : List (Option ℕ)) → length (with_blocks blocks slots) ≡ length slots
unfolding with_blocks
length-with_blocks [] slots = refl
length-with_blocks (b ∷ blocks) slots = length-with_blocks blocks (with_block b slots) ∙ length-with_block b slots

module _ (s : Shape) (w : IsWellFormed s) (u : List ℕ) (sector count : ℕ) where
  abbrev pub on_write : ImageRow → ImageRow
  on_write y = when (is_image_of u y) (written_image s sector count) y

  pub written_key : {B : Type 0} (k : ImageRow → B) → ((y : ImageRow) (slots : List (Option ℕ)) → k (record y { slots = slots }) ≡ k y) → (y : ImageRow) → k (on_write y) ≡ k y
  written_key k h y = when-key k (written_image s sector count) (λ z. by_kind z (is_vhd z.name)) (is_image_of u y) y
    where
      by_kind : (z : ImageRow) (c : Bool) → k (elim c as (λ _. ImageRow) [ true ↦ record z { slots = with_blocks (blocks_touched s sector count) z.slots } | false ↦ z ]) ≡ k z
      by_kind z true = h z (with_blocks (blocks_touched s sector count) z.slots)
      by_kind z false = refl

  written_table : (y : ImageRow) → length (on_write y).slots ≡ length y.slots
  written_table y = when-key (λ (z : ImageRow). length z.slots) (written_image s sector count) (λ z. by_kind z (is_vhd z.name)) (is_image_of u y) y
    where
      by_kind : (z : ImageRow) (c : Bool) → length ((elim c as (λ _. ImageRow) [ true ↦ record z { slots = with_blocks (blocks_touched s sector count) z.slots } | false ↦ z ]).slots) ≡ length z.slots
      by_kind z true = length-with_blocks (blocks_touched s sector count) z.slots
      by_kind z false = refl

  written_name : (y : ImageRow) → (on_write y).name ≡ y.name
  written_name y = written_key (λ (z : ImageRow). z.name) (λ z xs. refl) y

  written_size : (y : ImageRow) → (on_write y).size ≡ y.size
  written_size y = written_key (λ (z : ImageRow). z.size) (λ z xs. refl) y

  written_extents : (y : ImageRow) → (on_write y).extents ≡ y.extents
  written_extents y = written_key (λ (z : ImageRow). z.extents) (λ z xs. refl) y

  written_parent : (y : ImageRow) → (on_write y).parent ≡ y.parent
  written_parent y = written_key (λ (z : ImageRow). z.parent) (λ z xs. refl) y

  written_hidden : (y : ImageRow) → (on_write y).hidden ≡ y.hidden
  written_hidden y = written_key (λ (z : ImageRow). z.hidden) (λ z xs. refl) y

  -- a slot is kept
  written_there : (y : ImageRow) (b : ℕ) → is_there (slot_at y.slots b) ≡ true → is_there (slot_at (on_write y).slots b) ≡ true
  written_there y b e = there_when b (is_image_of u y) (written_image s sector count) y (λ z f. by_kind z (is_vhd z.name) f) e
    where
      by_kind : (z : ImageRow) (d : Bool) → is_there (slot_at z.slots b) ≡ true → is_there (slot_at (elim d as (λ _. ImageRow) [ true ↦ record z { slots = with_blocks (blocks_touched s sector count) z.slots } | false ↦ z ]).slots b) ≡ true
      by_kind z true f = there_all b (blocks_touched s sector count) z.slots f
      by_kind z false f = f

  -- a block of the disk's own image that is written to gets one
  written_new : (y : ImageRow) (b : ℕ) → is_image_of u y ≡ true → is_vhd y.name ≡ true → b < length y.slots → In b (blocks_touched s sector count) → is_there (slot_at (on_write y).slots b) ≡ true
  written_new y b own vhd within i = by (is_image_of u y) own
    where
      by_kind : (d : Bool) → d ≡ true → is_there (slot_at (elim d as (λ _. ImageRow) [ true ↦ record y { slots = with_blocks (blocks_touched s sector count) y.slots } | false ↦ y ]).slots b) ≡ true
      by_kind true f = there_written b (blocks_touched s sector count) y.slots length-with_block within i
      by_kind false f = cc

      by : (c : Bool) → c ≡ true → is_there (slot_at (when c (written_image s sector count) y).slots b) ≡ true
      by true e = by_kind (is_vhd y.name) vhd
      by false e = cc

  own_true : (y : ImageRow) → y.hidden ≡ false → image_uuid y.name ≡ u → is_image_of u y ≡ true
  own_true y shown named = by y.hidden shown
    where
      by : (h : Bool) → h ≡ false → (not h && bytes_eq (image_uuid y.name) u) ≡ true
      by false e = subst (λ (v : List ℕ). bytes_eq v u ≡ true) (sym named) (bytes_eq-refl u)
      by true e = cc

  -- the operation, whose leaf may be written to
  abbrev written_after : Shape
  written_after = record s { images = map on_write s.images; attached = s.attached; op = written_op u (blocks_touched s sector count) s.op }

  written_operation : (o : Op) → IsOperation s o → IsOperation written_after (written_op u (blocks_touched s sector count) o)
  unfolding written_op
  written_operation (op.Live l p cursor dirty) h = by (bytes_eq (image_uuid l) u) refl
    where
      leaf : ImageRow
      leaf = h.only.link.child

      long : cursor ≤ length (on_write leaf).slots
      long = subst (λ (n : ℕ). cursor ≤ n) (sym (written_table leaf)) h.within

      old : (b : ℕ) → In b dirty → (b < cursor) × (is_there (slot_at (on_write leaf).slots b) ≡ true)
      old b i = let f = h.blocks b i in (f.0, written_there leaf b f.1)

      by : (c : Bool) → bytes_eq (image_uuid l) u ≡ c → IsLive written_after l p cursor (elim c as (λ _. List ℕ) [ true ↦ dirtied cursor (blocks_touched s sector count) dirty | false ↦ dirty ])
      by true e = live_mapped s w on_write written_name written_hidden written_parent s.attached (written_op u (blocks_touched s sector count) s.op) l p cursor dirty (dirtied cursor (blocks_touched s sector count) dirty) h refl (λ y k. written_size y)
          (λ q k n. subst (λ (m : ℕ). q.extents ≤ m) (sym (written_extents q)) (omega arith)) long
          (λ b i. elim (in_dirtied cursor b (blocks_touched s sector count) dirty i) [
            | inl was ↦ old b was
            | inr new ↦ (
              new.1,
              written_new leaf b (own_true leaf h.only.link.is_shown (ap image_uuid h.only.link.is_named ∙ bytes_eq-same (image_uuid l) u e))
                  (ap is_vhd h.only.link.is_named ∙ h.only.link.vhd) (let r = h.within in let z = new.1 in omega arith) new.0,
            )
          ])
      by false e = live_mapped s w on_write written_name written_hidden written_parent s.attached (written_op u (blocks_touched s sector count) s.op) l p cursor dirty dirty h refl (λ y k. written_size y)
          (λ q k n. subst (λ (m : ℕ). q.extents ≤ m) (sym (written_extents q)) (omega arith)) long old
  written_operation op.Idle h = tt
  written_operation (op.Copy v p cursor) h = same (op.Copy v p cursor) h
    where
      same : (o : Op) → IsOperation s o → IsOperation written_after o
      same o h = operation_mapped s w on_write written_name written_hidden written_parent s.attached (written_op u (blocks_touched s sector count) s.op) refl (λ y k. written_size y)
          (λ q k n. subst (λ (m : ℕ). q.extents ≤ m) (sym (written_extents q)) (omega arith)) written_table written_there o h
  written_operation (op.Relink v p) h = operation_mapped s w on_write written_name written_hidden written_parent s.attached (written_op u (blocks_touched s sector count) s.op) refl (λ y k. written_size y)
      (λ q k n. subst (λ (m : ℕ). q.extents ≤ m) (sym (written_extents q)) (omega arith)) written_table written_there (op.Relink v p) h
  written_operation (op.Leaf l p cursor) h = operation_mapped s w on_write written_name written_hidden written_parent s.attached (written_op u (blocks_touched s sector count) s.op) refl (λ y k. written_size y)
      (λ q k n. subst (λ (m : ℕ). q.extents ≤ m) (sym (written_extents q)) (omega arith)) written_table written_there (op.Leaf l p cursor) h

  pub write_keeps : IsWellFormed (write_shape s u sector count)
  write_keeps = keeps_mapped s w on_write written_name (λ y. written_key (λ (z : ImageRow). z.hidden) (λ z xs. refl) y) written_parent s.attached (written_op u (blocks_touched s sector count) s.op)
      (subst (λ (n : ℕ). s.others + n ≤ s.extents) (sym (extents-map_same on_write written_extents s.images)) w.room)
      (λ y h. image_like s y (on_write y) (written_name y) (written_size y) (written_extents y) (written_parent y) (written_table y) (w.images y h))
      (λ y q h k hid e l. subst (λ (n : ℕ). n ≤ (on_write y).size) (sym (written_size q)) (subst (λ (n : ℕ). q.size ≤ n) (sym (written_size y)) l))
      (attachments_mapped s w on_write written_name (λ y. written_key (λ (z : ImageRow). z.hidden) (λ z xs. refl) y) written_parent s.attached (written_op u (blocks_touched s sector count) s.op) refl
      (λ a y h m k hid e v l. subst (λ (n : ℕ). thick_in s n ≤ (on_write y).extents) (sym (written_size y)) (subst (λ (n : ℕ). thick_in s y.size ≤ n) (sym (written_extents y)) l)))
      (written_operation s.op w.operation)

-- ---- labels and attachments

record_key : {B : Type 0} (k : DiskRecord → B) (f : DiskRecord → DiskRecord) (t : DiskRecord → Bool) → ((y : DiskRecord) → k (f y) ≡ k y) → (xs : List DiskRecord) → map k (change t f xs) ≡ map k xs
record_key k f t h [] = refl
record_key k f t h (x ∷ xs) = let a : k (when (t x) f x) ≡ k x = when-key k f h (t x) x in let b : map k (change t f xs) ≡ map k xs = record_key k f t h xs in cc

module _ (s : Shape) (w : IsWellFormed s) where
  -- an operation stays where the images do and the attachments do not get more disks
  pub link_same : (records : List DiskRecord) (attached : List Attachment) (kept : Op) (hidden : Bool) (v p : Name) → IsChild s hidden v p → IsChild (record s { records = records; attached = attached; op = kept }) hidden v p
  link_same records attached kept hidden v p h = record { child = h.child; there = h.there; is_named = h.is_named; is_shown = h.is_shown; vhd = h.vhd; linked = h.linked }

  pub only_same : (records : List DiskRecord) (attached : List Attachment) (kept : Op) (hidden : Bool) (v p : Name) → IsOnlyChild s hidden v p → IsOnlyChild (record s { records = records; attached = attached; op = kept }) hidden v p
  unfolding link_same
  only_same records attached kept hidden v p h = record { link = link_same records attached kept hidden v p h.link; only = h.only; same_size = h.same_size }

  pub live_same : (records : List DiskRecord) (attached : List Attachment) (kept : Op) (l p : Name) (cursor : ℕ) (dirty : List ℕ) → mode_in (image_uuid l) attached ≡ attached_as (image_uuid l) s → IsLive s l p cursor dirty
      → IsLive (record s { records = records; attached = attached; op = kept }) l p cursor dirty
  unfolding link_same only_same
  live_same records attached kept l p cursor dirty mode h = record {
    only = only_same records attached kept false l p h.only;
    parent_vhd = h.parent_vhd;
    attached = ap is_some mode ∙ h.attached;
    thick = λ rw. h.thick (sym (ap is_rw mode) ∙ rw);
    within = h.within;
    blocks = h.blocks;
  }

  pub operation_same : (records : List DiskRecord) (attached : List Attachment) (kept : Op) → ((u : List ℕ) → attached_as u s ≡ None → mode_in u attached ≡ None) → (o : Op) → ((l p : Name) (cursor : ℕ) (dirty : List ℕ) → o ≡ op.Live l p cursor dirty → mode_in (image_uuid l) attached ≡ attached_as (image_uuid l) s) → IsOperation s o → IsOperation (record s { records = records; attached = attached; op = kept }) o
  operation_same records attached kept none op.Idle modes h = tt
  operation_same records attached kept none (op.Copy v p cursor) modes h = only_same records attached kept true v p h
  operation_same records attached kept none (op.Relink v p) modes h = link_same records attached kept true v p h
  operation_same records attached kept none (op.Leaf l p cursor) modes h = (only_same records attached kept false l p h.0, h.1, none (image_uuid l) h.2)
  operation_same records attached kept none (op.Live l p cursor dirty) modes h = live_same records attached kept l p cursor dirty (modes l p cursor dirty refl) h

-- ---- finding nothing

pub none-found : {A : Type 0} (t : A → Bool) (xs : List A) → ((x : A) → In x xs → t x ≡ false) → find t xs ≡ None
none-found t [] h = refl
none-found t (x ∷ xs) h = by_test (t x) (h x (inl refl)) (none-found t xs (λ y k. h y (inr k)))
  where
    by_test : (b : Bool) → b ≡ false → find t xs ≡ None → cond b (Some x) (find t xs) ≡ None
    by_test true e r = cc
    by_test false e r = r

find_of_mode : (o : Option Attachment) → (o >>= (λ a. Some a.mode)) ≡ None → o ≡ None
find_of_mode None e = refl
find_of_mode (Some a) e = cc

-- a disk that is not attached has no attachment
pub mode_none : (u : List ℕ) (attached : List Attachment) → mode_in u attached ≡ None → (a : Attachment) → In a attached → a.disk ≡ u → ⊥
mode_none u attached e a h q =
    let f : find (λ (b : Attachment). bytes_eq b.disk u) attached ≡ None = find_of_mode (find (λ (b : Attachment). bytes_eq b.disk u) attached) e in
    let n : bytes_eq a.disk u ≡ false = find-none (λ (b : Attachment). bytes_eq b.disk u) attached a f h in
    let t : bytes_eq a.disk u ≡ true = subst (λ (v : List ℕ). bytes_eq v u ≡ true) (sym q) (bytes_eq-refl u) in
    cc

pub none_mode : (u : List ℕ) (attached : List Attachment) → ((a : Attachment) → In a attached → a.disk ≡ u → ⊥) → mode_in u attached ≡ None
none_mode u attached h = ap (λ (o : Option Attachment). o >>= (λ a. Some a.mode))
    (none-found (λ (b : Attachment). bytes_eq b.disk u) attached (λ a k. false_from_ne_true (bytes_eq a.disk u) (λ e. h a k (bytes_eq-same a.disk u e))))

module _ (s : Shape) (w : IsWellFormed s) (u : List ℕ) where
  -- ---- a label

  abbrev on_label : List ℕ → DiskRecord → DiskRecord
  on_label text y = when (is_record u y) (λ (r : DiskRecord). record r { label = text }) y

  label_uuid : (text : List ℕ) (y : DiskRecord) → (on_label text y).uuid ≡ y.uuid
  label_uuid text y = when-key (λ (r : DiskRecord). r.uuid) (λ (r : DiskRecord). record r { label = text }) (λ r. refl) (is_record u y) y

  label_access : (text : List ℕ) (y : DiskRecord) → (on_label text y).read_only ≡ y.read_only
  label_access text y = when-key (λ (r : DiskRecord). r.read_only) (λ (r : DiskRecord). record r { label = text }) (λ r. refl) (is_record u y) y

  labelled : (text v : List ℕ) → HasRecord s v → HasRecord (label_shape s u text) v
  labelled text v h = (on_label text h.0, In-map_at (on_label text) s.records h.0 h.1, label_uuid text h.0 ∙ h.2)

  pub label_keeps : (text : List ℕ) → IsWellFormed (label_shape s u text)
  label_keeps text =
      let records' : List DiskRecord = map (on_label text) s.records in
      let keys : map (λ (r : DiskRecord). r.uuid) records' ≡ map (λ (r : DiskRecord). r.uuid) s.records = record_key (λ (r : DiskRecord). r.uuid) (λ (r : DiskRecord). record r { label = text }) (is_record u) (λ r. refl) s.records in
      keeps_images s w records' s.attached s.op
      (subst (Sorted uuid_le) (sym keys) w.records_in_order)
      (subst Distinct (sym keys) w.one_record)
      (λ r h. (let q : (y : DiskRecord) × In y s.records × (r ≡ on_label text y) = In-map (on_label text) s.records r h in
      let f : HasImage s q.0.uuid = w.disks q.0 q.1 in (f.0, f.1, f.2, f.3 ∙ sym (ap (λ (x : DiskRecord). x.uuid) q.2 ∙ label_uuid text q.0))))
      (λ i h e. labelled text (image_uuid i.name) (w.visible i h e))
      (record {
        once = w.attachments.once;
        disks = λ a h. labelled text a.disk (w.attachments.disks a h);
        writable = λ a r h m k e. (let q : (y : DiskRecord) × In y s.records × (r ≡ on_label text y) = In-map (on_label text) s.records r k in
            ap (λ (x : DiskRecord). x.read_only) q.2 ∙ (label_access text q.0 ∙ w.attachments.writable a q.0 h m q.1 (sym (ap (λ (x : DiskRecord). x.uuid) q.2 ∙ label_uuid text q.0) ∙ e)));
        thick = w.attachments.thick;
      })
      (operation_same s w records' s.attached s.op (λ v e. e) s.op (λ l p cursor dirty e. refl) w.operation)

  -- ---- a detached disk

  rest_mode : (v : List ℕ) → (v ≡ u → ⊥) → (xs : List Attachment) → mode_in v (filter (λ (a : Attachment). not (is_attached u a)) xs) ≡ mode_in v xs
  rest_mode v other [] = refl
  rest_mode v other (x ∷ xs) = by (is_attached u x) refl (bytes_eq x.disk v) refl (rest_mode v other xs)
    where
      rest : List Attachment
      rest = filter (λ (a : Attachment). not (is_attached u a)) xs

      mode_of : Option Attachment → Option Mode
      mode_of o = o >>= (λ a. Some a.mode)

      by : (c : Bool) → is_attached u x ≡ c → (d : Bool) → bytes_eq x.disk v ≡ d → mode_in v rest ≡ mode_in v xs → mode_in v (cond (not c) (x ∷ rest) rest) ≡ mode_in v (x ∷ xs)
      by true e true f same = absurd (other (sym (bytes_eq-same x.disk v f) ∙ bytes_eq-same x.disk u e))
      by true e false f same = same ∙ sym (ap (λ c. cond c (Some x) (find (λ (a : Attachment). bytes_eq a.disk v) xs) >>= (λ a. Some a.mode)) f)
      by false e true f same = ap (λ c. cond c (Some x) (find (λ (a : Attachment). bytes_eq a.disk v) rest) >>= (λ a. Some a.mode)) f
          ∙ sym (ap (λ c. cond c (Some x) (find (λ (a : Attachment). bytes_eq a.disk v) xs) >>= (λ a. Some a.mode)) f)
      by false e false f same = ap (λ c. cond c (Some x) (find (λ (a : Attachment). bytes_eq a.disk v) rest) >>= (λ a. Some a.mode)) f ∙ same
          ∙ sym (ap (λ c. cond c (Some x) (find (λ (a : Attachment). bytes_eq a.disk v) xs) >>= (λ a. Some a.mode)) f)

  abbrev pub detached : Op → Shape
  detached o = record (detach_shape s u) { op = o }

  -- the operation, where it does not fold the disk's own leaf
  pub detach_operation : (o : Op) → folds o u ≡ false → IsOperation s o → IsOperation (detached o) o
  unfolding folds
  detach_operation o e h =
      let t : Attachment → Bool = λ (a : Attachment). not (is_attached u a) in
      let rest : List Attachment = filter t s.attached in
      operation_same s w s.records rest o (λ v f. none_mode v rest (λ a i q. mode_none v s.attached f a (In-filter t s.attached a i).0 q)) o
      (λ l p cursor dirty is. rest_mode (image_uuid l) (λ same. (let f : folds (op.Live l p cursor dirty) u ≡ false = sym (ap (λ z. folds z u) is) ∙ e in
      let y : bytes_eq (image_uuid l) u ≡ true = subst (λ (v : List ℕ). bytes_eq v u ≡ true) (sym same) (bytes_eq-refl u) in cc)) s.attached) h

  pub detach_keeps : (o : Op) → IsOperation (detached o) o → IsWellFormed (detached o)
  detach_keeps o operation =
      let t : Attachment → Bool = λ (a : Attachment). not (is_attached u a) in
      let rest : List Attachment = filter t s.attached in
      keeps_images s w s.records rest o w.records_in_order w.one_record w.disks w.visible
      (record {
        once = Distinct-filter (λ (a : Attachment). a.disk) t s.attached w.attachments.once;
        disks = λ a h. w.attachments.disks a (In-filter t s.attached a h).0;
        writable = λ a r h m k e. w.attachments.writable a r (In-filter t s.attached a h).0 m k e;
        thick = λ a i h m k hid e v. w.attachments.thick a i (In-filter t s.attached a h).0 m k hid e v;
      })
      operation
