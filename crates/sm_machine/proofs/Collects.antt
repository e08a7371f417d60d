-- Steps of the collector that cut, copy and begin keep a shape well-formed.
use Rattle.std.proofs.Common.{◌≡◌, ℕ, ◌+◌, ◌<◌, ◌≤◌, Bool, true, false, not, ◌&&◌, List, map, length, Option, Some, refl, sym, ap, ◌∙◌, subst, arith}
use Rattle.std.specs.Prelude.{nat_lt}
use Rattle.std.specs.Str.{bytes_eq}
use Rattle.std.proofs.lemmas.Bool.{and_parts, ltb-true}
use Rattle.common_laws.proofs.Bytes.{bytes_eq-same, bytes_eq-refl}
use Rattle.common_laws.proofs.Booleans.{not_true}
use Rattle.sm_base.specs.declared.names.Name.{Name}
use Rattle.sm_base.specs.declared.operations.Mode.TheVariants.{Rw}
use Rattle.sm_machine.specs.Operations.{Op}
use Rattle.sm_machine.specs.Operations as op
use Rattle.common_laws.specs.Lists.{◌>>=◌, In, when}
use Rattle.sm_machine.specs.Shapes.{Shape, ImageRow, Attachment, is_image, image_uuid, is_vhd, on_image, attached_as, is_rw, top, image_extents, thin_in, thick_in}
use Rattle.sm_machine.specs.Collector.{is_loose, is_written, given_block, with_block}
use Rattle.sm_machine.specs.WellFormed.{IsWellFormed, IsImageRow, IsOnlyChild, IsOperation}
use Rattle.common_laws.proofs.Lists.{Distinct-key, find-only}
use Rattle.sm_machine.proofs.Changes.{when-key}
use Rattle.sm_machine.proofs.ImageNames.{same_image-sound}
use Rattle.sm_machine.proofs.Numbers.{thin-positive}
use Rattle.sm_machine.proofs.Mapped.{keeps_images, keeps_mapped, image_like, extents-map_same, attachments_mapped, only_mapped}
use Rattle.sm_machine.proofs.Guests.{length-block}
use Rattle.sm_machine.proofs.Debts.{extents_le}

-- the mode of an attached disk
pub attached_mode : (s : Shape) → IsWellFormed s → (a : Attachment) (u : List ℕ) → In a s.attached → a.disk ≡ u → attached_as u s ≡ Some a.mode
attached_mode s w a u h e = ap (λ (o : Option Attachment). o >>= (λ b. Some b.mode))
    (find-only (λ (b : Attachment). bytes_eq b.disk u) s.attached a h (subst (λ (v : List ℕ). bytes_eq v u ≡ true) (sym e) (bytes_eq-refl u))
    (λ b k q. Distinct-key (λ (c : Attachment). c.disk) s.attached b a w.attachments.once k h (bytes_eq-same b.disk u q ∙ sym e)))

-- ---- the operation alone changes

pub operation_changes : (s : Shape) → IsWellFormed s → (o : Op) → IsOperation (record s { op = o }) o → IsWellFormed (record s { op = o })
operation_changes s w o h = keeps_images s w s.records s.attached o w.records_in_order w.one_record w.disks w.visible
    (record { once = w.attachments.once; disks = w.attachments.disks; writable = w.attachments.writable; thick = w.attachments.thick }) h

-- ---- a volume is cut

pub same_row : (s : Shape) → IsWellFormed s → (i y : ImageRow) → In i s.images → In y s.images → is_image i.name y ≡ true → y ≡ i
same_row s w i y h k e = Distinct-key (λ (x : ImageRow). image_uuid x.name) s.images y i w.one_image k h (ap image_uuid (same_image-sound y.name i.name e))

module _ (s : Shape) (w : IsWellFormed s) (i : ImageRow) (there : In i s.images) (loose : is_loose s i ≡ true) where
  abbrev least : ℕ
  least = thin_in s (top i.slots)

  abbrev to_least : ImageRow → ImageRow
  to_least j = record j { extents = least }

  abbrev on_cut : ImageRow → ImageRow
  on_cut y = when (is_image i.name y) to_least y

  cut_key : {B : Type 0} (k : ImageRow → B) → ((y : ImageRow) → k (to_least y) ≡ k y) → (y : ImageRow) → k (on_cut y) ≡ k y
  cut_key k h y = when-key k to_least h (is_image i.name y) y

  parts : (is_vhd i.name && not (is_written s i) ≡ true) × (nat_lt least i.extents ≡ true)
  parts = and_parts (is_vhd i.name && not (is_written s i)) (nat_lt least i.extents) loose

  is_vhd_image : is_vhd i.name ≡ true
  is_vhd_image = (and_parts (is_vhd i.name) (not (is_written s i)) parts.0).0

  not_written : is_written s i ≡ false
  not_written = not_true (is_written s i) (and_parts (is_vhd i.name) (not (is_written s i)) parts.0).1

  good_by : (y : ImageRow) (c : Bool) → is_image i.name y ≡ c → In y s.images → IsImageRow s (when c to_least y)
  good_by y true e h =
      let g : IsImageRow s y = w.images y h in
      let v : is_vhd y.name ≡ true = ap is_vhd (same_image-sound y.name i.name e) ∙ is_vhd_image in
      let x : 32 ≤ s.extent = w.geometry.extent_least in
      record { named = g.named; whole = g.whole; volume = thin-positive s.extent s.block s.entries (top i.slots) (omega arith); table = g.table; raw = λ r. cc }
  good_by y false e h = w.images y h

  thick_by : (a : Attachment) (y : ImageRow) (c : Bool) → is_image i.name y ≡ c → In a s.attached → a.mode ≡ Rw → In y s.images → y.hidden ≡ false → image_uuid y.name ≡ a.disk → thick_in s y.size ≤ y.extents → thick_in s (when c to_least y).size ≤ (when c to_least y).extents
  thick_by a y true e h m k hid u l =
      let same : y ≡ i = same_row s w i y there k e in
      let hid' : i.hidden ≡ false = sym (ap (λ (x : ImageRow). x.hidden) same) ∙ hid in
      let disk : a.disk ≡ image_uuid i.name = sym u ∙ ap (λ (x : ImageRow). image_uuid x.name) same in
      let mode : attached_as (image_uuid i.name) s ≡ Some a.mode = attached_mode s w a (image_uuid i.name) h disk in
      let t : is_rw (attached_as (image_uuid i.name) s) ≡ true = ap is_rw (mode ∙ ap Some m) in
      let written : not i.hidden && is_rw (attached_as (image_uuid i.name) s) ≡ true = both (not i.hidden) (is_rw (attached_as (image_uuid i.name) s)) (ap not hid') t in
      let f : is_written s i ≡ false = not_written in
      cc
    where
      both : (b c : Bool) → b ≡ true → c ≡ true → b && c ≡ true
      both true c p q = q
      both false c p q = cc
  thick_by a y false e h m k hid u l = l

  names : (y : ImageRow) → (on_cut y).name ≡ y.name
  names = cut_key (λ (x : ImageRow). x.name) (λ y. refl)

  marks : (y : ImageRow) → (on_cut y).hidden ≡ y.hidden
  marks = cut_key (λ (x : ImageRow). x.hidden) (λ y. refl)

  links : (y : ImageRow) → (on_cut y).parent ≡ y.parent
  links = cut_key (λ (x : ImageRow). x.parent) (λ y. refl)

  sizes : (y : ImageRow) → (on_cut y).size ≡ y.size
  sizes = cut_key (λ (x : ImageRow). x.size) (λ y. refl)

  pub cut_keeps : IsWellFormed (record s { images = on_image i.name to_least s.images; op = op.Idle })
  cut_keeps = keeps_mapped s w on_cut names marks links s.attached op.Idle
      (let less : least < i.extents = ltb-true least i.extents parts.1 in
      let e : image_extents (on_image i.name to_least s.images) ≤ image_extents s.images = extents_le (is_image i.name) to_least s.images
      (λ y k q. subst (λ (x : ImageRow). least ≤ x.extents) (sym (same_row s w i y there k q)) (omega arith)) in
      let r : s.others + image_extents s.images ≤ s.extents = w.room in omega arith)
      (λ y h. good_by y (is_image i.name y) refl h)
      (λ y q h k hid e l. subst (λ (n : ℕ). n ≤ (on_cut y).size) (sym (sizes q)) (subst (λ (n : ℕ). q.size ≤ n) (sym (sizes y)) l))
      (attachments_mapped s w on_cut names marks links s.attached op.Idle refl (λ a y h m k hid u v l. thick_by a y (is_image i.name y) refl h m k hid u l))
      tt

-- ---- a block is copied

module _ (s : Shape) (w : IsWellFormed s) (p : Name) (b : ℕ) where
  abbrev pub on_copy : ImageRow → ImageRow
  on_copy y = when (is_image p y) (given_block b) y

  pub block_key : {B : Type 0} (k : ImageRow → B) → ((y : ImageRow) (slots : List (Option ℕ)) → k (record y { slots = slots }) ≡ k y) → (y : ImageRow) → k (on_copy y) ≡ k y
  block_key k h y = when-key k (given_block b) (λ z. by_kind z (is_vhd z.name)) (is_image p y) y
    where
      by_kind : (z : ImageRow) (c : Bool) → k (elim c as (λ _. ImageRow) [ true ↦ record z { slots = with_block b z.slots } | false ↦ z ]) ≡ k z
      by_kind z true = h z (with_block b z.slots)
      by_kind z false = refl

  pub block_table : (y : ImageRow) → length (on_copy y).slots ≡ length y.slots
  block_table y = when-key (λ (z : ImageRow). length z.slots) (given_block b) (λ z. by_kind z (is_vhd z.name)) (is_image p y) y
    where
      by_kind : (z : ImageRow) (c : Bool) → length ((elim c as (λ _. ImageRow) [ true ↦ record z { slots = with_block b z.slots } | false ↦ z ]).slots) ≡ length z.slots
      by_kind z true = length-block b z.slots
      by_kind z false = refl

  pub copy_names : (y : ImageRow) → (on_copy y).name ≡ y.name
  copy_names = block_key (λ (x : ImageRow). x.name) (λ y xs. refl)

  pub copy_marks : (y : ImageRow) → (on_copy y).hidden ≡ y.hidden
  copy_marks = block_key (λ (x : ImageRow). x.hidden) (λ y xs. refl)

  pub copy_links : (y : ImageRow) → (on_copy y).parent ≡ y.parent
  copy_links = block_key (λ (x : ImageRow). x.parent) (λ y xs. refl)

  pub copy_sizes : (y : ImageRow) → (on_copy y).size ≡ y.size
  copy_sizes = block_key (λ (x : ImageRow). x.size) (λ y xs. refl)

  pub copy_extents : (y : ImageRow) → (on_copy y).extents ≡ y.extents
  copy_extents = block_key (λ (x : ImageRow). x.extents) (λ y xs. refl)

  abbrev pub copied_shape : Op → Shape
  copied_shape o = record s { images = map on_copy s.images; attached = s.attached; op = o }

  pub copy_keeps : (o : Op) → IsOperation (copied_shape o) o → IsWellFormed (copied_shape o)
  copy_keeps o operation = keeps_mapped s w on_copy copy_names copy_marks copy_links s.attached o
      (subst (λ (n : ℕ). s.others + n ≤ s.extents) (sym (extents-map_same on_copy copy_extents s.images)) w.room)
      (λ y h. image_like s y (on_copy y) (copy_names y) (copy_sizes y) (copy_extents y) (copy_links y) (block_table y) (w.images y h))
      (λ y q h k hid e l. subst (λ (n : ℕ). n ≤ (on_copy y).size) (sym (copy_sizes q)) (subst (λ (n : ℕ). q.size ≤ n) (sym (copy_sizes y)) l))
      (attachments_mapped s w on_copy copy_names copy_marks copy_links s.attached o refl
      (λ a y h m k hid u v l. subst (λ (n : ℕ). thick_in s n ≤ (on_copy y).extents) (sym (copy_sizes y)) (subst (λ (n : ℕ). thick_in s y.size ≤ n) (sym (copy_extents y)) l)))
      operation

  pub copy_only : (o : Op) (hidden : Bool) (v : Name) → IsOnlyChild s hidden v p → IsOnlyChild (copied_shape o) hidden v p
  copy_only o hidden v h = only_mapped s w on_copy copy_names copy_marks copy_links s.attached o hidden v p h (copy_sizes h.link.child) (λ q k m. copy_sizes q)
