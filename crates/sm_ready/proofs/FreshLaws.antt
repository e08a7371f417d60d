-- A new volume beside the images: memory stays orderly under the table that has it, and no disk changes.
use Rattle.std.proofs.Common.{◌≡◌, ◌≢◌, ◌⊎◌, inl, inr, ⊎_elim, ℕ, ◌^◌, ◌<◌, ◌≤◌, ◌&&◌, not, Bool, true, false, cond, List, [], ◌∷◌, length, refl, sym, ap, ◌∙◌, arith}
use Rattle.std.proofs.Math.Logic.{∥∥₁_map}
use Rattle.std.proofs.lemmas.Bool.{true≢false}
use Rattle.std.specs.List.{filter}
use Rattle.std.specs.Ordering.{is_lt}
use Rattle.sm_base.specs.Names.{name_cmp}
use Rattle.sm_base.specs.declared.names.Name.{Name}
use Rattle.sm_base.specs.declared.names.Name.TheVariants.{Mgt, Vhd, Raw, Old, Cbt, Clone, Inflate, Coalesce, Relink, Leaf}
use Rattle.sm_machine.specs.Operations.{Op}
use Rattle.vg_meta.specs.Tables.{VolumeTable, Row, rows, names_of, extents_of, name_eq}
use Rattle.sm_base.specs.Kinds.{is_image, is_entry}
use Rattle.vg_meta.specs.Changes.{Permits, applied, raised, put, made}
use Rattle.vg_meta.specs.declared.changes.Change.TheVariants.{Create}
use Rattle.vg_meta.proofs.ByName.{changes_by_name, mgt_stays}
use Rattle.vg_meta.proofs.ChangeLaws.{IsTable-applied}
use Rattle.vg_meta.proofs.NameLaws.{name_eq-true, name_eq-false}
use Rattle.vg_volumes.specs.Sites.{Site}
use Rattle.common_laws.specs.Lists.{In}
use Rattle.sm_machine.specs.Shapes.{Shape, image_limit, refs, last_sequence}
use Rattle.sm_machine.specs.WellFormed.{IsWellFormed, IsOperation, is_image_name, table_length}
use Rattle.sm_standing.specs.Checks.{images, is_misnamed}
use Rattle.sm_standing.specs.Entries.{is_visible, of_row}
use Rattle.sm_ready.specs.Known.{Known, shape_in, row_face, tree_face}
use Rattle.sm_ready.proofs.LogRows.{name_apart}
use Rattle.vhd_chain.specs.Trees.{tree_row}
use Rattle.sm_ready.specs.Orderly.{IsOrderly, IsRoomyIn}
use Rattle.sm_ready.proofs.Orders.{unrowed}
use Rattle.sm_machine.specs.Operations as op

pub In-put : (x r : Row) (rs : List Row) → In r (put x rs) → (r ≡ x) ⊎ In r rs
unfolding put
In-put x r [] (inl is) = inl is
In-put x r [] (inr i) = absurd i
In-put x r (y ∷ rs) i = by (is_lt (name_cmp x.name y.name)) (λ j. In-put x r rs j) i
  where
    by : (b : Bool) → (In r (put x rs) → (r ≡ x) ⊎ In r rs) → In r (cond b (x ∷ y ∷ rs) (y ∷ put x rs)) → (r ≡ x) ⊎ In r (y ∷ rs)
    by true rest (inl is) = inl is
    by true rest (inr j) = inr j
    by false rest (inl is) = inr (inl is)
    by false rest (inr j) = ⊎_elim (λ is. inl is) (λ k. inr (inr k)) (rest j)

names_put : (x : Row) (rs : List Row) → is_entry x.name ≡ false → filter is_entry (names_of (put x rs)) ≡ filter is_entry (names_of rs)
unfolding put
names_put x [] none = ap (λ b. cond b (x.name ∷ []) []) none
names_put x (y ∷ rs) none = by (is_lt (name_cmp x.name y.name)) (names_put x rs none)
  where
    by : (b : Bool) → filter is_entry (names_of (put x rs)) ≡ filter is_entry (names_of rs) → filter is_entry (names_of (cond b (x ∷ y ∷ rs) (y ∷ put x rs))) ≡ filter is_entry (names_of (y ∷ rs))
    by true rest = ap (λ b. cond b (x.name ∷ filter is_entry (names_of (y ∷ rs))) (filter is_entry (names_of (y ∷ rs)))) none
    by false rest = ap (λ ns. cond (is_entry y.name) (y.name ∷ ns) ns) rest

operation_raised : (σ : Shape) (k : ℕ) (x : Op) → IsOperation σ x → IsOperation (record σ { sequence = k }) x
operation_raised σ k op.Idle h = tt
operation_raised σ k (op.Copy v p c) h = record { link = record { child = h.link.child; there = h.link.there; is_named = h.link.is_named; is_shown = h.link.is_shown; vhd = h.link.vhd; linked = h.link.linked }; only = h.only; same_size = h.same_size }
operation_raised σ k (op.Relink v p) h = record { child = h.child; there = h.there; is_named = h.is_named; is_shown = h.is_shown; vhd = h.vhd; linked = h.linked }
operation_raised σ k (op.Leaf l p c) h = (record { link = record { child = h.0.link.child; there = h.0.link.there; is_named = h.0.link.is_named; is_shown = h.0.link.is_shown; vhd = h.0.link.vhd; linked = h.0.link.linked }; only = h.0.only; same_size = h.0.same_size }, h.1, h.2)
operation_raised σ k (op.Live l p c dirty) h = record {
  only = record {
    link = record { child = h.only.link.child; there = h.only.link.there; is_named = h.only.link.is_named; is_shown = h.only.link.is_shown; vhd = h.only.link.vhd; linked = h.only.link.linked };
    only = h.only.only;
    same_size = h.only.same_size;
  };
  parent_vhd = h.parent_vhd;
  attached = h.attached;
  thick = h.thick;
  within = h.within;
  blocks = h.blocks;
}

table_same : (σ : Shape) (k : ℕ) (n : Name) → table_length σ n ≡ table_length (record σ { sequence = k }) n
unfolding table_length
table_same σ k (Vhd u) = refl
table_same σ k (Raw u) = refl
table_same σ k Mgt = refl
table_same σ k (Old u) = refl
table_same σ k (Cbt u) = refl
table_same σ k (Clone d b w) = refl
table_same σ k (Inflate u x) = refl
table_same σ k (Coalesce c p) = refl
table_same σ k (Relink c p) = refl
table_same σ k (Leaf l p) = refl

-- a greater sequence number keeps a shape well-formed
pub raised_well : (σ : Shape) (k : ℕ) → σ.sequence ≤ k → k ≤ last_sequence → IsWellFormed σ → IsWellFormed (record σ { sequence = k })
raised_well σ k more most w = record {
  geometry = w.geometry;
  blocks = w.blocks;
  sequence = most;
  room = w.room;
  few = w.few;
  images_in_order = w.images_in_order;
  one_image = w.one_image;
  images = λ i h. let x = w.images i h in record { named = x.named; whole = x.whole; volume = x.volume; table = x.table ∙ table_same σ k i.name; raw = x.raw };
  parents = w.parents;
  chains = w.chains;
  bases = λ i n h small is. omega (arith, w.bases i n h small is, more);
  records_in_order = w.records_in_order;
  one_record = w.one_record;
  disks = w.disks;
  visible = w.visible;
  attachments = record { once = w.attachments.once; disks = w.attachments.disks; writable = w.attachments.writable; thick = w.attachments.thick };
  operation = operation_raised σ k σ.op w.operation;
}

pub roomy_raised : (σ : Shape) (k : ℕ) (x : Op) → IsRoomyIn σ x → IsRoomyIn (record σ { sequence = k }) x
roomy_raised σ k op.Idle h = tt
roomy_raised σ k (op.Copy v p c) h = h
roomy_raised σ k (op.Relink v p) h = tt
roomy_raised σ k (op.Leaf l p c) h = h
roomy_raised σ k (op.Live l p c dirty) h = h

pub refs_raised : (σ : Shape) (k : ℕ) (n : Name) → refs n (record σ { sequence = k }) ≡ refs n σ
unfolding refs
refs_raised σ k n = refl

shape_raised : (s : Site) (t : VolumeTable) (m : Known) (x : Row) → shape_in s (record { sequence = raised t.sequence; volumes = put x t.volumes }) m ≡ record (shape_in s t m) { sequence = raised t.sequence }
unfolding shape_in
shape_raised s t m x = refl

raised_more : (k : ℕ) → k < 2 ^ 48 → k ≤ raised k
raised_more k h = omega (arith, h)

name_or_not : (n x : Name) → (n ≡ x) ⊎ (n ≢ x)
name_or_not n x = by (name_eq n x) refl
  where
    by : (b : Bool) → name_eq n x ≡ b → (n ≡ x) ⊎ (n ≢ x)
    by true e = inl (name_eq-true n x e)
    by false e = inr (name_eq-false n x e)

image_no_journal : (n : Name) → is_image_name n ≡ true → (is_entry n ≡ false) × (is_image n ≡ true)
unfolding is_image_name
image_no_journal (Vhd u) e = (refl, refl)
image_no_journal (Raw u) e = (refl, refl)
image_no_journal Mgt e = absurd (true≢false (sym e))
image_no_journal (Old u) e = (refl, refl)
image_no_journal (Cbt u) e = absurd (true≢false (sym e))
image_no_journal (Clone d b w) e = absurd (true≢false (sym e))
image_no_journal (Inflate u k) e = absurd (true≢false (sym e))
image_no_journal (Coalesce c p) e = absurd (true≢false (sym e))
image_no_journal (Relink c p) e = absurd (true≢false (sym e))
image_no_journal (Leaf l p) e = absurd (true≢false (sym e))

-- the table with a new volume, from one that has none
pub orderly_new : (s : Site) (t : VolumeTable) (m : Known) (x : Name) (es : List ℕ) → IsOrderly s t m → ((r : Row) → In r t.volumes → r.fresh ≡ false) → Permits s.count t (Create x true es) → is_image_name x ≡ true
    → length (images (applied t (Create x true es))) ≤ image_limit → is_misnamed (applied t (Create x true es)) (made x true es) ≡ false → IsOrderly s (applied t (Create x true es)) m
unfolding shape_in
orderly_new s t m x es o none_new allows image few right =
    let by_name = changes_by_name s.count t (Create x true es) o.table allows in
    let kind = image_no_journal x image in
    record {
      table = IsTable-applied s.count t (Create x true es) o.table allows;
      few_extents = o.few_extents;
      record_volume = ap (λ v. length (extents_of v)) (mgt_stays s.count t (Create x true es) o.table allows) ∙ o.record_volume;
      few = few;
      new_named = λ r i new. ⊎_elim
          (λ is. (ap (is_misnamed (applied t (Create x true es))) is ∙ right, ap (λ (y : Row). is_image_name y.name) is ∙ image))
          (λ j. absurd (true≢false (sym new ∙ none_new r j))) (In-put (made x true es) r t.volumes i);
      images = λ n e. ⊎_elim
          (λ same. ap row_face (ap (rows (applied t (Create x true es))) same ∙ by_name.does.1) ∙ sym (ap tree_face (ap (tree_row m.rows) same ∙ unrowed s t m x o kind.1 by_name.does.0)))
          (λ other. ap row_face (by_name.others n other) ∙ o.images n e) (name_or_not n x);
      logs = λ u. ap row_face (by_name.others (Cbt u) (name_apart x image u)) ∙ o.logs u;
      few_logs = o.few_logs;
      logs_in_order = o.logs_in_order;
      log_room = o.log_room;
      entries = names_put (made x true es) t.volumes kind.0 ∙ o.entries;
      places = o.places;
      stands = o.stands;
      well_formed = ∥∥₁_map o.well_formed (λ w. raised_well (shape_in s t m) (raised t.sequence) (raised_more t.sequence o.table.sequence) (omega arith) w);
      roomy = roomy_raised (shape_in s t m) (raised t.sequence) m.op o.roomy;
      counts = λ n. o.counts n ∙ sym (refs_raised (shape_in s t m) (raised t.sequence) n);
    }

-- what is visible is the same
pub visible_new : (s : Site) (t : VolumeTable) (m : Known) (x n : Name) (es : List ℕ) → IsOrderly s t m → Permits s.count t (Create x true es) → is_visible (applied t (Create x true es)) n ≡ is_visible t n
visible_new s t m x n es o allows =
    let by_name = changes_by_name s.count t (Create x true es) o.table allows in
    ⊎_elim
    (λ same. ap (of_row (λ r. not r.hidden && not r.fresh)) (ap (rows (applied t (Create x true es))) same ∙ by_name.does.1) ∙ sym (ap (of_row (λ r. not r.hidden && not r.fresh)) (ap (rows t) same ∙ by_name.does.0)))
    (λ other. ap (of_row (λ r. not r.hidden && not r.fresh)) (by_name.others n other)) (name_or_not n x)
