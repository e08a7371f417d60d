-- Every step keeps disks and shape together.
use Rattle.std.proofs.Common.{◌≡◌, ℕ, zero, suc, ◌+◌, ◌-◌, ◌/◌, ◌≤◌, Bool, true, false, not, ◌&&◌, ◌||◌, ◌⊎◌, List, [], ◌∷◌, ◌++◌, map, length, drop, Option, Some, None, refl, sym, ap, ◌∙◌, subst, inl, inr, arith, length-append, length-take, length-drop}
use Rattle.std.specs.Prelude.{is_some, nat_lt, ◌==◌}
use Rattle.std.specs.List.{filter, find, list_any}
use Rattle.std.specs.Option.{option_map}
use Rattle.std.specs.Str.{bytes_eq}
use Rattle.std.proofs.lemmas.Bool.{ltb-false, or_parts}
use Rattle.std.proofs.lemmas.List.{length-replicate}
use Rattle.common_laws.proofs.Bytes.{bytes_eq-same, bytes_eq-refl}
use Rattle.sm_base.specs.declared.names.Name.{Name}
use Rattle.sm_base.specs.declared.operations.Mode.TheVariants.{Ro, Rw}
use Rattle.sm_machine.specs.Operations.{Op}
use Rattle.sm_machine.specs.Operations as op
use Rattle.sm_base.specs.declared.refusals.Refusal.{Refusal}
use Rattle.sm_machine.specs.declared.commands.Command.{Command}
use Rattle.sm_machine.specs.declared.commands.Command.TheVariants.{Create, Delete, Attach, Detach, Snapshot, Clone, Resize, Label, Write, Fill, Read, Flush, Gc, List as Listing, Stat, Track, Changed}
use Rattle.common_laws.specs.Lists.{In, insert_by, change, when}
use Rattle.sm_machine.specs.Disks.{Disk, sector_bytes, filled, cut_sectors, sectors_of_bytes, overwritten, is_disk, with_disk, on_disk}
use Rattle.sm_machine.specs.Shapes.{Shape, ImageRow, DiskRecord, image_uuid, is_image, on_image, children, top, thin_in, with_image, is_image_of, disk_image, disk_record}
use Rattle.sm_machine.specs.Refusals.{of_some, refusal, rounded, lacking, lacking_larger, new_uuid, is_taken, is_shrink, is_outside, is_out_of_range}
use Rattle.sm_base.specs.declared.operations.Plan.{Plan}
use Rattle.sm_base.specs.declared.operations.Plan.TheVariants as plan
use Rattle.sm_machine.specs.Collector.{Pair, next_step, plan_idle, plan_running, plan_copy, copy_or, relink_or, blocked, table_of, next_block, clean_or, pairs, leaves, lives, fits, target, is_garbage, is_loose, enlarged, collected, copied, turned, linked, given_block}
use Rattle.sm_machine.specs.Commits.{is_given_up}
use Rattle.sm_machine.specs.Steps.{State, accepted, unless_refused, step, given_up, shape_after, shape_next, disks_next, is_record, with_record, fork_disks, fork_records, fork_images, fork_shape, new_image, write_shape, written_image, attach_images, written_disk, grown_disk}
use Rattle.sm_machine.specs.WellFormed.{IsWellFormed, HasImage, AreDisksOf, record_of}
use Rattle.common_laws.proofs.Lists.{In-map, In-map_at, In-filter, In-insert, find-some}
use Rattle.sm_machine.proofs.Changes.{when-key}
use Rattle.sm_machine.proofs.Faces.{AreSeen, WasSeen, seen_same, seen_filter, seen_map}
use Rattle.sm_machine.proofs.Listed.{map-insert_by, map-filter, map-change, change-same, find-key}
use Rattle.sm_machine.proofs.Passed.{IsPassed, passed}
use Rattle.sm_machine.proofs.Create.{new_name}
use Rattle.sm_machine.proofs.Fresh
use Rattle.sm_machine.proofs.Forks
use Rattle.sm_machine.proofs.Forks.{IsForkable, fork_images_are, fork_seen, twin_is_new, twin_is_unrecorded}
use Rattle.sm_machine.proofs.Steps.{snapshot_facts, clone_facts}
use Rattle.sm_machine.proofs.Guests.{disks_own, disk_image_is, on_write, written_key}
use Rattle.sm_machine.proofs.Attaches.{is_its_image}
use Rattle.sm_machine.proofs.Collects.{on_copy, block_key}
use Rattle.sm_machine.proofs.Begins.{IsFoldable, chosen_pair, chosen_leaf, chosen_live, begin_seen}
use Rattle.sm_machine.proofs.Swaps.{live_records, live_seen, swap_seen, swap_records}
use Rattle.sm_machine.specs.Operations.{dirty_limit}
use Rattle.std.specs.Prelude.{nat_lt}

-- ---- lists of sectors

pub length-cut : (n : ℕ) (bytes : List ℕ) → length (cut_sectors n bytes) ≡ n
unfolding cut_sectors
length-cut zero bytes = refl
length-cut (suc n) bytes = ap suc (length-cut n (drop sector_bytes bytes))

pub length-overwritten : (at : ℕ) (new old : List (List ℕ)) → at + length new ≤ length old → length (overwritten at new old) ≡ length old
unfolding overwritten
length-overwritten at new old h = simp (length-append, length-take, length-drop) (omega arith)

-- ---- disks as they were

-- a disk that was there, as long
WasDisk : List Disk → Disk → Type 0
WasDisk disks d = (b : Disk) × In b disks × (b.uuid ≡ d.uuid) × (length b.sectors ≡ length d.sectors)

abbrev AreFaithful : List Disk → List ImageRow → Type 0
AreFaithful disks images = (d : Disk) (i : ImageRow) → In d disks → In i images → i.hidden ≡ false → image_uuid i.name ≡ d.uuid → length d.sectors ≡ i.size

faithful_after : (disks disks' : List Disk) (images images' : List ImageRow) → AreFaithful disks images → ((d : Disk) → In d disks' → WasDisk disks d) → AreSeen images images' → AreFaithful disks' images'
unfolding WasDisk
faithful_after disks disks' images images' f back seen d i h k e q =
    let b : (b : Disk) × In b disks × (b.uuid ≡ d.uuid) × (length b.sectors ≡ length d.sectors) = back d h in
    let j : WasSeen images i = seen i k e in
    sym b.3 ∙ (f b.0 j.0 b.1 j.1 j.2 (j.3 ∙ (q ∙ sym b.2)) ∙ j.4)

same_disks : (disks : List Disk) (d : Disk) → In d disks → WasDisk disks d
unfolding WasDisk
same_disks disks d h = (d, h, refl, refl)

-- the same records and images, another operation and number
alike : (disks : List Disk) (s t : Shape) → t.records ≡ s.records → t.images ≡ s.images → AreDisksOf disks s → AreDisksOf disks t
alike disks s t e q a = record { recorded = a.recorded ∙ sym e; sizes = λ d i h k hid u. a.sizes d i h (subst (In i) q k) hid u }

given_records : (b : Bool) (t : Shape) → (given_up b t).records ≡ t.records
given_records true t = refl
given_records false t = refl

given_images : (b : Bool) (t : Shape) → (given_up b t).images ≡ t.images
given_images true t = refl
given_images false t = refl

module _ (disks : List Disk) (s : Shape) (w : IsWellFormed s) (a : AreDisksOf disks s) where
  -- a disk has a record and an image
  its_image : (d : Disk) → In d disks → HasImage s d.uuid
  its_image d h = w.disks (record_of d) (subst (In (record_of d)) a.recorded (In-map_at record_of disks d h))

  -- the disk's image is as large as the disk
  its_size : (d : Disk) (u : List ℕ) → In d disks → d.uuid ≡ u → (i : ImageRow) × In i s.images × (is_image_of u i ≡ true) × (disk_image u s ≡ Some i) × (length d.sectors ≡ i.size)
  its_size d u h e =
      let k : HasImage s d.uuid = its_image d h in
      let t : is_image_of u k.0 ≡ true = is_its_image k.0 u k.2 (k.3 ∙ e) in
      (k.0, k.1, t, disk_image_is s w u k.0 k.1 t, a.sizes d k.0 h k.1 k.2 k.3)

  -- ---- images changed, disks as they are

  pub same_sectors : (t : Shape) → t.records ≡ s.records → AreSeen s.images t.images → AreDisksOf disks t
  same_sectors t e seen = record { recorded = a.recorded ∙ sym e; sizes = faithful_after disks disks s.images t.images a.sizes (same_disks disks) seen }

  -- ---- sectors written

  module _ (u : List ℕ) (f : Disk → Disk) (keeps : (d : Disk) → record_of (f d) ≡ record_of d) where
    changed_records : map record_of (on_disk u f disks) ≡ s.records
    changed_records = map-change record_of (is_disk u) (is_record u) f (λ (r : DiskRecord). r) (λ x. refl) keeps disks ∙ (change-same (is_record u) (map record_of disks) ∙ a.recorded)

    pub same_lengths : ((d : Disk) → In d disks → d.uuid ≡ u → length (f d).sectors ≡ length d.sectors) → (t : Shape) → t.records ≡ s.records → AreSeen s.images t.images → AreDisksOf (on_disk u f disks) t
    unfolding WasDisk
    same_lengths h t e seen = record { recorded = changed_records ∙ sym e; sizes = faithful_after disks (on_disk u f disks) s.images t.images a.sizes back seen }
      where
        by_test : (d : Disk) (c : Bool) → is_disk u d ≡ c → In d disks → (d.uuid ≡ (when c f d).uuid) × (length d.sectors ≡ length (when c f d).sectors)
        by_test d true q k = (sym (ap (λ (r : DiskRecord). r.uuid) (keeps d)), sym (h d k (bytes_eq-same d.uuid u q)))
        by_test d false q k = (refl, refl)

        back : (d : Disk) → In d (on_disk u f disks) → WasDisk disks d
        back d k =
            let r : (b : Disk) × In b disks × (d ≡ when (is_disk u b) f b) = In-map (λ (x : Disk). when (is_disk u x) f x) disks d k in
            let q : (r.0.uuid ≡ (when (is_disk u r.0) f r.0).uuid) × (length r.0.sectors ≡ length (when (is_disk u r.0) f r.0).sectors) = by_test r.0 (is_disk u r.0) refl r.1 in
            (r.0, r.1, q.0 ∙ sym (ap (λ (x : Disk). x.uuid) r.2), q.1 ∙ sym (ap (λ (x : Disk). length x.sectors) r.2))

  -- sectors within the disk
  pub within : (u : List ℕ) (sector count : ℕ) → is_outside s u sector count ≡ false → (d : Disk) → In d disks → d.uuid ≡ u → sector + count ≤ length d.sectors
  within u sector count e d h q =
      let k : (i : ImageRow) × In i s.images × (is_image_of u i ≡ true) × (disk_image u s ≡ Some i) × (length d.sectors ≡ i.size) = its_size d u h q in
      let t : of_some (λ (i : ImageRow). nat_lt i.size (sector + count)) (disk_image u s) ≡ false = (or_parts (count == 0) _ e).1 in
      let l : sector + count ≤ k.0.size = ltb-false k.0.size (sector + count) (subst (λ (o : Option ImageRow). of_some (λ (i : ImageRow). nat_lt i.size (sector + count)) o ≡ false) k.3 t) in
      let z : length d.sectors ≡ k.0.size = k.4 in
      omega arith

-- ---- a step of the collector

module _ (s : Shape) (w : IsWellFormed (record s { op = op.Idle })) where
  abbrev resting : Shape
  resting = record s { op = op.Idle }

  pairs_seen : (hidden : Bool) (p : Pair) (f : IsFoldable resting hidden p) → fits resting p ≡ true → AreSeen s.images (enlarged p.child.name p.parent.name (target resting p) resting)
  pairs_seen hidden p f e = begin_seen resting w hidden p f e

  abbrev idle_by : Option ImageRow → Option ImageRow → Option Pair → Option Pair → Option Pair → Plan
  idle_by g l p q r = elim g [ Some i ↦ plan.Remove i.name | None ↦ elim l [ Some i ↦ plan.Deflate i.name (thin_in resting (top i.slots)) | None ↦ elim p [ Some a ↦ plan.Begin a.child.name a.parent.name (target resting a) | None ↦ elim q [ Some a ↦ plan.Leaf a.child.name a.parent.name (target resting a) | None ↦ elim r [ Some a ↦ plan.Live a.child.name a.parent.name (target resting a) | None ↦ blocked resting (pairs resting ++ (leaves resting ++ lives resting)) ] ] ] ] ]

  rests : (ps : List Pair) → (Unit {0}) × ((collected (blocked resting ps) resting).records ≡ s.records) × AreSeen s.images (collected (blocked resting ps) resting).images
  unfolding collected
  rests [] = (tt, refl, seen_same s.images)
  rests (p ∷ ps) = (tt, refl, seen_same s.images)

  idle_seen : (g l : Option ImageRow) (p q r : Option Pair) → find (fits resting) (pairs resting) ≡ p → find (fits resting) (leaves resting) ≡ q → find (fits resting) (lives resting) ≡ r
      → ((collected (idle_by g l p q r) resting).records ≡ s.records) × AreSeen s.images (collected (idle_by g l p q r) resting).images
  unfolding collected
  idle_seen (Some i) l p q r a b c = (refl, seen_filter (λ (j : ImageRow). not (is_image i.name j)) s.images)
  idle_seen None (Some i) p q r a b c = (
    refl,
    seen_map (λ (y : ImageRow). when (is_image i.name y) (λ (j : ImageRow). record j { extents = thin_in resting (top i.slots) }) y) s.images
        (λ y. when-key (λ (x : ImageRow). image_uuid x.name) _ (λ z. refl) (is_image i.name y) y) (λ y. when-key (λ (x : ImageRow). x.hidden) _ (λ z. refl) (is_image i.name y) y) (λ y h e. when-key (λ (x : ImageRow). x.size) _ (λ z. refl) (is_image i.name y) y),
  )
  idle_seen None None (Some p) q r a b c = (refl, (let f : In p (pairs resting) × (fits resting p ≡ true) = find-some (fits resting) (pairs resting) p a in pairs_seen true p (chosen_pair resting p f.0) f.1))
  idle_seen None None None None (Some p) a b c = (refl, (let f : In p (lives resting) × (fits resting p ≡ true) = find-some (fits resting) (lives resting) p c in pairs_seen false p (chosen_live resting p f.0).foldable f.1))
  idle_seen None None None (Some p) r a b c = (refl, (let f : In p (leaves resting) × (fits resting p ≡ true) = find-some (fits resting) (leaves resting) p b in pairs_seen false p (chosen_leaf resting p f.0).foldable f.1))
  idle_seen None None None None None a b c = let r = rests (pairs resting ++ (leaves resting ++ lives resting)) in (r.1, r.2)

  plan_seen : ((collected (plan_idle resting) resting).records ≡ s.records) × AreSeen s.images (collected (plan_idle resting) resting).images
  unfolding plan_idle
  plan_seen = idle_seen (find (is_garbage resting) s.images) (find (is_loose resting) s.images) (find (fits resting) (pairs resting)) (find (fits resting) (leaves resting)) (find (fits resting) (lives resting)) refl refl refl

copied_seen : (s : Shape) (w : IsWellFormed s) (p : Name) (b : ℕ) → AreSeen s.images (on_image p (given_block b) s.images)
copied_seen s w p b = seen_map (on_copy s w p b) s.images (block_key s w p b (λ (x : ImageRow). image_uuid x.name) (λ y xs. refl)) (block_key s w p b (λ (x : ImageRow). x.hidden) (λ y xs. refl)) (λ y h e. block_key s w p b (λ (x : ImageRow). x.size) (λ y xs. refl) y)

Kept : Shape → Shape → Type 0
Kept s t = (t.records ≡ s.records) × AreSeen s.images t.images

block_seen : (s : Shape) (v p : Name) (cursor : ℕ) (w : IsWellFormed (record s { op = op.Copy v p cursor })) (o : Option ℕ) → Kept s (collected (copy_or plan.Turn o) (record s { op = op.Copy v p cursor }))
unfolding Kept collected copied turned
block_seen s v p cursor w None = (refl, seen_same s.images)
block_seen s v p cursor w (Some b) = (refl, copied_seen (record s { op = op.Copy v p cursor }) w p b)

copying_seen : (s : Shape) (v p : Name) (cursor : ℕ) (w : IsWellFormed (record s { op = op.Copy v p cursor })) (is : List ImageRow) → Kept s (collected (plan_copy (record s { op = op.Copy v p cursor }) v cursor is) (record s { op = op.Copy v p cursor }))
unfolding Kept collected
copying_seen s v p cursor w [] = (refl, seen_same s.images)
copying_seen s v p cursor w (i ∷ is) = block_seen s v p cursor w (next_block cursor (table_of v (record s { op = op.Copy v p cursor })))

linking_seen : (s : Shape) (v p : Name) (is : List ImageRow) → Kept s (collected (relink_or is) (record s { op = op.Relink v p }))
unfolding Kept collected linked
linking_seen s v p [] = (refl, seen_same s.images)
linking_seen s v p (c ∷ others) = (
  refl,
  seen_map (λ (y : ImageRow). when (is_image c.name y) (λ (i : ImageRow). record i { parent = Some p }) y) s.images
      (λ y. when-key (λ (x : ImageRow). image_uuid x.name) _ (λ z. refl) (is_image c.name y) y) (λ y. when-key (λ (x : ImageRow). x.hidden) _ (λ z. refl) (is_image c.name y) y) (λ y h e. when-key (λ (x : ImageRow). x.size) _ (λ z. refl) (is_image c.name y) y),
)

folding_seen : (s : Shape) (l p : Name) (cursor : ℕ) (w : IsWellFormed (record s { op = op.Leaf l p cursor })) (o : Option ℕ) → Kept s (collected (copy_or plan.Swap o) (record s { op = op.Leaf l p cursor }))
unfolding Kept collected copied
folding_seen s l p cursor w None = (swap_records s l p cursor, swap_seen s l p cursor w)
folding_seen s l p cursor w (Some b) = (refl, copied_seen (record s { op = op.Leaf l p cursor }) w p b)

live_block_seen : (s : Shape) (p : Name) (b : ℕ) (o : Op) → IsWellFormed (record s { op = o }) → AreSeen s.images (on_image p (given_block b) s.images)
live_block_seen s p b o w = copied_seen (record s { op = o }) w p b

living_seen : (s : Shape) (l p : Name) (cursor : ℕ) (dirty : List ℕ) (w : IsWellFormed (record s { op = op.Live l p cursor dirty })) (o : Option ℕ) → Kept s (collected (copy_or (clean_or dirty) o) (record s { op = op.Live l p cursor dirty }))
unfolding Kept collected copied
living_seen s l p cursor dirty w (Some b) = (refl, live_block_seen s p b (op.Live l p cursor dirty) w)
living_seen s l p cursor dirty w None = by dirty
  where
    swap : Kept s (collected plan.Swap (record s { op = op.Live l p cursor dirty }))
    swap = (live_records s l p cursor dirty, live_seen s l p cursor dirty w)

    by : (ds : List ℕ) → Kept s (collected (clean_or ds) (record s { op = op.Live l p cursor dirty }))
    by [] = swap
    by (d ∷ ds) = choose (nat_lt dirty_limit (length (d ∷ ds)))
      where
        choose : (c : Bool) → Kept s (collected (elim c as (λ _. Plan) [ true ↦ plan.Copy d | false ↦ plan.Swap ]) (record s { op = op.Live l p cursor dirty }))
        choose true = (refl, live_block_seen s p d (op.Live l p cursor dirty) w)
        choose false = swap

gc_seen : (s : Shape) (o : Op) → IsWellFormed (record s { op = o }) → Kept s (collected (plan_running (record s { op = o }) o) (record s { op = o }))
unfolding Kept plan_running
gc_seen s op.Idle w = plan_seen s w
gc_seen s (op.Copy v p cursor) w = copying_seen s v p cursor w (children v s.images)
gc_seen s (op.Relink v p) w = linking_seen s v p (children v s.images)
gc_seen s (op.Live l p cursor dirty) w = living_seen s l p cursor dirty w (next_block cursor (table_of l (record s { op = op.Live l p cursor dirty })))
gc_seen s (op.Leaf l p cursor) w = folding_seen s l p cursor w (next_block cursor (table_of l (record s { op = op.Leaf l p cursor })))

collected_seen : (s : Shape) → IsWellFormed s → Kept s (collected (next_step s) s)
unfolding next_step
collected_seen s w = gc_seen s s.op w

-- ---- commands that change disks

record_of_find : (disks : List Disk) (u : List ℕ) → option_map record_of (find (is_disk u) disks) ≡ find (is_record u) (map record_of disks)
record_of_find disks u = find-key record_of (is_disk u) (is_record u) (λ x. refl) disks

module _ (disks : List Disk) (s : Shape) (w : IsWellFormed s) (a : AreDisksOf disks s) where
  no_such_disk : (u : List ℕ) → ((r : DiskRecord) → In r s.records → r.uuid ≡ u → ⊥) → (d : Disk) → In d disks → d.uuid ≡ u → ⊥
  no_such_disk u none d h e = none (record_of d) (subst (In (record_of d)) a.recorded (In-map_at record_of disks d h)) e

  -- ---- a new disk

  module _ (u : List ℕ) (bytes : ℕ) (raw : Bool) (label : List ℕ) (p : IsPassed s (Create u bytes raw label)) where
    abbrev new_disk : Disk
    new_disk = record { uuid = u; label = label; origin = None; read_only = false; sectors = filled (rounded s raw bytes) 0 }

    new_size_is : (r : Bool) → (new_image s u bytes r).size ≡ rounded s r bytes
    new_size_is true = refl
    new_size_is false = refl

    free_name : is_some (disk_record u s) || list_any (λ (i : ImageRow). i.hidden && bytes_eq (image_uuid i.name) u) s.images ≡ false
    unfolding is_taken new_uuid
    free_name = p.taken

    created_sizes : AreFaithful (with_disk new_disk disks) (with_image (new_image s u bytes raw) s.images)
    unfolding with_disk with_image
    created_sizes d i h k hid e = elim (In-insert _ new_disk disks d h) [
      | inl q ↦ (elim (In-insert _ (new_image s u bytes raw) s.images i k) [
        | inl m ↦ ap (λ (x : Disk). length x.sectors) q ∙ (length-replicate (rounded s raw bytes) _ ∙ sym (ap (λ (x : ImageRow). x.size) m ∙ new_size_is raw))
        | inr g ↦ absurd (Fresh.no_image s w u free_name i g (e ∙ ap (λ (x : Disk). x.uuid) q))
      ])
      | inr q ↦ (elim (In-insert _ (new_image s u bytes raw) s.images i k) [
        | inl m ↦ absurd (no_such_disk u (Fresh.no_record s w u free_name) d q (sym e ∙ (ap (λ (x : ImageRow). image_uuid x.name) m ∙ new_name s u bytes raw)))
        | inr g ↦ a.sizes d i q g hid e
      ])
    ]

    created_records : map record_of (with_disk new_disk disks) ≡ with_record (record_of new_disk) s.records
    unfolding with_disk with_record
    created_records = map-insert_by record_of _ _ (λ x y. refl) new_disk disks ∙ ap (insert_by _ (record_of new_disk)) a.recorded

    create_together : AreDisksOf (disks_next disks s (Create u bytes raw label)) (shape_after s (Create u bytes raw label))
    unfolding disks_next shape_after
    create_together = record { recorded = created_records; sizes = created_sizes }

  -- ---- a disk less

  delete_together : (u : List ℕ) → AreDisksOf (disks_next disks s (Delete u)) (shape_after s (Delete u))
  unfolding disks_next shape_after
  delete_together u = record {
    recorded = map-filter record_of (λ (d : Disk). not (is_disk u d)) (λ (r : DiskRecord). not (is_record u r)) (λ x. refl) disks ∙ ap (filter (λ (r : DiskRecord). not (is_record u r))) a.recorded;
    sizes = λ d i h k hid e. a.sizes d i (In-filter (λ (d : Disk). not (is_disk u d)) disks d h).0 (In-filter (λ (j : ImageRow). not (is_image_of u j)) s.images i k).0 hid e;
  }

  -- ---- a label

  label_together : (u text : List ℕ) → AreDisksOf (disks_next disks s (Label u text)) (shape_after s (Label u text))
  unfolding disks_next shape_after WasDisk
  label_together u text = record {
    recorded = map-change record_of (is_disk u) (is_record u) (λ (d : Disk). record d { label = text }) (λ (r : DiskRecord). record r { label = text }) (λ x. refl) (λ x. refl) disks ∙ ap (change (is_record u) (λ (r : DiskRecord). record r { label = text })) a.recorded;
    sizes = faithful_after disks _ s.images s.images a.sizes (λ d h.
        (let r : (b : Disk) × In b disks × (d ≡ when (is_disk u b) (λ (x : Disk). record x { label = text }) b) = In-map (λ (y : Disk). when (is_disk u y) (λ (x : Disk). record x { label = text }) y) disks d h in
        (r.0, r.1, sym (ap (λ (x : Disk). x.uuid) r.2 ∙ when-key (λ (x : Disk). x.uuid) _ (λ z. refl) (is_disk u r.0) r.0), sym (ap (λ (x : Disk). length x.sectors) r.2 ∙ when-key (λ (x : Disk). length x.sectors) _ (λ z. refl) (is_disk u r.0) r.0)))) (seen_same s.images);
  }

  -- ---- sectors written

  written_seen : (u : List ℕ) (sector count : ℕ) → AreSeen s.images (change (is_image_of u) (written_image s sector count) s.images)
  written_seen u sector count = seen_map (on_write s w u sector count) s.images (written_key s w u sector count (λ (x : ImageRow). image_uuid x.name) (λ y xs. refl))
      (written_key s w u sector count (λ (x : ImageRow). x.hidden) (λ y xs. refl)) (λ y h e. written_key s w u sector count (λ (x : ImageRow). x.size) (λ y xs. refl) y)

  write_together : (u : List ℕ) (sector : ℕ) (sectors : List (List ℕ)) (count : ℕ) → length sectors ≡ count → is_outside s u sector count ≡ false → AreDisksOf (on_disk u (written_disk sector sectors) disks) (write_shape s u sector count)
  write_together u sector sectors count n e = same_lengths disks s w a u (written_disk sector sectors) (λ d. refl)
      (λ d h q. (let l : sector + count ≤ length d.sectors = within disks s w a u sector count e d h q in length-overwritten sector sectors d.sectors (omega arith)))
      (write_shape s u sector count) refl (written_seen u sector count)

  -- ---- a larger disk

  module _ (u : List ℕ) (bytes : ℕ) (p : IsPassed s (Resize u bytes)) where
    abbrev larger : ℕ
    larger = rounded s false bytes

    abbrev to_larger : ImageRow → ImageRow
    to_larger i = record i { size = larger; extents = i.extents + lacking_larger s u larger i }

    not_smaller : (i : ImageRow) → disk_image u s ≡ Some i → i.size ≤ larger
    unfolding is_shrink
    not_smaller i e = ltb-false larger i.size (subst (λ (o : Option ImageRow). of_some (λ (x : ImageRow). nat_lt larger x.size) o ≡ false) e p.shrink)

    grown_length : (sectors : List (List ℕ)) → length sectors ≤ larger → length (sectors ++ filled (larger - length sectors) 0) ≡ larger
    grown_length sectors h = simp (length-append, length-replicate) (omega arith)

    sizes_by : (b : Disk) (y : ImageRow) (c e : Bool) → is_disk u b ≡ c → is_image_of u y ≡ e → In b disks → In y s.images → y.hidden ≡ false → image_uuid y.name ≡ b.uuid → length (when c (grown_disk larger) b).sectors ≡ (when e to_larger y).size
    sizes_by b y true true q m h k hid v =
        let own : (i : ImageRow) × In i s.images × (is_image_of u i ≡ true) × (disk_image u s ≡ Some i) × (length b.sectors ≡ i.size) = its_size disks s w a b u h (bytes_eq-same b.uuid u q) in
        let l : own.0.size ≤ larger = not_smaller own.0 own.3 in
        let z : length b.sectors ≡ own.0.size = own.4 in
        grown_length b.sectors (omega arith)
    sizes_by b y true false q m h k hid v = let t : is_image_of u y ≡ true = is_its_image y u hid (v ∙ bytes_eq-same b.uuid u q) in cc
    sizes_by b y false true q m h k hid v = let n : image_uuid y.name ≡ u = (disks_own s w u y m).1 in let t : is_disk u b ≡ true = subst (λ (x : List ℕ). bytes_eq x u ≡ true) (sym (sym v ∙ n)) (bytes_eq-refl u) in cc
    sizes_by b y false false q m h k hid v = a.sizes b y h k hid v

    resize_together : AreDisksOf (disks_next disks s (Resize u bytes)) (shape_after s (Resize u bytes))
    unfolding disks_next shape_after
    resize_together = record {
      recorded = changed_records disks s w a u (grown_disk larger) (λ d. refl);
      sizes = λ d i h k hid e. (let r : (b : Disk) × In b disks × (d ≡ when (is_disk u b) (grown_disk larger) b) = In-map (λ (y : Disk). when (is_disk u y) (grown_disk larger) y) disks d h in
          let q : (y : ImageRow) × In y s.images × (i ≡ when (is_image_of u y) to_larger y) = In-map (λ (y : ImageRow). when (is_image_of u y) to_larger y) s.images i k in
          let hid' : q.0.hidden ≡ false = sym (ap (λ (x : ImageRow). x.hidden) q.2 ∙ when-key (λ (x : ImageRow). x.hidden) to_larger (λ z. refl) (is_image_of u q.0) q.0) ∙ hid in
          let v : image_uuid q.0.name ≡ r.0.uuid = sym (ap (λ (x : ImageRow). image_uuid x.name) q.2 ∙ when-key (λ (x : ImageRow). image_uuid x.name) to_larger (λ z. refl) (is_image_of u q.0) q.0) ∙ (e ∙ (ap (λ (x : Disk). x.uuid) r.2 ∙ when-key (λ (x : Disk). x.uuid) (grown_disk larger) (λ z. refl) (is_disk u r.0) r.0)) in
          ap (λ (x : Disk). length x.sectors) r.2 ∙ (sizes_by r.0 q.0 (is_disk u r.0) (is_image_of u q.0) refl refl r.1 q.1 hid' v ∙ sym (ap (λ (x : ImageRow). x.size) q.2)));
    }

  -- ---- a fork

  module _ (u twin : List ℕ) (f : IsForkable s u twin) (read_only : Bool) where
    abbrev twin_disk : Disk → Disk
    twin_disk d = record { uuid = twin; label = d.label; origin = Some u; read_only = read_only; sectors = d.sectors }

    forked_records : (o : Option Disk) → map record_of (fork_disks u twin read_only o disks) ≡ fork_records u twin read_only (option_map record_of o) (map record_of disks)
    unfolding with_disk with_record
    forked_records None = refl
    forked_records (Some d) = map-insert_by record_of _ _ (λ x y. refl) (twin_disk d) disks

    in_forked : (o : Option Disk) (d : Disk) → In d (fork_disks u twin read_only o disks) → In d disks ⊎ ((b : Disk) × (o ≡ Some b) × (d ≡ twin_disk b))
    unfolding with_disk
    in_forked None d h = inl h
    in_forked (Some b) d h = elim (In-insert _ (twin_disk b) disks d h) [ inl e ↦ inr (b, refl, e) | inr k ↦ inl k ]

    abbrev own : ImageRow
    own = (Forks.its_image s w u twin f).0

    own_size : (d : Disk) → In d disks → d.uuid ≡ u → length d.sectors ≡ own.size
    own_size d h e = a.sizes d own h (Forks.its_image s w u twin f).1 (Forks.its_image s w u twin f).2 ((Forks.its_image s w u twin f).3 ∙ sym e)

    not_twin : (d : Disk) → In d disks → d.uuid ≡ twin → ⊥
    not_twin = no_such_disk twin (twin_is_unrecorded s w u twin f)

    abbrev forked_disks : List Disk
    forked_disks = fork_disks u twin read_only (find (is_disk u) disks) disks

    -- the twin is as large as the disk
    twin_size : (b : Disk) → find (is_disk u) disks ≡ Some b → length b.sectors ≡ own.size
    twin_size b e = let k : In b disks × (is_disk u b ≡ true) = find-some (is_disk u) disks b e in own_size b k.0 (bytes_eq-same b.uuid u k.1)

    forked_sizes : (i : ImageRow) → In i (fork_images s u twin (disk_image u s)) → (d : Disk) → In d forked_disks → i.hidden ≡ false → image_uuid i.name ≡ d.uuid → length d.sectors ≡ i.size
    forked_sizes i k = fork_seen s w u twin f (λ (j : ImageRow). (d : Disk) → In d forked_disks → j.hidden ≡ false → image_uuid j.name ≡ d.uuid → length d.sectors ≡ j.size)
        (λ j n z d h hid e. elim (in_forked (find (is_disk u) disks) d h) [
          | inl g ↦ absurd (not_twin d g (sym e ∙ n))
          | inr g ↦ ap (λ (x : Disk). length x.sectors) g.2 ∙ (twin_size g.0 g.1 ∙ sym z)
        ])
        (λ j n z d h hid e. elim (in_forked (find (is_disk u) disks) d h) [
          | inl g ↦ own_size d g (sym e ∙ n) ∙ sym z
          | inr g ↦ absurd (twin_is_new s w u twin f own (Forks.its_image s w u twin f).1 ((Forks.its_image s w u twin f).3 ∙ (sym n ∙ (e ∙ ap (λ (x : Disk). x.uuid) g.2))))
        ])
        (λ j hidden d h hid e. cc)
        (λ j there d h hid e. elim (in_forked (find (is_disk u) disks) d h) [
          | inl g ↦ a.sizes d j g there hid e
          | inr g ↦ absurd (twin_is_new s w u twin f j there (e ∙ ap (λ (x : Disk). x.uuid) g.2))
        ])
        i (subst (In i) (fork_images_are s w u twin f) k)

    fork_together : AreDisksOf forked_disks (fork_shape s u twin read_only)
    fork_together = record {
      recorded = forked_records (find (is_disk u) disks) ∙ (ap (λ (o : Option DiskRecord). fork_records u twin read_only o (map record_of disks)) (record_of_find disks u)
          ∙ ap (λ (rs : List DiskRecord). fork_records u twin read_only (find (is_record u) rs) rs) a.recorded);
      sizes = λ d i h k hid e. forked_sizes i k d h hid e;
    }

-- ---- every command

attach_seen : (s : Shape) (u : List ℕ) → AreSeen s.images (attach_images s u Rw)
attach_seen s u = seen_map (λ (y : ImageRow). when (is_image_of u y) (λ (i : ImageRow). record i { extents = i.extents + lacking s i }) y) s.images
    (λ y. when-key (λ (x : ImageRow). image_uuid x.name) _ (λ z. refl) (is_image_of u y) y) (λ y. when-key (λ (x : ImageRow). x.hidden) _ (λ z. refl) (is_image_of u y) y) (λ y h e. when-key (λ (x : ImageRow). x.size) _ (λ z. refl) (is_image_of u y) y)

after_together : (disks : List Disk) (s : Shape) (c : Command) → IsWellFormed s → AreDisksOf disks s → IsPassed s c → AreDisksOf (disks_next disks s c) (shape_after s c)
unfolding disks_next shape_after is_out_of_range Kept
after_together disks s (Create u size raw label) w a p = create_together disks s w a u size raw label p
after_together disks s (Delete u) w a p = delete_together disks s w a u
after_together disks s (Attach u Ro) w a p = same_sectors disks s w a _ refl (seen_same s.images)
after_together disks s (Attach u Rw) w a p = same_sectors disks s w a _ refl (attach_seen s u)
after_together disks s (Detach u) w a p = same_sectors disks s w a _ refl (seen_same s.images)
after_together disks s (Snapshot u twin) w a p = fork_together disks s w a u twin (snapshot_facts s u twin p) true
after_together disks s (Clone u twin) w a p = fork_together disks s w a u twin (clone_facts s u twin p) false
after_together disks s (Resize u size) w a p = resize_together disks s w a u size p
after_together disks s (Label u text) w a p = label_together disks s w a u text
after_together disks s (Write u sector bytes) w a p = write_together disks s w a u sector (sectors_of_bytes bytes) (length bytes / sector_bytes) (length-cut (length bytes / sector_bytes) bytes) (or_parts (is_outside s u sector (length bytes / sector_bytes)) _ p.out_of_range).0
after_together disks s (Fill u sector count byte) w a p = write_together disks s w a u sector (filled count byte) count (length-replicate count _) p.out_of_range
after_together disks s (Read u sector count) w a p = a
after_together disks s (Flush u) w a p = a
after_together disks s Gc w a p = let k : Kept s (collected (next_step s) s) = collected_seen s w in same_sectors disks s w a (collected (next_step s) s) k.0 k.1
after_together disks s Listing w a p = a
after_together disks s Stat w a p = a
after_together disks s (Track u on) w a p = a
after_together disks s (Changed u n) w a p = a

pub next_together : (disks : List Disk) (s : Shape) (c : Command) → IsWellFormed s → AreDisksOf disks s → IsPassed s c → AreDisksOf (disks_next disks s c) (shape_next s c)
unfolding shape_next
next_together disks s c w a p = alike (disks_next disks s c) (shape_after s c) _ (given_records (is_given_up s c) (shape_after s c)) (given_images (is_given_up s c) (shape_after s c)) (after_together disks s c w a p)

by_refusal : (σ : State) (c : Command) (o : Option Refusal) → refusal σ.shape c ≡ o → IsWellFormed σ.shape → AreDisksOf σ.disks σ.shape → AreDisksOf ((unless_refused o σ c).after.disks) ((unless_refused o σ c).after.shape)
unfolding accepted
by_refusal σ c (Some r) e w a = a
by_refusal σ c None e w a = next_together σ.disks σ.shape c w a (passed σ.shape c e)

pub step_keeps_disks : (σ : State) (c : Command) → IsWellFormed σ.shape → AreDisksOf σ.disks σ.shape → AreDisksOf ((step σ c).after.disks) ((step σ c).after.shape)
unfolding step
step_keeps_disks σ c w a = by_refusal σ c (refusal σ.shape c) refl w a

-- the collector leaves the disks as they are
gc_by_refusal : (σ : State) (o : Option Refusal) → (unless_refused o σ Gc).after.disks ≡ σ.disks
unfolding accepted disks_next
gc_by_refusal σ (Some r) = refl
gc_by_refusal σ None = refl

pub collector_keeps : (σ : State) → (step σ Gc).after.disks ≡ σ.disks
unfolding step
collector_keeps σ = gc_by_refusal σ (refusal σ.shape Gc)
