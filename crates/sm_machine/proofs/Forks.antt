-- A fork keeps a shape well-formed.
use Rattle.std.proofs.Common.{◌≡◌, ℕ, zero, suc, ◌+◌, ◌-◌, ◌^◌, ◌<◌, ◌≤◌, Bool, true, false, not, ◌&&◌, ◌||◌, ◌⊎◌, List, [], map, length, Option, Some, None, refl, sym, ap, ◌∙◌, subst, inl, inr, arith}
use Rattle.std.specs.Prelude.{is_some, is_none, nat_lt, nat_le}
use Rattle.std.specs.List.{list_any}
use Rattle.std.specs.Str.{bytes_eq}
use Rattle.std.proofs.lemmas.Bool.{ltb-false, leb-false}
use Rattle.std.proofs.lemmas.List.{length-replicate}
use Rattle.common_laws.proofs.Bytes.{bytes_eq-same, bytes_eq-refl}
use Rattle.sm_base.specs.Names.{is_base, base_uuid}
use Rattle.sm_base.specs.Numbers.{thick}
use Rattle.sm_base.specs.declared.names.Name.{Name}
use Rattle.sm_base.specs.declared.names.Name.TheVariants.{Vhd, Raw}
use Rattle.sm_base.specs.declared.operations.Mode.TheVariants.{Rw}
use Rattle.sm_machine.specs.Operations.{Op}
use Rattle.sm_machine.specs.Operations as op
use Rattle.common_laws.specs.Lists.{In, Distinct, Sorted}
use Rattle.sm_machine.specs.Shapes.{Shape, ImageRow, DiskRecord, Attachment, last_sequence, same_image, is_image, image_uuid, is_vhd, renamed, disk_image, disk_record, parent_of, chain, with_image, without_image, attached_as, is_rw, image_extents, free, thick_in, chain_limit}
use Rattle.sm_machine.specs.Refusals.{depth, with_image_of, fork_need, wanted}
use Rattle.sm_machine.specs.Commits.{folds}
use Rattle.sm_machine.specs.Steps.{with_record, child_image, fork_images, fork_records, fork_shape}
use Rattle.sm_machine.specs.WellFormed.{IsWellFormed, IsImageRow, HasParent, HasImage, HasRecord, IsChild, IsLive, IsOnlyChild, IsOperation, EndsWithin, is_image_name, table_length, name_le}
use Rattle.common_laws.proofs.Lists.{In-map, In-map_at, In-insert, In-insert_new, In-insert_old, Distinct-key, Distinct-filter, Distinct-insert, Sorted-filter, length-insert_by, find-some, find-only}
use Rattle.sm_machine.proofs.Changes.{filter_less}
use Rattle.sm_machine.proofs.Chains.{parent_of-in, ends_alike, OfName, IsThere}
use Rattle.sm_machine.proofs.ImageNames.{same_image-sound, images_sorted, records_sorted}
use Rattle.sm_machine.proofs.Numbers.{extents-with_image, thin-positive}
use Rattle.sm_base.proofs.BaseLemmas.{base_uuid-injective}
use Rattle.sm_machine.proofs.Create.{base_form}
use Rattle.sm_machine.proofs.Fresh
use Rattle.sm_machine.proofs.Guests.{disk_image_is}
use Rattle.sm_machine.proofs.Debts.{is_itself}
use Rattle.sm_machine.proofs.Attaches.{is_its_image}
use Rattle.sm_machine.proofs.Collects.{attached_mode}
use Rattle.sm_machine.proofs.Folds.{ends_more}
use Rattle.sm_machine.proofs.Swaps.{In-without, In-without_kept, extents-filter_out}

-- what is known of a disk and a new UUID where a fork is not refused
pub record IsForkable (s : Shape) (u twin : List ℕ) : Type 0 where
  pub not_base : is_base twin ≡ false
  pub not_taken : is_some (disk_record twin s) || list_any (λ (i : ImageRow). i.hidden && bytes_eq (image_uuid i.name) twin) s.images ≡ false
  pub is_known : is_none (disk_record u s) ≡ false
  pub not_deep : nat_le chain_limit (depth u s) ≡ false
  pub not_many : nat_lt 500 (length s.images + 2) ≡ false
  pub not_spent : nat_le (2 ^ 48 - 16) s.sequence ≡ false
  pub has_space : nat_lt (free s) (with_image_of (fork_need s u) (disk_image u s)) ≡ false

-- ---- the base's name

renamed_uuid : (n : Name) (v : List ℕ) → is_image_name n ≡ true → image_uuid (renamed n v) ≡ v
unfolding is_image_name renamed image_uuid
renamed_uuid (Vhd u) v e = refl
renamed_uuid (Raw u) v e = refl
renamed_uuid _ v e = cc

renamed_kind : (n : Name) (v : List ℕ) → is_vhd (renamed n v) ≡ is_vhd n
unfolding renamed is_vhd
renamed_kind (Vhd u) v = refl
renamed_kind (Raw u) v = refl
renamed_kind _ v = refl

renamed_name : (n : Name) (v : List ℕ) → is_image_name (renamed n v) ≡ is_image_name n
unfolding renamed is_image_name
renamed_name (Vhd u) v = refl
renamed_name (Raw u) v = refl
renamed_name _ v = refl

renamed_table : (s : Shape) (n : Name) (v : List ℕ) → table_length s (renamed n v) ≡ table_length s n
unfolding renamed table_length
renamed_table s (Vhd u) v = refl
renamed_table s (Raw u) v = refl
renamed_table s _ v = refl

-- ---- a chain that is counted short ends

by_parent : (most k : ℕ) (images : List ImageRow) (o : Option Name) → length (elim o as (λ _. List Name) [ None ↦ [] | Some p ↦ chain most p images ]) ≤ k → ((p : Name) → length (chain most p images) ≤ k → EndsWithin k (Some p) images) → EndsWithin k o images
by_parent most k images None e ih = tt
by_parent most k images (Some p) e ih = ih p e

chain_ends : (most : ℕ) (k : ℕ) (n : Name) (images : List ImageRow) → length (chain most n images) ≤ k → k < most → EndsWithin k (Some n) images
unfolding chain
chain_ends zero k n images h g = absurd (too_few k g)
  where
    too_few : (j : ℕ) → j < 0 → ⊥
    too_few j g = omega arith
chain_ends (suc most) zero n images h g = absurd (too_few (length (elim (parent_of n images) as (λ _. List Name) [ None ↦ [] | Some p ↦ chain most p images ])) h)
  where
    too_few : (j : ℕ) → suc j ≤ 0 → ⊥
    too_few j g = omega arith
chain_ends (suc most) (suc k) n images h g = by_parent most k images (parent_of n images) (omega arith) (λ p e. chain_ends most k p images e (omega arith))

-- ---- the images of a fork

module _ (s : Shape) (w : IsWellFormed s) (u twin : List ℕ) (f : IsForkable s u twin) where
  pub recorded : HasRecord s u
  recorded = some_record (disk_record u s) refl f.is_known
    where
      some_record : (o : Option DiskRecord) → disk_record u s ≡ o → is_none o ≡ false → HasRecord s u
      some_record None e h = cc
      some_record (Some r) e h = let k : In r s.records × (bytes_eq r.uuid u ≡ true) = find-some (λ (q : DiskRecord). bytes_eq q.uuid u) s.records r e in (r, k.0, bytes_eq-same r.uuid u k.1)

  abbrev its_record : DiskRecord
  its_record = recorded.0

  pub its_image : HasImage s u
  its_image = let k : HasImage s its_record.uuid = w.disks its_record recorded.1 in (k.0, k.1, k.2, k.3 ∙ recorded.2)

  abbrev own : ImageRow
  own = its_image.0

  own_there : In own s.images
  own_there = its_image.1

  own_shown : own.hidden ≡ false
  own_shown = its_image.2

  own_uuid : image_uuid own.name ≡ u
  own_uuid = its_image.3

  found_own : disk_image u s ≡ Some own
  found_own = disk_image_is s w u own own_there (is_its_image own u own_shown own_uuid)

  found_record : disk_record u s ≡ Some its_record
  found_record = find-only (λ (x : DiskRecord). bytes_eq x.uuid u) s.records its_record recorded.1 (subst (λ (v : List ℕ). bytes_eq v u ≡ true) (sym recorded.2) (bytes_eq-refl u))
      (λ x k m. Distinct-key (λ (y : DiskRecord). y.uuid) s.records x its_record w.one_record k recorded.1 (bytes_eq-same x.uuid u m ∙ sym recorded.2))

  own_good : IsImageRow s own
  own_good = w.images own own_there

  sequence_small : s.sequence < 2 ^ 48 - 16
  sequence_small = leb-false (2 ^ 48 - 16) s.sequence f.not_spent

  abbrev number : List ℕ
  number = base_uuid s.sequence

  abbrev base_name : Name
  base_name = renamed own.name number

  base_name_uuid : image_uuid base_name ≡ number
  base_name_uuid = renamed_uuid own.name number own_good.named

  -- no image has the base's UUID or the twin's
  no_base : (x : ImageRow) → In x s.images → image_uuid x.name ≡ number → ⊥
  no_base x h e = let small : s.sequence < 2 ^ 48 - 16 = sequence_small in let r : s.sequence < s.sequence = w.bases x s.sequence h (omega arith) e in irreflexive s.sequence r
    where
      irreflexive : (n : ℕ) → n < n → ⊥
      irreflexive n h = omega arith

  no_twin : (x : ImageRow) → In x s.images → image_uuid x.name ≡ twin → ⊥
  no_twin = Fresh.no_image s w twin f.not_taken

  no_twin_record : (r : DiskRecord) → In r s.records → r.uuid ≡ twin → ⊥
  no_twin_record = Fresh.no_record s w twin f.not_taken

  twin_no_base : (n : ℕ) → twin ≡ base_uuid n → ⊥
  twin_no_base n e = let t : is_base twin ≡ true = ap is_base e ∙ base_form n in let q : is_base twin ≡ false = f.not_base in cc

  abbrev base : ImageRow
  base = record own { name = base_name; hidden = true }

  abbrev mine : ImageRow
  mine = child_image s u base_name own.size (wanted s (is_rw (attached_as u s)) own.size)

  abbrev other : ImageRow
  other = child_image s twin base_name own.size (wanted s false own.size)

  abbrev rest : List ImageRow
  rest = without_image own.name s.images

  abbrev forked : List ImageRow
  forked = with_image other (with_image mine (with_image base rest))

  was : (x : ImageRow) → In x rest → In x s.images
  was x h = (In-without own.name s.images x h).0

  not_own : (x : ImageRow) → In x rest → x.name ≡ own.name → ⊥
  not_own x h e =
      let a : same_image x.name own.name ≡ false = (In-without own.name s.images x h).1 in
      let t : same_image x.name own.name ≡ true = ap (λ (n : Name). same_image n own.name) e ∙ is_itself s w own own_there in
      cc

  stays : (x : ImageRow) → In x s.images → (x.name ≡ own.name → ⊥) → In x rest
  stays x h e = In-without_kept own.name s.images x h e

  same_own : (x : ImageRow) → In x s.images → image_uuid x.name ≡ u → x ≡ own
  same_own x h e = Distinct-key (λ (i : ImageRow). image_uuid i.name) s.images x own w.one_image h own_there (e ∙ sym own_uuid)

  other_there : In other forked
  unfolding with_image
  other_there = In-insert_new _ other _

  mine_there : In mine forked
  unfolding with_image
  mine_there = In-insert_old _ other _ mine (In-insert_new _ mine _)

  base_there : In base forked
  unfolding with_image
  base_there = In-insert_old _ other _ base (In-insert_old _ mine _ base (In-insert_new _ base rest))

  rest_there : (x : ImageRow) → In x rest → In x forked
  unfolding with_image
  rest_there x h = In-insert_old _ other _ x (In-insert_old _ mine _ x (In-insert_old _ base rest x h))

  -- a fact of each image of the fork
  by_rows : (P : ImageRow → Type 0) → P other → P mine → P base → ((x : ImageRow) → In x rest → P x) → (x : ImageRow) → In x forked → P x
  unfolding with_image
  by_rows P a b c d x h = elim (In-insert _ other (with_image mine (with_image base rest)) x h) [
    | inl e ↦ subst P (sym e) a
    | inr g ↦ (elim (In-insert _ mine (with_image base rest) x g) [
      | inl e ↦ subst P (sym e) b
      | inr k ↦ (elim (In-insert _ base rest x k) [ inl e ↦ subst P (sym e) c | inr l ↦ d x l ])
    ])
  ]

  rest_distinct : Distinct (map (λ (i : ImageRow). image_uuid i.name) rest)
  rest_distinct = Distinct-filter (λ (i : ImageRow). image_uuid i.name) _ s.images w.one_image

  base_distinct : Distinct (map (λ (i : ImageRow). image_uuid i.name) (with_image base rest))
  unfolding with_image
  base_distinct = Distinct-insert (λ (i : ImageRow). image_uuid i.name) _ base rest rest_distinct (λ h.
      let r : (x : ImageRow) × In x rest × (image_uuid base_name ≡ image_uuid x.name) = In-map (λ (i : ImageRow). image_uuid i.name) rest _ h in
      no_base r.0 (was r.0 r.1) (sym r.2 ∙ base_name_uuid))

  -- a UUID that is not in the rest, nor the base's, is new beside the base
  new_beside : (v : List ℕ) → (number ≡ v → ⊥) → ((x : ImageRow) → In x rest → image_uuid x.name ≡ v → ⊥) → In v (map (λ (i : ImageRow). image_uuid i.name) (with_image base rest)) → ⊥
  unfolding with_image
  new_beside v a b h =
      let r : (x : ImageRow) × In x (with_image base rest) × (v ≡ image_uuid x.name) = In-map (λ (i : ImageRow). image_uuid i.name) (with_image base rest) v h in
      elim (In-insert _ base rest r.0 r.1) as (λ _. ⊥) [
        | inl e ↦ a (sym base_name_uuid ∙ (sym (ap (λ (i : ImageRow). image_uuid i.name) e) ∙ sym r.2))
        | inr k ↦ b r.0 k (sym r.2)
      ]

  mine_uuid : image_uuid mine.name ≡ u
  unfolding image_uuid
  mine_uuid = refl

  other_uuid : image_uuid other.name ≡ twin
  unfolding image_uuid
  other_uuid = refl

  mine_distinct : Distinct (map (λ (i : ImageRow). image_uuid i.name) (with_image mine (with_image base rest)))
  unfolding with_image image_uuid
  mine_distinct = Distinct-insert (λ (i : ImageRow). image_uuid i.name) _ mine (with_image base rest) base_distinct
      (new_beside u (λ e. no_base own own_there (own_uuid ∙ sym e)) (λ x h e. not_own x h (ap (λ (i : ImageRow). i.name) (same_own x (was x h) e))))

  twin_new : In twin (map (λ (i : ImageRow). image_uuid i.name) (with_image mine (with_image base rest))) → ⊥
  unfolding with_image
  twin_new h =
      let r : (x : ImageRow) × In x (with_image mine (with_image base rest)) × (twin ≡ image_uuid x.name) = In-map (λ (i : ImageRow). image_uuid i.name) (with_image mine (with_image base rest)) twin h in
      elim (In-insert _ mine (with_image base rest) r.0 r.1) as (λ _. ⊥) [
        | inl e ↦ no_twin own own_there (own_uuid ∙ sym (r.2 ∙ (ap (λ (i : ImageRow). image_uuid i.name) e ∙ mine_uuid)))
        | inr k ↦ new_beside twin (λ q. twin_no_base s.sequence (sym q)) (λ x g q. no_twin x (was x g) q)
            (subst (λ (v : List ℕ). In v (map (λ (i : ImageRow). image_uuid i.name) (with_image base rest))) (sym r.2) (In-map_at (λ (i : ImageRow). image_uuid i.name) (with_image base rest) r.0 k))
      ]

  forked_distinct : Distinct (map (λ (i : ImageRow). image_uuid i.name) forked)
  unfolding with_image image_uuid
  forked_distinct = Distinct-insert (λ (i : ImageRow). image_uuid i.name) _ other (with_image mine (with_image base rest)) mine_distinct twin_new

  -- ---- each image is good

  vhd_child : (v : List ℕ) (extents : ℕ) → 0 < extents → IsImageRow s (child_image s v base_name own.size extents)
  unfolding is_image_name table_length is_vhd
  vhd_child v extents h = record { named = refl; whole = own_good.whole; volume = h; table = length-replicate s.entries None; raw = λ e. cc }

  wanted_positive : (b : Bool) → 0 < wanted s b own.size
  unfolding thick
  wanted_positive true = let x : 32 ≤ s.extent = w.geometry.extent_least in thin-positive s.extent s.block s.entries _ (omega arith)
  wanted_positive false = let x : 32 ≤ s.extent = w.geometry.extent_least in thin-positive s.extent s.block s.entries 0 (omega arith)

  base_good : IsImageRow s base
  base_good = record {
    named = renamed_name own.name number ∙ own_good.named;
    whole = own_good.whole;
    volume = own_good.volume;
    table = own_good.table ∙ sym (renamed_table s own.name number);
    raw = λ e. own_good.raw (sym (renamed_kind own.name number) ∙ e);
  }

  images_good : (x : ImageRow) → In x forked → IsImageRow s x
  images_good = by_rows (IsImageRow s) (vhd_child twin _ (wanted_positive false)) (vhd_child u _ (wanted_positive (is_rw (attached_as u s)))) base_good (λ x h. w.images x (was x h))

  -- ---- parents and chains

  parent_stays : (x : ImageRow) (n : Name) → In x s.images → x.parent ≡ Some n → HasParent rest x n
  parent_stays x n h e =
      let g : HasParent s.images x n = w.parents x n h e in
      record {
        parent = g.parent;
        is_named = g.is_named;
        is_hidden = g.is_hidden;
        not_larger = g.not_larger;
        there = stays g.parent g.there (λ q.
            let same : g.parent ≡ own = Distinct-key (λ (i : ImageRow). image_uuid i.name) s.images g.parent own w.one_image g.there own_there (ap image_uuid q) in
            let c : true ≡ false = sym g.is_hidden ∙ (ap (λ (i : ImageRow). i.hidden) same ∙ own_shown) in cc);
      }

  lift : (x y : ImageRow) (n : Name) → x.size ≡ y.size → HasParent rest x n → HasParent forked y n
  lift x y n e g = record { parent = g.parent; there = rest_there g.parent g.there; is_named = g.is_named; is_hidden = g.is_hidden; not_larger = subst (λ (k : ℕ). g.parent.size ≤ k) e g.not_larger }

  under_base : (x : ImageRow) (n : Name) → own.size ≤ x.size → Some base_name ≡ Some n → HasParent forked x n
  under_base x n l e = record { parent = base; there = base_there; is_named = (let q : base_name ≡ n = cc in q); is_hidden = refl; not_larger = l }

  parents_good : (x : ImageRow) → In x forked → (n : Name) → x.parent ≡ Some n → HasParent forked x n
  parents_good = by_rows (λ (x : ImageRow). (n : Name) → x.parent ≡ Some n → HasParent forked x n)
      (λ n e. under_base other n (omega arith) e)
      (λ n e. under_base mine n (omega arith) e)
      (λ n e. lift own base n refl (parent_stays own n own_there e))
      (λ x h n e. lift x x n refl (parent_stays x n (was x h) e))

  same_parent : (n : Name) → IsThere rest n → parent_of n forked ≡ parent_of n s.images
  same_parent n k =
      let named : is_image_name k.0.name ≡ true = (w.images k.0 (was k.0 k.1)).named in
      subst (λ (m : Name). parent_of m forked ≡ parent_of m s.images) k.2
      (parent_of-in forked k.0 forked_distinct (rest_there k.0 k.1) named ∙ sym (parent_of-in s.images k.0 w.one_image (was k.0 k.1) named))

  rest_up : (n m : Name) → IsThere rest n → parent_of n s.images ≡ Some m → IsThere rest m
  rest_up n m k e =
      let named : is_image_name k.0.name ≡ true = (w.images k.0 (was k.0 k.1)).named in
      let q : k.0.parent ≡ Some m = sym (subst (λ (x : Name). parent_of x s.images ≡ k.0.parent) k.2 (parent_of-in s.images k.0 w.one_image (was k.0 k.1) named)) ∙ e in
      let g : HasParent rest k.0 m = parent_stays k.0 m (was k.0 k.1) q in
      (g.parent, g.there, g.is_named)

  own_up : (o : Option Name) → own.parent ≡ o → OfName (IsThere rest) o
  own_up None e = tt
  own_up (Some m) e = let g : HasParent rest own m = parent_stays own m own_there e in (g.parent, g.there, g.is_named)

  depth_small : depth u s < 30
  depth_small = leb-false 30 (depth u s) f.not_deep

  own_depth : length (chain 30 own.name s.images) < 30
  own_depth = subst (λ (o : Option ImageRow). (elim o as (λ _. ℕ) [ None ↦ 0 | Some i ↦ length (chain 30 i.name s.images) ]) < 30) found_own depth_small

  own_ends : EndsWithin 28 own.parent forked
  own_ends =
      let d : length (chain 30 own.name s.images) < 30 = own_depth in
      let a : EndsWithin 28 (parent_of own.name s.images) s.images = chain_ends 30 29 own.name s.images (omega arith) (omega arith) in
      let b : EndsWithin 28 own.parent s.images = subst (λ (o : Option Name). EndsWithin 28 o s.images) (parent_of-in s.images own w.one_image own_there own_good.named) a in
      ends_alike s.images forked (IsThere rest) same_parent rest_up 28 own.parent (own_up own.parent refl) b

  base_parent : parent_of base_name forked ≡ own.parent
  base_parent = parent_of-in forked base forked_distinct base_there base_good.named

  base_ends : EndsWithin 29 (Some base_name) forked
  base_ends = subst (λ (o : Option Name). EndsWithin 28 o forked) (sym base_parent) own_ends

  leaf_ends : (x : ImageRow) → In x forked → is_image_name x.name ≡ true → x.parent ≡ Some base_name → EndsWithin 30 (Some x.name) forked
  leaf_ends x h n e = subst (λ (o : Option Name). EndsWithin 29 o forked) (sym (parent_of-in forked x forked_distinct h n ∙ e)) base_ends

  chains_good : (x : ImageRow) → In x forked → EndsWithin 30 (Some x.name) forked
  chains_good = by_rows (λ (x : ImageRow). EndsWithin 30 (Some x.name) forked)
      (leaf_ends other other_there (images_good other other_there).named refl)
      (leaf_ends mine mine_there (images_good mine mine_there).named refl)
      (ends_more 29 (Some base_name) forked base_ends)
      (λ x h. ends_alike s.images forked (IsThere rest) same_parent rest_up 30 (Some x.name) (x, h, refl) (w.chains x (was x h)))

  -- ---- numbers

  pub forked_extents : image_extents forked ≤ image_extents s.images + fork_need s u own
  forked_extents =
      let a : image_extents forked ≡ other.extents + image_extents (with_image mine (with_image base rest)) = extents-with_image other _ in
      let b : image_extents (with_image mine (with_image base rest)) ≡ mine.extents + image_extents (with_image base rest) = extents-with_image mine _ in
      let c : image_extents (with_image base rest) ≡ own.extents + image_extents rest = extents-with_image base rest in
      let d : image_extents rest + own.extents ≤ image_extents s.images = extents-filter_out (λ (i : ImageRow). not (is_image own.name i)) s.images own own_there (ap not (is_itself s w own own_there)) in
      omega arith

  room_good : s.others + image_extents forked ≤ s.extents
  unfolding free
  room_good =
      let a : image_extents forked ≤ image_extents s.images + fork_need s u own = forked_extents in
      let n : fork_need s u own ≤ s.extents - (s.others + image_extents s.images) = enough in
      let r : s.others + image_extents s.images ≤ s.extents = w.room in
      omega arith
    where
      enough : fork_need s u own ≤ free s
      enough = ltb-false (free s) (fork_need s u own) (subst (λ (o : Option ImageRow). nat_lt (free s) (with_image_of (fork_need s u) o) ≡ false) found_own f.has_space)

  few_good : length forked ≤ 500
  unfolding with_image
  few_good =
      let a : length forked ≡ suc (length (with_image mine (with_image base rest))) = length-insert_by _ other _ in
      let b : length (with_image mine (with_image base rest)) ≡ suc (length (with_image base rest)) = length-insert_by _ mine _ in
      let c : length (with_image base rest) ≡ suc (length rest) = length-insert_by _ base rest in
      let d : length rest < length s.images = filter_less (λ (i : ImageRow). not (is_image own.name i)) s.images own own_there (ap not (is_itself s w own own_there)) in
      let e : length s.images + 2 ≤ 500 = ltb-false 500 (length s.images + 2) f.not_many in
      omega arith

  bases_good : (n : ℕ) → s.sequence < n → (x : ImageRow) → In x forked → (m : ℕ) → m < 2 ^ 48 → image_uuid x.name ≡ base_uuid m → m < n
  bases_good n above = by_rows (λ (x : ImageRow). (m : ℕ) → m < 2 ^ 48 → image_uuid x.name ≡ base_uuid m → m < n)
      (λ m h e. absurd (twin_no_base m (sym other_uuid ∙ e)))
      (λ m h e. (let a : m < s.sequence = w.bases own m own_there h (own_uuid ∙ (sym mine_uuid ∙ e)) in omega arith))
      (λ m h e. (let small : s.sequence < 2 ^ 48 - 16 = sequence_small in let a : s.sequence ≡ m = base_uuid-injective s.sequence m (omega arith) h (sym base_name_uuid ∙ e) in omega arith))
      (λ x k m h e. (let a : m < s.sequence = w.bases x m (was x k) h e in omega arith))

  forked_in_order : Sorted name_le (map (λ (i : ImageRow). i.name) forked)
  forked_in_order = images_sorted other _ (images_sorted mine _ (images_sorted base rest (Sorted-filter (λ (i : ImageRow). i.name) _ _ s.images w.images_in_order)))

  -- ---- the records

  module _ (read_only : Bool) where
    abbrev twin_record : DiskRecord
    twin_record = record { uuid = twin; label = its_record.label; origin = Some u; read_only = read_only }

    abbrev records' : List DiskRecord
    records' = with_record twin_record s.records

    in_records : (r : DiskRecord) → In r records' → (r ≡ twin_record) ⊎ In r s.records
    unfolding with_record
    in_records r h = In-insert _ twin_record s.records r h

    old_record : (r : DiskRecord) → In r s.records → In r records'
    unfolding with_record
    old_record r h = In-insert_old _ twin_record s.records r h

    twin_recorded : In twin_record records'
    unfolding with_record
    twin_recorded = In-insert_new _ twin_record s.records

    records_distinct : Distinct (map (λ (r : DiskRecord). r.uuid) records')
    unfolding with_record
    records_distinct = Distinct-insert (λ (r : DiskRecord). r.uuid) _ twin_record s.records w.one_record (λ h.
        let r : (x : DiskRecord) × In x s.records × (twin ≡ x.uuid) = In-map (λ (q : DiskRecord). q.uuid) s.records twin h in no_twin_record r.0 r.1 (sym r.2))

    lifted : (v : List ℕ) → HasRecord s v → (r : DiskRecord) × In r records' × (r.uuid ≡ v)
    lifted v h = (h.0, old_record h.0 h.1, h.2)

    old_disk : (r : DiskRecord) → (i : ImageRow) → In i s.images → i.hidden ≡ false → image_uuid i.name ≡ r.uuid → (b : Bool) → is_image own.name i ≡ b → (j : ImageRow) × In j forked × (j.hidden ≡ false) × (image_uuid j.name ≡ r.uuid)
    old_disk r i h hid e true q = (mine, mine_there, refl, mine_uuid ∙ (sym own_uuid ∙ (sym (ap image_uuid (same_image-sound i.name own.name q)) ∙ e)))
    old_disk r i h hid e false q = (i, rest_there i (stays i h (λ n. let t : is_image own.name i ≡ true = ap (λ (m : Name). same_image m own.name) n ∙ is_itself s w own own_there in cc)), hid, e)

    disks_good : (r : DiskRecord) → In r records' → (j : ImageRow) × In j forked × (j.hidden ≡ false) × (image_uuid j.name ≡ r.uuid)
    disks_good r h = elim (in_records r h) [
      | inl e ↦ (other, other_there, refl, other_uuid ∙ sym (ap (λ (x : DiskRecord). x.uuid) e))
      | inr k ↦ (let g : HasImage s r.uuid = w.disks r k in old_disk r g.0 g.1 g.2 g.3 (is_image own.name g.0) refl)
    ]

    visible_good : (x : ImageRow) → In x forked → x.hidden ≡ false → (r : DiskRecord) × In r records' × (r.uuid ≡ image_uuid x.name)
    visible_good = by_rows (λ (x : ImageRow). x.hidden ≡ false → (r : DiskRecord) × In r records' × (r.uuid ≡ image_uuid x.name))
        (λ e. (twin_record, twin_recorded, sym other_uuid))
        (λ e. lifted (image_uuid mine.name) (its_record, recorded.1, recorded.2 ∙ sym mine_uuid))
        (λ e. cc)
        (λ x h e. lifted (image_uuid x.name) (w.visible x (was x h) e))

    writable_good : (a : Attachment) (r : DiskRecord) → In a s.attached → a.mode ≡ Rw → In r records' → r.uuid ≡ a.disk → r.read_only ≡ false
    writable_good a r h m k e = elim (in_records r k) [
      | inl q ↦ (let g : HasRecord s a.disk = w.attachments.disks a h in absurd (no_twin_record g.0 g.1 (g.2 ∙ (sym e ∙ ap (λ (x : DiskRecord). x.uuid) q))))
      | inr g ↦ w.attachments.writable a r h m g e
    ]

    thick_good : (x : ImageRow) → In x forked → (a : Attachment) → In a s.attached → a.mode ≡ Rw → x.hidden ≡ false → image_uuid x.name ≡ a.disk → is_vhd x.name ≡ true → thick_in s x.size ≤ x.extents
    thick_good = by_rows (λ (x : ImageRow). (a : Attachment) → In a s.attached → a.mode ≡ Rw → x.hidden ≡ false → image_uuid x.name ≡ a.disk → is_vhd x.name ≡ true → thick_in s x.size ≤ x.extents)
        (λ a h m hid e v. (let g : HasRecord s a.disk = w.attachments.disks a h in absurd (no_twin_record g.0 g.1 (g.2 ∙ (sym e ∙ other_uuid)))))
        (λ a h m hid e v. (let mode : attached_as u s ≡ Some Rw = attached_mode s w a u h (sym e ∙ mine_uuid) ∙ ap Some m in
        subst (λ (o : Option _). thick_in s own.size ≤ wanted s (is_rw o) own.size) (sym mode) (omega arith)))
        (λ a h m hid e v. cc)
        (λ x k a h m hid e v. w.attachments.thick a x h m (was x k) hid e v)

    -- ---- the shape, with a number above and an operation

    module _ (n : ℕ) (above : s.sequence < n) (most : n ≤ last_sequence) (o : Op) where
      abbrev pub fork : Shape
      fork = record s { sequence = n; records = records'; images = forked; op = o }

      fork_good : IsOperation fork o → IsWellFormed fork
      unfolding table_length
      fork_good operation = record {
        geometry = w.geometry;
        blocks = w.blocks;
        sequence = most;
        room = room_good;
        few = few_good;
        images_in_order = forked_in_order;
        one_image = forked_distinct;
        images = λ x h. (let g : IsImageRow s x = images_good x h in record { named = g.named; whole = g.whole; volume = g.volume; table = g.table; raw = g.raw });
        parents = λ x m h e. parents_good x h m e;
        chains = chains_good;
        bases = λ x m h k e. bases_good n above x h m k e;
        records_in_order = records_sorted twin_record s.records w.records_in_order;
        one_record = records_distinct;
        disks = disks_good;
        visible = visible_good;
        attachments = record { once = w.attachments.once; disks = λ a h. lifted a.disk (w.attachments.disks a h); writable = writable_good; thick = λ a x h m k hid e v. thick_good x k a h m hid e v };
        operation = operation;
      }

      pub fork_keeps : IsOperation fork o → IsWellFormed (record (fork_shape s u twin read_only) { sequence = n; op = o })
      fork_keeps operation = subst (λ (r : Option DiskRecord). IsWellFormed (record s { sequence = n; records = fork_records u twin read_only r s.records; images = fork_images s u twin (disk_image u s); op = o })) (sym found_record)
          (subst (λ (i : Option ImageRow). IsWellFormed (record s { sequence = n; records = records'; images = fork_images s u twin i; op = o })) (sym found_own) (fork_good operation))

      -- a link stays where its child is not the disk's image
      link_forked : (hidden : Bool) (v p : Name) → (h : IsChild s hidden v p) → (h.child.name ≡ own.name → ⊥) → IsChild fork hidden v p
      link_forked hidden v p h e = record { child = h.child; there = rest_there h.child (stays h.child h.there e); is_named = h.is_named; is_shown = h.is_shown; vhd = h.vhd; linked = h.linked }

      only_forked : (hidden : Bool) (v p : Name) → (h : IsOnlyChild s hidden v p) → (h.link.child.name ≡ own.name → ⊥) → IsOnlyChild fork hidden v p
      unfolding link_forked
      only_forked hidden v p h e =
          let g : HasParent s.images h.link.child p = w.parents h.link.child p h.link.there h.link.linked in
          let not_under : Some base_name ≡ Some p → ⊥ = λ (q : Some base_name ≡ Some p). no_base g.parent g.there (ap image_uuid (g.is_named ∙ (let r : p ≡ base_name = cc in r)) ∙ base_name_uuid) in
          record {
            link = link_forked hidden v p h.link e;
            only = by_rows (λ (x : ImageRow). x.parent ≡ Some p → x.name ≡ v)
                (λ q. absurd (not_under q))
                (λ q. absurd (not_under q))
                (λ q. absurd (e (h.link.is_named ∙ sym (h.only own own_there q))))
                (λ x k q. h.only x (was x k) q);
            same_size = by_rows (λ (x : ImageRow). x.name ≡ p → x.size ≡ h.link.child.size)
                (λ q. absurd (no_twin g.parent g.there (ap image_uuid (g.is_named ∙ sym q) ∙ other_uuid)))
                (λ q. (let same : g.parent ≡ own = same_own g.parent g.there (ap image_uuid (g.is_named ∙ sym q) ∙ mine_uuid) in
                let c : true ≡ false = sym g.is_hidden ∙ (ap (λ (i : ImageRow). i.hidden) same ∙ own_shown) in cc))
                (λ q. absurd (no_base g.parent g.there (ap image_uuid (g.is_named ∙ sym q) ∙ base_name_uuid)))
                (λ x k q. h.same_size x (was x k) q);
          }

    hidden_other : (c : ImageRow) → In c s.images → c.hidden ≡ true → c.name ≡ own.name → ⊥
    hidden_other c h hid e =
        let same : c ≡ own = Distinct-key (λ (i : ImageRow). image_uuid i.name) s.images c own w.one_image h own_there (ap image_uuid e) in
        let q : true ≡ false = sym hid ∙ (ap (λ (i : ImageRow). i.hidden) same ∙ own_shown) in cc

    leaf_other : (c : ImageRow) (l : Name) → c.name ≡ l → bytes_eq (image_uuid l) u ≡ false → c.name ≡ own.name → ⊥
    leaf_other c l n e q =
        let t : bytes_eq (image_uuid l) u ≡ true = subst (λ (v : List ℕ). bytes_eq v u ≡ true) (sym (ap image_uuid (sym n ∙ q) ∙ own_uuid)) (bytes_eq-refl u) in cc

    module _ (n : ℕ) (above : s.sequence < n) (most : n ≤ last_sequence) where
      pub fork_operation : (o : Op) → folds o u ≡ false → IsOperation s o → IsOperation (fork n above most o) o
      unfolding folds link_forked only_forked
      fork_operation op.Idle e h = tt
      fork_operation (op.Copy v p cursor) e h = only_forked n above most (op.Copy v p cursor) true v p h (hidden_other h.link.child h.link.there h.link.is_shown)
      fork_operation (op.Relink v p) e h = link_forked n above most (op.Relink v p) true v p h (hidden_other h.child h.there h.is_shown)
      fork_operation (op.Live l p cursor dirty) e h = record {
        only = only_forked n above most (op.Live l p cursor dirty) false l p h.only (leaf_other h.only.link.child l h.only.link.is_named e);
        parent_vhd = h.parent_vhd;
        attached = h.attached;
        thick = λ rw. by_rows (λ (x : ImageRow). x.name ≡ p → thick_in s x.size ≤ x.extents)
            (λ q. absurd (no_twin (up h).parent (up h).there (ap image_uuid ((up h).is_named ∙ sym q) ∙ other_uuid)))
            (λ q. (let same : (up h).parent ≡ own = same_own (up h).parent (up h).there (ap image_uuid ((up h).is_named ∙ sym q) ∙ mine_uuid) in
            let c : true ≡ false = sym (up h).is_hidden ∙ (ap (λ (i : ImageRow). i.hidden) same ∙ own_shown) in cc))
            (λ q. absurd (no_base (up h).parent (up h).there (ap image_uuid ((up h).is_named ∙ sym q) ∙ base_name_uuid)))
            (λ x k q. h.thick rw x (was x k) q);
        within = h.within;
        blocks = h.blocks;
      }
        where
          up : IsLive s l p cursor dirty → HasParent s.images h.only.link.child p
          up h' = w.parents h.only.link.child p h.only.link.there h.only.link.linked
      fork_operation (op.Leaf l p cursor) e h = (only_forked n above most (op.Leaf l p cursor) false l p h.0 (leaf_other h.0.link.child l h.0.link.is_named e), h.1, h.2)

-- users see the disk's image, the twin's, and the others
module _ (s : Shape) (w : IsWellFormed s) (u twin : List ℕ) (f : IsForkable s u twin) where
  pub fork_images_are : fork_images s u twin (disk_image u s) ≡ forked s w u twin f
  fork_images_are = ap (fork_images s u twin) (found_own s w u twin f)

  -- the images have no more extents than before and those that a fork needs
  pub fork_extents : image_extents (fork_images s u twin (disk_image u s)) ≤ image_extents s.images + with_image_of (fork_need s u) (disk_image u s)
  fork_extents = subst (λ (o : Option ImageRow). image_extents (fork_images s u twin o) ≤ image_extents s.images + with_image_of (fork_need s u) o) (sym (found_own s w u twin f)) (forked_extents s w u twin f)

  pub fork_records_are : (read_only : Bool) → fork_records u twin read_only (disk_record u s) s.records ≡ records' s w u twin f read_only
  fork_records_are read_only = ap (λ (r : Option DiskRecord). fork_records u twin read_only r s.records) (found_record s w u twin f)

  pub fork_seen : (P : ImageRow → Type 0)
      → ((i : ImageRow) → image_uuid i.name ≡ twin → i.size ≡ (own s w u twin f).size → P i)
      → ((i : ImageRow) → image_uuid i.name ≡ u → i.size ≡ (own s w u twin f).size → P i)
      → ((i : ImageRow) → i.hidden ≡ true → P i)
      → ((i : ImageRow) → In i s.images → P i) → (i : ImageRow) → In i (forked s w u twin f) → P i
  fork_seen P a b c d = by_rows s w u twin f P (a (other s w u twin f) (other_uuid s w u twin f) refl) (b (mine s w u twin f) (mine_uuid s w u twin f) refl) (c (base s w u twin f) refl) (λ x h. d x (was s w u twin f x h))

  pub twin_is_new : (i : ImageRow) → In i s.images → image_uuid i.name ≡ twin → ⊥
  twin_is_new = no_twin s w u twin f

  pub twin_is_unrecorded : (r : DiskRecord) → In r s.records → r.uuid ≡ twin → ⊥
  twin_is_unrecorded = no_twin_record s w u twin f
