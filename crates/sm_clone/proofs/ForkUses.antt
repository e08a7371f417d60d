-- How often each image is used once a disk is made of another: the base and the disk's new image as often as its image was before, the
-- image of a raw disk not any more, and each other image as before.
use Rattle.std.proofs.Common.{◌≡◌, ◌≢◌, ⊎_elim, inl, inr, ℕ, zero, suc, ◌+◌, ◌-◌, ◌^◌, ◌<◌, ◌≤◌, Bool, true, false, ◌||◌, cond, List, [], ◌∷◌, map, length, Option, Some, None, refl, sym, ap, ap₂, ◌∙◌, subst, arith}
use Rattle.std.specs.List.{filter, find, list_any}
use Rattle.std.specs.Str.{bytes_eq}
use Rattle.std.proofs.lemmas.Bool.{leb-false, true≢false}
use Rattle.common_laws.specs.Lists.{Distinct, In}
use Rattle.common_laws.proofs.Bytes.{bytes_eq-refl, bytes_eq-same}
use Rattle.common_laws.proofs.Lists.{Distinct-key, In-insert_new, In-insert_old, find-only, find-some}
use Rattle.sm_base.specs.Names.{base_uuid}
use Rattle.sm_base.specs.declared.names.Name.{Name}
use Rattle.sm_base.specs.declared.names.Name.TheVariants.{Vhd}
use Rattle.sm_machine.specs.Operations.{Idle}
use Rattle.sm_machine.specs.Refusals.{wanted}
use Rattle.sm_machine.specs.Shapes.{Attachment, ImageRow, Shape, attached_as, chain, chain_limit, disk_image, image_uuid, is_image_of, is_rw, parent_of, reads_through, refs, renamed, same_image, with_image, without_image}
use Rattle.sm_machine.specs.Steps.{child_image, fork_images, fork_shape, forked_images}
use Rattle.sm_machine.specs.WellFormed.{EndsWithin, HasImage, IsWellFormed, is_image_name}
use Rattle.sm_machine.proofs.Attaches.{is_its_image}
use Rattle.sm_machine.proofs.Chains.{IsThere, OfName, parent_of-in, parent_of-some}
use Rattle.sm_machine.proofs.Forks.{IsForkable, fork_keeps}
use Rattle.sm_machine.proofs.Guests.{disk_image_is, disks_own}
use Rattle.sm_machine.proofs.ImageNames.{other_image, same_image-refl}
use Rattle.sm_machine.proofs.Swaps.{In-without, In-without_kept}
use Rattle.sm_ready.proofs.ChainNames.{rest, rest_more, rest_none}
use Rattle.sm_clone.proofs.UseLaws.{based}

-- a chain that ends within so many images is the same where more may follow
ends_same : (k most : ℕ) (images : List ImageRow) (o : Option Name) → EndsWithin k o images → k ≤ most → rest most images o ≡ rest k images o
ends_same k most images None e more = refl
ends_same zero most images (Some n) e more = absurd e
ends_same (suc k) zero images (Some n) e more = absurd (omega (arith, more))
ends_same (suc k) (suc most) images (Some n) e more =
    rest_more most images n ∙ ap (λ ns. n ∷ ns) (ends_same k most images (parent_of n images) e (omega (arith, more))) ∙ sym (rest_more k images n)

none_any : (n : Name) (ns : List Name) → ((x : Name) → In x ns → n ≢ x) → list_any (same_image n) ns ≡ false
none_any n [] away = refl
none_any n (x ∷ ns) away = ap (λ b. b || list_any (same_image n) ns) (other_image n x (away x (inl refl))) ∙ none_any n ns (λ y i. away y (inr i))

or_true : (b : Bool) → (b || true) ≡ true
or_true true = refl
or_true false = refl

-- as many pass two tests that are alike
alike : (f g : Attachment → Bool) (xs : List Attachment) → ((x : Attachment) → In x xs → f x ≡ g x) → length (filter f xs) ≡ length (filter g xs)
alike f g [] same = refl
alike f g (x ∷ xs) same = ap (λ b. length (cond b (x ∷ filter f xs) (filter f xs))) (same x (inl refl)) ∙ by (g x) (alike f g xs (λ y i. same y (inr i)))
  where
    by : (b : Bool) → length (filter f xs) ≡ length (filter g xs) → length (cond b (x ∷ filter f xs) (filter f xs)) ≡ length (cond b (x ∷ filter g xs) (filter g xs))
    by true e = ap suc e
    by false e = e

none_pass : (f : Attachment → Bool) (xs : List Attachment) → ((x : Attachment) → In x xs → f x ≡ false) → length (filter f xs) ≡ 0
none_pass f [] all = refl
none_pass f (x ∷ xs) all = ap (λ b. length (cond b (x ∷ filter f xs) (filter f xs))) (all x (inl refl)) ∙ none_pass f xs (λ y i. all y (inr i))

module _ (σ : Shape) (w : IsWellFormed σ) (u twin : List ℕ) (f : IsForkable σ u twin) (own : ImageRow) (found : disk_image u σ ≡ Some own) where
  its : In own σ.images × (is_image_of u own ≡ true)
  its = find-some (is_image_of u) σ.images own found

  face : (own.hidden ≡ false) × (image_uuid own.name ≡ u)
  face = disks_own σ w u own its.1

  small : σ.sequence < 2 ^ 48 - 16
  small = leb-false (2 ^ 48 - 16) σ.sequence f.not_spent

  abbrev pub to_base : Name
  to_base = renamed own.name (base_uuid σ.sequence)

  abbrev base : ImageRow
  base = record own { name = to_base; hidden = true }

  abbrev leaf : ImageRow
  leaf = child_image σ u to_base own.size (wanted σ (is_rw (attached_as u σ)) own.size)

  abbrev other : ImageRow
  other = child_image σ twin to_base own.size (wanted σ false own.size)

  -- the images that are not the disk's
  abbrev pub kept : List ImageRow
  kept = without_image own.name σ.images

  abbrev pub forked : List ImageRow
  forked = forked_images σ u twin own

  -- ---- what is well formed once it is made

  good : IsWellFormed (record (fork_shape σ u twin true) { sequence = σ.sequence + 1; op = Idle })
  good = fork_keeps σ w u twin f true (σ.sequence + 1) (omega arith) (omega (arith, small)) Idle tt

  pub differ : Distinct (map (λ (i : ImageRow). image_uuid i.name) forked)
  differ = subst (λ (o : Option ImageRow). Distinct (map (λ (i : ImageRow). image_uuid i.name) (fork_images σ u twin o))) found good.one_image

  named : (x : ImageRow) → In x forked → is_image_name x.name ≡ true
  named = subst (λ (o : Option ImageRow). (x : ImageRow) → In x (fork_images σ u twin o) → is_image_name x.name ≡ true) found (λ x i. (good.images x i).named)

  ends : (x : ImageRow) → In x forked → EndsWithin chain_limit (Some x.name) forked
  ends = subst (λ (o : Option ImageRow). (x : ImageRow) → In x (fork_images σ u twin o) → EndsWithin chain_limit (Some x.name) (fork_images σ u twin o)) found good.chains

  leaf_there : In leaf forked
  unfolding with_image
  leaf_there = In-insert_old _ other _ leaf (In-insert_new _ leaf _)

  base_there : In base forked
  unfolding with_image
  base_there = In-insert_old _ other _ base (In-insert_old _ leaf _ base (In-insert_new _ base kept))

  pub kept_there : (x : ImageRow) → In x kept → In x forked
  unfolding with_image
  kept_there x h = In-insert_old _ other _ x (In-insert_old _ leaf _ x (In-insert_old _ base kept x h))

  parent_at : (x : ImageRow) → In x forked → parent_of x.name forked ≡ x.parent
  parent_at x i = parent_of-in forked x differ i (named x i)

  parent_was : (x : ImageRow) → In x σ.images → parent_of x.name σ.images ≡ x.parent
  parent_was x i = parent_of-in σ.images x w.one_image i (w.images x i).named

  -- ---- the names of the others

  pub was : (x : ImageRow) → In x kept → In x σ.images
  was x i = (In-without own.name σ.images x i).0

  same_own : (x : ImageRow) → In x σ.images → image_uuid x.name ≡ u → x ≡ own
  same_own x i is = Distinct-key (λ (y : ImageRow). image_uuid y.name) σ.images x own w.one_image i its.0 (is ∙ sym face.1)

  itself : same_image own.name own.name ≡ true
  itself = same_image-refl own.name (w.images own its.0).named

  not_own : (n : Name) → IsThere kept n → own.name ≢ n
  not_own n k is = true≢false (sym itself ∙ ap (λ (m : Name). same_image m own.name) (is ∙ sym k.2) ∙ (In-without own.name σ.images k.0 k.1).1)

  not_leaf : (n : Name) → IsThere kept n → Vhd u ≢ n
  unfolding image_uuid
  not_leaf n k is = not_own n k (ap (λ (i : ImageRow). i.name) (sym (same_own k.0 (was k.0 k.1) (ap image_uuid (k.2 ∙ sym is)))) ∙ k.2)

  base_is : image_uuid to_base ≡ base_uuid σ.sequence
  base_is = based own.name (base_uuid σ.sequence) (w.images own its.0).named

  no_base : (x : ImageRow) → In x σ.images → to_base ≢ x.name
  no_base x i is = let less : σ.sequence < σ.sequence = w.bases x σ.sequence i (omega (arith, small)) (ap image_uuid (sym is) ∙ base_is) in omega (arith, less)

  not_base : (n : Name) → IsThere kept n → to_base ≢ n
  not_base n k is = no_base k.0 (was k.0 k.1) (is ∙ sym k.2)

  -- a parent is hidden, so it is not the disk's image
  pub parent_kept : (x : ImageRow) (p : Name) → In x σ.images → x.parent ≡ Some p → IsThere kept p
  parent_kept x p i is =
      let h = w.parents x p i is in (
        h.parent,
        In-without_kept own.name σ.images h.parent h.there (λ same.
            true≢false (sym h.is_hidden ∙ ap (λ (y : ImageRow). y.hidden) (same_own h.parent h.there (ap image_uuid same ∙ face.1)) ∙ face.0)),
        h.is_named,
      )

  kept_up : (n p : Name) → parent_of n σ.images ≡ Some p → IsThere kept p
  kept_up n p is = let y = parent_of-some σ.images n p is in parent_kept y.0 p y.1 y.3

  of_kept : (n : Name) (o : Option Name) → parent_of n σ.images ≡ o → OfName (IsThere kept) o
  of_kept n None is = tt
  of_kept n (Some p) is = kept_up n p is

  same_parent : (n : Name) → IsThere kept n → parent_of n forked ≡ parent_of n σ.images
  same_parent n k = subst (λ (m : Name). parent_of m forked ≡ parent_of m σ.images) k.2 (parent_at k.0 (kept_there k.0 k.1) ∙ sym (parent_was k.0 (was k.0 k.1)))

  above_alike : (most : ℕ) (o : Option Name) → OfName (IsThere kept) o → rest most forked o ≡ rest most σ.images o
  above_alike zero o k = rest_none forked o ∙ sym (rest_none σ.images o)
  above_alike (suc most) None k = refl
  above_alike (suc most) (Some n) k =
      rest_more most forked n ∙ ap (λ (o : Option Name). n ∷ rest most forked o) (same_parent n k)
      ∙ ap (λ ns. n ∷ ns) (above_alike most (parent_of n σ.images) (of_kept n (parent_of n σ.images) refl)) ∙ sym (rest_more most σ.images n)

  all_kept : (most : ℕ) (o : Option Name) → OfName (IsThere kept) o → (x : Name) → In x (rest most σ.images o) → IsThere kept x
  all_kept zero o k x i = absurd (subst (λ ns. In x ns) (rest_none σ.images o) i)
  all_kept (suc most) None k x i = absurd i
  all_kept (suc most) (Some n) k x i =
      ⊎_elim (λ is. subst (IsThere kept) (sym is) k) (λ j. all_kept most (parent_of n σ.images) (of_kept n (parent_of n σ.images) refl) x j) (subst (λ ns. In x ns) (rest_more most σ.images n) i)

  -- ---- the chain of the disk

  own_parent : OfName (IsThere kept) own.parent
  own_parent = by own.parent refl
    where
      by : (o : Option Name) → own.parent ≡ o → OfName (IsThere kept) o
      by None is = tt
      by (Some p) is = parent_kept own p its.0 is

  -- the names above the disk's image
  abbrev above : List Name
  above = rest 28 σ.images own.parent

  ends_above : EndsWithin 28 own.parent forked
  ends_above =
      subst (λ (o : Option Name). EndsWithin 28 o forked) (parent_at base base_there)
      (subst (λ (o : Option Name). EndsWithin 29 o forked) (parent_at leaf leaf_there) (ends leaf leaf_there))

  chain_was : chain chain_limit own.name σ.images ≡ own.name ∷ above
  chain_was =
      rest_more 29 σ.images own.name ∙ ap (λ (o : Option Name). own.name ∷ rest 29 σ.images o) (parent_was own its.0)
      ∙ ap (λ ns. own.name ∷ ns) (sym (above_alike 29 own.parent own_parent) ∙ ends_same 28 29 forked own.parent ends_above (omega arith) ∙ above_alike 28 own.parent own_parent)

  chain_then : chain chain_limit (Vhd u) forked ≡ Vhd u ∷ to_base ∷ above
  chain_then =
      rest_more 29 forked (Vhd u) ∙ ap (λ (o : Option Name). Vhd u ∷ rest 29 forked o) (parent_at leaf leaf_there)
      ∙ ap (λ ns. Vhd u ∷ ns) (rest_more 28 forked to_base ∙ ap (λ (o : Option Name). to_base ∷ rest 28 forked o) (parent_at base base_there)
      ∙ ap (λ ns. to_base ∷ ns) (above_alike 28 own.parent own_parent))

  none_above : (n : Name) → ((x : Name) → IsThere kept x → n ≢ x) → list_any (same_image n) above ≡ false
  none_above n away = none_any n above (λ x i. away x (all_kept 28 own.parent own_parent x i))

  -- ---- who reads through an image

  abbrev then : Shape
  then = record σ { images = forked }

  abbrev through : Name → List ImageRow → Option ImageRow → Bool
  through n images o = elim o as (λ _. Bool) [ None ↦ false | Some i ↦ list_any (same_image n) (chain chain_limit i.name images) ]

  image_at : (v : List ℕ) (i : ImageRow) → In i forked → is_image_of v i ≡ true → find (is_image_of v) forked ≡ Some i
  image_at v i there is = find-only (is_image_of v) forked i there is
      (λ y k q. Distinct-key (λ (z : ImageRow). image_uuid z.name) forked y i differ k there ((disks_own σ w v y q).1 ∙ sym (disks_own σ w v i is).1))

  own_reads : (n : Name) → reads_through n then u ≡ (same_image n (Vhd u) || (same_image n to_base || list_any (same_image n) above))
  unfolding image_uuid
  own_reads n = ap (through n forked) (image_at u leaf leaf_there (is_its_image leaf u refl refl)) ∙ ap (list_any (same_image n)) chain_then

  own_read : (n : Name) → reads_through n σ u ≡ (same_image n own.name || list_any (same_image n) above)
  own_read n = ap (through n σ.images) found ∙ ap (list_any (same_image n)) chain_was

  -- an attached disk has an image
  attached_image : (a : Attachment) → In a σ.attached → HasImage σ a.disk
  attached_image a i = let r = w.attachments.disks a i in let h = w.disks r.0 r.1 in (h.0, h.1, h.2, h.3 ∙ r.2)

  module _ (a : Attachment) (i : In a σ.attached) (away : a.disk ≢ u) where
    abbrev its_row : ImageRow
    its_row = (attached_image a i).0

    row_is : is_image_of a.disk its_row ≡ true
    row_is = let h = attached_image a i in is_its_image h.0 a.disk h.2 h.3

    row_kept : In its_row kept
    row_kept = let h = attached_image a i in In-without_kept own.name σ.images h.0 h.1 (λ same. away (sym h.3 ∙ ap image_uuid same ∙ face.1))

    is_kept : IsThere kept its_row.name
    is_kept = (its_row, row_kept, refl)

    other_read : (n : Name) → reads_through n σ a.disk ≡ list_any (same_image n) (chain chain_limit its_row.name σ.images)
    other_read n = ap (through n σ.images) (disk_image_is σ w a.disk its_row (attached_image a i).1 row_is)

    other_reads : (n : Name) → reads_through n then a.disk ≡ reads_through n σ a.disk
    other_reads n =
        ap (through n forked) (image_at a.disk its_row (kept_there its_row row_kept) row_is)
        ∙ ap (list_any (same_image n)) (above_alike chain_limit (Some its_row.name) is_kept) ∙ sym (other_read n)

    not_read : (n : Name) → ((x : Name) → IsThere kept x → n ≢ x) → reads_through n σ a.disk ≡ false
    not_read n apart = other_read n ∙ none_any n (chain chain_limit its_row.name σ.images) (λ x j. apart x (all_kept chain_limit (Some its_row.name) is_kept x j))

  -- disk by disk: what holds of the disk that is forked, and of each other that is attached
  by_disk : (P : Attachment → Type 0) → ((a : Attachment) → a.disk ≡ u → P a) → ((a : Attachment) → In a σ.attached → a.disk ≢ u → P a) → (a : Attachment) → In a σ.attached → P a
  by_disk P mine others a i = by (bytes_eq a.disk u) refl
    where
      by : (b : Bool) → bytes_eq a.disk u ≡ b → P a
      by true e = mine a (bytes_eq-same a.disk u e)
      by false e = others a i (λ same. true≢false (sym (ap (λ v. bytes_eq v u) same ∙ bytes_eq-refl u) ∙ e))

  -- a name that the others do not have, which is the first or the second of the disk's chain
  as_own : (n : Name) → ((x : Name) → IsThere kept x → n ≢ x) → reads_through n then u ≡ true → (a : Attachment) → In a σ.attached → reads_through n then a.disk ≡ reads_through own.name σ a.disk
  as_own n apart mine = by_disk (λ a. reads_through n then a.disk ≡ reads_through own.name σ a.disk)
      (λ a is. ap (λ v. reads_through n then v) is ∙ mine ∙ sym (ap (λ v. reads_through own.name σ v) is ∙ own_read own.name ∙ ap (λ b. b || list_any (same_image own.name) above) itself))
      (λ a i away. other_reads a i away n ∙ not_read a i away n apart ∙ sym (not_read a i away own.name not_own))

  base_read : reads_through to_base then u ≡ true
  base_read = own_reads to_base ∙ ap (λ b. same_image to_base (Vhd u) || (b || list_any (same_image to_base) above)) (same_image-refl to_base (named base base_there)) ∙ or_true (same_image to_base (Vhd u))

  leaf_read : reads_through (Vhd u) then u ≡ true
  unfolding is_image_name
  leaf_read = own_reads (Vhd u) ∙ ap (λ b. b || (same_image (Vhd u) to_base || list_any (same_image (Vhd u)) above)) (same_image-refl (Vhd u) refl)

  gone_read : own.name ≢ Vhd u → (a : Attachment) → In a σ.attached → reads_through own.name then a.disk ≡ false
  gone_read raw = by_disk (λ a. reads_through own.name then a.disk ≡ false)
      (λ a is. ap (λ v. reads_through own.name then v) is ∙ own_reads own.name
      ∙ ap (λ b. b || (same_image own.name to_base || list_any (same_image own.name) above)) (other_image own.name (Vhd u) raw)
      ∙ ap₂ (λ b c. b || c) (other_image own.name to_base (λ is. no_base own its.0 (sym is))) (none_above own.name not_own))
      (λ a i away. other_reads a i away own.name ∙ not_read a i away own.name not_own)

  other_name : (n : Name) → n ≢ to_base → n ≢ Vhd u → n ≢ own.name → (a : Attachment) → In a σ.attached → reads_through n then a.disk ≡ reads_through n σ a.disk
  other_name n base_not leaf_not own_not = by_disk (λ a. reads_through n then a.disk ≡ reads_through n σ a.disk)
      (λ a is. ap (λ v. reads_through n then v) is ∙ own_reads n
      ∙ ap₂ (λ b c. b || (c || list_any (same_image n) above)) (other_image n (Vhd u) leaf_not) (other_image n to_base base_not)
      ∙ sym (ap (λ v. reads_through n σ v) is ∙ own_read n ∙ ap (λ b. b || list_any (same_image n) above) (other_image n own.name own_not)))
      (λ a i away. other_reads a i away n)

  -- ---- how often each is used, whatever the sequence number

  module _ (read_only : Bool) (k : ℕ) where
    abbrev pub made : Shape
    made = record (fork_shape σ u twin read_only) { sequence = k }

    as_then : (n : Name) → refs n made ≡ refs n then
    unfolding refs
    as_then n = ap (λ (o : Option ImageRow). length (filter (λ a. through n (fork_images σ u twin o) (find (is_image_of a.disk) (fork_images σ u twin o))) σ.attached)) found

    pub uses_base : refs to_base made ≡ refs own.name σ
    unfolding refs
    uses_base = as_then to_base ∙ alike (λ a. reads_through to_base then a.disk) (λ a. reads_through own.name σ a.disk) σ.attached (as_own to_base not_base base_read)

    pub uses_leaf : refs (Vhd u) made ≡ refs own.name σ
    unfolding refs
    uses_leaf = as_then (Vhd u) ∙ alike (λ a. reads_through (Vhd u) then a.disk) (λ a. reads_through own.name σ a.disk) σ.attached (as_own (Vhd u) not_leaf leaf_read)

    pub uses_gone : own.name ≢ Vhd u → refs own.name made ≡ 0
    unfolding refs
    uses_gone raw = as_then own.name ∙ none_pass (λ a. reads_through own.name then a.disk) σ.attached (gone_read raw)

    pub uses_other : (n : Name) → n ≢ to_base → n ≢ Vhd u → n ≢ own.name → refs n made ≡ refs n σ
    unfolding refs
    uses_other n base_not leaf_not own_not = as_then n ∙ alike (λ a. reads_through n then a.disk) (λ a. reads_through n σ a.disk) σ.attached (other_name n base_not leaf_not own_not)
