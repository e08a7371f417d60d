-- How many attached disks read through an image, after a change of the images or of the attachments.
use Rattle.std.proofs.Common.{◌≡◌, ◌≢◌, inl, inr, ℕ, zero, suc, ◌+◌, Bool, true, false, not, cond, List, [], ◌∷◌, ◌++◌, map, length, Option, Some, None, refl, sym, ap, ◌∙◌, subst, arith}
use Rattle.std.specs.List.{filter, find, list_any}
use Rattle.std.specs.Option.{option_map}
use Rattle.std.specs.Str.{bytes_eq}
use Rattle.std.proofs.lemmas.Option.{none-some}
use Rattle.std.proofs.lemmas.Bool.{true≢false, true_from_ne_false}
use Rattle.sm_base.specs.declared.names.Name.{Name}
use Rattle.common_laws.specs.Lists.{◌>>=◌, In, Distinct}
use Rattle.common_laws.proofs.Booleans.{not_false}
use Rattle.common_laws.proofs.Bytes.{bytes_eq-same, bytes_eq-refl}
use Rattle.common_laws.proofs.Lists.{In-map_at, Distinct-key, find-some}
use Rattle.sm_machine.specs.Laws.{IsNewImage, IsUnused, IsSeenAlike, one_if}
use Rattle.sm_machine.specs.Shapes.{Shape, ImageRow, Attachment, chain, chain_limit, disk_image, find_image, image_uuid, is_image, is_image_of, parent_of, reads_through, refs, same_image, with_image, without_image}
use Rattle.sm_machine.specs.Steps.{is_attached}
use Rattle.sm_machine.specs.WellFormed.{IsWellFormed}
use Rattle.sm_machine.proofs.Chains.{IsThere, parents_there, parent_of-some, find-insert_other}
use Rattle.sm_machine.proofs.Changes.{find-filter, find-map}
use Rattle.sm_machine.proofs.ImageNames.{other_image, same_image-sound}
use Rattle.sm_machine.proofs.Guests.{disks_own}

-- ---- other images, alike for those who read

abbrev name_of : Option ImageRow → Option Name
name_of o = option_map (λ (i : ImageRow). i.name) o

abbrev through : Name → List ImageRow → Option Name → Bool
through n images None = false
through n images (Some m) = list_any (same_image n) (chain chain_limit m images)

through_named : (n : Name) (images : List ImageRow) (o : Option ImageRow) → (elim o as (λ o. Bool) [ None ↦ false | Some i ↦ list_any (same_image n) (chain chain_limit i.name images) ]) ≡ through n images (name_of o)
through_named n images None = refl
through_named n images (Some i) = refl

filter-alike : {A : Type 0} (f g : A → Bool) (xs : List A) → ((x : A) → In x xs → f x ≡ g x) → filter f xs ≡ filter g xs
filter-alike f g [] same = refl
filter-alike f g (x ∷ xs) same = ap (λ b. cond b (x ∷ filter f xs) (filter f xs)) (same x (inl refl)) ∙ ap (λ ys. cond (g x) (x ∷ ys) ys) (filter-alike f g xs (λ y h. same y (inr h)))

-- where each name that is read has the same parent, and each attached disk the same image by name
module _ (s : Shape) (ys : List ImageRow) (K : Name → Type 0) (alike : (n : Name) → K n → parent_of n ys ≡ parent_of n s.images) (up : (n p : Name) → K n → parent_of n s.images ≡ Some p → K p)
    (image : (a : Attachment) → In a s.attached → name_of (find (is_image_of a.disk) ys) ≡ name_of (disk_image a.disk s))
    (known : (a : Attachment) (m : Name) → In a s.attached → name_of (disk_image a.disk s) ≡ Some m → K m) where
  abbrev rest : ℕ → List ImageRow → Option Name → List Name
  rest most images o = elim o as (λ o. List Name) [ None ↦ [] | Some p ↦ chain most p images ]

  chain_alike : (most : ℕ) (n : Name) → K n → chain most n ys ≡ chain most n s.images
  unfolding chain
  chain_alike zero n k = refl
  chain_alike (suc most) n k = ap (λ o. n ∷ rest most ys o) (alike n k) ∙ ap (λ ns. n ∷ ns) (by (λ p kp. chain_alike most p kp) (parent_of n s.images) refl)
    where
      by : ((p : Name) → K p → chain most p ys ≡ chain most p s.images) → (o : Option Name) → parent_of n s.images ≡ o → rest most ys o ≡ rest most s.images o
      by further None is = refl
      by further (Some p) is = further p (up n p k is)

  refs_alike : (n : Name) → refs n (record s { images = ys }) ≡ refs n s
  unfolding refs
  refs_alike n = ap length (filter-alike (λ a. reads_through n (record s { images = ys }) a.disk) (λ a. reads_through n s a.disk) s.attached (λ a h.
      through_named n ys (find (is_image_of a.disk) ys) ∙ ap (through n ys) (image a h) ∙ by a h (name_of (disk_image a.disk s)) refl ∙ sym (through_named n s.images (disk_image a.disk s))))
    where
      by : (a : Attachment) → In a s.attached → (o : Option Name) → name_of (disk_image a.disk s) ≡ o → through n ys o ≡ through n s.images o
      by a h None is = refl
      by a h (Some m) is = ap (list_any (same_image n)) (chain_alike chain_limit m (known a m h is))

named_there : (u : List ℕ) (images : List ImageRow) (m : Name) (o : Option ImageRow) → find (is_image_of u) images ≡ o → name_of o ≡ Some m → (x : ImageRow) × In x images × (x.name ≡ m) × (is_image_of u x ≡ true)
named_there u images m None is e = absurd (none-some m e)
named_there u images m (Some x) is e = let w = find-some (is_image_of u) images x is in (x, w.0, (let same = e in cc), w.1)

-- ---- images that are seen alike

pub changed_uses : (s : Shape) (g : ImageRow → ImageRow) (n : Name) → IsSeenAlike g → refs n (record s { images = map g s.images }) ≡ refs n s
changed_uses s g n same = refs_alike s (map g s.images) (λ m. Unit {0}) (λ m _. parents m) (λ m p _ _. tt) (λ a h. images a.disk) (λ a m h is. tt) n
  where
    after : (o : Option ImageRow) → (option_map g o >>= (λ i. i.parent)) ≡ (o >>= (λ i. i.parent))
    after None = refl
    after (Some x) = same.parent x

    parents : (m : Name) → parent_of m (map g s.images) ≡ parent_of m s.images
    parents m = ap (λ o. o >>= (λ i. i.parent)) (find-map (is_image m) g (λ y. ap (λ k. same_image k m) (same.name y)) s.images) ∙ after (find_image m s.images)

    named : (o : Option ImageRow) → name_of (option_map g o) ≡ name_of o
    named None = refl
    named (Some x) = ap Some (same.name x)

    shown : (u : List ℕ) (y : ImageRow) → is_image_of u (g y) ≡ is_image_of u y
    shown u y = let a = same.name y in let b = same.hidden y in rw (a, b)

    images : (u : List ℕ) → name_of (find (is_image_of u) (map g s.images)) ≡ name_of (disk_image u s)
    images u = ap name_of (find-map (is_image_of u) g (shown u) s.images) ∙ named (disk_image u s)

-- ---- one image more

module _ (s : Shape) (i : ImageRow) (w : IsWellFormed s) (new : IsNewImage s i) where
  not_there : (m : Name) → IsThere s.images m → m ≢ i.name
  not_there m k same = new.other k.0 k.1 (ap image_uuid (k.2 ∙ same))

  parents_more : (m : Name) → IsThere s.images m → parent_of m (with_image i s.images) ≡ parent_of m s.images
  unfolding with_image
  parents_more m k = ap (λ o. o >>= (λ x. x.parent)) (find-insert_other (is_image m) _ i s.images (other_image i.name m (λ same. not_there m k (sym same))))

  not_its : (a : Attachment) → In a s.attached → is_image_of a.disk i ≡ false
  not_its a h = by (is_image_of a.disk i) refl
    where
      by : (b : Bool) → is_image_of a.disk i ≡ b → b ≡ false
      by false is = refl
      by true is =
          let r = w.attachments.disks a h in
          let v = w.disks r.0 r.1 in
          absurd (new.other v.0 v.1 (v.3 ∙ r.2 ∙ sym (disks_own s w a.disk i is).1))

  pub more_uses : (n : Name) → refs n (record s { images = with_image i s.images }) ≡ refs n s
  unfolding with_image
  more_uses n = refs_alike s (with_image i s.images) (IsThere s.images) parents_more (λ m p k is. parents_there s.images w.parents m p k is)
      (λ a h. ap name_of (find-insert_other (is_image_of a.disk) _ i s.images (not_its a h)))
      (λ a m h is. let x = named_there a.disk s.images m (disk_image a.disk s) refl is in (x.0, x.1, x.2)) n

-- ---- one image less

module _ (s : Shape) (x : Name) (w : IsWellFormed s) (unused : IsUnused s x) where
  gone : (y : ImageRow) → not (is_image x y) ≡ false → y.name ≡ x
  gone y out = same_image-sound y.name x (not_false (same_image y.name x) out)

  parents_less : (m : Name) → m ≢ x → parent_of m (without_image x s.images) ≡ parent_of m s.images
  parents_less m away = ap (λ o. o >>= (λ i. i.parent)) (find-filter (is_image m) (λ y. not (is_image x y)) s.images (λ y h out. other_image y.name m (λ same. away (sym same ∙ gone y out))))

  pub less_uses : (n : Name) → refs n (record s { images = without_image x s.images }) ≡ refs n s
  less_uses n = refs_alike s (without_image x s.images) (λ m. m ≢ x) parents_less
      (λ m p k is same. (let y = parent_of-some s.images m p is in unused.childless y.0 y.1 (y.3 ∙ ap Some same)))
      (λ a h. ap name_of (find-filter (is_image_of a.disk) (λ y. not (is_image x y)) s.images (λ y k out. unused.unattached a y h k (gone y out))))
      (λ a m h is same. (let y = named_there a.disk s.images m (disk_image a.disk s) refl is in
      true≢false (sym y.3 ∙ unused.unattached a y.0 h y.1 (y.2 ∙ same)))) n

-- ---- one attached disk more, and one less

pub attached_uses : (s : Shape) (a : Attachment) (n : Name) → refs n (record s { attached = s.attached ++ a ∷ [] }) ≡ refs n s + one_if (reads_through n s a.disk)
unfolding refs
attached_uses s a n = by s.attached
  where
    reads : Attachment → Bool
    reads b = reads_through n s b.disk

    last : (b : Bool) → length (cond b (a ∷ []) []) ≡ 0 + one_if b
    last true = refl
    last false = refl

    next : (b : Bool) (c : Attachment) (xs ys : List Attachment) (k : ℕ) → length xs ≡ length ys + k → length (cond b (c ∷ xs) xs) ≡ length (cond b (c ∷ ys) ys) + k
    next true c xs ys k same = omega (arith, same)
    next false c xs ys k same = same

    by : (xs : List Attachment) → length (filter reads (xs ++ a ∷ [])) ≡ length (filter reads xs) + one_if (reads a)
    by [] = last (reads a)
    by (c ∷ xs) = next (reads c) c (filter reads (xs ++ a ∷ [])) (filter reads xs) (one_if (reads a)) (by xs)

-- a list without one of its elements has one less that pass, where that passes
module _ {A : Type 0} (f keep : A → Bool) (a : A) (out : keep a ≡ false) where
  kept_whole : (xs : List A) → ((y : A) → In y xs → keep y ≡ true) → filter keep xs ≡ xs
  kept_whole [] all = refl
  kept_whole (x ∷ xs) all = ap (λ b. cond b (x ∷ filter keep xs) (filter keep xs)) (all x (inl refl)) ∙ ap (λ ys. x ∷ ys) (kept_whole xs (λ y h. all y (inr h)))

  first : (b : Bool) (x : A) (ys : List A) → length (cond b (x ∷ ys) ys) ≡ length ys + one_if b
  first true x ys = omega arith
  first false x ys = omega arith

  passes : (b : Bool) (x : A) (xs ys : List A) (k : ℕ) → length xs ≡ length ys + k → length (cond b (x ∷ xs) xs) ≡ length (cond b (x ∷ ys) ys) + k
  passes true x xs ys k same = omega (arith, same)
  passes false x xs ys k same = same

  one_out : {B : Type 0} (key : A → B) (xs : List A) → Distinct (map key xs) → In a xs → ((y : A) → In y xs → keep y ≡ false → y ≡ a)
      → length (filter f xs) ≡ length (filter f (filter keep xs)) + one_if (f a)
  one_out key [] d h only = absurd h
  one_out key (x ∷ xs) d (inl is) only =
      let gone = ap (λ b. cond b (x ∷ filter keep xs) (filter keep xs)) (ap keep (sym is) ∙ out) in
      let whole = kept_whole xs (λ y h. true_from_ne_false (keep y) (λ no. d.0 (subst (λ k. In k (map key xs)) (ap key (only y (inr h) no ∙ is)) (In-map_at key xs y h)))) in
      first (f x) x (filter f xs) ∙ ap (λ ys. length (filter f ys) + one_if (f x)) (sym (gone ∙ whole)) ∙ ap (λ z. length (filter f (filter keep (x ∷ xs))) + one_if (f z)) (sym is)
  one_out key (x ∷ xs) d (inr h) only =
      let stays : keep x ≡ true = true_from_ne_false (keep x) (λ no. d.0 (subst (λ k. In k (map key xs)) (ap key (sym (only x (inl refl) no))) (In-map_at key xs a h))) in
      passes (f x) x (filter f xs) (filter f (filter keep xs)) (one_if (f a)) (one_out key xs d.1 h (λ y k no. only y (inr k) no))
      ∙ ap (λ b. length (filter f (cond b (x ∷ filter keep xs) (filter keep xs))) + one_if (f a)) (sym stays)

pub detached_uses : (s : Shape) (a : Attachment) (n : Name) → IsWellFormed s → In a s.attached
    → refs n s ≡ refs n (record s { attached = filter (λ b. not (is_attached a.disk b)) s.attached }) + one_if (reads_through n s a.disk)
unfolding refs
detached_uses s a n w h = one_out (λ b. reads_through n s b.disk) (λ b. not (is_attached a.disk b)) a (ap not (bytes_eq-refl a.disk)) (λ b. b.disk) s.attached w.attachments.once h
    (λ y k out. Distinct-key (λ b. b.disk) s.attached y a w.attachments.once k h (bytes_eq-same y.disk a.disk (not_false (bytes_eq y.disk a.disk) out)))
