-- A disk is attached, or detached: the images of its chain are counted, and the shape is the machine's.
use Rattle.std.proofs.Common.{◌≡◌, ◌≢◌, inl, inr, ℕ, ◌+◌, ◌<◌, ◌≤◌, Bool, true, false, not, cond, if◌then◌else◌, List, [], ◌∷◌, ◌++◌, map, length, Option, Some, None, refl, sym, ap, ap₂, ◌∙◌, subst, arith, ⊎_elim}
use Rattle.std.specs.Prelude.{AllPairs, nat_lt, is_none, is_some}
use Rattle.std.proofs.Math.Logic.{∥∥₁_elim}
use Rattle.std.proofs.Props.{props}
use Rattle.std.specs.List.{filter, find, list_any}
use Rattle.std.specs.Str.{bytes_eq}
use Rattle.std.proofs.lemmas.Bool.{true≢false}
use Rattle.std.proofs.lemmas.List.{length-map, map_push}
use Rattle.sm_base.specs.declared.names.Name.{Name}
use Rattle.sm_base.specs.declared.operations.Mode.{Mode}
use Rattle.sm_base.specs.declared.operations.Mode.TheVariants.{Ro, Rw}
use Rattle.common_laws.specs.Lists.{◌>>=◌, In, Distinct, change, when}
use Rattle.common_laws.proofs.Bytes.{bytes_eq-same}
use Rattle.common_laws.proofs.Lists.{In-map, In-map_at, find-some}
use Rattle.vg_meta.specs.Tables.{VolumeTable}
use Rattle.vg_volumes.specs.Sites.{Site}
use Rattle.vg_volumes.specs.declared.stores.Store.{Ghosts}
use Rattle.vhd_chain.specs.Trees.{row_name, tree_row}
use Rattle.sm_base.specs.declared.names.Name.TheVariants.{Vhd, Raw}
use Rattle.common_laws.proofs.Options.{none_of_some}
use Rattle.sm_refs.specs.Attached.{Attached, CountsLess, CountsMore, HoldsChain, count_of, has, mode_of, one_in, without}
use Rattle.sm_machine.specs.declared.commands.Command.TheVariants.{Attach, Detach}
use Rattle.sm_machine.specs.Commits.{gives_up, growth_commits, is_given_up, own_commits}
use Rattle.sm_machine.specs.Laws.{one_if}
use Rattle.sm_machine.specs.Refusals.{is_in_use, is_not_attached, named, lacking, need, refusal, with_image_of}
use Rattle.sm_machine.specs.Shapes.{Attachment, ImageRow, Shape, attached_as, chain, chain_limit, disk_image, image_limit, image_uuid, is_image_of, reads_through, refs, same_image}
use Rattle.sm_machine.specs.Disks.{Disk}
use Rattle.sm_machine.specs.Steps.{disks_next, attach_images, is_attached, shape_after, shape_next}
use Rattle.sm_machine.specs.WellFormed.{HasImage, IsWellFormed, is_image_name}
use Rattle.sm_machine.proofs.Chains.{IsThere, parents_there}
use Rattle.sm_machine.proofs.Changes.{filter_le}
use Rattle.sm_machine.proofs.Guests.{disk_image_is, mode_none}
use Rattle.sm_machine.proofs.ImageNames.{same_image-sound}
use Rattle.sm_machine.proofs.Passed.{passed}
use Rattle.sm_machine.proofs.Uses.{attached_uses, detached_uses}
use Rattle.sm_ready.specs.Framing.{IsBetweenSteps}
use Rattle.sm_ready.specs.Known.{Known, known, machine_row, shape_in}
use Rattle.sm_ready.specs.Orderly.{IsOrderly}
use Rattle.sm_ready.specs.declared.memory.Memory.{Memory}
use Rattle.sm_ready.proofs.ChainLaws.{tab}
use Rattle.sm_ready.proofs.NewLaws.{well_target}
use Rattle.sm_ready.proofs.OnceLaws.{any_In}
use Rattle.sm_ready.proofs.Orders.{named_row}
use Rattle.sm_ready.proofs.OwnLaws.{IsOwn, next_shape, own_image, own_name, own_row, step_shape}
use Rattle.sm_ready.proofs.RefusalLaws.{few_rows}
use Rattle.sm_ready.proofs.UsedLaws.{orderly_used, with_attached}
use Rattle.cmd_attach.specs.Attaching.{AreImages}
use Rattle.sm_ready.proofs.ChainNames.{rest_differs, rest_there}
use Rattle.cmd_attach.proofs.ChainLaws.{differ_by_place}
use Rattle.sm_ready.proofs.UseLaws.{In_has, attachment, has_In, has_alike, mode_alike, no_more, others_alike}

pub images_all : (s : Site) (t : VolumeTable) (m : Known) → IsOrderly s t m → AreImages m.rows
images_all s t m o r i = named_row s t m r o i

module _ (s : Site) (t : VolumeTable) (m : Known) (u : List ℕ) (o : IsOrderly s t m) (own : IsOwn m u) where
  abbrev σ : Shape
  σ = shape_in s t m

  -- the names of the disk's chain
  abbrev pub names : List Name
  names = chain chain_limit (row_name own.row) (map machine_row m.rows)

  own_there : IsThere (map machine_row m.rows) (row_name own.row)
  own_there = (machine_row own.row, In-map_at machine_row m.rows own.row own.there, refl)

  -- each once
  pub differ : AllPairs (λ a b. a ≢ b) names
  unfolding shape_in
  differ i j d less below = ∥∥₁_elim o.well_formed (hlevel props) (λ w.
      differ_by_place names (rest_differs chain_limit chain_limit (map machine_row m.rows) (Some (row_name own.row)) (w.chains (machine_row own.row) (In-map_at machine_row m.rows own.row own.there))) i j d less below)

  named_in : IsWellFormed σ → (x : Name) → In x names → In x (map row_name m.rows)
  unfolding shape_in
  named_in w x i =
      let y = rest_there (map machine_row m.rows) (λ n p there is. parents_there (map machine_row m.rows) w.parents n p there is) chain_limit (Some (row_name own.row))
      (λ n is. subst (IsThere (map machine_row m.rows)) (let e = is in cc) own_there) x i in
      let q = In-map machine_row m.rows y.0 y.1 in
      subst (λ n. In n (map row_name m.rows)) (sym (ap (λ (z : ImageRow). z.name) q.2) ∙ y.2) (In-map_at row_name m.rows q.0 q.1)

  image_in : (x : Name) → In x (map row_name m.rows) → is_image_name x ≡ true
  image_in x i = let q = In-map row_name m.rows x i in subst (λ n. is_image_name n ≡ true) (sym q.2) (named_row s t m q.0 o q.1)

  -- whether an image is in it, by the machine
  pub in_chain : (n : Name) → has names n ≡ reads_through n σ u
  unfolding shape_in
  in_chain n = ∥∥₁_elim o.well_formed (hlevel props) (λ w.
      has_alike n names (λ x i. image_in x (named_in w x i))
      ∙ sym (ap (λ (i : Option ImageRow). elim i as (λ _. Bool) [ None ↦ false | Some y ↦ list_any (same_image n) (chain chain_limit y.name (map machine_row m.rows)) ]) (own_image s t m u o own)))

  counted_as : (n : Name) → one_in names n ≡ one_if (reads_through n σ u)
  counted_as n = ap (λ b. cond b 1 0) (in_chain n)

-- ---- how many are attached

-- disks that differ are no more than images
few_disks : (σ : Shape) (us : List (List ℕ)) → IsWellFormed σ → Distinct us → ((u : List ℕ) → In u us → HasImage σ u) → length us ≤ image_limit
few_disks σ us w differ images =
    let within = no_more us (map (λ (i : ImageRow). image_uuid i.name) σ.images) differ
    (λ u i. let h = images u i in subst (λ v. In v (map (λ (i : ImageRow). image_uuid i.name) σ.images)) h.3 (In-map_at (λ (i : ImageRow). image_uuid i.name) σ.images h.0 h.1)) in
    omega (arith, within, w.few, length-map σ.images (λ (i : ImageRow). image_uuid i.name))

attached_image : (σ : Shape) (u : List ℕ) → IsWellFormed σ → In u (map (λ (a : Attachment). a.disk) σ.attached) → HasImage σ u
attached_image σ u w i =
    let a = In-map (λ (a : Attachment). a.disk) σ.attached u i in
    let r = w.attachments.disks a.0 a.1 in
    let h = w.disks r.0 r.1 in
    (h.0, h.1, h.2, h.3 ∙ r.2 ∙ sym a.2)

pub few_attached : (s : Site) (t : VolumeTable) (m : Known) → IsOrderly s t m → length m.attached.disks ≤ image_limit
unfolding shape_in
few_attached s t m o = ∥∥₁_elim o.well_formed (hlevel props) (λ w.
    let few = few_disks (shape_in s t m) (map (λ (a : Attachment). a.disk) (shape_in s t m).attached) w w.attachments.once (λ u i. attached_image (shape_in s t m) u w i) in
    omega (arith, few, length-map (map attachment m.attached.disks) (λ (a : Attachment). a.disk), length-map m.attached.disks attachment))

-- a disk that is not attached is one more
pub room_for_one : (s : Site) (t : VolumeTable) (m : Known) (u : List ℕ) → IsOrderly s t m → IsOwn m u → attached_as u (shape_in s t m) ≡ None → length m.attached.disks < image_limit
unfolding shape_in
room_for_one s t m u o own none = ∥∥₁_elim o.well_formed (hlevel props) (λ w.
    let us = map (λ (a : Attachment). a.disk) (shape_in s t m).attached in
    let few = few_disks (shape_in s t m) (u ∷ us) w (
      λ i. (let a = In-map (λ (a : Attachment). a.disk) (shape_in s t m).attached u i in mode_none u (shape_in s t m).attached none a.0 a.1 (sym a.2)),
      w.attachments.once,
    ) (λ v i. ⊎_elim
    (λ same. (machine_row own.row, In-map_at machine_row m.rows own.row own.there, own.shown, own.uuid ∙ sym same))
    (λ before. attached_image (shape_in s t m) v w before) i) in
    omega (arith, few, length-map (map attachment m.attached.disks) (λ (a : Attachment). a.disk), length-map m.attached.disks attachment))

-- ---- how often an image is used

pub few_uses : (s : Site) (t : VolumeTable) (m : Known) (n : Name) → IsOrderly s t m → count_of m.attached n ≤ image_limit
unfolding shape_in refs
few_uses s t m n o =
    let few = few_attached s t m o in
    let some = filter_le (λ (a : Attachment). reads_through n (shape_in s t m) a.disk) (map attachment m.attached.disks) in
    omega (arith, few, some, o.counts n, length-map m.attached.disks attachment)

-- an image that is used is there
used_there : (s : Site) (t : VolumeTable) (m : Known) (n : Name) → IsWellFormed (shape_in s t m) → 0 < refs n (shape_in s t m) → In n (map row_name m.rows)
unfolding shape_in refs
used_there s t m n w some = by (shape_in s t m).attached some
  where
    through : (u : List ℕ) (x : Option ImageRow) → disk_image u (shape_in s t m) ≡ x → reads_through n (shape_in s t m) u ≡ true → In n (map row_name m.rows)
    through u None is e = absurd (true≢false (sym e ∙ ap (λ (i : Option ImageRow). elim i as (λ _. Bool) [ None ↦ false | Some y ↦ list_any (same_image n) (chain chain_limit y.name (map machine_row m.rows)) ]) is))
    through u (Some i) is e =
        let f = find-some (is_image_of u) (map machine_row m.rows) i is in
        let any = sym (ap (λ (i : Option ImageRow). elim i as (λ _. Bool) [ None ↦ false | Some y ↦ list_any (same_image n) (chain chain_limit y.name (map machine_row m.rows)) ]) is) ∙ e in
        let x = any_In (same_image n) (chain chain_limit i.name (map machine_row m.rows)) any in
        let y = rest_there (map machine_row m.rows) (λ n p there is. parents_there (map machine_row m.rows) w.parents n p there is) chain_limit (Some i.name)
        (λ k is. (i, f.0, (let same = is in cc))) x.0 x.1 in
        let q = In-map machine_row m.rows y.0 y.1 in
        subst (λ k. In k (map row_name m.rows)) (sym (ap (λ (z : ImageRow). z.name) q.2) ∙ y.2 ∙ sym (same_image-sound n x.0 x.2)) (In-map_at row_name m.rows q.0 q.1)

    by : (xs : List Attachment) → 0 < length (filter (λ a. reads_through n (shape_in s t m) a.disk) xs) → In n (map row_name m.rows)
    by [] h = absurd (omega (arith, h))
    by (a ∷ xs) h = pick (reads_through n (shape_in s t m) a.disk) refl (by xs) h
      where
        pick : (b : Bool) → reads_through n (shape_in s t m) a.disk ≡ b → (0 < length (filter (λ a. reads_through n (shape_in s t m) a.disk) xs) → In n (map row_name m.rows))
            → 0 < length (cond b (a ∷ filter (λ a. reads_through n (shape_in s t m) a.disk) xs) (filter (λ a. reads_through n (shape_in s t m) a.disk) xs)) → In n (map row_name m.rows)
        pick true e further h = through a.disk (disk_image a.disk (shape_in s t m)) refl e
        pick false e further h = further h

-- all images that are used, and those of the chain, fit
pub room_for_chain : (s : Site) (t : VolumeTable) (m : Known) (u : List ℕ) (o : IsOrderly s t m) (own : IsOwn m u) → image_limit ≤ m.attached.room → HoldsChain m.attached.counts (names s t m u o own) m.attached.room
room_for_chain s t m u o own room = record {
  names = map row_name m.rows;
  few = let few = few_rows s t m o in omega (arith, few, room, length-map m.rows row_name);
  counted = λ n some. ∥∥₁_elim o.well_formed (hlevel props) (λ w. In_has n (map row_name m.rows) (used_there s t m n w (subst (λ k. 0 < k) (o.counts n) some)));
  added = λ n h. ∥∥₁_elim o.well_formed (hlevel props) (λ w. In_has n (map row_name m.rows) (named_in s t m u o own w n (has_In n (names s t m u o own) h)));
}

-- ---- attached

-- where a change leaves what it speaks of
pub change_none : {A : Type 0} (test : A → Bool) (f : A → A) (xs : List A) → ((x : A) → In x xs → test x ≡ true → f x ≡ x) → change test f xs ≡ xs
change_none test f [] same = refl
change_none test f (x ∷ xs) same = ap₂ (λ y ys. y ∷ ys) (by (test x) refl) (change_none test f xs (λ y i e. same y (inr i) e))
  where
    by : (b : Bool) → test x ≡ b → when b f x ≡ x
    by true e = same x (inl refl) e
    by false e = refl

module _ (s : Site) (t : VolumeTable) (m : Known) (u : List ℕ) (mode : Mode) (a : Attached) (o : IsOrderly s t m) (own : IsOwn m u) (passes : refusal (shape_in s t m) (Attach u mode) ≡ None) (keeps : is_given_up (shape_in s t m) (Attach u mode) ≡ false)
    (enough : need (shape_in s t m) (Attach u mode) ≡ 0) (ds : a.disks ≡ m.attached.disks ++ (u, mode) ∷ []) (more : CountsMore (names s t m u o own) m.attached a) where
  more_attached : (shape_in s t (with_attached a m)) ≡ record (shape_in s t m) { attached = (shape_in s t m).attached ++ record { disk = u; mode = mode } ∷ [] }
  unfolding shape_in
  more_attached = ap (λ xs. record (shape_in s t m) { attached = xs }) (ap (map attachment) ds ∙ map_push attachment m.attached.disks (u, mode))

  enough_images : (c : Mode) → c ≡ mode → attach_images (shape_in s t m) u c ≡ (shape_in s t m).images
  unfolding need
  enough_images Ro is = refl
  enough_images Rw is = change_none (is_image_of u) (λ i. record i { extents = i.extents + lacking (shape_in s t m) i }) (shape_in s t m).images (λ i there own_is. ∥∥₁_elim o.well_formed (hlevel props) (λ w.
      let lacks = sym (ap (with_image_of (lacking (shape_in s t m))) (disk_image_is (shape_in s t m) w u i there own_is)) ∙ (subst (λ (x : Mode). need (shape_in s t m) (Attach u x) ≡ 0) (sym is) enough) in
      ap (λ k. let x : ImageRow = record i { extents = i.extents + k } in x) lacks ∙ ap (λ k. let x : ImageRow = record i { extents = k } in x) (omega arith)))

  no_commits : (c : Mode) → c ≡ mode → own_commits (shape_in s t m) (Attach u c) ≡ 0
  unfolding own_commits
  no_commits Ro is = refl
  no_commits Rw is = ap (λ k. growth_commits (nat_lt 0 k)) (subst (λ (x : Mode). need (shape_in s t m) (Attach u x) ≡ 0) (sym is) enough)

  pub attached_shape : shape_in s t (with_attached a m) ≡ shape_next (shape_in s t m) (Attach u mode)
  unfolding shape_after
  attached_shape = ∥∥₁_elim o.well_formed (hlevel props) (λ w.
      more_attached
      ∙ ap (λ is. record (shape_in s t m) { images = is; attached = (shape_in s t m).attached ++ record { disk = u; mode = mode } ∷ [] }) (sym (enough_images mode refl))
      ∙ sym (next_shape (shape_in s t m) (Attach u mode) w keeps (no_commits mode refl)))

  pub attached_orderly : IsOrderly s t (with_attached a m)
  attached_orderly = orderly_used s t m a o
      (well_target s t m (Attach u mode) (record { disks = []; shape = shape_in s t m }) (shape_in s t (with_attached a m)) o refl
      (attached_shape ∙ sym (step_shape (record { disks = []; shape = shape_in s t m }) (Attach u mode) passes)))
      (λ n. more n ∙ ap₂ (λ x y. x + y) (o.counts n) (counted_as s t m u o own n) ∙ sym (attached_uses (shape_in s t m) (record { disk = u; mode = mode }) n) ∙ ap (refs n) (sym more_attached))

-- ---- detached

-- how the disk was attached
was : (s : Site) (t : VolumeTable) (m : Known) (u : List ℕ) → refusal (shape_in s t m) (Detach u) ≡ None → (x : Attachment) × In x (shape_in s t m).attached × (x.disk ≡ u)
unfolding is_not_attached
was s t m u passes = by (find (λ (x : Attachment). bytes_eq x.disk u) (shape_in s t m).attached) refl (passed (shape_in s t m) (Detach u) passes).not_attached
  where
    by : (x : Option Attachment) → find (λ (x : Attachment). bytes_eq x.disk u) (shape_in s t m).attached ≡ x → is_none (x >>= (λ (y : Attachment). Some y.mode)) ≡ false → (x : Attachment) × In x (shape_in s t m).attached × (x.disk ≡ u)
    by None is e = absurd (true≢false e)
    by (Some x) is e = let f = find-some (λ (x : Attachment). bytes_eq x.disk u) (shape_in s t m).attached x is in (x, f.0, bytes_eq-same x.disk u f.1)

pub mode_was : (s : Site) (t : VolumeTable) (m : Known) (u : List ℕ) → refusal (shape_in s t m) (Detach u) ≡ None → is_some (mode_of m.attached u) ≡ true
unfolding is_not_attached shape_in
mode_was s t m u passes = by (mode_of m.attached u) (sym (ap is_none (mode_alike u m.attached.disks)) ∙ (passed (shape_in s t m) (Detach u) passes).not_attached)
  where
    by : (x : Option Mode) → is_none x ≡ false → is_some x ≡ true
    by None e = absurd (true≢false e)
    by (Some x) e = refl

module _ (s : Site) (t : VolumeTable) (m : Known) (u : List ℕ) (a : Attached) (o : IsOrderly s t m) (own : IsOwn m u) (passes : refusal (shape_in s t m) (Detach u) ≡ None) (keeps : is_given_up (shape_in s t m) (Detach u) ≡ false)
    (ds : a.disks ≡ without u m.attached.disks) (less : CountsLess (names s t m u o own) m.attached a) where
  fewer_attached : shape_in s t (with_attached a m) ≡ record (shape_in s t m) { attached = filter (λ b. not (is_attached u b)) (shape_in s t m).attached }
  unfolding shape_in
  fewer_attached = ap (λ xs. record (shape_in s t m) { attached = xs }) (ap (map attachment) ds ∙ others_alike u m.attached.disks)

  pub detached_shape : shape_in s t (with_attached a m) ≡ shape_next (shape_in s t m) (Detach u)
  unfolding shape_after own_commits
  detached_shape = ∥∥₁_elim o.well_formed (hlevel props) (λ w. fewer_attached ∙ sym (next_shape (shape_in s t m) (Detach u) w keeps refl))

  pub detached_orderly : IsOrderly s t (with_attached a m)
  detached_orderly = orderly_used s t m a o
      (well_target s t m (Detach u) (record { disks = []; shape = shape_in s t m }) (shape_in s t (with_attached a m)) o refl
      (detached_shape ∙ sym (step_shape (record { disks = []; shape = shape_in s t m }) (Detach u) passes)))
      (λ n. ∥∥₁_elim o.well_formed (hlevel props) (λ w.
      let x = was s t m u passes in
      let uses = detached_uses (shape_in s t m) x.0 n w x.1 in
      let here = subst (λ (v : List ℕ). refs n (shape_in s t m) ≡ refs n (record (shape_in s t m) { attached = filter (λ b. not (is_attached v b)) (shape_in s t m).attached }) + one_if (reads_through n (shape_in s t m) v)) x.2 uses in
      let now = ap (refs n) fewer_attached in
      omega (arith, less n, o.counts n, counted_as s t m u o own n, here, now)))

-- each image of a disk that is attached is used
pub counted_in : (s : Site) (t : VolumeTable) (m : Known) (u : List ℕ) (n : Name) (o : IsOrderly s t m) (own : IsOwn m u) → refusal (shape_in s t m) (Detach u) ≡ None → In n (names s t m u o own) → 0 < count_of m.attached n
counted_in s t m u n o own passes i = ∥∥₁_elim o.well_formed (hlevel props) (λ w.
    let x = was s t m u passes in
    let uses = detached_uses (shape_in s t m) x.0 n w x.1 in
    let here = subst (λ (v : List ℕ). refs n (shape_in s t m) ≡ refs n (record (shape_in s t m) { attached = filter (λ b. not (is_attached v b)) (shape_in s t m).attached }) + one_if (reads_through n (shape_in s t m) v)) x.2 uses in
    let one : one_if (reads_through n (shape_in s t m) u) ≡ 1 = ap one_if (sym (in_chain s t m u o own n) ∙ In_has n (names s t m u o own) i) in
    omega (arith, here, one, o.counts n))

-- ---- as the calls know it

pub own_attach : (s : Site) (t : VolumeTable) (m : Known) (u : List ℕ) (mode : Mode) → IsOrderly s t m → refusal (shape_in s t m) (Attach u mode) ≡ None → IsOwn m u
unfolding named
own_attach s t m u mode o passes = own_row s t m (Attach u mode) u o passes refl

pub own_detach : (s : Site) (t : VolumeTable) (m : Known) (u : List ℕ) → IsOrderly s t m → refusal (shape_in s t m) (Detach u) ≡ None → IsOwn m u
unfolding named
own_detach s t m u o passes = own_row s t m (Detach u) u o passes refl

-- the names that were put into a buffer are those of the disk's chain
pub chain_is : (s : Site) (t : VolumeTable) (m : Known) (u : List ℕ) (o : IsOrderly s t m) (own : IsOwn m u) (leaf : Name) (found : List Name)
    → leaf ≡ (if is_some (tree_row m.rows (Vhd u)) then Vhd u else Raw u) → found ≡ chain chain_limit leaf (map machine_row m.rows) → found ≡ names s t m u o own
chain_is s t m u o own leaf found named is = is ∙ ap (λ n. chain chain_limit n (map machine_row m.rows)) (own_name s t m u leaf o own named)

pub mode_none_yet : (s : Site) (t : VolumeTable) (m : Known) (u : List ℕ) (mode : Mode) → refusal (shape_in s t m) (Attach u mode) ≡ None → attached_as u (shape_in s t m) ≡ None
unfolding is_in_use
mode_none_yet s t m u mode passes = none_of_some (attached_as u (shape_in s t m)) (passed (shape_in s t m) (Attach u mode) passes).in_use

pub unattached : (s : Site) (t : VolumeTable) (m : Known) (u : List ℕ) (mode : Mode) → refusal (shape_in s t m) (Attach u mode) ≡ None → mode_of m.attached u ≡ None
unfolding shape_in
unattached s t m u mode passes = sym (mode_alike u m.attached.disks) ∙ mode_none_yet s t m u mode passes

-- neither changes a disk
pub attach_disks : (ds : List Disk) (σ : Shape) (u : List ℕ) (mode : Mode) → disks_next ds σ (Attach u mode) ≡ ds
unfolding disks_next
attach_disks ds σ u mode = refl

pub detach_disks : (ds : List Disk) (σ : Shape) (u : List ℕ) → disks_next ds σ (Detach u) ≡ ds
unfolding disks_next
detach_disks ds σ u = refl

-- ---- between two steps

module _ {S : Type 0} {g : Ghosts S} {a : S} (m : Memory) where
  -- other attachments, which have no less room
  pub between_used : (x : Attached) → IsOrderly (g.site a) (tab g a) (with_attached x (known m)) → m.attached.room ≤ x.room → IsBetweenSteps g a m → IsBetweenSteps g a (record m { attached = x })
  between_used x orderly more i = record {
    usable = i.usable;
    orderly = orderly;
    tidy = record { none_new = i.tidy.none_new; no_stray = i.tidy.no_stray };
    true_images = i.true_images;
    rows = i.rows;
    tree_room = i.tree_room;
    attachment_room = let room = i.attachment_room in omega (arith, room, more);
  }
