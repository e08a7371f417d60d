-- The parent of a leaf that was renamed takes the leaf's name: that is allowed, no check fails behind it, and the images of a content
-- are the same under their new names, and its disks are the same.
use Rattle.std.proofs.Common.{◌≡◌, ◌≢◌, ◌⊎◌, inl, inr, ℕ, zero, suc, ◌*◌, ◌≤◌, ◌==◌, ◌&&◌, ◌||◌, not, nat_le, Bool, true, false, cond, List, [], ◌∷◌, length, Option, Some, None, is_none, is_some, refl, sym, ap, ap₂, ◌∙◌, subst, arith, bytes_eq}
use Rattle.std.specs.List.{filter, list_any}
use Rattle.std.proofs.lemmas.Bool.{true≢false, and_parts, and_from, and_right, eq-eqb, false_from_ne_true, or_right, or_left}
use Rattle.std.proofs.lemmas.Option.{none-some, same_Some}
use Rattle.common_laws.specs.Lists.{In, ◌>>=◌}
use Rattle.common_laws.proofs.Booleans.{all_hold, not_false, not_true}
use Rattle.common_laws.proofs.Bytes.{bytes_eq-apart, bytes_eq-refl, same_or_not}
use Rattle.common_laws.proofs.Lists.{filter-In, In-map_at}
use Rattle.common_laws.proofs.Options.{none_of_some}
use Rattle.sm_base.specs.Kinds.{is_image as is_data}
use Rattle.sm_base.specs.Names.{IsName}
use Rattle.sm_base.specs.declared.names.Name.{Name}
use Rattle.sm_base.specs.declared.names.Name.TheVariants.{Mgt, Vhd, Raw, Old, Cbt, Clone, Inflate, Coalesce, Relink, Leaf}
use Rattle.vg_meta.specs.Changes.{Permits, applied, put, put_some, renamed, without}
use Rattle.vg_meta.specs.declared.changes.Change.TheVariants.{Rename}
use Rattle.vg_meta.specs.Tables.{VolumeTable, Row, IsTable, IsVolume, extents_of, name_eq, names_of, rows}
use Rattle.vg_meta.proofs.ByName.{changes_by_name}
use Rattle.vg_meta.proofs.ChangeLaws.{IsTable-applied}
use Rattle.vg_meta.proofs.NameLaws.{name_eq-false, name_eq-other, name_eq-refl, name_eq-true}
use Rattle.vg_meta.proofs.RowLaws.{row_of-name}
use Rattle.vg_volumes.specs.Volumes.{piece}
use Rattle.vhd_layout.specs.Readings.{image_at}
use Rattle.sm_machine.specs.Shapes.{same_image}
use Rattle.sm_machine.specs.WellFormed.{is_image_name}
use Rattle.sm_standing.specs.Apart.{is_apart, IsSameApart}
use Rattle.sm_standing.specs.Besides.{PassesAlone, is_settled_name}
use Rattle.sm_standing.specs.Changes.{parent_of}
use Rattle.sm_standing.specs.Checks.{chain_length, children, fault_of, images, is_entry_linked, is_image_wrong, is_leaf_linked, is_linked, is_misplaced, is_no_larger, is_orphaned, is_parent_right, parent_is, tree_wrong_as}
use Rattle.sm_standing.specs.Contents.{Content, record_of, sectors_of}
use Rattle.sm_standing.specs.Entries.{are_past, folding, head, image_with, is_among, is_at_stage, is_folding, is_folding_leaf, is_inflating, is_leaf_copied, is_leaf_renamed, is_leaf_swapped, is_making, is_old_of, is_past, is_there, is_visible, making, of_row, uuids_in}
use Rattle.sm_standing.specs.Images.{Image, image_extents, image_of, vhd_image}
use Rattle.sm_standing.specs.Outlines.{HasImages, Link, Outline, link_of, parent_in}
use Rattle.sm_standing.specs.PlainSound.{AllSound}
use Rattle.sm_standing.specs.Standing.{disk_at, disks, standing_volume, stands_plainly}
use Rattle.sm_standing.specs.Swaps.{HasLeafEntry, swapped}
use Rattle.sm_standing.specs.Undone.{IsBeingEnlarged}
use Rattle.sm_standing.specs.Volumes.{IsAtSize}
use Rattle.sm_standing.proofs.ApartLaws.{IsClosedApart, beside, no_disk, other_disk, plain_apart, plainly_by, raw_apart, reads_moved, sectors_moved, stands_beside, stands_making, vhd_apart}
use Rattle.sm_standing.proofs.Counts.{none_left}
use Rattle.sm_standing.proofs.DiskLists.{disks_same}
use Rattle.sm_standing.proofs.ForkImages.{lost_as, misnamed_as}
use Rattle.sm_standing.proofs.ForkLaws.{base_among}
use Rattle.sm_standing.proofs.ForkPlaces.{found_kind, under_parent}
use Rattle.sm_standing.proofs.ForkTables.{of_row_parts}
use Rattle.sm_standing.proofs.ImageLaws.{moved_disk}
use Rattle.sm_standing.proofs.ImageSectors.{whole_fork, whole_none}
use Rattle.sm_standing.proofs.LeafStages.{IsRenamed, at_stage, childless_nobodys, closed_by, entry_row, fork_free, gone_nobodys, image_kind, no_twin, old_leaf, renamed_stage, row_in, stands_near}
use Rattle.sm_standing.proofs.LeafSteady.{image_same, near_one, readings_same}
use Rattle.sm_standing.proofs.LeafSteps.{IsLeafStep, step_sound}
use Rattle.sm_standing.proofs.NamedLaws.{all_past}
use Rattle.sm_standing.proofs.PlainDisks.{all-In}
use Rattle.sm_standing.proofs.PlainKept.{sound_all}
use Rattle.sm_standing.proofs.RecordLists.{first_of, record_of_first, records_same}
use Rattle.sm_standing.proofs.SwapLaws.{beside_plain, hidden_there, leaf_among, leaf_stands, named_renamed, which}
use Rattle.sm_standing.proofs.UndoneLaws.{IsBeingForked, enlarged_or_not, raised_later}
use Rattle.sm_standing.proofs.VolumeLists.{count_one, count_put, found_in, names_put, names_without}

pub parent_among : (leaf parent : List ℕ) → is_among (swapped leaf parent) parent ≡ true
parent_among leaf parent = or_right (bytes_eq leaf parent) (bytes_eq parent parent || false) (ap (λ b. b || false) (bytes_eq-refl parent))

-- the parent's image has the leaf's name then
abbrev pub moved : List ℕ → List ℕ → Name → Option Name
moved leaf parent n = cond (name_eq n (Vhd leaf)) (Some (Vhd parent)) (cond (name_eq n (Vhd parent)) None (Some n))

module _ {count : ℕ} (x : Outline) (table : IsTable count x.table) (homes : HasImages x) (sound : fault_of x ≡ None) (leaf parent : List ℕ) (one : folding x.table ≡ Leaf leaf parent ∷ [])
    (stage : is_leaf_renamed x.table leaf parent ≡ true) (free : (extents : ℕ) → making x.table ≢ Inflate parent extents ∷ []) where
  abbrev t : VolumeTable
  t = x.table

  abbrev us : List (List ℕ)
  us = swapped leaf parent

  s : AllSound x
  s = sound_all x sound

  σ : IsRenamed x homes sound leaf parent one
  σ = renamed_stage x homes sound leaf parent one stage

  entry : HasLeafEntry t leaf parent
  entry = ap head one

  pub its : (r : Row) × (rows t (Vhd parent) ≡ Some r) × ((r.hidden && not r.fresh) ≡ true)
  its = of_row_parts (λ r. r.hidden && not r.fresh) (rows t (Vhd parent)) σ.hidden

  abbrev own : Row
  own = its.0

  own_there : rows t (Vhd parent) ≡ Some own
  own_there = its.1

  own_hidden : own.hidden ≡ true
  own_hidden = (and_parts own.hidden (not own.fresh) its.2).0

  own_filled : own.fresh ≡ false
  own_filled = not_true own.fresh (and_parts own.hidden (not own.fresh) its.2).1

  vhd_gone : rows t (Vhd leaf) ≡ None
  vhd_gone = none_of_some (rows t (Vhd leaf)) σ.no_vhd

  raw_gone : rows t (Raw leaf) ≡ None
  raw_gone = none_of_some (rows t (Raw leaf)) σ.no_raw

  raw_parent_gone : rows t (Raw parent) ≡ None
  raw_parent_gone = none_of_some (rows t (Raw parent)) (no_twin x homes sound parent own own_there)

  pub differ : parent ≢ leaf
  differ is = none-some own (sym vhd_gone ∙ ap (λ u. rows t (Vhd u)) (sym is) ∙ own_there)

  -- ---- it is allowed

  leaf_name : IsName (Vhd leaf)
  unfolding IsName
  leaf_name =
      let r = entry_row x homes sound leaf parent one in
      let named : IsName (Leaf leaf parent) = subst IsName (row_of-name t.volumes (Leaf leaf parent) r.0 r.1) (all-In IsVolume t.volumes r.0 table.volumes.each (row_in x homes sound (Leaf leaf parent) r.0 r.1)).name in
      named.0

  pub may_rename : Permits count t (Rename (Vhd parent) (Vhd leaf))
  may_rename = record { row = own; there = own_there; name_proper = leaf_name; new_name = vhd_gone; same_kind = inl (refl, refl) }

  abbrev pub again : VolumeTable
  again = applied t (Rename (Vhd parent) (Vhd leaf))

  abbrev pub new : Outline
  new = record x { table = again; links = λ n. moved leaf parent n >>= x.links }

  pub renamed_table : IsTable count again
  renamed_table = IsTable-applied count t (Rename (Vhd parent) (Vhd leaf)) table may_rename

  pub rename_others : (n : Name) → n ≢ Vhd parent → n ≢ Vhd leaf → rows again n ≡ rows t n
  rename_others n p l = (changes_by_name count t (Rename (Vhd parent) (Vhd leaf)) table may_rename).others n (λ k. either k)
    where
      either : (n ≡ Vhd parent) ⊎ (n ≡ Vhd leaf) → ⊥
      either (inl is) = p is
      either (inr is) = l is

  parent_gone : rows again (Vhd parent) ≡ None
  parent_gone = (changes_by_name count t (Rename (Vhd parent) (Vhd leaf)) table may_rename).does.3

  pub leaf_row : rows again (Vhd leaf) ≡ Some (renamed (Vhd leaf) own)
  leaf_row =
      let k = (changes_by_name count t (Rename (Vhd parent) (Vhd leaf)) table may_rename).does in
      k.4 ∙ ap (λ (r : Row). Some (renamed (Vhd leaf) r)) (same_Some k.0 own (sym k.1 ∙ own_there))

  put_back : again.volumes ≡ put (renamed (Vhd leaf) own) (without (Vhd parent) t.volumes)
  put_back = ap (λ (r : Option Row). put_some r (renamed (Vhd leaf)) (without (Vhd parent) t.volumes)) own_there

  names_same : (test : Name → Bool) → test (Vhd leaf) ≡ false → test (Vhd parent) ≡ false → filter test (names_of again.volumes) ≡ filter test (names_of t.volumes)
  names_same test l p = ap (λ rs. filter test (names_of rs)) put_back ∙ names_put test (renamed (Vhd leaf) own) (without (Vhd parent) t.volumes) l ∙ names_without test (Vhd parent) t.volumes p

  pub renamed_making : making again ≡ making t
  renamed_making = names_same is_making refl refl

  pub renamed_folding : folding again ≡ folding t
  renamed_folding = names_same is_folding refl refl

  few : length (images again) ≤ length (images t)
  few =
      let first = count_one (λ r. is_data r.name) (Vhd parent) t.volumes own own_there (ap is_data (row_of-name t.volumes (Vhd parent) own own_there)) in
      let more = count_put (λ r. is_data r.name) (renamed (Vhd leaf) own) (without (Vhd parent) t.volumes) in
      let same = ap (λ rs. length (filter (λ r. is_data r.name) rs)) put_back in omega (arith, first, more, same)

  -- ---- names apart

  leaf_near : is_among us leaf ≡ true
  leaf_near = leaf_among leaf parent

  parent_near : is_among us parent ≡ true
  parent_near = parent_among leaf parent

  apart_not : (n : Name) → is_apart us n ≡ true → (n ≢ Vhd parent) × (n ≢ Vhd leaf)
  apart_not n far = (λ is. true≢false (sym far ∙ ap (is_apart us) is ∙ ap (λ c. not (c || false)) parent_near), λ is. true≢false (sym far ∙ ap (is_apart us) is ∙ ap (λ c. not (c || false)) leaf_near))

  rows_apart : (n : Name) → is_apart us n ≡ true → rows again n ≡ rows t n
  rows_apart n far = let k = apart_not n far in rename_others n k.0 k.1

  near_cases : (u : List ℕ) → is_among us u ≡ true → (u ≡ leaf) ⊎ (u ≡ parent)
  near_cases u is = by (which leaf parent u).cases
    where
      by : (u ≡ leaf) ⊎ ((u ≡ parent) ⊎ (is_among us u ≡ false)) → (u ≡ leaf) ⊎ (u ≡ parent)
      by (inl at) = inl at
      by (inr (inl at)) = inr at
      by (inr (inr none)) = absurd (true≢false (sym is ∙ none))

  raw_none : (u : List ℕ) → is_among us u ≡ true → (rows t (Raw u) ≡ None) × (rows again (Raw u) ≡ None)
  raw_none u is = by (near_cases u is)
    where
      still : (v : List ℕ) → rows t (Raw v) ≡ None → (rows t (Raw v) ≡ None) × (rows again (Raw v) ≡ None)
      still v none = (none, rename_others (Raw v) (λ at. let z = at in cc) (λ at. let z = at in cc) ∙ none)

      by : (u ≡ leaf) ⊎ (u ≡ parent) → (rows t (Raw u) ≡ None) × (rows again (Raw u) ≡ None)
      by (inl at) = subst (λ v. (rows t (Raw v) ≡ None) × (rows again (Raw v) ≡ None)) (sym at) (still leaf raw_gone)
      by (inr at) = subst (λ v. (rows t (Raw v) ≡ None) × (rows again (Raw v) ≡ None)) (sym at) (still parent raw_parent_gone)

  closed : (m q : Name) → parent_in x m ≡ Some q → is_apart us q ≡ true
  closed = closed_by x homes sound us (λ u is. by u (near_cases u is) (raw_none u is).0)
    where
      of : (u : List ℕ) → (u ≡ leaf) ⊎ (u ≡ parent) → (m : Name) → parent_in x m ≢ Some (Vhd u)
      of u (inl at) m up = gone_nobodys x homes sound (Vhd leaf) σ.no_vhd m (up ∙ ap (λ v. Some (Vhd v)) at)
      of u (inr at) m up = childless_nobodys x homes sound parent σ.childless m (up ∙ ap (λ v. Some (Vhd v)) at)

      by : (u : List ℕ) → (u ≡ leaf) ⊎ (u ≡ parent) → rows t (Raw u) ≡ None → ((m : Name) → parent_in x m ≢ Some (Vhd u)) × ((m : Name) → parent_in x m ≢ Some (Raw u))
      by u at none = (of u at, λ m up. gone_nobodys x homes sound (Raw u) (ap is_some none) m up)

  -- ---- what is being made

  cases : (making t ≡ []) ⊎ (((u : List ℕ) × (extents : ℕ) × IsBeingEnlarged t u extents) ⊎ IsBeingForked t)
  cases = enlarged_or_not count t table s.one_entry s.at_stage

  enlarged_other : (u : List ℕ) (extents : ℕ) → IsBeingEnlarged t u extents → (u ≢ leaf) × (u ≢ parent)
  enlarged_other u extents k = (
    λ is. none-some k.own (sym vhd_gone ∙ ap (λ v. rows t (Vhd v)) (sym is) ∙ k.there),
    λ is. free extents (k.entry ∙ ap (λ v. Inflate v extents ∷ []) is),
  )

  pub at_size : (v : List ℕ) → (v ≡ leaf) ⊎ (v ≡ parent) → IsAtSize t (Vhd v)
  unfolding same_image
  at_size v which_one = by cases
    where
      apart_from : (u : List ℕ) → (u ≢ leaf) × (u ≢ parent) → (v ≡ leaf) ⊎ (v ≡ parent) → bytes_eq u v ≡ false
      apart_from u k (inl at) = bytes_eq-apart u v (λ is. k.0 (is ∙ at))
      apart_from u k (inr at) = bytes_eq-apart u v (λ is. k.1 (is ∙ at))

      by : (making t ≡ []) ⊎ (((u : List ℕ) × (extents : ℕ) × IsBeingEnlarged t u extents) ⊎ IsBeingForked t) → IsAtSize t (Vhd v)
      by (inl none) = whole_none t (Vhd v) none
      by (inr (inl k)) = λ all.
          let h = k.2 in ap (λ es. image_extents es (Vhd v) all) h.entry ∙ ap (λ c. cond c k.1 all) (apart_from k.0 (enlarged_other k.0 k.1 k.2) which_one)
      by (inr (inr k)) = whole_fork t (Vhd v) k.0 k.1 k.2 (ap head k.3)

  inflating_same : (u : List ℕ) (extents : ℕ) → In (Inflate u extents) (making t) → is_inflating again u extents ≡ is_inflating t u extents
  inflating_same u extents i = by cases
    where
      same : u ≢ leaf → u ≢ parent → is_inflating again u extents ≡ is_inflating t u extents
      same l p = ap (of_row (λ r. not r.fresh && nat_le extents (length r.extents))) (rename_others (Vhd u) (λ is. p (let z = is in cc)) (λ is. l (let z = is in cc)))

      of : (v : List ℕ) (more : ℕ) → IsBeingEnlarged t v more → In (Inflate u extents) (Inflate v more ∷ []) → is_inflating again u extents ≡ is_inflating t u extents
      of v more k (inl is) = let w = enlarged_other v more k in let uuid : v ≡ u = (let z = is in cc) in same (λ at. w.0 (uuid ∙ at)) (λ at. w.1 (uuid ∙ at))
      of v more k (inr none) = absurd none

      fork : (d f g : List ℕ) → In (Inflate u extents) (Clone d f g ∷ []) → ⊥
      fork d f g (inl is) = let z = is in cc
      fork d f g (inr none) = none

      by : (making t ≡ []) ⊎ (((v : List ℕ) × (more : ℕ) × IsBeingEnlarged t v more) ⊎ IsBeingForked t) → is_inflating again u extents ≡ is_inflating t u extents
      by (inl none) = absurd (subst (In (Inflate u extents)) none i)
      by (inr (inl k)) = let h = k.2 in of k.0 k.1 k.2 (subst (In (Inflate u extents)) h.entry i)
      by (inr (inr k)) = absurd (fork k.0 k.1 k.2 (subst (In (Inflate u extents)) k.3 i))

  -- ---- links

  link_moved : new.links (Vhd leaf) ≡ x.links (Vhd parent)
  link_moved = ap (λ c. cond c (Some (Vhd parent)) (cond (name_eq (Vhd leaf) (Vhd parent)) None (Some (Vhd leaf))) >>= x.links) (name_eq-refl (Vhd leaf))

  link_gone : new.links (Vhd parent) ≡ None
  link_gone =
      ap₂ (λ a c. cond a (Some (Vhd parent)) (cond c None (Some (Vhd parent))) >>= x.links) (name_eq-other (Vhd parent) (Vhd leaf) (λ is. differ (let z = is in cc))) (name_eq-refl (Vhd parent))

  link_other : (n : Name) → n ≢ Vhd parent → n ≢ Vhd leaf → new.links n ≡ x.links n
  link_other n p l = ap₂ (λ a c. cond a (Some (Vhd parent)) (cond c None (Some n)) >>= x.links) (name_eq-other n (Vhd leaf) l) (name_eq-other n (Vhd parent) p)

  links_apart : (n : Name) → is_apart us n ≡ true → new.links n ≡ x.links n
  links_apart n far = let k = apart_not n far in link_other n k.0 k.1

  pub rename_homes : HasImages new
  unfolding is_image_name name_eq
  rename_homes = record {
    named = λ n other. link_other n (λ is. true≢false (sym (ap is_image_name is) ∙ other)) (λ is. true≢false (sym (ap is_image_name is) ∙ other)) ∙ homes.named n other;
    there = λ n i is. by n i is (name_eq n (Vhd leaf)) (name_eq n (Vhd parent)) refl refl;
    alone = homes.alone;
  }
    where
      by : (n : Name) (i : Link) → new.links n ≡ Some i → (a c : Bool) → name_eq n (Vhd leaf) ≡ a → name_eq n (Vhd parent) ≡ c → is_there again n ≡ true
      by n i is true c at_leaf at_parent = ap (is_there again) (name_eq-true n (Vhd leaf) at_leaf) ∙ ap is_some leaf_row
      by n i is false true at_leaf at_parent = absurd (none-some i (sym link_gone ∙ ap new.links (sym (name_eq-true n (Vhd parent) at_parent)) ∙ is))
      by n i is false false at_leaf at_parent =
          let p = name_eq-false n (Vhd parent) at_parent in
          let l = name_eq-false n (Vhd leaf) at_leaf in
          ap is_some (rename_others n p l) ∙ homes.there n i (sym (link_other n p l) ∙ is)

  found : (r : Row) → In r again.volumes → rows again r.name ≡ Some r
  found r i = found_in again.volumes renamed_table.volumes.rising r i

  below : (r : Row) (i : Link) → In r again.volumes → is_apart us r.name ≡ false → new.links r.name ≡ Some i
      → (q : Row) × In q t.volumes × (x.links q.name ≡ Some i) × (is_apart us q.name ≡ false)
  below r i inside near is = let k = image_kind new rename_homes r.name i is in by k.0 k.1
    where
      of_leaf : new.links (Vhd leaf) ≡ Some i → (q : Row) × In q t.volumes × (x.links q.name ≡ Some i) × (is_apart us q.name ≡ false)
      of_leaf at =
          let named = row_of-name t.volumes (Vhd parent) own own_there in
          (own, row_in x homes sound (Vhd parent) own own_there, ap x.links named ∙ sym link_moved ∙ at, ap (is_apart us) named ∙ ap (λ c. not (c || false)) parent_near)

      of : (u : List ℕ) → (u ≡ leaf) ⊎ (u ≡ parent) → r.name ≡ Vhd u → (q : Row) × In q t.volumes × (x.links q.name ≡ Some i) × (is_apart us q.name ≡ false)
      of u (inl at) named = of_leaf (ap new.links (sym (named ∙ ap Vhd at)) ∙ is)
      of u (inr at) named = absurd (none-some i (sym link_gone ∙ ap new.links (sym (named ∙ ap Vhd at)) ∙ is))

      by : (u : List ℕ) → (r.name ≡ Vhd u) ⊎ (r.name ≡ Raw u) → (q : Row) × In q t.volumes × (x.links q.name ≡ Some i) × (is_apart us q.name ≡ false)
      by u (inl named) = of u (near_cases u (near_one (is_among us u) (sym (ap (is_apart us) named) ∙ near))) named
      by u (inr named) =
          absurd (none-some r (sym (raw_none u (near_one (is_among us u) (sym (ap (is_apart us) named) ∙ near))).1 ∙ ap (rows again) (sym named) ∙ found r inside))

  -- nobody has the leaf as parent
  leaf_nobodys : (m : Name) → parent_in x m ≢ Some (Vhd leaf)
  leaf_nobodys m up = true≢false (sym (closed m (Vhd leaf) up) ∙ ap (λ c. not (c || false)) leaf_near)

  no_children : length (children new (Vhd leaf)) ≡ 0
  unfolding children
  no_children = ap length (none_left (λ r. parent_is (Vhd leaf) (new.links r.name)) again.volumes (λ r i. false_from_ne_true (parent_is (Vhd leaf) (new.links r.name)) (λ e. child r i (new.links r.name) refl (is_apart us r.name) refl e)))
    where
      child : (r : Row) → In r again.volumes → (y : Option Link) → new.links r.name ≡ y → (c : Bool) → is_apart us r.name ≡ c → parent_is (Vhd leaf) y ≡ true → ⊥
      child r i None is c at e = true≢false (sym e)
      child r i (Some l) is true at e =
          leaf_nobodys r.name (ap (λ (y : Option Link). y >>= (λ (l : Link). l.parent)) (sym (links_apart r.name at) ∙ is) ∙ under_parent (Vhd leaf) (Some l) e)
      child r i (Some l) is false at e =
          let q = below r l i at is in
          leaf_nobodys q.0.name (ap (λ (y : Option Link). y >>= (λ (l : Link). l.parent)) q.2 ∙ under_parent (Vhd leaf) (Some l) e)

  -- ---- the stage

  pub now_swapped : is_leaf_swapped again leaf parent ≡ true
  now_swapped =
      ap₂ (λ a c. is_some a && (of_row (λ r. not r.fresh) c && not (is_there again (Vhd parent)))) (rename_others (Old leaf) (λ is. let z = is in cc) (λ is. let z = is in cc)) leaf_row
      ∙ ap₂ (λ a c. a && (not own.fresh && not c)) σ.old (ap is_some parent_gone) ∙ ap (λ f. not f && true) own_filled

  pub now_entry : HasLeafEntry again leaf parent
  now_entry = ap head renamed_folding ∙ entry

  stage_now : is_folding_leaf again leaf parent ≡ true
  stage_now = or_right (is_leaf_copied again leaf parent) _ (or_right (is_leaf_renamed again leaf parent) _ (or_left (is_leaf_swapped again leaf parent) _ now_swapped))

  linked_now : is_leaf_linked new leaf parent ≡ true
  linked_now =
      ap (λ c. cond c (parent_is (Vhd parent) (new.links (Vhd leaf)) && (length (children new (Vhd parent)) == 1))
      (cond (is_leaf_renamed again leaf parent) (length (children new (Vhd parent)) == 0) (cond (is_leaf_swapped again leaf parent) (length (children new (Vhd leaf)) == 0) true))) not_copied
      ∙ ap₂ (λ r w. cond r (length (children new (Vhd parent)) == 0) (cond w (length (children new (Vhd leaf)) == 0) true)) (named_renamed again leaf parent now_swapped) now_swapped
      ∙ eq-eqb (length (children new (Vhd leaf))) 0 no_children
    where
      not_copied : is_leaf_copied again leaf parent ≡ false
      not_copied =
          ap (λ c. is_visible again (Vhd leaf) && (c && not (is_there again (Old leaf)))) (hidden_there again (Vhd parent) (ap is_some parent_gone))
          ∙ and_right (is_visible again (Vhd leaf)) false refl

  -- ---- each volume passes

  chain_apart : (most : ℕ) (n : Name) → is_apart us n ≡ true → chain_length new most n ≡ chain_length x most n
  unfolding chain_length
  chain_apart zero n far = refl
  chain_apart (suc most) n far =
      ap (λ (y : Option Link). elim y as (λ _. ℕ) [ None ↦ 0 | Some i ↦ suc (elim i.parent as (λ _. ℕ) [ None ↦ 0 | Some p ↦ chain_length new most p ]) ]) (links_apart n far)
      ∙ chain_up most n (λ p away. chain_apart most p away) (x.links n) refl
    where
      up : (most : ℕ) (n : Name) → ((p : Name) → is_apart us p ≡ true → chain_length new most p ≡ chain_length x most p) → (i : Link) → x.links n ≡ Some i → (y : Option Name) → i.parent ≡ y
          → elim y as (λ _. ℕ) [ None ↦ 0 | Some p ↦ chain_length new most p ] ≡ elim y as (λ _. ℕ) [ None ↦ 0 | Some p ↦ chain_length x most p ]
      up most n rest i is None above = refl
      up most n rest i is (Some p) above = rest p (closed n p (ap (λ (y : Option Link). y >>= (λ (l : Link). l.parent)) is ∙ above))

      chain_up : (most : ℕ) (n : Name) → ((p : Name) → is_apart us p ≡ true → chain_length new most p ≡ chain_length x most p) → (y : Option Link) → x.links n ≡ y
          → elim y as (λ _. ℕ) [ None ↦ 0 | Some i ↦ suc (elim i.parent as (λ _. ℕ) [ None ↦ 0 | Some p ↦ chain_length new most p ]) ]
          ≡ elim y as (λ _. ℕ) [ None ↦ 0 | Some i ↦ suc (elim i.parent as (λ _. ℕ) [ None ↦ 0 | Some p ↦ chain_length x most p ]) ]
      chain_up most n rest None is = refl
      chain_up most n rest (Some i) is = ap suc (up most n rest i is i.parent refl)

  chain_moved : chain_length new 31 (Vhd leaf) ≡ chain_length x 31 (Vhd parent)
  unfolding chain_length
  chain_moved =
      ap (λ (y : Option Link). elim y as (λ _. ℕ) [ None ↦ 0 | Some i ↦ suc (elim i.parent as (λ _. ℕ) [ None ↦ 0 | Some p ↦ chain_length new 30 p ]) ]) link_moved
      ∙ by (x.links (Vhd parent)) refl
    where
      up : (i : Link) → x.links (Vhd parent) ≡ Some i → (y : Option Name) → i.parent ≡ y
          → elim y as (λ _. ℕ) [ None ↦ 0 | Some p ↦ chain_length new 30 p ] ≡ elim y as (λ _. ℕ) [ None ↦ 0 | Some p ↦ chain_length x 30 p ]
      up i is None above = refl
      up i is (Some p) above = chain_apart 30 p (closed (Vhd parent) p (ap (λ (y : Option Link). y >>= (λ (l : Link). l.parent)) is ∙ above))

      by : (y : Option Link) → x.links (Vhd parent) ≡ y
          → elim y as (λ _. ℕ) [ None ↦ 0 | Some i ↦ suc (elim i.parent as (λ _. ℕ) [ None ↦ 0 | Some p ↦ chain_length new 30 p ]) ]
          ≡ elim y as (λ _. ℕ) [ None ↦ 0 | Some i ↦ suc (elim i.parent as (λ _. ℕ) [ None ↦ 0 | Some p ↦ chain_length x 30 p ]) ]
      by None is = refl
      by (Some i) is = ap suc (up i is i.parent refl)

  linked_still : (i : Link) → x.links (Vhd parent) ≡ Some i → is_linked x i ≡ true → is_linked new i ≡ true
  linked_still i at h = by i.parent refl h
    where
      by : (y : Option Name) → i.parent ≡ y → elim y as (λ _. Bool) [ None ↦ true | Some p ↦ is_parent_right x i.size p ] ≡ true → elim y as (λ _. Bool) [ None ↦ true | Some p ↦ is_parent_right new i.size p ] ≡ true
      by None is f = refl
      by (Some p) is f =
          let far = closed (Vhd parent) p (ap (λ (l : Option Link). l >>= (λ (j : Link). j.parent)) at ∙ is) in
          ap₂ (λ r l. of_row (λ r. r.hidden && not r.fresh) r && is_no_larger i.size l) (rows_apart p far) (links_apart p far) ∙ f

  own_named : own.name ≡ Vhd parent
  own_named = row_of-name t.volumes (Vhd parent) own own_there

  own_in : In own t.volumes
  own_in = row_in x homes sound (Vhd parent) own own_there

  placed_still : (r : Row) → r.name ≡ Vhd leaf → r.hidden ≡ true → (l : Option Link) → x.links (Vhd parent) ≡ l → is_misplaced new r l ≡ false
  placed_still r named hid None at = refl
  placed_still r named hid (Some l) at =
      let p = and_parts (is_linked x l) (nat_le (chain_length x 31 own.name) 30 && (own.hidden || (length (children x own.name) == 0)))
      (not_false _ (sym (ap (tree_wrong_as x own) own_named ∙ ap (is_misplaced x own) at) ∙ s.placed own own_in)) in
      let c = and_parts (nat_le (chain_length x 31 own.name) 30) (own.hidden || (length (children x own.name) == 0)) p.1 in
      all_hold (is_linked new l) (nat_le (chain_length new 31 r.name) 30) (r.hidden || (length (children new r.name) == 0)) (linked_still l at p.0)
      (ap (λ n. nat_le n 30) (ap (chain_length new 31) named ∙ chain_moved ∙ ap (chain_length x 31) (sym own_named)) ∙ c.0)
      (ap (λ h. h || (length (children new r.name) == 0)) hid)

  past_still : (n : Name) → are_past t n ≡ true → are_past again n ≡ true
  past_still n h = all_past (uuids_in n) t.sequence again.sequence (raised_later t.sequence table.sequence) h

  leaf_past : are_past t (Vhd leaf) ≡ true
  leaf_past = let h = and_parts (is_past t.sequence leaf) (is_past t.sequence parent && true) (at_stage x homes sound leaf parent one).1 in and_from (is_past t.sequence leaf) true h.0 refl

  vhd_passes : (r : Row) → In r again.volumes → r.name ≡ Vhd leaf → PassesAlone new r
  unfolding is_entry_linked
  vhd_passes r i named =
      let is : r ≡ renamed (Vhd leaf) own = same_Some r (renamed (Vhd leaf) own) (sym (found r i) ∙ ap (rows again) named ∙ leaf_row) in
      let is_fresh : r.fresh ≡ own.fresh = ap (λ (q : Row). q.fresh) is in
      let is_hid : r.hidden ≡ true = ap (λ (q : Row). q.hidden) is ∙ own_hidden in
      record {
        named = ap (misnamed_as again) named ∙ ap₂ (λ a c. a || not c) (ap is_some (raw_none leaf leaf_near).1) (past_still (Vhd leaf) leaf_past);
        at_stage = ap (lost_as again) named;
        owned = ap (is_orphaned again) named;
        valid = ap (λ n. not r.fresh && is_image_wrong new r n) named ∙ ap₂ (λ f l. not f && is_none l) is_fresh link_moved
            ∙ sym (ap (λ n. not own.fresh && is_image_wrong x own n) own_named) ∙ s.valid own own_in;
        placed = ap (tree_wrong_as new r) named ∙ ap (is_misplaced new r) link_moved ∙ placed_still r named is_hid (x.links (Vhd parent)) refl;
        linked = ap (is_entry_linked new) named;
      }

  old_passes : (r : Row) (u : List ℕ) → In r again.volumes → r.name ≡ Old u → PassesAlone new r
  unfolding is_entry_linked
  old_passes r u i named =
      let was : rows t (Old u) ≡ Some r = sym (rename_others (Old u) (λ is. let z = is in cc) (λ is. let z = is in cc)) ∙ ap (rows again) (sym named) ∙ found r i in
      let past = not_false (are_past t (Old u)) (sym (ap (misnamed_as t) (row_of-name t.volumes (Old u) r was)) ∙ s.named r (row_in x homes sound (Old u) r was)) in
      record {
        named = ap (misnamed_as again) named ∙ ap (λ c. not c) (past_still (Old u) past);
        at_stage = ap (lost_as again) named;
        owned = ap (is_orphaned again) named ∙ ap (λ v. is_orphaned again (Old v)) (old_leaf x homes sound leaf parent one u r was).0 ∙ ap (λ ns. not (list_any (is_old_of again leaf) ns)) (renamed_folding ∙ one)
            ∙ ap₂ (λ a c. not ((a && (is_leaf_renamed again leaf parent || c)) || false)) (bytes_eq-refl leaf) now_swapped
            ∙ ap (λ c. not (c || false)) (or_right (is_leaf_renamed again leaf parent) true refl);
        valid = ap (λ n. not r.fresh && is_image_wrong new r n) named ∙ and_right (not r.fresh) false refl;
        placed = ap (tree_wrong_as new r) named;
        linked = ap (is_entry_linked new) named;
      }

  folding_in : (r : Row) → In r again.volumes → is_folding r.name ≡ true → r.name ≡ Leaf leaf parent
  folding_in r i is = alone (subst (In r.name) (renamed_folding ∙ one) (filter-In is_folding (names_of again.volumes) r.name (In-map_at (λ (y : Row). y.name) again.volumes r i) is))
    where
      alone : In r.name (Leaf leaf parent ∷ []) → r.name ≡ Leaf leaf parent
      alone (inl same) = same
      alone (inr none) = absurd none

  leaf_passes : (r : Row) → r.name ≡ Leaf leaf parent → PassesAlone new r
  unfolding is_entry_linked is_at_stage
  leaf_passes r is = record {
    named = ap (misnamed_as again) is;
    at_stage = ap (lost_as again) is ∙ ap₂ (λ p q. not (p && q)) stage_now (past_still (Leaf leaf parent) (at_stage x homes sound leaf parent one).1);
    owned = ap (is_orphaned again) is;
    valid = ap (λ n. not r.fresh && is_image_wrong new r n) is ∙ and_right (not r.fresh) false refl;
    placed = ap (tree_wrong_as new r) is;
    linked = ap (is_entry_linked new) is ∙ linked_now;
  }

  passes : (r : Row) → In r again.volumes → (n : Name) → r.name ≡ n → is_settled_name us n ≡ false → is_making n ≡ false → PassesAlone new r
  passes r i Mgt named e m = absurd (true≢false e)
  passes r i (Vhd u) named e m = of (near_cases u (near_one (is_among us u) e))
    where
      of : (u ≡ leaf) ⊎ (u ≡ parent) → PassesAlone new r
      of (inl at) = vhd_passes r i (named ∙ ap Vhd at)
      of (inr at) = absurd (none-some r (sym parent_gone ∙ ap (rows again) (sym (named ∙ ap Vhd at)) ∙ found r i))
  passes r i (Raw u) named e m = absurd (none-some r (sym (raw_none u (near_one (is_among us u) e)).1 ∙ ap (rows again) (sym named) ∙ found r i))
  passes r i (Old u) named e m = old_passes r u i named
  passes r i (Cbt u) named e m = absurd (true≢false e)
  passes r i (Clone a c d) named e m = absurd (true≢false m)
  passes r i (Inflate a c) named e m = absurd (true≢false m)
  passes r i (Coalesce a c) named e m = let z = sym named ∙ folding_in r i (ap is_folding named) in cc
  passes r i (Relink a c) named e m = let z = sym named ∙ folding_in r i (ap is_folding named) in cc
  passes r i (Leaf a c) named e m = leaf_passes r (folding_in r i (ap is_folding named))

  -- ---- where each UUID stands

  image_with_same : (f : List ℕ) → is_among us f ≡ false → image_with again f ≡ image_with t f
  unfolding image_with
  image_with_same f far = ap₂ (λ a c. cond (is_some a) (Some (Vhd f)) (cond (is_some c) (Some (Raw f)) None)) (rows_apart (Vhd f) (vhd_apart us f far)) (rows_apart (Raw f) (raw_apart us f far))

  stands_same : (u : List ℕ) → beside again u ≡ beside t u → standing_volume again u ≡ standing_volume t u
  stands_same u same = by cases
    where
      by : (making t ≡ []) ⊎ (((v : List ℕ) × (extents : ℕ) × IsBeingEnlarged t v extents) ⊎ IsBeingForked t) → standing_volume again u ≡ standing_volume t u
      by (inl none) = stands_beside again u (renamed_making ∙ none) ∙ same ∙ sym (stands_beside t u none)
      by (inr (inl k)) =
          let h = k.2 in
          stands_making again u (Inflate k.0 k.1) (ap head (renamed_making ∙ h.entry)) ∙ same ∙ sym (stands_making t u (Inflate k.0 k.1) (ap head h.entry))
      by (inr (inr k)) =
          stands_making again u (Clone k.0 k.1 k.2) (ap head (renamed_making ∙ k.3))
          ∙ ap₂ (λ i p. cond (bytes_eq u k.0) (elim i as (λ _. Option Name) [ None ↦ p | Some n ↦ Some n ]) (cond (bytes_eq u k.1 || bytes_eq u k.2) None p))
          (image_with_same k.1 (fork_free x homes sound leaf parent one k.0 k.1 k.2 k.3 k.1 (base_among k.0 k.1 k.2))) same
          ∙ sym (stands_making t u (Clone k.0 k.1 k.2) (ap head k.3))

  plainly_none : (stands_plainly t parent ≡ None) × (stands_plainly again parent ≡ None)
  plainly_none = (
    ap₂ (plainly_by parent) own_there raw_parent_gone ∙ ap (λ h. cond (not h && not own.fresh) (Some (Vhd parent)) None) own_hidden,
    ap₂ (plainly_by parent) parent_gone (raw_none parent parent_near).1,
  )

  beside_other : (u : List ℕ) → u ≢ leaf → beside again u ≡ beside t u
  beside_other u other =
      beside_plain again leaf parent u (inl now_entry) (bytes_eq-apart u leaf other) ∙ by (which leaf parent u).cases
      ∙ sym (beside_plain t leaf parent u (inl entry) (bytes_eq-apart u leaf other))
    where
      by : (u ≡ leaf) ⊎ ((u ≡ parent) ⊎ (is_among us u ≡ false)) → stands_plainly again u ≡ stands_plainly t u
      by (inl at) = absurd (other at)
      by (inr (inl at)) = subst (λ v. stands_plainly again v ≡ stands_plainly t v) (sym at) (plainly_none.1 ∙ sym plainly_none.0)
      by (inr (inr far)) = ap₂ (plainly_by u) (rows_apart (Vhd u) (vhd_apart us u far)) (rows_apart (Raw u) (raw_apart us u far))

  stood : standing_volume t leaf ≡ Some (Vhd parent)
  stood = stands_near x homes sound leaf parent one cases t leaf refl leaf_near ∙ leaf_stands t leaf parent (Vhd parent) (inl (entry, stage, refl))

  stands_now : standing_volume again leaf ≡ Some (Vhd leaf)
  stands_now = stands_near x homes sound leaf parent one cases again leaf renamed_making leaf_near ∙ leaf_stands again leaf parent (Vhd leaf) (inr (inl (now_entry, now_swapped, refl)))

  pub stands_some : (u : List ℕ) → is_some (standing_volume again u) ≡ is_some (standing_volume t u)
  stands_some u = by (same_or_not u leaf)
    where
      by : (u ≡ leaf) ⊎ (u ≢ leaf) → is_some (standing_volume again u) ≡ is_some (standing_volume t u)
      by (inl at) = subst (λ v. is_some (standing_volume again v) ≡ is_some (standing_volume t v)) (sym at) (ap is_some stands_now ∙ sym (ap is_some stood))
      by (inr other) = ap is_some (stands_same u (beside_other u other))

  rename_step : IsLeafStep x new leaf parent us
  rename_step = record {
    extent = refl;
    block = refl;
    entries = refl;
    later = raised_later t.sequence table.sequence;
    found = found;
    rows_apart = rows_apart;
    links_apart = links_apart;
    within = λ u none. none;
    closed = λ m q far up. closed m q up;
    few = few;
    readings = refl;
    below = below;
    inflating = inflating_same;
    volumes = λ r i e m. passes r i r.name refl e m;
    standing = λ u h. sym (stands_some u) ∙ h;
    making = renamed_making;
    folding = inl renamed_folding;
  }

  pub rename_sound : fault_of new ≡ None
  rename_sound = step_sound sound one rename_step

  -- the parent's UUID is no disk, and each other one but the leaf's stands where it stood
  none_stands : standing_volume t parent ≡ None
  none_stands = stands_near x homes sound leaf parent one cases t parent refl parent_near ∙ beside_plain t leaf parent parent (inl entry) (bytes_eq-apart parent leaf differ) ∙ plainly_none.0

  pub rename_still : (u : List ℕ) → u ≢ leaf → standing_volume again u ≡ standing_volume t u
  rename_still u other = stands_same u (beside_other u other)

  -- any other disk stands in a volume of neither
  stood_apart : (u : List ℕ) → is_among us u ≡ false → (y : Name) → standing_volume t u ≡ Some y → is_apart us y ≡ true
  unfolding image_with
  stood_apart u far y is = by cases
    where
      other : bytes_eq u leaf ≡ false
      other = bytes_eq-apart u leaf (λ at. true≢false (sym leaf_near ∙ ap (is_among us) (sym at) ∙ far))

      plain : beside t u ≡ Some y → is_apart us y ≡ true
      plain h = plain_apart t us u y far (sym (beside_plain t leaf parent u (inl entry) other) ∙ h)

      based : (f : List ℕ) → is_among us f ≡ false → image_with t f ≡ Some y → is_apart us y ≡ true
      based f away h = kinds (found_kind (is_there t) f y h).0
        where
          kinds : (y ≡ Vhd f) ⊎ (y ≡ Raw f) → is_apart us y ≡ true
          kinds (inl at) = ap (is_apart us) at ∙ vhd_apart us f away
          kinds (inr at) = ap (is_apart us) at ∙ raw_apart us f away

      forked_at : (f : List ℕ) → is_among us f ≡ false → (c d : Bool) (i : Option Name) → image_with t f ≡ i
          → cond c (elim i as (λ _. Option Name) [ None ↦ beside t u | Some n ↦ Some n ]) (cond d None (beside t u)) ≡ Some y → is_apart us y ≡ true
      forked_at f away true d None at h = plain h
      forked_at f away true d (Some n) at h = based f away (at ∙ h)
      forked_at f away false true i at h = absurd (none-some y h)
      forked_at f away false false i at h = plain h

      by : (making t ≡ []) ⊎ (((v : List ℕ) × (extents : ℕ) × IsBeingEnlarged t v extents) ⊎ IsBeingForked t) → is_apart us y ≡ true
      by (inl none) = plain (sym (stands_beside t u none) ∙ is)
      by (inr (inl k)) = let h = k.2 in plain (sym (stands_making t u (Inflate k.0 k.1) (ap head h.entry)) ∙ is)
      by (inr (inr k)) =
          forked_at k.1 (fork_free x homes sound leaf parent one k.0 k.1 k.2 k.3 k.1 (base_among k.0 k.1 k.2)) (bytes_eq u k.0) (bytes_eq u k.1 || bytes_eq u k.2) (image_with t k.1) refl
          (sym (stands_making t u (Clone k.0 k.1 k.2) (ap head k.3)) ∙ is)

  -- each stands in the same image, by the name that it had
  pub rename_stands : (u : List ℕ) → (standing_volume again u >>= moved leaf parent) ≡ standing_volume t u
  rename_stands u = by (which leaf parent u).cases
    where
      still : is_among us u ≡ false → (o : Option Name) → standing_volume t u ≡ o → (o >>= moved leaf parent) ≡ o
      still far None is = refl
      still far (Some y) is =
          let k = apart_not y (stood_apart u far y is) in
          ap₂ (λ l p. cond l (Some (Vhd parent)) (cond p None (Some y))) (name_eq-other y (Vhd leaf) k.1) (name_eq-other y (Vhd parent) k.0)

      by : (u ≡ leaf) ⊎ ((u ≡ parent) ⊎ (is_among us u ≡ false)) → (standing_volume again u >>= moved leaf parent) ≡ standing_volume t u
      by (inl at) =
          ap (λ v. standing_volume again v >>= moved leaf parent) at ∙ ap (λ o. o >>= moved leaf parent) stands_now
          ∙ ap (λ l. cond l (Some (Vhd parent)) (cond (name_eq (Vhd leaf) (Vhd parent)) None (Some (Vhd leaf)))) (name_eq-refl (Vhd leaf)) ∙ sym stood ∙ ap (standing_volume t) (sym at)
      by (inr (inl at)) =
          ap (λ v. standing_volume again v >>= moved leaf parent) at ∙ ap (λ o. o >>= moved leaf parent) (rename_still parent differ ∙ none_stands) ∙ sym none_stands ∙ ap (standing_volume t) (sym at)
      by (inr (inr far)) =
          ap (λ o. o >>= moved leaf parent) (rename_still u (λ at. true≢false (sym leaf_near ∙ ap (is_among us) (sym at) ∙ far))) ∙ still far (standing_volume t u) refl

  -- ---- a content with these links: its images, and its disks

  module _ (c : Content) where
    abbrev a : Content
    a = record c { table = t }

    abbrev b : Content
    b = record c { table = again }

    images_apart : (n : Name) → is_apart us n ≡ true → image_of b n ≡ image_of a n
    images_apart n far = image_same a again n (rows_apart n far) renamed_making

    abbrev filled_by : ℕ → Option Image
    filled_by size = cond own.fresh None (image_at c.block c.entries (size * c.extent) (piece c.extent own.extents c.area))

    abbrev vhd_by : Name → Option Row → List Name → Option Image
    vhd_by n r es = r >>= (λ q. cond q.fresh None (image_at c.block c.entries (image_extents es n (length q.extents) * c.extent) (piece c.extent (extents_of r) c.area)))

    pub image_moved : image_of b (Vhd leaf) ≡ image_of a (Vhd parent)
    unfolding image_of vhd_image sectors_of
    image_moved =
        ap₂ (vhd_by (Vhd leaf)) leaf_row renamed_making ∙ ap filled_by (at_size leaf (inl refl) (length own.extents))
        ∙ sym (ap filled_by (at_size parent (inr refl) (length own.extents))) ∙ sym (ap (λ r. vhd_by (Vhd parent) r (making t)) own_there)

    pub image_gone : image_of b (Vhd parent) ≡ None
    unfolding image_of vhd_image
    image_gone = ap (λ (r : Option Row). r >>= (λ q. cond q.fresh None (vhd_image b (Vhd parent) q))) parent_gone

    same_apart : IsSameApart a b us
    same_apart = record { rows = rows_apart; images = images_apart }

    recorded : (u : List ℕ) → record_of b u ≡ record_of a u
    recorded u = record_of_first b u ∙ ap first_of (records_same a b u (readings_same a again (rows_apart Mgt refl))) ∙ sym (record_of_first a u)

    module _ (linked : (n : Name) → link_of (image_of a n) ≡ x.links n) where
      parent_as : (m q : Name) → parent_of a m ≡ Some q → parent_in x m ≡ Some q
      parent_as m q up = sym (ap (λ (l : Option Link). l >>= (λ (i : Link). i.parent)) (linked m)) ∙ up

      closed_apart : IsClosedApart a us
      closed_apart m q far up = closed m q (parent_as m q up)

      disk_leaf : disk_at b leaf ≡ disk_at a leaf
      disk_leaf =
          moved_disk a b leaf (Vhd parent) (Vhd leaf) stood stands_now (recorded leaf)
          (sectors_moved a b (Vhd parent) (Vhd leaf) image_moved (λ i. reads_moved a b us (Vhd parent) (Vhd leaf) same_apart closed_apart image_moved (λ p up. closed (Vhd parent) p (parent_as (Vhd parent) p up)) i))

      disk_each : (u : List ℕ) → disk_at b u ≡ disk_at a u
      disk_each u = by (which leaf parent u).cases
        where
          by : (u ≡ leaf) ⊎ ((u ≡ parent) ⊎ (is_among us u ≡ false)) → disk_at b u ≡ disk_at a u
          by (inl at) = subst (λ v. disk_at b v ≡ disk_at a v) (sym at) disk_leaf
          by (inr (inl at)) =
              subst (λ v. disk_at b v ≡ disk_at a v) (sym at) (no_disk a b parent none_stands (rename_still parent differ ∙ none_stands))
          by (inr (inr far)) =
              other_disk a b us u same_apart closed_apart (rename_still u (λ at. true≢false (sym leaf_near ∙ ap (is_among us) (sym at) ∙ far))) (stood_apart u far) (recorded u)

      -- the same disks
      pub rename_disks : disks b ≡ disks a
      rename_disks = disks_same a b disk_each

    -- its images
    pub rename_images : (n : Name) → image_of b n ≡ (moved leaf parent n >>= image_of a)
    rename_images n = by (name_eq n (Vhd leaf)) (name_eq n (Vhd parent)) refl refl
      where
        by : (l d : Bool) → name_eq n (Vhd leaf) ≡ l → name_eq n (Vhd parent) ≡ d → image_of b n ≡ (cond l (Some (Vhd parent)) (cond d None (Some n)) >>= image_of a)
        by true d is_leaf is_parent = ap (image_of b) (name_eq-true n (Vhd leaf) is_leaf) ∙ image_moved
        by false true is_leaf is_parent = ap (image_of b) (name_eq-true n (Vhd parent) is_parent) ∙ image_gone
        by false false is_leaf is_parent = image_same a again n (rename_others n (name_eq-false n (Vhd parent) is_parent) (name_eq-false n (Vhd leaf) is_leaf)) renamed_making
