-- The entry of a link while a fork or an enlargement beside it is undone: it stays, and stands at its stage; whatever a stop leaves
-- is kept and shows the same disks.
use Rattle.std.proofs.Common.{◌≡◌, ◌⊎◌, inl, inr, ℕ, ◌<◌, ◌≤◌, ◌^◌, Bool, true, false, cond, not, ◌&&◌, ◌||◌, ◌==◌, List, [], ◌∷◌, length, take, Option, Some, None, is_some, refl, sym, ap, ap₂, ◌∙◌, subst, arith, nat_le}
use Rattle.std.specs.List.{AllByRecursion, list_any}
use Rattle.std.specs.Str.{bytes_eq}
use Rattle.std.proofs.lemmas.Bool.{true≢false, and_parts, leb-true}
use Rattle.std.proofs.lemmas.List.{take_all}
use Rattle.std.proofs.lemmas.Option.{same_Some}
use Rattle.common_laws.specs.Lists.{In}
use Rattle.common_laws.proofs.Booleans.{not_false, or_cases}
use Rattle.common_laws.proofs.Lists.{In-map_at, filter-In}
use Rattle.sm_base.specs.Kinds.{is_image as is_data, is_entry}
use Rattle.sm_base.specs.Numbers.{IsGeometry}
use Rattle.sm_base.specs.declared.names.Name.{Name}
use Rattle.sm_base.specs.declared.names.Name.TheVariants.{Vhd, Raw, Clone, Relink}
use Rattle.vg_meta.specs.Changes.{raised}
use Rattle.vg_meta.specs.declared.changes.Change.{Change}
use Rattle.vg_meta.specs.declared.changes.Change.TheVariants.{Remove}
use Rattle.vg_meta.specs.Tables.{VolumeTable, Row, IsTable, names_of, rows}
use Rattle.vg_meta.proofs.ChangeLaws.{IsTable-applied}
use Rattle.vg_meta.proofs.RowLaws.{row_of-name}
use Rattle.sm_machine.specs.Shapes.{same_image}
use Rattle.sm_machine.proofs.ImageNames.{same_image-sound}
use Rattle.sm_standing.specs.Apart.{is_apart}
use Rattle.sm_standing.specs.Checks.{chain_length, children, has_parent_of, has_such_parent, has_twin, has_uuid, is_entry_linked, is_linked, is_no_larger, is_parent_right, of_image}
use Rattle.sm_standing.specs.Contents.{Content}
use Rattle.sm_standing.specs.Entries.{are_past, folding, folding_uuids, head, image_with, is_among, is_at_stage, is_folding, is_fork_begun, is_fork_made, is_forking, is_hidden, is_making, is_there, making, uuids_in}
use Rattle.sm_standing.specs.Forks.{forked}
use Rattle.sm_standing.specs.Images.{Image, image_of}
use Rattle.sm_standing.specs.Keeping.{HasNoEmptySlot, HasParentAlike, HoldsWell, IsKept}
use Rattle.sm_standing.specs.Opened.{applied_all, parent_name, undo_changes, undone}
use Rattle.sm_standing.specs.Outlines.{Link, link_of, outline}
use Rattle.sm_standing.specs.Plain.{IsSimple, is_plain_name, is_simple_name}
use Rattle.sm_standing.specs.PlainSound.{KnownSound, SimpleSound}
use Rattle.sm_standing.specs.Standing.{disks}
use Rattle.sm_standing.specs.Undone.{AllPermit, IsSameArea, IsUndoing}
use Rattle.sm_standing.specs.Unfolded.{IsLinking, unfolded}
use Rattle.sm_standing.specs.Worlds.{with_table}
use Rattle.sm_standing.proofs.DisksShown.{row_of-In}
use Rattle.sm_standing.proofs.FaultLaws.{wrong_at}
use Rattle.sm_standing.proofs.ForkParts.{entry_found}
use Rattle.sm_standing.proofs.ImageLaws.{image_there}
use Rattle.sm_standing.proofs.NamedLaws.{all_past}
use Rattle.sm_standing.proofs.PlainDisks.{all-In, no_making, simple_folding}
use Rattle.sm_standing.proofs.PlainKept.{all-of, known_kept, plain_simple_name, simple_but_leaf, but_leaf_sound}
use Rattle.sm_standing.proofs.UndoneLaws.{named_found}
use Rattle.sm_standing.proofs.UndoneButLeaf.{SpeaksNoFork, but_leaf_permits, but_leaf_undone, undoing_disks, undoing_hidden, undoing_images, undoing_kept}
use Rattle.sm_standing.proofs.UnfoldedContents.{bare, disks_bare, holding_bare, images_bare, sound_bare, sound_with}
use Rattle.sm_standing.proofs.UnfoldedLaws.{IsFold, alone, bare_at, fold_link, hidden_bare, making_bare}
use Rattle.sm_standing.proofs.UnfoldedRuns.{IsBesideRun, beside_run, changes_bare, names_run, rise, rise_is, rise_raised, take_permits, take_spares, undo_spares}
use Rattle.sm_standing.proofs.UnfoldedButLeaf.{fold_permits, fold_row, unfolded_is}

-- ---- what the entry says

-- the image is there, and its parent, which has this UUID, and is not smaller
record IsUnder (c : Content) (child parent : List ℕ) : Type 0 where
  v : Image
  p : Image
  under : Name
  image : image_of c (Vhd child) ≡ Some v
  above : v.parent ≡ Some under
  below : image_of c under ≡ Some p
  uuid : has_uuid parent under ≡ true
  large : nat_le v.size p.size ≡ true

abbrev at_least : Link → Link → Bool
at_least v p = nat_le v.size p.size

is_under : (c : Content) (child parent : List ℕ) → has_parent_of (outline c) child parent at_least ≡ true → IsUnder c child parent
is_under c child parent h = of (image_of c (Vhd child)) refl h
  where
    third : (v : Image) (q : Name) (z : Option Image) → image_of c (Vhd child) ≡ Some v → v.parent ≡ Some q → has_uuid parent q ≡ true → image_of c q ≡ z
        → of_image (at_least (record { size = v.size; parent = v.parent })) (link_of z) ≡ true → IsUnder c child parent
    third v q None image up uuid below k = absurd (true≢false (sym k))
    third v q (Some p) image up uuid below k = record { v = v; p = p; under = q; image = image; above = up; below = below; uuid = uuid; large = k }

    second : (v : Image) (y : Option Name) → image_of c (Vhd child) ≡ Some v → v.parent ≡ y → has_such_parent (outline c) parent (at_least (record { size = v.size; parent = v.parent })) y ≡ true → IsUnder c child parent
    second v None image up k = absurd (true≢false (sym k))
    second v (Some q) image up k =
        let both = and_parts (has_uuid parent q) (of_image (at_least (record { size = v.size; parent = v.parent })) (link_of (image_of c q))) k in
        third v q (image_of c q) image up both.0 refl both.1

    of : (x : Option Image) → image_of c (Vhd child) ≡ x → of_image (λ v. has_such_parent (outline c) parent (at_least v) v.parent) (link_of x) ≡ true → IsUnder c child parent
    of None image k = absurd (true≢false (sym k))
    of (Some v) image k = second v v.parent image refl k

-- and the other way round
under_linked : (c : Content) (child parent : List ℕ) (v p : Image) (q : Name) → image_of c (Vhd child) ≡ Some v → v.parent ≡ Some q → image_of c q ≡ Some p → has_uuid parent q ≡ true → nat_le v.size p.size ≡ true
    → has_parent_of (outline c) child parent at_least ≡ true
under_linked c child parent v p q image up below uuid large =
    ap (λ x. of_image (λ w. has_such_parent (outline c) parent (at_least w) w.parent) (link_of x)) image
    ∙ ap (has_such_parent (outline c) parent (at_least (record { size = v.size; parent = v.parent }))) up
    ∙ ap₂ (λ a x. a && of_image (at_least (record { size = v.size; parent = v.parent })) (link_of x)) uuid below
    ∙ large

-- which name that is
uuid_name : (parent : List ℕ) (q : Name) → has_uuid parent q ≡ true → (q ≡ Vhd parent) ⊎ (q ≡ Raw parent)
uuid_name parent q h = by (or_cases (same_image q (Vhd parent)) (same_image q (Raw parent)) h)
  where
    by : (same_image q (Vhd parent) ≡ true) ⊎ (same_image q (Raw parent) ≡ true) → (q ≡ Vhd parent) ⊎ (q ≡ Raw parent)
    by (inl is) = inl (same_image-sound q (Vhd parent) is)
    by (inr is) = inr (same_image-sound q (Raw parent) is)

named_row : (t : VolumeTable) (n : Name) (P : Name → Type 0) → ((r : Row) → In r t.volumes → P r.name) → (r : Row) → rows t n ≡ Some r → P n
named_row t n P each r there = subst P (row_of-name t.volumes n r there) (each r (row_of-In t.volumes n r there).0)

module _ (c : Content) (s : KnownSound c) where
  is_there_by : (n : Name) (i : Image) → image_of c n ≡ Some i → is_there c.table n ≡ true
  is_there_by n i is = ap is_some (image_there c n i is).1

  -- no VHD image has the UUID of a raw one
  no_twin : (u : List ℕ) (i : Image) → image_of c (Raw u) ≡ Some i → is_there c.table (Vhd u) ≡ false
  no_twin u i is =
      let r = image_there c (Raw u) i is in
      by (is_there c.table (Vhd u)) (are_past c.table (Raw u)) (named_row c.table (Raw u) (λ n. (is_data n && (has_twin c.table n || not (are_past c.table n))) ≡ false) s.named r.0 r.1)
    where
      by : (a b : Bool) → (a || not b) ≡ false → a ≡ false
      by true b h = absurd (true≢false h)
      by false b h = refl

  parent_is_named : (parent : List ℕ) (q : Name) (p : Image) → (q ≡ Vhd parent) ⊎ (q ≡ Raw parent) → image_of c q ≡ Some p → parent_name c.table parent ≡ q
  unfolding image_with
  parent_is_named parent q p (inl at) is =
      ap (λ b. elim (cond b (Some (Vhd parent)) (cond (is_there c.table (Raw parent)) (Some (Raw parent)) None)) as (λ _. Name) [ None ↦ Vhd parent | Some n ↦ n ])
      (is_there_by (Vhd parent) p (sym (ap (image_of c) at) ∙ is))
      ∙ sym at
  parent_is_named parent q p (inr at) is =
      let image = sym (ap (image_of c) at) ∙ is in
      ap₂ (λ a b. elim (cond a (Some (Vhd parent)) (cond b (Some (Raw parent)) None)) as (λ _. Name) [ None ↦ Vhd parent | Some n ↦ n ]) (no_twin parent p image) (is_there_by (Raw parent) p image)
      ∙ sym at

  -- its parent is hidden, and not larger
  right_parent : (u : List ℕ) (v p : Image) (q : Name) → image_of c (Vhd u) ≡ Some v → v.parent ≡ Some q → image_of c q ≡ Some p → (is_hidden c.table q ≡ true) × (nat_le p.size v.size ≡ true)
  right_parent u v p q image up below =
      let r = image_there c (Vhd u) v image in
      let name = row_of-name c.table.volumes (Vhd u) r.0 r.1 in
      let placed = sym (wrong_at (outline c) u r.0 (record { size = v.size; parent = v.parent }) name (ap link_of image)) ∙ s.placed r.0 (row_of-In c.table.volumes (Vhd u) r.0 r.1).0 in
      let linked = first (is_linked (outline c) (record { size = v.size; parent = v.parent })) (nat_le (chain_length (outline c) 31 r.0.name) 30 && (r.0.hidden || (length (children (outline c) r.0.name) == 0))) placed in
      let both = and_parts (is_hidden c.table q) (is_no_larger v.size (link_of (image_of c q))) (sym (ap (λ x. elim x as (λ _. Bool) [ None ↦ true | Some m ↦ is_parent_right (outline c) v.size m ]) up) ∙ linked) in
      (both.0, sym (ap (λ x. is_no_larger v.size (link_of x)) below) ∙ both.1)
    where
      first : (a b : Bool) → not (a && b) ≡ false → a ≡ true
      first true b h = refl
      first false b h = absurd (true≢false h)

-- ---- the entry of a link

module _ (c : Content) (s : KnownSound c) (child parent : List ℕ) (one : folding c.table ≡ Relink child parent ∷ []) where
  abbrev pub t : VolumeTable
  t = c.table

  abbrev pub e : Name
  e = Relink child parent

  abbrev pub f : IsFold e
  f = fold_link child parent

  pub own : (r : Row) × (rows t e ≡ Some r)
  own = fold_row t e one

  stands : (is_at_stage t e && are_past t e) ≡ true
  stands = not_false (is_at_stage t e && are_past t e) (named_row t e (λ n. (is_entry n && not (is_at_stage t n && are_past t n)) ≡ false) s.at_stage own.0 own.1)

  stage_then : is_at_stage t e ≡ true
  stage_then = (and_parts (is_at_stage t e) (are_past t e) stands).0

  past_then : are_past t e ≡ true
  past_then = (and_parts (is_at_stage t e) (are_past t e) stands).1

  under_it : IsUnder c child parent
  unfolding is_entry_linked
  under_it = is_under c child parent (named_row t e (λ n. is_entry_linked (outline c) n ≡ true) s.linked own.0 own.1)

  under_named : parent_name t parent ≡ under_it.under
  under_named = parent_is_named c s parent under_it.under under_it.p (uuid_name parent under_it.under under_it.uuid) under_it.below

  same_size : (a b : ℕ) → nat_le a b ≡ true → nat_le b a ≡ true → b ≡ a
  same_size a b x y = let k = leb-true a b x in let l = leb-true b a y in omega (arith, k, l)

  pub link_says : IsLinking c child parent
  unfolding is_at_stage
  link_says =
      let right = right_parent c s child under_it.v under_it.p under_it.under under_it.image under_it.above under_it.below in
      record {
        entry = own.0;
        there = own.1;
        v = under_it.v;
        p = under_it.p;
        image = under_it.image;
        above = under_it.above ∙ ap Some (sym under_named);
        below = ap (image_of c) under_named ∙ under_it.below;
        size = same_size under_it.v.size under_it.p.size under_it.large right.1;
        hidden = (and_parts (is_hidden t (Vhd child)) (is_hidden t (Vhd parent) || is_hidden t (Raw parent)) stage_then).0;
        parent_hidden = ap (is_hidden t) under_named ∙ right.0;
      }

  -- of a fork beside it the entry speaks not
  fork_apart : (disk base twin : List ℕ) → In (Clone disk base twin) (names_of t.volumes) → list_any (is_among (forked disk base twin)) (folding_uuids t) ≡ false
  unfolding is_at_stage
  fork_apart disk base twin i =
      let r = named_found t.volumes (Clone disk base twin) i in
      let at = not_false (is_forking t disk base twin && are_past t (Clone disk base twin))
      (named_row t (Clone disk base twin) (λ n. (is_entry n && not (is_at_stage t n && are_past t n)) ≡ false) s.at_stage r.0 r.1) in
      fourth (bytes_eq disk base) (bytes_eq disk twin) (bytes_eq base twin) (list_any (is_among (forked disk base twin)) (folding_uuids t))
      (is_fork_begun t disk base twin || is_fork_made t disk base twin) (and_parts (is_forking t disk base twin) (are_past t (Clone disk base twin)) at).0
    where
      fourth : (a b d g k : Bool) → (not a && (not b && (not d && (not g && k)))) ≡ true → g ≡ false
      fourth true b d g k h = absurd (true≢false (sym h))
      fourth false true d g k h = absurd (true≢false (sym h))
      fourth false false true g k h = absurd (true≢false (sym h))
      fourth false false false true k h = absurd (true≢false (sym h))
      fourth false false false false k h = refl

  uuids_then : folding_uuids t ≡ child ∷ parent ∷ []
  uuids_then = ap (λ ns. elim (head ns) as (λ _. List (List ℕ)) [ None ↦ [] | Some n ↦ uuids_in n ]) one

  -- nor does a name of the image or of its parent
  name_apart : (n : Name) → (uuids_in n ≡ child ∷ []) ⊎ (uuids_in n ≡ parent ∷ []) → (disk base twin : List ℕ) → making t ≡ Clone disk base twin ∷ [] → is_apart (forked disk base twin) n ≡ true
  name_apart n which disk base twin making_is =
      let k = entry_found t (Clone disk base twin) making_is in
      let i = subst (λ m. In m (names_of t.volumes)) (row_of-name t.volumes (Clone disk base twin) k.0 k.1) (In-map_at (λ (r : Row). r.name) t.volumes k.0 (row_of-In t.volumes (Clone disk base twin) k.0 k.1).0) in
      by which (sym (ap (list_any (is_among (forked disk base twin))) uuids_then) ∙ fork_apart disk base twin i)
    where
      neither : (a b : Bool) → (a || (b || false)) ≡ false → (not (a || false) ≡ true) × (not (b || false) ≡ true)
      neither true b h = absurd (true≢false h)
      neither false true h = absurd (true≢false h)
      neither false false h = (refl, refl)

      by : (uuids_in n ≡ child ∷ []) ⊎ (uuids_in n ≡ parent ∷ []) → list_any (is_among (forked disk base twin)) (child ∷ parent ∷ []) ≡ false → is_apart (forked disk base twin) n ≡ true
      by (inl is) h = ap (λ us. not (list_any (is_among (forked disk base twin)) us)) is ∙ (neither (is_among (forked disk base twin) child) (is_among (forked disk base twin) parent) h).0
      by (inr is) h = ap (λ us. not (list_any (is_among (forked disk base twin)) us)) is ∙ (neither (is_among (forked disk base twin) child) (is_among (forked disk base twin) parent) h).1

  under_uuid : (q : Name) → (q ≡ Vhd parent) ⊎ (q ≡ Raw parent) → uuids_in q ≡ parent ∷ []
  under_uuid q (inl at) = ap uuids_in at
  under_uuid q (inr at) = ap uuids_in at

  -- ---- the table without it

  module _ (table : IsTable c.count c.table) (geometry : IsGeometry c.extent c.block c.entries) where
    abbrev pub d : Content
    d = bare c e f t.sequence

    sound_d : SimpleSound d
    sound_d = sound_bare c e f t.sequence one (omega arith) s

    table_d : IsTable c.count d.table
    table_d = record { sequence = table.sequence; volumes = (IsTable-applied c.count t (Remove e) table (fold_permits c.count t e one)).volumes }

    making_d : making d.table ≡ making t
    making_d = making_bare e f t t.sequence

    abbrev cs : List Change
    cs = undo_changes t

    changes_d : undo_changes d.table ≡ cs
    changes_d = changes_bare e f t.sequence t

    permits_d : AllPermit c.count d.table cs
    permits_d = subst (AllPermit c.count d.table) changes_d (but_leaf_permits d table_d geometry sound_d)

    pub link_permits : AllPermit c.count t cs
    link_permits = (beside_run e f c.count t.sequence t cs (undo_spares t) table permits_d).permits

    -- a name of an image, or one that was there
    abbrev pub IsFrom : Name → Type 0
    IsFrom n = (is_plain_name n ≡ true) ⊎ In n (names_of t.volumes)

    -- a table on the way, with the entry
    pub record IsWith (w : VolumeTable) : Type 0 where
      pub is_table : IsTable c.count w
      pub there : rows w e ≡ Some own.0
      pub later : t.sequence ≤ w.sequence
      pub names : AllByRecursion (λ (r : Row). IsFrom r.name) w.volumes
      pub simple : IsSimple (bare_at e w.sequence w)
      pub undoing : IsUndoing d.table (bare_at e w.sequence w)

    rise_later : (q : ℕ) (xs : List Change) → q < 2 ^ 48 → q ≤ rise e f q xs
    rise_later q [] below = omega arith
    rise_later q (x ∷ xs) below = let more = rise_later (raised q) xs (omega (arith, below)) in omega (arith, below, more)

    taken_with : (k : ℕ) → IsWith (applied_all t (take k cs))
    taken_with k =
        let spare = take_spares k cs (undo_spares t) in
        let run = beside_run e f c.count t.sequence t (take k cs) spare table (take_permits e f c.count d.table k cs permits_d) in
        let w = applied_all t (take k cs) in
        let number = rise_is e f t (take k cs) in
        let same : bare_at e w.sequence w ≡ applied_all d.table (take k cs) = ap (λ q. bare_at e q w) number ∙ sym run.same in
        record {
          is_table = run.table;
          there = run.there ∙ own.1;
          later = let more = rise_later t.sequence (take k cs) table.sequence in omega (arith, number, more);
          names = names_run IsFrom (λ n is. inl is) t (take k cs) spare (all-of (λ r. IsFrom r.name) t.volumes (λ r i. inr (In-map_at (λ (r : Row). r.name) t.volumes r i)));
          simple = subst IsSimple (sym same) (names_run (λ n. is_simple_name n ≡ true) plain_simple_name d.table (take k cs) spare sound_d.only);
          undoing = (k, same ∙ ap (λ xs. applied_all d.table (take k xs)) (sym changes_d));
        }

    pub link_with : (w : VolumeTable) → IsUndoing t w → IsWith w
    link_with w k = subst IsWith (sym k.1) (taken_with k.0)

    last_with : IsWith (undone t)
    unfolding undone
    last_with = subst IsWith (ap (applied_all t) (take_all (length cs) cs (omega arith))) (taken_with (length cs))

    -- ---- one of them

    module _ (w : VolumeTable) (k : IsWith w) where
      pub with_one : folding w ≡ e ∷ []
      with_one = alone e is_folding f.folds w.volumes own.0 k.there (simple_folding (bare_at e w.sequence w).volumes k.simple)

      speaks_no_fork : (n : Name) → (uuids_in n ≡ child ∷ []) ⊎ (uuids_in n ≡ parent ∷ []) → SpeaksNoFork d table_d geometry sound_d n
      speaks_no_fork n which disk base twin is = name_apart n which disk base twin (sym making_d ∙ is)

      hidden_same : (n : Name) → is_making n ≡ false → is_folding n ≡ false → (uuids_in n ≡ child ∷ []) ⊎ (uuids_in n ≡ parent ∷ []) → is_hidden w n ≡ is_hidden t n
      hidden_same n no_entry no_fold which =
          sym (hidden_bare e f w w.sequence n no_fold) ∙ undoing_hidden d table_d geometry sound_d (bare_at e w.sequence w) k.undoing n no_entry (speaks_no_fork n which) ∙ hidden_bare e f t t.sequence n no_fold

      stage_still : is_at_stage w e ≡ true
      unfolding is_at_stage
      stage_still =
          ap₂ (λ a b. a && b) (hidden_same (Vhd child) refl refl (inl refl)) (ap₂ (λ a b. a || b) (hidden_same (Vhd parent) refl refl (inr refl)) (hidden_same (Raw parent) refl refl (inr refl)))
          ∙ stage_then

      past_still : are_past w e ≡ true
      past_still = all_past (uuids_in e) t.sequence w.sequence k.later past_then

      uuids_same : folding_uuids w ≡ folding_uuids t
      uuids_same = ap (λ ns. elim (head ns) as (λ _. List (List ℕ)) [ None ↦ [] | Some n ↦ uuids_in n ]) (with_one ∙ sym one)

      fork_still : (r : Row) → In r w.volumes → (disk base twin : List ℕ) → r.name ≡ Clone disk base twin → list_any (is_among (forked disk base twin)) (folding_uuids w) ≡ false
      fork_still r i disk base twin is = ap (list_any (is_among (forked disk base twin))) uuids_same ∙ by (subst IsFrom is (all-In (λ (r : Row). IsFrom r.name) w.volumes r k.names i))
        where
          by : IsFrom (Clone disk base twin) → list_any (is_among (forked disk base twin)) (folding_uuids t) ≡ false
          by (inl plain) = absurd (true≢false (sym plain))
          by (inr there) = fork_apart disk base twin there

      module _ (area : ℕ → List ℕ) (same : IsSameArea c area) where
        abbrev b : Content
        b = with_table c w area

        abbrev less : VolumeTable
        less = bare_at e w.sequence w

        image_same : (n : Name) → (uuids_in n ≡ child ∷ []) ⊎ (uuids_in n ≡ parent ∷ []) → image_of b n ≡ image_of c n
        image_same n which =
            sym (images_bare b e f w.sequence n) ∙ undoing_images d table_d geometry sound_d less area k.undoing same n (speaks_no_fork n which) ∙ images_bare c e f t.sequence n

        child_same : image_of b (Vhd child) ≡ image_of c (Vhd child)
        child_same = image_same (Vhd child) (inl refl)

        under_same : image_of b under_it.under ≡ image_of c under_it.under
        under_same = image_same under_it.under (inr (under_uuid under_it.under (uuid_name parent under_it.under under_it.uuid)))

        linked_still : is_entry_linked (outline b) e ≡ true
        unfolding is_entry_linked
        linked_still =
            under_linked b child parent under_it.v under_it.p under_it.under (child_same ∙ under_it.image) under_it.above (under_same ∙ under_it.below) under_it.uuid under_it.large

        pub link_shown : disks b ≡ disks c
        link_shown =
            sym (disks_bare b e f w.sequence with_one) ∙ undoing_disks d table_d geometry sound_d less area k.undoing same ∙ disks_bare c e f t.sequence one

        module _ (holding : HasNoEmptySlot c) where
          kept_less : IsKept (with_table d less area)
          kept_less = undoing_kept d table_d geometry sound_d (holding_bare c e f t.sequence holding) less area k.undoing same

          sound_less : SimpleSound (with_table d less area)
          sound_less = but_leaf_sound (with_table d less area) (simple_but_leaf (with_table d less area) kept_less.sound k.simple) (simple_folding less.volumes k.simple)

          pub link_sound : KnownSound b
          link_sound = sound_with b e f w.sequence with_one (omega arith) stage_still past_still linked_still (λ r i disk base twin is. fork_still r i disk base twin is) sound_less

        -- each sector that the image holds its parent holds alike
        linking_still : HasParentAlike c → HasParentAlike b
        linking_still alike x y r v p n there image up below =
            let at = row_of-name w.volumes (Relink x y) r there in
            let i = subst (λ m. In m (names_of w.volumes)) at (In-map_at (λ (r : Row). r.name) w.volumes r (row_of-In w.volumes (Relink x y) r there).0) in
            let is = it (Relink x y) (subst (In (Relink x y)) with_one (filter-In is_folding (names_of w.volumes) (Relink x y) i refl)) in
            let x_is : x ≡ child = (let z = is in cc) in
            let image_c = sym child_same ∙ sym (ap (λ u. image_of b (Vhd u)) x_is) ∙ image in
            let v_is = same_Some under_it.v v (sym under_it.image ∙ image_c) in
            let n_is = same_Some under_it.under n (sym under_it.above ∙ ap (λ (z : Image). z.parent) v_is ∙ up) in
            alike child parent own.0 v p n own.1 image_c up (sym (sym (ap (image_of b) n_is) ∙ under_same ∙ ap (image_of c) n_is) ∙ below)
          where
            it : (m : Name) → In m (e ∷ []) → m ≡ e
            it m (inl is) = is
            it m (inr none) = absurd none

        pub link_kept : HoldsWell c → IsKept b
        link_kept well =
            known_kept b (link_sound well.holding) (record {
              holding = λ u i is. (kept_less well.holding).holding u i (images_bare b e f w.sequence (Vhd u) ∙ is);
              linking = linking_still well.linking;
            })

    -- ---- the last one

    pub link_quiet : making (undone t) ≡ []
    unfolding undone
    link_quiet =
        sym (making_bare e f (undone t) (undone t).sequence)
        ∙ ap making (last_same ∙ ap (applied_all d.table) (sym changes_d))
        ∙ no_making (undone d.table).volumes (but_leaf_undone d table_d geometry sound_d).only
      where
        last_same : bare_at e (undone t).sequence (undone t) ≡ applied_all d.table cs
        last_same = ap (λ q. bare_at e q (undone t)) (rise_is e f t cs) ∙ sym (beside_run e f c.count t.sequence t cs (undo_spares t) table permits_d).same

    pub link_unfolded : unfolded (undone t) ≡ undone (unfolded t)
    unfolding undone
    link_unfolded =
        unfolded_is (undone t) e (with_one (undone t) last_with)
        ∙ ap (λ q. bare_at e q (undone t)) (ap raised (rise_is e f t cs) ∙ sym (rise_raised e f t.sequence cs))
        ∙ sym run.same ∙ ap (applied_all next.table) (sym (changes_bare e f (raised t.sequence) t)) ∙ sym (ap undone (unfolded_is t e one))
      where
        next : Content
        next = bare c e f (raised t.sequence)

        run : IsBesideRun e f c.count (raised t.sequence) t cs
        run = beside_run e f c.count (raised t.sequence) t cs (undo_spares t) table
            (subst (AllPermit c.count (bare_at e (raised t.sequence) t)) (changes_bare e f (raised t.sequence) t)
            (but_leaf_permits (bare c e f (raised t.sequence)) (IsTable-applied c.count t (Remove e) table (fold_permits c.count t e one)) geometry (sound_bare c e f (raised t.sequence) one (omega (arith, table.sequence)) s)))
