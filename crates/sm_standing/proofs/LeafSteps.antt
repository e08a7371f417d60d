-- One step at the end of a leaf's folding: where whatever speaks of none of its UUIDs is as it was, and each other volume passes by
-- itself, no check fails; a fork or an enlargement beside it stands at its stage as before.
use Rattle.std.proofs.Common.{◌≡◌, ◌⊎◌, inl, inr, ⊎_elim, ℕ, ◌≤◌, ◌==◌, ◌&&◌, ◌||◌, not, nat_lt, Bool, true, false, List, [], ◌∷◌, ◌++◌, length, Option, Some, None, is_some, refl, sym, ap, ap₂, ◌∙◌, subst, arith, bytes_eq}
use Rattle.std.specs.List.{filter, filter_map, list_any}
use Rattle.std.proofs.lemmas.Bool.{true≢false, le-ltb, eqb-true, eq-eqb, and_parts, and_from, or_parts, and_right, false_from_ne_true}
use Rattle.common_laws.specs.Lists.{In, numbers, ◌>>=◌}
use Rattle.common_laws.proofs.Booleans.{not_true}
use Rattle.common_laws.proofs.Options.{is_some-parts}
use Rattle.common_laws.proofs.Lists.{In-append, In-filter, In-left, In-map_at, In-numbers, filter-In, find_none}
use Rattle.sm_base.specs.Kinds.{is_entry}
use Rattle.sm_base.specs.declared.faults.Place.TheVariants as at
use Rattle.sm_base.specs.declared.names.Name.{Name}
use Rattle.sm_base.specs.declared.names.Name.TheVariants.{Mgt, Vhd, Raw, Old, Cbt, Clone, Inflate, Coalesce, Relink, Leaf}
use Rattle.vg_meta.specs.Tables.{VolumeTable, Row, rows, names_of}
use Rattle.sm_machine.specs.Shapes.{same_image, image_limit}
use Rattle.sm_machine.proofs.ImageNames.{same_image-sound}
use Rattle.sm_standing.specs.Apart.{is_apart}
use Rattle.sm_standing.specs.Besides.{IsBeside, PassesAlone, is_settled_name}
use Rattle.sm_standing.specs.Checks.{too_many_fault, images, second_entry_fault, lesser, placed, is_orphaned, is_image_wrong, children, parent_is, tree_wrong_as, children_with, is_base_of, is_fork_linked, is_entry_linked, is_damaged, record_place, record_fault, disk_uuids, is_unrecorded, disk_place, disk_fault, fault_of}
use Rattle.sm_standing.specs.Contents.{record_count, is_record_of, taken}
use Rattle.sm_standing.specs.Entries.{are_past, folding, folding_uuids, head, is_among, is_at_stage, is_fork_begun, is_fork_made, is_forking, is_inflating, is_making, making, second, uuids_in}
use Rattle.sm_standing.specs.Forks.{forked}
use Rattle.sm_standing.specs.Outlines.{Outline, Link, outline_records, parent_in}
use Rattle.sm_standing.specs.PlainSound.{AllSound}
use Rattle.sm_standing.specs.Standing.{standing_volume, uuids}
use Rattle.sm_standing.specs.Swaps.{swapped}
use Rattle.sm_standing.proofs.ApartLaws.{other_among, old_apart, raw_apart, vhd_apart}
use Rattle.sm_standing.proofs.BesideLaws.{beside_sound}
use Rattle.sm_standing.proofs.Counts.{no_member, none_left}
use Rattle.sm_standing.proofs.DisksShown.{row_of-In}
use Rattle.sm_standing.proofs.FaultLaws.{given_none}
use Rattle.sm_standing.proofs.ForkImages.{misnamed_as, lost_as}
use Rattle.sm_standing.proofs.ForkLaws.{base_among, disk_among, twin_among}
use Rattle.sm_standing.proofs.NamedLaws.{all_past}
use Rattle.sm_standing.proofs.PlainKept.{sound_all}
use Rattle.sm_standing.proofs.UnfoldedChecks.{fork_step}

-- b is a behind one commit at the end of a leaf's folding, which touches volumes of these UUIDs alone
pub record IsLeafStep (a b : Outline) (leaf parent : List ℕ) (us : List (List ℕ)) : Type 0 where
  pub extent : b.extent ≡ a.extent
  pub block : b.block ≡ a.block
  pub entries : b.entries ≡ a.entries
  pub later : a.table.sequence ≤ b.table.sequence
  pub found : (r : Row) → In r b.table.volumes → rows b.table r.name ≡ Some r
  pub rows_apart : (n : Name) → is_apart us n ≡ true → rows b.table n ≡ rows a.table n
  pub links_apart : (n : Name) → is_apart us n ≡ true → b.links n ≡ a.links n
  pub within : (u : List ℕ) → is_among (swapped leaf parent) u ≡ false → is_among us u ≡ false
  pub closed : (n p : Name) → is_apart us n ≡ true → parent_in a n ≡ Some p → is_apart us p ≡ true
  pub few : length (images b.table) ≤ length (images a.table)
  pub readings : b.readings ≡ a.readings
  -- an image of one of them was there under a name of one of them
  pub below : (r : Row) (i : Link) → In r b.table.volumes → is_apart us r.name ≡ false → b.links r.name ≡ Some i
      → (s : Row) × In s a.table.volumes × (a.links s.name ≡ Some i) × (is_apart us s.name ≡ false)
  pub inflating : (u : List ℕ) (extents : ℕ) → In (Inflate u extents) (making a.table) → is_inflating b.table u extents ≡ is_inflating a.table u extents
  pub volumes : (r : Row) → In r b.table.volumes → is_settled_name us r.name ≡ false → is_making r.name ≡ false → PassesAlone b r
  pub standing : (u : List ℕ) → is_some (standing_volume b.table u) ≡ true → is_some (standing_volume a.table u) ≡ true
  pub making : making b.table ≡ making a.table
  pub folding : (folding b.table ≡ folding a.table) ⊎ (folding b.table ≡ [])

module _ {old new : Outline} {leaf parent : List ℕ} {us : List (List ℕ)} (sound : fault_of old ≡ None) (entry : folding old.table ≡ Leaf leaf parent ∷ []) (k : IsLeafStep old new leaf parent us) where
  abbrev t : VolumeTable
  t = new.table

  s : AllSound old
  s = sound_all old sound

  -- ---- volumes apart

  before : (r : Row) → In r t.volumes → is_apart us r.name ≡ true → In r old.table.volumes
  before r there apart = (row_of-In old.table.volumes r.name r (sym (k.rows_apart r.name apart) ∙ k.found r there)).0

  -- a child was one before, perhaps under another name of these UUIDs
  record Was (r : Row) (p : Name) : Type 0 where
    row : Row
    there : In row old.table.volumes
    child : parent_is p (old.links row.name) ≡ true
    named : (row.name ≡ r.name) ⊎ (is_apart us row.name ≡ false)

  was_child : (r : Row) (p : Name) → In r t.volumes → parent_is p (new.links r.name) ≡ true → Was r p
  was_child r p there e = by (is_apart us r.name) refl (new.links r.name) refl e
    where
      by : (c : Bool) → is_apart us r.name ≡ c → (x : Option Link) → new.links r.name ≡ x → parent_is p x ≡ true → Was r p
      by c apart None is f = absurd (true≢false (sym f))
      by true apart (Some i) is f = record { row = r; there = before r there apart; child = ap (parent_is p) (sym (k.links_apart r.name apart) ∙ is) ∙ f; named = inl refl }
      by false apart (Some i) is f = let w = k.below r i there apart is in record { row = w.0; there = w.1; child = ap (parent_is p) w.2 ∙ f; named = inr w.3 }

  none_still : (p : Name) → length (children old p) ≡ 0 → length (children new p) ≡ 0
  unfolding children
  none_still p none =
      ap length (none_left (λ r. parent_is p (new.links r.name)) t.volumes (λ r there. false_from_ne_true (parent_is p (new.links r.name)) (λ e.
      let w = was_child r p there e in
      no_member (filter (λ q. parent_is p (old.links q.name)) old.table.volumes) w.row none (filter-In (λ q. parent_is p (old.links q.name)) old.table.volumes w.row w.there w.child))))

  -- ---- a fork beside it

  uuids_are : folding_uuids old.table ≡ leaf ∷ parent ∷ []
  uuids_are = ap (λ ns. elim (head ns) as (λ _. List (List ℕ)) [ None ↦ [] | Some n ↦ uuids_in n ]) entry

  module _ (disk base twin : List ℕ) (stage : is_forking old.table disk base twin ≡ true) where
    abbrev ws : List (List ℕ)
    ws = forked disk base twin

    abbrev place : VolumeTable → Bool
    place u = is_fork_begun u disk base twin || is_fork_made u disk base twin

    rest : (not (list_any (is_among ws) (folding_uuids old.table)) && place old.table) ≡ true
    rest =
        (and_parts (not (bytes_eq base twin)) (not (list_any (is_among ws) (folding_uuids old.table)) && place old.table)
        (and_parts (not (bytes_eq disk twin)) (not (bytes_eq base twin) && (not (list_any (is_among ws) (folding_uuids old.table)) && place old.table))
        (and_parts (not (bytes_eq disk base)) (not (bytes_eq disk twin) && (not (bytes_eq base twin) && (not (list_any (is_among ws) (folding_uuids old.table)) && place old.table))) stage).1).1).1

    none : list_any (is_among ws) (folding_uuids old.table) ≡ false
    none = not_true (list_any (is_among ws) (folding_uuids old.table)) (and_parts (not (list_any (is_among ws) (folding_uuids old.table))) (place old.table) rest).0

    away : (u : List ℕ) → is_among ws u ≡ true → is_among us u ≡ false
    away u is =
        let n = or_parts (is_among ws leaf) (is_among ws parent || false) (sym (ap (list_any (is_among ws)) uuids_are) ∙ none) in
        let m = or_parts (is_among ws parent) false n.1 in
        k.within u (ap₂ (λ x y. x || (y || false)) (other_among ws leaf u n.0 is) (other_among ws parent u m.0 is))

    disk_away : is_among us disk ≡ false
    disk_away = away disk (disk_among disk base twin)

    base_away : is_among us base ≡ false
    base_away = away base (base_among disk base twin)

    twin_away : is_among us twin ≡ false
    twin_away = away twin (twin_among disk base twin)

    vhd_same : (u : List ℕ) → is_among us u ≡ false → rows t (Vhd u) ≡ rows old.table (Vhd u)
    vhd_same u other = k.rows_apart (Vhd u) (vhd_apart us u other)

    raw_same : (u : List ℕ) → is_among us u ≡ false → rows t (Raw u) ≡ rows old.table (Raw u)
    raw_same u other = k.rows_apart (Raw u) (raw_apart us u other)

    old_same : (u : List ℕ) → is_among us u ≡ false → rows t (Old u) ≡ rows old.table (Old u)
    old_same u other = k.rows_apart (Old u) (old_apart us u other)

    begun_same : is_fork_begun t disk base twin ≡ is_fork_begun old.table disk base twin
    begun_same =
        let v1 : rows t (Vhd disk) ≡ rows old.table (Vhd disk) = vhd_same disk disk_away in
        let v2 : rows t (Vhd base) ≡ rows old.table (Vhd base) = vhd_same base base_away in
        let v3 : rows t (Vhd twin) ≡ rows old.table (Vhd twin) = vhd_same twin twin_away in
        let r1 : rows t (Raw disk) ≡ rows old.table (Raw disk) = raw_same disk disk_away in
        let r2 : rows t (Raw base) ≡ rows old.table (Raw base) = raw_same base base_away in
        let r3 : rows t (Raw twin) ≡ rows old.table (Raw twin) = raw_same twin twin_away in
        let o1 : rows t (Old disk) ≡ rows old.table (Old disk) = old_same disk disk_away in
        let o2 : rows t (Old base) ≡ rows old.table (Old base) = old_same base base_away in
        let o3 : rows t (Old twin) ≡ rows old.table (Old twin) = old_same twin twin_away in
        rw (v1, v2, v3, r1, r2, r3, o1, o2, o3) refl

    made_same : is_fork_made t disk base twin ≡ is_fork_made old.table disk base twin
    made_same =
        let v1 : rows t (Vhd disk) ≡ rows old.table (Vhd disk) = vhd_same disk disk_away in
        let v2 : rows t (Vhd base) ≡ rows old.table (Vhd base) = vhd_same base base_away in
        let v3 : rows t (Vhd twin) ≡ rows old.table (Vhd twin) = vhd_same twin twin_away in
        let r1 : rows t (Raw disk) ≡ rows old.table (Raw disk) = raw_same disk disk_away in
        let r2 : rows t (Raw base) ≡ rows old.table (Raw base) = raw_same base base_away in
        let r3 : rows t (Raw twin) ≡ rows old.table (Raw twin) = raw_same twin twin_away in
        rw (v1, v2, v3, r1, r2, r3) refl

    none_now : list_any (is_among ws) (folding_uuids t) ≡ false
    none_now = by k.folding
      where
        by : (folding t ≡ folding old.table) ⊎ (folding t ≡ []) → list_any (is_among ws) (folding_uuids t) ≡ false
        by (inl same) = ap (λ ns. list_any (is_among ws) (elim (head ns) as (λ _. List (List ℕ)) [ None ↦ [] | Some n ↦ uuids_in n ])) same ∙ none
        by (inr gone) = ap (λ ns. list_any (is_among ws) (elim (head ns) as (λ _. List (List ℕ)) [ None ↦ [] | Some n ↦ uuids_in n ])) gone

    fork_stage : is_forking t disk base twin ≡ true
    fork_stage =
        ap₂ (λ x y. not (bytes_eq disk base) && (not (bytes_eq disk twin) && (not (bytes_eq base twin) && (not (list_any (is_among ws) (folding_uuids t)) && (x || y))))) begun_same made_same
        ∙ fork_step (bytes_eq disk base) (bytes_eq disk twin) (bytes_eq base twin) (not (list_any (is_among ws) (folding_uuids old.table))) (not (list_any (is_among ws) (folding_uuids t))) (place old.table)
        (λ is. ap not none_now) stage

    abbrev others : Row → Bool
    others r = not (same_image r.name (Vhd disk) || same_image r.name (Vhd twin))

    -- no other volume is over the base
    alone : length (filter others (children_with old base)) ≡ 0 → filter others (children_with new base) ≡ []
    unfolding children
    alone few = none_left others (children_with new base) (λ r inside.
        false_from_ne_true (others r) (λ e. ⊎_elim (at_one (Vhd base) r e (λ w i. In-left (children old (Vhd base)) (children old (Raw base)) w i)) (at_one (Raw base) r e (λ w i. In-right (children old (Vhd base)) (children old (Raw base)) w i))
        (In-append (children new (Vhd base)) (children new (Raw base)) r inside)))
      where
        In-right : (xs ys : List Row) (x : Row) → In x ys → In x (xs ++ ys)
        In-right [] ys x i = i
        In-right (y ∷ xs) ys x i = inr (In-right xs ys x i)

        other_still : (r w : Row) → others r ≡ true → (w.name ≡ r.name) ⊎ (is_apart us w.name ≡ false) → others w ≡ true
        other_still r w e (inl same) = ap (λ n. not (same_image n (Vhd disk) || same_image n (Vhd twin))) same ∙ e
        other_still r w e (inr near) =
            ap₂ (λ x y. not (x || y))
            (false_from_ne_true (same_image w.name (Vhd disk)) (λ is. true≢false (sym (vhd_apart us disk disk_away) ∙ ap (is_apart us) (sym (same_image-sound w.name (Vhd disk) is)) ∙ near)))
            (false_from_ne_true (same_image w.name (Vhd twin)) (λ is. true≢false (sym (vhd_apart us twin twin_away) ∙ ap (is_apart us) (sym (same_image-sound w.name (Vhd twin) is)) ∙ near)))

        at_one : (p : Name) (r : Row) → others r ≡ true → ((w : Row) → In w (children old p) → In w (children_with old base)) → In r (children new p) → ⊥
        at_one p r e listed i =
            let j = In-filter (λ q. parent_is p (new.links q.name)) t.volumes r i in
            let w = was_child r p j.0 j.1 in
            no_member (filter others (children_with old base)) w.row few
            (filter-In others (children_with old base) w.row (listed w.row (filter-In (λ q. parent_is p (old.links q.name)) old.table.volumes w.row w.there w.child)) (other_still r w.row e w.named))

    abbrev tail : Outline → Bool
    tail o = is_base_of base (o.links (Vhd disk)) && (is_base_of base (o.links (Vhd twin)) && (length (filter others (children_with o base)) == 0))

    fork_linked : is_fork_linked old disk base twin ≡ true → is_fork_linked new disk base twin ≡ true
    fork_linked e = ap (λ c. not c || tail new) made_same ∙ by (is_fork_made old.table disk base twin) e
      where
        by : (c : Bool) → (not c || tail old) ≡ true → (not c || tail new) ≡ true
        by false f = refl
        by true f =
            let w = and_parts (is_base_of base (old.links (Vhd disk))) (is_base_of base (old.links (Vhd twin)) && (length (filter others (children_with old base)) == 0)) f in
            let x = and_parts (is_base_of base (old.links (Vhd twin))) (length (filter others (children_with old base)) == 0) w.1 in
            and_from (is_base_of base (new.links (Vhd disk))) _ (ap (is_base_of base) (k.links_apart (Vhd disk) (vhd_apart us disk disk_away)) ∙ w.0)
            (and_from (is_base_of base (new.links (Vhd twin))) _ (ap (is_base_of base) (k.links_apart (Vhd twin) (vhd_apart us twin twin_away)) ∙ x.0)
            (eq-eqb (length (filter others (children_with new base))) 0 (ap length (alone (eqb-true (length (filter others (children_with old base))) 0 x.1)))))

  -- ---- the entry of what is made

  made_in : (r : Row) → In r t.volumes → is_making r.name ≡ true → In r.name (making old.table)
  made_in r there e = subst (In r.name) k.making (filter-In is_making (names_of t.volumes) r.name (In-map_at (λ (x : Row). x.name) t.volumes r there) e)

  row_in : (n : Name) → In n (making old.table) → (r : Row) × In r old.table.volumes × (r.name ≡ n)
  row_in n i = of (names_in_rows old.table.volumes n (In-filter is_making (names_of old.table.volumes) n i).0)
    where
      of : (r : Row) × In r old.table.volumes × (r.name ≡ n) → (r : Row) × In r old.table.volumes × (r.name ≡ n)
      of w = w

      names_in_rows : (rs : List Row) (n : Name) → In n (names_of rs) → (r : Row) × In r rs × (r.name ≡ n)
      names_in_rows [] n i = absurd i
      names_in_rows (r ∷ rs) n (inl is) = (r, inl refl, sym is)
      names_in_rows (r ∷ rs) n (inr i) = let w = names_in_rows rs n i in (w.0, inr w.1, w.2)

  found_stage : (n : Name) → is_entry n ≡ true → In n (making old.table) → (is_at_stage old.table n ≡ true) × (are_past old.table n ≡ true)
  found_stage n is i =
      let w = row_in n i in
      and_parts (is_at_stage old.table n) (are_past old.table n) (of (is_at_stage old.table n && are_past old.table n)
      (sym (ap (λ b. b && not (is_at_stage old.table n && are_past old.table n)) is) ∙ sym (ap (lost_as old.table) w.2) ∙ s.at_stage w.0 w.1))
    where
      of : (c : Bool) → not c ≡ false → c ≡ true
      of true e = refl
      of false e = absurd (true≢false e)

  linked_before : (n : Name) → In n (making old.table) → is_entry_linked old n ≡ true
  linked_before n i = let w = row_in n i in sym (ap (is_entry_linked old) w.2) ∙ s.linked w.0 w.1

  clone_passes : (r : Row) (x y z : List ℕ) → In r t.volumes → r.name ≡ Clone x y z → PassesAlone new r
  unfolding is_entry_linked is_at_stage
  clone_passes r x y z there is =
      let i = subst (λ n. In n (making old.table)) is (made_in r there (ap is_making is)) in
      let w = found_stage (Clone x y z) refl i in
      record {
        named = ap (misnamed_as t) is;
        at_stage = ap (lost_as t) is ∙ ap₂ (λ p q. not (p && q)) (fork_stage x y z w.0) (all_past (uuids_in (Clone x y z)) old.table.sequence t.sequence k.later w.1);
        owned = ap (is_orphaned t) is;
        valid = ap (λ n. not r.fresh && is_image_wrong new r n) is ∙ and_right (not r.fresh) false refl;
        placed = ap (tree_wrong_as new r) is;
        linked = ap (is_entry_linked new) is ∙ fork_linked x y z w.0 (linked_before (Clone x y z) i);
      }

  inflate_passes : (r : Row) (u : List ℕ) (x : ℕ) → In r t.volumes → r.name ≡ Inflate u x → PassesAlone new r
  unfolding is_entry_linked is_at_stage
  inflate_passes r u x there is =
      let i = subst (λ n. In n (making old.table)) is (made_in r there (ap is_making is)) in
      let w = found_stage (Inflate u x) refl i in
      record {
        named = ap (misnamed_as t) is;
        at_stage = ap (lost_as t) is ∙ ap₂ (λ p q. not (p && q)) (k.inflating u x i ∙ w.0) (all_past (uuids_in (Inflate u x)) old.table.sequence t.sequence k.later w.1);
        owned = ap (is_orphaned t) is;
        valid = ap (λ n. not r.fresh && is_image_wrong new r n) is ∙ and_right (not r.fresh) false refl;
        placed = ap (tree_wrong_as new r) is;
        linked = ap (is_entry_linked new) is;
      }

  passes : (r : Row) → In r t.volumes → is_settled_name us r.name ≡ false → (x : Name) → r.name ≡ x → PassesAlone new r
  passes r there e (Clone x y z) is = clone_passes r x y z there is
  passes r there e (Inflate u x) is = inflate_passes r u x there is
  passes r there e Mgt is = k.volumes r there e (ap is_making is)
  passes r there e (Vhd u) is = k.volumes r there e (ap is_making is)
  passes r there e (Raw u) is = k.volumes r there e (ap is_making is)
  passes r there e (Old u) is = k.volumes r there e (ap is_making is)
  passes r there e (Cbt u) is = k.volumes r there e (ap is_making is)
  passes r there e (Coalesce x y) is = k.volumes r there e (ap is_making is)
  passes r there e (Relink x y) is = k.volumes r there e (ap is_making is)
  passes r there e (Leaf x y) is = k.volumes r there e (ap is_making is)

  -- ---- records and disks

  same_records : outline_records new ≡ outline_records old
  unfolding outline_records
  same_records = ap (λ f. filter_map (λ j. taken (f j)) (numbers 0 record_count)) k.readings

  recorded_now : (u : List ℕ) → In u (disk_uuids new) → is_unrecorded new u ≡ false
  recorded_now u inside =
      let w = is_some-parts (standing_volume old.table u) (k.standing u (In-filter (λ v. is_some (standing_volume t v)) (uuids t) u inside).1) in
      ap (λ rs. not (length (filter (is_record_of u) rs) == 1)) same_records ∙ ap (λ j. not (j == 1)) (s.recorded u w.0 w.1)

  disks_right : disk_fault new ≡ None
  unfolding disk_fault
  disks_right = ap disk_place (find_none (is_unrecorded new) (disk_uuids new) recorded_now)

  records_right : record_fault new ≡ None
  unfolding record_fault
  records_right =
      ap record_place (find_none (λ j. is_damaged (new.readings j)) (numbers 0 record_count) (λ j inside.
      ap (λ f. is_damaged (f j)) k.readings ∙ s.right j (In-numbers 0 record_count j inside).1))

  few : too_many_fault new ≡ None
  unfolding too_many_fault
  few = let most = s.few_images in let less = k.few in given_none (nat_lt image_limit (length (images t))) at.Images (le-ltb image_limit (length (images t)) (omega (arith, most, less)))

  one_each : second_entry_fault new ≡ None
  unfolding second_entry_fault
  one_each = ap₂ (λ x y. placed at.Journal (lesser x y)) (by k.folding) (ap second k.making ∙ s.one_entry)
    where
      by : (folding t ≡ folding old.table) ⊎ (folding t ≡ []) → second (folding t) ≡ None
      by (inl same) = ap second same ∙ s.one_folding
      by (inr gone) = ap second gone

  step_beside : IsBeside old new us
  step_beside = record {
    extent = k.extent;
    block = k.block;
    entries = k.entries;
    later = k.later;
    found = k.found;
    rows_apart = k.rows_apart;
    links_apart = k.links_apart;
    parents_apart = λ x p l apart is above. k.closed x p apart (ap (λ y. y >>= (λ l. l.parent)) is ∙ above);
    children_apart = λ n apart none. none_still n none;
    others = λ r there e. passes r there e r.name refl;
    few = few;
    one_each = one_each;
    records = records_right;
    disks = disks_right;
  }

  -- no check fails behind it
  pub step_sound : fault_of new ≡ None
  step_sound = beside_sound old new us step_beside sound
