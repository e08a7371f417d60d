-- While the entry of a fork is there, all checks of an opening pass that passed before it.
use Rattle.std.proofs.Common.{◌≡◌, ◌≢◌, ◌⊎◌, inl, inr, ⊎_elim, ℕ, ◌+◌, ◌≤◌, ◌==◌, ◌&&◌, ◌||◌, not, nat_lt, nat_le, Bool, true, false, cond, List, [], ◌∷◌, length, Option, Some, None, is_some, refl, sym, ap, ap₂, ◌∙◌, subst, arith, bytes_eq}
use Rattle.std.specs.List.{filter, find, list_any}
use Rattle.std.proofs.lemmas.Bool.{true≢false, le-ltb, eqb-true, eq-eqb, and_parts, and_from, or_cases, or_parts, and_right}
use Rattle.std.proofs.lemmas.List.{length-append}
use Rattle.std.proofs.lemmas.Option.{none-some}
use Rattle.common_laws.specs.Lists.{In, numbers, ◌>>=◌}
use Rattle.common_laws.proofs.Booleans.{not_true, not_false}
use Rattle.common_laws.proofs.Options.{is_some-parts}
use Rattle.common_laws.proofs.Bytes.{bytes_eq-apart}
use Rattle.common_laws.proofs.Lists.{In-filter, filter-In, In-map_at, In-numbers, find_none, none_find}
use Rattle.sm_base.specs.Kinds.{is_entry}
use Rattle.sm_base.specs.declared.faults.Place.TheVariants as at
use Rattle.sm_base.specs.declared.names.Name.{Name}
use Rattle.sm_base.specs.declared.names.Name.TheVariants.{Mgt, Vhd, Raw, Old, Cbt, Clone, Inflate, Coalesce, Relink, Leaf}
use Rattle.vg_meta.specs.Tables.{VolumeTable, Row, rows, names_of}
use Rattle.sm_machine.specs.Shapes.{same_image, image_limit}
use Rattle.sm_standing.specs.Apart.{is_apart}
use Rattle.sm_standing.specs.Besides.{IsBeside, PassesAlone, is_settled_name}
use Rattle.sm_standing.specs.Checks.{too_many_fault, images, is_misnamed, misnamed_fault, second_entry_fault, lesser, placed, lost_entry_fault, is_lost, is_orphaned, old_leaf_fault, is_image_wrong, children, parent_is, tree_wrong_as, has_uuid, of_image, has_such_parent, has_parent_of, children_with, is_leaf_linked, is_entry_linked, entry_link_fault, is_damaged, record_place, record_fault, disk_uuids, is_unrecorded, disk_place, disk_fault, first_fault}
use Rattle.sm_standing.specs.Contents.{Content, record_count, is_record_of}
use Rattle.sm_standing.specs.Entries.{is_folding, is_making, folding, making, head, second, is_past, are_past, uuids_in, is_among, is_coalescing, is_folding_leaf, is_leaf_copied, is_leaf_renamed, is_leaf_swapped, is_leaf_folded, is_at_stage, is_old_of}
use Rattle.sm_standing.specs.Forks.{forked, IsForkable, IsForkChild, IsForkMoment}
use Rattle.sm_standing.specs.Images.{Image}
use Rattle.sm_standing.specs.Outlines.{Outline, Link, outline}
use Rattle.sm_standing.specs.Standing.{standing_volume, uuids}
use Rattle.sm_standing.proofs.ApartLaws.{vhd_apart, raw_apart, old_apart, stands_making, stands_beside, beside, beside_same}
use Rattle.sm_standing.proofs.BesideLaws.{beside_sound}
use Rattle.sm_standing.proofs.DisksShown.{stands_listed}
use Rattle.sm_standing.proofs.FaultLaws.{all_none, named_none, given_none}
use Rattle.sm_standing.proofs.ForkLaws.{which, fork_other, fork_new, no_standing, is_base_new, is_twin_new}
use Rattle.sm_standing.proofs.NamedLaws.{past_later, all_past}
use Rattle.sm_standing.proofs.OutlineLaws.{outline_records_same, reading_within}
use Rattle.sm_standing.proofs.Counts.{no_member, any_same, one_of_two}
use Rattle.sm_standing.proofs.ForkPlaces.{away, volume_before, found, among_twin, Lies, lies, link_at, none_still, child_there, one_still}
use Rattle.sm_standing.proofs.ForkImages.{misnamed_as, lost_as, entry_passes, near_passes}

-- a name of two UUIDs that speaks of none of some
two_apart : (us : List (List ℕ)) (u v : List ℕ) → not (is_among us u || (is_among us v || false)) ≡ true → (is_among us u ≡ false) × (is_among us v ≡ false)
two_apart us u v e =
    let p = or_parts (is_among us u) (is_among us v || false) (not_true _ e) in
    (p.0, (or_parts (is_among us v) false p.1).0)

-- ---- the moment of a fork

module _ (a b : Content) (disk base twin : List ℕ) (n m : Name) (i : Image) (h : IsForkable a disk base twin n i) (sound : first_fault a ≡ None) (k : IsForkMoment a b disk base twin n m) where
  abbrev us : List (List ℕ)
  us = forked disk base twin

  abbrev old : Outline
  old = outline a

  abbrev new : Outline
  new = outline b

  abbrev t : VolumeTable
  t = b.table

  -- ---- entries of the other group, and old leaves

  single : second (folding a.table) ≡ None
  unfolding second_entry_fault
  single =
      none_of (second (folding a.table))
      (sym (ap (λ ns. placed at.Journal (lesser (second (folding a.table)) (second ns))) h.none_making) ∙ all_none (outline a) sound (second_entry_fault old) (inr (inr (inr (inl refl)))))
    where
      none_of : (x : Option Name) → placed at.Journal (lesser x None) ≡ None → x ≡ None
      none_of None e = refl
      none_of (Some x) e = absurd (let y = e in cc)

  folding_apart : (ns : List Name) → folding a.table ≡ ns → (x : Name) → In x ns → is_apart us x ≡ true
  folding_apart [] is x inside = absurd inside
  folding_apart (e ∷ []) is x (inl same) = ap (is_apart us) same ∙ ap not (subst (λ ns. list_any (is_among us) (elim (head ns) as (λ _. List (List ℕ)) [ None ↦ [] | Some y ↦ uuids_in y ]) ≡ false) is h.beside)
  folding_apart (e ∷ []) is x (inr none) = absurd none
  folding_apart (e ∷ f ∷ ns) is x inside = absurd (none-some f (sym single ∙ ap second is))

  named_in : (test : Name → Bool) (r : Row) → In r t.volumes → test r.name ≡ true → In r.name (filter test (names_of t.volumes))
  named_in test r there e = filter-In test (names_of t.volumes) r.name (In-map_at (λ (x : Row). x.name) t.volumes r there) e

  folding_of : (r : Row) → In r t.volumes → is_folding r.name ≡ true → is_apart us r.name ≡ true
  folding_of r there e = folding_apart (folding a.table) refl r.name (subst (In r.name) k.folding (named_in is_folding r there e))

  making_of : (r : Row) → In r t.volumes → is_making r.name ≡ true → r.name ≡ Clone disk base twin
  making_of r there e = by (subst (In r.name) k.making (named_in is_making r there e))
    where
      by : In r.name (Clone disk base twin ∷ []) → r.name ≡ Clone disk base twin
      by (inl is) = is
      by (inr none) = absurd none

  vhd_away : (u : List ℕ) → is_among us u ≡ false → rows t (Vhd u) ≡ rows a.table (Vhd u)
  vhd_away u other = away h k (Vhd u) (vhd_apart us u other)

  raw_away : (u : List ℕ) → is_among us u ≡ false → rows t (Raw u) ≡ rows a.table (Raw u)
  raw_away u other = away h k (Raw u) (raw_apart us u other)

  old_away : (u : List ℕ) → is_among us u ≡ false → rows t (Old u) ≡ rows a.table (Old u)
  old_away u other = away h k (Old u) (old_apart us u other)

  coalescing_same : (c p : List ℕ) → is_among us c ≡ false → is_among us p ≡ false → is_coalescing t c p ≡ is_coalescing a.table c p
  coalescing_same c p oc op =
      let child : rows t (Vhd c) ≡ rows a.table (Vhd c) = vhd_away c oc in
      let vhd : rows t (Vhd p) ≡ rows a.table (Vhd p) = vhd_away p op in
      let raw : rows t (Raw p) ≡ rows a.table (Raw p) = raw_away p op in
      rw (child, vhd, raw) refl

  copied_same : (l p : List ℕ) → is_among us l ≡ false → is_among us p ≡ false → is_leaf_copied t l p ≡ is_leaf_copied a.table l p
  copied_same l p ol op =
      let leaf : rows t (Vhd l) ≡ rows a.table (Vhd l) = vhd_away l ol in
      let vhd : rows t (Vhd p) ≡ rows a.table (Vhd p) = vhd_away p op in
      let gone : rows t (Old l) ≡ rows a.table (Old l) = old_away l ol in
      rw (leaf, vhd, gone) refl

  renamed_same : (l p : List ℕ) → is_among us l ≡ false → is_among us p ≡ false → is_leaf_renamed t l p ≡ is_leaf_renamed a.table l p
  renamed_same l p ol op =
      let leaf : rows t (Vhd l) ≡ rows a.table (Vhd l) = vhd_away l ol in
      let raw : rows t (Raw l) ≡ rows a.table (Raw l) = raw_away l ol in
      let vhd : rows t (Vhd p) ≡ rows a.table (Vhd p) = vhd_away p op in
      let gone : rows t (Old l) ≡ rows a.table (Old l) = old_away l ol in
      rw (leaf, raw, vhd, gone) refl

  swapped_same : (l p : List ℕ) → is_among us l ≡ false → is_among us p ≡ false → is_leaf_swapped t l p ≡ is_leaf_swapped a.table l p
  swapped_same l p ol op =
      let leaf : rows t (Vhd l) ≡ rows a.table (Vhd l) = vhd_away l ol in
      let vhd : rows t (Vhd p) ≡ rows a.table (Vhd p) = vhd_away p op in
      let gone : rows t (Old l) ≡ rows a.table (Old l) = old_away l ol in
      rw (leaf, vhd, gone) refl

  folded_same : (l p : List ℕ) → is_among us l ≡ false → is_among us p ≡ false → is_leaf_folded t l p ≡ is_leaf_folded a.table l p
  folded_same l p ol op =
      let leaf : rows t (Vhd l) ≡ rows a.table (Vhd l) = vhd_away l ol in
      let vhd : rows t (Vhd p) ≡ rows a.table (Vhd p) = vhd_away p op in
      let gone : rows t (Old l) ≡ rows a.table (Old l) = old_away l ol in
      rw (leaf, vhd, gone) refl

  leaf_same : (l p : List ℕ) → is_among us l ≡ false → is_among us p ≡ false → is_folding_leaf t l p ≡ is_folding_leaf a.table l p
  leaf_same l p ol op =
      ap₂ (λ x y. x || y) (copied_same l p ol op) (ap₂ (λ x y. x || y) (renamed_same l p ol op) (ap₂ (λ x y. x || y) (swapped_same l p ol op) (folded_same l p ol op)))

  old_same : (u : List ℕ) (e : Name) → is_apart us e ≡ true → is_old_of t u e ≡ is_old_of a.table u e
  old_same u (Leaf l p) apart =
      let o = two_apart us l p apart in
      ap (λ x. bytes_eq l u && x) (ap₂ (λ x y. x || y) (renamed_same l p o.0 o.1) (swapped_same l p o.0 o.1))
  old_same u Mgt apart = refl
  old_same u (Vhd x) apart = refl
  old_same u (Raw x) apart = refl
  old_same u (Old x) apart = refl
  old_same u (Cbt x) apart = refl
  old_same u (Clone x y z) apart = refl
  old_same u (Inflate x y) apart = refl
  old_same u (Coalesce x y) apart = refl
  old_same u (Relink x y) apart = refl

  orphaned_same : (u : List ℕ) → is_orphaned t (Old u) ≡ is_orphaned a.table (Old u)
  orphaned_same u =
      ap (λ ns. not (list_any (is_old_of t u) ns)) k.folding
      ∙ ap not (any_same (is_old_of t u) (is_old_of a.table u) (folding a.table) (λ e inside. old_same u e (folding_apart (folding a.table) refl e inside)))

  before : (r : Row) → In r t.volumes → is_apart us r.name ≡ true → In r a.table.volumes
  before r there apart = (volume_before h k r.name r (sym (away h k r.name apart) ∙ found h k r there)).0

  lost_before : (r : Row) → In r a.table.volumes → is_lost a.table r ≡ false
  unfolding lost_entry_fault
  lost_before = named_none at.Journal (is_lost a.table) a.table.volumes (all_none (outline a) sound (lost_entry_fault old) (inr (inr (inr (inr (inl refl))))))

  orphaned_before : (r : Row) → In r a.table.volumes → is_orphaned a.table r.name ≡ false
  unfolding old_leaf_fault
  orphaned_before = named_none at.Image (λ r. is_orphaned a.table r.name) a.table.volumes (all_none (outline a) sound (old_leaf_fault old) (inr (inr (inr (inr (inr (inl refl)))))))

  entry_before : (r : Row) → In r a.table.volumes → is_entry_linked old r.name ≡ true
  unfolding entry_link_fault
  entry_before r there =
      not_false _ (named_none at.Journal (λ r. not (is_entry_linked old r.name)) a.table.volumes (all_none (outline a) sound (entry_link_fault old) (inr (inr (inr (inr (inr (inr (inr (inr (inl refl)))))))))) r there)

  misnamed_before : (r : Row) → In r a.table.volumes → is_misnamed a.table r ≡ false
  unfolding misnamed_fault
  misnamed_before = named_none at.Image (is_misnamed a.table) a.table.volumes (all_none (outline a) sound (misnamed_fault old) (inr (inr (inl refl))))

  later : a.table.sequence ≤ t.sequence
  later = let above = k.later in omega arith

  still_past : (u : List ℕ) → not (is_past a.table.sequence u && true) ≡ false → not (is_past t.sequence u && true) ≡ false
  still_past u e = ap (λ c. not (c && true)) (past_later u a.table.sequence t.sequence later (of (is_past a.table.sequence u) e))
    where
      of : (c : Bool) → not (c && true) ≡ false → c ≡ true
      of true e = refl
      of false e = absurd (true≢false e)

  still_found : (e : Name) → is_at_stage t e ≡ is_at_stage a.table e → lost_as a.table e ≡ false → lost_as t e ≡ false
  still_found e same ok = by (is_entry e) (is_at_stage a.table e) (are_past a.table e) refl refl ok
    where
      by : (d stage past : Bool) → is_at_stage a.table e ≡ stage → are_past a.table e ≡ past → (d && not (stage && past)) ≡ false → (d && not (is_at_stage t e && are_past t e)) ≡ false
      by false stage past is_stage is_past_ f = refl
      by true true true is_stage is_past_ f = ap₂ (λ x y. not (x && y)) (same ∙ is_stage) (all_past (uuids_in e) a.table.sequence t.sequence later is_past_)
      by true false past is_stage is_past_ f = absurd (true≢false f)
      by true true false is_stage is_past_ f = absurd (true≢false f)

  -- ---- what the entries say of parents and children

  parent_same : (c p : List ℕ) (test : Link → Link → Bool) → is_among us c ≡ false → has_parent_of new c p test ≡ has_parent_of old c p test
  parent_same c p test oc =
      ap (of_image (λ v. has_such_parent new p (test v) v.parent)) (link_at h k (Vhd c) (vhd_apart us c oc)) ∙ by (old.links (Vhd c)) refl
    where
      up : (v : Link) → old.links (Vhd c) ≡ Some v → (o : Option Name) → v.parent ≡ o → has_such_parent new p (test v) o ≡ has_such_parent old p (test v) o
      up v is None above = refl
      up v is (Some q) above =
          ap (λ l. has_uuid p q && of_image (test v) l) (link_at h k q (h.childless (Vhd c) q (ap (λ x. x >>= (λ l. l.parent)) is ∙ above)))

      by : (x : Option Link) → old.links (Vhd c) ≡ x → of_image (λ v. has_such_parent new p (test v) v.parent) x ≡ of_image (λ v. has_such_parent old p (test v) v.parent) x
      by None is = refl
      by (Some v) is = up v is v.parent refl

  -- a child's parent is one of the two images that have the parent's UUID
  which_parent : (c p : List ℕ) (test : Link → Link → Bool) → has_parent_of old c p test ≡ true → (parent_is (Vhd p) (old.links (Vhd c)) ≡ true) ⊎ (parent_is (Raw p) (old.links (Vhd c)) ≡ true)
  which_parent c p test e = by (old.links (Vhd c)) e
    where
      up : (v : Link) (o : Option Name) → v.parent ≡ o → has_such_parent old p (test v) o ≡ true → (parent_is (Vhd p) (Some v) ≡ true) ⊎ (parent_is (Raw p) (Some v) ≡ true)
      up v None above f = absurd (true≢false (sym f))
      up v (Some q) above f =
          let same : (z : Name) → parent_is z (Some v) ≡ same_image q z = λ z. ap (λ o. elim o as (λ _. Bool) [ None ↦ false | Some y ↦ same_image y z ]) above in
          ⊎_elim (λ g. inl (same (Vhd p) ∙ g)) (λ g. inr (same (Raw p) ∙ g)) (or_cases (same_image q (Vhd p)) (same_image q (Raw p)) (and_parts (has_uuid p q) (of_image (test v) (old.links q)) f).0)

      by : (x : Option Link) → of_image (λ v. has_such_parent old p (test v) v.parent) x ≡ true → (parent_is (Vhd p) x ≡ true) ⊎ (parent_is (Raw p) x ≡ true)
      by None f = absurd (true≢false (sym f))
      by (Some v) f = up v v.parent refl f

  -- where that was its only child, it is
  only_still : (c p : List ℕ) (test : Link → Link → Bool) → is_among us c ≡ false → is_among us p ≡ false → has_parent_of old c p test ≡ true
      → length (children_with old p) ≡ 1 → length (children_with new p) ≡ 1
  only_still c p test oc op linked one = by (which_parent c p test linked)
    where
      child : is_apart us (Vhd c) ≡ true
      child = vhd_apart us c oc

      vhd : is_apart us (Vhd p) ≡ true
      vhd = vhd_apart us p op

      raw : is_apart us (Raw p) ≡ true
      raw = raw_apart us p op

      counted : length (children old (Vhd p)) + length (children old (Raw p)) ≡ 1
      counted = sym (length-append (children old (Vhd p)) (children old (Raw p))) ∙ one

      some : (q : Name) → parent_is q (old.links (Vhd c)) ≡ true → length (children old q) ≡ 0 → ⊥
      some q e none = let w = child_there h k (Vhd c) q e in no_member (children old q) w.0 none w.2

      by : (parent_is (Vhd p) (old.links (Vhd c)) ≡ true) ⊎ (parent_is (Raw p) (old.links (Vhd c)) ≡ true) → length (children_with new p) ≡ 1
      by (inl e) =
          let w = one_of_two (length (children old (Vhd p))) (length (children old (Raw p))) counted (some (Vhd p) e) in
          length-append (children new (Vhd p)) (children new (Raw p)) ∙ ap₂ (λ x y. x + y) (one_still h k (Vhd c) (Vhd p) child vhd e w.0) (none_still h k (Raw p) raw w.1)
      by (inr e) =
          let w = one_of_two (length (children old (Raw p))) (length (children old (Vhd p))) (omega (arith, counted)) (some (Raw p) e) in
          length-append (children new (Vhd p)) (children new (Raw p)) ∙ ap₂ (λ x y. x + y) (none_still h k (Vhd p) vhd w.1) (one_still h k (Vhd c) (Raw p) child raw e w.0)

  leaf_linked : (l p : List ℕ) → is_among us l ≡ false → is_among us p ≡ false → is_leaf_linked old l p ≡ true → is_leaf_linked new l p ≡ true
  leaf_linked l p ol op e = by (is_leaf_copied a.table l p) (is_leaf_renamed a.table l p) (is_leaf_swapped a.table l p) refl refl refl e
    where
      leaf : is_apart us (Vhd l) ≡ true
      leaf = vhd_apart us l ol

      vhd : is_apart us (Vhd p) ≡ true
      vhd = vhd_apart us p op

      step : (o : Outline) (u : VolumeTable) → Bool → Bool → Bool → Bool
      step o u c r s = cond c (parent_is (Vhd p) (o.links (Vhd l)) && (length (children o (Vhd p)) == 1))
          (cond r (length (children o (Vhd p)) == 0) (cond s (length (children o (Vhd l)) == 0) true))

      by : (c r s : Bool) → is_leaf_copied a.table l p ≡ c → is_leaf_renamed a.table l p ≡ r → is_leaf_swapped a.table l p ≡ s → step old a.table c r s ≡ true → is_leaf_linked new l p ≡ true
      by c r s is_c is_r is_s f =
          ap₂ (λ x y. step new t x y (is_leaf_swapped t l p)) (copied_same l p ol op ∙ is_c) (renamed_same l p ol op ∙ is_r)
          ∙ ap (step new t c r) (swapped_same l p ol op ∙ is_s) ∙ of c r s f
        where
          of : (c r s : Bool) → step old a.table c r s ≡ true → step new t c r s ≡ true
          of true r s f =
              let w = and_parts (parent_is (Vhd p) (old.links (Vhd l))) (length (children old (Vhd p)) == 1) f in
              and_from (parent_is (Vhd p) (new.links (Vhd l))) (length (children new (Vhd p)) == 1) (ap (parent_is (Vhd p)) (link_at h k (Vhd l) leaf) ∙ w.0)
              (eq-eqb (length (children new (Vhd p))) 1 (one_still h k (Vhd l) (Vhd p) leaf vhd w.0 (eqb-true (length (children old (Vhd p))) 1 w.1)))
          of false true s f = eq-eqb (length (children new (Vhd p))) 0 (none_still h k (Vhd p) vhd (eqb-true (length (children old (Vhd p))) 0 f))
          of false false true f = eq-eqb (length (children new (Vhd l))) 0 (none_still h k (Vhd l) leaf (eqb-true (length (children old (Vhd l))) 0 f))
          of false false false f = refl

  -- ---- each volume

  coalesce_passes : (r : Row) (c p : List ℕ) → In r t.volumes → r.name ≡ Coalesce c p → PassesAlone new r
  unfolding is_entry_linked is_at_stage
  coalesce_passes r c p there is =
      let apart = folding_of r there (ap is_folding is) in
      let o = two_apart us c p (sym (ap (is_apart us) is) ∙ apart) in
      let j = before r there apart in
      let w = and_parts (has_parent_of old c p (λ v q. true)) (length (children_with old p) == 1) (sym (ap (is_entry_linked old) is) ∙ entry_before r j) in
      record {
        named = ap (misnamed_as t) is;
        at_stage = ap (lost_as t) is ∙ still_found (Coalesce c p) (coalescing_same c p o.0 o.1) (sym (ap (lost_as a.table) is) ∙ lost_before r j);
        owned = ap (is_orphaned t) is;
        valid = ap (λ y. not r.fresh && is_image_wrong new r y) is ∙ and_right (not r.fresh) false refl;
        placed = ap (tree_wrong_as new r) is;
        linked = ap (is_entry_linked new) is
            ∙ and_from (has_parent_of new c p (λ v q. true)) (length (children_with new p) == 1) (parent_same c p (λ v q. true) o.0 ∙ w.0)
            (eq-eqb (length (children_with new p)) 1 (only_still c p (λ v q. true) o.0 o.1 w.0 (eqb-true (length (children_with old p)) 1 w.1)));
      }

  relink_passes : (r : Row) (c p : List ℕ) → In r t.volumes → r.name ≡ Relink c p → PassesAlone new r
  unfolding is_entry_linked is_at_stage
  relink_passes r c p there is =
      let apart = folding_of r there (ap is_folding is) in
      let o = two_apart us c p (sym (ap (is_apart us) is) ∙ apart) in
      let j = before r there apart in
      record {
        named = ap (misnamed_as t) is;
        at_stage = ap (lost_as t) is ∙ still_found (Relink c p) (coalescing_same c p o.0 o.1) (sym (ap (lost_as a.table) is) ∙ lost_before r j);
        owned = ap (is_orphaned t) is;
        valid = ap (λ y. not r.fresh && is_image_wrong new r y) is ∙ and_right (not r.fresh) false refl;
        placed = ap (tree_wrong_as new r) is;
        linked = ap (is_entry_linked new) is ∙ parent_same c p (λ v q. nat_le v.size q.size) o.0 ∙ sym (ap (is_entry_linked old) is) ∙ entry_before r j;
      }

  leaf_passes : (r : Row) (l p : List ℕ) → In r t.volumes → r.name ≡ Leaf l p → PassesAlone new r
  unfolding is_entry_linked is_at_stage
  leaf_passes r l p there is =
      let apart = folding_of r there (ap is_folding is) in
      let o = two_apart us l p (sym (ap (is_apart us) is) ∙ apart) in
      let j = before r there apart in
      record {
        named = ap (misnamed_as t) is;
        at_stage = ap (lost_as t) is ∙ still_found (Leaf l p) (leaf_same l p o.0 o.1) (sym (ap (lost_as a.table) is) ∙ lost_before r j);
        owned = ap (is_orphaned t) is;
        valid = ap (λ y. not r.fresh && is_image_wrong new r y) is ∙ and_right (not r.fresh) false refl;
        placed = ap (tree_wrong_as new r) is;
        linked = ap (is_entry_linked new) is ∙ leaf_linked l p o.0 o.1 (sym (ap (is_entry_linked old) is) ∙ entry_before r j);
      }

  -- an old leaf speaks of none of the three
  old_apart_name : (r : Row) (u : List ℕ) → In r t.volumes → r.name ≡ Old u → is_apart us r.name ≡ true
  old_apart_name r u there is = by (is_apart us r.name) refl
    where
      not_m : Lies h k → Old u ≡ m → ⊥
      not_m (inl (g, inl at_vhd)) e = let x = e ∙ at_vhd in cc
      not_m (inl (g, inr at_raw)) e = let x = e ∙ at_raw in cc
      not_m (inr (g, inl at_vhd)) e = let x = e ∙ at_vhd in cc
      not_m (inr (g, inr at_raw)) e = let x = e ∙ at_raw in cc

      of : (r.name ≡ Clone disk base twin) ⊎ ((r.name ≡ m) ⊎ (((r.name ≡ Vhd disk) ⊎ (r.name ≡ Vhd twin)) × IsForkChild b m r)) → ⊥
      of (inl e) = let x = sym is ∙ e in cc
      of (inr (inl e)) = not_m (lies h k) (sym is ∙ e)
      of (inr (inr (inl e, child))) = let x = sym is ∙ e in cc
      of (inr (inr (inr e, child))) = let x = sym is ∙ e in cc

      by : (c : Bool) → is_apart us r.name ≡ c → is_apart us r.name ≡ true
      by true e = e
      by false e = absurd (of (k.volumes r there e))

  old_passes : (r : Row) (u : List ℕ) → In r t.volumes → r.name ≡ Old u → PassesAlone new r
  unfolding is_entry_linked
  old_passes r u there is =
      let j = before r there (old_apart_name r u there is) in
      record {
        named = ap (misnamed_as t) is ∙ still_past u (sym (ap (misnamed_as a.table) is) ∙ misnamed_before r j);
        at_stage = ap (lost_as t) is;
        owned = ap (is_orphaned t) is ∙ orphaned_same u ∙ sym (ap (is_orphaned a.table) is) ∙ orphaned_before r j;
        valid = ap (λ y. not r.fresh && is_image_wrong new r y) is ∙ and_right (not r.fresh) false refl;
        placed = ap (tree_wrong_as new r) is;
        linked = ap (is_entry_linked new) is;
      }

  passes : (r : Row) → In r t.volumes → (x : Name) → r.name ≡ x → is_settled_name us x ≡ false → PassesAlone new r
  passes r there Mgt is e = absurd (true≢false e)
  passes r there (Vhd u) is e = near_passes h sound k r there (ap (is_apart us) is ∙ e)
  passes r there (Raw u) is e = near_passes h sound k r there (ap (is_apart us) is ∙ e)
  passes r there (Old u) is e = old_passes r u there is
  passes r there (Cbt u) is e = absurd (true≢false e)
  passes r there (Clone x y z) is e = entry_passes h sound k r (making_of r there (ap is_making is))
  passes r there (Inflate x y) is e = absurd (let w = sym is ∙ making_of r there (ap is_making is) in cc)
  passes r there (Coalesce c p) is e = coalesce_passes r c p there is
  passes r there (Relink c p) is e = relink_passes r c p there is
  passes r there (Leaf l p) is e = leaf_passes r l p there is

  -- ---- the disks

  -- what stands stood before, and is not the twin
  stood_before : (u : List ℕ) → is_some (standing_volume t u) ≡ true → (is_some (standing_volume a.table u) ≡ true) × (u ≢ twin)
  stood_before u e = by (which disk base twin u).cases
    where
      entry : head (making t) ≡ Some (Clone disk base twin)
      entry = ap head k.making

      gone : (v : List ℕ) → standing_volume a.table v ≡ None → (bytes_eq v base || bytes_eq v twin) ≡ true → standing_volume t v ≡ None
      gone v none either =
          stands_making t v (Clone disk base twin) entry
          ∙ fork_new t disk base twin v (beside t v) (bytes_eq-apart v disk (λ is. no_standing a.table disk v n h.stood none (sym is))) either

      not_new : (v : List ℕ) → u ≡ v → standing_volume t v ≡ None → ⊥
      not_new v is none = true≢false (sym e ∙ ap (λ x. is_some (standing_volume t x)) is ∙ ap is_some none)

      by : (u ≡ disk) ⊎ ((u ≡ base) ⊎ ((u ≡ twin) ⊎ (is_among us u ≡ false))) → (is_some (standing_volume a.table u) ≡ true) × (u ≢ twin)
      by (inl is) = (ap (λ x. is_some (standing_volume a.table x)) is ∙ ap is_some h.stood, λ same. no_standing a.table disk twin n h.stood h.no_twin (sym is ∙ same))
      by (inr (inl is)) = absurd (not_new base is (gone base h.no_base (is_base_new base twin)))
      by (inr (inr (inl is))) = absurd (not_new twin is (gone twin h.no_twin (is_twin_new base twin)))
      by (inr (inr (inr other))) = (
        sym (ap is_some (stands_making t u (Clone disk base twin) entry ∙ fork_other t disk base twin u (beside t u) other
            ∙ beside_same a b us u k.apart k.folding h.beside other ∙ sym (stands_beside a.table u h.none_making))) ∙ e,
        λ same. true≢false (sym (among_twin h k) ∙ ap (is_among us) (sym same) ∙ other),
      )

  recorded_before : (u : List ℕ) → In u (disk_uuids old) → is_unrecorded old u ≡ false
  unfolding disk_fault
  recorded_before = none_find (is_unrecorded old) (disk_uuids old) (none_of (find (is_unrecorded old) (disk_uuids old)) (all_none (outline a) sound (disk_fault old) (inr (inr (inr (inr (inr (inr (inr (inr (inr (inr (inl refl)))))))))))))
    where
      none_of : (x : Option (List ℕ)) → disk_place x ≡ None → x ≡ None
      none_of None e = refl
      none_of (Some u) e = absurd (let y = e in cc)

  listed : (u : List ℕ) → is_some (standing_volume a.table u) ≡ true → In u (disk_uuids old)
  listed u e =
      let w = is_some-parts (standing_volume a.table u) e in
      filter-In (λ v. is_some (standing_volume a.table v)) (uuids a.table) u (stands_listed a.table u w.0 w.1) e

  recorded_now : (u : List ℕ) → In u (disk_uuids new) → is_unrecorded new u ≡ false
  recorded_now u inside =
      let w = stood_before u (In-filter (λ v. is_some (standing_volume t v)) (uuids t) u inside).1 in
      ap (λ rs. not (length (filter (is_record_of u) rs) == 1)) (outline_records_same b)
      ∙ ap (λ j. not (j == 1)) (k.recorded u w.1)
      ∙ sym (ap (λ rs. not (length (filter (is_record_of u) rs) == 1)) (outline_records_same a)) ∙ recorded_before u (listed u w.0)

  disks_right : disk_fault new ≡ None
  unfolding disk_fault
  disks_right = ap disk_place (find_none (is_unrecorded new) (disk_uuids new) recorded_now)

  records_right : record_fault new ≡ None
  unfolding record_fault
  records_right =
      ap record_place (find_none (λ j. is_damaged (new.readings j)) (numbers 0 record_count) (λ j inside.
      let below = (In-numbers 0 record_count j inside).1 in
      ap is_damaged (reading_within b j below) ∙ k.right j below))

  few : too_many_fault new ≡ None
  unfolding too_many_fault
  few = given_none (nat_lt image_limit (length (images t))) at.Images (le-ltb image_limit (length (images t)) k.few)

  one_each : second_entry_fault new ≡ None
  unfolding second_entry_fault
  one_each =
      ap₂ (λ xs ys. placed at.Journal (lesser (second xs) (second ys))) k.folding k.making
      ∙ ap (λ x. placed at.Journal (lesser x None)) single

  moment_beside : IsBeside old new us
  moment_beside = record {
    extent = k.extent;
    block = k.block;
    entries = k.entries;
    later = later;
    found = found h k;
    rows_apart = away h k;
    links_apart = link_at h k;
    parents_apart = λ x p l apart is above. h.childless x p (ap (λ y. y >>= (λ l. l.parent)) is ∙ above);
    children_apart = none_still h k;
    others = λ r there e. passes r there r.name refl e;
    few = few;
    one_each = one_each;
    records = records_right;
    disks = disks_right;
  }

  pub fork_sound : first_fault b ≡ None
  fork_sound = beside_sound old new us moment_beside sound
