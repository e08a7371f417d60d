-- The outline of a content without the entry of a copy or of a link, beside the one with it: each check that passes on the one passes
-- on the other.
use Rattle.std.proofs.Common.{◌≡◌, inl, inr, ℕ, ◌≤◌, Bool, true, false, cond, not, ◌&&◌, ◌||◌, ◌==◌, List, [], ◌∷◌, ◌++◌, length, Option, Some, None, is_some, refl, sym, ap, ap₂, ◌∙◌, nat_lt, nat_le}
use Rattle.std.specs.List.{filter, find, list_any}
use Rattle.std.specs.Str.{bytes_eq}
use Rattle.std.proofs.Math.Path.{fun_ext}
use Rattle.std.proofs.lemmas.Bool.{true≢false}
use Rattle.common_laws.specs.Lists.{In, given}
use Rattle.common_laws.proofs.Lists.{first_none, none_first}
use Rattle.sm_base.specs.Kinds.{is_image as is_data, is_entry}
use Rattle.sm_base.specs.declared.faults.Place.{Place}
use Rattle.sm_base.specs.declared.faults.Place.TheVariants as at
use Rattle.sm_base.specs.declared.names.Name.{Name}
use Rattle.sm_base.specs.declared.names.Name.TheVariants.{Mgt, Vhd, Raw, Old, Cbt, Clone, Inflate, Coalesce, Relink, Leaf}
use Rattle.vg_meta.specs.Changes.{without}
use Rattle.vg_meta.specs.Tables.{VolumeTable, Row, rows}
use Rattle.vg_meta.proofs.RowLaws.{All-without}
use Rattle.sm_machine.specs.Shapes.{image_limit, same_image}
use Rattle.sm_standing.specs.Checks.{all_faults, fault_of, disk_fault, disk_place, entry_link_fault, PassesButLeaf, has_records, invalid_fault, is_orphaned, is_unrecorded, lesser, lost_entry_fault, misnamed_fault, old_leaf_fault, placed, record_fault, record_volume_fault, second_entry_fault, too_many_fault, tree_fault, chain_length, children, has_twin, images, is_base_of, is_entry_linked, is_fork_linked, is_image_wrong, is_invalid, is_linked, is_lost, is_misnamed, is_misplaced, is_no_larger, is_parent_right, is_tree_wrong, parent_is, tree_wrong_as}
use Rattle.sm_standing.specs.Entries.{are_past, folding, folding_uuids, head, is_among, is_at_stage, is_folding, is_fork_begun, is_fork_made, is_hidden, making, second, uuids_in}
use Rattle.sm_standing.specs.Outlines.{Link, Outline, outline_records}
use Rattle.sm_standing.specs.Plain.{IsKnown, IsSimple, is_known, is_simple, is_simple_name}
use Rattle.sm_standing.specs.Standing.{candidates, in_order, standing_volume, stands_folded, stands_forked, stands_plainly, under, uuids}
use Rattle.sm_standing.proofs.EnlargingLaws.{chain_alike}
use Rattle.sm_standing.proofs.FaultLaws.{named_none, none_named}
use Rattle.sm_standing.proofs.NamedLaws.{all_past}
use Rattle.sm_standing.proofs.PlainDisks.{all-In}
use Rattle.sm_standing.proofs.PlainKept.{known_is_simple, known_table, lesser_none, not_ahead, place_none, simple_known_name}
use Rattle.sm_standing.proofs.UnfoldedLaws.{IsFold, In-bare, bare_at, begun_bare, filter_bare, flat_bare, hidden_bare, image_bare, inflating_bare, made_bare, making_bare, rows_bare, stands_bare, twin_bare}
use Rattle.sm_standing.proofs.VolumeLists.{none_without}

pub and_false : (b : Bool) → (b && false) ≡ false
and_false true = refl
and_false false = refl

pub misnamed_step : (a b p q : Bool) → (p ≡ true → q ≡ true) → (a && (b || not p)) ≡ false → (a && (b || not q)) ≡ false
misnamed_step false b p q on h = refl
misnamed_step true true p q on h = absurd (true≢false h)
misnamed_step true false false q on h = absurd (true≢false h)
misnamed_step true false true q on h = ap not (on refl)

pub lost_step : (a s p x y : Bool) → (s ≡ true → x ≡ true) → (p ≡ true → y ≡ true) → (a && not (s && p)) ≡ false → (a && not (x && y)) ≡ false
lost_step false s p x y on past h = refl
lost_step true false p x y on past h = absurd (true≢false h)
lost_step true true false x y on past h = absurd (true≢false h)
lost_step true true true x y on past h = ap₂ (λ k l. not (k && l)) (on refl) (past refl)

pub fork_step : (a b d g h k : Bool) → (g ≡ true → h ≡ true) → (not a && (not b && (not d && (g && k)))) ≡ true → (not a && (not b && (not d && (h && k)))) ≡ true
fork_step true b d g h k on is = absurd (true≢false (sym is))
fork_step false true d g h k on is = absurd (true≢false (sym is))
fork_step false false true g h k on is = absurd (true≢false (sym is))
fork_step false false false false h k on is = absurd (true≢false (sym is))
fork_step false false false true h k on is = ap (λ x. x && k) (on refl) ∙ is

module _ (o : Outline) (quiet : (n : Name) → is_folding n ≡ true → o.links n ≡ None) (e : Name) (f : IsFold e) (sequence : ℕ) where
  abbrev t : VolumeTable
  t = o.table

  -- without the entry, with this sequence number
  abbrev pub less : Outline
  less = record o { table = bare_at e sequence o.table }

  pub mgt_same : rows (bare_at e sequence t) Mgt ≡ rows t Mgt
  mgt_same = rows_bare e f t sequence Mgt refl

  -- ---- children, parents and chains

  children_bare : (p : Name) → children less p ≡ children o p
  unfolding children
  children_bare p =
      filter_bare e (λ r. parent_is p (o.links r.name)) (λ r is. ap (λ n. parent_is p (o.links n)) is ∙ ap (parent_is p) (quiet e f.folds)) t.volumes

  right_bare : (size : ℕ) (p : Name) → is_parent_right less size p ≡ is_parent_right o size p
  right_bare size p = by (is_folding p) refl
    where
      none : (h : Bool) → is_folding p ≡ true → (h && is_no_larger size (o.links p)) ≡ false
      none h is = ap (λ l. h && is_no_larger size l) (quiet p is) ∙ and_false h

      by : (b : Bool) → is_folding p ≡ b → is_parent_right less size p ≡ is_parent_right o size p
      by true is = none (is_hidden (bare_at e sequence t) p) is ∙ sym (none (is_hidden t p) is)
      by false is = ap (λ h. h && is_no_larger size (o.links p)) (hidden_bare e f t sequence p is)

  linked_bare : (i : Link) → is_linked less i ≡ is_linked o i
  linked_bare i = by i.parent
    where
      by : (x : Option Name) → elim x as (λ _. Bool) [ None ↦ true | Some p ↦ is_parent_right less i.size p ] ≡ elim x as (λ _. Bool) [ None ↦ true | Some p ↦ is_parent_right o i.size p ]
      by None = refl
      by (Some p) = right_bare i.size p

  misplaced_bare : (r : Row) (x : Option Link) → is_misplaced less r x ≡ is_misplaced o r x
  misplaced_bare r None = refl
  misplaced_bare r (Some i) =
      ap₂ (λ (l : Bool) (k : ℕ). not (l && (nat_le k 30 && (r.hidden || (length (children less r.name) == 0))))) (linked_bare i) (chain_alike o (bare_at e sequence t) 31 r.name)
      ∙ ap (λ rs. not (is_linked o i && (nat_le (chain_length o 31 r.name) 30 && (r.hidden || (length rs == 0))))) (children_bare r.name)

  tree_as : (r : Row) (n : Name) → tree_wrong_as less r n ≡ tree_wrong_as o r n
  tree_as r (Vhd v) = misplaced_bare r (o.links (Vhd v))
  tree_as r Mgt = refl
  tree_as r (Raw v) = refl
  tree_as r (Old v) = refl
  tree_as r (Cbt v) = refl
  tree_as r (Clone x y z) = refl
  tree_as r (Inflate x y) = refl
  tree_as r (Coalesce x y) = refl
  tree_as r (Relink x y) = refl
  tree_as r (Leaf x y) = refl

  pub tree_bare : (r : Row) → is_tree_wrong less r ≡ is_tree_wrong o r
  tree_bare r = tree_as r r.name

  -- ---- each volume by itself

  wrong_as : (r : Row) (n : Name) → is_image_wrong less r n ≡ is_image_wrong o r n
  wrong_as r (Vhd v) = refl
  wrong_as r Mgt = refl
  wrong_as r (Raw v) = refl
  wrong_as r (Old v) = refl
  wrong_as r (Cbt v) = refl
  wrong_as r (Clone x y z) = refl
  wrong_as r (Inflate x y) = refl
  wrong_as r (Coalesce x y) = refl
  wrong_as r (Relink x y) = refl
  wrong_as r (Leaf x y) = refl

  pub invalid_bare : (r : Row) → is_invalid less r ≡ is_invalid o r
  invalid_bare r = ap (λ b. not r.fresh && b) (wrong_as r r.name)

  others_bare : List ℕ → List ℕ → List ℕ → List Row → Bool
  others_bare disk base twin rs = length (filter (λ r. not (same_image r.name (Vhd disk) || same_image r.name (Vhd twin))) rs) == 0

  fork_bare : (disk base twin : List ℕ) → is_fork_linked less disk base twin ≡ is_fork_linked o disk base twin
  unfolding others_bare
  fork_bare disk base twin =
      ap₂ (λ (m : Bool) (rs : List Row). not m || (is_base_of base (o.links (Vhd disk)) && (is_base_of base (o.links (Vhd twin)) && others_bare disk base twin rs)))
      (made_bare e f t sequence disk base twin) (ap₂ (λ (xs ys : List Row). xs ++ ys) (children_bare (Vhd base)) (children_bare (Raw base)))

  pub linked_as : (n : Name) → is_simple_name n ≡ true → is_entry_linked less n ≡ is_entry_linked o n
  unfolding is_entry_linked
  linked_as (Clone disk base twin) simple = fork_bare disk base twin
  linked_as Mgt simple = refl
  linked_as (Vhd v) simple = refl
  linked_as (Cbt v) simple = refl
  linked_as (Raw v) simple = refl
  linked_as (Inflate x y) simple = refl
  linked_as _ simple = absurd (true≢false (sym simple))

  pub images_same : images (bare_at e sequence t) ≡ images t
  images_same = filter_bare e (λ r. is_data r.name) (λ r is. ap is_data is ∙ f.no_image) t.volumes

  -- ---- where a UUID stands

  forked_bare : (u : List ℕ) (n : Name) (p : Option Name) → stands_forked (bare_at e sequence t) n u p ≡ stands_forked t n u p
  forked_bare u (Clone disk base twin) p =
      ap (λ i. cond (bytes_eq u disk) (elim i as (λ _. Option Name) [ None ↦ p | Some b ↦ Some b ]) (cond (bytes_eq u base || bytes_eq u twin) None p)) (image_bare e f t sequence base)
  forked_bare u Mgt p = refl
  forked_bare u (Vhd x) p = refl
  forked_bare u (Raw x) p = refl
  forked_bare u (Old x) p = refl
  forked_bare u (Cbt x) p = refl
  forked_bare u (Inflate x y) p = refl
  forked_bare u (Coalesce x y) p = refl
  forked_bare u (Relink x y) p = refl
  forked_bare u (Leaf x y) p = refl

  module _ (one : folding t ≡ e ∷ []) where
    pub none_folding : folding (bare_at e sequence t) ≡ []
    none_folding = none_without is_folding e t.volumes f.folds one

    pub standing_bare : (u : List ℕ) → standing_volume (bare_at e sequence t) u ≡ standing_volume t u
    unfolding standing_volume
    standing_bare u =
        ap₂ (λ ns fs. under (λ n. stands_forked (bare_at e sequence t) n u) (head ns) (under (λ n. stands_folded (bare_at e sequence t) n u) (head fs) (stands_plainly (bare_at e sequence t) u)))
        (making_bare e f t sequence) none_folding
        ∙ by (head (making t)) (stands_plainly (bare_at e sequence t) u) (stands_plainly t u) (stands_bare e f t sequence u)
        ∙ ap (under (λ n. stands_forked t n u) (head (making t))) (sym (f.stands t u (stands_plainly t u)))
        ∙ sym (ap (λ fs. under (λ n. stands_forked t n u) (head (making t)) (under (λ n. stands_folded t n u) (head fs) (stands_plainly t u))) one)
      where
        by : (x : Option Name) (p q : Option Name) → p ≡ q → under (λ n. stands_forked (bare_at e sequence t) n u) x p ≡ under (λ n. stands_forked t n u) x q
        by None p q same = same
        by (Some n) p q same = forked_bare u n p ∙ ap (stands_forked t n u) same

    uuids_bare : uuids (bare_at e sequence t) ≡ uuids t
    unfolding uuids
    uuids_bare = ap in_order (flat_bare e (λ r. candidates r.name) (λ r is. ap candidates is ∙ f.none) t.volumes)

    -- ---- stages

    abbrev apart_of : VolumeTable → List ℕ → List ℕ → List ℕ → Bool
    apart_of v disk base twin = not (list_any (is_among (disk ∷ base ∷ twin ∷ [])) (folding_uuids v))

    stage_bare : (disk base twin : List ℕ) → (is_fork_begun (bare_at e sequence t) disk base twin || is_fork_made (bare_at e sequence t) disk base twin) ≡ (is_fork_begun t disk base twin || is_fork_made t disk base twin)
    stage_bare disk base twin = ap₂ (λ x y. x || y) (begun_bare e f t sequence disk base twin) (made_bare e f t sequence disk base twin)

    abbrev forking_by : List ℕ → List ℕ → List ℕ → Bool → Bool → Bool
    forking_by disk base twin g k = not (bytes_eq disk base) && (not (bytes_eq disk twin) && (not (bytes_eq base twin) && (g && k)))

    none_among : (disk base twin : List ℕ) → apart_of (bare_at e sequence t) disk base twin ≡ true
    none_among disk base twin =
        ap (λ ns. not (list_any (is_among (disk ∷ base ∷ twin ∷ [])) (elim (head ns) as (λ _. List (List ℕ)) [ None ↦ [] | Some n ↦ uuids_in n ]))) none_folding

    stage_to : (n : Name) → is_simple_name n ≡ true → is_at_stage t n ≡ true → is_at_stage (bare_at e sequence t) n ≡ true
    unfolding is_at_stage
    stage_to (Clone disk base twin) simple is =
        fork_step (bytes_eq disk base) (bytes_eq disk twin) (bytes_eq base twin) (apart_of t disk base twin) (apart_of (bare_at e sequence t) disk base twin)
        (is_fork_begun (bare_at e sequence t) disk base twin || is_fork_made (bare_at e sequence t) disk base twin) (λ k. none_among disk base twin)
        (ap (forking_by disk base twin (apart_of t disk base twin)) (stage_bare disk base twin) ∙ is)
    stage_to (Inflate u extents) simple is = inflating_bare e f t sequence u extents ∙ is
    stage_to Mgt simple is = refl
    stage_to (Vhd v) simple is = refl
    stage_to (Cbt v) simple is = refl
    stage_to (Raw v) simple is = refl
    stage_to _ simple is = absurd (true≢false (sym simple))

    -- of a fork beside it the entry speaks not
    abbrev pub IsApartFork : Name → Type 0
    IsApartFork n = (disk base twin : List ℕ) → n ≡ Clone disk base twin → list_any (is_among (disk ∷ base ∷ twin ∷ [])) (folding_uuids t) ≡ false

    pub stage_from : (n : Name) → is_simple_name n ≡ true → IsApartFork n → is_at_stage (bare_at e sequence t) n ≡ true → is_at_stage t n ≡ true
    unfolding is_at_stage
    stage_from (Clone disk base twin) simple apart is =
        fork_step (bytes_eq disk base) (bytes_eq disk twin) (bytes_eq base twin) (apart_of (bare_at e sequence t) disk base twin) (apart_of t disk base twin)
        (is_fork_begun t disk base twin || is_fork_made t disk base twin) (λ k. ap not (apart disk base twin refl))
        (sym (ap (forking_by disk base twin (apart_of (bare_at e sequence t) disk base twin)) (stage_bare disk base twin)) ∙ is)
    stage_from (Inflate u extents) simple apart is = sym (inflating_bare e f t sequence u extents) ∙ is
    stage_from Mgt simple apart is = refl
    stage_from (Vhd v) simple apart is = refl
    stage_from (Cbt v) simple apart is = refl
    stage_from (Raw v) simple apart is = refl
    stage_from _ simple apart is = absurd (true≢false (sym simple))

    pub known_bare : IsKnown t → IsSimple (bare_at e sequence t)
    known_bare known = known_is_simple (bare_at e sequence t) (All-without (λ r. is_known r ≡ true) t.volumes e known) none_folding

    pub simple_at : IsSimple (bare_at e sequence t) → (r : Row) → In r (without e t.volumes) → is_simple_name r.name ≡ true
    simple_at simple r i = all-In (λ r. is_simple r ≡ true) (without e t.volumes) r simple i

    -- ---- the checks

    -- where they pass and no leaf is being folded, with this sequence number or a later one
    module _ (later : t.sequence ≤ sequence) (h : PassesButLeaf o) where
      each : (x : Option Place) → In x (all_faults o) → x ≡ None
      unfolding fault_of
      each = none_first (all_faults o) h.sound

      simple : IsSimple (bare_at e sequence t)
      simple = known_bare (known_table o h)

      has_records_too : record_volume_fault less ≡ None
      unfolding record_volume_fault
      has_records_too = ap (λ r. given (not (has_records o r)) at.Mgt) mgt_same ∙ each (record_volume_fault o) (inl refl)

      few : too_many_fault less ≡ None
      unfolding too_many_fault
      few = ap (λ rs. given (nat_lt image_limit (length rs)) at.Images) images_same ∙ each (too_many_fault o) (inr (inl refl))

      named : misnamed_fault less ≡ None
      unfolding misnamed_fault
      named = none_named at.Image (is_misnamed (bare_at e sequence t)) (without e t.volumes) (λ r i.
          ap (λ b. is_data r.name && (b || not (are_past (bare_at e sequence t) r.name))) (twin_bare e f t sequence r.name)
          ∙ misnamed_step (is_data r.name) (has_twin t r.name) (are_past t r.name) (are_past (bare_at e sequence t) r.name) (all_past (uuids_in r.name) t.sequence sequence later)
          (named_none at.Image (is_misnamed t) t.volumes (each (misnamed_fault o) (inr (inr (inl refl)))) r (In-bare e t.volumes r i)))

      second_one : second_entry_fault less ≡ None
      unfolding second_entry_fault
      second_one =
          ap₂ (λ ns ms. placed at.Journal (lesser (second ns) (second ms))) none_folding (making_bare e f t sequence)
          ∙ ap (placed at.Journal) (lesser_none (second (folding t)) (second (making t)) (place_none at.Journal (lesser (second (folding t)) (second (making t))) (each (second_entry_fault o) (inr (inr (inr (inl refl))))))).1

      lost : lost_entry_fault less ≡ None
      unfolding lost_entry_fault
      lost = none_named at.Journal (is_lost (bare_at e sequence t)) (without e t.volumes) (λ r i.
          lost_step (is_entry r.name) (is_at_stage t r.name) (are_past t r.name) (is_at_stage (bare_at e sequence t) r.name) (are_past (bare_at e sequence t) r.name)
          (stage_to r.name (simple_at simple r i)) (all_past (uuids_in r.name) t.sequence sequence later)
          (named_none at.Journal (is_lost t) t.volumes (each (lost_entry_fault o) (inr (inr (inr (inr (inl refl)))))) r (In-bare e t.volumes r i)))

      old : old_leaf_fault less ≡ None
      unfolding old_leaf_fault
      old = none_named at.Image (λ r. is_orphaned (bare_at e sequence t) r.name) (without e t.volumes) (λ r i.
          (not_ahead r.name (simple_known_name r.name (simple_at simple r i))).no_old_name (bare_at e sequence t))

      valid : invalid_fault less ≡ None
      unfolding invalid_fault
      valid = none_named at.Image (is_invalid less) (without e t.volumes) (λ r i.
          invalid_bare r ∙ named_none at.Image (is_invalid o) t.volumes (each (invalid_fault o) (inr (inr (inr (inr (inr (inr (inl refl)))))))) r (In-bare e t.volumes r i))

      tree : tree_fault less ≡ None
      unfolding tree_fault
      tree = none_named at.Tree (is_tree_wrong less) (without e t.volumes) (λ r i.
          tree_bare r ∙ named_none at.Tree (is_tree_wrong o) t.volumes (each (tree_fault o) (inr (inr (inr (inr (inr (inr (inr (inl refl))))))))) r (In-bare e t.volumes r i))

      linked : entry_link_fault less ≡ None
      unfolding entry_link_fault
      linked = none_named at.Journal (λ r. not (is_entry_linked less r.name)) (without e t.volumes) (λ r i.
          ap not (linked_as r.name (simple_at simple r i))
          ∙ named_none at.Journal (λ q. not (is_entry_linked o q.name)) t.volumes (each (entry_link_fault o) (inr (inr (inr (inr (inr (inr (inr (inr (inl refl)))))))))) r (In-bare e t.volumes r i))

      right : record_fault less ≡ None
      unfolding record_fault
      right = each (record_fault o) (inr (inr (inr (inr (inr (inr (inr (inr (inr (inl refl))))))))))

      recorded : disk_fault less ≡ None
      unfolding disk_fault outline_records
      recorded =
          ap (λ us. disk_place (find (is_unrecorded o) (filter (λ v. is_some (standing_volume (bare_at e sequence t) v)) us))) uuids_bare
          ∙ ap (λ g. disk_place (find (is_unrecorded o) (filter g (uuids t)))) (fun_ext (λ v. ap is_some (standing_bare v)))
          ∙ each (disk_fault o) (inr (inr (inr (inr (inr (inr (inr (inr (inr (inr (inl refl)))))))))))

      pass : (x : Option Place) → In x (all_faults less) → x ≡ None
      pass x (inl is) = is ∙ has_records_too
      pass x (inr (inl is)) = is ∙ few
      pass x (inr (inr (inl is))) = is ∙ named
      pass x (inr (inr (inr (inl is)))) = is ∙ second_one
      pass x (inr (inr (inr (inr (inl is))))) = is ∙ lost
      pass x (inr (inr (inr (inr (inr (inl is)))))) = is ∙ old
      pass x (inr (inr (inr (inr (inr (inr (inl is))))))) = is ∙ valid
      pass x (inr (inr (inr (inr (inr (inr (inr (inl is)))))))) = is ∙ tree
      pass x (inr (inr (inr (inr (inr (inr (inr (inr (inl is))))))))) = is ∙ linked
      pass x (inr (inr (inr (inr (inr (inr (inr (inr (inr (inl is)))))))))) = is ∙ right
      pass x (inr (inr (inr (inr (inr (inr (inr (inr (inr (inr (inl is))))))))))) = is ∙ recorded
      pass x (inr (inr (inr (inr (inr (inr (inr (inr (inr (inr (inr none))))))))))) = absurd none

      -- they pass without the entry too
      pub but_leaf_bare : PassesButLeaf less
      unfolding fault_of
      but_leaf_bare = record { sound = first_none (all_faults less) pass; no_leaf = λ r i. h.no_leaf r (In-bare e t.volumes r i) }
