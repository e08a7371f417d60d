-- Where tables are alike but for logs, no check fails that did not fail, and the disks stand where they stood.
use Rattle.std.proofs.Common.{◌≡◌, ℕ, zero, suc, ◌==◌, nat_le, Bool, true, false, not, ◌&&◌, ◌||◌, ◌⊎◌, cond, List, [], ◌∷◌, length, Option, Some, None, is_some, nat_lt, refl, sym, ap, ap₂, ◌∙◌, inl, inr}
use Rattle.std.proofs.Math.Path.{fun_ext}
use Rattle.std.specs.List.{filter, find, list_any}
use Rattle.std.specs.Ordering.{is_lt}
use Rattle.common_laws.specs.Lists.{In, given}
use Rattle.sm_machine.specs.Shapes.{image_limit}
use Rattle.sm_base.specs.Names.{name_cmp}
use Rattle.sm_base.specs.Kinds.{is_log, is_image as is_data, is_entry}
use Rattle.sm_base.specs.declared.names.Name.{Name}
use Rattle.sm_base.specs.declared.names.Name.TheVariants.{Mgt, Vhd, Raw, Old, Cbt, Clone, Inflate, Coalesce, Relink, Leaf}
use Rattle.vg_meta.specs.Tables.{VolumeTable, Row, rows, names_of}
use Rattle.vg_meta.specs.Changes.{put}
use Rattle.sm_base.specs.declared.faults.Place.{Place}
use Rattle.sm_base.specs.declared.faults.Place.TheVariants as at
use Rattle.std.proofs.lemmas.Bool.{true≢false}
use Rattle.common_laws.proofs.Lists.{none_first, first_none}
use Rattle.sm_standing.proofs.FaultLaws.{named_none, none_named}
use Rattle.sm_standing.proofs.NamedLaws.{all_past}
use Rattle.sm_standing.specs.Checks.{first_name, has_twin, is_image_wrong, is_parent_right, is_no_larger, is_linked, chain_length, is_invalid, misnamed_fault, lost_entry_fault, old_leaf_fault, invalid_fault, tree_fault, entry_link_fault, record_fault, all_faults, fault_of, is_misnamed, is_lost, is_orphaned, children, parent_is, is_entry_linked, is_misplaced, tree_wrong_as, is_tree_wrong, record_volume_fault, too_many_fault, second_entry_fault, lesser, placed, disk_fault, disk_place, is_unrecorded, disk_uuids}
use Rattle.sm_standing.specs.Entries.{is_at_stage, folding, making, is_folding, is_making, is_old_of, names_in, head, uuids_in, folding_uuids, image_with, second, is_there, are_past, is_hidden, of_row}
use Rattle.sm_standing.specs.Outlines.{Outline, Link, outline_records}
use Rattle.sm_log_rows.specs.LogRows.{AreApartFromLogs}
use Rattle.sm_standing.specs.Standing.{standing_volume, uuids, in_order, stands_plainly, stands_folded, stands_forked, under}

-- ---- lists with one volume more, in its place, of which a test is false

more_step : (t : Row → Bool) (r s : Row) (rs : List Row) (b : Bool) → t r ≡ false → filter t (put r rs) ≡ filter t rs
    → filter t (cond b (r ∷ s ∷ rs) (s ∷ put r rs)) ≡ filter t (s ∷ rs)
more_step t r s rs true h more = ap (λ (b : Bool). cond b (r ∷ filter t (s ∷ rs)) (filter t (s ∷ rs))) h
more_step t r s rs false h more = ap (λ (xs : List Row). cond (t s) (s ∷ xs) xs) more

pub filter_more : (t : Row → Bool) (r : Row) (rs : List Row) → t r ≡ false → filter t (put r rs) ≡ filter t rs
unfolding put
filter_more t r [] h = ap (λ (b : Bool). cond b (r ∷ []) []) h
filter_more t r (s ∷ rs) h = more_step t r s rs (is_lt (name_cmp r.name s.name)) h (filter_more t r rs h)

pub names_filtered : (t : Name → Bool) (rs : List Row) → filter t (names_of rs) ≡ names_of (filter (λ r. t r.name) rs)
names_filtered t [] = refl
names_filtered t (r ∷ rs) = by (t r.name) (names_filtered t rs)
  where
    by : (b : Bool) → filter t (names_of rs) ≡ names_of (filter (λ r. t r.name) rs)
        → cond b (r.name ∷ filter t (names_of rs)) (filter t (names_of rs)) ≡ names_of (cond b (r ∷ filter (λ r. t r.name) rs) (filter (λ r. t r.name) rs))
    by true e = ap (λ (ns : List Name). r.name ∷ ns) e
    by false e = e

-- ---- tables in which each volume but a log is the same

module _ (a b : VolumeTable) (k : AreApartFromLogs a b) where
  vhd_same : (u : List ℕ) → rows b (Vhd u) ≡ rows a (Vhd u)
  vhd_same u = k.same (Vhd u) refl

  raw_same : (u : List ℕ) → rows b (Raw u) ≡ rows a (Raw u)
  raw_same u = k.same (Raw u) refl

  old_same : (u : List ℕ) → rows b (Old u) ≡ rows a (Old u)
  old_same u = k.same (Old u) refl

  log_no : (t : Name → Bool) → ((u : List ℕ) → t (Cbt u) ≡ false) → (n : Name) → is_log n ≡ true → t n ≡ false
  log_no t none (Cbt u) h = none u
  log_no t none Mgt h = absurd (let e = h in cc)
  log_no t none (Vhd u) h = absurd (let e = h in cc)
  log_no t none (Raw u) h = absurd (let e = h in cc)
  log_no t none (Old u) h = absurd (let e = h in cc)
  log_no t none (Clone d e c) h = absurd (let e = h in cc)
  log_no t none (Inflate u n) h = absurd (let e = h in cc)
  log_no t none (Coalesce c p) h = absurd (let e = h in cc)
  log_no t none (Relink c p) h = absurd (let e = h in cc)
  log_no t none (Leaf l p) h = absurd (let e = h in cc)

  pub names_alike : (t : Name → Bool) → ((u : List ℕ) → t (Cbt u) ≡ false) → names_in b t ≡ names_in a t
  names_alike t none = names_filtered t b.volumes ∙ ap (λ (rs : List Row). names_of rs) (k.kept (λ r. t r.name) (λ r. log_no t none r.name)) ∙ sym (names_filtered t a.volumes)

  pub folds : folding b ≡ folding a
  folds = names_alike is_folding (λ u. refl)

  pub makes : making b ≡ making a
  makes = names_alike is_making (λ u. refl)

  spoken_of : folding_uuids b ≡ folding_uuids a
  spoken_of = ap (λ (ns : List Name). elim (head ns) as (λ _. List (List ℕ)) [ None ↦ [] | Some n ↦ uuids_in n ]) folds

  pub stage_alike : (n : Name) → is_at_stage b n ≡ is_at_stage a n
  unfolding is_at_stage
  stage_alike Mgt = refl
  stage_alike (Vhd u) = refl
  stage_alike (Raw u) = refl
  stage_alike (Old u) = refl
  stage_alike (Cbt u) = refl
  stage_alike (Clone d e t) = simp (vhd_same d, vhd_same e, vhd_same t, raw_same d, raw_same e, raw_same t, old_same d, old_same e, old_same t, spoken_of)
  stage_alike (Inflate u n) = simp (vhd_same u)
  stage_alike (Coalesce c p) = simp (vhd_same c, vhd_same p, raw_same p)
  stage_alike (Relink c p) = simp (vhd_same c, vhd_same p, raw_same p)
  stage_alike (Leaf l p) = simp (vhd_same l, vhd_same p, raw_same l, old_same l)

  pub old_alike : (u : List ℕ) (n : Name) → is_old_of b u n ≡ is_old_of a u n
  old_alike u (Leaf l p) = simp (vhd_same l, vhd_same p, raw_same l, old_same l)
  old_alike u _ = refl

  pub orphaned_alike : (n : Name) → is_orphaned b n ≡ is_orphaned a n
  orphaned_alike (Old u) = ap (λ ns. not (list_any (is_old_of b u) ns)) folds ∙ ap (λ f. not (list_any f (folding a))) (fun_ext (old_alike u))
  orphaned_alike _ = refl

  plainly_alike : (u : List ℕ) → stands_plainly b u ≡ stands_plainly a u
  plainly_alike u = simp (vhd_same u, raw_same u)

  folded_alike : (u : List ℕ) (e : Name) (p : Option Name) → stands_folded b e u p ≡ stands_folded a e u p
  folded_alike u (Leaf l q) p = simp (vhd_same l, vhd_same q, raw_same l, old_same l)
  folded_alike u _ p = refl

  forked_alike : (u : List ℕ) (e : Name) (p : Option Name) → stands_forked b e u p ≡ stands_forked a e u p
  unfolding image_with
  forked_alike u (Clone d e t) p = simp (vhd_same e, raw_same e)
  forked_alike u _ p = refl

  under_alike : (f g : Name → Option Name → Option Name) (x : Option Name) (p : Option Name) → ((e : Name) (p : Option Name) → f e p ≡ g e p) → under f x p ≡ under g x p
  under_alike f g None p h = refl
  under_alike f g (Some e) p h = h e p

  pub standing_alike : (u : List ℕ) → standing_volume b u ≡ standing_volume a u
  unfolding standing_volume
  standing_alike u =
      let fold : under (λ e. stands_folded b e u) (head (folding b)) (stands_plainly b u) ≡ under (λ e. stands_folded a e u) (head (folding a)) (stands_plainly a u) =
      ap₂ (λ (ns : List Name) (p : Option Name). under (λ e. stands_folded b e u) (head ns) p) folds (plainly_alike u)
      ∙ under_alike (λ e. stands_folded b e u) (λ e. stands_folded a e u) (head (folding a)) (stands_plainly a u) (folded_alike u) in
      ap₂ (λ (ns : List Name) (p : Option Name). under (λ e. stands_forked b e u) (head ns) p) makes fold
      ∙ under_alike (λ e. stands_forked b e u) (λ e. stands_forked a e u) (head (making a)) (under (λ e. stands_folded a e u) (head (folding a)) (stands_plainly a u)) (forked_alike u)

  pub uuids_alike : uuids b ≡ uuids a
  unfolding uuids
  uuids_alike = ap (λ us. in_order us) k.spoken

-- ---- the checks

module _ (x : Outline) (b : VolumeTable) (k : AreApartFromLogs x.table b) (unlinked : (u : List ℕ) → x.links (Cbt u) ≡ None) where
  abbrev now : Outline
  now = record x { table = b }

  link_of_log : (r : Row) → is_log r.name ≡ true → x.links r.name ≡ None
  link_of_log r h = by r.name h
    where
      by : (n : Name) → is_log n ≡ true → x.links n ≡ None
      by (Cbt u) h = unlinked u
      by Mgt h = absurd (let e = h in cc)
      by (Vhd u) h = absurd (let e = h in cc)
      by (Raw u) h = absurd (let e = h in cc)
      by (Old u) h = absurd (let e = h in cc)
      by (Clone d e c) h = absurd (let e = h in cc)
      by (Inflate u n) h = absurd (let e = h in cc)
      by (Coalesce c p) h = absurd (let e = h in cc)
      by (Relink c p) h = absurd (let e = h in cc)
      by (Leaf l p) h = absurd (let e = h in cc)

  children_alike : (p : Name) → children now p ≡ children x p
  unfolding children
  children_alike p = k.kept (λ r. parent_is p (x.links r.name)) (λ r h. ap (parent_is p) (link_of_log r h))

  record_volume_alike : record_volume_fault now ≡ record_volume_fault x
  unfolding record_volume_fault
  record_volume_alike = simp (k.same Mgt refl)

  too_many_alike : too_many_fault now ≡ too_many_fault x
  unfolding too_many_fault
  too_many_alike = ap (λ (rs : List Row). given (nat_lt image_limit (length rs)) at.Images) (k.kept (λ r. is_data r.name) (λ r h. log_no x.table b k is_data (λ u. refl) r.name h))

  second_alike : second_entry_fault now ≡ second_entry_fault x
  unfolding second_entry_fault
  second_alike = ap₂ (λ (ns ms : List Name). placed at.Journal (lesser (second ns) (second ms))) (folds x.table b k) (makes x.table b k)

  linked_alike : (n : Name) → is_entry_linked now n ≡ is_entry_linked x n
  unfolding is_entry_linked
  linked_alike (Clone d e t) = simp (vhd_same x.table b k d, vhd_same x.table b k e, vhd_same x.table b k t, raw_same x.table b k d, raw_same x.table b k e, raw_same x.table b k t, children_alike (Vhd e), children_alike (Raw e))
  linked_alike (Coalesce c p) = simp (children_alike (Vhd p), children_alike (Raw p))
  linked_alike (Relink c p) = refl
  linked_alike (Leaf l p) = simp (vhd_same x.table b k l, vhd_same x.table b k p, raw_same x.table b k l, old_same x.table b k l, children_alike (Vhd p), children_alike (Vhd l))
  linked_alike Mgt = refl
  linked_alike (Vhd u) = refl
  linked_alike (Raw u) = refl
  linked_alike (Old u) = refl
  linked_alike (Cbt u) = refl
  linked_alike (Inflate u n) = refl

  disks_alike : disk_fault now ≡ disk_fault x
  unfolding disk_fault outline_records
  disks_alike = ap (λ us. disk_place (find (is_unrecorded x) us)) uuids_of
    where
      uuids_of : disk_uuids now ≡ disk_uuids x
      uuids_of = ap (λ us. filter (λ u. is_some (standing_volume b u)) us) (uuids_alike x.table b k)
          ∙ ap (λ f. filter f (uuids x.table)) (fun_ext (λ u. ap is_some (standing_alike x.table b k u)))

  module _ (sound : fault_of x ≡ None) where
    was : (f : Option Place) → In f (all_faults x) → f ≡ None
    unfolding fault_of
    was = none_first (all_faults x) sound

    -- a test of one volume that is false of each log, and passes for each volume that passed
    each : (place : Name → Place) (t u : Row → Bool) → placed place (first_name t x.table.volumes) ≡ None → ((r : Row) → is_log r.name ≡ true → u r ≡ false)
        → ((r : Row) → t r ≡ false → u r ≡ false) → placed place (first_name u b.volumes) ≡ None
    each place t u before none still = none_named place u b.volumes (λ r i. by r (k.among r i))
      where
        by : (r : Row) → (is_log r.name ≡ true) ⊎ In r x.table.volumes → u r ≡ false
        by r (inl log) = none r log
        by r (inr j) = still r (named_none place t x.table.volumes before r j)

    of_log : (t : Name → Bool) → ((u : List ℕ) → t (Cbt u) ≡ false) → (n : Name) → is_log n ≡ true → t n ≡ false
    of_log t none n h = log_no x.table b k t none n h

    fewer : (m : Name) → is_log m ≡ false → is_there x.table m ≡ false → is_there b m ≡ false
    fewer m other e = ap is_some (k.same m other) ∙ e

    lost_still : (r : Row) → is_lost x.table r ≡ false → is_lost b r ≡ false
    lost_still r e = by (is_entry r.name) (is_at_stage x.table r.name) (are_past x.table r.name) refl refl e
      where
        by : (c d f : Bool) → is_at_stage x.table r.name ≡ d → are_past x.table r.name ≡ f → (c && not (d && f)) ≡ false → (c && not (is_at_stage b r.name && are_past b r.name)) ≡ false
        by false d f at past e = refl
        by true true true at past e = ap₂ (λ (p q : Bool). not (p && q)) (stage_alike x.table b k r.name ∙ at) (all_past (uuids_in r.name) x.table.sequence b.sequence k.later past)
        by true true false at past e = absurd (true≢false e)
        by true false f at past e = absurd (true≢false e)

    and_none : (c : Bool) → (c && false) ≡ false
    and_none true = refl
    and_none false = refl

    twin_alike : (n : Name) → has_twin b n ≡ has_twin x.table n
    twin_alike (Vhd u) = ap is_some (raw_same x.table b k u)
    twin_alike (Raw u) = ap is_some (vhd_same x.table b k u)
    twin_alike _ = refl

    misnamed_still : (r : Row) → is_misnamed x.table r ≡ false → is_misnamed b r ≡ false
    misnamed_still r e = by (is_data r.name) (has_twin x.table r.name) (are_past x.table r.name) refl refl e
      where
        by : (c d f : Bool) → has_twin x.table r.name ≡ d → are_past x.table r.name ≡ f → (c && (d || not f)) ≡ false → (c && (has_twin b r.name || not (are_past b r.name))) ≡ false
        by false d f twin past e = refl
        by true true f twin past e = absurd (true≢false e)
        by true false false twin past e = absurd (true≢false e)
        by true false true twin past e = ap₂ (λ (p q : Bool). p || not q) (twin_alike r.name ∙ twin) (all_past (uuids_in r.name) x.table.sequence b.sequence k.later past)

    -- parents and chains, by the links alone but for the mark of a parent, which is no log where it has a link
    right_alike : (size : ℕ) (p : Name) → is_parent_right now size p ≡ is_parent_right x size p
    right_alike size p = by (is_log p) refl
      where
        by : (c : Bool) → is_log p ≡ c → is_parent_right now size p ≡ is_parent_right x size p
        by false other = ap (λ o. of_row (λ r. r.hidden && not r.fresh) o && is_no_larger size (x.links p)) (k.same p other)
        by true log =
            let none : is_no_larger size (x.links p) ≡ false = ap (is_no_larger size) (link_of_log (record { name = p; hidden = false; fresh = false; extents = [] }) log) in
            ap (λ c. is_hidden b p && c) none ∙ and_none (is_hidden b p) ∙ sym (ap (λ c. is_hidden x.table p && c) none ∙ and_none (is_hidden x.table p))

    upward_alike : (i : Link) → is_linked now i ≡ is_linked x i
    upward_alike i = by i.parent
      where
        by : (o : Option Name) → elim o as (λ _. Bool) [ None ↦ true | Some p ↦ is_parent_right now i.size p ] ≡ elim o as (λ _. Bool) [ None ↦ true | Some p ↦ is_parent_right x i.size p ]
        by None = refl
        by (Some p) = right_alike i.size p

    chain_alike : (most : ℕ) (n : Name) → chain_length now most n ≡ chain_length x most n
    unfolding chain_length
    chain_alike zero n = refl
    chain_alike (suc most) n = by (x.links n) (λ p. chain_alike most p)
      where
        up : ((p : Name) → chain_length now most p ≡ chain_length x most p) → (o : Option Name)
            → elim o as (λ _. ℕ) [ None ↦ 0 | Some p ↦ chain_length now most p ] ≡ elim o as (λ _. ℕ) [ None ↦ 0 | Some p ↦ chain_length x most p ]
        up further None = refl
        up further (Some p) = further p

        by : (o : Option Link) → ((p : Name) → chain_length now most p ≡ chain_length x most p)
            → elim o as (λ _. ℕ) [ None ↦ 0 | Some i ↦ suc (elim i.parent as (λ _. ℕ) [ None ↦ 0 | Some p ↦ chain_length now most p ]) ]
            ≡ elim o as (λ _. ℕ) [ None ↦ 0 | Some i ↦ suc (elim i.parent as (λ _. ℕ) [ None ↦ 0 | Some p ↦ chain_length x most p ]) ]
        by None further = refl
        by (Some i) further = ap suc (up further i.parent)

    misplaced_alike : (r : Row) (l : Option Link) → is_misplaced now r l ≡ is_misplaced x r l
    misplaced_alike r None = refl
    misplaced_alike r (Some i) =
        ap₂ (λ (c : Bool) (m : ℕ). not (c && (nat_le m 30 && (r.hidden || (length (children now r.name) == 0))))) (upward_alike i) (chain_alike 31 r.name)
        ∙ ap (λ (rs : List Row). not (is_linked x i && (nat_le (chain_length x 31 r.name) 30 && (r.hidden || (length rs == 0))))) (children_alike r.name)

    tree_alike : (r : Row) (n : Name) → tree_wrong_as now r n ≡ tree_wrong_as x r n
    tree_alike r (Vhd u) = misplaced_alike r (x.links (Vhd u))
    tree_alike r _ = refl

    -- No check fails.
    pub log_rows_sound : fault_of now ≡ None
    unfolding fault_of misnamed_fault lost_entry_fault old_leaf_fault invalid_fault tree_fault entry_link_fault record_fault is_entry_linked
    log_rows_sound = first_none (all_faults now) pass
      where
        pass : (f : Option Place) → In f (all_faults now) → f ≡ None
        pass f (inl is) = is ∙ record_volume_alike ∙ was (record_volume_fault x) (inl refl)
        pass f (inr (inl is)) = is ∙ too_many_alike ∙ was (too_many_fault x) (inr (inl refl))
        pass f (inr (inr (inl is))) = is ∙ each at.Image (is_misnamed x.table) (is_misnamed b) (was (misnamed_fault x) (inr (inr (inl refl))))
            (λ r h. of_log (λ n. is_data n && (has_twin b n || not (are_past b n))) (λ u. refl) r.name h) misnamed_still
        pass f (inr (inr (inr (inl is)))) = is ∙ second_alike ∙ was (second_entry_fault x) (inr (inr (inr (inl refl))))
        pass f (inr (inr (inr (inr (inl is))))) = is ∙ each at.Journal (is_lost x.table) (is_lost b) (was (lost_entry_fault x) (inr (inr (inr (inr (inl refl))))))
            (λ r h. of_log (λ n. is_entry n && not (is_at_stage b n && are_past b n)) (λ u. refl) r.name h) lost_still
        pass f (inr (inr (inr (inr (inr (inl is)))))) = is ∙ each at.Image (λ r. is_orphaned x.table r.name) (λ r. is_orphaned b r.name) (was (old_leaf_fault x) (inr (inr (inr (inr (inr (inl refl)))))))
            (λ r h. of_log (is_orphaned b) (λ u. refl) r.name h) (λ r e. orphaned_alike x.table b k r.name ∙ e)
        pass f (inr (inr (inr (inr (inr (inr (inl is))))))) = is ∙ each at.Image (is_invalid x) (is_invalid now) (was (invalid_fault x) (inr (inr (inr (inr (inr (inr (inl refl))))))))
            (λ r h. ap (λ c. not r.fresh && c) (of_log (is_image_wrong now r) (λ u. refl) r.name h) ∙ and_none (not r.fresh)) (λ r e. e)
        pass f (inr (inr (inr (inr (inr (inr (inr (inl is)))))))) = is ∙ each at.Tree (is_tree_wrong x) (is_tree_wrong now) (was (tree_fault x) (inr (inr (inr (inr (inr (inr (inr (inl refl)))))))))
            (λ r h. of_log (tree_wrong_as now r) (λ u. refl) r.name h) (λ r e. tree_alike r r.name ∙ e)
        pass f (inr (inr (inr (inr (inr (inr (inr (inr (inl is))))))))) = is ∙ each at.Journal (λ r. not (is_entry_linked x r.name)) (λ r. not (is_entry_linked now r.name)) (was (entry_link_fault x) (inr (inr (inr (inr (inr (inr (inr (inr (inl refl))))))))))
            (λ r h. of_log (λ n. not (is_entry_linked now n)) (λ u. refl) r.name h) (λ r e. ap not (linked_alike r.name) ∙ e)
        pass f (inr (inr (inr (inr (inr (inr (inr (inr (inr (inl is)))))))))) = is ∙ was (record_fault x) (inr (inr (inr (inr (inr (inr (inr (inr (inr (inl refl))))))))))
        pass f (inr (inr (inr (inr (inr (inr (inr (inr (inr (inr (inl is))))))))))) = is ∙ disks_alike ∙ was (disk_fault x) (inr (inr (inr (inr (inr (inr (inr (inr (inr (inr (inl refl)))))))))))
        pass f (inr (inr (inr (inr (inr (inr (inr (inr (inr (inr (inr none))))))))))) = absurd none
