-- What speaks of none of some UUIDs passes each check as it did.
use Rattle.std.proofs.Common.{◌≡◌, inl, inr, ℕ, zero, suc, ◌≤◌, Bool, true, false, not, ◌&&◌, ◌||◌, ◌==◌, List, length, Option, Some, None, is_some, is_none, refl, sym, ap, ap₂, ◌∙◌, subst, nat_le}
use Rattle.std.proofs.lemmas.Bool.{true≢false, and_parts, eqb-true, eq-eqb}
use Rattle.common_laws.proofs.Booleans.{all_hold, not_false}
use Rattle.sm_base.specs.Kinds.{is_image as is_data, is_entry}
use Rattle.sm_base.specs.declared.faults.Place.{Place}
use Rattle.sm_base.specs.declared.faults.Place.TheVariants as at
use Rattle.sm_base.specs.declared.names.Name.{Name}
use Rattle.sm_base.specs.declared.names.Name.TheVariants.{Mgt, Vhd, Raw, Old, Cbt, Clone, Inflate, Coalesce, Relink, Leaf}
use Rattle.vg_layout.specs.Places.{record_extents}
use Rattle.vg_meta.specs.Tables.{VolumeTable, Row, rows}
use Rattle.common_laws.specs.Lists.{In, given}
use Rattle.common_laws.proofs.Lists.{none_first, first_none}
use Rattle.sm_standing.specs.Apart.{is_apart}
use Rattle.sm_standing.specs.Besides.{IsBeside, PassesAlone, is_settled_name}
use Rattle.sm_standing.specs.Checks.{children, record_volume_fault, has_twin, is_misnamed, misnamed_fault, lost_entry_fault, is_lost, is_orphaned, old_leaf_fault, is_image_wrong, is_oversize, is_invalid, invalid_fault, chain_length, is_linked, is_no_larger, is_parent_right, is_misplaced, is_tree_wrong, tree_wrong_as, tree_fault, is_entry_linked, entry_link_fault, all_faults, fault_of}
use Rattle.sm_standing.specs.Entries.{of_row, is_at_stage, is_hidden, is_past, are_past}
use Rattle.sm_standing.specs.Outlines.{Outline, Link}
use Rattle.sm_standing.proofs.DisksShown.{row_of-In}
use Rattle.sm_standing.proofs.FaultLaws.{named_none, none_named}
use Rattle.sm_standing.proofs.NamedLaws.{past_later}

-- whatever speaks of none of the UUIDs is as it was, and where an image had no children it has none
pub record IsAlikeApart (a b : Outline) (us : List (List ℕ)) : Type 0 where
  pub extent : b.extent ≡ a.extent
  pub block : b.block ≡ a.block
  pub entries : b.entries ≡ a.entries
  pub later : a.table.sequence ≤ b.table.sequence
  pub found : (r : Row) → In r b.table.volumes → rows b.table r.name ≡ Some r
  pub rows_apart : (n : Name) → is_apart us n ≡ true → rows b.table n ≡ rows a.table n
  pub links_apart : (n : Name) → is_apart us n ≡ true → b.links n ≡ a.links n
  pub parents_apart : (n p : Name) (i : Link) → is_apart us n ≡ true → a.links n ≡ Some i → i.parent ≡ Some p → is_apart us p ≡ true
  pub childless_apart : (n : Name) → is_apart us n ≡ true → (length (children a n) == 0) ≡ true → (length (children b n) == 0) ≡ true

module _ (a b : Outline) (us : List (List ℕ)) (w : IsAlikeApart a b us) where
  -- the row of a name apart stood among the volumes from before
  was_there : (r : Row) → In r b.table.volumes → is_apart us r.name ≡ true → In r a.table.volumes
  was_there r i apart = (row_of-In a.table.volumes r.name r (sym (w.rows_apart r.name apart) ∙ w.found r i)).0

  abbrev misnamed_as : VolumeTable → Name → Bool
  misnamed_as t n = is_data n && (has_twin t n || not (are_past t n))

  -- an image's twin has its UUID, and a number that was used stays so
  past_right : (t u : Bool) (v : List ℕ) → u ≡ t → (t || not (is_past a.table.sequence v && true)) ≡ false → (u || not (is_past b.table.sequence v && true)) ≡ false
  past_right t u v same h = by t (is_past a.table.sequence v) refl refl h
    where
      by : (x p : Bool) → t ≡ x → is_past a.table.sequence v ≡ p → (x || not (p && true)) ≡ false → (u || not (is_past b.table.sequence v && true)) ≡ false
      by false true is_t is_past_ k = ap₂ (λ y q. y || not (q && true)) (same ∙ is_t) (past_later v a.table.sequence b.table.sequence w.later is_past_)
      by true p is_t is_past_ k = absurd (true≢false k)
      by false false is_t is_past_ k = absurd (true≢false k)

  -- ---- links and chains

  and_false : (c : Bool) → (c && false) ≡ false
  and_false true = refl
  and_false false = refl

  pub hidden_alike : (n : Name) → is_apart us n ≡ true → is_hidden b.table n ≡ is_hidden a.table n
  hidden_alike n apart = ap (of_row (λ r. r.hidden && not r.fresh)) (w.rows_apart n apart)

  pub parent_alike : (size : ℕ) (n : Name) → is_apart us n ≡ true → is_parent_right b size n ≡ is_parent_right a size n
  parent_alike size n apart = ap₂ (λ h l. h && is_no_larger size l) (hidden_alike n apart) (w.links_apart n apart)

  pub linked_alike : (n : Name) (i : Link) → is_apart us n ≡ true → a.links n ≡ Some i → is_linked b i ≡ is_linked a i
  linked_alike n i apart is = by i.parent refl
    where
      by : (x : Option Name) → i.parent ≡ x → elim x as (λ _. Bool) [ None ↦ true | Some p ↦ is_parent_right b i.size p ] ≡ elim x as (λ _. Bool) [ None ↦ true | Some p ↦ is_parent_right a i.size p ]
      by None at_none = refl
      by (Some p) at_some = parent_alike i.size p (w.parents_apart n p i apart is at_some)

  pub chain_alike : (most : ℕ) (n : Name) → is_apart us n ≡ true → chain_length b most n ≡ chain_length a most n
  unfolding chain_length
  chain_alike zero n apart = refl
  chain_alike (suc most) n apart =
      ap (λ (x : Option Link). elim x as (λ _. ℕ) [ None ↦ 0 | Some i ↦ suc (elim i.parent as (λ _. ℕ) [ None ↦ 0 | Some p ↦ chain_length b most p ]) ]) (w.links_apart n apart)
      ∙ by (λ p away. chain_alike most p away) (a.links n) refl
    where
      up : ((p : Name) → is_apart us p ≡ true → chain_length b most p ≡ chain_length a most p) → (i : Link) → a.links n ≡ Some i → (x : Option Name) → i.parent ≡ x
          → elim x as (λ _. ℕ) [ None ↦ 0 | Some p ↦ chain_length b most p ] ≡ elim x as (λ _. ℕ) [ None ↦ 0 | Some p ↦ chain_length a most p ]
      up further i is None at_none = refl
      up further i is (Some p) at_some = further p (w.parents_apart n p i apart is at_some)

      by : ((p : Name) → is_apart us p ≡ true → chain_length b most p ≡ chain_length a most p) → (x : Option Link) → a.links n ≡ x
          → elim x as (λ _. ℕ) [ None ↦ 0 | Some i ↦ suc (elim i.parent as (λ _. ℕ) [ None ↦ 0 | Some p ↦ chain_length b most p ]) ]
          ≡ elim x as (λ _. ℕ) [ None ↦ 0 | Some i ↦ suc (elim i.parent as (λ _. ℕ) [ None ↦ 0 | Some p ↦ chain_length a most p ]) ]
      by further None is = refl
      by further (Some i) is = ap suc (up further i is i.parent refl)

  misplaced_alike : (r : Row) (n : Name) → r.name ≡ n → is_apart us n ≡ true → (x : Option Link) → a.links n ≡ x → is_misplaced a r x ≡ false → is_misplaced b r x ≡ false
  misplaced_alike r n named apart None is h = refl
  misplaced_alike r n named apart (Some i) is h =
      let here = subst (λ m. is_apart us m ≡ true) (sym named) apart in
      let placed = and_parts (is_linked a i) (nat_le (chain_length a 31 r.name) 30 && (r.hidden || (length (children a r.name) == 0))) (not_false _ h) in
      let short = and_parts (nat_le (chain_length a 31 r.name) 30) (r.hidden || (length (children a r.name) == 0)) placed.1 in
      all_hold (is_linked b i) (nat_le (chain_length b 31 r.name) 30) (r.hidden || (length (children b r.name) == 0)) (linked_alike n i apart is ∙ placed.0)
      (ap (λ k. nat_le k 30) (chain_alike 31 r.name here) ∙ short.0) (childless r.hidden here short.1)
    where
      childless : (k : Bool) → is_apart us r.name ≡ true → (k || (length (children a r.name) == 0)) ≡ true → (k || (length (children b r.name) == 0)) ≡ true
      childless true here h = refl
      childless false here h = w.childless_apart r.name here h

  -- ---- each volume

  module _ (sound : fault_of a ≡ None) where
    was : (f : Option Place) → In f (all_faults a) → f ≡ None
    unfolding fault_of
    was = none_first (all_faults a) sound

    misnamed_before : (r : Row) → In r a.table.volumes → is_misnamed a.table r ≡ false
    unfolding misnamed_fault
    misnamed_before = named_none at.Image (is_misnamed a.table) a.table.volumes (was (misnamed_fault a) (inr (inr (inl refl))))

    invalid_before : (r : Row) → In r a.table.volumes → is_invalid a r ≡ false
    unfolding invalid_fault
    invalid_before = named_none at.Image (is_invalid a) a.table.volumes (was (invalid_fault a) (inr (inr (inr (inr (inr (inr (inl refl))))))))

    tree_before : (r : Row) → In r a.table.volumes → is_tree_wrong a r ≡ false
    unfolding tree_fault
    tree_before = named_none at.Tree (is_tree_wrong a) a.table.volumes (was (tree_fault a) (inr (inr (inr (inr (inr (inr (inr (inl refl)))))))))

    pub by_name : (r : Row) → In r b.table.volumes → (n : Name) → r.name ≡ n → is_settled_name us n ≡ true → PassesAlone b r
    unfolding is_entry_linked
    by_name r i Mgt named apart = record {
      named = ap (misnamed_as b.table) named;
      at_stage = ap (λ n. is_entry n && not (is_at_stage b.table n && are_past b.table n)) named;
      owned = ap (is_orphaned b.table) named;
      valid = ap (λ n. not r.fresh && is_image_wrong b r n) named ∙ and_false (not r.fresh);
      placed = ap (tree_wrong_as b r) named;
      linked = ap (is_entry_linked b) named;
    }
    by_name r i (Vhd v) named apart =
        let there = was_there r i (subst (λ m. is_apart us m ≡ true) (sym named) apart) in
        record {
          named = ap (misnamed_as b.table) named
              ∙ past_right (has_twin a.table (Vhd v)) (has_twin b.table (Vhd v)) v (ap is_some (w.rows_apart (Raw v) apart)) (sym (ap (misnamed_as a.table) named) ∙ misnamed_before r there);
          at_stage = ap (λ n. is_entry n && not (is_at_stage b.table n && are_past b.table n)) named;
          owned = ap (is_orphaned b.table) named;
          valid = ap (λ n. not r.fresh && is_image_wrong b r n) named ∙ ap (λ l. not r.fresh && is_none l) (w.links_apart (Vhd v) apart)
              ∙ sym (ap (λ n. not r.fresh && is_image_wrong a r n) named) ∙ invalid_before r there;
          placed = ap (tree_wrong_as b r) named ∙ ap (is_misplaced b r) (w.links_apart (Vhd v) apart)
              ∙ misplaced_alike r (Vhd v) named apart (a.links (Vhd v)) refl (sym (ap (tree_wrong_as a r) named) ∙ tree_before r there);
          linked = ap (is_entry_linked b) named;
        }
    by_name r i (Raw v) named apart =
        let there = was_there r i (subst (λ m. is_apart us m ≡ true) (sym named) apart) in
        record {
          named = ap (misnamed_as b.table) named
              ∙ past_right (has_twin a.table (Raw v)) (has_twin b.table (Raw v)) v (ap is_some (w.rows_apart (Vhd v) apart)) (sym (ap (misnamed_as a.table) named) ∙ misnamed_before r there);
          at_stage = ap (λ n. is_entry n && not (is_at_stage b.table n && are_past b.table n)) named;
          owned = ap (is_orphaned b.table) named;
          valid = ap (λ n. not r.fresh && is_image_wrong b r n) named
              ∙ ap (λ e. not r.fresh && is_oversize e b.block b.entries r) w.extent ∙ ap₂ (λ x y. not r.fresh && is_oversize a.extent x y r) w.block w.entries
              ∙ sym (ap (λ n. not r.fresh && is_image_wrong a r n) named) ∙ invalid_before r there;
          placed = ap (tree_wrong_as b r) named;
          linked = ap (is_entry_linked b) named;
        }
    by_name r i (Old v) named apart = absurd (true≢false (sym apart))
    by_name r i (Cbt v) named apart = record {
      named = ap (misnamed_as b.table) named;
      at_stage = ap (λ n. is_entry n && not (is_at_stage b.table n && are_past b.table n)) named;
      owned = ap (is_orphaned b.table) named;
      valid = ap (λ n. not r.fresh && is_image_wrong b r n) named ∙ and_false (not r.fresh);
      placed = ap (tree_wrong_as b r) named;
      linked = ap (is_entry_linked b) named;
    }
    by_name r i (Clone x y z) named apart = absurd (true≢false (sym apart))
    by_name r i (Inflate x y) named apart = absurd (true≢false (sym apart))
    by_name r i (Coalesce x y) named apart = absurd (true≢false (sym apart))
    by_name r i (Relink x y) named apart = absurd (true≢false (sym apart))
    by_name r i (Leaf x y) named apart = absurd (true≢false (sym apart))

module _ (a b : Outline) (us : List (List ℕ)) (w : IsBeside a b us) where
  alike : IsAlikeApart a b us
  alike = record {
    extent = w.extent;
    block = w.block;
    entries = w.entries;
    later = w.later;
    found = w.found;
    rows_apart = w.rows_apart;
    links_apart = w.links_apart;
    parents_apart = w.parents_apart;
    childless_apart = λ n apart none. eq-eqb (length (children b n)) 0 (w.children_apart n apart (eqb-true (length (children a n)) 0 none));
  }

  module _ (sound : fault_of a ≡ None) where
    passes : (r : Row) → In r b.table.volumes → PassesAlone b r
    passes r i = by (is_settled_name us r.name) refl
      where
        by : (c : Bool) → is_settled_name us r.name ≡ c → PassesAlone b r
        by true is = by_name a b us alike sound r i r.name refl is
        by false is = w.others r i is

    record_volume_ok : record_volume_fault b ≡ None
    unfolding record_volume_fault
    record_volume_ok =
        ap₂ (λ e x. given (not (elim x as (λ _. Bool) [ None ↦ false | Some r ↦ length r.extents == record_extents e ])) at.Mgt) w.extent (w.rows_apart Mgt refl)
        ∙ was a b us alike sound (record_volume_fault a) (inl refl)

    -- no check fails
    pub beside_sound : fault_of b ≡ None
    unfolding fault_of misnamed_fault lost_entry_fault old_leaf_fault invalid_fault tree_fault entry_link_fault
    beside_sound = first_none (all_faults b) pass
      where
        pass : (f : Option Place) → In f (all_faults b) → f ≡ None
        pass f (inl is) = is ∙ record_volume_ok
        pass f (inr (inl is)) = is ∙ w.few
        pass f (inr (inr (inl is))) = is ∙ none_named at.Image (is_misnamed b.table) b.table.volumes (λ r i. (passes r i).named)
        pass f (inr (inr (inr (inl is)))) = is ∙ w.one_each
        pass f (inr (inr (inr (inr (inl is))))) = is ∙ none_named at.Journal (is_lost b.table) b.table.volumes (λ r i. (passes r i).at_stage)
        pass f (inr (inr (inr (inr (inr (inl is)))))) = is ∙ none_named at.Image (λ r. is_orphaned b.table r.name) b.table.volumes (λ r i. (passes r i).owned)
        pass f (inr (inr (inr (inr (inr (inr (inl is))))))) = is ∙ none_named at.Image (is_invalid b) b.table.volumes (λ r i. (passes r i).valid)
        pass f (inr (inr (inr (inr (inr (inr (inr (inl is)))))))) = is ∙ none_named at.Tree (is_tree_wrong b) b.table.volumes (λ r i. (passes r i).placed)
        pass f (inr (inr (inr (inr (inr (inr (inr (inr (inl is))))))))) = is ∙ none_named at.Journal (λ r. not (is_entry_linked b r.name)) b.table.volumes (λ r i. ap not (passes r i).linked)
        pass f (inr (inr (inr (inr (inr (inr (inr (inr (inr (inl is)))))))))) = is ∙ w.records
        pass f (inr (inr (inr (inr (inr (inr (inr (inr (inr (inr (inl is))))))))))) = is ∙ w.disks
        pass f (inr (inr (inr (inr (inr (inr (inr (inr (inr (inr (inr none))))))))))) = absurd none
