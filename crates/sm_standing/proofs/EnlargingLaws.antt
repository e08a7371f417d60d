-- While an image is being enlarged all checks pass that passed before, and each disk stands where it stood.
use Rattle.std.proofs.Common.{◌≡◌, ◌≢◌, ◌⊎◌, inl, inr, ℕ, zero, suc, ◌+◌, ◌*◌, ◌≤◌, Bool, true, false, not, cond, ◌&&◌, ◌||◌, ◌==◌, List, [], ◌∷◌, ◌++◌, length, Option, Some, None, is_some, refl, sym, ap, ap₂, ◌∙◌, subst, arith, nat_lt, nat_le}
use Rattle.std.specs.List.{AllZip, filter, find, flat_map, list_all, list_any}
use Rattle.std.proofs.Math.Path.{fun_ext}
use Rattle.std.proofs.lemmas.List.{length-append}
use Rattle.std.proofs.lemmas.Option.{none-some}
use Rattle.std.specs.Str.{bytes_eq}
use Rattle.vg_layout.specs.Places.{record_extents}
use Rattle.vg_volumes.specs.Volumes.{span}
use Rattle.std.proofs.lemmas.Bool.{true≢false, le-leb}
use Rattle.sm_base.specs.Kinds.{is_image as is_data, is_entry}
use Rattle.sm_base.specs.declared.faults.Place.{Place}
use Rattle.sm_base.specs.declared.faults.Place.TheVariants as at
use Rattle.sm_base.specs.declared.names.Name.{Name}
use Rattle.sm_base.specs.declared.names.Name.TheVariants.{Mgt, Vhd, Raw, Old, Cbt, Clone, Inflate, Coalesce, Relink, Leaf}
use Rattle.vg_meta.specs.Tables.{VolumeTable, Row, rows, row_of, names_of, name_eq}
use Rattle.vg_meta.proofs.NameLaws.{name_eq-other, name_eq-true}
use Rattle.common_laws.specs.Lists.{In, given}
use Rattle.common_laws.proofs.Lists.{none_first, first_none, filter-In, In-map_at}
use Rattle.sm_standing.specs.Checks.{placed, has_records, record_volume_fault, too_many_fault, has_twin, is_misnamed, misnamed_fault, lesser, second_entry_fault, is_lost, lost_entry_fault, is_orphaned, old_leaf_fault, is_image_wrong, is_invalid, invalid_fault, children, parent_is, chain_length, is_linked, is_no_larger, is_parent_right, is_misplaced, is_tree_wrong, tree_wrong_as, tree_fault, has_parent_of, children_with, is_leaf_linked, is_entry_linked, entry_link_fault, record_fault, disk_place, is_unrecorded, disk_fault, all_faults, fault_of}
use Rattle.sm_standing.specs.Enlarging.{IsAtLeast, HasEntry, IsEnlarging}
use Rattle.sm_standing.specs.Enlarging.HasEntry.{here, next}
use Rattle.sm_standing.specs.Entries.{of_row, is_there, is_filled, is_hidden, is_visible, is_folding, is_making, folding, making, head, second, is_past, are_past, uuids_in, is_at_stage, is_coalescing, is_folding_leaf, is_leaf_copied, is_leaf_renamed, is_leaf_swapped, is_leaf_folded, is_old_of}
use Rattle.sm_standing.specs.Outlines.{Outline, Link, outline_records}
use Rattle.sm_standing.specs.Standing.{standing_volume, stands_forked, stands_folded, stands_plainly, under, candidates, in_order, uuids}
use Rattle.sm_standing.proofs.DisksShown.{row_of-In}
use Rattle.sm_standing.proofs.FaultLaws.{named_none, none_named}
use Rattle.sm_standing.proofs.NamedLaws.{all_past}

-- ---- a volume beside the one from before

module _ (u : List ℕ) where
  -- neither is there, or both
  abbrev pub Beside : Option Row → Option Row → Type 0
  Beside None None = Unit {0}
  Beside (Some q) (Some r) = IsAtLeast u q r
  Beside None (Some r) = ⊥
  Beside (Some q) None = ⊥

  -- what a test says of both alike
  test_same : (test : Row → Bool) → ((q r : Row) → IsAtLeast u q r → test r ≡ test q) → (x y : Option Row) → Beside x y → of_row test y ≡ of_row test x
  test_same test alike None None w = refl
  test_same test alike (Some q) (Some r) w = alike q r w
  test_same test alike None (Some r) w = absurd w
  test_same test alike (Some q) None w = absurd w

  there_same : (x y : Option Row) → Beside x y → is_some y ≡ is_some x
  there_same None None w = refl
  there_same (Some q) (Some r) w = refl
  there_same None (Some r) w = absurd w
  there_same (Some q) None w = absurd w

-- ---- the volumes beside those from before

module _ (e : Name) (u : List ℕ) where
  -- each is the entry or one from before
  from : (qs rs : List Row) (r : Row) → HasEntry e u qs rs → In r rs → (r.name ≡ e) ⊎ ((q : Row) × In q qs × IsAtLeast u q r)
  from qs [] r there i = elim there [ ]
  from qs (r' ∷ rs) r (here _ _ _ is same) (inl at) = inl (ap (λ (x : Row). x.name) at ∙ is)
  from qs (r' ∷ rs) r (here _ _ _ is same) (inr i) = inr (zipped qs rs same i)
    where
      zipped : (qs rs : List Row) → AllZip (IsAtLeast u) qs rs → In r rs → (q : Row) × In q qs × IsAtLeast u q r
      zipped [] [] same i = absurd i
      zipped (q ∷ qs) (s ∷ rs) same (inl at) = (q, inl refl, subst (IsAtLeast u q) (sym at) same.0)
      zipped (q ∷ qs) (s ∷ rs) same (inr i) = let w = zipped qs rs same.1 i in (w.0, inr w.1, w.2)
      zipped [] (s ∷ rs) same i = absurd same
      zipped (q ∷ qs) [] same i = absurd same
  from (q ∷ qs) (r' ∷ rs) r (next _ _ _ _ one rest) (inl at) = inr (q, inl refl, subst (IsAtLeast u q) (sym at) one)
  from (q ∷ qs) (r' ∷ rs) r (next _ _ _ _ one rest) (inr i) = by (from qs rs r rest i)
    where
      by : (r.name ≡ e) ⊎ ((q' : Row) × In q' qs × IsAtLeast u q' r) → (r.name ≡ e) ⊎ ((q' : Row) × In q' (q ∷ qs) × IsAtLeast u q' r)
      by (inl is) = inl is
      by (inr w) = inr (w.0, inr w.1, w.2)

  -- each one from before is still there
  pub into : (qs rs : List Row) (q : Row) → HasEntry e u qs rs → In q qs → (r : Row) × In r rs × IsAtLeast u q r
  into qs [] q there i = elim there [ ]
  into qs (r' ∷ rs) q (here _ _ _ is same) i = let w = zipped qs rs same i in (w.0, inr w.1, w.2)
    where
      zipped : (qs rs : List Row) → AllZip (IsAtLeast u) qs rs → In q qs → (r : Row) × In r rs × IsAtLeast u q r
      zipped [] rs same i = absurd i
      zipped (p ∷ qs) (s ∷ rs) same (inl at) = (s, inl refl, subst (λ x. IsAtLeast u x s) (sym at) same.0)
      zipped (p ∷ qs) (s ∷ rs) same (inr i) = let w = zipped qs rs same.1 i in (w.0, inr w.1, w.2)
      zipped (p ∷ qs) [] same i = absurd same
  into (p ∷ qs) (r' ∷ rs) q (next _ _ _ _ one rest) (inl at) = (r', inl refl, subst (λ x. IsAtLeast u x r') (sym at) one)
  into (p ∷ qs) (r' ∷ rs) q (next _ _ _ _ one rest) (inr i) = let w = into qs rs q rest i in (w.0, inr w.1, w.2)

  -- a list that is made of the names of volumes, to which the entry adds nothing
  module _ {A : Type 0} (f : Row → List A) (alike : (q r : Row) → IsAtLeast u q r → f r ≡ f q) where
    zip_mapped : (qs rs : List Row) → AllZip (IsAtLeast u) qs rs → flat_map f rs ≡ flat_map f qs
    zip_mapped [] [] same = refl
    zip_mapped (q ∷ qs) (r ∷ rs) same = ap₂ (λ xs ys. xs ++ ys) (alike q r same.0) (zip_mapped qs rs same.1)
    zip_mapped [] (r ∷ rs) same = absurd same
    zip_mapped (q ∷ qs) [] same = absurd same

    flat_same : (qs rs : List Row) → HasEntry e u qs rs → ((r : Row) → r.name ≡ e → f r ≡ []) → flat_map f rs ≡ flat_map f qs
    flat_same qs [] there nothing = elim there [ ]
    flat_same qs (r ∷ rs) (here _ _ _ is same) nothing = ap (λ xs. xs ++ flat_map f rs) (nothing r is) ∙ zip_mapped qs rs same
    flat_same (q ∷ qs) (r ∷ rs) (next _ _ _ _ one rest) nothing = ap₂ (λ xs ys. xs ++ ys) (alike q r one) (flat_same qs rs rest nothing)

  beside_next : (n : Name) (q r : Row) (qs rs : List Row) → IsAtLeast u q r → Beside u (row_of qs n) (row_of rs n) → Beside u (row_of (q ∷ qs) n) (row_of (r ∷ rs) n)
  unfolding row_of
  beside_next n q r qs rs one rest = subst (λ k. Beside u (row_of (q ∷ qs) n) (cond (name_eq k n) (Some r) (row_of rs n))) (sym one.name) (by (name_eq q.name n))
    where
      by : (b : Bool) → Beside u (cond b (Some q) (row_of qs n)) (cond b (Some r) (row_of rs n))
      by true = one
      by false = rest

  beside_zip : (n : Name) (qs rs : List Row) → AllZip (IsAtLeast u) qs rs → Beside u (row_of qs n) (row_of rs n)
  unfolding row_of
  beside_zip n [] [] same = tt
  beside_zip n (q ∷ qs) (r ∷ rs) same = beside_next n q r qs rs same.0 (beside_zip n qs rs same.1)
  beside_zip n [] (r ∷ rs) same = absurd same
  beside_zip n (q ∷ qs) [] same = absurd same

  beside : (n : Name) (qs rs : List Row) → n ≢ e → HasEntry e u qs rs → Beside u (row_of qs n) (row_of rs n)
  unfolding row_of
  beside n qs [] other there = elim there [ ]
  beside n qs (r ∷ rs) other (here _ _ _ is same) =
      subst (λ b. Beside u (row_of qs n) (cond b (Some r) (row_of rs n))) (sym (name_eq-other r.name n (λ k. other (sym k ∙ is)))) (beside_zip n qs rs same)
  beside n (q ∷ qs) (r ∷ rs) other (next _ _ _ _ one rest) = beside_next n q r qs rs one (beside n qs rs other rest)

-- ---- names and numbers of volumes

names_flat : (test : Name → Bool) (rs : List Row) → filter test (names_of rs) ≡ flat_map (λ r. cond (test r.name) (r.name ∷ []) []) rs
names_flat test [] = refl
names_flat test (r ∷ rs) = by (names_flat test rs) (test r.name)
  where
    by : filter test (names_of rs) ≡ flat_map (λ r. cond (test r.name) (r.name ∷ []) []) rs → (b : Bool) → cond b (r.name ∷ filter test (names_of rs)) (filter test (names_of rs)) ≡ (cond b (r.name ∷ []) []) ++ flat_map (λ r. cond (test r.name) (r.name ∷ []) []) rs
    by rest true = ap (λ ns. r.name ∷ ns) rest
    by rest false = rest

count_flat : (test : Row → Bool) (rs : List Row) → length (filter test rs) ≡ length (flat_map (λ r. cond (test r) (r.name ∷ []) []) rs)
count_flat test [] = refl
count_flat test (r ∷ rs) = by (count_flat test rs) (test r)
  where
    by : length (filter test rs) ≡ length (flat_map (λ r. cond (test r) (r.name ∷ []) []) rs) → (b : Bool) → length (cond b (r ∷ filter test rs) (filter test rs)) ≡ length ((cond b (r.name ∷ []) []) ++ flat_map (λ r. cond (test r) (r.name ∷ []) []) rs)
    by rest true = ap suc rest
    by rest false = rest

module _ (e : Name) (u : List ℕ) (qs rs : List Row) (among : HasEntry e u qs rs) where
  names_same : (test : Name → Bool) → test e ≡ false → filter test (names_of rs) ≡ filter test (names_of qs)
  names_same test out =
      names_flat test rs
      ∙ flat_same e u (λ r. cond (test r.name) (r.name ∷ []) []) (λ q r one. ap (λ n. cond (test n) (n ∷ []) []) one.name) qs rs among (λ r is. ap (λ b. cond b (r.name ∷ []) []) (ap test is ∙ out))
      ∙ sym (names_flat test qs)

  pub count_same : (test : Row → Bool) → ((q r : Row) → IsAtLeast u q r → test r ≡ test q) → ((r : Row) → r.name ≡ e → test r ≡ false) → length (filter test rs) ≡ length (filter test qs)
  count_same test alike out =
      count_flat test rs
      ∙ ap length (flat_same e u (λ r. cond (test r) (r.name ∷ []) []) (λ q r one. ap₂ (λ b n. cond b (n ∷ []) []) (alike q r one) one.name) qs rs among (λ r is. ap (λ b. cond b (r.name ∷ []) []) (out r is)))
      ∙ sym (count_flat test qs)

  -- the entries of a group that had none are this one
  entry_alone : (test : Name → Bool) → test e ≡ true → filter test (names_of qs) ≡ [] → filter test (names_of rs) ≡ e ∷ []
  entry_alone test is_one none = by qs rs among none
    where
      by : (qs rs : List Row) → HasEntry e u qs rs → filter test (names_of qs) ≡ [] → filter test (names_of rs) ≡ e ∷ []
      by qs [] there none = elim there [ ]
      by qs (r ∷ rs) (here _ _ _ is same) none =
          ap (λ n. cond (test n) (n ∷ filter test (names_of rs)) (filter test (names_of rs))) is
          ∙ ap (λ b. cond b (e ∷ filter test (names_of rs)) (filter test (names_of rs))) is_one
          ∙ ap (λ ns. e ∷ ns) (names_flat test rs ∙ zip_mapped e u (λ r. cond (test r.name) (r.name ∷ []) []) (λ q r one. ap (λ n. cond (test n) (n ∷ []) []) one.name) qs rs same ∙ sym (names_flat test qs) ∙ none)
      by (q ∷ qs) (r ∷ rs) (next _ _ _ _ one rest) none =
          let out : test q.name ≡ false = out_of (test q.name) none in
          ap (λ n. cond (test n) (n ∷ filter test (names_of rs)) (filter test (names_of rs))) one.name
          ∙ ap (λ b. cond b (q.name ∷ filter test (names_of rs)) (filter test (names_of rs))) out
          ∙ by qs rs rest (sym (ap (λ b. cond b (q.name ∷ filter test (names_of qs)) (filter test (names_of qs))) out) ∙ none)
        where
          out_of : (b : Bool) → cond b (q.name ∷ filter test (names_of qs)) (filter test (names_of qs)) ≡ [] → b ≡ false
          out_of true h = absurd (let x = h in cc)
          out_of false h = refl

-- ---- chains

-- which no table decides
pub chain_alike : (o : Outline) (t : VolumeTable) (most : ℕ) (n : Name) → chain_length (record o { table = t }) most n ≡ chain_length o most n
unfolding chain_length
chain_alike o t zero n = refl
chain_alike o t (suc most) n = by (λ p. chain_alike o t most p) (o.links n)
  where
    up : ((p : Name) → chain_length (record o { table = t }) most p ≡ chain_length o most p) → (x : Option Name) → elim x as (λ _. ℕ) [ None ↦ 0 | Some p ↦ chain_length (record o { table = t }) most p ] ≡ elim x as (λ _. ℕ) [ None ↦ 0 | Some p ↦ chain_length o most p ]
    up rest None = refl
    up rest (Some p) = rest p

    by : ((p : Name) → chain_length (record o { table = t }) most p ≡ chain_length o most p) → (x : Option Link) → elim x as (λ _. ℕ) [ None ↦ 0 | Some i ↦ suc (elim i.parent as (λ _. ℕ) [ None ↦ 0 | Some p ↦ chain_length (record o { table = t }) most p ]) ]
        ≡ elim x as (λ _. ℕ) [ None ↦ 0 | Some i ↦ suc (elim i.parent as (λ _. ℕ) [ None ↦ 0 | Some p ↦ chain_length o most p ]) ]
    by rest None = refl
    by rest (Some i) = ap suc (up rest i.parent)

-- ---- each check

module _ (o : Outline) (t : VolumeTable) (u : List ℕ) (extents : ℕ) (w : IsEnlarging o t u extents) where
  abbrev entry : Name
  entry = Inflate u extents

  abbrev pub enlarging : Outline
  enlarging = record o { table = t }

  pub near : (n : Name) → n ≢ entry → Beside u (rows o.table n) (rows t n)
  near n other = beside entry u n o.table.volumes t.volumes other w.volumes

  marks : (test : Row → Bool) → ((q r : Row) → IsAtLeast u q r → test r ≡ test q) → (n : Name) → n ≢ entry → of_row test (rows t n) ≡ of_row test (rows o.table n)
  marks test alike n other = test_same u test alike (rows o.table n) (rows t n) (near n other)

  there_alike : (n : Name) → n ≢ entry → is_there t n ≡ is_there o.table n
  there_alike n other = there_same u (rows o.table n) (rows t n) (near n other)

  pub hidden_alike : (n : Name) → n ≢ entry → is_hidden t n ≡ is_hidden o.table n
  hidden_alike n other = marks (λ r. r.hidden && not r.fresh) (λ q r one. ap₂ (λ h f. h && not f) one.hidden one.fresh) n other

  visible_alike : (n : Name) → n ≢ entry → is_visible t n ≡ is_visible o.table n
  visible_alike n other = marks (λ r. not r.hidden && not r.fresh) (λ q r one. ap₂ (λ h f. not h && not f) one.hidden one.fresh) n other

  filled_alike : (n : Name) → n ≢ entry → is_filled t n ≡ is_filled o.table n
  filled_alike n other = marks (λ r. not r.fresh) (λ q r one. ap not one.fresh) n other

  vhd_other : (v : List ℕ) → Vhd v ≢ entry
  vhd_other v is = let x = is in cc

  raw_other : (v : List ℕ) → Raw v ≢ entry
  raw_other v is = let x = is in cc

  old_other : (v : List ℕ) → Old v ≢ entry
  old_other v is = let x = is in cc

  pub folding_same : folding t ≡ folding o.table
  folding_same = names_same entry u o.table.volumes t.volumes w.volumes is_folding refl

  pub making_now : making t ≡ entry ∷ []
  making_now = entry_alone entry u o.table.volumes t.volumes w.volumes is_making refl w.none_making

  not_making : (q : Row) → In q o.table.volumes → is_making q.name ≡ false
  not_making q i = by (is_making q.name) refl
    where
      nothing : (n : Name) → In n [] → ⊥
      nothing n h = h

      by : (b : Bool) → is_making q.name ≡ b → b ≡ false
      by false is = refl
      by true is = absurd (nothing q.name (subst (In q.name) w.none_making (filter-In is_making (names_of o.table.volumes) q.name (In-map_at (λ (r : Row). r.name) o.table.volumes q i) is)))

  still_past : (vs : List (List ℕ)) → list_all (is_past o.table.sequence) vs ≡ true → list_all (is_past t.sequence) vs ≡ true
  still_past vs = all_past vs o.table.sequence t.sequence w.later

  -- each row is the entry, or passes as one from before does
  each : (test : Row → Bool) (was : Row → Bool) → ((r : Row) → r.name ≡ entry → test r ≡ false) → ((q : Row) → In q o.table.volumes → was q ≡ false)
      → ((q r : Row) → In q o.table.volumes → IsAtLeast u q r → was q ≡ false → test r ≡ false) → (r : Row) → In r t.volumes → test r ≡ false
  each test was out before carries r i = by (from entry u o.table.volumes t.volumes r w.volumes i)
    where
      by : (r.name ≡ entry) ⊎ ((q : Row) × In q o.table.volumes × IsAtLeast u q r) → test r ≡ false
      by (inl is) = out r is
      by (inr k) = carries k.0 r k.1 k.2 (before k.0 k.1)

  -- 6
  record_volume_same : record_volume_fault enlarging ≡ record_volume_fault o
  unfolding record_volume_fault
  record_volume_same = ap (λ b. given (not b) at.Mgt) (by (rows o.table Mgt) (rows t Mgt) refl (near Mgt (λ is. let x = is in cc)))
    where
      by : (x y : Option Row) → rows o.table Mgt ≡ x → Beside u x y → has_records enlarging y ≡ has_records o x
      by None None is k = refl
      by (Some q) (Some r) is k =
          let named = name_eq-true q.name Mgt (row_of-In o.table.volumes Mgt q is).1 in
          ap (λ es. length es == record_extents o.extent) (k.same (λ own. let x = sym named ∙ own in cc))
      by None (Some r) is k = absurd k
      by (Some q) None is k = absurd k

  -- 7
  too_many_same : too_many_fault enlarging ≡ too_many_fault o
  unfolding too_many_fault
  too_many_same =
      ap (λ n. given (nat_lt 500 n) at.Images) (count_same entry u o.table.volumes t.volumes w.volumes (λ r. is_data r.name) (λ q r one. ap is_data one.name) (λ r is. ap is_data is))

  misnamed_as : VolumeTable → Name → Bool
  misnamed_as x n = is_data n && (has_twin x n || not (are_past x n))

  twin_alike : (n : Name) → has_twin t n ≡ has_twin o.table n
  twin_alike (Vhd v) = there_alike (Raw v) (raw_other v)
  twin_alike (Raw v) = there_alike (Vhd v) (vhd_other v)
  twin_alike Mgt = refl
  twin_alike (Old v) = refl
  twin_alike (Cbt v) = refl
  twin_alike (Clone a b c) = refl
  twin_alike (Inflate a b) = refl
  twin_alike (Coalesce a b) = refl
  twin_alike (Relink a b) = refl
  twin_alike (Leaf a b) = refl

  -- a name that is right in a table is right in another that has as many of its UUID, and no less used
  still_named : (x y : VolumeTable) (n : Name) → has_twin y n ≡ has_twin x n → (are_past x n ≡ true → are_past y n ≡ true) → misnamed_as x n ≡ false → misnamed_as y n ≡ false
  unfolding misnamed_as
  still_named x y n twins used ok = by (is_data n) (has_twin x n) (are_past x n) refl refl ok
    where
      by : (d twin past : Bool) → has_twin x n ≡ twin → are_past x n ≡ past → (d && (twin || not past)) ≡ false → (d && (has_twin y n || not (are_past y n))) ≡ false
      by false twin past is_twin is_past_ h = refl
      by true false true is_twin is_past_ h = ap₂ (λ a b. a || not b) (twins ∙ is_twin) (used is_past_)
      by true true past is_twin is_past_ h = absurd (true≢false h)
      by true false false is_twin is_past_ h = absurd (true≢false h)

  misnamed_ok : misnamed_fault o ≡ None → misnamed_fault enlarging ≡ None
  unfolding misnamed_fault misnamed_as
  misnamed_ok ok = none_named at.Image (is_misnamed t) t.volumes (each (is_misnamed t) (is_misnamed o.table) (λ r is. ap (misnamed_as t) is)
      (named_none at.Image (is_misnamed o.table) o.table.volumes ok) (λ q r i one was. ap (misnamed_as t) one.name ∙ still_named o.table t q.name (twin_alike q.name) (still_past (uuids_in q.name)) was))

  -- 8
  second_entry_same : second_entry_fault enlarging ≡ second_entry_fault o
  unfolding second_entry_fault
  second_entry_same =
      ap₂ (λ xs ys. placed at.Journal (lesser (second xs) (second ys))) folding_same making_now
      ∙ sym (ap (λ ys. placed at.Journal (lesser (second (folding o.table)) (second ys))) w.none_making)

  coalescing_alike : (a b : List ℕ) → is_coalescing t a b ≡ is_coalescing o.table a b
  coalescing_alike a b = ap₂ (λ x y. x && y) (hidden_alike (Vhd a) (vhd_other a)) (ap₂ (λ x y. x || y) (hidden_alike (Vhd b) (vhd_other b)) (hidden_alike (Raw b) (raw_other b)))

  copied_alike : (l p : List ℕ) → is_leaf_copied t l p ≡ is_leaf_copied o.table l p
  copied_alike l p = ap₂ (λ x y. x && y) (visible_alike (Vhd l) (vhd_other l)) (ap₂ (λ x y. x && not y) (hidden_alike (Vhd p) (vhd_other p)) (there_alike (Old l) (old_other l)))

  pub renamed_alike : (l p : List ℕ) → is_leaf_renamed t l p ≡ is_leaf_renamed o.table l p
  renamed_alike l p = ap₂ (λ x y. x && y) (there_alike (Old l) (old_other l)) (ap₂ (λ x y. x && y) (hidden_alike (Vhd p) (vhd_other p)) (ap₂ (λ x y. not x && not y) (there_alike (Vhd l) (vhd_other l)) (there_alike (Raw l) (raw_other l))))

  swapped_alike : (l p : List ℕ) → is_leaf_swapped t l p ≡ is_leaf_swapped o.table l p
  swapped_alike l p = ap₂ (λ x y. x && y) (there_alike (Old l) (old_other l)) (ap₂ (λ x y. x && not y) (filled_alike (Vhd l) (vhd_other l)) (there_alike (Vhd p) (vhd_other p)))

  folded_alike : (l p : List ℕ) → is_leaf_folded t l p ≡ is_leaf_folded o.table l p
  folded_alike l p = ap₂ (λ x y. x && y) (visible_alike (Vhd l) (vhd_other l)) (ap₂ (λ x y. not x && not y) (there_alike (Old l) (old_other l)) (there_alike (Vhd p) (vhd_other p)))

  leaf_alike : (l p : List ℕ) → is_folding_leaf t l p ≡ is_folding_leaf o.table l p
  leaf_alike l p = ap₂ (λ x y. x || y) (copied_alike l p) (ap₂ (λ x y. x || y) (renamed_alike l p) (ap₂ (λ x y. x || y) (swapped_alike l p) (folded_alike l p)))

  stage_alike : (n : Name) → is_making n ≡ false → is_at_stage t n ≡ is_at_stage o.table n
  unfolding is_at_stage
  stage_alike Mgt no_making = refl
  stage_alike (Vhd v) no_making = refl
  stage_alike (Raw v) no_making = refl
  stage_alike (Old v) no_making = refl
  stage_alike (Cbt v) no_making = refl
  stage_alike (Clone a b c) no_making = absurd (true≢false no_making)
  stage_alike (Inflate a b) no_making = absurd (true≢false no_making)
  stage_alike (Coalesce a b) no_making = coalescing_alike a b
  stage_alike (Relink a b) no_making = coalescing_alike a b
  stage_alike (Leaf a b) no_making = leaf_alike a b

  -- the entry stands at its stage, and its UUID was used
  entry_stands : misnamed_fault o ≡ None → (is_at_stage t entry && are_past t entry) ≡ true
  unfolding is_at_stage misnamed_fault misnamed_as
  entry_stands ok = ap₂ (λ x y. x && y) (by (rows t (Vhd u)) (subst (λ x. Beside u x (rows t (Vhd u))) w.there (near (Vhd u) (vhd_other u)))) past
    where
      by : (y : Option Row) → Beside u (Some w.own) y → of_row (λ r. not r.fresh && nat_le extents (length r.extents)) y ≡ true
      by None k = absurd k
      by (Some r) k = ap₂ (λ a b. not a && b) (k.fresh ∙ w.filled) (le-leb extents (length r.extents) (let had = w.had in let more = k.more in omega arith))

      own_at : In w.own o.table.volumes × (name_eq w.own.name (Vhd u) ≡ true)
      own_at = row_of-In o.table.volumes (Vhd u) w.own w.there

      right : misnamed_as o.table (Vhd u) ≡ false
      right = subst (λ n. misnamed_as o.table n ≡ false) (name_eq-true w.own.name (Vhd u) own_at.1) (named_none at.Image (is_misnamed o.table) o.table.volumes ok w.own own_at.0)

      past_by : (twin p : Bool) → (twin || not (p && true)) ≡ false → p ≡ true
      past_by false true h = refl
      past_by false false h = absurd (true≢false h)
      past_by true p h = absurd (true≢false h)

      past : are_past t entry ≡ true
      past = still_past (u ∷ []) (ap (λ b. b && true) (past_by (has_twin o.table (Vhd u)) (is_past o.table.sequence u) right))

  lost_as : VolumeTable → Name → Bool
  lost_as x n = is_entry n && not (is_at_stage x n && are_past x n)

  still_found : (x y : VolumeTable) (n : Name) → is_at_stage y n ≡ is_at_stage x n → (are_past x n ≡ true → are_past y n ≡ true) → lost_as x n ≡ false → lost_as y n ≡ false
  unfolding lost_as
  still_found x y n stages used ok = by (is_entry n) (is_at_stage x n) (are_past x n) refl refl ok
    where
      by : (d stage past : Bool) → is_at_stage x n ≡ stage → are_past x n ≡ past → (d && not (stage && past)) ≡ false → (d && not (is_at_stage y n && are_past y n)) ≡ false
      by false stage past is_stage is_past_ h = refl
      by true true true is_stage is_past_ h = ap₂ (λ a b. not (a && b)) (stages ∙ is_stage) (used is_past_)
      by true false past is_stage is_past_ h = absurd (true≢false h)
      by true true false is_stage is_past_ h = absurd (true≢false h)

  lost_entry_ok : misnamed_fault o ≡ None → lost_entry_fault o ≡ None → lost_entry_fault enlarging ≡ None
  unfolding lost_entry_fault lost_as
  lost_entry_ok named ok = none_named at.Journal (is_lost t) t.volumes (each (is_lost t) (is_lost o.table) (λ r is. ap (lost_as t) is ∙ ap not (entry_stands named))
      (named_none at.Journal (is_lost o.table) o.table.volumes ok)
      (λ q r i one was. ap (lost_as t) one.name ∙ still_found o.table t q.name (stage_alike q.name (not_making q i)) (still_past (uuids_in q.name)) was))

  -- 9
  old_alike : (v : List ℕ) (n : Name) → is_old_of t v n ≡ is_old_of o.table v n
  old_alike v (Leaf l p) = ap (λ x. bytes_eq l v && x) (ap₂ (λ x y. x || y) (renamed_alike l p) (swapped_alike l p))
  old_alike v Mgt = refl
  old_alike v (Vhd x) = refl
  old_alike v (Raw x) = refl
  old_alike v (Old x) = refl
  old_alike v (Cbt x) = refl
  old_alike v (Clone a b c) = refl
  old_alike v (Inflate a b) = refl
  old_alike v (Coalesce a b) = refl
  old_alike v (Relink a b) = refl

  orphaned_alike : (n : Name) → is_orphaned t n ≡ is_orphaned o.table n
  orphaned_alike (Old v) = ap (λ ns. not (list_any (is_old_of t v) ns)) folding_same ∙ ap (λ f. not (list_any f (folding o.table))) (fun_ext (old_alike v))
  orphaned_alike (Cbt v) = refl
  orphaned_alike Mgt = refl
  orphaned_alike (Vhd x) = refl
  orphaned_alike (Raw x) = refl
  orphaned_alike (Clone a b c) = refl
  orphaned_alike (Inflate a b) = refl
  orphaned_alike (Coalesce a b) = refl
  orphaned_alike (Relink a b) = refl
  orphaned_alike (Leaf a b) = refl

  old_leaf_ok : old_leaf_fault o ≡ None → old_leaf_fault enlarging ≡ None
  unfolding old_leaf_fault
  old_leaf_ok ok = none_named at.Image (λ r. is_orphaned t r.name) t.volumes (each (λ r. is_orphaned t r.name) (λ r. is_orphaned o.table r.name) (λ r is. ap (is_orphaned t) is)
      (named_none at.Image (λ r. is_orphaned o.table r.name) o.table.volumes ok) (λ q r i one was. ap (is_orphaned t) one.name ∙ orphaned_alike q.name ∙ was))

  -- 10
  wrong_alike : (q r : Row) (n : Name) → IsAtLeast u q r → q.name ≡ n → is_image_wrong enlarging r n ≡ is_image_wrong o q n
  wrong_alike q r (Vhd v) one is = refl
  wrong_alike q r (Raw v) one is = ap (λ es. nat_lt (o.entries * o.block) (span o.extent es)) (one.same (λ own. let x = sym is ∙ own in cc))
  wrong_alike q r Mgt one is = refl
  wrong_alike q r (Old v) one is = refl
  wrong_alike q r (Cbt v) one is = refl
  wrong_alike q r (Clone a b c) one is = refl
  wrong_alike q r (Inflate a b) one is = refl
  wrong_alike q r (Coalesce a b) one is = refl
  wrong_alike q r (Relink a b) one is = refl
  wrong_alike q r (Leaf a b) one is = refl

  and_false : (b : Bool) → (b && false) ≡ false
  and_false true = refl
  and_false false = refl

  invalid_ok : invalid_fault o ≡ None → invalid_fault enlarging ≡ None
  unfolding invalid_fault
  invalid_ok ok = none_named at.Image (is_invalid enlarging) t.volumes (each (is_invalid enlarging) (is_invalid o)
      (λ r is. ap (λ n. not r.fresh && is_image_wrong enlarging r n) is ∙ and_false (not r.fresh))
      (named_none at.Image (is_invalid o) o.table.volumes ok)
      (λ q r i one was. ap (λ n. not r.fresh && is_image_wrong enlarging r n) one.name ∙ ap₂ (λ f b. not f && b) one.fresh (wrong_alike q r q.name one refl) ∙ was))

  -- 11
  children_alike : (p : Name) → length (children enlarging p) ≡ length (children o p)
  unfolding children
  children_alike p = count_same entry u o.table.volumes t.volumes w.volumes (λ r. parent_is p (o.links r.name)) (λ q r one. ap (λ n. parent_is p (o.links n)) one.name)
      (λ r is. ap (λ n. parent_is p (o.links n)) is ∙ ap (parent_is p) w.no_image)

  image_other : (n : Name) (i : Link) → o.links n ≡ Some i → n ≢ entry
  image_other n i is same = none-some i (sym w.no_image ∙ ap o.links (sym same) ∙ is)

  parent_alike : (size : ℕ) (p : Name) → is_parent_right enlarging size p ≡ is_parent_right o size p
  parent_alike size p = by (o.links p) refl
    where
      by : (x : Option Link) → o.links p ≡ x → (is_hidden t p && is_no_larger size x) ≡ (is_hidden o.table p && is_no_larger size x)
      by None is = and_false (is_hidden t p) ∙ sym (and_false (is_hidden o.table p))
      by (Some i) is = ap (λ b. b && is_no_larger size (Some i)) (hidden_alike p (image_other p i is))

  linked_alike : (i : Link) → is_linked enlarging i ≡ is_linked o i
  linked_alike i = by i.parent
    where
      by : (x : Option Name) → elim x as (λ _. Bool) [ None ↦ true | Some p ↦ is_parent_right enlarging i.size p ] ≡ elim x as (λ _. Bool) [ None ↦ true | Some p ↦ is_parent_right o i.size p ]
      by None = refl
      by (Some p) = parent_alike i.size p

  misplaced_alike : (q r : Row) (x : Option Link) → IsAtLeast u q r → is_misplaced enlarging r x ≡ is_misplaced o q x
  misplaced_alike q r None one = refl
  misplaced_alike q r (Some i) one =
      let childless = ap₂ (λ a b. a || (b == 0)) one.hidden (children_alike r.name ∙ ap (λ n. length (children o n)) one.name) in
      let short = ap₂ (λ a b. nat_le a 30 && b) (chain_alike o t 31 r.name ∙ ap (chain_length o 31) one.name) childless in
      ap₂ (λ a b. not (a && b)) (linked_alike i) short

  pub tree_alike : (q r : Row) (n : Name) → IsAtLeast u q r → tree_wrong_as enlarging r n ≡ tree_wrong_as o q n
  tree_alike q r (Vhd v) one = misplaced_alike q r (o.links (Vhd v)) one
  tree_alike q r (Raw v) one = refl
  tree_alike q r Mgt one = refl
  tree_alike q r (Old v) one = refl
  tree_alike q r (Cbt v) one = refl
  tree_alike q r (Clone a b c) one = refl
  tree_alike q r (Inflate a b) one = refl
  tree_alike q r (Coalesce a b) one = refl
  tree_alike q r (Relink a b) one = refl
  tree_alike q r (Leaf a b) one = refl

  tree_ok : tree_fault o ≡ None → tree_fault enlarging ≡ None
  unfolding tree_fault
  tree_ok ok = none_named at.Tree (is_tree_wrong enlarging) t.volumes (each (is_tree_wrong enlarging) (is_tree_wrong o) (λ r is. ap (tree_wrong_as enlarging r) is)
      (named_none at.Tree (is_tree_wrong o) o.table.volumes ok) (λ q r i one was. ap (tree_wrong_as enlarging r) one.name ∙ tree_alike q r q.name one ∙ was))

  -- 12
  children_of_alike : (v : List ℕ) → length (children_with enlarging v) ≡ length (children_with o v)
  children_of_alike v =
      length-append (children enlarging (Vhd v)) (children enlarging (Raw v)) ∙ ap₂ (λ a b. a + b) (children_alike (Vhd v)) (children_alike (Raw v)) ∙ sym (length-append (children o (Vhd v)) (children o (Raw v)))

  leaf_linked_alike : (l p : List ℕ) → is_leaf_linked enlarging l p ≡ is_leaf_linked o l p
  leaf_linked_alike l p =
      let swapped = ap₂ (λ a n. cond a (n == 0) true) (swapped_alike l p) (children_alike (Vhd l)) in
      let renamed = ap₂ (λ a b. cond a (length (children enlarging (Vhd p)) == 0) b) (renamed_alike l p) swapped in
      ap₂ (λ a b. cond a (parent_is (Vhd p) (o.links (Vhd l)) && (length (children enlarging (Vhd p)) == 1)) b) (copied_alike l p) renamed
      ∙ ap (λ n. cond (is_leaf_copied o.table l p) (parent_is (Vhd p) (o.links (Vhd l)) && (n == 1)) (cond (is_leaf_renamed o.table l p) (n == 0) (cond (is_leaf_swapped o.table l p) (length (children o (Vhd l)) == 0) true))) (children_alike (Vhd p))

  entry_alike : (n : Name) → is_making n ≡ false → is_entry_linked enlarging n ≡ is_entry_linked o n
  unfolding is_entry_linked
  entry_alike Mgt no_making = refl
  entry_alike (Vhd v) no_making = refl
  entry_alike (Raw v) no_making = refl
  entry_alike (Old v) no_making = refl
  entry_alike (Cbt v) no_making = refl
  entry_alike (Clone a b c) no_making = absurd (true≢false no_making)
  entry_alike (Inflate a b) no_making = absurd (true≢false no_making)
  entry_alike (Coalesce a b) no_making = ap (λ k. has_parent_of o a b (λ v p. true) && (k == 1)) (children_of_alike b)
  entry_alike (Relink a b) no_making = refl
  entry_alike (Leaf a b) no_making = leaf_linked_alike a b

  entry_link_ok : entry_link_fault o ≡ None → entry_link_fault enlarging ≡ None
  unfolding entry_link_fault is_entry_linked
  entry_link_ok ok = none_named at.Journal (λ r. not (is_entry_linked enlarging r.name)) t.volumes (each (λ r. not (is_entry_linked enlarging r.name)) (λ r. not (is_entry_linked o r.name))
      (λ r is. ap (λ n. not (is_entry_linked enlarging n)) is)
      (named_none at.Journal (λ r. not (is_entry_linked o r.name)) o.table.volumes ok)
      (λ q r i one was. ap (λ n. not (is_entry_linked enlarging n)) one.name ∙ ap not (entry_alike q.name (not_making q i)) ∙ was))

  -- 13
  pub uuids_alike : uuids t ≡ uuids o.table
  unfolding uuids
  uuids_alike = ap in_order (flat_same entry u (λ r. candidates r.name) (λ q r one. ap candidates one.name) o.table.volumes t.volumes w.volumes (λ r is. ap candidates is))

  folded_stands : (x : Name) (v : List ℕ) (p q : Option Name) → p ≡ q → stands_folded t x v p ≡ stands_folded o.table x v q
  folded_stands (Leaf l p) v x y same =
      ap₂ (λ a b. cond (bytes_eq v l && a) (Some (Vhd p)) b) (renamed_alike l p) (ap₂ (λ a b. cond (bytes_eq v l && a) (Some (Vhd l)) b) (swapped_alike l p) same)
  folded_stands Mgt v p q same = same
  folded_stands (Vhd x) v p q same = same
  folded_stands (Raw x) v p q same = same
  folded_stands (Old x) v p q same = same
  folded_stands (Cbt x) v p q same = same
  folded_stands (Clone a b c) v p q same = same
  folded_stands (Inflate a b) v p q same = same
  folded_stands (Coalesce a b) v p q same = same
  folded_stands (Relink a b) v p q same = same

  -- each disk stands where it stood
  pub stands_alike : (v : List ℕ) → standing_volume t v ≡ standing_volume o.table v
  unfolding standing_volume
  stands_alike v =
      ap (λ ns. under (λ x. stands_forked t x v) (head ns) (under (λ x. stands_folded t x v) (head (folding t)) (stands_plainly t v))) making_now
      ∙ ap (λ ns. under (λ x. stands_folded t x v) (head ns) (stands_plainly t v)) folding_same
      ∙ by (head (folding o.table))
      ∙ sym (ap (λ ns. under (λ x. stands_forked o.table x v) (head ns) (under (λ x. stands_folded o.table x v) (head (folding o.table)) (stands_plainly o.table v))) w.none_making)
    where
      plainly : stands_plainly t v ≡ stands_plainly o.table v
      plainly = ap₂ (λ a b. cond a (Some (Vhd v)) (cond b (Some (Raw v)) None)) (visible_alike (Vhd v) (vhd_other v)) (visible_alike (Raw v) (raw_other v))

      by : (x : Option Name) → under (λ x. stands_folded t x v) x (stands_plainly t v) ≡ under (λ x. stands_folded o.table x v) x (stands_plainly o.table v)
      by None = plainly
      by (Some x) = folded_stands x v (stands_plainly t v) (stands_plainly o.table v) plainly

  disk_same : disk_fault enlarging ≡ disk_fault o
  unfolding disk_fault outline_records
  disk_same =
      ap (λ us. disk_place (find (is_unrecorded o) (filter (λ v. is_some (standing_volume t v)) us))) uuids_alike
      ∙ ap (λ f. disk_place (find (is_unrecorded o) (filter f (uuids o.table)))) (fun_ext (λ v. ap is_some (stands_alike v)))

  -- no check fails
  pub enlarging_sound : fault_of o ≡ None → fault_of enlarging ≡ None
  unfolding fault_of record_fault
  enlarging_sound sound = first_none (all_faults enlarging) pass
    where
      was : (f : Option Place) → In f (all_faults o) → f ≡ None
      was = none_first (all_faults o) sound

      named : misnamed_fault o ≡ None
      named = was (misnamed_fault o) (inr (inr (inl refl)))

      pass : (f : Option Place) → In f (all_faults enlarging) → f ≡ None
      pass f (inl is) = is ∙ record_volume_same ∙ was _ (inl refl)
      pass f (inr (inl is)) = is ∙ too_many_same ∙ was _ (inr (inl refl))
      pass f (inr (inr (inl is))) = is ∙ misnamed_ok named
      pass f (inr (inr (inr (inl is)))) = is ∙ second_entry_same ∙ was _ (inr (inr (inr (inl refl))))
      pass f (inr (inr (inr (inr (inl is))))) = is ∙ lost_entry_ok named (was _ (inr (inr (inr (inr (inl refl))))))
      pass f (inr (inr (inr (inr (inr (inl is)))))) = is ∙ old_leaf_ok (was _ (inr (inr (inr (inr (inr (inl refl)))))))
      pass f (inr (inr (inr (inr (inr (inr (inl is))))))) = is ∙ invalid_ok (was _ (inr (inr (inr (inr (inr (inr (inl refl))))))))
      pass f (inr (inr (inr (inr (inr (inr (inr (inl is)))))))) = is ∙ tree_ok (was _ (inr (inr (inr (inr (inr (inr (inr (inl refl)))))))))
      pass f (inr (inr (inr (inr (inr (inr (inr (inr (inl is))))))))) = is ∙ entry_link_ok (was _ (inr (inr (inr (inr (inr (inr (inr (inr (inl refl))))))))))
      pass f (inr (inr (inr (inr (inr (inr (inr (inr (inr (inl is)))))))))) = is ∙ was _ (inr (inr (inr (inr (inr (inr (inr (inr (inr (inl refl))))))))))
      pass f (inr (inr (inr (inr (inr (inr (inr (inr (inr (inr (inl is))))))))))) = is ∙ disk_same ∙ was _ (inr (inr (inr (inr (inr (inr (inr (inr (inr (inr (inl refl)))))))))))
      pass f (inr (inr (inr (inr (inr (inr (inr (inr (inr (inr (inr none))))))))))) = absurd none

  -- nor did one fail without it where none does, if no UUID was used since
  module _ (used : t.sequence ≤ o.table.sequence) where
    past_before : (vs : List (List ℕ)) → list_all (is_past t.sequence) vs ≡ true → list_all (is_past o.table.sequence) vs ≡ true
    past_before vs = all_past vs t.sequence o.table.sequence used

    -- each row from before passes as the one that it is now does
    each_before : (test was : Row → Bool) → ((r : Row) → In r t.volumes → test r ≡ false) → ((q r : Row) → In q o.table.volumes → IsAtLeast u q r → test r ≡ false → was q ≡ false)
        → (q : Row) → In q o.table.volumes → was q ≡ false
    each_before test was now carries q i = let k = into entry u o.table.volumes t.volumes q w.volumes i in carries q k.0 i k.2 (now k.0 k.1)

    misnamed_before : misnamed_fault enlarging ≡ None → misnamed_fault o ≡ None
    unfolding misnamed_fault misnamed_as
    misnamed_before ok = none_named at.Image (is_misnamed o.table) o.table.volumes (each_before (is_misnamed t) (is_misnamed o.table) (named_none at.Image (is_misnamed t) t.volumes ok)
        (λ q r i one now. still_named t o.table q.name (sym (twin_alike q.name)) (past_before (uuids_in q.name)) (sym (ap (misnamed_as t) one.name) ∙ now)))

    lost_entry_before : lost_entry_fault enlarging ≡ None → lost_entry_fault o ≡ None
    unfolding lost_entry_fault lost_as
    lost_entry_before ok = none_named at.Journal (is_lost o.table) o.table.volumes (each_before (is_lost t) (is_lost o.table) (named_none at.Journal (is_lost t) t.volumes ok)
        (λ q r i one now. still_found t o.table q.name (sym (stage_alike q.name (not_making q i))) (past_before (uuids_in q.name)) (sym (ap (lost_as t) one.name) ∙ now)))

    old_leaf_before : old_leaf_fault enlarging ≡ None → old_leaf_fault o ≡ None
    unfolding old_leaf_fault
    old_leaf_before ok = none_named at.Image (λ r. is_orphaned o.table r.name) o.table.volumes
        (each_before (λ r. is_orphaned t r.name) (λ r. is_orphaned o.table r.name) (named_none at.Image (λ r. is_orphaned t r.name) t.volumes ok)
        (λ q r i one now. sym (orphaned_alike q.name) ∙ sym (ap (is_orphaned t) one.name) ∙ now))

    invalid_before : invalid_fault enlarging ≡ None → invalid_fault o ≡ None
    unfolding invalid_fault
    invalid_before ok = none_named at.Image (is_invalid o) o.table.volumes (each_before (is_invalid enlarging) (is_invalid o) (named_none at.Image (is_invalid enlarging) t.volumes ok)
        (λ q r i one now. sym (ap (λ n. not r.fresh && is_image_wrong enlarging r n) one.name ∙ ap₂ (λ f b. not f && b) one.fresh (wrong_alike q r q.name one refl)) ∙ now))

    tree_before : tree_fault enlarging ≡ None → tree_fault o ≡ None
    unfolding tree_fault
    tree_before ok = none_named at.Tree (is_tree_wrong o) o.table.volumes (each_before (is_tree_wrong enlarging) (is_tree_wrong o) (named_none at.Tree (is_tree_wrong enlarging) t.volumes ok)
        (λ q r i one now. sym (ap (tree_wrong_as enlarging r) one.name ∙ tree_alike q r q.name one) ∙ now))

    entry_link_before : entry_link_fault enlarging ≡ None → entry_link_fault o ≡ None
    unfolding entry_link_fault
    entry_link_before ok = none_named at.Journal (λ r. not (is_entry_linked o r.name)) o.table.volumes
        (each_before (λ r. not (is_entry_linked enlarging r.name)) (λ r. not (is_entry_linked o r.name)) (named_none at.Journal (λ r. not (is_entry_linked enlarging r.name)) t.volumes ok)
        (λ q r i one now. sym (ap (λ n. not (is_entry_linked enlarging n)) one.name ∙ ap not (entry_alike q.name (not_making q i))) ∙ now))

    pub sound_before : fault_of enlarging ≡ None → fault_of o ≡ None
    unfolding fault_of record_fault
    sound_before sound = first_none (all_faults o) pass
      where
        now : (f : Option Place) → In f (all_faults enlarging) → f ≡ None
        now = none_first (all_faults enlarging) sound

        pass : (f : Option Place) → In f (all_faults o) → f ≡ None
        pass f (inl is) = is ∙ sym record_volume_same ∙ now _ (inl refl)
        pass f (inr (inl is)) = is ∙ sym too_many_same ∙ now _ (inr (inl refl))
        pass f (inr (inr (inl is))) = is ∙ misnamed_before (now _ (inr (inr (inl refl))))
        pass f (inr (inr (inr (inl is)))) = is ∙ sym second_entry_same ∙ now _ (inr (inr (inr (inl refl))))
        pass f (inr (inr (inr (inr (inl is))))) = is ∙ lost_entry_before (now _ (inr (inr (inr (inr (inl refl))))))
        pass f (inr (inr (inr (inr (inr (inl is)))))) = is ∙ old_leaf_before (now _ (inr (inr (inr (inr (inr (inl refl)))))))
        pass f (inr (inr (inr (inr (inr (inr (inl is))))))) = is ∙ invalid_before (now _ (inr (inr (inr (inr (inr (inr (inl refl))))))))
        pass f (inr (inr (inr (inr (inr (inr (inr (inl is)))))))) = is ∙ tree_before (now _ (inr (inr (inr (inr (inr (inr (inr (inl refl)))))))))
        pass f (inr (inr (inr (inr (inr (inr (inr (inr (inl is))))))))) = is ∙ entry_link_before (now _ (inr (inr (inr (inr (inr (inr (inr (inr (inl refl))))))))))
        pass f (inr (inr (inr (inr (inr (inr (inr (inr (inr (inl is)))))))))) = is ∙ now _ (inr (inr (inr (inr (inr (inr (inr (inr (inr (inl refl))))))))))
        pass f (inr (inr (inr (inr (inr (inr (inr (inr (inr (inr (inl is))))))))))) = is ∙ sym disk_same ∙ now _ (inr (inr (inr (inr (inr (inr (inr (inr (inr (inr (inl refl)))))))))))
        pass f (inr (inr (inr (inr (inr (inr (inr (inr (inr (inr (inr none))))))))))) = absurd none
