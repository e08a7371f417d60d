-- A disk stands in an image of its own, so that no more logs are of disks than there may be images.
use Rattle.std.proofs.Common.{◌≡◌, ◌≢◌, ◌⊎◌, inl, inr, ⊎_elim, ℕ, ◌≤◌, Bool, true, false, not, ◌&&◌, ◌||◌, cond, List, [], ◌∷◌, length, map, Option, Some, None, is_some, refl, sym, ap, ap₂, ◌∙◌, subst, arith}
use Rattle.std.specs.List.{list_any}
use Rattle.std.specs.Str.{bytes_eq}
use Rattle.std.proofs.lemmas.Bool.{and_parts, true≢false}
use Rattle.std.proofs.lemmas.Cmp.{nat_list_cmp_total}
use Rattle.std.proofs.lemmas.List.{length-map}
use Rattle.std.proofs.lemmas.Option.{none-some, same_Some}
use Rattle.common_laws.specs.Lists.{Distinct, In}
use Rattle.common_laws.proofs.Booleans.{not_true}
use Rattle.common_laws.proofs.Bytes.{bytes_eq-refl, bytes_eq-same}
use Rattle.common_laws.proofs.Lists.{In-map, In-map_at, filter-In}
use Rattle.common_laws.proofs.Options.{is_some-parts}
use Rattle.sm_base.specs.Kinds.{is_image}
use Rattle.sm_base.specs.declared.names.Name.{Name}
use Rattle.sm_base.specs.declared.names.Name.TheVariants.{Mgt, Vhd, Raw, Old, Cbt, Clone, Inflate, Coalesce, Relink, Leaf}
use Rattle.vg_meta.specs.Tables.{Row, VolumeTable, name_eq, rows}
use Rattle.vg_meta.proofs.NameLaws.{name_eq-other, name_eq-same, name_eq-true}
use Rattle.vg_meta.proofs.RowLaws.{row_of-name}
use Rattle.vg_volumes.specs.Sites.{Site}
use Rattle.sm_machine.specs.Shapes.{image_uuid}
use Rattle.sm_standing.specs.Checks.{images}
use Rattle.sm_standing.specs.Dropped.{dropped}
use Rattle.sm_standing.specs.Entries.{folding, head, image_with, is_among, is_filled, is_hidden, is_leaf_renamed, is_leaf_swapped, is_there, is_visible, making, of_row, uuids_in}
use Rattle.sm_standing.specs.Ordered.{Rising, uuid_cmp}
use Rattle.sm_standing.specs.Standing.{standing_volume, stands_folded, stands_forked, stands_plainly, under}
use Rattle.sm_standing.proofs.DisksShown.{row_of-In}
use Rattle.sm_standing.proofs.Orders.{not_itself}
use Rattle.vhd_chain.specs.declared.rows.TreeRow.{TreeRow}
use Rattle.sm_ready.proofs.UseLaws.{no_more}
use Rattle.sm_log_reading.specs.declared.logs.DiskPieces.{DiskPieces}
use Rattle.sm_checks.specs.Openable.{IsOpenable}
use Rattle.sm_checks.proofs.EntryLaws.{apart_folding, base_found, fork_found, staged_open}
use Rattle.sm_recover.specs.Repairs.{HasFewLogs}
use Rattle.sm_recover.specs.Tracked.{logged_disks}
use Rattle.sm_recover.proofs.TrackedLaws.{few_left, in_order, listed}

-- ---- the disk that stands in an image

-- by the entry of a leaf
abbrev fold_owner : VolumeTable → Option Name → Name → List ℕ
fold_owner t (Some (Leaf l p)) n = cond (is_leaf_renamed t l p && name_eq n (Vhd p)) l (image_uuid n)
fold_owner t None n = image_uuid n
fold_owner t (Some Mgt) n = image_uuid n
fold_owner t (Some (Vhd v)) n = image_uuid n
fold_owner t (Some (Raw v)) n = image_uuid n
fold_owner t (Some (Old v)) n = image_uuid n
fold_owner t (Some (Cbt v)) n = image_uuid n
fold_owner t (Some (Clone d b w)) n = image_uuid n
fold_owner t (Some (Inflate v e)) n = image_uuid n
fold_owner t (Some (Coalesce v p)) n = image_uuid n
fold_owner t (Some (Relink v p)) n = image_uuid n

abbrev is_base : Option Name → Name → Bool
is_base None n = false
is_base (Some m) n = name_eq n m

-- and by that of a fork
abbrev fork_owner : VolumeTable → Option Name → Name → List ℕ → List ℕ
fork_owner t (Some (Clone d b w)) n rest = cond (is_base (image_with t b) n) d rest
fork_owner t None n rest = rest
fork_owner t (Some Mgt) n rest = rest
fork_owner t (Some (Vhd v)) n rest = rest
fork_owner t (Some (Raw v)) n rest = rest
fork_owner t (Some (Old v)) n rest = rest
fork_owner t (Some (Cbt v)) n rest = rest
fork_owner t (Some (Inflate v e)) n rest = rest
fork_owner t (Some (Coalesce v p)) n rest = rest
fork_owner t (Some (Relink v p)) n rest = rest
fork_owner t (Some (Leaf l p)) n rest = rest

-- where a UUID stands that no fork speaks of
record IsPlaced (t : VolumeTable) (o : Option Name) (u : List ℕ) (n : Name) : Type 0 where
  there : is_there t n ≡ true
  image : is_image n ≡ true
  owner : fold_owner t o n ≡ u
  kind : ((n ≡ Vhd u) ⊎ (n ≡ Raw u)) ⊎ ((p : List ℕ) × (o ≡ Some (Leaf u p)) × (n ≡ Vhd p))

seen_there : (o : Option Row) (test : Row → Bool) → of_row test o ≡ true → is_some o ≡ true
seen_there None test e = absurd (true≢false (sym e))
seen_there (Some r) test e = refl

not_both : (o : Option Row) → of_row (λ r. not r.hidden && not r.fresh) o ≡ true → of_row (λ r. r.hidden && not r.fresh) o ≡ true → ⊥
not_both None a b = true≢false (sym a)
not_both (Some r) a b = by r.hidden a b
  where
    by : (h : Bool) → (not h && not r.fresh) ≡ true → (h && not r.fresh) ≡ true → ⊥
    by true a b = true≢false (sym a)
    by false a b = true≢false (sym b)

module _ (t : VolumeTable) where
  record IsPlain (u : List ℕ) (n : Name) : Type 0 where
    visible : is_visible t n ≡ true
    named : (n ≡ Vhd u) ⊎ (n ≡ Raw u)

  plain_at : (u : List ℕ) (n : Name) → stands_plainly t u ≡ Some n → IsPlain u n
  plain_at u n e = by (is_visible t (Vhd u)) (is_visible t (Raw u)) refl refl e
    where
      by : (a b : Bool) → is_visible t (Vhd u) ≡ a → is_visible t (Raw u) ≡ b → cond a (Some (Vhd u)) (cond b (Some (Raw u)) None) ≡ Some n → IsPlain u n
      by true b vhd raw e = let is = same_Some (Vhd u) n e in record { visible = subst (λ m. is_visible t m ≡ true) is vhd; named = inl (sym is) }
      by false true vhd raw e = let is = same_Some (Raw u) n e in record { visible = subst (λ m. is_visible t m ≡ true) is raw; named = inr (sym is) }
      by false false vhd raw e = absurd (none-some n e)

  uuid_named : (u : List ℕ) (n : Name) → (n ≡ Vhd u) ⊎ (n ≡ Raw u) → (image_uuid n ≡ u) × (is_image n ≡ true)
  unfolding image_uuid
  uuid_named u n (inl is) = (ap image_uuid is, ap is_image is)
  uuid_named u n (inr is) = (ap image_uuid is, ap is_image is)

  plainly : (o : Option Name) (u : List ℕ) (n : Name) → (fold_owner t o n ≡ image_uuid n) → IsPlain u n → IsPlaced t o u n
  plainly o u n same p =
      let k = uuid_named u n p.named in
      record { there = seen_there (rows t n) _ p.visible; image = k.1; owner = same ∙ k.0; kind = inl p.named }

  -- under the entry of a leaf
  under_leaf : (l p u : List ℕ) (n : Name) → stands_folded t (Leaf l p) u (stands_plainly t u) ≡ Some n → IsPlaced t (Some (Leaf l p)) u n
  unfolding image_uuid
  under_leaf l p u n e = by (bytes_eq u l) (is_leaf_renamed t l p) (is_leaf_swapped t l p) refl refl refl e
    where
      hidden : is_leaf_renamed t l p ≡ true → is_hidden t (Vhd p) ≡ true
      hidden renamed =
          let later = not (is_there t (Vhd l)) && not (is_there t (Raw l)) in
          (and_parts (is_hidden t (Vhd p)) later (and_parts (is_there t (Old l)) (is_hidden t (Vhd p) && later) renamed).1).0

      filled : is_leaf_swapped t l p ≡ true → is_filled t (Vhd l) ≡ true
      filled swapped =
          let later = not (is_there t (Vhd p)) in
          (and_parts (is_filled t (Vhd l)) later (and_parts (is_there t (Old l)) (is_filled t (Vhd l) && later) swapped).1).0

      other : IsPlain u n → IsPlaced t (Some (Leaf l p)) u n
      other k = plainly (Some (Leaf l p)) u n (of (is_leaf_renamed t l p) (name_eq n (Vhd p)) refl refl) k
        where
          of : (a b : Bool) → is_leaf_renamed t l p ≡ a → name_eq n (Vhd p) ≡ b → cond (a && b) l (image_uuid n) ≡ image_uuid n
          of false b renamed same = refl
          of true false renamed same = refl
          of true true renamed same = absurd (not_both (rows t (Vhd p)) (subst (λ m. is_visible t m ≡ true) (name_eq-true n (Vhd p) same) k.visible) (hidden renamed))

      by : (a b x : Bool) → bytes_eq u l ≡ a → is_leaf_renamed t l p ≡ b → is_leaf_swapped t l p ≡ x → cond (a && b) (Some (Vhd p)) (cond (a && x) (Some (Vhd l)) (stands_plainly t u)) ≡ Some n → IsPlaced t (Some (Leaf l p)) u n
      by true true x own renamed swapped e =
          let is : n ≡ Vhd p = sym (same_Some (Vhd p) n e) in
          let same = bytes_eq-same u l own in
          record {
            there = ap (is_there t) is ∙ seen_there (rows t (Vhd p)) _ (hidden renamed);
            image = ap is_image is;
            owner = ap₂ (λ a b. cond (a && b) l (image_uuid n)) renamed (name_eq-same n (Vhd p) is) ∙ sym same;
            kind = inr (p, ap (λ v. Some (Leaf v p)) (sym same), is);
          }
      by true false true own renamed swapped e =
          let is : n ≡ Vhd l = sym (same_Some (Vhd l) n e) in
          let same = bytes_eq-same u l own in
          record {
            there = ap (is_there t) is ∙ seen_there (rows t (Vhd l)) _ (filled swapped);
            image = ap is_image is;
            owner = ap (λ a. cond (a && name_eq n (Vhd p)) l (image_uuid n)) renamed ∙ ap image_uuid is ∙ sym same;
            kind = inl (inl (is ∙ ap Vhd (sym same)));
          }
      by true false false own renamed swapped e = other (plain_at u n e)
      by false b x own renamed swapped e = other (plain_at u n e)

  folded : (o : Option Name) (u : List ℕ) (n : Name) → under (λ e. stands_folded t e u) o (stands_plainly t u) ≡ Some n → IsPlaced t o u n
  folded (Some (Leaf l p)) u n e = under_leaf l p u n e
  folded None u n e = plainly None u n refl (plain_at u n e)
  folded (Some Mgt) u n e = plainly (Some Mgt) u n refl (plain_at u n e)
  folded (Some (Vhd v)) u n e = plainly (Some (Vhd v)) u n refl (plain_at u n e)
  folded (Some (Raw v)) u n e = plainly (Some (Raw v)) u n refl (plain_at u n e)
  folded (Some (Old v)) u n e = plainly (Some (Old v)) u n refl (plain_at u n e)
  folded (Some (Cbt v)) u n e = plainly (Some (Cbt v)) u n refl (plain_at u n e)
  folded (Some (Clone d b w)) u n e = plainly (Some (Clone d b w)) u n refl (plain_at u n e)
  folded (Some (Inflate v k)) u n e = plainly (Some (Inflate v k)) u n refl (plain_at u n e)
  folded (Some (Coalesce v p)) u n e = plainly (Some (Coalesce v p)) u n refl (plain_at u n e)
  folded (Some (Relink v p)) u n e = plainly (Some (Relink v p)) u n refl (plain_at u n e)

-- where any UUID stands
record IsOwned (t : VolumeTable) (u : List ℕ) (n : Name) : Type 0 where
  there : is_there t n ≡ true
  image : is_image n ≡ true
  owner : fork_owner t (head (making t)) n (fold_owner t (head (folding t)) n) ≡ u

module _ {s : Site} {t : VolumeTable} (c : IsOpenable s t) where
  -- a fork's base is no parent of a leaf that is being folded
  base_apart : (d b w : List ℕ) → head (making t) ≡ Some (Clone d b w) → (l p : List ℕ) → head (folding t) ≡ Some (Leaf l p) → b ≢ p
  base_apart d b w forks l p folds same = by (is_among (d ∷ b ∷ w ∷ []) l) (bytes_eq d p) (sym (ap (λ o. list_any (is_among (d ∷ b ∷ w ∷ [])) (elim o as (λ _. List (List ℕ)) [ None ↦ [] | Some n ↦ uuids_in n ])) folds)
      ∙ not_true _ (apart_folding (fork_found d b w (staged_open c) forks)))
    where
      met : (bytes_eq b p || (bytes_eq w p || false)) ≡ true
      met = ap (λ x. x || (bytes_eq w p || false)) (ap (λ v. bytes_eq v p) same ∙ bytes_eq-refl p)

      by : (x y : Bool) → (x || ((y || (bytes_eq b p || (bytes_eq w p || false))) || false)) ≡ false → ⊥
      by true y e = true≢false e
      by false true e = true≢false e
      by false false e = true≢false (sym (ap (λ z. z || false) met) ∙ e)

  owned : (u : List ℕ) (n : Name) → standing_volume t u ≡ Some n → IsOwned t u n
  unfolding standing_volume
  owned u n e = by (head (making t)) refl e
    where
      free : (o : Option Name) → head (making t) ≡ o → (fork_owner t o n (fold_owner t (head (folding t)) n) ≡ fold_owner t (head (folding t)) n) → under (λ e. stands_folded t e u) (head (folding t)) (stands_plainly t u) ≡ Some n → IsOwned t u n
      free o found same e =
          let k = folded t (head (folding t)) u n e in
          record { there = k.there; image = k.image; owner = ap (λ q. fork_owner t q n (fold_owner t (head (folding t)) n)) found ∙ same ∙ k.owner }

      forked : (d b w : List ℕ) → head (making t) ≡ Some (Clone d b w) → (x y z : Bool) → bytes_eq u d ≡ x → bytes_eq u b ≡ y → (o : Option Name) → image_with t b ≡ o
          → cond x (elim o as (λ _. Option Name) [ None ↦ under (λ e. stands_folded t e u) (head (folding t)) (stands_plainly t u) | Some m ↦ Some m ]) (cond (y || z) None (under (λ e. stands_folded t e u) (head (folding t)) (stands_plainly t u))) ≡ Some n → IsOwned t u n
      forked d b w found true y z own base None none e = free (Some (Clone d b w)) found (ap (λ o. cond (is_base o n) d (fold_owner t (head (folding t)) n)) none) e
      forked d b w found true y z own base (Some m) there e =
          let is : m ≡ n = same_Some m n e in
          let k = base_found t b m there in
          record {
            there = ap (is_there t) (sym is) ∙ ap is_some k.there;
            image = ap is_image (sym is) ∙ ⊎_elim (λ h. ap is_image h) (λ h. ap is_image h) k.name;
            owner = ap (λ q. fork_owner t q n (fold_owner t (head (folding t)) n)) found
                ∙ ap (λ o. cond (is_base o n) d (fold_owner t (head (folding t)) n)) there
                ∙ ap (λ q. cond q d (fold_owner t (head (folding t)) n)) (name_eq-same n m (sym is)) ∙ sym (bytes_eq-same u d own);
          }
      forked d b w found false true z own base o there e = absurd (none-some n e)
      forked d b w found false false true own base o there e = absurd (none-some n e)
      forked d b w found false false false own base o there e =
          let k = folded t (head (folding t)) u n e in
          free (Some (Clone d b w)) found (not_base o there k) e
        where
          unlike : u ≢ b
          unlike same = true≢false (sym (bytes_eq-refl u) ∙ ap (bytes_eq u) same ∙ base)

          apart : (m : Name) → (m ≡ Vhd b) ⊎ (m ≡ Raw b) → ((n ≡ Vhd u) ⊎ (n ≡ Raw u)) ⊎ ((p : List ℕ) × (head (folding t) ≡ Some (Leaf u p)) × (n ≡ Vhd p)) → n ≢ m
          apart m (inl a) (inl (inl h)) same = unlike (let x : Vhd u ≡ Vhd b = sym h ∙ same ∙ a in cc)
          apart m (inl a) (inl (inr h)) same = let x : Raw u ≡ Vhd b = sym h ∙ same ∙ a in cc
          apart m (inr a) (inl (inl h)) same = let x : Vhd u ≡ Raw b = sym h ∙ same ∙ a in cc
          apart m (inr a) (inl (inr h)) same = unlike (let x : Raw u ≡ Raw b = sym h ∙ same ∙ a in cc)
          apart m (inl a) (inr (p, folds, h)) same = base_apart d b w found u p folds (let x : Vhd p ≡ Vhd b = sym h ∙ same ∙ a in let y : p ≡ b = cc in sym y)
          apart m (inr a) (inr (p, folds, h)) same = let x : Vhd p ≡ Raw b = sym h ∙ same ∙ a in cc

          not_base : (o : Option Name) → image_with t b ≡ o → IsPlaced t (head (folding t)) u n → cond (is_base (image_with t b) n) d (fold_owner t (head (folding t)) n) ≡ fold_owner t (head (folding t)) n
          not_base None none k = ap (λ o. cond (is_base o n) d (fold_owner t (head (folding t)) n)) none
          not_base (Some m) there k =
              ap (λ o. cond (is_base o n) d (fold_owner t (head (folding t)) n)) there
              ∙ ap (λ q. cond q d (fold_owner t (head (folding t)) n)) (name_eq-other n m (apart m (base_found t b m there).name k.kind))

      by : (o : Option Name) → head (making t) ≡ o → under (λ e. stands_forked t e u) o (under (λ e. stands_folded t e u) (head (folding t)) (stands_plainly t u)) ≡ Some n → IsOwned t u n
      by (Some (Clone d b w)) found e = forked d b w found (bytes_eq u d) (bytes_eq u b) (bytes_eq u w) refl refl (image_with t b) refl e
      by None found e = free None found refl e
      by (Some Mgt) found e = free (Some Mgt) found refl e
      by (Some (Vhd v)) found e = free (Some (Vhd v)) found refl e
      by (Some (Raw v)) found e = free (Some (Raw v)) found refl e
      by (Some (Old v)) found e = free (Some (Old v)) found refl e
      by (Some (Cbt v)) found e = free (Some (Cbt v)) found refl e
      by (Some (Inflate v k)) found e = free (Some (Inflate v k)) found refl e
      by (Some (Coalesce v p)) found e = free (Some (Coalesce v p)) found refl e
      by (Some (Relink v p)) found e = free (Some (Relink v p)) found refl e
      by (Some (Leaf l p)) found e = free (Some (Leaf l p)) found refl e

  -- so there are no more disks than images
  among_owners : (u : List ℕ) → is_some (standing_volume t u) ≡ true → In u (map (λ (r : Row). fork_owner t (head (making t)) r.name (fold_owner t (head (folding t)) r.name)) (images t))
  among_owners u stands =
      let n = is_some-parts (standing_volume t u) stands in
      let k = owned u n.0 n.1 in
      let r = is_some-parts (rows t n.0) k.there in
      let named : r.0.name ≡ n.0 = row_of-name t.volumes n.0 r.0 r.1 in
      let i = filter-In (λ (q : Row). is_image q.name) t.volumes r.0 (row_of-In t.volumes n.0 r.0 r.1).0 (ap is_image named ∙ k.image) in
      subst (λ v. In v (map (λ (r : Row). fork_owner t (head (making t)) r.name (fold_owner t (head (folding t)) r.name)) (images t)))
      (ap (λ m. fork_owner t (head (making t)) m (fold_owner t (head (folding t)) m)) named ∙ k.owner)
      (In-map_at (λ (r : Row). fork_owner t (head (making t)) r.name (fold_owner t (head (folding t)) r.name)) (images t) r.0 i)

  distinct : (us : List (List ℕ)) → Rising uuid_cmp us → Distinct us
  distinct [] rising = tt
  distinct (u ∷ us) rising = ((λ i. not_itself uuid_cmp nat_list_cmp_total u (rising.0 u i)), distinct us rising.1)

  pub few_disks : (xs : List TreeRow) → length (logged_disks t xs) ≤ 500
  few_disks xs =
      let us = map (λ (d : DiskPieces). d.disk) (logged_disks t xs) in
      let less = no_more us (map (λ (r : Row). fork_owner t (head (making t)) r.name (fold_owner t (head (folding t)) r.name)) (images t)) (distinct us (in_order t xs c.table))
      (λ u i.
      let d = In-map (λ (d : DiskPieces). d.disk) (logged_disks t xs) u i in
      let r = listed t xs d.0 d.1 in
      among_owners u (ap (λ v. is_some (standing_volume t v)) d.2 ∙ r.2.stands)) in
      omega (
        arith,
        less,
        length-map (logged_disks t xs) (λ (d : DiskPieces). d.disk),
        length-map (images t) (λ (r : Row). fork_owner t (head (making t)) r.name (fold_owner t (head (folding t)) r.name)),
        c.few_images,
      )

  pub few_useful : HasFewLogs (dropped t)
  few_useful = few_left s.count t [] c.table (few_disks [])
