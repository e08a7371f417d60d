-- A step at the end of a leaf's folding that leaves each image where it is: the image is shown, the old leaf goes, or the entry goes.
use Rattle.std.proofs.Common.{◌≡◌, ◌≢◌, ◌⊎◌, inl, inr, ℕ, ◌*◌, ◌≤◌, ◌==◌, ◌&&◌, ◌||◌, not, nat_le, Bool, true, false, cond, List, [], ◌∷◌, length, Option, Some, None, is_none, is_some, refl, sym, ap, ap₂, ◌∙◌, subst, bytes_eq}
use Rattle.std.proofs.lemmas.Bool.{true≢false, and_parts, and_from, or_right, and_right, false_from_ne_true}
use Rattle.std.proofs.lemmas.Option.{same_Some}
use Rattle.common_laws.specs.Lists.{In, ◌>>=◌}
use Rattle.common_laws.proofs.Booleans.{not_false, all_hold}
use Rattle.common_laws.proofs.Bytes.{bytes_eq-same}
use Rattle.common_laws.proofs.Lists.{filter-In, In-map_at}
use Rattle.sm_base.specs.declared.names.Name.{Name}
use Rattle.sm_base.specs.declared.names.Name.TheVariants.{Mgt, Vhd, Raw, Old, Cbt, Clone, Inflate, Coalesce, Relink, Leaf}
use Rattle.vg_meta.specs.Changes.{tagged}
use Rattle.vg_meta.specs.declared.changes.Tag.TheVariants.{Hidden}
use Rattle.vg_meta.specs.Tables.{VolumeTable, Row, IsTable, extents_of, names_of, rows}
use Rattle.vg_meta.proofs.RowLaws.{row_of-name}
use Rattle.vg_volumes.specs.Volumes.{piece, span}
use Rattle.vhd_layout.specs.Contents.{raw_content}
use Rattle.vhd_layout.specs.Readings.{image_at}
use Rattle.sm_record.specs.Records.{reading}
use Rattle.sm_machine.specs.WellFormed.{is_image_name}
use Rattle.sm_standing.specs.Apart.{is_apart}
use Rattle.sm_standing.specs.Besides.{PassesAlone, is_settled_name}
use Rattle.sm_standing.specs.Checks.{chain_length, children, fault_of, images, is_entry_linked, is_image_wrong, is_leaf_linked, is_linked, is_misplaced, is_no_larger, is_orphaned, is_parent_right, parent_is, tree_wrong_as}
use Rattle.sm_standing.specs.Contents.{Content, sectors_of}
use Rattle.sm_standing.specs.Entries.{are_past, folding, head, image_with, is_among, is_at_stage, is_folding, is_folding_leaf, is_inflating, is_making, is_past, is_there, making, of_row, uuids_in}
use Rattle.sm_standing.specs.Images.{Image, image_extents, image_of, raw_image, vhd_image}
use Rattle.sm_standing.specs.Outlines.{HasImages, Link, Outline, parent_in}
use Rattle.sm_standing.specs.PlainSound.{AllSound}
use Rattle.sm_standing.specs.Readings.{SameReadings}
use Rattle.sm_standing.specs.Standing.{disks, standing_volume, stands_forked, under}
use Rattle.sm_standing.proofs.ApartLaws.{beside}
use Rattle.sm_standing.proofs.Counts.{none_left}
use Rattle.sm_standing.proofs.DisksShown.{row_of-In}
use Rattle.sm_standing.proofs.EnlargingLaws.{chain_alike}
use Rattle.sm_standing.proofs.ForkImages.{lost_as, misnamed_as}
use Rattle.sm_standing.proofs.ForkPlaces.{under_parent}
use Rattle.sm_standing.proofs.ImageLaws.{disks_as}
use Rattle.sm_standing.proofs.LeafStages.{IsNobodys, at_stage, closed_by, gone_nobodys, image_kind, no_image_name, no_twin}
use Rattle.sm_standing.proofs.LeafSteps.{IsLeafStep, step_sound}
use Rattle.sm_standing.proofs.NamedLaws.{all_past}
use Rattle.sm_standing.proofs.PlainKept.{sound_all}
use Rattle.sm_standing.proofs.RecordLists.{first_of, record_of_first, records_same}
use Rattle.sm_standing.proofs.VolumeLists.{found_in}

-- ---- images, by the table

module _ (c : Content) (w : VolumeTable) where
  abbrev vhd_by : Name → Option Row → List Name → Option Image
  vhd_by n r es = r >>= (λ x. cond x.fresh None (image_at c.block c.entries (image_extents es n (length x.extents) * c.extent) (piece c.extent (extents_of r) c.area)))

  abbrev raw_by : Option Row → Option Image
  raw_by r = r >>= (λ x. cond x.fresh None (Some (raw_content (span c.extent (extents_of r)) (piece c.extent (extents_of r) c.area))))

  -- a volume that is the same holds the same image
  pub image_same : (n : Name) → rows w n ≡ rows c.table n → making w ≡ making c.table → image_of (record c { table = w }) n ≡ image_of c n
  unfolding image_of vhd_image raw_image sectors_of
  image_same (Vhd u) row making = ap₂ (vhd_by (Vhd u)) row making
  image_same (Raw u) row making = ap raw_by row
  image_same Mgt row making = refl
  image_same (Old v) row making = refl
  image_same (Cbt v) row making = refl
  image_same (Clone x y z) row making = refl
  image_same (Inflate x y) row making = refl
  image_same (Coalesce x y) row making = refl
  image_same (Relink x y) row making = refl
  image_same (Leaf x y) row making = refl

  -- so does one that is shown
  pub image_shown : (u : List ℕ) (own : Row) → rows c.table (Vhd u) ≡ Some own → rows w (Vhd u) ≡ Some (tagged Hidden false own) → making w ≡ making c.table
      → image_of (record c { table = w }) (Vhd u) ≡ image_of c (Vhd u)
  unfolding image_of vhd_image sectors_of
  image_shown u own before now made = ap₂ (vhd_by (Vhd u)) now made ∙ sym (ap (λ r. vhd_by (Vhd u) r (making c.table)) before)

  pub readings_same : rows w Mgt ≡ rows c.table Mgt → SameReadings c (record c { table = w })
  unfolding sectors_of
  readings_same row k below = ap (λ r. reading (piece c.extent (extents_of r) c.area k)) row

pub among_one : (leaf u : List ℕ) → is_among (leaf ∷ []) u ≡ true → u ≡ leaf
among_one leaf u h = by (bytes_eq leaf u) refl h
  where
    by : (b : Bool) → bytes_eq leaf u ≡ b → (b || false) ≡ true → u ≡ leaf
    by true is k = sym (bytes_eq-same leaf u is)
    by false is k = absurd (true≢false (sym k))

pub near_one : (c : Bool) → not (c || false) ≡ false → c ≡ true
near_one true h = refl
near_one false h = absurd (true≢false h)

-- the table w is that of x behind one such commit
pub record IsSteady (count : ℕ) (x : Outline) (leaf parent : List ℕ) (w : VolumeTable) : Type 0 where
  pub table : IsTable count w
  pub later : x.table.sequence ≤ w.sequence
  pub apart : (n : Name) → is_apart (leaf ∷ []) n ≡ true → rows w n ≡ rows x.table n
  pub raw : rows w (Raw leaf) ≡ rows x.table (Raw leaf)
  pub own : Row
  pub before : rows x.table (Vhd leaf) ≡ Some own
  pub now : (rows w (Vhd leaf) ≡ Some own) ⊎ (rows w (Vhd leaf) ≡ Some (tagged Hidden false own))
  pub nobodys : (m : Name) → parent_in x m ≢ Some (Vhd leaf)
  pub few : length (images w) ≤ length (images x.table)
  pub names : (r : Row) → In r w.volumes → (q : Row) × In q x.table.volumes × (q.name ≡ r.name)
  pub owned : (u : List ℕ) (r : Row) → rows w (Old u) ≡ Some r → is_orphaned w (Old u) ≡ false
  pub staged : folding w ≡ folding x.table → (is_folding_leaf w leaf parent ≡ true)
      × (length (children (record x { table = w }) (Vhd leaf)) ≡ 0 → is_leaf_linked (record x { table = w }) leaf parent ≡ true)
  pub stands : (u : List ℕ) → beside w u ≡ beside x.table u
  pub making : making w ≡ making x.table
  pub folding : (folding w ≡ folding x.table) ⊎ (folding w ≡ [])

-- whatever holds by the tables alone
module _ {count : ℕ} {x : Outline} {leaf parent : List ℕ} {w : VolumeTable} (k : IsSteady count x leaf parent w) where
  abbrev earlier : VolumeTable
  earlier = x.table

  abbrev ones : List (List ℕ)
  ones = leaf ∷ []

  -- ---- where each UUID stands

  there_same : (u : List ℕ) → (is_there w (Vhd u) ≡ is_there earlier (Vhd u)) × (is_there w (Raw u) ≡ is_there earlier (Raw u))
  there_same u = by (is_among ones u) refl
    where
      shown : (rows w (Vhd leaf) ≡ Some k.own) ⊎ (rows w (Vhd leaf) ≡ Some (tagged Hidden false k.own)) → is_there w (Vhd leaf) ≡ is_there earlier (Vhd leaf)
      shown (inl is) = ap is_some is ∙ sym (ap is_some k.before)
      shown (inr is) = ap is_some is ∙ sym (ap is_some k.before)

      by : (c : Bool) → is_among ones u ≡ c → (is_there w (Vhd u) ≡ is_there earlier (Vhd u)) × (is_there w (Raw u) ≡ is_there earlier (Raw u))
      by true is =
          let same = among_one leaf u is in (
            subst (λ v. is_there w (Vhd v) ≡ is_there earlier (Vhd v)) (sym same) (shown k.now),
            subst (λ v. is_there w (Raw v) ≡ is_there earlier (Raw v)) (sym same) (ap is_some k.raw),
          )
      by false is = (ap is_some (k.apart (Vhd u) (ap not is_or)), ap is_some (k.apart (Raw u) (ap not is_or)))
        where
          is_or : (bytes_eq leaf u || false) || false ≡ false
          is_or = ap (λ c. c || false) is

  image_with_same : (u : List ℕ) → image_with w u ≡ image_with earlier u
  unfolding image_with
  image_with_same u = let h = there_same u in ap₂ (λ a c. cond a (Some (Vhd u)) (cond c (Some (Raw u)) None)) h.0 h.1

  forked_same : (y : Option Name) (u : List ℕ) (plainly : Option Name) → under (λ e. stands_forked w e u) y plainly ≡ under (λ e. stands_forked earlier e u) y plainly
  forked_same None u plainly = refl
  forked_same (Some (Clone d f g)) u plainly =
      ap (λ i. cond (bytes_eq u d) (elim i as (λ _. Option Name) [ None ↦ plainly | Some n ↦ Some n ]) (cond (bytes_eq u f || bytes_eq u g) None plainly)) (image_with_same f)
  forked_same (Some _) u plainly = refl

  pub steady_stands : (u : List ℕ) → standing_volume w u ≡ standing_volume earlier u
  unfolding standing_volume
  steady_stands u = ap₂ (λ ns p. under (λ e. stands_forked w e u) (head ns) p) k.making (k.stands u) ∙ forked_same (head (making earlier)) u (beside earlier u)

  -- ---- a content with them

  module _ (c : Content) where
    abbrev a : Content
    a = record c { table = earlier }

    abbrev b : Content
    b = record c { table = w }

    -- the same images
    pub steady_images : (n : Name) → image_of b n ≡ image_of a n
    unfolding is_image_name
    steady_images n = by (is_apart ones n) refl n refl
      where
        none_of : (m : Name) → is_image_name m ≡ false → image_of b m ≡ image_of a m
        none_of m h = no_image_name b m h ∙ sym (no_image_name a m h)

        shown : (rows w (Vhd leaf) ≡ Some k.own) ⊎ (rows w (Vhd leaf) ≡ Some (tagged Hidden false k.own)) → image_of b (Vhd leaf) ≡ image_of a (Vhd leaf)
        shown (inl is) = image_same a w (Vhd leaf) (is ∙ sym k.before) k.making
        shown (inr is) = image_shown a w leaf k.own k.before is k.making

        by : (c : Bool) → is_apart ones n ≡ c → (m : Name) → n ≡ m → image_of b n ≡ image_of a n
        by true is m at = image_same a w n (k.apart n is) k.making
        by false is (Vhd u) at =
            let same = among_one leaf u (near_one (is_among ones u) (sym (ap (is_apart ones) at) ∙ is)) in
            let name = at ∙ ap Vhd same in
            ap (image_of b) name ∙ shown k.now ∙ ap (image_of a) (sym name)
        by false is (Raw u) at =
            let same = among_one leaf u (near_one (is_among ones u) (sym (ap (is_apart ones) at) ∙ is)) in
            let name = at ∙ ap Raw same in
            ap (image_of b) name ∙ image_same a w (Raw leaf) k.raw k.making ∙ ap (image_of a) (sym name)
        by false is Mgt at = ap (image_of b) at ∙ none_of Mgt refl ∙ ap (image_of a) (sym at)
        by false is (Old u) at = ap (image_of b) at ∙ none_of (Old u) refl ∙ ap (image_of a) (sym at)
        by false is (Cbt u) at = ap (image_of b) at ∙ none_of (Cbt u) refl ∙ ap (image_of a) (sym at)
        by false is (Clone d f g) at = ap (image_of b) at ∙ none_of (Clone d f g) refl ∙ ap (image_of a) (sym at)
        by false is (Inflate d f) at = ap (image_of b) at ∙ none_of (Inflate d f) refl ∙ ap (image_of a) (sym at)
        by false is (Coalesce d f) at = ap (image_of b) at ∙ none_of (Coalesce d f) refl ∙ ap (image_of a) (sym at)
        by false is (Relink d f) at = ap (image_of b) at ∙ none_of (Relink d f) refl ∙ ap (image_of a) (sym at)
        by false is (Leaf d f) at = ap (image_of b) at ∙ none_of (Leaf d f) refl ∙ ap (image_of a) (sym at)

    readings : SameReadings a b
    readings = readings_same a w (k.apart Mgt refl)

    -- the same disks
    pub steady_disks : disks b ≡ disks a
    steady_disks = disks_as a b steady_stands steady_images (λ u. record_of_first b u ∙ ap first_of (records_same a b u readings) ∙ sym (record_of_first a u))

module _ {count : ℕ} (x : Outline) (homes : HasImages x) (sound : fault_of x ≡ None) (leaf parent : List ℕ) (one : folding x.table ≡ Leaf leaf parent ∷ []) (w : VolumeTable) (k : IsSteady count x leaf parent w) where
  abbrev t : VolumeTable
  t = x.table

  abbrev us : List (List ℕ)
  us = leaf ∷ []

  -- each image is linked as before
  abbrev new : Outline
  new = record x { table = w }

  s : AllSound x
  s = sound_all x sound

  -- ---- the leaf's image passes

  raw_gone : is_there t (Raw leaf) ≡ false
  raw_gone = no_twin x homes sound leaf k.own k.before

  closed : (m q : Name) → parent_in x m ≡ Some q → is_apart us q ≡ true
  closed = closed_by x homes sound us (λ u is.
      let same = among_one leaf u is in (
        subst (λ v. IsNobodys x homes sound (Vhd v)) (sym same) k.nobodys,
        subst (λ v. IsNobodys x homes sound (Raw v)) (sym same) (λ m up. raw_nobodys m up),
      ))
    where
      raw_nobodys : (m : Name) → parent_in x m ≢ Some (Raw leaf)
      raw_nobodys = gone_nobodys x homes sound (Raw leaf) raw_gone

  no_children : length (children new (Vhd leaf)) ≡ 0
  unfolding children
  no_children =
      ap length (none_left (λ r. parent_is (Vhd leaf) (new.links r.name)) w.volumes (λ r i. false_from_ne_true (parent_is (Vhd leaf) (new.links r.name)) (λ e.
      k.nobodys r.name (under_parent (Vhd leaf) (x.links r.name) e))))

  linked_still : (i : Link) → x.links (Vhd leaf) ≡ Some i → is_linked x i ≡ true → is_linked new i ≡ true
  linked_still i at h = by i.parent refl h
    where
      by : (y : Option Name) → i.parent ≡ y → elim y as (λ _. Bool) [ None ↦ true | Some p ↦ is_parent_right x i.size p ] ≡ true → elim y as (λ _. Bool) [ None ↦ true | Some p ↦ is_parent_right new i.size p ] ≡ true
      by None is f = refl
      by (Some p) is f =
          ap (λ r. of_row (λ r. r.hidden && not r.fresh) r && is_no_larger i.size (x.links p)) (k.apart p (closed (Vhd leaf) p (ap (λ (l : Option Link). l >>= (λ (j : Link). j.parent)) at ∙ is))) ∙ f

  placed_still : (r q : Row) → r.name ≡ Vhd leaf → q.name ≡ Vhd leaf → In q t.volumes → (l : Option Link) → x.links (Vhd leaf) ≡ l → is_misplaced new r l ≡ false
  placed_still r q named was i None at = refl
  placed_still r q named was i (Some l) at =
      let p = and_parts (is_linked x l) (nat_le (chain_length x 31 q.name) 30 && (q.hidden || (length (children x q.name) == 0)))
      (not_false _ (sym (ap (tree_wrong_as x q) was ∙ ap (is_misplaced x q) at) ∙ s.placed q i)) in
      let c = and_parts (nat_le (chain_length x 31 q.name) 30) (q.hidden || (length (children x q.name) == 0)) p.1 in
      all_hold (is_linked new l) (nat_le (chain_length new 31 r.name) 30) (r.hidden || (length (children new r.name) == 0)) (linked_still l at p.0)
      (ap (λ n. nat_le n 30) (chain_alike x w 31 r.name ∙ ap (chain_length x 31) (named ∙ sym was)) ∙ c.0)
      (or_right r.hidden (length (children new r.name) == 0) (ap (λ n. length (children new n) == 0) named ∙ ap (λ n. n == 0) no_children))

  past_still : (n : Name) → are_past t n ≡ true → are_past w n ≡ true
  past_still n h = all_past (uuids_in n) t.sequence w.sequence k.later h

  leaf_past : are_past t (Vhd leaf) ≡ true
  leaf_past = let h = and_parts (is_past t.sequence leaf) (is_past t.sequence parent && true) (at_stage x homes sound leaf parent one).1 in and_from (is_past t.sequence leaf) true h.0 refl

  vhd_passes : (r : Row) → In r w.volumes → r.name ≡ Vhd leaf → PassesAlone new r
  unfolding is_entry_linked
  vhd_passes r i named = record {
    named = ap (misnamed_as w) named ∙ ap₂ (λ a c. a || not c) (ap is_some k.raw ∙ raw_gone) (past_still (Vhd leaf) leaf_past);
    at_stage = ap (lost_as w) named;
    owned = ap (is_orphaned w) named;
    valid = ap (λ n. not r.fresh && is_image_wrong new r n) named ∙ ap (λ f. not f && is_none (x.links (Vhd leaf))) (fresh_same k.now)
        ∙ sym (ap (λ n. not k.own.fresh && is_image_wrong x k.own n) own_named) ∙ s.valid k.own own_in;
    placed = ap (tree_wrong_as new r) named ∙ placed_still r k.own named own_named own_in (x.links (Vhd leaf)) refl;
    linked = ap (is_entry_linked new) named;
  }
    where
      own_named : k.own.name ≡ Vhd leaf
      own_named = row_of-name t.volumes (Vhd leaf) k.own k.before

      own_in : In k.own t.volumes
      own_in = (row_of-In t.volumes (Vhd leaf) k.own k.before).0

      there : rows w (Vhd leaf) ≡ Some r
      there = sym (ap (rows w) named) ∙ found_in w.volumes k.table.volumes.rising r i

      fresh_same : (rows w (Vhd leaf) ≡ Some k.own) ⊎ (rows w (Vhd leaf) ≡ Some (tagged Hidden false k.own)) → r.fresh ≡ k.own.fresh
      fresh_same (inl is) = ap (λ (q : Row). q.fresh) (same_Some r k.own (sym there ∙ is))
      fresh_same (inr is) = ap (λ (q : Row). q.fresh) (same_Some r (tagged Hidden false k.own) (sym there ∙ is))

  -- ---- the others pass

  found : (r : Row) → In r w.volumes → rows w r.name ≡ Some r
  found r i = found_in w.volumes k.table.volumes.rising r i

  old_passes : (r : Row) (u : List ℕ) → In r w.volumes → r.name ≡ Old u → PassesAlone new r
  unfolding is_entry_linked
  old_passes r u i named =
      let q = k.names r i in
      let was = not_false _ (past_alone (sym (ap (misnamed_as t) (q.2 ∙ named)) ∙ s.named q.0 q.1)) in
      record {
        named = ap (misnamed_as w) named ∙ ap (λ c. not c) (past_still (Old u) was);
        at_stage = ap (lost_as w) named;
        owned = ap (is_orphaned w) named ∙ k.owned u r (sym (ap (rows w) named) ∙ found r i);
        valid = ap (λ n. not r.fresh && is_image_wrong new r n) named ∙ and_right (not r.fresh) false refl;
        placed = ap (tree_wrong_as new r) named;
        linked = ap (is_entry_linked new) named;
      }
    where
      past_alone : not (are_past t (Old u)) ≡ false → not (are_past t (Old u)) ≡ false
      past_alone h = h

  leaf_passes : (r : Row) (a c : List ℕ) → In r w.volumes → r.name ≡ Leaf a c → PassesAlone new r
  unfolding is_entry_linked is_at_stage
  leaf_passes r a c i named = by k.folding (filter-In is_folding (names_of w.volumes) r.name (In-map_at (λ (y : Row). y.name) w.volumes r i) (ap is_folding named))
    where
      passes : r.name ≡ Leaf leaf parent → (is_folding_leaf w leaf parent ≡ true) × (length (children new (Vhd leaf)) ≡ 0 → is_leaf_linked new leaf parent ≡ true) → PassesAlone new r
      passes is h = record {
        named = ap (misnamed_as w) is;
        at_stage = ap (lost_as w) is ∙ ap₂ (λ p q. not (p && q)) h.0 (past_still (Leaf leaf parent) (at_stage x homes sound leaf parent one).1);
        owned = ap (is_orphaned w) is;
        valid = ap (λ n. not r.fresh && is_image_wrong new r n) is ∙ and_right (not r.fresh) false refl;
        placed = ap (tree_wrong_as new r) is;
        linked = ap (is_entry_linked new) is ∙ h.1 no_children;
      }

      alone : In r.name (Leaf leaf parent ∷ []) → r.name ≡ Leaf leaf parent
      alone (inl is) = is
      alone (inr none) = absurd none

      by : (folding w ≡ folding t) ⊎ (folding w ≡ []) → In r.name (folding w) → PassesAlone new r
      by (inl same) j = passes (alone (subst (In r.name) (same ∙ one) j)) (k.staged same)
      by (inr none) j = absurd (subst (In r.name) none j)

  not_folding : (r : Row) → In r w.volumes → is_folding r.name ≡ true → r.name ≢ Leaf leaf parent → ⊥
  not_folding r i is other = by k.folding (filter-In is_folding (names_of w.volumes) r.name (In-map_at (λ (y : Row). y.name) w.volumes r i) is)
    where
      alone : In r.name (Leaf leaf parent ∷ []) → ⊥
      alone (inl same) = other same
      alone (inr none) = none

      by : (folding w ≡ folding t) ⊎ (folding w ≡ []) → In r.name (folding w) → ⊥
      by (inl same) j = alone (subst (In r.name) (same ∙ one) j)
      by (inr none) j = subst (In r.name) none j

  passes : (r : Row) → In r w.volumes → (n : Name) → r.name ≡ n → is_settled_name us n ≡ false → is_making n ≡ false → PassesAlone new r
  passes r i Mgt named e m = absurd (true≢false e)
  passes r i (Vhd u) named e m = vhd_passes r i (named ∙ ap Vhd (among_one leaf u (near_one (is_among us u) e)))
  passes r i (Raw u) named e m =
      let same = among_one leaf u (near_one (is_among us u) e) in
      absurd (true≢false (sym (ap is_some (sym (ap (rows w) (named ∙ ap Raw same)) ∙ found r i)) ∙ ap is_some k.raw ∙ raw_gone))
  passes r i (Old u) named e m = old_passes r u i named
  passes r i (Cbt u) named e m = absurd (true≢false e)
  passes r i (Clone a c d) named e m = absurd (true≢false m)
  passes r i (Inflate a c) named e m = absurd (true≢false m)
  passes r i (Coalesce a c) named e m = absurd (not_folding r i (ap is_folding named) (λ is. let z = sym named ∙ is in cc))
  passes r i (Relink a c) named e m = absurd (not_folding r i (ap is_folding named) (λ is. let z = sym named ∙ is in cc))
  passes r i (Leaf a c) named e m = leaf_passes r a c i named

  inflating_same : (u : List ℕ) (extents : ℕ) → is_inflating w u extents ≡ is_inflating t u extents
  inflating_same u extents = by (is_among us u) refl
    where
      shown : (rows w (Vhd leaf) ≡ Some k.own) ⊎ (rows w (Vhd leaf) ≡ Some (tagged Hidden false k.own)) → is_inflating w leaf extents ≡ is_inflating t leaf extents
      shown (inl is) = ap (of_row (λ r. not r.fresh && nat_le extents (length r.extents))) (is ∙ sym k.before)
      shown (inr is) = ap (of_row (λ r. not r.fresh && nat_le extents (length r.extents))) is ∙ sym (ap (of_row (λ r. not r.fresh && nat_le extents (length r.extents))) k.before)

      by : (c : Bool) → is_among us u ≡ c → is_inflating w u extents ≡ is_inflating t u extents
      by true is = subst (λ v. is_inflating w v extents ≡ is_inflating t v extents) (sym (among_one leaf u is)) (shown k.now)
      by false is = ap (of_row (λ r. not r.fresh && nat_le extents (length r.extents))) (k.apart (Vhd u) (ap (λ c. not (c || false)) is))

  steady_step : IsLeafStep x new leaf parent us
  steady_step = record {
    extent = refl;
    block = refl;
    entries = refl;
    later = k.later;
    found = found;
    rows_apart = k.apart;
    links_apart = λ n apart. refl;
    within = λ u none. first_none (bytes_eq leaf u) (bytes_eq parent u) none;
    closed = λ m q apart up. closed m q up;
    few = k.few;
    readings = refl;
    below = λ r i inside near is. let q = k.names r inside in (q.0, q.1, ap x.links q.2 ∙ is, ap (is_apart us) q.2 ∙ near);
    inflating = λ u extents i. inflating_same u extents;
    volumes = λ r i e m. passes r i r.name refl e m;
    standing = λ u h. sym (ap is_some (steady_stands k u)) ∙ h;
    making = k.making;
    folding = k.folding;
  }
    where
      first_none : (p q : Bool) → (p || (q || false)) ≡ false → (p || false) ≡ false
      first_none true q h = absurd (true≢false h)
      first_none false q h = refl

  pub steady_sound : fault_of new ≡ None
  steady_sound = step_sound sound one steady_step

  pub steady_homes : HasImages new
  steady_homes = record {
    named = homes.named;
    there = λ n i is. let u = image_kind x homes n i is in by n u.0 u.1 (homes.there n i is);
    alone = homes.alone;
  }
    where
      by : (n : Name) (u : List ℕ) → (n ≡ Vhd u) ⊎ (n ≡ Raw u) → is_there t n ≡ true → is_there w n ≡ true
      by n u (inl is) h = ap (is_there w) is ∙ (there_same k u).0 ∙ ap (is_there t) (sym is) ∙ h
      by n u (inr is) h = ap (is_there w) is ∙ (there_same k u).1 ∙ ap (is_there t) (sym is) ∙ h
