-- What stands once the entry of a copy is gone and a fork or an enlargement is undone: it is kept and shows the same disks, and nothing but
-- a link is under way.
use Rattle.std.proofs.Common.{◌≡◌, ◌≢◌, ◌⊎◌, inl, inr, ℕ, zero, suc, ◌+◌, ◌≤◌, ◌++◌, Bool, true, false, cond, ◌&&◌, ◌||◌, not, List, [], ◌∷◌, length, take, Option, Some, None, refl, sym, ap, ◌∙◌, subst, arith}
use Rattle.std.specs.List.{list_all}
use Rattle.std.proofs.lemmas.Bool.{and_parts, true≢false}
use Rattle.std.proofs.lemmas.Option.{none-some}
use Rattle.common_laws.specs.Lists.{In}
use Rattle.common_laws.proofs.Options.{is_some-parts}
use Rattle.sm_base.specs.Kinds.{is_image}
use Rattle.sm_base.specs.declared.names.Name.{Name}
use Rattle.sm_base.specs.declared.names.Name.TheVariants.{Mgt, Vhd, Raw, Old, Cbt, Clone, Inflate, Coalesce, Relink, Leaf}
use Rattle.sm_disk.specs.Held.{IsSettled}
use Rattle.vg_meta.specs.Changes.{applied}
use Rattle.vg_meta.specs.Tables.{IsTable, Row, VolumeTable, rows}
use Rattle.vg_meta.specs.declared.changes.Change.{Change}
use Rattle.vg_meta.specs.declared.changes.Change.TheVariants.{Remove}
use Rattle.vg_meta.proofs.RowLaws.{row_of-name, row_of-without_other}
use Rattle.vg_volumes.specs.Sites.{Site}
use Rattle.vg_volumes.specs.Stored.{Stored}
use Rattle.vhd_chain.specs.declared.rows.TreeRow.{TreeRow}
use Rattle.sm_machine.specs.Shapes.{Shape, same_image}
use Rattle.sm_standing.specs.Checks.{IsSoundButLeaf, has_twin, has_uuid, is_misnamed}
use Rattle.sm_standing.specs.Entries.{are_past, folding, head, is_folding, image_with, is_past, is_there, making, uuids_in}
use Rattle.sm_standing.specs.Keeping.{HasNoEmptySlot, HoldsWell}
use Rattle.sm_standing.specs.Opened.{applied_all, linked_by, linked_up, new_count, parent_name, under_name, undo_changes, undone}
use Rattle.sm_standing.specs.PlainSound.{KnownSound, SimpleSound}
use Rattle.sm_standing.specs.Standing.{disks}
use Rattle.sm_standing.specs.Undone.{IsBeingEnlarged}
use Rattle.sm_standing.specs.Unfolded.{unfolded, without_entry}
use Rattle.sm_standing.proofs.AreaLaws.{area_disks, area_kept}
use Rattle.sm_standing.proofs.LinkingLaws.{link_kept, link_shown, link_with}
use Rattle.sm_standing.proofs.NamedLaws.{all_past}
use Rattle.sm_standing.proofs.PlainKept.{but_leaf_known, but_leaf_sound}
use Rattle.sm_standing.proofs.UndoneLaws.{other_undone}
use Rattle.sm_standing.proofs.UnfoldedLaws.{alone}
use Rattle.sm_standing.proofs.UnfoldedButLeaf.{unfolded_disks, unfolded_holding, unfolded_sound}
use Rattle.sm_ready.specs.Cleaned.{HasFewRemovals}
use Rattle.sm_ready.specs.Frames.{HasCommits}
use Rattle.sm_ready.specs.Repairs.{IsSame, content_of}
use Rattle.sm_ready.specs.Stores.{content_in}
use Rattle.sm_ready.proofs.GoneLaws.{fewer_left}
use Rattle.sm_ready.proofs.RemoveLaws.{In-without}
use Rattle.common_laws.proofs.Bytes.{bytes_eq-refl}
use Rattle.sm_recover.specs.Linking.{LinkedBy}
use Rattle.sm_checks.specs.Links.{IsLinkRight}
use Rattle.sm_recover.specs.Repairs.{IsChecked, IsEndable, IsLeftOf, IsLinkable, IsUndoable}
use Rattle.sm_recover.specs.Steps.{IsPartOf, ends_copy, first_changes, uncopied}
use Rattle.sm_recover.proofs.CountLaws.{later_all}
use Rattle.sm_recover.proofs.EndLaws.{EndCase, end_case, first_long, first_table, link_behind}
use Rattle.sm_checks.proofs.EntryLaws.{enlarged_found, fork_found, undone_applied}
use Rattle.sm_recover.proofs.UndoTables.{staged, staged_end}
use Rattle.sm_recover.proofs.KeptLogs.{first_keeps, same_kept}
use Rattle.sm_recover.proofs.StepLaws.{part_all, part_few}
use Rattle.sm_recover.proofs.UndoLaws.{IsKeptAs, few_behind, left_same, none_folded}
use Rattle.sm_recover.proofs.UndoneLaws.{IsOther, back_row, decide, dropped, not_making, row_listed, taken_from, undone_checked, undone_nothing}
use Rattle.sm_recover.proofs.UnfoldLaws.{HasFolding, changes_same, folding_gone, folding_none, making_same, undoable_unfolded, unfolded_is, unfolded_none}

-- ---- what a stop leaves

module _ (x : Stored) (c : IsEndable x.site x.table) where
  abbrev t : VolumeTable
  t = x.table

  abbrev less : VolumeTable → Stored
  less u = record { site = x.site; table = u; area = x.area }

  pub first_same : (v : VolumeTable) (image : ℕ → List ℕ) → IsLeftOf x (IsPartOf t (first_changes t)) v image → IsSettled x.area → IsSoundButLeaf (content_of x) → HoldsWell (content_of x)
      → IsSame (content_of x) (content_in x.site v image)
  first_same v image left settled sound well = same_kept x v image c.table (left.sectors settled) (first_keeps c v left.table) (by (end_case c))
    where
      s : KnownSound (content_of x)
      s = but_leaf_known (content_of x) sound

      part_at : (o : Option Name) → head (folding t) ≡ o → IsPartOf t (ends_copy o ++ undo_changes (applied_all t (ends_copy o))) v
      part_at o is = subst (λ y. IsPartOf t (ends_copy y ++ undo_changes (applied_all t (ends_copy y))) v) is left.table

      copied : (a b : List ℕ) (f : HasFolding t (Coalesce a b)) (k : ℕ) → v ≡ applied_all t (take k (Remove (Coalesce a b) ∷ undo_changes (applied t (Remove (Coalesce a b))))) → IsKeptAs (content_of x) (content_in x.site v image)
      copied a b f zero is = subst (λ u. IsKeptAs (content_of x) (content_in x.site u image)) (sym is) (record {
        kept = area_kept (content_of x) c.table x.site.geometry.in_range s image (left.sectors settled) well;
        same_disks = area_disks (content_of x) c.table x.site.geometry.in_range s image (left.sectors settled);
      })
      copied a b f (suc k) is =
          let q = applied t (Remove (Coalesce a b)) in
          let at : unfolded t ≡ q = unfolded_is t (Coalesce a b) f in
          let same = left_same (less q) v image (subst (IsUndoable x.site) at (undoable_unfolded c)).table (record { table = (k, is); sectors = left.sectors }) settled
          (subst (λ u. SimpleSound (content_of (less u))) at (unfolded_sound (content_of x) s c.table)) (subst (λ u. HasNoEmptySlot (content_of (less u))) at (unfolded_holding (content_of x) s well.holding)) in
          record { kept = same.kept; same_disks = same.same_disks ∙ sym (ap (λ u. disks (content_of (less u))) at) ∙ unfolded_disks (content_of x) s c.table }

      by : EndCase t → IsKeptAs (content_of x) (content_in x.site v image)
      by (inl none) =
          let quiet = folding_none (folding t) none in
          left_same x v image c.table (record { table = part_at None none; sectors = left.sectors }) settled (but_leaf_sound (content_of x) sound quiet) well.holding
      by (inr (inl (a, b, f))) = let part = part_at (Some (Coalesce a b)) (ap head f.alone) in copied a b f part.0 part.1
      by (inr (inr (a, b, f))) =
          let part = part_at (Some (Relink a b)) (ap head f.alone) in
          let w = link_with (content_of x) s a b f.alone c.table x.site.geometry.in_range v part in
          record {
            kept = link_kept (content_of x) s a b f.alone c.table x.site.geometry.in_range v w image (left.sectors settled) well;
            same_disks = link_shown (content_of x) s a b f.alone c.table x.site.geometry.in_range v w image (left.sectors settled);
          }

-- ---- the numbers of base images

-- the names of the images behind a fork or an enlargement are names from before, or the disk's
module _ {s : Site} {u : VolumeTable} (c : IsUndoable s u) (k : ℕ) (named : (r : Row) → In r u.volumes → is_image r.name ≡ true → list_all (is_past k) (uuids_in r.name) ≡ true)
    (disk : (d b w : List ℕ) → head (making u) ≡ Some (Clone d b w) → is_past k d ≡ true) where
  listed : (n : Name) (r : Row) → is_image n ≡ true → rows u n ≡ Some r → list_all (is_past k) (uuids_in n) ≡ true
  listed n r image there =
      let name = row_of-name u.volumes n r there in
      subst (λ m. list_all (is_past k) (uuids_in m) ≡ true) name (named r (row_listed u n r there) (ap is_image name ∙ image))

  under_past : (d : List ℕ) (m : Name) → is_past k d ≡ true → list_all (is_past k) (uuids_in (under_name m d)) ≡ true
  under_past d (Raw b) past = ap (λ x. x && true) past
  under_past d Mgt past = ap (λ x. x && true) past
  under_past d (Vhd b) past = ap (λ x. x && true) past
  under_past d (Old b) past = ap (λ x. x && true) past
  under_past d (Cbt b) past = ap (λ x. x && true) past
  under_past d (Clone a b w) past = ap (λ x. x && true) past
  under_past d (Inflate a b) past = ap (λ x. x && true) past
  under_past d (Coalesce a b) past = ap (λ x. x && true) past
  under_past d (Relink a b) past = ap (λ x. x && true) past
  under_past d (Leaf a b) past = ap (λ x. x && true) past

  pub undone_past : (n : Name) (r : Row) → is_image n ≡ true → rows (undone u) n ≡ Some r → list_all (is_past k) (uuids_in n) ≡ true
  undone_past n r image there = by (head (making u)) refl
    where
      name : r.name ≡ n
      name = row_of-name (undone u).volumes n r there

      enlarged : (v : List ℕ) (e : ℕ) → IsBeingEnlarged u v e → (n ≡ Vhd v) ⊎ (n ≢ Vhd v) → list_all (is_past k) (uuids_in n) ≡ true
      enlarged v e w (inl is) = subst (λ m. list_all (is_past k) (uuids_in m) ≡ true) (sym is) (listed (Vhd v) w.own refl w.there)
      enlarged v e w (inr apart) = listed n r image (sym (other_undone u v e w n (λ is. true≢false (sym image ∙ ap is_image is)) apart) ∙ there)

      forked : (d b w : List ℕ) (found : head (making u) ≡ Some (Clone d b w)) (o : Option Name) → image_with u b ≡ o → list_all (is_past k) (uuids_in n) ≡ true
      forked d b w found None none =
          let x = dropped c d b w found none in
          listed n r image (sym (x.others n (λ is. none-some r (sym x.twin_gone ∙ ap (rows (undone u)) (sym is) ∙ there)) (λ is. true≢false (sym image ∙ ap is_image is))) ∙ there)
      forked d b w found (Some from) base = of (taken_from c d b w found from base r (row_listed (undone u) n r there))
        where
          of : (r ≡ back_row c d b w found from base) ⊎ IsOther u d b w from r → list_all (is_past k) (uuids_in n) ≡ true
          of (inl is) = subst (λ m. list_all (is_past k) (uuids_in m) ≡ true) (sym (ap (λ (y : Row). y.name) is) ∙ name) (under_past d from (disk d b w found))
          of (inr o) = subst (λ m. list_all (is_past k) (uuids_in m) ≡ true) name (named r o.there (ap is_image name ∙ image))

      by : (o : Option Name) → head (making u) ≡ o → list_all (is_past k) (uuids_in n) ≡ true
      by None none = listed n r image (sym (ap (λ (y : VolumeTable). rows y n) (undone_nothing u none)) ∙ there)
      by (Some (Inflate v e)) found = enlarged v e (enlarged_found v e (staged c) found) (decide n (Vhd v))
      by (Some (Clone d b w)) found = forked d b w found (image_with u b) refl
      by (Some Mgt) found = absurd (not_making c Mgt found refl)
      by (Some (Vhd v)) found = absurd (not_making c (Vhd v) found refl)
      by (Some (Raw v)) found = absurd (not_making c (Raw v) found refl)
      by (Some (Old v)) found = absurd (not_making c (Old v) found refl)
      by (Some (Cbt v)) found = absurd (not_making c (Cbt v) found refl)
      by (Some (Coalesce v p)) found = absurd (not_making c (Coalesce v p) found refl)
      by (Some (Relink v p)) found = absurd (not_making c (Relink v p) found refl)
      by (Some (Leaf l p)) found = absurd (not_making c (Leaf l p) found refl)

-- ---- the table that stands then

-- nothing but a link is under way; without it the table is that from before without all that was under way
pub record IsFirstDone (s : Site) (t b : VolumeTable) : Type 0 where
  pub less : unfolded b ≡ undone (unfolded t)
  pub few : length (first_changes t) + length (folding b) ≤ length (undo_changes t) + length (folding t)
  pub linkable : (xs : List TreeRow) → IsLinkRight t xs → IsLinkable s b xs (head (folding b))
  pub linked : (xs : List TreeRow) (before after : Shape) → IsLinkRight t xs → LinkedBy (head (folding b)) xs before after → after ≡ linked_up t before

named_past : (t : VolumeTable) (r : Row) → is_misnamed t r ≡ false → is_image r.name ≡ true → list_all (is_past t.sequence) (uuids_in r.name) ≡ true
named_past t r named image = by (has_twin t r.name) (are_past t r.name) refl (sym (ap (λ b. b && (has_twin t r.name || not (are_past t r.name))) image) ∙ named)
  where
    by : (x y : Bool) → are_past t r.name ≡ y → (x || not y) ≡ false → are_past t r.name ≡ true
    by false true is h = is
    by true y is h = absurd (true≢false h)
    by false false is h = absurd (true≢false h)

vhd_uuid : (q : List ℕ) → has_uuid q (Vhd q) ≡ true
unfolding same_image
vhd_uuid q = ap (λ b. b || false) (bytes_eq-refl q)

raw_uuid : (q : List ℕ) → has_uuid q (Raw q) ≡ true
unfolding same_image
raw_uuid q = bytes_eq-refl q

parent_uuid : (t : VolumeTable) (q : List ℕ) → has_uuid q (parent_name t q) ≡ true
unfolding image_with
parent_uuid t q = by (is_there t (Vhd q)) (is_there t (Raw q))
  where
    of : (n : Name) → (n ≡ Vhd q) ⊎ (n ≡ Raw q) → has_uuid q n ≡ true
    of n (inl is) = subst (λ m. has_uuid q m ≡ true) (sym is) (vhd_uuid q)
    of n (inr is) = subst (λ m. has_uuid q m ≡ true) (sym is) (raw_uuid q)

    by : (x y : Bool) → has_uuid q (elim (cond x (Some (Vhd q)) (cond y (Some (Raw q)) None)) as (λ _. Name) [ None ↦ Vhd q | Some n ↦ n ]) ≡ true
    by true y = of (Vhd q) (inl refl)
    by false true = of (Raw q) (inr refl)
    by false false = of (Vhd q) (inl refl)

module _ {s : Site} {t : VolumeTable} (c : IsEndable s t) where
  abbrev after : VolumeTable
  after = undone (uncopied t)

  -- where no link is there
  quiet_done : (after ≡ undone (unfolded t)) → length (first_changes t) ≤ length (undo_changes t) + length (folding t) → ((σ : Shape) → σ ≡ linked_up t σ) → IsFirstDone s t after
  quiet_done is few none =
      let quiet : folding after ≡ [] = ap folding is ∙ none_folded (undoable_unfolded c) in
      record {
        less = unfolded_none (ap head quiet) ∙ is;
        few = omega (arith, few, ap (λ (ns : List Name). length ns) quiet);
        linkable = λ xs right. subst (IsLinkable s after xs) (sym (ap head quiet)) tt;
        linked = λ xs before behind right by. subst (λ h. LinkedBy h xs before behind) (ap head quiet) by ∙ none before;
      }

  link_done : (v p : List ℕ) (f : HasFolding t (Relink v p)) → IsFirstDone s t after
  unfolding unfolded
  link_done v p f =
      let e = Relink v p in
      let k = link_behind c v p f in
      let still : after ≡ applied_all t (undo_changes t) = ap undone (ap (λ o. applied_all t (ends_copy o)) (ap head f.alone)) ∙ undone_applied t in
      let there : rows after e ≡ Some f.entry = ap (λ u. rows u e) still ∙ k.there in
      let was : applied t (Remove e) ≡ unfolded t = sym (unfolded_is t e f) in
      let gone : applied after (Remove e) ≡ undone (unfolded t) =
      ap (λ u. applied u (Remove e)) still ∙ k.less ∙ ap (applied_all (applied t (Remove e))) (sym (changes_same t e f)) ∙ sym (undone_applied (applied t (Remove e))) ∙ ap undone was in
      let one : folding after ≡ e ∷ [] = alone e is_folding refl after.volumes f.entry there (ap folding gone ∙ none_folded (undoable_unfolded c)) in
      record {
        less = ap (λ ns. without_entry after (head ns)) one ∙ gone;
        few = omega (arith, ap (λ (cs : List Change). length cs) (ap (λ o. ends_copy o ++ undo_changes (applied_all t (ends_copy o))) (ap head f.alone)), ap (λ (ns : List Name). length ns) one, ap (λ (ns : List Name). length ns) f.alone);
        linkable = λ xs right. subst (IsLinkable s after xs) (sym (ap head one)) (
          record {
            table = subst (IsTable s.count) (sym still) k.small.table;
            entry = f.entry;
            there = there;
            rest = subst (IsChecked s) (sym gone) (undone_checked (undoable_unfolded c));
            past = past v p f gone still;
          },
          parent_name t p,
          right v p (ap head f.alone),
          parent_uuid t p,
        );
        linked = λ xs before behind right by.
            subst (λ h. LinkedBy h xs before behind) (ap head one) by (parent_name t p) (right v p (ap head f.alone)) ∙ sym (ap (λ h. linked_by t h before) (ap head f.alone));
      }
    where
      past : (v p : List ℕ) (f : HasFolding t (Relink v p)) → applied after (Remove (Relink v p)) ≡ undone (unfolded t) → after ≡ applied_all t (undo_changes t)
          → (n : Name) → is_image n ≡ true → is_there after n ≡ true → are_past after n ≡ true
      past v p f gone still n image there =
          let e = Relink v p in
          let r = is_some-parts (rows after n) there in
          let later : t.sequence ≤ after.sequence = omega (arith, ap (λ (u : VolumeTable). u.sequence) still, later_all t (undo_changes t) (let h = c.table.sequence in omega (arith, h))) in
          all_past (uuids_in n) t.sequence after.sequence later
          (undone_past (undoable_unfolded c) t.sequence
          (λ q i. named_past t q (c.named q (In-without e q t.volumes (subst (λ (u : VolumeTable). In q u.volumes) (unfolded_is t e f) i))))
          (λ d b w found. (and_parts (is_past t.sequence d) _ (fork_found d b w (staged_end c) (sym (ap head (ap making (unfolded_is t e f) ∙ making_same t e f)) ∙ found)).past).0)
          n r.0 image (sym (ap (λ u. rows u n) gone) ∙ row_of-without_other after.volumes e n (λ is. true≢false (sym image ∙ ap is_image (sym is))) ∙ r.1))

  -- in each case
  pub first_done : IsFirstDone s t after
  first_done = by (end_case c)
    where
      few : length (first_changes t) ≤ length (undo_changes t) + length (folding t)
      few = first_long c

      by : EndCase t → IsFirstDone s t after
      by (inl none) =
          quiet_done (ap undone (ap (λ o. applied_all t (ends_copy o)) none ∙ sym (unfolded_none none))) few (λ σ. sym (ap (λ h. linked_by t h σ) none))
      by (inr (inl (v, p, f))) =
          let e = Coalesce v p in
          quiet_done (ap undone (ap (λ o. applied_all t (ends_copy o)) (ap head f.alone) ∙ sym (unfolded_is t e f))) few (λ σ. sym (ap (λ h. linked_by t h σ) (ap head f.alone)))
      by (inr (inr (v, p, f))) = link_done v p f

  -- ---- how many commits that is

  -- while children are linked, and the entry goes
  pub few_link : (v : VolumeTable) → HasCommits (length (folding after)) after v → HasFewRemovals t v
  few_link v few = omega (arith, few, part_few t (first_changes t) (applied_all t (first_changes t)) (part_all t (first_changes t)), ap (λ (u : VolumeTable). u.sequence) (first_table t), first_done.few)

  -- and behind it
  pub few_rest : (v : VolumeTable) → HasFewRemovals (undone (unfolded t)) v → HasFewRemovals t v
  few_rest v few = by (end_case c) (few_behind v (undoable_unfolded c) few)
    where
      ended : (e : Name) → HasFolding t e → HasFewRemovals (unfolded t) v → HasFewRemovals t v
      ended e f h =
          let fewer : new_count (applied t (Remove e)).volumes ≤ new_count t.volumes = fewer_left (λ (r : Row). r.fresh) e t.volumes in
          omega (
            arith,
            subst (λ u. HasFewRemovals u v) (unfolded_is t e f) h,
            fewer,
            ap (λ (cs : List Change). length cs) (changes_same t e f),
            ap (λ (ns : List Name). length ns) (folding_gone t e f s c.table),
            ap (λ (ns : List Name). length ns) f.alone,
          )

      by : EndCase t → HasFewRemovals (unfolded t) v → HasFewRemovals t v
      by (inl none) h = subst (λ u. HasFewRemovals u v) (unfolded_none none) h
      by (inr (inl (a, b, f))) h = ended (Coalesce a b) f h
      by (inr (inr (a, b, f))) h = ended (Relink a b) f h
