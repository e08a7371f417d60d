-- While the folding of a leaf is ended: what a stop leaves is kept and shows the same disks, and so does what stands at last.
use Rattle.std.proofs.Common.{◌≡◌, ◌≢◌, ⊎_elim, ℕ, zero, suc, List, [], length, take, Option, Some, None, refl, sym, ap, ap₂, ◌∙◌, subst, subst₂, arith}
use Rattle.std.specs.List.{AllByRecursion}
use Rattle.sm_base.specs.declared.names.Name.{Name}
use Rattle.sm_base.specs.declared.names.Name.TheVariants.{Mgt, Vhd, Raw, Old, Cbt, Clone, Inflate, Coalesce, Relink, Leaf}
use Rattle.sm_disk.specs.Held.{Held, IsSettled, reads}
use Rattle.vg_meta.specs.Roomy.{table_alone}
use Rattle.vg_meta.specs.Tables.{VolumeTable}
use Rattle.vg_volumes.specs.Stored.{Stored, stored}
use Rattle.vg_volumes.specs.declared.stores.Store.{Ghosts}
use Rattle.sm_standing.specs.Checks.{first_fault}
use Rattle.sm_standing.specs.Entries.{folding, head}
use Rattle.sm_standing.specs.Keeping.{HoldsWell}
use Rattle.sm_standing.specs.Leaves.{IsEnding}
use Rattle.sm_standing.specs.Opened.{applied_all, ended, new_count, opened, undo_changes, undone}
use Rattle.sm_standing.specs.Plain.{IsKnown}
use Rattle.sm_standing.specs.Unfolded.{unfolded}
use Rattle.sm_standing.proofs.AreaLaws.{area_disks, area_kept}
use Rattle.sm_standing.proofs.LeafContents.{left_kept, left_on_the_way, left_shown}
use Rattle.sm_standing.proofs.LeafEnds.{ended_folding, ends_are}
use Rattle.sm_standing.proofs.LeafStages.{content_images}
use Rattle.sm_standing.proofs.OpenedLaws.{opened_ended}
use Rattle.sm_standing.specs.Outlines.{outline}
use Rattle.sm_standing.proofs.PlainKept.{known_but_leaf, but_leaf_known}
use Rattle.vhd_chain.specs.Reading.{AllAreTrue}
use Rattle.sm_ready.specs.Cleaned.{HasFewRemovals}
use Rattle.sm_machine.specs.Tracking.{AreGoodLogs}
use Rattle.sm_ready.specs.Known.{known, shape_in}
use Rattle.sm_ready.specs.Runs.{AllMay}
use Rattle.sm_ready.specs.Orderly.{IsOrderly}
use Rattle.sm_ready.specs.Ready.{IsReady}
use Rattle.sm_ready.specs.Repairs.{IsSame, content_of}
use Rattle.sm_ready.specs.Stores.{content_in, store_content}
use Rattle.sm_ready.specs.declared.memory.Memory.{Memory}
use Rattle.sm_ready.proofs.SameLogs.{same_logs_then}
use Rattle.sm_recover.specs.Ending.{HasFewMends, IsEndedSo, leaf_ends, unleafed}
use Rattle.sm_checks.specs.Links.{IsLinkRight}
use Rattle.sm_checks.specs.Loaded.{stored_undone, stored_with}
use Rattle.sm_checks.specs.Openable.{IsOpenable}
use Rattle.sm_recover.specs.Repairs.{IsEndable, IsEndableStore, IsLeftOf}
use Rattle.sm_recover.specs.Steps.{IsPartOf, MakesAll, MakesPart}
use Rattle.sm_recover.specs.Stores.{HeldWell}
use Rattle.sm_recover.proofs.EndedThen.{is_unled, known_of, leaf_old, leaf_or_not}
use Rattle.sm_checks.proofs.EntryLaws.{head_alone}
use Rattle.sm_recover.proofs.CountLaws.{none_more}
use Rattle.sm_recover.proofs.KeptLogs.{leaf_keeps, same_kept}
use Rattle.sm_recover.proofs.StepLaws.{part_all, part_few}
use Rattle.sm_recover.proofs.UndoLaws.{IsKeptAs, IsOld, held_same}

none_applied : (t : VolumeTable) (k : ℕ) → applied_all t (take k []) ≡ t
none_applied t zero = refl
none_applied t (suc k) = refl

module _ (x : Stored) (c : IsOpenable x.site x.table) (may : AllMay x.site.count x.table (leaf_ends x.table (head (folding x.table)))) (sound : first_fault (content_of x) ≡ None) where
  abbrev t : VolumeTable
  t = x.table

  abbrev changes_of : VolumeTable → Type 0
  changes_of v = IsPartOf t (leaf_ends t (head (folding t))) v

  -- whatever stands on the way
  pub leaf_same : (v : VolumeTable) (image : ℕ → List ℕ) → IsLeftOf x changes_of v image → IsSettled x.area → HoldsWell (content_of x) → IsSame (content_of x) (content_in x.site v image)
  leaf_same v image left settled well =
      same_kept x v image c.table (left.sectors settled) (leaf_keeps c.table may v left.table) (⊎_elim (λ k. on_the_way k.0 k.1 k.2) none (leaf_or_not (head (folding t))))
    where
      on_the_way : (l p : List ℕ) → head (folding t) ≡ Some (Leaf l p) → IsKeptAs (content_of x) (content_in x.site v image)
      on_the_way l p found =
          let one = head_alone (folding t) (Leaf l p) found c.one_folding in
          let same = ap (leaf_ends t) found ∙ sym (ends_are t l p one) in
          let ending : IsEnding t v = subst (λ cs. IsPartOf t cs v) same left.table in
          let way = left_on_the_way (content_of x) sound c.table x.site.geometry.in_range l p one v ending in
          record {
            kept = left_kept (content_of x) v way x.site.geometry.in_range well image (left.sectors settled);
            same_disks = left_shown (content_of x) v way x.site.geometry.in_range image (left.sectors settled);
          }

      none : ((l p : List ℕ) → head (folding t) ≢ Some (Leaf l p)) → IsKeptAs (content_of x) (content_in x.site v image)
      none other =
          let no = is_unled t [] (head (folding t)) other in
          let part = subst (λ cs. IsPartOf t cs v) no.nothing left.table in
          let is : v ≡ t = part.1 ∙ none_applied t part.0 in
          let s = but_leaf_known (content_of x) (known_but_leaf (content_of x) sound (known_of c other)) in
          subst (λ u. IsKeptAs (content_of x) (content_in x.site u image)) (sym is) (record {
            kept = area_kept (content_of x) c.table x.site.geometry.in_range s image (left.sectors settled) well;
            same_disks = area_disks (content_of x) c.table x.site.geometry.in_range s image (left.sectors settled);
          })

  abbrev last : Stored
  last = record { site = x.site; table = unleafed t; area = x.area }

  -- and at last
  pub last_same : IsSettled x.area → HoldsWell (content_of x) → IsSame (content_of x) (content_of last)
  last_same = leaf_same (unleafed t) (reads x.area) (record { table = part_all t (leaf_ends t (head (folding t))); sectors = λ settled p below. refl })

  -- an opening makes the same of it
  pub last_opened : opened (content_of last) ≡ opened (content_of x)
  unfolding ended
  last_opened = ⊎_elim (λ k. leaf k.0 k.1 k.2) none (leaf_or_not (head (folding t)))
    where
      at : VolumeTable → Stored
      at v = record { site = x.site; table = v; area = x.area }

      leaf : (l p : List ℕ) → head (folding t) ≡ Some (Leaf l p) → opened (content_of (record x { table = unleafed t })) ≡ opened (content_of x)
      leaf l p found =
          let one = head_alone (folding t) (Leaf l p) found c.one_folding in
          ap (λ cs. opened (content_of (record x { table = applied_all t cs }))) (ap (leaf_ends t) found ∙ sym (ends_are t l p one))
          ∙ opened_ended (content_of x) l p one (ended_folding x.site.count (outline (content_of x)) sound c.table (content_images (content_of x)) l p one)

      none : ((l p : List ℕ) → head (folding t) ≢ Some (Leaf l p)) → opened (content_of (record x { table = unleafed t })) ≡ opened (content_of x)
      none other = let no = is_unled t [] (head (folding t)) other in ap (λ cs. opened (content_of (record x { table = applied_all t cs }))) no.nothing

-- a: in front of it; d: once the folding of a leaf is ended
module _ {S : Type 0} (g : Ghosts S) (a : S) (c : IsOpenable (g.site a) (table_alone (g.table a))) (may : AllMay (g.site a).count (table_alone (g.table a)) (leaf_ends (table_alone (g.table a)) (head (folding (table_alone (g.table a))))))
    (sound : first_fault (store_content g a) ≡ None) (was : IsSettled (g.area a)) where
  pub left_then : {v : VolumeTable} {image : ℕ → List ℕ} → IsLeftOf (stored g a) (IsPartOf (table_alone (g.table a)) (leaf_ends (table_alone (g.table a)) (head (folding (table_alone (g.table a)))))) v image
      → HoldsWell (store_content g a) → IsSame (store_content g a) (content_in (g.site a) v image)
  left_then {v} {image} left well = leaf_same (stored g a) c may sound v image left was well

-- of all changes that end one, none makes a volume new
ends_old : (t : VolumeTable) (o : Option Name) → AllByRecursion IsOld (leaf_ends t o)
ends_old t (Some (Leaf l p)) = leaf_old t l p
ends_old t None = tt
ends_old t (Some Mgt) = tt
ends_old t (Some (Vhd v)) = tt
ends_old t (Some (Raw v)) = tt
ends_old t (Some (Old v)) = tt
ends_old t (Some (Cbt v)) = tt
ends_old t (Some (Clone d b w)) = tt
ends_old t (Some (Inflate v e)) = tt
ends_old t (Some (Coalesce v p)) = tt
ends_old t (Some (Relink v p)) = tt

-- while it is ended
pub few_ending : {t v : VolumeTable} → IsEndedSo t → IsPartOf t (leaf_ends t (head (folding t))) v → HasFewMends t v
few_ending {t} {v} so part = omega (arith, so.few, part_few t (leaf_ends t (head (folding t))) v part)

-- what stands there
module _ {S : Type 0} {g : Ghosts S} {a d : S} (part : MakesPart g (leaf_ends (table_alone (g.table a)) (head (folding (table_alone (g.table a))))) a d)
    (all : MakesAll g (leaf_ends (table_alone (g.table a)) (head (folding (table_alone (g.table a))))) a d) where
  abbrev first : VolumeTable
  first = table_alone (g.table a)

  table_then : table_alone (g.table d) ≡ unleafed first
  table_then = all.table

  pub endable_then : IsEndable (g.site a) (unleafed first) → IsEndableStore g d
  endable_then = subst₂ IsEndable (sym part.site) (sym table_then)

  pub orderly_then : (m : Memory) → IsOrderly (g.site a) (undone (unfolded (unleafed first))) (known m) → IsOrderly (g.site d) (undone (unfolded (table_alone (g.table d)))) (known m)
  orderly_then m = subst₂ (λ s u. IsOrderly s (undone (unfolded u)) (known m)) (sym part.site) (sym table_then)

  pub linking_then : (m : Memory) → IsLinkRight (unleafed first) m.tree.rows → IsLinkRight (table_alone (g.table d)) m.tree.rows
  linking_then m = subst (λ u. IsLinkRight u m.tree.rows) (sym table_then)

  pub good_then : (m : Memory) → ∥ AreGoodLogs (shape_in (g.site a) (undone (unfolded (unleafed first))) (known m)) ∥₁ → ∥ AreGoodLogs (shape_in (g.site d) (undone (unfolded (table_alone (g.table d)))) (known m)) ∥₁
  good_then m = subst₂ (λ s u. ∥ AreGoodLogs (shape_in s (undone (unfolded u)) (known m)) ∥₁) (sym part.site) (sym table_then)

  pub ended_then : undone (unfolded (table_alone (g.table d))) ≡ undone (unfolded (unleafed first))
  ended_then = ap (λ u. undone (unfolded u)) table_then

  module _ (told : g.told) (was : IsSettled (g.area a)) where
    pub settled_then : IsSettled (g.area d)
    settled_then = all.settled told was

    area_then : g.area d ≡ g.area a
    area_then = held_same (g.area a) (g.area d) (part.keeps told) was settled_then

    stored_then : stored g d ≡ record { site = g.site a; table = unleafed first; area = g.area a }
    stored_then = ap₂ (λ s u. let x : Stored = record { site = s; table = u; area = g.area d } in x) part.site table_then ∙ ap (λ (h : Held). let x : Stored = record { site = g.site a; table = unleafed first; area = h } in x) area_then

    pub true_then : (m : Memory) → AllAreTrue (stored_with g a (undone (unfolded (unleafed first)))) m.tree.rows → AllAreTrue (stored_undone g d) m.tree.rows
    true_then m = subst (λ (x : Stored). AllAreTrue (record { site = x.site; table = undone (unfolded x.table); area = x.area }) m.tree.rows) (sym stored_then)

    module _ (c : IsOpenable (g.site a) first) (may : AllMay (g.site a).count first (leaf_ends first (head (folding first)))) (sound : first_fault (store_content g a) ≡ None) where
      pub same_then : HoldsWell (store_content g a) → IsSame (store_content g a) (store_content g d)
      same_then well = subst (λ (x : Stored). IsSame (store_content g a) (content_of x)) (sym stored_then) (last_same (stored g a) c may sound was well)

      pub opened_then : opened (store_content g d) ≡ opened (store_content g a)
      opened_then = ap (λ (x : Stored). opened (content_of x)) stored_then ∙ last_opened (stored g a) c may sound

      pub held_then : (m : Memory) → HoldsWell (store_content g a) → IsKnown (unleafed first) → IsReady (g.site a) (undone (unfolded (unleafed first))) (g.area a) (known m) → HeldWell g d m
      held_then m well known_last ready =
          let kept = (same_then well).kept in
          record {
            settled = settled_then;
            sound = known_but_leaf (store_content g d) kept.sound (subst IsKnown (sym table_then) known_last);
            well = record { holding = kept.holding; linking = kept.linking };
            ready = subst (λ (x : Stored). IsReady x.site (undone (unfolded x.table)) x.area (known m)) (sym stored_then) ready;
          }

      -- what has the disks and the logs of what stands there has those of what stood first
      pub behind_then : {v : VolumeTable} {image : ℕ → List ℕ} (m : Memory) → HoldsWell (store_content g a) → IsKnown (unleafed first) → IsReady (g.site a) (undone (unfolded (unleafed first))) (g.area a) (known m)
          → (HeldWell g d m → IsSame (store_content g d) (content_in (g.site d) v image)) → IsSame (store_content g a) (content_in (g.site a) v image)
      behind_then {v} {image} m well known_last ready left =
          let was = same_then well in
          let now = subst (λ z. IsSame (store_content g d) (content_in z v image)) part.site (left (held_then m well known_last ready)) in
          record { table = now.table; kept = now.kept; same_disks = now.same_disks ∙ was.same_disks; same_logs = same_logs_then was.same_logs now.same_logs }

  -- how many commits that takes
  pub few_then : (v : VolumeTable) → IsEndedSo first → AllMay (g.site a).count first (leaf_ends first (head (folding first))) → HasFewRemovals (table_alone (g.table d)) v → HasFewMends first v
  few_then v so may few = omega (
    arith,
    few,
    so.few,
    ap (λ (u : VolumeTable). u.sequence) table_then,
    ap (λ (u : VolumeTable). new_count u.volumes) table_then,
    ap (λ u. length (undo_changes u)) table_then,
    ap (λ u. length (folding u)) table_then,
    none_more (λ r. r.fresh) (g.site a).count first (leaf_ends first (head (folding first))) may (ends_old first (head (folding first))),
    part_few first (leaf_ends first (head (folding first))) (unleafed first) (part_all first (leaf_ends first (head (folding first)))),
  )
