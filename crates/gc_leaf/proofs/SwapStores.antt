-- A swap in a store: it can be made, what a stop leaves among its commits, and what was done once all of them succeeded.
use Rattle.std.proofs.Common.{◌≡◌, inl, inr, ℕ, false, List, [], ◌∷◌, refl, sym, ap, ap₂, ◌∙◌, subst, subst₂}
use Rattle.sm_base.specs.declared.names.Name.{Name}
use Rattle.sm_base.specs.declared.names.Name.TheVariants.{Leaf}
use Rattle.sm_machine.specs.Operations.{Idle}
use Rattle.sm_disk.specs.Held.{Held, reads}
use Rattle.vg_meta.specs.Tables.{VolumeTable}
use Rattle.vg_meta.specs.declared.changes.Change.{Change}
use Rattle.vg_meta.specs.declared.changes.Change.TheVariants.{Remove}
use Rattle.vg_volumes.specs.Sites.{Site}
use Rattle.vg_volumes.specs.Stored.{stored}
use Rattle.vg_volumes.specs.declared.stores.Store.{Ghosts}
use Rattle.vhd_chain.specs.Trees.{Tree, tree_row}
use Rattle.sm_machine.specs.Disks.{Disk}
use Rattle.sm_machine.specs.Shapes.{image_uuid}
use Rattle.sm_machine.specs.Steps.{disks_next}
use Rattle.sm_machine.specs.declared.commands.Command.TheVariants.{Gc}
use Rattle.sm_standing.specs.Standing.{disks}
use Rattle.sm_refs.specs.Attached.{Attached}
use Rattle.sm_ready.specs.Does.{ShapesAs, StoreDoes}
use Rattle.sm_ready.specs.Done.{at_rest}
use Rattle.sm_ready.specs.Known.{Known, known, shape_in}
use Rattle.sm_ready.specs.Orderly.{IsOrderly}
use Rattle.sm_ready.specs.Ready.{IsTidy}
use Rattle.sm_ready.specs.Sessions.{IsOrderlyStore, IsReadyStore, IsTidyStore}
use Rattle.sm_ready.specs.Stores.{Leaving, MayShow, StoreLeaves, content_in, store_content}
use Rattle.sm_ready.specs.declared.memory.Memory.{Memory}
use Rattle.sm_ready.proofs.ChainLaws.{might_show, tab}
use Rattle.sm_calls.specs.Calls.{CanRun, DoesRun, GoesOn, GoesWell, IsReadyWith, ShowsBetween, commits}
use Rattle.sm_calls.proofs.CallLaws.{law_among, well_then}
use Rattle.sm_calls.proofs.StoreLaws.{law_run, ready_fine}
use Rattle.gc_leaf.specs.Swapping.{CountsAs, front_changes, swap_changes, swapped_rows}
use Rattle.gc_leaf.proofs.SwapSteps.{IsToSwap}
use Rattle.gc_leaf.proofs.SwapTables.{all_may, table_4, table_then}
use Rattle.gc_leaf.proofs.SwapMoments.{disks_then, front_fine, moments_show}
use Rattle.gc_leaf.proofs.SwapEnds.{counted_as, counted_then, orderly_then, ready_with, same_disks, tidy_with}
use Rattle.gc_leaf.proofs.SwapMemory.{known_with, shape_then, shape_with}

module _ {S : Type 0} (g : Ghosts S) (a : S) (m : Memory) {l p : Name} {cursor : ℕ} (h : IsToSwap (g.site a) (tab g a) (known m) l p cursor) where
  abbrev s : Site
  s = g.site a

  abbrev t : VolumeTable
  t = tab g a

  abbrev changes : List Change
  changes = swap_changes (image_uuid l) (image_uuid p)

  abbrev before : Leaving
  before = StoreLeaves g a

  abbrev was : List Disk
  was = disks (store_content g a)

  abbrev end : Held
  end = at_rest (reads (g.area a))

  abbrev last : VolumeTable
  last = table_then h

  pub can_swap : g.failed a ≡ false → CanRun g (commits changes) a
  can_swap usable = record { usable = usable; allowed = all_may h; room = (tt, (tt, (tt, (tt, (tt, tt))))) }

  -- memory behind it, with this tree and these attachments
  abbrev after : Tree → Attached → Memory
  after tree att = record m { tree = tree; attached = att; operation = Idle }

  memory : (tree : Tree) (att : Attached) → tree.rows ≡ swapped_rows l (tree_row m.tree.rows p) p m.tree.rows → known (after tree att) ≡ known_with h att
  memory tree att is = ap (λ rs. let k : Known = record (known m) { rows = rs; attached = att; op = Idle } in k) is

  -- ---- behind the last commit, whatever is held

  module _ {b : S} {ok : Type 0} (run : DoesRun g (commits changes) a b ok) (fine : ok) (tree : Tree) (is : tree.rows ≡ swapped_rows l (tree_row m.tree.rows p) p m.tree.rows)
      (att : Attached) (so : CountsAs m.operation p m.attached att) where
    pub orderly_end : IsOrderlyStore g b (after tree att)
    orderly_end = subst₂ (λ y z. IsOrderly y z (known (after tree att))) (sym run.site) (sym (run.table fine)) (subst (IsOrderly s last) (sym (memory tree att is)) (orderly_then h att so))

    pub tidy_end : IsTidyStore g b (after tree att)
    tidy_end = subst₂ IsTidy (sym (run.table fine)) (sym (memory tree att is)) (tidy_with h att so)

    pub shape_end : ShapesAs g Gc a m b (after tree att)
    shape_end = ap₂ (λ y z. shape_in y z (known (after tree att))) run.site (run.table fine) ∙ ap (shape_in s last) (memory tree att is) ∙ shape_with h att (same_disks h att so) ∙ shape_then h

  -- ---- where the store tells its content

  module _ (told : g.told) (usable : g.failed a ≡ false) (ready : IsReadyStore g a m) where
    module _ (att : Attached) (so : CountsAs m.operation p m.attached att) where
      last_ready : IsReadyWith (known_with h att) was (record { site = s; table = last; area = end })
      last_ready = record { ready = ready_with h (g.area a) ready att; settled = λ q. refl; shown = disks_then h (g.area a) ready }

      well : GoesWell (ShowsBetween s before was was (known m).logs) (IsReadyWith (known_with h att) was) (stored g a) (commits changes)
      well = well_then (ShowsBetween s before was was (known m).logs) (λ x. x ≡ record { site = s; table = table_4 h; area = end }) (IsReadyWith (known_with h att) was) (stored g a)
          (commits (front_changes (image_uuid l) (image_uuid p))) (commits (Remove (Leaf (image_uuid l) (image_uuid p)) ∷ []))
          (front_fine h (g.area a) ready before (might_show g usable told) (λ image is. inr (told, usable, is)))
          (λ y is. subst (λ x. GoesOn (ShowsBetween s before was was (known m).logs) (IsReadyWith (known_with h att) was) x (commits (Remove (Leaf (image_uuid l) (image_uuid p)) ∷ []))) (sym is)
          (ready_fine s last (known_with h att) (reads (g.area a)) before was was (orderly_then h att so) last_ready.ready last_ready.shown, last_ready))

      done : {b : S} {came ok : Type 0} (n : Memory) → n.logs ≡ m.logs → DoesRun g (commits changes) a b came → (ok → came × (known n ≡ known_with h att)) → StoreDoes g Gc a m b n ok
      unfolding disks_next
      done n same_logs run by = law_run (known n) told run well same_logs by

      -- all of them succeeded
      pub done_end : {b : S} → DoesRun g (commits changes) a b (Unit {0}) → (tree : Tree) → tree.rows ≡ swapped_rows l (tree_row m.tree.rows p) p m.tree.rows → (n : Memory) → n ≡ after tree att → (ok : Type 0) → StoreDoes g Gc a m b n ok
      done_end run tree is n same ok = done n (ap (λ (x : Memory). x.logs) same) run (λ fine. (tt, ap known same ∙ memory tree att is))

    -- one of them failed
    pub done_failed : {b : S} → DoesRun g (commits changes) a b ⊥ → (n : Memory) (ok : Type 0) → (ok → ⊥) → n.logs ≡ m.logs → StoreDoes g Gc a m b n ok
    done_failed run n ok never same_logs = done (counted_then h) (counted_as h) n same_logs run (λ fine. absurd (never fine))

    -- whatever a stop leaves among them shows the disks of an image that might be left before
    pub shows_still : {b : S} {came : Type 0} → DoesRun g (commits changes) a b came → (w : VolumeTable) (image : ℕ → List ℕ) → g.leaves b w image → MayShow s before (disks (content_in s w image))
    shows_still run w image l = law_among (λ x y. MayShow s before (disks (content_in s x y))) (λ x. Unit {0}) (stored g a) (commits changes)
        (moments_show h (g.area a) ready before (might_show g usable told) (λ image is. inr (told, usable, is))) w image (run.left told w image (inl l))
