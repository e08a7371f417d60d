-- Once the folding of a leaf is given up, the fork for which all memory was taken may be made.
use Rattle.std.proofs.Common.{◌≡◌, ℕ, ◌+◌, ◌++◌, ◌≤◌, Bool, true, false, List, [], ◌∷◌, length, replicate, Option, Some, None, IsSome, refl, sym, ap, ap₂, ◌∙◌, subst, subst₂, arith}
use Rattle.sm_base.specs.declared.names.Name.{Name}
use Rattle.vg_meta.specs.Tables.{VolumeTable}
use Rattle.vg_meta.specs.declared.changes.Change.TheVariants.{Remove}
use Rattle.vg_volumes.specs.Sites.{Site}
use Rattle.vg_volumes.specs.Stored.{Commits, IsChoiceOf, OnlyReads, Stored, stored}
use Rattle.vg_volumes.specs.declared.stores.Store.{Ghosts}
use Rattle.vhd_chain.specs.Trees.{Tree, tree_row}
use Rattle.vhd_chain.specs.declared.rows.TreeRow.{TreeRow}
use Rattle.sm_machine.specs.Commits.{folds, gives_up}
use Rattle.sm_machine.specs.Shapes.{Shape, risen}
use Rattle.sm_machine.specs.Steps.{disks_next, shape_after, shape_next}
use Rattle.sm_standing.specs.Standing.{disks}
use Rattle.sm_ready.specs.Does.{StoreDoes, store_shape}
use Rattle.sm_ready.specs.Framing.{IsBetweenSteps}
use Rattle.sm_record.specs.Records.{IsRecord}
use Rattle.sm_record.specs.declared.records.Record.{Record}
use Rattle.sm_mgt.specs.Places.{place_for, record_in}
use Rattle.sm_ready.specs.Known.{entry_of, known, shape_in}
use Rattle.sm_ready.specs.Orderly.{IsOrderly}
use Rattle.sm_ready.specs.Refusing.{IsAllowed}
use Rattle.sm_ready.specs.Sessions.{IsOrderlyStore, IsReadyStore}
use Rattle.sm_ready.specs.Stores.{content_now}
use Rattle.sm_ready.specs.declared.memory.Memory.{Memory}
use Rattle.sm_ready.proofs.ChainLaws.{done_behind, ready_read, tab}
use Rattle.sm_ready.proofs.FramingLaws.{reads_between}
use Rattle.sm_space.proofs.KeptRoom.{KeepsRoom, are_free_kept, least_kept}
use Rattle.gc_abandon.specs.Abandoning.{abandoned_where, is_fork, unfolded, unfolded_table}
use Rattle.gc_abandon.proofs.AbandonedLaws.{GaveUp, then_does, then_forked, then_kept, then_number, then_orderly, then_unrefused}
use Rattle.sm_clone.specs.Forking.{AreForFork, CanFork, HasForkedRows, IsForkedOnLeast, Passes, fork_of, forked_rows, forking, own_name, sectors_of, shape_forked, table_forked, twin_record}
use Rattle.sm_clone.specs.declared.preparing.Parts.{Parts}
use Rattle.sm_clone.specs.declared.forks.Fork.{Fork}
use Rattle.sm_clone.proofs.PassedLaws.{eight}

-- the command, whether it is a snapshot or a clone
pub is_forking : (u twin : List ℕ) (b : Bool) → is_fork (forking u twin b) ≡ true
is_forking u twin true = refl
is_forking u twin false = refl

pub gives_disk : (u twin : List ℕ) (b : Bool) → gives_up (forking u twin b) ≡ Some u
unfolding gives_up
gives_disk u twin true = refl
gives_disk u twin false = refl

-- what holds of site and table holds of them behind a call that only read
pub as_read : {S : Type 0} {g : Ghosts S} {a p : S} → OnlyReads g a p → (P : Site → VolumeTable → Type 0) → P (g.site a) (tab g a) → P (g.site p) (tab g p)
as_read reads P had = subst₂ P (sym reads.stays.site) (sym reads.stays.table) had

module _ {S : Type 0} {g : Ghosts S} {u : List ℕ} {a b : S} {m k : Memory} (w : GaveUp g u a m b k) where
  -- the number from before is the table's, or the one below it
  pub passes_given : (twin : List ℕ) (read_only : Bool) → IsAllowed g (forking u twin read_only) a m → IsOrderly (g.site b) (record (tab g b) { sequence = (tab g a).sequence }) (known k)
      → ((tab g a).sequence ≤ (tab g b).sequence) × ((tab g b).sequence ≤ (tab g a).sequence + 1) → Passes (g.site b) (tab g b) (known k) u twin read_only
  passes_given twin read_only allowed orderly near = record {
    number = (tab g a).sequence;
    below = near.0;
    above = near.1;
    orderly = orderly;
    unrefused = then_unrefused w (forking u twin read_only) (is_forking u twin read_only) allowed;
  }

  -- the machine's shape
  pub shape_given : (twin : List ℕ) (read_only : Bool) → shape_forked (store_shape g b k) (tab g a).sequence (forking u twin read_only) ≡ shape_next (store_shape g a m) (forking u twin read_only)
  shape_given twin read_only =
      let c = forking u twin read_only in
      subst (λ n. record (shape_after (record (store_shape g b k) { sequence = (tab g a).sequence }) c) { sequence = risen (store_shape g b k).sequence n } ≡ shape_next (store_shape g a m) c)
      (eight (store_shape g a m) u twin read_only) (then_forked w c (is_forking u twin read_only) (gives_disk u twin read_only))

  -- the extents are those that the two images take
  module _ (room : KeepsRoom g a b) (sectors : ℕ) (own twins : List ℕ) (taken : AreForFork (g.site a) (tab g a) (store_shape g a m) u sectors own twins) where
    pub least_given : AreForFork (g.site a) (tab g b) (store_shape g a m) u sectors own twins
    least_given = record {
      least = least_kept room (g.site a).count (length own + length twins) (own ++ twins) taken.least;
      extents_free = are_free_kept room (g.site a).count (own ++ twins) taken.extents_free;
      own_many = taken.own_many;
      twin_many = taken.twin_many;
    }

    pub taken_given : AreForFork (g.site b) (tab g b) (store_shape g b k) u sectors own twins
    taken_given = subst₂ (λ (s : Site) (σ : Shape). AreForFork s (tab g b) σ u sectors own twins) (sym w.site) (sym w.shape) (by (folds m.operation u))
      where
        by : (f : Bool) → AreForFork (g.site a) (tab g b) (abandoned_where f (store_shape g a m)) u sectors own twins
        by true = record { least = least_given.least; extents_free = least_given.extents_free; own_many = least_given.own_many; twin_many = least_given.twin_many }
        by false = least_given

    -- the table that is made has them
    pub forked_given : (twin : List ℕ) (rows : List TreeRow) (next : VolumeTable) → tab g b ≡ unfolded_table m.operation u (tab g a)
        → next ≡ table_forked (tab g b) (fork_of (tab g a).sequence rows u twin) own twins → IsForkedOnLeast (g.site a) (unfolded_table m.operation u (tab g a)) (store_shape g a m) (fork_of (tab g a).sequence rows u twin) sectors next
    forked_given twin rows next table made = subst (λ (t : VolumeTable). IsForkedOnLeast (g.site a) t (store_shape g a m) (fork_of (tab g a).sequence rows u twin) sectors next) table
        (record { own = own; twins = twins; extents = least_given; made = made })

  -- and so have the images in memory
  pub rows_given : (room : KeepsRoom g a b) (f : Fork) (now : ℕ) (own twins : List ℕ) (next : List TreeRow) → k.tree ≡ m.tree → tab g b ≡ unfolded_table m.operation u (tab g a)
      → AreForFork (g.site a) (tab g a) (store_shape g a m) f.disk (sectors_of (tree_row m.tree.rows f.own)) own twins
      → next ≡ forked_rows (g.site b) (tab g b) f now (length own) (length twins) (tree_row k.tree.rows f.own) k.tree.rows
      → HasForkedRows (g.site a) (unfolded_table m.operation u (tab g a)) (store_shape g a m) f now m.tree.rows next
  rows_given room f now own twins next tree table taken is =
      is
      ∙ ap₂ (λ (s : Site) (t : VolumeTable). forked_rows s t f now (length own) (length twins) (tree_row k.tree.rows f.own) k.tree.rows) w.site table
      ∙ ap (λ (x : Tree). forked_rows (g.site a) (unfolded_table m.operation u (tab g a)) f now (length own) (length twins) (tree_row x.rows f.own) x.rows) tree
      ∙ ap₂ (λ i j. forked_rows (g.site a) (unfolded_table m.operation u (tab g a)) f now i j (tree_row m.tree.rows f.own) m.tree.rows) taken.own_many taken.twin_many

  -- ---- the fork may be made

  module _ (o : IsOrderlyStore g a m) (room : KeepsRoom g a b) (operation : k.operation ≡ unfolded m.operation u) (others : (k.tree ≡ m.tree) × (k.records ≡ m.records) × (k.attached ≡ m.attached)) (logs : k.logs ≡ m.logs)
      (gone : folds m.operation u ≡ true → (e : Name) → entry_of m.operation ≡ e ∷ [] → Commits g (Remove e) a b) where
    pub can_given : (twin : List ℕ) (read_only : Bool) (origin entry : Record) (f : Fork) (p : Parts) → IsAllowed g (forking u twin read_only) a m
        → record_in m.records u ≡ Some origin → IsRecord entry → entry ≡ twin_record u twin read_only origin → f ≡ fork_of (tab g a).sequence m.tree.rows u twin → IsSome (place_for m.records twin)
        → AreForFork (g.site a) (tab g a) (store_shape g a m) u (sectors_of (tree_row m.tree.rows (own_name m.tree.rows u))) p.own.items p.twins.items
        → p.own_map ≡ replicate (g.site a).geometry.entries None → p.twin_map ≡ replicate (g.site a).geometry.entries None → 3 ≤ (g.table a).spare → CanFork g b k f p entry
    unfolding passes_given
    can_given twin read_only origin entry f p allowed recorded proper entry_is fork place extents own_map twin_map spare =
        subst₂ (λ (x : Fork) (y : Record). CanFork g b k x p y) (sym fork) (sym entry_is) (record {
          session = w.session;
          allowed = passes_given twin read_only allowed (then_orderly w o operation others logs gone) (then_number w o gone);
          kept_up = then_kept w (forking u twin read_only) (gives_disk u twin read_only);
          fork = ap (λ (x : Tree). fork_of (tab g a).sequence x.rows u twin) (sym others.0);
          origin = origin;
          recorded = ap (λ (ps : List (Option Record)). record_in ps u) others.1 ∙ recorded;
          entry_is = refl;
          proper = subst IsRecord entry_is proper;
          place = subst (λ (ps : List (Option Record)). IsSome (place_for ps twin)) (sym others.1) place;
          extents = subst (λ (x : Tree). AreForFork (g.site b) (tab g b) (store_shape g b k) u (sectors_of (tree_row x.rows (own_name m.tree.rows u))) p.own.items p.twins.items) (sym others.0)
              (taken_given room _ p.own.items p.twins.items extents);
          own_map = own_map ∙ ap (λ (s : Site). replicate s.geometry.entries None) (sym w.site);
          twin_map = twin_map ∙ ap (λ (s : Site). replicate s.geometry.entries None) (sym w.site);
          rows = let more = room.spare in omega (arith, spare, more);
        })

-- what the rest of the command did, it did from before the call that only read, and from before the folding was given up
pub done_given : {S : Type 0} {g : Ghosts S} {u : List ℕ} {read_only again : Bool} {a p b e : S} {m k : Memory} (twin : List ℕ) (n : Memory) (fine ok : Type 0)
    → OnlyReads g a p → g.area p ≡ g.area a → ((t : VolumeTable) (image : ℕ → List ℕ) → g.leaves p t image → g.leaves a t image) → GaveUp g u p m b k → IsBetweenSteps g a m → g.told → IsReadyStore g a m
    → ((v : VolumeTable) (image : ℕ → List ℕ) → g.leaves p v image → IsChoiceOf (stored g p) v image) → ((v : VolumeTable) (image : ℕ → List ℕ) → g.leaves b v image → IsChoiceOf (stored g b) v image)
    → again ≡ read_only → (fine → ok) → (IsReadyStore g b k → StoreDoes g (forking u twin again) b k e n ok) → StoreDoes g (forking u twin read_only) a m e n fine
done_given {g = g} {u = u} {read_only = read_only} {b = b} {e = e} {m = m} {k = k} twin n fine ok reads area fewer w session told ready now mid same passes does =
    done_behind fine (λ (x : Stored). disks_next (disks (content_now x.site x.table x.area)) (shape_in x.site x.table (known m)) (forking u twin read_only)) reads area fewer passes
    (then_does w n ok (forking u twin read_only) (reads_between m reads session) told (ready_read m reads area ready) now mid
    (λ made. subst (λ (r : Bool). StoreDoes g (forking u twin r) b k e n ok) same (does made)))
