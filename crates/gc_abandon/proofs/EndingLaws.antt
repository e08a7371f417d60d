-- An operation of the collector ends, or is replaced by another: one commit of its journal entry. Memory is ready behind it, and
-- no disk changes.
use Rattle.std.proofs.Common.{◌≡◌, inl, inr, ℕ, Bool, true, false, List, [], ◌∷◌, Option, Some, None, refl, sym, ap, ap₂, ◌∙◌, subst, subst₂, arith}
use Rattle.std.proofs.Math.Logic.{∥∥₁_elim}
use Rattle.std.proofs.Props.{props}
use Rattle.std.proofs.lemmas.Bool.{true≢false}
use Rattle.std.proofs.lemmas.Option.{none-some, same_Some}
use Rattle.std.specs.Str.{bytes_eq}
use Rattle.common_laws.specs.Lists.{In}
use Rattle.common_laws.proofs.Lists.{In-filter}
use Rattle.sm_base.specs.Kinds.{is_entry}
use Rattle.sm_base.proofs.KindLaws.{image-no_entry}
use Rattle.sm_base.specs.declared.names.Name.{Name}
use Rattle.sm_base.specs.declared.names.Name.TheVariants.{Leaf}
use Rattle.sm_base.specs.declared.operations.Op.{Op as Told}
use Rattle.sm_machine.specs.Operations.{Op, told}
use Rattle.sm_machine.specs.Operations as op
use Rattle.sm_disk.specs.Held.{Held, reads}
use Rattle.vg_volumes.specs.Commits.{IsBefore}
use Rattle.vg_meta.specs.Tables.{Row, VolumeTable, names_of, rows}
use Rattle.vg_meta.specs.Changes.{HasRoom, Permits, SpeaksOf, applied, raised}
use Rattle.vg_meta.specs.Roomy.{RoomyTable}
use Rattle.vg_meta.specs.declared.changes.Change.{Change}
use Rattle.vg_meta.specs.declared.changes.Change.TheVariants.{Remove}
use Rattle.vg_volumes.specs.Sites.{Site, area_size}
use Rattle.vg_volumes.specs.Stored.{CanCommit, Commits, FailsToCommit, IsEitherOf, stored}
use Rattle.vg_volumes.specs.declared.stores.Store.{Ghosts}
use Rattle.vhd_chain.specs.Trees.{row_name}
use Rattle.sm_machine.specs.Collector.{leaves}
use Rattle.sm_machine.specs.Commits.{folds}
use Rattle.sm_machine.specs.Shapes.{image_uuid}
use Rattle.sm_machine.specs.WellFormed.{IsOperation, IsWellFormed, is_image_name}
use Rattle.sm_standing.specs.Entries.{names_in}
use Rattle.sm_standing.specs.Logs.{IsLogged}
use Rattle.sm_standing.specs.Standing.{disks}
use Rattle.sm_standing.proofs.UndoneLaws.{named_found}
use Rattle.sm_ready.specs.Does.{store_shape}
use Rattle.sm_ready.specs.Done.{HasDone, IsCommit, at_rest}
use Rattle.sm_ready.specs.Frames.{HasTrueImages}
use Rattle.sm_ready.specs.Framing.{IsBetweenSteps}
use Rattle.sm_ready.specs.Known.{Known, entry_of, known, shape_in}
use Rattle.sm_ready.specs.Orderly.{IsOrderly, IsRoomyIn}
use Rattle.sm_ready.specs.Ready.{IsBelow, IsReady, IsTidy}
use Rattle.sm_ready.specs.Sessions.{IsOrderlyStore, IsTidyStore}
use Rattle.sm_ready.specs.Stores.{Leaving, StoreLeaves, content_in, content_now, store_content}
use Rattle.sm_ready.specs.declared.memory.Memory.{Memory}
use Rattle.sm_ready.proofs.ChainLaws.{commit_failed, commit_made, only_crash, tab}
use Rattle.sm_ready.proofs.CommitLaws.{law_single_commit}
use Rattle.sm_ready.proofs.FitLaws.{fits_orderly}
use Rattle.sm_ready.proofs.FrameLaws.{true_kept, volume_commits}
use Rattle.sm_ready.proofs.OperationLaws.{WorksAt, below_alike, works_there}
use Rattle.sm_ready.proofs.Orders.{named_row}
use Rattle.sm_ready.proofs.RoomLaws.{rows_commits}
use Rattle.sm_ready.proofs.RowLaws.{image_named}
use Rattle.sm_ready.proofs.TakenLaws.{IsTold}
use Rattle.gc_abandon.specs.Abandoning.{folded_pair, folding}
use Rattle.gc_abandon.proofs.EntryLaws.{IsReentered, disks_entry, entered, entry_gone, extents_entry, image_entry, orderly_entry, past_raised, ready_rested, shape_entry, tidy_entry}

-- ---- an entry goes, or is replaced

-- the change of an entry, by which the operation becomes another
pub record IsEnding (s : Site) (t : VolumeTable) (m : Known) (x : Op) (change : Change) : Type 0 where
  pub orderly : IsOrderly s t m
  pub permits : Permits s.count t change
  pub room : (k : RoomyTable) → HasRoom k change
  pub of_entries : (n : Name) → SpeaksOf change n → is_entry n ≡ true
  pub entry : names_in (applied t change) is_entry ≡ entry_of x
  pub works : IsWellFormed (shape_in s t m) → IsOperation (shape_in s t m) x
  pub roomy : IsRoomyIn (shape_in s t m) x
  pub below : (area : Held) → IsReady s t area m → IsBelow (content_now s t area) x

-- the images of the operation are named as images are
pub worked_named : (s : Site) (t : VolumeTable) (m : Known) (n : Name) → IsOrderly s t m → WorksAt m.op n → is_image_name n ≡ true
unfolding shape_in
worked_named s t m n o works = ∥∥₁_elim o.well_formed (hlevel props) (λ w.
    let y = works_there (shape_in s t m) w n works in
    subst (λ k. is_image_name k ≡ true) y.2 (w.images y.0 y.1).named)

-- the only entry is a volume
pub entry_row : (t : VolumeTable) (e : Name) → names_in t is_entry ≡ e ∷ [] → (r : Row) × (rows t e ≡ Some r)
entry_row t e one = named_found t.volumes e (In-filter is_entry (names_of t.volumes) e (subst (In e) (sym one) (inl refl))).0

-- the operation is over
to_end : (s : Site) (t : VolumeTable) (m : Known) (e : Name) → IsOrderly s t m → entry_of m.op ≡ e ∷ [] → IsEnding s t m op.Idle (Remove e)
to_end s t m e o its =
    let one : names_in t is_entry ≡ e ∷ [] = o.entries ∙ its in
    let is : is_entry e ≡ true = (In-filter is_entry (names_of t.volumes) e (subst (In e) (sym one) (inl refl))).1 in
    record {
      orderly = o;
      permits = (let w = entry_row t e one in record { row = w.0; there = w.1; not_mgt = λ same. true≢false (sym is ∙ ap is_entry same) });
      room = λ k. tt;
      of_entries = λ n of. ap is_entry of ∙ is;
      entry = entry_gone t e is one;
      works = λ w. tt;
      roomy = tt;
      below = λ area ready. tt;
    }

-- two lists of one entry
pub only_one : {e n : Name} → e ∷ [] ≡ n ∷ [] → e ≡ n
only_one same = (let z = same in cc)

-- an operation that folds the leaf of a disk folds a leaf
pub folding_of : (o : Op) (u : List ℕ) → folds o u ≡ true → folding o ≡ true
unfolding folds
folding_of (op.Leaf l p cursor) u is = refl
folding_of (op.Live l p cursor dirty) u is = refl
folding_of op.Idle u is = absurd (true≢false (sym is))
folding_of (op.Copy v p cursor) u is = absurd (true≢false (sym is))
folding_of (op.Relink v p) u is = absurd (true≢false (sym is))

-- a leaf is folded
pub leaf_folded : (o : Op) → folding o ≡ true → (l p : Name) × (entry_of o ≡ Leaf (image_uuid l) (image_uuid p) ∷ [])
leaf_folded (op.Leaf l p cursor) is = (l, p, refl)
leaf_folded (op.Live l p cursor dirty) is = (l, p, refl)
leaf_folded op.Idle is = absurd (true≢false (sym is))
leaf_folded (op.Copy v p cursor) is = absurd (true≢false (sym is))
leaf_folded (op.Relink v p) is = absurd (true≢false (sym is))

-- what is told of it has the leaf and its parent
pub record IsPair (o : Op) (l p : Name) : Type 0 where
  pub entry : entry_of o ≡ Leaf (image_uuid l) (image_uuid p) ∷ []
  pub child : WorksAt o l
  pub parent : WorksAt o p

pair_told : (o : Op) (l p : Name) → folded_pair (told o) ≡ Some (l, p) → IsPair o l p
unfolding told
pair_told op.Idle l p is = absurd (none-some (l, p) is)
pair_told (op.Copy v q cursor) l p is = absurd (none-some (l, p) is)
pair_told (op.Relink v q) l p is = absurd (none-some (l, p) is)
pair_told (op.Leaf v q cursor) l p is = by v q (ap (λ (x : Name × Name). x.0) (same_Some (v, q) (l, p) is)) (ap (λ (x : Name × Name). x.1) (same_Some (v, q) (l, p) is))
  where
    by : (v q : Name) → v ≡ l → q ≡ p → IsPair (op.Leaf v q cursor) l p
    by v q child parent = record { entry = ap₂ (λ x y. Leaf (image_uuid x) (image_uuid y) ∷ []) child parent; child = inl (sym child); parent = inr (sym parent) }
pair_told (op.Live v q cursor dirty) l p is = by v q (ap (λ (x : Name × Name). x.0) (same_Some (v, q) (l, p) is)) (ap (λ (x : Name × Name). x.1) (same_Some (v, q) (l, p) is))
  where
    by : (v q : Name) → v ≡ l → q ≡ p → IsPair (op.Live v q cursor dirty) l p
    by v q child parent = record { entry = ap₂ (λ x y. Leaf (image_uuid x) (image_uuid y) ∷ []) child parent; child = inl (sym child); parent = inr (sym parent) }

-- and where it has none, none is folded
none_told : (o : Op) → folded_pair (told o) ≡ None → folding o ≡ false
unfolding told
none_told op.Idle is = refl
none_told (op.Copy v p cursor) is = refl
none_told (op.Relink v p) is = refl
none_told (op.Leaf l p cursor) is = absurd (none-some (l, p) (sym is))
none_told (op.Live l p cursor dirty) is = absurd (none-some (l, p) (sym is))

-- whether it folds the leaf of a disk
folds_told : (o : Op) (u : List ℕ) → folds o u ≡ elim (folded_pair (told o)) [ None ↦ false | Some x ↦ bytes_eq (image_uuid x.0) u ]
unfolding told folds
folds_told op.Idle u = refl
folds_told (op.Copy v p cursor) u = refl
folds_told (op.Relink v p) u = refl
folds_told (op.Leaf l p cursor) u = refl
folds_told (op.Live l p cursor dirty) u = refl

-- of what was told, and the pair that was found in it
module _ (o : Op) (t : Told) (r : Option (Name × Name)) (is : told o ≡ t) (found : r ≡ folded_pair t) where
  here : r ≡ folded_pair (told o)
  here = found ∙ ap folded_pair (sym is)

  pub pair_found : (l p : Name) → r ≡ Some (l, p) → IsPair o l p
  pair_found l p some = pair_told o l p (sym here ∙ some)

  pub none_found : r ≡ None → folding o ≡ false
  none_found none = none_told o (sym here ∙ none)

  pub folds_found : (u : List ℕ) (l p : Name) → r ≡ Some (l, p) → folds o u ≡ bytes_eq (image_uuid l) u
  folds_found u l p some = folds_told o u ∙ ap (λ (x : Option (Name × Name)). elim x as (λ _. Bool) [ None ↦ false | Some y ↦ bytes_eq (image_uuid y.0) u ]) (sym here ∙ some)

  pub folds_none : (u : List ℕ) → r ≡ None → folds o u ≡ false
  folds_none u none = folds_told o u ∙ ap (λ (x : Option (Name × Name)). elim x as (λ _. Bool) [ None ↦ false | Some y ↦ bytes_eq (image_uuid y.0) u ]) (sym here ∙ none)

module _ {s : Site} {t : VolumeTable} {m : Known} {x : Op} {change : Change} (h : IsEnding s t m x change) where
  abbrev next : VolumeTable
  next = applied t change

  abbrev then : Known
  then = record m { op = x }

  entered_next : IsReentered s t next
  entered_next = entered s t change h.orderly.table h.permits h.of_entries

  pub orderly_next : IsOrderly s next then
  orderly_next = orderly_entry s t next m h.orderly entered_next x h.entry h.works h.roomy

  -- so it is by the number from before
  pub orderly_before : IsOrderly s (record next { sequence = t.sequence }) then
  orderly_before = orderly_entry s t (record next { sequence = t.sequence }) m h.orderly (record {
    table = record { sequence = h.orderly.table.sequence; volumes = entered_next.table.volumes };
    same = entered_next.same;
    past = past_raised t (record next { sequence = t.sequence }) (omega arith);
  }) x h.entry h.works h.roomy

  pub tidy_next : IsTidy t m → IsTidy next then
  tidy_next tidy = tidy_entry s t next m x entered_next tidy

  pub done_next : (old new : Held) (before leaves : Leaving) (ok : Type 0) → IsReady s t old m → ((image : ℕ → List ℕ) → IsBefore (area_size s) t old t image → before t image)
      → IsCommit s t next old new leaves ok → HasDone s t next old new then before leaves ok (disks (content_now s t old))
  done_next old new before leaves ok ready might commit =
      law_single_commit s t next old new m then before leaves ok (disks (content_now s t old)) h.orderly ready orderly_next
      (ready_rested s t next m x (extents_entry s t next m h.orderly entered_next) old ready
      (below_alike (content_now s t old) (content_now s next (at_rest (reads old))) x refl refl
      (λ n _. image_entry s t next m then (reads old) h.orderly orderly_next entered_next.same n) (h.below old ready)))
      might commit (disks_entry s t next m then (reads old) h.orderly orderly_next entered_next.same) refl

-- ---- in a store

module _ {S : Type 0} (g : Ghosts S) (a : S) (m : Memory) (o : IsOrderlyStore g a m) where
  pub ends : {y : Op} {e n : Name} → m.operation ≡ y → entry_of y ≡ n ∷ [] → e ≡ n → IsEnding (g.site a) (tab g a) (known m) op.Idle (Remove e)
  ends {e = e} is entry same = to_end (g.site a) (tab g a) (known m) e o (ap entry_of is ∙ entry ∙ ap (λ k. k ∷ []) (sym same))

module _ {S : Type 0} (g : Ghosts S) (a : S) (m : Memory) {x : Op} {change : Change} (h : IsEnding (g.site a) (tab g a) (known m) x change) where
  pub can_end : g.failed a ≡ false → CanCommit g change a
  can_end usable = record { usable = usable; allowed = h.permits; room = h.room (g.table a); fits = fits_orderly (g.site a) (applied (tab g a) change) (record (known m) { op = x }) (orderly_next h) }

  -- memory with the other operation
  abbrev ended : Memory
  ended = record m { operation = x }

  -- behind the commit
  module _ {b : S} (c : Commits g change a b) where
    pub orderly_end : IsOrderlyStore g b ended
    orderly_end = subst₂ (λ y z. IsOrderly y z (known ended)) (sym c.site) (sym c.table) (orderly_next h)

    pub tidy_end : IsTidyStore g a m → IsTidyStore g b ended
    tidy_end tidy = subst (λ y. IsTidy y (known ended)) (sym c.table) (tidy_next h tidy)

    pub shape_end : store_shape g b ended ≡ record (store_shape g a m) { sequence = raised (tab g a).sequence; op = x }
    shape_end = ap₂ (λ y z. shape_in y z (known ended)) c.site c.table ∙ shape_entry (g.site a) (tab g a) (applied (tab g a) change) (known m) x

    pub true_end : HasTrueImages g a m → HasTrueImages g b ended
    true_end = true_kept g m ended c.site (λ told r i. (
      i,
      volume_commits r h.orderly.table h.permits (λ of.
          true≢false (sym (h.of_entries (row_name r) of) ∙ image-no_entry (row_name r) (image_named (row_name r) (named_row (g.site a) (tab g a) (known m) r h.orderly i)))) c told,
    ))

    -- the session is between two steps, as it was
    pub between_end : IsBetweenSteps g a m → IsBetweenSteps g b ended
    between_end i = record {
      usable = c.usable;
      orderly = orderly_end;
      tidy = tidy_end i.tidy;
      true_images = true_end i.true_images;
      rows = rows_commits (can_end i.usable) c i.rows;
      tree_room = i.tree_room;
      attachment_room = i.attachment_room;
    }

    pub done_end : IsTold g a m → ((v : VolumeTable) (image : ℕ → List ℕ) → g.leaves b v image → IsEitherOf (stored g a) change v image) → (ok : Type 0)
        → HasDone (g.site a) (tab g a) (tab g b) (g.area a) (g.area b) (known ended) (StoreLeaves g a) (StoreLeaves g b) ok (disks (store_content g a))
    done_end k stop ok = subst (λ z. HasDone (g.site a) (tab g a) z (g.area a) (g.area b) (known ended) (StoreLeaves g a) (StoreLeaves g b) ok (disks (store_content g a))) (sym c.table)
        (done_next h (g.area a) (g.area b) (StoreLeaves g a) (StoreLeaves g b) ok k.ready (λ image at. inr (k.told, k.usable, at)) (commit_made g change ok refl refl k.told c stop))

    -- whatever memory is, where it says the same
    pub done_as : IsTold g a m → ((v : VolumeTable) (image : ℕ → List ℕ) → g.leaves b v image → IsEitherOf (stored g a) change v image) → (n : Memory) → n ≡ ended → (ok : Type 0)
        → HasDone (g.site a) (tab g a) (tab g b) (g.area a) (g.area b) (known n) (StoreLeaves g a) (StoreLeaves g b) ok (disks (store_content g a))
    done_as k stop n is ok =
        subst (λ z. HasDone (g.site a) (tab g a) (tab g b) (g.area a) (g.area b) (known z) (StoreLeaves g a) (StoreLeaves g b) ok (disks (store_content g a))) (sym is) (done_end k stop ok)

  -- the commit failed
  pub failed_end : IsTold g a m → {b : S} (n : Memory) (ok : Type 0) → (ok → ⊥) → n.logs ≡ m.logs → FailsToCommit g a b
      → ((v : VolumeTable) (image : ℕ → List ℕ) → g.leaves b v image → IsEitherOf (stored g a) change v image)
      → HasDone (g.site a) (tab g a) (tab g b) (g.area a) (g.area b) (known n) (StoreLeaves g a) (StoreLeaves g b) ok (disks (store_content g a))
  failed_end k {b} n ok never same_logs fails stop =
      let done = done_next h (g.area a) (g.area b) (StoreLeaves g a) (StoreLeaves g b) ok k.ready (λ image at. inr (k.told, k.usable, at)) (commit_failed g change ok never refl refl k.told fails stop) in
      only_crash never done.crash (λ v image l. subst (IsLogged (content_in (g.site a) v image)) (sym same_logs) (done.logged v image l))
