-- Once a log is split the session is between two steps again, and the store made two commits at most.
use Rattle.std.proofs.Common.{◌≡◌, ◌⊎◌, inl, inr, ℕ, ◌+◌, ◌*◌, ◌<◌, ◌≤◌, Bool, true, false, List, length, take, Option, Some, Result, OnOk, OnErr, Ok, Err, refl, sym, ap, ap₂, ◌∙◌, subst, subst₂, arith}
use Rattle.std.specs.Prelude.{IfSome}
use Rattle.std.proofs.lemmas.List.{length-replicate, length-take}
use Rattle.common_laws.specs.Lists.{In}
use Rattle.sm_base.specs.declared.faults.Failed.{Failed}
use Rattle.sm_base.specs.declared.names.Name.TheVariants.{Cbt}
use Rattle.sm_cbt.specs.Making.{begun_table, made_table}
use Rattle.sm_cbt.specs.Splitting.{FailsToSplit, IsInSplit, Splits, WritesBoth}
use Rattle.sm_disk.specs.Held.{Keeps}
use Rattle.sm_log.specs.Logs.{Log, begun_anew, log_sectors, split}
use Rattle.sm_machine.specs.Shapes.{free}
use Rattle.sm_machine.specs.Tracking.{with_logs}
use Rattle.vg_extents.proofs.CountLaws.{AreFree-least}
use Rattle.vg_meta.proofs.SpliceLaws.{length-put, length-with_row}
use Rattle.vg_meta.specs.Changes.{made, tagged}
use Rattle.vg_meta.specs.Roomy.{RoomyTable, table_alone}
use Rattle.vg_meta.specs.Tables.{Row, VolumeTable, extents_of, rows, free as free_of}
use Rattle.vg_meta.specs.declared.changes.Tag.TheVariants.{Fresh}
use Rattle.vg_volumes.specs.Sites.{Site, size_of, volume_of}
use Rattle.vg_volumes.specs.Stored.{Leaves, held_in, sectors_in, stored}
use Rattle.vg_volumes.specs.Volumes.{span, volume}
use Rattle.vg_volumes.specs.declared.stores.Store.{Ghosts}
use Rattle.vhd_chain.specs.Trees.{row_name}
use Rattle.vhd_chain.specs.declared.rows.TreeRow.{TreeRow}
use Rattle.sm_ready.proofs.ChainLaws.{err_not_ok, tab}
use Rattle.sm_ready.proofs.FitLaws.{few_volumes}
use Rattle.sm_ready.proofs.FrameLaws.{KeepsVolume, true_kept}
use Rattle.sm_ready.proofs.LeftLaws.{size_there}
use Rattle.sm_ready.proofs.Orders.{named_row}
use Rattle.sm_ready.proofs.SumLaws.{free_counted}
use Rattle.sm_ready.proofs.TakenLaws.{IsTold}
use Rattle.sm_ready.specs.Does.{store_shape}
use Rattle.sm_ready.specs.Frames.{HasCommits, IsNoLower}
use Rattle.sm_ready.specs.Framing.{IsBetweenSteps, StepsOn}
use Rattle.sm_ready.specs.Known.{known, shape_in}
use Rattle.sm_ready.specs.Orderly.{IsOrderly}
use Rattle.sm_ready.specs.Ready.{IsTidy}
use Rattle.sm_ready.specs.Stores.{StoreLeaves, content_in}
use Rattle.sm_ready.specs.declared.memory.Memory.{Memory}
use Rattle.sm_tracking.proofs.AnewLaws.{IsToSplit, logs_split, split_is, to_log, to_log_anew}
use Rattle.sm_tracking.proofs.MadeLaws.{one_log, orderly_made, shape_after, tidy_made}
use Rattle.sm_tracking.proofs.OrderLaws.{image_no_log, with_known, with_memory}
use Rattle.sm_tracking.proofs.PlaceLaws.{its_row, keeps_at, own_in, row_there}
use Rattle.sm_tracking.proofs.SplitLaws.{fails_in_order, fails_tracked, splits_in_order, splits_tracked}
use Rattle.sm_tracking.proofs.StopLaws.{no_log_apart}
use Rattle.sm_tracking.specs.Rooms.{IsRoomFor}
use Rattle.sm_tracking.specs.Tracking.{HasChangedLogs, IsLogOnLeast, IsSplitInOrder}
use Rattle.sm_tracking.specs.declared.rooms.Room.{Room}

-- ---- the numbers of the tables on the way

module _ {S : Type 0} (g : Ghosts S) (a b : S) (twin l : Log) (es : List ℕ) where
  abbrev Tables : VolumeTable → Type 0
  Tables v = (v ≡ tab g a) ⊎ ((v ≡ begun_table (tab g a) twin es) ⊎ (v ≡ made_table (tab g a) twin es))

  few_in : (v : VolumeTable) → Tables v → HasCommits 2 (tab g a) v
  few_in v (inl is) = let e = ap (λ (y : VolumeTable). y.sequence) is in omega (arith, e)
  few_in v (inr (inl is)) = let e = ap (λ (y : VolumeTable). y.sequence) is in omega (arith, e)
  few_in v (inr (inr is)) = let e = ap (λ (y : VolumeTable). y.sequence) is in omega (arith, e)

  no_lower_in : (v : VolumeTable) → Tables v → IsNoLower (tab g a) v
  no_lower_in v (inl is) = let e = ap (λ (y : VolumeTable). y.sequence) is in omega (arith, e)
  no_lower_in v (inr (inl is)) = let e = ap (λ (y : VolumeTable). y.sequence) is in omega (arith, e)
  no_lower_in v (inr (inr is)) = let e = ap (λ (y : VolumeTable). y.sequence) is in omega (arith, e)

  tables : (v : VolumeTable) (image : ℕ → List ℕ) → IsInSplit (stored g a) twin l es v image → Tables v
  tables v image (inl (inl i)) = inl i.table_is
  tables v image (inl (inr (inl i))) = inr (inl i.table)
  tables v image (inl (inr (inr i))) = inr (inr i.table)
  tables v image (inr i) = inr (inr i.table)

  pub splitting_steps : WritesBoth g l es a b → Tables (tab g b) → Leaves g b (IsInSplit (stored g a) twin l es) → StepsOn g 2 a b
  splitting_steps writes table says = record {
    site = writes.site;
    counts = writes.counts;
    beside = writes.beside;
    few = few_in (tab g b) table;
    few_left = λ told v image left. few_in v (tables v image (says told v image left));
    no_lower = no_lower_in (tab g b) table;
    no_lower_left = λ told v image left. no_lower_in v (tables v image (says told v image left));
  }

-- ---- what is asked of the split

-- what holds of a log that is there
pub of_log : (P : Log → Type 0) (o : Option Log) (own : Log) → o ≡ Some own → IfSome o P → P own
of_log P o own is holds = subst (λ (x : Option Log). IfSome x P) is holds

pub for_log : (P : Log → Type 0) (o : Option Log) (own : Log) → o ≡ Some own → P own → IfSome o P
for_log P o own is holds = subst (λ (x : Option Log). IfSome x P) (sym is) holds

module _ {S : Type 0} (g : Ghosts S) (a : S) (m : Memory) (u : List ℕ) (r : Room) (es : List ℕ) (i : IsBetweenSteps g a m) (room : IsRoomFor (g.site a).count m.logs u r) where
  -- the least extents, where so many were found
  pub to_split : es ≡ take r.log.extents (free_of (g.site a).count (tab g a)) → r.log.extents ≤ length es → 1 ≤ length r.log.bits → IsToSplit (g.site a) (tab g a) (known m) u room.own r.log es
  to_split least found some =
      let long : r.log.extents ≡ length es = (let e = ap (λ (xs : List ℕ). length xs) least ∙ length-take r.log.extents (free_of (g.site a).count (tab g a)) in omega (arith, e, found)) in
      record {
        orderly = i.orderly;
        tidy = i.tidy;
        found = room.tracked;
        is_twin = room.room.log;
        absent = room.absent;
        few = room.few;
        some = subst (λ (l : Log). 1 ≤ length l.bits) room.room.log some;
        proper = room.proper;
        long = long;
        extents_free = AreFree-least (g.site a).count r.log.extents (tab g a) es least;
        enough =
            (let free = free_counted (g.site a) (tab g a) (known m) i.tidy.none_new i.orderly in
            let e = ap (λ (xs : List ℕ). length xs) least ∙ length-take r.log.extents (free_of (g.site a).count (tab g a)) in omega (arith, free, e, found));
      }

  -- the extents that were found are the least
  pub least_is : (need : ℕ) (k : RoomyTable) → es ≡ take need (free_of (length r.marks.items) (table_alone k)) → need ≡ r.log.extents → k ≡ g.table a → es ≡ take r.log.extents (free_of (g.site a).count (tab g a))
  least_is need k found is table =
      found ∙ ap₂ (λ (n c : ℕ). take n (free_of c (table_alone k))) is (ap (λ (bs : List Bool). length bs) room.room.marks ∙ length-replicate (g.site a).count false)
      ∙ ap (λ (y : RoomyTable). take r.log.extents (free_of (g.site a).count (table_alone y))) table

  -- so many are found where there are so many
  pub enough_found : es ≡ take r.log.extents (free_of (g.site a).count (tab g a)) → r.log.extents ≤ free (store_shape g a m) → r.log.extents ≤ length es
  enough_found least enough =
      let free = free_counted (g.site a) (tab g a) (known m) i.tidy.none_new i.orderly in
      let e = ap (λ (xs : List ℕ). length xs) least ∙ length-take r.log.extents (free_of (g.site a).count (tab g a)) in
      omega (arith, free, e, enough)

-- ---- between two steps

module _ {S : Type 0} (g : Ghosts S) (a : S) (m : Memory) {u : List ℕ} {own twin : Log} {es : List ℕ} (x : IsToSplit (g.site a) (tab g a) (known m) u own twin es) where
  abbrev final : List Log
  final = logs_split x

  abbrev anew : Log
  anew = begun_anew twin.tag own

  pub row_spare : IsBetweenSteps g a m → 0 < (g.table a).spare
  row_spare i = let few = few_volumes (g.site a) (tab g a) (known m) i.orderly in let had = i.rows in omega (arith, few, had)

  pub own_room : log_sectors (length twin.bits) ≤ sectors_in (stored g a) (Cbt u)
  own_room =
      let size : size_of (g.site a) (tab g a) (Cbt u) ≡ own.extents * (g.site a).geometry.extent =
      size_there (g.site a) (tab g a) (Cbt u) (its_row g a m x).row (row_there g a m x) ∙ ap (λ (n : ℕ). n * (g.site a).geometry.extent) (its_row g a m x).long in
      subst₂ (λ (l : Log) (n : ℕ). log_sectors (length l.bits) ≤ n) (sym x.is_twin) (sym size) (x.orderly.log_room own (own_in g a m x).0)

  module _ {b : S} (k : Splits g twin anew es a b) where
    pub split_shape : store_shape g b (with_memory final m) ≡ with_logs final 2 (store_shape g a m)
    split_shape = ap₂ (λ (s : Site) (v : VolumeTable). shape_in s v (with_known final (known m))) k.writes.site k.table ∙ shape_after (to_log x) final

    rows_long : length (made_table (tab g a) twin es).volumes ≡ length (tab g a).volumes + 1
    rows_long = length-with_row (begun_table (tab g a) twin es).volumes (Cbt twin.disk) (tagged Fresh false) ∙ length-put (tab g a).volumes (made (Cbt twin.disk) true es)

    pub split_between : IsBetweenSteps g a m → IsBetweenSteps g b (with_memory final m)
    split_between i = record {
      usable = k.usable;
      orderly = subst₂ (λ (s : Site) (v : VolumeTable). IsOrderly s v (with_known final (known m))) (sym k.writes.site) (sym k.table) (orderly_made (to_log_anew x));
      tidy = subst (λ (v : VolumeTable). IsTidy v (with_known final (known m))) (sym k.table) (tidy_made (to_log_anew x));
      true_images = true_kept g m (with_memory final m) k.writes.site (λ told r j. (j, keeps told r j)) i.true_images;
      rows = let had = i.rows in let long = ap (λ (v : VolumeTable). length v.volumes) k.table ∙ rows_long in omega (arith, had, long, k.room.spare_rows);
      tree_room = i.tree_room;
      attachment_room = i.attachment_room;
    }
      where
        keeps : g.told → (r : TreeRow) → In r m.tree.rows → KeepsVolume g a b r
        keeps told r j =
            let no_log = image_no_log (row_name r) (named_row (g.site a) (tab g a) (known m) r x.orderly j) in
            let one = no_log_apart (row_name r) twin.disk no_log in
            let two = no_log_apart (row_name r) u no_log in
            let same = (one_log (to_log x)).others (row_name r) one in
            record {
              size = ap₂ (λ (s : Site) (v : VolumeTable). span s.geometry.extent (extents_of (rows v (row_name r)))) k.writes.site k.table ∙ ap (λ (q : Option Row). span (g.site a).geometry.extent (extents_of q)) same;
              keeps = subst₂ (λ (s : Site) (v : VolumeTable). Keeps (held_in (stored g a) (row_name r)) (volume_of s v (g.area b) (row_name r))) (sym k.writes.site) (sym k.table)
                  (subst (λ (q : Option Row). Keeps (held_in (stored g a) (row_name r)) (volume (g.site a).geometry.extent (extents_of q) (g.area b))) (sym same) (keeps_at g a m x told k.writes (row_name r) (one, two)));
            }

  -- ---- by how it ended

  module _ (b : S) (new : List Log) where
    abbrev target : List Log
    target = split u twin.disk twin.tag m.logs

    pub split_memory : (r : Result (Unit {0}) Failed) → OnOk r (new ≡ target) → OnOk r ((with_memory new m ≡ m) ⊎ (with_memory new m ≡ with_memory target m))
    split_memory (Ok v) e = inr (ap (λ (ls : List Log). with_memory ls m) e)
    split_memory (Err f) e = tt

    pub split_still : (r : Result (Unit {0}) Failed) → IsBetweenSteps g a m → OnOk r (Splits g twin anew es a b) → OnOk r (new ≡ target) → OnOk r (IsBetweenSteps g b (with_memory new m))
    split_still (Ok v) i k e = subst (λ (ls : List Log). IsBetweenSteps g b (with_memory ls m)) (sym (e ∙ split_is x)) (split_between k i)
    split_still (Err f) i k e = tt

    pub split_shaped : (r : Result (Unit {0}) Failed) → OnOk r (Splits g twin anew es a b) → OnOk r (new ≡ target) → OnOk r (store_shape g b (with_memory new m) ≡ with_logs target 2 (store_shape g a m))
    split_shaped (Ok v) k e = ap (λ (ls : List Log). store_shape g b (with_memory ls m)) (e ∙ split_is x) ∙ split_shape k ∙ ap (λ (ls : List Log). with_logs ls 2 (store_shape g a m)) (sym (split_is x))
    split_shaped (Err f) k e = tt

    pub split_steps : (r : Result (Unit {0}) Failed) → OnOk r (Splits g twin anew es a b) → OnErr r (FailsToSplit g twin anew es a b) → Leaves g b (IsInSplit (stored g a) twin anew es) → StepsOn g 2 a b
    split_steps (Ok v) k f says = splitting_steps g a b twin anew es k.writes (inr (inr k.table)) says
    split_steps (Err e) k f says = splitting_steps g a b twin anew es f.writes f.table says

    pub split_tracked : (r : Result (Unit {0}) Failed) → IsTold g a m → OnOk r (Splits g twin anew es a b) → OnOk r (new ≡ target) → OnErr r (FailsToSplit g twin anew es a b) → Leaves g b (IsInSplit (stored g a) twin anew es)
        → HasChangedLogs g a m b (with_memory new m) target (r ≡ Ok tt)
    split_tracked r h k e f says = subst (λ (ls : List Log). HasChangedLogs g a m b (with_memory new m) ls (r ≡ Ok tt)) (sym (split_is x)) (by r k e f)
      where
        by : (r : Result (Unit {0}) Failed) → OnOk r (Splits g twin anew es a b) → OnOk r (new ≡ target) → OnErr r (FailsToSplit g twin anew es a b) → HasChangedLogs g a m b (with_memory new m) final (r ≡ Ok tt)
        by (Ok v) k e f = splits_tracked h x k (with_memory new m) (Ok v ≡ Ok tt) (ap (λ (ls : List Log). with_known ls (known m)) (e ∙ split_is x)) (says h.told)
        by (Err z) k e f = fails_tracked h x (with_memory new m) (Err z ≡ Ok tt) (err_not_ok (Err z) tt refl) (says h.told) f

    pub split_in_order : (r : Result (Unit {0}) Failed) → IsTold g a m → OnOk r (Splits g twin anew es a b) → OnErr r (FailsToSplit g twin anew es a b) → Leaves g b (IsInSplit (stored g a) twin anew es)
        → (v : VolumeTable) (image : ℕ → List ℕ) → StoreLeaves g b v image → IsSplitInOrder (content_in (g.site a) v image) u twin.disk m.logs target
    split_in_order r h k f says v image l = subst (IsSplitInOrder (content_in (g.site a) v image) u twin.disk m.logs) (sym (split_is x)) (by r k f)
      where
        by : (r : Result (Unit {0}) Failed) → OnOk r (Splits g twin anew es a b) → OnErr r (FailsToSplit g twin anew es a b) → IsSplitInOrder (content_in (g.site a) v image) u twin.disk m.logs final
        by (Ok z) k f = splits_in_order h x k (says h.told) v image l
        by (Err z) k f = fails_in_order h x (says h.told) f v image l

    -- the twin's log lies on the extents that were given
    pub split_least : (r : Result (Unit {0}) Failed) → es ≡ take twin.extents (free_of (g.site a).count (tab g a)) → OnOk r (Splits g twin anew es a b) → OnOk r (IsLogOnLeast (g.site a) (tab g a) twin.disk twin.extents (tab g b))
    split_least (Ok v) least k = record { extents = es; least = record { least = least; many = sym x.long }; made = k.table }
    split_least (Err f) least k = tt
