-- Once a log is made the session is between two steps again, and the store made two commits at most.
use Rattle.std.proofs.Common.{◌≡◌, ◌≢◌, ◌⊎◌, inl, inr, ℕ, ◌+◌, true, false, List, length, Option, sym, ap, ap₂, ◌∙◌, subst, subst₂, arith}
use Rattle.common_laws.specs.Lists.{In}
use Rattle.sm_base.specs.declared.names.Name.{Name}
use Rattle.sm_base.specs.declared.names.Name.TheVariants.{Cbt}
use Rattle.sm_cbt.specs.Making.{IsMaking, Makes, WritesOnly, begun_table, made_table}
use Rattle.sm_disk.specs.Held.{Keeps}
use Rattle.sm_log.specs.Logs.{Log, with_log}
use Rattle.sm_machine.specs.Tracking.{with_logs}
use Rattle.vg_meta.proofs.SpliceLaws.{length-put, length-with_row}
use Rattle.vg_meta.specs.Changes.{made, tagged}
use Rattle.vg_meta.specs.Tables.{Row, VolumeTable, extents_of, rows}
use Rattle.vg_meta.specs.declared.changes.Tag.TheVariants.{Fresh}
use Rattle.vg_volumes.specs.Sites.{Site, volume_of}
use Rattle.vg_volumes.specs.Stored.{Leaves, held_in, stored}
use Rattle.vg_volumes.specs.Volumes.{KeepsElsewhere, span, volume}
use Rattle.vg_volumes.specs.declared.stores.Store.{Ghosts}
use Rattle.vhd_chain.specs.Trees.{row_name}
use Rattle.vhd_chain.specs.declared.rows.TreeRow.{TreeRow}
use Rattle.sm_ready.proofs.AfterLaws.{other_keeps}
use Rattle.sm_ready.proofs.ChainLaws.{tab}
use Rattle.sm_ready.proofs.FrameLaws.{KeepsVolume, true_kept}
use Rattle.sm_ready.proofs.LeftLaws.{extent_some}
use Rattle.sm_ready.proofs.Orders.{named_row}
use Rattle.sm_ready.specs.Does.{store_shape}
use Rattle.sm_ready.specs.Frames.{HasCommits, IsNoLower}
use Rattle.sm_ready.specs.Framing.{IsBetweenSteps, StepsOn}
use Rattle.sm_ready.specs.Known.{Known, known, shape_in}
use Rattle.sm_ready.specs.Orderly.{IsOrderly}
use Rattle.sm_ready.specs.Ready.{IsTidy}
use Rattle.sm_ready.specs.declared.memory.Memory.{Memory}
use Rattle.sm_tracking.proofs.MadeLaws.{IsToLog, one_log, orderly_made, shape_made, tidy_made}
use Rattle.sm_tracking.proofs.OrderLaws.{image_no_log, with_known, with_memory}
use Rattle.sm_tracking.proofs.StopLaws.{no_log_apart}

module _ {S : Type 0} (g : Ghosts S) (a b : S) (l : Log) (es : List ℕ) where
  -- the tables on the way, and their numbers
  abbrev Tables : VolumeTable → Type 0
  Tables v = (v ≡ tab g a) ⊎ ((v ≡ begun_table (tab g a) l es) ⊎ (v ≡ made_table (tab g a) l es))

  few_in : (v : VolumeTable) → Tables v → HasCommits 2 (tab g a) v
  few_in v (inl is) = let e = ap (λ (y : VolumeTable). y.sequence) is in omega (arith, e)
  few_in v (inr (inl is)) = let e = ap (λ (y : VolumeTable). y.sequence) is in omega (arith, e)
  few_in v (inr (inr is)) = let e = ap (λ (y : VolumeTable). y.sequence) is in omega (arith, e)

  no_lower_in : (v : VolumeTable) → Tables v → IsNoLower (tab g a) v
  no_lower_in v (inl is) = let e = ap (λ (y : VolumeTable). y.sequence) is in omega (arith, e)
  no_lower_in v (inr (inl is)) = let e = ap (λ (y : VolumeTable). y.sequence) is in omega (arith, e)
  no_lower_in v (inr (inr is)) = let e = ap (λ (y : VolumeTable). y.sequence) is in omega (arith, e)

  tables : (v : VolumeTable) (image : ℕ → List ℕ) → IsMaking (stored g a) l es v image → Tables v
  tables v image (inl i) = inl i.table_is
  tables v image (inr (inl i)) = inr (inl i.table)
  tables v image (inr (inr i)) = inr (inr i.table)

  pub making_steps : WritesOnly g es a b → Tables (tab g b) → Leaves g b (IsMaking (stored g a) l es) → StepsOn g 2 a b
  making_steps writes table says = record {
    site = writes.site;
    counts = writes.counts;
    beside = writes.beside;
    few = few_in (tab g b) table;
    few_left = λ told v image left. few_in v (tables v image (says told v image left));
    no_lower = no_lower_in (tab g b) table;
    no_lower_left = λ told v image left. no_lower_in v (tables v image (says told v image left));
  }

-- ---- the volumes of the others, once it is made

module _ {S : Type 0} {g : Ghosts S} {a b : S} {m : Known} {l : Log} {es : List ℕ} (x : IsToLog (g.site a) (tab g a) m l es) (k : Makes g l es a b) (told : g.told) where
  made_keeps : (n : Name) → n ≢ Cbt l.disk → Keeps (volume_of (g.site a) (tab g a) (g.area a) n) (volume_of (g.site a) (made_table (tab g a) l es) (g.area b) n)
  made_keeps n other =
      subst (λ (us : List ℕ). Keeps (volume (g.site a).geometry.extent us (g.area a)) (volume_of (g.site a) (made_table (tab g a) l es) (g.area b) n)) (ap extents_of ((one_log x).others n other))
      (other_keeps (g.site a) (made_table (tab g a) l es) (g.area a) (g.area b) (Cbt l.disk) n (one_log x).table (extent_some (g.site a) (tab g a) m x.orderly)
      (subst (λ (us : List ℕ). KeepsElsewhere (g.site a).geometry.extent us (g.area a) (g.area b)) (sym (ap extents_of (one_log x).there)) (k.writes.elsewhere told)) other)

module _ {S : Type 0} {g : Ghosts S} {a b : S} (m : Memory) {l : Log} {es : List ℕ} (x : IsToLog (g.site a) (tab g a) (known m) l es) (k : Makes g l es a b) where
  abbrev more : List Log
  more = with_log l m.logs

  pub made_shape : store_shape g b (with_memory more m) ≡ with_logs more 2 (store_shape g a m)
  made_shape = ap₂ (λ (s : Site) (v : VolumeTable). shape_in s v (with_known more (known m))) k.writes.site k.table ∙ shape_made x

  rows_long : length (made_table (tab g a) l es).volumes ≡ length (tab g a).volumes + 1
  rows_long = length-with_row (begun_table (tab g a) l es).volumes (Cbt l.disk) (tagged Fresh false) ∙ length-put (tab g a).volumes (made (Cbt l.disk) true es)

  pub made_between : IsBetweenSteps g a m → IsBetweenSteps g b (with_memory more m)
  made_between i = record {
    usable = k.usable;
    orderly = subst₂ (λ (s : Site) (v : VolumeTable). IsOrderly s v (with_known more (known m))) (sym k.writes.site) (sym k.table) (orderly_made x);
    tidy = subst (λ (v : VolumeTable). IsTidy v (with_known more (known m))) (sym k.table) (tidy_made x);
    true_images = true_kept g m (with_memory more m) k.writes.site (λ told r j. (j, keeps told r j)) i.true_images;
    rows = let had = i.rows in let long = ap (λ (v : VolumeTable). length v.volumes) k.table ∙ rows_long in omega (arith, had, long, k.room.spare_rows);
    tree_room = i.tree_room;
    attachment_room = i.attachment_room;
  }
    where
      keeps : g.told → (r : TreeRow) → In r m.tree.rows → KeepsVolume g a b r
      keeps told r j =
          let other = no_log_apart (row_name r) l.disk (image_no_log (row_name r) (named_row (g.site a) (tab g a) (known m) r x.orderly j)) in
          let same = (one_log x).others (row_name r) other in
          record {
            size = ap₂ (λ (s : Site) (v : VolumeTable). span s.geometry.extent (extents_of (rows v (row_name r)))) k.writes.site k.table ∙ ap (λ (q : Option Row). span (g.site a).geometry.extent (extents_of q)) same;
            keeps = subst₂ (λ (s : Site) (v : VolumeTable). Keeps (held_in (stored g a) (row_name r)) (volume_of s v (g.area b) (row_name r))) (sym k.writes.site) (sym k.table) (made_keeps x k told (row_name r) other);
          }
