-- The images that stand stay true: where their volumes keep what they hold, over a commit of another volume and work on
-- another, and where one image more is made.
use Rattle.std.proofs.Common.{◌≡◌, ◌≢◌, ◌⊎◌, inl, inr, ⊎_elim, ℕ, ◌*◌, true, false, List, length, sym, ap, ap₂, ◌∙◌, subst, subst₂, arith}
use Rattle.std.proofs.Math.Logic.{∥∥₁_elim, ∥∥₁_map}
use Rattle.std.proofs.Props.{props}
use Rattle.std.proofs.lemmas.Bool.{true≢false}
use Rattle.std.proofs.lemmas.Option.{none-some}
use Rattle.sm_base.specs.declared.names.Name.{Name}
use Rattle.sm_base.specs.declared.names.Name.TheVariants.{Mgt}
use Rattle.sm_disk.specs.Held.{Held, Keeps, reads}
use Rattle.sm_disk.proofs.HeldLaws.{Keeps-same, Keeps-then}
use Rattle.common_laws.specs.Lists.{In}
use Rattle.common_laws.proofs.Lists.{In-insert}
use Rattle.vg_meta.specs.Changes.{Permits, SpeaksOf, applied}
use Rattle.vg_meta.specs.Tables.{IsTable, VolumeTable, extents_of, rows}
use Rattle.vg_meta.specs.declared.changes.Change.{Change}
use Rattle.vg_meta.specs.declared.changes.Change.TheVariants.{Create, Mark}
use Rattle.vg_meta.specs.declared.changes.Tag.TheVariants.{Fresh}
use Rattle.vg_meta.proofs.ByName.{changes_by_name}
use Rattle.vg_volumes.specs.Sites.{Site, volume_of}
use Rattle.vg_volumes.specs.Stored.{Commits, OnlyReads, Stays, WorksOn, held_in, sectors_in, stored}
use Rattle.vg_volumes.specs.Volumes.{span, volume}
use Rattle.vg_volumes.specs.declared.stores.Store.{Ghosts}
use Rattle.vg_volumes.proofs.StoredLaws.{held_stays, size_stays}
use Rattle.vg_volumes.proofs.VolumeLaws.{Keeps-volume}
use Rattle.vhd_image.specs.Bodies.{ImageIsTrue, TrueIn}
use Rattle.vhd_image.specs.Steady.{IsSteady}
use Rattle.vhd_image.proofs.SteadyLaws.{body_true}
use Rattle.vhd_chain.specs.Reading.{AllAreTrue}
use Rattle.vhd_chain.specs.Trees.{is_before, row_name, tree_row, with_row}
use Rattle.vhd_chain.specs.declared.rows.TreeRow.{TreeRow}
use Rattle.sm_machine.specs.WellFormed.{is_image_name}
use Rattle.sm_record.specs.declared.records.Record.{Record}
use Rattle.sm_ready.specs.Done.{at_rest}
use Rattle.sm_ready.specs.Frames.{HasTrueImages}
use Rattle.sm_ready.specs.Known.{Known, known, shape_in}
use Rattle.sm_ready.specs.Middle.{IsMiddle}
use Rattle.sm_ready.specs.Orderly.{IsOrderly}
use Rattle.sm_ready.specs.declared.memory.Memory.{Memory}
use Rattle.sm_ready.proofs.AfterLaws.{other_keeps}
use Rattle.sm_ready.proofs.ChainLaws.{tab}
use Rattle.sm_ready.proofs.CommitLaws.{rested}
use Rattle.sm_ready.proofs.LastLaws.{same_extents}
use Rattle.sm_ready.proofs.MakingLaws.{MakesIn, can_end, next_orderly, table_end}
use Rattle.sm_ready.proofs.NewLaws.{allowed, made_is, no_row, there}
use Rattle.sm_ready.proofs.Orders.{named_row}
use Rattle.sm_ready.proofs.RestLaws.{true_keeps}
use Rattle.sm_ready.proofs.RowLaws.{tree_found}

-- ---- the volume of one image

-- it has the same extents, and keeps what it holds
pub record KeepsVolume {S : Type 0} (g : Ghosts S) (a b : S) (r : TreeRow) : Type 0 where
  pub size : sectors_in (stored g b) (row_name r) ≡ sectors_in (stored g a) (row_name r)
  pub keeps : Keeps (held_in (stored g a) (row_name r)) (held_in (stored g b) (row_name r))

module _ {S : Type 0} {g : Ghosts S} (r : TreeRow) where
  pub volume_then : {a b c : S} → KeepsVolume g a b r → KeepsVolume g b c r → KeepsVolume g a c r
  volume_then first next = record { size = next.size ∙ first.size; keeps = Keeps-then first.keeps next.keeps }

  module _ {a b : S} where
    -- where the table has the same extents for it, and all of the area is kept
    pub volume_area : g.site b ≡ g.site a → extents_of (rows (tab g b) (row_name r)) ≡ extents_of (rows (tab g a) (row_name r)) → Keeps (g.area a) (g.area b) → KeepsVolume g a b r
    volume_area site extents keeps = record {
      size = ap₂ (λ (s : Site) es. span s.geometry.extent es) site extents;
      keeps = subst₂ (λ (s : Site) es. Keeps (held_in (stored g a) (row_name r)) (volume s.geometry.extent es (g.area b))) (sym site) (sym extents)
          (Keeps-volume (g.site a).geometry.extent (extents_of (rows (tab g a) (row_name r))) keeps);
    }

    -- over a call that leaves the table, such as a sync
    pub volume_stays : g.site b ≡ g.site a → tab g b ≡ tab g a → Keeps (g.area a) (g.area b) → KeepsVolume g a b r
    volume_stays site table keeps = volume_area site (ap (λ t. extents_of (rows t (row_name r))) table) keeps

    -- over a commit that does not speak of it
    pub volume_commits : {change : Change} → IsTable (g.site a).count (tab g a) → Permits (g.site a).count (tab g a) change → (SpeaksOf change (row_name r) → ⊥)
        → Commits g change a b → g.told → KeepsVolume g a b r
    volume_commits {change} table permits apart c told =
        volume_area c.site (ap (λ t. extents_of (rows t (row_name r))) c.table
        ∙ ap extents_of ((changes_by_name (g.site a).count (tab g a) change table permits).others (row_name r) apart)) (c.keeps told)

    -- where no commit was made, and it is kept as the table has it
    pub volume_held : Stays g a b → Keeps (held_in (stored g a) (row_name r)) (volume_of (g.site a) (tab g a) (g.area b) (row_name r)) → KeepsVolume g a b r
    volume_held stays keeps = record {
      size = size_stays (row_name r) stays;
      keeps = subst (λ h. Keeps (held_in (stored g a) (row_name r)) h) (sym (held_stays (row_name r) stays)) keeps;
    }

    -- over work on another volume
    pub volume_works : {n : Name} → IsTable (g.site a).count (tab g a) → row_name r ≢ n → WorksOn g n a b → g.told → KeepsVolume g a b r
    volume_works {n} table other works told =
        volume_held works.stays (other_keeps (g.site a) (tab g a) (g.area a) (g.area b) n (row_name r) table (omega (arith, (g.site a).geometry.in_range.extent_least)) (works.elsewhere told) other)

-- no image has the volume of the records
pub not_mgt : (s : Site) (t : VolumeTable) (m : Known) → IsOrderly s t m → (r : TreeRow) → In r m.rows → row_name r ≢ Mgt
unfolding is_image_name
not_mgt s t m o r i same = true≢false (sym (named_row s t m r o i) ∙ ap is_image_name same)

-- ---- all images

module _ {S : Type 0} (g : Ghosts S) {a b : S} (m n : Memory) (site : g.site b ≡ g.site a) where
  -- images that were there, in volumes that keep what they hold, and others that are true
  pub true_turned : (g.told → AllAreTrue (stored g a) m.tree.rows → (r : TreeRow) → In r n.tree.rows → (In r m.tree.rows × KeepsVolume g a b r) ⊎ ImageIsTrue (stored g b) r.image)
      → HasTrueImages g a m → HasTrueImages g b n
  true_turned from was told = ∥∥₁_map (was told) (λ each r i. ⊎_elim
      (λ w. subst₂ (λ s k. TrueIn s.geometry k (held_in (stored g b) (row_name r)) r.image) (sym site) (sym w.1.size)
      (true_keeps (g.site a).geometry (sectors_in (stored g a) (row_name r)) (held_in (stored g a) (row_name r)) (held_in (stored g b) (row_name r)) r.image w.1.keeps (each r w.0)))
      (λ is. is) (from told each r i))

  -- images that were there, in volumes that keep what they hold
  pub true_kept : (g.told → (r : TreeRow) → In r n.tree.rows → In r m.tree.rows × KeepsVolume g a b r) → HasTrueImages g a m → HasTrueImages g b n
  true_kept from = true_turned (λ told each r i. inl (from told r i))

  -- the same images, where the store keeps what it holds
  pub true_stays : tab g b ≡ tab g a → n.tree.rows ≡ m.tree.rows → (g.told → Keeps (g.area a) (g.area b)) → HasTrueImages g a m → HasTrueImages g b n
  true_stays table same keeps = true_kept (λ told r i. (subst (In r) same i, volume_stays r site table (keeps told)))

module _ {S : Type 0} (g : Ghosts S) {a b : S} (m n : Memory) (same : n.tree.rows ≡ m.tree.rows) where
  -- where nothing was written
  pub true_reads : OnlyReads g a b → HasTrueImages g a m → HasTrueImages g b n
  true_reads r = true_stays g m n r.stays.site r.stays.table same (λ told. Keeps-same (r.held told))

  -- over work on the records
  pub true_recorded : IsOrderly (g.site a) (tab g a) (known m) → WorksOn g Mgt a b → HasTrueImages g a m → HasTrueImages g b n
  true_recorded o works = true_kept g m n works.stays.site (λ told r i. let was = subst (In r) same i in (was, volume_works r o.table (not_mgt _ _ (known m) o r was) works told))

-- ---- one image more

module _ {S : Type 0} {g : Ghosts S} {a : S} {m : Memory} {own : Name} {es : List ℕ} {added : TreeRow} {k : ℕ} {r : Record} (h : MakesIn g a m own es added k r) where
  -- no image has the name
  apart : (q : TreeRow) → In q m.tree.rows → row_name q ≢ own
  unfolding shape_in
  apart q i same = ∥∥₁_elim h.begins.orderly.well_formed (hlevel props) (λ w. none-some q
      (sym (no_row (g.site a) (tab g a) (known m) own es added k r h.begins own h.begins.image h.begins.uuid) ∙ ap (tree_row m.tree.rows) (sym same) ∙ tree_found m.tree.rows q w.one_image i))

  module _ {b d f : S} (c : Commits g (Create own true es) a b) (stays : Stays g b d) (e : Commits g (Mark own Fresh false) d f) where
    -- the volumes of the others are kept
    others : (g.told → IsMiddle (g.site b) (tab g b) (known m) (g.area b) (g.area d) k r) → g.told → (q : TreeRow) → In q m.tree.rows → KeepsVolume g a f q
    others middle told q i =
        let table = subst₂ (λ (s : Site) t. IsTable s.count t) (sym stays.site) (sym stays.table) (next_orderly h c).table in
        volume_then q (volume_commits q h.begins.orderly.table (allowed (g.site a) (tab g a) (known m) own es added k r h.begins) (apart q i) c told)
        (volume_then q (volume_held q stays ((middle told).images q i)) (volume_commits q table (can_end h c stays).allowed (apart q i) e told))

    abbrev begun : VolumeTable
    begun = applied (tab g a) (Create own true es)

    -- its own has the extents that it was made with
    own_extents : extents_of (rows (tab g f) own) ≡ extents_of (rows begun own)
    own_extents = ap (λ t. extents_of (rows t own)) (table_end h c stays e)
        ∙ same_extents (g.site a) begun (known m) own added k r _ (made_is (g.site a) (tab g a) (known m) own es added k r h.begins) own

    own_true : g.told → TrueIn (g.site a).geometry (added.extents * (g.site a).geometry.extent) (volume_of (g.site a) begun (at_rest (reads (g.area d))) own) added.image
        → ImageIsTrue (stored g f) added.image
    own_true told is =
        let s = g.site a in
        let on : extents_of (rows begun own) ≡ es = ap extents_of (there s (tab g a) (known m) own es added k r h.begins) in
        let size : added.extents * s.geometry.extent ≡ span s.geometry.extent (extents_of (rows begun own)) =
        ap (λ j. j * s.geometry.extent) (h.begins.long ∙ ap (λ (xs : List ℕ). length xs) (sym on)) in
        subst (λ n. TrueIn (g.site f).geometry (sectors_in (stored g f) n) (held_in (stored g f) n) added.image) (sym h.begins.named)
        (subst₂ (λ (x : Site) (xs : List ℕ). TrueIn x.geometry (span x.geometry.extent xs) (volume x.geometry.extent xs (g.area f)) added.image) (sym (e.site ∙ stays.site ∙ c.site)) (sym own_extents)
        (subst₂ (λ j (area : Held). TrueIn s.geometry j (volume s.geometry.extent (extents_of (rows begun own)) area) added.image) size
        (sym (rested (g.area d) (g.area f) (e.keeps told) (e.settled told))) is))

    -- and the new image is true in it
    pub true_made : (n : Memory) → n.tree.rows ≡ with_row added m.tree.rows → (g.told → IsMiddle (g.site b) (tab g b) (known m) (g.area b) (g.area d) k r)
        → (g.told → IsSteady (g.site a).geometry (added.extents * (g.site a).geometry.extent) (volume_of (g.site a) begun (at_rest (reads (g.area d))) own) added.image)
        → HasTrueImages g a m → HasTrueImages g f n
    true_made n is middle steady = true_turned g m n (e.site ∙ stays.site ∙ c.site) (λ told each q i. ⊎_elim
        (λ new. inr (subst (λ (x : TreeRow). ImageIsTrue (stored g f) x.image) (sym new) (own_true told (body_true _ _ _ added.image (steady told)))))
        (λ was. inl (was, others middle told q was)) (In-insert is_before added m.tree.rows q (subst (In q) is i)))
