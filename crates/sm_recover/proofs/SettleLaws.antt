-- An opening from the checks on: what stands behind each of its parts is what the checks read, without what was under way.
use Rattle.std.proofs.Common.{◌≡◌, ◌*◌, ℕ, List, [], length, Option, Some, None, is_some, refl, sym, ap, ap₂, ◌∙◌, subst, subst₂}
use Rattle.common_laws.specs.Lists.{In}
use Rattle.common_laws.proofs.Options.{is_some-parts}
use Rattle.sm_base.specs.declared.names.Name.{Name}
use Rattle.sm_base.specs.declared.names.Name.TheVariants.{Mgt, Vhd, Raw, Old, Cbt, Clone, Inflate, Coalesce, Relink, Leaf}
use Rattle.sm_disk.specs.Held.{Held, IsSettled, Keeps, reads}
use Rattle.vg_meta.specs.Roomy.{table_alone}
use Rattle.vg_meta.specs.Tables.{VolumeTable, extents_of, rows}
use Rattle.vg_volumes.specs.Volumes.{volume}
use Rattle.vhd_image.specs.Bodies.{ImageIsTrue, TrueIn}
use Rattle.vhd_chain.specs.Reading.{AllAreTrue}
use Rattle.vhd_chain.specs.Trees.{row_name}
use Rattle.vg_volumes.specs.Stored.{OnlyReads, Stored, stored}
use Rattle.vg_volumes.specs.declared.stores.Store.{Ghosts}
use Rattle.sm_machine.specs.Shapes.{Shape}
use Rattle.sm_standing.specs.Checks.{IsSoundButLeaf}
use Rattle.sm_standing.specs.Entries.{folding, head}
use Rattle.sm_standing.specs.Keeping.{HoldsWell}
use Rattle.sm_standing.specs.Opened.{cleaned, linked_by, linked_up, opened, undone}
use Rattle.sm_standing.specs.Standing.{standing_volume}
use Rattle.sm_standing.specs.Unfolded.{unfolded, unfolded_content}
use Rattle.sm_standing.proofs.PlainKept.{but_leaf_known}
use Rattle.sm_standing.proofs.UndoneButLeaf.{but_leaf_opened}
use Rattle.sm_standing.proofs.UnfoldedButLeaf.{unfolded_opened, unfolded_sound, unfolded_table}
use Rattle.sm_ready.proofs.EntryKinds.{image_not_folding}
use Rattle.sm_ready.specs.Cleaned.{HasFewRemovals}
use Rattle.sm_ready.specs.Frames.{HasCommits}
use Rattle.sm_ready.specs.Does.{store_shape}
use Rattle.sm_ready.specs.Known.{is_shown, known, shape_in}
use Rattle.sm_ready.specs.Orderly.{IsOrderly}
use Rattle.sm_ready.specs.Ready.{HasNoStrayLog, IsReady}
use Rattle.sm_ready.specs.Repairs.{IsAtRest, IsSame, content_of}
use Rattle.sm_ready.specs.Sessions.{IsAtEase, IsOrderlyStore}
use Rattle.sm_ready.specs.Stores.{content_in, store_content}
use Rattle.sm_ready.specs.declared.memory.Memory.{Memory}
use Rattle.sm_ready.proofs.AgainLaws.{stored_as}
use Rattle.sm_ready.proofs.CleanLaws.{few_from}
use Rattle.sm_ready.proofs.Orders.{named_row}
use Rattle.sm_ready.proofs.RowLaws.{image_named}
use Rattle.sm_ready.proofs.SameLogs.{same_logs_then}
use Rattle.sm_ready.proofs.ShapeLaws.{standing_shown}
use Rattle.sm_ready.proofs.StrayLaws.{shown_stands}
use Rattle.sm_recover.specs.Linking.{IsLinkBegun, LinkedBy, LinksRest}
use Rattle.sm_checks.specs.Links.{IsLinkRight}
use Rattle.sm_checks.specs.Loaded.{stored_undone}
use Rattle.sm_recover.specs.Repairs.{IsChecked, IsCheckedStore, IsEndableStore, IsLinkable}
use Rattle.sm_recover.specs.Steps.{IsPartOf, first_changes, uncopied}
use Rattle.sm_recover.proofs.EndLaws.{first_table, rows_unfolded}
use Rattle.sm_recover.proofs.FirstLaws.{few_link, few_rest, first_done, first_same}
use Rattle.sm_recover.proofs.StepLaws.{part_all}
use Rattle.sm_recover.proofs.SweptLaws.{opened_shape}
use Rattle.sm_recover.proofs.UndoLaws.{held_same}
use Rattle.sm_recover.proofs.UndoneLaws.{undone_checked}
use Rattle.sm_recover.proofs.UnfoldLaws.{undoable_unfolded}

-- each log is that of a visible image where the images are the same
pub no_stray_as : (m n : Memory) → HasNoStrayLog (known m) → n.tree ≡ m.tree → n.logs ≡ m.logs → HasNoStrayLog (known n)
no_stray_as m n none tree logs l i = ap (λ t. is_shown t.rows l.disk) tree ∙ none l (subst (In l) logs i)

-- behind the links
pub same_behind : {S : Type 0} {g : Ghosts S} {d e : S} {n : Memory} {v : VolumeTable} {image : ℕ → List ℕ} → g.site e ≡ g.site d → LinksRest g d e n → IsSame (store_content g e) (content_in (g.site e) v image)
    → IsSame (store_content g d) (content_in (g.site d) v image)
same_behind {g = g} {d} {e} {n} {v} {image} site rest same =
    let w = subst (λ z. IsSame (store_content g e) (content_in z v image)) site same in
    record { table = w.table; kept = w.kept; same_disks = w.same_disks ∙ rest.same_disks; same_logs = same_logs_then rest.same_logs w.same_logs }

-- a: in front of the checks; b: behind them; d: once the first changes are made
module _ {S : Type 0} {g : Ghosts S} {a b d : S} (r : OnlyReads g a b) (site : g.site d ≡ g.site b) (table : table_alone (g.table d) ≡ undone (uncopied (table_alone (g.table b)))) (c : IsEndableStore g a) where
  abbrev t : VolumeTable
  t = table_alone (g.table a)

  same_site : g.site d ≡ g.site a
  same_site = site ∙ r.stays.site

  pub first_behind : table_alone (g.table d) ≡ undone (uncopied t)
  first_behind = table ∙ ap (λ u. undone (uncopied u)) r.stays.table

  -- the table once a link has ended
  pub less_behind : unfolded (table_alone (g.table d)) ≡ undone (unfolded t)
  less_behind = ap unfolded first_behind ∙ (first_done c).less

  pub linkable_behind : (m : Memory) → IsLinkRight t m.tree.rows → IsLinkable (g.site d) (table_alone (g.table d)) m.tree.rows (head (folding (table_alone (g.table d))))
  linkable_behind m right = subst₂ (λ s u. IsLinkable s u m.tree.rows (head (folding u))) (sym same_site) (sym first_behind) ((first_done c).linkable m.tree.rows right)

  pub orderly_behind : (m : Memory) → IsOrderly (g.site a) (undone (unfolded t)) (known m) → IsOrderly (g.site d) (unfolded (table_alone (g.table d))) (known m)
  orderly_behind m o = subst₂ (λ s u. IsOrderly s u (known m)) (sym same_site) (sym less_behind) o

  -- each image that was true is so
  pub true_behind : (m : Memory) → IsOrderly (g.site a) (undone (unfolded t)) (known m) → g.area d ≡ g.area a → AllAreTrue (stored_undone g a) m.tree.rows → AllAreTrue (stored g d) m.tree.rows
  true_behind m o area was x i =
      let n = row_name x in
      let named = named_row (g.site a) (undone (unfolded t)) (known m) x o i in
      let same : rows (table_alone (g.table d)) n ≡ rows (undone (unfolded t)) n = sym (rows_unfolded (table_alone (g.table d)) n (image_not_folding n (image_named n named))) ∙ ap (λ u. rows u n) less_behind in
      subst (λ (h : Held). ImageIsTrue (record { site = g.site d; table = table_alone (g.table d); area = h }) x.image) (sym area)
      (subst (λ s. ImageIsTrue (record { site = s; table = table_alone (g.table d); area = g.area a }) x.image) (sym same_site)
      (subst (λ r. TrueIn (g.site a).geometry (length (extents_of r) * (g.site a).geometry.extent) (volume (g.site a).geometry.extent (extents_of r) (g.area a)) x.image) (sym same) (was x i)))

  pub few_linking : (v : VolumeTable) → HasCommits (length (folding (table_alone (g.table d)))) (table_alone (g.table d)) v → HasFewRemovals t v
  few_linking v few = few_link c v (subst (λ u. HasCommits (length (folding u)) u v) first_behind few)

  module _ (told : g.told) (keeps : Keeps (g.area b) (g.area d)) (was : IsSettled (g.area a)) (settled : IsSettled (g.area b) → IsSettled (g.area d)) where
    area_before : g.area b ≡ g.area a
    area_before = ap (λ (x : Stored). x.area) (stored_as r told)

    settled_before : IsSettled (g.area b)
    settled_before = subst IsSettled (sym area_before) was

    pub area_behind : g.area d ≡ g.area a
    area_behind = held_same (g.area b) (g.area d) keeps settled_before (settled settled_before) ∙ area_before

    -- what stands then is kept and shows the disks from before
    pub same_first : IsSoundButLeaf (store_content g a) → HoldsWell (store_content g a) → IsSame (store_content g a) (store_content g d)
    same_first sound well =
        subst (λ (x : Stored). IsSame (store_content g a) (content_of x)) (sym stored_first)
        (first_same (stored g a) c (undone (uncopied t)) (reads (g.area a))
        (record { table = subst (IsPartOf t (first_changes t)) (first_table t) (part_all t (first_changes t)); sectors = λ settled p below. refl }) was sound well)
      where
        stored_first : stored g d ≡ record { site = g.site a; table = undone (uncopied t); area = g.area a }
        stored_first = ap₂ (λ s u. let x : Stored = record { site = s; table = u; area = g.area d } in x) same_site first_behind ∙ ap (λ (h : Held). let x : Stored = record { site = g.site a; table = undone (uncopied t); area = h } in x) area_behind

    pub link_begun : (m : Memory) → IsSoundButLeaf (store_content g a) → HoldsWell (store_content g a) → IsReady (g.site a) (undone (unfolded t)) (g.area a) (known m) → IsLinkBegun (stored g d) (known m)
    link_begun m sound well ready = record {
      settled = settled settled_before;
      kept = (same_first sound well).kept;
      ready = subst (λ s. IsReady s (unfolded (table_alone (g.table d))) (g.area d) (known m)) (sym same_site)
          (subst₂ (λ u h. IsReady (g.site a) u h (known m)) (sym less_behind) (sym area_behind) ready);
    }

    -- what has the disks of what stands then has those of what stood
    pub link_same : {v : VolumeTable} {image : ℕ → List ℕ} → IsSoundButLeaf (store_content g a) → HoldsWell (store_content g a) → IsSame (store_content g d) (content_in (g.site d) v image)
        → IsSame (store_content g a) (content_in (g.site a) v image)
    link_same {v} {image} sound well left =
        let w = subst (λ z. IsSame (store_content g d) (content_in z v image)) same_site left in
        let first = same_first sound well in
        record { table = w.table; kept = w.kept; same_disks = w.same_disks ∙ first.same_disks; same_logs = same_logs_then first.same_logs w.same_logs }

  -- e: once the children are linked
  module _ {e : S} (site_then : g.site e ≡ g.site d) (ended : table_alone (g.table e) ≡ unfolded (table_alone (g.table d))) where
    pub table_behind : table_alone (g.table e) ≡ undone (unfolded t)
    table_behind = ended ∙ less_behind

    pub checked_behind : IsCheckedStore g e
    checked_behind = subst₂ IsChecked (sym (site_then ∙ same_site)) (sym table_behind) (undone_checked (undoable_unfolded c))

    pub few_all : (v : VolumeTable) → HasFewRemovals (table_alone (g.table e)) v → HasFewRemovals t v
    few_all v few = few_rest c v (few_from v table_behind few)

    -- memory is at rest beside it
    pub start : (n : Memory) → IsOrderlyStore g e n → LinksRest g d e n → IsAtEase n → IsAtRest (stored g e) (known n)
    start n orderly rest ease = record { orderly = orderly; ready = rest.ready; settled = rest.settled; idle = ease.idle }

    -- each log is that of a visible image still
    pub none_stray : (m n : Memory) → IsOrderly (g.site a) (undone (unfolded t)) (known m) → IsOrderlyStore g e n → n.logs ≡ m.logs → HasNoStrayLog (known m) → HasNoStrayLog (known n)
    none_stray m n before orderly logs none l i =
        let stands = shown_stands (g.site a) (undone (unfolded t)) (known m) l.disk before (none l (subst (In l) logs i)) in
        let w = is_some-parts (standing_volume (table_alone (g.table e)) l.disk) (ap (λ u. is_some (standing_volume u l.disk)) table_behind ∙ stands) in
        standing_shown (g.site e) (table_alone (g.table e)) (known n) l.disk w.0 orderly w.1

    -- and the shape that an opening is to make of it is the one that it is to make of what stood first
    pub opened_behind : (m n : Memory) → IsSoundButLeaf (store_content g a) → IsSettled (g.area a) → IsOrderly (g.site a) (undone (unfolded t)) (known m) → IsReady (g.site a) (undone (unfolded t)) (g.area a) (known m) → IsAtEase m
        → HasNoStrayLog (known m) → IsAtRest (stored g e) (known n) → n.attached.disks ≡ [] → HasNoStrayLog (known n) → IsLinkRight t m.tree.rows
        → LinkedBy (head (folding (table_alone (g.table d)))) m.tree.rows (shape_in (g.site d) (unfolded (table_alone (g.table d))) (known m)) (store_shape g e n)
        → opened (content_of (stored g e)) ≡ opened (store_content g a)
    opened_behind m n sound was orderly ready ease none_first rest unattached none_then right linked =
        let x : Stored = record { site = g.site a; table = undone (unfolded t); area = g.area a } in
        let s = but_leaf_known (store_content g a) sound in
        let begun : IsAtRest x (known m) = record { orderly = orderly; ready = ready; settled = was; idle = ease.idle } in
        let first = opened_shape x (known m) begun ease.unattached none_first in
        let last = opened_shape (stored g e) (known n) rest unattached none_then in
        let shapes : store_shape g e n ≡ linked_up t (shape_in (g.site a) (undone (unfolded t)) (known m)) =
        (first_done c).linked m.tree.rows _ _ right (subst (λ u. LinkedBy (head (folding u)) m.tree.rows (shape_in (g.site a) (undone (unfolded t)) (known m)) (store_shape g e n)) first_behind
        (subst₂ (λ z u. LinkedBy (head (folding (table_alone (g.table d)))) m.tree.rows (shape_in z u (known m)) (store_shape g e n)) same_site less_behind linked)) in
        last ∙ ap₂ (λ k σ. let y : Shape = record σ { sequence = k } in y) (ap (λ u. (cleaned u).sequence) table_behind) shapes
        ∙ up_numbered (head (folding t)) (shape_in (g.site a) (undone (unfolded t)) (known m)) (cleaned (undone (unfolded t))).sequence
        ∙ ap (linked_up t) (sym first ∙ but_leaf_opened (unfolded_content (store_content g a)) (unfolded_table (store_content g a) s c.table) (g.site a).geometry.in_range (unfolded_sound (store_content g a) s c.table))
        ∙ sym (unfolded_opened (store_content g a) s c.table)
      where
        -- whatever its number is
        up_numbered : (h : Option Name) (σ : Shape) (k : ℕ) → record (linked_by t h σ) { sequence = k } ≡ linked_by t h (record σ { sequence = k })
        up_numbered None σ k = refl
        up_numbered (Some (Relink v p)) σ k = refl
        up_numbered (Some Mgt) σ k = refl
        up_numbered (Some (Vhd u)) σ k = refl
        up_numbered (Some (Raw u)) σ k = refl
        up_numbered (Some (Old u)) σ k = refl
        up_numbered (Some (Cbt u)) σ k = refl
        up_numbered (Some (Clone u v w)) σ k = refl
        up_numbered (Some (Inflate u v)) σ k = refl
        up_numbered (Some (Coalesce u v)) σ k = refl
        up_numbered (Some (Leaf u v)) σ k = refl
