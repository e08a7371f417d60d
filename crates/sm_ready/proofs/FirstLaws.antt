-- The first commit of a command that makes a disk: a new volume stands beside the images, and nothing else changes.
use Rattle.std.proofs.Common.{◌≡◌, ◌≢◌, ◌⊎◌, inl, inr, ⊎_elim, ℕ, ◌≤◌, Bool, true, false, cond, List, length, Option, Some, None, refl, sym, ap, ap₂, ◌∙◌}
use Rattle.std.proofs.Math.Path.{fun_ext}
use Rattle.std.proofs.Math.Logic.{∥∥₁_elim}
use Rattle.std.proofs.Props.{props}
use Rattle.std.proofs.lemmas.Option.{none-some}
use Rattle.sm_base.specs.declared.names.Name.{Name}
use Rattle.sm_base.specs.declared.names.Name.TheVariants.{Mgt, Vhd, Raw, Old, Cbt, Clone, Inflate, Coalesce, Relink, Leaf}
use Rattle.sm_disk.specs.Held.{Held, reads}
use Rattle.vg_meta.specs.Tables.{VolumeTable, Row, rows, extents_of, name_eq}
use Rattle.vg_meta.specs.Changes.{Permits, applied, made}
use Rattle.vg_meta.specs.declared.changes.Change.TheVariants.{Create}
use Rattle.vg_meta.proofs.ByName.{changes_by_name, mgt_stays}
use Rattle.vg_meta.proofs.ChangeLaws.{IsTable-applied}
use Rattle.vg_meta.proofs.NameLaws.{name_eq-true, name_eq-false}
use Rattle.vg_volumes.specs.Commits.{IsBefore}
use Rattle.vg_volumes.specs.Sites.{Site, area_size}
use Rattle.vg_volumes.specs.Volumes.{piece}
use Rattle.common_laws.specs.Lists.{In, ◌>>=◌}
use Rattle.sm_machine.specs.Shapes.{image_limit}
use Rattle.sm_machine.specs.WellFormed.{is_image_name}
use Rattle.sm_record.specs.Records.{reading}
use Rattle.sm_record.specs.declared.records.Record.{Record}
use Rattle.sm_standing.specs.Checks.{images as table_images, is_misnamed}
use Rattle.sm_standing.specs.Contents.{Content, sectors_of, record_of}
use Rattle.sm_standing.specs.Images.{image_of}
use Rattle.sm_standing.specs.Standing.{standing_volume, disk_at, disk_in, disks}
use Rattle.sm_standing.proofs.DiskLists.{disks_same}
use Rattle.sm_standing.proofs.ImageLaws.{new_image, sectors_same}
use Rattle.sm_standing.proofs.RecordLists.{records_same, record_of_first, first_of}
use Rattle.sm_ready.specs.Done.{HasDone, IsCommit, at_rest}
use Rattle.sm_ready.specs.Known.{Known, shape_in}
use Rattle.vhd_chain.specs.declared.rows.TreeRow.{TreeRow}
use Rattle.vhd_chain.specs.Trees.{row_name, tree_row}
use Rattle.sm_ready.specs.Orderly.{IsOrderly}
use Rattle.sm_ready.specs.Ready.{IsReady}
use Rattle.sm_ready.specs.Stores.{Leaving, content_now}
use Rattle.sm_ready.proofs.CommitLaws.{law_single_commit, volume_rested}
use Rattle.sm_ready.proofs.FreshLaws.{orderly_new, visible_new}
use Rattle.sm_standing.proofs.ImageSectors.{vhd_same, raw_same}
use Rattle.sm_ready.proofs.LeftLaws.{none_of_vhd, none_of_raw}
use Rattle.sm_ready.proofs.Orders.{geometry_of, whole, unrowed}
use Rattle.sm_ready.proofs.OperationLaws.{below_alike}
use Rattle.sm_ready.proofs.LogLaws.{holds_commit, holds_ready}
use Rattle.sm_ready.proofs.LogRows.{name_apart}
use Rattle.sm_ready.proofs.RestLaws.{IsOfRow, ready_rest}
use Rattle.sm_ready.proofs.RowLaws.{tree_found, image_named}
use Rattle.sm_ready.proofs.ShapeLaws.{HasNoNew, plainly_stands}

-- a new volume is made for an image
pub record IsNew (s : Site) (t : VolumeTable) (m : Known) (x : Name) (es : List ℕ) : Type 0 where
  pub no_new : HasNoNew t
  pub allows : Permits s.count t (Create x true es)
  pub image : is_image_name x ≡ true
  pub few : length (table_images (applied t (Create x true es))) ≤ image_limit
  pub right : is_misnamed (applied t (Create x true es)) (made x true es) ≡ false

module _ (s : Site) (t : VolumeTable) (old : Held) (m : Known) (x : Name) (es : List ℕ) (o : IsOrderly s t m) (ready : IsReady s t old m) (h : IsNew s t m x es) where
  abbrev was : Content
  was = content_now s t old

  abbrev now : Content
  now = content_now s (applied t (Create x true es)) (at_rest (reads old))

  still : IsOrderly s (applied t (Create x true es)) m
  still = orderly_new s t m x es o h.no_new h.allows h.image h.few h.right

  other_row : (n : Name) → n ≢ x → rows (applied t (Create x true es)) n ≡ rows t n
  other_row n other = (changes_by_name s.count t (Create x true es) o.table h.allows).others n other

  there : rows (applied t (Create x true es)) x ≡ Some (made x true es)
  there = (changes_by_name s.count t (Create x true es) o.table h.allows).does.1

  gone : rows t x ≡ None
  gone = (changes_by_name s.count t (Create x true es) o.table h.allows).does.0

  sector : (p : ℕ) (n : Name) → rows (applied t (Create x true es)) n ≡ rows t n → sectors_of now n p ≡ sectors_of was n p
  unfolding sectors_of
  sector p n same = ap (λ r. piece s.geometry.extent (extents_of r) (reads old) p) same

  retabled : (n : Name) (y : Option Row) → n ≢ x → rows t n ≡ y → image_of now n ≡ image_of was n
  unfolding image_of
  retabled (Vhd u) None other is = none_of_vhd now u (other_row (Vhd u) other ∙ is) ∙ sym (none_of_vhd was u is)
  retabled (Vhd u) (Some v) other is =
      vhd_same was now u u v v (geometry_of s t m o) (record {
        extent = refl;
        block = refl;
        entries = refl;
        before = is;
        after = other_row (Vhd u) other ∙ is;
        extents = refl;
        fresh = refl;
        sectors = λ p _. sector p (Vhd u) (other_row (Vhd u) other);
      })
      (whole s t m (Vhd u) o) (whole s (applied t (Create x true es)) m (Vhd u) still)
  retabled (Raw u) None other is = none_of_raw now u (other_row (Raw u) other ∙ is) ∙ sym (none_of_raw was u is)
  retabled (Raw u) (Some v) other is =
      raw_same was now u u v v (record {
        extent = refl;
        block = refl;
        entries = refl;
        before = is;
        after = other_row (Raw u) other ∙ is;
        extents = refl;
        fresh = refl;
        sectors = λ p _. sector p (Raw u) (other_row (Raw u) other);
      })
  retabled Mgt y other is = refl
  retabled (Old u) y other is = refl
  retabled (Cbt u) y other is = refl
  retabled (Clone d b w) y other is = refl
  retabled (Inflate u j) y other is = refl
  retabled (Coalesce c p) y other is = refl
  retabled (Relink c p) y other is = refl
  retabled (Leaf l p) y other is = refl

  none_before : (n : Name) → rows t n ≡ None → image_of was n ≡ None
  unfolding image_of
  none_before (Vhd u) e = none_of_vhd was u e
  none_before (Raw u) e = none_of_raw was u e
  none_before Mgt e = refl
  none_before (Old u) e = refl
  none_before (Cbt u) e = refl
  none_before (Clone d b w) e = refl
  none_before (Inflate u j) e = refl
  none_before (Coalesce c p) e = refl
  none_before (Relink c p) e = refl
  none_before (Leaf l p) e = refl

  name_case : (n : Name) → (n ≡ x) ⊎ (n ≢ x)
  name_case n = by (name_eq n x) refl
    where
      by : (b : Bool) → name_eq n x ≡ b → (n ≡ x) ⊎ (n ≢ x)
      by true e = inl (name_eq-true n x e)
      by false e = inr (name_eq-false n x e)

  images_same : (n : Name) → image_of now n ≡ image_of was n
  images_same n = ⊎_elim
      (λ same. ap (image_of now) same ∙ new_image now x (made x true es) there refl ∙ sym (ap (image_of was) same ∙ none_before x gone))
      (λ other. retabled n (rows t n) other refl) (name_case n)

  recorded : (u : List ℕ) → record_of now u ≡ record_of was u
  recorded u = record_of_first now u
      ∙ ap first_of (records_same was now u (λ k below. ap reading (sector k Mgt (mgt_stays s.count t (Create x true es) o.table h.allows))))
      ∙ sym (record_of_first was u)

  stands_same : (u : List ℕ) → standing_volume (applied t (Create x true es)) u ≡ standing_volume t u
  stands_same u =
      plainly_stands s (applied t (Create x true es)) m u still
      ∙ ap₂ (λ (a b : Bool). cond a (Some (Vhd u)) (cond b (Some (Raw u)) None)) (visible_new s t m x (Vhd u) es o h.allows) (visible_new s t m x (Raw u) es o h.allows)
      ∙ sym (plainly_stands s t m u o)

  pub disks_new : disks now ≡ disks was
  unfolding disk_at
  disks_new = disks_same was now (λ u.
      ap (λ (y : Option Name). y >>= (λ n. record_of now u >>= (λ q. Some (disk_in now u q n)))) (stands_same u)
      ∙ ap (λ (y : Option Record). standing_volume t u >>= (λ n. y >>= (λ q. Some (disk_in now u q n)))) (recorded u)
      ∙ ap (λ (f : Name → List (List ℕ)). standing_volume t u >>= (λ n. record_of was u >>= (λ q. Some (record { uuid = u; label = q.label; origin = q.origin; read_only = q.read_only; sectors = f n })))) (fun_ext (sectors_same was now images_same)))

  pub ready_new : IsReady s (applied t (Create x true es)) (at_rest (reads old)) m
  unfolding shape_in
  ready_new = ready_rest s t (applied t (Create x true es)) old m m ready from (ap extents_of (mgt_stays s.count t (Create x true es) o.table h.allows)) refl
      (holds_commit (holds_ready s t old m o ready) (applied t (Create x true es)) (IsTable-applied s.count t (Create x true es) o.table h.allows) (λ u. other_row (Cbt u) (name_apart x h.image u)) (λ u. volume_rested s (applied t (Create x true es)) (reads old) (Cbt u))).logs
      (volume_rested s (applied t (Create x true es)) (reads old))
      (below_alike was now m.op refl refl (λ n _. images_same n) ready.firm.below)
    where
      from : (q : TreeRow) → In q m.rows → IsOfRow t (applied t (Create x true es)) m q
      from q i = record { row = q; there = i; image = refl; extents = refl; same = ap extents_of (other_row (row_name q) away) }
        where
          away : row_name q ≢ x
          away same = ∥∥₁_elim o.well_formed (hlevel props) (λ w. none-some q (sym (unrowed s t m x o (image_named x h.image) gone) ∙ ap (tree_row m.rows) (sym same) ∙ tree_found m.rows q w.one_image i))

  pub law_new : (new : Held) (before leaves : Leaving) (ok : Type 0) → ((image : ℕ → List ℕ) → IsBefore (area_size s) t old t image → before t image)
      → IsCommit s t (applied t (Create x true es)) old new leaves ok
      → HasDone s t (applied t (Create x true es)) old new m before leaves ok (disks was)
  law_new new before leaves ok might commit =
      law_single_commit s t (applied t (Create x true es)) old new m m before leaves ok (disks was) o ready still ready_new might commit disks_new refl
