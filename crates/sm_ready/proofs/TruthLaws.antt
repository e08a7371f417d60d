-- What is asked of the images below, by what holds between two steps: an image stands in its volume, and is true of it.
use Rattle.std.proofs.Common.{◌≡◌, ◌⊎◌, inl, inr, ⊎_elim, ℕ, ◌*◌, ◌==◌, Bool, true, false, List, Option, Some, refl, sym, ap, ◌∙◌, subst, eqb-true, eq-eqb}
use Rattle.std.proofs.Math.Logic.{∥∥₁_elim, ∥∥₁_map}
use Rattle.std.proofs.Props.{props}
use Rattle.std.proofs.lemmas.Bool.{true≢false}
use Rattle.std.proofs.lemmas.Option.{same_Some}
use Rattle.common_laws.specs.Lists.{In}
use Rattle.sm_base.specs.Numbers.{IsGeometry}
use Rattle.sm_base.specs.declared.sizes.Geometry.{Geometry}
use Rattle.sm_disk.specs.Held.{Held}
use Rattle.vg_meta.specs.Roomy.{table_alone}
use Rattle.vg_meta.specs.Tables.{VolumeTable}
use Rattle.vg_volumes.specs.Sites.{Site, size_of}
use Rattle.vg_volumes.specs.Stored.{held_in, sectors_in, stored}
use Rattle.vg_volumes.specs.declared.stores.Store.{Ghosts}
use Rattle.vhd_chain.specs.Trees.{row_name, tree_row}
use Rattle.vhd_chain.specs.declared.rows.TreeRow.{TreeRow}
use Rattle.vhd_map.specs.Places.{blank}
use Rattle.vhd_layout.specs.Layouts.{entry}
use Rattle.vhd_layout.proofs.ReadingLaws.{valid-decided}
use Rattle.vhd_volumes.specs.declared.heads.Head.{Head}
use Rattle.vhd_volumes.specs.Truth.{IsTrueIn}
use Rattle.vhd_image.specs.Bodies.{ImageIsTrue, StandsIn, TrueIn}
use Rattle.vhd_image.specs.declared.images.Body.{Body}
use Rattle.vhd_image.specs.declared.images.Body.TheVariants as body
use Rattle.sm_ready.specs.Frames.{HasTrueImages}
use Rattle.sm_ready.specs.Known.{Known, known, shape_in}
use Rattle.sm_ready.specs.Orderly.{IsOrderly}
use Rattle.sm_ready.specs.Sessions.{IsOrderlyStore}
use Rattle.sm_ready.specs.declared.memory.Memory.{Memory}
use Rattle.sm_ready.proofs.LeftLaws.{size_there}
use Rattle.sm_ready.proofs.Orders.{geometry_of, named_row, rowed}
use Rattle.sm_ready.proofs.RowLaws.{image_named, tree_found, volume_there}

module _ (s : Site) (t : VolumeTable) (m : Known) (o : IsOrderly s t m) where
  -- ---- an image stands in its volume

  pub row_found : (r : TreeRow) → In r m.rows → tree_row m.rows (row_name r) ≡ Some r
  unfolding shape_in
  row_found r i = ∥∥₁_elim o.well_formed (hlevel props) (λ w. tree_found m.rows r w.one_image i)

  pub row_sectors : (r : TreeRow) → In r m.rows → size_of s t (row_name r) ≡ r.extents * s.geometry.extent
  row_sectors r i =
      let image = image_named (row_name r) (named_row s t m r o i) in
      let found = row_found r i in
      let v = volume_there s t m r o image found in
      let w = rowed s t m (row_name r) v.row o image v.there v.filled in
      let same : w.row ≡ r = same_Some w.row r (sym w.found ∙ found) in
      size_there s t (row_name r) v.row v.there ∙ ap (λ k. k * s.geometry.extent) (sym w.long ∙ ap (λ (q : TreeRow). q.extents) same)

  pub row_stands : (r : TreeRow) → In r m.rows → StandsIn s.geometry (size_of s t (row_name r)) r.image
  row_stands r i = subst (λ n. StandsIn s.geometry n r.image) (sym (row_sectors r i)) (o.stands r i)

-- ---- and is true of it

kind_of : (k : ℕ) → ∥ (k ≡ 3) ⊎ (k ≡ 4) ∥₁ → (k ≡ 3) ⊎ (k ≡ 4)
kind_of k x = by (k == 3) refl
  where
    by : (b : Bool) → (k == 3) ≡ b → (k ≡ 3) ⊎ (k ≡ 4)
    by true e = inl (eqb-true k 3 e)
    by false e = inr (∥∥₁_elim x (hlevel props) (λ y. ⊎_elim (λ is. absurd (true≢false (sym (eq-eqb k 3 is) ∙ e))) (λ is. is) y))

blank_or : (k c : ℕ) → ∥ (k ≡ blank) ⊎ (k ≡ c) ∥₁ → (k ≡ blank) ⊎ (k ≡ c)
blank_or k c x = by (k == blank) refl
  where
    by : (b : Bool) → (k == blank) ≡ b → (k ≡ blank) ⊎ (k ≡ c)
    by true e = inl (eqb-true k blank e)
    by false e = inr (∥∥₁_elim x (hlevel props) (λ y. ⊎_elim (λ is. absurd (true≢false (sym (eq-eqb k blank is) ∙ e))) (λ is. is) y))

truth_known : (g : Geometry) (n : ℕ) (h : Held) (head : Head) (slots : List (Option ℕ)) → IsGeometry g.extent g.block g.entries → ∥ IsTrueIn g n h head slots ∥₁ → IsTrueIn g n h head slots
truth_known g n h head slots ok x = record {
  now = record {
    head = record {
      footer_reads = ∥∥₁_elim x (hlevel props) (λ y. y.now.head.footer_reads);
      footer_fits = record {
        kind = kind_of head.footer.kind (∥∥₁_map x (λ y. y.now.head.footer_fits.kind));
        size = ∥∥₁_elim x (hlevel props) (λ y. y.now.head.footer_fits.size);
        least = ∥∥₁_elim x (hlevel props) (λ y. y.now.head.footer_fits.least);
        most = ∥∥₁_elim x (hlevel props) (λ y. y.now.head.footer_fits.most);
      };
      header_reads = ∥∥₁_elim x (hlevel props) (λ y. y.now.head.header_reads);
      header_fits = record {
        table_offset = ∥∥₁_elim x (hlevel props) (λ y. y.now.head.header_fits.table_offset);
        entries = ∥∥₁_elim x (hlevel props) (λ y. y.now.head.header_fits.entries);
        block = ∥∥₁_elim x (hlevel props) (λ y. y.now.head.header_fits.block);
        parent = ∥∥₁_elim x (hlevel props) (λ y. y.now.head.header_fits.parent);
      };
      room = ∥∥₁_elim x (hlevel props) (λ y. y.now.head.room);
    };
    table = λ b below. ∥∥₁_elim x (hlevel props) (λ y. y.now.table b below);
    slots = record {
      sized = λ b k is. ∥∥₁_elim x (hlevel props) (λ y. y.now.slots.sized b k is);
      fits = λ b k is. ∥∥₁_elim x (hlevel props) (λ y. y.now.slots.fits b k is);
      once = λ b c k is also. ∥∥₁_elim x (hlevel props) (λ y. y.now.slots.once b c k is also);
    };
  };
  valid = λ v allows. (valid-decided g.extent g.block g.entries n v ok).0 (∥∥₁_elim x (hlevel props) (λ y. (valid-decided g.extent g.block g.entries n v ok).1 (y.valid v allows)));
  within = λ v allows b below. blank_or (entry v b) _ (∥∥₁_map x (λ y. y.within v allows b below));
}

body_known : (g : Geometry) (n : ℕ) (h : Held) (b : Body) → IsGeometry g.extent g.block g.entries → ∥ TrueIn g n h b ∥₁ → TrueIn g n h b
body_known g n h (body.Raw volume size) ok x = tt
body_known g n h (body.Vhd head slots) ok x = truth_known g n h head slots ok x

pub row_true : {S : Type 0} (g : Ghosts S) (s : S) (m : Memory) → IsOrderlyStore g s m → HasTrueImages g s m → g.told → (r : TreeRow) → In r m.tree.rows → ImageIsTrue (stored g s) r.image
row_true g s m o x told r i =
    body_known (g.site s).geometry (sectors_in (stored g s) (row_name r)) (held_in (stored g s) (row_name r)) r.image (geometry_of (g.site s) (table_alone (g.table s)) (known m) o) (∥∥₁_map (x told) (λ each. each r i))
