-- The images in memory stay true while new volumes are removed and records of no disk are wiped, whether or not memory is ready.
use Rattle.std.proofs.Common.{◌≡◌, ◌*◌, Bool, true, false, cond, not, List, [], ◌∷◌, length, Option, Some, None, refl, sym, ap, ap₂, ◌∙◌, subst, subst₂, arith}
use Rattle.std.proofs.Math.Logic.{∥∥₁_elim, ∥∥₁_prop}
use Rattle.std.proofs.lemmas.Bool.{true≢false}
use Rattle.std.proofs.lemmas.Option.{none-some, same_Some}
use Rattle.sm_base.specs.declared.names.Name.{Name}
use Rattle.sm_base.specs.declared.names.Name.TheVariants.{Mgt}
use Rattle.sm_disk.specs.Held.{Keeps}
use Rattle.vg_meta.specs.Roomy.{table_alone}
use Rattle.vg_meta.specs.Tables.{Row, VolumeTable, extents_of, name_eq, row_of, rows}
use Rattle.vg_volumes.specs.Sites.{Site, size_of, volume_of}
use Rattle.vg_volumes.specs.Stored.{WorksOn, held_in, stored}
use Rattle.vg_volumes.specs.Volumes.{volume}
use Rattle.vg_volumes.specs.declared.stores.Store.{Ghosts}
use Rattle.vg_volumes.proofs.VolumeLaws.{Keeps-volume}
use Rattle.common_laws.specs.Lists.{In}
use Rattle.sm_machine.specs.WellFormed.{IsWellFormed, is_image_name}
use Rattle.vhd_chain.specs.Trees.{row_name}
use Rattle.vhd_chain.specs.declared.rows.TreeRow.{TreeRow}
use Rattle.sm_standing.specs.Opened.{cleaned, filled}
use Rattle.sm_ready.specs.Frames.{HasTrueImages}
use Rattle.sm_ready.specs.Known.{known, row_face, shape_in, tree_face}
use Rattle.sm_ready.specs.Sessions.{IsOrderlyStore}
use Rattle.sm_ready.specs.declared.memory.Memory.{Memory}
use Rattle.sm_ready.proofs.AfterLaws.{other_keeps}
use Rattle.sm_ready.proofs.FrameLaws.{KeepsVolume, true_kept}
use Rattle.sm_ready.proofs.Orders.{named_row}
use Rattle.sm_ready.proofs.RowLaws.{image_named, tree_found}

-- a volume that is not new stays as it is
filled_row : (rs : List Row) (n : Name) (r : Row) → row_of rs n ≡ Some r → r.fresh ≡ false → row_of (filled rs) n ≡ Some r
unfolding row_of
filled_row [] n r there old = absurd (none-some r there)
filled_row (s ∷ rs) n r there old = by (name_eq s.name n) s.fresh refl refl there (λ h. filled_row rs n r h old)
  where
    kept : (d : Bool) → name_eq s.name n ≡ false → row_of (filled rs) n ≡ Some r → row_of (cond d (s ∷ filled rs) (filled rs)) n ≡ Some r
    kept true apart rest = ap (λ b. cond b (Some s) (row_of (filled rs) n)) apart ∙ rest
    kept false apart rest = rest

    by : (b f : Bool) → name_eq s.name n ≡ b → s.fresh ≡ f → cond b (Some s) (row_of rs n) ≡ Some r → (row_of rs n ≡ Some r → row_of (filled rs) n ≡ Some r) → row_of (cond (not s.fresh) (s ∷ filled rs) (filled rs)) n ≡ Some r
    by true true is fresh at rest = absurd (true≢false (sym fresh ∙ ap (λ (x : Row). x.fresh) (same_Some s r at) ∙ old))
    by true false is fresh at rest = ap (λ d. row_of (cond (not d) (s ∷ filled rs) (filled rs)) n) fresh ∙ ap (λ b. cond b (Some s) (row_of (filled rs) n)) is ∙ at
    by false f is fresh at rest = kept (not s.fresh) is (rest at)

cleaned_row : (t : VolumeTable) (n : Name) (r : Row) → rows t n ≡ Some r → r.fresh ≡ false → rows (cleaned t) n ≡ rows t n
unfolding cleaned
cleaned_row t n r there old = filled_row t.volumes n r there old ∙ sym there

-- the face of an image is that of a volume that is not new
faced : (o : Option Row) (y : TreeRow) → row_face o ≡ tree_face (Some y) → (r : Row) × (o ≡ Some r) × (r.fresh ≡ false)
faced None y is = absurd (none-some _ is)
faced (Some r) y is = (r, refl, by r.fresh refl is)
  where
    by : (f : Bool) → r.fresh ≡ f → cond f None (Some (record { hidden = r.hidden; extents = length r.extents })) ≡ tree_face (Some y) → f ≡ false
    by false fresh is = refl
    by true fresh is = absurd (none-some _ is)

module _ {S : Type 0} (g : Ghosts S) {a b : S} (m : Memory) (site : g.site b ≡ g.site a) (o : IsOrderlyStore g a m) where
  abbrev t : VolumeTable
  t = table_alone (g.table a)

  image_row : IsWellFormed (shape_in (g.site a) t (known m)) → (x : TreeRow) → In x m.tree.rows → (r : Row) × (rows t (row_name x) ≡ Some r) × (r.fresh ≡ false)
  unfolding shape_in
  image_row w x i =
      let named = named_row (g.site a) t (known m) x o i in
      faced (rows t (row_name x)) x (o.images (row_name x) (image_named (row_name x) named) ∙ ap tree_face (tree_found m.tree.rows x w.one_image i))

  -- while new volumes go
  pub true_cleaned : table_alone (g.table b) ≡ cleaned t → (g.told → Keeps (g.area a) (g.area b)) → HasTrueImages g a m → HasTrueImages g b m
  true_cleaned table keeps was told = ∥∥₁_elim o.well_formed ∥∥₁_prop (λ w. true_kept g m m site (λ _ x i. (i, kept w x i)) was told)
    where
      kept : IsWellFormed (shape_in (g.site a) t (known m)) → (x : TreeRow) → In x m.tree.rows → KeepsVolume g a b x
      kept w x i =
          let r = image_row w x i in
          let same : rows (table_alone (g.table b)) (row_name x) ≡ rows t (row_name x) = ap (λ u. rows u (row_name x)) table ∙ cleaned_row t (row_name x) r.0 r.1 r.2 in
          record {
            size = ap₂ (λ (s : Site) (v : Option Row). length (extents_of v) * s.geometry.extent) site same;
            keeps = subst₂ (λ (s : Site) (v : Option Row). Keeps (held_in (stored g a) (row_name x)) (volume s.geometry.extent (extents_of v) (g.area b))) (sym site) (sym same)
                (Keeps-volume (g.site a).geometry.extent (extents_of (rows t (row_name x))) (keeps told));
          }

  -- while records are wiped
  pub true_wiped : (n : Memory) → n.tree ≡ m.tree → WorksOn g Mgt a b → HasTrueImages g a m → HasTrueImages g b n
  unfolding is_image_name
  true_wiped n same works = true_kept g m n site (λ told x i.
      let there = subst (λ z. In x z.rows) same i in
      let stays = works.stays in (
        there,
        record {
          size = ap₂ (λ s u. size_of s u (row_name x)) stays.site stays.table;
          keeps = subst₂ (λ s u. Keeps (held_in (stored g a) (row_name x)) (volume_of s u (g.area b) (row_name x))) (sym stays.site) (sym stays.table)
              (other_keeps (g.site a) t (g.area a) (g.area b) Mgt (row_name x) o.table (omega (arith, (g.site a).geometry.in_range.extent_least)) (works.elsewhere told)
              (λ e. true≢false (sym (named_row (g.site a) t (known m) x o there) ∙ ap is_image_name e)));
        },
      ))
