-- The images in memory stay true while the volume of one gets more extents or fewer: that one in those that it has then, once its footer
-- stands at their end and nothing is pending.
use Rattle.std.proofs.Common.{◌≡◌, ◌≢◌, ⊎_elim, inl, inr, ℕ, ◌-◌, ◌<◌, List, Option, sym, ap, ◌∙◌, subst, arith}
use Rattle.std.proofs.Math.Path.{fun_ext}
use Rattle.sm_base.specs.Numbers.{IsGeometry}
use Rattle.common_laws.specs.Lists.{In}
use Rattle.sm_base.specs.declared.names.Name.{Name}
use Rattle.sm_base.specs.declared.sizes.Geometry.{Geometry}
use Rattle.sm_disk.specs.Held.{Held, Allows, IsSettled, Keeps, reads}
use Rattle.sm_disk.proofs.HeldLaws.{Keeps-then}
use Rattle.vg_meta.specs.Tables.{VolumeTable, extents_of, rows}
use Rattle.vg_volumes.specs.Stored.{held_in, sectors_in, stored}
use Rattle.vg_volumes.specs.Volumes.{KeepsAt, span, volume}
use Rattle.vg_volumes.specs.declared.stores.Store.{Ghosts}
use Rattle.vg_volumes.proofs.VolumeLaws.{Keeps-volume}
use Rattle.vhd_layout.specs.Layouts.{Sectors}
use Rattle.vhd_layout.specs.Images.{IsImage}
use Rattle.vhd_map.specs.Slots.{slot_of}
use Rattle.vhd_volumes.specs.Truth.{IsTrueIn, layout_in}
use Rattle.vhd_volumes.specs.declared.heads.Head.{Head}
use Rattle.vhd_volumes.proofs.SteadyLaws.{quiet_settled}
use Rattle.vhd_write.proofs.ImageKept.{image-kept}
use Rattle.vhd_image.specs.Bodies.{IfVhd, ImageIsTrue, TrueIn}
use Rattle.vhd_image.specs.Changes.{EndsAt}
use Rattle.vhd_image.specs.declared.images.Body.{Body}
use Rattle.vhd_image.specs.declared.images.Body.TheVariants as body
use Rattle.vhd_image.proofs.ContentLaws.{is-layout}
use Rattle.vhd_image.proofs.SteadyLaws.{true_quiet}
use Rattle.vhd_chain.specs.Trees.{row_name}
use Rattle.vhd_chain.specs.declared.rows.TreeRow.{TreeRow}
use Rattle.sm_ready.specs.Done.{at_rest}
use Rattle.sm_ready.specs.Frames.{HasTrueImages}
use Rattle.sm_ready.specs.declared.memory.Memory.{Memory}
use Rattle.sm_ready.proofs.ChainLaws.{tab}
use Rattle.sm_ready.proofs.FrameLaws.{KeepsVolume, true_turned}
use Rattle.sm_ready.proofs.RestLaws.{keeps_rest}
use Rattle.sm_space.specs.Inflating.{with_extents}
use Rattle.sm_space.proofs.SizedLaws.{In-turned}

-- ---- one image

module _ (g : Geometry) (n : ℕ) (head : Head) (m : List (Option ℕ)) (ok : IsGeometry g.extent g.block g.entries) where
  -- it stays true where its own sectors are kept
  true_front : {a b : Held} → KeepsAt (λ p. p < n) a b → IsTrueIn g n a head m → IsTrueIn g n b head m
  true_front {a} {b} keeps was =
      let room = was.now.head.room in
      let before : (v : Sectors) → Allows n b v → Allows n a v = λ v allows p below. keeps.may p (v p) below (allows p below) in
      record {
        now = image-kept {l = layout_in g head.footer n} (is-layout g head.footer n ok)
            (record { front = λ p below. keeps.reads p (omega (arith, below, room)); last = keeps.reads (n - 1) (omega (arith, room)) }) was.now;
        valid = λ v allows. was.valid v (before v allows);
        within = λ v allows. was.within v (before v allows);
      }

-- so one of either kind
pub body_front : (g : Geometry) (n : ℕ) (b : Body) {x y : Held} → IsGeometry g.extent g.block g.entries → KeepsAt (λ p. p < n) x y → TrueIn g n x b → TrueIn g n y b
body_front g n (body.Raw volume size) ok keeps was = tt
body_front g n (body.Vhd head m) ok keeps was = true_front g n head m ok keeps was

-- and in so many sectors where it ends there now, once all is settled
pub body_ended : (g : Geometry) (n k : ℕ) (b : Body) {x y z w : Held} → IsGeometry g.extent g.block g.entries → KeepsAt (λ p. p < n) x y → IfVhd b (λ head m. EndsAt g k head m y z)
    → Keeps z w → IsSettled w → TrueIn g n x b → TrueIn g k w b
body_ended g n k (body.Raw volume size) ok keeps ends kept settled was = tt
body_ended g n k (body.Vhd head m) {w = w} ok keeps ends kept settled was =
    true_quiet g k head m ok w (quiet_settled w settled)
    (subst (λ (v : Sectors). IsImage (layout_in g head.footer k) v head.footer head.header (slot_of m)) (sym (fun_ext kept.reads)) (ends n (true_front g n head m ok keeps was)))

-- ---- the images in memory

module _ {S : Type 0} {g : Ghosts S} {a z : S} where
  -- a volume that has the extents that it had, of which work kept what it held, and a commit what was read then
  pub volume_ended : {t : VolumeTable} (area : Held) (r : TreeRow) → stored g z ≡ record { site = g.site a; table = t; area = at_rest (reads area) } → rows t (row_name r) ≡ rows (tab g a) (row_name r)
      → Keeps (held_in (stored g a) (row_name r)) (volume (g.site a).geometry.extent (extents_of (rows (tab g a) (row_name r))) area) → KeepsVolume g a z r
  volume_ended area r ran same keeps =
      let x = row_name r in
      let extent = (g.site a).geometry.extent in
      record {
        size = ap (λ y. sectors_in y x) ran ∙ ap (λ o. span extent (extents_of o)) same;
        keeps = subst (λ y. Keeps (held_in (stored g a) x) (held_in y x)) (sym ran)
            (subst (λ o. Keeps (held_in (stored g a) x) (volume extent (extents_of o) (at_rest (reads area)))) (sym same)
            (Keeps-then keeps (Keeps-volume extent (extents_of (rows (tab g a) x)) (keeps_rest area))));
      }

  -- one of them is true in another number of extents, and the volumes of the others are kept
  pub true_sized : (n : Name) (to : ℕ) (m k : Memory) (row : TreeRow) → g.site z ≡ g.site a → k.tree.rows ≡ with_extents n to m.tree.rows → ((r : TreeRow) → In r m.tree.rows → row_name r ≡ n → r ≡ row)
      → (g.told → (r : TreeRow) → In r m.tree.rows → row_name r ≢ n → KeepsVolume g a z r) → (g.told → ImageIsTrue (stored g a) row.image → ImageIsTrue (stored g z) row.image)
      → HasTrueImages g a m → HasTrueImages g z k
  true_sized n to m k row site is only other own = true_turned g m k site (λ told each r i.
      let w = In-turned n to m.tree.rows r (subst (In r) is i) in
      let mine = only w.row w.there in ⊎_elim
      (λ away. inl (subst (λ (x : TreeRow). In x m.tree.rows × KeepsVolume g a z x) (sym away.1) (w.there, other told w.row w.there away.0)))
      (λ own_is. inr (subst (λ (x : TreeRow). ImageIsTrue (stored g z) x.image) (sym own_is.1)
      (subst (λ (x : TreeRow). ImageIsTrue (stored g z) x.image) (sym (mine own_is.0))
      (own told (each row (subst (λ (x : TreeRow). In x m.tree.rows) (mine own_is.0) w.there)))))) w.how)
