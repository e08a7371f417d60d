-- A hidden image gets a greater size by its footers: whatever a stop leaves of it is that image, with its old size or the new one.
-- Every image reads as before, and the image itself is no disk's, so the disks are those from before.
use Rattle.std.proofs.Common.{◌≡◌, ◌≢◌, ⊎_elim, ℕ, ◌*◌, not, Bool, true, false, cond, List, [], map, Option, Some, None, refl, sym, ap, ap₂, ◌∙◌, subst}
use Rattle.std.proofs.Math.Path.{fun_ext}
use Rattle.std.proofs.Math.Logic.{∥∥₁_elim}
use Rattle.std.proofs.Props.{props}
use Rattle.std.proofs.lemmas.Bool.{true≢false}
use Rattle.std.proofs.lemmas.Option.{same_Some}
use Rattle.common_laws.specs.Lists.{numbers, ◌>>=◌}
use Rattle.sm_base.specs.declared.names.Name.{Name}
use Rattle.sm_base.specs.declared.names.Name.TheVariants.{Vhd, Raw, Cbt, Relink}
use Rattle.sm_machine.specs.Operations as op
use Rattle.sm_disk.specs.Held.{Held, Keeps, reads}
use Rattle.sm_disk.proofs.HeldLaws.{Keeps-then}
use Rattle.vg_meta.specs.Tables.{Row, VolumeTable, extents_of, rows}
use Rattle.vg_volumes.specs.Sites.{Site, volume_of}
use Rattle.vg_volumes.specs.Volumes.{KeepsElsewhere}
use Rattle.vg_volumes.proofs.VolumeLaws.{Keeps-volume}
use Rattle.vhd_layout.specs.Layouts.{Sectors}
use Rattle.vhd_image.specs.Changes.{resized}
use Rattle.vhd_image.specs.Steady.{IsSteady}
use Rattle.vhd_chain.specs.Trees.{row_name, tree_row, with_replaced}
use Rattle.vhd_chain.specs.declared.rows.TreeRow.{TreeRow}
use Rattle.sm_run.specs.Between.{IsStill}
use Rattle.sm_standing.specs.Contents.{record_of}
use Rattle.sm_standing.specs.Entries.{is_visible}
use Rattle.sm_standing.specs.Images.{Image, image_of, sectors_read}
use Rattle.sm_standing.specs.Keeping.{IsKept}
use Rattle.sm_standing.specs.Standing.{disk_at, disk_in, disks, standing_volume}
use Rattle.sm_standing.proofs.DiskLists.{disks_same}
use Rattle.sm_standing.proofs.ImageLaws.{raised_same}
use Rattle.sm_ready.specs.Done.{at_rest}
use Rattle.sm_ready.specs.Known.{Known}
use Rattle.sm_ready.specs.Orderly.{IsOrderly}
use Rattle.sm_ready.specs.Outlined.{link_in}
use Rattle.sm_ready.specs.Ready.{IsBelow, IsReady}
use Rattle.sm_ready.specs.Stores.{Leaving, MayShow, content_in, content_now}
use Rattle.sm_ready.proofs.AfterLaws.{other_keeps}
use Rattle.sm_ready.proofs.AlikeLaws.{disks_alike}
use Rattle.sm_ready.proofs.CommitLaws.{still}
use Rattle.sm_ready.proofs.KeptLaws.{entry_relink}
use Rattle.sm_ready.proofs.LeftLaws.{IsLeft, extent_some, image_still, law_left_now, left_in, left_now, now_sector}
use Rattle.sm_ready.proofs.LogLaws.{holds_keeps, holds_ready, logged_left}
use Rattle.sm_ready.proofs.LogRows.{image_apart}
use Rattle.sm_ready.proofs.RestLaws.{keeps_rest}
use Rattle.sm_ready.proofs.ShapeLaws.{plainly_stands, seen_row}
use Rattle.sm_ready.proofs.StopLaws.{image_by_sectors, name_or_not}
use Rattle.sm_ready.proofs.GrownLaws.{IsGrowing, grown_kept, others_same, raised, recorded}
use Rattle.sm_ready.proofs.GrownStores.{ready_sized}
use Rattle.sm_ready.proofs.SizedRows.{link_sized, other_sized, sized}
use Rattle.gc_coalesce.specs.Beginning.{LeavesStill}
use Rattle.gc_coalesce.proofs.BeginRaise.{IsToRaise, no_less, not_written, own_vhd, sound_raised}

-- what is known as the footers are written
pub record Raises (s : Site) (t : VolumeTable) (m : Known) (old new : Held) (u : List ℕ) (size : ℕ) (own : TreeRow) : Type 0 where
  pub to_raise : IsToRaise s t m u size own
  pub ready : IsReady s t old m
  pub keeps : KeepsElsewhere s.geometry.extent (extents_of (rows t (row_name own))) old new
  pub grows : (image : Sectors) → IsLeft s new image → IsGrowing s t m old u own size image

module _ {s : Site} {t : VolumeTable} {m : Known} {old new : Held} {u : List ℕ} {size : ℕ} {own : TreeRow} (h : Raises s t m old new u size own) where
  abbrev o : IsOrderly s t m
  o = h.to_raise.orderly

  -- it is hidden, so it is no disk's
  hidden_volume : is_visible t (Vhd u) ≡ false
  hidden_volume = ∥∥₁_elim o.well_formed (hlevel props) (λ w. ap (is_visible t) (sym h.to_raise.named) ∙ seen_row s t m own o w h.to_raise.there ∙ ap not h.to_raise.hidden)

  no_disk : (w : List ℕ) → standing_volume t w ≡ Some (Vhd u) → ⊥
  no_disk w is = true≢false (sym (by (is_visible t (Vhd w)) (is_visible t (Raw w)) refl refl (sym (plainly_stands s t m w o) ∙ is)) ∙ hidden_volume)
    where
      by : (a b : Bool) → is_visible t (Vhd w) ≡ a → is_visible t (Raw w) ≡ b → cond a (Some (Vhd w)) (cond b (Some (Raw w)) None) ≡ Some (Vhd u) → is_visible t (Vhd u) ≡ true
      by true b shown e is = ap (is_visible t) (same_Some (Vhd u) (Vhd w) (sym is)) ∙ shown
      by false true e f is = absurd (let x = is in cc)
      by false false e f is = absurd (let x = is in cc)

  -- every other volume is kept
  kept_beside : (n : Name) → n ≢ row_name own → Keeps (volume_of s t old n) (volume_of s t new n)
  kept_beside n other = other_keeps s t old new (row_name own) n o.table (extent_some s t m o) h.keeps other

  no_relink : (child parent : List ℕ) (r : Row) → rows t (Relink child parent) ≡ Some r → ⊥
  no_relink child parent r there = let e = entry_relink s t m child parent r o there in let x : op.Idle ≡ op.Relink e.v e.p = sym h.to_raise.idle ∙ e.is in cc

  -- ---- one image of the area that a stop may leave

  module _ (image : Sectors) (left : IsLeft s new image) where
    abbrev g : IsGrowing s t m old u own size image
    g = h.grows image left

    sectors_beside : (n : Name) → n ≢ Vhd u → sectors_read (content_in s t image) n ≡ sectors_read (content_in s t g.earlier) n
    unfolding sectors_read
    sectors_beside n other =
        ap₂ (λ (x : Option Image) (f : ℕ → List ℕ). elim x as (λ x. List (List ℕ)) [ None ↦ [] | Some i ↦ map f (numbers 0 i.size) ]) (others_same s t m old u own size image o h.ready g n other)
        (fun_ext (raised_same (content_in s t g.earlier) (content_in s t image) (Vhd u) g.was g.now (raised s t m old u own size image o h.ready g (no_less h.to_raise)) n))

    disk_beside : (w : List ℕ) → disk_at (content_in s t image) w ≡ disk_at (content_in s t g.earlier) w
    unfolding disk_at
    disk_beside w = by (standing_volume t w) refl
      where
        by : (n : Option Name) → standing_volume t w ≡ n
            → (n >>= (λ x. record_of (content_in s t image) w >>= (λ r. Some (disk_in (content_in s t image) w r x)))) ≡ (n >>= (λ x. record_of (content_in s t g.earlier) w >>= (λ r. Some (disk_in (content_in s t g.earlier) w r x))))
        by None e = refl
        by (Some x) e =
            ap₂ (λ r ss. r >>= (λ y. Some (record { uuid = w; label = y.label; origin = y.origin; read_only = y.read_only; sectors = ss }))) (recorded s t m old u own size image o h.ready g w)
            (sectors_beside x (λ same. no_disk w (e ∙ ap Some same)))

    disks_beside : disks (content_in s t image) ≡ disks (content_in s t g.earlier)
    disks_beside = disks_same (content_in s t g.earlier) (content_in s t image) disk_beside

    kept_now : IsKept (content_in s t image)
    kept_now =
        let raise = h.to_raise in
        grown_kept s t m old u own size image o h.ready g (with_replaced (sized size own) m.rows)
        (λ n other. other_sized s t m o own raise.there size n (λ same. other (same ∙ raise.named)))
        (ap (λ n. link_in (tree_row (with_replaced (sized size own) m.rows) n)) (sym raise.named) ∙ link_sized s t m o own raise.there size (own_vhd raise))
        (sound_raised raise) (λ child parent q entry. absurd (no_relink child parent q entry))

    still_now : (before : Leaving) → ((other : Sectors) → IsLeft s old other → before t other) → IsStill (MayShow s before) (disks (content_now s t old)) (disks (content_in s t image))
    still_now before might = subst (IsStill (MayShow s before) (disks (content_now s t old))) (sym disks_beside) (still s t old m before g.earlier o h.ready g.might (might g.earlier g.might))

    shows_now : (before : Leaving) → ((other : Sectors) → IsLeft s old other → before t other) → MayShow s before (disks (content_in s t image))
    shows_now before might = record { table = t; image = g.earlier; left = might g.earlier g.might; shown = disks_beside }

    -- where the image of the area is what a read gives, the images of the earlier one are those that a read gave
    read_before : image ≡ reads new → (n : Name) → image_of (content_in s t g.earlier) n ≡ image_of (content_now s t old) n
    read_before is n = ⊎_elim
        (λ same. ap (image_of (content_in s t g.earlier)) same
        ∙ image_still s t old m g.earlier (row_name own) o h.ready.firm (left_in s t m old g.earlier o g.might) (not_written h.to_raise)
        ∙ sym (ap (image_of (content_now s t old)) same))
        (λ other. sym (others_same s t m old u own size image o h.ready g n (λ same. other (same ∙ sym h.to_raise.named))) ∙ ap (λ (a : Sectors). image_of (content_in s t a) n) is
        ∙ image_by_sectors s t m (reads old) (reads new) n (rows t n) o refl
        (λ p below. now_sector s t new n p below ∙ (kept_beside n other).reads p ∙ sym (now_sector s t old n p below))) (name_or_not n (row_name own))

    read_disks : image ≡ reads new → disks (content_in s t image) ≡ disks (content_now s t old)
    read_disks is = disks_beside ∙ disks_alike (content_now s t old) (content_in s t g.earlier) refl (read_before is) (law_left_now s t old m g.earlier o h.ready g.might).records

  -- ---- of all of them

  pub leaves_still : (before : Leaving) → ((other : Sectors) → IsLeft s old other → before t other) → LeavesStill s t new before (disks (content_now s t old)) m.logs
  leaves_still before might = record {
    kept = λ image left. kept_now image left;
    shown = λ image left. still_now image left before might;
    still = λ image left. shows_now image left before might;
    logged = logged_left (holds_keeps (holds_ready s t old m o h.ready) new (λ w. kept_beside (Cbt w) (λ is. image_apart (Vhd u) refl w (is ∙ h.to_raise.named)))) o.table;
  }

  pub disks_now : disks (content_now s t new) ≡ disks (content_now s t old)
  disks_now = read_disks (reads new) (left_now s new) refl

  -- ---- and once it is made last, memory is ready with the new size

  pub ready_raised : IsSteady s.geometry (own.extents * s.geometry.extent) (volume_of s t (at_rest (reads new)) (row_name own)) (resized size own.image) → IsReady s t (at_rest (reads new)) (record m { rows = with_replaced (sized size own) m.rows })
  ready_raised steady = ready_sized s t m old (at_rest (reads new)) own size o h.to_raise.there h.ready
      (λ n other. Keeps-then (kept_beside n other) (Keeps-volume s.geometry.extent (extents_of (rows t n)) (keeps_rest new))) (λ p. refl) steady
      (subst (IsBelow (content_now s t (at_rest (reads new)))) (sym h.to_raise.idle) tt)
