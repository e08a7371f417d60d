-- What the calls of a copied block ask, and what they leave where nothing is told of the sectors.
use Rattle.std.proofs.Common.{◌≡◌, inl, inr, ⊎_elim, ℕ, ◌*◌, ◌<◌, List, sym, ap, ◌∙◌, subst, subst₂, arith}
use Rattle.common_laws.specs.Lists.{In}
use Rattle.sm_base.specs.declared.names.Name.{Name}
use Rattle.sm_disk.specs.Held.{Keeps}
use Rattle.vg_meta.specs.Tables.{VolumeTable, rows}
use Rattle.vg_meta.proofs.ByName.{spread}
use Rattle.vg_volumes.specs.Sites.{Site}
use Rattle.vg_volumes.specs.Stored.{held_in, sectors_in, stored}
use Rattle.vg_volumes.specs.declared.stores.Store.{Ghosts}
use Rattle.vg_volumes.proofs.StoredLaws.{size_stays}
use Rattle.vhd_image.specs.Bodies.{StandsIn, TrueIn, ImageIsTrue, volume_name}
use Rattle.vhd_image.specs.declared.images.Body.{Body}
use Rattle.vhd_map.proofs.SlotLemmas.{slot_of-within}
use Rattle.vhd_chain.specs.Trees.{row_name, with_replaced, with_row, without}
use Rattle.vhd_chain.specs.declared.rows.TreeRow.{TreeRow}
use Rattle.sm_standing.proofs.WorldLaws.{elsewhere}
use Rattle.sm_ready.specs.Frames.{HasTrueImages}
use Rattle.sm_ready.specs.Known.{Known, known}
use Rattle.sm_ready.specs.declared.memory.Memory.{Memory}
use Rattle.sm_ready.proofs.ChainLaws.{tab}
use Rattle.sm_ready.proofs.FrameLaws.{KeepsVolume, true_turned, volume_stays, volume_then, volume_works}
use Rattle.sm_ready.proofs.LeftLaws.{extent_some}
use Rattle.sm_ready.proofs.Orders.{geometry_of}
use Rattle.sm_ready.proofs.PutBackLaws.{put_back}
use Rattle.sm_ready.proofs.RestLaws.{true_keeps}
use Rattle.sm_ready.proofs.TruthLaws.{row_sectors, row_stands, row_true}
use Rattle.vhd_image.specs.Written.{HasRoomForBlock}
use Rattle.gc_coalesce.specs.Blocks.{CanCopy, Copies, HasCopied}
use Rattle.gc_coalesce.proofs.CopyMemoryLaws.{block_room, may_name, rows_behind, with_image}
use Rattle.gc_coalesce.proofs.CopyPlanLaws.{IsToCopy, apart, child_named, child_there, named, same_size, there}
use Rattle.gc_coalesce.proofs.CopyReadyLaws.{block_within, child_head, child_slot}

-- the same behind a sync
pub to_copy_at : {s s' : Site} {t t' : VolumeTable} {m : Known} {v p : Name} {cursor b : ℕ} {i q : TreeRow} → s' ≡ s → t' ≡ t → IsToCopy s t m v p cursor b i q → IsToCopy s' t' m v p cursor b i q
to_copy_at {m = m} {v = v} {p = p} {cursor = cursor} {b = b} {i = i} {q = q} site table h = subst₂ (λ x y. IsToCopy x y m v p cursor b i q) (sym site) (sym table) h

-- what is asked in front of the first run
pub can_copy : {S : Type 0} (g : Ghosts S) (a : S) (m : Memory) {v p : Name} {cursor b : ℕ} {i q : TreeRow} → IsToCopy (g.site a) (tab g a) (known m) v p cursor b i q → HasTrueImages g a m → CanCopy g i.image q.image b a
can_copy g a m {b = b} {i = i} {q = q} h truth = record {
  child_stands = row_stands (g.site a) (tab g a) (known m) h.orderly i (child_there h);
  child_true = λ told. row_true g a m h.orderly truth told i (child_there h);
  stands = row_stands (g.site a) (tab g a) (known m) h.orderly q (there h);
  is_true = λ told. row_true g a m h.orderly truth told q (there h);
  apart = λ k below. elsewhere (g.site a).count (g.site a).geometry.extent (rows (tab g a)) (row_name q) (row_name i) k (spread (g.site a).count (tab g a) h.orderly.table)
      (extent_some (g.site a) (tab g a) (known m) h.orderly) (λ same. apart h (sym (child_named h) ∙ same ∙ named h)) below;
  size = same_size h;
  within = block_within h;
  room = subst (λ n. HasRoomForBlock (g.site a).geometry n b q.image) (sym (row_sectors (g.site a) (tab g a) (known m) h.orderly q (there h))) (block_room h);
}

-- it is a block that an image may have
pub block_below : {s : Site} {t : VolumeTable} {m : Known} {v p : Name} {cursor b : ℕ} {i q : TreeRow} → IsToCopy s t m v p cursor b i q → b < 1044480
block_below {s} {t} {m} {b = b} {i = i} h =
    let w = child_head h in
    let k = child_slot h in
    let long = (subst (λ x. StandsIn s.geometry (i.extents * s.geometry.extent) x) w.is (h.orderly.stands i (child_there h))).entries in
    let few = (geometry_of s t m h.orderly).entries_most in
    let within = slot_of-within w.slots b k.0 k.1 in
    omega (arith, long, few, within)

-- the row is back in its place
pub back_in_place : {s : Site} {t : VolumeTable} {m : Known} {v p : Name} {cursor b : ℕ} {i q : TreeRow} (h : IsToCopy s t m v p cursor b i q) (new : Body) {mid now : List TreeRow} → volume_name new ≡ volume_name q.image
    → mid ≡ without p m.rows → now ≡ with_row (with_image new q) mid → now ≡ with_replaced (with_image new q) m.rows
back_in_place {s} {t} {m} {q = q} h new same taken added =
    added ∙ ap (with_row (with_image new q)) (taken ∙ ap (λ n. without n m.rows) (sym (named h))) ∙ put_back s t m h.orderly q (with_image new q) (there h) same

-- images are true behind it
module _ {S : Type 0} (g : Ghosts S) {b d : S} (e : S) (m n : Memory) {v p : Name} {cursor blk : ℕ} {i q : TreeRow} (h : IsToCopy (g.site b) (tab g b) (known m) v p cursor blk i q) (new : Body)
    (copies : Copies g i.image q.image new b d) (at count : ℕ)
    (done : HasCopied g i.image blk at count q.image new b d) (site : g.site e ≡ g.site d) (table : tab g e ≡ tab g d) (keeps : g.told → Keeps (g.area d) (g.area e)) where
  true_own : g.told → ImageIsTrue (stored g e) new
  true_own told =
      let kept : KeepsVolume g d e q = volume_stays q site table (keeps told) in
      subst (λ x. TrueIn (g.site e).geometry (sectors_in (stored g e) x) (held_in (stored g e) x) new) (sym (may_name blk q.image new done.slot))
      (subst₂ (λ (x : Site) k. TrueIn x.geometry k (held_in (stored g e) (row_name q)) new) (sym (site ∙ copies.works.stays.site)) (sym (kept.size ∙ size_stays {g = g} (row_name q) copies.works.stays))
      (true_keeps (g.site b).geometry (sectors_in (stored g b) (row_name q)) (held_in (stored g d) (row_name q)) (held_in (stored g e) (row_name q)) new kept.keeps (done.is_true told)))

  pub true_copied : n.tree.rows ≡ with_replaced (with_image new q) m.tree.rows → HasTrueImages g b m → HasTrueImages g e n
  true_copied rows_are = true_turned g m n (site ∙ copies.works.stays.site) (λ told each x j. ⊎_elim
      (λ was. inl (was.0, volume_then x (volume_works x h.orderly.table was.1 copies.works told) (volume_stays x site table (keeps told))))
      (λ own. inr (subst (λ (y : TreeRow). ImageIsTrue (stored g e) y.image) (sym own) (true_own told)))
      (rows_behind h new done.slot x (subst (In x) rows_are j)))
