-- A stop leaves an image of the area that is one that it might have left before, but in one volume, and the image in that is the
-- same: it is kept, and shows the disks that might have been shown.
use Rattle.std.proofs.Common.{◌≡◌, ◌≢◌, ⊎_elim, ℕ, ◌<◌, cond, nat_lt, List, ◌∷◌, zero, suc, ◌+◌, ◌-◌, ◌/◌, map, Option, Some, None, ◌==◌, refl, sym, ap, ap₂, ◌∙◌, subst, arith}
use Rattle.std.proofs.Math.Path.{fun_ext}
use Rattle.std.proofs.lemmas.Bool.{cases_lt, le-ltb}
use Rattle.std.specs.List.{range_with_len}
use Rattle.sm_base.specs.declared.names.Name.{Name}
use Rattle.sm_base.specs.declared.names.Name.TheVariants.{Mgt}
use Rattle.sm_disk.specs.Held.{Held}
use Rattle.vg_meta.specs.Tables.{VolumeTable, rows}
use Rattle.vg_volumes.specs.Sites.{Site, size_of}
use Rattle.vhd_layout.specs.Contents.{ImageContent, content_at, parent_at, size_at, slot_at, slot_number}
use Rattle.vhd_layout.specs.Layouts.{Layout, Sectors, entry, layout_of}
use Rattle.vhd_layout.proofs.ImageLaws.{in_entries}
use Rattle.vhd_map.specs.Places.{blank}
use Rattle.vhd_volumes.specs.Writes.{own_in}
use Rattle.vhd_image.specs.Changes.{IsSameImage}
use Rattle.sm_machine.specs.Disks.{Disk}
use Rattle.sm_record.specs.Records.{reading}
use Rattle.sm_record.specs.declared.records.Reading.{Reading}
use Rattle.sm_record.specs.declared.records.Reading.TheVariants.{Free}
use Rattle.sm_run.specs.Between.{IsStill}
use Rattle.sm_standing.specs.Checks.{fault_of}
use Rattle.sm_standing.specs.Contents.{reading_at, record_count, record_of, sectors_of}
use Rattle.sm_standing.specs.Images.{image_of}
use Rattle.sm_standing.specs.Keeping.{IsKept}
use Rattle.sm_standing.specs.Outlines.{Link, Outline, link_of, outline, reading_in}
use Rattle.sm_standing.specs.Readings.{SameReadings}
use Rattle.sm_standing.specs.Standing.{disks}
use Rattle.sm_standing.proofs.RecordLists.{first_of, record_of_first, records_same}
use Rattle.sm_ready.specs.Known.{Known}
use Rattle.sm_ready.specs.Orderly.{IsOrderly}
use Rattle.sm_ready.specs.Ready.{IsReady}
use Rattle.sm_ready.specs.Stores.{Leaving, MayShow, content_in, content_now}
use Rattle.sm_ready.proofs.AlikeLaws.{disks_alike}
use Rattle.sm_ready.proofs.CommitLaws.{still}
use Rattle.sm_ready.proofs.KeptLaws.{law_kept}
use Rattle.sm_ready.proofs.LeftLaws.{IsLeft, left_in, mgt_long, ready_places}
use Rattle.sm_ready.proofs.StopLaws.{image_by_sectors, name_or_not}

-- ---- one image

map_same : (f g : ℕ → Option ℕ) (a n : ℕ) → ((k : ℕ) → k < a + n → f k ≡ g k) → map f (range_with_len a n) ≡ map g (range_with_len a n)
map_same f g a zero same = refl
map_same f g a (suc n) same = ap₂ (λ x xs. x ∷ xs) (same a (omega arith)) (map_same f g (a + 1) n (λ k below. same k (omega arith)))

-- what is the same image says the same
pub same_content : (block entries blocks n : ℕ) (v w : Sectors) → IsSameImage (layout_of block entries blocks n) v w → content_at block entries n w ≡ content_at block entries n v
unfolding slot_at slot_number
same_content block entries blocks n v w is =
    ap₂ (λ (z : ℕ) (p : Option Name). said z p (slots w) (λ k. own_in l w k)) is.size is.parent
    ∙ ap₂ (λ (ms : List (Option ℕ)) (f : ℕ → Option (List ℕ)). said (size_at l.sectors v) (parent_at v) ms f) same_slots (fun_ext is.says.own)
  where
    l : Layout
    l = layout_of block entries blocks n

    said : ℕ → Option Name → List (Option ℕ) → (ℕ → Option (List ℕ)) → ImageContent
    said z p ms f = record { size = z; parent = p; slots = ms; own = f }

    slot : Sectors → ℕ → Option ℕ
    slot y b = cond (entry y b == blank) None (Some ((entry y b - l.first) / (1 + l.block)))

    slots : Sectors → List (Option ℕ)
    slots y = map (slot y) (range_with_len 0 l.entries)

    same_slots : slots w ≡ slots v
    same_slots = map_same (slot w) (slot v) 0 l.entries (λ b below. ap (λ e. cond (e == blank) None (Some ((e - l.first) / (1 + l.block)))) (is.says.entries b (in_entries l b (omega (arith, below)))))

-- ---- all of the area

module _ (s : Site) (t : VolumeTable) (m : Known) (old : Held) (x : Name) (image earlier : Sectors) (o : IsOrderly s t m) (ready : IsReady s t old m) (might : IsLeft s old earlier) (apart : Mgt ≢ x)
    (others : (n : Name) → n ≢ x → (p : ℕ) → p < size_of s t n → sectors_of (content_in s t image) n p ≡ sectors_of (content_in s t earlier) n p)
    (own : image_of (content_in s t image) x ≡ image_of (content_in s t earlier) x) where
  images_same : (n : Name) → image_of (content_in s t image) n ≡ image_of (content_in s t earlier) n
  images_same n = ⊎_elim
      (λ same. ap (image_of (content_in s t image)) same ∙ own ∙ sym (ap (image_of (content_in s t earlier)) same))
      (λ other. image_by_sectors s t m earlier image n (rows t n) o refl (others n other)) (name_or_not n x)

  same_readings : SameReadings (content_in s t earlier) (content_in s t image)
  same_readings k below = ap reading (others Mgt apart k (omega (arith, below, mgt_long s t m o)))

  recorded : (v : List ℕ) → record_of (content_in s t image) v ≡ record_of (content_in s t earlier) v
  recorded v = record_of_first (content_in s t image) v ∙ ap first_of (records_same (content_in s t earlier) (content_in s t image) v same_readings) ∙ sym (record_of_first (content_in s t earlier) v)

  readings : (k : ℕ) → reading_in (content_in s t image) k ≡ reading_in (content_in s t earlier) k
  readings k = ⊎_elim
      (λ below. ap (λ y. cond (nat_lt k record_count) y Free) (same_readings k below))
      (λ past. ap (λ b. cond b (reading_at (content_in s t image) k) Free) (le-ltb k record_count past)
      ∙ sym (ap (λ b. cond b (reading_at (content_in s t earlier) k) Free) (le-ltb k record_count past))) (cases_lt k record_count)

  outline_same : outline (content_in s t image) ≡ outline (content_in s t earlier)
  outline_same = ap₂ (λ (ls : Name → Option Link) (rs : ℕ → Reading).
      let l : Outline = record { extent = s.geometry.extent; block = s.geometry.block; entries = s.geometry.entries; table = t; links = ls; readings = rs } in l)
      (fun_ext (λ n. ap link_of (images_same n))) (fun_ext readings)

  pub same_kept : IsKept (content_in s t image)
  same_kept =
      let kept = law_kept s t old m earlier o ready.firm (left_in s t m old earlier o might) (ready_places s t old m earlier o ready might) in
      record {
        sound = ap fault_of outline_same ∙ kept.sound;
        holding = λ v i is. kept.holding v i (sym (images_same _) ∙ is);
        linking = λ child parent q v p n entry child_is linked under. kept.linking child parent q v p n entry (sym (images_same _) ∙ child_is) linked (sym (images_same n) ∙ under);
      }

  pub same_shown : disks (content_in s t image) ≡ disks (content_in s t earlier)
  same_shown = disks_alike (content_in s t earlier) (content_in s t image) refl images_same recorded

  pub same_still : (before : Leaving) → before t earlier → IsStill (MayShow s before) (disks (content_now s t old)) (disks (content_in s t image))
  same_still before was = subst (λ (ds : List Disk). IsStill (MayShow s before) (disks (content_now s t old)) ds) (sym same_shown) (still s t old m before earlier o ready might was)
