-- Contents that are the same but for volumes of logs: the same images, records and disks, and what is kept of the one is kept of the other.
use Rattle.std.proofs.Common.{◌≡◌, ℕ, ◌<◌, ◌≤◌, ◌⊎◌, inl, inr, Bool, true, false, cond, nat_lt, List, Option, Some, None, refl, sym, ap, ap₂, ◌∙◌, arith}
use Rattle.std.proofs.Math.Path.{fun_ext}
use Rattle.std.proofs.lemmas.Bool.{cases_lt, le-ltb}
use Rattle.sm_base.specs.Kinds.{is_log}
use Rattle.sm_base.specs.declared.names.Name.{Name}
use Rattle.sm_base.specs.declared.names.Name.TheVariants.{Mgt, Vhd, Raw, Relink}
use Rattle.sm_log_rows.proofs.ApartLaws.{log_rows_sound, makes, standing_alike}
use Rattle.sm_log_rows.proofs.ChangedLaws.{no_link}
use Rattle.sm_log_rows.specs.LogRows.{AreApartFromLogs}
use Rattle.sm_record.specs.Records.{reading}
use Rattle.sm_record.specs.declared.records.Reading.{Reading}
use Rattle.sm_record.specs.declared.records.Reading.TheVariants.{Free}
use Rattle.sm_standing.proofs.ImageLaws.{disks_as}
use Rattle.sm_standing.proofs.ImageSectors.{gone, raw_same, vhd_same, whole_none}
use Rattle.sm_standing.proofs.RecordLists.{first_of, record_of_first, records_same}
use Rattle.sm_standing.specs.Checks.{fault_of}
use Rattle.sm_standing.specs.Contents.{Content, reading_at, record_count, record_of, sectors_of}
use Rattle.sm_standing.specs.Images.{image_of}
use Rattle.sm_standing.specs.Keeping.{HasNoEmptySlot, HasParentAlike, IsKept}
use Rattle.sm_standing.specs.Outlines.{Link, Outline, link_of, outline, reading_in}
use Rattle.sm_standing.specs.Standing.{disks}
use Rattle.vg_meta.specs.Tables.{Row, VolumeTable, rows}
use Rattle.vg_volumes.specs.Sites.{Site, size_of}
use Rattle.sm_ready.proofs.LeftLaws.{mgt_long}
use Rattle.sm_ready.proofs.Orders.{geometry_of, none_making, whole}
use Rattle.sm_ready.specs.Known.{Known}
use Rattle.sm_ready.specs.Orderly.{IsOrderly}
use Rattle.sm_ready.specs.Stores.{content_in}

-- the second content has the volumes of the first, but for logs
pub record AreBeside (s : Site) (t v : VolumeTable) (f h : ℕ → List ℕ) : Type 0 where
  pub tables : AreApartFromLogs t v
  pub sectors : (n : Name) → is_log n ≡ false → (p : ℕ) → p < size_of s t n → sectors_of (content_in s v h) n p ≡ sectors_of (content_in s t f) n p

module _ {s : Site} {t v : VolumeTable} {m : Known} {f h : ℕ → List ℕ} (o : IsOrderly s t m) (b : AreBeside s t v f h) where
  abbrev was : Content
  was = content_in s t f

  abbrev now : Content
  now = content_in s v h

  image_by : (n : Name) (x : Option Row) → is_log n ≡ false → rows t n ≡ x → image_of now n ≡ image_of was n
  unfolding image_of
  image_by n None no_log is = gone was now n is (b.tables.same n no_log ∙ is)
  image_by (Vhd u) (Some r) no_log is =
      vhd_same was now u u r r (geometry_of s t m o) (record {
        extent = refl;
        block = refl;
        entries = refl;
        before = is;
        after = b.tables.same (Vhd u) refl ∙ is;
        extents = refl;
        fresh = refl;
        sectors = λ p below. b.sectors (Vhd u) refl p below;
      })
      (whole s t m (Vhd u) o) (whole_none v (Vhd u) (makes t v b.tables ∙ none_making s t m o))
  image_by (Raw u) (Some r) no_log is =
      raw_same was now u u r r (record {
        extent = refl;
        block = refl;
        entries = refl;
        before = is;
        after = b.tables.same (Raw u) refl ∙ is;
        extents = refl;
        fresh = refl;
        sectors = λ p below. b.sectors (Raw u) refl p below;
      })
  image_by _ (Some r) no_log is = refl

  pub images_beside : (n : Name) → image_of now n ≡ image_of was n
  unfolding image_of
  images_beside n = by (is_log n) refl
    where
      by : (c : Bool) → is_log n ≡ c → image_of now n ≡ image_of was n
      by false e = image_by n (rows t n) e refl
      by true e = no_image n e
        where
          no_image : (n : Name) → is_log n ≡ true → image_of now n ≡ image_of was n
          no_image (Vhd u) e = absurd (let z = e in cc)
          no_image (Raw u) e = absurd (let z = e in cc)
          no_image _ e = refl

  read_beside : (k : ℕ) → k < record_count → reading_at now k ≡ reading_at was k
  read_beside k below = ap reading (b.sectors Mgt refl k (omega (arith, below, mgt_long s t m o)))

  recorded : (u : List ℕ) → record_of now u ≡ record_of was u
  recorded u = record_of_first now u ∙ ap first_of (records_same was now u read_beside) ∙ sym (record_of_first was u)

  pub disks_beside : disks now ≡ disks was
  disks_beside = disks_as was now (λ u. standing_alike t v b.tables u) images_beside recorded

  readings_beside : (k : ℕ) → reading_in now k ≡ reading_in was k
  readings_beside k = by (nat_lt k record_count) (cases_lt k record_count)
    where
      by : (c : Bool) → (k < record_count) ⊎ (record_count ≤ k) → reading_in now k ≡ reading_in was k
      by c (inl below) = ap (λ (r : Reading). cond (nat_lt k record_count) r Free) (read_beside k below)
      by c (inr past) = ap (λ (x : Bool). cond x (reading_at now k) Free) (le-ltb k record_count past) ∙ sym (ap (λ (x : Bool). cond x (reading_at was k) Free) (le-ltb k record_count past))

  outlined : outline now ≡ record (outline was) { table = v }
  outlined = ap₂ (λ (ls : Name → Option Link) (rs : ℕ → Reading). let x : Outline = record (outline was) { table = v; links = ls; readings = rs } in x)
      (fun_ext (λ n. ap link_of (images_beside n))) (fun_ext readings_beside)

  holding : HasNoEmptySlot was → HasNoEmptySlot now
  holding full u i is = full u i (sym (images_beside (Vhd u)) ∙ is)

  linking : HasParentAlike was → HasParentAlike now
  linking alike child parent r x p n there image up under =
      alike child parent r x p n (sym (b.tables.same (Relink child parent) refl) ∙ there) (sym (images_beside (Vhd child)) ∙ image) up (sym (images_beside n) ∙ under)

  pub kept_beside : IsKept was → IsKept now
  kept_beside kept = record {
    sound = ap fault_of outlined ∙ log_rows_sound (outline was) v b.tables (no_link was) kept.sound;
    holding = holding kept.holding;
    linking = linking kept.linking;
  }
