-- The middle moment of a command that makes a disk: its volume is new, and its record is being put.
use Rattle.std.proofs.Common.{◌≡◌, ◌≢◌, ◌⊎◌, inl, inr, ⊎_elim, ℕ, zero, suc, ◌<◌, Bool, true, false, cond, List, [], ◌∷◌, map, get_or, Option, Some, None, refl, sym, ap, ◌∙◌, subst, arith}
use Rattle.std.proofs.Math.Path.{fun_ext}
use Rattle.std.proofs.Math.ListN.{set}
use Rattle.std.proofs.Math.Logic.{∥∥₁_map}
use Rattle.std.proofs.lemmas.Bool.{true≢false, cases_lt}
use Rattle.std.proofs.lemmas.List.{get_or-set_same, get_or-set_other, length-set}
use Rattle.std.proofs.lemmas.Option.{slice_get-get_or}
use Rattle.std.proofs.lemmas.Slice.Eq.{bytes_eq-Decides}
use Rattle.sm_base.specs.declared.names.Name.{Name}
use Rattle.sm_base.specs.declared.names.Name.TheVariants.{Mgt}
use Rattle.sm_disk.specs.Held.{Held, May, reads}
use Rattle.sm_disk.proofs.HeldLaws.{Allows-keeps}
use Rattle.vg_meta.specs.Tables.{VolumeTable}
use Rattle.vg_volumes.specs.Sites.{Site, volume_of, size_of}
use Rattle.sm_machine.specs.Disks.{Disk}
use Rattle.common_laws.specs.Lists.{◌>>=◌}
use Rattle.sm_machine.specs.Runs.{face, HasSector}
use Rattle.sm_machine.specs.Shapes.{Shape, refs}
use Rattle.sm_machine.specs.WellFormed.{IsWellFormed}
use Rattle.sm_record.specs.Records.{reading}
use Rattle.sm_record.specs.declared.records.Record.{Record}
use Rattle.sm_record.specs.declared.records.Reading.TheVariants.{Taken}
use Rattle.sm_standing.specs.Readings.{SameReadings}
use Rattle.sm_standing.specs.Contents.{Content, sectors_of, reading_at, record_count, record_of, is_record_of}
use Rattle.sm_standing.specs.Images.{image_of}
use Rattle.sm_standing.specs.Keeping.{IsKept}
use Rattle.sm_standing.specs.Standing.{standing_volume, disk_at, disk_in, disks}
use Rattle.sm_standing.proofs.DiskLists.{disks_same}
use Rattle.sm_standing.proofs.RecordLists.{records_same, records_alike, record_of_first, first_of}
use Rattle.sm_standing.proofs.ImageLaws.{sectors_same}
use Rattle.sm_ready.specs.Middle.{with_place, IsStray, IsMiddle}
use Rattle.sm_ready.specs.Known.{Known, shape_in, records_in, shown_places, is_shown, is_shown_place}
use Rattle.vhd_chain.specs.declared.rows.TreeRow.{TreeRow}
use Rattle.vhd_chain.specs.Trees.{row_name}
use Rattle.sm_ready.specs.Orderly.{IsOrderly, IsRoomyIn}
use Rattle.sm_mgt.specs.Places.{Agrees, place_count, records_held, as_reading}
use Rattle.sm_ready.specs.Ready.{IsFirm, IsReady, HoldsPlaces, is_written_in}
use Rattle.vhd_volumes.specs.Steady.{IsQuiet}
use Rattle.sm_ready.specs.Stores.{Leaving, MayShow, content_in, content_now}
use Rattle.sm_ready.proofs.AlikeLaws.{disks_alike}
use Rattle.sm_ready.proofs.CommitLaws.{IsSafe}
use Rattle.sm_ready.proofs.KeptLaws.{law_kept}
use Rattle.sm_ready.proofs.LeftLaws.{IsLeft, IsLeftIn, left_now, now_sector, left_volume, image_quiet, place_reads, mgt_long}
use Rattle.sm_ready.proofs.ShapeLaws.{standing_shown}

-- ---- a stray in memory

-- a place with a stray may get a stray
pub shown_set : (rs : List TreeRow) (places : List (Option Record)) (k : ℕ) (r : Record) → is_shown_place rs (get_or places k None) ≡ false → is_shown rs r.uuid ≡ false
    → shown_places rs (set places k (Some r)) ≡ shown_places rs places
shown_set rs [] k r was now = refl
shown_set rs (x ∷ places) zero r was now =
    ap (λ b. cond b (Some r ∷ shown_places rs places) (shown_places rs places)) now ∙ sym (ap (λ b. cond b (x ∷ shown_places rs places) (shown_places rs places)) was)
shown_set rs (x ∷ places) (suc k) r was now = ap (λ ps. cond (is_shown_place rs x) (x ∷ ps) ps) (shown_set rs places k r was now)

pub shape_put : (s : Site) (t : VolumeTable) (m : Known) (k : ℕ) (r : Record) → IsStray m k r → shape_in s t (with_place k r m) ≡ shape_in s t m
unfolding shape_in
shape_put s t m k r stray =
    ap (λ (ps : List (Option Record)). record (shape_in s t m) { records = records_in ps }) (shown_set m.rows m.places k r (ap (is_shown_place m.rows) stray.free) stray.unseen)

pub orderly_put : (s : Site) (t : VolumeTable) (m : Known) (k : ℕ) (r : Record) → IsStray m k r → IsOrderly s t m → IsOrderly s t (with_place k r m)
unfolding shape_in
orderly_put s t m k r stray o = let same = shape_put s t m k r stray in record {
  table = o.table;
  few_extents = o.few_extents;
  record_volume = o.record_volume;
  few = o.few;
  new_named = o.new_named;
  logs = o.logs;
  few_logs = o.few_logs;
  logs_in_order = o.logs_in_order;
  log_room = o.log_room;
  images = o.images;
  places = length-set m.places k (Some r) ∙ o.places;
  entries = o.entries;
  stands = o.stands;
  well_formed = ∥∥₁_map o.well_formed (λ w. subst IsWellFormed (sym same) w);
  roomy = subst (λ (x : Shape). IsRoomyIn x m.op) (sym same) o.roomy;
  counts = λ n. o.counts n ∙ sym (ap (refs n) same);
}

pub firm_put : (s : Site) (t : VolumeTable) (area : Held) (m : Known) (k : ℕ) (r : Record) → IsStray m k r → IsFirm s t area m → IsFirm s t area (with_place k r m)
firm_put s t area m k r stray firm = record {
  images = firm.images;
  quiet = λ q i still. firm.quiet q i (subst (λ (x : Shape). is_written_in x (row_name q) ≡ false) (shape_put s t m k r stray) still);
  below = firm.below;
}

pub nat_or_not : (p k : ℕ) → (p ≡ k) ⊎ (p ≢ k)
nat_or_not p k = ⊎_elim (λ below. inr (λ e. omega (arith, below, e))) (λ up. ⊎_elim (λ past. inr (λ e. omega (arith, past, e))) (λ at. inl (omega (arith, up, at))) (cases_lt k p)) (cases_lt p k)

-- ---- what a stop leaves

module _ (s : Site) (t : VolumeTable) (m : Known) (old new : Held) (k : ℕ) (r : Record) (o : IsOrderly s t m) (ready : IsReady s t old m) (within : k < place_count) (middle : IsMiddle s t m old new k r) (image : ℕ → List ℕ) (left : IsLeft s new image) where
  pub middle_in : IsLeftIn s t m old image
  middle_in q i = Allows-keeps (size_of s t (row_name q)) (sectors_of (content_in s t image) (row_name q)) (middle.images q i) (left_volume s t m new image (row_name q) o left)

  found : (p : ℕ) → p < place_count → (reading_at (content_in s t image) p ≡ as_reading (get_or m.places p None)) ⊎ ((p ≡ k) × (reading_at (content_in s t image) p ≡ Taken r))
  found p below = by (middle.records p v below (left_volume s t m new image Mgt o left p (omega (arith, below, mgt_long s t m o))))
    where
      v : List ℕ
      v = sectors_of (content_in s t image) Mgt p

      by : May (records_held s t old) p v ⊎ ((p ≡ k) × (reading v ≡ Taken r)) → (reading_at (content_in s t image) p ≡ as_reading (get_or m.places p None)) ⊎ ((p ≡ k) × (reading_at (content_in s t image) p ≡ Taken r))
      by (inl was) = inl (ap reading (ready.recorded p v was) ∙ held)
        where
          held : reading (reads (records_held s t old) p) ≡ as_reading (get_or m.places p None)
          held = ready.records.each p (get_or m.places p None) (slice_get-get_or m.places p None (omega (arith, below, ready.records.long)))
      by (inr now) = inr now

  -- the places from before, or with the record
  pub middle_places : HoldsPlaces s t image m.places ⊎ HoldsPlaces s t image (set m.places k (Some r))
  middle_places = by (found k within)
    where
      other : (p : ℕ) → p < place_count → p ≢ k → reading_at (content_in s t image) p ≡ as_reading (get_or m.places p None)
      other p below away = ⊎_elim (λ e. e) (λ w. absurd (away w.0)) (found p below)

      by : (reading_at (content_in s t image) k ≡ as_reading (get_or m.places k None)) ⊎ ((k ≡ k) × (reading_at (content_in s t image) k ≡ Taken r)) → HoldsPlaces s t image m.places ⊎ HoldsPlaces s t image (set m.places k (Some r))
      by (inl was) = inl (record { long = ready.records.long; each = λ p below. at p below (nat_or_not p k) })
        where
          at : (p : ℕ) → p < place_count → (p ≡ k) ⊎ (p ≢ k) → reading_at (content_in s t image) p ≡ as_reading (get_or m.places p None)
          at p below (inl e) = subst (λ q. reading_at (content_in s t image) q ≡ as_reading (get_or m.places q None)) (sym e) was
          at p below (inr away) = other p below away
      by (inr now) = inr (record { long = length-set m.places k (Some r) ∙ ready.records.long; each = λ p below. at p below (nat_or_not p k) })
        where
          at : (p : ℕ) → p < place_count → (p ≡ k) ⊎ (p ≢ k) → reading_at (content_in s t image) p ≡ as_reading (get_or (set m.places k (Some r)) p None)
          at p below (inl e) = subst (λ q. reading_at (content_in s t image) q ≡ as_reading (get_or (set m.places k (Some r)) q None)) (sym e)
              (now.1 ∙ sym (ap as_reading (get_or-set_same m.places k (Some r) None (omega (arith, within, ready.records.long)))))
          at p below (inr away) = other p below away ∙ sym (ap as_reading (get_or-set_other m.places k p (Some r) None away))

module _ (s : Site) (t : VolumeTable) (m : Known) (old new : Held) (k : ℕ) (r : Record) (o : IsOrderly s t m) (ready : IsReady s t old m) (stray : IsStray m k r) (middle : IsMiddle s t m old new k r) (image : ℕ → List ℕ) (left : IsLeft s new image) where
  stray_in : IsLeftIn s t m old image
  stray_in = middle_in s t m old new k r o ready stray.within middle image left

  stray_places : HoldsPlaces s t image m.places ⊎ HoldsPlaces s t image (set m.places k (Some r))
  stray_places = middle_places s t m old new k r o ready stray.within middle image left

  -- each is kept
  pub middle_kept : IsKept (content_in s t image)
  middle_kept = ⊎_elim
      (λ holds. law_kept s t old m image o ready.firm stray_in holds)
      (λ holds. law_kept s t old (with_place k r m) image (orderly_put s t m k r stray o) (firm_put s t old m k r stray ready.firm) stray_in holds)
      stray_places

  -- and where nothing was pending before, it shows the disks from before
  pub middle_disks : ((n : Name) → IsQuiet (volume_of s t old n)) → disks (content_in s t image) ≡ disks (content_now s t old)
  unfolding disk_at
  middle_disks settled = disks_same (content_now s t old) (content_in s t image) (λ u. at u (standing_volume t u) refl)
    where
      c : Content
      c = content_now s t old

      d : Content
      d = content_in s t image

      images : (n : Name) → image_of d n ≡ image_of c n
      images n = image_quiet s t old m image n o ready.firm stray_in (settled n)

      was : (p : ℕ) → p < record_count → reading_at c p ≡ as_reading (get_or m.places p None)
      was p below = place_reads s t old m o ready p below

      recorded : (u : List ℕ) → is_record_of u r ≡ false → record_of d u ≡ record_of c u
      recorded u other = record_of_first d u ∙ ap first_of (⊎_elim
          (λ holds. records_same c d u (λ p below. holds.each p below ∙ sym (was p below)))
          (λ holds. records_alike c d k r u (record {
            within = stray.within;
            free = was k stray.within ∙ ap as_reading stray.free;
            taken = holds.each k stray.within ∙ ap as_reading (get_or-set_same m.places k (Some r) None (omega (arith, stray.within, ready.records.long)));
            others = λ p below away. holds.each p below ∙ ap as_reading (get_or-set_other m.places k p (Some r) None away) ∙ sym (was p below);
          }) other)
          stray_places) ∙ sym (record_of_first c u)

      at : (u : List ℕ) (x : Option Name) → standing_volume t u ≡ x → disk_at d u ≡ disk_at c u
      at u None none = ap (λ (y : Option Name). y >>= (λ n. record_of d u >>= (λ q. Some (disk_in d u q n)))) none ∙ sym (ap (λ (y : Option Name). y >>= (λ n. record_of c u >>= (λ q. Some (disk_in c u q n)))) none)
      at u (Some n) is =
          let other : is_record_of u r ≡ false = not_it (is_record_of u r) refl in
          ap (λ (y : Option Record). standing_volume t u >>= (λ n. y >>= (λ q. Some (disk_in d u q n)))) (recorded u other)
          ∙ ap (λ (f : Name → List (List ℕ)). standing_volume t u >>= (λ n. record_of c u >>= (λ q. Some (record { uuid = u; label = q.label; origin = q.origin; read_only = q.read_only; sectors = f n })))) (fun_ext (sectors_same c d images))
        where
          not_it : (b : Bool) → is_record_of u r ≡ b → is_record_of u r ≡ false
          not_it false e = e
          not_it true e = absurd (true≢false (sym (standing_shown s t m u n o is) ∙ ap (is_shown m.rows) (sym ((bytes_eq-Decides r.uuid u).0 e)) ∙ stray.unseen))

-- so the store is safe at that moment
pub middle_safe : (s : Site) (t : VolumeTable) (m : Known) (old new : Held) (k : ℕ) (r : Record) (before : Leaving) (was : List Disk) → IsOrderly s t m → IsReady s t old m → IsStray m k r → IsMiddle s t m old new k r
    → ((n : Name) → IsQuiet (volume_of s t old n)) → disks (content_now s t old) ≡ was → MayShow s before was → IsSafe s t new before was
middle_safe s t m old new k r before was o ready stray middle settled is might = record {
  kept = λ image left. middle_kept s t m old new k r o ready stray middle image left;
  shown = λ image left. let same = middle_disks s t m old new k r o ready stray middle image left settled ∙ is in record {
    faces = ap (map face) same;
    sectors = λ u j bytes h. (was, might, subst (λ (ds : List Disk). HasSector ds u j bytes) same h);
  };
}

-- ---- a record in place of another, under one table (label)

-- each left image is kept, and shows the disks from before or those from after
pub law_put : (s : Site) (t : VolumeTable) (m : Known) (old new : Held) (k : ℕ) (r : Record) → IsOrderly s t m → IsReady s t old m → k < place_count → IsMiddle s t m old new k r
    → IsOrderly s t (with_place k r m) → IsFirm s t old (with_place k r m) → Agrees (records_held s t new) (set m.places k (Some r)) → ((n : Name) → IsQuiet (volume_of s t old n))
    → (image : ℕ → List ℕ) → IsLeft s new image
    → IsKept (content_in s t image) × ((disks (content_in s t image) ≡ disks (content_now s t old)) ⊎ (disks (content_in s t image) ≡ disks (content_now s t new)))
law_put s t m old new k r o ready within middle o' firm' agrees settled image left = ⊎_elim
    (λ holds. (
      law_kept s t old m image o ready.firm (inside image left) holds,
      inl (disks_alike (content_now s t old) (content_in s t image) refl (images image left) (λ u. recorded (content_now s t old) (content_in s t image) u (λ p below. holds.each p below ∙ sym (place_reads s t old m o ready p below)))),
    ))
    (λ holds. (
      law_kept s t old (with_place k r m) image o' firm' (inside image left) holds,
      inr (disks_alike (content_now s t new) (content_in s t image) refl (λ n. images image left n ∙ sym (images (reads new) (left_now s new) n))
          (λ u. recorded (content_now s t new) (content_in s t image) u (λ p below. holds.each p below ∙ sym (now p below)))),
    ))
    (middle_places s t m old new k r o ready within middle image left)
  where
    inside : (v : ℕ → List ℕ) → IsLeft s new v → IsLeftIn s t m old v
    inside v l = middle_in s t m old new k r o ready within middle v l

    images : (v : ℕ → List ℕ) → IsLeft s new v → (n : Name) → image_of (content_in s t v) n ≡ image_of (content_now s t old) n
    images v l n = image_quiet s t old m v n o ready.firm (inside v l) (settled n)

    recorded : (c d : Content) (u : List ℕ) → SameReadings c d → record_of d u ≡ record_of c u
    recorded c d u same = record_of_first d u ∙ ap first_of (records_same c d u same) ∙ sym (record_of_first c u)

    now : (p : ℕ) → p < record_count → reading_at (content_now s t new) p ≡ as_reading (get_or (set m.places k (Some r)) p None)
    now p below =
        ap reading (now_sector s t new Mgt p (omega (arith, below, mgt_long s t m o)))
        ∙ agrees.each p (get_or (set m.places k (Some r)) p None) (slice_get-get_or (set m.places k (Some r)) p None (omega (arith, below, agrees.long)))
