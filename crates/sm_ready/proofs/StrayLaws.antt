-- Records of no disk are wiped: memory stays orderly, each left image is kept and shows the disks from before.
use Rattle.std.proofs.Common.{◌≡◌, ◌⊎◌, inl, inr, ⊎_elim, ℕ, zero, suc, ◌+◌, ◌<◌, ◌≤◌, not, Bool, true, false, cond, List, [], ◌∷◌, length, get_or, Option, Some, None, is_some, refl, sym, ap, ◌∙◌, subst, arith}
use Rattle.std.specs.List.{filter, filter_map, cons_option}
use Rattle.std.proofs.Math.Path.{fun_ext}
use Rattle.std.proofs.Math.Logic.{∥∥₁_map, ∥∥₁_elim}
use Rattle.std.proofs.Props.{props}
use Rattle.std.proofs.lemmas.Bool.{true≢false, false_from_ne_true, and_parts, cases_lt}
use Rattle.std.proofs.lemmas.Option.{slice_get-get_or}
use Rattle.std.proofs.lemmas.Slice.Eq.{bytes_eq-Decides}
use Rattle.std.specs.Str.{bytes_eq}
use Rattle.sm_base.specs.declared.names.Name.{Name}
use Rattle.sm_base.specs.declared.names.Name.TheVariants.{Mgt, Cbt}
use Rattle.sm_disk.specs.Held.{Held, Keeps, May, reads}
use Rattle.sm_disk.proofs.HeldLaws.{Allows-keeps}
use Rattle.vg_meta.specs.Tables.{VolumeTable}
use Rattle.vg_volumes.specs.Sites.{Site, volume_of, size_of}
use Rattle.common_laws.specs.Lists.{In, numbers, ◌>>=◌}
use Rattle.common_laws.proofs.Lists.{In-numbers}
use Rattle.sm_machine.specs.Shapes.{Shape, refs, image_uuid, is_image_of}
use Rattle.sm_machine.specs.WellFormed.{IsWellFormed}
use Rattle.sm_record.specs.Records.{reading}
use Rattle.sm_record.specs.declared.records.Record.{Record}
use Rattle.sm_record.specs.declared.records.Reading.{Reading}
use Rattle.sm_record.specs.declared.records.Reading.TheVariants.{Free, Taken, Damaged}
use Rattle.sm_mgt.specs.Places.{place_count, records_held, as_reading}
use Rattle.sm_standing.specs.Contents.{Content, sectors_of, reading_at, record_count, records, record_of, is_record_of, taken}
use Rattle.sm_standing.specs.Images.{image_of}
use Rattle.sm_standing.specs.Keeping.{IsKept}
use Rattle.sm_standing.specs.Standing.{standing_volume, disk_at, disk_in, disks}
use Rattle.sm_standing.proofs.DiskLists.{disks_same}
use Rattle.sm_standing.proofs.RecordLists.{record_of_first, first_of}
use Rattle.sm_standing.proofs.ImageLaws.{sectors_same}
use Rattle.vhd_chain.specs.Trees.{row_name}
use Rattle.vhd_chain.specs.declared.rows.TreeRow.{TreeRow}
use Rattle.vhd_volumes.specs.Steady.{IsQuiet}
use Rattle.sm_ready.specs.Known.{Known, machine_row, shape_in, records_in, shown_places, is_shown, is_shown_place}
use Rattle.sm_ready.specs.Orderly.{IsOrderly, IsRoomyIn}
use Rattle.sm_ready.specs.Ready.{IsFirm, IsReady, HoldsPlaces, is_written_in}
use Rattle.sm_ready.specs.Stores.{content_in, content_now}
use Rattle.sm_ready.proofs.KeptLaws.{law_kept}
use Rattle.sm_ready.proofs.LeftLaws.{IsLeft, IsLeftIn, left_volume, image_quiet, place_reads, mgt_long}
use Rattle.sm_ready.proofs.OnceLaws.{any_In}
use Rattle.sm_ready.proofs.ShapeLaws.{as_taken, standing_shown, stands_now}

-- ---- which records are stray

-- the row of a visible image
pub record IsVisible (xs : List TreeRow) (u : List ℕ) : Type 0 where
  pub row : TreeRow
  pub there : In row xs
  pub shown : row.hidden ≡ false
  pub uuid : image_uuid (row_name row) ≡ u

pub visible_of : (xs : List TreeRow) (u : List ℕ) → is_shown xs u ≡ true → IsVisible xs u
visible_of xs u h =
    let w = any_In (λ r. is_image_of u (machine_row r)) xs h in
    let p = and_parts (not w.0.hidden) (bytes_eq (image_uuid (row_name w.0)) u) w.2 in
    record { row = w.0; there = w.1; shown = shown_of w.0.hidden p.0; uuid = (bytes_eq-Decides (image_uuid (row_name w.0)) u).0 p.1 }
  where
    shown_of : (b : Bool) → not b ≡ true → b ≡ false
    shown_of true e = absurd (true≢false (sym e))
    shown_of false e = refl

pub shown_stands : (s : Site) (t : VolumeTable) (m : Known) (u : List ℕ) → IsOrderly s t m → is_shown m.rows u ≡ true → is_some (standing_volume t u) ≡ true
shown_stands s t m u o shown = ∥∥₁_elim o.well_formed (hlevel props) (λ w.
    let v = visible_of m.rows u shown in
    ap is_some (stands_now s t m u v.row o w v.there v.shown v.uuid).1)

-- no visible image in memory has the UUID of a record of no disk
pub stray_unseen : (s : Site) (t : VolumeTable) (m : Known) (u : List ℕ) → IsOrderly s t m → is_some (standing_volume t u) ≡ false → is_shown m.rows u ≡ false
stray_unseen s t m u o stray = false_from_ne_true (is_shown m.rows u) (λ e. true≢false (sym (shown_stands s t m u o e) ∙ stray))

-- ---- memory without some of them

-- this place has the record of no visible image
pub record IsUnseen (rs : List TreeRow) (x : Option Record) : Type 0 where
  pub entry : Record
  pub held : x ≡ Some entry
  pub unseen : is_shown rs entry.uuid ≡ false

-- each place is as it was, or free and had such a record
pub record IsFreed (rs : List TreeRow) (old new : List (Option Record)) : Type 0 where
  pub long : length new ≡ length old
  pub each : (k : ℕ) → (get_or new k None ≡ get_or old k None) ⊎ ((get_or new k None ≡ None) × IsUnseen rs (get_or old k None))

shown_rest : (rs : List TreeRow) (x y : Option Record) (ps qs : List (Option Record)) → (y ≡ x) ⊎ ((y ≡ None) × IsUnseen rs x)
    → shown_places rs qs ≡ shown_places rs ps → shown_places rs (y ∷ qs) ≡ shown_places rs (x ∷ ps)
shown_rest rs x y ps qs (inl same) rest = ap (λ z. cond (is_shown_place rs z) (z ∷ shown_places rs qs) (shown_places rs qs)) same ∙ ap (λ zs. cond (is_shown_place rs x) (x ∷ zs) zs) rest
shown_rest rs x y ps qs (inr (free, w)) rest =
    ap (λ z. cond (is_shown_place rs z) (z ∷ shown_places rs qs) (shown_places rs qs)) free
    ∙ rest
    ∙ sym (ap (λ z. cond (is_shown_place rs z) (z ∷ shown_places rs ps) (shown_places rs ps)) w.held ∙ ap (λ b. cond b (Some w.entry ∷ shown_places rs ps) (shown_places rs ps)) w.unseen)

shown_freed : (rs : List TreeRow) (old new : List (Option Record)) → IsFreed rs old new → shown_places rs new ≡ shown_places rs old
shown_freed rs [] [] f = refl
shown_freed rs [] (y ∷ qs) f = absurd (omega (arith, f.long))
shown_freed rs (x ∷ ps) [] f = absurd (omega (arith, f.long))
shown_freed rs (x ∷ ps) (y ∷ qs) f = shown_rest rs x y ps qs (f.each 0) (shown_freed rs ps qs (record { long = omega (arith, f.long); each = λ k. f.each (suc k) }))

-- memory with these places
abbrev pub with_places : List (Option Record) → Known → Known
with_places ps m = record m { places = ps }

pub shape_freed : (s : Site) (t : VolumeTable) (m : Known) (ps : List (Option Record)) → IsFreed m.rows m.places ps → shape_in s t (with_places ps m) ≡ shape_in s t m
unfolding shape_in
shape_freed s t m ps f = ap (λ qs. record (shape_in s t m) { records = records_in qs }) (shown_freed m.rows m.places ps f)

pub orderly_freed : (s : Site) (t : VolumeTable) (m : Known) (ps : List (Option Record)) → IsOrderly s t m → IsFreed m.rows m.places ps → IsOrderly s t (with_places ps m)
unfolding shape_in
orderly_freed s t m ps o f =
    let same = shape_freed s t m ps f in
    record {
      table = o.table;
      few_extents = o.few_extents;
      record_volume = o.record_volume;
      few = o.few;
      new_named = o.new_named;
      logs = o.logs;
      few_logs = o.few_logs;
      logs_in_order = o.logs_in_order;
      log_room = o.log_room;
      images = o.images;
      places = f.long ∙ o.places;
      entries = o.entries;
      stands = o.stands;
      well_formed = ∥∥₁_map o.well_formed (λ x. subst IsWellFormed (sym same) x);
      roomy = subst (λ (x : Shape). IsRoomyIn x m.op) (sym same) o.roomy;
      counts = λ n. o.counts n ∙ sym (ap (refs n) same);
    }

pub firm_freed : (s : Site) (t : VolumeTable) (area : Held) (m : Known) (ps : List (Option Record)) → IsFreed m.rows m.places ps → IsFirm s t area m → IsFirm s t area (with_places ps m)
firm_freed s t area m ps f firm = record {
  images = firm.images;
  quiet = λ q i still. firm.quiet q i (subst (λ (x : Shape). is_written_in x (row_name q) ≡ false) (shape_freed s t m ps f) still);
  below = firm.below;
}

-- ---- the places that an image of the area holds

abbrev kept_place : Reading → Option Record → Option Record
kept_place Free x = None
kept_place (Taken r) x = x
kept_place Damaged x = x

as_kept : (x : Option Record) → kept_place (as_reading x) x ≡ x
as_kept None = refl
as_kept (Some r) = refl

abbrev kept_places : (ℕ → Reading) → List (Option Record) → ℕ → List (Option Record)
kept_places f [] a = []
kept_places f (x ∷ ps) a = kept_place (f a) x ∷ kept_places f ps (a + 1)

kept_long : (f : ℕ → Reading) (ps : List (Option Record)) (a : ℕ) → length (kept_places f ps a) ≡ length ps
kept_long f [] a = refl
kept_long f (x ∷ ps) a = ap suc (kept_long f ps (a + 1))

kept_at : (f : ℕ → Reading) (ps : List (Option Record)) (a k : ℕ) → k < length ps → get_or (kept_places f ps a) k None ≡ kept_place (f (a + k)) (get_or ps k None)
kept_at f [] a k below = absurd (omega (arith, below))
kept_at f (x ∷ ps) a zero below = ap (λ j. kept_place (f j) x) (let e : a ≡ a + 0 = omega arith in e)
kept_at f (x ∷ ps) a (suc k) below = kept_at f ps (a + 1) k (omega (arith, below)) ∙ ap (λ j. kept_place (f j) (get_or ps k None)) (let e : a + 1 + k ≡ a + suc k = omega arith in e)

kept_past : (f : ℕ → Reading) (ps : List (Option Record)) (a k : ℕ) → length ps ≤ k → get_or (kept_places f ps a) k None ≡ get_or ps k None
kept_past f [] a k past = refl
kept_past f (x ∷ ps) a zero past = absurd (omega (arith, past))
kept_past f (x ∷ ps) a (suc k) past = kept_past f ps (a + 1) k (omega (arith, past))

-- ---- what a stop leaves

-- zeros were written over some records of no visible image: each volume of an image or of a log is as it was, and each other record
pub record IsSwept (s : Site) (t : VolumeTable) (m : Known) (old new : Held) : Type 0 where
  pub images : (q : TreeRow) → In q m.rows → Keeps (volume_of s t old (row_name q)) (volume_of s t new (row_name q))
  pub logs : (u : List ℕ) → Keeps (volume_of s t old (Cbt u)) (volume_of s t new (Cbt u))
  pub records : (p : ℕ) (v : List ℕ) → p < place_count → May (records_held s t new) p v → May (records_held s t old) p v ⊎ ((reading v ≡ Free) × IsUnseen m.rows (get_or m.places p None))

left_out : (test : Record → Bool) (f g : Option Record) (rest more : List Record)
    → (g ≡ f) ⊎ ((g ≡ None) × ((r : Record) × (f ≡ Some r) × (test r ≡ false)))
    → filter test more ≡ filter test rest → filter test (cons_option g more) ≡ filter test (cons_option f rest)
left_out test f g rest more (inl same) h = ap (λ o. filter test (cons_option o more)) same ∙ of_some f h
  where
    of_some : (o : Option Record) → filter test more ≡ filter test rest → filter test (cons_option o more) ≡ filter test (cons_option o rest)
    of_some None h = h
    of_some (Some x) h = ap (λ ys. cond (test x) (x ∷ ys) ys) h
left_out test f g rest more (inr (none, (r, was, fails))) h =
    ap (λ o. filter test (cons_option o more)) none ∙ h
    ∙ sym (ap (λ o. filter test (cons_option o rest)) was ∙ ap (λ b. cond b (r ∷ filter test rest) (filter test rest)) fails)

-- records that do not pass may be left out
pub filter_fewer : (test : Record → Bool) (f g : ℕ → Option Record) (ks : List ℕ)
    → ((k : ℕ) → In k ks → (g k ≡ f k) ⊎ ((g k ≡ None) × ((r : Record) × (f k ≡ Some r) × (test r ≡ false))))
    → filter test (filter_map g ks) ≡ filter test (filter_map f ks)
filter_fewer test f g [] each = refl
filter_fewer test f g (k ∷ ks) each =
    left_out test (f k) (g k) (filter_map f ks) (filter_map g ks) (each k (inl refl)) (filter_fewer test f g ks (λ j h. each j (inr h)))

module _ (s : Site) (t : VolumeTable) (m : Known) (old new : Held) (o : IsOrderly s t m) (ready : IsReady s t old m) (swept : IsSwept s t m old new) (image : ℕ → List ℕ) (left : IsLeft s new image) where
  abbrev was : Content
  was = content_now s t old

  abbrev now : Content
  now = content_in s t image

  pub swept_in : IsLeftIn s t m old image
  swept_in q i = Allows-keeps (size_of s t (row_name q)) (sectors_of now (row_name q)) (swept.images q i) (left_volume s t m new image (row_name q) o left)

  found : (p : ℕ) → p < place_count → (reading_at now p ≡ as_reading (get_or m.places p None)) ⊎ ((reading_at now p ≡ Free) × IsUnseen m.rows (get_or m.places p None))
  found p below = by (swept.records p v below (left_volume s t m new image Mgt o left p (omega (arith, below, mgt_long s t m o))))
    where
      v : List ℕ
      v = sectors_of now Mgt p

      held : reading (reads (records_held s t old) p) ≡ as_reading (get_or m.places p None)
      held = ready.records.each p (get_or m.places p None) (slice_get-get_or m.places p None (omega (arith, below, ready.records.long)))

      by : May (records_held s t old) p v ⊎ ((reading v ≡ Free) × IsUnseen m.rows (get_or m.places p None)) → (reading_at now p ≡ as_reading (get_or m.places p None)) ⊎ ((reading_at now p ≡ Free) × IsUnseen m.rows (get_or m.places p None))
      by (inl same) = inl (ap reading (ready.recorded p v same) ∙ held)
      by (inr free) = inr free

  abbrev left_places : List (Option Record)
  left_places = kept_places (reading_at now) m.places 0

  place_is : (k : ℕ) → k < place_count → (get_or left_places k None ≡ kept_place (reading_at now k) (get_or m.places k None))
  place_is k below = kept_at (reading_at now) m.places 0 k (omega (arith, below, ready.records.long)) ∙ ap (λ j. kept_place (reading_at now j) (get_or m.places k None)) (let e : 0 + k ≡ k = omega arith in e)

  place_same : (k : ℕ) → k < place_count → reading_at now k ≡ as_reading (get_or m.places k None) → get_or left_places k None ≡ get_or m.places k None
  place_same k below is = place_is k below ∙ ap (λ r. kept_place r (get_or m.places k None)) is ∙ as_kept (get_or m.places k None)

  place_free : (k : ℕ) → k < place_count → reading_at now k ≡ Free → get_or left_places k None ≡ None
  place_free k below is = place_is k below ∙ ap (λ r. kept_place r (get_or m.places k None)) is

  freed : IsFreed m.rows m.places left_places
  freed = record {
    long = kept_long (reading_at now) m.places 0;
    each = λ k. ⊎_elim
        (λ below. ⊎_elim (λ same. inl (place_same k below same)) (λ w. inr (place_free k below w.0, w.1)) (found k below))
        (λ past. inl (kept_past (reading_at now) m.places 0 k (omega (arith, past, ready.records.long)))) (cases_lt k place_count);
  }

  holds : HoldsPlaces s t image left_places
  holds = record {
    long = kept_long (reading_at now) m.places 0 ∙ ready.records.long;
    each = λ k below. ⊎_elim (λ same. same ∙ sym (ap as_reading (place_same k below same))) (λ w. w.0 ∙ sym (ap as_reading (place_free k below w.0))) (found k below);
  }

  -- each is kept
  pub swept_kept : IsKept now
  swept_kept = law_kept s t old (with_places left_places m) image (orderly_freed s t m left_places o freed) (firm_freed s t old m left_places freed ready.firm) swept_in holds

  not_of : (u : List ℕ) (r : Record) → is_shown m.rows u ≡ true → is_shown m.rows r.uuid ≡ false → is_record_of u r ≡ false
  not_of u r shown unseen = false_from_ne_true (is_record_of u r) (λ e. true≢false (sym shown ∙ ap (is_shown m.rows) (sym ((bytes_eq-Decides r.uuid u).0 e)) ∙ unseen))

  recorded : (u : List ℕ) → is_shown m.rows u ≡ true → record_of now u ≡ record_of was u
  unfolding records
  recorded u shown = record_of_first now u
      ∙ ap first_of (filter_fewer (is_record_of u) (λ k. taken (reading_at was k)) (λ k. taken (reading_at now k)) (numbers 0 record_count) (λ k i.
      let below = (In-numbers 0 record_count k i).1 in
      let held = place_reads s t old m o ready k below in
      ⊎_elim (λ same. inl (ap taken (same ∙ sym held)))
      (λ w. inr (ap taken w.0, (w.1.entry, ap taken held ∙ as_taken (get_or m.places k None) ∙ w.1.held, not_of u w.1.entry shown w.1.unseen))) (found k below)))
      ∙ sym (record_of_first was u)

  -- and where nothing was pending before, it shows the disks from before
  pub swept_disks : ((n : Name) → IsQuiet (volume_of s t old n)) → disks now ≡ disks was
  unfolding disk_at
  swept_disks settled = disks_same was now (λ u. at u (standing_volume t u) refl)
    where
      images : (n : Name) → image_of now n ≡ image_of was n
      images n = image_quiet s t old m image n o ready.firm swept_in (settled n)

      at : (u : List ℕ) (x : Option Name) → standing_volume t u ≡ x → disk_at now u ≡ disk_at was u
      at u None none = ap (λ (y : Option Name). y >>= (λ n. record_of now u >>= (λ q. Some (disk_in now u q n)))) none ∙ sym (ap (λ (y : Option Name). y >>= (λ n. record_of was u >>= (λ q. Some (disk_in was u q n)))) none)
      at u (Some n) is =
          ap (λ (y : Option Record). standing_volume t u >>= (λ n. y >>= (λ q. Some (disk_in now u q n)))) (recorded u (standing_shown s t m u n o is))
          ∙ ap (λ (f : Name → List (List ℕ)). standing_volume t u >>= (λ n. record_of was u >>= (λ q. Some (record { uuid = u; label = q.label; origin = q.origin; read_only = q.read_only; sectors = f n })))) (fun_ext (sectors_same was now images))
