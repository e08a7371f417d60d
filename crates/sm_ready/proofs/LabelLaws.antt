-- A disk gets another label: its record in place of the one from before, and the disk with it.
use Rattle.std.proofs.Common.{◌≡◌, ◌≢◌, ◌⊎◌, inl, inr, ℕ, zero, suc, ◌+◌, ◌<◌, Bool, true, false, cond, List, [], ◌∷◌, map, Option, Some, None, refl, sym, ap, ap₂, ◌∙◌, subst, arith}
use Rattle.std.specs.List.{cons_option, filter_map, find}
use Rattle.std.specs.Option.{option_map}
use Rattle.std.specs.Str.{bytes_eq}
use Rattle.std.proofs.Math.ListN.{get_or, get_or-map, set}
use Rattle.std.proofs.lemmas.List.{length-set}
use Rattle.std.proofs.Math.Logic.{∥∥₁_elim}
use Rattle.std.proofs.Math.Path.{fun_ext}
use Rattle.std.proofs.Props.{props}
use Rattle.std.proofs.lemmas.Bool.{false_from_ne_true}
use Rattle.std.proofs.lemmas.Option.{none-some}
use Rattle.sm_base.specs.declared.names.Name.{Name}
use Rattle.sm_machine.specs.Operations.{Op}
use Rattle.sm_machine.specs.Operations as op
use Rattle.common_laws.specs.Lists.{◌>>=◌, In, change, numbers, when}
use Rattle.common_laws.proofs.Bytes.{bytes_eq-refl, bytes_eq-same}
use Rattle.common_laws.proofs.Lists.{find-some, In-numbers}
use Rattle.sm_disk.specs.Held.{Held}
use Rattle.vg_meta.specs.Tables.{VolumeTable}
use Rattle.vg_volumes.specs.Sites.{Site}
use Rattle.sm_record.specs.declared.records.Record.{Record}
use Rattle.sm_mgt.specs.Places.{place_count}
use Rattle.sm_machine.specs.declared.commands.Command.TheVariants.{Label}
use Rattle.sm_machine.specs.Commits.{gives_up, is_given_up, own_commits}
use Rattle.sm_machine.specs.Disks.{Disk, on_disk, uuid_before}
use Rattle.sm_machine.specs.Refusals.{refusal}
use Rattle.sm_machine.specs.Shapes.{DiskRecord, Shape, refs}
use Rattle.sm_machine.specs.Steps.{is_record, shape_after, shape_next, with_record}
use Rattle.sm_machine.specs.WellFormed.{IsWellFormed}
use Rattle.sm_machine.proofs.Changes.{find-map}
use Rattle.sm_machine.proofs.Listed.{map-insert_by}
use Rattle.sm_standing.specs.Contents.{Content, is_record_of, reading_at, record_count, record_of, records, taken}
use Rattle.sm_standing.specs.Images.{image_of, sectors_read}
use Rattle.sm_standing.specs.Standing.{disk_at, disk_in, disks, standing_volume}
use Rattle.sm_standing.proofs.DiskChanges.{disks_changed}
use Rattle.sm_standing.proofs.ImageLaws.{sectors_same}
use Rattle.vhd_chain.specs.declared.rows.TreeRow.{TreeRow}
use Rattle.sm_ready.specs.Known.{Known, is_shown, machine_record, records_in, shape_in, shown_places}
use Rattle.sm_ready.specs.Middle.{with_place}
use Rattle.sm_ready.specs.Orderly.{IsOrderly, IsRoomyIn}
use Rattle.sm_ready.specs.Ready.{HoldsPlaces, IsFirm, IsReady, is_written_in}
use Rattle.sm_ready.specs.Stores.{content_in, content_now}
use Rattle.sm_ready.proofs.LeftLaws.{place_reads}
use Rattle.sm_ready.proofs.MiddleLaws.{nat_or_not}
use Rattle.sm_ready.proofs.NewLaws.{well_target}
use Rattle.sm_ready.proofs.OnceLaws.{once}
use Rattle.sm_ready.proofs.OwnLaws.{next_shape, step_shape}
use Rattle.sm_ready.proofs.ShapeLaws.{as_taken}

-- the same record with this label
abbrev pub relabelled : List ℕ → Record → Record
relabelled text r = record r { label = text }

-- where it is the disk's
abbrev relabelled_of : List ℕ → List ℕ → Record → Record
relabelled_of u text q = when (bytes_eq q.uuid u) (relabelled text) q

abbrev relabelled_place : List ℕ → List ℕ → Option Record → Option Record
relabelled_place u text x = option_map (relabelled_of u text) x

-- the disk has its record in this place, and stands in a visible image
pub record IsToLabel (m : Known) (u : List ℕ) (k : ℕ) (r : Record) : Type 0 where
  pub within : k < place_count
  pub there : get_or m.places k None ≡ Some r
  pub uuid : r.uuid ≡ u
  pub shown : is_shown m.rows u ≡ true

same_uuid : (u text : List ℕ) (q : Record) → (relabelled_of u text q).uuid ≡ q.uuid
same_uuid u text q = by (bytes_eq q.uuid u)
  where
    by : (b : Bool) → (when b (relabelled text) q).uuid ≡ q.uuid
    by true = refl
    by false = refl

-- ---- the places

none_else : (u text : List ℕ) (xs : List (Option Record)) → ((j : ℕ) (q : Record) → get_or xs j None ≡ Some q → q.uuid ≡ u → ⊥) → map (relabelled_place u text) xs ≡ xs
none_else u text [] none = refl
none_else u text (x ∷ xs) none = ap₂ (λ y ys. y ∷ ys) (by x (λ q is. none 0 q is)) (none_else u text xs (λ j. none (suc j)))
  where
    other : (q : Record) (b : Bool) → bytes_eq q.uuid u ≡ b → (q.uuid ≡ u → ⊥) → when b (relabelled text) q ≡ q
    other q true e never = absurd (never (bytes_eq-same q.uuid u e))
    other q false e never = refl

    by : (o : Option Record) → ((q : Record) → o ≡ Some q → q.uuid ≡ u → ⊥) → relabelled_place u text o ≡ o
    by None never = refl
    by (Some q) never = ap Some (other q (bytes_eq q.uuid u) refl (never q refl))

-- one place gets the record; no other place has one of the disk
set_one : (u text : List ℕ) (xs : List (Option Record)) (k : ℕ) (r : Record) → get_or xs k None ≡ Some r → r.uuid ≡ u → ((j : ℕ) (q : Record) → get_or xs j None ≡ Some q → q.uuid ≡ u → j ≡ k)
    → set xs k (Some (relabelled text r)) ≡ map (relabelled_place u text) xs
set_one u text [] k r at same only = absurd (none-some r at)
set_one u text (x ∷ xs) zero r at same only =
    ap₂ (λ y ys. y ∷ ys)
    (sym (ap (relabelled_place u text) at ∙ ap (λ b. Some (when b (relabelled text) r)) (subst (λ v. bytes_eq v u ≡ true) (sym same) (bytes_eq-refl u))))
    (sym (none_else u text xs (λ j q is own. (let e : suc j ≡ 0 = only (suc j) q is own in omega (arith, e)))))
set_one u text (x ∷ xs) (suc k) r at same only =
    ap₂ (λ y ys. y ∷ ys) (by x (λ q is own. (let e : 0 ≡ suc k = only 0 q is own in omega (arith, e)))) (set_one u text xs k r at same (λ j q is own. (let e : suc j ≡ suc k = only (suc j) q is own in omega (arith, e))))
  where
    other : (q : Record) (b : Bool) → bytes_eq q.uuid u ≡ b → (q.uuid ≡ u → ⊥) → q ≡ when b (relabelled text) q
    other q true e never = absurd (never (bytes_eq-same q.uuid u e))
    other q false e never = refl

    by : (o : Option Record) → ((q : Record) → o ≡ Some q → q.uuid ≡ u → ⊥) → o ≡ relabelled_place u text o
    by None never = refl
    by (Some q) never = ap Some (other q (bytes_eq q.uuid u) refl (never q refl))

places_labelled : (s : Site) (t : VolumeTable) (m : Known) (u text : List ℕ) (k : ℕ) (r : Record) → IsOrderly s t m → IsToLabel m u k r → set m.places k (Some (relabelled text r)) ≡ map (relabelled_place u text) m.places
unfolding shape_in
places_labelled s t m u text k r o h = set_one u text m.places k r h.there h.uuid (λ j q is own. ∥∥₁_elim o.well_formed (hlevel props) (λ w. by (nat_or_not k j) w q is own))
  where
    by : {j : ℕ} → (k ≡ j) ⊎ (k ≢ j) → IsWellFormed (shape_in s t m) → (q : Record) → get_or m.places j None ≡ Some q → q.uuid ≡ u → j ≡ k
    by (inl same) w q is own = sym same
    by {j} (inr other) w q is own = absurd (once m.rows m.places k j r q w.one_record h.there is other (ap (is_shown m.rows) h.uuid ∙ h.shown) (own ∙ sym h.uuid))

-- ---- the shape

abbrev labelled_record : List ℕ → List ℕ → DiskRecord → DiskRecord
labelled_record u text d = when (is_record u d) (λ r. record r { label = text }) d

record_alike : (u text : List ℕ) (q : Record) → machine_record (relabelled_of u text q) ≡ labelled_record u text (machine_record q)
record_alike u text q = by (bytes_eq q.uuid u)
  where
    by : (b : Bool) → machine_record (when b (relabelled text) q) ≡ when b (λ (r : DiskRecord). record r { label = text }) (machine_record q)
    by true = refl
    by false = refl

record_uuid : (u text : List ℕ) (d : DiskRecord) → (labelled_record u text d).uuid ≡ d.uuid
record_uuid u text d = by (is_record u d)
  where
    by : (b : Bool) → (when b (λ (r : DiskRecord). record r { label = text }) d).uuid ≡ d.uuid
    by true = refl
    by false = refl

records_labelled : (rows : List TreeRow) (u text : List ℕ) (places : List (Option Record)) → records_in (shown_places rows (map (relabelled_place u text) places)) ≡ change (is_record u) (λ r. record r { label = text }) (records_in (shown_places rows places))
unfolding records_in with_record
records_labelled rows u text [] = refl
records_labelled rows u text (None ∷ places) = records_labelled rows u text places
records_labelled rows u text (Some q ∷ places) =
    ap (λ b. records_in (cond b (Some (relabelled_of u text q) ∷ shown_places rows (map (relabelled_place u text) places)) (shown_places rows (map (relabelled_place u text) places)))) (ap (is_shown rows) (same_uuid u text q))
    ∙ by (is_shown rows q.uuid) (records_labelled rows u text places)
  where
    by : (b : Bool) → records_in (shown_places rows (map (relabelled_place u text) places)) ≡ change (is_record u) (λ r. record r { label = text }) (records_in (shown_places rows places))
        → records_in (cond b (Some (relabelled_of u text q) ∷ shown_places rows (map (relabelled_place u text) places)) (shown_places rows (map (relabelled_place u text) places)))
        ≡ change (is_record u) (λ r. record r { label = text }) (records_in (cond b (Some q ∷ shown_places rows places) (shown_places rows places)))
    by true rest =
        ap₂ with_record (record_alike u text q) rest
        ∙ sym (map-insert_by (labelled_record u text) _ _ (λ x y. ap₂ (λ v w. uuid_before v w) (sym (record_uuid u text x)) (sym (record_uuid u text y))) (machine_record q) (records_in (shown_places rows places)))
    by false rest = rest

pub shape_labelled : (s : Site) (t : VolumeTable) (m : Known) (u text : List ℕ) (k : ℕ) (r : Record) → IsOrderly s t m → IsToLabel m u k r → shape_in s t (with_place k (relabelled text r) m) ≡ shape_next (shape_in s t m) (Label u text)
unfolding shape_in shape_after is_given_up gives_up own_commits
shape_labelled s t m u text k r o h = ∥∥₁_elim o.well_formed (hlevel props) (λ w.
    ap (λ (ps : List (Option Record)). record (shape_in s t m) { records = records_in (shown_places m.rows ps) }) (places_labelled s t m u text k r o h)
    ∙ ap (λ (rs : List DiskRecord). record (shape_in s t m) { records = rs }) (records_labelled m.rows u text m.places)
    ∙ sym (next_shape (shape_in s t m) (Label u text) w refl refl))

roomy_records : (σ : Shape) (rs : List DiskRecord) (o : Op) → IsRoomyIn σ o → IsRoomyIn (record σ { records = rs }) o
roomy_records σ rs op.Idle h = tt
roomy_records σ rs (op.Copy v p cursor) h = h
roomy_records σ rs (op.Relink v p) h = tt
roomy_records σ rs (op.Leaf l p cursor) h = h
roomy_records σ rs (op.Live l p cursor dirty) h = h

pub orderly_labelled : (s : Site) (t : VolumeTable) (m : Known) (u text : List ℕ) (k : ℕ) (r : Record) → IsOrderly s t m → IsToLabel m u k r → refusal (shape_in s t m) (Label u text) ≡ None
    → IsOrderly s t (with_place k (relabelled text r) m)
unfolding shape_in refs
orderly_labelled s t m u text k r o h passes = record {
  table = o.table;
  few_extents = o.few_extents;
  record_volume = o.record_volume;
  few = o.few;
  new_named = o.new_named;
  logs = o.logs;
  few_logs = o.few_logs;
  logs_in_order = o.logs_in_order;
  log_room = o.log_room;
  images = o.images;
  places = length-set m.places k (Some (relabelled text r)) ∙ o.places;
  entries = o.entries;
  stands = o.stands;
  well_formed = well_target s t m (Label u text) (record { disks = []; shape = shape_in s t m }) (shape_in s t (with_place k (relabelled text r) m)) o refl
      (shape_labelled s t m u text k r o h ∙ sym (step_shape (record { disks = []; shape = shape_in s t m }) (Label u text) passes));
  roomy = roomy_records (shape_in s t m) (shape_in s t (with_place k (relabelled text r) m)).records m.op o.roomy;
  counts = o.counts;
}

pub firm_labelled : (s : Site) (t : VolumeTable) (area : Held) (m : Known) (k : ℕ) (r : Record) → IsFirm s t area m → IsFirm s t area (with_place k r m)
unfolding shape_in is_written_in
firm_labelled s t area m k r firm = record { images = firm.images; quiet = firm.quiet; below = firm.below }

-- ---- the disks

filter_map-map : (g : Record → Record) (f : ℕ → Option Record) (ks : List ℕ) → filter_map (λ k. option_map g (f k)) ks ≡ map g (filter_map f ks)
filter_map-map g f [] = refl
filter_map-map g f (k ∷ ks) = by (f k) (filter_map-map g f ks)
  where
    by : (o : Option Record) → filter_map (λ k. option_map g (f k)) ks ≡ map g (filter_map f ks) → cons_option (option_map g o) (filter_map (λ k. option_map g (f k)) ks) ≡ map g (cons_option o (filter_map f ks))
    by None rest = rest
    by (Some q) rest = ap (λ qs. g q ∷ qs) rest

filter_map-same : (f g : ℕ → Option Record) (ks : List ℕ) → ((k : ℕ) → In k ks → f k ≡ g k) → filter_map f ks ≡ filter_map g ks
filter_map-same f g [] same = refl
filter_map-same f g (k ∷ ks) same = ap₂ cons_option (same k (inl refl)) (filter_map-same f g ks (λ j i. same j (inr i)))

-- a content whose images are those that a read gives, and whose records are those of memory, one of them with its new label
module _ (s : Site) (t : VolumeTable) (area : Held) (m : Known) (u text : List ℕ) (k : ℕ) (r : Record) (image : ℕ → List ℕ) (o : IsOrderly s t m) (ready : IsReady s t area m) (h : IsToLabel m u k r)
    (holds : HoldsPlaces s t image (set m.places k (Some (relabelled text r)))) (images : (n : Name) → image_of (content_in s t image) n ≡ image_of (content_now s t area) n) where
  abbrev was : Content
  was = content_now s t area

  abbrev now : Content
  now = content_in s t image

  records_changed : records now ≡ map (relabelled_of u text) (records was)
  unfolding records
  records_changed =
      filter_map-same (λ j. taken (reading_at now j)) (λ j. option_map (relabelled_of u text) (taken (reading_at was j))) (numbers 0 record_count) (λ j i. at j (In-numbers 0 record_count j i).1)
      ∙ filter_map-map (relabelled_of u text) (λ j. taken (reading_at was j)) (numbers 0 record_count)
    where
      at : (j : ℕ) → j < 0 + record_count → taken (reading_at now j) ≡ option_map (relabelled_of u text) (taken (reading_at was j))
      at j below =
          ap taken (holds.each j (omega (arith, below))) ∙ as_taken (get_or (set m.places k (Some (relabelled text r))) j None)
          ∙ ap (λ ps. get_or ps j None) (places_labelled s t m u text k r o h) ∙ get_or-map (relabelled_place u text) m.places j None
          ∙ sym (ap (λ q. option_map (relabelled_of u text) (taken q)) (place_reads s t area m o ready j (omega (arith, below))) ∙ ap (option_map (relabelled_of u text)) (as_taken (get_or m.places j None)))

  record_changed : (v : List ℕ) → record_of now v ≡ option_map (relabelled_of u text) (record_of was v)
  record_changed v = ap (find (is_record_of v)) records_changed ∙ find-map (is_record_of v) (relabelled_of u text) (λ q. ap (λ w. bytes_eq w v) (same_uuid u text q)) (records was)

  read_alike : sectors_read now ≡ sectors_read was
  read_alike = fun_ext (sectors_same was now images)

  of_own : (y : Option Record) → record_of was u ≡ y → option_map (relabelled_of u text) y ≡ option_map (relabelled text) y
  of_own None is = refl
  of_own (Some q) is = ap (λ b. Some (when b (relabelled text) q)) (find-some (is_record_of u) (records was) q is).1

  of_other : (v : List ℕ) (y : Option Record) → v ≢ u → record_of was v ≡ y → option_map (relabelled_of u text) y ≡ y
  of_other v None other is = refl
  of_other v (Some q) other is =
      ap (λ b. Some (when b (relabelled text) q)) (false_from_ne_true (bytes_eq q.uuid u) (λ e. other (sym (bytes_eq-same q.uuid v (find-some (is_record_of v) (records was) q is).1) ∙ bytes_eq-same q.uuid u e)))

  -- the disks are those from before, that one with its new label
  pub disks_labelled : disks now ≡ on_disk u (λ d. record d { label = text }) (disks was)
  unfolding disk_at
  disks_labelled = disks_changed was now u (λ (d : Disk). record d { label = text }) (λ d. refl)
      (ap₂ (λ (y : Option Record) (f : Name → List (List ℕ)). standing_volume t u >>= (λ n. y >>= (λ q. Some (record { uuid = u; label = q.label; origin = q.origin; read_only = q.read_only; sectors = f n }))))
      (record_changed u ∙ of_own (record_of was u) refl) read_alike
      ∙ mine (standing_volume t u) (record_of was u))
      (λ v other. ap₂ (λ (y : Option Record) (f : Name → List (List ℕ)). standing_volume t v >>= (λ n. y >>= (λ q. Some (record { uuid = v; label = q.label; origin = q.origin; read_only = q.read_only; sectors = f n }))))
      (record_changed v ∙ of_other v (record_of was v) other refl) read_alike)
    where
      mine : (x : Option Name) (y : Option Record) → (x >>= (λ n. option_map (relabelled text) y >>= (λ q. Some (disk_in was u q n)))) ≡ option_map {T = Disk} (λ (d : Disk). record d { label = text }) (x >>= (λ n. y >>= (λ q. Some (disk_in was u q n))))
      mine None y = refl
      mine (Some n) None = refl
      mine (Some n) (Some q) = refl
