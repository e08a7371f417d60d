-- Each disk has one record, however many strays there are.
use Rattle.std.proofs.Common.{◌≡◌, ◌≢◌, inl, inr, ⊎_elim, ℕ, zero, suc, ◌<◌, ◌==◌, ◌&&◌, ◌||◌, not, Bool, true, false, cond, List, [], ◌∷◌, length, map, get_or, Option, Some, None, refl, sym, ap, ◌∙◌, subst, arith}
use Rattle.std.proofs.lemmas.Bool.{true≢false}
use Rattle.std.proofs.lemmas.Option.{none-some}
use Rattle.std.proofs.lemmas.Slice.Eq.{bytes_eq-Decides}
use Rattle.std.specs.List.{filter, list_any}
use Rattle.std.specs.Prelude.{is_some}
use Rattle.std.specs.Str.{bytes_eq}
use Rattle.sm_base.specs.declared.names.Name.{Name}
use Rattle.vg_meta.specs.Tables.{VolumeTable}
use Rattle.vg_volumes.specs.Sites.{Site}
use Rattle.sm_machine.specs.Disks.{uuid_before}
use Rattle.common_laws.specs.Lists.{In, Distinct, insert_by}
use Rattle.sm_machine.specs.Shapes.{DiskRecord, is_image_of, image_uuid}
use Rattle.sm_machine.specs.Steps.{with_record}
use Rattle.sm_machine.specs.WellFormed.{IsWellFormed}
use Rattle.common_laws.proofs.Lists.{In-filter, filter-In, In-insert_new, In-insert_old, In-map, In-map_at}
use Rattle.sm_record.specs.declared.records.Record.{Record}
use Rattle.sm_standing.specs.Contents.{record_count, is_record_of, taken}
use Rattle.sm_standing.specs.Standing.{standing_volume}
use Rattle.sm_standing.proofs.RecordLists.{filter_one}
use Rattle.sm_ready.specs.Outlined.{outline_in}
use Rattle.sm_ready.specs.Known.{Known, machine_row, machine_record, shape_in, records_in, shown_places, is_shown, is_shown_place}
use Rattle.vhd_chain.specs.declared.rows.TreeRow.{TreeRow}
use Rattle.vhd_chain.specs.Trees.{row_name}
use Rattle.sm_ready.specs.Orderly.{IsOrderly}
use Rattle.sm_standing.specs.Checks.{is_unrecorded}
use Rattle.sm_standing.specs.Outlines.{outline_records}
use Rattle.sm_mgt.specs.Places.{as_reading}
use Rattle.sm_ready.proofs.ShapeLaws.{standing_shown, into_records, from_records, place_of, as_taken, at_place}

abbrev before : DiskRecord → DiskRecord → Bool
before a b = uuid_before a.uuid b.uuid

abbrev pub uuid_of : DiskRecord → List ℕ
uuid_of d = d.uuid

-- what is distinct with an element put in is so without it, and has none like it
without_it : (x : DiskRecord) (xs : List DiskRecord) → Distinct (map uuid_of (insert_by before x xs)) → ((In x.uuid (map uuid_of xs)) → ⊥) × Distinct (map uuid_of xs)
unfolding insert_by
without_it x [] d = (λ i. absurd i, tt)
without_it x (y ∷ ys) d = by (before x y) (λ e. without_it x ys e) d
  where
    by : (b : Bool) → (Distinct (map uuid_of (insert_by before x ys)) → ((In x.uuid (map uuid_of ys)) → ⊥) × Distinct (map uuid_of ys)) → Distinct (map uuid_of (cond b (x ∷ y ∷ ys) (y ∷ insert_by before x ys)))
        → ((In x.uuid (map uuid_of (y ∷ ys))) → ⊥) × Distinct (map uuid_of (y ∷ ys))
    by true rest e = (e.0, e.1)
    by false rest e =
        let r = rest e.1 in (
          λ i. ⊎_elim (λ same. e.0 (subst (λ u. In u (map uuid_of (insert_by before x ys))) same (In-map_at uuid_of (insert_by before x ys) x (In-insert_new before x ys)))) (λ j. r.0 j) i,
          (λ i. let z = In-map uuid_of ys y.uuid i in e.0 (subst (λ u. In u (map uuid_of (insert_by before x ys))) (sym z.2) (In-map_at uuid_of (insert_by before x ys) z.0 (In-insert_old before x ys z.0 z.1))), r.1),
        )

abbrev pub Once : List TreeRow → List (Option Record) → Type 0
Once rs places = Distinct (map uuid_of (records_in (shown_places rs places)))

fewer : (rs : List TreeRow) (x : Option Record) (places : List (Option Record)) → Once rs (x ∷ places) → Once rs places
unfolding records_in with_record
fewer rs None places d = d
fewer rs (Some x) places d = by (is_shown rs x.uuid) d
  where
    by : (b : Bool) → Distinct (map uuid_of (records_in (cond b (Some x ∷ shown_places rs places) (shown_places rs places)))) → Once rs places
    by true e = (without_it (machine_record x) (records_in (shown_places rs places)) e).1
    by false e = e

not_first : (rs : List TreeRow) (r q : Record) (places : List (Option Record)) → Once rs (Some r ∷ places) → is_shown rs r.uuid ≡ true → q.uuid ≡ r.uuid → In (Some q) places → ⊥
unfolding records_in with_record
not_first rs r q places d shown same i =
    (without_it (machine_record r) (records_in (shown_places rs places)) (subst (λ b. Distinct (map uuid_of (records_in (cond b (Some r ∷ shown_places rs places) (shown_places rs places))))) shown d)).0
    (subst (λ u. In u (map uuid_of (records_in (shown_places rs places)))) same
    (In-map_at uuid_of (records_in (shown_places rs places)) (machine_record q) (into_records (shown_places rs places) q (filter-In (is_shown_place rs) places (Some q) i (ap (is_shown rs) same ∙ shown)))))

-- two places with shown outline_records have distinct UUIDs
pub once : (rs : List TreeRow) (places : List (Option Record)) (k j : ℕ) (r q : Record) → Once rs places → get_or places k None ≡ Some r → get_or places j None ≡ Some q → k ≢ j → is_shown rs r.uuid ≡ true → q.uuid ≡ r.uuid → ⊥
once rs [] k j r q d at_k at_j other shown same = none-some r at_k
once rs (x ∷ places) zero zero r q d at_k at_j other shown same = other refl
once rs (x ∷ places) zero (suc j) r q d at_k at_j other shown same = not_first rs r q places (subst (λ o. Once rs (o ∷ places)) at_k d) shown same (at_place places j q at_j)
once rs (x ∷ places) (suc k) zero r q d at_k at_j other shown same = not_first rs q r places (subst (λ o. Once rs (o ∷ places)) at_j d) (ap (is_shown rs) same ∙ shown) (sym same) (at_place places k r at_k)
once rs (x ∷ places) (suc k) (suc j) r q d at_k at_j other shown same = once rs places k j r q (fewer rs x places d) at_k at_j (λ e. other (ap suc e)) shown same

pub any_In : {A : Type 0} (test : A → Bool) (xs : List A) → list_any test xs ≡ true → (x : A) × In x xs × (test x ≡ true)
any_In test [] e = absurd (true≢false (sym e))
any_In test (y ∷ ys) e = by (test y) refl (λ f. any_In test ys f) e
  where
    by : (b : Bool) → test y ≡ b → (list_any test ys ≡ true → (x : _) × In x ys × (test x ≡ true)) → (b || list_any test ys) ≡ true → (x : _) × In x (y ∷ ys) × (test x ≡ true)
    by true is rest f = (y, inl refl, is)
    by false is rest f = let z = rest f in (z.0, inr z.1, z.2)

and_both : (a b : Bool) → (not a && b) ≡ true → (a ≡ false) × (b ≡ true)
and_both false b e = (refl, e)
and_both true b e = absurd (true≢false (sym e))

pub recorded_once : (s : Site) (t : VolumeTable) (m : Known) (u : List ℕ) → IsOrderly s t m → IsWellFormed (shape_in s t m) → is_some (standing_volume t u) ≡ true → is_unrecorded (outline_in s t m) u ≡ false
unfolding shape_in outline_records outline_in
recorded_once s t m u o w there = ap (λ (xs : List Record). not (length xs == 1)) only
  where
    standing : (x : Option Name) → is_some x ≡ true → (n : Name) × (x ≡ Some n)
    standing None e = absurd (true≢false (sym e))
    standing (Some n) e = (n, refl)

    shown : is_shown m.rows u ≡ true
    shown = let x = standing (standing_volume t u) there in standing_shown s t m u x.0 o x.1

    -- a place with its record
    place : (r : Record) × (r.uuid ≡ u) × (k : ℕ) × (k < length m.places) × (get_or m.places k None ≡ Some r)
    place =
        let q = any_In (λ r. is_image_of u (machine_row r)) m.rows shown in
        let b = and_both (q.0).hidden (bytes_eq (image_uuid (row_name q.0)) u) q.2 in
        let d = w.visible (machine_row q.0) (In-map_at machine_row m.rows q.0 q.1) b.0 in
        let f = from_records (shown_places m.rows m.places) d.0 d.1 in
        let p = place_of m.places f.entry (In-filter (is_shown_place m.rows) m.places (Some f.entry) f.place).0 in
        (f.entry, ap uuid_of (sym f.is) ∙ d.2 ∙ (bytes_eq-Decides (image_uuid (row_name q.0)) u).0 b.1, p.0, p.1, p.2)

    not_it : (q : Record) → (q.uuid ≡ u → ⊥) → is_record_of u q ≡ false
    not_it q f = by (is_record_of u q) refl
      where
        by : (b : Bool) → is_record_of u q ≡ b → is_record_of u q ≡ false
        by false e = e
        by true e = absurd (f ((bytes_eq-Decides q.uuid u).0 e))

    only : filter (is_record_of u) (outline_records (outline_in s t m)) ≡ place.0 ∷ []
    only = filter_one (is_record_of u) (λ k. taken (as_reading (get_or m.places k None))) place.0 place.2 0 record_count ((bytes_eq-Decides place.0.uuid u).1 place.1)
        (as_taken (get_or m.places place.2 None) ∙ place.4)
        (λ k q lo hi other e. not_it q (λ same. once m.rows m.places place.2 k place.0 q w.one_record place.4 (sym (as_taken (get_or m.places k None)) ∙ e) (λ x. other (sym x)) (ap (is_shown m.rows) place.1 ∙ shown) (same ∙ sym place.1)))
        (omega arith) (omega (arith, place.3, o.places))
