-- How many images there are, and how many extents they have, by the table and by memory.
use Rattle.std.proofs.Common.{◌≡◌, ◌≢◌, suc, ℕ, ◌+◌, ◌<◌, Bool, true, false, cond, nat_lt, List, [], ◌∷◌, length, map, filter, Option, Some, None, refl, sym, ap, ap₂, ◌∙◌, subst, arith, length-append}
use Rattle.std.proofs.Math.Logic.{∥∥₁_elim}
use Rattle.std.proofs.Props.{props}
use Rattle.std.specs.List.{AllByRecursion, filter_map, cons_option, sum}
use Rattle.std.specs.declared.cmp.Ordering.TheVariants.{Less}
use Rattle.std.proofs.lemmas.Bool.{true≢false, lt-ltb}
use Rattle.std.proofs.lemmas.List.Sums.{sum_by-cons}
use Rattle.std.proofs.lemmas.Option.{none-some, same_Some}
use Rattle.sm_base.specs.Kinds.{is_image, is_log}
use Rattle.sm_base.specs.Names.{IsName, name_cmp}
use Rattle.sm_base.specs.declared.names.Name.{Name}
use Rattle.sm_base.specs.declared.names.Name.TheVariants.{Mgt, Vhd, Raw}
use Rattle.vg_layout.specs.Places.{record_extents}
use Rattle.vg_meta.specs.Tables.{VolumeTable, Row, IsVolume, used, extents_in, free as free_of}
use Rattle.vg_meta.proofs.RowLaws.{row_of-name}
use Rattle.vg_extents.proofs.CountLaws.{low, length-free}
use Rattle.vg_volumes.specs.Sites.{Site}
use Rattle.common_laws.specs.Lists.{In}
use Rattle.common_laws.proofs.Lists.{In-map, In-map_at}
use Rattle.sm_log.specs.Logs.{log_extents}
use Rattle.sm_machine.specs.Shapes.{ImageRow, image_extents, free}
use Rattle.sm_machine.specs.WellFormed.{IsWellFormed, is_image_name}
use Rattle.sm_standing.specs.Checks.{images}
use Rattle.sm_standing.specs.Ordered.{Rising}
use Rattle.sm_standing.proofs.DisksShown.{row_of-In}
use Rattle.sm_standing.proofs.Orders.{rising_ext, In-filter_map, filter_map-In, rising-filter_map}
use Rattle.vhd_chain.specs.Trees.{row_name, tree_row}
use Rattle.vhd_chain.specs.declared.rows.TreeRow.{TreeRow}
use Rattle.sm_ready.specs.Known.{Known, machine_row, shape_in}
use Rattle.sm_ready.specs.Orderly.{IsOrderly}
use Rattle.sm_ready.proofs.Orders.{rowed, named_row}
use Rattle.sm_ready.proofs.ShapeLaws.{HasNoNew, image_cmp, image_total, rising_images, sum_mgt, no_extents}
use Rattle.sm_ready.proofs.LogRows.{log-no_image, log_extents_counted, sum-cons, sum_but_logs}
use Rattle.sm_ready.proofs.RowLaws.{tree_found, found_in, volume_there, image_named, All-In, row_cmp, rising_rows}

-- an image's row with nothing but its name and its number of extents
abbrev blank : ImageRow → ImageRow
blank i = record i { hidden = false; parent = None; size = 0; slots = [] }

abbrev blank_row : Row → ImageRow
blank_row r = record { name = r.name; hidden = false; parent = None; size = 0; slots = []; extents = length r.extents }

abbrev sized_of : Row → Option ImageRow
sized_of r = cond (is_image r.name) (Some (blank_row r)) None

abbrev other_of : Row → ℕ
other_of r = cond (is_image r.name) 0 (length r.extents)

rising-blank : (xs : List ImageRow) → Rising image_cmp xs → Rising image_cmp (map blank xs)
rising-blank [] r = tt
rising-blank (x ∷ xs) r = ((λ y i. let w = In-map blank xs y i in ap (λ (z : ImageRow). name_cmp x.name z.name) w.2 ∙ r.0 w.0 w.1), rising-blank xs r.1)

sized-name : (r : Row) (d : ImageRow) → sized_of r ≡ Some d → d ≡ blank_row r
sized-name r d e = by (is_image r.name) e
  where
    by : (b : Bool) → cond b (Some (blank_row r)) None ≡ Some d → d ≡ blank_row r
    by true is = sym (same_Some (blank_row r) d is)
    by false is = absurd (none-some d is)

sized-image : (r : Row) (d : ImageRow) → sized_of r ≡ Some d → is_image r.name ≡ true
sized-image r d e = by (is_image r.name) refl e
  where
    by : (b : Bool) → is_image r.name ≡ b → cond b (Some (blank_row r)) None ≡ Some d → is_image r.name ≡ true
    by true at is = at
    by false at is = absurd (none-some d is)

-- the images of the table, which are not new, are those of memory
sized_same : (s : Site) (t : VolumeTable) (m : Known) → HasNoNew t → IsOrderly s t m → IsWellFormed (shape_in s t m) → filter_map sized_of t.volumes ≡ map blank (map machine_row m.rows)
unfolding shape_in
sized_same s t m none_new o w =
    rising_ext image_cmp image_total (filter_map sized_of t.volumes) (map blank (map machine_row m.rows)) left right within without
  where
    left : Rising image_cmp (filter_map sized_of t.volumes)
    left = rising-filter_map row_cmp image_cmp sized_of keeps t.volumes (rising_rows t.volumes o.table.volumes.rising)
      where
        keeps : (u v : Row) (d e : ImageRow) → sized_of u ≡ Some d → sized_of v ≡ Some e → row_cmp u v ≡ Less → image_cmp d e ≡ Less
        keeps u v d e du ev less = ap₂ (λ (a b : ImageRow). name_cmp a.name b.name) (sized-name u d du) (sized-name v e ev) ∙ less

    found : (r : TreeRow) → In r m.rows → tree_row m.rows (row_name r) ≡ Some r
    found r i = tree_found m.rows r w.one_image i

    proper : (x : ImageRow) → In x (map machine_row m.rows) → IsName x.name
    proper x i =
        let y = In-map machine_row m.rows x i in
        let v = volume_there s t m y.0 o (image_named (row_name y.0) (named_row s t m y.0 o y.1)) (found y.0 y.1) in
        subst IsName (row_of-name t.volumes (row_name y.0) v.row v.there ∙ sym (ap (λ (z : ImageRow). z.name) y.2))
        (All-In IsVolume t.volumes v.row o.table.volumes.each (row_of-In t.volumes (row_name y.0) v.row v.there).0).name

    right : Rising image_cmp (map blank (map machine_row m.rows))
    right = rising-blank (map machine_row m.rows) (rising_images (map machine_row m.rows) proper w.images_in_order w.one_image)

    within : (d : ImageRow) → In d (filter_map sized_of t.volumes) → In d (map blank (map machine_row m.rows))
    within d i =
        let x = In-filter_map sized_of t.volumes d i in
        let z = rowed s t m x.0.name x.0 o (sized-image x.0 d x.2) (found_in t.volumes o.table.volumes.rising x.0 x.1) (none_new x.0 x.1) in
        subst (λ y. In y (map blank (map machine_row m.rows)))
        (ap₂ (λ (n : Name) (k : ℕ). let y : ImageRow = record { name = n; hidden = false; parent = None; size = 0; slots = []; extents = k } in y) z.named z.long ∙ sym (sized-name x.0 d x.2))
        (In-map_at blank (map machine_row m.rows) (machine_row z.row) (In-map_at machine_row m.rows z.row z.there))

    without : (d : ImageRow) → In d (map blank (map machine_row m.rows)) → In d (filter_map sized_of t.volumes)
    without d i =
        let x = In-map blank (map machine_row m.rows) d i in
        let y = In-map machine_row m.rows x.0 x.1 in
        let image = image_named (row_name y.0) (named_row s t m y.0 o y.1) in
        let v = volume_there s t m y.0 o image (found y.0 y.1) in
        let z = rowed s t m (row_name y.0) v.row o image v.there v.filled in
        let at = row_of-name t.volumes (row_name y.0) v.row v.there in
        let long = sym z.long ∙ ap (λ (q : TreeRow). q.extents) (same_Some z.row y.0 (sym z.found ∙ found y.0 y.1)) in
        filter_map-In sized_of t.volumes v.row d (row_of-In t.volumes (row_name y.0) v.row v.there).0
        (ap (λ b. cond b (Some (blank_row v.row)) None) (ap is_image at ∙ image)
        ∙ ap₂ (λ (n : Name) (k : ℕ). let q : ImageRow = record { name = n; hidden = false; parent = None; size = 0; slots = []; extents = k } in Some q) at long
        ∙ ap Some (sym (x.2 ∙ ap blank y.2)))

-- ---- how many they are

length_sized : (rs : List Row) → length (filter_map sized_of rs) ≡ length (filter (λ r. is_image r.name) rs)
length_sized [] = refl
length_sized (r ∷ rs) = by (is_image r.name) (length_sized rs)
  where
    by : (b : Bool) → length (filter_map sized_of rs) ≡ length (filter (λ r. is_image r.name) rs)
        → length (cons_option (cond b (Some (blank_row r)) None) (filter_map sized_of rs)) ≡ length (cond b (r ∷ filter (λ r. is_image r.name) rs) (filter (λ r. is_image r.name) rs))
    by true rest = ap suc rest
    by false rest = rest

length_twice : (rs : List TreeRow) → length (map blank (map machine_row rs)) ≡ length rs
length_twice [] = refl
length_twice (r ∷ rs) = ap suc (length_twice rs)

pub images_counted : (s : Site) (t : VolumeTable) (m : Known) → HasNoNew t → IsOrderly s t m → length (images t) ≡ length m.rows
unfolding shape_in
images_counted s t m none_new o =
    ∥∥₁_elim o.well_formed (hlevel props) (λ w. sym (length_sized t.volumes) ∙ ap (λ (xs : List ImageRow). length xs) (sized_same s t m none_new o w) ∙ length_twice m.rows)

-- ---- how many extents they have

extents-blank : (xs : List ImageRow) → image_extents (map blank xs) ≡ image_extents xs
unfolding image_extents
extents-blank [] = refl
extents-blank (x ∷ xs) = ap (λ n. x.extents + n) (extents-blank xs)

-- the extents of all volumes are those of images and those of the others
extents_split : (rs : List Row) → length (extents_in rs) ≡ sum (map other_of rs) + image_extents (filter_map sized_of rs)
unfolding image_extents
extents_split [] = refl
extents_split (r ∷ rs) =
    length-append r.extents (extents_in rs) ∙ ap (λ n. length r.extents + n) (extents_split rs)
    ∙ by (is_image r.name) ∙ ap (λ n. n + image_extents (filter_map sized_of (r ∷ rs))) (sym (sum-cons other_of r rs))
  where
    by : (b : Bool) → length r.extents + (sum (map other_of rs) + image_extents (filter_map sized_of rs))
        ≡ cond b 0 (length r.extents) + sum (map other_of rs) + image_extents (cons_option (cond b (Some (blank_row r)) None) (filter_map sized_of rs))
    by true = omega arith
    by false = omega arith

image_or : (s : Site) (t : VolumeTable) (m : Known) (r : Row) → IsOrderly s t m → In r t.volumes → is_image r.name ≡ false → is_log r.name ≡ false → r.name ≢ Mgt → length r.extents ≡ 0
unfolding is_image_name
image_or s t m r o i none no_log other = no_extents r r.name (All-In IsVolume t.volumes r o.table.volumes.each i).kind (no_image r.name none) other no_log (λ u is. true≢false (sym (ap is_image is) ∙ none))
  where
    no_image : (n : Name) → is_image n ≡ false → is_image_name n ≡ false
    no_image (Vhd u) e = absurd (true≢false e)
    no_image (Raw u) e = absurd (true≢false e)
    no_image _ e = refl

-- which are the logs of memory, and the records
others_counted : (s : Site) (t : VolumeTable) (m : Known) → IsOrderly s t m → sum (map other_of t.volumes) ≡ log_extents m.logs + record_extents s.geometry.extent
others_counted s t m o =
    sum_but_logs other_of t.volumes (λ r i is. log_other r is)
    ∙ ap₂ (λ a b. a + b) (log_extents_counted s t m o)
    (sum_mgt (λ r. cond (is_log r.name) 0 (other_of r)) t.volumes o.table.volumes.rising (λ r i is. ap (λ n. cond (is_log n) 0 (cond (is_image n) 0 (length r.extents))) is) others ∙ o.record_volume)
  where
    log_other : (r : Row) → is_log r.name ≡ true → other_of r ≡ length r.extents
    log_other r is = ap (λ b. cond b 0 (length r.extents)) (log-no_image r.name is)

    others : (r : Row) → In r t.volumes → r.name ≢ Mgt → cond (is_log r.name) 0 (other_of r) ≡ 0
    others r i other = by (is_log r.name) (is_image r.name) refl refl
      where
        by : (a b : Bool) → is_log r.name ≡ a → is_image r.name ≡ b → cond a 0 (cond b 0 (length r.extents)) ≡ 0
        by true b log e = refl
        by false true log e = refl
        by false false log e = image_or s t m r o i e log other

pub extents_counted : (s : Site) (t : VolumeTable) (m : Known) → HasNoNew t → IsOrderly s t m → length (used t) ≡ log_extents m.logs + record_extents s.geometry.extent + image_extents (map machine_row m.rows)
unfolding shape_in
extents_counted s t m none_new o = ∥∥₁_elim o.well_formed (hlevel props) (λ w.
    extents_split t.volumes ∙ ap₂ (λ a b. a + b) (others_counted s t m o) (ap (λ (xs : List ImageRow). image_extents xs) (sized_same s t m none_new o w) ∙ extents-blank (map machine_row m.rows)))

-- extents that are all below a count
all_low : (count : ℕ) (es : List ℕ) → AllByRecursion (λ (e : ℕ). e < count) es → low count es ≡ length es
all_low count [] all = refl
all_low count (e ∷ es) all =
    let one : cond {A = ℕ} (nat_lt e count) 1 0 ≡ 1 = ap (λ b. cond b 1 0) (lt-ltb e count all.0) in
    omega (arith, sum_by-cons (λ (x : ℕ). cond (nat_lt x count) 1 0) e es, one, all_low count es all.1)

-- the machine's free extents are those that no volume has
pub free_counted : (s : Site) (t : VolumeTable) (m : Known) → HasNoNew t → IsOrderly s t m → free (shape_in s t m) ≡ length (free_of s.count t)
unfolding free shape_in
free_counted s t m none_new o =
    omega (arith, extents_counted s t m none_new o, length-free s.count t o.table.volumes.distinct, all_low s.count (used t) o.table.volumes.below)
