-- The disks whose logs an opening reads, by the table and the images in memory.
use Rattle.std.proofs.Common.{◌≡◌, ℕ, ◌+◌, ◌<◌, ◌≤◌, inl, inr, Bool, true, false, not, ◌||◌, cond, List, [], ◌∷◌, ◌++◌, length, map, filter, take, get_or, Option, Some, None, is_some, refl, sym, ap, ap₂, ◌∙◌, subst, arith}
use Rattle.std.specs.Prelude.{if◌then◌else◌}
use Rattle.std.specs.List.{AllByRecursion, cons_option, filter_map}
use Rattle.std.specs.declared.cmp.Ordering.TheVariants.{Less}
use Rattle.std.proofs.lemmas.Bool.{true≢false}
use Rattle.std.proofs.lemmas.List.{append-nil, take_all}
use Rattle.std.proofs.lemmas.Option.{none-some, same_Some}
use Rattle.common_laws.specs.Lists.{In, given}
use Rattle.common_laws.proofs.Lists.{In-map, In-map_at, take_next}
use Rattle.sm_base.specs.Kinds.{is_log}
use Rattle.sm_base.specs.Names.{IsName, IsUuid, name_cmp}
use Rattle.sm_base.specs.declared.names.Name.{Name}
use Rattle.sm_base.specs.declared.names.Name.TheVariants.{Mgt, Vhd, Raw, Old, Cbt, Clone, Inflate, Coalesce, Relink, Leaf}
use Rattle.vg_meta.specs.Roomy.{RoomyRow, RoomyTable, rows_alone, table_alone}
use Rattle.vg_meta.specs.Tables.{IsTable, IsVolume, Row, VolumeTable}
use Rattle.vg_meta.proofs.RowLaws.{row_of-name}
use Rattle.sm_standing.specs.Contents.{Content}
use Rattle.sm_standing.specs.Dropped.{dropped, is_useless, is_useless_as}
use Rattle.sm_standing.specs.Ordered.{Rising, uuid_cmp}
use Rattle.sm_standing.specs.Standing.{standing_volume}
use Rattle.sm_standing.proofs.DisksShown.{row_of-In}
use Rattle.sm_standing.proofs.LogLaws.{disks_less, row_cmp, rows_rise}
use Rattle.sm_standing.proofs.Orders.{In-filter_map, filter_map-In}
use Rattle.sm_log_rows.proofs.DroppedLaws.{dropped_volumes}
use Rattle.sm_log_reading.specs.Checked.{AreDisksOf}
use Rattle.sm_log_reading.specs.declared.logs.DiskPieces.{DiskPieces}
use Rattle.vhd_chain.specs.declared.rows.TreeRow.{TreeRow}
use Rattle.sm_recover.specs.Repairs.{HasFewLogs}
use Rattle.sm_recover.specs.Tracked.{HasPiecesOf, disk_logged, disk_named, logged_disks, tree_pieces}

-- ---- of one volume

-- the disk of the log of a volume
pub record IsDiskOf (t : VolumeTable) (xs : List TreeRow) (r : Row) (d : DiskPieces) : Type 0 where
  pub named : r.name ≡ Cbt d.disk
  pub filled : r.fresh ≡ false
  pub stands : is_some (standing_volume t d.disk) ≡ true
  pub pieces : d.pieces ≡ tree_pieces xs d.disk

module _ (t : VolumeTable) (xs : List TreeRow) where
  abbrev disk_at : List ℕ → DiskPieces
  disk_at u = record { disk = u; pieces = tree_pieces xs u }

  given_is : (b : Bool) (u : List ℕ) (d : DiskPieces) → given b (disk_at u) ≡ Some d → (b ≡ true) × (disk_at u ≡ d)
  given_is true u d e = (refl, same_Some (disk_at u) d e)
  given_is false u d e = absurd (none-some d e)

  of_name : (r : Row) (n : Name) (d : DiskPieces) → r.name ≡ n → r.fresh ≡ false → disk_named t xs n ≡ Some d → IsDiskOf t xs r d
  of_name r (Cbt u) d named filled e =
      let w = given_is (is_some (standing_volume t u)) u d e in
      let own : u ≡ d.disk = ap (λ (x : DiskPieces). x.disk) w.1 in
      record {
        named = named ∙ ap Cbt own;
        filled = filled;
        stands = subst (λ v. is_some (standing_volume t v) ≡ true) own w.0;
        pieces = ap (λ (x : DiskPieces). x.pieces) (sym w.1) ∙ ap (tree_pieces xs) own;
      }
  of_name r Mgt d named filled e = absurd (none-some d e)
  of_name r (Vhd u) d named filled e = absurd (none-some d e)
  of_name r (Raw u) d named filled e = absurd (none-some d e)
  of_name r (Old u) d named filled e = absurd (none-some d e)
  of_name r (Clone a b w) d named filled e = absurd (none-some d e)
  of_name r (Inflate u k) d named filled e = absurd (none-some d e)
  of_name r (Coalesce v p) d named filled e = absurd (none-some d e)
  of_name r (Relink v p) d named filled e = absurd (none-some d e)
  of_name r (Leaf l p) d named filled e = absurd (none-some d e)

  pub disk_from : (r : Row) (d : DiskPieces) → disk_logged t xs r ≡ Some d → IsDiskOf t xs r d
  disk_from r d e = by r.fresh refl e
    where
      by : (b : Bool) → r.fresh ≡ b → (if b then None else disk_named t xs r.name) ≡ Some d → IsDiskOf t xs r d
      by true new e = absurd (none-some d e)
      by false filled e = of_name r r.name d refl filled e

  pub disk_to : (r : Row) (u : List ℕ) → r.name ≡ Cbt u → r.fresh ≡ false → is_some (standing_volume t u) ≡ true → disk_logged t xs r ≡ Some (disk_at u)
  disk_to r u named filled stands =
      ap₂ (λ (b : Bool) (n : Name). if b then None else disk_named t xs n) filled named ∙ ap (λ b. given b (disk_at u)) stands

  -- ---- of all volumes

  pub listed : (d : DiskPieces) → In d (logged_disks t xs) → (r : Row) × In r t.volumes × IsDiskOf t xs r d
  unfolding logged_disks
  listed d i = let w = In-filter_map (disk_logged t xs) t.volumes d i in (w.0, w.1, disk_from w.0 d w.2)

  pub in_list : (r : Row) (u : List ℕ) → In r t.volumes → r.name ≡ Cbt u → r.fresh ≡ false → is_some (standing_volume t u) ≡ true → In (disk_at u) (logged_disks t xs)
  unfolding logged_disks
  in_list r u i named filled stands = filter_map-In (disk_logged t xs) t.volumes r (disk_at u) i (disk_to r u named filled stands)

  -- in order of UUID
  proper : (n : Name) (u : List ℕ) → n ≡ Cbt u → IsName n → IsUuid u
  unfolding IsName
  proper n u named is = subst IsName named is

  rise : (rs : List Row) → AllByRecursion IsVolume rs → Rising row_cmp rs → Rising uuid_cmp (map (λ (d : DiskPieces). d.disk) (filter_map (disk_logged t xs) rs))
  rise [] each rising = tt
  rise (r ∷ rs) each rising = by (disk_logged t xs r) refl (rise rs each.1 rising.1)
    where
      volume_at : (qs : List Row) (q : Row) → AllByRecursion IsVolume qs → In q qs → IsVolume q
      volume_at [] q all i = absurd i
      volume_at (p ∷ qs) q all (inl is) = subst IsVolume (sym is) all.0
      volume_at (p ∷ qs) q all (inr i) = volume_at qs q all.1 i

      later : (d : DiskPieces) → disk_logged t xs r ≡ Some d → (v : List ℕ) → In v (map (λ (e : DiskPieces). e.disk) (filter_map (disk_logged t xs) rs)) → uuid_cmp d.disk v ≡ Less
      later d is v i =
          let e = In-map (λ (e : DiskPieces). e.disk) (filter_map (disk_logged t xs) rs) v i in
          let s = In-filter_map (disk_logged t xs) rs e.0 e.1 in
          let a = disk_from r d is in
          let b = disk_from s.0 e.0 s.2 in
          subst (λ w. uuid_cmp d.disk w ≡ Less) (sym e.2)
          (disks_less d.disk e.0.disk (proper r.name d.disk a.named each.0.name) (proper s.0.name e.0.disk b.named (volume_at rs s.0 each.1 s.1).name)
          (ap₂ name_cmp (sym a.named) (sym b.named) ∙ rising.0 s.0 s.1))

      by : (o : Option DiskPieces) → disk_logged t xs r ≡ o → Rising uuid_cmp (map (λ (d : DiskPieces). d.disk) (filter_map (disk_logged t xs) rs))
          → Rising uuid_cmp (map (λ (d : DiskPieces). d.disk) (cons_option o (filter_map (disk_logged t xs) rs)))
      by None is rest = rest
      by (Some d) is rest = (later d is, rest)

  pub in_order : {count : ℕ} → IsTable count t → Rising uuid_cmp (map (λ (d : DiskPieces). d.disk) (logged_disks t xs))
  unfolding logged_disks
  in_order table = rise t.volumes table.volumes.each (rows_rise t.volumes table.volumes.rising)

-- they are those of a content whose disks have so many pieces
pub are_disks : (c : Content) (xs : List TreeRow) → IsTable c.count c.table → HasPiecesOf c xs → AreDisksOf c (logged_disks c.table xs)
are_disks c xs table pieces = record {
  in_order = in_order c.table xs table;
  stands = λ d i. let w = listed c.table xs d i in w.2.stands;
  pieces = λ d i. let w = listed c.table xs d i in w.2.pieces ∙ pieces d.disk w.2.stands;
  all = λ u r there filled stands.
      In-map_at (λ (d : DiskPieces). d.disk) (logged_disks c.table xs) (record { disk = u; pieces = tree_pieces xs u })
      (in_list c.table xs r u (row_of-In c.table.volumes (Cbt u) r there).0 (row_of-name c.table.volumes (Cbt u) r there) filled stands);
}

-- ---- the logs that are left where those of no use went

log_useful : (t : VolumeTable) (xs : List TreeRow) (r : Row) → (is_log r.name ≡ true) × (is_useless t r ≡ false) → (d : DiskPieces) × (disk_logged t xs r ≡ Some d)
log_useful t xs r both = by r.name refl both.0 both.1
  where
    of : (u : List ℕ) → r.name ≡ Cbt u → (a b : Bool) → r.fresh ≡ a → is_some (standing_volume t u) ≡ b → (a || not b) ≡ false → (d : DiskPieces) × (disk_logged t xs r ≡ Some d)
    of u named false true filled stands e = (record { disk = u; pieces = tree_pieces xs u }, disk_to t xs r u named filled stands)
    of u named true b new stands e = absurd (true≢false e)
    of u named false false filled stands e = absurd (true≢false e)

    by : (n : Name) → r.name ≡ n → is_log n ≡ true → is_useless_as t r.fresh n ≡ false → (d : DiskPieces) × (disk_logged t xs r ≡ Some d)
    by (Cbt u) named log useful = of u named r.fresh (is_some (standing_volume t u)) refl refl useful
    by Mgt named log useful = absurd (true≢false (sym log))
    by (Vhd u) named log useful = absurd (true≢false (sym log))
    by (Raw u) named log useful = absurd (true≢false (sym log))
    by (Old u) named log useful = absurd (true≢false (sym log))
    by (Clone a b w) named log useful = absurd (true≢false (sym log))
    by (Inflate u k) named log useful = absurd (true≢false (sym log))
    by (Coalesce v p) named log useful = absurd (true≢false (sym log))
    by (Relink v p) named log useful = absurd (true≢false (sym log))
    by (Leaf l p) named log useful = absurd (true≢false (sym log))

-- each has its disk
fewer : (t : VolumeTable) (xs : List TreeRow) (rs : List Row) → length (filter (λ r. is_log r.name) (filter (λ r. not (is_useless t r)) rs)) ≤ length (filter_map (disk_logged t xs) rs)
fewer t xs [] = omega arith
fewer t xs (r ∷ rs) = by (is_useless t r) (is_log r.name) (disk_logged t xs r) refl refl refl (fewer t xs rs)
  where
    by : (a b : Bool) (o : Option DiskPieces) → is_useless t r ≡ a → is_log r.name ≡ b → disk_logged t xs r ≡ o
        → length (filter (λ r. is_log r.name) (filter (λ r. not (is_useless t r)) rs)) ≤ length (filter_map (disk_logged t xs) rs)
        → length (filter (λ r. is_log r.name) (cond (not a) (r ∷ filter (λ r. not (is_useless t r)) rs) (filter (λ r. not (is_useless t r)) rs))) ≤ length (cons_option o (filter_map (disk_logged t xs) rs))
    by true b None useless log is rest = rest
    by true b (Some d) useless log is rest = omega (arith, rest)
    by false false None useful other is rest = omega (arith, rest, ap (λ x. length (cond x (r ∷ filter (λ r. is_log r.name) (filter (λ r. not (is_useless t r)) rs)) (filter (λ r. is_log r.name) (filter (λ r. not (is_useless t r)) rs)))) other)
    by false false (Some d) useful other is rest = omega (arith, rest, ap (λ x. length (cond x (r ∷ filter (λ r. is_log r.name) (filter (λ r. not (is_useless t r)) rs)) (filter (λ r. is_log r.name) (filter (λ r. not (is_useless t r)) rs)))) other)
    by false true None useful log is rest = let d = log_useful t xs r (log, useful) in absurd (none-some d.0 (sym is ∙ d.1))
    by false true (Some d) useful log is rest = omega (arith, rest, ap (λ x. length (cond x (r ∷ filter (λ r. is_log r.name) (filter (λ r. not (is_useless t r)) rs)) (filter (λ r. is_log r.name) (filter (λ r. not (is_useless t r)) rs)))) log)

pub few_left : (count : ℕ) (t : VolumeTable) (xs : List TreeRow) → IsTable count t → length (logged_disks t xs) ≤ 500 → HasFewLogs (dropped t)
unfolding logged_disks
few_left count t xs table few =
    let less = fewer t xs t.volumes in
    omega (arith, less, few, ap (λ (rs : List Row). length (filter (λ r. is_log r.name) rs)) (dropped_volumes count t table))

-- ---- one volume after the other

module _ {A B : Type 0} (f : A → Option B) where
  filtered_last : (xs : List A) (x : A) → filter_map f (xs ++ x ∷ []) ≡ filter_map f xs ++ cons_option (f x) []
  filtered_last [] x = refl
  filtered_last (y ∷ xs) x = ap (cons_option (f y)) (filtered_last xs x) ∙ by (f y)
    where
      by : (o : Option B) → cons_option o (filter_map f xs ++ cons_option (f x) []) ≡ cons_option o (filter_map f xs) ++ cons_option (f x) []
      by None = refl
      by (Some z) = refl

  -- one that gives nothing
  pub next_none : (xs : List A) (i : ℕ) (x : A) → i < length xs → x ≡ get_or xs i x → f x ≡ None → filter_map f (take (i + 1) xs) ≡ filter_map f (take i xs)
  next_none xs i x below here none =
      ap (filter_map f) (take_next xs i x below here) ∙ filtered_last (take i xs) x ∙ ap (λ o. filter_map f (take i xs) ++ cons_option o []) none ∙ append-nil (filter_map f (take i xs))

  -- and one that gives something
  pub next_some : (xs : List A) (i : ℕ) (x : A) (y : B) → i < length xs → x ≡ get_or xs i x → f x ≡ Some y → filter_map f (take (i + 1) xs) ≡ filter_map f (take i xs) ++ y ∷ []
  next_some xs i x y below here some = ap (filter_map f) (take_next xs i x below here) ∙ filtered_last (take i xs) x ∙ ap (λ o. filter_map f (take i xs) ++ cons_option o []) some

  pub all_done : (xs : List A) (i : ℕ) → length xs ≤ i → filter_map f (take i xs) ≡ filter_map f xs
  all_done xs i past = ap (filter_map f) (take_all i xs past)

-- of the volumes in memory
pub disks_listed : (k : RoomyTable) (xs : List TreeRow) → filter_map (λ (h : RoomyRow). disk_logged (table_alone k) xs h.row) k.rows ≡ logged_disks (table_alone k) xs
unfolding logged_disks
disks_listed k xs = by k.rows
  where
    by : (hs : List RoomyRow) → filter_map (λ (h : RoomyRow). disk_logged (table_alone k) xs h.row) hs ≡ filter_map (disk_logged (table_alone k) xs) (rows_alone hs)
    by [] = refl
    by (h ∷ hs) = ap (cons_option (disk_logged (table_alone k) xs h.row)) (by hs)
