-- Reading the logs of all disks is the check of logs: disk by disk, in order of UUID.
use Rattle.std.proofs.Common.{◌≡◌, ℕ, ◌⊎◌, inl, inr, ⊎_elim, Bool, true, false, not, ◌&&◌, ◌||◌, ◌==◌, List, [], ◌∷◌, length, map, Option, Some, None, Result, Ok, Err, is_some, is_none, refl, sym, ap, ap₂, subst, ◌∙◌, arith}
use Rattle.std.specs.Prelude.{nat_lt, nat_le, if◌then◌else◌}
use Rattle.std.specs.Cmp.{IsTotalOrder}
use Rattle.std.specs.List.{list_any}
use Rattle.std.specs.Ordering.{is_lt}
use Rattle.std.specs.declared.cmp.Ordering.TheVariants.{Less, Equal}
use Rattle.std.proofs.lemmas.Bool.{true≢false, and_parts, cond-false}
use Rattle.std.proofs.lemmas.Bool.Decides.{nat_tests}
use Rattle.std.proofs.lemmas.Cmp.{nat_list_cmp_total}
use Rattle.std.proofs.lemmas.Map.Lookups.{exact_bytes}
use Rattle.std.proofs.lemmas.Option.{none-some, same_Some}
use Rattle.common_laws.specs.Lists.{In, insert_by, ◌>>=◌}
use Rattle.common_laws.proofs.Booleans.{not_true}
use Rattle.common_laws.proofs.Lists.{In-filter, In-map, In-map_at, filter-In, find_none}
use Rattle.sm_base.specs.Names.{IsUuid, name_cmp}
use Rattle.sm_base.specs.declared.faults.Place.TheVariants as at
use Rattle.sm_base.specs.declared.names.Name.{Name}
use Rattle.sm_base.specs.declared.names.Name.TheVariants.{Cbt}
use Rattle.sm_base.proofs.LogOrder.{logs_less}
use Rattle.sm_log.specs.Logs.{Log, is_log_of, log_before, log_of, log_sectors, with_log}
use Rattle.sm_logs.proofs.PlaceLaws.{less_apart}
use Rattle.vg_meta.specs.Tables.{IsTable, Row}
use Rattle.vg_meta.proofs.NameLaws.{less_from}
use Rattle.vg_meta.proofs.RowLaws.{row_of-name}
use Rattle.sm_standing.specs.Contents.{Content, row, size_of}
use Rattle.sm_standing.specs.LogChecks.{IsFirstWrong, is_log_right, is_log_wrong, is_tag_met, is_wrong_log, log_fault, log_wrong_as, logs_before, standing_pieces}
use Rattle.sm_standing.specs.Logs.{log_at, log_in, logs}
use Rattle.sm_standing.specs.Ordered.{Rising, uuid_cmp}
use Rattle.sm_standing.specs.Standing.{standing_volume}
use Rattle.sm_standing.proofs.DisksShown.{row_of-In}
use Rattle.sm_standing.proofs.FaultLaws.{named_none}
use Rattle.sm_standing.proofs.LogLaws.{any_at, disks_less, first_wrong, found_row, has_volume, in_list, listed, log_cmp, logs_rise, proper, proper_row, wrong_first, wrong_name}
use Rattle.sm_standing.proofs.Orders.{In-insert, new-insert, not_itself, not_both, old-insert, rising-insert, rising_ext}
use Rattle.sm_log_reading.specs.Checked.{AreDisksOf}
use Rattle.sm_log_reading.specs.Reading.{filled_extents, fitting, whole_log}
use Rattle.sm_log_reading.specs.Right.{is_tag_wrong, judged, judged_log, logs_behind, logs_read, next_log, with_next}
use Rattle.sm_log_reading.specs.declared.logs.DiskPieces.{DiskPieces}
use Rattle.sm_log_reading.proofs.NextLaws.{next_judged, next_none}

log_total : IsTotalOrder log_cmp
log_total = record {
  antisymm = λ x y. nat_list_cmp_total.antisymm x.disk y.disk;
  trans = λ x y z. nat_list_cmp_total.trans x.disk y.disk z.disk;
  congr = λ x y z. nat_list_cmp_total.congr x.disk y.disk z.disk;
}

abbrev disks_in : List DiskPieces → List (List ℕ)
disks_in ds = map (λ (d : DiskPieces). d.disk) ds

-- ---- lists with the same elements

any_in : {A : Type 0} (t : A → Bool) (xs : List A) → list_any t xs ≡ true → (x : A) × In x xs × (t x ≡ true)
any_in t [] e = absurd (true≢false (sym e))
any_in t (y ∷ ys) e = by (t y) refl (any_in t ys) e
  where
    by : (b : Bool) → t y ≡ b → (list_any t ys ≡ true → (x : _) × In x ys × (t x ≡ true)) → (b || list_any t ys) ≡ true → (x : _) × In x (y ∷ ys) × (t x ≡ true)
    by true is rest e = (y, inl refl, is)
    by false is rest e = let w = rest e in (w.0, inr w.1, w.2)

any_alike : {A : Type 0} (t : A → Bool) (xs ys : List A) → ((x : A) → In x xs → In x ys) → ((x : A) → In x ys → In x xs) → list_any t xs ≡ list_any t ys
any_alike t xs ys there back = by (list_any t xs) refl (list_any t ys) refl
  where
    by : (a : Bool) → list_any t xs ≡ a → (b : Bool) → list_any t ys ≡ b → a ≡ b
    by true is true also = refl
    by false is false also = refl
    by true is false also = let w = any_in t xs is in absurd (true≢false (sym (any_at t ys w.0 (there w.0 w.1) w.2) ∙ also))
    by false is true also = let w = any_in t ys also in absurd (true≢false (sym (any_at t xs w.0 (back w.0 w.1) w.2) ∙ is))

-- ---- a log is judged alike

below : (a b : ℕ) → nat_lt a b ≡ not (nat_le b a)
below a b = grind (arith, nat_tests)

sorted_out : (a b x y z n : Bool) (fine wrong : Result (Option Log) (List ℕ))
    → (if a && b then (if x || y || (not z && n) then wrong else fine) else wrong) ≡ (if a && (b && (not x && (not y && not (not z && n)))) then fine else wrong)
sorted_out false b x y z n fine wrong = refl
sorted_out true false x y z n fine wrong = refl
sorted_out true true true y z n fine wrong = refl
sorted_out true true false true z n fine wrong = refl
sorted_out true true false false true n fine wrong = refl
sorted_out true true false false false true fine wrong = refl
sorted_out true true false false false false fine wrong = refl

judged_alike : (sequence pieces size : ℕ) (earlier before : List Log) (u : List ℕ) (l : Log) → list_any (λ (k : Log). k.tag == l.tag) earlier ≡ list_any (λ (k : Log). k.tag == l.tag) before
    → judged sequence earlier u (fitting pieces size l) ≡ (if is_log_right pieces size before sequence l then Ok (Some l) else Err u)
judged_alike sequence pieces size earlier before u l met =
    let a = length l.bits == pieces in
    let b = nat_le (log_sectors pieces) size in
    let x = nat_le sequence l.tag in
    let y = nat_le sequence l.since in
    let z = l.tag == 0 in
    opened (a && b)
    ∙ ap (λ (m : Bool). if a && b then (if x || y || (not z && m) then Err u else Ok (Some l)) else Err u) met
    ∙ sorted_out a b x y z (list_any (λ (k : Log). k.tag == l.tag) before) (Ok (Some l)) (Err u)
    ∙ ap₂ (λ (p q : Bool). if a && (b && (p && (q && not (is_tag_met before l.tag)))) then Ok (Some l) else Err u) (sym (below l.tag sequence)) (sym (below l.since sequence))
  where
    opened : (c : Bool) → judged sequence earlier u (if c then Some l else None) ≡ (if c then (if is_tag_wrong sequence earlier l then Err u else Ok (Some l)) else Err u)
    opened true = refl
    opened false = refl

-- ---- one disk

-- none of these logs is that of a later disk
none_of : (ls : List Log) (u : List ℕ) → ((l : Log) → In l ls → uuid_cmp l.disk u ≡ Less) → log_of u ls ≡ None
none_of ls u less = find_none (is_log_of u) ls (λ l i. less_apart l.disk u (less l i))

-- a log's row is wrong as its volume is judged
wrong_is : (c : Content) (u : List ℕ) (r : Row) → row c (Cbt u) ≡ Some r → r.fresh ≡ false → is_some (standing_volume c.table u) ≡ true
    → is_wrong_log c r ≡ is_log_wrong (standing_pieces c u) (size_of c (Cbt u)) (logs_before c u) c.table.sequence (log_at c u)
wrong_is c u r is full stands =
    ap₂ (λ (b : Bool) (n : Name). not b && log_wrong_as c n) full (row_of-name c.table.volumes (Cbt u) r is)
    ∙ ap (λ (b : Bool). b && is_log_wrong (standing_pieces c u) (size_of c (Cbt u)) (logs_before c u) c.table.sequence (log_at c u)) stands

new_right : (c : Content) (r : Row) → r.fresh ≡ true → is_wrong_log c r ≡ false
new_right c r new = ap (λ (b : Bool). not b && log_wrong_as c r.name) new

-- what the reading of a disk's log comes to, where all before it were read
data NextIs (c : Content) (earlier : List Log) (d : DiskPieces) : Type 0 where
  no_log : next_log c earlier d ≡ Ok None → log_at c d.disk ≡ None → ((r : Row) → row c (Cbt d.disk) ≡ Some r → is_wrong_log c r ≡ false) → NextIs c earlier d
  one_log : (l : Log) → next_log c earlier d ≡ Ok (Some l) → log_at c d.disk ≡ Some l → ((r : Row) → row c (Cbt d.disk) ≡ Some r → is_wrong_log c r ≡ false) → NextIs c earlier d
  bad_log : (r : Row) → next_log c earlier d ≡ Err d.disk → row c (Cbt d.disk) ≡ Some r → is_wrong_log c r ≡ true → NextIs c earlier d

module _ (c : Content) (earlier : List Log) (d : DiskPieces) (stands : is_some (standing_volume c.table d.disk) ≡ true) (pieces : d.pieces ≡ standing_pieces c d.disk)
    (unread : log_of d.disk earlier ≡ None) (alike : (r : Row) → row c (Cbt d.disk) ≡ Some r → (t : Log → Bool) → list_any t earlier ≡ list_any t (logs_before c d.disk)) where
  abbrev u : List ℕ
  u = d.disk

  -- the log is there, or not
  filled : (r : Row) → row c (Cbt u) ≡ Some r → r.fresh ≡ false → next_log c earlier d ≡ judged_log c earlier d
  filled r is full =
      next_judged c earlier d
      (ap₂ (λ (o : Option ℕ) (p : Option Log). is_some o && is_none p)
      (ap (λ (o : Option Row). o >>= λ r. if r.fresh then None else Some (length r.extents)) is ∙ cond-false r.fresh None (Some (length r.extents)) full) unread)

  judge : (o : Option Log) → log_at c u ≡ o → judged_log c earlier d ≡ judged c.table.sequence earlier u (o >>= fitting (standing_pieces c u) (size_of c (Cbt u)))
  unfolding whole_log
  judge o is = ap₂ (λ (p : Option Log) (n : ℕ). judged c.table.sequence earlier u (p >>= fitting n (size_of c (Cbt u)))) is pieces

  by_log : (r : Row) → row c (Cbt u) ≡ Some r → r.fresh ≡ false → (o : Option Log) → log_at c u ≡ o → NextIs c earlier d
  by_log r is full None at =
      bad_log r (filled r is full ∙ judge None at) is
      (wrong_is c u r is full stands ∙ ap (is_log_wrong (standing_pieces c u) (size_of c (Cbt u)) (logs_before c u) c.table.sequence) at)
  by_log r is full (Some l) at = by (is_log_right (standing_pieces c u) (size_of c (Cbt u)) (logs_before c u) c.table.sequence l) refl
    where
      next : next_log c earlier d ≡ (if is_log_right (standing_pieces c u) (size_of c (Cbt u)) (logs_before c u) c.table.sequence l then Ok (Some l) else Err u)
      next = filled r is full ∙ judge (Some l) at ∙ judged_alike c.table.sequence (standing_pieces c u) (size_of c (Cbt u)) earlier (logs_before c u) u l (alike r is (λ (k : Log). k.tag == l.tag))

      wrong : (s : Row) → row c (Cbt u) ≡ Some s → is_wrong_log c s ≡ not (is_log_right (standing_pieces c u) (size_of c (Cbt u)) (logs_before c u) c.table.sequence l)
      wrong s there =
          let same : s ≡ r = same_Some s r (sym there ∙ is) in
          ap (is_wrong_log c) same ∙ wrong_is c u r is full stands ∙ ap (is_log_wrong (standing_pieces c u) (size_of c (Cbt u)) (logs_before c u) c.table.sequence) at

      by : (b : Bool) → is_log_right (standing_pieces c u) (size_of c (Cbt u)) (logs_before c u) c.table.sequence l ≡ b → NextIs c earlier d
      by true right = one_log l (next ∙ ap (λ (b : Bool). if b then Ok (Some l) else Err u) right) at (λ s there. wrong s there ∙ ap not right)
      by false not_right = bad_log r (next ∙ ap (λ (b : Bool). if b then Ok (Some l) else Err u) not_right) is (wrong r is ∙ ap not not_right)

  no_extents : filled_extents c.table u ≡ None → next_log c earlier d ≡ Ok None
  no_extents none = next_none c earlier d (ap (λ (o : Option ℕ). is_some o && is_none (log_of u earlier)) none)

  next_is : NextIs c earlier d
  unfolding log_at
  next_is = by (row c (Cbt u)) refl
    where
      of : (r : Row) → row c (Cbt u) ≡ Some r → (b : Bool) → r.fresh ≡ b → NextIs c earlier d
      of r is true new =
          no_log (no_extents (ap (λ (o : Option Row). o >>= λ r. if r.fresh then None else Some (length r.extents)) is ∙ ap (λ (b : Bool). if b then None else Some (length r.extents)) new))
          (ap (λ (o : Option Row). o >>= λ r. log_in c u r) is ∙ ap (λ (b : Bool). if b then None else log_in c u (record r { fresh = false })) new)
          (λ s there. let same : s ≡ r = same_Some s r (sym there ∙ is) in new_right c s (ap (λ (q : Row). q.fresh) same ∙ new))
      of r is false full = by_log r is full (log_at c u) refl

      by : (o : Option Row) → row c (Cbt u) ≡ o → NextIs c earlier d
      by None is =
          no_log (no_extents (ap (λ (o : Option Row). o >>= λ r. if r.fresh then None else Some (length r.extents)) is)) (ap (λ (o : Option Row). o >>= λ r. log_in c u r) is)
          (λ s there. absurd (none-some s (sym is ∙ there)))
      by (Some r) is = of r is r.fresh refl

-- ---- one disk after the other

-- the logs that were read, and the disks that are left
record IsSoFar (c : Content) (earlier : List Log) (ds : List DiskPieces) : Type 0 where
  rising : Rising log_cmp earlier
  among : (l : Log) → In l earlier → In l (logs c)
  before : (l : Log) (d : DiskPieces) → In l earlier → In d ds → uuid_cmp l.disk d.disk ≡ Less
  left : (l : Log) → In l (logs c) → In l earlier ⊎ In l.disk (disks_in ds)

-- the logs of these disks pass
abbrev Pass : Content → List DiskPieces → Type 0
Pass c ds = (d : DiskPieces) (r : Row) → In d ds → row c (Cbt d.disk) ≡ Some r → is_wrong_log c r ≡ false

-- the log of a disk is wrong, and those before it pass
record IsFirstOf (c : Content) (ds : List DiskPieces) : Type 0 where
  disk : DiskPieces
  here : In disk ds
  held : Row
  there : row c (Cbt disk.disk) ≡ Some held
  wrong : is_wrong_log c held ≡ true
  first : (d : DiskPieces) (r : Row) → In d ds → uuid_cmp d.disk disk.disk ≡ Less → row c (Cbt d.disk) ≡ Some r → is_wrong_log c r ≡ false

data ReadIs (c : Content) (earlier : List Log) (ds : List DiskPieces) : Type 0 where
  whole : logs_behind c earlier ds ≡ Ok (logs c) → Pass c ds → ReadIs c earlier ds
  stuck : (w : IsFirstOf c ds) → logs_behind c earlier ds ≡ Err w.disk.disk → ReadIs c earlier ds

module _ (c : Content) (table : IsTable c.count c.table) where
  -- the logs before a disk are those that were read
  alike_before : (earlier : List Log) (d : DiskPieces) (ds : List DiskPieces) → IsSoFar c earlier (d ∷ ds) → Rising uuid_cmp (disks_in (d ∷ ds))
      → (r : Row) → row c (Cbt d.disk) ≡ Some r → (t : Log → Bool) → list_any t earlier ≡ list_any t (logs_before c d.disk)
  unfolding logs_before
  alike_before earlier d ds far rising r is t = any_alike t earlier (logs_before c d.disk) there back
    where
      own : IsUuid d.disk
      own = proper_row c table d.disk r is

      is_uuid : (l : Log) → In l (logs c) → IsUuid l.disk
      is_uuid l i = proper c table l.disk l (listed c l i).here

      there : (l : Log) → In l earlier → In l (logs_before c d.disk)
      there l i =
          filter-In (λ (k : Log). is_lt (name_cmp (Cbt k.disk) (Cbt d.disk))) (logs c) l (far.among l i)
          (ap is_lt (logs_less l.disk d.disk (is_uuid l (far.among l i)) own (far.before l d i (inl refl))))

      back : (l : Log) → In l (logs_before c d.disk) → In l earlier
      back l i =
          let w = In-filter (λ (k : Log). is_lt (name_cmp (Cbt k.disk) (Cbt d.disk))) (logs c) l i in
          let less : uuid_cmp l.disk d.disk ≡ Less = disks_less l.disk d.disk (is_uuid l w.0) own (less_from (Cbt l.disk) (Cbt d.disk) w.1) in
          ⊎_elim (λ h. h)
          (⊎_elim (λ same. absurd (not_itself uuid_cmp nat_list_cmp_total d.disk (subst (λ v. uuid_cmp v d.disk ≡ Less) same less)))
          (λ later. absurd (not_both uuid_cmp nat_list_cmp_total l.disk d.disk less (rising.0 l.disk later))))
          (far.left l w.0)

  module _ (earlier : List Log) (d : DiskPieces) (ds : List DiskPieces) (far : IsSoFar c earlier (d ∷ ds)) (rising : Rising uuid_cmp (disks_in (d ∷ ds))) (stands : is_some (standing_volume c.table d.disk) ≡ true) where
    -- it has no log
    far_none : log_at c d.disk ≡ None → IsSoFar c earlier ds
    far_none at = record {
      rising = far.rising;
      among = far.among;
      before = λ l e i j. far.before l e i (inr j);
      left = λ l i. ⊎_elim (λ h. inl h) (⊎_elim (λ same. absurd (none-some l (sym at ∙ ap (log_at c) (sym same) ∙ (listed c l i).here))) (λ later. inr later)) (far.left l i);
    }

    -- its log goes in
    far_one : (l : Log) → log_at c d.disk ≡ Some l → IsSoFar c (with_log l earlier) ds
    unfolding with_log
    far_one l at = record {
      rising = rising-insert log_cmp log_total l earlier others far.rising;
      among = λ m i. ⊎_elim (λ same. subst (λ k. In k (logs c)) (sym same) (in_list c d.disk l at stands)) (λ h. far.among m h) (In-insert log_cmp log_total l m earlier i);
      before = λ m e i j. ⊎_elim
          (λ same. subst (λ v. uuid_cmp v e.disk ≡ Less) (sym own ∙ ap (λ (k : Log). k.disk) (sym same)) (rising.0 e.disk (In-map_at (λ (x : DiskPieces). x.disk) ds e j)))
          (λ h. far.before m e h (inr j)) (In-insert log_cmp log_total l m earlier i);
      left = λ m i. ⊎_elim (λ h. inl (old-insert log_cmp log_total l m earlier h))
          (⊎_elim (λ same. inl (subst (λ k. In k (insert_by log_before l earlier)) (same_Some l m (sym at ∙ ap (log_at c) (sym same) ∙ (listed c m i).here)) (new-insert log_cmp log_total l earlier))) (λ later. inr later))
          (far.left m i);
    }
      where
        own : l.disk ≡ d.disk
        own = (has_volume c d.disk l at).own

        others : (k : Log) → In k earlier → log_cmp l k ≡ Equal → ⊥
        others k i e =
            not_itself uuid_cmp nat_list_cmp_total d.disk
            (subst (λ v. uuid_cmp v d.disk ≡ Less) (sym (exact_bytes l.disk k.disk e) ∙ own) (far.before k d i (inl refl)))

    -- it passes, and what is behind it goes on
    onward : (next : List Log) → logs_behind c earlier (d ∷ ds) ≡ logs_behind c next ds → ((r : Row) → row c (Cbt d.disk) ≡ Some r → is_wrong_log c r ≡ false) → ReadIs c next ds → ReadIs c earlier (d ∷ ds)
    onward next same pass (whole e behind) = whole (same ∙ e) passing
      where
        passing : Pass c (d ∷ ds)
        passing x r (inl is) at = pass r (ap (λ (y : DiskPieces). row c (Cbt y.disk)) (sym is) ∙ at)
        passing x r (inr i) at = behind x r i at
    onward next same pass (stuck w e) = stuck (record { disk = w.disk; here = inr w.here; held = w.held; there = w.there; wrong = w.wrong; first = first }) (same ∙ e)
      where
        first : (x : DiskPieces) (r : Row) → In x (d ∷ ds) → uuid_cmp x.disk w.disk.disk ≡ Less → row c (Cbt x.disk) ≡ Some r → is_wrong_log c r ≡ false
        first x r (inl is) less at = pass r (ap (λ (y : DiskPieces). row c (Cbt y.disk)) (sym is) ∙ at)
        first x r (inr i) less at = w.first x r i less at

    -- it is the first that is wrong
    first_here : (r : Row) → row c (Cbt d.disk) ≡ Some r → is_wrong_log c r ≡ true → (w : IsFirstOf c (d ∷ ds)) × (w.disk.disk ≡ d.disk)
    first_here r is wrong = (record { disk = d; here = inl refl; held = r; there = is; wrong = wrong; first = first }, refl)
      where
        first : (x : DiskPieces) (s : Row) → In x (d ∷ ds) → uuid_cmp x.disk d.disk ≡ Less → row c (Cbt x.disk) ≡ Some s → is_wrong_log c s ≡ false
        first x s (inl same) less at = absurd (not_itself uuid_cmp nat_list_cmp_total d.disk (subst (λ (y : DiskPieces). uuid_cmp y.disk d.disk ≡ Less) same less))
        first x s (inr i) less at = absurd (not_both uuid_cmp nat_list_cmp_total x.disk d.disk less (rising.0 x.disk (In-map_at (λ (y : DiskPieces). y.disk) ds x i)))

    behind : (next : Result (Option Log) (List ℕ)) → next_log c earlier d ≡ next
        → logs_behind c earlier (d ∷ ds) ≡ elim next as (λ _. Result (List Log) (List ℕ)) [ Ok found ↦ logs_behind c (with_next found earlier) ds | Err u ↦ Err u ]
    unfolding logs_behind
    behind next is = ap (λ (r : Result (Option Log) (List ℕ)). elim r as (λ _. Result (List Log) (List ℕ)) [ Ok found ↦ logs_behind c (with_next found earlier) ds | Err u ↦ Err u ]) is

    step : NextIs c earlier d → ((next : List Log) → IsSoFar c next ds → ReadIs c next ds) → ReadIs c earlier (d ∷ ds)
    step (no_log next at pass) rest = onward earlier (behind (Ok None) next) pass (rest earlier (far_none at))
    step (one_log l next at pass) rest = onward (with_log l earlier) (behind (Ok (Some l)) next) pass (rest (with_log l earlier) (far_one l at))
    step (bad_log r next is wrong) rest = let w = first_here r is wrong in stuck w.0 (behind (Err d.disk) next ∙ ap Err (sym w.1))

  read_rest : (ds : List DiskPieces) (earlier : List Log) → IsSoFar c earlier ds → Rising uuid_cmp (disks_in ds)
      → ((d : DiskPieces) → In d ds → is_some (standing_volume c.table d.disk) ≡ true) → ((d : DiskPieces) → In d ds → d.pieces ≡ standing_pieces c d.disk) → ReadIs c earlier ds
  unfolding logs_behind
  read_rest [] earlier far rising stands pieces =
      whole (ap Ok (rising_ext log_cmp log_total earlier (logs c) far.rising (logs_rise c table) far.among (λ l i. ⊎_elim (λ h. h) (λ none. absurd none) (far.left l i)))) (λ d r i. absurd i)
  read_rest (d ∷ ds) earlier far rising stands pieces =
      step earlier d ds far rising (stands d (inl refl))
      (next_is c earlier d (stands d (inl refl)) (pieces d (inl refl)) (none_of earlier d.disk (λ l i. far.before l d i (inl refl))) (alike_before earlier d ds far rising))
      (λ next so_far. read_rest ds next so_far rising.1 (λ e i. stands e (inr i)) (λ e i. pieces e (inr i)))

  module _ (ds : List DiskPieces) (a : AreDisksOf c ds) where
    read_all_disks : ReadIs c [] ds
    read_all_disks = read_rest ds [] start a.in_order a.stands a.pieces
      where
        start : IsSoFar c [] ds
        start = record {
          rising = tt;
          among = λ l i. absurd i;
          before = λ l d i. absurd i;
          left = λ l i. let k = listed c l i in let w = has_volume c l.disk l k.here in inr (a.all l.disk w.held w.there w.filled k.stands);
        }

    -- a wrong log is that of one of the disks
    wrong_disk : (r : Row) (v : List ℕ) → In r c.table.volumes → r.name ≡ Cbt v → is_wrong_log c r ≡ true → (d : DiskPieces) × In d ds × (v ≡ d.disk) × (row c (Cbt d.disk) ≡ Some r)
    wrong_disk r v i named wrong =
        let parts = and_parts (not r.fresh) (log_wrong_as c r.name) wrong in
        let stands = (and_parts (is_some (standing_volume c.table v)) _ (ap (log_wrong_as c) (sym named) ∙ parts.1)).0 in
        let there : row c (Cbt v) ≡ Some r = ap (row c) (sym named) ∙ found_row c.table.volumes table.volumes.rising r i in
        let w = In-map (λ (x : DiskPieces). x.disk) ds v (a.all v r there (not_true r.fresh parts.0) stands) in
        (w.0, w.1, w.2, ap (λ u. row c (Cbt u)) (sym w.2) ∙ there)

    pub read_passing : log_fault c ≡ None → logs_read c ds ≡ Ok (logs c)
    unfolding log_fault
    read_passing fine = by read_all_disks
      where
        by : ReadIs c [] ds → logs_read c ds ≡ Ok (logs c)
        by (whole e pass) = e
        by (stuck w e) =
            absurd (true≢false (sym w.wrong ∙ named_none at.Log (is_wrong_log c) c.table.volumes fine w.held (row_of-In c.table.volumes (Cbt w.disk.disk) w.held w.there).0))

    pub read_wrong : (u : List ℕ) → log_fault c ≡ Some (at.Log (Cbt u)) → logs_read c ds ≡ Err u
    read_wrong u fault = by read_all_disks
      where
        first_of : (w : IsFirstOf c ds) → IsFirstWrong c w.disk.disk
        first_of w = record {
          held = w.held;
          here = (row_of-In c.table.volumes (Cbt w.disk.disk) w.held w.there).0;
          named = row_of-name c.table.volumes (Cbt w.disk.disk) w.held w.there;
          wrong = w.wrong;
          first = λ r i is. not_less r i is (is_lt (name_cmp r.name (Cbt w.disk.disk))) refl;
        }
          where
            not_less : (r : Row) → In r c.table.volumes → is_wrong_log c r ≡ true → (b : Bool) → is_lt (name_cmp r.name (Cbt w.disk.disk)) ≡ b → b ≡ false
            not_less r i is false e = refl
            not_less r i is true e =
                let n = wrong_name c table r.name (and_parts (not r.fresh) (log_wrong_as c r.name) is).1 in
                let d = wrong_disk r n.0 i n.1 is in
                let less : name_cmp (Cbt d.0.disk) (Cbt w.disk.disk) ≡ Less = ap (λ m. name_cmp m (Cbt w.disk.disk)) (ap Cbt (sym d.2) ∙ sym n.1) ∙ less_from r.name (Cbt w.disk.disk) e in
                absurd (true≢false (sym is ∙ w.first d.0 r d.1 (disks_less d.0.disk w.disk.disk (proper_row c table d.0.disk r d.3) (proper_row c table w.disk.disk w.held w.there) less) d.3))

        by : ReadIs c [] ds → logs_read c ds ≡ Err u
        by (whole e pass) =
            let f = first_wrong c table (at.Log (Cbt u)) fault in
            let d = wrong_disk f.2.held f.0 f.2.here f.2.named f.2.wrong in
            absurd (true≢false (sym f.2.wrong ∙ pass d.0 f.2.held d.1 d.3))
        by (stuck w e) =
            let same : at.Log (Cbt w.disk.disk) ≡ at.Log (Cbt u) = same_Some _ _ (sym (wrong_first c table w.disk.disk (first_of w)) ∙ fault) in
            let one : w.disk.disk ≡ u = (let s = same in cc) in
            e ∙ ap Err one
