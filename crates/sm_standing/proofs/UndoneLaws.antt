-- The table without an enlargement that a stop has cut short, beside the one with it: the same volumes without the entry, and
-- that of the image cut to the extents that it had.
use Rattle.std.proofs.Common.{◌≡◌, ◌≢◌, ◌⊎◌, inl, inr, ℕ, suc, ◌+◌, ◌<◌, ◌≤◌, ◌^◌, Bool, true, false, not, cond, ◌&&◌, ◌||◌, List, [], ◌∷◌, ◌++◌, length, Option, Some, None, is_some, refl, sym, ap, ap₂, ◌∙◌, subst, arith, nat_le, length-take}
use Rattle.std.specs.List.{AllZip, filter}
use Rattle.std.proofs.lemmas.Bool.{true≢false, ltb-true, ltb-false, leb-true}
use Rattle.std.proofs.lemmas.List.{take_all}
use Rattle.std.proofs.lemmas.Option.{none-some, same_Some}
use Rattle.common_laws.specs.Lists.{In}
use Rattle.common_laws.proofs.Lists.{In-filter, In-map, In-map_at}
use Rattle.sm_base.specs.Kinds.{is_image as is_data, is_entry}
use Rattle.sm_base.specs.Names.{IsName}
use Rattle.sm_base.specs.declared.names.Name.{Name}
use Rattle.sm_base.specs.declared.names.Name.TheVariants.{Mgt, Vhd, Raw, Old, Cbt, Inflate, Clone, Coalesce, Relink, Leaf}
use Rattle.vg_meta.specs.Tables.{VolumeTable, Row, IsTable, IsVolume, rows, row_of, names_of, name_eq}
use Rattle.vg_meta.specs.Changes.{Permits, applied, cut_to, raised, with_row, without}
use Rattle.vg_meta.specs.declared.changes.Change.{Change}
use Rattle.vg_meta.specs.declared.changes.Change.TheVariants.{Cut, Mark, Remove, Rename}
use Rattle.vg_meta.specs.declared.changes.Tag.TheVariants.{Hidden}
use Rattle.vg_meta.proofs.ChangeLaws.{IsTable-applied}
use Rattle.vg_meta.proofs.NameLaws.{name_eq-true, name_eq-false}
use Rattle.vg_meta.proofs.RowLaws.{row_of-with_row_other, row_of-with_row_same, row_of-without_other, row_of-without_same}
use Rattle.sm_record.specs.declared.records.Reading.TheVariants.{Free}
use Rattle.sm_standing.specs.Checks.{has_twin, images, is_lost, is_misnamed}
use Rattle.sm_standing.specs.Enlarging.{HasEntry, IsAtLeast, IsEnlarging}
use Rattle.sm_standing.specs.Enlarging.HasEntry.{here, next}
use Rattle.sm_standing.specs.Entries.{are_past, head, image_with, is_at_stage, is_inflating, is_making, is_there, making, of_row, second}
use Rattle.sm_standing.specs.Opened.{applied_all, base_changes, changes_back, is_longer, under_name, undo_changes, undone, wanted}
use Rattle.sm_standing.specs.Outlines.{Outline}
use Rattle.sm_standing.specs.Plain.{IsPlain, IsSimple, is_simple, is_simple_name}
use Rattle.sm_standing.specs.Standing.{standing_volume}
use Rattle.sm_standing.specs.Undone.{IsBeingEnlarged, undone_at}
use Rattle.sm_standing.proofs.DisksShown.{row_of-In}
use Rattle.sm_standing.proofs.EnlargingLaws.{count_same, into, stands_alike}
use Rattle.sm_standing.proofs.NamedLaws.{named_still}
use Rattle.sm_standing.proofs.PlainDisks.{all-In, plain_stands}
use Rattle.sm_standing.proofs.PlainKept.{all-of, simple_none_plain}

-- ---- one list of volumes beside another

module _ (u : List ℕ) where
  pub at_least_itself : (r : Row) → IsAtLeast u r r
  at_least_itself r = record { name = refl; hidden = refl; fresh = refl; more = omega arith; same = λ other. refl }

  pub all_themselves : (rs : List Row) → AllZip (IsAtLeast u) rs rs
  all_themselves [] = tt
  all_themselves (r ∷ rs) = (at_least_itself r, all_themselves rs)

  -- one volume had fewer extents
  all_cut : (extents : ℕ) (rs : List Row) → AllZip (IsAtLeast u) (with_row (Vhd u) (cut_to extents) rs) rs
  unfolding with_row
  all_cut extents [] = tt
  all_cut extents (r ∷ rs) = by (name_eq r.name (Vhd u)) refl (all_cut extents rs)
    where
      by : (b : Bool) → name_eq r.name (Vhd u) ≡ b → AllZip (IsAtLeast u) (with_row (Vhd u) (cut_to extents) rs) rs
          → AllZip (IsAtLeast u) (cond b (cut_to extents r ∷ rs) (r ∷ with_row (Vhd u) (cut_to extents) rs)) (r ∷ rs)
      by true is rest = (record { name = refl; hidden = refl; fresh = refl; more = omega (arith, length-take extents r.extents); same = λ other. absurd (other (name_eq-true r.name (Vhd u) is)) }, all_themselves rs)
      by false is rest = (at_least_itself r, rest)

  -- an entry is there that is not there without it
  entry_taken : (e : Name) (qs rs : List Row) (r : Row) → AllZip (IsAtLeast u) qs rs → row_of rs e ≡ Some r → HasEntry e u (without e qs) rs
  unfolding row_of without
  entry_taken e [] [] r same there = absurd (none-some r there)
  entry_taken e (q ∷ qs) (s ∷ rs) r same there = by (name_eq q.name e) refl (λ h. entry_taken e qs rs r same.1 h)
    where
      by : (b : Bool) → name_eq q.name e ≡ b → (row_of rs e ≡ Some r → HasEntry e u (without e qs) rs) → HasEntry e u (cond b qs (q ∷ without e qs)) (s ∷ rs)
      by true is rest = here s qs rs (same.0.name ∙ name_eq-true q.name e is) same.1
      by false is rest = next q s (without e qs) rs same.0 (rest (sym (ap (λ b. cond b (Some s) (row_of rs e)) (ap (λ n. name_eq n e) same.0.name ∙ is)) ∙ there))
  entry_taken e [] (s ∷ rs) r same there = absurd same
  entry_taken e (q ∷ qs) [] r same there = absurd same

  -- which has as many names of a group more
  names_zip : (qs rs : List Row) → AllZip (IsAtLeast u) qs rs → names_of rs ≡ names_of qs
  names_zip [] [] same = refl
  names_zip (q ∷ qs) (r ∷ rs) same = ap₂ (λ (n : Name) (ns : List Name). n ∷ ns) same.0.name (names_zip qs rs same.1)
  names_zip [] (r ∷ rs) same = absurd same
  names_zip (q ∷ qs) [] same = absurd same

  one_name_more : (test : Name → Bool) (e : Name) (qs rs : List Row) → test e ≡ true → HasEntry e u qs rs → length (filter test (names_of rs)) ≡ suc (length (filter test (names_of qs)))
  one_name_more test e qs [] is_one there = elim there [ ]
  one_name_more test e qs (r ∷ rs) is_one (here _ _ _ is same) =
      ap (λ n. length (cond (test n) (n ∷ filter test (names_of rs)) (filter test (names_of rs)))) is
      ∙ ap (λ b. length (cond b (e ∷ filter test (names_of rs)) (filter test (names_of rs)))) is_one
      ∙ ap (λ ns. suc (length (filter test ns))) (names_zip qs rs same)
  one_name_more test e (q ∷ qs) (r ∷ rs) is_one (next _ _ _ _ one rest) =
      ap (λ n. length (cond (test n) (n ∷ filter test (names_of rs)) (filter test (names_of rs)))) one.name
      ∙ by (test q.name) (one_name_more test e qs rs is_one rest)
    where
      by : (b : Bool) → length (filter test (names_of rs)) ≡ suc (length (filter test (names_of qs)))
          → length (cond b (q.name ∷ filter test (names_of rs)) (filter test (names_of rs))) ≡ suc (length (cond b (q.name ∷ filter test (names_of qs)) (filter test (names_of qs))))
      by true more = ap suc more
      by false more = more

none_of_length : {A : Type 0} (xs : List A) → length xs ≡ 0 → xs ≡ []
none_of_length [] h = refl
none_of_length (x ∷ xs) h = absurd (omega (arith, h))

-- a volume of this name is found
pub named_found : (rs : List Row) (n : Name) → In n (names_of rs) → (r : Row) × (row_of rs n ≡ Some r)
unfolding row_of
named_found [] n i = absurd i
named_found (s ∷ rs) n i = by (name_eq s.name n) refl i (λ j. named_found rs n j)
  where
    by : (b : Bool) → name_eq s.name n ≡ b → (n ≡ s.name) ⊎ In n (names_of rs) → (In n (names_of rs) → (r : Row) × (row_of rs n ≡ Some r)) → (r : Row) × (cond b (Some s) (row_of rs n) ≡ Some r)
    by true is i rest = (s, refl)
    by false is (inl at) rest = absurd (name_eq-false s.name n is (sym at))
    by false is (inr j) rest = rest j

-- a change that leaves the volume as it is leaves all
unchanged : (rs : List Row) (n : Name) (f : Row → Row) (r : Row) → row_of rs n ≡ Some r → f r ≡ r → with_row n f rs ≡ rs
unfolding row_of with_row
unchanged [] n f r there same = refl
unchanged (s ∷ rs) n f r there same = by (name_eq s.name n) there (λ h. unchanged rs n f r h same)
  where
    by : (b : Bool) → cond b (Some s) (row_of rs n) ≡ Some r → (row_of rs n ≡ Some r → with_row n f rs ≡ rs) → cond b (f s ∷ rs) (s ∷ with_row n f rs) ≡ s ∷ rs
    by true is rest = let e = same_Some s r is in ap (λ x. x ∷ rs) (ap f e ∙ same ∙ sym e)
    by false is rest = ap (λ xs. s ∷ xs) (rest is)

-- ---- the table

-- a commit takes no number back
pub raised_later : (q : ℕ) → q < 2 ^ 48 → q ≤ raised q
raised_later q below = omega (arith, below)

-- without an entry it is the same
pub undone_none : (t : VolumeTable) → making t ≡ [] → undone t ≡ t
unfolding undone undo_changes
undone_none t none = ap (λ ns. applied_all t (elim (head ns) as (λ _. List Change) [ None ↦ [] | Some n ↦ changes_back t n ])) none

module _ (t : VolumeTable) (u : List ℕ) (extents : ℕ) (w : IsBeingEnlarged t u extents) where
  abbrev pub entry : Name
  entry = Inflate u extents

  -- the table with the entry, the volume cut
  abbrev pub cut_table : VolumeTable
  cut_table = applied_all t (wanted (of_row (is_longer extents) (rows t (Vhd u))) (Cut (Vhd u) extents))

  pub changes_are : undo_changes t ≡ wanted (of_row (is_longer extents) (rows t (Vhd u))) (Cut (Vhd u) extents) ++ Remove entry ∷ []
  unfolding undo_changes
  changes_are = ap (λ ns. elim (head ns) as (λ _. List Change) [ None ↦ [] | Some n ↦ changes_back t n ]) w.entry

  pub undone_is : undone t ≡ applied cut_table (Remove entry)
  unfolding undone
  undone_is = ap (applied_all t) changes_are ∙ by (of_row (is_longer extents) (rows t (Vhd u)))
    where
      by : (b : Bool) → applied_all t (wanted b (Cut (Vhd u) extents) ++ Remove entry ∷ []) ≡ applied (applied_all t (wanted b (Cut (Vhd u) extents))) (Remove entry)
      by true = refl
      by false = refl

  -- where the volume is longer it is cut
  pub cut_longer : is_longer extents w.own ≡ true → cut_table ≡ applied t (Cut (Vhd u) extents)
  cut_longer longer = ap (λ o. applied_all t (wanted (of_row (is_longer extents) o) (Cut (Vhd u) extents))) w.there ∙ ap (λ b. applied_all t (wanted b (Cut (Vhd u) extents))) longer

  pub cut_same : is_longer extents w.own ≡ false → cut_table ≡ t
  cut_same short = ap (λ o. applied_all t (wanted (of_row (is_longer extents) o) (Cut (Vhd u) extents))) w.there ∙ ap (λ b. applied_all t (wanted b (Cut (Vhd u) extents))) short

  abbrev pub cut_rows : List Row
  cut_rows = with_row (Vhd u) (cut_to extents) t.volumes

  pub cut_volumes : cut_table.volumes ≡ cut_rows
  cut_volumes = by (is_longer extents w.own) refl
    where
      by : (b : Bool) → is_longer extents w.own ≡ b → cut_table.volumes ≡ cut_rows
      by true is = ap (λ (x : VolumeTable). x.volumes) (cut_longer is)
      by false is =
          ap (λ (x : VolumeTable). x.volumes) (cut_same is)
          ∙ sym (unchanged t.volumes (Vhd u) (cut_to extents) w.own w.there (ap (λ es. record w.own { extents = es }) (take_all extents w.own.extents (ltb-false extents (length w.own.extents) is))))

  pub undone_volumes : (undone t).volumes ≡ without entry cut_rows
  undone_volumes = ap (λ (x : VolumeTable). x.volumes) undone_is ∙ ap (without entry) cut_volumes

  vhd_other : Vhd u ≢ entry
  vhd_other is = let x = is in cc

  entry_other : entry ≢ Vhd u
  entry_other is = let x = is in cc

  -- the entry is found
  pub entry_row : (r : Row) × (row_of t.volumes entry ≡ Some r)
  entry_row = named_found t.volumes entry (In-filter is_making (names_of t.volumes) entry (subst (In entry) (sym w.entry) (inl refl))).0

  -- beside the table without it each table has the entry
  pub entry_there : HasEntry entry u (undone t).volumes t.volumes
  entry_there = subst (λ qs. HasEntry entry u qs t.volumes) (sym undone_volumes) (entry_taken u entry cut_rows t.volumes entry_row.0 (all_cut u extents t.volumes) entry_row.1)

  pub cut_entry_row : row_of cut_table.volumes entry ≡ Some entry_row.0
  cut_entry_row = ap (λ rs. row_of rs entry) cut_volumes ∙ row_of-with_row_other t.volumes (Vhd u) entry (cut_to extents) (λ r. refl) vhd_other ∙ entry_row.1

  pub entry_still : HasEntry entry u (undone t).volumes cut_table.volumes
  entry_still =
      subst (λ qs. HasEntry entry u qs cut_table.volumes) (sym (ap (λ (x : VolumeTable). x.volumes) undone_is))
      (entry_taken u entry cut_table.volumes cut_table.volumes entry_row.0 (all_themselves u cut_table.volumes) cut_entry_row)

  -- nothing is being made without it
  pub undone_making : making (undone t) ≡ []
  undone_making =
      none_of_length (making (undone t))
      (let more = one_name_more u is_making entry (undone t).volumes t.volumes refl entry_there in
      let one : length (making t) ≡ 1 = ap (λ (ns : List Name). length ns) w.entry in omega (arith, more, one))

  -- ---- its volumes

  pub own_undone : rows (undone t) (Vhd u) ≡ Some (cut_to extents w.own)
  own_undone =
      ap (λ rs. row_of rs (Vhd u)) undone_volumes ∙ row_of-without_other cut_rows entry (Vhd u) entry_other
      ∙ row_of-with_row_same t.volumes (Vhd u) (cut_to extents) w.own (λ r. refl) w.there

  pub own_long : length (cut_to extents w.own).extents ≡ extents
  own_long = let had = w.had in omega (arith, length-take extents w.own.extents, had)

  pub other_undone : (n : Name) → n ≢ entry → n ≢ Vhd u → rows (undone t) n ≡ rows t n
  other_undone n away apart =
      ap (λ rs. row_of rs n) undone_volumes ∙ row_of-without_other cut_rows entry n (λ is. away (sym is))
      ∙ row_of-with_row_other t.volumes (Vhd u) n (cut_to extents) (λ r. refl) (λ is. apart (sym is))

  -- ---- the commits

  pub may_cut : (count : ℕ) → is_longer extents w.own ≡ true → Permits count t (Cut (Vhd u) extents)
  may_cut count longer = record { row = w.own; there = w.there; image = refl; some_kept = w.some; some_gone = ltb-true extents (length w.own.extents) longer }

  pub may_remove : (count : ℕ) → Permits count cut_table (Remove entry)
  may_remove count = record { row = entry_row.0; there = cut_entry_row; not_mgt = λ is. (let x = is in cc) }

  pub cut_is_table : (count : ℕ) → IsTable count t → IsTable count cut_table
  cut_is_table count table = by (is_longer extents w.own) refl
    where
      by : (b : Bool) → is_longer extents w.own ≡ b → IsTable count cut_table
      by true is = subst (IsTable count) (sym (cut_longer is)) (IsTable-applied count t (Cut (Vhd u) extents) table (may_cut count is))
      by false is = subst (IsTable count) (sym (cut_same is)) table

  pub undone_is_table : (count : ℕ) → IsTable count t → IsTable count (undone t)
  undone_is_table count table = subst (IsTable count) (sym undone_is) (IsTable-applied count cut_table (Remove entry) (cut_is_table count table) (may_remove count))

  pub entry_gone : (count : ℕ) → IsTable count t → rows (undone t) entry ≡ None
  entry_gone count table =
      ap (λ (x : VolumeTable). row_of x.volumes entry) undone_is
      ∙ row_of-without_same cut_table.volumes entry (cut_is_table count table).volumes.rising

  -- ---- the sequence number

  pub cut_later : (count : ℕ) → IsTable count t → t.sequence ≤ cut_table.sequence
  cut_later count table = by (is_longer extents w.own) refl
    where
      by : (b : Bool) → is_longer extents w.own ≡ b → t.sequence ≤ cut_table.sequence
      by true is = let same = ap (λ (x : VolumeTable). x.sequence) (cut_longer is) in let more = raised_later t.sequence table.sequence in omega (arith, same, more)
      by false is = let same = ap (λ (x : VolumeTable). x.sequence) (cut_same is) in omega (arith, same)

  pub undone_later : (count : ℕ) → IsTable count t → t.sequence ≤ (undone t).sequence
  undone_later count table =
      let same = ap (λ (x : VolumeTable). x.sequence) undone_is in
      let more = raised_later cut_table.sequence (cut_is_table count table).sequence in
      let first = cut_later count table in
      omega (arith, same, more, first)

-- ---- beside the table without it, and the sequence number from before

module _ (t : VolumeTable) (u : List ℕ) (extents : ℕ) (w : IsBeingEnlarged t u extents) where
  -- a later table that has the entry, and the same volumes, that of the image perhaps with more extents
  abbrev pub is_enlarging : (o : Outline) (sequence : ℕ) (v : VolumeTable) → o.links (Inflate u extents) ≡ None → sequence ≤ v.sequence → HasEntry (Inflate u extents) u (undone t).volumes v.volumes
      → IsEnlarging (record o { table = undone_at sequence t }) v u extents
  is_enlarging o sequence v none later volumes = record {
    later = later;
    volumes = volumes;
    own = cut_to extents w.own;
    there = own_undone t u extents w;
    filled = w.filled;
    had = omega (arith, own_long t u extents w);
    none_making = undone_making t u extents w;
    no_image = none;
  }

  abbrev pub bare : Outline
  bare = record { extent = 0; block = 0; entries = 0; table = undone_at t.sequence t; links = λ n. None; readings = λ k. Free }

  pub enlarging_now : IsEnlarging bare t u extents
  enlarging_now = is_enlarging bare t.sequence t refl (omega arith) (entry_there t u extents w)

  -- each volume of it is one of the table with the entry
  pub row_from : (q : Row) → In q (undone t).volumes → (r : Row) × In r t.volumes × IsAtLeast u q r
  row_from q i = into (Inflate u extents) u (undone t).volumes t.volumes q (entry_there t u extents w) i

  -- its volumes are plain where those were simple
  pub undone_simple : IsSimple t → IsSimple (undone t)
  undone_simple simple = all-of (λ r. is_simple r ≡ true) (undone t).volumes (λ q i.
      let k = row_from q i in
      let one = k.2 in
      ap is_simple_name (sym one.name) ∙ all-In (λ r. is_simple r ≡ true) t.volumes k.0 simple k.1)

  pub undone_plain : IsSimple t → IsPlain (undone t)
  undone_plain simple = simple_none_plain (undone t) (undone_simple simple) (undone_making t u extents w)

  -- as many images
  pub images_undone : length (images (undone t)) ≡ length (images t)
  images_undone = sym (count_same (Inflate u extents) u (undone t).volumes t.volumes (entry_there t u extents w) (λ r. is_data r.name) (λ q r one. ap is_data one.name) (λ r is. ap is_data is))

  -- the same names are there
  pub there_undone : (n : Name) → is_there t n ≡ false → is_there (undone t) n ≡ false
  there_undone n none = by (rows (undone t) n) refl
    where
      by : (o : Option Row) → rows (undone t) n ≡ o → is_some o ≡ false
      by None is = refl
      by (Some q) is =
          let at = row_of-In (undone t).volumes n q is in
          let k = row_from q at.0 in
          let one = k.2 in
          let found = named_found t.volumes n (subst (λ x. In x (names_of t.volumes)) (one.name ∙ name_eq-true q.name n at.1) (In-map_at (λ (r : Row). r.name) t.volumes k.0 k.1)) in
          absurd (true≢false (sym (ap (λ o. is_some o) found.1) ∙ none))

  -- and named as rightly
  pub named_undone : (sequence : ℕ) → t.sequence ≤ sequence → ((r : Row) → In r t.volumes → is_misnamed t r ≡ false) → (q : Row) → In q (undone t).volumes → is_misnamed (undone_at sequence t) q ≡ false
  named_undone sequence later named q i =
      let k = row_from q i in
      let one = k.2 in
      ap (λ n. is_data n && (has_twin (undone_at sequence t) n || not (are_past (undone_at sequence t) n))) (sym one.name)
      ∙ named_still t (undone_at sequence t) k.0 later there_undone (named k.0 k.1)

  -- each UUID stands where it stood
  pub stands_undone : (sequence : ℕ) → IsSimple t → (v : List ℕ) → standing_volume (undone_at sequence t) v ≡ standing_volume t v
  stands_undone sequence simple v =
      plain_stands (undone_at sequence t) v (undone_plain simple) ∙ sym (plain_stands (undone_at t.sequence t) v (undone_plain simple))
      ∙ sym (stands_alike bare t u extents enlarging_now v)

  -- whatever else is under way
  pub undone_stands : (sequence : ℕ) (v : List ℕ) → standing_volume (undone_at sequence t) v ≡ standing_volume t v
  undone_stands sequence v =
      sym (stands_alike (record bare { table = undone_at sequence t }) over u extents (is_enlarging bare sequence over refl (omega arith) (entry_there t u extents w)) v)
      ∙ stands_alike bare over u extents (is_enlarging bare t.sequence over refl (omega arith) (entry_there t u extents w)) v
      ∙ sym (stands_alike bare t u extents enlarging_now v)
    where
      -- with the entry, later than both
      over : VolumeTable
      over = record t { sequence = sequence + t.sequence }

-- ---- with the checks of a table in which no leaf is being folded

pub head_alone : (ns : List Name) (n : Name) → head ns ≡ Some n → second ns ≡ None → ns ≡ n ∷ []
head_alone [] n is one = absurd (none-some n is)
head_alone (m ∷ []) n is one = ap (λ x. x ∷ []) (same_Some m n is)
head_alone (m ∷ k ∷ ns) n is one = absurd (none-some k (sym one))

-- what is being forked
abbrev pub IsBeingForked : VolumeTable → Type 0
IsBeingForked t = (disk base twin : List ℕ) × (making t ≡ Clone disk base twin ∷ [])

-- nothing is being made, or one image is being enlarged, or one disk is being forked
pub enlarged_or_not : (count : ℕ) (t : VolumeTable) → IsTable count t → second (making t) ≡ None → ((r : Row) → In r t.volumes → is_lost t r ≡ false)
    → (making t ≡ []) ⊎ (((u : List ℕ) × (extents : ℕ) × IsBeingEnlarged t u extents) ⊎ IsBeingForked t)
unfolding is_at_stage IsName
enlarged_or_not count t table one at_stage = by (making t) refl one
  where
    of : (n : Name) (r : Row) → In r t.volumes → r.name ≡ n → is_making n ≡ true → making t ≡ n ∷ [] → ((u : List ℕ) × (extents : ℕ) × IsBeingEnlarged t u extents) ⊎ IsBeingForked t
    of (Inflate u extents) r i named made is = inl (u, extents, found (rows t (Vhd u)) refl stage)
      where
        stands : (a b : Bool) → not (a && b) ≡ false → a ≡ true
        stands true b h = refl
        stands false b h = absurd (true≢false h)

        stage : is_inflating t u extents ≡ true
        stage = stands (is_inflating t u extents) (are_past t (Inflate u extents)) (sym (ap (λ n. is_entry n && not (is_at_stage t n && are_past t n)) named) ∙ at_stage r i)

        proper : IsName (Inflate u extents)
        proper = subst IsName named (all-In IsVolume t.volumes r table.volumes.each i).name

        parts : (f : Bool) (b : Bool) → (not f && b) ≡ true → (f ≡ false) × (b ≡ true)
        parts false b h = (refl, h)
        parts true b h = absurd (true≢false (sym h))

        found : (o : Option Row) → rows t (Vhd u) ≡ o → of_row (λ r. not r.fresh && nat_le extents (length r.extents)) o ≡ true → IsBeingEnlarged t u extents
        found None at h = absurd (true≢false (sym h))
        found (Some own) at h =
            let p = parts own.fresh (nat_le extents (length own.extents)) h in
            record { entry = is; own = own; there = at; filled = p.0; had = leb-true extents (length own.extents) p.1; some = proper.1 }
    of (Clone disk base twin) r i named made is = inr (disk, base, twin, is)
    of _ r i named made is = absurd (true≢false (sym made))

    by : (ns : List Name) → making t ≡ ns → second ns ≡ None → (making t ≡ []) ⊎ (((u : List ℕ) × (extents : ℕ) × IsBeingEnlarged t u extents) ⊎ IsBeingForked t)
    by [] is none = inl is
    by (n ∷ ns) is none =
        let alone = is ∙ head_alone (n ∷ ns) n refl none in
        let k = In-filter is_making (names_of t.volumes) n (subst (In n) (sym alone) (inl refl)) in
        let r = In-map (λ (r : Row). r.name) t.volumes n k.0 in
        inr (of n r.0 r.1 (sym r.2) k.1 alone)

-- ---- how many commits

few_wanted : (b : Bool) (c : Change) (cs : List Change) (k : ℕ) → length cs ≤ k → length (wanted b c ++ cs) ≤ suc k
few_wanted true c cs k few = omega (arith, few)
few_wanted false c cs k few = omega (arith, few)

few_based : (t : VolumeTable) (disk : List ℕ) (o : Option Name) (c : Change) → length (base_changes t disk o ++ c ∷ []) ≤ 4
few_based t disk None c = omega arith
few_based t disk (Some base) c = by (is_there t (Vhd disk)) (of_row (λ r. r.hidden) (rows t base))
  where
    by : (a b : Bool) → length ((wanted a (Remove (Vhd disk)) ++ (wanted b (Mark base Hidden false) ++ Rename base (under_name base disk) ∷ [])) ++ c ∷ []) ≤ 4
    by true true = omega arith
    by true false = omega arith
    by false true = omega arith
    by false false = omega arith

few_back : (t : VolumeTable) (n : Name) → length (changes_back t n) ≤ 5
few_back t (Inflate u extents) = let k = few_wanted (of_row (is_longer extents) (rows t (Vhd u))) (Cut (Vhd u) extents) (Remove (Inflate u extents) ∷ []) 1 (omega arith) in omega (arith, k)
few_back t (Clone disk base twin) =
    few_wanted (is_there t (Vhd twin)) (Remove (Vhd twin)) (base_changes t disk (image_with t base) ++ Remove (Clone disk base twin) ∷ []) 4 (few_based t disk (image_with t base) (Remove (Clone disk base twin)))
few_back t Mgt = omega arith
few_back t (Vhd u) = omega arith
few_back t (Raw u) = omega arith
few_back t (Old u) = omega arith
few_back t (Cbt u) = omega arith
few_back t (Coalesce x y) = omega arith
few_back t (Relink x y) = omega arith
few_back t (Leaf x y) = omega arith

-- five at most
pub few_changes : (t : VolumeTable) → length (undo_changes t) ≤ 5
unfolding undo_changes
few_changes t = by (head (making t))
  where
    by : (o : Option Name) → length (elim o as (λ _. List Change) [ None ↦ [] | Some n ↦ changes_back t n ]) ≤ 5
    by None = omega arith
    by (Some n) = few_back t n

-- each of which raises the sequence number by one at most
pub sequence_behind : (t : VolumeTable) (cs : List Change) → (applied_all t cs).sequence ≤ t.sequence + length cs
sequence_behind t [] = omega arith
sequence_behind t (c ∷ cs) = let rest = sequence_behind (applied t c) cs in let one = raised_most t.sequence in omega (arith, rest, one)
  where
    raised_most : (q : ℕ) → raised q ≤ q + 1
    raised_most q = omega arith
