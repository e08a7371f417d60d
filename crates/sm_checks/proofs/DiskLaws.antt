-- The disk without exactly one record that has the least UUID: found among the volumes in any order, it is the first of
-- the disks in theirs.
use Rattle.std.proofs.Common.{◌≡◌, ℕ, suc, ◌+◌, ◌⊎◌, inl, inr, ⊎_elim, Bool, true, false, cond, not, ◌&&◌, ◌||◌, ◌==◌, List, [], ◌∷◌, length, fold, Option, Some, None, is_some, refl, sym, ap, ap₂, ◌∙◌, subst, arith}
use Rattle.std.specs.Prelude.{count_by}
use Rattle.std.specs.declared.cmp.Ordering.{Ordering}
use Rattle.std.specs.declared.cmp.Ordering.TheVariants.{Less, Equal, Greater}
use Rattle.std.specs.List.{filter, find, filter_map, flat_map, cons_option, slice_get}
use Rattle.std.specs.Str.{bytes_eq}
use Rattle.std.specs.Ordering.{is_lt}
use Rattle.std.proofs.lemmas.Bool.{and_parts, true≢false}
use Rattle.std.proofs.lemmas.Cmp.{nat_list_cmp_total}
use Rattle.std.proofs.lemmas.List.Sums.{length-filter}
use Rattle.std.proofs.lemmas.Map.Lookups.{exact_bytes}
use Rattle.sm_base.specs.declared.names.Name.{Name}
use Rattle.sm_base.specs.declared.names.Name.TheVariants.{Mgt, Vhd, Raw, Old, Cbt, Clone, Inflate, Coalesce, Relink, Leaf}
use Rattle.vg_meta.specs.Tables.{VolumeTable, Row, rows}
use Rattle.vg_meta.specs.Roomy.{RoomyTable, RoomyRow, table_alone}
use Rattle.common_laws.specs.Lists.{In, given, numbers}
use Rattle.sm_record.specs.declared.records.Record.{Record}
use Rattle.sm_mgt.specs.Places.{is_of}
use Rattle.sm_standing.specs.Contents.{taken, is_record_of}
use Rattle.sm_standing.specs.Checks.{is_unrecorded, disk_place, disk_fault}
use Rattle.sm_standing.specs.Outlines.{Outline, outline_records}
use Rattle.sm_standing.specs.Ordered.{Rising, uuid_cmp}
use Rattle.common_laws.proofs.Bytes.{bytes_eq-same}
use Rattle.sm_standing.specs.Entries.{folding, head, image_with, is_leaf_renamed, is_leaf_swapped, is_visible, making, of_row}
use Rattle.sm_standing.specs.Plain.{IsKnown, IsPlain, is_known_name}
use Rattle.sm_standing.specs.Standing.{candidates, in_order, standing_volume, stands_folded, stands_forked, stands_plainly, under, uuids}
use Rattle.sm_standing.proofs.DisksShown.{In-with_uuid, rising-in_order, stands_listed}
use Rattle.sm_standing.proofs.PlainDisks.{plain_stands}
use Rattle.sm_checks.proofs.KnownLaws.{first_folding}
use Rattle.sm_checks.specs.Faults.{HasPlaces, IsLeast, is_disk_by, is_disk_if, is_disk_under, is_shown, is_swapping, is_unrecorded_in, unrecorded, lesser}
use Rattle.common_laws.proofs.Lists.{In-append, In-map, In-filter, filter-In}
use Rattle.common_laws.proofs.Options.{is_some-parts}
use Rattle.sm_standing.specs.Checks.{disk_uuids}
use Rattle.sm_standing.proofs.Orders.{not_both}
use Rattle.sm_ready.proofs.ShapeLaws.{as_taken}

-- ---- whether a UUID is a disk

found_either : (test : Name → Bool) (a b : Name) → is_some (find test (a ∷ b ∷ [])) ≡ (test a || test b)
found_either test a b = by (test a) (test b)
  where
    by : (p q : Bool) → is_some (cond p (Some a) (cond q (Some b) None)) ≡ (p || q)
    by true q = refl
    by false true = refl
    by false false = refl

-- where nothing is under way it is one where an image of its name is visible and not new
pub own_plain : (t : VolumeTable) → IsPlain t → (u : List ℕ) → is_some (standing_volume t u) ≡ (is_visible t (Vhd u) || is_visible t (Raw u))
own_plain t plain u = ap is_some (plain_stands t u plain) ∙ found_either (is_visible t) (Vhd u) (Raw u)

module _ (t : VolumeTable) (u : List ℕ) where
  own : is_some (stands_plainly t u) ≡ is_shown t u
  own = found_either (is_visible t) (Vhd u) (Raw u)

  swapping : (p : Name) (r w : Bool) → is_some (cond r (Some p) (cond w (Some (Vhd u)) (stands_plainly t u))) ≡ ((r || w) || is_shown t u)
  swapping p true w = refl
  swapping p false true = refl
  swapping p false false = own

  swapped : (l p : List ℕ) → is_some (stands_folded t (Leaf l p) u (stands_plainly t u)) ≡ (is_swapping t (Some (Leaf l p)) u || is_shown t u)
  swapped l p = by (bytes_eq u l) refl
    where
      by : (a : Bool) → bytes_eq u l ≡ a
          → is_some (cond (a && is_leaf_renamed t l p) (Some (Vhd p)) (cond (a && is_leaf_swapped t l p) (Some (Vhd l)) (stands_plainly t u))) ≡ ((a && (is_leaf_renamed t l p || is_leaf_swapped t l p)) || is_shown t u)
      by true is =
          ap (λ v. is_some (cond (is_leaf_renamed t l p) (Some (Vhd p)) (cond (is_leaf_swapped t l p) (Some (Vhd v)) (stands_plainly t u)))) (sym (bytes_eq-same u l is))
          ∙ swapping (Vhd p) (is_leaf_renamed t l p) (is_leaf_swapped t l p)
      by false is = own

  folded : (o : Option Name) → is_some (under (λ e. stands_folded t e u) o (stands_plainly t u)) ≡ (is_swapping t o u || is_shown t u)
  folded None = own
  folded (Some (Leaf l p)) = swapped l p
  folded (Some Mgt) = own
  folded (Some (Vhd v)) = own
  folded (Some (Raw v)) = own
  folded (Some (Old v)) = own
  folded (Some (Cbt v)) = own
  folded (Some (Clone d b w)) = own
  folded (Some (Inflate v e)) = own
  folded (Some (Coalesce c p)) = own
  folded (Some (Relink c p)) = own

  abbrev alone : Option Name
  alone = under (λ e. stands_folded t e u) (head (folding t)) (stands_plainly t u)

  abbrev stood : Bool
  stood = is_swapping t (head (folding t)) u || is_shown t u

  alone_is : is_some alone ≡ stood
  alone_is = folded (head (folding t))

  forked : (a b w : Bool) (o : Option Name) → is_some (cond a (elim o as (λ _. Option Name) [ None ↦ alone | Some n ↦ Some n ]) (cond (b || w) None alone))
      ≡ cond a (is_some o || stood) (not b && (not w && stood))
  forked true b w None = alone_is
  forked true b w (Some n) = refl
  forked false true w o = refl
  forked false false true o = refl
  forked false false false o = alone_is

  by_making : (o : Option Name) → is_some (under (λ e. stands_forked t e u) o alone) ≡ is_disk_if t stood o u
  by_making None = alone_is
  by_making (Some (Clone d b w)) = forked (bytes_eq u d) (bytes_eq u b) (bytes_eq u w) (image_with t b)
  by_making (Some (Inflate v e)) = alone_is
  by_making (Some Mgt) = alone_is
  by_making (Some (Vhd v)) = alone_is
  by_making (Some (Raw v)) = alone_is
  by_making (Some (Old v)) = alone_is
  by_making (Some (Cbt v)) = alone_is
  by_making (Some (Coalesce c p)) = alone_is
  by_making (Some (Relink c p)) = alone_is
  by_making (Some (Leaf l p)) = alone_is

  -- whether it is one by the entries
  pub disk_under : is_some (standing_volume t u) ≡ is_disk_under t (head (folding t)) (head (making t)) u
  unfolding standing_volume
  disk_under = by_making (head (making t))

-- the entry of a copy or of a link says nothing of it
swapping_none : (t : VolumeTable) → IsKnown t → (u : List ℕ) → is_swapping t (head (folding t)) u ≡ false
swapping_none t known u = by (head (folding t)) (λ n is. (first_folding t n known is).known)
  where
    by : (h : Option Name) → ((n : Name) → h ≡ Some n → is_known_name n ≡ true) → is_swapping t h u ≡ false
    by None each = refl
    by (Some (Leaf l p)) each = absurd (true≢false (sym (each (Leaf l p) refl)))
    by (Some Mgt) each = refl
    by (Some (Vhd v)) each = refl
    by (Some (Raw v)) each = refl
    by (Some (Old v)) each = refl
    by (Some (Cbt v)) each = refl
    by (Some (Clone d b w)) each = refl
    by (Some (Inflate v e)) each = refl
    by (Some (Coalesce c p)) each = refl
    by (Some (Relink c p)) each = refl

-- whether it is one by the entry of a fork, where no leaf is being folded
pub disk_by : (t : VolumeTable) → IsKnown t → (u : List ℕ) → is_some (standing_volume t u) ≡ is_disk_by t (head (making t)) u
disk_by t known u = disk_under t u ∙ ap (λ b. is_disk_if t (b || is_shown t u) (head (making t)) u) (swapping_none t known u)

pub visible_row : (t : VolumeTable) (n : Name) (r : Row) → rows t n ≡ Some r → is_visible t n ≡ (not r.hidden && not r.fresh)
visible_row t n r there = ap (of_row (λ r. not r.hidden && not r.fresh)) there

-- ---- the least of some UUIDs

least_as : (P Q : List ℕ → Type 0) (o : Option (List ℕ)) → ((u : List ℕ) → P u → Q u) → ((u : List ℕ) → Q u → P u) → IsLeast P o → IsLeast Q o
least_as P Q None to back least = λ u q. least u (back u q)
least_as P Q (Some u) to back least = (to u least.0, λ v q. least.1 v (back v q))

one_more : (Q : List ℕ → Type 0) (x y : List ℕ) (o : Ordering) → uuid_cmp x y ≡ o → IsLeast Q (Some y) → IsLeast (λ u. Q u ⊎ (Some x ≡ Some u)) (cond (is_lt o) (Some x) (Some y))
one_more Q x y Less is least = (
  inr refl,
  λ v. ⊎_elim
      (λ q. inr (⊎_elim (λ same. subst (λ w. uuid_cmp x w ≡ Less) (sym same) is) (λ after. nat_list_cmp_total.trans x y v is after) (least.1 v q)))
      (λ e. inl (let k = e in cc)),
)
one_more Q x y Equal is least = (inl least.0, λ v. ⊎_elim (least.1 v) (λ e. inl (let k = e in let same : x ≡ y = exact_bytes x y is in cc)))
one_more Q x y Greater is least =
    let behind : uuid_cmp y x ≡ Less = (let e = nat_list_cmp_total.antisymm y x in cc) in
    (inl least.0, λ v. ⊎_elim (least.1 v) (λ e. inr (let same : x ≡ v = (let k = e in cc) in subst (λ w. uuid_cmp y w ≡ Less) same behind)))

least_lesser : (Q : List ℕ → Type 0) (a b : Option (List ℕ)) → IsLeast Q a → IsLeast (λ u. Q u ⊎ (b ≡ Some u)) (lesser a b)
least_lesser Q None None least = λ u. ⊎_elim (least u) (λ e. (let k = e in cc))
least_lesser Q None (Some x) least = (inr refl, λ v. ⊎_elim (λ q. absurd (least v q)) (λ e. inl (let k = e in cc)))
least_lesser Q (Some y) None least = (inl least.0, λ v. ⊎_elim (least.1 v) (λ e. absurd (let k = e in cc)))
least_lesser Q (Some y) (Some x) least = one_more Q x y (uuid_cmp x y) refl least

-- one of the volumes has it
abbrev IsGiven : (RoomyRow → Option (List ℕ)) → List RoomyRow → List ℕ → Type 0
IsGiven f hs u = (h : RoomyRow) × In h hs × (f h ≡ Some u)

least_fold : (f : RoomyRow → Option (List ℕ)) (hs : List RoomyRow) (Q : List ℕ → Type 0) (a : Option (List ℕ)) → IsLeast Q a
    → IsLeast (λ u. Q u ⊎ IsGiven f hs u) (fold (λ o h. lesser o (f h)) a hs)
least_fold f [] Q a least = least_as Q (λ u. Q u ⊎ IsGiven f [] u) a (λ u q. inl q) (λ u. ⊎_elim (λ q. q) (λ g. absurd g.1)) least
least_fold f (h ∷ hs) Q a least =
    least_as (λ u. (Q u ⊎ (f h ≡ Some u)) ⊎ IsGiven f hs u) (λ u. Q u ⊎ IsGiven f (h ∷ hs) u) (fold (λ o g. lesser o (f g)) (lesser a (f h)) hs)
    (λ u. ⊎_elim (⊎_elim (λ q. inl q) (λ e. inr (h, inl refl, e))) (λ g. inr (g.0, inr g.1, g.2)))
    (λ u. ⊎_elim (λ q. inl (inl q)) (λ g. ⊎_elim (λ same. inl (inr (ap f (sym same) ∙ g.2))) (λ i. inr (g.0, i, g.2)) g.1))
    (least_fold f hs (λ u. Q u ⊎ (f h ≡ Some u)) (lesser a (f h)) (least_lesser Q a (f h) least))

-- ---- the first in a rising list is the least

-- an element that passes
abbrev Passes : (List ℕ → Bool) → List (List ℕ) → List ℕ → Type 0
Passes test us u = In u us × (test u ≡ true)

rising-filter : (test : List ℕ → Bool) (us : List (List ℕ)) → Rising uuid_cmp us → Rising uuid_cmp (filter test us)
rising-filter test [] rising = tt
rising-filter test (x ∷ us) rising = by (test x) (rising-filter test us rising.1)
  where
    by : (b : Bool) → Rising uuid_cmp (filter test us) → Rising uuid_cmp (cond b (x ∷ filter test us) (filter test us))
    by true rest = (λ y i. rising.0 y (In-filter test us y i).0, rest)
    by false rest = rest

head_is : (test : List ℕ → Bool) (x : List ℕ) (us : List (List ℕ)) → Rising uuid_cmp (x ∷ us) → test x ≡ true → (o : Option (List ℕ)) → IsLeast (Passes test (x ∷ us)) o → Some x ≡ o
head_is test x us rising passes None least = absurd (least x (inl refl, passes))
head_is test x us rising passes (Some u) least = ap Some (⊎_elim sym (λ later. ⊎_elim (λ same. same) (λ before. absurd (not_both uuid_cmp nat_list_cmp_total x u (rising.0 u later) before)) (least.1 x (inl refl, passes))) least.0.0)

behind_head : (test : List ℕ → Bool) (x : List ℕ) (us : List (List ℕ)) → test x ≡ false → (u : List ℕ) → Passes test (x ∷ us) u → Passes test us u
behind_head test x us fails u (inl same, passes) = absurd (let e : test x ≡ true = subst (λ w. test w ≡ true) same passes in cc)
behind_head test x us fails u (inr later, passes) = (later, passes)

first_is_least : (test : List ℕ → Bool) (us : List (List ℕ)) → Rising uuid_cmp us → (o : Option (List ℕ)) → IsLeast (Passes test us) o → find test us ≡ o
first_is_least test [] rising None least = refl
first_is_least test [] rising (Some u) least = absurd least.0.0
first_is_least test (x ∷ us) rising o least = by (test x) refl (λ is. first_is_least test us rising.1 o
    (least_as (Passes test (x ∷ us)) (Passes test us) o (behind_head test x us is) (λ u p. (inr p.0, p.1)) least))
  where
    by : (b : Bool) → test x ≡ b → (test x ≡ false → find test us ≡ o) → cond b (Some x) (find test us) ≡ o
    by true is rest = head_is test x us rising is o least
    by false is rest = rest is

-- ---- how many records a UUID has

taken_all : (f : ℕ → Option Record) (ps : List (Option Record)) (a : ℕ) → ((k : ℕ) (o : Option Record) → slice_get ps k ≡ Some o → f (a + k) ≡ o) → filter_map f (numbers a (length ps)) ≡ filter_map (λ o. o) ps
unfolding numbers
taken_all f [] a each = refl
taken_all f (o ∷ ps) a each =
    ap₂ cons_option (ap f (let e : a ≡ a + 0 = omega arith in e) ∙ each 0 o refl)
    (taken_all f ps (a + 1) (λ k q at. ap f (let e : a + 1 + k ≡ a + suc k = omega arith in e) ∙ each (suc k) q at))

count_taken : (u : List ℕ) (ps : List (Option Record)) → length (filter (is_record_of u) (filter_map (λ o. o) ps)) ≡ length (filter (is_of u) ps)
count_taken u [] = refl
count_taken u (None ∷ ps) = count_taken u ps
count_taken u (Some r ∷ ps) = by (is_record_of u r) _ _ (count_taken u ps)
  where
    by : (b : Bool) (rs : List Record) (qs : List (Option Record)) → length rs ≡ length qs → length (cond b (r ∷ rs) rs) ≡ length (cond b (Some r ∷ qs) qs)
    by true rs qs h = omega (arith, h)
    by false rs qs h = h

pub records_counted : (x : Outline) (places : List (Option Record)) (u : List ℕ) → HasPlaces places x → length (filter (is_record_of u) (outline_records x)) ≡ count_by (is_of u) places
unfolding outline_records
records_counted x places u has =
    ap (λ rs. length (filter (is_record_of u) rs)) (ap (λ n. filter_map (λ k. taken (x.readings k)) (numbers 0 n)) (sym has.long)
    ∙ taken_all (λ k. taken (x.readings k)) places 0 (λ k o at. ap (λ j. taken (x.readings j)) (let e : 0 + k ≡ k = omega arith in e) ∙ ap taken (has.each k o at) ∙ as_taken o))
    ∙ count_taken u places ∙ length-filter (is_of u) places

-- ---- both together

given_parts : (b : Bool) (v u : List ℕ) → given b v ≡ Some u → (b ≡ true) × (v ≡ u)
given_parts true v u h = (refl, (let k = h in cc))
given_parts false v u h = absurd (let k = h in cc)

module _ (t : VolumeTable) (places : List (Option Record)) where
  abbrev Wrong : List ℕ → Type 0
  Wrong u = is_unrecorded_in t places u ≡ true

  from_name : (n : Name) (u : List ℕ) → unrecorded t places n ≡ Some u → Wrong u
  unfolding unrecorded
  from_name (Vhd v) u h = let w = given_parts (is_unrecorded_in t places v) v u h in subst Wrong w.1 w.0
  from_name (Raw v) u h = let w = given_parts (is_unrecorded_in t places v) v u h in subst Wrong w.1 w.0
  from_name (Clone v b c) u h = let w = given_parts (is_unrecorded_in t places v) v u h in subst Wrong w.1 w.0
  from_name (Leaf v p) u h = let w = given_parts (is_unrecorded_in t places v) v u h in subst Wrong w.1 w.0
  from_name _ u h = absurd (let k = h in cc)

  at_vhd : (u : List ℕ) → Wrong u → unrecorded t places (Vhd u) ≡ Some u
  unfolding unrecorded
  at_vhd u wrong = ap (λ b. given b u) wrong

  stands : (u : List ℕ) → Wrong u → is_some (standing_volume t u) ≡ true
  stands u wrong = (and_parts (is_some (standing_volume t u)) (not (count_by (is_of u) places == 1)) wrong).0

-- a UUID that may be a disk is that of a volume's name
flat_map-In : (f : Row → List (List ℕ)) (rs : List Row) (u : List ℕ) → In u (flat_map f rs) → (r : Row) × In r rs × In u (f r)
flat_map-In f [] u i = absurd i
flat_map-In f (r ∷ rs) u i = ⊎_elim (λ j. (r, inl refl, j)) (λ j. let w = flat_map-In f rs u j in (w.0, inr w.1, w.2)) (In-append (f r) (flat_map f rs) u i)

in_order-In : (us : List (List ℕ)) (u : List ℕ) → In u (in_order us) → In u us
unfolding in_order
in_order-In [] u i = i
in_order-In (v ∷ us) u i = ⊎_elim (λ is. inl is) (λ j. inr (in_order-In us u j)) (In-with_uuid v u (in_order us) i)

module _ (k : RoomyTable) (places : List (Option Record)) (u : List ℕ) (wrong : Wrong (table_alone k) places u) where
  abbrev t : VolumeTable
  t = table_alone k

  -- by the name that speaks of it
  of_name : (n : Name) → In u (candidates n) → unrecorded t places n ≡ Some u
  unfolding unrecorded
  of_name (Vhd v) (inl is) = subst (λ (x : List ℕ). given (is_unrecorded_in t places x) x ≡ Some u) is (at_vhd t places u wrong)
  of_name (Raw v) (inl is) = subst (λ (x : List ℕ). given (is_unrecorded_in t places x) x ≡ Some u) is (at_vhd t places u wrong)
  of_name (Clone d b w) (inl is) = subst (λ (x : List ℕ). given (is_unrecorded_in t places x) x ≡ Some u) is (at_vhd t places u wrong)
  of_name (Leaf l p) (inl is) = subst (λ (x : List ℕ). given (is_unrecorded_in t places x) x ≡ Some u) is (at_vhd t places u wrong)
  of_name (Vhd v) (inr i) = absurd i
  of_name (Raw v) (inr i) = absurd i
  of_name (Clone d b w) (inr i) = absurd i
  of_name (Leaf l p) (inr i) = absurd i
  of_name Mgt i = absurd i
  of_name (Old v) i = absurd i
  of_name (Cbt v) i = absurd i
  of_name (Inflate v e) i = absurd i
  of_name (Coalesce c p) i = absurd i
  of_name (Relink c p) i = absurd i

  wrong_given : IsGiven (λ h. unrecorded t places h.row.name) k.rows u
  unfolding uuids
  wrong_given =
      let n = is_some-parts (standing_volume t u) (stands t places u wrong) in
      let r = flat_map-In (λ r. candidates r.name) t.volumes u (in_order-In (flat_map (λ (r : Row). candidates r.name) t.volumes) u (stands_listed t u n.0 n.1)) in
      let h = In-map (λ (g : RoomyRow). g.row) k.rows r.0 r.1 in
      (h.0, h.1, ap (λ (q : Row). unrecorded t places q.name) (sym h.2) ∙ of_name r.0.name r.2)

-- the least among the volumes so far
abbrev pub with_unrecorded : VolumeTable → List (Option Record) → Option (List ℕ) → RoomyRow → Option (List ℕ)
with_unrecorded t places least h = lesser least (unrecorded t places h.row.name)

pub least_unrecorded : (k : RoomyTable) (places : List (Option Record))
    → IsLeast (λ u. is_unrecorded_in (table_alone k) places u ≡ true) (fold (with_unrecorded (table_alone k) places) None k.rows)
least_unrecorded k places =
    let t = table_alone k in
    least_as (λ u. ⊥ ⊎ IsGiven (λ h. unrecorded t places h.row.name) k.rows u) (Wrong t places) (fold (with_unrecorded t places) None k.rows)
    (λ u. ⊎_elim (λ none. absurd none) (λ g. from_name t places g.0.row.name u g.2)) (λ u wrong. inr (wrong_given k places u wrong))
    (least_fold (λ h. unrecorded t places h.row.name) k.rows (λ u. ⊥) None (λ u never. never))

-- the check of the records, by the least of these UUIDs
pub disk_fault_is : (x : Outline) (k : RoomyTable) (places : List (Option Record)) (o : Option (List ℕ)) → x.table ≡ table_alone k → HasPlaces places x
    → IsLeast (λ u. is_unrecorded_in (table_alone k) places u ≡ true) o → disk_fault x ≡ disk_place o
unfolding disk_fault uuids
disk_fault_is x k places o is has least =
    let t = x.table in
    let same = λ (u : List ℕ). ap (λ n. not (n == 1)) (records_counted x places u has) in
    ap disk_place (first_is_least (is_unrecorded x) (disk_uuids x) (rising-filter (λ u. is_some (standing_volume t u)) (uuids t) (rising-in_order _)) o
    (least_as (Wrong t places) (Passes (is_unrecorded x) (disk_uuids x)) o
    (λ u wrong.
    let n = is_some-parts (standing_volume t u) (stands t places u wrong) in
    let parts = and_parts (is_some (standing_volume t u)) (not (count_by (is_of u) places == 1)) wrong in
    (filter-In (λ v. is_some (standing_volume t v)) (uuids t) u (stands_listed t u n.0 n.1) parts.0, same u ∙ parts.1))
    (λ u p. ap₂ (λ a b. a && b) (In-filter (λ v. is_some (standing_volume t v)) (uuids t) u p.0).1 (sym (same u) ∙ p.1))
    (subst (λ v. IsLeast (Wrong v places) o) (sym is) least)))
