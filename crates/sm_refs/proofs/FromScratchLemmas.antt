-- The counts that are kept are those from scratch.
use Rattle.std.proofs.Common.{◌≡◌, ◌≢◌, ℕ, ◌+◌, Bool, true, false, not, ◌&&◌, cond, List, [], ◌∷◌, ◌++◌, map, count_by, All, refl, sym, ap, ap₂, subst, ◌∙◌, arith, zero-add}
use Rattle.std.specs.List.{AllZip}
use Rattle.std.proofs.lemmas.Bool.{false≢true, false_from_ne_true, cond-false, cond-true}
use Rattle.std.proofs.lemmas.List.{map_push, map-append}
use Rattle.std.proofs.lemmas.List.Elements.{All-head, All-tail, filter-append}
use Rattle.std.proofs.lemmas.List.Sums.{sum_by-append}
use Rattle.sm_base.specs.declared.names.Name.{Name}
use Rattle.sm_base.specs.declared.operations.Mode.{Mode}
use Rattle.sm_refs.specs.Attached.{Attached, same_name, same_uuid, without, count_of, tally, has, one_in}
use Rattle.sm_refs.specs.FromScratch.{Use, refs_from_scratch, IsFromScratch, Call, Enters, LeavesChain, Forks, Relinks, Swaps, DoesCall, GoesAway, GetsBase, LosesOut, LosesParent, ChangesUses, Runs}
use Rattle.sm_refs.specs.FromScratch.Call.{Enter, Leave, Forked, Relinked, Swapped}
use Rattle.sm_refs.proofs.NameLemmas.{uuid_from_same, name_from_same, apart_from_other, same_uuid-refl}

-- ---- counting

pub append_count : {X : Type 0} (p : X → Bool) (xs ys : List X) → count_by p (xs ++ ys) ≡ count_by p xs + count_by p ys
append_count p xs ys = sum_by-append (λ x. cond (p x) 1 0) xs ys

one_count : {X : Type 0} (p : X → Bool) (x : X) → count_by p (x ∷ []) ≡ cond (p x) 1 0
one_count p x = zero-add (cond (p x) 1 0)

pub one_more : {X : Type 0} (p : X → Bool) (x : X) (xs : List X) → count_by p (x ∷ xs) ≡ cond (p x) 1 0 + count_by p xs
one_more p x xs = append_count p (x ∷ []) xs ∙ ap (λ (n : ℕ). n + count_by p xs) (one_count p x)

-- place by place, what passes q and what passes r are together what passes s
together : {X : Type 0} (R : X → X → Type 0) (q r s : X → Bool) → ((x y : X) → R x y → cond (q y) 1 0 + cond (r x) 1 0 ≡ cond (s x) 1 0) → (xs ys : List X) → AllZip R xs ys → count_by q ys + count_by r xs ≡ count_by s xs
together R q r s each [] [] all = refl
together R q r s each [] (y ∷ ys) all = absurd all
together R q r s each (x ∷ xs) [] all = absurd all
together R q r s each (x ∷ xs) (y ∷ ys) all =
    omega (arith, one_more q y ys, one_more r x xs, one_more s x xs, each x y all.0, together R q r s each xs ys all.1)

alike : {X : Type 0} (R : X → X → Type 0) (q s : X → Bool) → ((x y : X) → R x y → q y ≡ s x) → (xs ys : List X) → AllZip R xs ys → count_by q ys ≡ count_by s xs
alike R q s each [] [] all = refl
alike R q s each [] (y ∷ ys) all = absurd all
alike R q s each (x ∷ xs) [] all = absurd all
alike R q s each (x ∷ xs) (y ∷ ys) all =
    let here : cond (q y) 1 0 ≡ cond (s x) 1 0 = ap {B = ℕ} (λ b. cond b 1 0) (each x y all.0) in
    omega (arith, one_more q y ys, one_more s x xs, here, alike R q s each xs ys all.1)

count_none : {X : Type 0} (xs : List X) → count_by (λ x. false) xs ≡ 0
count_none [] = refl
count_none (x ∷ xs) = omega (arith, one_more (λ y. false) x xs, count_none xs)

-- ---- the disks

abbrev shown : Use → List ℕ × Mode
shown u = (u.disk, u.mode)

same_disks : (R : Use → Use → Type 0) → ((u v : Use) → R u v → (v.disk ≡ u.disk) × (v.mode ≡ u.mode)) → (us vs : List Use) → AllZip R us vs → map shown vs ≡ map shown us
same_disks R each [] [] all = refl
same_disks R each [] (v ∷ vs) all = absurd all
same_disks R each (u ∷ us) [] all = absurd all
same_disks R each (u ∷ us) (v ∷ vs) all =
    let same = each u v all.0 in
    ap₂ (λ (d : List ℕ × Mode) (ds : List (List ℕ × Mode)). d ∷ ds) (ap₂ (λ (d : List ℕ) (m : Mode). (d, m)) same.0 same.1) (same_disks R each us vs all.1)

other_disks : (disk : List ℕ) (us : List Use) → All (λ u. u.disk ≢ disk) us → without disk (map shown us) ≡ map shown us
other_disks disk [] others = refl
other_disks disk (u ∷ us) others =
    let P = λ (v : Use). v.disk ≢ disk in
    let other : same_uuid disk u.disk ≡ false = false_from_ne_true (same_uuid disk u.disk) (λ same. All-head P u us others (sym (uuid_from_same disk u.disk same))) in
    cond-true (not (same_uuid disk u.disk)) (shown u ∷ without disk (map shown us)) (without disk (map shown us)) (ap not other)
    ∙ ap (λ (ds : List (List ℕ × Mode)). shown u ∷ ds) (other_disks disk us (All-tail P u us others))

gone_disk : (disk : List ℕ) (front : List Use) (gone : Use) (back : List Use) → gone.disk ≡ disk → All (λ u. u.disk ≢ disk) (front ++ back) → without disk (map shown (front ++ gone ∷ back)) ≡ map shown (front ++ back)
gone_disk disk front gone back same others =
    let keep = λ (d : List ℕ × Mode). not (same_uuid disk d.0) in
    let is : same_uuid disk gone.disk ≡ true = subst (λ d. same_uuid disk d ≡ true) (sym same) (same_uuid-refl disk) in
    let split : without disk (map shown (front ++ gone ∷ back)) ≡ without disk (map shown front) ++ without disk (map shown (gone ∷ back)) =
    ap (without disk) (map-append shown front (gone ∷ back)) ∙ filter-append keep (map shown front) (map shown (gone ∷ back)) in
    let out : without disk (map shown (gone ∷ back)) ≡ without disk (map shown back) =
    cond-false (not (same_uuid disk gone.disk)) (shown gone ∷ without disk (map shown back)) (without disk (map shown back)) (ap not is) in
    let joined : without disk (map shown front) ++ without disk (map shown back) ≡ without disk (map shown (front ++ back)) =
    sym (filter-append keep (map shown front) (map shown back)) ∙ ap (without disk) (sym (map-append shown front back)) in
    split ∙ ap (λ (ds : List (List ℕ × Mode)). without disk (map shown front) ++ ds) out ∙ joined ∙ other_disks disk (front ++ back) others

-- ---- each call

module _ (old new : Attached) (uses now : List Use) (is : IsFromScratch old uses) where
  entered : (disk : List ℕ) (mode : Mode) (chain : List Name) → Enters disk mode chain old new → ChangesUses (Enter disk mode chain) uses now → IsFromScratch new now
  entered disk mode chain does changed =
      let use' : Use = record { disk = disk; mode = mode; chain = chain } in
      subst (IsFromScratch new) (sym changed) (record {
        disks = does.disks ∙ ap (λ (ds : List (List ℕ × Mode)). ds ++ (disk, mode) ∷ []) is.disks ∙ sym (map_push shown uses use');
        counts = λ v. omega (arith, does.counts v, is.counts v, append_count (λ (u : Use). has u.chain v) uses (use' ∷ []), one_count (λ (u : Use). has u.chain v) use');
      })

  left : (disk : List ℕ) (chain : List Name) → LeavesChain disk chain old new → GoesAway disk chain uses now → IsFromScratch new now
  left disk chain does changed =
      subst (IsFromScratch new) (sym changed.now) (record {
        disks = does.disks ∙ ap (without disk) (is.disks ∙ ap (map shown) changed.was) ∙ gone_disk disk changed.front changed.gone changed.back changed.same_disk changed.others;
        counts = λ v.
            let p = λ (u : Use). has u.chain v in
            let at_first : count_of old v ≡ count_by p (changed.front ++ changed.gone ∷ changed.back) = is.counts v ∙ ap (λ us. refs_from_scratch us v) changed.was in
            let same : cond (has changed.gone.chain v) 1 0 ≡ one_in chain v = ap {B = ℕ} (λ b. cond b 1 0) (changed.same_chain v) in
            omega (arith, does.counts v, at_first, same, append_count p changed.front (changed.gone ∷ changed.back), one_more p changed.gone changed.back, append_count p changed.front changed.back);
      })

  forked : (leaf base : Name) → Forks leaf base old new → AllZip (GetsBase leaf base) uses now → IsFromScratch new now
  forked leaf base does changed = record {
    disks = does.disks ∙ is.disks ∙ sym (same_disks (GetsBase leaf base) (λ u v gets. (gets.disk, gets.mode)) uses now changed);
    counts = λ v. by v (same_name base v) refl;
  }
    where
      by : (v : Name) (b : Bool) → same_name base v ≡ b → count_of new v ≡ refs_from_scratch now v
      by v true e =
          subst (λ m. count_of new m ≡ refs_from_scratch now m) (name_from_same base v e)
          (does.counted ∙ is.counts leaf ∙ sym (alike (GetsBase leaf base) (λ (u : Use). has u.chain base) (λ (u : Use). has u.chain leaf) (λ x y gets. gets.gets) uses now changed))
      by v false e =
          let other : v ≢ base = apart_from_other base v e in
          does.others v other ∙ is.counts v ∙ sym (alike (GetsBase leaf base) (λ (u : Use). has u.chain v) (λ (u : Use). has u.chain v) (λ x y gets. gets.others v other) uses now changed)

  relinked : (child out : Name) → Relinks child out old new → AllZip (LosesOut child out) uses now → IsFromScratch new now
  relinked child out does changed = record {
    disks = does.disks ∙ is.disks ∙ sym (same_disks (LosesOut child out) (λ u v loses. (loses.disk, loses.mode)) uses now changed);
    counts = λ v. by v (same_name out v) refl;
  }
    where
      each : (a b c : Bool) → (a ≡ true → b ≡ true) → c ≡ (b && not a) → cond c 1 0 + cond a 1 0 ≡ cond {A = ℕ} b 1 0
      each true true c under loses = ap {B = ℕ} (λ d. cond d 1 0 + 1) loses
      each true false c under loses = absurd (false≢true (under refl))
      each false true c under loses = ap {B = ℕ} (λ d. cond d 1 0 + 0) loses
      each false false c under loses = ap {B = ℕ} (λ d. cond d 1 0 + 0) loses

      by : (v : Name) (b : Bool) → same_name out v ≡ b → count_of new v ≡ refs_from_scratch now v
      by v true e =
          let sums : refs_from_scratch now out + refs_from_scratch uses child ≡ refs_from_scratch uses out = together (LosesOut child out) (λ (u : Use). has u.chain out) (λ (u : Use). has u.chain child) (λ (u : Use). has u.chain out) (λ x y loses. each (has x.chain child) (has x.chain out) (has y.chain out) loses.under loses.loses) uses now changed in
          subst (λ m. count_of new m ≡ refs_from_scratch now m) (name_from_same out v e) (omega (arith, does.counted, is.counts out, is.counts child, sums))
      by v false e =
          let other : v ≢ out = apart_from_other out v e in
          does.others v other ∙ is.counts v ∙ sym (alike (LosesOut child out) (λ (u : Use). has u.chain v) (λ (u : Use). has u.chain v) (λ x y loses. loses.others v other) uses now changed)

  swapped : (parent : Name) → Swaps parent old new → AllZip (LosesParent parent) uses now → IsFromScratch new now
  swapped parent does changed = record {
    disks = does.disks ∙ is.disks ∙ sym (same_disks (LosesParent parent) (λ u v loses. (loses.disk, loses.mode)) uses now changed);
    counts = λ v. by v (same_name parent v) refl;
  }
    where
      none : refs_from_scratch now parent ≡ 0
      none = alike (LosesParent parent) (λ (u : Use). has u.chain parent) (λ u. false) (λ x y loses. loses.loses) uses now changed ∙ count_none uses

      by : (v : Name) (b : Bool) → same_name parent v ≡ b → count_of new v ≡ refs_from_scratch now v
      by v true e = subst (λ m. count_of new m ≡ refs_from_scratch now m) (name_from_same parent v e) (does.counted ∙ sym none)
      by v false e =
          let other : v ≢ parent = apart_from_other parent v e in
          does.others v other ∙ is.counts v ∙ sym (alike (LosesParent parent) (λ (u : Use). has u.chain v) (λ (u : Use). has u.chain v) (λ x y loses. loses.others v other) uses now changed)

pub kept_right : (call : Call) (old new : Attached) (uses now : List Use) → IsFromScratch old uses → DoesCall call old new → ChangesUses call uses now → IsFromScratch new now
kept_right (Enter disk mode chain) old new uses now is does changed = entered old new uses now is disk mode chain does changed
kept_right (Leave disk chain) old new uses now is does changed = left old new uses now is disk chain does changed
kept_right (Forked leaf base) old new uses now is does changed = forked old new uses now is leaf base does changed
kept_right (Relinked child out) old new uses now is does changed = relinked old new uses now is child out does changed
kept_right (Swapped parent) old new uses now is does changed = swapped old new uses now is parent does changed

pub nothing_attached : (a : Attached) → a.disks ≡ [] → a.counts ≡ [] → IsFromScratch a []
nothing_attached a none no_count = record { disks = none; counts = λ v. ap (λ cs. tally cs v) no_count }

pub runs_right : (calls : List Call) (first last : Attached) (uses now : List Use) → IsFromScratch first uses → Runs calls first uses last now → IsFromScratch last now
runs_right [] first last uses now is runs = subst (λ us. IsFromScratch last us) (sym runs.1) (subst (λ a. IsFromScratch a uses) (sym runs.0) is)
runs_right (call ∷ calls) first last uses now is runs =
    runs_right calls runs.0 last runs.1 now (kept_right call first runs.0 uses runs.1 is runs.2 runs.3) runs.4
