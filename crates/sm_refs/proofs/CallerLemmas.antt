-- What a caller cites to show that volumes fit: each volume that is counted is in a list of names, and stays so.
use Rattle.std.proofs.Common.{◌≡◌, ◌≢◌, ℕ, ◌+◌, ◌<◌, ◌≤◌, Bool, true, false, cond, List, [], ◌∷◌, ◌++◌, length, All, if◌then◌else◌, refl, sym, ap, subst, arith}
use Rattle.std.proofs.lemmas.List.Elements.{All-head, All-tail}
use Rattle.std.proofs.lemmas.List.Sums.{count_by-le-length}
use Rattle.sm_base.specs.declared.names.Name.{Name}
use Rattle.sm_refs.specs.Attached.{Attached, same_name, count_of, tally, has, CountsMore, CountsLess, HoldsChain}
use Rattle.sm_refs.specs.FromScratch.{Use, refs_from_scratch, IsFromScratch}
use Rattle.sm_refs.proofs.NameLemmas.{name_from_same, apart_from_other}
use Rattle.sm_refs.proofs.FromScratchLemmas.{append_count, one_more}

-- each volume that is counted is in the list
abbrev pub AreCountedIn : List Name → Attached → Type 0
AreCountedIn names a = (volume : Name) → 0 < count_of a volume → has names volume ≡ true

-- each volume of the chain is in the list
abbrev pub IsPartOf : List Name → List Name → Type 0
IsPartOf chain names = (volume : Name) → has chain volume ≡ true → has names volume ≡ true

-- what fits: any chain within a list that is short enough
pub has_room : (names : List Name) (a : Attached) (chain : List Name) → length names ≤ a.room → AreCountedIn names a → IsPartOf chain names → HoldsChain a.counts chain a.room
has_room names a chain few counted added = record { names = names; few = few; counted = counted; added = added }

pub counted_at_first : (names : List Name) (a : Attached) → a.counts ≡ [] → AreCountedIn names a
counted_at_first names a none = λ v some. let no_count : count_of a v ≡ 0 = ap (λ cs. tally cs v) none in absurd (omega arith)

pub counted_from_scratch : (names : List Name) (a : Attached) (uses : List Use) → IsFromScratch a uses → All (λ u. IsPartOf u.chain names) uses → AreCountedIn names a
counted_from_scratch names a uses is parts = λ v some. go uses parts v (subst (λ n. 0 < n) (is.counts v) some)
  where
    step : (u : Use) (us : List Use) (v : Name) (b : Bool) → has u.chain v ≡ b → IsPartOf u.chain names → (0 < refs_from_scratch us v → has names v ≡ true) → 0 < refs_from_scratch (u ∷ us) v → has names v ≡ true
    step u us v true e part rest some = part v e
    step u us v false e part rest some =
        let p = λ (w : Use). has w.chain v in
        let not_here : cond (p u) 1 0 ≡ 0 = ap {B = ℕ} (λ b. cond b 1 0) e in
        rest (omega (arith, one_more p u us, not_here, some))

    go : (us : List Use) → All (λ u. IsPartOf u.chain names) us → (v : Name) → 0 < refs_from_scratch us v → has names v ≡ true
    go [] parts v some = absurd (omega arith)
    go (u ∷ us) parts v some =
        let P = λ (w : Use). IsPartOf w.chain names in
        step u us v (has u.chain v) refl (All-head P u us parts) (go us (All-tail P u us parts) v) some

pub counted_entered : (names chain : List Name) (old new : Attached) → AreCountedIn names old → IsPartOf chain names → CountsMore chain old new → AreCountedIn names new
counted_entered names chain old new counted part more = λ v some. by v (has chain v) refl (subst (λ n. 0 < n) (more v) some)
  where
    by : (v : Name) (b : Bool) → has chain v ≡ b → 0 < count_of old v + (if b then 1 else 0) → has names v ≡ true
    by v true e some = part v e
    by v false e some = counted v (omega arith)

pub counted_left : (names chain : List Name) (old new : Attached) → AreCountedIn names old → CountsLess chain old new → AreCountedIn names new
counted_left names chain old new counted less = λ v some. counted v (omega (arith, less v))

pub counted_forked : (names : List Name) (base : Name) (old new : Attached) → AreCountedIn names old → has names base ≡ true → ((volume : Name) → volume ≢ base → count_of new volume ≡ count_of old volume) → AreCountedIn names new
counted_forked names base old new counted there others = λ v some. by v (same_name base v) refl some
  where
    by : (v : Name) (b : Bool) → same_name base v ≡ b → 0 < count_of new v → has names v ≡ true
    by v true e some = subst (λ n. has names n ≡ true) (name_from_same base v e) there
    by v false e some = counted v (subst (λ n. 0 < n) (others v (apart_from_other base v e)) some)

pub counted_relinked : (names : List Name) (child out : Name) (old new : Attached) → AreCountedIn names old → count_of new out + count_of old child ≡ count_of old out → ((volume : Name) → volume ≢ out → count_of new volume ≡ count_of old volume) → AreCountedIn names new
counted_relinked names child out old new counted less others = λ v some. by v (same_name out v) refl some
  where
    at_out : 0 < count_of new out → has names out ≡ true
    at_out some = counted out (omega (arith, less))

    by : (v : Name) (b : Bool) → same_name out v ≡ b → 0 < count_of new v → has names v ≡ true
    by v true e some =
        let same : out ≡ v = name_from_same out v e in
        subst (λ n. has names n ≡ true) same (at_out (subst (λ n. 0 < count_of new n) (sym same) some))
    by v false e some = counted v (subst (λ n. 0 < n) (others v (apart_from_other out v e)) some)

-- a count is at most the number of disks, and the volumes of an attached disk have one
pub count_of-le : (a : Attached) (uses : List Use) → IsFromScratch a uses → (volume : Name) → count_of a volume ≤ length uses
count_of-le a uses is v = omega (arith, is.counts v, count_by-le-length (λ (u : Use). has u.chain v) uses)

pub count_of-used : (a : Attached) (front : List Use) (use' : Use) (back : List Use) → IsFromScratch a (front ++ use' ∷ back) → (volume : Name) → has use'.chain volume ≡ true → 0 < count_of a volume
count_of-used a front use' back is v there =
    let p = λ (u : Use). has u.chain v in
    let one : cond (p use') 1 0 ≡ 1 = ap {B = ℕ} (λ b. cond b 1 0) there in
    omega (arith, is.counts v, append_count p front (use' ∷ back), one_more p use' back, one)
