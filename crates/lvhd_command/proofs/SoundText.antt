-- The text of a table is damaged nowhere.
use Rattle.std.proofs.Common.{◌≡◌, ℕ, ◌<◌, ◌≤◌, ◌^◌, List, [], ◌∷◌, ◌++◌, length, refl, sym, ap, subst, ◌∙◌, arith, append_assoc, length-append}
use Rattle.std.specs.Prelude.{nat_eq}
use Rattle.std.specs.List.{flat_map, AllByRecursion, IsDistinct}
use Rattle.std.specs.List.Sorted.{IsStrictlySortedBy}
use Rattle.std.proofs.lemmas.Grind.{flat_map-append}
use Rattle.std.proofs.lemmas.List.{map-append, append-nil}
use Rattle.byteorder.specs.Endian.{big_bytes}
use Rattle.sm_base.specs.declared.names.Name.{Name}
use Rattle.sm_base.specs.Names.{name_cmp}
use Rattle.vg_meta.specs.Tables.{Row, VolumeTable, IsVolume, AreVolumes, extents_in, names_of}
use Rattle.vg_meta.specs.Text.{volume_by}
use Rattle.vg_meta.specs.Reading.{SpellsBy, BeginsBy, IsDamagedBy, no_sequence, no_number, no_volume, bytes_follow}
use Rattle.vg_meta.proofs.DecodeLaws.{used-le}
use Rattle.vg_meta.proofs.ReadLaws.{number_same, volume_same_by, parts_same}
use Rattle.vg_meta.proofs.WriteLaws.{text-parts}
use Rattle.vg_meta.specs.declared.grammars.Grammar.{Grammar}

-- ---- the first volumes of a table are those of a table

all_front : {X : Type 0} (P : X → Type 0) (xs ys : List X) → AllByRecursion P (xs ++ ys) → AllByRecursion P xs
all_front P [] ys h = tt
all_front P (x ∷ xs) ys h = (h.0, all_front P xs ys h.1)

all_back : {X : Type 0} (P : X → Type 0) (xs ys : List X) → AllByRecursion P (xs ++ ys) → AllByRecursion P ys
all_back P [] ys h = h
all_back P (x ∷ xs) ys h = all_back P xs ys h.1

distinct_front : (xs ys : List ℕ) → IsDistinct nat_eq (xs ++ ys) → IsDistinct nat_eq xs
unfolding IsDistinct
distinct_front [] ys h = tt
distinct_front (x ∷ xs) ys h = (all_front _ xs ys h.0, distinct_front xs ys h.1)

sorted_front : (xs ys : List Name) → IsStrictlySortedBy name_cmp (xs ++ ys) → IsStrictlySortedBy name_cmp xs
unfolding IsStrictlySortedBy
sorted_front [] ys h = tt
sorted_front (x ∷ xs) ys h = (all_front _ xs ys h.0, sorted_front xs ys h.1)

pub volumes_front : (count : ℕ) (rs ss : List Row) → AreVolumes count (rs ++ ss) → AreVolumes count rs
volumes_front count rs ss v =
    let extents : extents_in (rs ++ ss) ≡ extents_in rs ++ extents_in ss = flat_map-append (λ (r : Row). r.extents) rs ss in
    let names : names_of (rs ++ ss) ≡ names_of rs ++ names_of ss = map-append (λ (r : Row). r.name) rs ss in
    record {
      each = all_front IsVolume rs ss v.each;
      rising = sorted_front (names_of rs) (names_of ss) (subst (λ (l : List Name). IsStrictlySortedBy name_cmp l) names v.rising);
      below = all_front (λ e. e < count) (extents_in rs) (extents_in ss) (subst (λ (l : List ℕ). AllByRecursion (λ e. e < count) l) extents v.below);
      distinct = distinct_front (extents_in rs) (extents_in ss) (subst (λ (l : List ℕ). IsDistinct nat_eq l) extents v.distinct);
    }

-- ---- volumes that have their places in a text

all_weaker : (P Q : ℕ → Type 0) → ((x : ℕ) → P x → Q x) → (xs : List ℕ) → AllByRecursion P xs → AllByRecursion Q xs
all_weaker P Q w [] h = tt
all_weaker P Q w (x ∷ xs) h = (w x h.0, all_weaker P Q w xs h.1)

pub record HasPlaces (rs : List Row) : Type 0 where
  pub each : AllByRecursion IsVolume rs
  pub few : length (extents_in rs) < 2 ^ 32
  pub fit : AllByRecursion (λ e. e < 2 ^ 32) (extents_in rs)

rest_has : (r : Row) (rs : List Row) → HasPlaces (r ∷ rs) → HasPlaces rs
rest_has r rs h = record {
  each = h.each.1;
  few = omega (arith, h.few, length-append r.extents (extents_in rs));
  fit = all_back (λ e. e < 2 ^ 32) r.extents (extents_in rs) h.fit;
}

few_first : (r : Row) (rs : List Row) → HasPlaces (r ∷ rs) → length r.extents < 2 ^ 32
few_first r rs h = omega (arith, h.few, length-append r.extents (extents_in rs))

pub has_places : (count : ℕ) (rs : List Row) → count < 2 ^ 32 → AreVolumes count rs → HasPlaces rs
has_places count rs few v = record {
  each = v.each;
  few = omega (arith, used-le count rs v);
  fit = all_weaker (λ e. e < count) (λ e. e < 2 ^ 32) (λ e h. omega arith) (extents_in rs) v.below;
}

-- ---- what was read of a table are its first volumes

-- the volumes are these and more, which the rest spells in front of a tail
pub record GoesOn (grammar : Grammar) (front vs : List Row) (rest tail : List ℕ) : Type 0 where
  pub more : List Row
  pub whole : vs ≡ front ++ more
  pub spelled : rest ≡ flat_map (volume_by grammar) more ++ tail

pub goes_on : (grammar : Grammar) (front vs : List Row) (rest tail : List ℕ) → length front ≤ length vs → HasPlaces front → HasPlaces vs
    → flat_map (volume_by grammar) front ++ rest ≡ flat_map (volume_by grammar) vs ++ tail → GoesOn grammar front vs rest tail
goes_on grammar [] vs rest tail most h k e = record { more = vs; whole = refl; spelled = e }
goes_on grammar (r ∷ front) [] rest tail most h k e = absurd (omega arith)
goes_on grammar (r ∷ front) (s ∷ vs) rest tail most h k e =
    let fits = λ (t : Row) (ts : List Row) (p : HasPlaces (t ∷ ts)). all_front (λ e. e < 2 ^ 32) t.extents (extents_in ts) p.fit in
    let behind = flat_map (volume_by grammar) vs ++ tail in
    let both : volume_by grammar r ++ (flat_map (volume_by grammar) front ++ rest) ≡ volume_by grammar s ++ behind =
    sym (append_assoc (volume_by grammar r) (flat_map (volume_by grammar) front) rest) ∙ e ∙ append_assoc (volume_by grammar s) (flat_map (volume_by grammar) vs) tail in
    let first : r ≡ s = volume_same_by grammar (volume_by grammar s ++ behind) r s (flat_map (volume_by grammar) front ++ rest) behind h.each.0.name k.each.0.name (few_first r front h) (few_first s vs k) (fits r front h) (fits s vs k) (sym both) refl in
    let same_first : volume_by grammar r ≡ volume_by grammar s = ap (volume_by grammar) first in
    let after : flat_map (volume_by grammar) front ++ rest ≡ behind = (parts_same (volume_by grammar r) (flat_map (volume_by grammar) front ++ rest) (volume_by grammar s) behind (ap length same_first) both).1 in
    let ih = goes_on grammar front vs rest tail (omega arith) (rest_has r front h) (rest_has s vs k) after in
    record { more = ih.more; whole = ap (λ (x : Row). x ∷ vs) (sym first) ∙ ap (λ (l : List Row). r ∷ l) ih.whole; spelled = ih.spelled }

-- the numbers that were read are those of the table, and behind them stand its volumes
record Reads (grammar : Grammar) (t : VolumeTable) (number : ℕ) (front : List Row) (rest : List ℕ) : Type 0 where
  many : number ≡ length t.volumes
  on : length front ≤ number → GoesOn grammar front t.volumes rest []

begun : (grammar : Grammar) (count : ℕ) (bytes : List ℕ) (t : VolumeTable) (sequence number : ℕ) (front : List Row) (rest : List ℕ) → count < 2 ^ 32
    → SpellsBy grammar count bytes t → BeginsBy grammar count bytes sequence number front rest → Reads grammar t number front rest
begun grammar count bytes t sequence number front rest low s b =
    let behind = flat_map (volume_by grammar) front ++ rest in
    let all = flat_map (volume_by grammar) t.volumes in
    let first = number_same 8 sequence t.sequence (big_bytes 4 number ++ behind) (big_bytes 4 (length t.volumes) ++ all) (omega (arith, b.sequence_fits)) (omega (arith, s.table.sequence)) (sym b.spelled ∙ s.spelled ∙ text-parts grammar t) in
    let second = number_same 4 number (length t.volumes) behind all (omega (arith, b.number_fits)) (omega (arith, s.fits.volumes)) first.1 in
    record {
      many = second.0;
      on = λ most. goes_on grammar front t.volumes rest [] (omega (arith, second.0)) (has_places count front low b.volumes) (has_places count t.volumes low s.table.volumes)
          (second.1 ∙ sym (append-nil all));
    }

-- ---- no fault

next_there : (grammar : Grammar) (count : ℕ) (t : VolumeTable) (front : List Row) (rest : List ℕ) → count < 2 ^ 32 → AreVolumes count t.volumes → length front < length t.volumes → GoesOn grammar front t.volumes rest []
    → ((r : Row) (more : List ℕ) → length r.extents < 2 ^ 32 → AreVolumes count (front ++ r ∷ []) → rest ≡ volume_by grammar r ++ more → ⊥) → ⊥
next_there grammar count t front rest low v fewer g none = go g.more g.whole (g.spelled ∙ append-nil (flat_map (volume_by grammar) g.more))
  where
    go : (more : List Row) → t.volumes ≡ front ++ more → rest ≡ flat_map (volume_by grammar) more → ⊥
    go [] whole spelled = absurd (omega (arith, ap length (whole ∙ append-nil front)))
    go (r ∷ more) whole spelled =
        let split : t.volumes ≡ (front ++ r ∷ []) ++ more = whole ∙ sym (append_assoc front (r ∷ []) more) in
        let there : AreVolumes count (front ++ r ∷ []) = volumes_front count (front ++ r ∷ []) more (subst (λ (l : List Row). AreVolumes count l) split v) in
        let few = has_places count (front ++ r ∷ []) low there in
        let long : extents_in (front ++ r ∷ []) ≡ extents_in front ++ extents_in (r ∷ []) = flat_map-append (λ (x : Row). x.extents) front (r ∷ []) in
        none r (flat_map (volume_by grammar) more) (omega (arith, few.few, ap length long, length-append (extents_in front) (extents_in (r ∷ [])), length-append r.extents [])) there spelled

nothing_left : (grammar : Grammar) (t : VolumeTable) (front : List Row) (rest : List ℕ) → length front ≡ length t.volumes → GoesOn grammar front t.volumes rest [] → rest ≡ []
nothing_left grammar t front rest all g = go g.more g.whole (g.spelled ∙ append-nil (flat_map (volume_by grammar) g.more))
  where
    go : (more : List Row) → t.volumes ≡ front ++ more → rest ≡ flat_map (volume_by grammar) more → rest ≡ []
    go [] whole spelled = spelled
    go (r ∷ more) whole spelled = absurd (omega (arith, ap length whole, length-append front (r ∷ more)))

-- a text that spells a table has no fault
pub not_damaged : (grammar : Grammar) (count : ℕ) (bytes : List ℕ) (t : VolumeTable) (place : ℕ) → count < 2 ^ 32 → SpellsBy grammar count bytes t → IsDamagedBy grammar count bytes place → ⊥
not_damaged grammar count bytes t _ low s (no_sequence none) =
    none t.sequence (big_bytes 4 (length t.volumes) ++ flat_map (volume_by grammar) t.volumes) s.table.sequence (s.spelled ∙ text-parts grammar t)
not_damaged grammar count bytes t _ low s (no_number sequence rest fits spelled short) =
    let numbers = big_bytes 4 (length t.volumes) ++ flat_map (volume_by grammar) t.volumes in
    omega (arith, ap length spelled, length-append (big_bytes 8 sequence) rest, short, ap length (s.spelled ∙ text-parts grammar t), length-append (big_bytes 8 t.sequence) numbers, length-append (big_bytes 4 (length t.volumes)) (flat_map (volume_by grammar) t.volumes))
not_damaged grammar count bytes t _ low s (no_volume sequence number front rest begins fewer none) =
    let r = begun grammar count bytes t sequence number front rest low s begins in
    next_there grammar count t front rest low s.table.volumes (omega (arith, r.many)) (r.on (omega arith)) none
not_damaged grammar count bytes t _ low s (bytes_follow sequence number front rest begins all some) =
    let r = begun grammar count bytes t sequence number front rest low s begins in
    some (nothing_left grammar t front rest (all ∙ r.many) (r.on (omega arith)))
