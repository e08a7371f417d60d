-- One more volume behind those that were read.
use Rattle.std.proofs.Common.{◌≡◌, ℕ, zero, suc, ◌+◌, ◌-◌, ◌<◌, ◌^◌, Bool, List, [], ◌∷◌, ◌++◌, length, take, Some, sym, ap, subst, ◌∙◌, arith, length-append}
use Rattle.std.specs.Prelude.{slice_get, ◌↔◌, IsTrue}
use Rattle.std.specs.List.{AllByRecursion}
use Rattle.std.specs.List.Sorted.{IsStrictlySortedBy}
use Rattle.std.specs.Ordering.{is_lt}
use Rattle.std.specs.declared.cmp.Ordering.TheVariants.{Less}
use Rattle.std.proofs.lemmas.Option.{slice_get_within, get_or_from_slice_get}
use Rattle.std.proofs.lemmas.List.{take_all}
use Rattle.common_laws.proofs.Lists.{take_next}
use Rattle.sm_base.specs.declared.names.Name.{Name}
use Rattle.sm_base.specs.Names.{name_cmp}
use Rattle.sm_base.proofs.OrderLemmas.{name_cmp_total}
use Rattle.vg_meta.specs.Tables.{Row, extents_in, IsVolume, AreVolumes}
use Rattle.vg_meta.specs.Roomy.{RoomyRow, rows_alone}
use Rattle.vg_meta.proofs.NameLaws.{less_from}
use Rattle.vg_meta.proofs.RowLaws.{IsRising, All-names, All-rows}
use Rattle.vg_meta.specs.Text.{volume_by, volume_text}
use Rattle.vg_meta.specs.declared.grammars.Grammar.TheVariants.{Segmented}
use Rattle.vg_meta.specs.declared.grammars.Grammar.{Grammar}
use Rattle.vg_meta.specs.Segments.{AreFew}
use Rattle.vg_meta.proofs.FreeLaws.{all_from}
use Rattle.vg_meta.proofs.ReadLaws.{volume_same_by}
use Rattle.vg_meta.proofs.ExtentLaws.{All-weaken, Once, times-append}
use Rattle.vg_meta.proofs.ChangeLaws.{once_from, volumes_from}
use Rattle.vg_meta.proofs.Places.{All-push}
use Rattle.vg_meta.proofs.WriteLaws.{flat_map-push}
use Rattle.vg_meta.proofs.DecodeLaws.{used-le}

-- ---- behind the last name

pub All-held : (Q : Row → Type 0) (hs : List RoomyRow) → AllByRecursion (λ (v : RoomyRow). Q v.row) hs → AllByRecursion Q (rows_alone hs)
All-held Q [] all = tt
All-held Q (h ∷ hs) all = (all.0, All-held Q hs all.1)

All-at : {X : Type 0} (P : X → Type 0) (xs : List X) (i : ℕ) (x : X) → AllByRecursion P xs → slice_get xs i ≡ Some x → P x
All-at P [] i x all at = absurd cc
All-at P (y ∷ xs) zero x all at = let same : y ≡ x = cc in subst P same all.0
All-at P (y ∷ xs) (suc i) x all at = All-at P xs i x all.1 at

pub All-held_back : (Q : Row → Type 0) (hs : List RoomyRow) → AllByRecursion Q (rows_alone hs) → AllByRecursion (λ (v : RoomyRow). Q v.row) hs
All-held_back Q [] all = tt
All-held_back Q (h ∷ hs) all = (all.0, All-held_back Q hs all.1)

before_place : (hs : List RoomyRow) (i : ℕ) (h : RoomyRow) → IsRising (rows_alone hs) → slice_get hs i ≡ Some h
    → AllByRecursion (λ (v : RoomyRow). name_cmp v.row.name h.row.name ≡ Less) (take i hs)
unfolding IsStrictlySortedBy
before_place [] i h rising at = absurd cc
before_place (x ∷ hs) zero h rising at = tt
before_place (x ∷ hs) (suc i) h rising at = (
  All-at (λ (v : RoomyRow). name_cmp x.row.name v.row.name ≡ Less) hs i h
      (All-held_back (λ (r : Row). name_cmp x.row.name r.name ≡ Less) hs (All-rows (λ (m : Name). name_cmp x.row.name m ≡ Less) (rows_alone hs) rising.0)) at,
  before_place hs i h rising.1 at,
)

split_last : (hs : List RoomyRow) (h : RoomyRow) → slice_get hs (length hs - 1) ≡ Some h → hs ≡ take (length hs - 1) hs ++ h ∷ []
split_last hs h at =
    let i = length hs - 1 in
    let within : i < length hs = slice_get_within hs i h at in
    let all : take (i + 1) hs ≡ hs = take_all (i + 1) hs (omega arith) in
    sym all ∙ take_next hs i h within (sym (get_or_from_slice_get hs i h h at))

pub last_first : (hs : List RoomyRow) (h : RoomyRow) (n : Name) → IsRising (rows_alone hs) → slice_get hs (length hs - 1) ≡ Some h
    → name_cmp h.row.name n ≡ Less → AllByRecursion (λ (v : RoomyRow). name_cmp v.row.name n ≡ Less) hs
last_first hs h n rising at less =
    subst (λ (l : List RoomyRow). AllByRecursion (λ (v : RoomyRow). name_cmp v.row.name n ≡ Less) l) (sym (split_last hs h at))
    (All-push (λ (v : RoomyRow). name_cmp v.row.name n ≡ Less) (take (length hs - 1) hs) h
    (All-weaken (λ (v : RoomyRow). name_cmp v.row.name h.row.name ≡ Less) (λ (v : RoomyRow). name_cmp v.row.name n ≡ Less) (take (length hs - 1) hs)
    (λ v first. name_cmp_total.trans v.row.name h.row.name n first less) (before_place hs (length hs - 1) h rising at)) less)

pub follows_last : (hs : List RoomyRow) (h : RoomyRow) (n : Name) (b : Bool) → IsRising (rows_alone hs) → slice_get hs (length hs - 1) ≡ Some h
    → b ≡ is_lt (name_cmp h.row.name n)
    → IsTrue b ↔ AllByRecursion (λ (v : RoomyRow). name_cmp v.row.name n ≡ Less) hs
follows_last hs h n b rising at is = (
  λ yes. last_first hs h n rising at (less_from h.row.name n (sym is ∙ yes)),
  λ all. is ∙ ap is_lt (All-at (λ (v : RoomyRow). name_cmp v.row.name n ≡ Less) hs (length hs - 1) h all at),
)

-- ---- one more volume

rising-push : (rs : List Row) (r : Row) → IsRising rs → AllByRecursion (λ (s : Row). name_cmp s.name r.name ≡ Less) rs → IsRising (rs ++ r ∷ [])
unfolding IsStrictlySortedBy
rising-push [] r rising all = (tt, tt)
rising-push (s ∷ rs) r rising all = (
  All-names (λ (m : Name). name_cmp s.name m ≡ Less) (rs ++ r ∷ [])
      (All-push (λ (x : Row). name_cmp s.name x.name ≡ Less) rs r (All-rows (λ (m : Name). name_cmp s.name m ≡ Less) rs rising.0) all.0),
  rising-push rs r rising.1 all.1,
)

pub volumes_push : (count : ℕ) (rs : List Row) (r : Row) → AreVolumes count rs → IsVolume r → AllByRecursion (λ (s : Row). name_cmp s.name r.name ≡ Less) rs
    → Once count (extents_in rs ++ r.extents) → AreVolumes count (rs ++ r ∷ [])
volumes_push count rs r v is all o =
    volumes_from count (rs ++ r ∷ []) (All-push IsVolume rs r v.each is) (rising-push rs r v.rising all)
    (subst (λ (l : List ℕ). Once count l) (sym (flat_map-push (λ (x : Row). x.extents) rs r)) o)

-- what one more volume is
All-parts : {X : Type 0} (P : X → Type 0) (xs : List X) (x : X) → AllByRecursion P (xs ++ x ∷ []) → AllByRecursion P xs × P x
All-parts P [] x all = (tt, all.0)
All-parts P (y ∷ xs) x all = let ih = All-parts P xs x all.1 in ((all.0, ih.0), ih.1)

rising_parts : (rs : List Row) (r : Row) → IsRising (rs ++ r ∷ []) → AllByRecursion (λ (s : Row). name_cmp s.name r.name ≡ Less) rs
unfolding IsStrictlySortedBy
rising_parts [] r rising = tt
rising_parts (s ∷ rs) r rising = (
  (All-parts (λ (x : Row). name_cmp s.name x.name ≡ Less) rs r (All-rows (λ (m : Name). name_cmp s.name m ≡ Less) (rs ++ r ∷ []) rising.0)).1,
  rising_parts rs r rising.1,
)

pub record IsNext (count : ℕ) (rs : List Row) (r : Row) : Type 0 where
  pub volume : IsVolume r
  pub behind : AllByRecursion (λ (s : Row). name_cmp s.name r.name ≡ Less) rs
  pub extents : Once count (extents_in rs ++ r.extents)

pub next_from : (count : ℕ) (rs : List Row) (r : Row) → AreVolumes count (rs ++ r ∷ []) → IsNext count rs r
next_from count rs r v = record {
  volume = (All-parts IsVolume rs r v.each).1;
  behind = rising_parts rs r v.rising;
  extents = subst (λ (l : List ℕ). Once count l) (flat_map-push (λ (x : Row). x.extents) rs r) (once_from count (rs ++ r ∷ []) v);
}

-- the volume that was read is the one that goes on with the others, where any does
pub read_is_next_by : (g : Grammar) (bytes : List ℕ) (count : ℕ) (rs : List Row) (v : Row) (after : List ℕ) → count < 2 ^ 32 → IsVolume v → length v.extents < 2 ^ 32
    → AllByRecursion (λ (e : ℕ). e < 2 ^ 32) v.extents → bytes ≡ volume_by g v ++ after
    → (r : Row) (rest : List ℕ) → length r.extents < 2 ^ 32 → AreVolumes count (rs ++ r ∷ []) → bytes ≡ volume_by g r ++ rest → IsNext count rs v
read_is_next_by g bytes count rs v after small is few fit read r rest short vs e =
    let next = next_from count rs r vs in
    let low : AllByRecursion (λ (x : ℕ). x < 2 ^ 32) r.extents =
    all_from (λ (x : ℕ). x < 2 ^ 32) r.extents (λ x k. let b = next.extents.below x (omega (arith, times-append x (extents_in rs) r.extents)) in omega arith) in
    let same : v ≡ r = volume_same_by g bytes v r after rest is.name next.volume.name few short fit low read e in
    subst (λ (x : Row). IsNext count rs x) (sym same) next

-- the same where the extents are listed
pub read_is_next : (bytes : List ℕ) (count : ℕ) (rs : List Row) (v : Row) (after : List ℕ) → count < 2 ^ 32 → IsVolume v → length v.extents < 2 ^ 32
    → AllByRecursion (λ (e : ℕ). e < 2 ^ 32) v.extents → bytes ≡ volume_text v ++ after
    → (r : Row) (rest : List ℕ) → length r.extents < 2 ^ 32 → AreVolumes count (rs ++ r ∷ []) → bytes ≡ volume_text r ++ rest → IsNext count rs v
read_is_next = read_is_next_by Segmented

-- the extents of one more volume are below the count, and no more than are left
pub next_few : (count most : ℕ) (rs : List Row) (r : Row) → length (extents_in rs) + most ≡ count → AreVolumes count (rs ++ r ∷ []) → AreFew count most r.extents
next_few count most rs r left vs =
    let next = next_from count rs r vs in
    record {
      below = all_from (λ (x : ℕ). x < count) r.extents (λ x k. next.extents.below x (omega (arith, times-append x (extents_in rs) r.extents)));
      few = omega (arith, used-le count (rs ++ r ∷ []) vs, ap length (flat_map-push (λ (x : Row). x.extents) rs r), length-append (extents_in rs) r.extents);
    }
