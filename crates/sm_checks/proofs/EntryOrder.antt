-- The journal entries of a table stand behind all its other volumes.
use Rattle.std.proofs.Common.{◌≡◌, ℕ, zero, suc, ◌≤◌, Bool, true, false, cond, not, List, [], ◌∷◌, Option, Some, drop, slice_get, length, get_or, refl, sym, ap, ◌∙◌, arith}
use Rattle.std.specs.List.{filter, find}
use Rattle.std.specs.List.Sorted.{IsStrictlySortedBy, IsPartitionPoint, IsPartitionedBy}
use Rattle.std.specs.declared.cmp.Ordering.TheVariants.{Less}
use Rattle.std.proofs.lemmas.Bool.{true≢false}
use Rattle.sm_base.specs.declared.names.Name.{Name}
use Rattle.sm_base.specs.declared.names.Name.TheVariants.{Mgt, Vhd, Raw, Old, Cbt, Clone, Inflate, Coalesce, Relink, Leaf}
use Rattle.sm_base.specs.Kinds.{is_entry}
use Rattle.sm_base.specs.Names.{name_cmp, spelling}
use Rattle.sm_base.proofs.OrderLemmas.{name_cmp_total}
use Rattle.sm_standing.specs.Entries.{is_folding, is_making}
use Rattle.vg_meta.specs.Halves.{IsInOrder}
use Rattle.vg_meta.specs.Roomy.{RoomyRow, RoomyTable}
use Rattle.vg_meta.proofs.NameLaws.{less_other}
use Rattle.vg_meta.proofs.Halving.{name_of}
use Rattle.vg_meta.proofs.Places.{row_name}

-- every other name is less than that of an entry
other_first : (n e : Name) → is_entry n ≡ false → is_entry e ≡ true → name_cmp n e ≡ Less
unfolding name_cmp spelling
other_first Mgt (Clone d b t) h k = refl
other_first Mgt (Inflate i m) h k = refl
other_first Mgt (Coalesce c p) h k = refl
other_first Mgt (Relink c p) h k = refl
other_first Mgt (Leaf l p) h k = refl
other_first (Vhd u) (Clone d b t) h k = refl
other_first (Vhd u) (Inflate i m) h k = refl
other_first (Vhd u) (Coalesce c p) h k = refl
other_first (Vhd u) (Relink c p) h k = refl
other_first (Vhd u) (Leaf l p) h k = refl
other_first (Raw u) (Clone d b t) h k = refl
other_first (Raw u) (Inflate i m) h k = refl
other_first (Raw u) (Coalesce c p) h k = refl
other_first (Raw u) (Relink c p) h k = refl
other_first (Raw u) (Leaf l p) h k = refl
other_first (Old u) (Clone d b t) h k = refl
other_first (Cbt u) (Clone d b t) h k = refl
other_first (Old u) (Inflate i m) h k = refl
other_first (Cbt u) (Inflate i m) h k = refl
other_first (Old u) (Coalesce c p) h k = refl
other_first (Cbt u) (Coalesce c p) h k = refl
other_first (Old u) (Relink c p) h k = refl
other_first (Cbt u) (Relink c p) h k = refl
other_first (Old u) (Leaf l p) h k = refl
other_first (Cbt u) (Leaf l p) h k = refl
other_first _ _ h k = absurd cc

-- what is less than the name of no entry is that of none
front_other : (a m : Name) → name_cmp a m ≡ Less → not (is_entry m) ≡ true → not (is_entry a) ≡ true
front_other a m less other = go (is_entry a) (is_entry m) refl refl other
  where
    go : (x y : Bool) → is_entry a ≡ x → is_entry m ≡ y → not y ≡ true → not x ≡ true
    go false y e k h = refl
    go true true e k h = absurd (true≢false (sym h))
    go true false e k h = absurd (less_other a a (name_cmp_total.trans a m a less (other_first m a k e)) refl)

-- what a search by halving asks
pub entries_parted : (hs : List RoomyRow) → IsInOrder row_name hs → IsPartitionedBy (λ v. not (is_entry v.row.name)) hs
unfolding IsStrictlySortedBy
entries_parted [] order i j d before within other = absurd (omega arith)
entries_parted (x ∷ hs) order zero zero d before within other = other
entries_parted (x ∷ hs) order (suc i) zero d before within other = absurd (omega arith)
entries_parted (x ∷ hs) order zero (suc j) d before within other =
    front_other x.row.name (row_name (get_or hs j d)) (name_of row_name (λ (m : Name). name_cmp x.row.name m ≡ Less) hs j d (omega arith) order.0) other
entries_parted (x ∷ hs) order (suc i) (suc j) d before within other = entries_parted hs order.1 i j d (omega arith) (omega arith) other

not_true : (b : Bool) → not b ≡ true → b ≡ false
not_true true h = absurd (true≢false (sym h))
not_true false h = refl

not_false : (b : Bool) → not b ≡ false → b ≡ true
not_false true h = refl
not_false false h = absurd (true≢false h)

-- the entries are those from that place on
pub entries_behind : (hs : List RoomyRow) (k : ℕ) → k ≤ length hs → IsPartitionPoint (λ v. not (is_entry v.row.name) ≡ true) (λ v. not (is_entry v.row.name) ≡ false) hs k
    → drop k hs ≡ filter (λ v. is_entry v.row.name) hs
entries_behind [] zero long p = refl
entries_behind [] (suc k) long p = absurd (omega arith)
entries_behind (x ∷ hs) zero long p =
    let test : is_entry x.row.name ≡ true = not_false _ (p.1 0 x (omega arith) (omega arith)) in
    let rest = entries_behind hs 0 (omega arith) (λ m d low high. absurd (omega arith), λ m d low high. p.1 (suc m) d (omega arith) (omega arith)) in
    rw test (ap (λ (l : List RoomyRow). x ∷ l) rest)
entries_behind (x ∷ hs) (suc k) long p =
    let test : is_entry x.row.name ≡ false = not_true _ (p.0 0 x (omega arith) (omega arith)) in
    let rest = entries_behind hs k (omega arith) (λ m d low high. p.0 (suc m) d (omega arith) (omega arith), λ m d low high. p.1 (suc m) d (omega arith) (omega arith)) in
    rw test rest

-- ---- looking among the entries alone

-- what passes a test is an entry
abbrev pub IsOfEntries : (Name → Bool) → Type 0
IsOfEntries test = (n : Name) → is_entry n ≡ false → test n ≡ false

find_kept : (test : Name → Bool) (hs : List RoomyRow) → IsOfEntries test → find (λ h. test h.row.name) (filter (λ h. is_entry h.row.name) hs) ≡ find (λ h. test h.row.name) hs
find_kept test [] only = refl
find_kept test (x ∷ hs) only = by (is_entry x.row.name) refl (find_kept test hs only)
  where
    by : (b : Bool) → is_entry x.row.name ≡ b → find (λ h. test h.row.name) (filter (λ h. is_entry h.row.name) hs) ≡ find (λ h. test h.row.name) hs
        → find (λ h. test h.row.name) (cond b (x ∷ filter (λ h. is_entry h.row.name) hs) (filter (λ h. is_entry h.row.name) hs)) ≡ find (λ h. test h.row.name) (x ∷ hs)
    by true is rest = ap (λ (o : Option RoomyRow). cond (test x.row.name) (Some x) o) rest
    by false is rest = rest ∙ sym (ap (λ (b : Bool). cond b (Some x) (find (λ h. test h.row.name) hs)) (only x.row.name is))

filter_kept : (test : Name → Bool) (hs : List RoomyRow) → IsOfEntries test → filter (λ h. test h.row.name) (filter (λ h. is_entry h.row.name) hs) ≡ filter (λ h. test h.row.name) hs
filter_kept test [] only = refl
filter_kept test (x ∷ hs) only = by (is_entry x.row.name) refl (filter_kept test hs only)
  where
    by : (b : Bool) → is_entry x.row.name ≡ b → filter (λ h. test h.row.name) (filter (λ h. is_entry h.row.name) hs) ≡ filter (λ h. test h.row.name) hs
        → filter (λ h. test h.row.name) (cond b (x ∷ filter (λ h. is_entry h.row.name) hs) (filter (λ h. is_entry h.row.name) hs)) ≡ filter (λ h. test h.row.name) (x ∷ hs)
    by true is rest = ap (λ (l : List RoomyRow). cond (test x.row.name) (x ∷ l) l) rest
    by false is rest = rest ∙ sym (ap (λ (b : Bool). cond b (x ∷ filter (λ h. test h.row.name) hs) (filter (λ h. test h.row.name) hs)) (only x.row.name is))

-- the first that passes among the entries is the first among all volumes, and so is the second
pub first_among : (test : Name → Bool) (k : RoomyTable) {hs : List RoomyRow} {o : Option RoomyRow} → IsOfEntries test → hs ≡ filter (λ v. is_entry v.row.name) k.rows
    → o ≡ find (λ h. test h.row.name) hs → o ≡ find (λ h. test h.row.name) k.rows
first_among test k only held found = found ∙ ap (find (λ (h : RoomyRow). test h.row.name)) held ∙ find_kept test k.rows only

pub second_among : (test : Name → Bool) (k : RoomyTable) {hs : List RoomyRow} {o : Option RoomyRow} → IsOfEntries test → hs ≡ filter (λ v. is_entry v.row.name) k.rows
    → o ≡ slice_get (filter (λ h. test h.row.name) hs) 1 → o ≡ slice_get (filter (λ h. test h.row.name) k.rows) 1
second_among test k only held found =
    found ∙ ap (λ (hs : List RoomyRow). slice_get (filter (λ (h : RoomyRow). test h.row.name) hs) 1) held
    ∙ ap (λ (hs : List RoomyRow). slice_get hs 1) (filter_kept test k.rows only)

-- both groups are of entries
pub making_entries : IsOfEntries is_making
making_entries Mgt h = refl
making_entries (Vhd u) h = refl
making_entries (Raw u) h = refl
making_entries (Old u) h = refl
making_entries (Cbt u) h = refl
making_entries (Clone d b t) h = absurd (true≢false h)
making_entries (Inflate i m) h = absurd (true≢false h)
making_entries (Coalesce c p) h = refl
making_entries (Relink c p) h = refl
making_entries (Leaf l p) h = refl

pub folding_entries : IsOfEntries is_folding
folding_entries Mgt h = refl
folding_entries (Vhd u) h = refl
folding_entries (Raw u) h = refl
folding_entries (Old u) h = refl
folding_entries (Cbt u) h = refl
folding_entries (Clone d b t) h = refl
folding_entries (Inflate i m) h = refl
folding_entries (Coalesce c p) h = absurd (true≢false h)
folding_entries (Relink c p) h = absurd (true≢false h)
folding_entries (Leaf l p) h = absurd (true≢false h)
