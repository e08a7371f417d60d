-- What the calls of the store ask and promise.
use Rattle.std.proofs.Common.{◌≡◌, ℕ, ◌+◌, ◌*◌, ◌<◌, ◌≤◌, ◌⊎◌, inl, inr, List, [], length, Some, refl, sym, ap, ap₂, subst, ◌∙◌, arith}
use Rattle.std.specs.Prelude.{slice_index, slice_get}
use Rattle.std.proofs.lemmas.Option.{slice_get-get_or}
use Rattle.std.proofs.Math.Nat.{mul-le-mul_right}
use Rattle.sm_base.specs.Limits.{extent_limit}
use Rattle.sm_base.specs.declared.names.Name.{Name}
use Rattle.vg_meta.specs.Tables.{Row, VolumeTable, IsTable, new_table, IsSpread, rows, extents_of}
use Rattle.vg_meta.specs.Roomy.{RoomyTable, table_alone}
use Rattle.vg_meta.proofs.ByName.{spread}
use Rattle.vg_volumes.specs.Sites.{Site, area_size}
use Rattle.vg_volumes.specs.Commits.{IsEither}
use Rattle.vg_meta.specs.declared.changes.Change.{Change}
use Rattle.vg_meta.specs.Changes.{applied}
use Rattle.sm_disk.specs.Held.{Allows, Keeps, IsSettled}
use Rattle.sm_disk.proofs.HeldLaws.{Allows-keeps, allows_settled}
use Rattle.vg_memory.specs.declared.memory.Course.{Course}
use Rattle.vg_layout.specs.Places.{record_extents}
use Rattle.uuid.specs.Parts.{zero_bytes}
use Rattle.sm_base.specs.declared.sizes.Geometry.{Geometry}
use Rattle.sm_disk.specs.Sectors.{zeros}
use Rattle.sm_disk.specs.Failing.{fails}
use Rattle.sm_disk.specs.Memory.{Memory, held_by, new_memory, slot_at}
use Rattle.vg_meta.proofs.RangeLaws.{IsTable-new}
use Rattle.vg_memory.specs.declared.memory.Course.TheVariants.{Sound, Undecided}
use Rattle.vg_memory.specs.Stores.{StoreInMemory, IsNewStore, HoldsGroup, IsQuiet, LeavesMemory, MayMake, area_of}
use Rattle.vg_volumes.specs.Volumes.{AreIn}

-- the extents of a volume of a table stand in an area that has all extents
pub extents_in_area : (size count x : ℕ) (t : VolumeTable) (n : Name) (r : Row) (es : List ℕ) → IsTable count t → size ≡ count * x
    → rows t n ≡ Some r → es ≡ r.extents → AreIn size x es
extents_in_area size count x t n r es table fits there is = subst (AreIn size x) (ap extents_of there ∙ sym is) (record {
  within = λ i below. within i (s.below n i (slice_index own i) (found i below));
  once = λ i j i_below j_below same. s.same_place n i j (slice_index own i) (found i i_below) (found j j_below ∙ ap Some (sym same));
})
  where
    own : List ℕ
    own = extents_of (rows t n)

    s : IsSpread count (rows t)
    s = spread count t table

    found : (i : ℕ) → i < length own → slice_get own i ≡ Some (slice_index own i)
    found i below = slice_get-get_or own i 0 below

    within : (i : ℕ) → slice_index own i < count → (slice_index own i + 1) * x ≤ size
    within i low =
        let most : slice_index own i + 1 ≤ count = omega arith in
        omega (arith, fits, mul-le-mul_right x most)

-- ---- a new store

same_memory : {m n : Memory} (P : Memory → Type 0) → m ≡ n → P n → P m
same_memory P same is = subst P (sym same) is

-- a device that was never written fails no call
new_quiet : (sectors : ℕ) → IsQuiet (new_memory sectors).orders
unfolding fails
new_quiet sectors = λ k. refl

pub kept_new : (extent count r : ℕ) (table : RoomyTable) (area : Memory) → count ≤ extent_limit → r ≤ count → table_alone table ≡ new_table r → area ≡ new_memory (count * extent)
    → HoldsGroup extent count table area
kept_new extent count r table area few fits is blank = record {
  few = few;
  sectors = ap (λ (m : Memory). m.sectors) blank;
  spread = subst (λ (t : VolumeTable). IsTable count t) (sym is) (IsTable-new count r fits);
  quiet = same_memory (λ m. IsQuiet m.orders) blank (new_quiet (count * extent));
}

pub new_store : (g : Geometry) (count sectors : ℕ) (id : List ℕ) (table : RoomyTable) (area calls : Memory) → id ≡ zero_bytes → table_alone table ≡ new_table (record_extents g.extent)
    → area ≡ new_memory sectors → calls ≡ new_memory 0
    → IsNewStore g count (record { site = record { geometry = g; count = count; layout = 0; identity = id; sectors = count * g.extent }; table = table; slots = area.slots; course = Sound; orders = calls.orders; faults = calls.faults + area.faults; short = area.short })
unfolding slot_at
new_store g count sectors id table area calls nil is blank none = record {
  geometry = refl;
  count_is = refl;
  identity = nil;
  table = is;
  blank = λ p. same_memory (λ m. (held_by m.slots).floor p ≡ zeros) blank refl;
  settled = λ p. same_memory (λ m. (held_by m.slots).pending p ≡ []) blank refl;
  sound = refl;
  orders = ap (λ (m : Memory). m.orders) none;
  faults = ap₂ (λ (m n : Memory). m.faults + n.faults) none blank;
}

-- ---- what is always true stays true

-- after a call of the area
pub kept_area : {extent count : ℕ} {table : RoomyTable} {old new : Memory} → HoldsGroup extent count table old → new.sectors ≡ old.sectors → IsQuiet new.orders
    → HoldsGroup extent count table new
kept_area k size quiet = record { few = k.few; sectors = size ∙ k.sectors; spread = k.spread; quiet = quiet }

-- and after a change of the table
pub kept_table : {extent count : ℕ} {old new : RoomyTable} {area : Memory} → HoldsGroup extent count old area → IsTable count (table_alone new) → HoldsGroup extent count new area
kept_table k spread = record { few = k.few; sectors = k.sectors; spread = spread; quiet = k.quiet }

-- ---- what a stop may leave

-- where the table and the course are as before, and the area keeps what it may show, nothing new
pub leaves_still : {old new : StoreInMemory} → new.site ≡ old.site → new.table ≡ old.table → new.course ≡ old.course → Keeps (area_of old) (area_of new)
    → (t : VolumeTable) (image : ℕ → List ℕ) → LeavesMemory new t image → LeavesMemory old t image
leaves_still {old} {new} site table course keeps t image left = record {
  table_is =
      let P : Course → Type 0 = λ c. (t ≡ table_alone old.table) ⊎ MayMake c (table_alone old.table) t in
      let Q : RoomyTable → Type 0 = λ k. (t ≡ table_alone k) ⊎ MayMake new.course (table_alone k) t in
      subst P course (subst Q table left.table_is);
  sectors =
      let R : Site → Type 0 = λ s. Allows (area_size s) (area_of new) image in Allows-keeps (area_size old.site) image keeps (subst R site left.sectors);
}

-- a commit that stops at its second call leaves either table, since nothing is pending
pub leaves_undecided : (old new : StoreInMemory) (change : Change) → new.site ≡ old.site → table_alone new.table ≡ table_alone old.table → new.course ≡ Undecided change → Keeps (area_of old) (area_of new)
    → IsSettled (area_of new) → (t : VolumeTable) (image : ℕ → List ℕ) → LeavesMemory new t image
    → IsEither (area_size old.site) (table_alone old.table) (applied (table_alone old.table) change) (area_of old) t image
leaves_undecided old new change site table course keeps settled t image left =
    let P : Course → Type 0 = λ c. (t ≡ table_alone new.table) ⊎ MayMake c (table_alone new.table) t in by (subst P course left.table_is)
  where
    sectors : Allows (area_size old.site) (area_of new) image
    sectors = let R : Site → Type 0 = λ s. Allows (area_size s) (area_of new) image in subst R site left.sectors

    by : (t ≡ table_alone new.table) ⊎ (t ≡ applied (table_alone new.table) change)
        → IsEither (area_size old.site) (table_alone old.table) (applied (table_alone old.table) change) (area_of old) t image
    by (inl same) = inl (record { table_is = same ∙ table; sectors = Allows-keeps (area_size old.site) image keeps sectors })
    by (inr made) = inr (record {
      table_is = made ∙ ap (λ (u : VolumeTable). applied u change) table;
      sectors = λ p below. allows_settled (area_size old.site) (area_of new) image settled sectors p below ∙ keeps.reads p;
    })
