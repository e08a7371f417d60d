-- Tables by name: what a change does, that extents are spread, and wider counts. Upper crates cite these.
use Rattle.std.proofs.Common.{◌≡◌, ◌≢◌, ℕ, ◌<◌, ◌≤◌, true, false, List, None, refl, sym, ap, ◌∙◌, arith, inl, inr}
use Rattle.std.specs.Prelude.{◌⊎◌}
use Rattle.std.specs.List.{AllByRecursion}
use Rattle.std.proofs.lemmas.Bool.{true≢false, cases_Bool}
use Rattle.sm_base.specs.declared.names.Name.{Name}
use Rattle.sm_base.specs.declared.names.Name.TheVariants.{Mgt}
use Rattle.vg_meta.specs.declared.changes.Change.{Change}
use Rattle.vg_meta.specs.declared.changes.Change.TheVariants.{Create, Remove, Rename, Grow, Cut, Mark}
use Rattle.sm_base.specs.Kinds.{is_image, is_entry}
use Rattle.vg_meta.specs.Tables.{Row, VolumeTable, rows, row_of, used, name_eq, is_one_of, extents_of, extents_in, AreVolumes, IsTable, IsSpread}
use Rattle.vg_meta.specs.declared.changes.Tag.TheVariants.{Hidden, Fresh}
use Rattle.vg_meta.specs.Changes.{without, put_some, applied, made, grown, cut_to, renamed, tagged, AreFree, AreUnused, Permits, takes_tag, AllowsRename, Changes, SpeaksOf}
use Rattle.vg_meta.proofs.NameLaws.{name_eq-true, name_eq-false}
use Rattle.vg_meta.proofs.RowLaws.{row_of-put_same, row_of-put_other, row_of-without_other, row_of-with_row_same, row_of-with_row_other, row_of-without_same}
use Rattle.vg_meta.proofs.ExtentLaws.{times, unused-times, times-unused, times-row, times-two_rows, slice_get-times, one_place, All-weaken, Once}
use Rattle.vg_meta.proofs.ChangeLaws.{once_from, tagged_name}

-- ---- what a change does

unused_by_name : (count : ℕ) (t : VolumeTable) (es : List ℕ) → AreFree count t.volumes es → AreUnused count (rows t) es
unused_by_name count t es f = record {
  below = f.below;
  unused = λ n. All-weaken (λ (e : ℕ). is_one_of (used t) e ≡ false) (λ (e : ℕ). is_one_of (extents_of (rows t n)) e ≡ false) es
      (λ e none. times-unused e (extents_of (rows t n)) (omega (arith, times-row e t.volumes n, unused-times e (used t) none))) f.unused;
  distinct = f.distinct;
}

renames : (count : ℕ) (t : VolumeTable) (from to : Name) → AreVolumes count t.volumes → AllowsRename t.volumes from to
    → Changes count (Rename from to) (rows t) (row_of (put_some (rows t from) (renamed to) (without from t.volumes)))
renames count t from to v a =
    let rs = t.volumes in
    let r = a.row in
    let other : from ≢ to = λ e. let k : row_of rs from ≡ row_of rs to = ap (row_of rs) e in let l = a.there in let m = a.new_name in absurd cc in
    let none : row_of (without from rs) to ≡ None = row_of-without_other rs from to other ∙ a.new_name in
    rw a.there (record {
      does = (
        r,
        a.there,
        a.new_name,
        row_of-put_other (without from rs) (renamed to r) from (λ e. other (sym e)) ∙ row_of-without_same rs from v.rising,
        row_of-put_same (without from rs) (renamed to r) none,
      );
      others = λ n away. row_of-put_other (without from rs) (renamed to r) n (λ e. away (inr (sym e)))
          ∙ row_of-without_other rs from n (λ e. away (inl (sym e)));
    })

-- a change of the list is that change by name
pub changes_by_name : (count : ℕ) (t : VolumeTable) (change : Change) → IsTable count t → Permits count t change
    → Changes count change (rows t) (rows (applied t change))
changes_by_name count t (Create name fresh es) h a = record {
  does = (a.new_name, row_of-put_same t.volumes (made name fresh es) a.new_name, unused_by_name count t es a.extents_free);
  others = λ n away. row_of-put_other t.volumes (made name fresh es) n (λ e. away (sym e));
}
changes_by_name count t (Remove name) h a = record {
  does = (a.row, a.there, row_of-without_same t.volumes name h.volumes.rising);
  others = λ n away. row_of-without_other t.volumes name n (λ e. away (sym e));
}
changes_by_name count t (Rename from to) h a = renames count t from to h.volumes a
changes_by_name count t (Grow name es) h a = record {
  does = (a.row, a.there, row_of-with_row_same t.volumes name (grown es) a.row (λ s. refl) a.there, unused_by_name count t es a.extents_free);
  others = λ n away. row_of-with_row_other t.volumes name n (grown es) (λ s. refl) (λ e. away (sym e));
}
changes_by_name count t (Cut name keep) h a = record {
  does = (a.row, a.there, row_of-with_row_same t.volumes name (cut_to keep) a.row (λ s. refl) a.there, a.some_gone);
  others = λ n away. row_of-with_row_other t.volumes name n (cut_to keep) (λ s. refl) (λ e. away (sym e));
}
changes_by_name count t (Mark name tag on) h a = record {
  does = (a.row, a.there, row_of-with_row_same t.volumes name (tagged tag on) a.row (tagged_name tag on) a.there);
  others = λ n away. row_of-with_row_other t.volumes name n (tagged tag on) (tagged_name tag on) (λ e. away (sym e));
}

-- no change speaks of the volume of the records
pub mgt_not_named : (count : ℕ) (t : VolumeTable) (change : Change) → Permits count t change → SpeaksOf change Mgt → ⊥
mgt_not_named count t (Create name fresh es) a e = a.not_mgt (sym e)
mgt_not_named count t (Remove name) a e = a.not_mgt (sym e)
mgt_not_named count t (Rename from to) a (inl e) = kind_of_mgt from a.same_kind e
  where
    kind_of_mgt : (n : Name) → ((is_image n ≡ true) × (is_image to ≡ true)) ⊎ ((is_entry n ≡ true) × (is_entry to ≡ true)) → Mgt ≡ n → ⊥
    kind_of_mgt n (inl p) e = true≢false (sym p.0 ∙ ap is_image (sym e))
    kind_of_mgt n (inr p) e = true≢false (sym p.0 ∙ ap is_entry (sym e))
mgt_not_named count t (Rename from to) a (inr e) = kind_of_mgt to a.same_kind e
  where
    kind_of_mgt : (n : Name) → ((is_image from ≡ true) × (is_image n ≡ true)) ⊎ ((is_entry from ≡ true) × (is_entry n ≡ true)) → Mgt ≡ n → ⊥
    kind_of_mgt n (inl p) e = true≢false (sym p.1 ∙ ap is_image (sym e))
    kind_of_mgt n (inr p) e = true≢false (sym p.1 ∙ ap is_entry (sym e))
mgt_not_named count t (Grow name es) a e = true≢false (sym a.image ∙ ap is_image (sym e))
mgt_not_named count t (Cut name keep) a e = true≢false (sym a.image ∙ ap is_image (sym e))
mgt_not_named count t (Mark name Hidden on) a e = true≢false (sym a.taking ∙ ap is_image (sym e))
mgt_not_named count t (Mark name Fresh on) a e = true≢false (sym a.taking ∙ ap (takes_tag Fresh) (sym e))

-- each change leaves it
pub mgt_stays : (count : ℕ) (t : VolumeTable) (change : Change) → IsTable count t → Permits count t change → rows (applied t change) Mgt ≡ rows t Mgt
mgt_stays count t change h a = (changes_by_name count t change h a).others Mgt (mgt_not_named count t change a)

-- ---- extents are spread

pub spread : (count : ℕ) (t : VolumeTable) → IsTable count t → IsSpread count (rows t)
spread count t h =
    let o = once_from count t.volumes h.volumes in
    record {
      below = λ n i e found. o.below e (omega (arith, slice_get-times e i (extents_of (rows t n)) found, times-row e t.volumes n));
      same_name = λ n m i j e at_n at_m. one_name o e n m (slice_get-times e i (extents_of (rows t n)) at_n) (slice_get-times e j (extents_of (rows t m)) at_m) (cases_Bool (name_eq n m));
      same_place = λ n i j e at_i at_j. one_place e i j (extents_of (rows t n)) (omega (arith, times-row e t.volumes n, o.once e)) at_i at_j;
    }
  where
    one_name : Once count (used t) → (e : ℕ) (n m : Name) → 0 < times e (extents_of (rows t n)) → 0 < times e (extents_of (rows t m))
        → (name_eq n m ≡ true) ⊎ (name_eq n m ≡ false) → n ≡ m
    one_name o e n m a b (inl is) = name_eq-true n m is
    one_name o e n m a b (inr isnt) = absurd (omega (arith, times-two_rows e t.volumes n m (name_eq-false n m isnt), o.once e))

-- ---- wider counts

wider_all : (count c : ℕ) (es : List ℕ) → count ≤ c → AllByRecursion (λ (e : ℕ). e < count) es → AllByRecursion (λ (e : ℕ). e < c) es
wider_all count c es wide all = All-weaken (λ (e : ℕ). e < count) (λ (e : ℕ). e < c) es (λ e low. omega arith) all

pub AreVolumes-wider : (count c : ℕ) (rs : List Row) → count ≤ c → AreVolumes count rs → AreVolumes c rs
AreVolumes-wider count c rs wide v = record { each = v.each; rising = v.rising; below = wider_all count c (extents_in rs) wide v.below; distinct = v.distinct }

pub IsTable-wider : (count c : ℕ) (t : VolumeTable) → count ≤ c → IsTable count t → IsTable c t
IsTable-wider count c t wide h = record { sequence = h.sequence; volumes = AreVolumes-wider count c t.volumes wide h.volumes }

pub AreFree-wider : (count c : ℕ) (rs : List Row) (es : List ℕ) → count ≤ c → AreFree count rs es → AreFree c rs es
AreFree-wider count c rs es wide f = record { below = wider_all count c es wide f.below; unused = f.unused; distinct = f.distinct }

pub Permits-wider : (count c : ℕ) (t : VolumeTable) (change : Change) → count ≤ c → Permits count t change → Permits c t change
Permits-wider count c t (Create name fresh es) wide a = record {
  name_proper = a.name_proper;
  new_name = a.new_name;
  not_mgt = a.not_mgt;
  kind = a.kind;
  extents_free = AreFree-wider count c t.volumes es wide a.extents_free;
}
Permits-wider count c t (Remove name) wide a = a
Permits-wider count c t (Rename from to) wide a = a
Permits-wider count c t (Grow name es) wide a = record {
  row = a.row;
  there = a.there;
  image = a.image;
  some_extents = a.some_extents;
  extents_free = AreFree-wider count c t.volumes es wide a.extents_free;
}
Permits-wider count c t (Cut name keep) wide a = a
Permits-wider count c t (Mark name tag on) wide a = a
