-- What was taken of memory before the folding of a leaf is given up is there behind it: free extents, spare rows and spare places.
use Rattle.std.proofs.Common.{◌≡◌, ℕ, ◌≤◌, Bool, true, false, cond, List, [], ◌∷◌, ◌++◌, length, Some, refl, sym, ap, ◌∙◌, subst, arith}
use Rattle.std.proofs.lemmas.Bool.{true≢false}
use Rattle.std.specs.List.{AllByRecursion, filter, range_with_len}
use Rattle.std.specs.Prelude.{not, take}
use Rattle.sm_base.specs.Kinds.{is_image}
use Rattle.sm_base.specs.declared.names.Name.{Name}
use Rattle.sm_base.specs.declared.names.Name.TheVariants.{Leaf, Vhd}
use Rattle.vg_meta.specs.Changes.{AreFree, HasRoom, without}
use Rattle.vg_meta.specs.Roomy.{places}
use Rattle.vg_meta.specs.Tables.{IsVolume, Row, VolumeTable, extents_in, free, is_one_of, name_eq, row_of}
use Rattle.vg_meta.specs.declared.changes.Change.{Change}
use Rattle.vg_meta.specs.declared.changes.Change.TheVariants.{Remove}
use Rattle.vg_meta.proofs.NameLaws.{name_eq-other}
use Rattle.vg_extents.specs.Fits.{AreLeastFree}
use Rattle.vg_volumes.specs.Stored.{Commits}
use Rattle.vg_volumes.specs.declared.stores.Store.{Ghosts}
use Rattle.sm_machine.specs.Commits.{folds}
use Rattle.sm_machine.specs.Shapes.{image_uuid}
use Rattle.sm_machine.specs.WellFormed.{is_image_name}
use Rattle.sm_standing.proofs.DisksShown.{row_of-In}
use Rattle.sm_ready.specs.Known.{entry_of}
use Rattle.sm_ready.specs.Sessions.{IsOrderlyStore}
use Rattle.sm_ready.specs.declared.memory.Memory.{Memory}
use Rattle.sm_ready.proofs.ChainLaws.{tab}
use Rattle.sm_ready.proofs.RowLaws.{All-In}
use Rattle.sm_ready.proofs.ShapeLaws.{no_extents, suits_as}
use Rattle.vg_meta.proofs.RowLaws.{row_of-name}
use Rattle.gc_abandon.proofs.EndingLaws.{entry_row, folding_of, leaf_folded}
use Rattle.sm_space.specs.Inflating.{IsGrowth}

-- a volume without extents goes
none_taken : (r : Row) → length r.extents ≡ 0 → r.extents ≡ []
none_taken r none = by r.extents none
  where
    by : (es : List ℕ) → length es ≡ 0 → es ≡ []
    by [] none = refl
    by (e ∷ es) none = absurd (omega (arith, none))

used_without : (rs : List Row) (e : Name) (r : Row) → row_of rs e ≡ Some r → r.extents ≡ [] → extents_in (without e rs) ≡ extents_in rs
unfolding without row_of
used_without [] e r at none = refl
used_without (s ∷ rs) e r at none = by (name_eq s.name e) (λ later. used_without rs e r later none) at
  where
    by : (b : Bool) → (row_of rs e ≡ Some r → extents_in (without e rs) ≡ extents_in rs) → cond b (Some s) (row_of rs e) ≡ Some r → extents_in (cond b rs (s ∷ without e rs)) ≡ extents_in (s ∷ rs)
    by true rest is = let same : s ≡ r = (let z = is in cc) in sym (ap (λ es. es ++ extents_in rs) (ap (λ (x : Row). x.extents) same ∙ none))
    by false rest is = ap (λ es. s.extents ++ es) (rest is)

-- from one moment of a store to the next
pub record KeepsRoom {S : Type 0} (g : Ghosts S) (a b : S) : Type 0 where
  pub taken : extents_in (tab g b).volumes ≡ extents_in (tab g a).volumes
  pub spare : (g.table a).spare ≤ (g.table b).spare
  pub spare_places : (n : Name) → is_image n ≡ true → places (g.table a) n ≤ places (g.table b) n

-- an entry goes
entry_goes : {S : Type 0} (g : Ghosts S) (a b : S) (m : Memory) (l p : List ℕ) → IsOrderlyStore g a m → entry_of m.operation ≡ Leaf l p ∷ [] → Commits g (Remove (Leaf l p)) a b → KeepsRoom g a b
unfolding is_image_name
entry_goes g a b m l p o is c =
    let w = entry_row (tab g a) (Leaf l p) (o.entries ∙ is) in
    let name : w.0.name ≡ Leaf l p = row_of-name (tab g a).volumes (Leaf l p) w.0 w.1 in
    let kind = (All-In IsVolume (tab g a).volumes w.0 o.table.volumes.each (row_of-In (tab g a).volumes (Leaf l p) w.0 w.1).0).kind in
    let none = no_extents w.0 (Leaf l p) (subst (λ n. suits_as w.0 n ≡ true) name kind) refl (λ other. let z = other in cc) refl (λ u other. let z = other in cc) in
    record {
      taken = ap (λ (t : VolumeTable). extents_in t.volumes) c.table ∙ used_without (tab g a).volumes (Leaf l p) w.0 w.1 (none_taken w.0 none);
      spare = let more = c.room.spare_rows in omega (arith, more);
      spare_places = λ n image. subst (λ (f : Bool). cond f 0 (places (g.table a) n) ≤ places (g.table b) n)
          (name_eq-other n (Leaf l p) (λ same. true≢false (sym image ∙ ap is_image same))) (c.room.spare_extents n);
    }

-- the folding is given up, or nothing is done
pub keeps_room : {S : Type 0} (g : Ghosts S) (a b : S) (m : Memory) (u : List ℕ) → IsOrderlyStore g a m → (folds m.operation u ≡ false → b ≡ a)
    → (folds m.operation u ≡ true → (e : Name) → entry_of m.operation ≡ e ∷ [] → Commits g (Remove e) a b) → KeepsRoom g a b
keeps_room g a b m u o none gone = by (folds m.operation u) refl
  where
    by : (f : Bool) → folds m.operation u ≡ f → KeepsRoom g a b
    by false is = subst (λ x. KeepsRoom g a x) (sym (none is)) (record { taken = refl; spare = omega arith; spare_places = λ n image. omega arith })
    by true is =
        let w = leaf_folded m.operation (folding_of m.operation u is) in
        entry_goes g a b m (image_uuid w.0) (image_uuid w.1) o w.2 (gone is (Leaf (image_uuid w.0) (image_uuid w.1)) w.2)

module _ {S : Type 0} {g : Ghosts S} {a b : S} (k : KeepsRoom g a b) where
  free_kept : (count : ℕ) → free count (tab g b) ≡ free count (tab g a)
  unfolding free
  free_kept count = ap (λ us. filter (λ e. not (is_one_of us e)) (range_with_len 0 count)) k.taken

  pub least_kept : (count need : ℕ) (es : List ℕ) → AreLeastFree count need (tab g a) es → AreLeastFree count need (tab g b) es
  least_kept count need es h = record { least = h.least ∙ ap (λ fs. take need fs) (sym (free_kept count)); many = h.many }

  pub are_free_kept : (count : ℕ) (es : List ℕ) → AreFree count (tab g a).volumes es → AreFree count (tab g b).volumes es
  are_free_kept count es h = record { below = h.below; unused = subst (λ us. AllByRecursion (λ e. is_one_of us e ≡ false) es) (sym k.taken) h.unused; distinct = h.distinct }

  pub growth_kept : (count : ℕ) (n : Name) (more : ℕ) (growth : Change) → IsGrowth count (tab g a) n more growth → IsGrowth count (tab g b) n more growth
  growth_kept count n more growth h =
      record { extents = h.extents; is = h.is; least = least_kept count more h.extents h.least; extents_free = are_free_kept count h.extents h.extents_free }

  pub places_kept : {count : ℕ} {u : List ℕ} {more : ℕ} {growth : Change} → IsGrowth count (tab g a) (Vhd u) more growth → HasRoom (g.table a) growth → HasRoom (g.table b) growth
  places_kept {u = u} h room =
      let had : length h.extents ≤ places (g.table a) (Vhd u) = subst (HasRoom (g.table a)) h.is room in
      let has : length h.extents ≤ places (g.table b) (Vhd u) = let kept = k.spare_places (Vhd u) refl in omega (arith, had, kept) in
      subst (HasRoom (g.table b)) (sym h.is) has
