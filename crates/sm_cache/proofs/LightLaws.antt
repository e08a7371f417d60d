-- A change that is light leaves the extents of each volume, so entries stay true.
use Rattle.std.proofs.Common.{◌≡◌, ◌≢◌, ◌⊎◌, inl, inr, ⊎_elim, ℕ, Bool, true, false, not, ◌&&◌, ◌||◌, ◌==◌, List, [], ◌∷◌, length, Some, sym, ap, subst, subst₂, ◌∙◌, arith, refl}
use Rattle.std.specs.Prelude.{if◌then◌else◌, nat_lt}
use Rattle.std.proofs.lemmas.Bool.{and_parts, eqb-true, true≢false}
use Rattle.sm_base.specs.Kinds.{is_entry, is_log}
use Rattle.sm_base.specs.declared.names.Name.{Name}
use Rattle.sm_base.proofs.KindLaws.{entry-no_image, entry-no_log}
use Rattle.sm_disk.specs.Held.{Held, Keeps, reads}
use Rattle.vg_meta.specs.Changes.{Changes, Permits, applied, made, tagged}
use Rattle.vg_meta.specs.Tables.{VolumeTable, Row, IsTable, IsVolume, rows, extents_of, name_eq}
use Rattle.vg_meta.specs.declared.changes.Change.{Change}
use Rattle.vg_meta.specs.declared.changes.Change.TheVariants.{Create, Remove, Rename, Grow, Cut, Mark}
use Rattle.vg_meta.specs.declared.changes.Tag.{Tag}
use Rattle.vg_meta.specs.declared.changes.Tag.TheVariants.{Hidden, Fresh}
use Rattle.vg_meta.proofs.ByName.{changes_by_name}
use Rattle.vg_meta.proofs.RowLaws.{All-row_of, row_of-name}
use Rattle.vg_meta.proofs.NameLaws.{name_eq-true, name_eq-false}
use Rattle.vg_volumes.specs.Sites.{Site}
use Rattle.vg_volumes.specs.Volumes.{volume}
use Rattle.sm_cache.specs.Kept.{AreTrue, Entries}
use Rattle.sm_cache.specs.Light.{is_light}
use Rattle.sm_cache.proofs.TrueLaws.{reads_kept}

-- a journal entry has no extents
bare : (r : Row) → IsVolume r → is_entry r.name ≡ true → r.extents ≡ []
bare r v entry = none r.extents (eqb-true (length r.extents) 0 (subst (λ b. (not b || (length r.extents == 0)) ≡ true) entry marks.1.1))
  where
    none : (es : List ℕ) → length es ≡ 0 → es ≡ []
    none [] h = refl
    none (e ∷ es) h = absurd (omega (arith, h))

    marks : (not r.hidden ≡ true) × ((not r.fresh ≡ true) × ((not (is_entry r.name) || (length r.extents == 0)) ≡ true))
    marks =
        let h = subst₂ (λ b l. (if b then nat_lt 0 (length r.extents) else if l then not r.hidden && nat_lt 0 (length r.extents) else not r.hidden && (not r.fresh && (not (is_entry r.name) || (length r.extents == 0)))) ≡ true)
        (entry-no_image r.name entry) (entry-no_log r.name entry) v.kind in
        let a = and_parts (not r.hidden) (not r.fresh && (not (is_entry r.name) || (length r.extents == 0))) h in
        (a.0, and_parts (not r.fresh) (not (is_entry r.name) || (length r.extents == 0)) a.1)

bare_there : (count : ℕ) (t : VolumeTable) (n : Name) (r : Row) → IsTable count t → is_entry n ≡ true → rows t n ≡ Some r → r.extents ≡ []
bare_there count t n r table entry there =
    bare r (All-row_of IsVolume t.volumes n r table.volumes.each there) (ap is_entry (row_of-name t.volumes n r there) ∙ entry)

-- the same or another name
here_or : (m n : Name) → (m ≡ n) ⊎ (m ≢ n)
here_or m n = by (name_eq m n) refl
  where
    by : (y : Bool) → name_eq m n ≡ y → (m ≡ n) ⊎ (m ≢ n)
    by true h = inl (name_eq-true m n h)
    by false h = inr (name_eq-false m n h)

-- what holds at a name that a change speaks of, and at each other, holds
abbrev Stays : VolumeTable → Change → Name → Type 0
Stays t change m = extents_of (rows (applied t change) m) ≡ extents_of (rows t m)

at_name : (t : VolumeTable) (change : Change) (n m : Name) → m ≡ n → Stays t change n → Stays t change m
at_name t change n m is here = subst (Stays t change) (sym is) here

pub extents_stay : (count : ℕ) (t : VolumeTable) (change : Change) → IsTable count t → Permits count t change → is_light change ≡ true → (m : Name) → Stays t change m
extents_stay count t (Create n fresh es) table may light m = by (here_or m n)
  where
    change : Change
    change = Create n fresh es

    c : Changes count change (rows t) (rows (applied t change))
    c = changes_by_name count t change table may

    by : (m ≡ n) ⊎ (m ≢ n) → Stays t change m
    by (inl is) = at_name t change n m is
        (ap extents_of c.does.1 ∙ bare (made n fresh es) (record { name = may.name_proper; kind = may.kind }) light ∙ sym (ap extents_of c.does.0))
    by (inr other) = ap extents_of (c.others m other)
extents_stay count t (Remove n) table may light m = by (here_or m n)
  where
    c : Changes count (Remove n) (rows t) (rows (applied t (Remove n)))
    c = changes_by_name count t (Remove n) table may

    by : (m ≡ n) ⊎ (m ≢ n) → Stays t (Remove n) m
    by (inl is) = at_name t (Remove n) n m is (ap extents_of c.does.2 ∙ sym (ap extents_of c.does.1 ∙ bare_there count t n c.does.0 table light c.does.1))
    by (inr other) = ap extents_of (c.others m other)
extents_stay count t (Rename n o) table may light m = by (here_or m n) (here_or m o)
  where
    c : Changes count (Rename n o) (rows t) (rows (applied t (Rename n o)))
    c = changes_by_name count t (Rename n o) table may

    none : c.does.0.extents ≡ []
    none = bare_there count t n c.does.0 table (and_parts (is_entry n) (is_entry o) light).0 c.does.1

    by : (m ≡ n) ⊎ (m ≢ n) → (m ≡ o) ⊎ (m ≢ o) → Stays t (Rename n o) m
    by (inl is) _ = at_name t (Rename n o) n m is (ap extents_of c.does.3 ∙ sym (ap extents_of c.does.1 ∙ none))
    by (inr other) (inl is) = at_name t (Rename n o) o m is (ap extents_of c.does.4 ∙ none ∙ sym (ap extents_of c.does.2))
    by (inr other) (inr apart) = ap extents_of (c.others m (λ speaks. ⊎_elim other apart speaks))
extents_stay count t (Grow n es) table may light m = absurd (true≢false (sym light))
extents_stay count t (Cut n keep) table may light m = absurd (true≢false (sym light))
extents_stay count t (Mark n tag on) table may light m = by (here_or m n)
  where
    c : Changes count (Mark n tag on) (rows t) (rows (applied t (Mark n tag on)))
    c = changes_by_name count t (Mark n tag on) table may

    same : (g : Tag) (y : Bool) (r : Row) → (tagged g y r).extents ≡ r.extents
    same Hidden y r = refl
    same Fresh y r = refl

    by : (m ≡ n) ⊎ (m ≢ n) → Stays t (Mark n tag on) m
    by (inl is) = at_name t (Mark n tag on) n m is (ap extents_of c.does.2 ∙ same tag on c.does.0 ∙ sym (ap extents_of c.does.1))
    by (inr other) = ap extents_of (c.others m other)

-- entries stay true over a commit that leaves the extents
pub true_commit : (s : Site) (t u : VolumeTable) (a b : Held) (es : Entries) → ((m : Name) → extents_of (rows u m) ≡ extents_of (rows t m)) → Keeps a b → AreTrue s t a es → AreTrue s u b es
true_commit s t u a b es same kept was = record {
  each = λ k v there. ap (λ xs. reads (volume s.geometry.extent xs b) k.at) (same k.volume) ∙ reads_kept s t kept k ∙ was.each k v there;
}
