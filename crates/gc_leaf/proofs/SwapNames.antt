-- The names of a table's volumes where one gets another name, or goes: which of them pass a test, and how many.
use Rattle.std.proofs.Common.{◌≡◌, suc, Bool, true, false, cond, List, [], ◌∷◌, filter, length, Option, Some, refl, sym, ap, ◌∙◌}
use Rattle.std.specs.Ordering.{is_lt}
use Rattle.sm_base.specs.Kinds.{is_entry, is_image}
use Rattle.sm_base.specs.Names.{name_cmp}
use Rattle.sm_base.specs.declared.names.Name.{Name}
use Rattle.sm_base.specs.declared.names.Name.TheVariants.{Mgt, Vhd, Raw, Old, Cbt, Clone, Inflate, Coalesce, Relink, Leaf}
use Rattle.vg_meta.specs.Tables.{Row, VolumeTable, name_eq, names_of, row_of, rows}
use Rattle.vg_meta.specs.Changes.{applied, put, put_some, renamed, without}
use Rattle.vg_meta.specs.declared.changes.Change.TheVariants.{Rename}
use Rattle.vg_meta.proofs.NameLaws.{name_eq-true}
use Rattle.sm_standing.specs.Checks.{images as table_images}
use Rattle.sm_standing.specs.Entries.{is_folding, is_making, names_in}
use Rattle.gc_abandon.proofs.EntryLaws.{counted}
use Rattle.sm_space.proofs.TableLaws.{named_put}
use Rattle.sm_ready.proofs.RemoveLaws.{names_without}

-- a volume more, whose name does not pass
names_beside : (test : Name → Bool) (r : Row) (rs : List Row) → test r.name ≡ false → filter test (names_of (put r rs)) ≡ filter test (names_of rs)
unfolding put
names_beside test r [] none = ap (λ b. cond b (r.name ∷ []) []) none
names_beside test r (s ∷ rs) none = by (is_lt (name_cmp r.name s.name)) (names_beside test r rs none)
  where
    by : (b : Bool) → filter test (names_of (put r rs)) ≡ filter test (names_of rs) → filter test (names_of (cond b (r ∷ s ∷ rs) (s ∷ put r rs))) ≡ filter test (names_of (s ∷ rs))
    by true rest = ap (λ c. cond c (r.name ∷ filter test (names_of (s ∷ rs))) (filter test (names_of (s ∷ rs)))) none
    by false rest = ap (λ ns. cond (test s.name) (s.name ∷ ns) ns) rest

-- one less, whose name passes
names_less : (test : Name → Bool) (n : Name) (r : Row) (rs : List Row) → test n ≡ true → row_of rs n ≡ Some r
    → suc (length (filter test (names_of (without n rs)))) ≡ length (filter test (names_of rs))
unfolding without row_of
names_less test n r [] is there = absurd (let x = there in cc)
names_less test n r (s ∷ rs) is there = by (λ h. names_less test n r rs is h) (name_eq s.name n) refl there
  where
    alike : (c : Bool) (ms ns : List Name) → suc (length ms) ≡ length ns → suc (length (cond c (s.name ∷ ms) ms)) ≡ length (cond c (s.name ∷ ns) ns)
    alike true ms ns h = ap suc h
    alike false ms ns h = h

    by : (row_of rs n ≡ Some r → suc (length (filter test (names_of (without n rs)))) ≡ length (filter test (names_of rs))) → (b : Bool) → name_eq s.name n ≡ b → cond b (Some s) (row_of rs n) ≡ Some r
        → suc (length (filter test (names_of (cond b rs (s ∷ without n rs))))) ≡ length (filter test (names_of (s ∷ rs)))
    by rest true same h = sym (ap (λ c. length (cond c (s.name ∷ filter test (names_of rs)) (filter test (names_of rs)))) (ap test (name_eq-true s.name n same) ∙ is))
    by rest false other h = alike (test s.name) (filter test (names_of (without n rs))) (filter test (names_of rs)) (rest h)

module _ (t : VolumeTable) (from to : Name) (r : Row) (there : rows t from ≡ Some r) where
  -- an image gets another name: the entries are the same, and as many images
  pub entries_renamed : is_entry from ≡ false → is_entry to ≡ false → names_in (applied t (Rename from to)) is_entry ≡ names_in t is_entry
  entries_renamed was now =
      ap (λ (o : Option Row). filter is_entry (names_of (put_some o (renamed to) (without from t.volumes)))) there
      ∙ names_beside is_entry (renamed to r) (without from t.volumes) now
      ∙ names_without t.volumes from was

  pub images_renamed : is_image from ≡ true → is_image to ≡ true → length (table_images (applied t (Rename from to))) ≡ length (table_images t)
  images_renamed was now =
      counted is_image (applied t (Rename from to)).volumes
      ∙ ap (λ (o : Option Row). length (filter is_image (names_of (put_some o (renamed to) (without from t.volumes))))) there
      ∙ named_put is_image (renamed to r) (without from t.volumes)
      ∙ ap (λ b. length (cond b (to ∷ filter is_image (names_of (without from t.volumes))) (filter is_image (names_of (without from t.volumes))))) now
      ∙ names_less is_image from r t.volumes was there
      ∙ sym (counted is_image t.volumes)

-- the entries of a group are entries
group_step : (n : Name) (ns ms : List Name) → filter is_folding ns ≡ filter is_folding ms → filter is_folding (n ∷ ns) ≡ filter is_folding (cond (is_entry n) (n ∷ ms) ms)
group_step Mgt ns ms h = h
group_step (Vhd u) ns ms h = h
group_step (Raw u) ns ms h = h
group_step (Old u) ns ms h = h
group_step (Cbt u) ns ms h = h
group_step (Clone d b w) ns ms h = h
group_step (Inflate u k) ns ms h = h
group_step (Coalesce v p) ns ms h = ap (λ xs. Coalesce v p ∷ xs) h
group_step (Relink v p) ns ms h = ap (λ xs. Relink v p ∷ xs) h
group_step (Leaf l p) ns ms h = ap (λ xs. Leaf l p ∷ xs) h

making_step : (n : Name) (ns ms : List Name) → filter is_making ns ≡ filter is_making ms → filter is_making (n ∷ ns) ≡ filter is_making (cond (is_entry n) (n ∷ ms) ms)
making_step Mgt ns ms h = h
making_step (Vhd u) ns ms h = h
making_step (Raw u) ns ms h = h
making_step (Old u) ns ms h = h
making_step (Cbt u) ns ms h = h
making_step (Clone d b w) ns ms h = ap (λ xs. Clone d b w ∷ xs) h
making_step (Inflate u k) ns ms h = ap (λ xs. Inflate u k ∷ xs) h
making_step (Coalesce v p) ns ms h = h
making_step (Relink v p) ns ms h = h
making_step (Leaf l p) ns ms h = h

pub folding_among : (ns : List Name) → filter is_folding ns ≡ filter is_folding (filter is_entry ns)
folding_among [] = refl
folding_among (n ∷ ns) = group_step n ns (filter is_entry ns) (folding_among ns)

pub making_among : (ns : List Name) → filter is_making ns ≡ filter is_making (filter is_entry ns)
making_among [] = refl
making_among (n ∷ ns) = making_step n ns (filter is_entry ns) (making_among ns)
