-- The tables of a fork, one after each of its commits, by the names that it speaks of: what each volume is, and which entries are there.
use Rattle.std.proofs.Common.{◌≡◌, ◌≢◌, inl, ⊎_elim, ℕ, ◌+◌, ◌^◌, ◌<◌, ◌≤◌, ◌==◌, Bool, true, false, cond, not, ◌&&◌, ◌||◌, nat_lt, List, [], ◌∷◌, ◌++◌, length, filter, Option, Some, None, refl, sym, ap, ◌∙◌, arith}
use Rattle.std.specs.List.{IsDistinct}
use Rattle.std.specs.Ordering.{is_lt}
use Rattle.std.proofs.lemmas.Bool.{true≢false, lt-ltb}
use Rattle.sm_base.specs.Kinds.{is_image, is_log, is_entry}
use Rattle.sm_base.specs.Names.{IsName, name_cmp}
use Rattle.sm_base.specs.declared.names.Name.{Name}
use Rattle.sm_base.specs.declared.names.Name.TheVariants.{Mgt}
use Rattle.sm_base.proofs.KindLaws.{image-no_entry, entry-no_log}
use Rattle.vg_meta.specs.Tables.{IsTable, Row, VolumeTable, extents_in, is_one_of, name_eq, names_of, row_of, rows, suits}
use Rattle.vg_meta.specs.Changes.{AreFree, Permits, applied, made, put, put_some, renamed, tagged, with_row, without}
use Rattle.vg_meta.specs.declared.changes.Change.TheVariants.{Create, Mark, Remove, Rename}
use Rattle.vg_meta.specs.declared.changes.Tag.TheVariants.{Fresh, Hidden}
use Rattle.vg_meta.proofs.ByName.{changes_by_name}
use Rattle.vg_meta.proofs.ChangeLaws.{IsTable-applied}
use Rattle.vg_meta.proofs.ExtentLaws.{distinct-times, times, times-append, times-distinct, times-put, times-unused, times-with_row, times-without, unused-times}
use Rattle.vg_meta.proofs.FreeLaws.{all_at, all_from}
use Rattle.vg_meta.proofs.NameLaws.{name_eq-false, name_eq-true}
use Rattle.vg_meta.proofs.RowLaws.{names_of-with_row, row_of-put_same, row_of-with_row_same, row_of-without_other}
use Rattle.sm_ready.proofs.EntryKinds.{image_not_folding, image_not_making}
use Rattle.sm_ready.proofs.RemoveLaws.{name_or_not}
use Rattle.sm_space.proofs.TableLaws.{named_put}
use Rattle.sm_standing.specs.Entries.{folding, is_folding, is_making, making, names_in}

-- ---- names that pass a test

none_front : (test : Name → Bool) (n : Name) (ns : List Name) → filter test (n ∷ ns) ≡ [] → (test n ≡ false) × (filter test ns ≡ [])
none_front test n ns none = by (test n) refl none
  where
    by : (b : Bool) → test n ≡ b → cond b (n ∷ filter test ns) (filter test ns) ≡ [] → (test n ≡ false) × (filter test ns ≡ [])
    by true is h = absurd (let x = h in cc)
    by false is h = (is, h)

-- a volume more, whose name does not pass it, and one whose name alone does
names_beside : (test : Name → Bool) (r : Row) (rs : List Row) → test r.name ≡ false → filter test (names_of (put r rs)) ≡ filter test (names_of rs)
unfolding put
names_beside test r [] none = ap (λ b. cond b (r.name ∷ []) []) none
names_beside test r (s ∷ rs) none = by (is_lt (name_cmp r.name s.name)) (names_beside test r rs none)
  where
    by : (b : Bool) → filter test (names_of (put r rs)) ≡ filter test (names_of rs) → filter test (names_of (cond b (r ∷ s ∷ rs) (s ∷ put r rs))) ≡ filter test (names_of (s ∷ rs))
    by true rest = ap (λ c. cond c (r.name ∷ filter test (names_of (s ∷ rs))) (filter test (names_of (s ∷ rs)))) none
    by false rest = ap (λ ns. cond (test s.name) (s.name ∷ ns) ns) rest

names_first : (test : Name → Bool) (r : Row) (rs : List Row) → test r.name ≡ true → filter test (names_of rs) ≡ [] → filter test (names_of (put r rs)) ≡ r.name ∷ []
unfolding put
names_first test r [] is none = ap (λ b. cond b (r.name ∷ []) []) is
names_first test r (s ∷ rs) is none = by (is_lt (name_cmp r.name s.name)) (names_first test r rs is (none_front test s.name (names_of rs) none).1)
  where
    by : (b : Bool) → filter test (names_of (put r rs)) ≡ r.name ∷ [] → filter test (names_of (cond b (r ∷ s ∷ rs) (s ∷ put r rs))) ≡ r.name ∷ []
    by true rest = ap (λ c. cond c (r.name ∷ filter test (names_of (s ∷ rs))) (filter test (names_of (s ∷ rs)))) is ∙ ap (λ ns. r.name ∷ ns) none
    by false rest = ap (λ c. cond c (s.name ∷ filter test (names_of (put r rs))) (filter test (names_of (put r rs)))) (none_front test s.name (names_of rs) none).0 ∙ rest

-- one more at most
names_more : (test : Name → Bool) (r : Row) (rs : List Row) → length (filter test (names_of (put r rs))) ≤ length (filter test (names_of rs)) + 1
names_more test r rs = by (test r.name) (named_put test r rs)
  where
    by : (b : Bool) → length (filter test (names_of (put r rs))) ≡ length (cond b (r.name ∷ filter test (names_of rs)) (filter test (names_of rs)))
        → length (filter test (names_of (put r rs))) ≤ length (filter test (names_of rs)) + 1
    by true h = omega (arith, h)
    by false h = omega (arith, h)

-- a volume less, whose name does not pass it, and one whose name alone does
names_gone : (test : Name → Bool) (n : Name) (rs : List Row) → test n ≡ false → filter test (names_of (without n rs)) ≡ filter test (names_of rs)
unfolding without
names_gone test n [] none = refl
names_gone test n (r ∷ rs) none = by (name_eq r.name n) refl (names_gone test n rs none)
  where
    by : (b : Bool) → name_eq r.name n ≡ b → filter test (names_of (without n rs)) ≡ filter test (names_of rs)
        → filter test (names_of (cond b rs (r ∷ without n rs))) ≡ filter test (names_of (r ∷ rs))
    by true is rest = sym (ap (λ b. cond b (r.name ∷ filter test (names_of rs)) (filter test (names_of rs))) (ap test (name_eq-true r.name n is) ∙ none))
    by false is rest = ap (λ ns. cond (test r.name) (r.name ∷ ns) ns) rest

names_last : (test : Name → Bool) (n : Name) (rs : List Row) → test n ≡ true → filter test (names_of rs) ≡ n ∷ [] → filter test (names_of (without n rs)) ≡ []
unfolding without
names_last test n [] is one = absurd (let x = one in cc)
names_last test n (r ∷ rs) is one = by (λ h. names_last test n rs is h) (name_eq r.name n) refl (test r.name) refl one
  where
    by : (filter test (names_of rs) ≡ n ∷ [] → filter test (names_of (without n rs)) ≡ []) → (b : Bool) → name_eq r.name n ≡ b → (c : Bool) → test r.name ≡ c
        → cond c (r.name ∷ filter test (names_of rs)) (filter test (names_of rs)) ≡ n ∷ [] → filter test (names_of (cond b rs (r ∷ without n rs))) ≡ []
    by rest true same true passes h = (let x = h in cc)
    by rest true same false passes h = absurd (true≢false (sym is ∙ ap test (sym (name_eq-true r.name n same)) ∙ passes))
    by rest false other true passes h = absurd (name_eq-false r.name n other (let x = h in cc))
    by rest false other false passes h = ap (λ c. cond c (r.name ∷ filter test (names_of (without n rs))) (filter test (names_of (without n rs)))) passes ∙ rest h

-- one less
names_less : (test : Name → Bool) (n : Name) (r : Row) (rs : List Row) → test n ≡ true → row_of rs n ≡ Some r → length (filter test (names_of (without n rs))) + 1 ≡ length (filter test (names_of rs))
unfolding without row_of
names_less test n r [] is there = absurd (let x = there in cc)
names_less test n r (s ∷ rs) is there = by (λ h. names_less test n r rs is h) (name_eq s.name n) refl there
  where
    alike : (c : Bool) (ms ns : List Name) → length ms + 1 ≡ length ns → length (cond c (s.name ∷ ms) ms) + 1 ≡ length (cond c (s.name ∷ ns) ns)
    alike true ms ns h = omega (arith, h)
    alike false ms ns h = h

    by : (row_of rs n ≡ Some r → length (filter test (names_of (without n rs))) + 1 ≡ length (filter test (names_of rs))) → (b : Bool) → name_eq s.name n ≡ b → cond b (Some s) (row_of rs n) ≡ Some r
        → length (filter test (names_of (cond b rs (s ∷ without n rs)))) + 1 ≡ length (filter test (names_of (s ∷ rs)))
    by rest true same h = omega (arith, ap (λ c. length (cond c (s.name ∷ filter test (names_of rs)) (filter test (names_of rs)))) (ap test (name_eq-true s.name n same) ∙ is))
    by rest false other h = alike (test s.name) (filter test (names_of (without n rs))) (filter test (names_of rs)) (rest h)

-- ---- before the first commit

-- a fork of the image o, which becomes the base b: the images l and w are made, while the entry e stands
pub record IsToFork (count : ℕ) (t : VolumeTable) (o b l w e : Name) (own twins : List ℕ) : Type 0 where
  pub table : IsTable count t
  pub unspent : t.sequence + 8 < 2 ^ 48
  pub row : Row
  pub there : rows t o ≡ Some row
  pub shown : row.hidden ≡ false
  pub no_base : rows t b ≡ None
  pub no_leaf : o ≢ l → rows t l ≡ None
  pub no_twin : rows t w ≡ None
  pub no_entry : rows t e ≡ None
  pub none_making : making t ≡ []
  pub own_image : is_image o ≡ true
  pub base_image : is_image b ≡ true
  pub leaf_image : is_image l ≡ true
  pub twin_image : is_image w ≡ true
  pub entry_no_image : is_image e ≡ false
  pub entry_is : is_entry e ≡ true
  pub entry_making : is_making e ≡ true
  pub entry_folding : is_folding e ≡ false
  pub base_proper : IsName b
  pub leaf_proper : IsName l
  pub twin_proper : IsName w
  pub entry_proper : IsName e
  pub base_leaf : b ≢ l
  pub base_twin : b ≢ w
  pub leaf_twin : l ≢ w
  pub extents_free : AreFree count t.volumes (own ++ twins)
  pub some_own : 0 < length own
  pub some_twin : 0 < length twins

-- ---- one of the tables

-- behind so many commits, with these volumes and these entries of a call; so many images are there more than before, and their
-- extents are taken
pub record IsStage (count : ℕ) (t : VolumeTable) (o b l w e : Name) (v : VolumeTable) (k more : ℕ) (own_row base_row leaf_row twin_row entry_row : Option Row) (ns : List Name) (taken : List ℕ) : Type 0 where
  pub table : IsTable count v
  pub number : v.sequence ≡ t.sequence + k
  pub own : o ≢ l → rows v o ≡ own_row
  pub base : rows v b ≡ base_row
  pub leaf : rows v l ≡ leaf_row
  pub twin : rows v w ≡ twin_row
  pub entry : rows v e ≡ entry_row
  pub others : (n : Name) → n ≢ o → n ≢ b → n ≢ l → n ≢ w → n ≢ e → rows v n ≡ rows t n
  pub making : making v ≡ ns
  pub folding : folding v ≡ folding t
  pub images : length (names_in v is_image) ≤ length (names_in t is_image) + more
  pub entries : length (names_in v is_entry) ≤ length (names_in t is_entry) + 1
  pub extents : (x : ℕ) → times x (extents_in v.volumes) ≡ times x (extents_in t.volumes) + times x taken

-- ---- each commit is allowed, and what it makes

module _ (count : ℕ) (t : VolumeTable) (o b l w e : Name) (own twins : List ℕ) (h : IsToFork count t o b l w e own twins) where
  abbrev pub table_1 : VolumeTable
  table_1 = applied t (Create e false [])

  abbrev pub table_2 : VolumeTable
  table_2 = applied table_1 (Rename o b)

  abbrev pub table_3 : VolumeTable
  table_3 = applied table_2 (Mark b Hidden true)

  abbrev pub table_4 : VolumeTable
  table_4 = applied table_3 (Create l true own)

  abbrev pub table_5 : VolumeTable
  table_5 = applied table_4 (Create w true twins)

  abbrev pub table_6 : VolumeTable
  table_6 = applied table_5 (Mark l Fresh false)

  abbrev pub table_7 : VolumeTable
  table_7 = applied table_6 (Mark w Fresh false)

  abbrev pub table_8 : VolumeTable
  table_8 = applied table_7 (Remove e)

  abbrev Stage : VolumeTable → ℕ → ℕ → Option Row → Option Row → Option Row → Option Row → Option Row → List Name → List ℕ → Type 0
  Stage = IsStage count t o b l w e

  -- the rows: the base's, shown and hidden; the two images', new and filled; the entry's
  abbrev pub moved_row : Row
  moved_row = renamed b h.row

  abbrev pub hidden_row : Row
  hidden_row = tagged Hidden true (renamed b h.row)

  abbrev pub entry_row : Row
  entry_row = made e false []

  abbrev pub leaf_row : Row
  leaf_row = made l true own

  abbrev pub twin_row : Row
  twin_row = made w true twins

  abbrev pub leaf_filled : Row
  leaf_filled = made l false own

  abbrev pub twin_filled : Row
  twin_filled = made w false twins

  -- ---- names apart

  unlike : (n : Name) → is_image n ≡ true → n ≢ e
  unlike n image is = true≢false (sym image ∙ ap is_image is ∙ h.entry_no_image)

  pub base_own : b ≢ o
  base_own is = (let x = sym h.no_base ∙ ap (rows t) is ∙ h.there in cc)

  pub own_twin : o ≢ w
  own_twin is = (let x = sym h.no_twin ∙ ap (rows t) (sym is) ∙ h.there in cc)

  not_mgt : (n : Name) → is_image n ≡ true → n ≢ Mgt
  not_mgt n image is = true≢false (sym image ∙ ap is_image is)

  -- ---- the entry

  pub may_1 : Permits count t (Create e false [])
  unfolding IsDistinct
  may_1 = record {
    name_proper = h.entry_proper;
    new_name = h.no_entry;
    not_mgt = λ is. true≢false (sym h.entry_is ∙ ap is_entry is);
    kind = rw (h.entry_no_image, entry-no_log e h.entry_is, h.entry_is) refl;
    extents_free = record { below = tt; unused = tt; distinct = tt };
  }

  pub stage_1 : Stage table_1 1 0 (rows t o) None (rows t l) None (Some entry_row) (e ∷ []) []
  unfolding times
  stage_1 = let c = changes_by_name count t (Create e false []) h.table may_1 in record {
    table = IsTable-applied count t (Create e false []) h.table may_1;
    number = omega (arith, h.unspent);
    own = λ other. c.others o (unlike o h.own_image);
    base = c.others b (unlike b h.base_image) ∙ h.no_base;
    leaf = c.others l (unlike l h.leaf_image);
    twin = c.others w (unlike w h.twin_image) ∙ h.no_twin;
    entry = c.does.1;
    others = λ n _ _ _ _ other. c.others n other;
    making = names_first is_making entry_row t.volumes h.entry_making h.none_making;
    folding = names_beside is_folding entry_row t.volumes h.entry_folding;
    images = omega (arith, ap (λ (ns : List Name). length ns) (names_beside is_image entry_row t.volumes h.entry_no_image));
    entries = names_more is_entry entry_row t.volumes;
    extents = λ x. omega (arith, times-put x t.volumes entry_row);
  }

  pub own_1 : rows table_1 o ≡ Some h.row
  own_1 = (changes_by_name count t (Create e false []) h.table may_1).others o (unlike o h.own_image) ∙ h.there

  -- ---- the base

  pub may_2 : Permits count table_1 (Rename o b)
  may_2 = record { row = h.row; there = own_1; name_proper = h.base_proper; new_name = stage_1.base; same_kind = inl (h.own_image, h.base_image) }

  moved_volumes : table_2.volumes ≡ put moved_row (without o table_1.volumes)
  moved_volumes = ap (λ x. put_some x (renamed b) (without o table_1.volumes)) own_1

  moved_names : (test : Name → Bool) → test b ≡ false → test o ≡ false → names_in table_2 test ≡ names_in table_1 test
  moved_names test first second =
      ap (λ vs. filter test (names_of vs)) moved_volumes
      ∙ names_beside test moved_row (without o table_1.volumes) first
      ∙ names_gone test o table_1.volumes second

  pub own_2 : rows table_2 o ≡ None
  own_2 = (changes_by_name count table_1 (Rename o b) stage_1.table may_2).does.3

  pub stage_2 : Stage table_2 2 0 None (Some moved_row) None None (Some entry_row) (e ∷ []) []
  unfolding times
  stage_2 = let c = changes_by_name count table_1 (Rename o b) stage_1.table may_2 in record {
    table = IsTable-applied count table_1 (Rename o b) stage_1.table may_2;
    number = omega (arith, h.unspent, stage_1.number);
    own = λ other. own_2;
    base = ap (λ vs. row_of vs b) moved_volumes ∙ row_of-put_same (without o table_1.volumes) moved_row (row_of-without_other table_1.volumes o b (λ is. base_own (sym is)) ∙ stage_1.base);
    leaf = ⊎_elim (λ is. ap (rows table_2) (sym is) ∙ own_2)
        (λ other. c.others l (⊎_elim (λ is. other (sym is)) (λ is. h.base_leaf (sym is))) ∙ stage_1.leaf ∙ h.no_leaf other) (name_or_not o l);
    twin = c.others w (⊎_elim (λ is. own_twin (sym is)) (λ is. h.base_twin (sym is))) ∙ stage_1.twin;
    entry = c.others e (⊎_elim (λ is. unlike o h.own_image (sym is)) (λ is. unlike b h.base_image (sym is))) ∙ stage_1.entry;
    others = λ n own base leaf twin entry. c.others n (⊎_elim own base) ∙ stage_1.others n own base leaf twin entry;
    making = moved_names is_making (image_not_making b h.base_image) (image_not_making o h.own_image) ∙ stage_1.making;
    folding = moved_names is_folding (image_not_folding b h.base_image) (image_not_folding o h.own_image) ∙ stage_1.folding;
    images = omega (
      arith,
      ap (λ vs. length (filter is_image (names_of vs))) moved_volumes,
      names_more is_image moved_row (without o table_1.volumes),
      names_less is_image o h.row table_1.volumes h.own_image own_1,
      stage_1.images,
    );
    entries = omega (arith, ap (λ (ns : List Name). length ns) (moved_names is_entry (image-no_entry b h.base_image) (image-no_entry o h.own_image)), stage_1.entries);
    extents = λ x. omega (
      arith,
      ap (λ vs. times x (extents_in vs)) moved_volumes,
      times-put x (without o table_1.volumes) moved_row,
      times-without x table_1.volumes o h.row own_1,
      stage_1.extents x,
    );
  }

  pub may_3 : Permits count table_2 (Mark b Hidden true)
  may_3 = record { row = moved_row; there = stage_2.base; taking = h.base_image; otherwise = h.shown }

  -- a mark changes no name
  marked_names : (test : Name → Bool) (n : Name) (f : Row → Row) (rs : List Row) → ((r : Row) → (f r).name ≡ r.name) → filter test (names_of (with_row n f rs)) ≡ filter test (names_of rs)
  marked_names test n f rs named = ap (λ ns. filter test ns) (names_of-with_row rs n f named)

  pub stage_3 : Stage table_3 3 0 None (Some hidden_row) None None (Some entry_row) (e ∷ []) []
  unfolding times
  stage_3 = let c = changes_by_name count table_2 (Mark b Hidden true) stage_2.table may_3 in
      let names = λ (test : Name → Bool). marked_names test b (tagged Hidden true) table_2.volumes (λ r. refl) in record {
        table = IsTable-applied count table_2 (Mark b Hidden true) stage_2.table may_3;
        number = omega (arith, h.unspent, stage_2.number);
        own = λ other. c.others o (λ is. base_own (sym is)) ∙ own_2;
        base = row_of-with_row_same table_2.volumes b (tagged Hidden true) moved_row (λ r. refl) stage_2.base;
        leaf = c.others l (λ is. h.base_leaf (sym is)) ∙ stage_2.leaf;
        twin = c.others w (λ is. h.base_twin (sym is)) ∙ stage_2.twin;
        entry = c.others e (λ is. unlike b h.base_image (sym is)) ∙ stage_2.entry;
        others = λ n own base leaf twin entry. c.others n base ∙ stage_2.others n own base leaf twin entry;
        making = names is_making ∙ stage_2.making;
        folding = names is_folding ∙ stage_2.folding;
        images = omega (arith, ap (λ (ns : List Name). length ns) (names is_image), stage_2.images);
        entries = omega (arith, ap (λ (ns : List Name). length ns) (names is_entry), stage_2.entries);
        extents = λ x. omega (arith, times-with_row x table_2.volumes b (tagged Hidden true) moved_row stage_2.base, stage_2.extents x);
      }

  pub own_3 : rows table_3 o ≡ None
  own_3 = (changes_by_name count table_2 (Mark b Hidden true) stage_2.table may_3).others o (λ is. base_own (sym is)) ∙ own_2

  -- ---- the two images

  -- the extents of each are free
  once_both : (x : ℕ) → times x own + times x twins ≤ 1
  once_both x = omega (arith, times-append x own twins, distinct-times x (own ++ twins) h.extents_free.distinct)

  unused : (x : ℕ) → 0 < times x own + times x twins → times x (extents_in t.volumes) ≡ 0
  unused x some = unused-times x (extents_in t.volumes) (all_at (λ y. is_one_of (extents_in t.volumes) y ≡ false) x (own ++ twins) h.extents_free.unused (omega (arith, times-append x own twins, some)))

  low : (x : ℕ) → 0 < times x own + times x twins → x < count
  low x some = all_at (λ y. y < count) x (own ++ twins) h.extents_free.below (omega (arith, times-append x own twins, some))

  own_free : AreFree count table_3.volumes own
  unfolding times
  own_free = record {
    below = all_from (λ x. x < count) own (λ x some. low x (omega (arith, some)));
    unused = all_from (λ x. is_one_of (extents_in table_3.volumes) x ≡ false) own (λ x some. times-unused x (extents_in table_3.volumes) (omega (arith, stage_3.extents x, unused x (omega (arith, some)))));
    distinct = times-distinct own (λ x. omega (arith, once_both x));
  }

  -- the new volume of an image with extents has its kind
  new_kind : (n : Name) (es : List ℕ) → is_image n ≡ true → 0 < length es → suits (made n true es) ≡ true
  new_kind n es image some =
      ap (λ x. cond x (nat_lt 0 (length es)) (cond (is_log n) (not false && nat_lt 0 (length es)) (not false && (not true && (not (is_entry n) || (length es == 0)))))) image ∙ lt-ltb 0 (length es) some

  pub may_4 : Permits count table_3 (Create l true own)
  may_4 = record { name_proper = h.leaf_proper; new_name = stage_3.leaf; not_mgt = not_mgt l h.leaf_image; kind = new_kind l own h.leaf_image h.some_own; extents_free = own_free }

  pub stage_4 : Stage table_4 4 1 None (Some hidden_row) (Some leaf_row) None (Some entry_row) (e ∷ []) own
  unfolding times
  stage_4 = let c = changes_by_name count table_3 (Create l true own) stage_3.table may_4 in
      let names = λ (test : Name → Bool) (no : test l ≡ false). names_beside test leaf_row table_3.volumes no in record {
        table = IsTable-applied count table_3 (Create l true own) stage_3.table may_4;
        number = omega (arith, h.unspent, stage_3.number);
        own = λ other. c.others o other ∙ own_3;
        base = c.others b h.base_leaf ∙ stage_3.base;
        leaf = c.does.1;
        twin = c.others w (λ is. h.leaf_twin (sym is)) ∙ stage_3.twin;
        entry = c.others e (λ is. unlike l h.leaf_image (sym is)) ∙ stage_3.entry;
        others = λ n own base leaf twin entry. c.others n leaf ∙ stage_3.others n own base leaf twin entry;
        making = names is_making (image_not_making l h.leaf_image) ∙ stage_3.making;
        folding = names is_folding (image_not_folding l h.leaf_image) ∙ stage_3.folding;
        images = omega (arith, names_more is_image leaf_row table_3.volumes, stage_3.images);
        entries = omega (arith, ap (λ (ns : List Name). length ns) (names is_entry (image-no_entry l h.leaf_image)), stage_3.entries);
        extents = λ x. omega (arith, times-put x table_3.volumes leaf_row, stage_3.extents x);
      }

  twin_free : AreFree count table_4.volumes twins
  twin_free = record {
    below = all_from (λ x. x < count) twins (λ x some. low x (omega (arith, some)));
    unused = all_from (λ x. is_one_of (extents_in table_4.volumes) x ≡ false) twins
        (λ x some. times-unused x (extents_in table_4.volumes) (omega (arith, stage_4.extents x, unused x (omega (arith, some)), once_both x, some)));
    distinct = times-distinct twins (λ x. omega (arith, once_both x));
  }

  pub may_5 : Permits count table_4 (Create w true twins)
  may_5 = record { name_proper = h.twin_proper; new_name = stage_4.twin; not_mgt = not_mgt w h.twin_image; kind = new_kind w twins h.twin_image h.some_twin; extents_free = twin_free }

  pub stage_5 : Stage table_5 5 2 None (Some hidden_row) (Some leaf_row) (Some twin_row) (Some entry_row) (e ∷ []) (own ++ twins)
  stage_5 = let c = changes_by_name count table_4 (Create w true twins) stage_4.table may_5 in
      let names = λ (test : Name → Bool) (no : test w ≡ false). names_beside test twin_row table_4.volumes no in record {
        table = IsTable-applied count table_4 (Create w true twins) stage_4.table may_5;
        number = omega (arith, h.unspent, stage_4.number);
        own = λ other. c.others o own_twin ∙ stage_4.own other;
        base = c.others b h.base_twin ∙ stage_4.base;
        leaf = c.others l h.leaf_twin ∙ stage_4.leaf;
        twin = c.does.1;
        entry = c.others e (λ is. unlike w h.twin_image (sym is)) ∙ stage_4.entry;
        others = λ n own base leaf twin entry. c.others n twin ∙ stage_4.others n own base leaf twin entry;
        making = names is_making (image_not_making w h.twin_image) ∙ stage_4.making;
        folding = names is_folding (image_not_folding w h.twin_image) ∙ stage_4.folding;
        images = omega (arith, names_more is_image twin_row table_4.volumes, stage_4.images);
        entries = omega (arith, ap (λ (ns : List Name). length ns) (names is_entry (image-no_entry w h.twin_image)), stage_4.entries);
        extents = λ x. omega (arith, times-put x table_4.volumes twin_row, stage_4.extents x, times-append x own twins);
      }

  -- ---- behind the writes

  pub may_6 : Permits count table_5 (Mark l Fresh false)
  may_6 = record { row = leaf_row; there = stage_5.leaf; taking = ap (λ b. b || is_log l) h.leaf_image; otherwise = refl }

  pub stage_6 : Stage table_6 6 2 None (Some hidden_row) (Some leaf_filled) (Some twin_row) (Some entry_row) (e ∷ []) (own ++ twins)
  stage_6 = let c = changes_by_name count table_5 (Mark l Fresh false) stage_5.table may_6 in
      let names = λ (test : Name → Bool). marked_names test l (tagged Fresh false) table_5.volumes (λ r. refl) in record {
        table = IsTable-applied count table_5 (Mark l Fresh false) stage_5.table may_6;
        number = omega (arith, h.unspent, stage_5.number);
        own = λ other. c.others o other ∙ stage_5.own other;
        base = c.others b h.base_leaf ∙ stage_5.base;
        leaf = row_of-with_row_same table_5.volumes l (tagged Fresh false) leaf_row (λ r. refl) stage_5.leaf;
        twin = c.others w (λ is. h.leaf_twin (sym is)) ∙ stage_5.twin;
        entry = c.others e (λ is. unlike l h.leaf_image (sym is)) ∙ stage_5.entry;
        others = λ n own base leaf twin entry. c.others n leaf ∙ stage_5.others n own base leaf twin entry;
        making = names is_making ∙ stage_5.making;
        folding = names is_folding ∙ stage_5.folding;
        images = omega (arith, ap (λ (ns : List Name). length ns) (names is_image), stage_5.images);
        entries = omega (arith, ap (λ (ns : List Name). length ns) (names is_entry), stage_5.entries);
        extents = λ x. omega (arith, times-with_row x table_5.volumes l (tagged Fresh false) leaf_row stage_5.leaf, stage_5.extents x);
      }

  pub may_7 : Permits count table_6 (Mark w Fresh false)
  may_7 = record { row = twin_row; there = stage_6.twin; taking = ap (λ b. b || is_log w) h.twin_image; otherwise = refl }

  pub stage_7 : Stage table_7 7 2 None (Some hidden_row) (Some leaf_filled) (Some twin_filled) (Some entry_row) (e ∷ []) (own ++ twins)
  stage_7 = let c = changes_by_name count table_6 (Mark w Fresh false) stage_6.table may_7 in
      let names = λ (test : Name → Bool). marked_names test w (tagged Fresh false) table_6.volumes (λ r. refl) in record {
        table = IsTable-applied count table_6 (Mark w Fresh false) stage_6.table may_7;
        number = omega (arith, h.unspent, stage_6.number);
        own = λ other. c.others o own_twin ∙ stage_6.own other;
        base = c.others b h.base_twin ∙ stage_6.base;
        leaf = c.others l h.leaf_twin ∙ stage_6.leaf;
        twin = row_of-with_row_same table_6.volumes w (tagged Fresh false) twin_row (λ r. refl) stage_6.twin;
        entry = c.others e (λ is. unlike w h.twin_image (sym is)) ∙ stage_6.entry;
        others = λ n own base leaf twin entry. c.others n twin ∙ stage_6.others n own base leaf twin entry;
        making = names is_making ∙ stage_6.making;
        folding = names is_folding ∙ stage_6.folding;
        images = omega (arith, ap (λ (ns : List Name). length ns) (names is_image), stage_6.images);
        entries = omega (arith, ap (λ (ns : List Name). length ns) (names is_entry), stage_6.entries);
        extents = λ x. omega (arith, times-with_row x table_6.volumes w (tagged Fresh false) twin_row stage_6.twin, stage_6.extents x);
      }

  pub may_8 : Permits count table_7 (Remove e)
  may_8 = record { row = entry_row; there = stage_7.entry; not_mgt = λ is. true≢false (sym h.entry_is ∙ ap is_entry is) }

  pub stage_8 : Stage table_8 8 2 None (Some hidden_row) (Some leaf_filled) (Some twin_filled) None [] (own ++ twins)
  unfolding times
  stage_8 = let c = changes_by_name count table_7 (Remove e) stage_7.table may_8 in record {
    table = IsTable-applied count table_7 (Remove e) stage_7.table may_8;
    number = omega (arith, h.unspent, stage_7.number);
    own = λ other. c.others o (unlike o h.own_image) ∙ stage_7.own other;
    base = c.others b (unlike b h.base_image) ∙ stage_7.base;
    leaf = c.others l (unlike l h.leaf_image) ∙ stage_7.leaf;
    twin = c.others w (unlike w h.twin_image) ∙ stage_7.twin;
    entry = c.does.2;
    others = λ n own base leaf twin entry. c.others n entry ∙ stage_7.others n own base leaf twin entry;
    making = names_last is_making e table_7.volumes h.entry_making stage_7.making;
    folding = names_gone is_folding e table_7.volumes h.entry_folding ∙ stage_7.folding;
    images = omega (arith, ap (λ (ns : List Name). length ns) (names_gone is_image e table_7.volumes h.entry_no_image), stage_7.images);
    entries = omega (arith, names_less is_entry e entry_row table_7.volumes h.entry_is stage_7.entry, stage_7.entries);
    extents = λ x. omega (arith, times-without x table_7.volumes e entry_row stage_7.entry, stage_7.extents x);
  }
