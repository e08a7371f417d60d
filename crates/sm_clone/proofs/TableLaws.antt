-- The eight tables of a fork that no cause refuses: what each volume is by name, that each commit is allowed, and that its text fits.
use Rattle.std.proofs.Common.{◌≡◌, ◌≢◌, ⊎_elim, ℕ, ◌+◌, ◌<◌, ◌≤◌, Bool, true, false, List, [], ◌∷◌, ◌++◌, length, map, drop, w64, is_some, Option, Some, None, refl, sym, ap, ◌∙◌, subst, arith}
use Rattle.std.specs.Int.{to_be_bytes}
use Rattle.std.proofs.lemmas.Bool.{true≢false, or_parts}
use Rattle.std.proofs.lemmas.List.Elements.{All-append, All-from_recursion}
use Rattle.std.proofs.lemmas.Option.{same_Some}
use Rattle.common_laws.proofs.Lists.{filter-In, In-map_at}
use Rattle.common_laws.proofs.Options.{none_of_some}
use Rattle.common_laws.specs.Lists.{In}
use Rattle.sm_base.specs.Kinds.{is_image, is_log}
use Rattle.sm_base.specs.Names.{IsName, IsUuid, base_front, base_uuid, is_base}
use Rattle.sm_base.specs.Numbers.{thick}
use Rattle.sm_base.specs.declared.names.Name.{Name}
use Rattle.sm_base.specs.declared.names.Name.TheVariants as name
use Rattle.sm_machine.specs.Operations.{Op}
use Rattle.sm_machine.specs.Operations as op
use Rattle.vg_meta.specs.Tables.{IsVolume, Row, VolumeTable, names_of, rows}
use Rattle.vg_meta.specs.Changes.{applied, made, renamed as moved_as, tagged}
use Rattle.vg_meta.specs.Text.{text}
use Rattle.vg_meta.specs.declared.changes.Change.TheVariants.{Create, Mark, Rename}
use Rattle.vg_meta.specs.declared.changes.Tag.TheVariants.{Fresh, Hidden}
use Rattle.vg_meta.proofs.NameLaws.{name_eq-true}
use Rattle.vg_meta.proofs.RowLaws.{All-row_of, row_of-name}
use Rattle.vg_volumes.specs.Sites.{Site, text_limit}
use Rattle.vhd_chain.specs.Trees.{row_name, tree_row}
use Rattle.vhd_chain.specs.declared.rows.TreeRow.{TreeRow}
use Rattle.sm_machine.specs.Refusals.{wanted}
use Rattle.sm_machine.specs.Shapes.{attached_as, image_limit, image_uuid, is_rw, renamed, thin_in}
use Rattle.sm_machine.specs.WellFormed.{is_image_name}
use Rattle.sm_machine.proofs.Numbers.{thin-positive}
use Rattle.sm_standing.specs.Checks.{images as table_images}
use Rattle.sm_standing.specs.Entries.{is_making, making, names_in}
use Rattle.sm_standing.proofs.DisksShown.{row_of-In}
use Rattle.sm_journal.specs.Entries.{putting}
use Rattle.sm_ready.specs.Known.{Known, entry_of, shape_in}
use Rattle.sm_ready.specs.Orderly.{IsOrderly}
use Rattle.sm_ready.specs.Ready.{IsTidy}
use Rattle.sm_ready.specs.Runs.{AllMay}
use Rattle.sm_ready.proofs.CauseLaws.{named_as, vhd_uuid}
use Rattle.sm_ready.proofs.FitLaws.{fits_entries}
use Rattle.sm_ready.proofs.LogRows.{entry_apart, few_log_rows, image_apart}
use Rattle.sm_ready.proofs.NewLaws.{unvolumed}
use Rattle.sm_ready.proofs.NumberLaws.{is_base_of}
use Rattle.sm_ready.proofs.Orders.{In-tree_row, IsRowed, named_row, none_making, rowed}
use Rattle.sm_ready.proofs.OwnLaws.{IsOwn}
use Rattle.sm_ready.proofs.RowLaws.{HasVolume, image_named, volume_there}
use Rattle.sm_ready.proofs.SumLaws.{images_counted}
use Rattle.gc_abandon.proofs.EntryLaws.{as_many, counted}
use Rattle.sm_clone.specs.Forking.{AreForFork, Passes, base_name, entry_name, first_changes, fork_of, last_changes, table_begun, table_forked}
use Rattle.sm_clone.specs.declared.forks.Fork.{Fork}
use Rattle.sm_clone.proofs.ForkRows.{vhd_named}
use Rattle.sm_clone.proofs.PassedLaws.{found, makes_two, new, own as own_of, own_is, unspent}
use Rattle.sm_clone.proofs.StageLaws as staged
use Rattle.sm_clone.proofs.StageLaws.{IsStage, IsToFork}
use Rattle.sm_clone.proofs.UseLaws.{base_uuid_is, no_base_row, no_leaf}

-- ---- names

-- the UUID of a base is one
pub base_proper : (n : ℕ) → IsUuid (base_uuid n)
unfolding base_uuid
base_proper n = record {
  long = refl;
  bytes = All-append (λ b. b < 256) base_front (drop 2 (to_be_bytes w64 n))
      (All-from_recursion (λ b. b < 256) base_front (omega arith, (omega arith, (omega arith, (omega arith, (omega arith, (omega arith, (omega arith, (omega arith, (omega arith, (omega arith, tt)))))))))))
      (All-from_recursion (λ b. b < 256) (drop 2 (to_be_bytes w64 n)) (omega arith, (omega arith, (omega arith, (omega arith, (omega arith, (omega arith, tt)))))));
}

base_kind : (n : Name) (v : List ℕ) → is_image_name n ≡ true → is_image (renamed n v) ≡ true
unfolding is_image_name renamed
base_kind (name.Vhd u) v e = refl
base_kind (name.Raw u) v e = refl
base_kind _ v e = cc

base_named : (n : Name) (v : List ℕ) → is_image_name n ≡ true → IsUuid v → IsName (renamed n v)
unfolding is_image_name renamed IsName
base_named (name.Vhd u) v e proper = proper
base_named (name.Raw u) v e proper = proper
base_named _ v e proper = cc

name_uuid : (n : Name) → is_image_name n ≡ true → IsName n → IsUuid (image_uuid n)
unfolding is_image_name image_uuid IsName
name_uuid (name.Vhd u) e proper = proper
name_uuid (name.Raw u) e proper = proper
name_uuid _ e proper = cc

-- an entry that is not among those of the calls has no volume
no_entry : (t : VolumeTable) (e : Name) → is_making e ≡ true → making t ≡ [] → rows t e ≡ None
no_entry t e is none = by (rows t e) refl
  where
    by : (x : Option Row) → rows t e ≡ x → x ≡ None
    by None at = refl
    by (Some q) at = absurd (
        let w = row_of-In t.volumes e q at in
        let named = name_eq-true q.name e w.1 in
        subst (In q.name) none (filter-In is_making (names_of t.volumes) q.name (In-map_at (λ (r : Row). r.name) t.volumes q w.0) (ap is_making named ∙ is)))

few_entries : (o : Op) → length (entry_of o) ≤ 1
few_entries op.Idle = omega arith
few_entries (op.Copy v p cursor) = omega arith
few_entries (op.Relink v p) = omega arith
few_entries (op.Leaf l p cursor) = omega arith
few_entries (op.Live l p cursor dirty) = omega arith

-- ---- the fork

module _ (s : Site) (t : VolumeTable) (m : Known) (u twin : List ℕ) (read_only : Bool) (o : IsOrderly s t m) (tidy : IsTidy t m) (passes : Passes s t m u twin read_only)
    (sectors : ℕ) (own twins : List ℕ) (taken : AreForFork s t (shape_in s t m) u sectors own twins) (proper : IsUuid twin) where
  abbrev pub f : Fork
  f = fork_of passes.number m.rows u twin

  abbrev its : IsOwn m u
  its = own_of s t m u twin read_only o tidy passes

  abbrev is_own : f.own ≡ row_name its.row
  is_own = own_is s t m u twin read_only o tidy passes

  own_named : is_image_name (row_name its.row) ≡ true
  own_named = named_row s t m its.row o its.there

  found_own : tree_row m.rows (row_name its.row) ≡ Some its.row
  found_own = ap (tree_row m.rows) (sym is_own) ∙ found s t m u twin read_only o tidy passes

  -- the disk's image has a volume
  volume : HasVolume t (row_name its.row)
  volume = volume_there s t m its.row o (image_named (row_name its.row) own_named) found_own

  -- the row of its volume
  pub own_row : Row
  own_row = volume.row

  pub own_there : rows t f.own ≡ Some own_row
  unfolding own_row
  own_there = ap (rows t) is_own ∙ volume.there

  pub own_filled : own_row.fresh ≡ false
  unfolding own_row
  own_filled = volume.filled

  its_row : IsRowed m (row_name its.row) own_row
  unfolding own_row
  its_row = rowed s t m (row_name its.row) own_row o (image_named (row_name its.row) own_named) volume.there volume.filled

  same_row : its_row.row ≡ its.row
  same_row = same_Some its_row.row its.row (sym its_row.found ∙ found_own)

  pub own_shown : own_row.hidden ≡ false
  own_shown = sym its_row.hidden ∙ ap (λ (r : TreeRow). r.hidden) same_row ∙ its.shown

  -- it has as many extents as memory says
  pub own_long : length own_row.extents ≡ its.row.extents
  own_long = sym its_row.long ∙ ap (λ (r : TreeRow). r.extents) same_row

  pub own_image : is_image_name f.own ≡ true
  own_image = ap is_image_name is_own ∙ own_named

  own_name : IsName f.own
  own_name = subst IsName (row_of-name t.volumes f.own own_row own_there) (All-row_of IsVolume t.volumes f.own own_row o.table.volumes.each own_there).name

  disk_uuid : IsUuid u
  disk_uuid = subst IsUuid (ap image_uuid is_own ∙ its.uuid) (name_uuid f.own own_image own_name)

  -- no image has the twin's UUID
  pub no_twin_row : (n : Name) → is_image_name n ≡ true → image_uuid n ≡ twin → tree_row m.rows n ≡ None
  no_twin_row n image uuid =
      let none = or_parts (is_some (tree_row m.rows (name.Vhd twin))) (is_some (tree_row m.rows (name.Raw twin))) (new s t m u twin read_only o tidy passes).absent in
      ⊎_elim (λ is. ap (tree_row m.rows) is ∙ none_of_some (tree_row m.rows (name.Vhd twin)) none.0) (λ is. ap (tree_row m.rows) is ∙ none_of_some (tree_row m.rows (name.Raw twin)) none.1)
      (named_as n twin image uuid)

  -- a name that no row of memory has is found with none
  unfound : (n : Name) → ((r : TreeRow) → In r m.rows → row_name r ≡ n → ⊥) → tree_row m.rows n ≡ None
  unfound n none = by (tree_row m.rows n) refl
    where
      by : (x : Option TreeRow) → tree_row m.rows n ≡ x → x ≡ None
      by None is = refl
      by (Some r) is = let w = In-tree_row m.rows n r is in absurd (none r w.0 w.1)

  -- neither the base nor, of a raw disk, its new image is in memory
  pub no_base_in : tree_row m.rows (base_name f) ≡ None
  no_base_in = unfound (base_name f) (λ r i is. no_base_row s t m u twin read_only o tidy passes r i (ap image_uuid is ∙ base_uuid_is s t m u twin read_only o tidy passes))

  pub no_leaf_in : f.own ≢ name.Vhd u → tree_row m.rows (name.Vhd u) ≡ None
  no_leaf_in other = unfound (name.Vhd u) (λ r i is. no_leaf s t m u twin read_only o tidy passes other (subst (λ n. In n (map row_name m.rows)) is (In-map_at row_name m.rows r i)))

  pub disk_twin : u ≢ twin
  disk_twin is = (let x = sym (no_twin_row (row_name its.row) own_named (its.uuid ∙ is)) ∙ found_own in cc)

  some_thin : (slots : ℕ) → 0 < thin_in (shape_in s t m) slots
  unfolding shape_in
  some_thin slots = thin-positive s.geometry.extent s.geometry.block s.geometry.entries slots (let least = s.geometry.in_range.extent_least in omega (arith, least))

  some_wanted : (b : Bool) → 0 < wanted (shape_in s t m) b sectors
  unfolding thick
  some_wanted true = some_thin _
  some_wanted false = some_thin 0

  pub to_fork : IsToFork s.count t f.own (base_name f) (name.Vhd u) (name.Vhd twin) (entry_name f) own twins
  unfolding IsName
  to_fork = record {
    table = o.table;
    unspent = let few = unspent s t m u twin read_only o tidy passes in omega (arith, few);
    row = own_row;
    there = own_there;
    shown = own_shown;
    no_base = unvolumed s t m (base_name f) o tidy (base_kind f.own f.base own_image) no_base_in;
    no_leaf = λ other. unvolumed s t m (name.Vhd u) o tidy refl (no_leaf_in other);
    no_twin = unvolumed s t m (name.Vhd twin) o tidy refl (no_twin_row (name.Vhd twin) (vhd_named twin) (vhd_uuid twin));
    no_entry = no_entry t (entry_name f) refl (none_making s t m o);
    none_making = none_making s t m o;
    own_image = image_named f.own own_image;
    base_image = base_kind f.own f.base own_image;
    leaf_image = refl;
    twin_image = refl;
    entry_no_image = refl;
    entry_is = refl;
    entry_making = refl;
    entry_folding = refl;
    base_proper = base_named f.own f.base own_image (base_proper passes.number);
    leaf_proper = disk_uuid;
    twin_proper = proper;
    entry_proper = (disk_uuid, base_proper passes.number, proper);
    base_leaf = λ is. no_base_row s t m u twin read_only o tidy passes its.row its.there (its.uuid ∙ sym (vhd_uuid u) ∙ ap image_uuid (sym is) ∙ base_uuid_is s t m u twin read_only o tidy passes);
    base_twin = λ is. true≢false (sym (is_base_of passes.number) ∙ ap is_base (sym (base_uuid_is s t m u twin read_only o tidy passes) ∙ ap image_uuid is ∙ vhd_uuid twin)
        ∙ (new s t m u twin read_only o tidy passes).not_base);
    leaf_twin = λ is. disk_twin (sym (vhd_uuid u) ∙ ap image_uuid is ∙ vhd_uuid twin);
    extents_free = taken.extents_free;
    some_own = omega (arith, taken.own_many, some_wanted (is_rw (attached_as u (shape_in s t m))));
    some_twin = omega (arith, taken.twin_many, some_thin 0);
  }

  -- ---- the tables

  abbrev pub table_1 : VolumeTable
  table_1 = applied t (putting (entry_name f))

  abbrev pub table_2 : VolumeTable
  table_2 = applied table_1 (Rename f.own (base_name f))

  abbrev pub table_3 : VolumeTable
  table_3 = applied table_2 (Mark (base_name f) Hidden true)

  abbrev pub table_4 : VolumeTable
  table_4 = applied table_3 (Create (name.Vhd u) true own)

  -- that at the writes
  abbrev pub table_5 : VolumeTable
  table_5 = table_begun t f own twins

  abbrev pub table_6 : VolumeTable
  table_6 = applied table_5 (Mark (name.Vhd u) Fresh false)

  abbrev pub table_7 : VolumeTable
  table_7 = applied table_6 (Mark (name.Vhd twin) Fresh false)

  -- that at the end
  abbrev pub table_8 : VolumeTable
  table_8 = table_forked t f own twins

  abbrev Stage : VolumeTable → ℕ → ℕ → Option Row → Option Row → Option Row → Option Row → Option Row → List Name → List ℕ → Type 0
  Stage = IsStage s.count t f.own (base_name f) (name.Vhd u) (name.Vhd twin) (entry_name f)

  -- the rows of the base, shown and hidden, of the two images, new and filled, and of the entry
  abbrev pub moved_row : Row
  moved_row = moved_as (base_name f) own_row

  abbrev pub hidden_row : Row
  hidden_row = tagged Hidden true moved_row

  abbrev pub leaf_row : Row
  leaf_row = made (name.Vhd u) true own

  abbrev pub leaf_filled : Row
  leaf_filled = made (name.Vhd u) false own

  abbrev pub twin_row : Row
  twin_row = made (name.Vhd twin) true twins

  abbrev pub twin_filled : Row
  twin_filled = made (name.Vhd twin) false twins

  abbrev pub entry_row : Row
  entry_row = made (entry_name f) false []

  pub stage_1 : Stage table_1 1 0 (rows t f.own) None (rows t (name.Vhd u)) None (Some entry_row) (entry_name f ∷ []) []
  stage_1 = staged.stage_1 s.count t f.own (base_name f) (name.Vhd u) (name.Vhd twin) (entry_name f) own twins to_fork

  pub stage_2 : Stage table_2 2 0 None (Some moved_row) None None (Some entry_row) (entry_name f ∷ []) []
  unfolding to_fork
  stage_2 = staged.stage_2 s.count t f.own (base_name f) (name.Vhd u) (name.Vhd twin) (entry_name f) own twins to_fork

  pub stage_3 : Stage table_3 3 0 None (Some hidden_row) None None (Some entry_row) (entry_name f ∷ []) []
  unfolding to_fork
  stage_3 = staged.stage_3 s.count t f.own (base_name f) (name.Vhd u) (name.Vhd twin) (entry_name f) own twins to_fork

  pub stage_4 : Stage table_4 4 1 None (Some hidden_row) (Some leaf_row) None (Some entry_row) (entry_name f ∷ []) own
  unfolding to_fork
  stage_4 = staged.stage_4 s.count t f.own (base_name f) (name.Vhd u) (name.Vhd twin) (entry_name f) own twins to_fork

  pub stage_5 : Stage table_5 5 2 None (Some hidden_row) (Some leaf_row) (Some twin_row) (Some entry_row) (entry_name f ∷ []) (own ++ twins)
  unfolding to_fork
  stage_5 = staged.stage_5 s.count t f.own (base_name f) (name.Vhd u) (name.Vhd twin) (entry_name f) own twins to_fork

  pub stage_6 : Stage table_6 6 2 None (Some hidden_row) (Some leaf_filled) (Some twin_row) (Some entry_row) (entry_name f ∷ []) (own ++ twins)
  unfolding to_fork
  stage_6 = staged.stage_6 s.count t f.own (base_name f) (name.Vhd u) (name.Vhd twin) (entry_name f) own twins to_fork

  pub stage_7 : Stage table_7 7 2 None (Some hidden_row) (Some leaf_filled) (Some twin_filled) (Some entry_row) (entry_name f ∷ []) (own ++ twins)
  unfolding to_fork
  stage_7 = staged.stage_7 s.count t f.own (base_name f) (name.Vhd u) (name.Vhd twin) (entry_name f) own twins to_fork

  pub stage_8 : Stage table_8 8 2 None (Some hidden_row) (Some leaf_filled) (Some twin_filled) None [] (own ++ twins)
  unfolding to_fork
  stage_8 = staged.stage_8 s.count t f.own (base_name f) (name.Vhd u) (name.Vhd twin) (entry_name f) own twins to_fork

  -- the disk's image under its own name, up to the rename and while no other image has the name
  pub own_1 : rows table_1 f.own ≡ Some own_row
  unfolding to_fork
  own_1 = staged.own_1 s.count t f.own (base_name f) (name.Vhd u) (name.Vhd twin) (entry_name f) own twins to_fork

  pub own_2 : rows table_2 f.own ≡ None
  own_2 = staged.own_2 s.count t f.own (base_name f) (name.Vhd u) (name.Vhd twin) (entry_name f) own twins to_fork

  pub own_3 : rows table_3 f.own ≡ None
  own_3 = staged.own_3 s.count t f.own (base_name f) (name.Vhd u) (name.Vhd twin) (entry_name f) own twins to_fork

  -- ---- none has too many images, nor too long a text

  pub few_images : (v : VolumeTable) → length (names_in v is_image) ≤ length (names_in t is_image) + 2 → length (table_images v) ≤ image_limit
  few_images v few =
      let more = (new s t m u twin read_only o tidy passes).few in
      omega (arith, counted is_image v.volumes, counted is_image t.volumes, few, images_counted s t m tidy.none_new o, more, makes_two u twin read_only)

  -- the volumes of logs are as before
  logs_stay : {v : VolumeTable} {k more : ℕ} {own_at base_at leaf_at twin_at entry_at : Option Row} {ns : List Name} {taken : List ℕ} → Stage v k more own_at base_at leaf_at twin_at entry_at ns taken
      → (n : Name) → is_log n ≡ true → rows v n ≡ rows t n
  logs_stay z (name.Cbt d) log =
      z.others (name.Cbt d) (image_apart f.own to_fork.own_image d) (image_apart (base_name f) to_fork.base_image d) (image_apart (name.Vhd u) refl d) (image_apart (name.Vhd twin) refl d) (entry_apart (entry_name f) refl d)
  logs_stay z _ log = absurd (let e = log in cc)

  fits_in : {v : VolumeTable} {k more : ℕ} {own_at base_at leaf_at twin_at entry_at : Option Row} {ns : List Name} {taken : List ℕ} → Stage v k more own_at base_at leaf_at twin_at entry_at ns taken
      → more ≤ 2 → length (text v) ≤ text_limit s.count
  fits_in {v = v} z few =
      fits_entries s.count v z.table o.few_extents (few_images v (omega (arith, z.images, few))) (omega (arith, as_many is_log s.count v t z.table o.table (logs_stay z), few_log_rows s t m o))
      (omega (arith, z.entries, ap (λ (ns : List Name). length ns) o.entries, few_entries m.op))

  -- ---- the commits

  pub can_begin : AllMay s.count t (first_changes f own twins)
  can_begin = (
    staged.may_1 s.count t f.own (base_name f) (name.Vhd u) (name.Vhd twin) (entry_name f) own twins to_fork,
    fits_in stage_1 (omega arith),
    (
      staged.may_2 s.count t f.own (base_name f) (name.Vhd u) (name.Vhd twin) (entry_name f) own twins to_fork,
      fits_in stage_2 (omega arith),
      (
        staged.may_3 s.count t f.own (base_name f) (name.Vhd u) (name.Vhd twin) (entry_name f) own twins to_fork,
        fits_in stage_3 (omega arith),
        (
          staged.may_4 s.count t f.own (base_name f) (name.Vhd u) (name.Vhd twin) (entry_name f) own twins to_fork,
          fits_in stage_4 (omega arith),
          (
            staged.may_5 s.count t f.own (base_name f) (name.Vhd u) (name.Vhd twin) (entry_name f) own twins to_fork,
            fits_in stage_5 (omega arith),
            tt,
          ),
        ),
      ),
    ),
  )

  pub can_end : AllMay s.count table_5 (last_changes f)
  can_end = (
    staged.may_6 s.count t f.own (base_name f) (name.Vhd u) (name.Vhd twin) (entry_name f) own twins to_fork,
    fits_in stage_6 (omega arith),
    (
      staged.may_7 s.count t f.own (base_name f) (name.Vhd u) (name.Vhd twin) (entry_name f) own twins to_fork,
      fits_in stage_7 (omega arith),
      (
        staged.may_8 s.count t f.own (base_name f) (name.Vhd u) (name.Vhd twin) (entry_name f) own twins to_fork,
        fits_in stage_8 (omega arith),
        tt,
      ),
    ),
  )
