-- Where all checks pass, no leaf is being folded and a disk is being forked: what is left without the fork, and what stands while it is undone.
use Rattle.std.proofs.Common.{◌≡◌, ◌≢◌, ◌⊎◌, inl, inr, ℕ, ◌≤◌, Bool, true, false, cond, not, ◌&&◌, ◌||◌, List, [], ◌∷◌, Option, Some, None, refl, sym, ap, ap₂, ◌∙◌, subst}
use Rattle.std.proofs.lemmas.Bool.{true≢false, and_parts, or_from}
use Rattle.std.proofs.lemmas.Option.{none-some}
use Rattle.common_laws.specs.Lists.{◌>>=◌}
use Rattle.common_laws.proofs.Booleans.{not_false}
use Rattle.common_laws.proofs.Options.{option_cases}
use Rattle.sm_base.specs.Kinds.{is_entry}
use Rattle.sm_base.specs.Numbers.{IsGeometry}
use Rattle.sm_base.specs.declared.names.Name.{Name}
use Rattle.sm_base.specs.declared.names.Name.TheVariants.{Mgt, Vhd, Raw, Clone}
use Rattle.vg_meta.specs.Tables.{VolumeTable, Row, IsTable, name_eq, rows}
use Rattle.vg_meta.proofs.NameLaws.{name_eq-false, name_eq-other, name_eq-refl, name_eq-true}
use Rattle.vg_meta.proofs.RowLaws.{row_of-name}
use Rattle.sm_standing.specs.Apart.{is_apart}
use Rattle.sm_standing.specs.Contents.{Content, record_count, size_of}
use Rattle.sm_standing.specs.Entries.{are_past, head, image_with, is_at_stage, is_fork_made, is_forking, making}
use Rattle.sm_standing.specs.Forks.{forked}
use Rattle.sm_standing.specs.Images.{image_of}
use Rattle.sm_standing.specs.Keeping.{HasNoEmptySlot, IsKept}
use Rattle.sm_standing.specs.Opened.{under_name, undo_changes, undone}
use Rattle.sm_standing.specs.PlainSound.{PlainSound, SimpleSound}
use Rattle.sm_standing.specs.Standing.{disks}
use Rattle.sm_standing.specs.Undone.{AllPermit, IsSameArea, IsUndoing, from_base, from_entry, image_back, named_back, row_back, undone_content, undone_from}
use Rattle.sm_standing.specs.Worlds.{with_table}
use Rattle.sm_standing.proofs.DisksShown.{row_of-In}
use Rattle.sm_standing.proofs.ForkContents.{image_kept, images_apart, no_image, part_disks, part_holding, part_sound}
use Rattle.sm_standing.proofs.ForkNames.{entry_speaks, raw_speaks, vhd_speaks}
use Rattle.sm_standing.proofs.ForkParts.{IsForkPart, entry_found, kept_as, part_now}
use Rattle.sm_standing.proofs.ForkRuns.{IsLast, IsPart, fork_run, run_last, run_permits, run_taken}
use Rattle.sm_standing.proofs.ForkTables.{IsForkStage, IsNew, fork_stage}
use Rattle.sm_standing.proofs.PlainKept.{simple_is_plain, simple_kept}

module _ (c : Content) (table : IsTable c.count c.table) (geometry : IsGeometry c.extent c.block c.entries) (room : record_count ≤ size_of c Mgt) (s : SimpleSound c)
    (disk base twin : List ℕ) (entry : making c.table ≡ Clone disk base twin ∷ []) where
  abbrev t : VolumeTable
  t = c.table

  abbrev e : Name
  e = Clone disk base twin

  abbrev us : List (List ℕ)
  us = forked disk base twin

  at_stage : is_forking t disk base twin ≡ true
  unfolding is_at_stage
  at_stage =
      let k = entry_found t e entry in
      let named = row_of-name t.volumes e k.0 k.1 in
      (and_parts (is_forking t disk base twin) (are_past t e)
      (not_false (is_forking t disk base twin && are_past t e)
      (sym (ap (λ x. is_entry x && not (is_at_stage t x && are_past t x)) named) ∙ s.at_stage k.0 (row_of-In t.volumes e k.0 k.1).0))).0

  pub stage : (n : Name) × IsForkStage t disk base twin n
  stage = fork_stage disk base twin t s.only entry s.named at_stage

  -- the name of the disk's image
  abbrev pub n : Name
  n = stage.0

  abbrev pub its_stage : IsForkStage t disk base twin stage.0
  its_stage = stage.1

  abbrev pub Parts : VolumeTable → Type 0
  Parts v = IsPart c.count t disk base twin n table entry its_stage v

  abbrev pub Last : VolumeTable → Type 0
  Last v = IsLast c.count t disk base twin n table entry its_stage v

  -- ---- the commits

  pub fork_permits : AllPermit c.count t (undo_changes t)
  fork_permits = run_permits c.count Parts Last t (undo_changes t) (fork_run c.count t disk base twin n table entry its_stage)

  pub fork_parts : (v : VolumeTable) → IsUndoing t v → Parts v
  fork_parts v k = subst Parts (sym k.1) (run_taken c.count Parts Last t (undo_changes t) (fork_run c.count t disk base twin n table entry its_stage) k.0)

  pub fork_last : Last (undone t)
  unfolding undone
  fork_last = run_last c.count Parts Last t (undo_changes t) (fork_run c.count t disk base twin n table entry its_stage)

  -- its image has this name then
  abbrev pub last_name : Name
  last_name = fork_last.0

  pub last_part : IsForkPart c.count t disk base twin n its_stage.own (undone t) last_name false
  last_part = fork_last.1

  pub last_making : making (undone t) ≡ []
  last_making = fork_last.2

  pub fork_table : IsTable c.count (undone t)
  fork_table = last_part.table

  -- ---- whatever a stop leaves while it is undone

  pub fork_kept : HasNoEmptySlot c → (v : VolumeTable) (area : ℕ → List ℕ) → IsUndoing t v → IsSameArea c area → IsKept (with_table c v area)
  fork_kept holding v area k same =
      let part = fork_parts v k in
      simple_kept (with_table c v area) (part_sound c disk base twin n table geometry room entry s its_stage v part.0 part.1 part.2 area same)
      (part_holding c disk base twin n table geometry room entry s its_stage v part.0 part.1 part.2 area same holding)

  pub fork_disks : (v : VolumeTable) (area : ℕ → List ℕ) → IsUndoing t v → IsSameArea c area → disks (with_table c v area) ≡ disks c
  fork_disks v area k same =
      let part = fork_parts v k in
      part_disks c disk base twin n table geometry room entry s its_stage (undone t) last_name last_part last_making v part.0 part.1 part.2 area same

  pub fork_undone_disks : disks (undone_content c) ≡ disks c
  fork_undone_disks = part_disks c disk base twin n table geometry room entry s its_stage (undone t) last_name last_part last_making (undone t) last_name false last_part c.area (λ q below. refl)

  pub fork_undone : PlainSound (undone_content c)
  fork_undone = simple_is_plain (undone_content c) (part_sound c disk base twin n table geometry room entry s its_stage (undone t) last_name false last_part c.area (λ q below. refl)) last_making

  pub fork_holding : HasNoEmptySlot c → HasNoEmptySlot (undone_content c)
  fork_holding = part_holding c disk base twin n table geometry room entry s its_stage (undone t) last_name false last_part c.area (λ q below. refl)

  -- ---- the names that the volumes had

  from_is : (x : Name) → undone_from t x ≡ from_entry t e x
  unfolding undone_from
  from_is x = ap (λ ns. elim (head ns) as (λ _. Option Name) [ None ↦ Some x | Some y ↦ from_entry t y x ]) entry

  speaks_e : is_apart us e ≡ false
  speaks_e = entry_speaks disk base twin

  speaks_vhd : (u : List ℕ) → (u ≡ disk) ⊎ ((u ≡ base) ⊎ (u ≡ twin)) → is_apart us (Vhd u) ≡ false
  speaks_vhd = vhd_speaks disk base twin

  speaks_raw : (u : List ℕ) → (u ≡ disk) ⊎ ((u ≡ base) ⊎ (u ≡ twin)) → is_apart us (Raw u) ≡ false
  speaks_raw = raw_speaks disk base twin

  other_than : (x y : Name) → is_apart us x ≡ true → is_apart us y ≡ false → name_eq x y ≡ false
  other_than x y apart speaks = name_eq-other x y (λ same. true≢false (sym apart ∙ ap (is_apart us) same ∙ speaks))

  pub last_speaks : is_apart us last_name ≡ false
  last_speaks = by fork_last.4
    where
      by : (last_name ≡ Vhd disk) ⊎ (last_name ≡ Raw disk) → is_apart us last_name ≡ false
      by (inl at) = ap (is_apart us) at ∙ speaks_vhd disk (inl refl)
      by (inr at) = ap (is_apart us) at ∙ speaks_raw disk (inl refl)

  base_speaks : (n ≡ Vhd base) ⊎ (n ≡ Raw base) → is_apart us n ≡ false
  base_speaks (inl at) = ap (is_apart us) at ∙ speaks_vhd base (inr (inl refl))
  base_speaks (inr at) = ap (is_apart us) at ∙ speaks_raw base (inr (inl refl))

  -- where the base is there the image has its UUID
  pub at_base : image_with t base ≡ Some n → (n ≡ Vhd base) ⊎ (n ≡ Raw base)
  at_base image = by its_stage.place
    where
      by : ((image_with t base ≡ None) × (its_stage.own.hidden ≡ false) × ((n ≡ Vhd disk) ⊎ (n ≡ Raw disk))) ⊎ ((image_with t base ≡ Some n) × ((n ≡ Vhd base) ⊎ (n ≡ Raw base)) × (is_fork_made t disk base twin ≡ true))
          → (n ≡ Vhd base) ⊎ (n ≡ Raw base)
      by (inl k) = absurd (none-some n (sym k.0 ∙ image))
      by (inr k) = k.1

  shown_then : image_with t base ≡ None → its_stage.own.hidden ≡ false
  shown_then none = by its_stage.place
    where
      by : ((image_with t base ≡ None) × (its_stage.own.hidden ≡ false) × ((n ≡ Vhd disk) ⊎ (n ≡ Raw disk))) ⊎ ((image_with t base ≡ Some n) × ((n ≡ Vhd base) ⊎ (n ≡ Raw base)) × (is_fork_made t disk base twin ≡ true))
          → its_stage.own.hidden ≡ false
      by (inl k) = k.1
      by (inr k) = absurd (none-some n (sym none ∙ k.0))

  from_by : (x : Name) → name_eq x e ≡ false → name_eq x (Vhd twin) ≡ false → undone_from t x ≡ from_base disk (image_with t base) x
  from_by x a b = from_is x ∙ ap (λ k. cond k None (from_base disk (image_with t base) x)) (or_from (name_eq x e) (name_eq x (Vhd twin)) a b)

  abbrev base_by : Name → Bool → Bool → Bool → Option Name
  base_by x a b d = cond a (Some n) (cond (b || d) None (Some x))

  from_shown : (x : Name) → image_with t base ≡ Some n → from_base disk (image_with t base) x ≡ base_by x (name_eq x (under_name n disk)) (name_eq x n) (name_eq x (Vhd disk))
  from_shown x is = ap (λ i. from_base disk i x) is

  -- a volume that speaks of none of the three has its name
  from_apart : (x : Name) → is_apart us x ≡ true → undone_from t x ≡ Some x
  from_apart x apart = from_by x (other_than x e apart speaks_e) (other_than x (Vhd twin) apart (speaks_vhd twin (inr (inr refl)))) ∙ by fork_last.3
    where
      by : ((image_with t base ≡ None) × (last_name ≡ n)) ⊎ ((image_with t base ≡ Some n) × (last_name ≡ under_name n disk)) → from_base disk (image_with t base) x ≡ Some x
      by (inl k) = ap (λ i. from_base disk i x) k.0
      by (inr k) =
          from_shown x k.0 ∙ ap (λ a. base_by x a (name_eq x n) (name_eq x (Vhd disk))) (ap (name_eq x) (sym k.1) ∙ other_than x last_name apart last_speaks)
          ∙ ap₂ (λ b d. base_by x false b d) (other_than x n apart (base_speaks (at_base k.0))) (other_than x (Vhd disk) apart (speaks_vhd disk (inl refl)))

  last_other : (last_name ≡ Vhd disk) ⊎ (last_name ≡ Raw disk) → (name_eq last_name e ≡ false) × (name_eq last_name (Vhd twin) ≡ false)
  unfolding name_eq
  last_other (inl at) = (
    ap (λ x. name_eq x e) at,
    name_eq-other last_name (Vhd twin) (λ same. its_stage.disk_twin (let z = sym at ∙ same in cc)),
  )
  last_other (inr at) = (ap (λ x. name_eq x e) at, ap (λ x. name_eq x (Vhd twin)) at)

  -- the disk's image had the name that it had
  from_last : undone_from t last_name ≡ Some n
  from_last = let k = last_other fork_last.4 in from_by last_name k.0 k.1 ∙ by fork_last.3
    where
      by : ((image_with t base ≡ None) × (last_name ≡ n)) ⊎ ((image_with t base ≡ Some n) × (last_name ≡ under_name n disk)) → from_base disk (image_with t base) last_name ≡ Some n
      by (inl k) = ap (λ i. from_base disk i last_name) k.0 ∙ ap Some k.1
      by (inr k) = from_shown last_name k.0 ∙ ap (λ a. base_by last_name a (name_eq last_name n) (name_eq last_name (Vhd disk))) (ap (name_eq last_name) (sym k.1) ∙ name_eq-refl last_name)

  -- any other that speaks of one of the three went, or was not there
  from_other : (x : Name) → is_apart us x ≡ false → x ≢ last_name → (undone_from t x ≡ None) ⊎ ((undone_from t x ≡ Some x) × (rows t x ≡ None))
  from_other x speaks away = first (name_eq x e) (name_eq x (Vhd twin)) refl refl
    where
      went : (r : Row) → x ≢ e → x ≢ Vhd twin → x ≢ n → (image_with t base ≡ Some n → x ≢ Vhd disk) → (x ≡ e) ⊎ ((x ≡ n) ⊎ IsNew disk base twin n x its_stage.own.hidden r) → ⊥
      went r no_e no_twin no_n no_disk (inl is) = no_e is
      went r no_e no_twin no_n no_disk (inr (inl is)) = no_n is
      went r no_e no_twin no_n no_disk (inr (inr new)) = by its_stage.place new.name
        where
          by : ((image_with t base ≡ None) × (its_stage.own.hidden ≡ false) × ((n ≡ Vhd disk) ⊎ (n ≡ Raw disk))) ⊎ ((image_with t base ≡ Some n) × ((n ≡ Vhd base) ⊎ (n ≡ Raw base)) × (is_fork_made t disk base twin ≡ true))
              → (x ≡ Vhd disk) ⊎ (x ≡ Vhd twin) → ⊥
          by (inl k) z = true≢false (sym new.over ∙ k.1)
          by (inr k) (inl is) = no_disk k.0 is
          by (inr k) (inr is) = no_twin is

      absent : x ≢ e → x ≢ Vhd twin → x ≢ n → (image_with t base ≡ Some n → x ≢ Vhd disk) → (rows t x ≡ None) ⊎ ((r : Row) × (rows t x ≡ Some r)) → rows t x ≡ None
      absent a b d f (inl is) = is
      absent a b d f (inr k) = absurd (went k.0 a b d f (its_stage.volumes x k.0 k.1 speaks))

      third : name_eq x e ≡ false → name_eq x (Vhd twin) ≡ false → image_with t base ≡ Some n → name_eq x (under_name n disk) ≡ false → (a b : Bool) → name_eq x n ≡ a → name_eq x (Vhd disk) ≡ b
          → (undone_from t x ≡ None) ⊎ ((undone_from t x ≡ Some x) × (rows t x ≡ None))
      third no_e no_twin image no_to true b is_n is_d = inl (from_by x no_e no_twin ∙ from_shown x image ∙ ap₂ (λ a b. base_by x a b (name_eq x (Vhd disk))) no_to is_n)
      third no_e no_twin image no_to false true is_n is_d =
          inl (from_by x no_e no_twin ∙ from_shown x image ∙ ap (λ a. base_by x a (name_eq x n) (name_eq x (Vhd disk))) no_to ∙ ap₂ (λ b d. base_by x false b d) is_n is_d)
      third no_e no_twin image no_to false false is_n is_d =
          inr (
            from_by x no_e no_twin ∙ from_shown x image ∙ ap (λ a. base_by x a (name_eq x n) (name_eq x (Vhd disk))) no_to ∙ ap₂ (λ b d. base_by x false b d) is_n is_d,
            absent (name_eq-false x e no_e) (name_eq-false x (Vhd twin) no_twin) (name_eq-false x n is_n) (λ z. name_eq-false x (Vhd disk) is_d) (option_cases (rows t x)),
          )

      second : name_eq x e ≡ false → name_eq x (Vhd twin) ≡ false → ((image_with t base ≡ None) × (last_name ≡ n)) ⊎ ((image_with t base ≡ Some n) × (last_name ≡ under_name n disk))
          → (undone_from t x ≡ None) ⊎ ((undone_from t x ≡ Some x) × (rows t x ≡ None))
      second no_e no_twin (inl k) =
          inr (
            from_by x no_e no_twin ∙ ap (λ i. from_base disk i x) k.0,
            absent (name_eq-false x e no_e) (name_eq-false x (Vhd twin) no_twin) (λ same. away (same ∙ sym k.1)) (λ z. absurd (none-some n (sym k.0 ∙ z))) (option_cases (rows t x)),
          )
      second no_e no_twin (inr k) = third no_e no_twin k.0 (name_eq-other x (under_name n disk) (λ same. away (same ∙ sym k.1))) (name_eq x n) (name_eq x (Vhd disk)) refl refl

      first : (a b : Bool) → name_eq x e ≡ a → name_eq x (Vhd twin) ≡ b → (undone_from t x ≡ None) ⊎ ((undone_from t x ≡ Some x) × (rows t x ≡ None))
      first true b is_e is_t = inl (from_is x ∙ ap (λ k. cond (k || name_eq x (Vhd twin)) None (from_base disk (image_with t base) x)) is_e)
      first false true is_e is_t = inl (from_is x ∙ ap₂ (λ k w. cond (k || w) None (from_base disk (image_with t base) x)) is_e is_t)
      first false false is_e is_t = second is_e is_t fork_last.3

  -- and is not there any more
  pub gone_last : (x : Name) → is_apart us x ≡ false → x ≢ last_name → rows (undone t) x ≡ None
  gone_last x speaks away = by (option_cases (rows (undone t) x))
    where
      some_entry : making (undone t) ≡ e ∷ [] → ⊥
      some_entry made = let z = sym last_making ∙ made in cc

      of : (r : Row) → ((x ≡ e) × (making (undone t) ≡ e ∷ [])) ⊎ ((x ≡ last_name) ⊎ (IsNew disk base twin last_name x false r × (last_name ≡ n) × (rows t x ≡ Some r))) → ⊥
      of r (inl k) = some_entry k.1
      of r (inr (inl is)) = away is
      of r (inr (inr k)) = let one = k.0 in true≢false (sym one.over)

      by : (rows (undone t) x ≡ None) ⊎ ((r : Row) × (rows (undone t) x ≡ Some r)) → rows (undone t) x ≡ None
      by (inl is) = is
      by (inr k) = absurd (of k.0 (last_part.volumes x k.0 k.1 speaks))

  -- ---- the volumes and images without the fork

  back_itself : (x : Name) (o : Option Row) → (o >>= (λ r. Some (named_back x x r))) ≡ o
  back_itself x None = refl
  back_itself x (Some r) = ap (λ b. Some (cond b r (record { name = x; hidden = false; fresh = r.fresh; extents = r.extents }))) (name_eq-refl x)

  back_last : named_back last_name n its_stage.own ≡ kept_as its_stage.own last_name false
  back_last = by fork_last.3
    where
      by : ((image_with t base ≡ None) × (last_name ≡ n)) ⊎ ((image_with t base ≡ Some n) × (last_name ≡ under_name n disk)) → named_back last_name n its_stage.own ≡ kept_as its_stage.own last_name false
      by (inl k) =
          ap (λ b. cond b its_stage.own (kept_as its_stage.own last_name false)) (ap (λ x. name_eq x n) k.1 ∙ name_eq-refl n)
          ∙ ap₂ (kept_as its_stage.own) (row_of-name t.volumes n its_stage.own its_stage.there ∙ sym k.1) (shown_then k.0)
      by (inr k) = ap (λ b. cond b its_stage.own (kept_as its_stage.own last_name false)) (name_eq-other last_name n (λ same. differ fork_last.4 (at_base k.0) same))
        where
          differ : (last_name ≡ Vhd disk) ⊎ (last_name ≡ Raw disk) → (n ≡ Vhd base) ⊎ (n ≡ Raw base) → last_name ≡ n → ⊥
          differ (inl a) (inl b) same = its_stage.disk_base (let z = sym a ∙ same ∙ b in cc)
          differ (inr a) (inr b) same = its_stage.disk_base (let z = sym a ∙ same ∙ b in cc)
          differ (inl a) (inr b) same = let z = sym a ∙ same ∙ b in cc
          differ (inr a) (inl b) same = let z = sym a ∙ same ∙ b in cc

  abbrev back_by : Name → Option Name → Option Row
  back_by x o = o >>= (λ was. rows t was >>= (λ r. Some (named_back x was r)))

  pub fork_rows : (x : Name) → rows (undone t) x ≡ row_back t x
  fork_rows x = by (is_apart us x) (name_eq x last_name) refl refl
    where
      other : (undone_from t x ≡ None) ⊎ ((undone_from t x ≡ Some x) × (rows t x ≡ None)) → row_back t x ≡ None
      other (inl none) = ap (back_by x) none
      other (inr k) = ap (back_by x) k.0 ∙ ap (λ o. o >>= (λ r. Some (named_back x x r))) k.1

      by : (a b : Bool) → is_apart us x ≡ a → name_eq x last_name ≡ b → rows (undone t) x ≡ row_back t x
      by true b apart is = last_part.apart x apart ∙ sym (ap (back_by x) (from_apart x apart) ∙ back_itself x (rows t x))
      by false true speaks is =
          let at = name_eq-true x last_name is in
          ap (rows (undone t)) at ∙ last_part.there ∙ ap Some (sym back_last)
          ∙ sym (ap (λ y. back_by y (undone_from t y)) at ∙ ap (back_by last_name) from_last ∙ ap (λ o. o >>= (λ r. Some (named_back last_name n r))) its_stage.there)
      by false false speaks is = let away = name_eq-false x last_name is in gone_last x speaks away ∙ sym (other (from_other x speaks away))

  pub fork_images : (x : Name) → image_of (undone_content c) x ≡ image_back c x
  fork_images x = by (is_apart us x) (name_eq x last_name) refl refl
    where
      now : IsForkPart c.count t disk base twin n its_stage.own t n its_stage.own.hidden
      now = part_now c.count t disk base twin n table entry its_stage

      other : (undone_from t x ≡ None) ⊎ ((undone_from t x ≡ Some x) × (rows t x ≡ None)) → (undone_from t x >>= image_of c) ≡ None
      other (inl none) = ap (λ o. o >>= image_of c) none
      other (inr k) = ap (λ o. o >>= image_of c) k.0 ∙ no_image c disk base twin n table geometry room entry s its_stage t n its_stage.own.hidden now c.area (λ q below. refl) x k.1

      by : (a b : Bool) → is_apart us x ≡ a → name_eq x last_name ≡ b → image_of (undone_content c) x ≡ (undone_from t x >>= image_of c)
      by true b apart is =
          images_apart c disk base twin n table geometry room entry s its_stage (undone t) last_name false last_part c.area (λ q below. refl) x apart ∙ sym (ap (λ o. o >>= image_of c) (from_apart x apart))
      by false true speaks is =
          let at = name_eq-true x last_name is in
          ap (image_of (undone_content c)) at ∙ image_kept c disk base twin n table geometry room entry s its_stage (undone t) last_name false last_part c.area (λ q below. refl)
          ∙ sym (ap (λ y. undone_from t y >>= image_of c) at ∙ ap (λ o. o >>= image_of c) from_last)
      by false false speaks is =
          let away = name_eq-false x last_name is in
          no_image c disk base twin n table geometry room entry s its_stage (undone t) last_name false last_part c.area (λ q below. refl) x (gone_last x speaks away) ∙ sym (other (from_other x speaks away))
