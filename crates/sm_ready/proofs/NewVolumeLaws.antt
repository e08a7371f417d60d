-- A volume that is new, where new volumes are removed one after another: it may go, and it is beside the images.
use Rattle.std.proofs.Common.{◌≡◌, ◌≢◌, ℕ, ◌<◌, true, false, not, length, Some, None, sym, ap, ◌∙◌, subst, subst₂, arith}
use Rattle.std.specs.List.{find}
use Rattle.std.proofs.lemmas.Bool.{and_parts, true≢false}
use Rattle.sm_base.specs.declared.names.Name.{Name}
use Rattle.sm_base.specs.declared.names.Name.TheVariants.{Mgt}
use Rattle.vg_meta.specs.Changes.{applied, Permits}
use Rattle.vg_meta.specs.Roomy.{RoomyTable, RoomyRow, table_alone, rows_alone}
use Rattle.vg_meta.specs.Tables.{VolumeTable, Row, IsTable, IsVolume, suits}
use Rattle.vg_meta.specs.declared.changes.Change.TheVariants.{Remove}
use Rattle.vg_meta.proofs.NameLaws.{name_eq-true}
use Rattle.vg_meta.proofs.RowLaws.{row_of-name, All-row_of}
use Rattle.vg_meta.proofs.SpliceLaws.{length-without}
use Rattle.vg_volumes.specs.Sites.{Site}
use Rattle.common_laws.specs.Lists.{In}
use Rattle.common_laws.proofs.Lists.{In-map, In-map_at, find-some, none_find}
use Rattle.sm_machine.specs.WellFormed.{is_image_name}
use Rattle.sm_standing.proofs.DisksShown.{row_of-In}
use Rattle.sm_ready.specs.Known.{Known}
use Rattle.sm_ready.specs.Orderly.{IsOrderly}
use Rattle.sm_ready.specs.Repairs.{IsNewVolume}
use Rattle.sm_ready.proofs.BesideLaws.{IsBeside}
use Rattle.sm_ready.proofs.RowLaws.{found_in}

-- ---- it may go

mgt_not_new : (r : Row) → suits r ≡ true → r.name ≡ Mgt → r.fresh ≡ true → ⊥
mgt_not_new r right name fresh =
    let kind = subst₂ (λ n f. suits (record { name = n; hidden = r.hidden; fresh = f; extents = r.extents }) ≡ true) name fresh right in
    true≢false (sym (and_parts (not r.hidden) false kind).1)

module _ {count : ℕ} {t : VolumeTable} {n : Name} (table : IsTable count t) (new : IsNewVolume t n) where
  -- it is not that of the records
  pub not_records : n ≢ Mgt
  not_records same =
      let v = All-row_of IsVolume t.volumes n new.0 table.volumes.each new.1 in
      mgt_not_new new.0 v.kind (row_of-name t.volumes n new.0 new.1 ∙ same) new.2

  pub may_remove : Permits count t (Remove n)
  may_remove = record { row = new.0; there = new.1; not_mgt = not_records }

pub new_beside : {s : Site} {t : VolumeTable} {m : Known} (n : Name) (new : IsNewVolume t n) → IsOrderly s t m → IsBeside s t n new.0 (Remove n)
new_beside {s} {t} {m} n new o =
    let at = row_of-In t.volumes n new.0 new.1 in
    record {
      there = new.1;
      fresh = new.2;
      allows = may_remove o.table new;
      image = subst (λ x. is_image_name x ≡ true) (name_eq-true new.0.name n at.1) (o.new_named new.0 at.0 new.2).1;
    }

pub removed_shorter : (t u : VolumeTable) (n : Name) → IsNewVolume t n → u ≡ applied t (Remove n) → length u.volumes < length t.volumes
removed_shorter t u n new is = omega (arith, ap (λ (x : VolumeTable). length x.volumes) is, length-without t.volumes n new.0 new.1)

-- ---- the first of them in memory

pub new_first : {count : ℕ} (k : RoomyTable) (h : RoomyRow) → IsTable count (table_alone k) → Some h ≡ find (λ (x : RoomyRow). x.row.fresh) k.rows → IsNewVolume (table_alone k) h.row.name
new_first k h table found =
    let w = find-some (λ (x : RoomyRow). x.row.fresh) k.rows h (sym found) in
    (h.row, found_in (rows_alone k.rows) table.volumes.rising h.row (In-map_at (λ (x : RoomyRow). x.row) k.rows h w.0), w.1)

pub new_none : (k : RoomyTable) → None ≡ find (λ (x : RoomyRow). x.row.fresh) k.rows → (r : Row) → In r (rows_alone k.rows) → r.fresh ≡ false
new_none k found r there =
    let w = In-map (λ (x : RoomyRow). x.row) k.rows r there in
    ap (λ (x : Row). x.fresh) w.2 ∙ none_find (λ (x : RoomyRow). x.row.fresh) k.rows (sym found) w.0 w.1

-- said of a table in memory, it holds of the one that it is
pub new_at : {a b : RoomyTable} (n : Name) → a ≡ b → IsNewVolume (table_alone a) n → IsNewVolume (table_alone b) n
new_at n same new = subst (λ k. IsNewVolume (table_alone k) n) same new

pub none_at : {t u : VolumeTable} → t ≡ u → ((r : Row) → In r t.volumes → r.fresh ≡ false) → (r : Row) → In r u.volumes → r.fresh ≡ false
none_at same none = subst (λ x. (r : Row) → In r x.volumes → r.fresh ≡ false) same none
