-- The row of a disk's own image, where a command of the disk is not refused.
use Rattle.std.proofs.Common.{◌≡◌, ⊎_elim, ℕ, Bool, true, false, cond, List, map, Option, Some, None, is_some, is_none, refl, sym, ap, ◌∙◌}
use Rattle.std.proofs.Math.Logic.{∥∥₁_elim}
use Rattle.std.proofs.Props.{props}
use Rattle.std.proofs.lemmas.Bool.{true≢false}
use Rattle.std.proofs.lemmas.Option.{none-some, same_Some}
use Rattle.std.proofs.lemmas.Slice.Eq.{bytes_eq-Decides}
use Rattle.std.specs.Str.{bytes_eq}
use Rattle.common_laws.specs.Lists.{In}
use Rattle.common_laws.proofs.Lists.{In-map, In-map_at, Distinct-key, find-some}
use Rattle.sm_base.specs.declared.names.Name.TheVariants.{Vhd, Raw}
use Rattle.sm_base.specs.declared.operations.Mode.{Mode}
use Rattle.sm_base.specs.declared.operations.Mode.TheVariants.{Ro, Rw}
use Rattle.vg_meta.specs.Tables.{VolumeTable}
use Rattle.vg_volumes.specs.Sites.{Site}
use Rattle.vhd_chain.specs.Trees.{row_name, tree_row}
use Rattle.vhd_chain.specs.declared.rows.TreeRow.{TreeRow}
use Rattle.sm_machine.specs.declared.commands.Command.{Command}
use Rattle.sm_machine.specs.Shapes.{ImageRow, DiskRecord, image_uuid, is_vhd, disk_record, attached_as, is_rw, is_ro}
use Rattle.sm_machine.specs.Refusals.{refusal, named, is_unknown, of_some}
use Rattle.sm_machine.specs.WellFormed.{IsWellFormed}
use Rattle.sm_machine.proofs.Passed.{passed}
use Rattle.sm_ready.specs.Known.{Known, machine_row, shape_in}
use Rattle.sm_ready.specs.Orderly.{IsOrderly}
use Rattle.sm_ready.proofs.CauseLaws.{named_as, vhd_uuid, raw_uuid}
use Rattle.sm_ready.proofs.Orders.{In-tree_row, named_row}
use Rattle.sm_ready.proofs.OwnLaws.{named_known}
use Rattle.sm_ready.proofs.RowLaws.{tree_found}
use Rattle.cmd_guest.specs.Writing.{own_name}

pub own_uuid : (rows : List TreeRow) (u : List ℕ) → image_uuid (own_name rows u) ≡ u
own_uuid rows u = by (is_some (tree_row rows (Vhd u)))
  where
    by : (b : Bool) → image_uuid (cond b (Vhd u) (Raw u)) ≡ u
    by true = vhd_uuid u
    by false = raw_uuid u

module _ (s : Site) (t : VolumeTable) (m : Known) (u : List ℕ) (o : IsOrderly s t m) where
  -- ---- an image of the UUID is the own one

  one_row : (w : IsWellFormed (shape_in s t m)) (q r : TreeRow) → In q m.rows → In r m.rows → image_uuid (row_name q) ≡ u → image_uuid (row_name r) ≡ u → machine_row q ≡ machine_row r
  unfolding shape_in
  one_row w q r i j named also = Distinct-key (λ (y : ImageRow). image_uuid y.name) (map machine_row m.rows) (machine_row q) (machine_row r) w.one_image (In-map_at machine_row m.rows q i) (In-map_at machine_row m.rows r j) (named ∙ sym also)

  pub own_name_is : IsWellFormed (shape_in s t m) → (q : TreeRow) → In q m.rows → image_uuid (row_name q) ≡ u → own_name m.rows u ≡ row_name q
  unfolding shape_in is_vhd
  own_name_is w q i uuid = ⊎_elim
      (λ vhd. ap (λ x. cond (is_some x) (Vhd u) (Raw u)) (sym (ap (tree_row m.rows) vhd) ∙ tree_found m.rows q w.one_image i) ∙ sym vhd)
      (λ raw. ap (λ x. cond (is_some x) (Vhd u) (Raw u)) (none raw (tree_row m.rows (Vhd u)) refl) ∙ sym raw)
      (named_as (row_name q) u (named_row s t m q o i) uuid)
    where
      none : row_name q ≡ Raw u → (x : Option TreeRow) → tree_row m.rows (Vhd u) ≡ x → x ≡ None
      none raw None e = refl
      none raw (Some r) e =
          let f = In-tree_row m.rows (Vhd u) r e in
          absurd (true≢false (sym (ap is_vhd f.1) ∙ ap (λ (y : ImageRow). is_vhd y.name) (one_row w r q f.0 i (ap image_uuid f.1 ∙ vhd_uuid u) uuid) ∙ ap is_vhd raw))

  -- ---- the disk is there

  record HasOwn : Type 0 where
    row : TreeRow
    there : In row m.rows
    shown : row.hidden ≡ false
    found : tree_row m.rows (own_name m.rows u) ≡ Some row

  own_in : (c : Command) → named c ≡ Some u → refusal (shape_in s t m) c ≡ None → IsWellFormed (shape_in s t m) → HasOwn
  unfolding is_unknown shape_in
  own_in c names allowed w = by (disk_record u (shape_in s t m)) refl (named_known (shape_in s t m) c u names (passed (shape_in s t m) c allowed).unknown)
    where
      by : (x : Option DiskRecord) → disk_record u (shape_in s t m) ≡ x → is_none (disk_record u (shape_in s t m)) ≡ false → HasOwn
      by None e none = absurd (true≢false (sym (ap is_none e) ∙ none))
      by (Some d) e none =
          let f = find-some (λ (r : DiskRecord). bytes_eq r.uuid u) (shape_in s t m).records d e in
          let uuid = (bytes_eq-Decides d.uuid u).0 f.1 in
          let i = w.disks d f.0 in
          let q = In-map machine_row m.rows i.0 i.1 in
          let named : image_uuid (row_name q.0) ≡ u = sym (ap (λ (y : ImageRow). image_uuid y.name) q.2) ∙ i.3 ∙ uuid in
          record {
            row = q.0;
            there = q.1;
            shown = sym (ap (λ (y : ImageRow). y.hidden) q.2) ∙ i.2;
            found = ap (tree_row m.rows) (own_name_is w q.0 q.1 named) ∙ tree_found m.rows q.0 w.one_image q.1;
          }

  pub own_there : (c : Command) → named c ≡ Some u → refusal (shape_in s t m) c ≡ None → tree_row m.rows (own_name m.rows u) ≡ None → ⊥
  own_there c names allowed none = ∥∥₁_elim o.well_formed (hlevel props) (λ w. let h = own_in c names allowed w in none-some h.row (sym none ∙ h.found))

  pub own_shown : (c : Command) → named c ≡ Some u → refusal (shape_in s t m) c ≡ None → (r : TreeRow) → tree_row m.rows (own_name m.rows u) ≡ Some r → r.hidden ≡ false
  own_shown c names allowed r found = ∥∥₁_elim o.well_formed (hlevel props) (λ w. let h = own_in c names allowed w in ap (λ (q : TreeRow). q.hidden) (same_Some r h.row (sym found ∙ h.found)) ∙ h.shown)

-- ---- how it is attached

attached_rw : (x : Option Mode) → is_none x ≡ false → is_ro x ≡ false → is_rw x ≡ true
attached_rw None some not_ro = absurd (true≢false some)
attached_rw (Some Ro) some not_ro = absurd (true≢false not_ro)
attached_rw (Some Rw) some not_ro = refl

-- ---- what is known of the own image of a disk that is attached for writing

pub record IsOwn (s : Site) (t : VolumeTable) (m : Known) (u : List ℕ) (r : TreeRow) : Type 0 where
  pub there : In r m.rows
  pub found : tree_row m.rows (row_name r) ≡ Some r
  pub name : own_name m.rows u ≡ row_name r
  pub uuid : image_uuid (row_name r) ≡ u
  pub shown : r.hidden ≡ false
  pub attached : is_rw (attached_as u (shape_in s t m)) ≡ true

pub own_row : (s : Site) (t : VolumeTable) (m : Known) (u : List ℕ) (o : IsOrderly s t m) (c : Command) (r : TreeRow) → named c ≡ Some u → refusal (shape_in s t m) c ≡ None → is_none (attached_as u (shape_in s t m)) ≡ false
    → is_ro (attached_as u (shape_in s t m)) ≡ false → tree_row m.rows (own_name m.rows u) ≡ Some r → IsOwn s t m u r
own_row s t m u o c r names allowed some not_ro found =
    let f = In-tree_row m.rows (own_name m.rows u) r found in
    record {
      there = f.0;
      found = ap (tree_row m.rows) f.1 ∙ found;
      name = sym f.1;
      uuid = ap image_uuid f.1 ∙ own_uuid m.rows u;
      shown = own_shown s t m u o c names allowed r found;
      attached = attached_rw (attached_as u (shape_in s t m)) some not_ro;
    }
