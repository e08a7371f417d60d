-- The image of the disk that a command names, where the command is not refused.
use Rattle.std.proofs.Common.{◌≡◌, ◌≢◌, ◌⊎◌, inl, inr, ℕ, ◌+◌, Bool, true, false, not, ◌&&◌, if◌then◌else◌, List, map, Option, Some, None, refl, sym, ap, ◌∙◌, subst, arith}
use Rattle.std.specs.Prelude.{is_none, is_some}
use Rattle.std.proofs.Math.Logic.{∥∥₁_elim}
use Rattle.std.proofs.Props.{props}
use Rattle.std.specs.Str.{bytes_eq}
use Rattle.std.proofs.lemmas.Bool.{or_parts, true≢false}
use Rattle.sm_base.specs.declared.names.Name.{Name}
use Rattle.sm_base.specs.declared.names.Name.TheVariants.{Vhd, Raw}
use Rattle.common_laws.specs.Lists.{In}
use Rattle.common_laws.proofs.Bytes.{bytes_eq-same}
use Rattle.common_laws.proofs.Lists.{Distinct-key, In-map, In-map_at, find-some}
use Rattle.vg_meta.specs.Tables.{VolumeTable}
use Rattle.vg_volumes.specs.Sites.{Site}
use Rattle.vhd_chain.specs.Trees.{row_name, tree_row}
use Rattle.vhd_chain.specs.declared.rows.TreeRow.{TreeRow}
use Rattle.sm_machine.specs.declared.commands.Command.{Command}
use Rattle.sm_machine.specs.Commits.{commits, is_given_up, own_commits, one_if}
use Rattle.sm_machine.specs.Refusals.{also_named, named, refusal, is_unknown, of_some}
use Rattle.sm_machine.specs.Shapes.{DiskRecord, ImageRow, Shape, disk_image, disk_record, image_uuid, is_image_of, risen}
use Rattle.sm_machine.specs.Steps.{State, accepted, given_up, shape_after, shape_next, step, unless_refused}
use Rattle.sm_machine.specs.WellFormed.{HasRecord, IsWellFormed}
use Rattle.sm_machine.proofs.Attaches.{is_its_image}
use Rattle.sm_machine.proofs.Guests.{disk_image_is, disks_own}
use Rattle.sm_machine.proofs.Passed.{passed}
use Rattle.sm_ready.specs.Known.{Known, is_shown, machine_row, shape_in}
use Rattle.sm_ready.specs.Orderly.{IsOrderly}
use Rattle.sm_ready.proofs.CauseLaws.{named_as}
use Rattle.sm_ready.proofs.OnceLaws.{any_In}
use Rattle.sm_ready.proofs.Orders.{named_row}
use Rattle.sm_ready.proofs.RowLaws.{tree_found}
use Rattle.sm_ready.proofs.ShapeLaws.{any_at}
use Rattle.sm_ready.proofs.ShownLaws.{no_twin}

-- the row of a disk's own image: visible, with its UUID
pub record IsOwn (m : Known) (u : List ℕ) : Type 0 where
  pub row : TreeRow
  pub there : In row m.rows
  pub shown : row.hidden ≡ false
  pub uuid : image_uuid (row_name row) ≡ u

-- the first disk that is named by a command that is not refused has a record
pub named_known : (σ : Shape) (c : Command) (u : List ℕ) → named c ≡ Some u → is_unknown σ c ≡ false → is_none (disk_record u σ) ≡ false
unfolding is_unknown
named_known σ c u is known =
    let unknown : Option (List ℕ) → Bool = of_some (λ v. is_none (disk_record v σ)) in
    sym (ap unknown is) ∙ (or_parts (unknown (also_named c)) (unknown (named c)) known).1

-- a disk that is named by a command that is not refused has one
pub own_row : (s : Site) (t : VolumeTable) (m : Known) (c : Command) (u : List ℕ) → IsOrderly s t m → refusal (shape_in s t m) c ≡ None → named c ≡ Some u → IsOwn m u
unfolding shape_in
own_row s t m c u o passes is =
    let e = ∥∥₁_elim o.well_formed (hlevel props) shown_in in
    let x = any_In (λ r. is_image_of u (machine_row r)) m.rows e in
    let y = own_parts (machine_row x.0) x.2 in
    record { row = x.0; there = x.1; shown = y.0; uuid = y.1 }
  where
    own_parts : (i : ImageRow) → is_image_of u i ≡ true → (i.hidden ≡ false) × (image_uuid i.name ≡ u)
    own_parts i e = by i.hidden (bytes_eq (image_uuid i.name) u) refl refl e
      where
        by : (a b : Bool) → i.hidden ≡ a → bytes_eq (image_uuid i.name) u ≡ b → (not a && b) ≡ true → (i.hidden ≡ false) × (image_uuid i.name ≡ u)
        by false b h same e = (h, bytes_eq-same (image_uuid i.name) u (same ∙ e))
        by true b h same e = absurd (true≢false (sym e))

    some_record : (x : Option DiskRecord) → disk_record u (shape_in s t m) ≡ x → is_none x ≡ false → HasRecord (shape_in s t m) u
    some_record None e h = absurd (true≢false h)
    some_record (Some r) e h = let f = find-some (λ (q : DiskRecord). bytes_eq q.uuid u) (shape_in s t m).records r e in (r, f.0, bytes_eq-same r.uuid u f.1)

    shown_in : IsWellFormed (shape_in s t m) → is_shown m.rows u ≡ true
    shown_in w =
        let known = named_known (shape_in s t m) c u is (passed (shape_in s t m) c passes).unknown in
        let r = some_record (disk_record u (shape_in s t m)) refl known in
        let i = w.disks r.0 r.1 in
        let q = In-map machine_row m.rows i.0 i.1 in
        any_at (λ x. is_image_of u (machine_row x)) m.rows q.0 q.1 (subst (λ y. is_image_of u y ≡ true) q.2 (is_its_image i.0 u i.2 (i.3 ∙ r.2)))

-- its name, found by the UUID
pub own_name : (s : Site) (t : VolumeTable) (m : Known) (u : List ℕ) (n : Name) → IsOrderly s t m → (own : IsOwn m u) → n ≡ (if is_some (tree_row m.rows (Vhd u)) then Vhd u else Raw u) → n ≡ row_name own.row
unfolding shape_in
own_name s t m u n o own is = ∥∥₁_elim o.well_formed (hlevel props) (λ w. is ∙ by w (named_as (row_name own.row) u (named_row s t m own.row o own.there) own.uuid))
  where
    by : IsWellFormed (shape_in s t m) → (row_name own.row ≡ Vhd u) ⊎ (row_name own.row ≡ Raw u) → (if is_some (tree_row m.rows (Vhd u)) then Vhd u else Raw u) ≡ row_name own.row
    by w (inl vhd) = ap (λ x. if is_some x then Vhd u else Raw u) (ap (tree_row m.rows) (sym vhd) ∙ tree_found m.rows own.row w.one_image own.there) ∙ sym vhd
    by w (inr raw) = ap (λ x. if is_some x then Vhd u else Raw u) (no_twin s t m own.row u w own.there raw) ∙ sym raw

-- it is the machine's image of the disk
pub own_image : (s : Site) (t : VolumeTable) (m : Known) (u : List ℕ) → IsOrderly s t m → (own : IsOwn m u) → disk_image u (shape_in s t m) ≡ Some (machine_row own.row)
unfolding shape_in
own_image s t m u o own = ∥∥₁_elim o.well_formed (hlevel props) (λ w.
    disk_image_is (shape_in s t m) w u (machine_row own.row) (In-map_at machine_row m.rows own.row own.there) (is_its_image (machine_row own.row) u own.shown own.uuid))

-- and no other is
pub other_image : (s : Site) (t : VolumeTable) (m : Known) (u : List ℕ) (r : TreeRow) → IsWellFormed (shape_in s t m) → In r m.rows → image_uuid (row_name r) ≡ u → (p : TreeRow) → In p m.rows → row_name p ≢ row_name r → is_image_of u (machine_row p) ≡ false
unfolding shape_in
other_image s t m u r w there uuid p i other = by (is_image_of u (machine_row p)) refl
  where
    by : (b : Bool) → is_image_of u (machine_row p) ≡ b → is_image_of u (machine_row p) ≡ false
    by false is = is
    by true is =
        absurd (other (ap (λ (y : ImageRow). y.name) (Distinct-key (λ (y : ImageRow). image_uuid y.name) (map machine_row m.rows) (machine_row p) (machine_row r) w.one_image
        (In-map_at machine_row m.rows p i) (In-map_at machine_row m.rows r there) ((disks_own (shape_in s t m) w u (machine_row p) is).1 ∙ sym uuid))))

-- ---- the step of a command that is not refused

pub step_shape : (σ : State) (c : Command) → refusal σ.shape c ≡ None → (step σ c).after.shape ≡ shape_next σ.shape c
unfolding step accepted
step_shape σ c passes = ap (λ x. (unless_refused x σ c).after.shape) passes

-- one that makes no commit and gives no operation up changes no more than its own
pub next_shape : (σ : Shape) (c : Command) → IsWellFormed σ → is_given_up σ c ≡ false → own_commits σ c ≡ 0 → shape_next σ c ≡ record (shape_after σ c) { sequence = σ.sequence }
unfolding shape_next commits
next_shape σ c w keeps none =
    ap (λ (b : Bool). record (given_up b (shape_after σ c)) { sequence = risen σ.sequence (one_if b + own_commits σ c) }) keeps
    ∙ ap (λ (k : ℕ). let x : Shape = record (shape_after σ c) { sequence = k } in x) (ap (λ k. risen σ.sequence (0 + k)) none ∙ stays)
  where
    stays : risen σ.sequence (0 + 0) ≡ σ.sequence
    stays = let most = w.sequence in omega (arith, most)
