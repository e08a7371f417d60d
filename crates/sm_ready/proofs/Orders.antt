-- What orderly memory says of the table, volume by volume.
use Rattle.std.proofs.Common.{◌≡◌, inl, inr, ℕ, ◌*◌, ◌≤◌, Bool, true, false, cond, List, [], ◌∷◌, length, Option, Some, None, refl, sym, ap, ◌∙◌, subst, arith}
use Rattle.std.proofs.Math.Logic.{∥∥₁_elim}
use Rattle.std.proofs.Props.{props}
use Rattle.std.proofs.lemmas.Bool.{true≢false}
use Rattle.std.proofs.lemmas.Option.{none-some, same_Some}
use Rattle.sm_base.specs.Numbers.{IsGeometry}
use Rattle.sm_base.specs.declared.names.Name.{Name}
use Rattle.sm_base.specs.declared.names.Name.TheVariants.{Mgt, Vhd, Raw, Old, Cbt, Clone, Inflate, Coalesce, Relink, Leaf}
use Rattle.sm_machine.specs.Operations.{Op}
use Rattle.vg_meta.specs.Tables.{VolumeTable, Row, rows, name_eq, names_of}
use Rattle.sm_base.specs.Kinds.{is_image, is_entry}
use Rattle.vg_meta.proofs.NameLaws.{name_eq-true}
use Rattle.vg_volumes.specs.Sites.{Site}
use Rattle.vhd_volumes.specs.declared.heads.Head.{Head}
use Rattle.common_laws.specs.Lists.{In}
use Rattle.sm_machine.specs.WellFormed.{IsWellFormed, IsImageRow, is_image_name, table_length}
use Rattle.common_laws.proofs.Lists.{In-map_at, In-filter, filter-In}
use Rattle.sm_standing.specs.Entries.{making, is_making}
use Rattle.vhd_image.specs.declared.images.Body.{Body}
use Rattle.vhd_image.specs.Bodies.{StandsIn}
use Rattle.vhd_chain.specs.Reading.{slots_of}
use Rattle.sm_ready.specs.Known.{Known, Face, machine_row, shape_in, entry_of, row_face, tree_face}
use Rattle.vhd_chain.specs.declared.rows.TreeRow.{TreeRow}
use Rattle.vhd_chain.specs.Trees.{row_name, tree_row}
use Rattle.sm_ready.specs.Orderly.{IsOrderly}
use Rattle.sm_standing.specs.Volumes.{IsAtSize}
use Rattle.sm_standing.proofs.ImageSectors.{whole_none}
use Rattle.sm_machine.specs.Operations as op
use Rattle.vhd_image.specs.declared.images.Body.TheVariants as body

pub geometry_of : (s : Site) (t : VolumeTable) (m : Known) → IsOrderly s t m → IsGeometry s.geometry.extent s.geometry.block s.geometry.entries
unfolding shape_in
geometry_of s t m o = ∥∥₁_elim o.well_formed (hlevel props) (λ w. w.geometry)

-- ---- rows of memory by name

pub In-tree_row : (rs : List TreeRow) (n : Name) (r : TreeRow) → tree_row rs n ≡ Some r → In r rs × (row_name r ≡ n)
unfolding tree_row
In-tree_row [] n r e = absurd (none-some r e)
In-tree_row (x ∷ rs) n r e = by (λ e. In-tree_row rs n r e) (name_eq (row_name x) n) refl e
  where
    by : (tree_row rs n ≡ Some r → In r rs × (row_name r ≡ n)) → (b : Bool) → name_eq (row_name x) n ≡ b → cond b (Some x) (tree_row rs n) ≡ Some r → In r (x ∷ rs) × (row_name r ≡ n)
    by rest true is e = let same = same_Some x r e in (inl (sym same), ap row_name (sym same) ∙ name_eq-true (row_name x) n is)
    by rest false is e = let w = rest e in (inr w.0, w.1)

-- the row of memory behind an image's volume
pub record IsRowed (m : Known) (n : Name) (r : Row) : Type 0 where
  pub row : TreeRow
  pub found : tree_row m.rows n ≡ Some row
  pub there : In row m.rows
  pub named : row_name row ≡ n
  pub hidden : row.hidden ≡ r.hidden
  pub filled : r.fresh ≡ false
  pub long : row.extents ≡ length r.extents

pub filled_face : (r : Row) → r.fresh ≡ false → row_face (Some r) ≡ Some (record { hidden = r.hidden; extents = length r.extents })
filled_face r e = ap (λ b. cond b None (Some (record { hidden = r.hidden; extents = length r.extents }))) e

pub fresh_face : (r : Row) → r.fresh ≡ true → row_face (Some r) ≡ None
fresh_face r e = ap (λ b. cond b None (Some (record { hidden = r.hidden; extents = length r.extents }))) e

pub rowed : (s : Site) (t : VolumeTable) (m : Known) (n : Name) (r : Row) → IsOrderly s t m → is_image n ≡ true → rows t n ≡ Some r → r.fresh ≡ false → IsRowed m n r
rowed s t m n r o image there full = by (tree_row m.rows n) refl (sym (ap row_face there ∙ filled_face r full) ∙ o.images n image)
  where
    by : (x : Option TreeRow) → tree_row m.rows n ≡ x → Some (record { hidden = r.hidden; extents = length r.extents }) ≡ tree_face x → IsRowed m n r
    by None is e = absurd (none-some (record { hidden = r.hidden; extents = length r.extents }) (sym e))
    by (Some x) is e =
        let f : record { hidden = r.hidden; extents = length r.extents } ≡ record { hidden = x.hidden; extents = x.extents } = same_Some _ _ e in
        let w = In-tree_row m.rows n x is in
        record { row = x; found = is; there = w.0; named = w.1; hidden = sym (ap (λ (g : Face). g.hidden) f); filled = full; long = sym (ap (λ (g : Face). g.extents) f) }

pub unrowed : (s : Site) (t : VolumeTable) (m : Known) (n : Name) → IsOrderly s t m → is_image n ≡ true → rows t n ≡ None → tree_row m.rows n ≡ None
unrowed s t m n o image gone = by (tree_row m.rows n) (sym (ap row_face gone) ∙ o.images n image)
  where
    by : (x : Option TreeRow) → row_face None ≡ tree_face x → x ≡ None
    by None e = refl
    by (Some x) e = absurd (none-some (record { hidden = x.hidden; extents = x.extents }) e)

-- a new volume is no row of memory
pub new_unrowed : (s : Site) (t : VolumeTable) (m : Known) (n : Name) (r : Row) → IsOrderly s t m → is_image n ≡ true → rows t n ≡ Some r → r.fresh ≡ true → tree_row m.rows n ≡ None
new_unrowed s t m n r o image there fresh = by (tree_row m.rows n) (sym (ap row_face there ∙ fresh_face r fresh) ∙ o.images n image)
  where
    by : (x : Option TreeRow) → None ≡ tree_face x → x ≡ None
    by None e = refl
    by (Some x) e = absurd (none-some (record { hidden = x.hidden; extents = x.extents }) e)

-- ---- kinds

-- what the machine says of the row of an image
image_row : (s : Site) (t : VolumeTable) (m : Known) (r : TreeRow) → IsWellFormed (shape_in s t m) → In r m.rows → IsImageRow (shape_in s t m) (machine_row r)
unfolding shape_in
image_row s t m r w there = w.images (machine_row r) (In-map_at machine_row m.rows r there)

some_entries : (n : ℕ) → 1 ≤ n → 0 ≡ n → ⊥
some_entries n some e = omega (arith, some, e)

-- a row under a VHD image's name has a VHD image
pub record HasHead (r : TreeRow) : Type 0 where
  pub head : Head
  pub slots : List (Option ℕ)
  pub is : r.image ≡ body.Vhd head slots

no_raw : (s : Site) (t : VolumeTable) (m : Known) (r : TreeRow) (u : List ℕ) → IsWellFormed (shape_in s t m) → In r m.rows → row_name r ≡ Vhd u → (n : Name) (k : ℕ) → r.image ≡ body.Raw n k → ⊥
unfolding shape_in table_length
no_raw s t m r u w there named n k is =
    some_entries s.geometry.entries w.geometry.entries_least
    (sym (ap (λ b. length (slots_of b)) is) ∙ (image_row s t m r w there).table ∙ ap (table_length (shape_in s t m)) named)

pub vhd_row : (s : Site) (t : VolumeTable) (m : Known) (r : TreeRow) (u : List ℕ) → IsOrderly s t m → In r m.rows → row_name r ≡ Vhd u → HasHead r
vhd_row s t m r u o there named = by r.image refl
  where
    by : (b : Body) → r.image ≡ b → HasHead r
    by (body.Raw n k) is = absurd (∥∥₁_elim o.well_formed (hlevel props) (λ w. no_raw s t m r u w there named n k is))
    by (body.Vhd head slots) is = record { head = head; slots = slots; is = is }

-- and one under a raw image's a raw one
pub record HasSize (r : TreeRow) : Type 0 where
  pub volume : Name
  pub sectors : ℕ
  pub is : r.image ≡ body.Raw volume sectors

no_vhd : (s : Site) (t : VolumeTable) (m : Known) (r : TreeRow) (u : List ℕ) → IsOrderly s t m → IsWellFormed (shape_in s t m) → In r m.rows → row_name r ≡ Raw u → (h : Head) (k : List (Option ℕ)) → r.image ≡ body.Vhd h k → ⊥
unfolding shape_in table_length
no_vhd s t m r u o w there named h k is =
    let long : length k ≡ s.geometry.entries = (subst (λ b. StandsIn s.geometry (r.extents * s.geometry.extent) b) is (o.stands r there)).entries in
    some_entries s.geometry.entries w.geometry.entries_least
    (sym (sym (ap (λ b. length (slots_of b)) is) ∙ (image_row s t m r w there).table ∙ ap (table_length (shape_in s t m)) named) ∙ long)

pub raw_row : (s : Site) (t : VolumeTable) (m : Known) (r : TreeRow) (u : List ℕ) → IsOrderly s t m → In r m.rows → row_name r ≡ Raw u → HasSize r
raw_row s t m r u o there named = by r.image refl
  where
    by : (b : Body) → r.image ≡ b → HasSize r
    by (body.Raw n k) is = record { volume = n; sectors = k; is = is }
    by (body.Vhd head slots) is = absurd (∥∥₁_elim o.well_formed (hlevel props) (λ w. no_vhd s t m r u o w there named head slots is))

-- a row under another name than an image's is none
pub named_row : (s : Site) (t : VolumeTable) (m : Known) (r : TreeRow) → IsOrderly s t m → In r m.rows → is_image_name (row_name r) ≡ true
named_row s t m r o there = ∥∥₁_elim o.well_formed (hlevel props) (λ w. (image_row s t m r w there).named)

pub other_row : (s : Site) (t : VolumeTable) (m : Known) (n : Name) → IsOrderly s t m → is_image_name n ≡ false → tree_row m.rows n ≡ None
other_row s t m n o none = by (tree_row m.rows n) refl
  where
    by : (x : Option TreeRow) → tree_row m.rows n ≡ x → x ≡ None
    by None is = refl
    by (Some r) is = let w = In-tree_row m.rows n r is in absurd (true≢false (sym (named_row s t m r o w.0) ∙ ap is_image_name w.1 ∙ none))

-- ---- no image is being enlarged

making_journal : (n : Name) → is_making n ≡ true → is_entry n ≡ true
making_journal Mgt e = absurd (true≢false (sym e))
making_journal (Vhd u) e = absurd (true≢false (sym e))
making_journal (Raw u) e = absurd (true≢false (sym e))
making_journal (Old u) e = absurd (true≢false (sym e))
making_journal (Cbt u) e = absurd (true≢false (sym e))
making_journal (Clone d b w) e = refl
making_journal (Inflate u k) e = refl
making_journal (Coalesce v p) e = refl
making_journal (Relink v p) e = refl
making_journal (Leaf l p) e = refl

entry_folds : (o : Op) (n : Name) → In n (entry_of o) → is_making n ≡ true → ⊥
entry_folds op.Idle n i e = absurd i
entry_folds (op.Copy v p c) n (inl is) e = true≢false (sym e ∙ ap is_making is)
entry_folds (op.Copy v p c) n (inr i) e = absurd i
entry_folds (op.Relink v p) n (inl is) e = true≢false (sym e ∙ ap is_making is)
entry_folds (op.Relink v p) n (inr i) e = absurd i
entry_folds (op.Leaf v p c) n (inl is) e = true≢false (sym e ∙ ap is_making is)
entry_folds (op.Leaf v p c) n (inr i) e = absurd i
entry_folds (op.Live l p c dirty) n (inl is) e = true≢false (sym e ∙ ap is_making is)
entry_folds (op.Live l p c dirty) n (inr i) e = absurd i

pub none_of : (ns : List Name) → ((n : Name) → In n ns → ⊥) → ns ≡ []
none_of [] none = refl
none_of (n ∷ ns) none = absurd (none n (inl refl))

pub none_making : (s : Site) (t : VolumeTable) (m : Known) → IsOrderly s t m → making t ≡ []
none_making s t m o = none_of (making t) (λ n i.
    let w = In-filter is_making (names_of t.volumes) n i in
    entry_folds m.op n (subst (In n) o.entries (filter-In is_entry (names_of t.volumes) n w.0 (making_journal n w.1))) w.1)

pub whole : (s : Site) (t : VolumeTable) (m : Known) (n : Name) → IsOrderly s t m → IsAtSize t n
whole s t m n o = whole_none t n (none_making s t m o)
