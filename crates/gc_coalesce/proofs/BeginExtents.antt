-- The extents of the volumes where a copy begins: the entry's commit changes none, and the parent's volume gains those that are wanting.
use Rattle.std.proofs.Common.{◌≡◌, ◌-◌, ℕ, ◌≤◌, Bool, true, false, List, [], ◌++◌, length, take, Some, None, refl, sym, ap, ◌∙◌, subst, arith}
use Rattle.std.proofs.lemmas.List.{append-nil}
use Rattle.std.proofs.lemmas.Option.{same_Some}
use Rattle.sm_base.specs.declared.names.Name.{Name}
use Rattle.sm_base.specs.declared.names.Name.TheVariants.{Vhd}
use Rattle.vg_meta.specs.Changes.{applied, grown, made, put}
use Rattle.vg_meta.specs.Tables.{VolumeTable, extents_of, free as free_of, name_eq, row_of, rows}
use Rattle.vg_meta.specs.declared.changes.Change.TheVariants.{Create}
use Rattle.vg_meta.proofs.NameLaws.{name_eq-false, name_eq-true}
use Rattle.vg_meta.proofs.RowLaws.{row_of-put_other, row_of-put_same, row_of-with_row_other, row_of-with_row_same}
use Rattle.vg_extents.specs.Fits.{AreLeastFree}
use Rattle.vg_volumes.specs.Sites.{Site}
use Rattle.vhd_chain.specs.Trees.{row_name, tree_row}
use Rattle.vhd_chain.specs.declared.rows.TreeRow.{TreeRow}
use Rattle.sm_ready.specs.Known.{Known}
use Rattle.sm_ready.specs.Orderly.{IsOrderly}
use Rattle.sm_ready.proofs.Orders.{In-tree_row, named_row, rowed}
use Rattle.sm_ready.proofs.RowLaws.{image_named, volume_there}
use Rattle.sm_ready.proofs.TruthLaws.{row_found}
use Rattle.sm_space.specs.Inflating.{IsEnlarged}
use Rattle.gc_coalesce.specs.Beginning.{IsWidened, KeepsExtents}

-- an entry has none
pub extents_put : (t : VolumeTable) (e : Name) → rows t e ≡ None → KeepsExtents t (applied t (Create e false []))
extents_put t e none n = by (name_eq e n) refl
  where
    by : (b : Bool) → name_eq e n ≡ b → extents_of (row_of (put (made e false []) t.volumes) n) ≡ extents_of (rows t n)
    by true is = subst (λ x. extents_of (row_of (put (made e false []) t.volumes) x) ≡ extents_of (rows t x)) (name_eq-true e n is)
        (ap extents_of (row_of-put_same t.volumes (made e false []) none) ∙ sym (ap extents_of none))
    by false is = ap extents_of (row_of-put_other t.volumes (made e false []) n (name_eq-false e n is))

-- the table has as many of an image as memory knows
pub extents_known : (s : Site) (t : VolumeTable) (m : Known) (n : Name) (r : TreeRow) → IsOrderly s t m → tree_row m.rows n ≡ Some r → r.extents ≡ length (extents_of (rows t n))
extents_known s t m n r o found =
    let at = In-tree_row m.rows n r found in
    let image = image_named (row_name r) (named_row s t m r o at.0) in
    let v = volume_there s t m r o image (row_found s t m o r at.0) in
    let w = rowed s t m (row_name r) v.row o image v.there v.filled in
    let same : r ≡ w.row = same_Some r w.row (sym (row_found s t m o r at.0) ∙ w.found) in
    ap (λ (q : TreeRow). q.extents) same ∙ w.long ∙ sym (ap (λ x. length (extents_of x)) (ap (rows t) (sym at.1) ∙ v.there))

-- where none are wanting, none are gained
pub none_gained : (count : ℕ) (t : VolumeTable) (n : Name) (to : ℕ) (next : VolumeTable) → to ≤ length (extents_of (rows t n)) → KeepsExtents t next → IsWidened count t n to next
none_gained count t n to next most keeps =
    let none : to - length (extents_of (rows t n)) ≡ 0 = omega (arith, most) in
    record {
      more = [];
      least = record { least = sym (ap (λ k. take k (free_of count t)) none); many = sym none };
      extents = keeps n ∙ sym (append-nil (extents_of (rows t n)));
      others = λ x away. keeps x;
    }

-- where the volume of a VHD image was enlarged, it gained what was wanting
pub all_gained : (count : ℕ) (t : VolumeTable) (n : Name) (u : List ℕ) (to : ℕ) (mid next : VolumeTable) → n ≡ Vhd u → IsEnlarged count t u to mid → KeepsExtents mid next → IsWidened count t n to next
all_gained count t n u to mid next is e keeps = subst (λ x. IsWidened count t x to next) (sym is) (record {
  more = e.more;
  least = subst (λ r. AreLeastFree count (to - length (extents_of r)) t e.more) (sym e.there) e.least;
  extents = keeps (Vhd u) ∙ ap (λ rs. extents_of (row_of rs (Vhd u))) e.volumes ∙ ap extents_of (row_of-with_row_same t.volumes (Vhd u) (grown e.more) e.row (λ r. refl) e.there)
      ∙ ap (λ r. extents_of r ++ e.more) (sym e.there);
  others = λ x away. keeps x ∙ ap (λ rs. extents_of (row_of rs x)) e.volumes ∙ ap extents_of (row_of-with_row_other t.volumes (Vhd u) x (grown e.more) (λ r. refl) (λ same. away (sym same)));
})
